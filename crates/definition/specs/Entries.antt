-- Reading the log, a second time: what each kind of entry does, by the numbers of the action list and the codes of the trace. proofs/Entries.antt
-- shows that the rules of Log.antt agree. Assumes nothing.
use Rattle.std.specs.Prelude.{Option, None, Some, ℕ, suc, ◌≡◌, Bool, true, false, [], ◌∷◌}
use Rattle.notation.specs.Rows.{◌is◌}
use Rattle.request.specs.Requests.{retyped}
use Rattle.definition.specs.Types.{Settings, Outcome, Message, CapabilityResponse, Action, Contract, DataRole, Kind}
use Rattle.definition.specs.Types.{Port, PowerSource, Setting}
use Rattle.definition.specs.Paper.{one_of, class}
use Rattle.definition.specs.Log.{Entry, creation, outcome, re_entry, action, Log, empty, ◌▸◌, contract, hard_count, caps_count, data_role_of}
use Rattle.definition.specs.Log.{nothing, request, latest}
use Rattle.definition.specs.Log.{accepted, Supplied, feeds, feeding, names_contract, names_hard_count, names_caps_count, names_data_role, names_feeding}

-- "Codes: 1 Done, 2 Failed (a), 3 DpmFailed, 4 NoSafe, 5 message, 6 Lookup .., 7 evaluation .., 8 no or yes (a), 9 Event .., 10 timeout"
abbrev pub trace_code : Outcome → ℕ
trace_code Outcome.Done = 1
trace_code (Outcome.Failed e) = 2
trace_code Outcome.DpmFailed = 3
trace_code Outcome.NoSafe = 4
trace_code (Outcome.Message m) = 5
trace_code (Outcome.Lookup f) = 6
trace_code (Outcome.Evaluation v) = 7
trace_code (Outcome.YesNo b) = 8
trace_code (Outcome.Event e) = 9
trace_code (Outcome.Timeout t) = 10

-- An entry that is an action of this number
abbrev pub issues_number : ℕ → Entry → Bool
issues_number n (creation s) = false
issues_number n (outcome o) = false
issues_number n (re_entry t b) = false
issues_number n (action x) = x.number is n

-- "Contract: D at creation (Implicit if swapped); 1 directly followed by 3 sets D; action 9 sets TransitionToExplicit; its Done sets Explicit of
-- its request"
pub record ContractEntries (l : Log) (s : Settings) (e : Entry) (o : Outcome) (a b : Action) (q : PowerSource) (t c : ℕ) : Type 0 where
  pub at_creation : s.role_swapped ≡ false → contract (l ▸ creation s) ≡ Contract.Safe5V
  pub at_creation_swapped : s.role_swapped ≡ true → contract (l ▸ creation s) ≡ Contract.Implicit
  pub reset_then_vbus : a.number ≡ 1 → b.number ≡ 3 → contract (l ▸ action a ▸ action b) ≡ Contract.Safe5V
  pub supply : a.number ≡ 9 → contract (l ▸ action a) ≡ Contract.TransitionToExplicit
  pub supply_done : a.number ≡ 9 → a.request ≡ Some q → trace_code o ≡ 1 → contract (l ▸ action a ▸ outcome o) ≡ Contract.Explicit q
  -- Those are named, and "no other entry touches" it
  pub named_creation : names_contract l (creation s) ≡ true
  pub named_vbus : a.number ≡ 1 → b.number ≡ 3 → names_contract (l ▸ action a) (action b) ≡ true
  pub named_supply : a.number ≡ 9 → names_contract l (action a) ≡ true
  pub named_done : a.number ≡ 9 → trace_code o ≡ 1 → names_contract (l ▸ action a) (outcome o) ≡ true
  pub vbus_alone : b.number ≡ 3 → issues_number 1 e ≡ false → names_contract (l ▸ e) (action b) ≡ false
  pub other_actions : one_of (3 ∷ 9 ∷ []) b.number ≡ false → names_contract l (action b) ≡ false
  pub other_outcomes : trace_code o is 1 ≡ false → names_contract l (outcome o) ≡ false
  pub done_of_others : issues_number 9 e ≡ false → names_contract (l ▸ e) (outcome o) ≡ false
  pub re_entries : names_contract l (re_entry t c) ≡ false

-- "Hard count: the 13s since the last 4, Done, 5 in a row"
pub record HardEntries (l : Log) (s : Settings) (e : Entry) (o : Outcome) (a b : Action) (t c : ℕ) : Type 0 where
  pub at_first : hard_count empty ≡ 0
  pub signalled : a.number ≡ 13 → hard_count (l ▸ action a) ≡ suc (hard_count l)
  pub cleared : a.number ≡ 4 → trace_code o ≡ 1 → b.number ≡ 5 → hard_count (l ▸ action a ▸ outcome o ▸ action b) ≡ 0
  pub named_signalled : a.number ≡ 13 → names_hard_count l (action a) ≡ true
  pub named_cleared : a.number ≡ 4 → trace_code o ≡ 1 → b.number ≡ 5 → names_hard_count (l ▸ action a ▸ outcome o) (action b) ≡ true
  pub not_a_4 : b.number ≡ 5 → issues_number 4 e ≡ false → names_hard_count (l ▸ e ▸ outcome o) (action b) ≡ false
  pub not_done : b.number ≡ 5 → trace_code o is 1 ≡ false → names_hard_count (l ▸ outcome o) (action b) ≡ false
  pub not_in_a_row : b.number ≡ 5 → names_hard_count (l ▸ action a) (action b) ≡ false
  pub not_after_a_re_entry : b.number ≡ 5 → names_hard_count (l ▸ re_entry t c) (action b) ≡ false
  pub other_actions : one_of (5 ∷ 13 ∷ []) b.number ≡ false → names_hard_count l (action b) ≡ false
  pub outcomes : names_hard_count l (outcome o) ≡ false
  pub re_entries : names_hard_count l (re_entry t c) ≡ false
  pub creations : names_hard_count l (creation s) ≡ false

-- "Capabilities count: the 2.2s since the last 1 followed by 3 or 2.1"
pub record CapsEntries (l : Log) (s : Settings) (e : Entry) (o : Outcome) (a b : Action) (t c : ℕ) : Type 0 where
  pub at_first : caps_count empty ≡ 0
  pub timed : a.number ≡ 2 → a.argument ≡ 2 → caps_count (l ▸ action a) ≡ suc (caps_count l)
  pub reset_then_vbus : a.number ≡ 1 → b.number ≡ 3 → caps_count (l ▸ action a ▸ action b) ≡ 0
  pub reset_then_swap_timer : a.number ≡ 1 → b.number ≡ 2 → b.argument ≡ 1 → caps_count (l ▸ action a ▸ action b) ≡ 0
  pub named_timed : a.number ≡ 2 → a.argument ≡ 2 → names_caps_count l (action a) ≡ true
  pub named_vbus : a.number ≡ 1 → b.number ≡ 3 → names_caps_count (l ▸ action a) (action b) ≡ true
  pub named_swap_timer : a.number ≡ 1 → b.number ≡ 2 → b.argument ≡ 1 → names_caps_count (l ▸ action a) (action b) ≡ true
  pub vbus_alone : b.number ≡ 3 → issues_number 1 e ≡ false → names_caps_count (l ▸ e) (action b) ≡ false
  pub swap_timer_alone : b.number ≡ 2 → b.argument ≡ 1 → issues_number 1 e ≡ false → names_caps_count (l ▸ e) (action b) ≡ false
  pub other_timers : b.number ≡ 2 → one_of (1 ∷ 2 ∷ []) b.argument ≡ false → names_caps_count l (action b) ≡ false
  pub other_actions : one_of (2 ∷ 3 ∷ []) b.number ≡ false → names_caps_count l (action b) ≡ false
  pub outcomes : names_caps_count l (outcome o) ≡ false
  pub re_entries : names_caps_count l (re_entry t c) ≡ false
  pub creations : names_caps_count l (creation s) ≡ false

-- Document 02, order 4: the data role is "Dfp at creation", and each Done of a 28 sets its argument, 0 Ufp and 1 Dfp
pub record RoleEntries (l : Log) (s : Settings) (e : Entry) (o : Outcome) (a b : Action) (t c : ℕ) : Type 0 where
  pub at_first : data_role_of empty ≡ DataRole.Dfp
  pub at_creation : data_role_of (l ▸ creation s) ≡ DataRole.Dfp
  pub swapped_to_ufp : a.number ≡ 28 → a.argument ≡ 0 → trace_code o ≡ 1 → data_role_of (l ▸ action a ▸ outcome o) ≡ DataRole.Ufp
  pub swapped_to_dfp : a.number ≡ 28 → a.argument ≡ 1 → trace_code o ≡ 1 → data_role_of (l ▸ action a ▸ outcome o) ≡ DataRole.Dfp
  pub named_creation : names_data_role l (creation s) ≡ true
  pub named_swap : a.number ≡ 28 → one_of (0 ∷ 1 ∷ []) a.argument ≡ true → trace_code o ≡ 1 → names_data_role (l ▸ action a) (outcome o) ≡ true
  pub other_outcomes : trace_code o is 1 ≡ false → names_data_role l (outcome o) ≡ false
  pub done_of_others : issues_number 28 e ≡ false → names_data_role (l ▸ e) (outcome o) ≡ false
  pub actions : names_data_role l (action b) ≡ false
  pub re_entries : names_data_role l (re_entry t c) ≡ false
  -- "Demand 3's rules read the new actions as touching nothing"
  pub contract_untouched : one_of (27 ∷ 28 ∷ 29 ∷ []) b.number ≡ true → names_contract l (action b) ≡ false
  pub hard_count_untouched : one_of (27 ∷ 28 ∷ 29 ∷ []) b.number ≡ true → names_hard_count l (action b) ≡ false
  pub caps_count_untouched : one_of (27 ∷ 28 ∷ 29 ∷ []) b.number ≡ true → names_caps_count l (action b) ≡ false
  pub contract_untouched_by_their_outcomes : one_of (27 ∷ 28 ∷ 29 ∷ []) a.number ≡ true → names_contract (l ▸ action a) (outcome o) ≡ false

-- Document 02, order 6. Who feeds VCONN: "the creation value; Done of 14.0 or 14.1 outside TransitionToDefault; a protocol reset followed by 3 or 2.1". a is
-- the 14 and o its outcome, x the action before and n its outcome
pub record FeedingEntries (l : Log) (s : Settings) (e : Entry) (n o : Outcome) (x a b : Action) (p : Port) (v : Bool) (t c : ℕ) : Type 0 where
  pub at_creation : feeding (l ▸ creation s) ≡ feeds s.port s.port.vconn_source
  -- A swap's 14: it follows a message, or a Done of neither 2.3 nor 15
  pub turned_off : p.setting ≡ Setting.Standard → feeding l ≡ feeds p v → trace_code n is 1 ≡ false → a.number ≡ 14 → a.argument ≡ 0 → trace_code o ≡ 1
      → feeding (l ▸ outcome n ▸ action a ▸ outcome o) ≡ feeds p false
  pub turned_on : p.setting ≡ Setting.Standard → feeding l ≡ feeds p v → trace_code n is 1 ≡ false → a.number ≡ 14 → a.argument ≡ 1 → trace_code o ≡ 1
      → feeding (l ▸ outcome n ▸ action a ▸ outcome o) ≡ feeds p true
  pub named_after_a_message : trace_code n is 1 ≡ false → a.number ≡ 14 → one_of (0 ∷ 1 ∷ []) a.argument ≡ true → trace_code o ≡ 1
      → names_feeding (l ▸ outcome n ▸ action a) (outcome o) ≡ true
  pub named_after_accept : x.number ≡ 8 → a.number ≡ 14 → one_of (0 ∷ 1 ∷ []) a.argument ≡ true → trace_code o ≡ 1
      → names_feeding (l ▸ action x ▸ outcome n ▸ action a) (outcome o) ≡ true
  pub named_after_a_timer : x.number ≡ 2 → x.argument is 3 ≡ false → a.number ≡ 14 → one_of (0 ∷ 1 ∷ []) a.argument ≡ true → trace_code o ≡ 1
      → names_feeding (l ▸ action x ▸ outcome n ▸ action a) (outcome o) ≡ true
  -- TransitionToDefault's
  pub default_after_2_3 : x.number ≡ 2 → x.argument ≡ 3 → trace_code n ≡ 1 → a.number ≡ 14
      → names_feeding (l ▸ action x ▸ outcome n ▸ action a) (outcome o) ≡ false
  pub default_after_15 : x.number ≡ 15 → trace_code n ≡ 1 → a.number ≡ 14 → names_feeding (l ▸ action x ▸ outcome n ▸ action a) (outcome o) ≡ false
  -- Startup, of either kind
  pub reset_then_vbus : p.setting ≡ Setting.Standard → feeding l ≡ feeds p v → a.number ≡ 1 → b.number ≡ 3
      → feeding (l ▸ action a ▸ action b) ≡ feeds p p.vconn_source
  pub reset_then_swap_timer : p.setting ≡ Setting.Standard → feeding l ≡ feeds p v → a.number ≡ 1 → b.number ≡ 2 → b.argument ≡ 1
      → feeding (l ▸ action a ▸ action b) ≡ feeds p p.vconn_source
  pub named_vbus : a.number ≡ 1 → b.number ≡ 3 → names_feeding (l ▸ action a) (action b) ≡ true
  pub named_swap_timer : a.number ≡ 1 → b.number ≡ 2 → b.argument ≡ 1 → names_feeding (l ▸ action a) (action b) ≡ true
  pub vbus_alone : b.number ≡ 3 → issues_number 1 e ≡ false → names_feeding (l ▸ e) (action b) ≡ false
  pub swap_timer_alone : b.number ≡ 2 → b.argument ≡ 1 → issues_number 1 e ≡ false → names_feeding (l ▸ e) (action b) ≡ false
  -- "Under "crate" nothing changes"
  pub outcomes_under_crate : p.setting ≡ Setting.Crate → feeding l ≡ feeds p v → feeding (l ▸ outcome o) ≡ feeds p v
  pub actions_under_crate : p.setting ≡ Setting.Crate → feeding l ≡ feeds p v → feeding (l ▸ action a) ≡ feeds p v
  -- and no other entry touches it
  pub named_creation : names_feeding l (creation s) ≡ true
  pub other_outcomes : trace_code o is 1 ≡ false → names_feeding l (outcome o) ≡ false
  pub done_of_others : issues_number 14 e ≡ false → names_feeding (l ▸ e) (outcome o) ≡ false
  pub other_timers : b.number ≡ 2 → b.argument is 1 ≡ false → names_feeding l (action b) ≡ false
  pub other_actions : one_of (2 ∷ 3 ∷ []) b.number ≡ false → names_feeding l (action b) ≡ false
  pub re_entries : names_feeding l (re_entry t c) ≡ false
  -- nor do the entries that it names touch what demand 3 reads, but for a Startup's
  pub contract_untouched : a.number ≡ 14 → names_contract (l ▸ action a) (outcome o) ≡ false
  pub hard_count_untouched : names_hard_count l (outcome o) ≡ false
  pub caps_count_untouched : names_caps_count l (outcome o) ≡ false

-- "the sink's latest, Unknown retyped by its lookup": what is the latest request, and which one the last evaluation accepted
pub record RequestEntries (l : Log) (s : Settings) (e : Entry) (o : Outcome) (m : Message) (f : Option Kind) (a : Action) (q : PowerSource) (t c : ℕ) : Type 0 where
  pub none_at_first : latest empty ≡ nothing
  pub asked : latest (l ▸ outcome (Outcome.Message (Message.Request (Some q)))) ≡ request q
  pub asked_in_epr : latest (l ▸ outcome (Outcome.Message (Message.EprRequest (Some q)))) ≡ request q
  pub asked_badly : latest (l ▸ outcome (Outcome.Message (Message.Request None))) ≡ latest l
  pub asked_badly_in_epr : latest (l ▸ outcome (Outcome.Message (Message.EprRequest None))) ≡ latest l
  pub found : latest l ≡ request q → latest (l ▸ outcome (Outcome.Lookup f)) ≡ request (retyped q f)
  pub found_for_nothing : latest l ≡ nothing → latest (l ▸ outcome (Outcome.Lookup f)) ≡ nothing
  pub other_messages : one_of (0 ∷ 1 ∷ []) (class m) ≡ false → latest (l ▸ outcome (Outcome.Message m)) ≡ latest l
  pub other_outcomes : one_of (5 ∷ 6 ∷ []) (trace_code o) ≡ false → latest (l ▸ outcome o) ≡ latest l
  pub actions : latest (l ▸ action a) ≡ latest l
  pub re_entries : latest (l ▸ re_entry t c) ≡ latest l
  pub creations : latest (l ▸ creation s) ≡ latest l
  -- "and the last evaluation accepted it"
  pub none_accepted_at_first : accepted empty ≡ nothing
  pub accepted_it : accepted (l ▸ outcome (Outcome.Evaluation CapabilityResponse.Accept)) ≡ latest l
  pub rejected_it : accepted (l ▸ outcome (Outcome.Evaluation CapabilityResponse.Reject)) ≡ nothing
  pub told_to_wait : accepted (l ▸ outcome (Outcome.Evaluation CapabilityResponse.Wait)) ≡ nothing
  pub asked_anew : accepted (l ▸ outcome (Outcome.Message (Message.Request (Some q)))) ≡ nothing
  pub asked_anew_in_epr : accepted (l ▸ outcome (Outcome.Message (Message.EprRequest (Some q)))) ≡ nothing
  pub not_asked_anew : accepted (l ▸ outcome (Outcome.Message (Message.Request None))) ≡ accepted l
  pub not_asked_anew_in_epr : accepted (l ▸ outcome (Outcome.Message (Message.EprRequest None))) ≡ accepted l
  pub accepted_over_messages : one_of (0 ∷ 1 ∷ []) (class m) ≡ false → accepted (l ▸ outcome (Outcome.Message m)) ≡ accepted l
  pub accepted_over_outcomes : one_of (5 ∷ 7 ∷ []) (trace_code o) ≡ false → accepted (l ▸ outcome o) ≡ accepted l
  pub accepted_over_actions : accepted (l ▸ action a) ≡ accepted l
  pub accepted_over_re_entries : accepted (l ▸ re_entry t c) ≡ accepted l
  pub accepted_over_creations : accepted (l ▸ creation s) ≡ accepted l
  -- A supply moves to the latest request, which was accepted; and so did every one before
  pub supplied : Supplied (l ▸ action a) → a.number ≡ 9 → a.request ≡ Some q → (latest l ≡ request q) × (accepted l ≡ request q)
  pub supplied_before : Supplied (l ▸ e) → Supplied l
