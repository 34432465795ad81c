-- A call that is handed what the types hold gives what the types hold. Assumes nothing.
use Rattle.std.specs.Prelude.{Option, None, Some}
use Prim.Native.Nat.{ℕ, ◌+◌, ◌<◌}
use mathlib.Core.Path.{◌≡◌, refl}
use mathlib.Core.Bool.{Bool, true, false}
use mathlib.Core.List.{List, [], ◌∷◌}
use native.Mathlib.Omega.{arith}
use lib.Dec.{ltb}
use borrow.Author.Tests.{ltb-true}
use Rattle.notation.specs.Rows.{◌⇒◌∣◌}
use Rattle.counters.specs.Counting.{increment}
use Rattle.request.specs.Requests.{first, second, retyped}
use Rattle.definition.specs.Types.{Action, Call, CapabilityResponse, Contract, Counter, Event}
use Rattle.definition.specs.Types.{Finish, Kind, Handover}
use Rattle.definition.specs.Types.{Message}
use Rattle.definition.specs.Types.{Negotiation, Outcome, Place, PowerSource, Record, Settings, State, Step, Timeout}
use Rattle.definition.specs.Actions.{none}
use Rattle.definition.specs.Next.{Write, mode, data_role_to, vconn_source_to, Next, to, misfit, stop, writing}
use Rattle.definition.specs.Awaits.{Entrance, unwritten, startup, swapped_startup, count_capabilities, clear_hard_resets, count_hard_reset}
use Rattle.definition.specs.SourcePort.{evaluated, negotiation_awaits}
use Rattle.definition.specs.States.{standing, after}
use Rattle.definition.specs.Entering.{write, written, discovering, resetting, entered, negotiated, arrive, blank, begun, first_wait, first_contract}
use Rattle.definition.specs.Refusals.{sound, bad_event, allowed_target, changed, re_entry}
use Rattle.definition.specs.Engine.{tell, refuse, settle, resume, step, go_back, re_enter}
use Rattle.definition.specs.Log.{nothing, request, after_outcome}
use Rattle.definition.specs.Held.{Byte, HeldRequest, HeldContract, HeldPlace, HeldCounter, HeldRecord, HeldSettings, HeldMessage, HeldOutcome, HeldCall}
use Rattle.definition.proofs.Sound.{tried}
use Rattle.definition.proofs.Ways.{when_tried_leads, when_driven_leads, when_found_leads, when_evaluated_leads}
use Rattle.definition.proofs.Leading.{place_led, Leads, LeadsPlace, nothing_asked, after_leads, allowed_leads}

-- The request that was asked for is the one that the outcome holds
the_same : (p q : PowerSource) → request p ≡ request q → HeldRequest p → HeldRequest q
the_same p q h k = rw (inside h) at k
  where
    inside : request p ≡ request q → p ≡ q
    inside e = cc

asked_held : (o : Outcome) (q : PowerSource) → after_outcome o nothing ≡ request q → HeldOutcome o → HeldRequest q
asked_held Outcome.Done q h k = nothing_asked h
asked_held (Outcome.Failed e) q h k = nothing_asked h
asked_held Outcome.DpmFailed q h k = nothing_asked h
asked_held Outcome.NoSafe q h k = nothing_asked h
asked_held (Outcome.Message (Message.Request None)) q h k = nothing_asked h
asked_held (Outcome.Message (Message.Request (Some p))) q h k = the_same p q h k
asked_held (Outcome.Message (Message.EprRequest None)) q h k = nothing_asked h
asked_held (Outcome.Message (Message.EprRequest (Some p))) q h k = the_same p q h k
asked_held (Outcome.Message (Message.EprMode p)) q h k = nothing_asked h
asked_held (Outcome.Message (Message.Control t)) q h k = nothing_asked h
asked_held (Outcome.Message (Message.ExtendedControl p)) q h k = nothing_asked h
asked_held (Outcome.Message Message.Other) q h k = nothing_asked h
asked_held (Outcome.Message (Message.SinkCapabilities good)) q h k = nothing_asked h
asked_held (Outcome.Message (Message.EprSinkCapabilities good)) q h k = nothing_asked h
asked_held (Outcome.Lookup f) q h k = nothing_asked h
asked_held (Outcome.Evaluation v) q h k = nothing_asked h
asked_held (Outcome.YesNo b) q h k = nothing_asked h
asked_held (Outcome.Event e) q h k = nothing_asked h
asked_held (Outcome.Timeout t) q h k = nothing_asked h

-- What is decided leads to a place that the types hold
HeldNext : Next → Type 0
HeldNext (to v p) = HeldPlace p
HeldNext misfit = Unit

led_held : (a : Action) (o : Outcome) (p : Place) → HeldOutcome o → LeadsPlace a o p → HeldPlace p
led_held a o (Place.Waiting s) k h = tt
led_held a o (Place.Negotiating Negotiation.Lookup q) k h = asked_held o q h k
led_held a o (Place.Negotiating Negotiation.Evaluate q) k h = asked_held o q h k
led_held a o (Place.Negotiating Negotiation.Accept q) k h = absurd h
led_held a o (Place.Negotiating Negotiation.Supply q) k h = absurd h
led_held a o (Place.Negotiating Negotiation.PsRdy q) k h = absurd h
led_held a o (Place.Stopped e) k h = h k
led_held a o (Place.HandedOver x) k h = tt
led_held a o (Place.Finished x) k h = tt

leads_held : (a : Action) (o : Outcome) (x : Next) → HeldOutcome o → Leads a o x → HeldNext x
unfolding HeldNext
leads_held a o (to ws p) k h = led_held a o p k (place_led a o ws p h)
leads_held a o misfit k h = tt

-- While a request is negotiated
retyped_held : (q : PowerSource) (f : Option Kind) → HeldRequest q → HeldRequest (retyped q f)
retyped_held (PowerSource.FixedVariableSupply w) f h = h
retyped_held (PowerSource.Battery w) f h = h
retyped_held (PowerSource.Pps w) f h = h
retyped_held (PowerSource.Avs w) f h = h
retyped_held (PowerSource.Unknown w) None h = h
retyped_held (PowerSource.Unknown w) (Some Kind.FixedSupply) h = h
retyped_held (PowerSource.Unknown w) (Some Kind.VariableSupply) h = h
retyped_held (PowerSource.Unknown w) (Some Kind.Battery) h = h
retyped_held (PowerSource.Unknown w) (Some Kind.Pps) h = h
retyped_held (PowerSource.Unknown w) (Some Kind.Avs) h = h
retyped_held (PowerSource.EprRequest w) f h = h

evaluated_held : (q : PowerSource) (v : CapabilityResponse) → HeldRequest q → HeldNext (evaluated q v)
unfolding HeldNext
evaluated_held q CapabilityResponse.Accept h = h
evaluated_held q CapabilityResponse.Reject h = tt
evaluated_held q CapabilityResponse.Wait h = tt

Holding : Outcome → Next → Type 0
Holding o x = HeldOutcome o → HeldNext x

lost_held : (o : Outcome) → Holding o misfit
unfolding Holding HeldNext
lost_held o k = tt

negotiation_held : (w : Negotiation) (q : PowerSource) (o : Outcome) → HeldRequest q → Holding o ((negotiation_awaits w q).then o)
unfolding Holding HeldNext
negotiation_held Negotiation.Lookup q o h = when_found_leads Holding lost_held _ (λ f k. retyped_held q f h) o
negotiation_held Negotiation.Evaluate q o h = when_evaluated_leads Holding lost_held _ (λ v k. evaluated_held q v h) o
negotiation_held Negotiation.Accept q o h = when_tried_leads Holding lost_held _ stop (λ k. h) (λ e k. k) o
negotiation_held Negotiation.Supply q o h = when_driven_leads Holding lost_held _ _ (λ k. h) (λ k. tt) o
negotiation_held Negotiation.PsRdy q o h = when_tried_leads Holding lost_held _ stop (λ k. tt) (λ e k. k) o

-- Entering a place that the types hold gives a record that they hold: a count that was counted is at most its limit
more_held : (n : Counter) → ltb n.value n.max_value ≡ true → Byte n.max_value → Byte (n.value + 1)
more_held n t h = let lower : n.value < n.max_value = ltb-true _ _ t in omega arith

discovering_held : (r : Record) → HeldRecord r → (b : Bool) → ltb r.caps_counter.value r.caps_counter.max_value ≡ b
    → HeldRecord (discovering r (tried r.caps_counter b))
discovering_held r h true t = record {
  place = tt;
  contract = h.contract;
  hard = h.hard;
  caps = (more_held r.caps_counter t h.caps.1, h.caps.1);
}
discovering_held r h false t = record { place = tt; contract = h.contract; hard = h.hard; caps = h.caps }

resetting_held : (r : Record) → HeldRecord r → (b : Bool) → ltb r.hard_reset_counter.value r.hard_reset_counter.max_value ≡ b
    → HeldRecord (resetting r (tried r.hard_reset_counter b))
resetting_held r h true t = record {
  place = tt;
  contract = h.contract;
  hard = (more_held r.hard_reset_counter t h.hard.1, h.hard.1);
  caps = h.caps;
}
resetting_held r h false t = record { place = tt; contract = h.contract; hard = h.hard; caps = h.caps }

none_held : Byte 0
none_held = omega arith

entered_held : (e : Entrance) (r : Record) (s : State) → HeldRecord r → HeldRecord (entered e r s)
unfolding increment
entered_held startup r s h = record { place = tt; contract = tt; hard = h.hard; caps = (none_held, h.caps.1) }
entered_held swapped_startup r s h = record { place = tt; contract = h.contract; hard = h.hard; caps = (none_held, h.caps.1) }
entered_held count_capabilities r s h = discovering_held r h _ refl
entered_held clear_hard_resets r s h = record { place = tt; contract = h.contract; hard = (none_held, h.hard.1); caps = h.caps }
entered_held count_hard_reset r s h = resetting_held r h _ refl
entered_held unwritten r s h = record { place = tt; contract = h.contract; hard = h.hard; caps = h.caps }

negotiated_held : (r : Record) (w : Negotiation) (q : PowerSource) → HeldRecord r → HeldRequest q → HeldRecord (negotiated r w q)
negotiated_held r Negotiation.Lookup q h k = record { place = k; contract = h.contract; hard = h.hard; caps = h.caps }
negotiated_held r Negotiation.Evaluate q h k = record { place = k; contract = h.contract; hard = h.hard; caps = h.caps }
negotiated_held r Negotiation.Accept q h k = record { place = k; contract = h.contract; hard = h.hard; caps = h.caps }
negotiated_held r Negotiation.Supply q h k = record { place = k; contract = tt; hard = h.hard; caps = h.caps }
negotiated_held r Negotiation.PsRdy q h k = record { place = k; contract = k; hard = h.hard; caps = h.caps }

arrive_held : (r : Record) (p : Place) → HeldRecord r → HeldPlace p → HeldRecord (arrive r p)
arrive_held r (Place.Waiting s) h k = entered_held (standing r s).entrance r s h
arrive_held r (Place.Negotiating w q) h k = negotiated_held r w q h k
arrive_held r (Place.Stopped e) h k = record { place = k; contract = h.contract; hard = h.hard; caps = h.caps }
arrive_held r (Place.HandedOver x) h k = record { place = tt; contract = h.contract; hard = h.hard; caps = h.caps }
arrive_held r (Place.Finished x) h k = record { place = tt; contract = h.contract; hard = h.hard; caps = h.caps }

write_held : (w : Write) (r : Record) → HeldRecord r → HeldRecord (write w r)
write_held (mode m) r h = record { place = h.place; contract = h.contract; hard = h.hard; caps = h.caps }
write_held (data_role_to d) r h = record { place = h.place; contract = h.contract; hard = h.hard; caps = h.caps }
write_held (vconn_source_to v) r h = record { place = h.place; contract = h.contract; hard = h.hard; caps = h.caps }

written_held : (ws : List Write) (r : Record) → HeldRecord r → HeldRecord (written ws r)
written_held [] r h = h
written_held (w ∷ ws) r h = written_held ws (write w r) (write_held w r h)

settled_held : (n : ℕ) (r : Record) (x : Next) → HeldRecord r → HeldNext x → HeldRecord (settle n r x).«record»
unfolding tell HeldNext
settled_held n r (to w p) h k = arrive_held (written w r) p (written_held w r h) k
settled_held n r misfit h k = h

-- A step
unless_bad : (b : Bool) (x : Next) → HeldNext x → HeldNext (b ⇒ misfit ∣ x)
unfolding HeldNext
unless_bad true x h = tt
unless_bad false x h = h

resumed_held : (r : Record) (p : Place) (o : Outcome) → HeldRecord r → HeldPlace p → HeldOutcome o → HeldRecord (resume r p o).«record»
unfolding Holding
resumed_held r (Place.Waiting s) o h j k =
    settled_held 5 r (bad_event o ⇒ misfit ∣ after r s o) h
    (unless_bad (bad_event o) (after r s o) (leads_held _ o (after r s o) k (after_leads r.mode r.contract r.data_role r.vconn_source r.port s o)))
resumed_held r (Place.Negotiating w q) o h j k = settled_held 5 r ((negotiation_awaits w q).then o) h (negotiation_held w q o j k)
resumed_held r (Place.Stopped e) o h j k = h
resumed_held r (Place.HandedOver x) o h j k = h
resumed_held r (Place.Finished x) o h j k = h

past_r1 : (b : Bool) (r : Record) (x : Step) → HeldRecord r → HeldRecord x.«record» → HeldRecord (b ⇒ x ∣ refuse 1 r).«record»
past_r1 true r x h k = k
past_r1 false r x h k = h

pub step_held : (r : Record) (o : Outcome) → HeldRecord r → HeldOutcome o → HeldRecord (step r o).«record»
unfolding step
step_held r o h k = past_r1 (sound r) r (resume r r.place o) h (resumed_held r r.place o h h.place k)

-- A re-entry
writing_held : (w : Write) (x : Next) → HeldNext x → HeldNext (writing w x)
unfolding HeldNext
writing_held w (to v p) h = h
writing_held w misfit h = tt

re_entry_held_next : (handed : Bool) (r : Record) (t b : ℕ) → HeldNext (re_entry handed r.mode t b)
unfolding re_entry
re_entry_held_next handed r t b =
    writing_held (mode (changed b r.mode)) (allowed_target handed t b)
    (leads_held none Outcome.Done (allowed_target handed t b) tt (allowed_leads none Outcome.Done refl handed t b))

gone_back_held : (r : Record) (p : Place) (t b : ℕ) → HeldRecord r → HeldRecord (go_back r p t b).«record»
gone_back_held r (Place.Waiting s) t b h = h
gone_back_held r (Place.Negotiating w q) t b h = h
gone_back_held r (Place.Stopped e) t b h = settled_held 6 r (re_entry false r.mode t b) h (re_entry_held_next false r t b)
gone_back_held r (Place.HandedOver x) t b h = settled_held 6 r (re_entry true r.mode t b) h (re_entry_held_next true r t b)
gone_back_held r (Place.Finished x) t b h = h

pub re_entry_held : (r : Record) (t b : ℕ) → HeldRecord r → HeldRecord (re_enter r t b).«record»
unfolding re_enter
re_entry_held r t b h = past_r1 (sound r) r (go_back r r.place t b) h (gone_back_held r r.place t b h)

-- A new record
blank_held : (s : Settings) (swapped : Bool) → HeldContract (first_contract swapped)
blank_held s true = tt
blank_held s false = tt

pub begun_held : (s : Settings) → HeldSettings s → HeldRecord (begun s)
begun_held s h = arrive_held (blank s) (Place.Waiting (State.Startup (first_wait s.role_swapped))) (record {
  place = tt;
  contract = blank_held s s.role_swapped;
  hard = (none_held, h.0);
  caps = (none_held, h.1);
}) tt

-- What is held, number by number: codes and targets of 8 bits, mode changes of 16, words of 32, "limits from 1 to 255"
abbrev Exactly : Type 0 → Type 0 → Type 0
Exactly A B = (A → B) × (B → A)

pub record Sizes : Type 0 where
  pub failed : (e : ℕ) → Exactly (HeldOutcome (Outcome.Failed e)) (e < 256)
  pub asked : (q : PowerSource) → Exactly (HeldOutcome (Outcome.Message (Message.Request (Some q))))
      ((first q < 4294967296) × (second q < 4294967296))
  pub asked_in_epr : (q : PowerSource) → Exactly (HeldOutcome (Outcome.Message (Message.EprRequest (Some q))))
      ((first q < 4294967296) × (second q < 4294967296))
  pub epr_mode : (w : ℕ) → Exactly (HeldOutcome (Outcome.Message (Message.EprMode (Some w)))) (w < 4294967296)
  pub control : (t : ℕ) → Exactly (HeldOutcome (Outcome.Message (Message.Control t))) (t < 256)
  pub extended : (t : ℕ) → Exactly (HeldOutcome (Outcome.Message (Message.ExtendedControl (Some t)))) (t < 256)
  pub re_entry : (target change : ℕ) → Exactly (HeldCall (Call.ReEntry target change)) ((target < 256) × (change < 65536))
  pub outcome : (o : Outcome) → Exactly (HeldCall (Call.Outcome o)) (HeldOutcome o)
  pub settings : (s : Settings) → Exactly (HeldSettings s) ((s.hard_limit < 256) × (s.caps_limit < 256))
  pub counter : (n : Counter) → Exactly (HeldCounter n) ((n.value < 256) × (n.max_value < 256))
  pub stopped : (e : ℕ) → Exactly (HeldPlace (Place.Stopped e)) (e < 256)
  pub negotiating : (w : Negotiation) (q : PowerSource) → Exactly (HeldPlace (Place.Negotiating w q)) ((first q < 4294967296) × (second q < 4294967296))
  pub explicit : (q : PowerSource) → Exactly (HeldContract (Contract.Explicit q)) ((first q < 4294967296) × (second q < 4294967296))
  -- Nothing else has a number
  pub other_contracts : HeldContract Contract.Safe5V × HeldContract Contract.Implicit × HeldContract Contract.TransitionToExplicit ×
      HeldContract Contract.Invalid
  pub other_places : (s : State) (h : Handover) (f : Finish) → HeldPlace (Place.Waiting s) × HeldPlace (Place.HandedOver h) × HeldPlace (Place.Finished f)
  pub other_messages : (good : Bool) → HeldMessage (Message.Request None) × HeldMessage (Message.EprRequest None) ×
      HeldMessage (Message.EprMode None) × HeldMessage (Message.ExtendedControl None) × HeldMessage Message.Other ×
      HeldMessage (Message.SinkCapabilities good) × HeldMessage (Message.EprSinkCapabilities good)
  pub other_outcomes : (f : Option Kind) (v : CapabilityResponse) (b : Bool) (e : Event) (t : Timeout) → HeldOutcome Outcome.Done × HeldOutcome Outcome.DpmFailed ×
      HeldOutcome Outcome.NoSafe × HeldOutcome (Outcome.Lookup f) × HeldOutcome (Outcome.Evaluation v) × HeldOutcome (Outcome.YesNo b) ×
      HeldOutcome (Outcome.Event e) × HeldOutcome (Outcome.Timeout t)

itself : {A : Type 0} → Exactly A A
itself = (λ x. x, λ x. x)

pub sizes : Sizes
sizes = record {
  failed = λ e. itself;
  asked = λ q. itself;
  asked_in_epr = λ q. itself;
  epr_mode = λ w. itself;
  control = λ t. itself;
  extended = λ t. itself;
  re_entry = λ t b. itself;
  outcome = λ o. itself;
  settings = λ s. itself;
  counter = λ n. itself;
  stopped = λ e. itself;
  negotiating = λ w q. itself;
  explicit = λ q. itself;
  other_contracts = (tt, tt, tt, tt);
  other_places = λ s h f. (tt, tt, tt);
  other_messages = λ g. (tt, tt, tt, tt, tt, tt, tt);
  other_outcomes = λ f v b e t. (tt, tt, tt, tt, tt, tt, tt, tt);
}
