-- The attempts that remain: some number exactly where the numbers of the call say so, and on every run what the log says. Assumes nothing.
use Rattle.std.specs.Prelude.{Option, None, Some}
use Prim.Native.Nat.{ℕ}
use mathlib.Core.Path.{◌≡◌, refl, ap, sym, ◌∙◌}
use mathlib.Core.Bool.{Bool, true, false, ◌&&◌, true≢false, false≢true}
use mathlib.Core.List.{List, [], ◌∷◌}
use lib.Dec.{ltb}
use borrow.Author.Tests.{eqb-true}
use Rattle.notation.specs.Rows.{◌⇒◌∣◌, ◌is◌}
use Rattle.counters.specs.Counting.{increment}
use Rattle.definition.specs.Types.{Action, Answer, Call, CapabilityResponse, Created, Finish, Outcome, Place, PowerSource, Record}
use Rattle.definition.specs.Types.{Settings, State, Step, StartupWait, Exchange, DisabledWait, HardResetWait, Negotiation}
use Rattle.definition.specs.Next.{Write, Next, to, mode, misfit, stop, writing}
use Rattle.definition.specs.Actions.{none, Issue, nothing, just, reset_then, places}
use Rattle.definition.specs.SourcePort.{evaluated, negotiation_awaits}
use Rattle.definition.specs.States.{await_of, standing, after}
use Rattle.definition.specs.Entering.{written, discovering, resetting, reported, begun}
use Rattle.definition.specs.Refusals.{sound, bad_event, re_entry, allowed_target, changed, uncreatable}
use Rattle.definition.specs.Engine.{tell, come, with_remaining, refuse, settle, resume, step, go_back, re_enter, take, create, created, not_created}
use Rattle.definition.specs.Entries.{trace_code}
use Rattle.definition.specs.Paper.{refusal}
use Rattle.definition.specs.Held.{HeldRecord, HeldCall}
use Rattle.definition.specs.Promised.{Promised}
use Rattle.definition.specs.Log.{done, outcome, creation, action, Log, empty, ◌▸◌}
use Rattle.definition.specs.Runs as runs
use Rattle.definition.specs.Runs.{issue, issued, Run, running, made, called, Calls, call, run}
use Rattle.definition.specs.Attempts.{last, awaits, left, reports_dpm_failed, remaining_after, hard_limit_of, caps_limit_of, ReadAfresh}
use Rattle.definition.proofs.Said.{handover_said}
use Rattle.definition.proofs.Laws.{and_left}
use Rattle.definition.proofs.Refusals.{refused_step_keeps, refused_re_entry_keeps}
use Rattle.definition.proofs.Sound.{tried}
use Rattle.definition.proofs.Fields.{Fixed, settings_never_change, New, created_new}
use Rattle.definition.proofs.Arriving.{Kept}
use Rattle.definition.proofs.Kept.{Holds}
use Rattle.definition.proofs.Runs.{every_run, every_run_held, the_run, own_promises, entry, taken}
use Rattle.definition.proofs.Entries.{codes}
use Rattle.definition.proofs.Readings.{loud, state_quiet, quiet_issue, Quiet, quiet_tests, QuietAwait}
use Rattle.definition.proofs.Ways.{when_tried_leads, when_driven_leads, when_found_leads, when_evaluated_leads}
use Rattle.definition.proofs.Leading.{defaults, place_led, OfState, of_state, OfFinish, of_finish, Leads, after_leads, allowed_leads}

-- What is to be shown of a call that gave this step
Says : Call → Step → Type 0
Says c s = s.remaining ≡ remaining_after c s

-- What a place must know of the call that led there (dpm: whether it reports the DPM's failure): that never leads to HardReset, F.1 is always that, and no
-- call leads to the supply of Disabled
abbrev Reached : Bool → Place → Type 0
Reached dpm (Place.Waiting s) = OfState Unit (dpm ≡ false) ⊥ (λ b. Unit) Unit s
Reached dpm (Place.Negotiating w q) = Unit
Reached dpm (Place.Stopped e) = Unit
Reached dpm (Place.HandedOver h) = Unit
Reached dpm (Place.Finished f) = OfFinish (dpm ≡ true) f

-- A state whose action is quiet reports none
quiet_awaits : (i : Issue) → quiet_issue i ≡ true
    → (awaits 13 0 (places i) ≡ false) × (awaits 2 2 (places i) ≡ false) × (awaits 10 0 (places i) ≡ false)
unfolding quiet_issue
quiet_awaits nothing h = (refl, refl, refl)
quiet_awaits (just a) h = let q : Quiet a = quiet_tests a h in (rw q.not_13, rw q.not_22, rw q.not_10)
quiet_awaits (reset_then a) h =
    let q : Quiet a = quiet_tests a h in (rw (q.not_0, q.not_13), rw (q.not_0, q.not_22), rw (q.not_0, q.not_10))

quietly : (c : Call) (r : Record) (s : State) → loud s ≡ false → Says c (come r (Place.Waiting s))
unfolding Says remaining_after tell
quietly c r s q =
    let a : QuietAwait (standing r s) = state_quiet r.mode r.contract r.data_role r.vconn_source r.port s q in
    let i = quiet_awaits (standing r s).issues a.1 in
    rw (a.0, i.0, i.1, i.2)

-- HardReset and Discovery, by whether the count is below its limit
discovered : (c : Call) (r : Record) (t : Bool)
    → Says c (with_remaining (reported (tried r.caps_counter t)) (tell (discovering r (tried r.caps_counter t))))
unfolding Says remaining_after tell await_of
discovered c r true = refl
discovered c r false = refl

signalled : (c : Call) (r : Record) (t : Bool) → reports_dpm_failed c ≡ false
    → Says c (with_remaining (reported (tried r.hard_reset_counter t)) (tell (resetting r (tried r.hard_reset_counter t))))
unfolding Says remaining_after tell await_of
signalled c r true h = refl
signalled c r false h = rw h

-- A line a state
came : (c : Call) (r : Record) (s : State) → Reached (reports_dpm_failed c) (Place.Waiting s) → Says c (come r (Place.Waiting s))
unfolding Says remaining_after tell await_of increment loud
came c r (State.Startup StartupWait.SwapSourceStart) h = refl
came c r (State.Startup StartupWait.SwappedVbus) h = refl
came c r (State.Startup StartupWait.Vbus) h = refl
came c r State.Discovery h = discovered c r (ltb r.caps_counter.value r.caps_counter.max_value)
came c r (State.SendCapabilities Exchange.Transmit) h = refl
came c r (State.SendCapabilities Exchange.Receive) h = refl
came c r State.Ready h = refl
came c r (State.Disabled DisabledWait.Supply) h = absurd h
came c r (State.Disabled DisabledWait.Receive) h = refl
came c r (State.CapabilityResponse d) h = refl
came c r (State.HardReset HardResetWait.Signal) h = signalled c r (ltb r.hard_reset_counter.value r.hard_reset_counter.max_value) h
came c r (State.HardReset HardResetWait.Timer) h = refl
came c r State.HardResetReceived h = refl
came c r (State.TransitionToDefault w) h = quietly c r (State.TransitionToDefault w) refl
came c r (State.GetSinkCap w) h = quietly c r (State.GetSinkCap w) refl
came c r State.WaitNewCapabilities h = refl
came c r State.EprKeepAlive h = refl
came c r (State.GiveSourceCap asked) h = refl
came c r (State.SendSoftReset x) h = quietly c r (State.SendSoftReset x) refl
came c r State.SoftReset h = refl
came c r State.SendNotSupported h = refl
came c r State.NotSupportedReceived h = refl
came c r (State.DrpSwap x) h = quietly c r (State.DrpSwap x) refl
came c r (State.DrpGetSourceCap m w) h = quietly c r (State.DrpGetSourceCap m w) refl
came c r (State.DrpGiveSinkCap m w) h = quietly c r (State.DrpGiveSinkCap m w) refl
came c r (State.VconnSwap source x) h = quietly c r (State.VconnSwap source x) refl

arrived : (c : Call) (r : Record) (p : Place) → Reached (reports_dpm_failed c) p → Says c (come r p)
unfolding Says remaining_after tell
arrived c r (Place.Waiting s) h = came c r s h
arrived c r (Place.Negotiating Negotiation.Lookup q) h = refl
arrived c r (Place.Negotiating Negotiation.Evaluate q) h = refl
arrived c r (Place.Negotiating Negotiation.Accept q) h = refl
arrived c r (Place.Negotiating Negotiation.Supply q) h = refl
arrived c r (Place.Negotiating Negotiation.PsRdy q) h = refl
arrived c r (Place.Stopped e) h = refl
arrived c r (Place.HandedOver x) h = rw (handover_said x)
arrived c r (Place.Finished Finish.SwapToSink) h = refl
arrived c r (Place.Finished Finish.PortPartnerUnresponsive) h = rw h
arrived c r (Place.Finished Finish.ReconnectionRequired) h = refl
arrived c r (Place.Finished Finish.NoSafeRequest) h = refl

-- What an outcome or a target decides
abbrev Decided : Bool → Next → Type 0
Decided dpm (to w p) = Reached dpm p
Decided dpm misfit = Unit

settled : (c : Call) (n : ℕ) (r : Record) (x : Next) → Decided (reports_dpm_failed c) x → Says c (settle n r x)
unfolding Says remaining_after
settled c n r (to w p) h = arrived c (written w r) p h
settled c n r misfit h = refl

abbrev By : Outcome → Next → Type 0
By o = Decided (trace_code o is 3)

led : (a : Action) (o : Outcome) (x : Next) → Leads a o x → By o x
led a o (to ws (Place.Waiting s)) h =
    of_state {D = λ b. (done (outcome o) && defaults a) ≡ b} s (λ a. tt) (λ b. rw (sym (codes o)) b) (λ b. b) (λ b x. tt) (place_led a o ws _ h)
led a o (to ws (Place.Negotiating w q)) h = tt
led a o (to ws (Place.Stopped e)) h = tt
led a o (to ws (Place.HandedOver x)) h = tt
led a o (to ws (Place.Finished f)) h = of_finish f (λ a. rw (sym (codes o)) a) (place_led a o ws _ h)
led a o misfit h = tt

unless_bad : (dpm b : Bool) (x : Next) → Decided dpm x → Decided dpm (b ⇒ misfit ∣ x)
unless_bad dpm true x h = tt
unless_bad dpm false x h = h

-- While a request is negotiated
evaluated_decided : (dpm : Bool) (q : PowerSource) (v : CapabilityResponse) → Decided dpm (evaluated q v)
evaluated_decided dpm q CapabilityResponse.Accept = tt
evaluated_decided dpm q CapabilityResponse.Reject = tt
evaluated_decided dpm q CapabilityResponse.Wait = tt

negotiated : (w : Negotiation) (q : PowerSource) (o : Outcome) → By o ((negotiation_awaits w q).then o)
negotiated Negotiation.Lookup q o = when_found_leads By (λ _. tt) _ (λ f. tt) o
negotiated Negotiation.Evaluate q o = when_evaluated_leads By (λ _. tt) _ (λ v. evaluated_decided _ q v) o
negotiated Negotiation.Accept q o = when_tried_leads By (λ _. tt) _ stop tt (λ e. tt) o
negotiated Negotiation.Supply q o = when_driven_leads By (λ _. tt) _ _ tt refl o
negotiated Negotiation.PsRdy q o = when_tried_leads By (λ _. tt) _ stop tt (λ e. tt) o

resumed : (r : Record) (p : Place) (o : Outcome) → Says (Call.Outcome o) (resume r p o)
unfolding Says remaining_after
resumed r (Place.Waiting s) o = settled (Call.Outcome o) 5 r (bad_event o ⇒ misfit ∣ after r s o)
    (unless_bad _ (bad_event o) (after r s o) (led _ o (after r s o) (after_leads r.mode r.contract r.data_role r.vconn_source r.port s o)))
resumed r (Place.Negotiating w q) o = settled (Call.Outcome o) 5 r ((negotiation_awaits w q).then o) (negotiated w q o)
resumed r (Place.Stopped e) o = refl
resumed r (Place.HandedOver h) o = refl
resumed r (Place.Finished f) o = refl

-- A re-entry reports no failure, as a Done does not
writing_decided : (dpm : Bool) (w : Write) (x : Next) → Decided dpm x → Decided dpm (writing w x)
writing_decided dpm w (to v p) h = h
writing_decided dpm w misfit h = tt

targeted : (r : Record) (handed : Bool) (t b : ℕ) → Says (Call.ReEntry t b) (settle 6 r (re_entry handed r.mode t b))
unfolding re_entry
targeted r handed t b = settled (Call.ReEntry t b) 6 r (re_entry handed r.mode t b) (writing_decided false (mode (changed b r.mode))
    (allowed_target handed t b) (led none Outcome.Done (allowed_target handed t b) (allowed_leads none Outcome.Done refl handed t b)))

gone_back : (r : Record) (p : Place) (t b : ℕ) → Says (Call.ReEntry t b) (go_back r p t b)
unfolding Says remaining_after
gone_back r (Place.Waiting s) t b = refl
gone_back r (Place.Negotiating w q) t b = refl
gone_back r (Place.Stopped e) t b = targeted r false t b
gone_back r (Place.HandedOver h) t b = targeted r true t b
gone_back r (Place.Finished f) t b = refl

past_r1 : (b : Bool) (c : Call) (r : Record) (s : Step) → Says c s → Says c (b ⇒ s ∣ refuse 1 r)
unfolding Says remaining_after
past_r1 true c r s h = h
past_r1 false c r s h = refl

-- Some number exactly where HardReset or Discovery was entered, and which; refusals included
pub remaining_exactly : (r : Record) (c : Call) → (take r c).remaining ≡ remaining_after c (take r c)
unfolding Says take step re_enter
remaining_exactly r (Call.Outcome o) = past_r1 (sound r) (Call.Outcome o) r (resume r r.place o) (resumed r r.place o)
remaining_exactly r (Call.ReEntry t b) = past_r1 (sound r) (Call.ReEntry t b) r (go_back r r.place t b) (gone_back r r.place t b)

-- and a creation reports none, refused or not
pub creation_reports_none : (s : Settings) → (create s).remaining ≡ None
unfolding create tell
creation_reports_none s = chosen (uncreatable s)
  where
    chosen : (refused : Bool) → (refused ⇒ not_created 7 ∣ created (tell (begun s))).remaining ≡ None
    chosen true = refl
    chosen false = refl

-- The limits of a run are those of its creation
abbrev Limited : Record → Log → Type 0
Limited r l = (hard_limit_of l ≡ r.hard_reset_counter.max_value) × (caps_limit_of l ≡ r.caps_counter.max_value)

abbrev LimitedRun : Run → Type 0
LimitedRun runs.nothing = Unit
LimitedRun (running r l) = Limited r l

issue_limited : (r : Record) (l : Log) (a : Action) → Limited r l → Limited r (issue l a)
unfolding hard_limit_of caps_limit_of
issue_limited r l a h = chosen (a.number is 0)
  where
    chosen : (b : Bool) → Limited r (b ⇒ l ∣ l ▸ action a)
    chosen true = h
    chosen false = h

issued_limited : (r : Record) (l : Log) (xs : List Action) → Limited r l → Limited r (issued l xs)
issued_limited r l [] h = h
issued_limited r l (a ∷ rest) h = issued_limited r (issue l a) rest (issue_limited r l a h)

called_limited : (r : Record) (l : Log) (c : Call) → Limited r l → LimitedRun (called l (entry c) (take r c))
unfolding hard_limit_of caps_limit_of
called_limited r l c h = chosen (refusal (take r c).answer is 0)
  where
    same : Fixed r (take r c).«record»
    same = settings_never_change r c

    kept : Limited (take r c).«record» l
    kept = (h.0 ∙ sym same.hard_limit_of, h.1 ∙ sym same.caps_limit_of)

    entered : (c : Call) → Limited (take r c).«record» l → Limited (take r c).«record» (l ▸ entry c)
    entered (Call.Outcome o) k = k
    entered (Call.ReEntry t b) k = k

    chosen : (b : Bool) → LimitedRun (b ⇒ running (take r c).«record» (issued (l ▸ entry c) (take r c).actions) ∣ running (take r c).«record» l)
    chosen true = issued_limited (take r c).«record» (l ▸ entry c) (take r c).actions (entered c kept)
    chosen false = kept

made_limited : (s : Settings) (xs : List Action) (m : Option Record) → ((r : Record) → m ≡ Some r → New s r)
    → LimitedRun (made (issued (empty ▸ creation s) xs) m)
unfolding hard_limit_of caps_limit_of
made_limited s xs None new = tt
made_limited s xs (Some r) new = issued_limited r (empty ▸ creation s) xs
    (sym (ap (λ n. n.max_value) (new r refl).hard_count), sym (ap (λ n. n.max_value) (new r refl).caps_count))

call_limited : (x : Run) (c : Call) → LimitedRun x → LimitedRun (call create step re_enter x c)
call_limited runs.nothing c h = tt
call_limited (running r l) c h = rw (taken r l c) (called_limited r l c h)

pub limits_read_afresh : (cs : Calls) → LimitedRun (run create step re_enter cs)
unfolding run
limits_read_afresh (runs.create s h) = made_limited s (create s).actions (create s).«record» (created_new s)
limits_read_afresh (runs.then cs c h) = call_limited (run create step re_enter cs) c (limits_read_afresh cs)

-- A refused call awaits nothing
silent : (r : Record) (c : Call) (a : Answer) → (take r c).answer ≡ a → refusal a is 0 ≡ false → last (take r c).actions ≡ none
unfolding take
silent r c Answer.Waiting e h = absurd (true≢false h)
silent r c (Answer.Stopped x) e h = absurd (true≢false h)
silent r c (Answer.Finished f) e h = absurd (true≢false h)
silent r c (Answer.HandedOver x) e h = absurd (true≢false h)
silent r (Call.Outcome o) (Answer.Refused n) e h = rw (refused_step_keeps r o n e) refl
silent r (Call.ReEntry t b) (Answer.Refused n) e h = rw (refused_re_entry_keeps r t b n e) refl

-- The rows of remaining_after where the increment succeeded
first_row : (c : Call) (s : Step) → awaits 13 0 s.actions ≡ true → remaining_after c s ≡ left s.«record».hard_reset_counter
unfolding remaining_after
first_row c s h = rw h

second_row : (c : Call) (s : Step) → awaits 2 2 s.actions ≡ true → remaining_after c s ≡ left s.«record».caps_counter
unfolding remaining_after
second_row c s h = rw (no_signalling, h)
  where
    two : (last s.actions).number ≡ 2
    two = eqb-true (last s.actions).number 2 (and_left _ _ h)

    no_signalling : awaits 13 0 s.actions ≡ false
    no_signalling = ap (λ n. n is 13 && (last s.actions).argument is 0) two

-- What holds where a call is not refused
accepted : (b : Bool) (P : Run → Type 0) (x y : Run) → b ≡ true → P (b ⇒ x ∣ y) → P x
accepted true P x y h p = p
accepted false P x y h p = absurd (false≢true h)

read : (r : Record) (l : Log) (c : Call) → Holds (called l (entry c) (take r c)) → LimitedRun (called l (entry c) (take r c))
    → ReadAfresh (issued (l ▸ entry c) (take r c).actions) (take r c)
read r l c h k = chosen (refusal (take r c).answer is 0) refl
  where
    after : Run
    after = running (take r c).«record» (issued (l ▸ entry c) (take r c).actions)

    chosen : (b : Bool) → refusal (take r c).answer is 0 ≡ b → ReadAfresh (issued (l ▸ entry c) (take r c).actions) (take r c)
    chosen true e =
        let kept : Kept (take r c).«record» (issued (l ▸ entry c) (take r c).actions) = accepted _ Holds after _ e h in
        let limits : Limited (take r c).«record» (issued (l ▸ entry c) (take r c).actions) = accepted _ LimitedRun after _ e k in
        record {
          of_hard_resets = λ t. rw (limits.0, kept.hard_read) (remaining_exactly r c ∙ first_row c (take r c) t);
          of_capabilities = λ t. rw (limits.1, kept.caps_read) (remaining_exactly r c ∙ second_row c (take r c) t);
        }
    chosen false e =
        let nothing_awaited : last (take r c).actions ≡ none = silent r c (take r c).answer refl e in
        record {
          of_hard_resets = λ t. absurd (false≢true (rw nothing_awaited at t));
          of_capabilities = λ t. absurd (false≢true (rw nothing_awaited at t));
        }

-- "on every run it equals the limit minus the count read afresh from the log after that entry, where the increment succeeded"
module _ (creates : Settings → Created) (steps : Record → Outcome → Step) (re_enters : Record → ℕ → ℕ → Step) (keeps : Promised creates steps re_enters) where
  abbrev pub gives : Record → Call → Step
  gives r (Call.Outcome o) = steps r o
  gives r (Call.ReEntry t b) = re_enters r t b

  as_promised : (r : Record) (c : Call) → HeldRecord r → HeldCall c → gives r c ≡ take r c
  unfolding take
  as_promised r (Call.Outcome o) h k = keeps.on_step r o h k
  as_promised r (Call.ReEntry t b) h k = keeps.on_re_entry r t b h k.0 k.1

  pub remaining_read_afresh : (cs : Calls) (r : Record) (l : Log) → run creates steps re_enters cs ≡ running r l → (c : Call) → HeldCall c
      → ReadAfresh (issued (l ▸ entry c) (gives r c).actions) (gives r c)
  unfolding run
  remaining_read_afresh cs r l e c k =
      let held : HeldRecord r = rw e at (every_run_held creates steps re_enters keeps cs) in
      let own : run create step re_enter cs ≡ running r l = sym (the_run creates steps re_enters keeps cs) ∙ e in
      let holds : Holds (call create step re_enter (running r l) c) = rw own at (every_run create step re_enter own_promises (runs.then cs c k)) in
      let limits : LimitedRun (call create step re_enter (running r l) c) = rw own at (limits_read_afresh (runs.then cs c k)) in
      rw (as_promised r c held k) (read r l c (rw (taken r l c) at holds) (rw (taken r l c) at limits))
