-- Who feeds VCONN changes where document 02, order 6, says and nowhere else, under "crate" never, and on every run it is what the log reads. Assumes nothing.
use Prim.Native.Nat.{ℕ}
use mathlib.Core.Path.{◌≡◌, refl, ap, sym, ◌∙◌}
use mathlib.Core.Bool.{Bool, true, false, not, ◌&&◌, ◌||◌, true≢false}
use mathlib.Core.List.{List, [], ◌∷◌}
use lib.Dec.{eqb}
use Rattle.notation.specs.Rows.{◌⇒◌∣◌, ◌is◌}
use Rattle.definition.specs.Types.{Action, Call, CapabilityResponse, Created, DataRoleSwap, DefaultWait, Finish, Mode, Negotiation, Outcome, Place}
use Rattle.definition.specs.Types.{Port, PowerSource, Record, Setting, Settings, State, Step, SwapState, VcsState, VcsSwapSource}
use Rattle.definition.specs.Next.{Write, mode, data_role_to, vconn_source_to, Next, to, misfit, stop, finish, writing}
use Rattle.definition.specs.Outcomes.{when_driven}
use Rattle.definition.specs.Actions.{awaited, none, Issue, nothing, just, reset_then, places}
use Rattle.definition.specs.SourcePort.{evaluated, negotiation_awaits}
use Rattle.definition.specs.VconnSwap.{ended}
use Rattle.definition.specs.States.{await_of, standing, after}
use Rattle.definition.specs.Entering.{remembered, write, written, arrive, blank, begun, first_wait}
use Rattle.definition.specs.Refusals.{sound, bad_event, re_entry, allowed_target, changed, uncreatable}
use Rattle.definition.specs.Engine.{issues, tell, refuse, settle, resume, step, go_back, re_enter, take, create, created, not_created}
use Rattle.definition.specs.Paper.{awaits, waiting, refusal, starts_up, is_standard}
use Rattle.definition.specs.Entries.{trace_code}
use Rattle.definition.specs.Log as log
use Rattle.definition.specs.Log.{Entry, creation, outcome, action, Log, empty, ◌▸◌, acts, numbered, done, newest, swap_drives, noted, driven, restored}
use Rattle.definition.specs.Log.{Feeding, uncreated, feeds, feeding}
use Rattle.definition.specs.Runs as runs
use Rattle.definition.specs.Runs.{issued, Run, running, made, called, Calls, call, run}
use Rattle.definition.specs.Promised.{Promised}
use Rattle.definition.specs.Roles.{reports_done}
use Rattle.definition.specs.Feeding.{hard_resets, drove_vconn, vconn_after}
use Rattle.definition.proofs.Issued.{hands, by_hands, awaits_14, no_none}
use Rattle.definition.proofs.Refusals.{tell_no_refusal}
use Rattle.definition.proofs.Ways.{when_tried_leads, when_driven_leads, when_found_leads, when_evaluated_leads}
use Rattle.definition.proofs.Leading.{Leads, after_leads, allowed_leads}
use Rattle.definition.proofs.Fields.{arrive_fixed, arrived_started}
use Rattle.definition.proofs.Arriving.{Knows, Kept}
use Rattle.definition.proofs.Kept.{Holds}
use Rattle.definition.proofs.Runs.{entry, taken, the_run, every_run_of_the_engine}

beside_false : (b : Bool) → (b && false) ≡ false
beside_false true = refl
beside_false false = refl

-- What is written on the way
abbrev fed_by : Setting → List Write → Bool → Bool
fed_by g [] v = v
fed_by g (mode m ∷ ws) v = fed_by g ws v
fed_by g (data_role_to d ∷ ws) v = fed_by g ws v
fed_by g (vconn_source_to w ∷ ws) v = fed_by g ws (remembered g w v)

written_fed : (ws : List Write) (r : Record) → (written ws r).vconn_source ≡ fed_by r.port.setting ws r.vconn_source
written_fed [] r = refl
written_fed (mode m ∷ ws) r = written_fed ws (write (mode m) r)
written_fed (data_role_to d ∷ ws) r = written_fed ws (write (data_role_to d) r)
written_fed (vconn_source_to v ∷ ws) r = written_fed ws (write (vconn_source_to v) r)

written_port : (ws : List Write) (r : Record) → (written ws r).port ≡ r.port
written_port [] r = refl
written_port (mode m ∷ ws) r = written_port ws (write (mode m) r)
written_port (data_role_to d ∷ ws) r = written_port ws (write (data_role_to d) r)
written_port (vconn_source_to v ∷ ws) r = written_port ws (write (vconn_source_to v) r)

-- Under "crate" nothing
crate_unfed : (ws : List Write) (v : Bool) → fed_by Setting.Crate ws v ≡ v
crate_unfed [] v = refl
crate_unfed (mode m ∷ ws) v = crate_unfed ws v
crate_unfed (data_role_to d ∷ ws) v = crate_unfed ws v
crate_unfed (vconn_source_to w ∷ ws) v = crate_unfed ws v

-- An action other than 14 writes nothing of it
abbrev Unfed : Next → Type 0
Unfed (to ws p) = (g : Setting) (v : Bool) → fed_by g ws v ≡ v
Unfed misfit = Unit

unfed : (a : Action) (o : Outcome) (x : Next) → a.number is 14 ≡ false → Leads a o x → Unfed x
unfed a o (to [] p) n h = λ g v. refl
unfed a o (to (mode m ∷ ws) p) n h = absurd h
unfed a o (to (data_role_to d ∷ ws) p) n h = unfed a o (to ws p) n h.2
unfed a o (to (vconn_source_to w ∷ ws) p) n h = absurd (true≢false (sym h.0 ∙ n))
unfed a o misfit n h = tt

-- What a call issues that comes from this record to this place
abbrev issued_at : Record → List Write → Place → List Action
issued_at r ws p = (tell (arrive (written ws r) p)).actions

-- The log's newest entry is this action
abbrev Newest : Log → Action → Type 0
Newest l a = (test : Action → Bool) → newest (acts test) l ≡ test a

-- What the log's rule makes of an outcome that is a Done or not, under "standard"; of an action other than 14 nothing
abbrev ruled : Bool → Log → Bool → Bool
ruled d l v = d && swap_drives 0 l ⇒ false ∣ d && swap_drives 1 l ⇒ true ∣ v

undriven : (d v : Bool) (l : Log) (a : Action) → Newest l a → a.number is 14 ≡ false → ruled d l v ≡ v
undriven true v l a new n = rw (new (numbered 14 0), new (numbered 14 1), n) refl
undriven false v l a new n = refl

-- What an outcome of a state writes under "standard": by the numbers of the actions, and by the log, which is read before the outcome
record Feeds (r : Record) (s : State) (o : Outcome) (ws : List Write) (p : Place) : Type 0 where
  by_number : starts_up (issued_at r ws p) ≡ false → fed_by Setting.Standard ws r.vconn_source ≡
      ((awaited (standing r s).issues).number is 14 && (trace_code o is 1 && not (hard_resets (issued_at r ws p))) ⇒
      (awaited (standing r s).issues).argument is 1 ∣
      r.vconn_source)
  by_log : (l : Log) → Newest l (awaited (standing r s).issues) → Knows l (Place.Waiting s)
      → ruled (done (outcome o)) l r.vconn_source ≡ fed_by Setting.Standard ws r.vconn_source

abbrev FeedsNext : Record → State → Outcome → Next → Type 0
FeedsNext r s o (to ws p) = Feeds r s o ws p
FeedsNext r s o misfit = Unit

-- A state that does not await 14
other : (r : Record) (s : State) (o : Outcome) → eqb (hands s) 14 ≡ false → FeedsNext r s o (after r s o)
other r s o h = plainly (after r s o) (unfed _ o (after r s o) n (after_leads r.mode r.contract r.data_role r.vconn_source r.port s o))
  where
    n : (awaited (standing r s).issues).number is 14 ≡ false
    n = awaits_14 r.mode r.contract r.data_role r.vconn_source r.port s ∙ h

    plainly : (x : Next) → Unfed x → FeedsNext r s o x
    plainly (to ws p) u = record {
      by_number = λ e. rw n (u Setting.Standard r.vconn_source);
      by_log = λ l a k. undriven (done (outcome o)) r.vconn_source l (awaited (standing r s).issues) a n ∙ sym (u Setting.Standard r.vconn_source);
    }
    plainly misfit u = tt

-- The end of a swap that drove VCONN
turned_off : (r : Record) (by source : VcsSwapSource)
    → FeedsNext r (State.VconnSwap by VcsState.TurnOffVconn) Outcome.Done (writing (vconn_source_to false) (ended source))
unfolding await_of tell hard_resets starts_up
turned_off r by VcsSwapSource.Message = record { by_number = λ e. refl; by_log = λ l a k. rw (a (numbered 14 0), k) refl }
turned_off r by VcsSwapSource.Epr = record { by_number = λ e. refl; by_log = λ l a k. rw (a (numbered 14 0), k) refl }

forced_on : (r : Record) (by source : VcsSwapSource)
    → FeedsNext r (State.VconnSwap by VcsState.VcsForceVconn) Outcome.Done (writing (vconn_source_to true) (ended source))
unfolding await_of tell hard_resets starts_up
forced_on r by VcsSwapSource.Message = record { by_number = λ e. refl; by_log = λ l a k. rw (a (numbered 14 0), a (numbered 14 1), k) refl }
forced_on r by VcsSwapSource.Epr = record { by_number = λ e. refl; by_log = λ l a k. rw (a (numbered 14 0), a (numbered 14 1), k) refl }

-- A drive that fails writes nothing
undone : (r : Record) (s : State) (f : Finish) → FeedsNext r s Outcome.DpmFailed (finish f)
undone r s f = record { by_number = λ e. rw (beside_false ((awaited (standing r s).issues).number is 14)) refl; by_log = λ l a k. refl }

-- The drive of a state that awaits 14: what its Done writes is read, its failure writes nothing
driven_in : (r : Record) (s : State) (n : Next) (f : Finish) (o : Outcome) → FeedsNext r s Outcome.Done n → FeedsNext r s o (when_driven n f o)
driven_in r s n f o h = when_driven_leads (FeedsNext r s) (λ _. tt) n f h (undone r s f) o

-- Every state: the five that await 14, and the others
in_state : (r : Record) (s : State) (o : Outcome) → FeedsNext r s o (after r s o)
unfolding hands await_of tell hard_resets starts_up
in_state r s o = by_hands (λ s. FeedsNext r s o (after r s o)) (λ s k n. other r s o n) (other r (State.DrpSwap (SwapState.Data DataRoleSwap.Change)) o refl)
    (driven_in r (State.TransitionToDefault DefaultWait.VconnOff) _ _ o
    (record { by_number = λ e. refl; by_log = λ l a k. rw (a (numbered 14 0), a (numbered 14 1), k) refl }))
    (driven_in r (State.TransitionToDefault DefaultWait.VconnOn) _ _ o
    (record { by_number = λ e. absurd (true≢false e); by_log = λ l a k. rw (a (numbered 14 0), a (numbered 14 1), k) refl }))
    (λ source. driven_in r (State.VconnSwap source VcsState.TurnOffVconn) _ _ o (turned_off r source source))
    (λ source. driven_in r (State.VconnSwap source VcsState.TurnOnVconn) _ _ o
    (record { by_number = λ e. refl; by_log = λ l a k. rw (a (numbered 14 0), a (numbered 14 1), k) refl }))
    (λ source. driven_in r (State.VconnSwap source VcsState.VcsForceVconn) _ _ o (forced_on r source source)) s

-- While a request is negotiated nothing is written
evaluated_unfed : (q : PowerSource) (v : CapabilityResponse) → Unfed (evaluated q v)
evaluated_unfed q CapabilityResponse.Accept = λ g v. refl
evaluated_unfed q CapabilityResponse.Reject = λ g v. refl
evaluated_unfed q CapabilityResponse.Wait = λ g v. refl

negotiation_unfed : (w : Negotiation) (q : PowerSource) (o : Outcome) → Unfed ((negotiation_awaits w q).then o)
negotiation_unfed Negotiation.Lookup q o = when_found_leads (λ _. Unfed) (λ _. tt) _ (λ f g v. refl) o
negotiation_unfed Negotiation.Evaluate q o = when_evaluated_leads (λ _. Unfed) (λ _. tt) _ (evaluated_unfed q) o
negotiation_unfed Negotiation.Accept q o = when_tried_leads (λ _. Unfed) (λ _. tt) _ stop (λ g v. refl) (λ e g v. refl) o
negotiation_unfed Negotiation.Supply q o = when_driven_leads (λ _. Unfed) (λ _. tt) _ _ (λ g v. refl) (λ g v. refl) o
negotiation_unfed Negotiation.PsRdy q o = when_tried_leads (λ _. Unfed) (λ _. tt) _ stop (λ g v. refl) (λ e g v. refl) o

not_14 : (r : Record) (w : Negotiation) (q : PowerSource) → (awaited (issues r (Place.Negotiating w q))).number is 14 ≡ false
not_14 r Negotiation.Lookup q = refl
not_14 r Negotiation.Evaluate q = refl
not_14 r Negotiation.Accept q = refl
not_14 r Negotiation.Supply q = refl
not_14 r Negotiation.PsRdy q = refl

target_unfed : (handed : Bool) (t b : ℕ) → Unfed (allowed_target handed t b)
target_unfed handed t b = unfed none Outcome.Done (allowed_target handed t b) refl (allowed_leads none Outcome.Done refl handed t b)

-- A record that came to its place, by what it issues there
arrived_fed : (ws : List Write) (r : Record) (p : Place) → (arrive (written ws r) p).vconn_source ≡
    (starts_up (issued_at r ws p) ⇒ remembered r.port.setting r.port.vconn_source (fed_by r.port.setting ws r.vconn_source) ∣
    fed_by r.port.setting ws r.vconn_source)
arrived_fed ws r p =
    let starts : Bool = starts_up (issued_at r ws p) in
    (arrived_started (written ws r) p).feeding ∙
    (ap (λ q. starts ⇒ remembered q.setting q.vconn_source (written ws r).vconn_source ∣ (written ws r).vconn_source)
    ((arrive_fixed (written ws r) p).port ∙ written_port ws r) ∙
    ap (λ v. starts ⇒ remembered r.port.setting r.port.vconn_source v ∣ v) (written_fed ws r))

-- What is so after a call, of the awaited action a
abbrev FedAfter : Record → Action → Call → Step → Type 0
FedAfter r a c s = s.«record».vconn_source ≡
    (not (refusal s.answer is 0 && is_standard r.port.setting) ⇒ r.vconn_source ∣
    starts_up s.actions ⇒ r.port.vconn_source ∣
    a.number is 14 && (reports_done c && not (hard_resets s.actions)) ⇒ a.argument is 1 ∣
    r.vconn_source)

by_setting : (g : Setting) (starts b v x : Bool) (ws : List Write) → (starts ≡ false → fed_by Setting.Standard ws v ≡ x)
    → (starts ⇒ remembered g b (fed_by g ws v) ∣ fed_by g ws v) ≡ (not (is_standard g) ⇒ v ∣ starts ⇒ b ∣ x)
by_setting Setting.Crate true b v x ws h = crate_unfed ws v
by_setting Setting.Crate false b v x ws h = crate_unfed ws v
by_setting Setting.Standard true b v x ws h = refl
by_setting Setting.Standard false b v x ws h = h refl

settled : (n : ℕ) (r : Record) (a : Action) (c : Call) (ws : List Write) (p : Place)
    → (starts_up (issued_at r ws p) ≡ false → fed_by Setting.Standard ws r.vconn_source ≡
    (a.number is 14 && (reports_done c && not (hard_resets (issued_at r ws p))) ⇒ a.argument is 1 ∣ r.vconn_source))
    → FedAfter r a c (settle n r (to ws p))
unfolding tell
settled n r a c ws p h = rw (tell_no_refusal (arrive (written ws r) p))
    (arrived_fed ws r p ∙ by_setting r.port.setting (starts_up (issued_at r ws p)) r.port.vconn_source r.vconn_source _ ws h)

stepped : (r : Record) (s : State) (o : Outcome) (x : Next) → FeedsNext r s o x → FedAfter r (awaited (standing r s).issues) (Call.Outcome o) (settle 5 r x)
stepped r s o (to ws p) h = settled 5 r (awaited (standing r s).issues) (Call.Outcome o) ws p h.by_number
stepped r s o misfit h = refl

unless_bad : (b : Bool) (r : Record) (s : State) (o : Outcome) (x : Next) → FeedsNext r s o x → FeedsNext r s o (b ⇒ misfit ∣ x)
unless_bad true r s o x h = tt
unless_bad false r s o x h = h

negotiated : (r : Record) (a : Action) (o : Outcome) (x : Next) → a.number is 14 ≡ false → Unfed x → FedAfter r a (Call.Outcome o) (settle 5 r x)
negotiated r a o (to ws p) n h = settled 5 r a (Call.Outcome o) ws p (λ e. rw n (h Setting.Standard r.vconn_source))
negotiated r a o misfit n h = refl

resumed : (r : Record) (p : Place) (o : Outcome) → FedAfter r (awaited (issues r p)) (Call.Outcome o) (resume r p o)
resumed r (Place.Waiting s) o = stepped r s o (bad_event o ⇒ misfit ∣ after r s o) (unless_bad (bad_event o) r s o (after r s o) (in_state r s o))
resumed r (Place.Negotiating w q) o = negotiated r (awaited (negotiation_awaits w q).issues) o ((negotiation_awaits w q).then o) (not_14 r w q) (negotiation_unfed w q o)
resumed r (Place.Stopped e) o = refl
resumed r (Place.HandedOver h) o = refl
resumed r (Place.Finished f) o = refl

targeted : (r : Record) (a : Action) (t b : ℕ) (m : Mode) (x : Next) → Unfed x → FedAfter r a (Call.ReEntry t b) (settle 6 r (writing (mode m) x))
targeted r a t b m (to ws p) h = settled 6 r a (Call.ReEntry t b) (mode m ∷ ws) p
    (λ e. h Setting.Standard r.vconn_source ∙ rw (beside_false (a.number is 14)) refl)
targeted r a t b m misfit h = refl

gone_back : (r : Record) (a : Action) (p : Place) (t b : ℕ) → FedAfter r a (Call.ReEntry t b) (go_back r p t b)
unfolding re_entry
gone_back r a (Place.Waiting s) t b = refl
gone_back r a (Place.Negotiating w q) t b = refl
gone_back r a (Place.Stopped e) t b = targeted r a t b (changed b r.mode) (allowed_target false t b) (target_unfed false t b)
gone_back r a (Place.HandedOver h) t b = targeted r a t b (changed b r.mode) (allowed_target true t b) (target_unfed true t b)
gone_back r a (Place.Finished f) t b = refl

past_r1 : (b : Bool) (r : Record) (a : Action) (c : Call) (s : Step) → FedAfter r a c s → FedAfter r a c (b ⇒ s ∣ refuse 1 r)
past_r1 true r a c s h = h
past_r1 false r a c s h = refl

-- Of any record and any call
pub vconn_changes_exactly : (r : Record) (c : Call) → (take r c).«record».vconn_source ≡ vconn_after r c (take r c)
unfolding take step re_enter vconn_after
vconn_changes_exactly r (Call.Outcome o) = past_r1 (sound r) r (awaits r) (Call.Outcome o) (resume r r.place o) (resumed r r.place o)
vconn_changes_exactly r (Call.ReEntry t b) =
    past_r1 (sound r) r (awaits r) (Call.ReEntry t b) (go_back r r.place t b) (gone_back r (awaits r) r.place t b)

-- "Under "crate" nothing changes"
pub crate_never_changes : (r : Record) (c : Call) → r.port.setting ≡ Setting.Crate → (take r c).«record».vconn_source ≡ r.vconn_source
unfolding vconn_after
crate_never_changes r c g = vconn_changes_exactly r c ∙ (ap written_under g ∙ nothing (refusal (take r c).answer is 0))
  where
    else_written : Bool
    else_written = starts_up (take r c).actions ⇒ r.port.vconn_source ∣ drove_vconn r c (take r c) ⇒ (awaits r).argument is 1 ∣ r.vconn_source

    written_under : Setting → Bool
    written_under x = not (refusal (take r c).answer is 0 && is_standard x) ⇒ r.vconn_source ∣ else_written

    nothing : (b : Bool) → (not (b && false) ⇒ r.vconn_source ∣ else_written) ≡ r.vconn_source
    nothing true = refl
    nothing false = refl

-- The log: who feeds VCONN is what it reads
abbrev Read : Record → Log → Type 0
Read r l = feeding l ≡ feeds r.port r.vconn_source

abbrev ReadRun : Run → Type 0
ReadRun runs.nothing = Unit
ReadRun (running r l) = Read r l

-- What is noted is what is remembered
noted_remembered : (g : Setting) (new old : Bool) → noted g new old ≡ remembered g new old
noted_remembered Setting.Crate new old = refl
noted_remembered Setting.Standard new old = refl

noted_itself : (g : Setting) (v : Bool) → noted g v v ≡ v
noted_itself Setting.Crate v = refl
noted_itself Setting.Standard v = refl

noted_written : (g : Setting) (ws : List Write) (v : Bool) → noted g (fed_by Setting.Standard ws v) v ≡ fed_by g ws v
noted_written Setting.Crate ws v = sym (crate_unfed ws v)
noted_written Setting.Standard ws v = refl

read_driven : (p : Port) (v a b : Bool)
    → (a ⇒ driven false (feeds p v) ∣ b ⇒ driven true (feeds p v) ∣ feeds p v) ≡ feeds p (noted p.setting (a ⇒ false ∣ b ⇒ true ∣ v) v)
read_driven p v true b = refl
read_driven p v false true = refl
read_driven p v false false = rw (noted_itself p.setting v) refl

-- The actions of a call that came to its place: a protocol reset followed by 3 or 2.1 restores
issues_read : (l : Log) (e : Entry) (i : Issue) → acts (λ x. x.number is 1) e ≡ false → eqb (awaited i).number 0 ≡ false
    → feeding (issued (l ▸ e) (places i)) ≡ (starts_up (places i) ⇒ restored (feeding (l ▸ e)) ∣ feeding (l ▸ e))
unfolding feeding starts_up
issues_read l e nothing n z = refl
issues_read l e (just a) n z = rw (z, n, beside_false (a.number is 3 || numbered 2 1 a)) refl
issues_read l e (reset_then a) n z = rw z refl

-- What a record that came to its place issues is none, or one action after a protocol reset or not
told_read : (w : Record) (l : Log) (e : Entry) → acts (λ x. x.number is 1) e ≡ false
    → feeding (issued (l ▸ e) (tell w).actions) ≡ (starts_up (tell w).actions ⇒ restored (feeding (l ▸ e)) ∣ feeding (l ▸ e))
unfolding tell feeding starts_up
told_read w l e n = at_place w.place
  where
    at_place : (p : Place) → feeding (issued (l ▸ e) (places (issues w p))) ≡
        (starts_up (places (issues w p)) ⇒ restored (feeding (l ▸ e)) ∣ feeding (l ▸ e))
    at_place (Place.Waiting s) =
        issues_read l e (standing w s).issues n (no_none w.mode w.contract w.data_role w.vconn_source w.port s)
    at_place (Place.Negotiating x q) = issues_read l e (negotiation_awaits x q).issues n (some_action x q)
      where
        some_action : (x : Negotiation) (q : PowerSource) → eqb (awaited (negotiation_awaits x q).issues).number 0 ≡ false
        some_action Negotiation.Lookup q = refl
        some_action Negotiation.Evaluate q = refl
        some_action Negotiation.Accept q = refl
        some_action Negotiation.Supply q = refl
        some_action Negotiation.PsRdy q = refl
    at_place (Place.Stopped x) = refl
    at_place (Place.HandedOver x) = refl
    at_place (Place.Finished x) = refl

-- A call that leads on
went : (n : ℕ) (r : Record) (l : Log) (e : Entry) (ws : List Write) (p : Place) → acts (λ x. x.number is 1) e ≡ false
    → feeding (l ▸ e) ≡ feeds r.port (fed_by r.port.setting ws r.vconn_source) → ReadRun (called l e (settle n r (to ws p)))
unfolding tell
went n r l e ws p calm h =
    rw (
      tell_no_refusal (arrive (written ws r) p),
      told_read (arrive (written ws r) p) l e calm,
      h,
      (arrive_fixed (written ws r) p).port,
      written_port ws r,
      arrived_fed ws r p,
    ) (chosen (starts_up (issued_at r ws p)))
  where
    v : Bool
    v = fed_by r.port.setting ws r.vconn_source

    chosen : (b : Bool) → (b ⇒ feeds r.port (noted r.port.setting r.port.vconn_source v) ∣ feeds r.port v) ≡
        feeds r.port (b ⇒ remembered r.port.setting r.port.vconn_source v ∣ v)
    chosen true = rw (noted_remembered r.port.setting r.port.vconn_source v) refl
    chosen false = refl

-- Any outcome, on any record of a run
abbrev FedNext : Record → Log → Entry → Next → Type 0
FedNext r l e (to ws p) = feeding (l ▸ e) ≡ feeds r.port (fed_by r.port.setting ws r.vconn_source)
FedNext r l e misfit = Unit

went_on : (n : ℕ) (r : Record) (l : Log) (e : Entry) (x : Next) → eqb n 0 ≡ false → acts (λ y. y.number is 1) e ≡ false → Read r l → FedNext r l e x
    → ReadRun (called l e (settle n r x))
went_on n r l e (to ws p) z calm h f = went n r l e ws p calm f
went_on n r l e misfit z calm h f = rw z h

outcome_read : (r : Record) (l : Log) (o : Outcome) (ws : List Write) → Read r l
    → ruled (done (outcome o)) l r.vconn_source ≡ fed_by Setting.Standard ws r.vconn_source
    → feeding (l ▸ outcome o) ≡ feeds r.port (fed_by r.port.setting ws r.vconn_source)
unfolding feeding
outcome_read r l o ws h w =
    rw h (read_driven r.port r.vconn_source (done (outcome o) && swap_drives 0 l) (done (outcome o) && swap_drives 1 l) ∙
    (ap (λ x. feeds r.port (noted r.port.setting x r.vconn_source)) w ∙
    ap (feeds r.port) (noted_written r.port.setting ws r.vconn_source)))

state_read : (r : Record) (l : Log) (s : State) (o : Outcome) (x : Next) → Newest l (awaited (standing r s).issues) → Knows l (Place.Waiting s) → Read r l
    → FeedsNext r s o x → FedNext r l (outcome o) x
state_read r l s o (to ws p) a k h f = outcome_read r l o ws h (f.by_log l a k)
state_read r l s o misfit a k h f = tt

negotiation_read : (r : Record) (l : Log) (a : Action) (o : Outcome) (x : Next) → Newest l a → a.number is 14 ≡ false → Read r l → Unfed x
    → FedNext r l (outcome o) x
negotiation_read r l a o (to ws p) new n h u =
    outcome_read r l o ws h (undriven (done (outcome o)) r.vconn_source l a new n ∙ sym (u Setting.Standard r.vconn_source))
negotiation_read r l a o misfit new n h u = tt

resumed_read : (r : Record) (l : Log) (p : Place) (o : Outcome) → r.place ≡ p → Kept r l → Read r l → ReadRun (called l (outcome o) (resume r p o))
resumed_read r l (Place.Waiting s) o e k h = went_on 5 r l (outcome o) (bad_event o ⇒ misfit ∣ after r s o) refl refl h
    (state_read r l s o (bad_event o ⇒ misfit ∣ after r s o) (λ test. k.awaiting test ∙ ap (λ p. waiting p && test (awaited (issues r p))) e)
    (rw e at k.knows) h (unless_bad (bad_event o) r s o (after r s o) (in_state r s o)))
resumed_read r l (Place.Negotiating w q) o e k h = went_on 5 r l (outcome o) ((negotiation_awaits w q).then o) refl refl h
    (negotiation_read r l (awaited (negotiation_awaits w q).issues) o ((negotiation_awaits w q).then o) (λ test. k.awaiting test ∙ ap (λ p. waiting p && test (awaited (issues r p))) e)
    (not_14 r w q) h (negotiation_unfed w q o))
resumed_read r l (Place.Stopped x) o e k h = h
resumed_read r l (Place.HandedOver x) o e k h = h
resumed_read r l (Place.Finished x) o e k h = h

-- Re-entry
target_read : (r : Record) (l : Log) (t b : ℕ) (m : Mode) (x : Next) → Read r l → Unfed x → FedNext r l (log.re_entry t b) (writing (mode m) x)
unfolding feeding
target_read r l t b m (to ws p) h u = h ∙ ap (feeds r.port) (sym (u r.port.setting r.vconn_source))
target_read r l t b m misfit h u = tt

back_read : (r : Record) (l : Log) (p : Place) (t b : ℕ) → Read r l → ReadRun (called l (log.re_entry t b) (go_back r p t b))
unfolding re_entry
back_read r l (Place.Waiting s) t b h = h
back_read r l (Place.Negotiating w q) t b h = h
back_read r l (Place.Stopped x) t b h = went_on 6 r l (log.re_entry t b) (re_entry false r.mode t b) refl refl h
    (target_read r l t b (changed b r.mode) (allowed_target false t b) h (target_unfed false t b))
back_read r l (Place.HandedOver x) t b h = went_on 6 r l (log.re_entry t b) (re_entry true r.mode t b) refl refl h
    (target_read r l t b (changed b r.mode) (allowed_target true t b) h (target_unfed true t b))
back_read r l (Place.Finished x) t b h = h

unless_unsound : (b : Bool) (r : Record) (l : Log) (e : Entry) (s : Step) → Read r l → ReadRun (called l e s) → ReadRun (called l e (b ⇒ s ∣ refuse 1 r))
unless_unsound true r l e s h k = k
unless_unsound false r l e s h k = h

taken_read : (r : Record) (l : Log) (c : Call) → Kept r l → Read r l → ReadRun (called l (entry c) (take r c))
unfolding take step re_enter
taken_read r l (Call.Outcome o) k h = unless_unsound (sound r) r l (outcome o) _ h (resumed_read r l r.place o refl k h)
taken_read r l (Call.ReEntry t b) k h = unless_unsound (sound r) r l (log.re_entry t b) _ h (back_read r l r.place t b h)

call_read : (x : Run) (c : Call) → Holds x → ReadRun x → ReadRun (call create step re_enter x c)
call_read runs.nothing c k h = tt
call_read (running r l) c k h = rw (taken r l c) (taken_read r l c k h)

-- Creation
begun_read : (s : Settings) → Read (begun s) (issued (empty ▸ creation s) (tell (begun s)).actions)
unfolding tell feeding await_of
begun_read s = first s.role_swapped
  where
    first : (b : Bool) → Read (arrive (blank s) (Place.Waiting (State.Startup (first_wait b))))
        (issued (empty ▸ creation s) (tell (arrive (blank s) (Place.Waiting (State.Startup (first_wait b))))).actions)
    first true = rw (noted_remembered s.port.setting s.port.vconn_source s.port.vconn_source) refl
    first false = rw (noted_remembered s.port.setting s.port.vconn_source s.port.vconn_source) refl

create_read : (s : Settings) → ReadRun (made (issued (empty ▸ creation s) (create s).actions) (create s).«record»)
unfolding create tell
create_read s = chosen (uncreatable s)
  where
    chosen : (u : Bool) → ReadRun (made (issued (empty ▸ creation s) (u ⇒ not_created 7 ∣ created (tell (begun s))).actions)
        (u ⇒ not_created 7 ∣ created (tell (begun s))).«record»)
    chosen true = tt
    chosen false = begun_read s

every_run_read : (cs : Calls) → ReadRun (run create step re_enter cs)
unfolding run
every_run_read (runs.create s h) = create_read s
every_run_read (runs.then cs c h) = call_read (run create step re_enter cs) c (every_run_of_the_engine cs) (every_run_read cs)

-- Under "crate" the log reads the creation value
abbrev AsCreated : Feeding → Type 0
AsCreated uncreated = Unit
AsCreated (feeds p v) = p.setting ≡ Setting.Crate → v ≡ p.vconn_source

driven_as_created : (w : Bool) (f : Feeding) → AsCreated f → AsCreated (driven w f)
driven_as_created w uncreated h = tt
driven_as_created w (feeds p v) h = λ g. rw g (h g)

restored_as_created : (f : Feeding) → AsCreated f → AsCreated (restored f)
restored_as_created uncreated h = tt
restored_as_created (feeds p v) h = λ g. rw g (h g)

of_either : (b : Bool) (x y : Feeding) → AsCreated x → AsCreated y → AsCreated (b ⇒ x ∣ y)
of_either true x y h k = h
of_either false x y h k = k

read_as_created : (l : Log) → AsCreated (feeding l)
unfolding feeding
read_as_created empty = tt
read_as_created (l ▸ creation s) = λ g. refl
read_as_created (l ▸ outcome o) =
    of_either (done (outcome o) && swap_drives 0 l) _ _ (driven_as_created false (feeding l) (read_as_created l))
    (of_either (done (outcome o) && swap_drives 1 l) _ _ (driven_as_created true (feeding l) (read_as_created l)) (read_as_created l))
read_as_created (l ▸ log.re_entry t b) = read_as_created l
read_as_created (l ▸ action x) =
    of_either ((x.number is 3 || numbered 2 1 x) && newest (acts (λ y. y.number is 1)) l) _ _ (restored_as_created (feeding l) (read_as_created l))
    (read_as_created l)

-- "the field equals, at each point of every run, the one read afresh from the log", and so does the port, for any three functions that keep the promises
module _ (creates : Settings → Created) (steps : Record → Outcome → Step) (re_enters : Record → ℕ → ℕ → Step) (keeps : Promised creates steps re_enters) where
  pub vconn_source_read_afresh : (cs : Calls) (r : Record) (l : Log) → run creates steps re_enters cs ≡ running r l
      → feeds r.port r.vconn_source ≡ feeding l
  vconn_source_read_afresh cs r l e = sym (rw (sym (the_run creates steps re_enters keeps cs) ∙ e) at (every_run_read cs))

  -- "under "crate" `vconn_source` never changes after creation"
  pub vconn_source_of_crate : (cs : Calls) (r : Record) (l : Log) → run creates steps re_enters cs ≡ running r l → r.port.setting ≡ Setting.Crate
      → r.vconn_source ≡ r.port.vconn_source
  vconn_source_of_crate cs r l e = rw (sym (vconn_source_read_afresh cs r l e)) at (read_as_created l)
