-- What no call changes, what Startup writes, and when the mode changes. Assumes nothing.
use Rattle.std.specs.Prelude.{Option, None, Some}
use Prim.Native.Nat.{ℕ}
use mathlib.Core.Path.{◌≡◌, refl, ap, sym, ◌∙◌}
use mathlib.Core.Bool.{Bool, true, false, false≢true}
use mathlib.Core.List.{List, [], ◌∷◌}
use lib.Dec.{ltb}
use Rattle.notation.specs.Rows.{◌⇒◌∣◌}
use Rattle.counters.specs.Counting.{increment}
use Rattle.definition.specs.Types.{Action, Call, CapabilityResponse, DataRole, DisabledWait, Exchange, HardResetWait, Mode, Negotiation}
use Rattle.definition.specs.Types.{Outcome, Place}
use Rattle.definition.specs.Types.{PowerSource, Record, Setting, Settings, StartupWait, State, Step}
use Rattle.definition.specs.Next.{Write, mode, data_role_to, vconn_source_to, Next, to, misfit, stop, writing}
use Rattle.definition.specs.Actions.{none, Issue, nothing, just, reset_then, places}
use Rattle.definition.specs.Awaits.{Entrance, unwritten, startup, swapped_startup, count_capabilities, clear_hard_resets, count_hard_reset}
use Rattle.definition.specs.SourcePort.{evaluated, negotiation_awaits}
use Rattle.definition.specs.States.{await_of, standing, after}
use Rattle.definition.specs.Entering.{remembered, write, written, discovering, resetting, entered, negotiated, arrive, blank, begun, first_wait}
use Rattle.definition.specs.Refusals.{sound, bad_event, re_entry, allowed_target, changed, uncreatable}
use Rattle.definition.specs.Engine.{tell, refuse, settle, resume, step, go_back, re_enter, take, create, created, not_created}
use Rattle.definition.specs.Paper.{starts_up, mode_after}
use Rattle.definition.proofs.Sound.{tried}
use Rattle.definition.proofs.Readings.{loud, state_quiet, quiet_issue, quiet_apart, QuietAwait}
use Rattle.definition.proofs.Refusals.{tell_no_refusal}
use Rattle.definition.proofs.Leading.{Leads, after_leads, allowed_leads}
use Rattle.definition.proofs.Ways.{when_tried_leads, when_driven_leads, when_found_leads, when_evaluated_leads}

-- Neither a port, the creation value of `vconn_source` in it, nor a limit is ever written
pub record Fixed (r s : Record) : Type 0 where
  pub port : s.port ≡ r.port
  pub hard_limit_of : s.hard_reset_counter.max_value ≡ r.hard_reset_counter.max_value
  pub caps_limit_of : s.caps_counter.max_value ≡ r.caps_counter.max_value

fixed : (r : Record) → Fixed r r
fixed r = record { port = refl; hard_limit_of = refl; caps_limit_of = refl }

then_fixed : {r s t : Record} → Fixed r s → Fixed s t → Fixed r t
then_fixed f g = record { port = g.port ∙ f.port; hard_limit_of = g.hard_limit_of ∙ f.hard_limit_of; caps_limit_of = g.caps_limit_of ∙ f.caps_limit_of }

discovering_fixed : (r : Record) (b : Bool) → Fixed r (discovering r (tried r.caps_counter b))
discovering_fixed r true = record { port = refl; hard_limit_of = refl; caps_limit_of = refl }
discovering_fixed r false = record { port = refl; hard_limit_of = refl; caps_limit_of = refl }

resetting_fixed : (r : Record) (b : Bool) → Fixed r (resetting r (tried r.hard_reset_counter b))
resetting_fixed r true = record { port = refl; hard_limit_of = refl; caps_limit_of = refl }
resetting_fixed r false = record { port = refl; hard_limit_of = refl; caps_limit_of = refl }

entered_fixed : (e : Entrance) (r : Record) (s : State) → Fixed r (entered e r s)
unfolding increment
entered_fixed startup r s = record { port = refl; hard_limit_of = refl; caps_limit_of = refl }
entered_fixed swapped_startup r s = record { port = refl; hard_limit_of = refl; caps_limit_of = refl }
entered_fixed count_capabilities r s = discovering_fixed r (ltb r.caps_counter.value r.caps_counter.max_value)
entered_fixed clear_hard_resets r s = record { port = refl; hard_limit_of = refl; caps_limit_of = refl }
entered_fixed count_hard_reset r s = resetting_fixed r (ltb r.hard_reset_counter.value r.hard_reset_counter.max_value)
entered_fixed unwritten r s = record { port = refl; hard_limit_of = refl; caps_limit_of = refl }

negotiated_fixed : (r : Record) (w : Negotiation) (q : PowerSource) → Fixed r (negotiated r w q)
negotiated_fixed r Negotiation.Lookup q = record { port = refl; hard_limit_of = refl; caps_limit_of = refl }
negotiated_fixed r Negotiation.Evaluate q = record { port = refl; hard_limit_of = refl; caps_limit_of = refl }
negotiated_fixed r Negotiation.Accept q = record { port = refl; hard_limit_of = refl; caps_limit_of = refl }
negotiated_fixed r Negotiation.Supply q = record { port = refl; hard_limit_of = refl; caps_limit_of = refl }
negotiated_fixed r Negotiation.PsRdy q = record { port = refl; hard_limit_of = refl; caps_limit_of = refl }

pub arrive_fixed : (r : Record) (p : Place) → Fixed r (arrive r p)
arrive_fixed r (Place.Waiting s) = entered_fixed (standing r s).entrance r s
arrive_fixed r (Place.Negotiating w q) = negotiated_fixed r w q
arrive_fixed r (Place.Stopped e) = record { port = refl; hard_limit_of = refl; caps_limit_of = refl }
arrive_fixed r (Place.HandedOver h) = record { port = refl; hard_limit_of = refl; caps_limit_of = refl }
arrive_fixed r (Place.Finished f) = record { port = refl; hard_limit_of = refl; caps_limit_of = refl }

write_fixed : (w : Write) (r : Record) → Fixed r (write w r)
write_fixed (mode m) r = record { port = refl; hard_limit_of = refl; caps_limit_of = refl }
write_fixed (data_role_to d) r = record { port = refl; hard_limit_of = refl; caps_limit_of = refl }
write_fixed (vconn_source_to v) r = record { port = refl; hard_limit_of = refl; caps_limit_of = refl }

written_fixed : (ws : List Write) (r : Record) → Fixed r (written ws r)
written_fixed [] r = fixed r
written_fixed (w ∷ ws) r = then_fixed (write_fixed w r) (written_fixed ws (write w r))

settled_fixed : (n : ℕ) (r : Record) (x : Next) → Fixed r (settle n r x).«record»
unfolding tell
settled_fixed n r (to ws p) = then_fixed (written_fixed ws r) (arrive_fixed (written ws r) p)
settled_fixed n r misfit = fixed r

resumed_fixed : (r : Record) (p : Place) (o : Outcome) → Fixed r (resume r p o).«record»
resumed_fixed r (Place.Waiting s) o = settled_fixed 5 r (bad_event o ⇒ misfit ∣ after r s o)
resumed_fixed r (Place.Negotiating w q) o = settled_fixed 5 r ((negotiation_awaits w q).then o)
resumed_fixed r (Place.Stopped e) o = fixed r
resumed_fixed r (Place.HandedOver h) o = fixed r
resumed_fixed r (Place.Finished f) o = fixed r

gone_back_fixed : (r : Record) (p : Place) (t b : ℕ) → Fixed r (go_back r p t b).«record»
gone_back_fixed r (Place.Waiting s) t b = fixed r
gone_back_fixed r (Place.Negotiating w q) t b = fixed r
gone_back_fixed r (Place.Stopped e) t b = settled_fixed 6 r (re_entry false r.mode t b)
gone_back_fixed r (Place.HandedOver h) t b = settled_fixed 6 r (re_entry true r.mode t b)
gone_back_fixed r (Place.Finished f) t b = fixed r

past_r1 : (s : Bool) (r : Record) (x y : Step) → Fixed r x.«record» → Fixed r y.«record» → Fixed r (s ⇒ x ∣ y).«record»
past_r1 true r x y p q = p
past_r1 false r x y p q = q

pub settings_never_change : (r : Record) (c : Call) → Fixed r (take r c).«record»
unfolding take step re_enter
settings_never_change r (Call.Outcome o) = past_r1 (sound r) r _ _ (resumed_fixed r r.place o) (fixed r)
settings_never_change r (Call.ReEntry t b) = past_r1 (sound r) r _ _ (gone_back_fixed r r.place t b) (fixed r)

-- A new record has what it was created with, no count, and is in SPR mode
pub record New (s : Settings) (r : Record) : Type 0 where
  pub port : r.port ≡ s.port
  pub hard_count : r.hard_reset_counter ≡ record { value = 0; max_value = s.hard_limit }
  pub caps_count : r.caps_counter ≡ record { value = 0; max_value = s.caps_limit }
  pub in_spr : r.mode ≡ Mode.Spr
  pub as_dfp : r.data_role ≡ DataRole.Dfp
  pub as_created : r.vconn_source ≡ s.port.vconn_source

-- What is restored is what was there
pub kept_twice : (g : Setting) (v : Bool) → remembered g v v ≡ v
kept_twice Setting.Crate v = refl
kept_twice Setting.Standard v = refl

restored : (s : Settings) → remembered s.port.setting s.port.vconn_source s.port.vconn_source ≡ s.port.vconn_source
restored s = kept_twice s.port.setting s.port.vconn_source

begun_new : (s : Settings) (swapped : Bool) → New s (arrive (blank s) (Place.Waiting (State.Startup (first_wait swapped))))
unfolding await_of
begun_new s true = record { port = refl; hard_count = refl; caps_count = refl; in_spr = refl; as_dfp = refl; as_created = restored s }
begun_new s false = record { port = refl; hard_count = refl; caps_count = refl; in_spr = refl; as_dfp = refl; as_created = restored s }

pub created_new : (s : Settings) (r : Record) → (create s).«record» ≡ Some r → New s r
unfolding create tell
created_new s r = made_new (uncreatable s)
  where
    the_record : Some (begun s) ≡ Some r → begun s ≡ r
    the_record e = cc

    is_made : Option Record → Bool
    is_made None = false
    is_made (Some x) = true

    made_new : (u : Bool) → (u ⇒ not_created 7 ∣ created (tell (begun s))).«record» ≡ Some r → New s r
    made_new true e = absurd (false≢true (ap is_made e))
    made_new false e = rw (sym (the_record e)) (begun_new s s.role_swapped)

-- The mode of a record that has come to its place, and whether it feeds VCONN, by what it then issues
pub record StartsUp (m : Mode) (v : Bool) (r : Record) : Type 0 where
  pub in_mode : r.mode ≡ (starts_up (tell r).actions ⇒ Mode.Spr ∣ m)
  pub feeding : r.vconn_source ≡ (starts_up (tell r).actions ⇒ remembered r.port.setting r.port.vconn_source v ∣ v)

stood : {A : Type 0} (x y : A) (i : Issue) → quiet_issue i ≡ true → x ≡ (starts_up (places i) ⇒ y ∣ x)
unfolding starts_up quiet_issue
stood x y nothing q = refl
stood x y (just a) q = refl
stood x y (reset_then a) q = rw ((quiet_apart a q).0, (quiet_apart a q).1)

quietly : (r : Record) (s : State) → loud s ≡ false → StartsUp r.mode r.vconn_source (arrive r (Place.Waiting s))
unfolding tell
quietly r s q =
    let a : QuietAwait (standing r s) = state_quiet r.mode r.contract r.data_role r.vconn_source r.port s q in
    rw a.0 (record { in_mode = stood _ _ (standing r s).issues a.1; feeding = stood _ _ (standing r s).issues a.1 })

discovered : (r : Record) (b : Bool) → StartsUp r.mode r.vconn_source (discovering r (tried r.caps_counter b))
unfolding tell starts_up await_of
discovered r true = record { in_mode = refl; feeding = refl }
discovered r false = record { in_mode = refl; feeding = refl }

signalled : (r : Record) (b : Bool) → StartsUp r.mode r.vconn_source (resetting r (tried r.hard_reset_counter b))
unfolding tell starts_up await_of
signalled r true = record { in_mode = refl; feeding = refl }
signalled r false = record { in_mode = refl; feeding = refl }

came_started : (r : Record) (s : State) → StartsUp r.mode r.vconn_source (arrive r (Place.Waiting s))
unfolding tell starts_up await_of increment loud
came_started r (State.Startup StartupWait.SwapSourceStart) = record { in_mode = refl; feeding = refl }
came_started r (State.Startup StartupWait.SwappedVbus) = record { in_mode = refl; feeding = refl }
came_started r (State.Startup StartupWait.Vbus) = record { in_mode = refl; feeding = refl }
came_started r State.Discovery = discovered r (ltb r.caps_counter.value r.caps_counter.max_value)
came_started r (State.SendCapabilities Exchange.Transmit) = record { in_mode = refl; feeding = refl }
came_started r (State.SendCapabilities Exchange.Receive) = record { in_mode = refl; feeding = refl }
came_started r (State.HardReset HardResetWait.Signal) = signalled r (ltb r.hard_reset_counter.value r.hard_reset_counter.max_value)
came_started r (State.HardReset HardResetWait.Timer) = record { in_mode = refl; feeding = refl }
came_started r State.Ready = record { in_mode = refl; feeding = refl }
came_started r (State.Disabled DisabledWait.Supply) = record { in_mode = refl; feeding = refl }
came_started r (State.Disabled DisabledWait.Receive) = record { in_mode = refl; feeding = refl }
came_started r (State.CapabilityResponse d) = quietly r (State.CapabilityResponse d) refl
came_started r State.HardResetReceived = record { in_mode = refl; feeding = refl }
came_started r (State.TransitionToDefault w) = quietly r (State.TransitionToDefault w) refl
came_started r (State.GetSinkCap w) = quietly r (State.GetSinkCap w) refl
came_started r State.WaitNewCapabilities = record { in_mode = refl; feeding = refl }
came_started r State.EprKeepAlive = record { in_mode = refl; feeding = refl }
came_started r (State.GiveSourceCap asked) = record { in_mode = refl; feeding = refl }
came_started r (State.SendSoftReset x) = quietly r (State.SendSoftReset x) refl
came_started r State.SoftReset = record { in_mode = refl; feeding = refl }
came_started r State.SendNotSupported = record { in_mode = refl; feeding = refl }
came_started r State.NotSupportedReceived = record { in_mode = refl; feeding = refl }
came_started r (State.DrpSwap x) = quietly r (State.DrpSwap x) refl
came_started r (State.DrpGetSourceCap m w) = quietly r (State.DrpGetSourceCap m w) refl
came_started r (State.DrpGiveSinkCap m w) = quietly r (State.DrpGiveSinkCap m w) refl
came_started r (State.VconnSwap source x) = quietly r (State.VconnSwap source x) refl

pub arrived_started : (r : Record) (p : Place) → StartsUp r.mode r.vconn_source (arrive r p)
unfolding tell starts_up
arrived_started r (Place.Waiting s) = came_started r s
arrived_started r (Place.Negotiating Negotiation.Lookup q) = record { in_mode = refl; feeding = refl }
arrived_started r (Place.Negotiating Negotiation.Evaluate q) = record { in_mode = refl; feeding = refl }
arrived_started r (Place.Negotiating Negotiation.Accept q) = record { in_mode = refl; feeding = refl }
arrived_started r (Place.Negotiating Negotiation.Supply q) = record { in_mode = refl; feeding = refl }
arrived_started r (Place.Negotiating Negotiation.PsRdy q) = record { in_mode = refl; feeding = refl }
arrived_started r (Place.Stopped e) = record { in_mode = refl; feeding = refl }
arrived_started r (Place.HandedOver h) = record { in_mode = refl; feeding = refl }
arrived_started r (Place.Finished f) = record { in_mode = refl; feeding = refl }

-- A call that settles: an outcome writes no mode on the way, a re-entry the one that it asks for
abbrev mode_after_writes : List Write → Mode → Mode
mode_after_writes [] m = m
mode_after_writes (mode k ∷ ws) m = mode_after_writes ws k
mode_after_writes (data_role_to d ∷ ws) m = mode_after_writes ws m
mode_after_writes (vconn_source_to v ∷ ws) m = mode_after_writes ws m

written_mode : (ws : List Write) (r : Record) → (written ws r).mode ≡ mode_after_writes ws r.mode
written_mode [] r = refl
written_mode (mode m ∷ ws) r = written_mode ws (write (mode m) r)
written_mode (data_role_to d ∷ ws) r = written_mode ws (write (data_role_to d) r)
written_mode (vconn_source_to v ∷ ws) r = written_mode ws (write (vconn_source_to v) r)

settled_moded : (n : ℕ) (r : Record) (ws : List Write) (p : Place)
    → (settle n r (to ws p)).«record».mode ≡ (starts_up (settle n r (to ws p)).actions ⇒ Mode.Spr ∣ mode_after_writes ws r.mode)
unfolding tell
settled_moded n r ws p = rw (sym (written_mode ws r)) (arrived_started (written ws r) p).in_mode

-- What is to be shown of a call that gave this step
Exactly : Record → Call → Step → Type 0
Exactly r c s = s.«record».mode ≡ mode_after r.mode c s

-- An outcome writes no mode on the way
abbrev Straight : Next → Type 0
Straight (to ws p) = (m : Mode) → mode_after_writes ws m ≡ m
Straight misfit = Unit

leads_straight : (a : Action) (o : Outcome) (x : Next) → Leads a o x → Straight x
leads_straight a o (to [] p) g = λ m. refl
leads_straight a o (to (mode k ∷ ws) p) g = absurd g
leads_straight a o (to (data_role_to d ∷ ws) p) g = leads_straight a o (to ws p) g.2
leads_straight a o (to (vconn_source_to v ∷ ws) p) g = leads_straight a o (to ws p) g.3
leads_straight a o misfit g = tt

state_straight : (r : Record) (s : State) (o : Outcome) → Straight (after r s o)
state_straight r s o = leads_straight _ o (after r s o) (after_leads r.mode r.contract r.data_role r.vconn_source r.port s o)

unless_bad : (b : Bool) (x : Next) → Straight x → Straight (b ⇒ misfit ∣ x)
unless_bad true x h = tt
unless_bad false x h = h

evaluated_straight : (q : PowerSource) (v : CapabilityResponse) → Straight (evaluated q v)
evaluated_straight q CapabilityResponse.Accept = λ m. refl
evaluated_straight q CapabilityResponse.Reject = λ m. refl
evaluated_straight q CapabilityResponse.Wait = λ m. refl

negotiation_straight : (w : Negotiation) (q : PowerSource) (o : Outcome) → Straight ((negotiation_awaits w q).then o)
negotiation_straight Negotiation.Lookup q o = when_found_leads (λ _. Straight) (λ _. tt) _ (λ f m. refl) o
negotiation_straight Negotiation.Evaluate q o = when_evaluated_leads (λ _. Straight) (λ _. tt) _ (evaluated_straight q) o
negotiation_straight Negotiation.Accept q o = when_tried_leads (λ _. Straight) (λ _. tt) _ stop (λ m. refl) (λ e m. refl) o
negotiation_straight Negotiation.Supply q o = when_driven_leads (λ _. Straight) (λ _. tt) _ _ (λ m. refl) (λ m. refl) o
negotiation_straight Negotiation.PsRdy q o = when_tried_leads (λ _. Straight) (λ _. tt) _ stop (λ m. refl) (λ e m. refl) o

stepped_moded : (r : Record) (o : Outcome) (x : Next) → Straight x → Exactly r (Call.Outcome o) (settle 5 r x)
unfolding Exactly
stepped_moded r o (to ws p) g =
    rw (tell_no_refusal (arrive (written ws r) p))
    (settled_moded 5 r ws p ∙ ap (λ m. starts_up (settle 5 r (to ws p)).actions ⇒ Mode.Spr ∣ m) (g r.mode))
stepped_moded r o misfit g = refl

resumed_moded : (r : Record) (p : Place) (o : Outcome) → Exactly r (Call.Outcome o) (resume r p o)
unfolding Exactly
resumed_moded r (Place.Waiting s) o = stepped_moded r o (bad_event o ⇒ misfit ∣ after r s o) (unless_bad (bad_event o) (after r s o) (state_straight r s o))
resumed_moded r (Place.Negotiating w q) o = stepped_moded r o ((negotiation_awaits w q).then o) (negotiation_straight w q o)
resumed_moded r (Place.Stopped e) o = refl
resumed_moded r (Place.HandedOver h) o = refl
resumed_moded r (Place.Finished f) o = refl

targeted_moded : (r : Record) (t b : ℕ) (x : Next) → Straight x → Exactly r (Call.ReEntry t b) (settle 6 r (writing (mode (changed b r.mode)) x))
unfolding Exactly changed
targeted_moded r t b (to ws p) g =
    let k : Mode = changed b r.mode in
    rw (tell_no_refusal (arrive (written (mode k ∷ ws) r) p))
    (settled_moded 6 r (mode k ∷ ws) p ∙ ap (λ m. starts_up (settle 6 r (to (mode k ∷ ws) p)).actions ⇒ Mode.Spr ∣ m) (g k))
targeted_moded r t b misfit g = refl

target_straight : (handed : Bool) (t b : ℕ) → Straight (allowed_target handed t b)
target_straight handed t b = leads_straight none Outcome.Done (allowed_target handed t b) (allowed_leads none Outcome.Done refl handed t b)

gone_back_moded : (r : Record) (p : Place) (t b : ℕ) → Exactly r (Call.ReEntry t b) (go_back r p t b)
unfolding Exactly re_entry
gone_back_moded r (Place.Waiting s) t b = refl
gone_back_moded r (Place.Negotiating w q) t b = refl
gone_back_moded r (Place.Stopped e) t b = targeted_moded r t b (allowed_target false t b) (target_straight false t b)
gone_back_moded r (Place.HandedOver h) t b = targeted_moded r t b (allowed_target true t b) (target_straight true t b)
gone_back_moded r (Place.Finished f) t b = refl

-- "Startup .. both set SPR", and a re-entry's mode change; no other call, and no refused one, changes the mode
unless_unsound : (b : Bool) (r : Record) (c : Call) (x : Step) → Exactly r c x → Exactly r c (b ⇒ x ∣ refuse 1 r)
unfolding Exactly
unless_unsound true r c x h = h
unless_unsound false r c x h = refl

pub mode_changes_exactly : (r : Record) (c : Call) → (take r c).«record».mode ≡ mode_after r.mode c (take r c)
unfolding take step re_enter Exactly
mode_changes_exactly r (Call.Outcome o) = unless_unsound (sound r) r (Call.Outcome o) _ (resumed_moded r r.place o)
mode_changes_exactly r (Call.ReEntry t b) = unless_unsound (sound r) r (Call.ReEntry t b) _ (gone_back_moded r r.place t b)
