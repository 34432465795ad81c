-- Where a state leads, and what it takes there from the outcome: only SendCapabilities leads to the await of a request, after a 4 that is done;
-- a request that is negotiated is the one that was asked for; an error is the one that was reported; F.1 is the DPM's failure, which never leads to
-- HardReset; no state leads to the supply of Disabled, to which a Discovery comes; no mode is written on the way. Assumes nothing.
use Rattle.std.specs.Prelude.{None, Some}
use Prim.Native.Nat.{ℕ}
use mathlib.Core.Path.{◌≡◌, refl, ap, ◌∙◌}
use mathlib.Core.Bool.{Bool, true, false, ◌&&◌, ◌||◌, false≢true}
use mathlib.Core.List.{List, [], ◌∷◌}
use native.Mathlib.Omega.{arith}
use lib.Dec.{eqb}
use Rattle.notation.specs.Rows.{◌is◌}
use Rattle.definition.specs.Types.{Action, Outcome, Message, Event, Timeout, Contract}
use Rattle.definition.specs.Types.{DataRole, Mode, Port, Place, State}
use Rattle.definition.specs.Types.{StartupWait, Exchange, DisabledWait, Denial, HardResetWait, DefaultWait, SinkCapWait, GetWait, GiveWait}
use Rattle.definition.specs.Types.{SwapState, DataRoleSwap, FastPowerRoleSwap, VcsState, VcsSwapSource, Negotiation, PowerSource, Finish}
use Rattle.definition.specs.Next.{Write, mode, data_role_to, vconn_source_to, Next, to, misfit, stop, negotiate, writing}
use Rattle.definition.specs.Outcomes.{code, when_done, when_sent, when_driven, when_control, only, swap_failed}
use Rattle.definition.specs.Actions.{awaited, none, pps, swap_data_role}
use Rattle.definition.specs.Messages.{dispatched, epr_mode, epr_action, control, extended_control, extended_type}
use Rattle.definition.specs.SourcePort
use Rattle.definition.specs.DualRole.{get_failed, role_answer_type, role_answer}
use Rattle.definition.specs.VconnSwap.{ended, swapping, swap_type, swap_answer}
use Rattle.definition.specs.States.{await_of}
use Rattle.definition.specs.Refusals.{target, change_allowed, allowed_target, changed, re_entry}
use Rattle.definition.specs.Log.{outcome, Log, ◌▸◌, numbered, acts, number, done, newest, newest_two, defaulting, contract}
use Rattle.definition.specs.Log.{Latest, nothing, request, latest, accepted, after_outcome}
use Rattle.definition.specs.Held.{Byte, HeldOutcome}
use Rattle.definition.proofs.Ways.{by_choice, by_mode, when_done_leads, when_tried_leads, when_driven_leads, when_safe_leads, when_heard_leads}
use Rattle.definition.proofs.Ways.{when_ready_leads, when_woken_leads, when_asked_leads, only_leads}

-- What is asked of some states: A of the await of a request, B of HardReset, C of the supply of Disabled, D of those that drive VCONN, TransitionToDefault's
-- or a swap's, E of those that TransitionToDefault leads to from there; nothing of every other
abbrev pub OfState : Type 0 → Type 0 → Type 0 → (Bool → Type 0) → Type 0 → State → Type 0
OfState A B C D E (State.Startup w) = E
OfState A B C D E State.Discovery = Unit
OfState A B C D E (State.SendCapabilities Exchange.Transmit) = Unit
OfState A B C D E (State.SendCapabilities Exchange.Receive) = A
OfState A B C D E State.Ready = Unit
OfState A B C D E (State.Disabled DisabledWait.Supply) = C
OfState A B C D E (State.Disabled DisabledWait.Receive) = Unit
OfState A B C D E (State.CapabilityResponse d) = Unit
OfState A B C D E (State.HardReset HardResetWait.Signal) = B
OfState A B C D E (State.HardReset HardResetWait.Timer) = Unit
OfState A B C D E State.HardResetReceived = Unit
OfState A B C D E (State.TransitionToDefault DefaultWait.VconnOff) = D true
OfState A B C D E (State.TransitionToDefault DefaultWait.HardReset) = E
OfState A B C D E (State.TransitionToDefault DefaultWait.VconnOn) = D true
OfState A B C D E (State.GetSinkCap w) = Unit
OfState A B C D E State.WaitNewCapabilities = Unit
OfState A B C D E State.EprKeepAlive = Unit
OfState A B C D E (State.GiveSourceCap asked) = Unit
OfState A B C D E (State.SendSoftReset x) = Unit
OfState A B C D E State.SoftReset = Unit
OfState A B C D E State.SendNotSupported = Unit
OfState A B C D E State.NotSupportedReceived = Unit
OfState A B C D E (State.DrpSwap x) = Unit
OfState A B C D E (State.DrpGetSourceCap m w) = Unit
OfState A B C D E (State.DrpGiveSinkCap m w) = Unit
OfState A B C D E (State.VconnSwap source VcsState.SendSwap) = Unit
OfState A B C D E (State.VconnSwap source VcsState.SwapAnswer) = Unit
OfState A B C D E (State.VconnSwap source VcsState.EvaluateSwap) = Unit
OfState A B C D E (State.VconnSwap source VcsState.AcceptSwap) = Unit
OfState A B C D E (State.VconnSwap source VcsState.RejectSwap) = Unit
OfState A B C D E (State.VconnSwap source VcsState.WaitForVconn) = Unit
OfState A B C D E (State.VconnSwap source VcsState.TurnOffVconn) = D false
OfState A B C D E (State.VconnSwap source VcsState.TurnOnVconn) = D false
OfState A B C D E (State.VconnSwap source VcsState.SendPsRdy) = Unit
OfState A B C D E (State.VconnSwap source VcsState.VcsForceVconn) = D false

pub of_state : {A B C A' B' C' : Type 0} {D D' : Bool → Type 0} (s : State) → (A → A') → (B → B') → (C → C') → ((b : Bool) → D b → D' b)
    → OfState A B C D Unit s → OfState A' B' C' D' Unit s
of_state (State.Startup w) f g h k a = tt
of_state State.Discovery f g h k a = tt
of_state (State.SendCapabilities Exchange.Transmit) f g h k a = tt
of_state (State.SendCapabilities Exchange.Receive) f g h k a = f a
of_state State.Ready f g h k a = tt
of_state (State.Disabled DisabledWait.Supply) f g h k a = h a
of_state (State.Disabled DisabledWait.Receive) f g h k a = tt
of_state (State.CapabilityResponse d) f g h k a = tt
of_state (State.HardReset HardResetWait.Signal) f g h k a = g a
of_state (State.HardReset HardResetWait.Timer) f g h k a = tt
of_state State.HardResetReceived f g h k a = tt
of_state (State.TransitionToDefault DefaultWait.VconnOff) f g h k a = k true a
of_state (State.TransitionToDefault DefaultWait.HardReset) f g h k a = tt
of_state (State.TransitionToDefault DefaultWait.VconnOn) f g h k a = k true a
of_state (State.GetSinkCap w) f g h k a = tt
of_state State.WaitNewCapabilities f g h k a = tt
of_state State.EprKeepAlive f g h k a = tt
of_state (State.GiveSourceCap asked) f g h k a = tt
of_state (State.SendSoftReset x) f g h k a = tt
of_state State.SoftReset f g h k a = tt
of_state State.SendNotSupported f g h k a = tt
of_state State.NotSupportedReceived f g h k a = tt
of_state (State.DrpSwap x) f g h k a = tt
of_state (State.DrpGetSourceCap m w) f g h k a = tt
of_state (State.DrpGiveSinkCap m w) f g h k a = tt
of_state (State.VconnSwap source VcsState.SendSwap) f g h k a = tt
of_state (State.VconnSwap source VcsState.SwapAnswer) f g h k a = tt
of_state (State.VconnSwap source VcsState.EvaluateSwap) f g h k a = tt
of_state (State.VconnSwap source VcsState.AcceptSwap) f g h k a = tt
of_state (State.VconnSwap source VcsState.RejectSwap) f g h k a = tt
of_state (State.VconnSwap source VcsState.WaitForVconn) f g h k a = tt
of_state (State.VconnSwap source VcsState.TurnOffVconn) f g h k a = k false a
of_state (State.VconnSwap source VcsState.TurnOnVconn) f g h k a = k false a
of_state (State.VconnSwap source VcsState.SendPsRdy) f g h k a = tt
of_state (State.VconnSwap source VcsState.VcsForceVconn) f g h k a = k false a

-- What is asked of F.1; nothing of every other end
abbrev pub OfFinish : Type 0 → Finish → Type 0
OfFinish A Finish.SwapToSink = Unit
OfFinish A Finish.PortPartnerUnresponsive = A
OfFinish A Finish.ReconnectionRequired = Unit
OfFinish A Finish.NoSafeRequest = Unit

pub of_finish : {A B : Type 0} (f : Finish) → (A → B) → OfFinish A f → OfFinish B f
of_finish Finish.SwapToSink g a = tt
of_finish Finish.PortPartnerUnresponsive g a = g a
of_finish Finish.ReconnectionRequired g a = tt
of_finish Finish.NoSafeRequest g a = tt

-- Whether the outcome is the DPM's failure
abbrev pub dpm_failed : Outcome → Bool
dpm_failed o = code o is 3

-- What TransitionToDefault's 14s follow: Done of 2.3 or of 15
abbrev pub defaults : Action → Bool
defaults x = numbered 2 3 x || x.number is 15

-- What a place took from the outcome of the awaited action that led there. "Done after 4" leads to the await of a request, and TransitionToDefault drives
-- VCONN after Done of 2.3 or of 15, a swap never. A request is the one that was asked for. An error is no greater than what the outcome holds. F.1 is
-- the DPM's failure, and HardReset never is
abbrev pub LeadsPlace : Action → Outcome → Place → Type 0
LeadsPlace a o (Place.Waiting s) =
    OfState ((a.number is 4 ≡ true) × (done (outcome o) ≡ true)) (dpm_failed o ≡ false) ⊥ (λ b. (done (outcome o) && defaults a) ≡ b) Unit s
LeadsPlace a o (Place.Negotiating Negotiation.Lookup q) = after_outcome o nothing ≡ request q
LeadsPlace a o (Place.Negotiating Negotiation.Evaluate q) = after_outcome o nothing ≡ request q
LeadsPlace a o (Place.Negotiating Negotiation.Accept q) = ⊥
LeadsPlace a o (Place.Negotiating Negotiation.Supply q) = ⊥
LeadsPlace a o (Place.Negotiating Negotiation.PsRdy q) = ⊥
LeadsPlace a o (Place.Stopped e) = HeldOutcome o → Byte e
LeadsPlace a o (Place.HandedOver h) = Unit
LeadsPlace a o (Place.Finished f) = OfFinish (dpm_failed o ≡ true) f

-- The same, and what an outcome of the awaited action a writes on the way: no mode, a data role only where 28 named it and is done, who feeds VCONN only
-- where 14 is done, and on the way to where no TransitionToDefault leads
abbrev pub Swaps : Place → Type 0
Swaps (Place.Waiting s) = OfState Unit Unit Unit (λ b. Unit) ⊥ s
Swaps (Place.Negotiating w q) = ⊥
Swaps (Place.Stopped e) = ⊥
Swaps (Place.HandedOver h) = Unit
Swaps (Place.Finished f) = ⊥

abbrev pub LeadsBy : Action → Outcome → List Write → Place → Type 0
LeadsBy a o [] p = LeadsPlace a o p
LeadsBy a o (mode m ∷ ws) p = ⊥
LeadsBy a o (data_role_to d ∷ ws) p = (a ≡ swap_data_role d) × (done (outcome o) ≡ true) × LeadsBy a o ws p
LeadsBy a o (vconn_source_to v ∷ ws) p = (a.number is 14 ≡ true) × (done (outcome o) ≡ true) × Swaps p × LeadsBy a o ws p

abbrev pub Leads : Action → Outcome → Next → Type 0
Leads a o (to ws p) = LeadsBy a o ws p
Leads a o misfit = Unit

-- Whatever is written
pub place_led : (a : Action) (o : Outcome) (ws : List Write) (p : Place) → LeadsBy a o ws p → LeadsPlace a o p
place_led a o [] p h = h
place_led a o (mode m ∷ ws) p h = absurd h
place_led a o (data_role_to d ∷ ws) p h = place_led a o ws p h.2
place_led a o (vconn_source_to v ∷ ws) p h = place_led a o ws p h.3

negotiated : (a : Action) (o : Outcome) (q : PowerSource) → after_outcome o nothing ≡ request q → Leads a o (negotiate q)
negotiated a o (PowerSource.FixedVariableSupply w) h = h
negotiated a o (PowerSource.Battery w) h = h
negotiated a o (PowerSource.Pps w) h = h
negotiated a o (PowerSource.Avs w) h = h
negotiated a o (PowerSource.Unknown w) h = h
negotiated a o (PowerSource.EprRequest w) h = h

-- The errors that a state itself stops with
zero_held : {A : Type 0} → A → Byte 0
zero_held a = omega arith

two_held : {A : Type 0} → A → Byte 2
two_held a = omega arith

-- An error that is passed on, or leads elsewhere
module _ (a : Action) (e : ℕ) where
  swap_failed_leads : Leads a (Outcome.Failed e) (swap_failed e)
  unfolding swap_failed
  swap_failed_leads = by_choice (Leads a (Outcome.Failed e)) (eqb e 1) _ _ tt (λ h. h)

  sink_cap_failed_leads : Leads a (Outcome.Failed e) (SourcePort.sink_cap_failed e)
  unfolding SourcePort.sink_cap_failed
  sink_cap_failed_leads = by_choice (Leads a (Outcome.Failed e)) (eqb e 1) _ _ tt (λ h. h)

  get_failed_leads : (m : Mode) → Leads a (Outcome.Failed e) (get_failed m e)
  unfolding get_failed
  get_failed_leads m = by_choice (Leads a (Outcome.Failed e)) (eqb e 1) _ _ tt (λ h. h)

  disabled_failed_leads : Leads a (Outcome.Failed e) (SourcePort.disabled_failed e)
  unfolding SourcePort.disabled_failed
  disabled_failed_leads = by_choice (Leads a (Outcome.Failed e)) (eqb e 0) _ _ refl tt

-- A step that leads to no request and to no await of one
module _ (a : Action) (o : Outcome) where
  ended_leads : (source : VcsSwapSource) → Leads a o (ended source)
  ended_leads VcsSwapSource.Message = tt
  ended_leads VcsSwapSource.Epr = tt

  -- The end of a swap that drove VCONN
  fed_leads : (source : VcsSwapSource) (v : Bool) → a.number is 14 ≡ true → done (outcome o) ≡ true → Leads a o (writing (vconn_source_to v) (ended source))
  fed_leads VcsSwapSource.Message v n h = (n, h, tt, tt)
  fed_leads VcsSwapSource.Epr v n h = (n, h, tt, tt)

  swapping_leads : (source : VcsSwapSource) (v : Bool) → (done (outcome o) && defaults a) ≡ false → Leads a o (swapping source v)
  swapping_leads source v n = by_choice (Leads a o) v _ _ tt n

  swap_type_leads : (source : VcsSwapSource) (v : Bool) (t : ℕ) → (done (outcome o) && defaults a) ≡ false → Leads a o (swap_type source v t)
  unfolding swap_type
  swap_type_leads source v t n =
      by_choice (Leads a o) (eqb t 3) _ _ (swapping_leads source v n)
      (by_choice (Leads a o) (eqb t 4) _ _ tt (by_choice (Leads a o) (eqb t 12) _ _ tt (by_choice (Leads a o) (eqb t 16) _ _ tt two_held)))

  swap_answer_leads : (source : VcsSwapSource) (v : Bool) (m : Message) → (done (outcome o) && defaults a) ≡ false → Leads a o (swap_answer source v m)
  swap_answer_leads source v (Message.Request p) n = two_held
  swap_answer_leads source v (Message.EprRequest p) n = two_held
  swap_answer_leads source v (Message.EprMode p) n = two_held
  swap_answer_leads source v (Message.Control t) n = swap_type_leads source v t n
  swap_answer_leads source v (Message.ExtendedControl p) n = two_held
  swap_answer_leads source v Message.Other n = two_held
  swap_answer_leads source v (Message.SinkCapabilities good) n = two_held
  swap_answer_leads source v (Message.EprSinkCapabilities good) n = two_held

  role_type_leads : (t : ℕ) → Leads a o (role_answer_type t)
  unfolding role_answer_type
  role_type_leads t =
      by_choice (Leads a o) (eqb t 3) _ _ tt (by_choice (Leads a o) (eqb t 4) _ _ tt (by_choice (Leads a o) (eqb t 12) _ _ tt tt))

  role_answer_leads : (m : Message) → Leads a o (role_answer m)
  role_answer_leads (Message.Request p) = tt
  role_answer_leads (Message.EprRequest p) = tt
  role_answer_leads (Message.EprMode p) = tt
  role_answer_leads (Message.Control t) = role_type_leads t
  role_answer_leads (Message.ExtendedControl p) = tt
  role_answer_leads Message.Other = tt
  role_answer_leads (Message.SinkCapabilities good) = tt
  role_answer_leads (Message.EprSinkCapabilities good) = tt

  told_leads : (found : Bool) → Leads a o (SourcePort.sink_cap_told found)
  told_leads true = tt
  told_leads false = tt

  sink_cap_leads : (m : Mode) (x : Message) → Leads a o (SourcePort.sink_cap_of m x)
  sink_cap_leads m (Message.Request p) = tt
  sink_cap_leads m (Message.EprRequest p) = tt
  sink_cap_leads m (Message.EprMode p) = tt
  sink_cap_leads m (Message.Control t) = tt
  sink_cap_leads m (Message.ExtendedControl p) = tt
  sink_cap_leads m Message.Other = tt
  sink_cap_leads m (Message.SinkCapabilities good) = by_mode (Leads a o) m _ _ (told_leads good) tt
  sink_cap_leads m (Message.EprSinkCapabilities good) = by_mode (Leads a o) m _ _ tt (told_leads good)

  event_leads : (e : Event) → Leads a o (SourcePort.event e)
  event_leads Event.None = tt
  event_leads Event.UpdatedSourceCapabilities = tt
  event_leads Event.RequestSinkCapabilities = tt
  event_leads Event.RequestSourceCapabilities = tt
  event_leads Event.RequestEprSourceCapabilities = tt
  event_leads Event.ExitEprMode = tt
  event_leads Event.RequestVconnSwap = tt
  event_leads Event.RequestDataRoleSwap = tt
  event_leads Event.RequestPowerRoleSwap = tt

  woken_leads : (e : Event) → Leads a o (SourcePort.new_capabilities e)
  woken_leads Event.None = tt
  woken_leads Event.UpdatedSourceCapabilities = tt
  woken_leads Event.RequestSinkCapabilities = tt
  woken_leads Event.RequestSourceCapabilities = tt
  woken_leads Event.RequestEprSourceCapabilities = tt
  woken_leads Event.ExitEprMode = tt
  woken_leads Event.RequestVconnSwap = tt
  woken_leads Event.RequestDataRoleSwap = tt
  woken_leads Event.RequestPowerRoleSwap = tt

  five_seconds_leads : (t : Timeout) → Leads a o (SourcePort.five_seconds t)
  five_seconds_leads Timeout.Pps = tt
  five_seconds_leads Timeout.KeepAlive = tt
  five_seconds_leads Timeout.FiveSeconds = tt

  extended_leads : (m : Mode) (dual : Bool) (t : ℕ) → Leads a o (extended_type m dual t)
  unfolding extended_type
  extended_leads m dual t =
      by_choice (Leads a o) (eqb t 1) _ _ (by_mode (Leads a o) m _ _ tt tt)
      (by_choice (Leads a o) (eqb t 2) _ _ (by_choice (Leads a o) dual _ _ tt tt) (by_choice (Leads a o) (eqb t 3) _ _ tt tt))

-- The same where HardReset is led to: by no failure of the DPM
module _ (a : Action) (o : Outcome) (other : dpm_failed o ≡ false) where
  denied_leads : (c : Contract) (d : Denial) → Leads a o (SourcePort.denied c d)
  denied_leads Contract.Invalid Denial.Reject = other
  denied_leads Contract.Invalid Denial.Wait = tt
  denied_leads (Contract.Explicit q) d = tt
  denied_leads Contract.Safe5V d = tt
  denied_leads Contract.Implicit d = tt
  denied_leads Contract.TransitionToExplicit d = tt

  ready_timeout_leads : (m : Mode) (p : Bool) (t : Timeout) → Leads a o (SourcePort.ready_timeout m p t)
  ready_timeout_leads m p Timeout.Pps = by_choice (Leads a o) p _ _ other tt
  ready_timeout_leads m p Timeout.KeepAlive = by_mode (Leads a o) m _ _ tt other
  ready_timeout_leads m p Timeout.FiveSeconds = tt

  epr_action_leads : (m : Mode) (n : ℕ) → Leads a o (epr_action m n)
  unfolding epr_action
  epr_action_leads m n =
      by_choice (Leads a o) (eqb n 1) _ _ (by_mode (Leads a o) m _ _ tt other)
      (by_choice (Leads a o) (eqb n 5) _ _ (by_mode (Leads a o) m _ _ other tt) tt)

  control_leads : (m : Mode) (dual : Bool) (t : ℕ) → Leads a o (control m dual t)
  unfolding control
  control_leads m dual t =
      by_choice (Leads a o) (eqb t 13) _ _ tt
      (by_choice (Leads a o) (eqb t 7) _ _ (by_mode (Leads a o) m _ _ tt tt)
      (by_choice (Leads a o) (eqb t 11) _ _ tt
      (by_choice (Leads a o) (eqb t 9) _ _ (by_choice (Leads a o) dual _ _ (by_mode (Leads a o) m _ _ tt other) tt)
      (by_choice (Leads a o) (eqb t 10) _ _ (by_choice (Leads a o) dual _ _ tt tt)
      (by_choice (Leads a o) (eqb t 19) _ _ (by_choice (Leads a o) dual _ _ tt tt)
      (by_choice (Leads a o) (eqb t 8) _ _ (by_choice (Leads a o) dual _ _ tt tt)
      (by_choice (Leads a o) (eqb t 16) _ _ tt tt)))))))

  -- Re-entry
  target_leads : (handed : Bool) (t : ℕ) → Leads a o (target handed t)
  unfolding target
  target_leads handed t =
      by_choice (Leads a o) (eqb t 0) _ _ tt (by_choice (Leads a o) (eqb t 1) _ _ tt (by_choice (Leads a o) (eqb t 2) _ _ tt
      (by_choice (Leads a o) (eqb t 3) _ _ other (by_choice (Leads a o) (eqb t 4) _ _ tt (by_choice (Leads a o) (eqb t 5) _ _ tt
      (by_choice (Leads a o) (eqb t 6) _ _ tt (by_choice (Leads a o) (eqb t 7) _ _ tt (by_choice (Leads a o) (eqb t 8) _ _ tt
      (by_choice (Leads a o) (eqb t 9) _ _ tt (by_choice (Leads a o) (eqb t 10) _ _ (by_choice (Leads a o) handed _ _ tt tt)
      (by_choice (Leads a o) (eqb t 11) _ _ (by_choice (Leads a o) handed _ _ tt tt) tt)))))))))))

  pub allowed_leads : (handed : Bool) (t b : ℕ) → Leads a o (allowed_target handed t b)
  unfolding allowed_target
  allowed_leads handed t b = by_choice (Leads a o) (change_allowed handed b) _ _ (target_leads handed t) tt

-- A request that was just heard is the one that is asked for
heard_request : (a : Action) (m : Mode) (x : Message) → Leads a (Outcome.Message x) (SourcePort.request_of m x)
heard_request a m (Message.Request None) = by_mode (Leads a (Outcome.Message (Message.Request None))) m _ _ two_held tt
heard_request a m (Message.Request (Some q)) =
    let o : Outcome = Outcome.Message (Message.Request (Some q)) in by_mode (Leads a o) m _ _ (negotiated a o q refl) tt
heard_request a m (Message.EprRequest None) =
    by_mode (Leads a (Outcome.Message (Message.EprRequest None))) m _ _ tt two_held
heard_request a m (Message.EprRequest (Some q)) =
    let o : Outcome = Outcome.Message (Message.EprRequest (Some q)) in by_mode (Leads a o) m _ _ tt (negotiated a o q refl)
heard_request a m (Message.EprMode p) = tt
heard_request a m (Message.Control t) = tt
heard_request a m (Message.ExtendedControl p) = tt
heard_request a m Message.Other = tt
heard_request a m (Message.SinkCapabilities good) = tt
heard_request a m (Message.EprSinkCapabilities good) = tt

heard_in_ready : (a : Action) (m : Mode) (dual : Bool) (x : Message) → Leads a (Outcome.Message x) (dispatched m dual x)
unfolding dispatched epr_mode extended_control
heard_in_ready a m dual (Message.Request None) =
    by_mode (Leads a (Outcome.Message (Message.Request None))) m _ _ tt zero_held
heard_in_ready a m dual (Message.Request (Some q)) =
    let o : Outcome = Outcome.Message (Message.Request (Some q)) in by_mode (Leads a o) m _ _ (negotiated a o q refl) zero_held
heard_in_ready a m dual (Message.EprRequest None) =
    by_mode (Leads a (Outcome.Message (Message.EprRequest None))) m _ _ zero_held tt
heard_in_ready a m dual (Message.EprRequest (Some q)) =
    let o : Outcome = Outcome.Message (Message.EprRequest (Some q)) in by_mode (Leads a o) m _ _ zero_held (negotiated a o q refl)
heard_in_ready a m dual (Message.EprMode None) = tt
heard_in_ready a m dual (Message.EprMode (Some w)) =
    epr_action_leads a (Outcome.Message (Message.EprMode (Some w))) refl m _
heard_in_ready a m dual (Message.Control t) = control_leads a (Outcome.Message (Message.Control t)) refl m dual t
heard_in_ready a m dual (Message.ExtendedControl None) = tt
heard_in_ready a m dual (Message.ExtendedControl (Some t)) =
    extended_leads a (Outcome.Message (Message.ExtendedControl (Some t))) m dual t
heard_in_ready a m dual Message.Other = tt
heard_in_ready a m dual (Message.SinkCapabilities good) = tt
heard_in_ready a m dual (Message.EprSinkCapabilities good) = tt

-- The groups, of Leads
module _ (a : Action) where
  done_leads : (n : Next) → Leads a Outcome.Done n → (o : Outcome) → Leads a o (when_done n o)
  done_leads = when_done_leads (Leads a) (λ _. tt)

  sent_leads : (n : Next) → Leads a Outcome.Done n → (o : Outcome) → Leads a o (when_sent n o)
  sent_leads n p o = when_tried_leads (Leads a) (λ _. tt) n stop p (λ e h. h) o

  driven_leads : (n : Next) (f : Finish) → Leads a Outcome.Done n → (o : Outcome) → Leads a o (when_driven n f o)
  driven_leads n f p o = when_driven_leads (Leads a) (λ _. tt) n f p (the_dpm f) o
    where
      the_dpm : (f : Finish) → OfFinish (dpm_failed Outcome.DpmFailed ≡ true) f
      the_dpm Finish.SwapToSink = tt
      the_dpm Finish.PortPartnerUnresponsive = refl
      the_dpm Finish.ReconnectionRequired = tt
      the_dpm Finish.NoSafeRequest = tt

  control_leads_to : (k : ℕ) (n : Next) → ((m : Message) → Leads a (Outcome.Message m) n) → (o : Outcome) → Leads a o (when_control k n o)
  control_leads_to k n p o = when_heard_leads (Leads a) (λ _. tt) (only k n) stop (only_leads (Leads a) (λ _. tt) k n p) (λ e h. h) o

-- The action that is awaited at a state
abbrev awaited_at : Mode → Contract → DataRole → Bool → Port → State → Action
awaited_at m c u v p s = awaited (await_of m c u v p s).issues

-- A line a place: where it leads
pub after_leads : (m : Mode) (c : Contract) (u : DataRole) (v : Bool) (p : Port) (s : State) (o : Outcome)
    → Leads (awaited (await_of m c u v p s).issues) o ((await_of m c u v p s).then o)
unfolding await_of
after_leads m c u v p (State.Startup StartupWait.SwapSourceStart) o =
    let a : Action = awaited_at m c u v p (State.Startup StartupWait.SwapSourceStart) in done_leads a _ tt o
after_leads m c u v p (State.Startup StartupWait.SwappedVbus) o =
    let a : Action = awaited_at m c u v p (State.Startup StartupWait.SwappedVbus) in done_leads a _ tt o
after_leads m c u v p (State.Startup StartupWait.Vbus) o =
    let a : Action = awaited_at m c u v p (State.Startup StartupWait.Vbus) in done_leads a _ tt o
after_leads m c u v p State.Discovery o =
    let a : Action = awaited_at m c u v p State.Discovery in done_leads a _ tt o
after_leads m c u v p (State.SendCapabilities Exchange.Transmit) o =
    let a : Action = awaited_at m c u v p (State.SendCapabilities Exchange.Transmit) in sent_leads a _ (refl, refl) o
after_leads m c u v p (State.SendCapabilities Exchange.Receive) o =
    let a : Action = awaited_at m c u v p (State.SendCapabilities Exchange.Receive) in
    when_heard_leads (Leads a) (λ _. tt) _ stop (heard_request a m) (λ e h. h) o
after_leads m c u v p State.Ready o =
    let a : Action = awaited_at m c u v p State.Ready in
    when_ready_leads (Leads a) (λ _. tt) _ _ _ (heard_in_ready a m p.dual_role) (λ e. event_leads a (Outcome.Event e) e)
    (λ t. ready_timeout_leads a (Outcome.Timeout t) refl m (pps c) t) (λ e h. h) o
after_leads m c u v p (State.Disabled DisabledWait.Supply) o =
    let a : Action = awaited_at m c u v p (State.Disabled DisabledWait.Supply) in when_safe_leads (Leads a) (λ _. tt) _ _ _ tt zero_held tt o
after_leads m c u v p (State.Disabled DisabledWait.Receive) o =
    let a : Action = awaited_at m c u v p (State.Disabled DisabledWait.Receive) in
    when_heard_leads (Leads a) (λ _. tt) _ _ (λ m. tt) (disabled_failed_leads a) o
after_leads m c u v p (State.CapabilityResponse Denial.Reject) o =
    let a : Action = awaited_at m c u v p (State.CapabilityResponse Denial.Reject) in
    sent_leads a _ (denied_leads a Outcome.Done refl c Denial.Reject) o
after_leads m c u v p (State.CapabilityResponse Denial.Wait) o =
    let a : Action = awaited_at m c u v p (State.CapabilityResponse Denial.Wait) in sent_leads a _ (denied_leads a Outcome.Done refl c Denial.Wait) o
after_leads m c u v p (State.HardReset HardResetWait.Signal) o =
    let a : Action = awaited_at m c u v p (State.HardReset HardResetWait.Signal) in sent_leads a _ tt o
after_leads m c u v p (State.HardReset HardResetWait.Timer) o =
    let a : Action = awaited_at m c u v p (State.HardReset HardResetWait.Timer) in done_leads a _ refl o
after_leads m c u v p State.HardResetReceived o =
    let a : Action = awaited_at m c u v p State.HardResetReceived in done_leads a _ refl o
after_leads m c u v p (State.TransitionToDefault DefaultWait.VconnOff) o =
    let a : Action = awaited_at m c u v p (State.TransitionToDefault DefaultWait.VconnOff) in driven_leads a _ _ tt o
after_leads m c u v p (State.TransitionToDefault DefaultWait.HardReset) o =
    let a : Action = awaited_at m c u v p (State.TransitionToDefault DefaultWait.HardReset) in driven_leads a _ _ refl o
after_leads m c u v p (State.TransitionToDefault DefaultWait.VconnOn) o =
    let a : Action = awaited_at m c u v p (State.TransitionToDefault DefaultWait.VconnOn) in driven_leads a _ _ tt o
after_leads m c u v p (State.GetSinkCap SinkCapWait.Transmit) o =
    let a : Action = awaited_at m c u v p (State.GetSinkCap SinkCapWait.Transmit) in sent_leads a _ tt o
after_leads m c u v p (State.GetSinkCap SinkCapWait.Receive) o =
    let a : Action = awaited_at m c u v p (State.GetSinkCap SinkCapWait.Receive) in
    when_heard_leads (Leads a) (λ _. tt) _ _ (λ x. sink_cap_leads a (Outcome.Message x) m x) (sink_cap_failed_leads a) o
after_leads m c u v p (State.GetSinkCap SinkCapWait.Inform) o =
    let a : Action = awaited_at m c u v p (State.GetSinkCap SinkCapWait.Inform) in done_leads a _ tt o
after_leads m c u v p (State.GetSinkCap SinkCapWait.InformNone) o =
    let a : Action = awaited_at m c u v p (State.GetSinkCap SinkCapWait.InformNone) in done_leads a _ tt o
after_leads m c u v p State.WaitNewCapabilities o =
    let a : Action = awaited_at m c u v p State.WaitNewCapabilities in
    when_woken_leads (Leads a) (λ _. tt) _ _ (λ e. woken_leads a (Outcome.Event e) e) (λ t. five_seconds_leads a (Outcome.Timeout t) t) o
after_leads m c u v p State.EprKeepAlive o =
    let a : Action = awaited_at m c u v p State.EprKeepAlive in sent_leads a _ tt o
after_leads m c u v p (State.GiveSourceCap asked) o =
    let a : Action = awaited_at m c u v p (State.GiveSourceCap asked) in sent_leads a _ tt o
after_leads m c u v p (State.SendSoftReset Exchange.Transmit) o =
    let a : Action = awaited_at m c u v p (State.SendSoftReset Exchange.Transmit) in sent_leads a _ tt o
after_leads m c u v p (State.SendSoftReset Exchange.Receive) o =
    let a : Action = awaited_at m c u v p (State.SendSoftReset Exchange.Receive) in control_leads_to a _ _ (λ m. tt) o
after_leads m c u v p State.SoftReset o =
    let a : Action = awaited_at m c u v p State.SoftReset in sent_leads a _ tt o
after_leads m c u v p State.SendNotSupported o =
    let a : Action = awaited_at m c u v p State.SendNotSupported in sent_leads a _ tt o
after_leads m c u v p State.NotSupportedReceived o =
    let a : Action = awaited_at m c u v p State.NotSupportedReceived in done_leads a _ tt o
after_leads m c u v p (State.DrpSwap (SwapState.Data DataRoleSwap.Evaluate)) o =
    let a : Action = awaited_at m c u v p (State.DrpSwap (SwapState.Data DataRoleSwap.Evaluate)) in
    when_asked_leads (Leads a) (λ _. tt) _ _ (λ b. tt) (λ b. tt) o
after_leads m c u v p (State.DrpSwap (SwapState.Data DataRoleSwap.Accept)) o =
    let a : Action = awaited_at m c u v p (State.DrpSwap (SwapState.Data DataRoleSwap.Accept)) in sent_leads a _ tt o
after_leads m c u v p (State.DrpSwap (SwapState.Data DataRoleSwap.Change)) o =
    let a : Action = awaited_at m c u v p (State.DrpSwap (SwapState.Data DataRoleSwap.Change)) in done_leads a _ (refl, refl, tt) o
after_leads m c u v p (State.DrpSwap (SwapState.Data DataRoleSwap.Send)) o =
    let a : Action = awaited_at m c u v p (State.DrpSwap (SwapState.Data DataRoleSwap.Send)) in sent_leads a _ tt o
after_leads m c u v p (State.DrpSwap (SwapState.Data DataRoleSwap.Answer)) o =
    let a : Action = awaited_at m c u v p (State.DrpSwap (SwapState.Data DataRoleSwap.Answer)) in
    when_heard_leads (Leads a) (λ _. tt) _ _ (λ x. role_answer_leads a (Outcome.Message x) x) (swap_failed_leads a) o
after_leads m c u v p (State.DrpSwap (SwapState.Data DataRoleSwap.Reject)) o =
    let a : Action = awaited_at m c u v p (State.DrpSwap (SwapState.Data DataRoleSwap.Reject)) in sent_leads a _ tt o
after_leads m c u v p (State.DrpSwap (SwapState.FastPower FastPowerRoleSwap.Evaluate)) o =
    let a : Action = awaited_at m c u v p (State.DrpSwap (SwapState.FastPower FastPowerRoleSwap.Evaluate)) in
    when_asked_leads (Leads a) (λ _. tt) _ _ (λ b. tt) (λ b. refl) o
after_leads m c u v p (State.DrpSwap (SwapState.FastPower FastPowerRoleSwap.Accept)) o =
    let a : Action = awaited_at m c u v p (State.DrpSwap (SwapState.FastPower FastPowerRoleSwap.Accept)) in
    when_tried_leads (Leads a) (λ _. tt) _ _ tt (λ e. refl) o
after_leads m c u v p (State.DrpSwap (SwapState.FastPower FastPowerRoleSwap.TransitionToOff)) o =
    let a : Action = awaited_at m c u v p (State.DrpSwap (SwapState.FastPower FastPowerRoleSwap.TransitionToOff)) in done_leads a _ tt o
after_leads m c u v p (State.DrpSwap (SwapState.FastPower FastPowerRoleSwap.AssertRd)) o =
    let a : Action = awaited_at m c u v p (State.DrpSwap (SwapState.FastPower FastPowerRoleSwap.AssertRd)) in done_leads a _ tt o
after_leads m c u v p (State.DrpSwap (SwapState.FastPower FastPowerRoleSwap.WaitSourceOn)) o =
    let a : Action = awaited_at m c u v p (State.DrpSwap (SwapState.FastPower FastPowerRoleSwap.WaitSourceOn)) in sent_leads a _ tt o
after_leads m c u v p (State.DrpSwap (SwapState.FastPower FastPowerRoleSwap.SourceOn)) o =
    let a : Action = awaited_at m c u v p (State.DrpSwap (SwapState.FastPower FastPowerRoleSwap.SourceOn)) in control_leads_to a _ _ (λ m. tt) o
after_leads m c u v p (State.DrpGetSourceCap k GetWait.Get) o =
    let a : Action = awaited_at m c u v p (State.DrpGetSourceCap k GetWait.Get) in
    when_tried_leads (Leads a) (λ _. tt) _ _ tt (λ e. get_failed_leads a e k) o
after_leads m c u v p (State.DrpGetSourceCap k GetWait.Inform) o =
    let a : Action = awaited_at m c u v p (State.DrpGetSourceCap k GetWait.Inform) in done_leads a _ tt o
after_leads m c u v p (State.DrpGetSourceCap k GetWait.InformNone) o =
    let a : Action = awaited_at m c u v p (State.DrpGetSourceCap k GetWait.InformNone) in done_leads a _ tt o
after_leads m c u v p (State.DrpGiveSinkCap k GiveWait.Read) o =
    let a : Action = awaited_at m c u v p (State.DrpGiveSinkCap k GiveWait.Read) in done_leads a _ tt o
after_leads m c u v p (State.DrpGiveSinkCap k GiveWait.Transmit) o =
    let a : Action = awaited_at m c u v p (State.DrpGiveSinkCap k GiveWait.Transmit) in sent_leads a _ tt o
after_leads m c u v p (State.VconnSwap source VcsState.SendSwap) o =
    let a : Action = awaited_at m c u v p (State.VconnSwap source VcsState.SendSwap) in sent_leads a _ tt o
after_leads m c u v p (State.VconnSwap source VcsState.SwapAnswer) o =
    let a : Action = awaited_at m c u v p (State.VconnSwap source VcsState.SwapAnswer) in
    when_heard_leads (Leads a) (λ _. tt) _ _ (λ x. swap_answer_leads a (Outcome.Message x) source v x refl) (swap_failed_leads a) o
after_leads m c u v p (State.VconnSwap source VcsState.EvaluateSwap) o =
    let a : Action = awaited_at m c u v p (State.VconnSwap source VcsState.EvaluateSwap) in
    when_asked_leads (Leads a) (λ _. tt) _ _ (λ b. tt) (λ b. tt) o
after_leads m c u v p (State.VconnSwap source VcsState.AcceptSwap) o =
    let a : Action = awaited_at m c u v p (State.VconnSwap source VcsState.AcceptSwap) in
    sent_leads a _ (swapping_leads a Outcome.Done source v refl) o
after_leads m c u v p (State.VconnSwap source VcsState.RejectSwap) o =
    let a : Action = awaited_at m c u v p (State.VconnSwap source VcsState.RejectSwap) in sent_leads a _ (ended_leads a Outcome.Done source) o
after_leads m c u v p (State.VconnSwap source VcsState.WaitForVconn) o =
    let a : Action = awaited_at m c u v p (State.VconnSwap source VcsState.WaitForVconn) in control_leads_to a _ _ (λ m. refl) o
after_leads m c u v p (State.VconnSwap source VcsState.TurnOffVconn) o =
    let a : Action = awaited_at m c u v p (State.VconnSwap source VcsState.TurnOffVconn) in
    driven_leads a _ _ (fed_leads a Outcome.Done source false refl refl) o
after_leads m c u v p (State.VconnSwap source VcsState.TurnOnVconn) o =
    let a : Action = awaited_at m c u v p (State.VconnSwap source VcsState.TurnOnVconn) in driven_leads a _ _ (refl, refl, tt, tt) o
after_leads m c u v p (State.VconnSwap source VcsState.SendPsRdy) o =
    let a : Action = awaited_at m c u v p (State.VconnSwap source VcsState.SendPsRdy) in sent_leads a _ (ended_leads a Outcome.Done source) o
after_leads m c u v p (State.VconnSwap source VcsState.VcsForceVconn) o =
    let a : Action = awaited_at m c u v p (State.VconnSwap source VcsState.VcsForceVconn) in
    driven_leads a _ _ (fed_leads a Outcome.Done source true refl refl) o

-- What the log knows where a place is entered: the await of a request follows a 4 that is done, VCONN is driven by TransitionToDefault or not, and a
-- request that is negotiated is the sink's latest
abbrev pub GoodState : Log → State → Type 0
GoodState l = OfState (newest_two (number 4) done l ≡ true) Unit Unit (λ b. defaulting l ≡ b) Unit

abbrev pub GoodSupply : Log → Negotiation → PowerSource → Type 0
GoodSupply l Negotiation.Lookup q = latest l ≡ request q
GoodSupply l Negotiation.Evaluate q = latest l ≡ request q
GoodSupply l Negotiation.Accept q = (latest l ≡ request q) × (accepted l ≡ request q)
GoodSupply l Negotiation.Supply q = (latest l ≡ request q) × (accepted l ≡ request q)
GoodSupply l Negotiation.PsRdy q = contract l ≡ Contract.Explicit q

abbrev pub GoodPlace : Log → Place → Type 0
GoodPlace l (Place.Waiting s) = GoodState l s
GoodPlace l (Place.Negotiating w q) = GoodSupply l w q
GoodPlace l (Place.Stopped e) = Unit
GoodPlace l (Place.HandedOver h) = Unit
GoodPlace l (Place.Finished f) = Unit

-- Whatever is written on the way
abbrev pub Arrives : Log → Next → Type 0
Arrives l (to v p) = GoodPlace l p
Arrives l misfit = Unit

is_request : Latest → Bool
is_request nothing = false
is_request (request q) = true

pub nothing_asked : {A : Type 0} {q : PowerSource} → nothing ≡ request q → A
unfolding is_request
nothing_asked h = absurd (false≢true (ap is_request h))

-- What is asked for is the latest, whatever was the latest before
asked_now : (o : Outcome) (before : Latest) (q : PowerSource) → after_outcome o nothing ≡ request q → after_outcome o before ≡ request q
asked_now Outcome.Done before q h = nothing_asked h
asked_now (Outcome.Failed e) before q h = nothing_asked h
asked_now Outcome.DpmFailed before q h = nothing_asked h
asked_now Outcome.NoSafe before q h = nothing_asked h
asked_now (Outcome.Message (Message.Request None)) before q h = nothing_asked h
asked_now (Outcome.Message (Message.Request (Some p))) before q h = h
asked_now (Outcome.Message (Message.EprRequest None)) before q h = nothing_asked h
asked_now (Outcome.Message (Message.EprRequest (Some p))) before q h = h
asked_now (Outcome.Message (Message.EprMode p)) before q h = nothing_asked h
asked_now (Outcome.Message (Message.Control t)) before q h = nothing_asked h
asked_now (Outcome.Message (Message.ExtendedControl p)) before q h = nothing_asked h
asked_now (Outcome.Message Message.Other) before q h = nothing_asked h
asked_now (Outcome.Message (Message.SinkCapabilities good)) before q h = nothing_asked h
asked_now (Outcome.Message (Message.EprSinkCapabilities good)) before q h = nothing_asked h
asked_now (Outcome.Lookup f) before q h = nothing_asked h
asked_now (Outcome.Evaluation v) before q h = nothing_asked h
asked_now (Outcome.YesNo b) before q h = nothing_asked h
asked_now (Outcome.Event e) before q h = nothing_asked h
asked_now (Outcome.Timeout t) before q h = nothing_asked h

known : (l : Log) (o : Outcome) (a : Action) (p : Place) → ((test : Action → Bool) → newest (acts test) l ≡ test a) → LeadsPlace a o p
    → GoodPlace (l ▸ outcome o) p
unfolding latest
known l o a (Place.Waiting s) e h =
    of_state {D = λ b. (done (outcome o) && defaults a) ≡ b} {D' = λ b. defaulting (l ▸ outcome o) ≡ b} s
    (λ x. rw (x.1, e (λ y. y.number is 4), x.0)) (λ x. tt) (λ x. tt) (λ b x. rw (e defaults) x) h
known l o a (Place.Negotiating Negotiation.Lookup q) e h = asked_now o (latest l) q h
known l o a (Place.Negotiating Negotiation.Evaluate q) e h = asked_now o (latest l) q h
known l o a (Place.Negotiating Negotiation.Accept q) e h = absurd h
known l o a (Place.Negotiating Negotiation.Supply q) e h = absurd h
known l o a (Place.Negotiating Negotiation.PsRdy q) e h = absurd h
known l o a (Place.Stopped x) e h = tt
known l o a (Place.HandedOver x) e h = tt
known l o a (Place.Finished x) e h = tt

pub arrives : (l : Log) (o : Outcome) (a : Action) (x : Next) → ((test : Action → Bool) → newest (acts test) l ≡ test a) → Leads a o x
    → Arrives (l ▸ outcome o) x
arrives l o a (to ws p) e h = known l o a p e (place_led a o ws p h)
arrives l o a misfit e h = tt

-- A target is no await of a request, drives no VCONN for TransitionToDefault, and is no request
targeted : (l : Log) (p : Place) → defaulting l ≡ false → LeadsPlace none Outcome.Done p → GoodPlace l p
targeted l (Place.Waiting s) n h =
    of_state {D = λ b. (done (outcome Outcome.Done) && defaults none) ≡ b} {D' = λ b. defaulting l ≡ b} s
    (λ x. absurd (false≢true x.0)) (λ x. tt) (λ x. tt) (λ b x. n ∙ x) h
targeted l (Place.Negotiating Negotiation.Lookup q) n h = nothing_asked h
targeted l (Place.Negotiating Negotiation.Evaluate q) n h = nothing_asked h
targeted l (Place.Negotiating Negotiation.Accept q) n h = absurd h
targeted l (Place.Negotiating Negotiation.Supply q) n h = absurd h
targeted l (Place.Negotiating Negotiation.PsRdy q) n h = absurd h
targeted l (Place.Stopped x) n h = tt
targeted l (Place.HandedOver x) n h = tt
targeted l (Place.Finished x) n h = tt

writing_arrives : (l : Log) (w : Write) (x : Next) → defaulting l ≡ false → Leads none Outcome.Done x → Arrives l (writing w x)
writing_arrives l w (to ws p) n h = targeted l p n (place_led none Outcome.Done ws p h)
writing_arrives l w misfit n h = tt

pub re_entry_arrives : (l : Log) (handed : Bool) (m : Mode) (t b : ℕ) → defaulting l ≡ false → Arrives l (re_entry handed m t b)
unfolding re_entry
re_entry_arrives l handed m t b n =
    writing_arrives l (mode (changed b m)) (allowed_target handed t b) n (allowed_leads none Outcome.Done refl handed t b)
