-- R5 by the paper's table of what fits which action number, and by the definition's tables of what each outcome decides: the two agree.
-- Assumes nothing.
use Rattle.std.specs.Prelude.{Option, None, Some}
use Prim.Native.Nat.{ℕ, ◌+◌}
use mathlib.Core.Path.{◌≡◌, refl}
use mathlib.Core.Bool.{Bool, true, false, ◌||◌}
use lib.Dec.{eqb}
use Rattle.notation.specs.Rows.{◌⇒◌∣◌}
use Rattle.definition.specs.Types.{Contract, Message, Mode, Outcome, Timeout, Event, PowerSource, CapabilityResponse, DataRole}
use Rattle.definition.specs.Types.{Action, Port, State}
use Rattle.definition.specs.Types.{StartupWait, Exchange, DisabledWait, Denial, HardResetWait, DefaultWait, SinkCapWait, GetWait, GiveWait}
use Rattle.definition.specs.Types.{SwapState, DataRoleSwap, FastPowerRoleSwap, VcsState, VcsSwapSource, Negotiation}
use Rattle.definition.specs.Next.{Next, vconn_source_to, misfit, writing}
use Rattle.definition.specs.Outcomes.{only, swap_failed}
use Rattle.definition.specs.Actions.{awaited, pps, mode_number}
use Rattle.definition.specs.Messages.{dispatched, requested, in_mode, epr_mode, epr_action, control, extended_control, extended_type, needs_dual}
use Rattle.definition.specs.Awaits.{Await}
use Rattle.definition.specs.SourcePort
use Rattle.definition.specs.DualRole.{get_failed, role_answer_type, role_answer, data_swap_awaits, fast_swap_awaits}
use Rattle.definition.specs.VconnSwap.{ended, swapping, swap_type, swap_answer, vconn_swap_awaits}
use Rattle.definition.specs.States.{await_of}
use Rattle.definition.specs.Paper.{fits, one_of, message_fits, receives, timeout_fits, is_control, class}
use Rattle.definition.proofs.Groups.{as_heard, as_done, as_tried, as_sent, as_driven, as_asked, picked, hearing, row, fit, either}

-- An outcome is a misfit of an await exactly where it does not fit the action that is awaited, by number
abbrev pub Fitting : Await → Type 0
Fitting a = (o : Outcome) → fit (a.then o) ≡ fits (awaited a.issues) o

-- The action that is awaited there
abbrev awaited_of : Await → Action
awaited_of a = awaited a.issues

-- Where a choice on a number or a mode is a fit on both sides
by_mode : (m : Mode) (x y : Next) → fit x ≡ true → fit y ≡ true → fit (in_mode m x y) ≡ true
by_mode Mode.Spr x y p q = p
by_mode Mode.Epr x y p q = q

denied_fits : (c : Contract) (d : Denial) → fit (SourcePort.denied c d) ≡ true
denied_fits Contract.Invalid Denial.Reject = refl
denied_fits Contract.Invalid Denial.Wait = refl
denied_fits (Contract.Explicit q) d = refl
denied_fits Contract.Safe5V d = refl
denied_fits Contract.Implicit d = refl
denied_fits Contract.TransitionToExplicit d = refl

ended_fits : (source : VcsSwapSource) → fit (ended source) ≡ true
ended_fits VcsSwapSource.Message = refl
ended_fits VcsSwapSource.Epr = refl

swapping_fits : (source : VcsSwapSource) (v : Bool) → fit (swapping source v) ≡ true
swapping_fits source v = either fit v refl refl

sink_cap_failed_fits : (e : ℕ) → fit (SourcePort.sink_cap_failed e) ≡ true
unfolding SourcePort.sink_cap_failed
sink_cap_failed_fits e = either fit (eqb e 1) refl refl

get_failed_fits : (m : Mode) (e : ℕ) → fit (get_failed m e) ≡ true
unfolding get_failed
get_failed_fits m e = either fit (eqb e 1) refl refl

swap_failed_fits : (e : ℕ) → fit (swap_failed e) ≡ true
unfolding swap_failed
swap_failed_fits e = either fit (eqb e 1) refl refl

disabled_failed_fits : (e : ℕ) → fit (SourcePort.disabled_failed e) ≡ true
unfolding SourcePort.disabled_failed
disabled_failed_fits e = either fit (eqb e 0) refl refl

-- "that message only"
only_fits : (k : ℕ) (n : Next) → fit n ≡ true → (m : Message) → fit (only k n m) ≡ is_control k m
only_fits k n h (Message.Request p) = refl
only_fits k n h (Message.EprRequest p) = refl
only_fits k n h (Message.EprMode p) = refl
only_fits k n h (Message.Control t) = picked (eqb t k) n h
only_fits k n h (Message.ExtendedControl p) = refl
only_fits k n h Message.Other = refl
only_fits k n h (Message.SinkCapabilities good) = refl
only_fits k n h (Message.EprSinkCapabilities good) = refl

swap_type_fits : (source : VcsSwapSource) (v : Bool) (t : ℕ) → fit (swap_type source v t) ≡ true
unfolding swap_type
swap_type_fits source v t =
    either fit (eqb t 3) (swapping_fits source v)
    (either fit (eqb t 4) refl (either fit (eqb t 12) refl (either fit (eqb t 16) refl refl)))

-- "6 any message"
swap_answer_fits : (source : VcsSwapSource) (v : Bool) (m : Message) → fit (swap_answer source v m) ≡ true
swap_answer_fits source v (Message.Request p) = refl
swap_answer_fits source v (Message.EprRequest p) = refl
swap_answer_fits source v (Message.EprMode p) = refl
swap_answer_fits source v (Message.Control t) = swap_type_fits source v t
swap_answer_fits source v (Message.ExtendedControl p) = refl
swap_answer_fits source v Message.Other = refl
swap_answer_fits source v (Message.SinkCapabilities good) = refl
swap_answer_fits source v (Message.EprSinkCapabilities good) = refl

fed_fits : (v : Bool) (source : VcsSwapSource) → fit (writing (vconn_source_to v) (ended source)) ≡ true
fed_fits v VcsSwapSource.Message = refl
fed_fits v VcsSwapSource.Epr = refl

vconn_fits : (source : VcsSwapSource) (v : Bool) (s : VcsState) → Fitting (vconn_swap_awaits source v s)
unfolding row hearing fits one_of message_fits timeout_fits receives
vconn_fits source v VcsState.SendSwap o = as_sent (awaited_of (vconn_swap_awaits source v VcsState.SendSwap)) refl _ refl o
vconn_fits source v VcsState.SwapAnswer o =
    as_heard (awaited_of (vconn_swap_awaits source v VcsState.SwapAnswer)) _ refl _ _ (swap_answer_fits source v) swap_failed_fits o
vconn_fits source v VcsState.EvaluateSwap o = as_asked (awaited_of (vconn_swap_awaits source v VcsState.EvaluateSwap)) refl _ _ refl refl o
vconn_fits source v VcsState.AcceptSwap o = as_sent (awaited_of (vconn_swap_awaits source v VcsState.AcceptSwap)) refl _ (swapping_fits source v) o
vconn_fits source v VcsState.RejectSwap o = as_sent (awaited_of (vconn_swap_awaits source v VcsState.RejectSwap)) refl _ (ended_fits source) o
vconn_fits source v VcsState.WaitForVconn o =
    as_heard (awaited_of (vconn_swap_awaits source v VcsState.WaitForVconn)) _ refl _ _ (only_fits 6 _ refl) (λ e. refl) o
vconn_fits source v VcsState.TurnOffVconn o =
    as_driven (awaited_of (vconn_swap_awaits source v VcsState.TurnOffVconn)) refl _ _ (fed_fits false source) o
vconn_fits source v VcsState.TurnOnVconn o = as_driven (awaited_of (vconn_swap_awaits source v VcsState.TurnOnVconn)) refl _ _ refl o
vconn_fits source v VcsState.SendPsRdy o = as_sent (awaited_of (vconn_swap_awaits source v VcsState.SendPsRdy)) refl _ (ended_fits source) o
vconn_fits source v VcsState.VcsForceVconn o =
    as_driven (awaited_of (vconn_swap_awaits source v VcsState.VcsForceVconn)) refl _ _ (fed_fits true source) o

-- 29: "control 3, 4 or 12 (that message only)"
three_picked : (a b c : Bool) (x y : Next) → fit x ≡ true → fit y ≡ true → fit (a ⇒ x ∣ b ⇒ y ∣ c ⇒ y ∣ misfit) ≡ (a || (b || c))
three_picked true b c x y h k = h
three_picked false true c x y h k = k
three_picked false false true x y h k = k
three_picked false false false x y h k = refl

role_answer_fits : (m : Message) → fit (role_answer m) ≡ (is_control 3 m || (is_control 4 m || is_control 12 m))
unfolding role_answer_type
role_answer_fits (Message.Request p) = refl
role_answer_fits (Message.EprRequest p) = refl
role_answer_fits (Message.EprMode p) = refl
role_answer_fits (Message.Control t) = three_picked (eqb t 3) (eqb t 4) (eqb t 12) _ _ refl refl
role_answer_fits (Message.ExtendedControl p) = refl
role_answer_fits Message.Other = refl
role_answer_fits (Message.SinkCapabilities good) = refl
role_answer_fits (Message.EprSinkCapabilities good) = refl

data_fits : (u : DataRole) (s : DataRoleSwap) → Fitting (data_swap_awaits u s)
unfolding row hearing fits one_of message_fits timeout_fits receives
data_fits u DataRoleSwap.Evaluate o = as_asked (awaited_of (data_swap_awaits u DataRoleSwap.Evaluate)) refl _ _ refl refl o
data_fits u DataRoleSwap.Accept o = as_sent (awaited_of (data_swap_awaits u DataRoleSwap.Accept)) refl _ refl o
data_fits u DataRoleSwap.Change o = as_done (awaited_of (data_swap_awaits u DataRoleSwap.Change)) refl _ refl o
data_fits u DataRoleSwap.Send o = as_sent (awaited_of (data_swap_awaits u DataRoleSwap.Send)) refl _ refl o
data_fits u DataRoleSwap.Answer o = as_heard (awaited_of (data_swap_awaits u DataRoleSwap.Answer)) _ refl _ _ role_answer_fits swap_failed_fits o
data_fits u DataRoleSwap.Reject o = as_sent (awaited_of (data_swap_awaits u DataRoleSwap.Reject)) refl _ refl o

fast_fits : (s : FastPowerRoleSwap) → Fitting (fast_swap_awaits s)
unfolding row hearing fits one_of message_fits timeout_fits receives
fast_fits FastPowerRoleSwap.Evaluate o = as_asked (awaited_of (fast_swap_awaits FastPowerRoleSwap.Evaluate)) refl _ _ refl refl o
fast_fits FastPowerRoleSwap.Accept o = as_tried (awaited_of (fast_swap_awaits FastPowerRoleSwap.Accept)) refl _ _ refl (λ e. refl) o
fast_fits FastPowerRoleSwap.TransitionToOff o = as_done (awaited_of (fast_swap_awaits FastPowerRoleSwap.TransitionToOff)) refl _ refl o
fast_fits FastPowerRoleSwap.AssertRd o = as_done (awaited_of (fast_swap_awaits FastPowerRoleSwap.AssertRd)) refl _ refl o
fast_fits FastPowerRoleSwap.WaitSourceOn o = as_sent (awaited_of (fast_swap_awaits FastPowerRoleSwap.WaitSourceOn)) refl _ refl o
fast_fits FastPowerRoleSwap.SourceOn o =
    as_heard (awaited_of (fast_swap_awaits FastPowerRoleSwap.SourceOn)) _ refl _ _ (only_fits 6 _ refl) (λ e. refl) o

requested_fits : (p : Option PowerSource) → fit (SourcePort.awaited_request p) ≡ true
requested_fits None = refl
requested_fits (Some q) = refl

-- "5 await request (0, 1: Request, EprRequest)"
request_of_fits : (m : Mode) (x : Message) → fit (SourcePort.request_of m x) ≡ eqb (class x) (mode_number m)
request_of_fits Mode.Spr (Message.Request p) = requested_fits p
request_of_fits Mode.Epr (Message.Request p) = refl
request_of_fits Mode.Spr (Message.EprRequest p) = refl
request_of_fits Mode.Epr (Message.EprRequest p) = requested_fits p
request_of_fits Mode.Spr (Message.EprMode p) = refl
request_of_fits Mode.Epr (Message.EprMode p) = refl
request_of_fits Mode.Spr (Message.Control t) = refl
request_of_fits Mode.Epr (Message.Control t) = refl
request_of_fits Mode.Spr (Message.ExtendedControl p) = refl
request_of_fits Mode.Epr (Message.ExtendedControl p) = refl
request_of_fits Mode.Spr Message.Other = refl
request_of_fits Mode.Epr Message.Other = refl
request_of_fits Mode.Spr (Message.SinkCapabilities good) = refl
request_of_fits Mode.Epr (Message.SinkCapabilities good) = refl
request_of_fits Mode.Spr (Message.EprSinkCapabilities good) = refl
request_of_fits Mode.Epr (Message.EprSinkCapabilities good) = refl

capabilities_fits : (m : Mode) (x : Exchange) → Fitting (SourcePort.send_capabilities_awaits m x)
unfolding row hearing fits one_of message_fits timeout_fits receives
capabilities_fits m Exchange.Transmit o = as_sent (awaited_of (SourcePort.send_capabilities_awaits m Exchange.Transmit)) refl _ refl o
capabilities_fits m Exchange.Receive o =
    as_heard (awaited_of (SourcePort.send_capabilities_awaits m Exchange.Receive)) _ refl _ _ (request_of_fits m) (λ e. refl) o

-- "17 receive (1 SPR sink capabilities, 2 EPR ones ..: that message only"
sink_cap_of_fits : (m : Mode) (x : Message) → fit (SourcePort.sink_cap_of m x) ≡ receives (1 + mode_number m) x
unfolding receives
sink_cap_of_fits Mode.Spr (Message.Request p) = refl
sink_cap_of_fits Mode.Epr (Message.Request p) = refl
sink_cap_of_fits Mode.Spr (Message.EprRequest p) = refl
sink_cap_of_fits Mode.Epr (Message.EprRequest p) = refl
sink_cap_of_fits Mode.Spr (Message.EprMode p) = refl
sink_cap_of_fits Mode.Epr (Message.EprMode p) = refl
sink_cap_of_fits Mode.Spr (Message.Control t) = refl
sink_cap_of_fits Mode.Epr (Message.Control t) = refl
sink_cap_of_fits Mode.Spr (Message.ExtendedControl p) = refl
sink_cap_of_fits Mode.Epr (Message.ExtendedControl p) = refl
sink_cap_of_fits Mode.Spr Message.Other = refl
sink_cap_of_fits Mode.Epr Message.Other = refl
sink_cap_of_fits Mode.Spr (Message.SinkCapabilities true) = refl
sink_cap_of_fits Mode.Spr (Message.SinkCapabilities false) = refl
sink_cap_of_fits Mode.Epr (Message.SinkCapabilities good) = refl
sink_cap_of_fits Mode.Spr (Message.EprSinkCapabilities good) = refl
sink_cap_of_fits Mode.Epr (Message.EprSinkCapabilities true) = refl
sink_cap_of_fits Mode.Epr (Message.EprSinkCapabilities false) = refl

sink_cap_fits : (m : Mode) (w : SinkCapWait) → Fitting (SourcePort.get_sink_cap_awaits m w)
unfolding row hearing fits one_of message_fits timeout_fits
sink_cap_fits Mode.Spr SinkCapWait.Transmit o = as_sent (awaited_of (SourcePort.get_sink_cap_awaits Mode.Spr SinkCapWait.Transmit)) refl _ refl o
sink_cap_fits Mode.Epr SinkCapWait.Transmit o = as_sent (awaited_of (SourcePort.get_sink_cap_awaits Mode.Epr SinkCapWait.Transmit)) refl _ refl o
sink_cap_fits m SinkCapWait.Receive o =
    as_heard (awaited_of (SourcePort.get_sink_cap_awaits m SinkCapWait.Receive)) _ refl _ _ (sink_cap_of_fits m) sink_cap_failed_fits o
sink_cap_fits m SinkCapWait.Inform o = as_done (awaited_of (SourcePort.get_sink_cap_awaits m SinkCapWait.Inform)) refl _ refl o
sink_cap_fits m SinkCapWait.InformNone o = as_done (awaited_of (SourcePort.get_sink_cap_awaits m SinkCapWait.InformNone)) refl _ refl o

-- "11 Ready wait (any message, Event; .. and only then those timeouts)"
epr_action_fits : (m : Mode) (a : ℕ) → fit (epr_action m a) ≡ true
unfolding epr_action
epr_action_fits m a = either fit (eqb a 1) (by_mode m _ _ refl refl) (either fit (eqb a 5) (by_mode m _ _ refl refl) refl)

needs_dual_fits : (dual : Bool) (n : Next) → fit n ≡ true → fit (needs_dual dual n) ≡ true
needs_dual_fits dual n h = either fit dual h refl

control_fits : (m : Mode) (dual : Bool) (t : ℕ) → fit (control m dual t) ≡ true
unfolding control
control_fits m dual t =
    either fit (eqb t 13) refl
    (either fit (eqb t 7) (by_mode m _ _ refl refl)
    (either fit (eqb t 11) refl
    (either fit (eqb t 9) (needs_dual_fits dual _ (by_mode m _ _ refl refl))
    (either fit (eqb t 10) (needs_dual_fits dual _ refl)
    (either fit (eqb t 19) (needs_dual_fits dual _ refl)
    (either fit (eqb t 8) (needs_dual_fits dual _ refl)
    (either fit (eqb t 16) refl refl)))))))

extended_fits : (m : Mode) (dual : Bool) (t : ℕ) → fit (extended_type m dual t) ≡ true
unfolding extended_type
extended_fits m dual t =
    either fit (eqb t 1) (by_mode m _ _ refl refl)
    (either fit (eqb t 2) (needs_dual_fits dual _ refl) (either fit (eqb t 3) refl refl))

payload_fits : (p : Option PowerSource) → fit (requested p) ≡ true
payload_fits None = refl
payload_fits (Some q) = refl

dispatched_fits : (m : Mode) (dual : Bool) (x : Message) → fit (dispatched m dual x) ≡ true
unfolding dispatched epr_mode extended_control
dispatched_fits m dual (Message.Request p) = by_mode m _ _ (payload_fits p) refl
dispatched_fits m dual (Message.EprRequest p) = by_mode m _ _ refl (payload_fits p)
dispatched_fits m dual (Message.EprMode None) = refl
dispatched_fits m dual (Message.EprMode (Some w)) = epr_action_fits m _
dispatched_fits m dual (Message.Control t) = control_fits m dual t
dispatched_fits m dual (Message.ExtendedControl None) = refl
dispatched_fits m dual (Message.ExtendedControl (Some t)) = extended_fits m dual t
dispatched_fits m dual Message.Other = refl
dispatched_fits m dual (Message.SinkCapabilities good) = refl
dispatched_fits m dual (Message.EprSinkCapabilities good) = refl

event_fits : (e : Event) → fit (SourcePort.event e) ≡ true
event_fits Event.None = refl
event_fits Event.UpdatedSourceCapabilities = refl
event_fits Event.RequestSinkCapabilities = refl
event_fits Event.RequestSourceCapabilities = refl
event_fits Event.RequestEprSourceCapabilities = refl
event_fits Event.ExitEprMode = refl
event_fits Event.RequestVconnSwap = refl
event_fits Event.RequestDataRoleSwap = refl
event_fits Event.RequestPowerRoleSwap = refl

ready_fits : (m : Mode) (p dual : Bool) → Fitting (SourcePort.ready_await m p dual)
unfolding fits one_of message_fits timeout_fits
ready_fits m p dual Outcome.Done = refl
ready_fits m p dual (Outcome.Failed e) = refl
ready_fits m p dual Outcome.DpmFailed = refl
ready_fits m p dual Outcome.NoSafe = refl
ready_fits m p dual (Outcome.Message x) = dispatched_fits m dual x
ready_fits m p dual (Outcome.Lookup y) = refl
ready_fits m p dual (Outcome.Evaluation v) = refl
ready_fits m p dual (Outcome.YesNo b) = refl
ready_fits m p dual (Outcome.Event e) = event_fits e
ready_fits Mode.Spr true dual (Outcome.Timeout Timeout.Pps) = refl
ready_fits Mode.Spr false dual (Outcome.Timeout Timeout.Pps) = refl
ready_fits Mode.Epr true dual (Outcome.Timeout Timeout.Pps) = refl
ready_fits Mode.Epr false dual (Outcome.Timeout Timeout.Pps) = refl
ready_fits Mode.Spr true dual (Outcome.Timeout Timeout.KeepAlive) = refl
ready_fits Mode.Spr false dual (Outcome.Timeout Timeout.KeepAlive) = refl
ready_fits Mode.Epr true dual (Outcome.Timeout Timeout.KeepAlive) = refl
ready_fits Mode.Epr false dual (Outcome.Timeout Timeout.KeepAlive) = refl
ready_fits m p dual (Outcome.Timeout Timeout.FiveSeconds) = refl

safe_fits : Fitting (SourcePort.disabled_awaits DisabledWait.Supply)
unfolding fits one_of message_fits timeout_fits
safe_fits Outcome.Done = refl
safe_fits (Outcome.Failed e) = refl
safe_fits Outcome.DpmFailed = refl
safe_fits Outcome.NoSafe = refl
safe_fits (Outcome.Message x) = refl
safe_fits (Outcome.Lookup y) = refl
safe_fits (Outcome.Evaluation v) = refl
safe_fits (Outcome.YesNo b) = refl
safe_fits (Outcome.Event e) = refl
safe_fits (Outcome.Timeout Timeout.Pps) = refl
safe_fits (Outcome.Timeout Timeout.KeepAlive) = refl
safe_fits (Outcome.Timeout Timeout.FiveSeconds) = refl

woken_fits : (e : Event) → fit (SourcePort.new_capabilities e) ≡ true
woken_fits Event.None = refl
woken_fits Event.UpdatedSourceCapabilities = refl
woken_fits Event.RequestSinkCapabilities = refl
woken_fits Event.RequestSourceCapabilities = refl
woken_fits Event.RequestEprSourceCapabilities = refl
woken_fits Event.ExitEprMode = refl
woken_fits Event.RequestVconnSwap = refl
woken_fits Event.RequestDataRoleSwap = refl
woken_fits Event.RequestPowerRoleSwap = refl

new_capabilities_fits : Fitting SourcePort.wait_new_capabilities_await
unfolding fits one_of message_fits timeout_fits
new_capabilities_fits Outcome.Done = refl
new_capabilities_fits (Outcome.Failed e) = refl
new_capabilities_fits Outcome.DpmFailed = refl
new_capabilities_fits Outcome.NoSafe = refl
new_capabilities_fits (Outcome.Message x) = refl
new_capabilities_fits (Outcome.Lookup y) = refl
new_capabilities_fits (Outcome.Evaluation v) = refl
new_capabilities_fits (Outcome.YesNo b) = refl
new_capabilities_fits (Outcome.Event e) = woken_fits e
new_capabilities_fits (Outcome.Timeout Timeout.Pps) = refl
new_capabilities_fits (Outcome.Timeout Timeout.KeepAlive) = refl
new_capabilities_fits (Outcome.Timeout Timeout.FiveSeconds) = refl

-- In every state an outcome is a misfit exactly where it does not fit the awaited action's number
pub after_fits : (m : Mode) (c : Contract) (u : DataRole) (v : Bool) (p : Port) (s : State) → Fitting (await_of m c u v p s)
unfolding await_of row hearing fits one_of message_fits timeout_fits receives
after_fits m c u v p (State.Startup StartupWait.SwapSourceStart) o =
    as_done (awaited_of (await_of m c u v p (State.Startup StartupWait.SwapSourceStart))) refl _ refl o
after_fits m c u v p (State.Startup StartupWait.SwappedVbus) o =
    as_done (awaited_of (await_of m c u v p (State.Startup StartupWait.SwappedVbus))) refl _ refl o
after_fits m c u v p (State.Startup StartupWait.Vbus) o = as_done (awaited_of (await_of m c u v p (State.Startup StartupWait.Vbus))) refl _ refl o
after_fits m c u v p State.Discovery o = as_done (awaited_of (await_of m c u v p State.Discovery)) refl _ refl o
after_fits m c u v p (State.SendCapabilities x) o = capabilities_fits m x o
after_fits m c u v p State.Ready o = ready_fits m (pps c) p.dual_role o
after_fits m c u v p (State.Disabled DisabledWait.Supply) o = safe_fits o
after_fits m c u v p (State.Disabled DisabledWait.Receive) o =
    as_heard (awaited_of (await_of m c u v p (State.Disabled DisabledWait.Receive))) _ refl _ _ (λ m. refl) disabled_failed_fits o
after_fits m c u v p (State.CapabilityResponse Denial.Reject) o =
    as_sent (awaited_of (await_of m c u v p (State.CapabilityResponse Denial.Reject))) refl _ (denied_fits c Denial.Reject) o
after_fits m c u v p (State.CapabilityResponse Denial.Wait) o =
    as_sent (awaited_of (await_of m c u v p (State.CapabilityResponse Denial.Wait))) refl _ (denied_fits c Denial.Wait) o
after_fits m c u v p (State.HardReset HardResetWait.Signal) o =
    as_sent (awaited_of (await_of m c u v p (State.HardReset HardResetWait.Signal))) refl _ refl o
after_fits m c u v p (State.HardReset HardResetWait.Timer) o =
    as_done (awaited_of (await_of m c u v p (State.HardReset HardResetWait.Timer))) refl _ refl o
after_fits m c u v p State.HardResetReceived o = as_done (awaited_of (await_of m c u v p State.HardResetReceived)) refl _ refl o
after_fits m c u v p (State.TransitionToDefault DefaultWait.VconnOff) o =
    as_driven (awaited_of (await_of m c u v p (State.TransitionToDefault DefaultWait.VconnOff))) refl _ _ refl o
after_fits m c u v p (State.TransitionToDefault DefaultWait.HardReset) o =
    as_driven (awaited_of (await_of m c u v p (State.TransitionToDefault DefaultWait.HardReset))) refl _ _ refl o
after_fits m c u v p (State.TransitionToDefault DefaultWait.VconnOn) o =
    as_driven (awaited_of (await_of m c u v p (State.TransitionToDefault DefaultWait.VconnOn))) refl _ _ refl o
after_fits m c u v p (State.GetSinkCap w) o = sink_cap_fits m w o
after_fits m c u v p State.WaitNewCapabilities o = new_capabilities_fits o
after_fits m c u v p State.EprKeepAlive o = as_sent (awaited_of (await_of m c u v p State.EprKeepAlive)) refl _ refl o
after_fits m c u v p (State.GiveSourceCap asked) o = as_sent (awaited_of (await_of m c u v p (State.GiveSourceCap asked))) refl _ refl o
after_fits m c u v p (State.SendSoftReset Exchange.Transmit) o =
    as_sent (awaited_of (await_of m c u v p (State.SendSoftReset Exchange.Transmit))) refl _ refl o
after_fits m c u v p (State.SendSoftReset Exchange.Receive) o =
    as_heard (awaited_of (await_of m c u v p (State.SendSoftReset Exchange.Receive))) _ refl _ _ (only_fits 3 _ refl) (λ e. refl) o
after_fits m c u v p State.SoftReset o = as_sent (awaited_of (await_of m c u v p State.SoftReset)) refl _ refl o
after_fits m c u v p State.SendNotSupported o = as_sent (awaited_of (await_of m c u v p State.SendNotSupported)) refl _ refl o
after_fits m c u v p State.NotSupportedReceived o = as_done (awaited_of (await_of m c u v p State.NotSupportedReceived)) refl _ refl o
after_fits m c u v p (State.DrpSwap (SwapState.Data s)) o = data_fits u s o
after_fits m c u v p (State.DrpSwap (SwapState.FastPower s)) o = fast_fits s o
after_fits m c u v p (State.DrpGetSourceCap k GetWait.Get) o =
    as_tried (awaited_of (await_of m c u v p (State.DrpGetSourceCap k GetWait.Get))) refl _ _ refl (get_failed_fits k) o
after_fits m c u v p (State.DrpGetSourceCap k GetWait.Inform) o =
    as_done (awaited_of (await_of m c u v p (State.DrpGetSourceCap k GetWait.Inform))) refl _ refl o
after_fits m c u v p (State.DrpGetSourceCap k GetWait.InformNone) o =
    as_done (awaited_of (await_of m c u v p (State.DrpGetSourceCap k GetWait.InformNone))) refl _ refl o
after_fits m c u v p (State.DrpGiveSinkCap k GiveWait.Read) o =
    as_done (awaited_of (await_of m c u v p (State.DrpGiveSinkCap k GiveWait.Read))) refl _ refl o
after_fits m c u v p (State.DrpGiveSinkCap k GiveWait.Transmit) o =
    as_sent (awaited_of (await_of m c u v p (State.DrpGiveSinkCap k GiveWait.Transmit))) refl _ refl o
after_fits m c u v p (State.VconnSwap source s) o = vconn_fits source v s o

lookup_fits : (q : PowerSource) → Fitting (SourcePort.negotiation_awaits Negotiation.Lookup q)
unfolding fits one_of message_fits timeout_fits
lookup_fits q Outcome.Done = refl
lookup_fits q (Outcome.Failed e) = refl
lookup_fits q Outcome.DpmFailed = refl
lookup_fits q Outcome.NoSafe = refl
lookup_fits q (Outcome.Message x) = refl
lookup_fits q (Outcome.Lookup y) = refl
lookup_fits q (Outcome.Evaluation v) = refl
lookup_fits q (Outcome.YesNo b) = refl
lookup_fits q (Outcome.Event e) = refl
lookup_fits q (Outcome.Timeout Timeout.Pps) = refl
lookup_fits q (Outcome.Timeout Timeout.KeepAlive) = refl
lookup_fits q (Outcome.Timeout Timeout.FiveSeconds) = refl

evaluated_fits : (q : PowerSource) (v : CapabilityResponse) → fit (SourcePort.evaluated q v) ≡ true
evaluated_fits q CapabilityResponse.Accept = refl
evaluated_fits q CapabilityResponse.Reject = refl
evaluated_fits q CapabilityResponse.Wait = refl

evaluate_fits : (q : PowerSource) → Fitting (SourcePort.negotiation_awaits Negotiation.Evaluate q)
unfolding fits one_of message_fits timeout_fits
evaluate_fits q Outcome.Done = refl
evaluate_fits q (Outcome.Failed e) = refl
evaluate_fits q Outcome.DpmFailed = refl
evaluate_fits q Outcome.NoSafe = refl
evaluate_fits q (Outcome.Message x) = refl
evaluate_fits q (Outcome.Lookup y) = refl
evaluate_fits q (Outcome.Evaluation v) = evaluated_fits q v
evaluate_fits q (Outcome.YesNo b) = refl
evaluate_fits q (Outcome.Event e) = refl
evaluate_fits q (Outcome.Timeout Timeout.Pps) = refl
evaluate_fits q (Outcome.Timeout Timeout.KeepAlive) = refl
evaluate_fits q (Outcome.Timeout Timeout.FiveSeconds) = refl

-- The same while a request is negotiated
pub negotiation_fits : (w : Negotiation) (q : PowerSource) → Fitting (SourcePort.negotiation_awaits w q)
unfolding row fits one_of message_fits timeout_fits
negotiation_fits Negotiation.Lookup q o = lookup_fits q o
negotiation_fits Negotiation.Evaluate q o = evaluate_fits q o
negotiation_fits Negotiation.Accept q o = as_sent (awaited_of (SourcePort.negotiation_awaits Negotiation.Accept q)) refl _ refl o
negotiation_fits Negotiation.Supply q o = as_driven (awaited_of (SourcePort.negotiation_awaits Negotiation.Supply q)) refl _ _ refl o
negotiation_fits Negotiation.PsRdy q o = as_sent (awaited_of (SourcePort.negotiation_awaits Negotiation.PsRdy q)) refl _ refl o
