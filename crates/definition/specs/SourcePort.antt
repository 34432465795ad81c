-- 8.3.3.2 Policy Engine Source Port, an await a row. Assumes nothing.
use Rattle.std.specs.Prelude.{Option, None, Some, ℕ, ◌+◌, Bool, true, false}
use Rattle.notation.specs.Rows.{◌⇒◌∣◌, ◌is◌}
use Rattle.request.specs.Requests.{retyped}
use Rattle.definition.specs.Types.{Action, Message, CapabilityResponse, Event, Timeout, Contract, Mode}
use Rattle.definition.specs.Types.{PowerSource, Finish, Handover, Setting, State}
use Rattle.definition.specs.Types.{Exchange, StartupWait, Negotiation, DisabledWait, Denial, HardResetWait, DefaultWait, SinkCapWait, GetWait}
use Rattle.definition.specs.Types.{SwapState, DataRoleSwap, VcsState, VcsSwapSource}
use Rattle.definition.specs.Next.{Next, misfit, go, stop, finish, hand_over, supply, negotiate, to_ready, to_send_capabilities, to_hard_reset}
use Rattle.definition.specs.Outcomes.{when_done, when_sent, when_driven, when_heard, when_found, when_evaluated, when_safe, when_ready, when_woken}
use Rattle.definition.specs.Messages.{accept, reject, wait, ps_rdy, get_sink_cap, epr_get_sink_cap, epr_keep_alive_ack}
use Rattle.definition.specs.Messages.{rx_hard_reset, receive_timeout, unexpected_message, in_mode, dispatched}
use Rattle.definition.specs.Actions
use Rattle.definition.specs.Awaits.{Await, await, reset_and_await, writes, startup, swapped_startup}
use Rattle.definition.specs.Awaits.{count_capabilities, clear_hard_resets, count_hard_reset}

-- 8.3.3.2.1 PE_SR_Startup: after a swap its timer, then VBUS
abbrev pub startup_awaits : StartupWait → Await
startup_awaits StartupWait.SwapSourceStart = writes swapped_startup
    (reset_and_await Actions.swap_source_start_timer (when_done (go (State.Startup StartupWait.SwappedVbus))))
startup_awaits StartupWait.SwappedVbus = await Actions.wait_for_vbus (when_done to_send_capabilities)
startup_awaits StartupWait.Vbus = writes startup (reset_and_await Actions.wait_for_vbus (when_done to_send_capabilities))

-- 8.3.3.2.2 PE_SRC_Discovery: the SourceCapabilityTimer
abbrev pub discovery_await : Await
discovery_await = writes count_capabilities (await Actions.source_capability_timer (when_done to_send_capabilities))

-- 8.3.3.2.3 PE_SRC_Send_Capabilities: the capabilities, then the sink's request. "A bad request payload in 5 is S.2"
abbrev pub awaited_request : Option PowerSource → Next
awaited_request None = stop unexpected_message
awaited_request (Some q) = negotiate q

abbrev pub request_of : Mode → Message → Next
request_of m (Message.Request p) = in_mode m (awaited_request p) misfit
request_of m (Message.EprRequest p) = in_mode m misfit (awaited_request p)
request_of m (Message.EprMode p) = misfit
request_of m (Message.Control t) = misfit
request_of m (Message.ExtendedControl p) = misfit
request_of m Message.Other = misfit
request_of m (Message.SinkCapabilities good) = misfit
request_of m (Message.EprSinkCapabilities good) = misfit

-- "Done after 4 in SendCapabilities clears the hard count"
abbrev pub send_capabilities_awaits : Mode → Exchange → Await
send_capabilities_awaits m Exchange.Transmit = await (Actions.send_source_capabilities m) (when_sent (go (State.SendCapabilities Exchange.Receive)))
send_capabilities_awaits m Exchange.Receive = writes clear_hard_resets (await (Actions.await_request m) (when_heard (request_of m) stop))

-- 8.3.3.2.4 PE_SRC_Negotiate_Capability: the lookup of an Unknown request, then the evaluation
abbrev pub evaluated : PowerSource → CapabilityResponse → Next
evaluated q CapabilityResponse.Accept = supply Negotiation.Accept q
evaluated q CapabilityResponse.Reject = go (State.CapabilityResponse Denial.Reject)
evaluated q CapabilityResponse.Wait = go (State.CapabilityResponse Denial.Wait)

-- and 8.3.3.2.5 PE_SRC_Transition_Supply: Accept, the supply, PS_RDY
abbrev pub negotiation_awaits : Negotiation → PowerSource → Await
negotiation_awaits Negotiation.Lookup q = await (Actions.look_up q) (when_found (λ f. supply Negotiation.Evaluate (retyped q f)))
negotiation_awaits Negotiation.Evaluate q = await (Actions.evaluate q) (when_evaluated (evaluated q))
negotiation_awaits Negotiation.Accept q = await (Actions.send_control accept) (when_sent (supply Negotiation.Supply q))
negotiation_awaits Negotiation.Supply q = await (Actions.supply_to q) (when_driven (supply Negotiation.PsRdy q) Finish.PortPartnerUnresponsive)
negotiation_awaits Negotiation.PsRdy q = await (Actions.send_control ps_rdy) (when_sent to_ready)

-- 8.3.3.2.6 PE_SRC_Ready: a message, an event of the DPM, or a timeout that runs
abbrev pub event : Event → Next
event Event.None = to_ready
event Event.UpdatedSourceCapabilities = to_send_capabilities
event Event.RequestSinkCapabilities = go (State.GetSinkCap SinkCapWait.Transmit)
event Event.RequestSourceCapabilities = go (State.DrpGetSourceCap Mode.Spr GetWait.Get)
event Event.RequestEprSourceCapabilities = go (State.DrpGetSourceCap Mode.Epr GetWait.Get)
event Event.ExitEprMode = hand_over Handover.EprSendExit
event Event.RequestVconnSwap = go (State.VconnSwap VcsSwapSource.Message VcsState.SendSwap)
event Event.RequestDataRoleSwap = go (State.DrpSwap (SwapState.Data DataRoleSwap.Send))
event Event.RequestPowerRoleSwap = hand_over Handover.PowerSend

abbrev pub ready_timeout : Mode → Bool → Timeout → Next
ready_timeout m pps Timeout.Pps = pps ⇒ to_hard_reset ∣ misfit
ready_timeout m pps Timeout.KeepAlive = in_mode m misfit to_hard_reset
ready_timeout m pps Timeout.FiveSeconds = misfit

abbrev pub ready_await : Mode → Bool → Bool → Await
ready_await m pps dual = await (Actions.ready_wait m pps) (when_ready (dispatched m dual) event (ready_timeout m pps))

-- 8.3.3.2.7 PE_SRC_Disabled: "Disabled leaves only on Failed(0), to HardReset; its failed supply is S.0"
unfoldable pub disabled_failed : ℕ → Next
disabled_failed e = e is rx_hard_reset ⇒ to_hard_reset ∣ go (State.Disabled DisabledWait.Receive)

abbrev pub disabled_awaits : DisabledWait → Await
disabled_awaits DisabledWait.Supply =
    await Actions.supply_safe_5v (when_safe (go (State.Disabled DisabledWait.Receive)) (stop rx_hard_reset) (finish Finish.NoSafeRequest))
disabled_awaits DisabledWait.Receive = await Actions.receive_anything (when_heard (λ m. go (State.Disabled DisabledWait.Receive)) disabled_failed)

-- 8.3.3.2.8 PE_SRC_Capability_Response: "once sent: `_Invalid` with Reject HardReset; Explicit Ready; all others WaitNewCapabilities"
abbrev pub denied : Contract → Denial → Next
denied Contract.Invalid Denial.Reject = to_hard_reset
denied Contract.Invalid Denial.Wait = go State.WaitNewCapabilities
denied (Contract.Explicit q) d = to_ready
denied Contract.Safe5V d = go State.WaitNewCapabilities
denied Contract.Implicit d = go State.WaitNewCapabilities
denied Contract.TransitionToExplicit d = go State.WaitNewCapabilities

abbrev pub denial_type : Denial → ℕ
denial_type Denial.Reject = reject
denial_type Denial.Wait = wait

abbrev pub capability_response_awaits : Contract → Denial → Await
capability_response_awaits c d = await (Actions.send_control (denial_type d)) (when_sent (denied c d))

-- 8.3.3.2.9 PE_SRC_Hard_Reset: the signalling, then the PSHardResetTimer
abbrev pub to_default : Next
to_default = go (State.TransitionToDefault DefaultWait.VconnOff)

abbrev pub hard_reset_awaits : HardResetWait → Await
hard_reset_awaits HardResetWait.Signal = writes count_hard_reset (await Actions.hard_reset_signalling (when_sent (go (State.HardReset HardResetWait.Timer))))
hard_reset_awaits HardResetWait.Timer = await Actions.ps_hard_reset_timer (when_done to_default)

-- 8.3.3.2.10 PE_SRC_Hard_Reset_Received: the PSHardResetTimer
abbrev pub hard_reset_received_await : Await
hard_reset_received_await = await Actions.ps_hard_reset_timer (when_done to_default)

-- 8.3.3.2.11 PE_SRC_Transition_to_default: VCONN off, the DPM's hard reset, VCONN on
abbrev pub default_drive : Action → Next → Await
default_drive a n = await a (when_driven n Finish.PortPartnerUnresponsive)

abbrev pub transition_to_default_awaits : DefaultWait → Await
transition_to_default_awaits DefaultWait.VconnOff = default_drive Actions.drive_vconn_off (go (State.TransitionToDefault DefaultWait.HardReset))
transition_to_default_awaits DefaultWait.HardReset = default_drive Actions.dpm_hard_reset (go (State.TransitionToDefault DefaultWait.VconnOn))
transition_to_default_awaits DefaultWait.VconnOn = default_drive Actions.drive_vconn_on (go (State.Startup StartupWait.Vbus))

-- 8.3.3.2.12 PE_SRC_Get_Sink_Cap: the question, the answer "that message only", what the DPM is told
abbrev pub sink_cap_told : Bool → Next
sink_cap_told true = go (State.GetSinkCap SinkCapWait.Inform)
sink_cap_told false = go (State.GetSinkCap SinkCapWait.InformNone)

abbrev pub sink_cap_of : Mode → Message → Next
sink_cap_of m (Message.Request p) = misfit
sink_cap_of m (Message.EprRequest p) = misfit
sink_cap_of m (Message.EprMode p) = misfit
sink_cap_of m (Message.Control t) = misfit
sink_cap_of m (Message.ExtendedControl p) = misfit
sink_cap_of m Message.Other = misfit
sink_cap_of m (Message.SinkCapabilities good) = in_mode m (sink_cap_told good) misfit
sink_cap_of m (Message.EprSinkCapabilities good) = in_mode m misfit (sink_cap_told good)

unfoldable pub sink_cap_failed : ℕ → Next
sink_cap_failed e = e is receive_timeout ⇒ sink_cap_told false ∣ stop e

abbrev pub ask_sink_cap : Mode → Action
ask_sink_cap Mode.Spr = Actions.send_control get_sink_cap
ask_sink_cap Mode.Epr = Actions.send_extended_control epr_get_sink_cap

abbrev pub get_sink_cap_awaits : Mode → SinkCapWait → Await
get_sink_cap_awaits m SinkCapWait.Transmit = await (ask_sink_cap m) (when_sent (go (State.GetSinkCap SinkCapWait.Receive)))
get_sink_cap_awaits m SinkCapWait.Receive = await (Actions.receive_sink_capabilities m) (when_heard (sink_cap_of m) sink_cap_failed)
get_sink_cap_awaits m SinkCapWait.Inform = await (Actions.inform true (1 + Actions.mode_number m)) (when_done to_ready)
get_sink_cap_awaits m SinkCapWait.InformNone = await (Actions.inform false (1 + Actions.mode_number m)) (when_done to_ready)

-- 8.3.3.2.13 PE_SRC_Wait_New_Capabilities: until the DPM has new capabilities
abbrev pub new_capabilities : Event → Next
new_capabilities Event.None = go State.WaitNewCapabilities
new_capabilities Event.UpdatedSourceCapabilities = to_send_capabilities
new_capabilities Event.RequestSinkCapabilities = go State.WaitNewCapabilities
new_capabilities Event.RequestSourceCapabilities = go State.WaitNewCapabilities
new_capabilities Event.RequestEprSourceCapabilities = go State.WaitNewCapabilities
new_capabilities Event.ExitEprMode = go State.WaitNewCapabilities
new_capabilities Event.RequestVconnSwap = go State.WaitNewCapabilities
new_capabilities Event.RequestDataRoleSwap = go State.WaitNewCapabilities
new_capabilities Event.RequestPowerRoleSwap = go State.WaitNewCapabilities

abbrev pub five_seconds : Timeout → Next
five_seconds Timeout.Pps = misfit
five_seconds Timeout.KeepAlive = misfit
five_seconds Timeout.FiveSeconds = go State.WaitNewCapabilities

abbrev pub wait_new_capabilities_await : Await
wait_new_capabilities_await = await Actions.await_new_capabilities (when_woken new_capabilities five_seconds)

-- 8.3.3.2.14 PE_SRC_EPR_Keep_Alive
abbrev pub epr_keep_alive_await : Await
epr_keep_alive_await = await (Actions.send_extended_control epr_keep_alive_ack) (when_sent to_ready)

-- 8.3.3.2.15 PE_SRC_Give_Source_Cap. "GiveSourceCap sends the kind of the mode". Document 02, order 5: ""crate", as it stands, or "standard", where a give
-- answers by the message that asked"
abbrev pub given : Setting → Mode → Mode → Mode
given Setting.Crate m asked = m
given Setting.Standard m asked = asked

abbrev pub give_source_cap_await : Setting → Mode → Mode → Await
give_source_cap_await g m asked = await (Actions.send_source_capabilities (given g m asked)) (when_sent to_ready)
