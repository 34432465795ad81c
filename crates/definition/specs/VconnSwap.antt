-- 8.3.3.20 VCONN Swap, an await a row, for a port that feeds VCONN or does not. Assumes nothing.
use Rattle.std.specs.Prelude.{ℕ, Bool, true, false}
use Rattle.notation.specs.Rows.{◌⇒◌∣◌, ◌is◌}
use Rattle.definition.specs.Types.{Message, State, VcsState, VcsSwapSource, Handover, Finish, Action}
use Rattle.definition.specs.Next.{Next, vconn_source_to, go, stop, hand_over, to_ready, writing}
use Rattle.definition.specs.Outcomes.{when_sent, when_driven, when_heard, when_control, when_asked, on_control, swap_failed}
use Rattle.definition.specs.Messages.{accept, reject, wait, ps_rdy, vconn_swap, not_supported, unexpected_message}
use Rattle.definition.specs.Actions
use Rattle.definition.specs.Awaits.{Await, await}

abbrev swap : VcsSwapSource → VcsState → Next
swap source state = go (State.VconnSwap source state)

-- A swap that a message or the DPM began ends in Ready; one for EPR entry goes on to DiscoverCable
abbrev pub ended : VcsSwapSource → Next
ended VcsSwapSource.Message = to_ready
ended VcsSwapSource.Epr = hand_over Handover.EprDiscoverCable

-- Once accepted: the VCONN source waits for the other to turn it on, the other turns it on
abbrev pub swapping : VcsSwapSource → Bool → Next
swapping source v = v ⇒ swap source VcsState.WaitForVconn ∣ swap source VcsState.TurnOnVconn

-- "In answer to VconnSwap: 3 goes on, 4 and 12 to Ready, 16 informs, other messages S.2, timeout Ready"
unfoldable pub swap_type : VcsSwapSource → Bool → ℕ → Next
swap_type source v t =
    t is accept ⇒ swapping source v ∣
    t is reject ⇒ to_ready ∣
    t is wait ⇒ to_ready ∣
    t is not_supported ⇒ go State.NotSupportedReceived ∣
    stop unexpected_message

abbrev pub swap_answer : VcsSwapSource → Bool → Message → Next
swap_answer source v = on_control (stop unexpected_message) (swap_type source v)

-- Document 02, order 6. "driving VCONN off in TurnOffVconn clears it, and driving it on in TurnOnVconn or VcsForceVconn sets it, each once the DPM
-- reports success" (under "standard": `remembered`). Where VCONN cannot be driven: error recovery
abbrev pub vconn_drive : Action → Bool → Next → Await
vconn_drive a v n = await a (when_driven (writing (vconn_source_to v) n) Finish.ReconnectionRequired)

abbrev pub vconn_swap_awaits : VcsSwapSource → Bool → VcsState → Await
-- 8.3.3.20.1 PE_VCS_Send_Swap
vconn_swap_awaits source v VcsState.SendSwap = await (Actions.send_control vconn_swap) (when_sent (swap source VcsState.SwapAnswer))
vconn_swap_awaits source v VcsState.SwapAnswer = await Actions.receive_any (when_heard (swap_answer source v) swap_failed)
-- 8.3.3.20.2 PE_VCS_Evaluate_Swap
vconn_swap_awaits source v VcsState.EvaluateSwap = await Actions.ask_vconn_swap (when_asked (swap source VcsState.AcceptSwap) (swap source VcsState.RejectSwap))
-- 8.3.3.20.3 PE_VCS_Accept_Swap
vconn_swap_awaits source v VcsState.AcceptSwap = await (Actions.send_control accept) (when_sent (swapping source v))
-- 8.3.3.20.4 PE_VCS_Reject_Swap
vconn_swap_awaits source v VcsState.RejectSwap = await (Actions.send_control reject) (when_sent (ended source))
-- 8.3.3.20.5 PE_VCS_Wait_for_Vconn
vconn_swap_awaits source v VcsState.WaitForVconn = await Actions.receive_ps_rdy_vconn_on (when_control ps_rdy (swap source VcsState.TurnOffVconn))
-- 8.3.3.20.6 PE_VCS_Turn_Off_Vconn
vconn_swap_awaits source v VcsState.TurnOffVconn = vconn_drive Actions.drive_vconn_off false (ended source)
-- 8.3.3.20.7 PE_VCS_Turn_On_Vconn
vconn_swap_awaits source v VcsState.TurnOnVconn = vconn_drive Actions.drive_vconn_on true (swap source VcsState.SendPsRdy)
-- 8.3.3.20.8 PE_VCS_Send_PS_Rdy
vconn_swap_awaits source v VcsState.SendPsRdy = await (Actions.send_control ps_rdy) (when_sent (ended source))
-- 8.3.3.20.9 PE_VCS_Force_Vconn
vconn_swap_awaits source v VcsState.VcsForceVconn = vconn_drive Actions.drive_vconn_on true (ended source)
