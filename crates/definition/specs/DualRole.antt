-- 8.3.3.19 Dual-Role Port, as far as it is not handed over, an await a row. Assumes nothing.
use Rattle.std.specs.Prelude.{ℕ, true, false}
use Rattle.notation.specs.Rows.{◌⇒◌∣◌, ◌is◌}
use Rattle.definition.specs.Types.{DataRole, Message, Mode, State, SwapState, DataRoleSwap, FastPowerRoleSwap, GetWait, GiveWait, Finish}
use Rattle.definition.specs.Next.{Next, misfit, go, stop, finish, writing, data_role_to, to_ready, to_hard_reset}
use Rattle.definition.specs.Outcomes.{when_done, when_sent, when_tried, when_heard, when_control, when_asked, on_control, swap_failed}
use Rattle.definition.specs.Messages.{accept, reject, wait, ps_rdy, dr_swap, receive_timeout}
use Rattle.definition.specs.Actions
use Rattle.definition.specs.Awaits.{Await, await}

abbrev data_swap : DataRoleSwap → Next
data_swap s = go (State.DrpSwap (SwapState.Data s))

-- The role that a swap leads to
abbrev pub opposite : DataRole → DataRole
opposite DataRole.Ufp = DataRole.Dfp
opposite DataRole.Dfp = DataRole.Ufp

-- In answer to DR_Swap: Accept goes on, Reject and Wait to Ready; "that message only"
unfoldable pub role_answer_type : ℕ → Next
role_answer_type t =
    t is accept ⇒ data_swap DataRoleSwap.Change ∣
    t is reject ⇒ to_ready ∣
    t is wait ⇒ to_ready ∣
    misfit

abbrev pub role_answer : Message → Next
role_answer = on_control misfit role_answer_type

-- 8.3.3.19.1 DFP to UFP and 8.3.3.19.2 UFP to DFP Data Role Swap, whose states have the same numbers, for a port of this role
abbrev pub data_swap_awaits : DataRole → DataRoleSwap → Await
-- 8.3.3.19.1.2 PE_DRS_DFP_UFP_Evaluate_Swap, 8.3.3.19.2.2 PE_DRS_UFP_DFP_Evaluate_Swap
data_swap_awaits role DataRoleSwap.Evaluate = await Actions.ask_data_swap (when_asked (data_swap DataRoleSwap.Accept) (data_swap DataRoleSwap.Reject))
-- 8.3.3.19.1.3 PE_DRS_DFP_UFP_Accept_Swap, 8.3.3.19.2.3 PE_DRS_UFP_DFP_Accept_Swap
data_swap_awaits role DataRoleSwap.Accept = await (Actions.send_control accept) (when_sent (data_swap DataRoleSwap.Change))
-- 8.3.3.19.1.4 PE_DRS_DFP_UFP_Change_to_UFP_Swap, 8.3.3.19.2.4 PE_DRS_UFP_DFP_Change_to_DFP_Swap: the role is written once the DPM says
-- that the port has changed
data_swap_awaits role DataRoleSwap.Change = await (Actions.swap_data_role (opposite role)) (when_done (writing (data_role_to (opposite role)) to_ready))
-- 8.3.3.19.1.5 PE_DRS_DFP_UFP_Send_Swap, 8.3.3.19.2.5 PE_DRS_UFP_DFP_Send_Swap
data_swap_awaits role DataRoleSwap.Send = await (Actions.send_control dr_swap) (when_sent (data_swap DataRoleSwap.Answer))
data_swap_awaits role DataRoleSwap.Answer = await Actions.await_swap_answer (when_heard role_answer swap_failed)
-- 8.3.3.19.1.6 PE_DRS_DFP_UFP_Reject_Swap, 8.3.3.19.2.6 PE_DRS_UFP_DFP_Reject_Swap
data_swap_awaits role DataRoleSwap.Reject = await (Actions.send_control reject) (when_sent to_ready)

abbrev fast : FastPowerRoleSwap → Next
fast s = go (State.DrpSwap (SwapState.FastPower s))

-- 8.3.3.19.5 Source to Sink Fast Role Swap. "A failed fast Accept goes to HardReset"
abbrev pub fast_swap_awaits : FastPowerRoleSwap → Await
-- 8.3.3.19.5.2 PE_FRS_SRC_SNK_Evaluate_Swap
fast_swap_awaits FastPowerRoleSwap.Evaluate = await Actions.ask_fr_swap_signaled (when_asked (fast FastPowerRoleSwap.Accept) to_hard_reset)
-- 8.3.3.19.5.3 PE_FRS_SRC_Accept
fast_swap_awaits FastPowerRoleSwap.Accept = await (Actions.send_control accept) (when_tried (fast FastPowerRoleSwap.TransitionToOff) (λ e. to_hard_reset))
-- 8.3.3.19.5.4 PE_FRS_SRC_Transition_to_off
fast_swap_awaits FastPowerRoleSwap.TransitionToOff = await Actions.discharge_vbus (when_done (fast FastPowerRoleSwap.AssertRd))
-- 8.3.3.19.5.5 PE_FRS_SRC_Assert_Rd
fast_swap_awaits FastPowerRoleSwap.AssertRd = await Actions.cc_sink (when_done (fast FastPowerRoleSwap.WaitSourceOn))
-- 8.3.3.19.5.6 PE_FRS_SRC_Wait_Source_on
fast_swap_awaits FastPowerRoleSwap.WaitSourceOn = await (Actions.send_control ps_rdy) (when_sent (fast FastPowerRoleSwap.SourceOn))
fast_swap_awaits FastPowerRoleSwap.SourceOn = await Actions.receive_ps_rdy_source_on (when_control ps_rdy (finish Finish.SwapToSink))

-- The swaps that are run here; the power role swap is handed over
abbrev pub drp_swap_awaits : DataRole → SwapState → Await
drp_swap_awaits role (SwapState.Data s) = data_swap_awaits role s
drp_swap_awaits role (SwapState.FastPower s) = fast_swap_awaits s

-- 8.3.3.19.7.1 PE_DR_SRC_Get_Source_Cap: what was received, or that nothing was
unfoldable pub get_failed : Mode → ℕ → Next
get_failed m e = e is receive_timeout ⇒ go (State.DrpGetSourceCap m GetWait.InformNone) ∣ stop e

abbrev pub get_source_cap_awaits : Mode → GetWait → Await
get_source_cap_awaits m GetWait.Get = await (Actions.get_remote_capabilities m) (when_tried (go (State.DrpGetSourceCap m GetWait.Inform)) (get_failed m))
get_source_cap_awaits m GetWait.Inform = await (Actions.inform true 3) (when_done to_ready)
get_source_cap_awaits m GetWait.InformNone = await (Actions.inform false 3) (when_done to_ready)

-- 8.3.3.19.8.1 PE_DR_SRC_Give_Sink_Cap: the DPM's capabilities, sent
abbrev pub give_sink_cap_awaits : Mode → GiveWait → Await
give_sink_cap_awaits m GiveWait.Read = await Actions.read_own_sink_capabilities (when_done (go (State.DrpGiveSinkCap m GiveWait.Transmit)))
give_sink_cap_awaits m GiveWait.Transmit = await (Actions.send_sink_capabilities m) (when_sent to_ready)
