-- The await of each state, for a record in this mode, with this contract and this data role, that feeds VCONN or does not, with this port.
-- Assumes nothing.
use Rattle.std.specs.Prelude.{Bool}
use Rattle.definition.specs.Types.{Contract, DataRole, Mode, Outcome, Port, Record, State}
use Rattle.definition.specs.Next.{Next}
use Rattle.definition.specs.Actions.{pps}
use Rattle.definition.specs.Awaits.{Await}
use Rattle.definition.specs.SourcePort
use Rattle.definition.specs.SoftReset.{send_soft_reset_awaits, soft_reset_await}
use Rattle.definition.specs.NotSupported.{send_not_supported_await, not_supported_received_await}
use Rattle.definition.specs.DualRole.{drp_swap_awaits, get_source_cap_awaits, give_sink_cap_awaits}
use Rattle.definition.specs.VconnSwap.{vconn_swap_awaits}

unfoldable pub await_of : Mode → Contract → DataRole → Bool → Port → State → Await
await_of m c u v p (State.Startup w) = SourcePort.startup_awaits w
await_of m c u v p State.Discovery = SourcePort.discovery_await
await_of m c u v p (State.SendCapabilities x) = SourcePort.send_capabilities_awaits m x
await_of m c u v p State.Ready = SourcePort.ready_await m (pps c) p.dual_role
await_of m c u v p (State.Disabled w) = SourcePort.disabled_awaits w
await_of m c u v p (State.CapabilityResponse d) = SourcePort.capability_response_awaits c d
await_of m c u v p (State.HardReset w) = SourcePort.hard_reset_awaits w
await_of m c u v p State.HardResetReceived = SourcePort.hard_reset_received_await
await_of m c u v p (State.TransitionToDefault w) = SourcePort.transition_to_default_awaits w
await_of m c u v p (State.GetSinkCap w) = SourcePort.get_sink_cap_awaits m w
await_of m c u v p State.WaitNewCapabilities = SourcePort.wait_new_capabilities_await
await_of m c u v p State.EprKeepAlive = SourcePort.epr_keep_alive_await
await_of m c u v p (State.GiveSourceCap asked) = SourcePort.give_source_cap_await p.setting m asked
await_of m c u v p (State.SendSoftReset x) = send_soft_reset_awaits x
await_of m c u v p State.SoftReset = soft_reset_await
await_of m c u v p State.SendNotSupported = send_not_supported_await
await_of m c u v p State.NotSupportedReceived = not_supported_received_await
await_of m c u v p (State.DrpSwap s) = drp_swap_awaits u s
await_of m c u v p (State.DrpGetSourceCap k w) = get_source_cap_awaits k w
await_of m c u v p (State.DrpGiveSinkCap k w) = give_sink_cap_awaits k w
await_of m c u v p (State.VconnSwap source s) = vconn_swap_awaits source v s

abbrev pub standing : Record → State → Await
standing r s = await_of r.mode r.contract r.data_role r.vconn_source r.port s

-- Where an outcome leads, and what is written on the way
abbrev pub after : Record → State → Outcome → Next
after r s = (standing r s).then
