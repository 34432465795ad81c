-- The engine as it stood before document 02, orders 5 and 6: it knows no setting, GiveSourceCap not what asked, and "`vconn_source` only reads".
-- "Equality with the Rust holds under "crate"": proofs/Giving.antt shows that the engine under "crate" is this one. Not said a second time: the awaits
-- of the other states, what else a call writes, the refusals. Were one of these to read the setting, that theorem would fail, since it holds for a record
-- of either. Assumes nothing.
use Rattle.std.specs.Prelude.{Option, None, ℕ, Bool, true, false, List, [], ◌∷◌}
use Rattle.notation.specs.Rows.{◌⇒◌∣◌}
use Rattle.counters.specs.Counting.{increment, reset}
use Rattle.definition.specs.Types.{Call, Contract, Created, DataRole, Mode, Outcome, Place, Record, Settings, State, Step}
use Rattle.definition.specs.Next.{Write, mode, data_role_to, vconn_source_to, Next, to, misfit, to_ready}
use Rattle.definition.specs.Outcomes.{when_sent}
use Rattle.definition.specs.Actions.{Issue, nothing, places, pps, send_source_capabilities}
use Rattle.definition.specs.Awaits.{Await, await}
use Rattle.definition.specs.Awaits.{Entrance, unwritten, startup, swapped_startup, count_capabilities, clear_hard_resets, count_hard_reset}
use Rattle.definition.specs.SourcePort
use Rattle.definition.specs.SoftReset.{send_soft_reset_awaits, soft_reset_await}
use Rattle.definition.specs.NotSupported.{send_not_supported_await, not_supported_received_await}
use Rattle.definition.specs.DualRole.{drp_swap_awaits, get_source_cap_awaits, give_sink_cap_awaits}
use Rattle.definition.specs.VconnSwap.{vconn_swap_awaits}
use Rattle.definition.specs.Entering.{at, at_state, with_contract, with_hard, with_caps, with_mode, with_data_role}
use Rattle.definition.specs.Entering.{discovering, resetting, negotiated, passed_on, blank, first_wait}
use Rattle.definition.specs.Refusals.{sound, bad_event, re_entry, uncreatable}
use Rattle.definition.specs.Engine.{answer, with_remaining, refuse, created, not_created}

-- By dual_role d and vconn_source v, and by no setting
unfoldable pub await_of : Mode → Contract → DataRole → Bool → Bool → State → Await
await_of m c u d v (State.Startup w) = SourcePort.startup_awaits w
await_of m c u d v State.Discovery = SourcePort.discovery_await
await_of m c u d v (State.SendCapabilities x) = SourcePort.send_capabilities_awaits m x
await_of m c u d v State.Ready = SourcePort.ready_await m (pps c) d
await_of m c u d v (State.Disabled w) = SourcePort.disabled_awaits w
await_of m c u d v (State.CapabilityResponse x) = SourcePort.capability_response_awaits c x
await_of m c u d v (State.HardReset w) = SourcePort.hard_reset_awaits w
await_of m c u d v State.HardResetReceived = SourcePort.hard_reset_received_await
await_of m c u d v (State.TransitionToDefault w) = SourcePort.transition_to_default_awaits w
await_of m c u d v (State.GetSinkCap w) = SourcePort.get_sink_cap_awaits m w
await_of m c u d v State.WaitNewCapabilities = SourcePort.wait_new_capabilities_await
await_of m c u d v State.EprKeepAlive = SourcePort.epr_keep_alive_await
-- 8.3.3.2.15 PE_SRC_Give_Source_Cap: "GiveSourceCap sends the kind of the mode"
await_of m c u d v (State.GiveSourceCap asked) = await (send_source_capabilities m) (when_sent to_ready)
await_of m c u d v (State.SendSoftReset x) = send_soft_reset_awaits x
await_of m c u d v State.SoftReset = soft_reset_await
await_of m c u d v State.SendNotSupported = send_not_supported_await
await_of m c u d v State.NotSupportedReceived = not_supported_received_await
await_of m c u d v (State.DrpSwap s) = drp_swap_awaits u s
await_of m c u d v (State.DrpGetSourceCap k w) = get_source_cap_awaits k w
await_of m c u d v (State.DrpGiveSinkCap k w) = give_sink_cap_awaits k w
await_of m c u d v (State.VconnSwap source s) = vconn_swap_awaits source v s

abbrev pub standing : Record → State → Await
standing r s = await_of r.mode r.contract r.data_role r.port.dual_role r.vconn_source s

-- On the way to the next place: who feeds VCONN is not written
abbrev pub write : Write → Record → Record
write (mode m) r = with_mode m r
write (data_role_to d) r = with_data_role d r
write (vconn_source_to v) r = r

abbrev pub written : List Write → Record → Record
written [] r = r
written (w ∷ ws) r = written ws (write w r)

-- 8.3.3.2.1. "Startup without swap sets D; both set SPR and reset capabilities count, never the hard count"
abbrev pub started : Record → Record
started r = with_mode Mode.Spr (with_caps (reset r.caps_counter) r)

abbrev pub entered : Entrance → Record → State → Record
entered startup r s = at_state s (with_contract Contract.Safe5V (started r))
entered swapped_startup r s = at_state s (started r)
entered count_capabilities r s = discovering r (increment r.caps_counter)
entered clear_hard_resets r s = at_state s (with_hard (reset r.hard_reset_counter) r)
entered count_hard_reset r s = resetting r (increment r.hard_reset_counter)
entered unwritten r s = at_state s r

abbrev pub arrive : Record → Place → Record
arrive r (Place.Waiting s) = entered (standing r s).entrance r s
arrive r (Place.Negotiating w q) = negotiated r w q
arrive r (Place.Stopped e) = at (Place.Stopped e) r
arrive r (Place.HandedOver h) = at (Place.HandedOver h) r
arrive r (Place.Finished f) = at (Place.Finished f) r

abbrev pub remaining : Record → Place → Option ℕ
remaining r (Place.Waiting s) = passed_on (standing r s).entrance r
remaining r (Place.Negotiating w q) = None
remaining r (Place.Stopped e) = None
remaining r (Place.HandedOver h) = None
remaining r (Place.Finished f) = None

abbrev pub issues : Record → Place → Issue
issues r (Place.Waiting s) = (standing r s).issues
issues r (Place.Negotiating w q) = (SourcePort.negotiation_awaits w q).issues
issues r (Place.Stopped e) = nothing
issues r (Place.HandedOver h) = nothing
issues r (Place.Finished f) = nothing

unfoldable pub tell : Record → Step
tell r = record { «record» = r; answer = answer r.place; remaining = None; actions = places (issues r r.place) }

abbrev pub come : Record → Place → Step
come r p = with_remaining (remaining r p) (tell (arrive r p))

abbrev pub settle : ℕ → Record → Next → Step
settle n r (to w p) = come (written w r) p
settle n r misfit = refuse n r

abbrev pub resume : Record → Place → Outcome → Step
resume r (Place.Waiting s) o = settle 5 r (bad_event o ⇒ misfit ∣ (standing r s).then o)
resume r (Place.Negotiating w q) o = settle 5 r ((SourcePort.negotiation_awaits w q).then o)
resume r (Place.Stopped e) o = refuse 4 r
resume r (Place.HandedOver h) o = refuse 4 r
resume r (Place.Finished f) o = refuse 2 r

abbrev pub go_back : Record → Place → ℕ → ℕ → Step
go_back r (Place.Waiting s) t b = refuse 3 r
go_back r (Place.Negotiating w q) t b = refuse 3 r
go_back r (Place.Stopped e) t b = settle 6 r (re_entry false r.mode t b)
go_back r (Place.HandedOver h) t b = settle 6 r (re_entry true r.mode t b)
go_back r (Place.Finished f) t b = refuse 2 r

-- Step and re-entry
unfoldable pub take : Record → Call → Step
take r (Call.Outcome o) = sound r ⇒ resume r r.place o ∣ refuse 1 r
take r (Call.ReEntry t b) = sound r ⇒ go_back r r.place t b ∣ refuse 1 r

abbrev pub begun : Settings → Record
begun s = arrive (blank s) (Place.Waiting (State.Startup (first_wait s.role_swapped)))

unfoldable pub create : Settings → Created
create s = uncreatable s ⇒ not_created 7 ∣ created (tell (begun s))
