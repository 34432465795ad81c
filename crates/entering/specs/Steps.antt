-- For the functions of this crate that no other crate calls: the shapes of a step's result, and how a state is entered. Assumes nothing.
use Rattle.std.specs.Prelude.{None, [], ◌∷◌}
use Rattle.model.specs.declared.record.Record.{Record}
use Rattle.model.specs.declared.record.Action.{Action}
use Rattle.model.specs.declared.record.Answer.{Answer}
use Rattle.definition.specs.Types.{Step}
use Rattle.model.specs.declared.place.State.{State}
use Rattle.model.specs.declared.place.Exchange.{Exchange}
use Rattle.model.specs.declared.place.HardResetWait.{HardResetWait}
use Rattle.counters.specs.Counting.{reset}
use Rattle.model.specs.declared.place.Place.{Place}
use Rattle.definition.specs.Actions.{none, protocol_reset, pps}
use Rattle.awaiting.specs.Issued.{awaited_in}
use Rattle.definition.specs.Entering.{at_state, with_hard}
use Rattle.definition.specs.Engine.{come}
use Rattle.entering.specs.declared.standing.Entry.{Entry}

abbrev pub waiting : Record → Action → Action → Step
waiting r first second = record { «record» = r; answer = Answer.Waiting; remaining = None; actions = first ∷ second ∷ [] }

abbrev pub resting : Record → Answer → Step
resting r answer = record { «record» = r; answer = answer; remaining = None; actions = none ∷ none ∷ [] }

-- How a state is entered: most only stand at their first await
abbrev pub entry : State → Entry
entry (State.Startup w) = Entry.Startup w
entry State.Discovery = Entry.Discovery
entry (State.SendCapabilities Exchange.Transmit) = Entry.Stand
entry (State.SendCapabilities Exchange.Receive) = Entry.CapabilitiesSent
entry State.Ready = Entry.Stand
entry (State.Disabled w) = Entry.Stand
entry (State.CapabilityResponse d) = Entry.Stand
entry (State.HardReset HardResetWait.Signal) = Entry.HardReset
entry (State.HardReset HardResetWait.Timer) = Entry.Stand
entry State.HardResetReceived = Entry.Stand
entry (State.TransitionToDefault w) = Entry.Stand
entry (State.GetSinkCap w) = Entry.Stand
entry State.WaitNewCapabilities = Entry.Stand
entry State.EprKeepAlive = Entry.Stand
entry (State.GiveSourceCap asked) = Entry.Stand
entry (State.SendSoftReset Exchange.Transmit) = Entry.ResetAndStand
entry (State.SendSoftReset Exchange.Receive) = Entry.Stand
entry State.SoftReset = Entry.ResetAndStand
entry State.SendNotSupported = Entry.Stand
entry State.NotSupportedReceived = Entry.Stand
entry (State.DrpSwap x) = Entry.Stand
entry (State.DrpGetSourceCap m w) = Entry.Stand
entry (State.DrpGiveSinkCap m w) = Entry.Stand
entry (State.VconnSwap source x) = Entry.Stand

-- What a record awaits in a state, as the code computes it
abbrev pub awaits : Record → State → Action
awaits r s = awaited_in r.mode (pps r.contract) r.data_role r.port.setting s

abbrev pub by_entry : Record → State → Entry → Step
by_entry r s Entry.Stand = waiting (at_state s r) (awaits r s) none
by_entry r s Entry.ResetAndStand = waiting (at_state s r) protocol_reset (awaits r s)
by_entry r s (Entry.Startup w) = come r (Place.Waiting (State.Startup w))
by_entry r s Entry.Discovery = come r (Place.Waiting State.Discovery)
by_entry r s Entry.CapabilitiesSent = waiting (at_state (State.SendCapabilities Exchange.Receive) (with_hard (reset r.hard_reset_counter) r))
    (awaits r s) none
by_entry r s Entry.HardReset = come r (Place.Waiting (State.HardReset HardResetWait.Signal))
