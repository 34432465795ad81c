-- Entering a state by its kind of entry is what the definition says. Assumes nothing.
use Rattle.std.proofs.Common.{◌≡◌, refl, ap, sym}
use Rattle.model.specs.declared.record.Record.{Record}
use Rattle.model.specs.declared.record.Settings.{Settings}
use Rattle.model.specs.declared.place.DataRoleSwap.{DataRoleSwap}
use Rattle.model.specs.declared.place.DefaultWait.{DefaultWait}
use Rattle.model.specs.declared.place.DisabledWait.{DisabledWait}
use Rattle.model.specs.declared.place.Exchange.{Exchange}
use Rattle.model.specs.declared.place.FastPowerRoleSwap.{FastPowerRoleSwap}
use Rattle.model.specs.declared.place.GetWait.{GetWait}
use Rattle.model.specs.declared.place.GiveWait.{GiveWait}
use Rattle.model.specs.declared.place.HardResetWait.{HardResetWait}
use Rattle.model.specs.declared.place.Place.{Place}
use Rattle.model.specs.declared.place.SinkCapWait.{SinkCapWait}
use Rattle.model.specs.declared.place.StartupWait.{StartupWait}
use Rattle.model.specs.declared.place.State.{State}
use Rattle.model.specs.declared.place.SwapState.{SwapState}
use Rattle.model.specs.declared.place.VcsState.{VcsState}
use Rattle.definition.specs.States.{await_of}
use Rattle.definition.specs.Actions.{none}
use Rattle.definition.specs.Entering.{at_state, arrive, first_wait, blank, begun}
use Rattle.definition.specs.Engine.{tell, come}
use Rattle.awaiting.specs.Issued.{awaited_in}
use Rattle.awaiting.proofs.Issued.{issued_alike}
use Rattle.entering.specs.Steps.{entry, by_entry, waiting}

-- A line an await
pub by_its_entry : (r : Record) (s : State) → by_entry r s (entry s) ≡ come r (Place.Waiting s)
unfolding tell await_of awaited_in
by_its_entry r (State.Startup StartupWait.SwapSourceStart) = refl
by_its_entry r (State.Startup StartupWait.SwappedVbus) = refl
by_its_entry r (State.Startup StartupWait.Vbus) = refl
by_its_entry r State.Discovery = refl
by_its_entry r (State.SendCapabilities Exchange.Transmit) = refl
by_its_entry r (State.SendCapabilities Exchange.Receive) = refl
by_its_entry r State.Ready =
    ap (λ a. waiting (at_state State.Ready r) a none) (sym (issued_alike r.mode r.contract r.data_role r.vconn_source r.port State.Ready))
by_its_entry r (State.Disabled DisabledWait.Supply) = refl
by_its_entry r (State.Disabled DisabledWait.Receive) = refl
by_its_entry r (State.CapabilityResponse d) = refl
by_its_entry r (State.HardReset HardResetWait.Signal) = refl
by_its_entry r (State.HardReset HardResetWait.Timer) = refl
by_its_entry r State.HardResetReceived = refl
by_its_entry r (State.TransitionToDefault DefaultWait.VconnOff) = refl
by_its_entry r (State.TransitionToDefault DefaultWait.HardReset) = refl
by_its_entry r (State.TransitionToDefault DefaultWait.VconnOn) = refl
by_its_entry r (State.GetSinkCap SinkCapWait.Transmit) = refl
by_its_entry r (State.GetSinkCap SinkCapWait.Receive) = refl
by_its_entry r (State.GetSinkCap SinkCapWait.Inform) = refl
by_its_entry r (State.GetSinkCap SinkCapWait.InformNone) = refl
by_its_entry r State.WaitNewCapabilities = refl
by_its_entry r State.EprKeepAlive = refl
by_its_entry r (State.GiveSourceCap asked) = refl
by_its_entry r (State.SendSoftReset Exchange.Transmit) = refl
by_its_entry r (State.SendSoftReset Exchange.Receive) = refl
by_its_entry r State.SoftReset = refl
by_its_entry r State.SendNotSupported = refl
by_its_entry r State.NotSupportedReceived = refl
by_its_entry r (State.DrpSwap (SwapState.Data DataRoleSwap.Evaluate)) = refl
by_its_entry r (State.DrpSwap (SwapState.Data DataRoleSwap.Accept)) = refl
by_its_entry r (State.DrpSwap (SwapState.Data DataRoleSwap.Change)) = refl
by_its_entry r (State.DrpSwap (SwapState.Data DataRoleSwap.Send)) = refl
by_its_entry r (State.DrpSwap (SwapState.Data DataRoleSwap.Answer)) = refl
by_its_entry r (State.DrpSwap (SwapState.Data DataRoleSwap.Reject)) = refl
by_its_entry r (State.DrpSwap (SwapState.FastPower FastPowerRoleSwap.Evaluate)) = refl
by_its_entry r (State.DrpSwap (SwapState.FastPower FastPowerRoleSwap.Accept)) = refl
by_its_entry r (State.DrpSwap (SwapState.FastPower FastPowerRoleSwap.TransitionToOff)) = refl
by_its_entry r (State.DrpSwap (SwapState.FastPower FastPowerRoleSwap.AssertRd)) = refl
by_its_entry r (State.DrpSwap (SwapState.FastPower FastPowerRoleSwap.WaitSourceOn)) = refl
by_its_entry r (State.DrpSwap (SwapState.FastPower FastPowerRoleSwap.SourceOn)) = refl
by_its_entry r (State.DrpGetSourceCap k GetWait.Get) = refl
by_its_entry r (State.DrpGetSourceCap k GetWait.Inform) = refl
by_its_entry r (State.DrpGetSourceCap k GetWait.InformNone) = refl
by_its_entry r (State.DrpGiveSinkCap k GiveWait.Read) = refl
by_its_entry r (State.DrpGiveSinkCap k GiveWait.Transmit) = refl
by_its_entry r (State.VconnSwap by VcsState.SendSwap) = refl
by_its_entry r (State.VconnSwap by VcsState.SwapAnswer) = refl
by_its_entry r (State.VconnSwap by VcsState.EvaluateSwap) = refl
by_its_entry r (State.VconnSwap by VcsState.AcceptSwap) = refl
by_its_entry r (State.VconnSwap by VcsState.RejectSwap) = refl
by_its_entry r (State.VconnSwap by VcsState.WaitForVconn) = refl
by_its_entry r (State.VconnSwap by VcsState.TurnOffVconn) = refl
by_its_entry r (State.VconnSwap by VcsState.TurnOnVconn) = refl
by_its_entry r (State.VconnSwap by VcsState.SendPsRdy) = refl
by_its_entry r (State.VconnSwap by VcsState.VcsForceVconn) = refl

-- Startup reports no attempts, so that what a new record tells is what coming there tells
startup_told : (r : Record) (w : StartupWait) → come r (Place.Waiting (State.Startup w)) ≡ tell (arrive r (Place.Waiting (State.Startup w)))
unfolding tell await_of
startup_told r StartupWait.SwapSourceStart = refl
startup_told r StartupWait.SwappedVbus = refl
startup_told r StartupWait.Vbus = refl

pub begun_told : (s : Settings) → come (blank s) (Place.Waiting (State.Startup (first_wait s.role_swapped))) ≡ tell (begun s)
begun_told s = startup_told (blank s) (first_wait s.role_swapped)
