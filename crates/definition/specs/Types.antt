-- The types of src/ under short names. Assumes nothing.
use Rattle.std.specs.Prelude.{Option}
pub use Rattle.counters.specs.declared.Counter.{Counter}
pub use Rattle.counters.specs.declared.Increment.{Increment}
pub use Rattle.counters.specs.declared.Exceeded.{Exceeded}
pub use Rattle.request.specs.declared.PowerSource.{PowerSource}
pub use Rattle.request.specs.declared.Kind.{Kind}
pub use Rattle.model.specs.declared.moves.Change.{Change}
pub use Rattle.model.specs.declared.moves.Decided.{Decided}
pub use Rattle.model.specs.declared.moves.Move.{Move}
pub use Rattle.model.specs.declared.moves.Onward.{Onward}
pub use Rattle.model.specs.declared.outcome.Call.{Call}
pub use Rattle.model.specs.declared.outcome.CapabilityResponse.{CapabilityResponse}
pub use Rattle.model.specs.declared.outcome.Event.{Event}
pub use Rattle.model.specs.declared.outcome.Message.{Message}
pub use Rattle.model.specs.declared.outcome.Outcome.{Outcome}
pub use Rattle.model.specs.declared.outcome.Timeout.{Timeout}
pub use Rattle.model.specs.declared.place.DataRole.{DataRole}
pub use Rattle.model.specs.declared.place.DataRoleSwap.{DataRoleSwap}
pub use Rattle.model.specs.declared.place.DefaultWait.{DefaultWait}
pub use Rattle.model.specs.declared.place.Denial.{Denial}
pub use Rattle.model.specs.declared.place.DisabledWait.{DisabledWait}
pub use Rattle.model.specs.declared.place.Exchange.{Exchange}
pub use Rattle.model.specs.declared.place.FastPowerRoleSwap.{FastPowerRoleSwap}
pub use Rattle.model.specs.declared.place.Finish.{Finish}
pub use Rattle.model.specs.declared.place.GetWait.{GetWait}
pub use Rattle.model.specs.declared.place.GiveWait.{GiveWait}
pub use Rattle.model.specs.declared.place.Handover.{Handover}
pub use Rattle.model.specs.declared.place.HardResetWait.{HardResetWait}
pub use Rattle.model.specs.declared.place.Mode.{Mode}
pub use Rattle.model.specs.declared.place.Place.{Place}
pub use Rattle.model.specs.declared.place.SinkCapWait.{SinkCapWait}
pub use Rattle.model.specs.declared.place.StartupWait.{StartupWait}
pub use Rattle.model.specs.declared.place.State.{State}
pub use Rattle.model.specs.declared.place.SwapState.{SwapState}
pub use Rattle.model.specs.declared.place.Negotiation.{Negotiation}
pub use Rattle.model.specs.declared.place.VcsState.{VcsState}
pub use Rattle.model.specs.declared.place.VcsSwapSource.{VcsSwapSource}
pub use Rattle.model.specs.declared.record.Action.{Action}
pub use Rattle.model.specs.declared.record.Answer.{Answer}
pub use Rattle.model.specs.declared.record.Contract.{Contract}
pub use Rattle.model.specs.declared.record.Port.{Port}
pub use Rattle.model.specs.declared.record.Record.{Record}
pub use Rattle.model.specs.declared.record.Setting.{Setting}
pub use Rattle.model.specs.declared.record.Settings.{Settings}
pub use Rattle.model.specs.declared.record.Step.{Step as Told}

-- What a call tells of a record, and of the one that creation may have made
abbrev pub Step : Type 0
Step = Told Record

abbrev pub Created : Type 0
Created = Told (Option Record)
