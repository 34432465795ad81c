-- The types of src/ and of the crates below, under short names. Assumes nothing.
pub use Rattle.request.specs.declared.PowerSource.{PowerSource}
pub use Rattle.request.specs.declared.Kind.{Kind}
pub use Rattle.model.specs.declared.outcome.CapabilityResponse.{CapabilityResponse}
pub use Rattle.model.specs.declared.outcome.Event.{Event}
pub use Rattle.model.specs.declared.outcome.Message.{Message}
pub use Rattle.model.specs.declared.outcome.Outcome.{Outcome}
pub use Rattle.model.specs.declared.outcome.Timeout.{Timeout}
pub use Rattle.events.specs.declared.decoding.Malformed.{Malformed}
pub use Rattle.model.specs.declared.outcome.Call.{Call}
pub use Rattle.events.specs.declared.fields.Fields.{Fields}
