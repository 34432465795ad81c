-- The types of src/, under short names. Assumes nothing.
pub use Rattle.reasons.specs.declared.header.HeaderReason.{HeaderReason}
pub use Rattle.reasons.specs.declared.event.EventReason.{EventReason}
