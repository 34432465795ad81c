-- The types of src/, under short names. Assumes nothing.
pub use Rattle.trace.specs.declared.beginning.BadHeader.{BadHeader}
pub use Rattle.model.specs.declared.record.Setting.{Setting}
pub use Rattle.model.specs.declared.record.Settings.{Settings}
pub use Rattle.trace.specs.declared.parts.Left.{Left}
