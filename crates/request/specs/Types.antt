-- The request's types under short names. Assumes nothing.
pub use Rattle.request.specs.declared.FixedVariableSupply.{FixedVariableSupply}
pub use Rattle.request.specs.declared.Battery.{Battery}
pub use Rattle.request.specs.declared.Pps.{Pps}
pub use Rattle.request.specs.declared.Avs.{Avs}
pub use Rattle.request.specs.declared.RawDataObject.{RawDataObject}
pub use Rattle.request.specs.declared.EprRequestDataObject.{EprRequestDataObject}
pub use Rattle.request.specs.declared.PowerSource.{PowerSource}
pub use Rattle.request.specs.declared.Kind.{Kind}
