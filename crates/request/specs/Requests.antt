-- The sink's request, as document 01 has it. Assumes nothing.
use Rattle.std.specs.Prelude.{Option, None, Some, ℕ, Bool, ◌&&◌}
use Rattle.notation.specs.Rows.{◌is◌}
use Rattle.request.specs.Types.{PowerSource, Kind, RawDataObject}

-- "A request is a kind (0 FixedVariableSupply, 1 Battery, 2 Pps, 3 Avs, 4 Unknown, 5 other), and two 32-bit words"
abbrev pub kind : PowerSource → ℕ
kind (PowerSource.FixedVariableSupply w) = 0
kind (PowerSource.Battery w) = 1
kind (PowerSource.Pps w) = 2
kind (PowerSource.Avs w) = 3
kind (PowerSource.Unknown w) = 4
kind (PowerSource.EprRequest w) = 5

abbrev pub first : PowerSource → ℕ
first (PowerSource.FixedVariableSupply w) = w.0
first (PowerSource.Battery w) = w.0
first (PowerSource.Pps w) = w.0
first (PowerSource.Avs w) = w.0
first (PowerSource.Unknown w) = w.0
first (PowerSource.EprRequest w) = w.rdo

-- "A request's second word is used by kind 5 only"
abbrev pub second : PowerSource → ℕ
second (PowerSource.FixedVariableSupply w) = 0
second (PowerSource.Battery w) = 0
second (PowerSource.Pps w) = 0
second (PowerSource.Avs w) = 0
second (PowerSource.Unknown w) = 0
second (PowerSource.EprRequest w) = w.pdo

-- "Explicit of that request": the same kind and the same words
unfoldable pub same : PowerSource → PowerSource → Bool
same a b = kind a is kind b && (first a is first b && second a is second b)

-- Port order 2: "FixedSupply, VariableSupply to 0, Battery 1, Pps 2, Avs 3, nothing found stays 4"
abbrev pub typed : RawDataObject → Option Kind → PowerSource
typed w None = PowerSource.Unknown w
typed w (Some Kind.FixedSupply) = PowerSource.FixedVariableSupply (record { 0 = w.0 })
typed w (Some Kind.VariableSupply) = PowerSource.FixedVariableSupply (record { 0 = w.0 })
typed w (Some Kind.Battery) = PowerSource.Battery (record { 0 = w.0 })
typed w (Some Kind.Pps) = PowerSource.Pps (record { 0 = w.0 })
typed w (Some Kind.Avs) = PowerSource.Avs (record { 0 = w.0 })

-- Port order 2: "Only Unknown is looked up"
abbrev pub retyped : PowerSource → Option Kind → PowerSource
retyped (PowerSource.FixedVariableSupply w) f = PowerSource.FixedVariableSupply w
retyped (PowerSource.Battery w) f = PowerSource.Battery w
retyped (PowerSource.Pps w) f = PowerSource.Pps w
retyped (PowerSource.Avs w) f = PowerSource.Avs w
retyped (PowerSource.Unknown w) f = typed w f
retyped (PowerSource.EprRequest w) f = PowerSource.EprRequest w
