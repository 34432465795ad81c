-- What a call on a lent record leaves: the record of the step, and of the rest of the step what was told.
use Rattle.std.specs.Prelude.{◌≡◌}
use Rattle.model.specs.declared.record.Record.{Record}
use Rattle.definition.specs.Types.{Step}
use Rattle.bay.specs.declared.Told.{Told}

abbrev pub Kept : Step → Record → Told → Type 0
Kept s after told = (after ≡ s.«record») × (told.answer ≡ s.answer) × (told.remaining ≡ s.remaining) × (told.actions ≡ s.actions)
