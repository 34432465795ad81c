-- After a refusal the lent record is as it was, and neither an action nor attempts are told. It follows from what `advance` and `return_to` ensure.
-- Assumes nothing.
use Rattle.std.specs.Prelude.{None}
use Prim.Native.Nat.{ℕ}
use mathlib.Core.Path.{◌≡◌, ap, sym, ◌∙◌}
use mathlib.Core.List.{[], ◌∷◌}
use Rattle.model.specs.declared.record.Record.{Record}
use Rattle.definition.specs.Types.{Step}
use Rattle.model.specs.declared.record.Answer.{Answer}
use Rattle.model.specs.declared.outcome.Outcome.{Outcome}
use Rattle.definition.specs.Actions.{none}
use Rattle.definition.specs.Engine.{step, re_enter, refuse}
use Rattle.definition.proofs.Refusals.{refused_step_keeps, refused_re_entry_keeps}
use Rattle.bay.specs.declared.Told.{Told}
use Rattle.bay.specs.Kept.{Kept}

abbrev pub Untouched : Record → Record → Told → Type 0
Untouched before after told = (after ≡ before) × (told.remaining ≡ None) × (told.actions ≡ none ∷ none ∷ [])

untouched : (n : ℕ) (s : Step) (before after : Record) (told : Told) → Kept s after told → s ≡ refuse n before → Untouched before after told
untouched n s before after told k e =
    (k.0 ∙ ap (λ (s : Step). s.«record») e, k.2 ∙ ap (λ (s : Step). s.remaining) e, k.3 ∙ ap (λ (s : Step). s.actions) e)

pub refused_advance_keeps : (before after : Record) (o : Outcome) (told : Told) (n : ℕ) → Kept (step before o) after told
    → told.answer ≡ Answer.Refused n → Untouched before after told
refused_advance_keeps before after o told n k e = untouched n (step before o) before after told k (refused_step_keeps before o n (sym k.1 ∙ e))

pub refused_return_keeps : (before after : Record) (t change : ℕ) (told : Told) (n : ℕ) → Kept (re_enter before t change) after told
    → told.answer ≡ Answer.Refused n → Untouched before after told
refused_return_keeps before after t change told n k e = untouched n (re_enter before t change) before after told k
    (refused_re_entry_keeps before t change n (sym k.1 ∙ e))
