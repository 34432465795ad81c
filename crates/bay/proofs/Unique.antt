-- "Two results allowed by it are proved equal": the record that a call leaves and what it tells. Assumes nothing.
use Prim.Native.Nat.{ℕ}
use mathlib.Core.Path.{◌≡◌, refl, sym, ◌∙◌}
use seplogic.Ra.Ura.{Ura}
use base.Logic.{SProp}
use prog.Memory.{Memory}
use prog.Routine.{Routine}
use types.Logic.{Logic}
use contract.Lifetimes.{Lfts}
use contract.Monad.{Fun, fact}
use denote.MutBor.{MutBor}
use denote.Triple.Clauses.{AtExit}
use Rattle.model.specs.declared.record.Record.{Record}
use Rattle.definition.specs.Types.{Step}
use Rattle.model.specs.declared.outcome.Outcome.{Outcome}
use Rattle.definition.specs.Engine.{step, re_enter}
use Rattle.bay.specs.declared.Told.{Told}
use Rattle.bay.specs.Kept.{Kept}
use Rattle.bay.specs.contracts.advance as advance
use Rattle.bay.specs.contracts.return_to as return_to

same_told : (a b : Told) → a.answer ≡ b.answer → a.remaining ≡ b.remaining → a.actions ≡ b.actions → a ≡ b
same_told a b h n k i = record { answer = h i; remaining = n i; actions = k i }

pub unique_kept : (s : Step) (after after' : Record) (told told' : Told) → Kept s after told → Kept s after' told' → (after ≡ after') × (told ≡ told')
unique_kept s after after' told told' h k = (h.0 ∙ sym k.0, same_told told told' (h.1 ∙ sym k.1) (h.2 ∙ sym k.2) (h.3 ∙ sym k.3))

-- The two promises, as the contracts have them: of the record at entry and at exit this, and no more
module _ {M : Type 1} {𝓤 : Ura M} (𝓛 : Logic 𝓤) (mem : Memory → SProp 𝓤) (run : Routine → Fun 𝓤) (κs : Lfts 1) where
  pub advance_promises : (lent : MutBor Record) (o : Outcome) (end : AtExit advance.ended κs) (told : Told)
      → (advance.clauses 𝓛 mem run κs (lent, (o, tt))).ensures tt told end ≡ fact 𝓤 (Kept (step lent.now o) end.0.now told)
  advance_promises lent o end told = refl

  pub return_promises : (lent : MutBor Record) (target change : ℕ) (end : AtExit return_to.ended κs) (told : Told)
      → (return_to.clauses 𝓛 mem run κs (lent, (target, (change, tt)))).ensures tt told end
      ≡ fact 𝓤 (Kept (re_enter lent.now target change) end.0.now told)
  return_promises lent target change end told = refl
