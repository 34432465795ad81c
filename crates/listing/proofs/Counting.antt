-- A line laid under the numeral of k, counted up from 0, is the definition's line of entry k. Assumes nothing.
use Prim.Native.Nat.{ℕ, ◌+◌, ◌<◌}
use mathlib.Core.List.{List, ◌∷◌, ◌++◌}
use mathlib.Core.Path.{◌≡◌, ap, ◌∙◌}
use lib.ListN.{length}
use Rattle.notation.specs.Rows.{◌⇒◌∣◌}
use Rattle.model.specs.declared.record.Action.{Action}
use Rattle.model.specs.declared.record.Answer.{Answer}
use Rattle.model.specs.declared.record.Record.{Record}
use Rattle.numeral.specs.Numeral.{numeral, spelled, counted}
use Rattle.numeral.proofs.Counting.{digits_of, counted_numeral}
use Rattle.listing.specs.Text.{lay}
use Rattle.listing.specs.Line.{line, refusal, told, refused, room}

-- The text that is laid under the numeral of k is the definition's line of entry k
pub line_of : (n k : ℕ) (r : Record) (a : Answer) (issued : List Action) → n ≡ numeral k → k < 10000 →
    spelled n ++ 32 ∷ told r a issued ≡ line k r a issued
line_of n k r a issued e h = ap (λ (t : List ℕ). t ++ 32 ∷ told r a issued) (digits_of n k e h)

pub refusal_of : (n k m : ℕ) → n ≡ numeral k → k < 10000 → spelled n ++ 32 ∷ refused m ≡ refusal k m
refusal_of n k m e h = ap (λ (t : List ℕ). t ++ 32 ∷ refused m) (digits_of n k e h)

-- What `line` promises of buffer and place, with the entry counted up from 0: entry k lays line k
pub line_laid : (l l' : List ℕ) (at p n k : ℕ) (r : Record) (a : Answer) (issued : List Action) → n ≡ counted k → k < 10000 →
    p ≡ (room l at ⇒ at + length (spelled n ++ 32 ∷ told r a issued) ∣ at) →
    l' ≡ (room l at ⇒ lay l at (spelled n ++ 32 ∷ told r a issued) ∣ l) →
    (p ≡ (room l at ⇒ at + length (line k r a issued) ∣ at)) × (l' ≡ (room l at ⇒ lay l at (line k r a issued) ∣ l))
line_laid l l' at p n k r a issued e h place bytes =
    let same = line_of n k r a issued (e ∙ counted_numeral k h) h in
    (place ∙ ap (λ (t : List ℕ). room l at ⇒ at + length t ∣ at) same, bytes ∙ ap (λ (t : List ℕ). room l at ⇒ lay l at t ∣ l) same)

pub refusal_laid : (l l' : List ℕ) (at p n k m : ℕ) → n ≡ counted k → k < 10000 →
    p ≡ (room l at ⇒ at + length (spelled n ++ 32 ∷ refused m) ∣ at) →
    l' ≡ (room l at ⇒ lay l at (spelled n ++ 32 ∷ refused m) ∣ l) →
    (p ≡ (room l at ⇒ at + length (refusal k m) ∣ at)) × (l' ≡ (room l at ⇒ lay l at (refusal k m) ∣ l))
refusal_laid l l' at p n k m e h place bytes =
    let same = refusal_of n k m (e ∙ counted_numeral k h) h in
    (place ∙ ap (λ (t : List ℕ). room l at ⇒ at + length t ∣ at) same, bytes ∙ ap (λ (t : List ℕ). room l at ⇒ lay l at t ∣ l) same)
