-- Texts laid one after the other. Assumes nothing.
use Prim.Native.Nat.{ℕ, ◌+◌, ◌≤◌, suc}
use mathlib.Core.List.{List, [], ◌∷◌, ◌++◌}
use mathlib.Core.Path.{◌≡◌, refl, sym, ap, ◌∙◌}
use native.Mathlib.Omega.{arith}
use lib.ListN.{length, set, take, drop, length-set, length-append}
use Rattle.std.proofs.Common.{add-one, append_assoc}
use Rattle.std.proofs.lemmas.List.{drop-drop}
use Rattle.std.proofs.lemmas.List.Edits.{sets, sets-eq}
use Rattle.listing.specs.Text.{lay, Lays}

lay-sets : (xs l : List ℕ) (at : ℕ) → lay l at xs ≡ sets l at xs
lay-sets [] l at = refl
lay-sets (x ∷ xs) l at = rw (add-one at) (lay-sets xs (set l at x) (suc at))

-- A text that is laid stands in the middle
pub lay_mid : (xs l : List ℕ) (at : ℕ) → at + length xs ≤ length l → lay l at xs ≡ take at l ++ (xs ++ drop (length xs) (drop at l))
lay_mid xs l at h =
    lay-sets xs l at ∙ sets-eq xs l at h ∙ append_assoc (take at l) xs _ ∙
    ap (λ (t : List ℕ). take at l ++ (xs ++ t)) (sym (drop-drop (length xs) at l))

-- Laying a text, and another after it, lays the two
pub lay_append : (xs ys : List ℕ) (l : List ℕ) (at : ℕ) → lay (lay l at xs) (at + length xs) ys ≡ lay l at (xs ++ ys)
lay_append [] ys l at = ap (λ (k : ℕ). lay l k ys) (omega arith)
lay_append (x ∷ xs) ys l at =
    ap (λ (k : ℕ). lay (lay (set l at x) (at + 1) xs) k ys) (omega arith) ∙ lay_append xs ys (set l at x) (at + 1)

pub length_lay : (xs : List ℕ) (l : List ℕ) (at : ℕ) → length (lay l at xs) ≡ length l
length_lay [] l at = refl
length_lay (x ∷ xs) l at = length_lay xs (set l at x) (at + 1) ∙ length-set l at x

pub after : {l l' l'' t u : List ℕ} {j k at r s : ℕ} → Lays j t at r l l' → Lays k u r s l' l'' → Lays (j + k) (t ++ u) at s l l''
after {l} {l'} {l''} {t} {u} {j} {k} {at} {r} {s} e f = record {
  laid = record {
    place = omega (arith, e.laid.place, f.laid.place, length-append t u);
    bytes = rw (e.laid.bytes, e.laid.place) at f.laid.bytes ∙ lay_append t u l at;
  };
  same_length = f.same_length ∙ e.same_length;
  at_most = omega (arith, e.at_most, f.at_most);
}

-- Fewer bytes than k are at most k
pub fewer : {l l' t : List ℕ} {j k at r : ℕ} → j ≤ k → Lays j t at r l l' → Lays k t at r l l'
fewer h e = record { laid = e.laid; same_length = e.same_length; at_most = omega (arith, h, e.at_most) }
