-- Bytes in a buffer. Assumes nothing.
use Rattle.std.specs.Prelude.{ℕ, ◌+◌, ◌≤◌, List, [], ◌∷◌, ◌≡◌, length, set}

-- A buffer with a text stored in it from a place on, byte after byte
abbrev pub lay : List ℕ → ℕ → List ℕ → List ℕ
lay l at [] = l
lay l at (x ∷ xs) = lay (set l at x) (at + 1) xs

-- The text was laid into l from `at` on, which gave l', and ends before r
pub record Laid (l : List ℕ) (at : ℕ) (t : List ℕ) (r : ℕ) (l' : List ℕ) : Type 0 where
  pub place : r ≡ at + length t
  pub bytes : l' ≡ lay l at t

-- The same of a text of at most k bytes, and the buffer keeps its length
pub record Lays (k : ℕ) (t : List ℕ) (at r : ℕ) (l l' : List ℕ) : Type 0 where
  pub laid : Laid l at t r l'
  pub same_length : length l' ≡ length l
  pub at_most : r ≤ at + k
