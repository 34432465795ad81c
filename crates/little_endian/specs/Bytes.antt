-- A byte of a file, and the numbers of two and of four bytes in it, "little-endian, as all numbers". Assumes nothing.
use Rattle.std.specs.Prelude.{ℕ, ◌+◌, ◌*◌, List, get_or}

abbrev pub at : List ℕ → ℕ → ℕ
at s k = get_or s k 0

abbrev pub half : List ℕ → ℕ → ℕ
half s k = at s k + 256 * at s (k + 1)

abbrev pub word : List ℕ → ℕ → ℕ
word s k = at s k + 256 * at s (k + 1) + 65536 * at s (k + 2) + 16777216 * at s (k + 3)
