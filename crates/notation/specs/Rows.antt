-- The notation of the definitions: rows that are read from the top, the first whose condition holds being the answer, as
--
--     t is 13 ⇒ soft reset ∣
--     t is 16 ⇒ inform ∣
--     not supported
--
-- Assumes nothing.
use Rattle.std.specs.Prelude.{ℕ, Bool, true, false, eqb}

infixr 5 ◌⇒◌∣◌
infix 50 ◌is◌
abbrev pub ◌⇒◌∣◌ : {A : Type 0} → Bool → A → A → A
◌⇒◌∣◌ true x y = x
◌⇒◌∣◌ false x y = y

abbrev pub ◌is◌ : ℕ → ℕ → Bool
◌is◌ = eqb
