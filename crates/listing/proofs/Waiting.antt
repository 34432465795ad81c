-- The text ` W D 0 0`. Assumes nothing.
use Rattle.std.proofs.Common.{ℕ, ◌+◌, ◌<◌, [], ◌∷◌, arith, get_or, lit<, zero, suc}

-- Each of it is a byte
pub fits : (l h c i : ℕ) → l < 256 → h < 10 → c < 10 → get_or (32 ∷ 87 ∷ 32 ∷ l ∷ 32 ∷ (48 + h) ∷ 32 ∷ (48 + c) ∷ []) i 0 < 256
fits l h c zero hl hh hc = lit< tt
fits l h c (suc zero) hl hh hc = lit< tt
fits l h c (suc (suc zero)) hl hh hc = lit< tt
fits l h c (suc (suc (suc zero))) hl hh hc = hl
fits l h c (suc (suc (suc (suc zero)))) hl hh hc = lit< tt
fits l h c (suc (suc (suc (suc (suc zero))))) hl hh hc = omega arith
fits l h c (suc (suc (suc (suc (suc (suc zero)))))) hl hh hc = lit< tt
fits l h c (suc (suc (suc (suc (suc (suc (suc zero))))))) hl hh hc = omega arith
fits l h c (suc (suc (suc (suc (suc (suc (suc (suc i)))))))) hl hh hc = lit< tt
