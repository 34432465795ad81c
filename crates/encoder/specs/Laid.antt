-- The bytes of an event, laid out little-endian. Assumes nothing.
use Rattle.std.specs.Prelude.{ℕ, ◌/◌, ◌%◌, List, [], ◌∷◌}
use Rattle.events.specs.declared.fields.Fields.{Fields}

abbrev pub low : ℕ → ℕ
low x = x % 256

abbrev pub laid : Fields → List ℕ
laid e =
    e.code ∷
    e.a ∷
    low e.b ∷
    low (e.b / 256) ∷
    low e.first ∷
    low (e.first / 256) ∷
    low (e.first / 65536) ∷
    low (e.first / 16777216) ∷
    low e.second ∷
    low (e.second / 256) ∷
    low (e.second / 65536) ∷
    low (e.second / 16777216) ∷
    []
