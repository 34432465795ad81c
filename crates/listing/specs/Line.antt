-- A line of the listing: "entry number, answer, contract (D, N for `_Invalid`, I, T, E), hard count, caps count, actions. A refusal prints entry and number
-- only, as `3 R5`". Assumes nothing.
use Rattle.std.specs.Prelude.{ℕ, ◌+◌, Bool, List, [], ◌∷◌, ◌++◌, length, get_or, leb}
use Rattle.notation.specs.Rows.{◌⇒◌∣◌, ◌is◌}
use Rattle.model.specs.declared.record.Action.{Action}
use Rattle.model.specs.declared.record.Answer.{Answer}
use Rattle.model.specs.declared.record.Contract.{Contract}
use Rattle.model.specs.declared.record.Record.{Record}
use Rattle.definition.specs.Actions.{none}
use Rattle.definition.specs.Paper.{letter, answer_number}
use Rattle.numeral.specs.Decimal.{decimal}

abbrev pub contract_letter : Contract → ℕ
contract_letter Contract.Safe5V = 68
contract_letter Contract.Implicit = 73
contract_letter Contract.TransitionToExplicit = 84
contract_letter (Contract.Explicit q) = 69
contract_letter Contract.Invalid = 78

-- W alone; `S.5`, `F.1`, `H.3`
unfoldable pub answer : Answer → List ℕ
answer a = letter a is 87 ⇒ 87 ∷ [] ∣ letter a ∷ 46 ∷ decimal (answer_number a)

-- Contract, hard count, caps count. A blank stands before each field, and none at the end of a line
abbrev pub counts : Contract → ℕ → ℕ → List ℕ
counts c hard caps = (32 ∷ contract_letter c ∷ 32 ∷ decimal hard) ++ 32 ∷ decimal caps

-- "Written number.argument"; number 0 is the fixed none
unfoldable pub action : ℕ → ℕ → List ℕ
action n a = n is 0 ⇒ [] ∣ (32 ∷ decimal n) ++ 46 ∷ decimal a

abbrev pub actions : Action → Action → List ℕ
actions a b = action a.number a.argument ++ action b.number b.argument

-- A line ends with a newline
abbrev pub accepted : Answer → Contract → ℕ → ℕ → Action → Action → List ℕ
accepted a c hard caps first second = answer a ++ counts c hard caps ++ (actions first second ++ 10 ∷ [])

abbrev pub refused : ℕ → List ℕ
refused n = (82 ∷ decimal n) ++ 10 ∷ []

-- "A refusal prints entry and number only"; any other answer, each field
unfoldable pub shown : Answer → Contract → ℕ → ℕ → Action → Action → List ℕ
shown a c hard caps first second = letter a is 82 ⇒ refused (answer_number a) ∣ accepted a c hard caps first second

-- Of a call: its answer, the record that it leaves, and the two places of its actions
abbrev pub told : Record → Answer → List Action → List ℕ
told r a issued =
    shown a r.contract r.hard_reset_counter.value r.caps_counter.value (get_or issued 0 none) (get_or issued 1 none)

abbrev pub line : ℕ → Record → Answer → List Action → List ℕ
line entry r a issued = decimal entry ++ 32 ∷ told r a issued

abbrev pub refusal : ℕ → ℕ → List ℕ
refusal entry n = decimal entry ++ 32 ∷ refused n

-- No line is longer than 40 bytes, and only where there is room for so many is one laid
unfoldable pub room : List ℕ → ℕ → Bool
room l at = leb (at + 40) (length l)
