-- The attempts that remain (document 02, order 10), a second time: by the numbers of actions and answers, and from the log. proofs/Attempts.antt shows
-- that the engine agrees. Assumes nothing.
use Rattle.std.specs.Prelude.{Option, None, Some, ℕ, ◌-◌, ◌≡◌, Bool, true, false, not, ◌&&◌, List, [], ◌∷◌}
use Rattle.notation.specs.Rows.{◌⇒◌∣◌, ◌is◌}
use Rattle.definition.specs.Types.{Action, Answer, Call, Counter, Step}
use Rattle.definition.specs.Actions.{none}
use Rattle.definition.specs.Paper.{letter, answer_number}
use Rattle.definition.specs.Entries.{trace_code}
use Rattle.definition.specs.Log.{creation, outcome, re_entry, action, Log, empty, ◌▸◌, hard_count, caps_count}

-- The awaited action: of those that a call issues the last
abbrev pub last : List Action → Action
last [] = none
last (a ∷ []) = a
last (a ∷ b ∷ rest) = b.number is 0 ⇒ a ∣ b

-- A call that awaits this action
abbrev pub awaits : ℕ → ℕ → List Action → Bool
awaits number argument xs = (last xs).number is number && (last xs).argument is argument

-- F.1, by its letter and number
abbrev pub unresponsive : Answer → Bool
unresponsive a = letter a is 70 && answer_number a is 1

-- A call that reports that the DPM failed
abbrev pub reports_dpm_failed : Call → Bool
reports_dpm_failed (Call.Outcome o) = trace_code o is 3
reports_dpm_failed (Call.ReEntry target change) = false

-- "Remaining is limit minus count after the increment"
abbrev pub left : Counter → Option ℕ
left c = Some (c.max_value - c.value)

-- "HardReset and Discovery pass it on in their answers": where the increment succeeds, they await 13 and 2.2. "0 on failure": then HardReset ends in
-- F.1, in which a drive ends too that the DPM fails, and Discovery in the 10 of Disabled, which nothing else leads to. "Every other answer reports none"
unfoldable pub remaining_after : Call → Step → Option ℕ
remaining_after c s =
    awaits 13 0 s.actions ⇒ left s.«record».hard_reset_counter ∣
    awaits 2 2 s.actions ⇒ left s.«record».caps_counter ∣
    awaits 10 0 s.actions ⇒ Some 0 ∣
    unresponsive s.answer && not (reports_dpm_failed c) ⇒ Some 0 ∣
    None

-- The limits, by the latest creation in the log
unfoldable pub hard_limit_of : Log → ℕ
hard_limit_of empty = 0
hard_limit_of (l ▸ creation s) = s.hard_limit
hard_limit_of (l ▸ outcome o) = hard_limit_of l
hard_limit_of (l ▸ re_entry target change) = hard_limit_of l
hard_limit_of (l ▸ action a) = hard_limit_of l

unfoldable pub caps_limit_of : Log → ℕ
caps_limit_of empty = 0
caps_limit_of (l ▸ creation s) = s.caps_limit
caps_limit_of (l ▸ outcome o) = caps_limit_of l
caps_limit_of (l ▸ re_entry target change) = caps_limit_of l
caps_limit_of (l ▸ action a) = caps_limit_of l

-- What a call that left this log reports where its increment succeeded: the limit less the count, both read afresh
pub record ReadAfresh (l : Log) (s : Step) : Type 0 where
  pub of_hard_resets : awaits 13 0 s.actions ≡ true → s.remaining ≡ Some (hard_limit_of l - hard_count l)
  pub of_capabilities : awaits 2 2 s.actions ≡ true → s.remaining ≡ Some (caps_limit_of l - caps_count l)
