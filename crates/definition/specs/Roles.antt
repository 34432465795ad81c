-- The data role (document 02, order 4), a second time: by the numbers of actions and the codes of a trace. proofs/Roles.antt shows that the engine
-- agrees. Assumes nothing.
use Rattle.std.specs.Prelude.{ℕ, ◌≡◌, Bool, true, false, ◌&&◌, [], ◌∷◌}
use Rattle.notation.specs.Rows.{◌⇒◌∣◌, ◌is◌}
use Rattle.definition.specs.Types.{Answer, Call, DataRole, Handover, Record, Step}
use Rattle.definition.specs.Paper.{one_of, awaits, refusal, letter, answer_number}
use Rattle.definition.specs.Entries.{trace_code}

-- 28 swap_data_role, "its argument the new role (0 Ufp, 1 Dfp)"
abbrev pub named_role : ℕ → DataRole
named_role argument = argument is 0 ⇒ DataRole.Ufp ∣ DataRole.Dfp

-- A call that reports Done
abbrev pub reports_done : Call → Bool
reports_done (Call.Outcome o) = trace_code o is 1
reports_done (Call.ReEntry target change) = false

-- "written where docs/src writes it": in Change, once 28 is Done, to the role that 28 named. No other call writes it, and no refused one
unfoldable pub role_after : Record → Call → Step → DataRole
role_after r c s =
    refusal s.answer is 0 && ((awaits r).number is 28 && reports_done c) ⇒ named_role (awaits r).argument ∣
    r.data_role

-- What is known of a call that changed the role: an accepted Done of 28, and the role is the one that 28 named
pub record Swapped (r : Record) (c : Call) (s : Step) : Type 0 where
  pub accepted : refusal s.answer is 0 ≡ true
  pub of_28 : (awaits r).number is 28 ≡ true
  pub done : reports_done c ≡ true
  pub as_named : s.«record».data_role ≡ named_role (awaits r).argument

-- "H.1 and H.2 then provably never occur": a handover has the letter H, as its byte, and an answer with that letter has a number from 3 to 8
abbrev pub H : ℕ
H = 72

pub record NoDataHandover (a : Answer) (h : Handover) : Type 0 where
  pub handed_over : letter (Answer.HandedOver h) is H ≡ true
  pub from_3_to_8 : letter a is H ≡ true → one_of (3 ∷ 4 ∷ 5 ∷ 6 ∷ 7 ∷ 8 ∷ []) (answer_number a) ≡ true
