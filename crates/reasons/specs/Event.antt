-- Document 01's ranges of an event's fields, code by code: the first field, in the order code, a, b, first word, second word, that is outside its
-- range. Assumes nothing.
use Rattle.std.specs.Prelude.{ℕ, ◌&&◌, List, length, leb, Result, Ok, Err}
use Rattle.notation.specs.Rows.{◌⇒◌∣◌, ◌is◌}
use Rattle.little_endian.specs.Bytes.{at, half, word}
use Rattle.reasons.specs.Types.{EventReason}

abbrev pub Checked : Type 0
Checked = Result (Unit {0}) EventReason

-- "Unused fields, and words under b 0, are zero": of an event that uses the first word, neither word, neither b nor a word
unfoldable pub one_word : ℕ → Checked
one_word second = second is 0 ⇒ Ok tt ∣ Err EventReason.Second

unfoldable pub no_word : ℕ → ℕ → Checked
no_word first second = first is 0 ⇒ one_word second ∣ Err (EventReason.First 0)

unfoldable pub unused : ℕ → ℕ → ℕ → Checked
unused b first second = b is 0 ⇒ no_word first second ∣ Err (EventReason.B 0)

unfoldable pub within : ℕ → ℕ → ℕ → Checked → Checked
within a least most then = leb least a && leb a most ⇒ then ∣ Err (EventReason.A least most)

-- "0 Request, 1 EprRequest (b: 0 bad payload, else kind plus 1)"; "A request's second word is used by kind 5 only"
unfoldable pub request : ℕ → ℕ → ℕ → Checked
request b first second =
    b is 0 ⇒ no_word first second ∣
    leb b 5 ⇒ one_word second ∣
    b is 6 ⇒ Ok tt ∣
    Err (EventReason.B 6)

-- "b: 0 or 1"
unfoldable pub payload : ℕ → Checked → Checked → Checked
payload b bad good = b is 0 ⇒ bad ∣ b is 1 ⇒ good ∣ Err (EventReason.B 1)

-- "3 control (b: type 0 to 31)"
unfoldable pub control : ℕ → ℕ → ℕ → Checked
control b first second = leb b 31 ⇒ no_word first second ∣ Err (EventReason.B 31)

-- "4 extended control (b: 0 or 1; first word: type 0 to 255)"
unfoldable pub extended_type : ℕ → ℕ → Checked
extended_type first second = leb first 255 ⇒ one_word second ∣ Err (EventReason.First 255)

-- "Message a: 0 Request, 1 EprRequest, 2 EprMode, 3 control, 4 extended control, 5 others, 6 SPR and 7 EPR sink capabilities"
unfoldable pub message : ℕ → ℕ → ℕ → ℕ → Checked
message a b first second =
    a is 0 ⇒ request b first second ∣
    a is 1 ⇒ request b first second ∣
    a is 2 ⇒ payload b (no_word first second) (one_word second) ∣
    a is 3 ⇒ control b first second ∣
    a is 4 ⇒ payload b (no_word first second) (extended_type first second) ∣
    a is 5 ⇒ unused b first second ∣
    a is 6 ⇒ payload b (no_word first second) (no_word first second) ∣
    a is 7 ⇒ payload b (no_word first second) (no_word first second) ∣
    Err (EventReason.A 0 7)

-- "Codes: 1 Done, 2 Failed (a), 3 DpmFailed, 4 NoSafe, 5 message, 6 Lookup (a: 0 .. 5), 7 evaluation (a: 0 to 2), 8 no or yes (a), 9 Event (a: 0
-- to 8), 10 timeout (a: 1 .. 3), 11 re-entry"; "A re-entry's a and b may be any number"
unfoldable pub of_fields : ℕ → ℕ → ℕ → ℕ → ℕ → Checked
of_fields code a b first second =
    code is 1 ⇒ within a 0 0 (unused b first second) ∣
    code is 2 ⇒ unused b first second ∣
    code is 3 ⇒ within a 0 0 (unused b first second) ∣
    code is 4 ⇒ within a 0 0 (unused b first second) ∣
    code is 5 ⇒ message a b first second ∣
    code is 6 ⇒ within a 0 5 (unused b first second) ∣
    code is 7 ⇒ within a 0 2 (unused b first second) ∣
    code is 8 ⇒ within a 0 1 (unused b first second) ∣
    code is 9 ⇒ within a 0 8 (unused b first second) ∣
    code is 10 ⇒ within a 1 3 (unused b first second) ∣
    code is 11 ⇒ no_word first second ∣
    Err EventReason.Code

unfoldable pub of_event : List ℕ → Checked
of_event s = length s is 12 ⇒ of_fields (at s 0) (at s 1) (half s 2) (word s 4) (word s 8) ∣ Err EventReason.Partial
