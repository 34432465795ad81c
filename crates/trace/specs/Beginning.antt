-- "Bytes "PES", 16-bit version 1, flags (1 dual, 2 swapped, 4 vconn), hard limit, caps limit. Then at most 4,096 events of 12 bytes"; "a bad header
-- (short, mark, version, flags above 7, over 49,160 bytes; these before R7)". Document 02, order 5: "The trace keeps it in flag 8", "flags above 15 are
-- now R8, in the place where flags above 7 stood". Assumes nothing.
use Rattle.std.specs.Prelude.{ℕ, ◌/◌, ◌%◌, Bool, true, false, ◌&&◌, List, length, leb, ltb, Result, Ok, Err}
use Rattle.notation.specs.Rows.{◌⇒◌∣◌, ◌is◌}
use Rattle.trace.specs.Types.{BadHeader, Setting, Settings}
use Rattle.little_endian.specs.Bytes.{at, half}

-- "PES"
unfoldable pub marked : List ℕ → Bool
marked s = at s 0 is 80 && (at s 1 is 69 && at s 2 is 83)

-- Flag 8 set is "standard", not set "crate"
abbrev pub setting : Bool → Setting
setting true = Setting.Standard
setting false = Setting.Crate

-- "flags (1 dual, 2 swapped, 4 vconn)", and 8
abbrev pub flagged : ℕ → ℕ → ℕ → Settings
flagged flags hard caps = record {
  port = record { dual_role = flags % 2 is 1; vconn_source = flags / 4 % 2 is 1; setting = setting (flags / 8 is 1) };
  role_swapped = flags / 2 % 2 is 1;
  hard_limit = hard;
  caps_limit = caps;
}

abbrev pub bad : Result Settings BadHeader
bad = Err (record {})

unfoldable pub settings : ℕ → ℕ → ℕ → Result Settings BadHeader
settings flags hard caps =
    leb flags 15 ⇒ Ok (flagged flags hard caps) ∣
    bad

unfoldable pub header : List ℕ → Result Settings BadHeader
header s =
    ltb (length s) 8 ⇒ bad ∣
    ltb 49160 (length s) ⇒ bad ∣
    marked s && half s 3 is 1 ⇒ settings (at s 5) (at s 6) (at s 7) ∣
    bad
