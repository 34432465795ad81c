-- What a reader holds of a log, and what one more entry makes of it. The rules themselves stand in `definition`, Log.antt; proofs/Whole.antt
-- proves that reading entry by entry is reading the whole log. Assumes nothing.
use Rattle.std.specs.Prelude.{Option, None, Some, Result, Ok, Err, ℕ, ◌+◌, Bool, true, false, leb}
use Rattle.notation.specs.Rows.{◌⇒◌∣◌, ◌is◌}
use Rattle.replies.specs.declared.Reply.{Reply}
use Rattle.model.specs.declared.record.Action.{Action}
use Rattle.model.specs.declared.record.Contract.{Contract}
use Rattle.replies.specs.Replies.{reply}
use Rattle.definition.specs.Log as log
use Rattle.log_reader.specs.declared.entries.Entry.{Entry}
use Rattle.log_reader.specs.declared.entries.Newest.{Newest}
use Rattle.log_reader.specs.declared.entries.Reading.{Reading}
use Rattle.log_reader.specs.declared.entries.TooMany.{TooMany}
use Rattle.request.specs.declared.PowerSource.{PowerSource}

-- The entry of the log that an `Entry` of the code is
abbrev pub entry : Entry → log.Entry
entry (Entry.Creation s) = log.creation s
entry (Entry.Outcome o) = log.outcome o
entry (Entry.ReEntry t b) = log.re_entry t b
entry (Entry.Action a) = log.action a

-- "1 directly followed by 3 sets D; action 9 sets TransitionToExplicit"
abbrev pub is_reset : Newest → Bool
is_reset Newest.Reset = true
is_reset Newest.Capabilities = false
is_reset Newest.CapabilitiesDone = false
is_reset (Newest.Supply q) = false
is_reset Newest.Other = false

abbrev pub is_capabilities_done : Newest → Bool
is_capabilities_done Newest.Reset = false
is_capabilities_done Newest.Capabilities = false
is_capabilities_done Newest.CapabilitiesDone = true
is_capabilities_done (Newest.Supply q) = false
is_capabilities_done Newest.Other = false

unfoldable pub contract_after : ℕ → Newest → Contract → Contract
contract_after number newest c =
    number is 3 ⇒ (is_reset newest ⇒ Contract.Safe5V ∣ c) ∣
    number is 9 ⇒ Contract.TransitionToExplicit ∣
    c

-- "the 13s since the last 4, Done, 5 in a row"
unfoldable pub hard_after : ℕ → Newest → ℕ → ℕ
hard_after number newest hard =
    number is 13 ⇒ hard + 1 ∣
    number is 5 ⇒ (is_capabilities_done newest ⇒ 0 ∣ hard) ∣
    hard

-- "the 2.2s since the last 1 followed by 3 or 2.1"
unfoldable pub caps_after_timer : ℕ → Newest → ℕ → ℕ
caps_after_timer argument newest caps =
    argument is 2 ⇒ caps + 1 ∣
    argument is 1 ⇒ (is_reset newest ⇒ 0 ∣ caps) ∣
    caps

unfoldable pub caps_after : ℕ → ℕ → Newest → ℕ → ℕ
caps_after number argument newest caps =
    number is 2 ⇒ caps_after_timer argument newest caps ∣
    number is 3 ⇒ (is_reset newest ⇒ 0 ∣ caps) ∣
    caps

abbrev pub supply_of : Option PowerSource → Newest
supply_of None = Newest.Other
supply_of (Some q) = Newest.Supply q

unfoldable pub newest_action : ℕ → Option PowerSource → Newest
newest_action number carried =
    number is 1 ⇒ Newest.Reset ∣
    number is 4 ⇒ Newest.Capabilities ∣
    number is 9 ⇒ supply_of carried ∣
    Newest.Other

unfoldable pub after_action : Reading → Action → Reading
after_action r a = record {
  contract = contract_after a.number r.newest r.contract;
  hard = hard_after a.number r.newest r.hard;
  caps = caps_after a.number a.argument r.newest r.caps;
  newest = newest_action a.number a.request;
}

-- "its Done sets Explicit of its request"
abbrev pub contract_done : Newest → Contract → Contract
contract_done Newest.Reset c = c
contract_done Newest.Capabilities c = c
contract_done Newest.CapabilitiesDone c = c
contract_done (Newest.Supply q) c = Contract.Explicit q
contract_done Newest.Other c = c

abbrev pub newest_done : Newest → Newest
newest_done Newest.Reset = Newest.Other
newest_done Newest.Capabilities = Newest.CapabilitiesDone
newest_done Newest.CapabilitiesDone = Newest.Other
newest_done (Newest.Supply q) = Newest.Other
newest_done Newest.Other = Newest.Other

abbrev pub after_reply : Reading → Reply → Reading
after_reply r Reply.Done = record { contract = contract_done r.newest r.contract; hard = r.hard; caps = r.caps; newest = newest_done r.newest }
after_reply r (Reply.Failed e) = record { contract = r.contract; hard = r.hard; caps = r.caps; newest = Newest.Other }
after_reply r Reply.DpmFailed = record { contract = r.contract; hard = r.hard; caps = r.caps; newest = Newest.Other }
after_reply r Reply.Other = record { contract = r.contract; hard = r.hard; caps = r.caps; newest = Newest.Other }

-- "D at creation (Implicit if swapped)"
abbrev pub created : Bool → Contract
created swapped = swapped ⇒ Contract.Implicit ∣ Contract.Safe5V

abbrev pub after : Reading → Entry → Reading
after r (Entry.Creation s) = record { contract = created s.role_swapped; hard = r.hard; caps = r.caps; newest = Newest.Other }
after r (Entry.Outcome o) = after_reply r (reply o)
after r (Entry.ReEntry t b) = record { contract = r.contract; hard = r.hard; caps = r.caps; newest = Newest.Other }
after r (Entry.Action a) = after_action r a

abbrev pub too_many : Result Reading TooMany
too_many = Err (record {})

-- A reading that a reader can hold
unfoldable pub held : Reading → Result Reading TooMany
held r =
    leb r.hard 255 ⇒ (leb r.caps 255 ⇒ Ok r ∣ too_many) ∣
    too_many

-- Before the first entry
abbrev pub first : Reading
first = record { contract = Contract.Safe5V; hard = 0; caps = 0; newest = Newest.Other }

-- The newest entries of a log
unfoldable pub newest_of : log.Log → Newest
newest_of log.empty = Newest.Other
newest_of (log.◌▸◌ l (log.creation s)) = Newest.Other
newest_of (log.◌▸◌ l (log.outcome o)) = log.done (log.outcome o) ⇒ newest_done (newest_of l) ∣ Newest.Other
newest_of (log.◌▸◌ l (log.re_entry t b)) = Newest.Other
newest_of (log.◌▸◌ l (log.action a)) = newest_action a.number a.request

-- What the rules read of a whole log
abbrev pub reading_of : log.Log → Reading
reading_of l = record { contract = log.contract l; hard = log.hard_count l; caps = log.caps_count l; newest = newest_of l }
