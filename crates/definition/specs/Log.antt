-- Reading the log: contract and counts by rules that know no engine state. A log is read from its newest entry back. Assumes nothing.
use Rattle.std.specs.Prelude.{Option, None, Some, ℕ, suc, ◌≡◌, Bool, true, false, not, ◌&&◌, ◌||◌}
use Rattle.notation.specs.Rows.{◌⇒◌∣◌, ◌is◌}
use Rattle.request.specs.Requests.{retyped}
use Rattle.definition.specs.Types.{Settings, Outcome, Message, CapabilityResponse, Action, Contract, DataRole}
use Rattle.definition.specs.Types.{PowerSource, Kind, Port, Setting}
use Rattle.definition.specs.Outcomes.{code, on_message, on_lookup, on_evaluation}

-- "Entries: creation, accepted outcomes and re-entries, actions, in order"
pub data Entry : Type 0 where
  creation : Settings → Entry
  outcome : Outcome → Entry
  re_entry : ℕ → ℕ → Entry
  action : Action → Entry

infixl 20 ◌▸◌
pub data Log : Type 0 where
  empty : Log
  ◌▸◌ : Log → Entry → Log

-- An action of this number and argument
abbrev pub numbered : ℕ → ℕ → Action → Bool
numbered n a x = x.number is n && x.argument is a

-- An entry that is an action which passes this test
abbrev pub acts : (Action → Bool) → Entry → Bool
acts test (creation s) = false
acts test (outcome o) = false
acts test (re_entry t b) = false
acts test (action x) = test x

-- An action of this number, whatever its argument
abbrev pub number : ℕ → Entry → Bool
number n = acts (λ x. x.number is n)

abbrev pub done : Entry → Bool
done (creation s) = false
done (outcome o) = code o is 1
done (re_entry t b) = false
done (action x) = false

-- The newest entry, and the one before it, as these tests have it
abbrev pub newest : (Entry → Bool) → Log → Bool
newest test empty = false
newest test (l ▸ e) = test e

abbrev pub newest_two : (Entry → Bool) → (Entry → Bool) → Log → Bool
newest_two before test empty = false
newest_two before test (l ▸ e) = test e && newest before l

-- What stood before the newest entry, as this test has it
abbrev pub before_newest : (Log → Bool) → Log → Bool
before_newest test empty = false
before_newest test (l ▸ e) = test l

-- The request that the newest entry carries, if it is an action with one
abbrev pub carried_by : Option PowerSource → Contract → Contract
carried_by None c = c
carried_by (Some q) c = Contract.Explicit q

abbrev pub explicit_of_newest : Log → Contract → Contract
explicit_of_newest empty c = c
explicit_of_newest (l ▸ creation s) c = c
explicit_of_newest (l ▸ outcome o) c = c
explicit_of_newest (l ▸ re_entry t b) c = c
explicit_of_newest (l ▸ action x) c = carried_by x.request c

-- "Contract: D at creation (Implicit if swapped); 1 directly followed by 3 sets D; action 9 sets TransitionToExplicit; its Done sets Explicit of its request"
unfoldable pub contract : Log → Contract
contract empty = Contract.Safe5V
contract (l ▸ creation s) = s.role_swapped ⇒ Contract.Implicit ∣ Contract.Safe5V
contract (l ▸ outcome o) = done (outcome o) && newest (number 9) l ⇒ explicit_of_newest l (contract l) ∣ contract l
contract (l ▸ re_entry t b) = contract l
contract (l ▸ action x) =
    x.number is 3 && newest (number 1) l ⇒ Contract.Safe5V ∣
    x.number is 9 ⇒ Contract.TransitionToExplicit ∣
    contract l

-- "Hard count: the 13s since the last 4, Done, 5 in a row"
unfoldable pub hard_count : Log → ℕ
hard_count empty = 0
hard_count (l ▸ creation s) = hard_count l
hard_count (l ▸ outcome o) = hard_count l
hard_count (l ▸ re_entry t b) = hard_count l
hard_count (l ▸ action x) =
    x.number is 13 ⇒ suc (hard_count l) ∣
    x.number is 5 && newest_two (number 4) done l ⇒ 0 ∣
    hard_count l

-- "Capabilities count: the 2.2s since the last 1 followed by 3 or 2.1"
unfoldable pub caps_count : Log → ℕ
caps_count empty = 0
caps_count (l ▸ creation s) = caps_count l
caps_count (l ▸ outcome o) = caps_count l
caps_count (l ▸ re_entry t b) = caps_count l
caps_count (l ▸ action x) =
    numbered 2 2 x ⇒ suc (caps_count l) ∣
    (x.number is 3 || numbered 2 1 x) && newest (number 1) l ⇒ 0 ∣
    caps_count l

-- Document 02, order 4. The data role: Dfp at creation; each Done of a 28 sets its argument, 0 Ufp and 1 Dfp
unfoldable pub data_role_of : Log → DataRole
data_role_of empty = DataRole.Dfp
data_role_of (l ▸ creation s) = DataRole.Dfp
data_role_of (l ▸ outcome o) =
    done (outcome o) && newest (acts (numbered 28 0)) l ⇒ DataRole.Ufp ∣
    done (outcome o) && newest (acts (numbered 28 1)) l ⇒ DataRole.Dfp ∣
    data_role_of l
data_role_of (l ▸ re_entry t b) = data_role_of l
data_role_of (l ▸ action x) = data_role_of l

-- Document 02, order 6. Who feeds VCONN: the port that was created, and whether it feeds VCONN now
pub data Feeding : Type 0 where
  uncreated : Feeding
  feeds : Port → Bool → Feeding

-- What is noted "under "standard""; "Under "crate" nothing changes"
abbrev pub noted : Setting → Bool → Bool → Bool
noted Setting.Crate new old = old
noted Setting.Standard new old = new

abbrev pub driven : Bool → Feeding → Feeding
driven v uncreated = uncreated
driven v (feeds p now) = feeds p (noted p.setting v now)

abbrev pub restored : Feeding → Feeding
restored uncreated = uncreated
restored (feeds p now) = feeds p (noted p.setting p.vconn_source now)

-- A 14 of TransitionToDefault directly follows the Done of 2.3 or of 15; a swap's follows a message, or the Done of its Accept, 8.3
abbrev pub defaulting : Log → Bool
defaulting = newest_two (acts (λ x. numbered 2 3 x || x.number is 15)) done

-- The newest entry is a swap's 14 of this argument
abbrev pub swap_drives : ℕ → Log → Bool
swap_drives n l = newest (acts (numbered 14 n)) l && not (before_newest defaulting l)

-- The creation value; Done of a swap's 14.0 clears it and Done of a swap's 14.1 sets it; 1 directly followed by 3 or 2.1 sets it back
unfoldable pub feeding : Log → Feeding
feeding empty = uncreated
feeding (l ▸ creation s) = feeds s.port s.port.vconn_source
feeding (l ▸ outcome o) =
    done (outcome o) && swap_drives 0 l ⇒ driven false (feeding l) ∣
    done (outcome o) && swap_drives 1 l ⇒ driven true (feeding l) ∣
    feeding l
feeding (l ▸ re_entry t b) = feeding l
feeding (l ▸ action x) = (x.number is 3 || numbered 2 1 x) && newest (number 1) l ⇒ restored (feeding l) ∣ feeding l

-- The sink's latest request, Unknown retyped by its lookup
pub data Latest : Type 0 where
  nothing : Latest
  request : PowerSource → Latest

abbrev looked_up : Option Kind → Latest → Latest
looked_up f nothing = nothing
looked_up f (request q) = request (retyped q f)

-- A message that is a request whose payload is good, by that request, else the first argument
abbrev pub on_request : Latest → (PowerSource → Latest) → Message → Latest
on_request x f (Message.Request None) = x
on_request x f (Message.Request (Some q)) = f q
on_request x f (Message.EprRequest None) = x
on_request x f (Message.EprRequest (Some q)) = f q
on_request x f (Message.EprMode p) = x
on_request x f (Message.Control t) = x
on_request x f (Message.ExtendedControl p) = x
on_request x f Message.Other = x
on_request x f (Message.SinkCapabilities good) = x
on_request x f (Message.EprSinkCapabilities good) = x

abbrev pub after_outcome : Outcome → Latest → Latest
after_outcome o before = on_message (on_lookup before (λ f. looked_up f before) o) (on_request before request) o

unfoldable pub latest : Log → Latest
latest empty = nothing
latest (l ▸ creation s) = latest l
latest (l ▸ outcome o) = after_outcome o (latest l)
latest (l ▸ re_entry t b) = latest l
latest (l ▸ action x) = latest l

-- What the last evaluation accepted: the request that was the latest then. An evaluation that does not accept, and a new request, which
-- is yet to be evaluated, forget it
abbrev pub judgement : CapabilityResponse → Latest → Latest
judgement CapabilityResponse.Accept now = now
judgement CapabilityResponse.Reject now = nothing
judgement CapabilityResponse.Wait now = nothing

abbrev pub judged : Outcome → Latest → Latest → Latest
judged o now before = on_message (on_evaluation before (λ v. judgement v now) o) (on_request before (λ q. nothing)) o

unfoldable pub accepted : Log → Latest
accepted empty = nothing
accepted (l ▸ creation s) = accepted l
accepted (l ▸ outcome o) = judged o (latest l) (accepted l)
accepted (l ▸ re_entry t b) = accepted l
accepted (l ▸ action x) = accepted l

-- Which entries each rule names: "No other entry touches them"
unfoldable pub names_contract : Log → Entry → Bool
names_contract l (creation s) = true
names_contract l (outcome o) = done (outcome o) && newest (number 9) l
names_contract l (re_entry t b) = false
names_contract l (action x) = x.number is 3 && newest (number 1) l || x.number is 9

unfoldable pub names_hard_count : Log → Entry → Bool
names_hard_count l (creation s) = false
names_hard_count l (outcome o) = false
names_hard_count l (re_entry t b) = false
names_hard_count l (action x) = x.number is 13 || x.number is 5 && newest_two (number 4) done l

unfoldable pub names_caps_count : Log → Entry → Bool
names_caps_count l (creation s) = false
names_caps_count l (outcome o) = false
names_caps_count l (re_entry t b) = false
names_caps_count l (action x) = numbered 2 2 x || (x.number is 3 || numbered 2 1 x) && newest (number 1) l

unfoldable pub names_data_role : Log → Entry → Bool
names_data_role l (creation s) = true
names_data_role l (outcome o) = done (outcome o) && (newest (acts (numbered 28 0)) l || newest (acts (numbered 28 1)) l)
names_data_role l (re_entry t b) = false
names_data_role l (action x) = false

unfoldable pub names_feeding : Log → Entry → Bool
names_feeding l (creation s) = true
names_feeding l (outcome o) = done (outcome o) && (swap_drives 0 l || swap_drives 1 l)
names_feeding l (re_entry t b) = false
names_feeding l (action x) = (x.number is 3 || numbered 2 1 x) && newest (number 1) l

-- "A supply moves to a request only if it is the sink's latest, Unknown retyped by its lookup, and the last evaluation accepted it":
-- of every action 9 in the log
abbrev pub carried : Option PowerSource → Latest
carried None = nothing
carried (Some q) = request q

abbrev pub Vouched : Log → Action → Type 0
Vouched l x = (latest l ≡ carried x.request) × (accepted l ≡ carried x.request)

unfoldable pub Supplied : Log → Type 0
Supplied empty = Unit
Supplied (l ▸ creation s) = Supplied l
Supplied (l ▸ outcome o) = Supplied l
Supplied (l ▸ re_entry t b) = Supplied l
Supplied (l ▸ action x) = (x.number is 9 ≡ true → Vouched l x) × Supplied l
