-- "A bad event is an unknown code, a field outside the range named here, or an unused field that is not zero." Assumes nothing.
use Rattle.std.specs.Prelude.{Option, None, Some, ℕ, Bool, true, false, ◌&&◌, List, length, leb, Result, Ok, Err}
use Rattle.notation.specs.Rows.{◌⇒◌∣◌, ◌is◌}
use Rattle.model.specs.Codes as codes
use Rattle.events.specs.Types.{Call, Fields, Kind, Malformed, Message, Outcome, PowerSource}
use Rattle.events.specs.Fields.{fields}

abbrev pub malformed : {A : Type 0} → Result A Malformed
malformed = Err (record {})

unfoldable pub all_zero : ℕ → ℕ → ℕ → Bool
all_zero b first second = b is 0 && (first is 0 && second is 0)

-- "Unused fields, and words under b 0, are zero": the outcome, where they are
abbrev pub accept : Bool → Outcome → Result Call Malformed
accept zero o = zero ⇒ Ok (Call.Outcome o) ∣ malformed

abbrev pub hear : Bool → Message → Result Call Malformed
hear zero m = zero ⇒ Ok (Call.Outcome (Outcome.Message m)) ∣ malformed

-- What follows from what a number stands for, where it stands for something
abbrev pub with : {A E : Type 0} → Result A E → (A → Result Call Malformed) → Result Call Malformed
with (Ok x) f = f x
with (Err e) f = malformed

-- The call of an outcome, and of a message
abbrev pub reported : Result Outcome Malformed → Result Call Malformed
reported r = with r (λ o. Ok (Call.Outcome o))

abbrev pub heard : Result Message Malformed → Result Call Malformed
heard r = with r (λ m. Ok (Call.Outcome (Outcome.Message m)))

-- "6 Lookup (a: 0 none, 1 to 5 in retyping's order)": FixedSupply, VariableSupply, Battery, Pps, Avs
unfoldable pub found : ℕ → Result (Option Kind) Malformed
found a =
    a is 0 ⇒ Ok None ∣
    a is 1 ⇒ Ok (Some Kind.FixedSupply) ∣
    a is 2 ⇒ Ok (Some Kind.VariableSupply) ∣
    a is 3 ⇒ Ok (Some Kind.Battery) ∣
    a is 4 ⇒ Ok (Some Kind.Pps) ∣
    a is 5 ⇒ Ok (Some Kind.Avs) ∣
    malformed

abbrev pub lookup : Bool → ℕ → Result Call Malformed
lookup zero a = with (found a) (λ f. accept zero (Outcome.Lookup f))

-- "7 evaluation (a: 0 to 2)": Accept, Reject, Wait, the order of action 7
abbrev pub evaluation : Bool → ℕ → Result Call Malformed
evaluation zero a = with (codes.evaluation a) (λ r. accept zero (Outcome.Evaluation r))

-- "8 no or yes (a)", and a bad payload or a good one
unfoldable pub flag : ℕ → Result Bool Malformed
flag n =
    n is 0 ⇒ Ok false ∣
    n is 1 ⇒ Ok true ∣
    malformed

abbrev pub yes_no : Bool → ℕ → Result Call Malformed
yes_no zero a = with (flag a) (λ y. accept zero (Outcome.YesNo y))

-- "9 Event (a: 0 to 8 in the order of `Ready`'s match)"
abbrev pub event : Bool → ℕ → Result Call Malformed
event zero a = with (codes.event a) (λ e. accept zero (Outcome.Event e))

-- "10 timeout (a: 1 PPS, 2 keep-alive, 3 five seconds)"
abbrev pub timeout : Bool → ℕ → Result Call Malformed
timeout zero a = with (codes.timeout a) (λ t. accept zero (Outcome.Timeout t))

abbrev pub named : Bool → Option PowerSource → Result (Option PowerSource) Malformed
named zero p = zero ⇒ Ok p ∣ malformed

-- "0 Request, 1 EprRequest (b: 0 bad payload, else kind plus 1)"; "A request's second word is used by kind 5 only"
unfoldable pub payload : ℕ → ℕ → ℕ → Result (Option PowerSource) Malformed
payload b first second =
    b is 0 ⇒ named (all_zero 0 first second) None ∣
    b is 1 ⇒ named (second is 0) (Some (PowerSource.FixedVariableSupply (record { 0 = first }))) ∣
    b is 2 ⇒ named (second is 0) (Some (PowerSource.Battery (record { 0 = first }))) ∣
    b is 3 ⇒ named (second is 0) (Some (PowerSource.Pps (record { 0 = first }))) ∣
    b is 4 ⇒ named (second is 0) (Some (PowerSource.Avs (record { 0 = first }))) ∣
    b is 5 ⇒ named (second is 0) (Some (PowerSource.Unknown (record { 0 = first }))) ∣
    b is 6 ⇒ Ok (Some (PowerSource.EprRequest (record { rdo = first; pdo = second }))) ∣
    malformed

abbrev pub request : Result (Option PowerSource) Malformed → Result Call Malformed
request r = with r (λ p. Ok (Call.Outcome (Outcome.Message (Message.Request p))))

abbrev pub epr_request : Result (Option PowerSource) Malformed → Result Call Malformed
epr_request r = with r (λ p. Ok (Call.Outcome (Outcome.Message (Message.EprRequest p))))

-- "2 EprMode (b: 0 or 1; first word)"
unfoldable pub epr_mode : ℕ → ℕ → ℕ → Result Call Malformed
epr_mode b first second =
    b is 0 ⇒ hear (all_zero 0 first second) (Message.EprMode None) ∣
    b is 1 ⇒ hear (second is 0) (Message.EprMode (Some first)) ∣
    malformed

-- "3 control (b: type 0 to 31)"
unfoldable pub control : ℕ → ℕ → ℕ → Result Call Malformed
control b first second = leb b 31 ⇒ hear (all_zero 0 first second) (Message.Control b) ∣ malformed

-- "4 extended control (b: 0 or 1; first word: type 0 to 255)"
unfoldable pub extended_type : ℕ → ℕ → Result Call Malformed
extended_type first second = leb first 255 ⇒ hear (second is 0) (Message.ExtendedControl (Some first)) ∣ malformed

unfoldable pub extended_control : ℕ → ℕ → ℕ → Result Call Malformed
extended_control b first second =
    b is 0 ⇒ hear (all_zero 0 first second) (Message.ExtendedControl None) ∣
    b is 1 ⇒ extended_type first second ∣
    malformed

-- "6 SPR and 7 EPR sink capabilities (b: 0 or 1)"
abbrev pub sink_message : Bool → Bool → Message
sink_message true good = Message.EprSinkCapabilities good
sink_message false good = Message.SinkCapabilities good

abbrev pub sink_capabilities : Bool → Bool → ℕ → Result Call Malformed
sink_capabilities epr zero b = with (flag b) (λ good. hear zero (sink_message epr good))

unfoldable pub message : ℕ → ℕ → ℕ → ℕ → Result Call Malformed
message a b first second =
    a is 0 ⇒ request (payload b first second) ∣
    a is 1 ⇒ epr_request (payload b first second) ∣
    a is 2 ⇒ epr_mode b first second ∣
    a is 3 ⇒ control b first second ∣
    a is 4 ⇒ extended_control b first second ∣
    a is 5 ⇒ hear (all_zero b first second) Message.Other ∣
    a is 6 ⇒ sink_capabilities false (all_zero 0 first second) b ∣
    a is 7 ⇒ sink_capabilities true (all_zero 0 first second) b ∣
    malformed

-- "11 re-entry (a target, b mode)"; "A re-entry's a and b may be any number (R6)"
abbrev pub re_entry : Bool → ℕ → ℕ → Result Call Malformed
re_entry zero target change = zero ⇒ Ok (Call.ReEntry target change) ∣ malformed

abbrev pub unused : Fields → Bool
unused e = all_zero e.b e.first e.second

unfoldable pub bare : Fields → Outcome → Result Call Malformed
bare e o = accept (e.a is 0 && unused e) o

-- "Codes: 1 Done, 2 Failed (a), 3 DpmFailed, 4 NoSafe, 5 message, 6 Lookup, 7 evaluation, 8 no or yes, 9 Event, 10 timeout, 11 re-entry"
unfoldable pub call : Fields → Result Call Malformed
call e =
    e.code is 1 ⇒ bare e Outcome.Done ∣
    e.code is 2 ⇒ accept (unused e) (Outcome.Failed e.a) ∣
    e.code is 3 ⇒ bare e Outcome.DpmFailed ∣
    e.code is 4 ⇒ bare e Outcome.NoSafe ∣
    e.code is 5 ⇒ message e.a e.b e.first e.second ∣
    e.code is 6 ⇒ lookup (unused e) e.a ∣
    e.code is 7 ⇒ evaluation (unused e) e.a ∣
    e.code is 8 ⇒ yes_no (unused e) e.a ∣
    e.code is 9 ⇒ event (unused e) e.a ∣
    e.code is 10 ⇒ timeout (unused e) e.a ∣
    e.code is 11 ⇒ re_entry (all_zero 0 e.first e.second) e.a e.b ∣
    malformed

-- "a bad or partial event"
unfoldable pub decoded : List ℕ → Result Call Malformed
decoded s = length s is 12 ⇒ call (fields s) ∣ malformed
