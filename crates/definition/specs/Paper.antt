-- The paper taken literally, by its numbers: what fits an action, which arguments an action has, when each refusal is given, and the letter and number of
-- each answer. proofs/ shows that the definition agrees with it. Assumes nothing.
use Rattle.std.specs.Prelude.{Option, None, Some, ℕ, ◌+◌, ◌≡◌, Bool, true, false, not, ◌&&◌, ◌||◌, List, [], ◌∷◌, leb, ltb}
use Rattle.notation.specs.Rows.{◌⇒◌∣◌, ◌is◌}
use Rattle.request.specs.Requests.{kind, first, second}
use Rattle.definition.specs.Types.{Action, Answer, Call, Contract, Created, Message, Mode, Outcome, Place, Record, Negotiation}
use Rattle.definition.specs.Types.{PowerSource, Setting, Settings, Step, Timeout}
use Rattle.definition.specs.Actions.{awaited}
use Rattle.definition.specs.Answers.{finish_number, handover_number}
use Rattle.definition.specs.Engine.{issues}

unfoldable pub one_of : List ℕ → ℕ → Bool
one_of [] n = false
one_of (k ∷ ks) n = n is k || one_of ks n

-- "Message a: 0 Request, 1 EprRequest, 2 EprMode, 3 control, 4 extended control, 5 others, 6 SPR and 7 EPR sink capabilities"
abbrev pub class : Message → ℕ
class (Message.Request p) = 0
class (Message.EprRequest p) = 1
class (Message.EprMode p) = 2
class (Message.Control t) = 3
class (Message.ExtendedControl p) = 4
class Message.Other = 5
class (Message.SinkCapabilities good) = 6
class (Message.EprSinkCapabilities good) = 7

abbrev pub is_control : ℕ → Message → Bool
is_control k (Message.Request p) = false
is_control k (Message.EprRequest p) = false
is_control k (Message.EprMode p) = false
is_control k (Message.Control t) = t is k
is_control k (Message.ExtendedControl p) = false
is_control k Message.Other = false
is_control k (Message.SinkCapabilities good) = false
is_control k (Message.EprSinkCapabilities good) = false

-- "5 await request (0, 1: Request, EprRequest)"; "11 Ready wait (any message ..)"; "12 receive anything"; "17 receive (1 SPR sink capabilities,
-- 2 EPR ones, 3 Accept, 4 PS_RDY under PSSourceOnSpr, 5 PS_RDY under VCONNOn: that message only; 6 any message ..)"
unfoldable pub receives : ℕ → Message → Bool
receives argument m =
    argument is 1 ⇒ class m is 6 ∣
    argument is 2 ⇒ class m is 7 ∣
    argument is 3 ⇒ is_control 3 m ∣
    argument is 4 ⇒ is_control 6 m ∣
    argument is 5 ⇒ is_control 6 m ∣
    argument is 6

unfoldable pub message_fits : ℕ → ℕ → Message → Bool
message_fits number argument m =
    number is 5 ⇒ class m is argument ∣
    number is 11 ⇒ true ∣
    number is 12 ⇒ true ∣
    number is 17 ⇒ receives argument m ∣
    number is 29 ⇒ is_control 3 m || (is_control 4 m || is_control 12 m) ∣
    false

-- "argument 1 if a PPS contract, plus 2 in EPR, and only then those timeouts"; "19 await new capabilities (Event, five-second timeout)"
unfoldable pub timeout_fits : ℕ → ℕ → Timeout → Bool
timeout_fits number argument Timeout.Pps = number is 11 && one_of (1 ∷ 3 ∷ []) argument
timeout_fits number argument Timeout.KeepAlive = number is 11 && one_of (2 ∷ 3 ∷ []) argument
timeout_fits number argument Timeout.FiveSeconds = number is 19

-- "Done fits all except 5, 6, 7, 11, 12, 17, 19, 23, 24. Failed(e) fits 4, 5, 8, 11, 12, 13, 16, 17, 20, 22. DpmFailed fits 9, 10, 14, 15."
-- Document 02, order 4: 27 fits no or yes, 28 Done, 29 control 3, 4 or 12 and Failed(e)
unfoldable pub fits : Action → Outcome → Bool
fits a Outcome.Done = not (one_of (5 ∷ 6 ∷ 7 ∷ 11 ∷ 12 ∷ 17 ∷ 19 ∷ 23 ∷ 24 ∷ 27 ∷ 29 ∷ []) a.number)
fits a (Outcome.Failed e) = one_of (4 ∷ 5 ∷ 8 ∷ 11 ∷ 12 ∷ 13 ∷ 16 ∷ 17 ∷ 20 ∷ 22 ∷ 29 ∷ []) a.number
fits a Outcome.DpmFailed = one_of (9 ∷ 10 ∷ 14 ∷ 15 ∷ []) a.number
-- "10 supply to safe 5 V (also NoSafe)"
fits a Outcome.NoSafe = a.number is 10
fits a (Outcome.Message m) = message_fits a.number a.argument m
-- "6 look up object position (Lookup)"
fits a (Outcome.Lookup f) = a.number is 6
-- "7 evaluate (Accept, Reject, Wait)"
fits a (Outcome.Evaluation v) = a.number is 7
-- "23 and 24 yes or no"
fits a (Outcome.YesNo b) = one_of (23 ∷ 24 ∷ 27 ∷ []) a.number
-- "11 Ready wait (any message, Event ..)"; "19 await new capabilities (Event ..)"
fits a (Outcome.Event e) = one_of (11 ∷ 19 ∷ []) a.number
fits a (Outcome.Timeout t) = timeout_fits a.number a.argument t

-- The arguments that the list of actions names
unfoldable pub argument_named : ℕ → ℕ → Bool
argument_named number argument =
    number is 2 ⇒ one_of (1 ∷ 2 ∷ 3 ∷ []) argument ∣
    one_of (4 ∷ 5 ∷ 14 ∷ 20 ∷ 22 ∷ 28 ∷ []) number ⇒ one_of (0 ∷ 1 ∷ []) argument ∣
    number is 8 ⇒ leb argument 31 ∣
    number is 11 ⇒ leb argument 3 ∣
    number is 16 ⇒ leb argument 255 ∣
    number is 17 ⇒ one_of (1 ∷ 2 ∷ 3 ∷ 4 ∷ 5 ∷ 6 ∷ []) argument ∣
    number is 18 ⇒ one_of (1 ∷ 2 ∷ 3 ∷ 4 ∷ 17 ∷ 18 ∷ 19 ∷ 20 ∷ []) argument ∣
    one_of (1 ∷ 3 ∷ 6 ∷ 7 ∷ 9 ∷ 10 ∷ 12 ∷ 13 ∷ 15 ∷ 19 ∷ 21 ∷ 23 ∷ 24 ∷ 25 ∷ 26 ∷ 27 ∷ 29 ∷ []) number && argument is 0

abbrev pub carries : Option PowerSource → Bool
carries None = false
carries (Some q) = true

-- "Actions 7 and 9 also carry the request ..; 6 carries it": those and no others
abbrev pub xnor : Bool → Bool → Bool
xnor true b = b
xnor false b = not b

unfoldable pub named : Action → Bool
named a = argument_named a.number a.argument && xnor (one_of (6 ∷ 7 ∷ 9 ∷ []) a.number) (carries a.request)

-- What a record awaits, and the refusal with which a call ended (0: none)
abbrev pub awaits : Record → Action
awaits r = awaited (issues r r.place)

abbrev pub refusal : Answer → ℕ
refusal Answer.Waiting = 0
refusal (Answer.Stopped e) = 0
refusal (Answer.Finished f) = 0
refusal (Answer.HandedOver h) = 0
refusal (Answer.Refused n) = n

-- "Answers: W waiting; S.e stopped ..; F finished (0 `SwapToSink`, 1 `PortPartnerUnresponsive`, 2 `ReconnectionRequired`, 3 no safe request);
-- H handover (1 data Evaluate, 2 data Send, 3 power Evaluate, 4 power Send, 5 EPR Entry, 6 ExitReceived, 7 SendExit, 8 DiscoverCable)", and R:
-- each answer's letter, as its byte, and its number
abbrev pub letter : Answer → ℕ
letter Answer.Waiting = 87
letter (Answer.Stopped e) = 83
letter (Answer.Finished f) = 70
letter (Answer.HandedOver h) = 72
letter (Answer.Refused n) = 82

abbrev pub answer_number : Answer → ℕ
answer_number Answer.Waiting = 0
answer_number (Answer.Stopped e) = e
answer_number (Answer.Finished f) = finish_number f
answer_number (Answer.HandedOver h) = handover_number h
answer_number (Answer.Refused n) = n

-- What a call answers, by letter and number: R and the number of its refusal, or what the place says that the record has come to
abbrev pub place_letter : Place → ℕ
place_letter (Place.Waiting s) = 87
place_letter (Place.Negotiating w q) = 87
place_letter (Place.Stopped e) = 83
place_letter (Place.Finished f) = 70
place_letter (Place.HandedOver h) = 72

abbrev pub place_number : Place → ℕ
place_number (Place.Waiting s) = 0
place_number (Place.Negotiating w q) = 0
place_number (Place.Stopped e) = e
place_number (Place.Finished f) = finish_number f
place_number (Place.HandedOver h) = handover_number h

-- The answer of a step, where n is the number of its refusal, 0 if it is not refused
pub record Answers (n : ℕ) (s : Step) : Type 0 where
  pub by_letter : letter s.answer ≡ (n is 0 ⇒ place_letter s.«record».place ∣ 82)
  pub by_number : answer_number s.answer ≡ (n is 0 ⇒ place_number s.«record».place ∣ n)

-- "R1: a limit is 0; a count exceeds its limit; action 9 awaits its outcome and the contract is not TransitionToExplicit; the PS_RDY after it
-- awaits and the contract is not Explicit of that request"
abbrev pub in_transition : Contract → Bool
in_transition Contract.Safe5V = false
in_transition Contract.Implicit = false
in_transition Contract.TransitionToExplicit = true
in_transition (Contract.Explicit p) = false
in_transition Contract.Invalid = false

-- "A request is a kind .. and two 32-bit words": that request is the one with the same three
abbrev pub explicitly : PowerSource → Contract → Bool
explicitly q Contract.Safe5V = false
explicitly q Contract.Implicit = false
explicitly q Contract.TransitionToExplicit = false
explicitly q (Contract.Explicit p) = kind p is kind q && (first p is first q && second p is second q)
explicitly q Contract.Invalid = false

abbrev pub ps_rdy_without : Place → Contract → Bool
ps_rdy_without (Place.Waiting s) c = false
ps_rdy_without (Place.Negotiating Negotiation.Lookup q) c = false
ps_rdy_without (Place.Negotiating Negotiation.Evaluate q) c = false
ps_rdy_without (Place.Negotiating Negotiation.Accept q) c = false
ps_rdy_without (Place.Negotiating Negotiation.Supply q) c = false
ps_rdy_without (Place.Negotiating Negotiation.PsRdy q) c = not (explicitly q c)
ps_rdy_without (Place.Stopped e) c = false
ps_rdy_without (Place.HandedOver h) c = false
ps_rdy_without (Place.Finished f) c = false

unfoldable pub r1_row : Record → Bool
r1_row r =
    r.hard_reset_counter.max_value is 0 ||
    (r.caps_counter.max_value is 0 ||
    (ltb r.hard_reset_counter.max_value r.hard_reset_counter.value ||
    (ltb r.caps_counter.max_value r.caps_counter.value ||
    ((awaits r).number is 9 && not (in_transition r.contract) ||
    ps_rdy_without r.place r.contract))))

-- "R2: step or re-entry on a finished record"
abbrev pub finished : Place → Bool
finished (Place.Waiting s) = false
finished (Place.Negotiating w q) = false
finished (Place.Stopped e) = false
finished (Place.HandedOver h) = false
finished (Place.Finished f) = true

-- "R3: re-entry on a waiting record"
abbrev pub waiting : Place → Bool
waiting (Place.Waiting s) = true
waiting (Place.Negotiating w q) = true
waiting (Place.Stopped e) = false
waiting (Place.HandedOver h) = false
waiting (Place.Finished f) = false

abbrev pub handed_over : Place → Bool
handed_over (Place.Waiting s) = false
handed_over (Place.Negotiating w q) = false
handed_over (Place.Stopped e) = false
handed_over (Place.HandedOver h) = true
handed_over (Place.Finished f) = false

-- "R4: step on a stopped or handed-over record" stands after R2, so: on one that does not wait
-- "R5: the outcome does not fit the awaited action, or would be a bad event": "3 control (b: type 0 to 31)" is the one range that an outcome can
-- leave. "Order for step: R1, R2, R4, R5"
abbrev pub message_out_of_range : Message → Bool
message_out_of_range (Message.Request p) = false
message_out_of_range (Message.EprRequest p) = false
message_out_of_range (Message.EprMode p) = false
message_out_of_range (Message.Control t) = ltb 31 t
message_out_of_range (Message.ExtendedControl p) = false
message_out_of_range Message.Other = false
message_out_of_range (Message.SinkCapabilities good) = false
message_out_of_range (Message.EprSinkCapabilities good) = false

abbrev pub out_of_range : Outcome → Bool
out_of_range Outcome.Done = false
out_of_range (Outcome.Failed e) = false
out_of_range Outcome.DpmFailed = false
out_of_range Outcome.NoSafe = false
out_of_range (Outcome.Message m) = message_out_of_range m
out_of_range (Outcome.Lookup f) = false
out_of_range (Outcome.Evaluation v) = false
out_of_range (Outcome.YesNo b) = false
out_of_range (Outcome.Event e) = false
out_of_range (Outcome.Timeout t) = false

unfoldable pub step_refusal : Record → Outcome → ℕ
step_refusal r o =
    r1_row r ⇒ 1 ∣
    finished r.place ⇒ 2 ∣
    not (waiting r.place) ⇒ 4 ∣
    not (fits (awaits r) o) || out_of_range o ⇒ 5 ∣
    0

-- "R6: target or mode change not allowed". Targets 0 to 9, after a handover also 10 and 11; mode change 0, after a handover also 1 and 2
unfoldable pub r6_row : Bool → ℕ → ℕ → Bool
r6_row handed target change =
    not (one_of (0 ∷ 1 ∷ 2 ∷ 3 ∷ 4 ∷ 5 ∷ 6 ∷ 7 ∷ 8 ∷ 9 ∷ []) target || handed && one_of (10 ∷ 11 ∷ []) target) ||
    not (change is 0 || handed && one_of (1 ∷ 2 ∷ []) change)

-- "for re-entry: R1, R2, R3, R6"
unfoldable pub re_entry_refusal : Record → ℕ → ℕ → ℕ
re_entry_refusal r target change =
    r1_row r ⇒ 1 ∣
    finished r.place ⇒ 2 ∣
    waiting r.place ⇒ 3 ∣
    r6_row (handed_over r.place) target change ⇒ 6 ∣
    0

-- "R7: create: a limit is 0, or role_swapped without dual_role"
unfoldable pub create_refusal : Settings → ℕ
create_refusal s =
    s.hard_limit is 0 || (s.caps_limit is 0 || s.role_swapped && not s.port.dual_role) ⇒ 7 ∣
    0

-- A call, with its refusal and its answer
abbrev pub take_refusal : Record → Call → ℕ
take_refusal r (Call.Outcome o) = step_refusal r o
take_refusal r (Call.ReEntry target change) = re_entry_refusal r target change

pub record AnswersCreation (n : ℕ) (c : Created) : Type 0 where
  pub by_letter : letter c.answer ≡ (n is 0 ⇒ 87 ∣ 82)
  pub by_number : answer_number c.answer ≡ n

-- What a call does to the mode. "Startup .. both set SPR": the call that issues 1 directly followed by 3 or 2.1
unfoldable pub starts_up : List Action → Bool
starts_up [] = false
starts_up (a ∷ []) = false
starts_up (a ∷ b ∷ rest) = (b.number is 3 || b.number is 2 && b.argument is 1) && a.number is 1

-- "Mode change: 0 keep; after a handover also 1 Spr, 2 Epr"
abbrev pub mode_asked : Call → Mode → Mode
mode_asked (Call.Outcome o) m = m
mode_asked (Call.ReEntry target change) m = change is 1 ⇒ Mode.Spr ∣ change is 2 ⇒ Mode.Epr ∣ m

-- "the mode changes first and the target is entered then", and a refusal changes nothing
abbrev pub mode_after : Mode → Call → Step → Mode
mode_after m c s = refusal s.answer is 0 ⇒ (starts_up s.actions ⇒ Mode.Spr ∣ mode_asked c m) ∣ m

-- "flags (1 dual, 2 swapped, 4 vconn)". Document 02, order 5: "The trace keeps it in flag 8", set under "standard"
abbrev pub flag : ℕ → Bool → ℕ
flag n true = n
flag n false = 0

abbrev pub is_standard : Setting → Bool
is_standard Setting.Crate = false
is_standard Setting.Standard = true

abbrev pub flags : Settings → ℕ
flags s = flag 1 s.port.dual_role + (flag 2 s.role_swapped + (flag 4 s.port.vconn_source + flag 8 (is_standard s.port.setting)))
