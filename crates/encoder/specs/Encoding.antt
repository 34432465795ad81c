-- The event of a call, by the numbers of document 01. Assumes nothing.
use Rattle.std.specs.Prelude.{Option, None, Some, ℕ, ◌+◌, Bool, true, false}
use Rattle.request.specs.Requests.{kind, first, second}
use Rattle.events.specs.Types.{Call, CapabilityResponse, Event, Kind, Message, Outcome, PowerSource, Timeout}
use Rattle.events.specs.declared.fields.Fields.{Fields}

abbrev pub numbered : ℕ → ℕ → Fields
numbered code a = record { code = code; a = a; b = 0; first = 0; second = 0 }

abbrev pub heard : ℕ → ℕ → ℕ → ℕ → Fields
heard class b first second = record { code = 5; a = class; b = b; first = first; second = second }

abbrev pub found_number : Option Kind → ℕ
found_number None = 0
found_number (Some Kind.FixedSupply) = 1
found_number (Some Kind.VariableSupply) = 2
found_number (Some Kind.Battery) = 3
found_number (Some Kind.Pps) = 4
found_number (Some Kind.Avs) = 5

abbrev pub evaluation_number : CapabilityResponse → ℕ
evaluation_number CapabilityResponse.Accept = 0
evaluation_number CapabilityResponse.Reject = 1
evaluation_number CapabilityResponse.Wait = 2

abbrev pub event_number : Event → ℕ
event_number Event.None = 0
event_number Event.UpdatedSourceCapabilities = 1
event_number Event.RequestSinkCapabilities = 2
event_number Event.RequestSourceCapabilities = 3
event_number Event.RequestEprSourceCapabilities = 4
event_number Event.ExitEprMode = 5
event_number Event.RequestVconnSwap = 6
event_number Event.RequestDataRoleSwap = 7
event_number Event.RequestPowerRoleSwap = 8

abbrev pub timeout_number : Timeout → ℕ
timeout_number Timeout.Pps = 1
timeout_number Timeout.KeepAlive = 2
timeout_number Timeout.FiveSeconds = 3

abbrev pub flag_number : Bool → ℕ
flag_number true = 1
flag_number false = 0

-- "b: 0 bad payload, else kind plus 1"
abbrev pub kind_b : PowerSource → ℕ
kind_b q = kind q + 1

abbrev pub request_fields : ℕ → Option PowerSource → Fields
request_fields class None = heard class 0 0 0
request_fields class (Some q) = heard class (kind_b q) (first q) (second q)

abbrev pub epr_mode_fields : Option ℕ → Fields
epr_mode_fields None = heard 2 0 0 0
epr_mode_fields (Some word) = heard 2 1 word 0

abbrev pub extended_fields : Option ℕ → Fields
extended_fields None = heard 4 0 0 0
extended_fields (Some t) = heard 4 1 t 0

abbrev pub message_fields : Message → Fields
message_fields (Message.Request p) = request_fields 0 p
message_fields (Message.EprRequest p) = request_fields 1 p
message_fields (Message.EprMode p) = epr_mode_fields p
message_fields (Message.Control t) = heard 3 t 0 0
message_fields (Message.ExtendedControl p) = extended_fields p
message_fields Message.Other = heard 5 0 0 0
message_fields (Message.SinkCapabilities good) = heard 6 (flag_number good) 0 0
message_fields (Message.EprSinkCapabilities good) = heard 7 (flag_number good) 0 0

abbrev pub outcome_fields : Outcome → Fields
outcome_fields Outcome.Done = numbered 1 0
outcome_fields (Outcome.Failed e) = numbered 2 e
outcome_fields Outcome.DpmFailed = numbered 3 0
outcome_fields Outcome.NoSafe = numbered 4 0
outcome_fields (Outcome.Message m) = message_fields m
outcome_fields (Outcome.Lookup f) = numbered 6 (found_number f)
outcome_fields (Outcome.Evaluation v) = numbered 7 (evaluation_number v)
outcome_fields (Outcome.YesNo b) = numbered 8 (flag_number b)
outcome_fields (Outcome.Event e) = numbered 9 (event_number e)
outcome_fields (Outcome.Timeout t) = numbered 10 (timeout_number t)

abbrev pub call_fields : Call → Fields
call_fields (Call.Outcome o) = outcome_fields o
call_fields (Call.ReEntry target change) = record { code = 11; a = target; b = change; first = 0; second = 0 }
