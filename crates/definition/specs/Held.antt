-- What the types hold: an 8-bit number is below 256, a 16-bit one below 65,536, a 32-bit one below 4,294,967,296. What is handed to a call is of these
-- types; what a call gives stays there (proofs/Held.antt). Assumes nothing.
use Rattle.std.specs.Prelude.{Option, None, Some, ℕ, ◌<◌}
use Rattle.request.specs.Requests.{first, second}
use Rattle.definition.specs.Types.{Call, Contract, Counter, Message, Outcome, Place, PowerSource, Record}
use Rattle.definition.specs.Types.{Settings}

abbrev pub Byte : ℕ → Type 0
Byte n = n < 256

abbrev pub Half : ℕ → Type 0
Half n = n < 65536

abbrev pub Word : ℕ → Type 0
Word n = n < 4294967296

abbrev pub HeldRequest : PowerSource → Type 0
HeldRequest q = Word (first q) × Word (second q)

abbrev pub HeldContract : Contract → Type 0
HeldContract Contract.Safe5V = Unit
HeldContract Contract.Implicit = Unit
HeldContract Contract.TransitionToExplicit = Unit
HeldContract (Contract.Explicit q) = HeldRequest q
HeldContract Contract.Invalid = Unit

abbrev pub HeldPlace : Place → Type 0
HeldPlace (Place.Waiting s) = Unit
HeldPlace (Place.Negotiating w q) = HeldRequest q
HeldPlace (Place.Stopped e) = Byte e
HeldPlace (Place.HandedOver h) = Unit
HeldPlace (Place.Finished f) = Unit

abbrev pub HeldCounter : Counter → Type 0
HeldCounter n = Byte n.value × Byte n.max_value

pub record HeldRecord (r : Record) : Type 0 where
  pub place : HeldPlace r.place
  pub contract : HeldContract r.contract
  pub hard : HeldCounter r.hard_reset_counter
  pub caps : HeldCounter r.caps_counter

abbrev pub HeldSettings : Settings → Type 0
HeldSettings s = Byte s.hard_limit × Byte s.caps_limit

abbrev pub HeldPayload : Option PowerSource → Type 0
HeldPayload None = Unit
HeldPayload (Some q) = HeldRequest q

abbrev pub HeldMessage : Message → Type 0
HeldMessage (Message.Request p) = HeldPayload p
HeldMessage (Message.EprRequest p) = HeldPayload p
HeldMessage (Message.EprMode None) = Unit
HeldMessage (Message.EprMode (Some w)) = Word w
HeldMessage (Message.Control t) = Byte t
HeldMessage (Message.ExtendedControl None) = Unit
HeldMessage (Message.ExtendedControl (Some t)) = Byte t
HeldMessage Message.Other = Unit
HeldMessage (Message.SinkCapabilities good) = Unit
HeldMessage (Message.EprSinkCapabilities good) = Unit

abbrev pub HeldOutcome : Outcome → Type 0
HeldOutcome Outcome.Done = Unit
HeldOutcome (Outcome.Failed e) = Byte e
HeldOutcome Outcome.DpmFailed = Unit
HeldOutcome Outcome.NoSafe = Unit
HeldOutcome (Outcome.Message m) = HeldMessage m
HeldOutcome (Outcome.Lookup f) = Unit
HeldOutcome (Outcome.Evaluation v) = Unit
HeldOutcome (Outcome.YesNo b) = Unit
HeldOutcome (Outcome.Event e) = Unit
HeldOutcome (Outcome.Timeout t) = Unit

abbrev pub HeldCall : Call → Type 0
HeldCall (Call.Outcome o) = HeldOutcome o
HeldCall (Call.ReEntry target change) = Byte target × Half change
