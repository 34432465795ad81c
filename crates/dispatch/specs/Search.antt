-- What it is to look a message up in the rows: read from the top, the first that answers. Assumes nothing.
use Rattle.std.specs.Prelude.{ℕ, zero, suc, ◌+◌, ◌/◌, Bool, true, false, not, ◌&&◌, Option, None, Some, is_none}
use Rattle.std.specs.Option.{option_eq}
use Rattle.notation.specs.Rows.{◌⇒◌∣◌, ◌is◌}
use Rattle.definition.specs.Types.{PowerSource, Message}
use Rattle.definition.specs.Types.{Mode, State, Exchange, HardResetWait, Handover, GiveWait, SwapState, DataRoleSwap, FastPowerRoleSwap}
use Rattle.definition.specs.Types.{VcsState, VcsSwapSource}
use Rattle.definition.specs.Next as then
use Rattle.definition.specs.Messages.{requested, rx_hard_reset}
use Rattle.dispatch.specs.declared.rows.Class.{Class}
use Rattle.dispatch.specs.declared.rows.Condition.{Condition}
use Rattle.dispatch.specs.declared.rows.Next.{Next}
use Rattle.dispatch.specs.declared.rows.Row.{Row}
use Rattle.dispatch.specs.Rows as rows

-- "Message a: 0 Request, 1 EprRequest .., 2 EprMode .., 3 control .., 4 extended control"
abbrev pub number_of : Class → ℕ
number_of Class.Request = 0
number_of Class.EprRequest = 1
number_of Class.EprMode = 2
number_of Class.Control = 3
number_of Class.ExtendedControl = 4

abbrev pub same_class : Class → Class → Bool
same_class a b = number_of a is number_of b

-- "EprMode (action in bits 31 to 24 of its word)"
abbrev pub action_of : Option ℕ → Option ℕ
action_of None = None
action_of (Some word) = Some (word / 16777216)

abbrev pub is_spr : Mode → Bool
is_spr Mode.Spr = true
is_spr Mode.Epr = false

-- The conditions that hold of a port in a mode, of its role, and of the payload of a request
abbrev pub holds : Condition → Mode → Bool → Bool → Bool
holds Condition.Always m dual bad = true
holds Condition.InSpr m dual bad = is_spr m
holds Condition.InEpr m dual bad = not (is_spr m)
holds Condition.Dual m dual bad = dual
holds Condition.NotDual m dual bad = not dual
holds Condition.BadPayload m dual bad = bad

unfoldable pub answers : Class → Option ℕ → Mode → Bool → Bool → Row → Bool
answers class t m dual bad r =
    (option_eq same_class (Some class) r.class && option_eq ◌is◌ t r.message_type) && holds r.condition m dual bad

-- The first of k rows from n on that answers; the last row answers what no other does
unfoldable pub seek : (Row → Bool) → ℕ → ℕ → ℕ
seek answering zero n = rows.last
seek answering (suc k) n = answering (rows.rule n) ⇒ n ∣ seek answering k (n + 1)

unfoldable pub found : Class → Option ℕ → Mode → Bool → Bool → ℕ
found class t m dual bad = seek (answers class t m dual bad) 25 1

-- By message class, control type and extended type; everything else meets the last row
abbrev pub row_of : Mode → Bool → Message → ℕ
row_of m dual (Message.Request p) = found Class.Request None m dual (is_none p)
row_of m dual (Message.EprRequest p) = found Class.EprRequest None m dual (is_none p)
row_of m dual (Message.EprMode p) = found Class.EprMode (action_of p) m dual false
row_of m dual (Message.Control t) = found Class.Control (Some t) m dual false
row_of m dual (Message.ExtendedControl p) = found Class.ExtendedControl p m dual false
row_of m dual Message.Other = rows.last
row_of m dual (Message.SinkCapabilities good) = rows.last
row_of m dual (Message.EprSinkCapabilities good) = rows.last

-- The rows of a class stand together
abbrev pub first_of : Class → ℕ
first_of Class.Request = 1
first_of Class.EprRequest = 1
first_of Class.EprMode = 7
first_of Class.Control = 11
first_of Class.ExtendedControl = 22

abbrev pub end_of : Class → ℕ
end_of Class.Request = 7
end_of Class.EprRequest = 7
end_of Class.EprMode = 11
end_of Class.Control = 22
end_of Class.ExtendedControl = 26

-- Where a row leads: a request is negotiated as it arrived
abbrev pub request_of : Message → Option PowerSource
request_of (Message.Request p) = p
request_of (Message.EprRequest p) = p
request_of (Message.EprMode p) = None
request_of (Message.Control t) = None
request_of (Message.ExtendedControl p) = None
request_of Message.Other = None
request_of (Message.SinkCapabilities good) = None
request_of (Message.EprSinkCapabilities good) = None

abbrev pub led : Next → Message → then.Next
led Next.Stop x = then.stop rx_hard_reset
led Next.NegotiateCapability x = requested (request_of x)
led Next.EprEntry x = then.hand_over Handover.EprEntry
led Next.EprExitReceived x = then.hand_over Handover.EprExitReceived
led Next.PowerEvaluate x = then.hand_over Handover.PowerEvaluate
led Next.HardReset x = then.go (State.HardReset HardResetWait.Signal)
led Next.SoftReset x = then.go State.SoftReset
led Next.SendCapabilities x = then.go (State.SendCapabilities Exchange.Transmit)
led Next.GiveSourceCap x = then.go (State.GiveSourceCap Mode.Spr)
led Next.GiveEprSourceCap x = then.go (State.GiveSourceCap Mode.Epr)
led Next.EvaluateSwap x = then.go (State.VconnSwap VcsSwapSource.Message VcsState.EvaluateSwap)
led Next.DataEvaluate x = then.go (State.DrpSwap (SwapState.Data DataRoleSwap.Evaluate))
led Next.FastEvaluate x = then.go (State.DrpSwap (SwapState.FastPower FastPowerRoleSwap.Evaluate))
led Next.GiveSinkCap x = then.go (State.DrpGiveSinkCap Mode.Spr GiveWait.Read)
led Next.GiveEprSinkCap x = then.go (State.DrpGiveSinkCap Mode.Epr GiveWait.Read)
led Next.NotSupportedReceived x = then.go State.NotSupportedReceived
led Next.EprKeepAlive x = then.go State.EprKeepAlive
led Next.SendNotSupported x = then.go State.SendNotSupported
