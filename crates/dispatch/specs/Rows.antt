-- Document 01, port order 3, as the rows on the wall. What they say of a message is proved to be the definition's `dispatched` (proofs/Wall.antt).
-- Assumes nothing.
use Rattle.std.specs.Prelude.{ℕ, Option, None, Some}
use Rattle.notation.specs.Rows.{◌⇒◌∣◌, ◌is◌}
use Rattle.dispatch.specs.declared.rows.Class.{Class}
use Rattle.dispatch.specs.declared.rows.Class.TheVariants.{Request, EprRequest, EprMode, Control, ExtendedControl}
use Rattle.dispatch.specs.declared.rows.Condition.{Condition}
use Rattle.dispatch.specs.declared.rows.Condition.TheVariants.{Always, InSpr, InEpr, Dual, NotDual, BadPayload}
use Rattle.dispatch.specs.declared.rows.Next.{Next}
use Rattle.dispatch.specs.declared.rows.Next.TheVariants.{Stop, NegotiateCapability, EprEntry, EprExitReceived, DataEvaluate, PowerEvaluate}
use Rattle.dispatch.specs.declared.rows.Next.TheVariants.{HardReset, SoftReset, SendCapabilities, GiveSourceCap, GiveEprSourceCap, EvaluateSwap}
use Rattle.dispatch.specs.declared.rows.Next.TheVariants.{FastEvaluate, GiveSinkCap, GiveEprSinkCap, NotSupportedReceived, EprKeepAlive}
use Rattle.dispatch.specs.declared.rows.Next.TheVariants.{SendNotSupported}
use Rattle.dispatch.specs.declared.rows.Row.{Row}

-- Class, type, condition, next state. None is any, or the type of a class that has none
abbrev pub when : Option Class → Option ℕ → Condition → Next → Row
when class type condition next = record { class = class; message_type = type; condition = condition; next = next }

-- The row of everything else
abbrev pub last : ℕ
last = 26

-- 1 to 6: "Request outside SPR, EprRequest outside EPR: S.0; right mode but bad payload: SendNotSupported."
-- 7 to 10: "EprMode .. 1 (Enter): Entry in SPR, HardReset in EPR; 5 (Exit): HardReset in SPR, ExitReceived in EPR; others SendNotSupported."
-- 11 to 21: "Control 13 SoftReset; 7 SendCapabilities in SPR, GiveSourceCap in EPR; 11 EvaluateSwap; 9, not dual SendNotSupported, else EPR
-- HardReset, else H.1; 10, 19 and 8 need dual_role (H.3, fast Evaluate, give SPR sink capabilities); 16 informs." Document 02, order 4: in place of H.1
-- the data swap's Evaluate.
-- 22 to 25: "Extended control 1: GiveSourceCap in SPR, SendCapabilities in EPR; 2 needs dual_role; 3 EprKeepAlive in both modes."
-- 26: "All else, 4 and reserved included: SendNotSupported."
unfoldable pub rule : ℕ → Row
rule n =
    n is 1 ⇒ when (Some Request) None InEpr Stop ∣
    n is 2 ⇒ when (Some EprRequest) None InSpr Stop ∣
    n is 3 ⇒ when (Some Request) None BadPayload SendNotSupported ∣
    n is 4 ⇒ when (Some EprRequest) None BadPayload SendNotSupported ∣
    n is 5 ⇒ when (Some Request) None Always NegotiateCapability ∣
    n is 6 ⇒ when (Some EprRequest) None Always NegotiateCapability ∣
    n is 7 ⇒ when (Some EprMode) (Some 1) InSpr EprEntry ∣
    n is 8 ⇒ when (Some EprMode) (Some 1) InEpr HardReset ∣
    n is 9 ⇒ when (Some EprMode) (Some 5) InSpr HardReset ∣
    n is 10 ⇒ when (Some EprMode) (Some 5) InEpr EprExitReceived ∣
    n is 11 ⇒ when (Some Control) (Some 13) Always SoftReset ∣
    n is 12 ⇒ when (Some Control) (Some 7) InSpr SendCapabilities ∣
    n is 13 ⇒ when (Some Control) (Some 7) InEpr GiveSourceCap ∣
    n is 14 ⇒ when (Some Control) (Some 11) Always EvaluateSwap ∣
    n is 15 ⇒ when (Some Control) (Some 9) NotDual SendNotSupported ∣
    n is 16 ⇒ when (Some Control) (Some 9) InEpr HardReset ∣
    n is 17 ⇒ when (Some Control) (Some 9) Always DataEvaluate ∣
    n is 18 ⇒ when (Some Control) (Some 10) Dual PowerEvaluate ∣
    n is 19 ⇒ when (Some Control) (Some 19) Dual FastEvaluate ∣
    n is 20 ⇒ when (Some Control) (Some 8) Dual GiveSinkCap ∣
    n is 21 ⇒ when (Some Control) (Some 16) Always NotSupportedReceived ∣
    n is 22 ⇒ when (Some ExtendedControl) (Some 1) InSpr GiveEprSourceCap ∣
    n is 23 ⇒ when (Some ExtendedControl) (Some 1) InEpr SendCapabilities ∣
    n is 24 ⇒ when (Some ExtendedControl) (Some 2) Dual GiveEprSinkCap ∣
    n is 25 ⇒ when (Some ExtendedControl) (Some 3) Always EprKeepAlive ∣
    when None None Always SendNotSupported
