-- The answers, by this paper's letters and numbers. "Answers: W waiting; S.e stopped by protocol error e ..; F finished (0 `SwapToSink`,
-- 1 `PortPartnerUnresponsive`, 2 `ReconnectionRequired`, 3 no safe request); H handover (1 data Evaluate, 2 data Send, 3 power Evaluate,
-- 4 power Send, 5 EPR Entry, 6 ExitReceived, 7 SendExit, 8 DiscoverCable)", and R. Document 02, order 4: "H.1 and H.2 then provably never occur".
-- Assumes nothing.
use Rattle.std.specs.Prelude.{ℕ}
use Rattle.notation.specs.Rows.{◌⇒◌∣◌, ◌is◌}
use Rattle.definition.specs.Types.{Answer, Finish, Handover}

abbrev pub finish_number : Finish → ℕ
finish_number Finish.SwapToSink = 0
finish_number Finish.PortPartnerUnresponsive = 1
finish_number Finish.ReconnectionRequired = 2
finish_number Finish.NoSafeRequest = 3

abbrev pub handover_number : Handover → ℕ
handover_number Handover.PowerEvaluate = 3
handover_number Handover.PowerSend = 4
handover_number Handover.EprEntry = 5
handover_number Handover.EprExitReceived = 6
handover_number Handover.EprSendExit = 7
handover_number Handover.EprDiscoverCable = 8

-- The answer of this letter and number
abbrev pub W : Answer
W = Answer.Waiting

abbrev pub S : ℕ → Answer
S e = Answer.Stopped e

abbrev pub F : ℕ → Answer
F n =
    n is 0 ⇒ Answer.Finished Finish.SwapToSink ∣
    n is 1 ⇒ Answer.Finished Finish.PortPartnerUnresponsive ∣
    n is 2 ⇒ Answer.Finished Finish.ReconnectionRequired ∣
    Answer.Finished Finish.NoSafeRequest

abbrev pub H : ℕ → Answer
H n =
    n is 3 ⇒ Answer.HandedOver Handover.PowerEvaluate ∣
    n is 4 ⇒ Answer.HandedOver Handover.PowerSend ∣
    n is 5 ⇒ Answer.HandedOver Handover.EprEntry ∣
    n is 6 ⇒ Answer.HandedOver Handover.EprExitReceived ∣
    n is 7 ⇒ Answer.HandedOver Handover.EprSendExit ∣
    Answer.HandedOver Handover.EprDiscoverCable

abbrev pub R : ℕ → Answer
R n = Answer.Refused n
