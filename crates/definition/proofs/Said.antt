-- The answer of a finish's or a handover's number is that finish or handover: no number is missing, and no two are the same. Assumes nothing.
use mathlib.Core.Path.{◌≡◌, refl}
use Rattle.definition.specs.Types.{Answer, Finish, Handover}
use Rattle.definition.specs.Answers.{F, H, finish_number, handover_number}

pub finish_said : (f : Finish) → F (finish_number f) ≡ Answer.Finished f
finish_said Finish.SwapToSink = refl
finish_said Finish.PortPartnerUnresponsive = refl
finish_said Finish.ReconnectionRequired = refl
finish_said Finish.NoSafeRequest = refl

pub handover_said : (h : Handover) → H (handover_number h) ≡ Answer.HandedOver h
handover_said Handover.PowerEvaluate = refl
handover_said Handover.PowerSend = refl
handover_said Handover.EprEntry = refl
handover_said Handover.EprExitReceived = refl
handover_said Handover.EprSendExit = refl
handover_said Handover.EprDiscoverCable = refl
