-- 8.3.3.4 Source Port Soft Reset, an await a row. Assumes nothing.
use Rattle.definition.specs.Types.{State, Exchange}
use Rattle.definition.specs.Next.{go, to_send_capabilities}
use Rattle.definition.specs.Outcomes.{when_sent, when_control}
use Rattle.definition.specs.Messages.{accept, soft_reset}
use Rattle.definition.specs.Actions.{send_control, receive_accept}
use Rattle.definition.specs.Awaits.{Await, await, reset_and_await}

-- 8.3.3.4.1.1 PE_SRC_Send_Soft_Reset: Soft_Reset, then the sink's Accept
abbrev pub send_soft_reset_awaits : Exchange → Await
send_soft_reset_awaits Exchange.Transmit = reset_and_await (send_control soft_reset) (when_sent (go (State.SendSoftReset Exchange.Receive)))
send_soft_reset_awaits Exchange.Receive = await receive_accept (when_control accept to_send_capabilities)

-- 8.3.3.4.1.2 PE_SRC_Soft_Reset: Accept
abbrev pub soft_reset_await : Await
soft_reset_await = reset_and_await (send_control accept) (when_sent to_send_capabilities)
