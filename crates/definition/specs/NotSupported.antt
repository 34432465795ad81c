-- 8.3.3.6 Not Supported Message, an await a row. Assumes nothing.
use Rattle.std.specs.Prelude.{true}
use Rattle.definition.specs.Next.{to_ready}
use Rattle.definition.specs.Outcomes.{when_done, when_sent}
use Rattle.definition.specs.Messages.{not_supported}
use Rattle.definition.specs.Actions.{send_control, inform}
use Rattle.definition.specs.Awaits.{Await, await}

-- 8.3.3.6.1.1 PE_SRC_Not_Supported
abbrev pub send_not_supported_await : Await
send_not_supported_await = await (send_control not_supported) (when_sent to_ready)

-- 8.3.3.6.1.2 PE_SRC_Not_Supported_Received
abbrev pub not_supported_received_await : Await
not_supported_received_await = await (inform true 4) (when_done to_ready)
