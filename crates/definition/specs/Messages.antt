-- Chapter 6, and document 01, port order 3: where a message that arrives in Ready leads. Assumes nothing.
use Rattle.std.specs.Prelude.{Option, None, Some, ℕ, ◌/◌, Bool}
use Rattle.notation.specs.Rows.{◌⇒◌∣◌, ◌is◌}
use Rattle.definition.specs.Types.{PowerSource, Message}
use Rattle.definition.specs.Types.{Mode, State, Handover, GiveWait, SwapState, DataRoleSwap, FastPowerRoleSwap, VcsState, VcsSwapSource}
use Rattle.definition.specs.Next.{Next, go, stop, hand_over, negotiate, to_hard_reset, to_not_supported, to_send_capabilities}

-- Control message types
abbrev pub accept : ℕ
accept = 3

abbrev pub reject : ℕ
reject = 4

abbrev pub ps_rdy : ℕ
ps_rdy = 6

abbrev pub get_source_cap : ℕ
get_source_cap = 7

abbrev pub get_sink_cap : ℕ
get_sink_cap = 8

abbrev pub dr_swap : ℕ
dr_swap = 9

abbrev pub pr_swap : ℕ
pr_swap = 10

abbrev pub vconn_swap : ℕ
vconn_swap = 11

abbrev pub wait : ℕ
wait = 12

abbrev pub soft_reset : ℕ
soft_reset = 13

abbrev pub not_supported : ℕ
not_supported = 16

abbrev pub fr_swap : ℕ
fr_swap = 19

-- Tab. 6.67, extended control message types
abbrev pub epr_get_source_cap : ℕ
epr_get_source_cap = 1

abbrev pub epr_get_sink_cap : ℕ
epr_get_sink_cap = 2

abbrev pub epr_keep_alive : ℕ
epr_keep_alive = 3

abbrev pub epr_keep_alive_ack : ℕ
epr_keep_alive_ack = 4

-- Errors 0 `RxError::HardReset`, 1 `ReceiveTimeout`, 2 `UnexpectedMessage`
abbrev pub rx_hard_reset : ℕ
rx_hard_reset = 0

abbrev pub receive_timeout : ℕ
receive_timeout = 1

abbrev pub unexpected_message : ℕ
unexpected_message = 2

abbrev pub in_mode : Mode → Next → Next → Next
in_mode Mode.Spr spr epr = spr
in_mode Mode.Epr spr epr = epr

-- "10, 19 and 8 need dual_role", "2 needs dual_role"
abbrev pub needs_dual : Bool → Next → Next
needs_dual dual_role n = dual_role ⇒ n ∣ to_not_supported

-- "right mode but bad payload: SendNotSupported"
abbrev pub requested : Option PowerSource → Next
requested None = to_not_supported
requested (Some q) = negotiate q

-- "EprMode (action in bits 31 to 24 of its word) 1 (Enter): Entry in SPR, HardReset in EPR; 5 (Exit): HardReset in SPR, ExitReceived in EPR;
-- others SendNotSupported"
unfoldable pub epr_action : Mode → ℕ → Next
epr_action m action =
    action is 1 ⇒ in_mode m (hand_over Handover.EprEntry) to_hard_reset ∣
    action is 5 ⇒ in_mode m to_hard_reset (hand_over Handover.EprExitReceived) ∣
    to_not_supported

unfoldable pub epr_mode : Mode → Option ℕ → Next
epr_mode m None = to_not_supported
epr_mode m (Some word) = epr_action m (word / 16777216)

-- "Control 13 SoftReset; 7 SendCapabilities in SPR, GiveSourceCap in EPR; 11 EvaluateSwap; 9, not dual SendNotSupported, else EPR HardReset,
-- else H.1; 10, 19 and 8 need dual_role (H.3, fast Evaluate, give SPR sink capabilities); 16 informs". Document 02, order 4: in place of H.1 the
-- data swap's Evaluate
unfoldable pub control : Mode → Bool → ℕ → Next
control m dual t =
    t is soft_reset ⇒ go State.SoftReset ∣
    t is get_source_cap ⇒ in_mode m to_send_capabilities (go (State.GiveSourceCap Mode.Spr)) ∣
    t is vconn_swap ⇒ go (State.VconnSwap VcsSwapSource.Message VcsState.EvaluateSwap) ∣
    t is dr_swap ⇒ needs_dual dual (in_mode m (go (State.DrpSwap (SwapState.Data DataRoleSwap.Evaluate))) to_hard_reset) ∣
    t is pr_swap ⇒ needs_dual dual (hand_over Handover.PowerEvaluate) ∣
    t is fr_swap ⇒ needs_dual dual (go (State.DrpSwap (SwapState.FastPower FastPowerRoleSwap.Evaluate))) ∣
    t is get_sink_cap ⇒ needs_dual dual (go (State.DrpGiveSinkCap Mode.Spr GiveWait.Read)) ∣
    t is not_supported ⇒ go State.NotSupportedReceived ∣
    to_not_supported

-- "Extended control 1: GiveSourceCap in SPR, SendCapabilities in EPR; 2 needs dual_role; 3 EprKeepAlive in both modes.
-- All else, 4 and reserved included: SendNotSupported"
unfoldable pub extended_type : Mode → Bool → ℕ → Next
extended_type m dual t =
    t is epr_get_source_cap ⇒ in_mode m (go (State.GiveSourceCap Mode.Epr)) to_send_capabilities ∣
    t is epr_get_sink_cap ⇒ needs_dual dual (go (State.DrpGiveSinkCap Mode.Epr GiveWait.Read)) ∣
    t is epr_keep_alive ⇒ go State.EprKeepAlive ∣
    to_not_supported

unfoldable pub extended_control : Mode → Bool → Option ℕ → Next
extended_control m dual None = to_not_supported
extended_control m dual (Some t) = extended_type m dual t

-- "Request outside SPR, EprRequest outside EPR: S.0"
unfoldable pub dispatched : Mode → Bool → Message → Next
dispatched m dual (Message.Request p) = in_mode m (requested p) (stop rx_hard_reset)
dispatched m dual (Message.EprRequest p) = in_mode m (stop rx_hard_reset) (requested p)
dispatched m dual (Message.EprMode p) = epr_mode m p
dispatched m dual (Message.Control t) = control m dual t
dispatched m dual (Message.ExtendedControl p) = extended_control m dual p
dispatched m dual Message.Other = to_not_supported
dispatched m dual (Message.SinkCapabilities good) = to_not_supported
dispatched m dual (Message.EprSinkCapabilities good) = to_not_supported
