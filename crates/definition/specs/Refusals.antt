-- When a call is refused. The order of the refusals stands in Engine.antt. Assumes nothing.
use Rattle.std.specs.Prelude.{ℕ, Bool, true, false, not, ◌&&◌, leb, ltb}
use Rattle.notation.specs.Rows.{◌⇒◌∣◌, ◌is◌}
use Rattle.request.specs.Requests.{same}
use Rattle.definition.specs.Types.{Record, Settings, Place, Negotiation, Contract, Counter, PowerSource, Outcome, Message, Mode, State}
use Rattle.definition.specs.Types.{Exchange, StartupWait, VcsState, VcsSwapSource, Finish}
use Rattle.definition.specs.Next.{Next, misfit, go, finish, mode, writing, to_ready, to_send_capabilities, to_hard_reset, to_not_supported}
use Rattle.definition.specs.Outcomes.{on_message, on_control}

-- R1: "a limit is 0; a count exceeds its limit"
unfoldable pub counted : Counter → Bool
counted c = ltb 0 c.max_value && leb c.value c.max_value

abbrev pub transitioning : Contract → Bool
transitioning Contract.Safe5V = false
transitioning Contract.Implicit = false
transitioning Contract.TransitionToExplicit = true
transitioning (Contract.Explicit p) = false
transitioning Contract.Invalid = false

abbrev pub explicit_of : PowerSource → Contract → Bool
explicit_of q Contract.Safe5V = false
explicit_of q Contract.Implicit = false
explicit_of q Contract.TransitionToExplicit = false
explicit_of q (Contract.Explicit p) = same p q
explicit_of q Contract.Invalid = false

-- R1: "action 9 awaits its outcome and the contract is not TransitionToExplicit; the PS_RDY after it awaits and the contract is not Explicit of
-- that request"
abbrev pub contract_fits : Negotiation → PowerSource → Contract → Bool
contract_fits Negotiation.Lookup q c = true
contract_fits Negotiation.Evaluate q c = true
contract_fits Negotiation.Accept q c = true
contract_fits Negotiation.Supply q c = transitioning c
contract_fits Negotiation.PsRdy q c = explicit_of q c

abbrev pub place_sound : Place → Contract → Bool
place_sound (Place.Waiting s) c = true
place_sound (Place.Negotiating w q) c = contract_fits w q c
place_sound (Place.Stopped e) c = true
place_sound (Place.HandedOver h) c = true
place_sound (Place.Finished f) c = true

-- R1 is given exactly when this is false
unfoldable pub sound : Record → Bool
sound r = counted r.hard_reset_counter && (counted r.caps_counter && place_sound r.place r.contract)

-- R5: ".. or would be a bad event": control types end at 31, and no other value of an outcome is out of range
abbrev pub bad_message : Message → Bool
bad_message = on_control false (λ t. ltb 31 t)

abbrev pub bad_event : Outcome → Bool
bad_event = on_message false bad_message

-- R6: "Targets: 0 Discovery, 1 SendCapabilities, 2 Ready, 3 HardReset, 4 HardResetReceived, 5 SendSoftReset, 6 SoftReset, 7 SendNotSupported,
-- 8 ErrorRecovery, 9 Startup without swap; after a handover also 10 VconnSwap (Epr, SendSwap), 11 PrSwapToSinkStartup"
abbrev pub if_handed_over : Bool → Next → Next
if_handed_over handed_over n = handed_over ⇒ n ∣ misfit

unfoldable pub target : Bool → ℕ → Next
target handed_over t =
    t is 0 ⇒ go State.Discovery ∣
    t is 1 ⇒ to_send_capabilities ∣
    t is 2 ⇒ to_ready ∣
    t is 3 ⇒ to_hard_reset ∣
    t is 4 ⇒ go State.HardResetReceived ∣
    t is 5 ⇒ go (State.SendSoftReset Exchange.Transmit) ∣
    t is 6 ⇒ go State.SoftReset ∣
    t is 7 ⇒ to_not_supported ∣
    t is 8 ⇒ finish Finish.ReconnectionRequired ∣
    t is 9 ⇒ go (State.Startup StartupWait.Vbus) ∣
    t is 10 ⇒ if_handed_over handed_over (go (State.VconnSwap VcsSwapSource.Epr VcsState.SendSwap)) ∣
    t is 11 ⇒ if_handed_over handed_over (finish Finish.SwapToSink) ∣
    misfit

-- R6: "Mode change: 0 keep; after a handover also 1 Spr, 2 Epr"
unfoldable pub change_allowed : Bool → ℕ → Bool
change_allowed handed_over b =
    b is 0 ⇒ true ∣
    b is 1 ⇒ handed_over ∣
    b is 2 ⇒ handed_over ∣
    false

unfoldable pub changed : ℕ → Mode → Mode
changed b m =
    b is 1 ⇒ Mode.Spr ∣
    b is 2 ⇒ Mode.Epr ∣
    m

-- A mode change that is not allowed, and the target with it
unfoldable pub allowed_target : Bool → ℕ → ℕ → Next
allowed_target handed_over t b = change_allowed handed_over b ⇒ target handed_over t ∣ misfit

-- "the mode changes first and the target is entered then"; a refusal applies neither
unfoldable pub re_entry : Bool → Mode → ℕ → ℕ → Next
re_entry handed_over m t b = writing (mode (changed b m)) (allowed_target handed_over t b)

-- R7: "a limit is 0, or role_swapped without dual_role"
unfoldable pub uncreatable : Settings → Bool
uncreatable s =
    s.hard_limit is 0 ⇒ true ∣
    s.caps_limit is 0 ⇒ true ∣
    s.role_swapped && not s.port.dual_role
