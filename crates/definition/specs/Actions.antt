-- The actions. "Written number.argument, argument 0 where none is named." Assumes nothing.
use Rattle.std.specs.Prelude.{None, Some, ℕ, ◌+◌, ◌*◌, Bool, true, false, List, [], ◌∷◌}
use Rattle.notation.specs.Rows.{◌is◌}
use Rattle.request.specs.Requests.{kind}
use Rattle.definition.specs.Types.{Action, Contract, DataRole, Mode, PowerSource}

abbrev pub action : ℕ → ℕ → Action
action n a = record { number = n; argument = a; request = None }

-- "Actions 7 and 9 also carry the request, after any retyping; 6 carries it as received"
abbrev pub action_on : ℕ → PowerSource → Action
action_on n q = record { number = n; argument = 0; request = Some q }

-- "unused ones are a fixed none"
abbrev pub none : Action
none = action 0 0

abbrev pub mode_number : Mode → ℕ
mode_number Mode.Spr = 0
mode_number Mode.Epr = 1

abbrev pub protocol_reset : Action
protocol_reset = action 1 0

-- "2 timer (1 SwapSourceStart, 2 SourceCapability, 3 PSHardReset)"
abbrev pub swap_source_start_timer : Action
swap_source_start_timer = action 2 1

abbrev pub source_capability_timer : Action
source_capability_timer = action 2 2

abbrev pub ps_hard_reset_timer : Action
ps_hard_reset_timer = action 2 3

abbrev pub wait_for_vbus : Action
wait_for_vbus = action 3 0

-- "4 send capabilities (0 SPR, 1 EPR)"
abbrev pub send_source_capabilities : Mode → Action
send_source_capabilities m = action 4 (mode_number m)

-- "5 await request (0, 1: Request, EprRequest)"
abbrev pub await_request : Mode → Action
await_request m = action 5 (mode_number m)

abbrev pub look_up : PowerSource → Action
look_up = action_on 6

abbrev pub evaluate : PowerSource → Action
evaluate = action_on 7

-- "8 send control, by message type"
abbrev pub send_control : ℕ → Action
send_control = action 8

abbrev pub supply_to : PowerSource → Action
supply_to = action_on 9

abbrev pub supply_safe_5v : Action
supply_safe_5v = action 10 0

-- "11 Ready wait (.. argument 1 if a PPS contract, plus 2 in EPR ..)"
abbrev pub pps_number : Bool → ℕ
pps_number true = 1
pps_number false = 0

abbrev pub ready_wait : Mode → Bool → Action
ready_wait m pps = action 11 (pps_number pps + 2 * mode_number m)

abbrev pub receive_anything : Action
receive_anything = action 12 0

abbrev pub hard_reset_signalling : Action
hard_reset_signalling = action 13 0

-- "14 drive_vconn (0, 1)"
abbrev pub drive_vconn_off : Action
drive_vconn_off = action 14 0

abbrev pub drive_vconn_on : Action
drive_vconn_on = action 14 1

abbrev pub dpm_hard_reset : Action
dpm_hard_reset = action 15 0

-- "16 send extended control, by type"
abbrev pub send_extended_control : ℕ → Action
send_extended_control = action 16

-- "17 receive (1 SPR sink capabilities, 2 EPR ones, 3 Accept, 4 PS_RDY under PSSourceOnSpr, 5 PS_RDY under VCONNOn ..; 6 any message ..)"
abbrev pub receive_sink_capabilities : Mode → Action
receive_sink_capabilities m = action 17 (1 + mode_number m)

abbrev pub receive_accept : Action
receive_accept = action 17 3

abbrev pub receive_ps_rdy_source_on : Action
receive_ps_rdy_source_on = action 17 4

abbrev pub receive_ps_rdy_vconn_on : Action
receive_ps_rdy_vconn_on = action 17 5

abbrev pub receive_any : Action
receive_any = action 17 6

-- "18 inform (1 SPR sink, 2 EPR sink, 3 remote source, 4 not supported; plus 16 after a timeout or bad payload)"
abbrev pub inform : Bool → ℕ → Action
inform true what = action 18 what
inform false what = action 18 (16 + what)

abbrev pub await_new_capabilities : Action
await_new_capabilities = action 19 0

-- "20 get remote capabilities (0, 1)"
abbrev pub get_remote_capabilities : Mode → Action
get_remote_capabilities m = action 20 (mode_number m)

abbrev pub read_own_sink_capabilities : Action
read_own_sink_capabilities = action 21 0

-- "22 send them (0, 1)"
abbrev pub send_sink_capabilities : Mode → Action
send_sink_capabilities m = action 22 (mode_number m)

-- "23 and 24 yes or no for VCONN swap and `fr_swap_signaled`"
abbrev pub ask_vconn_swap : Action
ask_vconn_swap = action 23 0

abbrev pub ask_fr_swap_signaled : Action
ask_fr_swap_signaled = action 24 0

abbrev pub discharge_vbus : Action
discharge_vbus = action 25 0

abbrev pub cc_sink : Action
cc_sink = action 26 0

-- Document 02, order 4. "New actions get numbers after 26": 27 ask the DPM whether a data swap may be made
abbrev pub ask_data_swap : Action
ask_data_swap = action 27 0

-- 28 swap_data_role, by the new role: 0 Ufp, 1 Dfp
abbrev pub role_number : DataRole → ℕ
role_number DataRole.Ufp = 0
role_number DataRole.Dfp = 1

abbrev pub swap_data_role : DataRole → Action
swap_data_role d = action 28 (role_number d)

-- 29 await the answer to DR_Swap, under SenderResponse
abbrev pub await_swap_answer : Action
await_swap_answer = action 29 0

-- "at most two actions": none, the awaited one, or a protocol reset ("never awaited") and the awaited one
pub data Issue : Type 0 where
  nothing : Issue
  just : Action → Issue
  reset_then : Action → Issue

abbrev pub awaited : Issue → Action
awaited nothing = none
awaited (just a) = a
awaited (reset_then a) = a

abbrev pub places : Issue → List Action
places nothing = none ∷ none ∷ []
places (just a) = a ∷ none ∷ []
places (reset_then a) = protocol_reset ∷ a ∷ []

-- A contract under which Ready runs the SourcePPSCommTimer: Explicit, of kind 2
abbrev pub pps : Contract → Bool
pps Contract.Safe5V = false
pps Contract.Implicit = false
pps Contract.TransitionToExplicit = false
pps (Contract.Explicit q) = kind q is 2
pps Contract.Invalid = false
