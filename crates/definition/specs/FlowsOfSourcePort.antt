-- The flows of 8.3.3.2, 8.3.3.4 and 8.3.3.6: creation, negotiation, resets, capabilities. Flows.antt says what a flow is. Assumes nothing.
use Rattle.std.specs.Prelude.{None, Some, ℕ, ◌≡◌, Bool, true, false}
use Rattle.notation.specs.Rows.{◌is◌}
use Rattle.definition.specs.Types.{Contract, Counter, DataRole, Mode, PowerSource, Setting, Event, Timeout, Kind}
use Rattle.definition.specs.Flows.{Begins, Below, D, E, F, Follows, I, N, R, S, T, W, WW}
use Rattle.definition.specs.Flows.{◌on◌, ◌·◌, ◌⟶◌⨾◌, accept, adjustable, bad_epr_request, bad_request}
use Rattle.definition.specs.Flows.{battery, control, done, dpm_failed, end, epr, epr_mode, epr_request}
use Rattle.definition.specs.Flows.{epr_sink_capabilities, evaluating, event, extended}
use Rattle.definition.specs.Flows.{failed, fixed, full, in_ready, looking_up, lookup, more, no_safe, nothing, other, programmable, re_entry, ready}
use Rattle.definition.specs.Flows.{reject, request, settings, sink_capabilities, stopped, timeout, unknown, wait, zero}

-- Creation, and the first contract.
pub record CreationFlows (h k : Counter) (d v : Bool) (g : Setting) (w : ℕ) : Type 0 where
  -- "D at creation (Implicit if swapped)"; 8.3.3.2.1, without a swap, to Ready: the listing of document 01 for any limits
  pub first_contract : Begins (settings d false v g h k) (WW D (zero h) (zero k) (1 · 0) (3 · 0))
      (done ⟶ W D (zero h) (zero k) (4 · 0) ⨾
      done ⟶ W D (zero h) (zero k) (5 · 0) ⨾
      request (fixed w) ⟶ W D (zero h) (zero k) (7 on fixed w) ⨾
      accept ⟶ W D (zero h) (zero k) (8 · 3) ⨾
      done ⟶ W T (zero h) (zero k) (9 on fixed w) ⨾
      done ⟶ W (E (fixed w)) (zero h) (zero k) (8 · 6) ⨾
      done ⟶ W (E (fixed w)) (zero h) (zero k) (11 · 0) ⨾ end)
  -- 8.3.3.2.1, after a swap: its timer, then VBUS
  pub after_a_swap : Begins (settings true true v g h k) (WW I (zero h) (zero k) (1 · 0) (2 · 1))
      (done ⟶ W I (zero h) (zero k) (3 · 0) ⨾
      done ⟶ W I (zero h) (zero k) (4 · 0) ⨾
      done ⟶ W I (zero h) (zero k) (5 · 0) ⨾ end)
  -- R7: "a limit is 0, or role_swapped without dual_role"
  pub swapped_without_dual : Begins (settings false true v g h k) (R 7) end
  pub no_hard_limit : Begins (settings d v v g nothing k) (R 7) end
  pub no_caps_limit : Begins (settings d v v g h nothing) (R 7) end

-- 8.3.3.2.3 to 8.3.3.2.5, 8.3.3.2.8 and 8.3.3.2.13: capabilities, request, evaluation, supply; Reject, Wait and new capabilities.
pub record NegotiationFlows (c : Contract) (h k : Counter) (d v b : Bool) (u : DataRole) (g : Setting) (m : Mode) (q p : PowerSource) (e w x : ℕ) : Type 0 where
  -- 8.3.3.2.3: "Done after 4 in SendCapabilities clears the hard count"; the request by kind; "A bad request payload in 5 is S.2"
  pub fixed_requested_in_spr : Follows (ready Mode.Spr c h k d v b u g)
      (event Event.UpdatedSourceCapabilities ⟶ W c h k (4 · 0) ⨾
      done ⟶ W c (zero h) k (5 · 0) ⨾
      request (fixed w) ⟶ W c (zero h) k (7 on fixed w) ⨾ end)
  pub battery_requested_in_spr : Follows (ready Mode.Spr c h k d v b u g)
      (event Event.UpdatedSourceCapabilities ⟶ W c h k (4 · 0) ⨾
      done ⟶ W c (zero h) k (5 · 0) ⨾
      request (battery w) ⟶ W c (zero h) k (7 on battery w) ⨾ end)
  pub pps_requested_in_spr : Follows (ready Mode.Spr c h k d v b u g)
      (event Event.UpdatedSourceCapabilities ⟶ W c h k (4 · 0) ⨾
      done ⟶ W c (zero h) k (5 · 0) ⨾
      request (programmable w) ⟶ W c (zero h) k (7 on programmable w) ⨾ end)
  pub avs_requested_in_spr : Follows (ready Mode.Spr c h k d v b u g)
      (event Event.UpdatedSourceCapabilities ⟶ W c h k (4 · 0) ⨾
      done ⟶ W c (zero h) k (5 · 0) ⨾
      request (adjustable w) ⟶ W c (zero h) k (7 on adjustable w) ⨾ end)
  pub unknown_requested_in_spr : Follows (ready Mode.Spr c h k d v b u g)
      (event Event.UpdatedSourceCapabilities ⟶ W c h k (4 · 0) ⨾
      done ⟶ W c (zero h) k (5 · 0) ⨾
      request (unknown w) ⟶ W c (zero h) k (6 on unknown w) ⨾ end)
  pub epr_requested_in_spr : Follows (ready Mode.Spr c h k d v b u g)
      (event Event.UpdatedSourceCapabilities ⟶ W c h k (4 · 0) ⨾
      done ⟶ W c (zero h) k (5 · 0) ⨾
      request (epr w x) ⟶ W c (zero h) k (7 on epr w x) ⨾ end)
  pub bad_request_awaited_in_spr : Follows (ready Mode.Spr c h k d v b u g)
      (event Event.UpdatedSourceCapabilities ⟶ W c h k (4 · 0) ⨾
      done ⟶ W c (zero h) k (5 · 0) ⨾
      bad_request ⟶ S 2 c (zero h) k ⨾ end)
  pub no_request_in_spr : Follows (ready Mode.Spr c h k d v b u g)
      (event Event.UpdatedSourceCapabilities ⟶ W c h k (4 · 0) ⨾
      done ⟶ W c (zero h) k (5 · 0) ⨾
      failed e ⟶ S e c (zero h) k ⨾ end)
  pub capabilities_not_sent_in_spr : Follows (ready Mode.Spr c h k d v b u g)
      (event Event.UpdatedSourceCapabilities ⟶ W c h k (4 · 0) ⨾
      failed e ⟶ S e c h k ⨾ end)
  pub another_message_in_spr : Follows (ready Mode.Spr c h k d v b u g)
      (event Event.UpdatedSourceCapabilities ⟶ W c h k (4 · 0) ⨾
      done ⟶ W c (zero h) k (5 · 0) ⨾
      epr_request q ⟶ R 5 ⨾
      control 3 ⟶ R 5 ⨾
      failed e ⟶ S e c (zero h) k ⨾ end)
  pub fixed_requested_in_epr : Follows (ready Mode.Epr c h k d v b u g)
      (event Event.UpdatedSourceCapabilities ⟶ W c h k (4 · 1) ⨾
      done ⟶ W c (zero h) k (5 · 1) ⨾
      epr_request (fixed w) ⟶ W c (zero h) k (7 on fixed w) ⨾ end)
  pub battery_requested_in_epr : Follows (ready Mode.Epr c h k d v b u g)
      (event Event.UpdatedSourceCapabilities ⟶ W c h k (4 · 1) ⨾
      done ⟶ W c (zero h) k (5 · 1) ⨾
      epr_request (battery w) ⟶ W c (zero h) k (7 on battery w) ⨾ end)
  pub pps_requested_in_epr : Follows (ready Mode.Epr c h k d v b u g)
      (event Event.UpdatedSourceCapabilities ⟶ W c h k (4 · 1) ⨾
      done ⟶ W c (zero h) k (5 · 1) ⨾
      epr_request (programmable w) ⟶ W c (zero h) k (7 on programmable w) ⨾ end)
  pub avs_requested_in_epr : Follows (ready Mode.Epr c h k d v b u g)
      (event Event.UpdatedSourceCapabilities ⟶ W c h k (4 · 1) ⨾
      done ⟶ W c (zero h) k (5 · 1) ⨾
      epr_request (adjustable w) ⟶ W c (zero h) k (7 on adjustable w) ⨾ end)
  pub unknown_requested_in_epr : Follows (ready Mode.Epr c h k d v b u g)
      (event Event.UpdatedSourceCapabilities ⟶ W c h k (4 · 1) ⨾
      done ⟶ W c (zero h) k (5 · 1) ⨾
      epr_request (unknown w) ⟶ W c (zero h) k (6 on unknown w) ⨾ end)
  pub epr_requested_in_epr : Follows (ready Mode.Epr c h k d v b u g)
      (event Event.UpdatedSourceCapabilities ⟶ W c h k (4 · 1) ⨾
      done ⟶ W c (zero h) k (5 · 1) ⨾
      epr_request (epr w x) ⟶ W c (zero h) k (7 on epr w x) ⨾ end)
  pub bad_request_awaited_in_epr : Follows (ready Mode.Epr c h k d v b u g)
      (event Event.UpdatedSourceCapabilities ⟶ W c h k (4 · 1) ⨾
      done ⟶ W c (zero h) k (5 · 1) ⨾
      bad_epr_request ⟶ S 2 c (zero h) k ⨾ end)
  pub no_request_in_epr : Follows (ready Mode.Epr c h k d v b u g)
      (event Event.UpdatedSourceCapabilities ⟶ W c h k (4 · 1) ⨾
      done ⟶ W c (zero h) k (5 · 1) ⨾
      failed e ⟶ S e c (zero h) k ⨾ end)
  pub capabilities_not_sent_in_epr : Follows (ready Mode.Epr c h k d v b u g)
      (event Event.UpdatedSourceCapabilities ⟶ W c h k (4 · 1) ⨾
      failed e ⟶ S e c h k ⨾ end)
  pub another_message_in_epr : Follows (ready Mode.Epr c h k d v b u g)
      (event Event.UpdatedSourceCapabilities ⟶ W c h k (4 · 1) ⨾
      done ⟶ W c (zero h) k (5 · 1) ⨾
      request q ⟶ R 5 ⨾
      control 3 ⟶ R 5 ⨾
      failed e ⟶ S e c (zero h) k ⨾ end)
  -- 8.3.3.2.4, the lookup: "FixedSupply, VariableSupply to 0, Battery 1, Pps 2, Avs 3, nothing found stays 4"
  pub nothing_found : Follows (looking_up (unknown w) m c h k d v b u g)
      (lookup None ⟶ W c h k (7 on unknown w) ⨾ end)
  pub fixed_supply_found : Follows (looking_up (unknown w) m c h k d v b u g)
      (lookup (Some Kind.FixedSupply) ⟶ W c h k (7 on fixed w) ⨾ end)
  pub variable_supply_found : Follows (looking_up (unknown w) m c h k d v b u g)
      (lookup (Some Kind.VariableSupply) ⟶ W c h k (7 on fixed w) ⨾ end)
  pub battery_found : Follows (looking_up (unknown w) m c h k d v b u g)
      (lookup (Some Kind.Battery) ⟶ W c h k (7 on battery w) ⨾ end)
  pub pps_found : Follows (looking_up (unknown w) m c h k d v b u g)
      (lookup (Some Kind.Pps) ⟶ W c h k (7 on programmable w) ⨾ end)
  pub avs_found : Follows (looking_up (unknown w) m c h k d v b u g)
      (lookup (Some Kind.Avs) ⟶ W c h k (7 on adjustable w) ⨾ end)
  pub fixed_stays : Follows (looking_up (fixed w) m c h k d v b u g)
      (lookup (Some Kind.Avs) ⟶ W c h k (7 on fixed w) ⨾ end)
  pub battery_stays : Follows (looking_up (battery w) m c h k d v b u g)
      (lookup (Some Kind.Avs) ⟶ W c h k (7 on battery w) ⨾ end)
  pub pps_stays : Follows (looking_up (programmable w) m c h k d v b u g)
      (lookup (Some Kind.Avs) ⟶ W c h k (7 on programmable w) ⨾ end)
  pub avs_stays : Follows (looking_up (adjustable w) m c h k d v b u g)
      (lookup (Some Kind.Pps) ⟶ W c h k (7 on adjustable w) ⨾ end)
  pub epr_stays : Follows (looking_up (epr w x) m c h k d v b u g)
      (lookup (Some Kind.Avs) ⟶ W c h k (7 on epr w x) ⨾ end)
  -- 8.3.3.2.5: "action 9 sets TransitionToExplicit; its Done sets Explicit of its request"
  pub accepted : Follows (evaluating q m c h k d v b u g)
      (accept ⟶ W c h k (8 · 3) ⨾
      done ⟶ W T h k (9 on q) ⨾
      done ⟶ W (E q) h k (8 · 6) ⨾
      done ⟶ in_ready m (E q) h k ⨾ end)
  pub accept_not_sent : Follows (evaluating q m c h k d v b u g)
      (accept ⟶ W c h k (8 · 3) ⨾
      failed e ⟶ S e c h k ⨾ end)
  pub supply_fails : Follows (evaluating q m c h k d v b u g)
      (accept ⟶ W c h k (8 · 3) ⨾
      done ⟶ W T h k (9 on q) ⨾
      dpm_failed ⟶ F 1 T h k ⨾ end)
  pub ps_rdy_not_sent : Follows (evaluating q m c h k d v b u g)
      (accept ⟶ W c h k (8 · 3) ⨾
      done ⟶ W T h k (9 on q) ⨾
      done ⟶ W (E q) h k (8 · 6) ⨾
      failed e ⟶ S e (E q) h k ⨾ end)
  -- 8.3.3.2.8: "once sent: `_Invalid` with Reject HardReset; Explicit Ready; all others WaitNewCapabilities"
  pub rejected_under_default : Follows (evaluating q m D h k d v b u g)
      (reject ⟶ W D h k (8 · 4) ⨾
      done ⟶ W D h k (19 · 0) ⨾ end)
  pub rejected_under_implicit : Follows (evaluating q m I h k d v b u g)
      (reject ⟶ W I h k (8 · 4) ⨾
      done ⟶ W I h k (19 · 0) ⨾ end)
  pub rejected_under_transition : Follows (evaluating q m T h k d v b u g)
      (reject ⟶ W T h k (8 · 4) ⨾
      done ⟶ W T h k (19 · 0) ⨾ end)
  pub rejected_under_explicit : Follows (evaluating q m (E p) h k d v b u g)
      (reject ⟶ W (E p) h k (8 · 4) ⨾
      done ⟶ in_ready m (E p) h k ⨾ end)
  pub rejected_not_sent : Follows (evaluating q m c h k d v b u g)
      (reject ⟶ W c h k (8 · 4) ⨾
      failed e ⟶ S e c h k ⨾ end)
  pub told_to_wait_under_default : Follows (evaluating q m D h k d v b u g)
      (wait ⟶ W D h k (8 · 12) ⨾
      done ⟶ W D h k (19 · 0) ⨾ end)
  pub told_to_wait_under_implicit : Follows (evaluating q m I h k d v b u g)
      (wait ⟶ W I h k (8 · 12) ⨾
      done ⟶ W I h k (19 · 0) ⨾ end)
  pub told_to_wait_under_transition : Follows (evaluating q m T h k d v b u g)
      (wait ⟶ W T h k (8 · 12) ⨾
      done ⟶ W T h k (19 · 0) ⨾ end)
  pub told_to_wait_under_explicit : Follows (evaluating q m (E p) h k d v b u g)
      (wait ⟶ W (E p) h k (8 · 12) ⨾
      done ⟶ in_ready m (E p) h k ⨾ end)
  pub told_to_wait_not_sent : Follows (evaluating q m c h k d v b u g)
      (wait ⟶ W c h k (8 · 12) ⨾
      failed e ⟶ S e c h k ⨾ end)
  pub rejected_under_invalid : Below h → Follows (evaluating q m N h k d v b u g)
      (reject ⟶ W N h k (8 · 4) ⨾
      done ⟶ W N (more h) k (13 · 0) ⨾ end)
  pub rejected_at_the_limit : Follows (evaluating q m N (full h) k d v b u g)
      (reject ⟶ W N (full h) k (8 · 4) ⨾
      done ⟶ F 1 N (full h) k ⨾ end)
  pub told_to_wait_under_invalid : Follows (evaluating q m N h k d v b u g)
      (wait ⟶ W N h k (8 · 12) ⨾
      done ⟶ W N h k (19 · 0) ⨾ end)
  -- 8.3.3.2.13: only new capabilities lead on
  pub new_capabilities_in_spr : Follows (evaluating q Mode.Spr D h k d v b u g)
      (wait ⟶ W D h k (8 · 12) ⨾
      done ⟶ W D h k (19 · 0) ⨾
      event Event.None ⟶ W D h k (19 · 0) ⨾
      event Event.RequestSinkCapabilities ⟶ W D h k (19 · 0) ⨾
      event Event.RequestSourceCapabilities ⟶ W D h k (19 · 0) ⨾
      event Event.RequestEprSourceCapabilities ⟶ W D h k (19 · 0) ⨾
      event Event.ExitEprMode ⟶ W D h k (19 · 0) ⨾
      event Event.RequestVconnSwap ⟶ W D h k (19 · 0) ⨾
      event Event.RequestDataRoleSwap ⟶ W D h k (19 · 0) ⨾
      event Event.RequestPowerRoleSwap ⟶ W D h k (19 · 0) ⨾
      timeout Timeout.FiveSeconds ⟶ W D h k (19 · 0) ⨾
      timeout Timeout.Pps ⟶ R 5 ⨾
      timeout Timeout.KeepAlive ⟶ R 5 ⨾
      event Event.UpdatedSourceCapabilities ⟶ W D h k (4 · 0) ⨾
      done ⟶ W D (zero h) k (5 · 0) ⨾ end)
  pub new_capabilities_in_epr : Follows (evaluating q Mode.Epr D h k d v b u g)
      (wait ⟶ W D h k (8 · 12) ⨾
      done ⟶ W D h k (19 · 0) ⨾
      event Event.None ⟶ W D h k (19 · 0) ⨾
      event Event.RequestSinkCapabilities ⟶ W D h k (19 · 0) ⨾
      event Event.RequestSourceCapabilities ⟶ W D h k (19 · 0) ⨾
      event Event.RequestEprSourceCapabilities ⟶ W D h k (19 · 0) ⨾
      event Event.ExitEprMode ⟶ W D h k (19 · 0) ⨾
      event Event.RequestVconnSwap ⟶ W D h k (19 · 0) ⨾
      event Event.RequestDataRoleSwap ⟶ W D h k (19 · 0) ⨾
      event Event.RequestPowerRoleSwap ⟶ W D h k (19 · 0) ⨾
      timeout Timeout.FiveSeconds ⟶ W D h k (19 · 0) ⨾
      timeout Timeout.Pps ⟶ R 5 ⨾
      timeout Timeout.KeepAlive ⟶ R 5 ⨾
      event Event.UpdatedSourceCapabilities ⟶ W D h k (4 · 1) ⨾
      done ⟶ W D (zero h) k (5 · 1) ⨾ end)

-- 8.3.3.2.2, 8.3.3.2.7, 8.3.3.2.9 to 8.3.3.2.11 and 8.3.3.4: Discovery and Disabled, Hard Resets and Soft Resets.
pub record ResetFlows (c : Contract) (h k : Counter) (d v b : Bool) (u : DataRole) (g : Setting) (m : Mode) (q : PowerSource) (e w : ℕ) : Type 0 where
  -- 8.3.3.2.9 and 8.3.3.2.11, from EPR: signalled, VCONN off, the DPM's hard reset, VCONN on, Startup in SPR, capabilities: only these clear the hard count
  pub signalled : Below h → Follows (ready Mode.Epr c h k d v b u g)
      (timeout Timeout.KeepAlive ⟶ W c (more h) k (13 · 0) ⨾
      done ⟶ W c (more h) k (2 · 3) ⨾
      done ⟶ W c (more h) k (14 · 0) ⨾
      done ⟶ W c (more h) k (15 · 0) ⨾
      done ⟶ W c (more h) k (14 · 1) ⨾
      done ⟶ WW D (more h) (zero k) (1 · 0) (3 · 0) ⨾
      done ⟶ W D (more h) (zero k) (4 · 0) ⨾
      done ⟶ W D (zero h) (zero k) (5 · 0) ⨾ end)
  pub not_signalled : Below h → Follows (ready Mode.Epr c h k d v b u g)
      (timeout Timeout.KeepAlive ⟶ W c (more h) k (13 · 0) ⨾
      failed e ⟶ S e c (more h) k ⨾ end)
  pub unresponsive : Follows (ready Mode.Epr c (full h) k d v b u g)
      (timeout Timeout.KeepAlive ⟶ F 1 c (full h) k ⨾ end)
  pub vconn_not_off : Below h → Follows (ready Mode.Epr c h k d v b u g)
      (timeout Timeout.KeepAlive ⟶ W c (more h) k (13 · 0) ⨾
      done ⟶ W c (more h) k (2 · 3) ⨾
      done ⟶ W c (more h) k (14 · 0) ⨾
      dpm_failed ⟶ F 1 c (more h) k ⨾ end)
  pub hard_reset_fails : Below h → Follows (ready Mode.Epr c h k d v b u g)
      (timeout Timeout.KeepAlive ⟶ W c (more h) k (13 · 0) ⨾
      done ⟶ W c (more h) k (2 · 3) ⨾
      done ⟶ W c (more h) k (14 · 0) ⨾
      done ⟶ W c (more h) k (15 · 0) ⨾
      dpm_failed ⟶ F 1 c (more h) k ⨾ end)
  pub vconn_not_on : Below h → Follows (ready Mode.Epr c h k d v b u g)
      (timeout Timeout.KeepAlive ⟶ W c (more h) k (13 · 0) ⨾
      done ⟶ W c (more h) k (2 · 3) ⨾
      done ⟶ W c (more h) k (14 · 0) ⨾
      done ⟶ W c (more h) k (15 · 0) ⨾
      done ⟶ W c (more h) k (14 · 1) ⨾
      dpm_failed ⟶ F 1 c (more h) k ⨾ end)
  -- 8.3.3.2.10, received: the same way home, and nothing is counted
  pub received : Follows (stopped Mode.Epr c h k d v b u g)
      (re_entry 4 0 ⟶ W c h k (2 · 3) ⨾
      done ⟶ W c h k (14 · 0) ⨾
      done ⟶ W c h k (15 · 0) ⨾
      done ⟶ W c h k (14 · 1) ⨾
      done ⟶ WW D h (zero k) (1 · 0) (3 · 0) ⨾
      done ⟶ W D h (zero k) (4 · 0) ⨾
      done ⟶ W D (zero h) (zero k) (5 · 0) ⨾ end)
  -- 8.3.3.4.1.1, sent by us; 8.3.3.4.1.2, received
  pub soft_reset_sent_in_spr : Follows (stopped Mode.Spr c h k d v b u g)
      (re_entry 5 0 ⟶ WW c h k (1 · 0) (8 · 13) ⨾
      done ⟶ W c h k (17 · 3) ⨾
      control 4 ⟶ R 5 ⨾
      control 3 ⟶ W c h k (4 · 0) ⨾
      done ⟶ W c (zero h) k (5 · 0) ⨾ end)
  pub soft_reset_answered_in_spr : Follows (stopped Mode.Spr c h k d v b u g)
      (re_entry 6 0 ⟶ WW c h k (1 · 0) (8 · 3) ⨾
      done ⟶ W c h k (4 · 0) ⨾
      done ⟶ W c (zero h) k (5 · 0) ⨾ end)
  pub soft_reset_sent_in_epr : Follows (stopped Mode.Epr c h k d v b u g)
      (re_entry 5 0 ⟶ WW c h k (1 · 0) (8 · 13) ⨾
      done ⟶ W c h k (17 · 3) ⨾
      control 4 ⟶ R 5 ⨾
      control 3 ⟶ W c h k (4 · 1) ⨾
      done ⟶ W c (zero h) k (5 · 1) ⨾ end)
  pub soft_reset_answered_in_epr : Follows (stopped Mode.Epr c h k d v b u g)
      (re_entry 6 0 ⟶ WW c h k (1 · 0) (8 · 3) ⨾
      done ⟶ W c h k (4 · 1) ⨾
      done ⟶ W c (zero h) k (5 · 1) ⨾ end)
  pub soft_reset_not_sent : Follows (stopped m c h k d v b u g)
      (re_entry 5 0 ⟶ WW c h k (1 · 0) (8 · 13) ⨾
      failed e ⟶ S e c h k ⨾ end)
  pub soft_reset_not_accepted : Follows (stopped m c h k d v b u g)
      (re_entry 5 0 ⟶ WW c h k (1 · 0) (8 · 13) ⨾
      done ⟶ W c h k (17 · 3) ⨾
      failed e ⟶ S e c h k ⨾ end)
  pub soft_reset_not_answered : Follows (ready m c h k d v b u g)
      (control 13 ⟶ WW c h k (1 · 0) (8 · 3) ⨾
      failed e ⟶ S e c h k ⨾ end)
  -- 8.3.3.2.2 and 8.3.3.2.7: "Disabled leaves only on Failed(0), to HardReset; its failed supply is S.0"
  pub discovery_in_spr : Below k → Follows (stopped Mode.Spr c h k d v b u g)
      (re_entry 0 0 ⟶ W c h (more k) (2 · 2) ⨾
      done ⟶ W c h (more k) (4 · 0) ⨾
      done ⟶ W c (zero h) (more k) (5 · 0) ⨾ end)
  pub discovery_in_epr : Below k → Follows (stopped Mode.Epr c h k d v b u g)
      (re_entry 0 0 ⟶ W c h (more k) (2 · 2) ⨾
      done ⟶ W c h (more k) (4 · 1) ⨾
      done ⟶ W c (zero h) (more k) (5 · 1) ⨾ end)
  pub disabled_deaf_to_data : Follows (stopped m c h (full k) d v b u g)
      (re_entry 0 0 ⟶ W c h (full k) (10 · 0) ⨾
      done ⟶ W c h (full k) (12 · 0) ⨾
      request q ⟶ W c h (full k) (12 · 0) ⨾
      bad_epr_request ⟶ W c h (full k) (12 · 0) ⨾
      epr_mode w ⟶ W c h (full k) (12 · 0) ⨾
      extended 1 ⟶ W c h (full k) (12 · 0) ⨾ end)
  pub disabled_deaf_to_the_rest : Follows (stopped m c h (full k) d v b u g)
      (re_entry 0 0 ⟶ W c h (full k) (10 · 0) ⨾
      done ⟶ W c h (full k) (12 · 0) ⨾
      control 13 ⟶ W c h (full k) (12 · 0) ⨾
      other ⟶ W c h (full k) (12 · 0) ⨾
      sink_capabilities v ⟶ W c h (full k) (12 · 0) ⨾
      epr_sink_capabilities v ⟶ W c h (full k) (12 · 0) ⨾ end)
  pub disabled_deaf_to_errors : Follows (stopped m c h (full k) d v b u g)
      (re_entry 0 0 ⟶ W c h (full k) (10 · 0) ⨾
      done ⟶ W c h (full k) (12 · 0) ⨾
      failed 1 ⟶ W c h (full k) (12 · 0) ⨾
      failed 2 ⟶ W c h (full k) (12 · 0) ⨾
      failed 255 ⟶ W c h (full k) (12 · 0) ⨾ end)
  pub disabled_left : Below h → Follows (stopped m c h (full k) d v b u g)
      (re_entry 0 0 ⟶ W c h (full k) (10 · 0) ⨾
      done ⟶ W c h (full k) (12 · 0) ⨾
      failed 0 ⟶ W c (more h) (full k) (13 · 0) ⨾
      done ⟶ W c (more h) (full k) (2 · 3) ⨾ end)
  pub disabled_and_unresponsive : Follows (stopped m c (full h) (full k) d v b u g)
      (re_entry 0 0 ⟶ W c (full h) (full k) (10 · 0) ⨾
      done ⟶ W c (full h) (full k) (12 · 0) ⨾
      failed 0 ⟶ F 1 c (full h) (full k) ⨾ end)
  pub no_safe_supply : Follows (stopped m c h (full k) d v b u g)
      (re_entry 0 0 ⟶ W c h (full k) (10 · 0) ⨾
      dpm_failed ⟶ S 0 c h (full k) ⨾ end)
  pub no_safe_request : Follows (stopped m c h (full k) d v b u g)
      (re_entry 0 0 ⟶ W c h (full k) (10 · 0) ⨾
      no_safe ⟶ F 3 c h (full k) ⨾ end)

-- 8.3.3.2.12, 8.3.3.2.14, 8.3.3.2.15, 8.3.3.6, 8.3.3.19.7 and 8.3.3.19.8: capabilities given and got, keep-alive, not supported.
pub record CapabilityFlows (c : Contract) (h k : Counter) (d v b : Bool) (u : DataRole) (g : Setting) (m : Mode) (e : ℕ) : Type 0 where
  -- 8.3.3.2.12 Get_Sink_Cap: "that message only"; "18 inform (.. plus 16 after a timeout or bad payload)"
  pub sink_cap_got_in_spr : Follows (ready Mode.Spr c h k d v b u g)
      (event Event.RequestSinkCapabilities ⟶ W c h k (8 · 8) ⨾
      done ⟶ W c h k (17 · 1) ⨾
      epr_sink_capabilities true ⟶ R 5 ⨾
      sink_capabilities true ⟶ W c h k (18 · 1) ⨾
      done ⟶ in_ready Mode.Spr c h k ⨾ end)
  pub sink_cap_bad_in_spr : Follows (ready Mode.Spr c h k d v b u g)
      (event Event.RequestSinkCapabilities ⟶ W c h k (8 · 8) ⨾
      done ⟶ W c h k (17 · 1) ⨾
      sink_capabilities false ⟶ W c h k (18 · 17) ⨾
      done ⟶ in_ready Mode.Spr c h k ⨾ end)
  pub sink_cap_timed_out_in_spr : Follows (ready Mode.Spr c h k d v b u g)
      (event Event.RequestSinkCapabilities ⟶ W c h k (8 · 8) ⨾
      done ⟶ W c h k (17 · 1) ⨾
      failed 1 ⟶ W c h k (18 · 17) ⨾
      done ⟶ in_ready Mode.Spr c h k ⨾ end)
  pub sink_cap_fails_in_spr : e is 1 ≡ false → Follows (ready Mode.Spr c h k d v b u g)
      (event Event.RequestSinkCapabilities ⟶ W c h k (8 · 8) ⨾
      done ⟶ W c h k (17 · 1) ⨾
      failed e ⟶ S e c h k ⨾ end)
  pub sink_cap_not_asked_in_spr : Follows (ready Mode.Spr c h k d v b u g)
      (event Event.RequestSinkCapabilities ⟶ W c h k (8 · 8) ⨾
      failed e ⟶ S e c h k ⨾ end)
  pub sink_cap_got_in_epr : Follows (ready Mode.Epr c h k d v b u g)
      (event Event.RequestSinkCapabilities ⟶ W c h k (16 · 2) ⨾
      done ⟶ W c h k (17 · 2) ⨾
      sink_capabilities true ⟶ R 5 ⨾
      epr_sink_capabilities true ⟶ W c h k (18 · 2) ⨾
      done ⟶ in_ready Mode.Epr c h k ⨾ end)
  pub sink_cap_bad_in_epr : Follows (ready Mode.Epr c h k d v b u g)
      (event Event.RequestSinkCapabilities ⟶ W c h k (16 · 2) ⨾
      done ⟶ W c h k (17 · 2) ⨾
      epr_sink_capabilities false ⟶ W c h k (18 · 18) ⨾
      done ⟶ in_ready Mode.Epr c h k ⨾ end)
  pub sink_cap_timed_out_in_epr : Follows (ready Mode.Epr c h k d v b u g)
      (event Event.RequestSinkCapabilities ⟶ W c h k (16 · 2) ⨾
      done ⟶ W c h k (17 · 2) ⨾
      failed 1 ⟶ W c h k (18 · 18) ⨾
      done ⟶ in_ready Mode.Epr c h k ⨾ end)
  pub sink_cap_fails_in_epr : e is 1 ≡ false → Follows (ready Mode.Epr c h k d v b u g)
      (event Event.RequestSinkCapabilities ⟶ W c h k (16 · 2) ⨾
      done ⟶ W c h k (17 · 2) ⨾
      failed e ⟶ S e c h k ⨾ end)
  pub sink_cap_not_asked_in_epr : Follows (ready Mode.Epr c h k d v b u g)
      (event Event.RequestSinkCapabilities ⟶ W c h k (16 · 2) ⨾
      failed e ⟶ S e c h k ⨾ end)
  -- 8.3.3.19.7.1, the other's source capabilities: "20 get remote capabilities (0, 1)"
  pub spr_source_cap_got : Follows (ready m c h k d v b u g)
      (event Event.RequestSourceCapabilities ⟶ W c h k (20 · 0) ⨾
      done ⟶ W c h k (18 · 3) ⨾
      done ⟶ in_ready m c h k ⨾ end)
  pub spr_source_cap_timed_out : Follows (ready m c h k d v b u g)
      (event Event.RequestSourceCapabilities ⟶ W c h k (20 · 0) ⨾
      failed 1 ⟶ W c h k (18 · 19) ⨾
      done ⟶ in_ready m c h k ⨾ end)
  pub spr_source_cap_fails : e is 1 ≡ false → Follows (ready m c h k d v b u g)
      (event Event.RequestSourceCapabilities ⟶ W c h k (20 · 0) ⨾
      failed e ⟶ S e c h k ⨾ end)
  pub epr_source_cap_got : Follows (ready m c h k d v b u g)
      (event Event.RequestEprSourceCapabilities ⟶ W c h k (20 · 1) ⨾
      done ⟶ W c h k (18 · 3) ⨾
      done ⟶ in_ready m c h k ⨾ end)
  pub epr_source_cap_timed_out : Follows (ready m c h k d v b u g)
      (event Event.RequestEprSourceCapabilities ⟶ W c h k (20 · 1) ⨾
      failed 1 ⟶ W c h k (18 · 19) ⨾
      done ⟶ in_ready m c h k ⨾ end)
  pub epr_source_cap_fails : e is 1 ≡ false → Follows (ready m c h k d v b u g)
      (event Event.RequestEprSourceCapabilities ⟶ W c h k (20 · 1) ⨾
      failed e ⟶ S e c h k ⨾ end)
  -- 8.3.3.19.8.1, our sink capabilities: "22 send them (0, 1)"
  pub spr_sink_cap_given : Follows (ready m c h k true v b u g)
      (control 8 ⟶ W c h k (21 · 0) ⨾
      done ⟶ W c h k (22 · 0) ⨾
      done ⟶ in_ready m c h k ⨾ end)
  pub spr_sink_cap_not_given : Follows (ready m c h k true v b u g)
      (control 8 ⟶ W c h k (21 · 0) ⨾
      done ⟶ W c h k (22 · 0) ⨾
      failed e ⟶ S e c h k ⨾ end)
  pub epr_sink_cap_given : Follows (ready m c h k true v b u g)
      (extended 2 ⟶ W c h k (21 · 0) ⨾
      done ⟶ W c h k (22 · 1) ⨾
      done ⟶ in_ready m c h k ⨾ end)
  pub epr_sink_cap_not_given : Follows (ready m c h k true v b u g)
      (extended 2 ⟶ W c h k (21 · 0) ⨾
      done ⟶ W c h k (22 · 1) ⨾
      failed e ⟶ S e c h k ⨾ end)
  -- 8.3.3.2.15: "GiveSourceCap sends the kind of the mode", and clears no count. Document 02, order 5: so under "crate"; under "standard" the kind that was
  -- asked for, and "A give still clears no count in either"
  pub given_in_spr : Follows (ready Mode.Spr c h k d v b u Setting.Crate)
      (extended 1 ⟶ W c h k (4 · 0) ⨾
      done ⟶ in_ready Mode.Spr c h k ⨾ end)
  pub given_in_epr : Follows (ready Mode.Epr c h k d v b u Setting.Crate)
      (control 7 ⟶ W c h k (4 · 1) ⨾
      done ⟶ in_ready Mode.Epr c h k ⨾ end)
  pub not_given_in_spr : Follows (ready Mode.Spr c h k d v b u Setting.Crate)
      (extended 1 ⟶ W c h k (4 · 0) ⨾
      failed e ⟶ S e c h k ⨾ end)
  pub not_given_in_epr : Follows (ready Mode.Epr c h k d v b u Setting.Crate)
      (control 7 ⟶ W c h k (4 · 1) ⨾
      failed e ⟶ S e c h k ⨾ end)
  pub epr_given_as_asked : Follows (ready Mode.Spr c h k d v b u Setting.Standard)
      (extended 1 ⟶ W c h k (4 · 1) ⨾
      done ⟶ in_ready Mode.Spr c h k ⨾ end)
  pub spr_given_as_asked : Follows (ready Mode.Epr c h k d v b u Setting.Standard)
      (control 7 ⟶ W c h k (4 · 0) ⨾
      done ⟶ in_ready Mode.Epr c h k ⨾ end)
  pub epr_not_given_as_asked : Follows (ready Mode.Spr c h k d v b u Setting.Standard)
      (extended 1 ⟶ W c h k (4 · 1) ⨾
      failed e ⟶ S e c h k ⨾ end)
  pub spr_not_given_as_asked : Follows (ready Mode.Epr c h k d v b u Setting.Standard)
      (control 7 ⟶ W c h k (4 · 0) ⨾
      failed e ⟶ S e c h k ⨾ end)
  -- 8.3.3.2.14 and 8.3.3.6
  pub keep_alive_not_answered : Follows (ready m c h k d v b u g)
      (extended 3 ⟶ W c h k (16 · 4) ⨾
      failed e ⟶ S e c h k ⨾ end)
  pub not_supported_sent : Follows (ready m c h k d v b u g)
      (other ⟶ W c h k (8 · 16) ⨾
      done ⟶ in_ready m c h k ⨾ end)
  pub not_supported_not_sent : Follows (ready m c h k d v b u g)
      (other ⟶ W c h k (8 · 16) ⨾
      failed e ⟶ S e c h k ⨾ end)
  pub not_supported_received : Follows (ready m c h k d v b u g)
      (control 16 ⟶ W c h k (18 · 4) ⨾
      done ⟶ in_ready m c h k ⨾ end)
