-- The flows of the swaps, 8.3.3.20, 8.3.3.19.5, 8.3.3.19.1 and 8.3.3.19.2. Flows.antt says what a flow is. Assumes nothing.
use Rattle.std.specs.Prelude.{ℕ, ◌≡◌, Bool, true, false}
use Rattle.notation.specs.Rows.{◌is◌}
use Rattle.definition.specs.Types.{Contract, Counter, DataRole, Mode, PowerSource, Setting, Event, Place, State, VcsState, VcsSwapSource}
use Rattle.definition.specs.Paper.{awaits}
use Rattle.definition.specs.Flows.{Below, D, F, Follows, H, R, S, W, WW, ◌·◌, ◌⟶◌⨾◌, accept, control, done, dpm_failed, end, epr_mode, epr_request}
use Rattle.definition.specs.Flows.{epr_sink_capabilities, event, extended, failed, full, handed_over, in_ready, more, no, other, re_entry, ready}
use Rattle.definition.specs.Flows.{request, sink_capabilities, standing_at, stopped, yes, zero}

-- 8.3.3.20 VCONN Swap, asked by the sink, by us and for EPR mode, from either side of VCONN; 8.3.3.19.5 Fast Role Swap.
pub record SwapFlows (c : Contract) (h k : Counter) (d v b : Bool) (u : DataRole) (g : Setting) (m : Mode) (q : PowerSource) (e w : ℕ) : Type 0 where
  -- Asked by the sink: 8.3.3.20.2, then .3, .5 and .6 of the VCONN source, .3, .7 and .8 of the other, or .4
  pub asked_of_the_source : Follows (ready m c h k d true b u g)
      (control 11 ⟶ W c h k (23 · 0) ⨾
      yes ⟶ W c h k (8 · 3) ⨾
      done ⟶ W c h k (17 · 5) ⨾
      control 3 ⟶ R 5 ⨾
      control 6 ⟶ W c h k (14 · 0) ⨾
      done ⟶ in_ready m c h k ⨾ end)
  pub asked_of_the_other : Follows (ready m c h k d false b u g)
      (control 11 ⟶ W c h k (23 · 0) ⨾
      yes ⟶ W c h k (8 · 3) ⨾
      done ⟶ W c h k (14 · 1) ⨾
      done ⟶ W c h k (8 · 6) ⨾
      done ⟶ in_ready m c h k ⨾ end)
  pub asked_and_rejected : Follows (ready m c h k d v b u g)
      (control 11 ⟶ W c h k (23 · 0) ⨾
      no ⟶ W c h k (8 · 4) ⨾
      done ⟶ in_ready m c h k ⨾ end)
  pub accept_not_sent : Follows (ready m c h k d v b u g)
      (control 11 ⟶ W c h k (23 · 0) ⨾
      yes ⟶ W c h k (8 · 3) ⨾
      failed e ⟶ S e c h k ⨾ end)
  pub reject_not_sent : Follows (ready m c h k d v b u g)
      (control 11 ⟶ W c h k (23 · 0) ⨾
      no ⟶ W c h k (8 · 4) ⨾
      failed e ⟶ S e c h k ⨾ end)
  pub no_ps_rdy : Follows (ready m c h k d true b u g)
      (control 11 ⟶ W c h k (23 · 0) ⨾
      yes ⟶ W c h k (8 · 3) ⨾
      done ⟶ W c h k (17 · 5) ⨾
      failed e ⟶ S e c h k ⨾ end)
  pub not_turned_off : Follows (ready m c h k d true b u g)
      (control 11 ⟶ W c h k (23 · 0) ⨾
      yes ⟶ W c h k (8 · 3) ⨾
      done ⟶ W c h k (17 · 5) ⨾
      control 6 ⟶ W c h k (14 · 0) ⨾
      dpm_failed ⟶ F 2 c h k ⨾ end)
  pub not_turned_on : Follows (ready m c h k d false b u g)
      (control 11 ⟶ W c h k (23 · 0) ⨾
      yes ⟶ W c h k (8 · 3) ⨾
      done ⟶ W c h k (14 · 1) ⨾
      dpm_failed ⟶ F 2 c h k ⨾ end)
  pub ps_rdy_not_sent : Follows (ready m c h k d false b u g)
      (control 11 ⟶ W c h k (23 · 0) ⨾
      yes ⟶ W c h k (8 · 3) ⨾
      done ⟶ W c h k (14 · 1) ⨾
      done ⟶ W c h k (8 · 6) ⨾
      failed e ⟶ S e c h k ⨾ end)
  -- Asked by us: 8.3.3.20.1. "In answer to VconnSwap: 3 goes on, 4 and 12 to Ready, 16 informs, other messages S.2, timeout Ready"
  pub we_ask_as_the_source : Follows (ready m c h k d true b u g)
      (event Event.RequestVconnSwap ⟶ W c h k (8 · 11) ⨾
      done ⟶ W c h k (17 · 6) ⨾
      control 3 ⟶ W c h k (17 · 5) ⨾
      control 3 ⟶ R 5 ⨾
      control 6 ⟶ W c h k (14 · 0) ⨾
      done ⟶ in_ready m c h k ⨾ end)
  pub we_ask_as_the_other : Follows (ready m c h k d false b u g)
      (event Event.RequestVconnSwap ⟶ W c h k (8 · 11) ⨾
      done ⟶ W c h k (17 · 6) ⨾
      control 3 ⟶ W c h k (14 · 1) ⨾
      done ⟶ W c h k (8 · 6) ⨾
      done ⟶ in_ready m c h k ⨾ end)
  pub we_ask_rejected : Follows (ready m c h k d v b u g)
      (event Event.RequestVconnSwap ⟶ W c h k (8 · 11) ⨾
      done ⟶ W c h k (17 · 6) ⨾
      control 4 ⟶ in_ready m c h k ⨾ end)
  pub we_ask_told_to_wait : Follows (ready m c h k d v b u g)
      (event Event.RequestVconnSwap ⟶ W c h k (8 · 11) ⨾
      done ⟶ W c h k (17 · 6) ⨾
      control 12 ⟶ in_ready m c h k ⨾ end)
  pub we_ask_not_supported : Follows (ready m c h k d v b u g)
      (event Event.RequestVconnSwap ⟶ W c h k (8 · 11) ⨾
      done ⟶ W c h k (17 · 6) ⨾
      control 16 ⟶ W c h k (18 · 4) ⨾
      done ⟶ in_ready m c h k ⨾ end)
  pub we_ask_timed_out : Follows (ready m c h k d v b u g)
      (event Event.RequestVconnSwap ⟶ W c h k (8 · 11) ⨾
      done ⟶ W c h k (17 · 6) ⨾
      failed 1 ⟶ in_ready m c h k ⨾ end)
  pub we_ask_answered_by_ps_rdy : Follows (ready m c h k d v b u g)
      (event Event.RequestVconnSwap ⟶ W c h k (8 · 11) ⨾
      done ⟶ W c h k (17 · 6) ⨾
      control 6 ⟶ S 2 c h k ⨾ end)
  pub we_ask_answered_by_soft_reset : Follows (ready m c h k d v b u g)
      (event Event.RequestVconnSwap ⟶ W c h k (8 · 11) ⨾
      done ⟶ W c h k (17 · 6) ⨾
      control 13 ⟶ S 2 c h k ⨾ end)
  pub we_ask_answered_by_a_request : Follows (ready m c h k d v b u g)
      (event Event.RequestVconnSwap ⟶ W c h k (8 · 11) ⨾
      done ⟶ W c h k (17 · 6) ⨾
      request q ⟶ S 2 c h k ⨾ end)
  pub we_ask_answered_by_an_epr_request : Follows (ready m c h k d v b u g)
      (event Event.RequestVconnSwap ⟶ W c h k (8 · 11) ⨾
      done ⟶ W c h k (17 · 6) ⨾
      epr_request q ⟶ S 2 c h k ⨾ end)
  pub we_ask_answered_by_epr_mode : Follows (ready m c h k d v b u g)
      (event Event.RequestVconnSwap ⟶ W c h k (8 · 11) ⨾
      done ⟶ W c h k (17 · 6) ⨾
      epr_mode w ⟶ S 2 c h k ⨾ end)
  pub we_ask_answered_by_extended_control : Follows (ready m c h k d v b u g)
      (event Event.RequestVconnSwap ⟶ W c h k (8 · 11) ⨾
      done ⟶ W c h k (17 · 6) ⨾
      extended 3 ⟶ S 2 c h k ⨾ end)
  pub we_ask_answered_by_another : Follows (ready m c h k d v b u g)
      (event Event.RequestVconnSwap ⟶ W c h k (8 · 11) ⨾
      done ⟶ W c h k (17 · 6) ⨾
      other ⟶ S 2 c h k ⨾ end)
  pub we_ask_answered_by_sink_capabilities : Follows (ready m c h k d v b u g)
      (event Event.RequestVconnSwap ⟶ W c h k (8 · 11) ⨾
      done ⟶ W c h k (17 · 6) ⨾
      sink_capabilities v ⟶ S 2 c h k ⨾ end)
  pub we_ask_answered_by_epr_sink_capabilities : Follows (ready m c h k d v b u g)
      (event Event.RequestVconnSwap ⟶ W c h k (8 · 11) ⨾
      done ⟶ W c h k (17 · 6) ⨾
      epr_sink_capabilities v ⟶ S 2 c h k ⨾ end)
  pub we_ask_fails : e is 1 ≡ false → Follows (ready m c h k d v b u g)
      (event Event.RequestVconnSwap ⟶ W c h k (8 · 11) ⨾
      done ⟶ W c h k (17 · 6) ⨾
      failed e ⟶ S e c h k ⨾ end)
  pub we_ask_not_sent : Follows (ready m c h k d v b u g)
      (event Event.RequestVconnSwap ⟶ W c h k (8 · 11) ⨾
      failed e ⟶ S e c h k ⨾ end)
  -- Asked for EPR mode, after a handover: its end is H.8 (DiscoverCable), and the same answers
  pub epr_ask_as_the_source : Follows (handed_over m c h k d true b u g)
      (re_entry 10 0 ⟶ W c h k (8 · 11) ⨾
      done ⟶ W c h k (17 · 6) ⨾
      control 3 ⟶ W c h k (17 · 5) ⨾
      control 3 ⟶ R 5 ⨾
      control 6 ⟶ W c h k (14 · 0) ⨾
      done ⟶ H 8 c h k ⨾ end)
  pub epr_ask_as_the_other : Follows (handed_over m c h k d false b u g)
      (re_entry 10 0 ⟶ W c h k (8 · 11) ⨾
      done ⟶ W c h k (17 · 6) ⨾
      control 3 ⟶ W c h k (14 · 1) ⨾
      done ⟶ W c h k (8 · 6) ⨾
      done ⟶ H 8 c h k ⨾ end)
  pub epr_ask_rejected : Follows (handed_over m c h k d v b u g)
      (re_entry 10 0 ⟶ W c h k (8 · 11) ⨾
      done ⟶ W c h k (17 · 6) ⨾
      control 4 ⟶ in_ready m c h k ⨾ end)
  pub epr_ask_told_to_wait : Follows (handed_over m c h k d v b u g)
      (re_entry 10 0 ⟶ W c h k (8 · 11) ⨾
      done ⟶ W c h k (17 · 6) ⨾
      control 12 ⟶ in_ready m c h k ⨾ end)
  pub epr_ask_not_supported : Follows (handed_over m c h k d v b u g)
      (re_entry 10 0 ⟶ W c h k (8 · 11) ⨾
      done ⟶ W c h k (17 · 6) ⨾
      control 16 ⟶ W c h k (18 · 4) ⨾
      done ⟶ in_ready m c h k ⨾ end)
  pub epr_ask_timed_out : Follows (handed_over m c h k d v b u g)
      (re_entry 10 0 ⟶ W c h k (8 · 11) ⨾
      done ⟶ W c h k (17 · 6) ⨾
      failed 1 ⟶ in_ready m c h k ⨾ end)
  pub epr_ask_answered_by_ps_rdy : Follows (handed_over m c h k d v b u g)
      (re_entry 10 0 ⟶ W c h k (8 · 11) ⨾
      done ⟶ W c h k (17 · 6) ⨾
      control 6 ⟶ S 2 c h k ⨾ end)
  pub epr_ask_answered_by_soft_reset : Follows (handed_over m c h k d v b u g)
      (re_entry 10 0 ⟶ W c h k (8 · 11) ⨾
      done ⟶ W c h k (17 · 6) ⨾
      control 13 ⟶ S 2 c h k ⨾ end)
  pub epr_ask_answered_by_a_request : Follows (handed_over m c h k d v b u g)
      (re_entry 10 0 ⟶ W c h k (8 · 11) ⨾
      done ⟶ W c h k (17 · 6) ⨾
      request q ⟶ S 2 c h k ⨾ end)
  pub epr_ask_answered_by_an_epr_request : Follows (handed_over m c h k d v b u g)
      (re_entry 10 0 ⟶ W c h k (8 · 11) ⨾
      done ⟶ W c h k (17 · 6) ⨾
      epr_request q ⟶ S 2 c h k ⨾ end)
  pub epr_ask_answered_by_epr_mode : Follows (handed_over m c h k d v b u g)
      (re_entry 10 0 ⟶ W c h k (8 · 11) ⨾
      done ⟶ W c h k (17 · 6) ⨾
      epr_mode w ⟶ S 2 c h k ⨾ end)
  pub epr_ask_answered_by_extended_control : Follows (handed_over m c h k d v b u g)
      (re_entry 10 0 ⟶ W c h k (8 · 11) ⨾
      done ⟶ W c h k (17 · 6) ⨾
      extended 3 ⟶ S 2 c h k ⨾ end)
  pub epr_ask_answered_by_another : Follows (handed_over m c h k d v b u g)
      (re_entry 10 0 ⟶ W c h k (8 · 11) ⨾
      done ⟶ W c h k (17 · 6) ⨾
      other ⟶ S 2 c h k ⨾ end)
  pub epr_ask_answered_by_sink_capabilities : Follows (handed_over m c h k d v b u g)
      (re_entry 10 0 ⟶ W c h k (8 · 11) ⨾
      done ⟶ W c h k (17 · 6) ⨾
      sink_capabilities v ⟶ S 2 c h k ⨾ end)
  pub epr_ask_answered_by_epr_sink_capabilities : Follows (handed_over m c h k d v b u g)
      (re_entry 10 0 ⟶ W c h k (8 · 11) ⨾
      done ⟶ W c h k (17 · 6) ⨾
      epr_sink_capabilities v ⟶ S 2 c h k ⨾ end)
  pub epr_ask_fails : e is 1 ≡ false → Follows (handed_over m c h k d v b u g)
      (re_entry 10 0 ⟶ W c h k (8 · 11) ⨾
      done ⟶ W c h k (17 · 6) ⨾
      failed e ⟶ S e c h k ⨾ end)
  pub epr_ask_not_sent : Follows (handed_over m c h k d v b u g)
      (re_entry 10 0 ⟶ W c h k (8 · 11) ⨾
      failed e ⟶ S e c h k ⨾ end)
  -- A record may stand in these for EPR mode, though nothing leads there
  pub epr_rejects : Follows (standing_at (Place.Waiting (State.VconnSwap VcsSwapSource.Epr VcsState.EvaluateSwap)) m c h k d v b u g)
      (no ⟶ W c h k (8 · 4) ⨾
      done ⟶ H 8 c h k ⨾ end)
  pub epr_accepts_as_the_source : Follows (standing_at (Place.Waiting (State.VconnSwap VcsSwapSource.Epr VcsState.EvaluateSwap)) m c h k d true b u g)
      (yes ⟶ W c h k (8 · 3) ⨾
      done ⟶ W c h k (17 · 5) ⨾
      control 3 ⟶ R 5 ⨾
      control 6 ⟶ W c h k (14 · 0) ⨾
      done ⟶ H 8 c h k ⨾ end)
  pub epr_accepts_as_the_other : Follows (standing_at (Place.Waiting (State.VconnSwap VcsSwapSource.Epr VcsState.EvaluateSwap)) m c h k d false b u g)
      (yes ⟶ W c h k (8 · 3) ⨾
      done ⟶ W c h k (14 · 1) ⨾
      done ⟶ W c h k (8 · 6) ⨾
      done ⟶ H 8 c h k ⨾ end)
  -- 8.3.3.20.9, which nothing leads to
  pub forced : Follows (standing_at (Place.Waiting (State.VconnSwap VcsSwapSource.Message VcsState.VcsForceVconn)) m c h k d v b u g)
      (done ⟶ in_ready m c h k ⨾ end)
  pub not_forced : Follows (standing_at (Place.Waiting (State.VconnSwap VcsSwapSource.Message VcsState.VcsForceVconn)) m c h k d v b u g)
      (dpm_failed ⟶ F 2 c h k ⨾ end)
  pub epr_forced : Follows (standing_at (Place.Waiting (State.VconnSwap VcsSwapSource.Epr VcsState.VcsForceVconn)) m c h k d v b u g)
      (done ⟶ H 8 c h k ⨾ end)
  pub epr_not_forced : Follows (standing_at (Place.Waiting (State.VconnSwap VcsSwapSource.Epr VcsState.VcsForceVconn)) m c h k d v b u g)
      (dpm_failed ⟶ F 2 c h k ⨾ end)
  pub force_vconn_awaits : awaits (standing_at (Place.Waiting (State.VconnSwap VcsSwapSource.Message VcsState.VcsForceVconn)) m c h k d v b u g) ≡ 14 · 1
  -- 8.3.3.19.5.2 to .6. "A failed fast Accept goes to HardReset"
  pub fast_swap : Follows (ready m c h k true v b u g)
      (control 19 ⟶ W c h k (24 · 0) ⨾
      yes ⟶ W c h k (8 · 3) ⨾
      done ⟶ W c h k (25 · 0) ⨾
      done ⟶ W c h k (26 · 0) ⨾
      done ⟶ W c h k (8 · 6) ⨾
      done ⟶ W c h k (17 · 4) ⨾
      control 4 ⟶ R 5 ⨾
      control 6 ⟶ F 0 c h k ⨾ end)
  pub fast_swap_not_signalled : Below h → Follows (ready m c h k true v b u g)
      (control 19 ⟶ W c h k (24 · 0) ⨾
      no ⟶ W c (more h) k (13 · 0) ⨾ end)
  pub fast_swap_not_signalled_at_the_limit : Follows (ready m c (full h) k true v b u g)
      (control 19 ⟶ W c (full h) k (24 · 0) ⨾
      no ⟶ F 1 c (full h) k ⨾ end)
  pub fast_accept_not_sent : Below h → Follows (ready m c h k true v b u g)
      (control 19 ⟶ W c h k (24 · 0) ⨾
      yes ⟶ W c h k (8 · 3) ⨾
      failed e ⟶ W c (more h) k (13 · 0) ⨾ end)
  pub fast_ps_rdy_not_sent : Follows (ready m c h k true v b u g)
      (control 19 ⟶ W c h k (24 · 0) ⨾
      yes ⟶ W c h k (8 · 3) ⨾
      done ⟶ W c h k (25 · 0) ⨾
      done ⟶ W c h k (26 · 0) ⨾
      done ⟶ W c h k (8 · 6) ⨾
      failed e ⟶ S e c h k ⨾ end)
  pub fast_ps_rdy_not_received : Follows (ready m c h k true v b u g)
      (control 19 ⟶ W c h k (24 · 0) ⨾
      yes ⟶ W c h k (8 · 3) ⨾
      done ⟶ W c h k (25 · 0) ⨾
      done ⟶ W c h k (26 · 0) ⨾
      done ⟶ W c h k (8 · 6) ⨾
      done ⟶ W c h k (17 · 4) ⨾
      failed e ⟶ S e c h k ⨾ end)

-- 8.3.3.19.1 and 8.3.3.19.2 Data Role Swap, asked by the sink and by us, from either role; document 02, order 4. Action 28's argument is the new role,
-- 0 Ufp and 1 Dfp, so that the next swap shows which role was written.
pub record DataSwapFlows (c : Contract) (h k : Counter) (d v b : Bool) (u : DataRole) (g : Setting) (m : Mode) (q : PowerSource) (e w : ℕ) : Type 0 where
  -- Asked by the sink: .2, then .3 and .4, or .6
  pub asked_as_dfp : Follows (ready Mode.Spr c h k true v b DataRole.Dfp g)
      (control 9 ⟶ W c h k (27 · 0) ⨾
      yes ⟶ W c h k (8 · 3) ⨾
      done ⟶ W c h k (28 · 0) ⨾
      done ⟶ in_ready Mode.Spr c h k ⨾ end)
  pub asked_as_ufp : Follows (ready Mode.Spr c h k true v b DataRole.Ufp g)
      (control 9 ⟶ W c h k (27 · 0) ⨾
      yes ⟶ W c h k (8 · 3) ⨾
      done ⟶ W c h k (28 · 1) ⨾
      done ⟶ in_ready Mode.Spr c h k ⨾ end)
  pub asked_to_swap_and_rejected : Follows (ready Mode.Spr c h k true v b u g)
      (control 9 ⟶ W c h k (27 · 0) ⨾
      no ⟶ W c h k (8 · 4) ⨾
      done ⟶ in_ready Mode.Spr c h k ⨾ end)
  pub swap_accept_not_sent : Follows (ready Mode.Spr c h k true v b u g)
      (control 9 ⟶ W c h k (27 · 0) ⨾
      yes ⟶ W c h k (8 · 3) ⨾
      failed e ⟶ S e c h k ⨾ end)
  pub swap_reject_not_sent : Follows (ready Mode.Spr c h k true v b u g)
      (control 9 ⟶ W c h k (27 · 0) ⨾
      no ⟶ W c h k (8 · 4) ⨾
      failed e ⟶ S e c h k ⨾ end)
  -- 27 fits no or yes, 28 Done, and nothing else
  pub only_yes_or_no : Follows (ready Mode.Spr c h k true v b u g)
      (control 9 ⟶ W c h k (27 · 0) ⨾
      done ⟶ R 5 ⨾
      failed e ⟶ R 5 ⨾
      dpm_failed ⟶ R 5 ⨾
      control 3 ⟶ R 5 ⨾
      accept ⟶ R 5 ⨾
      yes ⟶ W c h k (8 · 3) ⨾ end)
  pub only_done : Follows (ready Mode.Spr c h k true v b DataRole.Dfp g)
      (control 9 ⟶ W c h k (27 · 0) ⨾
      yes ⟶ W c h k (8 · 3) ⨾
      done ⟶ W c h k (28 · 0) ⨾
      failed e ⟶ R 5 ⨾
      dpm_failed ⟶ R 5 ⨾
      yes ⟶ R 5 ⨾
      control 3 ⟶ R 5 ⨾
      done ⟶ in_ready Mode.Spr c h k ⨾ end)
  -- Asked by us: .5, in either mode, dual or not
  pub we_swap_as_dfp : Follows (ready m c h k d v b DataRole.Dfp g)
      (event Event.RequestDataRoleSwap ⟶ W c h k (8 · 9) ⨾
      done ⟶ W c h k (29 · 0) ⨾
      control 3 ⟶ W c h k (28 · 0) ⨾
      done ⟶ in_ready m c h k ⨾ end)
  pub we_swap_as_ufp : Follows (ready m c h k d v b DataRole.Ufp g)
      (event Event.RequestDataRoleSwap ⟶ W c h k (8 · 9) ⨾
      done ⟶ W c h k (29 · 0) ⨾
      control 3 ⟶ W c h k (28 · 1) ⨾
      done ⟶ in_ready m c h k ⨾ end)
  pub we_swap_rejected : Follows (ready m c h k d v b u g)
      (event Event.RequestDataRoleSwap ⟶ W c h k (8 · 9) ⨾
      done ⟶ W c h k (29 · 0) ⨾
      control 4 ⟶ in_ready m c h k ⨾ end)
  pub we_swap_told_to_wait : Follows (ready m c h k d v b u g)
      (event Event.RequestDataRoleSwap ⟶ W c h k (8 · 9) ⨾
      done ⟶ W c h k (29 · 0) ⨾
      control 12 ⟶ in_ready m c h k ⨾ end)
  pub we_swap_timed_out : Follows (ready m c h k d v b u g)
      (event Event.RequestDataRoleSwap ⟶ W c h k (8 · 9) ⨾
      done ⟶ W c h k (29 · 0) ⨾
      failed 1 ⟶ in_ready m c h k ⨾ end)
  pub we_swap_fails : e is 1 ≡ false → Follows (ready m c h k d v b u g)
      (event Event.RequestDataRoleSwap ⟶ W c h k (8 · 9) ⨾
      done ⟶ W c h k (29 · 0) ⨾
      failed e ⟶ S e c h k ⨾ end)
  pub dr_swap_not_sent : Follows (ready m c h k d v b u g)
      (event Event.RequestDataRoleSwap ⟶ W c h k (8 · 9) ⨾
      failed e ⟶ S e c h k ⨾ end)
  -- "that message only": another message is Failed(2), and S.2
  pub we_swap_answered_by_another : Follows (ready m c h k d v b u g)
      (event Event.RequestDataRoleSwap ⟶ W c h k (8 · 9) ⨾
      done ⟶ W c h k (29 · 0) ⨾
      control 6 ⟶ R 5 ⨾
      control 9 ⟶ R 5 ⨾
      control 16 ⟶ R 5 ⨾
      control 31 ⟶ R 5 ⨾
      request q ⟶ R 5 ⨾
      epr_request q ⟶ R 5 ⨾
      epr_mode w ⟶ R 5 ⨾
      extended 3 ⟶ R 5 ⨾
      other ⟶ R 5 ⨾
      sink_capabilities v ⟶ R 5 ⨾
      epr_sink_capabilities v ⟶ R 5 ⨾
      done ⟶ R 5 ⨾
      yes ⟶ R 5 ⨾
      failed 2 ⟶ S 2 c h k ⨾ end)
  -- The role is written once 28 is done: the second swap names the first role again
  pub two_swaps : Follows (ready Mode.Spr c h k true v b DataRole.Dfp g)
      (control 9 ⟶ W c h k (27 · 0) ⨾
      yes ⟶ W c h k (8 · 3) ⨾
      done ⟶ W c h k (28 · 0) ⨾
      done ⟶ in_ready Mode.Spr c h k ⨾
      event Event.RequestDataRoleSwap ⟶ W c h k (8 · 9) ⨾
      done ⟶ W c h k (29 · 0) ⨾
      control 3 ⟶ W c h k (28 · 1) ⨾
      done ⟶ in_ready Mode.Spr c h k ⨾
      control 9 ⟶ W c h k (27 · 0) ⨾
      yes ⟶ W c h k (8 · 3) ⨾
      done ⟶ W c h k (28 · 0) ⨾ end)
  -- and nowhere else: not on an Accept that is not sent, not by a swap that is refused, not in Startup
  pub accept_not_sent_swaps_nothing : Follows (ready Mode.Spr c h k true v b DataRole.Dfp g)
      (control 9 ⟶ W c h k (27 · 0) ⨾
      yes ⟶ W c h k (8 · 3) ⨾
      failed e ⟶ S e c h k ⨾
      re_entry 2 0 ⟶ in_ready Mode.Spr c h k ⨾
      control 9 ⟶ W c h k (27 · 0) ⨾
      yes ⟶ W c h k (8 · 3) ⨾
      done ⟶ W c h k (28 · 0) ⨾ end)
  pub refused_swap_swaps_nothing : Follows (ready m c h k d v b DataRole.Ufp g)
      (event Event.RequestDataRoleSwap ⟶ W c h k (8 · 9) ⨾
      done ⟶ W c h k (29 · 0) ⨾
      control 4 ⟶ in_ready m c h k ⨾
      event Event.RequestDataRoleSwap ⟶ W c h k (8 · 9) ⨾
      done ⟶ W c h k (29 · 0) ⨾
      control 3 ⟶ W c h k (28 · 1) ⨾ end)
  pub startup_keeps_the_role : Follows (stopped m c h k d v b DataRole.Ufp g)
      (re_entry 9 0 ⟶ WW D h (zero k) (1 · 0) (3 · 0) ⨾
      done ⟶ W D h (zero k) (4 · 0) ⨾
      failed e ⟶ S e D h (zero k) ⨾
      re_entry 2 0 ⟶ W D h (zero k) (11 · 0) ⨾
      event Event.RequestDataRoleSwap ⟶ W D h (zero k) (8 · 9) ⨾
      done ⟶ W D h (zero k) (29 · 0) ⨾
      control 3 ⟶ W D h (zero k) (28 · 1) ⨾ end)
