-- The flows of document 02, order 6: who feeds VCONN, under both settings. Flows.antt says what a flow is. Assumes nothing.
use Rattle.std.specs.Prelude.{ℕ, Bool, true, false}
use Rattle.definition.specs.Types.{Contract, Counter, DataRole, Mode, Setting, Event, Place, State, VcsState, VcsSwapSource}
use Rattle.definition.specs.Flows.{D, Follows, H, S, W, WW, ◌·◌, ◌⟶◌⨾◌, control, done, end, event, failed, handed_over, in_ready}
use Rattle.definition.specs.Flows.{re_entry, ready, standing_at, stopped, yes, zero}

pub record VconnFlows (c : Contract) (h k : Counter) (d v b : Bool) (u : DataRole) (m : Mode) (e : ℕ) : Type 0 where
  -- Asked by the sink again and again. "driving VCONN off in TurnOffVconn clears it, and driving it on in TurnOnVconn .. sets it"
  pub asked_thrice_as_the_source : Follows (ready m c h k d true b u Setting.Standard)
      (control 11 ⟶ W c h k (23 · 0) ⨾
      yes ⟶ W c h k (8 · 3) ⨾
      done ⟶ W c h k (17 · 5) ⨾
      control 6 ⟶ W c h k (14 · 0) ⨾
      done ⟶ in_ready m c h k ⨾
      control 11 ⟶ W c h k (23 · 0) ⨾
      yes ⟶ W c h k (8 · 3) ⨾
      done ⟶ W c h k (14 · 1) ⨾
      done ⟶ W c h k (8 · 6) ⨾
      done ⟶ in_ready m c h k ⨾
      control 11 ⟶ W c h k (23 · 0) ⨾
      yes ⟶ W c h k (8 · 3) ⨾
      done ⟶ W c h k (17 · 5) ⨾ end)
  pub asked_thrice_as_the_other : Follows (ready m c h k d false b u Setting.Standard)
      (control 11 ⟶ W c h k (23 · 0) ⨾
      yes ⟶ W c h k (8 · 3) ⨾
      done ⟶ W c h k (14 · 1) ⨾
      done ⟶ W c h k (8 · 6) ⨾
      done ⟶ in_ready m c h k ⨾
      control 11 ⟶ W c h k (23 · 0) ⨾
      yes ⟶ W c h k (8 · 3) ⨾
      done ⟶ W c h k (17 · 5) ⨾
      control 6 ⟶ W c h k (14 · 0) ⨾
      done ⟶ in_ready m c h k ⨾
      control 11 ⟶ W c h k (23 · 0) ⨾
      yes ⟶ W c h k (8 · 3) ⨾
      done ⟶ W c h k (14 · 1) ⨾ end)
  -- "Under "crate" nothing changes": the second swap takes the first one's branch
  pub crate_asked_twice_as_the_source : Follows (ready m c h k d true b u Setting.Crate)
      (control 11 ⟶ W c h k (23 · 0) ⨾
      yes ⟶ W c h k (8 · 3) ⨾
      done ⟶ W c h k (17 · 5) ⨾
      control 6 ⟶ W c h k (14 · 0) ⨾
      done ⟶ in_ready m c h k ⨾
      control 11 ⟶ W c h k (23 · 0) ⨾
      yes ⟶ W c h k (8 · 3) ⨾
      done ⟶ W c h k (17 · 5) ⨾ end)
  pub crate_asked_twice_as_the_other : Follows (ready m c h k d false b u Setting.Crate)
      (control 11 ⟶ W c h k (23 · 0) ⨾
      yes ⟶ W c h k (8 · 3) ⨾
      done ⟶ W c h k (14 · 1) ⨾
      done ⟶ W c h k (8 · 6) ⨾
      done ⟶ in_ready m c h k ⨾
      control 11 ⟶ W c h k (23 · 0) ⨾
      yes ⟶ W c h k (8 · 3) ⨾
      done ⟶ W c h k (14 · 1) ⨾ end)
  -- Asked by us
  pub we_ask_twice_as_the_source : Follows (ready m c h k d true b u Setting.Standard)
      (event Event.RequestVconnSwap ⟶ W c h k (8 · 11) ⨾
      done ⟶ W c h k (17 · 6) ⨾
      control 3 ⟶ W c h k (17 · 5) ⨾
      control 6 ⟶ W c h k (14 · 0) ⨾
      done ⟶ in_ready m c h k ⨾
      event Event.RequestVconnSwap ⟶ W c h k (8 · 11) ⨾
      done ⟶ W c h k (17 · 6) ⨾
      control 3 ⟶ W c h k (14 · 1) ⨾ end)
  pub we_ask_twice_as_the_other : Follows (ready m c h k d false b u Setting.Standard)
      (event Event.RequestVconnSwap ⟶ W c h k (8 · 11) ⨾
      done ⟶ W c h k (17 · 6) ⨾
      control 3 ⟶ W c h k (14 · 1) ⨾
      done ⟶ W c h k (8 · 6) ⨾
      done ⟶ in_ready m c h k ⨾
      event Event.RequestVconnSwap ⟶ W c h k (8 · 11) ⨾
      done ⟶ W c h k (17 · 6) ⨾
      control 3 ⟶ W c h k (17 · 5) ⨾ end)
  pub crate_we_ask_twice_as_the_source : Follows (ready m c h k d true b u Setting.Crate)
      (event Event.RequestVconnSwap ⟶ W c h k (8 · 11) ⨾
      done ⟶ W c h k (17 · 6) ⨾
      control 3 ⟶ W c h k (17 · 5) ⨾
      control 6 ⟶ W c h k (14 · 0) ⨾
      done ⟶ in_ready m c h k ⨾
      event Event.RequestVconnSwap ⟶ W c h k (8 · 11) ⨾
      done ⟶ W c h k (17 · 6) ⨾
      control 3 ⟶ W c h k (17 · 5) ⨾ end)
  pub crate_we_ask_twice_as_the_other : Follows (ready m c h k d false b u Setting.Crate)
      (event Event.RequestVconnSwap ⟶ W c h k (8 · 11) ⨾
      done ⟶ W c h k (17 · 6) ⨾
      control 3 ⟶ W c h k (14 · 1) ⨾
      done ⟶ W c h k (8 · 6) ⨾
      done ⟶ in_ready m c h k ⨾
      event Event.RequestVconnSwap ⟶ W c h k (8 · 11) ⨾
      done ⟶ W c h k (17 · 6) ⨾
      control 3 ⟶ W c h k (14 · 1) ⨾ end)
  -- For EPR mode, after a handover
  pub epr_asks_twice_as_the_source : Follows (handed_over m c h k d true b u Setting.Standard)
      (re_entry 10 0 ⟶ W c h k (8 · 11) ⨾
      done ⟶ W c h k (17 · 6) ⨾
      control 3 ⟶ W c h k (17 · 5) ⨾
      control 6 ⟶ W c h k (14 · 0) ⨾
      done ⟶ H 8 c h k ⨾
      re_entry 10 0 ⟶ W c h k (8 · 11) ⨾
      done ⟶ W c h k (17 · 6) ⨾
      control 3 ⟶ W c h k (14 · 1) ⨾
      done ⟶ W c h k (8 · 6) ⨾
      done ⟶ H 8 c h k ⨾ end)
  pub epr_asks_twice_as_the_other : Follows (handed_over m c h k d false b u Setting.Standard)
      (re_entry 10 0 ⟶ W c h k (8 · 11) ⨾
      done ⟶ W c h k (17 · 6) ⨾
      control 3 ⟶ W c h k (14 · 1) ⨾
      done ⟶ W c h k (8 · 6) ⨾
      done ⟶ H 8 c h k ⨾
      re_entry 10 0 ⟶ W c h k (8 · 11) ⨾
      done ⟶ W c h k (17 · 6) ⨾
      control 3 ⟶ W c h k (17 · 5) ⨾
      control 6 ⟶ W c h k (14 · 0) ⨾
      done ⟶ H 8 c h k ⨾ end)
  pub crate_epr_asks_twice_as_the_source : Follows (handed_over m c h k d true b u Setting.Crate)
      (re_entry 10 0 ⟶ W c h k (8 · 11) ⨾
      done ⟶ W c h k (17 · 6) ⨾
      control 3 ⟶ W c h k (17 · 5) ⨾
      control 6 ⟶ W c h k (14 · 0) ⨾
      done ⟶ H 8 c h k ⨾
      re_entry 10 0 ⟶ W c h k (8 · 11) ⨾
      done ⟶ W c h k (17 · 6) ⨾
      control 3 ⟶ W c h k (17 · 5) ⨾ end)
  pub crate_epr_asks_twice_as_the_other : Follows (handed_over m c h k d false b u Setting.Crate)
      (re_entry 10 0 ⟶ W c h k (8 · 11) ⨾
      done ⟶ W c h k (17 · 6) ⨾
      control 3 ⟶ W c h k (14 · 1) ⨾
      done ⟶ W c h k (8 · 6) ⨾
      done ⟶ H 8 c h k ⨾
      re_entry 10 0 ⟶ W c h k (8 · 11) ⨾
      done ⟶ W c h k (17 · 6) ⨾
      control 3 ⟶ W c h k (14 · 1) ⨾ end)
  -- "each once the DPM reports success": VCONN is on before PS_RDY is sent, which fails here
  pub on_before_ps_rdy : Follows (ready m c h k d false b u Setting.Standard)
      (control 11 ⟶ W c h k (23 · 0) ⨾
      yes ⟶ W c h k (8 · 3) ⨾
      done ⟶ W c h k (14 · 1) ⨾
      done ⟶ W c h k (8 · 6) ⨾
      failed e ⟶ S e c h k ⨾
      re_entry 2 0 ⟶ in_ready m c h k ⨾
      control 11 ⟶ W c h k (23 · 0) ⨾
      yes ⟶ W c h k (8 · 3) ⨾
      done ⟶ W c h k (17 · 5) ⨾ end)
  -- and nothing is written before VCONN is driven
  pub nothing_before_the_drive : Follows (ready m c h k d true b u Setting.Standard)
      (control 11 ⟶ W c h k (23 · 0) ⨾
      yes ⟶ W c h k (8 · 3) ⨾
      done ⟶ W c h k (17 · 5) ⨾
      failed e ⟶ S e c h k ⨾
      re_entry 2 0 ⟶ in_ready m c h k ⨾
      control 11 ⟶ W c h k (23 · 0) ⨾
      yes ⟶ W c h k (8 · 3) ⨾
      done ⟶ W c h k (17 · 5) ⨾ end)
  pub rejected_writes_nothing : Follows (ready m c h k d v b u Setting.Standard)
      (event Event.RequestVconnSwap ⟶ W c h k (8 · 11) ⨾
      done ⟶ W c h k (17 · 6) ⨾
      control 4 ⟶ in_ready m c h k ⨾
      control 11 ⟶ W c h k (23 · 0) ⨾
      yes ⟶ W c h k (8 · 3) ⨾
      failed e ⟶ S e c h k ⨾ end)
  -- 8.3.3.20.9, which nothing leads to
  pub forced_is_remembered :
      Follows (standing_at (Place.Waiting (State.VconnSwap VcsSwapSource.Message VcsState.VcsForceVconn)) m c h k d v b u Setting.Standard)
      (done ⟶ in_ready m c h k ⨾
      control 11 ⟶ W c h k (23 · 0) ⨾
      yes ⟶ W c h k (8 · 3) ⨾
      done ⟶ W c h k (17 · 5) ⨾ end)
  pub epr_forced_is_remembered :
      Follows (standing_at (Place.Waiting (State.VconnSwap VcsSwapSource.Epr VcsState.VcsForceVconn)) m c h k d v b u Setting.Standard)
      (done ⟶ H 8 c h k ⨾
      re_entry 2 0 ⟶ in_ready m c h k ⨾
      control 11 ⟶ W c h k (23 · 0) ⨾
      yes ⟶ W c h k (8 · 3) ⨾
      done ⟶ W c h k (17 · 5) ⨾ end)
  pub crate_forced_is_forgotten :
      Follows (standing_at (Place.Waiting (State.VconnSwap VcsSwapSource.Message VcsState.VcsForceVconn)) m c h k d false b u Setting.Crate)
      (done ⟶ in_ready m c h k ⨾
      control 11 ⟶ W c h k (23 · 0) ⨾
      yes ⟶ W c h k (8 · 3) ⨾
      done ⟶ W c h k (14 · 1) ⨾ end)
  -- "Startup sets it back to its creation value", by re-entry
  pub startup_restores_the_source : Follows (stopped m c h k d v true u Setting.Standard)
      (re_entry 9 0 ⟶ WW D h (zero k) (1 · 0) (3 · 0) ⨾
      done ⟶ W D h (zero k) (4 · 0) ⨾
      done ⟶ W D (zero h) (zero k) (5 · 0) ⨾
      failed e ⟶ S e D (zero h) (zero k) ⨾
      re_entry 2 0 ⟶ in_ready Mode.Spr D (zero h) (zero k) ⨾
      control 11 ⟶ W D (zero h) (zero k) (23 · 0) ⨾
      yes ⟶ W D (zero h) (zero k) (8 · 3) ⨾
      done ⟶ W D (zero h) (zero k) (17 · 5) ⨾ end)
  pub startup_restores_the_other : Follows (stopped m c h k d v false u Setting.Standard)
      (re_entry 9 0 ⟶ WW D h (zero k) (1 · 0) (3 · 0) ⨾
      done ⟶ W D h (zero k) (4 · 0) ⨾
      done ⟶ W D (zero h) (zero k) (5 · 0) ⨾
      failed e ⟶ S e D (zero h) (zero k) ⨾
      re_entry 2 0 ⟶ in_ready Mode.Spr D (zero h) (zero k) ⨾
      control 11 ⟶ W D (zero h) (zero k) (23 · 0) ⨾
      yes ⟶ W D (zero h) (zero k) (8 · 3) ⨾
      done ⟶ W D (zero h) (zero k) (14 · 1) ⨾ end)
  pub crate_startup_restores_nothing_as_the_source : Follows (stopped m c h k d true b u Setting.Crate)
      (re_entry 9 0 ⟶ WW D h (zero k) (1 · 0) (3 · 0) ⨾
      done ⟶ W D h (zero k) (4 · 0) ⨾
      done ⟶ W D (zero h) (zero k) (5 · 0) ⨾
      failed e ⟶ S e D (zero h) (zero k) ⨾
      re_entry 2 0 ⟶ in_ready Mode.Spr D (zero h) (zero k) ⨾
      control 11 ⟶ W D (zero h) (zero k) (23 · 0) ⨾
      yes ⟶ W D (zero h) (zero k) (8 · 3) ⨾
      done ⟶ W D (zero h) (zero k) (17 · 5) ⨾ end)
  pub crate_startup_restores_nothing_as_the_other : Follows (stopped m c h k d false b u Setting.Crate)
      (re_entry 9 0 ⟶ WW D h (zero k) (1 · 0) (3 · 0) ⨾
      done ⟶ W D h (zero k) (4 · 0) ⨾
      done ⟶ W D (zero h) (zero k) (5 · 0) ⨾
      failed e ⟶ S e D (zero h) (zero k) ⨾
      re_entry 2 0 ⟶ in_ready Mode.Spr D (zero h) (zero k) ⨾
      control 11 ⟶ W D (zero h) (zero k) (23 · 0) ⨾
      yes ⟶ W D (zero h) (zero k) (8 · 3) ⨾
      done ⟶ W D (zero h) (zero k) (14 · 1) ⨾ end)
  -- and after a Hard Reset
  pub hard_reset_restores_the_source : Follows (ready m c h k d v true u Setting.Standard)
      (failed 0 ⟶ S 0 c h k ⨾
      re_entry 4 0 ⟶ W c h k (2 · 3) ⨾
      done ⟶ W c h k (14 · 0) ⨾
      done ⟶ W c h k (15 · 0) ⨾
      done ⟶ W c h k (14 · 1) ⨾
      done ⟶ WW D h (zero k) (1 · 0) (3 · 0) ⨾
      done ⟶ W D h (zero k) (4 · 0) ⨾
      done ⟶ W D (zero h) (zero k) (5 · 0) ⨾
      failed e ⟶ S e D (zero h) (zero k) ⨾
      re_entry 2 0 ⟶ in_ready Mode.Spr D (zero h) (zero k) ⨾
      control 11 ⟶ W D (zero h) (zero k) (23 · 0) ⨾
      yes ⟶ W D (zero h) (zero k) (8 · 3) ⨾
      done ⟶ W D (zero h) (zero k) (17 · 5) ⨾ end)
  pub hard_reset_restores_the_other : Follows (ready m c h k d v false u Setting.Standard)
      (failed 0 ⟶ S 0 c h k ⨾
      re_entry 4 0 ⟶ W c h k (2 · 3) ⨾
      done ⟶ W c h k (14 · 0) ⨾
      done ⟶ W c h k (15 · 0) ⨾
      done ⟶ W c h k (14 · 1) ⨾
      done ⟶ WW D h (zero k) (1 · 0) (3 · 0) ⨾
      done ⟶ W D h (zero k) (4 · 0) ⨾
      done ⟶ W D (zero h) (zero k) (5 · 0) ⨾
      failed e ⟶ S e D (zero h) (zero k) ⨾
      re_entry 2 0 ⟶ in_ready Mode.Spr D (zero h) (zero k) ⨾
      control 11 ⟶ W D (zero h) (zero k) (23 · 0) ⨾
      yes ⟶ W D (zero h) (zero k) (8 · 3) ⨾
      done ⟶ W D (zero h) (zero k) (14 · 1) ⨾ end)
  -- A Soft Reset resets the protocol layer too, and is no Startup
  pub soft_reset_restores_nothing : Follows (ready m c h k d true false u Setting.Standard)
      (control 13 ⟶ WW c h k (1 · 0) (8 · 3) ⨾
      failed e ⟶ S e c h k ⨾
      re_entry 2 0 ⟶ in_ready m c h k ⨾
      control 11 ⟶ W c h k (23 · 0) ⨾
      yes ⟶ W c h k (8 · 3) ⨾
      done ⟶ W c h k (17 · 5) ⨾ end)
