-- The flows of re-entry. Flows.antt says what a flow is. Assumes nothing.
use Rattle.std.specs.Prelude.{Bool}
use Rattle.definition.specs.Types.{Contract, Counter, DataRole, Mode, PowerSource, Setting, Event}
use Rattle.definition.specs.Flows.{Below, D, F, Follows, R, W, WW, ◌·◌, ◌⟶◌⨾◌, accept, control, done, end, evaluating, event, handed_over, in_ready}
use Rattle.definition.specs.Flows.{more, re_entry, ready, stopped, zero}

-- Every target, from a stopped record and after a handover with each mode change; and what is refused.
pub record ReEntryFlows (c : Contract) (h k : Counter) (d v b : Bool) (u : DataRole) (g : Setting) (m : Mode) (q : PowerSource) : Type 0 where
  -- "Targets: 0 Discovery, 1 SendCapabilities, 2 Ready, 3 HardReset, 4 HardResetReceived, 5 SendSoftReset, 6 SoftReset, 7 SendNotSupported, 8 ErrorRecovery,
  -- 9 Startup without swap", stopped in SPR
  pub stopped_in_spr_to_0 : Below k → Follows (stopped Mode.Spr c h k d v b u g)
      (re_entry 0 0 ⟶ W c h (more k) (2 · 2) ⨾
      done ⟶ W c h (more k) (4 · 0) ⨾ end)
  pub stopped_in_spr_to_1 : Follows (stopped Mode.Spr c h k d v b u g)
      (re_entry 1 0 ⟶ W c h k (4 · 0) ⨾
      done ⟶ W c (zero h) k (5 · 0) ⨾ end)
  pub stopped_in_spr_to_2 : Follows (stopped Mode.Spr c h k d v b u g)
      (re_entry 2 0 ⟶ in_ready Mode.Spr c h k ⨾ end)
  pub stopped_in_spr_to_3 : Below h → Follows (stopped Mode.Spr c h k d v b u g)
      (re_entry 3 0 ⟶ W c (more h) k (13 · 0) ⨾
      done ⟶ W c (more h) k (2 · 3) ⨾ end)
  pub stopped_in_spr_to_4 : Follows (stopped Mode.Spr c h k d v b u g)
      (re_entry 4 0 ⟶ W c h k (2 · 3) ⨾
      done ⟶ W c h k (14 · 0) ⨾ end)
  pub stopped_in_spr_to_5 : Follows (stopped Mode.Spr c h k d v b u g)
      (re_entry 5 0 ⟶ WW c h k (1 · 0) (8 · 13) ⨾
      done ⟶ W c h k (17 · 3) ⨾
      control 3 ⟶ W c h k (4 · 0) ⨾ end)
  pub stopped_in_spr_to_6 : Follows (stopped Mode.Spr c h k d v b u g)
      (re_entry 6 0 ⟶ WW c h k (1 · 0) (8 · 3) ⨾
      done ⟶ W c h k (4 · 0) ⨾ end)
  pub stopped_in_spr_to_7 : Follows (stopped Mode.Spr c h k d v b u g)
      (re_entry 7 0 ⟶ W c h k (8 · 16) ⨾
      done ⟶ in_ready Mode.Spr c h k ⨾ end)
  pub stopped_in_spr_to_8 : Follows (stopped Mode.Spr c h k d v b u g)
      (re_entry 8 0 ⟶ F 2 c h k ⨾
      done ⟶ R 2 ⨾
      re_entry 2 0 ⟶ R 2 ⨾ end)
  pub stopped_in_spr_to_9 : Follows (stopped Mode.Spr c h k d v b u g)
      (re_entry 9 0 ⟶ WW D h (zero k) (1 · 0) (3 · 0) ⨾
      done ⟶ W D h (zero k) (4 · 0) ⨾ end)
  pub stopped_in_spr_refused : Follows (stopped Mode.Spr c h k d v b u g)
      (re_entry 10 0 ⟶ R 6 ⨾
      re_entry 11 0 ⟶ R 6 ⨾
      re_entry 12 0 ⟶ R 6 ⨾
      re_entry 255 0 ⟶ R 6 ⨾
      re_entry 2 1 ⟶ R 6 ⨾
      re_entry 2 2 ⟶ R 6 ⨾
      re_entry 2 3 ⟶ R 6 ⨾
      done ⟶ R 4 ⨾
      re_entry 2 0 ⟶ in_ready Mode.Spr c h k ⨾ end)
  -- "Targets: 0 Discovery, 1 SendCapabilities, 2 Ready, 3 HardReset, 4 HardResetReceived, 5 SendSoftReset, 6 SoftReset, 7 SendNotSupported, 8 ErrorRecovery,
  -- 9 Startup without swap", stopped in EPR
  pub stopped_in_epr_to_0 : Below k → Follows (stopped Mode.Epr c h k d v b u g)
      (re_entry 0 0 ⟶ W c h (more k) (2 · 2) ⨾
      done ⟶ W c h (more k) (4 · 1) ⨾ end)
  pub stopped_in_epr_to_1 : Follows (stopped Mode.Epr c h k d v b u g)
      (re_entry 1 0 ⟶ W c h k (4 · 1) ⨾
      done ⟶ W c (zero h) k (5 · 1) ⨾ end)
  pub stopped_in_epr_to_2 : Follows (stopped Mode.Epr c h k d v b u g)
      (re_entry 2 0 ⟶ in_ready Mode.Epr c h k ⨾ end)
  pub stopped_in_epr_to_3 : Below h → Follows (stopped Mode.Epr c h k d v b u g)
      (re_entry 3 0 ⟶ W c (more h) k (13 · 0) ⨾
      done ⟶ W c (more h) k (2 · 3) ⨾ end)
  pub stopped_in_epr_to_4 : Follows (stopped Mode.Epr c h k d v b u g)
      (re_entry 4 0 ⟶ W c h k (2 · 3) ⨾
      done ⟶ W c h k (14 · 0) ⨾ end)
  pub stopped_in_epr_to_5 : Follows (stopped Mode.Epr c h k d v b u g)
      (re_entry 5 0 ⟶ WW c h k (1 · 0) (8 · 13) ⨾
      done ⟶ W c h k (17 · 3) ⨾
      control 3 ⟶ W c h k (4 · 1) ⨾ end)
  pub stopped_in_epr_to_6 : Follows (stopped Mode.Epr c h k d v b u g)
      (re_entry 6 0 ⟶ WW c h k (1 · 0) (8 · 3) ⨾
      done ⟶ W c h k (4 · 1) ⨾ end)
  pub stopped_in_epr_to_7 : Follows (stopped Mode.Epr c h k d v b u g)
      (re_entry 7 0 ⟶ W c h k (8 · 16) ⨾
      done ⟶ in_ready Mode.Epr c h k ⨾ end)
  pub stopped_in_epr_to_8 : Follows (stopped Mode.Epr c h k d v b u g)
      (re_entry 8 0 ⟶ F 2 c h k ⨾
      done ⟶ R 2 ⨾
      re_entry 2 0 ⟶ R 2 ⨾ end)
  pub stopped_in_epr_to_9 : Follows (stopped Mode.Epr c h k d v b u g)
      (re_entry 9 0 ⟶ WW D h (zero k) (1 · 0) (3 · 0) ⨾
      done ⟶ W D h (zero k) (4 · 0) ⨾ end)
  pub stopped_in_epr_refused : Follows (stopped Mode.Epr c h k d v b u g)
      (re_entry 10 0 ⟶ R 6 ⨾
      re_entry 11 0 ⟶ R 6 ⨾
      re_entry 12 0 ⟶ R 6 ⨾
      re_entry 255 0 ⟶ R 6 ⨾
      re_entry 2 1 ⟶ R 6 ⨾
      re_entry 2 2 ⟶ R 6 ⨾
      re_entry 2 3 ⟶ R 6 ⨾
      done ⟶ R 4 ⨾
      re_entry 2 0 ⟶ in_ready Mode.Epr c h k ⨾ end)
  -- "Mode change: 0 keep", and "after a handover also 10 VconnSwap (Epr, SendSwap), 11 PrSwapToSinkStartup"
  pub kept_in_spr_to_0 : Below k → Follows (handed_over Mode.Spr c h k d v b u g)
      (re_entry 0 0 ⟶ W c h (more k) (2 · 2) ⨾
      done ⟶ W c h (more k) (4 · 0) ⨾ end)
  pub kept_in_spr_to_1 : Follows (handed_over Mode.Spr c h k d v b u g)
      (re_entry 1 0 ⟶ W c h k (4 · 0) ⨾
      done ⟶ W c (zero h) k (5 · 0) ⨾ end)
  pub kept_in_spr_to_2 : Follows (handed_over Mode.Spr c h k d v b u g)
      (re_entry 2 0 ⟶ in_ready Mode.Spr c h k ⨾ end)
  pub kept_in_spr_to_3 : Below h → Follows (handed_over Mode.Spr c h k d v b u g)
      (re_entry 3 0 ⟶ W c (more h) k (13 · 0) ⨾
      done ⟶ W c (more h) k (2 · 3) ⨾ end)
  pub kept_in_spr_to_4 : Follows (handed_over Mode.Spr c h k d v b u g)
      (re_entry 4 0 ⟶ W c h k (2 · 3) ⨾
      done ⟶ W c h k (14 · 0) ⨾ end)
  pub kept_in_spr_to_5 : Follows (handed_over Mode.Spr c h k d v b u g)
      (re_entry 5 0 ⟶ WW c h k (1 · 0) (8 · 13) ⨾
      done ⟶ W c h k (17 · 3) ⨾
      control 3 ⟶ W c h k (4 · 0) ⨾ end)
  pub kept_in_spr_to_6 : Follows (handed_over Mode.Spr c h k d v b u g)
      (re_entry 6 0 ⟶ WW c h k (1 · 0) (8 · 3) ⨾
      done ⟶ W c h k (4 · 0) ⨾ end)
  pub kept_in_spr_to_7 : Follows (handed_over Mode.Spr c h k d v b u g)
      (re_entry 7 0 ⟶ W c h k (8 · 16) ⨾
      done ⟶ in_ready Mode.Spr c h k ⨾ end)
  pub kept_in_spr_to_8 : Follows (handed_over Mode.Spr c h k d v b u g)
      (re_entry 8 0 ⟶ F 2 c h k ⨾
      done ⟶ R 2 ⨾
      re_entry 2 0 ⟶ R 2 ⨾ end)
  pub kept_in_spr_to_9 : Follows (handed_over Mode.Spr c h k d v b u g)
      (re_entry 9 0 ⟶ WW D h (zero k) (1 · 0) (3 · 0) ⨾
      done ⟶ W D h (zero k) (4 · 0) ⨾ end)
  pub kept_in_spr_to_10 : Follows (handed_over Mode.Spr c h k d v b u g)
      (re_entry 10 0 ⟶ W c h k (8 · 11) ⨾
      done ⟶ W c h k (17 · 6) ⨾
      control 4 ⟶ in_ready Mode.Spr c h k ⨾ end)
  pub kept_in_spr_to_11 : Follows (handed_over Mode.Spr c h k d v b u g)
      (re_entry 11 0 ⟶ F 0 c h k ⨾
      done ⟶ R 2 ⨾
      re_entry 2 0 ⟶ R 2 ⨾ end)
  -- "Mode change: 0 keep", and "after a handover also 10 VconnSwap (Epr, SendSwap), 11 PrSwapToSinkStartup"
  pub kept_in_epr_to_0 : Below k → Follows (handed_over Mode.Epr c h k d v b u g)
      (re_entry 0 0 ⟶ W c h (more k) (2 · 2) ⨾
      done ⟶ W c h (more k) (4 · 1) ⨾ end)
  pub kept_in_epr_to_1 : Follows (handed_over Mode.Epr c h k d v b u g)
      (re_entry 1 0 ⟶ W c h k (4 · 1) ⨾
      done ⟶ W c (zero h) k (5 · 1) ⨾ end)
  pub kept_in_epr_to_2 : Follows (handed_over Mode.Epr c h k d v b u g)
      (re_entry 2 0 ⟶ in_ready Mode.Epr c h k ⨾ end)
  pub kept_in_epr_to_3 : Below h → Follows (handed_over Mode.Epr c h k d v b u g)
      (re_entry 3 0 ⟶ W c (more h) k (13 · 0) ⨾
      done ⟶ W c (more h) k (2 · 3) ⨾ end)
  pub kept_in_epr_to_4 : Follows (handed_over Mode.Epr c h k d v b u g)
      (re_entry 4 0 ⟶ W c h k (2 · 3) ⨾
      done ⟶ W c h k (14 · 0) ⨾ end)
  pub kept_in_epr_to_5 : Follows (handed_over Mode.Epr c h k d v b u g)
      (re_entry 5 0 ⟶ WW c h k (1 · 0) (8 · 13) ⨾
      done ⟶ W c h k (17 · 3) ⨾
      control 3 ⟶ W c h k (4 · 1) ⨾ end)
  pub kept_in_epr_to_6 : Follows (handed_over Mode.Epr c h k d v b u g)
      (re_entry 6 0 ⟶ WW c h k (1 · 0) (8 · 3) ⨾
      done ⟶ W c h k (4 · 1) ⨾ end)
  pub kept_in_epr_to_7 : Follows (handed_over Mode.Epr c h k d v b u g)
      (re_entry 7 0 ⟶ W c h k (8 · 16) ⨾
      done ⟶ in_ready Mode.Epr c h k ⨾ end)
  pub kept_in_epr_to_8 : Follows (handed_over Mode.Epr c h k d v b u g)
      (re_entry 8 0 ⟶ F 2 c h k ⨾
      done ⟶ R 2 ⨾
      re_entry 2 0 ⟶ R 2 ⨾ end)
  pub kept_in_epr_to_9 : Follows (handed_over Mode.Epr c h k d v b u g)
      (re_entry 9 0 ⟶ WW D h (zero k) (1 · 0) (3 · 0) ⨾
      done ⟶ W D h (zero k) (4 · 0) ⨾ end)
  pub kept_in_epr_to_10 : Follows (handed_over Mode.Epr c h k d v b u g)
      (re_entry 10 0 ⟶ W c h k (8 · 11) ⨾
      done ⟶ W c h k (17 · 6) ⨾
      control 4 ⟶ in_ready Mode.Epr c h k ⨾ end)
  pub kept_in_epr_to_11 : Follows (handed_over Mode.Epr c h k d v b u g)
      (re_entry 11 0 ⟶ F 0 c h k ⨾
      done ⟶ R 2 ⨾
      re_entry 2 0 ⟶ R 2 ⨾ end)
  -- ".. after a handover also 1 Spr": the mode changes first, and then the target is entered, and "after a handover also 10 VconnSwap (Epr, SendSwap), 11
  -- PrSwapToSinkStartup"
  pub changed_to_spr_to_0 : Below k → Follows (handed_over m c h k d v b u g)
      (re_entry 0 1 ⟶ W c h (more k) (2 · 2) ⨾
      done ⟶ W c h (more k) (4 · 0) ⨾ end)
  pub changed_to_spr_to_1 : Follows (handed_over m c h k d v b u g)
      (re_entry 1 1 ⟶ W c h k (4 · 0) ⨾
      done ⟶ W c (zero h) k (5 · 0) ⨾ end)
  pub changed_to_spr_to_2 : Follows (handed_over m c h k d v b u g)
      (re_entry 2 1 ⟶ in_ready Mode.Spr c h k ⨾ end)
  pub changed_to_spr_to_3 : Below h → Follows (handed_over m c h k d v b u g)
      (re_entry 3 1 ⟶ W c (more h) k (13 · 0) ⨾
      done ⟶ W c (more h) k (2 · 3) ⨾ end)
  pub changed_to_spr_to_4 : Follows (handed_over m c h k d v b u g)
      (re_entry 4 1 ⟶ W c h k (2 · 3) ⨾
      done ⟶ W c h k (14 · 0) ⨾ end)
  pub changed_to_spr_to_5 : Follows (handed_over m c h k d v b u g)
      (re_entry 5 1 ⟶ WW c h k (1 · 0) (8 · 13) ⨾
      done ⟶ W c h k (17 · 3) ⨾
      control 3 ⟶ W c h k (4 · 0) ⨾ end)
  pub changed_to_spr_to_6 : Follows (handed_over m c h k d v b u g)
      (re_entry 6 1 ⟶ WW c h k (1 · 0) (8 · 3) ⨾
      done ⟶ W c h k (4 · 0) ⨾ end)
  pub changed_to_spr_to_7 : Follows (handed_over m c h k d v b u g)
      (re_entry 7 1 ⟶ W c h k (8 · 16) ⨾
      done ⟶ in_ready Mode.Spr c h k ⨾ end)
  pub changed_to_spr_to_8 : Follows (handed_over m c h k d v b u g)
      (re_entry 8 1 ⟶ F 2 c h k ⨾
      done ⟶ R 2 ⨾
      re_entry 2 0 ⟶ R 2 ⨾ end)
  pub changed_to_spr_to_9 : Follows (handed_over m c h k d v b u g)
      (re_entry 9 1 ⟶ WW D h (zero k) (1 · 0) (3 · 0) ⨾
      done ⟶ W D h (zero k) (4 · 0) ⨾ end)
  pub changed_to_spr_to_10 : Follows (handed_over m c h k d v b u g)
      (re_entry 10 1 ⟶ W c h k (8 · 11) ⨾
      done ⟶ W c h k (17 · 6) ⨾
      control 4 ⟶ in_ready Mode.Spr c h k ⨾ end)
  pub changed_to_spr_to_11 : Follows (handed_over m c h k d v b u g)
      (re_entry 11 1 ⟶ F 0 c h k ⨾
      done ⟶ R 2 ⨾
      re_entry 2 0 ⟶ R 2 ⨾ end)
  -- ".. 2 Epr", and "after a handover also 10 VconnSwap (Epr, SendSwap), 11 PrSwapToSinkStartup"
  pub changed_to_epr_to_0 : Below k → Follows (handed_over m c h k d v b u g)
      (re_entry 0 2 ⟶ W c h (more k) (2 · 2) ⨾
      done ⟶ W c h (more k) (4 · 1) ⨾ end)
  pub changed_to_epr_to_1 : Follows (handed_over m c h k d v b u g)
      (re_entry 1 2 ⟶ W c h k (4 · 1) ⨾
      done ⟶ W c (zero h) k (5 · 1) ⨾ end)
  pub changed_to_epr_to_2 : Follows (handed_over m c h k d v b u g)
      (re_entry 2 2 ⟶ in_ready Mode.Epr c h k ⨾ end)
  pub changed_to_epr_to_3 : Below h → Follows (handed_over m c h k d v b u g)
      (re_entry 3 2 ⟶ W c (more h) k (13 · 0) ⨾
      done ⟶ W c (more h) k (2 · 3) ⨾ end)
  pub changed_to_epr_to_4 : Follows (handed_over m c h k d v b u g)
      (re_entry 4 2 ⟶ W c h k (2 · 3) ⨾
      done ⟶ W c h k (14 · 0) ⨾ end)
  pub changed_to_epr_to_5 : Follows (handed_over m c h k d v b u g)
      (re_entry 5 2 ⟶ WW c h k (1 · 0) (8 · 13) ⨾
      done ⟶ W c h k (17 · 3) ⨾
      control 3 ⟶ W c h k (4 · 1) ⨾ end)
  pub changed_to_epr_to_6 : Follows (handed_over m c h k d v b u g)
      (re_entry 6 2 ⟶ WW c h k (1 · 0) (8 · 3) ⨾
      done ⟶ W c h k (4 · 1) ⨾ end)
  pub changed_to_epr_to_7 : Follows (handed_over m c h k d v b u g)
      (re_entry 7 2 ⟶ W c h k (8 · 16) ⨾
      done ⟶ in_ready Mode.Epr c h k ⨾ end)
  pub changed_to_epr_to_8 : Follows (handed_over m c h k d v b u g)
      (re_entry 8 2 ⟶ F 2 c h k ⨾
      done ⟶ R 2 ⨾
      re_entry 2 0 ⟶ R 2 ⨾ end)
  pub changed_to_epr_to_9 : Follows (handed_over m c h k d v b u g)
      (re_entry 9 2 ⟶ WW D h (zero k) (1 · 0) (3 · 0) ⨾
      done ⟶ W D h (zero k) (4 · 0) ⨾ end)
  pub changed_to_epr_to_10 : Follows (handed_over m c h k d v b u g)
      (re_entry 10 2 ⟶ W c h k (8 · 11) ⨾
      done ⟶ W c h k (17 · 6) ⨾
      control 4 ⟶ in_ready Mode.Epr c h k ⨾ end)
  pub changed_to_epr_to_11 : Follows (handed_over m c h k d v b u g)
      (re_entry 11 2 ⟶ F 0 c h k ⨾
      done ⟶ R 2 ⨾
      re_entry 2 0 ⟶ R 2 ⨾ end)
  -- R6: "target or mode change not allowed"; R3: "re-entry on a waiting record"; R4: "step on a stopped or handed-over record"
  pub handed_over_refused : Follows (handed_over Mode.Spr c h k d v b u g)
      (re_entry 12 0 ⟶ R 6 ⨾
      re_entry 255 0 ⟶ R 6 ⨾
      re_entry 2 3 ⟶ R 6 ⨾
      re_entry 12 2 ⟶ R 6 ⨾
      done ⟶ R 4 ⨾
      re_entry 2 0 ⟶ in_ready Mode.Spr c h k ⨾ end)
  pub waiting_refused : Follows (ready Mode.Spr c h k d v b u g)
      (re_entry 2 0 ⟶ R 3 ⨾
      event Event.None ⟶ in_ready Mode.Spr c h k ⨾ end)
  pub negotiating_refused : Follows (evaluating q m c h k d v b u g)
      (re_entry 2 0 ⟶ R 3 ⨾
      done ⟶ R 5 ⨾
      accept ⟶ W c h k (8 · 3) ⨾ end)
