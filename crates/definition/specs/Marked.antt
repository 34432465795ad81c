-- The twelve marked steps, one table. "Limits 2 and 50. In Ready unless said." Each row stands for all values that it leaves open. Assumes nothing.
use Rattle.std.specs.Prelude.{Option, Some, ℕ, ◌≤◌, ◌/◌, ◌≡◌, Bool, true, false, [], ◌∷◌}
use Rattle.definition.specs.Types.{DataRole, Setting, Record, Place, State, Negotiation, PowerSource, Contract, Mode, Outcome, Message}
use Rattle.definition.specs.Types.{Timeout, Answer, Action, Step, Finish}
use Rattle.definition.specs.Actions.{action, none}
use Rattle.definition.specs.Messages.{dr_swap, epr_keep_alive}
use Rattle.definition.specs.Engine.{step, re_enter}

-- A record with these limits
abbrev pub limited : Place → Mode → Contract → ℕ → ℕ → Bool → Bool → Bool → DataRole → Setting → Record
limited p m c hard caps dual vconn created role setting = record {
  place = p;
  contract = c;
  hard_reset_counter = record { value = hard; max_value = 2 };
  caps_counter = record { value = caps; max_value = 50 };
  mode = m;
  data_role = role;
  vconn_source = vconn;
  port = record { dual_role = dual; vconn_source = created; setting = setting };
}

abbrev pub ready : Mode → Contract → ℕ → ℕ → Bool → Bool → Bool → DataRole → Setting → Record
ready = limited (Place.Waiting State.Ready)

-- What the listing shows of a step: answer, contract, hard count, caps count and its one action
abbrev pub Shows : Step → Answer → Contract → ℕ → ℕ → Action → Type 0
Shows s a c hard caps x =
    (s.answer ≡ a) × (s.«record».contract ≡ c) × (s.«record».hard_reset_counter.value ≡ hard) ×
    (s.«record».caps_counter.value ≡ caps) × (s.actions ≡ x ∷ none ∷ [])

-- An EPR_Mode message whose word has this action in bits 31 to 24
abbrev pub epr_mode_message : ℕ → Outcome
epr_mode_message word = Outcome.Message (Message.EprMode (Some word))

pub record MarkedSteps : Type 0 where
  -- (1) EPR, Request: S.0
  pub step_1 : (c : Contract) (h k : ℕ) (d v b : Bool) (u : DataRole) (g : Setting) (p : Option PowerSource) → h ≤ 2 → k ≤ 50
      → Shows (step (ready Mode.Epr c h k d v b u g) (Outcome.Message (Message.Request p))) (Answer.Stopped 0) c h k none
  -- (2) SPR, EprRequest: S.0
  pub step_2 : (c : Contract) (h k : ℕ) (d v b : Bool) (u : DataRole) (g : Setting) (p : Option PowerSource) → h ≤ 2 → k ≤ 50
      → Shows (step (ready Mode.Spr c h k d v b u g) (Outcome.Message (Message.EprRequest p))) (Answer.Stopped 0) c h k none
  -- (3) EPR, Enter, hard 0: 13.0, hard 1
  pub step_3 : (c : Contract) (k : ℕ) (d v b : Bool) (u : DataRole) (g : Setting) (word : ℕ) → k ≤ 50 → word / 16777216 ≡ 1
      → Shows (step (ready Mode.Epr c 0 k d v b u g) (epr_mode_message word)) Answer.Waiting c 1 k (action 13 0)
  -- (4) SPR, Exit, hard 1: 13.0, hard 2
  pub step_4 : (c : Contract) (k : ℕ) (d v b : Bool) (u : DataRole) (g : Setting) (word : ℕ) → k ≤ 50 → word / 16777216 ≡ 5
      → Shows (step (ready Mode.Spr c 1 k d v b u g) (epr_mode_message word)) Answer.Waiting c 2 k (action 13 0)
  -- (5) not dual, EPR, DR_Swap: 8.16
  pub step_5 : (c : Contract) (h k : ℕ) (v b : Bool) (u : DataRole) (g : Setting) → h ≤ 2 → k ≤ 50
      → Shows (step (ready Mode.Epr c h k false v b u g) (Outcome.Message (Message.Control dr_swap))) Answer.Waiting c h k (action 8 16)
  -- (6) dual, EPR, DR_Swap, hard 0: 13.0
  pub step_6 : (c : Contract) (k : ℕ) (v b : Bool) (u : DataRole) (g : Setting) → k ≤ 50
      → Shows (step (ready Mode.Epr c 0 k true v b u g) (Outcome.Message (Message.Control dr_swap))) Answer.Waiting c 1 k (action 13 0)
  -- (7) EPR, keep-alive timeout, hard 2: F.1, no action
  pub step_7 : (c : Contract) (k : ℕ) (d v b : Bool) (u : DataRole) (g : Setting) → k ≤ 50
      → Shows (step (ready Mode.Epr c 2 k d v b u g) (Outcome.Timeout Timeout.KeepAlive)) (Answer.Finished Finish.PortPartnerUnresponsive) c 2 k none
  -- (8) 9 fails: F.1, contract T
  pub step_8 : (q : PowerSource) (m : Mode) (h k : ℕ) (d v b : Bool) (u : DataRole) (g : Setting) → h ≤ 2 → k ≤ 50
      → Shows (step (limited (Place.Negotiating Negotiation.Supply q) m Contract.TransitionToExplicit h k d v b u g) Outcome.DpmFailed)
      (Answer.Finished Finish.PortPartnerUnresponsive) Contract.TransitionToExplicit h k none
  -- (9) PS_RDY after 9 fails with 5: S.5, contract E
  pub step_9 : (q : PowerSource) (m : Mode) (h k : ℕ) (d v b : Bool) (u : DataRole) (g : Setting) → h ≤ 2 → k ≤ 50
      → Shows (step (limited (Place.Negotiating Negotiation.PsRdy q) m (Contract.Explicit q) h k d v b u g) (Outcome.Failed 5))
      (Answer.Stopped 5) (Contract.Explicit q) h k none
  -- (10) SPR, EPR_KeepAlive: 16.4
  pub step_10 : (c : Contract) (h k : ℕ) (d v b : Bool) (u : DataRole) (g : Setting) → h ≤ 2 → k ≤ 50
      → Shows (step (ready Mode.Spr c h k d v b u g) (Outcome.Message (Message.ExtendedControl (Some epr_keep_alive))))
      Answer.Waiting c h k (action 16 4)
  -- (11) stopped, caps 49, target 0: 2.2, caps 50
  pub step_11 : (e : ℕ) (m : Mode) (c : Contract) (h : ℕ) (d v b : Bool) (u : DataRole) (g : Setting) → h ≤ 2
      → Shows (re_enter (limited (Place.Stopped e) m c h 49 d v b u g) 0 0) Answer.Waiting c h 50 (action 2 2)
  -- (12) the same at caps 50: 10.0, caps 50
  pub step_12 : (e : ℕ) (m : Mode) (c : Contract) (h : ℕ) (d v b : Bool) (u : DataRole) (g : Setting) → h ≤ 2
      → Shows (re_enter (limited (Place.Stopped e) m c h 50 d v b u g) 0 0) Answer.Waiting c h 50 (action 10 0)
