-- Document 01, port order 3, sentence by sentence, each about all messages that it speaks of; its list of actions, number by number; its flags.
-- Assumes nothing.
use Rattle.std.specs.Prelude.{Option, None, Some, ℕ, ◌/◌, ◌<◌, ◌≡◌, Bool, true, false, [], ◌∷◌, ltb}
use Rattle.notation.specs.Rows.{◌is◌}
use Rattle.definition.specs.Types.{Message, Mode, State, Handover, GiveWait, SwapState}
use Rattle.definition.specs.Types.{DataRoleSwap, FastPowerRoleSwap}
use Rattle.definition.specs.Types.{VcsState, VcsSwapSource, PowerSource, Setting, Settings}
use Rattle.definition.specs.Next.{go, stop, hand_over, negotiate, to_not_supported, to_hard_reset, to_send_capabilities}
use Rattle.definition.specs.Messages.{dispatched}
use Rattle.definition.specs.Paper.{one_of, class, argument_named, flags}

abbrev pub action_of : ℕ → ℕ
action_of word = word / 16777216

abbrev pub epr_mode : ℕ → Message
epr_mode word = Message.EprMode (Some word)

abbrev pub extended : ℕ → Message
extended t = Message.ExtendedControl (Some t)

pub record Sentences : Type 0 where
  -- "Message a: 0 Request, 1 EprRequest .., 2 EprMode .., 3 control .., 4 extended control .., 5 others, 6 SPR and 7 EPR sink capabilities"
  pub class_0 : (p : Option PowerSource) → class (Message.Request p) ≡ 0
  pub class_1 : (p : Option PowerSource) → class (Message.EprRequest p) ≡ 1
  pub class_2 : (p : Option ℕ) → class (Message.EprMode p) ≡ 2
  pub class_3 : (t : ℕ) → class (Message.Control t) ≡ 3
  pub class_4 : (p : Option ℕ) → class (Message.ExtendedControl p) ≡ 4
  pub class_5 : class Message.Other ≡ 5
  pub class_6 : (good : Bool) → class (Message.SinkCapabilities good) ≡ 6
  pub class_7 : (good : Bool) → class (Message.EprSinkCapabilities good) ≡ 7
  -- "Request outside SPR, EprRequest outside EPR: S.0"
  pub request_outside_spr : (dual : Bool) (p : Option PowerSource) → dispatched Mode.Epr dual (Message.Request p) ≡ stop 0
  pub epr_request_outside_epr : (dual : Bool) (p : Option PowerSource) → dispatched Mode.Spr dual (Message.EprRequest p) ≡ stop 0
  -- "right mode but bad payload: SendNotSupported", and a good one is negotiated
  pub bad_request : (dual : Bool) → dispatched Mode.Spr dual (Message.Request None) ≡ to_not_supported
  pub bad_epr_request : (dual : Bool) → dispatched Mode.Epr dual (Message.EprRequest None) ≡ to_not_supported
  pub good_request : (dual : Bool) (q : PowerSource) → dispatched Mode.Spr dual (Message.Request (Some q)) ≡ negotiate q
  pub good_epr_request : (dual : Bool) (q : PowerSource) → dispatched Mode.Epr dual (Message.EprRequest (Some q)) ≡ negotiate q
  -- "EprMode (action in bits 31 to 24 of its word) 1 (Enter): Entry in SPR, HardReset in EPR"
  pub enter_in_spr : (dual : Bool) (word : ℕ) → action_of word ≡ 1 → dispatched Mode.Spr dual (epr_mode word) ≡ hand_over Handover.EprEntry
  pub enter_in_epr : (dual : Bool) (word : ℕ) → action_of word ≡ 1 → dispatched Mode.Epr dual (epr_mode word) ≡ to_hard_reset
  -- "5 (Exit): HardReset in SPR, ExitReceived in EPR"
  pub exit_in_spr : (dual : Bool) (word : ℕ) → action_of word ≡ 5 → dispatched Mode.Spr dual (epr_mode word) ≡ to_hard_reset
  pub exit_in_epr : (dual : Bool) (word : ℕ) → action_of word ≡ 5 → dispatched Mode.Epr dual (epr_mode word) ≡ hand_over Handover.EprExitReceived
  -- "others SendNotSupported"
  pub other_actions : (m : Mode) (dual : Bool) (word : ℕ) → one_of (1 ∷ 5 ∷ []) (action_of word) ≡ false → dispatched m dual (epr_mode word) ≡ to_not_supported
  pub bad_epr_mode : (m : Mode) (dual : Bool) → dispatched m dual (Message.EprMode None) ≡ to_not_supported
  -- "Control 13 SoftReset"
  pub control_13 : (m : Mode) (dual : Bool) → dispatched m dual (Message.Control 13) ≡ go State.SoftReset
  -- "7 SendCapabilities in SPR, GiveSourceCap in EPR"
  pub control_7_in_spr : (dual : Bool) → dispatched Mode.Spr dual (Message.Control 7) ≡ to_send_capabilities
  pub control_7_in_epr : (dual : Bool) → dispatched Mode.Epr dual (Message.Control 7) ≡ go (State.GiveSourceCap Mode.Spr)
  -- "11 EvaluateSwap"
  pub control_11 : (m : Mode) (dual : Bool) → dispatched m dual (Message.Control 11) ≡ go (State.VconnSwap VcsSwapSource.Message VcsState.EvaluateSwap)
  -- "9, not dual SendNotSupported, else EPR HardReset, else H.1", in place of which document 02, order 4, has the data swap's Evaluate
  pub control_9_not_dual : (m : Mode) → dispatched m false (Message.Control 9) ≡ to_not_supported
  pub control_9_in_epr : dispatched Mode.Epr true (Message.Control 9) ≡ to_hard_reset
  pub control_9_in_spr : dispatched Mode.Spr true (Message.Control 9) ≡ go (State.DrpSwap (SwapState.Data DataRoleSwap.Evaluate))
  -- "10, 19 and 8 need dual_role (H.3, fast Evaluate, give SPR sink capabilities)"
  pub control_10 : (m : Mode) → dispatched m true (Message.Control 10) ≡ hand_over Handover.PowerEvaluate
  pub control_19 : (m : Mode) → dispatched m true (Message.Control 19) ≡ go (State.DrpSwap (SwapState.FastPower FastPowerRoleSwap.Evaluate))
  pub control_8 : (m : Mode) → dispatched m true (Message.Control 8) ≡ go (State.DrpGiveSinkCap Mode.Spr GiveWait.Read)
  pub control_10_not_dual : (m : Mode) → dispatched m false (Message.Control 10) ≡ to_not_supported
  pub control_19_not_dual : (m : Mode) → dispatched m false (Message.Control 19) ≡ to_not_supported
  pub control_8_not_dual : (m : Mode) → dispatched m false (Message.Control 8) ≡ to_not_supported
  -- "16 informs"
  pub control_16 : (m : Mode) (dual : Bool) → dispatched m dual (Message.Control 16) ≡ go State.NotSupportedReceived
  -- "Extended control 1: GiveSourceCap in SPR, SendCapabilities in EPR"
  pub extended_1_in_spr : (dual : Bool) → dispatched Mode.Spr dual (extended 1) ≡ go (State.GiveSourceCap Mode.Epr)
  pub extended_1_in_epr : (dual : Bool) → dispatched Mode.Epr dual (extended 1) ≡ to_send_capabilities
  -- "2 needs dual_role"
  pub extended_2 : (m : Mode) → dispatched m true (extended 2) ≡ go (State.DrpGiveSinkCap Mode.Epr GiveWait.Read)
  pub extended_2_not_dual : (m : Mode) → dispatched m false (extended 2) ≡ to_not_supported
  -- "3 EprKeepAlive in both modes"
  pub extended_3 : (m : Mode) (dual : Bool) → dispatched m dual (extended 3) ≡ go State.EprKeepAlive
  -- "All else, 4 and reserved included: SendNotSupported"
  pub other_controls : (m : Mode) (dual : Bool) (t : ℕ) → one_of (13 ∷ 7 ∷ 11 ∷ 9 ∷ 10 ∷ 19 ∷ 8 ∷ 16 ∷ []) t ≡ false
      → dispatched m dual (Message.Control t) ≡ to_not_supported
  pub other_extended : (m : Mode) (dual : Bool) (t : ℕ) → one_of (1 ∷ 2 ∷ 3 ∷ []) t ≡ false → dispatched m dual (extended t) ≡ to_not_supported
  pub bad_extended : (m : Mode) (dual : Bool) → dispatched m dual (Message.ExtendedControl None) ≡ to_not_supported
  pub others : (m : Mode) (dual : Bool) → dispatched m dual Message.Other ≡ to_not_supported
  pub sink_capabilities : (m : Mode) (dual good : Bool) → dispatched m dual (Message.SinkCapabilities good) ≡ to_not_supported
  pub epr_sink_capabilities : (m : Mode) (dual good : Bool) → dispatched m dual (Message.EprSinkCapabilities good) ≡ to_not_supported

-- The list of actions, number by number: the arguments that it names
pub record ActionList : Type 0 where
  pub list_0 : (a : ℕ) → argument_named 0 a ≡ false
  pub list_1 : (a : ℕ) → argument_named 1 a ≡ a is 0
  pub list_2 : (a : ℕ) → argument_named 2 a ≡ one_of (1 ∷ 2 ∷ 3 ∷ []) a
  pub list_3 : (a : ℕ) → argument_named 3 a ≡ a is 0
  pub list_4 : (a : ℕ) → argument_named 4 a ≡ one_of (0 ∷ 1 ∷ []) a
  pub list_5 : (a : ℕ) → argument_named 5 a ≡ one_of (0 ∷ 1 ∷ []) a
  pub list_6 : (a : ℕ) → argument_named 6 a ≡ a is 0
  pub list_7 : (a : ℕ) → argument_named 7 a ≡ a is 0
  pub list_8 : (a : ℕ) → argument_named 8 a ≡ ltb a 32
  pub list_9 : (a : ℕ) → argument_named 9 a ≡ a is 0
  pub list_10 : (a : ℕ) → argument_named 10 a ≡ a is 0
  pub list_11 : (a : ℕ) → argument_named 11 a ≡ ltb a 4
  pub list_12 : (a : ℕ) → argument_named 12 a ≡ a is 0
  pub list_13 : (a : ℕ) → argument_named 13 a ≡ a is 0
  pub list_14 : (a : ℕ) → argument_named 14 a ≡ one_of (0 ∷ 1 ∷ []) a
  pub list_15 : (a : ℕ) → argument_named 15 a ≡ a is 0
  pub list_16 : (a : ℕ) → argument_named 16 a ≡ ltb a 256
  pub list_17 : (a : ℕ) → argument_named 17 a ≡ one_of (1 ∷ 2 ∷ 3 ∷ 4 ∷ 5 ∷ 6 ∷ []) a
  -- "plus 16 after a timeout or bad payload"
  pub list_18 : (a : ℕ) → argument_named 18 a ≡ one_of (1 ∷ 2 ∷ 3 ∷ 4 ∷ 17 ∷ 18 ∷ 19 ∷ 20 ∷ []) a
  pub list_19 : (a : ℕ) → argument_named 19 a ≡ a is 0
  pub list_20 : (a : ℕ) → argument_named 20 a ≡ one_of (0 ∷ 1 ∷ []) a
  pub list_21 : (a : ℕ) → argument_named 21 a ≡ a is 0
  pub list_22 : (a : ℕ) → argument_named 22 a ≡ one_of (0 ∷ 1 ∷ []) a
  pub list_23 : (a : ℕ) → argument_named 23 a ≡ a is 0
  pub list_24 : (a : ℕ) → argument_named 24 a ≡ a is 0
  pub list_25 : (a : ℕ) → argument_named 25 a ≡ a is 0
  pub list_26 : (a : ℕ) → argument_named 26 a ≡ a is 0
  -- Document 02, order 4: "New actions get numbers after 26"
  pub list_27 : (a : ℕ) → argument_named 27 a ≡ a is 0
  pub list_28 : (a : ℕ) → argument_named 28 a ≡ one_of (0 ∷ 1 ∷ []) a
  pub list_29 : (a : ℕ) → argument_named 29 a ≡ a is 0
  pub list_ends : (n a : ℕ) → 29 < n → argument_named n a ≡ false

-- "flags (1 dual, 2 swapped, 4 vconn)". Document 02, order 5: "The trace keeps it in flag 8". Each flag alone, and none
abbrev pub flagged : Bool → Bool → Bool → Setting → ℕ → ℕ → Settings
flagged dual swapped vconn setting hard caps = record {
  port = record { dual_role = dual; vconn_source = vconn; setting = setting };
  role_swapped = swapped;
  hard_limit = hard;
  caps_limit = caps;
}

pub record FlagList (hard caps : ℕ) : Type 0 where
  pub no_flag : flags (flagged false false false Setting.Crate hard caps) ≡ 0
  pub flag_1 : flags (flagged true false false Setting.Crate hard caps) ≡ 1
  pub flag_2 : flags (flagged false true false Setting.Crate hard caps) ≡ 2
  pub flag_4 : flags (flagged false false true Setting.Crate hard caps) ≡ 4
  pub flag_8 : flags (flagged false false false Setting.Standard hard caps) ≡ 8
