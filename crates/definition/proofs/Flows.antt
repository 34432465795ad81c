-- The flows hold. Assumes nothing.
use Prim.Native.Nat.{ℕ}
use mathlib.Core.Path.{◌≡◌, refl, ap, sym, ◌∙◌}
use mathlib.Core.Bool.{Bool, true, false, not, ◌&&◌}
use mathlib.Core.List.{List, [], ◌∷◌}
use native.Mathlib.Omega.{arith}
use lib.Dec.{eqb, ltb}
use borrow.Author.Tests.{le-leb, lt-ltb, le-ltb, not-true}
use Rattle.counters.specs.Counting.{increment}
use Rattle.definition.specs.Types.{Call, Contract, Counter, DataRole, Mode, PowerSource, Record, Setting, Settings, Step}
use Rattle.definition.specs.Messages.{dispatched, control, extended_control, extended_type, epr_mode, epr_action}
use Rattle.definition.specs.Outcomes.{swap_failed}
use Rattle.definition.specs.SourcePort.{disabled_failed, sink_cap_failed}
use Rattle.definition.specs.DualRole.{get_failed, role_answer_type}
use Rattle.definition.specs.VconnSwap.{swap_type}
use Rattle.definition.specs.States.{await_of}
use Rattle.definition.specs.Entering.{begun}
use Rattle.definition.specs.Refusals.{sound, counted, place_sound, uncreatable, target, change_allowed, changed, allowed_target, re_entry}
use Rattle.definition.specs.Engine.{resume, go_back, step, re_enter, take, tell, create}
use Rattle.definition.specs.Flows.{Shown, R, line, lines, Flow, end, calls, shows, Follows, Begins, full}
use Rattle.definition.specs.FlowsOfMessages.{ReadyFlows, MessageFlows}
use Rattle.definition.specs.FlowsOfSourcePort.{CreationFlows, NegotiationFlows, ResetFlows, CapabilityFlows}
use Rattle.definition.specs.FlowsOfSwaps.{SwapFlows, DataSwapFlows}
use Rattle.definition.specs.FlowsOfReEntry.{ReEntryFlows}
use Rattle.definition.specs.FlowsOfVconn.{VconnFlows}
use Rattle.definition.proofs.Laws.{and_left, positive}
use Rattle.definition.proofs.Sound.{step_sound, re_entry_sound, begun_sound}

-- A call on a record that R1 accepts: what comes after R1
taken : Record → Call → Step
taken r (Call.Outcome o) = resume r r.place o
taken r (Call.ReEntry t b) = go_back r r.place t b

past : (r : Record) (c : Call) → sound r ≡ true → take r c ≡ taken r c
unfolding take step re_enter taken
past r (Call.Outcome o) h = rw h refl
past r (Call.ReEntry t b) h = rw h refl

still_sound : (r : Record) (c : Call) → sound r ≡ true → sound (take r c).«record» ≡ true
unfolding take
still_sound r (Call.Outcome o) h = step_sound r o h
still_sound r (Call.ReEntry t b) h = re_entry_sound r t b h

lines_past : Record → List Call → List Shown
lines_past r [] = []
lines_past r (c ∷ cs) = line (taken r c) ∷ lines_past (taken r c).«record» cs

listed : (r : Record) (cs : List Call) → sound r ≡ true → lines r cs ≡ lines_past r cs
unfolding lines lines_past
listed r [] h = refl
listed r (c ∷ cs) h = rw (listed (take r c).«record» cs (still_sound r c h), past r c h) refl

follows : (r : Record) (f : Flow) → sound r ≡ true → lines_past r (calls f) ≡ shows f → Follows r f
unfolding Follows
follows r f h e = listed r (calls f) h ∙ e

fine : (r : Record) → counted r.hard_reset_counter ≡ true → counted r.caps_counter ≡ true → place_sound r.place r.contract ≡ true
    → sound r ≡ true
unfolding sound
fine r hh hk hp = rw (hh, hk, hp)

full_counted : (n : Counter) → counted n ≡ true → counted (full n) ≡ true
unfolding counted
full_counted n h = rw (and_left (ltb 0 n.max_value) _ h, le-leb n.max_value n.max_value (omega arith))

full_stays : (n : Counter) → ltb n.max_value n.max_value ≡ false
full_stays n = le-ltb n.max_value n.max_value (omega arith)

-- A creation that is not refused, and then its flow
limited : (n : Counter) → counted n ≡ true → eqb n.max_value 0 ≡ false
unfolding counted
limited n h = not-true _ (sym (positive n.max_value) ∙ and_left (ltb 0 n.max_value) _ h)

begins : (s : Settings) (first : Shown) (f : Flow) → eqb s.hard_limit 0 ≡ false → eqb s.caps_limit 0 ≡ false
    → (s.role_swapped && not s.port.dual_role) ≡ false → line (tell (begun s)) ∷ lines_past (begun s) (calls f) ≡ first ∷ shows f → Begins s first f
unfolding Begins create uncreatable tell
begins s first f h k u e = rw (h, k, u) (ap (λ x. line (tell (begun s)) ∷ x) (listed (begun s) (calls f) (begun_sound s h k)) ∙ e)

refuses : (s : Settings) → uncreatable s ≡ true → Begins s (R 7) end
unfolding Begins create
refuses s u = rw u refl

pub creation_flows : (h k : Counter) (d v : Bool) (g : Setting) (w : ℕ) → counted h ≡ true → counted k ≡ true → CreationFlows h k d v g w
unfolding lines_past taken tell await_of dispatched control extended_control extended_type epr_mode epr_action increment target change_allowed changed
    allowed_target re_entry
    disabled_failed sink_cap_failed get_failed swap_type swap_failed uncreatable
creation_flows h k d v g w hh hk = record {
  first_contract = begins _ _ _ (limited h hh) (limited k hk) refl refl;
  after_a_swap = begins _ _ _ (limited h hh) (limited k hk) refl refl;
  swapped_without_dual = refuses _ (rw (limited h hh, limited k hk) refl);
  no_hard_limit = refuses _ refl;
  no_caps_limit = refuses _ (rw (limited h hh) refl);
}

pub ready_flows : (c : Contract) (h k : Counter) (d v b : Bool) (u : DataRole) (g : Setting) (w x : ℕ) (e : ℕ)
    → counted h ≡ true → counted k ≡ true → ReadyFlows c h k d v b u g w x e
unfolding lines_past taken tell await_of dispatched control extended_control extended_type epr_mode epr_action increment target change_allowed changed
    allowed_target re_entry
    disabled_failed sink_cap_failed get_failed swap_type swap_failed uncreatable
ready_flows c h k d v b u g w x e hh hk = record {
  default_in_spr = follows _ _ (fine _ hh hk refl) refl;
  default_in_epr = follows _ _ (fine _ hh hk refl) refl;
  implicit_in_spr = follows _ _ (fine _ hh hk refl) refl;
  implicit_in_epr = follows _ _ (fine _ hh hk refl) refl;
  transition_in_spr = follows _ _ (fine _ hh hk refl) refl;
  transition_in_epr = follows _ _ (fine _ hh hk refl) refl;
  invalid_in_spr = follows _ _ (fine _ hh hk refl) refl;
  invalid_in_epr = follows _ _ (fine _ hh hk refl) refl;
  fixed_in_spr = follows _ _ (fine _ hh hk refl) refl;
  fixed_in_epr = follows _ _ (fine _ hh hk refl) refl;
  battery_in_spr = follows _ _ (fine _ hh hk refl) refl;
  battery_in_epr = follows _ _ (fine _ hh hk refl) refl;
  pps_in_spr = follows _ _ (fine _ hh hk refl) refl;
  pps_in_epr = follows _ _ (fine _ hh hk refl) refl;
  avs_in_spr = follows _ _ (fine _ hh hk refl) refl;
  avs_in_epr = follows _ _ (fine _ hh hk refl) refl;
  unknown_in_spr = follows _ _ (fine _ hh hk refl) refl;
  unknown_in_epr = follows _ _ (fine _ hh hk refl) refl;
  epr_request_in_spr = follows _ _ (fine _ hh hk refl) refl;
  epr_request_in_epr = follows _ _ (fine _ hh hk refl) refl;
  pps_timeout_in_spr = λ g0. follows _ _ (fine _ hh hk refl) (rw (lt-ltb _ _ g0) refl);
  pps_timeout_in_epr = λ g0. follows _ _ (fine _ hh hk refl) (rw (lt-ltb _ _ g0) refl);
  keep_alive_timeout = λ g0. follows _ _ (fine _ hh hk refl) (rw (lt-ltb _ _ g0) refl);
  default_no_pps_timeout = follows _ _ (fine _ hh hk refl) refl;
  implicit_no_pps_timeout = follows _ _ (fine _ hh hk refl) refl;
  transition_no_pps_timeout = follows _ _ (fine _ hh hk refl) refl;
  invalid_no_pps_timeout = follows _ _ (fine _ hh hk refl) refl;
  fixed_no_pps_timeout = follows _ _ (fine _ hh hk refl) refl;
  battery_no_pps_timeout = follows _ _ (fine _ hh hk refl) refl;
  avs_no_pps_timeout = follows _ _ (fine _ hh hk refl) refl;
  unknown_no_pps_timeout = follows _ _ (fine _ hh hk refl) refl;
  epr_request_no_pps_timeout = follows _ _ (fine _ hh hk refl) refl;
  no_keep_alive_in_spr = follows _ _ (fine _ hh hk refl) refl;
  no_five_seconds_in_ready = follows _ _ (fine _ hh hk refl) refl;
  reception_fails = follows _ _ (fine _ hh hk refl) refl;
  event_0_in_spr = follows _ _ (fine _ hh hk refl) refl;
  event_1_in_spr = follows _ _ (fine _ hh hk refl) refl;
  event_2_in_spr = follows _ _ (fine _ hh hk refl) refl;
  event_3_in_spr = follows _ _ (fine _ hh hk refl) refl;
  event_4_in_spr = follows _ _ (fine _ hh hk refl) refl;
  event_5_in_spr = follows _ _ (fine _ hh hk refl) refl;
  event_6_in_spr = follows _ _ (fine _ hh hk refl) refl;
  event_7_in_spr = follows _ _ (fine _ hh hk refl) refl;
  event_8_in_spr = follows _ _ (fine _ hh hk refl) refl;
  event_0_in_epr = follows _ _ (fine _ hh hk refl) refl;
  event_1_in_epr = follows _ _ (fine _ hh hk refl) refl;
  event_2_in_epr = follows _ _ (fine _ hh hk refl) refl;
  event_3_in_epr = follows _ _ (fine _ hh hk refl) refl;
  event_4_in_epr = follows _ _ (fine _ hh hk refl) refl;
  event_5_in_epr = follows _ _ (fine _ hh hk refl) refl;
  event_6_in_epr = follows _ _ (fine _ hh hk refl) refl;
  event_7_in_epr = follows _ _ (fine _ hh hk refl) refl;
  event_8_in_epr = follows _ _ (fine _ hh hk refl) refl;
}

pub message_flows : (c : Contract) (h k : Counter) (d v b good : Bool) (u : DataRole) (g : Setting) (m : Mode) (q : PowerSource) (w x : ℕ)
    → counted h ≡ true → counted k ≡ true → MessageFlows c h k d v b good u g m q w x
unfolding lines_past taken tell await_of dispatched control extended_control extended_type epr_mode epr_action increment target change_allowed changed
    allowed_target re_entry
    disabled_failed sink_cap_failed get_failed swap_type swap_failed uncreatable
message_flows c h k d v b good u g m q w x hh hk = record {
  request_fixed = follows _ _ (fine _ hh hk refl) refl;
  epr_request_fixed = follows _ _ (fine _ hh hk refl) refl;
  request_battery = follows _ _ (fine _ hh hk refl) refl;
  epr_request_battery = follows _ _ (fine _ hh hk refl) refl;
  request_pps = follows _ _ (fine _ hh hk refl) refl;
  epr_request_pps = follows _ _ (fine _ hh hk refl) refl;
  request_avs = follows _ _ (fine _ hh hk refl) refl;
  epr_request_avs = follows _ _ (fine _ hh hk refl) refl;
  request_unknown = follows _ _ (fine _ hh hk refl) refl;
  epr_request_unknown = follows _ _ (fine _ hh hk refl) refl;
  request_epr = follows _ _ (fine _ hh hk refl) refl;
  epr_request_epr = follows _ _ (fine _ hh hk refl) refl;
  request_in_epr = follows _ _ (fine _ hh hk refl) refl;
  bad_request_in_epr = follows _ _ (fine _ hh hk refl) refl;
  epr_request_in_spr = follows _ _ (fine _ hh hk refl) refl;
  bad_epr_request_in_spr = follows _ _ (fine _ hh hk refl) refl;
  bad_request_in_spr = follows _ _ (fine _ hh hk refl) refl;
  bad_epr_request_in_epr = follows _ _ (fine _ hh hk refl) refl;
  enter_in_spr = λ g0. follows _ _ (fine _ hh hk refl) (rw (g0) refl);
  enter_in_epr = λ g0. λ g1. follows _ _ (fine _ hh hk refl) (rw (g1, lt-ltb _ _ g0) refl);
  exit_in_spr = λ g0. λ g1. follows _ _ (fine _ hh hk refl) (rw (g1, lt-ltb _ _ g0) refl);
  exit_in_epr = λ g0. follows _ _ (fine _ hh hk refl) (rw (g0) refl);
  another_action_in_spr = λ g0. follows _ _ (fine _ hh hk refl) (rw (g0) refl);
  bad_epr_mode_in_spr = follows _ _ (fine _ hh hk refl) refl;
  another_action_in_epr = λ g0. follows _ _ (fine _ hh hk refl) (rw (g0) refl);
  bad_epr_mode_in_epr = follows _ _ (fine _ hh hk refl) refl;
  soft_reset_in_spr = follows _ _ (fine _ hh hk refl) refl;
  soft_reset_in_epr = follows _ _ (fine _ hh hk refl) refl;
  get_source_cap_in_spr = follows _ _ (fine _ hh hk refl) refl;
  get_source_cap_in_epr = follows _ _ (fine _ hh hk refl) refl;
  vconn_swap = follows _ _ (fine _ hh hk refl) refl;
  dr_swap_not_dual = follows _ _ (fine _ hh hk refl) refl;
  dr_swap_not_dual_in_epr = follows _ _ (fine _ hh hk refl) refl;
  dr_swap_in_epr = λ g0. follows _ _ (fine _ hh hk refl) (rw (lt-ltb _ _ g0) refl);
  dr_swap_in_spr = follows _ _ (fine _ hh hk refl) refl;
  pr_swap = follows _ _ (fine _ hh hk refl) refl;
  pr_swap_not_dual = follows _ _ (fine _ hh hk refl) refl;
  fr_swap = follows _ _ (fine _ hh hk refl) refl;
  fr_swap_not_dual = follows _ _ (fine _ hh hk refl) refl;
  get_sink_cap = follows _ _ (fine _ hh hk refl) refl;
  get_sink_cap_not_dual = follows _ _ (fine _ hh hk refl) refl;
  not_supported = follows _ _ (fine _ hh hk refl) refl;
  epr_get_source_cap_in_spr = follows _ _ (fine _ hh hk refl) refl;
  epr_get_source_cap_in_epr = follows _ _ (fine _ hh hk refl) refl;
  epr_get_sink_cap = follows _ _ (fine _ hh hk refl) refl;
  epr_get_sink_cap_not_dual = follows _ _ (fine _ hh hk refl) refl;
  keep_alive = follows _ _ (fine _ hh hk refl) refl;
  control_3 = follows _ _ (fine _ hh hk refl) refl;
  control_6 = follows _ _ (fine _ hh hk refl) refl;
  control_31 = follows _ _ (fine _ hh hk refl) refl;
  extended_4 = follows _ _ (fine _ hh hk refl) refl;
  extended_255 = follows _ _ (fine _ hh hk refl) refl;
  bad_extended_control = follows _ _ (fine _ hh hk refl) refl;
  other_messages = follows _ _ (fine _ hh hk refl) refl;
  sink_capabilities_unasked = follows _ _ (fine _ hh hk refl) refl;
  epr_sink_capabilities_unasked = follows _ _ (fine _ hh hk refl) refl;
  control_32 = follows _ _ (fine _ hh hk refl) refl;
}

pub negotiation_flows : (c : Contract) (h k : Counter) (d v b : Bool) (u : DataRole) (g : Setting) (m : Mode) (q p : PowerSource) (e w x : ℕ)
    → counted h ≡ true → counted k ≡ true → NegotiationFlows c h k d v b u g m q p e w x
unfolding lines_past taken tell await_of dispatched control extended_control extended_type epr_mode epr_action increment target change_allowed changed
    allowed_target re_entry
    disabled_failed sink_cap_failed get_failed swap_type swap_failed uncreatable
negotiation_flows c h k d v b u g m q p e w x hh hk = record {
  fixed_requested_in_spr = follows _ _ (fine _ hh hk refl) refl;
  battery_requested_in_spr = follows _ _ (fine _ hh hk refl) refl;
  pps_requested_in_spr = follows _ _ (fine _ hh hk refl) refl;
  avs_requested_in_spr = follows _ _ (fine _ hh hk refl) refl;
  unknown_requested_in_spr = follows _ _ (fine _ hh hk refl) refl;
  epr_requested_in_spr = follows _ _ (fine _ hh hk refl) refl;
  bad_request_awaited_in_spr = follows _ _ (fine _ hh hk refl) refl;
  no_request_in_spr = follows _ _ (fine _ hh hk refl) refl;
  capabilities_not_sent_in_spr = follows _ _ (fine _ hh hk refl) refl;
  another_message_in_spr = follows _ _ (fine _ hh hk refl) refl;
  fixed_requested_in_epr = follows _ _ (fine _ hh hk refl) refl;
  battery_requested_in_epr = follows _ _ (fine _ hh hk refl) refl;
  pps_requested_in_epr = follows _ _ (fine _ hh hk refl) refl;
  avs_requested_in_epr = follows _ _ (fine _ hh hk refl) refl;
  unknown_requested_in_epr = follows _ _ (fine _ hh hk refl) refl;
  epr_requested_in_epr = follows _ _ (fine _ hh hk refl) refl;
  bad_request_awaited_in_epr = follows _ _ (fine _ hh hk refl) refl;
  no_request_in_epr = follows _ _ (fine _ hh hk refl) refl;
  capabilities_not_sent_in_epr = follows _ _ (fine _ hh hk refl) refl;
  another_message_in_epr = follows _ _ (fine _ hh hk refl) refl;
  nothing_found = follows _ _ (fine _ hh hk refl) refl;
  fixed_supply_found = follows _ _ (fine _ hh hk refl) refl;
  variable_supply_found = follows _ _ (fine _ hh hk refl) refl;
  battery_found = follows _ _ (fine _ hh hk refl) refl;
  pps_found = follows _ _ (fine _ hh hk refl) refl;
  avs_found = follows _ _ (fine _ hh hk refl) refl;
  fixed_stays = follows _ _ (fine _ hh hk refl) refl;
  battery_stays = follows _ _ (fine _ hh hk refl) refl;
  pps_stays = follows _ _ (fine _ hh hk refl) refl;
  avs_stays = follows _ _ (fine _ hh hk refl) refl;
  epr_stays = follows _ _ (fine _ hh hk refl) refl;
  accepted = follows _ _ (fine _ hh hk refl) refl;
  accept_not_sent = follows _ _ (fine _ hh hk refl) refl;
  supply_fails = follows _ _ (fine _ hh hk refl) refl;
  ps_rdy_not_sent = follows _ _ (fine _ hh hk refl) refl;
  rejected_under_default = follows _ _ (fine _ hh hk refl) refl;
  rejected_under_implicit = follows _ _ (fine _ hh hk refl) refl;
  rejected_under_transition = follows _ _ (fine _ hh hk refl) refl;
  rejected_under_explicit = follows _ _ (fine _ hh hk refl) refl;
  rejected_not_sent = follows _ _ (fine _ hh hk refl) refl;
  told_to_wait_under_default = follows _ _ (fine _ hh hk refl) refl;
  told_to_wait_under_implicit = follows _ _ (fine _ hh hk refl) refl;
  told_to_wait_under_transition = follows _ _ (fine _ hh hk refl) refl;
  told_to_wait_under_explicit = follows _ _ (fine _ hh hk refl) refl;
  told_to_wait_not_sent = follows _ _ (fine _ hh hk refl) refl;
  rejected_under_invalid = λ g0. follows _ _ (fine _ hh hk refl) (rw (lt-ltb _ _ g0) refl);
  rejected_at_the_limit = follows _ _ (fine _ (full_counted h hh) hk refl) (rw (full_stays h) refl);
  told_to_wait_under_invalid = follows _ _ (fine _ hh hk refl) refl;
  new_capabilities_in_spr = follows _ _ (fine _ hh hk refl) refl;
  new_capabilities_in_epr = follows _ _ (fine _ hh hk refl) refl;
}

pub reset_flows : (c : Contract) (h k : Counter) (d v b : Bool) (u : DataRole) (g : Setting) (m : Mode) (q : PowerSource) (e w : ℕ)
    → counted h ≡ true → counted k ≡ true → ResetFlows c h k d v b u g m q e w
unfolding lines_past taken tell await_of dispatched control extended_control extended_type epr_mode epr_action increment target change_allowed changed
    allowed_target re_entry
    disabled_failed sink_cap_failed get_failed swap_type swap_failed uncreatable
reset_flows c h k d v b u g m q e w hh hk = record {
  signalled = λ g0. follows _ _ (fine _ hh hk refl) (rw (lt-ltb _ _ g0) refl);
  not_signalled = λ g0. follows _ _ (fine _ hh hk refl) (rw (lt-ltb _ _ g0) refl);
  unresponsive = follows _ _ (fine _ (full_counted h hh) hk refl) (rw (full_stays h) refl);
  vconn_not_off = λ g0. follows _ _ (fine _ hh hk refl) (rw (lt-ltb _ _ g0) refl);
  hard_reset_fails = λ g0. follows _ _ (fine _ hh hk refl) (rw (lt-ltb _ _ g0) refl);
  vconn_not_on = λ g0. follows _ _ (fine _ hh hk refl) (rw (lt-ltb _ _ g0) refl);
  received = follows _ _ (fine _ hh hk refl) refl;
  soft_reset_sent_in_spr = follows _ _ (fine _ hh hk refl) refl;
  soft_reset_answered_in_spr = follows _ _ (fine _ hh hk refl) refl;
  soft_reset_sent_in_epr = follows _ _ (fine _ hh hk refl) refl;
  soft_reset_answered_in_epr = follows _ _ (fine _ hh hk refl) refl;
  soft_reset_not_sent = follows _ _ (fine _ hh hk refl) refl;
  soft_reset_not_accepted = follows _ _ (fine _ hh hk refl) refl;
  soft_reset_not_answered = follows _ _ (fine _ hh hk refl) refl;
  discovery_in_spr = λ g0. follows _ _ (fine _ hh hk refl) (rw (lt-ltb _ _ g0) refl);
  discovery_in_epr = λ g0. follows _ _ (fine _ hh hk refl) (rw (lt-ltb _ _ g0) refl);
  disabled_deaf_to_data = follows _ _ (fine _ hh (full_counted k hk) refl) (rw (full_stays k) refl);
  disabled_deaf_to_the_rest = follows _ _ (fine _ hh (full_counted k hk) refl) (rw (full_stays k) refl);
  disabled_deaf_to_errors = follows _ _ (fine _ hh (full_counted k hk) refl) (rw (full_stays k) refl);
  disabled_left = λ g0. follows _ _ (fine _ hh (full_counted k hk) refl) (rw (full_stays k, lt-ltb _ _ g0) refl);
  disabled_and_unresponsive = follows _ _ (fine _ (full_counted h hh) (full_counted k hk) refl) (rw (full_stays k, full_stays h) refl);
  no_safe_supply = follows _ _ (fine _ hh (full_counted k hk) refl) (rw (full_stays k) refl);
  no_safe_request = follows _ _ (fine _ hh (full_counted k hk) refl) (rw (full_stays k) refl);
}

pub capability_flows : (c : Contract) (h k : Counter) (d v b : Bool) (u : DataRole) (g : Setting) (m : Mode) (e : ℕ)
    → counted h ≡ true → counted k ≡ true → CapabilityFlows c h k d v b u g m e
unfolding lines_past taken tell await_of dispatched control extended_control extended_type epr_mode epr_action increment target change_allowed changed
    allowed_target re_entry
    disabled_failed sink_cap_failed get_failed swap_type swap_failed uncreatable
capability_flows c h k d v b u g m e hh hk = record {
  sink_cap_got_in_spr = follows _ _ (fine _ hh hk refl) refl;
  sink_cap_bad_in_spr = follows _ _ (fine _ hh hk refl) refl;
  sink_cap_timed_out_in_spr = follows _ _ (fine _ hh hk refl) refl;
  sink_cap_fails_in_spr = λ g0. follows _ _ (fine _ hh hk refl) (rw (g0) refl);
  sink_cap_not_asked_in_spr = follows _ _ (fine _ hh hk refl) refl;
  sink_cap_got_in_epr = follows _ _ (fine _ hh hk refl) refl;
  sink_cap_bad_in_epr = follows _ _ (fine _ hh hk refl) refl;
  sink_cap_timed_out_in_epr = follows _ _ (fine _ hh hk refl) refl;
  sink_cap_fails_in_epr = λ g0. follows _ _ (fine _ hh hk refl) (rw (g0) refl);
  sink_cap_not_asked_in_epr = follows _ _ (fine _ hh hk refl) refl;
  spr_source_cap_got = follows _ _ (fine _ hh hk refl) refl;
  spr_source_cap_timed_out = follows _ _ (fine _ hh hk refl) refl;
  spr_source_cap_fails = λ g0. follows _ _ (fine _ hh hk refl) (rw (g0) refl);
  epr_source_cap_got = follows _ _ (fine _ hh hk refl) refl;
  epr_source_cap_timed_out = follows _ _ (fine _ hh hk refl) refl;
  epr_source_cap_fails = λ g0. follows _ _ (fine _ hh hk refl) (rw (g0) refl);
  spr_sink_cap_given = follows _ _ (fine _ hh hk refl) refl;
  spr_sink_cap_not_given = follows _ _ (fine _ hh hk refl) refl;
  epr_sink_cap_given = follows _ _ (fine _ hh hk refl) refl;
  epr_sink_cap_not_given = follows _ _ (fine _ hh hk refl) refl;
  given_in_spr = follows _ _ (fine _ hh hk refl) refl;
  given_in_epr = follows _ _ (fine _ hh hk refl) refl;
  not_given_in_spr = follows _ _ (fine _ hh hk refl) refl;
  not_given_in_epr = follows _ _ (fine _ hh hk refl) refl;
  epr_given_as_asked = follows _ _ (fine _ hh hk refl) refl;
  spr_given_as_asked = follows _ _ (fine _ hh hk refl) refl;
  epr_not_given_as_asked = follows _ _ (fine _ hh hk refl) refl;
  spr_not_given_as_asked = follows _ _ (fine _ hh hk refl) refl;
  keep_alive_not_answered = follows _ _ (fine _ hh hk refl) refl;
  not_supported_sent = follows _ _ (fine _ hh hk refl) refl;
  not_supported_not_sent = follows _ _ (fine _ hh hk refl) refl;
  not_supported_received = follows _ _ (fine _ hh hk refl) refl;
}

pub swap_flows : (c : Contract) (h k : Counter) (d v b : Bool) (u : DataRole) (g : Setting) (m : Mode) (q : PowerSource) (e w : ℕ)
    → counted h ≡ true → counted k ≡ true → SwapFlows c h k d v b u g m q e w
unfolding lines_past taken tell await_of dispatched control extended_control extended_type epr_mode epr_action increment target change_allowed changed
    allowed_target re_entry
    disabled_failed sink_cap_failed get_failed swap_type swap_failed uncreatable
swap_flows c h k d v b u g m q e w hh hk = record {
  asked_of_the_source = follows _ _ (fine _ hh hk refl) refl;
  asked_of_the_other = follows _ _ (fine _ hh hk refl) refl;
  asked_and_rejected = follows _ _ (fine _ hh hk refl) refl;
  accept_not_sent = follows _ _ (fine _ hh hk refl) refl;
  reject_not_sent = follows _ _ (fine _ hh hk refl) refl;
  no_ps_rdy = follows _ _ (fine _ hh hk refl) refl;
  not_turned_off = follows _ _ (fine _ hh hk refl) refl;
  not_turned_on = follows _ _ (fine _ hh hk refl) refl;
  ps_rdy_not_sent = follows _ _ (fine _ hh hk refl) refl;
  we_ask_as_the_source = follows _ _ (fine _ hh hk refl) refl;
  we_ask_as_the_other = follows _ _ (fine _ hh hk refl) refl;
  we_ask_rejected = follows _ _ (fine _ hh hk refl) refl;
  we_ask_told_to_wait = follows _ _ (fine _ hh hk refl) refl;
  we_ask_not_supported = follows _ _ (fine _ hh hk refl) refl;
  we_ask_timed_out = follows _ _ (fine _ hh hk refl) refl;
  we_ask_answered_by_ps_rdy = follows _ _ (fine _ hh hk refl) refl;
  we_ask_answered_by_soft_reset = follows _ _ (fine _ hh hk refl) refl;
  we_ask_answered_by_a_request = follows _ _ (fine _ hh hk refl) refl;
  we_ask_answered_by_an_epr_request = follows _ _ (fine _ hh hk refl) refl;
  we_ask_answered_by_epr_mode = follows _ _ (fine _ hh hk refl) refl;
  we_ask_answered_by_extended_control = follows _ _ (fine _ hh hk refl) refl;
  we_ask_answered_by_another = follows _ _ (fine _ hh hk refl) refl;
  we_ask_answered_by_sink_capabilities = follows _ _ (fine _ hh hk refl) refl;
  we_ask_answered_by_epr_sink_capabilities = follows _ _ (fine _ hh hk refl) refl;
  we_ask_fails = λ g0. follows _ _ (fine _ hh hk refl) (rw (g0) refl);
  we_ask_not_sent = follows _ _ (fine _ hh hk refl) refl;
  epr_ask_as_the_source = follows _ _ (fine _ hh hk refl) refl;
  epr_ask_as_the_other = follows _ _ (fine _ hh hk refl) refl;
  epr_ask_rejected = follows _ _ (fine _ hh hk refl) refl;
  epr_ask_told_to_wait = follows _ _ (fine _ hh hk refl) refl;
  epr_ask_not_supported = follows _ _ (fine _ hh hk refl) refl;
  epr_ask_timed_out = follows _ _ (fine _ hh hk refl) refl;
  epr_ask_answered_by_ps_rdy = follows _ _ (fine _ hh hk refl) refl;
  epr_ask_answered_by_soft_reset = follows _ _ (fine _ hh hk refl) refl;
  epr_ask_answered_by_a_request = follows _ _ (fine _ hh hk refl) refl;
  epr_ask_answered_by_an_epr_request = follows _ _ (fine _ hh hk refl) refl;
  epr_ask_answered_by_epr_mode = follows _ _ (fine _ hh hk refl) refl;
  epr_ask_answered_by_extended_control = follows _ _ (fine _ hh hk refl) refl;
  epr_ask_answered_by_another = follows _ _ (fine _ hh hk refl) refl;
  epr_ask_answered_by_sink_capabilities = follows _ _ (fine _ hh hk refl) refl;
  epr_ask_answered_by_epr_sink_capabilities = follows _ _ (fine _ hh hk refl) refl;
  epr_ask_fails = λ g0. follows _ _ (fine _ hh hk refl) (rw (g0) refl);
  epr_ask_not_sent = follows _ _ (fine _ hh hk refl) refl;
  epr_rejects = follows _ _ (fine _ hh hk refl) refl;
  epr_accepts_as_the_source = follows _ _ (fine _ hh hk refl) refl;
  epr_accepts_as_the_other = follows _ _ (fine _ hh hk refl) refl;
  forced = follows _ _ (fine _ hh hk refl) refl;
  not_forced = follows _ _ (fine _ hh hk refl) refl;
  epr_forced = follows _ _ (fine _ hh hk refl) refl;
  epr_not_forced = follows _ _ (fine _ hh hk refl) refl;
  force_vconn_awaits = refl;
  fast_swap = follows _ _ (fine _ hh hk refl) refl;
  fast_swap_not_signalled = λ g0. follows _ _ (fine _ hh hk refl) (rw (lt-ltb _ _ g0) refl);
  fast_swap_not_signalled_at_the_limit = follows _ _ (fine _ (full_counted h hh) hk refl) (rw (full_stays h) refl);
  fast_accept_not_sent = λ g0. follows _ _ (fine _ hh hk refl) (rw (lt-ltb _ _ g0) refl);
  fast_ps_rdy_not_sent = follows _ _ (fine _ hh hk refl) refl;
  fast_ps_rdy_not_received = follows _ _ (fine _ hh hk refl) refl;
}

pub data_swap_flows : (c : Contract) (h k : Counter) (d v b : Bool) (u : DataRole) (g : Setting) (m : Mode) (q : PowerSource) (e w : ℕ)
    → counted h ≡ true → counted k ≡ true → DataSwapFlows c h k d v b u g m q e w
unfolding lines_past taken tell await_of dispatched control extended_control extended_type epr_mode epr_action increment target change_allowed changed
    allowed_target re_entry
    disabled_failed sink_cap_failed get_failed role_answer_type swap_type swap_failed uncreatable
data_swap_flows c h k d v b u g m q e w hh hk = record {
  asked_as_dfp = follows _ _ (fine _ hh hk refl) refl;
  asked_as_ufp = follows _ _ (fine _ hh hk refl) refl;
  asked_to_swap_and_rejected = follows _ _ (fine _ hh hk refl) refl;
  swap_accept_not_sent = follows _ _ (fine _ hh hk refl) refl;
  swap_reject_not_sent = follows _ _ (fine _ hh hk refl) refl;
  only_yes_or_no = follows _ _ (fine _ hh hk refl) refl;
  only_done = follows _ _ (fine _ hh hk refl) refl;
  we_swap_as_dfp = follows _ _ (fine _ hh hk refl) refl;
  we_swap_as_ufp = follows _ _ (fine _ hh hk refl) refl;
  we_swap_rejected = follows _ _ (fine _ hh hk refl) refl;
  we_swap_told_to_wait = follows _ _ (fine _ hh hk refl) refl;
  we_swap_timed_out = follows _ _ (fine _ hh hk refl) refl;
  we_swap_fails = λ g0. follows _ _ (fine _ hh hk refl) (rw (g0) refl);
  dr_swap_not_sent = follows _ _ (fine _ hh hk refl) refl;
  we_swap_answered_by_another = follows _ _ (fine _ hh hk refl) refl;
  two_swaps = follows _ _ (fine _ hh hk refl) refl;
  accept_not_sent_swaps_nothing = follows _ _ (fine _ hh hk refl) refl;
  refused_swap_swaps_nothing = follows _ _ (fine _ hh hk refl) refl;
  startup_keeps_the_role = follows _ _ (fine _ hh hk refl) refl;
}

pub re_entry_flows : (c : Contract) (h k : Counter) (d v b : Bool) (u : DataRole) (g : Setting) (m : Mode) (q : PowerSource)
    → counted h ≡ true → counted k ≡ true → ReEntryFlows c h k d v b u g m q
unfolding lines_past taken tell await_of dispatched control extended_control extended_type epr_mode epr_action increment target change_allowed changed
    allowed_target re_entry
    disabled_failed sink_cap_failed get_failed swap_type swap_failed uncreatable
re_entry_flows c h k d v b u g m q hh hk = record {
  stopped_in_spr_to_0 = λ g0. follows _ _ (fine _ hh hk refl) (rw (lt-ltb _ _ g0) refl);
  stopped_in_spr_to_1 = follows _ _ (fine _ hh hk refl) refl;
  stopped_in_spr_to_2 = follows _ _ (fine _ hh hk refl) refl;
  stopped_in_spr_to_3 = λ g0. follows _ _ (fine _ hh hk refl) (rw (lt-ltb _ _ g0) refl);
  stopped_in_spr_to_4 = follows _ _ (fine _ hh hk refl) refl;
  stopped_in_spr_to_5 = follows _ _ (fine _ hh hk refl) refl;
  stopped_in_spr_to_6 = follows _ _ (fine _ hh hk refl) refl;
  stopped_in_spr_to_7 = follows _ _ (fine _ hh hk refl) refl;
  stopped_in_spr_to_8 = follows _ _ (fine _ hh hk refl) refl;
  stopped_in_spr_to_9 = follows _ _ (fine _ hh hk refl) refl;
  stopped_in_spr_refused = follows _ _ (fine _ hh hk refl) refl;
  stopped_in_epr_to_0 = λ g0. follows _ _ (fine _ hh hk refl) (rw (lt-ltb _ _ g0) refl);
  stopped_in_epr_to_1 = follows _ _ (fine _ hh hk refl) refl;
  stopped_in_epr_to_2 = follows _ _ (fine _ hh hk refl) refl;
  stopped_in_epr_to_3 = λ g0. follows _ _ (fine _ hh hk refl) (rw (lt-ltb _ _ g0) refl);
  stopped_in_epr_to_4 = follows _ _ (fine _ hh hk refl) refl;
  stopped_in_epr_to_5 = follows _ _ (fine _ hh hk refl) refl;
  stopped_in_epr_to_6 = follows _ _ (fine _ hh hk refl) refl;
  stopped_in_epr_to_7 = follows _ _ (fine _ hh hk refl) refl;
  stopped_in_epr_to_8 = follows _ _ (fine _ hh hk refl) refl;
  stopped_in_epr_to_9 = follows _ _ (fine _ hh hk refl) refl;
  stopped_in_epr_refused = follows _ _ (fine _ hh hk refl) refl;
  kept_in_spr_to_0 = λ g0. follows _ _ (fine _ hh hk refl) (rw (lt-ltb _ _ g0) refl);
  kept_in_spr_to_1 = follows _ _ (fine _ hh hk refl) refl;
  kept_in_spr_to_2 = follows _ _ (fine _ hh hk refl) refl;
  kept_in_spr_to_3 = λ g0. follows _ _ (fine _ hh hk refl) (rw (lt-ltb _ _ g0) refl);
  kept_in_spr_to_4 = follows _ _ (fine _ hh hk refl) refl;
  kept_in_spr_to_5 = follows _ _ (fine _ hh hk refl) refl;
  kept_in_spr_to_6 = follows _ _ (fine _ hh hk refl) refl;
  kept_in_spr_to_7 = follows _ _ (fine _ hh hk refl) refl;
  kept_in_spr_to_8 = follows _ _ (fine _ hh hk refl) refl;
  kept_in_spr_to_9 = follows _ _ (fine _ hh hk refl) refl;
  kept_in_spr_to_10 = follows _ _ (fine _ hh hk refl) refl;
  kept_in_spr_to_11 = follows _ _ (fine _ hh hk refl) refl;
  kept_in_epr_to_0 = λ g0. follows _ _ (fine _ hh hk refl) (rw (lt-ltb _ _ g0) refl);
  kept_in_epr_to_1 = follows _ _ (fine _ hh hk refl) refl;
  kept_in_epr_to_2 = follows _ _ (fine _ hh hk refl) refl;
  kept_in_epr_to_3 = λ g0. follows _ _ (fine _ hh hk refl) (rw (lt-ltb _ _ g0) refl);
  kept_in_epr_to_4 = follows _ _ (fine _ hh hk refl) refl;
  kept_in_epr_to_5 = follows _ _ (fine _ hh hk refl) refl;
  kept_in_epr_to_6 = follows _ _ (fine _ hh hk refl) refl;
  kept_in_epr_to_7 = follows _ _ (fine _ hh hk refl) refl;
  kept_in_epr_to_8 = follows _ _ (fine _ hh hk refl) refl;
  kept_in_epr_to_9 = follows _ _ (fine _ hh hk refl) refl;
  kept_in_epr_to_10 = follows _ _ (fine _ hh hk refl) refl;
  kept_in_epr_to_11 = follows _ _ (fine _ hh hk refl) refl;
  changed_to_spr_to_0 = λ g0. follows _ _ (fine _ hh hk refl) (rw (lt-ltb _ _ g0) refl);
  changed_to_spr_to_1 = follows _ _ (fine _ hh hk refl) refl;
  changed_to_spr_to_2 = follows _ _ (fine _ hh hk refl) refl;
  changed_to_spr_to_3 = λ g0. follows _ _ (fine _ hh hk refl) (rw (lt-ltb _ _ g0) refl);
  changed_to_spr_to_4 = follows _ _ (fine _ hh hk refl) refl;
  changed_to_spr_to_5 = follows _ _ (fine _ hh hk refl) refl;
  changed_to_spr_to_6 = follows _ _ (fine _ hh hk refl) refl;
  changed_to_spr_to_7 = follows _ _ (fine _ hh hk refl) refl;
  changed_to_spr_to_8 = follows _ _ (fine _ hh hk refl) refl;
  changed_to_spr_to_9 = follows _ _ (fine _ hh hk refl) refl;
  changed_to_spr_to_10 = follows _ _ (fine _ hh hk refl) refl;
  changed_to_spr_to_11 = follows _ _ (fine _ hh hk refl) refl;
  changed_to_epr_to_0 = λ g0. follows _ _ (fine _ hh hk refl) (rw (lt-ltb _ _ g0) refl);
  changed_to_epr_to_1 = follows _ _ (fine _ hh hk refl) refl;
  changed_to_epr_to_2 = follows _ _ (fine _ hh hk refl) refl;
  changed_to_epr_to_3 = λ g0. follows _ _ (fine _ hh hk refl) (rw (lt-ltb _ _ g0) refl);
  changed_to_epr_to_4 = follows _ _ (fine _ hh hk refl) refl;
  changed_to_epr_to_5 = follows _ _ (fine _ hh hk refl) refl;
  changed_to_epr_to_6 = follows _ _ (fine _ hh hk refl) refl;
  changed_to_epr_to_7 = follows _ _ (fine _ hh hk refl) refl;
  changed_to_epr_to_8 = follows _ _ (fine _ hh hk refl) refl;
  changed_to_epr_to_9 = follows _ _ (fine _ hh hk refl) refl;
  changed_to_epr_to_10 = follows _ _ (fine _ hh hk refl) refl;
  changed_to_epr_to_11 = follows _ _ (fine _ hh hk refl) refl;
  handed_over_refused = follows _ _ (fine _ hh hk refl) refl;
  waiting_refused = follows _ _ (fine _ hh hk refl) refl;
  negotiating_refused = follows _ _ (fine _ hh hk refl) refl;
}

pub vconn_flows : (c : Contract) (h k : Counter) (d v b : Bool) (u : DataRole) (m : Mode) (e : ℕ)
    → counted h ≡ true → counted k ≡ true → VconnFlows c h k d v b u m e
unfolding lines_past taken tell await_of dispatched control extended_control extended_type epr_mode epr_action increment target change_allowed changed
    allowed_target re_entry
    disabled_failed sink_cap_failed get_failed swap_type swap_failed uncreatable
vconn_flows c h k d v b u m e hh hk = record {
  asked_thrice_as_the_source = follows _ _ (fine _ hh hk refl) refl;
  asked_thrice_as_the_other = follows _ _ (fine _ hh hk refl) refl;
  crate_asked_twice_as_the_source = follows _ _ (fine _ hh hk refl) refl;
  crate_asked_twice_as_the_other = follows _ _ (fine _ hh hk refl) refl;
  we_ask_twice_as_the_source = follows _ _ (fine _ hh hk refl) refl;
  we_ask_twice_as_the_other = follows _ _ (fine _ hh hk refl) refl;
  crate_we_ask_twice_as_the_source = follows _ _ (fine _ hh hk refl) refl;
  crate_we_ask_twice_as_the_other = follows _ _ (fine _ hh hk refl) refl;
  epr_asks_twice_as_the_source = follows _ _ (fine _ hh hk refl) refl;
  epr_asks_twice_as_the_other = follows _ _ (fine _ hh hk refl) refl;
  crate_epr_asks_twice_as_the_source = follows _ _ (fine _ hh hk refl) refl;
  crate_epr_asks_twice_as_the_other = follows _ _ (fine _ hh hk refl) refl;
  on_before_ps_rdy = follows _ _ (fine _ hh hk refl) refl;
  nothing_before_the_drive = follows _ _ (fine _ hh hk refl) refl;
  rejected_writes_nothing = follows _ _ (fine _ hh hk refl) refl;
  forced_is_remembered = follows _ _ (fine _ hh hk refl) refl;
  epr_forced_is_remembered = follows _ _ (fine _ hh hk refl) refl;
  crate_forced_is_forgotten = follows _ _ (fine _ hh hk refl) refl;
  startup_restores_the_source = follows _ _ (fine _ hh hk refl) refl;
  startup_restores_the_other = follows _ _ (fine _ hh hk refl) refl;
  crate_startup_restores_nothing_as_the_source = follows _ _ (fine _ hh hk refl) refl;
  crate_startup_restores_nothing_as_the_other = follows _ _ (fine _ hh hk refl) refl;
  hard_reset_restores_the_source = follows _ _ (fine _ hh hk refl) refl;
  hard_reset_restores_the_other = follows _ _ (fine _ hh hk refl) refl;
  soft_reset_restores_nothing = follows _ _ (fine _ hh hk refl) refl;
}
