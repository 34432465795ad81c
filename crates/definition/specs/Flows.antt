-- The flows: what the listing shows, line by line, of every way through the states, by the numbers of document 01. A second statement of the
-- states, written from the paper and beside the Rust; proofs/Flows.antt shows that the definition agrees. Each flow holds for all values that
-- the table leaves open: a contract c, a hard count h and a capabilities count k within their limits, dual_role d, vconn_source v and b, its value at
-- creation, a data role u, a setting g, a mode m, a request q, an error e, a word w. Assumes nothing.
use Rattle.std.specs.Prelude.{Option, None, Some, ℕ, ◌+◌, ◌*◌, ◌<◌, ◌≡◌, Bool, true, false, List, [], ◌∷◌}
use Rattle.definition.specs.Types.{Action, Answer, Call, CapabilityResponse, Contract, Counter, Created, DataRole}
use Rattle.definition.specs.Types.{Event}
use Rattle.definition.specs.Types.{Kind}
use Rattle.definition.specs.Types.{Handover, Message, Mode, Negotiation, Outcome, Place, PowerSource, Record}
use Rattle.definition.specs.Types.{Setting, Settings, State, Step, Timeout}
use Rattle.definition.specs.Actions.{pps, pps_number, mode_number}
use Rattle.definition.specs.Engine.{take, create}
use Rattle.definition.specs.Paper.{letter, answer_number}

-- A line: the answer's letter, as its byte, and number, the contract, both counts with their limits, and both places of actions
pub data Shown : Type 0 where
  shown : ℕ → ℕ → Contract → Counter → Counter → List Action → Shown
  R : ℕ → Shown

abbrev line_of : Answer → Record → List Action → Shown
line_of a r actions = shown (letter a) (answer_number a) r.contract r.hard_reset_counter r.caps_counter actions

abbrev pub told : Answer → Record → List Action → Shown
told Answer.Waiting r actions = line_of Answer.Waiting r actions
told (Answer.Stopped e) r actions = line_of (Answer.Stopped e) r actions
told (Answer.Finished f) r actions = line_of (Answer.Finished f) r actions
told (Answer.HandedOver x) r actions = line_of (Answer.HandedOver x) r actions
told (Answer.Refused n) r actions = R n

abbrev pub line : Step → Shown
line s = told s.answer s.«record» s.actions

unfoldable pub lines : Record → List Call → List Shown
lines r [] = []
lines r (c ∷ cs) = line (take r c) ∷ lines (take r c).«record» cs

-- From its creation on
abbrev pub made_lines : Option Record → Created → List Call → List Shown
made_lines None x cs = R (answer_number x.answer) ∷ []
made_lines (Some r) x cs = told x.answer r x.actions ∷ lines r cs

-- A flow: a call, what the listing then shows, the next call
infixr 5 ◌⟶◌⨾◌
pub data Flow : Type 0 where
  end : Flow
  ◌⟶◌⨾◌ : Call → Shown → Flow → Flow

abbrev pub calls : Flow → List Call
calls end = []
calls (c ⟶ s ⨾ f) = c ∷ calls f

abbrev pub shows : Flow → List Shown
shows end = []
shows (c ⟶ s ⨾ f) = s ∷ shows f

unfoldable pub Follows : Record → Flow → Type 0
Follows r f = lines r (calls f) ≡ shows f

unfoldable pub Begins : Settings → Shown → Flow → Type 0
Begins s first f = made_lines (create s).«record» (create s) (calls f) ≡ first ∷ shows f

-- Actions, "written number.argument", and those that carry a request
infix 60 ◌·◌
abbrev pub ◌·◌ : ℕ → ℕ → Action
◌·◌ n a = record { number = n; argument = a; request = None }

infix 60 ◌on◌
abbrev pub ◌on◌ : ℕ → PowerSource → Action
◌on◌ n q = record { number = n; argument = 0; request = Some q }

-- Lines: W with one action or with two, S, F and H with none
abbrev pub W : Contract → Counter → Counter → Action → Shown
W c h k a = shown 87 0 c h k (a ∷ (0 · 0) ∷ [])

abbrev pub WW : Contract → Counter → Counter → Action → Action → Shown
WW c h k a b = shown 87 0 c h k (a ∷ b ∷ [])

abbrev pub S : ℕ → Contract → Counter → Counter → Shown
S e c h k = shown 83 e c h k ((0 · 0) ∷ (0 · 0) ∷ [])

abbrev pub F : ℕ → Contract → Counter → Counter → Shown
F n c h k = shown 70 n c h k ((0 · 0) ∷ (0 · 0) ∷ [])

abbrev pub H : ℕ → Contract → Counter → Counter → Shown
H n c h k = shown 72 n c h k ((0 · 0) ∷ (0 · 0) ∷ [])

-- Contracts by their letters
abbrev pub D : Contract
D = Contract.Safe5V

abbrev pub I : Contract
I = Contract.Implicit

abbrev pub T : Contract
T = Contract.TransitionToExplicit

abbrev pub E : PowerSource → Contract
E = Contract.Explicit

abbrev pub N : Contract
N = Contract.Invalid

-- Requests of kinds 0 to 5
abbrev pub fixed : ℕ → PowerSource
fixed w = PowerSource.FixedVariableSupply (record { 0 = w })

abbrev pub battery : ℕ → PowerSource
battery w = PowerSource.Battery (record { 0 = w })

abbrev pub programmable : ℕ → PowerSource
programmable w = PowerSource.Pps (record { 0 = w })

abbrev pub adjustable : ℕ → PowerSource
adjustable w = PowerSource.Avs (record { 0 = w })

abbrev pub unknown : ℕ → PowerSource
unknown w = PowerSource.Unknown (record { 0 = w })

abbrev pub epr : ℕ → ℕ → PowerSource
epr w x = PowerSource.EprRequest (record { rdo = w; pdo = x })

-- Counts: none, one more, at the limit
abbrev pub zero : Counter → Counter
zero n = record { value = 0; max_value = n.max_value }

abbrev pub more : Counter → Counter
more n = record { value = n.value + 1; max_value = n.max_value }

abbrev pub full : Counter → Counter
full n = record { value = n.max_value; max_value = n.max_value }

-- A limit of 0, which no record has
abbrev pub nothing : Counter
nothing = record { value = 0; max_value = 0 }

abbrev pub Below : Counter → Type 0
Below n = n.value < n.max_value

-- Calls, as a trace has them
abbrev pub done : Call
done = Call.Outcome Outcome.Done

abbrev pub failed : ℕ → Call
failed e = Call.Outcome (Outcome.Failed e)

abbrev pub dpm_failed : Call
dpm_failed = Call.Outcome Outcome.DpmFailed

abbrev pub no_safe : Call
no_safe = Call.Outcome Outcome.NoSafe

abbrev message : Message → Call
message m = Call.Outcome (Outcome.Message m)

abbrev pub request : PowerSource → Call
request q = message (Message.Request (Some q))

abbrev pub bad_request : Call
bad_request = message (Message.Request None)

abbrev pub epr_request : PowerSource → Call
epr_request q = message (Message.EprRequest (Some q))

abbrev pub bad_epr_request : Call
bad_epr_request = message (Message.EprRequest None)

abbrev pub epr_mode : ℕ → Call
epr_mode w = message (Message.EprMode (Some w))

abbrev pub bad_epr_mode : Call
bad_epr_mode = message (Message.EprMode None)

abbrev pub control : ℕ → Call
control t = message (Message.Control t)

abbrev pub extended : ℕ → Call
extended t = message (Message.ExtendedControl (Some t))

abbrev pub bad_extended : Call
bad_extended = message (Message.ExtendedControl None)

abbrev pub other : Call
other = message Message.Other

abbrev pub sink_capabilities : Bool → Call
sink_capabilities good = message (Message.SinkCapabilities good)

abbrev pub epr_sink_capabilities : Bool → Call
epr_sink_capabilities good = message (Message.EprSinkCapabilities good)

abbrev pub lookup : Option Kind → Call
lookup f = Call.Outcome (Outcome.Lookup f)

abbrev pub accept : Call
accept = Call.Outcome (Outcome.Evaluation CapabilityResponse.Accept)

abbrev pub reject : Call
reject = Call.Outcome (Outcome.Evaluation CapabilityResponse.Reject)

abbrev pub wait : Call
wait = Call.Outcome (Outcome.Evaluation CapabilityResponse.Wait)

abbrev pub yes : Call
yes = Call.Outcome (Outcome.YesNo true)

abbrev pub no : Call
no = Call.Outcome (Outcome.YesNo false)

abbrev pub event : Event → Call
event x = Call.Outcome (Outcome.Event x)

abbrev pub timeout : Timeout → Call
timeout x = Call.Outcome (Outcome.Timeout x)

abbrev pub re_entry : ℕ → ℕ → Call
re_entry target change = Call.ReEntry target change

-- Records where flows begin
abbrev pub standing_at : Place → Mode → Contract → Counter → Counter → Bool → Bool → Bool → DataRole → Setting → Record
standing_at p m c h k d v b u g = record {
  place = p;
  contract = c;
  hard_reset_counter = h;
  caps_counter = k;
  mode = m;
  data_role = u;
  vconn_source = v;
  port = record { dual_role = d; vconn_source = b; setting = g };
}

abbrev pub ready : Mode → Contract → Counter → Counter → Bool → Bool → Bool → DataRole → Setting → Record
ready = standing_at (Place.Waiting State.Ready)

abbrev pub stopped : Mode → Contract → Counter → Counter → Bool → Bool → Bool → DataRole → Setting → Record
stopped = standing_at (Place.Stopped 3)

abbrev pub handed_over : Mode → Contract → Counter → Counter → Bool → Bool → Bool → DataRole → Setting → Record
handed_over = standing_at (Place.HandedOver Handover.EprEntry)

abbrev pub evaluating : PowerSource → Mode → Contract → Counter → Counter → Bool → Bool → Bool → DataRole → Setting → Record
evaluating q = standing_at (Place.Negotiating Negotiation.Evaluate q)

abbrev pub looking_up : PowerSource → Mode → Contract → Counter → Counter → Bool → Bool → Bool → DataRole → Setting → Record
looking_up q = standing_at (Place.Negotiating Negotiation.Lookup q)

abbrev pub settings : Bool → Bool → Bool → Setting → Counter → Counter → Settings
settings d swapped v g h k = record {
  port = record { dual_role = d; vconn_source = v; setting = g };
  role_swapped = swapped;
  hard_limit = h.max_value;
  caps_limit = k.max_value;
}

-- Back in Ready under contract c: its argument, which the first flows below have by number for every contract and mode
abbrev pub in_ready : Mode → Contract → Counter → Counter → Shown
in_ready m c h k = W c h k (11 · (pps_number (pps c) + 2 * mode_number m))
