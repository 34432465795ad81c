-- What the promises settle: two results that one allows are equal, and the wrong engines are excluded. Assumes nothing.
use Rattle.std.specs.Prelude.{None}
use Prim.Native.Nat.{ℕ, ◌<◌}
use mathlib.Core.Path.{◌≡◌, refl, ap, sym, ◌∙◌}
use mathlib.Core.List.{[], ◌∷◌}
use mathlib.Core.Bool.{Bool, false}
use native.Mathlib.Omega.{arith}
use lib.Dec.{lit≤}
use borrow.Author.Tests.{eq-eqb}
use Rattle.request.specs.Requests.{same}
use Rattle.definition.specs.Types.{Setting, Settings, Call, Record, Place, State, Negotiation, PowerSource, Contract, DataRole, Mode}
use Rattle.definition.specs.Types.{Outcome, Timeout, Step, Created, Answer}
use Rattle.definition.specs.Types.{Change, Move, Onward, Finish, Message}
use Rattle.definition.specs.Next.{Next, to, misfit, mode, data_role_to, vconn_source_to}
use Rattle.definition.specs.Moves.{next, onward}
use Rattle.definition.specs.Actions.{action, action_on}
use Rattle.definition.specs.Messages.{dispatched}
use Rattle.definition.specs.States.{await_of}
use Rattle.definition.specs.Refusals.{sound, counted, uncreatable}
use Rattle.definition.specs.Engine.{tell, create, created, step}
use Rattle.definition.specs.Paper.{refusal, letter, flags}
use Rattle.definition.specs.Marked.{ready, Shows, epr_mode_message}
use Rattle.definition.specs.Promised.{Promised, example, entry_0, request, accept, fixed, then}
use Rattle.definition.specs.Held.{Word, HeldSettings, HeldRecord, HeldOutcome}
use Rattle.definition.specs.Runs as runs
use Rattle.definition.specs.Runs.{Run, running, Calls, run}
use Rattle.definition.proofs.Marked.{marked_steps}
use Rattle.definition.proofs.Held.{step_held, begun_held}
use Rattle.definition.proofs.Runs.{the_run}

-- Two results that one promise allows are equal: where it fixes the result itself
pub unique : {A : Type 0} {x y z : A} → x ≡ z → y ≡ z → x ≡ y
unique h k = h ∙ sym k

-- and where it fixes what a `Move` says. VCONN that was driven leads to three places
back_driven : Bool → State → Move
back_driven v (State.Startup w) = Move.Misfit
back_driven v State.Discovery = Move.Misfit
back_driven v (State.SendCapabilities x) = Move.Misfit
back_driven v State.Ready = Move.ReadyAs (Change.VconnSource v)
back_driven v (State.Disabled w) = Move.Misfit
back_driven v (State.CapabilityResponse d) = Move.Misfit
back_driven v (State.HardReset w) = Move.Misfit
back_driven v State.HardResetReceived = Move.Misfit
back_driven v (State.TransitionToDefault w) = Move.Misfit
back_driven v (State.GetSinkCap w) = Move.Misfit
back_driven v State.WaitNewCapabilities = Move.Misfit
back_driven v State.EprKeepAlive = Move.Misfit
back_driven v (State.GiveSourceCap asked) = Move.Misfit
back_driven v (State.SendSoftReset x) = Move.Misfit
back_driven v State.SoftReset = Move.Misfit
back_driven v State.SendNotSupported = Move.Misfit
back_driven v State.NotSupportedReceived = Move.Misfit
back_driven v (State.DrpSwap s) = Move.Misfit
back_driven v (State.DrpGetSourceCap k w) = Move.Misfit
back_driven v (State.DrpGiveSinkCap k w) = Move.Misfit
back_driven v (State.VconnSwap source s) = Move.SendPsRdy source

back : Next → Move
back (to [] (Place.Waiting s)) = Move.To s
back (to [] (Place.Negotiating w q)) = Move.Negotiate q
back (to [] (Place.Stopped e)) = Move.Stop e
back (to [] (Place.HandedOver h)) = Move.HandOver h
back (to [] (Place.Finished f)) = Move.Finish f
back (to (mode m ∷ ws) p) = Move.Misfit
back (to (data_role_to d ∷ ws) p) = Move.ReadyAs (Change.DataRole d)
back (to (vconn_source_to v ∷ ws) (Place.Waiting s)) = back_driven v s
back (to (vconn_source_to v ∷ ws) (Place.Negotiating w q)) = Move.Misfit
back (to (vconn_source_to v ∷ ws) (Place.Stopped e)) = Move.Misfit
back (to (vconn_source_to v ∷ ws) (Place.HandedOver h)) = Move.DiscoverCable v
back (to (vconn_source_to v ∷ ws) (Place.Finished f)) = Move.Misfit
back misfit = Move.Misfit

back_next : (m : Move) → back (next m) ≡ m
unfolding back back_driven
back_next (Move.To s) = refl
back_next (Move.Negotiate (PowerSource.FixedVariableSupply w)) = refl
back_next (Move.Negotiate (PowerSource.Battery w)) = refl
back_next (Move.Negotiate (PowerSource.Pps w)) = refl
back_next (Move.Negotiate (PowerSource.Avs w)) = refl
back_next (Move.Negotiate (PowerSource.Unknown w)) = refl
back_next (Move.Negotiate (PowerSource.EprRequest w)) = refl
back_next (Move.ReadyAs (Change.DataRole d)) = refl
back_next (Move.ReadyAs (Change.VconnSource v)) = refl
back_next (Move.SendPsRdy source) = refl
back_next (Move.DiscoverCable v) = refl
back_next (Move.Stop e) = refl
back_next (Move.Finish f) = refl
back_next (Move.HandOver h) = refl
back_next Move.Misfit = refl

pub unique_move : (a b : Move) (n : Next) → next a ≡ n → next b ≡ n → a ≡ b
unique_move a b n h k = sym (back_next a) ∙ (ap back (h ∙ sym k) ∙ back_next b)

-- and where it fixes what an `Onward` says
back_onward : Next → Onward
back_onward (to v (Place.Waiting State.Ready)) = Onward.Ready
back_onward (to v (Place.Waiting (State.CapabilityResponse d))) = Onward.Deny d
back_onward (to v (Place.Waiting (State.Startup w))) = Onward.Misfit
back_onward (to v (Place.Waiting State.Discovery)) = Onward.Misfit
back_onward (to v (Place.Waiting (State.SendCapabilities x))) = Onward.Misfit
back_onward (to v (Place.Waiting (State.Disabled w))) = Onward.Misfit
back_onward (to v (Place.Waiting (State.HardReset w))) = Onward.Misfit
back_onward (to v (Place.Waiting State.HardResetReceived)) = Onward.Misfit
back_onward (to v (Place.Waiting (State.TransitionToDefault w))) = Onward.Misfit
back_onward (to v (Place.Waiting (State.GetSinkCap w))) = Onward.Misfit
back_onward (to v (Place.Waiting State.WaitNewCapabilities)) = Onward.Misfit
back_onward (to v (Place.Waiting State.EprKeepAlive)) = Onward.Misfit
back_onward (to v (Place.Waiting (State.GiveSourceCap asked))) = Onward.Misfit
back_onward (to v (Place.Waiting (State.SendSoftReset x))) = Onward.Misfit
back_onward (to v (Place.Waiting State.SoftReset)) = Onward.Misfit
back_onward (to v (Place.Waiting State.SendNotSupported)) = Onward.Misfit
back_onward (to v (Place.Waiting State.NotSupportedReceived)) = Onward.Misfit
back_onward (to v (Place.Waiting (State.DrpSwap s))) = Onward.Misfit
back_onward (to v (Place.Waiting (State.DrpGetSourceCap m w))) = Onward.Misfit
back_onward (to v (Place.Waiting (State.DrpGiveSinkCap m w))) = Onward.Misfit
back_onward (to v (Place.Waiting (State.VconnSwap source s))) = Onward.Misfit
back_onward (to v (Place.Negotiating Negotiation.Lookup q)) = Onward.Misfit
back_onward (to v (Place.Negotiating Negotiation.Evaluate q)) = Onward.Evaluate q
back_onward (to v (Place.Negotiating Negotiation.Accept q)) = Onward.Accept
back_onward (to v (Place.Negotiating Negotiation.Supply q)) = Onward.Supply
back_onward (to v (Place.Negotiating Negotiation.PsRdy q)) = Onward.PsRdy
back_onward (to v (Place.Stopped e)) = Onward.Stop e
back_onward (to v (Place.HandedOver h)) = Onward.Misfit
back_onward (to v (Place.Finished f)) = Onward.Finish f
back_onward misfit = Onward.Misfit

back_of : (q : PowerSource) (x : Onward) → back_onward (onward q x) ≡ x
unfolding back_onward
back_of q (Onward.Evaluate p) = refl
back_of q Onward.Accept = refl
back_of q (Onward.Deny d) = refl
back_of q Onward.Supply = refl
back_of q Onward.PsRdy = refl
back_of q Onward.Ready = refl
back_of q (Onward.Stop e) = refl
back_of q (Onward.Finish f) = refl
back_of q Onward.Misfit = refl

pub unique_onward : (q : PowerSource) (a b : Onward) (n : Next) → onward q a ≡ n → onward q b ≡ n → a ≡ b
unique_onward q a b n h k = sym (back_of q a) ∙ (ap back_onward (h ∙ sym k) ∙ back_of q b)

-- The listing of document 01: creation, and then its seven outcomes in order
abbrev after_3 : ℕ → Step
after_3 word = then step (then step (then step entry_0 Outcome.Done) Outcome.Done) (request word)

abbrev after_6 : ℕ → Step
after_6 word = then step (then step (then step (after_3 word) accept) Outcome.Done) Outcome.Done

-- "For flags 4, limits 2 and 50"
pub the_example : (flags example ≡ 4) × (example.hard_limit ≡ 2) × (example.caps_limit ≡ 50)
the_example = (refl, refl, refl)

pub created_waiting : create example ≡ created entry_0
unfolding create uncreatable
created_waiting = refl

-- Entry 0: W D 0 0 1.0 3.0
pub listed_0 : (entry_0.answer ≡ Answer.Waiting) × (entry_0.«record».contract ≡ Contract.Safe5V) ×
    (entry_0.«record».hard_reset_counter.value ≡ 0) × (entry_0.«record».caps_counter.value ≡ 0) ×
    (entry_0.actions ≡ action 1 0 ∷ action 3 0 ∷ [])
unfolding tell await_of
listed_0 = (refl, refl, refl, refl, refl)

pub record Listed (word : ℕ) : Type 0 where
  pub entry_1 : Shows (then step entry_0 Outcome.Done) Answer.Waiting Contract.Safe5V 0 0 (action 4 0)
  pub entry_2 : Shows (then step (then step entry_0 Outcome.Done) Outcome.Done) Answer.Waiting Contract.Safe5V 0 0 (action 5 0)
  pub entry_3 : Shows (after_3 word) Answer.Waiting Contract.Safe5V 0 0 (action_on 7 (fixed word))
  pub entry_4 : Shows (then step (after_3 word) accept) Answer.Waiting Contract.Safe5V 0 0 (action 8 3)
  pub entry_5 : Shows (then step (then step (after_3 word) accept) Outcome.Done) Answer.Waiting Contract.TransitionToExplicit 0 0 (action_on 9 (fixed word))
  pub entry_6 : Shows (after_6 word) Answer.Waiting (Contract.Explicit (fixed word)) 0 0 (action 8 6)
  pub entry_7 : Shows (then step (after_6 word) Outcome.Done) Answer.Waiting (Contract.Explicit (fixed word)) 0 0 (action 11 0)

pub listed : (word : ℕ) → Listed word
unfolding step sound counted same tell await_of dispatched
listed word = record {
  entry_1 = (refl, refl, refl, refl, refl);
  entry_2 = (refl, refl, refl, refl, refl);
  entry_3 = (refl, refl, refl, refl, refl);
  entry_4 = (refl, refl, refl, refl, refl);
  entry_5 = (refl, refl, refl, refl, refl);
  entry_6 = (refl, refl, refl, refl, refl);
  entry_7 = rw (eq-eqb word word refl) (refl, refl, refl, refl, refl);
}

contract_number : Contract → ℕ
contract_number Contract.Safe5V = 0
contract_number Contract.Implicit = 1
contract_number Contract.TransitionToExplicit = 2
contract_number (Contract.Explicit q) = 3
contract_number Contract.Invalid = 4

-- What is handed to the engines below is what the types hold
example_held : HeldSettings example
example_held = (omega arith, omega arith)

entry_0_held : HeldRecord entry_0.«record»
unfolding tell
entry_0_held = begun_held example example_held

third_held : HeldRecord (then step (then step entry_0 Outcome.Done) Outcome.Done).«record»
third_held = step_held _ Outcome.Done (step_held _ Outcome.Done entry_0_held tt) tt

zero_held : HeldOutcome (request 0)
zero_held = (omega arith, omega arith)

fifth_held : HeldRecord (then step (after_3 0) accept).«record»
fifth_held = step_held _ accept (step_held _ (request 0) third_held zero_held) tt

ready_held : (hard : ℕ) → hard < 3 → HeldRecord (ready Mode.Epr Contract.Safe5V hard 0 false false false DataRole.Dfp Setting.Crate)
ready_held hard h = record { place = tt; contract = tt; hard = (omega arith, omega arith); caps = (omega arith, omega arith) }

-- Creation and the first six calls of the listing; and where a run stands
pub to_entry_6 : (word : ℕ) → Word word → Calls
to_entry_6 word h =
    let to_2 : Calls = runs.then (runs.then (runs.create example example_held) (Call.Outcome Outcome.Done) tt) (Call.Outcome Outcome.Done) tt in
    let to_4 : Calls = runs.then (runs.then to_2 (Call.Outcome (request word)) (h, omega arith)) (Call.Outcome accept) tt in
    runs.then (runs.then to_4 (Call.Outcome Outcome.Done) tt) (Call.Outcome Outcome.Done) tt

pub Stands : Contract → Run → Type 0
Stands c runs.nothing = ⊥
Stands c (running r l) = r.contract ≡ c

-- The wrong engines of 'What the promises settle', each excluded by the steps that document 01 names
module _ (creates : Settings → Created) (steps : Record → Outcome → Step) (re_enters : Record → ℕ → ℕ → Step) (keeps : Promised creates steps re_enters) where
  -- "an engine that refuses everything (creation and step 1 of the listing)"
  pub no_refusing_create : ((s : Settings) → refusal (creates s).answer ≡ 7) → ⊥
  unfolding create uncreatable tell await_of
  no_refusing_create all =
      let z : ◌≡◌ {A = ℕ} 0 7 = ap (λ c. refusal c.answer) (sym (keeps.on_create example example_held)) ∙ all example in omega arith

  pub no_refusing_engine : ((r : Record) (o : Outcome) → refusal (steps r o).answer ≡ 0 → ⊥) → ⊥
  unfolding step sound counted tell await_of
  no_refusing_engine all =
      all entry_0.«record» Outcome.Done (ap (λ s. refusal s.answer) (keeps.on_step entry_0.«record» Outcome.Done entry_0_held tt))

  -- "one with a single answer (steps 3 and 5 of the listing)"
  pub no_single_answer : ((r r' : Record) (o o' : Outcome) → steps r o ≡ steps r' o') → ⊥
  unfolding step sound counted tell await_of dispatched contract_number
  no_single_answer all =
      let third : Record = (then step (then step entry_0 Outcome.Done) Outcome.Done).«record» in
      let fifth : Record = (then step (after_3 0) accept).«record» in
      let z : ◌≡◌ {A = ℕ} 0 2 = ap (λ s. contract_number s.«record».contract)
      (sym (keeps.on_step third (request 0) third_held zero_held) ∙ (all third fifth (request 0) Outcome.Done ∙
      keeps.on_step fifth Outcome.Done fifth_held tt)) in
      omega arith

  -- and no engine has one answer letter (marked steps 1 and 7)
  pub no_single_letter : ((r r' : Record) (o o' : Outcome) → letter (steps r o).answer ≡ letter (steps r' o').answer) → ⊥
  no_single_letter all =
      let one : Record = ready Mode.Epr Contract.Safe5V 0 0 false false false DataRole.Dfp Setting.Crate in
      let other : Record = ready Mode.Epr Contract.Safe5V 2 0 false false false DataRole.Dfp Setting.Crate in
      let o : Outcome = Outcome.Message (Message.Request None) in
      let o' : Outcome = Outcome.Timeout Timeout.KeepAlive in
      let stopped : (step one o).answer ≡ Answer.Stopped 0 = (marked_steps.step_1 Contract.Safe5V 0 0 false false false DataRole.Dfp Setting.Crate None (lit≤ tt) (lit≤ tt)).0 in
      let done : (step other o').answer ≡ Answer.Finished Finish.PortPartnerUnresponsive = (marked_steps.step_7 Contract.Safe5V 0 false false false DataRole.Dfp Setting.Crate (lit≤ tt)).0 in
      let z : ◌≡◌ {A = ℕ} 83 70 = ap letter (sym stopped) ∙ (ap (λ s. letter s.answer) (sym (keeps.on_step one o (ready_held 0 (omega arith)) tt)) ∙
      (all one other o o' ∙ (ap (λ s. letter s.answer) (keeps.on_step other o' (ready_held 2 (omega arith)) tt) ∙ ap letter done))) in
      omega arith

  -- "one that never moves (hard count 0 to 1)"
  pub no_still_engine : ((r : Record) (o : Outcome) → (steps r o).«record» ≡ r) → ⊥
  no_still_engine all =
      let still : Record = ready Mode.Epr Contract.Safe5V 0 0 false false false DataRole.Dfp Setting.Crate in
      let moved : (step still (epr_mode_message 16777216)).«record».hard_reset_counter.value ≡ 1 = (marked_steps.step_3 Contract.Safe5V 0 false
      false false DataRole.Dfp Setting.Crate 16777216 (lit≤ tt) refl).2 in
      let z : ◌≡◌ {A = ℕ} 1 0 = sym moved ∙ (ap (λ s. s.«record».hard_reset_counter.value)
      (sym (keeps.on_step still (epr_mode_message 16777216) (ready_held 0 (omega arith)) (omega arith))) ∙
      ap (λ r. r.hard_reset_counter.value) (all still (epr_mode_message 16777216))) in
      omega arith

  -- "one that works only at its first step (Explicit at entry 6)": from its creation, through its own steps
  pub explicit_at_entry_6 : (word : ℕ) (h : Word word) → Stands (Contract.Explicit (fixed word)) (run creates steps re_enters (to_entry_6 word h))
  unfolding run create uncreatable step sound counted tell await_of Stands to_entry_6
  explicit_at_entry_6 word h = rw (the_run creates steps re_enters keeps (to_entry_6 word h)) refl
