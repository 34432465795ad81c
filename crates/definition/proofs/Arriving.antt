-- What holds of a record and its log at each point of a run, and that entering a place keeps it. Assumes nothing.
use Prim.Native.Nat.{ℕ, suc, ◌+◌}
use native.Mathlib.Numerals.{add-one}
use mathlib.Core.Path.{◌≡◌, refl, ap, sym, ◌∙◌}
use mathlib.Core.Bool.{Bool, true, false, ◌&&◌, true≢false, false≢true}
use lib.Dec.{eqb, ltb}
use Rattle.counters.specs.Counting.{increment}
use Rattle.notation.specs.Rows.{◌is◌}
use Rattle.definition.specs.Types.{Action, Contract, Record, Place, State}
use Rattle.definition.specs.Types.{StartupWait, Exchange, DisabledWait, HardResetWait, DefaultWait, VcsState, Negotiation, PowerSource}
use Rattle.definition.specs.Actions.{protocol_reset, Issue, nothing, just, reset_then, awaited, places}
use Rattle.definition.specs.States.{await_of, standing}
use Rattle.definition.specs.Entering.{at, at_state, discovering, resetting, negotiated, arrive}
use Rattle.definition.specs.Engine.{issues, tell}
use Rattle.definition.specs.Paper.{waiting, awaits}
use Rattle.definition.specs.Log.{Entry, action, Log, ◌▸◌, acts, newest, before_newest, defaulting, contract, hard_count, caps_count}
use Rattle.definition.specs.Log.{request, latest, accepted, Supplied, explicit_of_newest}
use Rattle.definition.specs.Runs.{issued}
use Rattle.definition.proofs.Issued.{no_nine, no_none}
use Rattle.definition.proofs.Sound.{Sound, tried, arrive_sound}
use Rattle.definition.proofs.Readings.{Same, some_issued, issued_same, loud, QuietAwait, state_quiet, issued_supplied}
use Rattle.definition.proofs.Leading.{OfState, GoodPlace, GoodState, GoodSupply}

-- What a place knows of the log: on the way to a supply of the request, where VCONN is driven whose 14 that is
abbrev pub Knows : Log → Place → Type 0
Knows l (Place.Waiting s) = OfState Unit Unit Unit (λ b. before_newest defaulting l ≡ b) Unit s
Knows l (Place.Negotiating Negotiation.Lookup q) = latest l ≡ request q
Knows l (Place.Negotiating Negotiation.Evaluate q) = latest l ≡ request q
Knows l (Place.Negotiating Negotiation.Accept q) = (latest l ≡ request q) × (accepted l ≡ request q)
Knows l (Place.Negotiating Negotiation.Supply q) = (latest l ≡ request q) × (accepted l ≡ request q) ×
    ((c : Contract) → explicit_of_newest l c ≡ Contract.Explicit q)
Knows l (Place.Negotiating Negotiation.PsRdy q) = Unit
Knows l (Place.Stopped e) = Unit
Knows l (Place.HandedOver h) = Unit
Knows l (Place.Finished f) = Unit

-- What holds of a record and its log at each point of a run
pub record Kept (r : Record) (l : Log) : Type 0 where
  pub r1_accepts : Sound r
  pub contract_read : contract l ≡ r.contract
  pub hard_read : hard_count l ≡ r.hard_reset_counter.value
  pub caps_read : caps_count l ≡ r.caps_counter.value
  -- the newest entry is the awaited action
  pub awaiting : (test : Action → Bool) → newest (acts test) l ≡ (waiting r.place && test (awaits r))
  pub knows : Knows l r.place
  pub vouched : Supplied l

-- The newest entry once a call's actions are issued
unfoldable pub Calm : Entry → Type 0
Calm e = (test : Action → Bool) → acts test e ≡ false

newest_issued : (l : Log) (e : Entry) (i : Issue) → eqb (awaited i).number 0 ≡ false → (test : Action → Bool)
    → newest (acts test) (issued (l ▸ e) (places i)) ≡ test (awaited i)
newest_issued l e nothing h test = absurd (true≢false h)
newest_issued l e (just a) h test = rw (some_issued (l ▸ e) a h) refl
newest_issued l e (reset_then a) h test = rw (some_issued (l ▸ e ▸ action protocol_reset) a h) refl

told_newest :
    (r : Record) (p : Place) (l : Log) (e : Entry) → Calm e → (test : Action → Bool) →
    newest (acts test) (issued (l ▸ e) (places (issues r p))) ≡ (waiting p && test (awaited (issues r p)))
unfolding Calm
told_newest r (Place.Waiting s) l e calm test = newest_issued l e (standing r s).issues (no_none r.mode r.contract r.data_role r.vconn_source r.port s) test
told_newest r (Place.Negotiating Negotiation.Lookup q) l e calm test = refl
told_newest r (Place.Negotiating Negotiation.Evaluate q) l e calm test = refl
told_newest r (Place.Negotiating Negotiation.Accept q) l e calm test = refl
told_newest r (Place.Negotiating Negotiation.Supply q) l e calm test = refl
told_newest r (Place.Negotiating Negotiation.PsRdy q) l e calm test = refl
told_newest r (Place.Stopped x) l e calm test = calm test
told_newest r (Place.HandedOver h) l e calm test = calm test
told_newest r (Place.Finished f) l e calm test = calm test

-- The log after a call that came to this record
unfoldable pub after_call : Record → Log → Entry → Log
after_call r l e = issued (l ▸ e) (tell r).actions

-- What is known where a call comes to a place
pub record Before (r : Record) (l : Log) (e : Entry) : Type 0 where
  pub calm : Calm e
  pub r1_accepts : Sound r
  pub hard_read : hard_count (l ▸ e) ≡ r.hard_reset_counter.value
  pub caps_read : caps_count (l ▸ e) ≡ r.caps_counter.value
  pub vouched : Supplied (l ▸ e)

-- A state that is quiet
stood : (r : Record) (l : Log) (e : Entry) (s : State) → QuietAwait (standing r s) → Before r l e → contract (l ▸ e) ≡ r.contract
    → Knows (issued (l ▸ e) (places (standing r s).issues)) (Place.Waiting s) → Kept (at_state s r) (after_call (at_state s r) l e)
unfolding after_call tell
stood r l e s q b h k =
    let i : Issue = (standing r s).issues in
    let same : Same (l ▸ e) (issued (l ▸ e) (places i)) = issued_same (l ▸ e) i q.1 in
    record {
      r1_accepts = record { hard = b.r1_accepts.hard; caps = b.r1_accepts.caps; place = refl };
      contract_read = same.contract_same ∙ h;
      hard_read = same.hard_same ∙ b.hard_read;
      caps_read = same.caps_same ∙ b.caps_read;
      awaiting = told_newest (at_state s r) (Place.Waiting s) l e b.calm;
      knows = k;
      vouched = issued_supplied (l ▸ e) i (λ x. absurd (true≢false (sym x ∙ no_nine r.mode r.contract r.data_role r.vconn_source r.port s))) b.vouched;
    }

came_quietly :
    (r : Record) (l : Log) (e : Entry) (s : State) → loud s ≡ false → Before r l e → contract (l ▸ e) ≡ r.contract →
    Knows (issued (l ▸ e) (places (standing r s).issues)) (Place.Waiting s) → Kept (arrive r (Place.Waiting s)) (after_call (arrive r (Place.Waiting s)) l e)
came_quietly r l e s q b h k =
    let quiet : QuietAwait (standing r s) = state_quiet r.mode r.contract r.data_role r.vconn_source r.port s q in
    rw quiet.0 (stood r l e s quiet b h k)

-- The states that a rule names, one by one
more : (v n : ℕ) → n ≡ v → suc n ≡ v + 1
more v n h = ap suc h ∙ sym (add-one v)

discovered : (r : Record) (l : Log) (e : Entry) → Before r l e → contract (l ▸ e) ≡ r.contract → (t : Bool)
    → Sound (discovering r (tried r.caps_counter t))
    → Kept (discovering r (tried r.caps_counter t))
    (after_call (discovering r (tried r.caps_counter t)) l e)
unfolding after_call tell await_of contract hard_count caps_count Supplied
discovered r l e b h true s = record {
  r1_accepts = s;
  contract_read = h;
  hard_read = b.hard_read;
  caps_read = more _ _ b.caps_read;
  awaiting = λ test. refl;
  knows = tt;
  vouched = (λ x. absurd (false≢true x), b.vouched);
}
discovered r l e b h false s = record {
  r1_accepts = s;
  contract_read = h;
  hard_read = b.hard_read;
  caps_read = b.caps_read;
  awaiting = λ test. refl;
  knows = tt;
  vouched = (λ x. absurd (false≢true x), b.vouched);
}

reset_signalled : (r : Record) (l : Log) (e : Entry) → Before r l e → contract (l ▸ e) ≡ r.contract → (t : Bool)
    → Sound (resetting r (tried r.hard_reset_counter t))
    → Kept (resetting r (tried r.hard_reset_counter t))
    (after_call (resetting r (tried r.hard_reset_counter t)) l e)
unfolding after_call tell await_of contract hard_count caps_count Supplied Calm
reset_signalled r l e b h true s = record {
  r1_accepts = s;
  contract_read = h;
  hard_read = more _ _ b.hard_read;
  caps_read = b.caps_read;
  awaiting = λ test. refl;
  knows = tt;
  vouched = (λ x. absurd (false≢true x), b.vouched);
}
reset_signalled r l e b h false s = record {
  r1_accepts = s;
  contract_read = h;
  hard_read = b.hard_read;
  caps_read = b.caps_read;
  awaiting = b.calm;
  knows = tt;
  vouched = b.vouched;
}

-- A line a state: entering it keeps the readings true
pub came :
    (r : Record) (l : Log) (e : Entry) (s : State) → Before r l e → contract (l ▸ e) ≡ r.contract → GoodState (l ▸ e) s →
    Sound (arrive r (Place.Waiting s)) → Kept (arrive r (Place.Waiting s)) (after_call (arrive r (Place.Waiting s)) l e)
unfolding after_call tell await_of contract hard_count caps_count Supplied increment Calm loud
came r l e (State.Startup StartupWait.SwapSourceStart) b h g s = record {
  r1_accepts = s;
  contract_read = h;
  hard_read = b.hard_read;
  caps_read = refl;
  awaiting = λ test. refl;
  knows = tt;
  vouched = (λ x. absurd (false≢true x), (λ x. absurd (false≢true x), b.vouched));
}
came r l e (State.Startup StartupWait.SwappedVbus) b h g s = record {
  r1_accepts = s;
  contract_read = rw (b.calm (λ x. x.number is 1)) h;
  hard_read = b.hard_read;
  caps_read = rw (b.calm (λ x. x.number is 1)) b.caps_read;
  awaiting = λ test. refl;
  knows = tt;
  vouched = (λ x. absurd (false≢true x), b.vouched);
}
came r l e (State.Startup StartupWait.Vbus) b h g s = record {
  r1_accepts = s;
  contract_read = refl;
  hard_read = b.hard_read;
  caps_read = refl;
  awaiting = λ test. refl;
  knows = tt;
  vouched = (λ x. absurd (false≢true x), (λ x. absurd (false≢true x), b.vouched));
}
came r l e State.Discovery b h g s = discovered r l e b h (ltb r.caps_counter.value r.caps_counter.max_value) s
came r l e (State.SendCapabilities Exchange.Transmit) b h g s = came_quietly r l e (State.SendCapabilities Exchange.Transmit) refl b h tt
came r l e (State.SendCapabilities Exchange.Receive) b h g s = record {
  r1_accepts = s;
  contract_read = h;
  hard_read = rw g refl;
  caps_read = b.caps_read;
  awaiting = λ test. refl;
  knows = tt;
  vouched = (λ x. absurd (false≢true x), b.vouched);
}
came r l e (State.HardReset HardResetWait.Signal) b h g s = reset_signalled r l e b h
    (ltb r.hard_reset_counter.value r.hard_reset_counter.max_value) s
came r l e (State.HardReset HardResetWait.Timer) b h g s = came_quietly r l e (State.HardReset HardResetWait.Timer) refl b h tt
came r l e State.Ready b h g s = came_quietly r l e State.Ready refl b h tt
came r l e (State.Disabled DisabledWait.Supply) b h g s = discovered r l e b h false s
came r l e (State.Disabled DisabledWait.Receive) b h g s = came_quietly r l e (State.Disabled DisabledWait.Receive) refl b h tt
came r l e (State.CapabilityResponse d) b h g s = came_quietly r l e (State.CapabilityResponse d) refl b h tt
came r l e State.HardResetReceived b h g s = came_quietly r l e State.HardResetReceived refl b h tt
came r l e (State.TransitionToDefault DefaultWait.VconnOff) b h g s = came_quietly r l e (State.TransitionToDefault DefaultWait.VconnOff) refl b h g
came r l e (State.TransitionToDefault DefaultWait.HardReset) b h g s = came_quietly r l e (State.TransitionToDefault DefaultWait.HardReset) refl b h tt
came r l e (State.TransitionToDefault DefaultWait.VconnOn) b h g s = came_quietly r l e (State.TransitionToDefault DefaultWait.VconnOn) refl b h g
came r l e (State.GetSinkCap w) b h g s = came_quietly r l e (State.GetSinkCap w) refl b h tt
came r l e State.WaitNewCapabilities b h g s = came_quietly r l e State.WaitNewCapabilities refl b h tt
came r l e State.EprKeepAlive b h g s = came_quietly r l e State.EprKeepAlive refl b h tt
came r l e (State.GiveSourceCap asked) b h g s = came_quietly r l e (State.GiveSourceCap asked) refl b h tt
came r l e (State.SendSoftReset x) b h g s = came_quietly r l e (State.SendSoftReset x) refl b h tt
came r l e State.SoftReset b h g s = came_quietly r l e State.SoftReset refl b h tt
came r l e State.SendNotSupported b h g s = came_quietly r l e State.SendNotSupported refl b h tt
came r l e State.NotSupportedReceived b h g s = came_quietly r l e State.NotSupportedReceived refl b h tt
came r l e (State.DrpSwap x) b h g s = came_quietly r l e (State.DrpSwap x) refl b h tt
came r l e (State.DrpGetSourceCap m w) b h g s = came_quietly r l e (State.DrpGetSourceCap m w) refl b h tt
came r l e (State.DrpGiveSinkCap m w) b h g s = came_quietly r l e (State.DrpGiveSinkCap m w) refl b h tt
came r l e (State.VconnSwap source VcsState.SendSwap) b h g s = came_quietly r l e (State.VconnSwap source VcsState.SendSwap) refl b h tt
came r l e (State.VconnSwap source VcsState.SwapAnswer) b h g s = came_quietly r l e (State.VconnSwap source VcsState.SwapAnswer) refl b h tt
came r l e (State.VconnSwap source VcsState.EvaluateSwap) b h g s = came_quietly r l e (State.VconnSwap source VcsState.EvaluateSwap) refl b h tt
came r l e (State.VconnSwap source VcsState.AcceptSwap) b h g s = came_quietly r l e (State.VconnSwap source VcsState.AcceptSwap) refl b h tt
came r l e (State.VconnSwap source VcsState.RejectSwap) b h g s = came_quietly r l e (State.VconnSwap source VcsState.RejectSwap) refl b h tt
came r l e (State.VconnSwap source VcsState.WaitForVconn) b h g s = came_quietly r l e (State.VconnSwap source VcsState.WaitForVconn) refl b h tt
came r l e (State.VconnSwap source VcsState.TurnOffVconn) b h g s = came_quietly r l e (State.VconnSwap source VcsState.TurnOffVconn) refl b h g
came r l e (State.VconnSwap source VcsState.TurnOnVconn) b h g s = came_quietly r l e (State.VconnSwap source VcsState.TurnOnVconn) refl b h g
came r l e (State.VconnSwap source VcsState.SendPsRdy) b h g s = came_quietly r l e (State.VconnSwap source VcsState.SendPsRdy) refl b h tt
came r l e (State.VconnSwap source VcsState.VcsForceVconn) b h g s = came_quietly r l e (State.VconnSwap source VcsState.VcsForceVconn) refl b h g

-- The contract that the log must read where a place is come to: PS_RDY follows a supply that is done
unfoldable pub contract_before : Contract → Place → Contract
contract_before c (Place.Waiting s) = c
contract_before c (Place.Negotiating Negotiation.Lookup q) = c
contract_before c (Place.Negotiating Negotiation.Evaluate q) = c
contract_before c (Place.Negotiating Negotiation.Accept q) = c
contract_before c (Place.Negotiating Negotiation.Supply q) = c
contract_before c (Place.Negotiating Negotiation.PsRdy q) = Contract.Explicit q
contract_before c (Place.Stopped e) = c
contract_before c (Place.HandedOver h) = c
contract_before c (Place.Finished f) = c

rested : (r : Record) (l : Log) (e : Entry) → Before r l e → contract (l ▸ e) ≡ r.contract → (p : Place) → waiting p ≡ false → Knows (l ▸ e) p
    → Kept (at p r) (after_call (at p r) l e)
unfolding after_call tell Calm
rested r l e b h (Place.Waiting s) w k = absurd (true≢false w)
rested r l e b h (Place.Negotiating x q) w k = absurd (true≢false w)
rested r l e b h (Place.Stopped x) w k = record {
  r1_accepts = arrive_sound r (Place.Stopped x) b.r1_accepts;
  contract_read = h;
  hard_read = b.hard_read;
  caps_read = b.caps_read;
  awaiting = b.calm;
  knows = tt;
  vouched = b.vouched;
}
rested r l e b h (Place.HandedOver x) w k = record {
  r1_accepts = arrive_sound r (Place.HandedOver x) b.r1_accepts;
  contract_read = h;
  hard_read = b.hard_read;
  caps_read = b.caps_read;
  awaiting = b.calm;
  knows = tt;
  vouched = b.vouched;
}
rested r l e b h (Place.Finished x) w k = record {
  r1_accepts = arrive_sound r (Place.Finished x) b.r1_accepts;
  contract_read = h;
  hard_read = b.hard_read;
  caps_read = b.caps_read;
  awaiting = b.calm;
  knows = tt;
  vouched = b.vouched;
}

came_negotiating : (r : Record) (l : Log) (e : Entry) (w : Negotiation) (q : PowerSource) → Before r l e
    → contract (l ▸ e) ≡ contract_before r.contract (Place.Negotiating w q) → GoodSupply (l ▸ e) w q → Sound (negotiated r w q)
    → Kept (negotiated r w q) (after_call (negotiated r w q) l e)
unfolding after_call tell contract_before contract hard_count caps_count latest accepted Supplied
came_negotiating r l e Negotiation.Lookup q b h g s = record {
  r1_accepts = s;
  contract_read = h;
  hard_read = b.hard_read;
  caps_read = b.caps_read;
  awaiting = λ test. refl;
  knows = g;
  vouched = (λ x. absurd (false≢true x), b.vouched);
}
came_negotiating r l e Negotiation.Evaluate q b h g s = record {
  r1_accepts = s;
  contract_read = h;
  hard_read = b.hard_read;
  caps_read = b.caps_read;
  awaiting = λ test. refl;
  knows = g;
  vouched = (λ x. absurd (false≢true x), b.vouched);
}
came_negotiating r l e Negotiation.Accept q b h g s = record {
  r1_accepts = s;
  contract_read = h;
  hard_read = b.hard_read;
  caps_read = b.caps_read;
  awaiting = λ test. refl;
  knows = g;
  vouched = (λ x. absurd (false≢true x), b.vouched);
}
came_negotiating r l e Negotiation.Supply q b h g s = record {
  r1_accepts = s;
  contract_read = refl;
  hard_read = b.hard_read;
  caps_read = b.caps_read;
  awaiting = λ test. refl;
  knows = (g.0, g.1, λ c. refl);
  vouched = (λ x. g, b.vouched);
}
came_negotiating r l e Negotiation.PsRdy q b h g s = record {
  r1_accepts = s;
  contract_read = h;
  hard_read = b.hard_read;
  caps_read = b.caps_read;
  awaiting = λ test. refl;
  knows = tt;
  vouched = (λ x. absurd (false≢true x), b.vouched);
}

pub arrived : (r : Record) (l : Log) (e : Entry) (p : Place) → Before r l e → contract (l ▸ e) ≡ contract_before r.contract p → GoodPlace (l ▸ e) p
    → Kept (arrive r p) (after_call (arrive r p) l e)
unfolding contract_before
arrived r l e (Place.Waiting s) b h g = came r l e s b h g (arrive_sound r (Place.Waiting s) b.r1_accepts)
arrived r l e (Place.Negotiating Negotiation.Lookup q) b h g = came_negotiating r l e Negotiation.Lookup q b h g
    (arrive_sound r (Place.Negotiating Negotiation.Lookup q) b.r1_accepts)
arrived r l e (Place.Negotiating Negotiation.Evaluate q) b h g = came_negotiating r l e Negotiation.Evaluate q b h g
    (arrive_sound r (Place.Negotiating Negotiation.Evaluate q) b.r1_accepts)
arrived r l e (Place.Negotiating Negotiation.Accept q) b h g = came_negotiating r l e Negotiation.Accept q b h g
    (arrive_sound r (Place.Negotiating Negotiation.Accept q) b.r1_accepts)
arrived r l e (Place.Negotiating Negotiation.Supply q) b h g = came_negotiating r l e Negotiation.Supply q b h g
    (arrive_sound r (Place.Negotiating Negotiation.Supply q) b.r1_accepts)
arrived r l e (Place.Negotiating Negotiation.PsRdy q) b h g = came_negotiating r l e Negotiation.PsRdy q b h g
    (arrive_sound r (Place.Negotiating Negotiation.PsRdy q) b.r1_accepts)
arrived r l e (Place.Stopped x) b h g = rested r l e b h (Place.Stopped x) refl tt
arrived r l e (Place.HandedOver x) b h g = rested r l e b h (Place.HandedOver x) refl tt
arrived r l e (Place.Finished x) b h g = rested r l e b h (Place.Finished x) refl tt
