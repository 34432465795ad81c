-- What an action that no rule names does to the readings: nothing. Assumes nothing.
use mathlib.Core.Path.{◌≡◌, refl, ◌∙◌}
use mathlib.Core.Bool.{Bool, true, false, not, ◌||◌, true≢false, false≢true}
use lib.Dec.{eqb}
use borrow.Author.Tests.{not-true}
use Rattle.notation.specs.Rows.{◌⇒◌∣◌}
use Rattle.definition.specs.Types.{Action, Contract, DataRole, Mode, Port, State, Exchange, DisabledWait, Denial, HardResetWait}
use Rattle.definition.specs.Types.{DefaultWait, SinkCapWait, GetWait, GiveWait, SwapState, DataRoleSwap, FastPowerRoleSwap, VcsState}
use Rattle.definition.specs.Actions.{protocol_reset, Issue, nothing, just, reset_then, awaited, places}
use Rattle.definition.specs.Awaits.{Await, unwritten}
use Rattle.definition.specs.States.{await_of}
use Rattle.definition.specs.Log.{action, Log, ◌▸◌, numbered, contract, hard_count, caps_count, latest, accepted, Supplied, Vouched}
use Rattle.definition.specs.Runs.{issue, issued}

-- The tests that the rules of the log, and the numbers of the attempts that remain, make of an action: none of them holds of a quiet one
pub record Quiet (a : Action) : Type 0 where
  pub not_0 : eqb a.number 0 ≡ false
  pub not_3 : eqb a.number 3 ≡ false
  pub not_5 : eqb a.number 5 ≡ false
  pub not_9 : eqb a.number 9 ≡ false
  pub not_10 : eqb a.number 10 ≡ false
  pub not_13 : eqb a.number 13 ≡ false
  pub not_21 : numbered 2 1 a ≡ false
  pub not_22 : numbered 2 2 a ≡ false

unfoldable pub quiet : Action → Bool
quiet a =
    not (eqb a.number 0 || (eqb a.number 3 || (eqb a.number 5 || (eqb a.number 9 || (eqb a.number 10 || (eqb a.number 13 ||
    (numbered 2 1 a || numbered 2 2 a)))))))

-- Of a choice none of whose parts holds, the first and the rest
none_holds : (a b : Bool) → not (a || b) ≡ true → (a ≡ false) × (not b ≡ true)
none_holds true b h = absurd (false≢true h)
none_holds false b h = (refl, h)

pub quiet_tests : (a : Action) → quiet a ≡ true → Quiet a
unfolding quiet
quiet_tests a h0 =
    let h3 = none_holds _ _ h0 in
    let h5 = none_holds _ _ h3.1 in
    let h9 = none_holds _ _ h5.1 in
    let h10 = none_holds _ _ h9.1 in
    let h13 = none_holds _ _ h10.1 in
    let h21 = none_holds _ _ h13.1 in
    let h22 = none_holds _ _ h21.1 in
    record {
      not_0 = h3.0;
      not_3 = h5.0;
      not_5 = h9.0;
      not_9 = h10.0;
      not_10 = h13.0;
      not_13 = h21.0;
      not_21 = h22.0;
      not_22 = not-true _ h22.1;
    }

-- Neither the 3 nor the 2.1 that a Startup issues
pub quiet_apart : (a : Action) → quiet a ≡ true → (eqb a.number 3 ≡ false) × (numbered 2 1 a ≡ false)
quiet_apart a h = ((quiet_tests a h).not_3, (quiet_tests a h).not_21)

-- All that the rules read of a log is the same
pub record Same (l l' : Log) : Type 0 where
  pub contract_same : contract l' ≡ contract l
  pub hard_same : hard_count l' ≡ hard_count l
  pub caps_same : caps_count l' ≡ caps_count l

quiet_same : (l : Log) (a : Action) → Quiet a → Same l (l ▸ action a)
unfolding contract hard_count caps_count
quiet_same l a q = record { contract_same = rw (q.not_3, q.not_9); hard_same = rw (q.not_13, q.not_5); caps_same = rw (q.not_22, q.not_3, q.not_21) }

pub some_issued : (l : Log) (a : Action) → eqb a.number 0 ≡ false → issue l a ≡ l ▸ action a
some_issued l a h = rw h

-- What a place issues is quiet, after a protocol reset or not
unfoldable pub quiet_issue : Issue → Bool
quiet_issue nothing = true
quiet_issue (just a) = quiet a
quiet_issue (reset_then a) = quiet a

reset_same : (l : Log) → Same l (l ▸ action protocol_reset)
unfolding contract hard_count caps_count
reset_same l = record { contract_same = refl; hard_same = refl; caps_same = refl }

then_same : (l l' l'' : Log) → Same l l' → Same l' l'' → Same l l''
then_same l l' l'' p q = record {
  contract_same = q.contract_same ∙ p.contract_same;
  hard_same = q.hard_same ∙ p.hard_same;
  caps_same = q.caps_same ∙ p.caps_same;
}

pub issued_same : (l : Log) (i : Issue) → quiet_issue i ≡ true → Same l (issued l (places i))
unfolding quiet_issue
issued_same l nothing h = record { contract_same = refl; hard_same = refl; caps_same = refl }
issued_same l (just a) h = rw (some_issued l a (quiet_tests a h).not_0) (quiet_same l a (quiet_tests a h))
issued_same l (reset_then a) h =
    rw (some_issued (l ▸ action protocol_reset) a (quiet_tests a h).not_0)
    (then_same l (l ▸ action protocol_reset) _ (reset_same l) (quiet_same (l ▸ action protocol_reset) a (quiet_tests a h)))

-- The states whose actions these tests name
unfoldable pub loud : State → Bool
loud (State.Startup w) = true
loud State.Discovery = true
loud (State.SendCapabilities Exchange.Transmit) = false
loud (State.SendCapabilities Exchange.Receive) = true
loud State.Ready = false
loud (State.Disabled DisabledWait.Supply) = true
loud (State.Disabled DisabledWait.Receive) = false
loud (State.CapabilityResponse d) = false
loud (State.HardReset HardResetWait.Signal) = true
loud (State.HardReset HardResetWait.Timer) = false
loud State.HardResetReceived = false
loud (State.TransitionToDefault w) = false
loud (State.GetSinkCap w) = false
loud State.WaitNewCapabilities = false
loud State.EprKeepAlive = false
loud (State.GiveSourceCap asked) = false
loud (State.SendSoftReset x) = false
loud State.SoftReset = false
loud State.SendNotSupported = false
loud State.NotSupportedReceived = false
loud (State.DrpSwap x) = false
loud (State.DrpGetSourceCap m w) = false
loud (State.DrpGiveSinkCap m w) = false
loud (State.VconnSwap source x) = false

-- An await that entering writes nothing for, and whose action is quiet
abbrev pub QuietAwait : Await → Type 0
QuietAwait a = (a.entrance ≡ unwritten) × (quiet_issue a.issues ≡ true)

-- A line an await
pub state_quiet : (m : Mode) (c : Contract) (u : DataRole) (v : Bool) (p : Port) (s : State) → loud s ≡ false → QuietAwait (await_of m c u v p s)
unfolding loud quiet_issue quiet await_of
state_quiet m c u v p (State.Startup w) h = absurd (true≢false h)
state_quiet m c u v p State.Discovery h = absurd (true≢false h)
state_quiet m c u v p (State.SendCapabilities Exchange.Transmit) h = (refl, refl)
state_quiet m c u v p (State.SendCapabilities Exchange.Receive) h = absurd (true≢false h)
state_quiet m c u v p State.Ready h = (refl, refl)
state_quiet m c u v p (State.Disabled DisabledWait.Supply) h = absurd (true≢false h)
state_quiet m c u v p (State.Disabled DisabledWait.Receive) h = (refl, refl)
state_quiet m c u v p (State.CapabilityResponse Denial.Reject) h = (refl, refl)
state_quiet m c u v p (State.CapabilityResponse Denial.Wait) h = (refl, refl)
state_quiet m c u v p (State.HardReset HardResetWait.Signal) h = absurd (true≢false h)
state_quiet m c u v p (State.HardReset HardResetWait.Timer) h = (refl, refl)
state_quiet m c u v p State.HardResetReceived h = (refl, refl)
state_quiet m c u v p (State.TransitionToDefault DefaultWait.VconnOff) h = (refl, refl)
state_quiet m c u v p (State.TransitionToDefault DefaultWait.HardReset) h = (refl, refl)
state_quiet m c u v p (State.TransitionToDefault DefaultWait.VconnOn) h = (refl, refl)
state_quiet Mode.Spr c u v p (State.GetSinkCap SinkCapWait.Transmit) h = (refl, refl)
state_quiet Mode.Epr c u v p (State.GetSinkCap SinkCapWait.Transmit) h = (refl, refl)
state_quiet m c u v p (State.GetSinkCap SinkCapWait.Receive) h = (refl, refl)
state_quiet m c u v p (State.GetSinkCap SinkCapWait.Inform) h = (refl, refl)
state_quiet m c u v p (State.GetSinkCap SinkCapWait.InformNone) h = (refl, refl)
state_quiet m c u v p State.WaitNewCapabilities h = (refl, refl)
state_quiet m c u v p State.EprKeepAlive h = (refl, refl)
state_quiet m c u v p (State.GiveSourceCap asked) h = (refl, refl)
state_quiet m c u v p (State.SendSoftReset Exchange.Transmit) h = (refl, refl)
state_quiet m c u v p (State.SendSoftReset Exchange.Receive) h = (refl, refl)
state_quiet m c u v p State.SoftReset h = (refl, refl)
state_quiet m c u v p State.SendNotSupported h = (refl, refl)
state_quiet m c u v p State.NotSupportedReceived h = (refl, refl)
state_quiet m c u v p (State.DrpSwap (SwapState.Data DataRoleSwap.Evaluate)) h = (refl, refl)
state_quiet m c u v p (State.DrpSwap (SwapState.Data DataRoleSwap.Accept)) h = (refl, refl)
state_quiet m c u v p (State.DrpSwap (SwapState.Data DataRoleSwap.Change)) h = (refl, refl)
state_quiet m c u v p (State.DrpSwap (SwapState.Data DataRoleSwap.Send)) h = (refl, refl)
state_quiet m c u v p (State.DrpSwap (SwapState.Data DataRoleSwap.Answer)) h = (refl, refl)
state_quiet m c u v p (State.DrpSwap (SwapState.Data DataRoleSwap.Reject)) h = (refl, refl)
state_quiet m c u v p (State.DrpSwap (SwapState.FastPower FastPowerRoleSwap.Evaluate)) h = (refl, refl)
state_quiet m c u v p (State.DrpSwap (SwapState.FastPower FastPowerRoleSwap.Accept)) h = (refl, refl)
state_quiet m c u v p (State.DrpSwap (SwapState.FastPower FastPowerRoleSwap.TransitionToOff)) h = (refl, refl)
state_quiet m c u v p (State.DrpSwap (SwapState.FastPower FastPowerRoleSwap.AssertRd)) h = (refl, refl)
state_quiet m c u v p (State.DrpSwap (SwapState.FastPower FastPowerRoleSwap.WaitSourceOn)) h = (refl, refl)
state_quiet m c u v p (State.DrpSwap (SwapState.FastPower FastPowerRoleSwap.SourceOn)) h = (refl, refl)
state_quiet m c u v p (State.DrpGetSourceCap k GetWait.Get) h = (refl, refl)
state_quiet m c u v p (State.DrpGetSourceCap k GetWait.Inform) h = (refl, refl)
state_quiet m c u v p (State.DrpGetSourceCap k GetWait.InformNone) h = (refl, refl)
state_quiet m c u v p (State.DrpGiveSinkCap k GiveWait.Read) h = (refl, refl)
state_quiet m c u v p (State.DrpGiveSinkCap k GiveWait.Transmit) h = (refl, refl)
state_quiet m c u v p (State.VconnSwap source VcsState.SendSwap) h = (refl, refl)
state_quiet m c u v p (State.VconnSwap source VcsState.SwapAnswer) h = (refl, refl)
state_quiet m c u v p (State.VconnSwap source VcsState.EvaluateSwap) h = (refl, refl)
state_quiet m c u v p (State.VconnSwap source VcsState.AcceptSwap) h = (refl, refl)
state_quiet m c u v p (State.VconnSwap source VcsState.RejectSwap) h = (refl, refl)
state_quiet m c u v p (State.VconnSwap source VcsState.WaitForVconn) h = (refl, refl)
state_quiet m c u v p (State.VconnSwap source VcsState.TurnOffVconn) h = (refl, refl)
state_quiet m c u v p (State.VconnSwap source VcsState.TurnOnVconn) h = (refl, refl)
state_quiet m c u v p (State.VconnSwap source VcsState.SendPsRdy) h = (refl, refl)
state_quiet m c u v p (State.VconnSwap source VcsState.VcsForceVconn) h = (refl, refl)

-- An action other than 9 needs no voucher
one_supplied : (l : Log) (a : Action) → (eqb a.number 9 ≡ true → Vouched l a) → Supplied l → Supplied (issue l a)
unfolding Supplied
one_supplied l a v s = picked (eqb a.number 0)
  where
    picked : (b : Bool) → Supplied (b ⇒ l ∣ l ▸ action a)
    picked true = s
    picked false = (v, s)

pub issued_supplied : (l : Log) (i : Issue) → (eqb (awaited i).number 9 ≡ true → Vouched l (awaited i)) → Supplied l → Supplied (issued l (places i))
unfolding latest accepted
issued_supplied l nothing v s = s
issued_supplied l (just a) v s = one_supplied l a v s
issued_supplied l (reset_then a) v s = one_supplied (l ▸ action protocol_reset) a (λ h. carried_over (v h))
    (one_supplied l protocol_reset (λ h. absurd (false≢true h)) s)
  where
    carried_over : Vouched l a → Vouched (l ▸ action protocol_reset) a
    carried_over p = p
