-- The actions that a call issues: S, F and H issue none, W ends in the awaited one, a protocol reset comes only before another, and each has a
-- number and an argument that the list of actions names. Assumes nothing.
use Prim.Native.Nat.{ℕ}
use mathlib.Core.Path.{◌≡◌, refl}
use mathlib.Core.Bool.{Bool, true, false, not, ◌&&◌, true≢false, false≢true}
use mathlib.Core.Logic.{◌⊎◌, inl, inr}
use mathlib.Core.List.{List, [], ◌∷◌}
use lib.Dec.{eqb}
use borrow.Author.Tests.{not-true}
use Rattle.definition.specs.Types.{Action, Contract, DataRole, Mode, Port, Record, Place, State, StartupWait, Exchange, DisabledWait, Denial}
use Rattle.definition.specs.Types.{HardResetWait, DefaultWait, SinkCapWait, GetWait, GiveWait, SwapState, DataRoleSwap, FastPowerRoleSwap}
use Rattle.definition.specs.Types.{VcsState, VcsSwapSource, Negotiation}
use Rattle.definition.specs.Actions.{none, protocol_reset, Issue, nothing, just, reset_then, awaited, places, pps, ready_wait, send_source_capabilities}
use Rattle.definition.specs.SourcePort.{given}
use Rattle.definition.specs.States.{await_of}
use Rattle.definition.specs.Engine.{tell, issues}
use Rattle.definition.specs.Paper.{named, argument_named, one_of, xnor, awaits, waiting}
use Rattle.definition.proofs.Laws.{and_left, and_right, or_left, or_right}

-- The number of what a state awaits, if that is 14 or 28, and else 0
unfoldable pub hands : State → ℕ
hands (State.Startup w) = 0
hands State.Discovery = 0
hands (State.SendCapabilities x) = 0
hands State.Ready = 0
hands (State.Disabled w) = 0
hands (State.CapabilityResponse d) = 0
hands (State.HardReset w) = 0
hands State.HardResetReceived = 0
hands (State.TransitionToDefault DefaultWait.VconnOff) = 14
hands (State.TransitionToDefault DefaultWait.HardReset) = 0
hands (State.TransitionToDefault DefaultWait.VconnOn) = 14
hands (State.GetSinkCap w) = 0
hands State.WaitNewCapabilities = 0
hands State.EprKeepAlive = 0
hands (State.GiveSourceCap asked) = 0
hands (State.SendSoftReset x) = 0
hands State.SoftReset = 0
hands State.SendNotSupported = 0
hands State.NotSupportedReceived = 0
hands (State.DrpSwap (SwapState.Data DataRoleSwap.Evaluate)) = 0
hands (State.DrpSwap (SwapState.Data DataRoleSwap.Accept)) = 0
hands (State.DrpSwap (SwapState.Data DataRoleSwap.Change)) = 28
hands (State.DrpSwap (SwapState.Data DataRoleSwap.Send)) = 0
hands (State.DrpSwap (SwapState.Data DataRoleSwap.Answer)) = 0
hands (State.DrpSwap (SwapState.Data DataRoleSwap.Reject)) = 0
hands (State.DrpSwap (SwapState.FastPower x)) = 0
hands (State.DrpGetSourceCap m w) = 0
hands (State.DrpGiveSinkCap m w) = 0
hands (State.VconnSwap source VcsState.SendSwap) = 0
hands (State.VconnSwap source VcsState.SwapAnswer) = 0
hands (State.VconnSwap source VcsState.EvaluateSwap) = 0
hands (State.VconnSwap source VcsState.AcceptSwap) = 0
hands (State.VconnSwap source VcsState.RejectSwap) = 0
hands (State.VconnSwap source VcsState.WaitForVconn) = 0
hands (State.VconnSwap source VcsState.TurnOffVconn) = 14
hands (State.VconnSwap source VcsState.TurnOnVconn) = 14
hands (State.VconnSwap source VcsState.SendPsRdy) = 0
hands (State.VconnSwap source VcsState.VcsForceVconn) = 14

-- A law of every state: of those that hand out neither, of Change, which hands out 28, and of the five that hand out 14
pub by_hands : (P : State → Type 0) → ((s : State) → eqb (hands s) 28 ≡ false → eqb (hands s) 14 ≡ false → P s)
    → P (State.DrpSwap (SwapState.Data DataRoleSwap.Change)) → P (State.TransitionToDefault DefaultWait.VconnOff)
    → P (State.TransitionToDefault DefaultWait.VconnOn) → ((source : VcsSwapSource) → P (State.VconnSwap source VcsState.TurnOffVconn))
    → ((source : VcsSwapSource) → P (State.VconnSwap source VcsState.TurnOnVconn))
    → ((source : VcsSwapSource) → P (State.VconnSwap source VcsState.VcsForceVconn)) → (s : State) → P s
unfolding hands
by_hands P other changes off on turns_off turns_on forces (State.Startup w) = other (State.Startup w) refl refl
by_hands P other changes off on turns_off turns_on forces State.Discovery = other State.Discovery refl refl
by_hands P other changes off on turns_off turns_on forces (State.SendCapabilities x) = other (State.SendCapabilities x) refl refl
by_hands P other changes off on turns_off turns_on forces State.Ready = other State.Ready refl refl
by_hands P other changes off on turns_off turns_on forces (State.Disabled w) = other (State.Disabled w) refl refl
by_hands P other changes off on turns_off turns_on forces (State.CapabilityResponse d) = other (State.CapabilityResponse d) refl refl
by_hands P other changes off on turns_off turns_on forces (State.HardReset w) = other (State.HardReset w) refl refl
by_hands P other changes off on turns_off turns_on forces State.HardResetReceived = other State.HardResetReceived refl refl
by_hands P other changes off on turns_off turns_on forces (State.TransitionToDefault DefaultWait.VconnOff) = off
by_hands P other changes off on turns_off turns_on forces (State.TransitionToDefault DefaultWait.HardReset) = other (State.TransitionToDefault DefaultWait.HardReset) refl refl
by_hands P other changes off on turns_off turns_on forces (State.TransitionToDefault DefaultWait.VconnOn) = on
by_hands P other changes off on turns_off turns_on forces (State.GetSinkCap w) = other (State.GetSinkCap w) refl refl
by_hands P other changes off on turns_off turns_on forces State.WaitNewCapabilities = other State.WaitNewCapabilities refl refl
by_hands P other changes off on turns_off turns_on forces State.EprKeepAlive = other State.EprKeepAlive refl refl
by_hands P other changes off on turns_off turns_on forces (State.GiveSourceCap asked) = other (State.GiveSourceCap asked) refl refl
by_hands P other changes off on turns_off turns_on forces (State.SendSoftReset x) = other (State.SendSoftReset x) refl refl
by_hands P other changes off on turns_off turns_on forces State.SoftReset = other State.SoftReset refl refl
by_hands P other changes off on turns_off turns_on forces State.SendNotSupported = other State.SendNotSupported refl refl
by_hands P other changes off on turns_off turns_on forces State.NotSupportedReceived = other State.NotSupportedReceived refl refl
by_hands P other changes off on turns_off turns_on forces (State.DrpSwap (SwapState.Data DataRoleSwap.Evaluate)) = other (State.DrpSwap (SwapState.Data DataRoleSwap.Evaluate)) refl refl
by_hands P other changes off on turns_off turns_on forces (State.DrpSwap (SwapState.Data DataRoleSwap.Accept)) = other (State.DrpSwap (SwapState.Data DataRoleSwap.Accept)) refl refl
by_hands P other changes off on turns_off turns_on forces (State.DrpSwap (SwapState.Data DataRoleSwap.Change)) = changes
by_hands P other changes off on turns_off turns_on forces (State.DrpSwap (SwapState.Data DataRoleSwap.Send)) = other (State.DrpSwap (SwapState.Data DataRoleSwap.Send)) refl refl
by_hands P other changes off on turns_off turns_on forces (State.DrpSwap (SwapState.Data DataRoleSwap.Answer)) = other (State.DrpSwap (SwapState.Data DataRoleSwap.Answer)) refl refl
by_hands P other changes off on turns_off turns_on forces (State.DrpSwap (SwapState.Data DataRoleSwap.Reject)) = other (State.DrpSwap (SwapState.Data DataRoleSwap.Reject)) refl refl
by_hands P other changes off on turns_off turns_on forces (State.DrpSwap (SwapState.FastPower x)) = other (State.DrpSwap (SwapState.FastPower x)) refl refl
by_hands P other changes off on turns_off turns_on forces (State.DrpGetSourceCap m w) = other (State.DrpGetSourceCap m w) refl refl
by_hands P other changes off on turns_off turns_on forces (State.DrpGiveSinkCap m w) = other (State.DrpGiveSinkCap m w) refl refl
by_hands P other changes off on turns_off turns_on forces (State.VconnSwap source VcsState.SendSwap) = other (State.VconnSwap source VcsState.SendSwap) refl refl
by_hands P other changes off on turns_off turns_on forces (State.VconnSwap source VcsState.SwapAnswer) = other (State.VconnSwap source VcsState.SwapAnswer) refl refl
by_hands P other changes off on turns_off turns_on forces (State.VconnSwap source VcsState.EvaluateSwap) = other (State.VconnSwap source VcsState.EvaluateSwap) refl refl
by_hands P other changes off on turns_off turns_on forces (State.VconnSwap source VcsState.AcceptSwap) = other (State.VconnSwap source VcsState.AcceptSwap) refl refl
by_hands P other changes off on turns_off turns_on forces (State.VconnSwap source VcsState.RejectSwap) = other (State.VconnSwap source VcsState.RejectSwap) refl refl
by_hands P other changes off on turns_off turns_on forces (State.VconnSwap source VcsState.WaitForVconn) = other (State.VconnSwap source VcsState.WaitForVconn) refl refl
by_hands P other changes off on turns_off turns_on forces (State.VconnSwap source VcsState.TurnOffVconn) = turns_off source
by_hands P other changes off on turns_off turns_on forces (State.VconnSwap source VcsState.TurnOnVconn) = turns_on source
by_hands P other changes off on turns_off turns_on forces (State.VconnSwap source VcsState.SendPsRdy) = other (State.VconnSwap source VcsState.SendPsRdy) refl refl
by_hands P other changes off on turns_off turns_on forces (State.VconnSwap source VcsState.VcsForceVconn) = forces source

-- Not none, not the protocol reset, and no request; and 14 and 28 in those states alone
plain : State → Action → Bool
plain s a =
    named a && (not (one_of (0 ∷ 1 ∷ 6 ∷ 7 ∷ 9 ∷ []) a.number) &&
    (xnor (eqb (hands s) 28) (eqb a.number 28) && xnor (eqb (hands s) 14) (eqb a.number 14)))

ready_plain : (m : Mode) (p : Bool) → plain State.Ready (ready_wait m p) ≡ true
unfolding plain named argument_named one_of hands
ready_plain Mode.Spr true = refl
ready_plain Mode.Spr false = refl
ready_plain Mode.Epr true = refl
ready_plain Mode.Epr false = refl

given_plain : (asked b : Mode) → plain (State.GiveSourceCap asked) (send_source_capabilities b) ≡ true
unfolding plain named argument_named one_of hands
given_plain asked Mode.Spr = refl
given_plain asked Mode.Epr = refl

state_plain : (m : Mode) (c : Contract) (u : DataRole) (v : Bool) (p : Port) (s : State) → plain s (awaited (await_of m c u v p s).issues) ≡ true
unfolding plain await_of named argument_named one_of hands
state_plain m c u v p (State.Startup StartupWait.SwapSourceStart) = refl
state_plain m c u v p (State.Startup StartupWait.SwappedVbus) = refl
state_plain m c u v p (State.Startup StartupWait.Vbus) = refl
state_plain m c u v p State.Discovery = refl
state_plain Mode.Spr c u v p (State.SendCapabilities Exchange.Transmit) = refl
state_plain Mode.Epr c u v p (State.SendCapabilities Exchange.Transmit) = refl
state_plain Mode.Spr c u v p (State.SendCapabilities Exchange.Receive) = refl
state_plain Mode.Epr c u v p (State.SendCapabilities Exchange.Receive) = refl
state_plain m c u v p State.Ready = ready_plain m (pps c)
state_plain m c u v p (State.Disabled DisabledWait.Supply) = refl
state_plain m c u v p (State.Disabled DisabledWait.Receive) = refl
state_plain m c u v p (State.CapabilityResponse Denial.Reject) = refl
state_plain m c u v p (State.CapabilityResponse Denial.Wait) = refl
state_plain m c u v p (State.HardReset HardResetWait.Signal) = refl
state_plain m c u v p (State.HardReset HardResetWait.Timer) = refl
state_plain m c u v p State.HardResetReceived = refl
state_plain m c u v p (State.TransitionToDefault DefaultWait.VconnOff) = refl
state_plain m c u v p (State.TransitionToDefault DefaultWait.HardReset) = refl
state_plain m c u v p (State.TransitionToDefault DefaultWait.VconnOn) = refl
state_plain Mode.Spr c u v p (State.GetSinkCap SinkCapWait.Transmit) = refl
state_plain Mode.Epr c u v p (State.GetSinkCap SinkCapWait.Transmit) = refl
state_plain Mode.Spr c u v p (State.GetSinkCap SinkCapWait.Receive) = refl
state_plain Mode.Epr c u v p (State.GetSinkCap SinkCapWait.Receive) = refl
state_plain Mode.Spr c u v p (State.GetSinkCap SinkCapWait.Inform) = refl
state_plain Mode.Epr c u v p (State.GetSinkCap SinkCapWait.Inform) = refl
state_plain Mode.Spr c u v p (State.GetSinkCap SinkCapWait.InformNone) = refl
state_plain Mode.Epr c u v p (State.GetSinkCap SinkCapWait.InformNone) = refl
state_plain m c u v p State.WaitNewCapabilities = refl
state_plain m c u v p State.EprKeepAlive = refl
state_plain m c u v p (State.GiveSourceCap asked) = given_plain asked (given p.setting m asked)
state_plain m c u v p (State.SendSoftReset Exchange.Transmit) = refl
state_plain m c u v p (State.SendSoftReset Exchange.Receive) = refl
state_plain m c u v p State.SoftReset = refl
state_plain m c u v p State.SendNotSupported = refl
state_plain m c u v p State.NotSupportedReceived = refl
state_plain m c u v p (State.DrpSwap (SwapState.Data DataRoleSwap.Evaluate)) = refl
state_plain m c u v p (State.DrpSwap (SwapState.Data DataRoleSwap.Accept)) = refl
state_plain m c DataRole.Ufp v p (State.DrpSwap (SwapState.Data DataRoleSwap.Change)) = refl
state_plain m c DataRole.Dfp v p (State.DrpSwap (SwapState.Data DataRoleSwap.Change)) = refl
state_plain m c u v p (State.DrpSwap (SwapState.Data DataRoleSwap.Send)) = refl
state_plain m c u v p (State.DrpSwap (SwapState.Data DataRoleSwap.Answer)) = refl
state_plain m c u v p (State.DrpSwap (SwapState.Data DataRoleSwap.Reject)) = refl
state_plain m c u v p (State.DrpSwap (SwapState.FastPower FastPowerRoleSwap.Evaluate)) = refl
state_plain m c u v p (State.DrpSwap (SwapState.FastPower FastPowerRoleSwap.Accept)) = refl
state_plain m c u v p (State.DrpSwap (SwapState.FastPower FastPowerRoleSwap.TransitionToOff)) = refl
state_plain m c u v p (State.DrpSwap (SwapState.FastPower FastPowerRoleSwap.AssertRd)) = refl
state_plain m c u v p (State.DrpSwap (SwapState.FastPower FastPowerRoleSwap.WaitSourceOn)) = refl
state_plain m c u v p (State.DrpSwap (SwapState.FastPower FastPowerRoleSwap.SourceOn)) = refl
state_plain m c u v p (State.DrpGetSourceCap Mode.Spr GetWait.Get) = refl
state_plain m c u v p (State.DrpGetSourceCap Mode.Epr GetWait.Get) = refl
state_plain m c u v p (State.DrpGetSourceCap k GetWait.Inform) = refl
state_plain m c u v p (State.DrpGetSourceCap k GetWait.InformNone) = refl
state_plain m c u v p (State.DrpGiveSinkCap k GiveWait.Read) = refl
state_plain m c u v p (State.DrpGiveSinkCap Mode.Spr GiveWait.Transmit) = refl
state_plain m c u v p (State.DrpGiveSinkCap Mode.Epr GiveWait.Transmit) = refl
state_plain m c u v p (State.VconnSwap s VcsState.SendSwap) = refl
state_plain m c u v p (State.VconnSwap s VcsState.SwapAnswer) = refl
state_plain m c u v p (State.VconnSwap s VcsState.EvaluateSwap) = refl
state_plain m c u v p (State.VconnSwap s VcsState.AcceptSwap) = refl
state_plain m c u v p (State.VconnSwap s VcsState.RejectSwap) = refl
state_plain m c u v p (State.VconnSwap s VcsState.WaitForVconn) = refl
state_plain m c u v p (State.VconnSwap s VcsState.TurnOffVconn) = refl
state_plain m c u v p (State.VconnSwap s VcsState.TurnOnVconn) = refl
state_plain m c u v p (State.VconnSwap s VcsState.SendPsRdy) = refl
state_plain m c u v p (State.VconnSwap s VcsState.VcsForceVconn) = refl

outside : (s : State) (a : Action) → plain s a ≡ true → one_of (0 ∷ 1 ∷ 6 ∷ 7 ∷ 9 ∷ []) a.number ≡ false
unfolding plain
outside s a h = not-true _ (and_left _ _ (and_right (named a) _ h))

-- Change alone awaits 28, and 14 is awaited where VCONN is driven
alike : (a b : Bool) → xnor a b ≡ true → b ≡ a
alike true b h = h
alike false b h = not-true b h

handed : (m : Mode) (c : Contract) (u : DataRole) (v : Bool) (p : Port) (s : State)
    → (xnor (eqb (hands s) 28) (eqb (awaited (await_of m c u v p s).issues).number 28) &&
    xnor (eqb (hands s) 14) (eqb (awaited (await_of m c u v p s).issues).number 14)) ≡ true
unfolding plain
handed m c u v p s = and_right (not (one_of (0 ∷ 1 ∷ 6 ∷ 7 ∷ 9 ∷ []) _)) _ (and_right (named _) _ (state_plain m c u v p s))

pub awaits_28 : (m : Mode) (c : Contract) (u : DataRole) (v : Bool) (p : Port) (s : State)
    → eqb (awaited (await_of m c u v p s).issues).number 28 ≡ eqb (hands s) 28
awaits_28 m c u v p s = alike (eqb (hands s) 28) _ (and_left _ _ (handed m c u v p s))

pub awaits_14 : (m : Mode) (c : Contract) (u : DataRole) (v : Bool) (p : Port) (s : State)
    → eqb (awaited (await_of m c u v p s).issues).number 14 ≡ eqb (hands s) 14
awaits_14 m c u v p s = alike (eqb (hands s) 14) _ (and_right (xnor (eqb (hands s) 28) _) _ (handed m c u v p s))

-- No state awaits the supply
pub no_nine : (m : Mode) (c : Contract) (u : DataRole) (v : Bool) (p : Port) (s : State) → eqb (awaited (await_of m c u v p s).issues).number 9 ≡ false
unfolding one_of
no_nine m c u v p s =
    let n : ℕ = (awaited (await_of m c u v p s).issues).number in
    or_left _ false (or_right (eqb n 7) _ (or_right (eqb n 6) _ (or_right (eqb n 1) _ (or_right (eqb n 0) _ (outside _ _ (state_plain m c u v p s))))))

pub no_none : (m : Mode) (c : Contract) (u : DataRole) (v : Bool) (p : Port) (s : State) → eqb (awaited (await_of m c u v p s).issues).number 0 ≡ false
unfolding one_of
no_none m c u v p s = or_left _ _ (outside _ _ (state_plain m c u v p s))

-- "never awaited"
pub no_protocol_reset_awaited : (r : Record) (p : Place) → eqb (awaited (issues r p)).number 1 ≡ false
unfolding one_of
no_protocol_reset_awaited r (Place.Waiting s) =
    or_left _ _ (or_right (eqb (awaited (issues r (Place.Waiting s))).number 0) _ (outside _ _ (state_plain r.mode r.contract r.data_role r.vconn_source r.port s)))
no_protocol_reset_awaited r (Place.Negotiating Negotiation.Lookup q) = refl
no_protocol_reset_awaited r (Place.Negotiating Negotiation.Evaluate q) = refl
no_protocol_reset_awaited r (Place.Negotiating Negotiation.Accept q) = refl
no_protocol_reset_awaited r (Place.Negotiating Negotiation.Supply q) = refl
no_protocol_reset_awaited r (Place.Negotiating Negotiation.PsRdy q) = refl
no_protocol_reset_awaited r (Place.Stopped e) = refl
no_protocol_reset_awaited r (Place.HandedOver h) = refl
no_protocol_reset_awaited r (Place.Finished f) = refl

-- What a waiting record awaits stands in the list of actions
pub awaited_named : (r : Record) (p : Place) → waiting p ≡ true → named (awaited (issues r p)) ≡ true
unfolding plain named argument_named one_of
awaited_named r (Place.Waiting s) w = and_left _ _ (state_plain r.mode r.contract r.data_role r.vconn_source r.port s)
awaited_named r (Place.Negotiating Negotiation.Lookup q) w = refl
awaited_named r (Place.Negotiating Negotiation.Evaluate q) w = refl
awaited_named r (Place.Negotiating Negotiation.Accept q) w = refl
awaited_named r (Place.Negotiating Negotiation.Supply q) w = refl
awaited_named r (Place.Negotiating Negotiation.PsRdy q) w = refl
awaited_named r (Place.Stopped e) w = w
awaited_named r (Place.HandedOver h) w = w
awaited_named r (Place.Finished f) w = w

-- and so does the one action that is issued without being awaited
pub reset_named : named protocol_reset ≡ true
unfolding named argument_named one_of
reset_named = refl

-- S, F and H issue no action
at_rest : (r : Record) (p : Place) → waiting p ≡ false → places (issues r p) ≡ none ∷ none ∷ []
at_rest r (Place.Waiting s) w = absurd (true≢false w)
at_rest r (Place.Negotiating x q) w = absurd (true≢false w)
at_rest r (Place.Stopped e) w = refl
at_rest r (Place.HandedOver h) w = refl
at_rest r (Place.Finished f) w = refl

pub rests_silent : (r : Record) → waiting r.place ≡ false → (tell r).actions ≡ none ∷ none ∷ []
unfolding tell
rests_silent r w = at_rest r r.place w

-- W ends in the awaited action, alone or after a protocol reset
EndsIn : Action → List Action → Type 0
EndsIn a l = (l ≡ a ∷ none ∷ []) ⊎ (l ≡ protocol_reset ∷ a ∷ [])

ends : (s : State) (i : Issue) → plain s (awaited i) ≡ true → EndsIn (awaited i) (places i)
unfolding plain named argument_named one_of EndsIn
ends s nothing h = absurd (false≢true h)
ends s (just a) h = inl refl
ends s (reset_then a) h = inr refl

at_wait : (r : Record) (p : Place) → waiting p ≡ true → EndsIn (awaited (issues r p)) (places (issues r p))
unfolding EndsIn
at_wait r (Place.Waiting s) w = ends s (issues r (Place.Waiting s)) (state_plain r.mode r.contract r.data_role r.vconn_source r.port s)
at_wait r (Place.Negotiating Negotiation.Lookup q) w = inl refl
at_wait r (Place.Negotiating Negotiation.Evaluate q) w = inl refl
at_wait r (Place.Negotiating Negotiation.Accept q) w = inl refl
at_wait r (Place.Negotiating Negotiation.Supply q) w = inl refl
at_wait r (Place.Negotiating Negotiation.PsRdy q) w = inl refl
at_wait r (Place.Stopped e) w = absurd (false≢true w)
at_wait r (Place.HandedOver h) w = absurd (false≢true w)
at_wait r (Place.Finished f) w = absurd (false≢true w)

pub waits_on : (r : Record) → waiting r.place ≡ true → ((tell r).actions ≡ awaits r ∷ none ∷ []) ⊎ ((tell r).actions ≡ protocol_reset ∷ awaits r ∷ [])
unfolding tell EndsIn
waits_on r w = at_wait r r.place w
