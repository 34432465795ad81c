-- What the code's small values say: `Move`, `Decided`, and `Onward` while a request is negotiated. Only promises inside the engine use this. Assumes nothing.
use Rattle.std.specs.Prelude.{true}
use Rattle.definition.specs.Types.{Change, Move, Decided, Onward, State, VcsState, Handover, Negotiation, PowerSource}
use Rattle.definition.specs.Next.{Write, Next, misfit, go, stop, finish, hand_over, supply, negotiate, writing, mode, data_role_to, vconn_source_to, to_ready}

abbrev pub change_of : Change → Write
change_of (Change.DataRole d) = data_role_to d
change_of (Change.VconnSource v) = vconn_source_to v

abbrev pub next : Move → Next
next (Move.To s) = go s
next (Move.Negotiate q) = negotiate q
next (Move.ReadyAs x) = writing (change_of x) to_ready
next (Move.SendPsRdy source) = writing (vconn_source_to true) (go (State.VconnSwap source VcsState.SendPsRdy))
next (Move.DiscoverCable v) = writing (vconn_source_to v) (hand_over Handover.EprDiscoverCable)
next (Move.Stop e) = stop e
next (Move.Finish f) = finish f
next (Move.HandOver h) = hand_over h
next Move.Misfit = misfit

abbrev pub decided : Decided → Next
decided d = writing (mode d.mode) (next d.then)

abbrev pub onward : PowerSource → Onward → Next
onward q (Onward.Evaluate p) = supply Negotiation.Evaluate p
onward q Onward.Accept = supply Negotiation.Accept q
onward q (Onward.Deny d) = go (State.CapabilityResponse d)
onward q Onward.Supply = supply Negotiation.Supply q
onward q Onward.PsRdy = supply Negotiation.PsRdy q
onward q Onward.Ready = go State.Ready
onward q (Onward.Stop e) = stop e
onward q (Onward.Finish f) = finish f
onward q Onward.Misfit = misfit
