-- The awaited action depends on nothing of a record but the mode, whether the contract is a PPS contract, the data role and the setting. Assumes nothing.
use Rattle.std.proofs.Common.{Bool, ◌≡◌, rules}
use Rattle.model.specs.declared.place.DataRole.{DataRole}
use Rattle.model.specs.declared.place.Mode.{Mode}
use Rattle.model.specs.declared.place.State.{State}
use Rattle.model.specs.declared.record.Contract.{Contract}
use Rattle.model.specs.declared.record.Port.{Port}
use Rattle.definition.specs.Actions.{awaited, pps}
use Rattle.definition.specs.States.{await_of}
use Rattle.awaiting.specs.Issued.{awaited_in}

pub issued_alike : (m : Mode) (c : Contract) (u : DataRole) (v : Bool) (p : Port) (s : State)
    → awaited (await_of m c u v p s).issues ≡ awaited_in m (pps c) u p.setting s
unfolding await_of awaited_in
issued_alike m c u v p s = search rules
