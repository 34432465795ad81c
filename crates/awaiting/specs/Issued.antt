-- The action that a state awaits depends on the mode, on whether the contract is a PPS contract, on the data role and on the setting, and on nothing else
-- of a record: proofs/Issued.antt. Assumes nothing.
use Rattle.std.specs.Prelude.{Bool, true, false}
use Rattle.request.specs.declared.PowerSource.{PowerSource}
use Rattle.model.specs.declared.place.DataRole.{DataRole}
use Rattle.model.specs.declared.place.Mode.{Mode}
use Rattle.model.specs.declared.place.State.{State}
use Rattle.model.specs.declared.record.Action.{Action}
use Rattle.model.specs.declared.record.Contract.{Contract}
use Rattle.model.specs.declared.record.Port.{Port}
use Rattle.model.specs.declared.record.Setting.{Setting}
use Rattle.definition.specs.Actions.{awaited}
use Rattle.model.specs.declared.place.VcsState.{VcsState}
use Rattle.model.specs.declared.place.VcsSwapSource.{VcsSwapSource}
use Rattle.definition.specs.VconnSwap.{vconn_swap_awaits}
use Rattle.definition.specs.States.{await_of}

-- A contract that is a PPS contract, or is none
abbrev pub some_contract : Bool → Contract
some_contract true = Contract.Explicit (PowerSource.Pps (record { 0 = 0 }))
some_contract false = Contract.Safe5V

abbrev pub some_port : Setting → Port
some_port g = record { dual_role = false; vconn_source = false; setting = g }

unfoldable pub awaited_in : Mode → Bool → DataRole → Setting → State → Action
awaited_in m pps u g s = awaited (await_of m (some_contract pps) u false (some_port g) s).issues

-- Whoever began the swap
abbrev pub vconn_swap_action : VcsState → Action
vconn_swap_action s = awaited (vconn_swap_awaits VcsSwapSource.Message false s).issues
