-- What an outcome or a target decides: what is written on the way and the next place, or that it does not fit (R5, R6). Assumes nothing.
use Rattle.std.specs.Prelude.{ℕ, Bool, List, [], ◌∷◌}
use Rattle.definition.specs.Types.{Mode, DataRole, Place, State, Exchange, HardResetWait, Negotiation, Finish, Handover, PowerSource}

-- What is written on the way: the mode of a re-entry, the data role once it has changed, who feeds VCONN once it is driven
pub data Write : Type 0 where
  mode : Mode → Write
  data_role_to : DataRole → Write
  vconn_source_to : Bool → Write

pub data Next : Type 0 where
  to : List Write → Place → Next
  misfit : Next

-- Nothing is written on the way
abbrev pub straight : Place → Next
straight = to []

abbrev pub go : State → Next
go s = straight (Place.Waiting s)

-- Where many lead
abbrev pub to_ready : Next
to_ready = go State.Ready

abbrev pub to_send_capabilities : Next
to_send_capabilities = go (State.SendCapabilities Exchange.Transmit)

abbrev pub to_hard_reset : Next
to_hard_reset = go (State.HardReset HardResetWait.Signal)

abbrev pub to_not_supported : Next
to_not_supported = go State.SendNotSupported

-- S: stopped by a protocol error. `?` becomes S or F
abbrev pub stop : ℕ → Next
stop e = straight (Place.Stopped e)

-- F: finished
abbrev pub finish : Finish → Next
finish f = straight (Place.Finished f)

-- H: handed over to the host
abbrev pub hand_over : Handover → Next
hand_over h = straight (Place.HandedOver h)

-- While a request is negotiated, with the request
abbrev pub supply : Negotiation → PowerSource → Next
supply w q = straight (Place.Negotiating w q)

-- 8.3.3.2.4 PE_SRC_Negotiate_Capability. Port order 2: "Only Unknown is looked up"
abbrev pub negotiating : PowerSource → Place
negotiating (PowerSource.FixedVariableSupply w) = Place.Negotiating Negotiation.Evaluate (PowerSource.FixedVariableSupply w)
negotiating (PowerSource.Battery w) = Place.Negotiating Negotiation.Evaluate (PowerSource.Battery w)
negotiating (PowerSource.Pps w) = Place.Negotiating Negotiation.Evaluate (PowerSource.Pps w)
negotiating (PowerSource.Avs w) = Place.Negotiating Negotiation.Evaluate (PowerSource.Avs w)
negotiating (PowerSource.Unknown w) = Place.Negotiating Negotiation.Lookup (PowerSource.Unknown w)
negotiating (PowerSource.EprRequest w) = Place.Negotiating Negotiation.Evaluate (PowerSource.EprRequest w)

abbrev pub negotiate : PowerSource → Next
negotiate q = straight (negotiating q)

-- The same, with this written on the way; a misfit writes nothing
abbrev pub writing : Write → Next → Next
writing w (to ws p) = to (w ∷ ws) p
writing w misfit = misfit
