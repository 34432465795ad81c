-- What a setting changes (document 02, orders 5 and 6), call by call and on every run; proofs/Giving.antt shows that the engine does so. Assumes nothing.
use Rattle.std.specs.Prelude.{Option, None, Some, ◌≡◌, List, [], ◌∷◌}
use Rattle.notation.specs.Rows.{◌⇒◌∣◌, ◌is◌}
use Rattle.definition.specs.Types.{Action, Call, Created, Mode, Place, Port, Record, Setting, Settings, State, Step}
use Rattle.definition.specs.Actions.{action, mode_number}
use Rattle.definition.specs.Engine.{take, create}
use Rattle.definition.specs.Runs as runs
use Rattle.definition.specs.Runs.{Calls}
use Rattle.definition.specs.Entering.{with_vconn_source}
use Rattle.definition.specs.Feeding.{vconn_after}
use Rattle.definition.specs.Former as former

-- The same record, settings and answers under another setting
abbrev pub set : Setting → Port → Port
set g p = record { dual_role = p.dual_role; vconn_source = p.vconn_source; setting = g }

abbrev pub under : Setting → Record → Record
under g r = record {
  place = r.place;
  contract = r.contract;
  hard_reset_counter = r.hard_reset_counter;
  caps_counter = r.caps_counter;
  mode = r.mode;
  data_role = r.data_role;
  vconn_source = r.vconn_source;
  port = set g r.port;
}

abbrev pub set_under : Setting → Settings → Settings
set_under g s =
    record { port = set g s.port; role_swapped = s.role_swapped; hard_limit = s.hard_limit; caps_limit = s.caps_limit }

abbrev pub carrying : Setting → Step → Step
carrying g s = record { «record» = under g s.«record»; answer = s.answer; remaining = s.remaining; actions = s.actions }

abbrev pub made_under : Setting → Option Record → Option Record
made_under g None = None
made_under g (Some r) = Some (under g r)

abbrev pub carrying_made : Setting → Created → Created
carrying_made g c = record { «record» = made_under g c.«record»; answer = c.answer; remaining = c.remaining; actions = c.actions }

-- "a give answers by the message that asked": in GiveSourceCap the argument of 4 is what asked. A refusal has no 4
abbrev pub asked_for : Mode → Action → Action
asked_for asked a = a.number is 4 ⇒ action 4 (mode_number asked) ∣ a

abbrev pub each : (Action → Action) → List Action → List Action
each f [] = []
each f (a ∷ rest) = f a ∷ each f rest

-- Where a message asked
pub data Asked : Type 0 where
  nobody : Asked
  by : Mode → Asked

abbrev pub as_asked : Asked → List Action → List Action
as_asked nobody xs = xs
as_asked (by asked) xs = each (asked_for asked) xs

abbrev pub asked_in : State → Asked
asked_in (State.Startup w) = nobody
asked_in State.Discovery = nobody
asked_in (State.SendCapabilities x) = nobody
asked_in State.Ready = nobody
asked_in (State.Disabled w) = nobody
asked_in (State.CapabilityResponse d) = nobody
asked_in (State.HardReset w) = nobody
asked_in State.HardResetReceived = nobody
asked_in (State.TransitionToDefault w) = nobody
asked_in (State.GetSinkCap w) = nobody
asked_in State.WaitNewCapabilities = nobody
asked_in State.EprKeepAlive = nobody
asked_in (State.GiveSourceCap asked) = by asked
asked_in (State.SendSoftReset x) = nobody
asked_in State.SoftReset = nobody
asked_in State.SendNotSupported = nobody
asked_in State.NotSupportedReceived = nobody
asked_in (State.DrpSwap s) = nobody
asked_in (State.DrpGetSourceCap k w) = nobody
asked_in (State.DrpGiveSinkCap k w) = nobody
asked_in (State.VconnSwap source s) = nobody

abbrev pub asked_at : Place → Asked
asked_at (Place.Waiting s) = asked_in s
asked_at (Place.Negotiating w q) = nobody
asked_at (Place.Stopped e) = nobody
asked_at (Place.HandedOver h) = nobody
asked_at (Place.Finished f) = nobody

-- and "Remember who feeds VCONN"
abbrev pub corrected : Record → Call → Step → Step
corrected r c s = record {
  «record» = with_vconn_source (vconn_after r c s) s.«record»;
  answer = s.answer;
  remaining = s.remaining;
  actions = as_asked (asked_at s.«record».place) s.actions;
}

-- Each line for any record or settings, whose own setting is not read: the former engine on them, with the setting carried along
pub record Giving : Type 0 where
  -- "Equality with the Rust holds under "crate""
  pub crate_call : (r : Record) (c : Call) → take (under Setting.Crate r) c ≡ carrying Setting.Crate (former.take r c)
  pub crate_creation : (s : Settings) → create (set_under Setting.Crate s) ≡ carrying_made Setting.Crate (former.create s)
  -- "under "standard" the corrected definition does"
  pub standard_call : (r : Record) (c : Call)
      → take (under Setting.Standard r) c ≡ corrected (under Setting.Standard r) c (carrying Setting.Standard (former.take r c))
  pub standard_creation : (s : Settings) → create (set_under Setting.Standard s) ≡ carrying_made Setting.Standard (former.create s)
  -- The correction of a give touches GiveSourceCap alone
  pub asked_in_give_alone : (s : State) (asked : Mode) → asked_in s ≡ by asked → s ≡ State.GiveSourceCap asked

-- "Add a setting at creation"; "The record must hold that creation value too": the port that a run was created with
abbrev pub created_with : Calls → Port
created_with (runs.create s h) = s.port
created_with (runs.then cs c h) = created_with cs
