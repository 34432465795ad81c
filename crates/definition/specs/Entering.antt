-- What a call writes: the only definitions that change a record. Assumes nothing.
use Rattle.std.specs.Prelude.{Result, Ok, Err, Option, None, Some, ℕ, Bool, true, false, List, [], ◌∷◌}
use Rattle.counters.specs.Counting as counting
use Rattle.counters.specs.Counting.{increment, reset}
use Rattle.definition.specs.Types.{Record, Setting, Settings, Place, State, Contract, Counter, Increment, Exceeded, DataRole, Mode, PowerSource}
use Rattle.definition.specs.Types.{Finish}
use Rattle.definition.specs.Types.{StartupWait, DisabledWait, HardResetWait, Negotiation}
use Rattle.definition.specs.Next.{Write, mode, data_role_to, vconn_source_to}
use Rattle.definition.specs.Awaits.{Entrance, unwritten, startup, swapped_startup, count_capabilities, clear_hard_resets, count_hard_reset}
use Rattle.definition.specs.States.{standing}

abbrev pub at : Place → Record → Record
at p r = record {
  place = p;
  contract = r.contract;
  hard_reset_counter = r.hard_reset_counter;
  caps_counter = r.caps_counter;
  mode = r.mode;
  data_role = r.data_role;
  vconn_source = r.vconn_source;
  port = r.port;
}

abbrev pub with_contract : Contract → Record → Record
with_contract c r = record {
  place = r.place;
  contract = c;
  hard_reset_counter = r.hard_reset_counter;
  caps_counter = r.caps_counter;
  mode = r.mode;
  data_role = r.data_role;
  vconn_source = r.vconn_source;
  port = r.port;
}

abbrev pub with_hard : Counter → Record → Record
with_hard n r = record {
  place = r.place;
  contract = r.contract;
  hard_reset_counter = n;
  caps_counter = r.caps_counter;
  mode = r.mode;
  data_role = r.data_role;
  vconn_source = r.vconn_source;
  port = r.port;
}

abbrev pub with_caps : Counter → Record → Record
with_caps n r = record {
  place = r.place;
  contract = r.contract;
  hard_reset_counter = r.hard_reset_counter;
  caps_counter = n;
  mode = r.mode;
  data_role = r.data_role;
  vconn_source = r.vconn_source;
  port = r.port;
}

abbrev pub with_mode : Mode → Record → Record
with_mode m r = record {
  place = r.place;
  contract = r.contract;
  hard_reset_counter = r.hard_reset_counter;
  caps_counter = r.caps_counter;
  mode = m;
  data_role = r.data_role;
  vconn_source = r.vconn_source;
  port = r.port;
}

abbrev pub with_data_role : DataRole → Record → Record
with_data_role d r = record {
  place = r.place;
  contract = r.contract;
  hard_reset_counter = r.hard_reset_counter;
  caps_counter = r.caps_counter;
  mode = r.mode;
  data_role = d;
  vconn_source = r.vconn_source;
  port = r.port;
}

abbrev pub with_vconn_source : Bool → Record → Record
with_vconn_source v r = record {
  place = r.place;
  contract = r.contract;
  hard_reset_counter = r.hard_reset_counter;
  caps_counter = r.caps_counter;
  mode = r.mode;
  data_role = r.data_role;
  vconn_source = v;
  port = r.port;
}

abbrev pub at_state : State → Record → Record
at_state s = at (Place.Waiting s)

-- Document 02, order 6. Who feeds VCONN is written "under "standard"" alone: "Under "crate" nothing changes"
abbrev pub remembered : Setting → Bool → Bool → Bool
remembered Setting.Crate new old = old
remembered Setting.Standard new old = new

abbrev pub fed : Bool → Record → Record
fed v r = with_vconn_source (remembered r.port.setting v r.vconn_source) r

-- On the way to the next place
abbrev pub write : Write → Record → Record
write (mode m) = with_mode m
write (data_role_to d) = with_data_role d
write (vconn_source_to v) = fed v

abbrev pub written : List Write → Record → Record
written [] r = r
written (w ∷ ws) r = written ws (write w r)

-- 8.3.3.2.1. "Startup without swap sets D; both set SPR and reset capabilities count, never the hard count". Document 02, order 6: "Startup sets it
-- back to its creation value"
abbrev pub started : Record → Record
started r = fed r.port.vconn_source (with_mode Mode.Spr (with_caps (reset r.caps_counter) r))

-- 8.3.3.2.2. "If the CapsCounter saturates, enter the Disabled state"
abbrev pub discovering : Record → Result Increment Exceeded → Record
discovering r (Ok i) = at_state State.Discovery (with_caps i.count r)
discovering r (Err e) = at_state (State.Disabled DisabledWait.Supply) r

-- 8.3.3.2.9. The HardResetCounter first: where it stands at its limit the partner is unresponsive
abbrev pub resetting : Record → Result Increment Exceeded → Record
resetting r (Ok i) = at_state (State.HardReset HardResetWait.Signal) (with_hard i.count r)
resetting r (Err e) = at (Place.Finished Finish.PortPartnerUnresponsive) r

-- Entering a state, by what its await says
abbrev pub entered : Entrance → Record → State → Record
entered startup r s = at_state s (with_contract Contract.Safe5V (started r))
entered swapped_startup r s = at_state s (started r)
entered count_capabilities r s = discovering r (increment r.caps_counter)
entered clear_hard_resets r s = at_state s (with_hard (reset r.hard_reset_counter) r)
entered count_hard_reset r s = resetting r (increment r.hard_reset_counter)
entered unwritten r s = at_state s r

-- 8.3.3.2.5. "action 9 sets TransitionToExplicit; its Done sets Explicit of its request"
abbrev pub negotiated : Record → Negotiation → PowerSource → Record
negotiated r Negotiation.Supply q = at (Place.Negotiating Negotiation.Supply q) (with_contract Contract.TransitionToExplicit r)
negotiated r Negotiation.PsRdy q = at (Place.Negotiating Negotiation.PsRdy q) (with_contract (Contract.Explicit q) r)
negotiated r Negotiation.Lookup q = at (Place.Negotiating Negotiation.Lookup q) r
negotiated r Negotiation.Evaluate q = at (Place.Negotiating Negotiation.Evaluate q) r
negotiated r Negotiation.Accept q = at (Place.Negotiating Negotiation.Accept q) r

abbrev pub arrive : Record → Place → Record
arrive r (Place.Waiting s) = entered (standing r s).entrance r s
arrive r (Place.Negotiating w q) = negotiated r w q
arrive r (Place.Stopped e) = at (Place.Stopped e) r
arrive r (Place.HandedOver h) = at (Place.HandedOver h) r
arrive r (Place.Finished f) = at (Place.Finished f) r

-- Document 02, order 10. "HardReset and Discovery pass it on in their answers": what their increment reports. "Every other answer reports none"
abbrev pub reported : Result Increment Exceeded → Option ℕ
reported tried = Some (counting.reported tried)

abbrev pub passed_on : Entrance → Record → Option ℕ
passed_on startup r = None
passed_on swapped_startup r = None
passed_on count_capabilities r = reported (increment r.caps_counter)
passed_on clear_hard_resets r = None
passed_on count_hard_reset r = reported (increment r.hard_reset_counter)
passed_on unwritten r = None

abbrev pub remaining : Record → Place → Option ℕ
remaining r (Place.Waiting s) = passed_on (standing r s).entrance r
remaining r (Place.Negotiating w q) = None
remaining r (Place.Stopped e) = None
remaining r (Place.HandedOver h) = None
remaining r (Place.Finished f) = None

-- Creation. "D at creation (Implicit if swapped)"
abbrev pub first_wait : Bool → StartupWait
first_wait true = StartupWait.SwapSourceStart
first_wait false = StartupWait.Vbus

abbrev pub first_contract : Bool → Contract
first_contract true = Contract.Implicit
first_contract false = Contract.Safe5V

-- A new record, about to enter Startup. Document 02, order 4: "Dfp at creation"
abbrev pub blank : Settings → Record
blank s = record {
  place = Place.Waiting (State.Startup (first_wait s.role_swapped));
  contract = first_contract s.role_swapped;
  hard_reset_counter = record { value = 0; max_value = s.hard_limit };
  caps_counter = record { value = 0; max_value = s.caps_limit };
  mode = Mode.Spr;
  data_role = DataRole.Dfp;
  vconn_source = s.port.vconn_source;
  port = s.port;
}

abbrev pub begun : Settings → Record
begun s = arrive (blank s) (Place.Waiting (State.Startup (first_wait s.role_swapped)))
