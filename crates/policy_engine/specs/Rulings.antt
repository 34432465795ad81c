-- What a call answers where no request is negotiated, and what a ruling comes to: the paper's answer in two halves, so that one piece of code carries it out.
-- proofs/Taken.antt shows that the halves make the definition's `take`. Assumes nothing.
use Rattle.std.specs.Prelude.{ℕ, Bool, true, false}
use Rattle.notation.specs.Rows.{◌⇒◌∣◌}
use Rattle.definition.specs.Next.{misfit}
use Rattle.definition.specs.Moves.{decided}
use Rattle.definition.specs.SourcePort.{negotiation_awaits}
use Rattle.definition.specs.States.{after}
use Rattle.definition.specs.Engine.{settle, refuse}
use Rattle.definition.specs.Refusals.{bad_event, re_entry}
use Rattle.request.specs.declared.PowerSource.{PowerSource}
use Rattle.model.specs.declared.moves.Move.{Move}
use Rattle.model.specs.declared.outcome.Call.{Call}
use Rattle.model.specs.declared.place.Mode.{Mode}
use Rattle.model.specs.declared.place.Place.{Place}
use Rattle.model.specs.declared.place.State.{State}
use Rattle.model.specs.declared.place.Negotiation.{Negotiation}
use Rattle.model.specs.declared.record.Record.{Record}
use Rattle.definition.specs.Types.{Step}
use Rattle.policy_engine.specs.declared.calls.Ruling.{Ruling}

abbrev pub straight : ℕ → Mode → Move → Ruling
straight n m x = record { number = n; decided = record { mode = m; then = x } }

-- What a ruling comes to
abbrev pub ruled : Record → Ruling → Step
ruled r d = settle d.number r (decided d.decided)

-- R5; a re-entry on a waiting record is R3
abbrev pub at_state : Record → State → Call → Step
at_state r s (Call.Outcome o) = settle 5 r (bad_event o ⇒ misfit ∣ after r s o)
at_state r s (Call.ReEntry t b) = refuse 3 r

-- Stopped or handed over: a step is R4, and R6 is the re-entry's
abbrev pub at_rest : Bool → Record → Call → Step
at_rest handed_over r (Call.Outcome o) = refuse 4 r
at_rest handed_over r (Call.ReEntry t b) = settle 6 r (re_entry handed_over r.mode t b)

-- `negotiated` answers for the places that hold a request, and this is not asked there
abbrev pub answered : Record → Place → Call → Step
answered r (Place.Waiting s) c = at_state r s c
answered r (Place.Negotiating w q) c = refuse 3 r
answered r (Place.Stopped e) c = at_rest false r c
answered r (Place.HandedOver h) c = at_rest true r c
answered r (Place.Finished f) c = refuse 2 r

-- While a request is negotiated
abbrev pub negotiated : Record → Negotiation → PowerSource → Call → Step
negotiated r w q (Call.Outcome o) = settle 5 r ((negotiation_awaits w q).then o)
negotiated r w q (Call.ReEntry t b) = refuse 3 r
