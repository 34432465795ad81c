-- The halves that the code computes make the definition's `take`. Assumes nothing.
use Prim.Native.Nat.{ℕ}
use mathlib.Core.Bool.{true, false}
use mathlib.Core.Path.{◌≡◌, refl, ap, ◌∙◌}
use Rattle.request.specs.declared.PowerSource.{PowerSource}
use Rattle.model.specs.declared.moves.Change.{Change}
use Rattle.model.specs.declared.moves.Decided.{Decided}
use Rattle.model.specs.declared.moves.Move.{Move}
use Rattle.model.specs.declared.outcome.Call.{Call}
use Rattle.model.specs.declared.place.Place.{Place}
use Rattle.model.specs.declared.place.Negotiation.{Negotiation}
use Rattle.model.specs.declared.record.Record.{Record}
use Rattle.definition.specs.Types.{Step}
use Rattle.definition.specs.Next.{Next, mode, writing}
use Rattle.definition.specs.Moves.{next, decided}
use Rattle.definition.specs.Refusals.{sound}
use Rattle.definition.specs.Engine.{take, step, re_enter, resume, go_back, refuse, settle}
use Rattle.policy_engine.specs.Rulings.{answered, negotiated}

-- An outcome writes no mode on the way: the one that is written is the record's own
kept : (n : ℕ) (r : Record) (m : Move) → settle n r (writing (mode r.mode) (next m)) ≡ settle n r (next m)
kept n r (Move.To s) = refl
kept n r (Move.Negotiate q) = refl
kept n r (Move.ReadyAs (Change.DataRole d)) = refl
kept n r (Move.ReadyAs (Change.VconnSource v)) = refl
kept n r (Move.SendPsRdy source) = refl
kept n r (Move.DiscoverCable v) = refl
kept n r (Move.Stop e) = refl
kept n r (Move.Finish f) = refl
kept n r (Move.HandOver h) = refl
kept n r Move.Misfit = refl

pub kept_as : (n : ℕ) (r : Record) (d : Decided) (x : Next) → d.mode ≡ r.mode → next d.then ≡ x → settle n r (decided d) ≡ settle n r x
kept_as n r d x own h = ap (λ m. settle n r (writing (mode m) (next d.then))) own ∙ (kept n r d.then ∙ ap (settle n r) h)

pub if_unsound : (r : Record) (c : Call) → sound r ≡ false → refuse 1 r ≡ take r c
unfolding take step re_enter
if_unsound r (Call.Outcome o) s = simp s
if_unsound r (Call.ReEntry t b) s = simp s

-- A sound record at this place
abbrev resumed : Record → Place → Call → Step
resumed r p (Call.Outcome o) = resume r p o
resumed r p (Call.ReEntry t b) = go_back r p t b

if_sound : (r : Record) (c : Call) → sound r ≡ true → resumed r r.place c ≡ take r c
unfolding take step re_enter
if_sound r (Call.Outcome o) s = simp s
if_sound r (Call.ReEntry t b) s = simp s

at_negotiation : (r : Record) (w : Negotiation) (q : PowerSource) (c : Call) → negotiated r w q c ≡ resumed r (Place.Negotiating w q) c
at_negotiation r w q (Call.Outcome o) = refl
at_negotiation r w q (Call.ReEntry t b) = refl

pub while_negotiating : (r : Record) (w : Negotiation) (q : PowerSource) (c : Call) → sound r ≡ true → r.place ≡ Place.Negotiating w q
    → negotiated r w q c ≡ take r c
while_negotiating r w q c s p = rw (← p) at (at_negotiation r w q c) ∙ if_sound r c s

-- The places that hold no request
abbrev no_request : Place → Type 0
no_request p = (w : Negotiation) (q : PowerSource) → p ≡ Place.Negotiating w q → ⊥

at_place : (r : Record) (p : Place) (c : Call) → no_request p → answered r p c ≡ resumed r p c
at_place r (Place.Waiting s) (Call.Outcome o) t = refl
at_place r (Place.Waiting s) (Call.ReEntry n b) t = refl
at_place r (Place.Negotiating w q) c t = absurd (t w q refl)
at_place r (Place.Stopped n) (Call.Outcome o) t = refl
at_place r (Place.Stopped n) (Call.ReEntry m b) t = refl
at_place r (Place.HandedOver h) (Call.Outcome o) t = refl
at_place r (Place.HandedOver h) (Call.ReEntry m b) t = refl
at_place r (Place.Finished f) (Call.Outcome o) t = refl
at_place r (Place.Finished f) (Call.ReEntry m b) t = refl

pub with_no_request : (r : Record) (c : Call) → sound r ≡ true → no_request r.place → answered r r.place c ≡ take r c
with_no_request r c s t = at_place r r.place c t ∙ if_sound r c s
