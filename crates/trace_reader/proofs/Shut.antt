-- The MIR type of what the reader gives under a shut name, for the walks of functions that hold one: an event spells out every call of `source`, and a
-- walk that spells it out at each step runs out of the checker's steps.
-- No proof walks such a function now, and none cites this. Assumes nothing.
use mathlib.Core.List.{[], ◌∷◌}
use lib.Dec.{T as Holds}
use seplogic.Ra.Ura.{Ura}
use mir.Syntax.{Ty}
use mir.Val.{Val, WT, has_ty}
use types.Logic.{Logic}
use denote.Laws.{Is}
use denote.Memory.{lone}
use Rattle.std.specs.Prelude.{Option, Result}
use Rattle.std.specs.contracts.option.Option as O
use Rattle.std.specs.contracts.result.Result as R
use Rattle.std.proofs.option.Option.TheLaws as O'
use Rattle.std.proofs.result.Result.TheLaws as R'
use Rattle.model.specs.contracts.outcome.Call as C
use Rattle.model.proofs.outcome.Call.TheLaws as C'
use Rattle.events.specs.Types.{Call}
use Rattle.events.specs.declared.decoding.Malformed.{Malformed}
use Rattle.events.specs.contracts.decoding.Malformed as B
use Rattle.events.proofs.decoding.Malformed.TheLaws as B'

unfoldable pub τE : Ty
τE = lone (O.the_row (R.the_row C.the_row B.the_row)).mir

-- an event's machine value is of that type
pub typed : {M : Type 1} {𝓤 : Ura M} (𝓛 : Logic 𝓤) → (e : Option (Result Call Malformed)) (u : Val)
    → Is (O.the_row (R.the_row C.the_row B.the_row)) e (u ∷ []) → Holds (has_ty τE u) × WT u
unfolding τE
typed 𝓛 e u is =
    (((O'.the_row_laws _ (R'.the_row_laws C.the_row B.the_row C'.the_row_laws B'.the_row_laws)).lawful 𝓛).typed e _ is).0
