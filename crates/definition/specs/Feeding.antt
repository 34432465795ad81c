-- Who feeds VCONN (document 02, order 6), a second time: by the numbers of actions and the codes of a trace. proofs/Feeding.antt shows that the engine
-- agrees. Assumes nothing.
use Rattle.std.specs.Prelude.{Bool, false, not, ◌&&◌, ◌||◌, List, [], ◌∷◌}
use Rattle.notation.specs.Rows.{◌⇒◌∣◌, ◌is◌}
use Rattle.definition.specs.Types.{Action, Call, Record, Step}
use Rattle.definition.specs.Paper.{awaits, refusal, starts_up, is_standard}
use Rattle.definition.specs.Roles.{reports_done}

-- One of the actions is 15
unfoldable pub hard_resets : List Action → Bool
hard_resets [] = false
hard_resets (a ∷ rest) = a.number is 15 || hard_resets rest

-- "driving VCONN off in TurnOffVconn clears it, and driving it on in TurnOnVconn or VcsForceVconn sets it, each once the DPM reports success": a Done of
-- 14.0 or 14.1, but for TransitionToDefault's, of which the first issues 15 and the second comes to Startup
abbrev pub drove_vconn : Record → Call → Step → Bool
drove_vconn r c s = (awaits r).number is 14 && (reports_done c && not (hard_resets s.actions))

-- "Startup sets it back to its creation value"
unfoldable pub vconn_after : Record → Call → Step → Bool
vconn_after r c s =
    not (refusal s.answer is 0 && is_standard r.port.setting) ⇒ r.vconn_source ∣
    starts_up s.actions ⇒ r.port.vconn_source ∣
    drove_vconn r c s ⇒ (awaits r).argument is 1 ∣
    r.vconn_source
