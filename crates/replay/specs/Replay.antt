-- A trace, begun: "R7 or a bad header (..; these before R7) ends it at entry 0". Assumes nothing.
use Rattle.std.specs.Prelude.{ℕ, List, Result, Ok, Err}
use Rattle.definition.specs.Types.{Created}
use Rattle.definition.specs.Engine.{create, not_created}
use Rattle.model.specs.declared.record.Settings.{Settings}
use Rattle.trace.specs.declared.beginning.BadHeader.{BadHeader}
use Rattle.trace.specs.Beginning.{header}

abbrev pub started : Result Settings BadHeader → Created
started (Err e) = not_created 8
started (Ok s) = create s

unfoldable pub start : List ℕ → Created
start file = started (header file)
