use Rattle.std.proofs.Common.{length, ◌-◌}
use Rattle.list.proofs.lines.Given as goal

-- What is left of the file
abbrev pub decreases-loop-to : goal.decreases-loop-to
decreases-loop-to g l = length l.fn.file - l.at
