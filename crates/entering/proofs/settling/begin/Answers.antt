use Rattle.entering.proofs.Entries.{begun_told}
use Rattle.entering.proofs.settling.begin.Goals as goal

pub returns : goal.returns
returns c = simp (c.startup.ensures, c.first_wait.ensures, c.blank.ensures) (begun_told c.args.settings)
