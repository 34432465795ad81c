-- What is left to search finds what the search of all rows finds.
use Rattle.dispatch.proofs.Seeking.{Kept}
use Rattle.dispatch.proofs.search.find.Given as goal

abbrev pub invariant-loop-n : goal.invariant-loop-n
invariant-loop-n l = Kept l.class l.message_type l.mode l.dual_role l.bad_payload l.n-end l.n
