-- An outcome as the code takes it apart: what an action that is carried out reports, and what one that receives reports. proofs/Replies.antt of
-- `outcomes` shows that the definition's `when-..` are choices on these. Assumes nothing.
use Rattle.std.specs.Prelude.{ℕ, Option, Some, None, Result, Ok, Err}
use Rattle.model.specs.declared.outcome.Message.{Message}
use Rattle.model.specs.declared.outcome.Outcome.{Outcome}
use Rattle.replies.specs.declared.Reply.{Reply}

abbrev pub reply : Outcome → Reply
reply Outcome.Done = Reply.Done
reply (Outcome.Failed e) = Reply.Failed e
reply Outcome.DpmFailed = Reply.DpmFailed
reply Outcome.NoSafe = Reply.Other
reply (Outcome.Message m) = Reply.Other
reply (Outcome.Lookup f) = Reply.Other
reply (Outcome.Evaluation v) = Reply.Other
reply (Outcome.YesNo b) = Reply.Other
reply (Outcome.Event e) = Reply.Other
reply (Outcome.Timeout t) = Reply.Other

abbrev pub heard : Outcome → Option (Result Message ℕ)
heard Outcome.Done = None
heard (Outcome.Failed e) = Some (Err e)
heard Outcome.DpmFailed = None
heard Outcome.NoSafe = None
heard (Outcome.Message m) = Some (Ok m)
heard (Outcome.Lookup f) = None
heard (Outcome.Evaluation v) = None
heard (Outcome.YesNo b) = None
heard (Outcome.Event e) = None
heard (Outcome.Timeout t) = None
