-- The definition's `when-..` are choices on what the code sees of an outcome. Assumes nothing.
use Rattle.std.proofs.Common.{ℕ, ◌≡◌, rules, Option, Some, None, Result, Ok, Err}
use Rattle.model.specs.declared.outcome.Outcome.{Outcome}
use Rattle.model.specs.declared.outcome.Message.{Message}
use Rattle.model.specs.declared.place.Finish.{Finish}
use Rattle.definition.specs.Next.{Next, misfit, finish}
use Rattle.definition.specs.Outcomes.{when_done, when_tried, when_driven, when_heard}
use Rattle.replies.specs.declared.Reply.{Reply}
use Rattle.replies.specs.Replies.{reply, heard}

abbrev pub on_reply : Next → (ℕ → Next) → Next → Reply → Next
on_reply done failed dpm_failed Reply.Done = done
on_reply done failed dpm_failed (Reply.Failed e) = failed e
on_reply done failed dpm_failed Reply.DpmFailed = dpm_failed
on_reply done failed dpm_failed Reply.Other = misfit

abbrev pub on_heard : (Message → Next) → (ℕ → Next) → Option (Result Message ℕ) → Next
on_heard message failed (Some (Ok m)) = message m
on_heard message failed (Some (Err e)) = failed e
on_heard message failed None = misfit

pub done_by_reply : (n : Next) (o : Outcome) → when_done n o ≡ on_reply n (λ e. misfit) misfit (reply o)
done_by_reply n o = search rules

pub tried_by_reply : (n : Next) (f : ℕ → Next) (o : Outcome) → when_tried n f o ≡ on_reply n f misfit (reply o)
tried_by_reply n f o = search rules

pub driven_by_reply : (n : Next) (f : Finish) (o : Outcome) → when_driven n f o ≡ on_reply n (λ e. misfit) (finish f) (reply o)
driven_by_reply n f o = search rules

pub heard_by : (f : Message → Next) (g : ℕ → Next) (o : Outcome) → when_heard f g o ≡ on_heard f g (heard o)
heard_by f g o = search rules
