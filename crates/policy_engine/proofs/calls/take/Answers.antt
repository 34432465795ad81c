use Rattle.std.proofs.Common.{sym, ◌∙◌}
use Rattle.policy_engine.proofs.Taken.{if_unsound, while_negotiating, with_no_request}
use Rattle.policy_engine.proofs.calls.take.Goals as goal

pub returns-in-Negotiating : goal.returns-in-Negotiating
returns-in-Negotiating c = c.negotiating.ensures ∙ while_negotiating _ _ _ _ (sym c.sound.ensures ∙ c.if-sound.true) c.in-Negotiating.is

pub returns-in_default : goal.returns-in_default
returns-in_default c =
    c.settle.ensures ∙ c.rule.ensures ∙ with_no_request _ _ (sym c.sound.ensures ∙ c.if-sound.true) c.in_default.not-Negotiating

pub returns-else-sound : goal.returns-else-sound
returns-else-sound c = c.refuse.ensures ∙ if_unsound _ _ (sym c.sound.ensures ∙ c.if-sound.false)
