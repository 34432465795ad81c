-- What `create`, `step` and `re_enter` promise, for any three functions and whatever can be handed to them; and the listing that document 01
-- shows. Assumes nothing.
use Rattle.std.specs.Prelude.{Some, ℕ, ◌≡◌, true, false}
use Rattle.definition.specs.Types.{Setting, Settings, Record, Outcome, Step, Created, PowerSource, Message, CapabilityResponse}
use Rattle.definition.specs.Held.{Byte, Half, HeldSettings, HeldRecord, HeldOutcome}
use Rattle.definition.specs.Entering.{begun}
use Rattle.definition.specs.Engine.{create, step, re_enter, tell}

pub record Promised (creates : Settings → Created) (steps : Record → Outcome → Step) (re_enters : Record → ℕ → ℕ → Step) : Type 0 where
  pub on_create : (s : Settings) → HeldSettings s → creates s ≡ create s
  pub on_step : (r : Record) (o : Outcome) → HeldRecord r → HeldOutcome o → steps r o ≡ step r o
  pub on_re_entry : (r : Record) (target change : ℕ) → HeldRecord r → Byte target → Half change → re_enters r target change ≡ re_enter r target change

-- "For flags 4, limits 2 and 50, then Done, Done, a kind 0 Request, Accept, Done, Done, Done"
abbrev pub example : Settings
example = record {
  port = record { dual_role = false; vconn_source = true; setting = Setting.Crate };
  role_swapped = false;
  hard_limit = 2;
  caps_limit = 50;
}

abbrev pub entry_0 : Step
entry_0 = tell (begun example)

abbrev pub fixed : ℕ → PowerSource
fixed word = PowerSource.FixedVariableSupply (record { 0 = word })

abbrev pub request : ℕ → Outcome
request word = Outcome.Message (Message.Request (Some (fixed word)))

abbrev pub accept : Outcome
accept = Outcome.Evaluation CapabilityResponse.Accept

abbrev pub then : (Record → Outcome → Step) → Step → Outcome → Step
then steps s o = steps s.«record» o
