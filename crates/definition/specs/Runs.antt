-- Runs: a creation, then any calls, refused ones included, through three functions; and the log that a run leaves. Assumes nothing.
use Rattle.std.specs.Prelude.{Option, None, Some, ℕ, ◌≡◌, List, [], ◌∷◌}
use Rattle.notation.specs.Rows.{◌⇒◌∣◌, ◌is◌}
use Rattle.definition.specs.Types.{Settings, Call, Record, Outcome, Step, Created, Action}
use Rattle.definition.specs.Engine as engine
use Rattle.definition.specs.Held.{Byte, Half, HeldSettings, HeldOutcome, HeldCall}
use Rattle.definition.specs.Paper.{refusal}
use Rattle.definition.specs.Log.{Entry, creation, outcome, re_entry, action, Log, empty, ◌▸◌}

-- The actions of a call, in order; an unused place is no entry
abbrev pub issue : Log → Action → Log
issue l a = a.number is 0 ⇒ l ∣ l ▸ action a

abbrev pub issued : Log → List Action → Log
issued l [] = l
issued l (a ∷ rest) = issued (issue l a) rest

pub data Run : Type 0 where
  nothing : Run
  running : Record → Log → Run

abbrev pub made : Log → Option Record → Run
made l None = nothing
made l (Some r) = running r l

-- A refused call adds no entry
abbrev pub called : Log → Entry → Step → Run
called l e s = refusal s.answer is 0 ⇒ running s.«record» (issued (l ▸ e) s.actions) ∣ running s.«record» l

-- A creation and then calls, each of what the types hold
pub data Calls : Type 0 where
  create : (s : Settings) → HeldSettings s → Calls
  then : Calls → (c : Call) → HeldCall c → Calls

module _ (creates : Settings → Created) (steps : Record → Outcome → Step) (re_enters : Record → ℕ → ℕ → Step) where
  abbrev pub call : Run → Call → Run
  call nothing c = nothing
  call (running r l) (Call.Outcome o) = called l (outcome o) (steps r o)
  call (running r l) (Call.ReEntry t b) = called l (re_entry t b) (re_enters r t b)

  -- Any prefix of the calls is a run, so what holds of every run holds at each point
  unfoldable pub run : Calls → Run
  run (create s h) = made (issued (empty ▸ creation s) (creates s).actions) (creates s).«record»
  run (then cs c h) = call (run cs) c

-- A run as a program has it: what was called and what came back. Of what came back each call's promise says that it is what the definition gives
pub data History : Type 0 where
  created : Settings → Created → History
  stepped : History → Outcome → Step → History
  re_entered : History → ℕ → ℕ → Step → History

abbrev pub came_back : Run → Entry → Step → Run
came_back nothing e s = nothing
came_back (running r l) e s = called l e s

abbrev pub told : History → Run
told (created s c) = made (issued (empty ▸ creation s) c.actions) c.«record»
told (stepped h o s) = came_back (told h) (outcome o) s
told (re_entered h t b s) = came_back (told h) (re_entry t b) s

abbrev pub given : Run → (Record → Step) → Step → Type 0
given nothing f s = Unit
given (running r l) f s = s ≡ f r

unfoldable pub Promises : History → Type 0
Promises (created s c) = HeldSettings s × (c ≡ engine.create s)
Promises (stepped h o s) = Promises h × HeldOutcome o × given (told h) (λ r. engine.step r o) s
Promises (re_entered h t b s) = Promises h × (Byte t × Half b) × given (told h) (λ r. engine.re_enter r t b) s
