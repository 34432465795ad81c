-- "Two results allowed by it are proved equal": of the functions whose promise says a reader's file and place, and of those that read there.
-- Assumes nothing.
use Prim.Native.Nat.{ℕ, ◌-◌}
use mathlib.Core.Path.{◌≡◌, refl, sym, ◌∙◌}
use mathlib.Core.List.{List}
use seplogic.Ra.Ura.{Ura}
use base.Logic.{SProp}
use prog.Memory.{Memory}
use prog.Routine.{Routine}
use types.Logic.{Logic}
use contract.Lifetimes.{Lfts}
use contract.Monad.{Fun, fact}
use contract.Notation.{connectives}
use denote.Ref.{Bor}
use denote.MutBor.{MutBor}
use denote.Triple.Clauses.{AtExit}
use Rattle.std.specs.Prelude.{Option, Result, length, ⊤}
use Rattle.std.specs.Iterator.{MakesProgress, at_most}
use Rattle.events.specs.Types.{Call}
use Rattle.events.specs.declared.decoding.Malformed.{Malformed}
use Rattle.trace_reader.specs.declared.Reader.{Reader}
use Rattle.trace_reader.specs.Read as read
use Rattle.trace_reader.specs.contracts.new as new
use Rattle.trace_reader.specs.contracts.moved as moved
use Rattle.trace_reader.specs.contracts.ReaderIterator.next as next

-- A reader of this file at this place
abbrev pub Placed : Bor (List ℕ) → ℕ → Reader → Type 0
Placed file at r = (r.file ≡ file) × (r.at ≡ at)

pub unique_reader : (file : Bor (List ℕ)) (at : ℕ) (a b : Reader) → Placed file at a → Placed file at b → a ≡ b
unique_reader file at a b h k = the_fields (h.0 ∙ sym k.0) (h.1 ∙ sym k.1)
  where
    the_fields : a.file ≡ b.file → a.at ≡ b.at → ◌≡◌ {A = Reader} (record { file = a.file; at = a.at }) (record { file = b.file; at = b.at })
    the_fields f p = rw (f, p)

-- What stands at a place, and the place after, are one value each
pub unique_event : (file : List ℕ) (at : ℕ) (a b : Option (Result Call Malformed)) → a ≡ read.event file at → b ≡ read.event file at → a ≡ b
unique_event file at a b h k = h ∙ sym k

pub unique_after : (at a b : ℕ) → a ≡ read.after at → b ≡ read.after at → a ≡ b
unique_after at a b h k = h ∙ sym k

-- The promises, as the contracts have them: all that `new`, `moved` and the iterator's `next` ensure of a result, and of the reader that `next` leaves
module _ {M : Type 1} {𝓤 : Ura M} (𝓛 : Logic 𝓤) (mem : Memory → SProp 𝓤) (run : Routine → Fun 𝓤) where
  open connectives 𝓤 use {◌∗◌}

  pub new_promises : (κs : Lfts 1) (file : Bor (List ℕ)) (end : AtExit new.ended κs) (r : Reader)
      → (new.clauses 𝓛 mem run κs (file, tt)).ensures tt r end ≡ fact 𝓤 (Placed file 8 r)
  new_promises κs file end r = refl

  pub moved_promises : (κs : Lfts 1) (r : Reader) (end : AtExit moved.ended κs) (q : Reader)
      → (moved.clauses 𝓛 mem run κs (r, tt)).ensures tt q end ≡ fact 𝓤 (Placed r.file (read.after r.at) q)
  moved_promises κs r end q = refl

  pub next_promises : (κs : Lfts 2) (r : MutBor Reader) (end : AtExit next.ended κs) (e : Option (Result Call Malformed))
      → (next.clauses 𝓛 mem run κs (r, tt)).ensures tt e end
      ≡ (fact 𝓤 ((e ≡ read.event r.now.file.now r.now.at) × (end.0.now.file ≡ r.now.file) × (end.0.now.at ≡ read.after r.now.at))
      ∗ fact 𝓤 (MakesProgress (λ _. ⊤) (λ q. at_most (length q.file.now - q.at)) r.now e end.0.now))
  next_promises κs r end e = refl
