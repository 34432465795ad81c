-- Reading entry by entry is reading the whole log. Assumes nothing.
use Rattle.std.proofs.Common.{Option, None, Some, ℕ, suc, ◌+◌, add-one, ◌≡◌, refl, ap, ◌∙◌, Bool, true, false, ◌&&◌, ◌||◌, eqb, eqb-true}
use Rattle.notation.specs.Rows.{◌⇒◌∣◌}
use Rattle.model.specs.declared.outcome.Outcome.{Outcome}
use Rattle.model.specs.declared.record.Action.{Action}
use Rattle.model.specs.declared.record.Contract.{Contract}
use Rattle.definition.specs.Log.{Log, empty, ◌▸◌, creation, outcome, re_entry, action, number, done, newest, newest_two, contract, hard_count, caps_count}
use Rattle.definition.specs.Log.{carried_by, explicit_of_newest}
use Rattle.definition.proofs.Laws.{by_test}
use Rattle.log_reader.specs.declared.entries.Entry.{Entry}
use Rattle.log_reader.specs.declared.entries.Newest.{Newest}
use Rattle.log_reader.specs.declared.entries.Reading.{Reading}
use Rattle.log_reader.specs.Reading.{entry, is_reset, is_capabilities_done, contract_after, hard_after, caps_after_timer, caps_after, supply_of}
use Rattle.log_reader.specs.Reading.{newest_action, after_action, contract_done, newest_done, after, first, newest_of, reading_of}
use Rattle.request.specs.declared.PowerSource.{PowerSource}

-- What the newest entry is, by the reader and by the log
is_capabilities : Newest → Bool
is_capabilities Newest.Reset = false
is_capabilities Newest.Capabilities = true
is_capabilities Newest.CapabilitiesDone = false
is_capabilities (Newest.Supply q) = false
is_capabilities Newest.Other = false

reset_action : (a b c : Bool) (x : Option PowerSource) → is_reset (a ⇒ Newest.Reset ∣ b ⇒ Newest.Capabilities ∣ c ⇒ supply_of x ∣ Newest.Other) ≡ a
reset_action true b c x = refl
reset_action false true c x = refl
reset_action false false true None = refl
reset_action false false true (Some q) = refl
reset_action false false false x = refl

never_reset : (n : Newest) → is_reset (newest_done n) ≡ false
never_reset Newest.Reset = refl
never_reset Newest.Capabilities = refl
never_reset Newest.CapabilitiesDone = refl
never_reset (Newest.Supply q) = refl
never_reset Newest.Other = refl

reset_outcome : (b : Bool) (n : Newest) → is_reset (b ⇒ newest_done n ∣ Newest.Other) ≡ false
reset_outcome true n = never_reset n
reset_outcome false n = refl

reset_newest : (l : Log) → is_reset (newest_of l) ≡ newest (number 1) l
unfolding newest_of newest_action
reset_newest empty = refl
reset_newest (l ▸ creation s) = refl
reset_newest (l ▸ outcome o) = reset_outcome (done (outcome o)) (newest_of l)
reset_newest (l ▸ re_entry t b) = refl
reset_newest (l ▸ action a) = reset_action (eqb a.number 1) (eqb a.number 4) (eqb a.number 9) a.request

-- Action 4 is the newest: no number is both 1 and 4
four_action : (n : ℕ) (x : Option PowerSource) → is_capabilities (newest_action n x) ≡ eqb n 4
unfolding newest_action is_capabilities
four_action n x = by_test (eqb n 1) (λ h. rw (eqb-true n 1 h) refl) (λ h. rw h (rest (eqb n 4) (eqb n 9) x))
  where
    rest : (b c : Bool) (x : Option PowerSource) → is_capabilities (b ⇒ Newest.Capabilities ∣ c ⇒ supply_of x ∣ Newest.Other) ≡ b
    rest true c x = refl
    rest false true None = refl
    rest false true (Some q) = refl
    rest false false x = refl

four_outcome : (b : Bool) (n : Newest) → is_capabilities (b ⇒ newest_done n ∣ Newest.Other) ≡ false
unfolding is_capabilities
four_outcome true Newest.Reset = refl
four_outcome true Newest.Capabilities = refl
four_outcome true Newest.CapabilitiesDone = refl
four_outcome true (Newest.Supply q) = refl
four_outcome true Newest.Other = refl
four_outcome false n = refl

four_newest : (l : Log) → is_capabilities (newest_of l) ≡ newest (number 4) l
unfolding newest_of is_capabilities
four_newest empty = refl
four_newest (l ▸ creation s) = refl
four_newest (l ▸ outcome o) = four_outcome (done (outcome o)) (newest_of l)
four_newest (l ▸ re_entry t b) = refl
four_newest (l ▸ action a) = four_action a.number a.request

done_outcome : (b : Bool) (n : Newest) → is_capabilities_done (b ⇒ newest_done n ∣ Newest.Other) ≡ (b && is_capabilities n)
unfolding is_capabilities
done_outcome true Newest.Reset = refl
done_outcome true Newest.Capabilities = refl
done_outcome true Newest.CapabilitiesDone = refl
done_outcome true (Newest.Supply q) = refl
done_outcome true Newest.Other = refl
done_outcome false n = refl

done_action : (a b c : Bool) (x : Option PowerSource) → is_capabilities_done (a ⇒ Newest.Reset ∣ b ⇒ Newest.Capabilities ∣ c ⇒ supply_of x ∣ Newest.Other) ≡ false
done_action true b c x = refl
done_action false true c x = refl
done_action false false true None = refl
done_action false false true (Some q) = refl
done_action false false false x = refl

done_newest : (l : Log) → is_capabilities_done (newest_of l) ≡ newest_two (number 4) done l
unfolding newest_of newest_action
done_newest empty = refl
done_newest (l ▸ creation s) = refl
done_newest (l ▸ outcome o) = done_outcome (done (outcome o)) (newest_of l) ∙ ap (λ b. done (outcome o) && b) (four_newest l)
done_newest (l ▸ re_entry t b) = refl
done_newest (l ▸ action a) = done_action (eqb a.number 1) (eqb a.number 4) (eqb a.number 9) a.request

-- The contract
contract_row : (n : ℕ) (b : Bool) (c : Contract) → (eqb n 3 ⇒ (b ⇒ Contract.Safe5V ∣ c) ∣ eqb n 9 ⇒ Contract.TransitionToExplicit ∣ c) ≡
    (eqb n 3 && b ⇒ Contract.Safe5V ∣ eqb n 9 ⇒ Contract.TransitionToExplicit ∣ c)
contract_row n b c = by_test (eqb n 3) (λ h. rw (eqb-true n 3 h) refl) (λ h. rw h refl)

contract_action : (l : Log) (a : Action) → contract_after a.number (newest_of l) (contract l) ≡ contract (l ▸ action a)
unfolding contract contract_after
contract_action l a = rw (reset_newest l) (contract_row a.number (newest (number 1) l) (contract l))

-- Its Done
carried_done : (x : Option PowerSource) (c : Contract) → contract_done (supply_of x) c ≡ carried_by x c
carried_done None c = refl
carried_done (Some q) c = refl

done_of_action : (n : ℕ) (x : Option PowerSource) (c : Contract) → contract_done (newest_action n x) c ≡ (eqb n 9 ⇒ carried_by x c ∣ c)
unfolding newest_action
done_of_action n x c = by_test (eqb n 9) (λ h. rw (eqb-true n 9 h) (carried_done x c)) (λ h. rw h (rest (eqb n 1) (eqb n 4)))
  where
    rest : (a b : Bool) → contract_done (a ⇒ Newest.Reset ∣ b ⇒ Newest.Capabilities ∣ Newest.Other) c ≡ c
    rest true b = refl
    rest false true = refl
    rest false false = refl

done_of_outcome : (b : Bool) (n : Newest) (c : Contract) → contract_done (b ⇒ newest_done n ∣ Newest.Other) c ≡ c
done_of_outcome true Newest.Reset c = refl
done_of_outcome true Newest.Capabilities c = refl
done_of_outcome true Newest.CapabilitiesDone c = refl
done_of_outcome true (Newest.Supply q) c = refl
done_of_outcome true Newest.Other c = refl
done_of_outcome false n c = refl

contract_of_done : (l : Log) (c : Contract) → contract_done (newest_of l) c ≡ (newest (number 9) l ⇒ explicit_of_newest l c ∣ c)
unfolding newest_of
contract_of_done empty c = refl
contract_of_done (l ▸ creation s) c = refl
contract_of_done (l ▸ outcome o) c = done_of_outcome (done (outcome o)) (newest_of l) c
contract_of_done (l ▸ re_entry t b) c = refl
contract_of_done (l ▸ action a) c = done_of_action a.number a.request c

-- The counts
counted_row : (a b d : Bool) (h : ℕ) → ◌≡◌ {A = ℕ} (a ⇒ h + 1 ∣ b ⇒ (d ⇒ 0 ∣ h) ∣ h) (a ⇒ suc h ∣ b && d ⇒ 0 ∣ h)
counted_row true b d h = add-one h
counted_row false true d h = refl
counted_row false false d h = refl

hard_action : (l : Log) (a : Action) → hard_after a.number (newest_of l) (hard_count l) ≡ hard_count (l ▸ action a)
unfolding hard_count hard_after
hard_action l a = rw (done_newest l) (counted_row (eqb a.number 13) (eqb a.number 5) (newest_two (number 4) done l) (hard_count l))

caps_row : (n x : ℕ) (d : Bool) (k : ℕ) → ◌≡◌ {A = ℕ} (eqb n 2 ⇒ (eqb x 2 ⇒ k + 1 ∣ eqb x 1 ⇒ (d ⇒ 0 ∣ k) ∣ k) ∣ eqb n 3 ⇒ (d ⇒ 0 ∣ k) ∣ k)
    (eqb n 2 && eqb x 2 ⇒ suc k ∣ (eqb n 3 || eqb n 2 && eqb x 1) && d ⇒ 0 ∣ k)
caps_row n x d k = by_test (eqb n 2) (λ h. rw (eqb-true n 2 h) (counted_row (eqb x 2) (eqb x 1) d k)) (λ h. rw h (three (eqb n 3)))
  where
    three : (a : Bool) → ◌≡◌ {A = ℕ} (a ⇒ (d ⇒ 0 ∣ k) ∣ k) ((a || false) && d ⇒ 0 ∣ k)
    three true = refl
    three false = refl

caps_action : (l : Log) (a : Action) → caps_after a.number a.argument (newest_of l) (caps_count l) ≡ caps_count (l ▸ action a)
unfolding caps_count caps_after caps_after_timer
caps_action l a = rw (reset_newest l) (caps_row a.number a.argument (newest (number 1) l) (caps_count l))

same_reading : (c c' : Contract) (h h' k k' : ℕ) (n n' : Newest) → c ≡ c' → h ≡ h' → k ≡ k' → n ≡ n'
    → ◌≡◌ {A = Reading} (record { contract = c; hard = h; caps = k; newest = n }) (record { contract = c'; hard = h'; caps = k'; newest = n' })
same_reading c c' h h' k k' n n' p q r s = rw (p, q, r, s)

-- One entry more, read by the reader, is what the rules read of the longer log
outcome_read : (l : Log) (o : Outcome) → after (reading_of l) (Entry.Outcome o) ≡ reading_of (l ▸ outcome o)
unfolding contract hard_count caps_count newest_of
outcome_read l Outcome.Done = same_reading _ _ _ _ _ _ _ _ (contract_of_done l (contract l)) refl refl refl
outcome_read l (Outcome.Failed e) = refl
outcome_read l Outcome.DpmFailed = refl
outcome_read l Outcome.NoSafe = refl
outcome_read l (Outcome.Message m) = refl
outcome_read l (Outcome.Lookup f) = refl
outcome_read l (Outcome.Evaluation v) = refl
outcome_read l (Outcome.YesNo b) = refl
outcome_read l (Outcome.Event e) = refl
outcome_read l (Outcome.Timeout t) = refl

action_read : (l : Log) (a : Action) → after_action (reading_of l) a ≡ reading_of (l ▸ action a)
unfolding after_action newest_of
action_read l a = same_reading _ _ _ _ _ _ _ _ (contract_action l a) (hard_action l a) (caps_action l a) refl

pub read_whole : (l : Log) (e : Entry) → after (reading_of l) e ≡ reading_of (l ▸ entry e)
unfolding contract hard_count caps_count newest_of
read_whole l (Entry.Creation s) = refl
read_whole l (Entry.Outcome o) = outcome_read l o
read_whole l (Entry.ReEntry t b) = refl
read_whole l (Entry.Action a) = action_read l a

-- and before the first entry it is what they read of the empty log
pub begin_empty : first ≡ reading_of empty
unfolding contract hard_count caps_count newest_of
begin_empty = refl
