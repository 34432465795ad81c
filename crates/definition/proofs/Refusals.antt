-- Each refusal is given exactly when its row of document 01's table says, in the stated order; and a refusal leaves the record as it was.
-- Assumes nothing.
use Rattle.std.specs.Prelude.{None}
use Prim.Native.Nat.{ℕ}
use mathlib.Core.Path.{◌≡◌, refl, ap, sym, ◌∙◌}
use mathlib.Core.Bool.{Bool, true, false, not, ◌&&◌, ◌||◌, or-false}
use mathlib.Core.List.{[], ◌∷◌}
use native.Mathlib.Omega.{arith}
use lib.Dec.{eqb, ltb}
use Rattle.notation.specs.Rows.{◌⇒◌∣◌, ◌is◌}
use Rattle.request.specs.Requests.{same}
use Rattle.definition.specs.Types.{Record, Settings, Mode, Place, Negotiation, PowerSource, Message, Outcome, Contract, Counter, Step}
use Rattle.definition.specs.Types.{Answer}
use Rattle.definition.specs.Next.{Write, mode, Next, to, misfit, straight, writing}
use Rattle.definition.specs.Actions.{none, awaited}
use Rattle.definition.specs.SourcePort.{negotiation_awaits}
use Rattle.definition.specs.States.{standing, after}
use Rattle.definition.specs.Entering.{arrive, written, begun}
use Rattle.definition.specs.Refusals.{sound, counted, place_sound, bad_event, target, change_allowed, changed, allowed_target, re_entry, uncreatable}
use Rattle.definition.specs.Refusals.{transitioning, explicit_of}
use Rattle.definition.specs.Engine.{answer, issues, tell, refuse, settle, resume, step, go_back, re_enter, create, created, not_created}
use Rattle.definition.specs.Paper.{fits, one_of, message_fits, refusal, r1_row, ps_rdy_without, finished, waiting, handed_over}
use Rattle.definition.specs.Paper.{in_transition, explicitly, message_out_of_range, out_of_range, step_refusal, r6_row, re_entry_refusal, create_refusal}
use Rattle.definition.proofs.Laws.{positive, at_most}
use Rattle.definition.proofs.Said.{finish_said, handover_said}
use Rattle.definition.proofs.Groups.{fit}
use Rattle.definition.proofs.Fits.{after_fits, negotiation_fits}
use Rattle.definition.proofs.Issued.{no_nine}

-- R1
five : (a b c d y : Bool) → (a || (b || (c || (d || not y)))) ≡ not ((not a && not c) && ((not b && not d) && y))
five true b c d y = refl
five false true true d y = refl
five false true false d y = refl
five false false true d y = refl
five false false false true y = refl
five false false false false y = refl

transition_said : (c : Contract) → transitioning c ≡ in_transition c
transition_said Contract.Safe5V = refl
transition_said Contract.Implicit = refl
transition_said Contract.TransitionToExplicit = refl
transition_said (Contract.Explicit p) = refl
transition_said Contract.Invalid = refl

explicit_said : (q : PowerSource) (c : Contract) → explicit_of q c ≡ explicitly q c
unfolding same
explicit_said q Contract.Safe5V = refl
explicit_said q Contract.Implicit = refl
explicit_said q Contract.TransitionToExplicit = refl
explicit_said q (Contract.Explicit p) = refl
explicit_said q Contract.Invalid = refl

place_row : (r : Record) (c : Contract) (p : Place) → ((awaited (issues r p)).number is 9 && not (in_transition c) || ps_rdy_without p c) ≡ not (place_sound p c)
place_row r c (Place.Waiting s) = ap (λ b. b && not (in_transition c) || false) (no_nine r.mode r.contract r.data_role r.vconn_source r.port s)
place_row r c (Place.Negotiating Negotiation.Lookup q) = refl
place_row r c (Place.Negotiating Negotiation.Evaluate q) = refl
place_row r c (Place.Negotiating Negotiation.Accept q) = refl
place_row r c (Place.Negotiating Negotiation.Supply q) = or-false _ ∙ ap not (sym (transition_said c))
place_row r c (Place.Negotiating Negotiation.PsRdy q) = ap not (sym (explicit_said q c))
place_row r c (Place.Stopped e) = refl
place_row r c (Place.HandedOver h) = refl
place_row r c (Place.Finished f) = refl

counted_as : (c : Counter) → counted c ≡ (not (eqb c.max_value 0) && not (ltb c.max_value c.value))
unfolding counted
counted_as c = rw (positive c.max_value, at_most c.value c.max_value)

-- R1 is given exactly when its row says
pub r1_row_unsound : (r : Record) → r1_row r ≡ not (sound r)
unfolding r1_row sound
r1_row_unsound r =
    rw (place_row r r.contract r.place, counted_as r.hard_reset_counter, counted_as r.caps_counter)
    (five (eqb r.hard_reset_counter.max_value 0) (eqb r.caps_counter.max_value 0)
    (ltb r.hard_reset_counter.max_value r.hard_reset_counter.value)
    (ltb r.caps_counter.max_value r.caps_counter.value) (place_sound r.place r.contract))

-- An answer that a place says is no refusal
answer_no_refusal : (p : Place) → refusal (answer p) ≡ 0
answer_no_refusal (Place.Waiting s) = refl
answer_no_refusal (Place.Negotiating w q) = refl
answer_no_refusal (Place.Stopped e) = refl
answer_no_refusal (Place.HandedOver h) = rw (handover_said h)
answer_no_refusal (Place.Finished f) = rw (finish_said f)

pub tell_no_refusal : (r : Record) → refusal (tell r).answer ≡ 0
unfolding tell
tell_no_refusal r = answer_no_refusal r.place

settled : (n : ℕ) (r : Record) (x : Next) → refusal (settle n r x).answer ≡ (fit x ⇒ 0 ∣ n)
settled n r (to w p) = tell_no_refusal (arrive (written w r) p)
settled n r misfit = refl

-- R5 in a state: a bad event, or one that does not fit
judged : (b : Bool) (x : Next) (f : Bool) → fit x ≡ f → ◌≡◌ {A = ℕ} (fit (b ⇒ misfit ∣ x) ⇒ 0 ∣ 5) (not f || b ⇒ 5 ∣ 0)
judged true x true h = refl
judged true x false h = refl
judged false x true h = ap (λ c. c ⇒ 0 ∣ 5) h
judged false x false h = ap (λ c. c ⇒ 0 ∣ 5) h

message_ranges : (m : Message) → bad_event (Outcome.Message m) ≡ message_out_of_range m
message_ranges (Message.Request p) = refl
message_ranges (Message.EprRequest p) = refl
message_ranges (Message.EprMode p) = refl
message_ranges (Message.Control t) = refl
message_ranges (Message.ExtendedControl p) = refl
message_ranges Message.Other = refl
message_ranges (Message.SinkCapabilities good) = refl
message_ranges (Message.EprSinkCapabilities good) = refl

ranges : (o : Outcome) → bad_event o ≡ out_of_range o
ranges Outcome.Done = refl
ranges (Outcome.Failed e) = refl
ranges Outcome.DpmFailed = refl
ranges Outcome.NoSafe = refl
ranges (Outcome.Message m) = message_ranges m
ranges (Outcome.Lookup f) = refl
ranges (Outcome.Evaluation v) = refl
ranges (Outcome.YesNo b) = refl
ranges (Outcome.Event e) = refl
ranges (Outcome.Timeout t) = refl

-- While a request is negotiated no message fits, and so no bad one
negotiation_deaf : (w : Negotiation) (q : PowerSource) (o : Outcome)
    → (not (fits (awaited (negotiation_awaits w q).issues) o) || out_of_range o) ≡ not (fits (awaited (negotiation_awaits w q).issues) o)
unfolding fits message_fits
negotiation_deaf w q Outcome.Done = or-false _
negotiation_deaf w q (Outcome.Failed e) = or-false _
negotiation_deaf w q Outcome.DpmFailed = or-false _
negotiation_deaf w q Outcome.NoSafe = or-false _
negotiation_deaf Negotiation.Lookup q (Outcome.Message m) = refl
negotiation_deaf Negotiation.Evaluate q (Outcome.Message m) = refl
negotiation_deaf Negotiation.Accept q (Outcome.Message m) = refl
negotiation_deaf Negotiation.Supply q (Outcome.Message m) = refl
negotiation_deaf Negotiation.PsRdy q (Outcome.Message m) = refl
negotiation_deaf w q (Outcome.Lookup f) = or-false _
negotiation_deaf w q (Outcome.Evaluation v) = or-false _
negotiation_deaf w q (Outcome.YesNo b) = or-false _
negotiation_deaf w q (Outcome.Event e) = or-false _
negotiation_deaf w q (Outcome.Timeout t) = or-false _

unfit : (f : Bool) → ◌≡◌ {A = ℕ} (f ⇒ 0 ∣ 5) (not f ⇒ 5 ∣ 0)
unfit true = refl
unfit false = refl

-- R2, R4 and R5, in that order
after_r1 : Record → Place → Outcome → ℕ
after_r1 r p o =
    finished p ⇒ 2 ∣
    not (waiting p) ⇒ 4 ∣
    not (fits (awaited (issues r p)) o) || out_of_range o ⇒ 5 ∣
    0

resumed : (r : Record) (p : Place) (o : Outcome) → refusal (resume r p o).answer ≡ after_r1 r p o
unfolding after_r1
resumed r (Place.Waiting s) o =
    settled 5 r (bad_event o ⇒ misfit ∣ after r s o) ∙ (judged (bad_event o) (after r s o) _ (after_fits r.mode r.contract r.data_role r.vconn_source r.port s o) ∙
    ap (λ b. not (fits (awaited (standing r s).issues) o) || b ⇒ 5 ∣ 0) (ranges o))
resumed r (Place.Negotiating w q) o =
    settled 5 r ((negotiation_awaits w q).then o) ∙ (ap (λ f. f ⇒ 0 ∣ 5) (negotiation_fits w q o) ∙
    (unfit (fits (awaited (negotiation_awaits w q).issues) o) ∙ sym (ap (λ b. b ⇒ 5 ∣ 0) (negotiation_deaf w q o))))
resumed r (Place.Stopped e) o = refl
resumed r (Place.HandedOver h) o = refl
resumed r (Place.Finished f) o = refl

first_row : (b : Bool) (r : Record) (s : Step) (n : ℕ) → refusal s.answer ≡ n → refusal (b ⇒ s ∣ refuse 1 r).answer ≡ (not b ⇒ 1 ∣ n)
first_row true r s n h = h
first_row false r s n h = refl

-- Step is refused exactly as the table says, in its order
pub step_refused : (r : Record) (o : Outcome) → refusal (step r o).answer ≡ step_refusal r o
unfolding step step_refusal after_r1
step_refused r o = rw (r1_row_unsound r) (first_row (sound r) r (resume r r.place o) _ (resumed r r.place o))

-- R6: the rows of the targets, and of the mode changes
target_row : (b a c : Bool) (p : Place) (x : Next) → fit x ≡ (a || c) → fit (b ⇒ straight p ∣ x) ≡ ((b || a) || c)
target_row true a c p x h = refl
target_row false a c p x h = h

handed_rows : (h b d : Bool) (p q : Place) → fit (b ⇒ (h ⇒ straight p ∣ misfit) ∣ (d ⇒ (h ⇒ straight q ∣ misfit) ∣ misfit)) ≡ (h && (b || (d || false)))
handed_rows true true d p q = refl
handed_rows true false true p q = refl
handed_rows true false false p q = refl
handed_rows false true d p q = refl
handed_rows false false true p q = refl
handed_rows false false false p q = refl

named_target : (handed : Bool) (t : ℕ) → fit (target handed t) ≡ (one_of (0 ∷ 1 ∷ 2 ∷ 3 ∷ 4 ∷ 5 ∷ 6 ∷ 7 ∷ 8 ∷ 9 ∷ []) t || handed && one_of (10 ∷ 11 ∷ []) t)
unfolding target one_of
named_target handed t =
    target_row (eqb t 0) _ _ _ _ (target_row (eqb t 1) _ _ _ _ (target_row (eqb t 2) _ _ _ _ (target_row (eqb t 3) _ _ _ _
    (target_row (eqb t 4) _ _ _ _ (target_row (eqb t 5) _ _ _ _ (target_row (eqb t 6) _ _ _ _ (target_row (eqb t 7) _ _ _ _
    (target_row (eqb t 8) _ _ _ _ (target_row (eqb t 9) _ _ _ _ (handed_rows handed (eqb t 10) (eqb t 11) _ _))))))))))

three_rows : (h a b c : Bool) → (a ⇒ true ∣ (b ⇒ h ∣ (c ⇒ h ∣ false))) ≡ (a || h && (b || (c || false)))
three_rows h true b c = refl
three_rows true false true c = refl
three_rows true false false true = refl
three_rows true false false false = refl
three_rows false false true c = refl
three_rows false false false true = refl
three_rows false false false false = refl

allowed_change : (handed : Bool) (b : ℕ) → change_allowed handed b ≡ (b is 0 || handed && one_of (1 ∷ 2 ∷ []) b)
unfolding change_allowed one_of
allowed_change handed b = three_rows handed (eqb b 0) (eqb b 1) (eqb b 2)

written_fits : (w : Write) (x : Next) → fit (writing w x) ≡ fit x
written_fits w (to v p) = refl
written_fits w misfit = refl

both_allowed : (b : Bool) (w : Write) (x : Next) (f : Bool) → fit x ≡ f → ◌≡◌ {A = ℕ} (fit (writing w (b ⇒ x ∣ misfit)) ⇒ 0 ∣ 6) (not f || not b ⇒ 6 ∣ 0)
both_allowed true w x true h = ap (λ c. c ⇒ 0 ∣ 6) (written_fits w x ∙ h)
both_allowed true w x false h = ap (λ c. c ⇒ 0 ∣ 6) (written_fits w x ∙ h)
both_allowed false w x true h = refl
both_allowed false w x false h = refl

targeted : (handed : Bool) (r : Record) (m : Mode) (t b : ℕ) → ◌≡◌ {A = ℕ} (refusal (settle 6 r (re_entry handed m t b)).answer) (r6_row handed t b ⇒ 6 ∣ 0)
unfolding re_entry allowed_target r6_row
targeted handed r m t b =
    settled 6 r (writing (mode (changed b m)) (change_allowed handed b ⇒ target handed t ∣ misfit)) ∙
    rw (allowed_change handed b) (both_allowed (b is 0 || handed && one_of (1 ∷ 2 ∷ []) b) (mode (changed b m)) (target handed t) _ (named_target handed t))

went_back : (r : Record) (p : Place) (t b : ℕ) → ◌≡◌ {A = ℕ} (refusal (go_back r p t b).answer)
    (finished p ⇒ 2 ∣ waiting p ⇒ 3 ∣ r6_row (handed_over p) t b ⇒ 6 ∣ 0)
went_back r (Place.Waiting s) t b = refl
went_back r (Place.Negotiating w q) t b = refl
went_back r (Place.Stopped e) t b = targeted false r r.mode t b
went_back r (Place.HandedOver h) t b = targeted true r r.mode t b
went_back r (Place.Finished f) t b = refl

-- Re-entry is refused exactly as the table says, in its order
pub re_entry_refused : (r : Record) (t b : ℕ) → refusal (re_enter r t b).answer ≡ re_entry_refusal r t b
unfolding re_enter re_entry_refusal
re_entry_refused r t b = rw (r1_row_unsound r) (first_row (sound r) r (go_back r r.place t b) _ (went_back r r.place t b))

-- R7: create is refused exactly as the table says
seven : (a b c : Bool) → ◌≡◌ {A = Bool} (a ⇒ true ∣ b ⇒ true ∣ c) (a || (b || c))
seven true b c = refl
seven false true c = refl
seven false false c = refl

chosen : (u : Bool) (s : Settings) → ◌≡◌ {A = ℕ} (refusal (u ⇒ not_created 7 ∣ created (tell (begun s))).answer) (u ⇒ 7 ∣ 0)
chosen true s = refl
chosen false s = tell_no_refusal (begun s)

pub create_refused : (s : Settings) → refusal (create s).answer ≡ create_refusal s
unfolding create create_refusal uncreatable
create_refused s =
    chosen (uncreatable s) s ∙ ap (λ u. u ⇒ 7 ∣ 0) (seven (eqb s.hard_limit 0) (eqb s.caps_limit 0) (s.role_swapped && not s.port.dual_role))

-- "Each returns its number, no action and the old record; create returns no record"
pub refusal_silent : (n : ℕ) (r : Record) → ((refuse n r).«record» ≡ r) × ((refuse n r).remaining ≡ None) × ((refuse n r).actions ≡ none ∷ none ∷ [])
refusal_silent n r = (refl, refl, refl)

pub refused_creation_empty : (n : ℕ) → ((not_created n).«record» ≡ None) × ((not_created n).actions ≡ none ∷ none ∷ [])
refused_creation_empty n = (refl, refl)

-- A refusal returns the record as it was, and no action
no_answer_refused : (p : Place) (n : ℕ) → answer p ≡ Answer.Refused n → ⊥
no_answer_refused (Place.Waiting s) n e = let z : ◌≡◌ {A = ℕ} 0 1 = cc in omega arith
no_answer_refused (Place.Negotiating w q) n e = let z : ◌≡◌ {A = ℕ} 0 1 = cc in omega arith
no_answer_refused (Place.Stopped x) n e = let z : ◌≡◌ {A = ℕ} 0 1 = cc in omega arith
no_answer_refused (Place.HandedOver h) n e =
    let k : Answer.HandedOver h ≡ Answer.Refused n = sym (handover_said h) ∙ e in let z : ◌≡◌ {A = ℕ} 0 1 = cc in omega arith
no_answer_refused (Place.Finished f) n e =
    let k : Answer.Finished f ≡ Answer.Refused n = sym (finish_said f) ∙ e in let z : ◌≡◌ {A = ℕ} 0 1 = cc in omega arith

told_no_refusal : (r : Record) (n : ℕ) → (tell r).answer ≡ Answer.Refused n → ⊥
unfolding tell
told_no_refusal r n e = no_answer_refused r.place n e

same_number : (k n : ℕ) (r : Record) → Answer.Refused k ≡ Answer.Refused n → refuse k r ≡ refuse n r
same_number k n r e = ap (λ x. refuse x r) (the_number e)
  where
    the_number : Answer.Refused k ≡ Answer.Refused n → k ≡ n
    the_number e = cc

settle_keeps : (k n : ℕ) (r : Record) (x : Next) → (settle k r x).answer ≡ Answer.Refused n → settle k r x ≡ refuse n r
settle_keeps k n r (to w p) e = absurd (told_no_refusal (arrive (written w r) p) n e)
settle_keeps k n r misfit e = same_number k n r e

resume_keeps : (n : ℕ) (r : Record) (p : Place) (o : Outcome) → (resume r p o).answer ≡ Answer.Refused n → resume r p o ≡ refuse n r
resume_keeps n r (Place.Waiting s) o e = settle_keeps 5 n r (bad_event o ⇒ misfit ∣ after r s o) e
resume_keeps n r (Place.Negotiating w q) o e = settle_keeps 5 n r ((negotiation_awaits w q).then o) e
resume_keeps n r (Place.Stopped x) o e = same_number 4 n r e
resume_keeps n r (Place.HandedOver h) o e = same_number 4 n r e
resume_keeps n r (Place.Finished f) o e = same_number 2 n r e

pub refused_step_keeps : (r : Record) (o : Outcome) (n : ℕ) → (step r o).answer ≡ Answer.Refused n → step r o ≡ refuse n r
unfolding step
refused_step_keeps r o n = keeps (sound r)
  where
    keeps : (b : Bool) → (b ⇒ resume r r.place o ∣ refuse 1 r).answer ≡ Answer.Refused n → (b ⇒ resume r r.place o ∣ refuse 1 r) ≡ refuse n r
    keeps true e = resume_keeps n r r.place o e
    keeps false e = same_number 1 n r e

go_back_keeps : (n : ℕ) (r : Record) (p : Place) (t change : ℕ) → (go_back r p t change).answer ≡ Answer.Refused n → go_back r p t change ≡ refuse n r
go_back_keeps n r (Place.Waiting s) t change e = same_number 3 n r e
go_back_keeps n r (Place.Negotiating w q) t change e = same_number 3 n r e
go_back_keeps n r (Place.Stopped x) t change e = settle_keeps 6 n r (re_entry false r.mode t change) e
go_back_keeps n r (Place.HandedOver h) t change e = settle_keeps 6 n r (re_entry true r.mode t change) e
go_back_keeps n r (Place.Finished f) t change e = same_number 2 n r e

pub refused_re_entry_keeps : (r : Record) (t change n : ℕ) → (re_enter r t change).answer ≡ Answer.Refused n → re_enter r t change ≡ refuse n r
unfolding re_enter
refused_re_entry_keeps r t change n = keeps (sound r)
  where
    keeps : (b : Bool) → (b ⇒ go_back r r.place t change ∣ refuse 1 r).answer ≡ Answer.Refused n
        → (b ⇒ go_back r r.place t change ∣ refuse 1 r) ≡ refuse n r
    keeps true e = go_back_keeps n r r.place t change e
    keeps false e = same_number 1 n r e
