-- R8 exactly where there is a reason: what is malformed has one, and what is not has none. Assumes nothing.
use Prim.Native.Nat.{ℕ, ◌≤◌, ◌<◌, zero-le}
use mathlib.Core.Path.{◌≡◌, refl, subst, ◌∙◌}
use mathlib.Core.Bool.{Bool, true, false, ◌&&◌}
use mathlib.Core.List.{List}
use native.Mathlib.Omega.{arith}
use lib.ListN.{length}
use lib.Dec.{leb, ltb}
use borrow.Author.Tests.{leb-true, leb-false, le-leb, lt-leb, ne_eqb}
use Rattle.notation.specs.Rows.{◌⇒◌∣◌, ◌is◌}
use Rattle.little_endian.specs.Bytes.{at, half, word}
use Rattle.std.specs.Prelude.{Option, None, Result, Ok, Err, is_ok}
use Rattle.model.specs.Codes as codes
use Rattle.events.specs.Types.{PowerSource, Call, Message, Outcome}
use Rattle.events.specs.declared.decoding.Malformed.{Malformed}
use Rattle.events.specs.Events as events
use Rattle.model.specs.declared.record.Settings.{Settings}
use Rattle.trace.specs.Beginning as trace
use Rattle.reasons.specs.Types.{EventReason, HeaderReason}
use Rattle.reasons.specs.Header as header
use Rattle.reasons.specs.Event as reasons

tests_agree : (short long mark version flags : Bool) (s : Settings)
    → is_ok (short ⇒ trace.bad ∣ long ⇒ trace.bad ∣ mark && version ⇒ (flags ⇒ Ok s ∣ trace.bad) ∣ trace.bad)
    ≡ is_ok (
    short ⇒ Err HeaderReason.Short ∣
    mark ⇒ (version ⇒ (flags ⇒ (long ⇒ Err HeaderReason.Long ∣ Ok (tt {0})) ∣ Err HeaderReason.Flags) ∣ Err HeaderReason.Version) ∣
    Err HeaderReason.Mark)
tests_agree true l m v f s = refl
tests_agree false true false v f s = refl
tests_agree false true true false f s = refl
tests_agree false true true true false s = refl
tests_agree false true true true true s = refl
tests_agree false false false v f s = refl
tests_agree false false true false f s = refl
tests_agree false false true true false s = refl
tests_agree false false true true true s = refl

-- A header is bad exactly where there is a reason
pub header_exactly : (s : List ℕ) → is_ok (trace.header s) ≡ is_ok (header.of_header s)
unfolding trace.header trace.settings header.of_header header.after_mark
header_exactly s = tests_agree (ltb (length s) 8) (ltb 49160 (length s)) (trace.marked s) (half s 3 is 1) (leb (at s 5) 15) _

-- An event is decoded exactly where there is no reason
data Agree {A : Type 0} : Result A Malformed → reasons.Checked → Type 0 where
  agree : {d : Result A Malformed} {r : reasons.Checked} → is_ok d ≡ is_ok r → Agree d r

agreed : {A : Type 0} {d : Result A Malformed} {r : reasons.Checked} → Agree d r → is_ok d ≡ is_ok r
agreed (agree h) = h

-- Two tables with the same tests agree row by row
along : {A : Type 0} (t : Bool) {x y : Result A Malformed} {u v : reasons.Checked} → Agree x u → Agree y v → Agree (t ⇒ x ∣ y) (t ⇒ u ∣ v)
along true p q = p
along false p q = q

along_with : {A E : Type 0} (f : A → Result Call Malformed) (t : Bool) (x y : Result A E) {u v : reasons.Checked}
    → Agree (events.with x f) u → Agree (events.with y f) v → Agree (events.with (t ⇒ x ∣ y) f) (t ⇒ u ∣ v)
along_with f true x y p q = p
along_with f false x y p q = q

-- A number from k on: it is k, or above
from : (P : ℕ → Type 0) (k : ℕ) → P k → ((n : ℕ) → k < n → P n) → (n : ℕ) → k ≤ n → P n
from P k p q n l = decide (leb n k) (λ e. subst P (let h = leb-true n k e in omega arith) p) (λ e. q n (leb-false n k e))
  where
    decide : (t : Bool) → (t ≡ true → P n) → (t ≡ false → P n) → P n
    decide true x y = x refl
    decide false x y = y refl

one_word_agrees : (c : Call) (s : ℕ) → Agree (s is 0 ⇒ Ok c ∣ events.malformed) (reasons.one_word s)
unfolding reasons.one_word
one_word_agrees c s = along (s is 0) (agree refl) (agree refl)

-- The tests of unused fields: all at once, and one after the other
both : (t u : Bool) (c : Call) {r v : reasons.Checked} → Agree (u ⇒ Ok c ∣ events.malformed) r → Agree {A = Call} events.malformed v
    → Agree (t && u ⇒ Ok c ∣ events.malformed) (t ⇒ r ∣ v)
both true u c p q = p
both false u c p q = q

no_word_agrees : (c : Call) (f s : ℕ) → Agree (events.all_zero 0 f s ⇒ Ok c ∣ events.malformed) (reasons.no_word f s)
unfolding events.all_zero reasons.no_word
no_word_agrees c f s = both (f is 0) (s is 0) c (one_word_agrees c s) (agree refl)

unused_agrees : (c : Call) (b f s : ℕ) → Agree (events.all_zero b f s ⇒ Ok c ∣ events.malformed) (reasons.unused b f s)
unfolding events.all_zero reasons.unused
unused_agrees c b f s = both (b is 0) (f is 0 && s is 0) c (no_word_agrees c f s) (agree refl)

-- A table of a from 0 or 1 on, and its range. `z` says whether the unused fields are zero, and `r` what is wrong with them
module _ (z : Bool) (r : reasons.Checked) (h : (c : Call) → Agree (z ⇒ Ok c ∣ events.malformed) r) where
  bare_agrees : (o : Outcome) (a : ℕ) → Agree (events.accept (a is 0 && z) o) (reasons.within a 0 0 r)
  unfolding reasons.within
  bare_agrees o a = from (λ n. Agree (events.accept (n is 0 && z) o) (reasons.within n 0 0 r)) 0 (h _)
      (λ n l. agree (rw (le-leb 0 n (omega arith), lt-leb n 0 l, ne_eqb n 0 (λ e. absurd (omega arith))))) a zero-le

  lookup_agrees : (a : ℕ) → Agree (events.lookup z a) (reasons.within a 0 5 r)
  unfolding events.found reasons.within
  lookup_agrees a =
      let P : ℕ → Type 0 = λ n. Agree (events.lookup z n) (reasons.within n 0 5 r) in
      from P 0 (h _) (from P 1 (h _) (from P 2 (h _) (from P 3 (h _) (from P 4 (h _) (from P 5 (h _) (λ n l. agree (beyond n l))))))) a zero-le
    where
      beyond : (n : ℕ) → 5 < n → is_ok (events.lookup z n) ≡ is_ok (reasons.within n 0 5 r)
      beyond n l = rw (
        le-leb 0 n (omega arith),
        lt-leb n 5 l,
        ne_eqb n 0 (λ e. absurd (omega arith)),
        ne_eqb n 1 (λ e. absurd (omega arith)),
        ne_eqb n 2 (λ e. absurd (omega arith)),
        ne_eqb n 3 (λ e. absurd (omega arith)),
        ne_eqb n 4 (λ e. absurd (omega arith)),
        ne_eqb n 5 (λ e. absurd (omega arith)),
      )

  evaluation_agrees : (a : ℕ) → Agree (events.evaluation z a) (reasons.within a 0 2 r)
  unfolding codes.evaluation reasons.within
  evaluation_agrees a =
      let P : ℕ → Type 0 = λ n. Agree (events.evaluation z n) (reasons.within n 0 2 r) in
      from P 0 (h _) (from P 1 (h _) (from P 2 (h _) (λ n l. agree (beyond n l)))) a zero-le
    where
      beyond : (n : ℕ) → 2 < n → is_ok (events.evaluation z n) ≡ is_ok (reasons.within n 0 2 r)
      beyond n l = rw (
        le-leb 0 n (omega arith),
        lt-leb n 2 l,
        ne_eqb n 0 (λ e. absurd (omega arith)),
        ne_eqb n 1 (λ e. absurd (omega arith)),
        ne_eqb n 2 (λ e. absurd (omega arith)),
      )

  yes_no_agrees : (a : ℕ) → Agree (events.yes_no z a) (reasons.within a 0 1 r)
  unfolding events.flag reasons.within
  yes_no_agrees a =
      let P : ℕ → Type 0 = λ n. Agree (events.yes_no z n) (reasons.within n 0 1 r) in
      from P 0 (h _) (from P 1 (h _) (λ n l. agree (beyond n l))) a zero-le
    where
      beyond : (n : ℕ) → 1 < n → is_ok (events.yes_no z n) ≡ is_ok (reasons.within n 0 1 r)
      beyond n l = rw (
        le-leb 0 n (omega arith),
        lt-leb n 1 l,
        ne_eqb n 0 (λ e. absurd (omega arith)),
        ne_eqb n 1 (λ e. absurd (omega arith)),
      )

  event_agrees : (a : ℕ) → Agree (events.event z a) (reasons.within a 0 8 r)
  unfolding codes.event reasons.within
  event_agrees a =
      let P : ℕ → Type 0 = λ n. Agree (events.event z n) (reasons.within n 0 8 r) in
      from P 0 (h _) (from P 1 (h _) (from P 2 (h _) (from P 3 (h _) (from P 4 (h _) (from P 5 (h _) (from P 6 (h _) (from P 7 (h _)
      (from P 8 (h _) (λ n l. agree (beyond n l)))))))))) a zero-le
    where
      beyond : (n : ℕ) → 8 < n → is_ok (events.event z n) ≡ is_ok (reasons.within n 0 8 r)
      beyond n l = rw (
        le-leb 0 n (omega arith),
        lt-leb n 8 l,
        ne_eqb n 0 (λ e. absurd (omega arith)),
        ne_eqb n 1 (λ e. absurd (omega arith)),
        ne_eqb n 2 (λ e. absurd (omega arith)),
        ne_eqb n 3 (λ e. absurd (omega arith)),
        ne_eqb n 4 (λ e. absurd (omega arith)),
        ne_eqb n 5 (λ e. absurd (omega arith)),
        ne_eqb n 6 (λ e. absurd (omega arith)),
        ne_eqb n 7 (λ e. absurd (omega arith)),
        ne_eqb n 8 (λ e. absurd (omega arith)),
      )

  timeout_agrees : (a : ℕ) → Agree (events.timeout z a) (reasons.within a 1 3 r)
  unfolding codes.timeout reasons.within
  timeout_agrees a =
      let P : ℕ → Type 0 = λ n. Agree (events.timeout z n) (reasons.within n 1 3 r) in
      from P 0 (agree refl) (from P 1 (h _) (from P 2 (h _) (from P 3 (h _) (λ n l. agree (beyond n l))))) a zero-le
    where
      beyond : (n : ℕ) → 3 < n → is_ok (events.timeout z n) ≡ is_ok (reasons.within n 1 3 r)
      beyond n l = rw (
        le-leb 1 n (omega arith),
        lt-leb n 3 l,
        ne_eqb n 1 (λ e. absurd (omega arith)),
        ne_eqb n 2 (λ e. absurd (omega arith)),
        ne_eqb n 3 (λ e. absurd (omega arith)),
      )

-- A request, by b and its two words; the two classes alike
named : (p : Result (Option PowerSource) Malformed) → (is_ok (events.request p) ≡ is_ok p) × (is_ok (events.epr_request p) ≡ is_ok p)
named (Ok p) = (refl, refl)
named (Err e) = (refl, refl)

payload_agrees : (f s b : ℕ) → is_ok (events.payload b f s) ≡ is_ok (reasons.request b f s)
unfolding events.payload events.all_zero reasons.request reasons.no_word reasons.one_word
payload_agrees f s b =
    let P : ℕ → Type 0 = λ n. is_ok (events.payload n f s) ≡ is_ok (reasons.request n f s) in
    from P 0 (none (f is 0) (s is 0)) (from P 1 (one _ (s is 0)) (from P 2 (one _ (s is 0)) (from P 3 (one _ (s is 0))
    (from P 4 (one _ (s is 0)) (from P 5 (one _ (s is 0)) (from P 6 refl beyond)))))) b zero-le
  where
    none : (t u : Bool) → is_ok (events.named (t && u) None)
        ≡ is_ok (t ⇒ (u ⇒ Ok (tt {0}) ∣ Err EventReason.Second) ∣ Err (EventReason.First 0))
    none true true = refl
    none true false = refl
    none false u = refl

    one : (q : Option PowerSource) (t : Bool) → is_ok (events.named t q) ≡ is_ok (t ⇒ Ok (tt {0}) ∣ Err EventReason.Second)
    one q true = refl
    one q false = refl

    beyond : (n : ℕ) → 6 < n → is_ok (events.payload n f s) ≡ is_ok (reasons.request n f s)
    beyond n l = rw (
      lt-leb n 5 (omega arith),
      ne_eqb n 0 (λ e. absurd (omega arith)),
      ne_eqb n 1 (λ e. absurd (omega arith)),
      ne_eqb n 2 (λ e. absurd (omega arith)),
      ne_eqb n 3 (λ e. absurd (omega arith)),
      ne_eqb n 4 (λ e. absurd (omega arith)),
      ne_eqb n 5 (λ e. absurd (omega arith)),
      ne_eqb n 6 (λ e. absurd (omega arith)),
    )

flag_agrees : (m : Bool → Message) (b f s : ℕ)
    → Agree (events.with (events.flag b) (λ good. events.hear (events.all_zero 0 f s) (m good))) (reasons.payload b (reasons.no_word f s) (reasons.no_word f s))
unfolding events.flag reasons.payload
flag_agrees m b f s = along_with _ (b is 0) _ _ (no_word_agrees _ f s) (along_with _ (b is 1) _ _ (no_word_agrees _ f s) (agree refl))

message_agrees : (a b f s : ℕ) → Agree (events.message a b f s) (reasons.message a b f s)
unfolding events.message events.epr_mode events.control events.extended_control events.extended_type reasons.message
    reasons.payload reasons.control reasons.extended_type
message_agrees a b f s =
    along (a is 0) (agree ((named (events.payload b f s)).0 ∙ payload_agrees f s b)) (
    along (a is 1) (agree ((named (events.payload b f s)).1 ∙ payload_agrees f s b)) (
    along (a is 2) (along (b is 0) (no_word_agrees _ f s) (along (b is 1) (one_word_agrees _ s) (agree refl))) (
    along (a is 3) (along (leb b 31) (no_word_agrees _ f s) (agree refl)) (
    along (a is 4) (along (b is 0) (no_word_agrees _ f s) (along (b is 1) (along (leb f 255) (one_word_agrees _ s) (agree refl)) (agree refl))) (
    along (a is 5) (unused_agrees _ b f s) (
    along (a is 6) (flag_agrees Message.SinkCapabilities b f s) (
    along (a is 7) (flag_agrees Message.EprSinkCapabilities b f s) (agree refl))))))))

fields_agree : (code a b f s : ℕ) → Agree (events.call (record { code = code; a = a; b = b; first = f; second = s })) (reasons.of_fields code a b f s)
unfolding events.call events.bare reasons.of_fields
fields_agree code a b f s =
    let z = events.all_zero b f s in
    let r = reasons.unused b f s in
    let h : (c : Call) → Agree (z ⇒ Ok c ∣ events.malformed) r = λ c. unused_agrees c b f s in
    along (code is 1) (bare_agrees z r h Outcome.Done a) (
    along (code is 2) (h _) (
    along (code is 3) (bare_agrees z r h Outcome.DpmFailed a) (
    along (code is 4) (bare_agrees z r h Outcome.NoSafe a) (
    along (code is 5) (message_agrees a b f s) (
    along (code is 6) (lookup_agrees z r h a) (
    along (code is 7) (evaluation_agrees z r h a) (
    along (code is 8) (yes_no_agrees z r h a) (
    along (code is 9) (event_agrees z r h a) (
    along (code is 10) (timeout_agrees z r h a) (
    along (code is 11) (no_word_agrees _ f s) (agree refl)))))))))))

-- An event is malformed exactly where there is a reason
pub event_exactly : (s : List ℕ) → is_ok (events.decoded s) ≡ is_ok (reasons.of_event s)
unfolding events.decoded reasons.of_event
event_exactly s = agreed (along (length s is 12) (fields_agree (at s 0) (at s 1) (half s 2) (word s 4) (word s 8)) (agree refl))
