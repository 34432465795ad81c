-- Encoding and decoding undo one another, between a call, the five numbers of its event and the event's twelve bytes. Assumes nothing.
use Prim.Native.Nat.{ℕ, zero, suc, ◌+◌, ◌*◌, ◌/◌, ◌≤◌, ◌<◌}
use mathlib.Core.Path.{◌≡◌, refl, sym, ap, ◌∙◌}
use mathlib.Core.Bool.{Bool, true, false, ◌&&◌}
use mathlib.Core.List.{List, [], ◌∷◌}
use native.Mathlib.Nat.{div-div-eq-div-mul}
use native.Mathlib.Omega.{arith}
use lib.ListN.{length, drop, drop_of_length-le}
use lib.Seq.{drop-cons}
use lib.Dec.{leb}
use borrow.Author.Tests.{eqb-true, le-leb}
use Rattle.std.specs.Prelude.{Option, None, Some, Result, Ok, Err}
use Rattle.notation.specs.Rows.{◌⇒◌∣◌, ◌is◌}
use Rattle.request.specs.Requests.{first, second}
use Rattle.events.specs.Types.{Call, CapabilityResponse, Event, Kind, Message, Outcome, PowerSource, Timeout}
use Rattle.events.specs.declared.decoding.Malformed.{Malformed}
use Rattle.events.specs.declared.fields.Fields.{Fields}
use Rattle.little_endian.specs.Bytes.{at, half, word}
use Rattle.events.specs.Fields.{fields}
use Rattle.encoder.specs.Laid.{low, laid}
use Rattle.model.specs.Codes as codes
use Rattle.events.specs.Events.{all_zero, malformed, accept, hear, with, found, flag, payload, request, epr_request, epr_mode, control}
use Rattle.events.specs.Events.{extended_type, extended_control, message, bare, call, decoded}
use Rattle.encoder.specs.Encoding.{kind_b, call_fields}

-- What an event has room for: one byte, two bytes, four bytes
abbrev pub Byte : ℕ → Type 0
Byte x = x < 256

abbrev pub Half : ℕ → Type 0
Half x = x < 65536

abbrev pub Word : ℕ → Type 0
Word x = x < 4294967296

abbrev pub RequestFits : Option PowerSource → Type 0
RequestFits None = Unit {0}
RequestFits (Some q) = Word (first q) × Word (second q)

abbrev pub MessageFits : Message → Type 0
MessageFits (Message.Request p) = RequestFits p
MessageFits (Message.EprRequest p) = RequestFits p
MessageFits (Message.EprMode None) = Unit {0}
MessageFits (Message.EprMode (Some w)) = Word w
MessageFits (Message.Control t) = t ≤ 31
MessageFits (Message.ExtendedControl None) = Unit {0}
MessageFits (Message.ExtendedControl (Some t)) = Byte t
MessageFits Message.Other = Unit {0}
MessageFits (Message.SinkCapabilities good) = Unit {0}
MessageFits (Message.EprSinkCapabilities good) = Unit {0}

-- A call that an event can carry: a control type is at most 31, and every number fits its field
abbrev pub Encodable : Call → Type 0
Encodable (Call.Outcome Outcome.Done) = Unit {0}
Encodable (Call.Outcome (Outcome.Failed e)) = Byte e
Encodable (Call.Outcome Outcome.DpmFailed) = Unit {0}
Encodable (Call.Outcome Outcome.NoSafe) = Unit {0}
Encodable (Call.Outcome (Outcome.Message m)) = MessageFits m
Encodable (Call.Outcome (Outcome.Lookup f)) = Unit {0}
Encodable (Call.Outcome (Outcome.Evaluation v)) = Unit {0}
Encodable (Call.Outcome (Outcome.YesNo b)) = Unit {0}
Encodable (Call.Outcome (Outcome.Event e)) = Unit {0}
Encodable (Call.Outcome (Outcome.Timeout t)) = Unit {0}
Encodable (Call.ReEntry target change) = Byte target × Half change

-- Each element is a byte
abbrev pub Bytes : List ℕ → Type 0
Bytes s = (k : ℕ) → k < length s → Byte (at s k)

-- Little-endian numbers and their bytes
half_again : (x : ℕ) → Half x → low x + 256 * low (x / 256) ≡ x
half_again x h = omega arith

word_again : (x : ℕ) → Word x → low x + 256 * low (x / 256) + 65536 * low (x / 65536) + 16777216 * low (x / 16777216) ≡ x
word_again x h = let top : low (x / 16777216) ≡ x / 16777216 = omega arith in omega (arith, div-div-eq-div-mul x 256 256, div-div-eq-div-mul x 65536 256)

module _ (s : List ℕ) (h : Bytes s) (k : ℕ) where
  half_bytes : k + 1 < length s → (low (half s k) ≡ at s k) × (low (half s k / 256) ≡ at s (k + 1))
  half_bytes l = omega (arith, h k (omega arith), h (k + 1) (omega arith))

  word_bytes : k + 3 < length s → (low (word s k) ≡ at s k) × (low (word s k / 256) ≡ at s (k + 1)) × (low (word s k / 65536) ≡ at s (k + 2)) ×
      (low (word s k / 16777216) ≡ at s (k + 3))
  word_bytes l = omega (arith, h k (omega arith), h (k + 1) (omega arith), h (k + 2) (omega arith), h (k + 3) (omega arith))

-- The n elements from the place k on, and that they are what is left there of a list that ends after them
from : ℕ → ℕ → List ℕ → List ℕ
from zero k s = []
from (suc n) k s = at s k ∷ from n (suc k) s

left : (n k : ℕ) (s : List ℕ) → length s ≡ k + n → from n k s ≡ drop k s
unfolding from
left zero k s h = sym (drop_of_length-le s {i = k} (omega arith))
left (suc n) k s h = ap (λ t. at s k ∷ t) (left n (suc k) s (omega arith)) ∙ sym (drop-cons s k 0 (omega arith))

laid_fields : (s : List ℕ) → Bytes s → length s ≡ 12 → laid (fields s) ≡ s
unfolding from
laid_fields s h l =
    let t = half_bytes s h 2 (omega arith) in let u = word_bytes s h 4 (omega arith) in let v = word_bytes s h 8 (omega arith) in
    rw (t.0, t.1, u.0, u.1, u.2, u.3, v.0, v.1, v.2, v.3) (left 12 0 s l)

abbrev Fits : Fields → Type 0
Fits e = Half e.b × Word e.first × Word e.second

fields_laid : (e : Fields) → Fits e → fields (laid e) ≡ e
fields_laid e h = rw (half_again e.b h.0, word_again e.first h.1, word_again e.second h.2)

-- The numbers of a call decode to it, and fit
Again : Call → Type 0
Again c = (call (call_fields c) ≡ Ok c) × Fits (call_fields c)

request_again : (q : PowerSource) → (payload (kind_b q) (first q) (second q) ≡ Ok (Some q)) × Half (kind_b q)
unfolding payload
request_again (PowerSource.FixedVariableSupply w) = (refl, omega arith)
request_again (PowerSource.Battery w) = (refl, omega arith)
request_again (PowerSource.Pps w) = (refl, omega arith)
request_again (PowerSource.Avs w) = (refl, omega arith)
request_again (PowerSource.Unknown w) = (refl, omega arith)
request_again (PowerSource.EprRequest w) = (refl, omega arith)

message_again : (m : Message) → MessageFits m → Again (Call.Outcome (Outcome.Message m))
unfolding Again call message payload all_zero epr_mode control extended_control extended_type flag
message_again (Message.Request None) h = (refl, omega arith)
message_again (Message.Request (Some q)) h = (ap request (request_again q).0, omega (arith, (request_again q).1))
message_again (Message.EprRequest None) h = (refl, omega arith)
message_again (Message.EprRequest (Some q)) h = (ap epr_request (request_again q).0, omega (arith, (request_again q).1))
message_again (Message.EprMode None) h = (refl, omega arith)
message_again (Message.EprMode (Some w)) h = (refl, omega arith)
message_again (Message.Control t) h = (rw (le-leb t 31 h), omega arith)
message_again (Message.ExtendedControl None) h = (refl, omega arith)
message_again (Message.ExtendedControl (Some t)) h = (rw (le-leb t 255 (omega arith)), omega arith)
message_again Message.Other h = (refl, omega arith)
message_again (Message.SinkCapabilities true) h = (refl, omega arith)
message_again (Message.SinkCapabilities false) h = (refl, omega arith)
message_again (Message.EprSinkCapabilities true) h = (refl, omega arith)
message_again (Message.EprSinkCapabilities false) h = (refl, omega arith)

again : (c : Call) → Encodable c → Again c
unfolding Again call bare all_zero found flag codes.evaluation codes.event codes.timeout
again (Call.Outcome Outcome.Done) h = (refl, omega arith)
again (Call.Outcome (Outcome.Failed e)) h = (refl, omega arith)
again (Call.Outcome Outcome.DpmFailed) h = (refl, omega arith)
again (Call.Outcome Outcome.NoSafe) h = (refl, omega arith)
again (Call.Outcome (Outcome.Message m)) h = message_again m h
again (Call.Outcome (Outcome.Lookup None)) h = (refl, omega arith)
again (Call.Outcome (Outcome.Lookup (Some Kind.FixedSupply))) h = (refl, omega arith)
again (Call.Outcome (Outcome.Lookup (Some Kind.VariableSupply))) h = (refl, omega arith)
again (Call.Outcome (Outcome.Lookup (Some Kind.Battery))) h = (refl, omega arith)
again (Call.Outcome (Outcome.Lookup (Some Kind.Pps))) h = (refl, omega arith)
again (Call.Outcome (Outcome.Lookup (Some Kind.Avs))) h = (refl, omega arith)
again (Call.Outcome (Outcome.Evaluation CapabilityResponse.Accept)) h = (refl, omega arith)
again (Call.Outcome (Outcome.Evaluation CapabilityResponse.Reject)) h = (refl, omega arith)
again (Call.Outcome (Outcome.Evaluation CapabilityResponse.Wait)) h = (refl, omega arith)
again (Call.Outcome (Outcome.YesNo true)) h = (refl, omega arith)
again (Call.Outcome (Outcome.YesNo false)) h = (refl, omega arith)
again (Call.Outcome (Outcome.Event Event.None)) h = (refl, omega arith)
again (Call.Outcome (Outcome.Event Event.UpdatedSourceCapabilities)) h = (refl, omega arith)
again (Call.Outcome (Outcome.Event Event.RequestSinkCapabilities)) h = (refl, omega arith)
again (Call.Outcome (Outcome.Event Event.RequestSourceCapabilities)) h = (refl, omega arith)
again (Call.Outcome (Outcome.Event Event.RequestEprSourceCapabilities)) h = (refl, omega arith)
again (Call.Outcome (Outcome.Event Event.ExitEprMode)) h = (refl, omega arith)
again (Call.Outcome (Outcome.Event Event.RequestVconnSwap)) h = (refl, omega arith)
again (Call.Outcome (Outcome.Event Event.RequestDataRoleSwap)) h = (refl, omega arith)
again (Call.Outcome (Outcome.Event Event.RequestPowerRoleSwap)) h = (refl, omega arith)
again (Call.Outcome (Outcome.Timeout Timeout.Pps)) h = (refl, omega arith)
again (Call.Outcome (Outcome.Timeout Timeout.KeepAlive)) h = (refl, omega arith)
again (Call.Outcome (Outcome.Timeout Timeout.FiveSeconds)) h = (refl, omega arith)
again (Call.ReEntry target change) h = (refl, omega arith)

-- Decoding undoes encoding: from the bytes of a call that an event can carry, that call is decoded
pub decode_encode : (c : Call) → Encodable c → decoded (laid (call_fields c)) ≡ Ok c
unfolding decoded Again
decode_encode c h = ap call (fields_laid (call_fields c) (again c h).1) ∙ (again c h).0

-- Five numbers keep a call: it is malformed, or they are its numbers
data Kept : ℕ → ℕ → ℕ → ℕ → ℕ → Result Call Malformed → Type 0 where
  bad : {code a b f s : ℕ} → Kept code a b f s malformed
  good : (c : Call) → Kept (call_fields c).code (call_fields c).a (call_fields c).b (call_fields c).first (call_fields c).second (Ok c)

called : Result Call Malformed → Call → Call
called (Ok c) x = c
called (Err e) x = x

failed : Result Call Malformed → ℕ
failed (Ok c) = 0
failed (Err e) = 1

kept_fields : {code a b f s : ℕ} {d : Result Call Malformed} → Kept code a b f s d → (c : Call) → d ≡ Ok c
    → call_fields c ≡ record { code = code; a = a; b = b; first = f; second = s }
unfolding called failed
kept_fields bad c h = let z : ◌≡◌ {A = ℕ} 1 0 = ap failed h in absurd (omega arith)
kept_fields (good k) c h = ap call_fields (sym (ap (λ d. called d c) h))

-- The same of a request's payload and its three numbers
data Held : ℕ → ℕ → ℕ → Result (Option PowerSource) Malformed → Type 0 where
  unnamed : {b f s : ℕ} → Held b f s malformed
  empty : Held 0 0 0 (Ok None)
  held : (q : PowerSource) → Held (kind_b q) (first q) (second q) (Ok (Some q))

request_kept : {b f s : ℕ} {p : Result (Option PowerSource) Malformed} → Held b f s p → Kept 5 0 b f s (request p) × Kept 5 1 b f s (epr_request p)
request_kept unnamed = (bad, bad)
request_kept empty = (good _, good _)
request_kept (held q) = (good _, good _)

-- What holds of a row if its test holds, and of the rows below it, holds of them together; a number that passes a test is the number that it is compared with
choice : {A : Type 0} (P : A → Type 0) (t : Bool) {x y : A} → (t ≡ true → P x) → P y → P (t ⇒ x ∣ y)
choice P true p q = p refl
choice P false p q = q

row : {A : Type 0} (P : ℕ → A → Type 0) (n k : ℕ) {x y : A} → P k x → P n y → P n (n is k ⇒ x ∣ y)
row P n k p q = choice (P n) (n is k) (λ h. rw (eqb-true n k h) p) q

both : {A : Type 0} (P : A → Type 0) (t u : Bool) (x y : A) → (t ≡ true → P (u ⇒ x ∣ y)) → P y → P (t && u ⇒ x ∣ y)
both P true u x y p q = p refl
both P false u x y p q = q

zeros : {A : Type 0} (P : ℕ → ℕ → ℕ → A → Type 0) (b f s : ℕ) {x y : A} → P 0 0 0 x → P b f s y → P b f s (all_zero b f s ⇒ x ∣ y)
unfolding all_zero
zeros P b f s {x} {y} p q = both (P b f s) (b is 0) (f is 0 && s is 0) x y
    (λ i. both (P b f s) (f is 0) (s is 0) x y (λ j. choice (P b f s) (s is 0) (λ k. rw (eqb-true b 0 i, eqb-true f 0 j, eqb-true s 0 k) p) q) q) q

module _ (b f s : ℕ) where
  payload_held : Held b f s (payload b f s)
  unfolding payload
  payload_held =
      let P : ℕ → Result (Option PowerSource) Malformed → Type 0 = λ n. Held n f s in
      row P b 0 (zeros Held 0 f s empty unnamed) (
      row P b 1 (one_word (held (PowerSource.FixedVariableSupply (record { 0 = f })))) (
      row P b 2 (one_word (held (PowerSource.Battery (record { 0 = f })))) (
      row P b 3 (one_word (held (PowerSource.Pps (record { 0 = f })))) (
      row P b 4 (one_word (held (PowerSource.Avs (record { 0 = f })))) (
      row P b 5 (one_word (held (PowerSource.Unknown (record { 0 = f })))) (
      row P b 6 (held (PowerSource.EprRequest (record { rdo = f; pdo = s }))) unnamed))))))
    where
      one_word : {k : ℕ} {x : Result (Option PowerSource) Malformed} → Held k f 0 x → Held k f s (s is 0 ⇒ x ∣ malformed)
      one_word {k} p = row (Held k f) s 0 p unnamed

  -- A row that tests the code, one that tests a, one of a message that tests b
  by_code : (k : ℕ) {code a : ℕ} {x y : Result Call Malformed} → Kept k a b f s x → Kept code a b f s y → Kept code a b f s (code is k ⇒ x ∣ y)
  by_code k {code} {a} = row (λ n. Kept n a b f s) code k

  by_a : (k : ℕ) {code a : ℕ} {x y : Result Call Malformed} → Kept code k b f s x → Kept code a b f s y → Kept code a b f s (a is k ⇒ x ∣ y)
  by_a k {code} {a} = row (λ n. Kept code n b f s) a k

  by_b : (k : ℕ) {a : ℕ} {x y : Result Call Malformed} → Kept 5 a k f s x → Kept 5 a b f s y → Kept 5 a b f s (b is k ⇒ x ∣ y)
  by_b k {a} = row (λ n. Kept 5 a n f s) b k

  -- A message of no words, and one of the first word
  no_word : {a k : ℕ} (m : Message) → Kept 5 a k 0 0 (Ok (Call.Outcome (Outcome.Message m))) → Kept 5 a k f s (hear (all_zero 0 f s) m)
  no_word {a} {k} m p = zeros (λ n. Kept 5 a k) 0 f s p bad

  one_word : {a k : ℕ} (m : Message) → Kept 5 a k f 0 (Ok (Call.Outcome (Outcome.Message m))) → Kept 5 a k f s (hear (s is 0) m)
  one_word {a} {k} m p = row (Kept 5 a k f) s 0 p bad

  by_flag : {a : ℕ} (m : Bool → Message)
      → Kept 5 a 0 0 0 (Ok (Call.Outcome (Outcome.Message (m false)))) → Kept 5 a 1 0 0 (Ok (Call.Outcome (Outcome.Message (m true))))
      → Kept 5 a b f s (with (flag b) (λ v. hear (all_zero 0 f s) (m v)))
  unfolding flag
  by_flag {a} m p q =
      let P : ℕ → Result Bool Malformed → Type 0 = λ n r. Kept 5 a n f s (with r (λ v. hear (all_zero 0 f s) (m v))) in
      row P b 0 (no_word (m false) p) (row P b 1 (no_word (m true) q) bad)

  message_kept : (a : ℕ) → Kept 5 a b f s (message a b f s)
  unfolding message epr_mode control extended_control extended_type
  message_kept a =
      by_a 0 (request_kept payload_held).0 (
      by_a 1 (request_kept payload_held).1 (
      by_a 2 (by_b 0 (no_word (Message.EprMode None) (good _)) (by_b 1 (one_word (Message.EprMode (Some f)) (good _)) bad)) (
      by_a 3 (choice (Kept 5 3 b f s) (leb b 31) (λ h. no_word (Message.Control b) (good _)) bad) (
      by_a 4 (by_b 0 (no_word (Message.ExtendedControl None) (good _))
      (by_b 1 (choice (Kept 5 4 1 f s) (leb f 255) (λ h. one_word (Message.ExtendedControl (Some f)) (good _)) bad) bad)) (
      by_a 5 (zeros (Kept 5 5) b f s (good (Call.Outcome (Outcome.Message Message.Other))) bad) (
      by_a 6 (by_flag Message.SinkCapabilities (good _) (good _)) (
      by_a 7 (by_flag Message.EprSinkCapabilities (good _) (good _)) bad)))))))

  -- An outcome that has a number, and one that has none
  entry : {A E : Type 0} (k : ℕ) {code a : ℕ} (o : A → Outcome) (x : A) (y : Result A E) → Kept code k 0 0 0 (Ok (Call.Outcome (o x)))
      → Kept code a b f s (with y (λ v. accept (all_zero b f s) (o v)))
      → Kept code a b f s (with (a is k ⇒ Ok x ∣ y) (λ v. accept (all_zero b f s) (o v)))
  entry k {code} {a} o x y p q =
      row (λ n r. Kept code n b f s (with r (λ v. accept (all_zero b f s) (o v)))) a k (zeros (Kept code k) b f s p bad) q

  idle : {code a : ℕ} (o : Outcome) → Kept code 0 0 0 0 (Ok (Call.Outcome o)) → Kept code a b f s (accept (a is 0 && all_zero b f s) o)
  idle {code} {a} o p = both (Kept code a b f s) (a is 0) (all_zero b f s) (Ok (Call.Outcome o)) malformed
      (λ h. rw (eqb-true a 0 h) (zeros (Kept code 0) b f s p bad)) bad

  numbers_kept : (code a : ℕ) → Kept code a b f s (call (record { code = code; a = a; b = b; first = f; second = s }))
  unfolding call bare found flag codes.evaluation codes.event codes.timeout
  numbers_kept code a =
      by_code 1 (idle Outcome.Done (good _)) (
      by_code 2 (zeros (Kept 2 a) b f s (good (Call.Outcome (Outcome.Failed a))) bad) (
      by_code 3 (idle Outcome.DpmFailed (good _)) (
      by_code 4 (idle Outcome.NoSafe (good _)) (
      by_code 5 (message_kept a) (
      by_code 6 (entry 0 Outcome.Lookup None _ (good _)
      (entry 1 Outcome.Lookup (Some Kind.FixedSupply) _ (good _) (entry 2 Outcome.Lookup (Some Kind.VariableSupply) _ (good _)
      (entry 3 Outcome.Lookup (Some Kind.Battery) _ (good _) (entry 4 Outcome.Lookup (Some Kind.Pps) _ (good _) (entry 5 Outcome.Lookup (Some Kind.Avs) _ (good _) bad)))))) (
      by_code 7 (entry 0 Outcome.Evaluation CapabilityResponse.Accept _ (good _)
      (entry 1 Outcome.Evaluation CapabilityResponse.Reject _ (good _) (entry 2 Outcome.Evaluation CapabilityResponse.Wait _ (good _) bad))) (
      by_code 8 (entry 0 Outcome.YesNo false _ (good _) (entry 1 Outcome.YesNo true _ (good _) bad)) (
      by_code 9 (entry 0 Outcome.Event Event.None _ (good _) (entry 1 Outcome.Event Event.UpdatedSourceCapabilities _ (good _)
      (entry 2 Outcome.Event Event.RequestSinkCapabilities _ (good _)
      (entry 3 Outcome.Event Event.RequestSourceCapabilities _ (good _)
      (entry 4 Outcome.Event Event.RequestEprSourceCapabilities _ (good _)
      (entry 5 Outcome.Event Event.ExitEprMode _ (good _) (entry 6 Outcome.Event Event.RequestVconnSwap _ (good _)
      (entry 7 Outcome.Event Event.RequestDataRoleSwap _ (good _) (entry 8 Outcome.Event Event.RequestPowerRoleSwap _ (good _) bad))))))))) (
      by_code 10 (entry 1 Outcome.Timeout Timeout.Pps _ (good _)
      (entry 2 Outcome.Timeout Timeout.KeepAlive _ (good _) (entry 3 Outcome.Timeout Timeout.FiveSeconds _ (good _) bad))) (
      by_code 11 (zeros (λ n. Kept 11 a b) 0 f s (good (Call.ReEntry a b)) bad) bad))))))))))

-- Encoding undoes decoding: bytes from which a call is decoded are the bytes of that call, so no other bytes are decoded to it
pub encode_decode : (s : List ℕ) → Bytes s → (c : Call) → decoded s ≡ Ok c → laid (call_fields c) ≡ s
unfolding decoded failed
encode_decode s h c =
    choice (λ d. d ≡ Ok c → laid (call_fields c) ≡ s) (length s is 12) {x = call (fields s)} {y = malformed}
    (λ l k. ap laid (kept_fields (numbers_kept (half s 2) (word s 4) (word s 8) (at s 0) (at s 1)) c k) ∙ laid_fields s h (eqb-true (length s) 12 l))
    (λ k. let z : ◌≡◌ {A = ℕ} 1 0 = ap failed k in absurd (omega arith))
