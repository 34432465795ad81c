-- Which outcomes an awaited action can have: each `when-..` says what its outcomes decide, and every other outcome is a misfit.
-- Paper.antt says the same by action number, and proofs/Fits.antt proves that the two agree. Assumes nothing.
use Rattle.std.specs.Prelude.{Option, ℕ, Bool}
use Rattle.notation.specs.Rows.{◌⇒◌∣◌, ◌is◌}
use Rattle.definition.specs.Types.{Outcome, Message, Kind, CapabilityResponse, Event, Timeout, Finish}
use Rattle.definition.specs.Next.{Next, misfit, stop, finish, to_ready}
use Rattle.definition.specs.Messages.{receive_timeout}

-- "Codes: 1 Done, 2 Failed (a), 3 DpmFailed, 4 NoSafe, 5 message, 6 Lookup, 7 evaluation, 8 no or yes, 9 Event, 10 timeout"
abbrev pub code : Outcome → ℕ
code Outcome.Done = 1
code (Outcome.Failed e) = 2
code Outcome.DpmFailed = 3
code Outcome.NoSafe = 4
code (Outcome.Message m) = 5
code (Outcome.Lookup f) = 6
code (Outcome.Evaluation v) = 7
code (Outcome.YesNo b) = 8
code (Outcome.Event e) = 9
code (Outcome.Timeout t) = 10

-- What an outcome of one code carries, else the first argument
abbrev pub on_failed : {A : Type 0} → A → (ℕ → A) → Outcome → A
on_failed x f Outcome.Done = x
on_failed x f (Outcome.Failed e) = f e
on_failed x f Outcome.DpmFailed = x
on_failed x f Outcome.NoSafe = x
on_failed x f (Outcome.Message m) = x
on_failed x f (Outcome.Lookup g) = x
on_failed x f (Outcome.Evaluation v) = x
on_failed x f (Outcome.YesNo b) = x
on_failed x f (Outcome.Event e) = x
on_failed x f (Outcome.Timeout t) = x

abbrev pub on_message : {A : Type 0} → A → (Message → A) → Outcome → A
on_message x f Outcome.Done = x
on_message x f (Outcome.Failed e) = x
on_message x f Outcome.DpmFailed = x
on_message x f Outcome.NoSafe = x
on_message x f (Outcome.Message m) = f m
on_message x f (Outcome.Lookup g) = x
on_message x f (Outcome.Evaluation v) = x
on_message x f (Outcome.YesNo b) = x
on_message x f (Outcome.Event e) = x
on_message x f (Outcome.Timeout t) = x

abbrev pub on_lookup : {A : Type 0} → A → (Option Kind → A) → Outcome → A
on_lookup x f Outcome.Done = x
on_lookup x f (Outcome.Failed e) = x
on_lookup x f Outcome.DpmFailed = x
on_lookup x f Outcome.NoSafe = x
on_lookup x f (Outcome.Message m) = x
on_lookup x f (Outcome.Lookup g) = f g
on_lookup x f (Outcome.Evaluation v) = x
on_lookup x f (Outcome.YesNo b) = x
on_lookup x f (Outcome.Event e) = x
on_lookup x f (Outcome.Timeout t) = x

abbrev pub on_evaluation : {A : Type 0} → A → (CapabilityResponse → A) → Outcome → A
on_evaluation x f Outcome.Done = x
on_evaluation x f (Outcome.Failed e) = x
on_evaluation x f Outcome.DpmFailed = x
on_evaluation x f Outcome.NoSafe = x
on_evaluation x f (Outcome.Message m) = x
on_evaluation x f (Outcome.Lookup g) = x
on_evaluation x f (Outcome.Evaluation v) = f v
on_evaluation x f (Outcome.YesNo b) = x
on_evaluation x f (Outcome.Event e) = x
on_evaluation x f (Outcome.Timeout t) = x

abbrev pub on_yes_no : {A : Type 0} → A → (Bool → A) → Outcome → A
on_yes_no x f Outcome.Done = x
on_yes_no x f (Outcome.Failed e) = x
on_yes_no x f Outcome.DpmFailed = x
on_yes_no x f Outcome.NoSafe = x
on_yes_no x f (Outcome.Message m) = x
on_yes_no x f (Outcome.Lookup g) = x
on_yes_no x f (Outcome.Evaluation v) = x
on_yes_no x f (Outcome.YesNo b) = f b
on_yes_no x f (Outcome.Event e) = x
on_yes_no x f (Outcome.Timeout t) = x

abbrev pub on_event : {A : Type 0} → A → (Event → A) → Outcome → A
on_event x f Outcome.Done = x
on_event x f (Outcome.Failed e) = x
on_event x f Outcome.DpmFailed = x
on_event x f Outcome.NoSafe = x
on_event x f (Outcome.Message m) = x
on_event x f (Outcome.Lookup g) = x
on_event x f (Outcome.Evaluation v) = x
on_event x f (Outcome.YesNo b) = x
on_event x f (Outcome.Event e) = f e
on_event x f (Outcome.Timeout t) = x

abbrev pub on_timeout : {A : Type 0} → A → (Timeout → A) → Outcome → A
on_timeout x f Outcome.Done = x
on_timeout x f (Outcome.Failed e) = x
on_timeout x f Outcome.DpmFailed = x
on_timeout x f Outcome.NoSafe = x
on_timeout x f (Outcome.Message m) = x
on_timeout x f (Outcome.Lookup g) = x
on_timeout x f (Outcome.Evaluation v) = x
on_timeout x f (Outcome.YesNo b) = x
on_timeout x f (Outcome.Event e) = x
on_timeout x f (Outcome.Timeout t) = f t

-- Nothing can fail
abbrev pub when_done : Next → Outcome → Next
when_done n o = code o is 1 ⇒ n ∣ misfit

-- The protocol layer may fail with e, and that decides otherwise
abbrev pub when_tried : Next → (ℕ → Next) → Outcome → Next
when_tried n failed o = code o is 1 ⇒ n ∣ on_failed misfit failed o

-- The protocol layer may fail with e: S.e
abbrev pub when_sent : Next → Outcome → Next
when_sent n = when_tried n stop

-- The DPM may fail: F
abbrev pub when_driven : Next → Finish → Outcome → Next
when_driven n f o = code o is 1 ⇒ n ∣ code o is 3 ⇒ finish f ∣ misfit

-- 10 supply to safe 5 V: Done, DpmFailed, "also NoSafe"
abbrev pub when_safe : Next → Next → Next → Outcome → Next
when_safe done dpm_failed no_safe o = code o is 1 ⇒ done ∣ code o is 3 ⇒ dpm_failed ∣ code o is 4 ⇒ no_safe ∣ misfit

-- An action that receives: a message or "Failed(e)"
abbrev pub when_heard : (Message → Next) → (ℕ → Next) → Outcome → Next
when_heard message failed o = on_message (on_failed misfit failed o) message o

-- What answers a swap, in time or not: 8.3.3.19.1.5 and 8.3.3.20.1 end in Ready after the SenderResponseTimer, and every other error is S.e
unfoldable pub swap_failed : ℕ → Next
swap_failed e = e is receive_timeout ⇒ to_ready ∣ stop e

-- A message that is a control message, by its type, else the first argument
abbrev pub on_control : {A : Type 0} → A → (ℕ → A) → Message → A
on_control x f (Message.Request p) = x
on_control x f (Message.EprRequest p) = x
on_control x f (Message.EprMode p) = x
on_control x f (Message.Control t) = f t
on_control x f (Message.ExtendedControl p) = x
on_control x f Message.Other = x
on_control x f (Message.SinkCapabilities good) = x
on_control x f (Message.EprSinkCapabilities good) = x

-- 17.3, 17.4 and 17.5: "that message only", a control message of this type
abbrev pub only : ℕ → Next → Message → Next
only type n = on_control misfit (λ t. t is type ⇒ n ∣ misfit)

abbrev pub when_control : ℕ → Next → Outcome → Next
when_control type n = when_heard (only type n) stop

-- 6: "Lookup"
abbrev pub when_found : (Option Kind → Next) → Outcome → Next
when_found = on_lookup misfit

-- 7: "Accept, Reject, Wait"
abbrev pub when_evaluated : (CapabilityResponse → Next) → Outcome → Next
when_evaluated = on_evaluation misfit

-- 11 Ready wait: "any message, Event", its timeouts, and Failed(e), which is S.e
abbrev pub when_ready : (Message → Next) → (Event → Next) → (Timeout → Next) → Outcome → Next
when_ready message event timeout o = on_message (on_event (on_timeout (on_failed misfit stop o) timeout o) event o) message o

-- 19 await new capabilities: "Event, five-second timeout"
abbrev pub when_woken : (Event → Next) → (Timeout → Next) → Outcome → Next
when_woken event timeout o = on_event (on_timeout misfit timeout o) event o

-- 23 and 24: "yes or no"
abbrev pub when_asked : Next → Next → Outcome → Next
when_asked if_yes if_no = on_yes_no misfit (λ b. b ⇒ if_yes ∣ if_no)
