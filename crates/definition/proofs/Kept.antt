-- Each call keeps what holds of a record and its log: the readings are true, and what is negotiated is vouched for. Assumes nothing.
use Prim.Native.Nat.{ℕ}
use mathlib.Core.Path.{◌≡◌, refl, ap, ◌∙◌}
use mathlib.Core.Bool.{Bool, true, false, ◌&&◌, true≢false}
use mathlib.Core.List.{List, [], ◌∷◌}
use lib.Dec.{eqb}
use Rattle.notation.specs.Rows.{◌⇒◌∣◌, ◌is◌}
use Rattle.definition.specs.Types.{Action, Settings, Contract, Outcome, CapabilityResponse, Record, Place, State}
use Rattle.definition.specs.Types.{Negotiation, PowerSource}
use Rattle.definition.specs.Next.{Write, mode, data_role_to, vconn_source_to, Next, to, misfit, stop}
use Rattle.definition.specs.Actions.{awaited}
use Rattle.definition.specs.SourcePort.{evaluated, negotiation_awaits}
use Rattle.definition.specs.States.{standing, after}
use Rattle.definition.specs.Entering.{write, written, arrive, blank, begun, first_wait, first_contract}
use Rattle.definition.specs.Refusals.{bad_event, re_entry, uncreatable}
use Rattle.definition.specs.Engine.{issues, tell, settle, resume, step, go_back, re_enter, create, created, not_created}
use Rattle.definition.specs.Paper.{waiting}
use Rattle.definition.specs.Log as log
use Rattle.definition.specs.Log.{Entry, creation, outcome, Log, empty, ◌▸◌, acts, number, done, newest, contract, hard_count, caps_count}
use Rattle.definition.specs.Log.{request, latest, accepted, Supplied, explicit_of_newest, names_contract}
use Rattle.definition.specs.Runs.{issued, Run, running, made, called}
use Rattle.definition.specs.Runs as runs
use Rattle.definition.proofs.Log.{contract_untouched}
use Rattle.definition.proofs.Issued.{no_nine}
use Rattle.definition.proofs.Refusals.{tell_no_refusal}
use Rattle.definition.proofs.Sound.{parts_sound, arrive_sound, written_sound, new_sound}
use Rattle.definition.proofs.Ways.{when_tried_leads, when_found_leads, when_evaluated_leads}
use Rattle.definition.proofs.Leading.{GoodState, Arrives, arrives, after_leads, re_entry_arrives}
use Rattle.definition.proofs.Arriving.{Knows, Kept, Calm, after_call, Before, came, contract_before, arrived}

-- What holds at a point of a run
abbrev pub Holds : Run → Type 0
Holds runs.nothing = Unit
Holds (running r l) = Kept r l

-- A call that is not refused
gone : (r : Record) (l : Log) (e : Entry) → Kept r (after_call r l e) → Holds (called l e (tell r))
unfolding after_call tell
gone r l e k = rw (tell_no_refusal r) k

-- The next place, or a refusal that changes nothing
next_contract : Record → Next → Contract
next_contract r (to ws p) = contract_before r.contract p
next_contract r misfit = r.contract

-- What is written on the way is none of what the rules read
record Unread (r w : Record) : Type 0 where
  contract_kept : r.contract ≡ w.contract
  hard_kept : r.hard_reset_counter ≡ w.hard_reset_counter
  caps_kept : r.caps_counter ≡ w.caps_counter

write_unread : (w : Write) (r : Record) → Unread r (write w r)
write_unread (mode m) r = record { contract_kept = refl; hard_kept = refl; caps_kept = refl }
write_unread (data_role_to d) r = record { contract_kept = refl; hard_kept = refl; caps_kept = refl }
write_unread (vconn_source_to v) r = record { contract_kept = refl; hard_kept = refl; caps_kept = refl }

written_unread : (ws : List Write) (r : Record) → Unread r (written ws r)
written_unread [] r = record { contract_kept = refl; hard_kept = refl; caps_kept = refl }
written_unread (w ∷ ws) r =
    let first : Unread r (write w r) = write_unread w r in
    let rest : Unread (write w r) (written ws (write w r)) = written_unread ws (write w r) in
    record {
      contract_kept = first.contract_kept ∙ rest.contract_kept;
      hard_kept = first.hard_kept ∙ rest.hard_kept;
      caps_kept = first.caps_kept ∙ rest.caps_kept;
    }

written_before : (ws : List Write) (r : Record) (l : Log) (e : Entry) → Before r l e → Before (written ws r) l e
written_before ws r l e b = record {
  calm = b.calm;
  r1_accepts = written_sound ws r b.r1_accepts;
  hard_read = b.hard_read ∙ ap (λ n. n.value) (written_unread ws r).hard_kept;
  caps_read = b.caps_read ∙ ap (λ n. n.value) (written_unread ws r).caps_kept;
  vouched = b.vouched;
}

written_contract : (ws : List Write) (r : Record) (p : Place) → contract_before r.contract p ≡ contract_before (written ws r).contract p
written_contract ws r p = ap (λ c. contract_before c p) (written_unread ws r).contract_kept

settled :
    (n : ℕ) (r : Record) (l : Log) (e : Entry) (x : Next) → eqb n 0 ≡ false → Kept r l → Before r l e →
    contract (l ▸ e) ≡ next_contract r x → Arrives (l ▸ e) x → Holds (called l e (settle n r x))
unfolding next_contract
settled n r l e (to ws p) z k b h g =
    gone (arrive (written ws r) p) l e (arrived (written ws r) l e p (written_before ws r l e b) (h ∙ written_contract ws r p) g)
settled n r l e misfit z k b h g = rw z k

-- Where the log reads the stored contract, it reads the one that the next place wants
contract_wanted : (r : Record) (l : Log) (x : Next) → contract l ≡ r.contract → Arrives l x → contract l ≡ next_contract r x
unfolding next_contract contract_before
contract_wanted r l (to ws (Place.Waiting s)) h g = h
contract_wanted r l (to ws (Place.Negotiating Negotiation.Lookup q)) h g = h
contract_wanted r l (to ws (Place.Negotiating Negotiation.Evaluate q)) h g = h
contract_wanted r l (to ws (Place.Negotiating Negotiation.Accept q)) h g = h
contract_wanted r l (to ws (Place.Negotiating Negotiation.Supply q)) h g = h
contract_wanted r l (to ws (Place.Negotiating Negotiation.PsRdy q)) h g = g
contract_wanted r l (to ws (Place.Stopped e)) h g = h
contract_wanted r l (to ws (Place.HandedOver y)) h g = h
contract_wanted r l (to ws (Place.Finished f)) h g = h
contract_wanted r l misfit h g = h

-- An outcome of any action but 9 leaves the contract
and_nothing : (a b : Bool) → b ≡ false → (a && b) ≡ false
and_nothing true b h = h
and_nothing false b h = refl

contract_left : (l : Log) (o : Outcome) → newest (number 9) l ≡ false → contract (l ▸ outcome o) ≡ contract l
unfolding names_contract
contract_left l o h = contract_untouched l (outcome o) (and_nothing (done (outcome o)) _ h)

before_step : (r : Record) (l : Log) (o : Outcome) → Kept r l → Before r l (outcome o)
unfolding Calm hard_count caps_count Supplied
before_step r l o k = record { calm = λ n. refl; r1_accepts = k.r1_accepts; hard_read = k.hard_read; caps_read = k.caps_read; vouched = k.vouched }

stepped : (r : Record) (l : Log) (o : Outcome) (x : Next) → Kept r l → newest (number 9) l ≡ false → Arrives (l ▸ outcome o) x
    → Holds (called l (outcome o) (settle 5 r x))
stepped r l o x k nine g = settled 5 r l (outcome o) x refl k (before_step r l o k)
    (contract_wanted r (l ▸ outcome o) x (contract_left l o nine ∙ k.contract_read) g) g

-- In a state
judged : (b : Bool) (l : Log) (x : Next) → Arrives l x → Arrives l (b ⇒ misfit ∣ x)
judged true l x g = tt
judged false l x g = g

in_state : (r : Record) (l : Log) (s : State) (o : Outcome) → r.place ≡ Place.Waiting s → Kept r l
    → Holds (called l (outcome o) (settle 5 r (bad_event o ⇒ misfit ∣ after r s o)))
in_state r l s o e k =
    let awaits_at : (test : Action → Bool) → newest (acts test) l ≡ test (awaited (standing r s).issues) =
    λ test. k.awaiting test ∙ ap (λ p. waiting p && test (awaited (issues r p))) e in
    stepped r l o (bad_event o ⇒ misfit ∣ after r s o) k (awaits_at (λ x. x.number is 9) ∙ no_nine r.mode r.contract r.data_role r.vconn_source r.port s)
    (judged (bad_event o) (l ▸ outcome o) (after r s o) (arrives l o _ (after r s o) awaits_at (after_leads r.mode r.contract r.data_role r.vconn_source r.port s o)))

-- While a request is negotiated
abbrev Arrived : Log → Outcome → Next → Type 0
Arrived l o = Arrives (l ▸ outcome o)

found_leads : (l : Log) (q : PowerSource) → latest l ≡ request q → (o : Outcome) → Arrived l o ((negotiation_awaits Negotiation.Lookup q).then o)
unfolding latest
found_leads l q h o = when_found_leads (Arrived l) (λ o. tt) _ (λ f. rw h) o

evaluated_leads : (l : Log) (q : PowerSource) → latest l ≡ request q → (o : Outcome) → Arrived l o ((negotiation_awaits Negotiation.Evaluate q).then o)
unfolding latest accepted
evaluated_leads l q h o = when_evaluated_leads (Arrived l) (λ o. tt) _ judged_leads o
  where
    judged_leads : (v : CapabilityResponse) → Arrived l (Outcome.Evaluation v) (evaluated q v)
    judged_leads CapabilityResponse.Accept = (h, h)
    judged_leads CapabilityResponse.Reject = tt
    judged_leads CapabilityResponse.Wait = tt

accept_leads : (l : Log) (q : PowerSource) → latest l ≡ request q → accepted l ≡ request q → (o : Outcome)
    → Arrived l o ((negotiation_awaits Negotiation.Accept q).then o)
unfolding latest accepted
accept_leads l q h a o = when_tried_leads (Arrived l) (λ o. tt) _ stop (h, a) (λ e. tt) o

ps_rdy_leads : (l : Log) (q : PowerSource) (o : Outcome) → Arrived l o ((negotiation_awaits Negotiation.PsRdy q).then o)
ps_rdy_leads l q o = when_tried_leads (Arrived l) (λ o. tt) _ stop tt (λ e. tt) o

-- The supply that is done is Explicit of its request; nothing else about it changes the contract
supply_done : (r : Record) (l : Log) (q : PowerSource) → Kept r l → newest (number 9) l ≡ true
    → ((c : Contract) → explicit_of_newest l c ≡ Contract.Explicit q) → (o : Outcome)
    → Holds (called l (outcome o) (settle 5 r ((negotiation_awaits Negotiation.Supply q).then o)))
unfolding contract next_contract contract_before
supply_done r l q k nine ex Outcome.Done = settled 5 r l (outcome Outcome.Done) ((negotiation_awaits Negotiation.Supply q).then Outcome.Done) refl k
    (before_step r l Outcome.Done k) (rw nine (ex (contract l))) (rw nine (ex (contract l)))
supply_done r l q k nine ex (Outcome.Failed e) = k
supply_done r l q k nine ex Outcome.DpmFailed = settled 5 r l (outcome Outcome.DpmFailed)
    ((negotiation_awaits Negotiation.Supply q).then Outcome.DpmFailed) refl k (before_step r l Outcome.DpmFailed k) k.contract_read tt
supply_done r l q k nine ex Outcome.NoSafe = k
supply_done r l q k nine ex (Outcome.Message m) = k
supply_done r l q k nine ex (Outcome.Lookup f) = k
supply_done r l q k nine ex (Outcome.Evaluation v) = k
supply_done r l q k nine ex (Outcome.YesNo b) = k
supply_done r l q k nine ex (Outcome.Event e) = k
supply_done r l q k nine ex (Outcome.Timeout t) = k

on_the_way : (r : Record) (l : Log) (w : Negotiation) (q : PowerSource) (o : Outcome) → Kept r l → Knows l (Place.Negotiating w q)
    → ((n : ℕ) → newest (number n) l ≡ eqb (awaited (negotiation_awaits w q).issues).number n)
    → Holds (called l (outcome o) (settle 5 r ((negotiation_awaits w q).then o)))
on_the_way r l Negotiation.Lookup q o k h a = stepped r l o ((negotiation_awaits Negotiation.Lookup q).then o) k (a 9) (found_leads l q h o)
on_the_way r l Negotiation.Evaluate q o k h a = stepped r l o ((negotiation_awaits Negotiation.Evaluate q).then o) k (a 9) (evaluated_leads l q h o)
on_the_way r l Negotiation.Accept q o k h a = stepped r l o ((negotiation_awaits Negotiation.Accept q).then o) k (a 9) (accept_leads l q h.0 h.1 o)
on_the_way r l Negotiation.Supply q o k h a = supply_done r l q k (a 9) h.2 o
on_the_way r l Negotiation.PsRdy q o k h a = stepped r l o ((negotiation_awaits Negotiation.PsRdy q).then o) k (a 9) (ps_rdy_leads l q o)

-- Any outcome, on any record of a run
resumed : (r : Record) (l : Log) (p : Place) (o : Outcome) → r.place ≡ p → Kept r l → Holds (called l (outcome o) (resume r p o))
resumed r l (Place.Waiting s) o e k = in_state r l s o e k
resumed r l (Place.Negotiating w q) o e k = on_the_way r l w q o k (rw e at k.knows)
    (λ n. k.awaiting (λ x. x.number is n) ∙ ap (λ p. waiting p && eqb (awaited (issues r p)).number n) e)
resumed r l (Place.Stopped x) o e k = k
resumed r l (Place.HandedOver x) o e k = k
resumed r l (Place.Finished x) o e k = k

pub step_keeps : (r : Record) (l : Log) (o : Outcome) → Kept r l → Holds (called l (outcome o) (step r o))
unfolding step
step_keeps r l o k = rw (parts_sound r k.r1_accepts) (resumed r l r.place o refl k)

-- Re-entry
before_re_entry : (r : Record) (l : Log) (t b : ℕ) → Kept r l → Before r l (log.re_entry t b)
unfolding Calm hard_count caps_count Supplied
before_re_entry r l t b k = record { calm = λ n. refl; r1_accepts = k.r1_accepts; hard_read = k.hard_read; caps_read = k.caps_read; vouched = k.vouched }

targeted : (r : Record) (l : Log) (t b : ℕ) (handed : Bool) → Kept r l → Holds (called l (log.re_entry t b) (settle 6 r (re_entry handed r.mode t b)))
unfolding contract
targeted r l t b handed k =
    settled 6 r l (log.re_entry t b) (re_entry handed r.mode t b) refl k (before_re_entry r l t b k)
    (contract_wanted r (l ▸ log.re_entry t b) (re_entry handed r.mode t b) k.contract_read (re_entry_arrives (l ▸ log.re_entry t b) handed r.mode t b refl))
    (re_entry_arrives (l ▸ log.re_entry t b) handed r.mode t b refl)

went_back : (r : Record) (l : Log) (p : Place) (t b : ℕ) → Kept r l → Holds (called l (log.re_entry t b) (go_back r p t b))
went_back r l (Place.Waiting s) t b k = k
went_back r l (Place.Negotiating w q) t b k = k
went_back r l (Place.Stopped x) t b k = targeted r l t b false k
went_back r l (Place.HandedOver x) t b k = targeted r l t b true k
went_back r l (Place.Finished x) t b k = k

pub re_entry_keeps : (r : Record) (l : Log) (t b : ℕ) → Kept r l → Holds (called l (log.re_entry t b) (re_enter r t b))
unfolding re_enter
re_entry_keeps r l t b k = rw (parts_sound r k.r1_accepts) (went_back r l r.place t b k)

-- Creation
new_before : (s : Settings) → eqb s.hard_limit 0 ≡ false → eqb s.caps_limit 0 ≡ false → Before (blank s) empty (creation s)
unfolding Calm hard_count caps_count Supplied
new_before s h k = record { calm = λ n. refl; r1_accepts = new_sound s h k; hard_read = refl; caps_read = refl; vouched = tt }

-- "D at creation (Implicit if swapped)": what is stored is what the creation entry reads
contract_created : (s : Settings) → contract (empty ▸ creation s) ≡ (blank s).contract
unfolding contract
contract_created s = chosen s.role_swapped
  where
    chosen : (b : Bool) → (b ⇒ Contract.Implicit ∣ Contract.Safe5V) ≡ first_contract b
    chosen true = refl
    chosen false = refl

started : (s : Settings) (b : Bool) → GoodState (empty ▸ creation s) (State.Startup (first_wait b))
started s true = tt
started s false = tt

begun_kept : (s : Settings) → eqb s.hard_limit 0 ≡ false → eqb s.caps_limit 0 ≡ false → Kept (begun s) (after_call (begun s) empty (creation s))
begun_kept s h k =
    came (blank s) empty (creation s) (State.Startup (first_wait s.role_swapped)) (new_before s h k) (contract_created s) (started s s.role_swapped)
    (arrive_sound (blank s) (Place.Waiting (State.Startup (first_wait s.role_swapped))) (new_sound s h k))

-- Not refused, so neither limit is 0
limits : (a b c : Bool) → (a ⇒ true ∣ b ⇒ true ∣ c) ≡ false → (a ≡ false) × (b ≡ false)
limits true b c h = absurd (true≢false h)
limits false true c h = absurd (true≢false h)
limits false false c h = (refl, refl)

creates_kept : (u : Bool) (s : Settings) → uncreatable s ≡ u
    → Holds (made (issued (empty ▸ creation s) (u ⇒ not_created 7 ∣ created (tell (begun s))).actions)
    (u ⇒ not_created 7 ∣ created (tell (begun s))).«record»)
unfolding uncreatable after_call tell
creates_kept true s h = tt
creates_kept false s h =
    let z : (eqb s.hard_limit 0 ≡ false) × (eqb s.caps_limit 0 ≡ false) = limits (eqb s.hard_limit 0) (eqb s.caps_limit 0) _ h in
    begun_kept s z.0 z.1

pub create_keeps : (s : Settings) → Holds (made (issued (empty ▸ creation s) (create s).actions) (create s).«record»)
unfolding create
create_keeps s = creates_kept (uncreatable s) s refl
