-- The setting changes, under "standard", the argument of 4 in GiveSourceCap and who feeds VCONN, and nothing else; and no call changes the port. Assumes
-- nothing.
use Rattle.std.specs.Prelude.{Result, Ok, Err, Option, None, Some}
use Prim.Native.Nat.{ℕ}
use mathlib.Core.Path.{◌≡◌, refl, ap, sym, ◌∙◌}
use mathlib.Core.Bool.{Bool, true, false, false≢true}
use mathlib.Core.List.{List, [], ◌∷◌}
use borrow.Author.Tests.{eqb-true}
use Rattle.notation.specs.Rows.{◌⇒◌∣◌, ◌is◌}
use Rattle.counters.specs.Counting.{increment}
use Rattle.definition.specs.Types.{Action, Call, Created, Exceeded, Increment, Mode, Negotiation, Outcome, Place}
use Rattle.definition.specs.Types.{Port, PowerSource, Record, Setting, Settings, State, Step, VcsState}
use Rattle.definition.specs.Next.{Write, mode, data_role_to, vconn_source_to, Next, to, misfit}
use Rattle.definition.specs.Actions.{none, places}
use Rattle.definition.specs.Awaits.{Entrance, unwritten, startup, swapped_startup, count_capabilities, clear_hard_resets, count_hard_reset}
use Rattle.definition.specs.SourcePort.{negotiation_awaits}
use Rattle.definition.specs.States.{await_of, standing}
use Rattle.definition.specs.Entering.{with_vconn_source, remembered, discovering, resetting, write, written, entered, negotiated}
use Rattle.definition.specs.Entering.{passed_on, arrive, remaining, blank, begun, first_wait}
use Rattle.definition.specs.Refusals.{sound, bad_event, re_entry, uncreatable}
use Rattle.definition.specs.Engine.{issues, tell, come, refuse, settle, resume, step, go_back, re_enter, take, create, created, not_created}
use Rattle.definition.specs.Paper.{refusal, starts_up}
use Rattle.definition.specs.Log.{Log, ◌▸◌, numbered}
use Rattle.definition.specs.Runs as runs
use Rattle.definition.specs.Runs.{issued, Run, running, made, called, Calls, call, run}
use Rattle.definition.specs.Promised.{Promised}
use Rattle.definition.specs.Former as former
use Rattle.definition.specs.Feeding.{hard_resets, vconn_after}
use Rattle.definition.specs.Giving.{under, set_under, carrying, carrying_made, Asked, nobody, by, asked_for, each, as_asked, asked_in, asked_at}
use Rattle.definition.specs.Giving.{corrected, Giving, created_with}
use Rattle.definition.proofs.Laws.{by_test}
use Rattle.definition.proofs.Fields.{settings_never_change, New, created_new, kept_twice}
use Rattle.definition.proofs.Runs.{entry, taken, the_run}
use Rattle.definition.proofs.Feeding.{vconn_changes_exactly}

-- What a setting makes of the actions that were told at a place
abbrev amends : Setting → Asked → List Action → List Action
amends Setting.Crate a xs = xs
amends Setting.Standard a xs = as_asked a xs

-- A record of the former engine under a setting; under "standard" it is remembered that this port feeds VCONN, or that it does not
abbrev put : Setting → Bool → Record → Record
put g w r = with_vconn_source (remembered g w r.vconn_source) (under g r)

abbrev amended : Setting → Bool → Step → Step
amended g w s = record {
  «record» = put g w s.«record»;
  answer = s.answer;
  remaining = s.remaining;
  actions = amends g (asked_at s.«record».place) s.actions;
}

-- What is so under one of the two
record Came (g : Setting) (y z : Record) : Type 0 where
  feeds : Bool
  same : y ≡ put g feeds z

record Amended (g : Setting) (x y : Step) : Type 0 where
  feeds : Bool
  same : x ≡ amended g feeds y

-- The last word counts
last_word : (g : Setting) (new w old : Bool) → remembered g new (remembered g w old) ≡ remembered g new old
last_word Setting.Crate new w old = refl
last_word Setting.Standard new w old = refl

-- Under a setting alone
alone : (g : Setting) (r : Record) → under g r ≡ put g r.vconn_source r
alone g r = rw (kept_twice g r.vconn_source) refl

-- Where nobody asked, nothing is amended
unamended : (g : Setting) (xs : List Action) → xs ≡ amends g nobody xs
unamended Setting.Crate xs = refl
unamended Setting.Standard xs = refl

-- An await under a setting, beside the former one: both write the same where they are entered, and issue the same but for what asked, whoever feeds VCONN;
-- and where the same port feeds it both lead to the same
record Alike (g : Setting) (w : Bool) (r : Record) (s : State) : Type 0 where
  writes : (standing (put g w r) s).entrance ≡ (former.standing r s).entrance
  tells : places (standing (put g w r) s).issues ≡ amends g (asked_in s) (places (former.standing r s).issues)
  leads : (o : Outcome) → (standing (under g r) s).then o ≡ (former.standing r s).then o

given_alike : (g : Setting) (w : Bool) (r : Record) (asked : Mode) → Alike g w r (State.GiveSourceCap asked)
unfolding await_of former.await_of
given_alike Setting.Crate w r asked = record { writes = refl; tells = refl; leads = λ o. refl }
given_alike Setting.Standard w r asked = record { writes = refl; tells = refl; leads = λ o. refl }

alike : (g : Setting) (w : Bool) (r : Record) (s : State) → Alike g w r s
unfolding await_of former.await_of
alike g v r (State.Startup w) = record { writes = refl; tells = unamended g _; leads = λ o. refl }
alike g v r State.Discovery = record { writes = refl; tells = unamended g _; leads = λ o. refl }
alike g v r (State.SendCapabilities x) = record { writes = refl; tells = unamended g _; leads = λ o. refl }
alike g v r State.Ready = record { writes = refl; tells = unamended g _; leads = λ o. refl }
alike g v r (State.Disabled w) = record { writes = refl; tells = unamended g _; leads = λ o. refl }
alike g v r (State.CapabilityResponse d) = record { writes = refl; tells = unamended g _; leads = λ o. refl }
alike g v r (State.HardReset w) = record { writes = refl; tells = unamended g _; leads = λ o. refl }
alike g v r State.HardResetReceived = record { writes = refl; tells = unamended g _; leads = λ o. refl }
alike g v r (State.TransitionToDefault w) = record { writes = refl; tells = unamended g _; leads = λ o. refl }
alike g v r (State.GetSinkCap w) = record { writes = refl; tells = unamended g _; leads = λ o. refl }
alike g v r State.WaitNewCapabilities = record { writes = refl; tells = unamended g _; leads = λ o. refl }
alike g v r State.EprKeepAlive = record { writes = refl; tells = unamended g _; leads = λ o. refl }
alike g v r (State.GiveSourceCap asked) = given_alike g v r asked
alike g v r (State.SendSoftReset x) = record { writes = refl; tells = unamended g _; leads = λ o. refl }
alike g v r State.SoftReset = record { writes = refl; tells = unamended g _; leads = λ o. refl }
alike g v r State.SendNotSupported = record { writes = refl; tells = unamended g _; leads = λ o. refl }
alike g v r State.NotSupportedReceived = record { writes = refl; tells = unamended g _; leads = λ o. refl }
alike g v r (State.DrpSwap s) = record { writes = refl; tells = unamended g _; leads = λ o. refl }
alike g v r (State.DrpGetSourceCap k w) = record { writes = refl; tells = unamended g _; leads = λ o. refl }
alike g v r (State.DrpGiveSinkCap k w) = record { writes = refl; tells = unamended g _; leads = λ o. refl }
alike g v r (State.VconnSwap source VcsState.SendSwap) = record { writes = refl; tells = unamended g _; leads = λ o. refl }
alike g v r (State.VconnSwap source VcsState.SwapAnswer) = record { writes = refl; tells = unamended g _; leads = λ o. refl }
alike g v r (State.VconnSwap source VcsState.EvaluateSwap) = record { writes = refl; tells = unamended g _; leads = λ o. refl }
alike g v r (State.VconnSwap source VcsState.AcceptSwap) = record { writes = refl; tells = unamended g _; leads = λ o. refl }
alike g v r (State.VconnSwap source VcsState.RejectSwap) = record { writes = refl; tells = unamended g _; leads = λ o. refl }
alike g v r (State.VconnSwap source VcsState.WaitForVconn) = record { writes = refl; tells = unamended g _; leads = λ o. refl }
alike g v r (State.VconnSwap source VcsState.TurnOffVconn) = record { writes = refl; tells = unamended g _; leads = λ o. refl }
alike g v r (State.VconnSwap source VcsState.TurnOnVconn) = record { writes = refl; tells = unamended g _; leads = λ o. refl }
alike g v r (State.VconnSwap source VcsState.SendPsRdy) = record { writes = refl; tells = unamended g _; leads = λ o. refl }
alike g v r (State.VconnSwap source VcsState.VcsForceVconn) = record { writes = refl; tells = unamended g _; leads = λ o. refl }

-- No call on the way reads the setting, but for who feeds VCONN
discovering_under : (g : Setting) (w : Bool) (r : Record) (i : Result Increment Exceeded) → discovering (put g w r) i ≡ put g w (discovering r i)
discovering_under g w r (Ok i) = refl
discovering_under g w r (Err e) = refl

resetting_under : (g : Setting) (w : Bool) (r : Record) (i : Result Increment Exceeded) → resetting (put g w r) i ≡ put g w (resetting r i)
resetting_under g w r (Ok i) = refl
resetting_under g w r (Err e) = refl

entered_under : (g : Setting) (w : Bool) (e : Entrance) (r : Record) (s : State) → Came g (entered e (put g w r) s) (former.entered e r s)
entered_under g w startup r s = record { feeds = r.port.vconn_source; same = rw (last_word g r.port.vconn_source w r.vconn_source) refl }
entered_under g w swapped_startup r s = record { feeds = r.port.vconn_source; same = rw (last_word g r.port.vconn_source w r.vconn_source) refl }
entered_under g w count_capabilities r s = record { feeds = w; same = discovering_under g w r (increment r.caps_counter) }
entered_under g w clear_hard_resets r s = record { feeds = w; same = refl }
entered_under g w count_hard_reset r s = record { feeds = w; same = resetting_under g w r (increment r.hard_reset_counter) }
entered_under g w unwritten r s = record { feeds = w; same = refl }

negotiated_under : (g : Setting) (w : Bool) (r : Record) (x : Negotiation) (q : PowerSource) → negotiated (put g w r) x q ≡ put g w (negotiated r x q)
negotiated_under g w r Negotiation.Lookup q = refl
negotiated_under g w r Negotiation.Evaluate q = refl
negotiated_under g w r Negotiation.Accept q = refl
negotiated_under g w r Negotiation.Supply q = refl
negotiated_under g w r Negotiation.PsRdy q = refl

passed_under : (g : Setting) (w : Bool) (e : Entrance) (r : Record) → passed_on e (put g w r) ≡ passed_on e r
passed_under g w startup r = refl
passed_under g w swapped_startup r = refl
passed_under g w count_capabilities r = refl
passed_under g w clear_hard_resets r = refl
passed_under g w count_hard_reset r = refl
passed_under g w unwritten r = refl

write_under : (g : Setting) (w : Bool) (x : Write) (r : Record) → Came g (write x (put g w r)) (former.write x r)
write_under g w (mode m) r = record { feeds = w; same = refl }
write_under g w (data_role_to d) r = record { feeds = w; same = refl }
write_under g w (vconn_source_to v) r = record { feeds = v; same = rw (last_word g v w r.vconn_source) refl }

written_under : (g : Setting) (w : Bool) (ws : List Write) (r : Record) → Came g (written ws (put g w r)) (former.written ws r)
written_under g w [] r = record { feeds = w; same = refl }
written_under g w (x ∷ ws) r =
    let first : Came g (write x (put g w r)) (former.write x r) = write_under g w x r in
    let rest : Came g (written ws (put g first.feeds (former.write x r))) (former.written ws (former.write x r)) =
    written_under g first.feeds ws (former.write x r) in
    record { feeds = rest.feeds; same = ap (written ws) first.same ∙ rest.same }

arrive_under : (g : Setting) (w : Bool) (r : Record) (p : Place) → Came g (arrive (put g w r) p) (former.arrive r p)
arrive_under g w r (Place.Waiting s) =
    let came : Came g (entered (former.standing r s).entrance (put g w r) s) (former.arrive r (Place.Waiting s)) =
    entered_under g w (former.standing r s).entrance r s in
    record { feeds = came.feeds; same = ap (λ e. entered e (put g w r) s) (alike g w r s).writes ∙ came.same }
arrive_under g w r (Place.Negotiating x q) = record { feeds = w; same = negotiated_under g w r x q }
arrive_under g w r (Place.Stopped e) = record { feeds = w; same = refl }
arrive_under g w r (Place.HandedOver h) = record { feeds = w; same = refl }
arrive_under g w r (Place.Finished f) = record { feeds = w; same = refl }

remaining_under : (g : Setting) (w : Bool) (r : Record) (p : Place) → remaining (put g w r) p ≡ former.remaining r p
remaining_under g w r (Place.Waiting s) =
    ap (λ e. passed_on e (put g w r)) (alike g w r s).writes ∙ passed_under g w (former.standing r s).entrance r
remaining_under g w r (Place.Negotiating x q) = refl
remaining_under g w r (Place.Stopped e) = refl
remaining_under g w r (Place.HandedOver h) = refl
remaining_under g w r (Place.Finished f) = refl

-- None is no 4
unacted : (g : Setting) (a : Asked) → (none ∷ none ∷ []) ≡ amends g a (none ∷ none ∷ [])
unacted Setting.Crate a = refl
unacted Setting.Standard nobody = refl
unacted Setting.Standard (by asked) = refl

told_under : (g : Setting) (w : Bool) (r : Record) (p : Place) → places (issues (put g w r) p) ≡ amends g (asked_at p) (places (former.issues r p))
told_under g w r (Place.Waiting s) = (alike g w r s).tells
told_under g w r (Place.Negotiating x q) = unamended g _
told_under g w r (Place.Stopped e) = unamended g _
told_under g w r (Place.HandedOver h) = unamended g _
told_under g w r (Place.Finished f) = unamended g _

tell_under : (g : Setting) (w : Bool) (r : Record) → tell (put g w r) ≡ amended g w (former.tell r)
unfolding tell former.tell
tell_under g w r = rw (told_under g w r r.place) refl

come_under : (g : Setting) (w : Bool) (r : Record) (p : Place) → Amended g (come (put g w r) p) (former.come r p)
come_under g w r p =
    let came : Came g (arrive (put g w r) p) (former.arrive r p) = arrive_under g w r p in
    record { feeds = came.feeds; same = rw (remaining_under g w r p, came.same, tell_under g came.feeds (former.arrive r p)) refl }

refuse_under : (g : Setting) (n : ℕ) (r : Record) → Amended g (refuse n (under g r)) (refuse n r)
refuse_under g n r = record { feeds = r.vconn_source; same = rw (sym (unacted g (asked_at r.place)), kept_twice g r.vconn_source) refl }

settle_under : (g : Setting) (n : ℕ) (r : Record) (x : Next) → Amended g (settle n (under g r) x) (former.settle n r x)
settle_under g n r (to ws p) =
    let way : Came g (written ws (put g r.vconn_source r)) (former.written ws r) = written_under g r.vconn_source ws r in
    let there : Amended g (come (put g way.feeds (former.written ws r)) p) (former.come (former.written ws r) p) =
    come_under g way.feeds (former.written ws r) p in
    record { feeds = there.feeds; same = ap (λ y. come (written ws y) p) (alone g r) ∙ (ap (λ y. come y p) way.same ∙ there.same) }
settle_under g n r misfit = refuse_under g n r

resume_under : (g : Setting) (r : Record) (p : Place) (o : Outcome) → Amended g (resume (under g r) p o) (former.resume r p o)
resume_under g r (Place.Waiting s) o =
    let there : Amended g (settle 5 (under g r) (bad_event o ⇒ misfit ∣ (former.standing r s).then o)) (former.resume r (Place.Waiting s) o) =
    settle_under g 5 r (bad_event o ⇒ misfit ∣ (former.standing r s).then o) in
    record { feeds = there.feeds; same = ap (λ x. settle 5 (under g r) (bad_event o ⇒ misfit ∣ x)) ((alike g r.vconn_source r s).leads o) ∙ there.same }
resume_under g r (Place.Negotiating w q) o = settle_under g 5 r ((negotiation_awaits w q).then o)
resume_under g r (Place.Stopped e) o = refuse_under g 4 r
resume_under g r (Place.HandedOver h) o = refuse_under g 4 r
resume_under g r (Place.Finished f) o = refuse_under g 2 r

back_under : (g : Setting) (r : Record) (p : Place) (t b : ℕ) → Amended g (go_back (under g r) p t b) (former.go_back r p t b)
back_under g r (Place.Waiting s) t b = refuse_under g 3 r
back_under g r (Place.Negotiating w q) t b = refuse_under g 3 r
back_under g r (Place.Stopped e) t b = settle_under g 6 r (re_entry false r.mode t b)
back_under g r (Place.HandedOver h) t b = settle_under g 6 r (re_entry true r.mode t b)
back_under g r (Place.Finished f) t b = refuse_under g 2 r

past_r1 : (g : Setting) (b : Bool) (x y x' y' : Step) → Amended g x x' → Amended g y y' → Amended g (b ⇒ x ∣ y) (b ⇒ x' ∣ y')
past_r1 g true x y x' y' h k = h
past_r1 g false x y x' y' h k = k

take_under : (g : Setting) (r : Record) (c : Call) → Amended g (take (under g r) c) (former.take r c)
unfolding take step re_enter former.take sound
take_under g r (Call.Outcome o) =
    past_r1 g (sound r) _ _ (former.resume r r.place o) (refuse 1 r) (resume_under g r r.place o) (refuse_under g 1 r)
take_under g r (Call.ReEntry t b) =
    past_r1 g (sound r) _ _ (former.go_back r r.place t b) (refuse 1 r) (back_under g r r.place t b) (refuse_under g 1 r)

-- The correction of a give is none of what says who feeds VCONN
other_number : (asked : Mode) (n : ℕ) (a : Action) → 4 is n ≡ false → (asked_for asked a).number is n ≡ a.number is n
other_number asked n a h = by_test (a.number is 4) (λ e. rw (e, eqb-true a.number 4 e) refl) (λ e. rw e refl)

other_timer : (asked : Mode) (a : Action) → numbered 2 1 (asked_for asked a) ≡ numbered 2 1 a
other_timer asked a = by_test (a.number is 4) (λ e. rw (e, eqb-true a.number 4 e) refl) (λ e. rw e refl)

still_starts : (a : Asked) (xs : List Action) → starts_up (as_asked a xs) ≡ starts_up xs
unfolding starts_up
still_starts nobody xs = refl
still_starts (by asked) [] = refl
still_starts (by asked) (x ∷ []) = refl
still_starts (by asked) (x ∷ y ∷ rest) = rw (other_number asked 3 y refl, other_timer asked y, other_number asked 1 x refl) refl

each_resets : (asked : Mode) (xs : List Action) → hard_resets (each (asked_for asked) xs) ≡ hard_resets xs
unfolding hard_resets
each_resets asked [] = refl
each_resets asked (x ∷ rest) = rw (other_number asked 15 x refl, each_resets asked rest) refl

still_resets : (a : Asked) (xs : List Action) → hard_resets (as_asked a xs) ≡ hard_resets xs
still_resets nobody xs = refl
still_resets (by asked) xs = each_resets asked xs

still_fed : (r : Record) (c : Call) (w : Bool) (s : Step)
    → vconn_after r c (amended Setting.Standard w s) ≡ vconn_after r c (carrying Setting.Standard s)
unfolding vconn_after
still_fed r c w s = rw (still_starts (asked_at s.«record».place) s.actions, still_resets (asked_at s.«record».place) s.actions) refl

standard_under : (r : Record) (c : Call)
    → take (under Setting.Standard r) c ≡ corrected (under Setting.Standard r) c (carrying Setting.Standard (former.take r c))
standard_under r c =
    let there : Amended Setting.Standard (take (under Setting.Standard r) c) (former.take r c) = take_under Setting.Standard r c in
    let fed : there.feeds ≡ vconn_after (under Setting.Standard r) c (carrying Setting.Standard (former.take r c)) =
    sym (ap (λ s. s.«record».vconn_source) there.same) ∙ (vconn_changes_exactly (under Setting.Standard r) c ∙
    (ap (vconn_after (under Setting.Standard r) c) there.same ∙ still_fed (under Setting.Standard r) c there.feeds (former.take r c))) in
    there.same ∙ ap (λ w. amended Setting.Standard w (former.take r c)) fed

-- Creation: nobody has asked
starts_unasked : (r : Record) (b : Bool) → asked_at (former.arrive r (Place.Waiting (State.Startup (first_wait b)))).place ≡ nobody
unfolding former.await_of
starts_unasked r true = refl
starts_unasked r false = refl

begun_under : (g : Setting) (s : Settings) → begun (set_under g s) ≡ under g (former.begun s)
unfolding await_of former.await_of
begun_under g s = starts s.role_swapped
  where
    starts : (b : Bool) → arrive (blank (set_under g s)) (Place.Waiting (State.Startup (first_wait b)))
        ≡ under g (former.arrive (blank s) (Place.Waiting (State.Startup (first_wait b))))
    starts true = rw (kept_twice g s.port.vconn_source) refl
    starts false = rw (kept_twice g s.port.vconn_source) refl

begun_told : (g : Setting) (s : Settings) → created (tell (begun (set_under g s))) ≡ carrying_made g (created (former.tell (former.begun s)))
unfolding former.tell
begun_told g s =
    rw (
      begun_under g s,
      alone g (former.begun s),
      tell_under g (former.begun s).vconn_source (former.begun s),
      starts_unasked (blank s) s.role_swapped,
      sym (unamended g (former.tell (former.begun s)).actions),
      kept_twice g (former.begun s).vconn_source,
    ) refl

create_under : (g : Setting) (s : Settings) → create (set_under g s) ≡ carrying_made g (former.create s)
unfolding create former.create uncreatable
create_under g s = chosen (uncreatable s)
  where
    chosen : (b : Bool)
        → (b ⇒ not_created 7 ∣ created (tell (begun (set_under g s)))) ≡ carrying_made g (b ⇒ not_created 7 ∣ created (former.tell (former.begun s)))
    chosen true = refl
    chosen false = begun_told g s

-- Nobody asks elsewhere
is_asked : Asked → Bool
is_asked nobody = false
is_asked (by asked) = true

somebody : {asked : Mode} → nobody ≡ by asked → ⊥
unfolding is_asked
somebody h = false≢true (ap is_asked h)

asks : Asked → State
asks nobody = State.Ready
asks (by asked) = State.GiveSourceCap asked

asked_alone : (s : State) (asked : Mode) → asked_in s ≡ by asked → s ≡ State.GiveSourceCap asked
unfolding asks
asked_alone (State.Startup w) asked h = absurd (somebody h)
asked_alone State.Discovery asked h = absurd (somebody h)
asked_alone (State.SendCapabilities x) asked h = absurd (somebody h)
asked_alone State.Ready asked h = absurd (somebody h)
asked_alone (State.Disabled w) asked h = absurd (somebody h)
asked_alone (State.CapabilityResponse d) asked h = absurd (somebody h)
asked_alone (State.HardReset w) asked h = absurd (somebody h)
asked_alone State.HardResetReceived asked h = absurd (somebody h)
asked_alone (State.TransitionToDefault w) asked h = absurd (somebody h)
asked_alone (State.GetSinkCap w) asked h = absurd (somebody h)
asked_alone State.WaitNewCapabilities asked h = absurd (somebody h)
asked_alone State.EprKeepAlive asked h = absurd (somebody h)
asked_alone (State.GiveSourceCap k) asked h = ap asks h
asked_alone (State.SendSoftReset x) asked h = absurd (somebody h)
asked_alone State.SoftReset asked h = absurd (somebody h)
asked_alone State.SendNotSupported asked h = absurd (somebody h)
asked_alone State.NotSupportedReceived asked h = absurd (somebody h)
asked_alone (State.DrpSwap s) asked h = absurd (somebody h)
asked_alone (State.DrpGetSourceCap k w) asked h = absurd (somebody h)
asked_alone (State.DrpGiveSinkCap k w) asked h = absurd (somebody h)
asked_alone (State.VconnSwap source s) asked h = absurd (somebody h)

pub giving : Giving
giving = record {
  crate_call = λ r c. (take_under Setting.Crate r c).same;
  crate_creation = create_under Setting.Crate;
  standard_call = standard_under;
  standard_creation = create_under Setting.Standard;
  asked_in_give_alone = asked_alone;
}

-- On every run the port is the one that it was created with
abbrev Kept : Port → Run → Type 0
Kept p runs.nothing = Unit
Kept p (running r l) = r.port ≡ p

called_kept : (p : Port) (r : Record) (l : Log) (c : Call) → r.port ≡ p → Kept p (called l (entry c) (take r c))
called_kept p r l c h = chosen (refusal (take r c).answer is 0)
  where
    chosen : (b : Bool) → Kept p (b ⇒ running (take r c).«record» (issued (l ▸ entry c) (take r c).actions) ∣ running (take r c).«record» l)
    chosen true = (settings_never_change r c).port ∙ h
    chosen false = (settings_never_change r c).port ∙ h

call_kept : (p : Port) (x : Run) (c : Call) → Kept p x → Kept p (call create step re_enter x c)
call_kept p runs.nothing c h = tt
call_kept p (running r l) c h = rw (taken r l c) (called_kept p r l c h)

made_kept : (s : Settings) (l : Log) (m : Option Record) → ((r : Record) → m ≡ Some r → New s r) → Kept s.port (made l m)
made_kept s l None new = tt
made_kept s l (Some r) new = (new r refl).port

every_run_kept : (cs : Calls) → Kept (created_with cs) (run create step re_enter cs)
unfolding run
every_run_kept (runs.create s h) = made_kept s _ (create s).«record» (created_new s)
every_run_kept (runs.then cs c h) = call_kept (created_with cs) (run create step re_enter cs) c (every_run_kept cs)

-- "The setting never changes after creation", and no more does the creation value of `vconn_source`, for any three functions that keep the promises
module _ (creates : Settings → Created) (steps : Record → Outcome → Step) (re_enters : Record → ℕ → ℕ → Step) (keeps : Promised creates steps re_enters) where
  pub port_as_created : (cs : Calls) (r : Record) (l : Log) → run creates steps re_enters cs ≡ running r l → r.port ≡ created_with cs
  port_as_created cs r l e = rw (sym (the_run creates steps re_enters keeps cs) ∙ e) at (every_run_kept cs)
