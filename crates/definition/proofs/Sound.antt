-- A call on a record that R1 accepts gives a record that R1 accepts. Assumes nothing.
use Prim.Native.Nat.{ℕ, ◌+◌}
use native.Mathlib.Numerals.{add-one}
use mathlib.Core.Path.{◌≡◌, refl}
use mathlib.Core.Bool.{Bool, true, false, ◌&&◌}
use mathlib.Core.List.{List, [], ◌∷◌}
use native.Mathlib.Omega.{arith}
use lib.Dec.{eqb, leb, ltb}
use borrow.Author.Tests.{le-leb, ltb-true}
use Rattle.notation.specs.Rows.{◌⇒◌∣◌}
use Rattle.request.proofs.Same.{same_itself}
use Rattle.std.specs.Prelude.{Result, Ok, Err}
use Rattle.counters.specs.Counting as counting
use Rattle.counters.specs.Counting.{increment, reset}
use Rattle.definition.specs.Types.{Settings, Record, Place, State, Negotiation, PowerSource, Counter, Increment, Exceeded, Outcome}
use Rattle.definition.specs.Next.{Write, mode, data_role_to, vconn_source_to, Next, to, misfit}
use Rattle.definition.specs.Awaits.{Entrance, unwritten, startup, swapped_startup, count_capabilities, clear_hard_resets, count_hard_reset}
use Rattle.definition.specs.SourcePort.{negotiation_awaits}
use Rattle.definition.specs.States.{standing, after}
use Rattle.definition.specs.Entering.{at, write, written, discovering, resetting, entered, negotiated, arrive, first_wait, blank, begun}
use Rattle.definition.specs.Refusals.{sound, counted, place_sound, bad_event, re_entry}
use Rattle.definition.specs.Engine.{tell, settle, resume, step, go_back, re_enter}
use Rattle.definition.proofs.Laws.{and_left, and_right, positive}

reset_counted : (c : Counter) → counted c ≡ true → counted (reset c) ≡ true
unfolding counted
reset_counted c h = rw (and_left (ltb 0 c.max_value) (leb c.value c.max_value) h, le-leb 0 c.max_value (omega arith))

-- An increment, by whether the count is below its limit
abbrev pub tried : Counter → Bool → Result Increment Exceeded
tried c below = below ⇒ Ok (counting.counted c) ∣ Err (counting.exceeded c)

-- An increment that counts stays within the limit
more_counted : (v m : ℕ) → counted (record { value = v; max_value = m }) ≡ true → ltb v m ≡ true → counted (record { value = v + 1; max_value = m }) ≡ true
unfolding counted
more_counted v m h t = rw (and_left (ltb 0 m) (leb v m) h, le-leb (v + 1) m (rw add-one (ltb-true v m t)))

-- What R1 asks, one by one
pub record Sound (r : Record) : Type 0 where
  pub hard : counted r.hard_reset_counter ≡ true
  pub caps : counted r.caps_counter ≡ true
  pub place : place_sound r.place r.contract ≡ true

three : (a b c : Bool) → (a && (b && c)) ≡ true → (a ≡ true) × (b ≡ true) × (c ≡ true)
three a b c h = (and_left a (b && c) h, and_left b c (and_right a (b && c) h), and_right b c (and_right a (b && c) h))

pub sound_parts : (r : Record) → sound r ≡ true → Sound r
unfolding sound
sound_parts r h =
    let t : (counted r.hard_reset_counter ≡ true) × (counted r.caps_counter ≡ true) × (place_sound r.place r.contract ≡ true) = three
    (counted r.hard_reset_counter) (counted r.caps_counter) (place_sound r.place r.contract) h in
    record { hard = t.0; caps = t.1; place = t.2 }

pub parts_sound : (r : Record) → Sound r → sound r ≡ true
unfolding sound
parts_sound r s = rw (s.hard, s.caps, s.place)

discovering_sound : (r : Record) → Sound r → (b : Bool) → ltb r.caps_counter.value r.caps_counter.max_value ≡ b
    → Sound (discovering r (tried r.caps_counter b))
discovering_sound r s true t = record {
  hard = s.hard;
  caps = more_counted r.caps_counter.value r.caps_counter.max_value s.caps t;
  place = refl;
}
discovering_sound r s false t = record { hard = s.hard; caps = s.caps; place = refl }

resetting_sound : (r : Record) → Sound r → (b : Bool) → ltb r.hard_reset_counter.value r.hard_reset_counter.max_value ≡ b
    → Sound (resetting r (tried r.hard_reset_counter b))
resetting_sound r s true t = record {
  hard = more_counted r.hard_reset_counter.value r.hard_reset_counter.max_value s.hard t;
  caps = s.caps;
  place = refl;
}
resetting_sound r s false t = record { hard = s.hard; caps = s.caps; place = refl }

-- Being at a place that asks nothing of the contract
stands : (r : Record) (p : Place) → Sound r → place_sound p r.contract ≡ true → Sound (at p r)
stands r p s h = record { hard = s.hard; caps = s.caps; place = h }

entered_sound : (e : Entrance) (r : Record) (s : State) → Sound r → Sound (entered e r s)
unfolding increment
entered_sound startup r s h = record { hard = h.hard; caps = reset_counted r.caps_counter h.caps; place = refl }
entered_sound swapped_startup r s h = record { hard = h.hard; caps = reset_counted r.caps_counter h.caps; place = refl }
entered_sound count_capabilities r s h = discovering_sound r h _ refl
entered_sound clear_hard_resets r s h = record { hard = reset_counted r.hard_reset_counter h.hard; caps = h.caps; place = refl }
entered_sound count_hard_reset r s h = resetting_sound r h _ refl
entered_sound unwritten r s h = stands r _ h refl

negotiated_sound : (r : Record) (w : Negotiation) (q : PowerSource) → Sound r → Sound (negotiated r w q)
negotiated_sound r Negotiation.Lookup q h = stands r _ h refl
negotiated_sound r Negotiation.Evaluate q h = stands r _ h refl
negotiated_sound r Negotiation.Accept q h = stands r _ h refl
negotiated_sound r Negotiation.Supply q h = record { hard = h.hard; caps = h.caps; place = refl }
negotiated_sound r Negotiation.PsRdy q h = record { hard = h.hard; caps = h.caps; place = same_itself q }

pub arrive_sound : (r : Record) (p : Place) → Sound r → Sound (arrive r p)
arrive_sound r (Place.Waiting s) h = entered_sound (standing r s).entrance r s h
arrive_sound r (Place.Negotiating w q) h = negotiated_sound r w q h
arrive_sound r (Place.Stopped e) h = stands r _ h refl
arrive_sound r (Place.HandedOver x) h = stands r _ h refl
arrive_sound r (Place.Finished f) h = stands r _ h refl

-- What is written on the way is none of what R1 asks
write_sound : (w : Write) (r : Record) → Sound r → Sound (write w r)
write_sound (mode m) r h = record { hard = h.hard; caps = h.caps; place = h.place }
write_sound (data_role_to d) r h = record { hard = h.hard; caps = h.caps; place = h.place }
write_sound (vconn_source_to v) r h = record { hard = h.hard; caps = h.caps; place = h.place }

pub written_sound : (ws : List Write) (r : Record) → Sound r → Sound (written ws r)
written_sound [] r h = h
written_sound (w ∷ ws) r h = written_sound ws (write w r) (write_sound w r h)

settle_sound : (n : ℕ) (r : Record) (x : Next) → Sound r → Sound (settle n r x).«record»
unfolding tell
settle_sound n r (to w p) h = arrive_sound (written w r) p (written_sound w r h)
settle_sound n r misfit h = h

resume_sound : (r : Record) (p : Place) (o : Outcome) → Sound r → Sound (resume r p o).«record»
resume_sound r (Place.Waiting s) o h = settle_sound 5 r (bad_event o ⇒ misfit ∣ after r s o) h
resume_sound r (Place.Negotiating w q) o h = settle_sound 5 r ((negotiation_awaits w q).then o) h
resume_sound r (Place.Stopped e) o h = h
resume_sound r (Place.HandedOver x) o h = h
resume_sound r (Place.Finished f) o h = h

-- A step on a record that R1 accepts gives a record that R1 accepts
pub step_sound : (r : Record) (o : Outcome) → sound r ≡ true → sound (step r o).«record» ≡ true
unfolding step
step_sound r o h = parts_sound _ (rw h (resume_sound r r.place o (sound_parts r h)))

go_back_sound : (r : Record) (p : Place) (t change : ℕ) → Sound r → Sound (go_back r p t change).«record»
go_back_sound r (Place.Waiting s) t change h = h
go_back_sound r (Place.Negotiating w q) t change h = h
go_back_sound r (Place.Stopped e) t change h = settle_sound 6 r (re_entry false r.mode t change) h
go_back_sound r (Place.HandedOver x) t change h = settle_sound 6 r (re_entry true r.mode t change) h
go_back_sound r (Place.Finished f) t change h = h

-- And so does a re-entry
pub re_entry_sound : (r : Record) (t change : ℕ) → sound r ≡ true → sound (re_enter r t change).«record» ≡ true
unfolding re_enter
re_entry_sound r t change h = parts_sound _ (rw h (go_back_sound r r.place t change (sound_parts r h)))

-- A new record is one that R1 accepts
new_counted : (n : ℕ) → eqb n 0 ≡ false → counted (record { value = 0; max_value = n }) ≡ true
unfolding counted
new_counted n h = rw (positive n, h, le-leb 0 n (omega arith))

pub new_sound : (s : Settings) → eqb s.hard_limit 0 ≡ false → eqb s.caps_limit 0 ≡ false → Sound (blank s)
new_sound s h k = record { hard = new_counted s.hard_limit h; caps = new_counted s.caps_limit k; place = refl }

pub begun_sound : (s : Settings) → eqb s.hard_limit 0 ≡ false → eqb s.caps_limit 0 ≡ false → sound (begun s) ≡ true
begun_sound s h k = parts_sound (begun s) (arrive_sound (blank s) (Place.Waiting (State.Startup (first_wait s.role_swapped))) (new_sound s h k))
