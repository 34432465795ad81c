-- The wall says what the definition says: the search over the rows is `dispatched`, and no row is dead. Assumes nothing.
use Rattle.std.proofs.Common.{Option, ℕ, zero, suc, ◌+◌, ◌*◌, ◌/◌, Bool, true, false, ◌≡◌, refl, sym, subst, ◌∙◌, List, [], ◌∷◌, map, eqb, None, Some}
use lib.Dec.{T, eqb→eq}
use Rattle.notation.specs.Rows.{◌⇒◌∣◌}
use Rattle.definition.specs.Types.{Message, Mode, PowerSource}
use Rattle.definition.specs.Next.{Next}
use Rattle.definition.specs.Messages.{dispatched, epr_mode, epr_action, control, extended_control, extended_type}
use Rattle.dispatch.specs.declared.rows.Class.{Class}
use Rattle.dispatch.specs.declared.rows.Condition.{Condition}
use Rattle.dispatch.specs.declared.rows.Next as to
use Rattle.dispatch.specs.declared.rows.Row.{Row}
use Rattle.dispatch.specs.Rows.{rule, last, when}
use Rattle.dispatch.specs.Search.{seek, found, answers, led, row_of}

-- A number is one of the rows' types, or none of them
pub decide : (P : ℕ → Type 0) (n k : ℕ) → P k → (eqb n k ≡ false → P n) → P n
decide P n k here other = by (eqb n k) refl
  where
    by : (b : Bool) → eqb n k ≡ b → P n
    by true q = subst P (sym (eqb→eq n k (subst T (sym q) tt))) here
    by false q = other q

-- Where the first of k rows from n on leads
unfoldable leading : (Row → Bool) → Message → ℕ → ℕ → Next
leading answering x zero n = led (rule last).next x
leading answering x (suc k) n = answering (rule n) ⇒ led (rule n).next x ∣ leading answering x k (n + 1)

led_by : (answering : Row → Bool) (x : Message) (k n : ℕ) → led (rule (seek answering k n)).next x ≡ leading answering x k n
unfolding seek leading
led_by answering x zero n = refl
led_by answering x (suc k) n = by (answering (rule n)) (led_by answering x k (n + 1))
  where
    by : (b : Bool) → led (rule (seek answering k (n + 1))).next x ≡ leading answering x k (n + 1)
        → led (rule (b ⇒ n ∣ seek answering k (n + 1))).next x ≡ (b ⇒ led (rule n).next x ∣ leading answering x k (n + 1))
    by true rest = refl
    by false rest = rest

-- What the rows of a class say of a type, mode and role being known
abbrev Saying : Class → (ℕ → Next) → Message → Mode → Bool → ℕ → Type 0
Saying class says x m dual t = leading (answers class (Some t) m dual false) x 25 1 ≡ says t

abbrev Control : Message → Mode → Bool → ℕ → Type 0
Control x m dual = Saying Class.Control (control m dual) x m dual

abbrev Extended : Message → Mode → Bool → ℕ → Type 0
Extended x m dual = Saying Class.ExtendedControl (extended_type m dual) x m dual

abbrev Action : Message → Mode → Bool → ℕ → Type 0
Action x m dual = Saying Class.EprMode (epr_action m) x m dual

-- A type that has rows, and one that has none
by_control_types : (P : ℕ → Type 0) (t : ℕ) → P 13 → P 7 → P 11 → P 9 → P 10 → P 19 → P 8 → P 16
    → (eqb t 13 ≡ false → eqb t 7 ≡ false → eqb t 11 ≡ false → eqb t 9 ≡ false
    → eqb t 10 ≡ false → eqb t 19 ≡ false → eqb t 8 ≡ false → eqb t 16 ≡ false → P t)
    → P t
by_control_types P t p13 p7 p11 p9 p10 p19 p8 p16 none =
    decide P t 13 p13 (λ n13. decide P t 7 p7 (λ n7. decide P t 11 p11 (λ n11. decide P t 9 p9 (λ n9.
    decide P t 10 p10 (λ n10. decide P t 19 p19 (λ n19. decide P t 8 p8 (λ n8. decide P t 16 p16 (none n13 n7 n11 n9 n10 n19 n8))))))))

control_says : (x : Message) (m : Mode) (dual : Bool) (t : ℕ) → Control x m dual t
unfolding leading answers rule control
control_says x Mode.Spr true t =
    by_control_types (Control x Mode.Spr true) t refl refl refl refl refl refl refl refl
    (λ n13 n7 n11 n9 n10 n19 n8 n16. simp (n13, n7, n11, n9, n10, n19, n8, n16))
control_says x Mode.Spr false t =
    by_control_types (Control x Mode.Spr false) t refl refl refl refl refl refl refl refl
    (λ n13 n7 n11 n9 n10 n19 n8 n16. simp (n13, n7, n11, n9, n10, n19, n8, n16))
control_says x Mode.Epr true t =
    by_control_types (Control x Mode.Epr true) t refl refl refl refl refl refl refl refl
    (λ n13 n7 n11 n9 n10 n19 n8 n16. simp (n13, n7, n11, n9, n10, n19, n8, n16))
control_says x Mode.Epr false t =
    by_control_types (Control x Mode.Epr false) t refl refl refl refl refl refl refl refl
    (λ n13 n7 n11 n9 n10 n19 n8 n16. simp (n13, n7, n11, n9, n10, n19, n8, n16))

by_extended_types : (P : ℕ → Type 0) (t : ℕ) → P 1 → P 2 → P 3 → (eqb t 1 ≡ false → eqb t 2 ≡ false → eqb t 3 ≡ false → P t) → P t
by_extended_types P t p1 p2 p3 none = decide P t 1 p1 (λ n1. decide P t 2 p2 (λ n2. decide P t 3 p3 (none n1 n2)))

extended_says : (x : Message) (m : Mode) (dual : Bool) (t : ℕ) → Extended x m dual t
unfolding leading answers rule extended_type
extended_says x Mode.Spr true t = by_extended_types (Extended x Mode.Spr true) t refl refl refl (λ n1 n2 n3. simp (n1, n2, n3))
extended_says x Mode.Spr false t = by_extended_types (Extended x Mode.Spr false) t refl refl refl (λ n1 n2 n3. simp (n1, n2, n3))
extended_says x Mode.Epr true t = by_extended_types (Extended x Mode.Epr true) t refl refl refl (λ n1 n2 n3. simp (n1, n2, n3))
extended_says x Mode.Epr false t = by_extended_types (Extended x Mode.Epr false) t refl refl refl (λ n1 n2 n3. simp (n1, n2, n3))

by_actions : (P : ℕ → Type 0) (a : ℕ) → P 1 → P 5 → (eqb a 1 ≡ false → eqb a 5 ≡ false → P a) → P a
by_actions P a p1 p5 none = decide P a 1 p1 (λ n1. decide P a 5 p5 (none n1))

action_says : (x : Message) (m : Mode) (dual : Bool) (a : ℕ) → Action x m dual a
unfolding leading answers rule epr_action
action_says x Mode.Spr true a = by_actions (Action x Mode.Spr true) a refl refl (λ n1 n5. simp (n1, n5))
action_says x Mode.Spr false a = by_actions (Action x Mode.Spr false) a refl refl (λ n1 n5. simp (n1, n5))
action_says x Mode.Epr true a = by_actions (Action x Mode.Epr true) a refl refl (λ n1 n5. simp (n1, n5))
action_says x Mode.Epr false a = by_actions (Action x Mode.Epr false) a refl refl (λ n1 n5. simp (n1, n5))

-- The first row that holds for a message leads where the message leads
abbrev Says : Message → Mode → Bool → Type 0
Says x m dual = led (rule (row_of m dual x)).next x ≡ dispatched m dual x

by_port : (P : Mode → Bool → Type 0) → P Mode.Spr true → P Mode.Spr false → P Mode.Epr true → P Mode.Epr false → (m : Mode) (dual : Bool) → P m dual
by_port P st sf et ef Mode.Spr true = st
by_port P st sf et ef Mode.Spr false = sf
by_port P st sf et ef Mode.Epr true = et
by_port P st sf et ef Mode.Epr false = ef

-- The search over the rows equals `dispatched`
pub searched : (m : Mode) (dual : Bool) (x : Message) → Says x m dual
unfolding found seek answers rule dispatched epr_mode extended_control
searched m dual (Message.Request None) = by_port (Says (Message.Request None)) refl refl refl refl m dual
searched m dual (Message.Request (Some q)) = by_port (Says (Message.Request (Some q))) refl refl refl refl m dual
searched m dual (Message.EprRequest None) = by_port (Says (Message.EprRequest None)) refl refl refl refl m dual
searched m dual (Message.EprRequest (Some q)) = by_port (Says (Message.EprRequest (Some q))) refl refl refl refl m dual
searched m dual (Message.EprMode None) = refl
searched m dual (Message.EprMode (Some word)) =
    led_by (answers Class.EprMode (Some (word / 16777216)) m dual false) (Message.EprMode (Some word)) 25 1
    ∙ action_says (Message.EprMode (Some word)) m dual (word / 16777216)
searched m dual (Message.Control t) = led_by (answers Class.Control (Some t) m dual false) (Message.Control t) 25 1 ∙ control_says (Message.Control t) m dual t
searched m dual (Message.ExtendedControl None) = refl
searched m dual (Message.ExtendedControl (Some t)) =
    led_by (answers Class.ExtendedControl (Some t) m dual false) (Message.ExtendedControl (Some t)) 25 1
    ∙ extended_says (Message.ExtendedControl (Some t)) m dual t
searched m dual Message.Other = refl
searched m dual (Message.SinkCapabilities good) = refl
searched m dual (Message.EprSinkCapabilities good) = refl

-- A port in Ready, and a message that arrives
pub record Arrival : Type 0 where
  pub mode : Mode
  pub role : Bool
  pub message : Message

abbrev arrives : Mode → Bool → Message → Arrival
arrives m dual x = record { mode = m; role = dual; message = x }

abbrev good : Option PowerSource
good = Some (PowerSource.FixedVariableSupply (record { 0 = 0 }))

abbrev action : ℕ → Message
action a = Message.EprMode (Some (a * 16777216))

abbrev extended : ℕ → Message
extended t = Message.ExtendedControl (Some t)

pub arrivals : List Arrival
arrivals =
    arrives Mode.Epr true (Message.Request good) ∷
    arrives Mode.Spr true (Message.EprRequest good) ∷
    arrives Mode.Spr true (Message.Request None) ∷
    arrives Mode.Epr true (Message.EprRequest None) ∷
    arrives Mode.Spr true (Message.Request good) ∷
    arrives Mode.Epr true (Message.EprRequest good) ∷
    arrives Mode.Spr true (action 1) ∷
    arrives Mode.Epr true (action 1) ∷
    arrives Mode.Spr true (action 5) ∷
    arrives Mode.Epr true (action 5) ∷
    arrives Mode.Spr true (Message.Control 13) ∷
    arrives Mode.Spr true (Message.Control 7) ∷
    arrives Mode.Epr true (Message.Control 7) ∷
    arrives Mode.Spr true (Message.Control 11) ∷
    arrives Mode.Epr false (Message.Control 9) ∷
    arrives Mode.Epr true (Message.Control 9) ∷
    arrives Mode.Spr true (Message.Control 9) ∷
    arrives Mode.Spr true (Message.Control 10) ∷
    arrives Mode.Spr true (Message.Control 19) ∷
    arrives Mode.Spr true (Message.Control 8) ∷
    arrives Mode.Spr true (Message.Control 16) ∷
    arrives Mode.Spr true (extended 1) ∷
    arrives Mode.Epr true (extended 1) ∷
    arrives Mode.Spr true (extended 2) ∷
    arrives Mode.Spr true (extended 3) ∷
    arrives Mode.Spr true (extended 4) ∷
    []

-- "All else": the last row, which the search does not test, names no class, no type and no condition
pub all_else : rule last ≡ when None None Condition.Always to.Next.SendNotSupported
unfolding rule
all_else = refl

-- No row is dead: each is the first that answers one of these
pub none_dead : map (λ a. row_of a.mode a.role a.message) arrivals
    ≡ 1 ∷ 2 ∷ 3 ∷ 4 ∷ 5 ∷ 6 ∷ 7 ∷ 8 ∷ 9 ∷ 10 ∷ 11 ∷ 12 ∷ 13 ∷ 14 ∷ 15 ∷ 16 ∷ 17 ∷ 18 ∷ 19 ∷ 20 ∷ 21 ∷ 22 ∷ 23 ∷ 24 ∷ 25 ∷ 26 ∷ []
unfolding arrivals found seek answers rule
none_dead = refl
