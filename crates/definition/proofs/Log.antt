-- One more entry changes only what its rule names. Assumes nothing.
use mathlib.Core.Path.{◌≡◌, refl}
use mathlib.Core.Bool.{Bool, true, false, ◌&&◌, ◌||◌, true≢false}
use Rattle.notation.specs.Rows.{◌⇒◌∣◌, ◌is◌}
use Rattle.definition.specs.Log.{Entry, creation, outcome, re_entry, action, Log, ◌▸◌, number, numbered, done, acts, newest, newest_two, contract}
use Rattle.definition.specs.Log.{hard_count, caps_count, data_role_of, names_contract, names_hard_count, names_caps_count, names_data_role}
use Rattle.definition.specs.Log.{swap_drives, feeding, names_feeding}

-- A row that is not named is passed over
pass : {A : Type 0} (a : Bool) (x y : A) → a ≡ false → (a ⇒ x ∣ y) ≡ y
pass true x y h = absurd (true≢false h)
pass false x y h = refl

pass_two : {A : Type 0} (a b : Bool) (x y z : A) → (a || b) ≡ false → (a ⇒ x ∣ b ⇒ y ∣ z) ≡ z
pass_two true b x y z h = absurd (true≢false h)
pass_two false b x y z h = pass b y z h

pub contract_untouched : (l : Log) (e : Entry) → names_contract l e ≡ false → contract (l ▸ e) ≡ contract l
unfolding contract names_contract
contract_untouched l (creation s) h = absurd (true≢false h)
contract_untouched l (outcome o) h = pass (done (outcome o) && newest (number 9) l) _ _ h
contract_untouched l (re_entry t b) h = refl
contract_untouched l (action x) h = pass_two (x.number is 3 && newest (number 1) l) (x.number is 9) _ _ _ h

pub hard_count_untouched : (l : Log) (e : Entry) → names_hard_count l e ≡ false → hard_count (l ▸ e) ≡ hard_count l
unfolding hard_count names_hard_count
hard_count_untouched l (creation s) h = refl
hard_count_untouched l (outcome o) h = refl
hard_count_untouched l (re_entry t b) h = refl
hard_count_untouched l (action x) h = pass_two (x.number is 13) (x.number is 5 && newest_two (number 4) done l) _ _ _ h

pub caps_count_untouched : (l : Log) (e : Entry) → names_caps_count l e ≡ false → caps_count (l ▸ e) ≡ caps_count l
unfolding caps_count names_caps_count
caps_count_untouched l (creation s) h = refl
caps_count_untouched l (outcome o) h = refl
caps_count_untouched l (re_entry t b) h = refl
caps_count_untouched l (action x) h = pass_two (numbered 2 2 x) ((x.number is 3 || numbered 2 1 x) && newest (number 1) l) _ _ _ h

pass_done : {A : Type 0} (d a b : Bool) (x y z : A) → (d && (a || b)) ≡ false → (d && a ⇒ x ∣ d && b ⇒ y ∣ z) ≡ z
pass_done true a b x y z h = pass_two a b x y z h
pass_done false a b x y z h = refl

pub data_role_untouched : (l : Log) (e : Entry) → names_data_role l e ≡ false → data_role_of (l ▸ e) ≡ data_role_of l
unfolding data_role_of names_data_role
data_role_untouched l (creation s) h = absurd (true≢false h)
data_role_untouched l (outcome o) h = pass_done (done (outcome o)) (newest (acts (numbered 28 0)) l) (newest (acts (numbered 28 1)) l) _ _ _ h
data_role_untouched l (re_entry t b) h = refl
data_role_untouched l (action x) h = refl

pub feeding_untouched : (l : Log) (e : Entry) → names_feeding l e ≡ false → feeding (l ▸ e) ≡ feeding l
unfolding feeding names_feeding
feeding_untouched l (creation s) h = absurd (true≢false h)
feeding_untouched l (outcome o) h = pass_done (done (outcome o)) (swap_drives 0 l) (swap_drives 1 l) _ _ _ h
feeding_untouched l (re_entry t b) h = refl
feeding_untouched l (action x) h = pass ((x.number is 3 || numbered 2 1 x) && newest (number 1) l) _ _ h
