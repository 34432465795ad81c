-- What the walks of this crate share: the types and machine values of a record, a step and what a call told, under names that stay shut in a walk,
-- and the borrow of a record: opened and closed by whoever holds it, lent and taken back by whoever lends it.
-- No proof walks these functions now, and none cites this.
-- Assumes nothing.
use mathlib.Core.Path.{◌≡◌, refl, ap}
use Prim.Native.Nat.{ℕ}
use mathlib.Core.List.{[], ◌∷◌, List}
use seplogic.Ra.Ura.{Ura}
use base.Fraction.{full_share}
use lib.Dec.{T as Holds}
use mir.Syntax.{Sym, Ty, named, ty_struct, tcons, tnil}
use mir.Raw.{raw as raw_ty}
use mir.Val.{Val, WT, has_ty, vptr, vstruct, vnil, vcons}
use base.Fml.{Fml, GName, Lft, Share, fsep, flft, fobs, fauth, fres, fbor, fobor, flent, fat}
use types.Logic.{Logic}
use types.Kit.{Goal, Item, Soaks, Sq, ‵, ◌⊛◌, some, later, ◌$◌, !, move, drop, use1, use3, split, pick, fsplit, fsplit3, fjoin, fpick, fpack, await}
use types.Tokens.{lft_new, lft_end}
use types.SemTy.{Body}
use denote.Array.{Array}
use denote.Laws.{Is, shows}
use denote.Memory.{mem, cell_at, part_at, part_of, lone, pointee}
use denote.Builtin.{u8}
use denote.Ref.{MutRef}
use denote.Lend.{lends_ref, ref_back}
use denote.Steps.{only, opens, closes, owned, facts}
use denote.Struct.Field.{u8-field}
use denote.Struct.Steps.{spelt}
use denote.Struct.Laws.{u8-laws, u8-copy}
use denote.Struct.Laws as LL
use denote.Param.Laws as P
use denote.Param.Shared.{copy_shared}
use Rattle.std.specs.Prelude.{Option}
use Rattle.std.specs.contracts.option.Option as O
use Rattle.std.proofs.option.Option.TheLaws as O'
use Rattle.model.specs.declared.record.Record.{Record}
use Rattle.model.specs.declared.record.Answer.{Answer}
use Rattle.model.specs.declared.record.Action.{Action}
use Rattle.definition.specs.Types.{Step}
use Rattle.model.specs.contracts.record.Record as R
use Rattle.model.proofs.record.Record.TheLaws as R'
use Rattle.model.specs.contracts.record.Answer as A'
use Rattle.model.proofs.record.Answer.TheLaws as A''
use Rattle.model.specs.contracts.record.Action as X
use Rattle.model.proofs.record.Action.TheLaws as X'
use Rattle.model.specs.contracts.record.Step as S
use Rattle.model.proofs.record.Step.TheLaws as S'
use Rattle.bay.specs.declared.Told.{Told}
use Rattle.bay.specs.contracts.Told as T
use Rattle.bay.proofs.Told.TheLaws as T'

abbrev byte_laws : P.Laws u8
byte_laws = P.of_field u8-field u8-laws refl (copy_shared u8-field u8-copy)

abbrev byte_told : P.Told u8
byte_told = P.field_told u8-field u8-laws

abbrev step_laws : LL.Laws (S.the_type R.the_row)
step_laws = S'.the_laws R.the_row R'.the_row_laws R'.the_told

-- ---- types
unfoldable pub τR : Ty
τR = lone (R.the_row).mir

-- a record behind a reference
unfoldable pub ρ : Ty
ρ = pointee (R.the_row).written

unfoldable pub τA : Ty
τA = lone (A'.the_row).mir

unfoldable pub τN : Ty
τN = lone (O.the_row u8).mir

unfoldable pub τX : Ty
τX = lone (Array X.the_row 2).mir

unfoldable pub step_name : Sym
step_name = (S.the_type R.the_row).name

unfoldable pub told_name : Sym
told_name = (T.the_type).name

abbrev pub τS : Ty
τS = ty_struct step_name (tcons τR (tcons τA (tcons τN (tcons τX tnil))))

abbrev pub τT : Ty
τT = ty_struct told_name (tcons τA (tcons τN (tcons τX tnil)))

-- ---- machine values
unfoldable pub vR : Record → Val
vR h = (R'.the_field_laws).val ((R.the_field).into h)

unfoldable pub vA : Answer → Val
vA a = (A''.the_field_laws).val ((A'.the_field).into a)

unfoldable pub vN : Option ℕ → Val
vN n = (O'.the_field_laws u8 byte_laws byte_told).val ((O.the_field u8).into n)

unfoldable pub vX : List Action → Val
vX xs = (P.array_told X.the_row X'.the_told 2).val xs

abbrev pub vS : Step → Val
vS s = vstruct (vcons (vR s.«record») (vcons (vA s.answer) (vcons (vN s.remaining) (vcons (vX s.actions) vnil))))

abbrev pub told : Step → Told
told s = record { answer = s.answer; remaining = s.remaining; actions = s.actions }

abbrev pub vT : Told → Val
vT t = vstruct (vcons (vA t.answer) (vcons (vN t.remaining) (vcons (vX t.actions) vnil)))

abbrev pub joined : Record → Told → Step
joined h t = record { «record» = h; answer = t.answer; remaining = t.remaining; actions = t.actions }

-- ---- what whoever has a step knows
abbrev pub IsRecord : Record → Type 0
IsRecord h = Is R.the_row h (vR h ∷ [])

pub step_value : (s : Step) (v : Val) → Is (S.the_row R.the_row) s (v ∷ []) → v ≡ vS s
unfolding vR vA vN vX
step_value s v is = ap only (LL.tells (S.the_type R.the_row) step_laws s (v ∷ []) is)

pub step_record : (s : Step) (v : Val) → Is (S.the_row R.the_row) s (v ∷ []) → IsRecord s.«record»
unfolding vR
step_record s v is = (LL.owed (S.the_type R.the_row) step_laws s (v ∷ []) is).0

pub step_told : (s : Step) (v : Val) → Is (S.the_row R.the_row) s (v ∷ []) → Is T.the_row (told s) (vT (told s) ∷ [])
unfolding vA vN vX
step_told s v is = LL.owes T.the_type T'.the_laws (told s) (LL.owed (S.the_type R.the_row) step_laws s (v ∷ []) is).1

-- ---- and whoever has a record and what was told
pub told_value : (t : Told) (v : Val) → Is T.the_row t (v ∷ []) → v ≡ vT t
unfolding vA vN vX
told_value t v is = ap only (LL.tells T.the_type T'.the_laws t (v ∷ []) is)

pub joined_step : (h : Record) (t : Told) (v : Val) → IsRecord h → Is T.the_row t (v ∷ []) → Is (S.the_row R.the_row) (joined h t) (vS (joined h t) ∷ [])
unfolding vR vA vN vX
joined_step h t v is_h is = LL.owes (S.the_type R.the_row) step_laws (joined h t) (is_h, LL.owed T.the_type T'.the_laws t (v ∷ []) is)

module _ {M : Type 1} {𝓤 : Ura M} (𝓛 : Logic 𝓤) where
  pub typed_record : (h : Record) → IsRecord h → Holds (has_ty τR (vR h)) × WT (vR h)
  unfolding τR vR
  typed_record h is = ((LL.lawful R.the_type R'.the_laws 𝓛).typed h _ is).0

  pub typed_step : (s : Step) (v : Val) → Is (S.the_row R.the_row) s (v ∷ []) → Holds (has_ty τS v) × WT v
  unfolding τR τA τN τX step_name
  typed_step s v is = ((LL.lawful (S.the_type R.the_row) step_laws 𝓛).typed s _ is).0

  pub typed_told : (t : Told) (v : Val) → Is T.the_row t (v ∷ []) → Holds (has_ty τT v) × WT v
  unfolding τA τN τX told_name
  typed_told t v is = ((LL.lawful T.the_type T'.the_laws 𝓛).typed t _ is).0

-- ---- the borrow of a record
unfoldable pub lent : Lft → ℕ → ℕ → GName → Record → Fml
lent κ b o γ h = fsep (fobs γ ((R.the_row).coded.code h)) (fbor κ (Body (mem R.the_row) b o γ))

unfoldable pub opened : Lft → Share → ℕ → ℕ → GName → Record → Fml
opened κ q b o γ h = fsep (fobor κ q (Body (mem R.the_row) b o γ)) (fsep (fobs γ ((R.the_row).coded.code h)) (fauth γ ((R.the_row).coded.code h)))

module _ {M : Type 1} {𝓤 : Ura M} (𝓛 : Logic 𝓤) {Γ : List (Item 𝓤)} {G : Goal 𝓤 𝓛.H} (z : Soaks G) (κ : Lft) (q : Share)
    (b o : ℕ) (γ : GName) (h : Record) where
  pub open_cell : (IsRecord h → Sq 𝓛 (‵ (fat full_share (raw_ty τR) b o (vR h)) ∷ ‵ (opened κ q b o γ h) ∷ Γ) G) → Sq 𝓛 (‵ (lent κ b o γ h) ∷ ‵ (flft κ q) ∷ Γ) G
  unfolding τR vR lent opened
  open_cell k =
      fsplit ! $ opens ! z R.the_row {h = h} b o (λ vs. spelt ! R.the_row (Is R.the_row) (shows 𝓛 R.the_row) (LL.vals R.the_type R'.the_laws)
      (LL.tells R.the_type R'.the_laws) full_share h vs b o $
      move ! (1 ∷ []) $ facts ! R.the_row (Is R.the_row) (shows 𝓛 R.the_row) h (LL.vals R.the_type R'.the_laws h) (λ is.
      move ! (2 ∷ 3 ∷ []) $ fjoin ! $ move ! (2 ∷ 0 ∷ []) $ fjoin ! $ move ! (1 ∷ 0 ∷ []) $ k is))

  pub close_cell : (h' : Record) → IsRecord h' → Sq 𝓛 (‵ (lent κ b o γ h') ∷ ‵ (flft κ q) ∷ Γ) G
      → Sq 𝓛 (‵ (fat full_share (raw_ty τR) b o (vR h')) ∷ ‵ (opened κ q b o γ h) ∷ Γ) G
  unfolding τR vR lent opened
  close_cell h' is k =
      move ! (1 ∷ []) $ fsplit ! $ move ! (1 ∷ []) $ fsplit ! $ owned ! R.the_row (Is R.the_row) (LL.makes R.the_type R'.the_plain 𝓛) h'
      (LL.vals R.the_type R'.the_laws h') is $
      move ! (4 ∷ 0 ∷ 3 ∷ 1 ∷ 2 ∷ []) $ closes ! z R.the_row h' (LL.vals R.the_type R'.the_laws h') b o $ fjoin ! $ k

-- ---- the lender's side: a record in a local is lent for a new lifetime, and taken back at its last value
unfoldable pub loan : Lft → ℕ → ℕ → GName → Fml
loan κ b o γ = flent κ (Body (mem R.the_row) b o γ)

unfoldable pub last : GName → Record → Fml
last γ h = fres γ ((R.the_row).coded.code h)

module _ {M : Type 1} {𝓤 : Ura M} (𝓛 : Logic 𝓤) {Γ : List (Item 𝓤)} {G : Goal 𝓤 𝓛.H} (z : Soaks G) (b o : ℕ) where
  pub lend_cell : (h : Record) → IsRecord h → ((α : ℕ) (γ : GName)
      → Sq 𝓛 (‵ (lent (α ∷ []) b o γ h) ∷ ‵ (flft (α ∷ []) full_share) ∷ ‵ (loan (α ∷ []) b o γ) ∷ Γ) G) → Sq 𝓛 (‵ (fat full_share τR b o (vR h)) ∷ Γ) G
  unfolding τR vR lent loan part_of
  lend_cell h is k =
      use1 𝓛 (‵ (fat full_share (raw_ty τR) b o (vR h))) (𝓛.laws.at_raw full_share τR b o (vR h)) $
      owned ! R.the_row (Is R.the_row) (LL.makes R.the_type R'.the_plain 𝓛) h (LL.vals R.the_type R'.the_laws h) is $ move ! (1 ∷ 0 ∷ []) $ fjoin ! $
      fpack ! (List Val) (λ us. fsep (cell_at full_share (R.the_row).mir us b o) ((R.the_row).own_val h us)) (LL.vals R.the_type R'.the_laws h) $ lft_new !
      z (λ α. move ! (1 ∷ []) $
      use1 𝓛 (later (some (λ (γ : GName). ‵ ((MutRef (named 0) (α ∷ []) R.the_row).own_val (record { ref_ptr = (b, o); ghost_name = γ; now = h }) (vptr b o ∷ [])) ⊛
      ‵ (flent (α ∷ []) (Body (mem R.the_row) b o γ))))) (lends_ref 𝓛 R.the_row (named 0) (α ∷ []) h b o) $
      await ! z $ pick ! (λ γ. split ! $ fsplit3 ! $ drop ! $ fjoin ! $ move ! (0 ∷ 2 ∷ 1 ∷ []) $ k α γ))

  pub take_back : (α : ℕ) (γ : GName) (h : Record) → (IsRecord h → Sq 𝓛 (‵ (fat full_share τR b o (vR h)) ∷ Γ) G)
      → Sq 𝓛 (‵ (flft (α ∷ []) full_share) ∷ ‵ (last γ h) ∷ ‵ (loan (α ∷ []) b o γ) ∷ Γ) G
  unfolding τR vR loan last part_of
  take_back α γ h k =
      lft_end ! z $ move ! (0 ∷ 2 ∷ 1 ∷ []) $ use3 𝓛 (later (‵ (part_at R.the_row full_share h b o))) (ref_back 𝓛 R.the_row (α ∷ []) γ h b o) $
      await ! z $ fpick ! (λ vs. fsplit ! $
      spelt ! R.the_row (Is R.the_row) (shows 𝓛 R.the_row) (LL.vals R.the_type R'.the_laws) (LL.tells R.the_type R'.the_laws) full_share h vs b o $
      move ! (1 ∷ []) $ facts ! R.the_row (Is R.the_row) (shows 𝓛 R.the_row) h (LL.vals R.the_type R'.the_laws h) (λ is.
      use1 𝓛 (‵ (fat full_share τR b o (vR h))) (𝓛.laws.raw_at full_share τR b o (vR h)) $ k is))
