-- The column view in a walk: its type, its machine value, and that it owns what its parts own.
-- Assumes nothing.
use mathlib.Core.Path.{◌≡◌}
use mathlib.Core.List.{List, [], ◌∷◌}
use lib.ListN.{length}
use seplogic.Ra.Ura.{Ura}
use mir.Syntax.{w64}
use mir.Val.{Val, vint}
use base.Logic.{ent}
use base.Fml.{Fml, fsep}
use types.Logic.{Logic, sem}
use types.Kit.{‵, given, ◌$◌, ◌∵◌, !, qed, move, keep, use1, learn, fsplit, fsplit3, fjoin, done}
use denote.Builtin.{u64, usize}
use denote.Laws.{Is, Tells, Typed}
use denote.RattleType.{RattleType}
use denote.Ref.{NamedLft}
use denote.Slice.{slice_val, ShrSlice}
use denote.Steps.{nothing}
use denote.Struct.Laws as LL
use denote.Struct.Rest.{all_own, own_open, own_shut}
use Rattle.columns.specs.declared.Column.{Column}
use Rattle.columns.specs.contracts.Column as T
use Rattle.columns.proofs.Column.TheLaws as T'

module _ (α : NamedLft) where
  abbrev pub View : RattleType
  View = T.the_row α

  abbrev pub view-vals : Column → List Val
  view-vals = LL.vals (T.the_type α) (T'.the_laws α)

  pub view_tells : Tells View (Is View) view-vals
  view_tells = LL.tells (T.the_type α) (T'.the_laws α)

  -- it is a view's machine value if the parts are their types'
  pub view-is : (d : Column) → Is (ShrSlice α.mir α.lft u64) d.elements (slice_val d.elements.ref_ptr (length d.elements.now) ∷ [])
      → Is usize d.stride (vint w64 d.stride ∷ []) → Is usize d.offset (vint w64 d.offset ∷ [])
      → Is View d (T'.lowered d ∷ [])
  view-is d is-elements is-stride is-offset = LL.owes (T.the_type α) (T'.the_laws α) d (is-elements, (is-stride, (is-offset, tt)))

  -- what its parts own, in front of P
  abbrev pub parts-own : Column → Fml → Fml
  parts-own d P =
      fsep ((ShrSlice α.mir α.lft u64).own_val d.elements (slice_val d.elements.ref_ptr (length d.elements.now) ∷ []))
      (fsep (usize.own_val d.stride (vint w64 d.stride ∷ [])) (fsep (usize.own_val d.offset (vint w64 d.offset ∷ [])) P))

module _ {M : Type 1} {𝓤 : Ura M} (𝓛 : Logic 𝓤) (α : NamedLft) (d : Column) where
  pub view-typed : (vs : List Val) → Is (View α) d vs → Typed (View α).mir vs
  view-typed = (LL.lawful (T.the_type α) (T'.the_laws α) 𝓛).typed d

  -- a view is taken apart
  pub view-open : (P : Fml) → ent 𝓤 (sem 𝓛 (fsep ((View α).own_val d (T'.lowered d ∷ [])) P)) (sem 𝓛 (parts-own α d P))
  view-open P =
      let L = T'.the_laws α in
      qed 𝓛 (‵ (fsep ((View α).own_val d (T'.lowered d ∷ [])) P) ∷ []) ∵ fsplit ! $
      use1 𝓛 (given (T'.lowered d ∷ [] ≡ T'.lowered d ∷ []) (‵ (all_own (T.the_type α).parts L (d.elements, (d.stride, (d.offset, tt))))))
      (own_open 𝓛 (T.the_type α) L (d.elements, (d.stride, (d.offset, tt))) (T'.lowered d)) $ learn ! (λ _.
      fsplit3 ! $ move ! (2 ∷ []) $ fsplit ! $ move ! (0 ∷ 4 ∷ []) $ fjoin ! $ move ! (3 ∷ 0 ∷ []) $ fjoin ! $ move ! (2 ∷ 0 ∷ []) $ fjoin ! $ keep ! (0 ∷ []) $
      done !)

  -- and made of its parts
  pub view-shut : (P : Fml) → ent 𝓤 (sem 𝓛 (parts-own α d P)) (sem 𝓛 (fsep ((View α).own_val d (T'.lowered d ∷ [])) P))
  view-shut P =
      qed 𝓛 (‵ (parts-own α d P) ∷ []) ∵ fsplit3 ! $ move ! (2 ∷ []) $ fsplit ! $ nothing ! $ move ! (1 ∷ 0 ∷ []) $ fjoin ! $ move ! (3 ∷ 0 ∷ []) $ fjoin ! $
      move ! (2 ∷ 0 ∷ []) $ fjoin ! $
      use1 𝓛 (‵ ((View α).own_val d (T'.lowered d ∷ []))) (own_shut 𝓛 (T.the_type α) (T'.the_laws α) (d.elements, (d.stride, (d.offset, tt)))) $ fjoin ! $
      done !
