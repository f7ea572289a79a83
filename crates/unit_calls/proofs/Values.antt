-- The machine values of a `Raw`. Assumes `Logic`.
use Rattle.std.proofs.Common.{◌≡◌, List, [], ◌∷◌, ◌++◌, refl, subst, Option, lit<}
use mathlib.Core.Bool.{true, ◌&&◌}
use lib.Dec.{T}
use seplogic.Ra.Ura.{Ura}
use mir.Val.{Val, vstruct, vcons, vnil, of_list, has_ty, WT}
use types.Logic.{Logic}
use types.Kit.{Item, Goal, Seq, Step, step, ‵, ◌$◌, drop, fsplit, fjoin, fpick, fpack, feq_i, feq_l}
use denote.RattleType.{RattleType, Valss}
use denote.Builtin.{RawPtr}
use denote.RawPtr.{Ptr, block_ptr, null_ptr, ptr_val}
use denote.Steps.{nothing}
use denote.Param.{layout}
use denote.Struct.Struct.{within}
use denote.Struct.Owning.{shape}
use Rattle.unit_calls.specs.Owned.{raw_owns}
use Rattle.unit_calls.specs.declared.handle.Content.{Content}
use Rattle.unit_calls.specs.contracts.raw.Raw as raw

abbrev pub one : Val → Val
one v = vstruct (vcons v vnil)

abbrev pub Raw : RattleType
Raw = raw.the_row

pub raw_good : (p : Ptr) → T (has_ty (layout RawPtr) (ptr_val p) && true) × WT (one (ptr_val p))
raw_good (block_ptr b o) = (tt, (tt, tt))
raw_good null_ptr = (tt, (record { fits = lit< tt }, tt))

module _ {M : Type 1} {𝓤 : Ura M} {𝓛 : Logic 𝓤} {K : Type 0} {Γ : List (Item 𝓤)} {G : Goal 𝓤 𝓛.H} where
  pub raw_out : K → (d : Raw.Denot) (vs : List Val) → (vs ≡ one (ptr_val d.at) ∷ [] → Seq K 𝓛 (‵ (raw_owns d.at d.value) ∷ Γ) G) → Seq K 𝓛 (‵ (Raw.own_val d vs) ∷ Γ) G
  raw_out t d vs k = fsplit t $ fpick t (λ vss. fsplit t $ feq_l t (λ ev. fsplit t $ feq_l t (λ ep. drop t $ k
      (subst (λ (ps : List Val). vs ≡ vstruct (of_list (ps ++ [])) ∷ []) ep ev))))

  pub raw_in : K → (p : Ptr) (o : Option Content) → Step K 𝓛 (‵ (Raw.own_val (record { at = p; value = o }) (one (ptr_val p) ∷ [])) ∷ Γ) G (‵ (raw_owns p o) ∷ Γ) G
  raw_in t p o = step (λ s. let v : Val = one (ptr_val p) in
      nothing t $ feq_i t (List Val) (ptr_val p ∷ []) (ptr_val p ∷ []) refl $ fjoin t $ feq_i t (List Val) (v ∷ []) (v ∷ []) refl $ fjoin t $
      fpack t (Valss (RawPtr ∷ [])) (within (shape raw.the_type) (p, tt) (v ∷ [])) (ptr_val p ∷ [], tt) $ fjoin t $ s)
