-- `as_mut` lends what is held, and the pointer's value follows it.
use Rattle.std.proofs.Common.{◌≡◌, ℕ, List, [], ◌∷◌, refl, sym, subst, Some, IsSome}
use seplogic.Ra.Ura.{Ura}
use base.Fraction.{full_share}
use base.Fml.{Fml, ftrue, flft, fsep}
use base.Logic.{ent, sep, never, fst∗, id⊢}
use mir.Syntax.{named}
use mir.Val.{Val, vptr}
use mir.Raw.{raw as bare}
use types.Logic.{Logic, sem}
use types.Kit.{‵, raw, ◌⊛◌, some, later, at_ret, ◌$◌, ◌∵◌, !, qed, done, move, keep, drop, use1, split, join, fsplit, fsplit3, fjoin, fpack, pick, await, rewrite, suffices, frame, group}
use types.Part.{whole, sub, look_in}
use types.Run.{stop, fld, load, of_opd, addr, first, blocks, exec, returns, enter}
use types.ByLocal.{alloc_all, pass_all, free_all, look_at, get, through, sets, sets_last, env}
use contract.Monad.{fact}
use contract.Running.{tables}
use denote.Exit.{no}
use denote.Follow.{follows, Part, lends_Part}
use denote.Memory.{part_at, mem, cell_at, part_of, lone}
use denote.RattleType.{RattleType}
use denote.RawPtr.{Ptr, block_ptr, null_ptr, ptr_val, in_a_block}
use denote.Ref.{MutRef, mut_vals, mut_Tells}
use denote.Signature.{plain, mut_ref_to}
use denote.Steps.{nothing, opens, heard}
use denote.Triple.Walked.{Stays, says, stay_dropped, walk_of, ends_at, Goes-spent_ref}
use Rattle.std.proofs.alloc.Shapes.{after}
use Rattle.std.proofs.raw_atomic.Walks.{proved}
use Rattle.std.specs.Box.Ownership.{box_owns}
use Rattle.std.specs.contracts.impls.GlobalAllocator.TheImpl.{ghosts}
use Rattle.unit_calls.proofs.HeldValues.{some_of}
use Rattle.unit_calls.specs.Held.{the_heap}
use Rattle.unit_calls.specs.Owned.{raw_owns}
use Rattle.unit_calls.specs.contracts.handle.Content as content
use Rattle.unit_calls.proofs.Values.{Raw, one, raw_out, raw_in}
use Rattle.unit_calls.specs.contracts.raw.Raw.as_mut as f
use Rattle.unit_calls.proofs.raw.Raw.as_mut.Statement.{statement}
use Rattle.unit_calls.proofs.raw.Raw.as_mut.Code as code

abbrev U : RattleType
U = content.the_row

abbrev stayed : Stays f.ended.signature.params f.ended.kept
stayed = (stay_dropped (mut_ref_to (0 ∷ []) tt (plain (λ _. Raw))) no, tt)

-- the right to free the block
abbrev Freed : Ptr → Fml
Freed p = ghosts.dealloc_token the_heap (bare (lone U.mir)) p

-- the pointer with this after it
abbrev with_value : Raw.Denot → U.Denot → Raw.Denot
with_value h w = record h { value = Some w }

module _ {M : Type 1} {𝓤 : Ura M} (𝓛 : Logic 𝓤) (rb ro : ℕ) (h : Raw.Denot) (b o : ℕ) (at_b : h.at ≡ block_ptr b o) where
  -- all but the value after it
  abbrev Rest : Fml
  Rest = fsep (Freed (block_ptr b o)) (cell_at full_share Raw.mir (one (vptr b o) ∷ []) rb ro)

  back : (w : U.Denot) → ent 𝓤 (sep 𝓤 (sem 𝓛 ((mem U).own_at w b o)) (sem 𝓛 Rest)) (sem 𝓛 ((mem Raw).own_at (with_value h w) rb ro))
  unfolding part_of
  back w = qed 𝓛 (‵ (part_at U full_share w b o) ∷ ‵ Rest ∷ []) ∵ move ! (1 ∷ []) $ fsplit ! $ move ! (2 ∷ 0 ∷ []) $ fjoin ! $
      raw_in ! (block_ptr b o) (Some w) $ rewrite ! 0 (λ (p : Ptr). ‵ (Raw.own_val (record { at = p; value = Some w }) (one (vptr b o) ∷ []))) (sym at_b) refl $
      move ! (1 ∷ 0 ∷ []) $ fjoin ! $ fpack ! (List Val) (λ us. fsep (cell_at full_share Raw.mir us rb ro) (Raw.own_val (with_value h w) us)) (one (vptr b o) ∷ []) $ done !

pub as_mut_spec : {M : Type 1} → statement M
as_mut_spec 𝓤 𝓛 𝓜 𝓡 wired =
    let c = f.clauses 𝓛 𝓜.mem 𝓡.returns in let W = walk_of 𝓛 f.ended stayed c in let 𝓣 = tables 𝓤 𝓛.H 𝓜 𝓡 𝓡.env in
    proved 𝓛 f.ended stayed c 𝓜 𝓡 (Goes-spent_ref 𝓛 1 (0 ∷ []) tt (plain (λ _. Raw)), tt)
    f.Key.name code.function (code.unfolded 𝓤 𝓛.H 𝓜 𝓡 wired)
    (λ κs. (mut_vals, tt)) (λ κs. (mut_Tells (named 0) κs.0 Raw, tt)) (λ κs qs bounds a _ are.
    let κ = κs.0 in let q = qs.0 in let rb = a.0.ref_ptr.0 in let ro = a.0.ref_ptr.1 in let γ = a.0.ghost_name in let h = a.0.now in let vs = mut_vals a.0 in
    let y : W.Ghost = ((κs, qs, bounds, a, (vs, tt)), tt) in
    qed 𝓛 (((‵ (flft κ q) ⊛ ‵ ftrue) ⊛ ‵ ((MutRef (named 0) κ Raw).own_val a.0 vs) ⊛ ‵ ftrue) ∷ raw (fact 𝓤 (IsSome h.value)) ∷ []) ∵
    move ! (1 ∷ []) $ heard ! (IsSome h.value) (λ there. let x = (some_of h.value there).0 in let is = (some_of h.value there).1 in
    split ! $ split ! $ move ! (2 ∷ []) $ split ! $ keep ! (0 ∷ 2 ∷ []) $
    enter ! _ _ _ _ _ $ alloc_all ! (λ l. pass_all ! refl ((tt, tt), tt) $
    fsplit3 ! $ drop ! $ opens ! tt Raw rb ro (λ us. move ! (1 ∷ []) $ raw_out ! h us (λ ws.
    rewrite ! 0 (λ v. ‵ (raw_owns h.at v)) is refl $
    in_a_block ! h.at (λ p. box_owns (ghosts.dealloc_token the_heap) U p x) (fst∗ 𝓤 (never 𝓤) (sem 𝓛 (Freed null_ptr))) (λ b o at_b. fsplit ! $
    rewrite ! 2 (λ (ps : List Val). ‵ (cell_at full_share Raw.mir ps rb ro)) (subst (λ (p : Ptr). us ≡ one (ptr_val p) ∷ []) at_b ws) refl $
    -- [the value; the right to free it; the pointer's cell; the open borrow, in three entries]
    first ! $ blocks ! $
    sets ! (of_opd ! (load ! (through ! refl (fld ! refl (stop !))) (look_in ! 2 (sub ! 0 refl (whole !))))) refl (tt, tt) $
    sets ! (of_opd ! (get ! refl)) refl (tt, tt) $
    sets_last ! (addr ! (through ! refl (stop !))) refl (tt, tt) $
    exec ! 𝓣.C 𝓣.Λ (env code.Mir.locals l) (after 1 (code.function).body) (at_ret _ (W.post y)) $
    sets ! (of_opd ! (get ! refl)) refl (tt, tt) $
    move ! (1 ∷ 2 ∷ []) $ fjoin ! $ move ! (2 ∷ 3 ∷ 4 ∷ 1 ∷ 0 ∷ []) $ group ! 5 $
    use1 𝓛 (later (some (λ (γ' : ℕ). raw (Part 𝓛 Raw U (with_value h) (named 0) κ q rb ro b o γ (sem 𝓛 (Rest 𝓛 rb ro h b o at_b)) (back 𝓛 rb ro h b o at_b) x γ'))))
    (lends_Part 𝓛 Raw U (with_value h) (named 0) κ q rb ro b o γ (sem 𝓛 (Rest 𝓛 rb ro h b o at_b)) (back 𝓛 rb ro h b o at_b) (Raw.coded.code h) (Raw.coded.code h) x) $ await ! tt $ pick ! (λ γ'.
    returns ! (look_at ! 0 refl) $ free_all ! refl $ keep ! (0 ∷ []) $
    use1 𝓛 (‵ ((MutRef (named 0) κ U).own_val (record { ref_ptr = (b, o); ghost_name = γ'; now = x }) (vptr b o ∷ [])) ⊛ (‵ (flft κ q) ⊛ ‵ (follows Raw U γ γ' (with_value h)))) (id⊢ 𝓤 _) $ split ! $ move ! (1 ∷ []) $ split ! $
    -- [the token; what follows it; the loan]
    suffices ! _ (ends_at 𝓛 f.ended stayed c y (vptr b o) (record { ref_ptr = (b, o); ghost_name = γ'; now = x }) (tt, tt) (tt, tt)) $
    move ! (2 ∷ 0 ∷ []) $ nothing ! $ nothing ! $ fjoin ! $ join ! $ nothing ! $ move ! (2 ∷ 0 ∷ []) $ join ! $ join ! $ frame ! $ says ! is $ done !)))))))
