-- Parts of lists, and the outputs of longer lists of events.
use Rattle.std.proofs.Common.{◌≡◌, inl, inr, List, [], ◌∷◌, ◌++◌, append_assoc, refl, sym, ◌∙◌, ap, subst}
use Rattle.std.proofs.lemmas.List.{append-nil, map-append}
use Rattle.events.specs.declared.input.Event.{Event}
use Rattle.unit_start.specs.Events.{pair_of, pairs_of}
use Rattle.unit_calls.specs.Histories.{IsPartOf, outputs_of}
use Rattle.unit_calls.specs.Outputs.{description_of}
use Rattle.unit_calls.specs.declared.outputs.EtcsOutput.{EtcsOutput}

-- of a longer list
pub part_more : {X : Type 0} (xs ys zs : List X) → IsPartOf xs ys → IsPartOf xs (ys ++ zs)
part_more [] ys zs is = tt
part_more (x ∷ xs) [] zs is = absurd is
part_more (x ∷ xs) (y ∷ ys) zs (inl (same, is)) = inl (same, part_more xs ys zs is)
part_more (x ∷ xs) (y ∷ ys) zs (inr is) = inr (part_more (x ∷ xs) ys zs is)

part_all : {X : Type 0} (zs : List X) → IsPartOf zs zs
part_all [] = tt
part_all (z ∷ zs) = inl (refl, part_all zs)

part_past : {X : Type 0} (zs : List X) (y : X) (ys : List X) → IsPartOf zs ys → IsPartOf zs (y ∷ ys)
part_past [] y ys is = tt
part_past (z ∷ zs) y ys is = inr is

part_after : {X : Type 0} (zs ys : List X) → IsPartOf zs (ys ++ zs)
part_after zs [] = part_all zs
part_after zs (y ∷ ys) = part_past zs y (ys ++ zs) (part_after zs ys)

-- the same after both
pub part_both : {X : Type 0} (xs ys zs : List X) → IsPartOf xs ys → IsPartOf (xs ++ zs) (ys ++ zs)
part_both [] ys zs is = part_after zs ys
part_both (x ∷ xs) [] zs is = absurd is
part_both (x ∷ xs) (y ∷ ys) zs (inl (same, is)) = inl (same, part_both xs ys zs is)
part_both (x ∷ xs) (y ∷ ys) zs (inr is) = inr (part_both (x ∷ xs) ys zs is)

-- its beginning
pub part_front : {X : Type 0} (xs zs ys : List X) → IsPartOf (xs ++ zs) ys → IsPartOf xs ys
part_front [] zs ys is = tt
part_front (x ∷ xs) zs [] is = absurd is
part_front (x ∷ xs) zs (y ∷ ys) (inl (same, is)) = inl (same, part_front xs zs ys is)
part_front (x ∷ xs) zs (y ∷ ys) (inr is) = inr (part_front (x ∷ xs) zs ys is)

-- a longer list of events has more outputs after those that it had
more_outputs : (more events : List Event) → (rest : List EtcsOutput) × (outputs_of (more ++ events) ≡ outputs_of events ++ rest)
more_outputs [] events = ([], sym (append-nil (outputs_of events)))
more_outputs (event ∷ more) events =
    let so = more_outputs more events in
    let one = description_of (pair_of (more ++ events) event) in (
      so.0 ++ one ∷ [],
      map-append description_of (pairs_of (more ++ events)) (pair_of (more ++ events) event ∷ [])
          ∙ ap (λ (l : List EtcsOutput). l ++ one ∷ []) so.1
          ∙ append_assoc (outputs_of events) so.0 (one ∷ []),
    )

pub part_longer : (handed : List EtcsOutput) (events all more : List Event) → all ≡ more ++ events → IsPartOf handed (outputs_of events) → IsPartOf handed (outputs_of all)
part_longer handed events all more is part =
    let so = more_outputs more events in
    let P : List EtcsOutput → Type 0 = λ l. IsPartOf handed l in
    subst P (sym (ap outputs_of is ∙ so.1)) (part_more handed (outputs_of events) so.0 part)
