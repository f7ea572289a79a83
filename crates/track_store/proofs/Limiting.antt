-- The restrictions that a train meets give the least of the speeds over its stretch.
use Rattle.std.proofs.Common.{◌≡◌, ℕ, ◌≤◌, ℤ, pos, ◌-ℤ◌, ◌≤ℤ◌, List, [], ◌∷◌, min, ◌⊎◌, inl, inr, refl, ap, sym, ◌∙◌, arith, Bool, true, false, cond}
use Rattle.std.specs.Prelude.{filter, map, not, ◌&&◌, int_lt}
use Rattle.std.proofs.lemmas.Int.{ints}
use Rattle.std.specs.Int.{int_max, int_min}
use Rattle.units.specs.Stretches.{Span}
use Rattle.units.proofs.Gathering.{IsIn, least_is, over_at, in_over}
use Rattle.track_store.specs.declared.restriction.Restriction.{Restriction}
use Rattle.track_store.specs.Covering.{end_of, limits_at, train_start}
use Rattle.track_store.specs.Meeting.{meets, from_where}
use Rattle.track_store.specs.Restrictions.{InForce, speeds_at, least_speed}
use Rattle.vars.specs.declared.restriction.TrainLengthDelay.{TrainLengthDelay}
use Rattle.vars.specs.declared.restriction.TrainLengthDelay.TheVariants.{Applied, NotApplied}

-- the least so far, and what the rest of the restrictions make of it
abbrev pub least_met : ℤ → Span → ℕ → List Restriction → ℕ
least_met first train limit [] = limit
least_met first train limit (r ∷ rs) = least_met first train (cond (meets first train r) (min r.speed limit) limit) rs

step_below : (b : Bool) (v limit : ℕ) → cond b (min v limit) limit ≤ limit
step_below true v limit = omega arith
step_below false v limit = omega arith

step_is : (b : Bool) (v limit : ℕ) → (cond b (min v limit) limit ≡ limit) ⊎ ((b ≡ true) × (cond b (min v limit) limit ≡ v))
step_is true v limit = grind arith
step_is false v limit = inl refl

-- at a centimetre of the stretch a restriction from start to end limits only where it is met
pub limits_met : (delay : TrainLengthDelay) (mark : ℤ) (train : Span) (c start end : ℤ) → train.rear ≤ℤ c → c ≤ℤ train.max_front →
    (not (int_lt c mark) && not (int_lt c start) && int_lt c end && not (int_lt c (train_start train.rear train.min_front delay))) ≡ true →
    not (int_lt (int_min train.max_front (end -ℤ pos 1)) (int_max (from_where (int_max mark train.rear) train delay) start)) ≡ true
limits_met Applied mark train c start end low high h = grind (arith, ints)
limits_met NotApplied mark train c start end low high h = grind (arith, ints)

-- where it is met, it limits at the first centimetre at which it may
pub met_limits : (delay : TrainLengthDelay) (mark : ℤ) (train : Span) (start end : ℤ) →
    not (int_lt (int_min train.max_front (end -ℤ pos 1)) (int_max (from_where (int_max mark train.rear) train delay) start)) ≡ true →
    (c : ℤ) × (train.rear ≤ℤ c) × (c ≤ℤ train.max_front)
    × ((not (int_lt c mark) && not (int_lt c start) && int_lt c end && not (int_lt c (train_start train.rear train.min_front delay))) ≡ true)
met_limits Applied mark train start end h =
    (int_max (int_max mark train.rear) start, grind (arith, ints), grind (arith, ints), grind (arith, ints))
met_limits NotApplied mark train start end h =
    (int_max (int_max (int_max mark train.rear) train.min_front) start, grind (arith, ints), grind (arith, ints), grind (arith, ints))

-- the speeds at a centimetre are those of the restrictions that limit there
speed_of : (rs : List Restriction) (p : Restriction → Bool) (v : ℕ) → IsIn v (map (λ (r : Restriction). r.speed) (filter p rs)) →
    (r : Restriction) × IsIn r rs × (p r ≡ true) × (v ≡ r.speed)
speed_of [] p v h = absurd h
speed_of (r ∷ rs) p v h =
    let rest : IsIn v (map (λ (r : Restriction). r.speed) (filter p rs)) → (q : Restriction) × IsIn q (r ∷ rs) × (p q ≡ true) × (v ≡ q.speed) =
    λ k. (let w = speed_of rs p v k in (w.0, inr w.1, w.2, w.3)) in
    let cases : (b : Bool) → p r ≡ b → IsIn v (map (λ (q : Restriction). q.speed) (cond b (r ∷ filter p rs) (filter p rs)))
    → (q : Restriction) × IsIn q (r ∷ rs) × (p q ≡ true) × (v ≡ q.speed) =
    elim [ true ↦ λ e k. elim k [ inl is ↦ (r, inl refl, e, is) | inr there ↦ rest there ] | false ↦ λ e k. rest k ] in
    cases (p r) refl h

speed_in : (rs : List Restriction) (p : Restriction → Bool) (r : Restriction) → IsIn r rs → p r ≡ true → IsIn r.speed (map (λ (q : Restriction). q.speed) (filter p rs))
speed_in [] p r h e = absurd h
speed_in (q ∷ rs) p r h e =
    let cases : (b : Bool) → p q ≡ b → IsIn r.speed (map (λ (q : Restriction). q.speed) (cond b (q ∷ filter p rs) (filter p rs))) =
    elim [
      | true ↦ λ is. elim h [ inl same ↦ inl (ap (λ (x : Restriction). x.speed) same) | inr there ↦ inr (speed_in rs p r there e) ]
      | false ↦ λ is. elim h [ inl same ↦ absurd (let k : true ≡ false = sym e ∙ ap p same ∙ is in cc) | inr there ↦ speed_in rs p r there e ]
    ] in
    cases (p q) refl

module _ (first : ℤ) (train : Span) where
  met_below : (limit : ℕ) (rs : List Restriction) → least_met first train limit rs ≤ limit
  met_below limit [] = omega arith
  met_below limit (r ∷ rs) =
      let rest = met_below (cond (meets first train r) (min r.speed limit) limit) rs in
      omega (arith, rest, step_below (meets first train r) r.speed limit)

  met_below_each : (limit : ℕ) (rs : List Restriction) (r : Restriction) → IsIn r rs → meets first train r ≡ true →
      least_met first train limit rs ≤ r.speed
  met_below_each limit [] r h m = absurd h
  met_below_each limit (q ∷ rs) r h m =
      elim h [
        | inl same ↦ (let met : meets first train q ≡ true = sym (ap (meets first train) same) ∙ m in
            let rest = met_below (cond (meets first train q) (min q.speed limit) limit) rs in
            let e : r.speed ≡ q.speed = ap (λ (x : Restriction). x.speed) same in
            let s : cond (meets first train q) (min q.speed limit) limit ≤ q.speed = rw met (omega arith) in
            omega (arith, rest, s, e))
        | inr there ↦ met_below_each (cond (meets first train q) (min q.speed limit) limit) rs r there m
      ]

  met_is : (limit : ℕ) (rs : List Restriction) →
      (least_met first train limit rs ≡ limit)
      ⊎ ((r : Restriction) × IsIn r rs × (meets first train r ≡ true) × (least_met first train limit rs ≡ r.speed))
  met_is limit [] = inl refl
  met_is limit (r ∷ rs) =
      elim (met_is (cond (meets first train r) (min r.speed limit) limit) rs) [
        | inl same ↦ elim (step_is (meets first train r) r.speed limit) [
          | inl k ↦ inl (same ∙ k)
          | inr k ↦ inr (r, inl refl, k.0, same ∙ k.1)
        ]
        | inr w ↦ inr (w.0, inr w.1, w.2, w.3)
      ]

-- what the loop finds is the least over each centimetre
pub least_met_is : (track : InForce) (train : Span) (otherwise : ℕ) →
    least_met (int_max track.mark train.rear) train otherwise track.restrictions ≡ least_speed track train otherwise
least_met_is track train otherwise =
    let first : ℤ = int_max track.mark train.rear in
    sym (least_is otherwise _ _ (met_below first train otherwise track.restrictions)
    (λ v given. let at = over_at (speeds_at track train) train.rear train.max_front v given in
    let of = speed_of track.restrictions (limits_at track.mark train at.0) v at.3 in
    rw of.3 (met_below_each first train otherwise track.restrictions of.0 of.1
    (limits_met of.0.delay track.mark train at.0 of.0.start (end_of of.0) at.1 at.2 of.2)))
    (elim (met_is first train otherwise track.restrictions) [
      | inl same ↦ inl same
      | inr w ↦ inr (let c = met_limits w.0.delay track.mark train w.0.start (end_of w.0) w.2 in
          rw w.3 (in_over (speeds_at track train) train.rear train.max_front w.0.speed c.0 c.1 c.2
          (speed_in track.restrictions (limits_at track.mark train c.0) w.0 w.1 c.3)))
    ]))
