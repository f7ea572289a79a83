-- A target that a next greater speed doesn't fit decides the greatest one that fits all.
use Rattle.std.proofs.Common.{◌≡◌, ℕ, zero, suc, ◌+◌, ◌<◌, ◌≤◌, List, [], ◌∷◌, ◌++◌, ◌⊎◌, inl, inr, Bool, true, false, refl, ap, sym, ◌∙◌, arith}
use Rattle.std.specs.Prelude.{Option, None, Some, IfSome, MatchOption, ◌&&◌}
use Rattle.std.proofs.lemmas.Bool.{and_parts, and_from, cases_lt, cond_both}
use Rattle.units.proofs.Gathering.{IsIn}
use Rattle.track_store.specs.Profiles.{listed}
use Rattle.braking.specs.declared.target.Target.{Target}
use Rattle.braking.specs.Braking.{greatest}
use Rattle.braking.proofs.Greatest.{greatest_is, greatest_within}
use Rattle.braking.proofs.Slower.{faster_fails}
use Rattle.speed_profile.proofs.Asking.{fit_both}
use Rattle.speed_profile.proofs.Members.{in_right}
use Rattle.speed_supervision.proofs.Preceding.{fit_each, past_along}
use Rattle.speed_supervision.specs.declared.cause.TargetAhead.{TargetAhead}
use Rattle.speed_supervision.specs.Targets.{Journey, along_track, fits_on, fits_all_on, target_of}
use Rattle.speed_supervision.specs.Supervised.{LowersTo, IsDeciding, IsLast}

-- nothing above it passes
pub above_fails : (test : ℕ → Bool) (n k : ℕ) → greatest test n < k → k ≤ n → test k ≡ false
unfolding greatest
above_fails test zero k above within = absurd (omega (arith, above, within))
above_fails test (suc n) k above within =
    cond_both (test (suc n)) (suc n) (greatest test n) (λ m. m < k → test k ≡ false) (λ e over. absurd (omega (arith, over, within)))
    (λ e over. elim (cases_lt n k) [
      | inl gt ↦ (let same : k ≡ suc n = omega (arith, gt, within) in ap test same ∙ e)
      | inr le ↦ above_fails test n k over le
    ]) above

pub passes : (test : ℕ → Bool) (n : ℕ) → (greatest test n ≡ 0) ⊎ (test (greatest test n) ≡ true)
unfolding greatest
passes test zero = inl refl
passes test (suc n) =
    cond_both (test (suc n)) (suc n) (greatest test n) (λ m. (m ≡ 0) ⊎ (test m ≡ true)) (λ e. inr e) (λ e. passes test n)

module _ (journey : Journey) (limit : ℕ) where
  pub decides : (targets : List Target) (t : Target) → IsIn t targets → greatest (fits_all_on journey targets) limit < limit →
      fits_on journey t (greatest (fits_all_on journey targets) limit + 1) ≡ false →
      greatest (fits_on journey t) limit ≡ greatest (fits_all_on journey targets) limit
  decides targets t there less fail =
      let v : ℕ = greatest (fits_all_on journey targets) limit in
      let here : (v ≡ 0) ⊎ (fits_on journey t v ≡ true) = elim (passes (fits_all_on journey targets) limit) [
        | inl none ↦ inl none
        | inr fit ↦ inr (fit_each journey targets v fit t there)
      ] in
      greatest_is (fits_on journey t) v limit (omega arith) here
      (λ k above below. faster_fails journey.front journey.gradient journey.brakes t k (v + 1) (omega arith) fail)

  last_fails : (b : Bool) → (true && (b && true)) ≡ false → b ≡ false
  last_fails true h = h
  last_fails false h = refl

  -- what lowers a limit to a speed doesn't fit the next greater one
  pub lowers_unfit : (speed faster : ℕ) (other : TargetAhead) → faster ≡ speed + 1 → LowersTo journey limit speed other →
      fits_on journey other.target faster ≡ false
  lowers_unfit speed faster other next lowers =
      above_fails (fits_on journey other.target) limit faster (omega (arith, next, lowers.2)) (omega (arith, next, lowers.1))

  -- the last one does, where the others don't
  pub last_decides : (last : Option TargetAhead) (speed : ℕ) →
      speed ≡ greatest (fits_all_on journey (along_track journey ++ listed (target_of last))) limit →
      IfSome last (IsLast journey limit speed) → speed < limit →
      fits_all_on journey (along_track journey) (speed + 1) ≡ true → MatchOption last (speed ≡ limit) (IsDeciding journey limit speed)
  last_decides None speed is last less fit =
      let ahead : List Target = along_track journey in
      let test = fits_all_on journey (ahead ++ []) in
      let w : ℕ = speed + 1 in
      let fail : test w ≡ false = above_fails test limit w (omega (arith, is)) (omega (arith, less)) in
      let two_fit : test w ≡ (fits_all_on journey ahead w && true) = fit_both journey.front journey.gradient journey.brakes ahead [] w in
      absurd (let no : true ≡ false = sym (two_fit ∙ ap (λ (b : Bool). b && true) fit) ∙ fail in cc)
  last_decides (Some l) speed is last less fit =
      let ahead : List Target = along_track journey in
      let t : Target = l.target in
      let test = fits_all_on journey (ahead ++ (t ∷ [])) in
      let w : ℕ = speed + 1 in
      let fail : test w ≡ false = above_fails test limit w (omega (arith, is)) (omega (arith, less)) in
      let two_fit : test w ≡ (fits_all_on journey ahead w && (fits_on journey t w && true)) =
      fit_both journey.front journey.gradient journey.brakes ahead (t ∷ []) w in
      let unfit : fits_on journey t w ≡ false =
      last_fails (fits_on journey t w) (sym (two_fit ∙ ap (λ (b : Bool). b && (fits_on journey t w && true)) fit) ∙ fail) in
      let below : greatest test limit < limit = omega (arith, is, less) in
      let next : w ≡ greatest test limit + 1 = omega (arith, is) in
      let gives : greatest (fits_on journey t) limit ≡ speed =
      decides (ahead ++ (t ∷ [])) t (in_right t ahead (t ∷ []) (inl refl)) below (ap (fits_on journey t) (sym next) ∙ unfit) ∙ sym is in (
        (last.0, less, gives),
        λ other lowers. last.1 other lowers
            (past_along journey w other.target (lowers_unfit speed w other refl lowers) fit other.kind lowers.0),
      )

  -- where one target gives a greater speed than another one, the other one doesn't give it
  pub other_gives_less : (ahead : List Target) (one other : Target) →
      greatest (fits_all_on journey (ahead ++ (other ∷ []))) limit < greatest (fits_all_on journey (ahead ++ (one ∷ []))) limit →
      greatest (fits_on journey other) limit ≡ greatest (fits_all_on journey (ahead ++ (one ∷ []))) limit → ⊥
  other_gives_less ahead one other less gives =
      let to_one = fits_all_on journey (ahead ++ (one ∷ [])) in
      let to_other = fits_all_on journey (ahead ++ (other ∷ [])) in
      let v : ℕ = greatest to_one limit in
      let along : fits_all_on journey ahead v ≡ true = elim (passes to_one limit) [
        | inl none ↦ absurd (omega (arith, less, none))
        | inr fit ↦ (and_parts (fits_all_on journey ahead v) (fits_on journey one v && true)
            (sym (fit_both journey.front journey.gradient journey.brakes ahead (one ∷ []) v) ∙ fit)).0
      ] in
      let last : fits_on journey other v ≡ true = elim (passes (fits_on journey other) limit) [
        | inl none ↦ absurd (omega (arith, less, none, gives))
        | inr fit ↦ ap (fits_on journey other) (sym gives) ∙ fit
      ] in
      let fits : to_other v ≡ true = fit_both journey.front journey.gradient journey.brakes ahead (other ∷ []) v
      ∙ and_from (fits_all_on journey ahead v) (fits_on journey other v && true) along (and_from (fits_on journey other v) true last refl) in
      let fails : to_other v ≡ false = above_fails to_other limit v less (greatest_within to_one limit) in
      let no : true ≡ false = sym fits ∙ fails in cc
