-- Of what covers stretches of track, the first centimetre of each stands for all of it.
use Rattle.std.proofs.Common.{◌≡◌, ℕ, ℤ, ◌≤ℤ◌, List, [], ◌∷◌, ◌++◌, inl, inr, Bool, true, false, cond, refl, ap, sym, ◌∙◌}
use Rattle.std.specs.Prelude.{Option, None, Some, filter, map}
use Rattle.units.specs.Stretches.{over}
use Rattle.units.proofs.Gathering.{IsIn, over_at, in_over}
use Rattle.track_store.specs.Profiles.{listed}
use Rattle.braking.specs.declared.target.Target.{Target}
use Rattle.speed_profile.specs.Ahead.{greatest_place}
use Rattle.speed_profile.specs.Targets.{AskTheSame, AskNothing}
use Rattle.speed_profile.proofs.Asking.{AreCovered, covered_ask, fit_all}
use Rattle.speed_profile.proofs.Members.{one_passed, passes}
use Rattle.speed_profile.proofs.Starting.{itself, there_nearer}
use Rattle.speed_profile.proofs.There.{at_place}

module _ {A : Type 0} (from : ℤ) (covers : ℤ → A → Bool) (speed : A → ℕ) (first : A → ℤ) (has : A → Bool)
    (reaches : (a : A) (c : ℤ) → from ≤ℤ c → c ≤ℤ greatest_place → covers c a ≡ true → (has a ≡ true) × (first a ≤ℤ c))
    (begins : (a : A) → has a ≡ true → (from ≤ℤ first a) × (first a ≤ℤ greatest_place) × (covers (first a) a ≡ true)) where
  abbrev each_at : List A → ℤ → List Target
  each_at items c = map (λ item. at_place c (speed item)) (filter (covers c) items)

  abbrev each_ahead : List A → List Target
  each_ahead items = over (each_at items) from greatest_place

  -- what one asks for at the first centimetre that it covers
  abbrev first_of_it : A → Option Target
  first_of_it a = cond (has a) (Some (at_place (first a) (speed a))) None

  of_one : (items : List A) (t : Target) → IsIn t (each_ahead items) →
      (c : ℤ) × (a : A) × (from ≤ℤ c) × (c ≤ℤ greatest_place) × IsIn a items × (covers c a ≡ true) × (t ≡ at_place c (speed a))
  of_one items t h =
      let at = over_at (each_at items) from greatest_place t h in
      let of = one_passed (λ (a : A). at_place at.0 (speed a)) (covers at.0) items t at.3 in
      (at.0, of.0, at.1, at.2, of.1, of.2, of.3)

  in_each : (items : List A) (c : ℤ) (a : A) (t : Target) → from ≤ℤ c → c ≤ℤ greatest_place → IsIn a items → covers c a ≡ true →
      t ≡ at_place c (speed a) → IsIn t (each_ahead items)
  in_each items c a t low high there covered is =
      in_over (each_at items) from greatest_place t c low high
      (rw is (passes (λ (x : A). at_place c (speed x)) (covers c) items a there covered))

  first_in_all : (a : A) (items : List A) (t : Target) → IsIn t (listed (first_of_it a)) → IsIn t (each_ahead (a ∷ items))
  first_in_all a items t h =
      let cases : (b : Bool) → has a ≡ b → IsIn t (listed (cond b (Some (at_place (first a) (speed a))) None)) → IsIn t (each_ahead (a ∷ items)) = elim [
        | true ↦ λ e k. elim k [
          | inl is ↦ (let w = begins a e in in_each (a ∷ items) (first a) a t w.0 w.1 (inl refl) w.2 is)
          | inr never ↦ absurd never
        ]
        | false ↦ λ e k. absurd k
      ] in
      cases (has a) refl h

  one_covered : (a : A) (items : List A) → AreCovered (listed (first_of_it a)) (each_ahead items) (each_ahead (a ∷ items))
  one_covered a items = record {
    first_in = first_in_all a items;
    second_in = λ t h. let of = of_one items t h in in_each (a ∷ items) of.0 of.1 t of.2 of.3 (inr of.4) of.5 of.6;
    nearer = λ t h. let of = of_one (a ∷ items) t h in
        elim of.4 [
          | inl same ↦ (let covered : covers of.0 a ≡ true = sym (ap (covers of.0) same) ∙ of.5 in
              let w = reaches a of.0 of.2 of.3 covered in
              let is : t ≡ at_place of.0 (speed a) = of.6 ∙ ap (λ (x : A). at_place of.0 (speed x)) same in (
                at_place (first a) (speed a),
                inl (rw w.0 (inl refl)),
                there_nearer (first a) of.0 (speed a) t w.1 is,
              ))
          | inr there ↦ (t, inr (in_each items of.0 of.1 t of.2 of.3 there of.5 of.6), itself t)
        ];
  }

  -- one asks for its first centimetre
  pub one_asks : (a : A) (items : List A) → AskTheSame (each_ahead (a ∷ items)) (listed (first_of_it a) ++ each_ahead items)
  one_asks a items = covered_ask (listed (first_of_it a)) (each_ahead items) (each_ahead (a ∷ items)) (one_covered a items)

  pub none_asks : AskNothing (each_ahead [])
  none_asks front gradient brakes v =
      fit_all front gradient brakes (each_ahead []) v
      (λ t h. absurd (let at = over_at (each_at []) from greatest_place t h in at.3))
