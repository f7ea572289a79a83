-- Restrictions and mode areas by the first centimetre of each.
use Rattle.std.proofs.Common.{◌≡◌, ℤ, pos, ◌+ℤ◌, ◌≤ℤ◌, List, [], ◌∷◌, ◌++◌, Bool, true, false, arith}
use Rattle.std.specs.Prelude.{Option, None, Some, IfSome, int_lt, not, ◌&&◌, if◌then◌else◌}
use Rattle.std.specs.Int.{int_max}
use Rattle.std.proofs.lemmas.Int.{ints}
use Rattle.track_store.specs.Profiles.{listed}
use Rattle.track_store.specs.declared.restriction.Restriction.{Restriction}
use Rattle.track_store.specs.Covering.{covers, end_of}
use Rattle.braking.specs.declared.target.Target.{Target}
use Rattle.areas.specs.declared.area.Area.{Area}
use Rattle.areas.specs.declared.area.NationalSpeeds.{NationalSpeeds}
use Rattle.areas.specs.Areas.{is_before, speed_in}
use Rattle.speed_profile.specs.Ahead.{greatest_place, over_ahead, restriction_targets, is_inside, area_targets}
use Rattle.speed_profile.specs.Starts.{first_covered, first_target, first_inside, first_in_area}
use Rattle.speed_profile.specs.Targets.{AskTheSame, AskNothing}
use Rattle.speed_profile.proofs.Covering.{one_asks, none_asks}
use Rattle.speed_profile.proofs.Farther.{IsNoNearer}

-- ---- restrictions

covers_ahead : (first mark c start end : ℤ) → first ≤ℤ c → c ≤ℤ greatest_place →
    (not (int_lt c mark) && not (int_lt c start) && int_lt c end) ≡ true →
    ((int_lt (int_max (int_max first mark) start) end && not (int_lt greatest_place (int_max (int_max first mark) start))) ≡ true)
    × (int_max (int_max first mark) start ≤ℤ c)
covers_ahead first mark c start end low high h = (grind (arith, ints), grind (arith, ints))

first_covers : (first mark start end : ℤ) →
    (int_lt (int_max (int_max first mark) start) end && not (int_lt greatest_place (int_max (int_max first mark) start))) ≡ true →
    (first ≤ℤ int_max (int_max first mark) start) × (int_max (int_max first mark) start ≤ℤ greatest_place)
    × ((not (int_lt (int_max (int_max first mark) start) mark) && not (int_lt (int_max (int_max first mark) start) start)
    && int_lt (int_max (int_max first mark) start) end) ≡ true)
first_covers first mark start end h = (grind (arith, ints), grind (arith, ints), grind (arith, ints))

not_before : (first start : ℤ) → start ≤ℤ int_max first start
not_before first start = grind (arith, ints)

module _ (front mark : ℤ) where
  has_track : Restriction → Bool
  has_track r = int_lt (first_covered front mark r) (end_of r) && not (int_lt greatest_place (first_covered front mark r))

  pub restriction_asks : (r : Restriction) (rs : List Restriction) →
      AskTheSame (over_ahead front (restriction_targets mark (r ∷ rs))) (listed (first_target front mark r) ++ over_ahead front (restriction_targets mark rs))
  unfolding has_track
  restriction_asks =
      one_asks (front +ℤ pos 1) (covers mark) (λ r. r.speed) (first_covered front mark) has_track
      (λ r c low high h. covers_ahead (front +ℤ pos 1) mark c r.start (end_of r) low high h)
      (λ r h. first_covers (front +ℤ pos 1) mark r.start (end_of r) h)

  pub no_restriction_asks : AskNothing (over_ahead front (restriction_targets mark []))
  unfolding has_track
  no_restriction_asks =
      none_asks (front +ℤ pos 1) (covers mark) (λ r. r.speed) (first_covered front mark) has_track
      (λ r c low high h. covers_ahead (front +ℤ pos 1) mark c r.start (end_of r) low high h)
      (λ r h. first_covers (front +ℤ pos 1) mark r.start (end_of r) h)

  -- none begins to ask before it begins
  pub begins_ahead : (r : Restriction) → IfSome (first_target front mark r) (IsNoNearer (record { place = r.start; speed = r.speed }))
  begins_ahead r =
      let first = first_covered front mark r in
      let near : Target = record { place = r.start; speed = r.speed } in
      let cases : (b : Bool) → IfSome (if b then Some (record { place = first; speed = r.speed }) else None) (IsNoNearer near) =
      elim [ true ↦ record { place = not_before (int_max (front +ℤ pos 1) mark) r.start; speed = omega arith } | false ↦ tt ] in
      cases (int_lt first (end_of r) && not (int_lt greatest_place first))

-- ---- mode areas

inside_ahead : (first c start : ℤ) (end : Option ℤ) → first ≤ℤ c → c ≤ℤ greatest_place →
    (not (int_lt c start) && is_before c end) ≡ true →
    ((is_before (int_max first start) end && not (int_lt greatest_place (int_max first start))) ≡ true) × (int_max first start ≤ℤ c)
inside_ahead first c start None low high h = (grind (arith, ints), grind (arith, ints))
inside_ahead first c start (Some end) low high h = (grind (arith, ints), grind (arith, ints))

first_is_inside : (first start : ℤ) (end : Option ℤ) →
    (is_before (int_max first start) end && not (int_lt greatest_place (int_max first start))) ≡ true →
    (first ≤ℤ int_max first start) × (int_max first start ≤ℤ greatest_place)
    × ((not (int_lt (int_max first start) start) && is_before (int_max first start) end) ≡ true)
first_is_inside first start None h = (grind (arith, ints), grind (arith, ints), grind (arith, ints))
first_is_inside first start (Some end) h = (grind (arith, ints), grind (arith, ints), grind (arith, ints))

module _ (front : ℤ) (national : NationalSpeeds) where
  has_place : Area → Bool
  has_place a = is_before (first_inside front a) a.end && not (int_lt greatest_place (first_inside front a))

  pub area_asks : (a : Area) (areas : List Area) →
      AskTheSame (over_ahead front (area_targets national (a ∷ areas))) (listed (first_in_area front national a) ++ over_ahead front (area_targets national areas))
  unfolding has_place
  area_asks =
      one_asks (front +ℤ pos 1) is_inside (speed_in national) (first_inside front) has_place
      (λ a c low high h. inside_ahead (front +ℤ pos 1) c a.start a.end low high h)
      (λ a h. first_is_inside (front +ℤ pos 1) a.start a.end h)

  pub no_area_asks : AskNothing (over_ahead front (area_targets national []))
  unfolding has_place
  no_area_asks =
      none_asks (front +ℤ pos 1) is_inside (speed_in national) (first_inside front) has_place
      (λ a c low high h. inside_ahead (front +ℤ pos 1) c a.start a.end low high h)
      (λ a h. first_is_inside (front +ℤ pos 1) a.start a.end h)
