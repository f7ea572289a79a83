-- The static speeds, by the centimetres where their pieces begin.
use Rattle.std.proofs.Common.{◌≡◌, ℕ, ◌+◌, ℤ, pos, ◌+ℤ◌, ◌-ℤ◌, ◌≤ℤ◌, ◌<ℤ◌, ◌<◌, List, [], ◌++◌, inl, inr, Bool, true, false, cond, refl, ap, sym, ◌∙◌, subst, arith}
use Rattle.std.specs.Prelude.{Option, None, Some, int_lt, is_some, MatchOption, IfSome}
use Rattle.std.proofs.lemmas.Int.{ints, by_lt_z}
use Rattle.units.specs.Stretches.{over, natural}
use Rattle.units.proofs.Gathering.{IsIn, over_at, in_over}
use Rattle.track_store.specs.Profiles.{Lasts, listed}
use Rattle.track_store.proofs.Jumps.{none_over, fewer_left, natural_is}
use Rattle.track_store.proofs.Lasting.{IsAhead}
use Rattle.authority.specs.declared.answers.End.{End}
use Rattle.braking.specs.declared.target.Target.{Target}
use Rattle.speed_profile.specs.declared.reported.CategorySpeeds.{CategorySpeeds}
use Rattle.speed_profile.specs.declared.limit.Bounds.{Bounds}
use Rattle.speed_profile.specs.Reported.{speed_of}
use Rattle.speed_profile.specs.Ahead.{greatest_place, unknown_target, static_target, static_targets}
use Rattle.speed_profile.specs.Starts.{rest, left}
use Rattle.speed_profile.specs.Targets.{AskTheSame, AskTheSameBeyond}
use Rattle.speed_profile.proofs.Farther.{IsNoNearer, farther_fits}
use Rattle.speed_profile.proofs.Asking.{AreCovered, covered_ask, fit_all}

pub itself : (t : Target) → IsNoNearer t t
itself t = record { place = omega (arith, ints); speed = omega arith }

-- a nearer one among some targets
abbrev HasNearer : List Target → Target → Type 0
HasNearer targets t = (near : Target) × IsIn near targets × IsNoNearer near t

pub there_nearer : (place c : ℤ) (speed : ℕ) (t : Target) → place ≤ℤ c → t ≡ record { place = c; speed = speed } →
    IsNoNearer (record { place = place; speed = speed }) t
there_nearer place c speed t ahead is =
    let at : t.place ≡ c = ap (λ (x : Target). x.place) is in
    let of : t.speed ≡ speed = ap (λ (x : Target). x.speed) is in
    record { place = rw at ahead; speed = omega (arith, of) }

-- ---- static speeds

unknown_nearer : (end : Option End) (place c : ℤ) (t : Target) → place ≤ℤ c → IsIn t (listed (unknown_target end c)) →
    HasNearer (listed (unknown_target end place)) t
unknown_nearer None place c t ahead h = absurd h
unknown_nearer (Some end) place c t ahead h =
    let stop : ℤ → Target = λ x. record { place = x; speed = 0 } in
    let cases : (a b : Bool) → int_lt place end.place ≡ a → int_lt c end.place ≡ b → IsIn t (listed (cond b (Some (stop c)) None)) →
    HasNearer (listed (cond a (Some (stop place)) None)) t = elim [
      | true ↦ elim [
        | true ↦ λ e f k. elim k [ inl is ↦ (stop place, inl refl, there_nearer place c 0 t ahead is) | inr never ↦ absurd never ]
        | false ↦ λ e f k. absurd k
      ]
      | false ↦ elim [
        | true ↦ λ e f k. absurd (let never : ⊥ = grind (arith, ints) in never)
        | false ↦ λ e f k. absurd k
      ]
    ] in
    cases (int_lt place end.place) (int_lt c end.place) refl refl h

value_nearer : (bounds : Bounds) (place c : ℤ) (t : Target) (value : Option CategorySpeeds) → place ≤ℤ c →
    IsIn t (listed (static_target bounds c value)) → HasNearer (listed (static_target bounds place value)) t
value_nearer bounds place c t None ahead h = unknown_nearer bounds.end place c t ahead h
value_nearer bounds place c t (Some speeds) ahead h =
    elim h [
      | inl is ↦ (record { place = place; speed = speed_of speeds bounds.category }, inl refl, there_nearer place c (speed_of speeds bounds.category) t ahead is)
      | inr never ↦ absurd never
    ]

pub less_left : (place : ℤ) (next : Option ℤ) → place ≤ℤ greatest_place → IsAhead place next → left next < left (Some place)
less_left place None within ahead =
    let count : pos (natural ((greatest_place +ℤ pos 1) -ℤ place)) ≡ (greatest_place +ℤ pos 1) -ℤ place =
    natural_is ((greatest_place +ℤ pos 1) -ℤ place) (omega (arith, ints)) in
    omega (arith, ints, count)
less_left place (Some next) within ahead = fewer_left place next greatest_place within ahead

pub lasts_ahead : (value : ℤ → Option CategorySpeeds) (place : ℤ) (next : Option ℤ) → Lasts value place next → IsAhead place next
lasts_ahead value place None lasts = tt
lasts_ahead value place (Some next) lasts = lasts.0

-- how often the nearest piece can be left after
abbrev pub turns_left : Option ℤ → ℕ → ℕ
turns_left None most = 0
turns_left (Some place) most = most + 1

pub fewer_turns : (start next : Option ℤ) (place : ℤ) (before after : ℕ) → start ≡ Some place → IfSome next (λ left. after < before) →
    turns_left next after < turns_left start before
fewer_turns start None place before after is fewer = rw is (omega arith)
fewer_turns start (Some left) place before after is fewer = rw is (omega (arith, fewer))

pub none_left : (start : Option ℤ) → is_some start ≡ false → start ≡ None
none_left None none = refl
none_left (Some place) none = absurd (let no : true ≡ false = none in cc)

pub some_left : (start from : Option ℤ) (after before : ℕ) → is_some start ≡ true → start ≡ from → IfSome from (λ place. after < before) →
    after < before
some_left start None after before some is fewer = absurd (let no : false ≡ true = sym (ap is_some is) ∙ some in cc)
some_left start (Some place) after before some is fewer = fewer

-- the first place ahead, if there is one, is where all begins
pub first_rest : (f : ℤ → List Target) (first : ℤ) (start : Option ℤ) →
    MatchOption start (greatest_place <ℤ first) (λ place. place ≡ first) → rest f start ≡ over f first greatest_place
first_rest f first None beyond = sym (none_over f first greatest_place beyond)
first_rest f first (Some place) is = ap (λ (c : ℤ). over f c greatest_place) is

module _ (bounds : Bounds) (profile : ℤ → Option CategorySpeeds) (place : ℤ) (within : place ≤ℤ greatest_place) where
  here_nearer : (c : ℤ) (t : Target) → place ≤ℤ c → profile c ≡ profile place → IsIn t (static_targets bounds profile c) →
      HasNearer (static_targets bounds profile place) t
  here_nearer c t ahead same h =
      value_nearer bounds place c t (profile place) ahead
      (subst (λ (v : Option CategorySpeeds). IsIn t (listed (static_target bounds c v))) same h)

  here_in : (t : Target) → IsIn t (static_targets bounds profile place) → IsIn t (over (static_targets bounds profile) place greatest_place)
  here_in t h = in_over (static_targets bounds profile) place greatest_place t place (omega (arith, ints)) within h

  static_covered : (next : Option ℤ) → Lasts profile place next →
      AreCovered (static_targets bounds profile place) (rest (static_targets bounds profile) next)
      (over (static_targets bounds profile) place greatest_place)
  static_covered None same = record {
    first_in = here_in;
    second_in = λ t never. absurd never;
    nearer = λ t h. let at = over_at (static_targets bounds profile) place greatest_place t h in
        let near = here_nearer at.0 t at.1 (same at.0 at.1) at.3 in
        (near.0, inl near.1, near.2);
  }
  static_covered (Some next) lasts = record {
    first_in = here_in;
    second_in = λ t h. let at = over_at (static_targets bounds profile) next greatest_place t h in
        in_over (static_targets bounds profile) place greatest_place t at.0 (omega (arith, ints, at.1, lasts.0)) at.2 at.3;
    nearer = λ t h. let at = over_at (static_targets bounds profile) place greatest_place t h in
        by_lt_z at.0 next
        (λ (before : at.0 <ℤ next). let near = here_nearer at.0 t at.1 (lasts.1 at.0 at.1 before) at.3 in (near.0, inl near.1, near.2))
        (λ (farther : next ≤ℤ at.0).
        (t, inr (in_over (static_targets bounds profile) next greatest_place t at.0 farther at.2 at.3), itself t));
  }

  -- a piece asks at its first centimetre
  pub piece_asks : (next : Option ℤ) → Lasts profile place next →
      AskTheSame (over (static_targets bounds profile) place greatest_place)
      (listed (static_target bounds place (profile place)) ++ rest (static_targets bounds profile) next)
  piece_asks next lasts =
      covered_ask (static_targets bounds profile place) (rest (static_targets bounds profile) next)
      (over (static_targets bounds profile) place greatest_place) (static_covered next lasts)

-- a target of a centimetre lies there
unknown_place : (end : Option End) (c : ℤ) (t : Target) → IsIn t (listed (unknown_target end c)) → t.place ≡ c
unknown_place None c t h = absurd h
unknown_place (Some end) c t h =
    let stop : Target = record { place = c; speed = 0 } in
    let cases : (b : Bool) → IsIn t (listed (cond b (Some stop) None)) → t.place ≡ c = elim [
      | true ↦ λ k. elim k [ inl is ↦ ap (λ (x : Target). x.place) is | inr never ↦ absurd never ]
      | false ↦ λ k. absurd k
    ] in
    cases (int_lt c end.place) h

value_place : (bounds : Bounds) (c : ℤ) (t : Target) (value : Option CategorySpeeds) → IsIn t (listed (static_target bounds c value)) → t.place ≡ c
value_place bounds c t None h = unknown_place bounds.end c t h
value_place bounds c t (Some speeds) h = elim h [ inl is ↦ ap (λ (x : Target). x.place) is | inr never ↦ absurd never ]

-- those from a place on lie there or farther ahead
rest_ahead : (bounds : Bounds) (profile : ℤ → Option CategorySpeeds) (place : ℤ) (t : Target) →
    IsIn t (rest (static_targets bounds profile) (Some place)) → place ≤ℤ t.place
rest_ahead bounds profile place t h =
    let at = over_at (static_targets bounds profile) place greatest_place t h in
    rw (value_place bounds at.0 t (profile at.0) at.3) at.1

-- so a train that can stop where they begin can brake for them
pub rest_asks : (bounds : Bounds) (profile : ℤ → Option CategorySpeeds) (start : Option ℤ) →
    AskTheSameBeyond start (rest (static_targets bounds profile) start) []
rest_asks bounds profile None = λ front gradient brakes v. refl
rest_asks bounds profile (Some place) = λ front gradient brakes v stops.
    let stop : Target = record { place = place; speed = 0 } in
    fit_all front gradient brakes (rest (static_targets bounds profile) (Some place)) v
    (λ t there. farther_fits front gradient brakes stop t v (record { place = rest_ahead bounds profile place t there; speed = omega arith }) stops)
