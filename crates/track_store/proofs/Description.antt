-- A profile that is read off what was reported of it stays so.
use Rattle.std.proofs.Common.{◌≡◌, ℤ, Bool, true, false, [], cond, refl, ap, ◌∙◌, arith}
use Rattle.std.proofs.Math.Path.{fun_ext}
use Rattle.std.proofs.lemmas.Int.{ints}
use Rattle.std.specs.Prelude.{int_lt, Option, None}
use Rattle.std.specs.Int.{int_max}
use Rattle.track_store.specs.Profiles.{Profile}
use Rattle.track_store.specs.Facts.{MarkedFacts, latest, from_mark, profile_of}
use Rattle.track_store.proofs.Forgetting.{none_below}

same_profile : {A : Type 0} (p q : Profile A) → p.value ≡ q.value → p ≡ q
same_profile p q value = λ i. record { value = value i }

marked_twice : {A : Type 0} (below before after : Bool) (value : Option A) → after ≡ cond below true before →
    cond below None (cond before None value) ≡ cond after None value
marked_twice true before after value is = rw is refl
marked_twice false before after value is = rw is refl

below_greater : (place a b : ℤ) → int_lt place (int_max a b) ≡ cond (int_lt place a) true (int_lt place b)
below_greater place a b = grind (arith, ints)

module _ {A : Type 0} (old new : Profile A) (reported : MarkedFacts A) (is : old ≡ profile_of reported) where
  -- a mark ahead
  pub marked_at : (mark : ℤ) → ((place : ℤ) → new.value place ≡ from_mark mark old.value place) →
      new ≡ profile_of (record reported { mark = int_max mark reported.mark })
  marked_at mark values =
      same_profile new (profile_of (record reported { mark = int_max mark reported.mark }))
      (fun_ext (λ place. values place
      ∙ ap (λ (p : Profile A). from_mark mark p.value place) is
      ∙ marked_twice (int_lt place mark) (int_lt place reported.mark) (int_lt place (int_max mark reported.mark)) (latest reported.facts place)
      (below_greater place mark reported.mark)))

-- nothing reported
pub none_reported : {A : Type 0} (new : Profile A) (mark : ℤ) → ((place : ℤ) → new.value place ≡ None) →
    new ≡ profile_of (record { mark = mark; facts = [] })
none_reported new mark values =
    same_profile new (profile_of (record { mark = mark; facts = [] }))
    (fun_ext (λ place. none_below (int_lt place mark) (new.value place) (values place)))
