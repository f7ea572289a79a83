-- An event in which nothing comes: what is known but for place and moment stays, and so does the limit.
use Rattle.std.proofs.Common.{◌≡◌, Bool, true, false, IsTrue, refl, sym, ap, subst, ◌∙◌}
use Rattle.std.specs.Prelude.{Option, None, Some, is_some, ◌≤ℤ◌, IsSome, IfSome}
use Rattle.std.specs.Option.{option_map_or}
use Rattle.units.specs.Stretches.{Span}
use Rattle.authority.specs.declared.answers.End.{End}
use Rattle.authority.specs.Untimed.{IsUntimed}
use Rattle.mode_table.specs.declared.mode.Mode.{Mode}
use Rattle.mode_table.specs.declared.mode.Mode.TheVariants.{FullSupervision}
use Rattle.mode_table.specs.Modes.{is_mode}
use Rattle.track_picture.specs.Still.{SameAhead}
use Rattle.track_picture.specs.StandsFor.{KnownTrack}
use Rattle.track_picture.specs.Sentences.{forgetting_mark}
use Rattle.track_picture.specs.Stores.{Stores}
use Rattle.mode_control.specs.Conditions.{is_beyond, is_beyond_end}
use Rattle.mode_control.specs.History.{mode_of}
use Rattle.mode_control.specs.Life.{Life}
use Rattle.mode_control.specs.Sentences.{span_of}
use Rattle.mode_control.specs.StandsFor.{KnownModes, Knowledge, StandsForLife}
use Rattle.mode_control.specs.Still.{IsStill}
use Rattle.speed_supervision.specs.declared.steady.SteadyLimit.{SteadyLimit}
use Rattle.speed_supervision.specs.Limit.{limit}
use Rattle.speed_supervision.specs.Steady.{IsWithin, IsAbout, IsFor, IsSteady}
use Rattle.speed_supervision.proofs.Lasting.{AreAlike, for_alike, steady_limit}
use Rattle.kernel.specs.Carrying.{IsSteadyAhead, HoldsAt, IsStillAt}

module _ {G S : Type 0} where
  -- two states with the same modes and the same ahead
  pub record IsLeft (one two : Knowledge G S) : Type 0 where
    pub modes : two.parts ≡ record one.parts { done = two.parts.done }
    pub ahead : SameAhead one.track.parts two.track.parts

  pub left_begun : {one two : Knowledge G S} → (two.parts ≡ record one.parts { done = None }) × SameAhead one.track.parts two.track.parts → IsLeft one two
  left_begun {one} kept = record {
    modes = kept.0 ∙ ap (λ d. record one.parts { done = d }) (sym (ap (λ (k : KnownModes). k.done) kept.0));
    ahead = kept.1;
  }

  pub left_ended : {one two three : Knowledge G S} → IsLeft one two → three.parts ≡ two.parts → three.track.parts ≡ two.track.parts → IsLeft one three
  left_ended {one} left parts track = record {
    modes = subst (λ (k : KnownModes). k ≡ record one.parts { done = k.done }) (sym parts) left.modes;
    ahead = subst (λ (k : KnownTrack). SameAhead one.track.parts k) (sym track) left.ahead;
  }

  pub still_left : {one two : Knowledge G S} → IsLeft one two → IsStill one → IsStill two
  still_left left still = record {
    track = record {
      areas = left.ahead.0 ∙ still.track.areas;
      level = left.ahead.1 ∙ still.track.level;
      values = ap (λ n. n.announced) left.ahead.2 ∙ still.track.values;
      untimed = subst IsUntimed (sym left.ahead.3) still.track.untimed;
    };
    on_sight = ap (λ (k : KnownModes). k.on_sight) left.modes ∙ still.on_sight;
    shunting = ap (λ (k : KnownModes). k.shunting) left.modes ∙ still.shunting;
    level_0 = ap (λ (k : KnownModes). k.level_0) left.modes ∙ still.level_0;
  }

  pub placed : (known : Knowledge G S) (life : Life) (still : Option Span) (steady : Option SteadyLimit) → IfSome still (λ here. IsStillAt known steady here life) →
      IfSome still (λ here. (here ≡ span_of life) × HoldsAt steady here)
  placed known life None steady at = tt
  placed known life (Some here) steady at = (at.here, at.holds)

module _ {G S : Type 0} {stores : Stores G S} where
  module _ {one two : Knowledge G S} {life other : Life} (a : StandsForLife stores one life) (b : StandsForLife stores two other) (left : IsLeft one two) where
    pub alike : IsStill one → AreAlike life other
    alike still = record {
      driver = sym (ap (λ (k : KnownModes). k.driver) b.parts_are) ∙ ap (λ (k : KnownModes). k.driver) left.modes ∙ ap (λ (k : KnownModes). k.driver) a.parts_are;
      values = sym (ap (λ (k : KnownTrack). k.national) b.track_is.parts_are) ∙ left.ahead.2 ∙ ap (λ (k : KnownTrack). k.national) a.track_is.parts_are;
      stored = sym (ap (λ (k : KnownTrack). k.authority.stored) a.track_is.parts_are) ∙ sym left.ahead.3 ∙ ap (λ (k : KnownTrack). k.authority.stored) b.track_is.parts_are;
      untimed = subst (λ (k : KnownTrack). IsUntimed k.authority.stored) a.track_is.parts_are still.track.untimed;
    }

    pub mode_left : mode_of other.entries ≡ mode_of life.entries
    mode_left = sym (ap (λ (k : KnownModes). k.mode) b.parts_are) ∙ ap (λ (k : KnownModes). k.mode) left.modes ∙ ap (λ (k : KnownModes). k.mode) a.parts_are

    -- a train is before the end of authority where the steady limit holds
    pub before_end : (still : Option Span) (steady : Option SteadyLimit) (train : Span) → IsSome still → IfSome still (λ here. IsStillAt one steady here life) →
        HoldsAt steady train → IsTrue (is_some steady) → is_beyond_end other train ≡ false
    before_end None steady train some at holds so = absurd (let no : false ≡ true = some in cc)
    before_end (Some here) None train some at holds so = absurd (let no : false ≡ true = so in cc)
    before_end (Some here) (Some s) train some at holds so =
        let is = for_alike (alike at.still) s at.held.1 in
        ap (λ (e : Option End). option_map_or (is_beyond train.min_front) e false) (sym (ap (λ b. b.end) is.bounds)) ∙ holds.before_end

    -- and nothing comes there
    pub stays_still : (still : Option Span) (steady : Option SteadyLimit) (train : Span) → IsSome still → IfSome still (λ here. IsStillAt one steady here life) →
        HoldsAt steady train → train ≡ span_of other → IsStillAt two steady train other
    stays_still None steady train some at holds here = absurd (let no : false ≡ true = some in cc)
    stays_still (Some place) None train some at holds here = record { here = here; still = still_left left at.still; holds = tt; held = tt }
    stays_still (Some place) (Some s) train some at holds here = record {
      here = here;
      still = still_left left at.still;
      holds = holds;
      held = (mode_left ∙ at.held.0, for_alike (alike at.still) s at.held.1);
    }

    pub its_still : (still : Option Span) (steady : Option SteadyLimit) → IsSome still → IfSome still (λ here. IsStillAt one steady here life) → IsStill one
    its_still None steady some at = absurd (let no : false ≡ true = some in cc)
    its_still (Some here) steady some at = at.still

pub same_mode : (mode : Mode) → is_mode mode mode ≡ true
same_mode FullSupervision = refl
same_mode other = refl

-- a train that is there is where that is
pub moved : (train : Option Span) (steady : Option SteadyLimit) {from to : Span} → from ≡ to → IfSome train (λ t. (t ≡ from) × HoldsAt steady t) →
    IfSome train (λ t. (t ≡ to) × HoldsAt steady t)
moved None steady same there = tt
moved (Some t) steady same there = (there.0 ∙ same, there.1)

-- a steady limit ahead is steady where it holds
pub carried_where : (life : Life) (steady : Option SteadyLimit) (train : Span) → train ≡ span_of life → HoldsAt steady train → IfSome steady (λ s. IsSteadyAhead s life) →
    IfSome steady (λ s. IsSteady s life)
carried_where life None train here holds ahead = tt
carried_where life (Some s) train here holds ahead = ahead holds.ordered (subst (λ (t : Span). forgetting_mark t ≤ℤ s.widest.rear) here holds.near)

module _ {G S : Type 0} {stores : Stores G S} where
  -- what stands for two lives in which the train is there is still in both
  pub still_in : {known : Knowledge G S} {life other : Life} → StandsForLife stores known life → StandsForLife stores known other → span_of life ≡ span_of other →
      (still : Option Span) (steady : Option SteadyLimit) → IfSome still (λ here. IsStillAt known steady here life) → IfSome still (λ here. IsStillAt known steady here other)
  still_in a b same None steady at = tt
  still_in a b same (Some here) steady at =
      stays_still a b (record { modes = refl; ahead = (refl, refl, refl, refl) }) (Some here) steady here refl at at.holds (at.here ∙ same)

  module _ {one two : Knowledge G S} {life other : Life} (a : StandsForLife stores one life) (b : StandsForLife stores two other)
      (still : Option Span) (steady : Option SteadyLimit) (at : IfSome still (λ here. IsStillAt one steady here life)) (closes_none : Bool) where
    -- once an input has begun, for a train that is there
    pub when_begun : (train : Option Span) → IfSome train (λ t. (closes_none ≡ true) × IsSome still) → IfSome train (λ t. (t ≡ span_of other) × HoldsAt steady t) →
        (closes_none ≡ true → IsLeft one two) →
        IfSome train (λ t. IsStill two × (t ≡ span_of other) × (IsTrue (is_some steady) → is_beyond_end other t ≡ false))
    when_begun None so there left = tt
    when_begun (Some t) so there left =
        let is = left so.0 in
        (still_left is (its_still a b is still steady so.1 at), there.0, before_end a b is still steady t so.1 at there.1)

    -- .. and once it has ended
    pub when_ended : (train : Option Span) → IsSome train → IfSome train (λ t. (closes_none ≡ true) × IsSome still) →
        IfSome train (λ t. (t ≡ span_of other) × HoldsAt steady t) → (closes_none ≡ true → IsLeft one two) → (closes_none ≡ true → IfSome steady (λ s. IsSteadyAhead s other)) →
        IfSome steady (λ s. IsSteady s other) × IsSome train × IfSome train (λ t. IsStillAt two steady t other)
    when_ended None some so there left ahead = absurd (let no : false ≡ true = some in cc)
    when_ended (Some t) some so there left ahead =
        (carried_where other steady t there.0 there.1 (ahead so.0), some, stays_still a b (left so.0) still steady t so.1 at there.1 there.0)

-- the steady limit is the limit where nothing came
pub limit_passed : {G S : Type 0} (known : Knowledge G S) (life : Life) (still : Option Span) (steady : Option SteadyLimit) (s : SteadyLimit) → steady ≡ Some s →
    IfSome steady (λ s. IsSteady s life) → IsSome still → IfSome still (λ train. IsStillAt known steady train life) → s.limit ≡ limit life
limit_passed known life None steady s is lasts some at = absurd (let no : false ≡ true = some in cc)
limit_passed known life (Some train) steady s is lasts some at =
    let held = subst (λ o. IfSome o (λ s. (mode_of life.entries ≡ FullSupervision) × IsFor s life)) is at.held in
    let holds = subst (λ o. IfSome o (λ s. IsAbout s train)) is at.holds in
    steady_limit s life held.0 held.1 (subst (λ o. IfSome o (λ s. IsSteady s life)) is lasts) (subst (λ (t : Span). IsWithin s t) at.here holds.within)
