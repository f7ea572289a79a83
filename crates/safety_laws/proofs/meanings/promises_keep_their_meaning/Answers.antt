use Rattle.std.proofs.Common.{◌≡◌, ℕ, List, [], ◌∷◌, ◌++◌, ◌⊎◌, refl, inl, inr, subst}
use Rattle.disk.specs.State.{Platter, State, IsImage}
use Rattle.events.specs.declared.input.Event.{Event}
use Rattle.events.specs.declared.input.Event.TheVariants.{PowerUp}
use Rattle.onboard.specs.declared.released.Released.{Released}
use Rattle.unit_start.specs.Events.{pairs_of}
use Rattle.unit_start.specs.Lives.{IsReady}
use Rattle.whole_lives.specs.Chains.{OneLife, AllStand}
use Rattle.safety_laws.specs.Meanings.{MayBeLeft}
use Rattle.safety_laws.proofs.meanings.promises_keep_their_meaning.Goals as goal

image_of : (medium : Platter) (image : ℕ → List ℕ) → MayBeLeft medium image → IsImage medium image
image_of medium image left = record { shut = left.shut; whole = left.whole }

pub returns-clause-images : goal.returns-clause-images
returns-clause-images c medium image = (image_of medium image, λ is. record { shut = is.shut; whole = is.whole })

pub returns-clause-ready : goal.returns-clause-ready
returns-clause-ready c whole_from durable accepted disk ready =
    ((ready.more, ready.begins), λ image left. ready.each image (image_of (disk.at disk.clock) image left))

pub returns-clause-moments : goal.returns-clause-moments
returns-clause-moments c old new passes so moment from to image left = so.each moment from to image (image_of (new.at moment) image left)

-- of two pairs of lists for which a disk may be ready
one_of : (whole_from : ℕ) (disk : State) (durable accepted found with_cold next_durable next_accepted : List Event) →
    IsReady whole_from next_durable next_accepted disk →
    ((next_durable ≡ durable) × (next_accepted ≡ accepted)) ⊎ ((next_durable ≡ found) × (next_accepted ≡ with_cold)) →
    IsReady whole_from durable accepted disk ⊎ IsReady whole_from found with_cold disk
one_of whole_from disk durable accepted found with_cold next_durable next_accepted ready which =
    let R : List Event → List Event → Type 0 = λ d a. IsReady whole_from d a disk in
    elim which [
      | inl halves ↦ inl (subst (λ (d : List Event). R d accepted) halves.0 (subst (λ (a : List Event). R next_durable a) halves.1 ready))
      | inr halves ↦ inr (subst (λ (d : List Event). R d with_cold) halves.0 (subst (λ (a : List Event). R next_durable a) halves.1 ready))
    ]

pub returns-clause-opening : goal.returns-clause-opening
returns-clause-opening c whole_from durable accepted found cold recorded_cold old new opens = (
  opens.found_is,
  opens.found_on_disk,
  λ moment from to image left. opens.at_each_moment.each moment from to image (image_of (new.at moment) image left),
  one_of whole_from new durable accepted found (PowerUp recorded_cold ∷ found) opens.durable_at_end opens.accepted_at_end opens.ready_at_end opens.which,
)

pub returns-clause-recorded_cold : goal.returns-clause-recorded_cold
returns-clause-recorded_cold c slots image cold recorded_cold is = (
  λ none. is.blank (slots, refl, none),
  λ newest block some greatest there. is.last block
      (record { slots = slots; newest = newest; size = refl; some = some; greatest = greatest; there = there }),
)

pub returns-clause-life : goal.returns-clause-life
returns-clause-life c whole_from durable accepted found cold recorded_cold steps old new out_before out_after life = (
  life.found_is,
  life.out_is,
  λ moment from to image left. elim (life.at_each_moment.each moment from to image (image_of (new.at moment) image left)) [
    | inl (inl is) ↦ (durable, is, inl refl)
    | inl (inr is) ↦ (accepted, is, inr (inl refl))
    | inr run ↦ (run.0, run.2, inr (inr run.1))
  ],
)

pub returns-clause-left : goal.returns-clause-left
returns-clause-left c old new = (
  inr refl,
  λ next moment from to left synced sectors. inl (record {
    moment = moment;
    from = from;
    to = to;
    image = image_of (new.at moment) (next.at next.clock).contents left;
    synced = synced;
    sectors = sectors;
  }),
)

pub returns-clause-flushed : goal.returns-clause-flushed
returns-clause-flushed c events one other = (refl, refl)

pub returns-clause-outputs : goal.returns-clause-outputs
returns-clause-outputs c events event = refl

pub returns-clause-kept : goal.returns-clause-kept
returns-clause-kept c whole_from durable accepted found recorded_cold steps taken count old new durable_at_end accepted_at_end released opened most =
    let so = opened.reached count most in (
      so.moment,
      so.released_by_then,
      so.released_later,
      so.released_parts,
      so.released_is,
      so.to,
      λ k from to image left. (let held = so.since k from to image (image_of (new.at k) image left) in (held.0, (held.3, held.4), held.2)),
    )

stands : (events : List Event) (earlier later : List OneLife) (life : OneLife) (pair : Released) (before after : List Released)
    → AllStand events (earlier ++ life ∷ later) → life.released_by_then ≡ before ++ pair ∷ after
    → (front : List Released) × (back : List Released) × (pairs_of events ≡ front ++ pair ∷ back)
stands events [] later life pair before after all is = all.0 pair (before, after, is)
stands events (first ∷ earlier) later life pair before after all is = stands events earlier later life pair before after all.1 is

pub returns-clause-stands : goal.returns-clause-stands
returns-clause-stands c = stands

pub returns-clause-follow : goal.returns-clause-follow
returns-clause-follow c life lives last = (refl, λ others. (refl, others))

pub returns-clause-left_with : goal.returns-clause-left_with
returns-clause-left_with c whole_from durable accepted found recorded_cold steps first_steps old new next released =
    (inr (refl, refl), λ cut so before. inl (cut, inr (first_steps, so, before, refl)))
