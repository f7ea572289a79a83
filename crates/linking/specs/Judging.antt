-- What becomes of a balise group that was read, or of a broken one (SUBSET-026, 3.4.4 and 3.16.2; the order of the rows:
-- this project's profile). Places are centimetres. Lists of entries have the newest first; lists of announcements are in
-- the order of packet 5, and their numbers rise. A reader may take for granted that the place of a group is that of the
-- front when the group's balise was read, and that what is known of linking holds all that the life brought before this
-- group.
use Rattle.std.specs.Prelude.{ℕ, ℤ, ◌+ℤ◌, int_lt, Bool, true, false, not, ◌==◌, ◌&&◌, nat_lt, if◌then◌else◌, Option, Some, None, List, [], ◌∷◌, filter, find}
use Rattle.std.specs.Option.{option_map_or}
use Rattle.vars.specs.declared.group.GroupIdentity.{GroupIdentity}
use Rattle.vars.specs.declared.linking.LinkOrientation.{LinkOrientation}
use Rattle.vars.specs.declared.linking.LinkOrientation.TheVariants.{Reverse, Nominal}
use Rattle.linking.specs.declared.announcement.Announcement.{Announcement}
use Rattle.linking.specs.declared.effect.Effect.{Effect}
use Rattle.linking.specs.declared.judgement.GroupRead.{GroupRead}
use Rattle.linking.specs.declared.judgement.Judgement.{Judgement}
use Rattle.linking.specs.declared.judgement.Verdict.{Verdict}
use Rattle.linking.specs.declared.judgement.Verdict.TheVariants.{Accept, Ignore, Reaction}
use Rattle.linking.specs.Linking.{LinkEntry, KnownLinks, is_any, first_place, no_effect, trip, service, effect_of, misses}
use Rattle.linking.specs.Linking.LinkEntry.{Accepted, Reacted}

-- of several announcements of one group the first in the list is meant
abbrev pub is_of : GroupIdentity → Announcement → Bool
is_of group a = (a.group.country == group.country) && (a.group.number == group.number)

abbrev pub first_of : GroupIdentity → List Announcement → Option Announcement
first_of group announcements = find (is_of group) announcements

-- ---- a group that was read

-- the maximum safe front at its reading
abbrev pub max_front : GroupRead → ℤ
max_front group = group.place.estimate +ℤ group.place.uncertainty

-- it lies before the place where the group is announced
abbrev pub is_too_early : GroupRead → Announcement → Bool
is_too_early group a = int_lt (max_front group) (first_place a)

abbrev pub is_other : LinkOrientation → LinkOrientation → Bool
is_other Reverse Reverse = false
is_other Reverse Nominal = true
is_other Nominal Reverse = true
is_other Nominal Nominal = false

-- a direction in which a group was passed is known and isn't the announced one
abbrev pub is_passed_wrongly : Option LinkOrientation → Announcement → Bool
is_passed_wrongly direction a = option_map_or (is_other a.direction) direction false

abbrev pub is_wrong_way : GroupRead → Announcement → Bool
is_wrong_way group a = is_passed_wrongly group.direction a

-- ---- the judgement: what becomes of a group and what linking asks for, by the first row that holds, and else by what
-- stands after the rows

pub record Row : Type 0 where
  pub holds : Bool
  pub verdict : Verdict
  pub asks_for : Effect

abbrev pub row : Bool → Verdict → Effect → Row
row holds verdict asks_for = record { holds = holds; verdict = verdict; asks_for = asks_for }

abbrev pub judged : Verdict → Effect → Judgement
judged verdict asks_for = record { verdict = verdict; effect = asks_for }

abbrev pub first_that_holds : List Row → Judgement → Judgement
first_that_holds [] otherwise = otherwise
first_that_holds (row ∷ later) otherwise =
    if row.holds then judged row.verdict row.asks_for else first_that_holds later otherwise

-- an accepted group passes the announcements before its own, which are missed
abbrev pub is_before : ℕ → Announcement → Bool
is_before number a = nat_lt a.number number

abbrev pub misses_before : KnownLinks → Announcement → Effect
misses_before known a = misses known.has_missed (filter (is_before a.number) known.left)

-- of a linked group while others are announced, by the announcement that is meant, if there is one; the wrong direction
-- gives a trip alone, whatever the announcement's own reaction is (3.16.2.3)
abbrev pub judged_by : KnownLinks → GroupRead → Option Announcement → Judgement
judged_by known group None = judged Ignore no_effect  -- 3.4.4
judged_by known group (Some a) = first_that_holds (
    row (is_wrong_way group a) (Reaction a) trip  -- 3.16.2.3
    ∷ row (is_too_early group a) (Reaction a) (effect_of a.reaction)  -- 3.16.2
    ∷ [])
    (judged (Accept (Some a)) (misses_before known a))

abbrev pub is_unlinked : GroupRead → Bool
is_unlinked group = not group.linked

-- no announcement is left
abbrev pub linking_is_unused : KnownLinks → Bool
linking_is_unused known = not (is_any known.left)

abbrev pub judgement : KnownLinks → GroupRead → Judgement
judgement known group = first_that_holds (
    row (is_unlinked group) (Accept None) no_effect  -- 3.4.4
    ∷ row (linking_is_unused known) (Accept None) no_effect  -- 3.4.4
    ∷ [])
    (judged_by known group (first_of group.group known.left))

-- ---- what becomes of the announcements

abbrev pub after_verdict : Verdict → List LinkEntry → List LinkEntry
after_verdict (Accept None) entries = entries
after_verdict (Accept (Some a)) entries = Accepted a.number ∷ entries
after_verdict Ignore entries = entries
after_verdict (Reaction a) entries = Reacted a.number ∷ entries

abbrev pub after_judgement : Judgement → List LinkEntry → List LinkEntry
after_judgement judgement entries = after_verdict judgement.verdict entries

-- ---- a broken group

-- the announcement that a linked group takes with it
abbrev pub meant : KnownLinks → GroupIdentity → Bool → Option Announcement
meant known group linked = if linked then first_of group known.left else None

-- one that isn't linked gives service, an announced one its own reaction
abbrev pub broken_effect : KnownLinks → GroupIdentity → Bool → Effect
broken_effect known group linked =
    if linked then option_map_or (λ a. effect_of a.reaction) (first_of group known.left) no_effect else service

abbrev pub after_broken : KnownLinks → GroupIdentity → Bool → List LinkEntry → List LinkEntry
after_broken known group linked entries = option_map_or (λ a. Reacted a.number ∷ entries) (meant known group linked) entries
