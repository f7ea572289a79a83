-- What is known represents a life (this project's profile). Places are centimetres, moments milliseconds.
use Rattle.std.specs.Prelude.{◌≡◌, ℕ, ◌+◌, min, Bool, Option, List, ◌∷◌}
use Rattle.areas.specs.declared.announcement.Announcement.{Announcement as AnnouncedLevel}
use Rattle.areas.specs.declared.area.Area.{Area}
use Rattle.authority.specs.Known.{KnownAuthority as Authority}
use Rattle.balise_groups.specs.Groups as groups
use Rattle.linking.specs.Linking as linking
use Rattle.national.specs.InForce as national
use Rattle.national.specs.Values.{ValuesFor}
use Rattle.odometry.specs.Place as odometry
use Rattle.track_store.specs.Restrictions as track
use Rattle.vars.specs.declared.group.GroupIdentity.{GroupIdentity}
use Rattle.track_picture.specs.declared.happened.Happened.{Happened}
use Rattle.track_picture.specs.Entry.{TrackEntry, InputEffect, Used, blank}
use Rattle.track_picture.specs.History.{place_of, group_of_fix, speed_of, groups_of, links_of, restrictions_of, moment_of, authority_of, areas_of, announced_level, gradients_of, speeds_of, happened_of, is_stopped}
use Rattle.track_picture.specs.Happenings.{happenings}
use Rattle.track_picture.specs.Parts.{national_in}
use Rattle.track_picture.specs.Stores.{Stores}

-- the national values that were kept as the life began, and what its events brought, the newest first
pub record Life : Type 0 where
  pub kept : ValuesFor
  pub entries : List TrackEntry

abbrev pub national_of : Life → national.KnownValues
national_of life = national_in life.kept (happenings life.entries)

-- what each part knows but for the restrictions and the profiles of the track
pub record KnownTrack : Type 0 where
  pub place : odometry.KnownPlace
  pub group : Option GroupIdentity
  pub speed : ℕ
  pub groups : groups.KnownGroups
  pub links : linking.KnownLinks
  pub national : national.KnownValues
  pub moment : ℕ
  pub authority : Authority
  pub areas : List Area
  pub level : Option AnnouncedLevel
  pub happened : Happened
  pub stopped : Bool

-- .. and what grows with what the track says, as its stores keep it: restrictions and profiles
pub record Knowledge (G S : Type 0) : Type 0 where
  pub parts : KnownTrack
  pub restrictions : track.Held
  pub gradients : G
  pub speeds : S

-- what the parts know of a life
abbrev pub parts_of : Life → KnownTrack
parts_of life =
    record {
      place = place_of life.entries;
      group = group_of_fix life.entries;
      speed = speed_of life.entries;
      groups = groups_of life.entries;
      links = links_of life.entries;
      national = national_of life;
      moment = moment_of life.entries;
      authority = authority_of life.entries;
      areas = areas_of life.entries;
      level = announced_level life.entries;
      happened = happened_of life.entries;
      stopped = is_stopped life.entries;
    }

-- It represents a life; what the two stores give is read off them so.
pub record StandsForLife {G S : Type 0} (stores : Stores G S) (known : Knowledge G S) (life : Life) : Type 0 where
  pub parts_are : known.parts ≡ parts_of life
  pub restrictions_are : known.restrictions.track ≡ restrictions_of life.entries
  pub gradients_are : stores.gradients known.gradients ≡ gradients_of life.entries
  pub speeds_are : stores.speeds known.speeds ≡ speeds_of life.entries

-- for how many packets there is space in all of them
abbrev pub space_in : {G S : Type 0} → Stores G S → Knowledge G S → ℕ
space_in stores known =
    min known.restrictions.space (min (stores.gradients_space known.gradients) (stores.speeds_space known.speeds))

-- how many restrictions and pieces of profiles it keeps or has space for
abbrev pub size_in : {G S : Type 0} → Stores G S → Knowledge G S → ℕ
size_in stores known =
    track.size_of known.restrictions + (stores.gradients_size known.gradients + stores.speeds_size known.speeds)

-- the restrictions and profiles are the same, with their space
pub record SameTrack {G S : Type 0} (old new : Knowledge G S) : Type 0 where
  pub restrictions_same : new.restrictions ≡ old.restrictions
  pub gradients_same : new.gradients ≡ old.gradients
  pub speeds_same : new.speeds ≡ old.speeds

-- a life with one entry more
abbrev pub grown : Life → TrackEntry → Life
grown life entry = record life { entries = entry ∷ life.entries }

-- .. up to the groups that closed
abbrev pub grown_so_far : Life → InputEffect → Used → Life
grown_so_far life initial used = grown life (record blank { initial = initial; used = used })
