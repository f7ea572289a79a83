-- A movement: what stands for the life after it, before the group is used that it closes, and where it closes none.
use Rattle.std.proofs.Common.{◌≡◌, [], ◌∷◌, Option, None, sym, subst}
use Rattle.balise_groups.specs.declared.message.Closed.{Closed}
use Rattle.events.specs.declared.input.Reading.{Reading}
use Rattle.mode_table.specs.declared.mode.Mode.{Mode}
use Rattle.track_picture.specs.Columns.{StandsForColumns, moved, happened_by, left_by, after_moving, known_moved}
use Rattle.track_picture.specs.Happenings.{happenings}
use Rattle.track_picture.specs.Live.{Happening}
use Rattle.track_picture.specs.Sentences.{with_closed, with_groups}
use Rattle.track_picture.specs.StandsFor.{KnownTrack, Knowledge, Life, grown_so_far}
use Rattle.track_picture.specs.Stores.{Stores}
use Rattle.track_picture.proofs.Standing.{reported_as}
use Rattle.track_picture.proofs.Description.{reported_missed}

-- where no group is left, none is used
pub none_left : (mode : Mode) (life : Life) (reading : Reading) → left_by life.entries reading ≡ None →
    (with_groups mode life.entries (moved life.entries reading) (happened_by life.entries reading)).groups ≡ []
none_left mode life reading none = λ i. (with_closed mode life.entries (moved life.entries reading) (none i) (after_moving life.entries reading)).groups

module _ {G S : Type 0} {stores : Stores G S} {known : Knowledge G S} {parts : KnownTrack} where
  pub moved_only : (life : Life) (reading : Reading) → parts ≡ known_moved life reading → StandsForColumns stores known life →
      StandsForColumns stores (record known { parts = parts }) (grown_so_far life (moved life.entries reading) (after_moving life.entries reading))
  moved_only life reading is s =
      reported_as (sym (reported_missed (moved life.entries reading).missed (Happening.Moved reading.movement ∷ happenings life.entries))) (record {
        parts_are = is;
        restrictions_are = s.restrictions_are;
        gradients_are = s.gradients_are;
        speeds_are = s.speeds_are;
      })

  pub only_moved : (mode : Mode) (life : Life) (reading : Reading) → parts ≡ known_moved life reading → left_by life.entries reading ≡ None →
      StandsForColumns stores known life → StandsForColumns stores (record known { parts = parts })
      (grown_so_far life (moved life.entries reading) (with_groups mode life.entries (moved life.entries reading) (happened_by life.entries reading)))
  only_moved mode life reading is none s =
      subst (λ (ended : Option Closed). StandsForColumns stores (record known { parts = parts }) (grown_so_far life (moved life.entries reading)
      (with_closed mode life.entries (moved life.entries reading) ended (after_moving life.entries reading))))
      (sym none) (moved_only life reading is s)
