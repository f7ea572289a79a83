-- The balise groups that a list of links announces (packet 5: SUBSET-026, 7.4.2.2 and 3.4.4). Places are centimetres.
use Rattle.std.specs.Prelude.{ℕ, ◌*◌, ℤ, pos, ◌+ℤ◌, unwrap_or, List, [], ◌∷◌}
use Rattle.vars.specs.declared.group.GroupIdentity.{GroupIdentity}
use Rattle.vars.specs.declared.scale.Scale.{Scale}
use Rattle.vars.specs.Meanings.{centimetres_of}
use Rattle.packets.specs.declared.linking.Link.{Link}
use Rattle.packets.specs.declared.linking.Linking.{Linking}
use Rattle.linking.specs.declared.announcement.Announcement.{Announcement}

-- a distance counts from the group announced before; a country that isn't given is the one before
abbrev pub announced : Scale → ℤ → ℕ → Link → Announcement
announced scale place country link =
    record {
      number = 0;
      group = record { country = unwrap_or link.country country; number = link.group };
      place = place +ℤ pos (link.distance * centimetres_of scale);
      accuracy = link.accuracy;
      direction = link.orientation;
      reaction = link.reaction;
    }

-- those after a place and a country; linking numbers them
abbrev pub announced_from : Scale → ℤ → ℕ → List Link → List Announcement
announced_from scale place country [] = []
announced_from scale place country (link ∷ links) =
    let a = announced scale place country link in
    a ∷ announced_from scale a.place a.group.country links

-- the first distance counts from the place of the group of the list, and the first country is its own
abbrev pub announcements_of : GroupIdentity → ℤ → Linking → List Announcement
announcements_of group place p = announced_from p.scale place group.country p.links.items
