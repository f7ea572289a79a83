use Rattle.std.proofs.Common.{ℕ, sym, subst}
use Rattle.ring.specs.Slots.{valid_at, Stands}
use Rattle.ring.proofs.Numbers.{same_newest}
use Rattle.unit_start.specs.Events.{account_of}
use Rattle.unit_start.proofs.Greatest.{same_slots}
use Rattle.whole_lives.proofs.laws.images_are_endless.Goals as goal

pub returns : goal.returns
returns c = λ whole_from sectors slots first newest events image two size describes scanned.
    let valids = valid_at slots image in
    let S : ℕ → Type 0 = λ n. Stands n (valid_at n image) describes.newest (account_of whole_from events) in
    let ring = subst S (same_slots sectors describes.slots slots describes.formatted.size size) describes.ring in
    let same = same_newest slots valids describes.newest newest (account_of whole_from events) two ring scanned.greatest in
    let N : ℕ → Type 0 = λ n. Stands slots valids n (account_of whole_from events) in
    c.ring_is_endless.ensures slots first newest valids (account_of whole_from events) two (subst N (sym same) ring) scanned.run
