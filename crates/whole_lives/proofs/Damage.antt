-- What damage to other slots than that of the newest block leaves.
use Rattle.std.proofs.Common.{ℕ, sym, ◌∙◌, subst, refl}
use Rattle.disk.specs.State.{contents_of}
use Rattle.ring.specs.Slots.{valid_at, Stands, IsBlockAt}
use Rattle.ring.proofs.Numbers.{same_newest}
use Rattle.ring.proofs.Rest.{newest_block}
use Rattle.ring.proofs.Enough.{newest_is_enough}
use Rattle.unit_start.specs.Events.{account_of}
use Rattle.whole_lives.specs.Laws.{OutlivesDamage}
use Rattle.unit_start.proofs.Greatest.{same_slots}
use Rattle.unit_start.proofs.Opening.{ready_after}

pub outlives_damage : OutlivesDamage
outlives_damage whole_from slots newest events image disk two some describes greatest formatted synced still same =
    let other = contents_of disk in
    let reported = account_of whole_from events in
    let S : ℕ → Type 0 = λ n. Stands n (valid_at n image) describes.newest reported in
    let ring = subst S (same_slots disk.sectors describes.slots slots describes.formatted.size formatted.size) describes.ring in
    let number = same_newest slots (valid_at slots image) describes.newest newest reported two ring greatest in
    let N : ℕ → Type 0 = λ n. Stands slots (valid_at slots image) n reported in
    let last = newest_block slots newest reported image two some (subst N (sym number) ring) in
    let there : IsBlockAt slots (valid_at slots other) newest last.1 = (last.0, same ∙ last.2, last.3, last.4) in
    ready_after newest disk.sectors events disk refl synced (newest_is_enough disk.sectors slots newest other reported last.1 two formatted still there last.5 last.6)
