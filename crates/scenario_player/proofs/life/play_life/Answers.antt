use Rattle.std.proofs.Common.{rules, ◌≡◌, ⊎_elim, List, [], refl, subst}
use Rattle.disk.specs.Memory.{memory_state}
use Rattle.events.specs.declared.input.Event.{Event}
use Rattle.unit_start.specs.Releases.{Release}
use Rattle.scenario_player.proofs.Living.{ready, IsLived, played, played_after}
use Rattle.scenario_player.proofs.life.play_life.Goals as goal

pub returns-clause-first : goal.returns-clause-first
returns-clause-first c slots two empty =
    let old = memory_state c.args.disk in
    let new = memory_state c.live-disk.result.0 in
    let out : List Release = c.live-disk.new.out.items in
    let life = c.live-disk.ensures.life 0 [] [] refl (ready slots two old empty) in
    let none : life.0 ≡ [] = ⊎_elim (λ (e : life.0 ≡ []). e) (λ (e : life.0 ≡ []). e) life.2.found_is in
    let I : List Release → List Event → Type 0 = λ before found. IsLived [] [] c.args.cold c.args.steps.now old new c.live-disk.result.1 out before found in
    let lived : I c.new-released.result.items life.0 = (life.1, life.2, life.3, life.5) in
    played slots two c.args.cold c.args.steps.now old new c.live-disk.result.1 out
    refl empty (search rules) c.live-disk.ensures.stopped c.live-disk.ensures.counted.sectors
    (subst (λ (found : List Event). I [] found) none (subst (λ (before : List Release). I before life.0) c.new-released.ensures.items lived))

pub returns-clause-after : goal.returns-clause-after
returns-clause-after c durable accepted is_ready =
    let old = memory_state c.args.disk in
    let new = memory_state c.live-disk.result.0 in
    let out : List Release = c.live-disk.new.out.items in
    let life = c.live-disk.ensures.life 0 durable accepted refl is_ready in
    let I : List Release → Type 0 = λ before. IsLived durable accepted c.args.cold c.args.steps.now old new c.live-disk.result.1 out before life.0 in
    let lived : I c.new-released.result.items = (life.1, life.2, life.3, life.5) in
    played_after durable accepted life.0 c.args.cold c.args.steps.now old new c.live-disk.result.1 out
    refl (search rules) c.live-disk.ensures.stopped c.live-disk.ensures.counted.sectors
    (subst I c.new-released.ensures.items lived)
