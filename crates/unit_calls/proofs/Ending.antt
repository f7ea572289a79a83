-- A power-up wants few sectors.
use Rattle.std.proofs.Common.{◌≡◌, ℕ, ◌+◌, ◌*◌, ◌<◌, ◌≤◌, List, [], ◌∷◌, length, Option, Some, sym, ◌∙◌, ap, subst, arith}
use Rattle.std.specs.Prelude.{unwrap_or}
use Rattle.mode_table.specs.declared.statuses.Cold.{Cold}
use Rattle.relayed_unit.specs.Openings.{Opening, initial, slots_in, still_needed, IsWanted}
use Rattle.unit_calls.specs.Endings.{AreWanted, WantsFew}

-- the sector that is reported is the one that is wanted
wanted_so : (o : Opening) (s : ℕ) → ((t : ℕ) × IsWanted o t) → o.disk.wanted ≡ Some s → IsWanted o s
wanted_so o s one is =
    let same : one.0 ≡ s = ap (λ (w : Option ℕ). unwrap_or w 0) (sym one.1.reported ∙ is) in
    subst (λ (n : ℕ). IsWanted o n) same one.1

-- each of them is one of those that are still needed
wants_few : (wanted : List ℕ) (first last : Opening) → AreWanted wanted first last → length wanted ≤ still_needed first
wants_few [] first last are = omega arith
wants_few (s ∷ more) first last (it, bytes, next, gone, is, given, rest) =
    let most : still_needed it ≤ still_needed first = gone.nearer.1 in
    let fewer : still_needed next < still_needed it = given.nearer (wanted_so it s gone.wanted is) in
    let few = wants_few more next last rest in
    omega (arith, most, fewer, few)

initial_needs : (medium : List ℕ) (sectors : ℕ) (cold : Cold) → still_needed (initial medium sectors cold) ≡ 1 + 2 * slots_in sectors + 7
initial_needs medium sectors cold = omega arith

pub power_up_ends : WantsFew
power_up_ends medium wanted sectors cold last are =
    let few = wants_few wanted (initial medium sectors cold) last are in
    let all = initial_needs medium sectors cold in
    omega (arith, few, all)
