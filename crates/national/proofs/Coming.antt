-- Some country is in force exactly once a packet 3 came into force.
use Rattle.std.proofs.Common.{◌≡◌, ℕ, ℤ, List, [], ◌∷◌, ◌++◌, Bool, true, false, refl}
use Rattle.std.specs.Prelude.{Option, Some, None, not, ◌||◌, if◌then◌else◌}
use Rattle.national.specs.Values.{ValuesFor, values_for, defaults, reported_by, is_any, is_among}
use Rattle.national.specs.InForce.{NationalEntry, Fact, in_force, has_come, nothing_kept, waiting, in_force_after, comes_by, is_reached, start_of}
use Rattle.national.specs.InForce.NationalEntry.{Announced, Entered, Reached}

any_after : (countries : List ℕ) (country : ℕ) → is_any (countries ++ country ∷ []) ≡ true
any_after [] country = refl
any_after (other ∷ countries) country = refl

-- a group leaves it as it is whether there is some country
any_after_group : (country : ℕ) (before : ValuesFor) (any : Bool) → is_any before.countries ≡ any →
    is_any (in_force_after (Entered country) None before).countries ≡ any
any_after_group country before false e = rw e e
any_after_group country before true e =
    let cases : (among : Bool) → is_any (if not among then values_for defaults (country ∷ []) else before).countries ≡ true =
    elim [ true ↦ e | false ↦ refl ] in
    rw e (cases (is_among country before.countries))

-- a look that puts a packet 3 in force leaves some
any_after_look : (max_front : ℤ) (waits : Option Fact) (before : ValuesFor) (any : Bool) → is_any before.countries ≡ any →
    is_any (in_force_after (Reached max_front) waits before).countries ≡ (comes_by (Reached max_front) waits || any)
any_after_look max_front None before any e = e
any_after_look max_front (Some fact) before any e =
    let cases : (reached : Bool) → is_any (if reached then reported_by fact.packet fact.country else before).countries ≡ (reached || any) =
    elim [ true ↦ any_after fact.packet.countries.items fact.country | false ↦ e ] in
    cases (is_reached (start_of fact) max_front)

pub any_in_force : (entries : List NationalEntry) → is_any (in_force nothing_kept entries).countries ≡ has_come entries
any_in_force [] = refl
any_in_force (Announced fact ∷ entries) = any_in_force entries
any_in_force (Entered country ∷ entries) = any_after_group country (in_force nothing_kept entries) (has_come entries) (any_in_force entries)
any_in_force (Reached max_front ∷ entries) =
    any_after_look max_front (waiting entries) (in_force nothing_kept entries) (has_come entries) (any_in_force entries)
