-- The end never moves forward.
use Rattle.std.proofs.Common.{◌≡◌, ℕ, ◌≤◌, ℤ, ◌≤ℤ◌, List, [], ◌∷◌, ◌++◌, Bool, true, false, refl, ap, sym, subst, arith, ◌∙◌}
use Rattle.std.specs.Prelude.{not, ◌&&◌, ◌||◌, Option, Some, None, option_map}
use Rattle.std.specs.Option.{option_or}
use Rattle.std.proofs.lemmas.Int.{ints}
use Rattle.std.proofs.lemmas.Bool.{and_parts, and_from, not-true, not_from_false}
use Rattle.std.proofs.lemmas.Bool.Decides.{nat_tests}
use Rattle.vars.specs.declared.scale.Scale.{Scale}
use Rattle.packets.specs.declared.authority.EndTimer.{EndTimer}
use Rattle.authority.specs.declared.answers.End.{End}
use Rattle.authority.specs.declared.timers.TimedSection.{TimedSection}
use Rattle.authority.specs.Timers.{has_run_out, started_has_run_out}
use Rattle.authority.specs.Entries.{AuthorityEntry, Fact, Sight, now_of, accepted, sights, IsInOrder}
use Rattle.authority.specs.Entries.AuthorityEntry.{Ticked, Accepted, Passed, Cleared}
use Rattle.authority.specs.Track.{reported_end}
use Rattle.authority.specs.Authority.{reaches, was_stopped, section_has_run_out, started_before, end_timer_has_run_out, end_now, end_of}
use Rattle.authority.specs.Laws.{KeepsAuthority}
use Rattle.authority.proofs.Places.{now_sooner}

-- ---- what has run out has run out later

over_later : (time start now later : ℕ) → now ≤ later → has_run_out time start now ≡ true → has_run_out time start later ≡ true
over_later time start now later o h = grind (arith, nat_tests)

pub section_later : (start now later : ℕ) (seen : List Sight) (section : TimedSection) → now ≤ later →
    section_has_run_out start now seen section ≡ true → section_has_run_out start later seen section ≡ true
section_later start now later seen section o h =
    let parts = and_parts (has_run_out section.time start now) (not (was_stopped start seen section)) h in
    and_from (has_run_out section.time start later) (not (was_stopped start seen section)) (over_later section.time start now later o parts.0) parts.1

stopped_no_more : (a b c : Bool) → b ≡ true → c ≡ false → ((a && not b) || c) ≡ false
stopped_no_more true b c e f = rw (e, f) refl
stopped_no_more false b c e f = f

pub section_seen : (start : ℕ) (sight : Sight) (seen : List Sight) (section : TimedSection) →
    section_has_run_out start sight.moment seen section ≡ true → section_has_run_out start sight.moment (sight ∷ seen) section ≡ true
section_seen start sight seen section h =
    let parts = and_parts (has_run_out section.time start sight.moment) (not (was_stopped start seen section)) h in
    let same : was_stopped start (sight ∷ seen) section ≡ false =
    stopped_no_more (reaches sight.train.min_front section.stop_at) (has_run_out section.time start sight.moment) (was_stopped start seen section) parts.0 (not-true _ parts.1) in
    and_from (has_run_out section.time start sight.moment) (not (was_stopped start (sight ∷ seen) section)) parts.0 (not_from_false _ same)

started_later : (time now later : ℕ) (started : Option ℕ) → now ≤ later → started_has_run_out time started now ≡ true → started_has_run_out time started later ≡ true
started_later time now later None o h = h
started_later time now later (Some start) o h = over_later time start now later o h

pub timer_later : (end : ℤ) (scale : Scale) (now later : ℕ) (seen : List Sight) (timer : Option EndTimer) → now ≤ later →
    end_timer_has_run_out end scale now seen timer ≡ true → end_timer_has_run_out end scale later seen timer ≡ true
timer_later end scale now later seen None o h = h
timer_later end scale now later seen (Some timer) o h = started_later timer.time now later (started_before end scale timer.start seen) o h

started_kept : (time now : ℕ) (before more : Option ℕ) → started_has_run_out time before now ≡ true → started_has_run_out time (option_or before more) now ≡ true
started_kept time now None more h = absurd (cc)
started_kept time now (Some start) more h = h

pub timer_seen : (end : ℤ) (scale : Scale) (now : ℕ) (sight : Sight) (seen : List Sight) (timer : Option EndTimer) →
    end_timer_has_run_out end scale now seen timer ≡ true → end_timer_has_run_out end scale now (sight ∷ seen) timer ≡ true
timer_seen end scale now sight seen None h = h
timer_seen end scale now sight seen (Some timer) h = started_kept timer.time now (started_before end scale timer.start seen) _ h

-- ---- the end

same_authority : (later entries : List AuthorityEntry) → KeepsAuthority later → accepted (later ++ entries) ≡ accepted entries
same_authority [] entries k = refl
same_authority (Ticked moment ∷ later) entries k = same_authority later entries k
same_authority (Accepted fact ∷ later) entries k = absurd k
same_authority (Passed train ∷ later) entries k = same_authority later entries k
same_authority (Cleared ∷ later) entries k = absurd k

abbrev end_at : Fact → List AuthorityEntry → ℤ
end_at fact entries = (end_now fact (now_of entries) (sights entries)).place

no_farther : (fact : Fact) (later entries : List AuthorityEntry) → KeepsAuthority later → IsInOrder (later ++ entries) → end_at fact (later ++ entries) ≤ℤ end_at fact entries
no_farther fact [] entries k o = omega (arith, ints)
no_farther fact (Ticked moment ∷ later) entries k o =
    let before = later ++ entries in
    let rest = no_farther fact later entries k o.1 in
    let step = now_sooner fact (now_of before) moment (sights before) (sights before)
    (λ s h. section_later fact.moment (now_of before) moment (sights before) s o.0 h)
    (λ h. timer_later (reported_end fact) fact.packet.scale (now_of before) moment (sights before) fact.packet.end_timer o.0 h) in
    omega (arith, ints, rest, step)
no_farther fact (Accepted f ∷ later) entries k o = absurd k
no_farther fact (Passed train ∷ later) entries k o =
    let before = later ++ entries in
    let sight : Sight = record { moment = now_of before; train = train } in
    let rest = no_farther fact later entries k o.1 in
    let step = now_sooner fact (now_of before) (now_of before) (sights before) (sight ∷ sights before)
    (λ s h. section_seen fact.moment sight (sights before) s h)
    (λ h. timer_seen (reported_end fact) fact.packet.scale (now_of before) sight (sights before) fact.packet.end_timer h) in
    omega (arith, ints, rest, step)
no_farther fact (Cleared ∷ later) entries k o = absurd k

of_sooner : (o p : Option Fact) (old new : End) (before after : Fact → End) → p ≡ o → ((fact : Fact) → (after fact).place ≤ℤ (before fact).place) →
    option_map before o ≡ Some old → option_map after p ≡ Some new → new.place ≤ℤ old.place
of_sooner None p old new before after s h e f = absurd (cc)
of_sooner (Some fact) p old new before after s h e f =
    let a : before fact ≡ old = cc in
    let g : option_map after (Some fact) ≡ Some new = ap (option_map after) (sym s) ∙ f in
    let b : after fact ≡ new = cc in
    subst (λ (x : End). new.place ≤ℤ x.place) a (subst (λ (x : End). x.place ≤ℤ (before fact).place) b (h fact))

pub never_forward : (later entries : List AuthorityEntry) (old new : End) → KeepsAuthority later → IsInOrder (later ++ entries) →
    end_of entries ≡ Some old → end_of (later ++ entries) ≡ Some new → new.place ≤ℤ old.place
never_forward later entries old new k o e f =
    of_sooner (accepted entries) (accepted (later ++ entries)) old new
    (λ fact. end_now fact (now_of entries) (sights entries)) (λ fact. end_now fact (now_of (later ++ entries)) (sights (later ++ entries)))
    (same_authority later entries k) (λ fact. no_farther fact later entries k o) e f
