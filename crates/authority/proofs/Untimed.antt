-- Where no time of the authority runs, a look at the train changes nothing, and its end is the same at every moment.
use Rattle.std.proofs.Common.{◌≡◌, ℕ, ◌*◌, List, [], ◌∷◌, Bool, true, false, cond, refl, ap, sym, ◌∙◌, ◌⊎◌, inl, inr}
use Rattle.std.specs.Prelude.{filter, not, Option, Some, None, option_map}
use Rattle.units.specs.Stretches.{Span}
use Rattle.authority.specs.declared.stored.Stored.{Stored}
use Rattle.authority.specs.Timers.{never, has_run_out}
use Rattle.authority.specs.Entries.{AuthorityEntry, Fact, Sight, now_of, accepted, sights}
use Rattle.authority.specs.Entries.AuthorityEntry.{Passed}
use Rattle.authority.specs.Authority.{end_of, end_now, main_speed_of}
use Rattle.authority.specs.Known.{known, stored_of}
use Rattle.authority.specs.Steps.{stops_at, passed_timer, passed_overlap, passed_stored, speed_in, end_in}
use Rattle.authority.specs.Untimed.{HasNoTime, IsUntimed}
use Rattle.authority.proofs.Passing.{stored_more}
use Rattle.authority.proofs.Ending.{end_is}

-- ---- a look at the train

passed_as_before : (now : ℕ) (train : Span) (stored : Stored) → stored.timed.items ≡ [] → stored.end_timer ≡ None → stored.overlap ≡ None →
    passed_stored now train stored ≡ stored
passed_as_before now train stored t e o =
    let sections = ap (filter (λ section. not (stops_at stored.accepted now train.min_front section))) t ∙ sym t in
    let timer = ap (option_map (passed_timer now train.max_front)) e ∙ sym e in
    let overlap = ap (option_map (passed_overlap now train.max_front)) o ∙ sym o in
    (λ i. record stored { timed = record { items = sections i }; end_timer = timer i; overlap = overlap i })

stored_passed : (sight : Sight) (o : Option Fact) (seen : List Sight) → IsUntimed (option_map (λ fact. stored_of fact seen) o) →
    option_map (λ fact. stored_of fact (sight ∷ seen)) o ≡ option_map (λ fact. stored_of fact seen) o
stored_passed sight None seen h = refl
stored_passed sight (Some fact) seen h =
    ap Some (stored_more fact sight seen ∙ passed_as_before sight.moment sight.train (stored_of fact seen) h.0 h.1 h.2)

pub passed_by : (train : Span) (entries : List AuthorityEntry) → IsUntimed (known entries).stored → known (Passed train ∷ entries) ≡ known entries
passed_by train entries h =
    let stored = stored_passed (record { moment = now_of entries; train = train }) (accepted entries) (sights entries) h in
    (λ i. record { moment = now_of entries; stored = stored i })

-- ---- the end, and the greatest speed

end_as_stored : (now : ℕ) (o : Option Fact) (seen : List Sight) →
    option_map (λ fact. end_now fact now seen) o ≡ option_map (end_in now) (option_map (λ fact. stored_of fact seen) o)
end_as_stored now None seen = refl
end_as_stored now (Some fact) seen = ap Some (sym (end_is fact now seen))

-- 0 either way
zero : (over : Bool) → cond {A = ℕ} over 0 0 ≡ 0
zero true = refl
zero false = refl

speed_kept : (now later : ℕ) (stored : Stored) → (stored.end_speed ≡ 0) ⊎ (stored.end_time ≡ never) → speed_in now stored ≡ speed_in later stored
speed_kept now later stored (inl none) =
    rw none (zero (has_run_out stored.end_time stored.accepted now) ∙ sym (zero (has_run_out stored.end_time stored.accepted later)))
speed_kept now later stored (inr endless) = rw endless refl

end_kept : (now later : ℕ) (stored : Stored) → HasNoTime stored → end_in now stored ≡ end_in later stored
end_kept now later stored h = rw (h.0, h.1, h.2, speed_kept now later stored h.3) refl

ends_kept : (now later : ℕ) (stored : Option Stored) → IsUntimed stored → option_map (end_in now) stored ≡ option_map (end_in later) stored
ends_kept now later None h = refl
ends_kept now later (Some stored) h = ap Some (end_kept now later stored h)

pub same_end : (one other : List AuthorityEntry) → (known one).stored ≡ (known other).stored → IsUntimed (known one).stored → end_of one ≡ end_of other
same_end one other same h =
    end_as_stored (now_of one) (accepted one) (sights one)
    ∙ (ends_kept (now_of one) (now_of other) (known one).stored h
    ∙ (ap (option_map (end_in (now_of other))) same ∙ sym (end_as_stored (now_of other) (accepted other) (sights other))))

speed_as_stored : (o : Option Fact) (seen : List Sight) →
    option_map (λ (fact : Fact). 5_000 * fact.packet.speed) o ≡ option_map (λ (s : Stored). s.main_speed) (option_map (λ fact. stored_of fact seen) o)
speed_as_stored None seen = refl
speed_as_stored (Some fact) seen = refl

pub same_main_speed : (one other : List AuthorityEntry) → (known one).stored ≡ (known other).stored → main_speed_of one ≡ main_speed_of other
same_main_speed one other same =
    speed_as_stored (accepted one) (sights one)
    ∙ (ap (option_map (λ (s : Stored). s.main_speed)) same ∙ sym (speed_as_stored (accepted other) (sights other)))
