-- Nothing before an acceptance matters.
use Rattle.std.proofs.Common.{◌≡◌, ◌*◌, List, [], ◌∷◌, ◌++◌, refl}
use Rattle.std.specs.Prelude.{option_map}
use Rattle.authority.specs.Entries.{AuthorityEntry, Fact, now_of, accepted, sights}
use Rattle.authority.specs.Entries.AuthorityEntry.{Ticked, Accepted, Passed, Cleared}
use Rattle.authority.specs.Authority.{end_now, end_of, main_speed_of}

same_now : (later before : List AuthorityEntry) (fact : Fact) → now_of (later ++ Accepted fact ∷ before) ≡ now_of (later ++ Accepted fact ∷ [])
same_now [] before fact = refl
same_now (Ticked moment ∷ later) before fact = refl
same_now (Accepted f ∷ later) before fact = refl
same_now (Passed train ∷ later) before fact = same_now later before fact
same_now (Cleared ∷ later) before fact = same_now later before fact

same_fact : (later before : List AuthorityEntry) (fact : Fact) → accepted (later ++ Accepted fact ∷ before) ≡ accepted (later ++ Accepted fact ∷ [])
same_fact [] before fact = refl
same_fact (Ticked moment ∷ later) before fact = same_fact later before fact
same_fact (Accepted f ∷ later) before fact = refl
same_fact (Passed train ∷ later) before fact = same_fact later before fact
same_fact (Cleared ∷ later) before fact = refl

same_sights : (later before : List AuthorityEntry) (fact : Fact) → sights (later ++ Accepted fact ∷ before) ≡ sights (later ++ Accepted fact ∷ [])
same_sights [] before fact = refl
same_sights (Ticked moment ∷ later) before fact = same_sights later before fact
same_sights (Accepted f ∷ later) before fact = refl
same_sights (Passed train ∷ later) before fact =
    let now = same_now later before fact in
    let rest = same_sights later before fact in
    (λ i. record { moment = now i; train = train } ∷ rest i)
same_sights (Cleared ∷ later) before fact = refl

pub forgets : (later before : List AuthorityEntry) (fact : Fact) →
    (end_of (later ++ Accepted fact ∷ before) ≡ end_of (later ++ Accepted fact ∷ []))
    × (main_speed_of (later ++ Accepted fact ∷ before) ≡ main_speed_of (later ++ Accepted fact ∷ []))
forgets later before fact =
    let now = same_now later before fact in
    let seen = same_sights later before fact in
    let latest = same_fact later before fact in (
      λ i. option_map (λ (f : Fact). end_now f (now i) (seen i)) (latest i),
      λ i. option_map (λ (f : Fact). 5_000 * f.packet.speed) (latest i),
    )
