-- Of which event an output was released.
use Rattle.std.proofs.Common.{◌≡◌, List, [], ◌∷◌, inl, inr, refl, ap, sym, subst}
use Rattle.events.specs.declared.input.Event.{Event}
use Rattle.whole_lives.specs.Chains.{StandsIn}
use Rattle.onboard.specs.declared.released.Released.{Released}
use Rattle.unit_start.specs.Events.{pair_of, pairs_of}
use Rattle.speed_profile.proofs.Members.{in_right, in_either}
use Rattle.units.proofs.Gathering.{IsIn}
use Rattle.safety_laws.specs.Outputs.{IsOf}

pub record IsFound (pair : Released) (events : List Event) : Type 0 where
  pub position : IsOf pair events
  pub same : pair ≡ pair_of position.earlier position.event

one_more : (event : Event) (events : List Event) (pair : Released) → IsFound pair events → IsFound pair (event ∷ events)
one_more event events pair found = record {
  position = record {
    later = event ∷ found.position.later;
    event = found.position.event;
    earlier = found.position.earlier;
    in_turn = ap (λ (es : List Event). event ∷ es) found.position.in_turn;
    number = found.position.number;
  };
  same = found.same;
}

newest : (event : Event) (events : List Event) (pair : Released) → pair ≡ pair_of events event → IsFound pair (event ∷ events)
newest event events pair same = record {
  position = record { later = []; event = event; earlier = events; in_turn = refl; number = ap (λ (p : Released). p.number) same };
  same = same;
}

among : (events : List Event) (pair : Released) → IsIn pair (pairs_of events) → IsFound pair events
among [] pair there = absurd there
among (event ∷ events) pair there =
    elim (in_either pair (pairs_of events) (pair_of events event ∷ []) there) [
      | inl before ↦ one_more event events pair (among events pair before)
      | inr last ↦ elim last [ inl same ↦ newest event events pair same | inr none ↦ absurd none ]
    ]

pub found_in : (events : List Event) (pair : Released) → StandsIn pair (pairs_of events) → IsFound pair events
found_in events pair (before, after, is) =
    among events pair (subst (λ (pairs : List Released). IsIn pair pairs) (sym is) (in_right pair before (pair ∷ after) (inl refl)))
