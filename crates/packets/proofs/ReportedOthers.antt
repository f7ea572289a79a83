-- What is to be shown of the layouts of packets 41, 65, 66 and 80, and of those that are skipped.
use Rattle.std.proofs.Common.{◌≡◌, ap, refl, sym, arith, length, ◌-◌, ◌≤◌, ℕ, length-append}
use Rattle.std.specs.Prelude.{Option, Some}
use Rattle.std.specs.Option.{option_map_or}
use Rattle.std.proofs.lemmas.Bool.{le-ltb}
use Rattle.std.proofs.lemmas.List.{take_at}
use Rattle.bits.specs.Fitting.{HasNumber, Fits}
use Rattle.vars.specs.Variables.{untested_direction}
use Rattle.vars.proofs.Numbers.{l_packet_has, plain_back, up_to_back, q_dir_back, q_scale_back, q_front_back, start_place_back}
use Rattle.packets.specs.Layouts.{level_transition_description, speed_restriction_description, restriction_revocation_description, mode_profile_description, skipped_description}
use Rattle.packets.specs.declared.packet.Other.{Other}
use Rattle.packets.proofs.Reported.{Anything, Describes}
use Rattle.packets.proofs.ReportedElements.{back, found-level_order, found-mode_area}

pub reported-level_transition : Describes level_transition_description Anything (λ p. Fits (level_transition_description (λ _. 0)) p)
unfolding level_transition_description
reported-level_transition = record {
  found = λ t. (
    back q_dir_back,
    λ _ _. (
      back (plain_back 13),
      λ _ small. (
        back q_scale_back,
        λ _ _. (
          back start_place_back,
          λ _ _. (
            found-level_order,
            λ first one _. (
              back (plain_back 5),
              λ _ _. (
                found-level_order,
                λ others more _ e.
                    (small.small, tt, ((refl, (sym e, (refl, tt))), (refl, ((take_at first others 1 one, (omega (arith, length-append first others, one, more), refl)), tt)))),
              ),
            ),
          ),
        ),
      ),
    ),
  );
  anyhow = λ g h p bits s. s;
  sized = λ g h c. refl;
  ready = λ t c r h e. ((h.0.0, (l_packet_has 0 (omega arith), h.0.1.1)), h.1);
  stands = λ t c long small h. (((h.0.0, (l_packet_has t small, h.0.1.1)), h.1), refl);
}

pub reported-speed_restriction : Describes speed_restriction_description Anything (λ p. Fits (speed_restriction_description (λ _. 0)) p)
unfolding speed_restriction_description
reported-speed_restriction = record {
  found = λ t. (
    back q_dir_back,
    λ _ _. (
      back (plain_back 13),
      λ _ small. (
        back q_scale_back,
        λ _ _. (
          back (plain_back 8),
          λ _ _. (
            back (plain_back 15),
            λ _ _. (
              back (plain_back 15),
              λ _ _. (
                back q_front_back,
                λ _ _. (
                  back (up_to_back 7 120),
                  λ _ _ e.
                      (small.small, tt, ((refl, (sym e, (refl, tt))), (refl, (refl, (refl, (refl, (refl, tt))))))),
                ),
              ),
            ),
          ),
        ),
      ),
    ),
  );
  anyhow = λ g h p bits s. s;
  sized = λ g h c. refl;
  ready = λ t c r h e. ((h.0.0, (l_packet_has 0 (omega arith), h.0.1.1)), h.1);
  stands = λ t c long small h. (((h.0.0, (l_packet_has t small, h.0.1.1)), h.1), refl);
}

pub reported-restriction_revocation : Describes restriction_revocation_description Anything (λ p. Fits (restriction_revocation_description (λ _. 0)) p)
unfolding restriction_revocation_description
reported-restriction_revocation = record {
  found = λ t. (back q_dir_back, λ _ _. (back (plain_back 13), λ _ small. (back (plain_back 8), λ _ _ e. (small.small, tt, (refl, (sym e, (refl, tt)))))));
  anyhow = λ g h p bits s. s;
  sized = λ g h c. refl;
  ready = λ t c r h e. (h.0, (l_packet_has 0 (omega arith), h.1.1));
  stands = λ t c long small h. ((h.0, (l_packet_has t small, h.1.1)), refl);
}

pub reported-mode_profile : Describes mode_profile_description Anything (λ p. Fits (mode_profile_description (λ _. 0)) p)
unfolding mode_profile_description
reported-mode_profile = record {
  found = λ t. (
    back q_dir_back,
    λ _ _. (
      back (plain_back 13),
      λ _ small. (
        back q_scale_back,
        λ _ _. (
          found-mode_area,
          λ first one _. (
            back (plain_back 5),
            λ _ _. (
              found-mode_area,
              λ others more _ e.
                  (small.small, tt, ((refl, (sym e, (refl, tt))), ((take_at first others 1 one, (omega (arith, length-append first others, one, more), refl)), tt))),
            ),
          ),
        ),
      ),
    ),
  );
  anyhow = λ g h p bits s. s;
  sized = λ g h c. refl;
  ready = λ t c r h e. ((h.0.0, (l_packet_has 0 (omega arith), h.0.1.1)), h.1);
  stands = λ t c long small h. (((h.0.0, (l_packet_has t small, h.0.1.1)), h.1), refl);
}

pub reported-skipped : (number : ℕ) → Describes (skipped_description number) Anything (λ p. (p.number ≡ number) × HasNumber untested_direction p.direction)
unfolding skipped_description
reported-skipped number = record {
  found = λ t. (back (plain_back 2), λ _ _. (back (plain_back 13), λ _ small. λ space. λ _ e. (small.small, tt, (refl, (sym e, (tt, (refl, tt)))))));
  anyhow = λ g h p bits s. s;
  sized = λ g h c. refl;
  ready = λ t c r h e. (sym (ap (λ (o : Option (ℕ × Other)). option_map_or (λ p. p.1.number) o 0) e), h.0);
  stands = λ t c long small h.
      let is : number ≡ c.number = sym h.0 in
      let least : 23 ≤ t = omega (arith, long) in
      let body : length c.body ≡ t - 23 = omega (arith, long) in
      ((h.1, (l_packet_has t small, (le-ltb t 23 least, (body, tt)))), ap (λ (n : ℕ). Some (t, record { number = n; direction = c.direction; body = c.body })) is);
}
