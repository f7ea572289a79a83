-- What is to be shown of the layouts of packets 3, 5, 12, 21 and 27.
use Rattle.std.proofs.Common.{◌≡◌, ◌∙◌, refl, sym, subst, arith, ◌<◌, ◌^◌, length-append}
use Rattle.std.proofs.lemmas.List.{take_at}
use Rattle.bits.specs.Fitting.{HasNumber, Fits}
use Rattle.bits.specs.declared.name.VariableName.TheVariants as names
use Rattle.vars.specs.Variables.{q_dir, q_scale}
use Rattle.vars.proofs.Numbers.{l_packet_has, plain_back, up_to_back, flag_back, q_dir_back, q_scale_back, start_place_back, open_length_back}
use Rattle.packets.specs.Layouts.{mode_speeds, override_values, authority_end, national_values_description, linking_description, movement_authority_description, gradients_description, no_speeds, static_speeds_description}
use Rattle.packets.specs.StaticSteps.{SpeedsFit}
use Rattle.packets.proofs.StaticFitting.{speeds_fit}
use Rattle.packets.proofs.Reported.{Anything, Describes}
use Rattle.packets.proofs.ReportedSteps.{itself, found_step, found_steps}
use Rattle.packets.proofs.ReportedElements.{back, found-country, found-link, found-gradient, found-section, found-end_timer, found-danger_point, found-overlap}

pub reported-national_values : Describes national_values_description Anything (λ p. Fits (national_values_description (λ _. 0)) p)
unfolding national_values_description mode_speeds override_values
reported-national_values = record {
  found = λ t. (
    back q_dir_back,
    λ _ _. (
      back (plain_back 13),
      λ _ small. (
        back q_scale_back,
        λ _ _. (
          back start_place_back,
          λ _ _. (
            back (plain_back 5),
            λ _ _. (
              found-country,
              λ _ long _. (
                back (up_to_back 7 120),
                λ _ _. (
                  back (up_to_back 7 120),
                  λ _ _. (
                    back (up_to_back 7 120),
                    λ _ _. (
                      back (up_to_back 7 120),
                      λ _ _. (
                        back (up_to_back 7 120),
                        λ _ _. (
                          back (plain_back 15),
                          λ _ _. (
                            back (up_to_back 7 120),
                            λ _ _. (
                              back (up_to_back 7 120),
                              λ _ _. (
                                back (plain_back 15),
                                λ _ _. (
                                  back (plain_back 8),
                                  λ _ _. (
                                    back open_length_back,
                                    λ _ _ e.
                                        (small.small, tt, ((refl, (sym e, (refl, tt))), (refl, (long, (refl, ((refl, (refl, (refl, (refl, (refl, tt))))), (refl, ((refl, (refl, (refl, (refl, tt)))), (refl, tt))))))))),
                                  ),
                                ),
                              ),
                            ),
                          ),
                        ),
                      ),
                    ),
                  ),
                ),
              ),
            ),
          ),
        ),
      ),
    ),
  );
  anyhow = λ g h p bits s. s;
  sized = λ g h c. refl;
  ready = λ t c r h e. ((h.0.0, (l_packet_has 0 (omega arith), h.0.1.1)), h.1);
  stands = λ t c long small h. (((h.0.0, (l_packet_has t small, h.0.1.1)), h.1), refl);
}

pub reported-linking : Describes linking_description Anything (λ p. Fits (linking_description (λ _. 0)) p)
unfolding linking_description
reported-linking = record {
  found = λ t. (
    back q_dir_back,
    λ _ _. (
      back (plain_back 13),
      λ _ small. (
        back q_scale_back,
        λ _ _. (
          found-link,
          λ first one _. (
            back (plain_back 5),
            λ _ _. (
              found-link,
              λ others more _ e.
                  (small.small, tt, ((refl, (sym e, (refl, tt))), ((take_at first others 1 one, (omega (arith, length-append first others, one, more), refl)), tt))),
            ),
          ),
        ),
      ),
    ),
  );
  anyhow = λ g h p bits s. s;
  sized = λ g h c. refl;
  ready = λ t c r h e. ((h.0.0, (l_packet_has 0 (omega arith), h.0.1.1)), h.1);
  stands = λ t c long small h. (((h.0.0, (l_packet_has t small, h.0.1.1)), h.1), refl);
}

pub reported-movement_authority : Describes movement_authority_description Anything (λ p. Fits (movement_authority_description (λ _. 0)) p)
unfolding movement_authority_description authority_end
reported-movement_authority = record {
  found = λ t. (
    back q_dir_back,
    λ _ _. (
      back (plain_back 13),
      λ _ small. (
        back q_scale_back,
        λ _ _. (
          back (up_to_back 7 120),
          λ _ _. (
            back (up_to_back 7 120),
            λ _ _. (
              back (plain_back 10),
              λ _ _. (
                back (plain_back 5),
                λ _ _. (
                  found-section names.LSection,
                  λ _ long _. (
                    found-section names.LEndsection,
                    λ _. (
                      back flag_back,
                      λ _ _. (
                        found-end_timer,
                        λ _ timed. (
                          back flag_back,
                          λ _ _. (
                            found-danger_point,
                            λ _ endangered. (
                              back flag_back,
                              λ _ _. (
                                found-overlap,
                                λ _ overlapped e.
                                    (small.small, tt, ((refl, (sym e, (refl, tt))), (refl, (refl, (refl, (long, (refl, ((refl, ((timed, refl), ((endangered, refl), ((overlapped, refl), tt)))), tt)))))))),
                              ),
                            ),
                          ),
                        ),
                      ),
                    ),
                  ),
                ),
              ),
            ),
          ),
        ),
      ),
    ),
  );
  anyhow = λ g h p bits s. s;
  sized = λ g h c. refl;
  ready = λ t c r h e. ((h.0.0, (l_packet_has 0 (omega arith), h.0.1.1)), h.1);
  stands = λ t c long small h. (((h.0.0, (l_packet_has t small, h.0.1.1)), h.1), refl);
}

pub reported-gradients : Describes gradients_description Anything (λ p. Fits (gradients_description (λ _. 0)) p)
unfolding gradients_description
reported-gradients = record {
  found = λ t. (
    back q_dir_back,
    λ _ _. (
      back (plain_back 13),
      λ _ small. (
        back q_scale_back,
        λ _ _. (
          found-gradient,
          λ first one _. (
            back (plain_back 5),
            λ _ _. (
              found-gradient,
              λ others more _ e.
                  (small.small, tt, ((refl, (sym e, (refl, tt))), ((take_at first others 1 one, (omega (arith, length-append first others, one, more), refl)), tt))),
            ),
          ),
        ),
      ),
    ),
  );
  anyhow = λ g h p bits s. s;
  sized = λ g h c. refl;
  ready = λ t c r h e. ((h.0.0, (l_packet_has 0 (omega arith), h.0.1.1)), h.1);
  stands = λ t c long small h. (((h.0.0, (l_packet_has t small, h.0.1.1)), h.1), refl);
}

pub reported-static_speeds : Describes static_speeds_description SpeedsFit SpeedsFit
unfolding static_speeds_description
reported-static_speeds = record {
  found = λ t. (
    back q_dir_back,
    λ direction has_direction. (
      back (plain_back 13),
      λ _ small. (
        back q_scale_back,
        λ scale has_scale. found_step (no_speeds direction scale) (record { even = refl; few = omega arith; steps = tt; own = tt }) _ (λ first P one. (
          back (plain_back 5),
          λ count has_count.
              found_steps count first one.good _ (λ all Q more e.
              let same_direction : all.direction ≡ direction = more.ahead.direction ∙ one.ahead.direction in
              let same_scale : all.scale ≡ scale = more.ahead.scale ∙ one.ahead.scale in
              let few : count < 2 ^ 5 = has_count.small in
              let fit : SpeedsFit all = (
                subst (λ (z : _). HasNumber q_dir z) (sym same_direction) has_direction,
                subst (λ (z : _). HasNumber q_scale z) (sym same_scale) has_scale,
                omega (arith, one.count, more.count),
                omega (arith, one.count, more.count, few),
                more.good.few,
                more.good.steps,
                more.good.own,
                more.good.even,
              ) in
              (small.small, fit, ((same_direction, (sym e, (same_scale, tt))), (one.holds all more.ahead, (omega (arith, one.count, more.count), (more.holds all (itself all), tt)))))),
        )),
      ),
    ),
  );
  anyhow = λ g h p bits s. s;
  sized = λ g h c. refl;
  ready = λ t c r h e. r;
  stands = λ t c long small h. speeds_fit c t small h;
}
