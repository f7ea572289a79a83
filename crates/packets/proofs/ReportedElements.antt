-- Each value that is read of an element is found in it again.
use Rattle.std.proofs.Common.{refl}
use Rattle.bits.specs.Layout.{Codes}
use Rattle.bits.specs.declared.name.VariableName.{VariableName}
use Rattle.bits.proofs.Found.{Back, Appends, element}
use Rattle.vars.specs.declared.variable.NoValue.{NoValue}
use Rattle.vars.proofs.Numbers.{Numbered, plain_back, up_to_back, flag_back, q_linkorientation_back, q_linkreaction_back, v_release_back, q_gdir_back, m_leveltr_back, m_mamode_back, v_mamode_back, open_length_back}
use Rattle.packets.specs.Elements.{country, link, section_timer, end_timer, danger_point, overlap, section, gradient, difference, stm_identity, level_order, mode_area}

abbrev pub back : {A : Type 0} {codes : Codes NoValue A} → Numbered codes → Back codes
back n = record { back = n.back }

pub found-country : Appends country
unfolding country
found-country = element _ (back (plain_back 10), λ _ _. refl)

pub found-stm_identity : Appends stm_identity
unfolding stm_identity
found-stm_identity = element _ (back (plain_back 8), λ _ _. refl)

pub found-link : Appends link
unfolding link
found-link = element _ (back (plain_back 15), λ _ _. (back flag_back, λ _ _. (found-country, λ _ given. (back (plain_back 14), λ _ _. (back q_linkorientation_back, λ _ _. (back q_linkreaction_back, λ _ _. (back (plain_back 6), λ _ _. (refl, ((given, refl), (refl, (refl, (refl, (refl, tt)))))))))))))

pub found-gradient : Appends gradient
unfolding gradient
found-gradient = element _ (back (plain_back 15), λ _ _. (back q_gdir_back, λ _ _. (back (plain_back 8), λ _ _. (refl, (refl, (refl, tt))))))

pub found-section_timer : Appends section_timer
unfolding section_timer
found-section_timer = element _ (back (plain_back 10), λ _ _. (back (plain_back 15), λ _ _. (refl, (refl, tt))))

pub found-section : (name : VariableName) → Appends (section name)
unfolding section
found-section name = element _ (back (plain_back 15), λ _ _. (back flag_back, λ _ _. (found-section_timer, λ _ given. (refl, ((given, refl), tt)))))

pub found-end_timer : Appends end_timer
unfolding end_timer
found-end_timer = element _ (back (plain_back 10), λ _ _. (back (plain_back 15), λ _ _. (refl, (refl, tt))))

pub found-danger_point : Appends danger_point
unfolding danger_point
found-danger_point = element _ (back (plain_back 15), λ _ _. (back v_release_back, λ _ _. (refl, (refl, tt))))

pub found-overlap : Appends overlap
unfolding overlap
found-overlap = element _ (back (plain_back 15), λ _ _. (back (plain_back 10), λ _ _. (back (plain_back 15), λ _ _. (back v_release_back, λ _ _. (refl, (refl, (refl, (refl, tt))))))))

pub found-difference : Appends difference
unfolding difference
found-difference = element _ (back (plain_back 4), λ _ _. (back (up_to_back 7 120), λ _ _. (refl, (refl, tt))))

pub found-level_order : Appends level_order
unfolding level_order
found-level_order = element _ (back m_leveltr_back, λ _ _. (found-stm_identity, λ _ given. (back (plain_back 15), λ _ _. (refl, (refl, (refl, tt))))))

pub found-mode_area : Appends mode_area
unfolding mode_area
found-mode_area = element _ (back (plain_back 15), λ _ _. (back m_mamode_back, λ _ _. (back v_mamode_back, λ _ _. (back open_length_back, λ _ _. (back (plain_back 15), λ _ _. (refl, (refl, (refl, (refl, (refl, tt))))))))))
