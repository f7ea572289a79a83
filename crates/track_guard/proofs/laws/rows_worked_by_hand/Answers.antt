use Rattle.std.proofs.Common.{refl}
use Rattle.bits.specs.Bits.{number_bits}
use Rattle.vars.specs.Values.{direction_of}
use Rattle.track_guard.proofs.laws.rows_worked_by_hand.Goals as goal

pub returns : goal.returns
unfolding number_bits direction_of
returns c = record { stop_in_sr = refl; stop_in_fs = refl; stop_overridden = refl; go_in_sr = refl; cut_in_sr = refl; stop_for_others = refl; stop_reverse = refl; stop_unknown = refl; stop_both = refl; stop_spare = refl; danger_in_sh = refl; danger_in_sr = refl; danger_overridden = refl; clear_in_sh = refl; list_in_sh = refl; list_in_fs = refl; list_in_sb = refl; desk_in_sh = refl; desk_in_sb = refl; desk_in_fs = refl; repositioning_in_fs = refl; repositioning_in_sh = refl; levels_in_pt = refl; levels_in_sh = refl; axles_in_os = refl; axles_in_tr = refl; suitability_in_un = refl; suitability_in_pt = refl; slippery_in_fs = refl; dry_in_fs = refl; endless_in_fs = refl; ended_in_fs = refl; no_end_speed_in_fs = refl; restriction_in_fs = refl; text_in_fs = refl; greater_in_fs = refl; greater_in_sb = refl; same_in_fs = refl; last_of_same = refl; lesser_in_fs = refl; unlinked_in_un = refl; unlinked_in_pt = refl; linked_in_un = refl; cut_in_un = refl; linked_in_sf = refl }
