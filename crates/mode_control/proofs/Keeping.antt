-- A mode is kept by conditions that are as those by which it stays.
use Rattle.std.proofs.Common.{◌≡◌, ap, subst, ◌∙◌}
use Rattle.mode_table.specs.declared.conditions.Conditions.{Conditions}
use Rattle.mode_table.specs.declared.mode.Mode.{Mode}
use Rattle.mode_table.specs.Rows.{next_mode}

pub kept : {m mode : Mode} {all some : Conditions} → m ≡ mode → all ≡ some → next_mode m some ≡ m → next_mode mode all ≡ mode
kept {m} {mode} {all} is same stays = subst (λ (x : Mode). next_mode x all ≡ x) is (ap (next_mode m) same ∙ stays)
