-- What the values of variables mean (SUBSET-026, 7.5.1). Distances are centimetres, gradients per mille.
use Rattle.std.specs.Prelude.{ℕ, ℤ, pos, neg_ℤ}
use Rattle.vars.specs.declared.gradient.GradientDirection.{GradientDirection}
use Rattle.vars.specs.declared.gradient.GradientDirection.TheVariants.{Downhill, Uphill}
use Rattle.vars.specs.declared.scale.Scale.{Scale}
use Rattle.vars.specs.declared.scale.Scale.TheVariants.{TenCentimetres, OneMetre, TenMetres}

-- the centimetres of one unit of a scale
abbrev pub centimetres_of : Scale → ℕ
centimetres_of TenCentimetres = 10
centimetres_of OneMetre = 100
centimetres_of TenMetres = 1_000

-- a steepness with its sign, uphill positive
abbrev pub signed_permille : GradientDirection → ℕ → ℤ
signed_permille Downhill n = neg_ℤ (pos n)
signed_permille Uphill n = pos n
