use Rattle.std.proofs.Common.{refl}
use Rattle.safety_laws.proofs.Lessening.{never_raise}
use Rattle.safety_laws.proofs.restricting.restrictions_never_raise.Goals as goal

pub returns-clause-permitted : goal.returns-clause-permitted
returns-clause-permitted c life train = refl

pub returns-clause-never : goal.returns-clause-never
returns-clause-never c setting fewer more m = never_raise setting fewer more m
