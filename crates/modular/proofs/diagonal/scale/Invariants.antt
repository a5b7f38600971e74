use Rattle.std.proofs.Common.{◌*◌}
use Rattle.meaning.specs.List.{at}
use Rattle.laws.specs.Written.{Written}
use Rattle.modular.specs.Modulus.{barrett}
use Rattle.modular.proofs.diagonal.scale.Given as goal

abbrev pub invariant-loop-i : goal.invariant-loop-i
invariant-loop-i l = Written l.initial.v 0 l.i (λ j. barrett l.m (at l.initial.v j * at l.scales j)) l.v
