use Rattle.std.proofs.Common.{refl, arith}
use Rattle.laws.specs.Written.{written_all}
use Rattle.laws.specs.Part.{written_table}
use Rattle.slices.proofs.write_padded.Goals as goal

pub returns : goal.returns
returns c = written_table _ _ _ _ refl (written_all (omega (arith, c.loop-i-test.false)) c.loop-i.invariant)
