use Rattle.std.proofs.Common.{refl}
use Rattle.line_writer.specs.Adds.{adds_line}
use Rattle.line_writer.proofs.lines.Lines.put.Goals as goal

pub returns-clause-adds : goal.returns-clause-adds
returns-clause-adds c = adds_line refl c.put_line-self.ensures.out_after c.put_line-self.ensures.value
