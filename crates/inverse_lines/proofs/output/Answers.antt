-- `inverse_lines::output` meets its contract.
use native.Mathlib.Omega.{arith}
use Rattle.inverse_lines.specs.Printed.{printed_wrote}
use Rattle.inverse_lines.proofs.output.Goals as goal

pub returns : goal.returns
returns c = printed_wrote c.args.out.now c.put_lines.result c.put_lines.new.out (omega arith) c.put_lines.ensures
