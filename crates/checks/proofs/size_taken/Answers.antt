use mathlib.Core.Path.{sym}
use mathlib.Core.List.{[]}
use Rattle.checks.specs.Matrix.{length_size_taken}
use Rattle.checks.proofs.size_taken.Goals as goal

pub returns : goal.returns
returns c = sym (length_size_taken c.args.starts.now [] [])
