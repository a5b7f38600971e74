use Rattle.solver.specs.Run.{begun}
use Rattle.laws.specs.Part.{length_part}
use Rattle.meaning.specs.List.{padded}
use lib.ListN.{length}
use native.Mathlib.Omega.{arith}
use Prim.Native.Nat.{◌+◌, ◌-◌, ◌≤◌}
use mathlib.Core.Path.{ap, ◌∙◌}
use Rattle.solver.proofs.Call.{none_of}
use Rattle.solver.proofs.begin.Goals as goal

pub returns : goal.returns
returns c =
    let a = c.args in
    let pre = c.requires in
    let from = c.residual_at-from.result in
    let place = c.residual_at-from.ensures in
    let b = a.b.now in
    let m = from + length b - from in
    let fits : from + m ≤ length a.work.now = omega (arith, place, pre.1) in
    let done =
    begun a.work.now b from m c.write_padded.new.out place (omega arith) fits
    (c.write_padded.ensures ∙ ap (λ k. padded k b) (length_part from m a.work.now fits)) in
    (none_of c.default.ensures, done.0, done.1)
