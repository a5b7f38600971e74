use mathlib.Core.Path.{◌≡◌, ap, ◌∙◌}
use Prim.Native.Nat.{◌+◌, ◌-◌, ◌*◌, ◌≤◌}
use native.Mathlib.Omega.{arith}
use lib.ListN.{length}
use Rattle.meaning.specs.List.{zeros}
use Rattle.laws.specs.Written.{written_all}
use Rattle.laws.specs.Part.{length_part}
use Rattle.laws.specs.Lent.{written_lent}
use Rattle.recurrence.proofs.Stepping.{start_follows, start_laid}
use Rattle.recurrence.proofs.steps.start.Goals as goal

pub returns : goal.returns
returns c =
    let a = c.args in
    let first = c.requires in
    let W = a.work.now in
    let q = a.count + 2 in
    let m = 2 * q - q in
    let size : m ≡ q = omega arith in
    let fits : q + m ≤ length W = omega (arith, size, first.room) in
    let cleared =
    written_all size (written_lent W q m (λ i. 0) c.clear.new.out fits (c.clear.ensures ∙ ap zeros (length_part q m W fits))) in
    record { follows_steps = start_follows a.p a.count W _ first cleared; laid = start_laid a.p a.count W _ first cleared }
