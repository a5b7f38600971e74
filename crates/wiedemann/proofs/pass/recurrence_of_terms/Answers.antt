use Rattle.recurrence.specs.Recurrence.{terms_taken}
use Rattle.wiedemann.specs.Turns.{found_always, generated}
use Rattle.residue.specs.Prime.{is_modulus_Prime, is_modulus_le}
use Rattle.laws.specs.Part.{length_part, at_part}
use lib.ListN.{length}
use native.Mathlib.Omega.{arith}
use Prim.Native.Nat.{◌+◌, ◌-◌, ◌*◌, ◌≤◌}
use mathlib.Core.Path.{◌≡◌, ◌∙◌}
use Rattle.wiedemann.proofs.pass.recurrence_of_terms.Goals as goal

pub returns : goal.returns
returns c =
    let a = c.args in
    let pre = c.requires in
    let W = a.area.now in
    let m = a.from + (4 * a.count + 8) - a.from in
    let size : m ≡ 4 * a.count + 8 = omega arith in
    let fits : a.from + m ≤ length W = omega (arith, size, pre.room.0) in
    let long = length_part a.from m W fits in
    -- no check turns the terms down, in the part that is lent
    let taken =
    terms_taken (record {
      two = (is_modulus_Prime a.p pre.modulus.0).two_le;
      small = is_modulus_le a.p pre.modulus.0;
      few = pre.modulus.1;
      room = omega (arith, long, size);
      elements = λ i l. rw (at_part a.from m W i (omega (arith, size, l)), ← at_part a.from a.count W i l) (pre.room.1.below i l);
    }) in
    rw c.unwrap_or.ensures
    (generated a.p W a.from a.count m _ _ pre.modulus.0 size fits (c.generate.auto.work ∙ long) (found_always _ taken c.generate.ensures))
