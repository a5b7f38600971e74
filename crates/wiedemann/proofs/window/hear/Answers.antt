use mathlib.Core.Path.{refl, ap, ◌∙◌}
use Prim.Native.Nat.{ℕ, ◌+◌, ◌*◌}
use native.Mathlib.Omega.{arith}
use lib.ListN.{set, length-set}
use Rattle.meaning.specs.Solver.{dot}
use Rattle.laws.specs.Part.{part}
use Rattle.residue.specs.Prime.{is_modulus_Prime}
use Rattle.wiedemann.specs.Operator.{rows, projection}
use Rattle.wiedemann.specs.Turns.{seat_low, region_at}
use Rattle.wiedemann.specs.Window.{dot_below, room_as, to_step, hears}
use Rattle.wiedemann.proofs.window.hear.Goals as goal

pub term-requires : goal.term-requires
term-requires c =
    let room = c.requires.room in
    let ask = c.requires.to_hear in
    rw c.region.ensures (record {
      words = c.requires.words;
      places = (omega (arith, seat_low ask.seat, room.room), omega (arith, room.room, ask.below), ask.iterate);
    })

-- the term being written
pub step-steps-requires : goal.step-steps-requires
step-steps-requires c =
    let a = c.args in
    let pre = c.requires in
    let p = a.ax.now.m.p in
    let n = rows a.ax.now in
    let i = a.before.done.made in
    let prime = is_modulus_Prime p a.ax.now.prime in
    let value = dot p (projection a.ax.now a.u.now) (part (region_at n i) n a.area.now) in
    rw (c.term.ensures, c.region.ensures) (record {
      room = room_as (length-set a.area.now (3 * n + i) value) pre.room;
      to_step = to_step prime pre.room pre.to_hear value (dot_below p (projection a.ax.now a.u.now) (part (region_at n i) n a.area.now) (omega (arith, prime.two_le)));
    })

pub returns : goal.returns
returns c =
    let a = c.args in
    let p = a.ax.now.m.p in
    let n = rows a.ax.now in
    let value : ℕ → ℕ = λ k. dot p (projection a.ax.now a.u.now) (part k n a.area.now) in
    let written = c.term.ensures ∙ ap (λ k. set a.area.now (3 * n + a.before.done.made) (value k)) c.region.ensures in
    hears (is_modulus_Prime p a.ax.now.prime) c.requires.room c.requires.to_hear written c.step-steps.ensures refl refl c.count_zeros.ensures
