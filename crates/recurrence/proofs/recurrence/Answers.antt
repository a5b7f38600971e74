use mathlib.Core.Path.{◌≡◌, sym, ◌∙◌}
use Prim.Native.Nat.{◌+◌, ◌-◌, ◌≤◌}
use native.Mathlib.Omega.{arith}
use lib.ListN.{length}
use lib.Seq.{length-take-le}
use Rattle.meaning.specs.List.{at}
use Rattle.laws.specs.Written.{Written}
use Rattle.laws.specs.Part.{part, length_part}
use Rattle.laws.specs.Lent.{lent}
use Rattle.checks.specs.Recurrence.{Accepted, accepted}
use Rattle.modular.specs.Modulus.{Modular, modular_of}
use Rattle.recurrence.proofs.Recurred.{modulus_range, padded_same, copied, ready, recurred_generator}
use Rattle.recurrence.proofs.recurrence.Goals.{After-of, After-write_padded, In_ok-check_recurrence}
use Rattle.recurrence.proofs.recurrence.Goals as goal

-- what the checks have shown where they let the call through
taken : (c : In_ok-check_recurrence) → let a = c.args in Accepted a.field.p a.s.now a.polynomial.now a.work.now
taken c = accepted _ _ _ _ (sym c.in_ok-check_recurrence.ensures)

-- the modulus that was made
modulus : (c : After-of) → (c.of.result.p ≡ c.args.field.p) × Modular c.of.result
modulus c =
    let a = c.args in
    let range = modulus_range (accepted a.field.p a.s.now a.polynomial.now a.work.now (sym c.in_ok-check_recurrence.ensures)) in
    modular_of c.of.result a.field.p c.of.ensures range.0 range.1

-- the list stands at the front of the work slice
filled : (c : After-write_padded)
    → let a = c.args in
    Written a.work.now 0 (length a.s.now) (at a.s.now) (lent a.work.now 0 (length a.s.now) c.write_padded.new.out)
filled c =
    let a = c.args in
    let s = a.s.now in
    let room : length s ≤ length a.work.now = omega (arith, (accepted a.field.p s a.polynomial.now a.work.now (sym c.in_ok-check_recurrence.ensures)).room) in
    copied s a.work.now c.write_padded.new.out room (c.write_padded.ensures ∙ padded_same s (length-take-le (length s) a.work.now room))

pub slice_bounds-write_padded-end : goal.slice_bounds-write_padded-end
slice_bounds-write_padded-end c = let room = (taken (goal.at.slice_bounds-write_padded-end c).In_ok-check_recurrence).room in omega (arith, room)

pub slice_bounds-write_padded-end-2 : goal.slice_bounds-write_padded-end-2
slice_bounds-write_padded-end-2 c =
    let room = (taken (goal.at.slice_bounds-write_padded-end-2 c).In_ok-check_recurrence).room in sym (length-take-le _ _ (omega (arith, room)))

pub shortest-degree-requires : goal.shortest-degree-requires
shortest-degree-requires c =
    let input = taken (goal.at.shortest-degree-requires c).In_ok-check_recurrence in
    let m = modulus (goal.at.shortest-degree-requires c).After-of in
    (ready input (filled (goal.at.shortest-degree-requires c).After-write_padded) m.0, m.1)

pub slice_bounds-write_padded-end-3 : goal.slice_bounds-write_padded-end-3
slice_bounds-write_padded-end-3 c =
    let input = taken (goal.at.slice_bounds-write_padded-end-3 c).In_ok-check_recurrence in
    let W₁ = filled (goal.at.slice_bounds-write_padded-end-3 c).After-write_padded in
    omega (arith, input.room, W₁.same_length, c.shortest-degree.auto.work)

pub slice_bounds-write_padded-end-4 : goal.slice_bounds-write_padded-end-4
slice_bounds-write_padded-end-4 c = let size = (taken (goal.at.slice_bounds-write_padded-end-4 c).In_ok-check_recurrence).size in omega (arith, size)

pub slice_bounds-write_padded-end-5 : goal.slice_bounds-write_padded-end-5
slice_bounds-write_padded-end-5 c =
    let size = (taken (goal.at.slice_bounds-write_padded-end-5 c).In_ok-check_recurrence).size in sym (length-take-le _ _ (omega (arith, size)))

pub returns : goal.returns
returns c =
    let a = c.args in
    let n = length a.s.now in
    let input = taken (goal.at.returns c).In_ok-check_recurrence in
    let W₁ = filled (goal.at.returns c).After-write_padded in
    let W₂ = c.shortest-degree.new.work in
    let m = n + 2 + (n + 1) - (n + 2) in
    let long : n + 2 + m ≤ length W₂ = omega (arith, input.room, W₁.same_length, c.shortest-degree.auto.work) in
    let read = c.write_padded-2.ensures ∙ padded_same (part (n + 2) m W₂) (length-take-le _ a.polynomial.now (omega (arith, input.size)) ∙ sym (length_part (n + 2) m W₂ long ∙ omega arith)) in
    recurred_generator input W₁ m c.write_padded-2.new.out (omega arith) (modulus (goal.at.returns c).After-of).0 c.shortest-degree.auto.work c.shortest-degree.ensures read
