use Rattle.solver.specs.Bill.{length_billed}
use Rattle.solver.specs.Run.{Midway, midway_begin, midway_less, midway_made, midway_fits, midway_next, midway_end}
use Rattle.laws.specs.Solver.{length_projections, vector_count_few}
use Rattle.wiedemann.specs.Pass.{held}
use Rattle.solver.specs.System.{plain, operator, rows}
use Rattle.meaning.specs.Matrix.{scaled}
use Rattle.meaning.specs.Refusal.{words_taken}
use Rattle.meaning.specs.Solver.{projections, begin}
use lib.ListN.{length}
use native.Mathlib.Omega.{arith}
use Prim.Native.Nat.{ℕ, ◌-◌, ◌≤◌}
use mathlib.Core.Bool.{true}
use mathlib.Core.List.{List, []}
use mathlib.Core.Path.{◌≡◌, refl, sym, ap, ◌∙◌, subst}
use Rattle.solver.proofs.run.Goals.{In_default}
use Rattle.solver.proofs.run.Goals as goal

-- "R from 0 to 64", and n at most 4,096
most : (p n : ℕ) (words : List ℕ) → words_taken n words ≡ true → n ≤ 4096 → length (projections p n words) ≤ 8192
most p n words t l = omega (arith, length_projections p n words, vector_count_few n words t, l)

pub begin-c-requires : goal.begin-c-requires
begin-c-requires c =
    let a = c.args in
    let pre = c.requires in
    (omega (arith, a.s.now.checked.accepted.size_b, a.s.now.checked.valid.valid.sized), omega (arith, a.s.now.checked.accepted.size_b, pre.1))

pub loop-work-init : goal.loop-work-init
loop-work-init c =
    let a = c.args in
    let pre = c.requires in
    let e = c.begin-c.ensures in
    let X = c.begin-c.new.work in (
      subst (λ k. Midway a.s.now.field.p (operator a.s.now) a.s.now.b.now a.words.now a.window a.bill.now a.bill.now X 0 k) (sym e.0)
          (midway_begin a.s.now.checked (omega (arith, e.1, pre.1)) (subst (λ k. held k X 0 [] ≡ begin a.s.now.b.now) a.s.now.checked.accepted.size_b e.2)),
      refl,
    )

pub is_settled-requires : goal.is_settled-requires
is_settled-requires c = (c.args.s.now.checked.valid.valid.sized, c.loop-work.invariant.0.room)

-- a pass of a run's own state is not refused
never : (c : In_default) → ⊥
never c =
    let a = c.args in
    let pre = c.requires in
    let few = most a.s.now.field.p (rows a.s.now) a.words.now pre.0 a.s.now.checked.valid.valid.sized in
    let m = c.loop-work.invariant.0 in
    let z = sym c.is_settled.ensures ∙ c.loop-work-test.true in
    let answer = c.make_pass-answer in
    midway_made a.s.now.checked few m z pre.0 _ answer.new.work answer.result _ c.in_default.is answer.ensures

pub shape_of-bill-in_default : goal.shape_of-bill-in_default
shape_of-bill-in_default c = absurd (never (goal.at.shape_of-bill-in_default c).In_default)

pub shape_of-work-in_default : goal.shape_of-work-in_default
shape_of-work-in_default c = absurd (never (goal.at.shape_of-work-in_default c).In_default)

pub returns-in_default : goal.returns-in_default
returns-in_default c = absurd (never (goal.at.returns-in_default c).In_default)

pub count-c-requires : goal.count-c-requires
count-c-requires c =
    let a = c.args in
    let pre = c.requires in
    let few = most a.s.now.field.p (rows a.s.now) a.words.now pre.0 a.s.now.checked.valid.valid.sized in
    let m = c.loop-work.invariant.0 in
    let z = sym c.is_settled.ensures ∙ c.loop-work-test.true in
    let answer = c.make_pass-answer in
    midway_fits a.s.now.checked few m z _ answer.new.work answer.result _ c.in-Ok.is answer.ensures

pub enter-requires : goal.enter-requires
enter-requires c =
    let a = c.args in
    let pre = c.requires in
    let few = most a.s.now.field.p (rows a.s.now) a.words.now pre.0 a.s.now.checked.valid.valid.sized in
    let m = c.loop-work.invariant.0 in
    let z = sym c.is_settled.ensures ∙ c.loop-work-test.true in
    let answer = c.make_pass-answer in
    let fits = midway_fits a.s.now.checked few m z _ answer.new.work answer.result _ c.in-Ok.is answer.ensures in
    (omega (arith, midway_less a.s.now.checked few m z, few), fits.left_low, fits.found_low, fits.cost_low)

pub overflow_add-j : goal.overflow_add-j
overflow_add-j c =
    let a = c.args in
    let pre = c.requires in
    let few = most a.s.now.field.p (rows a.s.now) a.words.now pre.0 a.s.now.checked.valid.valid.sized in
    let m = c.loop-work.invariant.0 in
    let z = sym c.is_settled.ensures ∙ c.loop-work-test.true in
    let less = midway_less a.s.now.checked few m z in
    omega (arith, less, few)

pub loop-work-smaller : goal.loop-work-smaller
loop-work-smaller c =
    let a = c.args in
    let pre = c.requires in
    let few = most a.s.now.field.p (rows a.s.now) a.words.now pre.0 a.s.now.checked.valid.valid.sized in
    let m = c.loop-work.invariant.0 in
    let z = sym c.is_settled.ensures ∙ c.loop-work-test.true in
    let less = midway_less a.s.now.checked few m z in
    omega (arith, less)

pub loop-work-preserved : goal.loop-work-preserved
loop-work-preserved c =
    let a = c.args in
    let pre = c.requires in
    let few = most a.s.now.field.p (rows a.s.now) a.words.now pre.0 a.s.now.checked.valid.valid.sized in
    let loop = c.loop-work in
    let z = sym c.is_settled.ensures ∙ c.loop-work-test.true in
    let answer = c.make_pass-answer in
    let next = midway_next a.s.now.checked few loop.invariant.0 z answer.new.work answer.result _ c.in-Ok.is answer.ensures in
    (rw (c.count-c.ensures, c.enter.ensures) next.1, next.0 ∙ loop.invariant.1)

pub shape_of-bill : goal.shape_of-bill
shape_of-bill c =
    let m = c.loop-work.invariant.0 in
    ap length m.bill ∙ length_billed c.args.bill.now m.made

pub shape_of-work : goal.shape_of-work
shape_of-work c = c.loop-work.invariant.1 ∙ c.begin-c.ensures.1

pub returns : goal.returns
returns c =
    let a = c.args in
    let pre = c.requires in
    let few = most a.s.now.field.p (rows a.s.now) a.words.now pre.0 a.s.now.checked.valid.valid.sized in
    let m = c.loop-work.invariant.0 in
    let z = sym c.is_settled.ensures ∙ c.loop-work-test.false in
    midway_end a.s.now.checked few m z
