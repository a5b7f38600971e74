use Rattle.std.proofs.Common.{◌≡◌, ◌+◌, ◌*◌, add-zero, zero-mul, subst, arith}
use Rattle.modular.specs.Sums.{summed_none, summed_one, Grouped, grouped_none, grouped_fits, grouped_more, group_within, summed_group}
use Rattle.recurrence.proofs.sums.sum_by.Goals as goal

pub loop-group-init : goal.loop-group-init
loop-group-init g c =
    let a = c.args in
    rw (zero-mul g.row.GROUP, add-zero a.from) (summed_none a.total a.from g.value (omega (arith, c.well_formed)) c.requires.1.1.1.0.2)

pub loop-j-init : goal.loop-j-init
loop-j-init g c = grouped_none g.row.GROUP (c.args.from + c.loop-group.group * g.row.GROUP) g.value

pub overflow_add-word : goal.overflow_add-word
overflow_add-word g c =
    let a = c.args in
    let pre = c.requires.1.1 in
    let size = g.row.GROUP in
    let l = c.loop-j in
    let inside = group_within a.from a.to c.loop-group.group size pre.0 c.loop-group-test.true pre.1.0.0 in
    let first = a.from + c.loop-group.group * size in
    let x = c.term-word.result in
    let one = pre.1.1.1 (first + l.j) x (omega arith) (omega (arith, inside, c.loop-j-test.true)) c.term-word.ensures in
    record { fits = grouped_fits x pre.0 c.loop-j-test.true l.invariant one.1 }

pub loop-j-preserved : goal.loop-j-preserved
loop-j-preserved g c =
    let a = c.args in
    let pre = c.requires.1.1 in
    let size = g.row.GROUP in
    let l = c.loop-j in
    let inside = group_within a.from a.to c.loop-group.group size pre.0 c.loop-group-test.true pre.1.0.0 in
    let first = a.from + c.loop-group.group * size in
    let x = c.term-word.result in
    let one = pre.1.1.1 (first + l.j) x (omega arith) (omega (arith, inside, c.loop-j-test.true)) c.term-word.ensures in
    grouped_more x l.invariant one.0 one.1

pub loop-group-preserved : goal.loop-group-preserved
loop-group-preserved g c =
    let a = c.args in
    let pre = c.requires.1.1 in
    let size = g.row.GROUP in
    let l = c.loop-group in
    let inside = group_within a.from a.to l.group size pre.0 c.loop-group-test.true pre.1.0.0 in
    let end : c.loop-j.j ≡ size = omega (arith, c.loop-j-test.false) in
    summed_group a.total l.sum c.add-sum.result a.from l.group size g.value c.loop-j.word pre.0 (omega (arith, inside, pre.1.0.1)) l.invariant (omega arith)
    (subst (λ n. Grouped size (a.from + l.group * size) n c.loop-j.word g.value) end c.loop-j.invariant) c.add-sum.ensures

pub loop-k-preserved : goal.loop-k-preserved
loop-k-preserved g c =
    let a = c.args in
    let pre = c.requires.1.1 in
    let l = c.loop-k in
    let x = c.term.result in
    summed_one a.total l.sum c.add-sum-in-loop-k.result a.from l.k g.value x (omega arith) (omega (arith, c.loop-k-test.true, pre.1.0.1)) l.invariant
    c.term.type_inv (pre.1.1.1 l.k x (omega arith) c.loop-k-test.true c.term.ensures).0 c.add-sum-in-loop-k.ensures
