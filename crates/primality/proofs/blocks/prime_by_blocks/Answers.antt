use mathlib.Core.Path.{◌≡◌, sym, subst, ◌∙◌}
use Prim.Native.Nat.{◌≤◌}
use native.Mathlib.Nat.{mul-le-mul}
use native.Mathlib.Omega.{arith}
use lib.ListN.{length}
use Rattle.meaning.specs.List.{at}
use Rattle.residue.specs.Prime.{is_prime_Prime}
use Rattle.primality.proofs.Walk.{free_end, tables_block, tables_free, tables_divided}
use Rattle.primality.proofs.blocks.prime_by_blocks.Goals as goal

pub overflow_mul-start : goal.overflow_mul-start
overflow_mul-start c =
    let i = c.loop-i.i in
    let r = tables_block c.requires.0 c.requires.1 i (omega arith) in
    let l : at c.args.starts.now i ≤ 65535 = omega (arith, r.ordered, r.below) in
    omega (arith, mul-le-mul l l)

pub returns-then-start-p : goal.returns-then-start-p
returns-then-start-p c =
    let pre = c.requires in
    sym ((is_prime_Prime _).1 (free_end _ _ (omega (arith, pre.0.large)) c.loop-i.invariant.1 c.if-start-p.true))

pub returns-then-not-none_divides : goal.returns-then-not-none_divides
returns-then-not-none_divides c =
    let pre = c.requires in
    let loop = c.loop-i in
    sym (tables_divided pre.0 pre.1 loop.i (omega arith) loop.invariant.0
    (sym c.none_divides.ensures ∙ c.if-not-none_divides.true))

pub loop-i-preserved : goal.loop-i-preserved
loop-i-preserved c =
    let pre = c.requires in
    let loop = c.loop-i in (
      omega (arith, (tables_block pre.0 pre.1 loop.i (omega arith)).ordered, loop.invariant.0),
      tables_free pre.0 pre.1 loop.i (omega arith) loop.invariant.0
          (sym c.none_divides.ensures ∙ c.if-not-none_divides.false) loop.invariant.1,
    )

pub returns : goal.returns
returns c =
    let a = c.args in
    let pre = c.requires in
    let e : c.loop-i.i ≡ length a.limits.now = omega arith in
    let d = at a.starts.now c.loop-i.i in
    let l : 46341 ≤ d = subst (λ i. 46341 ≤ at a.starts.now i) (sym e) pre.1.last in
    sym ((is_prime_Prime _).1 (free_end a.p d (omega (arith, pre.0.large)) c.loop-i.invariant.1 (omega (arith, pre.0.small, mul-le-mul l l))))
