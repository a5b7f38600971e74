use Rattle.recurrence.specs.Factor.{Meeting, crossing, coefficient}
use mathlib.Core.Logic.{inl, inr}
use native.Mathlib.Omega.{arith}
use Rattle.modular.specs.Total.{residue_number}
use mathlib.Core.Path.{◌∙◌}
use Rattle.recurrence.proofs.factor.coefficient.Goals.{Joined-k-d, then-k-t, else-k-t, then-k-d, else-k-d}
use Rattle.recurrence.proofs.factor.coefficient.Goals as goal

-- the sum's bounds
meeting : (c : Joined-k-d) → Meeting c.args.factors.d c.args.factors.t c.args.k c.if-k-t.from c.if-k-d.to
meeting c =
    record {
      inside = c.requires.2;
      start = elim c.if-k-t.branch [ then-k-t w ↦ omega arith | else-k-t w ↦ omega arith ];
      low = elim c.if-k-d.branch [ then-k-d w ↦ omega arith | else-k-d w ↦ omega arith ];
      short = elim c.if-k-d.branch [ then-k-d w ↦ omega arith | else-k-d w ↦ omega arith ];
      end = elim c.if-k-d.branch [ then-k-d w ↦ inl (omega arith) | else-k-d w ↦ inr (omega arith) ];
    }

pub crossed-requires : goal.crossed-requires
crossed-requires c = let pre = c.requires in crossing pre.1 (meeting (goal.at.crossed-requires c).Joined-k-d) pre.0.small

pub returns : goal.returns
returns c =
    let sum = c.crossed in
    coefficient c.requires.1 (meeting (goal.at.returns c).Joined-k-d) sum.result c.residue.result sum.ensures
    (c.residue.ensures ∙ residue_number c.args.m sum.result c.requires.0 sum.ensures.low
    (omega (arith, sum.ensures.carries, (meeting (goal.at.returns c).Joined-k-d).short, c.requires.1.few)))
