use mathlib.Core.Path.{◌≡◌, sym, ap, subst, ◌∙◌}
use Prim.Native.Nat.{◌+◌, ◌≤◌}
use lib.ListN.{take}
use Rattle.meaning.specs.Recurrence.{IsShortest}
use Rattle.meaning.specs.Calls.{recurrence_refusal, recurrence_answer}
use Rattle.recurrence.specs.Recurrence.{GivesDegree}
use Rattle.host.specs.declared.recurrences.Degree.{Degree}
use Rattle.host.proofs.Laid.{degree_answered, degree_low}
use Rattle.host.proofs.Small.{degree_small}
use Rattle.host.proofs.recurrences.filzeur_recurrence.Goals as goal

pub numbers_of-requires : goal.numbers_of-requires
numbers_of-requires c =
    let at = c.args in
    degree_low c.recurrence.result (recurrence_refusal at.p at.s.now at.polynomial.now at.work.now)
    (recurrence_answer at.p at.s.now at.polynomial.now at.work.now) c.recurrence.ensures.gives
    (degree_small at.p at.s.now at.polynomial.now at.work.now)

pub returns : goal.returns
returns c =
    let at = c.args in
    let number = recurrence_refusal at.p at.s.now at.polynomial.now at.work.now in
    let answer = recurrence_answer at.p at.s.now at.polynomial.now at.work.now in
    let done = c.recurrence.ensures in
    let e = c.numbers_of.ensures number answer done.gives in
    let refusal : c.numbers_of.result.refusal ≡ number = ap (λ (d : Degree). d.refusal) e in
    let degree : c.numbers_of.result.degree ≡ answer = ap (λ (d : Degree). d.degree) e in record {
      value = e;
      polynomial_after = done.after;
      work_unchanged = λ q. done.kept (λ z. q (refusal ∙ z));
      shortest = λ q. subst (λ L. IsShortest at.p at.s.now L (take (L + 1) c.recurrence.new.polynomial)) (sym degree)
          (done.shortest answer (degree_answered c.recurrence.result number answer done.gives (sym refusal ∙ q)));
    }
