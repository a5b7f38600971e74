use mathlib.Core.Path.{sym, ap, ◌∙◌}
use mathlib.Core.Bool.{not}
use lib.ListN.{length}
use native.Mathlib.Omega.{arith}
use borrow.Author.Tests.{lt-leb, le-leb}
use Rattle.meaning.specs.Calls.{recurrence_refusal}
use Rattle.laws.specs.Bool.{not_as}
use Rattle.laws.specs.Refusal.{first_stops, first_past, first_nil}
use Rattle.checks.proofs.check_recurrence.Goals as goal

pub returns-then-not-is_modulus : goal.returns-then-not-is_modulus
unfolding recurrence_refusal
returns-then-not-is_modulus c = sym (first_stops 3 _ _ (not_as c.is_modulus.ensures c.if-not-is_modulus.true))

pub returns-then-s-gt8192 : goal.returns-then-s-gt8192
unfolding recurrence_refusal
returns-then-s-gt8192 c =
    sym (first_past 3 _ _ (not_as c.is_modulus.ensures c.if-not-is_modulus.false) ∙ first_stops 8 _ _ (ap not (lt-leb _ _ c.if-s-gt8192.true)))

pub returns-then-not-are_elements : goal.returns-then-not-are_elements
unfolding recurrence_refusal
returns-then-not-are_elements c =
    sym
    (first_past 3 _ _ (not_as c.is_modulus.ensures c.if-not-is_modulus.false) ∙ first_past 8 _ _ (ap not (le-leb (length c.args.s.now) 8192 (omega arith)))
    ∙ first_stops 9 _ _ (not_as c.are_elements.ensures c.if-not-are_elements.true))

pub returns-then-not-polynomial-s : goal.returns-then-not-polynomial-s
unfolding recurrence_refusal
returns-then-not-polynomial-s c =
    sym
    (first_past 3 _ _ (not_as c.is_modulus.ensures c.if-not-is_modulus.false) ∙ first_past 8 _ _ (ap not (le-leb (length c.args.s.now) 8192 (omega arith)))
    ∙ first_past 9 _ _ (not_as c.are_elements.ensures c.if-not-are_elements.false) ∙ first_stops 11 _ _ (ap not c.if-not-polynomial-s.true))

pub returns : goal.returns
unfolding recurrence_refusal
returns c =
    sym
    (first_past 3 _ _ (not_as c.is_modulus.ensures c.if-not-is_modulus.false) ∙ first_past 8 _ _ (ap not (le-leb (length c.args.s.now) 8192 (omega arith)))
    ∙ first_past 9 _ _ (not_as c.are_elements.ensures c.if-not-are_elements.false) ∙ first_past 11 _ _ (ap not c.if-not-polynomial-s.false) ∙ first_nil)
