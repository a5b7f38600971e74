use Rattle.std.proofs.lemmas.Result.{err_from_is_err_and}
use Rattle.refusal.specs.Number.{number_positive}
use mathlib.Core.Bool.{true, not}
use mathlib.Core.Path.{refl, ◌≡◌, sym, ap, ◌∙◌}
use native.Mathlib.Omega.{arith}
use Prim.Native.Nat.{◌≤◌}
use lib.ListN.{length}
use borrow.Author.Tests.{le-leb, lt-leb}
use Rattle.meaning.specs.Refusal.{window_taken}
use Rattle.laws.specs.Refusal.{first_stops, first_past, first_nil}
use Rattle.checks.specs.Matrix.{system_sized}
use Rattle.checks.specs.Solver.{solver_refused, solver_passed}
use Rattle.checks.proofs.check_solve.Goals.{In_ok-check_system, Else-window-gt64}
use Rattle.checks.proofs.check_solve.Goals as goal

pub returns-in_err-check_system : goal.returns-in_err-check_system
returns-in_err-check_system c =
    let exit = err_from_is_err_and c.from_residual.result c.from_residual.ensures.1 in
    rw (exit.1, exit.2) (solver_refused _ _ _ _ _ _ _ _ _ c.in_err-check_system.ensures (number_positive c.in_err-check_system.field-0.0))

-- n is 0 to 4,096
sized : (c : In_ok-check_system) → (1 ≤ length c.args.a.now.starts.now) × (length c.args.a.now.starts.now ≤ 4097)
sized c = system_sized _ _ _ _ c.in_ok-check_system.ensures refl

pub overflow_sub-n : goal.overflow_sub-n
overflow_sub-n c = omega (arith, (sized (goal.at.overflow_sub-n c).In_ok-check_system).0)

pub returns-then-not-words_taken : goal.returns-then-not-words_taken
returns-then-not-words_taken c =
    solver_passed _ _ _ _ _ _ _ _ _ c.in_ok-check_system.ensures refl
    (first_stops 10 _ _ (ap not (sym c.words_taken.ensures ∙ c.if-not-words_taken.true)))

pub returns-then-window-gt64 : goal.returns-then-window-gt64
returns-then-window-gt64 c =
    solver_passed _ _ _ _ _ _ _ _ _ c.in_ok-check_system.ensures refl
    (first_past 10 _ _ (ap not (sym c.words_taken.ensures ∙ c.if-not-words_taken.false)) ∙ first_stops 13 _ _ (ap not (lt-leb _ 64 c.if-window-gt64.true)))

-- the window is at most 64
low : (c : Else-window-gt64) → window_taken c.args.window ≡ true
low c = le-leb c.args.window 64 (omega (arith, c.if-window-gt64.false))

pub overflow_add-n : goal.overflow_add-n
overflow_add-n c = let few = (sized (goal.at.overflow_add-n c).In_ok-check_system).1 in omega (arith, few)

pub overflow_mul-n : goal.overflow_mul-n
overflow_mul-n c = let few = (sized (goal.at.overflow_mul-n c).In_ok-check_system).1 in omega (arith, few)

pub overflow_add-n-2 : goal.overflow_add-n-2
overflow_add-n-2 c = let few = (sized (goal.at.overflow_add-n-2 c).In_ok-check_system).1 in omega (arith, few)

pub returns-then-not-vector-n : goal.returns-then-not-vector-n
returns-then-not-vector-n c =
    solver_passed _ _ _ _ _ _ _ _ _ c.in_ok-check_system.ensures refl
    (first_past 10 _ _ (ap not (sym c.words_taken.ensures ∙ c.if-not-words_taken.false))
    ∙ first_past 13 _ _ (ap not (low (goal.at.returns-then-not-vector-n c).Else-window-gt64)) ∙ first_stops 11 _ _ (ap not c.if-not-vector-n.true))

pub returns : goal.returns
returns c =
    solver_passed _ _ _ _ _ _ _ _ _ c.in_ok-check_system.ensures refl
    (first_past 10 _ _ (ap not (sym c.words_taken.ensures ∙ c.if-not-words_taken.false))
    ∙ first_past 13 _ _ (ap not (low (goal.at.returns c).Else-window-gt64)) ∙ first_past 11 _ _ (ap not c.if-not-vector-n.false) ∙ first_nil)
