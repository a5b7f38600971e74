-- The solver's checks in their order (meaning's Calls).
--     slices_taken            11: the slices are as long as stated
--     solver_refused, solver_passed      they are the system's, and then 10, 13 and 11
--     words_none                         10 without rows
--     words_multiple, words_broken       10 with some, by a quotient
use Rattle.std.specs.Prelude.{◌≡◌, ◌≢◌, not, List, [], ◌∷◌, ◌++◌, ℕ, ◌*◌, ◌/◌, ◌%◌, ◌<◌, eqb, leb, length}
use Rattle.std.proofs.Math.Path.{sym, ap}
use Rattle.std.proofs.Common.{◌∙◌, append_assoc, div-add-mod', mul-le-mul, arith, eq-eqb, ne_eqb, le-leb, leb-true}
use Rattle.laws.specs.Bool.{and_both, and_false_left, same_test}
use Rattle.laws.specs.Solver.{vector_count_div, words_empty, words_some, vector_count_few}
use Rattle.meaning.specs.Matrix.{Matrix, size}
use Rattle.meaning.specs.Refusal.{Check, check, first, words_taken, window_taken}
use Rattle.meaning.specs.Calls.{system_checks, run_checks, solver_refusal}
use Rattle.laws.specs.Refusal.{numbered_system, leading_refused, leading_passed}
pub use Rattle.laws.specs.Accepted.{slices_taken}

module _ (p : ℕ) (A : Matrix) (X b words : List ℕ) (w : ℕ) (v f work : List ℕ) where
  later : List Check
  later =
      check 10 (not (words_taken (size A) words)) ∷ check 13 (not (window_taken w)) ∷ check 11 (not (slices_taken (size A) v f work)) ∷ []

  solver_refusal_system : solver_refusal p A X b words w v f work ≡ first (system_checks p A X b ++ later)
  unfolding solver_refusal run_checks later
  solver_refusal_system =
      ap first
      (append_assoc (system_checks p A X b) (check 10 (not (words_taken (size A) words)) ∷ check 13 (not (window_taken w)) ∷ [])
      (check 11 (not (slices_taken (size A) v f work)) ∷ []))

  pub solver_refused : {number : ℕ} → number ≡ first (system_checks p A X b) → number ≢ 0 → number ≡ solver_refusal p A X b words w v f work
  solver_refused e q = leading_refused (system_checks p A X b) later (numbered_system p A X b) e q ∙ sym solver_refusal_system

  pub solver_passed : {number k : ℕ} → number ≡ first (system_checks p A X b) → number ≡ 0
      → first (check 10 (not (words_taken (size A) words)) ∷ check 13 (not (window_taken w)) ∷ check 11 (not (slices_taken (size A) v f work)) ∷ []) ≡ k
      → k ≡ solver_refusal p A X b words w v f work
  unfolding later
  solver_passed e z h = leading_passed (system_checks p A X b) later (numbered_system p A X b) e z h ∙ sym solver_refusal_system

-- ---- 10 by a quotient

pub words_none : (n : ℕ) (words : List ℕ) → n ≡ 0 → eqb (length words) 0 ≡ words_taken n words
words_none n words e = sym (ap (λ k. words_taken k words) e ∙ words_empty words)

module _ (n : ℕ) (words : List ℕ) (some : 0 < n) where
  pub words_multiple : length words % n ≡ 0 → leb (length words / n) 64 ≡ words_taken n words
  words_multiple e =
      same_test (leb (length words / n) 64) (words_taken n words)
      (λ h. words_some words n some
      ∙ and_both (eq-eqb (length words % n) 0 e)
      (le-leb (length words) (64 * n)
      (omega (arith, div-add-mod' (length words) n, e, mul-le-mul {n₁ = length words / n} {m₁ = n} {n₂ = 64} {m₂ = n} (leb-true (length words / n) 64 h) (omega arith)))))
      (λ h. le-leb (length words / n) 64 (omega (arith, vector_count_div n words some, vector_count_few n words h)))

  pub words_broken : length words % n ≢ 0 → eqb (length words % n) 0 ≡ words_taken n words
  words_broken q =
      ne_eqb (length words % n) 0 q ∙ sym (words_some words n some ∙ and_false_left (leb (length words) (64 * n)) (ne_eqb (length words % n) 0 q))
