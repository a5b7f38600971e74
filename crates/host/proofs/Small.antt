-- The two lengths that the calls answer as `usize` fit a struct's 32 bits.
--     degree_small       of a recurrence
--     length_small       of a written text
use mathlib.Core.Path.{◌≡◌, refl, ap}
use mathlib.Core.Bool.{Bool, true, false, not, cond, ◌&&◌}
use mathlib.Core.List.{List, [], ◌∷◌}
use Prim.Native.Nat.{ℕ, ◌+◌, ◌*◌, ◌≤◌}
use native.Mathlib.Omega.{arith}
use lib.Dec.{eqb, leb}
use lib.ListN.{length}
use borrow.Author.Tests.{eqb-true, eq-eqb, leb-true}
use Rattle.meaning.specs.Matrix.{Matrix}
use Rattle.meaning.specs.Field.{is_modulus}
use Rattle.meaning.specs.Recurrence.{degree}
use Rattle.meaning.specs.Text.{write}
use Rattle.meaning.specs.Refusal.{check, first, elements}
use Rattle.meaning.specs.Calls.{recurrence_refusal, recurrence_answer, system_checks, writer_refusal, writer_answer}
use Rattle.laws.specs.Refusal.{first_passed, numbered_system, first_append_zero}
use Rattle.residue.specs.Prime.{is_modulus_Prime}
use Rattle.laws.specs.Recurrence.{degree_within}
use Rattle.text_laws.specs.Accepted.{system_accepted, system_scales}
use Rattle.text_laws.specs.Length.{write_within}

module _ (p : ℕ) (s polynomial work : List ℕ) where
  taken : recurrence_refusal p s polynomial work ≡ 0 → (is_modulus p ≡ true) × (leb (length s) 8192 ≡ true)
  unfolding recurrence_refusal
  taken e =
      let after = check 9 (not (elements p s)) ∷ check 11 (not (eqb (length polynomial) (length s + 1) && leb (4 * length s + 8) (length work))) ∷ [] in
      let modulus = first_passed 3 (is_modulus p) (check 8 (not (leb (length s) 8192)) ∷ after) (omega arith) e in
      (modulus.0, (first_passed 8 (leb (length s) 8192) after (omega arith) modulus.1).0)

  pub degree_small : recurrence_refusal p s polynomial work ≡ 0 → recurrence_answer p s polynomial work ≤ 8192
  degree_small e =
      omega (
        arith,
        ap (λ t. cond t (degree p s) 0) (eq-eqb (recurrence_refusal p s polynomial work) 0 e),
        degree_within p (is_modulus_Prime p (taken e).0).two_le s,
        leb-true (length s) 8192 (taken e).1,
      )

module _ (p : ℕ) (A : Matrix) (X b out : List ℕ) where
  system_taken : writer_refusal p A X b out ≡ 0 → first (system_checks p A X b) ≡ 0
  unfolding writer_refusal
  system_taken e = (first_append_zero (system_checks p A X b) _ (numbered_system p A X b) e).0

  pub length_small : writer_answer p A X b out ≤ 2097152
  length_small = go (eqb (writer_refusal p A X b out) 0) refl
    where
      go : (t : Bool) → eqb (writer_refusal p A X b out) 0 ≡ t → cond t (length (write p A X b)) 0 ≤ 2097152
      go true e =
          let taken = system_taken (eqb-true (writer_refusal p A X b out) 0 e) in
          write_within p A X b (system_accepted p A X b taken) (system_scales p A X b taken)
      go false e = omega arith
