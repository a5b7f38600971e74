-- What the field's calls refuse (meaning's Calls), check by check.
--     field_taken, field_refused               the modulus
--     operation_modulus, operation_operand, operation_taken      3, 9 or 0
--     operation_accepted                       0 says what the operations without checks want
--     inverse_operation, inverse_of_zero, inverse_taken          an operation's number, 12 or 0
use mathlib.Core.Path.{◌≡◌, sym, ap, ◌∙◌}
use mathlib.Core.Logic.{◌≢◌, ◌⊎◌, inl, inr}
use mathlib.Core.Bool.{true, false, not, cond, ◌&&◌}
use mathlib.Core.List.{[], ◌∷◌}
use Prim.Native.Nat.{ℕ}
use native.Mathlib.Omega.{arith}
use lib.Dec.{eqb, ltb}
use borrow.Author.Tests.{lt-ltb, ltb-true, eq-eqb, ne_eqb}
use Rattle.meaning.specs.Field.{is_modulus}
use Rattle.meaning.specs.Refusal.{check, first, unless_refused}
use Rattle.meaning.specs.Calls.{field_refusal, operation_refusal, inverse_refusal}
use Rattle.laws.specs.Bool.{and_left, and_right, and_both, and_false_left, test_cases}
use Rattle.laws.specs.Refusal.{first_nil, first_past, first_stops}
use Rattle.field.specs.Answer.{Operands}

pub field_taken : (p : ℕ) → is_modulus p ≡ true → field_refusal p ≡ 0
unfolding field_refusal
field_taken p e = first_past 3 (not (is_modulus p)) [] (ap not e) ∙ first_nil

pub field_refused : (p : ℕ) → is_modulus p ≡ false → field_refusal p ≡ 3
unfolding field_refusal
field_refused p e = first_stops 3 (not (is_modulus p)) [] (ap not e)

module _ (p a b : ℕ) where
  pub operation_modulus : is_modulus p ≡ false → operation_refusal p a b ≡ 3
  unfolding operation_refusal
  operation_modulus e = first_stops 3 (not (is_modulus p)) (check 9 (not (ltb a p && ltb b p)) ∷ []) (ap not e)

  pub operation_operand : is_modulus p ≡ true → ltb a p && ltb b p ≡ false → operation_refusal p a b ≡ 9
  unfolding operation_refusal
  operation_operand e f =
      first_past 3 (not (is_modulus p)) (check 9 (not (ltb a p && ltb b p)) ∷ []) (ap not e)
      ∙ first_stops 9 (not (ltb a p && ltb b p)) [] (ap not f)

  pub operation_taken : is_modulus p ≡ true → ltb a p && ltb b p ≡ true → operation_refusal p a b ≡ 0
  unfolding operation_refusal
  operation_taken e f =
      first_past 3 (not (is_modulus p)) (check 9 (not (ltb a p && ltb b p)) ∷ []) (ap not e)
      ∙ first_past 9 (not (ltb a p && ltb b p)) [] (ap not f) ∙ first_nil

  pub operation_accepted : operation_refusal p a b ≡ 0 → Operands p a b
  operation_accepted z = accepted (test_cases (is_modulus p)) (test_cases (ltb a p && ltb b p))
    where
      accepted : (is_modulus p ≡ true) ⊎ (is_modulus p ≡ false) → (ltb a p && ltb b p ≡ true) ⊎ (ltb a p && ltb b p ≡ false) → Operands p a b
      accepted (inl e) (inl f) =
          record {
            modulus = e;
            left = ltb-true a p (and_left (ltb a p) (ltb b p) f);
            right = ltb-true b p (and_right (ltb a p) (ltb b p) f);
          }
      accepted (inl e) (inr f) = absurd (omega (arith, operation_operand e f))
      accepted (inr e) f = absurd (omega (arith, operation_modulus e))

module _ (p a : ℕ) where
  -- an inverse's checks begin with those of an operation on a
  inverse_modulus : is_modulus p ≡ false → inverse_refusal p a ≡ 3
  unfolding inverse_refusal
  inverse_modulus e = first_stops 3 (not (is_modulus p)) (check 9 (not (ltb a p)) ∷ check 12 (eqb a 0) ∷ []) (ap not e)

  inverse_operand : is_modulus p ≡ true → ltb a p ≡ false → inverse_refusal p a ≡ 9
  unfolding inverse_refusal
  inverse_operand e f =
      first_past 3 (not (is_modulus p)) (check 9 (not (ltb a p)) ∷ check 12 (eqb a 0) ∷ []) (ap not e)
      ∙ first_stops 9 (not (ltb a p)) (check 12 (eqb a 0) ∷ []) (ap not f)

  inverse_past : operation_refusal p a a ≡ 0 → inverse_refusal p a ≡ first (check 12 (eqb a 0) ∷ [])
  unfolding inverse_refusal
  inverse_past z =
      let o : Operands p a a = operation_accepted p a a z in
      first_past 3 (not (is_modulus p)) (check 9 (not (ltb a p)) ∷ check 12 (eqb a 0) ∷ []) (ap not o.modulus)
      ∙ first_past 9 (not (ltb a p)) (check 12 (eqb a 0) ∷ []) (ap not (lt-ltb a p o.left))

  pub inverse_operation : operation_refusal p a a ≢ 0 → operation_refusal p a a ≡ inverse_refusal p a
  inverse_operation f = refused (test_cases (is_modulus p)) (test_cases (ltb a p))
    where
      refused : (is_modulus p ≡ true) ⊎ (is_modulus p ≡ false) → (ltb a p ≡ true) ⊎ (ltb a p ≡ false) → operation_refusal p a a ≡ inverse_refusal p a
      refused (inl e) (inl l) = absurd (f (operation_taken p a a e (and_both l l)))
      refused (inl e) (inr l) = operation_operand p a a e (and_false_left (ltb a p) l) ∙ sym (inverse_operand e l)
      refused (inr e) l = operation_modulus p a a e ∙ sym (inverse_modulus e)

  pub inverse_of_zero : operation_refusal p a a ≡ 0 → a ≡ 0 → inverse_refusal p a ≡ 12
  inverse_of_zero z q = inverse_past z ∙ first_stops 12 (eqb a 0) [] (eq-eqb a 0 q)

  pub inverse_taken : operation_refusal p a a ≡ 0 → a ≢ 0 → inverse_refusal p a ≡ 0
  inverse_taken z q = inverse_past z ∙ first_past 12 (eqb a 0) [] (ne_eqb a 0 q) ∙ first_nil
