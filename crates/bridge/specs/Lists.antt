-- Tables, lists and operations on numbers (meaning's) as sequences and operations on residues, besides what residue's Lists has.
--     reduced_table_mod, every_reduced, reduced_every      lists whose elements are below p
--     table_coef       a table is a sequence that is zero from n on, if it has its residues before n
--     coef_nil, coef_one, coef_shift      no element; one element; 0 before a list is z times it
--     mk_dot_mod       a sum of products modulo p
--     mk_times, mk_difference      the product and the difference of numbers, through mk
use Rattle.std.specs.Prelude.{◌≡◌, true, List, [], ◌∷◌, ℕ, zero, suc, ◌+◌, ◌-◌, ◌*◌, ◌%◌, ◌<◌, ltb}
use Rattle.std.proofs.Common.{sym, ◌∙◌, mod-lt, mod-eq_of_lt, arith, ltb-true, lt-ltb}
use Rattle.std.proofs.Math.Path.{ap, fun_ext}
use Rattle.std.proofs.Math.Decide.{dec_lt}
use Rattle.meaning.specs.List.{at, table, every}
use Rattle.meaning.specs.List as number
use Rattle.meaning.specs.Field.{minus, times}
use Rattle.laws.specs.List.{every_at, every_of}
use Rattle.algebra.specs.Sum.{sum}
use Rattle.algebra.specs.Polynomial.{Below, const, const_zero, const_suc, shift, shift_zero, shift_suc}
use Rattle.residue.specs.Prime.{Prime}
use Rattle.residue.specs.Residue.{residues, mk, mk_zero, mk_mod, mk_mul, mk_sub}
use Rattle.residue.specs.Lists.{Reduced, reduced_table, coef, coef_table, coef_table_below, mk_dot}

module _ (p : ℕ) where
  pub reduced_table_mod : (n : ℕ) (f : ℕ → ℕ) → 0 < p → Reduced p (table n (λ i. f i % p))
  reduced_table_mod n f k = reduced_table p n (λ i. f i % p) (λ i l. mod-lt (f i) k)

  pub every_reduced : (l : List ℕ) → every (λ a. ltb a p) l ≡ true → Reduced p l
  every_reduced l e i k = ltb-true (at l i) p (every_at (λ a. ltb a p) l 0 e i k)

  pub reduced_every : (l : List ℕ) → Reduced p l → every (λ a. ltb a p) l ≡ true
  reduced_every l r = every_of (λ a. ltb a p) l 0 (λ i k. lt-ltb (at l i) p (r i k))

module _ (p : ℕ) (h : Prime p) where
  open residues p h use {ring as R}
  open R use {C, add as ◌⊕◌, mul as ◌⊗◌, neg as ⊖◌, zero as 𝟎}

  infixl 60 ◌⊕◌
  infixl 70 ◌⊗◌
  infix 75 ⊖◌
  pub table_coef : (n : ℕ) (f : ℕ → ℕ) (g : ℕ → C) → ((i : ℕ) → i < n → mk p h (f i) ≡ g i) → Below R n g → coef p h (table n f) ≡ g
  table_coef n f g e b = fun_ext (λ i. place i (dec_lt i n))
    where
      place : (i : ℕ) → Dec (i < n) → coef p h (table n f) i ≡ g i
      place i (yes k) = coef_table p h n f i k ∙ e i k
      place i (no k) = coef_table_below p h n f i (omega arith) ∙ sym (b i (omega arith))

  pub coef_nil : coef p h [] ≡ (λ i. 𝟎)
  coef_nil = fun_ext (λ i. mk_zero p h)

  pub coef_one : (a : ℕ) → coef p h (a ∷ []) ≡ const R (mk p h a)
  coef_one a = fun_ext place
    where
      place : (i : ℕ) → coef p h (a ∷ []) i ≡ const R (mk p h a) i
      place zero = sym (const_zero R (mk p h a))
      place (suc i) = mk_zero p h ∙ sym (const_suc R (mk p h a) i)

  pub coef_shift : (l : List ℕ) → coef p h (0 ∷ l) ≡ shift R (coef p h l)
  coef_shift l = fun_ext place
    where
      place : (i : ℕ) → coef p h (0 ∷ l) i ≡ shift R (coef p h l) i
      place zero = mk_zero p h ∙ sym (shift_zero R (coef p h l))
      place (suc i) = sym (shift_suc R (coef p h l) i)

  pub mk_dot_mod : (n : ℕ) (f g : ℕ → ℕ) → mk p h (number.sum n (λ i. f i * g i) % p) ≡ sum R n (λ i. mk p h (f i) ⊗ mk p h (g i))
  mk_dot_mod n f g = mk_mod p h (number.sum n (λ i. f i * g i)) ∙ mk_dot p h n f g

  pub mk_times : (a b : ℕ) → mk p h (times p a b) ≡ mk p h a ⊗ mk p h b
  unfolding times
  mk_times a b = mk_mod p h (a * b) ∙ mk_mul p h a b

  pub mk_difference : (a b : ℕ) → b < p → mk p h (minus p a b) ≡ mk p h a ⊕ ⊖ mk p h b
  unfolding minus
  mk_difference a b l =
      mk_mod p h (a + (p - b)) ∙ ap (λ x. mk p h (a + (p - x))) (sym (mod-eq_of_lt l)) ∙ mk_sub p h a b
