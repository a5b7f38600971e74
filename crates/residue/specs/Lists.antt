-- Lists of numbers as sequences of residues, and sums of numbers as sums of residues.
--     Reduced p l      every element of l is below p
--     reduced_get_or     then get_or l i 0 is, at every place i
--     reduced_table    a table of numbers below p is such a list
--     sum_head         a sum of numbers from its first term on
--     coef l i         the residue of l's element at i, zero from the length on (coef_below)
--     coef_ext         a reduced list is determined by its length and its residues
--     coef_table, coef_table_below      coef of a table
--     values n f       the numbers of f 0, .., f (n − 1)
--     mk_sum           the meaning's sum of numbers, modulo p, is the ring's sum
--     mk_dot           a sum of products of numbers modulo p
use Rattle.std.specs.Prelude.{◌≡◌, refl, List, [], ◌∷◌, ℕ, zero, suc, ◌+◌, ◌*◌, ◌<◌, length, get_or}
use Rattle.std.proofs.Common.{sym, ap, ◌∙◌, arith, ext_get_or}
use Rattle.std.proofs.Math.Decide.{dec_lt}
use Rattle.std.proofs.Math.ListN.{get_or-eq_default}
use Rattle.meaning.specs.List.{table, sum as sumℕ}
use Rattle.laws.specs.List.{length_table, get_or_table, sum_zero as sumℕ-zero, sum_suc as sumℕ-suc}
use Rattle.algebra.specs.Sum.{sum, sum_zero, sum_suc, sum_ext}
use Rattle.algebra.specs.Polynomial.{Below}
use Rattle.residue.specs.Prime.{Prime}
use Rattle.residue.specs.Residue.{residues, mk, value, mk_zero, mk_add, mk_mul, mk_inj}

abbrev pub Reduced : ℕ → List ℕ → Type 0
Reduced p l = (i : ℕ) → i < length l → get_or l i 0 < p

pub reduced_get_or : (p : ℕ) (l : List ℕ) → 0 < p → Reduced p l → (i : ℕ) → get_or l i 0 < p
reduced_get_or p l k r i = split (dec_lt i (length l))
  where
    split : Dec (i < length l) → get_or l i 0 < p
    split (yes b) = r i b
    split (no b) = rw (get_or-eq_default l 0 {n = i} (omega arith)) k

pub reduced_table : (p n : ℕ) (f : ℕ → ℕ) → ((i : ℕ) → i < n → f i < p) → Reduced p (table n f)
reduced_table p n f b i k =
    let l : i < n = omega (arith, length_table n f) in
    rw (get_or_table n f i 0 l) (b i l)

get_d_default : (l : List ℕ) (i c d : ℕ) → i < length l → get_or l i c ≡ get_or l i d
get_d_default [] i c d k = absurd (omega arith)
get_d_default (x ∷ l) zero c d k = refl
get_d_default (x ∷ l) (suc i) c d k = get_d_default l i c d (omega arith)

pub sum_head : (n : ℕ) (f : ℕ → ℕ) → sumℕ (suc n) f ≡ f 0 + sumℕ n (λ i. f (suc i))
sum_head zero f = omega (arith, sumℕ-suc 0 f, sumℕ-zero f, sumℕ-zero (λ i. f (suc i)))
sum_head (suc n) f = omega (arith, sumℕ-suc (suc n) f, sum_head n f, sumℕ-suc n (λ i. f (suc i)))

module _ (p : ℕ) (h : Prime p) where
  open residues p h use {ring as R, inv}
  open R use {C, add as ◌⊕◌, mul as ◌⊗◌, neg as ⊖◌, zero as 𝟎, one as 𝟏}

  infixl 60 ◌⊕◌
  infixl 70 ◌⊗◌
  infix 75 ⊖◌
  abbrev pub coef : List ℕ → ℕ → C
  coef l i = mk p h (get_or l i 0)

  pub coef_below : (l : List ℕ) → Below R (length l) (coef l)
  coef_below l i k = ap (mk p h) (get_or-eq_default l 0 k) ∙ mk_zero p h

  pub coef_ext : (l m : List ℕ) → Reduced p l → Reduced p m → length l ≡ length m → ((i : ℕ) → i < length l → coef l i ≡ coef m i) → l ≡ m
  coef_ext l m r s e f = ext_get_or 0 l m e (λ i k. mk_inj p h (get_or l i 0) (get_or m i 0) (r i k) (s i (omega arith)) (f i k))

  pub coef_table : (n : ℕ) (f : ℕ → ℕ) (i : ℕ) → i < n → coef (table n f) i ≡ mk p h (f i)
  coef_table n f i k = ap (mk p h) (get_or_table n f i 0 k)

  pub coef_table_below : (n : ℕ) (f : ℕ → ℕ) → Below R n (coef (table n f))
  coef_table_below n f i k = coef_below (table n f) i (omega (arith, length_table n f))

  -- a sequence that is zero from n on, written down as n numbers
  abbrev pub values : ℕ → (ℕ → C) → List ℕ
  values n f = table n (λ i. value p h (f i))

  pub mk_sum : (n : ℕ) (f : ℕ → ℕ) → mk p h (sumℕ n f) ≡ sum R n (λ i. mk p h (f i))
  mk_sum zero f = ap (mk p h) (sumℕ-zero f) ∙ mk_zero p h ∙ sym (sum_zero R (λ i. mk p h (f i)))
  mk_sum (suc n) f =
      ap (mk p h) (sumℕ-suc n f) ∙ mk_add p h (sumℕ n f) (f n) ∙ ap (λ a. a ⊕ mk p h (f n)) (mk_sum n f)
      ∙ sym (sum_suc R n (λ i. mk p h (f i)))

  pub mk_dot : (n : ℕ) (f g : ℕ → ℕ) → mk p h (sumℕ n (λ i. f i * g i)) ≡ sum R n (λ i. mk p h (f i) ⊗ mk p h (g i))
  mk_dot n f g =
      mk_sum n (λ i. f i * g i)
      ∙ sum_ext R n (λ i. mk p h (f i * g i)) (λ i. mk p h (f i) ⊗ mk p h (g i)) (λ i l. mk_mul p h (f i) (g i))
