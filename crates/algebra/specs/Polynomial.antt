-- Polynomials and sequences over a ring, both as functions from ℕ: what every later file speaks of. Laws of the product and of division
-- are the crate polynomial's, laws of recurrences the crate sequence's.
--     Below n f        f is zero from n on: fewer than n + 1 coefficients, none at n
--     Monic d f        f has degree d and leading coefficient 1
--     product f g      coefficient k is the sum of f i ⊗ g (k − i)
--     const, shift     the polynomial c; z times f
--     cons a f         a + z times f; cons_below: of one coefficient more
--     at s d f j       the sum of f i ⊗ s (i + j) over i = 0 .. d: what f of degree d makes of s at place j
--     Recurs N s d f   document 01's "f recurs on s", N the number of terms
--     Shortest N s d f monic of degree d, recurs, and nothing monic of a lower degree does
use Rattle.std.specs.Prelude.{◌≡◌, ℕ, zero, suc, ◌+◌, ◌≤◌, ◌<◌}
use Rattle.std.proofs.Math.Path.{refl}
use Rattle.std.proofs.Common.{◌∙◌, arith}
use Rattle.algebra.specs.Ring.{Ring}
use Rattle.algebra.specs.Sum.{sum}

module _ (R : Ring) where
  open R use {C, add as ◌⊕◌, mul as ◌⊗◌, zero as 𝟎, one as 𝟏}

  infixl 60 ◌⊕◌
  infixl 70 ◌⊗◌
  abbrev pub Below : ℕ → (ℕ → C) → Type 0
  Below n f = (i : ℕ) → n ≤ i → f i ≡ 𝟎

  pub record Monic (d : ℕ) (f : ℕ → C) : Type 0 where
    pub lead : f d ≡ 𝟏
    pub above : Below (suc d) f

  pub const : C → ℕ → C
  const c zero = c
  const c (suc i) = 𝟎

  pub const_zero : (c : C) → const c 0 ≡ c
  unfolding const
  const_zero c = refl

  pub const_suc : (c : C) (i : ℕ) → const c (suc i) ≡ 𝟎
  unfolding const
  const_suc c i = refl

  pub shift : (ℕ → C) → ℕ → C
  shift f zero = 𝟎
  shift f (suc i) = f i

  pub shift_zero : (f : ℕ → C) → shift f 0 ≡ 𝟎
  unfolding shift
  shift_zero f = refl

  pub shift_suc : (f : ℕ → C) (i : ℕ) → shift f (suc i) ≡ f i
  unfolding shift
  shift_suc f i = refl

  pub cons : C → (ℕ → C) → ℕ → C
  cons a f zero = a
  cons a f (suc i) = f i

  pub cons_zero : (a : C) (f : ℕ → C) → cons a f 0 ≡ a
  unfolding cons
  cons_zero a f = refl

  pub cons_suc : (a : C) (f : ℕ → C) (i : ℕ) → cons a f (suc i) ≡ f i
  unfolding cons
  cons_suc a f i = refl

  pub cons_below : (n : ℕ) (a : C) (f : ℕ → C) → Below n f → Below (suc n) (cons a f)
  cons_below n a f p zero l = absurd (omega arith)
  cons_below n a f p (suc i) l = cons_suc a f i ∙ p i (omega arith)

  -- by the first coefficient of f, so that no difference of numbers stands in it
  pub product : (ℕ → C) → (ℕ → C) → ℕ → C
  product f g zero = f 0 ⊗ g 0
  product f g (suc k) = f 0 ⊗ g (suc k) ⊕ product (λ i. f (suc i)) g k

  pub product_zero : (f g : ℕ → C) → product f g 0 ≡ f 0 ⊗ g 0
  unfolding product
  product_zero f g = refl

  pub product_suc : (f g : ℕ → C) (k : ℕ) → product f g (suc k) ≡ f 0 ⊗ g (suc k) ⊕ product (λ i. f (suc i)) g k
  unfolding product
  product_suc f g k = refl

  abbrev pub at : (ℕ → C) → ℕ → (ℕ → C) → ℕ → C
  at s d f j = sum R (suc d) (λ i. f i ⊗ s (i + j))

  abbrev pub Recurs : ℕ → (ℕ → C) → ℕ → (ℕ → C) → Type 0
  Recurs N s d f = (j : ℕ) → j + d < N → at s d f j ≡ 𝟎

  pub record Shortest (N : ℕ) (s : ℕ → C) (d : ℕ) (f : ℕ → C) : Type 0 where
    pub monic : Monic d f
    pub recurs : Recurs N s d f
    pub least : (k : ℕ) (g : ℕ → C) → Monic k g → Recurs N s k g → d ≤ k
