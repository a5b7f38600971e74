-- A bounded search for an element that is not zero.
--     First n v        the first place below n where v is not zero
--     first_nonzero    v is zero at every place below n, or there is a first place where it is not
use Rattle.std.specs.Prelude.{◌≡◌, ◌≢◌, ◌⊎◌, ℕ, zero, suc, ◌<◌}
use Rattle.std.proofs.Common.{inl, inr, arith}
use Rattle.algebra.specs.Ring.{Field}
use Rattle.sequence.specs.Zeros.{zero_place}

module _ (F : Field) where
  open F use {ring as R, zero?}
  open R use {C, zero as 𝟎}

  pub record First (n : ℕ) (v : ℕ → C) : Type 0 where
    pub place : ℕ
    pub under : place < n
    pub before : (i : ℕ) → i < place → v i ≡ 𝟎
    pub nonzero : v place ≢ 𝟎

  pub first_nonzero : (n : ℕ) (v : ℕ → C) → ((i : ℕ) → i < n → v i ≡ 𝟎) ⊎ First n v
  first_nonzero zero v = inl (λ i l. absurd (omega arith))
  first_nonzero (suc n) v = go (first_nonzero n v) (zero? (v n))
    where
      go : ((i : ℕ) → i < n → v i ≡ 𝟎) ⊎ First n v → Dec (v n ≡ 𝟎) → ((i : ℕ) → i < suc n → v i ≡ 𝟎) ⊎ First (suc n) v
      go (inl h) (yes e) = inl (λ i l. zero_place R v n i e (λ m. h i (omega arith)))
      go (inl h) (no m) = inr (record { place = n; under = omega arith; before = h; nonzero = m })
      go (inr f) d = inr (record { place = f.place; under = omega arith; before = f.before; nonzero = f.nonzero })
