-- Products of two lists by their places (src/diagonal.rt).
--     scaled_by m X v       what the code gives for all words: v by the scales X, if they are as many
--     scaled_none, scaled_all      by its cases
--     scale_of             .. is Xv for a modulus that `of` made, elements below p, and no scales or as many, below p too
use Rattle.std.specs.Prelude.{◌≡◌, ℕ, ◌*◌, ◌%◌, ◌<◌, cond, ◌≢◌, ◌⊎◌, List, [], length, ◌==◌}
use Rattle.std.proofs.Math.Path.{refl, ap}
use Rattle.std.proofs.Common.{sym, ◌∙◌, inl, inr, mul-one, mod-eq_of_lt, arith, eq-eqb, ne_eqb}
use Rattle.std.proofs.Math.Decide.{ℕ_discrete}
use Rattle.meaning.specs.List.{at, table}
use Rattle.meaning.specs.Matrix.{scale_at, diagonal}
use Rattle.laws.specs.List.{get_d_any, table_ext, table_of, length_none}
use Rattle.modular.specs.declared.modulus.Modulus.{Modulus}
use Rattle.modular.specs.Modulus.{barrett, Modular, remainder_of}
use Rattle.modular.specs.Words.{words_fit}

unfoldable pub scaled_by : Modulus → List ℕ → List ℕ → List ℕ
scaled_by m X v = cond (length X == length v) (table (length v) (λ j. barrett m (at v j * at X j))) v

module _ (m : Modulus) (X v : List ℕ) where
  pub scaled_none : length X ≢ length v → scaled_by m X v ≡ v
  unfolding scaled_by
  scaled_none q = ap (λ t. cond t (table (length v) (λ j. barrett m (at v j * at X j))) v) (ne_eqb (length X) (length v) q)

  pub scaled_all : length X ≡ length v → scaled_by m X v ≡ table (length v) (λ j. barrett m (at v j * at X j))
  unfolding scaled_by
  scaled_all e = ap (λ t. cond t (table (length v) (λ j. barrett m (at v j * at X j))) v) (eq-eqb (length X) (length v) e)

  pub scale_of : Modular m → (length X ≡ 0) ⊎ (length X ≡ length v) → ((j : ℕ) → j < length X → at X j < m.p) → ((j : ℕ) → j < length v → at v j < m.p)
      → scaled_by m X v ≡ diagonal m.p X v
  unfolding diagonal
  scale_of h number below elements = go (ℕ_discrete (length X) (length v))
    where
      go : Dec (length X ≡ length v) → scaled_by m X v ≡ table (length v) (λ j. at v j * scale_at X j % m.p)
      go (yes e) =
          scaled_all e
          ∙ table_ext (length v) (λ j. barrett m (at v j * at X j)) (λ j. at v j * scale_at X j % m.p)
          (λ j l. remainder_of m h (at v j * at X j)
          (words_fit (at v j) (at X j) (omega (arith, elements j l, h.small)) (omega (arith, below j (omega (arith, e, l)), h.small)))
          ∙ ap (λ s. at v j * s % m.p) (same j (omega (arith, e, l))))
        where
          same : (j : ℕ) → j < length X → at X j ≡ scale_at X j
          same j l = get_d_any X j 0 1 l
      go (no q) = scaled_none q ∙ table_of 0 v (length v) (λ j. at v j * scale_at X j % m.p) refl (λ j l. plain j l (none number))
        where
          none : (length X ≡ 0) ⊎ (length X ≡ length v) → X ≡ []
          none (inl z) = length_none X z
          none (inr e) = absurd (q e)

          plain : (j : ℕ) → j < length v → X ≡ [] → at v j ≡ at v j * scale_at X j % m.p
          plain j l z = sym (ap (λ Y. at v j * scale_at Y j % m.p) z ∙ ap (λ x. x % m.p) (mul-one (at v j)) ∙ mod-eq_of_lt (elements j l))
