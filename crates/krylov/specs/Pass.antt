-- One pass: what follows when f, of degree t, is a shortest recurrence of the projected sequence of r. f is any such, however it was found.
--     zero_for_ever        a sequence that a monic polynomial of degree k takes to zero is zero, if its first k terms are
--     shorter_zeros        what is shorter than a shortest recurrence and takes the sequence to zero for ever is zero
--     Factor A k g t f r   g of degree k is a monic cofactor times f of degree t, and the cofactor kills f(A)r
--     product_factor       g is so, if it kills r and is such a product
--     blind_apply          a projection that sees nothing of w, A w, A²w, .. sees nothing of q(A)w
--     pass_degree          t is at most the degree of whatever kills r
--     pass_early           f of the first M terms is one of the first N ≥ M terms too, if it kills r
--   and if r has an annihilator of degree at most left, and f is of the first 2·left terms:
--     pass_blind           u·Aʲf(A)r = 0 for every j
--     pass_factor          whatever kills r has the factor f
--     pass_progress        t is not 0, if u·r is not 0
use Rattle.std.specs.Prelude.{◌≡◌, ◌≢◌, ◌⊎◌}
use Rattle.std.proofs.Math.Path.{sym, ap, ap₂}
use Rattle.std.proofs.Common.{subst, ◌∙◌, inl, inr, pos_of_ne-zero, sub-add_cancel, arith}
use Prim.Native.Nat.{ℕ, zero, suc, ◌+◌, ◌-◌, ◌≤◌, ◌<◌}
use Rattle.std.proofs.Math.Decide.{dec_lt}
use Rattle.algebra.specs.Ring.{Ring, Field, ring-laws}
use Rattle.algebra.specs.Ring as ring
use Rattle.algebra.specs.Sum.{sum, sum_suc, sum_scale, sum_zeros, sum_extend}
use Rattle.algebra.specs.Polynomial.{Below, Monic, product, at, Shortest}
use Rattle.polynomial.specs.Degree.{Degree, zeros_or_degree, monic_made}
use Rattle.polynomial.specs.Division.{Division, divide, exact_quotient, monic_quotient}
use Rattle.krylov.specs.Operator.{Operator, Linear, Kills, Annihilator, apply, plus, dot, seq, seq_apply, seq_plus, seq_null, kills_at, kills_apply}
use Rattle.krylov.specs.Operator as operator

module _ (R : Ring) where
  open R use {C, mul as ◌⊗◌, zero as 𝟎}

  infixl 70 ◌⊗◌
  pub record Factor (A : Operator R) (k : ℕ) (g : ℕ → C) (t : ℕ) (f r : ℕ → C) : Type 0 where
    pub degree_le : t ≤ k
    pub cofactor : ℕ → C
    pub equation : g ≡ product R cofactor f
    pub kills : Kills R A (k - t) cofactor (apply R A (suc t) f r)

  zero_next : (k : ℕ) (h w : ℕ → C) → Monic R k h → (j : ℕ) → at R w k h j ≡ 𝟎 → ((i : ℕ) → i < k → w (i + j) ≡ 𝟎) → w (k + j) ≡ 𝟎
  zero_next k h w m j a z =
      simp (sum_zeros R k (λ i. h i ⊗ w (i + j)) (λ i l. simp (z i l, ring-laws)), m.lead, ring-laws) at (sym (sum_suc R k (λ i. h i ⊗ w (i + j))) ∙ a)

  zero_until : (k : ℕ) (h w : ℕ → C) → Monic R k h → ((j : ℕ) → at R w k h j ≡ 𝟎) → ((j : ℕ) → j < k → w j ≡ 𝟎) → (N j : ℕ) → j < N → w j ≡ 𝟎
  zero_until k h w m a z zero j l = absurd (omega arith)
  zero_until k h w m a z (suc N) j l = go (dec_lt j k) (zero_until k h w m a z N)
    where
      go : Dec (j < k) → ((j : ℕ) → j < N → w j ≡ 𝟎) → w j ≡ 𝟎
      go (yes b) ih = z j b
      go (no b) ih = ap w (omega arith) ∙ zero_next k h w m (j - k) (a (j - k)) (λ i c. ih (i + (j - k)) (omega arith))

  pub zero_for_ever : (k : ℕ) (h w : ℕ → C) → Monic R k h → ((j : ℕ) → at R w k h j ≡ 𝟎) → ((j : ℕ) → j < k → w j ≡ 𝟎) → (j : ℕ) → w j ≡ 𝟎
  zero_for_ever k h w m a z j = zero_until k h w m a z (suc j) j (omega arith)

module _ (F : Field) where
  open F use {ring as R, inv}
  open R use {C, mul as ◌⊗◌, zero as 𝟎}

  infixl 70 ◌⊗◌
  pub shorter_zeros : (N : ℕ) (s : ℕ → C) (t : ℕ) (f e : ℕ → C) → Shortest R N s t f → Below R t e → ((j : ℕ) → sum R t (λ i. e i ⊗ s (i + j)) ≡ 𝟎) → (i : ℕ) → e i ≡ 𝟎
  shorter_zeros N s t f e S b a = go (zeros_or_degree F t e b)
    where
      recurs : (d : ℕ) → d < t → Below R (suc d) e → (c : C) (j : ℕ) → at R s d (λ i. c ⊗ e i) j ≡ 𝟎
      recurs d l h c j =
          simp (ring.mul_assoc R, sum_scale) (ap (λ x. c ⊗ x) (sym (sum_extend R (suc d) t (λ i. e i ⊗ s (i + j)) l (λ i x y. simp (h i x, ring-laws))) ∙ a j) ∙ ring.mul_zero R c)

      lower : (d : Degree R t e) → t ≤ d.degree
      lower d =
          S.least d.degree (λ i. inv (e d.degree) ⊗ e i) (monic_made F d.degree e d.lead_nonzero d.above)
          (λ j l. recurs d.degree d.degree_lt d.above (inv (e d.degree)) j)

      go : ((i : ℕ) → e i ≡ 𝟎) ⊎ Degree R t e → (i : ℕ) → e i ≡ 𝟎
      go (inl z) = z
      go (inr d) = absurd (omega (arith, d.degree_lt, lower d))

module _ (F : Field) (n : ℕ) (A : Operator F.ring) (L : Linear F.ring n A) where
  open F use {ring as R, one≢zero}
  open R use {C, add as ◌⊕◌, mul as ◌⊗◌, zero as 𝟎}

  infixl 60 ◌⊕◌
  infixl 70 ◌⊗◌
  pub product_factor : {t m : ℕ} {f g q r : ℕ → C} → Monic R t f → Kills R A m g r → t ≤ m → Monic R (m - t) q → g ≡ product R q f → Factor R A m g t f r
  product_factor {t} {m} {q} {r} M G l Q e =
      record {
        degree_le = l;
        cofactor = q;
        equation = e;
        kills = record {
          monic = Q;
          vanishes =
              sym (operator.apply_product_monic R n A L Q M r) ∙ ap₂ (λ i x. apply R A (suc i) x r) (sub-add_cancel l) (sym e) ∙ G.vanishes;
        };
      }

  pub blind_apply : (u w : ℕ → C) → ((j : ℕ) → seq R n A u w j ≡ 𝟎) → (m : ℕ) (q : ℕ → C) (j : ℕ) → seq R n A u (apply R A m q w) j ≡ 𝟎
  blind_apply u w h m q j =
      seq_apply R n A L u m q w j ∙ sum_zeros R m (λ i. q i ⊗ seq R n A u w (i + j)) (λ i l. simp (h (i + j), ring-laws))

  pub pass_degree : {N t k : ℕ} {f h r : ℕ → C} (u : ℕ → C) → Shortest R N (seq R n A u r) t f → Kills R A k h r → t ≤ k
  pass_degree {k} {h} u S H = S.least k h H.monic (λ j l. kills_at R n A L H u j)

  pub pass_early : {M N t : ℕ} {f r : ℕ → C} (u : ℕ → C) → M ≤ N → Shortest R M (seq R n A u r) t f → Kills R A t f r → Shortest R N (seq R n A u r) t f
  pass_early u l S H =
      record {
        monic = S.monic;
        recurs = λ j a. kills_at R n A L H u j;
        least = λ k g G h. S.least k g G (λ j a. h j (omega arith));
      }

  division_apply : {t m : ℕ} {f g : ℕ → C} → Monic R t f → Monic R m g → (s : Division R t f (suc m) g) (r : ℕ → C) → apply R A (suc m) g r ≡ plus R (apply R A (suc m - t) s.quotient (apply R A (suc t) f r)) (apply R A t s.remainder r)
  unfolding plus
  division_apply {t} {m} {f} {g} M G s r =
      sym (operator.apply_extend R A (suc m) N g r (omega arith) G.above) ∙ ap (λ x. apply R A N x r) s.equation
      ∙ operator.apply_plus R A N (product R s.quotient f) s.remainder r
      ∙ ap₂ (plus R) (operator.apply_product R n A L (suc m - t) (suc t) s.quotient f r s.quotient_below M.above) (operator.apply_extend R A t N s.remainder r (omega arith) s.remainder_below)
    where
      N : ℕ
      N = suc m - t + suc t

  module _ {left t : ℕ} {f r : ℕ → C} (u : ℕ → C) (H : Annihilator R A left r) (S : Shortest R (left + left) (seq R n A u r) t f) where
    pub pass_blind : (j : ℕ) → seq R n A u (apply R A (suc t) f r) j ≡ 𝟎
    pass_blind =
        zero_for_ever R H.degree H.polynomial (seq R n A u (apply R A (suc t) f r)) H.kills.monic
        (kills_at R n A L (kills_apply R n A L H.kills (suc t) f) u)
        (λ j l. seq_apply R n A L u (suc t) f r j ∙ S.recurs j (omega (arith, H.degree_le, pass_degree u S H.kills)))

    remainder_recurs : {m : ℕ} {g : ℕ → C} → Kills R A m g r → (s : Division R t f (suc m) g) → (j : ℕ) → sum R t (λ i. s.remainder i ⊗ seq R n A u r (i + j)) ≡ 𝟎
    remainder_recurs {m} G s j =
        sym (seq_apply R n A L u t s.remainder r j) ∙ sym (ring.zero_add R (seq R n A u e j))
        ∙ ap (λ x. x ⊕ seq R n A u e j) (sym (blind_apply u (apply R A (suc t) f r) pass_blind (suc m - t) s.quotient j))
        ∙ sym (seq_plus R n A L u (apply R A (suc m - t) s.quotient (apply R A (suc t) f r)) e j)
        ∙ ap (λ v. seq R n A u v j) (sym (division_apply S.monic G.monic s r) ∙ G.vanishes) ∙ seq_null R n A L u j
      where
        e : ℕ → C
        e = apply R A t s.remainder r

    pub pass_factor : {m : ℕ} {g : ℕ → C} → Kills R A m g r → Factor R A m g t f r
    pass_factor {m} {g} G = product_factor S.monic G d.0 d.1 (exact_quotient R t (suc m) f g s z)
      where
        s : Division R t f (suc m) g
        s = divide R t (suc m) f g S.monic G.monic.above

        z : (i : ℕ) → s.remainder i ≡ 𝟎
        z = shorter_zeros F (left + left) (seq R n A u r) t f s.remainder S s.remainder_below (remainder_recurs G s)

        d : (t ≤ m) × Monic R (m - t) s.quotient
        d = monic_quotient R t m f g one≢zero S.monic G.monic s z

    pub pass_progress : dot R n u r ≢ 𝟎 → 0 < t
    pass_progress h =
        pos_of_ne-zero (λ e. h (ap (dot R n u) (sym (operator.power_zero R A r)) ∙ ap (λ v. seq R n A u v 0) (sym (ap (λ i. apply R A (suc i) f r) e ∙ operator.apply_degree_zero R A (subst (λ i. Monic R i f) e S.monic) r)) ∙ pass_blind 0))
