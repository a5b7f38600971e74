-- Linear operators on vectors, and polynomials of them. A vector is a function from ℕ that is zero from n on, so equal vectors are equal
-- functions; n = 0 is allowed. NAME-at is the definition or law NAME at one place.
--     null, plus, times    the zero vector, sum and multiple of vectors (and of polynomials)
--     vector-laws          the rules by which `simp` closes an equation of vectors at one place
--     null_from_places     a vector that is zero at its n places is null
--     unit k               1 at place k (unit_same), 0 elsewhere (unit_other)
--     dot n u v            the sum of u i ⊗ v i over the n places; u is the projection
--     dot_null, dot_plus, dot_times      linear in v
--     dot_unit             reads place k
--     Operator R           what takes vectors to vectors
--     Linear n A           A is linear, and its images have n places
--     power A k v          Aᵏv; power_zero and power_suc are its clauses
--     power_operator       Aᵏ(Av) = A(Aᵏv)
--     power_power          Aⁱ(Aʲv) = Aⁱ⁺ʲv
--     operator_null, power_null, power_plus, power_times, power_below      linear, and stays in the n places
--     apply A m f v        f(A)v, the sum of f i ⊗ Aⁱv over i = 0 .. m − 1: m terms of f
--     apply_zero, apply_suc, apply_head      no term; the last term apart; the first term apart
--     apply_horner         f(A)v = f₀·v + A(g(A)v) with g = (f − f₀)/z
--     apply_extend         terms from m on add nothing, if f is zero there
--     apply_null, apply_plus, apply_times      linear in f
--     apply_degree_zero    of 1
--     apply_vector_null, apply_vector_plus, apply_vector_times, apply_below      linear in v, and stays in the n places
--     operator_apply, power_apply, apply_apply      A, Aᵏ and g(A) commute with f(A)
--     apply_product, apply_product_monic      (f·g)(A)v = f(A)(g(A)v), counted in terms and in degrees
--     seq n A u r          the projected sequence: u·r, u·Ar, u·A²r, ..
--     seq_apply            u·Aʲf(A)r is what f makes of seq u r at j (for d + 1 terms: `at (seq u r) d f j`)
--     seq_null, seq_plus   additive in r
--     Kills A d f v        f is monic of degree d, and f(A)v = 0
--     kills_at             then f makes zero of every projected sequence of v, everywhere
--     kills_apply          and kills every g(A)v
--     Annihilator A m v    some monic polynomial of degree at most m kills v
use Rattle.std.specs.Prelude.{◌≡◌, ◌≢◌, ℕ, zero, suc, ◌+◌, ◌≤◌, ◌<◌}
use Rattle.std.proofs.Math.Path.{refl, ap, fun_ext}
use Rattle.std.proofs.Common.{sym, ap₂, ◌∙◌, add-zero, zero-add, suc-add, arith}
use Rattle.std.proofs.Math.Decide.{dec_lt}
use Rattle.algebra.specs.Ring.{Ring, ring-laws}
use Rattle.algebra.specs.Ring as ring
use Rattle.algebra.specs.Sum.{sum, sum_zero, sum_suc, sum_ext, sum_add, sum_scale, sum_zeros, sum_extend, sum_single}
use Rattle.algebra.specs.Polynomial.{Below, Monic, const, const_zero, product, product_zero, product_suc, at}
use Rattle.polynomial.specs.Degree.{one_monic}
use Rattle.polynomial.specs.Product.{product_zeros_left_at, product_monic}
use Rattle.polynomial.specs.Shift.{shifts, shifts_low, shifts_high, shifts_below}

abbrev pub Operator : Ring → Type 0
Operator R = (ℕ → R.C) → ℕ → R.C

module _ (R : Ring) where
  open R use {C, add as ◌⊕◌, mul as ◌⊗◌, zero as 𝟎, one as 𝟏}

  infixl 60 ◌⊕◌
  infixl 70 ◌⊗◌
  unfoldable pub null : ℕ → C
  null = λ i. 𝟎

  unfoldable pub plus : (ℕ → C) → (ℕ → C) → ℕ → C
  plus v w = λ i. v i ⊕ w i

  unfoldable pub times : C → (ℕ → C) → ℕ → C
  times c v = λ i. c ⊗ v i

  pub null_at : (i : ℕ) → null i ≡ 𝟎
  unfolding null
  null_at i = refl

  pub plus_at : (v w : ℕ → C) (i : ℕ) → plus v w i ≡ v i ⊕ w i
  unfolding plus
  plus_at v w i = refl

  pub times_at : (c : C) (v : ℕ → C) (i : ℕ) → times c v i ≡ c ⊗ v i
  unfolding times
  times_at c v i = refl

  pub null_from_places : (n : ℕ) (v : ℕ → C) → Below R n v → ((i : ℕ) → i < n → v i ≡ 𝟎) → v ≡ null
  null_from_places n v b h = fun_ext (λ i. place i (dec_lt i n) ∙ sym (null_at i))
    where
      place : (i : ℕ) → Dec (i < n) → v i ≡ 𝟎
      place i (yes l) = h i l
      place i (no l) = b i (omega arith)

  unfoldable pub unit : ℕ → ℕ → C
  unit k = shifts R k (const R 𝟏)

  pub unit_same : (k : ℕ) → unit k k ≡ 𝟏
  unfolding unit
  unit_same k = ap (shifts R k (const R 𝟏)) (sym (add-zero k)) ∙ shifts_high R k (const R 𝟏) 0 ∙ const_zero R 𝟏

  pub unit_other : (k i : ℕ) → i ≢ k → unit k i ≡ 𝟎
  unfolding unit
  unit_other k i h = go (dec_lt i k)
    where
      go : Dec (i < k) → shifts R k (const R 𝟏) i ≡ 𝟎
      go (yes l) = shifts_low R k (const R 𝟏) i l
      go (no l) = shifts_below R k 1 (const R 𝟏) (one_monic R).above i (omega arith)

  unfoldable pub dot : ℕ → (ℕ → C) → (ℕ → C) → C
  dot n u v = sum R n (λ i. u i ⊗ v i)

  pub record Linear (n : ℕ) (A : Operator R) : Type 0 where
    pub additive : (v w : ℕ → C) → A (plus v w) ≡ plus (A v) (A w)
    pub homogeneous : (c : C) (v : ℕ → C) → A (times c v) ≡ times c (A v)
    pub below : (v : ℕ → C) → Below R n (A v)

  pub power : Operator R → ℕ → (ℕ → C) → ℕ → C
  power A zero v = v
  power A (suc k) v = A (power A k v)

  unfoldable pub apply : Operator R → ℕ → (ℕ → C) → (ℕ → C) → ℕ → C
  apply A m f v = λ place. sum R m (λ i. f i ⊗ power A i v place)

  abbrev pub seq : ℕ → Operator R → (ℕ → C) → (ℕ → C) → ℕ → C
  seq n A u r j = dot n u (power A j r)

  pub record Kills (A : Operator R) (d : ℕ) (f v : ℕ → C) : Type 0 where
    pub monic : Monic R d f
    pub vanishes : apply A (suc d) f v ≡ null

  pub record Annihilator (A : Operator R) (m : ℕ) (v : ℕ → C) : Type 0 where
    pub degree : ℕ
    pub degree_le : degree ≤ m
    pub polynomial : ℕ → C
    pub kills : Kills A degree polynomial v

pub ruleset vector-laws = (null_at, plus_at, times_at, ring-laws)

module _ (R : Ring) (n : ℕ) where
  open R use {C, add as ◌⊕◌, mul as ◌⊗◌, zero as 𝟎}

  infixl 60 ◌⊕◌
  infixl 70 ◌⊗◌
  pub dot_null : (u : ℕ → C) → dot R n u (null R) ≡ 𝟎
  unfolding dot
  dot_null u = sum_zeros R n (λ i. u i ⊗ null R i) (λ i l. simp vector-laws)

  pub dot_plus : (u v w : ℕ → C) → dot R n u (plus R v w) ≡ dot R n u v ⊕ dot R n u w
  unfolding dot
  dot_plus u v w = simp (plus_at, ring.mul_add R, sum_add R)

  pub dot_times : (u : ℕ → C) (c : C) (v : ℕ → C) → dot R n u (times R c v) ≡ c ⊗ dot R n u v
  unfolding dot
  dot_times u c v =
      sum_ext R n (λ i. u i ⊗ times R c v i) (λ i. c ⊗ (u i ⊗ v i)) (λ i l. simp vector-laws) ∙ sum_scale R c n (λ i. u i ⊗ v i)

  pub dot_unit : (k : ℕ) (v : ℕ → C) → k < n → dot R n (unit R k) v ≡ v k
  unfolding dot
  dot_unit k v l =
      sum_single R n k (λ i. unit R k i ⊗ v i) l (λ i a h. simp (unit_other R k i h, ring-laws)) ∙ simp (unit_same R k, ring-laws)

module _ (R : Ring) (A : Operator R) where
  open R use {C, mul as ◌⊗◌}

  infixl 70 ◌⊗◌
  pub power_zero : (v : ℕ → C) → power R A 0 v ≡ v
  unfolding power
  power_zero v = refl

  pub power_suc : (k : ℕ) (v : ℕ → C) → power R A (suc k) v ≡ A (power R A k v)
  unfolding power
  power_suc k v = refl

  pub power_operator : (k : ℕ) (v : ℕ → C) → power R A k (A v) ≡ A (power R A k v)
  power_operator zero v = simp power_zero
  power_operator (suc k) v = simp (power_suc, power_operator k v)

  pub power_power : (i j : ℕ) (v : ℕ → C) → power R A i (power R A j v) ≡ power R A (i + j) v
  power_power zero j v = simp (power_zero, zero-add)
  power_power (suc i) j v = simp (power_suc, suc-add, power_power i j v)

  pub apply_at : (m : ℕ) (f v : ℕ → C) (place : ℕ) → apply R A m f v place ≡ sum R m (λ i. f i ⊗ power R A i v place)
  unfolding apply
  apply_at m f v place = refl

  pub apply_operator_at : (m : ℕ) (f v : ℕ → C) (place : ℕ) → apply R A m f (A v) place ≡ sum R m (λ i. f i ⊗ power R A (suc i) v place)
  apply_operator_at m f v place =
      apply_at m f (A v) place
      ∙ sum_ext R m (λ i. f i ⊗ power R A i (A v) place) (λ i. f i ⊗ power R A (suc i) v place) (λ i l. ap (λ w. f i ⊗ w place) (power_operator i v ∙ sym (power_suc i v)))

  pub apply_zero : (f v : ℕ → C) → apply R A 0 f v ≡ null R
  apply_zero f v = fun_ext (λ p. simp (apply_at, sum_zero, null_at))

  pub apply_suc : (m : ℕ) (f v : ℕ → C) → apply R A (suc m) f v ≡ plus R (apply R A m f v) (times R (f m) (power R A m v))
  apply_suc m f v = fun_ext (λ p. simp (apply_at, sum_suc, plus_at, times_at))

  pub apply_head : (m : ℕ) (f v : ℕ → C) → apply R A (suc m) f v ≡ plus R (times R (f 0) v) (apply R A m (λ i. f (suc i)) (A v))
  apply_head zero f v = simp (apply_suc 0, apply_zero, power_zero) (fun_ext (λ p. simp vector-laws))
  apply_head (suc m) f v =
      apply_suc (suc m) f v ∙ simp (apply_head m f v, apply_suc, power_suc, power_operator) (fun_ext (λ p. simp vector-laws))

  pub apply_extend : (m k : ℕ) (f v : ℕ → C) → m ≤ k → Below R m f → apply R A k f v ≡ apply R A m f v
  unfolding apply
  apply_extend m k f v l h = fun_ext (λ p. sum_extend R m k (λ i. f i ⊗ power R A i v p) l (λ i a b. simp (h i a, ring-laws)))

  pub apply_null : (m : ℕ) (v : ℕ → C) → apply R A m (null R) v ≡ null R
  apply_null zero v = apply_zero (null R) v
  apply_null (suc m) v = simp (apply_suc, apply_null m v) (fun_ext (λ p. simp vector-laws))

  pub apply_plus : (m : ℕ) (f g v : ℕ → C) → apply R A m (plus R f g) v ≡ plus R (apply R A m f v) (apply R A m g v)
  apply_plus zero f g v = simp apply_zero (fun_ext (λ p. simp vector-laws))
  apply_plus (suc m) f g v = simp (apply_suc, apply_plus m f g v) (fun_ext (λ p. simp vector-laws))

  pub apply_times : (m : ℕ) (c : C) (f v : ℕ → C) → apply R A m (times R c f) v ≡ times R c (apply R A m f v)
  apply_times zero c f v = simp apply_zero (fun_ext (λ p. simp vector-laws))
  apply_times (suc m) c f v = simp (apply_suc, apply_times m c f v) (fun_ext (λ p. simp vector-laws))

  pub apply_degree_zero : {f : ℕ → C} → Monic R 0 f → (v : ℕ → C) → apply R A 1 f v ≡ v
  apply_degree_zero {f} h v = apply_suc 0 f v ∙ simp (apply_zero, power_zero, h.lead) (fun_ext (λ p. simp vector-laws))

module _ (R : Ring) (n : ℕ) (A : Operator R) (L : Linear R n A) where
  open R use {C, add as ◌⊕◌, mul as ◌⊗◌, zero as 𝟎}

  infixl 60 ◌⊕◌
  infixl 70 ◌⊗◌
  pub operator_null : A (null R) ≡ null R
  operator_null = ap A (fun_ext (λ i. simp vector-laws)) ∙ L.homogeneous 𝟎 (null R) ∙ fun_ext (λ i. simp vector-laws)

  pub power_null : (k : ℕ) → power R A k (null R) ≡ null R
  power_null zero = simp (power_zero R A)
  power_null (suc k) = simp (power_suc R A, power_null k, operator_null)

  pub power_plus : (k : ℕ) (v w : ℕ → C) → power R A k (plus R v w) ≡ plus R (power R A k v) (power R A k w)
  power_plus zero v w = simp (power_zero R A)
  power_plus (suc k) v w = simp (power_suc R A, power_plus k v w, L.additive)

  pub power_times : (k : ℕ) (c : C) (v : ℕ → C) → power R A k (times R c v) ≡ times R c (power R A k v)
  power_times zero c v = simp (power_zero R A)
  power_times (suc k) c v = simp (power_suc R A, power_times k c v, L.homogeneous)

  pub power_below : (k : ℕ) (v : ℕ → C) → Below R n v → Below R n (power R A k v)
  power_below zero v h = rw power_zero h
  power_below (suc k) v h = rw power_suc (L.below (power R A k v))

  pub apply_below : (m : ℕ) (f v : ℕ → C) → Below R n v → Below R n (apply R A m f v)
  apply_below m f v h p l =
      apply_at R A m f v p ∙ sum_zeros R m (λ i. f i ⊗ power R A i v p) (λ i a. simp (power_below i v h p l, ring-laws))

  pub operator_apply : (m : ℕ) (f v : ℕ → C) → A (apply R A m f v) ≡ apply R A m f (A v)
  operator_apply zero f v = simp (apply_zero R A, operator_null)
  operator_apply (suc m) f v = simp (apply_suc R A, L.additive, L.homogeneous, operator_apply m f v, power_operator R A)

  pub power_apply : (k m : ℕ) (f v : ℕ → C) → power R A k (apply R A m f v) ≡ apply R A m f (power R A k v)
  power_apply zero m f v = simp (power_zero R A)
  power_apply (suc k) m f v = simp (power_suc R A, power_apply k m f v, operator_apply)

  pub apply_vector_null : (m : ℕ) (f : ℕ → C) → apply R A m f (null R) ≡ null R
  apply_vector_null zero f = apply_zero R A f (null R)
  apply_vector_null (suc m) f = simp (apply_suc R A, apply_vector_null m f, power_null) (fun_ext (λ p. simp vector-laws))

  pub apply_vector_plus : (m : ℕ) (f v w : ℕ → C) → apply R A m f (plus R v w) ≡ plus R (apply R A m f v) (apply R A m f w)
  apply_vector_plus zero f v w = simp (apply_zero R A) (fun_ext (λ p. simp vector-laws))
  apply_vector_plus (suc m) f v w = simp (apply_suc R A, apply_vector_plus m f v w, power_plus) (fun_ext (λ p. simp vector-laws))

  pub apply_vector_times : (m : ℕ) (f : ℕ → C) (c : C) (v : ℕ → C) → apply R A m f (times R c v) ≡ times R c (apply R A m f v)
  apply_vector_times zero f c v = simp (apply_zero R A) (fun_ext (λ p. simp vector-laws))
  apply_vector_times (suc m) f c v = simp (apply_suc R A, apply_vector_times m f c v, power_times) (fun_ext (λ p. simp vector-laws))

  pub apply_apply : (m k : ℕ) (f g v : ℕ → C) → apply R A m f (apply R A k g v) ≡ apply R A k g (apply R A m f v)
  apply_apply zero k f g v = simp (apply_zero R A, apply_vector_null)
  apply_apply (suc m) k f g v = simp (apply_suc R A, apply_apply m k f g v, power_apply, apply_vector_plus, apply_vector_times)

  pub apply_horner : (m : ℕ) (f v : ℕ → C) → apply R A (suc m) f v ≡ plus R (times R (f 0) v) (A (apply R A m (λ i. f (suc i)) v))
  apply_horner m f v = apply_head R A m f v ∙ ap (plus R (times R (f 0) v)) (sym (operator_apply m (λ i. f (suc i)) v))

  product_tail : (f g : ℕ → C) → (λ i. product R f g (suc i)) ≡ plus R (times R (f 0) (λ i. g (suc i))) (product R (λ i. f (suc i)) g)
  product_tail f g = fun_ext (λ i. simp (product_suc, plus_at, times_at))

  pub apply_product : (m k : ℕ) (f g v : ℕ → C) → Below R m f → Below R k g → apply R A (m + k) (product R f g) v ≡ apply R A m f (apply R A k g v)
  apply_product zero k f g v a b =
      ap (λ h. apply R A (0 + k) h v) (fun_ext (λ i. ap (λ h. product R h g i) (fun_ext (λ j. a j (omega arith))) ∙ product_zeros_left_at R g i ∙ sym (null_at R i)))
      ∙ apply_null R A (0 + k) v ∙ sym (apply_zero R A f (apply R A k g v))
  apply_product (suc m) k f g v a b =
      ap (λ i. apply R A i (product R f g) v) (suc-add m k) ∙ apply_head R A (m + k) (product R f g) v
      ∙ simp (product_tail, product_zero, apply_plus R A, apply_times R A, apply_product m k (λ i. f (suc i)) g (A v) (λ i l. a (suc i) (omega arith)) b) (fun_ext (λ p. simp vector-laws))
      ∙ ap₂ (λ x w. plus R (times R (f 0) x) (apply R A m (λ i. f (suc i)) w)) (sym (apply_head R A (m + k) g v) ∙ apply_extend R A k (suc (m + k)) g v (omega arith) b) (sym (operator_apply k g v))
      ∙ sym (apply_head R A m f (apply R A k g v))

  pub apply_product_monic : {d e : ℕ} {f g : ℕ → C} → Monic R d f → Monic R e g → (v : ℕ → C) → apply R A (suc (d + e)) (product R f g) v ≡ apply R A (suc d) f (apply R A (suc e) g v)
  apply_product_monic {d} {e} {f} {g} p q v =
      sym (apply_extend R A (suc (d + e)) (suc d + suc e) (product R f g) v (omega arith) (product_monic R d e f g p q).above)
      ∙ apply_product (suc d) (suc e) f g v p.above q.above

  dot_apply : (u : ℕ → C) (m : ℕ) (f v : ℕ → C) → dot R n u (apply R A m f v) ≡ sum R m (λ i. f i ⊗ seq R n A u v i)
  dot_apply u zero f v = simp (apply_zero R A, dot_null, sum_zero)
  dot_apply u (suc m) f v = simp (apply_suc R A, dot_plus, dot_times, dot_apply u m f v, sum_suc)

  pub seq_apply : (u : ℕ → C) (m : ℕ) (f r : ℕ → C) (j : ℕ) → seq R n A u (apply R A m f r) j ≡ sum R m (λ i. f i ⊗ seq R n A u r (i + j))
  seq_apply u m f r j = simp (power_apply, dot_apply, power_power R A)

  pub seq_null : (u : ℕ → C) (j : ℕ) → seq R n A u (null R) j ≡ 𝟎
  seq_null u j = simp (power_null, dot_null)

  pub seq_plus : (u v w : ℕ → C) (j : ℕ) → seq R n A u (plus R v w) j ≡ seq R n A u v j ⊕ seq R n A u w j
  seq_plus u v w j = simp (power_plus, dot_plus)

  pub kills_at : {d : ℕ} {f r : ℕ → C} → Kills R A d f r → (u : ℕ → C) (j : ℕ) → at R (seq R n A u r) d f j ≡ 𝟎
  kills_at {d} {f} {r} h u j = sym (seq_apply u (suc d) f r j) ∙ ap (λ v. seq R n A u v j) h.vanishes ∙ seq_null u j

  pub kills_apply : {d : ℕ} {f r : ℕ → C} → Kills R A d f r → (m : ℕ) (g : ℕ → C) → Kills R A d f (apply R A m g r)
  kills_apply {d} {f} {r} h m g =
      record {
        monic = h.monic;
        vanishes = apply_apply (suc d) m f g r ∙ ap (apply R A m g) h.vanishes ∙ apply_vector_null m g;
      }
