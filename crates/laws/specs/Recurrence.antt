-- Laws of the recurrence's steps (meaning's Recurrence), for every p from 2 on: that p is prime is not needed to know how long q and t get.
--     monic_length, monic_elements, monic_leading      what is_monic tests
--     times_lt, minus_lt       a product and a difference are elements
--     times_zero, minus_zero   a product by 0, a difference with 0
--     step_zero, step_grow, step_stay      the cases of a step: the discrepancy is 0; it is not and 2·L < r; it is not and r ≤ 2·L
--     steps_zero, steps_suc, steps_at      the steps for 1 to r end with what is done for r
--     discrepancy_lt           the discrepancy is below p
--     discrepancy_first, steps_first       d of r and the steps for 1 to r are those of the first r terms: no later one is needed
--     at_update                the coefficients of q − (d/e)·z·t
--     z_same                   z·f of equal polynomials
--     SameSteps, same_both     the same q, t, L and e, polynomials coefficient by coefficient; .. as what is the same as these
--     discrepancy_same, step_same          a step of the same is the same
--     discrepancy_of           d of r, with the q and L of r − 1
--     e_element                e is an element and not 0
--     Regular p r c            after r steps: L ≤ r; q's elements are below p, and 0 above L; z·t's are 0 above r + 1 − L
--     step_regular, steps_regular          a step, and the steps, keep it
--     degree_within, length_generator, generator_below       L ≤ N; f has L + 1 elements, all below p
use Rattle.std.specs.Prelude.{◌≡◌, ◌≢◌, true, ◌&&◌, List, [], ◌∷◌, length, take, eqb}
use Rattle.std.proofs.Math.Path.{refl, ap}
use Rattle.std.proofs.Common.{sym, ap₂, ◌∙◌, subst, mul-zero, mod-eq_of_lt, arith, get_or-take}
use Prim.Native.Nat.{ℕ, zero, suc, ◌+◌, ◌-◌, ◌*◌, ◌%◌, ◌≤◌, ◌<◌, max}
use Rattle.std.proofs.Math.Nat.{mod-lt, zero-mod, sub-zero, add-mod_right, le-max_left, le-max_right}
use Rattle.std.proofs.Math.Decide.{dec_lt, ℕ_discrete}
use Rattle.std.proofs.Math.ListN.{get_or-eq_default}
use Rattle.std.proofs.Math.Dec.{ltb}
use borrow.Author.Tests.{eqb-true, eq-eqb, ne_eqb, lt-ltb, le-ltb}
use Rattle.meaning.specs.List.{at, sum, table, every}
use Rattle.meaning.specs.Field.{minus, times, inverse}
use Rattle.meaning.specs.Recurrence.{is_monic, Steps, start, discrepancy, update, step, steps, reversed, degree, generator}
use Rattle.laws.specs.Bool.{and_left, and_right}
use Rattle.laws.specs.List.{sum_ext, length_table, get_or_table, get_or_table_past}

-- ---- monic polynomials

module _ (p d : ℕ) (f : List ℕ) (e : is_monic p d f ≡ true) where
  both : eqb (length f) (d + 1) && every (λ a. ltb a p) f ≡ true
  unfolding is_monic
  both = and_left (eqb (length f) (d + 1) && every (λ a. ltb a p) f) (eqb (at f d) 1) e

  pub monic_length : length f ≡ d + 1
  monic_length = eqb-true (length f) (d + 1) (and_left (eqb (length f) (d + 1)) (every (λ a. ltb a p) f) both)

  pub monic_elements : every (λ a. ltb a p) f ≡ true
  monic_elements = and_right (eqb (length f) (d + 1)) (every (λ a. ltb a p) f) both

  pub monic_leading : at f d ≡ 1
  unfolding is_monic
  monic_leading = eqb-true (at f d) 1 (and_right (eqb (length f) (d + 1) && every (λ a. ltb a p) f) (eqb (at f d) 1) e)

-- ---- elements

pub times_lt : (p a b : ℕ) → 0 < p → times p a b < p
unfolding times
times_lt p a b z = mod-lt (a * b) z

pub minus_lt : (p a b : ℕ) → 0 < p → minus p a b < p
unfolding minus
minus_lt p a b z = mod-lt (a + (p - b)) z

pub times_zero : (p a : ℕ) → times p a 0 ≡ 0
unfolding times
times_zero p a = ap (λ x. x % p) (mul-zero a) ∙ zero-mod p

pub minus_zero : (p a : ℕ) → a < p → minus p a 0 ≡ a
unfolding minus
minus_zero p a l = ap (λ x. (a + x) % p) (sub-zero p) ∙ add-mod_right a p ∙ mod-eq_of_lt l

-- ---- a step by its cases

module _ (p : ℕ) (s : List ℕ) where
  pub step_zero : (r : ℕ) (c : Steps) → discrepancy p s r c ≡ 0 → step p s r c ≡ record { q = c.q; t = 0 ∷ c.t; L = c.L; e = c.e }
  unfolding step
  step_zero r c z = rw (eq-eqb (discrepancy p s r c) 0 z)

  pub step_grow : (r : ℕ) (c : Steps) → discrepancy p s r c ≢ 0 → 2 * c.L < r
      → step p s r c ≡ record { q = update p (discrepancy p s r c) c; t = c.q; L = r - c.L; e = discrepancy p s r c }
  unfolding step
  step_grow r c z l = rw (ne_eqb (discrepancy p s r c) 0 z, lt-ltb (2 * c.L) r l)

  pub step_stay : (r : ℕ) (c : Steps) → discrepancy p s r c ≢ 0 → r ≤ 2 * c.L
      → step p s r c ≡ record { q = update p (discrepancy p s r c) c; t = 0 ∷ c.t; L = c.L; e = c.e }
  unfolding step
  step_stay r c z l = rw (ne_eqb (discrepancy p s r c) 0 z, le-ltb (2 * c.L) r l)

  pub steps_zero : steps p s 0 ≡ start
  unfolding steps
  steps_zero = refl

  pub steps_suc : (r : ℕ) → steps p s (suc r) ≡ step p s (suc r) (steps p s r)
  unfolding steps
  steps_suc r = refl

  pub steps_at : (r : ℕ) → 0 < r → steps p s r ≡ step p s r (steps p s (r - 1))
  steps_at zero z = absurd (omega arith)
  steps_at (suc r) z =
      let e : r ≡ suc r - 1 = omega arith in
      steps_suc r ∙ ap (λ n. step p s (suc r) (steps p s n)) e

  pub discrepancy_lt : 0 < p → (r : ℕ) (c : Steps) → discrepancy p s r c < p
  unfolding discrepancy
  discrepancy_lt k r c = mod-lt (sum (c.L + 1) (λ i. at c.q i * at s (r - 1 - i))) k

  module _ (k : ℕ) where
    pub discrepancy_first : (r : ℕ) (c : Steps) → 0 < r → r ≤ k → discrepancy p (take k s) r c ≡ discrepancy p s r c
    unfolding discrepancy
    discrepancy_first r c z l =
        ap (λ x. x % p)
        (sum_ext (c.L + 1) (λ i. at c.q i * at (take k s) (r - 1 - i)) (λ i. at c.q i * at s (r - 1 - i))
        (λ i h. ap (λ x. at c.q i * x) (get_or-take k s (r - 1 - i) 0 (omega (arith, z, l)))))

    pub steps_first : (r : ℕ) → r ≤ k → steps p (take k s) r ≡ steps p s r
    unfolding steps step
    steps_first zero l = refl
    steps_first (suc r) l = rw (steps_first r (omega (arith, l)), discrepancy_first (suc r) (steps p s r) (omega arith) l)

-- absent coefficients are 0, and so is what comes of them
pub at_update : (p d : ℕ) (st : Steps) → 0 < p → (i : ℕ)
    → at (update p d st) i ≡ minus p (at st.q i) (times p (times p d (inverse p st.e)) (at (0 ∷ st.t) i))
unfolding update
at_update p d st z i = go (dec_lt i n)
  where
    n : ℕ
    n = max (length st.q) (length st.t + 1)

    f : ℕ → ℕ
    f i = minus p (at st.q i) (times p (times p d (inverse p st.e)) (at (0 ∷ st.t) i))

    past : n ≤ i → at (table n f) i ≡ f i
    past l =
        get_or_table_past n f i 0 l
        ∙ sym
        (ap₂ (λ a b. minus p a (times p (times p d (inverse p st.e)) b))
        (get_or-eq_default st.q 0 {n = i} (omega (arith, le-max_left (length st.q) (length st.t + 1))))
        (get_or-eq_default (0 ∷ st.t) 0 {n = i} (omega (arith, le-max_right (length st.q) (length st.t + 1))))
        ∙ ap (minus p 0) (times_zero p (times p d (inverse p st.e))) ∙ minus_zero p 0 z)

    go : Dec (i < n) → at (table n f) i ≡ f i
    go (yes l) = get_or_table n f i 0 l
    go (no l) = past (omega arith)

-- ---- steps that are the same

pub z_same : (f g : List ℕ) → ((i : ℕ) → at f i ≡ at g i) → (i : ℕ) → at (0 ∷ f) i ≡ at (0 ∷ g) i
z_same f g h zero = refl
z_same f g h (suc i) = h i

pub record SameSteps (c c' : Steps) : Type 0 where
  -- "absent coefficients being 0"
  pub q : (i : ℕ) → at c.q i ≡ at c'.q i
  pub t : (i : ℕ) → at c.t i ≡ at c'.t i
  pub L : c.L ≡ c'.L
  pub e : c.e ≡ c'.e

pub same_both : {c c' c'' : Steps} → SameSteps c c' → SameSteps c' c'' → SameSteps c c''
same_both a b = record { q = λ i. a.q i ∙ b.q i; t = λ i. a.t i ∙ b.t i; L = a.L ∙ b.L; e = a.e ∙ b.e }

module _ (p : ℕ) (s : List ℕ) (r : ℕ) {c c' : Steps} (h : SameSteps c c') where
  pub discrepancy_same : discrepancy p s r c ≡ discrepancy p s r c'
  unfolding discrepancy
  discrepancy_same =
      ap (λ x. x % p)
      (sum_ext (c.L + 1) (λ i. at c.q i * at s (r - 1 - i)) (λ i. at c'.q i * at s (r - 1 - i)) (λ i l. ap (λ x. x * at s (r - 1 - i)) (h.q i))
      ∙ ap (λ n. sum (n + 1) (λ i. at c'.q i * at s (r - 1 - i))) h.L)

  update_same : 0 < p → (d d' : ℕ) → d ≡ d' → (i : ℕ) → at (update p d c) i ≡ at (update p d' c') i
  update_same z d d' e i =
      at_update p d c z i
      ∙ ap₂ (λ x y. minus p x (times p (times p d (inverse p c.e)) y)) (h.q i) (z_same c.t c'.t h.t i)
      ∙ ap₂ (λ x y. minus p (at c'.q i) (times p (times p x (inverse p y)) (at (0 ∷ c'.t) i))) e h.e
      ∙ sym (at_update p d' c' z i)

  pub step_same : 0 < p → SameSteps (step p s r c) (step p s r c')
  step_same z =
      elim (ℕ_discrete d 0) [
        | yes e ↦ rw (step_zero p s r c e, step_zero p s r c' (sym discrepancy_same ∙ e))
            (record { q = h.q; t = z_same c.t c'.t h.t; L = h.L; e = h.e })
        | no e ↦ elim (dec_lt (2 * c.L) r) [
          | yes l ↦ rw (step_grow p s r c e l, step_grow p s r c' (λ x. e (discrepancy_same ∙ x)) (subst (λ n. 2 * n < r) h.L l))
              (record { q = update_same z d d' discrepancy_same; t = h.q; L = ap (λ n. r - n) h.L; e = discrepancy_same })
          | no l ↦ rw (step_stay p s r c e (omega arith), step_stay p s r c' (λ x. e (discrepancy_same ∙ x)) (subst (λ n. r ≤ 2 * n) h.L (omega arith)))
              (record { q = update_same z d d' discrepancy_same; t = z_same c.t c'.t h.t; L = h.L; e = h.e })
        ]
      ]
    where
      d : ℕ
      d = discrepancy p s r c

      d' : ℕ
      d' = discrepancy p s r c'

-- d of r, with the q and L of r − 1
abbrev pub discrepancy_of : ℕ → List ℕ → ℕ → ℕ
discrepancy_of p s r = discrepancy p s r (steps p s (r - 1))

pub e_element : (p : ℕ) → 1 < p → (s : List ℕ) (r : ℕ) → (0 < (steps p s r).e) × ((steps p s r).e < p)
unfolding start
e_element p two s zero = rw (steps_zero p s) (omega arith, two)
e_element p two s (suc r) =
    elim (ℕ_discrete d 0) [
      | yes e ↦ rw (steps_suc p s r, step_zero p s (suc r) (steps p s r) e) (e_element p two s r)
      | no e ↦ elim (dec_lt (2 * (steps p s r).L) (suc r)) [
        | yes l ↦ rw (steps_suc p s r, step_grow p s (suc r) (steps p s r) e l) (omega (arith, e), discrepancy_lt p s (omega (arith, two)) (suc r) (steps p s r))
        | no l ↦ rw (steps_suc p s r, step_stay p s (suc r) (steps p s r) e (omega arith)) (e_element p two s r)
      ]
    ]
  where
    d : ℕ
    d = discrepancy p s (suc r) (steps p s r)

-- ---- how long q and t get

pub record Regular (p r : ℕ) (c : Steps) : Type 0 where
  pub within : c.L ≤ r
  pub element : (i : ℕ) → at c.q i < p
  pub q_end : (i : ℕ) → c.L < i → at c.q i ≡ 0
  pub t_end : (i : ℕ) → r + 1 < c.L + i → at (0 ∷ c.t) i ≡ 0

module _ (p : ℕ) (two : 1 < p) where
  positive : 0 < p
  positive = omega (arith, two)

  start_regular : Regular p 0 start
  unfolding start
  start_regular =
      record { within = omega arith; element = element; q_end = λ i l. end i l; t_end = λ i l. none i }
    where
      element : (i : ℕ) → at (1 ∷ []) i < p
      element zero = two
      element (suc i) = positive

      end : (i : ℕ) → 0 < i → at (1 ∷ []) i ≡ 0
      end zero l = absurd (omega arith)
      end (suc i) l = refl

      none : (i : ℕ) → at (0 ∷ []) i ≡ 0
      none zero = refl
      none (suc i) = refl

  module _ {r : ℕ} {c : Steps} (k : Regular p r c) where
    -- t = z·t
    moved : (i : ℕ) → suc r + 1 < c.L + i → at (0 ∷ 0 ∷ c.t) i ≡ 0
    moved zero l = refl
    moved (suc i) l = k.t_end i (omega (arith, l))

    updated : (d i : ℕ) → at (update p d c) i < p
    updated d i =
        subst (λ x. x < p) (sym (at_update p d c positive i))
        (minus_lt p (at c.q i) (times p (times p d (inverse p c.e)) (at (0 ∷ c.t) i)) positive)

    -- above q and z·t there is nothing to update
    idle : (d i : ℕ) → c.L < i → r + 1 < c.L + i → at (update p d c) i ≡ 0
    idle d i a b =
        at_update p d c positive i
        ∙ ap₂ (λ x y. minus p x (times p (times p d (inverse p c.e)) y)) (k.q_end i a) (k.t_end i b)
        ∙ ap (minus p 0) (times_zero p (times p d (inverse p c.e))) ∙ minus_zero p 0 positive

    copied : (i : ℕ) → suc r + 1 < suc r - c.L + i → at (0 ∷ c.q) i ≡ 0
    copied zero l = refl
    copied (suc i) l = k.q_end i (omega (arith, l, k.within))

    pub step_regular : (s : List ℕ) → Regular p (suc r) (step p s (suc r) c)
    step_regular s =
        elim (ℕ_discrete d 0) [
          | yes z ↦ rw (step_zero p s (suc r) c z) (record { within = omega (arith, k.within); element = k.element; q_end = k.q_end; t_end = moved })
          | no z ↦ elim (dec_lt (2 * c.L) (suc r)) [
            | yes l ↦ rw (step_grow p s (suc r) c z l) (record {
              within = omega arith;
              element = updated d;
              q_end = λ i h. idle d i (omega (arith, h, l)) (omega (arith, h, k.within));
              t_end = copied;
            })
            | no l ↦ rw (step_stay p s (suc r) c z (omega arith)) (record {
              within = omega (arith, k.within);
              element = updated d;
              q_end = λ i h. idle d i h (omega (arith, h, l));
              t_end = moved;
            })
          ]
        ]
      where
        d : ℕ
        d = discrepancy p s (suc r) c

  pub steps_regular : (s : List ℕ) (r : ℕ) → Regular p r (steps p s r)
  steps_regular s zero = rw steps_zero start_regular
  steps_regular s (suc r) = rw steps_suc (step_regular (steps_regular s r) s)

  -- ---- the generator

  pub degree_within : (s : List ℕ) → degree p s ≤ length s
  unfolding degree
  degree_within s = (steps_regular s (length s)).within

  pub generator_below : (s : List ℕ) (i : ℕ) → at (generator p s) i < p
  unfolding generator reversed
  generator_below s i = go (dec_lt i (degree p s + 1))
    where
      f : ℕ → ℕ
      f j = at (steps p s (length s)).q (degree p s - j)

      go : Dec (i < degree p s + 1) → at (table (degree p s + 1) f) i < p
      go (yes l) = subst (λ x. x < p) (sym (get_or_table (degree p s + 1) f i 0 l)) ((steps_regular s (length s)).element (degree p s - i))
      go (no l) = subst (λ x. x < p) (sym (get_or_table_past (degree p s + 1) f i 0 (omega arith))) positive

pub length_generator : (p : ℕ) (s : List ℕ) → length (generator p s) ≡ degree p s + 1
unfolding generator reversed
length_generator p s = length_table (degree p s + 1) (λ i. at (steps p s (length s)).q (degree p s - i))
