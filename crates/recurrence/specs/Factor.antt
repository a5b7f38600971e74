-- The product of two polynomials in one slice: F at its front, f further up; it takes F's place from its highest coefficient down.
--     AreFactors       what the product asks: room, and residues
--     factors_fit, factors_refusal      8: their places; 3, 8 and 9 of two factors
--     GivesProduct     what a call answers and leaves; product_of: where no check turns the factors down
--     fits_of, fits_not, fits_by      what the places' test says; that it fails; the test as the code makes it
--     product_one      the product where F = 1: f
--     factors_of, factors_taken       what no check turned down, and that none turns it down
--     product_at        coefficient k of the product
--     Meeting          the places of F that meet one of f in coefficient k
--     crossing         they can be read against each other
--     coefficient      their sum is coefficient k
--     Descending       the coefficients from k on have been written
--     Multiplied       all of them have; multiplied_lent: in a leading part that was lent
--     descending_none, descending_factors, descending_same, descending_more, descending_all      where that begins, what a turn asks and reads, a turn, and
--                      where it ends
use Rattle.std.specs.Prelude.{false, ◌≡◌, refl, ◌≢◌, ◌⊎◌, Bool, true, not, ◌&&◌, List, [], ◌∷◌, Result, Ok, Err, min, ◌^◌, leb, ltb, length, drop, set}
use Rattle.std.proofs.Math.Path.{sym, ap₂}
use Rattle.std.proofs.Common.{ap, ◌∙◌, subst, inl, inr, zero-mul, mul-zero, mod-lt, eq-or-lt_of_le, one-mul, mod-eq_of_lt, arith, length-set, get_or-set_same, get_or-set_other, leb-true, ltb-true, le-leb, lt-ltb}
use Prim.Native.Nat.{ℕ, ◌+◌, ◌-◌, ◌*◌, ◌%◌, ◌≤◌, ◌<◌}
use Rattle.std.proofs.Math.Nat.{zero-add, add-zero, sub-zero}
use Rattle.std.proofs.Math.Decide.{dec_lt}
use Rattle.std.proofs.Math.ListN.{get_or-eq_default}
use Rattle.meaning.specs.List.{at, sum, sum_from}
use Rattle.meaning.specs.Refusal.{check, first, within, elements}
use Rattle.meaning.specs.Solver.{multiply}
use Rattle.laws.specs.Bool.{and_left, and_right, and_both, same_test, test_cases}
use Rattle.laws.specs.Refusal.{first_nil, first_passed, first_pass, within_of}
use Rattle.refusal.specs.declared.Refusal.{Refusal}
use Rattle.refusal.specs.Number.{number_of}
use Rattle.checks.specs.Valid.{vector_of, elements_of_law}
use Rattle.laws.specs.List.{sum_ext, sum_zeros, table_of}
use Rattle.modular.specs.declared.sums.Total.{Total}
use Rattle.modular.specs.Total.{number}
use Rattle.modular.specs.Sums.{Summed, sum_from_zero, sum_from_split, sum_from_ext, sum_from_one}
use Rattle.recurrence.specs.Convolution.{cross, Crossing, nothing}
use Rattle.laws.specs.Written.{Written}
use Rattle.laws.specs.Part.{part, length_part, at_part}
use Rattle.laws.specs.Lent.{lent, length_lent, part_lent, inner_lent, drop_lent, part_at, part_of_part, same_after, drop_ext}

-- F, degree d, and f, degree t
pub record AreFactors (p : ℕ) (W : List ℕ) (d f t : ℕ) : Type 0 where
  pub few : d + t ≤ 8192
  pub below : d + t < f
  pub room : f + t < length W
  pub left : (i : ℕ) → i ≤ d → at W i < p
  pub right : (i : ℕ) → i ≤ t → at W (f + i) < p

unfoldable pub factors_fit : ℕ → ℕ → ℕ → ℕ → Bool
factors_fit places d f t = leb (d + t) 8192 && ltb (d + t) f && ltb (f + t) places

unfoldable pub factors_refusal : ℕ → List ℕ → ℕ → ℕ → ℕ → ℕ
factors_refusal p W d f t =
    first
    (check 3 (not (within 2 2147483647 p))
    ∷ check 8 (not (factors_fit (length W) d f t))
    ∷ check 9 (not (elements p (part 0 (d + 1) W) && elements p (part f (t + 1) W)))
    ∷ [])

abbrev pub product_at : ℕ → List ℕ → ℕ → ℕ → ℕ → ℕ → ℕ
product_at p W d f t k = sum (k + 1) (λ i. at (part 0 (d + 1) W) i * at (part f (t + 1) W) (k - i)) % p

-- from k − t up to, but not including, what is lower of k + 1 and d + 1
pub record Meeting (d t k from to : ℕ) : Type 0 where
  pub inside : k ≤ d + t
  pub start : from ≡ k - t
  pub low : to ≤ k + 1
  pub short : to ≤ d + 1
  pub end : (to ≡ k + 1) ⊎ (to ≡ d + 1)

sum_from_zeros : (a b : ℕ) (f : ℕ → ℕ) → ((k : ℕ) → a ≤ k → k < b → f k ≡ 0) → sum_from a b f ≡ 0
sum_from_zeros a b f h = sum_zeros (b - a) (λ j. f (a + j)) (λ j l. h (a + j) (omega arith) (omega arith))

module _ {p : ℕ} {W : List ℕ} {d f t : ℕ} (h : AreFactors p W d f t) where
  left : ℕ → ℕ
  left i = at (part 0 (d + 1) W) i

  right : ℕ → ℕ
  right i = at (part f (t + 1) W) i

  left_in : (i : ℕ) → i ≤ d → left i ≡ at W (0 + i)
  unfolding left
  left_in i l = at_part 0 (d + 1) W i (omega (arith, l))

  left_out : (i : ℕ) → d < i → left i ≡ 0
  unfolding left
  left_out i l =
      get_or-eq_default (part 0 (d + 1) W) 0 (omega (arith, length_part 0 (d + 1) W (omega (arith, h.below, h.room)), l))

  right_in : (i : ℕ) → i ≤ t → right i ≡ at W (f + i)
  unfolding right
  right_in i l = at_part f (t + 1) W i (omega (arith, l))

  right_out : (i : ℕ) → t < i → right i ≡ 0
  unfolding right
  right_out i l = get_or-eq_default (part f (t + 1) W) 0 (omega (arith, length_part f (t + 1) W (omega (arith, h.room)), l))

  module _ {k from to : ℕ} (m : Meeting d t k from to) where
    order : from ≤ to
    order = go m.end
      where
        go : (to ≡ k + 1) ⊎ (to ≡ d + 1) → from ≤ to
        go (inl q) = omega (arith, q, m.start)
        go (inr q) = omega (arith, q, m.start, m.inside)

    back : (i : ℕ) → i < to → f + (k - i) ≡ f + k - i
    back i l = omega (arith, l, m.low)

    pub crossing : p ≤ 2147483647 → Crossing W 0 (f + k) from to
    crossing small =
        record {
          order = order;
          few = omega (arith, m.short, h.few);
          front = omega (arith, m.short, h.below, h.room);
          back = omega (arith, m.low);
          room = omega (arith, m.start, h.room);
          left = λ i a l. omega (arith, h.left (0 + i) (omega (arith, l, m.short)), small);
          right =
              λ i a l.
              subst (λ x. at W x < 2147483647) {x = f + (k - i)} {y = f + k - i} (back i l)
              (omega (arith, h.right (k - i) (omega (arith, a, m.start)), small));
        }

    pub meets : sum_from from to (cross W 0 (f + k)) ≡ sum (k + 1) (λ i. at (part 0 (d + 1) W) i * at (part f (t + 1) W) (k - i))
    unfolding left right
    meets =
        sym
        (sym (sum_from_zero (k + 1) g)
        ∙ sum_from_split 0 from (k + 1) g (omega arith) (omega (arith, m.start))
        ∙ ap₂ ◌+◌ (sum_from_zeros 0 from g low)
        (sum_from_split from to (k + 1) g order m.low
        ∙ ap₂ ◌+◌ (sum_from_ext from to g (cross W 0 (f + k)) middle) (sum_from_zeros to (k + 1) g (high m.end))
        ∙ add-zero (sum_from from to (cross W 0 (f + k))))
        ∙ zero-add (sum_from from to (cross W 0 (f + k))))
      where
        g : ℕ → ℕ
        g i = left i * right (k - i)

        low : (i : ℕ) → 0 ≤ i → i < from → g i ≡ 0
        low i z l = ap (λ x. left i * x) (right_out (k - i) (omega (arith, l, m.start))) ∙ mul-zero (left i)

        middle : (i : ℕ) → from ≤ i → i < to → g i ≡ cross W 0 (f + k) i
        middle i a l =
            ap₂ ◌*◌ (left_in i (omega (arith, l, m.short))) (right_in (k - i) (omega (arith, a, m.start)) ∙ ap (at W) (back i l))

        high : (to ≡ k + 1) ⊎ (to ≡ d + 1) → (i : ℕ) → to ≤ i → i < k + 1 → g i ≡ 0
        high (inl q) i a l = absurd (omega (arith, q, a, l))
        high (inr q) i a l = ap (λ x. x * right (k - i)) (left_out i (omega (arith, q, a))) ∙ zero-mul (right (k - i))

    pub coefficient : (T : Total) (v : ℕ) → Summed nothing T from to (cross W 0 (f + k)) → v ≡ number T % p → v ≡ product_at p W d f t k
    coefficient T v summed residue =
        residue ∙ ap (λ x. x % p) (summed.sum ∙ zero-add (sum_from from to (cross W 0 (f + k))) ∙ meets)

pub record Descending (p : ℕ) (W : List ℕ) (d f t k : ℕ) (W' : List ℕ) : Type 0 where
  pub same_length : length W' ≡ length W
  pub below : (i : ℕ) → i < k → at W' i ≡ at W i
  pub inside : (i : ℕ) → k ≤ i → i ≤ d + t → at W' i ≡ product_at p W d f t i
  pub after : (i : ℕ) → d + t < i → at W' i ≡ at W i

pub descending_none : (p : ℕ) (W : List ℕ) (d f t : ℕ) → Descending p W d f t (d + t + 1) W
descending_none p W d f t =
    record { same_length = refl; below = λ i l. refl; inside = λ i a b. absurd (omega (arith, a, b)); after = λ i l. refl }

-- what has been written so far are residues
pub descending_factors : {p : ℕ} {W : List ℕ} {d f t k : ℕ} {W' : List ℕ} → 0 < p → AreFactors p W d f t → Descending p W d f t k W' → AreFactors p W' d f t
descending_factors {p} {W} {d} {f} {t} {k} {W'} positive h w =
    record {
      few = h.few;
      below = h.below;
      room = omega (arith, h.room, w.same_length);
      left = λ i l. go i l (dec_lt i k);
      right = λ i l. subst (λ x. x < p) (sym (w.after (f + i) (omega (arith, h.below)))) (h.right i l);
    }
  where
    go : (i : ℕ) → i ≤ d → Dec (i < k) → at W' i < p
    go i l (yes a) = subst (λ x. x < p) (sym (w.below i a)) (h.left i l)
    go i l (no a) =
        subst (λ x. x < p) (sym (w.inside i (omega (arith, a)) (omega (arith, l))))
        (mod-lt (sum (i + 1) (λ j. at (part 0 (d + 1) W) j * at (part f (t + 1) W) (i - j))) positive)

pub descending_more : {p : ℕ} {W : List ℕ} {d f t k : ℕ} {W' : List ℕ} (v : ℕ) → Descending p W d f t (k + 1) W' → k ≤ d + t → k < length W
    → v ≡ product_at p W d f t k → Descending p W d f t k (set W' k v)
descending_more {p} {W} {d} {f} {t} {k} {W'} v w l h e =
    record {
      same_length = length-set W' k v ∙ w.same_length;
      below = λ i a. get_or-set_other W' k i v 0 (λ q. omega (arith, q, a)) ∙ w.below i (omega (arith, a));
      inside = λ i a b. go i (eq-or-lt_of_le {n = k} {m = i} a) b;
      after = λ i a. get_or-set_other W' k i v 0 (λ q. omega (arith, q, a, l)) ∙ w.after i a;
    }
  where
    go : (i : ℕ) → (k ≡ i) ⊎ (k < i) → i ≤ d + t → at (set W' k v) i ≡ product_at p W d f t i
    go i (inl q) b =
        ap (at (set W' k v)) (sym q) ∙ get_or-set_same W' k v 0 (omega (arith, w.same_length, h)) ∙ e ∙ ap (product_at p W d f t) q
    go i (inr q) b = get_or-set_other W' k i v 0 (λ r. omega (arith, r, q)) ∙ w.inside i (omega (arith, q)) b

place_same : (a n : ℕ) (W W' : List ℕ) (i : ℕ) → a + n ≤ length W → length W' ≡ length W → (i < n → at W' (a + i) ≡ at W (a + i))
    → at (part a n W') i ≡ at (part a n W) i
place_same a n W W' i l e h = go (dec_lt i n)
  where
    go : Dec (i < n) → at (part a n W') i ≡ at (part a n W) i
    go (yes k) = at_part a n W' i k ∙ h k ∙ sym (at_part a n W i k)
    go (no k) =
        get_or-eq_default (part a n W') 0 (omega (arith, k, length_part a n W' (omega (arith, l, e))))
        ∙ sym (get_or-eq_default (part a n W) 0 (omega (arith, k, length_part a n W l)))

-- what has been written so far is not read for coefficient k
pub descending_same : {p : ℕ} {W : List ℕ} {d f t : ℕ} (k : ℕ) {W' : List ℕ} → Descending p W d f t (k + 1) W' → AreFactors p W d f t
    → product_at p W' d f t k ≡ product_at p W d f t k
descending_same {p} {W} {d} {f} {t} k {W'} w h =
    ap (λ x. x % p)
    (sum_ext (k + 1) (λ i. at (part 0 (d + 1) W') i * at (part f (t + 1) W') (k - i)) (λ i. at (part 0 (d + 1) W) i * at (part f (t + 1) W) (k - i))
    (λ i l. ap₂ ◌*◌
    (place_same 0 (d + 1) W W' i (omega (arith, h.below, h.room)) w.same_length (λ m. w.below (0 + i) (omega (arith, l))))
    (place_same f (t + 1) W W' (k - i) (omega (arith, h.room)) w.same_length (λ m. w.after (f + (k - i)) (omega (arith, h.below))))))

pub record Multiplied (p : ℕ) (W : List ℕ) (d f t : ℕ) (W' : List ℕ) : Type 0 where
  pub same_length : length W' ≡ length W
  pub product : part 0 (d + t + 1) W' ≡ multiply p (part 0 (d + 1) W) (part f (t + 1) W)
  pub rest : drop (d + t + 1) W' ≡ drop (d + t + 1) W

pub descending_all : {p : ℕ} {W : List ℕ} {d f t : ℕ} {W' : List ℕ} → AreFactors p W d f t → Descending p W d f t 0 W' → Multiplied p W d f t W'
unfolding multiply
descending_all {p} {W} {d} {f} {t} {W'} h w =
    record {
      same_length = w.same_length;
      product =
          table_of 0 (part 0 (d + t + 1) W') size (λ k. product_at p W d f t k)
          (length_part 0 (d + t + 1) W' (omega (arith, h.below, h.room, w.same_length)) ∙ sym sized)
          (λ i l. let k : i < d + t + 1 = omega (arith, l, sized) in
          at_part 0 (d + t + 1) W' i k ∙ ap (at W') (zero-add i) ∙ w.inside i (omega arith) (omega (arith, k)));
      rest = drop_ext (d + t + 1) W W' w.same_length (λ i l. w.after i (omega (arith, l)));
    }
  where
    size : ℕ
    size = length (part 0 (d + 1) W) + length (part f (t + 1) W) - 1

    sized : size ≡ d + t + 1
    sized =
        omega (arith, length_part 0 (d + 1) W (omega (arith, h.below, h.room)), length_part f (t + 1) W (omega (arith, h.room)))

abbrev pub GivesProduct : ℕ → List ℕ → ℕ → ℕ → ℕ → Result ℕ Refusal → List ℕ → Type 0
GivesProduct p W d f t (Ok n) W' = (factors_refusal p W d f t ≡ 0) × (n ≡ d + t) × Multiplied p W d f t W'
-- "every lent slice keeps its contents"
GivesProduct p W d f t (Err r) W' = (factors_refusal p W d f t ≡ number_of r) × (number_of r ≢ 0) × (W' ≡ W)

-- the modulus by its other name
pub same_product : {m p : ℕ} {W : List ℕ} {d f t : ℕ} {W' : List ℕ} → m ≡ p → Multiplied m W d f t W' → Multiplied p W d f t W'
same_product {W} {d} {f} {t} {W'} e h = subst (λ n. Multiplied n W d f t W') e h

-- where no check turns the factors down
pub product_of : {p : ℕ} {W : List ℕ} {d f t : ℕ} (r : Result ℕ Refusal) {W' : List ℕ} → GivesProduct p W d f t r W' → factors_refusal p W d f t ≡ 0
    → Multiplied p W d f t W'
product_of (Ok n) g z = g.2
product_of (Err r) g z = absurd (g.1 (sym g.0 ∙ z))

-- ---- the checks

pub fits_of : (places d f t : ℕ) → factors_fit places d f t ≡ true → (d + t ≤ 8192) × (d + t < f) × (f + t < places)
unfolding factors_fit
fits_of places d f t e =
    let both = and_left (leb (d + t) 8192 && ltb (d + t) f) (ltb (f + t) places) e in (
      leb-true (d + t) 8192 (and_left (leb (d + t) 8192) (ltb (d + t) f) both),
      ltb-true (d + t) f (and_right (leb (d + t) 8192) (ltb (d + t) f) both),
      ltb-true (f + t) places (and_right (leb (d + t) 8192 && ltb (d + t) f) (ltb (f + t) places) e),
    )

-- the test as the code makes it: a sum that does not fit a word counts as the greatest one
pub fits_by : (places d f t degree last : ℕ) → places < 2 ^ 64 → f < 2 ^ 64 → degree ≡ min (d + t) (2 ^ 64 - 1) → last ≡ min (f + t) (2 ^ 64 - 1)
    → leb degree 8192 && ltb degree f && ltb last places ≡ factors_fit places d f t
unfolding factors_fit
fits_by places d f t degree last fit fit_f e g =
    ap₂ ◌&&◌
    (ap₂ ◌&&◌
    (same_test (leb degree 8192) (leb (d + t) 8192) (λ h. le-leb (d + t) 8192 (omega (arith, e, leb-true degree 8192 h)))
    (λ h. le-leb degree 8192 (omega (arith, e, leb-true (d + t) 8192 h))))
    (same_test (ltb degree f) (ltb (d + t) f) (λ h. lt-ltb (d + t) f (omega (arith, e, fit_f, ltb-true degree f h)))
    (λ h. lt-ltb degree f (omega (arith, e, ltb-true (d + t) f h)))))
    (same_test (ltb last places) (ltb (f + t) places) (λ h. lt-ltb (f + t) places (omega (arith, g, fit, ltb-true last places h)))
    (λ h. lt-ltb last places (omega (arith, g, ltb-true (f + t) places h))))

-- what no check turned down, and back
pub factors_of : (p : ℕ) (W : List ℕ) (d f t : ℕ) → factors_refusal p W d f t ≡ 0 → (within 2 2147483647 p ≡ true) × AreFactors p W d f t
unfolding factors_refusal elements
factors_of p W d f t z =
    let a = first_passed 3 (within 2 2147483647 p) _ (omega arith) z in
    let b = first_passed 8 (factors_fit (length W) d f t) _ (omega arith) a.1 in
    let e = (first_passed 9 (elements p (part 0 (d + 1) W) && elements p (part f (t + 1) W)) _ (omega arith) b.1).0 in
    let fit = fits_of (length W) d f t b.0 in
    let F = vector_of p (part 0 (d + 1) W) (d + 1) (length_part 0 (d + 1) W (omega (arith, fit.1, fit.2))) (and_left (elements p (part 0 (d + 1) W)) _ e) in
    let g = vector_of p (part f (t + 1) W) (t + 1) (length_part f (t + 1) W (omega (arith, fit.2))) (and_right (elements p (part 0 (d + 1) W)) _ e) in (
      a.0,
      record {
        few = fit.0;
        below = fit.1;
        room = fit.2;
        left = λ i l. subst (λ x. x < p) (at_part 0 (d + 1) W i (omega (arith, l)) ∙ ap (at W) (zero-add i)) (F.below i (omega (arith, l)));
        right = λ i l. subst (λ x. x < p) (at_part f (t + 1) W i (omega (arith, l))) (g.below i (omega (arith, l)));
      },
    )

pub factors_taken : {p : ℕ} {W : List ℕ} {d f t : ℕ} → 1 < p → p ≤ 2147483647 → AreFactors p W d f t → factors_refusal p W d f t ≡ 0
unfolding factors_refusal factors_fit
factors_taken {p} {W} {d} {f} {t} two small h =
    first_pass 3 (within 2 2147483647 p) _ (within_of 2 2147483647 p two small)
    (first_pass 8 (factors_fit (length W) d f t) _
    (and_both (and_both (le-leb (d + t) 8192 h.few) (lt-ltb (d + t) f h.below)) (lt-ltb (f + t) (length W) h.room))
    (first_pass 9 (elements p (part 0 (d + 1) W) && elements p (part f (t + 1) W)) _
    (and_both (elements_of_law p (part 0 (d + 1) W) (λ i l. left i (omega (arith, l, size_F)))) (elements_of_law p (part f (t + 1) W) (λ i l. right i (omega (arith, l, size_f)))))
    first_nil))
  where
    size_F : length (part 0 (d + 1) W) ≡ d + 1
    size_F = length_part 0 (d + 1) W (omega (arith, h.below, h.room))

    size_f : length (part f (t + 1) W) ≡ t + 1
    size_f = length_part f (t + 1) W (omega (arith, h.room))

    left : (i : ℕ) → i < d + 1 → at (part 0 (d + 1) W) i < p
    left i l = subst (λ x. x < p) (sym (at_part 0 (d + 1) W i l ∙ ap (at W) (zero-add i))) (h.left i (omega (arith, l)))

    right : (i : ℕ) → i < t + 1 → at (part f (t + 1) W) i < p
    right i l = subst (λ x. x < p) (sym (at_part f (t + 1) W i l)) (h.right i (omega (arith, l)))

-- F = 1: the product is f
pub product_one : {p : ℕ} {W : List ℕ} {d f t : ℕ} {W' : List ℕ} → AreFactors p W d f t → d ≡ 0 → at W 0 ≡ 1
    → Written W 0 (t + 1) (λ i. at W (f + i)) W' → Multiplied p W d f t W'
product_one {p} {W} {d} {f} {t} {W'} h z one w =
    descending_all h
    (record {
      same_length = w.same_length;
      below = λ i l. absurd (omega (arith, l));
      inside = λ i a l. ap (at W') (sym (zero-add i)) ∙ w.inside i (omega (arith, l, z)) ∙ sym (place i (omega (arith, l, z)));
      after = λ i l. w.after i (omega (arith, l, z));
    })
  where
    place : (k : ℕ) → k ≤ t → product_at p W d f t k ≡ at W (f + k)
    place k l =
        ap (λ x. x % p)
        (sym (meets h {k = k} {from = 0} {to = 1} (record { inside = omega (arith, l); start = omega (arith, l); low = omega arith; short = omega arith; end = inr (omega (arith, z)) }))
        ∙ sum_from_one 0 (cross W 0 (f + k)) ∙ ap (λ x. at W 0 * at W x) (sub-zero (f + k)) ∙ ap (λ x. x * at W (f + k)) one ∙ one-mul (at W (f + k)))
        ∙ mod-eq_of_lt (h.right k l)

-- a leading part that holds F and f, lent to the product
pub multiplied_lent : {p : ℕ} {W : List ℕ} {d f t : ℕ} (m : ℕ) {Y : List ℕ} → d + t < f → f + t < m → m ≤ length W → length Y ≡ m
    → Multiplied p (part 0 m W) d f t Y → Multiplied p W d f t (lent W 0 m Y)
multiplied_lent {p} {W} {d} {f} {t} m {Y} a b l same q =
    record {
      same_length = long;
      product =
          inner_lent W 0 m Y fits same 0 (d + t + 1) (omega (arith, a, b)) ∙ q.product
          ∙ ap₂ (multiply p) (part_of_part 0 (d + 1) 0 m W (omega (arith, a, b)) fits)
          (part_of_part f (t + 1) 0 m W (omega (arith, b)) fits ∙ part_at W (0 + f) (t + 1) f (t + 1) (zero-add f) refl);
      rest = drop_ext (d + t + 1) W (lent W 0 m Y) long (λ i h. go i h (dec_lt i m));
    }
  where
    fits : 0 + m ≤ length W
    fits = omega (arith, l)

    long : length (lent W 0 m Y) ≡ length W
    long = length_lent W 0 m Y fits same

    go : (i : ℕ) → d + t + 1 ≤ i → Dec (i < m) → at (lent W 0 m Y) i ≡ at W i
    go i h (yes k) =
        ap (at (lent W 0 m Y)) (sym (zero-add i)) ∙ sym (at_part 0 m (lent W 0 m Y) i k) ∙ ap (λ r. at r i) (part_lent W 0 m Y fits same)
        ∙ same_after (d + t + 1) i (part 0 m W) Y q.rest h ∙ at_part 0 m W i k ∙ ap (at W) (zero-add i)
    go i h (no k) = same_after (0 + m) i W (lent W 0 m Y) (drop_lent W 0 m Y fits same) (omega (arith, k))

-- where the places do not fit, the test fails
pub fits_not : (places d f t : ℕ) → ((d + t ≤ 8192) × (d + t < f) × (f + t < places) → ⊥) → factors_fit places d f t ≡ false
fits_not places d f t n = go (test_cases (factors_fit places d f t))
  where
    go : (factors_fit places d f t ≡ true) ⊎ (factors_fit places d f t ≡ false) → factors_fit places d f t ≡ false
    go (inl e) = absurd (n (fits_of places d f t e))
    go (inr e) = e
