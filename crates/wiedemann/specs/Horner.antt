-- Horner's rule for the polynomial of a matrix.
--     step_at           its element i
--     step p A c x v   element i is c × x[i] plus the product of row i with v: Horner's step, and the product if c is 0
--     row_reduced      a row's sum by the bounds that a loop over rows carries, reduced
--     step_product     step p A 0 x v ≡ product p A v; step_made: what such a step leaves
--     step_scaled      a step with AX from v is one with A from Xv
--     scaled_vector    what the code leaves of a vector that it scales is Xv
--     sum_head, sum_scale, sum_swap      laws of sums
--     power_zero, power_suc      the clauses of power
--     combination      element j of g(A)v before it is reduced
--     table_step, table_apply, at_product, at_apply      step, product and apply by their elements
--     apply_one        a(A)v for one coefficient a
--     apply_cons       (a + z·g)(A)v is a step with a from g(A)v
--     horner_begins, horner_goes_on      the rule as a loop runs it: from the last coefficient, and by one step more
--     Turn               the rule by turns between two slices: turn_even, turn_odd where it begins; turn_work, turn_out: what is read next; turn_to_even,
--                        turn_to_odd: a step more
--     after_plain        without scales g(AX)v is g(A)v
--     vector_diagonal, vector_step, vector_product, vector_apply      what is reduced has elements below p
use Rattle.std.specs.Prelude.{◌≡◌, refl, ◌≢◌, ◌⊎◌, List, [], ◌∷◌, ℕ, zero, suc, ◌+◌, ◌*◌, ◌-◌, ◌%◌, ◌<◌, length, drop}
use Rattle.std.proofs.Common.{sym, ap, ap₂, ◌∙◌, subst, inl, inr, zero-add, add-zero, zero-mul, mul-zero, mul-add, mul_left_comm, arith, drop-cons}
use Rattle.std.proofs.Math.Nat.{add-mod-mod}
use Rattle.std.proofs.Math.Decide.{ℕ_discrete}
use Rattle.std.proofs.Math.Seq.{drop-length}
use Rattle.meaning.specs.List.{at, sum, sum_from, table}
use Rattle.meaning.specs.Field.{times}
use Rattle.meaning.specs.Matrix.{Matrix, size, product, power, apply, scale_at, scaled, diagonal}
use Rattle.laws.specs.List.{sum_zero, sum_suc, sum_ext, sum_zeros, sum_add, sum_mod_ext, length_table, get_or_table, table_ext}
use Rattle.residue.specs.Numbers.{mul_mod_mod}
use Rattle.bridge.specs.Scaled.{row_scaled, scaled_none}
use Rattle.meaning.specs.Refusal.{unless_refused}
use Rattle.meaning.specs.Calls.{apply_refusal, apply_after}
use Rattle.laws.specs.Refusal.{unless_refused_some}
use Rattle.checks.specs.Matrix.{scaled_apply_refusal, scaled_apply_after, apply_plain, apply_accepted}
use Rattle.checks.specs.Valid.{Valid, Scales, Vector, term, row_product, vector_table}
use Rattle.modular.specs.declared.modulus.Modulus.{Modulus}
use Rattle.modular.specs.declared.sums.Total.{Total}
use Rattle.modular.specs.Modulus.{Modular}
use Rattle.modular.specs.Diagonal.{scaled_by, scale_of}
use Rattle.modular.specs.Total.{number}

abbrev pub step_at : ℕ → Matrix → ℕ → List ℕ → List ℕ → ℕ → ℕ
step_at p A c x v i = (c * at x i + row_product A v i) % p

unfoldable pub step : ℕ → Matrix → ℕ → List ℕ → List ℕ → List ℕ
step p A c x v = table (size A) (step_at p A c x v)

module _ (A : Matrix) (i from to : ℕ) (here : from ≡ at A.starts i) (next : to ≡ at A.starts (i + 1)) where
  pub row_reduced : (p start s x : ℕ) (v w : List ℕ) (r : Total) → start ≡ s → v ≡ w
      → number r ≡ start + sum_from from to (term A.columns A.values v) → x ≡ number r % p → x ≡ (s + row_product A w i) % p
  row_reduced p start s x v w r e q summed reduced =
      reduced ∙ ap (λ y. y % p) summed ∙ ap₂ (λ y l. (y + sum_from from to (term A.columns A.values l)) % p) e q
      ∙ ap₂ (λ a b. (s + sum_from a b (term A.columns A.values w)) % p) here next

pub table_step : (p : ℕ) (A : Matrix) (c : ℕ) (x v : List ℕ) → step p A c x v ≡ table (size A) (step_at p A c x v)
unfolding step
table_step p A c x v = refl

pub step_product : (p : ℕ) (A : Matrix) (x v : List ℕ) → step p A 0 x v ≡ product p A v
unfolding step product
step_product p A x v =
    table_ext (size A) (step_at p A 0 x v)
    (λ i. row_product A v i % p)
    (λ i l. ap (λ y. y % p) (ap (λ y. y + row_product A v i) (zero-mul (at x i)) ∙ zero-add (row_product A v i)))

pub step_made : (p q : ℕ) → q ≡ p → (A : Matrix) (x v w : List ℕ) → w ≡ step q A 0 x v → w ≡ product p A v
step_made p q e A x v w made = made ∙ ap (λ m. step m A 0 x v) e ∙ step_product p A x v

pub step_scaled : (p : ℕ) (A : Matrix) (X : List ℕ) (c : ℕ) (x v : List ℕ) → step p (scaled p A X) c x v ≡ step p A c x (diagonal p X v)
unfolding step
step_scaled p A X c x v =
    table_ext (size A) (step_at p (scaled p A X) c x v) (step_at p A c x (diagonal p X v))
    (λ i l. sym (add-mod-mod (c * at x i) (row_product (scaled p A X) v i) p) ∙ ap (λ s. (c * at x i + s) % p) (row_scaled p A X v i)
    ∙ add-mod-mod (c * at x i) (row_product A (diagonal p X v) i) p)

-- what the code leaves of a vector that it scales
pub scaled_vector : {m : Modulus} {n : ℕ} {X v : List ℕ} → Modular m → Scales m.p n X → Vector m.p n v → scaled_by m X v ≡ diagonal m.p X v
scaled_vector {m} {n} {X} {v} h x w =
    scale_of m X v h (number (ℕ_discrete (length X) 0)) x.below (λ j l. w.below j (omega (arith, l, w.places)))
  where
    number : Dec (length X ≡ 0) → (length X ≡ 0) ⊎ (length X ≡ length v)
    number (yes none) = inl none
    number (no some) = inr (x.number some ∙ sym w.places)

-- ---- sums

-- (law of sums) the first term apart
pub sum_head : (n : ℕ) (f : ℕ → ℕ) → sum (suc n) f ≡ f 0 + sum n (λ i. f (suc i))
sum_head zero f = omega (arith, sum_suc 0 f, sum_zero f, sum_zero (λ i. f (suc i)))
sum_head (suc n) f = omega (arith, sum_suc (suc n) f, sum_head n f, sum_suc n (λ i. f (suc i)))

pub sum_scale : (c n : ℕ) (f : ℕ → ℕ) → sum n (λ i. c * f i) ≡ c * sum n f
sum_scale c zero f = sum_zero (λ i. c * f i) ∙ sym (ap (λ x. c * x) (sum_zero f) ∙ mul-zero c)
sum_scale c (suc n) f =
    sum_suc n (λ i. c * f i) ∙ ap (λ x. x + c * f n) (sum_scale c n f) ∙ sym (mul-add c (sum n f) (f n)) ∙ ap (λ x. c * x) (sym (sum_suc n f))

pub sum_swap : (m n : ℕ) (f : ℕ → ℕ → ℕ) → sum m (λ i. sum n (λ j. f i j)) ≡ sum n (λ j. sum m (λ i. f i j))
sum_swap zero n f = sum_zero (λ i. sum n (λ j. f i j)) ∙ sym (sum_zeros n (λ j. sum 0 (λ i. f i j)) (λ j l. sum_zero (λ i. f i j)))
sum_swap (suc m) n f =
    sum_suc m (λ i. sum n (λ j. f i j)) ∙ ap (λ x. x + sum n (λ j. f m j)) (sum_swap m n f)
    ∙ sym (sum_add n (λ j. sum m (λ i. f i j)) (λ j. f m j))
    ∙ sum_ext n (λ j. sum m (λ i. f i j) + f m j) (λ j. sum (suc m) (λ i. f i j)) (λ j l. sym (sum_suc m (λ i. f i j)))

-- ---- powers and polynomials of a matrix

pub power_zero : (p : ℕ) (A : Matrix) (v : List ℕ) → power p A 0 v ≡ v
unfolding power
power_zero p A v = refl

pub power_suc : (p : ℕ) (A : Matrix) (k : ℕ) (v : List ℕ) → power p A (suc k) v ≡ product p A (power p A k v)
unfolding power
power_suc p A k v = refl

pub at_product : (p : ℕ) (A : Matrix) (v : List ℕ) (j : ℕ) → j < size A
    → at (product p A v) j ≡ row_product A v j % p
unfolding product
at_product p A v j l = get_or_table (size A) (λ i. row_product A v i % p) j 0 l

-- element j of g(A)v before it is reduced
abbrev pub combination : ℕ → Matrix → List ℕ → List ℕ → ℕ → ℕ
combination p A g v j = sum (length g) (λ i. at g i * at (power p A i v) j)

pub table_apply : (p : ℕ) (A : Matrix) (g v : List ℕ) → apply p A g v ≡ table (size A) (λ j. combination p A g v j % p)
unfolding apply
table_apply p A g v = refl

pub at_apply : (p : ℕ) (A : Matrix) (g v : List ℕ) (j : ℕ) → j < size A → at (apply p A g v) j ≡ combination p A g v j % p
unfolding apply
at_apply p A g v j l = get_or_table (size A) (λ i. combination p A g v i % p) j 0 l

-- the product of a row with g(A)v is the combination of the next powers
row_apply : (p : ℕ) (A : Matrix) → Valid p A → (g v : List ℕ) (j : ℕ) → j < size A
    → row_product A (apply p A g v) j % p ≡ sum (length g) (λ i. at g i * at (power p A (suc i) v) j) % p
row_apply p A h g v j l =
    sum_mod_ext p count (λ t. value t * at (apply p A g v) (column t)) (λ t. sum (length g) (λ i. at g i * (value t * element i t))) inner
    ∙ ap (λ x. x % p)
    (sum_swap count (length g) (λ t i. at g i * (value t * element i t))
    ∙ sum_ext (length g) (λ i. sum count (λ t. at g i * (value t * element i t))) (λ i. at g i * sum count (λ t. value t * element i t))
    (λ i k. sum_scale (at g i) count (λ t. value t * element i t)))
    ∙ sum_mod_ext p (length g) (λ i. at g i * sum count (λ t. value t * element i t)) (λ i. at g i * at (power p A (suc i) v) j) outer
  where
    count : ℕ
    count = at A.starts (j + 1) - at A.starts j

    value : ℕ → ℕ
    value t = at A.values (at A.starts j + t)

    column : ℕ → ℕ
    column t = at A.columns (at A.starts j + t)

    element : ℕ → ℕ → ℕ
    element i t = at (power p A i v) (column t)

    inner : (t : ℕ) → t < count
        → value t * at (apply p A g v) (column t) % p ≡ sum (length g) (λ i. at g i * (value t * element i t)) % p
    inner t k =
        ap (λ x. value t * x % p) (at_apply p A g v (column t) (h.column (at A.starts j + t) (omega (arith, h.within j l))))
        ∙ mul_mod_mod (value t) (combination p A g v (column t)) p
        ∙ ap (λ x. x % p)
        (sym (sum_scale (value t) (length g) (λ i. at g i * element i t))
        ∙ sum_ext (length g) (λ i. value t * (at g i * element i t)) (λ i. at g i * (value t * element i t))
        (λ i m. mul_left_comm (value t) (at g i) (element i t)))

    outer : (i : ℕ) → i < length g → at g i * sum count (λ t. value t * element i t) % p ≡ at g i * at (power p A (suc i) v) j % p
    outer i k =
        sym (mul_mod_mod (at g i) (sum count (λ t. value t * element i t)) p)
        ∙ ap (λ x. at g i * x % p) (sym (ap (λ w. at w j) (power_suc p A i v) ∙ at_product p A (power p A i v) j l))

pub apply_cons : (p : ℕ) (A : Matrix) → Valid p A → (a : ℕ) (g v : List ℕ) → apply p A (a ∷ g) v ≡ step p A a v (apply p A g v)
unfolding step
apply_cons p A h a g v =
    table_apply p A (a ∷ g) v
    ∙ table_ext (size A) (λ j. combination p A (a ∷ g) v j % p) (step_at p A a v (apply p A g v))
    (λ j l. ap (λ x. x % p) (sum_head (length g) (λ i. at (a ∷ g) i * at (power p A i v) j) ∙ ap (λ w. a * at w j + next j) (power_zero p A v))
    ∙ sym (add-mod-mod (a * at v j) (next j) p) ∙ ap (λ x. (a * at v j + x) % p) (sym (row_apply p A h g v j l))
    ∙ add-mod-mod (a * at v j) (row j) p)
  where
    row : ℕ → ℕ
    row j = row_product A (apply p A g v) j

    next : ℕ → ℕ
    next j = sum (length g) (λ i. at g i * at (power p A (suc i) v) j)

pub apply_one : (p : ℕ) (A : Matrix) (a : ℕ) (v : List ℕ) → apply p A (a ∷ []) v ≡ table (size A) (λ j. times p a (at v j))
unfolding times
apply_one p A a v =
    table_apply p A (a ∷ []) v
    ∙ table_ext (size A) (λ j. combination p A (a ∷ []) v j % p) (λ j. a * at v j % p)
    (λ j l. ap (λ x. x % p)
    (sum_head 0 (λ i. at (a ∷ []) i * at (power p A i v) j) ∙ ap₂ ◌+◌ (ap (λ w. a * at w j) (power_zero p A v)) (sum_zero (λ i. at (a ∷ []) (suc i) * at (power p A (suc i) v) j))
    ∙ add-zero (a * at v j)))

-- ---- the rule as a loop runs it: from the last coefficient to the first

pub horner_begins : (p : ℕ) (A : Matrix) (g v w : List ℕ) → length v ≡ size A → 0 < length g
    → w ≡ table (length v) (λ j. times p (at g (length g - 1)) (at v j)) → w ≡ apply p A (drop (length g - 1) g) v
horner_begins p A g v w e l made =
    made ∙ ap (λ n. table n (λ j. times p (at g last) (at v j))) e ∙ sym (apply_one p A (at g last) v)
    ∙ ap (λ h. apply p A h v)
    (sym (drop-cons g last 0 (omega (arith, l)) ∙ ap (λ k. at g last ∷ drop k g) whole ∙ ap (λ h. at g last ∷ h) (drop-length g)))
  where
    last : ℕ
    last = length g - 1

    whole : suc (length g - 1) ≡ length g
    whole = omega (arith, l)

pub horner_goes_on : (p : ℕ) (A : Matrix) → Valid p A → (g v : List ℕ) (i : ℕ) (w w' : List ℕ) → 0 < i → i < length g
    → w ≡ apply p A (drop i g) v → w' ≡ step p A (at g (i - 1)) v w → w' ≡ apply p A (drop (i - 1) g) v
horner_goes_on p A h g v i w w' l k held made =
    let next : i ≡ suc (i - 1) = omega (arith, l) in
    made ∙ ap (step p A (at g (i - 1)) v) held
    ∙ ap (λ m. step p A (at g (i - 1)) v (apply p A (drop m g) v)) next
    ∙ sym (apply_cons p A h (at g (i - 1)) (drop (suc (i - 1)) g) v) ∙ ap (λ m. apply p A m v) (sym (drop-cons g (i - 1) 0 (omega (arith, k))))

-- ---- their elements

pub vector_diagonal : (p : ℕ) (X v : List ℕ) {n : ℕ} → 0 < p → Vector p n v → Vector p n (diagonal p X v)
unfolding diagonal
vector_diagonal p X v l h = subst (λ k. Vector p k (diagonal p X v)) h.places (vector_table p (length v) (λ j. at v j * scale_at X j) l)

pub vector_step : (p : ℕ) (A : Matrix) (c : ℕ) (x v : List ℕ) → 0 < p → Vector p (size A) (step p A c x v)
unfolding step
vector_step p A c x v l = vector_table p (size A) (λ i. c * at x i + row_product A v i) l

pub vector_product : (p : ℕ) (A : Matrix) (v : List ℕ) → 0 < p → Vector p (size A) (product p A v)
unfolding product
vector_product p A v l = vector_table p (size A) (row_product A v) l

pub vector_apply : (p : ℕ) (A : Matrix) (g v : List ℕ) → 0 < p → Vector p (size A) (apply p A g v)
unfolding apply
vector_apply p A g v l = vector_table p (size A) (combination p A g v) l

-- ---- the rule by turns between two slices

-- what is made of the coefficients from i on stands in `out` if i is even, and in `work` if it is odd
pub record Turn (p : ℕ) (A : Matrix) (g v : List ℕ) (i : ℕ) (out work : List ℕ) : Type 0 where
  pub inside : i < length g
  pub out_places : length out ≡ size A
  pub work_places : length work ≡ size A
  pub even : i % 2 ≡ 0 → out ≡ apply p A (drop i g) v
  pub odd : i % 2 ≢ 0 → work ≡ apply p A (drop i g) v

module _ (p : ℕ) (A : Matrix) (g v : List ℕ) (places : length v ≡ size A) (some : 0 < length g) where
  -- what the last coefficient makes of v
  abbrev last : List ℕ
  last = table (length v) (λ j. times p (at g (length g - 1)) (at v j))

  length_last : {w : List ℕ} → w ≡ last → length w ≡ size A
  length_last e = ap length e ∙ length_table (length v) (λ j. times p (at g (length g - 1)) (at v j)) ∙ places

  pub turn_even : {out work : List ℕ} → (length g - 1) % 2 ≡ 0 → length work ≡ size A → out ≡ last → Turn p A g v (length g - 1) out work
  turn_even {out} e l made =
      record {
        inside = omega (arith, some);
        out_places = length_last made;
        work_places = l;
        even = λ z. horner_begins p A g v out places some made;
        odd = λ n. absurd (n e);
      }

  pub turn_odd : {out work : List ℕ} → (length g - 1) % 2 ≢ 0 → length out ≡ size A → work ≡ last → Turn p A g v (length g - 1) out work
  turn_odd {work = work} n l made =
      record {
        inside = omega (arith, some);
        out_places = l;
        work_places = length_last made;
        even = λ e. absurd (n e);
        odd = λ z. horner_begins p A g v work places some made;
      }

module _ {p : ℕ} {A : Matrix} {g v : List ℕ} {i : ℕ} {out work : List ℕ} (valid : Valid p A) (t : Turn p A g v i out work) (more : 0 < i) where
  made_odd : (i - 1) % 2 ≡ 0 → work ≡ apply p A (drop i g) v
  made_odd e = t.odd (λ z. omega (arith, e, z, more))

  made_even : (i - 1) % 2 ≢ 0 → out ≡ apply p A (drop i g) v
  made_even n = t.even (omega (arith, n, more))

  pub turn_work : (i - 1) % 2 ≡ 0 → Vector p (size A) work
  turn_work e = subst (Vector p (size A)) (sym (made_odd e)) (vector_apply p A (drop i g) v valid.positive)

  pub turn_out : (i - 1) % 2 ≢ 0 → Vector p (size A) out
  turn_out n = subst (Vector p (size A)) (sym (made_even n)) (vector_apply p A (drop i g) v valid.positive)

  pub turn_to_even : {out' work' : List ℕ} → (i - 1) % 2 ≡ 0 → length work' ≡ size A → out' ≡ step p A (at g (i - 1)) v work → Turn p A g v (i - 1) out' work'
  turn_to_even {out'} e places made =
      let next = horner_goes_on p A valid g v i work out' more t.inside (made_odd e) made in
      record {
        inside = omega (arith, t.inside);
        out_places = ap length next ∙ (vector_apply p A (drop (i - 1) g) v valid.positive).places;
        work_places = places;
        even = λ z. next;
        odd = λ n. absurd (n e);
      }

  pub turn_to_odd : {out' work' : List ℕ} → (i - 1) % 2 ≢ 0 → length out' ≡ size A → work' ≡ step p A (at g (i - 1)) v out → Turn p A g v (i - 1) out' work'
  turn_to_odd {work' = work'} n places made =
      let next = horner_goes_on p A valid g v i out work' more t.inside (made_even n) made in
      record {
        inside = omega (arith, t.inside);
        out_places = places;
        work_places = ap length next ∙ (vector_apply p A (drop (i - 1) g) v valid.positive).places;
        even = λ e. absurd (n e);
        odd = λ z. next;
      }

-- ---- no scales

-- g(AX)v without scales is g(A)v
pub after_plain : (p : ℕ) (A : Matrix) (g v out work : List ℕ) → scaled_apply_after p A [] g v out work ≡ apply_after p A g v out work
after_plain p A g v out work = go (ℕ_discrete (apply_refusal p A g v out work) 0)
  where
    same : scaled_apply_refusal p A [] g v out work ≡ apply_refusal p A g v out work
    same = apply_plain p A g v out work

    go : Dec (apply_refusal p A g v out work ≡ 0) → scaled_apply_after p A [] g v out work ≡ apply_after p A g v out work
    go (yes z) =
        let valid = (apply_accepted p A [] g v out work (same ∙ z)).valid.valid in
        ap₂ (λ k M. unless_refused k (apply p M g v) out) same (scaled_none p A valid.value)
    go (no q) =
        unless_refused_some (scaled_apply_refusal p A [] g v out work) (apply p (scaled p A []) g v) out (λ z. q (sym same ∙ z))
        ∙ sym (unless_refused_some (apply_refusal p A g v out work) (apply p A g v) out q)
