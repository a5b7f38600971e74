-- Request (vi): AX does to v what A does to Xv.
--     length_diagonal, at_diagonal, reduced_diagonal      Xv by its elements, which are below p
--     length_scaled, at_scaled          the values of AX; the starts and columns are those of A
--     row_scaled, product_scaled        a row of AX with v is, modulo p, that of A with Xv; so is the product
--     diagonal_same, scaled_same        what counts of a list of scales is the scale of each column
--     diagonal_none, scaled_none        no scales leave v and A as they are
--     scale_ones, diagonal_ones, scaled_ones      n ones are as no scales
--     scale_taken, scale_nonzero        every column's scale is 1 to p − 1, so not 0 modulo p
--     accepted_scaled                   AX passes the checks that A and X pass
--     diagonal_zero                     X takes no vector but zero to zero
use Rattle.std.specs.Prelude.{◌≡◌, refl, ◌≢◌, true, List, [], ℕ, ◌+◌, ◌-◌, ◌*◌, ◌%◌, ◌≤◌, ◌<◌, ltb, leb, length}
use Rattle.std.proofs.Common.{sym, ◌∙◌, mod-lt, mod-eq_of_lt, zero-mul, mul-one, mul_assoc, mul_comm, pos_of_ne-zero, arith, ltb-true, leb-true, lt-ltb, le-leb}
use Rattle.std.proofs.Math.Path.{ap}
use Rattle.std.proofs.Math.Nat.{zero-mod}
use Rattle.std.proofs.Math.Decide.{dec_lt, ℕ_discrete}
use Rattle.std.proofs.Math.ListN.{get_or-eq_default}
use Rattle.meaning.specs.List.{at, table, zeros}
use Rattle.meaning.specs.Matrix.{Matrix, matrix, size, row_sum, product, scale_at, scaled_values, scaled, diagonal}
use Rattle.meaning.specs.Refusal.{value_taken}
use Rattle.laws.specs.Bool.{and_left, and_right, and_both}
use Rattle.laws.specs.List.{sum_mod_ext, length_table, get_or_table, get_or_table_past, table_ext, table_of, every_at, every_of}
use Rattle.laws.specs.Accepted.{modulus_low, AcceptedSystem, AcceptedScales}
use Rattle.residue.specs.Numbers.{mul_mod_mod, mod_mul_mod}
use Rattle.residue.specs.Prime.{Prime, is_modulus_Prime}
use Rattle.residue.specs.Inverse.{mul_mod_nonzero}
use Rattle.residue.specs.Lists.{Reduced}
use Rattle.bridge.specs.Lists.{reduced_table_mod}

-- ---- by their elements

-- past its end a list has zeros, and 0 times a scale is 0
at_times : (p : ℕ) (l : List ℕ) (f : ℕ → ℕ) (i : ℕ) → at (table (length l) (λ i. at l i * f i % p)) i ≡ at l i * f i % p
at_times p l f i = place (dec_lt i (length l))
  where
    place : Dec (i < length l) → at (table (length l) (λ i. at l i * f i % p)) i ≡ at l i * f i % p
    place (yes k) = get_or_table (length l) (λ i. at l i * f i % p) i 0 k
    place (no k) =
        get_or_table_past (length l) (λ i. at l i * f i % p) i 0 (omega arith) ∙ sym (zero-mod p)
        ∙ ap (λ x. x % p) (sym (zero-mul (f i))) ∙ ap (λ x. x * f i % p) (sym (get_or-eq_default l 0 {n = i} (omega arith)))

pub length_diagonal : (p : ℕ) (X v : List ℕ) → length (diagonal p X v) ≡ length v
unfolding diagonal
length_diagonal p X v = length_table (length v) (λ j. at v j * scale_at X j % p)

pub at_diagonal : (p : ℕ) (X v : List ℕ) (j : ℕ) → at (diagonal p X v) j ≡ at v j * scale_at X j % p
unfolding diagonal
at_diagonal p X v j = at_times p v (scale_at X) j

pub reduced_diagonal : (p : ℕ) (X v : List ℕ) → 0 < p → Reduced p (diagonal p X v)
unfolding diagonal
reduced_diagonal p X v k = reduced_table_mod p (length v) (λ j. at v j * scale_at X j) k

pub length_scaled : (p : ℕ) (A : Matrix) (X : List ℕ) → length (scaled_values p A X) ≡ length A.values
unfolding scaled_values
length_scaled p A X = length_table (length A.values) (λ k. at A.values k * scale_at X (at A.columns k) % p)

pub at_scaled : (p : ℕ) (A : Matrix) (X : List ℕ) (k : ℕ) → at (scaled_values p A X) k ≡ at A.values k * scale_at X (at A.columns k) % p
unfolding scaled_values
at_scaled p A X k = at_times p A.values (λ k. scale_at X (at A.columns k)) k

-- ---- products

pub row_scaled : (p : ℕ) (A : Matrix) (X v : List ℕ) (i : ℕ)
    → row_sum A i (λ k. at (scaled_values p A X) k * at v (at A.columns k)) % p
    ≡ row_sum A i (λ k. at A.values k * at (diagonal p X v) (at A.columns k)) % p
row_scaled p A X v i =
    sum_mod_ext p (at A.starts (i + 1) - at A.starts i) (λ j. at (scaled_values p A X) (at A.starts i + j) * at v (at A.columns (at A.starts i + j)))
    (λ j. at A.values (at A.starts i + j) * at (diagonal p X v) (at A.columns (at A.starts i + j))) (λ j l. entry (at A.starts i + j))
  where
    entry : (k : ℕ) → at (scaled_values p A X) k * at v (at A.columns k) % p ≡ at A.values k * at (diagonal p X v) (at A.columns k) % p
    entry k =
        let a = at A.values k in
        let x = scale_at X (at A.columns k) in
        let y = at v (at A.columns k) in
        ap (λ z. z * y % p) (at_scaled p A X k) ∙ mod_mul_mod (a * x) y p
        ∙ ap (λ z. z % p) (mul_assoc a x y ∙ ap (λ z. a * z) (mul_comm x y)) ∙ sym (mul_mod_mod a (y * x) p)
        ∙ ap (λ z. a * z % p) (sym (at_diagonal p X v (at A.columns k)))

pub product_scaled : (p : ℕ) (A : Matrix) (X v : List ℕ) → product p (scaled p A X) v ≡ product p A (diagonal p X v)
unfolding product
product_scaled p A X v =
    table_ext (size A) (λ i. row_sum A i (λ k. at (scaled_values p A X) k * at v (at A.columns k)) % p)
    (λ i. row_sum A i (λ k. at A.values k * at (diagonal p X v) (at A.columns k)) % p) (λ i l. row_scaled p A X v i)

-- ---- no scales, and n ones

module _ (p : ℕ) (X Y : List ℕ) (same : (j : ℕ) → scale_at X j ≡ scale_at Y j) where
  pub diagonal_same : (v : List ℕ) → diagonal p X v ≡ diagonal p Y v
  unfolding diagonal
  diagonal_same v =
      table_ext (length v) (λ j. at v j * scale_at X j % p) (λ j. at v j * scale_at Y j % p) (λ j l. ap (λ x. at v j * x % p) (same j))

  pub scaled_same : (A : Matrix) → scaled p A X ≡ scaled p A Y
  unfolding scaled_values
  scaled_same A =
      ap (matrix A.starts A.columns)
      (table_ext (length A.values) (λ k. at A.values k * scale_at X (at A.columns k) % p) (λ k. at A.values k * scale_at Y (at A.columns k) % p)
      (λ k l. ap (λ x. at A.values k * x % p) (same (at A.columns k))))

one_times : (p : ℕ) (l : List ℕ) → ((i : ℕ) → i < length l → at l i < p) → table (length l) (λ i. at l i * 1 % p) ≡ l
one_times p l h =
    sym (table_of 0 l (length l) (λ i. at l i * 1 % p) refl (λ i k. sym (ap (λ x. x % p) (mul-one (at l i)) ∙ mod-eq_of_lt (h i k))))

pub diagonal_none : (p : ℕ) (v : List ℕ) → ((i : ℕ) → i < length v → at v i < p) → diagonal p [] v ≡ v
unfolding diagonal
diagonal_none p v h = one_times p v h

pub scaled_none : (p : ℕ) (A : Matrix) → ((k : ℕ) → k < length A.values → at A.values k < p) → scaled p A [] ≡ A
unfolding scaled_values
scaled_none p A h = ap (matrix A.starts A.columns) (one_times p A.values h)

-- past its end too
pub scale_ones : (n j : ℕ) → scale_at (table n (λ j. 1)) j ≡ 1
scale_ones n j = place (dec_lt j n)
  where
    place : Dec (j < n) → scale_at (table n (λ j. 1)) j ≡ 1
    place (yes k) = get_or_table n (λ j. 1) j 1 k
    place (no k) = get_or_table_past n (λ j. 1) j 1 (omega arith)

pub scaled_ones : (p : ℕ) (A : Matrix) → scaled p A (table (size A) (λ j. 1)) ≡ scaled p A []
scaled_ones p A = scaled_same p (table (size A) (λ j. 1)) [] (scale_ones (size A)) A

pub diagonal_ones : (p n : ℕ) (v : List ℕ) → diagonal p (table n (λ j. 1)) v ≡ diagonal p [] v
diagonal_ones p n v = diagonal_same p (table n (λ j. 1)) [] (scale_ones n) v

-- ---- scales that pass the checks

taken_nonzero : (p a : ℕ) → value_taken p a ≡ true → a % p ≢ 0
taken_nonzero p a e z =
    omega (arith, leb-true 1 a (and_left (leb 1 a) (ltb a p) e), mod-eq_of_lt (ltb-true a p (and_right (leb 1 a) (ltb a p) e)), z)

module _ {p n : ℕ} {X : List ℕ} (low : 2 ≤ p) (x : AcceptedScales p n X) where
  pub scale_taken : (j : ℕ) → value_taken p (scale_at X j) ≡ true
  scale_taken j = place (dec_lt j (length X))
    where
      place : Dec (j < length X) → value_taken p (scale_at X j) ≡ true
      place (yes k) = every_at (value_taken p) X 1 x.taken j k
      place (no k) =
          ap (value_taken p) (get_or-eq_default X 1 {n = j} (omega arith)) ∙ and_both (le-leb 1 1 (omega arith)) (lt-ltb 1 p (omega arith))

  pub scale_nonzero : (j : ℕ) → scale_at X j % p ≢ 0
  scale_nonzero j = taken_nonzero p (scale_at X j) (scale_taken j)

pub accepted_scaled : {p : ℕ} {A : Matrix} {X b : List ℕ} → AcceptedSystem p A b → AcceptedScales p (size A) X → AcceptedSystem p (scaled p A X) b
accepted_scaled {p} {A} {X} a x =
    record {
      prime = a.prime;
      size_high = a.size_high;
      start_count = a.start_count;
      from_zero = a.from_zero;
      rising = a.rising;
      to_end = a.to_end;
      as_many = a.as_many ∙ sym (length_scaled p A X);
      few = a.few;
      column_below = a.column_below;
      column_rises = a.column_rises;
      values_taken_law = every_of (value_taken p) (scaled_values p A X) 0 (λ k l. ap (value_taken p) (at_scaled p A X k) ∙ taken k (omega (arith, l, length_scaled p A X)));
      right_length = a.right_length;
      right_below = a.right_below;
    }
  where
    taken : (k : ℕ) → k < length A.values → value_taken p (at A.values k * scale_at X (at A.columns k) % p) ≡ true
    taken k l =
        let low = modulus_low p a.prime in
        let r = at A.values k * scale_at X (at A.columns k) % p in
        let nonzero =
        mul_mod_nonzero p (is_modulus_Prime p a.prime) (at A.values k) (scale_at X (at A.columns k))
        (taken_nonzero p (at A.values k) (every_at (value_taken p) A.values 0 a.values_taken_law k l)) (scale_nonzero low x (at A.columns k)) in
        and_both (le-leb 1 r (pos_of_ne-zero nonzero)) (lt-ltb r p (mod-lt (at A.values k * scale_at X (at A.columns k)) (omega (arith, low))))

pub diagonal_zero : {p : ℕ} {X v : List ℕ} → Prime p → AcceptedScales p (length v) X → ((i : ℕ) → i < length v → at v i < p)
    → diagonal p X v ≡ zeros (length v) → v ≡ zeros (length v)
diagonal_zero {p} {X} {v} h x below e = table_of 0 v (length v) (λ i. 0) refl (λ i k. place i k (ℕ_discrete (at v i) 0))
  where
    place : (i : ℕ) → i < length v → Dec (at v i ≡ 0) → at v i ≡ 0
    place i k (yes z) = z
    place i k (no f) =
        absurd (mul_mod_nonzero p h (at v i) (scale_at X i) (λ z. f (sym (mod-eq_of_lt (below i k)) ∙ z)) (scale_nonzero h.two_le x i)
        (sym (at_diagonal p X v i) ∙ ap (λ l. at l i) e ∙ get_or_table (length v) (λ i. 0) i 0 k))
