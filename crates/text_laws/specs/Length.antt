-- The length of a system's text: the reader's limit turns no accepted system's text down.
--     length_flat_rows     lists whose lengths are at most w for each place from start to start
--     length_line_three, length_line_four      lines of three and four fields
--     write_length         length (write p A X b) ≤ 44 + 23 × entries + 36 × n, if p, A, X and b are accepted
--     write_within         .. so at most 2,097,152
use Rattle.std.specs.Prelude.{◌≡◌, ◌⊎◌, Bool, cond, ℕ, zero, suc, ◌+◌, ◌-◌, ◌*◌, ◌≤◌, ◌<◌, eqb, ltb, leb}
use Rattle.std.proofs.Math.Path.{refl}
use Rattle.std.proofs.Common.{ap, inl, inr, add-one, ltb-true}
use Rattle.std.proofs.Math.Bool.{true, false}
use mathlib.Core.List.{List, [], ◌∷◌, ◌++◌}
use native.Mathlib.Omega.{arith}
use Rattle.std.proofs.Math.ListN.{length, length-append, get_or-eq_default}
use Rattle.meaning.specs.List.{at, table, flat, bytes}
use Rattle.meaning.specs.Matrix.{Matrix, size}
use Rattle.meaning.specs.Text.{decimal, line, write_row, write_scales, write_element, write}
use Rattle.meaning.specs.Refusal.{value_taken}
use Rattle.laws.specs.Bool.{and_right}
use Rattle.laws.specs.List.{every_at}
use Rattle.laws.specs.Accepted.{start_within, value_below, right_at}
use Rattle.text_laws.specs.Tables.{flat_table_zero, flat_table_suc}
use Rattle.text_laws.specs.Numeral.{small_or_large, decimal_short, decimal_bounded}
use Rattle.text_laws.specs.Line.{length_line_last, length_line_more}
use Rattle.text_laws.specs.Accepted.{start, column, value, AcceptedSystem, AcceptedScales, modulus_high}
use Rattle.text_laws.specs.Coordinates.{all_ones}

-- each list adds at most w for each place from start to start
pub length_flat_rows : {A : Type 0} (s : ℕ → ℕ) (w : ℕ) (n : ℕ) (g : ℕ → List A) → ((i : ℕ) → i < n → length (g i) + w * s i ≤ w * s (i + 1))
    → length (flat (table n g)) + w * s 0 ≤ w * s n
length_flat_rows s w zero g h = omega (arith, ap length (flat_table_zero g))
length_flat_rows s w (suc n) g h =
    omega (
      arith,
      ap length (flat_table_suc n g),
      length-append (flat (table n g)) (g n),
      length_flat_rows s w n g (λ i l. h i (omega arith)),
      h n (omega arith),
      ap (λ m. w * s m) (add-one n),
    )

pub length_line_three : (u v w : List ℕ) → length (line (u ∷ v ∷ w ∷ [])) ≡ length u + length v + length w + 3
length_line_three u v w = omega (arith, length_line_more u v (w ∷ []), length_line_more v w [], length_line_last w)

pub length_line_four : (t u v w : List ℕ) → length (line (t ∷ u ∷ v ∷ w ∷ [])) ≡ length t + length u + length v + length w + 4
length_line_four t u v w = omega (arith, length_line_more t u (v ∷ w ∷ []), length_line_three u v w)

-- a line of a place and a value, `s` or `b`
placed_line : (letter : List ℕ) (i x : ℕ) → length letter ≡ 1 → i < 4096 → x ≤ 2147483647
    → length (line (letter ∷ decimal (i + 1) ∷ decimal x ∷ [])) ≤ 18
placed_line letter i x e l h =
    omega (
      arith,
      e,
      length_line_three letter (decimal (i + 1)) (decimal x),
      decimal_short 3 (i + 1) (omega arith),
      decimal_bounded x (omega arith),
    )

module _ (p : ℕ) (A : Matrix) (X b : List ℕ) (a : AcceptedSystem p A b) (x : AcceptedScales p (size A) X) where
  entry_line_law : (i : ℕ) → i < size A → (k : ℕ) → start A i + k < start A (i + 1)
      → length (line (bytes "a" ∷ decimal (i + 1) ∷ decimal (column A (start A i + k) + 1) ∷ decimal (value A (start A i + k)) ∷ [])) ≤ 23
  unfolding bytes
  entry_line_law i l k g =
      let c = a.column_below i l k g in
      let n = a.size_high in
      let v : value A (start A i + k) < p =
      value_below a (start A i + k) (omega (arith, start_within a (i + 1) (omega arith), a.as_many)) in
      omega (
        arith,
        length_line_four (bytes "a") (decimal (i + 1)) (decimal (column A (start A i + k) + 1)) (decimal (value A (start A i + k))),
        decimal_short 3 (i + 1) (omega arith),
        decimal_short 3 (column A (start A i + k) + 1) (omega arith),
        decimal_bounded (value A (start A i + k)) (omega (arith, v, modulus_high p a.prime)),
      )

  row_length_law : (i : ℕ) → i < size A → length (write_row A i) + 23 * start A i ≤ 23 * start A (i + 1)
  unfolding write_row
  row_length_law i l =
      let up = a.rising i l in
      omega (
        arith,
        up,
        length_flat_rows (λ k. k) 23 (start A (i + 1) - start A i)
            (λ k. line (bytes "a" ∷ decimal (i + 1) ∷ decimal (column A (start A i + k) + 1) ∷ decimal (value A (start A i + k)) ∷ []))
            (λ k g. omega (arith, entry_line_law i l k (omega arith))),
      )

  scale_high : (i : ℕ) → at X i ≤ 2147483647
  scale_high i = go (small_or_large i (length X))
    where
      go : (i < length X) ⊎ (length X ≤ i) → at X i ≤ 2147483647
      go (inl l) =
          omega (
            arith,
            ltb-true (at X i) p (and_right (leb 1 (at X i)) (ltb (at X i) p) (every_at (value_taken p) X 0 x.taken i l)),
            modulus_high p a.prime,
          )
      go (inr l) = omega (arith, get_or-eq_default X 0 {n = i} l)

  scales_length : length (write_scales (size A) X) ≤ 18 * size A
  unfolding write_scales bytes
  scales_length = go (all_ones X)
    where
      go : (z : Bool)
          → length (cond z [] (flat (table (size A) (λ i. line (bytes "s" ∷ decimal (i + 1) ∷ decimal (at X i) ∷ []))))) ≤ 18 * size A
      go true = omega arith
      go false =
          omega (
            arith,
            length_flat_rows (λ i. i) 18 (size A) (λ i. line (bytes "s" ∷ decimal (i + 1) ∷ decimal (at X i) ∷ []))
                (λ i l. omega (arith, placed_line (bytes "s") i (at X i) refl (omega (arith, a.size_high)) (scale_high i))),
          )

  element_length : (i : ℕ) → i < size A → length (write_element b i) ≤ 18
  unfolding write_element bytes
  element_length i l = go (eqb (at b i) 0)
    where
      go : (z : Bool) → length (cond z [] (line (bytes "b" ∷ decimal (i + 1) ∷ decimal (at b i) ∷ []))) ≤ 18
      go true = omega arith
      go false =
          placed_line (bytes "b") i (at b i) refl (omega (arith, a.size_high)) (omega (arith, right_at a i l, modulus_high p a.prime))

  pub write_length : length (write p A X b) ≤ 44 + 23 * length A.columns + 36 * size A
  unfolding write bytes
  write_length =
      let head = line (bytes "system" ∷ decimal p ∷ decimal (size A) ∷ decimal (length A.columns) ∷ []) in
      let rows = flat (table (size A) (write_row A)) in
      let scales = write_scales (size A) X in
      let right = flat (table (size A) (write_element b)) in
      let head_length : length head ≤ 40 =
      omega (
        arith,
        length_line_four (bytes "system") (decimal p) (decimal (size A)) (decimal (length A.columns)),
        decimal_bounded p (omega (arith, modulus_high p a.prime)),
        decimal_bounded (size A) (omega (arith, a.size_high)),
        decimal_bounded (length A.columns) (omega (arith, a.few)),
      ) in
      let rows_length : length rows ≤ 23 * length A.columns =
      omega (arith, length_flat_rows (start A) 23 (size A) (write_row A) row_length_law, a.to_end) in
      let right_length : length right ≤ 18 * size A =
      omega (arith, length_flat_rows (λ i. i) 18 (size A) (write_element b) (λ i l. omega (arith, element_length i l))) in
      omega (
        arith,
        length-append (head ++ rows ++ scales ++ right) (line (bytes "end" ∷ [])),
        length-append (head ++ rows ++ scales) right,
        length-append (head ++ rows) scales,
        length-append head rows,
        head_length,
        rows_length,
        scales_length,
        right_length,
        length_line_last (bytes "end"),
      )

  pub write_within : length (write p A X b) ≤ 2097152
  write_within = omega (arith, write_length, a.few, a.size_high)
