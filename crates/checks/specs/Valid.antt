-- What the checks leave known of a matrix and a vector (laws' Accepted), as the code that runs without checks needs it.
--     Valid p A        a matrix of size 0 to 4,096 with values below p
--     Vector p n v     n elements below p
--     Scales p n X     no scales, or n of them, below p
--     ValidScaled p A X     a valid matrix with such scales; valid_scaled: AX is valid then; valid_plain: a valid matrix without scales
--     valid_of, scales_of_law, right_of, vector_of      an accepted system's matrix and right side; a list that passed 8 and 9
--     elements_of_law, vector_elements      .. and back: elements below p pass 9
--     term             the product of entry k with its element of v
--     row_product       their sum over row i
--     Entries          what the sum of a row needs to know: entries and elements below 2³¹ − 1, columns within v
--     valid_entries    a valid matrix with a vector
--     vector_table     what is reduced has elements below p
--     row_bounds       where a row begins and ends
use Rattle.std.specs.Prelude.{◌≡◌, refl, ◌≢◌, ◌⊎◌, true, false, List, [], ℕ, ◌+◌, ◌*◌, ◌%◌, ◌≤◌, ◌<◌, eqb, ltb, leb, length}
use Rattle.std.proofs.Common.{sym, ◌∙◌, inl, inr, mod-lt, arith, ltb-true, lt-ltb, eqb-true}
use Rattle.meaning.specs.List.{at, table}
use Rattle.meaning.specs.Matrix.{Matrix, size, row_sum, scale_at, scaled_values, scaled}
use Rattle.meaning.specs.Refusal.{elements, value_taken}
use Rattle.laws.specs.Bool.{and_right, or_right, test_cases}
use Rattle.laws.specs.List.{every_at, every_of, length_table, get_or_table}
use Rattle.laws.specs.Accepted.{modulus_low, modulus_high, AcceptedSystem, AcceptedScales, start_within, column_within, value_below, right_at}

pub record Valid (p : ℕ) (A : Matrix) : Type 0 where
  pub positive : 0 < p
  pub small : p ≤ 2147483647
  pub one_more : length A.starts ≡ size A + 1
  pub sized : size A ≤ 4096
  pub rise : (i : ℕ) → i < size A → at A.starts i ≤ at A.starts (i + 1)
  pub within : (i : ℕ) → i < size A → at A.starts (i + 1) ≤ length A.columns
  pub paired : length A.columns ≡ length A.values
  pub few : length A.columns ≤ 65536
  pub column : (k : ℕ) → k < length A.columns → at A.columns k < size A
  pub value : (k : ℕ) → k < length A.values → at A.values k < p

pub record Vector (p n : ℕ) (v : List ℕ) : Type 0 where
  pub places : length v ≡ n
  pub below : (i : ℕ) → i < n → at v i < p

pub record Scales (p n : ℕ) (X : List ℕ) : Type 0 where
  pub number : length X ≢ 0 → length X ≡ n
  pub below : (j : ℕ) → j < length X → at X j < p

pub record ValidScaled (p : ℕ) (A : Matrix) (X : List ℕ) : Type 0 where
  pub valid : Valid p A
  pub scales : Scales p (size A) X

pub valid_scaled : {p : ℕ} {A : Matrix} (X : List ℕ) → Valid p A → Valid p (scaled p A X)
unfolding scaled_values
valid_scaled {p} {A} X h =
    record {
      positive = h.positive;
      small = h.small;
      one_more = h.one_more;
      sized = h.sized;
      rise = h.rise;
      within = h.within;
      paired = h.paired ∙ sym (length_table (length A.values) reduced);
      few = h.few;
      column = h.column;
      value = λ k l. rw (get_or_table (length A.values) reduced k 0 (omega (arith, l, length_table (length A.values) reduced))) (mod-lt (at A.values k * scale_at X (at A.columns k)) h.positive);
    }
  where
    reduced : ℕ → ℕ
    reduced k = at A.values k * scale_at X (at A.columns k) % p

pub valid_plain : {p : ℕ} {A : Matrix} → Valid p A → ValidScaled p A []
valid_plain h = record { valid = h; scales = record { number = λ some. absurd (some refl); below = λ j l. absurd (omega (arith, l)) } }

pub scales_of_law : {p n : ℕ} {X : List ℕ} → AcceptedScales p n X → Scales p n X
scales_of_law {p} {n} {X} a =
    record {
      number = number_of (test_cases (eqb (length X) 0));
      below = λ j l. ltb-true (at X j) p (and_right (leb 1 (at X j)) (ltb (at X j) p) (every_at (value_taken p) X 0 a.taken j l));
    }
  where
    number_of : (eqb (length X) 0 ≡ true) ⊎ (eqb (length X) 0 ≡ false) → length X ≢ 0 → length X ≡ n
    number_of (inl e) some = absurd (some (eqb-true (length X) 0 e))
    number_of (inr e) some = eqb-true (length X) n (or_right (eqb (length X) 0) (eqb (length X) n) e a.number)

pub valid_of : {p : ℕ} {A : Matrix} {b : List ℕ} → AcceptedSystem p A b → Valid p A
valid_of {p} {A} {b} a =
    record {
      positive = omega (arith, modulus_low p a.prime);
      small = modulus_high p a.prime;
      one_more = a.start_count;
      sized = a.size_high;
      rise = a.rising;
      within = λ i l. start_within a (i + 1) (omega (arith, l));
      paired = a.as_many;
      few = a.few;
      column = column_within a;
      value = value_below a;
    }

pub right_of : {p : ℕ} {A : Matrix} {b : List ℕ} → AcceptedSystem p A b → Vector p (size A) b
right_of a = record { places = a.right_length; below = right_at a }

pub vector_of : (p : ℕ) (v : List ℕ) (n : ℕ) → length v ≡ n → elements p v ≡ true → Vector p n v
unfolding elements
vector_of p v n e h =
    record { places = e; below = λ i l. ltb-true (at v i) p (every_at (λ a. ltb a p) v 0 h i (omega (arith, e, l))) }

pub elements_of_law : (p : ℕ) (v : List ℕ) → ((i : ℕ) → i < length v → at v i < p) → elements p v ≡ true
unfolding elements
elements_of_law p v h = every_of (λ a. ltb a p) v 0 (λ i l. lt-ltb (at v i) p (h i l))

pub vector_elements : {p n : ℕ} {v : List ℕ} → Vector p n v → elements p v ≡ true
vector_elements {p} {n} {v} h = elements_of_law p v (λ i l. h.below i (omega (arith, l, h.places)))

abbrev pub term : List ℕ → List ℕ → List ℕ → ℕ → ℕ
term columns values v k = at values k * at v (at columns k)

-- the product of row i with v, not reduced
abbrev pub row_product : Matrix → List ℕ → ℕ → ℕ
row_product A v i = row_sum A i (term A.columns A.values v)

pub record Entries (columns values v : List ℕ) : Type 0 where
  pub paired : length columns ≡ length values
  pub few : length columns ≤ 65536
  pub column : (k : ℕ) → k < length columns → at columns k < length v
  pub value : (k : ℕ) → k < length values → at values k < 2147483647
  pub element : (i : ℕ) → i < length v → at v i < 2147483647

pub valid_entries : (p : ℕ) (A : Matrix) (v : List ℕ) → Valid p A → Vector p (size A) v → Entries A.columns A.values v
valid_entries p A v h w =
    record {
      paired = h.paired;
      few = h.few;
      column = λ k l. omega (arith, h.column k l, w.places);
      value = λ k l. omega (arith, h.value k l, h.small);
      element = λ i l. omega (arith, w.below i (omega (arith, w.places)), h.small);
    }

pub vector_table : (p n : ℕ) (f : ℕ → ℕ) → 0 < p → Vector p n (table n (λ i. f i % p))
vector_table p n f l =
    record { places = length_table n (λ i. f i % p); below = λ i k. rw (get_or_table n (λ j. f j % p) i 0 k) (mod-lt (f i) l) }

pub row_bounds : (A : Matrix) (i from to : ℕ) → from ≡ at A.starts i → to ≡ at A.starts (i + 1) → {p : ℕ} → Valid p A → i < size A
    → (from ≤ to) × (to ≤ length A.columns)
row_bounds A i from to here next h l = (omega (arith, here, next, h.rise i l), omega (arith, next, h.within i l))
