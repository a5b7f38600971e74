-- The projections of a run (src/projection.rt).
--     word_term         the product of word i with element i
--     Raw              what the sum of such products needs to know
--     Words            the random words as vectors of n; words_of: where they are taken and there are rows
--     sum_one          a sum of which one term is not 0
--     dot_words        a dot product with words, each taken modulo p: one reduction is enough
--     dot_unit         a dot product with a unit vector: an element
--     dot_nothing      a dot product with no vector: 0
--     projection_past  behind the words: an element, or 0 past the end
use Rattle.std.specs.Prelude.{◌≡◌, refl, ◌≢◌, ◌⊎◌, true, cond, List, [], ℕ, zero, suc, ◌+◌, ◌-◌, ◌*◌, ◌/◌, ◌%◌, ◌≤◌, ◌<◌, eqb, length, get_or}
use Rattle.std.proofs.Common.{sym, ap, ap₂, ◌∙◌, inl, inr, zero-add, add-zero, zero-mul, one-mul, mod-eq_of_lt, eq-or-lt_of_le, le_of_suc-le-suc, arith, eq-eqb, ne_eqb}
use Rattle.std.proofs.Math.Nat.{zero-mod}
use Rattle.std.proofs.Math.Decide.{dec_lt}
use Rattle.std.proofs.Math.ListN.{get_or-eq_default}
use Rattle.meaning.specs.List.{at, sum, table}
use Rattle.meaning.specs.Solver.{vector_count, projections, dot}
use Rattle.laws.specs.List.{sum_suc, sum_zeros, sum_mod_ext, get_or_table}
use Rattle.meaning.specs.Refusal.{words_taken}
use Rattle.laws.specs.Solver.{vector_count_div, vector_count_whole, vector_count_few, length_projections, projection_unit}
use Rattle.residue.specs.Numbers.{mod_mul_mod}

abbrev pub word_term : List ℕ → List ℕ → ℕ → ℕ
word_term words v i = at words i * at v i

-- v has at most 4,096 elements, below 2³¹ − 1, and as many words stand beside them
pub record Raw (words v : List ℕ) : Type 0 where
  pub few : length v ≤ 4096
  pub enough : length v ≤ length words
  pub element : (i : ℕ) → i < length v → at v i < 2147483647

-- "they form R vectors, R from 0 to 64"
pub record Words (n vectors : ℕ) (words : List ℕ) : Type 0 where
  pub count : vectors ≡ vector_count n words
  pub whole : length words ≡ vectors * n
  pub few : vectors ≤ 64

pub words_of : (n : ℕ) (words : List ℕ) → 0 < n → words_taken n words ≡ true → Words n (length words / n) words
words_of n words some t =
    let count = vector_count_div n words some in
    record { count = sym count; whole = vector_count_whole n words t ∙ ap (λ k. k * n) count; few = omega (arith, vector_count_few n words t, count) }

pub sum_one : (n : ℕ) (f : ℕ → ℕ) (j : ℕ) → j < n → ((i : ℕ) → i < n → i ≢ j → f i ≡ 0) → sum n f ≡ f j
sum_one zero f j l h = absurd (omega arith)
sum_one (suc n) f j l h = sum_suc n f ∙ go (eq-or-lt_of_le (le_of_suc-le-suc l)) (λ k. sum_one n f j k (λ i m. h i (omega arith)))
  where
    go : (j ≡ n) ⊎ (j < n) → (j < n → sum n f ≡ f j) → sum n f + f n ≡ f j
    go (inl e) ih =
        ap₂ ◌+◌ (sum_zeros n f (λ i m. h i (omega arith) (λ q. omega (arith, q, m, e)))) (ap f (sym e)) ∙ zero-add (f j)
    go (inr k) ih = ap₂ ◌+◌ (ih k) (h n (omega arith) (λ q. omega (arith, q, k))) ∙ add-zero (f j)

pub dot_words : (p : ℕ) (words v : List ℕ) → dot p (table (length v) (λ i. at words i % p)) v ≡ sum (length v) (word_term words v) % p
unfolding dot
dot_words p words v =
    sum_mod_ext p (length v) (λ i. at (table (length v) (λ k. at words k % p)) i * at v i) (word_term words v)
    (λ i l. ap (λ x. x * at v i % p) (get_or_table (length v) (λ k. at words k % p) i 0 l) ∙ mod_mul_mod (at words i) (at v i) p)

pub dot_unit : (p : ℕ) (v : List ℕ) (j : ℕ) → j < length v → at v j < p → dot p (table (length v) (λ i. cond (eqb i j) 1 0)) v ≡ at v j
unfolding dot
dot_unit p v j l h =
    ap (λ x. x % p)
    (sum_one (length v) (λ i. at unit i * at v i) j l others
    ∙ ap (λ x. x * at v j) (get_or_table (length v) (λ i. cond (eqb i j) 1 0) j 0 l ∙ ap (λ t. cond t 1 0) (eq-eqb j j refl)) ∙ one-mul (at v j))
    ∙ mod-eq_of_lt h
  where
    unit : List ℕ
    unit = table (length v) (λ i. cond (eqb i j) 1 0)

    others : (i : ℕ) → i < length v → i ≢ j → at unit i * at v i ≡ 0
    others i k ne =
        ap (λ x. x * at v i) (get_or_table (length v) (λ m. cond (eqb m j) 1 0) i 0 k ∙ ap (λ t. cond t 1 0) (ne_eqb i j ne)) ∙ zero-mul (at v i)

pub dot_nothing : (p : ℕ) (v : List ℕ) → dot p [] v ≡ 0
unfolding dot
dot_nothing p v = ap (λ x. x % p) (sum_zeros (length v) (λ i. at [] i * at v i) (λ i l. zero-mul (at v i))) ∙ zero-mod p

-- behind the words: an element, or 0 past the end
pub projection_past : (p : ℕ) (words v : List ℕ) (j R : ℕ) → R ≡ vector_count (length v) words → R ≤ j → ((i : ℕ) → i < length v → at v i < p)
    → dot p (get_or (projections p (length v) words) j []) v ≡ at v (j - R)
projection_past p words v j R count l below = go (dec_lt (j - R) (length v))
  where
    place : j ≡ vector_count (length v) words + (j - R)
    place = omega (arith, l, count)

    go : Dec (j - R < length v) → dot p (get_or (projections p (length v) words) j []) v ≡ at v (j - R)
    go (yes k) =
        ap (λ u. dot p u v) (ap (λ m. get_or (projections p (length v) words) m []) place ∙ projection_unit p (length v) words (j - R) k)
        ∙ dot_unit p v (j - R) k (below (j - R) k)
    go (no k) =
        ap (λ u. dot p u v)
        (get_or-eq_default (projections p (length v) words) [] (omega (arith, k, place, length_projections p (length v) words)))
        ∙ dot_nothing p v ∙ sym (get_or-eq_default v 0 (omega (arith, k)))
