-- Laws of the words, the projections and the bill (meaning's Solver).
--     vector_count_div, vector_count_nil       R by a division, where there are rows; without words there are none
--     words_empty, words_some                10 without rows, and with some
--     vector_count_whole, vector_count_few     where the words are taken: they fill R vectors; R ≤ 64
--     length_vectors, get_or_vectors           the R vectors
--     length_units, get_or_units               the n unit vectors
--     length_projections, projection_words, projection_unit      "the R vectors, then the unit vectors 1 to n"
--     spent_nil, spent_cons, spent_append, spent_snoc            the applications of passes
--     bill_nil, bill_cons, bill_snoc, length_bill                the passes in numbers
--     length_terms, length_pass_terms         2 × left terms
--     pass_whole, pass_early, pass_on        a pass by its cases: no test; one that found f(A)r zero; one that did not
--     test_none, pass_present        w = 0 is the present rule: no test
--     Ends, pass_ends                        how a pass ended, whichever case it was
--     Within n w q, made_within              what is known of a pass on n rows: left ≤ n, t ≤ 2 × left; for w = 0 2 × left − 1 + t applications
--     AllWithin, run_within                  so it is of all passes of a run
use Rattle.std.specs.Prelude.{◌≡◌, ◌⊎◌, Bool, true, false, cond, ◌&&◌, eqb, leb, length, take}
use Rattle.std.proofs.Math.Path.{refl, ap, ap₂, subst}
use Rattle.std.proofs.Common.{sym, ◌∙◌, inl, inr, div-add-mod', div-lt_iff_lt-mul, arith, length-take-le}
use mathlib.Core.List.{List, [], ◌∷◌, ◌++◌}
use Prim.Native.Nat.{ℕ, zero, suc, ◌+◌, ◌-◌, ◌*◌, ◌/◌, ◌%◌, ◌≤◌, ◌<◌}
use Rattle.std.proofs.Math.Nat.{zero-div}
use Rattle.std.proofs.Math.Decide.{dec_lt}
use Rattle.std.proofs.Math.ListN.{get_or, length-append, get_or-append}
use Rattle.std.proofs.Math.Seq.{get_or-append-add}
use borrow.Author.Tests.{eqb-true, leb-true, lt-ltb, le-ltb}
use Rattle.meaning.specs.List.{at, table, is_zero, flat}
use Rattle.meaning.specs.Matrix.{Matrix, size, power, apply}
use Rattle.meaning.specs.Recurrence.{degree, generator}
use Rattle.meaning.specs.Solver.{vector_count, vectors, units, projections, dot, terms, Pass, Run, pass_terms, due, test_at, end_pass, pass, run, spent, charge, bill}
use Rattle.meaning.specs.Refusal.{words_taken}
use Rattle.laws.specs.Bool.{and_left, and_right, test_cases}
use Rattle.laws.specs.Least.{least_none}
use Rattle.laws.specs.List.{length_table, get_or_table}
use Rattle.laws.specs.Recurrence.{degree_within}

-- ---- R

pub vector_count_div : (n : ℕ) (words : List ℕ) → 0 < n → vector_count n words ≡ length words / n
unfolding vector_count
vector_count_div zero words l = absurd (omega arith)
vector_count_div (suc m) words l = refl

pub vector_count_nil : (n : ℕ) → vector_count n [] ≡ 0
unfolding vector_count
vector_count_nil zero = refl
vector_count_nil (suc m) = zero-div (suc m)

module _ (words : List ℕ) where
  pub words_empty : words_taken 0 words ≡ eqb (length words) 0
  unfolding words_taken
  words_empty = refl

  pub words_some : (n : ℕ) → 0 < n → words_taken n words ≡ eqb (length words % n) 0 && leb (length words) (64 * n)
  unfolding words_taken
  words_some zero l = absurd (omega arith)
  words_some (suc m) l = refl

  whole_some : (n : ℕ) → 0 < n → words_taken n words ≡ true → (length words % n ≡ 0) × (length words ≤ 64 * n)
  whole_some n l e =
      let both = sym (words_some n l) ∙ e in (
        eqb-true (length words % n) 0 (and_left (eqb (length words % n) 0) (leb (length words) (64 * n)) both),
        leb-true (length words) (64 * n) (and_right (eqb (length words % n) 0) (leb (length words) (64 * n)) both),
      )

pub vector_count_whole : (n : ℕ) (words : List ℕ) → words_taken n words ≡ true → length words ≡ vector_count n words * n
vector_count_whole zero words e = omega (arith, eqb-true (length words) 0 (sym (words_empty words) ∙ e))
vector_count_whole (suc m) words e =
    omega (arith, div-add-mod' (length words) (suc m), (whole_some words (suc m) (omega arith) e).0)
    ∙ ap (λ k. k * suc m) (sym (vector_count_div (suc m) words (omega arith)))

pub vector_count_few : (n : ℕ) (words : List ℕ) → words_taken n words ≡ true → vector_count n words ≤ 64
unfolding vector_count
vector_count_few zero words e = omega arith
vector_count_few (suc m) words e =
    let quotient : length words / suc m < 65 =
    (div-lt_iff_lt-mul {k = suc m} {x = length words} {y = 65} (omega arith)).1 (omega (arith, (whole_some words (suc m) (omega arith) e).1)) in
    omega (arith, quotient)

-- ---- the projections

module _ (p n : ℕ) (words : List ℕ) where
  pub length_vectors : length (vectors p n words) ≡ vector_count n words
  unfolding vectors
  length_vectors = length_table (vector_count n words) (λ j. table n (λ i. at words (j * n + i) % p))

  pub get_or_vectors : (j : ℕ) → j < vector_count n words → get_or (vectors p n words) j [] ≡ table n (λ i. at words (j * n + i) % p)
  unfolding vectors
  get_or_vectors j l = get_or_table (vector_count n words) (λ k. table n (λ i. at words (k * n + i) % p)) j [] l

pub length_units : (n : ℕ) → length (units n) ≡ n
unfolding units
length_units n = length_table n (λ j. table n (λ i. cond (eqb i j) 1 0))

pub get_or_units : (n k : ℕ) → k < n → get_or (units n) k [] ≡ table n (λ i. cond (eqb i k) 1 0)
unfolding units
get_or_units n k l = get_or_table n (λ j. table n (λ i. cond (eqb i j) 1 0)) k [] l

module _ (p n : ℕ) (words : List ℕ) where
  pub length_projections : length (projections p n words) ≡ vector_count n words + n
  unfolding projections
  length_projections = length-append (vectors p n words) (units n) ∙ ap₂ ◌+◌ (length_vectors p n words) (length_units n)

  pub projection_words : (j : ℕ) → j < vector_count n words → get_or (projections p n words) j [] ≡ table n (λ i. at words (j * n + i) % p)
  unfolding projections
  projection_words j l =
      get_or-append (vectors p n words) (units n) [] j (omega (arith, l, length_vectors p n words)) ∙ get_or_vectors p n words j l

  pub projection_unit : (k : ℕ) → k < n → get_or (projections p n words) (vector_count n words + k) [] ≡ table n (λ i. cond (eqb i k) 1 0)
  unfolding projections
  projection_unit k l =
      ap (λ m. get_or (projections p n words) (m + k) []) (sym (length_vectors p n words))
      ∙ get_or-append-add (vectors p n words) (units n) k [] ∙ get_or_units n k l

-- ---- the bill

pub spent_nil : spent [] ≡ 0
unfolding spent
spent_nil = refl

pub spent_cons : (q : Pass) (qs : List Pass) → spent (q ∷ qs) ≡ q.applications + spent qs
unfolding spent
spent_cons q qs = refl

pub spent_append : (qs rs : List Pass) → spent (qs ++ rs) ≡ spent qs + spent rs
spent_append [] rs = omega (arith, spent_nil)
spent_append (q ∷ qs) rs = omega (arith, spent_cons q (qs ++ rs), spent_cons q qs, spent_append qs rs)

pub spent_snoc : (qs : List Pass) (q : Pass) → spent (qs ++ (q ∷ [])) ≡ spent qs + q.applications
spent_snoc qs q = omega (arith, spent_append qs (q ∷ []), spent_cons q [], spent_nil)

pub bill_nil : bill [] ≡ []
unfolding bill flat
bill_nil = refl

pub bill_cons : (q : Pass) (qs : List Pass) → bill (q ∷ qs) ≡ charge q ++ bill qs
unfolding bill flat
bill_cons q qs = refl

pub bill_snoc : (qs : List Pass) (q : Pass) → bill (qs ++ (q ∷ [])) ≡ bill qs ++ charge q
bill_snoc [] q = bill_cons q [] ∙ ap (λ l. charge q ++ l) bill_nil ∙ ap (λ l. l ++ charge q) (sym bill_nil)
bill_snoc (r ∷ qs) q = bill_cons r (qs ++ (q ∷ [])) ∙ ap (λ l. charge r ++ l) (bill_snoc qs q) ∙ ap (λ l. l ++ charge q) (sym (bill_cons r qs))

pub length_bill : (qs : List Pass) → length (bill qs) ≡ 3 * length qs
length_bill [] = ap length bill_nil
length_bill (q ∷ qs) = ap length (bill_cons q qs) ∙ omega (arith, length_bill qs)

-- ---- the terms of a pass

pub length_terms : (p : ℕ) (A : Matrix) (left : ℕ) (u r : List ℕ) → length (terms p A left u r) ≡ 2 * left
unfolding terms
length_terms p A left u r = length_table (2 * left) (λ i. dot p u (power p A i r))

pub length_pass_terms : (p : ℕ) (A : Matrix) (u : List ℕ) (c : Run) → length (pass_terms p A u c) ≡ 2 * (size A - c.found)
unfolding pass_terms
length_pass_terms p A u c = length_terms p A (size A - c.found) u c.residual

-- ---- a pass by its cases

module _ (p : ℕ) (A : Matrix) (w : ℕ) (u : List ℕ) (c : Run) where
  abbrev s : List ℕ
  s = pass_terms p A u c

  abbrev whole : ℕ
  whole = 2 * (size A - c.found) - 1

  module _ (i : ℕ) (e : test_at p w (pass_terms p A u c) ≡ i) where
    pub pass_whole : length (pass_terms p A u c) ≤ i → pass p A w u c ≡ end_pass p A (pass_terms p A u c) (2 * (size A - c.found) - 1) c
    unfolding pass
    pass_whole l = rw (e, le-ltb i (length s) l)

    module _ (l : i < length (pass_terms p A u c)) where
      pub pass_early : is_zero (apply p A (generator p (take i (pass_terms p A u c))) c.residual) ≡ true
          → pass p A w u c ≡ end_pass p A (take i (pass_terms p A u c)) (i - 1) c
      unfolding pass
      pass_early z = rw (e, lt-ltb i (length s) l, z)

      pub pass_on : is_zero (apply p A (generator p (take i (pass_terms p A u c))) c.residual) ≡ false
          → pass p A w u c ≡ end_pass p A (pass_terms p A u c) (2 * (size A - c.found) - 1 + degree p (take i (pass_terms p A u c))) c
      unfolding pass
      pass_on z = rw (e, lt-ltb i (length s) l, z)

pub test_none : (p : ℕ) (s : List ℕ) → test_at p 0 s ≡ length s
unfolding test_at due
test_none p s = least_none (length s) (due p 0 s) (λ i l. refl)

-- w = 0 is "the present rule"
pub pass_present : (p : ℕ) (A : Matrix) (u : List ℕ) (c : Run)
    → pass p A 0 u c ≡ end_pass p A (pass_terms p A u c) (2 * (size A - c.found) - 1) c
pass_present p A u c = pass_whole p A 0 u c (length (pass_terms p A u c)) (test_none p (pass_terms p A u c)) (omega arith)

-- how a pass ended: with which terms, after how many products beside those of its f
pub record Ends (p : ℕ) (A : Matrix) (w : ℕ) (u : List ℕ) (c : Run) : Type 0 where
  pub taken : List ℕ
  pub made : ℕ
  pub is : pass p A w u c ≡ end_pass p A taken made c
  pub few : length taken ≤ 2 * (size A - c.found)
  pub low : made ≤ 4 * (size A - c.found)
  pub present : w ≡ 0 → (taken ≡ pass_terms p A u c) × (made ≡ 2 * (size A - c.found) - 1)
  -- all terms, or the first of them whose f kills r
  pub shortest : (taken ≡ pass_terms p A u c) ⊎ ((i : ℕ) × (i ≤ length (pass_terms p A u c)) × (taken ≡ take i (pass_terms p A u c)) × (is_zero (apply p A (generator p taken) c.residual) ≡ true))

module _ (p : ℕ) (A : Matrix) (two : 1 < p) (w : ℕ) (u : List ℕ) (c : Run) where
  pub pass_ends : Ends p A w u c
  pass_ends = go (dec_lt i (length s)) (test_cases (is_zero (apply p A (generator p (take i s)) c.residual)))
    where
      s : List ℕ
      s = pass_terms p A u c

      i : ℕ
      i = test_at p w (pass_terms p A u c)

      size_s : length s ≡ 2 * (size A - c.found)
      size_s = length_pass_terms p A u c

      -- where there is no window there is no test
      tested : w ≡ 0 → i < length s → ⊥
      tested e l = omega (arith, l, ap (λ v. test_at p v s) e, test_none p s)

      go : Dec (i < length s) → (is_zero (apply p A (generator p (take i s)) c.residual) ≡ true) ⊎ (is_zero (apply p A (generator p (take i s)) c.residual) ≡ false) → Ends p A w u c
      go (no l) z =
          record {
            taken = s;
            made = 2 * (size A - c.found) - 1;
            is = pass_whole p A w u c i refl (omega (arith, l));
            few = omega (arith, size_s);
            low = omega arith;
            present = λ e. (refl, refl);
            shortest = inl refl;
          }
      go (yes l) (inl z) =
          record {
            taken = take i s;
            made = i - 1;
            is = pass_early p A w u c i refl l z;
            few = omega (arith, length-take-le i s (omega (arith, l)), l, size_s);
            low = omega (arith, l, size_s);
            present = λ e. absurd (tested e l);
            shortest = inr (i, omega (arith, l), refl, z);
          }
      go (yes l) (inr z) =
          record {
            taken = s;
            made = 2 * (size A - c.found) - 1 + degree p (take i s);
            is = pass_on p A w u c i refl l z;
            few = omega (arith, size_s);
            low = omega (arith, degree_within p two (take i s), length-take-le i s (omega (arith, l)), l, size_s);
            present = λ e. absurd (tested e l);
            shortest = inl refl;
          }

-- ---- what is known of a pass

pub record Within (n w : ℕ) (q : Pass) : Type 0 where
  pub left_low : q.left ≤ n
  pub degree_low : q.degree ≤ 2 * q.left
  pub cost_low : q.applications ≤ 4 * q.left + q.degree
  pub cost : w ≡ 0 → q.applications ≡ 2 * q.left - 1 + q.degree

abbrev pub AllWithin : ℕ → ℕ → List Pass → Type 0
AllWithin n w [] = Unit {0}
AllWithin n w (q ∷ qs) = Within n w q × AllWithin n w qs

all_within_snoc : (n w : ℕ) (qs : List Pass) (q : Pass) → AllWithin n w qs → Within n w q → AllWithin n w (qs ++ (q ∷ []))
all_within_snoc n w [] q h k = (k, tt)
all_within_snoc n w (r ∷ qs) q h k = (h.0, all_within_snoc n w qs q h.1 k)

module _ (p : ℕ) (A : Matrix) (two : 2 ≤ p) (w : ℕ) where
  -- the record that a pass adds
  last : List ℕ → Run → Pass
  last u c =
      let left = size A - c.found in
      let e = pass_ends p A two w u c in
      let t = degree p e.taken in
      record { left = left; degree = t; applications = e.made + t }

  last_within : (u : List ℕ) (c : Run) → Within (size A) w (last u c)
  unfolding last
  last_within u c =
      let e = pass_ends p A two w u c in
      record {
        left_low = omega arith;
        degree_low = omega (arith, degree_within p two e.taken, e.few);
        cost_low = omega (arith, e.low);
        cost = λ z. ap (λ m. m + degree p e.taken) (e.present z).1;
      }

  pass_adds : (u : List ℕ) (c : Run) → (pass p A w u c).passes ≡ c.passes ++ (last u c ∷ [])
  unfolding last end_pass
  pass_adds u c = ap (λ (x : Run). x.passes) (pass_ends p A two w u c).is

  pub made_within : (u : List ℕ) (c r : Run) (q : Pass) → r.passes ≡ c.passes ++ (q ∷ []) → r ≡ pass p A w u c → Within (size A) w q
  made_within u c r q e f = subst (Within (size A) w) (sym same) (last_within u c)
    where
      at_end : (x : Pass) → get_or (c.passes ++ (x ∷ [])) (length c.passes + 0) q ≡ x
      at_end x = get_or-append-add c.passes (x ∷ []) 0 q

      same : q ≡ last u c
      same =
          sym (at_end q)
          ∙ ap (λ l. get_or l (length c.passes + 0) q) (sym e ∙ ap (λ (x : Run). x.passes) f ∙ pass_adds u c)
          ∙ at_end (last u c)

  pub run_within : (us : List (List ℕ)) (c : Run) → AllWithin (size A) w c.passes → AllWithin (size A) w (run p A w us c).passes
  unfolding run
  run_within [] c h = h
  run_within (u ∷ us) c h = go (is_zero c.residual) (run_within us (pass p A w u c) next)
    where
      next : AllWithin (size A) w (pass p A w u c).passes
      next = subst (AllWithin (size A) w) (sym (pass_adds u c)) (all_within_snoc (size A) w c.passes (last u c) h (last_within u c))

      go : (t : Bool) → AllWithin (size A) w (run p A w us (pass p A w u c)).passes → AllWithin (size A) w (cond t c (run p A w us (pass p A w u c))).passes
      go true later = h
      go false later = later
