-- The customer's third condition, sentence by sentence, for every window (request (v)) and all scales X (request (vi): "with AX in A's place inside the
-- span and f, while the answered x still meets Ax = b and the answered w is not zero and meets Aw = 0"). The solver's run is proved to meet it.
--     in_span           "b is a sum of multiples of Ab, A²b, .., Aⁿb"
--     term_cost         "the sum of 2 × left − 1 over its passes", left "being n less the degree found before that pass"
--     ThirdCondition   what holds of the outcome of a run on p, A, X, b and words, with the window w
--     SameAnswer       two outcomes with "the same kind, vector and polynomial f"
-- Calls states both of every run (EveryRun, EveryTwoRuns).
use Rattle.std.specs.Prelude.{◌≡◌, ◌≢◌, ◌↔◌, true, cond, List, [], ◌∷◌, ℕ, ◌+◌, ◌-◌, ◌*◌, ◌%◌, ◌≤◌, ◌<◌}
use Rattle.meaning.specs.List.{at, sum, table, zeros, is_zero}
use Rattle.meaning.specs.Matrix.{Matrix, size, product, power, apply, scaled}
use Rattle.meaning.specs.Recurrence.{is_monic}
use Rattle.meaning.specs.Solver.{vector_count, Pass, Outcome, solved, singular, pass_count, spent, applications}

-- n coefficients c with b = c[0] × Ab + .. + c[n − 1] × Aⁿb
abbrev pub in_span : ℕ → Matrix → List ℕ → Type 0
in_span p A b =
    (c : List ℕ) ×
    (b ≡ table (size A) (λ j. sum (size A) (λ i. at c i * at (power p A (i + 1) b) j) % p))

unfoldable pub term_cost : ℕ → List Pass → ℕ
term_cost left [] = 0
term_cost left (q ∷ qs) = 2 * left - 1 + term_cost (left - q.degree) qs

pub record ThirdCondition (p : ℕ) (A : Matrix) (X b words : List ℕ) (w : ℕ) (o : Outcome) : Type 0 where
  -- "f is monic, of a degree D, with f(A)b = 0, and every other monic g with g(A)b = 0 has a higher degree"
  pub monic : is_monic p o.degree o.polynomial ≡ true
  pub annihilates : apply p (scaled p A X) o.polynomial b ≡ zeros (size A)
  pub lowest : (k : ℕ) (g : List ℕ) → is_monic p k g ≡ true → apply p (scaled p A X) g b ≡ zeros (size A) → g ≢ o.polynomial → o.degree < k
  -- "the kind is solved exactly when b is a sum of multiples .. and then the vector x meets Ax = b"
  pub exactly : (o.kind ≡ solved) ↔ in_span p (scaled p A X) b
  pub solves : o.kind ≡ solved → product p A o.vector ≡ b
  -- "otherwise it is singular, and the vector is not zero and A takes it to zero"
  pub not_zero : o.kind ≡ singular → o.vector ≢ zeros (size A)
  pub to_zero : o.kind ≡ singular → product p A o.vector ≡ zeros (size A)
  -- "at most R + n" passes
  pub few : pass_count o ≤ vector_count (size A) words + size A
  -- "the sum of these costs plus D − 1 (0 if D = 0)", for every window
  pub summed : applications o ≡ spent o.passes + (o.degree - 1)
  -- for w = 0 "the sum of 2 × left − 1 over its passes plus 2 × D − 1, or 0 if b = 0"
  pub counted : w ≡ 0 → applications o ≡ cond (is_zero b) 0 (term_cost (size A) o.passes + (2 * o.degree - 1))

pub record SameAnswer (o o' : Outcome) : Type 0 where
  pub kind : o.kind ≡ o'.kind
  pub vector : o.vector ≡ o'.vector
  pub polynomial : o.polynomial ≡ o'.polynomial
