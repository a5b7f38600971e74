-- Document 01, "Shortest recurrence". A polynomial is the list of its coefficients, lowest power first; absent ones are 0.
--     is_monic p d f    f is monic of degree d: d + 1 elements, the last of them 1
--     recurs p s d f   "recurs on s": the sum of f[i] × s[i + j] over i = 0 to d is 0 for every j from 0 to N − d − 1
--     IsShortest       "the least such L, and f. If 2 × L is at most N, one f only fits"
--     Steps            q, t, L and e of the steps
--     start            "q = 1, t = 0, L = 0, e = 1"
--     discrepancy      "d = sum of q[i] × s[r − 1 − i] over i = 0 to L"
--     update           "q' = q − (d/e)·z·t"
--     step p s r       what is done for r
--     steps p s r      what is done for 1 to r
--     reversed L q     "z to the power L times q(1/z)"
--     degree, generator      the answer for s: L, and f with its L + 1 coefficients
use Rattle.std.specs.Prelude.{◌≡◌, Bool, true, cond, ◌&&◌, List, [], ◌∷◌, ℕ, zero, suc, ◌+◌, ◌-◌, ◌*◌, ◌%◌, ◌≤◌, max, eqb, ltb, length}
use Rattle.meaning.specs.List.{at, sum, table, all, every}
use Rattle.meaning.specs.Field.{minus, times, inverse}

unfoldable pub is_monic : ℕ → ℕ → List ℕ → Bool
is_monic p d f = eqb (length f) (d + 1) && every (λ a. ltb a p) f && eqb (at f d) 1

unfoldable pub recurs : ℕ → List ℕ → ℕ → List ℕ → Bool
recurs p s d f = all (length s - d) (λ j. eqb (sum (d + 1) (λ i. at f i * at s (i + j)) % p) 0)

pub record IsShortest (p : ℕ) (s : List ℕ) (L : ℕ) (f : List ℕ) : Type 0 where
  pub monic : is_monic p L f ≡ true
  pub fits : recurs p s L f ≡ true
  pub shortest : (k : ℕ) (g : List ℕ) → is_monic p k g ≡ true → recurs p s k g ≡ true → L ≤ k
  pub only : 2 * L ≤ length s → (g : List ℕ) → is_monic p L g ≡ true → recurs p s L g ≡ true → g ≡ f

pub record Steps : Type 0 where
  pub q : List ℕ
  pub t : List ℕ
  pub L : ℕ
  pub e : ℕ

unfoldable pub start : Steps
start = record { q = 1 ∷ []; t = []; L = 0; e = 1 }

unfoldable pub discrepancy : ℕ → List ℕ → ℕ → Steps → ℕ
discrepancy p s r c = sum (c.L + 1) (λ i. at c.q i * at s (r - 1 - i)) % p

unfoldable pub update : ℕ → ℕ → Steps → List ℕ
update p d c =
    table (max (length c.q) (length c.t + 1))
    (λ i. minus p (at c.q i) (times p (times p d (inverse p c.e)) (at (0 ∷ c.t) i)))

unfoldable pub step : ℕ → List ℕ → ℕ → Steps → Steps
step p s r c =
    let d = discrepancy p s r c in
    cond (eqb d 0)
    (record { q = c.q; t = 0 ∷ c.t; L = c.L; e = c.e })
    (cond (ltb (2 * c.L) r)
    (record { q = update p d c; t = c.q; L = r - c.L; e = d })
    (record { q = update p d c; t = 0 ∷ c.t; L = c.L; e = c.e }))

unfoldable pub steps : ℕ → List ℕ → ℕ → Steps
steps p s zero = start
steps p s (suc r) = step p s (suc r) (steps p s r)

unfoldable pub reversed : ℕ → List ℕ → List ℕ
reversed L q = table (L + 1) (λ i. at q (L - i))

unfoldable pub degree : ℕ → List ℕ → ℕ
degree p s = (steps p s (length s)).L

unfoldable pub generator : ℕ → List ℕ → List ℕ
generator p s = reversed (degree p s) (steps p s (length s)).q
