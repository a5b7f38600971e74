-- Document 01, "The solver", for any size, 0 included, and any list of projections.
--     vector_count n words    R, the number of vectors in the words; request (ii): for size 0 "R is 0"
--     vectors p n words      "R vectors .. vector j begins at word j × n", each word "taken modulo p"
--     units n                "the unit vectors 1 to n"
--     projections            "the R vectors, then the unit vectors"
--     dot                    u·v
--     terms                  "the 2 × left terms u·r, u·Ar, u·A²r, .."
--     Pass                   a pass: left, its degree t, its applications
--     Run                    r, F and D between two passes, and the passes made
--     begin                  "r = b, F = 1, D = 0"
--     pass_terms p A u        the terms of a pass with the projection u, left = n − D
--     due p w s i            request (v): after term i "L is at least 1 and the last w discrepancies were all 0"; never for w = 0
--     test_at p w s           the first i below 2 × left where it is so: there "f(A)r is worked out, once per pass"; 2 × left if there is none
--     end_pass p A s made     a pass that ends with the terms s, after `made` other products: "f is their shortest recurrence, of degree t; r becomes
--                            f(A)r, F becomes F × f, D grows by t"
--     pass p A w u           a pass with the projection u and the window w
--     run p A w us           "while r is not zero, make a pass with the next projection"
--     Kind, Outcome          solved or singular; what a run ends with; request (iii): "the solver's result carries" the entries that its products multiplied
--     pass_count              "the passes", their number
--     spent                  the applications of passes, summed
--     close_cost D            what the end takes: "D − 1 for G(A)b where D is at least 1", else 0
--     products_made, applications      "one for each product with A": those of the passes and of the end; of an outcome
--     charge, bill           request (i): a pass in numbers, "left, degree t, applications of that pass"; the passes in numbers, one after the other
--     billed B qs            the slice that held B, with these numbers at its front, for as many passes as it has room for
--     close                  "when r is zero, let G = (F − F[0]) / z .."
--     outcome                the whole run on A itself, with the words and the window w
--     answered p X o         o with X times its vector
--     solve                  request (vi): the run with the scales X: "the solver works on AX and answers Xy, or Xw"
--     nothing_left            request (ii), size 0: "solved: empty vector, f = 1, no pass, no application"
--     takes, is_null          the two checks of offered answers
use Rattle.std.specs.Prelude.{Bool, not, cond, ◌&&◌, List, [], ◌∷◌, ◌++◌, map, ℕ, zero, suc, ◌+◌, ◌-◌, ◌*◌, ◌/◌, ◌%◌, eqb, ltb, leb, length, take, drop}
use Rattle.meaning.specs.List.{at, sum, table, zeros, all, is_zero, equal, least, flat, overwrite}
use Rattle.meaning.specs.Field.{minus, times, inverse}
use Rattle.meaning.specs.Matrix.{Matrix, size, product, power, apply, multiplied, scaled, diagonal}
use Rattle.meaning.specs.Recurrence.{discrepancy, steps, degree, generator}

unfoldable pub vector_count : ℕ → List ℕ → ℕ
vector_count zero words = 0
vector_count (suc m) words = length words / suc m

unfoldable pub vectors : ℕ → ℕ → List ℕ → List (List ℕ)
vectors p n words = table (vector_count n words) (λ j. table n (λ i. at words (j * n + i) % p))

unfoldable pub units : ℕ → List (List ℕ)
units n = table n (λ j. table n (λ i. cond (eqb i j) 1 0))

unfoldable pub projections : ℕ → ℕ → List ℕ → List (List ℕ)
projections p n words = vectors p n words ++ units n

unfoldable pub dot : ℕ → List ℕ → List ℕ → ℕ
dot p u v = sum (length v) (λ i. at u i * at v i) % p

unfoldable pub terms : ℕ → Matrix → ℕ → List ℕ → List ℕ → List ℕ
terms p A left u r = table (2 * left) (λ i. dot p u (power p A i r))

-- the product of two polynomials
unfoldable pub multiply : ℕ → List ℕ → List ℕ → List ℕ
multiply p f g = table (length f + length g - 1) (λ k. sum (k + 1) (λ i. at f i * at g (k - i)) % p)

pub record Pass : Type 0 where
  pub left : ℕ
  pub degree : ℕ
  pub applications : ℕ

pub record Run : Type 0 where
  pub residual : List ℕ
  pub factor : List ℕ
  pub found : ℕ
  pub passes : List Pass

unfoldable pub begin : List ℕ → Run
begin b = record { residual = b; factor = 1 ∷ []; found = 0; passes = [] }

unfoldable pub pass_terms : ℕ → Matrix → List ℕ → Run → List ℕ
pass_terms p A u c = terms p A (size A - c.found) u c.residual

unfoldable pub due : ℕ → ℕ → List ℕ → ℕ → Bool
due p w s i =
    leb 1 w && leb w i && leb 1 (steps p s i).L && all w (λ k. eqb (discrepancy p s (i - k) (steps p s (i - k - 1))) 0)

unfoldable pub test_at : ℕ → ℕ → List ℕ → ℕ
test_at p w s = least (length s) (due p w s)

unfoldable pub end_pass : ℕ → Matrix → List ℕ → ℕ → Run → Run
end_pass p A s made c =
    let left = size A - c.found in
    let f = generator p s in
    let t = degree p s in
    record {
      residual = apply p A f c.residual;
      factor = multiply p c.factor f;
      found = c.found + t;
      passes = c.passes ++ (record { left = left; degree = t; applications = made + t } ∷ []);
    }

-- "if it is zero the pass ends with that f, at i − 1 + L applications. If not, the pass goes on to 2 × left terms and its cost grows by L"
unfoldable pub pass : ℕ → Matrix → ℕ → List ℕ → Run → Run
pass p A w u c =
    let left = size A - c.found in
    let s = pass_terms p A u c in
    let i = test_at p w s in
    let first = take i s in
    cond (not (ltb i (length s)))
    (end_pass p A s (2 * left - 1) c)
    (cond (is_zero (apply p A (generator p first) c.residual))
    (end_pass p A first (i - 1) c)
    (end_pass p A s (2 * left - 1 + degree p first) c))

-- with no projection left r is zero (proved with the run), so the first line is never a failure
unfoldable pub run : ℕ → Matrix → ℕ → List (List ℕ) → Run → Run
run p A w [] c = c
run p A w (u ∷ us) c =
    let next = run p A w us (pass p A w u c) in
    cond (is_zero c.residual) c next

pub data Kind : Type 0 where
  solved singular : Kind

pub record Outcome : Type 0 where
  pub kind : Kind
  pub vector : List ℕ
  pub polynomial : List ℕ
  pub degree : ℕ
  pub passes : List Pass
  pub multiplied : ℕ

abbrev pub pass_count : Outcome → ℕ
pass_count o = length o.passes

unfoldable pub spent : List Pass → ℕ
spent [] = 0
spent (q ∷ qs) = q.applications + spent qs

abbrev pub close_cost : ℕ → ℕ
close_cost D = D - 1

abbrev pub products_made : List Pass → ℕ → ℕ
products_made qs D = spent qs + close_cost D

abbrev pub applications : Outcome → ℕ
applications o = products_made o.passes o.degree

abbrev pub charge : Pass → List ℕ
charge q = q.left ∷ q.degree ∷ q.applications ∷ []

unfoldable pub bill : List Pass → List ℕ
bill qs = flat (map charge qs)

abbrev pub billed : List ℕ → List Pass → List ℕ
billed B qs = overwrite (bill (take (length B / 3) qs)) B

-- what F makes of b: "if D = 0, x is zero. If F[0] is not 0, the kind is solved and x = −G(A)b / F[0]. Otherwise .. G(A)b"
unfoldable pub verdict : ℕ → Matrix → List ℕ → List ℕ → ℕ → Kind × List ℕ
verdict p A b F D =
    let w = apply p A (drop 1 F) b in
    cond (eqb D 0)
    (solved, zeros (size A))
    (cond (eqb (at F 0) 0)
    (singular, w)
    (solved, table (size A) (λ i. times p (minus p 0 (at w i)) (inverse p (at F 0)))))

unfoldable pub close : ℕ → Matrix → List ℕ → Run → Outcome
close p A b c =
    let answer = verdict p A b c.factor c.found in
    record {
      kind = answer.0;
      vector = answer.1;
      polynomial = c.factor;
      degree = c.found;
      passes = c.passes;
      multiplied = multiplied (products_made c.passes c.found) A;
    }

unfoldable pub outcome : ℕ → Matrix → List ℕ → List ℕ → ℕ → Outcome
outcome p A b words w = close p A b (run p A w (projections p (size A) words) (begin b))

unfoldable pub answered : ℕ → List ℕ → Outcome → Outcome
answered p X o =
    record {
      kind = o.kind;
      vector = diagonal p X o.vector;
      polynomial = o.polynomial;
      degree = o.degree;
      passes = o.passes;
      multiplied = o.multiplied;
    }

unfoldable pub solve : ℕ → Matrix → List ℕ → List ℕ → List ℕ → ℕ → Outcome
solve p A X b words w = answered p X (outcome p (scaled p A X) b words w)

abbrev pub nothing_left : Outcome
nothing_left = record { kind = solved; vector = []; polynomial = 1 ∷ []; degree = 0; passes = []; multiplied = 0 }

-- "the first says yes exactly when Ax = b"
unfoldable pub takes : ℕ → Matrix → List ℕ → List ℕ → Bool
takes p A x b = equal (product p A x) b

-- "the second exactly when the vector is not zero and A takes it to zero"
unfoldable pub is_null : ℕ → Matrix → List ℕ → Bool
is_null p A w = not (is_zero w) && is_zero (product p A w)
