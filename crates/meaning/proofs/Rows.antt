-- Document 01, "Cases": the (P) cases and others as rows under one proposition, proved by computation: an edit of a definition breaks a row.
--     Case             a call's input with what is said of it
--     Holds            the proposition: the definitions say the same
--     proved_cases     document 01's cases that are marked (P)
--     more_cases       its other cases, and cases worked out by evidence/reference.py, which was written from the paper alone
--     nothing_left_cases          request (ii)'s, of size 0
--     window_cases                request (v)'s, with a window
--     scaled_cases                request (vi)'s, with scales
--     inverse_cases               request (vii)'s, of the table's program
--     proved_rows, more_rows, nothing_left_rows, window_rows, scaled_rows, inverse_rows      they hold
use Rattle.std.specs.Prelude.{◌≡◌, refl, Bool, true, false, List, [], ◌∷◌, ℕ, ◌+◌, ◌-◌, length, take, replicate}
use Prim.Native.String.{String}
use Rattle.meaning.specs.List.{at, sum, table, all, every, chain_from, chain, equal, least, select, flat, bytes, overwrite}
use Rattle.meaning.specs.Field.{is_prime, is_modulus, plus, minus, times, inverse}
use Rattle.meaning.specs.Matrix.{product, transposed, power, apply, scaled_values, diagonal, per_product, multiplied, Matrix, matrix}
use Rattle.meaning.specs.Recurrence.{is_monic, recurs, start, discrepancy, update, step, steps, reversed, degree, generator, Steps}
use Rattle.meaning.specs.Solver.{vector_count, vectors, units, projections, dot, terms, multiply, Pass, begin, pass_terms, due, test_at, end_pass, pass, run, spent, bill, verdict, close, outcome, answered, solve, takes, is_null, Kind, solved, singular, pass_count, applications}
use Rattle.meaning.specs.Text.{digits, decimal, value_after, is_numeral, line, on_first, parts, has_form, form_of, line_of, line_fields, lines, saying, in_form, document, placed, system, write_row, write_scales, write_element, write}
use Rattle.meaning.specs.Answer.{pass_lines, answer_text, refused_text}
use Rattle.meaning.specs.Inverses.{inverses, inverse_lines, inverses_text}
use Rattle.meaning.specs.Refusal.{first, elements, size_taken, starts_taken, columns_taken, scaled_checks, words_taken, count_taken, before, places_taken, values_taken, document_checks}
use Rattle.meaning.specs.Calls.{field_refusal, operation_refusal, inverse_refusal, product_refusal, apply_refusal, recurrence_refusal, system_checks, run_checks, solver_refusal, takes_refusal, is_null_refusal, text_checks, reader_refusal, writer_refusal, text_refusal, solved_text, program_output, operation_answer, inverse_answer, product_after, product_count, apply_after, apply_count, recurrence_answer, recurrence_after, vector_after, polynomial_after, bill_after, takes_answer, takes_count, is_null_answer, is_null_count, reader_answer, reader_after, writer_answer, writer_after, text_answer}

-- every definition open, so that the rows compute
unfoldable compute : Unit {0}
unfolding sum table all every chain_from chain equal least select flat bytes is_prime is_modulus plus minus times inverse product transposed power apply scaled_values diagonal per_product multiplied is_monic recurs start discrepancy update step steps reversed degree generator vector_count vectors units projections dot terms multiply begin pass_terms due test_at end_pass pass run spent bill verdict close outcome answered solve takes is_null digits decimal value_after is_numeral line on_first parts has_form form_of line_of line_fields lines saying in_form document placed system write_row write_scales write_element write pass_lines answer_text refused_text inverses inverse_lines inverses_text first elements size_taken starts_taken columns_taken scaled_checks words_taken count_taken before places_taken values_taken document_checks field_refusal operation_refusal inverse_refusal product_refusal apply_refusal recurrence_refusal system_checks run_checks solver_refusal takes_refusal is_null_refusal text_checks reader_refusal writer_refusal text_refusal solved_text program_output
compute = tt

pub data Case : Type 0 where
  -- a run on p, A, b and words, without a window: kind, vector, f, passes, applications, entries multiplied
  solver_gives : (p : ℕ) (A : Matrix) (b words : List ℕ) → Kind → (vector f : List ℕ) (passes applications multiplied : ℕ) → Case
  -- the vector and polynomial slices after it
  solver_leaves : (p : ℕ) (A : Matrix) (b words vector polynomial : List ℕ) → Case
  -- its passes
  solver_makes : (p : ℕ) (A : Matrix) (b words : List ℕ) → List Pass → Case
  -- its bill, in a slice of that many places
  solver_bills : (p : ℕ) (A : Matrix) (b words : List ℕ) (room : ℕ) (slice : List ℕ) → Case
  -- a run with a window: kind, vector, f, its passes, applications, entries multiplied
  window_gives : (p : ℕ) (A : Matrix) (b words : List ℕ) (w : ℕ) → Kind → (vector f : List ℕ) → List Pass → (applications multiplied : ℕ) → Case
  -- a run with scales: kind, vector, f, its passes, applications, entries multiplied
  scaled_gives : (p : ℕ) (A : Matrix) (X b words : List ℕ) (w : ℕ) → Kind → (vector f : List ℕ) → List Pass → (applications multiplied : ℕ) → Case
  -- the terms that the pass with u takes after the passes with us
  pass_takes : (p : ℕ) (A : Matrix) (b : List ℕ) (us : List (List ℕ)) (u terms : List ℕ) → Case
  -- the solver's refusal, for slices of these lengths (vector, polynomial, work); with a window
  window_refuses : (p : ℕ) (A : Matrix) (b words : List ℕ) (w vector polynomial work number : ℕ) → Case
  -- .. with scales
  scaled_refuses : (p : ℕ) (A : Matrix) (X b words : List ℕ) (w vector polynomial work number : ℕ) → Case
  solver_refuses : (p : ℕ) (A : Matrix) (b words : List ℕ) (vector polynomial work number : ℕ) → Case
  -- the shortest recurrence of s modulo p: L, and the polynomial slice
  recurrence_gives : (p : ℕ) (s : List ℕ) (L : ℕ) (slice : List ℕ) → Case
  -- the refusal for slices of these lengths (polynomial, work)
  recurrence_refuses : (p : ℕ) (s : List ℕ) (polynomial work number : ℕ) → Case
  -- q, t, L and e after r terms
  steps_give : (p : ℕ) (s : List ℕ) (r : ℕ) (q t : List ℕ) (L e : ℕ) → Case
  -- the slice, and the entries multiplied
  product_gives transposed_gives : (p : ℕ) (A : Matrix) (v out : List ℕ) (multiplied : ℕ) → Case
  apply_gives : (p : ℕ) (A : Matrix) (g v out : List ℕ) (multiplied : ℕ) → Case
  -- the refusal of both products for a slice of that length
  product_refuses : (p : ℕ) (A : Matrix) (v : List ℕ) (out number : ℕ) → Case
  -- the refusal for slices of these lengths (out, work)
  apply_refuses : (p : ℕ) (A : Matrix) (g v : List ℕ) (out work number : ℕ) → Case
  -- the two checks of offered answers
  takes_says : (p : ℕ) (A : Matrix) (x b : List ℕ) (number : ℕ) → Bool → (multiplied : ℕ) → Case
  is_null_says : (p : ℕ) (A : Matrix) (w : List ℕ) (number : ℕ) → Bool → (multiplied : ℕ) → Case
  -- the reader: p, n and the entry count, and the slices, which held 9s; that of the scales is as long as that of b, and gets n ones
  reader_gives : (text : String) (starts columns values right p n count : ℕ) (starts' columns' values' right' : List ℕ) → Case
  reader_refuses : (text : String) (starts columns values right number : ℕ) → Case
  -- the slice of scales after it, of that many places; the others have 9 each
  scales_read : (text : String) (room : ℕ) (scales : List ℕ) → Case
  scales_refused : (text : String) (room number : ℕ) → Case
  -- the writer, into that many bytes 46
  writer_gives : (p : ℕ) (A : Matrix) (b : List ℕ) (room length : ℕ) (after : String) → Case
  -- .. with scales
  scaled_writes : (p : ℕ) (A : Matrix) (X b : List ℕ) (room length : ℕ) (after : String) → Case
  -- the text call, and what the program prints
  text_gives : (text answer : String) → Case
  text_refuses : (text : String) (room number : ℕ) → Case
  -- .. of so many bytes 120
  bytes_refused : (count room number : ℕ) → Case
  -- the field: a number and an element
  sum_gives difference_gives product_of_gives : (p a b number element : ℕ) → Case
  inverse_gives : (p a number element : ℕ) → Case
  -- the lines of the inverses modulo p; the front of what the program prints, the number of its inverses, and the last of them
  lines_of_inverses : (p : ℕ) (text : String) → Case
  inverses_print : (front : String) (count last : ℕ) → Case

-- what the slices held before
abbrev pub nines : ℕ → List ℕ
nines k = replicate k 9

abbrev Refuses : ℕ → Matrix → List ℕ → List ℕ → List ℕ → ℕ → ℕ → ℕ → ℕ → ℕ → Type 0
Refuses p A X b words w vector polynomial work k =
    let x = nines vector in
    let f = nines polynomial in
    let room = nines work in
    ◌≡◌ {A = ℕ × List ℕ × List ℕ}
    (solver_refusal p A X b words w x f room, vector_after p A X b words w x f room, polynomial_after p A X b words w x f room)
    (k, x, f)

abbrev Gives : ℕ → Matrix → List ℕ → List ℕ → List ℕ → ℕ → Kind → List ℕ → List ℕ → List Pass → ℕ → ℕ → Type 0
Gives p A X b words w k x f qs a m =
    let o = solve p A X b words w in
    ◌≡◌ {A = ℕ × Kind × List ℕ × List ℕ × List Pass × ℕ × ℕ}
    (first (run_checks p A X b words w), o.kind, o.vector, o.polynomial, o.passes, applications o, o.multiplied)
    (0, k, x, f, qs, a, m)

abbrev Writes : ℕ → Matrix → List ℕ → List ℕ → ℕ → ℕ → String → Type 0
Writes p A X b room n after =
    let out : List ℕ = replicate room 46 in
    ◌≡◌ {A = ℕ × List ℕ} (writer_answer p A X b out, writer_after p A X b out) (n, bytes after)

abbrev pub Holds : Case → Type 0
Holds (solver_gives p A b words k x f n a m) =
    let o = solve p A [] b words 0 in
    ◌≡◌ {A = ℕ × Kind × List ℕ × List ℕ × ℕ × ℕ × ℕ}
    (first (run_checks p A [] b words 0), o.kind, o.vector, o.polynomial, pass_count o, applications o, o.multiplied)
    (0, k, x, f, n, a, m)
Holds (solver_makes p A b words qs) = (solve p A [] b words 0).passes ≡ qs
Holds (solver_leaves p A b words x f) =
    let v = nines (length x) in
    let g = nines (length f) in
    let w = nines 48 in
    ◌≡◌ {A = ℕ × List ℕ × List ℕ}
    (solver_refusal p A [] b words 0 v g w, vector_after p A [] b words 0 v g w, polynomial_after p A [] b words 0 v g w)
    (0, x, f)
Holds (solver_bills p A b words room slice) =
    bill_after p A [] b words 0 (nines (length b)) (nines (length b + 1)) (nines 48) (nines room) ≡ slice
Holds (window_gives p A b words w k x f qs a m) = Gives p A [] b words w k x f qs a m
Holds (scaled_gives p A X b words w k x f qs a m) = Gives p A X b words w k x f qs a m
Holds (pass_takes p A b us u s) = pass_terms p A u (run p A 0 us (begin b)) ≡ s
Holds (window_refuses p A b words w vector polynomial work k) = Refuses p A [] b words w vector polynomial work k
Holds (scaled_refuses p A X b words w vector polynomial work k) = Refuses p A X b words w vector polynomial work k
Holds (solver_refuses p A b words vector polynomial work k) = Refuses p A [] b words 0 vector polynomial work k
Holds (recurrence_gives p s L f) =
    let out = nines (length f) in
    let work = nines 40 in
    ◌≡◌ {A = ℕ × ℕ × List ℕ}
    (recurrence_refusal p s out work, recurrence_answer p s out work, recurrence_after p s out work)
    (0, L, f)
Holds (recurrence_refuses p s polynomial work k) =
    let out = nines polynomial in
    let room = nines work in
    ◌≡◌ {A = ℕ × ℕ × List ℕ}
    (recurrence_refusal p s out room, recurrence_answer p s out room, recurrence_after p s out room)
    (k, 0, out)
Holds (steps_give p s r q t L e) = ◌≡◌ {A = Steps} (steps p s r) (record { q = q; t = t; L = L; e = e })
Holds (product_gives p A v out m) =
    let old = nines (length out) in
    ◌≡◌ {A = ℕ × List ℕ × ℕ} (product_refusal p A v old, product_after product p A v old, product_count p A v old) (0, out, m)
Holds (transposed_gives p A v out m) =
    let old = nines (length out) in
    ◌≡◌ {A = ℕ × List ℕ × ℕ} (product_refusal p A v old, product_after transposed p A v old, product_count p A v old) (0, out, m)
Holds (product_refuses p A v out k) =
    let old = nines out in
    ◌≡◌ {A = ℕ × List ℕ × List ℕ × ℕ}
    (product_refusal p A v old, product_after product p A v old, product_after transposed p A v old, product_count p A v old)
    (k, old, old, 0)
Holds (apply_gives p A g v out m) =
    let old = nines (length out) in
    let work = nines 8 in
    ◌≡◌ {A = ℕ × List ℕ × ℕ} (apply_refusal p A g v old work, apply_after p A g v old work, apply_count p A g v old work) (0, out, m)
Holds (apply_refuses p A g v out work k) =
    let old = nines out in
    let w = nines work in
    ◌≡◌ {A = ℕ × List ℕ × ℕ} (apply_refusal p A g v old w, apply_after p A g v old w, apply_count p A g v old w) (k, old, 0)
Holds (takes_says p A x b k answer m) =
    ◌≡◌ {A = ℕ × Bool × ℕ} (takes_refusal p A x b, takes_answer p A x b, takes_count p A x b) (k, answer, m)
Holds (is_null_says p A w k answer m) =
    ◌≡◌ {A = ℕ × Bool × ℕ} (is_null_refusal p A w, is_null_answer p A w, is_null_count p A w) (k, answer, m)
Holds (reader_gives text starts columns values right p n count starts' columns' values' right') =
    let l = bytes text in
    let s = nines starts in
    let c = nines columns in
    let v = nines values in
    let b = nines right in
    ◌≡◌ {A = ℕ × ℕ × ℕ × List ℕ × List ℕ × List ℕ × List ℕ × List ℕ} (
      reader_answer (λ d. d.modulus) l s c v b b,
      reader_answer (λ d. d.size) l s c v b b,
      reader_answer (λ d. d.count) l s c v b b,
      reader_after (λ x. x.matrix.starts) s l s c v b b,
      reader_after (λ x. x.matrix.columns) c l s c v b b,
      reader_after (λ x. x.matrix.values) v l s c v b b,
      reader_after (λ x. x.scales) b l s c v b b,
      reader_after (λ x. x.right) b l s c v b b,
    )
    (p, n, count, starts', columns', values', overwrite (replicate n 1) b, right')
Holds (reader_refuses text starts columns values right k) =
    let l = bytes text in
    let s = nines starts in
    let c = nines columns in
    let v = nines values in
    let b = nines right in
    ◌≡◌ {A = ℕ × ℕ × List ℕ}
    (reader_refusal l s c v b b, reader_answer (λ d. d.size) l s c v b b, reader_after (λ x. x.matrix.starts) s l s c v b b)
    (k, 0, s)
Holds (scales_read text room scales) =
    let l = bytes text in
    let old = nines room in
    ◌≡◌ {A = ℕ × List ℕ}
    (reader_refusal l (nines 9) (nines 9) (nines 9) old (nines 9), reader_after (λ x. x.scales) old l (nines 9) (nines 9) (nines 9) old (nines 9))
    (0, scales)
Holds (scales_refused text room k) =
    let l = bytes text in
    let old = nines room in
    ◌≡◌ {A = ℕ × List ℕ}
    (reader_refusal l (nines 9) (nines 9) (nines 9) old (nines 9), reader_after (λ x. x.scales) old l (nines 9) (nines 9) (nines 9) old (nines 9))
    (k, old)
Holds (writer_gives p A b room n after) = Writes p A [] b room n after
Holds (scaled_writes p A X b room n after) = Writes p A X b room n after
Holds (text_gives text answer) =
    ◌≡◌ {A = ℕ × List ℕ × List ℕ}
    (text_answer (bytes text) 7168, solved_text (bytes text), program_output (bytes text))
    (length (bytes answer), bytes answer, bytes answer)
Holds (text_refuses text room k) = text_answer (bytes text) room ≡ k
Holds (bytes_refused count room k) = text_answer (replicate count 120) room ≡ k
Holds (sum_gives p a b k x) = ◌≡◌ {A = ℕ × ℕ} (operation_refusal p a b, operation_answer plus p a b) (k, x)
Holds (difference_gives p a b k x) = ◌≡◌ {A = ℕ × ℕ} (operation_refusal p a b, operation_answer minus p a b) (k, x)
Holds (product_of_gives p a b k x) = ◌≡◌ {A = ℕ × ℕ} (operation_refusal p a b, operation_answer times p a b) (k, x)
Holds (inverse_gives p a k x) = ◌≡◌ {A = ℕ × ℕ} (inverse_refusal p a, inverse_answer p a) (k, x)
Holds (lines_of_inverses p text) = inverse_lines (inverses p) ≡ bytes text
Holds (inverses_print front n x) =
    ◌≡◌ {A = List ℕ × ℕ × ℕ} (take (length (bytes front)) inverses_text, length (inverses 251), at (inverses 251) (n - 1)) (bytes front, n, x)

abbrev pub AllHold : List Case → Type 0
AllHold [] = Unit {0}
AllHold (c ∷ cs) = Holds c × AllHold cs

-- diag(2,3), and the matrix whose sole entry is 1 in row 1, column 2
abbrev pub diag23 : Matrix
diag23 = matrix (0 ∷ 1 ∷ 2 ∷ []) (0 ∷ 1 ∷ []) (2 ∷ 3 ∷ [])

abbrev pub U : Matrix
U = matrix (0 ∷ 1 ∷ 1 ∷ []) (1 ∷ []) (1 ∷ [])

-- diag(2,3,4)
abbrev pub diag234 : Matrix
diag234 = matrix (0 ∷ 1 ∷ 2 ∷ 3 ∷ []) (0 ∷ 1 ∷ 2 ∷ []) (2 ∷ 3 ∷ 4 ∷ [])

-- the matrix of size 0
abbrev pub nothing : Matrix
nothing = matrix (0 ∷ []) [] []

-- a pass: left, degree, applications
abbrev pub made : ℕ → ℕ → ℕ → Pass
made left t cost = record { left = left; degree = t; applications = cost }

-- document 01, "Cases", those marked (P)
abbrev pub proved_cases : List Case
proved_cases =
    text_gives
    "system\t7\t2\t3\na\t1\t1\t2\na\t1\t2\t1\na\t2\t2\t3\nb\t1\t1\nb\t2\t1\nend\n"
    "answer\tsolved\t1\t1\t4\t12\npass\t1\t2\t1\t4\nclose\t0\nf\t0\t4\nf\t1\t1\nx\t1\t5\nx\t2\t5\nend\n"
    ∷ solver_gives 7 diag23 (1 ∷ 1 ∷ []) [] solved (4 ∷ 5 ∷ []) (6 ∷ 2 ∷ 1 ∷ []) 2 7 14
    ∷ solver_gives 7 diag23 (1 ∷ 1 ∷ []) (1 ∷ 1 ∷ []) solved (4 ∷ 5 ∷ []) (6 ∷ 2 ∷ 1 ∷ []) 1 6 12
    ∷ solver_gives 7 diag23 (1 ∷ 1 ∷ []) (0 ∷ 0 ∷ []) solved (4 ∷ 5 ∷ []) (6 ∷ 2 ∷ 1 ∷ []) 3 10 20
    ∷ solver_gives 7 diag23 (0 ∷ 1 ∷ []) [] solved (0 ∷ 5 ∷ []) (4 ∷ 1 ∷ []) 2 7 14
    ∷ solver_gives 7 U (0 ∷ 1 ∷ []) [] singular (1 ∷ 0 ∷ []) (0 ∷ 0 ∷ 1 ∷ []) 1 6 6
    ∷ solver_gives 7 U (1 ∷ 0 ∷ []) [] singular (1 ∷ 0 ∷ []) (0 ∷ 1 ∷ []) 1 4 4
    -- b = (0,0), which names no matrix: diag(2,3), U, and a matrix without entries
    ∷ solver_gives 7 diag23 (0 ∷ 0 ∷ []) [] solved (0 ∷ 0 ∷ []) (1 ∷ []) 0 0 0
    ∷ solver_gives 7 U (0 ∷ 0 ∷ []) [] solved (0 ∷ 0 ∷ []) (1 ∷ []) 0 0 0
    ∷ solver_gives 7 (matrix (0 ∷ 0 ∷ 0 ∷ []) [] []) (0 ∷ 0 ∷ []) [] solved (0 ∷ 0 ∷ []) (1 ∷ []) 0 0 0
    ∷ solver_gives 2 (matrix (0 ∷ 1 ∷ []) (0 ∷ []) (1 ∷ [])) (1 ∷ []) [] solved (1 ∷ []) (1 ∷ 1 ∷ []) 1 2 2
    ∷ recurrence_gives 7 (1 ∷ 2 ∷ 4 ∷ 1 ∷ []) 1 (5 ∷ 1 ∷ 0 ∷ 0 ∷ 0 ∷ [])
    ∷ recurrence_gives 7 (0 ∷ 1 ∷ []) 2 (0 ∷ 0 ∷ 1 ∷ [])
    ∷ []

pub proved_rows : AllHold proved_cases
unfolding compute
proved_rows = (refl, (refl, (refl, (refl, (refl, (refl, (refl, (refl, (refl, (refl, (refl, (refl, (refl, tt)))))))))))))

-- document 01's other cases, and cases of evidence/reference.py
abbrev pub more_cases : List Case
more_cases =
    -- words 8, 8 act as 1, 1; for n = 2, 128 words are taken, 127 and 130 get 10
    solver_gives 7 diag23 (1 ∷ 1 ∷ []) (8 ∷ 8 ∷ []) solved (4 ∷ 5 ∷ []) (6 ∷ 2 ∷ 1 ∷ []) 1 6 12
    ∷ solver_gives 7 diag23 (1 ∷ 1 ∷ []) (replicate 128 4294967295) solved (4 ∷ 5 ∷ []) (6 ∷ 2 ∷ 1 ∷ []) 1 6 12
    ∷ solver_refuses 7 diag23 (1 ∷ 1 ∷ []) (replicate 127 1) 2 3 48 10
    ∷ solver_refuses 7 diag23 (1 ∷ 1 ∷ []) (replicate 130 1) 2 3 0 10
    -- restarts: p = 2 with first factor z; p = 3 with a word vector and a pass of degree 0 in the middle; a word vector that is zero modulo p
    ∷ solver_gives 2 (matrix (0 ∷ 0 ∷ 1 ∷ []) (1 ∷ []) (1 ∷ [])) (1 ∷ 1 ∷ []) [] singular (1 ∷ 0 ∷ []) (0 ∷ 1 ∷ 1 ∷ []) 2 7 7
    ∷ solver_gives 3 (matrix (0 ∷ 1 ∷ 2 ∷ 3 ∷ []) (0 ∷ 1 ∷ 2 ∷ []) (1 ∷ 2 ∷ 2 ∷ [])) (2 ∷ 2 ∷ 1 ∷ []) (5 ∷ 5 ∷ 2 ∷ []) solved (2 ∷ 1 ∷ 2 ∷ []) (2 ∷ 0 ∷ 1 ∷ []) 3 14 42
    ∷ solver_gives 3 (matrix (0 ∷ 1 ∷ 2 ∷ 3 ∷ []) (0 ∷ 2 ∷ 1 ∷ []) (1 ∷ 1 ∷ 1 ∷ [])) (1 ∷ 2 ∷ 0 ∷ []) (3 ∷ 0 ∷ 6 ∷ 4 ∷ 2 ∷ 5 ∷ []) solved (1 ∷ 0 ∷ 2 ∷ []) (2 ∷ 0 ∷ 1 ∷ []) 4 19 57
    -- three passes of degree 1; the same in one pass with words; no entries; n = 1, singular and solved; a singular matrix, solved
    ∷ solver_gives 5 (matrix (0 ∷ 1 ∷ 2 ∷ 3 ∷ []) (0 ∷ 1 ∷ 2 ∷ []) (1 ∷ 2 ∷ 3 ∷ [])) (1 ∷ 1 ∷ 1 ∷ []) [] solved (1 ∷ 3 ∷ 2 ∷ []) (4 ∷ 1 ∷ 4 ∷ 1 ∷ []) 3 14 42
    ∷ solver_gives 5 (matrix (0 ∷ 1 ∷ 2 ∷ 3 ∷ []) (0 ∷ 1 ∷ 2 ∷ []) (1 ∷ 2 ∷ 3 ∷ [])) (1 ∷ 1 ∷ 1 ∷ []) (6 ∷ 11 ∷ 4294967294 ∷ 1 ∷ 0 ∷ 0 ∷ []) solved (1 ∷ 3 ∷ 2 ∷ []) (4 ∷ 1 ∷ 4 ∷ 1 ∷ []) 1 10 30
    ∷ solver_gives 5 (matrix (0 ∷ 0 ∷ 0 ∷ []) [] []) (0 ∷ 3 ∷ []) [] singular (0 ∷ 3 ∷ []) (0 ∷ 1 ∷ []) 2 7 0
    ∷ solver_gives 11 (matrix (0 ∷ 0 ∷ []) [] []) (4 ∷ []) [] singular (4 ∷ []) (0 ∷ 1 ∷ []) 1 2 0
    ∷ solver_gives 13 (matrix (0 ∷ 1 ∷ []) (0 ∷ []) (5 ∷ [])) (3 ∷ []) (26 ∷ []) solved (11 ∷ []) (8 ∷ 1 ∷ []) 2 3 3
    ∷ solver_gives 7 (matrix (0 ∷ 1 ∷ 1 ∷ []) (0 ∷ []) (2 ∷ [])) (1 ∷ 0 ∷ []) [] solved (4 ∷ 0 ∷ []) (5 ∷ 1 ∷ []) 1 4 4
    -- singular though the system has a solution; n = 4, where a t kept over a restart shows
    ∷ solver_gives 2 (matrix (0 ∷ 0 ∷ 1 ∷ 2 ∷ []) (0 ∷ 1 ∷ []) (1 ∷ 1 ∷ [])) (0 ∷ 1 ∷ 0 ∷ []) [] singular (0 ∷ 0 ∷ 1 ∷ []) (0 ∷ 0 ∷ 1 ∷ []) 3 16 32
    ∷ solver_gives 2 (matrix (0 ∷ 2 ∷ 3 ∷ 4 ∷ 4 ∷ []) (0 ∷ 1 ∷ 0 ∷ 3 ∷ []) (1 ∷ 1 ∷ 1 ∷ 1 ∷ [])) (1 ∷ 0 ∷ 0 ∷ 1 ∷ []) [] singular (0 ∷ 0 ∷ 1 ∷ 0 ∷ []) (0 ∷ 0 ∷ 1 ∷ 1 ∷ 1 ∷ []) 3 20 80
    ∷ solver_gives 3 (matrix (0 ∷ 1 ∷ 1 ∷ 2 ∷ 3 ∷ []) (1 ∷ 3 ∷ 2 ∷ []) (2 ∷ 1 ∷ 2 ∷ [])) (2 ∷ 2 ∷ 1 ∷ 0 ∷ []) [] singular (1 ∷ 0 ∷ 0 ∷ 0 ∷ []) (0 ∷ 0 ∷ 1 ∷ 0 ∷ 1 ∷ []) 3 20 60
    -- the passes one by one: what they leave to the next, and a pass of degree 0
    ∷ solver_makes 7 diag23 (1 ∷ 1 ∷ []) [] (made 2 1 4 ∷ made 1 1 2 ∷ [])
    ∷ solver_makes 7 diag23 (1 ∷ 1 ∷ []) (0 ∷ 0 ∷ []) (made 2 0 3 ∷ made 2 1 4 ∷ made 1 1 2 ∷ [])
    -- .. and on the bill: whole passes only, what is behind them stays; nothing where there is no pass or the call is refused
    ∷ solver_bills 7 diag23 (1 ∷ 1 ∷ []) (0 ∷ 0 ∷ []) 11 (2 ∷ 0 ∷ 3 ∷ 2 ∷ 1 ∷ 4 ∷ 1 ∷ 1 ∷ 2 ∷ 9 ∷ 9 ∷ [])
    ∷ solver_bills 7 diag23 (1 ∷ 1 ∷ []) (0 ∷ 0 ∷ []) 8 (2 ∷ 0 ∷ 3 ∷ 2 ∷ 1 ∷ 4 ∷ 9 ∷ 9 ∷ [])
    ∷ solver_bills 7 diag23 (1 ∷ 1 ∷ []) (0 ∷ 0 ∷ []) 3 (2 ∷ 0 ∷ 3 ∷ [])
    ∷ solver_bills 7 diag23 (1 ∷ 1 ∷ []) (0 ∷ 0 ∷ []) 2 (9 ∷ 9 ∷ [])
    ∷ solver_bills 7 diag23 (1 ∷ 1 ∷ []) (0 ∷ 0 ∷ []) 0 []
    ∷ solver_bills 7 diag23 (0 ∷ 0 ∷ []) [] 4 (9 ∷ 9 ∷ 9 ∷ 9 ∷ [])
    ∷ solver_bills 7 diag23 (1 ∷ 1 ∷ []) (0 ∷ []) 4 (9 ∷ 9 ∷ 9 ∷ 9 ∷ [])
    -- the slices after a run: zeros behind f
    ∷ solver_leaves 7 (matrix (0 ∷ 2 ∷ 3 ∷ []) (0 ∷ 1 ∷ 1 ∷ []) (2 ∷ 1 ∷ 3 ∷ [])) (1 ∷ 1 ∷ []) [] (5 ∷ 5 ∷ []) (4 ∷ 1 ∷ 0 ∷ [])
    -- the terms of a pass after another: 2 × left, and not 2 × n
    ∷ pass_takes 2 (matrix (0 ∷ 0 ∷ 1 ∷ []) (1 ∷ []) (1 ∷ [])) (1 ∷ 1 ∷ []) ((1 ∷ 0 ∷ []) ∷ []) (0 ∷ 1 ∷ []) (1 ∷ 1 ∷ [])
    ∷ pass_takes 5 (matrix (0 ∷ 1 ∷ 2 ∷ 3 ∷ []) (0 ∷ 1 ∷ 2 ∷ []) (1 ∷ 2 ∷ 3 ∷ [])) (1 ∷ 1 ∷ 1 ∷ []) ((1 ∷ 0 ∷ 0 ∷ []) ∷ []) (0 ∷ 1 ∷ 0 ∷ []) (1 ∷ 2 ∷ 4 ∷ 3 ∷ [])
    -- the solver's refusals, two causes in most of them: the first in order counts; 4,097 rows are 4, of 4,096 the first start is looked at
    ∷ solver_refuses 9 (matrix [] (0 ∷ 1 ∷ []) (2 ∷ 3 ∷ [])) (1 ∷ 1 ∷ []) [] 2 3 48 3
    ∷ solver_refuses 7 (matrix [] [] (2 ∷ 3 ∷ [])) (1 ∷ 1 ∷ []) [] 2 3 48 4
    ∷ solver_refuses 7 (matrix (replicate 4098 1) [] []) [] [] 0 1 16 4
    ∷ solver_refuses 7 (matrix (replicate 4097 1) [] []) [] [] 0 1 16 5
    ∷ solver_refuses 7 (matrix (1 ∷ 1 ∷ 2 ∷ []) (0 ∷ 1 ∷ []) (2 ∷ 3 ∷ [])) (1 ∷ 1 ∷ []) [] 2 3 48 5
    ∷ solver_refuses 7 (matrix (0 ∷ 2 ∷ 1 ∷ 2 ∷ []) (0 ∷ 1 ∷ []) (2 ∷ 3 ∷ [])) (1 ∷ 1 ∷ []) [] 2 3 48 5
    ∷ solver_refuses 7 (matrix (0 ∷ 1 ∷ 1 ∷ []) (0 ∷ 1 ∷ []) (2 ∷ 3 ∷ [])) (1 ∷ 1 ∷ []) [] 2 3 48 5
    ∷ solver_refuses 7 (matrix (0 ∷ 1 ∷ 2 ∷ []) (0 ∷ 1 ∷ 5 ∷ []) (2 ∷ 3 ∷ [])) (1 ∷ 1 ∷ []) [] 2 3 48 5
    ∷ solver_refuses 7 (matrix (0 ∷ 1 ∷ 2 ∷ []) (0 ∷ 2 ∷ []) (0 ∷ 3 ∷ [])) (1 ∷ 1 ∷ []) [] 2 3 48 6
    ∷ solver_refuses 7 (matrix (0 ∷ 2 ∷ 2 ∷ []) (1 ∷ 1 ∷ []) (2 ∷ 3 ∷ [])) (1 ∷ 1 ∷ []) [] 2 3 48 6
    ∷ solver_refuses 7 (matrix (0 ∷ 1 ∷ 2 ∷ []) (0 ∷ 1 ∷ []) (7 ∷ 3 ∷ [])) (1 ∷ 1 ∷ 1 ∷ []) [] 2 3 48 7
    ∷ solver_refuses 7 diag23 (1 ∷ 7 ∷ 1 ∷ []) [] 2 3 48 8
    ∷ solver_refuses 7 diag23 (1 ∷ 4294967295 ∷ []) (1 ∷ 1 ∷ 1 ∷ []) 1 3 48 9
    ∷ solver_refuses 7 diag23 (1 ∷ 1 ∷ []) [] 3 3 48 11
    ∷ solver_refuses 7 diag23 (1 ∷ 1 ∷ []) [] 2 4 48 11
    ∷ solver_refuses 7 diag23 (1 ∷ 1 ∷ []) [] 2 3 47 11
    -- recurrences: none, zeros, 2 × L above N, p = 2, Fibonacci, L going 1, 2, 3
    ∷ recurrence_gives 7 [] 0 (1 ∷ [])
    ∷ recurrence_gives 5 (0 ∷ 0 ∷ 0 ∷ 0 ∷ []) 0 (1 ∷ 0 ∷ 0 ∷ 0 ∷ 0 ∷ [])
    ∷ recurrence_gives 7 (0 ∷ 0 ∷ 0 ∷ 3 ∷ []) 4 (0 ∷ 0 ∷ 0 ∷ 0 ∷ 1 ∷ [])
    ∷ recurrence_gives 7 (0 ∷ 2 ∷ 1 ∷ []) 2 (0 ∷ 3 ∷ 1 ∷ 0 ∷ [])
    ∷ recurrence_gives 2 (1 ∷ 0 ∷ 0 ∷ 1 ∷ 0 ∷ 1 ∷ 1 ∷ 1 ∷ []) 3 (1 ∷ 1 ∷ 0 ∷ 1 ∷ 0 ∷ 0 ∷ 0 ∷ 0 ∷ 0 ∷ [])
    ∷ recurrence_gives 13 (0 ∷ 1 ∷ 1 ∷ 2 ∷ 3 ∷ 5 ∷ 8 ∷ 0 ∷ []) 2 (12 ∷ 12 ∷ 1 ∷ 0 ∷ 0 ∷ 0 ∷ 0 ∷ 0 ∷ 0 ∷ [])
    ∷ recurrence_gives 3 (1 ∷ 1 ∷ 2 ∷ 0 ∷ 1 ∷ 1 ∷ []) 3 (1 ∷ 2 ∷ 0 ∷ 1 ∷ 0 ∷ 0 ∷ 0 ∷ [])
    ∷ recurrence_gives 5 (1 ∷ 2 ∷ 4 ∷ 3 ∷ 0 ∷ []) 4 (1 ∷ 0 ∷ 0 ∷ 3 ∷ 1 ∷ 0 ∷ [])
    ∷ recurrence_refuses 7 (1 ∷ 7 ∷ []) 2 16 9
    ∷ recurrence_refuses 7 (1 ∷ 6 ∷ []) 4 16 11
    ∷ recurrence_refuses 7 (1 ∷ 6 ∷ []) 3 15 11
    ∷ recurrence_refuses 4 (5 ∷ []) 2 12 3
    -- q = 1, t = 0, L = 0, e = 1 before the first term; after 0, 3, of which the second changes the length
    ∷ steps_give 7 [] 0 (1 ∷ []) [] 0 1
    ∷ steps_give 7 (0 ∷ 3 ∷ []) 2 (1 ∷ 0 ∷ []) (1 ∷ []) 2 3
    -- products, transposed products, polynomials of a matrix
    ∷ product_gives 5 (matrix (0 ∷ 2 ∷ 3 ∷ 4 ∷ []) (0 ∷ 1 ∷ 2 ∷ 0 ∷ []) (1 ∷ 2 ∷ 3 ∷ 4 ∷ [])) (1 ∷ 2 ∷ 3 ∷ []) (0 ∷ 4 ∷ 4 ∷ []) 4
    ∷ transposed_gives 5 (matrix (0 ∷ 2 ∷ 3 ∷ 4 ∷ []) (0 ∷ 1 ∷ 2 ∷ 0 ∷ []) (1 ∷ 2 ∷ 3 ∷ 4 ∷ [])) (1 ∷ 2 ∷ 3 ∷ []) (3 ∷ 2 ∷ 1 ∷ []) 4
    ∷ product_gives 7 U (3 ∷ 5 ∷ []) (5 ∷ 0 ∷ []) 1
    ∷ transposed_gives 7 U (3 ∷ 5 ∷ []) (0 ∷ 3 ∷ []) 1
    ∷ apply_gives 5 (matrix (0 ∷ 2 ∷ 3 ∷ 4 ∷ []) (0 ∷ 1 ∷ 2 ∷ 0 ∷ []) (1 ∷ 2 ∷ 3 ∷ 4 ∷ [])) (2 ∷ 0 ∷ 1 ∷ 4 ∷ []) (1 ∷ 2 ∷ 3 ∷ []) (3 ∷ 1 ∷ 4 ∷ []) 12
    ∷ apply_gives 7 U (6 ∷ []) (3 ∷ 5 ∷ []) (4 ∷ 2 ∷ []) 0
    ∷ apply_gives 7 diag23 (6 ∷ 2 ∷ 1 ∷ []) (1 ∷ 1 ∷ []) (0 ∷ 0 ∷ []) 4
    -- request (iii): no entry is multiplied where there is none, beside a refusal or by a polynomial of one coefficient
    ∷ product_gives 5 (matrix (0 ∷ 0 ∷ 0 ∷ []) [] []) (3 ∷ 4 ∷ []) (0 ∷ 0 ∷ []) 0
    ∷ transposed_gives 5 (matrix (0 ∷ 0 ∷ 0 ∷ []) [] []) (3 ∷ 4 ∷ []) (0 ∷ 0 ∷ []) 0
    ∷ apply_gives 5 (matrix (0 ∷ 0 ∷ 0 ∷ []) [] []) (1 ∷ 2 ∷ []) (3 ∷ 4 ∷ []) (3 ∷ 4 ∷ []) 0
    ∷ apply_gives 7 diag23 (6 ∷ []) (1 ∷ 1 ∷ []) (6 ∷ 6 ∷ []) 0
    ∷ product_refuses 7 diag23 (1 ∷ 7 ∷ []) 2 9
    ∷ product_refuses 7 diag23 (1 ∷ 1 ∷ []) 3 11
    ∷ apply_refuses 7 diag23 (1 ∷ 1 ∷ []) (1 ∷ 1 ∷ []) 2 3 11
    -- the two checks of offered answers
    ∷ takes_says 7 U (0 ∷ 1 ∷ []) (1 ∷ 0 ∷ []) 0 true 1
    ∷ takes_says 7 U (1 ∷ 0 ∷ []) (1 ∷ 0 ∷ []) 0 false 1
    ∷ takes_says 7 U (0 ∷ 8 ∷ []) (1 ∷ 0 ∷ []) 9 false 0
    ∷ is_null_says 7 U (5 ∷ 0 ∷ []) 0 true 1
    ∷ is_null_says 7 U (0 ∷ 0 ∷ []) 0 false 1
    ∷ is_null_says 7 U (0 ∷ 1 ∷ []) 0 false 1
    ∷ is_null_says 7 U (7 ∷ 0 ∷ 0 ∷ []) 8 false 0
    -- .. make a whole product, also of a zero vector and where the first row tells
    ∷ takes_says 7 diag23 (0 ∷ 0 ∷ []) (0 ∷ 0 ∷ []) 0 true 2
    ∷ takes_says 7 diag23 (0 ∷ 0 ∷ []) (1 ∷ 1 ∷ []) 0 false 2
    ∷ is_null_says 7 diag23 (0 ∷ 0 ∷ []) 0 false 2
    ∷ is_null_says 7 (matrix (0 ∷ 0 ∷ 0 ∷ []) [] []) (0 ∷ 1 ∷ []) 0 true 0
    -- the reader: good texts, and its refusals
    ∷ reader_gives "system\t7\t2\t3\na\t1\t1\t2\na\t1\t2\t1\na\t2\t2\t3\nb\t1\t1\nb\t2\t1\nend\n" 5 4 4 4 7 2 3 (0 ∷ 2 ∷ 3 ∷ 9 ∷ 9 ∷ []) (0 ∷ 1 ∷ 1 ∷ 9 ∷ []) (2 ∷ 1 ∷ 3 ∷ 9 ∷ []) (1 ∷ 1 ∷ 9 ∷ 9 ∷ [])
    ∷ reader_gives "system\t7\t2\t3\na\t1\t1\t2\na\t1\t2\t1\na\t2\t2\t3\nb\t1\t1\nb\t2\t1\nend\n" 3 3 3 2 7 2 3 (0 ∷ 2 ∷ 3 ∷ []) (0 ∷ 1 ∷ 1 ∷ []) (2 ∷ 1 ∷ 3 ∷ []) (1 ∷ 1 ∷ [])
    ∷ reader_gives "system\t2\t1\t0\nend\n" 5 4 4 4 2 1 0 (0 ∷ 0 ∷ 9 ∷ 9 ∷ 9 ∷ []) (9 ∷ 9 ∷ 9 ∷ 9 ∷ []) (9 ∷ 9 ∷ 9 ∷ 9 ∷ []) (0 ∷ 9 ∷ 9 ∷ 9 ∷ [])
    ∷ reader_gives "system\t11\t3\t1\na\t2\t3\t10\nb\t3\t4\nend\n" 5 4 4 4 11 3 1 (0 ∷ 0 ∷ 1 ∷ 1 ∷ 9 ∷ []) (2 ∷ 9 ∷ 9 ∷ 9 ∷ []) (10 ∷ 9 ∷ 9 ∷ 9 ∷ []) (0 ∷ 0 ∷ 4 ∷ 9 ∷ [])
    ∷ reader_refuses "system\t7\t1\t0\n" 5 4 4 4 2
    ∷ reader_refuses "system\t7\t1\t0\nend" 5 4 4 4 2
    ∷ reader_refuses "system\t7\t1\t0\nend\n\n" 5 4 4 4 2
    ∷ reader_refuses "system\t4\t1\t1\nb\t1\t1\na\t1\t1\t1\nend\n" 5 4 4 4 2
    ∷ reader_refuses "system\t7\t1\t1\na\t01\t1\t1\nend\n" 5 4 4 4 2
    ∷ reader_refuses "system\t7\t1\t1\na\t1\t1\t4294967296\nend\n" 5 4 4 4 2
    ∷ reader_refuses "system\t7\t1\t1\na\t1\t1\t4294967295\nend\n" 5 4 4 4 7
    ∷ reader_refuses "system 7\t1\t0\nend\n" 5 4 4 4 2
    ∷ reader_refuses "system\t7\t1\t0\r\nend\r\n" 5 4 4 4 2
    ∷ reader_refuses "" 5 4 4 4 2
    ∷ reader_refuses "system\t9\t0\t0\nend\n" 5 4 4 4 3
    ∷ reader_refuses "system\t7\t4097\t1\nend\n" 5 4 4 4 4
    ∷ reader_refuses "system\t7\t4096\t1\nend\n" 5 4 4 4 5
    ∷ reader_refuses "system\t7\t1\t2\na\t1\t2\t1\nend\n" 5 4 4 4 5
    ∷ reader_refuses "system\t7\t2\t2\na\t2\t1\t0\na\t1\t1\t1\nend\n" 5 4 4 4 6
    ∷ reader_refuses "system\t7\t2\t2\na\t1\t1\t1\na\t1\t1\t2\nend\n" 5 4 4 4 6
    ∷ reader_refuses "system\t7\t1\t1\na\t0\t1\t1\nend\n" 5 4 4 4 6
    ∷ reader_refuses "system\t7\t2\t1\na\t1\t1\t7\nb\t2\t1\nb\t1\t1\nend\n" 5 4 4 4 6
    ∷ reader_refuses "system\t7\t1\t1\na\t1\t1\t7\nend\n" 5 4 4 4 7
    ∷ reader_refuses "system\t7\t1\t0\nb\t1\t0\nend\n" 2 0 0 0 7
    ∷ reader_refuses "system\t7\t2\t3\na\t1\t1\t2\na\t1\t2\t1\na\t2\t2\t3\nb\t1\t1\nb\t2\t1\nend\n" 2 4 4 4 11
    ∷ reader_refuses "system\t7\t2\t3\na\t1\t1\t2\na\t1\t2\t1\na\t2\t2\t3\nb\t1\t1\nb\t2\t1\nend\n" 5 2 4 4 11
    -- the writer, into just enough bytes and into more
    ∷ writer_gives 7 (matrix (0 ∷ 2 ∷ 3 ∷ []) (0 ∷ 1 ∷ 1 ∷ []) (2 ∷ 1 ∷ 3 ∷ [])) (1 ∷ 1 ∷ []) 53 53 "system\t7\t2\t3\na\t1\t1\t2\na\t1\t2\t1\na\t2\t2\t3\nb\t1\t1\nb\t2\t1\nend\n"
    ∷ writer_gives 11 (matrix (0 ∷ 0 ∷ 1 ∷ 1 ∷ []) (2 ∷ []) (10 ∷ [])) (0 ∷ 0 ∷ 4 ∷ []) 36 33 "system\t11\t3\t1\na\t2\t3\t10\nb\t3\t4\nend\n..."
    ∷ writer_gives 2 (matrix (0 ∷ 0 ∷ []) [] []) (0 ∷ []) 16 0 "................"
    -- the text call
    ∷ text_gives
    "system\t2\t2\t1\na\t2\t2\t1\nb\t1\t1\nb\t2\t1\nend\n"
    "answer\tsingular\t2\t2\t7\t7\npass\t1\t2\t1\t4\npass\t2\t1\t1\t2\nclose\t1\nf\t0\t0\nf\t1\t1\nf\t2\t1\nw\t1\t1\nw\t2\t0\nend\n"
    ∷ text_gives
    "system\t3\t2\t1\na\t1\t2\t2\nend\n"
    "answer\tsolved\t0\t0\t0\t0\nclose\t0\nf\t0\t1\nx\t1\t0\nx\t2\t0\nend\n"
    ∷ text_gives
    "system\t13\t1\t1\na\t1\t1\t5\nb\t1\t3\nend\n"
    "answer\tsolved\t1\t1\t2\t2\npass\t1\t1\t1\t2\nclose\t0\nf\t0\t8\nf\t1\t1\nx\t1\t11\nend\n"
    ∷ text_gives
    "system\t5\t3\t3\na\t1\t1\t1\na\t2\t2\t2\na\t3\t3\t3\nb\t1\t1\nb\t2\t1\nb\t3\t1\nend\n"
    "answer\tsolved\t3\t3\t14\t42\npass\t1\t3\t1\t6\npass\t2\t2\t1\t4\npass\t3\t1\t1\t2\nclose\t2\nf\t0\t4\nf\t1\t1\nf\t2\t4\nf\t3\t1\nx\t1\t1\nx\t2\t3\nx\t3\t2\nend\n"
    -- diag(2,3) with b = (1,1), and with b = (0,1), where the first pass has degree 0
    ∷ text_gives
    "system\t7\t2\t2\na\t1\t1\t2\na\t2\t2\t3\nb\t1\t1\nb\t2\t1\nend\n"
    "answer\tsolved\t2\t2\t7\t14\npass\t1\t2\t1\t4\npass\t2\t1\t1\t2\nclose\t1\nf\t0\t6\nf\t1\t2\nf\t2\t1\nx\t1\t4\nx\t2\t5\nend\n"
    ∷ text_gives
    "system\t7\t2\t2\na\t1\t1\t2\na\t2\t2\t3\nb\t2\t1\nend\n"
    "answer\tsolved\t1\t2\t7\t14\npass\t1\t2\t0\t3\npass\t2\t2\t1\t4\nclose\t0\nf\t0\t4\nf\t1\t1\nx\t1\t0\nx\t2\t5\nend\n"
    ∷ text_refuses "system\t7\t129\t0\nend\n" 7168 11
    ∷ text_refuses "system\t7\t129\t0\nb\t1\t7\nend\n" 7168 7
    ∷ text_refuses "system\t7\t4097\t0\nend\n" 7168 4
    ∷ text_refuses "system\t7\t1\t0\nend\n" 7167 11
    ∷ text_refuses "system\t7\t1\t0\nend\n" 4608 11
    ∷ text_refuses "system\t6\t1\t0\nend\n" 0 3
    -- the field
    ∷ sum_gives 7 5 6 0 4
    ∷ difference_gives 7 2 5 0 4
    ∷ product_of_gives 7 5 6 0 2
    ∷ sum_gives 7 7 0 9 0
    ∷ difference_gives 1 0 0 3 0
    ∷ inverse_gives 7 3 0 5
    ∷ inverse_gives 2 1 0 1
    ∷ inverse_gives 7 0 12 0
    ∷ inverse_gives 7 7 9 0
    ∷ inverse_gives 6 0 3 0
    ∷ []

pub more_rows : AllHold more_cases
unfolding compute
more_rows = (refl, (refl, (refl, (refl, (refl, (refl, (refl, (refl, (refl, (refl, (refl, (refl, (refl, (refl, (refl, (refl, (refl, (refl, (refl, (refl, (refl, (refl, (refl, (refl, (refl, (refl, (refl, (refl, (refl, (refl, (refl, (refl, (refl, (refl, (refl, (refl, (refl, (refl, (refl, (refl, (refl, (refl, (refl, (refl, (refl, (refl, (refl, (refl, (refl, (refl, (refl, (refl, (refl, (refl, (refl, (refl, (refl, (refl, (refl, (refl, (refl, (refl, (refl, (refl, (refl, (refl, (refl, (refl, (refl, (refl, (refl, (refl, (refl, (refl, (refl, (refl, (refl, (refl, (refl, (refl, (refl, (refl, (refl, (refl, (refl, (refl, (refl, (refl, (refl, (refl, (refl, (refl, (refl, (refl, (refl, (refl, (refl, (refl, (refl, (refl, (refl, (refl, (refl, (refl, (refl, (refl, (refl, (refl, (refl, (refl, (refl, (refl, (refl, (refl, (refl, (refl, (refl, (refl, (refl, (refl, (refl, (refl, (refl, (refl, (refl, (refl, (refl, (refl, (refl, (refl, (refl, (refl, (refl, (refl, tt))))))))))))))))))))))))))))))))))))))))))))))))))))))))))))))))))))))))))))))))))))))))))))))))))))))))))))))))))))))))))))))))))))))

-- document 02, request (ii): "size 0 with one start of 0 and no entries"
abbrev pub nothing_left_cases : List Case
nothing_left_cases =
    -- the solver, its slices and its bill
    solver_gives 7 nothing [] [] solved [] (1 ∷ []) 0 0 0
    ∷ solver_gives 251 nothing [] [] solved [] (1 ∷ []) 0 0 0
    ∷ solver_leaves 7 nothing [] [] [] (1 ∷ [])
    ∷ solver_bills 7 nothing [] [] 4 (9 ∷ 9 ∷ 9 ∷ 9 ∷ [])
    -- its refusals: no starts; an entry; a start that is not 0; an element of b; one word; a slice of another length
    ∷ solver_refuses 7 (matrix [] [] []) [] (1 ∷ []) 0 1 16 4
    ∷ solver_refuses 7 (matrix (0 ∷ []) (0 ∷ []) (1 ∷ [])) [] (1 ∷ []) 0 1 16 5
    ∷ solver_refuses 7 (matrix (1 ∷ []) (0 ∷ []) (1 ∷ [])) [] [] 0 1 16 5
    ∷ solver_refuses 7 nothing (1 ∷ []) (1 ∷ []) 0 1 16 8
    ∷ solver_refuses 7 nothing [] (1 ∷ []) 0 1 15 10
    ∷ solver_refuses 7 nothing [] [] 1 1 16 11
    ∷ solver_refuses 7 nothing [] [] 0 2 16 11
    ∷ solver_refuses 7 nothing [] [] 0 1 15 11
    -- products; a polynomial has one coefficient; A takes the empty vector to itself, and it is zero
    ∷ product_gives 7 nothing [] [] 0
    ∷ transposed_gives 7 nothing [] [] 0
    ∷ apply_gives 7 nothing (6 ∷ []) [] [] 0
    ∷ apply_refuses 7 nothing [] [] 0 0 8
    ∷ apply_refuses 7 nothing (6 ∷ 1 ∷ []) [] 0 0 8
    ∷ takes_says 7 nothing [] [] 0 true 0
    ∷ is_null_says 7 nothing [] 0 false 0
    -- the reader, into just enough places and into more; too few starts, a count without its line, an `a` line, a `b` line
    ∷ reader_gives "system\t7\t0\t0\nend\n" 1 0 0 0 7 0 0 (0 ∷ []) [] [] []
    ∷ reader_gives "system\t7\t0\t0\nend\n" 2 1 1 1 7 0 0 (0 ∷ 9 ∷ []) (9 ∷ []) (9 ∷ []) (9 ∷ [])
    ∷ reader_refuses "system\t7\t0\t0\nend\n" 0 0 0 0 11
    ∷ reader_refuses "system\t7\t0\t1\nend\n" 5 4 4 4 5
    ∷ reader_refuses "system\t7\t0\t1\na\t1\t1\t7\nend\n" 5 4 4 4 6
    ∷ reader_refuses "system\t7\t0\t0\nb\t1\t7\nend\n" 5 4 4 4 6
    -- the writer, into just enough bytes, into more and into too few; the text call
    ∷ writer_gives 7 nothing [] 17 17 "system\t7\t0\t0\nend\n"
    ∷ writer_gives 7 nothing [] 19 17 "system\t7\t0\t0\nend\n.."
    ∷ writer_gives 7 nothing [] 16 0 "................"
    ∷ text_gives "system\t7\t0\t0\nend\n" "answer\tsolved\t0\t0\t0\t0\nclose\t0\nf\t0\t1\nend\n"
    ∷ text_refuses "system\t7\t0\t0\nb\t1\t7\nend\n" 7168 6
    ∷ text_refuses "system\t7\t0\t0\nend\n" 7167 11
    ∷ []

pub nothing_left_rows : AllHold nothing_left_cases
unfolding compute
nothing_left_rows = (refl, (refl, (refl, (refl, (refl, (refl, (refl, (refl, (refl, (refl, (refl, (refl, (refl, (refl, (refl, (refl, (refl, (refl, (refl, (refl, (refl, (refl, (refl, (refl, (refl, (refl, (refl, (refl, (refl, (refl, (refl, tt)))))))))))))))))))))))))))))))

-- document 02, request (v): "stopping a pass early"; worked out by evidence/reference.py
abbrev pub window_cases : List Case
window_cases =
    -- a pass that ends early, at i − 1 + L applications: w = 0, 1, 2 and 3, which is due at the last i; w = 4 would be due after term 2 × left only
    window_gives 7 diag234 (1 ∷ 0 ∷ 0 ∷ []) [] 0 solved (4 ∷ 0 ∷ 0 ∷ []) (5 ∷ 1 ∷ []) (made 3 1 6 ∷ []) 6 18
    ∷ window_gives 7 diag234 (1 ∷ 0 ∷ 0 ∷ []) [] 1 solved (4 ∷ 0 ∷ 0 ∷ []) (5 ∷ 1 ∷ []) (made 3 1 3 ∷ []) 3 9
    ∷ window_gives 7 diag234 (1 ∷ 0 ∷ 0 ∷ []) [] 2 solved (4 ∷ 0 ∷ 0 ∷ []) (5 ∷ 1 ∷ []) (made 3 1 4 ∷ []) 4 12
    ∷ window_gives 7 diag234 (1 ∷ 0 ∷ 0 ∷ []) [] 3 solved (4 ∷ 0 ∷ 0 ∷ []) (5 ∷ 1 ∷ []) (made 3 1 5 ∷ []) 5 15
    ∷ window_gives 7 diag234 (1 ∷ 0 ∷ 0 ∷ []) [] 4 solved (4 ∷ 0 ∷ 0 ∷ []) (5 ∷ 1 ∷ []) (made 3 1 6 ∷ []) 6 18
    -- the same with words, and a degree of 2; leading zeros are no window, since L is 0
    ∷ window_gives 7 (matrix (0 ∷ 1 ∷ 2 ∷ 3 ∷ 4 ∷ []) (0 ∷ 1 ∷ 2 ∷ 3 ∷ []) (2 ∷ 3 ∷ 5 ∷ 5 ∷ [])) (1 ∷ 1 ∷ 0 ∷ 0 ∷ []) (1 ∷ 1 ∷ 0 ∷ 0 ∷ []) 1 solved (4 ∷ 5 ∷ 0 ∷ 0 ∷ []) (6 ∷ 2 ∷ 1 ∷ []) (made 4 2 6 ∷ []) 7 28
    ∷ window_gives 7 (matrix (0 ∷ 1 ∷ 2 ∷ 3 ∷ 4 ∷ []) (0 ∷ 1 ∷ 2 ∷ 3 ∷ []) (2 ∷ 3 ∷ 5 ∷ 5 ∷ [])) (1 ∷ 1 ∷ 0 ∷ 0 ∷ []) (1 ∷ 1 ∷ 0 ∷ 0 ∷ []) 2 solved (4 ∷ 5 ∷ 0 ∷ 0 ∷ []) (6 ∷ 2 ∷ 1 ∷ []) (made 4 2 7 ∷ []) 8 32
    ∷ window_gives 2 (matrix (0 ∷ 1 ∷ 1 ∷ 2 ∷ []) (2 ∷ 1 ∷ []) (1 ∷ 1 ∷ [])) (0 ∷ 1 ∷ 0 ∷ []) [] 2 singular (1 ∷ 0 ∷ 0 ∷ []) (0 ∷ 0 ∷ 0 ∷ 1 ∷ []) (made 3 3 7 ∷ []) 9 18
    -- a test that fails: the pass goes on to 2 × left terms, and costs L more; a moment later a second test would find zero
    ∷ window_gives 2 (matrix (0 ∷ 1 ∷ 2 ∷ 2 ∷ []) (1 ∷ 0 ∷ []) (1 ∷ 1 ∷ [])) (1 ∷ 0 ∷ 0 ∷ []) [] 1 solved (0 ∷ 1 ∷ 0 ∷ []) (1 ∷ 0 ∷ 1 ∷ []) (made 3 2 8 ∷ []) 9 18
    -- p = 2 and 3, short windows: false alarms; the final f is another one
    ∷ window_gives 2 (matrix (0 ∷ 1 ∷ 2 ∷ 3 ∷ []) (1 ∷ 2 ∷ 0 ∷ []) (1 ∷ 1 ∷ 1 ∷ [])) (0 ∷ 0 ∷ 1 ∷ []) [] 2 solved (1 ∷ 0 ∷ 0 ∷ []) (1 ∷ 0 ∷ 0 ∷ 1 ∷ []) (made 3 3 11 ∷ []) 13 39
    ∷ window_gives 3 (matrix (0 ∷ 0 ∷ 1 ∷ []) (0 ∷ []) (1 ∷ [])) (1 ∷ 0 ∷ []) [] 1 singular (0 ∷ 1 ∷ []) (0 ∷ 0 ∷ 1 ∷ []) (made 2 1 5 ∷ made 1 1 2 ∷ []) 8 8
    -- a test that would fail after term 2 × left is not made
    ∷ window_gives 2 (matrix (0 ∷ 1 ∷ 1 ∷ []) (0 ∷ []) (1 ∷ [])) (1 ∷ 1 ∷ []) [] 2 singular (0 ∷ 1 ∷ []) (0 ∷ 1 ∷ 1 ∷ []) (made 2 1 4 ∷ made 1 1 2 ∷ []) 7 7
    ∷ window_gives 7 diag23 (1 ∷ 1 ∷ []) [] 2 solved (4 ∷ 5 ∷ []) (6 ∷ 2 ∷ 1 ∷ []) (made 2 1 4 ∷ made 1 1 2 ∷ []) 7 14
    -- the next pass begins anew: its own test, its own window
    ∷ window_gives 7 (matrix (0 ∷ 1 ∷ 2 ∷ 3 ∷ []) (0 ∷ 1 ∷ 2 ∷ []) (2 ∷ 3 ∷ 5 ∷ [])) (1 ∷ 1 ∷ 0 ∷ []) [] 1 solved (4 ∷ 5 ∷ 0 ∷ []) (6 ∷ 2 ∷ 1 ∷ []) (made 3 1 7 ∷ made 2 1 3 ∷ []) 11 33
    ∷ window_gives 7 diag23 (1 ∷ 1 ∷ []) [] 1 solved (4 ∷ 5 ∷ []) (6 ∷ 2 ∷ 1 ∷ []) (made 2 1 5 ∷ made 1 1 2 ∷ []) 8 16
    ∷ window_gives 2 (matrix (0 ∷ 0 ∷ 1 ∷ 1 ∷ []) (0 ∷ []) (1 ∷ [])) (1 ∷ 0 ∷ 0 ∷ []) [] 1 singular (0 ∷ 1 ∷ 0 ∷ []) (0 ∷ 0 ∷ 1 ∷ []) (made 3 1 7 ∷ made 2 1 2 ∷ []) 10 10
    ∷ window_gives 2 (matrix (0 ∷ 0 ∷ 1 ∷ 2 ∷ []) (2 ∷ 0 ∷ []) (1 ∷ 1 ∷ [])) (1 ∷ 1 ∷ 0 ∷ []) [] 1 singular (0 ∷ 1 ∷ 0 ∷ []) (0 ∷ 0 ∷ 0 ∷ 1 ∷ []) (made 3 1 7 ∷ made 2 2 4 ∷ []) 13 26
    ∷ window_gives 5 (matrix (0 ∷ 0 ∷ 1 ∷ 2 ∷ []) (2 ∷ 0 ∷ []) (1 ∷ 1 ∷ [])) (1 ∷ 1 ∷ 0 ∷ []) [] 1 singular (0 ∷ 1 ∷ 0 ∷ []) (0 ∷ 0 ∷ 0 ∷ 1 ∷ []) (made 3 1 7 ∷ made 2 2 4 ∷ []) 13 26
    -- a pass of degree 0 is not tested; w = 64 is never reached here; no rows, b = 0, n = 1
    ∷ window_gives 7 diag23 (1 ∷ 1 ∷ []) (0 ∷ 0 ∷ []) 1 solved (4 ∷ 5 ∷ []) (6 ∷ 2 ∷ 1 ∷ []) (made 2 0 3 ∷ made 2 1 5 ∷ made 1 1 2 ∷ []) 11 22
    ∷ window_gives 7 diag234 (1 ∷ 0 ∷ 0 ∷ []) [] 64 solved (4 ∷ 0 ∷ 0 ∷ []) (5 ∷ 1 ∷ []) (made 3 1 6 ∷ []) 6 18
    ∷ window_gives 2 (matrix (0 ∷ 1 ∷ 2 ∷ 2 ∷ []) (1 ∷ 0 ∷ []) (1 ∷ 1 ∷ [])) (1 ∷ 0 ∷ 0 ∷ []) [] 64 solved (0 ∷ 1 ∷ 0 ∷ []) (1 ∷ 0 ∷ 1 ∷ []) (made 3 2 7 ∷ []) 8 16
    ∷ window_gives 7 diag23 (0 ∷ 0 ∷ []) [] 1 solved (0 ∷ 0 ∷ []) (1 ∷ []) [] 0 0
    ∷ window_gives 7 nothing [] [] 64 solved [] (1 ∷ []) [] 0 0
    ∷ window_gives 2 (matrix (0 ∷ 1 ∷ []) (0 ∷ []) (1 ∷ [])) (1 ∷ []) [] 1 solved (1 ∷ []) (1 ∷ 1 ∷ []) (made 1 1 2 ∷ []) 2 2
    -- 13: 65 is turned down, after 10 and before 11
    ∷ window_refuses 7 diag23 (1 ∷ 1 ∷ []) [] 65 2 3 48 13
    ∷ window_refuses 7 diag23 (1 ∷ 1 ∷ []) [] 4294967295 2 3 48 13
    ∷ window_refuses 7 nothing [] [] 65 0 1 16 13
    ∷ window_refuses 7 diag23 (1 ∷ 7 ∷ []) [] 65 2 3 48 9
    ∷ window_refuses 7 diag23 (1 ∷ 1 ∷ []) (1 ∷ []) 65 2 3 48 10
    ∷ window_refuses 7 diag23 (1 ∷ 1 ∷ []) [] 65 3 3 48 13
    ∷ window_refuses 7 diag23 (1 ∷ 1 ∷ []) [] 64 3 3 48 11
    ∷ []

pub window_rows : AllHold window_cases
unfolding compute
window_rows = (refl, (refl, (refl, (refl, (refl, (refl, (refl, (refl, (refl, (refl, (refl, (refl, (refl, (refl, (refl, (refl, (refl, (refl, (refl, (refl, (refl, (refl, (refl, (refl, (refl, (refl, (refl, (refl, (refl, (refl, (refl, tt)))))))))))))))))))))))))))))))

-- document 02, request (vi): "scaled columns"; worked out by evidence/reference.py, which builds AX entry by entry
abbrev pub scaled_cases : List Case
scaled_cases =
    -- the solver
    scaled_gives 7 diag23 (4 ∷ 5 ∷ []) (1 ∷ 1 ∷ []) [] 0 solved (4 ∷ 5 ∷ []) (6 ∷ 1 ∷ []) (made 2 1 4 ∷ []) 4 8
    ∷ scaled_gives 7 (matrix (0 ∷ 1 ∷ 2 ∷ []) (0 ∷ 1 ∷ []) (2 ∷ 2 ∷ [])) (1 ∷ 5 ∷ []) (1 ∷ 1 ∷ []) [] 0 solved (4 ∷ 4 ∷ []) (6 ∷ 2 ∷ 1 ∷ []) (made 2 1 4 ∷ made 1 1 2 ∷ []) 7 14
    ∷ scaled_gives 7 U (3 ∷ 2 ∷ []) (0 ∷ 1 ∷ []) [] 0 singular (6 ∷ 0 ∷ []) (0 ∷ 0 ∷ 1 ∷ []) (made 2 2 5 ∷ []) 6 6
    ∷ scaled_gives 7 U (3 ∷ 2 ∷ []) (1 ∷ 0 ∷ []) [] 0 singular (3 ∷ 0 ∷ []) (0 ∷ 1 ∷ []) (made 2 1 4 ∷ []) 4 4
    ∷ scaled_gives 7 (matrix (0 ∷ 2 ∷ 4 ∷ []) (0 ∷ 1 ∷ 0 ∷ 1 ∷ []) (1 ∷ 1 ∷ 6 ∷ 6 ∷ [])) (1 ∷ 2 ∷ []) (1 ∷ 6 ∷ []) [] 0 solved (6 ∷ 2 ∷ []) (1 ∷ 1 ∷ []) (made 2 1 4 ∷ []) 4 16
    ∷ scaled_gives 7 (matrix (0 ∷ 2 ∷ 4 ∷ []) (0 ∷ 1 ∷ 0 ∷ 1 ∷ []) (1 ∷ 2 ∷ 6 ∷ 5 ∷ [])) (1 ∷ 4 ∷ []) (1 ∷ 6 ∷ []) [] 0 singular (1 ∷ 3 ∷ []) (0 ∷ 1 ∷ []) (made 2 1 4 ∷ []) 4 16
    ∷ scaled_gives 7 diag23 (1 ∷ 1 ∷ []) (1 ∷ 1 ∷ []) [] 0 solved (4 ∷ 5 ∷ []) (6 ∷ 2 ∷ 1 ∷ []) (made 2 1 4 ∷ made 1 1 2 ∷ []) 7 14
    ∷ scaled_gives 7 (matrix (0 ∷ 1 ∷ 2 ∷ 4 ∷ []) (0 ∷ 1 ∷ 0 ∷ 2 ∷ []) (6 ∷ 3 ∷ 5 ∷ 2 ∷ [])) (4 ∷ 1 ∷ 6 ∷ []) (2 ∷ 2 ∷ 1 ∷ []) [] 0 solved (5 ∷ 3 ∷ 2 ∷ []) (4 ∷ 1 ∷ []) (made 3 1 6 ∷ []) 6 24
    ∷ scaled_gives 7 (matrix (0 ∷ 1 ∷ 2 ∷ 4 ∷ []) (0 ∷ 1 ∷ 0 ∷ 2 ∷ []) (6 ∷ 3 ∷ 5 ∷ 2 ∷ [])) (4 ∷ 1 ∷ 6 ∷ []) (2 ∷ 2 ∷ 1 ∷ []) [] 2 solved (5 ∷ 3 ∷ 2 ∷ []) (4 ∷ 1 ∷ []) (made 3 1 4 ∷ []) 4 16
    ∷ scaled_gives 7 (matrix (0 ∷ 1 ∷ 3 ∷ 4 ∷ []) (1 ∷ 0 ∷ 2 ∷ 1 ∷ []) (1 ∷ 2 ∷ 3 ∷ 4 ∷ [])) (2 ∷ 3 ∷ 5 ∷ []) (2 ∷ 1 ∷ 1 ∷ []) (0 ∷ 0 ∷ 0 ∷ []) 1 solved (2 ∷ 2 ∷ 6 ∷ []) (4 ∷ 0 ∷ 1 ∷ []) (made 3 0 5 ∷ made 3 2 6 ∷ []) 12 48
    ∷ scaled_gives 7 (matrix (0 ∷ 1 ∷ 3 ∷ 4 ∷ []) (1 ∷ 0 ∷ 2 ∷ 1 ∷ []) (1 ∷ 2 ∷ 3 ∷ 4 ∷ [])) (2 ∷ 3 ∷ 5 ∷ []) (1 ∷ 0 ∷ 2 ∷ []) [] 0 singular (2 ∷ 0 ∷ 1 ∷ []) (0 ∷ 4 ∷ 0 ∷ 1 ∷ []) (made 3 3 8 ∷ []) 10 40
    ∷ scaled_gives 7 (matrix (0 ∷ 1 ∷ 4 ∷ 6 ∷ 7 ∷ []) (3 ∷ 0 ∷ 2 ∷ 3 ∷ 0 ∷ 3 ∷ 0 ∷ []) (3 ∷ 5 ∷ 6 ∷ 5 ∷ 2 ∷ 6 ∷ 5 ∷ [])) (5 ∷ 2 ∷ 6 ∷ 4 ∷ []) (2 ∷ 1 ∷ 0 ∷ 1 ∷ []) [] 0 singular (0 ∷ 1 ∷ 0 ∷ 0 ∷ []) (0 ∷ 0 ∷ 1 ∷ 0 ∷ 1 ∷ []) (made 4 2 9 ∷ made 2 2 5 ∷ []) 17 119
    ∷ scaled_gives 7 (matrix (0 ∷ 1 ∷ 2 ∷ 4 ∷ []) (2 ∷ 2 ∷ 0 ∷ 1 ∷ []) (6 ∷ 3 ∷ 6 ∷ 2 ∷ [])) (4 ∷ 6 ∷ 3 ∷ []) (2 ∷ 1 ∷ 0 ∷ []) [] 1 solved (0 ∷ 0 ∷ 5 ∷ []) (6 ∷ 0 ∷ 1 ∷ []) (made 3 2 8 ∷ []) 9 36
    ∷ scaled_gives 7 diag23 (4 ∷ 5 ∷ []) (1 ∷ 1 ∷ []) (0 ∷ 0 ∷ []) 0 solved (4 ∷ 5 ∷ []) (6 ∷ 1 ∷ []) (made 2 0 3 ∷ made 2 1 4 ∷ []) 7 14
    ∷ scaled_gives 7 (matrix (0 ∷ 0 ∷ 0 ∷ []) [] []) (3 ∷ 2 ∷ []) (0 ∷ 3 ∷ []) [] 0 singular (0 ∷ 6 ∷ []) (0 ∷ 1 ∷ []) (made 2 0 3 ∷ made 2 1 4 ∷ []) 7 0
    ∷ scaled_gives 7 diag23 (4 ∷ 5 ∷ []) (0 ∷ 0 ∷ []) [] 0 solved (0 ∷ 0 ∷ []) (1 ∷ []) [] 0 0
    ∷ scaled_gives 7 (matrix (0 ∷ 1 ∷ []) (0 ∷ []) (3 ∷ [])) (5 ∷ []) (2 ∷ []) [] 0 solved (3 ∷ []) (6 ∷ 1 ∷ []) (made 1 1 2 ∷ []) 2 2
    ∷ scaled_gives 2 (matrix (0 ∷ 0 ∷ 1 ∷ []) (1 ∷ []) (1 ∷ [])) (1 ∷ 1 ∷ []) (1 ∷ 1 ∷ []) [] 0 singular (1 ∷ 0 ∷ []) (0 ∷ 1 ∷ 1 ∷ []) (made 2 1 4 ∷ made 1 1 2 ∷ []) 7 7
    ∷ scaled_gives 7 nothing [] [] [] 0 solved [] (1 ∷ []) [] 0 0
    -- its refusals: 5 for the number of scales, 7 for a scale that is 0 or p, each in its order
    ∷ scaled_refuses 7 diag23 (1 ∷ []) (1 ∷ 1 ∷ []) [] 0 2 3 48 5
    ∷ scaled_refuses 7 diag23 (1 ∷ 1 ∷ 1 ∷ []) (1 ∷ 1 ∷ []) [] 0 2 3 48 5
    ∷ scaled_refuses 7 diag23 (0 ∷ 0 ∷ 0 ∷ []) (1 ∷ 1 ∷ []) [] 0 2 3 48 5
    ∷ scaled_refuses 7 diag23 (0 ∷ 1 ∷ []) (1 ∷ 1 ∷ []) [] 0 2 3 48 7
    ∷ scaled_refuses 7 diag23 (1 ∷ 7 ∷ []) (1 ∷ 1 ∷ []) [] 0 2 3 48 7
    ∷ scaled_refuses 7 diag23 (1 ∷ 8 ∷ []) (1 ∷ 1 ∷ []) [] 0 2 3 48 7
    ∷ scaled_refuses 8 diag23 (1 ∷ []) (1 ∷ 1 ∷ []) [] 0 2 3 48 3
    ∷ scaled_refuses 7 (matrix [] [] []) (1 ∷ []) [] [] 0 0 1 16 4
    ∷ scaled_refuses 7 (matrix (0 ∷ 1 ∷ 2 ∷ []) (0 ∷ 2 ∷ []) (2 ∷ 3 ∷ [])) (1 ∷ []) (1 ∷ []) [] 0 2 3 48 5
    ∷ scaled_refuses 7 (matrix (0 ∷ 1 ∷ 2 ∷ []) (0 ∷ 2 ∷ []) (2 ∷ 3 ∷ [])) (0 ∷ 1 ∷ []) (1 ∷ 1 ∷ []) [] 0 2 3 48 6
    ∷ scaled_refuses 7 diag23 (7 ∷ 1 ∷ []) (1 ∷ []) [] 0 2 3 48 7
    ∷ scaled_refuses 7 diag23 (0 ∷ 1 ∷ []) (1 ∷ 7 ∷ []) (1 ∷ []) 65 1 3 48 7
    ∷ scaled_refuses 7 diag23 (4 ∷ 5 ∷ []) (1 ∷ []) [] 0 2 3 48 8
    ∷ scaled_refuses 7 diag23 (4 ∷ 5 ∷ []) (1 ∷ 1 ∷ []) (1 ∷ []) 65 2 3 48 10
    ∷ scaled_refuses 7 diag23 (4 ∷ 5 ∷ []) (1 ∷ 1 ∷ []) [] 65 2 3 47 13
    ∷ scaled_refuses 7 diag23 (4 ∷ 5 ∷ []) (1 ∷ 1 ∷ []) [] 0 2 3 47 11
    ∷ scaled_refuses 7 nothing (1 ∷ []) [] [] 0 0 1 16 5
    -- the reader: the slice of scales, ones where the text has none; each cause of 2, 5, 6, 7 and 11
    ∷ scales_read "system\t7\t2\t2\na\t1\t1\t2\na\t2\t2\t3\ns\t1\t4\ns\t2\t5\nb\t1\t1\nb\t2\t1\nend\n" 4 (4 ∷ 5 ∷ 9 ∷ 9 ∷ [])
    ∷ scales_read "system\t7\t2\t2\na\t1\t1\t2\na\t2\t2\t3\ns\t1\t4\ns\t2\t5\nb\t1\t1\nb\t2\t1\nend\n" 2 (4 ∷ 5 ∷ [])
    ∷ scales_read "system\t7\t2\t2\na\t1\t1\t2\na\t2\t2\t3\ns\t1\t1\ns\t2\t6\nb\t1\t1\nb\t2\t1\nend\n" 4 (1 ∷ 6 ∷ 9 ∷ 9 ∷ [])
    ∷ scales_read "system\t7\t2\t2\na\t1\t1\t2\na\t2\t2\t3\ns\t1\t6\ns\t2\t1\nb\t1\t1\nb\t2\t1\nend\n" 4 (6 ∷ 1 ∷ 9 ∷ 9 ∷ [])
    ∷ scales_read "system\t7\t2\t2\na\t1\t1\t2\na\t2\t2\t3\nb\t1\t1\nb\t2\t1\nend\n" 4 (1 ∷ 1 ∷ 9 ∷ 9 ∷ [])
    ∷ scales_read "system\t3\t1\t0\ns\t1\t2\nend\n" 4 (2 ∷ 9 ∷ 9 ∷ 9 ∷ [])
    ∷ scales_read "system\t11\t3\t1\na\t2\t3\t10\ns\t1\t1\ns\t2\t10\ns\t3\t4\nb\t3\t4\nend\n" 4 (1 ∷ 10 ∷ 4 ∷ 9 ∷ [])
    ∷ scales_read "system\t7\t0\t0\nend\n" 4 (9 ∷ 9 ∷ 9 ∷ 9 ∷ [])
    ∷ scales_read "system\t7\t0\t0\nend\n" 0 []
    ∷ scales_refused "system\t7\t2\t2\na\t1\t1\t2\na\t2\t2\t3\nb\t1\t1\nb\t2\t1\ns\t1\t4\ns\t2\t5\nend\n" 4 2
    ∷ scales_refused "system\t7\t2\t2\ns\t1\t4\ns\t2\t5\na\t1\t1\t2\na\t2\t2\t3\nb\t1\t1\nb\t2\t1\nend\n" 4 2
    ∷ scales_refused "system\t7\t2\t2\na\t1\t1\t2\na\t2\t2\t3\ns\t1\ns\t2\nb\t1\t1\nb\t2\t1\nend\n" 4 2
    ∷ scales_refused "system\t7\t2\t2\na\t1\t1\t2\na\t2\t2\t3\ns\t1\t4\t1\ns\t2\t5\t1\nb\t1\t1\nb\t2\t1\nend\n" 4 2
    ∷ scales_refused "system\t7\t2\t2\na\t1\t1\t2\na\t2\t2\t3\nb\t1\t1\nb\t2\t1\ns\t3\t0\ns\t1\t0\ns\t1\t0\nend\n" 4 2
    ∷ scales_refused "system\t7\t2\t2\na\t1\t1\t2\na\t2\t2\t3\ns\t1\t4\nb\t1\t1\nb\t2\t1\nend\n" 4 5
    ∷ scales_refused "system\t7\t2\t2\na\t1\t1\t2\na\t2\t2\t3\ns\t1\t4\ns\t2\t5\ns\t3\t1\nb\t1\t1\nb\t2\t1\nend\n" 4 5
    ∷ scales_refused "system\t7\t2\t2\na\t1\t1\t2\na\t2\t2\t3\ns\t3\t0\nb\t1\t1\nb\t2\t1\nend\n" 4 5
    ∷ scales_refused "system\t7\t2\t2\na\t1\t1\t2\na\t2\t2\t3\ns\t1\t1\nb\t1\t1\nb\t2\t1\nend\n" 4 5
    ∷ scales_refused "system\t7\t0\t0\ns\t1\t2\nend\n" 4 5
    ∷ scales_refused "system\t9\t2\t2\na\t1\t1\t2\na\t2\t2\t3\ns\t1\t4\nb\t1\t1\nb\t2\t1\nend\n" 4 3
    ∷ scales_refused "system\t7\t4097\t0\ns\t1\t4\ns\t2\t5\nend\n" 4 4
    ∷ scales_refused "system\t7\t2\t2\na\t1\t1\t2\na\t2\t2\t3\ns\t1\t4\ns\t3\t5\nb\t1\t1\nb\t2\t1\nend\n" 4 6
    ∷ scales_refused "system\t7\t2\t2\na\t1\t1\t2\na\t2\t2\t3\ns\t0\t4\ns\t1\t5\nb\t1\t1\nb\t2\t1\nend\n" 4 6
    ∷ scales_refused "system\t7\t2\t2\na\t1\t1\t2\na\t2\t2\t3\ns\t2\t4\ns\t1\t5\nb\t1\t1\nb\t2\t1\nend\n" 4 6
    ∷ scales_refused "system\t7\t2\t2\na\t1\t1\t2\na\t2\t2\t3\ns\t1\t4\ns\t1\t5\nb\t1\t1\nb\t2\t1\nend\n" 4 6
    ∷ scales_refused "system\t7\t2\t2\na\t1\t1\t2\na\t2\t2\t3\ns\t1\t1\ns\t2\t1\nb\t1\t1\nb\t2\t1\nend\n" 4 6
    ∷ scales_refused "system\t7\t1\t0\ns\t1\t1\nend\n" 4 6
    ∷ scales_refused "system\t2\t1\t0\ns\t1\t1\nend\n" 4 6
    ∷ scales_refused "system\t7\t2\t1\na\t1\t1\t7\ns\t1\t1\ns\t2\t1\nend\n" 4 6
    ∷ scales_refused "system\t7\t2\t2\na\t1\t1\t2\na\t2\t2\t3\ns\t1\t0\ns\t1\t7\nb\t1\t1\nb\t2\t1\nend\n" 4 6
    ∷ scales_refused "system\t7\t2\t2\na\t1\t1\t2\na\t2\t2\t3\ns\t1\t4\ns\t2\t5\nb\t2\t1\nb\t1\t1\nend\n" 4 6
    ∷ scales_refused "system\t7\t2\t2\na\t1\t1\t2\na\t2\t2\t3\ns\t1\t0\ns\t2\t5\nb\t1\t1\nb\t2\t1\nend\n" 4 7
    ∷ scales_refused "system\t7\t2\t2\na\t1\t1\t2\na\t2\t2\t3\ns\t1\t4\ns\t2\t7\nb\t1\t1\nb\t2\t1\nend\n" 4 7
    ∷ scales_refused "system\t7\t2\t2\na\t1\t1\t2\na\t2\t2\t3\ns\t1\t8\ns\t2\t8\nb\t1\t1\nb\t2\t1\nend\n" 4 7
    ∷ scales_refused "system\t7\t2\t2\na\t1\t1\t2\na\t2\t2\t3\ns\t1\t4\ns\t2\t7\nb\t1\t1\nb\t2\t1\nend\n" 1 7
    ∷ scales_refused "system\t7\t2\t2\na\t1\t1\t2\na\t2\t2\t3\ns\t1\t4\ns\t2\t5\nb\t1\t1\nb\t2\t1\nend\n" 1 11
    ∷ scales_refused "system\t7\t2\t2\na\t1\t1\t2\na\t2\t2\t3\nb\t1\t1\nb\t2\t1\nend\n" 1 11
    -- the writer: `s` lines exactly if some scale is not 1
    ∷ scaled_writes 7 diag23 (4 ∷ 5 ∷ []) (1 ∷ 1 ∷ []) 57 57 "system\t7\t2\t2\na\t1\t1\t2\na\t2\t2\t3\ns\t1\t4\ns\t2\t5\nb\t1\t1\nb\t2\t1\nend\n"
    ∷ scaled_writes 7 diag23 (1 ∷ 5 ∷ []) (1 ∷ 1 ∷ []) 57 57 "system\t7\t2\t2\na\t1\t1\t2\na\t2\t2\t3\ns\t1\t1\ns\t2\t5\nb\t1\t1\nb\t2\t1\nend\n"
    ∷ scaled_writes 7 diag23 (4 ∷ 1 ∷ []) (1 ∷ 1 ∷ []) 57 57 "system\t7\t2\t2\na\t1\t1\t2\na\t2\t2\t3\ns\t1\t4\ns\t2\t1\nb\t1\t1\nb\t2\t1\nend\n"
    ∷ scaled_writes 7 diag23 (1 ∷ 1 ∷ []) (1 ∷ 1 ∷ []) 45 45 "system\t7\t2\t2\na\t1\t1\t2\na\t2\t2\t3\nb\t1\t1\nb\t2\t1\nend\n"
    ∷ scaled_writes 11 (matrix (0 ∷ 0 ∷ 0 ∷ 0 ∷ []) [] []) (1 ∷ 10 ∷ 1 ∷ []) (0 ∷ 0 ∷ 0 ∷ []) 37 37 "system\t11\t3\t0\ns\t1\t1\ns\t2\t10\ns\t3\t1\nend\n"
    ∷ scaled_writes 7 nothing [] [] 17 17 "system\t7\t0\t0\nend\n"
    ∷ scaled_writes 7 diag23 (4 ∷ []) (1 ∷ 1 ∷ []) 60 0 "............................................................"
    ∷ scaled_writes 7 diag23 (4 ∷ 0 ∷ []) (1 ∷ 1 ∷ []) 60 0 "............................................................"
    ∷ scaled_writes 7 diag23 (7 ∷ 5 ∷ []) (1 ∷ 1 ∷ []) 60 0 "............................................................"
    ∷ scaled_writes 7 diag23 (7 ∷ 5 ∷ []) (1 ∷ []) 0 0 ""
    ∷ scaled_writes 7 nothing (1 ∷ []) [] 20 0 "...................."
    ∷ scaled_writes 7 diag23 (4 ∷ 5 ∷ []) (1 ∷ 1 ∷ []) 56 0 "........................................................"
    -- the text call; 26,624 bytes are read, one more is not
    ∷ text_gives
    "system\t7\t2\t2\na\t1\t1\t2\na\t2\t2\t3\ns\t1\t4\ns\t2\t5\nb\t1\t1\nb\t2\t1\nend\n"
    "answer\tsolved\t1\t1\t4\t8\npass\t1\t2\t1\t4\nclose\t0\nf\t0\t6\nf\t1\t1\nx\t1\t4\nx\t2\t5\nend\n"
    ∷ text_gives
    "system\t7\t2\t1\na\t1\t2\t1\ns\t1\t3\ns\t2\t2\nb\t2\t1\nend\n"
    "answer\tsingular\t2\t1\t6\t6\npass\t1\t2\t2\t5\nclose\t1\nf\t0\t0\nf\t1\t0\nf\t2\t1\nw\t1\t6\nw\t2\t0\nend\n"
    ∷ text_gives
    "system\t7\t2\t4\na\t1\t1\t1\na\t1\t2\t1\na\t2\t1\t6\na\t2\t2\t6\ns\t1\t1\ns\t2\t2\nb\t1\t1\nb\t2\t6\nend\n"
    "answer\tsolved\t1\t1\t4\t16\npass\t1\t2\t1\t4\nclose\t0\nf\t0\t1\nf\t1\t1\nx\t1\t6\nx\t2\t2\nend\n"
    ∷ text_gives
    "system\t7\t2\t4\na\t1\t1\t1\na\t1\t2\t2\na\t2\t1\t6\na\t2\t2\t5\ns\t1\t1\ns\t2\t4\nb\t1\t1\nb\t2\t6\nend\n"
    "answer\tsingular\t1\t1\t4\t16\npass\t1\t2\t1\t4\nclose\t0\nf\t0\t0\nf\t1\t1\nw\t1\t1\nw\t2\t3\nend\n"
    ∷ text_gives
    "system\t7\t3\t4\na\t1\t1\t6\na\t2\t2\t3\na\t3\t1\t5\na\t3\t3\t2\ns\t1\t4\ns\t2\t1\ns\t3\t6\nb\t1\t2\nb\t2\t2\nb\t3\t1\nend\n"
    "answer\tsolved\t1\t1\t6\t24\npass\t1\t3\t1\t6\nclose\t0\nf\t0\t4\nf\t1\t1\nx\t1\t5\nx\t2\t3\nx\t3\t2\nend\n"
    ∷ text_refuses "system\t7\t2\t2\na\t1\t1\t2\na\t2\t2\t3\ns\t1\t4\nb\t1\t1\nb\t2\t1\nend\n" 7168 5
    ∷ text_refuses "system\t7\t2\t2\na\t1\t1\t2\na\t2\t2\t3\ns\t1\t1\ns\t2\t1\nb\t1\t1\nb\t2\t1\nend\n" 7168 6
    ∷ text_refuses "system\t7\t2\t2\na\t1\t1\t2\na\t2\t2\t3\ns\t1\t4\ns\t2\t7\nb\t1\t1\nb\t2\t1\nend\n" 7168 7
    ∷ text_refuses "system\t7\t2\t2\na\t1\t1\t2\na\t2\t2\t3\nb\t1\t1\nb\t2\t1\ns\t1\t4\ns\t2\t5\nend\n" 7168 2
    ∷ text_refuses "system\t7\t2\t2\na\t1\t1\t2\na\t2\t2\t3\ns\t1\t4\ns\t2\t5\nb\t1\t1\nb\t2\t1\nend\n" 7167 11
    ∷ text_refuses "system\t7\t129\t0\ns\t1\t2\nend\n" 7168 5
    ∷ bytes_refused 26625 7168 1
    ∷ bytes_refused 26624 7168 2
    ∷ []

pub scaled_rows : AllHold scaled_cases
unfolding compute
scaled_rows = (refl, (refl, (refl, (refl, (refl, (refl, (refl, (refl, (refl, (refl, (refl, (refl, (refl, (refl, (refl, (refl, (refl, (refl, (refl, (refl, (refl, (refl, (refl, (refl, (refl, (refl, (refl, (refl, (refl, (refl, (refl, (refl, (refl, (refl, (refl, (refl, (refl, (refl, (refl, (refl, (refl, (refl, (refl, (refl, (refl, (refl, (refl, (refl, (refl, (refl, (refl, (refl, (refl, (refl, (refl, (refl, (refl, (refl, (refl, (refl, (refl, (refl, (refl, (refl, (refl, (refl, (refl, (refl, (refl, (refl, (refl, (refl, (refl, (refl, (refl, (refl, (refl, (refl, (refl, (refl, (refl, (refl, (refl, (refl, (refl, (refl, (refl, (refl, (refl, (refl, (refl, (refl, (refl, (refl, (refl, (refl, (refl, (refl, tt))))))))))))))))))))))))))))))))))))))))))))))))))))))))))))))))))))))))))))))))))))))))))))))))))

-- document 02, request (vii): "from `i 1 1` and `i 2 126` to `i 250 250`"
abbrev pub inverse_cases : List Case
inverse_cases =
    inverses_print "i\t1\t1\ni\t2\t126\ni\t3\t84\n" 250 250
    ∷ lines_of_inverses 2 "i\t1\t1\n"
    ∷ lines_of_inverses 13 "i\t1\t1\ni\t2\t7\ni\t3\t9\ni\t4\t10\ni\t5\t8\ni\t6\t11\ni\t7\t2\ni\t8\t5\ni\t9\t3\ni\t10\t4\ni\t11\t6\ni\t12\t12\n"
    ∷ inverse_gives 251 2 0 126
    ∷ inverse_gives 251 250 0 250
    ∷ inverse_gives 251 0 12 0
    ∷ inverse_gives 251 251 9 0
    ∷ inverse_gives 241 2 0 121
    ∷ []

pub inverse_rows : AllHold inverse_cases
unfolding compute
inverse_rows = (refl, (refl, (refl, (refl, (refl, (refl, (refl, (refl, tt))))))))
