-- What each call answers and leaves, for all inputs: its refusal (the first of its checks, in order), its answer, and each lent slice
-- afterwards. A slice to be written stands here as the list that it holds at entry; of a work slice only the length matters, and what it
-- holds afterwards is free.
--     field, operation, inverse                the field and its operations
--     product, apply                           the three that write a vector; `product` is the transposed product's too
--     recurrence                               the shortest recurrence
--     solver                                   the run, with its scales X; EveryRun and EveryTwoRuns are the third condition's theorems, EveryEmptyRun that of size 0,
--                                              EveryPlainRun that of n ones
--     takes, is_null                            the two checks of offered answers
--     reader, writer                           system text
--     text, program                            the text call and the program
-- Each name goes on with Refusal (the number), Answer (what is returned), After (a lent slice) or Count (request (iii): the entries multiplied; that of
-- a run stands in its outcome). EveryProduct and EveryRunByEntry say that the counts are those of the entries.
use Rattle.std.specs.Prelude.{◌≡◌, Bool, false, not, ◌&&◌, List, [], ◌∷◌, ◌++◌, ℕ, ◌+◌, ◌-◌, ◌*◌, eqb, ltb, leb, length}
use Rattle.meaning.specs.List.{table, padded, overwrite}
use Rattle.meaning.specs.Field.{is_modulus, inverse}
use Rattle.meaning.specs.Matrix.{Matrix, size, apply, entry_count, multiplied}
use Rattle.meaning.specs.Recurrence.{degree, generator}
use Rattle.meaning.specs.Solver.{applications, billed, solve, nothing_left, takes, is_null}
use Rattle.meaning.specs.ThirdCondition.{ThirdCondition, SameAnswer}
use Rattle.meaning.specs.Text.{Document, document, in_form, System, system, write}
use Rattle.meaning.specs.Answer.{answer_text, refused_text}
use Rattle.meaning.specs.Refusal.{Check, check, first, unless_refused, within, elements, scaled_checks, matrix_checks, words_taken, window_taken, document_checks}

-- ---- the field

unfoldable pub field_refusal : ℕ → ℕ
field_refusal p = first (check 3 (not (is_modulus p)) ∷ [])

unfoldable pub operation_refusal : ℕ → ℕ → ℕ → ℕ
operation_refusal p a b = first (check 3 (not (is_modulus p)) ∷ check 9 (not (ltb a p && ltb b p)) ∷ [])

-- the answer of `plus`, `minus` or `times`
abbrev pub operation_answer : (ℕ → ℕ → ℕ → ℕ) → ℕ → ℕ → ℕ → ℕ
operation_answer f p a b = unless_refused (operation_refusal p a b) (f p a b) 0

unfoldable pub inverse_refusal : ℕ → ℕ → ℕ
inverse_refusal p a = first (check 3 (not (is_modulus p)) ∷ check 9 (not (ltb a p)) ∷ check 12 (eqb a 0) ∷ [])

abbrev pub inverse_answer : ℕ → ℕ → ℕ
inverse_answer p a = unless_refused (inverse_refusal p a) (inverse p a) 0

-- ---- product, transposed product, polynomial of a matrix

unfoldable pub product_refusal : ℕ → Matrix → List ℕ → List ℕ → ℕ
product_refusal p A v out =
    first
    (matrix_checks p A
    ++ (check 8 (not (eqb (length v) (size A)))
    ∷ check 9 (not (elements p v))
    ∷ check 11 (not (eqb (length out) (size A)))
    ∷ []))

-- the slice after `product` or `transposed`
abbrev pub product_after : (ℕ → Matrix → List ℕ → List ℕ) → ℕ → Matrix → List ℕ → List ℕ → List ℕ
product_after f p A v out = unless_refused (product_refusal p A v out) (f p A v) out

-- .. and what both answer: one product
abbrev pub product_count : ℕ → Matrix → List ℕ → List ℕ → ℕ
product_count p A v out = unless_refused (product_refusal p A v out) (multiplied 1 A) 0

-- request (iii), of an accepted matrix: a product multiplies its entries, k products k times as many; proved with the checks
abbrev pub EveryProduct : Type 0
EveryProduct = (p : ℕ) (A : Matrix) → first (matrix_checks p A) ≡ 0 → (k : ℕ) → multiplied k A ≡ k * entry_count A

unfoldable pub apply_refusal : ℕ → Matrix → List ℕ → List ℕ → List ℕ → List ℕ → ℕ
apply_refusal p A g v out work =
    first
    (matrix_checks p A
    ++ (check 8 (not (within 1 (size A + 1) (length g) && eqb (length v) (size A)))
    ∷ check 9 (not (elements p g && elements p v))
    ∷ check 11 (not (eqb (length out) (size A) && leb (2 * size A) (length work)))
    ∷ []))

abbrev pub apply_after : ℕ → Matrix → List ℕ → List ℕ → List ℕ → List ℕ → List ℕ
apply_after p A g v out work = unless_refused (apply_refusal p A g v out work) (apply p A g v) out

-- "k coefficients make k − 1 products"
abbrev pub apply_count : ℕ → Matrix → List ℕ → List ℕ → List ℕ → List ℕ → ℕ
apply_count p A g v out work = unless_refused (apply_refusal p A g v out work) (multiplied (length g - 1) A) 0

-- ---- the shortest recurrence

unfoldable pub recurrence_refusal : ℕ → List ℕ → List ℕ → List ℕ → ℕ
recurrence_refusal p s polynomial work =
    first
    (check 3 (not (is_modulus p))
    ∷ check 8 (not (leb (length s) 8192))
    ∷ check 9 (not (elements p s))
    ∷ check 11 (not (eqb (length polynomial) (length s + 1) && leb (4 * length s + 8) (length work)))
    ∷ [])

abbrev pub recurrence_answer : ℕ → List ℕ → List ℕ → List ℕ → ℕ
recurrence_answer p s polynomial work = unless_refused (recurrence_refusal p s polynomial work) (degree p s) 0

abbrev pub recurrence_after : ℕ → List ℕ → List ℕ → List ℕ → List ℕ
recurrence_after p s polynomial work =
    unless_refused (recurrence_refusal p s polynomial work) (padded (length s + 1) (generator p s)) polynomial

-- ---- the solver

-- "a system is p, A and b, accepted if none of the checks below turns one of these down"; request (vi): "a system now holds n scales"
unfoldable pub system_checks : ℕ → Matrix → List ℕ → List ℕ → List Check
system_checks p A X b =
    scaled_checks p A X ++ (check 8 (not (eqb (length b) (size A))) ∷ check 9 (not (elements p b)) ∷ [])

-- the checks that a run's system, words and window pass; "13, a window above 64, after check 10"
unfoldable pub run_checks : ℕ → Matrix → List ℕ → List ℕ → List ℕ → ℕ → List Check
run_checks p A X b words w =
    system_checks p A X b ++ (check 10 (not (words_taken (size A) words)) ∷ check 13 (not (window_taken w)) ∷ [])

unfoldable pub solver_refusal : ℕ → Matrix → List ℕ → List ℕ → List ℕ → ℕ → List ℕ → List ℕ → List ℕ → ℕ
solver_refusal p A X b words w vector polynomial work =
    first
    (run_checks p A X b words w
    ++ (check 11
    (not (eqb (length vector) (size A) && eqb (length polynomial) (size A + 1) && leb (16 * size A + 16) (length work)))
    ∷ []))

abbrev pub vector_after : ℕ → Matrix → List ℕ → List ℕ → List ℕ → ℕ → List ℕ → List ℕ → List ℕ → List ℕ
vector_after p A X b words w vector polynomial work =
    unless_refused (solver_refusal p A X b words w vector polynomial work) (solve p A X b words w).vector vector

abbrev pub polynomial_after : ℕ → Matrix → List ℕ → List ℕ → List ℕ → ℕ → List ℕ → List ℕ → List ℕ → List ℕ
polynomial_after p A X b words w vector polynomial work =
    unless_refused (solver_refusal p A X b words w vector polynomial work)
    (padded (size A + 1) (solve p A X b words w).polynomial)
    polynomial

-- request (i); no length of the bill is a reason to refuse
abbrev pub bill_after : ℕ → Matrix → List ℕ → List ℕ → List ℕ → ℕ → List ℕ → List ℕ → List ℕ → List ℕ → List ℕ
bill_after p A X b words w vector polynomial work bill =
    unless_refused (solver_refusal p A X b words w vector polynomial work) (billed bill (solve p A X b words w).passes) bill

-- the third condition of every run, and of every two runs on one system, whatever their words and windows; proved with the solver's run
abbrev pub EveryRun : Type 0
EveryRun =
    (p : ℕ) (A : Matrix) (X b words : List ℕ) (w : ℕ) → first (run_checks p A X b words w) ≡ 0 → ThirdCondition p A X b words w (solve p A X b words w)

abbrev pub EveryTwoRuns : Type 0
EveryTwoRuns =
    (p : ℕ) (A : Matrix) (X b words words' : List ℕ) (w w' : ℕ) → first (run_checks p A X b words w) ≡ 0 → first (run_checks p A X b words' w') ≡ 0
    → SameAnswer (solve p A X b words w) (solve p A X b words' w')

-- request (vi): "n scales, all 1 if not given": a run with n ones ends as one without scales
abbrev pub EveryPlainRun : Type 0
EveryPlainRun = (p : ℕ) (A : Matrix) (b words : List ℕ) (w : ℕ) → solve p A (table (size A) (λ j. 1)) b words w ≡ solve p A [] b words w

-- request (iii): "equal to applications × entries"
abbrev pub EveryRunByEntry : Type 0
EveryRunByEntry =
    (p : ℕ) (A : Matrix) (X b words : List ℕ) (w : ℕ) → first (run_checks p A X b words w) ≡ 0
    → (solve p A X b words w).multiplied ≡ applications (solve p A X b words w) * entry_count A

-- request (ii): what every run on size 0 ends with
abbrev pub EveryEmptyRun : Type 0
EveryEmptyRun =
    (p : ℕ) (A : Matrix) (X b words : List ℕ) (w : ℕ) → first (run_checks p A X b words w) ≡ 0 → size A ≡ 0 → solve p A X b words w ≡ nothing_left

-- ---- the two checks of offered answers

unfoldable pub takes_refusal : ℕ → Matrix → List ℕ → List ℕ → ℕ
takes_refusal p A x b =
    first
    (matrix_checks p A
    ++ (check 8 (not (eqb (length x) (size A) && eqb (length b) (size A)))
    ∷ check 9 (not (elements p x && elements p b))
    ∷ []))

abbrev pub takes_answer : ℕ → Matrix → List ℕ → List ℕ → Bool
takes_answer p A x b = unless_refused (takes_refusal p A x b) (takes p A x b) false

-- "an offered-answer check makes one" product, whatever the vector is
abbrev pub takes_count : ℕ → Matrix → List ℕ → List ℕ → ℕ
takes_count p A x b = unless_refused (takes_refusal p A x b) (multiplied 1 A) 0

unfoldable pub is_null_refusal : ℕ → Matrix → List ℕ → ℕ
is_null_refusal p A w = first (system_checks p A [] w)

abbrev pub is_null_answer : ℕ → Matrix → List ℕ → Bool
is_null_answer p A w = unless_refused (is_null_refusal p A w) (is_null p A w) false

abbrev pub is_null_count : ℕ → Matrix → List ℕ → ℕ
is_null_count p A w = unless_refused (is_null_refusal p A w) (multiplied 1 A) 0

-- ---- system text

-- 2: "the text exceeds 2,097,152 bytes or breaks the line forms or their order of letters"; then 3 to 7
unfoldable pub text_checks : List ℕ → List Check
text_checks text =
    check 2 (not (leb (length text) 2097152 && in_form text)) ∷ document_checks (document text)

unfoldable pub reader_refusal : List ℕ → List ℕ → List ℕ → List ℕ → List ℕ → List ℕ → ℕ
reader_refusal text starts columns values scales right =
    let d = document text in
    first
    (text_checks text
    ++ (check 11
    (not
    (leb (d.size + 1) (length starts) && leb d.count (length columns) && leb d.count (length values)
    && leb d.size (length scales) && leb d.size (length right)))
    ∷ []))

-- what the reader answers: p, n and the entry count
abbrev pub reader_answer : (Document → ℕ) → List ℕ → List ℕ → List ℕ → List ℕ → List ℕ → List ℕ → ℕ
reader_answer f text starts columns values scales right =
    unless_refused (reader_refusal text starts columns values scales right) (f (document text)) 0

-- "the reader fills leading parts of lent slices, leaving the rest": the slice that holds `old`, filled with what f takes from the system
abbrev pub reader_after : (System → List ℕ) → List ℕ → List ℕ → List ℕ → List ℕ → List ℕ → List ℕ → List ℕ → List ℕ
reader_after f old text starts columns values scales right =
    unless_refused (reader_refusal text starts columns values scales right) (overwrite (f (system (document text))) old) old

unfoldable pub writer_refusal : ℕ → Matrix → List ℕ → List ℕ → List ℕ → ℕ
writer_refusal p A X b out = first (system_checks p A X b ++ (check 11 (not (leb (length (write p A X b)) (length out))) ∷ []))

abbrev pub writer_answer : ℕ → Matrix → List ℕ → List ℕ → List ℕ → ℕ
writer_answer p A X b out = unless_refused (writer_refusal p A X b out) (length (write p A X b)) 0

abbrev pub writer_after : ℕ → Matrix → List ℕ → List ℕ → List ℕ → List ℕ
writer_after p A X b out = unless_refused (writer_refusal p A X b out) (overwrite (write p A X b) out) out

-- ---- the text call and the program

-- request (vi): "check 1 now allows 26,624 bytes"; "it takes n up to 128 and 1,024 entries"; request (i): "the answer slice now needs 7,168 bytes": room is that slice's length
unfoldable pub text_refusal : List ℕ → ℕ → ℕ
text_refusal text room =
    let d = document text in
    first
    (check 1 (not (leb (length text) 26624))
    ∷ text_checks text
    ++ (check 11 (not (leb d.size 128 && leb d.count 1024 && leb 7168 room)) ∷ []))

-- "system text in, answer text out .. uses no random words"; request (v): w = 0 is "the text call's"
unfoldable pub solved_text : List ℕ → List ℕ
solved_text text =
    let s = system (document text) in
    answer_text (solve s.modulus s.matrix s.scales s.right [] 0)

-- "the answer's length .. or the refusal's number"
abbrev pub text_answer : List ℕ → ℕ → ℕ
text_answer text room = unless_refused (text_refusal text room) (length (solved_text text)) (text_refusal text room)

abbrev pub text_after : List ℕ → List ℕ → List ℕ
text_after text answer = unless_refused (text_refusal text (length answer)) (overwrite (solved_text text) answer) answer

-- "the program reads standard input and prints that text, or `refused`, number"; it lends the text call as much room as that asks for
unfoldable pub program_output : List ℕ → List ℕ
program_output text = unless_refused (text_refusal text 7168) (solved_text text) (refused_text (text_refusal text 7168))
