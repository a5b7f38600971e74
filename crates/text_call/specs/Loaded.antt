-- A system that the text call takes, from the reader's arrays to the answer.
--     outcome_of, run_text           the outcome of a run without words, and the answer's text
--     Taken                          a system of at most 128 rows that passes the checks
--     Loaded                         .. in the leading parts of the arrays
--     read_loaded                    what the arrays hold after the reader took a text
--     read_modulus_law, refused_number      the modulus that the reader answers; where it refuses, its number is from 1
--     read_outcome                   the answer's text is the text call's
--     verdict_text, degree_of, passes_of      the answer's text, the degree and the passes, of what the solver says
--     verdict_solved, verdict_singular      .. by its cases
--     said_answer, said_low          .. where it says an outcome: answer_text; at most n
--     taken_starts, taken_small      the number of starts, and the run's bounds
--     taken_passed, never_refused    the solver refuses nothing
--     taken_solved                   .. and what it says and leaves makes the answer's text
use Rattle.std.specs.Prelude.{Ok, Err, ◌≡◌, Bool, true, not, ◌&&◌, ℕ, zero, suc, ◌+◌, ◌-◌, ◌*◌, ◌≤◌, ◌<◌, take, drop}
use Rattle.std.proofs.Math.Path.{sym, ap, ap₂}
use Rattle.std.proofs.Common.{subst, ◌∙◌, arith, length-take, take_at, leb-true, le-leb, eq-eqb}
use mathlib.Core.List.{List, [], ◌∷◌, ◌++◌}
use Rattle.std.proofs.Math.Dec.{eqb, leb}
use Rattle.std.proofs.Math.ListN.{length, length-map}
use Rattle.meaning.specs.List.{at, padded, overwrite, bytes, select}
use Rattle.meaning.specs.Matrix.{Matrix, matrix, size}
use Rattle.meaning.specs.Text.{Document, document, system, row, placed, decimal, line}
use Rattle.meaning.specs.Solver.{Outcome, pass_count, applications, billed, solve}
use Rattle.meaning.specs.Refusal.{check, first, unless_refused}
use Rattle.meaning.specs.Answer.{pass_lines, answer_text}
use Rattle.meaning.specs.Calls.{system_checks, run_checks, text_checks, solver_refusal, reader_refusal, reader_answer, reader_after, solved_text}
use Rattle.laws.specs.Bool.{and_right, and_both}
use Rattle.laws.specs.List.{length_table, get_or_table}
use Rattle.laws.specs.Refusal.{first_nil, first_passed, first_pass, numbered_run, numbered_text, first_append_none, first_append_zero, unless_refused_none}
use Rattle.text_laws.specs.Accepted.{document_accepted, modulus_low, system_accepted}
use Rattle.text_laws.specs.RoundTrip.{system_of, read_and_written, text_accepted}
use Rattle.refusal.specs.declared.Refusal.{Refusal}
use Rattle.solver.specs.declared.Counts.{Counts}
use Rattle.solver.specs.declared.Verdict.{Verdict}
use Rattle.solver.specs.declared.Verdict.TheVariants.{Solved, Singular}
use Rattle.solver.specs.Bill.{billed_all}
use Rattle.solver.specs.Verdict.{Says, Solves}
use Rattle.text_call.specs.Bounds.{Small, run_small}
use Rattle.text_call.specs.Checks.{run_checked}
use Rattle.text_call.specs.AnswerText.{element_lines, element_lines_ext, bill_lines, bill_lines_law, text_of, answer_solved, answer_singular}

abbrev pub outcome_of : ℕ → Matrix → List ℕ → List ℕ → Outcome
outcome_of p A X b = solve p A X b [] 0

-- the answer's text of its run
abbrev pub run_text : ℕ → Matrix → List ℕ → List ℕ → List ℕ
run_text p A X b = answer_text (outcome_of p A X b)

pub record Taken (p : ℕ) (A : Matrix) (X b : List ℕ) : Type 0 where
  pub rows : size A ≤ 128
  pub checked : first (system_checks p A X b) ≡ 0

-- the arrays hold a system of n rows and `count` entries
pub record Loaded (p n count : ℕ) (starts columns values scales right : List ℕ) : Type 0 where
  pub rows : n ≤ 128
  pub in_starts : n + 1 ≤ length starts
  pub in_columns : count ≤ length columns
  pub in_values : count ≤ length values
  pub in_scales : n ≤ length scales
  pub in_right : n ≤ length right
  pub taken : Taken p (matrix (take (n + 1) starts) (take count columns) (take count values)) (take n scales) (take n right)

-- a part of so many elements is within its list
long : (k : ℕ) (l m : List ℕ) → take k l ≡ m → length m ≤ length l
long k l m q = omega (arith, ap length q, length-take k l)

-- ---- what the reader leaves

module _ (d : Document) where
  length_starts : length (system d).matrix.starts ≡ d.size + 1
  unfolding system
  length_starts = length_table (d.size + 1) (λ i. length (select (λ e. leb (row e) i) d.entries))

  length_columns : length (system d).matrix.columns ≡ length d.entries
  unfolding system
  length_columns = length-map d.entries (λ e. at e 1 - 1)

  length_values : length (system d).matrix.values ≡ length d.entries
  unfolding system
  length_values = length-map d.entries (λ e. at e 2)

  length_scales : length (system d).scales ≡ d.size
  unfolding system placed
  length_scales = length_table d.size _

  length_right : length (system d).right ≡ d.size
  unfolding system placed
  length_right = length_table d.size _

module _ (text starts columns values scales right : List ℕ) (e : reader_refusal text starts columns values scales right ≡ 0) where
  abbrev d : Document
  d = document text

  abbrev A : Matrix
  A = (system_of text).matrix

  abbrev enough : Bool
  enough = leb (d.size + 1) (length starts) && leb d.count (length columns) && leb d.count (length values) && leb d.size (length scales) && leb d.size (length right)

  reads : first (text_checks text) ≡ 0
  unfolding reader_refusal
  reads = (first_append_zero (text_checks text) (check 11 (not enough) ∷ []) (numbered_text text) e).0

  has_room : enough ≡ true
  unfolding reader_refusal
  has_room = (first_passed 11 enough [] (omega arith) (first_append_zero (text_checks text) (check 11 (not enough) ∷ []) (numbered_text text) e).1).0

  -- a leading part that was filled
  filled : (l old : List ℕ) (n : ℕ) → length l ≡ n → take n (unless_refused (reader_refusal text starts columns values scales right) (overwrite l old) old) ≡ l
  filled l old n h =
      ap (take n) (unless_refused_none (reader_refusal text starts columns values scales right) (overwrite l old) old e) ∙ take_at l (drop (length l) old) n h

  -- p is not 0
  pub read_modulus_law : 1 ≤ reader_answer (λ d. d.modulus) text starts columns values scales right
  read_modulus_law =
      omega (
        arith,
        unless_refused_none (reader_refusal text starts columns values scales right) d.modulus 0 e,
        modulus_low d.modulus (document_accepted d (text_accepted text reads).2).prime,
      )

  counted : d.count ≡ length d.entries
  counted = (document_accepted d (text_accepted text reads).2).counted

  module _ (p n count : ℕ) (starts' columns' values' scales' right' : List ℕ)
      (ep : p ≡ reader_answer (λ d. d.modulus) text starts columns values scales right)
      (en : n ≡ reader_answer (λ d. d.size) text starts columns values scales right)
      (ek : count ≡ reader_answer (λ d. d.count) text starts columns values scales right)
      (es : starts' ≡ reader_after (λ s. s.matrix.starts) starts text starts columns values scales right)
      (ec : columns' ≡ reader_after (λ s. s.matrix.columns) columns text starts columns values scales right)
      (ev : values' ≡ reader_after (λ s. s.matrix.values) values text starts columns values scales right)
      (ex : scales' ≡ reader_after (λ s. s.scales) scales text starts columns values scales right)
      (er : right' ≡ reader_after (λ s. s.right) right text starts columns values scales right)
    where
      modulus : p ≡ d.modulus
      modulus = ep ∙ unless_refused_none (reader_refusal text starts columns values scales right) d.modulus 0 e

      order : n ≡ d.size
      order = en ∙ unless_refused_none (reader_refusal text starts columns values scales right) d.size 0 e

      entries : count ≡ d.count
      entries = ek ∙ unless_refused_none (reader_refusal text starts columns values scales right) d.count 0 e

      same_starts : take (n + 1) starts' ≡ A.starts
      same_starts = ap (take (n + 1)) es ∙ filled A.starts starts (n + 1) (omega (arith, length_starts d, order))

      same_columns : take count columns' ≡ A.columns
      same_columns = ap (take count) ec ∙ filled A.columns columns count (omega (arith, length_columns d, entries, counted))

      same_values : take count values' ≡ A.values
      same_values = ap (take count) ev ∙ filled A.values values count (omega (arith, length_values d, entries, counted))

      same_scales : take n scales' ≡ (system_of text).scales
      same_scales = ap (take n) ex ∙ filled (system_of text).scales scales n (omega (arith, length_scales d, order))

      same_right : take n right' ≡ (system_of text).right
      same_right = ap (take n) er ∙ filled (system_of text).right right n (omega (arith, length_right d, order))

      read_rows : length right ≡ 128 → n ≤ 128
      read_rows er = omega (arith, order, leb-true d.size (length right) (and_right (leb (d.size + 1) (length starts) && leb d.count (length columns) && leb d.count (length values) && leb d.size (length scales)) (leb d.size (length right)) has_room))

      same_matrix : matrix (take (n + 1) starts') (take count columns') (take count values') ≡ A
      same_matrix =
          ap (λ s. matrix s (take count columns') (take count values')) same_starts
          ∙ ap₂ (λ c v. matrix A.starts c v) same_columns same_values

      same_modulus : p ≡ (system_of text).modulus
      unfolding system
      same_modulus = modulus

      pub read_loaded : length right ≡ 128 → Loaded p n count starts' columns' values' scales' right'
      read_loaded er =
          record {
            rows = read_rows er;
            in_starts = omega (arith, long (n + 1) starts' A.starts same_starts, length_starts d, order);
            in_columns = omega (arith, long count columns' A.columns same_columns, length_columns d, counted, entries);
            in_values = omega (arith, long count values' A.values same_values, length_values d, counted, entries);
            in_scales = omega (arith, long n scales' (system_of text).scales same_scales, length_scales d, order);
            in_right = omega (arith, long n right' (system_of text).right same_right, length_right d, order);
            taken =
                record {
                  rows = omega (arith, ap length same_starts, length_starts d, order, read_rows er);
                  checked =
                      ap₂ (λ q M. first (system_checks q M (take n scales') (take n right'))) same_modulus same_matrix
                      ∙ ap₂ (λ X b. first (system_checks (system_of text).modulus A X b)) same_scales same_right
                      ∙ (read_and_written text reads).accepted;
                };
          }

      pub read_outcome :
          run_text p (matrix (take (n + 1) starts') (take count columns') (take count values')) (take n scales') (take n right') ≡ solved_text text
      unfolding solved_text
      read_outcome =
          ap₂ (λ q M. answer_text (solve q M (take n scales') (take n right') [] 0)) same_modulus same_matrix
          ∙ ap₂ (λ X b. answer_text (solve (system_of text).modulus A X b [] 0)) same_scales same_right

pub refused_number : (text starts columns values scales right : List ℕ) (number : ℕ) → number ≡ reader_refusal text starts columns values scales right
    → 0 ≡ reader_answer (λ d. d.modulus) text starts columns values scales right → 1 ≤ number
refused_number text starts columns values scales right zero e z = absurd (omega (arith, read_modulus_law text starts columns values scales right (sym e)))
refused_number text starts columns values scales right (suc k) e z = omega arith

-- ---- the answer, of what the solver says

unfoldable pub verdict_text : Verdict → List ℕ → List ℕ → List ℕ → List ℕ
verdict_text (Solved c) B polynomial vector = text_of (bytes "answer\tsolved") (bytes "x") c.degree c.passes c.applications c.multiplied B polynomial vector
verdict_text (Singular c) B polynomial vector = text_of (bytes "answer\tsingular") (bytes "w") c.degree c.passes c.applications c.multiplied B polynomial vector

abbrev pub degree_of : Verdict → ℕ
degree_of (Solved c) = c.degree
degree_of (Singular c) = c.degree

abbrev pub passes_of : Verdict → ℕ
passes_of (Solved c) = c.passes
passes_of (Singular c) = c.passes

module _ (B polynomial vector : List ℕ) where
  pub verdict_solved : (r : Verdict) (c : Counts) → r ≡ Solved c
      → text_of (bytes "answer\tsolved") (bytes "x") c.degree c.passes c.applications c.multiplied B polynomial vector ≡ verdict_text r B polynomial vector
  unfolding verdict_text
  verdict_solved r c e = ap (λ v. verdict_text v B polynomial vector) (sym e)

  pub verdict_singular : (r : Verdict) (c : Counts) → r ≡ Singular c
      → text_of (bytes "answer\tsingular") (bytes "w") c.degree c.passes c.applications c.multiplied B polynomial vector ≡ verdict_text r B polynomial vector
  unfolding verdict_text
  verdict_singular r c e = ap (λ v. verdict_text v B polynomial vector) (sym e)

module _ (p n : ℕ) (o : Outcome) (s : Small p n o) where
  module _ (B : List ℕ) (h : bill_lines B (pass_count o) ≡ pass_lines 1 o.passes) where
    -- the polynomial's zeros after F are not written
    same_text : (head w : List ℕ) (degree passed applied m : ℕ) → degree ≡ o.degree → passed ≡ pass_count o → applied ≡ applications o → m ≡ o.multiplied
        → text_of head w degree passed applied m B (padded (n + 1) o.polynomial) o.vector
        ≡ text_of head w o.degree (pass_count o) (applications o) o.multiplied B o.polynomial o.vector
    unfolding text_of
    same_text head w degree passed applied m ed eq ea em =
        ap₂ (λ D k. text_of head w D passed applied k B (padded (n + 1) o.polynomial) o.vector) ed em
        ∙ ap₂ (λ q a. text_of head w o.degree q a o.multiplied B (padded (n + 1) o.polynomial) o.vector) eq ea
        ∙ ap (λ f. line (head ∷ decimal o.degree ∷ decimal (pass_count o) ∷ decimal (applications o) ∷ decimal o.multiplied ∷ []) ++ bill_lines B (pass_count o) ++ line (bytes "close" ∷ decimal (o.degree - 1) ∷ []) ++ f ++ element_lines w 1 o.vector (length o.vector) ++ line (bytes "end" ∷ []))
        (element_lines_ext (bytes "f") 0 (padded (n + 1) o.polynomial) o.polynomial (o.degree + 1)
        (λ i l. get_or_table (n + 1) (λ i. at o.polynomial i) i 0 (omega (arith, s.degree_low))))

    pub said_answer : (r : Verdict) → Says (Ok r) 0 o → verdict_text r B (padded (n + 1) o.polynomial) o.vector ≡ answer_text o
    unfolding verdict_text
    said_answer (Solved c) t =
        same_text (bytes "answer\tsolved") (bytes "x") c.degree c.passes c.applications c.multiplied t.2.degree t.2.passes t.2.applications t.2.multiplied
        ∙ sym (answer_solved o B h t.1)
    said_answer (Singular c) t =
        same_text (bytes "answer\tsingular") (bytes "w") c.degree c.passes c.applications c.multiplied t.2.degree t.2.passes t.2.applications t.2.multiplied
        ∙ sym (answer_singular o B h t.1)

  pub said_low : (r : Verdict) → Says (Ok r) 0 o → (degree_of r ≤ n) × (passes_of r ≤ n)
  said_low (Solved c) t = (omega (arith, t.2.degree, s.degree_low), omega (arith, t.2.passes, s.passes_few))
  said_low (Singular c) t = (omega (arith, t.2.degree, s.degree_low), omega (arith, t.2.passes, s.passes_few))

-- ---- a run on a system that is taken

module _ (p : ℕ) (A : Matrix) (X b : List ℕ) (taken : Taken p A X b) where
  abbrev o : Outcome
  o = outcome_of p A X b

  pub taken_starts : length A.starts ≡ size A + 1
  taken_starts = (system_accepted p A X b taken.checked).start_count

  pub taken_small : Small p (size A) o
  taken_small = run_small p A X b (run_checked p A X b taken.checked) taken.rows

  module _ (v f w : List ℕ) (lv : length v ≡ size A) (lf : length f ≡ size A + 1) (lw : length w ≡ 2064) where
    -- nothing is refused where the vector, the polynomial and the work slice are as long as stated
    taken_passed : solver_refusal p A X b [] 0 v f w ≡ 0
    unfolding solver_refusal
    taken_passed =
        first_append_none (run_checks p A X b [] 0)
        (check 11 (not (eqb (length v) (size A) && eqb (length f) (size A + 1) && leb (16 * size A + 16) (length w))) ∷ [])
        (numbered_run p A X b [] 0)
        (run_checked p A X b taken.checked)
        ∙ first_pass 11 (eqb (length v) (size A) && eqb (length f) (size A + 1) && leb (16 * size A + 16) (length w)) []
        (and_both (and_both (eq-eqb (length v) (size A) lv) (eq-eqb (length f) (size A + 1) lf)) (le-leb (16 * size A + 16) (length w) (omega (arith, lw, taken.rows))))
        first_nil

    pub never_refused : {B v' f' B' w' : List ℕ} {r : Refusal} → Solves p A X b [] 0 v f B w (Err r) v' f' B' w' → ⊥
    never_refused h = h.says.1 (sym h.says.0 ∙ taken_passed)

    pub taken_solved : {B v' f' B' w' : List ℕ} {r : Verdict} → length B ≡ 384 → length B' ≡ length B → Solves p A X b [] 0 v f B w (Ok r) v' f' B' w'
        → (degree_of r < length f') × (3 * passes_of r ≤ length B') × (verdict_text r B' f' v' ≡ run_text p A X b)
    taken_solved {B} {v'} {f'} {B'} {w'} {r} lb same h =
        let says = subst (λ z. Says (Ok r) z o) taken_passed h.says in
        let low = said_low p (size A) o taken_small r says in
        let room : 3 * pass_count o ≤ length B = omega (arith, taken_small.passes_few, taken.rows, lb) in
        let refusal = solver_refusal p A X b [] 0 v f w in
        let vector_is = h.leaves.vector_after_law ∙ unless_refused_none refusal o.vector v taken_passed in
        let polynomial_is = h.leaves.polynomial_after_law ∙ unless_refused_none refusal (padded (size A + 1) o.polynomial) f taken_passed in
        let bill_is =
        ap (λ x. bill_lines x (pass_count o))
        (h.leaves.bill_after_law ∙ unless_refused_none refusal (billed B o.passes) B taken_passed ∙ billed_all B o.passes room)
        ∙ bill_lines_law o.passes (drop (3 * pass_count o) B) in (
          omega (arith, low.0, ap length polynomial_is, length_table (size A + 1) (λ i. at o.polynomial i)),
          omega (arith, low.1, lb, same, taken.rows),
          ap₂ (λ g y. verdict_text r B' g y) polynomial_is vector_is ∙ said_answer p (size A) o taken_small B' bill_is r says,
        )
