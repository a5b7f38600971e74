-- Document 01, "System text", the answer's lines, with request (i)'s bill.
--     pass_lines k qs   `pass`, number from k, left, degree t, applications of that pass, a line for each pass
--     answer_text o     `answer`, kind, D, passes, applications, request (iii)'s entries; the `pass` lines from 1; `close`, D − 1 (0 if D = 0); `f`, power, coefficient for
--                      powers 0 to D; `x` or `w`, place from 1, element, for all places; `end`
--     refused_text k    what the program prints for a refusal: `refused`, number
--     total w i ls     the sum of the numbers in field i, counted from 0, of the lines that begin with the word w
--     AddsUp text      "the printed applications must equal the sum over these lines"
use Rattle.std.specs.Prelude.{◌≡◌, cond, List, [], ◌∷◌, ◌++◌, map, ℕ, ◌+◌, get_or, length}
use Rattle.meaning.specs.List.{at, table, equal, flat, bytes}
use Rattle.meaning.specs.Solver.{Pass, Kind, solved, singular, Outcome, pass_count, applications, charge, close_cost}
use Rattle.meaning.specs.Text.{decimal, value_of, line, line_fields}

abbrev pub kind_word : Kind → List ℕ
kind_word solved = bytes "solved"
kind_word singular = bytes "singular"

abbrev pub vector_word : Kind → List ℕ
vector_word solved = bytes "x"
vector_word singular = bytes "w"

unfoldable pub pass_lines : ℕ → List Pass → List ℕ
pass_lines k [] = []
pass_lines k (q ∷ qs) = line (bytes "pass" ∷ decimal k ∷ map decimal (charge q)) ++ pass_lines (k + 1) qs

unfoldable pub answer_text : Outcome → List ℕ
answer_text o =
    line
    (bytes "answer" ∷ kind_word o.kind ∷ decimal o.degree ∷ decimal (pass_count o) ∷ decimal (applications o) ∷ decimal o.multiplied ∷ [])
    ++ pass_lines 1 o.passes ++ line (bytes "close" ∷ decimal (close_cost o.degree) ∷ [])
    ++ flat (table (o.degree + 1) (λ i. line (bytes "f" ∷ decimal i ∷ decimal (at o.polynomial i) ∷ [])))
    ++ flat (table (length o.vector) (λ i. line (vector_word o.kind ∷ decimal (i + 1) ∷ decimal (at o.vector i) ∷ [])))
    ++ line (bytes "end" ∷ [])

unfoldable pub refused_text : ℕ → List ℕ
refused_text k = line (bytes "refused" ∷ decimal k ∷ [])

unfoldable pub total : List ℕ → ℕ → List (List (List ℕ)) → ℕ
total w i [] = 0
total w i (l ∷ ls) = cond (equal (get_or l 0 []) w) (value_of (get_or l i [])) 0 + total w i ls

abbrev pub AddsUp : List ℕ → Type 0
AddsUp text =
    let ls = line_fields text in
    total (bytes "answer") 4 ls ≡ total (bytes "pass") 4 ls + total (bytes "close") 1 ls
