-- Document 01, "Where a system stops": the checks, each with its number, and what a refusal leaves.
--     Check            a number, and whether it turns the input down
--     first            the number of the first check that turns the input down, 0 if none does
--     unless_refused    what a call gives or leaves: the first if nothing was refused, the second if something was
--     elements         every element is below p
--     rows_taken n      4 for a size, 0 to 4,096
--     scaled_checks     3 to 7 for a field, a matrix and its scales
--     matrix_checks     .. and for a field and a matrix alone
--     document_checks   3 to 7 for what a text says
use Rattle.std.specs.Prelude.{Bool, not, cond, ◌&&◌, ◌||◌, List, [], ◌∷◌, ℕ, zero, suc, ◌+◌, ◌*◌, ◌%◌, eqb, ltb, leb, length}
use Rattle.meaning.specs.List.{at, all, all_from, every, chain}
use Rattle.meaning.specs.Field.{is_modulus}
use Rattle.meaning.specs.Matrix.{Matrix, size}
use Rattle.meaning.specs.Text.{Document, row}

pub record Check : Type 0 where
  pub number : ℕ
  pub turns_down : Bool

abbrev pub check : ℕ → Bool → Check
check k test = record { number = k; turns_down = test }

unfoldable pub first : List Check → ℕ
first [] = 0
first (c ∷ cs) = cond c.turns_down c.number (first cs)

abbrev pub unless_refused : {A : Type 0} → ℕ → A → A → A
unless_refused k new old = cond (eqb k 0) new old

-- from a to b, both included
abbrev pub within : ℕ → ℕ → ℕ → Bool
within a b x = leb a x && leb x b

unfoldable pub elements : ℕ → List ℕ → Bool
elements p v = every (λ a. ltb a p) v

-- 4, with request (ii): "accepts 0 to 4,096 and still refuses empty starts"
abbrev pub rows_taken : ℕ → Bool
rows_taken n = leb n 4096

unfoldable pub size_taken : Matrix → Bool
size_taken A = not (eqb (length A.starts) 0) && rows_taken (size A)

-- 5: "starts don't begin at 0, fall, or don't end at the entry count; columns and values differ in length; there are over 65,536 entries"
unfoldable pub starts_taken : Matrix → Bool
starts_taken A =
    eqb (at A.starts 0) 0 && all (size A) (λ i. leb (at A.starts i) (at A.starts (i + 1)))
    && eqb (at A.starts (size A)) (length A.columns) && eqb (length A.columns) (length A.values)
    && leb (length A.columns) 65536

-- 6: the columns of a row are below n and rise strictly
unfoldable pub columns_taken : Matrix → Bool
columns_taken A =
    all (size A)
    (λ i. let end = at A.starts (i + 1) in
    all_from (at A.starts i) end
    (λ k. ltb (at A.columns k) (size A) && (leb end (k + 1) || ltb (at A.columns k) (at A.columns (k + 1)))))

-- 7: "an entry or `b` line's value is 0 or at least p"
abbrev pub value_taken : ℕ → ℕ → Bool
value_taken p a = leb 1 a && ltb a p

-- 5, request (vi): of `s` lines or scales there are "all n or none"
abbrev pub scale_count_taken : ℕ → ℕ → Bool
scale_count_taken n k = eqb k 0 || eqb k n

-- request (vi): "check 5 also covers the number of .. scales, .. 7 the values"
unfoldable pub scaled_checks : ℕ → Matrix → List ℕ → List Check
scaled_checks p A X =
    check 3 (not (is_modulus p))
    ∷ check 4 (not (size_taken A))
    ∷ check 5 (not (starts_taken A && scale_count_taken (size A) (length X)))
    ∷ check 6 (not (columns_taken A))
    ∷ check 7 (not (every (value_taken p) A.values && every (value_taken p) X))
    ∷ []

abbrev pub matrix_checks : ℕ → Matrix → List Check
matrix_checks p A = scaled_checks p A []

-- 10: "the words are not a multiple of n, or more than 64 × n"; request (ii): "for size 0 only empty words are taken"
unfoldable pub words_taken : ℕ → List ℕ → Bool
words_taken zero words = eqb (length words) 0
words_taken (suc m) words = let n = suc m in eqb (length words % n) 0 && leb (length words) (64 * n)

-- 13, request (v): "a window above 64"
abbrev pub window_taken : ℕ → Bool
window_taken w = leb w 64

-- 5 of a text: "there are over 65,536 entries; or the header's count isn't that of the `a` lines"; with request (vi) the number of `s` lines
unfoldable pub count_taken : Document → Bool
count_taken d =
    eqb d.count (length d.entries) && leb (length d.entries) 65536 && scale_count_taken d.size (length d.scales)

-- "`a` lines rise strictly by row, then column"
unfoldable pub before : List ℕ → List ℕ → Bool
before e f = ltb (row e) (row f) || (eqb (row e) (row f) && ltb (at e 1) (at f 1))

-- lines of a place and a value: the places are 1 to n and rise strictly
abbrev pub rows_rise : ℕ → List (List ℕ) → Bool
rows_rise n es = every (λ e. within 1 n (row e)) es && chain (λ e f. ltb (row e) (row f)) es

-- request (vi): "the reader gives 6 for a text with `s` lines whose values are all 1"
abbrev pub some_scale : List (List ℕ) → Bool
some_scale es = eqb (length es) 0 || not (every (λ e. eqb (at e 1) 1) es)

-- 6 of a text: "a row or column is out of range or out of order, `b` lines included"; with request (vi) the `s` lines too
unfoldable pub places_taken : Document → Bool
places_taken d =
    every (λ e. within 1 d.size (row e) && within 1 d.size (at e 1)) d.entries && chain before d.entries
    && (rows_rise d.size d.scales && some_scale d.scales)
    && rows_rise d.size d.elements

-- 7 of a text: "an entry or `b` line's value is 0 or at least p"; with request (vi) an `s` line's too
unfoldable pub values_taken : Document → Bool
values_taken d =
    every (λ e. value_taken d.modulus (at e 2)) d.entries && every (λ e. value_taken d.modulus (at e 1)) d.scales
    && every (λ e. value_taken d.modulus (at e 1)) d.elements

unfoldable pub document_checks : Document → List Check
document_checks d =
    check 3 (not (is_modulus d.modulus))
    ∷ check 4 (not (rows_taken d.size))
    ∷ check 5 (not (count_taken d))
    ∷ check 6 (not (places_taken d))
    ∷ check 7 (not (values_taken d))
    ∷ []
