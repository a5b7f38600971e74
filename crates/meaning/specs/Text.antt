-- Document 01, "System text".
--     decimal k        the numeral of k
--     is_numeral w      "decimal, at most 4,294,967,295, no leading zero except 0 itself"
--     line ws          "fields are parted by one tab, each line ends in byte 10"
--     parts c l        l cut at each byte c
--     Line             what a line says: its form and its numbers
--     line_fields text  the text cut into lines, and each of them into fields
--     lines text       what these lines say
--     in_form text      the forms of the lines and "their order of letters"
--     Document         what a text in form says
--     placed n none es  n places by lines of a place and a value; `none` where no line has the place
--     system d         the system of a document: its starts, columns, values, scales and b
--     write p A X b    the text of a system
-- with request (vi): "`s`, place, value lines between the `a` and the `b` lines, all n or none".
use Rattle.std.specs.Prelude.{Bool, false, not, cond, ◌&&◌, ◌||◌, List, [], ◌∷◌, ◌++◌, map, ℕ, zero, suc, ◌+◌, ◌-◌, ◌*◌, ◌/◌, ◌%◌, eqb, ltb, leb, get_or, length, drop, replicate}
use Rattle.meaning.specs.List.{at, table, every, equal, select, flat, bytes}
use Rattle.meaning.specs.Matrix.{Matrix, matrix, size}

-- the digits of k, at most as many as the first argument
unfoldable pub digits : ℕ → ℕ → List ℕ
digits zero k = []
digits (suc d) k =
    let higher = digits d (k / 10) in
    cond (ltb k 10) ((48 + k) ∷ []) (higher ++ ((48 + k % 10) ∷ []))

unfoldable pub decimal : ℕ → List ℕ
decimal k = digits (k + 1) k

unfoldable pub value_after : ℕ → List ℕ → ℕ
value_after k [] = k
value_after k (c ∷ w) = value_after (k * 10 + (c - 48)) w

abbrev pub value_of : List ℕ → ℕ
value_of w = value_after 0 w

abbrev pub is_digit : ℕ → Bool
is_digit c = leb 48 c && leb c 57

unfoldable pub is_numeral : List ℕ → Bool
is_numeral w =
    not (eqb (length w) 0) && every is_digit w && (eqb (length w) 1 || not (eqb (at w 0) 48)) && leb (value_of w) 4294967295

unfoldable pub line : List (List ℕ) → List ℕ
line [] = 10 ∷ []
line (w ∷ ws) = w ++ flat (map (λ x. 9 ∷ x) ws) ++ (10 ∷ [])

unfoldable pub on_first : ℕ → List (List ℕ) → List (List ℕ)
on_first x [] = (x ∷ []) ∷ []
on_first x (w ∷ ws) = (x ∷ w) ∷ ws

-- one part more than there are bytes c in l; the last may be empty
unfoldable pub parts : ℕ → List ℕ → List (List ℕ)
parts c [] = [] ∷ []
parts c (x ∷ l) =
    let later = parts c l in
    cond (eqb x c) ([] ∷ later) (on_first x later)

pub data Form : Type 0 where
  header entry scale element ending nothing broken : Form

pub record Line : Type 0 where
  pub form : Form
  pub numbers : List ℕ

-- a word and then k numerals
unfoldable pub has_form : List ℕ → ℕ → List (List ℕ) → Bool
has_form word k [] = false
has_form word k (w ∷ ws) = equal w word && eqb (length ws) k && every is_numeral ws

unfoldable pub form_of : List (List ℕ) → Form
form_of ws =
    cond (has_form (bytes "system") 3 ws) header
    (cond (has_form (bytes "a") 3 ws) entry
    (cond (has_form (bytes "s") 2 ws) scale
    (cond (has_form (bytes "b") 2 ws) element
    (cond (has_form (bytes "end") 0 ws) ending
    (cond (has_form [] 0 ws) nothing broken)))))

unfoldable pub line_of : List (List ℕ) → Line
line_of ws = record { form = form_of ws; numbers = map value_of (drop 1 ws) }

-- what stands after the last byte 10 is the last line: a text whose lines all end has `nothing` there
unfoldable pub line_fields : List ℕ → List (List (List ℕ))
line_fields text = map (parts 9) (parts 10 text)

unfoldable pub lines : List ℕ → List Line
lines text = map line_of (line_fields text)

abbrev pub rank : Form → ℕ
rank header = 0
rank entry = 1
rank scale = 2
rank element = 3
rank ending = 4
rank nothing = 5
rank broken = 6

abbrev pub is_of : Form → Line → Bool
is_of f l = eqb (rank l.form) (rank f)

-- the numbers of the lines of one form
unfoldable pub saying : Form → List Line → List (List ℕ)
saying f ls = map (λ l. l.numbers) (select (is_of f) ls)

-- one `system` line, the `a` lines, the `s` lines, the `b` lines, one `end` line, and nothing after it
unfoldable pub in_form : List ℕ → Bool
in_form text =
    let ls = lines text in
    equal (map (λ l. rank l.form) ls)
    (0
    ∷ replicate (length (saying entry ls)) 1 ++ replicate (length (saying scale ls)) 2 ++ replicate (length (saying element ls)) 3
    ++ (4 ∷ 5 ∷ []))

-- an entry is its row, column and value, a scale its place and value, an element of b its row and value, as in the text
pub record Document : Type 0 where
  pub modulus : ℕ
  pub size : ℕ
  pub count : ℕ
  pub entries : List (List ℕ)
  pub scales : List (List ℕ)
  pub elements : List (List ℕ)

unfoldable pub document : List ℕ → Document
document text =
    let ls = lines text in
    let head = get_or (saying header ls) 0 [] in
    record {
      modulus = at head 0;
      size = at head 1;
      count = at head 2;
      entries = saying entry ls;
      scales = saying scale ls;
      elements = saying element ls;
    }

abbrev pub row : List ℕ → ℕ
row e = at e 0

pub record System : Type 0 where
  pub modulus : ℕ
  pub matrix : Matrix
  pub scales : List ℕ
  pub right : List ℕ

unfoldable pub placed : ℕ → ℕ → List (List ℕ) → List ℕ
placed n none es = table n (λ i. at (get_or (select (λ e. eqb (row e) (i + 1)) es) 0 ((i + 1) ∷ none ∷ [])) 1)

-- start i is the number of entries in the rows before row i, which the text calls i + 1
unfoldable pub system : Document → System
system d =
    record {
      modulus = d.modulus;
      matrix =
          matrix
          (table (d.size + 1) (λ i. length (select (λ e. leb (row e) i) d.entries)))
          (map (λ e. at e 1 - 1) d.entries)
          (map (λ e. at e 2) d.entries);
      scales = placed d.size 1 d.scales;
      right = placed d.size 0 d.elements;
    }

-- the `a` lines of row i
unfoldable pub write_row : Matrix → ℕ → List ℕ
write_row A i =
    let from = at A.starts i in
    flat
    (table (at A.starts (i + 1) - from)
    (λ k. line (bytes "a" ∷ decimal (i + 1) ∷ decimal (at A.columns (from + k) + 1) ∷ decimal (at A.values (from + k)) ∷ [])))

-- the `s` lines: "exactly if some scale isn't 1"
unfoldable pub write_scales : ℕ → List ℕ → List ℕ
write_scales n X =
    cond (every (λ a. eqb a 1) X) [] (flat (table n (λ i. line (bytes "s" ∷ decimal (i + 1) ∷ decimal (at X i) ∷ []))))

unfoldable pub write_element : List ℕ → ℕ → List ℕ
write_element b i = cond (eqb (at b i) 0) [] (line (bytes "b" ∷ decimal (i + 1) ∷ decimal (at b i) ∷ []))

unfoldable pub write : ℕ → Matrix → List ℕ → List ℕ → List ℕ
write p A X b =
    line (bytes "system" ∷ decimal p ∷ decimal (size A) ∷ decimal (length A.columns) ∷ [])
    ++ flat (table (size A) (write_row A)) ++ write_scales (size A) X ++ flat (table (size A) (write_element b)) ++ line (bytes "end" ∷ [])
