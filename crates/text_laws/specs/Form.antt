-- What a line says and its fields are inverse; so are a text and what its lines say.
--     word f, arity f      the first field of a line of form f, and how many numbers follow
--     say f ns             the line of form f with the numbers ns
--     fields l             the fields of a line that says l
--     small k              k is at most 4,294,967,295
--     known l              l is not broken
--     fits l               as many numbers as its form has, and small ones
--     whole l, sound l     both; fits unless it is broken
--     text_of ls            the text of these lines, each ended
--     blank                what stands after the last byte 10 of a text whose lines all end
--     has_form_law, has_form_other, has_form_fields, has_form_fits      what has_form says
--     form_of_word         a form's word and as many numerals as it has are a line of that form
--     form_cases           a line that isn't broken has the form that form_of gives it
--     line_of_law, word_free   the clause of line_of; a form's word is without bytes 9 and 10
--     line_of_fields        line_of (fields l) ≡ l for a whole line
--     fields_line_of        fields (line_of ws) ≡ ws unless it is broken
--     fits_line_of          line_of ws fits unless it is broken
--     text_nil, text_cons  the text line by line
--     lines_text_of         lines (text_of ls) ≡ ls ++ (blank ∷ []) for whole lines
--     text_of_lines         text ≡ text_of ls if its lines are ls ++ (blank ∷ []) and none of ls is broken
--     lines_sound          each line of a text is sound
use Rattle.std.specs.Prelude.{◌≡◌, refl, ◌⊎◌, Bool, true, false, not, cond, ◌&&◌, ◌||◌, ℕ, ◌<◌, eqb, leb, length, drop}
use Rattle.std.proofs.Common.{sym, ap, ap₂, ◌∙◌, subst, inl, inr, true≢false, arith, le-leb, leb-true}
use mathlib.Core.List.{List, [], ◌∷◌, ◌++◌, map, append_assoc, nil≢cons, cons≢nil, head-eq_of_cons-eq, tail-eq_of_cons-eq}
use Rattle.std.proofs.lemmas.List.{length-map}
use Rattle.std.proofs.lemmas.Bool.{not-true}
use Rattle.meaning.specs.List.{every, equal, flat, bytes}
use Rattle.meaning.specs.Text.{decimal, value_of, is_numeral, line, parts, Form, header, entry, scale, element, ending, nothing, broken, Line, has_form, form_of, line_of, lines, rank}
use Rattle.laws.specs.Bool.{and_left, and_right, and_both, and_false_left, never}
use Rattle.laws.specs.List.{every_nil, equal→≡}
use Rattle.text_laws.specs.Lists.{flat_nil, flat_cons, every_head, every_tail, every_more, every_map, every_weaken}
use Rattle.text_laws.specs.Numeral.{value_decimal, decimal_value, decimal_digits, decimal_numeral, numeral_bounded}
use Rattle.text_laws.specs.Line.{free, joined, joined_one, joined_two, joined_parts, digits_free, line_parts, lines_parts, lines_nil, lines_line}

abbrev pub word : Form → List ℕ
word header = bytes "system"
word entry = bytes "a"
word scale = bytes "s"
word element = bytes "b"
word ending = bytes "end"
word nothing = []
word broken = []

abbrev pub arity : Form → ℕ
arity header = 3
arity entry = 3
arity scale = 2
arity element = 2
arity ending = 0
arity nothing = 0
arity broken = 0

abbrev pub say : Form → List ℕ → Line
say f ns = record { form = f; numbers = ns }

abbrev pub fields : Line → List (List ℕ)
fields l = word l.form ∷ map decimal l.numbers

abbrev pub small : ℕ → Bool
small k = leb k 4294967295

abbrev pub known : Line → Bool
known l = not (eqb (rank l.form) 6)

abbrev pub fits : Line → Bool
fits l = eqb (length l.numbers) (arity l.form) && every small l.numbers

abbrev pub whole : Line → Bool
whole l = known l && fits l

unfoldable pub text_of : List Line → List ℕ
text_of ls = flat (map (λ l. line (fields l)) ls)

abbrev pub blank : Line
blank = say nothing []

-- ---- a line's form

pub has_form_law : (word : List ℕ) (k : ℕ) (w : List ℕ) (ws : List (List ℕ))
    → has_form word k (w ∷ ws) ≡ equal w word && eqb (length ws) k && every is_numeral ws
unfolding has_form
has_form_law word k w ws = refl

pub has_form_other : (v w : List ℕ) (k : ℕ) (ws : List (List ℕ)) → equal w v ≡ false → has_form v k (w ∷ ws) ≡ false
has_form_other v w k ws e =
    has_form_law v k w ws ∙ and_false_left (every is_numeral ws) (and_false_left (eqb (length ws) k) e)

numerals_back : (ws : List (List ℕ)) → every is_numeral ws ≡ true → map decimal (map value_of ws) ≡ ws
numerals_back [] e = refl
numerals_back (w ∷ ws) e =
    ap₂ ◌∷◌ (decimal_value w (every_head is_numeral w ws e)) (numerals_back ws (every_tail is_numeral w ws e))

numerals_small : (ws : List (List ℕ)) → every is_numeral ws ≡ true → every small (map value_of ws) ≡ true
numerals_small ws e =
    every_map small value_of ws ∙ every_weaken is_numeral (λ w. small (value_of w)) ws
    (λ w d. le-leb (value_of w) 4294967295 (numeral_bounded w d)) e

-- what a word and numerals say
pub has_form_fields : (v : List ℕ) (k : ℕ) (ws : List (List ℕ)) → has_form v k ws ≡ true → v ∷ map decimal (map value_of (drop 1 ws)) ≡ ws
unfolding has_form
has_form_fields v k [] e = absurd (true≢false (sym e))
has_form_fields v k (w ∷ ws) e =
    ap₂ ◌∷◌ (sym (equal→≡ w v (and_left (equal w v) (eqb (length ws) k) (and_left (equal w v && eqb (length ws) k) (every is_numeral ws) e))))
    (numerals_back ws (and_right (equal w v && eqb (length ws) k) (every is_numeral ws) e))

pub has_form_fits : (v : List ℕ) (k : ℕ) (ws : List (List ℕ)) → has_form v k ws ≡ true
    → eqb (length (map value_of (drop 1 ws))) k && every small (map value_of (drop 1 ws)) ≡ true
unfolding has_form
has_form_fits v k [] e = absurd (true≢false (sym e))
has_form_fits v k (w ∷ ws) e =
    and_both
    (ap (λ n. eqb n k) (length-map ws value_of) ∙ and_right (equal w v) (eqb (length ws) k)
    (and_left (equal w v && eqb (length ws) k) (every is_numeral ws) e))
    (numerals_small ws (and_right (equal w v && eqb (length ws) k) (every is_numeral ws) e))

abbrev pick : Bool → Bool → Bool → Bool → Bool → Bool → Form
pick a b c d e f = cond a header (cond b entry (cond c scale (cond d element (cond e ending (cond f nothing broken)))))

abbrev has : Form → List (List ℕ) → Bool
has f ws = has_form (word f) (arity f) ws

form_of_law : (ws : List (List ℕ)) → form_of ws ≡ pick (has header ws) (has entry ws) (has scale ws) (has element ws) (has ending ws) (has nothing ws)
unfolding form_of
form_of_law ws = refl

-- a word of a form and its numerals have that form
pub form_of_word : (f : Form) (ws : List (List ℕ)) → eqb (rank f) 6 ≡ false → eqb (length ws) (arity f) ≡ true → every is_numeral ws ≡ true
    → form_of (word f ∷ ws) ≡ f
unfolding form_of has_form equal bytes
form_of_word header ws b e n = rw (e, n)
form_of_word entry ws b e n = rw (e, n)
form_of_word scale ws b e n = rw (e, n)
form_of_word element ws b e n = rw (e, n)
form_of_word ending ws b e n = rw (e, n)
form_of_word nothing ws b e n = rw (e, n)
form_of_word broken ws b e n = absurd (true≢false b)

-- a line that isn't broken has the form that it is said to have
pub form_cases : (ws : List (List ℕ)) → (form_of ws ≡ broken) ⊎ (has (form_of ws) ws ≡ true)
form_cases ws =
    go (has header ws) (has entry ws) (has scale ws) (has element ws) (has ending ws) (has nothing ws) refl refl refl refl refl refl
  where
    at_form : (g : Form) → form_of ws ≡ g → has g ws ≡ true → (form_of ws ≡ broken) ⊎ (has (form_of ws) ws ≡ true)
    at_form g e h = inr (subst (λ k. has k ws ≡ true) (sym e) h)

    to : (a b c d e f : Bool) → has header ws ≡ a → has entry ws ≡ b → has scale ws ≡ c → has element ws ≡ d → has ending ws ≡ e
        → has nothing ws ≡ f → form_of ws ≡ pick a b c d e f
    to a b c d e f p q r s t u = form_of_law ws ∙ (λ i. pick (p i) (q i) (r i) (s i) (t i) (u i))

    go : (a b c d e f : Bool) → has header ws ≡ a → has entry ws ≡ b → has scale ws ≡ c → has element ws ≡ d → has ending ws ≡ e
        → has nothing ws ≡ f → (form_of ws ≡ broken) ⊎ (has (form_of ws) ws ≡ true)
    go true b c d e f p q r s t u = at_form header (to true b c d e f p q r s t u) p
    go false true c d e f p q r s t u = at_form entry (to false true c d e f p q r s t u) q
    go false false true d e f p q r s t u = at_form scale (to false false true d e f p q r s t u) r
    go false false false true e f p q r s t u = at_form element (to false false false true e f p q r s t u) s
    go false false false false true f p q r s t u = at_form ending (to false false false false true f p q r s t u) t
    go false false false false false true p q r s t u = at_form nothing (to false false false false false true p q r s t u) u
    go false false false false false false p q r s t u = inl (to false false false false false false p q r s t u)

-- ---- a line and its fields

pub line_of_law : (ws : List (List ℕ)) → line_of ws ≡ say (form_of ws) (map value_of (drop 1 ws))
unfolding line_of
line_of_law ws = refl

decimals_numerals : (ns : List ℕ) → every small ns ≡ true → every is_numeral (map decimal ns) ≡ true
decimals_numerals ns e =
    every_map is_numeral decimal ns ∙ every_weaken small (λ k. is_numeral (decimal k)) ns (λ k d. decimal_numeral k (leb-true k 4294967295 d)) e

values_back : (ns : List ℕ) → map value_of (map decimal ns) ≡ ns
values_back [] = refl
values_back (k ∷ ns) = ap₂ ◌∷◌ (value_decimal k) (values_back ns)

pub line_of_fields : (l : Line) → whole l ≡ true → line_of (fields l) ≡ l
line_of_fields l e =
    let f : fits l ≡ true = and_right (known l) (fits l) e in
    let s : every small l.numbers ≡ true = and_right (eqb (length l.numbers) (arity l.form)) (every small l.numbers) f in
    line_of_law (fields l)
    ∙ ap₂ say
    (form_of_word l.form (map decimal l.numbers) (not-true (eqb (rank l.form) 6) (and_left (known l) (fits l) e))
    (ap (λ n. eqb n (arity l.form)) (length-map l.numbers decimal)
    ∙ and_left (eqb (length l.numbers) (arity l.form)) (every small l.numbers) f)
    (decimals_numerals l.numbers s))
    (values_back l.numbers)

broken_unknown : (ws : List (List ℕ)) → form_of ws ≡ broken → known (line_of ws) ≡ false
broken_unknown ws e = ap known (line_of_law ws) ∙ ap (λ f. not (eqb (rank f) 6)) e

pub fields_line_of : (ws : List (List ℕ)) → known (line_of ws) ≡ true → fields (line_of ws) ≡ ws
fields_line_of ws k = ap fields (line_of_law ws) ∙ go (form_cases ws)
  where
    go : (form_of ws ≡ broken) ⊎ (has (form_of ws) ws ≡ true) → fields (say (form_of ws) (map value_of (drop 1 ws))) ≡ ws
    go (inl e) = never (known (line_of ws)) k (broken_unknown ws e)
    go (inr h) = has_form_fields (word (form_of ws)) (arity (form_of ws)) ws h

pub fits_line_of : (ws : List (List ℕ)) → known (line_of ws) ≡ true → fits (line_of ws) ≡ true
fits_line_of ws k = ap fits (line_of_law ws) ∙ go (form_cases ws)
  where
    go : (form_of ws ≡ broken) ⊎ (has (form_of ws) ws ≡ true) → fits (say (form_of ws) (map value_of (drop 1 ws))) ≡ true
    go (inl e) = never (known (line_of ws)) k (broken_unknown ws e)
    go (inr h) = has_form_fits (word (form_of ws)) (arity (form_of ws)) ws h

-- ---- a text and its lines

pub text_nil : text_of [] ≡ []
unfolding text_of
text_nil = flat_nil

pub text_cons : (l : Line) (ls : List Line) → text_of (l ∷ ls) ≡ line (fields l) ++ text_of ls
unfolding text_of
text_cons l ls = flat_cons (line (fields l)) (map (λ l. line (fields l)) ls)

pub word_free : (f : Form) → (free 9 (word f) ≡ true) × (free 10 (word f) ≡ true)
unfolding bytes every
word_free header = (refl, refl)
word_free entry = (refl, refl)
word_free scale = (refl, refl)
word_free element = (refl, refl)
word_free ending = (refl, refl)
word_free nothing = (refl, refl)
word_free broken = (refl, refl)

decimals_free : (c : ℕ) → c < 48 → (ns : List ℕ) → every (free c) (map decimal ns) ≡ true
decimals_free c h [] = every_nil (free c)
decimals_free c h (k ∷ ns) =
    every_more (free c) (decimal k) (map decimal ns) (digits_free c (decimal k) h (decimal_digits k)) (decimals_free c h ns)

pub lines_text_of : (ls : List Line) → every whole ls ≡ true → lines (text_of ls) ≡ ls ++ (blank ∷ [])
unfolding form_of line_of has_form equal bytes every
lines_text_of [] e = ap lines text_nil ∙ lines_nil
lines_text_of (l ∷ ls) e =
    ap lines (text_cons l ls)
    ∙ lines_line (word l.form) (map decimal l.numbers) (text_of ls)
    (every_more (free 9) (word l.form) (map decimal l.numbers) (word_free l.form).0 (decimals_free 9 (omega arith) l.numbers))
    (every_more (free 10) (word l.form) (map decimal l.numbers) (word_free l.form).1 (decimals_free 10 (omega arith) l.numbers))
    ∙ ap₂ ◌∷◌ (line_of_fields l (every_head whole l ls e)) (lines_text_of ls (every_tail whole l ls e))

-- the raw lines of a text, and what they say
text_of_raw : (raw : List (List ℕ)) (ls : List Line) → map (λ l. line_of (parts 9 l)) raw ≡ ls ++ (blank ∷ []) → every known ls ≡ true
    → joined 10 raw ≡ text_of ls
text_of_raw [] [] e k = absurd (nil≢cons e)
text_of_raw [] (l ∷ ls) e k = absurd (nil≢cons e)
text_of_raw (w ∷ []) [] e k =
    let b : line_of (parts 9 w) ≡ blank = head-eq_of_cons-eq e in
    joined_one 10 w ∙ sym (joined_parts 9 w) ∙ ap (joined 9) (sym (fields_line_of (parts 9 w) (ap known b)) ∙ ap fields b) ∙ joined_one 9 []
    ∙ sym text_nil
text_of_raw (w ∷ []) (l ∷ []) e k = absurd (nil≢cons (tail-eq_of_cons-eq e))
text_of_raw (w ∷ []) (l ∷ m ∷ ls) e k = absurd (nil≢cons (tail-eq_of_cons-eq e))
text_of_raw (w ∷ v ∷ raw) [] e k = absurd (cons≢nil (tail-eq_of_cons-eq e))
text_of_raw (w ∷ v ∷ raw) (l ∷ ls) e k =
    let h : line_of (parts 9 w) ≡ l = head-eq_of_cons-eq e in
    joined_two 10 w v raw ∙ ap (λ r. w ++ 10 ∷ r) (text_of_raw (v ∷ raw) ls (tail-eq_of_cons-eq e) (every_tail known l ls k))
    ∙ sym (append_assoc w (10 ∷ []) (text_of ls)) ∙ ap (λ r. r ++ text_of ls) (sym (line_parts w))
    ∙ ap (λ r. line r ++ text_of ls) (sym (fields_line_of (parts 9 w) (ap known h ∙ every_head known l ls k)) ∙ ap fields h)
    ∙ sym (text_cons l ls)

pub text_of_lines : (text : List ℕ) (ls : List Line) → lines text ≡ ls ++ (blank ∷ []) → every known ls ≡ true → text ≡ text_of ls
text_of_lines text ls e k = sym (joined_parts 10 text) ∙ text_of_raw (parts 10 text) ls (sym (lines_parts text) ∙ e) k

-- each line of a text fits unless it is broken
abbrev pub sound : Line → Bool
sound l = not (known l) || fits l

pub lines_sound : (text : List ℕ) → every sound (lines text) ≡ true
lines_sound text = ap (every sound) (lines_parts text) ∙ go (parts 10 text)
  where
    at_line : (ws : List (List ℕ)) → sound (line_of ws) ≡ true
    at_line ws = pair (known (line_of ws)) (fits (line_of ws)) (fits_line_of ws)
      where
        pair : (a b : Bool) → (a ≡ true → b ≡ true) → (not a || b) ≡ true
        pair true b f = f refl
        pair false b f = refl

    go : (raw : List (List ℕ)) → every sound (map (λ l. line_of (parts 9 l)) raw) ≡ true
    go [] = every_nil sound
    go (w ∷ raw) = every_more sound (line_of (parts 9 w)) (map (λ l. line_of (parts 9 l)) raw) (at_line (parts 9 w)) (go raw)
