-- A text read from left to right: what of its lines is known at a place. s is what follows that place.
--     extends_by, run, run_value     the longest numeral at the head of s: how many bytes, and its value
--     extend_all                    w makes a longer numeral of the one so far
--     head_of s, fields_of s         the rest of the field that the place stands in, and the fields after it on the same line
--     later s                      the lines after this one, uncut
--     after k s                    the field ends here, and k numerals are left on the line
-- Laws: their clauses; is_numeral by extend_all; lines_here; head_run .. after_tab, what a numeral leaves; word_starts, other_starts: a word at the head of s.
use Rattle.std.specs.Prelude.{◌≡◌, refl, ◌⊎◌, Bool, true, false, not, cond, ◌&&◌, ◌||◌, List, [], ◌∷◌, ◌++◌, map, ℕ, suc, ◌+◌, ◌-◌, ◌*◌, ◌≤◌, ◌<◌, eqb, leb, get_or, length, drop}
use Rattle.std.proofs.Common.{sym, ap, ap₂, ◌∙◌, subst, inl, inr, arith, add-one, drop-cons, eqb-true, ne_eqb, leb-true, le-leb}
use Rattle.std.proofs.Math.Dec.{eqb-suc-suc}
use Rattle.std.proofs.lemmas.Bool.{eqb-false, not-true}
use Rattle.meaning.specs.List.{every, equal}
use Rattle.meaning.specs.Text.{is_digit, is_numeral, value_after, value_of, on_first, parts, line_of, lines}
use Rattle.laws.specs.Bool.{and_left, and_right, and_both, and_false_left, and_false_right, test_cases, never, same_test}
use Rattle.laws.specs.List.{every_nil, every_cons, equal→≡}
use Rattle.std.specs.List.{starts_with}
use Rattle.std.proofs.lemmas.Slice.Eq.{starts_is}
use Rattle.std.proofs.lemmas.Bool.Decides.{Decides-eqb}
use Rattle.text_laws.specs.Numeral.{value_nil, value_cons, digit_low, digit_high, numeral_digits, numeral_lead, numeral_bounded, numeral_of}
use Rattle.text_laws.specs.Line.{free, free_head, free_tail, parts_nil, parts_cut, parts_other, parts_some, on_first_cons, lines_parts}

-- what follows a place: its byte, and what follows that
pub drop_here : (text : List ℕ) (i : ℕ) → i < length text → drop i text ≡ get_or text i 0 ∷ drop (i + 1) text
drop_here text i h = drop-cons text i 0 h ∙ ap (λ n. get_or text i 0 ∷ drop n text) (sym (add-one i))

-- ---- numerals

-- a numeral of value v, or nothing yet, with the byte c behind it, is one again: "at most 4,294,967,295, no leading zero except 0 itself"
unfoldable pub extends_by : Bool → ℕ → ℕ → Bool
extends_by begun v c = is_digit c && not (begun && eqb v 0) && leb (v * 10 + (c - 48)) 4294967295

unfoldable pub run : Bool → ℕ → List ℕ → ℕ
run begun v [] = 0
run begun v (c ∷ s) =
    let later = suc (run true (v * 10 + (c - 48)) s) in
    cond (extends_by begun v c) later 0

unfoldable pub run_value : Bool → ℕ → List ℕ → ℕ
run_value begun v [] = v
run_value begun v (c ∷ s) =
    let later = run_value true (v * 10 + (c - 48)) s in
    cond (extends_by begun v c) later v

unfoldable pub extend_all : Bool → ℕ → List ℕ → Bool
extend_all begun v [] = true
extend_all begun v (c ∷ w) = extends_by begun v c && extend_all true (v * 10 + (c - 48)) w

pub run_nil : (b : Bool) (v : ℕ) → run b v [] ≡ 0
unfolding run
run_nil b v = refl

pub run_yes : (b : Bool) (v c : ℕ) (s : List ℕ) → extends_by b v c ≡ true → run b v (c ∷ s) ≡ suc (run true (v * 10 + (c - 48)) s)
unfolding run
run_yes b v c s e = ap (λ t. cond t (suc (run true (v * 10 + (c - 48)) s)) 0) e

pub run_no : (b : Bool) (v c : ℕ) (s : List ℕ) → extends_by b v c ≡ false → run b v (c ∷ s) ≡ 0
unfolding run
run_no b v c s e = ap (λ t. cond t (suc (run true (v * 10 + (c - 48)) s)) 0) e

pub run_value_nil : (b : Bool) (v : ℕ) → run_value b v [] ≡ v
unfolding run_value
run_value_nil b v = refl

pub run_value_yes : (b : Bool) (v c : ℕ) (s : List ℕ) → extends_by b v c ≡ true → run_value b v (c ∷ s) ≡ run_value true (v * 10 + (c - 48)) s
unfolding run_value
run_value_yes b v c s e = ap (λ t. cond t (run_value true (v * 10 + (c - 48)) s) v) e

pub run_value_no : (b : Bool) (v c : ℕ) (s : List ℕ) → extends_by b v c ≡ false → run_value b v (c ∷ s) ≡ v
unfolding run_value
run_value_no b v c s e = ap (λ t. cond t (run_value true (v * 10 + (c - 48)) s) v) e

extend_all_nil : (b : Bool) (v : ℕ) → extend_all b v [] ≡ true
unfolding extend_all
extend_all_nil b v = refl

extend_all_cons : (b : Bool) (v c : ℕ) (w : List ℕ) → extend_all b v (c ∷ w) ≡ extends_by b v c && extend_all true (v * 10 + (c - 48)) w
unfolding extend_all
extend_all_cons b v c w = refl

pub extends_digit : (b : Bool) (v c : ℕ) → extends_by b v c ≡ true → is_digit c ≡ true
unfolding extends_by
extends_digit b v c e =
    and_left (is_digit c) (not (b && eqb v 0))
    (and_left (is_digit c && not (b && eqb v 0)) (leb (v * 10 + (c - 48)) 4294967295) e)

pub extends_lead : (b : Bool) (v c : ℕ) → extends_by b v c ≡ true → not (b && eqb v 0) ≡ true
unfolding extends_by
extends_lead b v c e =
    and_right (is_digit c) (not (b && eqb v 0))
    (and_left (is_digit c && not (b && eqb v 0)) (leb (v * 10 + (c - 48)) 4294967295) e)

pub extends_bounded : (b : Bool) (v c : ℕ) → extends_by b v c ≡ true → v * 10 + (c - 48) ≤ 4294967295
unfolding extends_by
extends_bounded b v c e =
    leb-true (v * 10 + (c - 48)) 4294967295
    (and_right (is_digit c && not (b && eqb v 0)) (leb (v * 10 + (c - 48)) 4294967295) e)

pub extends_of : (b : Bool) (v c : ℕ) → is_digit c ≡ true → not (b && eqb v 0) ≡ true → v * 10 + (c - 48) ≤ 4294967295 → extends_by b v c ≡ true
unfolding extends_by
extends_of b v c d l h = and_both (and_both d l) (le-leb (v * 10 + (c - 48)) 4294967295 h)

-- digits only raise the value
value_rises : (v : ℕ) (w : List ℕ) → v ≤ value_after v w
value_rises v [] = omega (arith, value_nil v)
value_rises v (c ∷ w) = omega (arith, value_cons v c w, value_rises (v * 10 + (c - 48)) w)

-- behind a numeral that is not 0: any digits, while the value is bounded
more_of : (v : ℕ) (w : List ℕ) → 1 ≤ v → every is_digit w ≡ true → value_after v w ≤ 4294967295 → extend_all true v w ≡ true
more_of v [] h d b = extend_all_nil true v
more_of v (c ∷ w) h d b =
    let d' : is_digit c && every is_digit w ≡ true = sym (every_cons is_digit c w) ∙ d in
    let v' = v * 10 + (c - 48) in
    let b' : value_after v' w ≤ 4294967295 = subst (λ x. x ≤ 4294967295) (value_cons v c w) b in
    extend_all_cons true v c w
    ∙ and_both
    (extends_of true v c (and_left (is_digit c) (every is_digit w) d') (ap not (ne_eqb v 0 (λ z. omega arith))) (omega (arith, value_rises v' w)))
    (more_of v' w (omega arith) (and_right (is_digit c) (every is_digit w) d') b')

more_digits : (b : Bool) (v : ℕ) (w : List ℕ) → extend_all b v w ≡ true → every is_digit w ≡ true
more_digits b v [] e = every_nil is_digit
more_digits b v (c ∷ w) e =
    let e' : extends_by b v c && extend_all true (v * 10 + (c - 48)) w ≡ true = sym (extend_all_cons b v c w) ∙ e in
    every_cons is_digit c w
    ∙ and_both (extends_digit b v c (and_left (extends_by b v c) (extend_all true (v * 10 + (c - 48)) w) e'))
    (more_digits true (v * 10 + (c - 48)) w (and_right (extends_by b v c) (extend_all true (v * 10 + (c - 48)) w) e'))

more_bounded : (b : Bool) (v : ℕ) (w : List ℕ) → v ≤ 4294967295 → extend_all b v w ≡ true → value_after v w ≤ 4294967295
more_bounded b v [] h e = subst (λ x. x ≤ 4294967295) (sym (value_nil v)) h
more_bounded b v (c ∷ w) h e =
    let e' : extends_by b v c && extend_all true (v * 10 + (c - 48)) w ≡ true = sym (extend_all_cons b v c w) ∙ e in
    subst (λ x. x ≤ 4294967295) (sym (value_cons v c w))
    (more_bounded true (v * 10 + (c - 48)) w
    (extends_bounded b v c (and_left (extends_by b v c) (extend_all true (v * 10 + (c - 48)) w) e'))
    (and_right (extends_by b v c) (extend_all true (v * 10 + (c - 48)) w) e'))

pub numeral_extends : (c : ℕ) (w : List ℕ) → is_numeral (c ∷ w) ≡ extend_all false 0 (c ∷ w)
numeral_extends c w = same_test (is_numeral (c ∷ w)) (extend_all false 0 (c ∷ w)) (to w) (from w)
  where
    to : (w : List ℕ) → is_numeral (c ∷ w) ≡ true → extend_all false 0 (c ∷ w) ≡ true
    to [] e =
        let d : is_digit c && every is_digit [] ≡ true = sym (every_cons is_digit c []) ∙ numeral_digits (c ∷ []) e in
        let dc : is_digit c ≡ true = and_left (is_digit c) (every is_digit []) d in
        extend_all_cons false 0 c []
        ∙ and_both (extends_of false 0 c dc refl (omega (arith, digit_high c dc))) (extend_all_nil true (0 * 10 + (c - 48)))
    to (x ∷ w) e =
        let d : is_digit c && every is_digit (x ∷ w) ≡ true = sym (every_cons is_digit c (x ∷ w)) ∙ numeral_digits (c ∷ x ∷ w) e in
        let dc : is_digit c ≡ true = and_left (is_digit c) (every is_digit (x ∷ w)) d in
        let lead : not (eqb c 48) ≡ true = sym (ap (λ t. t || not (eqb c 48)) (ne_eqb (suc (suc (length w))) 1 (λ z. omega arith))) ∙ numeral_lead (c ∷ x ∷ w) e in
        let ne : c ≡ 48 → ⊥ = eqb-false c 48 (not-true (eqb c 48) lead) in
        let low : 48 ≤ c = digit_low c dc in
        extend_all_cons false 0 c (x ∷ w)
        ∙ and_both (extends_of false 0 c dc refl (omega (arith, digit_high c dc)))
        (more_of (0 * 10 + (c - 48)) (x ∷ w) (positive c low ne)
        (and_right (is_digit c) (every is_digit (x ∷ w)) d)
        (subst (λ v. v ≤ 4294967295) (value_cons 0 c (x ∷ w)) (numeral_bounded (c ∷ x ∷ w) e)))
      where
        positive : (c : ℕ) → 48 ≤ c → (c ≡ 48 → ⊥) → 1 ≤ 0 * 10 + (c - 48)
        positive c l n = omega arith

    from : (w : List ℕ) → extend_all false 0 (c ∷ w) ≡ true → is_numeral (c ∷ w) ≡ true
    from [] e = numeral_of (c ∷ []) (omega arith) (more_digits false 0 (c ∷ []) e) refl (more_bounded false 0 (c ∷ []) (omega arith) e)
    from (x ∷ w) e =
        let f : extends_by false 0 c && extend_all true (0 * 10 + (c - 48)) (x ∷ w) ≡ true = sym (extend_all_cons false 0 c (x ∷ w)) ∙ e in
        let g : extend_all true (0 * 10 + (c - 48)) (x ∷ w) ≡ true = and_right (extends_by false 0 c) (extend_all true (0 * 10 + (c - 48)) (x ∷ w)) f in
        let g' : extends_by true (0 * 10 + (c - 48)) x && extend_all true ((0 * 10 + (c - 48)) * 10 + (x - 48)) w ≡ true = sym (extend_all_cons true (0 * 10 + (c - 48)) x w) ∙ g in
        let l : not (eqb (0 * 10 + (c - 48)) 0) ≡ true = extends_lead true (0 * 10 + (c - 48)) x (and_left (extends_by true (0 * 10 + (c - 48)) x) (extend_all true ((0 * 10 + (c - 48)) * 10 + (x - 48)) w) g') in
        let ne : 0 * 10 + (c - 48) ≡ 0 → ⊥ = eqb-false (0 * 10 + (c - 48)) 0 (not-true (eqb (0 * 10 + (c - 48)) 0) l) in
        let lead : not (eqb c 48) ≡ true = ap not (ne_eqb c 48 (λ z. ne (omega arith))) in
        numeral_of (c ∷ x ∷ w) (omega arith) (more_digits false 0 (c ∷ x ∷ w) e)
        (ap (λ t. t || not (eqb c 48)) (ne_eqb (suc (suc (length w))) 1 (λ z. omega arith)) ∙ lead)
        (more_bounded false 0 (c ∷ x ∷ w) (omega arith) e)

pub numeral_empty : is_numeral [] ≡ false
unfolding is_numeral
numeral_empty = refl

-- ---- the line from a place on

unfoldable pub head_of : List ℕ → List ℕ
head_of s = get_or (parts 9 (get_or (parts 10 s) 0 [])) 0 []

unfoldable pub fields_of : List ℕ → List (List ℕ)
fields_of s = drop 1 (parts 9 (get_or (parts 10 s) 0 []))

unfoldable pub later : List ℕ → List (List ℕ)
later s = drop 1 (parts 10 s)

-- a cut list is its first part and the others
cut_split : (c : ℕ) (l : List ℕ) → parts c l ≡ get_or (parts c l) 0 [] ∷ drop 1 (parts c l)
cut_split c l =
    let p = parts_some c l in
    p.2 ∙ sym (ap (λ r. get_or r 0 [] ∷ drop 1 r) p.2)

-- a text's lines: that of the place, and the later ones
pub lines_here : (s : List ℕ) → lines s ≡ line_of (head_of s ∷ fields_of s) ∷ map (λ l. line_of (parts 9 l)) (later s)
unfolding head_of fields_of later
lines_here s =
    lines_parts s ∙ ap (map (λ l. line_of (parts 9 l))) (cut_split 10 s)
    ∙ ap (λ r. line_of r ∷ map (λ l. line_of (parts 9 l)) (drop 1 (parts 10 s))) (cut_split 9 (get_or (parts 10 s) 0 []))

first_nil : (c : ℕ) → get_or (parts c []) 0 [] ≡ []
first_nil c = ap (λ r. get_or r 0 []) (parts_nil c)

first_cut : (c : ℕ) (s : List ℕ) → get_or (parts c (c ∷ s)) 0 [] ≡ []
first_cut c s = ap (λ r. get_or r 0 []) (parts_cut c s)

others_nil : (c : ℕ) → drop 1 (parts c []) ≡ []
others_nil c = ap (drop 1) (parts_nil c)

others_cut : (c : ℕ) (s : List ℕ) → drop 1 (parts c (c ∷ s)) ≡ parts c s
others_cut c s = ap (drop 1) (parts_cut c s)

other_split : (c x : ℕ) (s : List ℕ) → eqb x c ≡ false → parts c (x ∷ s) ≡ (x ∷ get_or (parts c s) 0 []) ∷ drop 1 (parts c s)
other_split c x s e =
    parts_other c x s e ∙ ap (on_first x) (cut_split c s) ∙ on_first_cons x (get_or (parts c s) 0 []) (drop 1 (parts c s))

first_other : (c x : ℕ) (s : List ℕ) → eqb x c ≡ false → get_or (parts c (x ∷ s)) 0 [] ≡ x ∷ get_or (parts c s) 0 []
first_other c x s e = ap (λ r. get_or r 0 []) (other_split c x s e)

others_other : (c x : ℕ) (s : List ℕ) → eqb x c ≡ false → drop 1 (parts c (x ∷ s)) ≡ drop 1 (parts c s)
others_other c x s e = ap (drop 1) (other_split c x s e)

pub head_nil : head_of [] ≡ []
unfolding head_of
head_nil = ap (λ l. get_or (parts 9 l) 0 []) (first_nil 10) ∙ first_nil 9

pub fields_nil : fields_of [] ≡ []
unfolding fields_of
fields_nil = ap (λ l. drop 1 (parts 9 l)) (first_nil 10) ∙ others_nil 9

pub later_nil : later [] ≡ []
unfolding later
later_nil = others_nil 10

pub head_end : (s : List ℕ) → head_of (10 ∷ s) ≡ []
unfolding head_of
head_end s = ap (λ l. get_or (parts 9 l) 0 []) (first_cut 10 s) ∙ first_nil 9

pub fields_end : (s : List ℕ) → fields_of (10 ∷ s) ≡ []
unfolding fields_of
fields_end s = ap (λ l. drop 1 (parts 9 l)) (first_cut 10 s) ∙ others_nil 9

pub later_end : (s : List ℕ) → later (10 ∷ s) ≡ parts 10 s
unfolding later
later_end s = others_cut 10 s

pub head_tab : (s : List ℕ) → head_of (9 ∷ s) ≡ []
unfolding head_of
head_tab s = ap (λ l. get_or (parts 9 l) 0 []) (first_other 10 9 s refl) ∙ first_cut 9 (get_or (parts 10 s) 0 [])

pub fields_tab : (s : List ℕ) → fields_of (9 ∷ s) ≡ head_of s ∷ fields_of s
unfolding head_of fields_of
fields_tab s =
    ap (λ l. drop 1 (parts 9 l)) (first_other 10 9 s refl) ∙ others_cut 9 (get_or (parts 10 s) 0 [])
    ∙ cut_split 9 (get_or (parts 10 s) 0 [])

pub head_byte : (c : ℕ) (s : List ℕ) → eqb c 9 ≡ false → eqb c 10 ≡ false → head_of (c ∷ s) ≡ c ∷ head_of s
unfolding head_of
head_byte c s e f = ap (λ l. get_or (parts 9 l) 0 []) (first_other 10 c s f) ∙ first_other 9 c (get_or (parts 10 s) 0 []) e

pub fields_byte : (c : ℕ) (s : List ℕ) → eqb c 9 ≡ false → eqb c 10 ≡ false → fields_of (c ∷ s) ≡ fields_of s
unfolding fields_of
fields_byte c s e f = ap (λ l. drop 1 (parts 9 l)) (first_other 10 c s f) ∙ others_other 9 c (get_or (parts 10 s) 0 []) e

pub later_byte : (c : ℕ) (s : List ℕ) → eqb c 10 ≡ false → later (c ∷ s) ≡ later s
unfolding later
later_byte c s f = others_other 10 c s f

-- ---- what a numeral leaves

pub digit_not : (c x : ℕ) → x < 48 → is_digit c ≡ true → eqb c x ≡ false
digit_not c x h d = ne_eqb c x (λ z. omega (arith, digit_low c d))

unfoldable pub after : ℕ → List ℕ → Bool
after k s = equal (head_of s) [] && eqb (length (fields_of s)) k && every is_numeral (fields_of s)

module _ (b : Bool) (v : ℕ) where
  run_skip : (c : ℕ) (s : List ℕ) (e : extends_by b v c ≡ true) → drop (run b v (c ∷ s)) (c ∷ s) ≡ drop (run true (v * 10 + (c - 48)) s) s
  run_skip c s e = ap (λ n. drop n (c ∷ s)) (run_yes b v c s e)

  run_stay : (c : ℕ) (s : List ℕ) (e : extends_by b v c ≡ false) → drop (run b v (c ∷ s)) (c ∷ s) ≡ c ∷ s
  run_stay c s e = ap (λ n. drop n (c ∷ s)) (run_no b v c s e)

pub fields_run : (b : Bool) (v : ℕ) (s : List ℕ) → fields_of s ≡ fields_of (drop (run b v s) s)
fields_run b v [] = ap (λ n. fields_of (drop n [])) (sym (run_nil b v))
fields_run b v (c ∷ s) = go (test_cases (extends_by b v c)) (fields_run true (v * 10 + (c - 48)) s)
  where
    go : (extends_by b v c ≡ true) ⊎ (extends_by b v c ≡ false) → fields_of s ≡ fields_of (drop (run true (v * 10 + (c - 48)) s) s)
        → fields_of (c ∷ s) ≡ fields_of (drop (run b v (c ∷ s)) (c ∷ s))
    go (inl e) ih =
        let d = extends_digit b v c e in
        fields_byte c s (digit_not c 9 (omega arith) d) (digit_not c 10 (omega arith) d) ∙ ih ∙ ap fields_of (sym (run_skip b v c s e))
    go (inr e) ih = ap fields_of (sym (run_stay b v c s e))

pub later_run : (b : Bool) (v : ℕ) (s : List ℕ) → later s ≡ later (drop (run b v s) s)
later_run b v [] = ap (λ n. later (drop n [])) (sym (run_nil b v))
later_run b v (c ∷ s) = go (test_cases (extends_by b v c)) (later_run true (v * 10 + (c - 48)) s)
  where
    go : (extends_by b v c ≡ true) ⊎ (extends_by b v c ≡ false) → later s ≡ later (drop (run true (v * 10 + (c - 48)) s) s)
        → later (c ∷ s) ≡ later (drop (run b v (c ∷ s)) (c ∷ s))
    go (inl e) ih = later_byte c s (digit_not c 10 (omega arith) (extends_digit b v c e)) ∙ ih ∙ ap later (sym (run_skip b v c s e))
    go (inr e) ih = ap later (sym (run_stay b v c s e))

-- the byte at a place is the first of its field, unless it parts
pub head_cases : (c : ℕ) (s : List ℕ) → (head_of (c ∷ s) ≡ []) ⊎ (head_of (c ∷ s) ≡ c ∷ head_of s)
head_cases c s = go (test_cases (eqb c 9)) (test_cases (eqb c 10))
  where
    go : (eqb c 9 ≡ true) ⊎ (eqb c 9 ≡ false) → (eqb c 10 ≡ true) ⊎ (eqb c 10 ≡ false) → (head_of (c ∷ s) ≡ []) ⊎ (head_of (c ∷ s) ≡ c ∷ head_of s)
    go (inl e) f = inl (ap (λ x. head_of (x ∷ s)) (eqb-true c 9 e) ∙ head_tab s)
    go (inr e) (inl f) = inl (ap (λ x. head_of (x ∷ s)) (eqb-true c 10 f) ∙ head_end s)
    go (inr e) (inr f) = inr (head_byte c s e f)

equal_nil : (l : List ℕ) → equal [] [] ≡ true
unfolding equal
equal_nil l = refl

equal_cons_nil : (a : ℕ) (l : List ℕ) → equal (a ∷ l) [] ≡ false
unfolding equal
equal_cons_nil a l = refl

-- the field's rest is read to its end exactly if it all extends the numeral
pub head_run : (b : Bool) (v : ℕ) (s : List ℕ) → extend_all b v (head_of s) ≡ equal (head_of (drop (run b v s) s)) []
head_run b v [] =
    ap (extend_all b v) head_nil ∙ extend_all_nil b v ∙ sym (ap (λ n. equal (head_of (drop n [])) []) (run_nil b v) ∙ ap (λ l. equal l []) head_nil ∙ equal_nil [])
head_run b v (c ∷ s) = go (test_cases (extends_by b v c)) (head_run true (v * 10 + (c - 48)) s)
  where
    stays : extends_by b v c ≡ false → (head_of (c ∷ s) ≡ []) ⊎ (head_of (c ∷ s) ≡ c ∷ head_of s) → extend_all b v (head_of (c ∷ s)) ≡ equal (head_of (c ∷ s)) []
    stays e (inl q) = ap (extend_all b v) q ∙ extend_all_nil b v ∙ sym (ap (λ l. equal l []) q ∙ equal_nil [])
    stays e (inr q) =
        ap (extend_all b v) q ∙ extend_all_cons b v c (head_of s) ∙ and_false_left (extend_all true (v * 10 + (c - 48)) (head_of s)) e
        ∙ sym (ap (λ l. equal l []) q ∙ equal_cons_nil c (head_of s))

    go : (extends_by b v c ≡ true) ⊎ (extends_by b v c ≡ false)
        → extend_all true (v * 10 + (c - 48)) (head_of s) ≡ equal (head_of (drop (run true (v * 10 + (c - 48)) s) s)) []
        → extend_all b v (head_of (c ∷ s)) ≡ equal (head_of (drop (run b v (c ∷ s)) (c ∷ s))) []
    go (inl e) ih =
        let d = extends_digit b v c e in
        ap (extend_all b v) (head_byte c s (digit_not c 9 (omega arith) d) (digit_not c 10 (omega arith) d))
        ∙ extend_all_cons b v c (head_of s) ∙ ap (λ t. t && extend_all true (v * 10 + (c - 48)) (head_of s)) e ∙ ih
        ∙ ap (λ l. equal (head_of l) []) (sym (run_skip b v c s e))
    go (inr e) ih = stays e (head_cases c s) ∙ ap (λ l. equal (head_of l) []) (sym (run_stay b v c s e))

pub value_run : (b : Bool) (v : ℕ) (s : List ℕ) → extend_all b v (head_of s) ≡ true → value_after v (head_of s) ≡ run_value b v s
value_run b v [] h = ap (value_after v) head_nil ∙ value_nil v ∙ sym (run_value_nil b v)
value_run b v (c ∷ s) h = go (test_cases (extends_by b v c)) (value_run true (v * 10 + (c - 48)) s)
  where
    stays : extends_by b v c ≡ false → (head_of (c ∷ s) ≡ []) ⊎ (head_of (c ∷ s) ≡ c ∷ head_of s) → value_after v (head_of (c ∷ s)) ≡ v
    stays e (inl q) = ap (value_after v) q ∙ value_nil v
    stays e (inr q) =
        never (extend_all b v (head_of (c ∷ s))) h
        (ap (extend_all b v) q ∙ extend_all_cons b v c (head_of s) ∙ and_false_left (extend_all true (v * 10 + (c - 48)) (head_of s)) e)

    go : (extends_by b v c ≡ true) ⊎ (extends_by b v c ≡ false)
        → (extend_all true (v * 10 + (c - 48)) (head_of s) ≡ true → value_after (v * 10 + (c - 48)) (head_of s) ≡ run_value true (v * 10 + (c - 48)) s)
        → value_after v (head_of (c ∷ s)) ≡ run_value b v (c ∷ s)
    go (inl e) ih =
        let d = extends_digit b v c e in
        let q = head_byte c s (digit_not c 9 (omega arith) d) (digit_not c 10 (omega arith) d) in
        ap (value_after v) q ∙ value_cons v c (head_of s)
        ∙ ih (and_right (extends_by b v c) (extend_all true (v * 10 + (c - 48)) (head_of s)) (sym (extend_all_cons b v c (head_of s)) ∙ ap (extend_all b v) (sym q) ∙ h))
        ∙ sym (run_value_yes b v c s e)
    go (inr e) ih = stays e (head_cases c s) ∙ sym (run_value_no b v c s e)

pub run_within : (b : Bool) (v : ℕ) (s : List ℕ) → run b v s ≤ length s
run_within b v [] = omega (arith, run_nil b v)
run_within b v (c ∷ s) = go (test_cases (extends_by b v c)) (run_within true (v * 10 + (c - 48)) s)
  where
    go : (extends_by b v c ≡ true) ⊎ (extends_by b v c ≡ false) → run true (v * 10 + (c - 48)) s ≤ length s → run b v (c ∷ s) ≤ suc (length s)
    go (inl e) ih = omega (arith, run_yes b v c s e)
    go (inr e) ih = omega (arith, run_no b v c s e)

-- the field at a place is a numeral exactly if one is read to the field's end
pub numeral_some_run : (s : List ℕ) → 1 ≤ run false 0 s → is_numeral (head_of s) ≡ equal (head_of (drop (run false 0 s) s)) []
numeral_some_run [] h = absurd (omega (arith, run_nil false 0))
numeral_some_run (c ∷ s) h = go (test_cases (extends_by false 0 c))
  where
    go : (extends_by false 0 c ≡ true) ⊎ (extends_by false 0 c ≡ false) → is_numeral (head_of (c ∷ s)) ≡ equal (head_of (drop (run false 0 (c ∷ s)) (c ∷ s))) []
    go (inl e) =
        let d = extends_digit false 0 c e in
        let q = head_byte c s (digit_not c 9 (omega arith) d) (digit_not c 10 (omega arith) d) in
        ap is_numeral q ∙ numeral_extends c (head_of s) ∙ ap (extend_all false 0) (sym q) ∙ head_run false 0 (c ∷ s)
    go (inr e) = absurd (omega (arith, run_no false 0 c s e))

pub numeral_no_run : (s : List ℕ) → run false 0 s ≡ 0 → is_numeral (head_of s) ≡ false
numeral_no_run [] h = ap is_numeral head_nil ∙ numeral_empty
numeral_no_run (c ∷ s) h = go (head_cases c s) (test_cases (extends_by false 0 c))
  where
    go : (head_of (c ∷ s) ≡ []) ⊎ (head_of (c ∷ s) ≡ c ∷ head_of s) → (extends_by false 0 c ≡ true) ⊎ (extends_by false 0 c ≡ false) → is_numeral (head_of (c ∷ s)) ≡ false
    go (inl q) e = ap is_numeral q ∙ numeral_empty
    go (inr q) (inl e) = absurd (omega (arith, run_yes false 0 c s e))
    go (inr q) (inr e) =
        ap is_numeral q ∙ numeral_extends c (head_of s) ∙ extend_all_cons false 0 c (head_of s)
        ∙ and_false_left (extend_all true (0 * 10 + (c - 48)) (head_of s)) e

-- ---- the numerals that are left on a line

regroup : (a b c : Bool) → a && (b && c) ≡ (b && a) && c
regroup true true c = refl
regroup true false c = refl
regroup false true c = refl
regroup false false c = refl

pub after_split : (k : ℕ) (s : List ℕ) → after k s ≡ equal (head_of s) [] && eqb (length (fields_of s)) k && every is_numeral (fields_of s)
unfolding after
after_split k s = refl

after_tab_fields : (k : ℕ) (s : List ℕ) → after (suc k) (9 ∷ s) ≡ eqb (length (fields_of s)) k && (is_numeral (head_of s) && every is_numeral (fields_of s))
after_tab_fields k s =
    after_split (suc k) (9 ∷ s)
    ∙ ap₂ (λ h f. equal h [] && eqb (length f) (suc k) && every is_numeral f) (head_tab s) (fields_tab s)
    ∙ ap (λ t. t && eqb (suc (length (fields_of s))) (suc k) && every is_numeral (head_of s ∷ fields_of s)) (equal_nil [])
    ∙ ap₂ ◌&&◌ (eqb-suc-suc (length (fields_of s)) k) (every_cons is_numeral (head_of s) (fields_of s))

pub after_tab : (k : ℕ) (s : List ℕ) → 1 ≤ run false 0 s → after (suc k) (9 ∷ s) ≡ after k (drop (run false 0 s) s)
after_tab k s h =
    let t = drop (run false 0 s) s in
    after_tab_fields k s
    ∙ ap₂ (λ f e. eqb (length f) k && (e && every is_numeral f)) (fields_run false 0 s) (numeral_some_run s h)
    ∙ regroup (eqb (length (fields_of t)) k) (equal (head_of t) []) (every is_numeral (fields_of t))
    ∙ sym (after_split k t)

pub after_no_numeral : (k : ℕ) (s : List ℕ) → run false 0 s ≡ 0 → after (suc k) (9 ∷ s) ≡ false
after_no_numeral k s h =
    after_tab_fields k s
    ∙ and_false_right (eqb (length (fields_of s)) k) (and_false_left (every is_numeral (fields_of s)) (numeral_no_run s h))

pub numbers_tab : (k : ℕ) (s : List ℕ) → 1 ≤ run false 0 s → after k (drop (run false 0 s) s) ≡ true
    → map value_of (fields_of (9 ∷ s)) ≡ run_value false 0 s ∷ map value_of (fields_of (drop (run false 0 s) s))
numbers_tab k s h e =
    let t = drop (run false 0 s) s in
    let q : equal (head_of t) [] && eqb (length (fields_of t)) k && every is_numeral (fields_of t) ≡ true = sym (after_split k t) ∙ e in
    let g : equal (head_of t) [] ≡ true =
    and_left (equal (head_of t) []) (eqb (length (fields_of t)) k)
    (and_left (equal (head_of t) [] && eqb (length (fields_of t)) k) (every is_numeral (fields_of t)) q) in
    ap (map value_of) (fields_tab s)
    ∙ ap₂ (λ v f. v ∷ map value_of f) (value_run false 0 s (head_run false 0 s ∙ g)) (fields_run false 0 s)

-- a place where no field begins
pub after_none : (k : ℕ) → after (suc k) [] ≡ false
after_none k =
    after_split (suc k) [] ∙ ap₂ (λ h f. equal h [] && eqb (length f) (suc k) && every is_numeral f) head_nil fields_nil
    ∙ and_false_left (every is_numeral []) (and_false_right (equal [] []) (ne_eqb 0 (suc k) (λ z. omega arith)))

pub after_byte : (k c : ℕ) (s : List ℕ) → eqb c 9 ≡ false → eqb c 10 ≡ false → after k (c ∷ s) ≡ false
after_byte k c s e f =
    after_split k (c ∷ s) ∙ ap (λ h. equal h [] && eqb (length (fields_of (c ∷ s))) k && every is_numeral (fields_of (c ∷ s))) (head_byte c s e f)
    ∙ and_false_left (every is_numeral (fields_of (c ∷ s)))
    (and_false_left (eqb (length (fields_of (c ∷ s))) k) (equal_cons_nil c (head_of s)))

pub after_end : (s : List ℕ) → after 0 (10 ∷ s) ≡ true
after_end s =
    after_split 0 (10 ∷ s) ∙ ap₂ (λ h f. equal h [] && eqb (length f) 0 && every is_numeral f) (head_end s) (fields_end s)
    ∙ ap (λ t. t && eqb 0 0 && every is_numeral []) (equal_nil []) ∙ every_nil is_numeral

pub after_early : (k : ℕ) (s : List ℕ) → after (suc k) (10 ∷ s) ≡ false
after_early k s =
    after_split (suc k) (10 ∷ s) ∙ ap₂ (λ h f. equal h [] && eqb (length f) (suc k) && every is_numeral f) (head_end s) (fields_end s)
    ∙ and_false_left (every is_numeral []) (and_false_right (equal [] []) (ne_eqb 0 (suc k) (λ z. omega arith)))

pub after_late : (s : List ℕ) → after 0 (9 ∷ s) ≡ false
after_late s =
    after_split 0 (9 ∷ s)
    ∙ ap (λ f. equal (head_of (9 ∷ s)) [] && eqb (length f) 0 && every is_numeral f) (fields_tab s)
    ∙ and_false_left (every is_numeral (head_of s ∷ fields_of s))
    (and_false_right (equal (head_of (9 ∷ s)) []) (ne_eqb (suc (length (fields_of s))) 0 (λ z. omega arith)))

-- no field begins unless byte 9 stands here; no line ends unless byte 10 does
pub after_not_tab : (k c : ℕ) (s : List ℕ) → eqb c 9 ≡ false → after (suc k) (c ∷ s) ≡ false
after_not_tab k c s e = go (test_cases (eqb c 10))
  where
    go : (eqb c 10 ≡ true) ⊎ (eqb c 10 ≡ false) → after (suc k) (c ∷ s) ≡ false
    go (inl f) = ap (λ x. after (suc k) (x ∷ s)) (eqb-true c 10 f) ∙ after_early k s
    go (inr f) = after_byte (suc k) c s e f

pub after_not_end : (c : ℕ) (s : List ℕ) → eqb c 10 ≡ false → after 0 (c ∷ s) ≡ false
after_not_end c s f = go (test_cases (eqb c 9))
  where
    go : (eqb c 9 ≡ true) ⊎ (eqb c 9 ≡ false) → after 0 (c ∷ s) ≡ false
    go (inl e) = ap (λ x. after 0 (x ∷ s)) (eqb-true c 9 e) ∙ after_late s
    go (inr e) = after_byte 0 c s e f

-- ---- words

-- a word that stands at the head of a text is its beginning
pub word_starts : (s w : List ℕ) → starts_with eqb s w ≡ true → s ≡ w ++ drop (length w) s
word_starts s w = (starts_is Decides-eqb s w (starts_with eqb s w) refl).0

-- .. and one that does not is not the field's
head_front : (s : List ℕ) → s ≡ head_of s ++ drop (length (head_of s)) s
head_front [] = sym (ap (λ h. h ++ drop (length h) []) head_nil)
head_front (c ∷ s) = go (head_cases c s) (head_front s)
  where
    go : (head_of (c ∷ s) ≡ []) ⊎ (head_of (c ∷ s) ≡ c ∷ head_of s) → s ≡ head_of s ++ drop (length (head_of s)) s
        → c ∷ s ≡ head_of (c ∷ s) ++ drop (length (head_of (c ∷ s))) (c ∷ s)
    go (inl q) ih = sym (ap (λ h. h ++ drop (length h) (c ∷ s)) q)
    go (inr q) ih = ap (λ t. c ∷ t) ih ∙ sym (ap (λ h. h ++ drop (length h) (c ∷ s)) q)

pub other_starts : (s w : List ℕ) → starts_with eqb s w ≡ false → equal (head_of s) w ≡ false
other_starts s w e = go (test_cases (equal (head_of s) w))
  where
    go : (equal (head_of s) w ≡ true) ⊎ (equal (head_of s) w ≡ false) → equal (head_of s) w ≡ false
    go (inl t) =
        let here : s ≡ w ++ drop (length w) s = subst (λ h. s ≡ h ++ drop (length h) s) (equal→≡ (head_of s) w t) (head_front s) in
        never (starts_with eqb s w) ((starts_is Decides-eqb s w (starts_with eqb s w) refl).1 (drop (length w) s) here) e
    go (inr t) = t

-- a word that parts nothing, being without bytes 9 and 10
pub head_word : (w s : List ℕ) → free 9 w ≡ true → free 10 w ≡ true → head_of (w ++ s) ≡ w ++ head_of s
head_word [] s e f = refl
head_word (c ∷ w) s e f =
    head_byte c (w ++ s) (free_head 9 c w e) (free_head 10 c w f) ∙ ap (λ l. c ∷ l) (head_word w s (free_tail 9 c w e) (free_tail 10 c w f))

pub fields_word : (w s : List ℕ) → free 9 w ≡ true → free 10 w ≡ true → fields_of (w ++ s) ≡ fields_of s
fields_word [] s e f = refl
fields_word (c ∷ w) s e f =
    fields_byte c (w ++ s) (free_head 9 c w e) (free_head 10 c w f) ∙ fields_word w s (free_tail 9 c w e) (free_tail 10 c w f)

pub later_word : (w s : List ℕ) → free 10 w ≡ true → later (w ++ s) ≡ later s
later_word [] s f = refl
later_word (c ∷ w) s f = later_byte c (w ++ s) (free_head 10 c w f) ∙ later_word w s (free_tail 10 c w f)
