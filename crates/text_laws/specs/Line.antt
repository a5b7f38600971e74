-- Lines and fields: cutting and joining are inverse, so a text is determined by its lines' fields.
--     free c w             no byte of w is c
--     joined c ws          the parts ws with one c between each two
--     joined_cons, joined_one, joined_two       its clauses, and one part more
--     parts_nil, parts_cut, parts_other, on_first_cons      the clauses of parts and on_first
--     free_head, free_tail the first byte and the others of a list without c
--     parts_free           a list without c is one part
--     parts_more           parts c (w ++ c ∷ l) ≡ w ∷ parts c l for w without c
--     parts_joined         parts c (joined c (w ∷ ws)) ≡ w ∷ ws for parts without c
--     parts_some           there is a part at least
--     joined_parts         joined c (parts c l) ≡ l
--     digits_free          digits are without bytes 9 and 10 (and any below 48)
--     line_joined          line (w ∷ ws) ≡ joined 9 (w ∷ ws) ++ (10 ∷ [])
--     line_last, line_more, length_line_last, length_line_more      a line field by field, and its length
--     line_two_words       a line whose first word is two, with a tab between them
--     line_parts           line (parts 9 l) ≡ l ++ (10 ∷ [])
--     line_fields_nil, line_fields_line      the text cut into lines and fields: fields without bytes 9 and 10 are found again
--     lines_parts, lines_nil, lines_cut      what these lines say
--     lines_line           lines (line (w ∷ ws) ++ text) ≡ line_of (w ∷ ws) ∷ lines text for fields without bytes 9 and 10
use Rattle.std.specs.Prelude.{◌≡◌, refl, ◌⊎◌, Bool, true, false, not, cond, List, [], ◌∷◌, ◌++◌, map, ℕ, suc, ◌+◌, ◌<◌, eqb, length}
use Rattle.std.proofs.Common.{sym, ap, ap₂, ◌∙◌, inl, inr, append_assoc, append-nil, arith, length-append, eqb-true, eq-eqb, ne_eqb}
use Rattle.std.proofs.lemmas.Simd.{map-map}
use Rattle.std.proofs.lemmas.Bool.{not-true}
use Rattle.meaning.specs.List.{every, flat}
use Rattle.meaning.specs.Text.{is_digit, line, on_first, parts, line_fields, line_of, lines}
use Rattle.laws.specs.Bool.{test_cases}
use Rattle.text_laws.specs.Lists.{flat_nil, flat_cons, every_join, every_head, every_tail, every_more, every_weaken}
use Rattle.text_laws.specs.Numeral.{digit_low}

abbrev pub free : ℕ → List ℕ → Bool
free c w = every (λ x. not (eqb x c)) w

unfoldable pub joined : ℕ → List (List ℕ) → List ℕ
joined c [] = []
joined c (w ∷ ws) = w ++ flat (map (λ x. c ∷ x) ws)

pub joined_cons : (c : ℕ) (w : List ℕ) (ws : List (List ℕ)) → joined c (w ∷ ws) ≡ w ++ flat (map (λ x. c ∷ x) ws)
unfolding joined
joined_cons c w ws = refl

pub joined_one : (c : ℕ) (w : List ℕ) → joined c (w ∷ []) ≡ w
joined_one c w = joined_cons c w [] ∙ ap (λ l. w ++ l) flat_nil ∙ append-nil w

pub joined_two : (c : ℕ) (w v : List ℕ) (ws : List (List ℕ)) → joined c (w ∷ v ∷ ws) ≡ w ++ c ∷ joined c (v ∷ ws)
joined_two c w v ws =
    joined_cons c w (v ∷ ws) ∙ ap (λ l. w ++ l) (flat_cons (c ∷ v) (map (λ x. c ∷ x) ws)) ∙ ap (λ l. w ++ c ∷ l) (sym (joined_cons c v ws))

-- ---- cutting

pub parts_nil : (c : ℕ) → parts c [] ≡ [] ∷ []
unfolding parts
parts_nil c = refl

parts_cons : (c x : ℕ) (l : List ℕ) → parts c (x ∷ l) ≡ cond (eqb x c) ([] ∷ parts c l) (on_first x (parts c l))
unfolding parts
parts_cons c x l = refl

pub parts_cut : (c : ℕ) (l : List ℕ) → parts c (c ∷ l) ≡ [] ∷ parts c l
parts_cut c l = parts_cons c c l ∙ ap (λ t. cond t ([] ∷ parts c l) (on_first c (parts c l))) (eq-eqb c c refl)

pub parts_other : (c x : ℕ) (l : List ℕ) → eqb x c ≡ false → parts c (x ∷ l) ≡ on_first x (parts c l)
parts_other c x l e = parts_cons c x l ∙ ap (λ t. cond t ([] ∷ parts c l) (on_first x (parts c l))) e

pub on_first_cons : (x : ℕ) (w : List ℕ) (ws : List (List ℕ)) → on_first x (w ∷ ws) ≡ (x ∷ w) ∷ ws
unfolding on_first
on_first_cons x w ws = refl

pub free_head : (c x : ℕ) (w : List ℕ) → free c (x ∷ w) ≡ true → eqb x c ≡ false
free_head c x w e = not-true (eqb x c) (every_head (λ x. not (eqb x c)) x w e)

pub free_tail : (c x : ℕ) (w : List ℕ) → free c (x ∷ w) ≡ true → free c w ≡ true
free_tail c x w e = every_tail (λ x. not (eqb x c)) x w e

pub parts_free : (c : ℕ) (w : List ℕ) → free c w ≡ true → parts c w ≡ w ∷ []
parts_free c [] e = parts_nil c
parts_free c (x ∷ w) e =
    parts_other c x w (free_head c x w e) ∙ ap (on_first x) (parts_free c w (free_tail c x w e)) ∙ on_first_cons x w []

pub parts_more : (c : ℕ) (w l : List ℕ) → free c w ≡ true → parts c (w ++ c ∷ l) ≡ w ∷ parts c l
parts_more c [] l e = parts_cut c l
parts_more c (x ∷ w) l e =
    parts_other c x (w ++ c ∷ l) (free_head c x w e) ∙ ap (on_first x) (parts_more c w l (free_tail c x w e)) ∙ on_first_cons x w (parts c l)

pub parts_joined : (c : ℕ) (w : List ℕ) (ws : List (List ℕ)) → every (free c) (w ∷ ws) ≡ true → parts c (joined c (w ∷ ws)) ≡ w ∷ ws
parts_joined c w [] e = ap (parts c) (joined_one c w) ∙ parts_free c w (every_head (free c) w [] e)
parts_joined c w (v ∷ ws) e =
    ap (parts c) (joined_two c w v ws) ∙ parts_more c w (joined c (v ∷ ws)) (every_head (free c) w (v ∷ ws) e)
    ∙ ap (λ r. w ∷ r) (parts_joined c v ws (every_tail (free c) w (v ∷ ws) e))

-- ---- joining

-- there is a part at least
pub parts_some : (c : ℕ) (l : List ℕ) → (w : List ℕ) × (ws : List (List ℕ)) × (parts c l ≡ w ∷ ws)
parts_some c [] = ([], [], parts_nil c)
parts_some c (x ∷ l) = go (test_cases (eqb x c)) (parts_some c l)
  where
    go : (eqb x c ≡ true) ⊎ (eqb x c ≡ false) → (w : List ℕ) × (ws : List (List ℕ)) × (parts c l ≡ w ∷ ws)
        → (w : List ℕ) × (ws : List (List ℕ)) × (parts c (x ∷ l) ≡ w ∷ ws)
    go (inl e) s = ([], parts c l, ap (λ y. parts c (y ∷ l)) (eqb-true x c e) ∙ parts_cut c l)
    go (inr e) s = (x ∷ s.0, s.1, parts_other c x l e ∙ ap (on_first x) s.2 ∙ on_first_cons x s.0 s.1)

pub joined_parts : (c : ℕ) (l : List ℕ) → joined c (parts c l) ≡ l
joined_parts c [] = ap (joined c) (parts_nil c) ∙ joined_one c []
joined_parts c (x ∷ l) = go (test_cases (eqb x c)) (parts_some c l) (joined_parts c l)
  where
    go : (eqb x c ≡ true) ⊎ (eqb x c ≡ false) → (w : List ℕ) × (ws : List (List ℕ)) × (parts c l ≡ w ∷ ws)
        → joined c (parts c l) ≡ l → joined c (parts c (x ∷ l)) ≡ x ∷ l
    go (inl e) s ih =
        ap (λ y. joined c (parts c (y ∷ l))) (eqb-true x c e) ∙ ap (joined c) (parts_cut c l ∙ ap (λ r. [] ∷ r) s.2)
        ∙ joined_two c [] s.0 s.1 ∙ ap (λ r. c ∷ joined c r) (sym s.2) ∙ ap₂ ◌∷◌ (sym (eqb-true x c e)) ih
    go (inr e) s ih =
        ap (joined c) (parts_other c x l e ∙ ap (on_first x) s.2 ∙ on_first_cons x s.0 s.1)
        ∙ joined_cons c (x ∷ s.0) s.1 ∙ ap (λ r. x ∷ r) (sym (joined_cons c s.0 s.1))
        ∙ ap (λ r. x ∷ joined c r) (sym s.2) ∙ ap (λ r. x ∷ r) ih

-- ---- fields

pub digits_free : (c : ℕ) (w : List ℕ) → c < 48 → every is_digit w ≡ true → free c w ≡ true
digits_free c w h e =
    every_weaken is_digit (λ x. not (eqb x c)) w
    (λ x d. ap not (ne_eqb x c (λ z. omega (arith, digit_low x d))))
    e

-- ---- lines

pub line_joined : (w : List ℕ) (ws : List (List ℕ)) → line (w ∷ ws) ≡ joined 9 (w ∷ ws) ++ (10 ∷ [])
unfolding line
line_joined w ws = ap (λ l. l ++ (10 ∷ [])) (sym (joined_cons 9 w ws))

pub line_last : (w : List ℕ) → line (w ∷ []) ≡ w ++ (10 ∷ [])
line_last w = line_joined w [] ∙ ap (λ l. l ++ (10 ∷ [])) (joined_one 9 w)

pub line_more : (w v : List ℕ) (ws : List (List ℕ)) → line (w ∷ v ∷ ws) ≡ w ++ 9 ∷ line (v ∷ ws)
line_more w v ws =
    line_joined w (v ∷ ws) ∙ ap (λ l. l ++ (10 ∷ [])) (joined_two 9 w v ws) ∙ append_assoc w (9 ∷ joined 9 (v ∷ ws)) (10 ∷ [])
    ∙ ap (λ l. w ++ 9 ∷ l) (sym (line_joined v ws))

-- two words with a tab between them, written as one
pub line_two_words : (v w : List ℕ) (ws : List (List ℕ)) → line ((v ++ 9 ∷ w) ∷ ws) ≡ line (v ∷ w ∷ ws)
unfolding line
line_two_words v w ws =
    ap (λ l. l ++ (10 ∷ []))
    (append_assoc v (9 ∷ w) (flat (map (λ x. 9 ∷ x) ws)) ∙ ap (λ l. v ++ l) (sym (flat_cons (9 ∷ w) (map (λ x. 9 ∷ x) ws))))

pub length_line_last : (w : List ℕ) → length (line (w ∷ [])) ≡ length w + 1
length_line_last w = ap length (line_last w) ∙ length-append w (10 ∷ [])

pub length_line_more : (w v : List ℕ) (ws : List (List ℕ)) → length (line (w ∷ v ∷ ws)) ≡ length w + suc (length (line (v ∷ ws)))
length_line_more w v ws = ap length (line_more w v ws) ∙ length-append w (9 ∷ line (v ∷ ws))

-- a line is the line of its fields
pub line_parts : (l : List ℕ) → line (parts 9 l) ≡ l ++ (10 ∷ [])
line_parts l =
    let s = parts_some 9 l in
    ap line s.2 ∙ line_joined s.0 s.1 ∙ ap (λ r. joined 9 r ++ (10 ∷ [])) (sym s.2) ∙ ap (λ r. r ++ (10 ∷ [])) (joined_parts 9 l)

joined_free : (c d : ℕ) (w : List ℕ) (ws : List (List ℕ)) → eqb c d ≡ false → every (free d) (w ∷ ws) ≡ true → free d (joined c (w ∷ ws)) ≡ true
joined_free c d w [] h e = ap (free d) (joined_one c w) ∙ every_head (free d) w [] e
joined_free c d w (v ∷ ws) h e =
    ap (free d) (joined_two c w v ws)
    ∙ every_join (λ x. not (eqb x d)) w (c ∷ joined c (v ∷ ws)) (every_head (free d) w (v ∷ ws) e)
    (every_more (λ x. not (eqb x d)) c (joined c (v ∷ ws)) (ap not h) (joined_free c d v ws h (every_tail (free d) w (v ∷ ws) e)))

-- ---- the text cut into lines, and these into fields

line_fields_parts : (text : List ℕ) → line_fields text ≡ map (parts 9) (parts 10 text)
unfolding line_fields
line_fields_parts text = refl

pub line_fields_nil : line_fields [] ≡ ([] ∷ []) ∷ []
line_fields_nil = line_fields_parts [] ∙ ap (map (parts 9)) (parts_nil 10) ∙ ap (λ w. w ∷ []) (parts_nil 9)

-- a line of bytes other than 10, then more lines
line_fields_cut : (l text : List ℕ) → free 10 l ≡ true → line_fields (l ++ 10 ∷ text) ≡ parts 9 l ∷ line_fields text
line_fields_cut l text e =
    line_fields_parts (l ++ 10 ∷ text) ∙ ap (map (parts 9)) (parts_more 10 l text e) ∙ ap (λ r. parts 9 l ∷ r) (sym (line_fields_parts text))

pub line_fields_line : (w : List ℕ) (ws : List (List ℕ)) (text : List ℕ) → every (free 9) (w ∷ ws) ≡ true → every (free 10) (w ∷ ws) ≡ true
    → line_fields (line (w ∷ ws) ++ text) ≡ (w ∷ ws) ∷ line_fields text
line_fields_line w ws text e f =
    ap (λ l. line_fields (l ++ text)) (line_joined w ws) ∙ ap line_fields (append_assoc (joined 9 (w ∷ ws)) (10 ∷ []) text)
    ∙ line_fields_cut (joined 9 (w ∷ ws)) text (joined_free 9 10 w ws refl f)
    ∙ ap (λ r. r ∷ line_fields text) (parts_joined 9 w ws e)

lines_fields : (text : List ℕ) → lines text ≡ map line_of (line_fields text)
unfolding lines
lines_fields text = refl

pub lines_parts : (text : List ℕ) → lines text ≡ map (λ l. line_of (parts 9 l)) (parts 10 text)
lines_parts text = lines_fields text ∙ ap (map line_of) (line_fields_parts text) ∙ map-map line_of (parts 9) (parts 10 text)

pub lines_nil : lines [] ≡ line_of ([] ∷ []) ∷ []
lines_nil = lines_fields [] ∙ ap (map line_of) line_fields_nil

pub lines_cut : (l text : List ℕ) → free 10 l ≡ true → lines (l ++ 10 ∷ text) ≡ line_of (parts 9 l) ∷ lines text
lines_cut l text e =
    lines_fields (l ++ 10 ∷ text) ∙ ap (map line_of) (line_fields_cut l text e) ∙ ap (λ r. line_of (parts 9 l) ∷ r) (sym (lines_fields text))

pub lines_line : (w : List ℕ) (ws : List (List ℕ)) (text : List ℕ) → every (free 9) (w ∷ ws) ≡ true → every (free 10) (w ∷ ws) ≡ true
    → lines (line (w ∷ ws) ++ text) ≡ line_of (w ∷ ws) ∷ lines text
lines_line w ws text e f =
    lines_fields (line (w ∷ ws) ++ text) ∙ ap (map line_of) (line_fields_line w ws text e f) ∙ ap (λ r. line_of (w ∷ ws) ∷ r) (sym (lines_fields text))
