-- The order of the lines' letters, read from left to right.
--     ranks ls             the forms of lines, as numbers
--     order fs             lines of each of the forms fs, one form after the other, then `end` and nothing after it
--     forms_after f         the forms whose lines come after those of form f
--     onward f, past f     the order of letters from the lines of form f on, and after them
--     closing, body, whole         `end` and nothing after it; the `a`, `s` and `b` lines before that; the `system` line before that
--     fresh g fs           g is none of fs, nor the form of a line after them
-- Laws: whole_form : in_form text ≡ whole (lines text); order_more, order_other, order_last: what each line leaves; order_none: in an order of other
-- forms no line of form g stands.
use Rattle.std.specs.Prelude.{◌≡◌, refl, ◌⊎◌, Bool, true, false, not, ◌&&◌, List, [], ◌∷◌, ◌++◌, map, ℕ, zero, suc, eqb, length, replicate}
use Rattle.std.proofs.Common.{sym, ap₂, ◌∙◌, inl, inr, append_assoc, arith, eqb-true, ne_eqb}
use Rattle.std.proofs.Math.Path.{ap}
use Rattle.std.proofs.Math.Bool.{cond}
use Rattle.std.proofs.lemmas.Bool.{eqb-false, not-true}
use Rattle.meaning.specs.List.{every, equal}
use Rattle.meaning.specs.Text.{Form, header, entry, scale, element, ending, nothing, broken, rank, is_of, Line, lines, saying, in_form}
use Rattle.laws.specs.Bool.{and_left, and_right, and_false_left, and_false_right, test_cases}
use Rattle.laws.specs.List.{equal→≡}
use Rattle.text_laws.specs.Lists.{select_nil, select_yes, select_no, every_head, every_tail}

unfoldable pub ranks : List Line → List ℕ
ranks ls = map (λ l. rank l.form) ls

-- lines of form f, and then what `rest` takes
unfoldable pub lead : Form → (List Line → Bool) → List Line → Bool
lead f rest [] = false
lead f rest (l ∷ ls) =
    let more = lead f rest ls in
    cond (is_of f l) more (rest (l ∷ ls))

unfoldable pub order : List Form → List Line → Bool
order [] ls = equal (ranks ls) (4 ∷ 5 ∷ [])
order (f ∷ fs) ls = lead f (order fs) ls

abbrev pub forms_after : Form → List Form
forms_after header = entry ∷ scale ∷ element ∷ []
forms_after entry = scale ∷ element ∷ []
forms_after scale = element ∷ []
forms_after element = []
forms_after ending = []
forms_after nothing = []
forms_after broken = []

abbrev pub onward : Form → List Line → Bool
onward f = order (f ∷ forms_after f)

abbrev pub past : Form → List Line → Bool
past f = order (forms_after f)

abbrev pub closing : List Line → Bool
closing = past element

abbrev pub body : List Line → Bool
body = past header

unfoldable pub whole : List Line → Bool
whole [] = false
whole (l ∷ ls) = is_of header l && body ls

-- ---- clauses

module _ (f : Form) (fs : List Form) (l : Line) (ls : List Line) where
  pub order_more : is_of f l ≡ true → order (f ∷ fs) (l ∷ ls) ≡ order (f ∷ fs) ls
  unfolding order lead
  order_more e = ap (λ t. cond t (lead f (order fs) ls) (order fs (l ∷ ls))) e

  pub order_other : is_of f l ≡ false → order (f ∷ fs) (l ∷ ls) ≡ order fs (l ∷ ls)
  unfolding order lead
  order_other e = ap (λ t. cond t (lead f (order fs) ls) (order fs (l ∷ ls))) e

order_nothing : (f : Form) (fs : List Form) → order (f ∷ fs) [] ≡ false
unfolding order lead
order_nothing f fs = refl

pub order_closing : (ls : List Line) → closing ls ≡ equal (ranks ls) (4 ∷ 5 ∷ [])
unfolding order
order_closing ls = refl

pub whole_header : (l : Line) (ls : List Line) → is_of header l ≡ true → whole (l ∷ ls) ≡ body ls
unfolding whole
whole_header l ls e = ap (λ t. t && body ls) e

pub whole_other : (l : Line) (ls : List Line) → is_of header l ≡ false → whole (l ∷ ls) ≡ false
unfolding whole
whole_other l ls e = ap (λ t. t && body ls) e

-- ---- the numbers of the lines of one form

pub saying_nil : (f : Form) → saying f [] ≡ []
unfolding saying
saying_nil f = ap (map (λ l. l.numbers)) (select_nil (is_of f))

pub saying_yes : (f : Form) (l : Line) (ls : List Line) → is_of f l ≡ true → saying f (l ∷ ls) ≡ l.numbers ∷ saying f ls
unfolding saying
saying_yes f l ls e = ap (map (λ l. l.numbers)) (select_yes (is_of f) l ls e)

pub saying_no : (f : Form) (l : Line) (ls : List Line) → is_of f l ≡ false → saying f (l ∷ ls) ≡ saying f ls
unfolding saying
saying_no f l ls e = ap (map (λ l. l.numbers)) (select_no (is_of f) l ls e)

-- ---- where no line is of a form

abbrev others : Form → List ℕ → Bool
others g rs = every (λ r. not (eqb r (rank g))) rs

abbrev pub fresh : Form → List Form → Bool
fresh g fs = others g (map rank fs ++ (4 ∷ 5 ∷ []))

saying_none : (g : Form) (ls : List Line) → others g (ranks ls) ≡ true → saying g ls ≡ []
unfolding ranks
saying_none g [] e = saying_nil g
saying_none g (l ∷ ls) e =
    saying_no g l ls (not-true (is_of g l) (every_head (λ r. not (eqb r (rank g))) (rank l.form) (ranks ls) e))
    ∙ saying_none g ls (every_tail (λ r. not (eqb r (rank g))) (rank l.form) (ranks ls) e)

-- one form at most
not_both : (f g : Form) (l : Line) → eqb (rank f) (rank g) ≡ false → is_of f l ≡ true → is_of g l ≡ false
not_both f g l e t = ap (λ r. eqb r (rank g)) (eqb-true (rank l.form) (rank f) t) ∙ e

module _ (g f : Form) (fs : List Form) (e : fresh g (f ∷ fs) ≡ true) where
  fresh_first : eqb (rank f) (rank g) ≡ false
  fresh_first = not-true (eqb (rank f) (rank g)) (every_head (λ r. not (eqb r (rank g))) (rank f) (map rank fs ++ (4 ∷ 5 ∷ [])) e)

  fresh_rest : fresh g fs ≡ true
  fresh_rest = every_tail (λ r. not (eqb r (rank g))) (rank f) (map rank fs ++ (4 ∷ 5 ∷ [])) e

lead_none : (g f : Form) (fs : List Form) → eqb (rank f) (rank g) ≡ false → ((ls : List Line) → order fs ls ≡ true → saying g ls ≡ [])
    → (ls : List Line) → order (f ∷ fs) ls ≡ true → saying g ls ≡ []
lead_none g f fs e rest [] o = saying_nil g
lead_none g f fs e rest (l ∷ ls) o = go (test_cases (is_of f l)) (lead_none g f fs e rest ls)
  where
    go : (is_of f l ≡ true) ⊎ (is_of f l ≡ false) → (order (f ∷ fs) ls ≡ true → saying g ls ≡ []) → saying g (l ∷ ls) ≡ []
    go (inl q) ih = saying_no g l ls (not_both f g l e q) ∙ ih (sym (order_more f fs l ls q) ∙ o)
    go (inr q) ih = rest (l ∷ ls) (sym (order_other f fs l ls q) ∙ o)

pub order_none : (g : Form) (fs : List Form) → fresh g fs ≡ true → (ls : List Line) → order fs ls ≡ true → saying g ls ≡ []
order_none g [] e ls o =
    saying_none g ls (ap (others g) (equal→≡ (ranks ls) (4 ∷ 5 ∷ []) (sym (order_closing ls) ∙ o)) ∙ e)
order_none g (f ∷ fs) e ls o = lead_none g f fs (fresh_first g f fs e) (order_none g fs (fresh_rest g f fs e)) ls o

-- ---- the meaning's order

-- k times x, and then r: equal to what begins with x, and to nothing else unless k is 0
equal_more : (x k : ℕ) (r : List ℕ) (a : ℕ) (l : List ℕ) → eqb a x ≡ true → equal (a ∷ l) (replicate (suc k) x ++ r) ≡ equal l (replicate k x ++ r)
unfolding equal
equal_more x k r a l e = ap (λ t. t && equal l (replicate k x ++ r)) e

equal_stops : (x k : ℕ) (r : List ℕ) (a : ℕ) (l : List ℕ) → eqb a x ≡ false → (equal (a ∷ l) r ≡ true → k ≡ 0) → equal (a ∷ l) r ≡ equal (a ∷ l) (replicate k x ++ r)
unfolding equal
equal_stops x zero r a l e h = refl
equal_stops x (suc k) r a l e h = go (test_cases (equal (a ∷ l) r))
  where
    go : (equal (a ∷ l) r ≡ true) ⊎ (equal (a ∷ l) r ≡ false) → equal (a ∷ l) r ≡ eqb a x && equal l (replicate k x ++ r)
    go (inl t) = absurd (omega (arith, h t))
    go (inr t) = t ∙ sym (and_false_left (equal l (replicate k x ++ r)) e)

abbrev tally : Form → List Line → ℕ
tally f ls = length (saying f ls)

-- as many ranks of each form as there are lines of it, and then those of the end
blocks : List Form → List Line → List ℕ
blocks [] ls = 4 ∷ 5 ∷ []
blocks (f ∷ fs) ls = replicate (tally f ls) (rank f) ++ blocks fs ls

ranks_cons : (l : Line) (ls : List Line) → ranks (l ∷ ls) ≡ rank l.form ∷ ranks ls
unfolding ranks
ranks_cons l ls = refl

ranks_nil : ranks [] ≡ []
unfolding ranks
ranks_nil = refl

no_blocks : (fs : List Form) (ls : List Line) → equal [] (blocks fs ls) ≡ false
unfolding blocks equal
no_blocks [] ls = refl
no_blocks (f ∷ fs) ls = go (tally f ls) (no_blocks fs ls)
  where
    go : (k : ℕ) → equal [] (blocks fs ls) ≡ false → equal [] (replicate k (rank f) ++ blocks fs ls) ≡ false
    go zero ih = ih
    go (suc k) ih = refl

-- a line of another form doesn't count
blocks_past : (g : Form) (fs : List Form) (l : Line) (ls : List Line) → fresh g fs ≡ true → is_of g l ≡ true → blocks fs (l ∷ ls) ≡ blocks fs ls
unfolding blocks
blocks_past g [] l ls e q = refl
blocks_past g (f ∷ fs) l ls e q =
    let n : eqb (rank g) (rank f) ≡ false = ne_eqb (rank g) (rank f) (λ z. eqb-false (rank f) (rank g) (fresh_first g f fs e) (sym z)) in
    ap₂ (λ k r. replicate (length k) (rank f) ++ r) (saying_no f l ls (not_both g f l n q)) (blocks_past g fs l ls (fresh_rest g f fs e) q)

lead_form : (f : Form) (fs : List Form) → fresh f fs ≡ true → ((ls : List Line) → order fs ls ≡ equal (ranks ls) (blocks fs ls))
    → (ls : List Line) → order (f ∷ fs) ls ≡ equal (ranks ls) (blocks (f ∷ fs) ls)
unfolding blocks
lead_form f fs e rest [] = order_nothing f fs ∙ sym (ap (λ r. equal r (blocks (f ∷ fs) [])) ranks_nil ∙ no_blocks (f ∷ fs) [])
lead_form f fs e rest (l ∷ ls) = go (test_cases (is_of f l)) (lead_form f fs e rest ls)
  where
    go : (is_of f l ≡ true) ⊎ (is_of f l ≡ false) → order (f ∷ fs) ls ≡ equal (ranks ls) (blocks (f ∷ fs) ls)
        → order (f ∷ fs) (l ∷ ls) ≡ equal (ranks (l ∷ ls)) (blocks (f ∷ fs) (l ∷ ls))
    go (inl q) ih =
        order_more f fs l ls q ∙ ih ∙ sym (equal_more (rank f) (tally f ls) (blocks fs ls) (rank l.form) (ranks ls) q)
        ∙ sym (ap (λ r. equal r (blocks (f ∷ fs) (l ∷ ls))) (ranks_cons l ls)
        ∙ ap₂ (λ k r. equal (rank l.form ∷ ranks ls) (replicate (length k) (rank f) ++ r)) (saying_yes f l ls q) (blocks_past f fs l ls e q))
    go (inr q) ih =
        order_other f fs l ls q ∙ rest (l ∷ ls) ∙ ap (λ r. equal r (blocks fs (l ∷ ls))) (ranks_cons l ls)
        ∙ equal_stops (rank f) (tally f (l ∷ ls)) (blocks fs (l ∷ ls)) (rank l.form) (ranks ls) q
        (λ t. ap length (order_none f fs e (l ∷ ls) (rest (l ∷ ls) ∙ ap (λ r. equal r (blocks fs (l ∷ ls))) (ranks_cons l ls) ∙ t)))
        ∙ sym (ap (λ r. equal r (blocks (f ∷ fs) (l ∷ ls))) (ranks_cons l ls))

-- each form is none of those after it
unfoldable distinct : List Form → Bool
distinct [] = true
distinct (f ∷ fs) = fresh f fs && distinct fs

order_form : (fs : List Form) → distinct fs ≡ true → (ls : List Line) → order fs ls ≡ equal (ranks ls) (blocks fs ls)
unfolding distinct blocks
order_form [] e ls = order_closing ls
order_form (f ∷ fs) e ls =
    lead_form f fs (and_left (fresh f fs) (distinct fs) e) (order_form fs (and_right (fresh f fs) (distinct fs) e)) ls

formed : List Line → Bool
formed ls = equal (ranks ls) (0 ∷ blocks (forms_after header) ls)

formed_whole : (ls : List Line) → formed ls ≡ whole ls
unfolding formed whole equal distinct every
formed_whole [] = ap (λ r. equal r (0 ∷ blocks (forms_after header) [])) ranks_nil
formed_whole (l ∷ ls) = ap (λ r. equal r (0 ∷ blocks (forms_after header) (l ∷ ls))) (ranks_cons l ls) ∙ go (test_cases (is_of header l))
  where
    go : (is_of header l ≡ true) ⊎ (is_of header l ≡ false)
        → is_of header l && equal (ranks ls) (blocks (forms_after header) (l ∷ ls)) ≡ is_of header l && body ls
    go (inl q) =
        ap (λ t. is_of header l && t)
        (ap (equal (ranks ls)) (blocks_past header (forms_after header) l ls refl q) ∙ sym (order_form (forms_after header) refl ls))
    go (inr q) = and_false_left (equal (ranks ls) (blocks (forms_after header) (l ∷ ls))) q ∙ sym (and_false_left (body ls) q)

in_form_ranks : (text : List ℕ) → in_form text ≡ formed (lines text)
unfolding in_form formed ranks blocks
in_form_ranks text = simp append_assoc

pub whole_form : (text : List ℕ) → in_form text ≡ whole (lines text)
whole_form text = in_form_ranks text ∙ formed_whole (lines text)

-- ---- a line that does not end, and none after it

pub order_last : (fs : List Form) (l : Line) → order fs (l ∷ []) ≡ false
unfolding order ranks equal
order_last [] l = and_false_right (eqb (rank l.form) 4) refl
order_last (f ∷ fs) l = go (test_cases (is_of f l)) (order_last fs l)
  where
    go : (is_of f l ≡ true) ⊎ (is_of f l ≡ false) → order fs (l ∷ []) ≡ false → order (f ∷ fs) (l ∷ []) ≡ false
    go (inl q) ih = order_more f fs l [] q ∙ order_nothing f fs
    go (inr q) ih = order_other f fs l [] q ∙ ih

pub whole_last : (l : Line) → whole (l ∷ []) ≡ false
unfolding whole
whole_last l = and_false_right (is_of header l) (order_nothing entry (forms_after entry))
