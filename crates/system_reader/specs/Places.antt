-- The `a` lines, and the lines of a place and a value, from a place on; and their places and values by the line before.
--     placed_by w, PlaceWord w          the form of the lines of a place and a value with the word w; that w is `s` or `b`
--     entries_of s, places_of w s        what the `a` lines of s say, and those with the word w; scales_of, elements_of: the `s` and the `b` lines
--     entry_taken, place_taken           a line's place is in range and after that of the line before: of an `a` line, of an `s` or a `b` line
--     entries_taken, places_after        the same of all lines
--     entry_values, place_values, ones   the values of all lines are taken; they are 1
--     Tested                           what a test says of the lines between two places
--     Passed, Read                     what is known of the lines of one form that were read, and where they end
--     EntriesPassed, EntriesRead, PlacesPassed, PlacesRead         .. of the `a` lines, and of those of a place and a value
-- Laws: placed_form: what holds of both forms; place_line_law: a line with the word w, or none; entries_places, places_rise: all places are taken exactly
-- if check 6 takes them; passed_none, passed_more, passed_end: no line, a line more, the last one; entry_more, entries_end; places_begin, place_more,
-- places_end; entry_fresh, place_fresh: no line of that form stands after them.
use Rattle.std.specs.Prelude.{◌≡◌, refl, ◌⊎◌, Bool, true, false, cond, ◌&&◌, ◌||◌, ℕ, ◌+◌, ◌≤◌, eqb, ltb, leb, length, drop, Option}
use Rattle.std.proofs.Math.Path.{sym, ap}
use Rattle.std.proofs.Common.{ap₂, ◌∙◌, inl, inr, arith, add-zero, lt-ltb, leb-true, eq-eqb}
use Rattle.std.proofs.Math.Bool.{and-true, and_assoc, or-false}
use mathlib.Core.List.{List, [], ◌∷◌}
use Rattle.meaning.specs.List.{at, every, chain, chain_from}
use Rattle.meaning.specs.Text as text
use Rattle.meaning.specs.Text.{lines, saying, row}
use Rattle.meaning.specs.Refusal.{within, before, rows_rise, value_taken}
use Rattle.laws.specs.Bool.{and_left, test_cases}
use Rattle.laws.specs.List.{every_nil, every_cons}
use Rattle.text_laws.specs.Form.{word, arity}
use Rattle.system_reader.specs.Order.{onward, past, forms_after, fresh, saying_yes, saying_no, order_more, order_none}
use Rattle.system_reader.specs.Lines.{Here, said, Missing, LineOf, LineAt, form_missing}
use Rattle.system_reader.specs.declared.numeral.Line.{Line}
use Rattle.system_reader.specs.declared.survey.Group.{Group}
use Rattle.system_reader.specs.declared.survey.Placed.{Placed}

-- 115 is the letter `s`
abbrev pub placed_by : List ℕ → text.Form
placed_by w = cond (eqb (at w 0) 115) text.scale text.element

abbrev pub PlaceWord : List ℕ → Type 0
PlaceWord w = w ≡ word (placed_by w)

pub placed_form : (P : text.Form → Type 0) → P text.scale → P text.element → (w : List ℕ) → P (placed_by w)
placed_form P a b w = go (eqb (at w 0) 115)
  where
    go : (t : Bool) → P (cond t text.scale text.element)
    go true = a
    go false = b

abbrev pub entries_of : List ℕ → List (List ℕ)
entries_of s = saying text.entry (lines s)

abbrev pub scales_of : List ℕ → List (List ℕ)
scales_of s = saying text.scale (lines s)

abbrev pub elements_of : List ℕ → List (List ℕ)
elements_of s = saying text.element (lines s)

abbrev pub places_of : List ℕ → List ℕ → List (List ℕ)
places_of w s = saying (placed_by w) (lines s)

abbrev pub entry_taken : ℕ → ℕ → ℕ → ℕ → ℕ → Bool
entry_taken n i j r c = within 1 n r && within 1 n c && (ltb i r || (eqb i r && ltb j c))

abbrev pub place_taken : ℕ → ℕ → ℕ → Bool
place_taken n i r = within 1 n r && ltb i r

unfoldable pub entries_taken : ℕ → ℕ → ℕ → List (List ℕ) → Bool
entries_taken n i j [] = true
entries_taken n i j (e ∷ es) = entry_taken n i j (row e) (at e 1) && entries_taken n (row e) (at e 1) es

unfoldable pub places_after : ℕ → ℕ → List (List ℕ) → Bool
places_after n i [] = true
places_after n i (e ∷ es) = place_taken n i (row e) && places_after n (row e) es

abbrev pub entry_values : ℕ → List (List ℕ) → Bool
entry_values p es = every (λ e. value_taken p (at e 2)) es

abbrev pub place_values : ℕ → List (List ℕ) → Bool
place_values p es = every (λ e. value_taken p (at e 1)) es

abbrev pub ones : List (List ℕ) → Bool
ones es = every (λ e. eqb (at e 1) 1) es

-- of the lines of form f from the place `from` on those before the place i were read, and b is what the test says of them
abbrev pub Tested : text.Form → (List ℕ → Bool) → List ℕ → ℕ → ℕ → Bool → Type 0
Tested f test s from i b = every test (saying f (lines (drop from s))) ≡ b && every test (saying f (lines (drop i s)))

-- what is known of the lines of form f that were read from the place `from` to the place `i`: k lines, whose places and values were taken or not.
-- `all` and `ahead` test the places of all lines, and of those after the last that was read
pub record Passed (f : text.Form) (all ahead : List (List ℕ) → Bool) (value : List ℕ → Bool) (s : List ℕ) (from i k : ℕ) (places values : Bool) : Type 0 where
  pub beyond : from + k ≤ i
  pub within : i ≤ length s
  pub form : onward f (lines (drop from s)) ≡ onward f (lines (drop i s))
  pub others : (g : text.Form) → eqb (text.rank f) (text.rank g) ≡ false → saying g (lines (drop from s)) ≡ saying g (lines (drop i s))
  pub count : length (saying f (lines (drop from s))) ≡ k + length (saying f (lines (drop i s)))
  pub placed : all (saying f (lines (drop from s))) ≡ places && ahead (saying f (lines (drop i s)))
  pub valued : Tested f value s from i values

-- .. and where they end
pub record Read (f : text.Form) (all : List (List ℕ) → Bool) (value : List ℕ → Bool) (s : List ℕ) (from : ℕ) (r : Group) : Type 0 where
  pub within : r.next ≤ length s
  pub form : onward f (lines (drop from s)) ≡ past f (lines (drop r.next s))
  pub others : (g : text.Form) → eqb (text.rank f) (text.rank g) ≡ false → saying g (lines (drop from s)) ≡ saying g (lines (drop r.next s))
  pub count : past f (lines (drop r.next s)) ≡ true → length (saying f (lines (drop from s))) ≡ r.count
  pub placed : past f (lines (drop r.next s)) ≡ true → all (saying f (lines (drop from s))) ≡ r.places
  pub valued : past f (lines (drop r.next s)) ≡ true → every value (saying f (lines (drop from s))) ≡ r.values

-- the last `a` line stands in row r and column c
abbrev pub EntriesPassed : List ℕ → ℕ → ℕ → ℕ → ℕ → ℕ → ℕ → ℕ → Bool → Bool → Type 0
EntriesPassed s from p n i k r c places values =
    Passed text.entry (entries_taken n 0 0) (entries_taken n r c) (λ e. value_taken p (at e 2)) s from i k places values

abbrev pub EntriesRead : List ℕ → ℕ → ℕ → ℕ → Group → Type 0
EntriesRead s from p n r = Read text.entry (entries_taken n 0 0) (λ e. value_taken p (at e 2)) s from r

-- the last line with the word w stands at place r
pub record PlacesPassed (w s : List ℕ) (from p n i k r : ℕ) (places values all_one : Bool) : Type 0 where
  pub group : Passed (placed_by w) (places_after n 0) (places_after n r) (λ e. value_taken p (at e 1)) s from i k places values
  pub ones : Tested (placed_by w) (λ e. eqb (at e 1) 1) s from i all_one

pub record PlacesRead (w s : List ℕ) (from p n : ℕ) (r : Placed) : Type 0 where
  pub group : Read (placed_by w) (places_after n 0) (λ e. value_taken p (at e 1)) s from r.group
  pub ones : past (placed_by w) (lines (drop r.group.next s)) ≡ true → ones (saying (placed_by w) (lines (drop from s))) ≡ r.ones

-- a line with the word w, or none
pub place_line_law : (w s : List ℕ) (i : ℕ) (r : Option (Line 2)) → PlaceWord w → LineAt s i w 2 r → LineOf (placed_by w) s i 2 r
place_line_law w s i r q l =
    l (placed_by w) (placed_form (λ f. eqb (text.rank f) 6 ≡ false) refl refl w) q (placed_form (λ f. 2 ≡ arity f) refl refl w)

-- ---- the places of all lines, by the line before

four : (a b c d : Bool) → (a && b) && (c && d) ≡ (a && c) && (b && d)
four true true c d = refl
four true false true d = refl
four true false false d = refl
four false b c d = refl

chain_from_nil : {A : Type 0} (f : A → A → Bool) (a : A) → chain_from f a [] ≡ true
unfolding chain_from
chain_from_nil f a = refl

chain_from_cons : {A : Type 0} (f : A → A → Bool) (a b : A) (l : List A) → chain_from f a (b ∷ l) ≡ f a b && chain_from f b l
unfolding chain_from
chain_from_cons f a b l = refl

entries_taken_nil : (n i j : ℕ) → entries_taken n i j [] ≡ true
unfolding entries_taken
entries_taken_nil n i j = refl

pub entries_taken_cons : (n i j : ℕ) (e : List ℕ) (es : List (List ℕ))
    → entries_taken n i j (e ∷ es) ≡ entry_taken n i j (row e) (at e 1) && entries_taken n (row e) (at e 1) es
unfolding entries_taken
entries_taken_cons n i j e es = refl

places_after_nil : (n i : ℕ) → places_after n i [] ≡ true
unfolding places_after
places_after_nil n i = refl

pub places_after_cons : (n i : ℕ) (e : List ℕ) (es : List (List ℕ)) → places_after n i (e ∷ es) ≡ place_taken n i (row e) && places_after n (row e) es
unfolding places_after
places_after_cons n i e es = refl

-- tested line by line, each by the one before, is: all are in range, and each is after the one before
module _ (ranged : List ℕ → Bool) (order : List ℕ → List ℕ → Bool) (T : List ℕ → List (List ℕ) → Bool)
    (nil : (e : List ℕ) → T e [] ≡ true) (cons : (e f : List ℕ) (es : List (List ℕ)) → T e (f ∷ es) ≡ (ranged f && order e f) && T f es) where
  taken_after : (e : List ℕ) (es : List (List ℕ)) → T e es ≡ every ranged es && chain_from order e es
  taken_after e [] = nil e ∙ sym (ap₂ ◌&&◌ (every_nil ranged) (chain_from_nil order e))
  taken_after e (f ∷ es) =
      cons e f es ∙ ap (λ t. (ranged f && order e f) && t) (taken_after f es)
      ∙ four (ranged f) (order e f) (every ranged es) (chain_from order f es)
      ∙ sym (ap₂ ◌&&◌ (every_cons ranged f es) (chain_from_cons order e f es))

  taken_all : (all : List (List ℕ) → Bool) → all [] ≡ true → ((e : List ℕ) (es : List (List ℕ)) → all (e ∷ es) ≡ ranged e && T e es)
      → (es : List (List ℕ)) → all es ≡ every ranged es && chain order es
  unfolding chain
  taken_all all none first [] = none ∙ sym (ap (λ t. t && true) (every_nil ranged))
  taken_all all none first (e ∷ es) =
      first e es ∙ ap (λ t. ranged e && t) (taken_after e es) ∙ sym (and_assoc (ranged e) (every ranged es) (chain_from order e es))
      ∙ sym (ap (λ t. t && chain_from order e es) (every_cons ranged e es))

-- a row in range is after row 0
row_first : (n : ℕ) (r : ℕ) (t u : Bool) → (within 1 n r && u) && (ltb 0 r || t) ≡ within 1 n r && u
row_first n r t u = go (test_cases (within 1 n r))
  where
    go : (within 1 n r ≡ true) ⊎ (within 1 n r ≡ false) → (within 1 n r && u) && (ltb 0 r || t) ≡ within 1 n r && u
    go (inl e) =
        ap (λ x. (within 1 n r && u) && (x || t)) (lt-ltb 0 r (leb-true 1 r (and_left (leb 1 r) (leb r n) e))) ∙ and-true (within 1 n r && u)
    go (inr e) = ap (λ x. (x && u) && (ltb 0 r || t)) e ∙ sym (ap (λ x. x && u) e)

abbrev ranged : ℕ → List ℕ → Bool
ranged n e = within 1 n (row e) && within 1 n (at e 1)

pub entries_places : (n : ℕ) (es : List (List ℕ)) → entries_taken n 0 0 es ≡ every (ranged n) es && chain before es
unfolding before
entries_places n =
    taken_all (ranged n) before (λ e. entries_taken n (row e) (at e 1)) (λ e. entries_taken_nil n (row e) (at e 1)) (λ e. entries_taken_cons n (row e) (at e 1))
    (entries_taken n 0 0) (entries_taken_nil n 0 0)
    (λ e es. entries_taken_cons n 0 0 e es
    ∙ ap (λ t. t && entries_taken n (row e) (at e 1) es) (row_first n (row e) (eqb 0 (row e) && ltb 0 (at e 1)) (within 1 n (at e 1))))

pub places_rise : (n : ℕ) (es : List (List ℕ)) → places_after n 0 es ≡ rows_rise n es
places_rise n =
    taken_all (λ e. within 1 n (row e)) (λ e f. ltb (row e) (row f)) (λ e. places_after n (row e)) (λ e. places_after_nil n (row e)) (λ e. places_after_cons n (row e))
    (places_after n 0) (places_after_nil n 0)
    (λ e es. places_after_cons n 0 e es ∙ ap (λ t. t && places_after n (row e) es) (first_row (row e)))
  where
    first_row : (r : ℕ) → within 1 n r && ltb 0 r ≡ within 1 n r
    first_row r =
        ap₂ ◌&&◌ (sym (and-true (within 1 n r))) (sym (or-false (ltb 0 r))) ∙ row_first n r false true ∙ and-true (within 1 n r)

-- ---- one line more

module _ (s : List ℕ) (i next : ℕ) (f : text.Form) (v : List ℕ) (h : Here s i next f v) where
  pub saying_here : saying f (lines (drop i s)) ≡ v ∷ saying f (lines (drop next s))
  saying_here = ap (saying f) h.lines ∙ saying_yes f (said f v) (lines (drop next s)) (eq-eqb (text.rank f) (text.rank f) refl)

  pub saying_past : (g : text.Form) → eqb (text.rank f) (text.rank g) ≡ false → saying g (lines (drop i s)) ≡ saying g (lines (drop next s))
  saying_past g e = ap (saying g) h.lines ∙ saying_no g (said f v) (lines (drop next s)) e

module _ (f : text.Form) (test : List ℕ → Bool) (s : List ℕ) (from i : ℕ) (b : Bool) (t : Tested f test s from i b) where
  tested_more : (e : List ℕ) (next : ℕ) (b' : Bool) → Here s i next f e → b' ≡ b && test e → Tested f test s from next b'
  tested_more e next b' h q =
      let es = saying f (lines (drop next s)) in
      t ∙ ap (λ l. b && every test l) (saying_here s i next f e h) ∙ ap (λ a. b && a) (every_cons test e es)
      ∙ sym (and_assoc b (test e) (every test es))
      ∙ ap (λ a. a && every test es) (sym q)

  tested_end : saying f (lines (drop i s)) ≡ [] → every test (saying f (lines (drop from s))) ≡ b
  tested_end none = t ∙ ap (λ l. b && every test l) none ∙ ap (λ a. b && a) (every_nil test) ∙ and-true b

module _ (f : text.Form) (all : List (List ℕ) → Bool) (value : List ℕ → Bool) (s : List ℕ) (from : ℕ) where
  pub passed_none : from ≤ length s → Passed f all all value s from from 0 true true
  passed_none h =
      record {
        beyond = omega arith;
        within = h;
        form = refl;
        others = λ _ _. refl;
        count = omega arith;
        placed = refl;
        valued = refl;
      }

  module _ (ahead : List (List ℕ) → Bool) (i k : ℕ) (places values : Bool) (b : Passed f all ahead value s from i k places values) where
    pub passed_more : (e : List ℕ) (next k' : ℕ) (ahead' : List (List ℕ) → Bool) (t places' values' : Bool) → Here s i next f e
        → ((es : List (List ℕ)) → ahead (e ∷ es) ≡ t && ahead' es) → k' ≡ k + 1 → places' ≡ places && t → values' ≡ values && value e
        → Passed f all ahead' value s from next k' places' values'
    passed_more e next k' ahead' t places' values' h cons q u w =
        let g = saying_here s i next f e h in
        let es = saying f (lines (drop next s)) in
        record {
          beyond = omega (arith, b.beyond, h.beyond);
          within = h.within;
          form = b.form ∙ ap (onward f) h.lines ∙ order_more f (forms_after f) (said f e) (lines (drop next s)) (eq-eqb (text.rank f) (text.rank f) refl);
          others = λ g o. b.others g o ∙ saying_past s i next f e h g o;
          count = omega (arith, b.count, ap length g);
          placed =
              b.placed ∙ ap (λ l. places && ahead l) g ∙ ap (λ a. places && a) (cons es) ∙ sym (and_assoc places t (ahead' es))
              ∙ ap (λ a. a && ahead' es) (sym u);
          valued = tested_more f value s from i values b.valued e next values' h w;
        }

    -- and where they end
    pub passed_end : fresh f (forms_after f) ≡ true → Missing f (lines (drop i s)) → ahead [] ≡ true
        → Read f all value s from (record { next = i; count = k; places = places; values = values })
    passed_end d m nil =
        let none = order_none f (forms_after f) d (lines (drop i s)) in
        record {
          within = b.within;
          form = b.form ∙ form_missing (lines (drop i s)) f (forms_after f) m;
          others = b.others;
          count = λ e. b.count ∙ ap (λ l. k + length l) (none e) ∙ add-zero k;
          placed = λ e. b.placed ∙ ap (λ l. places && ahead l) (none e) ∙ ap (λ t. places && t) nil ∙ and-true places;
          valued = λ e. tested_end f value s from i values b.valued (none e);
        }

pub entry_fresh : fresh text.entry (forms_after text.entry) ≡ true
unfolding every
entry_fresh = refl

pub place_fresh : (w : List ℕ) → fresh (placed_by w) (forms_after (placed_by w)) ≡ true
unfolding every
place_fresh = placed_form (λ f. fresh f (forms_after f) ≡ true) refl refl

module _ (s : List ℕ) (from p n i k r c : ℕ) (places values : Bool) (b : EntriesPassed s from p n i k r c places values) where
  pub entry_more : (e : List ℕ) (next k' : ℕ) (places' values' : Bool) → Here s i next text.entry e → k' ≡ k + 1
      → places' ≡ places && entry_taken n r c (row e) (at e 1) → values' ≡ values && value_taken p (at e 2)
      → EntriesPassed s from p n next k' (row e) (at e 1) places' values'
  entry_more e next k' places' values' h q t u =
      passed_more text.entry (entries_taken n 0 0) (λ e. value_taken p (at e 2)) s from (entries_taken n r c) i k places values b
      e next k' (entries_taken n (row e) (at e 1)) (entry_taken n r c (row e) (at e 1)) places' values' h (entries_taken_cons n r c e) q t u

  pub entries_end : Missing text.entry (lines (drop i s)) → EntriesRead s from p n (record { next = i; count = k; places = places; values = values })
  entries_end m =
      passed_end text.entry (entries_taken n 0 0) (λ e. value_taken p (at e 2)) s from (entries_taken n r c) i k places values b
      entry_fresh m (entries_taken_nil n r c)

pub places_begin : (w s : List ℕ) (from p n : ℕ) → from ≤ length s → PlacesPassed w s from p n from 0 0 true true true
places_begin w s from p n h =
    record {
      group = passed_none (placed_by w) (places_after n 0) (λ e. value_taken p (at e 1)) s from h;
      ones = refl;
    }

module _ (w s : List ℕ) (from p n i k r : ℕ) (places values all_one : Bool) (b : PlacesPassed w s from p n i k r places values all_one) where
  pub place_more : (e : List ℕ) (next k' : ℕ) (places' values' all_one' : Bool) → Here s i next (placed_by w) e → k' ≡ k + 1
      → places' ≡ places && place_taken n r (row e) → values' ≡ values && value_taken p (at e 1) → all_one' ≡ all_one && eqb (at e 1) 1
      → PlacesPassed w s from p n next k' (row e) places' values' all_one'
  place_more e next k' places' values' all_one' h q t u v =
      record {
        group =
            passed_more (placed_by w) (places_after n 0) (λ e. value_taken p (at e 1)) s from (places_after n r) i k places values b.group
            e next k' (places_after n (row e)) (place_taken n r (row e)) places' values' h (places_after_cons n r e) q t u;
        ones = tested_more (placed_by w) (λ e. eqb (at e 1) 1) s from i all_one b.ones e next all_one' h v;
      }

  pub places_end : Missing (placed_by w) (lines (drop i s))
      → PlacesRead w s from p n (record { group = record { next = i; count = k; places = places; values = values }; ones = all_one })
  places_end m =
      record {
        group =
            passed_end (placed_by w) (places_after n 0) (λ e. value_taken p (at e 1)) s from (places_after n r) i k places values b.group
            (place_fresh w) m (places_after_nil n r);
        ones = λ e. tested_end (placed_by w) (λ e. eqb (at e 1) 1) s from i all_one b.ones (order_none (placed_by w) (forms_after (placed_by w)) (place_fresh w) (lines (drop i s)) e);
      }
