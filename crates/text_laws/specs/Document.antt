-- A document and its text are inverse.
--     heading d            the numbers of the `system` line
--     lines_of d            what the lines of its text say
--     text_of_document d     its text
--     fit f es             each of es has as many numbers as a line of form f, and none above 4,294,967,295
--     shaped d             a document's numbers are so: those of its heading, and of each form's lines
--     shaped_parts         .. part by part
--     saying_append, saying_form       saying of lines one after the other, and of lines of one form
--     groups, lines_document, every_groups      lines form by form; lines_of d and the blank line are such; a test of each of them
--     lines_of_document    lines (text_of_document d) ≡ lines_of d ++ (blank ∷ []) for a shaped document
--     document_text        document (text_of_document d) ≡ d for a shaped document
--     form_text            in_form (text_of_document d) ≡ true for a shaped document
--     same_form            a form is known by its rank
--     text_document        text_of_document (document text) ≡ text for a text in form
--     shaped_document      the document of a text in form is shaped
--     length_two, length_three         a list of two or three numbers
use Rattle.std.specs.Prelude.{◌≡◌, refl, ◌⊎◌, Bool, true, false, cond, ◌&&◌, ℕ, zero, suc, eqb, get_or, length, replicate}
use Rattle.std.proofs.Common.{sym, ap₂, ◌∙◌, inl, inr, arith, eqb-true}
use Rattle.std.proofs.Math.Path.{ap}
use Rattle.std.proofs.Math.Bool.{and_assoc}
use mathlib.Core.List.{List, [], ◌∷◌, ◌++◌, map, append_assoc, append-nil, nil≢cons, cons≢nil, head-eq_of_cons-eq, tail-eq_of_cons-eq}
use Rattle.meaning.specs.List.{at, every, equal, select}
use Rattle.meaning.specs.Text.{Form, header, entry, scale, element, ending, nothing, broken, Line, lines, rank, is_of, saying, in_form, Document, document}
use Rattle.laws.specs.Bool.{and_left, and_right, and_both, and_five, test_cases}
use Rattle.laws.specs.List.{every_nil, every_of, length_none, equal→≡, equal_refl}
use Rattle.text_laws.specs.Lists.{map_append, select_nil, select_yes, select_no, select_append, every_append, every_one, every_head, every_map}
use Rattle.text_laws.specs.Form.{arity, say, small, known, fits, whole, sound, text_of, blank, lines_text_of, text_of_lines, lines_sound}

abbrev pub heading : Document → List ℕ
heading d = d.modulus ∷ d.size ∷ d.count ∷ []

unfoldable pub lines_of : Document → List Line
lines_of d =
    say header (heading d)
    ∷ (map (say entry) d.entries ++ (map (say scale) d.scales ++ (map (say element) d.elements ++ (say ending [] ∷ []))))

unfoldable pub text_of_document : Document → List ℕ
text_of_document d = text_of (lines_of d)

abbrev pub fit : Form → List (List ℕ) → Bool
fit f es = every (λ e. fits (say f e)) es

unfoldable pub shaped : Document → Bool
shaped d = every small (heading d) && fit entry d.entries && fit scale d.scales && fit element d.elements

pub shaped_parts : (d : Document) → shaped d ≡ true
    → (every small (heading d) ≡ true) × (fit entry d.entries ≡ true) × (fit scale d.scales ≡ true) × (fit element d.elements ≡ true)
unfolding shaped
shaped_parts d s =
    let c = and_five true (every small (heading d)) (fit entry d.entries) (fit scale d.scales) (fit element d.elements) s in
    (c.1, c.2, c.3, c.4)

-- ---- saying

module _ (f : Form) where
  pub saying_append : (l m : List Line) → saying f (l ++ m) ≡ saying f l ++ saying f m
  unfolding saying
  saying_append l m =
      ap (map (λ l. l.numbers)) (select_append (is_of f) l m)
      ∙ map_append (λ l. l.numbers) (select (is_of f) l) (select (is_of f) m)

  saying_same : (g : Form) (es : List (List ℕ)) → eqb (rank g) (rank f) ≡ true → saying f (map (say g) es) ≡ es
  unfolding saying
  saying_same g [] h = ap (map (λ l. l.numbers)) (select_nil (is_of f))
  saying_same g (e ∷ es) h =
      ap (map (λ l. l.numbers)) (select_yes (is_of f) (say g e) (map (say g) es) h) ∙ ap (λ r. e ∷ r) (saying_same g es h)

  saying_other : (g : Form) (es : List (List ℕ)) → eqb (rank g) (rank f) ≡ false → saying f (map (say g) es) ≡ []
  unfolding saying
  saying_other g [] h = ap (map (λ l. l.numbers)) (select_nil (is_of f))
  saying_other g (e ∷ es) h =
      ap (map (λ l. l.numbers)) (select_no (is_of f) (say g e) (map (say g) es) h) ∙ saying_other g es h

  pub saying_form : (g : Form) (es : List (List ℕ)) → saying f (map (say g) es) ≡ cond (eqb (rank g) (rank f)) es []
  saying_form g es = go (test_cases (eqb (rank g) (rank f)))
    where
      go : (eqb (rank g) (rank f) ≡ true) ⊎ (eqb (rank g) (rank f) ≡ false) → saying f (map (say g) es) ≡ cond (eqb (rank g) (rank f)) es []
      go (inl h) = saying_same g es h ∙ ap (λ t. cond t es []) (sym h)
      go (inr h) = saying_other g es h ∙ ap (λ t. cond t es []) (sym h)

-- ---- lines by form

abbrev pub groups : List (List ℕ) → List (List ℕ) → List (List ℕ) → List (List ℕ) → List (List ℕ) → List (List ℕ) → List Line
groups hs es ss bs xs ys =
    map (say header) hs
    ++ (map (say entry) es ++ (map (say scale) ss ++ (map (say element) bs ++ (map (say ending) xs ++ map (say nothing) ys))))

pub lines_document : (d : Document)
    → lines_of d ++ (blank ∷ []) ≡ groups (heading d ∷ []) d.entries d.scales d.elements ([] ∷ []) ([] ∷ [])
unfolding lines_of
lines_document d = simp append_assoc

pub every_groups : (t : Line → Bool) (hs es ss bs xs ys : List (List ℕ))
    → every t (groups hs es ss bs xs ys)
    ≡ every (λ e. t (say header e)) hs && every (λ e. t (say entry e)) es && every (λ e. t (say scale e)) ss
    && every (λ e. t (say element e)) bs && every (λ e. t (say ending e)) xs && every (λ e. t (say nothing e)) ys
every_groups t hs es ss bs xs ys = simp (every_append, every_map, and_assoc)

-- what the lines of d say in one form
saying_document : (f : Form) (d : Document)
    → saying f (lines_of d ++ (blank ∷ []))
    ≡ cond (eqb 0 (rank f)) (heading d ∷ []) [] ++ (cond (eqb 1 (rank f)) d.entries [] ++ (cond (eqb 2 (rank f)) d.scales []
    ++ (cond (eqb 3 (rank f)) d.elements [] ++ (cond (eqb 4 (rank f)) ([] ∷ []) [] ++ cond (eqb 5 (rank f)) ([] ∷ []) []))))
saying_document f d = ap (saying f) (lines_document d) ∙ simp (saying_append, saying_form)

saying_header : (d : Document) → saying header (lines_of d ++ (blank ∷ [])) ≡ heading d ∷ []
saying_header d = saying_document header d

saying_entry : (d : Document) → saying entry (lines_of d ++ (blank ∷ [])) ≡ d.entries
saying_entry d = saying_document entry d ∙ append-nil d.entries

saying_scale : (d : Document) → saying scale (lines_of d ++ (blank ∷ [])) ≡ d.scales
saying_scale d = saying_document scale d ∙ append-nil d.scales

saying_element : (d : Document) → saying element (lines_of d ++ (blank ∷ [])) ≡ d.elements
saying_element d = saying_document element d ∙ append-nil d.elements

-- a text whose lines are those of d says d
document_lines : (d : Document) (text : List ℕ) → lines text ≡ lines_of d ++ (blank ∷ []) → document text ≡ d
unfolding document
document_lines d text e =
    let h : saying header (lines text) ≡ heading d ∷ [] = ap (saying header) e ∙ saying_header d in
    λ i. record {
      modulus = at (get_or (h i) 0 []) 0;
      size = at (get_or (h i) 0 []) 1;
      count = at (get_or (h i) 0 []) 2;
      entries = (ap (saying entry) e ∙ saying_entry d) i;
      scales = (ap (saying scale) e ∙ saying_scale d) i;
      elements = (ap (saying element) e ∙ saying_element d) i;
    }

abbrev rank_of : Line → ℕ
rank_of l = rank l.form

ranks_say : (f : Form) (es : List (List ℕ)) → map rank_of (map (say f) es) ≡ replicate (length es) (rank f)
ranks_say f [] = refl
ranks_say f (e ∷ es) = ap (λ r. rank f ∷ r) (ranks_say f es)

-- the ranks of a text in form with a entries, s scales and b elements: from its entries on, its scales on, its elements on
abbrev from_elements : ℕ → List ℕ
from_elements b = replicate b 3 ++ (4 ∷ 5 ∷ [])

abbrev from_scales : ℕ → ℕ → List ℕ
from_scales s b = replicate s 2 ++ from_elements b

abbrev from_entries : ℕ → ℕ → ℕ → List ℕ
from_entries a s b = replicate a 1 ++ from_scales s b

ranks_document : (d : Document)
    → map rank_of (lines_of d ++ (blank ∷ [])) ≡ 0 ∷ from_entries (length d.entries) (length d.scales) (length d.elements)
ranks_document d = ap (map rank_of) (lines_document d) ∙ simp (map_append, ranks_say)

ranks_meant : (a s b : ℕ) → 0 ∷ replicate a 1 ++ replicate s 2 ++ replicate b 3 ++ (4 ∷ 5 ∷ []) ≡ 0 ∷ from_entries a s b
ranks_meant a s b = simp append_assoc

form_lines : (d : Document) (text : List ℕ) → lines text ≡ lines_of d ++ (blank ∷ []) → in_form text ≡ true
unfolding in_form
form_lines d text e =
    let a = length d.entries in
    let s = length d.scales in
    let b = length d.elements in
    ap₂ equal (ap (map rank_of) e ∙ ranks_document d)
    ((λ i. 0 ∷ replicate (length ((ap (saying entry) e ∙ saying_entry d) i)) 1
    ++ replicate (length ((ap (saying scale) e ∙ saying_scale d) i)) 2
    ++ replicate (length ((ap (saying element) e ∙ saying_element d) i)) 3 ++ (4 ∷ 5 ∷ []))
    ∙ ranks_meant a s b)
    ∙ equal_refl (0 ∷ from_entries a s b)

-- ---- from a document to its text and back

whole_lines : (d : Document) → shaped d ≡ true → every whole (lines_of d) ≡ true
unfolding lines_of
whole_lines d s =
    let c = shaped_parts d s in
    every_groups whole (heading d ∷ []) d.entries d.scales d.elements ([] ∷ []) []
    ∙ and_both (and_both (and_both (and_both (and_both (every_one (λ e. whole (say header e)) (heading d) c.0) c.1) c.2) c.3)
    (every_one (λ e. whole (say ending e)) [] (every_nil small)))
    (every_nil (λ e. whole (say nothing e)))

pub lines_of_document : (d : Document) → shaped d ≡ true → lines (text_of_document d) ≡ lines_of d ++ (blank ∷ [])
unfolding text_of_document
lines_of_document d s = lines_text_of (lines_of d) (whole_lines d s)

pub document_text : (d : Document) → shaped d ≡ true → document (text_of_document d) ≡ d
document_text d s = document_lines d (text_of_document d) (lines_of_document d s)

pub form_text : (d : Document) → shaped d ≡ true → in_form (text_of_document d) ≡ true
form_text d s = form_lines d (text_of_document d) (lines_of_document d s)

-- ---- from a text in form to its document and back

abbrev unrank : ℕ → Form
unrank zero = header
unrank (suc zero) = entry
unrank (suc (suc zero)) = scale
unrank (suc (suc (suc zero))) = element
unrank (suc (suc (suc (suc zero)))) = ending
unrank (suc (suc (suc (suc (suc zero))))) = nothing
unrank (suc (suc (suc (suc (suc (suc k)))))) = broken

unrank_rank : (f : Form) → unrank (rank f) ≡ f
unrank_rank header = refl
unrank_rank entry = refl
unrank_rank scale = refl
unrank_rank element = refl
unrank_rank ending = refl
unrank_rank nothing = refl
unrank_rank broken = refl

pub same_form : (f g : Form) → rank f ≡ rank g → f ≡ g
same_form f g e = sym (unrank_rank f) ∙ ap unrank e ∙ unrank_rank g

-- lines that begin with `count` of form f
record Split (f : Form) (count : ℕ) (after : List ℕ) (ls : List Line) : Type 0 where
  group : List (List ℕ)
  rest : List Line
  parted : ls ≡ map (say f) group ++ rest
  ranks : map rank_of rest ≡ after
  counted : length group ≡ count

split_form : (f : Form) (count : ℕ) (after : List ℕ) (ls : List Line) → map rank_of ls ≡ replicate count (rank f) ++ after
    → Split f count after ls
split_form f zero after ls e = record { group = []; rest = ls; parted = refl; ranks = e; counted = refl }
split_form f (suc count) after [] e = absurd (nil≢cons e)
split_form f (suc count) after (l ∷ ls) e =
    let r = split_form f count after ls (tail-eq_of_cons-eq e) in
    let q : l.form ≡ f = same_form l.form f (head-eq_of_cons-eq e) in
    record {
      group = l.numbers ∷ r.group;
      rest = r.rest;
      parted = ap₂ ◌∷◌ (λ i. say (q i) l.numbers) r.parted;
      ranks = r.ranks;
      counted = ap suc r.counted;
    }

-- a text whose lines are those of a shaped document
record Described (text : List ℕ) : Type 0 where
  said : Document
  as_lines : lines text ≡ lines_of said ++ (blank ∷ [])
  is_shaped : shaped said ≡ true

pub length_two : (h : List ℕ) → length h ≡ 2 → h ≡ at h 0 ∷ at h 1 ∷ []
length_two [] e = absurd (omega arith)
length_two (a ∷ []) e = absurd (omega arith)
length_two (a ∷ b ∷ []) e = refl
length_two (a ∷ b ∷ c ∷ h) e = absurd (omega arith)

pub length_three : (h : List ℕ) → length h ≡ 3 → h ≡ at h 0 ∷ at h 1 ∷ at h 2 ∷ []
length_three [] e = absurd (omega arith)
length_three (a ∷ []) e = absurd (omega arith)
length_three (a ∷ b ∷ []) e = absurd (omega arith)
length_three (a ∷ b ∷ c ∷ []) e = refl
length_three (a ∷ b ∷ c ∷ d ∷ h) e = absurd (omega arith)

one : (hs : List (List ℕ)) → length hs ≡ 1 → hs ≡ get_or hs 0 [] ∷ []
one [] e = absurd (omega arith)
one (h ∷ []) e = refl
one (h ∷ g ∷ hs) e = absurd (omega arith)

says_groups : (text : List ℕ) (h : List ℕ) (es ss bs : List (List ℕ)) (x y : List ℕ)
    → lines text ≡ groups (h ∷ []) es ss bs (x ∷ []) (y ∷ []) → Described text
unfolding shaped
says_groups text h es ss bs x y e =
    let fit_all = sym (every_groups sound (h ∷ []) es ss bs (x ∷ []) (y ∷ [])) ∙ ap (every sound) (sym e) ∙ lines_sound text in
    let c = and_five (fit header (h ∷ []) && fit entry es) (fit scale ss) (fit element bs) (fit ending (x ∷ [])) (fit nothing (y ∷ [])) fit_all in
    let fh : fits (say header h) ≡ true = every_head (λ e. fits (say header e)) h [] (and_left (fit header (h ∷ [])) (fit entry es) c.0) in
    let qh : h ≡ at h 0 ∷ at h 1 ∷ at h 2 ∷ [] = length_three h (eqb-true (length h) 3 (and_left (eqb (length h) 3) (every small h) fh)) in
    let qx : x ≡ [] = no_numbers ending x refl c.3 in
    let qy : y ≡ [] = no_numbers nothing y refl c.4 in
    let d : Document = record { modulus = at h 0; size = at h 1; count = at h 2; entries = es; scales = ss; elements = bs } in
    record {
      said = d;
      as_lines = e ∙ (λ i. groups (qh i ∷ []) es ss bs (qx i ∷ []) (qy i ∷ [])) ∙ sym (lines_document d);
      is_shaped =
          and_both (and_both (and_both (ap (every small) (sym qh) ∙ and_right (eqb (length h) 3) (every small h) fh)
          (and_right (fit header (h ∷ [])) (fit entry es) c.0))
          c.1)
          c.2;
    }
  where
    no_numbers : (f : Form) (x : List ℕ) → arity f ≡ 0 → fit f (x ∷ []) ≡ true → x ≡ []
    no_numbers f x z g =
        length_none x
        (eqb-true (length x) (arity f)
        (and_left (eqb (length x) (arity f)) (every small x) (every_head (λ e. fits (say f e)) x [] g))
        ∙ z)

no_ranks : (ls : List Line) → map rank_of ls ≡ [] → ls ≡ []
no_ranks [] e = refl
no_ranks (l ∷ ls) e = absurd (cons≢nil e)

says_ranks : (text : List ℕ) (a s b : ℕ) → map rank_of (lines text) ≡ 0 ∷ from_entries a s b → Described text
says_ranks text a s b e = headed (split_form header 1 (from_entries a s b) (lines text) e)
  where
    done : (h : Split header 1 (from_entries a s b) (lines text)) (es : Split entry a (from_scales s b) h.rest)
        (ss : Split scale s (from_elements b) es.rest) (bs : Split element b (4 ∷ 5 ∷ []) ss.rest) (x : Split ending 1 (5 ∷ []) bs.rest)
        → Split nothing 1 [] x.rest → Described text
    done h es ss bs x y =
        says_groups text (get_or h.group 0 []) es.group ss.group bs.group (get_or x.group 0 []) (get_or y.group 0 [])
        (h.parted
        ∙ ap₂ (λ g r. map (say header) g ++ r) (one h.group h.counted)
        (es.parted
        ∙ ap (λ r. map (say entry) es.group ++ r)
        (ss.parted
        ∙ ap (λ r. map (say scale) ss.group ++ r)
        (bs.parted
        ∙ ap (λ r. map (say element) bs.group ++ r)
        (x.parted
        ∙ ap₂ (λ g r. map (say ending) g ++ r) (one x.group x.counted)
        (y.parted
        ∙ ap₂ (λ g r. map (say nothing) g ++ r) (one y.group y.counted) (no_ranks y.rest y.ranks)))))))

    ended : (h : Split header 1 (from_entries a s b) (lines text)) (es : Split entry a (from_scales s b) h.rest)
        (ss : Split scale s (from_elements b) es.rest) (bs : Split element b (4 ∷ 5 ∷ []) ss.rest)
        → Split ending 1 (5 ∷ []) bs.rest → Described text
    ended h es ss bs x = done h es ss bs x (split_form nothing 1 [] x.rest x.ranks)

    elemented : (h : Split header 1 (from_entries a s b) (lines text)) (es : Split entry a (from_scales s b) h.rest)
        (ss : Split scale s (from_elements b) es.rest) → Split element b (4 ∷ 5 ∷ []) ss.rest → Described text
    elemented h es ss bs = ended h es ss bs (split_form ending 1 (5 ∷ []) bs.rest bs.ranks)

    scaled : (h : Split header 1 (from_entries a s b) (lines text)) (es : Split entry a (from_scales s b) h.rest)
        → Split scale s (from_elements b) es.rest → Described text
    scaled h es ss = elemented h es ss (split_form element b (4 ∷ 5 ∷ []) ss.rest ss.ranks)

    entered : (h : Split header 1 (from_entries a s b) (lines text)) → Split entry a (from_scales s b) h.rest → Described text
    entered h es = scaled h es (split_form scale s (from_elements b) es.rest es.ranks)

    headed : Split header 1 (from_entries a s b) (lines text) → Described text
    headed h = entered h (split_form entry a (from_scales s b) h.rest h.ranks)

says : (text : List ℕ) → in_form text ≡ true → Described text
unfolding in_form
says text e =
    let a = length (saying entry (lines text)) in
    let s = length (saying scale (lines text)) in
    let b = length (saying element (lines text)) in
    says_ranks text a s b
    (equal→≡ (map rank_of (lines text)) (0 ∷ replicate a 1 ++ replicate s 2 ++ replicate b 3 ++ (4 ∷ 5 ∷ [])) e ∙ ranks_meant a s b)

says_document : {text : List ℕ} (s : Described text) → document text ≡ s.said
says_document {text} s = document_lines s.said text s.as_lines

known_lines : (d : Document) → every known (lines_of d) ≡ true
unfolding lines_of
known_lines d =
    every_groups known (heading d ∷ []) d.entries d.scales d.elements ([] ∷ []) []
    ∙ and_both (and_both (and_both (and_both (and_both (each (heading d ∷ [])) (each d.entries)) (each d.scales)) (each d.elements))
    (each ([] ∷ [])))
    (each [])
  where
    each : (es : List (List ℕ)) → every (λ e. true) es ≡ true
    each es = every_of (λ e. true) es [] (λ i l. refl)

pub text_document : (text : List ℕ) → in_form text ≡ true → text_of_document (document text) ≡ text
unfolding text_of_document
text_document text e =
    let s = says text e in
    ap (λ d. text_of (lines_of d)) (says_document s) ∙ sym (text_of_lines text (lines_of s.said) s.as_lines (known_lines s.said))

pub shaped_document : (text : List ℕ) → in_form text ≡ true → shaped (document text) ≡ true
shaped_document text e =
    let s = says text e in
    ap shaped (says_document s) ∙ s.is_shaped
