-- What a line at a place of a text says.
--     said f numbers       a line of that form, with those numbers
--     Here                 it stands at a place, and the lines after it begin at another
--     Missing              no line of that form begins there, or it does not end
--     LineOf               what was found where a line of that form was looked for
--     LineAt               .. of the form with that word and so many numbers
-- Laws: header_word .. ending_word: the forms' words as the code writes them; line_other, line_word: another word, or the word and its numbers;
-- form_missing, ending_missing, header_missing: what is left of the form then; ending_here: the end of a text.
use Rattle.std.specs.Prelude.{◌≡◌, refl, ◌⊎◌, Bool, true, false, ◌&&◌, List, [], ◌∷◌, ◌++◌, map, ℕ, suc, ◌+◌, ◌≤◌, ◌<◌, eqb, get_or, length, drop, Option, Some, None}
use Rattle.std.proofs.Common.{sym, ap, ap₂, ◌∙◌, subst, inl, inr, append-nil, arith, drop_of_length-le, drop-drop, eqb-true, eq-eqb, ne_eqb}
use Rattle.std.proofs.lemmas.Bool.{eqb-false}
use Rattle.std.specs.List.{starts_with}
use Rattle.meaning.specs.List.{every, equal, bytes}
use Rattle.meaning.specs.Text as text
use Rattle.meaning.specs.Text.{lines, parts, line_of, form_of, has_form, is_numeral, value_of, rank, is_of}
use Rattle.laws.specs.Bool.{and_left, and_right, and_false_left, and_false_right, test_cases, never}
use Rattle.laws.specs.List.{equal→≡}
use Rattle.text_laws.specs.Line.{parts_some, lines_parts}
use Rattle.text_laws.specs.Form.{word, arity, word_free, has_form_law, has_form_other, form_of_word, form_cases, line_of_law}
use Rattle.text_laws.specs.Document.{same_form}
use Rattle.system_reader.specs.Scan.{drop_here, head_of, fields_of, later, after, after_split, lines_here, head_nil, head_tab, head_byte, fields_nil, fields_tab, fields_byte, later_nil, later_end, head_word, fields_word, later_word, word_starts, other_starts}
use Rattle.system_reader.specs.Order.{ranks, order, closing, whole, order_closing, order_other, order_last, whole_other, whole_last}
use Rattle.system_reader.specs.Fields.{Fails, NumbersAt}
use Rattle.system_reader.specs.declared.numeral.Line.{Line}

abbrev pub said : text.Form → List ℕ → text.Line
said f numbers = record { form = f; numbers = numbers }

pub record Here (s : List ℕ) (from next : ℕ) (f : text.Form) (numbers : List ℕ) : Type 0 where
  pub beyond : from < next
  pub within : next ≤ length s
  pub lines : lines (drop from s) ≡ said f numbers ∷ lines (drop next s)

pub record Missing (f : text.Form) (ls : List text.Line) : Type 0 where
  pub line : text.Line
  pub more : List text.Line
  pub here : ls ≡ line ∷ more
  pub other : (is_of f line ≡ false) ⊎ (more ≡ [])

abbrev pub LineOf : text.Form → List ℕ → ℕ → (k : ℕ) → Option (Line k) → Type 0
LineOf f s from k None = Missing f (lines (drop from s))
LineOf f s from k (Some r) = Here s from r.next f r.numbers

abbrev pub LineAt : List ℕ → ℕ → List ℕ → (k : ℕ) → Option (Line k) → Type 0
LineAt s from w k r = (f : text.Form) → eqb (rank f) 6 ≡ false → w ≡ word f → k ≡ arity f → LineOf f s from k r

-- ---- the words

pub header_word : 115 ∷ 121 ∷ 115 ∷ 116 ∷ 101 ∷ 109 ∷ [] ≡ word text.header
unfolding bytes
header_word = refl

pub entry_word : 97 ∷ [] ≡ word text.entry
unfolding bytes
entry_word = refl

pub scale_word : 115 ∷ [] ≡ word text.scale
unfolding bytes
scale_word = refl

pub element_word : 98 ∷ [] ≡ word text.element
unfolding bytes
element_word = refl

pub ending_word : 101 ∷ 110 ∷ 100 ∷ [] ≡ word text.ending
unfolding bytes
ending_word = refl

-- ---- a word and its numbers

equal_prefix : (w h : List ℕ) → equal (w ++ h) w ≡ equal h []
unfolding equal
equal_prefix [] h = refl
equal_prefix (c ∷ w) h = ap (λ t. t && equal (w ++ h) w) (eq-eqb c c refl) ∙ equal_prefix w h

abbrev fields_here : List ℕ → List (List ℕ)
fields_here s = head_of s ∷ fields_of s

abbrev lines_later : List ℕ → List text.Line
lines_later s = map (λ l. line_of (parts 9 l)) (later s)

module _ (f : text.Form) (known : eqb (rank f) 6 ≡ false) where
  -- a line is of a form exactly if it has the form's word and numbers
  other_form : (ws : List (List ℕ)) → has_form (word f) (arity f) ws ≡ false → is_of f (line_of ws) ≡ false
  other_form ws e = ap (is_of f) (line_of_law ws) ∙ go (form_cases ws) (test_cases (eqb (rank (form_of ws)) (rank f)))
    where
      go : (form_of ws ≡ text.broken) ⊎ (has_form (word (form_of ws)) (arity (form_of ws)) ws ≡ true)
          → (eqb (rank (form_of ws)) (rank f) ≡ true) ⊎ (eqb (rank (form_of ws)) (rank f) ≡ false) → eqb (rank (form_of ws)) (rank f) ≡ false
      go (inl b) t = ap (λ g. eqb (rank g) (rank f)) b ∙ ne_eqb 6 (rank f) (λ z. eqb-false (rank f) 6 known (sym z))
      go (inr h) (inl t) = never (has_form (word f) (arity f) ws) (subst (λ g. has_form (word g) (arity g) ws ≡ true) (same_form (form_of ws) f (eqb-true (rank (form_of ws)) (rank f) t)) h) e
      go (inr h) (inr t) = t

  module _ (t : List ℕ) where
    abbrev here : List ℕ
    here = word f ++ t

    fields_here_law : fields_here here ≡ (word f ++ head_of t) ∷ fields_of t
    fields_here_law = ap₂ ◌∷◌ (head_word (word f) t (word_free f).0 (word_free f).1) (fields_word (word f) t (word_free f).0 (word_free f).1)

    has_form_here : has_form (word f) (arity f) (fields_here here) ≡ after (arity f) t
    has_form_here =
        ap (has_form (word f) (arity f)) fields_here_law ∙ has_form_law (word f) (arity f) (word f ++ head_of t) (fields_of t)
        ∙ ap (λ b. b && eqb (length (fields_of t)) (arity f) && every is_numeral (fields_of t)) (equal_prefix (word f) (head_of t))
        ∙ sym (after_split (arity f) t)

    line_here : after (arity f) t ≡ true → line_of (fields_here here) ≡ said f (map value_of (fields_of t))
    line_here e =
        let both = sym (after_split (arity f) t) ∙ e in
        let start = and_left (equal (head_of t) [] && eqb (length (fields_of t)) (arity f)) (every is_numeral (fields_of t)) both in
        let ended : head_of t ≡ [] = equal→≡ (head_of t) [] (and_left (equal (head_of t) []) (eqb (length (fields_of t)) (arity f)) start) in
        let exact : fields_here here ≡ word f ∷ fields_of t = fields_here_law ∙ ap (λ h. (word f ++ h) ∷ fields_of t) ended ∙ ap (λ w. w ∷ fields_of t) (append-nil (word f)) in
        ap line_of exact ∙ line_of_law (word f ∷ fields_of t)
        ∙ ap (λ g. said g (map value_of (fields_of t)))
        (form_of_word f (fields_of t) known (and_right (equal (head_of t) []) (eqb (length (fields_of t)) (arity f)) start)
        (and_right (equal (head_of t) [] && eqb (length (fields_of t)) (arity f)) (every is_numeral (fields_of t)) both))

    later_here : later here ≡ later t
    later_here = later_word (word f) t (word_free f).1

-- another word stands there
word_other : (f : text.Form) → eqb (rank f) 6 ≡ false → (s : List ℕ) → starts_with eqb s (word f) ≡ false → Missing f (lines s)
word_other f known s h =
    record {
      line = line_of (fields_here s);
      more = lines_later s;
      here = lines_here s;
      other = inl (other_form f known (fields_here s) (has_form_other (word f) (head_of s) (arity f) (fields_of s) (other_starts s (word f) h)));
    }

module _ (s : List ℕ) (from : ℕ) (w : List ℕ) (k : ℕ) where
  pub line_other : starts_with eqb (drop from s) w ≡ false → LineAt s from w k None
  line_other h f known ew ek = word_other f known (drop from s) (ap (starts_with eqb (drop from s)) (sym ew) ∙ h)

  -- the word stands there
  pub line_word : starts_with eqb (drop from s) w ≡ true → (r : Option (Line k)) → NumbersAt s (from + length w) k r → LineAt s from w k r
  line_word h r n f known ew ek = go r n
    where
      t : List ℕ
      t = drop (from + length w) s

      split : lines (drop from s) ≡ line_of (fields_here (word f ++ t)) ∷ lines_later t
      split =
          let d : drop from s ≡ word f ++ t = word_starts (drop from s) w h ∙ ap (λ x. w ++ x) (drop-drop (length w) from s) ∙ ap (λ x. x ++ t) ew in
          ap lines d ∙ lines_here (word f ++ t) ∙ ap (λ l. line_of (fields_here (word f ++ t)) ∷ map (λ l. line_of (parts 9 l)) l) (later_here f known t)

      fails : Fails k t → (is_of f (line_of (fields_here (word f ++ t))) ≡ false) ⊎ (lines_later t ≡ [])
      fails (inl e) = inl (other_form f known (fields_here (word f ++ t)) (has_form_here f known t ∙ ap (λ i. after i t) (sym ek) ∙ e))
      fails (inr e) = inr (ap (map (λ l. line_of (parts 9 l))) e)

      go : (r : Option (Line k)) → NumbersAt s (from + length w) k r → LineOf f s from k r
      go None e = record { line = line_of (fields_here (word f ++ t)); more = lines_later t; here = split; other = fails e }
      go (Some r) m =
          record {
            beyond = omega (arith, m.beyond);
            within = m.within;
            lines =
                split
                ∙ ap₂ ◌∷◌ (line_here f known t (ap (λ i. after i t) (sym ek) ∙ m.form)) (ap (map (λ l. line_of (parts 9 l))) m.later ∙ sym (lines_parts (drop r.next s)))
                ∙ ap (λ v. said f v ∷ lines (drop r.next s)) m.numbers;
          }

-- ---- what is left of the form where a line is missing

closing_cons : (l : text.Line) (ls : List text.Line) → closing (l ∷ ls) ≡ eqb (rank l.form) 4 && equal (ranks ls) (5 ∷ [])
unfolding ranks equal
closing_cons l ls = order_closing (l ∷ ls)

module _ (ls : List text.Line) where
  by_other : (f : text.Form) (x y : List text.Line → Bool) → ((l : text.Line) (more : List text.Line) → is_of f l ≡ false → x (l ∷ more) ≡ y (l ∷ more))
      → ((l : text.Line) → x (l ∷ []) ≡ y (l ∷ [])) → Missing f ls → x ls ≡ y ls
  by_other f x y other last m = ap x m.here ∙ go m.other ∙ sym (ap y m.here)
    where
      go : (is_of f m.line ≡ false) ⊎ (m.more ≡ []) → x (m.line ∷ m.more) ≡ y (m.line ∷ m.more)
      go (inl e) = other m.line m.more e
      go (inr e) = ap (λ more. x (m.line ∷ more)) e ∙ last m.line ∙ sym (ap (λ more. y (m.line ∷ more)) e)

  pub form_missing : (f : text.Form) (fs : List text.Form) → Missing f ls → order (f ∷ fs) ls ≡ order fs ls
  form_missing f fs = by_other f (order (f ∷ fs)) (order fs) (order_other f fs) (λ l. order_last (f ∷ fs) l ∙ sym (order_last fs l))

  pub ending_missing : Missing text.ending ls → closing ls ≡ false
  ending_missing = by_other text.ending closing (λ _. false) (λ l more e. closing_cons l more ∙ and_false_left (equal (ranks more) (5 ∷ [])) e) (order_last [])

  pub header_missing : Missing text.header ls → whole ls ≡ false
  header_missing = by_other text.header whole (λ _. false) whole_other whole_last

-- ---- the end of a text

rank_nothing : rank (form_of ([] ∷ [])) ≡ 5
unfolding form_of equal has_form bytes every
rank_nothing = refl

-- after `end`: nothing, exactly at the end of the text
pub over_nil : equal (ranks (lines [])) (5 ∷ []) ≡ true
unfolding ranks equal
over_nil =
    ap (λ ls. equal (ranks ls) (5 ∷ []))
    (lines_here [] ∙ ap₂ (λ h fs. line_of (h ∷ fs) ∷ map (λ l. line_of (parts 9 l)) (later [])) head_nil fields_nil
    ∙ ap₂ (λ l r. l ∷ map (λ l. line_of (parts 9 l)) r) (line_of_law ([] ∷ [])) later_nil)
    ∙ ap (λ r. eqb r 5 && true) rank_nothing

pub over_more : (c : ℕ) (t : List ℕ) → equal (ranks (lines (c ∷ t))) (5 ∷ []) ≡ false
unfolding ranks equal
over_more c t = ap (λ ls. equal (ranks ls) (5 ∷ [])) (lines_here (c ∷ t)) ∙ go (test_cases (eqb c 9)) (test_cases (eqb c 10))
  where
    more : (w : List (List ℕ)) → later (c ∷ t) ≡ w → (x : ℕ) (xs : List (List ℕ)) → eqb x 5 && equal (map (λ l. rank l.form) (map (λ l. line_of (parts 9 l)) (later (c ∷ t)))) [] ≡ eqb x 5 && equal (map (λ l. rank l.form) (map (λ l. line_of (parts 9 l)) w)) []
    more w e x xs = ap (λ r. eqb x 5 && equal (map (λ l. rank l.form) (map (λ l. line_of (parts 9 l)) r)) []) e

    first : (h : List ℕ) (fs : List (List ℕ)) → head_of (c ∷ t) ≡ h → fields_of (c ∷ t) ≡ fs → has_form [] 0 (h ∷ fs) ≡ false
        → eqb (rank (line_of (head_of (c ∷ t) ∷ fields_of (c ∷ t))).form) 5 && equal (map (λ l. rank l.form) (map (λ l. line_of (parts 9 l)) (later (c ∷ t)))) [] ≡ false
    first h fs p q r =
        and_false_left (equal (map (λ l. rank l.form) (map (λ l. line_of (parts 9 l)) (later (c ∷ t)))) [])
        (other_form text.nothing refl (head_of (c ∷ t) ∷ fields_of (c ∷ t)) (ap₂ (λ a b. has_form [] 0 (a ∷ b)) p q ∙ r))

    go : (eqb c 9 ≡ true) ⊎ (eqb c 9 ≡ false) → (eqb c 10 ≡ true) ⊎ (eqb c 10 ≡ false)
        → eqb (rank (line_of (head_of (c ∷ t) ∷ fields_of (c ∷ t))).form) 5 && equal (map (λ l. rank l.form) (map (λ l. line_of (parts 9 l)) (later (c ∷ t)))) [] ≡ false
    go (inl e) f =
        let q = eqb-true c 9 e in
        first [] (head_of t ∷ fields_of t) (ap (λ x. head_of (x ∷ t)) q ∙ head_tab t) (ap (λ x. fields_of (x ∷ t)) q ∙ fields_tab t)
        (has_form_law [] 0 [] (head_of t ∷ fields_of t)
        ∙ and_false_left (every is_numeral (head_of t ∷ fields_of t)) (ne_eqb (suc (length (fields_of t))) 0 (λ z. omega arith)))
    go (inr e) (inl f) =
        let p = parts_some 10 t in
        let x = rank (line_of (head_of (c ∷ t) ∷ fields_of (c ∷ t))).form in
        more (p.0 ∷ p.1) (ap (λ y. later (y ∷ t)) (eqb-true c 10 f) ∙ later_end t ∙ p.2) x []
        ∙ and_false_right (eqb x 5) refl
    go (inr e) (inr f) = first (c ∷ head_of t) (fields_of t) (head_byte c t e f) (fields_byte c t e f) (has_form_other [] (c ∷ head_of t) 0 (fields_of t) refl)

pub ending_here : (s : List ℕ) (i next : ℕ) (numbers : List ℕ) → Here s i next text.ending numbers → closing (lines (drop i s)) ≡ eqb next (length s)
ending_here s i next numbers h = ap closing h.lines ∙ closing_cons (said text.ending numbers) (lines (drop next s)) ∙ go (test_cases (eqb next (length s)))
  where
    go : (eqb next (length s) ≡ true) ⊎ (eqb next (length s) ≡ false) → equal (ranks (lines (drop next s))) (5 ∷ []) ≡ eqb next (length s)
    go (inl e) =
        let q = eqb-true next (length s) e in
        ap (λ t. equal (ranks (lines t)) (5 ∷ [])) (drop_of_length-le s {i = next} (omega arith)) ∙ over_nil ∙ sym e
    go (inr e) =
        let q = eqb-false next (length s) e in
        let l : next < length s = omega (arith, h.within, q) in
        ap (λ t. equal (ranks (lines t)) (5 ∷ [])) (drop_here s next l) ∙ over_more (get_or s next 0) (drop (next + 1) s) ∙ sym e
