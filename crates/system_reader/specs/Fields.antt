-- What the functions on fields say of a text at a place.
--     Follows              fields that are numerals, with those values, and what they leave of the line
--     extension            a numeral with a byte more, where that is a numeral
--     NumeralAt            the longest numeral at a place, or none
--     FieldAt              a numeral's field, or none begins there, so that no form with a field more does
--     Fails k s            no line with k numerals left goes on so, or it does not end
--     Numbered             k numerals and the line's end
--     NumbersAt            .. or it fails
-- Laws: field_here, field_missing; end_here, end_missing; numbers_more, fails_more: what follows fields.
use Rattle.std.specs.Prelude.{◌≡◌, refl, ◌⊎◌, true, false, List, [], ◌∷◌, ◌++◌, map, ℕ, suc, ◌+◌, ◌-◌, ◌*◌, ◌≤◌, ◌<◌, get_or, length, drop, Option, Some, None, is_some}
use Rattle.std.proofs.Common.{sym, ap, ap₂, ◌∙◌, inl, inr, arith, drop_of_length-le, length-drop, drop-drop, ne_eqb}
use Rattle.std.proofs.lemmas.Bool.{cases_lt}
use Rattle.std.specs.Option.{unwrap_or}
use Rattle.std.specs.Bool.{then_some}
use Rattle.meaning.specs.Text.{value_of, parts}
use Rattle.system_reader.specs.Scan.{drop_here, extends_by, run, run_value, run_within, fields_of, later, after, fields_end, later_nil, later_end, later_byte, later_run, after_tab, numbers_tab, after_no_numeral, after_none, after_not_tab, after_end, after_not_end}
use Rattle.system_reader.specs.declared.numeral.Number.{Number}
use Rattle.system_reader.specs.declared.numeral.Line.{Line}

pub record Follows (text : List ℕ) (from : ℕ) (values : List ℕ) (next : ℕ) : Type 0 where
  pub beyond : from + length values ≤ next
  pub within : next ≤ length text
  pub form : (k : ℕ) → after (length values + k) (drop from text) ≡ after k (drop next text)
  pub numbers : (k : ℕ) → after k (drop next text) ≡ true
      → map value_of (fields_of (drop from text)) ≡ values ++ map value_of (fields_of (drop next text))
  pub later : later (drop from text) ≡ later (drop next text)

-- the value of the numeral so far, if one has begun
abbrev pub extension : Option ℕ → ℕ → Option ℕ
extension v c = then_some (extends_by (is_some v) (unwrap_or v 0) c) (unwrap_or v 0 * 10 + (c - 48))

-- the longest numeral at the head of s, which stands at the place `from`
pub record NumeralHere (s : List ℕ) (from : ℕ) (r : Number) : Type 0 where
  pub some : from < r.next
  pub next : r.next ≡ from + run false 0 s
  pub value : r.value ≡ run_value false 0 s

abbrev pub NumeralAt : List ℕ → ℕ → Option Number → Type 0
NumeralAt s from None = run false 0 s ≡ 0
NumeralAt s from (Some r) = NumeralHere s from r

abbrev pub FieldAt : List ℕ → ℕ → Option Number → Type 0
FieldAt text from None = (k : ℕ) → after (suc k) (drop from text) ≡ false
FieldAt text from (Some r) = Follows text from (r.value ∷ []) r.next

abbrev pub Fails : ℕ → List ℕ → Type 0
Fails k s = (after k s ≡ false) ⊎ (later s ≡ [])

pub record Numbered (text : List ℕ) (from k : ℕ) (r : Line k) : Type 0 where
  pub beyond : from < r.next
  pub within : r.next ≤ length text
  pub form : after k (drop from text) ≡ true
  pub numbers : map value_of (fields_of (drop from text)) ≡ r.numbers
  pub later : later (drop from text) ≡ parts 10 (drop r.next text)

abbrev pub NumbersAt : List ℕ → ℕ → (k : ℕ) → Option (Line k) → Type 0
NumbersAt text from k None = Fails k (drop from text)
NumbersAt text from k (Some r) = Numbered text from k r

-- ---- fields

module _ (text : List ℕ) (from : ℕ) (l : from < length text) (t : get_or text from 0 ≡ 9) where
  tab_here : drop from text ≡ 9 ∷ drop (from + 1) text
  tab_here = drop_here text from l ∙ ap (λ c. c ∷ drop (from + 1) text) t

  pub field_here : (r : Option Number) → NumeralAt (drop (from + 1) text) (from + 1) r → FieldAt text from r
  field_here None none = λ k. ap (after (suc k)) tab_here ∙ after_no_numeral k (drop (from + 1) text) none
  field_here (Some r) h =
      let s = drop (from + 1) text in
      let n : 1 ≤ run false 0 s = omega (arith, h.some, h.next) in
      let d : drop r.next text ≡ drop (run false 0 s) s = ap (λ k. drop k text) h.next ∙ sym (drop-drop (run false 0 s) (from + 1) text) in
      let w : run false 0 s ≤ length s = run_within false 0 s in
      let g : length s ≡ length text - (from + 1) = length-drop (from + 1) text in
      record {
        beyond = omega (arith, h.some);
        within = omega (arith, w, g, h.next);
        form =
            λ k. let e : length (r.value ∷ []) + k ≡ suc k = omega arith in
            ap (λ m. after m (drop from text)) e ∙ ap (after (suc k)) tab_here ∙ after_tab k s n ∙ ap (after k) (sym d);
        numbers =
            λ k a. ap (λ x. map value_of (fields_of x)) tab_here ∙ numbers_tab k s n (ap (after k) (sym d) ∙ a)
            ∙ ap₂ (λ x y. x ∷ map value_of (fields_of y)) (sym h.value) (sym d);
        later = ap later tab_here ∙ later_byte 9 s refl ∙ later_run false 0 s ∙ ap later (sym d);
      }

-- no tab stands there
pub field_missing : (text : List ℕ) (from : ℕ) → (from < length text → get_or text from 0 ≡ 9 → ⊥) → (k : ℕ) → after (suc k) (drop from text) ≡ false
field_missing text from n k = go (cases_lt from (length text))
  where
    go : (from < length text) ⊎ (length text ≤ from) → after (suc k) (drop from text) ≡ false
    go (inl l) =
        ap (after (suc k)) (drop_here text from l) ∙ after_not_tab k (get_or text from 0) (drop (from + 1) text) (ne_eqb (get_or text from 0) 9 (n l))
    go (inr h) = ap (after (suc k)) (drop_of_length-le text {i = from} h) ∙ after_none k

-- ---- the end of a line

pub end_here : (text : List ℕ) (from : ℕ) → from < length text → get_or text from 0 ≡ 10
    → Numbered text from 0 (record { numbers = []; next = from + 1 })
end_here text from l t =
    let d : drop from text ≡ 10 ∷ drop (from + 1) text = drop_here text from l ∙ ap (λ c. c ∷ drop (from + 1) text) t in
    record {
      beyond = omega arith;
      within = omega arith;
      form = ap (after 0) d ∙ after_end (drop (from + 1) text);
      numbers = ap (λ s. map value_of (fields_of s)) d ∙ ap (map value_of) (fields_end (drop (from + 1) text));
      later = ap later d ∙ later_end (drop (from + 1) text);
    }

pub end_missing : (text : List ℕ) (from : ℕ) → (from < length text → get_or text from 0 ≡ 10 → ⊥) → Fails 0 (drop from text)
end_missing text from n = go (cases_lt from (length text))
  where
    go : (from < length text) ⊎ (length text ≤ from) → Fails 0 (drop from text)
    go (inl l) =
        inl (ap (after 0) (drop_here text from l) ∙ after_not_end (get_or text from 0) (drop (from + 1) text) (ne_eqb (get_or text from 0) 10 (n l)))
    go (inr h) = inr (ap later (drop_of_length-le text {i = from} h) ∙ later_nil)

-- ---- what follows fields

module _ (text : List ℕ) (from : ℕ) (values : List ℕ) (next k n : ℕ) (e : length values + k ≡ n) (f : Follows text from values next) where
  form_here : after n (drop from text) ≡ after k (drop next text)
  form_here = ap (λ m. after m (drop from text)) (sym e) ∙ f.form k

  pub numbers_more : (r : Line k) → Numbered text next k r → Numbered text from n (record { numbers = values ++ r.numbers; next = r.next })
  numbers_more r m =
      record {
        beyond = omega (arith, f.beyond, m.beyond);
        within = m.within;
        form = form_here ∙ m.form;
        numbers = f.numbers k m.form ∙ ap (λ l. values ++ l) m.numbers;
        later = f.later ∙ m.later;
      }

  pub fails_more : Fails k (drop next text) → Fails n (drop from text)
  fails_more (inl q) = inl (form_here ∙ q)
  fails_more (inr q) = inr (f.later ∙ q)
