-- The loop over a numeral, at the place i of what follows its begin; and the loop over a line's fields.
--     all_after            a slice from a place to its end
--     NumeralBegun         what was read of the numeral; numeral_more: one byte more
--     NumeralEnded         no byte extends it: numeral_end, the text ends; numeral_stop, another byte stands there; numeral_read: what was read then
--     FieldsBegun          what was read of the fields; fields_fail: one is missing; fields_end, fields_open: after the last, the line's end or none
use Rattle.std.proofs.Common.{◌≡◌, refl, sym, ap, ◌∙◌, subst, arith, Bool, true, false, ℕ, ◌+◌, ◌-◌, ◌*◌, ◌≤◌, ◌<◌, get_or, length, take, drop, List, Option, Some, None, drop_of_length-le, is_some, MatchOption, suc, inl, append-nil, length-drop}
use Rattle.std.proofs.Math.Seq.{take_all, length-take-le}
use Rattle.std.specs.Option.{unwrap_or, option_map}
use Rattle.std.specs.Bool.{then_some}
use Rattle.std.proofs.lemmas.Option.{same_Some, none-some}
use Rattle.system_reader.specs.Scan.{drop_here, after, extends_by, run, run_value, run_nil, run_yes, run_no, run_value_nil, run_value_yes, run_value_no}
use Rattle.system_reader.specs.Fields.{extension, NumeralAt, Follows, Fails, Numbered, end_here, numbers_more, fails_more}
use Rattle.system_reader.specs.declared.numeral.Number.{Number}

pub all_after : (text : List ℕ) (from : ℕ) → take (length text - from) (drop from text) ≡ drop from text
all_after text from = take_all (length text - from) (drop from text) (omega (arith, length-drop from text))

-- the numeral at the head of s is the one read so far, extended by what follows i
pub record NumeralBegun (s : List ℕ) (v : Option ℕ) (i : ℕ) : Type 0 where
  pub begun : MatchOption v (i ≡ 0) (λ _. 0 < i)
  pub bytes : run false 0 s ≡ i + run (is_some v) (unwrap_or v 0) (drop i s)
  pub value : run_value false 0 s ≡ run_value (is_some v) (unwrap_or v 0) (drop i s)

then_some_taken : (b : Bool) (y x : ℕ) → then_some b y ≡ Some x → (b ≡ true) × (y ≡ x)
then_some_taken true y x e = (refl, same_Some y x e)
then_some_taken false y x e = absurd (none-some x e)

then_some_none : (b : Bool) (y : ℕ) → then_some b y ≡ None → b ≡ false
then_some_none true y e = absurd (none-some y (sym e))
then_some_none false y e = refl

-- nothing extends it any more
pub record NumeralEnded (s : List ℕ) (v : Option ℕ) (i : ℕ) : Type 0 where
  pub bytes : run (is_some v) (unwrap_or v 0) (drop i s) ≡ 0
  pub value : run_value (is_some v) (unwrap_or v 0) (drop i s) ≡ unwrap_or v 0

pub numeral_end : (s : List ℕ) (v : Option ℕ) (i : ℕ) → length s ≤ i → NumeralEnded s v i
numeral_end s v i h =
    let d = drop_of_length-le s {i = i} h in
    record {
      bytes = ap (run (is_some v) (unwrap_or v 0)) d ∙ run_nil (is_some v) (unwrap_or v 0);
      value = ap (run_value (is_some v) (unwrap_or v 0)) d ∙ run_value_nil (is_some v) (unwrap_or v 0);
    }

module _ (s : List ℕ) (v : Option ℕ) (i : ℕ) (l : i < length s) where
  abbrev byte : ℕ
  byte = get_or s i 0

  pub numeral_stop : extension v byte ≡ None → NumeralEnded s v i
  numeral_stop e =
      let f = then_some_none (extends_by (is_some v) (unwrap_or v 0) byte) _ e in
      record {
        bytes = ap (run (is_some v) (unwrap_or v 0)) (drop_here s i l) ∙ run_no (is_some v) (unwrap_or v 0) byte (drop (i + 1) s) f;
        value = ap (run_value (is_some v) (unwrap_or v 0)) (drop_here s i l) ∙ run_value_no (is_some v) (unwrap_or v 0) byte (drop (i + 1) s) f;
      }

  pub numeral_more : (x : ℕ) → NumeralBegun s v i → extension v byte ≡ Some x → NumeralBegun s (Some x) (i + 1)
  numeral_more x b e =
      let f = then_some_taken (extends_by (is_some v) (unwrap_or v 0) byte) (unwrap_or v 0 * 10 + (byte - 48)) x e in
      let r = run_yes (is_some v) (unwrap_or v 0) byte (drop (i + 1) s) f.0 in
      let h = ap (run (is_some v) (unwrap_or v 0)) (drop_here s i l) in
      let n = ap (λ y. run true y (drop (i + 1) s)) f.1 in
      record {
        begun = omega arith;
        bytes = omega (arith, b.bytes, r, h, n);
        value =
            b.value ∙ ap (run_value (is_some v) (unwrap_or v 0)) (drop_here s i l) ∙ run_value_yes (is_some v) (unwrap_or v 0) byte (drop (i + 1) s) f.0
            ∙ ap (λ y. run_value true y (drop (i + 1) s)) f.1;
      }

-- what was read, where the loop is left
pub numeral_read : (s : List ℕ) (v : Option ℕ) (i from next : ℕ) (r : Option Number) → next ≡ from + i → NumeralBegun s v i → NumeralEnded s v i
    → r ≡ option_map (λ x. record { value = x; next = next }) v → NumeralAt s from r
numeral_read s v i from next r n b e q = subst (NumeralAt s from) (sym q) (go v b e)
  where
    go : (v : Option ℕ) → NumeralBegun s v i → NumeralEnded s v i → NumeralAt s from (option_map (λ x. record { value = x; next = next }) v)
    go None b e = omega (arith, b.begun, b.bytes, e.bytes)
    go (Some x) b e =
        record { some = omega (arith, n, b.begun); next = omega (arith, n, b.bytes, e.bytes); value = sym (b.value ∙ e.value) }

-- ---- fields

-- i fields of n were read: their numbers stand first in a slice
pub record FieldsBegun (text : List ℕ) (from n : ℕ) (numbers : List ℕ) (i next : ℕ) : Type 0 where
  pub few : i ≤ n
  pub whole : length numbers ≡ n
  pub follows : Follows text from (take i numbers) next

module _ (text : List ℕ) (from n : ℕ) (numbers : List ℕ) (i next : ℕ) (b : FieldsBegun text from n numbers i next) where
  read : i ≤ length numbers → length (take i numbers) ≡ i
  read h = length-take-le i numbers h

  -- a field is missing
  pub fields_fail : i < n → ((k : ℕ) → after (suc k) (drop next text) ≡ false) → Fails n (drop from text)
  fields_fail l e =
      fails_more text from (take i numbers) next (suc (n - (i + 1))) n (omega (arith, read (omega (arith, b.whole)))) b.follows (inl (e (n - (i + 1))))

  module _ (h : n ≤ i) where
    all : take i numbers ≡ numbers
    all = take_all i numbers (omega (arith, b.whole))

    pub fields_end : next < length text → get_or text next 0 ≡ 10 → Numbered text from n (record { numbers = numbers; next = next + 1 })
    fields_end l t =
        subst (λ v. Numbered text from n (record { numbers = v; next = next + 1 })) (append-nil (take i numbers) ∙ all)
        (numbers_more text from (take i numbers) next 0 n (omega (arith, b.few, b.whole, read (omega (arith, b.few, b.whole)))) b.follows _ (end_here text next l t))

    pub fields_open : Fails 0 (drop next text) → Fails n (drop from text)
    fields_open = fails_more text from (take i numbers) next 0 n (omega (arith, b.few, b.whole, read (omega (arith, b.few, b.whole)))) b.follows
