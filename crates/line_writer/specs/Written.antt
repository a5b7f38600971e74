-- What a line leaves in a slice, and lines one after the other.
--     last                 the largest place: it stands for all beyond
--     capped k             k, or `last` where k is more
--     after at w           the place after w, written at `at`
--     written l at w       l with w in it at that place; l itself where it does not fit
--     fields ks            a tab and a numeral for each number
--     line_length n ks      the length of a line of a word of n bytes and of these numbers
--     Wrote l at w r m     w was written into l from `at` on: r is the place after it, and m what it leaves, if there is room for all of w
-- Laws:
--     capped_low, capped_high, capped_min, capped_plus, capped_add, after_within      the two cases; a saturating sum; a sum of capped numbers; `last` bounds a place
--     written_fits, written_not      the two cases
--     line_fields_law, length_line       a line and its length by its fields
--     fields_nil, fields_more, fields_room      the fields of the first numbers
--     line_end, line_test, line_room, line_placed      the place after a line, the test for room, and a line by its parts
--     wrote_line           what `put_line` leaves
--     wrote_none, wrote_then, wrote_as      nothing; one after the other; the same bytes said otherwise
--     wrote_rows_none, wrote_rows_more      a table of lists, list by list
--     wrote_start          what was written at place 0 overwrites
use Rattle.std.specs.Prelude.{◌≡◌, refl, ◌⊎◌, true, false, ◌&&◌, List, [], ◌∷◌, ◌++◌, map, ℕ, ◌+◌, ◌≤◌, ◌<◌, ltb, leb, min, get_or, length, take, drop, set}
use Rattle.std.proofs.Common.{sym, ap₂, subst, ◌∙◌, inl, inr, arith, add-one, length-append, take-append-drop, take-suc, lt-ltb, le-ltb, ltb-true, ltb-false, le-leb, leb-true}
use Rattle.std.proofs.Math.Path.{ap}
use Rattle.std.proofs.Math.Bool.{cond}
use Rattle.meaning.specs.List.{flat, table, overwrite}
use Rattle.meaning.specs.Text.{decimal, line}
use Rattle.laws.specs.Bool.{and_left, and_right, and_both, test_cases}
use Rattle.text_laws.specs.Lists.{map_append, flat_nil, flat_one, flat_append}
use Rattle.text_laws.specs.Tables.{flat_table_zero, flat_table_suc}
use Rattle.line_writer.specs.Placed.{placed, placed_nil, length_placed, placed_after, store_after, placed_start}

abbrev pub last : ℕ
last = 18446744073709551615

unfoldable pub capped : ℕ → ℕ
capped k = cond (ltb k last) k last

abbrev pub after : ℕ → List ℕ → ℕ
after at w = capped (at + length w)

unfoldable pub written : List ℕ → ℕ → List ℕ → List ℕ
written l at w = cond (ltb (after at w) last && leb (after at w) (length l)) (placed l at w) l

unfoldable pub fields : List ℕ → List ℕ
fields ks = flat (map (λ x. 9 ∷ x) (map decimal ks))

abbrev pub line_length : ℕ → List ℕ → ℕ
line_length n ks = n + 1 + length (fields ks)

pub record Wrote (l : List ℕ) (at : ℕ) (w : List ℕ) (r : ℕ) (m : List ℕ) : Type 0 where
  pub place : r ≡ after at w
  pub same : length m ≡ length l
  pub slice : at + length w < last → at + length w ≤ length l → m ≡ placed l at w

-- ---- places

pub capped_low : (k : ℕ) → k < last → capped k ≡ k
unfolding capped
capped_low k h = ap (λ t. cond t k last) (lt-ltb k last h)

pub capped_high : (k : ℕ) → last ≤ k → capped k ≡ last
unfolding capped
capped_high k h = ap (λ t. cond t k last) (le-ltb k last h)

by_last : {P : Type 0} (k : ℕ) → (k < last → P) → (last ≤ k → P) → P
by_last {P} k f g = go (test_cases (ltb k last))
  where
    go : (ltb k last ≡ true) ⊎ (ltb k last ≡ false) → P
    go (inl e) = f (ltb-true k last e)
    go (inr e) = g (ltb-false k last e)

-- what a saturating sum is
pub capped_min : (k : ℕ) → min k last ≡ capped k
capped_min k = by_last k (λ h. omega (arith, capped_low k h)) (λ h. omega (arith, capped_high k h))

pub capped_plus : (a b : ℕ) → capped (capped a + b) ≡ capped (a + b)
capped_plus a b =
    by_last a (λ h. ap (λ k. capped (k + b)) (capped_low a h))
    (λ h. ap (λ k. capped (k + b)) (capped_high a h) ∙ capped_high (last + b) (omega arith) ∙ sym (capped_high (a + b) (omega arith)))

pub capped_add : (a b : ℕ) → capped (a + capped b) ≡ capped (a + b)
capped_add a b =
    by_last b (λ h. ap (λ k. capped (a + k)) (capped_low b h))
    (λ h. ap (λ k. capped (a + k)) (capped_high b h) ∙ capped_high (a + last) (omega arith) ∙ sym (capped_high (a + b) (omega arith)))

pub after_within : (at : ℕ) (w : List ℕ) → after at w ≤ last
after_within at w = omega (arith, capped_min (at + length w))

-- below the last place nothing is capped
pub capped_below : (k : ℕ) → capped k < last → capped k ≡ k
capped_below k h = by_last k (capped_low k) (λ g. absurd (omega (arith, capped_high k g)))

-- ---- a word written at a place

module _ (l : List ℕ) (at : ℕ) (w : List ℕ) where
  pub written_fits : ltb (after at w) last && leb (after at w) (length l) ≡ true → written l at w ≡ placed l at w
  unfolding written
  written_fits e = ap (λ t. cond t (placed l at w) l) e

  pub written_not : ltb (after at w) last && leb (after at w) (length l) ≡ false → written l at w ≡ l
  unfolding written
  written_not e = ap (λ t. cond t (placed l at w) l) e

  -- what the test says
  pub fits_room : ltb (after at w) last && leb (after at w) (length l) ≡ true → (after at w ≡ at + length w) × (at + length w ≤ length l)
  fits_room e =
      let same = capped_below (at + length w) (ltb-true (after at w) last (and_left (ltb (after at w) last) (leb (after at w) (length l)) e)) in
      let room = leb-true (after at w) (length l) (and_right (ltb (after at w) last) (leb (after at w) (length l)) e) in
      (same, subst (λ k. k ≤ length l) same room)

  pub room_fits : at + length w < last → at + length w ≤ length l → ltb (after at w) last && leb (after at w) (length l) ≡ true
  room_fits h g =
      let e = capped_low (at + length w) h in
      and_both (ap (λ k. ltb k last) e ∙ lt-ltb (at + length w) last h) (ap (λ k. leb k (length l)) e ∙ le-leb (at + length w) (length l) g)

  length_written : length (written l at w) ≡ length l
  length_written = go (test_cases (ltb (after at w) last && leb (after at w) (length l)))
    where
      go : (ltb (after at w) last && leb (after at w) (length l) ≡ true) ⊎ (ltb (after at w) last && leb (after at w) (length l) ≡ false)
          → length (written l at w) ≡ length l
      go (inl e) = ap length (written_fits e) ∙ length_placed l at w (fits_room e).1
      go (inr e) = ap length (written_not e)

-- ---- a line by its fields

pub line_fields_law : (w ks : List ℕ) → line (w ∷ map decimal ks) ≡ w ++ fields ks ++ (10 ∷ [])
unfolding line fields
line_fields_law w ks = refl

pub length_line : (w ks : List ℕ) → length (line (w ∷ map decimal ks)) ≡ line_length (length w) ks
length_line w ks =
    omega (arith, ap length (line_fields_law w ks), length-append (w ++ fields ks) (10 ∷ []), length-append w (fields ks))

pub fields_nil : fields [] ≡ []
unfolding fields
fields_nil = flat_nil

fields_append : (js ks : List ℕ) → fields (js ++ ks) ≡ fields js ++ fields ks
unfolding fields
fields_append js ks =
    ap (λ l. flat (map (λ x. 9 ∷ x) l)) (map_append decimal js ks)
    ∙ ap flat (map_append (λ x. 9 ∷ x) (map decimal js) (map decimal ks))
    ∙ flat_append (map (λ x. 9 ∷ x) (map decimal js)) (map (λ x. 9 ∷ x) (map decimal ks))

fields_one : (k : ℕ) → fields (k ∷ []) ≡ 9 ∷ decimal k
unfolding fields
fields_one k = flat_one (9 ∷ decimal k)

pub fields_more : (ks : List ℕ) (i : ℕ) → i < length ks → fields (take (i + 1) ks) ≡ fields (take i ks) ++ (9 ∷ decimal (get_or ks i 0))
fields_more ks i h =
    ap (λ j. fields (take j ks)) (add-one i) ∙ ap fields (take-suc ks i 0 h) ∙ fields_append (take i ks) (get_or ks i 0 ∷ [])
    ∙ ap (λ l. fields (take i ks) ++ l) (fields_one (get_or ks i 0))

-- the fields of the first numbers are no longer than all
pub fields_room : (ks : List ℕ) (i : ℕ) → length (fields (take i ks)) ≤ length (fields ks)
fields_room ks i =
    omega (
      arith,
      ap (λ l. length (fields l)) (take-append-drop i ks),
      ap length (fields_append (take i ks) (drop i ks)),
      length-append (fields (take i ks)) (fields (drop i ks)),
    )

-- the place after a line, as `put_line` works it out, and what it writes where there is room
module _ (l : List ℕ) (at : ℕ) (w ks : List ℕ) (size end : ℕ) (es : size ≡ capped (line_length (length w) ks)) (ee : end ≡ capped (at + size)) where
  pub line_end : end ≡ after at (line (w ∷ map decimal ks))
  line_end =
      ee ∙ ap (λ k. capped (at + k)) es ∙ capped_add at (line_length (length w) ks) ∙ ap (λ k. capped (at + k)) (sym (length_line w ks))

  pub line_test : ltb end last && leb end (length l) ≡ ltb (after at (line (w ∷ map decimal ks))) last && leb (after at (line (w ∷ map decimal ks))) (length l)
  line_test = ap (λ k. ltb k last && leb k (length l)) line_end

  module _ (t : ltb end last && leb end (length l) ≡ true) where
    pub line_room : (end ≡ at + line_length (length w) ks) × (end ≤ length l)
    line_room =
        let f = fits_room l at (line (w ∷ map decimal ks)) (sym line_test ∙ t) in
        let n = length_line w ks in
        (omega (arith, line_end, f.0, n), omega (arith, line_end, f.0, f.1))

    pub line_placed : (m k : List ℕ) → m ≡ placed l at w → k ≡ placed m (at + length w) (fields ks) → (i : ℕ) → i + 1 ≡ end
        → set k i 10 ≡ written l at (line (w ∷ map decimal ks))
    line_placed m k em ek i ei =
        let r = line_room in
        let n = length-append w (fields ks) in
        ap (λ x. set x i 10)
        (ek ∙ ap (λ x. placed x (at + length w) (fields ks)) em ∙ placed_after l at w (fields ks) (omega (arith, r.0, r.1)))
        ∙ store_after l at (w ++ fields ks) 10 i (omega (arith, ei, r.0, n)) (omega (arith, ei, r.1))
        ∙ ap (placed l at) (sym (line_fields_law w ks))
        ∙ sym (written_fits l at (line (w ∷ map decimal ks)) (sym line_test ∙ t))

-- ---- lines one after the other

pub wrote_line : {l : List ℕ} {at : ℕ} {w : List ℕ} {r : ℕ} {m : List ℕ} → r ≡ after at w → m ≡ written l at w → Wrote l at w r m
wrote_line {l} {at} {w} p s =
    record {
      place = p;
      same = ap length s ∙ length_written l at w;
      slice = λ h g. s ∙ written_fits l at w (room_fits l at w h g);
    }

pub wrote_none : (l : List ℕ) (at : ℕ) → at ≤ last → Wrote l at [] at l
wrote_none l at h =
    record {
      place =
          by_last at (λ g. let z : at + 0 ≡ at = omega arith in sym (ap capped z ∙ capped_low at g))
          (λ g. let z : at ≡ last = omega arith in sym (capped_high (at + 0) (omega arith) ∙ sym z));
      same = refl;
      slice = λ _ _. sym (placed_nil l at);
    }

pub wrote_then : {l : List ℕ} {at : ℕ} {v w : List ℕ} {r s : ℕ} {m k : List ℕ} → Wrote l at v r m → Wrote m r w s k → Wrote l at (v ++ w) s k
wrote_then {l} {at} {v} {w} {r} {s} {m} {k} p q =
    let both : at + length v + length w ≡ at + length (v ++ w) = omega (arith, length-append v w) in
    record {
      place = q.place ∙ ap (λ i. capped (i + length w)) p.place ∙ capped_plus (at + length v) (length w) ∙ ap capped both;
      same = q.same ∙ p.same;
      slice =
          λ h g. let low : at + length v < last = omega arith in
          let here : r ≡ at + length v = p.place ∙ capped_low (at + length v) low in
          let fits : at + length v ≤ length l = omega arith in
          q.slice (omega arith) (omega (arith, p.same))
          ∙ ap₂ (λ x i. placed x i w) (p.slice low fits) here
          ∙ placed_after l at v w fits;
    }

pub wrote_as : {l : List ℕ} {at : ℕ} {v w : List ℕ} {r : ℕ} {m : List ℕ} → v ≡ w → Wrote l at v r m → Wrote l at w r m
wrote_as {l} {at} {v} {w} {r} {m} e = subst (λ x. Wrote l at x r m) e

pub wrote_rows_none : (l : List ℕ) (at : ℕ) (f : ℕ → List ℕ) → at ≤ last → Wrote l at (flat (table 0 f)) at l
wrote_rows_none l at f h = wrote_as (sym (flat_table_zero f)) (wrote_none l at h)

pub wrote_rows_more : {l : List ℕ} {at r s : ℕ} {m k : List ℕ} (f : ℕ → List ℕ) (i : ℕ) → Wrote l at (flat (table i f)) r m → Wrote m r (f i) s k
    → Wrote l at (flat (table (i + 1) f)) s k
wrote_rows_more f i p q =
    wrote_as (sym (ap (λ n. flat (table n f)) (add-one i) ∙ flat_table_suc i f)) (wrote_then p q)

pub wrote_start : {l w : List ℕ} {r : ℕ} {m : List ℕ} → Wrote l 0 w r m → length w < last → (r ≡ length w) × (length w ≤ length l → m ≡ overwrite w l)
wrote_start {l} {w} p h =
    let z : 0 + length w ≡ length w = omega arith in
    (p.place ∙ capped_low (0 + length w) (omega arith) ∙ z, λ g. p.slice (omega arith) (omega arith) ∙ placed_start l w)
