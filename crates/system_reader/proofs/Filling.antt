-- The second pass: what the slices hold after k lines.
--     laid_more                        k places of a list are laid over another: one place more
--     table_run, front_fill            a table extended by a run of one value; the same laid over a list
--     Reached                          k lines of one form are done; reached_none, line_there, reached_more: its begin, and its turn
--     EntriesFilled                    after k `a` lines; entries_begin; entry_there, entry_bounds, entry_turn; starts_done: its begin, its turn and its end
use mathlib.Core.Path.{◌≡◌, refl, sym, ap, ap₂, ◌∙◌, subst}
use mathlib.Core.Logic.{◌⊎◌, inl, inr}
use mathlib.Core.Bool.{Bool, true, false, not, ◌&&◌, ◌||◌}
use mathlib.Core.List.{List, [], ◌∷◌, ◌++◌, append-nil}
use Prim.Native.Nat.{ℕ, zero, suc, ◌+◌, ◌-◌, ◌≤◌, ◌<◌}
use native.Mathlib.Omega.{arith}
use native.Mathlib.Nat.{add-zero}
use native.Mathlib.Numerals.{add-one}
use lib.Dec.{eqb, ltb, leb}
use lib.ListN.{get_or, length, take, drop, set, replicate, length-drop, length-set, length-map, take-append-drop, drop_of_length-le, get_or-map}
use lib.Seq.{drop-cons, take-suc, length-take-le, set_at, append_snoc, drop-drop, take_at, drop_at}
use borrow.Rule.Slice.PartMut.{put_mid, mid_of, post_of, same_len_mid, mid_len}
use Rattle.std.proofs.lemmas.List.{replicate_more, length-replicate}
use borrow.Author.Tests.{leb-true, le-leb, lt-leb, ltb-true, eqb-true, eq-eqb, not-true}
use Rattle.meaning.specs.List.{at, table, every, select, overwrite}
use Rattle.meaning.specs.Text as text
use Rattle.meaning.specs.Text.{lines, saying, row}
use Rattle.meaning.specs.Refusal.{within}
use Rattle.laws.specs.Bool.{and_left, and_right, test_cases}
use Rattle.laws.specs.List.{table_suc, table_zero, length_table, every_nil}
use Rattle.text_laws.specs.Lists.{select_nil, select_no, select_append, select_all, every_join, every_one, every_head, every_tail, every_more, every_weaken}
use Rattle.system_reader.specs.Order.{onward, forms_after, fresh, order_more, order_none}
use Rattle.system_reader.specs.Lines.{Here, said, LineOf, LineAt, entry_word, form_missing}
use Rattle.system_reader.specs.Places.{entry_taken, place_taken, entries_taken, entries_taken_cons, entries_of, saying_here, entry_fresh}
use Rattle.system_reader.specs.Fill.{starts_of, columns_of, values_of, Ahead, EntriesAhead}
use Rattle.system_reader.specs.declared.numeral.Line.{Line}
use Rattle.std.proofs.Common.{Option, Some, None, IsSome, length-append, append_assoc}

-- ---- a list laid over another

pub laid_more : (new old : List ℕ) (k x : ℕ) → k < length new → k < length old → get_or new k 0 ≡ x
    → set (take k new ++ drop k old) k x ≡ take (k + 1) new ++ drop (k + 1) old
laid_more new old k x l m e =
    ap (λ t. set (take k new ++ t) k x) (drop-cons old k 0 m)
    ∙ set_at (take k new) (get_or old k 0) (drop (suc k) old) x k (length-take-le k new (omega arith))
    ∙ sym (append_snoc (take k new) x (drop (suc k) old))
    ∙ ap (λ y. (take k new ++ (y ∷ [])) ++ drop (suc k) old) (sym e)
    ∙ ap (λ t. t ++ drop (suc k) old) (sym (take-suc new k 0 l))
    ∙ ap (λ j. take j new ++ drop j old) (sym (add-one k))

-- a table extended by a run of one value
pub table_run : (m d v : ℕ) (g : ℕ → ℕ) → ((i : ℕ) → m ≤ i → i < m + d → g i ≡ v) → table (m + d) g ≡ table m g ++ replicate d v
table_run m zero v g h = ap (λ j. table j g) (add-zero m) ∙ sym (append-nil (table m g))
table_run m (suc d) v g h =
    let e : m + suc d ≡ suc (m + d) = omega arith in
    ap (λ j. table j g) e ∙ table_suc (m + d) g
    ∙ ap₂ (λ l a. l ++ (a ∷ [])) (table_run m d v g (λ i a b. h i a (omega arith))) (h (m + d) (omega arith) (omega arith))
    ∙ append_assoc (table m g) (replicate d v) (v ∷ []) ∙ ap (λ r. table m g ++ r) (replicate_more d v ∙ ap (λ j. replicate j v) (add-one d))

-- .. laid over a list
pub front_fill : (m to v : ℕ) (g : ℕ → ℕ) (old part : List ℕ) → m ≤ to → to ≤ length old → ((i : ℕ) → m ≤ i → i < to → g i ≡ v)
    → part ≡ replicate (length (mid_of m (to - m) (table m g ++ drop m old))) v
    → put_mid m (to - m) (table m g ++ drop m old) part ≡ table to g ++ drop to old
front_fill m to v g old part o l h e =
    let q : m + (to - m) ≡ to = omega arith in
    let n : length (table m g ++ drop m old) ≡ length old = length-append (table m g) (drop m old) ∙ (omega (arith, length_table m g, length-drop m old)) in
    let k = mid_len m to (table m g ++ drop m old) (omega (arith, n)) in
    ap₂ (λ s t. s ++ (t ++ post_of m (to - m) (table m g ++ drop m old))) (take_at (table m g) (drop m old) m (length_table m g))
    (e ∙ ap (λ i. replicate i v) k)
    ∙ ap (λ t. table m g ++ (replicate (to - m) v ++ drop (to - m) t)) (drop_at (table m g) (drop m old) m (length_table m g))
    ∙ ap (λ t. table m g ++ (replicate (to - m) v ++ t)) (drop-drop (to - m) m old ∙ ap (λ j. drop j old) q)
    ∙ sym (append_assoc (table m g) (replicate (to - m) v) (drop to old))
    ∙ ap (λ t. t ++ drop to old) (sym (table_run m (to - m) v g (λ i a b. h i a (omega (arith, q)))) ∙ ap (λ j. table j g) q)

-- ---- selections of lines

pub select_nothing : {A : Type 0} (f : A → Bool) (l : List A) → every (λ a. not (f a)) l ≡ true → select f l ≡ []
select_nothing f [] e = select_nil f
select_nothing f (a ∷ l) e =
    select_no f a l (not-true (f a) (every_head (λ a. not (f a)) a l e)) ∙ select_nothing f l (every_tail (λ a. not (f a)) a l e)

abbrev start_at : List (List ℕ) → ℕ → ℕ
start_at es i = length (select (λ e. leb (row e) i) es)

-- the number of entries above a row that none of them is in
start_at_law : (es : List (List ℕ)) (k above x i : ℕ) → k ≤ length es → every (λ e. leb (row e) above) (take k es) ≡ true
    → every (λ e. leb x (row e)) (drop k es) ≡ true → above ≤ i → i < x → start_at es i ≡ k
start_at_law es k above x i l a b h m =
    let f : List ℕ → Bool = λ e. leb (row e) i in
    let first : select f (take k es) ≡ take k es =
    select_all f (take k es) (every_weaken (λ e. leb (row e) above) f (take k es) (λ e t. le-leb (row e) i (omega (arith, leb-true (row e) above t))) a) in
    let then : select f (drop k es) ≡ [] =
    select_nothing f (drop k es) (every_weaken (λ e. leb x (row e)) (λ e. not (f e)) (drop k es) (λ e t. ap not (lt-leb (row e) i (omega (arith, leb-true x (row e) t)))) b) in
    ap (λ t. length (select f t)) (sym (take-append-drop k es)) ∙ ap length (select_append f (take k es) (drop k es))
    ∙ ap₂ (λ s t. length (s ++ t)) first then ∙ ap length (append-nil (take k es)) ∙ length-take-le k es l

-- ---- what the places that are taken say

pub entry_low : (n i j x y : ℕ) → entry_taken n i j x y ≡ true → (1 ≤ x) × (x ≤ n) × (1 ≤ y) × (i ≤ x)
entry_low n i j x y e =
    let ab = and_left (within 1 n x && within 1 n y) (ltb i x || (eqb i x && ltb j y)) e in
    let a = and_left (within 1 n x) (within 1 n y) ab in
    let b = and_right (within 1 n x) (within 1 n y) ab in
    let o = and_right (within 1 n x && within 1 n y) (ltb i x || (eqb i x && ltb j y)) e in
    (leb-true 1 x (and_left (leb 1 x) (leb x n) a), leb-true x n (and_right (leb 1 x) (leb x n) a), leb-true 1 y (and_left (leb 1 y) (leb y n) b), order (test_cases (ltb i x)) o)
  where
    order : (ltb i x ≡ true) ⊎ (ltb i x ≡ false) → (ltb i x || (eqb i x && ltb j y)) ≡ true → i ≤ x
    order (inl t) o = omega (arith, ltb-true i x t)
    order (inr t) o = omega (arith, eqb-true i x (and_left (eqb i x) (ltb j y) (sym (ap (λ u. u || (eqb i x && ltb j y)) t) ∙ o)))

pub place_low : (n i x : ℕ) → place_taken n i x ≡ true → (1 ≤ x) × (x ≤ n) × (i < x)
place_low n i x e =
    let a = and_left (within 1 n x) (ltb i x) e in
    (leb-true 1 x (and_left (leb 1 x) (leb x n) a), leb-true x n (and_right (leb 1 x) (leb x n) a), ltb-true i x (and_right (within 1 n x) (ltb i x) e))

taken_rows : (n i j : ℕ) (es : List (List ℕ)) → entries_taken n i j es ≡ true → every (λ e. leb i (row e)) es ≡ true
taken_rows n i j [] t = every_nil (λ e. leb i (row e))
taken_rows n i j (e ∷ es) t =
    let u = sym (entries_taken_cons n i j e es) ∙ t in
    let low = entry_low n i j (row e) (at e 1) (and_left (entry_taken n i j (row e) (at e 1)) (entries_taken n (row e) (at e 1) es) u) in
    every_more (λ e. leb i (row e)) e es (le-leb i (row e) low.3)
    (every_weaken (λ f. leb (row e) (row f)) (λ f. leb i (row f)) es (λ f g. le-leb i (row f) (omega (arith, low.3, leb-true (row e) (row f) g)))
    (taken_rows n (row e) (at e 1) es (and_right (entry_taken n i j (row e) (at e 1)) (entries_taken n (row e) (at e 1) es) u)))

-- one more that is passed
pub passed_more : (es : List (List ℕ)) (k i : ℕ) (e : List ℕ) → k < length es → get_or es k [] ≡ e → i ≤ row e → every (λ e. leb (row e) i) (take k es) ≡ true
    → every (λ f. leb (row f) (row e)) (take (k + 1) es) ≡ true
passed_more es k i e l q h a =
    ap (λ j. every (λ f. leb (row f) (row e)) (take j es)) (add-one k)
    ∙ ap (every (λ f. leb (row f) (row e))) (take-suc es k [] l ∙ ap (λ x. take k es ++ (x ∷ [])) q)
    ∙ every_join (λ f. leb (row f) (row e)) (take k es) (e ∷ [])
    (every_weaken (λ f. leb (row f) i) (λ f. leb (row f) (row e)) (take k es) (λ f t. le-leb (row f) (row e) (omega (arith, leb-true (row f) i t))) a)
    (every_one (λ f. leb (row f) (row e)) e (le-leb (row e) (row e) (omega arith)))

-- a list from a place on, taken apart
pub head_is : (es : List (List ℕ)) (k : ℕ) (e : List ℕ) (r : List (List ℕ)) → k < length es → drop k es ≡ e ∷ r → get_or es k [] ≡ e
head_is es k e r l q = sym (ap (λ t. get_or t 0 []) (drop-cons es k [] l)) ∙ ap (λ t. get_or t 0 []) q

pub tail_is : (es : List (List ℕ)) (k : ℕ) (e : List ℕ) (r : List (List ℕ)) → drop k es ≡ e ∷ r → r ≡ drop (k + 1) es
tail_is es k e r q = sym (ap (drop 1) q) ∙ drop-drop 1 k es

-- ---- k lines are done

-- of `count` lines of form f from the place `from` on k are done, and the others begin at the place i
pub record Reached (f : text.Form) (s : List ℕ) (from count i k : ℕ) : Type 0 where
  pub few : k ≤ count
  pub within : i ≤ length s
  pub form : onward f (lines (drop i s)) ≡ true
  pub rest : saying f (lines (drop i s)) ≡ drop k (saying f (lines (drop from s)))

module _ (f : text.Form) (test : List (List ℕ) → Bool) (s : List ℕ) (from count n : ℕ) (a : Ahead f test s from count n) where
  abbrev all_lines : List (List ℕ)
  all_lines = saying f (lines (drop from s))

  pub reached_none : Reached f s from count from 0
  reached_none = record { few = omega arith; within = a.within; form = a.form; rest = refl }

  module _ (i k : ℕ) (r : Reached f s from count i k) (h : k < count) where
    pub reached_inside : k < length all_lines
    reached_inside = subst (λ c. k < c) (sym a.all) h

    -- before the last: a line is there
    pub line_there : fresh f (forms_after f) ≡ true → (m : ℕ) (l : Option (Line m)) → LineOf f s i m l → IsSome l
    line_there d m None missing =
        let none : drop k all_lines ≡ [] =
        sym r.rest ∙ order_none f (forms_after f) d (lines (drop i s)) (sym (form_missing (lines (drop i s)) f (forms_after f) missing) ∙ r.form) in
        absurd (omega (arith, ap length none, length-drop k all_lines, reached_inside))
    line_there d m (Some l) here = refl

    module _ (e : List ℕ) (next : ℕ) (line : Here s i next f e) where
      pub reached_split : drop k all_lines ≡ e ∷ saying f (lines (drop next s))
      reached_split = sym r.rest ∙ saying_here s i next f e line

      pub reached_here : get_or all_lines k [] ≡ e
      reached_here = head_is all_lines k e (saying f (lines (drop next s))) reached_inside reached_split

      pub reached_more : Reached f s from count next (k + 1)
      reached_more =
          record {
            few = omega arith;
            within = line.within;
            form =
                sym (ap (onward f) line.lines ∙ order_more f (forms_after f) (said f e) (lines (drop next s)) (eq-eqb (text.rank f) (text.rank f) refl)) ∙ r.form;
            rest = tail_is all_lines k e (saying f (lines (drop next s))) reached_split;
          }

-- ---- after k `a` lines

pub record EntriesFilled (s : List ℕ) (from count n : ℕ) (starts₀ columns₀ values₀ starts columns values : List ℕ) (i above k : ℕ) : Type 0 where
  pub reached : Reached text.entry s from count i k
  pub low : above ≤ n
  pub left : ℕ
  pub taken : entries_taken n above left (drop k (entries_of (drop from s))) ≡ true
  pub passed : every (λ e. leb (row e) above) (take k (entries_of (drop from s))) ≡ true
  pub starts_length : length starts ≡ length starts₀
  pub columns_length : length columns ≡ length columns₀
  pub values_length : length values ≡ length values₀
  pub starts_now : starts ≡ table above (start_at (entries_of (drop from s))) ++ drop above starts₀
  pub columns_now : columns ≡ take k (columns_of (entries_of (drop from s))) ++ drop k columns₀
  pub values_now : values ≡ take k (values_of (entries_of (drop from s))) ++ drop k values₀

pub entries_begin : (s : List ℕ) (from count n : ℕ) (starts columns values : List ℕ) → EntriesAhead s from count n
    → EntriesFilled s from count n starts columns values starts columns values from 0 0
entries_begin s from count n starts columns values a =
    record {
      reached = reached_none text.entry (entries_taken n 0 0) s from count n a;
      low = omega arith;
      left = 0;
      taken = a.taken;
      passed = every_nil (λ e. leb (row e) 0);
      starts_length = refl;
      columns_length = refl;
      values_length = refl;
      starts_now = sym (ap (λ t. t ++ starts) (table_zero (start_at (entries_of (drop from s)))));
      columns_now = refl;
      values_now = refl;
    }

module _ {s : List ℕ} {from count n : ℕ} {starts₀ columns₀ values₀ starts columns values : List ℕ} {i above k : ℕ}
    (a : EntriesAhead s from count n) (f : EntriesFilled s from count n starts₀ columns₀ values₀ starts columns values i above k) where
  abbrev all_entries : List (List ℕ)
  all_entries = entries_of (drop from s)

  -- before the last: a line is there
  pub entry_there : k < count → (o : Option (Line 3)) → LineAt s i (97 ∷ []) 3 o → IsSome o
  entry_there h o stands = line_there text.entry (entries_taken n 0 0) s from count n a i k f.reached h entry_fresh 3 o (stands text.entry refl entry_word refl)

  -- .. and that line
  module _ (h : k < count) {o : Option (Line 3)} {l : Line 3} (some : o ≡ Some l) (stands : LineAt s i (97 ∷ []) 3 o) where
    abbrev e : List ℕ
    e = l.numbers

    abbrev next : ℕ
    next = l.next

    line : Here s i next text.entry e
    line = subst (LineAt s i (97 ∷ []) 3) some stands text.entry refl entry_word refl

    abbrev x : ℕ
    x = row e

    abbrev y : ℕ
    y = at e 1

    abbrev z : ℕ
    z = at e 2

    inside : k < length all_entries
    inside = reached_inside text.entry (entries_taken n 0 0) s from count n a i k f.reached h

    split : drop k all_entries ≡ e ∷ entries_of (drop next s)
    split = reached_split text.entry (entries_taken n 0 0) s from count n a i k f.reached h e next line

    here_is : get_or all_entries k [] ≡ e
    here_is = reached_here text.entry (entries_taken n 0 0) s from count n a i k f.reached h e next line

    more : Reached text.entry s from count next (k + 1)
    more = reached_more text.entry (entries_taken n 0 0) s from count n a i k f.reached h e next line

    both_taken : entry_taken n above f.left x y && entries_taken n x y (entries_of (drop next s)) ≡ true
    both_taken =
        sym (entries_taken_cons n above f.left e (entries_of (drop next s)))
        ∙ ap (entries_taken n above f.left) (sym split) ∙ f.taken

    pub entry_bounds : (1 ≤ x) × (x ≤ n) × (1 ≤ y) × (above ≤ x)
    entry_bounds = entry_low n above f.left x y (and_left (entry_taken n above f.left x y) (entries_taken n x y (entries_of (drop next s))) both_taken)

    rows_from : every (λ e. leb x (row e)) (drop k all_entries) ≡ true
    rows_from =
        ap (every (λ e. leb x (row e))) split
        ∙ every_more (λ e. leb x (row e)) e (entries_of (drop next s)) (le-leb x x (omega arith))
        (taken_rows n x y (entries_of (drop next s)) (and_right (entry_taken n above f.left x y) (entries_taken n x y (entries_of (drop next s))) both_taken))

    pub entry_turn : (starts' part : List ℕ) → n + 1 ≤ length starts₀ → count ≤ length columns₀ → count ≤ length values₀
        → starts' ≡ put_mid above (x - above) starts part → part ≡ replicate (length (mid_of above (x - above) starts)) k
        → EntriesFilled s from count n starts₀ columns₀ values₀ starts' (set columns k (y - 1)) (set values k z) next x (k + 1)
    entry_turn starts' part r₁ r₂ r₃ q p =
        let b = entry_bounds in
        let m = ap (λ t. length (mid_of above (x - above) t)) f.starts_now in
        record {
          reached = more;
          low = b.1;
          left = y;
          taken =
              ap (entries_taken n x y) (sym more.rest)
              ∙ and_right (entry_taken n above f.left x y) (entries_taken n x y (entries_of (drop next s))) both_taken;
          passed = passed_more all_entries k above e inside here_is b.3 f.passed;
          starts_length = ap length q ∙ same_len_mid above (x - above) starts part (ap length p ∙ length-replicate _ k) ∙ f.starts_length;
          columns_length = length-set columns k (y - 1) ∙ f.columns_length;
          values_length = length-set values k z ∙ f.values_length;
          starts_now =
              q ∙ ap (λ t. put_mid above (x - above) t part) f.starts_now
              ∙ front_fill above x k (start_at all_entries) starts₀ part b.3 (omega (arith, b.1, r₁))
              (λ j u v. start_at_law all_entries k above x j (omega (arith, inside)) f.passed rows_from u v)
              (p ∙ ap (λ i. replicate i k) m);
          columns_now =
              ap (λ t. set t k (y - 1)) f.columns_now
              ∙ laid_more (columns_of all_entries) columns₀ k (y - 1) (subst (λ c. k < c) (sym (length-map all_entries (λ e. at e 1 - 1))) inside) (omega (arith, h, r₂))
              (get_or-map (λ e. at e 1 - 1) all_entries k [] ∙ ap (λ t. at t 1 - 1) here_is);
          values_now =
              ap (λ t. set t k z) f.values_now
              ∙ laid_more (values_of all_entries) values₀ k z (subst (λ c. k < c) (sym (length-map all_entries (λ e. at e 2))) inside) (omega (arith, h, r₃))
              (get_or-map (λ e. at e 2) all_entries k [] ∙ ap (λ t. at t 2) here_is);
        }

  -- after the last
  module _ (h : count ≤ k) where
    all_passed : k ≡ length all_entries
    all_passed = omega (arith, h, f.reached.few, a.all)

    pub starts_done : (starts' part : List ℕ) → n + 1 ≤ length starts₀ → starts' ≡ put_mid above (n + 1 - above) starts part
        → part ≡ replicate (length (mid_of above (n + 1 - above) starts)) count → starts' ≡ overwrite (starts_of n all_entries) starts₀
    starts_done starts' part r q p =
        let c : count ≡ k = omega (arith, h, f.reached.few) in
        let d : drop k all_entries ≡ [] = drop_of_length-le all_entries {i = k} (omega (arith, all_passed)) in
        let m = ap (λ t. length (mid_of above (n + 1 - above) t)) f.starts_now in
        q ∙ ap (λ t. put_mid above (n + 1 - above) t part) f.starts_now
        ∙ front_fill above (n + 1) k (start_at all_entries) starts₀ part (omega (arith, f.low)) r
        (λ j u v. start_at_law all_entries k above (suc j) j (omega (arith, all_passed)) f.passed (ap (every (λ e. leb (suc j) (row e))) d ∙ every_nil (λ e. leb (suc j) (row e))) u (omega arith))
        (p ∙ ap₂ replicate m c)
        ∙ ap (λ j. table (n + 1) (start_at all_entries) ++ drop j starts₀) (sym (length_table (n + 1) (start_at all_entries)))
