-- The second pass over lines of a place and a value: what the slice holds after k of them.
--     place_at none es i    what place i of the meaning's `placed` holds
--     PlacesFilled         after k lines; places_begin; place_there, place_bounds, place_turn; places_done: its begin, its turn and its end
use mathlib.Core.Path.{◌≡◌, refl, sym, ap, ap₂, ◌∙◌, subst}
use mathlib.Core.Bool.{Bool, true, not, ◌&&◌}
use mathlib.Core.List.{List, [], ◌∷◌, ◌++◌, append-nil}
use Prim.Native.Nat.{ℕ, ◌+◌, ◌-◌, ◌≤◌, ◌<◌}
use native.Mathlib.Omega.{arith}
use native.Mathlib.Numerals.{add-one}
use native.Mathlib.Decide.{ℕ_discrete}
use lib.Dec.{eqb, leb}
use lib.ListN.{get_or, length, take, drop, set, replicate, length-set}
use Rattle.system_reader.specs.declared.numeral.Line.{Line}
use Rattle.std.proofs.Common.{Option, Some, IsSome, zero-add, length-append}
use Rattle.std.proofs.lemmas.List.{length-replicate}
use lib.Seq.{length-take-le, take-suc, take_all, set-append_left, drop_at, get_or-set_same, get_or-set_other}
use borrow.Author.Tests.{leb-true, eq-eqb, ne_eqb}
use Rattle.meaning.specs.List.{at, table, every, select, overwrite}
use Rattle.meaning.specs.Text.{row, placed}
use Rattle.laws.specs.Bool.{and_left, and_right}
use Rattle.laws.specs.List.{table_zero, length_table, get_or_table, table_of, every_nil}
use Rattle.text_laws.specs.Lists.{select_nil, select_yes, select_no, select_append, every_weaken}
use Rattle.system_reader.specs.Lines.{Here, LineAt}
use Rattle.system_reader.specs.Places.{placed_by, place_taken, places_after, places_after_cons, places_of, place_fresh, place_line_law}
use Rattle.system_reader.specs.Fill.{PlacesAhead}
use Rattle.system_reader.proofs.Filling.{table_run, select_nothing, passed_more, place_low, Reached, reached_none, reached_inside, line_there, reached_split, reached_here, reached_more}

-- ---- after k lines

abbrev place_at : ℕ → List (List ℕ) → ℕ → ℕ
place_at none es i = at (get_or (select (λ e. eqb (row e) (i + 1)) es) 0 ((i + 1) ∷ none ∷ [])) 1

pub record PlacesFilled (w s : List ℕ) (from count n none : ℕ) (out₀ out : List ℕ) (i k : ℕ) : Type 0 where
  pub reached : Reached (placed_by w) s from count i k
  pub above : ℕ
  pub taken : places_after n above (drop k (places_of w (drop from s))) ≡ true
  pub passed : every (λ e. leb (row e) above) (take k (places_of w (drop from s))) ≡ true
  pub out_length : length out ≡ length out₀
  pub out_now : out ≡ table n (place_at none (take k (places_of w (drop from s)))) ++ drop n out₀

-- no line yet: one value, and the rest as it was
module _ (n none : ℕ) (old part : List ℕ) (r : n ≤ length old) (p : part ≡ replicate (length (take n old)) none) where
  abbrev out : List ℕ
  out = part ++ drop n old

  pub out_long : n ≤ length out
  out_long = omega (arith, length-append part (drop n old), ap length p, length-replicate (length (take n old)) none, length-take-le n old r)

  none_first : out ≡ table n (place_at none []) ++ drop n old
  none_first =
      let g = place_at none [] in
      ap (λ t. t ++ drop n old)
      (p ∙ ap (λ i. replicate i none) (length-take-le n old r)
      ∙ sym (ap (λ i. table i g) (sym (zero-add n)) ∙ table_run 0 n none g (λ i u v. ap (λ l. at (get_or l 0 ((i + 1) ∷ none ∷ [])) 1) (select_nil (λ e. eqb (row e) (i + 1))))
      ∙ ap (λ t. t ++ replicate n none) (table_zero g)))

  pub rest_kept : drop n out ≡ drop n old
  rest_kept = ap (drop n) none_first ∙ drop_at (table n (place_at none [])) (drop n old) n (length_table n (place_at none []))

  pub places_begin : (w s : List ℕ) (from count : ℕ) → PlacesAhead w s from count n → PlacesFilled w s from count n none out out from 0
  places_begin w s from count a =
      record {
        reached = reached_none (placed_by w) (places_after n 0) s from count n a.ahead;
        above = 0;
        taken = a.ahead.taken;
        passed = every_nil (λ e. leb (row e) 0);
        out_length = refl;
        out_now = none_first ∙ ap (λ t. table n (place_at none []) ++ t) (sym rest_kept);
      }

table_set : (n : ℕ) (f g : ℕ → ℕ) (i v : ℕ) → i < n → g i ≡ v → ((j : ℕ) → (j ≡ i → ⊥) → g j ≡ f j) → set (table n f) i v ≡ table n g
table_set n f g i v l e h =
    table_of 0 (set (table n f) i v) n g (length-set (table n f) i v ∙ length_table n f)
    (λ j m. go j m (ℕ_discrete j i))
  where
    go : (j : ℕ) → j < n → Dec (j ≡ i) → get_or (set (table n f) i v) j 0 ≡ g j
    go j m (yes q) =
        ap (λ t. get_or (set (table n f) i v) t 0) q ∙ get_or-set_same (table n f) i v 0 (subst (λ t. i < t) (sym (length_table n f)) l) ∙ sym e ∙ ap g (sym q)
    go j m (no q) = get_or-set_other (table n f) i j v 0 q ∙ get_or_table n f j 0 m ∙ sym (h j q)

module _ {w s : List ℕ} {from count n none : ℕ} {out₀ out : List ℕ} {i k : ℕ} (a : PlacesAhead w s from count n)
    (f : PlacesFilled w s from count n none out₀ out i k) where
  abbrev all_places : List (List ℕ)
  all_places = places_of w (drop from s)

  -- before the last: a line is there
  pub place_there : k < count → (o : Option (Line 2)) → LineAt s i w 2 o → IsSome o
  place_there h o stands = line_there (placed_by w) (places_after n 0) s from count n a.ahead i k f.reached h (place_fresh w) 2 o (place_line_law w s i o a.word stands)

  -- .. and that line
  module _ (h : k < count) {o : Option (Line 2)} {l : Line 2} (some : o ≡ Some l) (stands : LineAt s i w 2 o) where
    abbrev e : List ℕ
    e = l.numbers

    abbrev next : ℕ
    next = l.next

    line : Here s i next (placed_by w) e
    line = place_line_law w s i (Some l) a.word (subst (LineAt s i w 2) some stands)

    abbrev x : ℕ
    x = row e

    abbrev z : ℕ
    z = at e 1

    split : drop k all_places ≡ e ∷ places_of w (drop next s)
    split = reached_split (placed_by w) (places_after n 0) s from count n a.ahead i k f.reached h e next line

    inside : k < length all_places
    inside = reached_inside (placed_by w) (places_after n 0) s from count n a.ahead i k f.reached h

    here_is : get_or all_places k [] ≡ e
    here_is = reached_here (placed_by w) (places_after n 0) s from count n a.ahead i k f.reached h e next line

    reached : Reached (placed_by w) s from count next (k + 1)
    reached = reached_more (placed_by w) (places_after n 0) s from count n a.ahead i k f.reached h e next line

    both_taken : place_taken n f.above x && places_after n x (places_of w (drop next s)) ≡ true
    both_taken =
        sym (places_after_cons n f.above e (places_of w (drop next s)))
        ∙ ap (places_after n f.above) (sym split) ∙ f.taken

    pub place_bounds : (1 ≤ x) × (x ≤ n) × (f.above < x)
    place_bounds = place_low n f.above x (and_left (place_taken n f.above x) (places_after n x (places_of w (drop next s))) both_taken)

    more : take (k + 1) all_places ≡ take k all_places ++ (e ∷ [])
    more = ap (λ j. take j all_places) (add-one k) ∙ take-suc all_places k [] inside ∙ ap (λ l. take k all_places ++ (l ∷ [])) here_is

    selected : (j : ℕ) → select (λ e. eqb (row e) (j + 1)) (take (k + 1) all_places)
        ≡ select (λ e. eqb (row e) (j + 1)) (take k all_places) ++ select (λ e. eqb (row e) (j + 1)) (e ∷ [])
    selected j = ap (select (λ e. eqb (row e) (j + 1))) more ∙ select_append (λ e. eqb (row e) (j + 1)) (take k all_places) (e ∷ [])

    -- at this place, none before
    now_here : place_at none (take (k + 1) all_places) (x - 1) ≡ z
    now_here =
        let b = place_bounds in
        let q : x ≡ x - 1 + 1 = omega (arith, b.0) in
        let g : List ℕ → Bool = λ e. eqb (row e) (x - 1 + 1) in
        let first : select g (take k all_places) ≡ [] =
        select_nothing g (take k all_places)
        (every_weaken (λ e. leb (row e) f.above) (λ e. not (g e)) (take k all_places)
        (λ e t. ap not (ne_eqb (row e) (x - 1 + 1) (λ c. omega (arith, leb-true (row e) f.above t, b.2, q)))) f.passed) in
        let then : select g (e ∷ []) ≡ e ∷ [] =
        select_yes g e [] (eq-eqb x (x - 1 + 1) q) ∙ ap (λ t. e ∷ t) (select_nil g) in
        ap (λ l. at (get_or l 0 ((x - 1 + 1) ∷ none ∷ [])) 1) (selected (x - 1) ∙ ap₂ ◌++◌ first then)

    else_same : (j : ℕ) → (j ≡ x - 1 → ⊥) → place_at none (take (k + 1) all_places) j ≡ place_at none (take k all_places) j
    else_same j d =
        let g : List ℕ → Bool = λ e. eqb (row e) (j + 1) in
        let then : select g (e ∷ []) ≡ [] = select_no g e [] (ne_eqb x (j + 1) (λ c. d (omega arith))) ∙ select_nil g in
        ap (λ l. at (get_or l 0 ((j + 1) ∷ none ∷ [])) 1)
        (selected j ∙ ap (λ t. select g (take k all_places) ++ t) then ∙ append-nil (select g (take k all_places)))

    pub place_turn : n ≤ length out₀ → PlacesFilled w s from count n none out₀ (set out (x - 1) z) next (k + 1)
    place_turn m =
        let b = place_bounds in
        record {
          reached = reached;
          above = x;
          taken =
              ap (places_after n x) (sym reached.rest)
              ∙ and_right (place_taken n f.above x) (places_after n x (places_of w (drop next s))) both_taken;
          passed = passed_more all_places k f.above e inside here_is (omega (arith, b.2)) f.passed;
          out_length = length-set out (x - 1) z ∙ f.out_length;
          out_now =
              ap (λ t. set t (x - 1) z) f.out_now
              ∙ set-append_left (table n (place_at none (take k all_places))) (drop n out₀) (x - 1) z
              (subst (λ t. x - 1 < t) (sym (length_table n (place_at none (take k all_places)))) (omega (arith, b.0, b.1)))
              ∙ ap (λ t. t ++ drop n out₀)
              (table_set n (place_at none (take k all_places)) (place_at none (take (k + 1) all_places)) (x - 1) z (omega (arith, b.0, b.1)) now_here else_same);
        }

  pub places_done : count ≤ k → (old : List ℕ) → drop n out₀ ≡ drop n old → out ≡ overwrite (placed n none all_places) old
  unfolding placed
  places_done h old q =
      let c : length all_places ≤ k = omega (arith, h, a.ahead.all) in
      f.out_now ∙ ap₂ (λ t u. table n (place_at none t) ++ u) (take_all k all_places c) q
      ∙ ap (λ j. table n (place_at none all_places) ++ drop j old) (sym (length_table n (place_at none all_places)))
