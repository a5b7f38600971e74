-- Laws of tables, of neighbours and of lists that rise by a key.
--     table_add, every_table, map_table                                 tables
--     flat_table_zero, flat_table_suc, every_flat_table, map_flat_table tables of lists, one after the other
--     flat_table_none, flat_table_one      .. where each is empty, or has one element
--     flat_rows            the rows from start to start make up the whole table
--     chain_nil, chain_one, chain_cons, chain_tail                      the clauses of chain
--     chain_at, chain_of, chain_table, chain_append, chain_weaken       tests of neighbours
--     chain_above          the first of a chain stands before each other, if what stands between may be left out
--     select_every, every_select, select_none, none_selected, count_mono, count_le      selections
--     up_to i, at_key i     the elements whose key is at most i, is i
--     rises l, rises_strictly l      the keys of l never fall, always rise
--     rises_above, rises_strictly_above      .. so no later key is below the first
--     key_at               m elements that rise strictly, with keys 1 to m: the key of element k is k + 1
--     below_count          in a list that rises, the elements with a key up to i are its first ones
--     buckets              .. and those with the keys 1 to n, key by key, are those with a key up to n
--     one_of_key           in a list that rises strictly no two elements have one key
--     chain_flat_table     groups of the keys 1 to n, each a chain, are a chain
use Rattle.std.specs.Prelude.{◌≡◌, ◌⊎◌, Bool, true, false, not, ◌&&◌, ℕ, zero, suc, ◌+◌, ◌-◌, ◌≤◌, ◌<◌, get_or, length}
use Rattle.std.proofs.Math.Path.{refl}
use Rattle.std.proofs.Common.{sym, ap, ap₂, ◌∙◌, subst, inl, inr, le_of_suc-le-suc, add-zero, add-suc, arith, add-one, ltb-true, leb-true, leb-false, eqb-true, lt-ltb, le-ltb, le-leb, ne_eqb}
use mathlib.Core.List.{List, [], ◌∷◌, ◌++◌, map, append_assoc, append-nil, cons≢nil}
use lib.Dec.{eqb, ltb, leb}
use Rattle.std.proofs.lemmas.Bool.{eqb-false, lt-leb, not-true}
use Rattle.meaning.specs.List.{table, every, chain, chain_from, select, flat}
use Rattle.meaning.specs.Refusal.{within}
use Rattle.laws.specs.Bool.{and_left, and_right, and_both, test_cases, never}
use Rattle.laws.specs.List.{table_zero, table_suc, length_table, get_or_table, every_nil, every_at}
use Rattle.laws.specs.Refusal.{within_low, within_high}
use Rattle.text_laws.specs.Lists.{map_append, flat_nil, flat_one, flat_append, select_nil, select_yes, select_no, every_join, every_one, every_head, every_tail, every_more, every_weaken}

-- ---- tables

module _ {A : Type 0} where
  pub table_add : (a b : ℕ) (f : ℕ → A) → table (a + b) f ≡ table a f ++ table b (λ k. f (a + k))
  table_add a zero f =
      ap (λ n. table n f) (add-zero a) ∙ sym (append-nil (table a f)) ∙ ap (λ l. table a f ++ l) (sym (table_zero (λ k. f (a + k))))
  table_add a (suc b) f =
      ap (λ n. table n f) (add-suc a b) ∙ table_suc (a + b) f ∙ ap (λ l. l ++ (f (a + b) ∷ [])) (table_add a b f)
      ∙ append_assoc (table a f) (table b (λ k. f (a + k))) (f (a + b) ∷ []) ∙ ap (λ l. table a f ++ l) (sym (table_suc b (λ k. f (a + k))))

  pub every_table : (t : A → Bool) (n : ℕ) (f : ℕ → A) → ((i : ℕ) → i < n → t (f i) ≡ true) → every t (table n f) ≡ true
  every_table t zero f h = ap (every t) (table_zero f) ∙ every_nil t
  every_table t (suc n) f h =
      ap (every t) (table_suc n f)
      ∙ every_join t (table n f) (f n ∷ []) (every_table t n f (λ i l. h i (omega arith))) (every_one t (f n) (h n (omega arith)))

  pub flat_table_zero : (g : ℕ → List A) → flat (table 0 g) ≡ []
  flat_table_zero g = ap flat (table_zero g) ∙ flat_nil

  pub flat_table_suc : (n : ℕ) (g : ℕ → List A) → flat (table (suc n) g) ≡ flat (table n g) ++ g n
  flat_table_suc n g =
      ap flat (table_suc n g) ∙ flat_append (table n g) (g n ∷ []) ∙ ap (λ l. flat (table n g) ++ l) (flat_one (g n))

  pub flat_table_none : (n : ℕ) (g : ℕ → List A) → ((i : ℕ) → i < n → g i ≡ []) → flat (table n g) ≡ []
  flat_table_none zero g h = flat_table_zero g
  flat_table_none (suc n) g h = flat_table_suc n g ∙ ap₂ ◌++◌ (flat_table_none n g (λ i l. h i (omega arith))) (h n (omega arith))

  pub flat_table_one : (n : ℕ) (f : ℕ → A) → flat (table n (λ i. f i ∷ [])) ≡ table n f
  flat_table_one zero f = flat_table_zero (λ i. f i ∷ []) ∙ sym (table_zero f)
  flat_table_one (suc n) f =
      flat_table_suc n (λ i. f i ∷ []) ∙ ap (λ l. l ++ (f n ∷ [])) (flat_table_one n f) ∙ sym (table_suc n f)

  pub every_flat_table : (t : A → Bool) (n : ℕ) (g : ℕ → List A) → ((i : ℕ) → i < n → every t (g i) ≡ true) → every t (flat (table n g)) ≡ true
  every_flat_table t zero g h = ap (every t) (flat_table_zero g) ∙ every_nil t
  every_flat_table t (suc n) g h =
      ap (every t) (flat_table_suc n g)
      ∙ every_join t (flat (table n g)) (g n) (every_flat_table t n g (λ i l. h i (omega arith))) (h n (omega arith))

  -- the rows from start to start make up the whole table
  pub flat_rows : (s : ℕ → ℕ) (f : ℕ → A) (n : ℕ) → s 0 ≡ 0 → ((i : ℕ) → i < n → s i ≤ s (i + 1))
      → flat (table n (λ i. table (s (i + 1) - s i) (λ k. f (s i + k)))) ≡ table (s n) f
  flat_rows s f zero z h =
      flat_table_zero (λ i. table (s (i + 1) - s i) (λ k. f (s i + k))) ∙ sym (table_zero f) ∙ ap (λ n. table n f) (sym z)
  flat_rows s f (suc n) z h =
      let up : s n ≤ s (n + 1) = h n (omega arith) in
      flat_table_suc n (λ i. table (s (i + 1) - s i) (λ k. f (s i + k)))
      ∙ ap (λ l. l ++ table (s (n + 1) - s n) (λ k. f (s n + k))) (flat_rows s f n z (λ i l. h i (omega arith)))
      ∙ sym (table_add (s n) (s (n + 1) - s n) f) ∙ ap (λ m. table m f) (omega arith) ∙ ap (λ m. table (s m) f) (add-one n)

module _ {A B : Type 0} where
  pub map_table : (f : A → B) (n : ℕ) (g : ℕ → A) → map f (table n g) ≡ table n (λ i. f (g i))
  map_table f zero g = ap (map f) (table_zero g) ∙ sym (table_zero (λ i. f (g i)))
  map_table f (suc n) g =
      ap (map f) (table_suc n g) ∙ map_append f (table n g) (g n ∷ []) ∙ ap (λ l. l ++ (f (g n) ∷ [])) (map_table f n g)
      ∙ sym (table_suc n (λ i. f (g i)))

  pub map_flat_table : (f : A → B) (n : ℕ) (g : ℕ → List A) → map f (flat (table n g)) ≡ flat (table n (λ i. map f (g i)))
  map_flat_table f zero g = ap (map f) (flat_table_zero g) ∙ sym (flat_table_zero (λ i. map f (g i)))
  map_flat_table f (suc n) g =
      ap (map f) (flat_table_suc n g) ∙ map_append f (flat (table n g)) (g n) ∙ ap (λ l. l ++ map f (g n)) (map_flat_table f n g)
      ∙ sym (flat_table_suc n (λ i. map f (g i)))

-- ---- neighbours

module _ {A : Type 0} (f : A → A → Bool) where
  pub chain_nil : chain f [] ≡ true
  unfolding chain
  chain_nil = refl

  pub chain_one : (a : A) → chain f (a ∷ []) ≡ true
  unfolding chain chain_from
  chain_one a = refl

  pub chain_cons : (a b : A) (l : List A) → chain f (a ∷ b ∷ l) ≡ f a b && chain f (b ∷ l)
  unfolding chain chain_from
  chain_cons a b l = refl

  pub chain_tail : (a : A) (l : List A) → chain f (a ∷ l) ≡ true → chain f l ≡ true
  chain_tail a [] e = chain_nil
  chain_tail a (b ∷ l) e = and_right (f a b) (chain f (b ∷ l)) (sym (chain_cons a b l) ∙ e)

  pub chain_at : (l : List A) (d : A) → chain f l ≡ true → (k : ℕ) → suc k < length l → f (get_or l k d) (get_or l (suc k) d) ≡ true
  chain_at [] d e k h = absurd (omega arith)
  chain_at (a ∷ []) d e k h = absurd (omega arith)
  chain_at (a ∷ b ∷ l) d e zero h = and_left (f a b) (chain f (b ∷ l)) (sym (chain_cons a b l) ∙ e)
  chain_at (a ∷ b ∷ l) d e (suc k) h = chain_at (b ∷ l) d (chain_tail a (b ∷ l) e) k (le_of_suc-le-suc h)

  pub chain_of : (l : List A) (d : A) → ((k : ℕ) → suc k < length l → f (get_or l k d) (get_or l (suc k) d) ≡ true) → chain f l ≡ true
  chain_of [] d h = chain_nil
  chain_of (a ∷ []) d h = chain_one a
  chain_of (a ∷ b ∷ l) d h = chain_cons a b l ∙ and_both (h 0 (omega arith)) (chain_of (b ∷ l) d (λ k g. h (suc k) (omega arith)))

  pub chain_table : (d : A) (n : ℕ) (g : ℕ → A) → ((k : ℕ) → suc k < n → f (g k) (g (suc k)) ≡ true) → chain f (table n g) ≡ true
  chain_table d n g h =
      chain_of (table n g) d
      (λ k l. let b : suc k < n = subst (λ m. suc k < m) (length_table n g) l in
      ap₂ f (get_or_table n g k d (omega arith)) (get_or_table n g (suc k) d b) ∙ h k b)

  -- each of l stands before each of m
  pub chain_append : (l m : List A) → chain f l ≡ true → chain f m ≡ true → every (λ a. every (f a) m) l ≡ true → chain f (l ++ m) ≡ true
  chain_append [] m c e j = e
  chain_append (a ∷ []) [] c e j = chain_one a
  chain_append (a ∷ []) (b ∷ m) c e j =
      chain_cons a b m ∙ and_both (every_head (f a) b m (every_head (λ a. every (f a) (b ∷ m)) a [] j)) e
  chain_append (a ∷ b ∷ l) m c e j =
      chain_cons a b (l ++ m)
      ∙ and_both (and_left (f a b) (chain f (b ∷ l)) (sym (chain_cons a b l) ∙ c))
      (chain_append (b ∷ l) m (chain_tail a (b ∷ l) c) e (every_tail (λ a. every (f a) m) a (b ∷ l) j))

  -- the first stands before each other, if what stands between may be left out
  pub chain_above : ((a b c : A) → f a b ≡ true → f b c ≡ true → f a c ≡ true) → (a : A) (l : List A) → chain f (a ∷ l) ≡ true → every
      (f a) l ≡ true
  chain_above t a [] e = every_nil (f a)
  chain_above t a (b ∷ l) e =
      let q : f a b ≡ true = and_left (f a b) (chain f (b ∷ l)) (sym (chain_cons a b l) ∙ e) in
      every_more (f a) b l q (every_weaken (f b) (f a) l (λ c r. t a b c q r) (chain_above t b l (chain_tail a (b ∷ l) e)))

pub chain_weaken : {A : Type 0} (f g : A → A → Bool) (l : List A) → ((a b : A) → f a b ≡ true → g a b ≡ true) → chain f l ≡ true
    → chain g l ≡ true
chain_weaken f g [] h e = chain_nil g
chain_weaken f g (a ∷ []) h e = chain_one g a
chain_weaken f g (a ∷ b ∷ l) h e =
    chain_cons g a b l
    ∙ and_both (h a b (and_left (f a b) (chain f (b ∷ l)) (sym (chain_cons f a b l) ∙ e)))
    (chain_weaken f g (b ∷ l) h (chain_tail f a (b ∷ l) e))

-- ---- selections

module _ {A : Type 0} where
  pub select_every : (f : A → Bool) (l : List A) → every f (select f l) ≡ true
  select_every f [] = ap (every f) (select_nil f) ∙ every_nil f
  select_every f (a ∷ l) = go (test_cases (f a)) (select_every f l)
    where
      go : (f a ≡ true) ⊎ (f a ≡ false) → every f (select f l) ≡ true → every f (select f (a ∷ l)) ≡ true
      go (inl e) ih = ap (every f) (select_yes f a l e) ∙ every_more f a (select f l) e ih
      go (inr e) ih = ap (every f) (select_no f a l e) ∙ ih

  pub every_select : (f g : A → Bool) (l : List A) → every g l ≡ true → every g (select f l) ≡ true
  every_select f g [] h = ap (every g) (select_nil f) ∙ every_nil g
  every_select f g (a ∷ l) h = go (test_cases (f a)) (every_select f g l (every_tail g a l h))
    where
      go : (f a ≡ true) ⊎ (f a ≡ false) → every g (select f l) ≡ true → every g (select f (a ∷ l)) ≡ true
      go (inl e) ih = ap (every g) (select_yes f a l e) ∙ every_more g a (select f l) (every_head g a l h) ih
      go (inr e) ih = ap (every g) (select_no f a l e) ∙ ih

  pub select_none : (f : A → Bool) (l : List A) → every (λ a. not (f a)) l ≡ true → select f l ≡ []
  select_none f [] h = select_nil f
  select_none f (a ∷ l) h =
      select_no f a l (not-true (f a) (every_head (λ a. not (f a)) a l h)) ∙ select_none f l (every_tail (λ a. not (f a)) a l h)

  pub none_selected : (f : A → Bool) (l : List A) → select f l ≡ [] → every (λ a. not (f a)) l ≡ true
  none_selected f [] h = every_nil (λ a. not (f a))
  none_selected f (a ∷ l) h = go (test_cases (f a)) (none_selected f l)
    where
      go : (f a ≡ true) ⊎ (f a ≡ false) → (select f l ≡ [] → every (λ a. not (f a)) l ≡ true) → every (λ a. not (f a)) (a ∷ l) ≡ true
      go (inl e) ih = absurd (cons≢nil (sym (select_yes f a l e) ∙ h))
      go (inr e) ih = every_more (λ a. not (f a)) a l (ap not e) (ih (sym (select_no f a l e) ∙ h))

  -- a weaker test selects at least as many
  pub count_mono : (f g : A → Bool) (l : List A) → ((a : A) → f a ≡ true → g a ≡ true) → length (select f l) ≤ length (select g l)
  count_mono f g [] h = omega (arith, ap length (select_nil f))
  count_mono f g (a ∷ l) h = go (test_cases (f a)) (test_cases (g a)) (count_mono f g l h)
    where
      go : (f a ≡ true) ⊎ (f a ≡ false) → (g a ≡ true) ⊎ (g a ≡ false) → length (select f l) ≤ length (select g l)
          → length (select f (a ∷ l)) ≤ length (select g (a ∷ l))
      go (inl d) (inl e) ih = omega (arith, ap length (select_yes f a l d), ap length (select_yes g a l e))
      go (inl d) (inr e) ih = never (g a) (h a d) e
      go (inr d) (inl e) ih = omega (arith, ap length (select_no f a l d), ap length (select_yes g a l e))
      go (inr d) (inr e) ih = omega (arith, ap length (select_no f a l d), ap length (select_no g a l e))

  pub count_le : (f : A → Bool) (l : List A) → length (select f l) ≤ length l
  count_le f [] = omega (arith, ap length (select_nil f))
  count_le f (a ∷ l) = go (test_cases (f a)) (count_le f l)
    where
      go : (f a ≡ true) ⊎ (f a ≡ false) → length (select f l) ≤ length l → length (select f (a ∷ l)) ≤ suc (length l)
      go (inl e) ih = omega (arith, ap length (select_yes f a l e))
      go (inr e) ih = omega (arith, ap length (select_no f a l e))

-- ---- lists that rise by a key

module _ {A : Type 0} (key : A → ℕ) where
  abbrev pub up_to : ℕ → A → Bool
  up_to i a = leb (key a) i

  abbrev pub at_key : ℕ → A → Bool
  at_key i a = eqb (key a) i

  abbrev pub rises : List A → Bool
  rises l = chain (λ a b. leb (key a) (key b)) l

  abbrev pub rises_strictly : List A → Bool
  rises_strictly l = chain (λ a b. ltb (key a) (key b)) l

  pub rises_above : (a : A) (l : List A) → rises (a ∷ l) ≡ true → every (λ b. leb (key a) (key b)) l ≡ true
  rises_above =
      chain_above (λ a b. leb (key a) (key b))
      (λ a b c p q. let x = leb-true (key a) (key b) p in let y = leb-true (key b) (key c) q in le-leb (key a) (key c) (omega arith))

  pub rises_strictly_above : (a : A) (l : List A) → rises_strictly (a ∷ l) ≡ true → every (λ b. ltb (key a) (key b)) l ≡ true
  rises_strictly_above =
      chain_above (λ a b. ltb (key a) (key b))
      (λ a b c p q. let x = ltb-true (key a) (key b) p in let y = ltb-true (key b) (key c) q in lt-ltb (key a) (key c) (omega arith))

  climbs : (l : List A) (d : A) → rises_strictly l ≡ true → (k j : ℕ) → k + j < length l → key (get_or l k d) + j ≤ key (get_or l (k + j) d)
  climbs l d r k zero h = omega (arith, ap (λ m. key (get_or l m d)) (add-zero k))
  climbs l d r k (suc j) h =
      omega (
        arith,
        climbs l d r k j (omega arith),
        ltb-true (key (get_or l (k + j) d)) (key (get_or l (suc (k + j)) d)) (chain_at (λ a b. ltb (key a) (key b)) l d r (k + j) (omega arith)),
        ap (λ m. key (get_or l m d)) (add-suc k j),
      )

  pub key_at : (l : List A) (d : A) → rises_strictly l ≡ true → every (λ a. within 1 (length l) (key a)) l ≡ true
      → (k : ℕ) → k < length l → key (get_or l k d) ≡ k + 1
  key_at l d r w k h =
      let last = length l - 1 in
      let inside : (i : ℕ) → i < length l → within 1 (length l) (key (get_or l i d)) ≡ true = every_at (λ a. within 1 (length l) (key a)) l d w in
      omega (
        arith,
        climbs l d r 0 k (omega arith),
        ap (λ m. key (get_or l m d)) (let z : 0 + k ≡ k = omega arith in z),
        within_low 1 (length l) (key (get_or l 0 d)) (inside 0 (omega arith)),
        climbs l d r k (last - k) (omega arith),
        ap (λ m. key (get_or l m d)) (let z : k + (last - k) ≡ last = omega arith in z),
        within_high 1 (length l) (key (get_or l last d)) (inside last (omega arith)),
      )

  none_below : (i : ℕ) (a : A) (l : List A) → i < key a → rises (a ∷ l) ≡ true → select (up_to i) l ≡ []
  none_below i a l h r =
      select_none (up_to i) l
      (every_weaken (λ b. leb (key a) (key b)) (λ b. not (up_to i b)) l
      (λ b e. let x = leb-true (key a) (key b) e in ap not (lt-leb (key b) i (omega arith)))
      (rises_above a l r))

  -- the elements with a key up to i are the first ones
  pub below_count : (l : List A) (d : A) → rises l ≡ true → (i k : ℕ) → k < length l
      → leb (key (get_or l k d)) i ≡ ltb k (length (select (up_to i) l))
  below_count [] d r i k h = absurd (omega arith)
  below_count (a ∷ l) d r i k h = go (test_cases (leb (key a) i)) k h (below_count l d (chain_tail (λ a b. leb (key a) (key b)) a l r) i)
    where
      go : (leb (key a) i ≡ true) ⊎ (leb (key a) i ≡ false) → (k : ℕ) → k < suc (length l)
          → ((k : ℕ) → k < length l → leb (key (get_or l k d)) i ≡ ltb k (length (select (up_to i) l)))
          → leb (key (get_or (a ∷ l) k d)) i ≡ ltb k (length (select (up_to i) (a ∷ l)))
      go (inl e) zero h ih = e ∙ sym (lt-ltb 0 (length (select (up_to i) (a ∷ l))) (omega (arith, ap length (select_yes (up_to i) a l e))))
      go (inl e) (suc k) h ih =
          ih k (omega arith) ∙ sym (lib.Dec.leb-suc-suc (suc k) (length (select (up_to i) l)))
          ∙ ap (λ m. ltb (suc k) (length m)) (sym (select_yes (up_to i) a l e))
      go (inr e) zero h ih =
          e ∙ sym (le-ltb 0 (length (select (up_to i) (a ∷ l)))
          (omega (arith, ap length (select_no (up_to i) a l e ∙ none_below i a l (leb-false (key a) i e) r))))
      go (inr e) (suc k) h ih =
          ih k (omega arith) ∙ le-ltb k (length (select (up_to i) l)) (omega (arith, ap length (none_below i a l (leb-false (key a) i e) r)))
          ∙ sym (le-ltb (suc k) (length (select (up_to i) (a ∷ l)))
          (omega (arith, ap length (select_no (up_to i) a l e ∙ none_below i a l (leb-false (key a) i e) r))))

  select_step : (l : List A) (n : ℕ) → rises l ≡ true → select (up_to n) l ++ select (at_key (n + 1)) l ≡ select (up_to (n + 1)) l
  select_step [] n r = ap₂ ◌++◌ (select_nil (up_to n)) (select_nil (at_key (n + 1))) ∙ sym (select_nil (up_to (n + 1)))
  select_step (a ∷ l) n r =
      go (test_cases (leb (key a) n)) (test_cases (eqb (key a) (n + 1))) (select_step l n (chain_tail (λ a b. leb (key a) (key b)) a l r))
    where
      go : (leb (key a) n ≡ true) ⊎ (leb (key a) n ≡ false) → (eqb (key a) (n + 1) ≡ true) ⊎ (eqb (key a) (n + 1) ≡ false)
          → select (up_to n) l ++ select (at_key (n + 1)) l ≡ select (up_to (n + 1)) l
          → select (up_to n) (a ∷ l) ++ select (at_key (n + 1)) (a ∷ l) ≡ select (up_to (n + 1)) (a ∷ l)
      go (inl e) (inl q) ih =
          let x = leb-true (key a) n e in
          let y = eqb-true (key a) (n + 1) q in
          absurd (omega arith)
      go (inl e) (inr q) ih =
          let x = leb-true (key a) n e in
          ap₂ ◌++◌ (select_yes (up_to n) a l e) (select_no (at_key (n + 1)) a l q) ∙ ap (λ r. a ∷ r) ih
          ∙ sym (select_yes (up_to (n + 1)) a l (le-leb (key a) (n + 1) (omega arith)))
      go (inr e) (inl q) ih =
          let y = eqb-true (key a) (n + 1) q in
          let none : select (up_to n) l ≡ [] = none_below n a l (leb-false (key a) n e) r in
          ap₂ ◌++◌ (select_no (up_to n) a l e ∙ none) (select_yes (at_key (n + 1)) a l q)
          ∙ ap (λ r. a ∷ r) (ap (λ m. m ++ select (at_key (n + 1)) l) (sym none) ∙ ih)
          ∙ sym (select_yes (up_to (n + 1)) a l (le-leb (key a) (n + 1) (omega arith)))
      go (inr e) (inr q) ih =
          let x = leb-false (key a) n e in
          let y : key a ≡ n + 1 → ⊥ = eqb-false (key a) (n + 1) q in
          ap₂ ◌++◌ (select_no (up_to n) a l e) (select_no (at_key (n + 1)) a l q) ∙ ih
          ∙ sym (select_no (up_to (n + 1)) a l (lt-leb (key a) (n + 1) (omega (arith, y))))

  -- the elements with keys 1 to n, key by key
  pub buckets : (l : List A) (n : ℕ) → rises l ≡ true → every (λ a. leb 1 (key a)) l ≡ true
      → flat (table n (λ i. select (at_key (i + 1)) l)) ≡ select (up_to n) l
  buckets l zero r p =
      flat_table_zero (λ i. select (at_key (i + 1)) l)
      ∙ sym (select_none (up_to 0) l
      (every_weaken (λ a. leb 1 (key a)) (λ a. not (up_to 0 a)) l (λ a e. ap not (lt-leb (key a) 0 (leb-true 1 (key a) e))) p))
  buckets l (suc n) r p =
      flat_table_suc n (λ i. select (at_key (i + 1)) l) ∙ ap (λ m. m ++ select (at_key (n + 1)) l) (buckets l n r p) ∙ select_step l n r
      ∙ ap (λ m. select (up_to m) l) (add-one n)

  pub one_of_key : (l : List A) (i : ℕ) → rises_strictly l ≡ true
      → (select (at_key i) l ≡ []) ⊎ ((a : A) × (select (at_key i) l ≡ a ∷ []))
  one_of_key [] i r = inl (select_nil (at_key i))
  one_of_key (a ∷ l) i r = go (test_cases (eqb (key a) i)) (one_of_key l i (chain_tail (λ a b. ltb (key a) (key b)) a l r))
    where
      alone : eqb (key a) i ≡ true → select (at_key i) l ≡ []
      alone e =
          select_none (at_key i) l
          (every_weaken (λ b. ltb (key a) (key b)) (λ b. not (at_key i b)) l
          (λ b q. let x = ltb-true (key a) (key b) q in let y = eqb-true (key a) i e in ap not (ne_eqb (key b) i (λ z. omega arith)))
          (rises_strictly_above a l r))

      go : (eqb (key a) i ≡ true) ⊎ (eqb (key a) i ≡ false) → (select (at_key i) l ≡ []) ⊎ ((a : A) × (select (at_key i) l ≡ a ∷ []))
          → (select (at_key i) (a ∷ l) ≡ []) ⊎ ((b : A) × (select (at_key i) (a ∷ l) ≡ b ∷ []))
      go (inl e) ih = inr (a, select_yes (at_key i) a l e ∙ ap (λ r. a ∷ r) (alone e))
      go (inr e) (inl q) = inl (select_no (at_key i) a l e ∙ q)
      go (inr e) (inr q) = inr (q.0, select_no (at_key i) a l e ∙ q.1)

  -- groups of keys 1 to n, each a chain, are a chain
  pub chain_flat_table : (f : A → A → Bool) (g : ℕ → List A) (n : ℕ) → ((a b : A) → key a < key b → f a b ≡ true)
      → ((i : ℕ) → i < n → chain f (g i) ≡ true) → ((i : ℕ) → i < n → every (at_key (i + 1)) (g i) ≡ true) → chain f (flat (table n g)) ≡ true
  chain_flat_table f g zero lt c k = ap (chain f) (flat_table_zero g) ∙ chain_nil f
  chain_flat_table f g (suc n) lt c k =
      ap (chain f) (flat_table_suc n g)
      ∙ chain_append f (flat (table n g)) (g n) (chain_flat_table f g n lt (λ i l. c i (omega arith)) (λ i l. k i (omega arith)))
      (c n (omega arith))
      (every_weaken (up_to n) (λ a. every (f a) (g n)) (flat (table n g))
      (λ a e. every_weaken (at_key (n + 1)) (f a) (g n)
      (λ b q. let x = leb-true (key a) n e in let y = eqb-true (key b) (n + 1) q in lt a b (omega arith))
      (k n (omega arith)))
      (every_flat_table (up_to n) n g
      (λ i l. every_weaken (at_key (i + 1)) (up_to n) (g i)
      (λ b q. let y = eqb-true (key b) (i + 1) q in le-leb (key b) n (omega arith))
      (k i (omega arith)))))
