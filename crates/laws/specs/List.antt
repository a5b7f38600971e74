-- Laws of sums, tables and tests over lists of numbers (meaning's List).
--     sum_zero, sum_suc, sum_ext, sum_zeros, sum_add, sum_mod, sum_mod_ext      sums
--     table_zero, table_suc, length_table, get_or_table, get_or_table_past, get_d_any, table_ext, table_of      tables
--     all_zero, all_suc, all_at, all_of, all_not, all_ext           tests at 0 .. n − 1
--     every_nil, every_cons, every_at, every_of, every_not, every_all      tests of each element
--     length_none, equal→≡, equal_refl                              no elements; equality of lists
--     is_zero_at, is_zero_of                                          zeros
use Rattle.std.specs.Prelude.{◌≡◌, Bool, true, false, ◌&&◌, List, [], ◌∷◌, ◌++◌, ℕ, zero, suc, ◌+◌, ◌%◌, ◌≤◌, ◌<◌, eqb, get_or, length, ◌⊎◌}
use Rattle.std.proofs.Math.Path.{refl}
use Rattle.std.proofs.Common.{sym, ap, ap₂, ◌∙◌, subst, true≢false, eq-or-lt_of_le, le_of_suc-le-suc, arith, add-one, length-append, ext_get_or, eqb-true, eq-eqb, inl, inr}
use Rattle.std.proofs.Math.Nat.{mod-add-mod, add-mod-mod}
use Rattle.std.proofs.Math.ListN.{get_or-append, get_or-eq_default}
use Rattle.std.proofs.lemmas.List.{get_or_at}
use Rattle.meaning.specs.List.{at, sum, table, all, every, equal, is_zero}
use Rattle.laws.specs.Bool.{and_left, and_right, and_both, and_false_left, and_false_right, same_test}

-- ---- sums

pub sum_zero : (f : ℕ → ℕ) → sum 0 f ≡ 0
unfolding sum
sum_zero f = refl

pub sum_suc : (n : ℕ) (f : ℕ → ℕ) → sum (suc n) f ≡ sum n f + f n
unfolding sum
sum_suc n f = refl

pub sum_ext : (n : ℕ) (f g : ℕ → ℕ) → ((i : ℕ) → i < n → f i ≡ g i) → sum n f ≡ sum n g
sum_ext zero f g h = sum_zero f ∙ sym (sum_zero g)
sum_ext (suc n) f g h =
    sum_suc n f ∙ ap₂ ◌+◌ (sum_ext n f g (λ i l. h i (omega arith))) (h n (omega arith)) ∙ sym (sum_suc n g)

pub sum_zeros : (n : ℕ) (f : ℕ → ℕ) → ((i : ℕ) → i < n → f i ≡ 0) → sum n f ≡ 0
sum_zeros zero f h = sum_zero f
sum_zeros (suc n) f h = sum_suc n f ∙ ap₂ ◌+◌ (sum_zeros n f (λ i l. h i (omega arith))) (h n (omega arith))

pub sum_add : (n : ℕ) (f g : ℕ → ℕ) → sum n (λ i. f i + g i) ≡ sum n f + sum n g
sum_add zero f g = simp sum_zero
sum_add (suc n) f g =
    let ih = sum_add n f g in
    simp sum_suc (omega (arith, ih))

-- a sum modulo p may be reduced term by term
pub sum_mod : (p n : ℕ) (f : ℕ → ℕ) → sum n (λ i. f i % p) % p ≡ sum n f % p
sum_mod p zero f = simp sum_zero
sum_mod p (suc n) f =
    ap (λ x. x % p) (sum_suc n (λ i. f i % p)) ∙ add-mod-mod (sum n (λ i. f i % p)) (f n) p
    ∙ sym (mod-add-mod (sum n (λ i. f i % p)) p (f n)) ∙ ap (λ x. (x + f n) % p) (sum_mod p n f)
    ∙ mod-add-mod (sum n f) p (f n) ∙ ap (λ x. x % p) (sym (sum_suc n f))

-- terms that agree modulo p have sums that do
pub sum_mod_ext : (p n : ℕ) (f g : ℕ → ℕ) → ((i : ℕ) → i < n → f i % p ≡ g i % p) → sum n f % p ≡ sum n g % p
sum_mod_ext p n f g h =
    sym (sum_mod p n f) ∙ ap (λ x. x % p) (sum_ext n (λ i. f i % p) (λ i. g i % p) h) ∙ sum_mod p n g

-- ---- tables

module _ {A : Type 0} where
  pub table_zero : (f : ℕ → A) → table 0 f ≡ []
  unfolding table
  table_zero f = refl

  pub table_suc : (n : ℕ) (f : ℕ → A) → table (suc n) f ≡ table n f ++ (f n ∷ [])
  unfolding table
  table_suc n f = refl

  pub length_table : (n : ℕ) (f : ℕ → A) → length (table n f) ≡ n
  length_table zero f = ap length (table_zero f)
  length_table (suc n) f =
      ap length (table_suc n f) ∙ length-append (table n f) (f n ∷ []) ∙ add-one (length (table n f)) ∙ ap suc (length_table n f)

  pub get_or_table : (n : ℕ) (f : ℕ → A) (i : ℕ) (d : A) → i < n → get_or (table n f) i d ≡ f i
  get_or_table zero f i d h = absurd (omega arith)
  get_or_table (suc n) f i d h = ap (λ l. get_or l i d) (table_suc n f) ∙ go (eq-or-lt_of_le (le_of_suc-le-suc h)) (get_or_table n f i d)
    where
      go : (i ≡ n) ⊎ (i < n) → (i < n → get_or (table n f) i d ≡ f i) → get_or (table n f ++ (f n ∷ [])) i d ≡ f i
      go (inl e) ih = get_or_at (table n f) (f n) [] d i (length_table n f ∙ sym e) ∙ ap f (sym e)
      go (inr l) ih = get_or-append (table n f) (f n ∷ []) d i (subst (λ k. i < k) (sym (length_table n f)) l) ∙ ih l

  pub get_or_table_past : (n : ℕ) (f : ℕ → A) (i : ℕ) (d : A) → n ≤ i → get_or (table n f) i d ≡ d
  get_or_table_past n f i d h = get_or-eq_default (table n f) d (subst (λ k. k ≤ i) (sym (length_table n f)) h)

  -- within a list what stands past its end does not matter
  pub get_d_any : (l : List A) (i : ℕ) (d e : A) → i < length l → get_or l i d ≡ get_or l i e
  get_d_any [] i d e h = absurd (omega arith)
  get_d_any (a ∷ l) zero d e h = refl
  get_d_any (a ∷ l) (suc i) d e h = get_d_any l i d e (le_of_suc-le-suc h)

  pub table_ext : (n : ℕ) (f g : ℕ → A) → ((i : ℕ) → i < n → f i ≡ g i) → table n f ≡ table n g
  table_ext zero f g h = table_zero f ∙ sym (table_zero g)
  table_ext (suc n) f g h =
      table_suc n f ∙ ap₂ (λ l a. l ++ (a ∷ [])) (table_ext n f g (λ i l. h i (omega arith))) (h n (omega arith)) ∙ sym (table_suc n g)

  -- a list is the table of its elements
  pub table_of : (d : A) (l : List A) (n : ℕ) (f : ℕ → A) → length l ≡ n → ((i : ℕ) → i < n → get_or l i d ≡ f i) → l ≡ table n f
  table_of d l n f e h =
      ext_get_or d l (table n f) (e ∙ sym (length_table n f))
      (λ i lt. let b : i < n = subst (λ k. i < k) e lt in h i b ∙ sym (get_or_table n f i d b))

-- ---- tests at 0 .. n − 1

pub all_zero : (f : ℕ → Bool) → all 0 f ≡ true
unfolding all
all_zero f = refl

pub all_suc : (n : ℕ) (f : ℕ → Bool) → all (suc n) f ≡ all n f && f n
unfolding all
all_suc n f = refl

pub all_at : (n : ℕ) (f : ℕ → Bool) → all n f ≡ true → (i : ℕ) → i < n → f i ≡ true
all_at zero f e i h = absurd (omega arith)
all_at (suc n) f e i h = go (eq-or-lt_of_le (le_of_suc-le-suc h)) (all_at n f (and_left (all n f) (f n) e') i)
  where
    e' : all n f && f n ≡ true
    e' = sym (all_suc n f) ∙ e

    go : (i ≡ n) ⊎ (i < n) → (i < n → f i ≡ true) → f i ≡ true
    go (inl q) ih = ap f q ∙ and_right (all n f) (f n) e'
    go (inr l) ih = ih l

pub all_of : (n : ℕ) (f : ℕ → Bool) → ((i : ℕ) → i < n → f i ≡ true) → all n f ≡ true
all_of zero f h = all_zero f
all_of (suc n) f h = all_suc n f ∙ and_both (all_of n f (λ i l. h i (omega arith))) (h n (omega arith))

pub all_not : (n : ℕ) (f : ℕ → Bool) (i : ℕ) → i < n → f i ≡ false → all n f ≡ false
all_not zero f i h e = absurd (omega arith)
all_not (suc n) f i h e = all_suc n f ∙ go (eq-or-lt_of_le (le_of_suc-le-suc h)) (λ l. all_not n f i l e)
  where
    go : (i ≡ n) ⊎ (i < n) → (i < n → all n f ≡ false) → all n f && f n ≡ false
    go (inl q) ih = and_false_right (all n f) (ap f (sym q) ∙ e)
    go (inr l) ih = and_false_left (f n) (ih l)

pub all_ext : (n : ℕ) (f g : ℕ → Bool) → ((i : ℕ) → i < n → f i ≡ g i) → all n f ≡ all n g
all_ext zero f g h = all_zero f ∙ sym (all_zero g)
all_ext (suc n) f g h =
    all_suc n f ∙ ap₂ ◌&&◌ (all_ext n f g (λ i l. h i (omega arith))) (h n (omega arith)) ∙ sym (all_suc n g)

-- ---- tests of each element

module _ {A : Type 0} where
  pub every_nil : (f : A → Bool) → every f [] ≡ true
  unfolding every
  every_nil f = refl

  pub every_cons : (f : A → Bool) (a : A) (l : List A) → every f (a ∷ l) ≡ f a && every f l
  unfolding every
  every_cons f a l = refl

  pub every_at : (f : A → Bool) (l : List A) (d : A) → every f l ≡ true → (i : ℕ) → i < length l → f (get_or l i d) ≡ true
  every_at f [] d e i h = absurd (omega arith)
  every_at f (a ∷ l) d e zero h = and_left (f a) (every f l) (sym (every_cons f a l) ∙ e)
  every_at f (a ∷ l) d e (suc i) h =
      every_at f l d (and_right (f a) (every f l) (sym (every_cons f a l) ∙ e)) i (le_of_suc-le-suc h)

  pub every_of : (f : A → Bool) (l : List A) (d : A) → ((i : ℕ) → i < length l → f (get_or l i d) ≡ true) → every f l ≡ true
  every_of f [] d h = every_nil f
  every_of f (a ∷ l) d h =
      every_cons f a l ∙ and_both (h 0 (omega arith)) (every_of f l d (λ i k. h (suc i) (omega arith)))

  pub every_not : (f : A → Bool) (l : List A) (d : A) (i : ℕ) → i < length l → f (get_or l i d) ≡ false → every f l ≡ false
  every_not f [] d i h e = absurd (omega arith)
  every_not f (a ∷ l) d zero h e = every_cons f a l ∙ and_false_left (every f l) e
  every_not f (a ∷ l) d (suc i) h e =
      every_cons f a l ∙ and_false_right (f a) (every_not f l d i (le_of_suc-le-suc h) e)

  -- each element, as the places below the length
  pub every_all : (f : A → Bool) (l : List A) (d : A) → every f l ≡ all (length l) (λ i. f (get_or l i d))
  every_all f l d =
      same_test (every f l) (all (length l) (λ i. f (get_or l i d)))
      (λ e. all_of (length l) (λ i. f (get_or l i d)) (every_at f l d e))
      (λ e. every_of f l d (all_at (length l) (λ i. f (get_or l i d)) e))

-- ---- equality and zeros

pub length_none : (l : List ℕ) → length l ≡ 0 → l ≡ []
length_none [] e = refl
length_none (a ∷ l) e = absurd (omega arith)

pub equal→≡ : (l m : List ℕ) → equal l m ≡ true → l ≡ m
unfolding equal
equal→≡ [] [] e = refl
equal→≡ [] (b ∷ m) e = absurd (true≢false (sym e))
equal→≡ (a ∷ l) [] e = absurd (true≢false (sym e))
equal→≡ (a ∷ l) (b ∷ m) e =
    ap₂ ◌∷◌ (eqb-true a b (and_left (eqb a b) (equal l m) e)) (equal→≡ l m (and_right (eqb a b) (equal l m) e))

pub equal_refl : (l : List ℕ) → equal l l ≡ true
unfolding equal
equal_refl [] = refl
equal_refl (a ∷ l) = and_both (eq-eqb a a refl) (equal_refl l)

pub is_zero_at : (l : List ℕ) → is_zero l ≡ true → (i : ℕ) → at l i ≡ 0
is_zero_at [] e i = refl
is_zero_at (a ∷ l) e zero = eqb-true a 0 (every_at (λ x. eqb x 0) (a ∷ l) 0 e 0 (omega arith))
is_zero_at (a ∷ l) e (suc i) = is_zero_at l (and_right (eqb a 0) (is_zero l) (sym (every_cons (λ x. eqb x 0) a l) ∙ e)) i

pub is_zero_of : (l : List ℕ) → ((i : ℕ) → i < length l → at l i ≡ 0) → is_zero l ≡ true
is_zero_of l h = every_of (λ x. eqb x 0) l 0 (λ i k. eq-eqb (at l i) 0 (h i k))
