-- Sums over ranges, and loops that sum into a total.
--     sum_from_empty, sum_from_suc, sum_from_next      sums over a range: nothing, and one more at its end
--     sum_from_zero     a range from 0 on
--     sum_from_split    a range as two
--     sum_from_one, sum_from_two, sum_from_four, two_added, four_added        a few terms, as the code adds them
--     sum_from_ext      terms that agree within the range
--     Summed           the invariant of every loop that sums into a total: summed_none where it begins, summed_more for a turn, summed_one for a
--                      turn with one term, summed_both for two such loops after each other
--     Grouped          the word with some terms of a group, of which so many fit a word: grouped_none, grouped_fits, grouped_more for one term
--                      more, summed_group for a turn with a whole group; group_within: a group lies in the range
use Rattle.std.specs.Prelude.{◌≡◌, ℕ, zero, suc, ◌+◌, ◌-◌, ◌*◌, ◌/◌, ◌<◌, ◌≤◌}
use Rattle.std.proofs.Common.{sym, ap, ap₂, ◌∙◌, subst, zero-add, add-zero, add_assoc, add-suc, add-sub_of_le, add-one, add-mul, le-div_iff_mul-le, le_of_mul-le-mul_right, arith}
use Rattle.std.proofs.Math.Nat.{sub-zero, sub_self}
use Rattle.meaning.specs.List.{sum, sum_from}
use Rattle.laws.specs.List.{sum_zero, sum_suc, sum_ext}
use Rattle.modular.specs.declared.sums.Total.{Total}
use Rattle.modular.specs.Total.{number, added, add_sums, added_low}

-- ---- sums over a range

pub sum_from_empty : (a : ℕ) (f : ℕ → ℕ) → sum_from a a f ≡ 0
sum_from_empty a f = ap (λ n. sum n (λ j. f (a + j))) (sub_self a) ∙ sum_zero (λ j. f (a + j))

pub sum_from_zero : (n : ℕ) (f : ℕ → ℕ) → sum_from 0 n f ≡ sum n f
sum_from_zero n f =
    ap (λ m. sum m (λ j. f (0 + j))) (sub-zero n) ∙ sum_ext n (λ j. f (0 + j)) f (λ i l. ap f (zero-add i))

pub sum_from_suc : (a b : ℕ) (f : ℕ → ℕ) → a ≤ b → sum_from a (suc b) f ≡ sum_from a b f + f b
sum_from_suc a b f l =
    ap (λ n. sum n (λ j. f (a + j))) (omega (arith, l)) ∙ sum_suc (b - a) (λ j. f (a + j))
    ∙ ap (λ n. sum_from a b f + f n) (add-sub_of_le l)

pub sum_from_next : (a b : ℕ) (f : ℕ → ℕ) → a ≤ b → sum_from a (b + 1) f ≡ sum_from a b f + f b
sum_from_next a b f l = ap (λ n. sum_from a n f) (add-one b) ∙ sum_from_suc a b f l

pub sum_from_split : (a b c : ℕ) (f : ℕ → ℕ) → a ≤ b → b ≤ c → sum_from a c f ≡ sum_from a b f + sum_from b c f
sum_from_split a b c f l k =
    ap (λ n. sum_from a n f) (sym (add-sub_of_le k)) ∙ go (c - b) ∙ ap (λ n. sum_from a b f + sum_from b n f) (add-sub_of_le k)
  where
    go : (n : ℕ) → sum_from a (b + n) f ≡ sum_from a b f + sum_from b (b + n) f
    go zero =
        ap (λ n. sum_from a n f) (add-zero b) ∙ omega (arith, ap (λ n. sum_from b n f) (add-zero b) ∙ sum_from_empty b f)
    go (suc n) =
        ap (λ n. sum_from a n f) (add-suc b n) ∙ sum_from_suc a (b + n) f (omega arith) ∙ ap (λ x. x + f (b + n)) (go n)
        ∙ omega (arith, ap (λ n. sum_from b n f) (add-suc b n) ∙ sum_from_suc b (b + n) f (omega arith))

-- a few terms, as the code adds them
module _ (a : ℕ) (f : ℕ → ℕ) where
  more : (k x : ℕ) → sum_from a (a + k) f ≡ x → sum_from a (a + suc k) f ≡ x + f (a + k)
  more k x e = ap (λ n. sum_from a n f) (add-suc a k) ∙ sum_from_suc a (a + k) f (omega arith) ∙ ap (λ y. y + f (a + k)) e

  pub sum_from_one : sum_from a (a + 1) f ≡ f a
  sum_from_one = sum_from_next a a f (omega arith) ∙ ap (λ x. x + f a) (sum_from_empty a f) ∙ zero-add (f a)

  pub sum_from_two : sum_from a (a + 2) f ≡ f a + f (a + 1)
  sum_from_two = more 1 (f a) sum_from_one

  pub sum_from_four : sum_from a (a + 4) f ≡ f a + f (a + 1) + f (a + 2) + f (a + 3)
  sum_from_four = more 3 (f a + f (a + 1) + f (a + 2)) (more 2 (f a + f (a + 1)) sum_from_two)

  pub two_added : (x y : ℕ) → x ≡ f a → y ≡ f (a + 1) → x + y ≡ sum_from a (a + 2) f
  two_added x y p q = ap₂ ◌+◌ p q ∙ sym sum_from_two

  pub four_added : (x y z w : ℕ) → x ≡ f a → y ≡ f (a + 1) → z ≡ f (a + 2) → w ≡ f (a + 3) → x + y + z + w ≡ sum_from a (a + 4) f
  four_added x y z w p q r s = ap₂ ◌+◌ (ap₂ ◌+◌ (ap₂ ◌+◌ p q) r) s ∙ sym sum_from_four

pub sum_from_ext : (a b : ℕ) (f g : ℕ → ℕ) → ((k : ℕ) → a ≤ k → k < b → f k ≡ g k) → sum_from a b f ≡ sum_from a b g
sum_from_ext a b f g h = sum_ext (b - a) (λ j. f (a + j)) (λ j. g (a + j)) (λ j l. h (a + j) (omega arith) (omega arith))

-- ---- the invariant of every loop that sums into a total

-- r is t with the terms from a to b; no more carries than that
pub record Summed (t r : Total) (a b : ℕ) (f : ℕ → ℕ) : Type 0 where
  pub sum : number r ≡ number t + sum_from a b f
  pub low : r.low < 18446744073709551616
  pub carries : r.high ≤ b

pub summed_none : (t : Total) (a : ℕ) (f : ℕ → ℕ) → t.low < 18446744073709551616 → t.high ≤ a → Summed t t a a f
summed_none t a f l h =
    record { sum = sym (ap (λ x. number t + x) (sum_from_empty a f) ∙ add-zero (number t)); low = l; carries = h }

-- a turn adds the word x
pub summed_more : (t s r : Total) (a b c : ℕ) (f : ℕ → ℕ) (x : ℕ) → a ≤ b → b < c → c < 4294967296 → Summed t s a b f
    → x < 18446744073709551616 → x ≡ sum_from b c f → r ≡ added s x → Summed t r a c f
summed_more t s r a b c f x l k n h w e m =
    let more = add_sums s r x m h.low w (omega (arith, h.carries, k, n)) in
    record {
      sum =
          more.0 ∙ ap₂ ◌+◌ h.sum e ∙ add_assoc (number t) (sum_from a b f) (sum_from b c f)
          ∙ ap (λ y. number t + y) (sym (sum_from_split a b c f l (omega (arith, k))));
      low = added_low s r x m;
      carries = omega (arith, more.1, h.carries, k);
    }

pub summed_one : (t s r : Total) (a b : ℕ) (f : ℕ → ℕ) (x : ℕ) → a ≤ b → b < 4294967295 → Summed t s a b f
    → x < 18446744073709551616 → x ≡ f b → r ≡ added s x → Summed t r a (b + 1) f
summed_one t s r a b f x l n h w e m =
    summed_more t s r a b (b + 1) f x l (omega arith) (omega (arith, n)) h w (e ∙ sym (sum_from_one b f)) m

pub summed_both : (t s r : Total) (a b c : ℕ) (f : ℕ → ℕ) → a ≤ b → b ≤ c → Summed t s a b f → Summed s r b c f → Summed t r a c f
summed_both t s r a b c f l k h m =
    record {
      sum =
          m.sum ∙ ap (λ y. y + sum_from b c f) h.sum ∙ add_assoc (number t) (sum_from a b f) (sum_from b c f)
          ∙ ap (λ y. number t + y) (sym (sum_from_split a b c f l k));
      low = m.low;
      carries = m.carries;
    }

-- ---- by groups of so many terms that a word holds their sum

-- the word with the first j terms of the group from `first` on
pub record Grouped (size first j word : ℕ) (f : ℕ → ℕ) : Type 0 where
  pub sum : word ≡ sum_from first (first + j) f
  pub low : word * size ≤ j * 18446744073709551615

pub group_within : (from to group size : ℕ) → 0 < size → group < (to - from) / size → from ≤ to → from + group * size + size ≤ to
group_within from to group size z l h =
    omega (arith, (le-div_iff_mul-le {k = size} {x = group + 1} {y = to - from} z).0 (omega (arith, l)), add-mul group 1 size, h)

pub grouped_none : (size first : ℕ) (f : ℕ → ℕ) → Grouped size first 0 0 f
grouped_none size first f =
    record { sum = sym (ap (λ n. sum_from first n f) (add-zero first) ∙ sum_from_empty first f); low = omega arith }

-- one term more fits
pub grouped_fits : {size first j word : ℕ} {f : ℕ → ℕ} (x : ℕ) → 0 < size → j < size → Grouped size first j word f → x * size < 18446744073709551616
    → word + x < 18446744073709551616
grouped_fits {size} {first} {j} {word} x z l g one =
    omega (arith, le_of_mul-le-mul_right {m = word + x} {n = 18446744073709551615} {k = size} (omega (arith, add-mul word x size, g.low, one, l)) z)

pub grouped_more : {size first j word : ℕ} {f : ℕ → ℕ} (x : ℕ) → Grouped size first j word f → x ≡ f (first + j) → x * size < 18446744073709551616
    → Grouped size first (j + 1) (word + x) f
grouped_more {size} {first} {j} {word} {f} x g e one =
    record {
      sum = ap₂ ◌+◌ g.sum e ∙ sym (sum_from_next first (first + j) f (omega arith)) ∙ ap (λ n. sum_from first n f) (add_assoc first j 1);
      low = omega (arith, add-mul word x size, g.low, one);
    }

-- a turn adds a whole group
pub summed_group : (t s r : Total) (a group size : ℕ) (f : ℕ → ℕ) (word : ℕ) → 0 < size → a + group * size + size < 4294967296
    → Summed t s a (a + group * size) f → word < 18446744073709551616 → Grouped size (a + group * size) size word f → r ≡ added s word
    → Summed t r a (a + (group + 1) * size) f
summed_group t s r a group size f word z n h w g m =
    subst (λ k. Summed t r a k f) (omega (arith, add-mul group 1 size))
    (summed_more t s r a (a + group * size) (a + group * size + size) f word (omega arith) (omega (arith, z)) n h w g.sum m)
