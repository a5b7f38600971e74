-- A modulus and a multiplier (src/modulus.rt, src/multiplier.rt). What the code gives for all words:
--     lessened x y         the lower 32 bits of x − y
--     restored p d         d, and p again where d's top bit says that it is below zero
--     reduced p s          s less p, restored
--     lessened_mod, lessened_half, lessened_word      the lower bits of y are enough; what wraps, in 32 bits and in 64
--     modulus_of p          p with its reciprocal and its weight; a quotient by 0 is 0 and a remainder the number itself, so that both are 0 for 0
--     barrett m x          x less the multiple of p that the reciprocal gives, in 32 bits, reduced
--     difference_of m a b   a less b, restored
--     quotient_of m x       the quotient that the reciprocal gives, in 32 bits, and one more where it leaves p or above
--     multiplier_of m c     c with its quotient
--     shoup p k x          constant × x less the multiple of p that the quotient gives, in 32 bits, reduced
--     shoup_added p k x y   y and that in 32 bits, reduced
-- What that is for a record that `of` made:
--     Modular m            m's p is a modulus of at most 31 bits, with its reciprocal and its weight: modular_of
--     remainder_of, quotient_of_law, difference_of_law, product_of
--     Multiplies p k       k's constant is a residue modulo p, with its quotient: multiplies_of
--     times_of, added_of
use Rattle.std.specs.Prelude.{◌≡◌, ℕ, ◌+◌, ◌-◌, ◌*◌, ◌/◌, ◌%◌, ◌<◌, ◌≤◌, Bool, true, false, cond, nat_lt, refl}
use Rattle.std.proofs.Math.Path.{sym, ap}
use Rattle.std.proofs.Common.{◌∙◌, zero-mul, one-mul, add-mul, add-zero, div-lt_iff_lt-mul, le-div_iff_mul-le, lt_of_le_of_lt, arith, lt-ltb, le-ltb}
use Rattle.std.proofs.Math.Nat.{mod-lt, mod-eq_of_lt, div-eq_of_lt-le}
use Rattle.std.proofs.Math.Decide.{dec_lt}
use Rattle.meaning.specs.Field.{plus, minus, times}
use Rattle.residue.specs.Numbers.{mod_eq_sub, sub_mod_le, sub_mod_lt}
use Rattle.modular.specs.declared.modulus.Modulus.{Modulus}
use Rattle.modular.specs.declared.multiplier.Multiplier.{Multiplier}
use Rattle.modular.specs.Words.{words_fit}
use Rattle.modular.specs.Shoup.{multiple, shoup_le, shoup_lt, shoup_mod, nearest, barrett_le, barrett_lt, barrett_mod}

-- ---- for all words

unfoldable pub lessened : ℕ → ℕ → ℕ
lessened x y = (x + (4294967296 - y % 4294967296)) % 4294967296

unfoldable pub restored : ℕ → ℕ → ℕ
restored p d = (d + d / 2147483648 * p) % 4294967296

unfoldable pub reduced : ℕ → ℕ → ℕ
reduced p s = restored p (lessened s p)

abbrev pub modulus_of : ℕ → Modulus
modulus_of p = record { p = p; reciprocal = 18446744073709551615 / p; weight = 18446744073709551616 % p % 4294967296 }

unfoldable pub barrett : Modulus → ℕ → ℕ
barrett m x = reduced m.p (lessened x (m.reciprocal * x / 18446744073709551616 * m.p))

unfoldable pub difference_of : Modulus → ℕ → ℕ → ℕ
difference_of m a b = restored m.p (lessened a b)

-- 32 bits of the reciprocal's quotient, and one more where it leaves p or above
unfoldable pub quotient_of : Modulus → ℕ → ℕ
quotient_of m x =
    let q = m.reciprocal * x / 18446744073709551616 % 4294967296 in
    (q + cond (nat_lt (lessened x (q * m.p)) m.p) 0 1) % 4294967296

abbrev pub multiplier_of : Modulus → ℕ → Multiplier
multiplier_of m c = record { constant = c; quotient = quotient_of m (c * 4294967296) }

unfoldable pub shoup : ℕ → Multiplier → ℕ → ℕ
shoup p k x = reduced p (lessened (k.constant * x) (k.quotient * x / 4294967296 * p))

unfoldable pub shoup_added : ℕ → Multiplier → ℕ → ℕ → ℕ
shoup_added p k x y = reduced p ((y + shoup p k x) % 4294967296)

-- ---- differences

lessened_whole : (x y : ℕ) → y ≤ x → x - y < 4294967296 → lessened x y ≡ x - y
unfolding lessened
lessened_whole x y l k = omega (arith, l, k)

pub lessened_mod : (x y z : ℕ) → y % 4294967296 ≡ z % 4294967296 → lessened x y ≡ lessened x z
unfolding lessened
lessened_mod x y z e = ap (λ n. (x + (4294967296 - n)) % 4294967296) e

lower : (x y r : ℕ) → (r + y) % 4294967296 ≡ x % 4294967296 → r % 4294967296 ≡ lessened x y
unfolding lessened
lower x y r e = omega (arith, e)

-- what y is added to for x, in 32 bits and in 64
pub lessened_half : (x y r : ℕ) → (r + y) % 4294967296 ≡ x → r < 4294967296 → r ≡ lessened x y
unfolding lessened
lessened_half x y r e l = omega (arith, e, l)

pub lessened_word : (x y r : ℕ) → (r + y) % 18446744073709551616 ≡ x → r % 4294967296 ≡ lessened x y
lessened_word x y r e = lower x y r (sym (narrow (r + y)) ∙ ap (λ n. n % 4294967296) e)
  where
    narrow : (n : ℕ) → n % 18446744073709551616 % 4294967296 ≡ n % 4294967296
    narrow n = omega arith

restored_bit : (p d b : ℕ) → d / 2147483648 ≡ b → restored p d ≡ (d + b * p) % 4294967296
unfolding restored
restored_bit p d b e = ap (λ n. (d + n * p) % 4294967296) e

module _ (p x y : ℕ) (s : p ≤ 2147483647) where
  restored_le : y ≤ x → x - y < p → restored p (lessened x y) ≡ x - y
  restored_le l k =
      ap (restored p) (lessened_whole x y l (omega (arith, s, k))) ∙ restored_bit p (x - y) 0 (omega (arith, s, k))
      ∙ ap (λ n. (x - y + n) % 4294967296) (zero-mul p) ∙ omega (arith, s, k)

  lessened_below : x < y → y ≤ x + p → lessened x y ≡ 4294967296 - (y - x)
  unfolding lessened
  lessened_below l k = omega (arith, s, l, k)

  restored_lt : x < y → y ≤ x + p → restored p (lessened x y) ≡ x + p - y
  restored_lt l k =
      ap (restored p) (lessened_below l k) ∙ restored_bit p (4294967296 - (y - x)) 1 (omega (arith, s, l, k))
      ∙ ap (λ n. (4294967296 - (y - x) + n) % 4294967296) (one-mul p) ∙ omega (arith, s, l, k)

reduced_mod : (p s : ℕ) → p ≤ 2147483647 → s < p + p → reduced p s ≡ s % p
unfolding reduced
reduced_mod p s m l = go (dec_lt s p)
  where
    go : Dec (s < p) → restored p (lessened s p) ≡ s % p
    go (yes k) = restored_lt p s p m k (omega arith) ∙ omega arith ∙ sym (mod-eq_of_lt k)
    go (no k) = restored_le p s p m (omega (arith, k)) (omega (arith, l, k)) ∙ sym (mod_eq_sub s p (omega (arith, k)) l)

near : (p x y : ℕ) → p ≤ 2147483647 → y ≤ x → x - y < p + p → reduced p (lessened x y) ≡ (x - y) % p
near p x y s l k =
    ap (reduced p) (lessened_whole x y l (omega (arith, s, k))) ∙ reduced_mod p (x - y) s k

-- a quotient that is right or one too small
corrected : (p x q : ℕ) → p ≤ 2147483647 → q * p ≤ x → x - q * p < p + p → x / p < 4294967296
    → (q + cond (nat_lt (lessened x (q * p)) p) 0 1) % 4294967296 ≡ x / p
corrected p x q s low high k = go (dec_lt (x - q * p) p)
  where
    by : (b : Bool) (n : ℕ) → nat_lt (x - q * p) p ≡ b → cond b 0 1 ≡ n → x / p ≡ q + n → (q + cond (nat_lt (lessened x (q * p)) p) 0 1) % 4294967296 ≡ x / p
    by b n t c e =
        ap (λ y. (q + cond (nat_lt y p) 0 1) % 4294967296) (lessened_whole x (q * p) low (omega (arith, high, s)))
        ∙ ap (λ y. (q + cond y 0 1) % 4294967296) t ∙ ap (λ y. (q + y) % 4294967296) c ∙ ap (λ y. y % 4294967296) (sym e) ∙ mod-eq_of_lt k

    go : Dec (x - q * p < p) → (q + cond (nat_lt (lessened x (q * p)) p) 0 1) % 4294967296 ≡ x / p
    go (yes a) =
        by true 0 (lt-ltb (x - q * p) p a) refl (div-eq_of_lt-le {k = q} p low (omega (arith, a, low, add-mul q 1 p, one-mul p)) ∙ sym (add-zero q))
    go (no a) =
        by false 1 (le-ltb (x - q * p) p (omega (arith, a))) refl
        (div-eq_of_lt-le {k = q + 1} p (omega (arith, a, low, add-mul q 1 p, one-mul p)) (omega (arith, high, low, add-mul q 1 p, add-mul (q + 1) 1 p, one-mul p)))

-- ---- a modulus

pub record Modular (m : Modulus) : Type 0 where
  pub positive : 0 < m.p
  pub small : m.p ≤ 2147483647
  pub reciprocal : m.reciprocal ≡ 18446744073709551615 / m.p
  pub weight : m.weight ≡ 18446744073709551616 % m.p

pub modular_of : (m : Modulus) (p : ℕ) → m ≡ modulus_of p → 0 < p → p ≤ 2147483647 → (m.p ≡ p) × Modular m
modular_of m p e z s = (
  ap (λ n. n.p) e,
  rw e (record {
    positive = z;
    small = s;
    reciprocal = refl;
    weight = mod-eq_of_lt (omega (arith, mod-lt 18446744073709551616 z, s));
  }),
)

module _ (m : Modulus) (h : Modular m) where
  pub remainder_of : (x : ℕ) → x < 18446744073709551616 → barrett m x ≡ x % m.p
  unfolding barrett
  remainder_of x l =
      ap (λ q. reduced m.p (lessened x (q * x / 18446744073709551616 * m.p))) h.reciprocal
      ∙ near m.p x (nearest 18446744073709551615 m.p x) h.small (barrett_le 18446744073709551615 m.p x)
      (barrett_lt 18446744073709551615 m.p x h.positive l)
      ∙ barrett_mod 18446744073709551615 m.p x

  pub quotient_of_law : (x : ℕ) → x < 18446744073709551616 → x / m.p < 4294967296 → quotient_of m x ≡ x / m.p
  unfolding quotient_of
  quotient_of_law x l k =
      ap (λ q. (q + cond (nat_lt (lessened x (q * m.p)) m.p) 0 1) % 4294967296)
      (ap (λ r. r * x / 18446744073709551616 % 4294967296) h.reciprocal
      ∙ mod-eq_of_lt {n = near} (lt_of_le_of_lt ((le-div_iff_mul-le {k = m.p} {x = near} {y = x} h.positive).1 low) k))
      ∙ corrected m.p x near h.small low (barrett_lt 18446744073709551615 m.p x h.positive l) k
    where
      near : ℕ
      near = 18446744073709551615 / m.p * x / 18446744073709551616

      low : near * m.p ≤ x
      low = barrett_le 18446744073709551615 m.p x

  pub difference_of_law : (a b : ℕ) → a < m.p → b < m.p → difference_of m a b ≡ minus m.p a b
  unfolding difference_of minus
  difference_of_law a b k l = go (dec_lt a b)
    where
      go : Dec (a < b) → restored m.p (lessened a b) ≡ (a + (m.p - b)) % m.p
      go (yes n) = restored_lt m.p a b h.small n (omega (arith, l)) ∙ omega (arith, l, n) ∙ sym (sub_mod_lt a b m.p n (omega (arith, l)))
      go (no n) = restored_le m.p a b h.small (omega (arith, n)) (omega (arith, k)) ∙ sym (sub_mod_le a b m.p (omega (arith, n)) k)

  pub product_of : (a b : ℕ) → a < 4294967296 → b < 4294967296 → barrett m (a * b) ≡ times m.p a b
  unfolding times
  product_of a b k l = remainder_of (a * b) (words_fit a b k l)

-- ---- a multiplier

pub record Multiplies (p : ℕ) (k : Multiplier) : Type 0 where
  pub below : k.constant < p
  pub small : p ≤ 2147483647
  pub quotient : k.quotient ≡ k.constant * 4294967296 / p

pub multiplies_of : (k : Multiplier) (m : Modulus) (c : ℕ) → k ≡ multiplier_of m c → Modular m → c < m.p → (k.constant ≡ c) × Multiplies m.p k
multiplies_of k m c e h l = (
  ap (λ n. n.constant) e,
  rw e (record {
    below = l;
    small = h.small;
    quotient =
        quotient_of_law m h (c * 4294967296) (omega (arith, l, h.small))
        ((div-lt_iff_lt-mul {k = m.p} {x = c * 4294967296} {y = 4294967296} h.positive).1 (omega (arith, l)));
  }),
)

module _ (p : ℕ) (k : Multiplier) (h : Multiplies p k) (x : ℕ) (l : x < 4294967296) where
  pub times_of : shoup p k x ≡ times p k.constant x
  unfolding shoup times
  times_of =
      ap (λ q. reduced p (lessened (k.constant * x) (q * x / 4294967296 * p))) h.quotient
      ∙ near p (k.constant * x) (multiple 4294967296 p k.constant x) h.small (shoup_le 4294967296 p k.constant x (omega arith))
      (shoup_lt 4294967296 p k.constant x (omega (arith, h.below)) l)
      ∙ shoup_mod 4294967296 p k.constant x (omega arith)

  pub added_of : (y : ℕ) → y < p → shoup_added p k x y ≡ plus p y (times p k.constant x)
  unfolding shoup_added plus times
  added_of y b =
      let z = k.constant * x % p in
      let below : z < p = mod-lt (k.constant * x) (omega (arith, b)) in
      ap (λ n. reduced p ((y + n) % 4294967296)) times_of
      ∙ ap (reduced p) (mod-eq_of_lt {n = y + z} (omega (arith, below, b, h.small)))
      ∙ reduced_mod p (y + z) h.small (omega (arith, below, b))
