-- Sums of words in two words (src/sums.rt).
--     number           the number that a total stands for
--     added t x        a word added: the lower words' sum, and its carry in the higher
--     residue_of m t    the higher word taken at m's weight, and the carry of that again; then the remainder
--     add_sums         a word is added to the number, and at most 1 to the higher word
--     added_low, carry_le              the lower word of a sum, and what is above it
--     high_fits, fold_fits             what `residue_of` adds up fits a word, whatever the words are
--     residue_number   the number modulo p
use Rattle.std.specs.Prelude.{◌≡◌, ℕ, zero, suc, ◌+◌, ◌*◌, ◌/◌, ◌%◌, ◌<◌, ◌≤◌}
use Rattle.std.proofs.Common.{sym, ap, ◌∙◌, mod-lt, mod-eq_of_lt, mul-le-mul, div-add-mod', suc-mul, zero-mul, one-mul, arith}
use Rattle.std.proofs.Math.Nat.{add-mod-mod, mod-add-div'}
use Rattle.residue.specs.Numbers.{mul_mod_mod}
use Rattle.modular.specs.declared.modulus.Modulus.{Modulus}
use Rattle.modular.specs.declared.sums.Total.{Total}
use Rattle.modular.specs.Modulus.{barrett, Modular, remainder_of}

abbrev pub number : Total → ℕ
number t = t.low + t.high * 18446744073709551616

unfoldable pub added : Total → ℕ → Total
added t x =
    record {
      low = (t.low + x) % 18446744073709551616;
      high = (t.high + (t.low + x) / 18446744073709551616) % 4294967296;
    }

-- the lower word of s, and what is above it at the weight
abbrev pub folded : ℕ → ℕ → ℕ
folded weight s = s % 18446744073709551616 + s / 18446744073709551616 * weight

unfoldable pub residue_of : Modulus → Total → ℕ
residue_of m t = barrett m (folded m.weight (t.low + t.high * m.weight))

-- ---- laws

-- what stands above the lower word of a sum of two words
pub carry_le : (a b : ℕ) → a < 18446744073709551616 → b < 18446744073709551616 → (a + b) / 18446744073709551616 ≤ 1
carry_le a b k l = omega (arith, k, l)

pub add_sums : (t r : Total) (x : ℕ) → r ≡ added t x → t.low < 18446744073709551616 → x < 18446744073709551616 → t.high < 4294967295
    → (number r ≡ number t + x) × (r.high ≤ t.high + 1)
unfolding added
add_sums t r x e k l h =
    let s = t.low + x in
    let q = s / 18446744073709551616 in
    let c : q ≤ 1 = carry_le t.low x k l in
    let high : r.high ≡ t.high + q = ap (λ n. n.high) e ∙ mod-eq_of_lt {n = t.high + q} (omega (arith, c, h)) in
    let low : r.low ≡ s % 18446744073709551616 = ap (λ n. n.low) e in (
      sum t.low t.high x r.low r.high q high (ap (λ n. q * 18446744073709551616 + n) low ∙ div-add-mod' s 18446744073709551616),
      omega (arith, high, c),
    )
  where
    sum : (low high x low' high' q : ℕ) → high' ≡ high + q → q * 18446744073709551616 + low' ≡ low + x
        → low' + high' * 18446744073709551616 ≡ low + high * 18446744073709551616 + x
    sum low high x low' high' q a b = omega (arith, a, b)

pub added_low : (t r : Total) (x : ℕ) → r ≡ added t x → r.low < 18446744073709551616
unfolding added
added_low t r x e = rw (ap (λ n. n.low) e) (mod-lt (t.low + x) (omega arith))

module _ (low high weight : ℕ) (k : low < 18446744073709551616) (h : high < 4294967296) (w : weight < 4294967296) where
  pub high_fits : high * weight + weight < 18446744073709551616
  high_fits =
      omega (arith, mul-le-mul {n₁ = suc high} {m₁ = weight} {n₂ = 4294967296} {m₂ = 4294967295} h (omega (arith, w)), suc-mul high weight)

  pub fold_fits : folded weight (low + high * weight) < 18446744073709551616
  fold_fits =
      let s = low + high * weight in
      go (s / 18446744073709551616) (s % 18446744073709551616) (carry_le low (high * weight) k (omega (arith, high_fits)))
      (mod-lt s (omega arith)) (div-add-mod' s 18446744073709551616)
    where
      go : (q r : ℕ) → q ≤ 1 → r < 18446744073709551616 → q * 18446744073709551616 + r ≡ low + high * weight → r + q * weight < 18446744073709551616
      go zero r a b e = omega (arith, b, zero-mul weight)
      go (suc zero) r a b e = omega (arith, e, k, high_fits, one-mul weight)
      go (suc (suc q)) r a b e = absurd (omega (arith, a))

fold_number : (p weight low high : ℕ) → weight ≡ 18446744073709551616 % p
    → folded weight (low + high * weight) % p ≡ (low + high * 18446744073709551616) % p
fold_number p weight low high w =
    down (s % 18446744073709551616) (s / 18446744073709551616) ∙ ap (λ x. x % p) (mod-add-div' s 18446744073709551616) ∙ down low high
  where
    s : ℕ
    s = low + high * weight

    down : (a b : ℕ) → (a + b * weight) % p ≡ (a + b * 18446744073709551616) % p
    down a b =
        ap (λ x. (a + b * x) % p) w ∙ sym (add-mod-mod a (b * (18446744073709551616 % p)) p)
        ∙ ap (λ x. (a + x) % p) (mul_mod_mod b 18446744073709551616 p) ∙ add-mod-mod a (b * 18446744073709551616) p

pub residue_number : (m : Modulus) (t : Total) → Modular m → t.low < 18446744073709551616 → t.high < 4294967296
    → residue_of m t ≡ number t % m.p
unfolding residue_of
residue_number m t h k l =
    remainder_of m h (folded m.weight (t.low + t.high * m.weight)) (fold_fits t.low t.high m.weight k l light)
    ∙ fold_number m.p m.weight t.low t.high h.weight
  where
    light : m.weight < 4294967296
    light = omega (arith, h.weight, mod-lt 18446744073709551616 h.positive, h.small)
