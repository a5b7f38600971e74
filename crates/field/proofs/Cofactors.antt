-- The Euclidean algorithm on p and a without signed numbers, for any p: u and v are two remainders in a row, s and t what multiplies a.
--     Euclid p a u v s t       a · s is −u and a · t is v modulo p, and u · t + v · s is p
--     start                    so at the beginning: u = p, v = a mod p, s = 0, t = 1
--     turn_low, turn_high      kept, where u is replaced by u mod v, and v by v mod u
--     low_fits, high_fits      s and t are at most p
--     found_high, found_low    v = 1: t is the inverse; u = 1: p − s is
--     none_high, none_low      v = 0 or u = 0, the other above 1: there is no inverse
use mathlib.Core.Path.{◌≡◌, sym, ap, ◌∙◌}
use mathlib.Core.Logic.{◌≢◌}
use Prim.Native.Nat.{ℕ, zero, suc, ◌+◌, ◌*◌, ◌-◌, ◌/◌, ◌%◌, ◌≤◌, ◌<◌}
use native.Mathlib.Nat.{mod-mod, mod_self, mod-eq_of_lt, zero-mod, mod-add-mod, add-mod-mod, add-zero, zero-mul, mul-zero, mul-one, one-mul, mul-add, add-mul, mul-sub, mul_assoc, mul_comm, mul_left_comm, mul-add-mod_self_right, mul-le-mul_left, mul-le-mul_right, div-add-mod}
use native.Mathlib.Omega.{arith}
use Rattle.meaning.specs.Field.{inverse}
use Rattle.residue.specs.Numbers.{mul_mod_mod, mod_mul_mod}
use Rattle.residue.specs.Inverse.{inverse_is, inverse_none}

pub record Euclid (p a u v s t : ℕ) : Type 0 where
  pub low : (a * s + u) % p ≡ 0
  pub high : a * t % p ≡ v % p
  pub whole : u * t + v * s ≡ p

pub start : (p a : ℕ) → Euclid p a p (a % p) 0 1
start p a =
    record {
      low = ap (λ x. (x + p) % p) (mul-zero a) ∙ ap (λ x. x % p) (omega arith) ∙ mod_self p;
      high = ap (λ x. x % p) (mul-one a) ∙ sym (mod-mod a p);
      whole = omega (arith, mul-one p, mul-zero (a % p));
    }

-- u · t = (u mod v) · t + v · (u / v · t)
part : (u v t : ℕ) → u * t ≡ u % v * t + v * (u / v * t)
part u v t =
    ap (λ x. x * t) (sym (div-add-mod u v)) ∙ add-mul (v * (u / v)) (u % v) t
    ∙ omega (arith, mul_assoc v (u / v) t)

module _ {p a u v s t : ℕ} (e : Euclid p a u v s t) where
  pub turn_low : Euclid p a (u % v) v (s + u / v * t) t
  turn_low =
      record {
        low =
            ap (λ x. x % p) (regroup (u / v)) ∙ sym (add-mod-mod (a * s + u % v) (u / v * (a * t)) p)
            ∙ ap (λ x. (a * s + u % v + x) % p)
            (sym (mul_mod_mod (u / v) (a * t) p) ∙ ap (λ x. u / v * x % p) e.high ∙ mul_mod_mod (u / v) v p)
            ∙ add-mod-mod (a * s + u % v) (u / v * v) p
            ∙ ap (λ x. x % p) (omega (arith, div-add-mod u v, mul_comm v (u / v))) ∙ e.low;
        high = e.high;
        whole = omega (arith, e.whole, part u v t, mul-add v s (u / v * t));
      }
    where
      regroup : (q : ℕ) → a * (s + q * t) + u % v ≡ a * s + u % v + q * (a * t)
      regroup q = omega (arith, mul-add a s (q * t), mul_left_comm a q t)

  pub turn_high : Euclid p a u (v % u) s (t + v / u * s)
  turn_high =
      record {
        low = e.low;
        high =
            ap (λ x. x % p) (mul-add a t (v / u * s)) ∙ sym (mod-add-mod (a * t) p (a * (v / u * s)))
            ∙ ap (λ x. (x + a * (v / u * s)) % p) e.high ∙ mod-add-mod v p (a * (v / u * s))
            ∙ ap (λ x. x % p) (regroup (v / u) (div-add-mod v u)) ∙ sym (add-mod-mod (v % u) (v / u * (a * s + u)) p)
            ∙ ap (λ x. (v % u + x) % p)
            (sym (mul_mod_mod (v / u) (a * s + u) p) ∙ ap (λ x. v / u * x % p) e.low ∙ ap (λ x. x % p) (mul-zero (v / u)) ∙ zero-mod p)
            ∙ ap (λ x. x % p) (add-zero (v % u));
        whole = omega (arith, e.whole, part v u s, mul-add u t (v / u * s));
      }
    where
      regroup : (q : ℕ) → u * q + v % u ≡ v → v + a * (q * s) ≡ v % u + q * (a * s + u)
      regroup q f = omega (arith, mul-add q (a * s) u, mul_left_comm a q s, mul_comm u q)

  pub low_fits : 0 < v → s ≤ p
  low_fits k = omega (arith, e.whole, mul-le-mul_right s k, one-mul s)

  pub high_fits : 0 < u → t ≤ p
  high_fits k = omega (arith, e.whole, mul-le-mul_right t k, one-mul t)

-- a multiple of a zero divisor is never 1
none_by : (p a w x : ℕ) → 1 < p → 1 < w → w * x ≡ p → a * x % p ≡ 0 → inverse p a ≡ p
none_by p a w x k l q z = inverse_none p a (λ y m. vanish y)
  where
    small : x < p
    small = omega (arith, mul-le-mul_right x l)

    vanish : (y : ℕ) → a * y % p ≢ 1
    vanish y e =
        let none : x ≡ 0 =
        sym (mod-eq_of_lt small) ∙ ap (λ i. i % p) (sym (mul-one x)) ∙ ap (λ i. x * i % p) (sym e) ∙ mul_mod_mod x (a * y) p
        ∙ ap (λ i. i % p) (mul_left_comm x a y ∙ sym (mul_assoc a x y)) ∙ sym (mod_mul_mod (a * x) y p) ∙ ap (λ i. i * y % p) z
        ∙ ap (λ i. i % p) (zero-mul y) ∙ zero-mod p in
        omega (arith, ap (λ i. w * i) none, mul-zero w)

module _ {p a u v s t : ℕ} (k : 1 < p) (e : Euclid p a u v s t) where
  pub found_high : v ≡ 1 → 1 < u → inverse p a ≡ t
  found_high q l =
      inverse_is p a t (omega (arith, e.whole, mul-le-mul_right t l)) (e.high ∙ ap (λ x. x % p) q ∙ mod-eq_of_lt k)

  pub found_low : u ≡ 1 → 0 < v → inverse p a ≡ p - s
  found_low q l = inverse_is p a (p - s) (below s zeroed) product
    where
      zeroed : (a * s + 1) % p ≡ 0
      zeroed = ap (λ x. (a * s + x) % p) (sym q) ∙ e.low

      below : (x : ℕ) → (a * x + 1) % p ≡ 0 → p - x < p
      below zero z =
          let one : ◌≡◌ {A = ℕ} 0 1 = sym z ∙ ap (λ x. (x + 1) % p) (mul-zero a) ∙ mod-eq_of_lt {n = 0 + 1} (omega arith) in
          omega arith
      below (suc x) z = omega arith

      product : a * (p - s) % p ≡ 1
      product =
          ap (λ x. x % p) (sym (add-zero (a * (p - s)))) ∙ ap (λ x. (a * (p - s) + x) % p) (sym zeroed)
          ∙ add-mod-mod (a * (p - s)) (a * s + 1) p
          ∙ ap (λ x. x % p) (omega (arith, mul-sub a p s, mul-le-mul_left a (low_fits e l)))
          ∙ mul-add-mod_self_right a p 1 ∙ mod-eq_of_lt k

  pub none_high : v ≡ 0 → 1 < u → inverse p a ≡ p
  none_high q l =
      none_by p a u t k l (omega (arith, e.whole, ap (λ x. x * s) q, zero-mul s)) (e.high ∙ ap (λ x. x % p) q ∙ zero-mod p)

  pub none_low : u ≡ 0 → 1 < v → inverse p a ≡ p
  none_low q l =
      none_by p a v s k l (omega (arith, e.whole, ap (λ x. x * t) q, zero-mul t))
      (ap (λ x. x % p) (sym (add-zero (a * s)) ∙ ap (λ x. a * s + x) (sym q)) ∙ e.low)
