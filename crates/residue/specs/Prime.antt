-- Primes as a proposition, and the meaning's tests.
--     Prime p          2 ≤ p, and no d from 2 to p − 1 divides p
--     up_to_root       no divisor d with d · d ≤ p: then p is prime
--     by_wheel         neither 2 nor 3 nor a d = 6k ± 1 with d · d ≤ p divides p: then p is prime
--     divisor_of_divisor      a divisor of a divisor of p divides p
--     WheelFree p d    no 6k ± 1 from 5 to d − 1 divides p; wheel_start, wheel_turn and wheel_end for a loop that tries d and d + 2
--     is_prime_Prime    the meaning's is_prime, a test of all p − 2 candidates, says Prime p; refuted, is_prime_small, is_prime_divided: it says no to what is not Prime, 0, 1 and any p with a divisor
--     is_modulus_prime, is_modulus_Prime, is_modulus_le, is_modulus_small, is_modulus_large      the meaning's is_modulus: prime, and at most 2³¹ − 1
use Rattle.std.specs.Prelude.{◌≡◌, refl, ◌≢◌, ◌⊎◌, ◌↔◌, Bool, true, false, not, ◌&&◌, ℕ, zero, suc, ◌+◌, ◌*◌, ◌-◌, ◌/◌, ◌%◌, ◌≤◌, ◌<◌, leb, eqb}
use Rattle.std.proofs.Common.{sym, ap, ◌∙◌, inl, inr, div-add-mod', add-zero, mul-le-mul, mul-le-mul_left, lt_of_mul-lt-mul_right, zero-mul, one-mul, le_of_lt, arith, leb-true, le-leb, ne_eqb}
use Rattle.std.proofs.Math.Nat.{mul-mod_right, mod-eq-zero_of_dvd, dvd_trans, dvd_of_mod-eq-zero}
use Rattle.std.proofs.Math.Decide.{dec_le, dec_lt, ℕ_discrete}
use Rattle.meaning.specs.List.{all}
use Rattle.meaning.specs.Field.{is_prime, is_modulus}
use Rattle.laws.specs.Bool.{and_left, and_right, and_both, and_false_right}
use Rattle.laws.specs.List.{all_at, all_of}
pub use Rattle.laws.specs.Accepted.{modulus_high as is_modulus_le}
use Rattle.std.proofs.lemmas.Bool.{eqb-false, lt-leb, not-true}

pub record Prime (p : ℕ) : Type 0 where
  pub two_le : 2 ≤ p
  pub no_divisor : (d : ℕ) → 2 ≤ d → d < p → p % d ≢ 0

two_le_factor : (e d p : ℕ) → 2 ≤ p → d < p → e * d ≡ p → 2 ≤ e
two_le_factor zero d p a b q = omega (arith, zero-mul d)
two_le_factor (suc zero) d p a b q = omega (arith, one-mul d)
two_le_factor (suc (suc e)) d p a b q = omega arith

pub up_to_root : (p : ℕ) → 2 ≤ p → ((d : ℕ) → 2 ≤ d → d * d ≤ p → p % d ≢ 0) → Prime p
up_to_root p l h = record { two_le = l; no_divisor = none }
  where
    cofactor : (d e : ℕ) → 2 ≤ d → d < p → e * d ≡ p → p % d ≡ 0 → Dec (d * d ≤ p) → ⊥
    cofactor d e a b q z (yes s) = h d a s z
    cofactor d e a b q z (no s) =
        let le : e ≤ d = le_of_lt (lt_of_mul-lt-mul_right d {m = e} {n = d} (omega arith)) in
        h e (two_le_factor e d p l b q) (omega (arith, mul-le-mul_left e le)) (ap (λ x. x % e) (sym q) ∙ mul-mod_right e d)

    none : (d : ℕ) → 2 ≤ d → d < p → p % d ≢ 0
    none d a b z = cofactor d (p / d) a b (sym (add-zero (p / d * d)) ∙ ap (λ x. p / d * d + x) (sym z) ∙ div-add-mod' p d) z (dec_le (d * d) p)

pub divisor_of_divisor : (c d p : ℕ) → d % c ≡ 0 → p % d ≡ 0 → p % c ≡ 0
divisor_of_divisor c d p a b = mod-eq-zero_of_dvd c (dvd_trans c (dvd_of_mod-eq-zero c a) (dvd_of_mod-eq-zero d b))

pub by_wheel : (p : ℕ) → 3 < p → p % 2 ≢ 0 → p % 3 ≢ 0
    → ((d : ℕ) → (d % 6 ≡ 1) ⊎ (d % 6 ≡ 5) → 5 ≤ d → d * d ≤ p → p % d ≢ 0) → Prime p
by_wheel p l two three h = up_to_root p (omega arith) none
  where
    spoke : (d r : ℕ) → d % 6 ≡ r → r < 6 → 2 ≤ d → d * d ≤ p → p % d ≢ 0
    spoke d zero e k a s z = two (divisor_of_divisor 2 d p (omega arith) z)
    spoke d (suc zero) e k a s z = h d (inl e) (omega arith) s z
    spoke d (suc (suc zero)) e k a s z = two (divisor_of_divisor 2 d p (omega arith) z)
    spoke d (suc (suc (suc zero))) e k a s z = three (divisor_of_divisor 3 d p (omega arith) z)
    spoke d (suc (suc (suc (suc zero)))) e k a s z = two (divisor_of_divisor 2 d p (omega arith) z)
    spoke d (suc (suc (suc (suc (suc zero))))) e k a s z = h d (inr e) (omega arith) s z
    spoke d (suc (suc (suc (suc (suc (suc r)))))) e k a s z = omega arith

    none : (d : ℕ) → 2 ≤ d → d * d ≤ p → p % d ≢ 0
    none d a s = spoke d (d % 6) refl (omega arith) a s

-- by_wheel for a loop over d = 5, 11, 17 .. that tries d and d + 2

abbrev pub WheelFree : ℕ → ℕ → Type 0
WheelFree p d = (e : ℕ) → (e % 6 ≡ 1) ⊎ (e % 6 ≡ 5) → 5 ≤ e → e < d → p % e ≢ 0

pub wheel_start : (p : ℕ) → WheelFree p 5
wheel_start p e w a b z = omega arith

pub wheel_turn : (p d : ℕ) → d % 6 ≡ 5 → WheelFree p d → p % d ≢ 0 → p % (d + 2) ≢ 0 → WheelFree p (d + 6)
wheel_turn p d m f g k e w a b z = turn (dec_lt e d) (ℕ_discrete e d) w
  where
    turn : Dec (e < d) → Dec (e ≡ d) → (e % 6 ≡ 1) ⊎ (e % 6 ≡ 5) → ⊥
    turn (yes l) q v = f e w a l z
    turn (no l) (yes q) v = g (ap (λ x. p % x) (sym q) ∙ z)
    turn (no l) (no q) (inl v) = let t : d + 2 ≡ e = omega arith in k (ap (λ x. p % x) t ∙ z)
    turn (no l) (no q) (inr v) = omega arith

pub wheel_end : (p d : ℕ) → 3 < p → p % 2 ≢ 0 → p % 3 ≢ 0 → WheelFree p d → p < d * d → Prime p
wheel_end p d l two three f k = by_wheel p l two three (λ e w a s. f e w a (below e s (dec_lt e d)))
  where
    below : (e : ℕ) → e * e ≤ p → Dec (e < d) → e < d
    below e s (yes b) = b
    below e s (no b) = let c : d ≤ e = omega arith in absurd (omega (arith, mul-le-mul c c))

-- the meaning's test

pub is_prime_Prime : (p : ℕ) → (is_prime p ≡ true) ↔ Prime p
unfolding is_prime
is_prime_Prime p = (to, from)
  where
    tried : ℕ → Bool
    tried i = not (eqb (p % (i + 2)) 0)

    to : is_prime p ≡ true → Prime p
    to e =
        let l : 2 ≤ p = leb-true 2 p (and_left (leb 2 p) (all (p - 2) tried) e) in
        record {
          two_le = l;
          no_divisor =
              λ d a b z.
              let q : d - 2 + 2 ≡ d = omega arith in
              eqb-false (p % (d - 2 + 2)) 0
              (not-true (eqb (p % (d - 2 + 2)) 0) (all_at (p - 2) tried (and_right (leb 2 p) (all (p - 2) tried) e) (d - 2) (omega arith)))
              (ap (λ x. p % x) q ∙ z);
        }

    from : Prime p → is_prime p ≡ true
    from h =
        and_both (le-leb 2 p h.two_le)
        (all_of (p - 2) tried (λ i k. ap not (ne_eqb (p % (i + 2)) 0 (h.no_divisor (i + 2) (omega arith) (omega arith)))))

pub refuted : (p : ℕ) → (Prime p → ⊥) → is_prime p ≡ false
refuted p f = answer (is_prime p) refl
  where
    answer : (x : Bool) → is_prime p ≡ x → is_prime p ≡ false
    answer true e = absurd (f ((is_prime_Prime p).0 e))
    answer false e = e

pub is_prime_small : (p : ℕ) → p < 2 → is_prime p ≡ false
is_prime_small p l = refuted p (λ h. omega (arith, h.two_le))

pub is_prime_divided : (p d : ℕ) → 2 ≤ d → d < p → p % d ≡ 0 → is_prime p ≡ false
is_prime_divided p d a b z = refuted p (λ h. h.no_divisor d a b z)

pub is_modulus_prime : (p : ℕ) → is_modulus p ≡ true → is_prime p ≡ true
unfolding is_modulus
is_modulus_prime p e = and_left (is_prime p) (leb p 2147483647) e

pub is_modulus_Prime : (p : ℕ) → is_modulus p ≡ true → Prime p
is_modulus_Prime p e = (is_prime_Prime p).0 (is_modulus_prime p e)

pub is_modulus_small : (p : ℕ) → p ≤ 2147483647 → is_modulus p ≡ is_prime p
unfolding is_modulus
is_modulus_small p l = ap (λ b. is_prime p && b) (le-leb p 2147483647 l) ∙ and_true (is_prime p)
  where
    and_true : (b : Bool) → b && true ≡ b
    and_true true = refl
    and_true false = refl

pub is_modulus_large : (p : ℕ) → 2147483647 < p → is_modulus p ≡ false
unfolding is_modulus
is_modulus_large p l = and_false_right (is_prime p) (lt-leb p 2147483647 l)
