-- The inverse modulo p. The meaning's `inverse p a` is the least y below p with a · y mod p = 1, and p if there is none.
--     inverse_is       of any p: y below p with a · y mod p = 1 is it
--     inverse_unique   there is one such y only
--     inverse_none     it is p where no y will do; inverse_zero: so for a = 0
--     inverse_mod      a may be reduced modulo p first
-- Modulo a prime it is found by the remainders of p: with p = q · a + r an inverse y of r gives the inverse −q · y of a.
--     euclid p a       that recursion; euclid_zero: 0 for a = 0
--     euclid_by p n a   the same in at most n steps
--     euclid_lt        it is below p
--     mul_euclid       (a · euclid p a) mod p is 1
--     inverse_euclid   so it is the inverse
--     inverse_lt, mul_inverse      the same of the meaning's inverse, for a from 1 to p − 1
--     mul_mod_nonzero  p divides a product only if it divides a factor
use Rattle.std.specs.Prelude.{◌≡◌, refl, ◌≢◌, Bool, true, false, ℕ, zero, suc, ◌+◌, ◌*◌, ◌-◌, ◌/◌, ◌%◌, ◌≤◌, ◌<◌, ltb, eqb}
use Rattle.std.proofs.Common.{sym, ap, ◌∙◌, mod-lt, mod-eq_of_lt, add-mul, mul_assoc, mul_comm, mul_left_comm, mul-one, one-mul, zero-mul, div-le_self, mul-le-mul_left, pos_of_ne-zero, arith, ltb-true, ltb-false, eq-eqb, ne_eqb}
use Rattle.std.proofs.Math.Path.{fun_ext}
use Rattle.std.proofs.Math.Nat.{mul-sub, zero-mod, div-add-mod, add-mul-mod_self_left, mul-add-mod_self_left}
use Rattle.meaning.specs.List.{least}
use Rattle.meaning.specs.Field.{inverse}
use Rattle.residue.specs.Numbers.{mul_mod_mod, mod_mul_mod}
use Rattle.laws.specs.Least.{least_is, least_none}
use Rattle.residue.specs.Prime.{Prime}

-- ---- any modulus

pub inverse_unique : (p a x y : ℕ) → x < p → y < p → a * x % p ≡ 1 → a * y % p ≡ 1 → x ≡ y
inverse_unique p a x y j m f e =
    sym (mod-eq_of_lt j) ∙ ap (λ z. z % p) (sym (one-mul x)) ∙ ap (λ z. z * x % p) (sym e) ∙ mod_mul_mod (a * y) x p
    ∙ ap (λ z. z % p) (ap (λ z. z * x) (mul_comm a y) ∙ mul_assoc y a x) ∙ sym (mul_mod_mod y (a * x) p)
    ∙ ap (λ z. y * z % p) f ∙ ap (λ z. z % p) (mul-one y) ∙ mod-eq_of_lt m

pub inverse_is : (p a y : ℕ) → y < p → a * y % p ≡ 1 → inverse p a ≡ y
unfolding inverse
inverse_is p a y l e =
    least_is p (λ x. eqb (a * x % p) 1) y l (eq-eqb (a * y % p) 1 e)
    (λ z k. ne_eqb (a * z % p) 1 (λ f. omega (arith, inverse_unique p a z y (omega arith) l f e)))

pub inverse_none : (p a : ℕ) → ((y : ℕ) → y < p → a * y % p ≢ 1) → inverse p a ≡ p
unfolding inverse
inverse_none p a h = least_none p (λ x. eqb (a * x % p) 1) (λ y l. ne_eqb (a * y % p) 1 (h y l))

pub inverse_zero : (p : ℕ) → inverse p 0 ≡ p
inverse_zero p =
    inverse_none p 0
    (λ y l e. let z : ◌≡◌ {A = ℕ} 0 1 = sym (zero-mod p) ∙ ap (λ x. x % p) (sym (zero-mul y)) ∙ e in omega arith)

pub inverse_mod : (p a : ℕ) → inverse p (a % p) ≡ inverse p a
unfolding inverse
inverse_mod p a = ap (least p) (fun_ext (λ y. ap (λ x. eqb x 1) (mod_mul_mod a y p)))

-- ---- a prime modulus

unfoldable pub euclid_by : ℕ → ℕ → ℕ → ℕ
euclid_by p zero a = a
euclid_by p (suc n) a = elim (ltb 1 a) [ true ↦ (p - p / a) * euclid_by p n (p % a) % p | false ↦ a ]

unfoldable pub euclid : ℕ → ℕ → ℕ
euclid p a = euclid_by p a a

pub euclid_zero : (p : ℕ) → euclid p 0 ≡ 0
unfolding euclid euclid_by
euclid_zero p = refl

euclid_by_zero : (p a : ℕ) → euclid_by p 0 a ≡ a
unfolding euclid_by
euclid_by_zero p a = refl

euclid_by_one : (p n a : ℕ) → ltb 1 a ≡ false → euclid_by p (suc n) a ≡ a
unfolding euclid_by
euclid_by_one p n a e = rw (e, euclid_by)

euclid_by_suc : (p n a : ℕ) → ltb 1 a ≡ true → euclid_by p (suc n) a ≡ (p - p / a) * euclid_by p n (p % a) % p
unfolding euclid_by
euclid_by_suc p n a e = rw (e, euclid_by)

-- −(p / a) · a is p % a modulo p
neg_quotient : (p a : ℕ) → a * (p - p / a) + p ≡ p * a + p % a
neg_quotient p a =
    omega (arith, mul-sub a p (p / a), mul_comm a p, div-add-mod p a, mul-le-mul_left a (div-le_self p a))

euclid_step : (p a y : ℕ) → a * ((p - p / a) * y % p) % p ≡ p % a * y % p
euclid_step p a y =
    mul_mod_mod a ((p - p / a) * y) p ∙ sym (add-mul-mod_self_left (a * ((p - p / a) * y)) p y)
    ∙ ap (λ x. x % p) (ap (λ x. x + p * y) (sym (mul_assoc a (p - p / a) y)) ∙ sym (add-mul (a * (p - p / a)) p y)
    ∙ ap (λ x. x * y) (neg_quotient p a) ∙ add-mul (p * a) (p % a) y ∙ ap (λ x. x + p % a * y) (mul_assoc p a y))
    ∙ mul-add-mod_self_left p (a * y) (p % a * y)

module _ (p : ℕ) (h : Prime p) where
  euclid_by_lt : (n a : ℕ) → a < p → euclid_by p n a < p
  euclid_by_lt zero a l = rw euclid_by_zero l
  euclid_by_lt (suc n) a l = branch (ltb 1 a) refl
    where
      branch : (x : Bool) → ltb 1 a ≡ x → euclid_by p (suc n) a < p
      branch true e = rw (euclid_by_suc p n a e) (mod-lt ((p - p / a) * euclid_by p n (p % a)) (omega arith))
      branch false e = rw (euclid_by_one p n a e) l

  mul_euclid_by : (n a : ℕ) → 0 < a → a < p → a ≤ n → a * euclid_by p n a % p ≡ 1
  mul_euclid_by zero a k l m = absurd (omega arith)
  mul_euclid_by (suc n) a k l m = branch (ltb 1 a) refl (mul_euclid_by n (p % a))
    where
      branch : (x : Bool) → ltb 1 a ≡ x → (0 < p % a → p % a < p → p % a ≤ n → p % a * euclid_by p n (p % a) % p ≡ 1) → a * euclid_by p (suc n) a % p ≡ 1
      branch true e ih =
          let r : p % a < a = mod-lt p k in
          ap (λ x. a * x % p) (euclid_by_suc p n a e) ∙ euclid_step p a (euclid_by p n (p % a))
          ∙ ih (pos_of_ne-zero (h.no_divisor a (ltb-true 1 a e) l)) (omega arith) (omega arith)
      branch false e ih =
          let one : a ≡ 1 = omega (arith, ltb-false 1 a e) in
          ap (λ x. a * x % p) (euclid_by_one p n a e) ∙ ap (λ x. x * x % p) one ∙ mod-eq_of_lt h.two_le

  pub euclid_lt : (a : ℕ) → a < p → euclid p a < p
  unfolding euclid
  euclid_lt a l = euclid_by_lt a a l

  pub mul_euclid : (a : ℕ) → 0 < a → a < p → a * euclid p a % p ≡ 1
  unfolding euclid
  mul_euclid a k l = mul_euclid_by a a k l (omega arith)

  pub inverse_euclid : (a : ℕ) → 0 < a → a < p → inverse p a ≡ euclid p a
  inverse_euclid a k l = inverse_is p a (euclid p a) (euclid_lt a l) (mul_euclid a k l)

  pub inverse_lt : (a : ℕ) → 0 < a → a < p → inverse p a < p
  inverse_lt a k l = rw (inverse_euclid a k l) (euclid_lt a l)

  pub mul_inverse : (a : ℕ) → 0 < a → a < p → a * inverse p a % p ≡ 1
  mul_inverse a k l = ap (λ y. a * y % p) (inverse_euclid a k l) ∙ mul_euclid a k l

  pub mul_mod_nonzero : (a b : ℕ) → a % p ≢ 0 → b % p ≢ 0 → a * b % p ≢ 0
  mul_mod_nonzero a b f g e = g (cancel (euclid p (a % p)) (mul_euclid (a % p) (pos_of_ne-zero f) (mod-lt a (omega (arith, h.two_le)))))
    where
      cancel : (x : ℕ) → a % p * x % p ≡ 1 → b % p ≡ 0
      cancel x i =
          ap (λ z. z % p) (sym (mul-one b)) ∙ ap (λ z. b * z % p) (sym i) ∙ mul_mod_mod b (a % p * x) p
          ∙ ap (λ z. z % p) (mul_left_comm b (a % p) x) ∙ mod_mul_mod a (b * x) p ∙ ap (λ z. z % p) (sym (mul_assoc a b x))
          ∙ sym (mod_mul_mod (a * b) x p) ∙ ap (λ z. z * x % p) e ∙ ap (λ z. z % p) (zero-mul x) ∙ zero-mod p
