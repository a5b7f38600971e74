-- The residues modulo a prime p as a field, and how numbers enter and leave it. The field is shut: outside this file a residue is known by the
-- laws below alone, so that `simp ring-laws` sorts residues as it sorts the elements of any ring.
--     residues p h     the field, h : Prime p. An element is a number x with x % p ≡ x; −x is p − x reduced
--     mk x, value a    the residue of any number; the number below p of a residue
--     mk_value, value_mk_mod      they undo each other; value (mk x) ≡ x % p
--     value_inj, mk_inj, mk_iff     equal numbers and equal residues; mk x ≡ mk y exactly if x % p ≡ y % p
--     mk_zero_iff      when a residue is zero
--     mk_zero, mk_one, mk_modulus, mk_mod, mk_add, mk_mul, mk_neg, mk_sub, mk_inv, mk_euclid      an operation on numbers as one on residues
--     mk-laws          those of them that always apply: `simp (mk-laws, ring-laws)` proves equations modulo p
--     The inverse of zero is zero here, where the meaning's `inverse p 0` is p: mk_inv holds for every number.
use Rattle.std.specs.Prelude.{◌≡◌, ◌≢◌, ◌↔◌, ℕ, ◌+◌, ◌*◌, ◌-◌, ◌%◌, ◌<◌}
use Rattle.std.proofs.Math.Path.{refl, sym, ap}
use Rattle.std.proofs.Common.{◌∙◌, mod-lt, mod-eq_of_lt, add_comm, add_assoc, add-zero, le_of_lt, mul_comm, mul_assoc, mul-add, mul-one, pos_of_ne-zero, arith}
use mathlib.Core.HLevel.{Σ_prop_path}
use Rattle.std.proofs.Math.Nat.{ℕ_set, mod-mod, mod-add-mod, add-mod-mod, zero-mod, add-sub_of_le, mod_self}
use Rattle.std.proofs.Math.Decide.{ℕ_discrete, map_dec}
use Rattle.residue.specs.Numbers.{mul_mod_mod, mod_mul_mod}
use Rattle.residue.specs.Prime.{Prime}
use Rattle.meaning.specs.Field.{inverse}
use Rattle.residue.specs.Inverse.{euclid, euclid_zero, mul_euclid, inverse_euclid, inverse_zero, inverse_mod}
use Rattle.algebra.specs.Ring.{Field}
use Rattle.algebra.specs.Ring as ring

Residue : ℕ → Type 0
Residue p = (x : ℕ) × (x % p ≡ x)

module _ (p : ℕ) where
  reduce : ℕ → Residue p
  unfolding Residue
  reduce x = (x % p, mod-mod x p)

  number : Residue p → ℕ
  unfolding Residue
  number a = a.0

  number_reduce : (x : ℕ) → number (reduce x) ≡ x % p
  unfolding reduce number
  number_reduce x = refl

  number_mod : (a : Residue p) → number a % p ≡ number a
  unfolding number
  number_mod a = a.1

  number_inj : (a b : Residue p) → number a ≡ number b → a ≡ b
  unfolding number
  number_inj a b e = Σ_prop_path (λ (k : ℕ). ℕ_set (k % p) k) {u = a} {v = b} e

  reduce_eq : (x y : ℕ) → x % p ≡ y % p → reduce x ≡ reduce y
  reduce_eq x y e = number_inj (reduce x) (reduce y) (number_reduce x ∙ e ∙ sym (number_reduce y))

  reduce_number : (a : Residue p) → reduce (number a) ≡ a
  reduce_number a = number_inj (reduce (number a)) a (number_reduce (number a) ∙ number_mod a)

  plus : Residue p → Residue p → Residue p
  plus a b = reduce (number a + number b)

  times : Residue p → Residue p → Residue p
  times a b = reduce (number a * number b)

  negative : Residue p → Residue p
  negative a = reduce (p - number a)

  inverted : Residue p → Residue p
  inverted a = reduce (euclid p (number a))

  plus_reduce : (x y : ℕ) → plus (reduce x) (reduce y) ≡ reduce (x + y)
  unfolding plus
  plus_reduce x y =
      reduce_eq (number (reduce x) + number (reduce y)) (x + y) (simp (number_reduce, mod-add-mod, add-mod-mod))

  times_reduce : (x y : ℕ) → times (reduce x) (reduce y) ≡ reduce (x * y)
  unfolding times
  times_reduce x y =
      reduce_eq (number (reduce x) * number (reduce y)) (x * y) (simp (number_reduce, mod_mul_mod, mul_mod_mod))

  plus_comm : (a b : Residue p) → plus a b ≡ plus b a
  unfolding plus
  plus_comm a b = ap reduce (add_comm (number a) (number b))

  plus_assoc : (a b c : Residue p) → plus (plus a b) c ≡ plus a (plus b c)
  unfolding plus
  plus_assoc a b c =
      reduce_eq (number (reduce (number a + number b)) + number c) (number a + number (reduce (number b + number c)))
      (simp (number_reduce, mod-add-mod, add-mod-mod, add_assoc))

  plus_zero : (a : Residue p) → plus a (reduce 0) ≡ a
  unfolding plus
  plus_zero a =
      reduce_eq (number a + number (reduce 0)) (number a) (simp (number_reduce, add-mod-mod, add-zero)) ∙ reduce_number a

  times_comm : (a b : Residue p) → times a b ≡ times b a
  unfolding times
  times_comm a b = ap reduce (mul_comm (number a) (number b))

  times_assoc : (a b c : Residue p) → times (times a b) c ≡ times a (times b c)
  unfolding times
  times_assoc a b c =
      reduce_eq (number (reduce (number a * number b)) * number c) (number a * number (reduce (number b * number c)))
      (simp (number_reduce, mod_mul_mod, mul_mod_mod, mul_assoc))

  times_one : (a : Residue p) → times a (reduce 1) ≡ a
  unfolding times
  times_one a =
      reduce_eq (number a * number (reduce 1)) (number a) (simp (number_reduce, mul_mod_mod, mul-one)) ∙ reduce_number a

  times_plus : (a b c : Residue p) → times a (plus b c) ≡ plus (times a b) (times a c)
  unfolding plus times
  times_plus a b c =
      reduce_eq (number a * number (reduce (number b + number c)))
      (number (reduce (number a * number b)) + number (reduce (number a * number c)))
      (simp (number_reduce, mul_mod_mod, mod-add-mod, add-mod-mod, mul-add))

module _ (p : ℕ) (h : Prime p) where
  positive : 0 < p
  positive = omega (arith, h.two_le)

  number_lt : (a : Residue p) → number p a < p
  number_lt a = rw (number_mod p a) at (mod-lt (number p a) positive)

  plus_negative : (a : Residue p) → plus p a (negative p a) ≡ reduce p 0
  unfolding plus negative
  plus_negative a =
      reduce_eq p (number p a + number p (reduce p (p - number p a))) 0
      (simp (number_reduce, add-mod-mod, add-sub_of_le (le_of_lt (number_lt a)), mod_self, zero-mod))

  nonzero : (a : Residue p) → a ≢ reduce p 0 → 0 < number p a
  nonzero a f = pos_of_ne-zero (λ e. f (sym (reduce_number p a) ∙ ap (reduce p) e))

  one_nonzero : reduce p 1 ≢ reduce p 0
  one_nonzero e =
      let z : ◌≡◌ {A = ℕ} 1 0 = sym (mod-eq_of_lt h.two_le) ∙ sym (number_reduce p 1) ∙ ap (number p) e ∙ number_reduce p 0 ∙ zero-mod p in
      omega arith

  times_inverted : (a : Residue p) → a ≢ reduce p 0 → times p a (inverted p a) ≡ reduce p 1
  unfolding times inverted
  times_inverted a f =
      reduce_eq p (number p a * number p (reduce p (euclid p (number p a)))) 1
      (simp (number_reduce, mul_mod_mod) (mul_euclid p h (number p a) (nonzero a f) (number_lt a) ∙ sym (mod-eq_of_lt h.two_le)))

  pub residues : Field
  residues =
      record {
        ring =
            record {
              C = Residue p;
              add = plus p;
              mul = times p;
              neg = negative p;
              zero = reduce p 0;
              one = reduce p 1;
              add_comm = plus_comm p;
              add_assoc = plus_assoc p;
              add_zero = plus_zero p;
              add_neg = plus_negative;
              mul_comm = times_comm p;
              mul_assoc = times_assoc p;
              mul_one = times_one p;
              mul_add = times_plus p;
            };
        inv = inverted p;
        zero? =
            λ a. map_dec (λ e. number_inj p a (reduce p 0) (e ∙ sym (number_reduce p 0 ∙ zero-mod p)))
            (λ e. ap (number p) e ∙ number_reduce p 0 ∙ zero-mod p) (ℕ_discrete (number p a) 0);
        one≢zero = one_nonzero;
        mul_inv = times_inverted;
      }

module _ (p : ℕ) (h : Prime p) where
  open residues p h use {ring as R, inv}
  open R use {C, add as ◌⊕◌, mul as ◌⊗◌, neg as ⊖◌, zero as 𝟎, one as 𝟏}

  infixl 60 ◌⊕◌
  infixl 70 ◌⊗◌
  infix 75 ⊖◌
  pub mk : ℕ → C
  unfolding residues
  mk = reduce p

  pub value : C → ℕ
  unfolding residues
  value = number p

  pub value_mk_mod : (x : ℕ) → value (mk x) ≡ x % p
  unfolding mk value
  value_mk_mod x = number_reduce p x

  pub mk_value : (a : C) → mk (value a) ≡ a
  unfolding mk value
  mk_value a = reduce_number p a

  pub value_inj : (a b : C) → value a ≡ value b → a ≡ b
  value_inj a b e = sym (mk_value a) ∙ ap mk e ∙ mk_value b

  pub mk_iff : (x y : ℕ) → (mk x ≡ mk y) ↔ (x % p ≡ y % p)
  mk_iff x y =
      (λ e. sym (value_mk_mod x) ∙ ap value e ∙ value_mk_mod y, λ e. value_inj (mk x) (mk y) (value_mk_mod x ∙ e ∙ sym (value_mk_mod y)))

  pub mk_inj : (x y : ℕ) → x < p → y < p → mk x ≡ mk y → x ≡ y
  mk_inj x y k l e = sym (mod-eq_of_lt k) ∙ (mk_iff x y).0 e ∙ mod-eq_of_lt l

  pub mk_mod : (x : ℕ) → mk (x % p) ≡ mk x
  mk_mod x = (mk_iff (x % p) x).1 (mod-mod x p)

  pub mk_zero : mk 0 ≡ 𝟎
  unfolding mk residues
  mk_zero = refl

  pub mk_one : mk 1 ≡ 𝟏
  unfolding mk residues
  mk_one = refl

  pub mk_modulus : mk p ≡ 𝟎
  mk_modulus = (mk_iff p 0).1 (mod_self p ∙ sym (zero-mod p)) ∙ mk_zero

  pub mk_zero_iff : (x : ℕ) → (mk x ≡ 𝟎) ↔ (x % p ≡ 0)
  mk_zero_iff x =
      (λ e. (mk_iff x 0).0 (e ∙ sym mk_zero) ∙ zero-mod p, λ e. (mk_iff x 0).1 (e ∙ sym (zero-mod p)) ∙ mk_zero)

  pub mk_add : (x y : ℕ) → mk (x + y) ≡ mk x ⊕ mk y
  unfolding mk residues
  mk_add x y = sym (plus_reduce p x y)

  pub mk_mul : (x y : ℕ) → mk (x * y) ≡ mk x ⊗ mk y
  unfolding mk residues
  mk_mul x y = sym (times_reduce p x y)

  pub mk_neg : (x : ℕ) → mk (p - x % p) ≡ ⊖ mk x
  mk_neg x =
      ring.neg_unique R (mk x) (mk (p - x % p))
      (ap (λ a. a ⊕ mk (p - x % p)) (sym (mk_mod x)) ∙ sym (mk_add (x % p) (p - x % p))
      ∙ ap mk (add-sub_of_le (le_of_lt (mod-lt x (positive p h)))) ∙ mk_modulus)

  pub mk_sub : (x y : ℕ) → mk (x + (p - y % p)) ≡ mk x ⊕ ⊖ mk y
  mk_sub x y = mk_add x (p - y % p) ∙ ap (λ a. mk x ⊕ a) (mk_neg y)

  pub mk_euclid : (x : ℕ) → mk (euclid p (x % p)) ≡ inv (mk x)
  unfolding mk residues inverted
  mk_euclid x = ap (λ y. reduce p (euclid p y)) (sym (number_reduce p x))

  -- at 0 too, where the meaning's inverse is p
  pub mk_inv : (x : ℕ) → mk (inverse p x) ≡ inv (mk x)
  mk_inv x = ap mk (sym (inverse_mod p x)) ∙ below (ℕ_discrete (x % p) 0) ∙ mk_euclid x
    where
      below : Dec (x % p ≡ 0) → mk (inverse p (x % p)) ≡ mk (euclid p (x % p))
      below (yes z) =
          ap (λ y. mk (inverse p y)) z ∙ ap mk (inverse_zero p) ∙ mk_modulus ∙ sym mk_zero ∙ ap mk (sym (euclid_zero p))
          ∙ ap (λ y. mk (euclid p y)) (sym z)
      below (no f) = ap mk (inverse_euclid p h (x % p) (pos_of_ne-zero f) (mod-lt x (positive p h)))

pub ruleset mk-laws = (mk_zero, mk_one, mk_modulus, mk_mod, mk_add, mk_mul, mk_neg)
