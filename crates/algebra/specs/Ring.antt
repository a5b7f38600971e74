-- Commutative rings and fields as records, and the set of rules by which `simp ring-laws` sorts both sides of an equation alike.
--     Ring             a carrier C with sum, product, negative, 0 and 1, and their laws
--     Field            a ring in which it is decided whether an element is 0, each other one has an inverse, and 1 is not 0
--     ring-laws        the rules: associativity, commutativity, units, zeros, signs, distribution
--     neg-*, mul-*     laws of signs and zeros that follow
--     sub_zero_eq      a ⊕ ⊖ b ≡ 𝟎 only for a ≡ b
--     inv_mul          in a field an inverse times its element is 𝟏
use Rattle.std.specs.Prelude.{◌≡◌, ◌≢◌}
use Rattle.std.proofs.Common.{sym, ap, ◌∙◌}

pub record Ring : Type 1 where
  pub C : Type 0
  pub add : C → C → C
  pub mul : C → C → C
  pub neg : C → C
  pub zero : C
  pub one : C
  pub add_comm : (a b : C) → add a b ≡ add b a
  pub add_assoc : (a b c : C) → add (add a b) c ≡ add a (add b c)
  pub add_zero : (a : C) → add a zero ≡ a
  pub add_neg : (a : C) → add a (neg a) ≡ zero
  pub mul_comm : (a b : C) → mul a b ≡ mul b a
  pub mul_assoc : (a b c : C) → mul (mul a b) c ≡ mul a (mul b c)
  pub mul_one : (a : C) → mul a one ≡ a
  pub mul_add : (a b c : C) → mul a (add b c) ≡ add (mul a b) (mul a c)

pub record Field : Type 1 where
  pub ring : Ring
  pub inv : ring.C → ring.C
  pub zero? : (a : ring.C) → Dec (a ≡ ring.zero)
  pub one≢zero : ring.one ≢ ring.zero
  pub mul_inv : (a : ring.C) → a ≢ ring.zero → ring.mul a (inv a) ≡ ring.one

module _ (R : Ring) where
  open R use {C, add as ◌⊕◌, mul as ◌⊗◌, neg as ⊖◌, zero as 𝟎, one as 𝟏}

  infixl 60 ◌⊕◌
  infixl 70 ◌⊗◌
  infix 75 ⊖◌
  pub add_comm : (a b : C) → a ⊕ b ≡ b ⊕ a
  add_comm a b = R.add_comm a b

  pub add_assoc : (a b c : C) → a ⊕ b ⊕ c ≡ a ⊕ (b ⊕ c)
  add_assoc a b c = R.add_assoc a b c

  pub add_left_comm : (a b c : C) → a ⊕ (b ⊕ c) ≡ b ⊕ (a ⊕ c)
  add_left_comm a b c = sym (add_assoc a b c) ∙ ap (λ x. x ⊕ c) (add_comm a b) ∙ add_assoc b a c

  pub add_zero : (a : C) → a ⊕ 𝟎 ≡ a
  add_zero a = R.add_zero a

  pub zero_add : (a : C) → 𝟎 ⊕ a ≡ a
  zero_add a = add_comm 𝟎 a ∙ add_zero a

  pub add_neg : (a : C) → a ⊕ ⊖ a ≡ 𝟎
  add_neg a = R.add_neg a

  pub add_neg_left : (a b : C) → a ⊕ (⊖ a ⊕ b) ≡ b
  add_neg_left a b = sym (add_assoc a (⊖ a) b) ∙ ap (λ x. x ⊕ b) (add_neg a) ∙ zero_add b

  pub neg_add_left : (a b : C) → ⊖ a ⊕ (a ⊕ b) ≡ b
  neg_add_left a b = add_left_comm (⊖ a) a b ∙ add_neg_left a b

  pub add_cancel : (a b c : C) → a ⊕ b ≡ a ⊕ c → b ≡ c
  add_cancel a b c e = sym (neg_add_left a b) ∙ ap (λ x. ⊖ a ⊕ x) e ∙ neg_add_left a c

  pub neg_unique : (a b : C) → a ⊕ b ≡ 𝟎 → b ≡ ⊖ a
  neg_unique a b e = add_cancel a b (⊖ a) (e ∙ sym (add_neg a))

  pub neg_zero : ⊖ 𝟎 ≡ 𝟎
  neg_zero = sym (neg_unique 𝟎 𝟎 (add_zero 𝟎))

  pub neg_neg : (a : C) → ⊖ (⊖ a) ≡ a
  neg_neg a = sym (neg_unique (⊖ a) a (add_comm (⊖ a) a ∙ add_neg a))

  pub neg_add : (a b : C) → ⊖ (a ⊕ b) ≡ ⊖ a ⊕ ⊖ b
  neg_add a b =
      sym (neg_unique (a ⊕ b) (⊖ a ⊕ ⊖ b) (simp (add_assoc, add_left_comm b, add_neg_left, add_neg)))

  pub mul_comm : (a b : C) → a ⊗ b ≡ b ⊗ a
  mul_comm a b = R.mul_comm a b

  pub mul_assoc : (a b c : C) → a ⊗ b ⊗ c ≡ a ⊗ (b ⊗ c)
  mul_assoc a b c = R.mul_assoc a b c

  pub mul_left_comm : (a b c : C) → a ⊗ (b ⊗ c) ≡ b ⊗ (a ⊗ c)
  mul_left_comm a b c = sym (mul_assoc a b c) ∙ ap (λ x. x ⊗ c) (mul_comm a b) ∙ mul_assoc b a c

  pub mul_one : (a : C) → a ⊗ 𝟏 ≡ a
  mul_one a = R.mul_one a

  pub one_mul : (a : C) → 𝟏 ⊗ a ≡ a
  one_mul a = mul_comm 𝟏 a ∙ mul_one a

  pub mul_add : (a b c : C) → a ⊗ (b ⊕ c) ≡ a ⊗ b ⊕ a ⊗ c
  mul_add a b c = R.mul_add a b c

  pub add_mul : (a b c : C) → (a ⊕ b) ⊗ c ≡ a ⊗ c ⊕ b ⊗ c
  add_mul a b c = mul_comm (a ⊕ b) c ∙ mul_add c a b ∙ simp mul_comm

  pub mul_zero : (a : C) → a ⊗ 𝟎 ≡ 𝟎
  mul_zero a = add_cancel (a ⊗ 𝟎) (a ⊗ 𝟎) 𝟎 (sym (mul_add a 𝟎 𝟎) ∙ ap (λ x. a ⊗ x) (add_zero 𝟎) ∙ sym (add_zero (a ⊗ 𝟎)))

  pub zero_mul : (a : C) → 𝟎 ⊗ a ≡ 𝟎
  zero_mul a = mul_comm 𝟎 a ∙ mul_zero a

  pub mul_neg : (a b : C) → a ⊗ ⊖ b ≡ ⊖ (a ⊗ b)
  mul_neg a b = neg_unique (a ⊗ b) (a ⊗ ⊖ b) (sym (mul_add a b (⊖ b)) ∙ ap (λ x. a ⊗ x) (add_neg b) ∙ mul_zero a)

  pub neg_mul : (a b : C) → ⊖ a ⊗ b ≡ ⊖ (a ⊗ b)
  neg_mul a b = mul_comm (⊖ a) b ∙ mul_neg b a ∙ ap ⊖◌ (mul_comm b a)

  pub sub_zero_eq : (a b : C) → a ⊕ ⊖ b ≡ 𝟎 → a ≡ b
  sub_zero_eq a b e = sym (neg_neg a) ∙ ap ⊖◌ (sym (neg_unique a (⊖ b) e)) ∙ neg_neg b

pub ruleset ring-laws = (
  add_comm,
  add_assoc,
  add_left_comm,
  add_zero,
  zero_add,
  add_neg,
  add_neg_left,
  neg_add_left,
  neg_zero,
  neg_neg,
  neg_add,
  mul_comm,
  mul_assoc,
  mul_left_comm,
  mul_one,
  one_mul,
  mul_add,
  add_mul,
  mul_zero,
  zero_mul,
  mul_neg,
  neg_mul,
)

module _ (F : Field) where
  open F use {ring as R, inv, zero?, mul_inv}
  open R use {C, add as ◌⊕◌, mul as ◌⊗◌, neg as ⊖◌, zero as 𝟎, one as 𝟏}

  infixl 60 ◌⊕◌
  infixl 70 ◌⊗◌
  infix 75 ⊖◌
  pub inv_mul : (a : C) → a ≢ 𝟎 → inv a ⊗ a ≡ 𝟏
  inv_mul a h = mul_comm R (inv a) a ∙ mul_inv a h
