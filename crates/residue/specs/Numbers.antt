-- Laws of the native numbers that the library lacks.
--     mul_mod_mod, mod_mul_mod      a factor may be reduced before the product is
--     mod_eq_sub                    from p to 2p − 1 the remainder is one difference
--     sub_mod_le, sub_mod_lt        x − y modulo p for x and y below p, as one sum with p − y
use Rattle.std.specs.Prelude.{◌≡◌, ℕ, ◌+◌, ◌*◌, ◌-◌, ◌/◌, ◌%◌, ◌≤◌, ◌<◌}
use Rattle.std.proofs.Common.{sym, ap, ◌∙◌, mul_comm, mul-add, mul_left_comm, mod-eq_of_lt, arith}
use Rattle.std.proofs.Math.Nat.{mod-add-div, mod-eq-sub-mod, add-mul-mod_self_left}

pub mul_mod_mod : (a b p : ℕ) → a * (b % p) % p ≡ a * b % p
mul_mod_mod a b p =
    sym (add-mul-mod_self_left (a * (b % p)) p (a * (b / p)))
    ∙ ap (λ x. x % p) (ap (λ x. a * (b % p) + x) (mul_left_comm p a (b / p)) ∙ sym (mul-add a (b % p) (p * (b / p))) ∙ ap (λ x. a * x) (mod-add-div b p))

pub mod_mul_mod : (a b p : ℕ) → a % p * b % p ≡ a * b % p
mod_mul_mod a b p = ap (λ x. x % p) (mul_comm (a % p) b) ∙ mul_mod_mod b a p ∙ ap (λ x. x % p) (mul_comm b a)

pub mod_eq_sub : (n p : ℕ) → p ≤ n → n < p + p → n % p ≡ n - p
mod_eq_sub n p l k = mod-eq-sub-mod l ∙ mod-eq_of_lt {n = n - p} (omega arith)

pub sub_mod_le : (x y p : ℕ) → y ≤ x → x < p → (x + (p - y)) % p ≡ x - y
sub_mod_le x y p l k = mod_eq_sub (x + (p - y)) p (omega arith) (omega arith) ∙ omega arith

pub sub_mod_lt : (x y p : ℕ) → x < y → y ≤ p → (x + (p - y)) % p ≡ x + (p - y)
sub_mod_lt x y p l k = mod-eq_of_lt {n = x + (p - y)} (omega arith)
