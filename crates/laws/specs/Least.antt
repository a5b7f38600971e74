-- Laws of `least` (meaning's List).
--     least_zero, least_now, least_later      its clauses
--     least_is         the first place at which f holds
--     least_none       n, where f holds nowhere below n
use Rattle.std.specs.Prelude.{◌≡◌, refl, Bool, true, false, cond, ℕ, zero, suc, ◌<◌}
use Rattle.std.proofs.Common.{ap, ◌∙◌, arith}
use Rattle.meaning.specs.List.{least}

pub least_zero : (f : ℕ → Bool) → least 0 f ≡ 0
unfolding least
least_zero f = refl

least_suc : (n : ℕ) (f : ℕ → Bool) → least (suc n) f ≡ cond (f 0) 0 (suc (least n (λ i. f (suc i))))
unfolding least
least_suc n f = refl

pub least_now : (n : ℕ) (f : ℕ → Bool) → f 0 ≡ true → least (suc n) f ≡ 0
least_now n f e = least_suc n f ∙ ap (λ b. cond b 0 (suc (least n (λ i. f (suc i))))) e

pub least_later : (n : ℕ) (f : ℕ → Bool) → f 0 ≡ false → least (suc n) f ≡ suc (least n (λ i. f (suc i)))
least_later n f e = least_suc n f ∙ ap (λ b. cond b 0 (suc (least n (λ i. f (suc i))))) e

pub least_is : (n : ℕ) (f : ℕ → Bool) (y : ℕ) → y < n → f y ≡ true → ((z : ℕ) → z < y → f z ≡ false) → least n f ≡ y
least_is zero f y l e h = absurd (omega arith)
least_is (suc n) f zero l e h = least_now n f e
least_is (suc n) f (suc y) l e h =
    least_later n f (h 0 (omega arith)) ∙ ap suc (least_is n (λ i. f (suc i)) y (omega arith) e (λ z k. h (suc z) (omega arith)))

pub least_none : (n : ℕ) (f : ℕ → Bool) → ((i : ℕ) → i < n → f i ≡ false) → least n f ≡ n
least_none zero f h = least_zero f
least_none (suc n) f h =
    least_later n f (h 0 (omega arith)) ∙ ap suc (least_none n (λ i. f (suc i)) (λ i k. h (suc i) (omega arith)))
