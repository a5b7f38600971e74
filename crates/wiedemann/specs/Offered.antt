-- Offered vectors (src/offered.rt): two tests place by place.
--     equal_all, zero_all      lists are equal, or zero, in every place
--     zero_tested              a test of zeros in every place
--     takes_all                A takes x to b, row after row; takes_tested: a test of that
use Rattle.std.specs.Prelude.{◌-◌, take, drop, ◌≡◌, Bool, true, List, ℕ, ◌<◌, eqb, length}
use Rattle.std.proofs.Math.Nat.{sub_self}
use Rattle.std.proofs.Common.{sym, ap, ◌∙◌, subst, arith, ext_get_or, eqb-true, eq-eqb}
use Rattle.meaning.specs.List.{at, all, equal, is_zero}
use Rattle.meaning.specs.Matrix.{Matrix, size, product}
use Rattle.meaning.specs.Solver.{takes}
use Rattle.laws.specs.Bool.{same_test}
use Rattle.laws.specs.List.{all_at, all_of, equal→≡, equal_refl, every_all}
use Rattle.wiedemann.specs.Horner.{vector_product}

pub equal_all : (l m : List ℕ) (n : ℕ) → length l ≡ n → length m ≡ n → equal l m ≡ all n (λ i. eqb (at l i) (at m i))
equal_all l m n d e =
    same_test (equal l m) (all n (λ i. eqb (at l i) (at m i)))
    (λ h. all_of n (λ i. eqb (at l i) (at m i)) (λ i k. eq-eqb (at l i) (at m i) (ap (λ v. at v i) (equal→≡ l m h))))
    (λ h. subst (λ v. equal l v ≡ true)
    (ext_get_or 0 l m (d ∙ sym e) (λ i k. eqb-true (at l i) (at m i) (all_at n (λ j. eqb (at l j) (at m j)) h i (omega (arith, k, d)))))
    (equal_refl l))

pub zero_all : (l : List ℕ) (n : ℕ) → length l ≡ n → is_zero l ≡ all n (λ i. eqb (at l i) 0)
zero_all l n e = every_all (λ a. eqb a 0) l 0 ∙ ap (λ k. all k (λ i. eqb (at l i) 0)) e

pub takes_all : (p : ℕ) (A : Matrix) (x b : List ℕ) → 0 < p → length b ≡ size A → takes p A x b ≡ all (size A) (λ i. eqb (at (product p A x) i) (at b i))
unfolding takes
takes_all p A x b l e = equal_all (product p A x) b (size A) (vector_product p A x l).places e

pub takes_tested : (p q : ℕ) → q ≡ p → (A : Matrix) (x b : List ℕ) (r : Bool) → 0 < p → length b ≡ size A
    → r ≡ all (size A) (λ i. eqb (at (product q A x) i) (at b i)) → takes p A x b ≡ r
takes_tested p q e A x b r l k tested =
    takes_all p A x b l k ∙ ap (λ m. all (size A) (λ i. eqb (at (product m A x) i) (at b i))) (sym e) ∙ sym tested

-- w's part after its end stands for the zeros
pub zero_tested : (l w : List ℕ) (n : ℕ) (r : Bool) → length l ≡ n → r ≡ all n (λ i. eqb (at l i) (at (take (length w - length w) (drop (length w) w)) i))
    → r ≡ is_zero l
zero_tested l w n r e tested =
    tested ∙ ap (λ k. all n (λ i. eqb (at l i) (at (take k (drop (length w) w)) i))) (sub_self (length w)) ∙ sym (zero_all l n e)
