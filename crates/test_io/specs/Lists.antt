-- Lists that stand in a memory one after the other, each as the number of its elements and then the elements. No place is past the end.
--     next_place s from            the place after the list at `from`
--     place_after s from k         the place after k lists from `from` on
--     list_at s from k             list k of those from `from` on
--     place_after_none, place_after_more      the clauses of place_after
--     list_at_short                a list is no longer than the memory
use Rattle.std.specs.Prelude.{◌≡◌, refl, List, ℕ, zero, suc, ◌+◌, ◌-◌, ◌≤◌, min, length, get_or, take, drop}
use Rattle.std.proofs.Common.{ap, add-one, arith, length-take, length-drop}
use Rattle.std.proofs.Math.Nat.{min-le_right}

abbrev pub next_place : List ℕ → ℕ → ℕ
next_place s from = min (from + 1 + get_or s from 0) (length s)

unfoldable pub place_after : List ℕ → ℕ → ℕ → ℕ
place_after s from zero = min from (length s)
place_after s from (suc k) = next_place s (place_after s from k)

abbrev pub list_at : List ℕ → ℕ → ℕ → List ℕ
list_at s from k = take (place_after s from (k + 1) - (place_after s from k + 1)) (drop (place_after s from k + 1) s)

pub place_after_none : (s : List ℕ) (from : ℕ) → place_after s from 0 ≡ min from (length s)
unfolding place_after
place_after_none s from = refl

pub place_after_more : (s : List ℕ) (from k : ℕ) → place_after s from (k + 1) ≡ next_place s (place_after s from k)
unfolding place_after
place_after_more s from k = ap (place_after s from) (add-one k)

pub list_at_short : (s : List ℕ) (from k : ℕ) → length (list_at s from k) ≤ length s
list_at_short s from k =
    let a = place_after s from k + 1 in
    let n = place_after s from (k + 1) - a in
    omega (arith, length-take n (drop a s), min-le_right n (length (drop a s)), length-drop a s)
