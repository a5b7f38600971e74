-- A slice with a word in it.
--     placed l at w        l with w in it from the place `at` on
--     placed_nil, placed_one, length_placed                 nothing, one byte (a store), the length
--     placed_after         a word right after another: placed (placed l at v) (at + length v) w ≡ placed l at (v ++ w)
--     placed_before        .. and right before it: placed (placed l (at + length v) w) at v ≡ placed l at (v ++ w)
--     store_before, store_after      .. where the second word is one byte that is stored
--     placed_part          a part that was written over
--     placed_start         at place 0 it is meaning's overwrite
use Rattle.std.specs.Prelude.{◌≡◌, List, [], ◌∷◌, ◌++◌, ℕ, suc, ◌+◌, ◌≤◌, ◌<◌, take, drop, set}
use Rattle.std.proofs.Common.{sym, ap, ap₂, ◌∙◌, append_assoc, append-nil, add-one, take-append-drop, take_at, drop_at, take-take, drop-drop}
use native.Mathlib.Omega.{arith}
use Rattle.std.proofs.Math.ListN.{length, length-append, length-drop}
use Rattle.std.proofs.Math.Seq.{length-take-le, drop-append-add, append_snoc}
use Rattle.std.proofs.lemmas.List.{take-append-le, set_split}
use borrow.Rule.Slice.PartMut.{put_mid}
use Rattle.meaning.specs.List.{overwrite}

unfoldable pub placed : List ℕ → ℕ → List ℕ → List ℕ
placed l at w = take at l ++ w ++ drop (at + length w) l

module _ (l : List ℕ) (at : ℕ) (w : List ℕ) (h : at + length w ≤ length l) where
  pub length_placed : length (placed l at w) ≡ length l
  unfolding placed
  length_placed =
      omega (
        arith,
        length-append (take at l ++ w) (drop (at + length w) l),
        length-append (take at l) w,
        length-take-le at l (omega arith),
        length-drop (at + length w) l,
      )

  length_head : length (take at l ++ w) ≡ at + length w
  length_head = omega (arith, length-append (take at l) w, length-take-le at l (omega arith))

pub placed_nil : (l : List ℕ) (at : ℕ) → placed l at [] ≡ l
unfolding placed
placed_nil l at =
    let none : at + 0 ≡ at = omega arith in
    ap₂ (λ m k. m ++ drop k l) (append-nil (take at l)) none ∙ take-append-drop at l

-- a store
pub placed_one : (l : List ℕ) (at x : ℕ) → at < length l → set l at x ≡ placed l at (x ∷ [])
unfolding placed
placed_one l at x h =
    set_split l at x h ∙ sym (append_snoc (take at l) x (drop (suc at) l)) ∙ ap (λ k. take at l ++ (x ∷ []) ++ drop k l) (sym (add-one at))

-- a part that became the word, whose length the part's is
pub placed_part : (l : List ℕ) (at k : ℕ) (w : List ℕ) → k ≡ length w → put_mid at k l w ≡ placed l at w
unfolding placed
placed_part l at k w e =
    sym (append_assoc (take at l) w (drop k (drop at l)))
    ∙ ap (λ m. take at l ++ w ++ m) (ap (λ i. drop i (drop at l)) e ∙ drop-drop (length w) at l)

pub placed_start : (l w : List ℕ) → placed l 0 w ≡ overwrite w l
unfolding placed
placed_start l w =
    let none : 0 + length w ≡ length w = omega arith in
    ap (λ k. w ++ drop k l) none

-- w right after v
pub placed_after : (l : List ℕ) (at : ℕ) (v w : List ℕ) → at + length v ≤ length l
    → placed (placed l at v) (at + length v) w ≡ placed l at (v ++ w)
unfolding placed
placed_after l at v w h =
    let head = take at l ++ v in
    let rest = drop (at + length v) l in
    let start : take (at + length v) (head ++ rest) ≡ head = take_at head rest (at + length v) (length_head l at v h) in
    let both : at + length v + length w ≡ at + length (v ++ w) = omega (arith, length-append v w) in
    let stop : drop (at + length v + length w) (head ++ rest) ≡ drop (at + length (v ++ w)) l =
    ap (λ k. drop (k + length w) (head ++ rest)) (sym (length_head l at v h)) ∙ drop-append-add head rest (length w)
    ∙ drop-drop (length w) (at + length v) l
    ∙ ap (λ k. drop k l) both in
    ap₂ (λ a b. a ++ w ++ b) start stop ∙ ap (λ m. m ++ drop (at + length (v ++ w)) l) (append_assoc (take at l) v w)

-- v right before w
pub placed_before : (l : List ℕ) (at : ℕ) (v w : List ℕ) → at + length v ≤ length l
    → placed (placed l (at + length v) w) at v ≡ placed l at (v ++ w)
unfolding placed
placed_before l at v w h =
    let head = take (at + length v) l in
    let rest = drop (at + length v + length w) l in
    let both : at + length v + length w ≡ at + length (v ++ w) = omega (arith, length-append v w) in
    let start : take at (head ++ w ++ rest) ≡ take at l =
    ap (take at) (append_assoc head w rest)
    ∙ take-append-le at head (w ++ rest) (omega (arith, length-take-le (at + length v) l h))
    ∙ take-take at (at + length v) l (omega arith) in
    let stop : drop (at + length v) (head ++ w ++ rest) ≡ w ++ rest =
    ap (drop (at + length v)) (append_assoc head w rest)
    ∙ drop_at head (w ++ rest) (at + length v) (length-take-le (at + length v) l h) in
    ap₂ (λ a b. a ++ v ++ b) start stop ∙ sym (append_assoc (take at l ++ v) w rest) ∙ ap (λ m. m ++ rest) (append_assoc (take at l) v w)
    ∙ ap (λ k. take at l ++ (v ++ w) ++ drop k l) both

-- a store right before a word, and right after it
pub store_before : (l : List ℕ) (at : ℕ) (w : List ℕ) (x i : ℕ) → i ≡ at + length w → i < length l
    → placed (set l i x) at w ≡ placed l at (w ++ (x ∷ []))
store_before l at w x i e h =
    ap (λ m. placed m at w) (placed_one l i x h ∙ ap (λ k. placed l k (x ∷ [])) e) ∙ placed_before l at w (x ∷ []) (omega arith)

pub store_after : (l : List ℕ) (at : ℕ) (w : List ℕ) (x i : ℕ) → i ≡ at + length w → i < length l
    → set (placed l at w) i x ≡ placed l at (w ++ (x ∷ []))
store_after l at w x i e h =
    placed_one (placed l at w) i x (omega (arith, length_placed l at w (omega arith)))
    ∙ ap (λ k. placed (placed l at w) k (x ∷ [])) e ∙ placed_after l at w (x ∷ []) (omega arith)
