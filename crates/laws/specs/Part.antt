-- Parts of a list, and what a write of another part leaves of them.
--     part a n W       the n places of W from a on
--     Apart a n b m    n places from a on and m from b on have none in common; before or after; apart_shorter: nor have fewer
--     length_part, at_part      its length and its elements
--     part_ext         equal elements: equal parts
--     written_part     a part that was written
--     written_other_at, written_other      an element, and a part, that a write elsewhere leaves
--     written_next     one place more, from the front
--     written_table    a whole slice that was written
use Rattle.std.specs.Prelude.{◌≡◌, List, ℕ, ◌+◌, ◌≤◌, ◌<◌, length, take, drop, set}
use Rattle.std.proofs.Common.{sym, ap, ◌∙◌, subst, zero-add, arith, length-drop, ext_get_or, get_or-take, get_or-drop, length-take-le}
use Rattle.meaning.specs.List.{at, table}
use Rattle.laws.specs.List.{table_of}
use Rattle.laws.specs.Written.{Written, written_more}

abbrev pub part : ℕ → ℕ → List ℕ → List ℕ
part a n W = take n (drop a W)

pub data Apart (a n b m : ℕ) : Type 0 where
  before : a + n ≤ b → Apart a n b m
  after : b + m ≤ a → Apart a n b m

pub apart_shorter : {a n b m : ℕ} (i : ℕ) → i ≤ n → Apart a n b m → Apart a i b m
apart_shorter i l (before e) = before (omega arith)
apart_shorter i l (after e) = after e

pub length_part : (a n : ℕ) (W : List ℕ) → a + n ≤ length W → length (part a n W) ≡ n
length_part a n W l = length-take-le n (drop a W) (omega (arith, length-drop a W))

pub at_part : (a n : ℕ) (W : List ℕ) (i : ℕ) → i < n → at (part a n W) i ≡ at W (a + i)
at_part a n W i l = get_or-take n (drop a W) i 0 l ∙ get_or-drop a W i 0

pub part_ext : (a n : ℕ) (W W' : List ℕ) → a + n ≤ length W → a + n ≤ length W' → ((i : ℕ) → i < n → at W (a + i) ≡ at W' (a + i))
    → part a n W ≡ part a n W'
part_ext a n W W' l l' h =
    ext_get_or 0 (part a n W) (part a n W') (length_part a n W l ∙ sym (length_part a n W' l'))
    (λ i k. let b : i < n = omega (arith, k, length_part a n W l) in at_part a n W i b ∙ h i b ∙ sym (at_part a n W' i b))

pub written_part : (W : List ℕ) (a n : ℕ) (f : ℕ → ℕ) (W' : List ℕ) → a + n ≤ length W → Written W a n f W' → part a n W' ≡ table n f
written_part W a n f W' l h =
    table_of 0 (part a n W') n f (length_part a n W' (omega (arith, h.same_length))) (λ i k. at_part a n W' i k ∙ h.inside i k)

pub written_other_at : {W W' : List ℕ} {a n : ℕ} {f : ℕ → ℕ} (b m i : ℕ) → Apart a n b m → i < m → Written W a n f W' → at W' (b + i) ≡ at W (b + i)
written_other_at b m i (before e) k h = h.after (b + i) (omega arith)
written_other_at b m i (after e) k h = h.before (b + i) (omega arith)

pub written_other : {W W' : List ℕ} {a n : ℕ} {f : ℕ → ℕ} (b m : ℕ) → b + m ≤ length W → Apart a n b m → Written W a n f W' → part b m W' ≡ part b m W
written_other {W} {W'} b m l d h = part_ext b m W' W (omega (arith, h.same_length)) l (λ i k. written_other_at b m i d k h)

pub written_next : {W W' : List ℕ} {i : ℕ} {f : ℕ → ℕ} (v : ℕ) → Written W 0 i f W' → i < length W → v ≡ f i → Written W 0 (i + 1) f (set W' i v)
written_next {W} {W'} {i} {f} v h l e =
    subst (λ k. Written W 0 (i + 1) f (set W' k v)) (zero-add i) (written_more v h (omega (arith, l)) e)

pub written_table : (W : List ℕ) (n : ℕ) (f : ℕ → ℕ) (W' : List ℕ) → length W ≡ n → Written W 0 n f W' → W' ≡ table n f
written_table W n f W' e h =
    table_of 0 W' n f (h.same_length ∙ e) (λ i k. ap (at W') (sym (zero-add i)) ∙ h.inside i k)
