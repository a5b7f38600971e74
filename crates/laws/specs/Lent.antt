-- A part of a slice that was lent and has come back.
--     lent W a n Y           W with Y in place of the n places from a on
--     length_lent            as long as it was
--     take_lent, drop_lent, part_lent, inner_lent      its parts: what stands before, after, the part itself and what is in it
--     part_of_take, part_of_drop, part_of_part      a part of a leading part, of a rest, of a part
--     part_cons              a part by its first element
--     part_at                the same part, its bounds written otherwise
--     same_take, same_drop   parts that stay where a leading part, or a rest, stays
--     same_after             places that stay where a rest stays
--     take_ext, drop_ext     a leading part, a rest, by its places
--     written_take, written_drop      what a write leaves before it and after it
--     take_padded            a list out of zeros after it
--     written_lent           a part that was lent and written whole
--     written_inner          a part that was lent, of which a part was written
use Rattle.std.specs.Prelude.{◌≡◌, List, ◌∷◌, ◌++◌, ℕ, suc, ◌+◌, ◌-◌, ◌≤◌, ◌<◌, length, take, drop}
use Rattle.std.proofs.Common.{sym, ap, ap₂, ◌∙◌, arith, length-append, length-drop, ext_get_or, get_or-take, get_or-drop, length-take-le, drop-drop, take_at, drop_at, drop-cons}
use Rattle.std.proofs.Math.Decide.{dec_lt}
use Rattle.meaning.specs.List.{at, table, padded}
use Rattle.laws.specs.List.{length_table, get_or_table}
use Rattle.laws.specs.Written.{Written}
use Rattle.laws.specs.Part.{part, part_ext, at_part, length_part}

abbrev pub lent : List ℕ → ℕ → ℕ → List ℕ → List ℕ
lent W a n Y = take a W ++ (Y ++ drop n (drop a W))

pub part_of_take : (a n m : ℕ) (W : List ℕ) → a + n ≤ m → m ≤ length W → part a n (take m W) ≡ part a n W
part_of_take a n m W l k =
    part_ext a n (take m W) W (omega (arith, length-take-le m W k, l)) (omega (arith, l, k))
    (λ i h. get_or-take m W (a + i) 0 (omega (arith, l, h)))

pub part_of_drop : (a n m : ℕ) (W : List ℕ) → part a n (drop m W) ≡ part (m + a) n W
part_of_drop a n m W = ap (take n) (drop-drop a m W)

pub part_of_part : (a n b m : ℕ) (W : List ℕ) → a + n ≤ m → b + m ≤ length W → part a n (part b m W) ≡ part (b + a) n W
part_of_part a n b m W l k =
    part_of_take a n m (drop b W) l (omega (arith, length-drop b W, k)) ∙ part_of_drop a n b W

module _ (W : List ℕ) (a n : ℕ) (Y : List ℕ) (fits : a + n ≤ length W) (same : length Y ≡ n) where
  pub length_lent : length (lent W a n Y) ≡ length W
  length_lent =
      length-append (take a W) (Y ++ drop n (drop a W))
      ∙ omega (arith, length-append Y (drop n (drop a W)), length-take-le a W (omega (arith, fits)), length-drop n (drop a W), length-drop a W, fits, same)

  pub take_lent : take a (lent W a n Y) ≡ take a W
  take_lent = take_at (take a W) (Y ++ drop n (drop a W)) a (length-take-le a W (omega (arith, fits)))

  rest_lent : drop a (lent W a n Y) ≡ Y ++ drop n (drop a W)
  rest_lent = drop_at (take a W) (Y ++ drop n (drop a W)) a (length-take-le a W (omega (arith, fits)))

  pub part_lent : part a n (lent W a n Y) ≡ Y
  part_lent = ap (take n) rest_lent ∙ take_at Y (drop n (drop a W)) n same

  pub drop_lent : drop (a + n) (lent W a n Y) ≡ drop (a + n) W
  drop_lent =
      sym (drop-drop n a (lent W a n Y)) ∙ ap (drop n) rest_lent ∙ drop_at Y (drop n (drop a W)) n same ∙ drop-drop n a W

  -- a part of what was lent
  pub inner_lent : (b m : ℕ) → b + m ≤ n → part (a + b) m (lent W a n Y) ≡ part b m Y
  inner_lent b m l =
      sym (part_of_part b m a n (lent W a n Y) l (omega (arith, length_lent, fits))) ∙ ap (part b m) part_lent

-- the same part, its bounds written otherwise
pub part_at : (W : List ℕ) (a m a' m' : ℕ) → a ≡ a' → m ≡ m' → part a m W ≡ part a' m' W
part_at W a m a' m' e f = ap₂ (λ b n. part b n W) e f

pub part_cons : (a n : ℕ) (W : List ℕ) → a < length W → part a (suc n) W ≡ at W a ∷ part (suc a) n W
part_cons a n W l = ap (take (suc n)) (drop-cons W a 0 l)

pub same_take : (a n m : ℕ) (W W' : List ℕ) → a + n ≤ m → m ≤ length W → length W' ≡ length W → take m W' ≡ take m W → part a n W' ≡ part a n W
same_take a n m W W' l k e h =
    sym (part_of_take a n m W' l (omega (arith, k, e))) ∙ ap (part a n) h ∙ part_of_take a n m W l k

pub same_drop : (a n m : ℕ) (W W' : List ℕ) → drop m W' ≡ drop m W → part (m + a) n W' ≡ part (m + a) n W
same_drop a n m W W' h = sym (part_of_drop a n m W') ∙ ap (part a n) h ∙ part_of_drop a n m W

pub take_ext : (m : ℕ) (W W' : List ℕ) → m ≤ length W → length W' ≡ length W → ((k : ℕ) → k < m → at W' k ≡ at W k) → take m W' ≡ take m W
take_ext m W W' l e h =
    ext_get_or 0 (take m W') (take m W) (length-take-le m W' (omega (arith, l, e)) ∙ sym (length-take-le m W l))
    (λ i k. let b : i < m = omega (arith, k, length-take-le m W' (omega (arith, l, e))) in get_or-take m W' i 0 b ∙ h i b ∙ sym (get_or-take m W i 0 b))

pub drop_ext : (m : ℕ) (W W' : List ℕ) → length W' ≡ length W → ((k : ℕ) → m ≤ k → at W' k ≡ at W k) → drop m W' ≡ drop m W
drop_ext m W W' e h =
    ext_get_or 0 (drop m W') (drop m W) (length-drop m W' ∙ ap (λ n. n - m) e ∙ sym (length-drop m W))
    (λ i k. get_or-drop m W' i 0 ∙ h (m + i) (omega arith) ∙ sym (get_or-drop m W i 0))

pub written_take : {W W' : List ℕ} {a n : ℕ} {f : ℕ → ℕ} (m : ℕ) → m ≤ a → m ≤ length W → Written W a n f W' → take m W' ≡ take m W
written_take {W} {W'} m l k w = take_ext m W W' k w.same_length (λ i h. w.before i (omega arith))

pub written_drop : {W W' : List ℕ} {a n : ℕ} {f : ℕ → ℕ} (m : ℕ) → a + n ≤ m → Written W a n f W' → drop m W' ≡ drop m W
written_drop {W} {W'} m l w = drop_ext m W W' w.same_length (λ i h. w.after i (omega arith))

pub take_padded : (m : ℕ) (l : List ℕ) → length l ≤ m → take (length l) (padded m l) ≡ l
take_padded m l k =
    ext_get_or 0 (take (length l) (padded m l)) l size
    (λ i h. let b : i < length l = omega (arith, h, size) in get_or-take (length l) (padded m l) i 0 b ∙ get_or_table m (λ j. at l j) i 0 (omega (arith, b, k)))
  where
    size : length (take (length l) (padded m l)) ≡ length l
    size = length-take-le (length l) (padded m l) (omega (arith, length_table m (λ j. at l j), k))

pub same_after : (m i : ℕ) (W W' : List ℕ) → drop m W' ≡ drop m W → m ≤ i → at W' i ≡ at W i
same_after m i W W' e l =
    ap (at W') place ∙ sym (get_or-drop m W' (i - m) 0) ∙ ap (λ r. at r (i - m)) e ∙ get_or-drop m W (i - m) 0 ∙ ap (at W) (sym place)
  where
    place : i ≡ m + (i - m)
    place = omega (arith, l)

-- a part that was lent and written whole
pub written_lent : (W : List ℕ) (a n : ℕ) (f : ℕ → ℕ) (Y : List ℕ) → a + n ≤ length W → Y ≡ table n f → Written W a n f (lent W a n Y)
written_lent W a n f Y fits e =
    record {
      same_length = length_lent W a n Y fits same;
      inside =
          λ i l.
          sym (at_part a n (lent W a n Y) i l) ∙ ap (λ y. at y i) (part_lent W a n Y fits same ∙ e) ∙ get_or_table n f i 0 l;
      before =
          λ k l.
          sym (get_or-take a (lent W a n Y) k 0 l) ∙ ap (λ y. at y k) (take_lent W a n Y fits same) ∙ get_or-take a W k 0 l;
      after = λ k l. same_after (a + n) k W (lent W a n Y) (drop_lent W a n Y fits same) l;
    }
  where
    same : length Y ≡ n
    same = ap length e ∙ length_table n f

-- a part that was lent, of which a part was written
pub written_inner : (W : List ℕ) (a m : ℕ) {b n : ℕ} {f : ℕ → ℕ} {Y : List ℕ} → a + m ≤ length W → b + n ≤ m → Written (part a m W) b n f Y
    → Written W (a + b) n f (lent W a m Y)
written_inner W a m {b} {n} {f} {Y} fits low w =
    record {
      same_length = length_lent W a m Y fits same;
      inside = λ i l. ap (at (lent W a m Y)) (omega arith) ∙ at_lent (b + i) (omega (arith, l, low)) ∙ w.inside i l;
      before = λ k l. before k l (dec_lt k a);
      after = λ k l. after k l (dec_lt k (a + m));
    }
  where
    same : length Y ≡ m
    same = w.same_length ∙ length_part a m W fits

    at_lent : (i : ℕ) → i < m → at (lent W a m Y) (a + i) ≡ at Y i
    at_lent i l = sym (at_part a m (lent W a m Y) i l) ∙ ap (λ y. at y i) (part_lent W a m Y fits same)

    -- a place of the part that was not written
    kept : (k : ℕ) → a ≤ k → k < a + m → at Y (k - a) ≡ at (part a m W) (k - a) → at (lent W a m Y) k ≡ at W k
    kept k l h e =
        let place : k ≡ a + (k - a) = omega (arith, l) in
        ap (at (lent W a m Y)) place ∙ at_lent (k - a) (omega (arith, l, h)) ∙ e ∙ at_part a m W (k - a) (omega (arith, l, h)) ∙ ap (at W) (sym place)

    before : (k : ℕ) → k < a + b → Dec (k < a) → at (lent W a m Y) k ≡ at W k
    before k l (yes h) =
        sym (get_or-take a (lent W a m Y) k 0 h) ∙ ap (λ y. at y k) (take_lent W a m Y fits same) ∙ get_or-take a W k 0 h
    before k l (no h) = kept k (omega (arith, h)) (omega (arith, l, low)) (w.before (k - a) (omega (arith, l, h)))

    after : (k : ℕ) → a + b + n ≤ k → Dec (k < a + m) → at (lent W a m Y) k ≡ at W k
    after k l (yes h) = kept k (omega (arith, l)) h (w.after (k - a) (omega (arith, l)))
    after k l (no h) = same_after (a + m) k W (lent W a m Y) (drop_lent W a m Y fits same) (omega (arith, h))
