-- Iterates of a vector in three regions of n places at the front of a slice: r in the first, the iterates in the other two by turns.
--     Seat n a               a is where one of the regions begins
--     Other n from to        the region to write next: neither the first nor that at `from`
--     region_at n i           where the iterate after i products stands: region_first, region_odd, region_even; region_other: the next one
--     Turning                what a product from one region into another asks
--     Prepared               the iterate times X, where the product will read it: copied_part, prepared_none, prepared_other, prepared_first; prepared_turning
--     Advanced               what a product leaves: Horner's step with r; advanced_scaled: with AX, of an iterate that was made ready
--     regions                the lent part has what the step asks
--     advanced, advanced_at      the step within the part that r and its iterates have is that
--     Iterated               the terms of a sequence up to i, and Aⁱr in a region: iterated_none, iterated_more, iterated_from; Sequenced: all of
--                            them, iterated_all; iterated_kept: what stands behind the terms is not asked
--     Applying               Horner's rule down to coefficient i: applying_none, applying_more; Applied: all of it, r replaced, applied_all
--     Generated              the shortest recurrence of a part: generated; found_always: terms that no check turns down have one
--     vector_power, vector_terms, apply_unit      Aⁱv and the terms have elements below p; 1(A)v is v
use Rattle.std.specs.Prelude.{◌≡◌, refl, ◌≢◌, ◌⊎◌, true, cond, List, [], ◌∷◌, Result, Ok, Err, ℕ, zero, suc, ◌+◌, ◌-◌, ◌*◌, ◌%◌, ◌≤◌, ◌<◌, length, take, drop, set, eqb}
use Rattle.std.proofs.Common.{sym, ap, ap₂, ◌∙◌, subst, inl, inr, zero-add, add-zero, one-mul, mod-eq_of_lt, eq-or-lt_of_le, add-one, arith, length-set, get_or-set_same, get_or-set_other, get_or-take, take-take, eq-eqb, ne_eqb}
use Rattle.std.proofs.Math.Decide.{ℕ_discrete}
use Rattle.std.specs.Result.{result_unwrap_or}
use Rattle.std.proofs.lemmas.List.{take-set-le}
use Rattle.meaning.specs.List.{at, sum, padded}
use Rattle.meaning.specs.Field.{times, is_modulus}
use Rattle.meaning.specs.Matrix.{Matrix, size, product, power, apply, scaled, diagonal}
use Rattle.meaning.specs.Recurrence.{degree, generator}
use Rattle.meaning.specs.Solver.{dot, terms}
use Rattle.laws.specs.List.{length_none, table_of}
use Rattle.bridge.specs.Scaled.{length_diagonal, diagonal_none}
use Rattle.residue.specs.Prime.{Prime, is_modulus_Prime}
use Rattle.laws.specs.Recurrence.{monic_leading, degree_within, length_generator}
use Rattle.bridge.specs.Recurrence.{is_shortest}
use Rattle.checks.specs.Valid.{Valid, Vector}
use Rattle.laws.specs.Written.{Written}
use Rattle.laws.specs.Part.{part, Apart, length_part, at_part, part_ext, written_part}
use Rattle.laws.specs.Part as region
use Rattle.wiedemann.specs.Region.{Regions}
use Rattle.wiedemann.specs.Horner.{step, step_at, table_step, step_product, step_scaled, vector_diagonal, power_zero, power_suc, apply_one, apply_cons, vector_product}
use Rattle.checks.specs.Valid.{vector_table}
use Rattle.refusal.specs.declared.Refusal.{Refusal}
use Rattle.recurrence.specs.Recurrence.{HoldsGenerator, terms_refusal, Generates}
use Rattle.laws.specs.Lent.{part_at, part_cons, part_of_part, lent, length_lent, take_lent, part_lent, inner_lent, written_lent, same_take, same_after, written_take, written_drop, written_inner, take_padded}

pub data Seat (n a : ℕ) : Type 0 where
  origin : a ≡ 0 → Seat n a
  odd : a ≡ n → Seat n a
  even : a ≡ 2 * n → Seat n a

pub seat_low : {n a : ℕ} → Seat n a → a ≤ 2 * n
seat_low (origin e) = omega (arith, e)
seat_low (odd e) = omega (arith, e)
seat_low (even e) = omega (arith, e)

pub record Other (n from to : ℕ) : Type 0 where
  pub seat : Seat n to
  pub high : n ≤ to
  pub low : to ≤ 2 * n
  pub apart : Apart to n from n

-- r at the front, the others by turns behind it
unfoldable pub region_at : ℕ → ℕ → ℕ
region_at n i = cond (eqb i 0) 0 (cond (eqb (i % 2) 1) n (2 * n))

pub region_first : (n : ℕ) → region_at n 0 ≡ 0
unfolding region_at
region_first n = refl

pub region_odd : (n i : ℕ) → i % 2 ≡ 1 → region_at n i ≡ n
unfolding region_at
region_odd n i e =
    ap (λ t. cond t 0 (cond (eqb (i % 2) 1) n (2 * n))) (ne_eqb i 0 (λ z. omega (arith, e, z))) ∙ ap (λ t. cond t n (2 * n)) (eq-eqb (i % 2) 1 e)

pub region_even : (n i : ℕ) → i ≢ 0 → i % 2 ≢ 1 → region_at n i ≡ 2 * n
unfolding region_at
region_even n i l e =
    ap (λ t. cond t 0 (cond (eqb (i % 2) 1) n (2 * n))) (ne_eqb i 0 l) ∙ ap (λ t. cond t n (2 * n)) (ne_eqb (i % 2) 1 e)

region_high : (n i : ℕ) → 0 < i → n ≤ region_at n i
region_high n i some = go (ℕ_discrete (i % 2) 1)
  where
    go : Dec (i % 2 ≡ 1) → n ≤ region_at n i
    go (yes e) = omega (arith, region_odd n i e)
    go (no e) = omega (arith, region_even n i (λ z. omega (arith, z, some)) e)

pub region_other : (n i : ℕ) → Other n (region_at n i) (region_at n (i + 1))
region_other n i = go (ℕ_discrete i 0) (ℕ_discrete (i % 2) 1)
  where
    to_odd : i % 2 ≢ 1 → Apart n n (region_at n i) n → Other n (region_at n i) (region_at n (i + 1))
    to_odd e apart =
        let here = region_odd n (i + 1) (omega (arith, e)) in
        record {
          seat = odd here;
          high = omega (arith, here);
          low = omega (arith, here);
          apart = subst (λ a. Apart a n (region_at n i) n) (sym here) apart;
        }

    go : Dec (i ≡ 0) → Dec (i % 2 ≡ 1) → Other n (region_at n i) (region_at n (i + 1))
    go (yes e) q =
        let there = ap (region_at n) e ∙ region_first n in
        to_odd (λ z. omega (arith, e, z)) (region.after (omega (arith, there)))
    go (no l) (yes e) =
        let there = region_odd n i e in
        let here = region_even n (i + 1) (λ z. omega (arith, z)) (λ z. omega (arith, e, z)) in
        record {
          seat = even here;
          high = omega (arith, here);
          low = omega (arith, here);
          apart = region.after (omega (arith, here, there));
        }
    go (no l) (no e) =
        let there = region_even n i l e in
        to_odd e (region.before (omega (arith, there)))

pub record Turning (p n from : ℕ) (W : List ℕ) : Type 0 where
  pub seat : Seat n from
  pub room : 3 * n ≤ length W
  pub elements : Vector p n (part from n W)

pub record Advanced (p : ℕ) (A : Matrix) (c : ℕ) (W : List ℕ) (from : ℕ) (W' : List ℕ) (to : ℕ) : Type 0 where
  pub seat : Seat (size A) to
  pub same_length : length W' ≡ length W
  pub front : take (size A) W' ≡ take (size A) W
  pub rest : drop (3 * size A) W' ≡ drop (3 * size A) W
  pub holds : part to (size A) W' ≡ step p A c (part 0 (size A) W) (part from (size A) W)

pub record Prepared (p n i : ℕ) (X W : List ℕ) (place : ℕ) (W' : List ℕ) : Type 0 where
  pub seat : Seat n place
  pub other : Other n place (region_at n (i + 1))
  pub same_length : length W' ≡ length W
  pub front : take n W' ≡ take n W
  pub rest : drop (3 * n) W' ≡ drop (3 * n) W
  pub holds : part place n W' ≡ diagonal p X (part (region_at n i) n W)

-- ---- an iterate made ready for its product

-- a part that was lent and written
scaled_lent : (W : List ℕ) (a n : ℕ) (Y : List ℕ) → a + n ≤ length W → length Y ≡ n → Written W a n (at Y) (lent W a n Y)
scaled_lent W a n Y fits long = written_lent W a n (at Y) Y fits (table_of 0 Y n (at Y) long (λ i l. refl))

-- an iterate that was copied to the last region
pub copied_part : {p n from idle : ℕ} {W W₁ : List ℕ} → Turning p n from W → idle ≡ 2 * n → Written W idle n (λ k. at W (from + k)) W₁ → part idle n W₁ ≡ part from n W
copied_part {p} {n} {from} {idle} {W} {W₁} t seat w =
    written_part W idle n (λ k. at W (from + k)) W₁ (omega (arith, t.room, seat)) w
    ∙ sym (table_of 0 (part from n W) n (λ k. at W (from + k)) t.elements.places (λ k l. at_part from n W k l))

module _ {p n i : ℕ} {X W : List ℕ} (t : Turning p n (region_at n i) W) where
  -- no scales
  pub prepared_none : {place : ℕ} → place ≡ region_at n i → length X ≡ 0 → Prepared p n i X W place W
  prepared_none {place} e none =
      subst (λ k. Prepared p n i X W k W) (sym e)
      (record {
        seat = t.seat;
        other = region_other n i;
        same_length = refl;
        front = refl;
        rest = refl;
        holds =
            sym (ap (λ Y. diagonal p Y (part (region_at n i) n W)) (length_none X none)
            ∙ diagonal_none p (part (region_at n i) n W) (λ k l. t.elements.below k (omega (arith, l, t.elements.places))));
      })

  -- an iterate in its place
  pub prepared_other : {place : ℕ} → place ≡ region_at n i → 0 < i → Prepared p n i X W place (lent W place n (diagonal p X (part place n W)))
  prepared_other {place} e some =
      subst (λ k. Prepared p n i X W k (lent W k n (diagonal p X (part k n W)))) (sym e)
      (record {
        seat = t.seat;
        other = region_other n i;
        same_length = whole.same_length;
        front = written_take n high (omega (arith, t.room)) whole;
        rest = written_drop (3 * n) (omega (arith, seat_low t.seat)) whole;
        holds = part_lent W from n Y fits long;
      })
    where
      from : ℕ
      from = region_at n i

      Y : List ℕ
      Y = diagonal p X (part from n W)

      fits : from + n ≤ length W
      fits = omega (arith, t.room, seat_low t.seat)

      long : length Y ≡ n
      long = length_diagonal p X (part from n W) ∙ t.elements.places

      high : n ≤ from
      high = region_high n i some

      whole : Written W from n (at Y) (lent W from n Y)
      whole = scaled_lent W from n Y fits long

  -- r, copied to the region that is idle then
  pub prepared_first : {from idle : ℕ} {W₁ : List ℕ} → i ≡ 0 → from ≡ region_at n i → idle ≡ 2 * n → Written W idle n (λ k. at W (from + k)) W₁
      → Prepared p n i X W idle (lent W₁ idle n (diagonal p X (part idle n W₁)))
  prepared_first {from} {idle} {W₁} first e seat w =
      record {
        seat = even seat;
        other =
            record {
              seat = odd to;
              high = omega (arith, to);
              low = omega (arith, to);
              apart = region.before (omega (arith, to, seat));
            };
        same_length = whole.same_length ∙ w.same_length;
        front =
            written_take n (omega (arith, seat)) (omega (arith, t.room, w.same_length)) whole
            ∙ written_take n (omega (arith, seat)) (omega (arith, t.room)) w;
        rest = written_drop (3 * n) (omega (arith, seat)) whole ∙ written_drop (3 * n) (omega (arith, seat)) w;
        holds = part_lent W₁ idle n Y fits long ∙ ap (diagonal p X) (copied_part (subst (λ k. Turning p n k W) (sym e) t) seat w ∙ ap (λ k. part k n W) e);
      }
    where
      to : region_at n (i + 1) ≡ n
      to = region_odd n (i + 1) (omega (arith, first))

      fits : idle + n ≤ length W₁
      fits = omega (arith, t.room, seat, w.same_length)

      Y : List ℕ
      Y = diagonal p X (part idle n W₁)

      long : length Y ≡ n
      long = length_diagonal p X (part idle n W₁) ∙ length_part idle n W₁ fits

      whole : Written W₁ idle n (at Y) (lent W₁ idle n Y)
      whole = scaled_lent W₁ idle n Y fits long

-- what the product asks then
pub prepared_turning : {p n i : ℕ} {X W : List ℕ} {place : ℕ} {W' : List ℕ} → 0 < p → Turning p n (region_at n i) W → Prepared p n i X W place W' → Turning p n place W'
prepared_turning {p} {n} {i} {X} {W} {place} {W'} l t h =
    record {
      seat = h.seat;
      room = omega (arith, t.room, h.same_length);
      elements = subst (Vector p n) (sym h.holds) (vector_diagonal p X (part (region_at n i) n W) l t.elements);
    }

pub advanced_scaled : {p : ℕ} {A : Matrix} {X : List ℕ} {i c place to : ℕ} {W W₁ W₂ : List ℕ} → Prepared p (size A) i X W place W₁ → Advanced p A c W₁ place W₂ to
    → Advanced p (scaled p A X) c W (region_at (size A) i) W₂ to
advanced_scaled {p} {A} {X} {i} {c} {place} {to} {W} {W₁} {W₂} h a =
    record {
      seat = a.seat;
      same_length = a.same_length ∙ h.same_length;
      front = a.front ∙ h.front;
      rest = a.rest ∙ h.rest;
      holds =
          a.holds ∙ ap₂ (step p A c) h.front h.holds
          ∙ sym (step_scaled p A X c (part 0 (size A) W) (part (region_at (size A) i) (size A) W));
    }

-- r and its iterates are lent, as a part of m = 3n places
pub advanced : {p : ℕ} {A : Matrix} {c from to : ℕ} {W : List ℕ} (m : ℕ) {Y : List ℕ} → m ≡ 3 * size A → Turning p (size A) from W
    → Other (size A) from to → Written (part 0 m W) to (size A) (step_at p A c (part 0 (size A) (part 0 m W)) (part from (size A) (part 0 m W))) Y
    → Advanced p A c W from (lent W 0 m Y) to
advanced {p} {A} {c} {from} {to} {W} m {Y} e t o w =
    record {
      seat = o.seat;
      same_length = whole.same_length;
      front = written_take (size A) o.high (omega (arith, t.room)) whole;
      rest = written_drop (3 * size A) (omega (arith, o.low)) whole;
      holds =
          written_part W to (size A) (step_at p A c (part 0 (size A) W) (part from (size A) W)) (lent W 0 m Y) (omega (arith, t.room, o.low)) whole
          ∙ sym (table_step p A c (part 0 (size A) W) (part from (size A) W));
    }
  where
    fits : 0 + m ≤ length W
    fits = omega (arith, t.room, e)

    origin_of : part 0 (size A) (part 0 m W) ≡ part 0 (size A) W
    origin_of = part_of_part 0 (size A) 0 m W (omega (arith, e)) fits

    source_of : part from (size A) (part 0 m W) ≡ part from (size A) W
    source_of =
        part_of_part from (size A) 0 m W (omega (arith, e, seat_low t.seat)) fits ∙ part_at W (0 + from) (size A) from (size A) (zero-add from) refl

    whole : Written W to (size A) (step_at p A c (part 0 (size A) W) (part from (size A) W)) (lent W 0 m Y)
    whole =
        subst (λ a. Written W a (size A) (step_at p A c (part 0 (size A) W) (part from (size A) W)) (lent W 0 m Y)) (zero-add to)
        (written_inner W 0 m fits (omega (arith, e, o.low))
        (subst (λ v. Written (part 0 m W) to (size A) (step_at p A c (part 0 (size A) W) v) Y) source_of
        (subst (λ x. Written (part 0 m W) to (size A) (step_at p A c x (part from (size A) (part 0 m W))) Y) origin_of w)))

-- the regions by their other names
pub advanced_at : {p : ℕ} {A : Matrix} {c from from' to to' : ℕ} {W W' : List ℕ} → from ≡ from' → to ≡ to' → Advanced p A c W from W' to
    → Advanced p A c W from' W' to'
advanced_at {p} {A} {c} {from} {from'} {to} {to'} {W} {W'} e f a =
    subst (λ k. Advanced p A c W k W' to') e (subst (λ k. Advanced p A c W from W' k) f a)

pub vector_power : (p : ℕ) (A : Matrix) (i : ℕ) (v : List ℕ) → 0 < p → Vector p (size A) v → Vector p (size A) (power p A i v)
vector_power p A zero v l h = rw (power_zero p A v) h
vector_power p A (suc i) v l h = rw (power_suc p A i v) (vector_product p A (power p A i v) l)

-- ---- the terms of a sequence

pub record Iterated (p : ℕ) (A : Matrix) (u W : List ℕ) (i from : ℕ) (W' : List ℕ) : Type 0 where
  pub seat : Seat (size A) from
  pub same_length : length W' ≡ length W
  pub front : take (size A) W' ≡ take (size A) W
  pub holds : part from (size A) W' ≡ power p A i (part 0 (size A) W)
  pub terms : (k : ℕ) → k ≤ i → at W' (3 * size A + k) ≡ dot p u (power p A k (part 0 (size A) W))

pub record Sequenced (p : ℕ) (A : Matrix) (left : ℕ) (u W W' : List ℕ) : Type 0 where
  pub same_length : length W' ≡ length W
  pub front : take (size A) W' ≡ take (size A) W
  pub terms : part (3 * size A) (2 * left) W' ≡ terms p A left u (part 0 (size A) W)

part_set : (a n : ℕ) (W : List ℕ) (i v : ℕ) → a + n ≤ i → a + n ≤ length W → part a n (set W i v) ≡ part a n W
part_set a n W i v l k =
    part_ext a n (set W i v) W (omega (arith, length-set W i v, k)) k (λ j h. get_or-set_other W i (a + j) v 0 (λ q. omega (arith, q, l, h)))

pub iterated_none : (p : ℕ) (A : Matrix) (u W : List ℕ) (v : ℕ) → 3 * size A < length W → v ≡ dot p u (part 0 (size A) W)
    → Iterated p A u W 0 0 (set W (3 * size A + 0) v)
iterated_none p A u W v l e =
    record {
      seat = origin refl;
      same_length = length-set W (3 * size A + 0) v;
      front = take-set-le (size A) W (3 * size A + 0) v (omega arith);
      holds = part_set 0 (size A) W (3 * size A + 0) v (omega arith) (omega (arith, l)) ∙ sym (power_zero p A (part 0 (size A) W));
      terms = λ k h. go k (omega (arith, h));
    }
  where
    go : (k : ℕ) → k ≡ 0 → at (set W (3 * size A + 0) v) (3 * size A + k) ≡ dot p u (power p A k (part 0 (size A) W))
    go k q =
        ap (λ m. at (set W (3 * size A + 0) v) (3 * size A + m)) q ∙ get_or-set_same W (3 * size A + 0) v 0 (omega (arith, l)) ∙ e
        ∙ ap (dot p u) (sym (power_zero p A (part 0 (size A) W)) ∙ ap (λ m. power p A m (part 0 (size A) W)) (sym q))

pub iterated_more : {p : ℕ} {A : Matrix} {u W : List ℕ} {i from to : ℕ} {W₁ W₂ : List ℕ} (j v : ℕ) → j ≡ i + 1 → Iterated p A u W i from W₁
    → Advanced p A 0 W₁ from W₂ to → 3 * size A + j < length W → v ≡ dot p u (part to (size A) W₂) → Iterated p A u W j to (set W₂ (3 * size A + j) v)
iterated_more {p} {A} {u} {W} {i} {from} {to} {W₁} {W₂} j v following w a below e =
    subst (λ k. Iterated p A u W k to (set W₂ (3 * size A + k) v)) (sym following)
    (record {
      seat = a.seat;
      same_length = length-set W₂ (n3 + (i + 1)) v ∙ long;
      front = take-set-le n W₂ (n3 + (i + 1)) v (omega arith) ∙ a.front ∙ w.front;
      holds = part_set to n W₂ (n3 + (i + 1)) v (omega (arith, seat_low a.seat)) (omega (arith, seat_low a.seat, long, l)) ∙ next;
      terms = λ k h. go k (eq-or-lt_of_le h);
    })
  where
    l : 3 * size A + (i + 1) < length W
    l = omega (arith, below, following)

    n : ℕ
    n = size A

    n3 : ℕ
    n3 = 3 * size A

    long : length W₂ ≡ length W
    long = a.same_length ∙ w.same_length

    next : part to n W₂ ≡ power p A (i + 1) (part 0 n W)
    next =
        a.holds ∙ step_product p A (part 0 n W₁) (part from n W₁) ∙ ap (product p A) w.holds
        ∙ sym (ap (λ m. power p A m (part 0 n W)) (add-one i) ∙ power_suc p A i (part 0 n W))

    go : (k : ℕ) → (k ≡ i + 1) ⊎ (k < i + 1) → at (set W₂ (n3 + (i + 1)) v) (n3 + k) ≡ dot p u (power p A k (part 0 n W))
    go k (inl q) =
        ap (λ m. at (set W₂ (n3 + (i + 1)) v) (n3 + m)) q ∙ get_or-set_same W₂ (n3 + (i + 1)) v 0 (omega (arith, long, l)) ∙ e
        ∙ ap (dot p u) (next ∙ ap (λ m. power p A m (part 0 n W)) (sym q))
    go k (inr q) =
        get_or-set_other W₂ (n3 + (i + 1)) (n3 + k) v 0 (λ r. omega (arith, r, q)) ∙ same_after n3 (n3 + k) W₁ W₂ a.rest (omega arith) ∙ w.terms k (omega (arith, q))

pub vector_terms : (p : ℕ) (A : Matrix) (left : ℕ) (u r : List ℕ) → 0 < p → Vector p (2 * left) (terms p A left u r)
unfolding terms dot
vector_terms p A left u r l =
    vector_table p (2 * left) (λ i. sum (length (power p A i r)) (λ k. at u k * at (power p A i r) k)) l

pub iterated_all : {p : ℕ} {A : Matrix} {u W : List ℕ} {i from : ℕ} {W' : List ℕ} (left : ℕ) → i + 1 ≡ 2 * left → 3 * size A + 2 * left ≤ length W
    → Iterated p A u W i from W' → Sequenced p A left u W W'
unfolding terms
iterated_all {p} {A} {u} {W} {i} {from} {W'} left e l w =
    record {
      same_length = w.same_length;
      front = w.front;
      terms =
          table_of 0 (part (3 * size A) (2 * left) W') (2 * left) (λ k. dot p u (power p A k (part 0 (size A) W)))
          (length_part (3 * size A) (2 * left) W' (omega (arith, l, w.same_length)))
          (λ k h. at_part (3 * size A) (2 * left) W' k h ∙ w.terms k (omega (arith, h, e)));
    }

-- where the slice began otherwise, but for r
pub iterated_from : {p : ℕ} {A : Matrix} {u W W₁ : List ℕ} {i from : ℕ} {W' : List ℕ} → length W ≡ length W₁ → take (size A) W ≡ take (size A) W₁
    → Iterated p A u W i from W' → Iterated p A u W₁ i from W'
iterated_from {p} {A} {u} {W} {W₁} {i} {from} {W'} e f w =
    record {
      seat = w.seat;
      same_length = w.same_length ∙ e;
      front = w.front ∙ f;
      holds = w.holds ∙ ap (power p A i) f;
      terms = λ k h. w.terms k h ∙ ap (λ r. dot p u (power p A k r)) f;
    }

-- what stands behind the terms may change
pub iterated_kept : {p : ℕ} {A : Matrix} {u W : List ℕ} {i from : ℕ} {W₁ W₂ : List ℕ} (m : ℕ) → 3 * size A + i < m → m ≤ length W₁
    → length W₂ ≡ length W₁ → take m W₂ ≡ take m W₁ → Iterated p A u W i from W₁ → Iterated p A u W i from W₂
iterated_kept {p} {A} {u} {W} {i} {from} {W₁} {W₂} m l fits same front w =
    record {
      seat = w.seat;
      same_length = same ∙ w.same_length;
      front = same_take 0 (size A) m W₁ W₂ (omega (arith, l)) fits same front ∙ w.front;
      holds = same_take from (size A) m W₁ W₂ (omega (arith, l, seat_low w.seat)) fits same front ∙ w.holds;
      terms = λ k h. same_at (3 * size A + k) (omega (arith, l, h)) ∙ w.terms k h;
    }
  where
    same_at : (k : ℕ) → k < m → at W₂ k ≡ at W₁ k
    same_at k h = sym (get_or-take m W₂ k 0 h) ∙ ap (λ x. at x k) front ∙ get_or-take m W₁ k 0 h

-- ---- Horner's rule

pub record Applying (p : ℕ) (A : Matrix) (W : List ℕ) (f t i from : ℕ) (W' : List ℕ) : Type 0 where
  pub seat : Seat (size A) from
  pub same_length : length W' ≡ length W
  pub front : take (size A) W' ≡ take (size A) W
  pub rest : drop (3 * size A) W' ≡ drop (3 * size A) W
  pub holds : part from (size A) W' ≡ apply p A (part (f + i) (t + 1 - i) W) (part 0 (size A) W)

pub record Applied (p : ℕ) (A : Matrix) (W : List ℕ) (f t : ℕ) (W' : List ℕ) : Type 0 where
  pub same_length : length W' ≡ length W
  pub rest : drop (3 * size A) W' ≡ drop (3 * size A) W
  pub holds : part 0 (size A) W' ≡ apply p A (part f (t + 1) W) (part 0 (size A) W)

-- what Horner's rule asks: a leading coefficient 1 further up than the three regions
pub record Leading (p n : ℕ) (W : List ℕ) (f t : ℕ) : Type 0 where
  pub above : 3 * n ≤ f
  pub room : f + t < length W
  pub one : at W (f + t) ≡ 1
  pub elements : Vector p n (part 0 n W)

pub apply_unit : (p : ℕ) (A : Matrix) (v : List ℕ) → Vector p (size A) v → apply p A (1 ∷ []) v ≡ v
unfolding times
apply_unit p A v h =
    apply_one p A 1 v
    ∙ sym (table_of 0 v (size A) (λ j. times p 1 (at v j)) h.places (λ j l. sym (ap (λ x. x % p) (one-mul (at v j)) ∙ mod-eq_of_lt (h.below j l))))

pub applying_none : {p : ℕ} {A : Matrix} {W : List ℕ} {f t : ℕ} → Leading p (size A) W f t → Applying p A W f t t 0 W
applying_none {p} {A} {W} {f} {t} h =
    record {
      seat = origin refl;
      same_length = refl;
      front = refl;
      rest = refl;
      holds = sym (ap (λ g. apply p A g (part 0 (size A) W)) leading ∙ apply_unit p A (part 0 (size A) W) h.elements);
    }
  where
    leading : part (f + t) (t + 1 - t) W ≡ 1 ∷ []
    leading = part_at W (f + t) (t + 1 - t) (f + t) 1 refl (omega arith) ∙ part_cons (f + t) 0 W h.room ∙ ap (λ x. x ∷ []) h.one

pub applying_more : {p : ℕ} {A : Matrix} {W : List ℕ} {f t i from to : ℕ} {W₁ W₂ : List ℕ} (c : ℕ) → Valid p A → Leading p (size A) W f t
    → Applying p A W f t (i + 1) from W₁ → i < t → c ≡ at W₁ (f + i) → Advanced p A c W₁ from W₂ to → Applying p A W f t i to W₂
applying_more {p} {A} {W} {f} {t} {i} {from} {to} {W₁} {W₂} c valid h w l e a =
    record {
      seat = a.seat;
      same_length = a.same_length ∙ w.same_length;
      front = a.front ∙ w.front;
      rest = a.rest ∙ w.rest;
      holds =
          a.holds ∙ ap (λ d. step p A d (part 0 n W₁) (part from n W₁)) (e ∙ coefficient)
          ∙ ap₂ (step p A (at W (f + i))) w.front w.holds
          ∙ sym (apply_cons p A valid (at W (f + i)) (part (f + (i + 1)) (t + 1 - (i + 1)) W) (part 0 n W))
          ∙ ap (λ g. apply p A g (part 0 n W)) (sym split);
    }
  where
    n : ℕ
    n = size A

    coefficient : at W₁ (f + i) ≡ at W (f + i)
    coefficient = same_after (3 * n) (f + i) W W₁ w.rest (omega (arith, h.above))

    split : part (f + i) (t + 1 - i) W ≡ at W (f + i) ∷ part (f + (i + 1)) (t + 1 - (i + 1)) W
    split =
        part_at W (f + i) (t + 1 - i) (f + i) (suc (t + 1 - (i + 1))) refl (omega (arith, l)) ∙ part_cons (f + i) (t + 1 - (i + 1)) W (omega (arith, l, h.room))
        ∙ ap (λ g. at W (f + i) ∷ g) (part_at W (suc (f + i)) (t + 1 - (i + 1)) (f + (i + 1)) (t + 1 - (i + 1)) (omega arith) refl)

-- the result copied to r's place, in the part that was lent
pub applied_all : {p : ℕ} {A : Matrix} {W : List ℕ} {f t from : ℕ} {W₁ : List ℕ} (m : ℕ) {Y : List ℕ} → m ≡ 3 * size A → 3 * size A ≤ length W
    → Applying p A W f t 0 from W₁ → Written (part 0 m W₁) 0 (size A) (λ i. at (part 0 m W₁) (from + i)) Y → Applied p A W f t (lent W₁ 0 m Y)
applied_all {p} {A} {W} {f} {t} {from} {W₁} m {Y} e l w c =
    record {
      same_length = whole.same_length ∙ w.same_length;
      rest = written_drop (3 * size A) (omega arith) whole ∙ w.rest;
      holds =
          written_part W₁ 0 (size A) (λ i. at (part 0 m W₁) (from + i)) (lent W₁ 0 m Y) (omega (arith, l, w.same_length)) whole
          ∙ sym (table_of 0 (part from (size A) W₁) (size A) (λ i. at (part 0 m W₁) (from + i)) (length_part from (size A) W₁ (omega (arith, l, w.same_length, low))) same)
          ∙ w.holds ∙ ap (λ g. apply p A g (part 0 (size A) W)) (part_at W (f + 0) (t + 1 - 0) f (t + 1) (add-zero f) (omega arith));
    }
  where
    low : from ≤ 2 * size A
    low = seat_low w.seat

    whole : Written W₁ 0 (size A) (λ i. at (part 0 m W₁) (from + i)) (lent W₁ 0 m Y)
    whole = written_inner W₁ 0 m (omega (arith, l, e, w.same_length)) (omega (arith, e)) c

    same : (i : ℕ) → i < size A → at (part from (size A) W₁) i ≡ at (part 0 m W₁) (from + i)
    same i k = at_part from (size A) W₁ i k ∙ sym (at_part 0 m W₁ (from + i) (omega (arith, e, k, low)) ∙ ap (at W₁) (zero-add (from + i)))

-- ---- terms, recurrence and f(A)r

pub record Generated (p : ℕ) (W : List ℕ) (from count : ℕ) (W' : List ℕ) (t : ℕ) : Type 0 where
  pub same_length : length W' ≡ length W
  pub before : take from W' ≡ take from W
  pub answer : t ≡ degree p (part from count W)
  pub short : t ≤ count
  pub f : part (from + (count + 2)) (t + 1) W' ≡ generator p (part from count W)
  pub monic : at W' (from + (count + 2) + t) ≡ 1

pub found_always : {p count : ℕ} {W W' : List ℕ} (r : Result ℕ Refusal) → terms_refusal p count W ≡ 0 → Generates p count W r W'
    → HoldsGenerator p count W W' (result_unwrap_or r 0)
found_always (Ok t) z g = g.1
found_always (Err r) z g = absurd (g.1 (sym g.0 ∙ z))

pub generated : (p : ℕ) (W : List ℕ) (from count m : ℕ) (Y : List ℕ) (t : ℕ) → is_modulus p ≡ true → m ≡ 4 * count + 8 → from + m ≤ length W
    → length Y ≡ m → HoldsGenerator p count (part from m W) Y t → Generated p W from count (lent W from m Y) t
unfolding degree
generated p W from count m Y t modulus e l same found =
    record {
      same_length = length_lent W from m Y l same;
      before = take_lent W from m Y l same;
      answer = answer;
      short = short;
      f = f;
      monic =
          sym (at_part (from + (count + 2)) (t + 1) (lent W from m Y) t (omega arith)) ∙ ap (λ g. at g t) f ∙ ap (at (generator p s)) answer
          ∙ monic_leading p (degree p s) (generator p s) (is_shortest p prime s).monic;
    }
  where
    prime : Prime p
    prime = is_modulus_Prime p modulus

    s : List ℕ
    s = part from count W

    sized : length s ≡ count
    sized = length_part from count W (omega (arith, l, e))

    terms_of : take count (part from m W) ≡ s
    terms_of = take-take count m (drop from W) (omega (arith, e))

    answer : t ≡ degree p s
    answer = found.answer ∙ ap (degree p) terms_of

    short : t ≤ count
    short = omega (arith, answer, degree_within p prime.two_le s, sized)

    f : part (from + (count + 2)) (t + 1) (lent W from m Y) ≡ generator p s
    f =
        inner_lent W from m Y l same (count + 2) (t + 1) (omega (arith, short, e))
        ∙ sym (take-take (t + 1) (count + 2) (drop (count + 2) Y) (omega (arith, short)))
        ∙ ap (take (t + 1)) found.f
        ∙ ap (λ g. take (t + 1) (padded (count + 2) g)) (ap (generator p) terms_of)
        ∙ ap (λ k. take k (padded (count + 2) (generator p s))) (sym long)
        ∙ take_padded (count + 2) (generator p s) (omega (arith, long, short))
      where
        long : length (generator p s) ≡ t + 1
        long = length_generator p s ∙ ap (λ k. k + 1) (sym answer)

-- r and its iterates are lent, as a part of m = 3n places
pub regions : {p n from to : ℕ} {W : List ℕ} (m : ℕ) → m ≡ 3 * n → Turning p n from W → Other n from to → Regions p n 0 from to (part 0 m W)
regions {p} {n} {from} {to} {W} m e t o =
    record {
      origin_fits = omega (arith, long, e);
      source_fits = omega (arith, long, e, seat_low t.seat);
      target_fits = omega (arith, long, e, o.low);
      origin_apart = region.after (omega (arith, o.high));
      source_apart = o.apart;
      elements =
          λ i l.
          subst (λ x. x < p)
          (at_part from n W i l ∙ sym (at_part 0 m W (from + i) (omega (arith, l, e, seat_low t.seat)) ∙ ap (at W) (zero-add (from + i))))
          (t.elements.below i l);
    }
  where
    long : length (part 0 m W) ≡ m
    long = length_part 0 m W (omega (arith, t.room, e))
