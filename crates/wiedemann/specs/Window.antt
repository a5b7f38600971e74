-- A pass with a window, request (v) (src/window.rt): terms and steps by turns in the slice from r on, and the test of f(A)r.
--     due_by w z L            a test is due, by how many of the last discrepancies were 0 and by L
--     Room                   r, its iterates and the recurrence's part lie in the slice
--     Zeros p s r z          of the discrepancies for 1 to r the last z are 0, and the one before is not: zeros_none_yet, zeros_more, zeros_broken, zeros_first
--     due_zeros              .. so a test is due by it
--     Follows                the steps' register after r terms, which stand in the slice, and the zeros
--     Begun                  before the first: begun_lent, begun_never
--     ToStep, StepMade       what the step for r asks and leaves: step_never, step_lent
--     never_refused          a call of the steps whose refusal would have the number 0
--     ToHear, Hears          .. a term and its step: to_step, hears
--     Listening              what is known after some terms: those of the sequence, the iterate, and what follows from them:
--                            listening_first, listening_to_hear, listening_next, listening_from
--     listening_terms, listening_due, listening_degree, listening_generator, listening_one      the terms; whether a test is due; L, f and q's first coefficient
--     Unasked, Listened      where the terms stop: a test is due, or all are there: listened_test, listened_none, listened_all,
--                            listened_from, unasked_first, unasked_more, unasked_none
--     Turned, turned_at       q in reverse order, and r replaced by f(A)r: turned_leading; as a polynomial: turned_f, turned_residual
--     Finished, finished     the end of a pass with all terms
--     Tried                  the test: copied_one, copied_part, copied_vector, tried_zero, tried_again
-- and, in the slice that begins with the test's places, of what was heard in its part from r on:
--     Returned               .. which was lent for it, and came back: returned_length
--     heard_residual, heard_generator, heard_one, heard_degree, heard_low      r, f and L
--     heard_again, heard_room, heard_vector      what the rest of the pass asks, where that part is as it was
--     finished_shortened, window_whole, window_on, window_early                the pass as it ends: with all terms, without a test or with one that failed; early
use Rattle.std.specs.Prelude.{Result, Ok, Err, IsOk, ◌≡◌, refl, ◌≢◌, ◌⊎◌, Bool, true, false, cond, not, ◌&&◌, eqb, ltb, leb, take, drop, set}
use Rattle.std.proofs.Math.Path.{sym, ap, ap₂}
use Rattle.std.proofs.Common.{◌∙◌, subst, inl, inr, true≢false, add-zero, mod-lt, eq-or-lt_of_le, arith, length-set, get_or-take, get_or-drop, get_or-set_same, get_or-set_other, length-take-le, take-take, take_all, eqb-true, eq-eqb, ne_eqb, leb-true, le-leb, lt-ltb}
use Rattle.std.proofs.Math.Bool.{and-true}
use mathlib.Core.List.{List, []}
use Prim.Native.Nat.{ℕ, zero, suc, ◌+◌, ◌-◌, ◌*◌, ◌≤◌, ◌<◌}
use Rattle.std.proofs.Math.Decide.{dec_lt, ℕ_discrete}
use Rattle.std.proofs.Math.ListN.{length, get_or-eq_default}
use Rattle.std.proofs.Math.Seq.{ext_get_or}
use Rattle.std.proofs.lemmas.Bool.{lt-leb, not-false}
use Rattle.meaning.specs.List.{at, table, all, is_zero}
use Rattle.meaning.specs.Field.{is_modulus}
use Rattle.meaning.specs.Matrix.{Matrix, size, power, apply}
use Rattle.meaning.specs.Refusal.{first}
use Rattle.meaning.specs.Recurrence.{Steps, discrepancy, steps, reversed, degree, generator}
use Rattle.meaning.specs.Solver.{dot, terms, due, test_at}
use Rattle.laws.specs.Bool.{and_left, and_right, and_both, and_false_left, and_false_right, same_test, never}
use Rattle.laws.specs.Least.{least_is, least_none}
use Rattle.laws.specs.List.{all_at, all_of, get_or_table, table_ext, table_of}
use Rattle.laws.specs.Written.{Written}
use Rattle.laws.specs.Part.{part, length_part, at_part, part_ext, written_part, written_other}
use Rattle.laws.specs.Part as region
use Rattle.laws.specs.Lent.{lent, length_lent, take_lent, part_lent, inner_lent, part_at, part_of_part, same_take, same_drop, take_ext, drop_ext, same_after, written_take, written_drop}
use Rattle.laws.specs.Recurrence.{discrepancy_of, discrepancy_first, steps_first, steps_regular, monic_leading}
use Rattle.laws.specs.Solver.{length_terms}
use Rattle.residue.specs.Prime.{Prime, is_modulus_Prime, is_modulus_le}
use Rattle.bridge.specs.Recurrence.{is_shortest}
use Rattle.checks.specs.Valid.{Valid, Vector}
use Rattle.checks.specs.Products.{products_with, added, products_next}
use Rattle.checks.specs.declared.Products.{Products}
use Rattle.recurrence.specs.declared.steps.Register.{Register}
use Rattle.refusal.specs.declared.Refusal.{Refusal}
use Rattle.recurrence.specs.Recurrence.{room_checks, room_to, Reversed}
use Rattle.recurrence.specs.Steps.{FollowsSteps, times_power, represented, Places, Laid, MakesStep}
use Rattle.recurrence.specs.OneStep.{step_refusal, Answers, Started, Starts, StepsOn, step_taken}
use Rattle.wiedemann.specs.declared.window.Heard.{Heard}
use Rattle.wiedemann.specs.declared.pass.Pass.{Pass as CodePass}
use Rattle.wiedemann.specs.Turns.{Seat, origin, region_at, region_first, Turning, Advanced, Iterated, iterated_none, iterated_more, iterated_kept, iterated_from, vector_power, Leading, Applied}
use Rattle.wiedemann.specs.Horner.{vector_step}
use Rattle.wiedemann.specs.Pass.{passed, Rule, rule_whole, rule_early, rule_on, Shortened, shortened_lent}

abbrev pub due_by : ℕ → ℕ → ℕ → Bool
due_by w z L = leb 1 w && leb w z && leb 1 L

pub record Room (n left : ℕ) (W : List ℕ) : Type 0 where
  pub sized : n ≤ 4096
  pub low : left ≤ 4096
  pub room : 3 * n + (8 * left + 8) ≤ length W

-- the polynomial of degree L whose coefficients stand from f on in reverse order
abbrev pub turned_at : List ℕ → ℕ → ℕ → List ℕ
turned_at W f L = table (L + 1) (λ i. at W (f + (L - i)))

-- ---- discrepancies that were 0

pub record Zeros (p : ℕ) (s : List ℕ) (r z : ℕ) : Type 0 where
  pub few : z ≤ r
  pub zero : (k : ℕ) → k < z → discrepancy_of p s (r - k) ≡ 0
  pub last : z < r → discrepancy_of p s (r - z) ≢ 0

-- d of j is that of the first r terms
of_first : (p : ℕ) (s : List ℕ) (r j : ℕ) → 0 < j → j ≤ r → discrepancy_of p (take r s) j ≡ discrepancy_of p s j
of_first p s r j low high =
    ap (λ c. discrepancy p (take r s) j c) (steps_first p s r (j - 1) (omega arith)) ∙ discrepancy_first p s r j (steps p s (j - 1)) low high

pub zeros_none_yet : (p : ℕ) (s : List ℕ) → Zeros p s 0 0
zeros_none_yet p s =
    record { few = omega arith; zero = λ k l. absurd (omega arith); last = λ l. absurd (omega arith) }

pub zeros_first : {p r z : ℕ} (s : List ℕ) → Zeros p (take r s) r z → Zeros p s r z
zeros_first {p} {r} {z} s h =
    record {
      few = h.few;
      zero = λ k l. sym (of_first p s r (r - k) (omega (arith, l, h.few)) (omega arith)) ∙ h.zero k l;
      last = λ l e. h.last l (of_first p s r (r - z) (omega (arith, l)) (omega arith) ∙ e);
    }

module _ {p r z : ℕ} (s : List ℕ) (h : Zeros p (take r s) r z) where
  here : Zeros p s r z
  here = zeros_first s h

  pub zeros_more : discrepancy_of p s (r + 1) ≡ 0 → Zeros p s (r + 1) (z + 1)
  zeros_more e =
      record {
        few = omega (arith, here.few);
        zero = λ k l. go k l;
        last = λ l q. here.last (omega arith) (ap (discrepancy_of p s) (omega arith) ∙ q);
      }
    where
      go : (k : ℕ) → k < z + 1 → discrepancy_of p s (r + 1 - k) ≡ 0
      go zero l = ap (discrepancy_of p s) (omega arith) ∙ e
      go (suc k) l = ap (discrepancy_of p s) (omega arith) ∙ here.zero k (omega arith)

  pub zeros_broken : discrepancy_of p s (r + 1) ≢ 0 → Zeros p s (r + 1) 0
  zeros_broken e =
      record { few = omega arith; zero = λ k l. absurd (omega arith); last = λ l q. e (ap (discrepancy_of p s) (omega arith) ∙ q) }

due_never : (p w : ℕ) (s : List ℕ) → due p w s 0 ≡ false
unfolding due
due_never p zero s = refl
due_never p (suc w) s = and_false_left _ (and_false_left _ (and_false_right (leb 1 (suc w)) (lt-leb (suc w) 0 (omega arith))))

pub due_zeros : {p r z L : ℕ} {s : List ℕ} (w : ℕ) → Zeros p s r z → (steps p s r).L ≡ L → due p w s r ≡ due_by w z L
unfolding due
due_zeros {p} {r} {z} {L} {s} w h e =
    same_test (leb 1 w && leb w r && leb 1 (steps p s r).L && all w test) (due_by w z L)
    (λ t. let three = and_left (leb 1 w && leb w r && leb 1 (steps p s r).L) (all w test) t in
    let two = and_left (leb 1 w && leb w r) (leb 1 (steps p s r).L) three in
    let some = and_left (leb 1 w) (leb w r) two in
    let many = leb-true w r (and_right (leb 1 w) (leb w r) two) in
    and_both (and_both some (le-leb w z (low many (and_right (leb 1 w && leb w r && leb 1 (steps p s r).L) (all w test) t) (dec_lt z w))))
    (subst (λ x. leb 1 x ≡ true) e (and_right (leb 1 w && leb w r) (leb 1 (steps p s r).L) three)))
    (λ t. let two = and_left (leb 1 w && leb w z) (leb 1 L) t in
    let many = leb-true w z (and_right (leb 1 w) (leb w z) two) in
    and_both
    (and_both (and_both (and_left (leb 1 w) (leb w z) two) (le-leb w r (omega (arith, many, h.few))))
    (subst (λ x. leb 1 x ≡ true) (sym e) (and_right (leb 1 w && leb w z) (leb 1 L) t)))
    (all_of w test (λ k l. eq-eqb (discrepancy_of p s (r - k)) 0 (h.zero k (omega (arith, l, many))))))
  where
    test : ℕ → Bool
    test k = eqb (discrepancy_of p s (r - k)) 0

    low : w ≤ r → all w test ≡ true → Dec (z < w) → w ≤ z
    low many each (no a) = omega arith
    low many each (yes a) = absurd (h.last (omega arith) (eqb-true (discrepancy_of p s (r - z)) 0 (all_at w test each z a)))

-- ---- the steps in the recurrence's part

pub record Follows (p n left r : ℕ) (W : List ℕ) (c : Register) (z : ℕ) : Type 0 where
  pub steps : FollowsSteps p (part (3 * n) r W) r c.d (represented (2 * left) (part (3 * n) (8 * left + 8) W) c)
  pub laid : Laid p (2 * left) r c
  pub zeros : Zeros p (part (3 * n) r W) r z

pub record Begun (p n left : ℕ) (W : List ℕ) (c : Register) (W' : List ℕ) : Type 0 where
  pub follows : Follows p n left 0 W' c 0
  pub same_length : length W' ≡ length W
  pub front : take (3 * n) W' ≡ take (3 * n) W

pub record ToStep (p n left r : ℕ) (W : List ℕ) (c : Register) : Type 0 where
  pub low : 0 < r
  pub high : r ≤ 2 * left
  pub terms : Vector p r (part (3 * n) r W)
  pub steps : FollowsSteps p (part (3 * n) (r - 1) W) (r - 1) c.d (represented (2 * left) (part (3 * n) (8 * left + 8) W) c)
  pub laid : Laid p (2 * left) (r - 1) c

pub record StepMade (p n left r : ℕ) (W : List ℕ) (c' : Register) (W' : List ℕ) : Type 0 where
  pub steps : FollowsSteps p (part (3 * n) r W) r c'.d (represented (2 * left) (part (3 * n) (8 * left + 8) W') c')
  pub laid : Laid p (2 * left) r c'
  pub same_length : length W' ≡ length W
  pub front : take (3 * n + (2 * left + 2)) W' ≡ take (3 * n + (2 * left + 2)) W

-- what a call of the steps answers
answered : (number : ℕ) (Left : Register → Type 0) (W : List ℕ) {a : Result Register Refusal} (W' : List ℕ) {c : Register} → a ≡ Ok c → Answers number Left W a W' → Left c
answered number Left W W' is h = (subst (λ x. Answers number Left W x W') is h).1

pub never_refused : (number : ℕ) (Left : Register → Type 0) (W : List ℕ) (a : Result Register Refusal) (W' : List ℕ) → Answers number Left W a W' → number ≡ 0 → IsOk a
never_refused number Left W (Ok c) W' h z = refl
never_refused number Left W (Err r) W' h z = absurd (h.1 (sym h.0 ∙ z))

-- the part of m places that is lent to the steps
module _ (p n left : ℕ) (W : List ℕ) (m : ℕ) (e : m ≡ 8 * left + 8) (fits : 3 * n + m ≤ length W) where
  abbrev T : List ℕ
  T = part (3 * n) m W

  size_T : length T ≡ m
  size_T = length_part (3 * n) m W fits

  first_of : (r : ℕ) → r ≤ m → take r T ≡ part (3 * n) r W
  first_of r l = take-take r m (drop (3 * n) W) l

  whole : part (3 * n) (8 * left + 8) W ≡ T
  whole = part_at W (3 * n) (8 * left + 8) (3 * n) m refl (sym e)

  module _ (Y : List ℕ) (same : length Y ≡ m) where
    abbrev W' : List ℕ
    W' = lent W (3 * n) m Y

    back : part (3 * n) (8 * left + 8) W' ≡ Y
    back = part_at W' (3 * n) (8 * left + 8) (3 * n) m refl (sym e) ∙ part_lent W (3 * n) m Y fits same

    -- a leading part of it that stayed
    front_of : (b : ℕ) → b ≤ m → take b Y ≡ take b T → take (3 * n + b) W' ≡ take (3 * n + b) W
    front_of b l h =
        take_ext (3 * n + b) W W' (omega (arith, l, fits)) (length_lent W (3 * n) m Y fits same) (λ k g. place k g (dec_lt k (3 * n)))
      where
        place : (k : ℕ) → k < 3 * n + b → Dec (k < 3 * n) → at W' k ≡ at W k
        place k g (yes a) =
            sym (get_or-take (3 * n) W' k 0 a) ∙ ap (λ x. at x k) (take_lent W (3 * n) m Y fits same) ∙ get_or-take (3 * n) W k 0 a
        place k g (no a) =
            let i = k - 3 * n in
            let there : 3 * n + i ≡ k = omega arith in
            let low : i < b = omega arith in
            ap (at W') (sym there) ∙ sym (at_part (3 * n) m W' i (omega (arith, low, l)))
            ∙ ap (λ x. at x i) (part_lent W (3 * n) m Y fits same) ∙ sym (get_or-take b Y i 0 low) ∙ ap (λ x. at x i) h
            ∙ get_or-take b T i 0 low ∙ at_part (3 * n) m W i (omega (arith, low, l)) ∙ ap (at W) there

    pub begun_lent : {c : Register} {a : Result Register Refusal} → Starts p (2 * left) (part (3 * n) m W) a Y → a ≡ Ok c → Begun p n left W c (lent W (3 * n) m Y)
    begun_lent {c} h is =
        let made = answered (first (room_checks p (2 * left) T)) (Started p (2 * left) T Y) T Y is h in
        record {
          follows =
              record {
                steps = subst (λ x. FollowsSteps p [] 0 c.d (represented (2 * left) x c)) (sym back) made.follows;
                laid = made.laid;
                zeros = zeros_none_yet p [];
              };
          same_length = length_lent W (3 * n) m Y fits same;
          front = take_lent W (3 * n) m Y fits same;
        }

    pub step_lent : {r : ℕ} {c c' : Register} {a : Result Register Refusal} → ToStep p n left r W c → StepsOn p (2 * left) r (part (3 * n) m W) c a Y → a ≡ Ok c'
        → StepMade p n left r W c' (lent W (3 * n) m Y)
    step_lent {r} {c} {c'} ask h is =
        record {
          steps =
              subst (λ x. FollowsSteps p (part (3 * n) r W) r c'.d (represented (2 * left) x c')) (sym back)
              (subst (λ x. FollowsSteps p x r c'.d (represented (2 * left) Y c')) (first_of r (omega (arith, ask.high, e)))
              (made.follows
              (subst (λ x. FollowsSteps p x (r - 1) c.d (represented (2 * left) T c)) (sym (first_of (r - 1) (omega (arith, ask.high, e))))
              (subst (λ x. FollowsSteps p (part (3 * n) (r - 1) W) (r - 1) c.d (represented (2 * left) x c)) whole ask.steps))));
          laid = made.sound.laid;
          same_length = length_lent W (3 * n) m Y fits same;
          front = front_of (2 * left + 2) (omega (arith, e)) made.stay.same_front;
        }
      where
        made : MakesStep p (2 * left) r T c Y c'
        made = answered (step_refusal p (2 * left) r T c) (MakesStep p (2 * left) r T c Y) T Y is h

  -- a start with room is never refused
  pub begun_never : is_modulus p ≡ true → left ≤ 4096 → first (room_checks p (2 * left) (part (3 * n) m W)) ≡ 0
  begun_never modulus low =
      room_to
      (record { two = (is_modulus_Prime p modulus).two_le; small = is_modulus_le p modulus; few = omega (arith, low); room = omega (arith, size_T, e) })

  -- the steps' own state is never refused
  pub step_never : {r : ℕ} {c : Register} → is_modulus p ≡ true → left ≤ 4096 → ToStep p n left r W c → step_refusal p (2 * left) r (part (3 * n) m W) c ≡ 0
  step_never {r} {c} modulus low ask =
      step_taken (is_modulus_Prime p modulus) ask.low
      (record {
        ready = record {
          two = (is_modulus_Prime p modulus).two_le;
          small = is_modulus_le p modulus;
          few = omega (arith, ask.high, low);
          room = omega (arith, ask.high, size_T, e);
          elements = λ i l. subst (λ x. x < p) (at_part (3 * n) r W i l ∙ sym (at_part (3 * n) m W i (omega (arith, l, ask.high, e)))) (ask.terms.below i l);
        };
        high = ask.high;
        few = omega (arith, low);
        room = omega (arith, size_T, e);
      })
      (subst (λ x. FollowsSteps p x (r - 1) c.d (represented (2 * left) T c)) (sym (first_of (r - 1) (omega (arith, ask.high, e))))
      (subst (λ x. FollowsSteps p (part (3 * n) (r - 1) W) (r - 1) c.d (represented (2 * left) x c)) whole ask.steps))
      ask.laid

-- ---- a term and its step

pub record ToHear (p n left i : ℕ) (W : List ℕ) (c : Register) (z : ℕ) : Type 0 where
  pub below : i < 2 * left
  pub seat : Seat n (region_at n i)
  pub iterate : Vector p n (part (region_at n i) n W)
  pub terms : Vector p i (part (3 * n) i W)
  pub follows : Follows p n left i W c z

pub record Hears (p n left : ℕ) (u : List ℕ) (done : Products) (W : List ℕ) (h : Heard) (W' : List ℕ) : Type 0 where
  pub counted : h.terms ≡ done.made + 1
  pub products : h.done ≡ done
  pub follows : Follows p n left (done.made + 1) W' h.steps h.zeros
  pub same_length : length W' ≡ length W
  pub front : take (3 * n + (2 * left + 2)) W'
      ≡ take (3 * n + (2 * left + 2)) (set W (3 * n + done.made) (dot p u (part (region_at n done.made) n W)))

pub dot_below : (p : ℕ) (u v : List ℕ) → 0 < p → dot p u v < p
unfolding dot
dot_below p u v l = mod-lt _ l

-- q and t stand behind the terms
represented_same : {p count r : ℕ} (T T₁ : List ℕ) {c : Register} → Laid p count r c → drop (count + 2) T₁ ≡ drop (count + 2) T
    → represented count T₁ c ≡ represented count T c
represented_same {p} {count} {r} T T₁ {c} laid e =
    ap₂ {C = Steps} (λ x y. record { q = x; t = times_power c.shift y; L = c.L; e = c.e }) (ap (take (count + 2)) e) (behind laid.places)
  where
    at_offset : (a : ℕ) → c.t ≡ count + 2 + a → part c.t c.held T₁ ≡ part c.t c.held T
    at_offset a k =
        part_at T₁ c.t c.held (count + 2 + a) c.held k refl ∙ same_drop a c.held (count + 2) T T₁ e
        ∙ part_at T (count + 2 + a) c.held c.t c.held (sym k) refl

    behind : Places count c.t c.spare → part c.t c.held T₁ ≡ part c.t c.held T
    behind (inl k) = at_offset (count + 2) (omega (arith, k.0))
    behind (inr k) = at_offset (2 * (count + 2)) (omega (arith, k.0))

-- the term was written
module _ {p n left i : ℕ} {W : List ℕ} {c : Register} {z : ℕ} (prime : Prime p) (room : Room n left W) (ask : ToHear p n left i W c z) (v : ℕ) (below : v < p) where
  abbrev W₁ : List ℕ
  W₁ = set W (3 * n + i) v

  long : length W₁ ≡ length W
  long = length-set W (3 * n + i) v

  -- the terms before it
  earlier : part (3 * n) i W₁ ≡ part (3 * n) i W
  earlier =
      part_ext (3 * n) i W₁ W (omega (arith, long, room.room, ask.below)) (omega (arith, room.room, ask.below))
      (λ k l. get_or-set_other W (3 * n + i) (3 * n + k) v 0 (λ q. omega (arith, q, l)))

  element : (k : ℕ) → (k ≡ i) ⊎ (k < i) → at W₁ (3 * n + k) < p
  element k (inl q) = subst (λ x. x < p) (sym (ap (λ j. at W₁ (3 * n + j)) q ∙ get_or-set_same W (3 * n + i) v 0 (omega (arith, room.room, ask.below)))) below
  element k (inr l) =
      subst (λ x. x < p)
      (at_part (3 * n) i W k l ∙ sym (get_or-set_other W (3 * n + i) (3 * n + k) v 0 (λ q. omega (arith, q, l)))) (ask.terms.below k l)

  behind : drop (2 * left + 2) (part (3 * n) (8 * left + 8) W₁) ≡ drop (2 * left + 2) (part (3 * n) (8 * left + 8) W)
  behind =
      drop_ext (2 * left + 2) (part (3 * n) (8 * left + 8) W) (part (3 * n) (8 * left + 8) W₁)
      (length_part (3 * n) (8 * left + 8) W₁ (omega (arith, long, room.room)) ∙ sym size)
      (λ k l. place k l (dec_lt k (8 * left + 8)))
    where
      size : length (part (3 * n) (8 * left + 8) W) ≡ 8 * left + 8
      size = length_part (3 * n) (8 * left + 8) W room.room

      place : (k : ℕ) → 2 * left + 2 ≤ k → Dec (k < 8 * left + 8) → at (part (3 * n) (8 * left + 8) W₁) k ≡ at (part (3 * n) (8 * left + 8) W) k
      place k l (yes h) =
          at_part (3 * n) (8 * left + 8) W₁ k h ∙ get_or-set_other W (3 * n + i) (3 * n + k) v 0 (λ q. omega (arith, q, l, ask.below))
          ∙ sym (at_part (3 * n) (8 * left + 8) W k h)
      place k l (no h) =
          get_or-eq_default (part (3 * n) (8 * left + 8) W₁) 0 {n = k}
          (omega (arith, h, length_part (3 * n) (8 * left + 8) W₁ (omega (arith, long, room.room))))
          ∙ sym (get_or-eq_default (part (3 * n) (8 * left + 8) W) 0 {n = k} (omega (arith, h, size)))

  pub to_step : ToStep p n left (i + 1) (set W (3 * n + i) v) c
  to_step =
      let e : i ≡ i + 1 - 1 = omega arith in
      record {
        low = omega arith;
        high = omega (arith, ask.below);
        terms =
            record {
              places = length_part (3 * n) (i + 1) W₁ (omega (arith, long, room.room, ask.below));
              below = λ k l. subst (λ x. x < p) (sym (at_part (3 * n) (i + 1) W₁ k l)) (element k (eq-or-lt_of_le {n = k} {m = i} (omega (arith, l))));
            };
        steps =
            subst (λ j. FollowsSteps p (part (3 * n) j W₁) j c.d (represented (2 * left) (part (3 * n) (8 * left + 8) W₁) c)) e
            (subst (λ x. FollowsSteps p (part (3 * n) i W₁) i c.d x) (sym (represented_same (part (3 * n) (8 * left + 8) W) (part (3 * n) (8 * left + 8) W₁) ask.follows.laid behind))
            (subst (λ s. FollowsSteps p s i c.d (represented (2 * left) (part (3 * n) (8 * left + 8) W) c)) (sym earlier) ask.follows.steps));
        laid = subst (λ j. Laid p (2 * left) j c) e ask.follows.laid;
      }

  module _ {c' : Register} {W₂ : List ℕ} (made : StepMade p n left (i + 1) (set W (3 * n + i) v) c' W₂) where
    -- the terms are still there
    same_terms : part (3 * n) (i + 1) W₂ ≡ part (3 * n) (i + 1) W₁
    same_terms =
        same_take (3 * n) (i + 1) (3 * n + (2 * left + 2)) W₁ W₂ (omega (arith, ask.below)) (omega (arith, long, room.room)) made.same_length made.front

    found : c'.d ≡ discrepancy_of p (part (3 * n) (i + 1) W₁) (i + 1)
    found = made.steps.d (omega arith)

    before : Zeros p (take i (part (3 * n) (i + 1) W₁)) i z
    before =
        subst (λ s. Zeros p s i z) (sym (take-take i (i + 1) (drop (3 * n) W₁) (omega arith) ∙ earlier)) ask.follows.zeros

    counted : Dec (c'.d ≡ 0) → Zeros p (part (3 * n) (i + 1) W₁) (i + 1) (cond (eqb c'.d 0) (z + 1) 0)
    counted (yes q) =
        subst (λ b. Zeros p (part (3 * n) (i + 1) W₁) (i + 1) (cond b (z + 1) 0)) (sym (eq-eqb c'.d 0 q))
        (zeros_more (part (3 * n) (i + 1) W₁) before (sym found ∙ q))
    counted (no q) =
        subst (λ b. Zeros p (part (3 * n) (i + 1) W₁) (i + 1) (cond b (z + 1) 0)) (sym (ne_eqb c'.d 0 q))
        (zeros_broken (part (3 * n) (i + 1) W₁) before (λ y. q (found ∙ y)))

    pub follows_step : Follows p n left (i + 1) W₂ c' (cond (eqb c'.d 0) (z + 1) 0)
    follows_step =
        record {
          steps = subst (λ s. FollowsSteps p s (i + 1) c'.d (represented (2 * left) (part (3 * n) (8 * left + 8) W₂) c')) (sym same_terms) made.steps;
          laid = made.laid;
          zeros = subst (λ s. Zeros p s (i + 1) (cond (eqb c'.d 0) (z + 1) 0)) (sym same_terms) (counted (ℕ_discrete c'.d 0));
        }

pub room_as : {n left : ℕ} {W W' : List ℕ} → length W' ≡ length W → Room n left W → Room n left W'
room_as e room = record { sized = room.sized; low = room.low; room = omega (arith, room.room, e) }

pub hears : {p n left : ℕ} {u : List ℕ} {done : Products} {W : List ℕ} {before : Register} {z : ℕ} {W₁ : List ℕ} {h : Heard} {W₂ : List ℕ} → Prime p → Room n left W
    → ToHear p n left done.made W before z → W₁ ≡ set W (3 * n + done.made) (dot p u (part (region_at n done.made) n W))
    → StepMade p n left (done.made + 1) W₁ h.steps W₂ → h.terms ≡ done.made + 1 → h.done ≡ done → h.zeros ≡ cond (eqb h.steps.d 0) (z + 1) 0
    → Hears p n left u done W h W₂
hears {p} {n} {left} {u} {done} {W} {before} {z} {W₁} {h} {W₂} prime room ask written made terms products zeros =
    record {
      counted = terms;
      products = products;
      follows =
          subst (Follows p n left (done.made + 1) W₂ h.steps) (sym zeros)
          (follows_step prime room ask v (dot_below p u (part (region_at n done.made) n W) (omega (arith, prime.two_le))) step);
      same_length = step.same_length ∙ length-set W (3 * n + done.made) v;
      front = step.front;
    }
  where
    v : ℕ
    v = dot p u (part (region_at n done.made) n W)

    step : StepMade p n left (done.made + 1) (set W (3 * n + done.made) v) h.steps W₂
    step = subst (λ x. StepMade p n left (done.made + 1) x h.steps W₂) written made

-- ---- the terms of the sequence

pub record Listening (p : ℕ) (A : Matrix) (left : ℕ) (u X : List ℕ) (h : Heard) (W : List ℕ) : Type 0 where
  pub counted : h.terms ≡ h.done.made + 1
  pub high : h.terms ≤ 2 * left
  pub products : h.done ≡ products_with h.done.made A
  pub iterated : Iterated p A u X h.done.made (region_at (size A) h.done.made) W
  pub follows : Follows p (size A) left h.terms W h.steps h.zeros

pub listening_from : {p : ℕ} {A : Matrix} {left : ℕ} {u X X₁ : List ℕ} {h : Heard} {W : List ℕ} → length X ≡ length X₁ → take (size A) X ≡ take (size A) X₁
    → Listening p A left u X h W → Listening p A left u X₁ h W
listening_from e f l =
    record { counted = l.counted; high = l.high; products = l.products; iterated = iterated_from e f l.iterated; follows = l.follows }

-- what the next product asks
pub listening_turning : {p : ℕ} {A : Matrix} {left : ℕ} {u W : List ℕ} {h : Heard} → Valid p A → Room (size A) left W → Vector p (size A) (part 0 (size A) W)
    → Listening p A left u W h W → Turning p (size A) (region_at (size A) h.done.made) W
listening_turning {p} {A} {left} {u} {W} {h} valid room v l =
    record {
      seat = l.iterated.seat;
      room = omega (arith, room.room);
      elements = subst (Vector p (size A)) (sym l.iterated.holds) (vector_power p A h.done.made (part 0 (size A) W) valid.positive v);
    }

-- nothing heard yet
pub begun_to_hear : {p n left : ℕ} {W : List ℕ} {c : Register} {W₁ : List ℕ} → 0 < left → Room n left W → Vector p n (part 0 n W)
    → Begun p n left W c W₁ → ToHear p n left 0 W₁ c 0
begun_to_hear {p} {n} {left} {W} {c} {W₁} some room v b =
    record {
      below = omega (arith, some);
      seat = origin (region_first n);
      iterate =
          subst (λ k. Vector p n (part k n W₁)) (sym (region_first n))
          (subst (Vector p n) (sym (same_take 0 n (3 * n) W W₁ (omega arith) (omega (arith, room.room)) b.same_length b.front)) v);
      terms = record { places = refl; below = λ k l. absurd (omega arith) };
      follows = b.follows;
    }

pub listening_first : {p : ℕ} {A : Matrix} {left : ℕ} {u W : List ℕ} {c : Register} {W₁ : List ℕ} {done : Products} {h : Heard} {W₂ : List ℕ} → 0 < left → Room (size A) left W
    → Begun p (size A) left W c W₁ → done.made ≡ 0 → done ≡ products_with done.made A → Hears p (size A) left u done W₁ h W₂
    → Listening p A left u W h W₂ × (h.terms ≡ 1)
listening_first {p} {A} {left} {u} {W} {c} {W₁} {done} {h} {W₂} some room b none counted a = (
  record {
    counted = a.counted ∙ ap (λ (x : Products). x.made + 1) (sym a.products);
    high = omega (arith, a.counted, none, some);
    products = subst (λ x. x ≡ products_with x.made A) (sym a.products) counted;
    iterated =
        subst (λ x. Iterated p A u W x.made (region_at n x.made) W₂) (sym a.products)
        (subst (λ k. Iterated p A u W k (region_at n k) W₂) (sym none)
        (subst (λ k. Iterated p A u W 0 k W₂) (sym (region_first n))
        (iterated_from b.same_length (same_take 0 n (3 * n) W W₁ (omega arith) (omega (arith, room.room)) b.same_length b.front)
        (iterated_kept (3 * n + (2 * left + 2)) (omega (arith, some)) (omega (arith, room.room, b.same_length, length-set W₁ (3 * n + 0) v))
        (a.same_length ∙ sym (length-set W₁ (3 * n + 0) v)) first
        (iterated_none p A u W₁ v (omega (arith, room.room, b.same_length)) refl)))));
    follows = subst (λ r. Follows p n left r W₂ h.steps h.zeros) (sym a.counted) a.follows;
  },
  a.counted ∙ omega (arith, none),
)
  where
    n : ℕ
    n = size A

    v : ℕ
    v = dot p u (part 0 (size A) W₁)

    first : take (3 * n + (2 * left + 2)) W₂ ≡ take (3 * n + (2 * left + 2)) (set W₁ (3 * n + 0) v)
    first =
        a.front
        ∙ ap₂ (λ k x. take (3 * n + (2 * left + 2)) (set W₁ (3 * n + k) (dot p u (part x n W₁)))) none (ap (region_at n) none ∙ region_first n)

module _ {p : ℕ} {A : Matrix} {left : ℕ} {u W : List ℕ} {h : Heard} (valid : Valid p A) (room : Room (size A) left W) (v : Vector p (size A) (part 0 (size A) W))
    (l : Listening p A left u W h W) (more : h.terms < 2 * left) {done : Products} (next : done ≡ added h.done (products_with 1 A))
    {W₁ : List ℕ} (a : Advanced p A 0 W (region_at (size A) h.done.made) W₁ (region_at (size A) done.made)) where
  abbrev rows : ℕ
  rows = size A

  made : done.made ≡ h.done.made + 1
  made = ap (λ (x : Products). x.made) next

  same : done.made ≡ h.terms
  same = omega (arith, made, l.counted)

  pub listening_to_hear : ToHear p (size A) left done.made W₁ h.steps h.zeros
  listening_to_hear =
      record {
        below = omega (arith, same, more);
        seat = a.seat;
        iterate = subst (Vector p rows) (sym a.holds) (vector_step p A 0 (part 0 rows W) (part (region_at rows h.done.made) rows W) valid.positive);
        terms =
            record {
              places = length_part (3 * rows) done.made W₁ (omega (arith, a.same_length, room.room, same, more));
              below = λ k b.
                  subst (λ x. x < p)
                  (sym (at_part (3 * rows) done.made W₁ k b ∙ rest k ∙ l.iterated.terms k (omega (arith, b, made))))
                  (dot_below p u (power p A k (part 0 rows W)) valid.positive);
            };
        follows =
            subst (λ r. Follows p rows left r W₁ h.steps h.zeros) (sym same)
            (record {
              steps =
                  subst (λ x. FollowsSteps p (take h.terms x) h.terms h.steps.d (represented (2 * left) (take (8 * left + 8) x) h.steps)) (sym a.rest) l.follows.steps;
              laid = l.follows.laid;
              zeros = subst (λ x. Zeros p (take h.terms x) h.terms h.zeros) (sym a.rest) l.follows.zeros;
            });
      }
    where
      rest : (k : ℕ) → at W₁ (3 * rows + k) ≡ at W (3 * rows + k)
      rest k = sym (get_or-drop (3 * rows) W₁ k 0) ∙ ap (λ x. at x k) a.rest ∙ get_or-drop (3 * rows) W k 0

  pub listening_next : {h' : Heard} {W₂ : List ℕ} → Hears p (size A) left u done W₁ h' W₂ → Listening p A left u W h' W₂ × (h'.terms ≡ h.terms + 1)
  listening_next {h'} {W₂} b = (
    record {
      counted = b.counted ∙ ap (λ (x : Products). x.made + 1) (sym b.products);
      high = omega (arith, b.counted, same, more);
      products = subst (λ x. x ≡ products_with x.made A) (sym b.products) (products_next A l.products next);
      iterated =
          subst (λ x. Iterated p A u W x.made (region_at rows x.made) W₂) (sym b.products)
          (iterated_kept (3 * rows + (2 * left + 2)) (omega (arith, same, more))
          (omega (arith, length-set W₁ (3 * rows + done.made) value, a.same_length, room.room))
          (b.same_length ∙ sym (length-set W₁ (3 * rows + done.made) value)) b.front
          (iterated_more done.made value made l.iterated a (omega (arith, same, more, room.room)) refl));
      follows = subst (λ r. Follows p rows left r W₂ h'.steps h'.zeros) (sym b.counted) b.follows;
    },
    b.counted ∙ omega (arith, same),
  )
    where
      value : ℕ
      value = dot p u (part (region_at rows done.made) rows W₁)

-- ---- what is known after some terms

module _ {p : ℕ} {A : Matrix} {left : ℕ} {u X : List ℕ} {h : Heard} {W : List ℕ} (prime : Prime p) (room : Room (size A) left W) (l : Listening p A left u X h W) where
  abbrev n : ℕ
  n = size A

  abbrev r : ℕ
  r = h.terms

  abbrev s : List ℕ
  s = terms p A left u (part 0 (size A) X)

  length_s : length s ≡ 2 * left
  length_s = length_terms p A left u (part 0 n X)

  pub listening_terms : part (3 * size A) h.terms W ≡ take h.terms (terms p A left u (part 0 (size A) X))
  unfolding terms
  listening_terms =
      ext_get_or 0 (part (3 * n) r W) (take r s) (size ∙ sym (length-take-le r s (omega (arith, length_s, l.high))))
      (λ k a. let b : k < r = omega (arith, a, size) in
      at_part (3 * n) r W k b ∙ l.iterated.terms k (omega (arith, b, l.counted))
      ∙ sym (get_or-take r s k 0 b ∙ get_or_table (2 * left) (λ i. dot p u (power p A i (part 0 n X))) k 0 (omega (arith, b, l.high))))
    where
      size : length (part (3 * n) r W) ≡ r
      size = length_part (3 * n) r W (omega (arith, room.room, l.high))

  followed : FollowsSteps p (take r s) r h.steps.d (represented (2 * left) (part (3 * n) (8 * left + 8) W) h.steps)
  followed = subst (λ x. FollowsSteps p x r h.steps.d (represented (2 * left) (part (3 * n) (8 * left + 8) W) h.steps)) listening_terms l.follows.steps

  pub listening_due : (w : ℕ) → due p w (terms p A left u (part 0 (size A) X)) h.terms ≡ due_by w h.zeros h.steps.L
  listening_due w =
      due_zeros w (zeros_first s (subst (λ x. Zeros p x r h.zeros) listening_terms l.follows.zeros))
      (sym (followed.same.L ∙ ap (λ x. x.L) (steps_first p s r r (omega arith))))

  size_first : length (take r s) ≡ r
  size_first = length-take-le r s (omega (arith, length_s, l.high))

  pub listening_degree : degree p (take h.terms (terms p A left u (part 0 (size A) X))) ≡ h.steps.L
  unfolding degree
  listening_degree = ap (λ k. (steps p (take r s) k).L) size_first ∙ sym followed.same.L

  pub listening_low : h.steps.L ≤ h.terms
  listening_low = omega (arith, followed.same.L, (steps_regular p prime.two_le (take r s) r).within)

  -- q's coefficients in the slice
  q_at : (i : ℕ) → i < 2 * left + 2 → at W (3 * n + (2 * left + 2) + i) ≡ at (steps p (take r s) r).q i
  q_at i b =
      let e : 3 * n + (2 * left + 2) + i ≡ 3 * n + (2 * left + 2 + i) = omega arith in
      ap (at W) e ∙ sym (at_part (3 * n) (8 * left + 8) W (2 * left + 2 + i) (omega (arith, b)))
      ∙ sym (at_part (2 * left + 2) (2 * left + 2) (part (3 * n) (8 * left + 8) W) i b) ∙ followed.same.q i

  pub listening_generator : generator p (take h.terms (terms p A left u (part 0 (size A) X))) ≡ turned_at W (3 * size A + (2 * left + 2)) h.steps.L
  unfolding generator reversed
  listening_generator =
      ap₂ (λ L k. table (L + 1) (λ i. at (steps p (take r s) k).q (L - i))) listening_degree size_first
      ∙ table_ext (h.steps.L + 1) (λ i. at (steps p (take r s) r).q (h.steps.L - i)) (λ i. at W (3 * n + (2 * left + 2) + (h.steps.L - i)))
      (λ i b. sym (q_at (h.steps.L - i) (omega (arith, listening_low, l.high))))

  -- f is monic
  pub listening_one : at W (3 * size A + (2 * left + 2)) ≡ 1
  listening_one =
      ap (at W) (omega arith) ∙ sym (get_or_table (L + 1) (λ i. at W (3 * n + (2 * left + 2) + (L - i))) L 0 (omega arith))
      ∙ ap (λ g. at g L) (sym listening_generator) ∙ ap (at (generator p (take r s))) (sym listening_degree)
      ∙ monic_leading p (degree p (take r s)) (generator p (take r s)) (is_shortest p prime (take r s)).monic
    where
      L : ℕ
      L = h.steps.L

-- no test was due before term r
abbrev pub Unasked : ℕ → Matrix → ℕ → ℕ → List ℕ → List ℕ → ℕ → Type 0
Unasked p A left w u v r = (i : ℕ) → i < r → due p w (terms p A left u v) i ≡ false

pub record Listened (p : ℕ) (A : Matrix) (left w : ℕ) (u X : List ℕ) (h : Heard) (W : List ℕ) : Type 0 where
  pub listening : Listening p A left u X h W
  pub stop : ltb h.terms (2 * left) && not (due_by w h.zeros h.steps.L) ≡ false
  pub unasked : Unasked p A left w u (part 0 (size A) X) h.terms

module _ {p : ℕ} {A : Matrix} {left w : ℕ} {u X : List ℕ} {h : Heard} {W : List ℕ} (l : Listened p A left w u X h W) where
  -- where terms are missing a test is due, and it is the first one
  pub listened_test : Prime p → Room (size A) left W → h.terms < 2 * left → test_at p w (terms p A left u (part 0 (size A) X)) ≡ h.terms
  unfolding test_at
  listened_test prime room more =
      least_is (length s) (due p w s) h.terms (omega (arith, more, long)) (listening_due prime room l.listening w ∙ asked) l.unasked
    where
      s : List ℕ
      s = terms p A left u (part 0 (size A) X)

      long : length s ≡ 2 * left
      long = length_terms p A left u (part 0 (size A) X)

      asked : due_by w h.zeros h.steps.L ≡ true
      asked = not-false (due_by w h.zeros h.steps.L) (sym (ap (λ b. b && not (due_by w h.zeros h.steps.L)) (lt-ltb h.terms (2 * left) more)) ∙ l.stop)

  -- where all are there, there was none
  pub listened_none : h.terms ≡ 2 * left → length (terms p A left u (part 0 (size A) X)) ≤ test_at p w (terms p A left u (part 0 (size A) X))
  unfolding test_at
  listened_none all =
      let long = length_terms p A left u (part 0 (size A) X) in
      let s = terms p A left u (part 0 (size A) X) in
      let none = least_none (length s) (due p w s) (λ i b. l.unasked i (omega (arith, b, long, all))) in
      omega (arith, none)

pub unasked_more : (p : ℕ) (A : Matrix) (left w : ℕ) (u v : List ℕ) {r r' : ℕ} → r' ≡ r + 1 → Unasked p A left w u v r → due p w (terms p A left u v) r ≡ false
    → Unasked p A left w u v r'
unasked_more p A left w u v {r} e before now i l = go (eq-or-lt_of_le {n = i} {m = r} (omega (arith, e, l)))
  where
    go : (i ≡ r) ⊎ (i < r) → due p w (terms p A left u v) i ≡ false
    go (inl q) = ap (due p w (terms p A left u v)) q ∙ now
    go (inr b) = before i b

-- without a window all are there
pub listened_all : {p : ℕ} {A : Matrix} {left : ℕ} {u X : List ℕ} {h : Heard} {W : List ℕ} → Listened p A left 0 u X h W → h.terms ≡ 2 * left
listened_all {left} {h} l = go (dec_lt h.terms (2 * left))
  where
    go : Dec (h.terms < 2 * left) → h.terms ≡ 2 * left
    go (no a) = omega (arith, a, l.listening.high)
    go (yes a) = never (ltb h.terms (2 * left)) (lt-ltb h.terms (2 * left) a) (sym (and-true (ltb h.terms (2 * left))) ∙ l.stop)

-- none is due before the first term
pub unasked_first : (p : ℕ) (A : Matrix) (left w : ℕ) (u v : List ℕ) {r : ℕ} → r ≡ 1 → Unasked p A left w u v r
unasked_first p A left w u v e i l = ap (due p w (terms p A left u v)) (omega (arith, e, l)) ∙ due_never p w (terms p A left u v)

pub listened_from : {p : ℕ} {A : Matrix} {left w : ℕ} {u X X₁ : List ℕ} {h : Heard} {W : List ℕ} → length X ≡ length X₁ → take (size A) X ≡ take (size A) X₁
    → Listened p A left w u X h W → Listened p A left w u X₁ h W
listened_from {p} {A} {left} {w} {u} {h} e f l =
    record {
      listening = listening_from e f l.listening;
      stop = l.stop;
      unasked = subst (λ v. Unasked p A left w u v h.terms) f l.unasked;
    }

pub unasked_none : (p : ℕ) (A : Matrix) (left : ℕ) (u v : List ℕ) (r : ℕ) → Unasked p A left 0 u v r
unfolding due
unasked_none p A left u v r i l = refl

-- ---- f(A)r

abbrev pub Turned : ℕ → Matrix → List ℕ → ℕ → ℕ → List ℕ → Type 0
Turned p A W f L W' = (W₁ : List ℕ) × Reversed W f L W₁ × Applied p A W₁ f L W'

module _ (p : ℕ) (A : Matrix) {W W₁ : List ℕ} (f L : ℕ) (above : 3 * size A ≤ f) (inside : f + L < length W) (turn : Reversed W f L W₁) where
  same_front : part 0 (size A) W₁ ≡ part 0 (size A) W
  same_front = written_take (size A) (omega (arith, above)) (omega (arith, above, inside)) turn

  pub turned_leading : at W f ≡ 1 → Vector p (size A) (part 0 (size A) W) → Leading p (size A) W₁ f L
  turned_leading one v =
      record {
        above = above;
        room = omega (arith, inside, turn.same_length);
        one = turn.inside L (omega arith) ∙ ap (at W) (omega arith) ∙ one;
        elements = subst (Vector p (size A)) (sym same_front) v;
      }

  turned_part : part f (L + 1) W₁ ≡ turned_at W f L
  turned_part = written_part W f (L + 1) (λ k. at W (f + (L - k))) W₁ (omega (arith, inside)) turn

  pub turned_f : {W₂ : List ℕ} → Applied p A W₁ f L W₂ → part f (L + 1) W₂ ≡ turned_at W f L
  turned_f {W₂} a =
      let place : f ≡ 3 * size A + (f - 3 * size A) = omega (arith, above) in
      part_at W₂ f (L + 1) (3 * size A + (f - 3 * size A)) (L + 1) place refl
      ∙ same_drop (f - 3 * size A) (L + 1) (3 * size A) W₁ W₂ a.rest
      ∙ part_at W₁ (3 * size A + (f - 3 * size A)) (L + 1) f (L + 1) (sym place) refl ∙ turned_part

  pub turned_residual : {W₂ : List ℕ} → Applied p A W₁ f L W₂ → part 0 (size A) W₂ ≡ apply p A (turned_at W f L) (part 0 (size A) W)
  turned_residual a = a.holds ∙ ap₂ (apply p A) turned_part same_front

-- the end of a pass with all terms, in the slice from r on; k are the products of a test before it
pub record Finished (p : ℕ) (A : Matrix) (left : ℕ) (u : List ℕ) (k : ℕ) (W : List ℕ) (q : CodePass) (W' : List ℕ) : Type 0 where
  pub counted : q ≡ passed A left q.degree (2 * left - 1 + k)
  pub answer : q.degree ≡ degree p (terms p A left u (part 0 (size A) W))
  pub short : q.degree ≤ 2 * left
  pub same_length : length W' ≡ length W
  pub residual : part 0 (size A) W' ≡ apply p A (generator p (terms p A left u (part 0 (size A) W))) (part 0 (size A) W)
  pub f : part (3 * size A + (2 * left + 2)) (q.degree + 1) W' ≡ generator p (terms p A left u (part 0 (size A) W))

pub finished : {p : ℕ} {A : Matrix} {left : ℕ} {u W : List ℕ} {h : Heard} {W₁ W₂ : List ℕ} (k : ℕ) {q : CodePass} → Prime p → Room (size A) left W
    → Listened p A left 0 u W h W₁ → Turned p A W₁ (3 * size A + (2 * left + 2)) h.steps.L W₂ → q.degree ≡ h.steps.L
    → q ≡ passed A left q.degree (2 * left - 1 + k) → Finished p A left u k W q W₂
finished {p} {A} {left} {u} {W} {h} {W₁} {W₂} k {q} prime room l (W', turn, a) degree_is counted =
    record {
      counted = counted;
      answer = degree_is ∙ sym (listening_degree prime room₁ l.listening) ∙ ap (degree p) all;
      short = omega (arith, degree_is, listening_low prime room₁ l.listening, l.listening.high);
      same_length = a.same_length ∙ turn.same_length ∙ long;
      residual = turned_residual p A f₁ h.steps.L above inside turn a ∙ ap₂ (apply p A) generator_is l.listening.iterated.front;
      f = ap (λ d. part f₁ (d + 1) W₂) degree_is ∙ turned_f p A f₁ h.steps.L above inside turn a ∙ generator_is;
    }
  where
    f₁ : ℕ
    f₁ = 3 * size A + (2 * left + 2)

    long : length W₁ ≡ length W
    long = l.listening.iterated.same_length

    room₁ : Room (size A) left W₁
    room₁ = room_as long room

    above : 3 * size A ≤ f₁
    above = omega arith

    inside : f₁ + h.steps.L < length W₁
    inside = omega (arith, room₁.room, listening_low prime room₁ l.listening, l.listening.high)

    all : take h.terms (terms p A left u (part 0 (size A) W)) ≡ terms p A left u (part 0 (size A) W)
    all =
        take_all h.terms (terms p A left u (part 0 (size A) W))
        (omega (arith, listened_all l, length_terms p A left u (part 0 (size A) W)))

    generator_is : turned_at W₁ f₁ h.steps.L ≡ generator p (terms p A left u (part 0 (size A) W))
    generator_is = sym (listening_generator prime room₁ l.listening) ∙ ap (generator p) all

-- a copy of r at the front of the slice that begins with the test's places
pub copied_one : (A : Matrix) (left : ℕ) {W W₁ : List ℕ} → Written W 0 (size A) (λ i. at W (3 * size A + i)) W₁ → at W (6 * size A + (2 * left + 2)) ≡ 1
    → at W₁ (6 * size A + (2 * left + 2)) ≡ 1
copied_one A left copied e = copied.after (6 * size A + (2 * left + 2)) (omega arith) ∙ e

pub copied_part : (A : Matrix) (left : ℕ) {W W₁ : List ℕ} → 6 * size A + (8 * left + 8) ≤ length W → Written W 0 (size A) (λ i. at W (3 * size A + i)) W₁
    → part 0 (size A) W₁ ≡ part (3 * size A) (size A) W
copied_part A left {W} {W₁} room copied =
    written_part W 0 (size A) (λ i. at W (3 * size A + i)) W₁ (omega (arith, room)) copied
    ∙ sym (table_of 0 (part (3 * size A) (size A) W) (size A) (λ i. at W (3 * size A + i)) (length_part (3 * size A) (size A) W (omega (arith, room))) (λ i l. at_part (3 * size A) (size A) W i l))

pub copied_vector : {p : ℕ} (A : Matrix) (left : ℕ) {W W₁ : List ℕ} → 6 * size A + (8 * left + 8) ≤ length W → Written W 0 (size A) (λ i. at W (3 * size A + i)) W₁
    → Vector p (size A) (part (3 * size A) (size A) W) → Vector p (size A) (part 0 (size A) W₁)
copied_vector {p} A left room copied v = subst (Vector p (size A)) (sym (copied_part A left room copied)) v

-- the test, in the slice that begins with its places
pub record Tried (p : ℕ) (A : Matrix) (left L : ℕ) (W : List ℕ) (zero? : Bool) (W' : List ℕ) : Type 0 where
  pub same_length : length W' ≡ length W
  pub answer : zero? ≡ is_zero (apply p A (turned_at W (6 * size A + (2 * left + 2)) L) (part (3 * size A) (size A) W))
  pub found : zero? ≡ true
      → (part (3 * size A) (size A) W' ≡ apply p A (turned_at W (6 * size A + (2 * left + 2)) L) (part (3 * size A) (size A) W))
      × (part (6 * size A + (2 * left + 2)) (L + 1) W' ≡ turned_at W (6 * size A + (2 * left + 2)) L)
  pub failed : zero? ≡ false → drop (3 * size A) W' ≡ drop (3 * size A) W

module _ (p : ℕ) (A : Matrix) (left L : ℕ) {W W₁ W₂ W₃ : List ℕ} (low : L ≤ 2 * left) (room : 6 * size A + (8 * left + 8) ≤ length W)
    (copied : Written W 0 (size A) (λ i. at W (3 * size A + i)) W₁) (turn : Reversed W₁ (6 * size A + (2 * left + 2)) L W₂)
    (a : Applied p A W₂ (6 * size A + (2 * left + 2)) L W₃) where
  abbrev f₀ : ℕ
  f₀ = 6 * size A + (2 * left + 2)

  inside₁ : f₀ + L < length W₁
  inside₁ = omega (arith, low, room, copied.same_length)

  rest₁ : drop (3 * size A) W₁ ≡ drop (3 * size A) W
  rest₁ = written_drop (3 * size A) (omega arith) copied

  turned : turned_at W₁ f₀ L ≡ turned_at W f₀ L
  turned =
      table_ext (L + 1) (λ i. at W₁ (f₀ + (L - i))) (λ i. at W (f₀ + (L - i))) (λ i l. same_after (3 * size A) (f₀ + (L - i)) W W₁ rest₁ (omega arith))

  -- f(A)r at the front
  value : part 0 (size A) W₃ ≡ apply p A (turned_at W f₀ L) (part (3 * size A) (size A) W)
  value = turned_residual p A f₀ L (omega arith) inside₁ turn a ∙ ap₂ (apply p A) turned (copied_part A left room copied)

  polynomial : part f₀ (L + 1) W₃ ≡ turned_at W f₀ L
  polynomial = turned_f p A f₀ L (omega arith) inside₁ turn a ∙ turned

  long₃ : length W₃ ≡ length W
  long₃ = a.same_length ∙ turn.same_length ∙ copied.same_length

  -- r becomes it
  pub tried_zero : {zero? : Bool} {W₄ : List ℕ} → zero? ≡ is_zero (part 0 (size A) W₃) → zero? ≡ true → Written W₃ (3 * size A) (size A) (λ i. at W₃ (0 + i)) W₄ → Tried p A left L W zero? W₄
  tried_zero {W₄ = W₄} said z w =
      record {
        same_length = w.same_length ∙ long₃;
        answer = said ∙ ap is_zero value;
        found = λ _. (
          written_part W₃ (3 * size A) (size A) (λ i. at W₃ (0 + i)) W₄ (omega (arith, room, long₃)) w
              ∙ sym (table_of 0 (part 0 (size A) W₃) (size A) (λ i. at W₃ (0 + i)) (length_part 0 (size A) W₃ (omega (arith, room, long₃))) (λ i l. at_part 0 (size A) W₃ i l)) ∙ value,
          written_other f₀ (L + 1) (omega (arith, long₃, low, room)) (region.before (omega arith)) w ∙ polynomial,
        );
        failed = λ e. absurd (true≢false (sym z ∙ e));
      }

  -- q stands again as it stood
  pub tried_again : {zero? : Bool} {W₄ : List ℕ} → zero? ≡ is_zero (part 0 (size A) W₃) → zero? ≡ false → Reversed W₃ (6 * size A + (2 * left + 2)) L W₄ → Tried p A left L W zero? W₄
  tried_again {W₄ = W₄} said z w =
      record {
        same_length = w.same_length ∙ long₃;
        answer = said ∙ ap is_zero value;
        found = λ e. absurd (true≢false (sym e ∙ z));
        failed = λ _. drop_ext (3 * size A) W W₄ (w.same_length ∙ long₃) (λ k l. place k l (dec_lt k f₀) (dec_lt k (f₀ + (L + 1))));
      }
    where
      -- before the two reversals
      at_rest : (k : ℕ) → 3 * size A ≤ k → at W₃ k ≡ at W₂ k
      at_rest k l = same_after (3 * size A) k W₂ W₃ a.rest l

      first : (k : ℕ) → 3 * size A ≤ k → at W₁ k ≡ at W k
      first k l = same_after (3 * size A) k W W₁ rest₁ l

      twice : (i : ℕ) → i < L + 1 → at W₄ (f₀ + i) ≡ at W (f₀ + i)
      twice i l =
          w.inside i l ∙ at_rest (f₀ + (L - i)) (omega arith) ∙ turn.inside (L - i) (omega arith) ∙ ap (λ j. at W₁ (f₀ + j)) (omega (arith, l)) ∙ first (f₀ + i) (omega arith)

      place : (k : ℕ) → 3 * size A ≤ k → Dec (k < f₀) → Dec (k < f₀ + (L + 1)) → at W₄ k ≡ at W k
      place k l (yes b) c = w.before k b ∙ at_rest k l ∙ turn.before k b ∙ first k l
      place k l (no b) (no c) = w.after k (omega arith) ∙ at_rest k l ∙ turn.after k (omega arith) ∙ first k l
      place k l (no b) (yes c) =
          let e : f₀ + (k - f₀) ≡ k = omega arith in
          ap (at W₄) (sym e) ∙ twice (k - f₀) (omega arith) ∙ ap (at W) e

-- ---- the pass

-- what was heard in the m places from r on, which were lent and hold R₁ now; the slice B begins with the test's places
pub record Returned (p : ℕ) (A : Matrix) (left w : ℕ) (u B : List ℕ) (m : ℕ) (h : Heard) (R₁ : List ℕ) : Type 0 where
  pub prime : Prime p
  pub sized : size A ≤ 4096
  pub low : left ≤ 4096
  pub fits : 3 * size A + m ≤ length B
  pub room : 3 * size A + (8 * left + 8) ≤ m
  pub same_length : length R₁ ≡ m
  pub heard : Listened p A left w u (part (3 * size A) m B) h R₁

module _ {p : ℕ} {A : Matrix} {left w : ℕ} {u B : List ℕ} {m : ℕ} {h : Heard} {R₁ : List ℕ} (known : Returned p A left w u B m h R₁) where
  abbrev at_r : ℕ
  at_r = 3 * size A

  pub returned_length : length (lent B (3 * size A) m R₁) ≡ length B
  returned_length = length_lent B at_r m R₁ known.fits known.same_length

  abbrev B₁ : List ℕ
  B₁ = lent B (3 * size A) m R₁

  abbrev S₁ : List ℕ
  S₁ = terms p A left u (part (3 * size A) (size A) B)

  room_R : Room (size A) left R₁
  room_R = record { sized = known.sized; low = known.low; room = omega (arith, known.room, known.same_length) }

  back_R : part at_r m B₁ ≡ R₁
  back_R = part_lent B at_r m R₁ known.fits known.same_length

  -- r
  first_r : part 0 (size A) (part at_r m B) ≡ part at_r (size A) B
  first_r = part_of_part 0 (size A) at_r m B (omega (arith, known.room)) known.fits ∙ part_at B (at_r + 0) (size A) at_r (size A) (add-zero at_r) refl

  pub heard_residual : part (3 * size A) (size A) (lent B (3 * size A) m R₁) ≡ part (3 * size A) (size A) B
  heard_residual =
      part_at B₁ at_r (size A) (at_r + 0) (size A) (sym (add-zero at_r)) refl ∙ inner_lent B at_r m R₁ known.fits known.same_length 0 (size A) (omega (arith, known.room))
      ∙ known.heard.listening.iterated.front ∙ first_r

  at_B₁ : (k : ℕ) → k < m → at B₁ (at_r + k) ≡ at R₁ k
  at_B₁ k b = sym (at_part at_r m B₁ k b) ∙ ap (λ x. at x k) back_R

  f_low : 3 * size A + (2 * left + 2) + h.steps.L < m
  f_low = omega (arith, known.room, listening_low known.prime room_R known.heard.listening, known.heard.listening.high)

  pub heard_generator : turned_at (lent B (3 * size A) m R₁) (6 * size A + (2 * left + 2)) h.steps.L ≡ generator p (take h.terms (terms p A left u (part (3 * size A) (size A) B)))
  heard_generator =
      table_ext (h.steps.L + 1) (λ i. at B₁ (6 * size A + (2 * left + 2) + (h.steps.L - i))) (λ i. at R₁ (3 * size A + (2 * left + 2) + (h.steps.L - i)))
      (λ i b. ap (at B₁) (omega arith) ∙ at_B₁ (3 * size A + (2 * left + 2) + (h.steps.L - i)) (omega (arith, f_low)))
      ∙ sym (listening_generator known.prime room_R known.heard.listening) ∙ ap (λ v. generator p (take h.terms (terms p A left u v))) first_r

  pub heard_one : at (lent B (3 * size A) m R₁) (6 * size A + (2 * left + 2)) ≡ 1
  heard_one = ap (at B₁) (omega arith) ∙ at_B₁ (3 * size A + (2 * left + 2)) (omega (arith, f_low)) ∙ listening_one known.prime room_R known.heard.listening

  pub heard_degree : degree p (take h.terms (terms p A left u (part (3 * size A) (size A) B))) ≡ h.steps.L
  heard_degree = ap (λ v. degree p (take h.terms (terms p A left u v))) (sym first_r) ∙ listening_degree known.prime room_R known.heard.listening

  pub heard_low : h.steps.L ≤ h.terms
  heard_low = listening_low known.prime room_R known.heard.listening

  -- where the part from r on is as it was; it is lent again, with its length worked out anew
  module _ (B₂ : List ℕ) (m₂ : ℕ) (again : m₂ ≡ m) (rest : drop (3 * size A) B₂ ≡ drop (3 * size A) (lent B (3 * size A) m R₁)) where
    part_R : part at_r m₂ B₂ ≡ R₁
    part_R = part_at B₂ at_r m₂ at_r m refl again ∙ ap (take m) rest ∙ back_R

    r₂ : part 0 (size A) (part at_r m₂ B₂) ≡ part at_r (size A) B
    r₂ = ap (part 0 (size A)) part_R ∙ known.heard.listening.iterated.front ∙ first_r

    pub heard_again : Listening p A left u (part (3 * size A) m₂ B₂) h (part (3 * size A) m₂ B₂)
    heard_again =
        subst (λ x. Listening p A left u x h x) (sym part_R)
        (listening_from (sym known.heard.listening.iterated.same_length) (sym known.heard.listening.iterated.front) known.heard.listening)

    pub heard_room : Room (size A) left (part (3 * size A) m₂ B₂)
    heard_room = subst (Room (size A) left) (sym part_R) room_R

    pub heard_vector : Vector p (size A) (part (3 * size A) (size A) B) → Vector p (size A) (part 0 (size A) (part (3 * size A) m₂ B₂))
    heard_vector v = subst (Vector p (size A)) (sym r₂) v

    -- .. on the part alone
    narrow : (k : ℕ) {q : CodePass} {Y : List ℕ} → length Y ≡ m
        → Rule p A w u left (part (3 * size A) (size A) B) (terms p A left u (part (3 * size A) (size A) B)) (2 * left - 1 + k)
        → Finished p A left u k (part (3 * size A) m₂ B₂) q Y → Shortened p A w u left 0 0 (part (3 * size A) m B) q Y
    narrow k {q} {Y} same-Y rule d =
        record {
          taken = S₁;
          made = 2 * left - 1 + k;
          rule = subst (λ v. Rule p A w u left v S₁ (2 * left - 1 + k)) (sym first_r) rule;
          counted = d.counted;
          same_length = same-Y ∙ sym (length_part at_r m B known.fits);
          front = refl;
          answer = d.answer ∙ ap (λ v. degree p (terms p A left u v)) r₂;
          short = d.short;
          residual = d.residual ∙ ap₂ (apply p A) (ap (λ v. generator p (terms p A left u v)) r₂) (r₂ ∙ sym first_r);
          f =
              part_at Y (0 + (3 * size A + (2 * left + 2))) (q.degree + 1) (3 * size A + (2 * left + 2)) (q.degree + 1) (omega arith) refl ∙ d.f
              ∙ ap (λ v. generator p (terms p A left u v)) r₂;
        }

    pub finished_shortened : (k : ℕ) {q : CodePass} {Y : List ℕ} → length B₂ ≡ length B → length Y ≡ m₂
        → Rule p A w u left (part (3 * size A) (size A) B) (terms p A left u (part (3 * size A) (size A) B)) (2 * left - 1 + k)
        → Finished p A left u k (part (3 * size A) m₂ B₂) q Y → Shortened p A w u left 0 (3 * size A) B q (lent B₂ (3 * size A) m₂ Y)
    finished_shortened k {q} {Y} long same-Y rule d =
        subst (λ x. Shortened p A w u left 0 at_r B q (lent B₂ at_r x Y)) (sym again)
        (shortened_lent 0 at_r at_r m B₂ (omega arith) long refl (omega arith) known.fits (omega (arith, known.room)) (same-Y ∙ again) (narrow k (same-Y ∙ again) rule d))

  -- ---- the three ends

  whole_test : test_at p w (terms p A left u (part 0 (size A) (part at_r m B))) ≡ test_at p w S₁
  whole_test = ap (λ v. test_at p w (terms p A left u v)) first_r

  pub window_whole : {k : ℕ} → k ≡ 0 → h.terms ≡ 2 * left → Rule p A w u left (part (3 * size A) (size A) B) (terms p A left u (part (3 * size A) (size A) B)) (2 * left - 1 + k)
  window_whole e all =
      subst (Rule p A w u left (part at_r (size A) B) S₁) (omega (arith, e))
      (rule_whole p A w u left (part at_r (size A) B) (subst (λ v. length (terms p A left u v) ≤ test_at p w (terms p A left u v)) first_r (listened_none known.heard all)))

  module _ (more : h.terms < 2 * left) {zero? : Bool} {B₂ : List ℕ} (tried : Tried p A left h.steps.L (lent B (3 * size A) m R₁) zero? B₂) where
    tested : test_at p w S₁ ≡ h.terms
    tested = sym whole_test ∙ listened_test known.heard known.prime room_R more

    value_is : apply p A (turned_at B₁ (6 * size A + (2 * left + 2)) h.steps.L) (part at_r (size A) B₁) ≡ apply p A (generator p (take h.terms S₁)) (part at_r (size A) B)
    value_is = ap₂ (apply p A) heard_generator heard_residual

    said : zero? ≡ is_zero (apply p A (generator p (take h.terms S₁)) (part at_r (size A) B))
    said = tried.answer ∙ ap is_zero value_is

    pub window_on : {k : ℕ} → k ≡ h.steps.L → zero? ≡ false
        → Rule p A w u left (part (3 * size A) (size A) B) (terms p A left u (part (3 * size A) (size A) B)) (2 * left - 1 + k)
    window_on e z =
        subst (λ k. Rule p A w u left (part at_r (size A) B) S₁ (2 * left - 1 + k)) (heard_degree ∙ sym e)
        (rule_on p A w u left (part at_r (size A) B) h.terms tested more (sym said ∙ z))

    pub window_early : {q : CodePass} → zero? ≡ true → q.degree ≡ h.steps.L → q ≡ passed A left q.degree (h.terms - 1)
        → Shortened p A w u left 0 (3 * size A) B q B₂
    window_early {q} z degree_is counted =
        record {
          taken = take h.terms S₁;
          made = h.terms - 1;
          rule = rule_early p A w u left (part at_r (size A) B) h.terms tested more (sym said ∙ z);
          counted = counted;
          same_length = tried.same_length ∙ returned_length;
          front = refl;
          answer = degree_is ∙ sym heard_degree;
          short = omega (arith, degree_is, heard_low, more);
          residual = (tried.found z).0 ∙ value_is;
          f =
              part_at B₂ (at_r + (3 * size A + (2 * left + 2))) (q.degree + 1) (6 * size A + (2 * left + 2)) (h.steps.L + 1) (omega arith) (ap (λ d. d + 1) degree_is)
              ∙ (tried.found z).1 ∙ heard_generator;
        }
