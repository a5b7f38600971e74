-- The end of the steps: L, and f, which is q in reverse order.
--     at_generator_within, at_generator_past     the coefficients of f
--     degree_at                                  L is that of the last steps
--     holds_generator                            q reversed in its region is f, with zeros after it
--     generator_at_law                               f in its region, coefficient by coefficient
use mathlib.Core.Path.{◌≡◌, sym, ap, ◌∙◌, subst}
use mathlib.Core.Logic.{⊎_elim}
use mathlib.Core.List.{List}
use Prim.Native.Nat.{ℕ, ◌+◌, ◌-◌, ◌≤◌, ◌<◌}
use native.Mathlib.Omega.{arith}
use lib.ListN.{length, take, drop}
use lib.Seq.{length-take-le}
use Rattle.meaning.specs.List.{at}
use Rattle.meaning.specs.Recurrence.{steps, reversed, degree, generator}
use Rattle.laws.specs.List.{table_of, get_or_table, get_or_table_past}
use Rattle.laws.specs.Part.{length_part, at_part}
use Rattle.laws.specs.Lent.{take_ext}
use Rattle.laws.specs.Recurrence.{Regular, steps_regular}
use Rattle.recurrence.specs.declared.steps.Register.{Register}
use Rattle.recurrence.specs.Recurrence.{Ready, Reversed, HoldsGenerator}
use Rattle.recurrence.specs.Steps.{FollowsSteps, represented, TermsStay}
use Rattle.recurrence.proofs.Represented.{lt_or_ge, follows_within}

module _ (p : ℕ) (s : List ℕ) (n : ℕ) (e : length s ≡ n) where
  pub degree_at : degree p s ≡ (steps p s n).L
  unfolding degree
  degree_at = ap (λ k. (steps p s k).L) e

  pub at_generator_within : (i : ℕ) → i ≤ (steps p s n).L → at (generator p s) i ≡ at (steps p s n).q ((steps p s n).L - i)
  unfolding generator reversed
  at_generator_within i l =
      get_or_table (degree p s + 1) (λ k. at (steps p s (length s)).q (degree p s - k)) i 0 (omega (arith, degree_at))
      ∙ ap (λ k. at (steps p s k).q (degree p s - i)) e ∙ ap (λ k. at (steps p s n).q (k - i)) degree_at

  pub at_generator_past : (i : ℕ) → (steps p s n).L < i → at (generator p s) i ≡ 0
  unfolding generator reversed
  at_generator_past i l =
      get_or_table_past (degree p s + 1) (λ k. at (steps p s (length s)).q (degree p s - k)) i 0 (omega (arith, degree_at))

pub holds_generator : {p count r : ℕ} {W W₁ W' : List ℕ} (c : Register) → Ready p count W → r ≡ count
    → FollowsSteps p (take r W) r c.d (represented count W₁ c) → TermsStay count W W₁
    → Reversed W₁ (count + 2) c.L W' → HoldsGenerator p count W W' c.L
holds_generator {p} {count} {r} {W} {W₁} {W'} c ready end followed stay turned =
    record {
      answer = follows.same.L ∙ sym (degree_at p s count size);
      f = table_of 0 (take (count + 2) (drop (count + 2) W')) (count + 2) (λ i. at (generator p s) i)
          (length_part (count + 2) (count + 2) W' (omega (arith, room, ready.room)))
          (λ i l. at_part (count + 2) (count + 2) W' i l ∙ place i l);
      terms =
          take_ext (count + 2) W₁ W' (omega (arith, stay.same_length, ready.room)) turned.same_length (λ k l. turned.before k l) ∙ stay.same_front;
    }
  where
    follows : FollowsSteps p (take count W) count c.d (represented count W₁ c)
    follows = subst (λ n. FollowsSteps p (take n W) n c.d (represented count W₁ c)) end followed

    s : List ℕ
    s = take count W

    size : length s ≡ count
    size = length-take-le count W (omega (arith, ready.room))

    room : length W' ≡ length W
    room = turned.same_length ∙ stay.same_length

    regular : Regular p count (steps p s count)
    regular = steps_regular p ready.two s count

    within : c.L ≤ count
    within = follows_within ready.two follows

    q : (i : ℕ) → i < count + 2 → at W₁ (count + 2 + i) ≡ at (steps p s count).q i
    q i l = sym (at_part (count + 2) (count + 2) W₁ i l) ∙ follows.same.q i

    place : (i : ℕ) → i < count + 2 → at W' (count + 2 + i) ≡ at (generator p s) i
    place i l =
        ⊎_elim
        (λ past. turned.after (count + 2 + i) (omega arith) ∙ q i l
        ∙ regular.q_end i (subst (λ x. x < i) follows.same.L past)
        ∙ sym (at_generator_past p s count size i (subst (λ x. x < i) follows.same.L past)))
        (λ inside. turned.inside i (omega (arith, inside)) ∙ q (c.L - i) (omega (arith, within))
        ∙ ap (λ k. at (steps p s count).q (k - i)) follows.same.L
        ∙ sym (at_generator_within p s count size i (subst (λ x. i ≤ x) follows.same.L inside)))
        (lt_or_ge c.L i)

pub generator_at_law : {p count : ℕ} {W W' : List ℕ} {L : ℕ} → HoldsGenerator p count W W' L → (i : ℕ) → i < count + 2
    → at W' (count + 2 + i) ≡ at (generator p (take count W)) i
generator_at_law {p} {count} {W} {W'} {L} held i l =
    sym (at_part (count + 2) (count + 2) W' i l) ∙ ap (λ x. at x i) held.f
    ∙ get_or_table (count + 2) (λ k. at (generator p (take count W)) k) i 0 l
