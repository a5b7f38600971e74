-- What the call `recurrence` answers.
--     same_modulus               what the core holds, the modulus by its other name
--     recurred_refused           the answer of a refusal, and slices left as they were
--     modulus_range, ready       what the checks leave known: of p, and for the core
--     padded_same, copied        a list in as many places; .. at the front of a slice
--     recurred_generator         the answer of an accepted call, from the core's
use mathlib.Core.Path.{◌≡◌, refl, sym, ap, ◌∙◌, subst}
use mathlib.Core.Bool.{true, false, cond}
use mathlib.Core.List.{List}
use Rattle.std.specs.Prelude.{Ok, Err}
use Prim.Native.Nat.{ℕ, ◌+◌, ◌≤◌, ◌<◌}
use native.Mathlib.Nat.{zero-add}
use native.Mathlib.Omega.{arith}
use lib.Dec.{eqb}
use lib.ListN.{length, take}
use lib.Seq.{ext_get_or, get_or-take, length-take-le}
use borrow.Author.Tests.{eq-eqb, ne_eqb}
use Rattle.meaning.specs.List.{at, padded}
use Rattle.meaning.specs.Recurrence.{IsShortest, degree, generator}
use Rattle.meaning.specs.Calls.{recurrence_refusal}
use Rattle.laws.specs.List.{table_of}
use Rattle.residue.specs.Prime.{is_modulus_Prime, is_modulus_le}
use Rattle.laws.specs.Recurrence.{degree_within, length_generator}
use Rattle.bridge.specs.Recurrence.{is_shortest}
use Rattle.checks.specs.Recurrence.{Accepted}
use Rattle.laws.specs.Written.{Written}
use Rattle.laws.specs.Part.{part, length_part, at_part}
use Rattle.laws.specs.Lent.{lent, written_lent}
use Rattle.recurrence.specs.Recurrence.{Ready, HoldsGenerator, Recurred}
use Rattle.refusal.specs.declared.Refusal.{Refusal}
use Rattle.refusal.specs.Number.{number_of, number_positive}
use Rattle.recurrence.proofs.HoldsGenerator.{generator_at_law}

pub same_modulus : {m p count : ℕ} {W W' : List ℕ} {L : ℕ} → m ≡ p → HoldsGenerator m count W W' L → HoldsGenerator p count W W' L
same_modulus {m} {p} {count} {W} {W'} {L} e h = subst (λ n. HoldsGenerator n count W W' L) e h

pub recurred_refused : (p : ℕ) (s polynomial work : List ℕ) (r : Refusal) → number_of r ≡ recurrence_refusal p s polynomial work
    → Recurred p s polynomial work (Err r) polynomial work
recurred_refused p s polynomial work r e =
    let n = number_positive r in
    let refused : eqb (recurrence_refusal p s polynomial work) 0 ≡ false = ne_eqb (recurrence_refusal p s polynomial work) 0 (λ z. n (e ∙ z)) in
    record {
      gives = (sym e, n, ap (λ b. cond b (degree p s) 0) refused);
      after = sym (ap (λ b. cond b (padded (length s + 1) (generator p s)) polynomial) refused);
      kept = λ z. refl;
      shortest = λ L z. absurd (let y : ◌≡◌ {A = ℕ} 0 1 = cc in omega arith);
    }

pub modulus_range : {p : ℕ} {s polynomial work : List ℕ} → Accepted p s polynomial work → (0 < p) × (p ≤ 2147483647)
modulus_range {p} input = (omega (arith, (is_modulus_Prime p input.modulus).two_le), is_modulus_le p input.modulus)

-- a list written into as many places as it has
pub padded_same : {n : ℕ} (s : List ℕ) → n ≡ length s → padded n s ≡ s
padded_same s e = sym (table_of 0 s _ (at s) (sym e) (λ i l. refl))

-- a list copied to the front of a slice
pub copied : (s work Y : List ℕ) → length s ≤ length work → Y ≡ s → Written work 0 (length s) (at s) (lent work 0 (length s) Y)
copied s work Y room e =
    written_lent work 0 (length s) (at s) Y (omega (arith, room)) (e ∙ table_of 0 s (length s) (at s) refl (λ i l. refl))

module _ {p : ℕ} {s polynomial work W₁ : List ℕ} (input : Accepted p s polynomial work)
    (placed : Written work 0 (length s) (at s) W₁) where
  terms : (i : ℕ) → i < length s → at W₁ i ≡ at s i
  terms i l = ap (at W₁) (sym (zero-add i)) ∙ placed.inside i l

  pub ready : {m : ℕ} → m ≡ p → Ready m (length s) W₁
  ready {m} e = subst (λ n. Ready n (length s) W₁) (sym e) (record {
    two = (is_modulus_Prime p input.modulus).two_le;
    small = is_modulus_le p input.modulus;
    few = input.few;
    room = omega (arith, input.room, placed.same_length);
    elements = λ i l. subst (λ x. x < p) (sym (terms i l)) (input.below i l);
  })

  same : take (length s) W₁ ≡ s
  same =
      let size : length (take (length s) W₁) ≡ length s = length-take-le (length s) W₁ (omega (arith, input.room, placed.same_length)) in
      ext_get_or 0 (take (length s) W₁) s size
      (λ i l. let b : i < length s = omega arith in get_or-take (length s) W₁ i 0 b ∙ terms i b)

  pub recurred_generator : {W₂ : List ℕ} {L m : ℕ} (n : ℕ) (Y : List ℕ) → n ≡ length s + 1 → m ≡ p → length W₂ ≡ length W₁ → HoldsGenerator m (length s) W₁ W₂ L
      → Y ≡ part (length s + 2) n W₂ → Recurred p s polynomial work (Ok L) (lent polynomial 0 (length s + 1) Y) W₂
  recurred_generator {W₂} {L} {m} n Y size e long holds read =
      record {
        gives = (input.none, ap (λ b. cond b (degree p s) 0) zero ∙ sym answer);
        after =
            table_of 0 polynomial' (length s + 1) (λ i. at (generator p s) i) (written.same_length ∙ input.size) coefficient
            ∙ sym (ap (λ b. cond b (padded (length s + 1) (generator p s)) polynomial) zero);
        kept = λ n. absurd (n input.none);
        shortest = λ L' e. let same : L ≡ L' = cc in subst (λ n. IsShortest p s n (take (n + 1) polynomial')) same shortest;
      }
    where
      polynomial' : List ℕ
      polynomial' = lent polynomial 0 (length s + 1) Y

      written : Written polynomial 0 (length s + 1) (λ i. at W₂ (length s + 2 + i)) polynomial'
      written =
          written_lent polynomial 0 (length s + 1) (λ i. at W₂ (length s + 2 + i)) Y (omega (arith, input.size))
          (read
          ∙ table_of 0 (part (length s + 2) n W₂) (length s + 1) (λ i. at W₂ (length s + 2 + i))
          (length_part (length s + 2) n W₂ (omega (arith, size, long, placed.same_length, input.room)) ∙ size)
          (λ i l. at_part (length s + 2) n W₂ i (omega (arith, l, size))))

      found : HoldsGenerator p (length s) W₁ W₂ L
      found = same_modulus e holds

      zero : eqb (recurrence_refusal p s polynomial work) 0 ≡ true
      zero = eq-eqb (recurrence_refusal p s polynomial work) 0 input.none

      answer : L ≡ degree p s
      answer = found.answer ∙ ap (degree p) same

      coefficient : (i : ℕ) → i < length s + 1 → at polynomial' i ≡ at (generator p s) i
      coefficient i l =
          ap (at polynomial') (sym (zero-add i)) ∙ written.inside i l ∙ generator_at_law found i (omega arith)
          ∙ ap (λ x. at (generator p x) i) same

      within : L ≤ length s
      within = subst (λ n. n ≤ length s) (sym answer) (degree_within p (is_modulus_Prime p input.modulus).two_le s)

      f : take (L + 1) polynomial' ≡ generator p s
      f =
          let size : length (take (L + 1) polynomial') ≡ L + 1 =
          length-take-le (L + 1) polynomial' (omega (arith, within, written.same_length, input.size)) in
          ext_get_or 0 (take (L + 1) polynomial') (generator p s)
          (size ∙ ap (λ n. n + 1) answer ∙ sym (length_generator p s))
          (λ i l. let b : i < L + 1 = omega arith in
          get_or-take (L + 1) polynomial' i 0 b ∙ coefficient i (omega (arith, within)))

      shortest : IsShortest p s L (take (L + 1) polynomial')
      shortest =
          subst (λ g. IsShortest p s L g) (sym f)
          (subst (λ n. IsShortest p s n (generator p s)) (sym answer) (is_shortest p (is_modulus_Prime p input.modulus) s))
