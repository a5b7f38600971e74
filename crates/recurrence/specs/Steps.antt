-- What stands after each r of the recurrence's steps (src/steps.rt), as document 02, (iv), asks. What is represented, by names of the meaning; that two
-- states are the same is laws' SameSteps, q and t coefficient by coefficient:
--     FollowsSteps     "after each r its d, q, t, L and e are those of document 01's steps"
--     IsStep           d, and q, t, L and e, are document 01's step for r of the q, t, L and e before
-- How a slice and a register represent it. The slice has four regions of count + 2 places: the terms, q, and two in which t and the q that is to become t
-- take turns.
--     times_power k f   z to the power k times f
--     represented      the q, t, L and e that regions and register stand for
--     Places           where t stands and which region it leaves free: the third and the fourth, or the other way round
--     Laid             a register fits the regions
--     TermsStay        a slice before and after: as long, and the same terms
--     FirstTerms       room for count terms and for the other regions, and the first r terms, all below p; of later ones nothing is asked
--     Sound            a q, t, L and e that fit r and the regions; of how they came about nothing is asked: sound_follows: what follows the steps is so
--     BeforeStep       what is asked for r: the first r terms, and what is sound after r − 1
--     MakesStep        what a step leaves: document 01's for r, of what it found; so r follows the steps if r − 1 did
--     MakesSteps       .. and the steps for `from` + 1 to `to`
use Rattle.std.specs.Prelude.{◌≡◌, ◌⊎◌, List, ◌∷◌, ℕ, zero, suc, ◌+◌, ◌-◌, ◌*◌, ◌≤◌, ◌<◌, length, take}
use Rattle.std.proofs.Common.{sym, ◌∙◌, subst, arith}
use Rattle.meaning.specs.List.{at}
use Rattle.meaning.specs.Field.{inverse}
use Rattle.meaning.specs.Recurrence.{Steps, discrepancy, step, steps}
use Rattle.laws.specs.Recurrence.{SameSteps, Regular, steps_regular}
use Rattle.laws.specs.Part.{part, at_part}
use Rattle.recurrence.specs.declared.steps.Register.{Register}
use Rattle.recurrence.specs.Recurrence.{Ready}

-- ---- what is represented

pub record FollowsSteps (p : ℕ) (s : List ℕ) (r d' : ℕ) (st : Steps) : Type 0 where
  -- d of r, by the q and L of r − 1; before r = 1 there is none
  pub d : 0 < r → d' ≡ discrepancy p s r (steps p s (r - 1))
  pub same : SameSteps st (steps p s r)

abbrev pub IsStep : ℕ → List ℕ → ℕ → Steps → ℕ → Steps → Type 0
IsStep p s r st d st' = (d ≡ discrepancy p s r st) × SameSteps st' (step p s r st)

-- ---- how

unfoldable pub times_power : ℕ → List ℕ → List ℕ
times_power zero f = f
times_power (suc k) f = 0 ∷ times_power k f

abbrev pub represented : ℕ → List ℕ → Register → Steps
represented count W c =
    record { q = part (count + 2) (count + 2) W; t = times_power c.shift (part c.t c.held W); L = c.L; e = c.e }

abbrev pub Places : ℕ → ℕ → ℕ → Type 0
Places count t spare =
    ((t ≡ 2 * (count + 2)) × (spare ≡ 3 * (count + 2))) ⊎ ((t ≡ 3 * (count + 2)) × (spare ≡ 2 * (count + 2)))

pub record Laid (p count r : ℕ) (c : Register) : Type 0 where
  pub places : Places count c.t c.spare
  -- z·t ends in q's region, and t in its own
  pub short : c.shift + c.held ≤ r
  -- z·t has no coefficient above r + 1 − L
  pub end : c.L + (c.shift + c.held) ≤ r + 1
  pub inverted : c.inverse ≡ inverse p c.e

pub record TermsStay (count : ℕ) (W W' : List ℕ) : Type 0 where
  pub same_length : length W' ≡ length W
  pub same_front : take (count + 2) W' ≡ take (count + 2) W

pub record FirstTerms (p count r : ℕ) (W : List ℕ) : Type 0 where
  pub ready : Ready p r W
  pub high : r ≤ count
  pub few : count ≤ 8192
  pub room : 4 * count + 8 ≤ length W

-- a q, t, L and e that could stand after r
pub record Sound (p count r : ℕ) (W : List ℕ) (c : Register) : Type 0 where
  pub within : c.L ≤ r
  pub element : (i : ℕ) → i < count + 2 → at W (count + 2 + i) < p
  -- q has no coefficient above L
  pub end : (i : ℕ) → i < count + 2 → c.L < i → at W (count + 2 + i) ≡ 0
  pub laid : Laid p count r c

pub record BeforeStep (p count r : ℕ) (W : List ℕ) (c : Register) : Type 0 where
  pub low : 0 < r
  pub first : FirstTerms p count r W
  pub sound : Sound p count (r - 1) W c

pub record MakesStep (p count r : ℕ) (W : List ℕ) (c : Register) (W' : List ℕ) (c' : Register) : Type 0 where
  pub step : IsStep p (take r W) r (represented count W c) c'.d (represented count W' c')
  pub follows : FollowsSteps p (take (r - 1) W) (r - 1) c.d (represented count W c) → FollowsSteps p (take r W) r c'.d (represented count W' c')
  pub sound : Sound p count r W' c'
  pub stay : TermsStay count W W'

pub record MakesSteps (p count from to : ℕ) (W : List ℕ) (c : Register) (W' : List ℕ) (c' : Register) : Type 0 where
  pub one : to ≡ from + 1 → IsStep p (take to W) to (represented count W c) c'.d (represented count W' c')
  pub follows : FollowsSteps p (take from W) from c.d (represented count W c) → FollowsSteps p (take to W) to c'.d (represented count W' c')
  pub sound : Sound p count to W' c'
  pub stay : TermsStay count W W'

pub sound_follows : {p count r d : ℕ} {W : List ℕ} {c : Register} → 1 < p → FollowsSteps p (take r W) r d (represented count W c) → Laid p count r c
    → Sound p count r W c
sound_follows {p} {count} {r} {d} {W} {c} two follows laid =
    record {
      within = omega (arith, follows.same.L, regular.within);
      element = λ i l. subst (λ x. x < p) (sym (q i l)) (regular.element i);
      end = λ i l past. q i l ∙ regular.q_end i (subst (λ x. x < i) follows.same.L past);
      laid = laid;
    }
  where
    regular : Regular p r (steps p (take r W) r)
    regular = steps_regular p two (take r W) r

    q : (i : ℕ) → i < count + 2 → at W (count + 2 + i) ≡ at (steps p (take r W) r).q i
    q i l = sym (at_part (count + 2) (count + 2) W i l) ∙ follows.same.q i
