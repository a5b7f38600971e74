-- What regions and register stand for (specs/Steps.antt), coefficient by coefficient.
--     lt_or_ge                           one number is below the other, or not
--     power_none, power_next             z to the power 0 times f, and one power more
--     power_low, power_at                z to the power k times f: nothing below k, f from there on
--     part_past                          past its end a part has no coefficient
--     t_within, spare_within, exchanged  the two regions after q's, and that they take turns
--     follows_within                     L is at most r
--     follows_before, follows_after      where the terms stay, so do their steps
--     stay_same, stay_both               nothing done, and one thing after the other
use mathlib.Core.Path.{◌≡◌, refl, sym, ap, ◌∙◌, subst}
use mathlib.Core.Logic.{◌⊎◌, inl, inr}
use mathlib.Core.List.{List, ◌∷◌}
use Prim.Native.Nat.{ℕ, zero, suc, ◌+◌, ◌*◌, ◌≤◌, ◌<◌}
use native.Mathlib.Decide.{dec_lt}
use native.Mathlib.Nat.{zero-add}
use native.Mathlib.Numerals.{add-one}
use native.Mathlib.Omega.{arith}
use lib.ListN.{length, take, get_or-eq_default}
use lib.Seq.{take-take}
use Rattle.meaning.specs.List.{at}
use Rattle.meaning.specs.Recurrence.{Steps}
use Rattle.laws.specs.Part.{part, length_part}
use Rattle.laws.specs.Recurrence.{steps_regular}
use Rattle.recurrence.specs.Steps.{FollowsSteps, times_power, Places, TermsStay}

pub lt_or_ge : (a b : ℕ) → (a < b) ⊎ (b ≤ a)
lt_or_ge a b = go (dec_lt a b)
  where
    go : Dec (a < b) → (a < b) ⊎ (b ≤ a)
    go (yes l) = inl l
    go (no n) = inr (omega arith)

-- ---- polynomials

pub power_none : (f : List ℕ) → times_power 0 f ≡ f
unfolding times_power
power_none f = refl

pub power_low : (k : ℕ) (f : List ℕ) (i : ℕ) → i < k → at (times_power k f) i ≡ 0
unfolding times_power
power_low zero f i l = absurd (omega arith)
power_low (suc k) f zero l = refl
power_low (suc k) f (suc i) l = power_low k f i (omega arith)

pub power_at : (k : ℕ) (f : List ℕ) (i : ℕ) → at (times_power k f) (k + i) ≡ at f i
unfolding times_power
power_at zero f i = ap (at f) (zero-add i)
power_at (suc k) f i =
    let e : suc k + i ≡ suc (k + i) = omega arith in
    ap (at (0 ∷ times_power k f)) e ∙ power_at k f i

pub power_next : (k : ℕ) (f : List ℕ) → times_power (k + 1) f ≡ 0 ∷ times_power k f
unfolding times_power
power_next k f = ap (λ n. times_power n f) (add-one k)

pub part_past : (a n : ℕ) (W : List ℕ) (i : ℕ) → a + n ≤ length W → n ≤ i → at (part a n W) i ≡ 0
part_past a n W i fits l = get_or-eq_default (part a n W) 0 {n = i} (omega (arith, length_part a n W fits))

-- ---- regions

pub t_within : (count t spare : ℕ) → Places count t spare → (2 * (count + 2) ≤ t) × (t ≤ 3 * (count + 2))
t_within count t spare (inl e) = omega (arith, e.0)
t_within count t spare (inr e) = omega (arith, e.0)

pub spare_within : (count t spare : ℕ) → Places count t spare → (2 * (count + 2) ≤ spare) × (spare ≤ 3 * (count + 2))
spare_within count t spare (inl e) = omega (arith, e.1)
spare_within count t spare (inr e) = omega (arith, e.1)

pub exchanged : (count t spare : ℕ) → Places count t spare → Places count spare t
exchanged count t spare (inl e) = inr (e.1, e.0)
exchanged count t spare (inr e) = inl (e.1, e.0)

-- ---- what follows the steps

pub follows_within : {p : ℕ} {s : List ℕ} {r d : ℕ} {st : Steps} → 1 < p → FollowsSteps p s r d st → st.L ≤ r
follows_within {p} {s} {r} two follows = subst (λ x. x ≤ r) (sym follows.same.L) (steps_regular p two s r).within

-- ---- one slice after another

module _ {count : ℕ} {W W₁ : List ℕ} (stay : TermsStay count W W₁) where
  module _ (r : ℕ) (l : r ≤ count) where
    terms_same : take r W₁ ≡ take r W
    terms_same =
        sym (take-take r (count + 2) W₁ (omega arith)) ∙ ap (take r) stay.same_front ∙ take-take r (count + 2) W (omega arith)

    -- the steps of the terms after are those of the terms before
    pub follows_before : {p d : ℕ} {st : Steps} → FollowsSteps p (take r W₁) r d st → FollowsSteps p (take r W) r d st
    follows_before {p} {d} {st} h = subst (λ s. FollowsSteps p s r d st) terms_same h

    pub follows_after : {p d : ℕ} {st : Steps} → FollowsSteps p (take r W) r d st → FollowsSteps p (take r W₁) r d st
    follows_after {p} {d} {st} h = subst (λ s. FollowsSteps p s r d st) (sym terms_same) h

  pub stay_both : {W₂ : List ℕ} → TermsStay count W₁ W₂ → TermsStay count W W₂
  stay_both b =
      record { same_length = b.same_length ∙ stay.same_length; same_front = b.same_front ∙ stay.same_front }

pub stay_same : {count : ℕ} {W : List ℕ} → TermsStay count W W
stay_same = record { same_length = refl; same_front = refl }
