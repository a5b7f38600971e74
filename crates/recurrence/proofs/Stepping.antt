-- What the code's step makes of a slice that holds the steps before r: document 01's step for r, of the first r terms.
--     fresh, shifted, lengthened       a register of q = 1, t = 0, L = 0 and e = 1; after t = z·t; after t = q, L = r − L, e = d
--     start_laid, start_follows  the start
--     first_terms, still, before_step      what a start asks, and a step after r − 1 others
--     follows_next               a step of what follows the steps follows them
--     Between, between_begin, between_next, between_end      the steps on their way from one r to another
--     crossing                   what the discrepancy's products ask
--     Kept, kept_same, kept_copied     the slice where the update begins: as it was, but for a copy of q in the spare region
--     Updated                    q − k·z·t in q's place
--     copying, subtracting       what the copy and the update ask
--     discrepancy_is             the sum of the products is the discrepancy
--     after_zero, after_stay, after_grow      the three cases
use mathlib.Core.Path.{◌≡◌, refl, sym, ap, ap₂, ◌∙◌, subst}
use mathlib.Core.Logic.{◌≢◌, ◌⊎◌, inl, inr, ⊎_elim}
use mathlib.Core.List.{List, [], ◌∷◌}
use Prim.Native.Nat.{ℕ, zero, suc, ◌+◌, ◌-◌, ◌*◌, ◌%◌, ◌≤◌, ◌<◌}
use native.Mathlib.Nat.{zero-add, mod-eq_of_lt}
use native.Mathlib.Omega.{arith}
use lib.ListN.{length, take, set, length-set}
use lib.Seq.{get_or-take, take-take, take-set-le, get_or-set_same, get_or-set_other}
use Rattle.meaning.specs.List.{at, sum_from}
use Rattle.meaning.specs.Field.{minus, times, inverse}
use Rattle.meaning.specs.Recurrence.{Steps, start, discrepancy, update, step, steps}
use Rattle.laws.specs.List.{sum_ext}
use Rattle.laws.specs.Recurrence.{times_lt, times_zero, minus_zero, at_update, step_zero, step_stay, step_grow, steps_zero, steps_at, steps_first, SameSteps, same_both, discrepancy_same, step_same, Regular, step_regular}
use Rattle.laws.specs.Part.{part, Apart, before, after, at_part, part_ext, written_other_at}
use Rattle.laws.specs.Written.{Written, written_none}
use Rattle.laws.specs.Lent.{written_take}
use Rattle.residue.specs.Inverse.{inverse_is}
use Rattle.modular.specs.declared.sums.Total.{Total}
use Rattle.modular.specs.Total.{number}
use Rattle.modular.specs.Sums.{Summed, sum_from_zero}
use Rattle.recurrence.specs.declared.steps.Register.{Register}
use Rattle.recurrence.specs.Convolution.{cross, Crossing, nothing}
use Rattle.recurrence.specs.Recurrence.{Ready}
use Rattle.recurrence.specs.Steps.{FollowsSteps, IsStep, times_power, represented, Laid, TermsStay, FirstTerms, Sound, BeforeStep, MakesStep, MakesSteps}
use Rattle.recurrence.proofs.Represented.{lt_or_ge, power_none, power_low, power_at, power_next, part_past, t_within, spare_within, exchanged, follows_before, follows_after, stay_same, stay_both}

-- ---- registers

abbrev pub fresh : ℕ → Register
fresh count =
    record { d = 0; t = 2 * (count + 2); held = 0; shift = 0; L = 0; e = 1; inverse = 1; spare = 3 * (count + 2) }

abbrev pub shifted : ℕ → Register → Register
shifted d c =
    record { d = d; t = c.t; held = c.held; shift = c.shift + 1; L = c.L; e = c.e; inverse = c.inverse; spare = c.spare }

abbrev pub lengthened : ℕ → ℕ → ℕ → Register → Register
lengthened r d y c =
    record { d = d; t = c.spare; held = c.L + 1; shift = 0; L = r - c.L; e = d; inverse = y; spare = c.t }

-- a whole region: what it holds, and nothing past its end
q_whole : (count : ℕ) (W g : List ℕ) → 4 * count + 8 ≤ length W → ((i : ℕ) → i < count + 2 → at W (count + 2 + i) ≡ at g i)
    → ((i : ℕ) → count + 2 ≤ i → at g i ≡ 0) → (i : ℕ) → at (part (count + 2) (count + 2) W) i ≡ at g i
q_whole count W g room held past i =
    ⊎_elim
    (λ l. at_part (count + 2) (count + 2) W i l ∙ held i l)
    (λ l. part_past (count + 2) (count + 2) W i (omega (arith, room)) l ∙ sym (past i l))
    (lt_or_ge i (count + 2))

-- ---- the start

module _ (p count : ℕ) (W W₁ : List ℕ) (first : FirstTerms p count 0 W) (w : Written W (count + 2) (count + 2) (λ i. 0) W₁) where
  open first use {ready, room}

  abbrev W₀ : List ℕ
  W₀ = set W₁ (count + 2) 1

  same_length : length W₀ ≡ length W
  same_length = length-set W₁ (count + 2) 1 ∙ w.same_length

  one : (i : ℕ) → i < count + 2 → at W₀ (count + 2 + i) ≡ at (1 ∷ []) i
  one zero l =
      let e : count + 2 + 0 ≡ count + 2 = omega arith in
      ap (at W₀) e ∙ get_or-set_same W₁ (count + 2) 1 0 (omega (arith, w.same_length, room))
  one (suc i) l = get_or-set_other W₁ (count + 2) (count + 2 + suc i) 1 0 (omega arith) ∙ w.inside (suc i) l

  none : (i : ℕ) → count + 2 ≤ i → at (1 ∷ []) i ≡ 0
  none zero l = absurd (omega arith)
  none (suc i) l = refl

  pub start_laid : Laid p count 0 (fresh count) × TermsStay count W W₀
  start_laid = (
    record {
      places = inl (refl, refl);
      short = omega arith;
      end = omega arith;
      inverted = sym (inverse_is p 1 1 ready.two (mod-eq_of_lt ready.two));
    },
    record {
      same_length = same_length;
      same_front =
          take-set-le (count + 2) W₁ (count + 2) 1 (omega arith) ∙ written_take (count + 2) (omega arith) (omega (arith, room)) w;
    },
  )

  pub start_follows : FollowsSteps p (take 0 W) 0 0 (represented count W₀ (fresh count))
  unfolding start times_power
  start_follows =
      record {
        d = λ l. absurd (omega arith);
        same =
            subst (SameSteps (represented count W₀ (fresh count))) (sym (steps_zero p (take 0 W)))
            (record { q = q_whole count W₀ (1 ∷ []) (omega (arith, same_length, room)) one none; t = λ i. refl; L = refl; e = refl });
      }

-- ---- from one r to the next

pub first_terms : {p count : ℕ} {W : List ℕ} (r : ℕ) → r ≤ count → Ready p count W → FirstTerms p count r W
first_terms r l ready =
    record {
      ready =
          record {
            two = ready.two;
            small = ready.small;
            few = omega (arith, ready.few);
            room = omega (arith, ready.room);
            elements = λ i b. ready.elements i (omega arith);
          };
      high = l;
      few = ready.few;
      room = ready.room;
    }

-- .. of fewer terms, and where they are still there
pub still : {p count to : ℕ} {W W' : List ℕ} (r : ℕ) → r ≤ to → TermsStay count W W' → FirstTerms p count to W → FirstTerms p count r W'
still {p} {count} {to} {W} {W'} r low stay first =
    record {
      ready =
          record {
            two = first.ready.two;
            small = first.ready.small;
            few = omega (arith, low, first.ready.few);
            room = omega (arith, low, stay.same_length, first.ready.room);
            elements = λ i l. subst (λ x. x < p) (sym (same i (omega (arith, l, low, first.high)))) (first.ready.elements i (omega (arith, l, low)));
          };
      high = omega (arith, low, first.high);
      few = first.few;
      room = omega (arith, stay.same_length, first.room);
    }
  where
    same : (i : ℕ) → i < count → at W' i ≡ at W i
    same i b =
        sym (get_or-take (count + 2) W' i 0 (omega arith)) ∙ ap (λ l. at l i) stay.same_front ∙ get_or-take (count + 2) W i 0 (omega arith)

pub before_step : {p count r to : ℕ} {W W' : List ℕ} {c : Register} → FirstTerms p count to W → r < to → TermsStay count W W' → Sound p count r W' c
    → BeforeStep p count (r + 1) W' c
before_step {p} {count} {r} {to} {W} {W'} {c} first l stay sound =
    let e : r ≡ r + 1 - 1 = omega arith in
    record { low = omega arith; first = still (r + 1) (omega (arith, l)) stay first; sound = subst (λ n. Sound p count n W' c) e sound }

pub follows_next : {p r d₀ d : ℕ} (W : List ℕ) {st st' : Steps} → 1 < p → 0 < r → FollowsSteps p (take (r - 1) W) (r - 1) d₀ st
    → IsStep p (take r W) r st d st' → FollowsSteps p (take r W) r d st'
follows_next {p} {r} {d₀} {d} W {st} {st'} two low follows made =
    record {
      d = λ l. made.0 ∙ discrepancy_same p s r agree;
      same =
          same_both made.1
          (subst (SameSteps (step p s r st)) (sym (steps_at p s r low)) (step_same p s r agree (omega (arith, two))));
    }
  where
    s : List ℕ
    s = take r W

    -- the steps for 1 to r − 1 do not ask for the term that r adds
    earlier : steps p (take (r - 1) W) (r - 1) ≡ steps p s (r - 1)
    earlier = ap (λ x. steps p x (r - 1)) (sym (take-take (r - 1) r W (omega arith))) ∙ steps_first p s (r - 1) (r - 1) (omega arith)

    agree : SameSteps st (steps p s (r - 1))
    agree = subst (SameSteps st) earlier follows.same

-- the steps from `from` + 1 to r have been made
pub record Between (p count from r : ℕ) (W : List ℕ) (c : Register) (W₁ : List ℕ) (c₁ : Register) : Type 0 where
  pub none : r ≡ from → (W₁ ≡ W) × (c₁ ≡ c)
  pub one : r ≡ from + 1 → IsStep p (take r W) r (represented count W c) c₁.d (represented count W₁ c₁)
  pub follows : FollowsSteps p (take from W) from c.d (represented count W c) → FollowsSteps p (take r W) r c₁.d (represented count W₁ c₁)
  pub sound : Sound p count r W₁ c₁
  pub stay : TermsStay count W W₁

pub between_begin : {p count from : ℕ} {W : List ℕ} {c : Register} → Sound p count from W c → Between p count from from W c W c
between_begin sound =
    record { none = λ e. (refl, refl); one = λ e. absurd (omega (arith, e)); follows = λ f. f; sound = sound; stay = stay_same }

pub between_next : {p count from r : ℕ} {W W₁ W₂ : List ℕ} {c c₁ c₂ : Register} → from ≤ r → r < count → Between p count from r W c W₁ c₁
    → MakesStep p count (r + 1) W₁ c₁ W₂ c₂ → Between p count from (r + 1) W c W₂ c₂
between_next {p} {count} {from} {r} {W} {W₁} {W₂} {c} {c₁} {c₂} low high h made =
    record {
      none = λ e. absurd (omega (arith, e, low));
      one = λ e.
          let first = h.none (omega (arith, e)) in
          subst (λ x. IsStep p (take (r + 1) W) (r + 1) (represented count W x) c₂.d (represented count W₂ c₂)) first.1
          (subst (λ X. IsStep p (take (r + 1) X) (r + 1) (represented count X c₁) c₂.d (represented count W₂ c₂)) first.0 made.step);
      follows = λ f. follows_before h.stay (r + 1) (omega (arith, high)) (made.follows (before (h.follows f)));
      sound = made.sound;
      stay = stay_both h.stay made.stay;
    }
  where
    before : FollowsSteps p (take r W) r c₁.d (represented count W₁ c₁) → FollowsSteps p (take (r + 1 - 1) W₁) (r + 1 - 1) c₁.d (represented count W₁ c₁)
    before f =
        let e : r ≡ r + 1 - 1 = omega arith in
        subst (λ n. FollowsSteps p (take n W₁) n c₁.d (represented count W₁ c₁)) e (follows_after h.stay r (omega (arith, high)) f)

pub between_end : {p count from r to : ℕ} {W W₁ : List ℕ} {c c₁ : Register} → r ≡ to → Between p count from r W c W₁ c₁ → MakesSteps p count from to W c W₁ c₁
between_end {p} {count} {from} {r} {to} {W} {W₁} {c} {c₁} e h =
    subst (λ n. MakesSteps p count from n W c W₁ c₁) e (record { one = h.one; follows = h.follows; sound = h.sound; stay = h.stay })

-- W₁ is W, but for the first `size` coefficients of q in the spare region
pub record Kept (count : ℕ) (W W₁ : List ℕ) (c : Register) (size : ℕ) : Type 0 where
  pub few : size ≤ c.L + 1
  pub copied : Written W c.spare size (λ i. at W (count + 2 + i)) W₁

pub kept_same : {count : ℕ} {W W₁ : List ℕ} {c : Register} → W₁ ≡ W → Kept count W W₁ c 0
kept_same {count} {W} {c} e =
    record {
      few = omega arith;
      copied = subst (λ W₁. Written W c.spare 0 (λ i. at W (count + 2 + i)) W₁) (sym e) (written_none W c.spare (λ i. at W (count + 2 + i)));
    }

pub kept_copied : {count : ℕ} {W W₁ W₂ : List ℕ} {c : Register} → W₁ ≡ W₂
    → Written W c.spare (c.L + 1) (λ i. at W (count + 2 + i)) W₂ → Kept count W W₁ c (c.L + 1)
kept_copied {count} {W} {c} e w =
    record {
      few = omega arith;
      copied = subst (λ W₁. Written W c.spare (c.L + 1) (λ i. at W (count + 2 + i)) W₁) (sym e) w;
    }

-- q − k·z·t in q's place
abbrev pub Updated : ℕ → ℕ → ℕ → Register → List ℕ → List ℕ → Type 0
Updated p k count c W₁ W' =
    Written W₁ (count + 2 + 1 + c.shift) c.held (λ i. minus p (at W₁ (count + 2 + 1 + c.shift + i)) (times p k (at W₁ (c.t + i)))) W'

-- ---- the step for r

module _ {p count r : ℕ} {W : List ℕ} {c : Register} (ask : BeforeStep p count r W c) where
  open ask use {low, first, sound}
  open first use {ready, high, few, room}
  open sound use {laid}

  abbrev s : List ℕ
  s = take r W

  -- the q, t, L and e that are found
  abbrev st : Steps
  st = represented count W c

  positive : 0 < p
  positive = omega (arith, ready.two)

  pub within : c.L ≤ r - 1
  within = sound.within

  q_is : (i : ℕ) → i < count + 2 → at W (count + 2 + i) ≡ at st.q i
  q_is i l = sym (at_part (count + 2) (count + 2) W i l)

  beyond : (i : ℕ) → count + 2 ≤ i → at st.q i ≡ 0
  beyond i l = part_past (count + 2) (count + 2) W i (omega (arith, room)) l

  past : (i : ℕ) → c.L < i → at st.q i ≡ 0
  past i h = ⊎_elim (λ l. sym (q_is i l) ∙ sound.end i l h) (beyond i) (lt_or_ge i (count + 2))

  element : (i : ℕ) → at st.q i < p
  element i =
      ⊎_elim (λ l. subst (λ x. x < p) (q_is i l) (sound.element i l)) (λ l. subst (λ x. x < p) (sym (beyond i l)) positive) (lt_or_ge i (count + 2))

  t_in : (2 * (count + 2) ≤ c.t) × (c.t ≤ 3 * (count + 2))
  t_in = t_within count c.t c.spare laid.places

  spare_in : (2 * (count + 2) ≤ c.spare) × (c.spare ≤ 3 * (count + 2))
  spare_in = spare_within count c.t c.spare laid.places

  t_room : c.t + c.held ≤ length W
  t_room = omega (arith, t_in.1, laid.short, low, high, room)

  -- z·t: nothing, then the coefficients that are held, then nothing
  zt_low : (i : ℕ) → i < 1 + c.shift → at (0 ∷ st.t) i ≡ 0
  zt_low zero l = refl
  zt_low (suc i) l = power_low c.shift (part c.t c.held W) i (omega arith)

  zt_held : (i : ℕ) → i < c.held → at (0 ∷ st.t) (1 + c.shift + i) ≡ at W (c.t + i)
  zt_held i l =
      let e : 1 + c.shift + i ≡ suc (c.shift + i) = omega arith in
      ap (at (0 ∷ st.t)) e ∙ power_at c.shift (part c.t c.held W) i ∙ at_part c.t c.held W i l

  zt_end : (i : ℕ) → 1 + c.shift + c.held ≤ i → at (0 ∷ st.t) i ≡ 0
  zt_end zero l = absurd (omega arith)
  zt_end (suc i) l =
      let e : i ≡ c.shift + (i - c.shift) = omega arith in
      ap (at (times_power c.shift (part c.t c.held W))) e
      ∙ power_at c.shift (part c.t c.held W) (i - c.shift)
      ∙ part_past c.t c.held W (i - c.shift) t_room (omega arith)

  -- ---- the discrepancy

  pub crossing : Crossing W (count + 2) (r - 1) 0 (c.L + 1)
  crossing =
      record {
        order = omega arith;
        few = omega (arith, within, high, few);
        front = omega (arith, within, high, room);
        back = omega (arith, within, low);
        room = omega (arith, high, room);
        left = λ i a l. omega (arith, sound.element i (omega (arith, l, within, high)), ready.small);
        right = λ i a l. omega (arith, ready.elements (r - 1 - i) (omega (arith, low)), ready.small);
      }

  discrepancy_is : (T : Total) (d : ℕ) → Summed nothing T 0 (c.L + 1) (cross W (count + 2) (r - 1)) → d ≡ number T % p
      → d ≡ discrepancy p s r st
  unfolding discrepancy
  discrepancy_is T d summed residue =
      residue
      ∙ ap (λ x. x % p)
      (summed.sum ∙ zero-add (sum_from 0 (c.L + 1) (cross W (count + 2) (r - 1)))
      ∙ sum_from_zero (c.L + 1) (cross W (count + 2) (r - 1))
      ∙ sum_ext (c.L + 1) (cross W (count + 2) (r - 1)) (λ i. at st.q i * at s (r - 1 - i))
      (λ i l. ap₂ ◌*◌ (q_is i (omega (arith, l, within, high))) (sym (get_or-take r W (r - 1 - i) 0 (omega (arith, low))))))

  -- ---- the update

  pub copying : (count + 2 + (c.L + 1) ≤ length W) × (c.spare + (c.L + 1) ≤ length W) × ((c.spare ≤ count + 2) ⊎ (count + 2 + (c.L + 1) ≤ c.spare))
  copying = (
    omega (arith, within, high, room),
    omega (arith, spare_in.1, within, high, room),
    inr (omega (arith, spare_in.0, within, high)),
  )

  -- t's region and the spare one have no place in common
  apart : (n : ℕ) → n ≤ c.L + 1 → Apart c.spare n c.t c.held
  apart n l =
      ⊎_elim
      (λ e. after (omega (arith, e.0, e.1, laid.short, low, high)))
      (λ e. before (omega (arith, e.0, e.1, l, within, high)))
      laid.places

  module _ {W₁ : List ℕ} {size : ℕ} (kept : Kept count W W₁ c size) where
    room₁ : length W₁ ≡ length W
    room₁ = kept.copied.same_length

    q₁ : (i : ℕ) → i < count + 2 → at W₁ (count + 2 + i) ≡ at st.q i
    q₁ i l =
        kept.copied.before (count + 2 + i) (omega (arith, l, spare_in.0)) ∙ q_is i l

    t₁ : (i : ℕ) → i < c.held → at W₁ (c.t + i) ≡ at W (c.t + i)
    t₁ i l = written_other_at c.t c.held i (apart size kept.few) l kept.copied

    module _ (d k : ℕ) (constant : k ≡ times p d c.inverse) where
      pub subtracting : (k < p) × (count + 2 + 1 + c.shift + c.held ≤ c.t) × (c.t + c.held ≤ length W₁)
          × ((i : ℕ) → i < c.held → at W₁ (count + 2 + 1 + c.shift + i) < p)
      subtracting = (
        subst (λ x. x < p) (sym constant) (times_lt p d c.inverse positive),
        omega (arith, t_in.0, laid.short, low, high),
        omega (arith, t_room, room₁),
        (λ i l.
            let e : count + 2 + (1 + c.shift + i) ≡ count + 2 + 1 + c.shift + i = omega arith in
            subst (λ x. at W₁ x < p) e
            (subst (λ x. x < p) (sym (q₁ (1 + c.shift + i) (omega (arith, l, laid.short, low, high)))) (element (1 + c.shift + i)))),
      )

      module _ {W' : List ℕ} (w : Updated p k count c W₁ W') where
        -- d/e
        quotient : k ≡ times p d (inverse p st.e)
        quotient = constant ∙ ap (times p d) laid.inverted

        idle : (i : ℕ) → at (0 ∷ st.t) i ≡ 0 → at st.q i ≡ at (update p d st) i
        idle i e =
            sym (at_update p d st positive i ∙ ap (λ x. minus p (at st.q i) (times p (times p d (inverse p st.e)) x)) e
            ∙ ap (minus p (at st.q i)) (times_zero p (times p d (inverse p st.e))) ∙ minus_zero p (at st.q i) (element i))

        inside : (i j : ℕ) → i ≡ 1 + c.shift + j → j < c.held → at W' (count + 2 + i) ≡ at (update p d st) i
        inside i j e l =
            let a : count + 2 + i ≡ count + 2 + 1 + c.shift + j = omega arith in
            let b : count + 2 + 1 + c.shift + j ≡ count + 2 + (1 + c.shift + j) = omega arith in
            ap (at W') a ∙ w.inside j l
            ∙ ap₂ (λ x y. minus p x (times p k y))
            (ap (at W₁) b ∙ q₁ (1 + c.shift + j) (omega (arith, l, laid.short, low, high)))
            (t₁ j l ∙ sym (zt_held j l))
            ∙ ap (λ x. minus p (at st.q (1 + c.shift + j)) (times p x (at (0 ∷ st.t) (1 + c.shift + j)))) quotient
            ∙ sym (at_update p d st positive (1 + c.shift + j)) ∙ ap (at (update p d st)) (sym e)

        updated : (i : ℕ) → i < count + 2 → at W' (count + 2 + i) ≡ at (update p d st) i
        updated i l =
            ⊎_elim
            (λ below. w.before (count + 2 + i) (omega arith) ∙ q₁ i l ∙ idle i (zt_low i below))
            (λ from. ⊎_elim
            (λ within. inside i (i - (1 + c.shift)) (omega arith) (omega arith))
            (λ past. w.after (count + 2 + i) (omega arith) ∙ q₁ i l ∙ idle i (zt_end i past))
            (lt_or_ge i (1 + c.shift + c.held)))
            (lt_or_ge i (1 + c.shift))

        updated_beyond : (i : ℕ) → count + 2 ≤ i → at (update p d st) i ≡ 0
        updated_beyond i l = sym (idle i (zt_end i (omega (arith, l, laid.short, low, high)))) ∙ beyond i l

        terms_stay : TermsStay count W W'
        terms_stay =
            record {
              same_length = w.same_length ∙ room₁;
              same_front =
                  written_take (count + 2) (omega arith) (omega (arith, room₁, room)) w
                  ∙ written_take (count + 2) (omega (arith, spare_in.0)) (omega (arith, room)) kept.copied;
            }

        -- what stands above q's region stays
        above : (a i : ℕ) → 2 * (count + 2) ≤ a → at W' (a + i) ≡ at W₁ (a + i)
        above a i l = w.after (a + i) (omega (arith, laid.short, low, high))

        t_stays : part c.t c.held W' ≡ part c.t c.held W
        t_stays =
            part_ext c.t c.held W' W (omega (arith, t_room, terms_stay.same_length)) t_room
            (λ i l. above c.t i t_in.0 ∙ t₁ i l)

        q_kept : size ≡ c.L + 1 → (i : ℕ) → i < c.L + 1 → at W' (c.spare + i) ≡ at st.q i
        q_kept e i l =
            above c.spare i spare_in.0
            ∙ kept.copied.inside i (subst (λ n. i < n) (sym e) l) ∙ q_is i (omega (arith, l, within, high))

  -- ---- the three cases

  module _ (T : Total) (d : ℕ) (summed : Summed nothing T 0 (c.L + 1) (cross W (count + 2) (r - 1))) (residue : d ≡ number T % p) where
    d_is : d ≡ discrepancy p s r st
    d_is = discrepancy_is T d summed residue

    -- what is found is regular, and so is document 01's step of it
    regular : Regular p (r - 1) st
    regular =
        record {
          within = within;
          element = element;
          q_end = past;
          t_end = λ i l. zt_end i (omega (arith, l, laid.end, low));
        }

    stepped : Regular p r (step p s r st)
    stepped =
        let e : suc (r - 1) ≡ r = omega (arith, low) in
        subst (λ n. Regular p n (step p s n st)) e (step_regular p ready.two regular s)

    -- a step that ends in the steps given
    ending : (W' : List ℕ) (c' : Register) (st' : Steps) → step p s r st ≡ st' → length W' ≡ length W → c'.d ≡ d
        → ((i : ℕ) → i < count + 2 → at W' (count + 2 + i) ≡ at st'.q i) → ((i : ℕ) → count + 2 ≤ i → at st'.q i ≡ 0)
        → ((i : ℕ) → at (times_power c'.shift (part c'.t c'.held W')) i ≡ at st'.t i)
        → c'.L ≡ st'.L → c'.e ≡ st'.e → Laid p count r c' → TermsStay count W W' → MakesStep p count r W c W' c'
    ending W' c' st' end same_length found q q_end t L e laid' stay =
        record {
          step = is;
          follows = λ f. follows_next W ready.two low f is;
          sound =
              record {
                within = omega (arith, is.1.L, stepped.within);
                element = λ i l. subst (λ x. x < p) (sym (place i l)) (stepped.element i);
                end = λ i l h. place i l ∙ stepped.q_end i (subst (λ x. x < i) is.1.L h);
                laid = laid';
              };
          stay = stay;
        }
      where
        is : IsStep p s r st c'.d (represented count W' c')
        is = (
          found ∙ d_is,
          record {
            q = λ i. q_whole count W' st'.q (omega (arith, same_length, room)) q q_end i ∙ ap (λ x. at x.q i) (sym end);
            t = λ i. t i ∙ ap (λ x. at x.t i) (sym end);
            L = L ∙ ap (λ x. x.L) (sym end);
            e = e ∙ ap (λ x. x.e) (sym end);
          },
        )

        place : (i : ℕ) → i < count + 2 → at W' (count + 2 + i) ≡ at (step p s r st).q i
        place i l = sym (at_part (count + 2) (count + 2) W' i l) ∙ is.1.q i

    shifted_laid : Laid p count r (shifted d c)
    shifted_laid =
        record { places = laid.places; short = omega (arith, laid.short, low); end = omega (arith, laid.end, low); inverted = laid.inverted }

    -- t = z·t
    t_shifted : (W' : List ℕ) → part c.t c.held W' ≡ part c.t c.held W
        → (i : ℕ) → at (times_power (c.shift + 1) (part c.t c.held W')) i ≡ at (0 ∷ st.t) i
    t_shifted W' stays i =
        ap (λ x. at (times_power (c.shift + 1) x) i) stays
        ∙ ap (λ x. at x i) (power_next c.shift (part c.t c.held W))

    pub after_zero : d ≡ 0 → MakesStep p count r W c W (shifted d c)
    after_zero z =
        ending W (shifted d c) (record { q = st.q; t = 0 ∷ st.t; L = st.L; e = st.e }) (step_zero p s r st (sym d_is ∙ z)) refl refl q_is beyond
        (t_shifted W refl) refl refl shifted_laid stay_same

    module _ (nonzero : d ≢ 0) {W₁ : List ℕ} {size : ℕ} (kept : Kept count W W₁ c size) (k : ℕ) (constant : k ≡ times p d c.inverse) {W' : List ℕ}
        (w : Updated p k count c W₁ W') where
      pub after_stay : r ≤ 2 * c.L → MakesStep p count r W c W' (shifted d c)
      after_stay long =
          ending W' (shifted d c) (record { q = update p d st; t = 0 ∷ st.t; L = st.L; e = st.e })
          (step_stay p s r st (λ z. nonzero (d_is ∙ z)) long
          ∙ ap {B = Steps} (λ x. record { q = update p x st; t = 0 ∷ st.t; L = st.L; e = st.e }) (sym d_is))
          (terms_stay kept d k constant w).same_length refl (updated kept d k constant w) (updated_beyond kept d k constant w)
          (t_shifted W' (t_stays kept d k constant w)) refl refl shifted_laid (terms_stay kept d k constant w)

      pub after_grow : size ≡ c.L + 1 → 2 * c.L < r → (y : ℕ) → y ≡ inverse p d → MakesStep p count r W c W' (lengthened r d y c)
      after_grow whole short y inverted =
          ending W' (lengthened r d y c) (record { q = update p d st; t = st.q; L = r - st.L; e = d })
          (step_grow p s r st (λ z. nonzero (d_is ∙ z)) short
          ∙ ap {B = Steps} (λ x. record { q = update p x st; t = st.q; L = r - st.L; e = x }) (sym d_is))
          (terms_stay kept d k constant w).same_length refl (updated kept d k constant w) (updated_beyond kept d k constant w) t refl refl
          (record { places = exchanged count c.t c.spare laid.places; short = omega (arith, within, low); end = omega (arith, within, low); inverted = inverted })
          (terms_stay kept d k constant w)
        where
          fits : c.spare + (c.L + 1) ≤ length W'
          fits = omega (arith, copying.1, (terms_stay kept d k constant w).same_length)

          t : (i : ℕ) → at (times_power 0 (part c.spare (c.L + 1) W')) i ≡ at st.q i
          t i =
              ap (λ x. at x i) (power_none (part c.spare (c.L + 1) W'))
              ∙ ⊎_elim
              (λ l. at_part c.spare (c.L + 1) W' i l ∙ q_kept kept d k constant w whole i l)
              (λ l. part_past c.spare (c.L + 1) W' i fits l ∙ sym (past i (omega arith)))
              (lt_or_ge i (c.L + 1))
