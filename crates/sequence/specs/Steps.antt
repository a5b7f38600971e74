-- Document 01's steps to the shortest recurrence (document 002), on plain data. What they keep is Invariant's matter.
--     State            q, t, L and e: the generator read backwards, its helper before the shift by z, the length, the helper's discrepancy
--     start            q = 1, t = 0, L = 0, e = 1
--     discrepancy s r st   the sum of q i ⊗ s (r − i) over i = 0 .. L, where r terms are taken already: document 01's r is suc r here
--     next_q st d      q − (d/e)·z·t
--     stay st q'       q becomes q', t becomes z·t
--     grow r st d      t becomes q, L becomes r + 1 − L, e becomes d, q becomes next_q
--     advance r st d   what a step makes of a state whose discrepancy is d
--     advance_zero, advance_grow, advance_stay     its cases: d zero; d not zero and 2·L < r + 1; d not zero and 2·L ≥ r + 1
--     step s r st      one step, by the term that follows the first r
--     steps s N        N steps from the start
--     steps_zero, steps_suc    its two clauses
--     steps_ext        N steps read the first N terms alone
use Rattle.std.specs.Prelude.{◌≡◌, ◌≢◌, ℕ, zero, suc, ◌-◌, ◌*◌, ◌≤◌, ◌<◌}
use Rattle.std.proofs.Math.Path.{refl}
use Rattle.std.proofs.Common.{sym, ap, ◌∙◌, arith}
use Rattle.std.proofs.Math.Logic.{ite, if_pos, if_neg}
use Rattle.std.proofs.Math.Decide.{dec_lt}
use Rattle.algebra.specs.Ring.{Field}
use Rattle.algebra.specs.Sum.{sum, sum_ext}
use Rattle.algebra.specs.Polynomial.{const, shift}

module _ (F : Field) where
  open F use {ring as R, inv, zero?}
  open R use {C, add as ◌⊕◌, mul as ◌⊗◌, neg as ⊖◌, zero as 𝟎, one as 𝟏}

  infixl 60 ◌⊕◌
  infixl 70 ◌⊗◌
  infix 75 ⊖◌
  pub record State : Type 0 where
    pub q : ℕ → C
    pub t : ℕ → C
    pub L : ℕ
    pub e : C

  abbrev pub start : State
  start = record { q = const R 𝟏; t = λ i. 𝟎; L = 0; e = 𝟏 }

  abbrev pub discrepancy : (ℕ → C) → ℕ → State → C
  discrepancy s r st = sum R (suc st.L) (λ i. st.q i ⊗ s (r - i))

  abbrev pub next_q : State → C → ℕ → C
  next_q st d i = st.q i ⊕ ⊖ (d ⊗ inv st.e ⊗ shift R st.t i)

  abbrev pub stay : State → (ℕ → C) → State
  stay st q' = record { q = q'; t = shift R st.t; L = st.L; e = st.e }

  abbrev pub grow : ℕ → State → C → State
  grow r st d = record { q = next_q st d; t = st.q; L = suc r - st.L; e = d }

  pub advance : ℕ → State → C → State
  advance r st d = ite (zero? d) (stay st st.q) (ite (dec_lt (2 * st.L) (suc r)) (grow r st d) (stay st (next_q st d)))

  module _ (r : ℕ) (st : State) (d : C) where
    pub advance_zero : d ≡ 𝟎 → advance r st d ≡ stay st st.q
    unfolding advance
    advance_zero h = if_pos (zero? d) h _ _

    pub advance_grow : d ≢ 𝟎 → 2 * st.L < suc r → advance r st d ≡ grow r st d
    unfolding advance
    advance_grow h l = if_neg (zero? d) h _ _ ∙ if_pos (dec_lt (2 * st.L) (suc r)) l _ _

    pub advance_stay : d ≢ 𝟎 → suc r ≤ 2 * st.L → advance r st d ≡ stay st (next_q st d)
    unfolding advance
    advance_stay h l = if_neg (zero? d) h _ _ ∙ if_neg (dec_lt (2 * st.L) (suc r)) (omega arith) _ _

  abbrev pub step : (ℕ → C) → ℕ → State → State
  step s r st = advance r st (discrepancy s r st)

  pub steps : (ℕ → C) → ℕ → State
  steps s zero = start
  steps s (suc r) = step s r (steps s r)

  pub steps_zero : (s : ℕ → C) → steps s 0 ≡ start
  unfolding steps
  steps_zero s = refl

  pub steps_suc : (s : ℕ → C) (r : ℕ) → steps s (suc r) ≡ step s r (steps s r)
  unfolding steps
  steps_suc s r = refl

  pub steps_ext : (N : ℕ) (s s' : ℕ → C) → ((i : ℕ) → i < N → s i ≡ s' i) → steps s N ≡ steps s' N
  steps_ext zero s s' h = steps_zero s ∙ sym (steps_zero s')
  steps_ext (suc r) s s' h =
      steps_suc s r ∙ ap (step s r) (steps_ext r s s' (λ i l. h i (omega arith))) ∙ ap (advance r st) same ∙ sym (steps_suc s' r)
    where
      st : State
      st = steps s' r

      same : discrepancy s r st ≡ discrepancy s' r st
      same = sum_ext R (suc st.L) (λ i. st.q i ⊗ s (r - i)) (λ i. st.q i ⊗ s' (r - i)) (λ i l. ap (λ x. st.q i ⊗ x) (h (r - i) (omega arith)))
