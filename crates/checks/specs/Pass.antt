-- What one pass of a run is refused for, in the run's work slice (wiedemann, src/pass.rt, has its layout): F at the front, r behind the 2n + 1 places
-- that F may take.
--     residual_at           where r begins
--     held_elements         F and r hold elements below p
--     state_checks          8: D is below n; 10: the words; 11: the work slice; 9: an element of F or r
--     pass_refusal          3 to 7 for field, matrix and scales, then these
--     refused_state        where field and matrix pass
--     state_8, state_10, state_11, state_9, state_0      the number, by the first check that turns the state down
--     State, state_of      what the checks leave known of a state
--     pass_accepted        .. and of field, matrix and scales
use Rattle.std.specs.Prelude.{◌≡◌, Bool, true, false, ◌&&◌, List, [], ◌∷◌, ◌++◌, ℕ, ◌+◌, ◌*◌, ◌≤◌, ◌<◌, ltb, leb, length}
use Rattle.std.proofs.Common.{ap, ◌∙◌, arith, ltb-true, leb-true, lt-ltb, le-ltb, le-leb}
use Rattle.std.proofs.Math.Bool.{not}
use Rattle.std.proofs.lemmas.Bool.{lt-leb}
use Rattle.meaning.specs.Matrix.{Matrix, size}
use Rattle.meaning.specs.Refusal.{Check, check, first, elements, scaled_checks, words_taken}
use Rattle.laws.specs.Bool.{and_left, and_right}
use Rattle.laws.specs.Part.{part, length_part}
use Rattle.laws.specs.Refusal.{first_nil, first_past, first_stops, first_passed, first_append_none, first_append_zero, numbered_scaled}
use Rattle.checks.specs.Valid.{Vector, vector_of}

abbrev pub residual_at : ℕ → ℕ
residual_at n = 5 * n + 1

abbrev pub held_elements : ℕ → ℕ → ℕ → List ℕ → Bool
held_elements p n D work = elements p (part 0 (D + 1) work) && elements p (part (residual_at n) n work)

unfoldable pub state_checks : ℕ → ℕ → ℕ → List ℕ → List ℕ → List Check
state_checks p n D words work =
    check 8 (not (ltb D n))
    ∷ check 10 (not (words_taken n words))
    ∷ check 11 (not (leb (16 * n + 16) (length work)))
    ∷ check 9 (not (held_elements p n D work))
    ∷ []

unfoldable pub pass_refusal : ℕ → Matrix → List ℕ → List ℕ → ℕ → List ℕ → ℕ
pass_refusal p A X words D work = first (scaled_checks p A X ++ state_checks p (size A) D words work)

pub refused_state : (p : ℕ) (A : Matrix) (X words : List ℕ) (D : ℕ) (work : List ℕ) → first (scaled_checks p A X) ≡ 0
    → pass_refusal p A X words D work ≡ first (state_checks p (size A) D words work)
unfolding pass_refusal
refused_state p A X words D work e = first_append_none (scaled_checks p A X) (state_checks p (size A) D words work) (numbered_scaled p A X) e

module _ (p n D : ℕ) (words work : List ℕ) where
  pub state_8 : n ≤ D → first (state_checks p n D words work) ≡ 8
  unfolding state_checks
  state_8 l = first_stops 8 (not (ltb D n)) _ (ap not (le-ltb D n l))

  module _ (below : D < n) where
    pub state_10 : words_taken n words ≡ false → first (state_checks p n D words work) ≡ 10
    unfolding state_checks
    state_10 t = first_past 8 (not (ltb D n)) _ (ap not (lt-ltb D n below)) ∙ first_stops 10 (not (words_taken n words)) _ (ap not t)

    module _ (taken : words_taken n words ≡ true) where
      past_10 : first (state_checks p n D words work)
          ≡ first (check 11 (not (leb (16 * n + 16) (length work))) ∷ check 9 (not (held_elements p n D work)) ∷ [])
      unfolding state_checks
      past_10 = first_past 8 (not (ltb D n)) _ (ap not (lt-ltb D n below)) ∙ first_past 10 (not (words_taken n words)) _ (ap not taken)

      pub state_11 : length work < 16 * n + 16 → first (state_checks p n D words work) ≡ 11
      state_11 l = past_10 ∙ first_stops 11 (not (leb (16 * n + 16) (length work))) _ (ap not (lt-leb (16 * n + 16) (length work) l))

      module _ (room : 16 * n + 16 ≤ length work) where
        past_11 : first (state_checks p n D words work) ≡ first (check 9 (not (held_elements p n D work)) ∷ [])
        past_11 = past_10 ∙ first_past 11 (not (leb (16 * n + 16) (length work))) _ (ap not (le-leb (16 * n + 16) (length work) room))

        pub state_9 : held_elements p n D work ≡ false → first (state_checks p n D words work) ≡ 9
        state_9 t = past_11 ∙ first_stops 9 (not (held_elements p n D work)) _ (ap not t)

        pub state_0 : held_elements p n D work ≡ true → first (state_checks p n D words work) ≡ 0
        state_0 t = past_11 ∙ first_past 9 (not (held_elements p n D work)) _ (ap not t) ∙ first_nil

pub record State (p n D : ℕ) (words work : List ℕ) : Type 0 where
  pub below : D < n
  pub words_taken_law : words_taken n words ≡ true
  pub room : 16 * n + 16 ≤ length work
  pub factor : Vector p (D + 1) (part 0 (D + 1) work)
  pub residual : Vector p n (part (residual_at n) n work)

pub state_of : (p n D : ℕ) (words work : List ℕ) → first (state_checks p n D words work) ≡ 0 → State p n D words work
unfolding state_checks
state_of p n D words work e =
    let eight = first_passed 8 (ltb D n) _ (omega arith) e in
    let ten = first_passed 10 (words_taken n words) _ (omega arith) eight.1 in
    let eleven = first_passed 11 (leb (16 * n + 16) (length work)) _ (omega arith) ten.1 in
    let nine = first_passed 9 (held_elements p n D work) _ (omega arith) eleven.1 in
    let below = ltb-true D n eight.0 in
    let room = leb-true (16 * n + 16) (length work) eleven.0 in
    let F = part 0 (D + 1) work in
    let r = part (residual_at n) n work in
    record {
      below = below;
      words_taken_law = ten.0;
      room = room;
      factor = vector_of p F (D + 1) (length_part 0 (D + 1) work (omega (arith, below, room))) (and_left (elements p F) (elements p r) nine.0);
      residual = vector_of p r n (length_part (residual_at n) n work (omega (arith, room))) (and_right (elements p F) (elements p r) nine.0);
    }

pub pass_accepted : (p : ℕ) (A : Matrix) (X words : List ℕ) (D : ℕ) (work : List ℕ) → pass_refusal p A X words D work ≡ 0
    → (first (scaled_checks p A X) ≡ 0) × State p (size A) D words work
unfolding pass_refusal
pass_accepted p A X words D work z =
    let both = first_append_zero (scaled_checks p A X) (state_checks p (size A) D words work) (numbered_scaled p A X) z in
    (both.0, state_of p (size A) D words work both.1)
