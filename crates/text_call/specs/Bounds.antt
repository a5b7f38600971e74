-- How large a run's numbers are, and how long its answer's text is.
--     term_cost_bounded     the terms of k passes with left up to 128 cost at most 256 × k
--     Small p n o          an outcome's degree, passes, applications and entries multiplied, each pass, and the lengths and elements of its two lists
--     run_small            the outcome of every run without words on a system of at most 128 rows
--     answer_fits          its text has at most 7,168 bytes
--     answer_long          every answer's text has more than 18
use Rattle.std.specs.Prelude.{◌≡◌, Bool, true, false, cond, ℕ, ◌+◌, ◌-◌, ◌*◌, ◌≤◌, ◌<◌}
use Rattle.std.proofs.Math.Path.{refl}
use Rattle.std.proofs.Common.{sym, subst, ◌∙◌}
use mathlib.Core.List.{List, [], ◌∷◌, ◌++◌, map}
use Rattle.laws.specs.Accepted.{run_accepted}
use Rattle.laws.specs.Products.{every_run_by_entry}
use Rattle.laws.specs.Solver.{vector_count_nil, AllWithin, run_within}
use Rattle.std.proofs.Math.Nat.{mul-le-mul}
use native.Mathlib.Omega.{arith}
use Rattle.std.proofs.Math.ListN.{length, length-append}
use Rattle.meaning.specs.List.{at, table, is_zero, flat, bytes}
use Rattle.meaning.specs.Matrix.{Matrix, size, scaled}
use Rattle.meaning.specs.Solver.{Pass, Kind, solved, singular, Outcome, pass_count, applications, close_cost, charge, projections, begin, run, verdict, close, outcome, answered, solve}
use Rattle.meaning.specs.ThirdCondition.{term_cost, ThirdCondition}
use Rattle.meaning.specs.Text.{decimal, line}
use Rattle.meaning.specs.Answer.{kind_word, vector_word, pass_lines, answer_text}
use Rattle.meaning.specs.Refusal.{first}
use Rattle.meaning.specs.Calls.{run_checks}
use Rattle.laws.specs.Recurrence.{monic_length, monic_elements}
use Rattle.residue.specs.Lists.{Reduced}
use Rattle.bridge.specs.Lists.{every_reduced}
use Rattle.bridge.specs.Run.{term_cost_nil, term_cost_cons, run_found}
use Rattle.bridge.specs.Scaled.{length_diagonal, reduced_diagonal}
use Rattle.bridge.specs.ThirdCondition.{accepted, every_run, verdict_vector}
use Rattle.text_laws.specs.Numeral.{decimal_short, decimal_bounded, decimal_positive}
use Rattle.text_laws.specs.Line.{length_line_last, length_line_more}
use Rattle.text_laws.specs.Length.{length_line_three, length_line_four, length_flat_rows}

pub term_cost_bounded : (left : ℕ) (qs : List Pass) → left ≤ 128 → term_cost left qs ≤ 256 * length qs
term_cost_bounded left [] h = omega (arith, term_cost_nil left)
term_cost_bounded left (q ∷ qs) h =
    omega (arith, term_cost_cons left q qs, term_cost_bounded (left - q.degree) qs (omega arith))

pub record Small (p n : ℕ) (o : Outcome) : Type 0 where
  pub degree_low : o.degree ≤ n
  pub passes_few : pass_count o ≤ n
  pub applications_few : applications o ≤ 33023
  pub multiplied_few : o.multiplied ≤ 4294967295
  pub passes_within : AllWithin n 0 o.passes
  pub vector_length : length o.vector ≡ n
  pub vector_below : Reduced p o.vector
  pub polynomial_length : length o.polynomial ≡ o.degree + 1
  pub polynomial_below : Reduced p o.polynomial

module _ (p : ℕ) (A : Matrix) (X b : List ℕ) (e : first (run_checks p A X b [] 0) ≡ 0) (h : size A ≤ 128) where
  abbrev o : Outcome
  o = solve p A X b [] 0

  cost : ThirdCondition p A X b [] 0 o → pass_count o ≤ size A → o.degree ≤ size A → applications o ≤ 33023
  cost third few D = subst (λ k. k ≤ 33023) (sym (third.counted refl)) (go (is_zero b))
    where
      go : (z : Bool) → cond z 0 (term_cost (size A) o.passes + (2 * o.degree - 1)) ≤ 33023
      go true = omega arith
      go false = omega (arith, term_cost_bounded (size A) o.passes h)

  pub run_small : Small p (size A) o
  unfolding solve answered outcome close begin
  run_small =
      let a = accepted p A X b [] 0 e in
      let third = every_run p A X b [] 0 e in
      let AX = scaled p A X in
      let us = projections p (size A) [] in
      let c = run p AX 0 us (begin b) in
      let y = (verdict p AX b c.factor c.found).1 in
      let D : o.degree ≤ size A = run_found p a.prime AX b a.size_b a.reduced_b 0 us in
      let few : pass_count o ≤ size A = omega (arith, third.few, vector_count_nil (size A)) in
      let applied = cost third few D in
      record {
        degree_low = D;
        passes_few = few;
        applications_few = applied;
        multiplied_few =
            omega (arith, every_run_by_entry p A X b [] 0 e, mul-le-mul applied (run_accepted p A X b [] 0 e).system.few);
        passes_within = run_within p AX a.prime.two_le 0 us (begin b) tt;
        vector_length = length_diagonal p X y ∙ (verdict_vector p a.prime AX b c.factor c.found).0;
        vector_below = reduced_diagonal p X y (omega (arith, a.prime.two_le));
        polynomial_length = monic_length p o.degree o.polynomial third.monic;
        polynomial_below = every_reduced p o.polynomial (monic_elements p o.degree o.polynomial third.monic);
      }

-- ---- the answer's text

length_vector_word : (k : Kind) → length (vector_word k) ≡ 1
unfolding bytes
length_vector_word solved = refl
length_vector_word singular = refl

kind_word_low : (k : Kind) → 6 ≤ length (kind_word k)
unfolding bytes
kind_word_low solved = omega arith
kind_word_low singular = omega arith

kind_word_high : (k : Kind) → length (kind_word k) ≤ 8
unfolding bytes
kind_word_high solved = omega arith
kind_word_high singular = omega arith

-- a letter, a numeral of up to three digits and one of up to ten
length_letter : (w : List ℕ) (a b : ℕ) → length w ≡ 1 → a < 1000 → b ≤ 4294967295 → length (line (w ∷ decimal a ∷ decimal b ∷ [])) ≤ 17
length_letter w a b e ha hb = omega (arith, length_line_three w (decimal a) (decimal b), decimal_short 2 a (omega arith), decimal_bounded b hb)

-- a word of four letters and four numerals of up to three digits
length_pass : (w : List ℕ) (a b c d : ℕ) → length w ≡ 4 → a < 1000 → b < 1000 → c < 1000 → d < 1000
    → length (line (w ∷ decimal a ∷ decimal b ∷ decimal c ∷ decimal d ∷ [])) ≤ 21
length_pass w a b c d e ha hb hc hd =
    omega (
      arith,
      length_line_more w (decimal a) (decimal b ∷ decimal c ∷ decimal d ∷ []),
      length_line_four (decimal a) (decimal b) (decimal c) (decimal d),
      decimal_short 2 a (omega arith),
      decimal_short 2 b (omega arith),
      decimal_short 2 c (omega arith),
      decimal_short 2 d (omega arith),
    )

length_passes : (k n : ℕ) (qs : List Pass) → n ≤ 128 → k + length qs ≤ 1000 → AllWithin n 0 qs → length (pass_lines k qs) ≤ 21 * length qs
unfolding pass_lines bytes
length_passes k n [] hn hk w = omega arith
length_passes k n (q ∷ qs) hn hk w =
    let left : q.left ≤ 128 = omega (arith, w.0.left_low) in
    let t : q.degree ≤ 256 = omega (arith, w.0.degree_low) in
    let cost : q.applications < 1000 = omega (arith, w.0.cost refl) in
    let this = line (bytes "pass" ∷ decimal k ∷ map decimal (charge q)) in
    omega (
      arith,
      length-append this (pass_lines (k + 1) qs),
      length_pass (bytes "pass") k q.left q.degree q.applications refl (omega arith) (omega arith) (omega arith) cost,
      length_passes (k + 1) n qs hn (omega arith) w.1,
    )

length_lines : (n : ℕ) (g : ℕ → List ℕ) → ((i : ℕ) → i < n → length (g i) ≤ 17) → length (flat (table n g)) ≤ 17 * n
length_lines n g h = omega (arith, length_flat_rows (λ i. i) 17 n g (λ i l. omega (arith, h i l)))

module _ (o : Outcome) where
  abbrev head : List ℕ
  head = line (bytes "answer" ∷ kind_word o.kind ∷ decimal o.degree ∷ decimal (pass_count o) ∷ decimal (applications o) ∷ decimal o.multiplied ∷ [])

  abbrev powers : List ℕ
  powers = flat (table (o.degree + 1) (λ i. line (bytes "f" ∷ decimal i ∷ decimal (at o.polynomial i) ∷ [])))

  abbrev places : List ℕ
  places = flat (table (length o.vector) (λ i. line (vector_word o.kind ∷ decimal (i + 1) ∷ decimal (at o.vector i) ∷ [])))

  abbrev ends : List ℕ
  ends = line (bytes "end" ∷ [])

  abbrev passes : List ℕ
  passes = pass_lines 1 o.passes

  abbrev closes : List ℕ
  closes = line (bytes "close" ∷ decimal (close_cost o.degree) ∷ [])

  length_answer : length (answer_text o) ≡ length head + length passes + length closes + length powers + length places + 4
  unfolding answer_text bytes
  length_answer =
      omega (
        arith,
        length-append (head ++ passes ++ closes ++ powers ++ places) ends,
        length-append (head ++ passes ++ closes ++ powers) places,
        length-append (head ++ passes ++ closes) powers,
        length-append (head ++ passes) closes,
        length-append head passes,
        length_line_last (bytes "end"),
      )

  length_head :
      length head
      ≡ 6 + length (kind_word o.kind) + length (decimal o.degree) + length (decimal (pass_count o)) + length (decimal (applications o))
      + length (decimal o.multiplied) + 6
  unfolding bytes
  length_head =
      let d = decimal o.degree in
      let q = decimal (pass_count o) in
      let a = decimal (applications o) in
      let m = decimal o.multiplied in
      omega (
        arith,
        length_line_more (bytes "answer") (kind_word o.kind) (d ∷ q ∷ a ∷ m ∷ []),
        length_line_more (kind_word o.kind) d (q ∷ a ∷ m ∷ []),
        length_line_four d q a m,
      )

  pub answer_long : 18 < length (answer_text o)
  answer_long =
      omega (
        arith,
        length_answer,
        length_head,
        kind_word_low o.kind,
        decimal_positive o.degree,
        decimal_positive (pass_count o),
        decimal_positive (applications o),
      )

  module _ (p n : ℕ) (s : Small p n o) (hp : p ≤ 2147483647) (hn : n ≤ 128) where
    pub answer_fits : length (answer_text o) ≤ 7168
    unfolding bytes
    answer_fits =
        let few = s.degree_low in
        let D = o.degree in
        let powers_short : length powers ≤ 17 * (D + 1) =
        length_lines (D + 1) (λ i. line (bytes "f" ∷ decimal i ∷ decimal (at o.polynomial i) ∷ []))
        (λ i l. length_letter (bytes "f") i (at o.polynomial i) refl (omega arith)
        (omega (arith, s.polynomial_below i (omega (arith, s.polynomial_length))))) in
        let places_short : length places ≤ 17 * length o.vector =
        length_lines (length o.vector) (λ i. line (vector_word o.kind ∷ decimal (i + 1) ∷ decimal (at o.vector i) ∷ []))
        (λ i l. length_letter (vector_word o.kind) (i + 1) (at o.vector i) (length_vector_word o.kind) (omega (arith, s.vector_length))
        (omega (arith, s.vector_below i l))) in
        let closes_short : length closes ≤ 10 =
        omega (
          arith,
          length_line_more (bytes "close") (decimal (close_cost o.degree)) [],
          length_line_last (decimal (close_cost o.degree)),
          decimal_short 2 (close_cost o.degree) (omega arith),
        ) in
        omega (
          arith,
          length_answer,
          length_head,
          length_passes 1 n o.passes hn (omega (arith, s.passes_few)) s.passes_within,
          s.passes_few,
          closes_short,
          kind_word_high o.kind,
          decimal_short 2 D (omega arith),
          decimal_short 2 (pass_count o) (omega (arith, s.passes_few)),
          decimal_short 4 (applications o) (omega (arith, s.applications_few)),
          decimal_bounded o.multiplied s.multiplied_few,
          s.vector_length,
        )
