-- One pass of a run in its work slice, whatever led there (src/pass.rt, which has the slice's layout). F may take 2n + 1 places: a pass of a state
-- that no run led to finds a degree of up to 2 × left.
--     generator_at          where f stands after the recurrence of 2 × left terms
--     held                 the run that a work slice holds, its degree D and its passes being known
--     pass_of, passed       the meaning's record of a pass; the code's, by A, left, t and the products made beside f(A)r's
--     Rule                 the terms that a pass ends with, and its products beside f(A)r's, by the meaning's `pass`: rule_whole, rule_early, rule_on, as
--                          there was no test, it found f(A)r zero, or not; rule_present: w = 0
--     makes_modulus        the modulus by its other name
--     Shortened            terms, recurrence and f(A)r, in a slice of which the places from `base` on are r's and the first `kept` stay:
--                          shortened, shortened_lent, shortened_window
--     Makes, Answers       what a pass leaves; what each case of an answer says
--     Passes               what a call answers and leaves: the meaning's `pass` of what was held, on AX
--     shortened_factors    F and f are what the product asks
--     made                 with F × f: a pass
--     makes_passed      .. its record counted together
use Rattle.std.specs.Prelude.{Result, Ok, Err, ◌≡◌, ◌≢◌, true, false, ℕ, ◌+◌, ◌-◌, ◌*◌, ◌≤◌, ◌<◌, length, take, get_or}
use Rattle.std.proofs.Math.Path.{refl, sym, ap₂}
use Rattle.std.proofs.Common.{ap, ◌∙◌, subst, zero-add, arith, take-take}
use mathlib.Core.List.{List, [], ◌∷◌, ◌++◌}
use Rattle.meaning.specs.List.{at, is_zero}
use Rattle.meaning.specs.Matrix.{Matrix, size, apply, multiplied, scaled}
use Rattle.meaning.specs.Recurrence.{degree, generator}
use Rattle.meaning.specs.Solver.{Pass, Run, projections, terms, multiply, pass_terms, test_at, end_pass, pass}
use Rattle.residue.specs.Prime.{Prime}
use Rattle.laws.specs.Recurrence.{generator_below}
use Rattle.laws.specs.Solver.{length_terms, pass_whole, pass_early, pass_on, pass_present}
use Rattle.checks.specs.Valid.{Vector}
use Rattle.checks.specs.Pass.{residual_at, pass_refusal}
use Rattle.wiedemann.specs.declared.pass.Pass.{Pass as CodePass}
use Rattle.refusal.specs.declared.Refusal.{Refusal}
use Rattle.refusal.specs.Number.{number_of}
use Rattle.laws.specs.Part.{part, length_part, at_part}
use Rattle.laws.specs.Lent.{lent, length_lent, take_lent, inner_lent, part_at, part_of_part, same_take, same_drop}
use Rattle.wiedemann.specs.Turns.{Sequenced, Generated, Applied}
use Rattle.recurrence.specs.Factor.{AreFactors, Multiplied}

abbrev pub generator_at : ℕ → ℕ → ℕ
generator_at n left = residual_at n + (3 * n + (2 * left + 2))

abbrev pub held : ℕ → List ℕ → ℕ → List Pass → Run
held n W D qs = record { residual = part (residual_at n) n W; factor = part 0 (D + 1) W; found = D; passes = qs }

abbrev pub pass_of : CodePass → Pass
pass_of q = record { left = q.left; degree = q.degree; applications = q.applications }

abbrev pub passed : Matrix → ℕ → ℕ → ℕ → CodePass
passed A left t made = record { left = left; degree = t; applications = made + t; multiplied = multiplied (made + t) A }

-- ---- how a pass ends

abbrev pub Rule : ℕ → Matrix → ℕ → List ℕ → ℕ → List ℕ → List ℕ → ℕ → Type 0
Rule p A w u left r taken made = (c : Run) → size A - c.found ≡ left → c.residual ≡ r → pass p A w u c ≡ end_pass p A taken made c

module _ (p : ℕ) (A : Matrix) (w : ℕ) (u : List ℕ) (left : ℕ) (r : List ℕ) where
  abbrev s : List ℕ
  s = terms p A left u r

  -- the terms of a run that stands there
  same_terms : (c : Run) → size A - c.found ≡ left → c.residual ≡ r → pass_terms p A u c ≡ terms p A left u r
  unfolding pass_terms
  same_terms c e f = ap₂ (λ l v. terms p A l u v) e f

  pub rule_whole : length (terms p A left u r) ≤ test_at p w (terms p A left u r) → Rule p A w u left r (terms p A left u r) (2 * left - 1)
  rule_whole l c e f =
      let t = same_terms c e f in
      pass_whole p A w u c (test_at p w (pass_terms p A u c)) refl (subst (λ x. length x ≤ test_at p w x) (sym t) l)
      ∙ ap₂ (λ x k. end_pass p A x (2 * k - 1) c) t e

  module _ (i : ℕ) (at_i : test_at p w (terms p A left u r) ≡ i) (l : i < 2 * left) where
    at_c : (c : Run) → pass_terms p A u c ≡ terms p A left u r → test_at p w (pass_terms p A u c) ≡ i
    at_c c t = ap (test_at p w) t ∙ at_i

    low_c : (c : Run) → pass_terms p A u c ≡ terms p A left u r → i < length (pass_terms p A u c)
    low_c c t = subst (λ x. i < length x) (sym t) (omega (arith, l, length_terms p A left u r))

    pub rule_early : is_zero (apply p A (generator p (take i (terms p A left u r))) r) ≡ true → Rule p A w u left r (take i (terms p A left u r)) (i - 1)
    rule_early z c e f =
        let t = same_terms c e f in
        pass_early p A w u c i (at_c c t) (low_c c t) (ap₂ (λ x v. is_zero (apply p A (generator p (take i x)) v)) t f ∙ z)
        ∙ ap (λ x. end_pass p A (take i x) (i - 1) c) t

    pub rule_on : is_zero (apply p A (generator p (take i (terms p A left u r))) r) ≡ false
        → Rule p A w u left r (terms p A left u r) (2 * left - 1 + degree p (take i (terms p A left u r)))
    rule_on z c e f =
        let t = same_terms c e f in
        pass_on p A w u c i (at_c c t) (low_c c t) (ap₂ (λ x v. is_zero (apply p A (generator p (take i x)) v)) t f ∙ z)
        ∙ ap₂ (λ x k. end_pass p A x (2 * k - 1 + degree p (take i x)) c) t e

pub rule_present : (p : ℕ) (A : Matrix) (u : List ℕ) (left : ℕ) (r : List ℕ) → Rule p A 0 u left r (terms p A left u r) (2 * left - 1)
rule_present p A u left r c e f =
    pass_present p A u c ∙ ap₂ (λ x k. end_pass p A x (2 * k - 1) c) (same_terms p A 0 u left r c e f) e

-- ---- terms, recurrence and f(A)r

pub record Shortened (p : ℕ) (A : Matrix) (w : ℕ) (u : List ℕ) (left kept base : ℕ) (W : List ℕ) (q : CodePass) (W' : List ℕ) : Type 0 where
  pub taken : List ℕ
  pub made : ℕ
  pub rule : Rule p A w u left (part base (size A) W) taken made
  pub counted : q ≡ passed A left q.degree made
  pub same_length : length W' ≡ length W
  pub front : take kept W' ≡ take kept W
  pub answer : q.degree ≡ degree p taken
  pub short : q.degree ≤ 2 * left
  pub residual : part base (size A) W' ≡ apply p A (generator p taken) (part base (size A) W)
  pub f : part (base + (3 * size A + (2 * left + 2))) (q.degree + 1) W' ≡ generator p taken

pub shortened : {p : ℕ} {A : Matrix} {left : ℕ} {u W W₁ W₂ W₃ : List ℕ} {q : CodePass} → 3 * size A ≤ length W → Sequenced p A left u W W₁
    → Generated p W₁ (3 * size A) (2 * left) W₂ q.degree → Applied p A W₂ (3 * size A + (2 * left + 2)) q.degree W₃
    → q ≡ passed A left q.degree (2 * left - 1) → Shortened p A 0 u left 0 0 W q W₃
shortened {p} {A} {left} {u} {W} {W₁} {W₂} {W₃} {q} l s g a e =
    record {
      taken = terms p A left u (part 0 (size A) W);
      made = 2 * left - 1;
      rule = rule_present p A u left (part 0 (size A) W);
      counted = e;
      same_length = a.same_length ∙ g.same_length ∙ s.same_length;
      front = refl;
      answer = g.answer ∙ ap (degree p) s.terms;
      short = g.short;
      residual = a.holds ∙ ap₂ (λ f r. apply p A f r) (g.f ∙ ap (generator p) s.terms) first;
      f =
          part_at W₃ (0 + (3 * size A + (2 * left + 2))) (q.degree + 1) (3 * size A + (2 * left + 2)) (q.degree + 1) (omega arith) refl
          ∙ same_drop (2 * left + 2) (q.degree + 1) (3 * size A) W₂ W₃ a.rest ∙ g.f ∙ ap (generator p) s.terms;
    }
  where
    first : part 0 (size A) W₂ ≡ part 0 (size A) W
    first = same_take 0 (size A) (3 * size A) W₁ W₂ (omega arith) (omega (arith, l, s.same_length)) g.same_length g.before ∙ s.front

-- the window by its other name
pub shortened_window : {p : ℕ} {A : Matrix} {w w' : ℕ} {u : List ℕ} {left kept base : ℕ} {W : List ℕ} {q : CodePass} {W' : List ℕ} → w ≡ w'
    → Shortened p A w u left kept base W q W' → Shortened p A w' u left kept base W q W'
shortened_window {p} {A} {u} {left} {kept} {base} {W} {q} {W'} e s = subst (λ w. Shortened p A w u left kept base W q W') e s

-- in the m places from a on, which were lent, in the end from a slice W₀ whose first `kept` places are W's
pub shortened_lent : {p : ℕ} {A : Matrix} {w : ℕ} {u : List ℕ} {left base : ℕ} {W : List ℕ} (kept a b m : ℕ) (W₀ : List ℕ) {q : CodePass} {Y : List ℕ} → kept ≤ a
    → length W₀ ≡ length W → take kept W₀ ≡ take kept W → a + base ≡ b → a + m ≤ length W → base + (3 * size A + (8 * left + 8)) ≤ m → length Y ≡ m
    → Shortened p A w u left 0 base (part a m W) q Y → Shortened p A w u left kept b W q (lent W₀ a m Y)
shortened_lent {p} {A} {w} {u} {left} {base} {W} kept a b m W₀ {q} {Y} low long stays e fits room same s =
    record {
      taken = s.taken;
      made = s.made;
      rule = subst (λ r. Rule p A w u left r s.taken s.made) old s.rule;
      counted = s.counted;
      same_length = length_lent W₀ a m Y fits₀ same ∙ long;
      front =
          sym (take-take kept a W' low) ∙ ap (take kept) (take_lent W₀ a m Y fits₀ same) ∙ take-take kept a W₀ low ∙ stays;
      answer = s.answer;
      short = s.short;
      residual =
          part_at W' b n (a + base) n (sym e) refl ∙ inner_lent W₀ a m Y fits₀ same base n (omega (arith, room)) ∙ s.residual
          ∙ ap (apply p A (generator p s.taken)) old;
      f =
          part_at W' (b + (3 * n + (2 * left + 2))) (t + 1) (a + (base + (3 * n + (2 * left + 2)))) (t + 1) (omega (arith, e)) refl
          ∙ inner_lent W₀ a m Y fits₀ same (base + (3 * n + (2 * left + 2))) (t + 1) (omega (arith, room, s.short)) ∙ s.f;
    }
  where
    n : ℕ
    n = size A

    t : ℕ
    t = q.degree

    W' : List ℕ
    W' = lent W₀ a m Y

    fits₀ : a + m ≤ length W₀
    fits₀ = omega (arith, fits, long)

    old : part base n (part a m W) ≡ part b n W
    old = part_of_part base n a m W (omega (arith, room)) fits ∙ part_at W (a + base) n b n e refl

-- ---- a pass

-- the meaning's `pass` of what was held; its products are counted by entry too
pub record Makes (p : ℕ) (A : Matrix) (w : ℕ) (u : List ℕ) (D : ℕ) (W : List ℕ) (q : CodePass) (W' : List ℕ) : Type 0 where
  pub same_length : length W' ≡ length W
  pub run : (qs : List Pass) → held (size A) W' (D + q.degree) (qs ++ (pass_of q ∷ [])) ≡ pass p A w u (held (size A) W D qs)
  pub by_entry : q.multiplied ≡ multiplied q.applications A

-- "a refusal returns its number and no other answer .. and every lent slice keeps its contents"
abbrev pub Answers : ℕ → Matrix → ℕ → List ℕ → ℕ → List ℕ → ℕ → Result CodePass Refusal → List ℕ → Type 0
Answers p A w u D W number (Ok q) W' = (number ≡ 0) × Makes p A w u D W q W'
Answers p A w u D W number (Err r) W' = (number ≡ number_of r) × (number_of r ≢ 0) × (W' ≡ W)

abbrev pub Passes : ℕ → Matrix → List ℕ → List ℕ → ℕ → ℕ → ℕ → List ℕ → Result CodePass Refusal → List ℕ → Type 0
Passes p A X words w j D W r W' = Answers p (scaled p A X) w (get_or (projections p (size A) words) j []) D W (pass_refusal p A X words D W) r W'

same_held : {r r' F F' : List ℕ} {D D' : ℕ} {qs qs' : List Pass} → r ≡ r' → F ≡ F' → D ≡ D' → qs ≡ qs'
    → ◌≡◌ {A = Run} (record { residual = r; factor = F; found = D; passes = qs }) (record { residual = r'; factor = F'; found = D'; passes = qs' })
same_held {r} {r'} {F} {F'} {D} {D'} {qs} {qs'} a b c d =
    ap {B = Run} (λ x. record { residual = x; factor = F; found = D; passes = qs }) a
    ∙ ap {B = Run} (λ x. record { residual = r'; factor = x; found = D; passes = qs }) b
    ∙ ap {B = Run} (λ x. record { residual = r'; factor = F'; found = x; passes = qs }) c
    ∙ ap {B = Run} (λ x. record { residual = r'; factor = F'; found = D'; passes = x }) d

module _ {p : ℕ} {A : Matrix} {w : ℕ} {u W W₁ : List ℕ} {q : CodePass} (D : ℕ) (below : D < size A)
    (a : Shortened p A w u (size A - D) (2 * size A + 1) (residual_at (size A)) W q W₁) where
  abbrev n : ℕ
  n = size A

  abbrev t : ℕ
  t = q.degree

  within : D + t ≤ 2 * n
  within = omega (arith, a.short, below)

  -- F's coefficients passed check 9, f's are a generator's
  pub shortened_factors : Prime p → size A ≤ 4096 → Vector p (D + 1) (part 0 (D + 1) W)
      → (f m : ℕ) → f ≡ generator_at (size A) (size A - D) → f + q.degree < m → m ≤ length W → AreFactors p (part 0 m W₁) D f q.degree
  shortened_factors prime sized F f m e inside fits =
      record {
        few = omega (arith, within, sized);
        below = omega (arith, within, e);
        room = omega (arith, length_part 0 m W₁ long, inside);
        left =
            λ i l.
            subst (λ x. x < p)
            (ap (λ g. at g i) (sym front) ∙ at_part 0 (D + 1) W₁ i (omega (arith, l)) ∙ sym (at_part 0 m W₁ i (omega (arith, l, within, e, inside))))
            (F.below i (omega (arith, l)));
        right =
            λ i l.
            subst (λ x. x < p)
            (ap (λ g. at g i) (sym (part_at W₁ f (t + 1) (generator_at n (n - D)) (t + 1) e refl ∙ a.f)) ∙ at_part f (t + 1) W₁ i (omega (arith, l))
            ∙ sym (at_part 0 m W₁ (f + i) (omega (arith, l, inside)) ∙ ap (at W₁) (zero-add (f + i))))
            (generator_below p prime.two_le a.taken i);
      }
    where
      long : 0 + m ≤ length W₁
      long = omega (arith, fits, a.same_length)

      front : part 0 (D + 1) W₁ ≡ part 0 (D + 1) W
      front = same_take 0 (D + 1) (2 * n + 1) W W₁ (omega (arith, below)) (omega (arith, fits, inside, e)) a.same_length a.front

  pub made : {W₂ : List ℕ} → 16 * size A + 16 ≤ length W → (f : ℕ) → f ≡ generator_at (size A) (size A - D) → Multiplied p W₁ D f q.degree W₂
      → (qs : List Pass) → held (size A) W₂ (D + q.degree) (qs ++ (pass_of (passed A (size A - D) q.degree a.made) ∷ [])) ≡ pass p A w u (held (size A) W D qs)
  unfolding end_pass
  made {W₂} room f e m qs =
      same_held residual factor (ap (λ k. D + k) a.answer)
      (ap {B = List Pass} (λ k. qs ++ (record { left = n - D; degree = k; applications = a.made + k } ∷ [])) a.answer)
      ∙ sym (a.rule (held n W D qs) refl refl)
    where
      residual : part (residual_at n) n W₂ ≡ apply p A (generator p a.taken) (part (residual_at n) n W)
      residual =
          part_at W₂ (residual_at n) n (D + t + 1 + (5 * n - (D + t))) n place refl ∙ same_drop (5 * n - (D + t)) n (D + t + 1) W₁ W₂ m.rest
          ∙ part_at W₁ (D + t + 1 + (5 * n - (D + t))) n (residual_at n) n (sym place) refl ∙ a.residual
        where
          place : residual_at n ≡ D + t + 1 + (5 * n - (D + t))
          place = omega (arith, within)

      factor : part 0 (D + t + 1) W₂ ≡ multiply p (part 0 (D + 1) W) (generator p a.taken)
      factor =
          m.product
          ∙ ap₂ (multiply p) (same_take 0 (D + 1) (2 * n + 1) W W₁ (omega (arith, below)) (omega (arith, room)) a.same_length a.front)
          (part_at W₁ f (t + 1) (generator_at n (n - D)) (t + 1) e refl ∙ a.f)

-- the record that was counted together
pub makes_passed : {p : ℕ} {A : Matrix} {w : ℕ} {u W W' : List ℕ} {D left : ℕ} {q : CodePass} (k : ℕ) → q ≡ passed A left q.degree k → length W' ≡ length W
    → ((qs : List Pass) → held (size A) W' (D + q.degree) (qs ++ (pass_of (passed A left q.degree k) ∷ [])) ≡ pass p A w u (held (size A) W D qs))
    → Makes p A w u D W q W'
makes_passed {p} {A} {w} {u} {W} {W'} {D} {left} {q} k e long run =
    record {
      same_length = long;
      run = λ qs. ap {B = Run} (λ x. held (size A) W' (D + q.degree) (qs ++ (pass_of x ∷ []))) e ∙ run qs;
      by_entry = ap (λ (x : CodePass). x.multiplied) e ∙ ap (λ (x : CodePass). multiplied x.applications A) (sym e);
    }

-- the modulus by its other name
pub makes_modulus : {m p : ℕ} (A : Matrix) (X : List ℕ) {w : ℕ} (words : List ℕ) (j : ℕ) {D : ℕ} {W : List ℕ} {q : CodePass} {W' : List ℕ} → m ≡ p
    → Makes m (scaled m A X) w (get_or (projections m (size A) words) j []) D W q W' → Makes p (scaled p A X) w (get_or (projections p (size A) words) j []) D W q W'
makes_modulus A X {w} words j {D} {W} {q} {W'} e h = subst (λ p. Makes p (scaled p A X) w (get_or (projections p (size A) words) j []) D W q W') e h
