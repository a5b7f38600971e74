-- Laws of `first` (meaning's Refusal).
--     first_nil, first_cons          its clauses
--     first_past                     past a check that does not turn the input down
--     first_stops                    at one that does
--     first_none                     where no check turns the input down, the first does not, nor do the rest
--     first_passed, first_pass       the same of a check that asks whether something fails: it holds; and back
--     Numbered cs                    no check is numbered 0
--     numbered_scaled, numbered_matrix, numbered_system, numbered_run, numbered_text      .. of document 01's
--     first_append_none, first_append_some, first_append, first_append_zero      checks followed by further ones
--     zero_by, leading_refused, leading_passed      the same where the code has the leading checks' number
--     no_words                       an empty list of words is taken
--     unless_refused_none, unless_refused_some                       what is left behind, by the number
--     within_low, within_high, within_of      what within says
use Rattle.std.specs.Prelude.{◌≡◌, refl, ◌≢◌, Bool, true, false, cond, not, List, [], ◌∷◌, ◌++◌, ℕ, zero, suc, ◌*◌, ◌%◌, ◌≤◌, eqb, leb}
use Rattle.std.proofs.Common.{sym, ap, ◌∙◌, arith, eq-eqb, ne_eqb, le-leb, leb-true}
use Rattle.std.proofs.Math.Nat.{zero-mod}
use Rattle.std.proofs.Math.Decide.{ℕ_discrete}
use Rattle.std.proofs.lemmas.Bool.{eqb-false, not-true, not-false}
use Rattle.meaning.specs.List.{every}
use Rattle.meaning.specs.Matrix.{Matrix}
use Rattle.meaning.specs.Refusal.{Check, check, first, unless_refused, within, scaled_checks, matrix_checks, words_taken, document_checks}
use Rattle.meaning.specs.Calls.{system_checks, run_checks, text_checks}
use Rattle.laws.specs.Bool.{and_left, and_right, and_both}
use Rattle.laws.specs.List.{every_cons}

pub first_nil : first [] ≡ 0
unfolding first
first_nil = refl

pub first_cons : (c : Check) (cs : List Check) → first (c ∷ cs) ≡ cond c.turns_down c.number (first cs)
unfolding first
first_cons c cs = refl

pub first_past : (k : ℕ) (t : Bool) (cs : List Check) → t ≡ false → first (check k t ∷ cs) ≡ first cs
first_past k t cs e = first_cons (check k t) cs ∙ ap (λ b. cond b k (first cs)) e

pub first_stops : (k : ℕ) (t : Bool) (cs : List Check) → t ≡ true → first (check k t ∷ cs) ≡ k
first_stops k t cs e = first_cons (check k t) cs ∙ ap (λ b. cond b k (first cs)) e

pub first_none : (k : ℕ) (t : Bool) (cs : List Check) → k ≢ 0 → first (check k t ∷ cs) ≡ 0 → (t ≡ false) × (first cs ≡ 0)
first_none k true cs q e = absurd (q (sym (first_stops k true cs refl) ∙ e))
first_none k false cs q e = (refl, sym (first_past k false cs refl) ∙ e)

pub first_passed : (k : ℕ) (t : Bool) (cs : List Check) → k ≢ 0 → first (check k (not t) ∷ cs) ≡ 0 → (t ≡ true) × (first cs ≡ 0)
first_passed k t cs q e = let none = first_none k (not t) cs q e in (not-false t none.0, none.1)

pub first_pass : (k : ℕ) (t : Bool) (cs : List Check) → t ≡ true → first cs ≡ 0 → first (check k (not t) ∷ cs) ≡ 0
first_pass k t cs h e = first_past k (not t) cs (ap not h) ∙ e

-- no check is numbered 0
abbrev pub Numbered : List Check → Type 0
Numbered cs = every (λ c. not (eqb c.number 0)) cs ≡ true

pub numbered_scaled : (p : ℕ) (A : Matrix) (X : List ℕ) → Numbered (scaled_checks p A X)
unfolding scaled_checks every
numbered_scaled p A X = refl

pub numbered_matrix : (p : ℕ) (A : Matrix) → Numbered (matrix_checks p A)
numbered_matrix p A = numbered_scaled p A []

pub numbered_system : (p : ℕ) (A : Matrix) (X b : List ℕ) → Numbered (system_checks p A X b)
unfolding system_checks scaled_checks every
numbered_system p A X b = refl

pub numbered_run : (p : ℕ) (A : Matrix) (X b words : List ℕ) (w : ℕ) → Numbered (run_checks p A X b words w)
unfolding run_checks system_checks scaled_checks every
numbered_run p A X b words w = refl

pub numbered_text : (text : List ℕ) → Numbered (text_checks text)
unfolding text_checks document_checks every
numbered_text text = refl

pub first_append_none : (cs ds : List Check) → Numbered cs → first cs ≡ 0 → first (cs ++ ds) ≡ first ds
first_append_none [] ds n e = refl
first_append_none (c ∷ cs) ds n e =
    let here = sym (every_cons (λ d. not (eqb d.number 0)) c cs) ∙ n in
    let rest = and_right (not (eqb c.number 0)) (every (λ d. not (eqb d.number 0)) cs) here in
    let nonzero = eqb-false c.number 0 (not-true (eqb c.number 0) (and_left (not (eqb c.number 0)) (every (λ d. not (eqb d.number 0)) cs) here)) in
    let past = first_none c.number c.turns_down cs nonzero e in
    first_past c.number c.turns_down (cs ++ ds) past.0 ∙ first_append_none cs ds rest past.1

pub first_append_some : (cs ds : List Check) → first cs ≢ 0 → first (cs ++ ds) ≡ first cs
first_append_some [] ds q = absurd (q first_nil)
first_append_some (c ∷ cs) ds q = go c.turns_down refl (first_append_some cs ds)
  where
    go : (t : Bool) → c.turns_down ≡ t → (first cs ≢ 0 → first (cs ++ ds) ≡ first cs) → first (c ∷ cs ++ ds) ≡ first (c ∷ cs)
    go true e ih = first_stops c.number c.turns_down (cs ++ ds) e ∙ sym (first_stops c.number c.turns_down cs e)
    go false e ih =
        first_past c.number c.turns_down (cs ++ ds) e ∙ ih (λ z. q (first_past c.number c.turns_down cs e ∙ z))
        ∙ sym (first_past c.number c.turns_down cs e)

pub first_append : (cs ds : List Check) → Numbered cs → first (cs ++ ds) ≡ unless_refused (first cs) (first ds) (first cs)
first_append cs ds n = go (ℕ_discrete (first cs) 0)
  where
    go : Dec (first cs ≡ 0) → first (cs ++ ds) ≡ unless_refused (first cs) (first ds) (first cs)
    go (yes z) = first_append_none cs ds n z ∙ ap (λ t. cond t (first ds) (first cs)) (sym (eq-eqb (first cs) 0 z))
    go (no q) = first_append_some cs ds q ∙ ap (λ t. cond t (first ds) (first cs)) (sym (ne_eqb (first cs) 0 q))

pub first_append_zero : (cs ds : List Check) → Numbered cs → first (cs ++ ds) ≡ 0 → (first cs ≡ 0) × (first ds ≡ 0)
first_append_zero cs ds n e = go (ℕ_discrete (first cs) 0)
  where
    go : Dec (first cs ≡ 0) → (first cs ≡ 0) × (first ds ≡ 0)
    go (yes z) = (z, sym (first_append_none cs ds n z) ∙ e)
    go (no q) = absurd (q (sym (first_append_some cs ds q) ∙ e))

-- the code's way past checks whose number it has
pub zero_by : {a b : ℕ} → a ≡ b → a ≡ 0 → b ≡ 0
zero_by e z = sym e ∙ z

module _ (cs ds : List Check) {number : ℕ} (numbered : Numbered cs) (answer : number ≡ first cs) where
  pub leading_refused : number ≢ 0 → number ≡ first (cs ++ ds)
  leading_refused q = answer ∙ sym (first_append_some cs ds (λ z. q (answer ∙ z)))

  pub leading_passed : {k : ℕ} → number ≡ 0 → first ds ≡ k → k ≡ first (cs ++ ds)
  leading_passed z e = sym (first_append_none cs ds numbered (zero_by answer z) ∙ e)

module _ {A : Type 0} where
  pub unless_refused_none : (k : ℕ) (new old : A) → k ≡ 0 → unless_refused k new old ≡ new
  unless_refused_none k new old e = ap (λ t. cond t new old) (eq-eqb k 0 e)

  pub unless_refused_some : (k : ℕ) (new old : A) → k ≢ 0 → unless_refused k new old ≡ old
  unless_refused_some k new old q = ap (λ t. cond t new old) (ne_eqb k 0 q)

pub no_words : (n : ℕ) → words_taken n [] ≡ true
unfolding words_taken
no_words zero = refl
no_words (suc m) = and_both (eq-eqb (0 % suc m) 0 (zero-mod (suc m))) (le-leb 0 (64 * suc m) (omega arith))

pub within_low : (a b x : ℕ) → within a b x ≡ true → a ≤ x
within_low a b x e = leb-true a x (and_left (leb a x) (leb x b) e)

pub within_high : (a b x : ℕ) → within a b x ≡ true → x ≤ b
within_high a b x e = leb-true x b (and_right (leb a x) (leb x b) e)

pub within_of : (a b x : ℕ) → a ≤ x → x ≤ b → within a b x ≡ true
within_of a b x l h = and_both (le-leb a x l) (le-leb x b h)
