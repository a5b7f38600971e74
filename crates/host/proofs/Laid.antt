-- The structs' numbers, from what the callee says.
--     degree_answered            a recurrence's answer that is no refusal
--     degree_low                 .. fits 32 bits
--     verdict_counted            a run's kind and counts
--     verdict_refused            .. and a refused run's
--     system_same                equal numbers, equal structs
use mathlib.Core.Path.{◌≡◌, sym, ap, ap₂, ◌∙◌, subst}
use mathlib.Core.Logic.{◌≢◌}
use mathlib.Core.Bool.{Bool, false, cond}
use Prim.Native.Nat.{ℕ, ◌≤◌}
use lib.Dec.{eqb}
use borrow.Author.Tests.{ne_eqb}
use Rattle.meaning.specs.Solver.{Kind, Outcome, pass_count, applications}
use Rattle.std.specs.Prelude.{Result, Ok, Err, IfOk}
use Rattle.refusal.specs.declared.Refusal.{Refusal}
use Rattle.solver.specs.declared.Counts.{Counts}
use Rattle.recurrence.specs.Recurrence.{GivesDegree}
use Rattle.solver.specs.Verdict.{Counted}
use Rattle.host.specs.declared.runs.Verdict.{Verdict}
use Rattle.host.specs.Answers.{kind_number, verdict_of, system_of}

pub degree_answered : (a : Result ℕ Refusal) (number L : ℕ) → GivesDegree a number L → number ≡ 0 → a ≡ Ok L
degree_answered (Ok k) number L g e = ap Ok (sym g.1)
degree_answered (Err r) number L g e = absurd (g.1 (sym g.0 ∙ e))

pub degree_low : (a : Result ℕ Refusal) (number L : ℕ) → GivesDegree a number L → (number ≡ 0 → L ≤ 8192) → IfOk a (λ k. k ≤ 8192)
degree_low (Ok k) number L g low = subst (λ l. l ≤ 8192) g.1 (low g.0)
degree_low (Err r) number L g low = tt

abbrev verdict : ℕ → ℕ → ℕ → ℕ → ℕ → ℕ → Verdict
verdict number kind degree passes applications multiplied =
    record { refusal = number; kind = kind; degree = degree; passes = passes; applications = applications; multiplied = multiplied }

pub verdict_counted : (k : Kind) (c : Counts) (number : ℕ) (o : Outcome) → number ≡ 0 → o.kind ≡ k → Counted c o
    → record { refusal = 0; kind = kind_number k; degree = c.degree; passes = c.passes; applications = c.applications; multiplied = c.multiplied }
    ≡ verdict_of number o
verdict_counted k c number o zero kind counted =
    ap₂ (λ t d. verdict 0 t d c.passes c.applications c.multiplied) (sym (ap kind_number kind)) counted.degree
    ∙ ap₂ (λ t a. verdict 0 (kind_number o.kind) o.degree t a c.multiplied) counted.passes counted.applications
    ∙ ap (verdict 0 (kind_number o.kind) o.degree (pass_count o) (applications o)) counted.multiplied
    ∙ ap (λ t. verdict_of t o) (sym zero)

pub verdict_refused : (k number : ℕ) (o : Outcome) → number ≡ k → k ≢ 0
    → record { refusal = k; kind = 0; degree = 0; passes = 0; applications = 0; multiplied = 0 } ≡ verdict_of number o
verdict_refused k number o e some = ap (λ t. verdict t 0 0 0 0 0) (sym e) ∙ sym (ap unless off)
  where
    unless : Bool → Verdict
    unless t =
        verdict number (cond t (kind_number o.kind) 0) (cond t o.degree 0) (cond t (pass_count o) 0) (cond t (applications o) 0) (cond t o.multiplied 0)

    off : eqb number 0 ≡ false
    off = ne_eqb number 0 (λ z. some (sym e ∙ z))

pub system_same : {a a' b b' c c' d d' : ℕ} → a ≡ a' → b ≡ b' → c ≡ c' → d ≡ d' → system_of a b c d ≡ system_of a' b' c' d'
system_same {a} {a'} {b} {b'} {c} {c'} {d} {d'} e f g h = ap₂ (λ s t. system_of s t c d) e f ∙ ap₂ (system_of a' b') g h
