-- The numbers of each struct, by document 01's number of the refusal, 0 for none, and what is answered beside it.
--     element_of, written_of, degree_of, yes_of, system_of, length_of      what is answered is 0, or no, beside a refusal already (meaning's Calls)
--     kind_number, verdict_of                               the outcome of a run
use Rattle.std.specs.Prelude.{Bool, cond, ℕ}
use Rattle.meaning.specs.Refusal.{unless_refused}
use Rattle.meaning.specs.Solver.{Kind, solved, singular, Outcome, pass_count, applications}
use Rattle.host.specs.declared.elements.Element.{Element}
use Rattle.host.specs.declared.products.Written.{Written}
use Rattle.host.specs.declared.recurrences.Degree.{Degree}
use Rattle.host.specs.declared.runs.Verdict.{Verdict}
use Rattle.host.specs.declared.offered.Yes.{Yes}
use Rattle.host.specs.declared.texts.System.{System}
use Rattle.host.specs.declared.texts.Length.{Length}

abbrev pub element_of : ℕ → ℕ → Element
element_of number x = record { refusal = number; value = x }

abbrev pub written_of : ℕ → ℕ → Written
written_of number m = record { refusal = number; multiplied = m }

abbrev pub degree_of : ℕ → ℕ → Degree
degree_of number L = record { refusal = number; degree = L }

abbrev pub yes_of : ℕ → Bool → ℕ → Yes
yes_of number answer m = record { refusal = number; yes = cond answer 1 0; multiplied = m }

abbrev pub system_of : ℕ → ℕ → ℕ → ℕ → System
system_of number p n count = record { refusal = number; modulus = p; size = n; entries = count }

abbrev pub length_of : ℕ → ℕ → Length
length_of number k = record { refusal = number; length = k }

abbrev pub kind_number : Kind → ℕ
kind_number solved = 1
kind_number singular = 2

-- "a refusal returns its number and no other answer (any count .. beside it is 0)"
abbrev pub verdict_of : ℕ → Outcome → Verdict
verdict_of number o =
    record {
      refusal = number;
      kind = unless_refused number (kind_number o.kind) 0;
      degree = unless_refused number o.degree 0;
      passes = unless_refused number (pass_count o) 0;
      applications = unless_refused number (applications o) 0;
      multiplied = unless_refused number o.multiplied 0;
    }
