-- The answer's cases: the paper's length for each.
--     length_of_written      the text's length, 0 of a refusal
use Rattle.std.specs.Prelude.{ℕ, Result, Ok, Err}
use Rattle.refusal.specs.declared.Refusal.{Refusal}

abbrev pub length_of_written : Result ℕ Refusal → ℕ
length_of_written (Ok k) = k
length_of_written (Err _) = 0
