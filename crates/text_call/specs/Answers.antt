-- The answer's cases.
--     answered      what the call answers: the length of the answer's text, or a refusal's number
use Rattle.std.specs.Prelude.{ℕ, Result, Ok, Err}
use Rattle.refusal.specs.declared.Refusal.{Refusal}
use Rattle.refusal.specs.Number.{number_of}

abbrev pub answered : Result ℕ Refusal → ℕ
answered (Ok length) = length
answered (Err r) = number_of r
