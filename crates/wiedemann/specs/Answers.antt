-- What each case of an answer says, by document 01's number of the refusal, 0 for none, and the values beside it.
--     Decides r number answer A    of takes and is_null: the answer, no beside a refusal; one product with A is made, whatever the answer is
--     decides_refused              what a check says where check k refused
use Rattle.std.specs.Prelude.{◌≡◌, ◌≢◌, Bool, false, ℕ, Result, Ok, Err}
use Rattle.std.proofs.Common.{sym, ◌∙◌}
use Rattle.meaning.specs.Matrix.{Matrix, multiplied}
use Rattle.meaning.specs.Refusal.{unless_refused}
use Rattle.laws.specs.Refusal.{unless_refused_some}
use Rattle.refusal.specs.declared.Refusal.{Refusal}
use Rattle.refusal.specs.Number.{number_of}
use Rattle.wiedemann.specs.declared.offered.Offered.{Offered}

abbrev pub Decides : Result Offered Refusal → ℕ → Bool → Matrix → Type 0
Decides (Ok found) number answer A = (number ≡ 0) × (answer ≡ found.holds) × (found.multiplied ≡ multiplied 1 A)
Decides (Err r) number answer A = (number ≡ number_of r) × (number_of r ≢ 0) × (answer ≡ false)

pub decides_refused : (k number : ℕ) (answer : Bool) → k ≡ number → k ≢ 0 → (number ≡ k) × (k ≢ 0) × (unless_refused number answer false ≡ false)
decides_refused k number answer e n = (sym e, n, unless_refused_some number answer false (λ z. n (e ∙ z)))
