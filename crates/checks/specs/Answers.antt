-- What each case of an answer of a call that writes a slice says, by document 01's number of the refusal, 0 for none.
--     Writes r number k A     of products and polynomials of a matrix: k products with A are made
--     writes_refused, writes_done      what a call says of its number and leaves, where check k refused and where none did
use Rattle.std.specs.Prelude.{◌≡◌, ◌≢◌, List, ℕ, Result, Ok, Err}
use Rattle.std.proofs.Common.{sym, ◌∙◌}
use Rattle.meaning.specs.Matrix.{Matrix}
use Rattle.meaning.specs.Refusal.{unless_refused}
use Rattle.laws.specs.Refusal.{unless_refused_none, unless_refused_some}
use Rattle.checks.specs.declared.Products.{Products}
use Rattle.refusal.specs.declared.Refusal.{Refusal}
use Rattle.refusal.specs.Number.{number_of}
use Rattle.checks.specs.Products.{products_with}

abbrev pub Writes : Result Products Refusal → ℕ → ℕ → Matrix → Type 0
Writes (Ok done) number k A = (number ≡ 0) × (done ≡ products_with k A)
Writes (Err r) number k A = (number ≡ number_of r) × (number_of r ≢ 0)

pub writes_refused : (k number : ℕ) (x found : List ℕ) → k ≡ number → k ≢ 0 → ((number ≡ k) × (k ≢ 0)) × (found ≡ unless_refused number x found)
writes_refused k number x found e n = ((sym e, n), sym (unless_refused_some number x found (λ z. n (e ∙ z))))

pub writes_done : {done made : Products} (number : ℕ) (x found left : List ℕ) → number ≡ 0 → done ≡ made → left ≡ x
    → ((number ≡ 0) × (done ≡ made)) × (left ≡ unless_refused number x found)
writes_done number x found left z m e = ((z, m), e ∙ sym (unless_refused_none number x found z))
