-- What each case of an answer says, by document 01's number of the refusal, 0 for none, and the values beside it.
--     Makes r number p             of Field::new: the field with the modulus p
--     Gives r number element       of an operation: the element
-- And what the operations without checks want.
--     Operands p a b               p is a modulus, a and b are elements
use Rattle.std.specs.Prelude.{◌≡◌, ◌≢◌, true, ℕ, ◌<◌, Result, Ok, Err}
use Rattle.meaning.specs.Field.{is_modulus}
use Rattle.refusal.specs.declared.Refusal.{Refusal}
use Rattle.refusal.specs.Number.{number_of}
use Rattle.field.specs.declared.Field.{Field}

abbrev pub Makes : Result Field Refusal → ℕ → ℕ → Type 0
Makes (Ok f) number p = (number ≡ 0) × (f.p ≡ p)
Makes (Err r) number p = (number ≡ number_of r) × (number_of r ≢ 0)

-- "a refusal returns its number and no other answer (any .. element beside it is 0)"
abbrev pub Gives : Result ℕ Refusal → ℕ → ℕ → Type 0
Gives (Ok x) number element = (number ≡ 0) × (element ≡ x)
Gives (Err r) number element = (number ≡ number_of r) × (number_of r ≢ 0) × (element ≡ 0)

pub record Operands (p a b : ℕ) : Type 0 where
  pub modulus : is_modulus p ≡ true
  pub left : a < p
  pub right : b < p
