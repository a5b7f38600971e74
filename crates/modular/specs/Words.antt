-- How large a product is.
--     residues_fit     of two residues: four such fit a word
--     word_fits        of a 32-bit word and a residue: two such fit a word
--     words_fit        of two 32-bit words: one fits
use Rattle.std.specs.Prelude.{ℕ, ◌*◌, ◌<◌, ◌≤◌}
use Rattle.std.proofs.Common.{mul-le-mul, arith}

pub residues_fit : (a b : ℕ) → a < 2147483647 → b < 2147483647 → a * b ≤ 4611686009837453316
residues_fit a b k l = mul-le-mul {n₁ = a} {m₁ = b} {n₂ = 2147483646} {m₂ = 2147483646} (omega arith) (omega arith)

pub word_fits : (a b : ℕ) → a < 4294967296 → b < 2147483647 → a * b ≤ 9223372026117357570
word_fits a b k l = mul-le-mul {n₁ = a} {m₁ = b} {n₂ = 4294967295} {m₂ = 2147483646} (omega arith) (omega arith)

pub words_fit : (a b : ℕ) → a < 4294967296 → b < 4294967296 → a * b < 18446744073709551616
words_fit a b k l = omega (arith, mul-le-mul {n₁ = a} {m₁ = b} {n₂ = 4294967295} {m₂ = 4294967295} (omega arith) (omega arith))
