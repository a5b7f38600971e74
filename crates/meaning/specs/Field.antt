-- Document 01, "Field and matrix": the prime field.
--     is_prime p        p is at least 2 and no number from 2 to p − 1 divides it
--     is_modulus p      "a prime from 2 to 2,147,483,647"
--     plus minus times inverse      "sum, difference, product, inverse" of elements, which are 0 to p − 1
use Rattle.std.specs.Prelude.{Bool, not, ◌&&◌, ℕ, ◌+◌, ◌-◌, ◌*◌, ◌%◌, eqb, leb}
use Rattle.meaning.specs.List.{all, least}

unfoldable pub is_prime : ℕ → Bool
is_prime p = leb 2 p && all (p - 2) (λ i. not (eqb (p % (i + 2)) 0))

unfoldable pub is_modulus : ℕ → Bool
is_modulus p = is_prime p && leb p 2147483647

unfoldable pub plus : ℕ → ℕ → ℕ → ℕ
plus p a b = (a + b) % p

unfoldable pub minus : ℕ → ℕ → ℕ → ℕ
minus p a b = (a + (p - b)) % p

unfoldable pub times : ℕ → ℕ → ℕ → ℕ
times p a b = a * b % p

-- the element whose product with a is 1
unfoldable pub inverse : ℕ → ℕ → ℕ
inverse p a = least p (λ y. eqb (a * y % p) 1)
