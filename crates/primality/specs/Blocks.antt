-- The tables: the odd numbers that may divide p, in blocks, by their inverses modulo 2³².
--     Candidate p            what the tables are asked of: above all their numbers, at most 2³¹ − 1, divisible by neither 2 nor 3
--     inverts v q            q × v leaves 1 modulo 2³²
--     misses p limit v       p × v modulo 2³² is above the limit: what v inverts does not divide p
--     small_primes            the primes to 211: one of them divides every composite number below 223²
--     divided cs d           the first of cs that divides d is neither 1 nor d itself
--     walk n d vs            each of the n numbers d, d + 1, .. is inverted by the next of vs or divided; what is left of vs inverts 3
--     block a b limit vs     vs serve the numbers q from a to b − 1: p / q is at most the limit, and limit × q fits 32 bits
--     blocks starts limits inverses      each block: two neighbouring starts, a limit and 32 inverses
--     Tables inverses limits starts      the rule of the tables: their lengths, and the blocks from 5 past the root of 2³¹ − 1
use Rattle.std.specs.Prelude.{◌≡◌, ◌≢◌, Bool, true, false, ◌&&◌, List, [], ◌∷◌, ℕ, zero, suc, ◌+◌, ◌-◌, ◌*◌, ◌%◌, ◌≤◌, ◌<◌, eqb, ltb, leb, length, take, drop}
use Rattle.meaning.specs.List.{at}

pub record Candidate (p : ℕ) : Type 0 where
  pub large : 65536 ≤ p
  pub small : p ≤ 2147483647
  pub odd : p % 2 ≢ 0
  pub not_three : p % 3 ≢ 0

unfoldable pub inverts : ℕ → ℕ → Bool
inverts v q = eqb (q * v % 4294967296) 1

abbrev pub misses : ℕ → ℕ → ℕ → Bool
misses p limit v = ltb limit (p * v % 4294967296)

unfoldable pub small_primes : List ℕ
small_primes =
    2 ∷ 3 ∷ 5 ∷ 7 ∷ 11 ∷ 13 ∷ 17 ∷ 19 ∷ 23 ∷ 29 ∷ 31 ∷ 37 ∷ 41 ∷ 43 ∷ 47 ∷ 53 ∷ 59 ∷ 61 ∷ 67 ∷ 71 ∷ 73 ∷ 79 ∷ 83 ∷ 89 ∷ 97 ∷ 101 ∷ 103 ∷ 107 ∷ 109 ∷ 113 ∷ 127 ∷ 131 ∷ 137 ∷ 139 ∷ 149 ∷ 151 ∷ 157 ∷ 163 ∷ 167 ∷ 173 ∷ 179 ∷ 181 ∷ 191 ∷ 193 ∷ 197 ∷ 199 ∷ 211 ∷ []

unfoldable pub divided : List ℕ → ℕ → Bool
divided [] d = false
divided (c ∷ cs) d = elim (eqb (d % c) 0) [ true ↦ ltb 1 c && ltb c d | false ↦ divided cs d ]

unfoldable pub walk : ℕ → ℕ → List ℕ → Bool
walk zero d [] = true
walk zero d (v ∷ vs) = inverts v 3 && walk zero d vs
walk (suc n) d [] = divided small_primes d && walk n (suc d) []
walk (suc n) d (v ∷ vs) =
    elim (inverts v d) [ true ↦ walk n (suc d) vs | false ↦ divided small_primes d && walk n (suc d) (v ∷ vs) ]

unfoldable pub block : ℕ → ℕ → ℕ → List ℕ → Bool
block a b limit vs =
    leb a b && ltb 2147483647 ((limit + 1) * a) && ltb (limit * b) 4294967296 && ltb b 65536 && walk (b - a) a vs

unfoldable pub blocks : List ℕ → List ℕ → List ℕ → Bool
blocks (a ∷ b ∷ ss) (l ∷ ls) vs = block a b l (take 32 vs) && blocks (b ∷ ss) ls (drop 32 vs)
blocks (a ∷ b ∷ ss) [] vs = false
blocks (a ∷ []) ls vs = true
blocks [] ls vs = true

pub record Tables (inverses limits starts : List ℕ) : Type 0 where
  pub entries : length inverses ≡ length limits * 32
  pub bounds : length starts ≡ length limits + 1
  pub first : at starts 0 ≡ 5
  pub last : 46340 < at starts (length limits)
  pub served : blocks starts limits inverses ≡ true
