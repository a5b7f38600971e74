-- Document 02, (vii), "Inverses for the byte field".
--     inverses p         "the 250 inverses of 1 to 250" for p = 251: those of 1 to p − 1, in their order
--     inverse_line a x    "`i`, element, inverse with tabs"
--     inverse_lines l     such a line for each number of l; its element is its place, from 1
--     inverses_text       what the program prints
--     ByteTable l        what is asked of the constant table l
use Rattle.std.specs.Prelude.{◌≡◌, List, [], ◌∷◌, ℕ, ◌+◌, ◌-◌, ◌*◌, ◌%◌, ◌<◌, length}
use Rattle.meaning.specs.List.{at, table, flat, bytes}
use Rattle.meaning.specs.Field.{inverse}
use Rattle.meaning.specs.Text.{decimal, line}

unfoldable pub inverses : ℕ → List ℕ
inverses p = table (p - 1) (λ i. inverse p (i + 1))

abbrev pub inverse_line : ℕ → ℕ → List ℕ
inverse_line a x = line (bytes "i" ∷ decimal a ∷ decimal x ∷ [])

unfoldable pub inverse_lines : List ℕ → List ℕ
inverse_lines l = flat (table (length l) (λ i. inverse_line (i + 1) (at l i)))

unfoldable pub inverses_text : List ℕ
inverses_text = inverse_lines (inverses 251)

-- the entry of an element stands at the place before its number, since places count from 0
pub record ByteTable (l : List ℕ) : Type 0 where
  -- "the 250 inverses"
  pub entries : length l ≡ 250
  -- "entry × its element is 1 modulo 251"
  pub rule : (a : ℕ) → 0 < a → a < 251 → at l (a - 1) * a % 251 ≡ 1
  -- "inverses agree with the general way for every element": that answers `inverse`, for every modulus
  pub agrees : (a : ℕ) → 0 < a → a < 251 → at l (a - 1) ≡ inverse 251 a
  -- "equal to what this program prints"
  pub printed : inverse_lines l ≡ inverses_text
