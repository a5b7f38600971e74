-- The table of inverses modulo 251.
--     inverts p l        the rule of all entries, as one test: each is below p, and it × its element is 1 modulo p
--     entry_rule, entry_inverse      what the test says of the entry of an element
--     inverts_inverses   .. and of the whole table: it is the meaning's
--     byte_table         a table of 250 numbers that passes the test is what is asked of it
use mathlib.Core.Path.{◌≡◌, sym, ap, subst, ◌∙◌}
use mathlib.Core.Bool.{Bool, true, ◌&&◌}
use mathlib.Core.List.{List}
use Prim.Native.Nat.{ℕ, ◌+◌, ◌-◌, ◌*◌, ◌%◌, ◌<◌}
use native.Mathlib.Nat.{mul_comm}
use native.Mathlib.Omega.{arith}
use lib.Dec.{eqb, ltb}
use lib.ListN.{length}
use borrow.Author.Tests.{ltb-true, eqb-true}
use Rattle.meaning.specs.List.{at, all}
use Rattle.meaning.specs.Field.{inverse}
use Rattle.meaning.specs.Inverses.{inverses, inverse_lines, inverses_text, ByteTable}
use Rattle.laws.specs.Bool.{and_left, and_right}
use Rattle.laws.specs.List.{all_at, table_of}
use Rattle.residue.specs.Inverse.{inverse_is}

abbrev right : ℕ → List ℕ → ℕ → Bool
right p l i = ltb (at l i) p && eqb (at l i * (i + 1) % p) 1

unfoldable pub inverts : ℕ → List ℕ → Bool
inverts p l = all (p - 1) (right p l)

module _ (p : ℕ) (l : List ℕ) (t : inverts p l ≡ true) where
  -- the entry at place i, of the element i + 1
  entry : (i : ℕ) → i < p - 1 → right p l i ≡ true
  unfolding inverts
  entry i h = all_at (p - 1) (right p l) t i h

  below : (i : ℕ) → i < p - 1 → at l i < p
  below i h = ltb-true (at l i) p (and_left (ltb (at l i) p) (eqb (at l i * (i + 1) % p) 1) (entry i h))

  product : (i : ℕ) → i < p - 1 → at l i * (i + 1) % p ≡ 1
  product i h = eqb-true (at l i * (i + 1) % p) 1 (and_right (ltb (at l i) p) (eqb (at l i * (i + 1) % p) 1) (entry i h))

  found : (i : ℕ) → i < p - 1 → at l i ≡ inverse p (i + 1)
  found i h = sym (inverse_is p (i + 1) (at l i) (below i h) (ap (λ x. x % p) (mul_comm (i + 1) (at l i)) ∙ product i h))

  module _ (a : ℕ) (k : 0 < a) (h : a < p) where
    next : a - 1 + 1 ≡ a
    next = omega arith

    pub entry_rule : at l (a - 1) * a % p ≡ 1
    entry_rule = subst (λ x. at l (a - 1) * x % p ≡ 1) next (product (a - 1) (omega arith))

    pub entry_inverse : at l (a - 1) ≡ inverse p a
    entry_inverse = subst (λ x. at l (a - 1) ≡ inverse p x) next (found (a - 1) (omega arith))

  pub inverts_inverses : length l ≡ p - 1 → l ≡ inverses p
  unfolding inverses
  inverts_inverses e = table_of 0 l (p - 1) (λ i. inverse p (i + 1)) e found

pub byte_table : (l : List ℕ) → length l ≡ 250 → inverts 251 l ≡ true → ByteTable l
unfolding inverses_text
byte_table l e t =
    record {
      entries = e;
      rule = entry_rule 251 l t;
      agrees = entry_inverse 251 l t;
      printed = ap inverse_lines (inverts_inverses 251 l t e);
    }
