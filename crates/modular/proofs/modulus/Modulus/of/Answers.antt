use Rattle.std.proofs.Common.{◌≡◌, ℕ, ◌+◌, ◌%◌, ◌<◌, ◌≤◌, sym, ◌∙◌, mod-lt, mod-eq_of_lt, arith}
use native.Mathlib.Nat.{mod-add-mod}
use Rattle.modular.proofs.modulus.Modulus.of.Goals as goal

-- One more than the remainder of 2⁶⁴ − 1 leaves that of 2⁶⁴.
weight : (p : ℕ) → 0 < p → p ≤ 4294967295 → (18446744073709551615 % p + 1) % p ≡ 18446744073709551616 % p % 4294967296
weight p z l = mod-add-mod 18446744073709551615 p 1 ∙ sym (mod-eq_of_lt (omega (arith, mod-lt 18446744073709551616 z, l)))

pub returns : goal.returns
returns c =
    rw (c.successor.ensures ∙ weight c.args.p (omega (arith, c.if-p-eq0.false)) (omega (arith, c.ranges.p)))
