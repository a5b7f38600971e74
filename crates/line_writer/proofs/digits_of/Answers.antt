use Rattle.std.proofs.Common.{ℕ, zero, suc, ◌+◌, ◌/◌, ◌%◌, ◌^◌, ◌<◌, ◌≤◌, [], ◌∷◌, length, ap, arith, length-append}
use Rattle.std.proofs.Math.Nat.{one-le-pow}
use Rattle.meaning.specs.Text.{decimal}
use Rattle.text_laws.specs.Numeral.{decimal_large, decimal_positive, decimal_short}
use Rattle.line_writer.proofs.digits_of.Goals as goal

-- from 10 ^ m on: at least m + 1 digits
long : (m k : ℕ) → 10 ^ m ≤ k → m + 1 ≤ length (decimal k)
long zero k h = omega (arith, decimal_positive k)
long (suc m) k h =
    let large : 10 ≤ k = omega (arith, one-le-pow m 10) in
    omega (
      arith,
      long m (k / 10) (omega (arith, one-le-pow m 10)),
      ap length (decimal_large k large),
      length-append (decimal (k / 10)) ((48 + k % 10) ∷ []),
    )

pub returns-then-k-lt10 : goal.returns-then-k-lt10
returns-then-k-lt10 c = omega (arith, decimal_positive c.args.k, decimal_short 0 c.args.k (omega (arith, c.if-k-lt10.true)))

pub returns-else-k-lt10 : goal.returns-else-k-lt10
returns-else-k-lt10 c =
    let n = c.ilog10.result in
    let e = c.ilog10.ensures in
    let below : c.args.k < 10 ^ suc n = omega arith in
    omega (arith, long n c.args.k (omega arith), decimal_short n c.args.k below)
