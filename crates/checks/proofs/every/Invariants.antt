use mathlib.Core.Path.{◌≡◌}
use mathlib.Core.Bool.{Bool}
use Prim.Native.Nat.{ℕ, ◌≤◌}
use lib.ListN.{length, get_or}
use Rattle.meaning.specs.List.{all}
use Rattle.checks.proofs.every.Given as goal

abbrev pub invariant-loop-x : goal.invariant-loop-x
invariant-loop-x g l =
    (l.x-index ≤ length l.v)
    × ((holds : ℕ → Bool) → ((x : ℕ) (told : Bool) → goal.F-post g l.test x told → told ≡ holds x) → l.all ≡ all l.x-index (λ i. holds (get_or l.v i 0)))
