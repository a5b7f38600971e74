use mathlib.Core.Path.{◌≡◌}
use Prim.Native.Nat.{◌-◌, ◌≤◌}
use lib.ListN.{get_or}
use Rattle.transposed.specs.Transposed.{scattered}
use Rattle.transposed.proofs.scatter.Given as goal

-- the loop's invariant: out has the entries passed added at their columns.
abbrev pub invariant-loop-k : goal.invariant-loop-k
invariant-loop-k l =
    l.out ≡ scattered l.m.p (get_or l.v l.i 0) l.from l.k l.columns l.values l.initial.out
