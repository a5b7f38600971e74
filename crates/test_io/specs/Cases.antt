-- The calls that stand in a memory one after the other, each of them the same number of lists.
--     case_of c               the memory, and the place where a call begins
--     cases s lists from k    k calls, the first at `from`
--     cases_left c            those that an iterator has not given yet
--     cases_none, cases_next  none is left, and the next one and those after it
use Rattle.std.specs.Prelude.{◌≡◌, refl, List, [], ◌∷◌, ℕ, zero, suc, ◌-◌, ◌<◌}
use Rattle.std.proofs.Common.{ap, arith}
use Rattle.test_io.specs.Lists.{place_after}
use Rattle.test_io.specs.declared.Case.{Case}
use Rattle.test_io.specs.declared.Cases.{Cases}

abbrev pub case_of : Case → List ℕ × ℕ
case_of c = (c.memory.now, c.from)

unfoldable pub cases : List ℕ → ℕ → ℕ → ℕ → List (List ℕ × ℕ)
cases s lists from zero = []
cases s lists from (suc k) = (s, from) ∷ cases s lists (place_after s from lists) k

abbrev pub cases_left : Cases → List (List ℕ × ℕ)
cases_left c = cases c.memory.now c.lists c.from c.left

pub cases_none : (s : List ℕ) (lists from : ℕ) → cases s lists from 0 ≡ []
unfolding cases
cases_none s lists from = refl

pub cases_next : (s : List ℕ) (lists from k : ℕ) → 0 < k → cases s lists from k ≡ (s, from) ∷ cases s lists (place_after s from lists) (k - 1)
unfolding cases
cases_next s lists from zero h = elim h [ ]
cases_next s lists from (suc k) h =
    let e : k ≡ suc k - 1 = omega arith in
    ap (λ n. (s, from) ∷ cases s lists (place_after s from lists) n) e
