-- Facts on numbers, away from what is known at a place: the place after another, the length of an answer.
use Prim.Native.Nat.{ℕ, ◌+◌, ◌≤◌, ◌<◌}
use native.Mathlib.Omega.{arith}
use mir.Syntax.{w64}
use mir.Val.{Fits}

-- a place of a slice, and the one after it
pub next_fits : {d k : ℕ} → d < k → k < 9223372036854775808 → Fits w64 (d + 1)
next_fits h g = omega arith

pub some : (k : ℕ) → 1 ≤ k + 1
some k = omega arith

-- an answer of at most 7,168 bytes ends before the last place, and fits a slice of at least as many
pub answer_ends : {k : ℕ} → k ≤ 7168 → k < 18446744073709551615
answer_ends h = omega arith

pub answer_room : {k l : ℕ} → k ≤ 7168 → 7168 ≤ l → k ≤ l
answer_room h g = omega arith
