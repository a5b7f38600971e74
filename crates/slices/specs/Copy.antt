-- A copy within one slice (src/lib.rt).
--     CopyFits         both parts lie in the slice, and the one that is written does not begin inside the one that is read
--     Copies           what a copy leaves: the part written, or everything as it was; copies_all, copies_none
--     not_inside, overlap      what the code's test of the two beginnings says
use Rattle.std.specs.Prelude.{◌≡◌, refl, ◌⊎◌, true, false, ◌&&◌, List, ℕ, ◌+◌, ◌≤◌, ◌<◌, ltb, length}
use Rattle.std.proofs.Common.{inl, inr, arith, ltb-true, lt-ltb}
use Rattle.std.proofs.Math.Decide.{dec_lt}
use Rattle.meaning.specs.List.{at}
use Rattle.laws.specs.Bool.{and_left, and_right, and_both, never}
use Rattle.laws.specs.Written.{Written}

abbrev pub CopyFits : List ℕ → ℕ → ℕ → ℕ → Type 0
CopyFits W from to size = (from + size ≤ length W) × (to + size ≤ length W) × ((to ≤ from) ⊎ (from + size ≤ to))

pub record Copies (W : List ℕ) (from to size : ℕ) (W' : List ℕ) : Type 0 where
  pub copied : CopyFits W from to size → Written W to size (λ i. at W (from + i)) W'
  pub left : (CopyFits W from to size → ⊥) → W' ≡ W

pub copies_all : {W : List ℕ} {from to size : ℕ} {W' : List ℕ} → CopyFits W from to size → Written W to size (λ i. at W (from + i)) W'
    → Copies W from to size W'
copies_all h w = record { copied = λ f. w; left = λ n. absurd (n h) }

pub copies_none : {W : List ℕ} {from to size : ℕ} → (CopyFits W from to size → ⊥) → Copies W from to size W
copies_none n = record { copied = λ f. absurd (n f); left = λ q. refl }

pub overlap : (from to size : ℕ) → ltb from to && ltb to (from + size) ≡ true → (to ≤ from) ⊎ (from + size ≤ to) → ⊥
overlap from to size e (inl l) = omega (arith, l, ltb-true from to (and_left (ltb from to) (ltb to (from + size)) e))
overlap from to size e (inr l) = omega (arith, l, ltb-true to (from + size) (and_right (ltb from to) (ltb to (from + size)) e))

pub not_inside : (from to size : ℕ) → ltb from to && ltb to (from + size) ≡ false → (to ≤ from) ⊎ (from + size ≤ to)
not_inside from to size e = go (dec_lt from to) (dec_lt to (from + size))
  where
    go : Dec (from < to) → Dec (to < from + size) → (to ≤ from) ⊎ (from + size ≤ to)
    go (no a) b = inl (omega (arith, a))
    go (yes a) (no b) = inr (omega (arith, b))
    go (yes a) (yes b) = never (ltb from to && ltb to (from + size)) (and_both (lt-ltb from to a) (lt-ltb to (from + size) b)) e
