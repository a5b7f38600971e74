-- Two regions of a slice read against each other (src/convolution.rt): one forwards, the other backwards.
--     cross              the product of the elements at forward + i and at backward − i
--     Crossing           what a sum of these for i from `from` up to but not including `to` asks: both regions lie in the slice and hold residues
--     crossing_within    the same of a part of the range
--     crossing_reads     what is read for i lies in the slice, and four of the products fit a word
--     nothing            the empty total
use Rattle.std.specs.Prelude.{ℕ, ◌+◌, ◌-◌, ◌*◌, ◌≤◌, ◌<◌, List, length}
use Rattle.std.proofs.Common.{arith}
use Rattle.meaning.specs.List.{at}
use Rattle.modular.specs.declared.sums.Total.{Total}
use Rattle.modular.specs.Words.{residues_fit}

abbrev pub cross : List ℕ → ℕ → ℕ → ℕ → ℕ
cross W forward backward i = at W (forward + i) * at W (backward - i)

pub record Crossing (W : List ℕ) (forward backward from to : ℕ) : Type 0 where
  pub order : from ≤ to
  pub few : to ≤ 65536
  pub front : forward + to ≤ length W
  pub back : to ≤ backward + 1
  pub room : backward < length W + from
  pub left : (i : ℕ) → from ≤ i → i < to → at W (forward + i) < 2147483647
  pub right : (i : ℕ) → from ≤ i → i < to → at W (backward - i) < 2147483647

pub crossing_within : {W : List ℕ} {forward backward from to : ℕ} (i j : ℕ) → Crossing W forward backward from to → from ≤ i → i ≤ j → j ≤ to
    → Crossing W forward backward i j
crossing_within i j h a b c =
    record {
      order = b;
      few = omega (arith, h.few, c);
      front = omega (arith, h.front, c);
      back = omega (arith, h.back, c);
      room = omega (arith, h.room, a);
      left = λ k l m. h.left k (omega (arith, a, l)) (omega (arith, m, c));
      right = λ k l m. h.right k (omega (arith, a, l)) (omega (arith, m, c));
    }

-- what is read for i lies in the slice, and four of the products fit a word
pub crossing_reads : {W : List ℕ} {forward backward from to : ℕ} (i : ℕ) → Crossing W forward backward from to → from ≤ i → i < to
    → (forward + i < length W) × (i ≤ backward) × (backward - i < length W) × (at W (forward + i) * at W (backward - i) ≤ 4611686009837453316)
crossing_reads {W} {forward} {backward} i h a b = (
  omega (arith, h.front, b),
  omega (arith, h.back, b),
  omega (arith, h.room, h.back, a, b),
  residues_fit (at W (forward + i)) (at W (backward - i)) (h.left i a b) (h.right i a b),
)

abbrev pub nothing : Total
nothing = record { low = 0; high = 0 }
