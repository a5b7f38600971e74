-- Regions of one slice that a step reads and writes.
--     Regions          what a step within one slice needs to know of where it reads and writes
--     vector_part      a part whose elements are below p is a vector
use Rattle.std.specs.Prelude.{List, ℕ, ◌+◌, ◌≤◌, ◌<◌, length}
use Rattle.meaning.specs.List.{at}
use Rattle.laws.specs.Part.{part, Apart, length_part, at_part}
use Rattle.checks.specs.Valid.{Vector}

-- n places each: two that are read, of which the second holds elements below p, and one to write, which meets neither
pub record Regions (p n origin source target : ℕ) (W : List ℕ) : Type 0 where
  pub origin_fits : origin + n ≤ length W
  pub source_fits : source + n ≤ length W
  pub target_fits : target + n ≤ length W
  pub origin_apart : Apart target n origin n
  pub source_apart : Apart target n source n
  pub elements : (i : ℕ) → i < n → at W (source + i) < p

pub vector_part : (p a n : ℕ) (W : List ℕ) → a + n ≤ length W → ((i : ℕ) → i < n → at W (a + i) < p) → Vector p n (part a n W)
vector_part p a n W l h = record { places = length_part a n W l; below = λ i k. rw (at_part a n W i k) (h i k) }
