-- What the second pass fills in: the parts of the meaning's system, and what it may take for granted.
--     starts_of, columns_of, values_of        of the entries that a text says
--     Ahead                                from a place on `count` lines of form f stand in form, and a test of their places takes them
--     EntriesAhead, PlacesAhead            .. of the `a` lines, and of those of a place and a value with the word w
use Rattle.std.specs.Prelude.{◌≡◌, Bool, true, List, map, ℕ, ◌+◌, ◌-◌, ◌≤◌, leb, length, drop}
use Rattle.meaning.specs.List.{at, table, select}
use Rattle.meaning.specs.Text as text
use Rattle.meaning.specs.Text.{lines, saying, row}
use Rattle.system_reader.specs.Order.{onward}
use Rattle.system_reader.specs.Places.{placed_by, PlaceWord, entries_taken, places_after}

abbrev pub starts_of : ℕ → List (List ℕ) → List ℕ
starts_of n es = table (n + 1) (λ i. length (select (λ e. leb (row e) i) es))

abbrev pub columns_of : List (List ℕ) → List ℕ
columns_of es = map (λ e. at e 1 - 1) es

abbrev pub values_of : List (List ℕ) → List ℕ
values_of es = map (λ e. at e 2) es

pub record Ahead (f : text.Form) (test : List (List ℕ) → Bool) (s : List ℕ) (from count n : ℕ) : Type 0 where
  pub within : from ≤ length s
  pub form : onward f (lines (drop from s)) ≡ true
  pub all : length (saying f (lines (drop from s))) ≡ count
  pub size : n ≤ 4096
  pub taken : test (saying f (lines (drop from s))) ≡ true

abbrev pub EntriesAhead : List ℕ → ℕ → ℕ → ℕ → Type 0
EntriesAhead s from count n = Ahead text.entry (entries_taken n 0 0) s from count n

pub record PlacesAhead (w s : List ℕ) (from count n : ℕ) : Type 0 where
  pub word : PlaceWord w
  pub ahead : Ahead (placed_by w) (places_after n 0) s from count n
