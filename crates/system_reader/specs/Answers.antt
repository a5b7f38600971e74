-- The answers' cases: the values for each (its number is refused_by).
--     modulus_of_read, size_of_read, count_of_read        what the reader answers
--     modulus_of_document, .., right_of_system                         the parts of a document and of a system by name
--     starts_after, columns_after, values_after, scales_after, right_after      what the reader leaves in its slices
use Rattle.std.specs.Prelude.{List, ℕ, Result, Ok, Err}
use Rattle.meaning.specs.Text.{Document, System}
use Rattle.meaning.specs.Calls.{reader_after}
use Rattle.refusal.specs.declared.Refusal.{Refusal}
use Rattle.system_reader.specs.declared.Header.{Header}

abbrev pub modulus_of_read : Result Header Refusal → ℕ
modulus_of_read (Ok h) = h.modulus
modulus_of_read (Err r) = 0

abbrev pub size_of_read : Result Header Refusal → ℕ
size_of_read (Ok h) = h.size
size_of_read (Err r) = 0

abbrev pub count_of_read : Result Header Refusal → ℕ
count_of_read (Ok h) = h.entries
count_of_read (Err r) = 0

abbrev pub modulus_of_document : Document → ℕ
modulus_of_document d = d.modulus

abbrev pub size_of_document : Document → ℕ
size_of_document d = d.size

abbrev pub count_of_document : Document → ℕ
count_of_document d = d.count

abbrev pub starts_of_system : System → List ℕ
starts_of_system s = s.matrix.starts

abbrev pub columns_of_system : System → List ℕ
columns_of_system s = s.matrix.columns

abbrev pub values_of_system : System → List ℕ
values_of_system s = s.matrix.values

abbrev pub scales_of_system : System → List ℕ
scales_of_system s = s.scales

abbrev pub right_of_system : System → List ℕ
right_of_system s = s.right

abbrev pub starts_after : List ℕ → List ℕ → List ℕ → List ℕ → List ℕ → List ℕ → List ℕ
starts_after text starts columns values scales right = reader_after starts_of_system starts text starts columns values scales right

abbrev pub columns_after : List ℕ → List ℕ → List ℕ → List ℕ → List ℕ → List ℕ → List ℕ
columns_after text starts columns values scales right = reader_after columns_of_system columns text starts columns values scales right

abbrev pub values_after : List ℕ → List ℕ → List ℕ → List ℕ → List ℕ → List ℕ → List ℕ
values_after text starts columns values scales right = reader_after values_of_system values text starts columns values scales right

abbrev pub scales_after : List ℕ → List ℕ → List ℕ → List ℕ → List ℕ → List ℕ → List ℕ
scales_after text starts columns values scales right = reader_after scales_of_system scales text starts columns values scales right

abbrev pub right_after : List ℕ → List ℕ → List ℕ → List ℕ → List ℕ → List ℕ → List ℕ
right_after text starts columns values scales right = reader_after right_of_system right text starts columns values scales right
