use mathlib.Core.Path.{refl}
use Rattle.meaning.specs.List.{all}
use Rattle.field.proofs.Entries.{inverts, byte_table}
use Rattle.field.proofs.byte_field.byte_inverses.Goals as goal

-- `byte_field::byte_inverses` meets its contract: that all entries of the table satisfy its rule is computed.
pub returns : goal.returns
unfolding all inverts
returns c = byte_table _ refl refl
