use mathlib.Core.Path.{refl}
use Rattle.primality.specs.Blocks.{inverts, small_primes, divided, walk, block, blocks}
use borrow.Author.Rules.{rules}
use Rattle.primality.proofs.blocks.prime_by_table.Goals as goal

pub prime_by_blocks-requires : goal.prime_by_blocks-requires
unfolding inverts small_primes divided walk block blocks
prime_by_blocks-requires c = (c.requires, record { entries = refl; bounds = refl; first = refl; last = search rules; served = refl })
