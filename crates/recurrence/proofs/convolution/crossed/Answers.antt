use native.Mathlib.Omega.{arith}
use mathlib.Core.Path.{◌≡◌}
use Rattle.std.proofs.Common.{rules}
use Rattle.recurrence.specs.Convolution.{cross, crossing_reads}
use Rattle.recurrence.proofs.convolution.crossed.Goals as goal

pub sum_by-requires : goal.sum_by-requires
sum_by-requires c κs within =
    let a = c.args in (
      search rules depth 12,
      (
        search rules depth 12,
        (
          omega arith,
          (
            omega arith,
            (
              (λ k low high. let reads = crossing_reads k c.requires low high in search rules depth 12),
              (λ k x low high met.
                  let reads = crossing_reads k c.requires low high in
                  let is : x ≡ cross a.work.now a.forward a.backward k = search rules depth 12 in
                  (is, omega (arith, is, reads.3))),
            ),
          ),
        ),
      ),
    )
