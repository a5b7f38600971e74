use Rattle.std.proofs.Common.{◌≡◌, ◌+◌}
use Rattle.system_reader.proofs.Steps.{NumeralBegun}
use Rattle.system_reader.proofs.numeral.numeral.Given as goal

abbrev pub invariant-loop-c : goal.invariant-loop-c
invariant-loop-c l =
    record {
      place : l.next ≡ l.from + l.c-index;
      begun : NumeralBegun l.c-items l.value l.c-index;
    }
