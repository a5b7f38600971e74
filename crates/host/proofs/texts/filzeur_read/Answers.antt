use mathlib.Core.Path.{◌∙◌}
use Rattle.host.proofs.Laid.{system_same}
use Rattle.host.proofs.texts.filzeur_read.Goals as goal

pub returns : goal.returns
returns c =
    let done = c.read.ensures in
    record {
      value = c.from.ensures ∙ system_same done.refusal done.modulus done.size done.entries;
      starts_after = done.starts_after;
      columns_after = done.columns_after;
      values_after = done.values_after;
      scales_after = done.scales_after;
      right_after = done.right_after;
    }
