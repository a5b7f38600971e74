use Rattle.std.proofs.Common.{◌≡◌, sym, ap, ◌∙◌, eqb, drop, take, length, ◌-◌, List, ℕ, Bool}
use Rattle.std.specs.List.{starts_with}
use Rattle.system_reader.specs.Lines.{line_other, line_word}
use Rattle.system_reader.proofs.Steps.{all_after}
use Rattle.system_reader.proofs.line.line.Goals as goal

stands : (text : List ℕ) (from : ℕ) (w : List ℕ) (b : Bool) → b ≡ starts_with eqb (take (length text - from) (drop from text)) w → starts_with eqb (drop from text) w ≡ b
stands text from w b e = ap (λ s. starts_with eqb s w) (sym (all_after text from)) ∙ sym e

pub returns-then-starts_with : goal.returns-then-starts_with
returns-then-starts_with g c =
    let a = c.args in
    line_word a.text.now a.from a.word.now g.row.N (stands a.text.now a.from a.word.now _ c.if-starts_with.ensures.value) c.fields.result c.fields.ensures

pub returns-else-starts_with : goal.returns-else-starts_with
returns-else-starts_with g c =
    let a = c.args in
    line_other a.text.now a.from a.word.now g.row.N (stands a.text.now a.from a.word.now _ c.if-starts_with.ensures.value)
