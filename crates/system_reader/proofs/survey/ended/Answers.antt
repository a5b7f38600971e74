use Rattle.std.proofs.Common.{◌≡◌, List, ℕ, Bool, Option, Some, None, false, eqb, length, refl, sym, ◌∙◌, drop, rules, ◌∷◌, []}
use Rattle.meaning.specs.Text as text
use Rattle.meaning.specs.Text.{lines}
use Rattle.system_reader.specs.Order.{closing}
use Rattle.system_reader.specs.Lines.{LineAt, ending_word, ending_here, ending_missing}
use Rattle.system_reader.specs.declared.numeral.Line.{Line}
use Rattle.system_reader.proofs.survey.ended.Goals as goal

found : (s : List ℕ) (l : Option (Line 0)) → Bool
found s None = false
found s (Some l) = eqb l.next (length s)

ended : (s : List ℕ) (from : ℕ) (l : Option (Line 0)) → LineAt s from (101 ∷ 110 ∷ 100 ∷ []) 0 l → found s l ≡ closing (lines (drop from s))
unfolding found
ended s from None h = sym (ending_missing (lines (drop from s)) (h text.ending refl ending_word refl))
ended s from (Some l) h = sym (ending_here s from l.next l.numbers (h text.ending refl ending_word refl))

pub returns : goal.returns
unfolding found
returns c = let e : c.is_some_and.result ≡ found c.args.text.now c.line.result = search rules in e ∙ ended c.args.text.now c.args.from c.line.result c.line.ensures
