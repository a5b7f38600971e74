use Rattle.checks.specs.Solver.{words_none, words_multiple, words_broken}
use native.Mathlib.Nat.{pos_of_ne-zero}
use Rattle.checks.proofs.words_taken.Goals as goal

pub returns-then-n-eq0 : goal.returns-then-n-eq0
returns-then-n-eq0 c = words_none c.args.n c.args.words.now c.if-n-eq0.true

pub returns-then-words-n-eq0 : goal.returns-then-words-n-eq0
returns-then-words-n-eq0 c = words_multiple c.args.n c.args.words.now (pos_of_ne-zero c.if-n-eq0.false) c.if-words-n-eq0.true

pub returns-else-words-n-eq0 : goal.returns-else-words-n-eq0
returns-else-words-n-eq0 c = words_broken c.args.n c.args.words.now (pos_of_ne-zero c.if-n-eq0.false) c.if-words-n-eq0.false
