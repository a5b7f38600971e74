-- The part between the place after k lists and that after one more.
use Rattle.std.proofs.Common.{◌≡◌, ◌≤◌, length, sym, subst}
use Rattle.test_io.specs.Lists.{list_at, place_after_more, list_at_short}
use Rattle.test_io.proofs.Case.list.Goals as goal

pub returns : goal.returns
returns c =
    let a = c.args.self.now in
    let s = a.memory.now in
    let part : c.part.result.now ≡ list_at s a.from c.args.k = cc (place_after_more s a.from c.args.k) in
    (part, subst (λ l. length l ≤ length s) (sym part) (list_at_short s a.from c.args.k))
