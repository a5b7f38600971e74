use Rattle.std.proofs.Common.{arith, refl}
use Rattle.system_reader.proofs.Filling.{entries_begin, entry_there, entry_bounds, entry_turn, starts_done}
use Rattle.system_reader.proofs.fill.fill_entries.Goals as goal

pub loop-k-init : goal.loop-k-init
loop-k-init c = entries_begin _ _ _ _ _ _ _ c.requires.entries_ahead

pub unwrap-l-requires : goal.unwrap-l-requires
unwrap-l-requires c =
    entry_there c.requires.entries_ahead c.loop-k.invariant c.loop-k-test.true _ c.line.ensures

pub slice_bounds-fill-count : goal.slice_bounds-fill-count
slice_bounds-fill-count c =
    (entry_bounds c.requires.entries_ahead c.loop-k.invariant c.loop-k-test.true c.unwrap-l.ensures c.line.ensures).3

pub slice_bounds-fill-start : goal.slice_bounds-fill-start
slice_bounds-fill-start c =
    (entry_bounds c.requires.entries_ahead c.loop-k.invariant c.loop-k-test.true c.unwrap-l.ensures c.line.ensures).3

pub slice_bounds-fill-end : goal.slice_bounds-fill-end
slice_bounds-fill-end c =
    let b = entry_bounds c.requires.entries_ahead c.loop-k.invariant c.loop-k-test.true c.unwrap-l.ensures c.line.ensures in
    omega (arith, b.1, c.requires.n_in_bounds.0, c.loop-k.invariant.starts_length)

pub overflow_sub-columns : goal.overflow_sub-columns
overflow_sub-columns c =
    (entry_bounds c.requires.entries_ahead c.loop-k.invariant c.loop-k-test.true c.unwrap-l.ensures c.line.ensures).2

pub loop-k-preserved : goal.loop-k-preserved
loop-k-preserved c =
    let r = c.requires.n_in_bounds in
    entry_turn c.requires.entries_ahead c.loop-k.invariant c.loop-k-test.true c.unwrap-l.ensures c.line.ensures
    _ c.fill.new.self r.0 r.1 r.2 refl (c.fill.ensures.after (λ y e. e))

pub returns-clause-starts_after : goal.returns-clause-starts_after
returns-clause-starts_after c =
    starts_done c.requires.entries_ahead c.loop-k.invariant c.loop-k-test.false
    _ c.fill-2.new.self c.requires.n_in_bounds.0 refl (c.fill-2.ensures.after (λ y e. e))
