use Rattle.std.proofs.Common.{arith}
use Rattle.system_reader.proofs.FillingPlaces.{places_begin, out_long, place_there, place_bounds, place_turn, places_done, rest_kept}
use Rattle.system_reader.proofs.fill.fill_placed.Goals as goal

pub loop-init : goal.loop-init
loop-init c = places_begin _ _ _ _ c.requires.n_in_bounds (c.fill.ensures.after (λ y e. e)) _ _ _ _ c.requires.places_ahead

pub unwrap-l-requires : goal.unwrap-l-requires
unwrap-l-requires c = place_there c.requires.places_ahead c.loop.invariant c.loop-test.true _ c.line.ensures

pub overflow_sub-out : goal.overflow_sub-out
overflow_sub-out c =
    (place_bounds c.requires.places_ahead c.loop.invariant c.loop-test.true c.unwrap-l.ensures c.line.ensures).0

pub bounds-out-place : goal.bounds-out-place
bounds-out-place c =
    let b = place_bounds c.requires.places_ahead c.loop.invariant c.loop-test.true c.unwrap-l.ensures c.line.ensures in
    omega (arith, b.0, b.1, c.loop.invariant.out_length, out_long _ _ _ _ c.requires.n_in_bounds (c.fill.ensures.after (λ y e. e)))

pub loop-preserved : goal.loop-preserved
loop-preserved c =
    place_turn c.requires.places_ahead c.loop.invariant c.loop-test.true c.unwrap-l.ensures c.line.ensures
    (out_long _ _ _ _ c.requires.n_in_bounds (c.fill.ensures.after (λ y e. e)))

pub returns : goal.returns
returns c =
    places_done c.requires.places_ahead c.loop.invariant c.loop-test.false _
    (rest_kept _ _ _ _ c.requires.n_in_bounds (c.fill.ensures.after (λ y e. e)))
