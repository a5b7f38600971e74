use mathlib.Core.Path.{◌≡◌, refl, sym, ap, ◌∙◌}
use mathlib.Core.Bool.{Bool, not, ◌&&◌}
use mathlib.Core.List.{List}
use Prim.Native.Nat.{ℕ, ◌+◌, ◌-◌, ◌≤◌, ◌<◌}
use native.Mathlib.Omega.{arith}
use lib.ListN.{length, take, drop}
use lib.Seq.{length-take-le}
use Rattle.meaning.specs.Refusal.{elements}
use Rattle.laws.specs.Bool.{not_as, not_as_both}
use Rattle.laws.specs.Lent.{part_at}
use Rattle.laws.specs.Part.{part}
use Rattle.laws.specs.Refusal.{first_stops, first_past, first_nil}
use Rattle.recurrence.specs.Factor.{factors_refusal, fits_of}
use Rattle.recurrence.proofs.factor.check_factors.Goals.{Else-not-fit}
use Rattle.recurrence.proofs.factor.check_factors.Goals as goal

-- F and f as they are lent
asked : (p d f t : ℕ) (W : List ℕ) {a b r : Bool} → a ≡ elements p (take (d + 1) W) → b ≡ elements p (take (f + t + 1 - f) (drop f W))
    → a && b ≡ r → not (elements p (part 0 (d + 1) W) && elements p (part f (t + 1) W)) ≡ not r
asked p d f t W e g = not_as_both e (g ∙ ap (elements p) (part_at W f (f + t + 1 - f) f (t + 1) refl (omega arith)))

-- their places
fit : (c : Else-not-fit) → let x = c.args.factors in (x.d + x.t ≤ 8192) × (x.d + x.t < x.f) × (x.f + x.t < length c.args.work.now)
fit c = fits_of _ _ _ _ (sym c.fit.ensures ∙ c.if-not-fit.false)

pub returns-then-not-p : goal.returns-then-not-p
unfolding factors_refusal
returns-then-not-p c = sym (first_stops 3 _ _ (ap not c.if-not-p.true))

pub returns-then-not-fit : goal.returns-then-not-fit
unfolding factors_refusal
returns-then-not-fit c =
    sym (first_past 3 _ _ (ap not c.if-not-p.false) ∙ first_stops 8 _ _ (not_as c.fit.ensures c.if-not-fit.true))

pub overflow_add-d : goal.overflow_add-d
overflow_add-d c = let h = fit (goal.at.overflow_add-d c).Else-not-fit in omega (arith, h.0)

pub overflow_add-f : goal.overflow_add-f
overflow_add-f c = let h = fit (goal.at.overflow_add-f c).Else-not-fit in omega (arith, h.2)

pub overflow_add-f-2 : goal.overflow_add-f-2
overflow_add-f-2 c = let h = fit (goal.at.overflow_add-f-2 c).Else-not-fit in omega (arith, h.2)

pub slice_bounds-are_elements-end : goal.slice_bounds-are_elements-end
slice_bounds-are_elements-end c =
    let h = fit (goal.at.slice_bounds-are_elements-end c).Else-not-fit in sym (length-take-le _ _ (omega (arith, h.1, h.2)))

pub offset_bounds-work-f : goal.offset_bounds-work-f
offset_bounds-work-f c = let h = fit (goal.at.offset_bounds-work-f c).Else-not-fit in omega (arith, h.2)

pub slice_bounds-are_elements-end-2 : goal.slice_bounds-are_elements-end-2
slice_bounds-are_elements-end-2 c = let h = fit (goal.at.slice_bounds-are_elements-end-2 c).Else-not-fit in omega (arith, h.2)

pub returns-then-not-are_elements : goal.returns-then-not-are_elements
unfolding factors_refusal
returns-then-not-are_elements c =
    sym
    (first_past 3 _ _ (ap not c.if-not-p.false) ∙ first_past 8 _ _ (not_as c.fit.ensures c.if-not-fit.false)
    ∙ first_stops 9 _ _ (asked _ _ _ _ c.args.work.now c.are_elements.ensures c.are_elements-2.ensures c.if-not-are_elements.true))

pub returns : goal.returns
unfolding factors_refusal
returns c =
    sym
    (first_past 3 _ _ (ap not c.if-not-p.false) ∙ first_past 8 _ _ (not_as c.fit.ensures c.if-not-fit.false)
    ∙ first_past 9 _ _ (asked _ _ _ _ c.args.work.now c.are_elements.ensures c.are_elements-2.ensures c.if-not-are_elements.false) ∙ first_nil)
