use mathlib.Core.Path.{◌≡◌, refl, ap, ◌∙◌}
use mathlib.Core.Bool.{Bool, ◌&&◌}
use mathlib.Core.List.{List}
use Prim.Native.Nat.{ℕ, ◌+◌, ◌-◌, ◌*◌, ◌%◌}
use native.Mathlib.Omega.{arith}
use lib.Dec.{eqb, ltb}
use lib.ListN.{take, drop}
use Rattle.meaning.specs.Refusal.{elements}
use Rattle.laws.specs.Part.{part}
use Rattle.laws.specs.Lent.{part_at}
use Rattle.recurrence.specs.declared.steps.Register.{Register}
use Rattle.recurrence.specs.OneStep.{state_elements}
use Rattle.recurrence.proofs.state_elements.Goals as goal

-- the terms, q and what is above it as they are lent
held : (p count r : ℕ) (W : List ℕ) (c : Register) {a b z : Bool} {m : ℕ} → a ≡ elements p (take r W)
    → b ≡ elements p (take (count + 2 + (c.L + 1) - (count + 2)) (drop (count + 2) W))
    → z ≡ elements 1 (take (2 * (count + 2) - (count + 2 + (c.L + 1))) (drop (count + 2 + (c.L + 1)) W)) → m ≡ c.e * c.inverse
    → (a && b && z && ltb c.inverse p && eqb (m % p) 1) ≡ state_elements p count r W c
unfolding state_elements
held p count r W c {a} {b} {z} {m} terms q end product =
    let i = ltb c.inverse p in
    let low = part (count + 2) (c.L + 1) W in
    let high = part (count + 2 + (c.L + 1)) (count + 1 - c.L) W in
    ap (λ x. x && b && z && i && eqb (m % p) 1) terms
    ∙ ap (λ x. elements p (take r W) && x && z && i && eqb (m % p) 1)
    (q ∙ ap (elements p) (part_at W (count + 2) (count + 2 + (c.L + 1) - (count + 2)) (count + 2) (c.L + 1) refl (omega arith)))
    ∙ ap (λ x. elements p (take r W) && elements p low && x && i && eqb (m % p) 1)
    (end ∙ ap (elements 1) (part_at W (count + 2 + (c.L + 1)) (2 * (count + 2) - (count + 2 + (c.L + 1))) (count + 2 + (c.L + 1)) (count + 1 - c.L) refl (omega arith)))
    ∙ ap (λ x. elements p (take r W) && elements p low && elements 1 high && i && eqb (x % p) 1) product

pub returns : goal.returns
returns c =
    held c.args.p c.args.count c.args.r c.args.work.now c.args.c c.are_elements.ensures
    c.are_elements-2.ensures c.are_elements-3.ensures c.times.ensures
