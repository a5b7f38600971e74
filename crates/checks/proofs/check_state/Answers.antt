use Rattle.checks.specs.Pass.{residual_at, held_elements, state_8, state_10, state_11, state_9, state_0}
use Rattle.laws.specs.Lent.{part_at}
use Rattle.meaning.specs.Refusal.{elements, words_taken}
use lib.ListN.{length, take, drop}
use native.Mathlib.Omega.{arith}
use Prim.Native.Nat.{ℕ, ◌+◌, ◌-◌, ◌*◌, ◌≤◌, ◌<◌}
use mathlib.Core.Bool.{Bool, true, ◌&&◌}
use mathlib.Core.List.{List}
use mathlib.Core.Path.{◌≡◌, refl, sym, ap, ap₂, ◌∙◌}
use Rattle.checks.proofs.check_state.Goals as goal

-- F's part and r's, as they are lent
lent : (p n D : ℕ) {from : ℕ} (work : List ℕ) {a b t : Bool} → from ≡ residual_at n → a ≡ elements p (take (D + 1) work)
    → b ≡ elements p (take (from + n - from) (drop from work)) → a && b ≡ t → held_elements p n D work ≡ t
lent p n D {from} work e f g h =
    ap₂ (λ x y. x && y) (sym (f ∙ ap (elements p) (part_at work 0 (D + 1) 0 (D + 1) refl refl)))
    (sym (g ∙ ap (elements p) (part_at work from (from + n - from) (residual_at n) n e (omega arith)))) ∙ h

pub returns-then-n-d : goal.returns-then-n-d
returns-then-n-d c =
    let a = c.args in
    sym (state_8 a.p a.n a.d a.words.now a.work.now c.if-n-d.true)

pub returns-then-not-words_taken : goal.returns-then-not-words_taken
returns-then-not-words_taken c =
    let a = c.args in
    let below : a.d < a.n = omega (arith, c.if-n-d.false) in
    sym (state_10 a.p a.n a.d a.words.now a.work.now below (sym c.words_taken.ensures ∙ c.if-not-words_taken.true))

pub returns-then-work-n : goal.returns-then-work-n
returns-then-work-n c =
    let a = c.args in
    let below : a.d < a.n = omega (arith, c.if-n-d.false) in
    let taken : words_taken a.n a.words.now ≡ true = sym c.words_taken.ensures ∙ c.if-not-words_taken.false in
    sym (state_11 a.p a.n a.d a.words.now a.work.now below taken c.if-work-n.true)

pub returns-then-not-are_elements : goal.returns-then-not-are_elements
returns-then-not-are_elements c =
    let a = c.args in
    let below : a.d < a.n = omega (arith, c.if-n-d.false) in
    let taken : words_taken a.n a.words.now ≡ true = sym c.words_taken.ensures ∙ c.if-not-words_taken.false in
    let room : 16 * a.n + 16 ≤ length a.work.now = omega (arith, c.if-work-n.false) in
    sym (state_9 a.p a.n a.d a.words.now a.work.now below taken room
    (lent a.p a.n a.d a.work.now c.residual_at-from.ensures c.are_elements.ensures c.are_elements-2.ensures c.if-not-are_elements.true))

pub returns : goal.returns
returns c =
    let a = c.args in
    let below : a.d < a.n = omega (arith, c.if-n-d.false) in
    let taken : words_taken a.n a.words.now ≡ true = sym c.words_taken.ensures ∙ c.if-not-words_taken.false in
    let room : 16 * a.n + 16 ≤ length a.work.now = omega (arith, c.if-work-n.false) in
    sym (state_0 a.p a.n a.d a.words.now a.work.now below taken room
    (lent a.p a.n a.d a.work.now c.residual_at-from.ensures c.are_elements.ensures c.are_elements-2.ensures c.if-not-are_elements.false))
