-- Laws of tests.
--     and_left, and_right, and_both      a conjunction is true exactly if both are
--     and_five                           .. five of them
--     and_false_left, and_false_right    it is false if one is
--     or_true_left, or_true_right        a disjunction is true if one is; or_right: one whose left side is false
--     not_by, not_both                   a test that fails, by an equal one; by two that are equal to its parts
--     not_as, not_as_both                the same where it is known what the equal tests are
--     never                              a test that is both proves anything
--     test_cases                         a test is true or false
--     same_test                          two tests that are true together are equal
use Rattle.std.specs.Prelude.{◌≡◌, refl, ◌⊎◌, Bool, true, false, not, ◌&&◌, ◌||◌}
use Rattle.std.proofs.Common.{sym, ap, ap₂, ◌∙◌, inl, inr, true≢false}

pub and_left : (a b : Bool) → a && b ≡ true → a ≡ true
and_left true b e = refl
and_left false b e = e

pub and_right : (a b : Bool) → a && b ≡ true → b ≡ true
and_right true b e = e
and_right false b e = absurd (true≢false (sym e))

pub and_both : {a b : Bool} → a ≡ true → b ≡ true → a && b ≡ true
and_both {a} {b} e f = rw (e, f)

pub and_five : (a b c d e : Bool) → a && b && c && d && e ≡ true → (a ≡ true) × (b ≡ true) × (c ≡ true) × (d ≡ true) × (e ≡ true)
and_five a b c d e h =
    let q = and_left (a && b && c && d) e h in
    let r = and_left (a && b && c) d q in
    let s = and_left (a && b) c r in
    (and_left a b s, and_right a b s, and_right (a && b) c r, and_right (a && b && c) d q, and_right (a && b && c && d) e h)

pub and_false_left : {a : Bool} (b : Bool) → a ≡ false → a && b ≡ false
and_false_left b e = rw e

pub and_false_right : (a : Bool) {b : Bool} → b ≡ false → a && b ≡ false
and_false_right true e = e
and_false_right false e = refl

pub or_true_left : {a : Bool} (b : Bool) → a ≡ true → (a || b) ≡ true
or_true_left b e = rw e

pub or_true_right : (a : Bool) {b : Bool} → b ≡ true → (a || b) ≡ true
or_true_right true e = refl
or_true_right false e = e

pub or_right : (a b : Bool) → a ≡ false → (a || b) ≡ true → b ≡ true
or_right a b e h = ap (λ t. t || b) (sym e) ∙ h

pub not_by : {a b : Bool} {t : Bool} → a ≡ b → not a ≡ t → not b ≡ t
not_by e h = ap not (sym e) ∙ h

pub not_both : {a b c d : Bool} {t : Bool} → a ≡ c → b ≡ d → not (a && b) ≡ t → not (c && d) ≡ t
not_both e f h = ap₂ (λ x y. not (x && y)) (sym e) (sym f) ∙ h

pub not_as : {a b : Bool} {t : Bool} → a ≡ b → a ≡ t → not b ≡ not t
not_as e h = ap not (sym e ∙ h)

pub not_as_both : {a b c d : Bool} {t : Bool} → a ≡ c → b ≡ d → a && b ≡ t → not (c && d) ≡ not t
not_as_both e f h = ap not (ap₂ (λ x y. x && y) (sym e) (sym f) ∙ h)

pub never : {A : Type 0} (a : Bool) → a ≡ true → a ≡ false → A
never a e f = absurd (true≢false (sym e ∙ f))

pub test_cases : (a : Bool) → (a ≡ true) ⊎ (a ≡ false)
test_cases true = inl refl
test_cases false = inr refl

pub same_test : (a b : Bool) → (a ≡ true → b ≡ true) → (b ≡ true → a ≡ true) → a ≡ b
same_test true b f g = sym (f refl)
same_test false true f g = g refl
same_test false false f g = refl
