use Rattle.std.proofs.Common.{◌≡◌, Bool, List, [], ◌∷◌, ◌&&◌, eqb, sym, ap, ◌∙◌, rules, tests}
use Rattle.std.specs.List.{list_all}
use Rattle.std.proofs.lemmas.Iterator.{YieldsList-from_slice}
use Rattle.std.proofs.lemmas.Iterator.Search.{all_from_yields_List}
use Rattle.meaning.specs.List.{every}
use Rattle.laws.specs.List.{every_nil, every_cons}
use Rattle.slices.proofs.is_zero.Goals as goal

same : {A : Type 0} (f : A → Bool) (l : List A) → list_all f l ≡ every f l
same f [] = sym (every_nil f)
same f (a ∷ l) = ap (λ b. f a && b) (same f l) ∙ sym (every_cons f a l)

pub returns : goal.returns
returns c =
    all_from_yields_List (λ a. eqb a 0) _ _ _ c.all.ensures.ran (YieldsList-from_slice c.args.v.now cc)
    (λ x b q k. search (rules, tests)) ∙ same (λ a. eqb a 0) c.args.v.now
