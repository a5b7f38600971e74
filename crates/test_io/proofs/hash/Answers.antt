use Rattle.std.proofs.Common.{◌≡◌, List, ℕ, [], ◌∷◌, ◌++◌, ◌+◌, ◌<◌, length, get_or, take, refl, sym, ap, ◌∙◌, subst}
use Rattle.std.specs.List.{AllZip}
use Rattle.std.proofs.lemmas.List.{take_more}
use Rattle.std.proofs.lemmas.Slice.Zip.{all_zipped_more}
use Rattle.test_io.specs.Hash.{hash_from, hash_from_append}
use Rattle.test_io.proofs.hash.Goals as goal

-- one element more, and its number
one_more : {A : Type 0} (R : A → ℕ → Type 0) (s : List A) (i : ℕ) (x : A) (numbers : List ℕ) (n : ℕ) → i < length s → x ≡ get_or s i x → AllZip R (take i s) numbers → R x n
    → AllZip R (take (i + 1) s) (numbers ++ (n ∷ []))
one_more R s i x numbers n h e so_far this =
    let front = take_more s i x h ∙ ap (λ y. take i s ++ (y ∷ [])) (sym e) in
    subst (λ l. AllZip R l (numbers ++ (n ∷ []))) (sym front) (all_zipped_more R _ _ _ _ so_far this)

pub loop-x-init : goal.loop-x-init
unfolding hash_from
loop-x-init g c = ([], tt, refl)

pub loop-x-preserved : goal.loop-x-preserved
loop-x-preserved g c =
    let so_far = c.loop-x.invariant in (
      so_far.0 ++ (c.into.result ∷ []),
      one_more _ _ _ _ _ _ c.loop-x-test.true c.x-item.is so_far.1 c.into.ensures,
      cc (hash_from_append 0 so_far.0 c.into.result),
    )
