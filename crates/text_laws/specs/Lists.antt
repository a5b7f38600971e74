-- Laws of lists that the text's laws need beside those of the crate laws.
--     map_append                                                        maps
--     flat_nil, flat_cons, flat_append, flat_one                        lists one after the other
--     select_nil, select_cons, select_yes, select_no, select_append, select_all      selections
--     every_append, every_join, every_one, every_head, every_tail, every_more, every_weaken, every_map      tests of each element
use Rattle.std.specs.Prelude.{◌≡◌, ◌⊎◌}
use Rattle.std.proofs.Math.Path.{refl}
use Rattle.std.proofs.Common.{sym, ap, ◌∙◌, inl, inr}
use mathlib.Core.Bool.{Bool, true, false, cond, ◌&&◌}
use mathlib.Core.List.{List, [], ◌∷◌, ◌++◌, map, append_assoc}
use Rattle.meaning.specs.List.{every, select, flat}
use Rattle.laws.specs.Bool.{and_left, and_right, and_both, test_cases}
use Rattle.laws.specs.List.{every_nil, every_cons}

-- ---- maps

module _ {A B : Type 0} where
  pub map_append : (f : A → B) (l m : List A) → map f (l ++ m) ≡ map f l ++ map f m
  map_append f [] m = refl
  map_append f (a ∷ l) m = ap (λ r. f a ∷ r) (map_append f l m)

-- ---- lists one after the other

module _ {A : Type 0} where
  pub flat_nil : flat {A = A} [] ≡ []
  unfolding flat
  flat_nil = refl

  pub flat_cons : (l : List A) (ls : List (List A)) → flat (l ∷ ls) ≡ l ++ flat ls
  unfolding flat
  flat_cons l ls = refl

  pub flat_append : (ls ms : List (List A)) → flat (ls ++ ms) ≡ flat ls ++ flat ms
  flat_append [] ms = ap (λ l. l ++ flat ms) (sym flat_nil)
  flat_append (l ∷ ls) ms =
      flat_cons l (ls ++ ms) ∙ ap (λ m. l ++ m) (flat_append ls ms) ∙ sym (append_assoc l (flat ls) (flat ms))
      ∙ ap (λ m. m ++ flat ms) (sym (flat_cons l ls))

  pub flat_one : (l : List A) → flat (l ∷ []) ≡ l
  flat_one l = flat_cons l [] ∙ ap (λ m. l ++ m) flat_nil ∙ mathlib.Core.List.append-nil l

-- ---- selections

module _ {A : Type 0} (f : A → Bool) where
  pub select_nil : select f [] ≡ []
  unfolding select
  select_nil = refl

  pub select_cons : (a : A) (l : List A) → select f (a ∷ l) ≡ cond (f a) (a ∷ select f l) (select f l)
  unfolding select
  select_cons a l = refl

  pub select_yes : (a : A) (l : List A) → f a ≡ true → select f (a ∷ l) ≡ a ∷ select f l
  select_yes a l e = select_cons a l ∙ ap (λ t. cond t (a ∷ select f l) (select f l)) e

  pub select_no : (a : A) (l : List A) → f a ≡ false → select f (a ∷ l) ≡ select f l
  select_no a l e = select_cons a l ∙ ap (λ t. cond t (a ∷ select f l) (select f l)) e

  pub select_append : (l m : List A) → select f (l ++ m) ≡ select f l ++ select f m
  select_append [] m = ap (λ r. r ++ select f m) (sym select_nil)
  select_append (a ∷ l) m = go (test_cases (f a)) (select_append l m)
    where
      go : (f a ≡ true) ⊎ (f a ≡ false) → select f (l ++ m) ≡ select f l ++ select f m → select f (a ∷ l ++ m) ≡ select f (a ∷ l) ++ select f m
      go (inl e) ih = select_yes a (l ++ m) e ∙ ap (λ r. a ∷ r) ih ∙ ap (λ r. r ++ select f m) (sym (select_yes a l e))
      go (inr e) ih = select_no a (l ++ m) e ∙ ih ∙ ap (λ r. r ++ select f m) (sym (select_no a l e))

  pub select_all : (l : List A) → every f l ≡ true → select f l ≡ l
  select_all [] e = select_nil
  select_all (a ∷ l) e =
      let t : f a && every f l ≡ true = sym (every_cons f a l) ∙ e in
      select_yes a l (and_left (f a) (every f l) t) ∙ ap (λ r. a ∷ r) (select_all l (and_right (f a) (every f l) t))

-- ---- tests of each element

module _ {A : Type 0} (f : A → Bool) where
  pub every_append : (l m : List A) → every f (l ++ m) ≡ every f l && every f m
  every_append [] m = ap (λ t. t && every f m) (sym (every_nil f))
  every_append (a ∷ l) m =
      every_cons f a (l ++ m) ∙ ap (λ t. f a && t) (every_append l m) ∙ sym (mathlib.Core.Bool.and_assoc (f a) (every f l) (every f m))
      ∙ ap (λ t. t && every f m) (sym (every_cons f a l))

  pub every_join : (l m : List A) → every f l ≡ true → every f m ≡ true → every f (l ++ m) ≡ true
  every_join l m d e = every_append l m ∙ and_both d e

  pub every_one : (a : A) → f a ≡ true → every f (a ∷ []) ≡ true
  every_one a e = every_cons f a [] ∙ and_both e (every_nil f)

  pub every_head : (a : A) (l : List A) → every f (a ∷ l) ≡ true → f a ≡ true
  every_head a l e = and_left (f a) (every f l) (sym (every_cons f a l) ∙ e)

  pub every_tail : (a : A) (l : List A) → every f (a ∷ l) ≡ true → every f l ≡ true
  every_tail a l e = and_right (f a) (every f l) (sym (every_cons f a l) ∙ e)

  pub every_more : (a : A) (l : List A) → f a ≡ true → every f l ≡ true → every f (a ∷ l) ≡ true
  every_more a l d e = every_cons f a l ∙ and_both d e

  pub every_weaken : (g : A → Bool) (l : List A) → ((a : A) → f a ≡ true → g a ≡ true) → every f l ≡ true → every g l ≡ true
  every_weaken g [] h e = every_nil g
  every_weaken g (a ∷ l) h e =
      every_cons g a l ∙ and_both (h a (every_head a l e)) (every_weaken g l h (every_tail a l e))

pub every_map : {A B : Type 0} (f : B → Bool) (g : A → B) (l : List A) → every f (map g l) ≡ every (λ a. f (g a)) l
every_map f g [] = every_nil f ∙ sym (every_nil (λ a. f (g a)))
every_map f g (a ∷ l) =
    every_cons f (g a) (map g l) ∙ ap (λ t. f (g a) && t) (every_map f g l) ∙ sym (every_cons (λ a. f (g a)) a l)
