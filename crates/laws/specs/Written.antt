-- A slice after a part of it was written.
--     Written W a n f W'       W' is W but for the n places from a on, which hold f 0, .., f (n − 1)
--     written_none             nothing written
--     written_more             one place more
--     written_all              all of them, where a count has come to its end
use Rattle.std.specs.Prelude.{◌≡◌, refl, ◌⊎◌, List, ℕ, ◌+◌, ◌≤◌, ◌<◌, length, set}
use Rattle.std.proofs.Common.{sym, ap, ◌∙◌, subst, inl, inr, eq-or-lt_of_le, arith, length-set, get_or-set_same, get_or-set_other}
use Rattle.meaning.specs.List.{at}

pub record Written (W : List ℕ) (a n : ℕ) (f : ℕ → ℕ) (W' : List ℕ) : Type 0 where
  pub same_length : length W' ≡ length W
  pub inside : (i : ℕ) → i < n → at W' (a + i) ≡ f i
  pub before : (k : ℕ) → k < a → at W' k ≡ at W k
  pub after : (k : ℕ) → a + n ≤ k → at W' k ≡ at W k

pub written_none : (W : List ℕ) (a : ℕ) (f : ℕ → ℕ) → Written W a 0 f W
written_none W a f =
    record { same_length = refl; inside = λ i l. absurd (omega arith); before = λ k l. refl; after = λ k l. refl }

pub written_more : {W W' : List ℕ} {a n : ℕ} {f : ℕ → ℕ} (v : ℕ) → Written W a n f W' → a + n < length W → v ≡ f n
    → Written W a (n + 1) f (set W' (a + n) v)
written_more {W} {W'} {a} {n} {f} v w l e =
    record {
      same_length = length-set W' (a + n) v ∙ w.same_length;
      inside = λ i h. go i (eq-or-lt_of_le {n = i} {m = n} (omega arith));
      before = λ k h. get_or-set_other W' (a + n) k v 0 (omega arith) ∙ w.before k h;
      after = λ k h. get_or-set_other W' (a + n) k v 0 (omega arith) ∙ w.after k (omega arith);
    }
  where
    go : (i : ℕ) → (i ≡ n) ⊎ (i < n) → at (set W' (a + n) v) (a + i) ≡ f i
    go i (inl q) =
        ap (λ k. at (set W' (a + n) v) (a + k)) q ∙ get_or-set_same W' (a + n) v 0 (omega (arith, w.same_length)) ∙ e ∙ ap f (sym q)
    go i (inr h) = get_or-set_other W' (a + n) (a + i) v 0 (omega arith) ∙ w.inside i h

pub written_all : {W W' : List ℕ} {a n m : ℕ} {f : ℕ → ℕ} → n ≡ m → Written W a n f W' → Written W a m f W'
written_all {W} {W'} {a} {n} {m} {f} e w = subst (λ k. Written W a k f W') e w
