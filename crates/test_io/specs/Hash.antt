-- The hash of 32 bits of what a slice holds.
--     hash_from h s       with the elements of s after those of which h is the hash; of a slice it is hash_from 0
--     hash_from_append    with one element more at the end
--     hash_from_none, hash_from_next      none is left, and the element at a place and those after it
use Rattle.std.specs.Prelude.{◌≡◌, refl, List, [], ◌∷◌, ◌++◌, ℕ, ◌+◌, ◌*◌, ◌%◌, length, ◌<◌, ◌≤◌, get_or, drop}
use Rattle.std.proofs.Common.{sym, ap, ◌∙◌, add-one, drop_of_length-le, drop-cons}

unfoldable pub hash_from : ℕ → List ℕ → ℕ
hash_from h [] = h
hash_from h (x ∷ xs) = hash_from ((h * 65599 + x + 1) % 4294967291) xs

pub hash_from_append : (h : ℕ) (s : List ℕ) (x : ℕ) → hash_from h (s ++ (x ∷ [])) ≡ (hash_from h s * 65599 + x + 1) % 4294967291
unfolding hash_from
hash_from_append h [] x = refl
hash_from_append h (y ∷ s) x = hash_from_append ((h * 65599 + y + 1) % 4294967291) s x

pub hash_from_none : (h : ℕ) (s : List ℕ) (i : ℕ) → length s ≤ i → hash_from h (drop i s) ≡ h
unfolding hash_from
hash_from_none h s i e = ap (hash_from h) (drop_of_length-le s {i = i} e)

pub hash_from_next : (h : ℕ) (s : List ℕ) (i : ℕ) → i < length s
    → hash_from h (drop i s) ≡ hash_from ((h * 65599 + get_or s i 0 + 1) % 4294967291) (drop (i + 1) s)
unfolding hash_from
hash_from_next h s i e =
    ap (hash_from h) (drop-cons s i 0 e)
    ∙ ap (λ k. hash_from ((h * 65599 + get_or s i 0 + 1) % 4294967291) (drop k s)) (sym (add-one i))
