-- The words in which the other files are written: sums, tables and tests over lists of numbers.
--     at l i           element i of l, 0 past its end
--     sum n f          f 0 + .. + f (n − 1)
--     sum_from a b f    the sum of f over a up to but not including b
--     table n f        the list f 0, .., f (n − 1)
--     zeros n          n zeros
--     all n f          f holds at 0, .., n − 1
--     all_from a b f    f holds at a up to but not including b
--     every f l        f holds of each element of l
--     chain f l        f holds of each two neighbours in l
--     is_zero l         each element is 0
--     equal l m        l and m are the same list
--     least n f        the least i below n at which f holds, n if there is none
--     select f l       the elements of l of which f holds
--     flat ls          the lists of ls, one after the other
--     padded n l       l with zeros after it, n places in all
--     overwrite l m    m with its leading part replaced by l
--     bytes s          a quoted text as bytes
use Rattle.std.specs.Prelude.{Bool, true, false, cond, ◌&&◌, List, [], ◌∷◌, ◌++◌, ℕ, zero, suc, ◌+◌, ◌-◌, eqb, get_or, length, drop}
use Prim.Native.Char.{code}
use Prim.Native.String.{String}
use Prim.Native.String as text

abbrev pub at : List ℕ → ℕ → ℕ
at l i = get_or l i 0

unfoldable pub sum : ℕ → (ℕ → ℕ) → ℕ
sum zero f = 0
sum (suc n) f = sum n f + f n

abbrev pub sum_from : ℕ → ℕ → (ℕ → ℕ) → ℕ
sum_from a b f = sum (b - a) (λ j. f (a + j))

unfoldable pub table : {A : Type 0} → ℕ → (ℕ → A) → List A
table zero f = []
table (suc n) f = table n f ++ (f n ∷ [])

abbrev pub zeros : ℕ → List ℕ
zeros n = table n (λ i. 0)

unfoldable pub all : ℕ → (ℕ → Bool) → Bool
all zero f = true
all (suc n) f = all n f && f n

abbrev pub all_from : ℕ → ℕ → (ℕ → Bool) → Bool
all_from a b f = all (b - a) (λ j. f (a + j))

unfoldable pub every : {A : Type 0} → (A → Bool) → List A → Bool
every f [] = true
every f (a ∷ l) = f a && every f l

unfoldable pub chain_from : {A : Type 0} → (A → A → Bool) → A → List A → Bool
chain_from f a [] = true
chain_from f a (b ∷ l) = f a b && chain_from f b l

unfoldable pub chain : {A : Type 0} → (A → A → Bool) → List A → Bool
chain f [] = true
chain f (a ∷ l) = chain_from f a l

abbrev pub is_zero : List ℕ → Bool
is_zero l = every (λ a. eqb a 0) l

unfoldable pub equal : List ℕ → List ℕ → Bool
equal [] [] = true
equal [] (b ∷ m) = false
equal (a ∷ l) [] = false
equal (a ∷ l) (b ∷ m) = eqb a b && equal l m

-- what is bound by a `let` is worked out only where it is wanted
unfoldable pub least : ℕ → (ℕ → Bool) → ℕ
least zero f = 0
least (suc n) f =
    let later = suc (least n (λ i. f (suc i))) in
    cond (f 0) 0 later

unfoldable pub select : {A : Type 0} → (A → Bool) → List A → List A
select f [] = []
select f (a ∷ l) =
    let later = select f l in
    cond (f a) (a ∷ later) later

unfoldable pub flat : {A : Type 0} → List (List A) → List A
flat [] = []
flat (l ∷ ls) = l ++ flat ls

abbrev pub padded : ℕ → List ℕ → List ℕ
padded n l = table n (λ i. at l i)

abbrev pub overwrite : List ℕ → List ℕ → List ℕ
overwrite l m = l ++ drop (length l) m

unfoldable pub bytes : String → List ℕ
bytes text.[] = []
bytes (text.◌∷◌ c s) = code c ∷ bytes s
