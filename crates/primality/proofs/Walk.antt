-- What the tables' rule says of p.
--     inverse_quotient, inverse_product      where v inverts q: p × v is the quotient if q divides p, and q × (p × v) is p if it is small
--     Free p d          no number from 2 to d − 1 divides p: free_end past the root
--     walk_free, block_free, tables_free                p misses every inverse: no number of the walk, the block, block i divides it
--     walk_missed, block_missed, tables_divided         a prime misses every inverse; so p is not prime if it does not
--     two_or_three      2 and 3 are prime
--     Block             the parts of a block's rule; tables_block: those of block i
use mathlib.Core.Path.{◌≡◌, refl, sym, ap, subst, ◌∙◌}
use mathlib.Core.Logic.{◌≢◌}
use mathlib.Core.Bool.{Bool, true, false, ◌&&◌, true≢false}
use mathlib.Core.List.{List, [], ◌∷◌}
use Prim.Native.Nat.{ℕ, zero, suc, ◌+◌, ◌*◌, ◌-◌, ◌/◌, ◌%◌, ◌≤◌, ◌<◌}
use native.Mathlib.Nat.{add-zero, mul-one, mul_comm, mul_assoc, mul_left_comm, mul-mod_right, mul-le-mul, mul-le-mul_left, mod-eq_of_lt, div-add-mod'}
use native.Mathlib.Decide.{dec_lt, ℕ_discrete}
use native.Mathlib.Numerals.{add-one}
use native.Mathlib.Omega.{arith}
use lib.Dec.{eqb, ltb, leb}
use lib.ListN.{length, take, drop, length-drop}
use lib.Seq.{length-take-le, drop-drop, get_or-take, get_or-drop}
use borrow.Author.Tests.{ltb-true, lt-ltb, leb-true, eqb-true}
use Rattle.meaning.specs.Field.{is_prime}
use Rattle.meaning.specs.List.{at, all}
use Rattle.laws.specs.Bool.{and_left, and_right}
use Rattle.laws.specs.List.{all_at, all_of}
use Rattle.residue.specs.Numbers.{mul_mod_mod}
use Rattle.residue.specs.Prime.{Prime, is_prime_Prime, refuted, up_to_root, divisor_of_divisor}
use Rattle.primality.specs.Blocks.{Candidate, Tables, inverts, misses, small_primes, divided, walk, block, blocks}

module _ (w p q v : ℕ) (i : q * v % w ≡ 1) where
  pub inverse_quotient : (k : ℕ) → k < w → k * q ≡ p → p * v % w ≡ k
  inverse_quotient k l e =
      ap (λ x. x * v % w) (sym e) ∙ ap (λ x. x % w) (mul_assoc k q v) ∙ sym (mul_mod_mod k (q * v) w) ∙ ap (λ x. k * x % w) i
      ∙ ap (λ x. x % w) (mul-one k) ∙ mod-eq_of_lt l

  pub inverse_product : p < w → q * (p * v % w) < w → q * (p * v % w) ≡ p
  inverse_product l s =
      sym (mod-eq_of_lt s) ∙ mul_mod_mod q (p * v) w ∙ ap (λ x. x % w) (mul_left_comm q p v) ∙ sym (mul_mod_mod p (q * v) w)
      ∙ ap (λ x. p * x % w) i ∙ ap (λ x. x % w) (mul-one p) ∙ mod-eq_of_lt l

abbrev pub Free : ℕ → ℕ → Type 0
Free p d = (e : ℕ) → 2 ≤ e → e < d → p % e ≢ 0

free_suc : (p d : ℕ) → Free p d → p % d ≢ 0 → Free p (suc d)
free_suc p d f g e a b z = go (ℕ_discrete e d)
  where
    go : Dec (e ≡ d) → ⊥
    go (yes q) = g (ap (λ x. p % x) (sym q) ∙ z)
    go (no q) = f e a (omega arith) z

pub free_end : (p d : ℕ) → 2 ≤ p → Free p d → p < d * d → Prime p
free_end p d l f k = up_to_root p l (λ e a s. f e a (below e s (dec_lt e d)))
  where
    below : (e : ℕ) → e * e ≤ p → Dec (e < d) → e < d
    below e s (yes b) = b
    below e s (no b) = let c : d ≤ e = omega arith in absurd (omega (arith, mul-le-mul c c))

pub two_or_three : (p : ℕ) → 2 ≤ p → p < 4 → is_prime p ≡ true
two_or_three p l k = (is_prime_Prime p).1 (up_to_root p l (λ d a b z. omega (arith, mul-le-mul a a)))

divided_hit : (c : ℕ) (cs : List ℕ) (d : ℕ) → eqb (d % c) 0 ≡ true → divided (c ∷ cs) d ≡ ltb 1 c && ltb c d
unfolding divided
divided_hit c cs d e = rw (e, divided)

divided_next : (c : ℕ) (cs : List ℕ) (d : ℕ) → eqb (d % c) 0 ≡ false → divided (c ∷ cs) d ≡ divided cs d
unfolding divided
divided_next c cs d e = rw (e, divided)

divided_free : (cs : List ℕ) (d p : ℕ) → divided cs d ≡ true → Free p d → p % d ≢ 0
unfolding divided
divided_free [] d p t f z = true≢false (sym t)
divided_free (c ∷ cs) d p t f z = branch (eqb (d % c) 0) refl (λ t'. divided_free cs d p t' f z)
  where
    branch : (x : Bool) → eqb (d % c) 0 ≡ x → (divided cs d ≡ true → ⊥) → ⊥
    branch true e ih =
        let h = sym (divided_hit c cs d e) ∙ t in
        f c (ltb-true 1 c (and_left (ltb 1 c) (ltb c d) h)) (ltb-true c d (and_right (ltb 1 c) (ltb c d) h))
        (divisor_of_divisor c d p (eqb-true (d % c) 0 e) z)
    branch false e ih = ih (sym (divided_next c cs d e) ∙ t)

walk_fill : (d v : ℕ) (vs : List ℕ) → walk 0 d (v ∷ vs) ≡ inverts v 3 && walk 0 d vs
unfolding walk
walk_fill d v vs = refl

walk_nil : (n d : ℕ) → walk (suc n) d [] ≡ divided small_primes d && walk n (suc d) []
unfolding walk
walk_nil n d = refl

walk_taken : (n d v : ℕ) (vs : List ℕ) → inverts v d ≡ true → walk (suc n) d (v ∷ vs) ≡ walk n (suc d) vs
unfolding walk
walk_taken n d v vs e = rw (e, walk)

walk_passed : (n d v : ℕ) (vs : List ℕ) → inverts v d ≡ false → walk (suc n) d (v ∷ vs) ≡ divided small_primes d && walk n (suc d) (v ∷ vs)
unfolding walk
walk_passed n d v vs e = rw (e, walk)

inverts_one : (v q : ℕ) → inverts v q ≡ true → q * v % 4294967296 ≡ 1
unfolding inverts
inverts_one v q e = eqb-true (q * v % 4294967296) 1 e

module _ (p limit : ℕ) (small : p ≤ 2147483647) where
  abbrev Missed : ℕ → Type 0
  Missed v = limit < p * v % 4294967296

  missed_free : (a d v : ℕ) → 2147483647 < (limit + 1) * a → a ≤ d → 2 ≤ d → inverts v d ≡ true → Missed v → p % d ≢ 0
  missed_free a d v h l k e m z = omega (arith, whole, mul-le-mul {n₁ = limit + 1} {m₁ = a} {n₂ = p / d} {m₂ = d} (omega (arith, quotient)) l)
    where
      whole : p / d * d ≡ p
      whole = sym (add-zero (p / d * d)) ∙ ap (λ x. p / d * d + x) (sym z) ∙ div-add-mod' p d

      within : p / d ≤ p
      within = omega (arith, whole, mul-le-mul_left (p / d) k)

      quotient : p * v % 4294967296 ≡ p / d
      quotient = inverse_quotient 4294967296 p d v (inverts_one v d e) (p / d) (omega (arith, within)) whole

  pub walk_free : (a n d : ℕ) (vs : List ℕ) → 2147483647 < (limit + 1) * a → a ≤ d → 2 ≤ d → walk n d vs ≡ true
      → ((j : ℕ) → j < length vs → Missed (at vs j)) → Free p d → Free p (n + d)
  walk_free a zero d vs h l k t m f e b c = f e b (omega arith)
  walk_free a (suc n) d [] h l k t m f e b c =
      walk_free a n (suc d) [] h (omega arith) (omega arith) (and_right (divided small_primes d) (walk n (suc d) []) t') m
      (free_suc p d f (divided_free small_primes d p (and_left (divided small_primes d) (walk n (suc d) []) t') f)) e b (omega arith)
    where
      t' : divided small_primes d && walk n (suc d) [] ≡ true
      t' = sym (walk_nil n d) ∙ t
  walk_free a (suc n) d (v ∷ vs) h l k t m f e b c =
      branch (inverts v d) refl (λ t' m' f'. walk_free a n (suc d) vs h (omega arith) (omega arith) t' m' f' e b (omega arith))
      (λ t' f'. walk_free a n (suc d) (v ∷ vs) h (omega arith) (omega arith) t' m f' e b (omega arith))
    where
      branch : (x : Bool) → inverts v d ≡ x
          → (walk n (suc d) vs ≡ true → ((j : ℕ) → j < length vs → Missed (at vs j)) → Free p (suc d) → p % e ≢ 0)
          → (walk n (suc d) (v ∷ vs) ≡ true → Free p (suc d) → p % e ≢ 0) → p % e ≢ 0
      branch true i taken passed =
          taken (sym (walk_taken n d v vs i) ∙ t) (λ j b. m (suc j) (omega arith))
          (free_suc p d f (missed_free a d v h l k i (m 0 (omega arith))))
      branch false i taken passed =
          let t' : divided small_primes d && walk n (suc d) (v ∷ vs) ≡ true = sym (walk_passed n d v vs i) ∙ t in
          passed (and_right (divided small_primes d) (walk n (suc d) (v ∷ vs)) t')
          (free_suc p d f (divided_free small_primes d p (and_left (divided small_primes d) (walk n (suc d) (v ∷ vs)) t') f))

  module _ (prime : Prime p) where
    prime_missed : (q v : ℕ) → 2 ≤ q → q < p → limit * q < 4294967296 → inverts v q ≡ true → Missed v
    prime_missed q v a b s i = go (dec_lt limit (p * v % 4294967296))
      where
        go : Dec (Missed v) → Missed v
        go (yes l) = l
        go (no l) =
            let e = inverse_product 4294967296 p q v (inverts_one v q i) (omega arith)
            (omega (arith, mul-le-mul_left {m = p * v % 4294967296} {n = limit} q (omega arith), mul_comm q limit)) in
            absurd (prime.no_divisor q a b (ap (λ x. x % q) (sym e) ∙ mul-mod_right q (p * v % 4294967296)))

    pub walk_missed : (n d : ℕ) (vs : List ℕ) → 3 ≤ d → limit * (n + d) < 4294967296 → n + d < p → walk n d vs ≡ true
        → (j : ℕ) → j < length vs → Missed (at vs j)
    walk_missed n d [] a s b t j l = absurd (omega arith)
    walk_missed zero d (v ∷ vs) a s b t zero l =
        prime_missed 3 v (omega arith) (omega arith) (omega (arith, mul-le-mul_left {m = 3} {n = d} limit a))
        (and_left (inverts v 3) (walk 0 d vs) (sym (walk_fill d v vs) ∙ t))
    walk_missed zero d (v ∷ vs) a s b t (suc j) l =
        walk_missed zero d vs a s b (and_right (inverts v 3) (walk 0 d vs) (sym (walk_fill d v vs) ∙ t)) j (omega arith)
    walk_missed (suc n) d (v ∷ vs) a s b t j l =
        branch (inverts v d) refl j l (λ t' i l'. walk_missed n (suc d) vs (omega arith) s' (omega arith) t' i l')
        (λ t'. walk_missed n (suc d) (v ∷ vs) (omega arith) s' (omega arith) t' j l)
      where
        e' : n + suc d ≡ suc n + d
        e' = omega arith

        s' : limit * (n + suc d) < 4294967296
        s' = subst (λ x. limit * x < 4294967296) (sym e') s

        branch : (x : Bool) → inverts v d ≡ x → (j : ℕ) → j < length (v ∷ vs)
            → (walk n (suc d) vs ≡ true → (i : ℕ) → i < length vs → Missed (at vs i))
            → (walk n (suc d) (v ∷ vs) ≡ true → Missed (at (v ∷ vs) j)) → Missed (at (v ∷ vs) j)
        branch true i zero l taken passed =
            prime_missed d v (omega arith) (omega arith) (omega (arith, mul-le-mul_left {m = d} {n = suc n + d} limit (omega arith))) i
        branch true i (suc j) l taken passed = taken (sym (walk_taken n d v vs i) ∙ t) j (omega arith)
        branch false i j l taken passed =
            passed (and_right (divided small_primes d) (walk n (suc d) (v ∷ vs)) (sym (walk_passed n d v vs i) ∙ t))

-- the parts of a block's rule

pub record Block (a b limit : ℕ) (vs : List ℕ) : Type 0 where
  pub ordered : a ≤ b
  pub quotients : 2147483647 < (limit + 1) * a
  pub products : limit * b < 4294967296
  pub below : b < 65536
  pub walked : walk (b - a) a vs ≡ true

pub block_parts : (a b limit : ℕ) (vs : List ℕ) → block a b limit vs ≡ true → Block a b limit vs
unfolding block
block_parts a b limit vs e =
    let o = leb a b in
    let q = ltb 2147483647 ((limit + 1) * a) in
    let m = ltb (limit * b) 4294967296 in
    let w = ltb b 65536 in
    let e₃ = and_left (o && q && m && w) (walk (b - a) a vs) e in
    let e₂ = and_left (o && q && m) w e₃ in
    let e₁ = and_left (o && q) m e₂ in
    record {
      ordered = leb-true a b (and_left o q e₁);
      quotients = ltb-true 2147483647 ((limit + 1) * a) (and_right o q e₁);
      products = ltb-true (limit * b) 4294967296 (and_right (o && q) m e₂);
      below = ltb-true b 65536 (and_right (o && q && m) w e₃);
      walked = and_right (o && q && m && w) (walk (b - a) a vs) e;
    }

module _ (p a b limit : ℕ) (vs : List ℕ) (small : p ≤ 2147483647) (r : Block a b limit vs) (l : 3 ≤ a) where
  pub block_free : ((j : ℕ) → j < length vs → limit < p * at vs j % 4294967296) → Free p a → Free p b
  block_free m f e c k =
      walk_free p limit small a (b - a) a vs r.quotients (omega arith) (omega arith) r.walked m f e c (omega (arith, r.ordered))

  pub block_missed : 65536 ≤ p → Prime p → (j : ℕ) → j < length vs → limit < p * at vs j % 4294967296
  block_missed k prime =
      let e : b - a + a ≡ b = omega (arith, r.ordered) in
      walk_missed p limit small prime (b - a) a vs l (subst (λ x. limit * x < 4294967296) (sym e) r.products) (omega (arith, r.below)) r.walked

-- block i of the tables

blocks_at : (ss ls vs : List ℕ) (i : ℕ) → blocks ss ls vs ≡ true → suc i < length ss → i < length ls
    → block (at ss i) (at ss (suc i)) (at ls i) (take 32 (drop (i * 32) vs)) ≡ true
unfolding blocks
blocks_at [] ls vs i e h k = absurd (omega arith)
blocks_at (a ∷ []) ls vs i e h k = absurd (omega arith)
blocks_at (a ∷ b ∷ ss) [] vs i e h k = absurd (omega arith)
blocks_at (a ∷ b ∷ ss) (l ∷ ls) vs zero e h k = and_left (block a b l (take 32 vs)) (blocks (b ∷ ss) ls (drop 32 vs)) e
blocks_at (a ∷ b ∷ ss) (l ∷ ls) vs (suc i) e h k =
    subst (λ ws. block (at (b ∷ ss) i) (at (b ∷ ss) (suc i)) (at ls i) (take 32 ws) ≡ true) skip
    (blocks_at (b ∷ ss) ls (drop 32 vs) i (and_right (block a b l (take 32 vs)) (blocks (b ∷ ss) ls (drop 32 vs)) e) (omega arith) (omega arith))
  where
    skip : drop (i * 32) (drop 32 vs) ≡ drop (suc i * 32) vs
    skip = let n : 32 + i * 32 ≡ suc i * 32 = omega arith in drop-drop (i * 32) 32 vs ∙ ap (λ k. drop k vs) n

module _ {p : ℕ} {inverses limits starts : List ℕ} (c : Candidate p) (t : Tables inverses limits starts) (i : ℕ) (h : i < length limits) where
  abbrev pub entries : List ℕ
  entries = take 32 (drop (i * 32) inverses)

  pub tables_block : Block (at starts i) (at starts (i + 1)) (at limits i) entries
  tables_block =
      block_parts (at starts i) (at starts (i + 1)) (at limits i) entries
      (subst (λ k. block (at starts i) (at starts k) (at limits i) entries ≡ true) (sym (add-one i))
      (blocks_at starts limits inverses i t.served (omega (arith, t.bounds)) h))

  length_entries : length entries ≡ 32
  length_entries = length-take-le 32 (drop (i * 32) inverses) (omega (arith, length-drop (i * 32) inverses, t.entries))

  at_entries : (j : ℕ) → j < 32 → at entries j ≡ at inverses (i * 32 + j)
  at_entries j l = rw (get_or-take, get_or-drop)

  abbrev missed : ℕ → Bool
  missed j = misses p (at limits i) (at inverses (i * 32 + j))

  pub tables_free : 5 ≤ at starts i → all 32 missed ≡ true → Free p (at starts i) → Free p (at starts (i + 1))
  tables_free l e =
      block_free p (at starts i) (at starts (i + 1)) (at limits i) entries c.small tables_block (omega arith)
      (λ j k.
      let b : j < 32 = subst (λ n. j < n) length_entries k in
      subst (λ v. at limits i < p * v % 4294967296) (sym (at_entries j b)) (ltb-true (at limits i) _ (all_at 32 missed e j b)))

  pub tables_divided : 5 ≤ at starts i → all 32 missed ≡ false → is_prime p ≡ false
  tables_divided l e =
      refuted p
      (λ prime.
      true≢false
      (sym
      (all_of 32 missed
      (λ j k.
      lt-ltb (at limits i) _
      (subst (λ v. at limits i < p * v % 4294967296) (at_entries j k)
      (block_missed p (at starts i) (at starts (i + 1)) (at limits i) entries c.small tables_block (omega arith) (omega (arith, c.large)) prime j
      (subst (λ n. j < n) (sym length_entries) k)))))
      ∙ e))
