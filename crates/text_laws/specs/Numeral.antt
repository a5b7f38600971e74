-- Numerals: decimal and value_of are inverse.
--     small_or_large                     a number is below another or not
--     decimal_small, decimal_large       one digit; a digit more than the tenth has
--     decimal_next                       a digit written behind a numeral
--     decimal_ind                        induction along the digits
--     value_nil, value_cons, value_snoc  the clauses of value_after, and its last digit
--     value_decimal                      value_of (decimal k) ≡ k
--     digit_low, digit_high, digit_of    a digit is a byte from 48 to 57
--     numeral_some, numeral_digits, numeral_lead, numeral_bounded, numeral_of      what is_numeral says
--     decimal_value                      decimal (value_of w) ≡ w for a numeral w
--     decimal_positive, decimal_short    the length of decimal k: at least 1, at most m below 10 ^ m
--     decimal_bounded                    .. and at most 10 up to 4,294,967,295
--     decimal_digits, decimal_lead       decimal k has digits only, and no leading zero unless k is 0
--     decimal_numeral                    decimal k is a numeral up to 4,294,967,295
use Rattle.std.specs.Prelude.{◌≡◌, ◌⊎◌, ℕ, zero, suc, ◌+◌, ◌-◌, ◌*◌, ◌/◌, ◌%◌, ◌^◌, ◌≤◌, ◌<◌, eqb, ltb, leb, length}
use Rattle.std.proofs.Math.Path.{refl}
use Rattle.std.proofs.Common.{sym, ap, ap₂, ◌∙◌, subst, inl, inr, arith, add-one, length-append, ltb-true, ltb-false, leb-true, lt-ltb, le-ltb, le-leb, ne_eqb}
use mathlib.Core.Bool.{Bool, true, false, not, cond, ◌&&◌, ◌||◌}
use mathlib.Core.List.{List, [], ◌∷◌, ◌++◌, append_assoc}
use Rattle.std.proofs.Math.ListN.{get_or-append}
use Rattle.std.proofs.lemmas.Bool.{eqb-false, not-true}
use Rattle.meaning.specs.List.{at, every}
use Rattle.meaning.specs.Text.{digits, decimal, value_after, value_of, is_digit, is_numeral}
use Rattle.laws.specs.Bool.{and_left, and_right, and_both, test_cases}
use Rattle.laws.specs.List.{every_cons}
use Rattle.text_laws.specs.Lists.{every_one, every_join}

-- ---- the digits of a number

digits_suc : (d k : ℕ) → digits (suc d) k ≡ cond (ltb k 10) ((48 + k) ∷ []) (digits d (k / 10) ++ ((48 + k % 10) ∷ []))
unfolding digits
digits_suc d k = refl

digits_small : (d k : ℕ) → k < 10 → digits (suc d) k ≡ (48 + k) ∷ []
digits_small d k h =
    digits_suc d k ∙ ap (λ t. cond t ((48 + k) ∷ []) (digits d (k / 10) ++ ((48 + k % 10) ∷ []))) (lt-ltb k 10 h)

digits_large : (d k : ℕ) → 10 ≤ k → digits (suc d) k ≡ digits d (k / 10) ++ ((48 + k % 10) ∷ [])
digits_large d k h =
    digits_suc d k ∙ ap (λ t. cond t ((48 + k) ∷ []) (digits d (k / 10) ++ ((48 + k % 10) ∷ []))) (le-ltb k 10 h)

pub small_or_large : (k m : ℕ) → (k < m) ⊎ (m ≤ k)
small_or_large k m = go (test_cases (ltb k m))
  where
    go : (ltb k m ≡ true) ⊎ (ltb k m ≡ false) → (k < m) ⊎ (m ≤ k)
    go (inl e) = inl (ltb-true k m e)
    go (inr e) = inr (ltb-false k m e)

-- more digits asked for than there are: the same digits
digits_same : (d e k : ℕ) → k < d → k < e → digits d k ≡ digits e k
digits_same zero e k h g = absurd (omega arith)
digits_same (suc d) zero k h g = absurd (omega arith)
digits_same (suc d) (suc e) k h g = go (small_or_large k 10) (digits_same d e (k / 10))
  where
    go : (k < 10) ⊎ (10 ≤ k) → (k / 10 < d → k / 10 < e → digits d (k / 10) ≡ digits e (k / 10)) → digits (suc d) k ≡ digits (suc e) k
    go (inl l) ih = digits_small d k l ∙ sym (digits_small e k l)
    go (inr l) ih =
        digits_large d k l ∙ ap (λ w. w ++ ((48 + k % 10) ∷ [])) (ih (omega arith) (omega arith)) ∙ sym (digits_large e k l)

decimal_digits_suc : (k : ℕ) → decimal k ≡ digits (suc k) k
unfolding decimal
decimal_digits_suc k = ap (λ d. digits d k) (add-one k)

pub decimal_small : (k : ℕ) → k < 10 → decimal k ≡ (48 + k) ∷ []
decimal_small k h = decimal_digits_suc k ∙ digits_small k k h

pub decimal_large : (k : ℕ) → 10 ≤ k → decimal k ≡ decimal (k / 10) ++ ((48 + k % 10) ∷ [])
decimal_large k h =
    decimal_digits_suc k ∙ digits_large k k h
    ∙ ap (λ w. w ++ ((48 + k % 10) ∷ []))
    (digits_same k (suc (k / 10)) (k / 10) (omega arith) (omega arith) ∙ sym (decimal_digits_suc (k / 10)))

-- a digit written behind a numeral
pub decimal_next : (k x : ℕ) → 1 ≤ k → x < 10 → decimal (k * 10 + x) ≡ decimal k ++ ((48 + x) ∷ [])
decimal_next k x h l =
    let q : (k * 10 + x) / 10 ≡ k = omega arith in
    let r : (k * 10 + x) % 10 ≡ x = omega arith in
    decimal_large (k * 10 + x) (omega arith) ∙ ap₂ (λ a b. decimal a ++ ((48 + b) ∷ [])) q r

-- induction along the digits
pub decimal_ind : (P : ℕ → Type 0) → ((k : ℕ) → k < 10 → P k) → ((k : ℕ) → 10 ≤ k → P (k / 10) → P k) → (k : ℕ) → P k
decimal_ind P small large k = go (suc k) k (omega arith)
  where
    go : (d k : ℕ) → k < d → P k
    go zero k h = absurd (omega arith)
    go (suc d) k h = step (small_or_large k 10) (go d (k / 10))
      where
        step : (k < 10) ⊎ (10 ≤ k) → (k / 10 < d → P (k / 10)) → P k
        step (inl l) ih = small k l
        step (inr l) ih = large k l (ih (omega arith))

-- ---- the value of a numeral

pub value_nil : (k : ℕ) → value_after k [] ≡ k
unfolding value_after
value_nil k = refl

pub value_cons : (k c : ℕ) (w : List ℕ) → value_after k (c ∷ w) ≡ value_after (k * 10 + (c - 48)) w
unfolding value_after
value_cons k c w = refl

pub value_snoc : (k : ℕ) (w : List ℕ) (c : ℕ) → value_after k (w ++ (c ∷ [])) ≡ value_after k w * 10 + (c - 48)
value_snoc k [] c = value_cons k c [] ∙ value_nil (k * 10 + (c - 48)) ∙ ap (λ x. x * 10 + (c - 48)) (sym (value_nil k))
value_snoc k (a ∷ w) c =
    value_cons k a (w ++ (c ∷ [])) ∙ value_snoc (k * 10 + (a - 48)) w c ∙ ap (λ x. x * 10 + (c - 48)) (sym (value_cons k a w))

pub value_decimal : (k : ℕ) → value_of (decimal k) ≡ k
value_decimal = decimal_ind (λ k. value_of (decimal k) ≡ k) small large
  where
    small : (k : ℕ) → k < 10 → value_of (decimal k) ≡ k
    small k h =
        ap value_of (decimal_small k h) ∙ value_cons 0 (48 + k) [] ∙ value_nil (0 * 10 + (48 + k - 48)) ∙ omega arith

    large : (k : ℕ) → 10 ≤ k → value_of (decimal (k / 10)) ≡ k / 10 → value_of (decimal k) ≡ k
    large k h ih =
        ap value_of (decimal_large k h) ∙ value_snoc 0 (decimal (k / 10)) (48 + k % 10)
        ∙ ap (λ x. x * 10 + (48 + k % 10 - 48)) ih ∙ omega arith

-- ---- what is_numeral says

pub digit_low : (c : ℕ) → is_digit c ≡ true → 48 ≤ c
digit_low c e = leb-true 48 c (and_left (leb 48 c) (leb c 57) e)

pub digit_high : (c : ℕ) → is_digit c ≡ true → c ≤ 57
digit_high c e = leb-true c 57 (and_right (leb 48 c) (leb c 57) e)

pub digit_of : (c : ℕ) → 48 ≤ c → c ≤ 57 → is_digit c ≡ true
digit_of c l h = and_both (le-leb 48 c l) (le-leb c 57 h)

module _ (w : List ℕ) where
  abbrev some : Bool
  some = not (eqb (length w) 0)

  abbrev lead : Bool
  lead = eqb (length w) 1 || not (eqb (at w 0) 48)

  abbrev bounded : Bool
  bounded = leb (value_of w) 4294967295

  is_numeral_law : is_numeral w ≡ some && every is_digit w && lead && bounded
  unfolding is_numeral
  is_numeral_law = refl

  tests : is_numeral w ≡ true → (some ≡ true) × (every is_digit w ≡ true) × (lead ≡ true) × (bounded ≡ true)
  tests e =
      let three = and_left (some && every is_digit w && lead) bounded (sym is_numeral_law ∙ e) in
      let two = and_left (some && every is_digit w) lead three in (
        and_left some (every is_digit w) two,
        and_right some (every is_digit w) two,
        and_right (some && every is_digit w) lead three,
        and_right (some && every is_digit w && lead) bounded (sym is_numeral_law ∙ e),
      )

  pub numeral_some : is_numeral w ≡ true → 1 ≤ length w
  numeral_some e = go (length w) (not-true (eqb (length w) 0) (tests e).0)
    where
      go : (n : ℕ) → eqb n 0 ≡ false → 1 ≤ n
      go zero h = absurd (eqb-false 0 0 h refl)
      go (suc n) h = omega arith

  pub numeral_digits : is_numeral w ≡ true → every is_digit w ≡ true
  numeral_digits e = (tests e).1

  pub numeral_lead : is_numeral w ≡ true → lead ≡ true
  numeral_lead e = (tests e).2

  pub numeral_bounded : is_numeral w ≡ true → value_of w ≤ 4294967295
  numeral_bounded e = leb-true (value_of w) 4294967295 (tests e).3

  pub numeral_of : 1 ≤ length w → every is_digit w ≡ true → lead ≡ true → value_of w ≤ 4294967295 → is_numeral w ≡ true
  numeral_of s d l b =
      is_numeral_law
      ∙ and_both (and_both (and_both (ap not (ne_eqb (length w) 0 (λ z. omega arith))) d) l) (le-leb (value_of w) 4294967295 b)

-- ---- a numeral is the numeral of its value

-- digits written behind the numeral of k
decimal_after : (k : ℕ) (w : List ℕ) → 1 ≤ k → every is_digit w ≡ true → decimal (value_after k w) ≡ decimal k ++ w
decimal_after k [] h e = ap decimal (value_nil k) ∙ sym (mathlib.Core.List.append-nil (decimal k))
decimal_after k (c ∷ w) h e =
    let t : is_digit c && every is_digit w ≡ true = sym (every_cons is_digit c w) ∙ e in
    let d : is_digit c ≡ true = and_left (is_digit c) (every is_digit w) t in
    let l : 48 ≤ c = digit_low c d in
    let g : c ≤ 57 = digit_high c d in
    ap decimal (value_cons k c w)
    ∙ decimal_after (k * 10 + (c - 48)) w (omega arith) (and_right (is_digit c) (every is_digit w) t)
    ∙ ap (λ v. v ++ w) (decimal_next k (c - 48) h (omega arith) ∙ ap (λ x. decimal k ++ (x ∷ [])) (omega arith))
    ∙ append_assoc (decimal k) (c ∷ []) w

pub decimal_value : (w : List ℕ) → is_numeral w ≡ true → decimal (value_of w) ≡ w
decimal_value [] e = absurd (let h : 1 ≤ 0 = numeral_some [] e in omega arith)
decimal_value (c ∷ w) e = ap decimal (value_cons 0 c w) ∙ go w (numeral_digits (c ∷ w) e) (numeral_lead (c ∷ w) e)
  where
    first_digit : (w : List ℕ) → every is_digit (c ∷ w) ≡ true → is_digit c ≡ true
    first_digit w d = and_left (is_digit c) (every is_digit w) (sym (every_cons is_digit c w) ∙ d)

    go : (w : List ℕ) → every is_digit (c ∷ w) ≡ true → (eqb (length (c ∷ w)) 1 || not (eqb c 48)) ≡ true
        → decimal (value_after (0 * 10 + (c - 48)) w) ≡ c ∷ w
    go [] d l =
        let low : 48 ≤ c = digit_low c (first_digit [] d) in
        let high : c ≤ 57 = digit_high c (first_digit [] d) in
        ap decimal (value_nil (0 * 10 + (c - 48))) ∙ decimal_small (0 * 10 + (c - 48)) (omega arith) ∙ ap (λ x. x ∷ []) (omega arith)
    go (a ∷ w) d l =
        let low : 48 ≤ c = digit_low c (first_digit (a ∷ w) d) in
        let high : c ≤ 57 = digit_high c (first_digit (a ∷ w) d) in
        let two : eqb (suc (suc (length w))) 1 ≡ false = ne_eqb (suc (suc (length w))) 1 (λ z. omega arith) in
        let other : not (eqb c 48) ≡ true = ap (λ t. t || not (eqb c 48)) (sym two) ∙ l in
        let apart : c ≡ 48 → ⊥ = eqb-false c 48 (not-true (eqb c 48) other) in
        let positive : 1 ≤ c - 48 = omega (arith, apart) in
        decimal_after (0 * 10 + (c - 48)) (a ∷ w) (omega arith)
        (and_right (is_digit c) (every is_digit (a ∷ w)) (sym (every_cons is_digit c (a ∷ w)) ∙ d))
        ∙ ap (λ v. v ++ (a ∷ w)) (decimal_small (0 * 10 + (c - 48)) (omega arith) ∙ ap (λ x. x ∷ []) (omega arith))

-- ---- the numeral of a number

pub decimal_positive : (k : ℕ) → 1 ≤ length (decimal k)
decimal_positive k = go (small_or_large k 10)
  where
    go : (k < 10) ⊎ (10 ≤ k) → 1 ≤ length (decimal k)
    go (inl h) = omega (arith, ap length (decimal_small k h))
    go (inr h) = omega (arith, ap length (decimal_large k h), length-append (decimal (k / 10)) ((48 + k % 10) ∷ []))

-- below 10 ^ suc m: at most suc m digits
pub decimal_short : (m k : ℕ) → k < 10 ^ suc m → length (decimal k) ≤ suc m
decimal_short zero k h = omega (arith, ap length (decimal_small k (omega arith)))
decimal_short (suc m) k h = go (small_or_large k 10) (decimal_short m (k / 10) (omega arith))
  where
    go : (k < 10) ⊎ (10 ≤ k) → length (decimal (k / 10)) ≤ suc m → length (decimal k) ≤ suc (suc m)
    go (inl l) ih = omega (arith, ap length (decimal_small k l))
    go (inr l) ih = omega (arith, ap length (decimal_large k l), length-append (decimal (k / 10)) ((48 + k % 10) ∷ []))

pub decimal_bounded : (k : ℕ) → k ≤ 4294967295 → length (decimal k) ≤ 10
decimal_bounded k h = decimal_short 9 k (omega arith)

pub decimal_digits : (k : ℕ) → every is_digit (decimal k) ≡ true
decimal_digits = decimal_ind (λ k. every is_digit (decimal k) ≡ true) small large
  where
    small : (k : ℕ) → k < 10 → every is_digit (decimal k) ≡ true
    small k h = ap (every is_digit) (decimal_small k h) ∙ every_one is_digit (48 + k) (digit_of (48 + k) (omega arith) (omega arith))

    large : (k : ℕ) → 10 ≤ k → every is_digit (decimal (k / 10)) ≡ true → every is_digit (decimal k) ≡ true
    large k h ih =
        ap (every is_digit) (decimal_large k h)
        ∙ every_join is_digit (decimal (k / 10)) ((48 + k % 10) ∷ []) ih
        (every_one is_digit (48 + k % 10) (digit_of (48 + k % 10) (omega arith) (omega arith)))

-- no leading zero
pub decimal_lead : (k : ℕ) → 1 ≤ k → eqb (at (decimal k) 0) 48 ≡ false
decimal_lead = decimal_ind (λ k. 1 ≤ k → eqb (at (decimal k) 0) 48 ≡ false) small large
  where
    small : (k : ℕ) → k < 10 → 1 ≤ k → eqb (at (decimal k) 0) 48 ≡ false
    small k h p = ap (λ w. eqb (at w 0) 48) (decimal_small k h) ∙ ne_eqb (48 + k) 48 (λ z. omega arith)

    large : (k : ℕ) → 10 ≤ k → (1 ≤ k / 10 → eqb (at (decimal (k / 10)) 0) 48 ≡ false) → 1 ≤ k → eqb (at (decimal k) 0) 48 ≡ false
    large k h ih p =
        ap (λ w. eqb (at w 0) 48) (decimal_large k h)
        ∙ ap (λ c. eqb c 48) (get_or-append (decimal (k / 10)) ((48 + k % 10) ∷ []) 0 0 (decimal_positive (k / 10)))
        ∙ ih (omega arith)

pub decimal_numeral : (k : ℕ) → k ≤ 4294967295 → is_numeral (decimal k) ≡ true
decimal_numeral k h =
    numeral_of (decimal k) (decimal_positive k) (decimal_digits k) (go k)
    (subst (λ v. v ≤ 4294967295) (sym (value_decimal k)) h)
  where
    go : (k : ℕ) → (eqb (length (decimal k)) 1 || not (eqb (at (decimal k) 0) 48)) ≡ true
    go zero = ap (λ w. eqb (length w) 1 || not (eqb (at w 0) 48)) (decimal_small 0 (omega arith))
    go (suc k) =
        ap (λ t. eqb (length (decimal (suc k))) 1 || not t) (decimal_lead (suc k) (omega arith))
        ∙ mathlib.Core.Bool.or-true (eqb (length (decimal (suc k))) 1)
