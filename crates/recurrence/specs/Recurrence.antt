-- What the contracts of the shortest recurrence say. It runs in a slice of four regions of count + 2 places, of which the first holds the terms and the
-- second q; what stands there after each r is said in specs/Steps.antt.
--     Ready            what the steps ask: p of 2 to 2³¹ − 1, prime or not; `count` terms at the slice's front, all below p; room for four regions
--     Reversed         a slice after L + 1 places of it, from a on, were put in reverse order; reversed_lent: the part was lent
--     HoldsGenerator   a slice before and after the core: L, and f with zeros after it in the second region
--     room_checks       3, 8 and 11 of the regions: p of 2 to 2³¹ − 1, prime or not; at most 8,192 terms; the slice. HasRoom, room_of, room_to: what they say; room_terms: the terms
--                      stand in the slice
--     terms_refusal     these, and 9 of terms at the front of the slice
--     Generates        what a call in place answers and leaves
--     terms_ready, terms_taken      terms in place that no check turns down are ready, and back
--     GivesDegree      what each case of an answer says: document 01's number of the refusal, 0 for none, and L
--     Recurred         what a call answers and leaves, and Massey's promise of it
use Rattle.std.specs.Prelude.{◌≡◌, refl, ◌≢◌, not, List, [], ◌∷◌, ◌++◌, Result, Ok, Err, ℕ, ◌+◌, ◌-◌, ◌*◌, ◌≤◌, ◌<◌, leb, length, take, drop}
use Rattle.std.proofs.Common.{sym, ap, ◌∙◌, subst, arith, get_or-take, length-take-le, leb-true, ltb-true, le-leb}
use Rattle.meaning.specs.List.{at, table, every, padded}
use Rattle.meaning.specs.Recurrence.{IsShortest, degree, generator}
use Rattle.meaning.specs.Refusal.{Check, check, first, within, elements}
use Rattle.laws.specs.List.{every_at, table_ext}
use Rattle.laws.specs.Written.{Written, written_all}
use Rattle.laws.specs.Part.{part, length_part, at_part}
use Rattle.laws.specs.Lent.{lent, written_lent}
use Rattle.laws.specs.Refusal.{Numbered, first_nil, first_passed, first_pass, first_append_none, first_append_zero, within_low, within_high, within_of}
use Rattle.checks.specs.Valid.{elements_of_law}
use Rattle.meaning.specs.Calls.{recurrence_refusal, recurrence_answer, recurrence_after}
use Rattle.refusal.specs.declared.Refusal.{Refusal}
use Rattle.refusal.specs.Number.{number_of}

pub record Ready (p count : ℕ) (W : List ℕ) : Type 0 where
  pub two : 1 < p
  pub small : p ≤ 2147483647
  pub few : count ≤ 8192
  pub room : 4 * count + 8 ≤ length W
  pub elements : (i : ℕ) → i < count → at W i < p

abbrev pub Reversed : List ℕ → ℕ → ℕ → List ℕ → Type 0
Reversed W a L W' = Written W a (L + 1) (λ k. at W (a + (L - k))) W'

pub reversed_lent : (W : List ℕ) (a L n : ℕ) (Y : List ℕ) → n ≡ L + 1 → a + n ≤ length W
    → Y ≡ table (length (part a n W)) (λ i. at (part a n W) (length (part a n W) - 1 - i)) → Reversed W a L (lent W a n Y)
reversed_lent W a L n Y e fits turned =
    written_all e
    (written_lent W a n (λ k. at W (a + (L - k))) Y fits
    (turned ∙ ap (λ m. table m (λ i. at (part a n W) (m - 1 - i))) size
    ∙ table_ext n (λ i. at (part a n W) (n - 1 - i)) (λ k. at W (a + (L - k)))
    (λ i l. at_part a n W (n - 1 - i) (omega (arith, l)) ∙ ap (at W) (omega (arith, e, l)))))
  where
    size : length (part a n W) ≡ n
    size = length_part a n W fits

pub record HoldsGenerator (p count : ℕ) (W W' : List ℕ) (L : ℕ) : Type 0 where
  pub answer : L ≡ degree p (take count W)
  pub f : take (count + 2) (drop (count + 2) W') ≡ padded (count + 2) (generator p (take count W))
  pub terms : take (count + 2) W' ≡ take (count + 2) W

unfoldable pub room_checks : ℕ → ℕ → List ℕ → List Check
room_checks p count W =
    check 3 (not (within 2 2147483647 p)) ∷ check 8 (not (leb count 8192)) ∷ check 11 (not (leb (4 * count + 8) (length W))) ∷ []

pub numbered_room : (p count : ℕ) (W : List ℕ) → Numbered (room_checks p count W)
unfolding room_checks every
numbered_room p count W = refl

pub record HasRoom (p count : ℕ) (W : List ℕ) : Type 0 where
  pub two : 2 ≤ p
  pub small : p ≤ 2147483647
  pub few : count ≤ 8192
  pub room : 4 * count + 8 ≤ length W

pub room_of : {p count : ℕ} {W : List ℕ} → first (room_checks p count W) ≡ 0 → HasRoom p count W
unfolding room_checks
room_of {p} {count} {W} z =
    let a = first_passed 3 (within 2 2147483647 p) _ (omega arith) z in
    let b = first_passed 8 (leb count 8192) _ (omega arith) a.1 in
    let c = first_passed 11 (leb (4 * count + 8) (length W)) _ (omega arith) b.1 in
    record {
      two = within_low 2 2147483647 p a.0;
      small = within_high 2 2147483647 p a.0;
      few = leb-true count 8192 b.0;
      room = leb-true (4 * count + 8) (length W) c.0;
    }

pub room_to : {p count : ℕ} {W : List ℕ} → HasRoom p count W → first (room_checks p count W) ≡ 0
unfolding room_checks
room_to {p} {count} {W} h =
    first_pass 3 (within 2 2147483647 p) _ (within_of 2 2147483647 p h.two h.small)
    (first_pass 8 (leb count 8192) _ (le-leb count 8192 h.few)
    (first_pass 11 (leb (4 * count + 8) (length W)) _ (le-leb (4 * count + 8) (length W) h.room) first_nil))

-- the terms stand in the slice
pub room_terms : (p count : ℕ) (W : List ℕ) → 0 ≡ first (room_checks p count W) → count ≡ length (take count W)
room_terms p count W z = let has = room_of (sym z) in sym (length-take-le count W (omega (arith, has.room)))

unfoldable pub terms_refusal : ℕ → ℕ → List ℕ → ℕ
terms_refusal p count W = first (room_checks p count W ++ (check 9 (not (elements p (take count W))) ∷ []))

abbrev pub Generates : ℕ → ℕ → List ℕ → Result ℕ Refusal → List ℕ → Type 0
Generates p count W (Ok L) W' = (terms_refusal p count W ≡ 0) × HoldsGenerator p count W W' L
-- "every lent slice keeps its contents"
Generates p count W (Err r) W' = (terms_refusal p count W ≡ number_of r) × (number_of r ≢ 0) × (W' ≡ W)

-- "a refusal returns its number and no other answer (any count, length or element beside it is 0)"
abbrev pub GivesDegree : Result ℕ Refusal → ℕ → ℕ → Type 0
GivesDegree (Ok L) number degree = (number ≡ 0) × (degree ≡ L)
GivesDegree (Err r) number degree = (number ≡ number_of r) × (number_of r ≢ 0) × (degree ≡ 0)

pub record Recurred (p : ℕ) (s polynomial work : List ℕ) (r : Result ℕ Refusal) (polynomial' work' : List ℕ) : Type 0 where
  pub gives : GivesDegree r (recurrence_refusal p s polynomial work) (recurrence_answer p s polynomial work)
  pub after : polynomial' ≡ recurrence_after p s polynomial work
  -- "every lent slice keeps its contents"
  pub kept : recurrence_refusal p s polynomial work ≢ 0 → work' ≡ work
  pub shortest : (L : ℕ) → r ≡ Ok L → IsShortest p s L (take (L + 1) polynomial')

-- ---- terms in place

pub terms_ready : (p count : ℕ) (W : List ℕ) → terms_refusal p count W ≡ 0 → Ready p count W
unfolding terms_refusal elements
terms_ready p count W z =
    let both = first_append_zero (room_checks p count W) _ (numbered_room p count W) z in
    let has = room_of both.0 in
    let e = (first_passed 9 (elements p (take count W)) _ (omega arith) both.1).0 in
    let size : length (take count W) ≡ count = length-take-le count W (omega (arith, has.room)) in
    record {
      two = has.two;
      small = has.small;
      few = has.few;
      room = has.room;
      elements = λ i l. subst (λ x. x < p) (get_or-take count W i 0 l) (ltb-true (at (take count W) i) p (every_at _ (take count W) 0 e i (omega (arith, size, l))));
    }

pub terms_taken : {p count : ℕ} {W : List ℕ} → Ready p count W → terms_refusal p count W ≡ 0
unfolding terms_refusal
terms_taken {p} {count} {W} h =
    first_append_none (room_checks p count W) _ (numbered_room p count W)
    (room_to (record { two = h.two; small = h.small; few = h.few; room = h.room }))
    ∙ first_pass 9 (elements p (take count W)) _
    (elements_of_law p (take count W)
    (λ i l. let k : i < count = omega (arith, l, length-take-le count W (omega (arith, h.room))) in
    subst (λ x. x < p) (sym (get_or-take count W i 0 k)) (h.elements i k)))
    first_nil
