-- The calls that make one step, for a pass that looks at d between two terms (src/lib.rt). They ask nothing of how a state came about, and refuse what
-- is none.
--     register_fits             8 of a register: r is 1 to count; L, and t with its zeros, are no longer than r − 1 allows; t and the spare region
--     state_elements            9: the first r terms and q are elements, q ends with L, and the inverse is that of e
--     step_refusal              the number of a step's refusal
--     Answers                  what a call answers and leaves: a register, or its refusal
--     Starts, StepsOn          the two calls': document 01's start, and its step for r of what was found
--     Fits, fits_of, fits_not, fits_by        what register_fits says; that it fails; as the code makes it
--     makes_modulus, makes_one the modulus by its other name; a step of the steps
--     room_ready, step_asked   what no check turns down is what a start, and a step, ask
--     step_taken               .. and what follows the steps modulo a prime is not turned down
use Rattle.std.specs.Prelude.{◌≡◌, ◌≢◌, ◌⊎◌, Bool, true, false, not, ◌&&◌, ◌||◌, List, [], ◌∷◌, ◌++◌, Result, Ok, Err, ℕ, ◌+◌, ◌-◌, ◌*◌, ◌%◌, ◌≤◌, ◌<◌, ◌^◌, min, eqb, ltb, leb, length, take}
use Rattle.std.proofs.Common.{sym, ap, ◌∙◌, subst, inl, inr, arith, get_or-take, length-take-le, eqb-true, eq-eqb, ltb-true, lt-ltb, leb-true, le-leb}
use Rattle.std.proofs.Math.Decide.{dec_lt}
use Rattle.meaning.specs.List.{at}
use Rattle.meaning.specs.Refusal.{check, first, within, elements}
use Rattle.laws.specs.Bool.{and_left, and_right, and_both, and_five, or_true_left, or_true_right, or_right, test_cases, same_test}
use Rattle.laws.specs.Part.{part, length_part, at_part}
use Rattle.laws.specs.Recurrence.{e_element}
use Rattle.laws.specs.Refusal.{first_nil, first_passed, first_pass, first_append_none, first_append_zero, within_low, within_high, within_of}
use Rattle.refusal.specs.declared.Refusal.{Refusal}
use Rattle.refusal.specs.Number.{number_of}
use Rattle.residue.specs.Prime.{Prime}
use Rattle.residue.specs.Inverse.{inverse_is, inverse_lt, mul_inverse}
use Rattle.checks.specs.Valid.{Vector, vector_of, elements_of_law}
use Rattle.recurrence.specs.declared.steps.Register.{Register}
use Rattle.recurrence.specs.Recurrence.{room_checks, numbered_room, room_of, room_to}
use Rattle.recurrence.specs.Steps.{FollowsSteps, represented, Places, Laid, TermsStay, FirstTerms, Sound, BeforeStep, MakesStep, MakesSteps, sound_follows}

abbrev pub places : ℕ → ℕ → ℕ → Bool
places count t spare =
    let third = 2 * (count + 2) in
    let fourth = 3 * (count + 2) in
    (eqb t third && eqb spare fourth) || (eqb t fourth && eqb spare third)

unfoldable pub register_fits : ℕ → ℕ → Register → Bool
register_fits count r c =
    within 1 count r && ltb c.L r && ltb (c.shift + c.held) r && leb (c.L + (c.shift + c.held)) r && places count c.t c.spare

-- what is below 1 is 0
unfoldable pub state_elements : ℕ → ℕ → ℕ → List ℕ → Register → Bool
state_elements p count r W c =
    elements p (take r W) && elements p (part (count + 2) (c.L + 1) W) && elements 1 (part (count + 2 + (c.L + 1)) (count + 1 - c.L) W)
    && ltb c.inverse p && eqb (c.e * c.inverse % p) 1

unfoldable pub step_refusal : ℕ → ℕ → ℕ → List ℕ → Register → ℕ
step_refusal p count r W c =
    first (room_checks p count W ++ (check 8 (not (register_fits count r c)) ∷ check 9 (not (state_elements p count r W c)) ∷ []))

abbrev pub Answers : ℕ → (Register → Type 0) → List ℕ → Result Register Refusal → List ℕ → Type 0
Answers number Left W (Ok c) W' = (number ≡ 0) × Left c
-- "every lent slice keeps its contents"
Answers number Left W (Err r) W' = (number ≡ number_of r) × (number_of r ≢ 0) × (W' ≡ W)

pub record Started (p count : ℕ) (W W' : List ℕ) (c : Register) : Type 0 where
  pub follows : FollowsSteps p (take 0 W) 0 c.d (represented count W' c)
  pub laid : Laid p count 0 c
  pub stay : TermsStay count W W'

abbrev pub Starts : ℕ → ℕ → List ℕ → Result Register Refusal → List ℕ → Type 0
Starts p count W a W' = Answers (first (room_checks p count W)) (Started p count W W') W a W'

abbrev pub StepsOn : ℕ → ℕ → ℕ → List ℕ → Register → Result Register Refusal → List ℕ → Type 0
StepsOn p count r W c a W' = Answers (step_refusal p count r W c) (MakesStep p count r W c W') W a W'

pub makes_modulus : {m p count r : ℕ} {W : List ℕ} {c : Register} {W' : List ℕ} {c' : Register} → m ≡ p → MakesStep m count r W c W' c'
    → MakesStep p count r W c W' c'
makes_modulus {count} {r} {W} {c} {W'} {c'} e h = subst (λ p. MakesStep p count r W c W' c') e h

pub makes_one : {p count : ℕ} (r : ℕ) {W : List ℕ} {c : Register} {W' : List ℕ} {c' : Register} → 0 < r → MakesSteps p count (r - 1) r W c W' c'
    → MakesStep p count r W c W' c'
makes_one r low h = record { step = h.one (omega (arith, low)); follows = h.follows; sound = h.sound; stay = h.stay }

-- ---- the regions

pub room_ready : {p count : ℕ} {W : List ℕ} → first (room_checks p count W) ≡ 0 → FirstTerms p count 0 W
room_ready z =
    let has = room_of z in
    record {
      ready =
          record { two = has.two; small = has.small; few = omega arith; room = omega (arith, has.room); elements = λ i l. absurd (omega arith) };
      high = omega arith;
      few = has.few;
      room = has.room;
    }

-- ---- a state

places_of : (count t spare : ℕ) → places count t spare ≡ true → Places count t spare
places_of count t spare h = go (test_cases (eqb t third && eqb spare fourth))
  where
    third : ℕ
    third = 2 * (count + 2)

    fourth : ℕ
    fourth = 3 * (count + 2)

    go : (eqb t third && eqb spare fourth ≡ true) ⊎ (eqb t third && eqb spare fourth ≡ false) → Places count t spare
    go (inl e) =
        inl (eqb-true t third (and_left (eqb t third) (eqb spare fourth) e), eqb-true spare fourth (and_right (eqb t third) (eqb spare fourth) e))
    go (inr e) =
        let f = or_right (eqb t third && eqb spare fourth) (eqb t fourth && eqb spare third) e h in
        inr (eqb-true t fourth (and_left (eqb t fourth) (eqb spare third) f), eqb-true spare third (and_right (eqb t fourth) (eqb spare third) f))

places_to : (count t spare : ℕ) → Places count t spare → places count t spare ≡ true
places_to count t spare (inl e) =
    or_true_left (eqb t (3 * (count + 2)) && eqb spare (2 * (count + 2)))
    (and_both (eq-eqb t (2 * (count + 2)) e.0) (eq-eqb spare (3 * (count + 2)) e.1))
places_to count t spare (inr e) =
    or_true_right (eqb t (2 * (count + 2)) && eqb spare (3 * (count + 2)))
    (and_both (eq-eqb t (3 * (count + 2)) e.0) (eq-eqb spare (2 * (count + 2)) e.1))

pub record Fits (count r : ℕ) (c : Register) : Type 0 where
  pub low : 0 < r
  pub high : r ≤ count
  pub within_r : c.L < r
  pub short : c.shift + c.held < r
  pub end : c.L + (c.shift + c.held) ≤ r
  pub regions : Places count c.t c.spare

pub fits_of : {count r : ℕ} {c : Register} → register_fits count r c ≡ true → Fits count r c
unfolding register_fits
fits_of {count} {r} {c} h =
    let s =
    and_five (within 1 count r) (ltb c.L r) (ltb (c.shift + c.held) r) (leb (c.L + (c.shift + c.held)) r) (places count c.t c.spare) h in
    record {
      low = within_low 1 count r s.0;
      high = within_high 1 count r s.0;
      within_r = ltb-true c.L r s.1;
      short = ltb-true (c.shift + c.held) r s.2;
      end = leb-true (c.L + (c.shift + c.held)) r s.3;
      regions = places_of count c.t c.spare s.4;
    }

fits_to : {count r : ℕ} {c : Register} → Fits count r c → register_fits count r c ≡ true
unfolding register_fits
fits_to {count} {r} {c} h =
    and_both
    (and_both
    (and_both (and_both (within_of 1 count r h.low h.high) (lt-ltb c.L r h.within_r)) (lt-ltb (c.shift + c.held) r h.short))
    (le-leb (c.L + (c.shift + c.held)) r h.end))
    (places_to count c.t c.spare h.regions)

-- the test as the code makes it: a sum that does not fit a word counts as the greatest one, which is above r
pub fits_by : (count r : ℕ) (c : Register) (length end : ℕ) → count ≤ 8192 → length ≡ min (c.shift + c.held) (2 ^ 64 - 1)
    → end ≡ min (c.L + length) (2 ^ 64 - 1)
    → leb 1 r && leb r count && ltb c.L r && ltb length r && leb end r && places count c.t c.spare ≡ register_fits count r c
fits_by count r c length end few l e =
    same_test (within 1 count r && ltb c.L r && ltb length r && leb end r && places count c.t c.spare) (register_fits count r c)
    (λ h. let t = and_five (within 1 count r) (ltb c.L r) (ltb length r) (leb end r) (places count c.t c.spare) h in
    let high = within_high 1 count r t.0 in
    let short = ltb-true length r t.2 in
    let low = leb-true end r t.3 in
    fits_to (record {
      low = within_low 1 count r t.0;
      high = high;
      within_r = ltb-true c.L r t.1;
      short = omega (arith, few, l, high, short);
      end = omega (arith, few, l, e, high, short, low);
      regions = places_of count c.t c.spare t.4;
    }))
    (λ h. let fit = fits_of h in
    and_both
    (and_both
    (and_both (and_both (within_of 1 count r fit.low fit.high) (lt-ltb c.L r fit.within_r))
    (lt-ltb length r (omega (arith, fit.short, l))))
    (le-leb end r (omega (arith, fit.end, l, e))))
    (places_to count c.t c.spare fit.regions))

record Elements (p count r : ℕ) (W : List ℕ) (c : Register) : Type 0 where
  terms : Vector p r (take r W)
  q : Vector p (c.L + 1) (part (count + 2) (c.L + 1) W)
  end : Vector 1 (count + 1 - c.L) (part (count + 2 + (c.L + 1)) (count + 1 - c.L) W)
  inverse_below : c.inverse < p
  one : c.e * c.inverse % p ≡ 1

elements_from : {p count r : ℕ} {W : List ℕ} {c : Register} → 4 * count + 8 ≤ length W → Fits count r c → state_elements p count r W c ≡ true
    → Elements p count r W c
unfolding state_elements
elements_from {p} {count} {r} {W} {c} room fit h =
    let a = elements p (take r W) in
    let b = elements p (part (count + 2) (c.L + 1) W) in
    let z = elements 1 (part (count + 2 + (c.L + 1)) (count + 1 - c.L) W) in
    let i = ltb c.inverse p in
    let o = eqb (c.e * c.inverse % p) 1 in
    let four = and_left (a && b && z && i) o h in
    let three = and_left (a && b && z) i four in
    let two = and_left (a && b) z three in
    record {
      terms = vector_of p (take r W) r (length-take-le r W (omega (arith, room, fit.high))) (and_left a b two);
      q = vector_of p (part (count + 2) (c.L + 1) W) (c.L + 1)
          (length_part (count + 2) (c.L + 1) W (omega (arith, room, fit.high, fit.within_r))) (and_right a b two);
      end = vector_of 1 (part (count + 2 + (c.L + 1)) (count + 1 - c.L) W) (count + 1 - c.L)
          (length_part (count + 2 + (c.L + 1)) (count + 1 - c.L) W (omega (arith, room, fit.high, fit.within_r))) (and_right (a && b) z three);
      inverse_below = ltb-true c.inverse p (and_right (a && b && z) i four);
      one = eqb-true (c.e * c.inverse % p) 1 (and_right (a && b && z && i) o h);
    }

pub step_asked : {p count r : ℕ} {W : List ℕ} {c : Register} → step_refusal p count r W c ≡ 0 → BeforeStep p count r W c
unfolding step_refusal
step_asked {p} {count} {r} {W} {c} z =
    record {
      low = fit.low;
      first =
          record {
            ready =
                record {
                  two = room.ready.two;
                  small = room.ready.small;
                  few = omega (arith, fit.high, room.few);
                  room = omega (arith, fit.high, room.room);
                  elements = λ i l. subst (λ x. x < p) (get_or-take r W i 0 l) (held.terms.below i l);
                };
            high = fit.high;
            few = room.few;
            room = room.room;
          };
      sound =
          record {
            within = omega (arith, fit.within_r);
            element = λ i l. element i l (dec_lt c.L i);
            end = past;
            laid = record {
              places = fit.regions;
              short = omega (arith, fit.short);
              end = omega (arith, fit.end, fit.low);
              inverted = sym (inverse_is p c.e c.inverse held.inverse_below held.one);
            };
          };
    }
  where
    both : (first (room_checks p count W) ≡ 0) × (first (check 8 (not (register_fits count r c)) ∷ check 9 (not (state_elements p count r W c)) ∷ []) ≡ 0)
    both = first_append_zero (room_checks p count W) _ (numbered_room p count W) z

    room : FirstTerms p count 0 W
    room = room_ready both.0

    eight : (register_fits count r c ≡ true) × (first (check 9 (not (state_elements p count r W c)) ∷ []) ≡ 0)
    eight = first_passed 8 (register_fits count r c) _ (omega arith) both.1

    fit : Fits count r c
    fit = fits_of eight.0

    held : Elements p count r W c
    held = elements_from room.room fit (first_passed 9 (state_elements p count r W c) _ (omega arith) eight.1).0

    past : (i : ℕ) → i < count + 2 → c.L < i → at W (count + 2 + i) ≡ 0
    past i l h =
        let k : i - (c.L + 1) < count + 1 - c.L = omega (arith, l, h) in
        let e : count + 2 + (c.L + 1) + (i - (c.L + 1)) ≡ count + 2 + i = omega (arith, h) in
        let below = held.end.below (i - (c.L + 1)) k in
        ap (at W) (sym e) ∙ sym (at_part (count + 2 + (c.L + 1)) (count + 1 - c.L) W (i - (c.L + 1)) k) ∙ omega (arith, below)

    element : (i : ℕ) → i < count + 2 → Dec (c.L < i) → at W (count + 2 + i) < p
    element i l (yes h) = subst (λ x. x < p) (sym (past i l h)) (omega (arith, room.ready.two))
    element i l (no h) = subst (λ x. x < p) (at_part (count + 2) (c.L + 1) W i (omega (arith, h))) (held.q.below i (omega (arith, h)))

pub step_taken : {p count r d : ℕ} {W : List ℕ} {c : Register} → Prime p → 0 < r → FirstTerms p count r W
    → FollowsSteps p (take (r - 1) W) (r - 1) d (represented count W c) → Laid p count (r - 1) c → step_refusal p count r W c ≡ 0
unfolding step_refusal state_elements
step_taken {p} {count} {r} {d} {W} {c} prime low first follows laid =
    first_append_none (room_checks p count W) _ (numbered_room p count W)
    (room_to (record { two = first.ready.two; small = first.ready.small; few = first.few; room = first.room }))
    ∙ first_pass 8 (register_fits count r c) _ (fits_to fit)
    (first_pass 9 (state_elements p count r W c) _
    (and_both (and_both (and_both (and_both terms q) end) (lt-ltb c.inverse p inverse_below)) (eq-eqb (c.e * c.inverse % p) 1 one)) first_nil)
  where
    ask : Sound p count (r - 1) W c
    ask = sound_follows first.ready.two follows laid

    fit : Fits count r c
    fit =
        record {
          low = low;
          high = first.high;
          within_r = omega (arith, ask.within, low);
          short = omega (arith, laid.short, low);
          end = omega (arith, laid.end, low);
          regions = laid.places;
        }

    size_terms : length (take r W) ≡ r
    size_terms = length-take-le r W (omega (arith, first.high, first.room))

    size_q : length (part (count + 2) (c.L + 1) W) ≡ c.L + 1
    size_q = length_part (count + 2) (c.L + 1) W (omega (arith, first.high, first.room, ask.within, low))

    size_end : length (part (count + 2 + (c.L + 1)) (count + 1 - c.L) W) ≡ count + 1 - c.L
    size_end = length_part (count + 2 + (c.L + 1)) (count + 1 - c.L) W (omega (arith, first.high, first.room, ask.within, low))

    terms : elements p (take r W) ≡ true
    terms =
        elements_of_law p (take r W)
        (λ i l. let k : i < r = omega (arith, l, size_terms) in subst (λ x. x < p) (sym (get_or-take r W i 0 k)) (first.ready.elements i k))

    q : elements p (part (count + 2) (c.L + 1) W) ≡ true
    q =
        elements_of_law p (part (count + 2) (c.L + 1) W)
        (λ i l. let k : i < c.L + 1 = omega (arith, l, size_q) in
        subst (λ x. x < p) (sym (at_part (count + 2) (c.L + 1) W i k)) (ask.element i (omega (arith, k, ask.within, first.high, low))))

    end : elements 1 (part (count + 2 + (c.L + 1)) (count + 1 - c.L) W) ≡ true
    end =
        elements_of_law 1 (part (count + 2 + (c.L + 1)) (count + 1 - c.L) W)
        (λ i l. let k : i < count + 1 - c.L = omega (arith, l, size_end) in
        let e : count + 2 + (c.L + 1) + i ≡ count + 2 + (c.L + 1 + i) = omega arith in
        let zero = at_part (count + 2 + (c.L + 1)) (count + 1 - c.L) W i k ∙ ap (at W) e ∙ ask.end (c.L + 1 + i) (omega (arith, k)) (omega arith) in
        omega (arith, zero))

    known : (0 < c.e) × (c.e < p)
    known =
        let e = e_element p first.ready.two (take (r - 1) W) (r - 1) in
        (omega (arith, e.0, follows.same.e), omega (arith, e.1, follows.same.e))

    inverse_below : c.inverse < p
    inverse_below = subst (λ x. x < p) (sym laid.inverted) (inverse_lt p prime c.e known.0 known.1)

    one : c.e * c.inverse % p ≡ 1
    one = ap (λ x. c.e * x % p) laid.inverted ∙ mul_inverse p prime c.e known.0 known.1

-- where a register does not fit, the test fails
pub fits_not : (count r : ℕ) (c : Register) → (Fits count r c → ⊥) → register_fits count r c ≡ false
fits_not count r c n = go (test_cases (register_fits count r c))
  where
    go : (register_fits count r c ≡ true) ⊎ (register_fits count r c ≡ false) → register_fits count r c ≡ false
    go (inl e) = absurd (n (fits_of e))
    go (inr e) = e
