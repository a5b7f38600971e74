-- What a document's checks say when they turn nothing down, as facts on numbers; what a system's say is in laws, and passed on here.
--     row_before, column_before, before_row, before_column      what before says
--     place_taken_law n e                an entry's row and column are 1 to n
--     AcceptedLines p n es           lines of a place and a value, `s` or `b`: the places are 1 to n and rise strictly, the values are 1 to p − 1
--     AcceptedDocument d             d passes a document's checks
--     document_accepted, accepted_document     first (document_checks d) ≡ 0 and these facts: each from the other
use Rattle.std.specs.Prelude.{◌≡◌, ◌⊎◌, Bool, true, false, ◌&&◌, ◌||◌, List, [], ℕ, ◌≤◌, ◌<◌, eqb, ltb, leb, length}
use Rattle.std.proofs.Common.{ap, ◌∙◌, inl, inr, arith, ltb-true, leb-true, eqb-true, lt-ltb, le-ltb, le-leb, eq-eqb}
use Rattle.std.proofs.Math.Bool.{or-true}
use Rattle.meaning.specs.List.{at, every, chain}
use Rattle.meaning.specs.Field.{is_modulus}
use Rattle.meaning.specs.Text.{Document, row}
use Rattle.meaning.specs.Refusal.{first, within, rows_taken, value_taken, scale_count_taken, count_taken, before, rows_rise, some_scale, places_taken, values_taken, document_checks}
use Rattle.laws.specs.Bool.{and_left, and_right, and_both, and_five, or_right, test_cases}
use Rattle.laws.specs.Refusal.{first_nil, first_passed, first_pass}
pub use Rattle.laws.specs.Refusal.{within_low, within_high, within_of}
pub use Rattle.laws.specs.Accepted.{modulus_low, modulus_high, start, column, value, AcceptedSystem, AcceptedScales, system_accepted, system_scales, accepted_system}

pub row_before : (e f : List ℕ) → row e < row f → before e f ≡ true
unfolding before
row_before e f h = ap (λ t. t || eqb (row e) (row f) && ltb (at e 1) (at f 1)) (lt-ltb (row e) (row f) h)

pub column_before : (e f : List ℕ) → row e ≡ row f → at e 1 < at f 1 → before e f ≡ true
unfolding before
column_before e f q h =
    ap (λ t. ltb (row e) (row f) || t) (and_both (eq-eqb (row e) (row f) q) (lt-ltb (at e 1) (at f 1) h)) ∙ or-true (ltb (row e) (row f))

pub before_row : (e f : List ℕ) → before e f ≡ true → row e ≤ row f
unfolding before
before_row e f h = go (test_cases (ltb (row e) (row f)))
  where
    go : (ltb (row e) (row f) ≡ true) ⊎ (ltb (row e) (row f) ≡ false) → row e ≤ row f
    go (inl q) = omega (arith, ltb-true (row e) (row f) q)
    go (inr q) =
        omega (
          arith,
          eqb-true (row e) (row f)
              (and_left (eqb (row e) (row f)) (ltb (at e 1) (at f 1))
              (or_right (ltb (row e) (row f)) (eqb (row e) (row f) && ltb (at e 1) (at f 1)) q h)),
        )

pub before_column : (e f : List ℕ) → before e f ≡ true → row e ≡ row f → at e 1 < at f 1
unfolding before
before_column e f h q =
    ltb-true (at e 1) (at f 1)
    (and_right (eqb (row e) (row f)) (ltb (at e 1) (at f 1))
    (or_right (ltb (row e) (row f)) (eqb (row e) (row f) && ltb (at e 1) (at f 1)) (le-ltb (row e) (row f) (omega arith)) h))

abbrev pub place_taken_law : ℕ → List ℕ → Bool
place_taken_law n e = within 1 n (row e) && within 1 n (at e 1)

pub record AcceptedLines (p n : ℕ) (es : List (List ℕ)) : Type 0 where
  pub rows : every (λ e. within 1 n (row e)) es ≡ true
  pub rows_ordered : chain (λ e f. ltb (row e) (row f)) es ≡ true
  pub values : every (λ e. value_taken p (at e 1)) es ≡ true

pub record AcceptedDocument (d : Document) : Type 0 where
  pub prime : is_modulus d.modulus ≡ true
  pub size_high : d.size ≤ 4096
  pub counted : d.count ≡ length d.entries
  pub few : length d.entries ≤ 65536
  pub scale_number : scale_count_taken d.size (length d.scales) ≡ true
  pub places : every (place_taken_law d.size) d.entries ≡ true
  pub ordered : chain before d.entries ≡ true
  pub some_scale_law : some_scale d.scales ≡ true
  pub values : every (λ e. value_taken d.modulus (at e 2)) d.entries ≡ true
  pub scale_lines : AcceptedLines d.modulus d.size d.scales
  pub element_lines_law : AcceptedLines d.modulus d.size d.elements

accepted_lines : (p n : ℕ) (es : List (List ℕ)) → rows_rise n es ≡ true → every (λ e. value_taken p (at e 1)) es ≡ true → AcceptedLines p n es
accepted_lines p n es r v =
    let rows = every (λ e. within 1 n (row e)) es in
    let ordered = chain (λ e f. ltb (row e) (row f)) es in
    record { rows = and_left rows ordered r; rows_ordered = and_right rows ordered r; values = v }

lines_rise : {p n : ℕ} {es : List (List ℕ)} → AcceptedLines p n es → rows_rise n es ≡ true
lines_rise a = and_both a.rows a.rows_ordered

pub document_accepted : (d : Document) → first (document_checks d) ≡ 0 → AcceptedDocument d
unfolding document_checks count_taken places_taken values_taken
document_accepted d e =
    let c3 = first_passed 3 (is_modulus d.modulus) _ (omega arith) e in
    let c4 = first_passed 4 (rows_taken d.size) _ (omega arith) c3.1 in
    let c5 = first_passed 5 (count_taken d) _ (omega arith) c4.1 in
    let c6 = first_passed 6 (places_taken d) _ (omega arith) c5.1 in
    let c7 = first_passed 7 (values_taken d) _ (omega arith) c6.1 in
    let counts =
    and_five true true (eqb d.count (length d.entries)) (leb (length d.entries) 65536)
    (scale_count_taken d.size (length d.scales)) c5.0 in
    let places =
    and_five true (every (place_taken_law d.size) d.entries) (chain before d.entries)
    (rows_rise d.size d.scales && some_scale d.scales) (rows_rise d.size d.elements) c6.0 in
    let values =
    and_five true true (every (λ e. value_taken d.modulus (at e 2)) d.entries) (every (λ e. value_taken d.modulus (at e 1)) d.scales)
    (every (λ e. value_taken d.modulus (at e 1)) d.elements) c7.0 in
    record {
      prime = c3.0;
      size_high = leb-true d.size 4096 c4.0;
      counted = eqb-true d.count (length d.entries) counts.2;
      few = leb-true (length d.entries) 65536 counts.3;
      scale_number = counts.4;
      places = places.1;
      ordered = places.2;
      some_scale_law = and_right (rows_rise d.size d.scales) (some_scale d.scales) places.3;
      values = values.2;
      scale_lines =
          accepted_lines d.modulus d.size d.scales
          (and_left (rows_rise d.size d.scales) (some_scale d.scales) places.3) values.3;
      element_lines_law = accepted_lines d.modulus d.size d.elements places.4 values.4;
    }

pub accepted_document : (d : Document) → AcceptedDocument d → first (document_checks d) ≡ 0
unfolding document_checks count_taken places_taken values_taken
accepted_document d a =
    first_pass 3 (is_modulus d.modulus) _ a.prime
    (first_pass 4 (rows_taken d.size) _ (le-leb d.size 4096 a.size_high)
    (first_pass 5 (count_taken d) _
    (and_both (and_both (eq-eqb d.count (length d.entries) a.counted) (le-leb (length d.entries) 65536 a.few)) a.scale_number)
    (first_pass 6 (places_taken d) _
    (and_both (and_both (and_both a.places a.ordered) (and_both (lines_rise a.scale_lines) a.some_scale_law))
    (lines_rise a.element_lines_law))
    (first_pass 7 (values_taken d) [] (and_both (and_both a.values a.scale_lines.values) a.element_lines_law.values) first_nil))))
