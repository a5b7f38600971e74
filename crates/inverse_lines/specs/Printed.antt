-- What the program of the inverses prints.
--     Printed              a slice with room for 250 lines of 10 bytes gets the text at its front; a shorter one stays
--     line_at i             the line of the element i + 1
--     text_lines           the text by its lines
--     text_short           it has at most 2,500 bytes
--     printed_short, printed_wrote      the two cases
use Rattle.std.specs.Prelude.{◌≡◌, refl, cond, List, ℕ, ◌+◌, ◌≤◌, ◌<◌, leb, length}
use Rattle.std.proofs.Common.{sym, ap, ◌∙◌, arith, le-leb}
use Rattle.std.proofs.lemmas.Bool.{lt-leb}
use Rattle.meaning.specs.List.{at, table, all, flat, bytes, overwrite}
use Rattle.meaning.specs.Field.{is_prime, inverse}
use Rattle.meaning.specs.Text.{decimal}
use Rattle.meaning.specs.Inverses.{inverses, inverse_line, inverse_lines, inverses_text}
use Rattle.laws.specs.List.{table_ext, length_table, get_or_table}
use Rattle.residue.specs.Prime.{Prime, is_prime_Prime}
use Rattle.residue.specs.Inverse.{inverse_lt}
use Rattle.text_laws.specs.Numeral.{decimal_short}
use Rattle.text_laws.specs.Length.{length_flat_rows, length_line_three}
use Rattle.line_writer.specs.Written.{Wrote, wrote_start}

pub record Printed (out : List ℕ) (r : ℕ) (after : List ℕ) : Type 0 where
  pub length_of_law : r ≡ cond (leb 2500 (length out)) (length inverses_text) 0
  pub slice : after ≡ cond (leb 2500 (length out)) (overwrite inverses_text out) out
  pub within : r ≤ length after

abbrev pub line_at : ℕ → List ℕ
line_at i = inverse_line (i + 1) (inverse 251 (i + 1))

pub text_lines : inverses_text ≡ flat (table 250 line_at)
unfolding inverses_text inverse_lines inverses
text_lines =
    let numbers = table 250 (λ i. inverse 251 (i + 1)) in
    ap (λ n. flat (table n (λ i. inverse_line (i + 1) (at numbers i)))) (length_table 250 (λ i. inverse 251 (i + 1)))
    ∙ ap flat
    (table_ext 250 (λ i. inverse_line (i + 1) (at numbers i)) line_at
    (λ i h. ap (inverse_line (i + 1)) (get_or_table 250 (λ j. inverse 251 (j + 1)) i 0 h)))

byte_prime : Prime 251
unfolding is_prime all
byte_prime = (is_prime_Prime 251).0 refl

line_short : (i : ℕ) → i < 250 → length (line_at i) ≤ 10
unfolding bytes
line_short i h =
    omega (
      arith,
      length_line_three (bytes "i") (decimal (i + 1)) (decimal (inverse 251 (i + 1))),
      decimal_short 2 (i + 1) (omega arith),
      decimal_short 2 (inverse 251 (i + 1)) (omega (arith, inverse_lt 251 byte_prime (i + 1) (omega arith) (omega arith))),
    )

pub text_short : length inverses_text ≤ 2500
text_short =
    omega (
      arith,
      ap length text_lines,
      length_flat_rows (λ i. i) 10 250 line_at (λ i h. omega (arith, line_short i h)),
    )

pub printed_short : (out : List ℕ) → length out < 2500 → Printed out 0 out
printed_short out h =
    let no = lt-leb 2500 (length out) h in
    record {
      length_of_law = sym (ap (λ t. cond t (length inverses_text) 0) no);
      slice = sym (ap (λ t. cond t (overwrite inverses_text out) out) no);
      within = omega arith;
    }

pub printed_wrote : (out : List ℕ) (r : ℕ) (after : List ℕ) → 2500 ≤ length out → Wrote out 0 inverses_text r after → Printed out r after
printed_wrote out r after h w =
    let yes = le-leb 2500 (length out) h in
    let front = wrote_start w (omega (arith, text_short)) in
    record {
      length_of_law = front.0 ∙ sym (ap (λ t. cond t (length inverses_text) 0) yes);
      slice = front.1 (omega (arith, text_short)) ∙ sym (ap (λ t. cond t (overwrite inverses_text out) out) yes);
      within = omega (arith, front.0, w.same, text_short);
    }
