-- What the program prints.
--     input_room            the bytes that the program reads: one more than a text may have, so that 1 sees a longer one
--     enough               such a buffer, no more read than it holds, and room for the longest output
--     Printed              with enough, a slice gets at its front what the program prints for what was read, which is what it prints for the whole
--                          input; otherwise the slice stays
--     Shown                a slice gets the program's output at its front
--     shown_as             what is shown, by another name
--     shown_answer, shown_refused      the two cases
-- An input that was cut, and each case of `Printed`: proofs/Program.antt, `long_refused`, `cut_input`, `printed_short_buffer`,
-- `printed_over_read`, `printed_short_out`, `printed_shown`.
use Rattle.std.specs.Prelude.{◌≡◌, ◌≢◌, Bool, not, ◌&&◌, List, [], ◌∷◌, ◌++◌, ℕ, ◌+◌, ◌≤◌, min, take, drop}
use Rattle.std.proofs.Math.Path.{sym, ap}
use Rattle.std.proofs.Common.{subst, ◌∙◌, arith, length-append, length-drop, le-leb, eq-eqb, ne_eqb}
use Rattle.std.proofs.Math.Bool.{cond}
use Rattle.std.proofs.Math.Dec.{leb}
use Rattle.std.proofs.Math.ListN.{length}
use Rattle.meaning.specs.List.{bytes, overwrite}
use Rattle.meaning.specs.Text.{decimal, document}
use Rattle.meaning.specs.Answer.{refused_text}
use Rattle.meaning.specs.Refusal.{check, first}
use Rattle.meaning.specs.Calls.{text_checks, text_refusal, solved_text, program_output}
use Rattle.text_laws.specs.Line.{length_line_last, length_line_more}
use Rattle.text_laws.specs.Numeral.{decimal_short}
use Rattle.line_writer.specs.Written.{Wrote, wrote_start}
use Rattle.text_call.specs.Checks.{text_taken, solved_fits, text_high, text_refused, text_given, Called}

abbrev pub input_room : ℕ
input_room = 26625

abbrev pub enough : List ℕ → ℕ → List ℕ → Bool
enough buffer read out = leb input_room (length buffer) && leb read (length buffer) && leb 7168 (length out)

-- whole: the buffer holds the input's first bytes, as many as it has room for
pub record Printed (buffer : List ℕ) (read : ℕ) (out : List ℕ) (r : ℕ) (after : List ℕ) : Type 0 where
  pub length_of_law : r ≡ cond (enough buffer read out) (length (program_output (take read buffer))) 0
  pub slice : after ≡ cond (enough buffer read out) (overwrite (program_output (take read buffer)) out) out
  pub within : r ≤ length after
  pub whole : (input : List ℕ) → input_room ≤ length buffer → read ≡ min (length input) (length buffer) → take read buffer ≡ take read input
      → program_output (take read buffer) ≡ program_output input

-- ---- the output of a text

pub record Shown (text out : List ℕ) (r : ℕ) (after : List ℕ) : Type 0 where
  pub length_of_law : r ≡ length (program_output text)
  pub slice : after ≡ overwrite (program_output text) out
  pub within : r ≤ length after

length_refused : (k : ℕ) → length (refused_text k) ≡ 9 + length (decimal k)
unfolding refused_text bytes
length_refused k = omega (arith, length_line_more (bytes "refused") (decimal k) [], length_line_last (decimal k))

shown_as : {text out : List ℕ} {r s : ℕ} {a b : List ℕ} → Shown text out r a → r ≡ s → a ≡ b → Shown text out s b
shown_as {text} {out} {r} {s} {a} {b} p e f =
    subst (λ x. Shown text out s x) f (subst (λ k. Shown text out k a) e p)

module _ (text out : List ℕ) (h : 7168 ≤ length out) where
  room_enough : text_refusal text (length out) ≡ text_refusal text 7168
  unfolding text_refusal
  room_enough =
      let d = document text in
      ap (λ t. first (check 1 (not (leb (length text) 26624)) ∷ text_checks text ++ (check 11 (not (leb d.size 128 && leb d.count 1024 && t)) ∷ [])))
      (le-leb 7168 (length out) h ∙ sym (le-leb 7168 7168 (omega arith)))

  -- w was put at the front
  shown : (w : List ℕ) → program_output text ≡ w → length w ≤ 7168 → Shown text out (length w) (overwrite w out)
  shown w e l =
      record {
        length_of_law = sym (ap length e);
        slice = sym (ap (λ x. overwrite x out) e);
        within = omega (arith, length-append w (drop (length w) out), length-drop (length w) out);
      }

pub shown_answer : {text out after : List ℕ} {r : ℕ} → 7168 ≤ length out → 0 ≡ text_refusal text (length out) → Called text out r after → Shown text out r after
unfolding program_output
shown_answer {text} {out} {after} {r} h none called =
    let call = text_given text out (sym none) in
    let is : program_output text ≡ solved_text text =
    ap (λ k. cond k (solved_text text) (refused_text (text_refusal text 7168))) (eq-eqb (text_refusal text 7168) 0 (sym (none ∙ room_enough text out h))) in
    shown_as (shown text out h (solved_text text) is (solved_fits text (text_taken text (length out) (sym none)).0))
    (call.0 ∙ sym called.number) (call.1 ∙ sym called.slice)

pub shown_refused : {text out after : List ℕ} {k : ℕ} → 7168 ≤ length out → k ≡ text_refusal text (length out) → k ≢ 0 → Called text out k after
    → (r : ℕ) (final : List ℕ) → Wrote after 0 (refused_text k) r final → Shown text out r final
unfolding program_output
shown_refused {text} {out} {after} {k} h e n called r final p =
    let high = text_high text (length out) in
    let some : 1 ≤ k = omega (arith, n) in
    let short : length (refused_text k) ≤ 11 = omega (arith, length_refused k, decimal_short 1 k (omega (arith, e, high))) in
    let as_before : out ≡ after = (text_refused text out k (sym e) some).1 ∙ sym called.slice in
    let says : program_output text ≡ refused_text k =
    ap (λ j. cond j (solved_text text) (refused_text (text_refusal text 7168))) (ne_eqb (text_refusal text 7168) 0 (λ z. n (e ∙ room_enough text out h ∙ z)))
    ∙ ap refused_text (sym (e ∙ room_enough text out h)) in
    let put = wrote_start p (omega (arith, short)) in
    shown_as (shown text out h (refused_text k) says (omega (arith, short, h))) (sym put.0)
    (ap (overwrite (refused_text k)) as_before ∙ sym (put.1 (omega (arith, short, h, ap length as_before))))
