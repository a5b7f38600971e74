-- What is printed for what was read.
--     long_refused         a text of more than 26,624 bytes is refused by 1, whatever it holds
--     cut_input            what is printed for an input that was cut at the buffer's end is what is printed for the input
--     printed_short_buffer, printed_over_read, printed_short_out, printed_shown      the three that are not enough, and enough
use Rattle.std.specs.Prelude.{◌≡◌, true, false, not, ◌&&◌, List, [], ◌∷◌, ◌++◌, ℕ, ◌≤◌, ◌<◌, min, take, ◌⊎◌}
use Rattle.std.proofs.Math.Path.{sym, ap}
use Rattle.std.proofs.Common.{◌∙◌, arith, length-take-le, leb-true, leb-false, le-leb, ne_eqb, inl, inr}
use Rattle.std.proofs.Math.Bool.{cond}
use Rattle.std.proofs.Math.Dec.{leb}
use Rattle.std.proofs.Math.ListN.{length}
use Rattle.std.proofs.Math.Seq.{take-length}
use Rattle.std.proofs.lemmas.Bool.{lt-leb}
use Rattle.meaning.specs.List.{overwrite}
use Rattle.meaning.specs.Text.{document}
use Rattle.meaning.specs.Answer.{refused_text}
use Rattle.meaning.specs.Refusal.{check, first}
use Rattle.meaning.specs.Calls.{text_checks, text_refusal, solved_text, program_output}
use Rattle.laws.specs.Bool.{and_both, and_false_left, and_false_right, test_cases}
use Rattle.laws.specs.Refusal.{first_cons}
use Rattle.text_call.specs.Program.{input_room, enough, Printed, Shown}

-- ---- an input that was cut

pub long_refused : (text : List ℕ) (room : ℕ) → 26624 < length text → text_refusal text room ≡ 1
unfolding text_refusal
long_refused text room h =
    let d = document text in
    let later = text_checks text ++ (check 11 (not (leb d.size 128 && leb d.count 1024 && leb 7168 room)) ∷ []) in
    first_cons (check 1 (not (leb (length text) 26624))) later ∙ ap (λ t. cond (not t) 1 (first later)) (lt-leb (length text) 26624 h)

long_output : (text : List ℕ) → 26624 < length text → program_output text ≡ refused_text 1
unfolding program_output
long_output text h =
    let one = long_refused text 7168 h in
    ap (λ k. cond k (solved_text text) (refused_text (text_refusal text 7168))) (ne_eqb (text_refusal text 7168) 0 (λ z. omega (arith, one, z)))
    ∙ ap refused_text one

pub cut_input : (buffer : List ℕ) (read : ℕ) (input : List ℕ) → input_room ≤ length buffer → read ≡ min (length input) (length buffer)
    → take read buffer ≡ take read input → program_output (take read buffer) ≡ program_output input
cut_input buffer read input room e same = go (test_cases (leb (length input) (length buffer)))
  where
    go : (leb (length input) (length buffer) ≡ true) ⊎ (leb (length input) (length buffer) ≡ false) → program_output (take read buffer) ≡ program_output input
    go (inl h) =
        let all : read ≡ length input = omega (arith, leb-true (length input) (length buffer) h) in
        ap program_output (same ∙ ap (λ k. take k input) all ∙ take-length input)
    go (inr h) =
        let cut : length buffer < length input = leb-false (length input) (length buffer) h in
        long_output (take read buffer) (omega (arith, length-take-le read buffer (omega arith))) ∙ sym (long_output input (omega arith))

-- ---- the output of what was read

module _ (buffer : List ℕ) (read : ℕ) (out : List ℕ) where
  none : enough buffer read out ≡ false → Printed buffer read out 0 out
  none short =
      record {
        length_of_law = sym (ap (λ t. cond t (length (program_output (take read buffer))) 0) short);
        slice = sym (ap (λ t. cond t (overwrite (program_output (take read buffer)) out) out) short);
        within = omega arith;
        whole = cut_input buffer read;
      }

  pub printed_short_buffer : length buffer < input_room → Printed buffer read out 0 out
  printed_short_buffer h =
      none (and_false_left (leb 7168 (length out)) (and_false_left (leb read (length buffer)) (lt-leb input_room (length buffer) h)))

  pub printed_over_read : length buffer < read → Printed buffer read out 0 out
  printed_over_read h =
      none (and_false_left (leb 7168 (length out)) (and_false_right (leb input_room (length buffer)) (lt-leb read (length buffer) h)))

  pub printed_short_out : length out < 7168 → Printed buffer read out 0 out
  printed_short_out h =
      none (and_false_right (leb input_room (length buffer) && leb read (length buffer)) (lt-leb 7168 (length out) h))

  pub printed_shown : input_room ≤ length buffer → read ≤ length buffer → 7168 ≤ length out
      → (r : ℕ) (after : List ℕ) → Shown (take read buffer) out r after → Printed buffer read out r after
  printed_shown hb hr ho r after s =
      let yes : enough buffer read out ≡ true =
      and_both (and_both (le-leb input_room (length buffer) hb) (le-leb read (length buffer) hr)) (le-leb 7168 (length out) ho) in
      record {
        length_of_law = s.length_of_law ∙ sym (ap (λ t. cond t (length (program_output (take read buffer))) 0) yes);
        slice = s.slice ∙ sym (ap (λ t. cond t (overwrite (program_output (take read buffer)) out) out) yes);
        within = s.within;
        whole = cut_input buffer read;
      }
