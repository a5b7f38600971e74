use mathlib.Core.Path.{refl, sym, subst, ◌∙◌}
use Prim.Native.Nat.{◌≤◌}
use native.Mathlib.Omega.{arith}
use lib.ListN.{length}
use lib.Seq.{length-take-le}
use Rattle.std.proofs.lemmas.Result.{err_from_is_err_and}
use Rattle.refusal.specs.Number.{number_of, number_positive}
use Rattle.line_writer.specs.Written.{wrote_start, wrote_as}
use Rattle.text_call.specs.Checks.{text_by_reader, by_reader_refused, by_reader_short, by_reader_taken, text_refused, text_given, text_taken, solved_fits, called}
use Rattle.text_call.specs.Loaded.{read_loaded, read_outcome}
use Rattle.text_call.specs.Answers.{answered}
use Rattle.text_call.proofs.Program.{long_refused}
use Rattle.text_call.proofs.Parts.{some, answer_ends, answer_room}
use Rattle.text_call.proofs.call.answer_text.Goals as goal

-- `call::answer_text` meets its contract: the checks in order, and what the run gives where none turns the text down.
pub returns-then-long : goal.returns-then-long
returns-then-long c =
    let text = c.args.text.now in
    let answer = c.args.answer.now in
    let e = long_refused text (length answer) c.if-long.true in
    record { refused = sym e; called = called text answer 1 answer (text_refused text answer 1 e (some 0)) }

pub returns-in_err-header : goal.returns-in_err-header
returns-in_err-header c =
    let text = c.args.text.now in
    let answer = c.args.answer.now in
    let r = c.in_err-header.field-0.0 in
    let exit = err_from_is_err_and c.from_residual.result c.from_residual.ensures.1 in
    let e = c.in_err-header.ensures.refusal in
    let from_one : 1 ≤ number_of r = omega (arith, number_positive r) in
    let by_reader_law = text_by_reader text _ _ _ _ _ refl refl refl refl refl (length answer) in
    let known = by_reader_law ∙ by_reader_refused text (length answer) _ c.if-long.false (subst (λ k. 1 ≤ k) e from_one) ∙ sym e in
    rw (exit.1, exit.2) record { refused = sym known; called = called text answer (number_of r) answer (text_refused text answer (number_of r) known from_one) }

pub returns-then-short : goal.returns-then-short
returns-then-short c =
    let text = c.args.text.now in
    let answer = c.args.answer.now in
    let by_reader_law = text_by_reader text _ _ _ _ _ refl refl refl refl refl (length answer) in
    let e = by_reader_law ∙ by_reader_short text (length answer) _ c.if-long.false (sym c.in_ok-header.ensures.refusal) c.if-short.true in
    record { refused = sym e; called = called text answer 11 answer (text_refused text answer 11 e (some 10)) }

pub slice_bounds-starts-end : goal.slice_bounds-starts-end
slice_bounds-starts-end c =
    let said = c.in_ok-header.ensures in
    let loaded =
    read_loaded _ _ _ _ _ _ (sym said.refusal) _ _ _ _ _ _ _ _ said.modulus said.size said.entries said.starts_after said.columns_after
    said.values_after said.scales_after said.right_after refl in
    loaded.in_starts

pub slice_bounds-columns-end : goal.slice_bounds-columns-end
slice_bounds-columns-end c =
    let said = c.in_ok-header.ensures in
    let loaded =
    read_loaded _ _ _ _ _ _ (sym said.refusal) _ _ _ _ _ _ _ _ said.modulus said.size said.entries said.starts_after said.columns_after
    said.values_after said.scales_after said.right_after refl in
    loaded.in_columns

pub slice_bounds-values-end : goal.slice_bounds-values-end
slice_bounds-values-end c =
    let said = c.in_ok-header.ensures in
    let loaded =
    read_loaded _ _ _ _ _ _ (sym said.refusal) _ _ _ _ _ _ _ _ said.modulus said.size said.entries said.starts_after said.columns_after
    said.values_after said.scales_after said.right_after refl in
    loaded.in_values

pub slice_bounds-scales-end : goal.slice_bounds-scales-end
slice_bounds-scales-end c =
    let said = c.in_ok-header.ensures in
    let loaded =
    read_loaded _ _ _ _ _ _ (sym said.refusal) _ _ _ _ _ _ _ _ said.modulus said.size said.entries said.starts_after said.columns_after
    said.values_after said.scales_after said.right_after refl in
    loaded.in_scales

pub slice_bounds-right-end : goal.slice_bounds-right-end
slice_bounds-right-end c =
    let said = c.in_ok-header.ensures in
    let loaded =
    read_loaded _ _ _ _ _ _ (sym said.refusal) _ _ _ _ _ _ _ _ said.modulus said.size said.entries said.starts_after said.columns_after
    said.values_after said.scales_after said.right_after refl in
    loaded.in_right

pub slice_bounds-a-end : goal.slice_bounds-a-end
slice_bounds-a-end c =
    let said = c.in_ok-header.ensures in
    let loaded =
    read_loaded _ _ _ _ _ _ (sym said.refusal) _ _ _ _ _ _ _ _ said.modulus said.size said.entries said.starts_after said.columns_after
    said.values_after said.scales_after said.right_after refl in
    sym (length-take-le _ _ loaded.in_starts)

pub slice_bounds-a-end-2 : goal.slice_bounds-a-end-2
slice_bounds-a-end-2 c =
    let said = c.in_ok-header.ensures in
    let loaded =
    read_loaded _ _ _ _ _ _ (sym said.refusal) _ _ _ _ _ _ _ _ said.modulus said.size said.entries said.starts_after said.columns_after
    said.values_after said.scales_after said.right_after refl in
    sym (length-take-le _ _ loaded.in_columns)

pub slice_bounds-a-end-3 : goal.slice_bounds-a-end-3
slice_bounds-a-end-3 c =
    let said = c.in_ok-header.ensures in
    let loaded =
    read_loaded _ _ _ _ _ _ (sym said.refusal) _ _ _ _ _ _ _ _ said.modulus said.size said.entries said.starts_after said.columns_after
    said.values_after said.scales_after said.right_after refl in
    sym (length-take-le _ _ loaded.in_values)

pub slice_bounds-put_solved-end : goal.slice_bounds-put_solved-end
slice_bounds-put_solved-end c =
    let said = c.in_ok-header.ensures in
    let loaded =
    read_loaded _ _ _ _ _ _ (sym said.refusal) _ _ _ _ _ _ _ _ said.modulus said.size said.entries said.starts_after said.columns_after
    said.values_after said.scales_after said.right_after refl in
    sym (length-take-le _ _ loaded.in_scales)

pub slice_bounds-put_solved-end-2 : goal.slice_bounds-put_solved-end-2
slice_bounds-put_solved-end-2 c =
    let said = c.in_ok-header.ensures in
    let loaded =
    read_loaded _ _ _ _ _ _ (sym said.refusal) _ _ _ _ _ _ _ _ said.modulus said.size said.entries said.starts_after said.columns_after
    said.values_after said.scales_after said.right_after refl in
    sym (length-take-le _ _ loaded.in_right)

pub put_solved-requires : goal.put_solved-requires
put_solved-requires c =
    let said = c.in_ok-header.ensures in
    let loaded =
    read_loaded _ _ _ _ _ _ (sym said.refusal) _ _ _ _ _ _ _ _ said.modulus said.size said.entries said.starts_after said.columns_after
    said.values_after said.scales_after said.right_after refl in
    loaded.taken

pub returns : goal.returns
returns c =
    let text = c.args.text.now in
    let answer = c.args.answer.now in
    let said = c.in_ok-header.ensures in
    let by_reader_law = text_by_reader text _ _ _ _ _ refl refl refl refl refl (length answer) in
    let none = by_reader_law ∙ by_reader_taken text (length answer) _ c.if-long.false (sym said.refusal) c.if-short.false in
    let call = text_given text answer none in
    let room = text_taken text (length answer) none in
    let short = solved_fits text room.0 in
    let solved = c.put_solved in
    let put =
    wrote_start
    (wrote_as (read_outcome _ _ _ _ _ _ (sym said.refusal) _ _ _ _ _ _ _ _ said.modulus said.size said.entries said.starts_after said.columns_after
    said.values_after said.scales_after said.right_after) solved.ensures.text)
    (answer_ends short) in
    record {
      refused = solved.ensures.taken ∙ sym none;
      called = called text answer (answered solved.result) solved.new.answer (put.0 ∙ call.0, put.1 (answer_room short room.1) ∙ call.1);
    }
