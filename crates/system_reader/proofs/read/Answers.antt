use Rattle.std.proofs.Common.{◌≡◌, refl, sym, ap, ◌∙◌, subst, List, ℕ, ◌≤◌, length, Some, None}
use Rattle.std.proofs.lemmas.Result.{err_from_is_err_and}
use Rattle.meaning.specs.List.{overwrite}
use Rattle.meaning.specs.Calls.{reader_refusal, reader_answer}
use Rattle.laws.specs.Refusal.{unless_refused_none, unless_refused_some}
use Rattle.refusal.specs.declared.Refusal.{Refusal}
use Rattle.refusal.specs.declared.Refusal.TheVariants.{Form}
use Rattle.refusal.specs.Number.{number_of, number_positive}
use Rattle.system_reader.specs.Answers.{modulus_of_document, size_of_document, count_of_document, starts_after, columns_after, values_after, scales_after, right_after}
use Rattle.system_reader.specs.Surveys.{survey_refusal, reader_refusal_law, accepted, entries_ahead, scales_ahead, elements_ahead, starts_are, columns_are, values_are, scales_are, right_is}
use Rattle.system_reader.proofs.read.Goals as goal

module _ (text starts columns values scales right : List ℕ) (r : Refusal) where
  -- a refusal reads nothing and leaves the slices as they were
  refused : number_of r ≡ reader_refusal text starts columns values scales right
      → record {
        refusal : number_of r ≡ reader_refusal text starts columns values scales right;
        modulus : 0 ≡ reader_answer modulus_of_document text starts columns values scales right;
        size : 0 ≡ reader_answer size_of_document text starts columns values scales right;
        entries : 0 ≡ reader_answer count_of_document text starts columns values scales right;
        starts_after : starts ≡ starts_after text starts columns values scales right;
        columns_after : columns ≡ columns_after text starts columns values scales right;
        values_after : values ≡ values_after text starts columns values scales right;
        scales_after : scales ≡ scales_after text starts columns values scales right;
        right_after : right ≡ right_after text starts columns values scales right;
      }
  refused q =
      let k = reader_refusal text starts columns values scales right in
      let n : k ≡ 0 → ⊥ = λ e. number_positive r (q ∙ e) in
      record {
        refusal = q;
        modulus = sym (unless_refused_some k _ 0 n);
        size = sym (unless_refused_some k _ 0 n);
        entries = sym (unless_refused_some k _ 0 n);
        starts_after = sym (unless_refused_some k _ starts n);
        columns_after = sym (unless_refused_some k _ columns n);
        values_after = sym (unless_refused_some k _ values n);
        scales_after = sym (unless_refused_some k _ scales n);
        right_after = sym (unless_refused_some k _ right n);
      }

-- not in form
pub returns-in_default : goal.returns-in_default
unfolding survey_refusal
returns-in_default c = refused _ _ _ _ _ _ Form (reader_refusal_law _ _ _ _ _ _ None c.in_default.ensures)

-- turned down by a check
pub returns-in_err-check : goal.returns-in_err-check
returns-in_err-check c =
    let exit = err_from_is_err_and c.from_residual.result c.from_residual.ensures.1 in
    rw (exit.1, exit.2) (refused _ _ _ _ _ _ _ (c.in_err-check.ensures ∙ reader_refusal_law _ _ _ _ _ _ (Some c.in-Some.s) c.in-Some.ensures))

pub fill_entries-requires : goal.fill_entries-requires
fill_entries-requires c =
    let a = c.args in
    let s = c.in-Some.s in
    let t = accepted s _ _ _ _ _ (sym c.in_ok-check.ensures) in
    record {
      entries_ahead = entries_ahead a.text.now s c.in-Some.ensures _ refl t.size t.placed;
      n_in_bounds =
          (t.starts, subst (λ m. m ≤ length a.columns.now) t.count t.columns, subst (λ m. m ≤ length a.values.now) t.count t.values, t.few);
    }

pub fill_placed-requires : goal.fill_placed-requires
fill_placed-requires c =
    let s = c.in-Some.s in
    let t = accepted s _ _ _ _ _ (sym c.in_ok-check.ensures) in
    record { places_ahead = scales_ahead c.args.text.now s c.in-Some.ensures _ refl t.size t.placed; n_in_bounds = t.scales }

pub fill_placed-requires-2 : goal.fill_placed-requires-2
fill_placed-requires-2 c =
    let s = c.in-Some.s in
    let t = accepted s _ _ _ _ _ (sym c.in_ok-check.ensures) in
    record { places_ahead = elements_ahead c.args.text.now s c.in-Some.ensures _ refl t.size t.placed; n_in_bounds = t.right }

pub returns : goal.returns
returns c =
    let a = c.args in
    let s = c.in-Some.s in
    let m = c.in-Some.ensures in
    let q =
    sym (reader_refusal_law a.text.now a.starts.now a.columns.now a.values.now a.scales.now a.right.now (Some s) m)
    ∙ sym c.in_ok-check.ensures in
    let k = reader_refusal a.text.now a.starts.now a.columns.now a.values.now a.scales.now a.right.now in
    record {
      refusal = sym q;
      modulus = sym (unless_refused_none k _ 0 q ∙ m.modulus);
      size = sym (unless_refused_none k _ 0 q ∙ m.size);
      entries = sym (unless_refused_none k _ 0 q ∙ m.count);
      starts_after =
          c.fill_entries.ensures.starts_after ∙ ap (λ l. overwrite l a.starts.now) (starts_are a.text.now s m _ refl)
          ∙ sym (unless_refused_none k _ a.starts.now q);
      columns_after =
          c.fill_entries.ensures.columns_after ∙ ap (λ l. overwrite l a.columns.now) (columns_are a.text.now s m _ refl)
          ∙ sym (unless_refused_none k _ a.columns.now q);
      values_after =
          c.fill_entries.ensures.values_after ∙ ap (λ l. overwrite l a.values.now) (values_are a.text.now s m _ refl)
          ∙ sym (unless_refused_none k _ a.values.now q);
      scales_after =
          c.fill_placed.ensures ∙ ap (λ l. overwrite l a.scales.now) (scales_are a.text.now s m _ refl) ∙ sym (unless_refused_none k _ a.scales.now q);
      right_after =
          c.fill_placed-2.ensures ∙ ap (λ l. overwrite l a.right.now) (right_is a.text.now s m _ refl) ∙ sym (unless_refused_none k _ a.right.now q);
    }
