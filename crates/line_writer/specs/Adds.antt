-- What is added to lines.
--     Adds s w n           s became n by w: the slice is the same, and w was written in it after what s had. A place is at most `last`, as each usize is
-- Laws:
--     adds_line            what `Lines::put` adds
--     adds_none, adds_then, adds_as      nothing; one after the other; the same bytes said otherwise
--     adds_rows_none, adds_rows_more, adds_rows_skip      a table of lists, list by list, and past a list that is empty
--     adds_from_front      what was added to lines that were none
use Rattle.std.specs.Prelude.{◌≡◌, refl, List, [], ◌++◌, ℕ, ◌+◌, ◌≤◌}
use Rattle.std.proofs.Common.{sym, ap, subst, ◌∙◌, add-one, arith}
use Rattle.meaning.specs.List.{flat, table}
use Rattle.text_laws.specs.Tables.{flat_table_zero, flat_table_suc}
use Rattle.line_writer.specs.declared.lines.Lines.{Lines}
use Rattle.line_writer.specs.Written.{last, after, written, Wrote, after_within, wrote_line, wrote_none, wrote_then, wrote_as}

pub record Adds (s : Lines) (w : List ℕ) (n : Lines) : Type 0 where
  pub same_slice : n.out.ghost_name ≡ s.out.ghost_name
  pub wrote : s.at ≤ last → Wrote s.out.now s.at w n.at n.out.now

pub adds_line : {s n : Lines} {w : List ℕ} → n.out.ghost_name ≡ s.out.ghost_name → n.out.now ≡ written s.out.now s.at w → n.at ≡ after s.at w
    → Adds s w n
adds_line g b p = record { same_slice = g; wrote = λ _. wrote_line p b }

pub adds_none : (s : Lines) → Adds s [] s
adds_none s = record { same_slice = refl; wrote = wrote_none s.out.now s.at }

pub adds_then : {s m n : Lines} {v w : List ℕ} → Adds s v m → Adds m w n → Adds s (v ++ w) n
adds_then {s} {m} {n} {v} p q =
    record {
      same_slice = q.same_slice ∙ p.same_slice;
      wrote = λ h. let first = p.wrote h in
          wrote_then first (q.wrote (omega (arith, first.place, after_within s.at v)));
    }

pub adds_as : {s n : Lines} {v w : List ℕ} → v ≡ w → Adds s v n → Adds s w n
adds_as e p = record { same_slice = p.same_slice; wrote = λ h. wrote_as e (p.wrote h) }

pub adds_rows_none : (s : Lines) (f : ℕ → List ℕ) → Adds s (flat (table 0 f)) s
adds_rows_none s f = adds_as (sym (flat_table_zero f)) (adds_none s)

pub adds_rows_more : {s m n : Lines} (f : ℕ → List ℕ) (i : ℕ) → Adds s (flat (table i f)) m → Adds m (f i) n → Adds s (flat (table (i + 1) f)) n
adds_rows_more f i p q =
    adds_as (sym (ap (λ k. flat (table k f)) (add-one i) ∙ flat_table_suc i f)) (adds_then p q)

pub adds_rows_skip : {s n : Lines} (f : ℕ → List ℕ) (i : ℕ) → f i ≡ [] → Adds s (flat (table i f)) n → Adds s (flat (table (i + 1) f)) n
adds_rows_skip {n = n} f i e p = adds_rows_more f i p (adds_as (sym e) (adds_none n))

pub adds_from_front : {l w : List ℕ} {s n : Lines} → s.out.now ≡ l → s.at ≡ 0 → Adds s w n → Wrote l 0 w n.at n.out.now
adds_from_front {l} {w} {s} {n} b p a =
    subst (λ i. Wrote l i w n.at n.out.now) p (subst (λ k. Wrote k s.at w n.at n.out.now) b (a.wrote (omega (arith, p))))
