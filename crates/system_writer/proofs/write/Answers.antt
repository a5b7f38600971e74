use mathlib.Core.Path.{◌≡◌, sym, ◌∙◌}
use Prim.Native.Nat.{◌≤◌, ◌<◌}
use native.Mathlib.Omega.{arith}
use lib.ListN.{length}
use Rattle.meaning.specs.List.{overwrite}
use Rattle.meaning.specs.Text.{write}
use Rattle.meaning.specs.Calls.{writer_refusal}
use Rattle.laws.specs.Refusal.{unless_refused_none, unless_refused_some}
use Rattle.checks.specs.Slices.{matrix_of}
use Rattle.system_writer.specs.Writes.{text_asks, writer_short, writer_fits, writer_text}
use Rattle.system_writer.proofs.write.Goals as goal

pub whole_text-length-requires : goal.whole_text-length-requires
whole_text-length-requires c =
    let a = c.args in
    let q = text_asks a.p (matrix_of a.a.now) a.scales.now a.right.now (sym c.in_ok-check_system.ensures) in
    record { rows = q.0; accepted_scales = q.1.0; right_len = q.1.1 }

pub returns-then-out-length : goal.returns-then-out-length
returns-then-out-length c =
    let w = c.whole_text-length in
    let a = c.args in
    let A = matrix_of a.a.now in
    let z = sym c.in_ok-check_system.ensures in
    let l : length a.out.now < length (write a.p A a.scales.now a.right.now) =
    omega (arith, c.if-out-length.true, (writer_text a.p A a.scales.now a.right.now a.out.now z w.result _ w.new.out w.ensures).0) in
    let q = writer_short a.p A a.scales.now a.right.now a.out.now z l in
    let k : writer_refusal a.p A a.scales.now a.right.now a.out.now ≡ 0 → ⊥ = λ e. omega (arith, sym q ∙ e) in
    record {
      result_value = sym q;
      result_value_2 = sym (unless_refused_some (writer_refusal a.p A a.scales.now a.right.now a.out.now) (length (write a.p A a.scales.now a.right.now)) 0 k);
      out_after = sym (unless_refused_some (writer_refusal a.p A a.scales.now a.right.now a.out.now) (overwrite (write a.p A a.scales.now a.right.now) a.out.now) a.out.now k);
    }

pub whole_text-requires : goal.whole_text-requires
whole_text-requires c =
    let a = c.args in
    let q = text_asks a.p (matrix_of a.a.now) a.scales.now a.right.now (sym c.in_ok-check_system.ensures) in
    record { rows = q.0; accepted_scales = q.1.0; right_len = q.1.1 }

pub shape_of-out : goal.shape_of-out
shape_of-out c = c.whole_text.auto.out

pub returns : goal.returns
returns c =
    let t = c.whole_text in
    let w = c.whole_text-length in
    let a = c.args in
    let A = matrix_of a.a.now in
    let z = sym c.in_ok-check_system.ensures in
    let measured = (writer_text a.p A a.scales.now a.right.now a.out.now z w.result _ w.new.out w.ensures).0 in
    let l : length (write a.p A a.scales.now a.right.now) ≤ length a.out.now = omega (arith, measured) in
    let q = writer_fits a.p A a.scales.now a.right.now a.out.now z l in
    record {
      result_value = sym q;
      result_value_2 = measured ∙ sym (unless_refused_none (writer_refusal a.p A a.scales.now a.right.now a.out.now) (length (write a.p A a.scales.now a.right.now)) 0 q);
      out_after = (writer_text a.p A a.scales.now a.right.now a.out.now z t.result a.out.now t.new.out t.ensures).1 l
          ∙ sym (unless_refused_none (writer_refusal a.p A a.scales.now a.right.now a.out.now) (overwrite (write a.p A a.scales.now a.right.now) a.out.now) a.out.now q);
    }
