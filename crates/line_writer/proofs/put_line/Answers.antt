use Rattle.std.proofs.Common.{◌≡◌, sym, ◌∙◌, ℕ, ◌+◌, ◌-◌, ◌≤◌, List, Bool, true, ◌&&◌, ltb, leb, min, length, arith}
use Rattle.line_writer.specs.Written.{last, capped, line_length, capped_min, line_end, line_test, line_room, line_placed, written_not}
use Rattle.line_writer.proofs.put_line.Goals as goal

-- where the test says yes, the line ends within the slice
room : (l : List ℕ) (at : ℕ) (w ks : List ℕ) (size end : ℕ) → size ≡ capped (line_length (length w) ks) → end ≡ min (at + size) last
    → (fits : Bool) → fits ≡ (ltb end last && leb end (length l)) → fits ≡ true → (end ≡ at + line_length (length w) ks) × (end ≤ length l)
room l at w ks size end es ee fits e t = line_room l at w ks size end es (ee ∙ capped_min (at + size)) (sym e ∙ t)

pub put_word-requires : goal.put_word-requires
put_word-requires c =
    omega (arith, room _ c.args.at c.args.word.now _ _ _ c.length_of.ensures c.saturating_add-end.ensures _ c.has_room.ensures c.if-has_room.true)

pub put_fields-requires : goal.put_fields-requires
put_fields-requires c =
    omega (arith, room _ c.args.at c.args.word.now _ _ _ c.length_of.ensures c.saturating_add-end.ensures _ c.has_room.ensures c.if-has_room.true)

pub overflow_sub-out : goal.overflow_sub-out
overflow_sub-out c =
    omega (arith, room _ c.args.at c.args.word.now _ _ _ c.length_of.ensures c.saturating_add-end.ensures _ c.has_room.ensures c.if-has_room.true)

pub bounds-out-end : goal.bounds-out-end
bounds-out-end c =
    omega (arith, room _ c.args.at c.args.word.now _ _ _ c.length_of.ensures c.saturating_add-end.ensures _ c.has_room.ensures c.if-has_room.true)

pub returns-then-has_room : goal.returns-then-has_room
returns-then-has_room c =
    let a = c.args in
    let end = c.saturating_add-end.result in
    let es = c.length_of.ensures in
    let ee = c.saturating_add-end.ensures ∙ capped_min (a.at + c.length_of.result) in
    let t = sym c.has_room.ensures ∙ c.if-has_room.true in
    let r = line_room a.out.now a.at a.word.now a.numbers.now _ end es ee t in
    record {
      value = line_end a.out.now a.at a.word.now a.numbers.now _ end es ee;
      out_after = line_placed a.out.now a.at a.word.now a.numbers.now _ end es ee t
          c.put_word.new.out c.put_fields.new.out
          c.put_word.ensures c.put_fields.ensures (end - 1) (omega arith);
    }

pub returns-else-has_room : goal.returns-else-has_room
returns-else-has_room c =
    let a = c.args in
    let l = a.out.now in
    let es = c.length_of.ensures in
    let ee = c.saturating_add-end.ensures ∙ capped_min (a.at + c.length_of.result) in
    record {
      value = line_end l a.at a.word.now a.numbers.now _ _ es ee;
      out_after = sym (written_not l a.at _
          (sym (line_test l a.at a.word.now a.numbers.now _ _ es ee)
          ∙ sym c.has_room.ensures ∙ c.if-has_room.false));
    }
