use Rattle.text_call.proofs.Program.{printed_short_buffer, printed_over_read, printed_short_out, printed_shown}
use Rattle.text_call.proofs.output.Goals as goal

-- `text_call::output` meets its contract.
pub returns-then-buffer-lt26625 : goal.returns-then-buffer-lt26625
returns-then-buffer-lt26625 c =
    let a = c.args in
    printed_short_buffer a.buffer.now a.read a.out.now c.if-buffer-lt26625.true

pub returns-then-buffer-read : goal.returns-then-buffer-read
returns-then-buffer-read c =
    let a = c.args in
    printed_over_read a.buffer.now a.read a.out.now c.if-buffer-read.true

pub returns-then-out-lt7168 : goal.returns-then-out-lt7168
returns-then-out-lt7168 c =
    let a = c.args in
    printed_short_out a.buffer.now a.read a.out.now c.if-out-lt7168.true

pub returns : goal.returns
returns c =
    let a = c.args in
    let buffer = a.buffer.now in
    let out = a.out.now in
    let call = c.show in
    printed_shown buffer a.read out c.if-buffer-lt26625.false c.if-buffer-read.false c.if-out-lt7168.false call.result call.new.out
    call.ensures
