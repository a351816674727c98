use Rattle.std.proofs.Common.{◌∙◌, ◌++◌, ap, string_bytes}
use Rattle.stream_core.specs.StreamText.{status_line, target_lines, stream_text_of}
use Rattle.stream_core.proofs.TextLines.{text_begins, register_written, registers_end, target_written, targets_end}
use Rattle.stream_core.proofs.stream_texts.stream_text.Goals as goal

pub loop-register-init : goal.loop-register-init
loop-register-init c =
    let begun = ap (λ xs. xs ++ status_line c.args.stream.now) c.new-text.ensures.bytes in
    let written = c.in_ok-write_status.ensures ∙ begun in
    text_begins (string_bytes c.write_status.new.text) c.args.stream.now written

pub loop-register-preserved : goal.loop-register-preserved
loop-register-preserved c =
    let written = c.in_ok-write_register.ensures in
    register_written c.args.stream.now.registers c.loop-register.register c.register.result
    (string_bytes c.loop-register.text) (string_bytes c.write_register.new.text)
    (target_lines c.args.stream.now.targets 8 0) (stream_text_of c.args.stream.now) c.loop-register-test.true
    c.register.ensures written c.loop-register.invariant

pub loop-target-init : goal.loop-target-init
loop-target-init c =
    registers_end c.args.stream.now.registers c.loop-register.register (string_bytes c.loop-register.text)
    (target_lines c.args.stream.now.targets 8 0)
    (stream_text_of c.args.stream.now) c.loop-register-test.false c.loop-register.invariant

pub loop-target-preserved : goal.loop-target-preserved
loop-target-preserved c =
    let written = c.in_ok-write_target.ensures in
    target_written c.args.stream.now.targets c.loop-target.target c.target_word.result
    (string_bytes c.loop-target.text) (string_bytes c.write_target.new.text)
    (stream_text_of c.args.stream.now) c.loop-target-test.true c.target_word.ensures written c.loop-target.invariant

pub returns : goal.returns
returns c =
    targets_end c.args.stream.now.targets c.loop-target.target (string_bytes c.loop-target.text)
    (stream_text_of c.args.stream.now) c.loop-target-test.false c.loop-target.invariant
