use Rattle.std.proofs.Common.{sym, ap, subst, Ok}
use Rattle.std.proofs.KnownBytes.{Keeps-refl}
use Rattle.mta_engines.specs.LineReading.{IsNextLine}
use Rattle.mta_engines.specs.DebugAnswers.{IsLaterFault}
use Rattle.mta_engines.specs.declared.tool_fault.ToolFault.TheVariants.{NoMemory}
use Rattle.mta_engines.proofs.ReadBytes.{at_fault}
use Rattle.mta_engines.proofs.DebugSoFar.{so_far-begun, so_far-more, so_far-broken, so_far-unanswered, later-none}
use Rattle.mta_engines.proofs.debug_answers.answer_lines.Goals as goal

pub returns-in_err-lines-clause-fault : goal.returns-in_err-lines-clause-fault
returns-in_err-lines-clause-fault g c =
    let s = c.args.session.now in
    let told = g.C.Read.remaining c.args.commands.now in
    let written = g.W.Write.contents c.args.writer.now in
    at_fault c.from_residual.result NoMemory (IsLaterFault s told told written written) c.from_residual.ensures.1
    (later-none s told told written written (Keeps-refl written))

pub loop-lines-init : goal.loop-lines-init
loop-lines-init g c =
    so_far-begun c.args.session.now (g.C.Read.remaining c.args.commands.now) (g.W.Write.contents c.args.writer.now)
    c.in_ok-lines.lines.bytes c.in_ok-lines.ensures.empty c.in_ok-lines.ensures.room c.in_ok-lines.ensures.not_at_end

pub returns-in_err-next-clause-fault : goal.returns-in_err-next-clause-fault
returns-in_err-next-clause-fault g c =
    let s = c.args.session.now in
    let told = g.C.Read.remaining c.args.commands.now in
    let told_after = g.C.Read.remaining c.next.new.reader in
    let old = g.W.Write.contents c.args.writer.now in
    let new = g.W.Write.contents c.loop-lines.writer in
    at_fault c.from_residual-in_err-next.result c.in_err-next.field-0.0 (IsLaterFault s told told_after old new)
    c.from_residual-in_err-next.ensures.1
    (so_far-broken s told old c.loop-lines.lines.bytes (g.C.Read.remaining c.loop-lines.commands) c.loop-lines.session new
    c.loop-lines.invariant told_after c.in_err-next.field-0.0 c.in_err-next.ensures.fault)

pub loop-lines-preserved : goal.loop-lines-preserved
loop-lines-preserved g c =
    let b = c.loop-lines.lines.bytes in
    let b' = c.next.new.self.bytes in
    let before = g.C.Read.remaining c.loop-lines.commands in
    let after = g.C.Read.remaining c.next.new.reader in
    let next = subst (λ kept. IsNextLine b before b' after kept) (sym c.line.ensures)
    (c.in_ok-next.ensures.line (ap (λ is. Ok is) c.if-branch.true)) in
    so_far-more c.args.session.now (g.C.Read.remaining c.args.commands.now) (g.W.Write.contents c.args.writer.now)
    b before c.loop-lines.session (g.W.Write.contents c.loop-lines.writer) c.loop-lines.invariant b' after
    c.line.result.now c.answer_line.new.session (g.W.Write.contents c.answer_line.new.writer) next
    c.in_ok-answer_line.ensures.reply

pub returns-in_err-answer_line-clause-fault : goal.returns-in_err-answer_line-clause-fault
returns-in_err-answer_line-clause-fault g c =
    let told = g.C.Read.remaining c.args.commands.now in
    let old = g.W.Write.contents c.args.writer.now in
    let new = g.W.Write.contents c.answer_line.new.writer in
    let b = c.loop-lines.lines.bytes in
    let b' = c.next.new.self.bytes in
    let before = g.C.Read.remaining c.loop-lines.commands in
    let after = g.C.Read.remaining c.next.new.reader in
    let next = c.in_ok-next.ensures.line (ap (λ is. Ok is) c.if-branch.true) in
    at_fault c.from_residual-in_err-answer_line.result c.in_err-answer_line.field-0.0
    (IsLaterFault c.args.session.now told after old new) c.from_residual-in_err-answer_line.ensures.1
    (so_far-unanswered c.args.session.now told old b before c.loop-lines.session
    (g.W.Write.contents c.loop-lines.writer) c.loop-lines.invariant b' after after c.next.new.self.line.bytes.items new
    c.in_err-answer_line.field-0.0 next c.in_err-answer_line.ensures.fault)
