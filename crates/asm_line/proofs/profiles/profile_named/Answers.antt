use Rattle.std.proofs.Common.{sym, ◌∙◌, ap}
use Rattle.std.specs.Prelude.{◌==◌, slice_index}
use Rattle.asm_line.specs.SourceLines.{line_seen}
use Rattle.asm_line.proofs.ProfileHeads.{other_first, other_second}
use Rattle.asm_line.proofs.profiles.profile_named.Goals as goal

pub returns-then-not-begins : goal.returns-then-not-begins
returns-then-not-begins c = other_first (line_seen c.args.line.now) (sym c.begins.ensures ∙ c.if-not-begins.true)

pub returns-then-not-begins-2 : goal.returns-then-not-begins-2
returns-then-not-begins-2 c = other_second (line_seen c.args.line.now)
    (sym (ap (λ bytes. slice_index bytes 0 == 112) c.tail.ensures) ∙ sym c.begins-2.ensures ∙ c.if-not-begins-2.true)
