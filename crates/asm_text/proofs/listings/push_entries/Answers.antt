use Rattle.std.proofs.Common.{sym, ◌∙◌, arith}
use Rattle.std.specs.Prelude.{string_bytes}
use Rattle.asm_text.proofs.Listed.{entry_pushed}
use Rattle.asm_text.proofs.listings.push_entries.Goals as goal

pub loop-processor-preserved : goal.loop-processor-preserved
loop-processor-preserved c =
    entry_pushed c.args.image.now.entries c.loop-processor.processor c.in-Some.entry
    (string_bytes c.loop-processor.text) _ (string_bytes c.push_entry.new.text)
    (omega (arith, c.processors-processor-end.ensures.is, c.loop-processor-test.true))
    (sym c.entry.ensures.is ∙ c.in-Some.is) c.in_ok-push_entry.ensures c.loop-processor.invariant
