use Rattle.std.proofs.Common.{◌++◌, arith, string_bytes}
use Rattle.trace_text.specs.WorldTexts.{processor_parts}
use Rattle.trace_text.proofs.WorldSteps.{processor_written, processors_end}
use Rattle.trace_text.proofs.world_texts.push_processors.Goals as goal

pub loop-p-preserved : goal.loop-p-preserved
loop-p-preserved g c =
    let processors = (g.T.WorldReaders.world c.args.readers.now).processors in
    processor_written c.loop-p.p processors (string_bytes c.loop-p.text) (string_bytes c.push_processor.new.text)
    (string_bytes c.args.text.now ++ processor_parts 0 processors) c.in_ok-push_processor.ensures c.loop-p.invariant

pub returns : goal.returns
returns g c =
    let processors = (g.T.WorldReaders.world c.args.readers.now).processors in
    processors_end c.loop-p.p processors (string_bytes c.loop-p.text)
    (string_bytes c.args.text.now ++ processor_parts 0 processors)
    (omega (arith, c.processors-count.ensures.is, c.requires.one_each, c.loop-p-test.false)) c.loop-p.invariant
