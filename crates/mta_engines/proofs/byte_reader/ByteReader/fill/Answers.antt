use Rattle.std.proofs.Common.{true, false, arith, sym, ◌∙◌}
use Rattle.std.proofs.lemmas.Bool.{true≢false}
use Rattle.std.proofs.KnownBytes.{Consumes-nil}
use Rattle.mta_engines.specs.LineReading.{bytes_to_come}
use Rattle.mta_engines.proofs.byte_reader.ByteReader.fill.Goals as goal

pub returns-then-self-clause-end : goal.returns-then-self-clause-end
returns-then-self-clause-end g c = λ _. record {
  nothing = record {
    consumed = Consumes-nil (bytes_to_come c.args.self.now (g.R.Read.remaining c.args.reader.now));
    counted = omega arith;
  };
  at_end = λ is. absurd (true≢false (sym c.if-self.true ∙ is));
  ended = c.if-self.true;
}
