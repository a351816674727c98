use Rattle.std.proofs.Common.{◌≡◌, false, length, ◌==◌, ◌∷◌, [], ap, ◌∙◌, Some, Ok, Err, rules}
use Rattle.mta_engines.specs.LineReading.{TakesBytes, IsBrokenOff}
use Rattle.mta_engines.proofs.ReadBytes.{at_fault}
use Rattle.mta_engines.proofs.Lines.{line-last, line-fed, line-more, broken, at_some, some-kept}
use Rattle.mta_engines.proofs.line_reader.LineReader.next.Goals as goal

pub returns-in_err-next-clause-fault : goal.returns-in_err-next-clause-fault
returns-in_err-next-clause-fault g c =
    let e = c.in_err-next.ensures in
    let fault = c.in_err-next.field-0.0 in
    at_fault c.from_residual.result fault
    (IsBrokenOff c.args.self.now.bytes (g.R.Read.remaining c.args.reader.now) (g.R.Read.remaining c.next.new.reader))
    c.from_residual.ensures.1
    (broken c.args.self.now.bytes c.loop-byte.self.bytes c.next.new.self (g.R.Read.remaining c.args.reader.now)
    (g.R.Read.remaining c.loop-byte.reader) (g.R.Read.remaining c.next.new.reader) c.loop-byte.self.line.bytes.items
    c.loop-byte.invariant fault e.faults (λ is. e.read (ap (λ f. Err f) is)) (λ is. e.too_large (ap (λ f. Err f) is))
    (λ is. e.no_room (ap (λ f. Err f) is)) e.none_left)

pub returns-in-None-clause-line : goal.returns-in-None-clause-line
returns-in-None-clause-line g c = λ is.
    let kept = c.loop-byte.self.line.bytes.items in
    let empty : c.is_empty.result ≡ (length kept == 0) = search rules in
    line-last c.args.self.now.bytes c.loop-byte.self.bytes c.next.new.self (g.R.Read.remaining c.args.reader.now)
    (g.R.Read.remaining c.loop-byte.reader) (g.R.Read.remaining c.next.new.reader) kept c.loop-byte.invariant
    (c.in_ok-next.ensures.end (ap (λ o. Ok o) c.in-None.is))
    (some-kept kept c.is_empty.result empty (cc))

pub returns-in-Some-eq10-clause-line : goal.returns-in-Some-eq10-clause-line
returns-in-Some-eq10-clause-line g c = λ _.
    let mid = c.loop-byte.self.bytes in
    let new = c.next.new.self in
    let before = g.R.Read.remaining c.loop-byte.reader in
    let after = g.R.Read.remaining c.next.new.reader in
    let is : c.in_ok-next.field-0 ≡ Some 10 = c.in-Some-eq10.is ∙ ap (λ n. Some n) c.in-Some-eq10.field-0-test in
    let ends = at_some c.in_ok-next.field-0 10 (λ _. (mid.window.at_end ≡ false) × (new.window.at_end ≡ false)) is
    c.in_ok-next.ensures.not_at_end in
    line-fed c.args.self.now.bytes mid new (g.R.Read.remaining c.args.reader.now) before after
    c.loop-byte.self.line.bytes.items c.loop-byte.invariant
    (at_some c.in_ok-next.field-0 10 (λ byte. TakesBytes mid before new after (byte ∷ [])) is c.in_ok-next.ensures.byte)
    ends.0 ends.1

pub loop-byte-preserved : goal.loop-byte-preserved
loop-byte-preserved g c =
    let mid = c.loop-byte.self.bytes in
    let new = c.next.new.self in
    let before = g.R.Read.remaining c.loop-byte.reader in
    let after = g.R.Read.remaining c.next.new.reader in
    let byte = c.in-Some.byte in
    let ends = at_some c.in_ok-next.field-0 byte (λ _. (mid.window.at_end ≡ false) × (new.window.at_end ≡ false))
    c.in-Some.is c.in_ok-next.ensures.not_at_end in
    line-more c.args.self.now.bytes mid new (g.R.Read.remaining c.args.reader.now) before after
    c.loop-byte.self.line.bytes.items c.loop-byte.invariant byte c.push.new.self.bytes.items
    (at_some c.in_ok-next.field-0 byte (λ b. TakesBytes mid before new after (b ∷ [])) c.in-Some.is c.in_ok-next.ensures.byte)
    ends.0 ends.1 c.in-Some.byte-test.1 c.push.ensures
