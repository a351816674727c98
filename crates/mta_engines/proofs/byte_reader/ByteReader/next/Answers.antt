use Rattle.std.proofs.Common.{◌≡◌, ◌<◌, ◌≤◌, [], length, refl, ap, sym, ◌∙◌, subst, arith, rules}
use Rattle.mta_engines.specs.LineReading.{TakesBytes}
use Rattle.mta_engines.proofs.Lines.{takes-first, takes-nothing}
use Rattle.mta_engines.proofs.byte_reader.ByteReader.next.Goals.{else-self-via-then-self+in_ok-fill+else-not-branch, else-self-via-else-self}
use Rattle.mta_engines.proofs.byte_reader.ByteReader.next.Goals as goal

pub returns-clause-byte : goal.returns-clause-byte
returns-clause-byte g c =
    let old = c.args.self.now in
    let mid = c.else-self.self in
    let before = g.R.Read.remaining c.args.reader.now in
    let after = g.R.Read.remaining c.else-self.reader in
    let none : TakesBytes old before mid after [] = elim c.else-self.branch [
      | else-self-via-then-self+in_ok-fill+else-not-branch w ↦ search rules
      | else-self-via-else-self w ↦
          subst (λ r. TakesBytes old before mid (g.R.Read.remaining r) []) (sym w.reader-is)
          (subst (λ m. TakesBytes old before m before []) (sym w.self-is) (takes-nothing old before))
    ] in
    let some : mid.window.start < mid.window.end = elim c.else-self.branch [
      | else-self-via-then-self+in_ok-fill+else-not-branch w ↦ search rules
      | else-self-via-else-self w ↦ omega (arith, mid.window.ordered, w.if-self.false, w.self-is)
    ] in
    let within : mid.window.end ≤ length mid.chunk = omega (arith, mid.window.within) in
    takes-first old mid _ before after none some within refl refl refl refl
