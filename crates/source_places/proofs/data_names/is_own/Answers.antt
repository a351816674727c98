use Rattle.std.proofs.Common.{◌≡◌, ◌∙◌, ◌&&◌, true, false, ap, sym, eqb, arith, count_by}
use Rattle.std.proofs.lemmas.Grind.{common_steps}
use Rattle.asm_line.specs.Labels.{places_of}
use Rattle.source_places.specs.DataNames.{is_called, is_on}
use Rattle.source_places.proofs.data_names.is_own.Goals as goal

pub returns-then-times_of-eq1 : goal.returns-then-times_of-eq1
returns-then-times_of-eq1 c = λ said same.
    let name = c.args.name.now in
    let times : c.times_of.result ≡ count_by (is_called name.name.now) said = c.times_of.ensures ∙ same in
    let one : eqb (count_by (is_called name.name.now) said) 1 ≡ true = grind (arith, common_steps) in
    cc (ap (λ b. b && is_on name.number c.find.result) one, c.is_on.ensures, c.find.ensures)

pub returns-else-times_of-eq1 : goal.returns-else-times_of-eq1
returns-else-times_of-eq1 c = λ said same.
    let name = c.args.name.now in
    let times : c.times_of.result ≡ count_by (is_called name.name.now) said = c.times_of.ensures ∙ same in
    let other : eqb (count_by (is_called name.name.now) said) 1 ≡ false = grind (arith, common_steps) in
    let it : eqb c.times_of.result 1 ≡ false = grind (arith, common_steps) in
    it ∙ sym (ap (λ b. b && is_on name.number (places_of c.args.labels.now name.name.now)) other)
