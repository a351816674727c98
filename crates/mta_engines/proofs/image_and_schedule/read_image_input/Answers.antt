use Rattle.std.proofs.Common.{rules, ◌∙◌, ◌≢◌, ◌≤◌, length, subst, IsErrAnd}
use Rattle.image_file.specs.Spelling.{Stands}
use Rattle.mta_engines.specs.declared.tool_fault.ToolFault.TheVariants.{Write}
use Rattle.mta_engines.specs.Input.{input_limit}
use Rattle.mta_engines.specs.Faults.{IsFaultBy}
use Rattle.mta_engines.specs.Images.{HasImageFault}
use Rattle.mta_engines.proofs.ReadBytes.{told, of_reader}
use Rattle.mta_engines.proofs.ImageFaults.{image_without_fault, image_fault_told}
use Rattle.image_file.specs.Answers.{SaysFault}
use Rattle.image_file.specs.Reading.{image_fault}
use Rattle.mta_engines.proofs.image_and_schedule.read_image_input.Goals as goal

pub returns-in_err-read_image-clause-fault : goal.returns-in_err-read_image-clause-fault
returns-in_err-read_image-clause-fault g c =
    told c.from_residual-in_err-read_image.result (g.R.Read.remaining c.args.reader.now) c.in_ok-bytes.bytes.items
    (λ input. IsFaultBy (HasImageFault input))
    c.in_ok-bytes.ensures.whole
    (λ input e.
    let same = c.deref.ensures.value ∙ e in
    let within : length c.in_ok-bytes.bytes.items ≤ input_limit = search rules in
    image_fault_told c.from_residual-in_err-read_image.result input c.in_err-read_image.field-0.0
    (subst (λ b. length b ≤ input_limit) e within)
    (subst (λ b. SaysFault c.in_err-read_image.field-0.0 (image_fault b)) same c.in_err-read_image.ensures.fault)
    c.from_residual-in_err-read_image.ensures.1)

pub returns-in_err-read_image-clause-no_image : goal.returns-in_err-read_image-clause-no_image
returns-in_err-read_image-clause-no_image g c = λ found.
    of_reader (g.R.Read.remaining c.args.reader.now) c.in_ok-bytes.bytes.items
    (λ input. HasImageFault input found → IsErrAnd c.from_residual-in_err-read_image.result
    (λ fault. (fault ≢ Write) × IsFaultBy (HasImageFault input) fault))
    c.in_ok-bytes.ensures.whole (λ input e has. let same = c.deref.ensures.value ∙ e in search rules)

pub returns-clause-no_image : goal.returns-clause-no_image
returns-clause-no_image g c = λ found.
    of_reader (g.R.Read.remaining c.args.reader.now) c.in_ok-bytes.bytes.items
    (λ input. HasImageFault input found → ⊥) c.in_ok-bytes.ensures.whole
    (λ input e has.
    let same = c.deref.ensures.value ∙ e in
    let within : length c.in_ok-bytes.bytes.items ≤ input_limit = search rules in
    let image = c.in_ok-read_image.field-0 in
    image_without_fault input image found (subst (λ b. length b ≤ input_limit) e within)
    (subst (λ b. Stands b image) same c.in_ok-read_image.ensures.found) has)
