use Rattle.std.proofs.Common.{◌∙◌, ap, List, Option}
use Rattle.case_cells.specs.NamedWords.{given_cells, places_by_name}
use Rattle.case_cells.specs.declared.named_words.WordPlaces.{WordPlaces}
use Rattle.image_file.specs.ImageValue.{ImageValue}
use Rattle.asked_programs.proofs.given_words.image_with_words.Goals as goal

pub returns : goal.returns
returns c =
    let made : Option (List WordPlaces) → ImageValue = λ places. record c.args.program.now.image {
      cells = given_cells places c.args.cells.now.cells c.args.program.now.image.cells;
    } in
    c.in_ok-image.ensures
    ∙ ap made (c.in_ok-places.ensures ∙ ap (places_by_name c.args.given.now) c.deref.ensures.value)
