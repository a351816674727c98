use Rattle.std.proofs.Common.{◌≡◌, ◌∙◌, ap, sym, subst, ℕ, List, length, Option, Err}
use Rattle.std.specs.Prelude.{is_some}
use Rattle.image_file.specs.ImageValue.{ImageValue}
use Rattle.expectation_files.specs.declared.faults.FileFault.TheVariants as file
use Rattle.case_cells.specs.NamedWords.{places_by_name}
use Rattle.case_cells.specs.SpokenWords.{spoken_words, first_other}
use Rattle.case_cells.specs.declared.line_words.SpokenWords.{SpokenWords}
use Rattle.case_cells.specs.declared.named_words.WordPlaces.{WordPlaces}
use Rattle.judgements.specs.Cases.{places_or, SpeaksOfGivenIn, SpeaksOfOthers, SpeaksOfOthersIn}
use Rattle.judgements.proofs.requirements.line_not_given.Goals as goal

-- the first other word, by equal places and words
first_at : (ps qs : List WordPlaces) (gs hs os ns : List SpokenWords) (r : Option ℕ) → r ≡ first_other ps 0 gs os
    → ps ≡ qs → gs ≡ hs → os ≡ ns → r ≡ first_other qs 0 hs ns
first_at ps qs gs hs os ns r is places given own = rw (sym places, sym given, sym own) is

pub returns-clause-given : goal.returns-clause-given
returns-clause-given c =
    let case = c.args.case.now in
    let text = c.args.text.now in
    let required = c.args.required.now in
    let cells = c.in-Some.cells in
    let in_case = c.in-Ok.in_case in
    let places : c.deref-2.result.now ≡ places_or (places_by_name case.given.items text) (length cells.cells) =
    c.deref-2.ensures.value ∙ c.in_ok-places.ensures
    ∙ ap (λ p. places_or p (length cells.cells))
    (c.in_ok-places_by_name.ensures ∙ ap (λ g. places_by_name g text) c.deref.ensures.value) in
    let first =
    first_at c.deref-2.result.now (places_or (places_by_name case.given.items text) (length cells.cells))
    c.deref-3.result.now (spoken_words in_case) c.deref-4.result.now (spoken_words required) c.first_other.result
    c.first_other.ensures places (c.deref-3.ensures.value ∙ c.in_ok-given.ensures)
    (c.deref-4.ensures.value ∙ c.in_ok-own.ensures) in
    subst (λ (given : Option ImageValue). SpeaksOfGivenIn c.args.image.now text case given required) (sym c.in-Some.is)
    (record {
      in_case = in_case;
      said = c.in-Ok.ensures.means;
      same = ap is_some (sym first ∙ c.in-None.is);
    })

pub returns-in-Err-Line-clause-other : goal.returns-in-Err-Line-clause-other
returns-in-Err-Line-clause-other c =
    let line = c.in-Err-Line.line in
    let fault = c.in-Err-Line.field-0-1 in
    let is : c.in-Err-Line.field-0 ≡ file.Line line fault = c.in-Err-Line.field-0-is in
    subst (λ (given : Option ImageValue). SpeaksOfOthersIn c.args.image.now c.args.text.now c.args.case.now given
    c.args.required.now) (sym c.in-Some.is)
    (SpeaksOfOthers.by_line line fault
    (c.in-Err-Line.ensures.fault (λ e. let no = sym is ∙ e in absurd cc) ∙ ap Err is))

pub returns-in-Some-first_other-clause-other : goal.returns-in-Some-first_other-clause-other
returns-in-Some-first_other-clause-other c =
    let case = c.args.case.now in
    let text = c.args.text.now in
    let required = c.args.required.now in
    let cells = c.in-Some.cells in
    let in_case = c.in-Ok.in_case in
    let places : c.deref-2.result.now ≡ places_or (places_by_name case.given.items text) (length cells.cells) =
    c.deref-2.ensures.value ∙ c.in_ok-places.ensures
    ∙ ap (λ p. places_or p (length cells.cells))
    (c.in_ok-places_by_name.ensures ∙ ap (λ g. places_by_name g text) c.deref.ensures.value) in
    let first =
    first_at c.deref-2.result.now (places_or (places_by_name case.given.items text) (length cells.cells))
    c.deref-3.result.now (spoken_words in_case) c.deref-4.result.now (spoken_words required) c.first_other.result
    c.first_other.ensures places (c.deref-3.ensures.value ∙ c.in_ok-given.ensures)
    (c.deref-4.ensures.value ∙ c.in_ok-own.ensures) in
    subst (λ (given : Option ImageValue). SpeaksOfOthersIn c.args.image.now text case given required) (sym c.in-Some.is)
    (SpeaksOfOthers.by_word in_case c.in-Some-first_other.place c.in-Ok.ensures.means
    (sym first ∙ c.in-Some-first_other.is))
