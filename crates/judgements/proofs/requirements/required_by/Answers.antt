use Rattle.std.proofs.Common.{◌≡◌, ◌∙◌, ℕ, ap, sym, subst, List, Result, Err}
use Rattle.std.specs.Prelude.{IfErr}
use Rattle.image_file.specs.ImageValue.{ImageValue}
use Rattle.source_places.specs.DataNames.{DataNameValue, data_names}
use Rattle.source_places.specs.SourceLabels.{labels_of}
use Rattle.expectation_files.specs.Files.{file_said}
use Rattle.expectation_files.specs.declared.faults.FileFault.{FileFault}
use Rattle.expectation_files.specs.declared.faults.FileFault.TheVariants as file
use Rattle.expectation_files.specs.declared.requirements.Requirements.{Requirements}
use Rattle.case_cells.specs.NamedWords.{places_by_name, places_seen}
use Rattle.judgements.specs.Cases.{said_by, names_or, word_names_by}
use Rattle.judgements.specs.declared.cases.Case.{Case}
use Rattle.judgements.proofs.requirements.required_by.Goals.{in-Some, in-None}
use Rattle.judgements.proofs.requirements.required_by.Goals as goal

-- a fault by the names of which a case speaks is one of the case
fault_as : (case : Case) (image : ImageValue) (text : List ℕ) (words : List DataNameValue) (r : Result Requirements FileFault)
    → words ≡ word_names_by (places_by_name case.given.items text) case text
    → IfErr r (λ (f : FileFault). ¬ (f ≡ file.NoMemory)
    → file_said (record { word_names = words; labels = labels_of text }) image case.expected.items ≡ Err f)
    → IfErr r (λ (f : FileFault). ¬ (f ≡ file.NoMemory) → said_by case image text ≡ Err f)
fault_as case image text words r same fault =
    subst (λ (ws : List DataNameValue). IfErr r (λ (f : FileFault). ¬ (f ≡ file.NoMemory)
    → file_said (record { word_names = ws; labels = labels_of text }) image case.expected.items ≡ Err f)) same fault

pub returns-clause-fault : goal.returns-clause-fault
returns-clause-fault c =
    let case = c.args.case.now in
    let image = c.args.image.now in
    let text = c.args.text.now in
    let places : places_seen c.in_ok-places_by_name.field-0 ≡ places_by_name case.given.items text =
    c.in_ok-places_by_name.ensures ∙ ap (λ g. places_by_name g text) c.deref.ensures.value in
    elim c.match-branch-2.branch [
      | in-Some w ↦ rw w.result-is (fault_as case image text (data_names text) w.required_in_submission.result
          (ap (λ p. word_names_by (places_seen p) case text) (sym w.in-Some.is)
          ∙ ap (λ o. word_names_by o case text) places) w.required_in_submission.ensures.fault)
      | in-None w ↦ rw w.result-is (fault_as case image text (names_or (data_names case.given.items) (data_names text))
          w.required_in_case.result
          (ap (λ p. word_names_by (places_seen p) case text) (sym w.in-None.is)
          ∙ ap (λ o. word_names_by o case text) places) w.required_in_case.ensures.fault)
    ]
