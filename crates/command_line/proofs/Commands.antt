-- Each command asks for something.
use Rattle.std.proofs.Common.{◌≡◌, ◌&&◌, ◌||◌, ℕ, Bool, cond, slice_index_or, true, false, not, List, [], ◌∷◌, Option}
use Rattle.std.proofs.Common.{Some, None, codes, is_some, option_map, drop, refl}
use Rattle.std.proofs.Math.Bool.{or-false}
use Rattle.std.specs.List.{list_any}
use Rattle.std.specs.Option.{option_map_or}
use Rattle.std.specs.Str.{bytes_eq}
use Rattle.std.proofs.lemmas.Slice.Eq.{bytes_eq-Decides}
use Rattle.clap.specs.Walk.{Held, Row, Text, answers_to, finished, nothing_held, one_of, rows_after, settled}
use Rattle.clap.specs.Walk.{walk, walk_from}
use Rattle.clap.specs.Walk.{without}
use Rattle.clap.specs.Simple.{App, Shape, built, entered, filled, help_rule, label_of, names_of, rows_at, with_index}
use Rattle.clap.specs.Kinds.{Kinds, check_kinds, or_else}
use Rattle.clap.specs.Faults.{built_fault, check_fault, defaults_fault, entered_fault, level_fault, settle_fault}
use Rattle.clap.specs.Faults.{walk_fault}
use Rattle.clap.specs.Takes.{is_given}
use Rattle.clap.specs.declared.parser.matches.ValueSource.TheVariants.{CommandLine}
use Rattle.clap.specs.declared.builder.value_parser.Reading.TheVariants.{AsWritten}
use Rattle.command_line.specs.CommandLine.{CommandValue, IsCommand, command_of_line, command_by_name, command_in, assemble_source}
use Rattle.command_line.specs.CommandLine.{debug_image, file_rule, fuel_rule, list_image, number_given, run_image, run_threads}
use Rattle.command_line.specs.CommandLine.{tool_app, with_paths}
use Rattle.command_line.proofs.ClapFacts.Filled.{AreFilled, Each, Fills, given_value, with_values_filled, without_filled}
use Rattle.command_line.proofs.ClapFacts.FilledWalks.{level_filled}
use Rattle.command_line.proofs.ClapFacts.Stops.{is_no_help}
use Rattle.command_line.proofs.ClapFacts.Levels.{stop, stops, level_passes, one_given, two_given, three_given, fills_help, help_apart}

abbrev tool_built : App
tool_built = built tool_app

abbrev sub : ℕ → Shape
sub i = slice_index_or tool_built.subs i tool_built.top

fills_file : (name : Text) (i : ℕ) → Fills (with_index i (filled (file_rule name)))
fills_file name i again [] rows e fine = cc
fills_file name i again (v ∷ vs) rows e fine =
    with_values_filled name AsWritten CommandLine v vs (without name rows) (without_filled name rows e)

fills_fuel : (i : ℕ) → Fills (with_index i (filled fuel_rule))
fills_fuel i again [] rows e fine = cc
fills_fuel i again (v ∷ vs) rows e fine =
    with_values_filled (codes "FUEL") AsWritten CommandLine v vs (without (codes "FUEL") rows)
    (without_filled (codes "FUEL") rows e)

paths_there : (with_files : Text → Text → CommandValue) (o p : Option Text) → is_some o ≡ true → is_some p ≡ true
    → is_some (with_paths with_files o p) ≡ true
paths_there with_files None p first second = first
paths_there with_files (Some x) None first second = second
paths_there with_files (Some x) (Some y) first second = refl

path_there : (with_files : Text → CommandValue) (o : Option Text) → is_some o ≡ true → is_some (option_map with_files o) ≡ true
path_there with_files None first = first
path_there with_files (Some x) first = refl

module _ (words : List Text) where
  abbrev level : ℕ → List Row
  level i = rows_after (sub i).rules [] words

  abbrev fault : ℕ → Kinds
  fault i = level_fault (sub i) [] nothing_held words false []

  asm_asks : fault 1 ≡ [] → is_some (command_by_name (codes "asm") (level 1)) ≡ true
  asm_asks e =
      let passes = level_passes (sub 1) words
      (fills_file (codes "SOURCE") 1, (fills_file (codes "IMAGE") 2, (fills_help 3, tt))) e in
      let given = two_given (is_given (codes "SOURCE") (level 1)) (is_given (codes "IMAGE") (level 1)) passes.1 in
      paths_there assemble_source _ _ (given_value (codes "SOURCE") (level 1) passes.0 given.0)
      (given_value (codes "IMAGE") (level 1) passes.0 given.1)

  list_asks : fault 2 ≡ [] → is_some (command_by_name (codes "list") (level 2)) ≡ true
  list_asks e =
      let passes = level_passes (sub 2) words (fills_file (codes "IMAGE") 1, (fills_help 2, tt)) e in
      let given = one_given (is_given (codes "IMAGE") (level 2)) passes.1 in
      path_there list_image _ (given_value (codes "IMAGE") (level 2) passes.0 given)

  run_asks : fault 3 ≡ [] → is_some (command_by_name (codes "run") (level 3)) ≡ true
  run_asks e =
      let passes = level_passes (sub 3) words
      (fills_file (codes "IMAGE") 1, (fills_file (codes "SCHEDULE") 2, (fills_help 3, tt))) e in
      let given = two_given (is_given (codes "IMAGE") (level 3)) (is_given (codes "SCHEDULE") (level 3)) passes.1 in
      paths_there run_image _ _ (given_value (codes "IMAGE") (level 3) passes.0 given.0)
      (given_value (codes "SCHEDULE") (level 3) passes.0 given.1)

  threads_asks : fault 4 ≡ [] → is_some (command_by_name (codes "threads") (level 4)) ≡ true
  threads_asks e =
      let passes = level_passes (sub 4) words
      (fills_file (codes "IMAGE") 1, (fills_fuel 2, (fills_file (codes "SCHEDULE") 3, (fills_help 4, tt)))) e in
      let given = three_given (is_given (codes "IMAGE") (level 4)) (is_given (codes "FUEL") (level 4))
      (is_given (codes "SCHEDULE") (level 4)) passes.1 in
      paths_there (λ image. run_threads image (number_given (one_of (codes "FUEL") (level 4)))) _ _
      (given_value (codes "IMAGE") (level 4) passes.0 given.0) (given_value (codes "SCHEDULE") (level 4) passes.0 given.1)

  debug_asks : fault 5 ≡ [] → is_some (command_by_name (codes "debug") (level 5)) ≡ true
  debug_asks e =
      let passes = level_passes (sub 5) words
      (fills_file (codes "IMAGE") 1, (fills_file (codes "SCHEDULE") 2, (fills_help 3, tt))) e in
      let given = two_given (is_given (codes "IMAGE") (level 5)) (is_given (codes "SCHEDULE") (level 5)) passes.1 in
      paths_there debug_image _ _ (given_value (codes "IMAGE") (level 5) passes.0 given.0)
      (given_value (codes "SCHEDULE") (level 5) passes.0 given.1)

  abbrev rows : Option Shape → Option (Text × List Row)
  rows = option_map (λ s. rows_at s words)

  abbrev faults : Option Shape → Kinds
  faults o = option_map_or (λ s. level_fault s [] nothing_held words false []) o []

  abbrev chosen : Bool → Bool → Bool → Bool → Bool → Bool → Bool → Option Shape
  chosen a b c d e f g = cond a (Some (sub 0))
      (cond b (Some (sub 1)) (cond c (Some (sub 2)) (cond d (Some (sub 3)) (cond e (Some (sub 4))
      (cond f (Some (sub 5)) (cond g (Some (sub 6)) None))))))

  each_asks : (a b c d e f g : Bool) → (g ≡ true → ⊥) → faults (chosen a b c d e f g) ≡ []
      → is_some (rows (chosen a b c d e f g)) ≡ true
      → is_some (command_in (rows (chosen a b c d e f g))) ≡ true
  each_asks true b c d e f g other fine some = refl
  each_asks false true c d e f g other fine some = asm_asks fine
  each_asks false false true d e f g other fine some = list_asks fine
  each_asks false false false true e f g other fine some = run_asks fine
  each_asks false false false false true f g other fine some = threads_asks fine
  each_asks false false false false false true g other fine some = debug_asks fine
  each_asks false false false false false false true other fine some = absurd (other refl)
  each_asks false false false false false false false other fine some = some

stop_asks : (o : Option (Text × List Text)) → is_no_help o ≡ true → entered_fault tool_built o ≡ []
    → is_some (entered tool_built o) ≡ true → is_some (command_in (entered tool_built o)) ≡ true
stop_asks None other fine some = some
stop_asks (Some p) other fine some =
    each_asks p.1 (answers_to p.0 (label_of (sub 0))) (answers_to p.0 (label_of (sub 1)))
    (answers_to p.0 (label_of (sub 2)))
    (answers_to p.0 (label_of (sub 3))) (answers_to p.0 (label_of (sub 4))) (answers_to p.0 (label_of (sub 5)))
    (answers_to p.0 (label_of (sub 6)))
    (λ is. help_apart p.0 other (rw or-false at is)) fine some

pub command_asks : (words : List Text) → IsCommand words → is_some (command_of_line words) ≡ true
command_asks words e =
    let at = stops tool_built (drop 1 words) refl refl e in
    stop_asks (stop tool_built (drop 1 words) refl refl) at.0 at.1 at.2
