-- What a parse without a fault has met: a subcommand other than `help`, and each argument that is required.
use Rattle.std.proofs.Common.{◌≡◌, ◌&&◌, ◌||◌, ℕ, Bool, cond, slice_index_or, true, false, not, List, [], ◌∷◌, Option}
use Rattle.std.proofs.Common.{Some, None, codes, is_some, option_map, drop, refl}
use Rattle.std.proofs.Math.Bool.{or-false}
use Rattle.std.specs.List.{list_any}
use Rattle.std.specs.Option.{option_map_or}
use Rattle.std.specs.Str.{bytes_eq}
use Rattle.std.proofs.lemmas.Slice.Eq.{bytes_eq-Decides}
use Rattle.clap.specs.Walk.{Held, Row, Text, answers_to, finished, nothing_held, rows_after, settled, walk, walk_from}
use Rattle.clap.specs.Walk.{without}
use Rattle.clap.specs.Simple.{App, Shape, built, entered, filled, help_rule, label_of, names_of, rows_at, with_index}
use Rattle.clap.specs.Kinds.{Kinds, check_kinds, or_else}
use Rattle.clap.specs.Faults.{built_fault, check_fault, defaults_fault, entered_fault, level_fault, settle_fault}
use Rattle.clap.specs.Faults.{walk_fault}
use Rattle.clap.specs.Takes.{is_given}
use Rattle.clap.specs.declared.parser.matches.ValueSource.TheVariants.{CommandLine}
use Rattle.clap.specs.declared.builder.value_parser.Reading.TheVariants.{AsWritten}
use Rattle.command_line.proofs.ClapFacts.Filled.{AreFilled, Each, Fills, given_value, with_values_filled, without_filled}
use Rattle.command_line.proofs.ClapFacts.FilledWalks.{level_filled}
use Rattle.command_line.proofs.ClapFacts.Stops.{is_no_help, walk_helps}

-- ---- a command line without a fault stops at a subcommand, which is not `help`

wanted : (wants_help wants_subcommand wants_argument : Bool) → wants_subcommand ≡ true
    → check_kinds wants_help wants_subcommand wants_argument ≡ [] → ⊥
wanted true b c is e = cc
wanted false true c is e = cc
wanted false false c is e = cc

is_there : (s : Shape) (rows : List Row) (has : Bool) → s.subcommand_required ≡ true → check_fault s rows has ≡ []
    → has ≡ true
is_there s rows true required e = refl
is_there s rows false required e = absurd (wanted _ s.subcommand_required _ required e)

ends_empty : (a b c d e : Kinds) → or_else a (or_else b (or_else c (or_else d e))) ≡ []
    → (a ≡ []) × (b ≡ []) × (c ≡ []) × (e ≡ [])
ends_empty [] [] [] [] e is = (refl, refl, refl, is)
ends_empty [] [] [] (k ∷ ks) e is = cc
ends_empty [] [] (k ∷ ks) d e is = cc
ends_empty [] (k ∷ ks) c d e is = cc
ends_empty (k ∷ ks) b c d e is = cc

module _ (a : App) (words : List Text) (enabled : a.top.disable_help_subcommand ≡ false)
    (required : a.top.subcommand_required ≡ true) where
  abbrev end : Held
  end = (walk a.top.rules (names_of a) nothing_held words).held

  abbrev pub stop : Option (Text × List Text)
  stop = (walk a.top.rules (names_of a) nothing_held words).stopped

  pub stops : built_fault a nothing_held words ≡ []
      → (is_no_help stop ≡ true) × (entered_fault a stop ≡ []) × (is_some (entered a stop) ≡ true)
  stops e =
      let ends = ends_empty (walk_fault a.top (names_of a) (walk_from nothing_held) words) (entered_fault a stop)
      (settle_fault a.top.rules a.top.args_override_self end)
      (defaults_fault (settled a.top.rules end).rows a.top.rules)
      (check_fault a.top (finished a.top.rules end) (is_some (entered a stop))) e in (
        walk_helps a.top (names_of a) enabled (walk_from nothing_held) words refl ends.0,
        ends.1,
        is_there a.top (finished a.top.rules end) (is_some (entered a stop)) required ends.3,
      )

-- ---- what is required of a command is there

check_last : (x y z : Bool) → check_kinds x y z ≡ [] → z ≡ false
check_last true y z e = cc
check_last false true z e = cc
check_last false false true e = cc
check_last false false false e = refl

pub one_given : (g : Bool) → (not g || false) ≡ false → g ≡ true
one_given true e = refl
one_given false e = cc

pub two_given : (g h : Bool) → (not g || (not h || false)) ≡ false → (g ≡ true) × (h ≡ true)
two_given true true e = (refl, refl)
two_given true false e = cc
two_given false h e = cc

-- of three, the first and the last
pub three_given : (g h k : Bool) → (not g || (not h || (not k || false))) ≡ false → (g ≡ true) × (k ≡ true)
three_given true true true e = (refl, refl)
three_given true true false e = cc
three_given true false k e = cc
three_given false h k e = cc

module _ (s : Shape) (words : List Text) (each : Each Fills s.rules) where
  abbrev pub rows_of_level : List Row
  rows_of_level = rows_after s.rules [] words

  -- the rows are filled, and no argument that is required lacks its row
  pub level_passes : level_fault s [] nothing_held words false [] ≡ []
      → AreFilled rows_of_level
      × ((not (s.subcommand_negates_reqs && false) && list_any (λ a. a.required && not (is_given a.id rows_of_level))
      s.rules) ≡ false)
  level_passes e =
      let end = (walk s.rules [] nothing_held words).held in
      let ends = ends_empty (walk_fault s [] (walk_from nothing_held) words) []
      (settle_fault s.rules s.args_override_self end)
      (defaults_fault (settled s.rules end).rows s.rules) (check_fault s (finished s.rules end) false) e in
      (level_filled s [] each words ends.0 ends.2, check_last _ _ _ ends.3)

-- ---- the argument and the subcommand for help

pub fills_help : (i : ℕ) → Fills (with_index i (filled help_rule))
fills_help i again values rows e fine = e

pub help_apart : (name : Text) → not (bytes_eq name (codes "help")) ≡ true → bytes_eq (codes "help") name ≡ true → ⊥
help_apart name other is =
    let e : codes "help" ≡ name = (bytes_eq-Decides (codes "help") name).0 is in
    let never : false ≡ true = rw (← e) at other in
    cc
