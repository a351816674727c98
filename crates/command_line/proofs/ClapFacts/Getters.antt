-- What the getters of a parse say of it.
use Rattle.std.proofs.Common.{◌≡◌, ◌∙◌, ap, sym, List, [], Option, Some, None, IfSome, option_map, unwrap_or, is_some}
use Rattle.std.proofs.Common.{true}
use Rattle.clap.specs.Words.{Row, Text, first_of, first_value, found_of, rows_of, subcommand_name_of}
use Rattle.clap.specs.Words.{subcommand_rows_of}
use Rattle.clap.specs.declared.ArgMatches.{ArgMatches}
use Rattle.clap.proofs.WalkLemmas.{first_value-rows}

module _ {X : Type 0} (name_of : X → Text) (rows_in : X → List Row) where
  abbrev pub both_of : Option X → Option (Text × List Row)
  both_of = option_map (λ x. (name_of x, rows_in x))

  pub entered : (o : Option X) (name : Text) (rows : List Row) → Some name ≡ option_map name_of o
      → Some rows ≡ option_map (λ p. p.1) (both_of o) → both_of o ≡ Some (name, rows)
  entered None name rows named has = cc
  entered (Some x) name rows named has = cc

-- the value that an argument has, by the rows
pub value_is : (m : ArgMatches) (argument path : Text) → path ≡ unwrap_or (first_value (found_of m) argument) []
    → path ≡ unwrap_or (first_of argument (rows_of (found_of m))) []
value_is m argument path is = is ∙ ap (λ (o : Option Text). unwrap_or o []) (first_value-rows (found_of m) argument)
