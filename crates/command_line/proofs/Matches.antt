-- What the getters of the matches say of what a command line asks for.
use Rattle.std.proofs.Common.{◌≡◌, ◌∙◌, ap, sym, List, [], Option, Some, None, IfSome, option_map, unwrap_or, is_some}
use Rattle.std.proofs.Common.{true, false, Bool, ℕ, ◌-◌, ◌^◌, refl, arith, Result, Ok, Err}
use Rattle.std.specs.Str.Parse.{ParsesUnsigned}
use Rattle.clap.specs.Matches.{ReadsOne, one_text}
use Rattle.clap.specs.ValueTests.{is_unsigned_in}
use Rattle.clap.specs.Walk.{one_of}
use Rattle.clap.specs.declared.builder.ValueParser.TheVariants.{Unsigned}
use Rattle.clap.proofs.ValueTestLemmas.{accepts-Accepts, Accepts-accepts}
use Rattle.clap.proofs.WalkLemmas.{one_text-rows}
use Rattle.clap.specs.Words.{Row, Text, first_of, first_value, found_of, rows_of, subcommand_name_of}
use Rattle.clap.specs.Words.{subcommand_rows_of}
use Rattle.clap.specs.declared.ArgMatches.{ArgMatches}
use Rattle.command_line.proofs.ClapFacts.Getters.{entered}
use Rattle.command_line.specs.CommandLine.{CommandValue, command_by_name, command_in, with_paths}
use Rattle.command_line.specs.CommandLine.{number_of, number_given, run_threads}

-- the parse met the command `word`, whose values ask for `wanted` or for nothing
pub asks : (m : ArgMatches) (name word : Text) (rows : List Row) (wanted : CommandValue) → Some name ≡ subcommand_name_of m
    → Some rows ≡ option_map (λ p. p.1) (subcommand_rows_of m) → name ≡ word
    → IfSome (command_by_name word rows) (λ a. wanted ≡ a)
    → IfSome (command_in (subcommand_rows_of m)) (λ a. wanted ≡ a)
asks m name word rows wanted named has is by =
    let met : subcommand_rows_of m ≡ Some (name, rows) = entered _ _ _ name rows named has in
    rw (met, is) by

pub path_asks : (with_files : Text → CommandValue) (o : Option Text) (path : Text) → path ≡ unwrap_or o []
    → IfSome (option_map with_files o) (λ a. with_files path ≡ a)
path_asks with_files None path is = tt
path_asks with_files (Some x) path is = ap with_files is

pub paths_ask : (with_files : Text → Text → CommandValue) (o p : Option Text) (first second : Text) → first ≡ unwrap_or o []
    → second ≡ unwrap_or p [] → IfSome (with_paths with_files o p) (λ a. with_files first second ≡ a)
paths_ask with_files None p first second is same = tt
paths_ask with_files (Some x) None first second is same = tt
paths_ask with_files (Some x) (Some y) first second is same = λ i. with_files (is i) (same i)

-- the only command that is asked for
pub only : (o : Option CommandValue) (a : CommandValue) → is_some o ≡ true → IfSome o (λ wanted. a ≡ wanted) → o ≡ Some a
only None a some is = cc
only (Some b) a some is = ap (λ x. Some x) (sym is)

-- the number that a text is read as
module _ {E : Type 0} (G : Text → Result ℕ E → Type 0)
    (only : (text : Text) (x : Result ℕ E) → G text x → ParsesUnsigned 64 10 text x) where
  number_read : (text : Text) (r : Option ℕ) → ReadsOne G text r → unwrap_or r 0 ≡ number_of text
  number_read text (Some n) h =
      let parsed = only text (Ok n) h in
      let fits = parsed.0.1 in
      rw (Accepts-accepts false (Unsigned 0 (2 ^ 64 - 1)) text (parsed.0.0, fits, omega arith, omega arith)) parsed.1
  number_read text None h = go (is_unsigned_in 0 (2 ^ 64 - 1) text) refl
    where
      go : (b : Bool) → is_unsigned_in 0 (2 ^ 64 - 1) text ≡ b → 0 ≡ number_of text
      go false t = rw t refl
      go true t =
          let passed = accepts-Accepts false (Unsigned 0 (2 ^ 64 - 1)) text t in
          absurd (only text (Err h.0) h.1 (passed.0, passed.1))

  pub number_is : (o : Option Text) (r : Option ℕ) → (o ≡ None → r ≡ None)
      → ((t : Text) → o ≡ Some t → ReadsOne G t r) → unwrap_or r 0 ≡ number_given o
  number_is None r none value = rw (none refl) refl
  number_is (Some t) r none value = number_read t r (value t refl)

-- what an argument is read as, by the rows
pub number_rows : (m : ArgMatches) (argument : Text) (n : ℕ) → n ≡ number_given (one_text (found_of m) argument)
    → n ≡ number_given (one_of argument (rows_of (found_of m)))
number_rows m argument n is = is ∙ ap number_given (one_text-rows (found_of m) argument)

pub threads_ask : (o p : Option Text) (first second : Text) (n k : ℕ) → first ≡ unwrap_or o [] → n ≡ k
    → second ≡ unwrap_or p []
    → IfSome (with_paths (λ image. run_threads image k) o p) (λ a. run_threads first n second ≡ a)
threads_ask None p first second n k is count same = tt
threads_ask (Some x) None first second n k is count same = tt
threads_ask (Some x) (Some y) first second n k is count same = λ i. run_threads (is i) (count i) (same i)
