-- What a claim speaks of that the machine of an image does not have.
use Rattle.std.specs.Prelude.{ℕ, ◌%◌, ◌/◌, ◌==◌, nat_lt, Bool, not, ◌&&◌, if◌then◌else◌, List, [], ◌∷◌, find, length}
use Rattle.std.specs.Prelude.{Option, Some, None}
use Rattle.image_file.specs.ImageValue.{ImageValue}
use Rattle.machine.specs.ProcessorTypes.Step.{Step}
use Rattle.claims.specs.declared.claim.ClaimForm.{ClaimForm}
use Rattle.claims.specs.declared.claim.ClaimForm.TheVariants as form
use Rattle.claims.specs.declared.claim.StreamGroup.{StreamGroup}
use Rattle.claims.specs.declared.missing.Missing.{Missing}
use Rattle.claims.specs.declared.missing.Missing.TheVariants as missing

-- whether a byte address is that of one of the image's words
abbrev pub has_word : ImageValue → ℕ → Bool
has_word i a = a % 8 == 0 && nat_lt (a / 8) (length i.cells)

-- whether a step names a stream of one of the image's processors
abbrev pub has_stream : ImageValue → Step → Bool
has_stream i t = nat_lt t.p (length i.entries) && nat_lt t.s i.slim

-- whether a place is that of one of the image's program words
abbrev pub has_place : ImageValue → ℕ → Bool
has_place i n = nat_lt n (length i.program)

abbrev pub missing_unless : Bool → Missing → Option Missing
missing_unless there m = if there then None else Some m

abbrev pub missing_stream : Option Step → Option Missing → Option Missing
missing_stream None other = other
missing_stream (Some t) other = Some (missing.Stream t)

-- the first of some streams that is not there, else the last place of a range where it is not
abbrev pub missing_of_range : ImageValue → List Step → ℕ → Option Missing
missing_of_range i ts last =
    missing_stream (find (λ t. not (has_stream i t)) ts) (missing_unless (has_place i last) missing.Place)

abbrev pub missing_word : ImageValue → ℕ → Option Missing
missing_word i a = missing_unless (has_word i a) missing.Word

-- what is missing of one part, else of another
abbrev pub first_missing : Option Missing → Option Missing → Option Missing
first_missing None other = other
first_missing (Some m) other = Some m

-- what the first of some groups speaks of that is not there, where all before it is
abbrev pub missing_of_groups : ImageValue → List StreamGroup → Option Missing
missing_of_groups i [] = None
missing_of_groups i (g ∷ gs) = first_missing (missing_of_range i g.streams.items g.last) (missing_of_groups i gs)

-- what a claim of this form speaks of that is not there; nothing where all is
abbrev pub missing_in : ImageValue → ClaimForm → Option Missing
missing_in i (form.Word a t) = missing_word i a
missing_in i (form.Compared a r b more) = first_missing (missing_word i a) (missing_word i b)
missing_in i (form.Streams t gs) = missing_of_groups i gs.items
