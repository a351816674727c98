-- The profile of a text.
use Rattle.std.specs.Prelude.{if◌then◌else◌, List, [], ◌∷◌, codes, Option, Some, None, Result, Ok, Err, unwrap_or}
use Rattle.std.specs.Str.{bytes_eq}
use Rattle.insn_word.specs.declared.profiles.Profile.{Profile}
use Rattle.insn_word.specs.declared.profiles.Profile.TheVariants as profile
use Rattle.asm_line.specs.Text.{head, operands}
use Rattle.asm_line.specs.Directives.{profile_read}
use Rattle.asm_line.specs.Lines.{Line}
use Rattle.asm_line.specs.declared.fault.Fault.{Fault}

-- the profile that was read, or Profile 1 where it has a fault
abbrev pub profile_or_one : Result Profile Fault → Profile
profile_or_one (Ok p) = p
profile_or_one (Err e) = profile.One

-- what a line says of the profile, if its head is .profile: the profile of its operand, or Profile 1 where that names
-- none
unfoldable pub profile_named : Line → Option Profile
profile_named l =
    if bytes_eq (head l.statement) (codes ".profile") then Some (profile_or_one (profile_read (operands l.statement)))
    else None

-- The first line that says one decides, wherever it stands in the text; where none does it is Profile 1.
abbrev pub profile_of : List Line → Profile
profile_of [] = profile.One
profile_of (l ∷ ls) = unwrap_or (profile_named l) (profile_of ls)
