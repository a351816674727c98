-- What a line about streams expects of the end of a run, or allows there.
use Rattle.std.specs.Prelude.{ℕ, if◌then◌else◌, List, [], ◌∷◌, length, codes, Option, Some, None, Ok, Err}
use Rattle.std.specs.Str.{bytes_eq}
use Rattle.image_file.specs.ImageValue.{ImageValue}
use Rattle.claims.specs.Missing.{has_stream}
use Rattle.expectation_files.specs.Values.{stream_named, register_named, value_named, trap_named}
use Rattle.expectation_files.specs.Addresses.{Names, PlacesSaid, places_said}
use Rattle.expectation_files.specs.WordLines.{Said, at}
use Rattle.expectations.specs.declared.expectation.Expectation.TheVariants as expect
use Rattle.expectation_files.specs.declared.faults.LineFaultKind.TheVariants as fault
use Rattle.expectation_files.specs.declared.faults.LineForm.TheVariants as form
use Rattle.processor.specs.declared.steps.Step.{Step}

abbrev pub register_of : Option Step → Option ℕ → Option ℕ → Said
register_of None r v = at 1 fault.Stream
register_of (Some n) None v = at 2 fault.Register
register_of (Some n) (Some r) None = at 3 fault.Number
register_of (Some n) (Some r) (Some v) = Ok (expect.Register n.p n.s r v)

abbrev pub stopped_of : Option Step → Option ℕ → Said
stopped_of None t = at 1 fault.Stream
stopped_of (Some n) None = at 2 fault.Trap
stopped_of (Some n) (Some t) = Ok (expect.Stopped n.p n.s t)

-- STREAM REGISTER VALUE
abbrev pub register_said : List (List ℕ) → Said
register_said (n ∷ r ∷ v ∷ []) = register_of (stream_named n) (register_named r) (value_named v)
register_said _ = at 0 (fault.Form form.Register)

-- nothing
abbrev pub finished_said : List (List ℕ) → Said
finished_said [] = Ok expect.Finished
finished_said _ = at 0 (fault.Form form.Finished)

-- STREAM TRAP
abbrev pub stopped_said : List (List ℕ) → Said
stopped_said (n ∷ t ∷ []) = stopped_of (stream_named n) (trap_named t)
stopped_said _ = at 0 (fault.Form form.Stopped)

abbrev pub waits_in : Step → PlacesSaid → Said
waits_in n (Err kind) = at 3 kind
waits_in n (Ok r) = Ok (expect.Waits n.p n.s r.first r.last)

-- a stream that the image has, at program words of a range
abbrev pub waits_of : ImageValue → Option Step → PlacesSaid → Said
waits_of i None r = at 1 fault.Stream
waits_of i (Some n) r = if has_stream i n then waits_in n r else at 1 fault.MissingStream

-- STREAM in RANGE
abbrev pub waits_said : Names → ImageValue → List (List ℕ) → Said
waits_said names i (n ∷ w ∷ r ∷ []) =
    if bytes_eq w (codes "in") then waits_of i (stream_named n) (places_said names (length i.program) r)
    else at 2 (fault.Form form.Waits)
waits_said names i _ = at 0 (fault.Form form.Waits)

-- nothing
abbrev pub loops_said : List (List ℕ) → Said
loops_said [] = Ok expect.Loops
loops_said _ = at 0 (fault.Form form.Loops)
