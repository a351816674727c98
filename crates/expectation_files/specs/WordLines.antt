-- What a line about words expects. The words of a line count from 0; the first one is its name.
use Rattle.std.specs.Prelude.{ℕ, ◌+◌, false, true, if◌then◌else◌, List, [], ◌∷◌, codes, Option, Some, None, Result, Ok, Err}
use Rattle.std.specs.Str.{bytes_eq}
use Rattle.expectation_files.specs.Values.{relation_named, value_named, state_named}
use Rattle.expectation_files.specs.Addresses.{Names, RangeSaid, address_said, range_said}
use Rattle.expectations.specs.declared.expectation.Expectation.{Expectation}
use Rattle.expectations.specs.declared.expectation.Expectation.TheVariants as expect
use Rattle.expectations.specs.declared.expectation.FullEmpty.{FullEmpty}
use Rattle.expectations.specs.declared.expectation.Relation.{Relation}
use Rattle.expectation_files.specs.declared.compared_words.ComparedWords.{ComparedWords}
use Rattle.expectation_files.specs.declared.compared_words.ComparingLine.{ComparingLine}
use Rattle.expectation_files.specs.declared.faults.LineFault.{LineFault}
use Rattle.expectation_files.specs.declared.faults.LineFaultKind.{LineFaultKind}
use Rattle.expectation_files.specs.declared.faults.LineFaultKind.TheVariants as fault
use Rattle.expectation_files.specs.declared.faults.LineForm.TheVariants as form

-- this fault, which the word of this number has
abbrev pub at : {A : Type 0} → ℕ → LineFaultKind → Result A LineFault
at k kind = Err (record { word = k; kind = kind })

abbrev pub Said : Type 0
Said = Result Expectation LineFault

-- Each form by what its words say: the first that says nothing is the fault.

abbrev pub word_of : Result ℕ LineFaultKind → Option ℕ → Option FullEmpty → Said
word_of (Err kind) v state = at 1 kind
word_of (Ok a) None state = at 2 fault.Number
word_of (Ok a) (Some v) state = Ok (expect.Word a v state)

abbrev pub words_of_range : RangeSaid → Option ℕ → Option FullEmpty → Said
words_of_range (Err kind) v state = at 1 kind
words_of_range (Ok r) None state = at 2 fault.Number
words_of_range (Ok r) (Some v) state = Ok (expect.Words r.first r.last v state)

abbrev pub sum_of_range : RangeSaid → Option ℕ → Said
sum_of_range (Err kind) v = at 1 kind
sum_of_range (Ok r) None = at 2 fault.Number
sum_of_range (Ok r) (Some v) = Ok (expect.Sum r.first r.last v)

abbrev pub ComparedSaid : Type 0
ComparedSaid = Result ComparedWords LineFault

-- two words, and how the one stands to the other and a number: in a line of this form, from the word of this number on
abbrev pub compared_of : ComparingLine → Option Relation → Result ℕ LineFaultKind → Result ℕ LineFaultKind → Option ℕ → ComparedSaid
compared_of l None a b more = at (l.first + 1) (fault.Form l.form)
compared_of l (Some r) (Err kind) b more = at l.first kind
compared_of l (Some r) (Ok a) (Err kind) more = at (l.first + 3) kind
compared_of l (Some r) (Ok a) (Ok b) None = at (l.first + 5) fault.Number
compared_of l (Some r) (Ok a) (Ok b) (Some more) = Ok (record { address = a; relation = r; other = b; more = more })

abbrev pub expected_of : ComparedSaid → Said
expected_of (Err f) = Err f
expected_of (Ok c) = Ok (expect.Compared c.address c.relation c.other c.more)

-- The operands of each form.

abbrev pub no_word_form : ℕ → Said
no_word_form k = at k (fault.Form form.Word)

abbrev pub word_in_state : Names → List ℕ → List ℕ → Option FullEmpty → Said
word_in_state names a v None = no_word_form 3
word_in_state names a v (Some state) = word_of (address_said names a) (value_named v) (Some state)

-- nothing, or + NUMBER, each perhaps with signed behind it
abbrev pub compared_said : ComparingLine → Names → List ℕ → List ℕ → List ℕ → List (List ℕ) → ComparedSaid
compared_said l names a r b [] =
    compared_of l (relation_named r false) (address_said names a) (address_said names b) (Some 0)
compared_said l names a r b (s ∷ []) =
    if bytes_eq s (codes "signed")
    then compared_of l (relation_named r true) (address_said names a) (address_said names b) (Some 0)
    else at (l.first + 4) (fault.Form l.form)
compared_said l names a r b (p ∷ n ∷ []) =
    if bytes_eq p (codes "+")
    then compared_of l (relation_named r false) (address_said names a) (address_said names b) (value_named n)
    else at (l.first + 4) (fault.Form l.form)
compared_said l names a r b (p ∷ n ∷ s ∷ []) =
    if bytes_eq p (codes "+")
    then (if bytes_eq s (codes "signed")
    then compared_of l (relation_named r true) (address_said names a) (address_said names b) (value_named n)
    else at (l.first + 6) (fault.Form l.form))
    else at (l.first + 4) (fault.Form l.form)
compared_said l names a r b (p ∷ n ∷ s ∷ o ∷ os) = at 0 (fault.Form l.form)

-- word 1 of a line about two words is the one's address
abbrev pub two_words : ComparingLine
two_words = record { form = form.Word; first = 1 }

-- ADDRESS VALUE, or ADDRESS VALUE STATE, or ADDRESS RELATION word ADDRESS and what may stand behind it
abbrev pub word_said : Names → List (List ℕ) → Said
word_said names (a ∷ v ∷ []) = word_of (address_said names a) (value_named v) None
word_said names (a ∷ v ∷ s ∷ []) = word_in_state names a v (state_named s)
word_said names (a ∷ r ∷ w ∷ b ∷ os) =
    if bytes_eq w (codes "word") then expected_of (compared_said two_words names a r b os) else no_word_form 3
word_said names _ = no_word_form 0

abbrev pub words_in_state : Names → List ℕ → List ℕ → Option FullEmpty → Said
words_in_state names r v None = at 3 (fault.Form form.Words)
words_in_state names r v (Some state) = words_of_range (range_said names r) (value_named v) (Some state)

-- RANGE VALUE, or RANGE VALUE STATE
abbrev pub words_said : Names → List (List ℕ) → Said
words_said names (r ∷ v ∷ []) = words_of_range (range_said names r) (value_named v) None
words_said names (r ∷ v ∷ s ∷ []) = words_in_state names r v (state_named s)
words_said names _ = at 0 (fault.Form form.Words)

-- RANGE VALUE
abbrev pub sum_said : Names → List (List ℕ) → Said
sum_said names (r ∷ v ∷ []) = sum_of_range (range_said names r) (value_named v)
sum_said names _ = at 0 (fault.Form form.Sum)
