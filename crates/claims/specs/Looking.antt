-- At which places of a program and at which words claims look: what a stream does elsewhere can change none of them.
use Rattle.std.specs.Prelude.{ℕ, nat_le, ◌==◌, Bool, false, ◌&&◌, ◌||◌, List}
use Rattle.std.specs.List.{list_any}
use Rattle.claims.specs.declared.claim.Claim.{Claim}
use Rattle.claims.specs.declared.claim.ClaimForm.{ClaimForm}
use Rattle.claims.specs.declared.claim.ClaimForm.TheVariants as form
use Rattle.claims.specs.declared.claim.StreamGroup.{StreamGroup}

-- whether the range of a group has a place
abbrev pub is_in_range : ℕ → StreamGroup → Bool
is_in_range place g = nat_le g.first place && nat_le place g.last

-- whether one of some groups' ranges has it
abbrev pub is_in_groups : ℕ → List StreamGroup → Bool
is_in_groups place gs = list_any (is_in_range place) gs

-- whether a form of claim looks at a place: one of its ranges has it
abbrev pub form_looks_at : ℕ → ClaimForm → Bool
form_looks_at place (form.Word a t) = false
form_looks_at place (form.Compared a r b more) = false
form_looks_at place (form.Streams t gs) = is_in_groups place gs.items

-- whether one of some claims does
abbrev pub is_looked_at : List Claim → ℕ → Bool
is_looked_at claims place = list_any (λ (c : Claim). form_looks_at place c.form) claims

-- whether a form of claim looks at the word at a byte address
abbrev pub form_looks_at_word : ℕ → ClaimForm → Bool
form_looks_at_word address (form.Word a t) = a == address
form_looks_at_word address (form.Compared a r b more) = a == address || b == address
form_looks_at_word address (form.Streams t gs) = false

-- whether one of some claims does
abbrev pub is_word_looked_at : List Claim → ℕ → Bool
is_word_looked_at claims address = list_any (λ (c : Claim). form_looks_at_word address c.form) claims
