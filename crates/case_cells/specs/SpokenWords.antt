-- Of which words of the memory the lines of a case speak.
use Rattle.std.specs.Prelude.{ℕ, ◌+◌, ◌-◌, ◌*◌, ◌/◌, ◌==◌, nat_lt, nat_le, Bool, true, false, ◌&&◌, if◌then◌else◌}
use Rattle.std.specs.Prelude.{List, [], ◌∷◌, ◌++◌, map, Option, Some, None}
use Rattle.std.specs.List.{list_all, list_any, range_with_len}
use Rattle.claims.specs.declared.claim.Claim.{Claim}
use Rattle.claims.specs.declared.claim.ClaimForm.{ClaimForm}
use Rattle.claims.specs.declared.claim.ClaimForm.TheVariants as form
use Rattle.expectations.specs.WordRanges.{word_count}
use Rattle.expectations.specs.declared.expectation.Expectation.{Expectation}
use Rattle.expectations.specs.declared.expectation.Expectation.TheVariants as expect
use Rattle.work_rules.specs.declared.work_rule.WorkRule.{WorkRule}
use Rattle.work_rules.specs.declared.work_rule.WorkRule.TheVariants as work
use Rattle.expectation_files.specs.declared.requirements.Requirements.{Requirements}
use Rattle.case_cells.specs.declared.named_words.WordPlaces.{WordPlaces}
use Rattle.case_cells.specs.declared.line_words.SpokenRange.{SpokenRange}
use Rattle.case_cells.specs.declared.line_words.SpokenWords.{SpokenWords}

abbrev pub no_words : SpokenWords
no_words = record { one = None; other = None }

abbrev pub range : ℕ → ℕ → Option SpokenRange
range first last = Some (record { first = first; last = last })

-- the words of which a line about the end speaks, by their byte addresses
abbrev pub spoken_at_end : Expectation → SpokenWords
spoken_at_end (expect.Word a value state) = record { one = range a a; other = None }
spoken_at_end (expect.Words a b value state) = record { one = range a b; other = None }
spoken_at_end (expect.Sum a b value) = record { one = range a b; other = None }
spoken_at_end (expect.Compared a r b more) = record { one = range a a; other = range b b }
spoken_at_end (expect.Register p s r value) = no_words
spoken_at_end expect.Finished = no_words
spoken_at_end (expect.Stopped p s trap) = no_words
spoken_at_end (expect.Waits p s first last) = no_words
spoken_at_end expect.Loops = no_words

abbrev pub spoken_in_form : ClaimForm → SpokenWords
spoken_in_form (form.Word a t) = record { one = range a a; other = None }
spoken_in_form (form.Compared a r b more) = record { one = range a a; other = range b b }
spoken_in_form (form.Streams t gs) = no_words

-- the words of which a claim speaks
abbrev pub spoken_in_claim : Claim → SpokenWords
spoken_in_claim c = spoken_in_form c.form

-- the words of which a line about who does the work speaks
abbrev pub spoken_in_work : WorkRule → SpokenWords
spoken_in_work (work.Writes t a) = record { one = range a a; other = None }
spoken_in_work (work.AtLeast count first last) = record { one = range first last; other = None }

-- those of all lines about the end, then those of all claims, and then those of all lines about who does the work
abbrev pub spoken_words : Requirements → List SpokenWords
spoken_words r =
    map spoken_at_end r.ends.items ++ (map spoken_in_claim r.claims.items ++ map spoken_in_work r.work.items)

-- whether this word of a submission is that word of a case, by a place
abbrev pub is_word_at : ℕ → ℕ → WordPlaces → Bool
is_word_at given own p =
    nat_le p.given given && (nat_lt (given - p.given) p.count && (nat_le p.own own && own - p.own == given - p.given))

-- the same of the words of two byte addresses, by one of some places
abbrev pub is_same_word : List WordPlaces → ℕ → ℕ → Bool
is_same_word places given own = list_any (is_word_at (given / 8) (own / 8)) places

-- the same of each of the words of two ranges, which have as many
abbrev pub are_same_words : List WordPlaces → SpokenRange → SpokenRange → Bool
are_same_words places given own =
    let count = word_count given.first given.last in
    count == word_count own.first own.last
    && list_all (λ k. is_same_word places (given.first + 8 * k) (own.first + 8 * k)) (range_with_len 0 count)

abbrev pub is_same_range : List WordPlaces → Option SpokenRange → Option SpokenRange → Bool
is_same_range places None None = true
is_same_range places None (Some own) = false
is_same_range places (Some given) None = false
is_same_range places (Some given) (Some own) = are_same_words places given own

-- whether the words of a case of which a line speaks are the words of the submission of which it speaks
abbrev pub is_alike : List WordPlaces → SpokenWords → SpokenWords → Bool
is_alike places given own = is_same_range places given.one own.one && is_same_range places given.other own.other

-- the first line, from this number on, that speaks of other words in the submission than in the case
abbrev pub first_other : List WordPlaces → ℕ → List SpokenWords → List SpokenWords → Option ℕ
first_other places k [] own = None
first_other places k (g ∷ gs) [] = Some k
first_other places k (g ∷ gs) (o ∷ os) = if is_alike places g o then first_other places (k + 1) gs os else Some k
