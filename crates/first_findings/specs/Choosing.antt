-- Which finding of a run is shown where one alone is.
use Rattle.std.specs.Prelude.{ℕ, Bool, false, true, ◌&&◌, ◌||◌, nat_le, List, Option, Some, None}
use Rattle.std.specs.List.{list_any, position}
use Rattle.std.specs.Option.{option_map}
use Rattle.run_findings.specs.declared.lost.LostUpdate.{LostUpdate}
use Rattle.run_findings.specs.declared.torn.TornRead.{TornRead}
use Rattle.run_findings.specs.declared.unread.UnreadStore.{UnreadStore}
use Rattle.first_findings.specs.declared.choosing.FindingPlace.{FindingPlace}
use Rattle.first_findings.specs.declared.choosing.FindingPlace.TheVariants as place
use Rattle.first_findings.specs.declared.choosing.WordRange.{WordRange}

-- whether a byte address is one of the words of a range
abbrev pub is_between : ℕ → WordRange → Bool
is_between a r = nat_le r.first a && nat_le a r.last

-- the same of some ranges, where not any word will do
abbrev pub is_about : Bool → List WordRange → ℕ → Bool
is_about any words a = any || list_any (is_between a) words

-- the first of these, which may be missing, that is there
abbrev pub either : Option FindingPlace → Option FindingPlace → Option FindingPlace
either None other = other
either (Some p) other = Some p

-- the first finding that is about one of these words, or about any: a lost update, else a torn read, else an unread store
abbrev pub first_by : Bool → List WordRange → List LostUpdate → List TornRead → List UnreadStore → Option FindingPlace
first_by any words lost torn unread =
    either (option_map place.Lost (position (λ f. is_about any words f.word) lost))
    (either (option_map place.Torn (position (λ f. is_about any words f.stale || is_about any words f.fresh) torn))
    (option_map place.Unread (position (λ f. is_about any words f.word) unread)))

-- the first that is about one of these words, else the first of all
abbrev pub first_finding : List LostUpdate → List TornRead → List UnreadStore → List WordRange → Option FindingPlace
first_finding lost torn unread words = either (first_by false words lost torn unread) (first_by true words lost torn unread)
