-- Rows of which each has a value, and what keeps them so.
use Rattle.std.proofs.Common.{◌≡◌, ◌&&◌, Bool, cond, true, false, List, [], ◌∷◌, ◌++◌, Option, Some, None, is_some}
use Rattle.std.proofs.Common.{refl}
use Rattle.std.specs.Prelude.{option_and_then, slice_get}
use Rattle.std.specs.List.{find, fold, list_all}
use Rattle.std.specs.Option.{option_map_or}
use Rattle.std.specs.Str.{bytes_eq}
use Rattle.clap.specs.Facts.{explicit_source}
use Rattle.clap.specs.Walk.{Row, Rule, Text, at_row, default_rows, first_of, has_row, more_values, reading_by, used}
use Rattle.clap.specs.Walk.{with_default, with_values, without}
use Rattle.clap.specs.declared.parser.matches.ValueSource.{ValueSource}
use Rattle.clap.specs.declared.parser.matches.ValueSource.TheVariants.{DefaultValue}
use Rattle.clap.specs.declared.builder.value_parser.Reading.{Reading}
use Rattle.clap.specs.Takes.{is_given}
use Rattle.clap.specs.Faults.{use_fault}

-- ---- rows

abbrev pub is_filled : Row → Bool
is_filled r = is_some (slice_get r.values 0)

abbrev pub AreFilled : List Row → Type 0
AreFilled rows = list_all is_filled rows ≡ true

both_true : (a b : Bool) → (a && b) ≡ true → (a ≡ true) × (b ≡ true)
both_true true b e = (refl, e)
both_true false b e = cc

and_true : (a b : Bool) → a ≡ true → b ≡ true → (a && b) ≡ true
and_true true b x y = y
and_true false b x y = x

filled-append : (xs ys : List Row) → AreFilled xs → AreFilled ys → AreFilled (xs ++ ys)
filled-append [] ys a b = b
filled-append (x ∷ xs) ys a b =
    let parts = both_true (is_filled x) (list_all is_filled xs) a in
    and_true (is_filled x) (list_all is_filled (xs ++ ys)) parts.0 (filled-append xs ys parts.1 b)

at_row_filled : (id : Text) (change : Row → List Row) (missing rows : List Row)
    → ((r : Row) → is_filled r ≡ true → AreFilled (change r))
    → AreFilled missing → AreFilled rows → AreFilled (at_row id change missing rows)
at_row_filled id change missing [] changes more e = more
at_row_filled id change missing (r ∷ rs) changes more e =
    let parts = both_true (is_filled r) (list_all is_filled rs) e in
    go (bytes_eq r.id id) parts.0 parts.1 (at_row_filled id change missing rs changes more parts.1)
  where
    go : (b : Bool) → is_filled r ≡ true → AreFilled rs → AreFilled (at_row id change missing rs)
        → AreFilled (cond b (change r ++ rs) (r ∷ at_row id change missing rs))
    go true here rest later = filled-append (change r) rs (changes r here) rest
    go false here rest later = and_true (is_filled r) (list_all is_filled (at_row id change missing rs)) here later

first_stays : (xs ys : List Text) → is_some (slice_get xs 0) ≡ true → is_some (slice_get (xs ++ ys) 0) ≡ true
first_stays [] ys e = cc
first_stays (x ∷ xs) ys e = refl

pub without_filled : (id : Text) (rows : List Row) → AreFilled rows → AreFilled (without id rows)
without_filled id rows e = at_row_filled id (λ _. []) [] rows (λ r filled. refl) refl e

pub with_values_filled : (id : Text) (how : Reading) (s : ValueSource) (v : Text) (vs : List Text) (rows : List Row)
    → AreFilled rows
    → AreFilled (with_values id how s (v ∷ vs) rows)
with_values_filled id how s v vs rows e =
    at_row_filled id (more_values s (v ∷ vs)) _ rows
    (λ r filled. and_true _ true (first_stays r.values (v ∷ vs) filled) refl) refl e

-- ---- rules

-- a use of the argument without a fault leaves each row filled
abbrev pub Fills : Rule → Type 0
Fills a = (again : Bool) (values : List Text) (rows : List Row) → AreFilled rows → use_fault again a values rows ≡ []
    → AreFilled (used a values rows)

abbrev pub Each : (Rule → Type 0) → List Rule → Type 0
Each P [] = Unit {0}
Each P (a ∷ rest) = P a × Each P rest

abbrev pub IfRule : Option Rule → Type 0
IfRule None = Unit {0}
IfRule (Some a) = Fills a

pub found : (p : Rule → Bool) (c : List Rule) → Each Fills c → IfRule (find p c)
found p [] each = tt
found p (a ∷ rest) each = go (p a) (found p rest each.1)
  where
    go : (b : Bool) → IfRule (find p rest) → IfRule (cond b (Some a) (find p rest))
    go true later = each.0
    go false later = later

-- ---- defaults

default_filled : (id : Text) (how : Reading) (values : List Text) (rows : List Row) → AreFilled rows
    → AreFilled (default_rows id how values rows)
default_filled id how [] rows e = e
default_filled id how (v ∷ vs) rows e = with_values_filled id how DefaultValue v vs rows e

with_default_filled : (rows : List Row) (a : Rule) → AreFilled rows → AreFilled (with_default rows a)
with_default_filled rows a e = go (has_row a.id rows)
  where
    go : (b : Bool) → AreFilled (cond b rows (default_rows a.id (reading_by a) a.defaults rows))
    go true = e
    go false = default_filled a.id (reading_by a) a.defaults rows e

pub defaults_filled : (c : List Rule) (rows : List Row) → AreFilled rows → AreFilled (fold with_default rows c)
defaults_filled [] rows e = e
defaults_filled (a ∷ rest) rows e = defaults_filled rest (with_default rows a) (with_default_filled rows a e)

-- ---- an argument that was given

given_by : (p : Row → Bool) (rows : List Row) → AreFilled rows
    → option_map_or (λ r. explicit_source r.source) (find p rows) false ≡ true
    → is_some (option_and_then (λ r. slice_get r.values 0) (find p rows)) ≡ true
given_by p [] e given = cc
given_by p (r ∷ rs) e given =
    let parts = both_true (is_filled r) (list_all is_filled rs) e in
    go (p r) given parts.0 (given_by p rs parts.1)
  where
    go : (b : Bool) → option_map_or (λ r. explicit_source r.source) (cond b (Some r) (find p rs)) false ≡ true
        → is_filled r ≡ true
        → (option_map_or (λ r. explicit_source r.source) (find p rs) false ≡ true
        → is_some (option_and_then (λ r. slice_get r.values 0) (find p rs)) ≡ true)
        → is_some (option_and_then (λ r. slice_get r.values 0) (cond b (Some r) (find p rs))) ≡ true
    go true fine here later = here
    go false fine here later = later fine

-- and so it has a first value
pub given_value : (id : Text) (rows : List Row) → AreFilled rows → is_given id rows ≡ true
    → is_some (first_of id rows) ≡ true
given_value id rows e given = given_by (λ r. bytes_eq r.id id) rows e given
