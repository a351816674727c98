-- What stops at a position, told from the breakpoints and the watched words.
use Rattle.std.proofs.Common.{◌≡◌, ℕ, ◌&&◌, Bool, true, false, ◌||◌, refl, sym, ap, ◌∙◌}
use Rattle.std.proofs.Common.{List, [], ◌∷◌, ◌++◌, map, Option, Some, None}
use Rattle.std.specs.List.{list_any}
use Rattle.std.proofs.lemmas.List.{map-append}
use Rattle.std.proofs.lemmas.List.Folds.{list_any-append}
use Rattle.tag_memory.specs.Storage.{TaggedMemory, cell_at}
use Rattle.processor.specs.World.{World}
use Rattle.processor.specs.declared.steps.Step.{Step}
use Rattle.replay_debugger.specs.declared.points.Point.{Point}
use Rattle.replay_debugger.specs.declared.points.Point.TheVariants.{Break, Watch, WatchTags}
use Rattle.processor.specs.Records.{is_running}
use Rattle.replay_debugger.specs.Stops.{stream_named, is_met, slot_stops, any_stops}
use Rattle.replay_debugger.specs.StopFinders.{slot_breaks_at, has_place, AreBreakpoints, slot_watch_of, watches_of}
use Rattle.replay_debugger.specs.StopFinders.{has_changed, seen_again, IsFinderOf}
use Rattle.replay_debugger.specs.declared.stop_finder.StopFinder.{StopFinder}
use Rattle.replay_debugger.specs.Watches.{WatchValue, watch_at}
use Rattle.replay_debugger.proofs.WatchedParts.{tags_part}

-- Sums of tests.

or_false : (a : Bool) → a ≡ (a || false)
or_false true = refl
or_false false = refl

and_false : (a : Bool) → false ≡ (a && false)
and_false true = refl
and_false false = refl

and_or : (r a b : Bool) → (r && (a || b)) ≡ ((r && a) || (r && b))
and_or true a b = refl
and_or false a b = refl

or_four : (a b c d : Bool) → ((a || b) || (c || d)) ≡ ((a || c) || (b || d))
or_four true b c d = refl
or_four false true true d = refl
or_four false true false d = refl
or_four false false c d = refl

met_or : (f g : ℕ → ℕ → Bool) (w : World) (next : Option Step)
    → is_met (λ q at. f q at || g q at) w next ≡ (is_met f w next || is_met g w next)
met_or f g w None = refl
met_or f g w (Some t) =
    let s = stream_named w t in
    and_or (is_running s) (f t.p s.ssw.pc) (g t.p s.ssw.pc)

met_none : (w : World) (next : Option Step) → false ≡ is_met (λ q at. false) w next
met_none w None = refl
met_none w (Some t) = and_false (is_running (stream_named w t))

met_same : (f g : ℕ → ℕ → Bool) (w : World) (next : Option Step) → ((q at : ℕ) → f q at ≡ g q at)
    → is_met f w next ≡ is_met g w next
met_same f g w None same = refl
met_same f g w (Some t) same =
    let s = stream_named w t in
    ap (λ b. is_running s && b) (same t.p s.ssw.pc)

-- One point.

abbrev pub slot_changes : World → World → Option Point → Bool
slot_changes before w slot = list_any (has_changed w.memory) (slot_watch_of before.memory slot)

slot_split : (before w : World) (next : Option Step) (slot : Option Point)
    → slot_stops before w next slot ≡ (slot_changes before w slot || is_met (λ q at. slot_breaks_at q at slot) w next)
slot_split before w next None = met_none w next
slot_split before w next (Some (Break p pc)) = refl
slot_split before w next (Some (Watch a)) =
    let x = slot_stops before w next (Some (Watch a)) in
    or_false x ∙ (λ i. or_false x i || met_none w next i)
slot_split before w next (Some (WatchTags a)) =
    let x = slot_changes before w (Some (WatchTags a)) in
    tags_part (cell_at before.memory a) (cell_at w.memory a)
    ∙ or_false (has_changed w.memory (watch_at a true (cell_at before.memory a)))
    ∙ or_false x
    ∙ (λ i. x || met_none w next i)

-- All points.

stops_split : (before w : World) (next : Option Step) (points : List (Option Point))
    → any_stops before w next points
    ≡ (list_any (has_changed w.memory) (watches_of before.memory points)
    || is_met (λ q at. list_any (slot_breaks_at q at) points) w next)
stops_split before w next [] = met_none w next
stops_split before w next (slot ∷ rest) =
    let a = slot_changes before w slot in
    let b = is_met (λ q at. slot_breaks_at q at slot) w next in
    let c = list_any (has_changed w.memory) (watches_of before.memory rest) in
    let d = is_met (λ q at. list_any (slot_breaks_at q at) rest) w next in
    let watches = list_any-append (has_changed w.memory) (slot_watch_of before.memory slot)
    (watches_of before.memory rest) in
    let breaks = met_or (λ q at. slot_breaks_at q at slot) (λ q at. list_any (slot_breaks_at q at) rest) w next in
    (λ i. slot_split before w next slot i || stops_split before w next rest i)
    ∙ or_four a b c d
    ∙ sym (λ i. watches i || breaks i)

pub stops_met : (before w : World) (next : Option Step) (points : List (Option Point)) (places : List (ℕ × ℕ))
    → AreBreakpoints points places
    → (list_any (has_changed w.memory) (watches_of before.memory points) || is_met (has_place places) w next)
    ≡ any_stops before w next points
stops_met before w next points places are =
    let same = met_same (has_place places) (λ q at. list_any (slot_breaks_at q at) points) w next are in
    ap (λ b. list_any (has_changed w.memory) (watches_of before.memory points) || b) same
    ∙ sym (stops_split before w next points)

-- the watched words as another memory shows them
slot_again : (m n : TaggedMemory) (slot : Option Point)
    → map (seen_again n) (slot_watch_of m slot) ≡ slot_watch_of n slot
slot_again m n None = refl
slot_again m n (Some (Break p pc)) = refl
slot_again m n (Some (Watch a)) = refl
slot_again m n (Some (WatchTags a)) = refl

pub watches_again : (m n : TaggedMemory) (points : List (Option Point))
    → map (seen_again n) (watches_of m points) ≡ watches_of n points
watches_again m n [] = refl
watches_again m n (slot ∷ rest) =
    map-append (seen_again n) (slot_watch_of m slot) (watches_of m rest)
    ∙ (λ i. slot_again m n slot i ++ watches_again m n rest i)

-- At a position, with the watched words in the code's hands.

pub stop_changed : (before w : World) (next : Option Step) (points : List (Option Point)) (s : StopFinder)
    (words : List WatchValue) (changed : Bool)
    → IsFinderOf points before.memory s → words ≡ s.words.items → changed ≡ list_any (has_changed w.memory) words
    → changed ≡ true → changed ≡ any_stops before w next points
stop_changed before w next points s words changed looks same is does =
    let seen = is ∙ ap (list_any (has_changed w.memory)) (same ∙ looks.words) in
    does
    ∙ ap (λ b. b || is_met (has_place s.breakpoints) w next) (sym does ∙ seen)
    ∙ stops_met before w next points s.breakpoints looks.breakpoints

pub stop_unchanged : (before w : World) (next : Option Step) (points : List (Option Point)) (s : StopFinder)
    (words : List WatchValue) (changed met : Bool)
    → IsFinderOf points before.memory s → words ≡ s.words.items → changed ≡ list_any (has_changed w.memory) words
    → changed ≡ false → met ≡ is_met (has_place s.breakpoints) w next → met ≡ any_stops before w next points
stop_unchanged before w next points s words changed met looks same is does e =
    let seen = is ∙ ap (list_any (has_changed w.memory)) (same ∙ looks.words) in
    e
    ∙ ap (λ b. b || is_met (has_place s.breakpoints) w next) (sym does ∙ seen)
    ∙ stops_met before w next points s.breakpoints looks.breakpoints

pub words_again : (m n : TaggedMemory) (points : List (Option Point)) (s : StopFinder) (words new : List WatchValue)
    → IsFinderOf points m s → words ≡ s.words.items → new ≡ map (seen_again n) words → new ≡ watches_of n points
words_again m n points s words new looks same is =
    is ∙ ap (map (seen_again n)) (same ∙ looks.words) ∙ watches_again m n points
