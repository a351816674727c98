-- What follows from the reason of a verdict alone, reason by reason.
use Rattle.std.proofs.Common.{◌≡◌, ◌∙◌, Bool, true, false, List, refl, sym}
use Rattle.std.specs.Prelude.{IsTrue, IsFalse, ◌||◌}
use Rattle.image_file.specs.ImageValue.{ImageValue}
use Rattle.expectation_files.specs.declared.requirements.Requirements.{Requirements}
use Rattle.program_searches.specs.declared.explored.Explored.{Explored}
use Rattle.seed_outcomes.specs.SeedVerdictsTypes.Seeds.{Seeds}
use Rattle.seed_outcomes.specs.SpaceEndsTypes.SpaceEnd.{SpaceEnd}
use Rattle.judgements.specs.Known.{is_undecided, comes_with_search, comes_with_seeds, HasDecided}
use Rattle.judgements.specs.Known.{AreAllRun, AreTried, is_by_all_runs, is_by_search}
use Rattle.judgements.specs.declared.case_judgements.Reason.{Reason}
use Rattle.judgements.specs.declared.case_judgements.Reason.TheVariants as reason
use Rattle.judgements.specs.declared.verdict_kinds.VerdictKind.{VerdictKind}
use Rattle.judgements.specs.declared.verdict_kinds.VerdictKind.TheVariants as verdict

pub both_ways : {A : Type 0} (b : Bool) → b ≡ true → b ≡ false → A
both_ways b one other = let e : true ≡ false = sym one ∙ other in absurd cc

pub or_true : (b : Bool) → b || true ≡ true
or_true true = refl
or_true false = refl

-- where no search is asked for, none comes with a verdict
pub no_search : (thorough : Bool) (why : Reason) → IsFalse (comes_with_search false thorough why)
no_search true (reason.Run run) = refl
no_search false (reason.Run run) = refl
no_search thorough reason.Looked = refl
no_search thorough (reason.End place) = refl
no_search thorough (reason.NoSchedule claim) = refl
no_search thorough (reason.Starved x) = refl
no_search thorough (reason.Evaded v) = refl
no_search thorough (reason.NoRun claim) = refl
no_search thorough reason.NoRunCan = refl
no_search thorough reason.OpenWaits = refl
no_search thorough reason.OpenConditions = refl
no_search thorough (reason.Rule rule) = refl
no_search thorough (reason.Work missed) = refl
no_search thorough (reason.Absent number fault) = refl
no_search thorough (reason.Lacking name) = refl
no_search thorough (reason.NotGiven number) = refl

-- one comes with what all runs leave open
pub search_beside : (searches thorough : Bool) (why : Reason) → is_by_all_runs why ≡ true
    → comes_with_search searches thorough why ≡ searches
search_beside searches thorough reason.Looked e = refl
search_beside searches thorough (reason.Run run) e = absurd cc
search_beside searches thorough (reason.End place) e = absurd cc
search_beside searches thorough (reason.NoSchedule claim) e = absurd cc
search_beside searches thorough (reason.Starved x) e = absurd cc
search_beside searches thorough (reason.Evaded v) e = absurd cc
search_beside searches thorough (reason.NoRun claim) e = refl
search_beside searches thorough reason.NoRunCan e = refl
search_beside searches thorough reason.OpenWaits e = refl
search_beside searches thorough reason.OpenConditions e = refl
search_beside searches thorough (reason.Rule rule) e = absurd cc
search_beside searches thorough (reason.Work missed) e = absurd cc
search_beside searches thorough (reason.Absent number fault) e = absurd cc
search_beside searches thorough (reason.Lacking name) e = absurd cc
search_beside searches thorough (reason.NotGiven number) e = absurd cc

-- and with what it decides itself
pub search_made : (thorough : Bool) (why : Reason) → is_by_search why ≡ true → IsTrue (comes_with_search true thorough why)
search_made thorough reason.Looked e = refl
search_made thorough (reason.Run run) e = absurd cc
search_made thorough (reason.End place) e = refl
search_made thorough (reason.NoSchedule claim) e = refl
search_made thorough (reason.Starved x) e = refl
search_made thorough (reason.Evaded v) e = refl
search_made thorough (reason.NoRun claim) e = absurd cc
search_made thorough reason.NoRunCan e = absurd cc
search_made thorough reason.OpenWaits e = absurd cc
search_made thorough reason.OpenConditions e = absurd cc
search_made thorough (reason.Rule rule) e = absurd cc
search_made thorough (reason.Work missed) e = absurd cc
search_made thorough (reason.Absent number fault) e = absurd cc
search_made thorough (reason.Lacking name) e = absurd cc
search_made thorough (reason.NotGiven number) e = absurd cc

-- where seeds begin, they come with what all runs leave open
pub seeds_begin : (works : Bool) (kind : VerdictKind) (why : Reason) → is_by_all_runs why ≡ true
    → IsTrue (comes_with_seeds true works kind why)
seeds_begin works kind reason.Looked e = refl
seeds_begin works kind (reason.Run run) e = absurd cc
seeds_begin works kind (reason.End place) e = absurd cc
seeds_begin works kind (reason.NoSchedule claim) e = absurd cc
seeds_begin works kind (reason.Starved x) e = absurd cc
seeds_begin works kind (reason.Evaded v) e = absurd cc
seeds_begin works kind (reason.NoRun claim) e = refl
seeds_begin works kind reason.NoRunCan e = refl
seeds_begin works kind reason.OpenWaits e = refl
seeds_begin works kind reason.OpenConditions e = refl
seeds_begin works kind (reason.Rule rule) e = absurd cc
seeds_begin works kind (reason.Work missed) e = absurd cc
seeds_begin works kind (reason.Absent number fault) e = absurd cc
seeds_begin works kind (reason.Lacking name) e = absurd cc
seeds_begin works kind (reason.NotGiven number) e = absurd cc

-- and with what a search decides after them
pub seeds_before : (works : Bool) (kind : VerdictKind) (why : Reason) → is_by_search why ≡ true
    → IsTrue (comes_with_seeds true works kind why)
seeds_before works kind reason.Looked e = refl
seeds_before works kind (reason.Run run) e = absurd cc
seeds_before works kind (reason.End place) e = refl
seeds_before works kind (reason.NoSchedule claim) e = refl
seeds_before works kind (reason.Starved x) e = refl
seeds_before works kind (reason.Evaded v) e = refl
seeds_before works kind (reason.NoRun claim) e = absurd cc
seeds_before works kind reason.NoRunCan e = absurd cc
seeds_before works kind reason.OpenWaits e = absurd cc
seeds_before works kind reason.OpenConditions e = absurd cc
seeds_before works kind (reason.Rule rule) e = absurd cc
seeds_before works kind (reason.Work missed) e = absurd cc
seeds_before works kind (reason.Absent number fault) e = absurd cc
seeds_before works kind (reason.Lacking name) e = absurd cc
seeds_before works kind (reason.NotGiven number) e = absurd cc

-- where a search begins and decides, no seeds come with it
pub no_seeds : (kind : VerdictKind) (why : Reason) → is_by_search why ≡ true → is_undecided kind ≡ false
    → IsFalse (comes_with_seeds false false kind why)
no_seeds kind reason.Looked e decided = rw decided refl
no_seeds kind (reason.Run run) e decided = absurd cc
no_seeds kind (reason.End place) e decided = refl
no_seeds kind (reason.NoSchedule claim) e decided = refl
no_seeds kind (reason.Starved x) e decided = refl
no_seeds kind (reason.Evaded v) e decided = refl
no_seeds kind (reason.NoRun claim) e decided = absurd cc
no_seeds kind reason.NoRunCan e decided = absurd cc
no_seeds kind reason.OpenWaits e decided = absurd cc
no_seeds kind reason.OpenConditions e decided = absurd cc
no_seeds kind (reason.Rule rule) e decided = absurd cc
no_seeds kind (reason.Work missed) e decided = absurd cc
no_seeds kind (reason.Absent number fault) e decided = absurd cc
no_seeds kind (reason.Lacking name) e decided = absurd cc
no_seeds kind (reason.NotGiven number) e decided = absurd cc

-- where it does not decide, they do
pub seeds_after : (first works : Bool) (why : Reason) → is_by_all_runs why ≡ true
    → IsTrue (comes_with_seeds first works verdict.NotDecided why)
seeds_after first works reason.Looked e = or_true first
seeds_after first works (reason.Run run) e = absurd cc
seeds_after first works (reason.End place) e = absurd cc
seeds_after first works (reason.NoSchedule claim) e = absurd cc
seeds_after first works (reason.Starved x) e = absurd cc
seeds_after first works (reason.Evaded v) e = absurd cc
seeds_after first works (reason.NoRun claim) e = refl
seeds_after first works reason.NoRunCan e = refl
seeds_after first works reason.OpenWaits e = refl
seeds_after first works reason.OpenConditions e = refl
seeds_after first works (reason.Rule rule) e = absurd cc
seeds_after first works (reason.Work missed) e = absurd cc
seeds_after first works (reason.Absent number fault) e = absurd cc
seeds_after first works (reason.Lacking name) e = absurd cc
seeds_after first works (reason.NotGiven number) e = absurd cc

-- and where they show who does the work
pub seeds_work : (first : Bool) (kind : VerdictKind) (why : Reason) → is_by_all_runs why ≡ true
    → IsTrue (comes_with_seeds first true kind why)
seeds_work first kind reason.Looked e = rw (or_true (is_undecided kind)) (or_true first)
seeds_work first kind (reason.Run run) e = absurd cc
seeds_work first kind (reason.End place) e = absurd cc
seeds_work first kind (reason.NoSchedule claim) e = absurd cc
seeds_work first kind (reason.Starved x) e = absurd cc
seeds_work first kind (reason.Evaded v) e = absurd cc
seeds_work first kind (reason.NoRun claim) e = refl
seeds_work first kind reason.NoRunCan e = refl
seeds_work first kind reason.OpenWaits e = refl
seeds_work first kind reason.OpenConditions e = refl
seeds_work first kind (reason.Rule rule) e = absurd cc
seeds_work first kind (reason.Work missed) e = absurd cc
seeds_work first kind (reason.Absent number fault) e = absurd cc
seeds_work first kind (reason.Lacking name) e = absurd cc
seeds_work first kind (reason.NotGiven number) e = absurd cc

-- all seeds were tried

pub all_tried : (image : ImageValue) (required : Requirements) (seeds : Seeds) (why : Reason) → is_by_all_runs why ≡ true
    → AreAllRun image required seeds → AreTried image required seeds why seeds.count
all_tried image required seeds reason.Looked e all = (refl, all)
all_tried image required seeds (reason.Run run) e all = absurd cc
all_tried image required seeds (reason.End place) e all = absurd cc
all_tried image required seeds (reason.NoSchedule claim) e all = absurd cc
all_tried image required seeds (reason.Starved x) e all = absurd cc
all_tried image required seeds (reason.Evaded v) e all = absurd cc
all_tried image required seeds (reason.NoRun claim) e all = (refl, all)
all_tried image required seeds reason.NoRunCan e all = (refl, all)
all_tried image required seeds reason.OpenWaits e all = (refl, all)
all_tried image required seeds reason.OpenConditions e all = (refl, all)
all_tried image required seeds (reason.Rule rule) e all = absurd cc
all_tried image required seeds (reason.Work missed) e all = absurd cc
all_tried image required seeds (reason.Absent number fault) e all = absurd cc
all_tried image required seeds (reason.Lacking name) e all = absurd cc
all_tried image required seeds (reason.NotGiven number) e all = absurd cc

pub all_before : (image : ImageValue) (required : Requirements) (seeds : Seeds) (why : Reason) → is_by_search why ≡ true
    → AreAllRun image required seeds → AreTried image required seeds why seeds.count
all_before image required seeds reason.Looked e all = (refl, all)
all_before image required seeds (reason.Run run) e all = absurd cc
all_before image required seeds (reason.End place) e all = (refl, all)
all_before image required seeds (reason.NoSchedule claim) e all = (refl, all)
all_before image required seeds (reason.Starved x) e all = (refl, all)
all_before image required seeds (reason.Evaded v) e all = (refl, all)
all_before image required seeds (reason.NoRun claim) e all = absurd cc
all_before image required seeds reason.NoRunCan e all = absurd cc
all_before image required seeds reason.OpenWaits e all = absurd cc
all_before image required seeds reason.OpenConditions e all = absurd cc
all_before image required seeds (reason.Rule rule) e all = absurd cc
all_before image required seeds (reason.Work missed) e all = absurd cc
all_before image required seeds (reason.Absent number fault) e all = absurd cc
all_before image required seeds (reason.Lacking name) e all = absurd cc
all_before image required seeds (reason.NotGiven number) e all = absurd cc

-- of a search that does not decide nothing more is asked
pub undecided : (found : Explored) (ends : List SpaceEnd) (why : Reason) → is_by_all_runs why ≡ true
    → HasDecided found ends verdict.NotDecided why
undecided found ends reason.Looked e = λ right. absurd cc
undecided found ends (reason.Run run) e = absurd cc
undecided found ends (reason.End place) e = absurd cc
undecided found ends (reason.NoSchedule claim) e = absurd cc
undecided found ends (reason.Starved x) e = absurd cc
undecided found ends (reason.Evaded v) e = absurd cc
undecided found ends (reason.NoRun claim) e = tt
undecided found ends reason.NoRunCan e = tt
undecided found ends reason.OpenWaits e = tt
undecided found ends reason.OpenConditions e = tt
undecided found ends (reason.Rule rule) e = absurd cc
undecided found ends (reason.Work missed) e = absurd cc
undecided found ends (reason.Absent number fault) e = absurd cc
undecided found ends (reason.Lacking name) e = absurd cc
undecided found ends (reason.NotGiven number) e = absurd cc
