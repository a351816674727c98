-- That no schedule to an end is shorter than its own.
use Rattle.std.specs.Prelude.{IsTrue, Contains, nat_le, slice_index_or, ◌==◌}
use Rattle.std.proofs.Common.{◌≡◌, ℕ, ◌<◌, ◌≤◌, Bool, true, false, ◌&&◌, ◌||◌, List, ◌++◌, length, ◌⊎◌, inl, inr, refl, sym, ◌∙◌, subst, arith}
use Rattle.std.proofs.Common.{length-append}
use Rattle.std.proofs.lemmas.Bool.{leb-true, eqb-true}
use Rattle.std.proofs.lemmas.List.Elements.{All-contains}
use Rattle.image_file.specs.ImageValue.{ImageValue}
use Rattle.processor.specs.World.{run}
use Rattle.processor.specs.declared.steps.Step.{Step}
use Rattle.space_ends.specs.ScheduleSpace.Spaces.{count, schedule_of, world_of}
use Rattle.space_ends.specs.ScheduleSpace.Reaching.{IsEnd}
use Rattle.space_ends.proofs.ScheduleSpace.Agreeing.{agree_same}
use Rattle.space_ends.specs.EndsOfSpace.{ListedEnd, ends_in, IsListedEnd, IsShortestShown}
use Rattle.space_ends.specs.declared.end_values.SpaceEndKind.{SpaceEndKind}
use Rattle.space_ends.specs.declared.end_values.SpaceEndKind.TheVariants as space
use Rattle.program_searches.specs.declared.explored.Explored.{Explored}
use Rattle.program_searches.specs.declared.searches.ProgramSearch.{ProgramSearch}
use Rattle.program_searches.specs.Searches.{IsExplored}
use Rattle.program_searches.specs.Shortest.{is_last, is_shortest_by_ends, is_shortest_of, IsEndAt, IsLeast, IsLeastForAll}

either : (a b : Bool) → (a || b) ≡ true → (a ≡ true) ⊎ (b ≡ true)
either true b is = inl refl
either false b is = inr is

both : (a b : Bool) → (a && b) ≡ true → (a ≡ true) × (b ≡ true)
both true b is = (refl, is)
both false b is = cc

-- a search, and so many steps, no more than its space gives for the world at a place
module _ (image : ImageValue) (asked : ProgramSearch) (e : Explored) (steps place : ℕ) (x : IsExplored image asked e)
    (below : place < count e.space) (few : steps ≤ length (schedule_of e.space place)) (ts : List Step)
    (leads : run e.space.image (e.space.begin ++ ts) ≡ world_of e.space place) where
  abbrev pub IsShort : Type 0
  IsShort = steps ≤ length (e.space.begin ++ ts)

  of_all : e.is_of_all_worlds ≡ true → IsShort
  of_all on = omega (arith, x.searched.shortest (sym x.all_worlds ∙ on) place below ts leads, few)

  of_begin : nat_le steps (length e.space.begin) ≡ true → IsShort
  of_begin early = omega (arith, leb-true _ _ early, length-append e.space.begin ts)

  of_end : IsEnd e.space.image (world_of e.space place) → e.is_complete ≡ true → IsShort
  of_end ends on = by_all e.is_of_all_worlds refl where
    by_all : (t : Bool) → e.is_of_all_worlds ≡ t → IsShort
    by_all true all = of_all all
    by_all false not_all =
        let least =
        (x.searched.needed (x.bound.1 on) (sym x.all_worlds ∙ not_all)).shortest place below ends ts
        (agree_same e.space.live _ _ (sym leads)) in
        omega (arith, least, few)

  by_kind : (k : SpaceEndKind) → IsEndAt e.space k place
      → is_shortest_by_ends k e.is_complete (nat_le steps (length e.space.begin)) ≡ true → IsShort
  by_kind (space.End k) ends is = of_end (ends (both (is_last k) e.is_complete is).0) (both (is_last k) e.is_complete is).1
  by_kind (space.Broken c) ends is = of_begin is
  by_kind space.Busy ends is = of_begin is

  of_nothing : (steps == 0) ≡ true → IsShort
  of_nothing none = omega (arith, eqb-true _ _ none)

  short : (k : SpaceEndKind) → IsEndAt e.space k place → is_shortest_of e k steps ≡ true → IsShort
  short k ends is =
      elim (either _ _ is) [
        | inl known ↦ elim (either _ _ known) [
          | inl all ↦ of_all all
          | inr found ↦ by_kind k ends found
        ]
        | inr none ↦ of_nothing none
      ]

pub none_is_shorter : (image : ImageValue) (asked : ProgramSearch) (e : Explored) (kind : SpaceEndKind) (steps place : ℕ)
    → IsExplored image asked e → IsTrue (is_shortest_of e kind steps) → place < count e.space
    → IsEndAt e.space kind place → steps ≤ length (schedule_of e.space place) → IsLeast e.space steps place
none_is_shorter image asked e kind steps place x is below ends few ts leads =
    short image asked e steps place x below few ts leads kind ends is

-- a listed end has ends alone, and shows the shortest schedule of all its places
pub none_is_shorter_listed : (image : ImageValue) (asked : ProgramSearch) (e : Explored) (l : ListedEnd)
    → IsExplored image asked e → Contains (ends_in e.ends.items) l
    → IsTrue (is_shortest_of e l.kind (length l.schedule)) → IsLeastForAll e.space l
none_is_shorter_listed image asked e l x has is j d there =
    let expected = asked.required.now.ends.items in
    let listed = All-contains (IsListedEnd e.space expected (count e.space)) (ends_in e.ends.items) l x.ends.each has in
    let shown = All-contains (IsShortestShown e.space) (ends_in e.ends.items) l x.ends.shortest has in
    let place = slice_index_or l.places j d in
    none_is_shorter image asked e l.kind (length l.schedule) place x is (listed.within j d there)
    (subst (λ k. IsEndAt e.space k place) (sym listed.of_kind) (λ _. (listed.each j d there).ends)) (shown j d there)
