use Rattle.std.proofs.Common.{◌≡◌, ap, subst, List, [], Some}
use Rattle.std.specs.Prelude.{IsSome, is_some}
use Rattle.image_file.specs.ImageValue.{ImageValue}
use Rattle.processor.specs.declared.steps.Step.{Step}
use Rattle.lab_requests.specs.declared.requests.Bounds.{Bounds}
use Rattle.expectation_files.specs.declared.requirements.Requirements.{Requirements}
use Rattle.program_searches.specs.Searches.{IsExplored}
use Rattle.program_searches.specs.RunAnswers.Kept.{AllKept}
use Rattle.program_searches.specs.StarvingStreams.Starving.{NobodyWaits}
use Rattle.program_searches.specs.declared.explored.Explored.{Explored}
use Rattle.program_searches.specs.declared.searches.ProgramSearch.{ProgramSearch}
use Rattle.seed_outcomes.specs.ScheduleVerdicts.ShownClaims.{IsRightThroughout}
use Rattle.judgements.specs.Shown.{IsFound, judged_within, limits_of}
use Rattle.judgements.proofs.by_schedules.searched.Goals as goal

found_within : (bounds : Bounds) (image : ImageValue) (required : Requirements) (search : ProgramSearch) (found : Explored)
    → search.required.now ≡ required → search.begin.now ≡ [] → search.bounds ≡ bounds → IsExplored image search found
    → IsFound (limits_of (Some bounds)) image required found
found_within bounds image required search found asked begin within explored = record {
  search = search;
  asked = asked;
  begin = begin;
  worlds = ap (λ (b : Bounds). b.worlds) within;
  seconds = ap (λ (b : Bounds). b.seconds) within;
  explored = explored;
}

pub returns-clause-right : goal.returns-clause-right
returns-clause-right g c = λ kind.
    let image = c.args.judged.image.now in
    let search = c.search_of-search.result in
    let required = c.search_of-search.ensures.required in
    let begin = c.search_of-search.ensures.begin in
    let is = c.in_ok-judgement.ensures.right kind in
    let so = c.in_ok-found.ensures.right.0 is in
    record {
      right =
          subst (λ (r : Requirements). IsRightThroughout image [] r.ends.items r.claims.items (is_some r.never_busy)) required
          (subst (λ (ts : List Step). IsRightThroughout image ts search.required.now.ends.items
          search.required.now.claims.items (is_some search.required.now.never_busy)) begin so.2);
      unstarved =
          subst (λ (r : Requirements). IsSome r.never_starved → NobodyWaits image [] r.rests.items) required
          (subst (λ (ts : List Step). IsSome search.required.now.never_starved → NobodyWaits image ts search.required.now.rests.items) begin
          (c.in_ok-found.ensures.unstarved is));
      kept =
          subst (λ (r : Requirements). AllKept image [] r.rests.items r.run_conditions.items) required
          (subst (λ (ts : List Step). AllKept image ts search.required.now.rests.items search.required.now.run_conditions.items) begin
          (c.in_ok-found.ensures.kept is));
    }

pub returns-clause-shown : goal.returns-clause-shown
returns-clause-shown g c = λ asked.
    c.in_ok-judgement.ensures.shown
    (judged_within (Some c.args.bounds) asked c.args.judged.image.now c.args.judged.required.now)
    (found_within c.args.bounds c.args.judged.image.now c.args.judged.required.now c.search_of-search.result
    c.in_ok-found.found c.search_of-search.ensures.required c.search_of-search.ensures.begin
    c.search_of-search.ensures.bounds c.in_ok-found.ensures.explored)

pub returns-clause-left : goal.returns-clause-left
returns-clause-left g c = λ kind.
    c.in_ok-judgement.ensures.left
    (record {
      image = c.args.judged.image.now;
      required = c.args.judged.required.now;
      limits = limits_of (Some c.args.bounds);
      seeds = record { first = 0; count = 0; most = 0 };
    })
    (found_within c.args.bounds c.args.judged.image.now c.args.judged.required.now c.search_of-search.result
    c.in_ok-found.found c.search_of-search.ensures.required c.search_of-search.ensures.begin
    c.search_of-search.ensures.bounds c.in_ok-found.ensures.explored) kind

pub returns-clause-known : goal.returns-clause-known
returns-clause-known g c = record {
  found = c.in_ok-found.found;
  search =
      found_within c.args.bounds c.args.judged.image.now c.args.judged.required.now c.search_of-search.result
      c.in_ok-found.found c.search_of-search.ensures.required c.search_of-search.ensures.begin
      c.search_of-search.ensures.bounds c.in_ok-found.ensures.explored;
  by_it = c.in_ok-judgement.ensures.known;
}
