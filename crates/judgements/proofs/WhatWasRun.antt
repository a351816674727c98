-- What is known of a program is what was run, by how the verdict came to be.
use Rattle.std.proofs.Common.{◌≡◌, ◌∙◌, ◌⊎◌, ◌+◌, ◌<◌, ℕ, Bool, true, false, length, Option, Some, None, inl, inr, refl, sym, subst, ap, zero, suc, arith}
use Rattle.std.specs.Prelude.{not, ◌==◌, is_some}
use Rattle.image_file.specs.ImageValue.{ImageValue}
use Rattle.expectation_files.specs.declared.requirements.Requirements.{Requirements}
use Rattle.program_searches.specs.declared.explored.Explored.{Explored}
use Rattle.seed_outcomes.specs.SeedVerdictsTypes.Seeds.{Seeds}
use Rattle.seed_work.specs.SeedWork.{IsWorkJudged}
use Rattle.seed_work.specs.declared.missed_work.MissedWork.{MissedWork}
use Rattle.judgements.specs.Known.{known_by, is_open, is_undecided, comes_with_search, comes_with_seeds}
use Rattle.judgements.specs.Known.{AreSeedsKnown, has_work, is_by_all_runs, IsKnownBySearch}
use Rattle.judgements.specs.Known.{IsKnownByRuns}
use Rattle.judgements.specs.Known.IsKnownByRuns.{by_one, by_all}
use Rattle.judgements.specs.Shown.{JudgedAs, IsFound, IsSearchKnown, IsRunFor, begins_with_seeds}
use Rattle.judgements.specs.declared.case_judgements.CaseJudgement.{CaseJudgement}
use Rattle.judgements.specs.declared.case_judgements.Reason.TheVariants as reason
use Rattle.judgements.specs.declared.knowledge.Known.{Known}
use Rattle.judgements.specs.declared.verdict_kinds.VerdictKind.TheVariants as verdict
use Rattle.judgements.proofs.Reasons.{both_ways, no_search, search_beside, search_made, seeds_begin, seeds_before, no_seeds, seeds_after, seeds_work, all_tried, all_before, undecided}

some_work : (n : ℕ) → not (n == 0) ≡ true → 0 < n
some_work zero e = absurd cc
some_work (suc n) e = omega arith

other_seeds : (search : Option Explored) (one other : Option ℕ)
    → (record (known_by search one) { seeds = other }) ≡ known_by search other
other_seeds None one other = refl
other_seeds (Some found) one other = refl

-- A verdict by seeds where no search is asked for.
pub by_seeds_alone : (p : JudgedAs) (thorough : Bool) (j : CaseJudgement) → p.limits ≡ None
    → IsKnownByRuns p.image p.required p.seeds j → IsRunFor p thorough false j
by_seeds_alone p thorough j none (by_one run why known shut) = record {
  search = None;
  tried = Some (run.seed + 1);
  said = known;
  searched = rw none (no_search thorough j.reason);
  seeds = rw why (refl, refl);
}
by_seeds_alone p thorough j none (by_all why known wide judged) = record {
  search = None;
  tried = Some p.seeds.count;
  said = known;
  searched = rw none (no_search thorough j.reason);
  seeds =
      (rw none (seeds_begin false j.kind j.reason why), all_tried p.image p.required p.seeds j.reason why (inl judged));
}

-- The run of a seed decides before a search is made.
pub by_seeds_before : (p : JudgedAs) (j : CaseJudgement) → IsKnownByRuns p.image p.required p.seeds j
    → is_open j.kind ≡ false → IsRunFor p true false j
by_seeds_before p j (by_one run why known shut) closed = record {
  search = None;
  tried = Some (run.seed + 1);
  said = known;
  searched = rw why refl;
  seeds = rw why (refl, refl);
}
by_seeds_before p j (by_all why known wide judged) closed = both_ways (is_open j.kind) wide closed

-- A search decides, and no seed was tried.
pub by_search_alone : (p : JudgedAs) (found : Explored) (j : CaseJudgement) → is_some p.limits ≡ true
    → IsFound p.limits p.image p.required found → IsKnownBySearch found j → is_undecided j.kind ≡ false
    → IsRunFor p false false j
by_search_alone p found j some search by_it decided = record {
  search = Some found;
  tried = None;
  said = by_it.known;
  searched = (rw some (search_made false j.reason by_it.reason), search, by_it.decided);
  seeds = rw some (no_seeds j.kind j.reason by_it.reason decided);
}

-- It decides after the seeds, of which the run of each is right: the judgement is that of the search, with their number.
pub by_search_after : (p : JudgedAs) (found : Explored) (s k j : CaseJudgement) → is_some p.limits ≡ true
    → IsFound p.limits p.image p.required found → IsKnownBySearch found k → IsKnownByRuns p.image p.required p.seeds s
    → is_open s.kind ≡ true → j.known ≡ record k.known { seeds = s.known.seeds } → j.kind ≡ k.kind
    → j.reason ≡ k.reason → j.ends ≡ k.ends → IsRunFor p true false j
by_search_after p found s k j some search by_it (by_one run why known shut) wide is kind reason ends =
    both_ways (is_open s.kind) wide shut
by_search_after p found s k j some search by_it (by_all why known left judged) wide is kind reason ends = record {
  search = Some found;
  tried = Some p.seeds.count;
  said =
      is ∙ ap (λ (x : Known). record x { seeds = s.known.seeds }) by_it.known
      ∙ ap (λ (x : Known). known_by (Some found) x.seeds) known;
  searched = (rw (some, reason) (search_made true k.reason by_it.reason), search, rw (kind, reason, ends) by_it.decided);
  seeds = rw (some, kind, reason)
      (seeds_before false k.kind k.reason by_it.reason, all_before p.image p.required p.seeds k.reason by_it.reason (inl judged));
}

-- It does not decide: the judgement is that of the seeds, with the states of the search, and not decided where they leave it
-- open as well.
pub by_both : (p : JudgedAs) (thorough : Bool) (found : Explored) (s k j : CaseJudgement) → is_some p.limits ≡ true
    → IsFound p.limits p.image p.required found → IsKnownBySearch found k → IsKnownByRuns p.image p.required p.seeds s
    → (thorough ≡ true → is_open s.kind ≡ true) → j.known ≡ record k.known { seeds = s.known.seeds }
    → (is_open s.kind ≡ false → j.reason ≡ s.reason)
    → (is_open s.kind ≡ true → (j.kind ≡ verdict.NotDecided) × ((j.reason ≡ reason.Looked) ⊎ (j.reason ≡ s.reason)))
    → IsRunFor p thorough false j
by_both p true found s k j some search by_it (by_one run why known shut) begun is kept left =
    both_ways (is_open s.kind) (begun refl) shut
by_both p false found s k j some search by_it (by_one run why known shut) begun is kept left =
    let one : j.reason ≡ reason.Run run = kept shut ∙ why in
    record {
      search = Some found;
      tried = Some (run.seed + 1);
      said =
          is ∙ ap (λ (x : Known). record x { seeds = s.known.seeds }) by_it.known
          ∙ ap (λ (x : Known). known_by (Some found) x.seeds) known;
      searched = rw (one, some) (refl, search, tt);
      seeds = rw one (refl, refl);
    }
by_both p thorough found s k j some search by_it (by_all why known wide judged) begun is kept left = record {
  search = Some found;
  tried = Some p.seeds.count;
  said =
      is ∙ ap (λ (x : Known). record x { seeds = s.known.seeds }) by_it.known
      ∙ ap (λ (x : Known). known_by (Some found) x.seeds) known;
  searched =
      (search_beside (is_some p.limits) thorough j.reason all ∙ some, search, rw kind (undecided found j.ends.items j.reason all));
  seeds = (
    rw kind (seeds_after (begins_with_seeds p thorough) false j.reason all),
    all_tried p.image p.required p.seeds j.reason all (inl judged),
  );
}
  where
    kind : j.kind ≡ verdict.NotDecided
    kind = (left wide).0

    all : is_by_all_runs j.reason ≡ true
    all = elim (left wide).1 [
      | inl looked ↦ ap is_by_all_runs looked
      | inr same ↦ ap is_by_all_runs same ∙ why
    ]

-- The run of a seed does not meet a line about who does the work, of a program that is left open.
pub by_work : (p : JudgedAs) (thorough works : Bool) (g j : CaseJudgement) (missed : MissedWork)
    → IsRunFor p thorough false g → is_by_all_runs g.reason ≡ true → j.reason ≡ reason.Work missed
    → j.known ≡ record g.known { seeds = Some (missed.seed + 1) } → IsRunFor p thorough works j
by_work p thorough works g j missed run all why is = record {
  search = run.search;
  tried = Some (missed.seed + 1);
  said =
      is ∙ ap (λ (x : Known). record x { seeds = Some (missed.seed + 1) }) run.said
      ∙ other_seeds run.search run.tried (Some (missed.seed + 1));
  searched = rw why (searched run.search run.searched);
  seeds = rw why (refl, refl);
}
  where
    same : comes_with_search (is_some p.limits) thorough g.reason ≡ is_some p.limits
    same = search_beside (is_some p.limits) thorough g.reason all

    searched : (search : Option Explored)
        → IsSearchKnown (comes_with_search (is_some p.limits) thorough g.reason) p g.ends.items g.kind g.reason search
        → IsSearchKnown (is_some p.limits) p j.ends.items j.kind (reason.Work missed) search
    searched None none = sym same ∙ none
    searched (Some found) made = (sym same ∙ made.0, made.1, tt)

-- The run of each meets them.
pub by_all_work : (p : JudgedAs) (thorough : Bool) (g j : CaseJudgement) → IsRunFor p thorough false g
    → is_by_all_runs g.reason ≡ true → has_work p.required ≡ true
    → IsWorkJudged p.image p.required.work.items p.seeds None → j.known ≡ record g.known { seeds = Some p.seeds.count }
    → j.kind ≡ g.kind → j.reason ≡ g.reason → j.ends ≡ g.ends → IsRunFor p thorough (has_work p.required) j
by_all_work p thorough g j run all some work is kind reason ends = record {
  search = run.search;
  tried = Some p.seeds.count;
  said =
      is ∙ ap (λ (x : Known). record x { seeds = Some p.seeds.count }) run.said
      ∙ other_seeds run.search run.tried (Some p.seeds.count);
  searched = rw (kind, reason, ends) run.searched;
  seeds = rw (kind, reason, some) (
    seeds_work (begins_with_seeds p thorough) g.kind g.reason all,
    all_tried p.image p.required p.seeds g.reason all (inr (some_work (length p.required.work.items) some, work)),
  );
}

-- Who does the work is not looked at where the verdict is not left open, or no line asks for it.
pub without_work : (p : JudgedAs) (thorough works : Bool) (j : CaseJudgement) → IsRunFor p thorough false j
    → ((first : Bool) → comes_with_seeds first false j.kind j.reason ≡ comes_with_seeds first works j.kind j.reason)
    → IsRunFor p thorough works j
without_work p thorough works j run same = record {
  search = run.search;
  tried = run.tried;
  said = run.said;
  searched = run.searched;
  seeds =
      subst (λ b. AreSeedsKnown b p.image p.required p.seeds j.reason run.tried) (same (begins_with_seeds p thorough))
      run.seeds;
}

-- A program that breaks a rule does not run.
pub by_rule : (p : JudgedAs) (thorough works : Bool) (j : CaseJudgement) (rule : ℕ) → j.reason ≡ reason.Rule rule
    → j.known ≡ known_by None None → IsRunFor p thorough works j
by_rule p thorough works j rule why unrun =
    record { search = None; tried = None; said = unrun; searched = rw why refl; seeds = rw why refl }

-- What is known by runs is so of a judgement that differs in its status and its outcomes alone.
pub runs_alike : (image : ImageValue) (required : Requirements) (seeds : Seeds) (s j : CaseJudgement) → j.kind ≡ s.kind
    → j.known ≡ s.known → j.reason ≡ s.reason → IsKnownByRuns image required seeds s
    → IsKnownByRuns image required seeds j
runs_alike image required seeds s j kind known why (by_one run one tried shut) =
    by_one run (why ∙ one) (known ∙ tried) (ap is_open kind ∙ shut)
runs_alike image required seeds s j kind known why (by_all all tried wide judged) =
    by_all (ap is_by_all_runs why ∙ all) (known ∙ tried) (ap is_open kind ∙ wide) judged
