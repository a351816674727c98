-- A submission is judged by a case that speaks of what it has, as the program that the case makes of it is.
use Rattle.std.proofs.Common.{◌≡◌, ◌∙◌, ◌⊎◌, ℕ, Bool, true, false, List, inl, inr, ap, sym, subst, Result, Ok, Err, Some, None}
use Rattle.std.specs.Prelude.{IsTrue, IfOk, max}
use Rattle.image_file.specs.ImageValue.{ImageValue}
use Rattle.expectation_files.specs.Judged.{are_rules_kept}
use Rattle.expectation_files.specs.Seen.{requirements_seen}
use Rattle.expectation_files.specs.declared.requirements.Requirements.{Requirements}
use Rattle.case_cells.specs.NamedWords.{name_lacking}
use Rattle.judgements.specs.Cases.{program_by, names_by, said_by, seeds_of, SpeaksOfGivenIn}
use Rattle.judgements.specs.Known.{has_work, known_by}
use Rattle.judgements.specs.Right.{IsRightAsAsked, IsWorkDone}
use Rattle.judgements.specs.Shown.{JudgedAs, judged_as, IsShownBy, IsRunFor, IsCaseJudged, IsCaseKnown, IsReadCase}
use Rattle.judgements.specs.Shown.{IsUnjudged, IsNotGivenBy}
use Rattle.judgements.specs.Shown.{kind_without_name}
use Rattle.end_kinds.specs.Statuses.{badness}
use Rattle.judgements.specs.Statuses.{badness_of_run, status_of_kind, IsAsBadAsKind, IsStatusOfRun}
use Rattle.judgements.specs.declared.cases.Case.{Case}
use Rattle.judgements.specs.declared.cases.AskedJudging.{AskedJudging}
use Rattle.judgements.specs.declared.case_judgements.CaseJudgement.{CaseJudgement}
use Rattle.judgements.specs.declared.case_judgements.Reason.{Reason}
use Rattle.judgements.specs.declared.case_judgements.Reason.TheVariants as reason
use Rattle.judgements.specs.declared.verdict_kinds.VerdictKind.{VerdictKind}
use Rattle.judgements.specs.declared.verdict_kinds.VerdictKind.TheVariants as verdict
use Rattle.judgements.proofs.Judged.{something}

-- what is known of the program of an image
record IsKnown (asked : AskedJudging) (text : List ℕ) (case : Case) (r : Requirements) (j : CaseJudgement) (i : ImageValue)
    : Type 0 where
  given : j.kind ≡ verdict.Right → SpeaksOfGivenIn i text case case.cells r
  right : j.kind ≡ verdict.Right → IsRightAsAsked asked.explored (seeds_of asked) i r
  kept : j.kind ≡ verdict.Right → IsTrue (are_rules_kept i r.rules.items)
  work : j.kind ≡ verdict.Right → IsWorkDone i r (seeds_of asked)
  shown : IsShownBy (judged_as asked i r) j ⊎ IsNotGivenBy i text case r j
  run : IsRunFor (judged_as asked i r) asked.is_thorough (has_work r) j ⊎ IsNotGivenBy i text case r j

-- what shows it is what shows what is known by a case
shown_by : (asked : AskedJudging) (image : ImageValue) (text : List ℕ) (case : Case) (r : Requirements) (j : CaseJudgement)
    → said_by case (program_by image text case) text ≡ Ok (requirements_seen r)
    → IsShownBy (judged_as asked (program_by image text case) r) j
    ⊎ IsNotGivenBy (program_by image text case) text case r j
    → IsRunFor (judged_as asked (program_by image text case) r) asked.is_thorough (has_work r) j
    ⊎ IsNotGivenBy (program_by image text case) text case r j
    → IsReadCase asked image text case j ⊎ IsUnjudged asked image text case j
shown_by asked image text case r j said (inl shown) (inl run) =
    inl (record { required = r; said = said; shown = shown; run = run })
shown_by asked image text case r j said (inl shown) (inr other) =
    inr (inr (inr (record { required = r; said = said; given = other })))
shown_by asked image text case r j said (inr other) run =
    inr (inr (inr (record { required = r; said = said; given = other })))

by_program : (asked : AskedJudging) (image : ImageValue) (text : List ℕ) (case : Case) (r : Requirements)
    (j : CaseJudgement) → said_by case (program_by image text case) text ≡ Ok (requirements_seen r)
    → IsKnown asked text case r j (program_by image text case) → IsCaseKnown asked image text case j
by_program asked image text case r j said known = record {
  right = λ yes. record {
    required = r;
    said = said;
    given = known.given yes;
    judged = record {
      some =
          something (names_by case text) (program_by image text case) case.expected.items (requirements_seen r) said;
      kept = known.kept yes;
    };
    right = known.right yes;
    work = known.work yes;
  };
  shown = shown_by asked image text case r j said known.shown known.run;
}

pub read_case : {E : Type 0} (asked : AskedJudging) (image : ImageValue) (text : List ℕ) (case : Case) (i : ImageValue)
    (r : Requirements) (result : Result CaseJudgement E) → i ≡ program_by image text case
    → said_by case i text ≡ Ok (requirements_seen r)
    → IfOk result (λ (j : CaseJudgement). j.kind ≡ verdict.Right → SpeaksOfGivenIn i text case case.cells r)
    → IfOk result (λ (j : CaseJudgement). j.kind ≡ verdict.Right → IsRightAsAsked asked.explored (seeds_of asked) i r)
    → IfOk result (λ (j : CaseJudgement). j.kind ≡ verdict.Right → IsTrue (are_rules_kept i r.rules.items))
    → IfOk result (λ (j : CaseJudgement). j.kind ≡ verdict.Right → IsWorkDone i r (seeds_of asked))
    → IfOk result (λ (j : CaseJudgement). IsShownBy (judged_as asked i r) j ⊎ IsNotGivenBy i text case r j)
    → IfOk result (λ (j : CaseJudgement). IsRunFor (judged_as asked i r) asked.is_thorough (has_work r) j
    ⊎ IsNotGivenBy i text case r j)
    → IfOk result (λ (j : CaseJudgement). IsCaseKnown asked image text case j)
read_case asked image text case i r (Err e) same said given right kept work shown run = tt
read_case asked image text case i r (Ok j) same said given right kept work shown run =
    by_program asked image text case r j (subst (λ i. said_by case i text ≡ Ok (requirements_seen r)) same said)
    (subst (λ i. IsKnown asked text case r j i) same
    (record { given = given; right = right; kept = kept; work = work; shown = shown; run = run }))

no_right : (needed : Bool) → kind_without_name needed ≡ verdict.Right → ⊥
no_right true e = cc
no_right false e = cc

-- a submission that lacks the words of a name is not judged, and is not right
pub without_name : (asked : AskedJudging) (image : ImageValue) (text : List ℕ) (case : Case) (name : ℕ) (j : CaseJudgement)
    → name_lacking asked.needs_names case.given.items text ≡ Some name → j.reason ≡ reason.Lacking name
    → j.kind ≡ kind_without_name asked.needs_names → j.known ≡ known_by None None → IsCaseKnown asked image text case j
without_name asked image text case name j lacks why kind unrun = record {
  right = λ yes. absurd (no_right asked.needs_names (sym kind ∙ yes));
  shown = inr (inr (inl (record { name = name; reason = why; first = lacks; kind = kind; unrun = unrun })));
}

-- what shows a verdict shows that of a judgement which has the same kind, reason and ends
pub shown_alike : (p : JudgedAs) (j k : CaseJudgement) → k.kind ≡ j.kind → k.reason ≡ j.reason → k.ends ≡ j.ends
    → IsShownBy p j → IsShownBy p k
shown_alike p j k kind why ends shown = rw (kind, why, ends) shown

run_alike : (p : JudgedAs) (thorough works : Bool) (j k : CaseJudgement) → k.kind ≡ j.kind → k.known ≡ j.known
    → k.reason ≡ j.reason → k.ends ≡ j.ends → IsRunFor p thorough works j → IsRunFor p thorough works k
run_alike p thorough works j k kind known why ends run = rw (kind, known, why, ends) run

unjudged_alike : (asked : AskedJudging) (image : ImageValue) (text : List ℕ) (case : Case) (j k : CaseJudgement)
    → k.kind ≡ j.kind → k.known ≡ j.known → k.reason ≡ j.reason → IsUnjudged asked image text case j
    → IsUnjudged asked image text case k
unjudged_alike asked image text case j k kind known why (inl absent) = inl (record {
  number = absent.number;
  fault = absent.fault;
  reason = why ∙ absent.reason;
  said = absent.said;
  of_program = absent.of_program;
  kind = kind ∙ absent.kind;
  unrun = known ∙ absent.unrun;
})
unjudged_alike asked image text case j k kind known why (inr (inl lacking)) = inr (inl (record {
  name = lacking.name;
  reason = why ∙ lacking.reason;
  first = lacking.first;
  kind = kind ∙ lacking.kind;
  unrun = known ∙ lacking.unrun;
}))
unjudged_alike asked image text case j k kind known why (inr (inr lines)) = inr (inr (record {
  required = lines.required;
  said = lines.said;
  given = record {
    number = lines.given.number;
    reason = why ∙ lines.given.reason;
    kind = kind ∙ lines.given.kind;
    unrun = known ∙ lines.given.unrun;
    other = lines.given.other;
  };
}))

known_alike : (asked : AskedJudging) (image : ImageValue) (text : List ℕ) (case : Case) (j k : CaseJudgement)
    → k.kind ≡ j.kind → k.known ≡ j.known → k.reason ≡ j.reason → k.ends ≡ j.ends
    → IsReadCase asked image text case j ⊎ IsUnjudged asked image text case j
    → IsReadCase asked image text case k ⊎ IsUnjudged asked image text case k
known_alike asked image text case j k kind known why ends (inl read) = inl (record {
  required = read.required;
  said = read.said;
  shown =
      shown_alike (judged_as asked (program_by image text case) read.required) j k kind why ends read.shown;
  run =
      run_alike (judged_as asked (program_by image text case) read.required) asked.is_thorough (has_work read.required) j k
      kind known why ends read.run;
})
known_alike asked image text case j k kind known why ends (inr unjudged) =
    inr (unjudged_alike asked image text case j k kind known why unjudged)

-- so what is known by a case is judged, with a status as bad as the verdict
pub with_status : (asked : AskedJudging) (image : ImageValue) (text : List ℕ) (case : Case) (j k : CaseJudgement)
    → IsCaseKnown asked image text case j → k.kind ≡ j.kind → k.known ≡ j.known → k.reason ≡ j.reason → k.ends ≡ j.ends
    → IsAsBadAsKind k → badness k.status ≡ max (badness (status_of_kind j.kind)) (badness j.status)
    → IsStatusOfRun asked j → IsCaseJudged asked image text case k
with_status asked image text case j k known kind looked why ends status worse run = record {
  known = record {
    right = λ yes. known.right (sym kind ∙ yes);
    shown = known_alike asked image text case j k kind looked why ends known.shown;
  };
  status = status;
  exact = λ unsearched uncounted.
      worse ∙ ap (λ n. max (badness (status_of_kind j.kind)) n) (run unsearched uncounted)
      ∙ ap (λ (r : Reason). max (badness (status_of_kind j.kind)) (badness_of_run r)) (sym why)
      ∙ ap (λ (v : VerdictKind). max (badness (status_of_kind v)) (badness_of_run k.reason)) (sym kind);
}
