use Rattle.std.proofs.Common.{◌≡◌, ◌∙◌, ap, sym, subst, refl, inr, Option, Some, None, List}
use Rattle.std.specs.Prelude.{IfSome, IfNone}
use Rattle.program_searches.specs.Statuses.{unkept_in}
use Rattle.program_searches.specs.declared.unkept.Unkept.{Unkept}
use Rattle.seed_outcomes.specs.SpaceEndsTypes.SpaceEnd.{SpaceEnd}
use Rattle.judgements.specs.Flaws.{ShowNothing, IsWorstFlaw}
use Rattle.judgements.specs.Shown.{JudgedAs, IsFound, IsLeftOpen}
use Rattle.judgements.proofs.Shown.{is_complete, is_unshown}
use Rattle.judgements.proofs.WhatEvades.{evaded}
use Rattle.judgements.proofs.WhoStarves.{starved}
use Rattle.judgements.proofs.by_schedules.decided_by.Goals as goal

-- what is known of something that may be there, where it is, and where it is not
at_some : {A : Type 0} (P : A → Type 0) (found : Option A) (x : A) → found ≡ Some x → IfSome found P → P x
at_some P found x is so = rw is at so

at_none : {A : Type 0} (P : Type 0) (found : Option A) → found ≡ None → IfNone found P → P
at_none P found is so = rw is at so

left_open : (c : goal.Else-found) (p : JudgedAs) → IsFound p.limits p.image p.required c.args.found.now
    → IsLeftOpen p.limits p.image p.required
left_open c p search = record {
  found = c.args.found.now;
  search = search;
  flawless = subst ShowNothing c.deref.ensures.value c.in_default.ensures;
  shown = ap (λ (u : Unkept). u.unshown) (sym c.unkept.ensures) ∙ c.in_default-unshown.is;
  unstarved = at_none _ c.in_ok-starved.starved c.in_default-starved.is c.in_ok-starved.ensures.none;
  unevaded = at_none _ c.in_ok-evaded.evaded c.in_default-evaded.is c.in_ok-evaded.ensures.none;
  not_right = c.if-found.false;
}

pub returns-in-Some-clause-shown : goal.returns-in-Some-clause-shown
returns-in-Some-clause-shown c = λ p search. record {
  found = c.args.found.now;
  search = search;
  listed = refl;
  flaw = c.in-Some.flawed.flaw;
  first =
      subst (λ (ends : List SpaceEnd). IsWorstFlaw ends c.in-Some.flawed.flaw c.in-Some.flawed.end) c.deref.ensures.value
      c.in-Some.ensures;
  verdict = c.kind.ensures;
}

pub returns-in-Some-unshown-clause-shown : goal.returns-in-Some-unshown-clause-shown
returns-in-Some-unshown-clause-shown c = λ p search.
    let found = c.args.found.now in
    let claim = c.in-Some-unshown.claim in
    let is : (unkept_in found).unshown ≡ Some claim =
    ap (λ (u : Unkept). u.unshown) (sym c.unkept.ensures) ∙ c.in-Some-unshown.is in
    record {
      found = found;
      search = search;
      complete = is_complete found.is_complete found.unshown claim is;
      unshown = is_unshown found.is_complete found.unshown claim is;
      verdict = refl;
    }

pub returns-in-Some-starved-clause-shown : goal.returns-in-Some-starved-clause-shown
returns-in-Some-starved-clause-shown c = λ p search.
    starved p.limits p.image p.required c.args.found.now c.in-Some-starved.starving search
    (at_some _ c.in_ok-starved.starved c.in-Some-starved.starving c.in-Some-starved.is c.in_ok-starved.ensures.first)

pub returns-in-Some-starved-clause-decided : goal.returns-in-Some-starved-clause-decided
returns-in-Some-starved-clause-decided c =
    at_some _ c.in_ok-starved.starved c.in-Some-starved.starving c.in-Some-starved.is c.in_ok-starved.ensures.first

pub returns-in-Some-evaded-clause-shown : goal.returns-in-Some-evaded-clause-shown
returns-in-Some-evaded-clause-shown c = λ p search.
    evaded p.limits p.image p.required c.args.found.now c.in-Some-evaded.evasion search
    (at_some _ c.in_ok-evaded.evaded c.in-Some-evaded.evasion c.in-Some-evaded.is c.in_ok-evaded.ensures.first)

pub returns-in-Some-evaded-clause-decided : goal.returns-in-Some-evaded-clause-decided
returns-in-Some-evaded-clause-decided c =
    at_some _ c.in_ok-evaded.evaded c.in-Some-evaded.evasion c.in-Some-evaded.is c.in_ok-evaded.ensures.first

pub returns-clause-shown : goal.returns-clause-shown
returns-clause-shown c = λ p search. inr (refl, left_open c p search)

pub returns-clause-left : goal.returns-clause-left
returns-clause-left c = λ p search kind. left_open c p search

pub returns-in-Some-unshown-clause-decided : goal.returns-in-Some-unshown-clause-decided
returns-in-Some-unshown-clause-decided c =
    let found = c.args.found.now in
    let claim = c.in-Some-unshown.claim in
    is_complete found.is_complete found.unshown claim
    (ap (λ (u : Unkept). u.unshown) (sym c.unkept.ensures) ∙ c.in-Some-unshown.is)

pub returns-clause-decided : goal.returns-clause-decided
returns-clause-decided c = λ right. absurd cc
