-- those so far have no run
use Rattle.judgements.proofs.WhatEvades.{IsLeft}
use Rattle.judgements.proofs.evaded.first_of.Given as goal

abbrev pub invariant-loop-place : goal.invariant-loop-place
invariant-loop-place l = IsLeft l.answers l.place
