-- What lines say, joined.
use Rattle.std.proofs.Common.{◌≡◌, ℕ, List, [], ◌∷◌, ◌++◌, Option, Some, None, Ok, Err, length, refl, ap, sym}
use Rattle.std.proofs.Common.{append_assoc, append-nil}
use Rattle.std.specs.Option.{option_or}
use Rattle.std.proofs.Math.ListN.{replicate}
use Rattle.expectations.specs.declared.expectation.Expectation.{Expectation}
use Rattle.program_rules.specs.declared.program_rule.ProgramRule.{ProgramRule}
use Rattle.work_rules.specs.declared.work_rule.WorkRule.{WorkRule}
use Rattle.expectation_files.specs.Words.{words_on, in_one_line}
use Rattle.expectation_files.specs.ClaimLines.{ClaimValue}
use Rattle.expectation_files.specs.Conditions.{ConditionValue, RestValue}
use Rattle.expectation_files.specs.Lines.{End, Claimed, OfRuns, Rests, Rules, Work, NeverBusy, NeverStarved}
use Rattle.expectation_files.specs.Files.{RequirementsValue, FileSaid, nothing_said, said_on, joined, in_front, texts_of_rules}

or_none : (o : Option ℕ) → option_or o None ≡ o
or_none None = refl
or_none (Some k) = refl

or_assoc : (a b c : Option ℕ) → option_or (option_or a b) c ≡ option_or a (option_or b c)
or_assoc None b c = refl
or_assoc (Some k) b c = refl

pub joined_nothing : (v : RequirementsValue) → joined v nothing_said ≡ v
joined_nothing v =
    rw (
      append-nil v.ends,
      append-nil v.end_numbers,
      append-nil v.end_texts,
      append-nil v.claims,
      append-nil v.claim_numbers,
      append-nil v.claim_texts,
      append-nil v.run_conditions,
      append-nil v.condition_numbers,
      append-nil v.condition_texts,
      append-nil v.rests,
      append-nil v.rules,
      append-nil v.rule_numbers,
      append-nil v.rule_texts,
      append-nil v.work,
      append-nil v.work_numbers,
      append-nil v.work_texts,
      or_none v.never_busy,
      or_none v.never_starved,
    ) refl

pub joined_end : (v : RequirementsValue) (e : Expectation) (k : ℕ) (l : List ℕ) → joined v (said_on k l (End e))
    ≡ record {
      ends = v.ends ++ e ∷ [];
      end_numbers = v.end_numbers ++ k ∷ [];
      end_texts = v.end_texts ++ in_one_line (words_on l) ∷ [];
      claims = v.claims;
      claim_numbers = v.claim_numbers;
      claim_texts = v.claim_texts;
      run_conditions = v.run_conditions;
      condition_numbers = v.condition_numbers;
      condition_texts = v.condition_texts;
      rests = v.rests;
      rules = v.rules;
      rule_numbers = v.rule_numbers;
      rule_texts = v.rule_texts;
      work = v.work;
      work_numbers = v.work_numbers;
      work_texts = v.work_texts;
      never_busy = v.never_busy;
      never_starved = v.never_starved;
    }
joined_end v e k l =
    rw (
      append-nil v.claims,
      append-nil v.claim_numbers,
      append-nil v.claim_texts,
      append-nil v.run_conditions,
      append-nil v.condition_numbers,
      append-nil v.condition_texts,
      append-nil v.rests,
      append-nil v.rules,
      append-nil v.rule_numbers,
      append-nil v.rule_texts,
      append-nil v.work,
      append-nil v.work_numbers,
      append-nil v.work_texts,
      or_none v.never_busy,
      or_none v.never_starved,
    ) refl

pub joined_claim : (v : RequirementsValue) (c : ClaimValue) (k : ℕ) (l : List ℕ) → joined v (said_on k l (Claimed c))
    ≡ record {
      ends = v.ends;
      end_numbers = v.end_numbers;
      end_texts = v.end_texts;
      claims = v.claims ++ c ∷ [];
      claim_numbers = v.claim_numbers ++ k ∷ [];
      claim_texts = v.claim_texts ++ in_one_line (words_on l) ∷ [];
      run_conditions = v.run_conditions;
      condition_numbers = v.condition_numbers;
      condition_texts = v.condition_texts;
      rests = v.rests;
      rules = v.rules;
      rule_numbers = v.rule_numbers;
      rule_texts = v.rule_texts;
      work = v.work;
      work_numbers = v.work_numbers;
      work_texts = v.work_texts;
      never_busy = v.never_busy;
      never_starved = v.never_starved;
    }
joined_claim v c k l =
    rw (
      append-nil v.ends,
      append-nil v.end_numbers,
      append-nil v.end_texts,
      append-nil v.run_conditions,
      append-nil v.condition_numbers,
      append-nil v.condition_texts,
      append-nil v.rests,
      append-nil v.rules,
      append-nil v.rule_numbers,
      append-nil v.rule_texts,
      append-nil v.work,
      append-nil v.work_numbers,
      append-nil v.work_texts,
      or_none v.never_busy,
      or_none v.never_starved,
    ) refl

pub joined_conditions : (v : RequirementsValue) (cs : List ConditionValue) (k : ℕ) (l : List ℕ) → joined v (said_on k l (OfRuns cs))
    ≡ record {
      ends = v.ends;
      end_numbers = v.end_numbers;
      end_texts = v.end_texts;
      claims = v.claims;
      claim_numbers = v.claim_numbers;
      claim_texts = v.claim_texts;
      run_conditions = v.run_conditions ++ cs;
      condition_numbers = v.condition_numbers ++ replicate (length cs) k;
      condition_texts = v.condition_texts ++ texts_of_rules (words_on l) (length cs);
      rests = v.rests;
      rules = v.rules;
      rule_numbers = v.rule_numbers;
      rule_texts = v.rule_texts;
      work = v.work;
      work_numbers = v.work_numbers;
      work_texts = v.work_texts;
      never_busy = v.never_busy;
      never_starved = v.never_starved;
    }
joined_conditions v cs k l =
    rw (
      append-nil v.ends,
      append-nil v.end_numbers,
      append-nil v.end_texts,
      append-nil v.claims,
      append-nil v.claim_numbers,
      append-nil v.claim_texts,
      append-nil v.rests,
      append-nil v.rules,
      append-nil v.rule_numbers,
      append-nil v.rule_texts,
      append-nil v.work,
      append-nil v.work_numbers,
      append-nil v.work_texts,
      or_none v.never_busy,
      or_none v.never_starved,
    ) refl

pub joined_rest : (v : RequirementsValue) (r : RestValue) (k : ℕ) (l : List ℕ) → joined v (said_on k l (Rests r))
    ≡ record {
      ends = v.ends;
      end_numbers = v.end_numbers;
      end_texts = v.end_texts;
      claims = v.claims;
      claim_numbers = v.claim_numbers;
      claim_texts = v.claim_texts;
      run_conditions = v.run_conditions;
      condition_numbers = v.condition_numbers;
      condition_texts = v.condition_texts;
      rests = v.rests ++ r ∷ [];
      rules = v.rules;
      rule_numbers = v.rule_numbers;
      rule_texts = v.rule_texts;
      work = v.work;
      work_numbers = v.work_numbers;
      work_texts = v.work_texts;
      never_busy = v.never_busy;
      never_starved = v.never_starved;
    }
joined_rest v r k l =
    rw (
      append-nil v.ends,
      append-nil v.end_numbers,
      append-nil v.end_texts,
      append-nil v.claims,
      append-nil v.claim_numbers,
      append-nil v.claim_texts,
      append-nil v.run_conditions,
      append-nil v.condition_numbers,
      append-nil v.condition_texts,
      append-nil v.rules,
      append-nil v.rule_numbers,
      append-nil v.rule_texts,
      append-nil v.work,
      append-nil v.work_numbers,
      append-nil v.work_texts,
      or_none v.never_busy,
      or_none v.never_starved,
    ) refl

pub joined_rules : (v : RequirementsValue) (rs : List ProgramRule) (k : ℕ) (l : List ℕ) → joined v (said_on k l (Rules rs))
    ≡ record {
      ends = v.ends;
      end_numbers = v.end_numbers;
      end_texts = v.end_texts;
      claims = v.claims;
      claim_numbers = v.claim_numbers;
      claim_texts = v.claim_texts;
      run_conditions = v.run_conditions;
      condition_numbers = v.condition_numbers;
      condition_texts = v.condition_texts;
      rests = v.rests;
      rules = v.rules ++ rs;
      rule_numbers = v.rule_numbers ++ replicate (length rs) k;
      rule_texts = v.rule_texts ++ texts_of_rules (words_on l) (length rs);
      work = v.work;
      work_numbers = v.work_numbers;
      work_texts = v.work_texts;
      never_busy = v.never_busy;
      never_starved = v.never_starved;
    }
joined_rules v rs k l =
    rw (
      append-nil v.ends,
      append-nil v.end_numbers,
      append-nil v.end_texts,
      append-nil v.claims,
      append-nil v.claim_numbers,
      append-nil v.claim_texts,
      append-nil v.run_conditions,
      append-nil v.condition_numbers,
      append-nil v.condition_texts,
      append-nil v.rests,
      append-nil v.work,
      append-nil v.work_numbers,
      append-nil v.work_texts,
      or_none v.never_busy,
      or_none v.never_starved,
    ) refl

pub joined_work : (v : RequirementsValue) (rs : List WorkRule) (k : ℕ) (l : List ℕ) → joined v (said_on k l (Work rs))
    ≡ record {
      ends = v.ends;
      end_numbers = v.end_numbers;
      end_texts = v.end_texts;
      claims = v.claims;
      claim_numbers = v.claim_numbers;
      claim_texts = v.claim_texts;
      run_conditions = v.run_conditions;
      condition_numbers = v.condition_numbers;
      condition_texts = v.condition_texts;
      rests = v.rests;
      rules = v.rules;
      rule_numbers = v.rule_numbers;
      rule_texts = v.rule_texts;
      work = v.work ++ rs;
      work_numbers = v.work_numbers ++ replicate (length rs) k;
      work_texts = v.work_texts ++ texts_of_rules (words_on l) (length rs);
      never_busy = v.never_busy;
      never_starved = v.never_starved;
    }
joined_work v rs k l =
    rw (
      append-nil v.ends,
      append-nil v.end_numbers,
      append-nil v.end_texts,
      append-nil v.claims,
      append-nil v.claim_numbers,
      append-nil v.claim_texts,
      append-nil v.run_conditions,
      append-nil v.condition_numbers,
      append-nil v.condition_texts,
      append-nil v.rests,
      append-nil v.rules,
      append-nil v.rule_numbers,
      append-nil v.rule_texts,
      or_none v.never_busy,
      or_none v.never_starved,
    ) refl

pub joined_busy : (v : RequirementsValue) (k : ℕ) (l : List ℕ) → joined v (said_on k l NeverBusy)
    ≡ record {
      ends = v.ends;
      end_numbers = v.end_numbers;
      end_texts = v.end_texts;
      claims = v.claims;
      claim_numbers = v.claim_numbers;
      claim_texts = v.claim_texts;
      run_conditions = v.run_conditions;
      condition_numbers = v.condition_numbers;
      condition_texts = v.condition_texts;
      rests = v.rests;
      rules = v.rules;
      rule_numbers = v.rule_numbers;
      rule_texts = v.rule_texts;
      work = v.work;
      work_numbers = v.work_numbers;
      work_texts = v.work_texts;
      never_busy = option_or v.never_busy (Some k);
      never_starved = v.never_starved;
    }
joined_busy v k l =
    rw (
      append-nil v.ends,
      append-nil v.end_numbers,
      append-nil v.end_texts,
      append-nil v.claims,
      append-nil v.claim_numbers,
      append-nil v.claim_texts,
      append-nil v.run_conditions,
      append-nil v.condition_numbers,
      append-nil v.condition_texts,
      append-nil v.rests,
      append-nil v.rules,
      append-nil v.rule_numbers,
      append-nil v.rule_texts,
      append-nil v.work,
      append-nil v.work_numbers,
      append-nil v.work_texts,
      or_none v.never_starved,
    ) refl

pub joined_starved : (v : RequirementsValue) (k : ℕ) (l : List ℕ) → joined v (said_on k l NeverStarved)
    ≡ record {
      ends = v.ends;
      end_numbers = v.end_numbers;
      end_texts = v.end_texts;
      claims = v.claims;
      claim_numbers = v.claim_numbers;
      claim_texts = v.claim_texts;
      run_conditions = v.run_conditions;
      condition_numbers = v.condition_numbers;
      condition_texts = v.condition_texts;
      rests = v.rests;
      rules = v.rules;
      rule_numbers = v.rule_numbers;
      rule_texts = v.rule_texts;
      work = v.work;
      work_numbers = v.work_numbers;
      work_texts = v.work_texts;
      never_busy = v.never_busy;
      never_starved = option_or v.never_starved (Some k);
    }
joined_starved v k l =
    rw (
      append-nil v.ends,
      append-nil v.end_numbers,
      append-nil v.end_texts,
      append-nil v.claims,
      append-nil v.claim_numbers,
      append-nil v.claim_texts,
      append-nil v.run_conditions,
      append-nil v.condition_numbers,
      append-nil v.condition_texts,
      append-nil v.rests,
      append-nil v.rules,
      append-nil v.rule_numbers,
      append-nil v.rule_texts,
      append-nil v.work,
      append-nil v.work_numbers,
      append-nil v.work_texts,
      or_none v.never_busy,
    ) refl

joined_assoc : (v w u : RequirementsValue) → joined (joined v w) u ≡ joined v (joined w u)
joined_assoc v w u =
    rw (
      append_assoc v.ends w.ends u.ends,
      append_assoc v.end_numbers w.end_numbers u.end_numbers,
      append_assoc v.end_texts w.end_texts u.end_texts,
      append_assoc v.claims w.claims u.claims,
      append_assoc v.claim_numbers w.claim_numbers u.claim_numbers,
      append_assoc v.claim_texts w.claim_texts u.claim_texts,
      append_assoc v.run_conditions w.run_conditions u.run_conditions,
      append_assoc v.condition_numbers w.condition_numbers u.condition_numbers,
      append_assoc v.condition_texts w.condition_texts u.condition_texts,
      append_assoc v.rests w.rests u.rests,
      append_assoc v.rules w.rules u.rules,
      append_assoc v.rule_numbers w.rule_numbers u.rule_numbers,
      append_assoc v.rule_texts w.rule_texts u.rule_texts,
      append_assoc v.work w.work u.work,
      append_assoc v.work_numbers w.work_numbers u.work_numbers,
      append_assoc v.work_texts w.work_texts u.work_texts,
      or_assoc v.never_busy w.never_busy u.never_busy,
      or_assoc v.never_starved w.never_starved u.never_starved,
    ) refl

pub in_front-in_front : (v w : RequirementsValue) (said : FileSaid)
    → in_front v (in_front w said) ≡ in_front (joined v w) said
in_front-in_front v w (Ok u) = ap Ok (sym (joined_assoc v w u))
in_front-in_front v w (Err f) = refl
