-- What the code holds of what was read.
use Rattle.std.specs.Prelude.{ℕ, List, map, string_bytes}
use Rattle.source_places.specs.SourcePlaces.{data_names_seen, labels_seen}
use Rattle.expectation_files.specs.declared.addresses.KnownNames.{KnownNames}
use Rattle.claims.specs.declared.claim.Claim.{Claim}
use Rattle.claims.specs.declared.claim.ClaimForm.{ClaimForm}
use Rattle.claims.specs.declared.claim.ClaimForm.TheVariants as form
use Rattle.claims.specs.declared.claim.LeadsTo.{LeadsTo}
use Rattle.claims.specs.declared.claim.StreamGroup.{StreamGroup}
use Rattle.claims.specs.declared.run_conditions.Fairness.{Fairness}
use Rattle.claims.specs.declared.run_conditions.Overtaking.{Overtaking}
use Rattle.claims.specs.declared.run_conditions.Rest.{Rest}
use Rattle.claims.specs.declared.run_conditions.RunCondition.{RunCondition}
use Rattle.claims.specs.declared.run_conditions.RunCondition.TheVariants as condition
use Rattle.expectation_files.specs.Addresses.{Names}
use Rattle.expectation_files.specs.ClaimLines.{ClaimValue, ClaimFormValue, GroupValue, OfWord, OfCompared, OfStreams}
use Rattle.expectation_files.specs.Conditions.{ConditionValue, LeadsValue, OvertakingValue, RestValue, LeadsSo, OvertakenSo}
use Rattle.expectation_files.specs.Lines.{Meaning, Nothing, End, Claimed, OfRuns, Rests, Rules, Work, NeverBusy, NeverStarved, Marked}
use Rattle.expectation_files.specs.Files.{RequirementsValue}
use Rattle.expectation_files.specs.declared.lines.LineMeaning.{LineMeaning}
use Rattle.expectation_files.specs.declared.lines.LineMeaning.TheVariants as line
use Rattle.expectation_files.specs.declared.requirements.Requirements.{Requirements}
use Rattle.expectation_files.specs.declared.requirements.WrittenLine.{WrittenLine}

-- the names that lines can use
abbrev pub names_in : KnownNames → Names
names_in names = record { word_names = data_names_seen names.words.now; labels = labels_seen names.labels.now }

abbrev pub group_seen : StreamGroup → GroupValue
group_seen g = record { streams = g.streams.items; first = g.first; last = g.last }

abbrev pub form_seen : ClaimForm → ClaimFormValue
form_seen (form.Word a t) = OfWord a t
form_seen (form.Compared a r b more) = OfCompared a r b more
form_seen (form.Streams t gs) = OfStreams t (map group_seen gs.items)

abbrev pub claim_seen : Claim → ClaimValue
claim_seen c = record { scope = c.scope; form = form_seen c.form }

abbrev pub leads_seen : LeadsTo → Fairness → LeadsValue
leads_seen l f = record { from = form_seen l.from; to = form_seen l.to; fairness = f }

abbrev pub overtaking_seen : Overtaking → OvertakingValue
overtaking_seen o = record { who = o.who; waits = form_seen o.waits; inside = form_seen o.inside; most = o.most }

abbrev pub condition_seen : RunCondition → ConditionValue
condition_seen (condition.Leads l f) = LeadsSo (leads_seen l f)
condition_seen (condition.Overtaken o) = OvertakenSo (overtaking_seen o)

abbrev pub rest_seen : Rest → RestValue
rest_seen r = record { who = r.who; places = form_seen r.places }

abbrev pub meaning_seen : LineMeaning → Meaning
meaning_seen line.Nothing = Nothing
meaning_seen (line.End e) = End e
meaning_seen (line.Claim c) = Claimed (claim_seen c)
meaning_seen (line.Runs cs) = OfRuns (map condition_seen cs.items)
meaning_seen (line.Rest r) = Rests (rest_seen r)
meaning_seen (line.Rules rs) = Rules rs.items
meaning_seen (line.Work rs) = Work rs.items
meaning_seen line.NeverBusy = NeverBusy
meaning_seen line.NeverStarved = NeverStarved
meaning_seen (line.Mark m) = Marked m

abbrev pub numbers_of : List WrittenLine → List ℕ
numbers_of ls = map (λ (l : WrittenLine). l.number) ls

-- the words of lines, as their bytes
abbrev pub texts_of : List WrittenLine → List (List ℕ)
texts_of ls = map (λ (l : WrittenLine). string_bytes l.words) ls

abbrev pub requirements_seen : Requirements → RequirementsValue
requirements_seen r = record {
  ends = r.ends.items;
  end_numbers = numbers_of r.end_lines.items;
  end_texts = texts_of r.end_lines.items;
  claims = map claim_seen r.claims.items;
  claim_numbers = numbers_of r.claim_lines.items;
  claim_texts = texts_of r.claim_lines.items;
  run_conditions = map condition_seen r.run_conditions.items;
  condition_numbers = numbers_of r.condition_lines.items;
  condition_texts = texts_of r.condition_lines.items;
  rests = map rest_seen r.rests.items;
  rules = r.rules.items;
  rule_numbers = numbers_of r.rule_lines.items;
  rule_texts = texts_of r.rule_lines.items;
  work = r.work.items;
  work_numbers = numbers_of r.work_lines.items;
  work_texts = texts_of r.work_lines.items;
  never_busy = r.never_busy;
  never_starved = r.never_starved;
}
