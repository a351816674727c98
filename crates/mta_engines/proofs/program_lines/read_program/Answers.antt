use Rattle.std.proofs.Common.{rules, ◌≡◌, length, ◌==◌, false, None, Some, arith}
use Rattle.std.specs.List.{before_first}
use Rattle.text_parts.specs.Reading.{hexadecimal_word}
use Rattle.text_parts.specs.Lines.{is_line_end}
use Rattle.mta_engines.proofs.ProgramText.{program-read, at_malformed, at_too_many, at_next, at_end_without_words}
use Rattle.mta_engines.proofs.ProgramText.{at_end_with_words}
use Rattle.mta_engines.proofs.program_lines.read_program.Goals as goal

pub loop-rest-init : goal.loop-rest-init
loop-rest-init c = (omega arith, rw c.new-words.ensures.items (program-read c.args.text.now))

pub returns-in_default-clause-fault : goal.returns-in_default-clause-fault
returns-in_default-clause-fault c = λ _.
    let count : length c.loop-rest.words.items ≡ c.len.result = search rules in
    let some : (length c.loop-rest.rest.now == 0) ≡ false = cc in
    let none : hexadecimal_word (before_first is_line_end c.loop-rest.rest.now) ≡ None = cc in
    rw (← count) (at_malformed _ _ _ c.loop-rest.invariant.1 some none)

pub returns-then-len-eq-MAX_PROGRAM_WORDS-clause-fault : goal.returns-then-len-eq-MAX_PROGRAM_WORDS-clause-fault
returns-then-len-eq-MAX_PROGRAM_WORDS-clause-fault c = λ _.
    let count : length c.loop-rest.words.items ≡ c.len.result = search rules in
    let some : (length c.loop-rest.rest.now == 0) ≡ false = cc in
    let is : hexadecimal_word (before_first is_line_end c.loop-rest.rest.now) ≡ Some c.in-Some.word = cc in
    rw (← count) (at_too_many _ _ _ c.loop-rest.invariant.1 _ some is (omega arith))

pub loop-rest-preserved : goal.loop-rest-preserved
loop-rest-preserved c =
    let some : (length c.loop-rest.rest.now == 0) ≡ false = cc in
    let is : hexadecimal_word (before_first is_line_end c.loop-rest.rest.now) ≡ Some c.in-Some.word = cc in
    let next = at_next _ _ _ c.loop-rest.invariant.1 _ some is (omega arith) in
    (omega arith, rw (c.in_ok-push.ensures.items, c.split_line.ensures.after) next)

pub returns-then-is_empty-clause-fault : goal.returns-then-is_empty-clause-fault
returns-then-is_empty-clause-fault c = λ _. at_end_without_words _ _ _ c.loop-rest.invariant.1 (cc) (cc)

pub returns-clause-words : goal.returns-clause-words
returns-clause-words c = at_end_with_words _ _ _ c.loop-rest.invariant.1 (cc) (cc)
