use Rattle.std.proofs.Common.{◌≡◌, ◌++◌, ◌∙◌, ap, string_bytes}
use Rattle.expectation_files.specs.Words.{words_of, text_of}
use Rattle.expectation_files.proofs.OneLine.{first_word}
use Rattle.expectation_files.proofs.written_lines.one_line.Goals as goal

pub loop-word-init : goal.loop-word-init
loop-word-init c =
    let is : string_bytes c.push_str.new.self ≡ text_of c.in-Some.first.now =
    c.in_ok-push_str.ensures.bytes ∙ ap (λ s. s ++ c.text_of.result.now) c.new-words.ensures.bytes ∙ c.text_of.ensures in
    first_word (words_of c.args.text.now) (words_of c.in-Some.rest.now) c.in-Some.first.now
    (string_bytes c.push_str.new.self) c.in-Some.ensures is
