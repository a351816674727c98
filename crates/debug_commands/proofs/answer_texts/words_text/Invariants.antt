use Rattle.std.proofs.Common.{◌≡◌, ◌++◌, drop, string_bytes}
use Rattle.debug_commands.specs.AnswerTexts.{seen_word_lines}
use Rattle.debug_commands.proofs.answer_texts.words_text.Given as goal

-- the text so far and the words to come are the whole text
abbrev pub invariant-loop-address : goal.invariant-loop-address
invariant-loop-address l =
    string_bytes l.text ++ seen_word_lines (drop l.address-index l.words) ≡ seen_word_lines l.words
