-- Texts that differ in one line, .data v or .fill 1, v, 1, mean the same.
use Rattle.std.proofs.Common.{◌≡◌, ℕ, List, ◌∷◌, ◌++◌, map, Option, Some, None, refl, sym, ◌∙◌, ap}
use Rattle.std.proofs.lemmas.List.{map-append}
use Rattle.text_parts.specs.Pieces.{pieces}
use Rattle.asm_line.specs.Lines.{Line, line, lines}
use Rattle.asm_text.specs.Sources.{not_ascii, meaning_of, meaning_of_lines, meaning_unless}
use Rattle.asm_text.specs.DataLaws.{DataTextsAreFills}
use Rattle.asm_text.proofs.ForeignBytes.{same_foreign}
use Rattle.asm_text.proofs.DataFill.{data_line, fill_line, data_lines}

lines_cut : (text : List ℕ) (before after : List (List ℕ)) (x : List ℕ) (l : Line)
    → pieces 10 text ≡ before ++ x ∷ after → line x ≡ l → lines text ≡ map line before ++ l ∷ map line after
lines_cut text before after x l is at =
    ap (map line) is ∙ map-append line before (x ∷ after) ∙ ap (λ m. map line before ++ m ∷ map line after) at

meaning_same : (o : Option ℕ) (ls ms : List Line) → meaning_of_lines ls ≡ meaning_of_lines ms
    → meaning_unless o ls ≡ meaning_unless o ms
meaning_same None ls ms e = e
meaning_same (Some k) ls ms e = refl

pub data_texts : DataTextsAreFills
unfolding meaning_of
data_texts text other v o d =
    let cut = lines_cut text d.before d.after d.data_line (data_line d.label v) d.text_lines d.data_reads in
    let cut_other = lines_cut other d.before d.after d.fill_line (fill_line d.label v) d.other_lines d.fill_reads in
    let same = data_lines (map line d.before) (map line d.after) d.label v o in
    let bytes = same_foreign text other d.before d.after d.data_line d.fill_line d.text_lines d.other_lines d.ascii in
    ap (λ n. meaning_unless n (lines text)) bytes
    ∙ meaning_same (not_ascii other) (lines text) (lines other)
    (ap meaning_of_lines cut ∙ same ∙ sym (ap meaning_of_lines cut_other))
