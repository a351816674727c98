use Rattle.std.proofs.Common.{◌<◌, ◌^◌, ◌++◌, ap, ◌∙◌}
use Rattle.std.specs.List.{flat_map, All}
use Rattle.std.proofs.lemmas.List.Elements.{recursion_from_All}
use Rattle.image_file.specs.Spelling.{header_of, entry_bytes, word_bytes, cell_bytes, bytes_of_image}
use Rattle.image_file.proofs.Made.{four_put}
use Rattle.image_file.proofs.writing.write_image.Goals as goal

pub returns : goal.returns
unfolding bytes_of_image
returns c =
    let image = c.args.image.now in
    let program : All (λ w. w < 2 ^ 64) image.program =
    rw (← c.program-program.ensures.is) c.in_ok-put_program.ensures.fit in
    let cells : All (λ x. x.value < 2 ^ 64) image.cells =
    rw (← c.cells-cells.ensures.is) c.in_ok-put_cells.ensures.fit in
    record {
      within = c.processors.ensures.kept;
      fits = record {
        retry_limit = c.in_ok-put_header.ensures.fit.0;
        trap_entry = c.in_ok-put_header.ensures.fit.1;
        program = recursion_from_All (λ w. w < 2 ^ 64) image.program program;
        cells = recursion_from_All (λ x. x.value < 2 ^ 64) image.cells cells;
      };
      spelled = four_put c.in_ok-out.out.items c.put_header.new.out.items c.put_entries.new.out.items
          c.put_program.new.out.items c.put_cells.new.out.items (header_of image) (flat_map entry_bytes image.entries)
          (flat_map word_bytes image.program) (flat_map cell_bytes image.cells) c.in_ok-out.ensures.items
          c.in_ok-put_header.ensures.is
          (c.in_ok-put_entries.ensures
          ∙ ap (λ xs. c.put_header.new.out.items ++ flat_map entry_bytes xs) c.entries.ensures.is)
          (c.in_ok-put_program.ensures.is
          ∙ ap (λ xs. c.put_entries.new.out.items ++ flat_map word_bytes xs) c.program-program.ensures.is)
          (c.in_ok-put_cells.ensures.is
          ∙ ap (λ xs. c.put_program.new.out.items ++ flat_map cell_bytes xs) c.cells-cells.ensures.is);
    }
