use Rattle.std.proofs.Common.{◌<◌, ◌^◌, sym, subst}
use Rattle.std.specs.List.{All}
use Rattle.std.specs.Prelude.{string_bytes}
use Rattle.std.proofs.lemmas.List.Elements.{recursion_from_All}
use Rattle.image_file.specs.Spelling.{Fits}
use Rattle.asm_text.specs.Sources.{Means}
use Rattle.asm_text.proofs.Listed.{all_parts}
use Rattle.asm_text.proofs.listings.listing.Goals as goal

pub returns : goal.returns
returns c =
    let image = c.args.image.now in
    let is =
    all_parts image _ _ _ _ (string_bytes c.push_cells.new.text) _ c.new-text.ensures.bytes
    c.in_ok-push_settings.ensures.is c.in_ok-push_entries.ensures.is c.in_ok-push_program.ensures.is
    c.cells.ensures.is c.in_ok-push_cells.ensures.is in
    let cells : All (λ x. x.value < 2 ^ 64) image.cells = rw (← c.cells.ensures.is) c.in_ok-push_cells.ensures.fit in
    let fits : Fits image = record {
      retry_limit = c.in_ok-push_settings.ensures.fit.0;
      trap_entry = c.in_ok-push_settings.ensures.fit.1;
      program = recursion_from_All (λ w. w < 2 ^ 64) image.program c.in_ok-push_program.ensures.fit;
      cells = recursion_from_All (λ x. x.value < 2 ^ 64) image.cells cells;
    } in
    record {
      is = is;
      means = subst (λ t. Means t image) (sym is)
          (c.listings_are_read_back.ensures.reads_back image c.in_ok-push_entries.ensures.kept fits);
    }
