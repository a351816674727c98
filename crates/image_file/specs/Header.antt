-- The header that bytes begin with.
use Rattle.std.specs.Prelude.{ℕ, List}
use Rattle.image_file.specs.declared.header.Header.{Header}
use Rattle.image_file.specs.Reading.{profile_at, processors_at, slim_at, chain_limit_at}
use Rattle.image_file.specs.Reading.{retry_limit_at, trap_entry_at, words_at, cells_at}

abbrev pub header_at : List ℕ → Header
header_at bytes = record {
  profile = profile_at bytes;
  processors = processors_at bytes;
  slim = slim_at bytes;
  chain_limit = chain_limit_at bytes;
  retry_limit = retry_limit_at bytes;
  trap_entry = trap_entry_at bytes;
  words = words_at bytes;
  cells = cells_at bytes;
}
