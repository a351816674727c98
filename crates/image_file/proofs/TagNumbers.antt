-- The tags of a word as a number are below 16.
use Rattle.std.proofs.Common.{◌<◌, arith}
use Rattle.tag_memory.specs.Cell.{Cell, tag_number}

pub tag_number-below : (c : Cell) → tag_number c < 16
tag_number-below c = grind arith
