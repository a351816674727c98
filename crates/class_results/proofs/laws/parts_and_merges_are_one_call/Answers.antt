use Rattle.class_results.proofs.OneCall.{said_in_part, one_part, by_parts, by_all_parts, lacking, say_the_same}
use Rattle.class_results.proofs.laws.parts_and_merges_are_one_call.Goals as goal

pub returns : goal.returns
returns c = record {
  part = λ judge part class. said_in_part judge part class;
  once = one_part;
  some = λ judge parts class kept found are is. by_parts judge parts class kept are found is;
  missing = λ judge parts class kept found are is. lacking judge parts class kept are found is;
  all = λ judge count parts class kept found some all are is. by_all_parts judge count parts class kept found some all are is;
  alike = λ judge parts class kept one other are has_one has_other same.
      say_the_same judge parts class kept are one other has_one has_other same;
}
