use Rattle.std.proofs.Common.{arith}
use Rattle.rlp_format.proofs.Lemmas.Encodings.{front_sized}
use Rattle.rlp_reading.proofs.Lemmas.Views.{items_of_list}
use Rattle.rlp_reading.proofs.laws.list_gives_its_items.Goals as goal

pub returns : goal.returns
returns c = record {
  items = λ xs (more, is). (items_of_list xs _ (front_sized _ _ more (omega arith) is) (more, is)).0;
  rest = λ xs (more, is). (items_of_list xs _ (front_sized _ _ more (omega arith) is) (more, is)).1;
}
