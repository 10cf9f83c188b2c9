use Rattle.rlp_reading.proofs.Readings.{number_whole, one_reading, option_whole, text_whole, truth_whole}
use Rattle.rlp.proofs.laws.reading.options_are_read.Goals as goal

pub returns : goal.returns
returns c = record {
  numbers = λ width. one_reading _ _ (option_whole _ (number_whole width));
  truth_values = one_reading _ _ (option_whole _ truth_whole);
  texts = one_reading _ _ (option_whole _ text_whole);
}
