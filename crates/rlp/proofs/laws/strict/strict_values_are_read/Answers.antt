use Rattle.rlp_reading.specs.Views.View.{strict_view_of}
use Rattle.rlp_reading.proofs.Readings.{array_whole, bytes_whole, number_whole, one_reading, text_whole, truth_whole}
use Rattle.rlp.proofs.laws.strict.strict_values_are_read.Goals as goal

pub returns : goal.returns
returns c =
    let v = strict_view_of c.args.bytes.now in
    record {
      numbers = λ width. one_reading _ v (number_whole width);
      truth_values = one_reading _ v truth_whole;
      strings = one_reading _ v bytes_whole;
      texts = one_reading _ v text_whole;
      arrays = λ n. one_reading _ v (array_whole n);
    }
