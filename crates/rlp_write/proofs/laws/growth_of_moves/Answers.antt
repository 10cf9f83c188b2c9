use Rattle.std.proofs.Common.{refl}
use Rattle.rlp_write.specs.Streams.Stream.{put, with_list}
use Rattle.rlp_write.proofs.Streams.Growth.{grows_put, grows_with_list}
use Rattle.rlp_write.proofs.laws.growth_of_moves.Goals as goal

pub returns : goal.returns
returns c = record { put = λ x s. grows_put s (put x s) x refl; opened = λ awaits s. grows_with_list s (with_list awaits s) awaits refl }
