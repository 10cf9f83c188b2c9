use Rattle.rlp_write.proofs.Streams.States.{size_kept_each}
use Rattle.rlp_write.proofs.flat.RlpStream.finalize_unbounded_list.Goals as goal

pub returns-clause-size : goal.returns-clause-size
returns-clause-size c = size_kept_each 1 c.args.self.now.state c.try_finalize.new.self.state c.in_ok-try_finalize.ensures.ok
