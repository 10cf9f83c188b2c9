use Rattle.rlp_stream.proofs.LawLemmas.{faulty-means}
use Rattle.rlp_stream.proofs.laws.faults_go_by_framing.Goals as goal

pub returns-clause-faulty : goal.returns-clause-faulty
returns-clause-faulty c = faulty-means
