use Rattle.rlp_trie.proofs.OrderedLemmas.{proof_exists}
use Rattle.rlp_trie.proofs.laws.places_have_proofs.Goals as goal

pub returns : goal.returns
returns c = λ xs are i small. proof_exists xs i are small
