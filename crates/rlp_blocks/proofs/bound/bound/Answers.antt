use Rattle.std.proofs.Common.{◌∙◌, arith, sym}
use Rattle.rlp_blocks.proofs.{BoundLemmas.{header_short, ommers_short}, RootsLemmas.roots_same}
use Rattle.rlp_blocks.proofs.bound.bound.Goals as goal

pub invariant_of-result : goal.invariant_of-result
invariant_of-result c =
    let b = c.args.block in
    record {
      bound = record {
        fits = c.requires.encoding.fits;
        roots = sym c.of_header.ensures ∙ roots_same _ _ c.in_ok-check.ensures.value ∙ c.in-Ok.ensures.roots;
        header = header_short c.args.bytes.now b (omega arith) c.requires.encoding.bytes;
        ommers = ommers_short c.args.bytes.now b (omega arith) c.requires.encoding.bytes;
        transactions = c.in-Ok.ensures.transactions;
        withdrawals = c.in-Ok.ensures.withdrawals;
      };
      hash = c.requires.hashes.header;
      transactions = c.requires.hashes.transactions;
    }
