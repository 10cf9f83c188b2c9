use Rattle.std.proofs.Common.{◌∙◌, ◌≡◌, ap, map, option_map, sym, Some}
use Rattle.rlp.specs.Format.Encoding.{encoding}
use Rattle.rlp_trie.specs.Ordered.{ordered_root}
use Rattle.rlp_headers.specs.Withdrawal.{withdrawal}
use Rattle.rlp_blocks.specs.Roots.{withdrawal_values}
use Rattle.rlp_blocks.proofs.RootsLemmas.{withdrawal_values_are}
use Rattle.rlp_blocks.proofs.block.Body.withdrawals_root.Goals as goal

pub returns-in_ok-encodings_root-in-Some : goal.returns-in_ok-encodings_root-in-Some
returns-in_ok-encodings_root-in-Some c =
    let values = ap (map (λ w. encoding (withdrawal.item w))) c.as_slice.ensures.value ∙ withdrawal_values_are c.in-Some.withdrawals.0.items in
    let root = c.in_ok-encodings_root-in-Some.ensures ∙ ap ordered_root values in
    let whole : c.args.self.now.withdrawals ≡ Some c.in-Some.withdrawals = cc in
    ap Some root ∙ ap (option_map (λ ws. ordered_root (withdrawal_values ws))) (sym whole)
