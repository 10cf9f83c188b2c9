use Rattle.std.proofs.Common.{◌≡◌, ◌∙◌, IfOk, subst, ap}
use Rattle.rlp.specs.Format.Encoding.{encoding, string}
use Rattle.rlp_trie.proofs.OrderedBodies.{extension_done}
use Rattle.rlp_trie.proofs.ordered.extension.Goals as goal

pub returns : goal.returns
returns c = λ x is.
    subst (λ e. IfOk c.list_of.result (λ b. b.items ≡ e))
    (extension_done c.args.path.now x _ _ (c.in_ok-items.ensures.bytes ∙ ap (λ d. encoding (string d)) (c.as_slice.ensures.value ∙ c.in_ok-path.ensures))
    (c.as_slice-2.ensures ∙ c.in_ok-put_reference.ensures x is))
    c.list_of.ensures
