use Rattle.std.proofs.Common.{◌≡◌, None, List, ◌++◌, length, map, ap, sym, ◌∙◌, rules}
use Rattle.std.specs.Vec.{vec_items}
use Rattle.rlp.specs.{Codec.{byte_string, end, field, plain, plain_fields}, Format.Encoding.{Item, list_of}, Streams.Stream.put_item}
use Rattle.rlp_trie.specs.{declared.branch.Branch.Branch, declared.branch_child.BranchChild.BranchChild, BranchChildLaws.branch_child}
use Rattle.rlp_reading.proofs.FieldLaws.{each_items}
use Rattle.rlp_trie.proofs.branch.BranchEncodable.rlp_append.Goals as goal

pub returns-in-Ok-append_fields-clause-ok : goal.returns-in-Ok-append_fields-clause-ok
returns-in-Ok-append_fields-clause-ok c =
    let branch = c.args.self.now in
    let last = field (λ (b : Branch). b.value) (byte_string vec_items) end in
    let same : c.as_slice-children.result.now ≡ c.args.self.now.children = search rules in
    let many : length c.args.self.now.children ≡ 16 = ap length (sym same) ∙ c.if-children-ne16.false in
    let written : c.append_fields-write_struct.new.s.state ≡ put_item
    (list_of (map branch_child.item c.as_slice-children.result.now ++ last.items branch)) c.args.s.now.state = search rules in
    written
    ∙ ap (λ (xs : List BranchChild). put_item (list_of (map branch_child.item xs ++ last.items branch)) c.args.s.now.state) same
    ∙ ap (λ (xs : List Item). put_item (list_of xs) c.args.s.now.state) (each_items (record { 0 = None }) (λ (b : Branch). b.children) (plain branch_child) (plain_fields last) branch 16 many)
