-- The places of branches are read back, and are read only from their encodings.
use Rattle.std.proofs.{Common.{arith, ◌<◌, ◌^◌, ◌∙◌, ap, length, refl}, lemmas.Bool.{cond-false, cond-true}}
use Rattle.std.specs.Prelude.{ℕ, ◌≡◌, List, None, Ok, Option, Some, [], true}
use Rattle.rlp.specs.{Codec.{Codec, lawful, newtype}, Form.{here, map_value}, Format.Encoding.{AreBytes, IsSized, encoding, string}}
use Rattle.rlp_reading.proofs.{ListLaws.{options_fit}, RawLaws.{ReadsItems, items_lawful}}
use Rattle.rlp_reading.specs.FirstItems.{item_type}
use Rattle.rlp_trie.specs.{BranchChild.{IsPlace, is_empty_string, place_item, place_of, seen_place, written_place}, Child.{IsChild, child_item, child_of, seen_child}}
use Rattle.rlp_trie.specs.ChildLaws.{child_back, child_fits, child_only, child_same, child_some}
use Rattle.rlp_trie.specs.{EmptyStringLaws.{empty_found, empty_only, other_item}, declared.branch_child.BranchChild.BranchChild, declared.child.Child.{Child}}

place_back : (o : Option Child) → IsPlace o → IsSized (place_item o) → place_of (encoding (place_item o)) ≡ Ok (seen_place o)
place_back None is sized = cond-true (is_empty_string (encoding (string []))) _ _ empty_found
place_back (Some c) is sized =
    cond-false (is_empty_string (encoding (child_item c))) _ _ (other_item (child_item c) sized (child_some c is)) ∙ ap (map_value Some) (child_back c is sized)

place_only : (b : List ℕ) (o : Option Child) → AreBytes b → length b < 2 ^ 64 → place_of b ≡ Ok (seen_place o) → IsPlace o × (b ≡ encoding (place_item o))
place_only b None bytes fits is = grind (arith, empty_only b)
place_only b (Some c) bytes fits is = child_only b c bytes fits (let read : child_of b ≡ Ok (seen_child c) = grind arith in read)

place_same : (o : Option Child) → written_place (seen_place o) ≡ place_item o
place_same None = refl
place_same (Some c) = child_same c

pub place_items : ReadsItems IsPlace place_item seen_place written_place (λ b. here (place_of b))
place_items = record {
  back = place_back;
  only = place_only;
  fits = options_fit seen_child IsChild child_fits;
  same = place_same;
}

-- the first item
abbrev pub place : Codec (Option Child)
place = lawful (item_type IsPlace place_item seen_place written_place (λ b. here (place_of b)) true) (items_lawful _ _ _ _ _ true place_items)

-- the place that it holds
abbrev pub branch_child : Codec BranchChild
branch_child = newtype (λ (c : BranchChild). c.0) place
