-- Paths of leaves and of extensions are read back, and are read only from their encodings.
use Rattle.std.specs.{Prelude.{ℕ, ◌≡◌, ⊤, Bool, true, false, List, Option, Some, Ok}, Vec.vec_items}
use Rattle.std.proofs.{Common.{refl, ap, ◌∙◌}, lemmas.Bool.cond-false}
use Rattle.rlp_reading.proofs.StringLaws.{ReadsStrings}
use Rattle.rlp.specs.Codec.{Codec, string_type}
use Rattle.rlp_trie.specs.{HexPrefix.{ends_in_leaf, is_empty_extension, is_leaf_flag, path_of, path_of_kind}, declared.path.Path.Path}

kind_again : (leaf : Bool) (d : List ℕ) → is_empty_extension d ≡ false → path_of_kind leaf d (Some leaf) ≡ Ok d
kind_again true d some = cond-false (is_empty_extension d) _ _ some
kind_again false d some = cond-false (is_empty_extension d) _ _ some

-- a path of the kind is read
path_again : (leaf : Bool) (d : List ℕ) → ends_in_leaf d ≡ Some leaf → is_empty_extension d ≡ false → path_of leaf d ≡ Ok d
path_again leaf d is some = ap (path_of_kind leaf d) is ∙ kind_again leaf d some

kind_only : (leaf : Bool) (d x : List ℕ) (o : Option Bool) (empty : Bool) → is_empty_extension d ≡ empty → path_of_kind leaf d o ≡ Ok x → d ≡ x
kind_only true d x (Some true) false none is = cc
kind_only false d x (Some false) false none is = cc
kind_only leaf d x o empty none is = absurd (let no : ⊥ = cc in no)

-- the bytes of a path are read back, and no other bytes are read
pub path_strings : (flag : ℕ) → ReadsStrings (λ (p : Path flag). ⊤) (λ p. vec_items p.bytes) (λ p. vec_items p.bytes) (λ d. d) (path_of (is_leaf_flag flag))
path_strings flag = record {
  back = λ p fit short. path_again (is_leaf_flag flag) (vec_items p.bytes) p.encoded p.some_nibble;
  only = λ d p bytes short is.
      (tt, kind_only (is_leaf_flag flag) d (vec_items p.bytes) (ends_in_leaf d) (is_empty_extension d) refl is);
  fits = λ p q same fit. tt;
  same = λ p. refl;
}

-- the string of the bytes
abbrev pub path : (flag : ℕ) → Codec (Path flag)
path flag =
    string_type (λ (p : Path flag). ⊤) (λ p. vec_items p.bytes) (λ p. vec_items p.bytes) (λ d. d) (path_of (is_leaf_flag flag)) true (path_strings flag)
