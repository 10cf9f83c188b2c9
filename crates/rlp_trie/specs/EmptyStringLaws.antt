-- The empty string, which is written in the place of a node, is found, and no other bytes are.
use Rattle.std.proofs.{Common.{◌∙◌, ap, arith, length, refl, sym}, lemmas.Bool.eqb-true}
use Rattle.std.specs.Prelude.{ℕ, ◌∷◌, ◌≡◌, ◌≢◌, List, [], false, true}
use Rattle.rlp_reading.proofs.Lemmas.Items.{encoding_same}
use Rattle.rlp.specs.Format.Encoding.{IsSized, Item, big_endian, encoding, string, written_header}
use Rattle.rlp_trie.specs.BranchChild.{is_empty_string}

-- the encoding of the empty string
pub empty_string : encoding (string []) ≡ 0x80 ∷ []
unfolding encoding written_header big_endian
empty_string = refl

-- the encoding of the empty string is found, and no other bytes are
pub empty_found : is_empty_string (encoding (string [])) ≡ true
empty_found = ap is_empty_string empty_string

pub empty_only : (b : List ℕ) → is_empty_string b ≡ true → b ≡ encoding (string [])
empty_only (first ∷ []) is = ap (λ n. n ∷ []) (eqb-true first 0x80 is) ∙ sym empty_string
empty_only b is = absurd (let no : ⊥ = cc in no)

-- the encoding of another item isn't found
pub other_item : (x : Item) → IsSized x → x ≢ string [] → is_empty_string (encoding x) ≡ false
other_item x sized other =
    let small : IsSized (string []) = (let one : length (encoding (string [])) ≡ 1 = ap length empty_string in omega (arith, one)) in
    let apart : encoding x ≢ encoding (string []) = λ same. other (encoding_same x (string []) sized small same) in
    grind (arith, empty_only (encoding x))
