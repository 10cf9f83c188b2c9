-- Blocks and the items in their bytes.
use Rattle.std.proofs.Common.{◌≡◌, ◌∙◌, ℕ, ◌^◌, ◌<◌, ap, sym, subst, refl, arith, rules, true, List, [], ◌∷◌, drop, length, map, Option, None, Some}
use Rattle.std.specs.{List.{AllByRecursion, slice_get}, Option.option_and_then, Prelude.option_map, Vec.vec_items}
use Rattle.rlp.specs.{Format.Encoding.{IsSized, Item, encoding, list, list_of, listed, string}, Values.Value.items_if}
use Rattle.rlp_format.proofs.Lemmas.Encodings.{listed_from}
use Rattle.rlp_reading.proofs.{Lemmas.Items.encoding_same, ListLaws.items_sized}
use Rattle.rlp_trie.specs.{Listed.AreListed, Ordered.ordered_root}
use Rattle.rlp_records.specs.{Alone.bytes_alone, Keccak.keccak256, declared.hash.Hash.Hash}
use Rattle.rlp_headers.specs.{Forks.{london_fields, shanghai_fields}, Header.{header, header_fields}, Withdrawal.{withdrawal, withdrawals}}
use Rattle.rlp_headers.specs.{declared.header.Header.Header, declared.header.forks.London.London, declared.header.forks.Shanghai.Shanghai}
use Rattle.rlp_headers.specs.{declared.withdrawal.Withdrawal.Withdrawal, declared.withdrawal.Withdrawals.Withdrawals}
use Rattle.rlp_transactions.specs.Transaction.{any_transaction}
use Rattle.rlp_blocks.specs.{Block.block, Bound.{header_bytes, listed_withdrawals, ommers_bytes}, BoundBlock.{IsRootOf, IsWithdrawalsRoot, NamesBody}, Roots.{body_roots, header_roots, withdrawal_values}}
use Rattle.rlp_blocks.specs.declared.block.Block.{Block}

-- the items of a block after the header, after the transactions, and after the ommers
abbrev pub last_items : Block → List Item
last_items b = items_if (λ w. withdrawals.item w ∷ []) b.withdrawals

abbrev pub later_items : Block → List Item
later_items b = list_of (map header.item (vec_items b.ommers)) ∷ last_items b

abbrev pub body_items : Block → List Item
body_items b = list_of (map any_transaction.item (vec_items b.transactions)) ∷ later_items b

-- the encodings of withdrawals are also their standalone bytes
pub withdrawals_alone : (ws : List Withdrawal) → map bytes_alone (map withdrawal.item ws) ≡ map encoding (map withdrawal.item ws)
withdrawals_alone [] = refl
withdrawals_alone (w ∷ ws) = ap (λ (others : List (List ℕ)). encoding (withdrawal.item w) ∷ others) (withdrawals_alone ws)

-- ---- the sizes of the items

module _ (d : List ℕ) (b : Block) (short : length d < 2 ^ 64) (is : d ≡ encoding (block.item b)) where
  sizes : AllByRecursion IsSized (header.item b.header ∷ body_items b)
  sizes = items_sized true d (header.item b.header ∷ body_items b) short is

  pub header_short : length (header_bytes b) < 2 ^ 64
  header_short = sizes.0

  pub ommers_short : length (ommers_bytes b) < 2 ^ 64
  ommers_short = sizes.1.1.0

-- ---- blocks with the same encoding

-- the items of an item that is a list
parts_of : Item → List Item
parts_of (string d) = []
parts_of (list xs) = listed xs

list_same : (xs ys : List Item) → list_of xs ≡ list_of ys → xs ≡ ys
unfolding parts_of
list_same xs ys same = sym (listed_from xs) ∙ ap parts_of same ∙ listed_from ys

shanghai_same : (a b : Option Shanghai) → items_if shanghai_fields.items a ≡ items_if shanghai_fields.items b
    → option_map (λ (s : Shanghai). s.withdrawals_root.0) a ≡ option_map (λ (s : Shanghai). s.withdrawals_root.0) b
shanghai_same None None same = refl
shanghai_same None (Some y) same = absurd (let no : ⊥ = cc in no)
shanghai_same (Some x) None same = absurd (let no : ⊥ = cc in no)
shanghai_same (Some x) (Some y) same = let root : x.withdrawals_root.0 ≡ y.withdrawals_root.0 = cc in ap Some root

abbrev withdrawals_root_of : Option London → Option (List ℕ)
withdrawals_root_of l = option_map (λ (s : Shanghai). s.withdrawals_root.0) (option_and_then (λ (l : London). l.since_shanghai) l)

london_same : (a b : Option London) → items_if london_fields.items a ≡ items_if london_fields.items b → withdrawals_root_of a ≡ withdrawals_root_of b
london_same None None same = refl
london_same None (Some y) same = absurd (let no : ⊥ = cc in no)
london_same (Some x) None same = absurd (let no : ⊥ = cc in no)
london_same (Some x) (Some y) same =
    shanghai_same x.since_shanghai y.since_shanghai
    (let rest : items_if shanghai_fields.items x.since_shanghai ≡ items_if shanghai_fields.items y.since_shanghai = cc in rest)

-- headers with the same items name the same roots
pub header_same : (h k : Header) → header.item h ≡ header.item k → header_roots h ≡ header_roots k
header_same h k same =
    let items = list_same (header_fields.items h) (header_fields.items k) same in
    let ommers = ap (λ xs. slice_get xs 1) items in
    let transactions = ap (λ xs. slice_get xs 4) items in
    let later = ap (λ xs. drop 15 xs) items in
    let withdrawals = london_same h.since_london k.since_london later in
    cc

withdrawals_same : (a b : Option Withdrawals) → items_if (λ w. withdrawals.item w ∷ []) a ≡ items_if (λ w. withdrawals.item w ∷ []) b
    → option_map (λ w. ordered_root (withdrawal_values w)) a ≡ option_map (λ w. ordered_root (withdrawal_values w)) b
withdrawals_same None None same = refl
withdrawals_same None (Some y) same = absurd (let no : ⊥ = cc in no)
withdrawals_same (Some x) None same = absurd (let no : ⊥ = cc in no)
withdrawals_same (Some x) (Some y) same =
    let lists : withdrawals.item x ≡ withdrawals.item y = cc in
    ap (λ (items : List Item). Some (ordered_root (map encoding items))) (list_same (map withdrawal.item (vec_items x.0)) (map withdrawal.item (vec_items y.0)) lists)

-- blocks with the same items have bodies with the same roots
pub body_same : (b c : Block) → block.item b ≡ block.item c
    → body_roots (vec_items b.transactions) (vec_items b.ommers) b.withdrawals ≡ body_roots (vec_items c.transactions) (vec_items c.ommers) c.withdrawals
body_same b c same =
    let items : header.item b.header ∷ body_items b ≡ header.item c.header ∷ body_items c =
    list_same (header.item b.header ∷ body_items b) (header.item c.header ∷ body_items c) same in
    let second : list_of (map any_transaction.item (vec_items b.transactions)) ≡ list_of (map any_transaction.item (vec_items c.transactions)) = cc in
    let third : list_of (map header.item (vec_items b.ommers)) ≡ list_of (map header.item (vec_items c.ommers)) = cc in
    let last : last_items b ≡ last_items c = cc in
    let transactions =
    ap (λ (xs : List Item). ordered_root (map bytes_alone xs))
    (list_same (map any_transaction.item (vec_items b.transactions)) (map any_transaction.item (vec_items c.transactions)) second) in
    let ommers = ap (λ x. keccak256 (encoding x)) third in
    let withdrawals = withdrawals_same b.withdrawals c.withdrawals last in
    cc

first_same : (b c : Block) → block.item b ≡ block.item c → header.item b.header ≡ header.item c.header
first_same b c same =
    let items : header.item b.header ∷ body_items b ≡ header.item c.header ∷ body_items c =
    list_same (header.item b.header ∷ body_items b) (header.item c.header ∷ body_items c) same in
    cc

module _ (d : List ℕ) (b c : Block) (short : length d < 2 ^ 64) (one : d ≡ encoding (block.item b)) (other : d ≡ encoding (block.item c)) where
  items_same : block.item b ≡ block.item c
  items_same =
      encoding_same (block.item b) (block.item c) (omega (arith, short, ap length one)) (omega (arith, short, ap length other)) (sym one ∙ other)

  -- the same bytes are two blocks with the same header
  pub header_bytes_same : header_bytes b ≡ header_bytes c
  header_bytes_same = ap encoding (first_same b c items_same)

  -- if one of two blocks with the same bytes has the body that its header names, so has the other
  pub names_same : NamesBody b → NamesBody c
  names_same names =
      sym (header_same b.header c.header (first_same b c items_same)) ∙ names ∙ body_same b c items_same

-- ---- the roots of withdrawals

-- the last item of a block with withdrawals is the list of the withdrawals
pub with_withdrawals : (d : List ℕ) (b : Block) (ws : Withdrawals) → b.withdrawals ≡ Some ws → d ≡ encoding (block.item b)
    → d ≡ encoding (list_of (header.item b.header ∷ list_of (map any_transaction.item (vec_items b.transactions)) ∷ list_of (map header.item (vec_items b.ommers)) ∷ withdrawals.item ws ∷ []))
with_withdrawals d b ws there is =
    is
    ∙ ap (λ (o : Option Withdrawals). encoding (list_of (header.item b.header ∷ list_of (map any_transaction.item (vec_items b.transactions)) ∷ list_of (map header.item (vec_items b.ommers)) ∷ items_if (λ w. withdrawals.item w ∷ []) o)))
    there

pub some_root : (h : Hash) (o : Option Withdrawals) (ws : Withdrawals) → o ≡ Some ws
    → IsRootOf h (map bytes_alone (map withdrawal.item (vec_items ws.0))) → IsWithdrawalsRoot (Some h) o
some_root h o ws is found =
    let same = withdrawals_alone (vec_items ws.0) in
    record {
      root = ap Some (found.root ∙ ap ordered_root same) ∙ ap (option_map (λ w. ordered_root (withdrawal_values w))) (sym is);
      listed = subst (λ (vs : List (List ℕ)). AreListed 0 vs) (same ∙ ap listed_withdrawals (sym is)) found.listed;
    }

pub no_root : (o : Option Withdrawals) → o ≡ None → IsWithdrawalsRoot None o
no_root None is = record { root = refl; listed = record { values = search rules; places = omega arith } }
no_root (Some w) is = absurd (let no : ⊥ = cc in no)
