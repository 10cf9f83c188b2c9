-- The hash of a bound block tells the block.
use Rattle.std.proofs.Common.{ℕ, ◌≡◌, ◌<◌, ◌^◌, ◌∙◌, ◌⊎◌, inl, inr, ⊎_elim, List, [], ◌∷◌, ◌++◌, length, map, refl, sym, ap, arith}
use Rattle.std.proofs.Common.{Option, None, Some, IfSome, option_map}
use Rattle.std.proofs.lemmas.List.Elements.{All-head, All-tail, Contains-append_left, Contains-append_right}
use Rattle.std.specs.{Option.option_and_then, Prelude.{All, Contains}, Vec.vec_items}
use Rattle.rlp_reading.proofs.{Corollaries.told_by_item, Lemmas.Items.encoding_same, ListLaws.same_written}
use Rattle.rlp.specs.{Codec.plain, Format.Encoding.{Item, encoding, list_of}, Values.Value.items_if}
use Rattle.rlp_records.proofs.{Bytes.bytes_tell, OtherTypes.any_strings}
use Rattle.rlp_records.specs.{Alone.bytes_alone, Keccak.keccak256, declared.known_or_other.KnownOrOther.KnownOrOther}
use Rattle.rlp_trie.proofs.OrderedLemmas.{lists_agree}
use Rattle.rlp_trie.specs.{Listed.{AreListed, HasCollision, known_of}, Ordered.{ordered_nodes, ordered_root}}
use Rattle.rlp_transactions.specs.{Transaction.{any_transaction, transaction_types}, declared.transaction.Transaction.Transaction}
use Rattle.rlp_headers.specs.{Forks.{london_fields, shanghai_fields}, Header.header, Withdrawal.{withdrawal, withdrawals}}
use Rattle.rlp_headers.specs.{declared.header.Header.Header, declared.header.forks.London.London, declared.header.forks.Shanghai.Shanghai}
use Rattle.rlp_headers.specs.{declared.withdrawal.Withdrawal.Withdrawal, declared.withdrawal.Withdrawals.Withdrawals}
use Rattle.rlp_blocks.proofs.Contents.{bytes_same_or_not}
use Rattle.rlp_blocks.specs.{Block.block, Bound.{IsBound, hashed, header_bytes, listed_withdrawals, ommers_bytes}, declared.block.Block.Block}
use Rattle.rlp_blocks.specs.Roots.{Roots, body_roots, header_roots, transaction_values, withdrawal_values}

-- ---- collisions

-- the strings of the first list are strings of the second list
abbrev AreAmong : List (List ℕ) → List (List ℕ) → Type 0
AreAmong xs ys = (s : List ℕ) → Contains xs s → Contains ys s

collides : (xs ys zs ws : List (List ℕ)) → AreAmong xs zs → AreAmong ys ws → HasCollision xs ys → HasCollision zs ws
collides xs ys zs ws among others found = record {
  first = found.first;
  second = found.second;
  in_one = among found.first found.in_one;
  in_other = others found.second found.in_other;
  differ = found.differ;
  hash = found.hash;
}

-- two items whose encodings have one hash are equal, or the encodings are a collision
items_told : (x y : Item) (xs ys : List (List ℕ)) → Contains xs (encoding x) → Contains ys (encoding y)
    → length (encoding x) < 2 ^ 64 → length (encoding y) < 2 ^ 64
    → keccak256 (encoding x) ≡ keccak256 (encoding y) → (x ≡ y) ⊎ HasCollision xs ys
items_told x y xs ys held also short few hash =
    ⊎_elim (λ same. inl (encoding_same x y short few same))
    (λ differ. inr (record { first = encoding x; second = encoding y; in_one = held; in_other = also; differ = differ; hash = hash }))
    (bytes_same_or_not (encoding x) (encoding y))

-- ---- the roots that headers name

-- the root of withdrawals that a header names, by what contracts see of the header
abbrev seen_shanghai : Option shanghai_fields.reading.M → Option (List ℕ)
seen_shanghai s = option_map (λ (m : shanghai_fields.reading.M). m.0) s

abbrev seen_london : Option london_fields.reading.M → Option (List ℕ)
seen_london l = seen_shanghai (option_and_then (λ (m : london_fields.reading.M). m.1) l)

shanghai_root : (s : Option Shanghai) → seen_shanghai (option_map shanghai_fields.reading.seen s) ≡ option_map (λ (x : Shanghai). x.withdrawals_root.0) s
shanghai_root None = refl
shanghai_root (Some s) = refl

london_root : (l : Option London) → seen_london (option_map london_fields.reading.seen l)
    ≡ option_map (λ (x : Shanghai). x.withdrawals_root.0) (option_and_then (λ (l : London). l.since_shanghai) l)
london_root None = refl
london_root (Some l) = shanghai_root l.since_shanghai

-- the roots that a header names, by what contracts see of the header
abbrev roots_of : header.reading.M → Roots
roots_of m = (m.1.1.1.1.0, (m.1.0, seen_london m.1.1.1.1.1.1.1.1.1.1.1.1.1.1.1))

roots_seen : (h : Header) → roots_of (header.reading.seen h) ≡ header_roots h
roots_seen h = ap (λ (root : Option (List ℕ)). let roots : Roots = (h.transactions_root.0, (h.ommers_hash.0, root)) in roots) (london_root h.since_london)

-- headers that are written as the same item name the same roots
same_roots : (h k : Header) → header.Fits h → header.Fits k → length (encoding (header.item h)) < 2 ^ 64
    → header.item h ≡ header.item k → header_roots h ≡ header_roots k
same_roots h k fit other short same =
    sym (roots_seen h) ∙ ap roots_of (told_by_item (plain header) header.reads_back h k fit other same short) ∙ roots_seen k

-- ---- the values of tries

module _ {A : Type 0} (Fits : A → Type 0) (item : A → Item) (bytes : Item → List ℕ)
    (tells : (x y : A) → Fits x → Fits y → length (bytes (item x)) < 2 ^ 63 → bytes (item x) ≡ bytes (item y) → item x ≡ item y) where
  -- lists with the same values of tries have the same items
  values_tell : (xs ys : List A) → All Fits xs → All Fits ys → All (λ v. length v < 2 ^ 63) (map bytes (map item xs))
      → map bytes (map item xs) ≡ map bytes (map item ys) → map item xs ≡ map item ys
  values_tell [] [] fit other short same = refl
  values_tell [] (y ∷ ys) fit other short same = absurd (let no : ⊥ = cc in no)
  values_tell (x ∷ xs) [] fit other short same = absurd (let no : ⊥ = cc in no)
  values_tell (x ∷ xs) (y ∷ ys) fit other short same =
      let value : bytes (item x) ≡ bytes (item y) = cc in
      let values : map bytes (map item xs) ≡ map bytes (map item ys) = cc in
      let small : length (bytes (item x)) < 2 ^ 63 = All-head (λ v. length v < 2 ^ 63) (bytes (item x)) (map bytes (map item xs)) short in
      let first : item x ≡ item y = tells x y (All-head Fits x xs fit) (All-head Fits y ys other) small value in
      let rest : map item xs ≡ map item ys =
      values_tell xs ys (All-tail Fits x xs fit) (All-tail Fits y ys other)
      (All-tail (λ v. length v < 2 ^ 63) (bytes (item x)) (map bytes (map item xs)) short) values in
      cc

transaction_told : (x y : KnownOrOther Transaction) → any_transaction.Fits x → any_transaction.Fits y → length (bytes_alone (any_transaction.item x)) < 2 ^ 63
    → bytes_alone (any_transaction.item x) ≡ bytes_alone (any_transaction.item y) → any_transaction.item x ≡ any_transaction.item y
transaction_told x y fit other short same =
    same_written any_transaction.reading.seen any_transaction.item any_transaction.reading.item any_transaction.reads_strictly.told.written x y
    (bytes_tell _ _ _ _ _ (any_strings transaction_types) x y fit other (omega (arith, short)) same)

withdrawal_told : (x y : Withdrawal) → withdrawal.Fits x → withdrawal.Fits y → length (encoding (withdrawal.item x)) < 2 ^ 63
    → encoding (withdrawal.item x) ≡ encoding (withdrawal.item y) → withdrawal.item x ≡ withdrawal.item y
withdrawal_told x y fit other short same =
    encoding_same (withdrawal.item x) (withdrawal.item y) (omega (arith, short)) (omega (arith, short, ap length same)) same

-- lists of values with one root are equal, or there is a collision
abbrev Collide : List (List ℕ) → List (List ℕ) → Type 0
Collide xs ys = HasCollision (known_of (ordered_nodes xs)) (known_of (ordered_nodes ys))

transactions_told : (xs ys : List (KnownOrOther Transaction)) → All any_transaction.Fits xs → All any_transaction.Fits ys
    → AreListed 0 (transaction_values xs) → AreListed 0 (transaction_values ys) → ordered_root (transaction_values xs) ≡ ordered_root (transaction_values ys)
    → (map any_transaction.item xs ≡ map any_transaction.item ys) ⊎ Collide (transaction_values xs) (transaction_values ys)
transactions_told xs ys fit other are also same =
    ⊎_elim
    (λ (values : transaction_values xs ≡ transaction_values ys).
    inl (values_tell any_transaction.Fits any_transaction.item bytes_alone transaction_told xs ys fit other are.values values))
    (λ (found : Collide (transaction_values xs) (transaction_values ys)). inr found)
    (lists_agree (transaction_values xs) (transaction_values ys) are also same)

-- the items of the withdrawals in a block, if there are withdrawals
abbrev withdrawals_items : Option Withdrawals → List Item
withdrawals_items w = items_if (λ ws. withdrawals.item ws ∷ []) w

withdrawals_told : (v w : Option Withdrawals) → IfSome v withdrawals.Fits → IfSome w withdrawals.Fits
    → AreListed 0 (listed_withdrawals v) → AreListed 0 (listed_withdrawals w)
    → option_map (λ ws. ordered_root (withdrawal_values ws)) v ≡ option_map (λ ws. ordered_root (withdrawal_values ws)) w
    → (withdrawals_items v ≡ withdrawals_items w) ⊎ Collide (listed_withdrawals v) (listed_withdrawals w)
withdrawals_told None None fit other are also same = inl refl
withdrawals_told None (Some w) fit other are also same = absurd (let no : ⊥ = cc in no)
withdrawals_told (Some v) None fit other are also same = absurd (let no : ⊥ = cc in no)
withdrawals_told (Some v) (Some w) fit other are also same =
    let root : ordered_root (withdrawal_values v) ≡ ordered_root (withdrawal_values w) = cc in
    ⊎_elim
    (λ (values : withdrawal_values v ≡ withdrawal_values w).
    let items : map withdrawal.item (vec_items v.0) ≡ map withdrawal.item (vec_items w.0) =
    values_tell withdrawal.Fits withdrawal.item encoding withdrawal_told (vec_items v.0) (vec_items w.0) fit other are.values values in
    inl (ap (λ xs. list_of xs ∷ []) items))
    (λ (found : Collide (withdrawal_values v) (withdrawal_values w)). inr found)
    (lists_agree (withdrawal_values v) (withdrawal_values w) are also root)

-- ---- blocks

parts_same : (h k os ps : Item) (ts us ws vs : List Item) → h ≡ k → ts ≡ us → os ≡ ps → ws ≡ vs
    → list_of (h ∷ list_of ts ∷ os ∷ ws) ≡ list_of (k ∷ list_of us ∷ ps ∷ vs)
parts_same h k os ps ts us ws vs header transactions ommers withdrawals = cc

abbrev transactions_of : Block → List (KnownOrOther Transaction)
transactions_of b = vec_items b.transactions

abbrev ommers_item : Block → Item
ommers_item b = list_of (map header.item (vec_items b.ommers))

module _ (b : Block) where
  header_among : Contains (hashed b) (header_bytes b)
  header_among = (0, omega arith, refl)

  ommers_among : Contains (hashed b) (ommers_bytes b)
  ommers_among = (1, omega arith, refl)

  abbrev transaction_nodes : List (List ℕ)
  transaction_nodes = known_of (ordered_nodes (transaction_values (transactions_of b)))

  abbrev withdrawal_nodes : List (List ℕ)
  withdrawal_nodes = known_of (ordered_nodes (listed_withdrawals b.withdrawals))

  transactions_among : AreAmong transaction_nodes (hashed b)
  transactions_among s held =
      Contains-append_right (header_bytes b ∷ ommers_bytes b ∷ []) (transaction_nodes ++ withdrawal_nodes) s
      (Contains-append_left transaction_nodes withdrawal_nodes s held)

  withdrawals_among : AreAmong withdrawal_nodes (hashed b)
  withdrawals_among s held =
      Contains-append_right (header_bytes b ∷ ommers_bytes b ∷ []) (transaction_nodes ++ withdrawal_nodes) s
      (Contains-append_right transaction_nodes withdrawal_nodes s held)

module _ (a b : Block) (one : IsBound a) (other : IsBound b) where
  abbrev AreTold : Type 0
  AreTold = (block.item a ≡ block.item b) ⊎ HasCollision (hashed a) (hashed b)

  abbrev roots_a : Roots
  roots_a = body_roots (transactions_of a) (vec_items a.ommers) a.withdrawals

  abbrev roots_b : Roots
  roots_b = body_roots (transactions_of b) (vec_items b.ommers) b.withdrawals

  -- one header names the roots of both bodies
  bodies_same : header.item a.header ≡ header.item b.header → roots_a ≡ roots_b
  bodies_same same = sym one.roots ∙ same_roots a.header b.header one.fits.0 other.fits.0 one.header same ∙ other.roots

  by_withdrawals : header.item a.header ≡ header.item b.header → map any_transaction.item (transactions_of a) ≡ map any_transaction.item (transactions_of b)
      → ommers_item a ≡ ommers_item b → AreTold
  by_withdrawals headers transactions ommers =
      ⊎_elim
      (λ (same : withdrawals_items a.withdrawals ≡ withdrawals_items b.withdrawals).
      inl (parts_same (header.item a.header) (header.item b.header) (ommers_item a) (ommers_item b)
      (map any_transaction.item (transactions_of a)) (map any_transaction.item (transactions_of b))
      (withdrawals_items a.withdrawals) (withdrawals_items b.withdrawals) headers transactions ommers same))
      (λ (found : Collide (listed_withdrawals a.withdrawals) (listed_withdrawals b.withdrawals)).
      inr (collides (withdrawal_nodes a) (withdrawal_nodes b) (hashed a) (hashed b) (withdrawals_among a) (withdrawals_among b) found))
      (withdrawals_told a.withdrawals b.withdrawals one.fits.1.1.1 other.fits.1.1.1 one.withdrawals other.withdrawals
      (ap (λ (r : Roots). r.1.1) (bodies_same headers)))

  by_ommers : header.item a.header ≡ header.item b.header → map any_transaction.item (transactions_of a) ≡ map any_transaction.item (transactions_of b)
      → AreTold
  by_ommers headers transactions =
      ⊎_elim
      (λ (same : ommers_item a ≡ ommers_item b). by_withdrawals headers transactions same)
      (λ (found : HasCollision (hashed a) (hashed b)). inr found)
      (items_told (ommers_item a) (ommers_item b) (hashed a) (hashed b) (ommers_among a) (ommers_among b) one.ommers other.ommers
      (ap (λ (r : Roots). r.1.0) (bodies_same headers)))

  by_transactions : header.item a.header ≡ header.item b.header → AreTold
  by_transactions headers =
      ⊎_elim
      (λ (same : map any_transaction.item (transactions_of a) ≡ map any_transaction.item (transactions_of b)). by_ommers headers same)
      (λ (found : Collide (transaction_values (transactions_of a)) (transaction_values (transactions_of b))).
      inr (collides (transaction_nodes a) (transaction_nodes b) (hashed a) (hashed b) (transactions_among a) (transactions_among b) found))
      (transactions_told (transactions_of a) (transactions_of b) one.fits.1.0 other.fits.1.0 one.transactions other.transactions
      (ap (λ (r : Roots). r.0) (bodies_same headers)))

  -- bound blocks with one hash are written as the same item, or there is a collision
  pub blocks_told : keccak256 (header_bytes a) ≡ keccak256 (header_bytes b) → AreTold
  blocks_told hash =
      ⊎_elim
      (λ (same : header.item a.header ≡ header.item b.header). by_transactions same)
      (λ (found : HasCollision (hashed a) (hashed b)). inr found)
      (items_told (header.item a.header) (header.item b.header) (hashed a) (hashed b) (header_among a) (header_among b) one.header other.header hash)
