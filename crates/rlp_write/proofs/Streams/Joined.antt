-- Values whose encodings are put one after another with no list open, and the encoding of the list of them.
use Rattle.std.proofs.Common.{◌≡◌, ℕ, ◌+◌, ◌-◌, ◌<◌, List, [], ◌∷◌, ◌++◌, length, take, drop, map, get_or, length-drop, append-nil, refl, sym, ap, ◌∙◌, arith}
use Rattle.std.proofs.lemmas.List.{drop_all, drop-take, map_more, flat_map_more}
use Rattle.rlp_format.specs.Format.Encoding.{Item, string, list, list_of, encoding, join, written_header}
use Rattle.rlp_format.proofs.Lemmas.Encodings.{encoding_list}
use Rattle.rlp_write.specs.Streams.Stream.{Stack, State, IsFinished, list_encoding, put_item}
use Rattle.rlp_write.proofs.{Streams.States.put_item-finished, Streams.Filling.all_more, Streams.Closings.{Follows, follows}}

-- an item that was put with no list open
pub record IsPutAlone (x : Item) (s t : State) : Type 0 where
  pub front : t.front ≡ s.front
  pub top : t.stack.inner ≡ s.stack.inner ++ encoding x
  pub finished : IsFinished t

-- with no list open, an item's encoding is put, and nothing is counted
pub put_alone : (x : Item) (s t : State) → IsFinished s → t ≡ put_item x s → IsPutAlone x s t
put_alone x s t none is =
    let stack = ap (λ (u : State). u.stack) is ∙ put_item-finished x s none in
    record { front = ap (λ (u : State). u.front) is ∙ front_kept x s; top = ap (λ (k : Stack ℕ). k.inner) stack; finished = ap (λ (k : Stack ℕ). k.lists) stack }
  where
    front_kept : (x : Item) (s : State) → (put_item x s).front ≡ s.front
    front_kept (string b) s = refl
    front_kept (list xs) s = refl

-- the joined encodings of one more value
pub joined_more : {A : Type 0} (item : A → Item) (values : List A) (i : ℕ) (x d : A) → i < length values → x ≡ get_or values i d
    → join (map item (take (i + 1) values)) ≡ join (map item (take i values)) ++ encoding (item x)
joined_more item values i x d inside is =
    ap join (map_more item values i d inside ∙ ap (λ y. map item (take i values) ++ item y ∷ []) (sym is)) ∙ sym (flat_map_more encoding [] (map item (take i values)) (item x))

-- behind one byte, joined encodings are the payload of the list of their items
pub joined_list : (xs : List Item) (front inner out : List ℕ) (first : ℕ) → out ≡ front ++ inner → front ≡ first ∷ [] → inner ≡ join xs
    → list_encoding (drop 1 out) ≡ encoding (list_of xs)
joined_list xs front inner out first is begin rest = grind (arith, encoding_list)

pub ruleset joined = (put_alone, joined_more, all_more, joined_list)

-- ---- the header before them

payload_behind : (b grown : List ℕ) (len : ℕ) → len ≡ length b - 1 → take (length b) grown ≡ b → take len (drop 1 grown) ≡ drop 1 b
payload_behind [] grown len size front = ap (λ n. take n (drop 1 grown)) size
payload_behind (byte ∷ b) grown len size front = grind (arith, drop-take, front)

-- the payload was moved behind the place of its header
pub payload_moved : (b grown moved : List ℕ) (len h : ℕ) → len ≡ length b - 1 → take (length b) grown ≡ b → length grown ≡ h + len
    → moved ≡ take h grown ++ (take len (drop 1 grown) ++ drop (h + len) grown) → Follows h grown (drop 1 b) moved
payload_moved b grown moved len h many front all is =
    let none : drop (h + len) grown ≡ [] = drop_all (h + len) grown (omega arith) in
    let rest : take len (drop 1 grown) ++ drop (h + len) grown ≡ drop 1 b =
    rw (none, payload_behind b grown len many front) (append-nil (drop 1 b)) in
    follows h grown (drop 1 b) moved (omega arith) (is ∙ ap (λ z. take h grown ++ z) rest)

-- The payload stands behind the first byte of b. The buffer grows by the header's length minus one, the payload is moved behind the header, and the header is
-- written.
pub alone_written : (b grown moved final : List ℕ) (len h at : ℕ) → Follows h grown (drop 1 b) moved → len ≡ length b - 1 → h ≡ length (written_header 0xc0 len)
    → at + length (written_header 0xc0 (length moved - h)) ≡ h
    → final ≡ take at moved ++ (written_header 0xc0 (length moved - h) ++ drop h moved) → final ≡ list_encoding (drop 1 b)
alone_written b grown moved final len h at now many header begin written = grind (arith, length-drop)

pub ruleset alone = (length-drop, alone_written, payload_moved)
