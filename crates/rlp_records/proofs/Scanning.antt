-- The scan of the encodings of items for envelopes at a depth, item by item.
use Rattle.std.proofs.Common.{◌≡◌, ℕ, suc, ◌+◌, ◌-◌, ◌^◌, ◌<◌, ◌≤◌, ⊎_elim, true, false, List, [], ◌∷◌, ◌++◌, length, take, drop, get_or}
use Rattle.std.proofs.{Common.{refl, sym, ap, ◌∙◌, subst, arith, length-append, append-nil, drop_at, Some, None, Ok, Err}, lemmas.Bool.{cond-false}, lemmas.List.{length-drop, take_all}}
use Rattle.rlp.specs.{DecoderError.DecoderError, FlatItem.FlatItem}
use Rattle.rlp.specs.Format.Encoding.{Item, Items, item_and, list, no_items, string, IsSized, encoding, join_items, written_header}
use Rattle.rlp.specs.Format.Framing.{IsFramedItem, frame, value, HasHeader, lone, written, begins_as_list}
use Rattle.rlp.specs.{Format.Framing.{IsCanonicalWithin, strict_fault}, Format.Walk.IsWalked, Values.RawItem.raw_item_of}
use Rattle.rlp_format.proofs.Lemmas.Encodings.{IsWritten, list_written, string_cases}
use Rattle.rlp_reading.proofs.{Lemmas.Frames.{encoding_item, frame_front, framed_same, item_some, value_is}, RawLaws.{list_by, raw_item_of-encoding}}
use Rattle.rlp_records.proofs.{AfterByte.with_first, Bounds.{told_encoding, told_no_encoding}}
use Rattle.rlp_records.specs.Bounded.{bytes_counted, is_read_type, items_in, items_in_all_envelopes, items_in_envelopes, items_in_string, payload_items}

-- ---- payloads

pub walk_counted : (b : List ℕ) (old new : List FlatItem) (n : ℕ) → length b < 2 ^ 64 → begins_as_list b ≡ true
    → IsWalked (λ item. item) b 0 0 256 old 0 new n → n ≡ payload_items b
walk_counted b old new n short kind walked =
    let within : IsCanonicalWithin 256 b = (walked.x, walked.is, walked.deep) in
    let same : raw_item_of b ≡ walked.x = raw_item_of-encoding b walked.x short walked.is walked.deep in
    let counted : n ≡ items_in walked.x = let total = walked.total in omega (arith, total) in
    grind (arith, told_encoding b short within)

bytes_are_counted : (b : List ℕ) (n : ℕ) → begins_as_list b ≡ true → ¬ IsCanonicalWithin 256 b → n ≡ bytes_counted b (strict_fault b)
    → n ≡ payload_items b
bytes_are_counted b n kind none counted = grind (arith, told_no_encoding b none)

-- a whole list that isn't an encoding
pub whole_counted : (b : List ℕ) → begins_as_list b ≡ true → ¬ IsCanonicalWithin 256 b → strict_fault b ≡ None → length b ≡ payload_items b
whole_counted b kind none whole = bytes_are_counted b (length b) kind none (ap (bytes_counted b) (sym whole))

-- bytes with a strict fault
pub cut_counted : (b : List ℕ) (e : DecoderError) → begins_as_list b ≡ true → ¬ IsCanonicalWithin 256 b → strict_fault b ≡ Some e → 0 ≡ payload_items b
cut_counted b e kind none faulty = bytes_are_counted b 0 kind none (ap (bytes_counted b) (sym faulty))

pub ruleset payloads_counted = (walk_counted, whole_counted, cut_counted)

-- a string with a type that is read, and another
pub payload_in_string : (d payload : List ℕ) (kind n : ℕ) → d ≡ kind ∷ payload → is_read_type kind ≡ true → n ≡ payload_items payload → n ≡ items_in_string d
payload_in_string d payload kind n is known counted = sym (ap items_in_string is ∙ grind arith)

pub none_in_string : (d payload : List ℕ) (kind : ℕ) → d ≡ kind ∷ payload → is_read_type kind ≡ false → 0 ≡ items_in_string d
none_in_string d payload kind is other = sym (cond-false (is_read_type kind) (payload_items payload) 0 other) ∙ sym (ap items_in_string is)

-- the same by the first byte and the others
pub front_counted : (d : List ℕ) (n : ℕ) → 1 ≤ length d → is_read_type (get_or d 0 0) ≡ true → n ≡ payload_items (take (length d - 1) (drop 1 d))
    → n ≡ items_in_string d
front_counted d n some known counted =
    payload_in_string d (take (length d - 1) (drop 1 d)) (get_or d 0 0) n (with_first (get_or d 0 0) d some refl) known counted

pub front_other : (d : List ℕ) → 1 ≤ length d → is_read_type (get_or d 0 0) ≡ false → 0 ≡ items_in_string d
front_other d some other = none_in_string d (take (length d - 1) (drop 1 d)) (get_or d 0 0) (with_first (get_or d 0 0) d some refl) other

pub none_in_empty : (d : List ℕ) → length d ≡ 0 → 0 ≡ items_in_string d
none_in_empty [] none = refl
none_in_empty (byte ∷ d) none = absurd (omega (arith, none))

pub few_in_string : (d : List ℕ) (n : ℕ) → 1 ≤ length d → n ≤ length (take (length d - 1) (drop 1 d)) → n ≤ length d
few_in_string d n some few =
    let whole = ap length (with_first (get_or d 0 0) d some refl) in omega (arith, few, whole)

pub ruleset strings_counted = (payload_in_string, none_in_string, front_counted, front_other, none_in_empty, few_in_string)

-- ---- an item

-- the value of bytes that are a header and a payload is the payload
written_value : (base : ℕ) (payload item content : List ℕ) → IsWritten base payload item → value item ≡ Ok content → content ≡ payload
written_value base payload item content w read =
    let header : List ℕ = written_header base (length payload) in
    let has : HasHeader item (length header) (length payload) =
    subst (λ s. HasHeader s (length header) (length payload)) (sym w.is) (written base (length payload) payload w.is_base w.small) in
    let within : length header + length payload ≤ length item = omega (arith, ap length w.is, length-append header payload) in
    let given : value item ≡ Ok (take (length payload) (drop (length header) item)) = value_is item (length header) (length payload) has within in
    let taken : take (length payload) (drop (length header) item) ≡ payload =
    ap (λ s. take (length payload) (drop (length header) s)) w.is
    ∙ ap (take (length payload)) (drop_at header payload (length header) refl)
    ∙ take_all (length payload) payload (omega arith) in
    let same : content ≡ take (length payload) (drop (length header) item) = cc in
    same ∙ taken

-- the value of the encoding of a string is the string
string_value : (d item content : List ℕ) → IsSized (string d) → item ≡ encoding (string d) → value item ≡ Ok content → content ≡ d
unfolding encoding
string_value d item content sized is read = ⊎_elim
    (λ low.
    let one : d ≡ low.0.byte ∷ [] = low.0.is in
    let front : item ≡ low.0.byte ∷ [] = is ∙ low.1 ∙ one in
    let has : HasHeader item 0 1 = subst (λ s. HasHeader s 0 1) (sym front) (lone low.0.byte [] low.0.low) in
    let given : value item ≡ Ok (take 1 (drop 0 item)) = value_is item 0 1 has (omega (arith, ap length front)) in
    let taken : take 1 (drop 0 item) ≡ low.0.byte ∷ [] = ap (λ s. take 1 (drop 0 s)) front in
    let same : content ≡ take 1 (drop 0 item) = cc in
    same ∙ taken ∙ sym one)
    (λ w. written_value 0x80 d item content (subst (IsWritten 0x80 d) (sym is) w) read)
    (string_cases d sized)

-- the value of the encoding of a list is the encodings of its items
list_value : (xs : Items) (item content : List ℕ) → IsSized (list xs) → item ≡ encoding (list xs) → value item ≡ Ok content → content ≡ join_items xs
list_value xs item content sized is read =
    written_value 0xc0 (join_items xs) item content (subst (IsWritten 0xc0 (join_items xs)) (sym is) (list_written xs sized)) read

-- what is counted of an item that stands at the depth of envelopes
module _ (item content : List ℕ) (read : value item ≡ Ok content) (short : length item < 2 ^ 64) where
  sized_by : (y : Item) → item ≡ encoding y → IsSized y
  sized_by y is = omega (arith, short, ap length is)

  pub string_counted : (n : ℕ) → begins_as_list item ≡ false → n ≡ items_in_string content → (y : Item) → item ≡ encoding y → n ≡ items_in_envelopes 0 y
  string_counted n kind counted (string d) is = counted ∙ ap items_in_string (string_value d item content (sized_by (string d) is) is read)
  string_counted n kind counted (list xs) is = absurd (let by = list_by (list xs) item short is in let no : ⊥ = cc in no)

  pub list_uncounted : begins_as_list item ≡ true → (y : Item) → item ≡ encoding y → 0 ≡ items_in_envelopes 0 y
  list_uncounted kind (string d) is = absurd (let by = list_by (string d) item short is in let no : ⊥ = cc in no)
  list_uncounted kind (list xs) is = refl

  -- and of an item that stands inside fewer lists
  module _ (depth : ℕ) (some : 0 < depth) where
    pub list_counted : (n : ℕ) → begins_as_list item ≡ true → ((xs : Items) → content ≡ join_items xs → n ≡ items_in_all_envelopes (depth - 1) xs)
        → (y : Item) → item ≡ encoding y → n ≡ items_in_envelopes depth y
    list_counted n kind counted (string d) is = absurd (let by = list_by (string d) item short is in let no : ⊥ = cc in no)
    list_counted n kind counted (list xs) is =
        let own = counted xs (list_value xs item content (sized_by (list xs) is) is read) in
        subst (λ k. n ≡ items_in_envelopes k (list xs)) (let same : suc (depth - 1) ≡ depth = omega (arith, some) in same) own

    pub string_uncounted : begins_as_list item ≡ false → (y : Item) → item ≡ encoding y → 0 ≡ items_in_envelopes depth y
    string_uncounted kind (string d) is =
        subst (λ k. 0 ≡ items_in_envelopes k (string d)) (let same : suc (depth - 1) ≡ depth = omega (arith, some) in same) refl
    string_uncounted kind (list xs) is = absurd (let by = list_by (list xs) item short is in let no : ⊥ = cc in no)

-- ---- items that are left

-- these are the items that are left, and what was counted is all but what is in these
pub record IsLeft (depth : ℕ) (rest : List ℕ) (total count : ℕ) : Type 0 where
  pub left : Items
  pub bytes : rest ≡ join_items left
  pub total_is : total ≡ count + items_in_all_envelopes depth left

-- The bytes that are left are the encodings of the last items, if the bytes are the encodings of items, and what was counted is no more than the bytes before.
pub record IsScanning (depth : ℕ) (b rest : List ℕ) (count : ℕ) : Type 0 where
  pub counted : (xs : Items) → b ≡ join_items xs → IsLeft depth rest (items_in_all_envelopes depth xs) count
  pub few : count + length rest ≤ length b

-- nothing is counted yet
pub scan_begins : (depth : ℕ) (b : List ℕ) → IsScanning depth b b 0
scan_begins depth b = record {
  counted = λ xs is. record { left = xs; bytes = is; total_is = omega arith };
  few = omega arith;
}

-- the first of the items that are left is the framed item in front
front_is : (y : Item) (ys : Items) (rest item others : List ℕ) → length rest < 2 ^ 64 → rest ≡ join_items (item_and y ys) → IsFramedItem item
    → rest ≡ item ++ others → (item ≡ encoding y) × (others ≡ join_items ys)
unfolding encoding
front_is y ys rest item others short is framed whole =
    let sized : IsSized y = omega (arith, short, ap length is, length-append (encoding y) (join_items ys)) in
    framed_same item (encoding y) others (join_items ys) framed (encoding_item y sized) (sym whole ∙ is)

module _ (depth : ℕ) (b rest item others : List ℕ) (count more : ℕ) (short : length b < 2 ^ 64) (framed : IsFramedItem item) (whole : rest ≡ item ++ others)
    (inside : (y : Item) → item ≡ encoding y → more ≡ items_in_envelopes depth y) (few : more ≤ length item) where
  left_after : (total : ℕ) → length rest < 2 ^ 64 → (left : Items) → rest ≡ join_items left → total ≡ count + items_in_all_envelopes depth left
      → IsLeft depth others total (count + more)
  unfolding encoding
  left_after total small no_items bytes is = absurd (omega (arith, item_some item framed, ap length bytes, ap length whole, length-append item others))
  left_after total small (item_and y ys) bytes is =
      let front = front_is y ys rest item others small bytes framed whole in
      let counted = inside y front.0 in
      record { left = ys; bytes = front.1; total_is = omega (arith, is, counted) }

  -- the item in front is counted
  pub scan_item : IsScanning depth b rest count → IsScanning depth b others (count + more)
  scan_item s =
      let before = s.few in
      record {
        counted = λ xs is. let l = s.counted xs is in left_after _ (omega (arith, before, short)) l.left l.bytes l.total_is;
        few = omega (arith, before, few, ap length whole, length-append item others);
      }

  -- the count is no more than the number of the bytes
  pub count_fits : IsScanning depth b rest count → count + more < 2 ^ 64
  count_fits s = let below = (scan_item s).few in omega (arith, below, short)

-- an item in front of which nothing is counted
pub scan_passed : (depth : ℕ) (b rest item others : List ℕ) (count : ℕ) → length b < 2 ^ 64 → IsFramedItem item → rest ≡ item ++ others
    → ((y : Item) → item ≡ encoding y → 0 ≡ items_in_envelopes depth y) → IsScanning depth b rest count → IsScanning depth b others count
scan_passed depth b rest item others count short framed whole inside s =
    subst (IsScanning depth b others) (let same : count + 0 ≡ count = omega arith in same)
    (scan_item depth b rest item others count 0 short framed whole inside (omega arith) s)

-- the value of an item is no longer than the item
pub content_short : (item content : List ℕ) (n : ℕ) → content ≡ drop n item → length content ≤ length item
content_short item content n is = omega (arith, ap length is, length-drop n item)

module _ (depth : ℕ) (b rest : List ℕ) (count : ℕ) (e : DecoderError) (short : length b < 2 ^ 64) (none : frame rest ≡ Err e) where
  end_left : (total : ℕ) → length rest < 2 ^ 64 → (left : Items) → rest ≡ join_items left → total ≡ count + items_in_all_envelopes depth left → count ≡ total
  unfolding encoding
  end_left total small no_items bytes is = omega (arith, is)
  end_left total small (item_and y ys) bytes is =
      let sized : IsSized y = omega (arith, small, ap length bytes, length-append (encoding y) (join_items ys)) in
      let framed : frame rest ≡ Ok (encoding y) = ap frame bytes ∙ frame_front (encoding y) (join_items ys) (encoding_item y sized) in
      absurd (let no : ⊥ = cc in no)

  -- with no item in front, all of them are counted
  pub scan_ends : IsScanning depth b rest count → (xs : Items) → b ≡ join_items xs → count ≡ items_in_all_envelopes depth xs
  scan_ends s xs is = let before = s.few in let l = s.counted xs is in end_left _ (omega (arith, before, short)) l.left l.bytes l.total_is

  pub scan_few : IsScanning depth b rest count → count ≤ length b
  scan_few s = let before = s.few in omega (arith, before)

-- the encoding of one item
pub one_counted : (depth n : ℕ) (b : List ℕ) → ((xs : Items) → b ≡ join_items xs → n ≡ items_in_all_envelopes depth xs)
    → (x : Item) → b ≡ encoding x → n ≡ items_in_envelopes depth x
unfolding encoding
one_counted depth n b counted x is = omega (arith, counted (item_and x no_items) (is ∙ sym (append-nil (encoding x))))

-- for the scans
pub ruleset scanning = (scan_begins, scan_ends, scan_few, content_short)
