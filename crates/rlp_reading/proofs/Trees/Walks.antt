-- The walk over the items of a list, and the rows that it writes.
use Rattle.rlp_reading.specs.{Format.TreeFaults.{faulty, refused, is_needless}, Format.Flat.{IsFlat, flat_item, flat_rows, flat_rows_inside}}
use Rattle.rlp_reading.proofs.{Lemmas.Frames.item_some, Lemmas.Texts.framing-followed, Trees.Needless.{list_header, whole_item}, Lemmas.Items.{encoding_same}}
use Rattle.rlp_reading.proofs.Trees.Canonical.{walk_fault-deep, tree_fault-frame, needless_fault-none, needless_fault-some}
use Rattle.std.proofs.Common.{◌≡◌, ℕ, ◌+◌, ◌≤◌, List, ◌++◌, length, take, drop, take-append-drop, sym, ap, ◌∙◌, subst, arith, append_assoc, length-append}
use Rattle.std.proofs.Common.{◌^◌, ◌<◌, [], take_all, take_at, Result, Ok, Err, Some, None, IfErr, MatchResult, ◌≢◌, ◌-◌, true, false, ◌∷◌}
use Rattle.std.proofs.{Common.{append-nil, length-take-le, length-drop}, lemmas.List.drop-drop, lemmas.Grind.{common_steps}}
use Rattle.rlp_format.proofs.Lemmas.Encodings.{join_items_is}
use Rattle.rlp_format.specs.Format.Encoding.{Item, items_from, list_of, item_depth, items_depth, encoding, join}
use Rattle.rlp_reading.specs.{Format.Walk.{Extends, IsWalked, IsNeverCanonical}, declared.flat.FlatItem.FlatItem, declared.flat.TreeFault.TreeFault}
use Rattle.rlp_reading.specs.Format.Framing.{strict_fault, fault, value, begins_as_list, payload, split, IsCanonicalWithin}
use Rattle.rlp_reading.specs.{Format.TreeFaults.{tree_fault, walk_fault, payload_fault, needless_fault}, declared.error.DecoderError.DecoderError}
use Rattle.rlp_reading.specs.{declared.header.PayloadInfo.PayloadInfo, declared.flat.TreeFault.TheVariants.Decoding}
use Rattle.rlp_reading.proofs.Trees.Canonical.{tree_fault-inside, payload_fault-item, payload_fault-next, payload_fault-none, payload_fault-stray}
use Rattle.rlp_reading.proofs.{Trees.Canonical.{walk_fault-list, walk_fault-string}, Lemmas.Numbered.value-payload, Lemmas.Views.whole_by, Trees.Needless.{IsWhole, string_whole}}

pub extends_both : {R : Type 0} (old mid new : List R) (n m : ℕ) (rows more : List R) → Extends old n rows mid → m ≡ n + length rows → Extends mid m more new
    → Extends old n (rows ++ more) new
extends_both old mid new n m rows more first same then = record {
  same_len = then.same_len ∙ first.same_len;
  filled = λ fits. grind (arith, length-append, append_assoc);
  behind =
      let count : n + length (rows ++ more) ≡ m + length more = omega (arith, length-append rows more, same) in
      let kept : drop m mid ≡ drop m old = subst (λ k. drop k mid ≡ drop k old) (sym same) first.behind in
      ap (λ k. drop k new) count ∙ then.behind ∙ sym (drop-drop (length more) m mid) ∙ ap (drop (length more)) kept
      ∙ drop-drop (length more) m old ∙ ap (λ k. drop k old) (sym count);
}

-- rows that begin the array
pub extends_start : {R : Type 0} (old new : List R) (n : ℕ) (rows : List R) → Extends old 0 rows new → n ≡ length rows → n ≤ length old
    → new ≡ rows ++ drop n old
extends_start old new n rows e same fits = grind (arith, take-append-drop)

-- ---- the flat form of a tree, by two walks

pub flattened : {b : List ℕ} {most : ℕ} {none old new : List FlatItem} {n m : ℕ} → length b < 2 ^ 64 → length old ≡ n
    → IsWalked (λ item. item) b 0 0 most [] 0 none n → IsWalked (λ item. item) b 0 0 most old 0 new m → IsFlat most b new
flattened {old = old} {new = new} fits room counted w = grind (arith, encoding_same, take_all)

-- the items that were written are those of the vector
pub flattened_vec : {b : List ℕ} {most : ℕ} {none old new : List FlatItem} (rest : List FlatItem) {len n m : ℕ} → length b < 2 ^ 64 → length old ≡ len → len ≡ n
    → IsWalked (λ item. item) b 0 0 most [] 0 none n → IsWalked (λ item. item) b 0 0 most old 0 new m → IsFlat most b (take len (new ++ rest))
flattened_vec {b = b} {most = most} {new = new} rest {len = len} fits room same counted w =
    subst (IsFlat most b) (sym (take_at new rest len (w.rows.same_len ∙ room))) (flattened fits (room ∙ same) counted w)

-- the first fault of a walk over the whole bytes
pub fault_whole : (f b : List ℕ) (most : ℕ) (r : Result ℕ TreeFault) → f ≡ b → strict_fault b ≡ None
    → MatchResult r (λ _. walk_fault most f ≡ None) (λ e. walk_fault most f ≡ Some e) → IfErr r (λ e. tree_fault most b ≡ Some e)
fault_whole f b most r same whole none = grind (arith, tree_fault-inside)

-- ---- the walk over the items of a list

-- a string with its row
pub walked_string : {R : Type 0} {row_of : FlatItem → R}
    {b : List ℕ} {p : PayloadInfo} {c : List ℕ} {place depth most : ℕ} {old : List R} {count : ℕ} {new : List R}
    → IsWhole b p c → false ≡ begins_as_list b → is_needless b ≡ false → count ≤ place → 0 < length b
    → Extends old count (row_of (flat_item place depth false p.header_len p.value_len) ∷ []) new → IsWalked row_of b place depth most old count new (count + 1)
unfolding flat_rows
walked_string {row_of = row_of} {b = b} {p = p} {c = c} {place = place} {depth = depth} {most = most} {old = old} {count = count} {new = new} w kind plain few some wrote =
    let both = string_whole w kind plain in
    grind arith

-- the items that were walked, and their rows behind the list's own
pub record IsWalking {R : Type 0} (row_of : FlatItem → R)
    (b rest : List ℕ) (p : PayloadInfo) (place depth most : ℕ) (old : List R) (count : ℕ) (new : List R) (n : ℕ) : Type 0 where
  pub done : List Item
  pub whole : payload b ≡ join done ++ rest
  pub shallow : items_depth (items_from done) ≤ most
  pub follows : payload_fault (walk_fault most) (payload b) ≡ payload_fault (walk_fault most) rest
  pub rows : Extends old count (row_of (flat_item place depth true p.header_len p.value_len) ∷ flat_rows_inside row_of (place + p.header_len) (depth + 1) (items_from done)) new
  pub total : n ≡ count + 1 + length (flat_rows_inside row_of (place + p.header_len) (depth + 1) (items_from done))
  pub few : n + length rest ≤ place + length b
  pub within : p.header_len + length (payload b) ≡ length b

-- the items that were not walked are at the end of the bytes
pub walking_within : {R : Type 0} {row_of : FlatItem → R}
    {b rest : List ℕ} {p : PayloadInfo} {place depth most : ℕ} {old : List R} {count : ℕ} {new : List R} {n : ℕ}
    → IsWalking row_of b rest p place depth most old count new n → length rest ≤ length b
walking_within {rest = rest} w = omega (arith, w.within, ap length w.whole, length-append (join w.done) rest)

pub content_payload : {b : List ℕ} {p : PayloadInfo} {c : List ℕ} → IsWhole b p c → true ≡ begins_as_list b → value b ≡ Ok c
    → (c ≡ payload b) × (p.value_len ≡ length (payload b))
content_payload {b} {p} {c} w kind found = grind (arith, value-payload, length-take-le, length-drop)

pub walking_none : {R : Type 0} {row_of : FlatItem → R}
    {b : List ℕ} {p : PayloadInfo} {c : List ℕ} {place depth most : ℕ} {old : List R} {count : ℕ} {new : List R}
    → IsWhole b p c → true ≡ begins_as_list b → value b ≡ Ok c → 0 < p.header_len → count ≤ place
    → Extends old count (row_of (flat_item place depth true p.header_len p.value_len) ∷ []) new → IsWalking row_of b c p place depth most old count new (count + 1)
unfolding flat_rows_inside
walking_none {b = b} {p = p} {c = c} {most = most} {count = count} w kind found some few wrote =
    grind (arith, content_payload)

join-more : (xs : List Item) (x : Item) → join (xs ++ x ∷ []) ≡ join xs ++ encoding x
join-more xs x = grind (arith, common_steps)

depth-more : (xs : List Item) (x : Item) (most : ℕ) → items_depth (items_from xs) ≤ most → item_depth x ≤ most → items_depth (items_from (xs ++ x ∷ [])) ≤ most
depth-more [] x most few low = omega arith
depth-more (y ∷ xs) x most few low = let more : items_depth (items_from (xs ++ x ∷ [])) ≤ most = depth-more xs x most (omega arith) low in omega (arith, more)

flat_rows-more : {R : Type 0} (row_of : FlatItem → R) (place depth : ℕ) (xs : List Item) (x : Item) → flat_rows_inside row_of place depth (items_from (xs ++ x ∷ []))
    ≡ flat_rows_inside row_of place depth (items_from xs) ++ flat_rows row_of (place + length (join xs)) depth x
unfolding flat_rows_inside
flat_rows-more row_of place depth [] x = append-nil (flat_rows row_of place depth x) ∙ ap (λ k. flat_rows row_of k depth x) (let same : place ≡ place + 0 = omega arith in same)
flat_rows-more row_of place depth (y ∷ xs) x =
    grind (arith, length-append, append_assoc, flat_rows-more row_of (place + length (encoding y)) depth xs x)

pub walking_one : {R : Type 0} {row_of : FlatItem → R}
    {b rest item others : List ℕ} {p : PayloadInfo} {place depth most : ℕ} {old : List R} {count : ℕ} {mid new : List R} {n m : ℕ}
    → IsWalking row_of b rest p place depth most old count mid n → split rest ≡ item ∷ split others → rest ≡ item ++ others
    → IsWalked row_of item (place + (length b - length rest)) (depth + 1) most mid n new m → walk_fault most item ≡ None
    → IsWalking row_of b others p place depth most old count new m
walking_one {row_of = row_of} {b = b} {rest = rest} {item = item} {others = others} {p = p} {place = place} {depth = depth} {most = most} {old = old} {count = count} {mid = mid} {new = new} {n = n} w parts whole one fine =
    let at : place + (length b - length rest) ≡ place + p.header_len + length (join w.done) =
    omega (arith, w.within, ap length w.whole, length-append (join w.done) rest) in
    let rows : Extends mid n (flat_rows row_of (place + p.header_len + length (join w.done)) (depth + 1) one.x) new =
    subst (λ k. Extends mid n (flat_rows row_of k (depth + 1) one.x) new) at one.rows in
    let more = flat_rows-more row_of (place + p.header_len) (depth + 1) w.done one.x in
    let start = place + p.header_len in
    record {
      done = w.done ++ one.x ∷ [];
      whole = grind (arith, append_assoc, join-more);
      shallow = depth-more w.done one.x most w.shallow one.deep;
      follows = w.follows ∙ payload_fault-next (walk_fault most) rest item others parts whole fine;
      rows = subst (λ rows. Extends old count (row_of (flat_item place depth true p.header_len p.value_len) ∷ rows) new) (sym more)
          (extends_both old mid new count n (row_of (flat_item place depth true p.header_len p.value_len) ∷ flat_rows_inside row_of (place + p.header_len) (depth + 1) (items_from w.done))
          (flat_rows row_of (place + p.header_len + length (join w.done)) (depth + 1) one.x) w.rows (omega (arith, w.total)) rows);
      total = grind (arith, length-append);
      few = grind (arith, length-append);
      within = w.within;
    }

pub walking_all : {R : Type 0} {row_of : FlatItem → R}
    {b rest : List ℕ} {p : PayloadInfo} {c : List ℕ} {place depth most : ℕ} {old : List R} {count : ℕ} {new : List R} {n : ℕ}
    → IsWhole b p c → true ≡ begins_as_list b → value b ≡ Ok c → most ≢ 0 → rest ≡ []
    → IsWalking row_of b rest p place depth (most - 1) old count new n → IsWalked row_of b place depth most old count new n
unfolding flat_rows
walking_all {row_of = row_of} {b = b} {p = p} {c = c} {place = place} {depth = depth} {most = most} {old = old} {count = count} {new = new} w kind found some none is =
    let joined : payload b ≡ join is.done = is.whole ∙ ap (λ r. join is.done ++ r) none ∙ append-nil (join is.done) in
    let same : b ≡ encoding (list_of is.done) = whole_by b p.header_len p.value_len is.done (sym kind) joined w.has w.whole in
    grind (arith, join_items_is)

-- a walk within no lists is one within any
pub walked_within : {R : Type 0} {row_of : FlatItem → R}
    {b : List ℕ} {place depth most : ℕ} {old : List R} {count : ℕ} {new : List R} {n : ℕ}
    → IsWalked row_of b place depth 0 old count new n → IsWalked row_of b place depth most old count new n
walked_within {most = most} w = grind arith

-- the answer of a string within no lists is one within any
pub walked_string_within : {R : Type 0} (row_of : FlatItem → R)
    (b : List ℕ) (place depth most : ℕ) (old : List R) (count : ℕ) (new : List R) (r : Result ℕ TreeFault)
    → MatchResult r (λ n. IsWalked row_of b place depth 0 old count new n) (λ _. IsNeverCanonical b)
    → MatchResult r (λ n. IsWalked row_of b place depth most old count new n) (λ _. ¬ IsCanonicalWithin most b)
walked_string_within row_of b place depth most old count new (Ok n) w = walked_within w
walked_string_within row_of b place depth most old count new (Err e) never = never most

pub fault_within : (b : List ℕ) (most : ℕ) (r : Result ℕ TreeFault) → begins_as_list b ≡ false
    → MatchResult r (λ _. needless_fault b ≡ None) (λ e. needless_fault b ≡ Some e)
    → MatchResult r (λ _. walk_fault most b ≡ None) (λ e. walk_fault most b ≡ Some e)
fault_within b most r kind none = grind (arith, walk_fault-string)

-- ---- the faults of a list

module _ {R : Type 0} {row_of : FlatItem → R} {b rest : List ℕ} {p : PayloadInfo} {place depth most : ℕ} {old : List R} {count : ℕ} {new : List R} {n : ℕ}
    (kind : true ≡ begins_as_list b) (some : most ≢ 0) (w : IsWalking row_of b rest p place depth (most - 1) old count new n) where
  -- the next item has a fault
  pub fault_of_item : (item others : List ℕ) (e : TreeFault) → split rest ≡ item ∷ split others → walk_fault (most - 1) item ≡ Some e
      → walk_fault most b ≡ Some e
  fault_of_item item others e parts fault = grind (arith, payload_fault-item, walk_fault-list)

  -- no item is next
  pub fault_of_bytes : (e : DecoderError) → split rest ≡ [] → 0 < length rest → e ≡ fault rest → walk_fault most b ≡ Some (Decoding e)
  fault_of_bytes e none more is = grind (arith, payload_fault-stray, walk_fault-list)

  -- all items are fine
  pub fault_of_none : rest ≡ [] → walk_fault most b ≡ None
  fault_of_none none = grind (arith, payload_fault-none, walk_fault-list)

pub ruleset whole_walks = (tree_fault-frame)

pub ruleset walked_strings = (needless_fault-some, needless_fault-none, item_some)

pub ruleset flattenings = (faulty, refused, flattened_vec)

pub ruleset walks = (framing-followed, length-append, item_some, list_header, whole_item, walk_fault-deep, fault_within, walked_string_within, walking_none, walking_one, walking_within)
