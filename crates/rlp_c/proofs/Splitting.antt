-- The walk over the items of one list.
use Rattle.std.proofs.Common.{◌≡◌, ℕ, ◌+◌, ◌-◌, ◌^◌, ◌<◌, ◌≤◌, ◌⊎◌, inl, inr, suc, true, List, [], ◌∷◌, ◌++◌, length, drop, refl, sym, ap, ◌∙◌, subst}
use Rattle.std.proofs.Common.{arith, Ok, Some, None, append-nil, append_assoc, length-append}
use Rattle.rlp_reading.specs.{declared.error.DecoderError.DecoderError, declared.header.PayloadInfo.PayloadInfo, declared.flat.TreeFault.TreeFault, Format.TreeFaults.tree_fault}
use Rattle.rlp_reading.specs.Format.Framing.{IsFramedItem, fault, framing, value, begins_as_list, split, after_items, fault_of_some, strict_fault}
use Rattle.rlp_reading.specs.{Format.Framing.{strict_list_fault, IsCanonicalWithin}, Format.Walk.{Extends, IsWalked}}
use Rattle.rlp_reading.proofs.Lemmas.Numbered.{split-nil, after_items-next, after_items-nil, after_items-none, fault_of_some-some, some_bytes}
use Rattle.rlp_reading.proofs.{Lemmas.Numbered.{strict_not_begun, strict_not_whole, strict_whole, value-items}, Trees.Needless.whole_item}
use Rattle.rlp_reading.proofs.Trees.Walks.{extends_both, extends_start, content_payload}
use Rattle.rlp_c.specs.{declared.item.RlpItem.RlpItem, Rows.{ArePlaced, IsItemized, header_length, row, row_by, rows_at}}
use Rattle.rlp_c.specs.{Status.{fault_status, tree_status}, Rows.{IsFlattened, filled, flat, no_room, refused, row_of}}
use Rattle.std.specs.List.{concat}

-- the first items have rows, and the others are those of the rest
pub record IsSplitting (p rest : List ℕ) (place : ℕ) (old new : List RlpItem) (n : ℕ) : Type 0 where
  pub done : List (List ℕ)
  pub all : done ++ split rest ≡ split p
  pub follows : after_items p ≡ after_items rest
  pub rows : Extends old 0 (rows_at place 1 done) new
  pub total : n ≡ length (rows_at place 1 done)
  pub counted : n ≡ length done
  pub bytes : length (concat done) + length rest ≡ length p
  pub few : n + length rest ≤ length p

rows_none : (old : List RlpItem) (place : ℕ) → Extends old 0 (rows_at place 1 []) old
unfolding rows_at
rows_none old place = record { same_len = refl; filled = λ fits. refl; behind = refl }

length_none : (place : ℕ) → 0 ≡ length (rows_at place 1 [])
unfolding rows_at
length_none place = refl

rows-more : (place depth : ℕ) (fs : List (List ℕ)) (f : List ℕ) → rows_at place depth (fs ++ f ∷ [])
    ≡ rows_at place depth fs ++ row_by (place + length (concat fs)) depth (begins_as_list f) (framing f) ∷ []
unfolding rows_at
rows-more place depth [] f = ap (λ k. row_by k depth (begins_as_list f) (framing f) ∷ []) (let same : place ≡ place + 0 = omega arith in same)
rows-more place depth (g ∷ fs) f = grind (arith, length-append, rows-more (place + length g) depth fs f)

pub splitting_none : (p : List ℕ) (place : ℕ) (old : List RlpItem) → IsSplitting p p place old old 0
splitting_none p place old = grind (arith, rows_none, length_none)

concat-more : (fs : List (List ℕ)) (f : List ℕ) → length (concat (fs ++ f ∷ [])) ≡ length (concat fs) + length f
concat-more [] f = omega (arith, ap length (append-nil f))
concat-more (g ∷ fs) f = omega (arith, concat-more fs f, length-append g (concat fs), length-append g (concat (fs ++ f ∷ [])))

pub splitting_one : (p rest item others : List ℕ) (place : ℕ) (h : PayloadInfo) (old mid new : List RlpItem) (n : ℕ) → IsSplitting p rest place old mid n
    → split rest ≡ item ∷ split others → rest ≡ item ++ others → framing item ≡ Ok h → 0 < length item
    → Extends mid n (row (place + (length p - length rest)) 1 (begins_as_list item) h ∷ []) new
    → IsSplitting p others place old new (n + 1)
splitting_one p rest item others place h old mid new n w parts whole header some wrote =
    let at : place + (length p - length rest) ≡ place + length (concat w.done) = omega (arith, w.bytes) in
    let same : row (place + (length p - length rest)) 1 (begins_as_list item) h
    ≡ row_by (place + length (concat w.done)) 1 (begins_as_list item) (framing item) =
    ap (λ k. row k 1 (begins_as_list item) h) at ∙ ap (λ r. row_by (place + length (concat w.done)) 1 (begins_as_list item) r) (sym header) in
    let one : Extends mid n (row_by (place + length (concat w.done)) 1 (begins_as_list item) (framing item) ∷ []) new =
    subst (λ r. Extends mid n (r ∷ []) new) same wrote in
    let more = rows-more place 1 w.done item in
    record {
      done = w.done ++ item ∷ [];
      all = append_assoc w.done (item ∷ []) (split others) ∙ ap (λ s. w.done ++ s) (sym parts) ∙ w.all;
      follows = w.follows ∙ after_items-next rest item others parts whole;
      rows = subst (λ rows. Extends old 0 rows new) (sym more)
          (extends_both old mid new 0 n (rows_at place 1 w.done) (row_by (place + length (concat w.done)) 1 (begins_as_list item) (framing item) ∷ [])
          w.rows (let c : n ≡ 0 + length (rows_at place 1 w.done) = omega (arith, w.total) in c) one);
      total = omega (
        arith,
        w.total,
        ap length more,
        length-append (rows_at place 1 w.done) (row_by (place + length (concat w.done)) 1 (begins_as_list item) (framing item) ∷ []),
      );
      counted = omega (arith, w.counted, length-append w.done (item ∷ []));
      bytes = omega (arith, w.bytes, concat-more w.done item, ap length whole, length-append item others);
      few = omega (arith, w.few, some, ap length whole, length-append item others);
    }

pub splitting_fault : (p rest : List ℕ) (place : ℕ) (old new : List RlpItem) (n : ℕ) (e : DecoderError) → IsSplitting p rest place old new n
    → split rest ≡ [] → 0 < length rest → e ≡ fault rest → fault_of_some (after_items p) ≡ Some e
splitting_fault p rest place old new n e w none some is = grind (arith, after_items-none, fault_of_some-some)

-- the walk has reached the end
pub record IsAllSplit (p : List ℕ) (place : ℕ) (old new : List RlpItem) (n : ℕ) : Type 0 where
  pub no_fault : fault_of_some (after_items p) ≡ None
  pub counted : n ≡ length (split p)
  pub rows : Extends old 0 (rows_at place 1 (split p)) new

pub splitting_ends : (p rest : List ℕ) (place : ℕ) (old new : List RlpItem) (n : ℕ) → IsSplitting p rest place old new n → rest ≡ []
    → IsAllSplit p place old new n
splitting_ends p rest place old new n w none = grind (arith, append-nil, split-nil, after_items-nil)

pub rows_counted : (place depth : ℕ) (fs : List (List ℕ)) → length (rows_at place depth fs) ≡ length fs
unfolding rows_at
rows_counted place depth [] = refl
rows_counted place depth (f ∷ fs) = ap (λ n. suc n) (rows_counted (place + length f) depth fs)

module _ (place : ℕ) (b q : List ℕ) (h : PayloadInfo) (kind : true ≡ begins_as_list b) where
  -- the payload ends within the bytes
  pub payload_fits : value b ≡ Ok q → IsFramedItem b → framing b ≡ Ok h → place + length b < 2 ^ 64 → place + h.header_len + length q < 2 ^ 64
  payload_fits found framed header small =
      let w = whole_item framed header found in
      let same = content_payload w kind found in
      omega (arith, small, w.whole, same.1, ap length same.0)

  -- the answer for a list
  pub itemized : (old new : List RlpItem) (old_count n status : ℕ) → strict_fault b ≡ None → value b ≡ Ok q → framing b ≡ Ok h
      → fault_of_some (after_items q) ≡ None → n ≡ length (split q) → Extends old 0 (rows_at (place + h.header_len) 1 (split q)) new
      → ((n ≤ length old) × (status ≡ 0)) ⊎ ((length old < n) × (status ≡ 13))
      → IsItemized place b old new old_count n status (strict_list_fault b)
  itemized old new old_count n status whole found header none count rows room =
      subst (IsItemized place b old new old_count n status) (sym none ∙ strict_whole b q kind whole found)
      (subst (λ fs. ArePlaced place b fs old new n status) (value-items b q kind found) (count, by room))
    where
      by : ((n ≤ length old) × (status ≡ 0)) ⊎ ((length old < n) × (status ≡ 13))
          → ((n ≤ length old) × (status ≡ 0) × (new ≡ rows_at (place + header_length (framing b)) 1 (split q) ++ drop n old)) ⊎ ((length old < n) × (status ≡ 13))
      by (inl (fits, ok)) =
          let len = rows_counted (place + h.header_len) 1 (split q) in
          inl (
            fits,
            ok,
            extends_start old new n (rows_at (place + h.header_len) 1 (split q)) rows (omega (arith, count, len)) fits
                ∙ ap (λ f. rows_at (place + header_length f) 1 (split q) ++ drop n old) (sym header),
          )
      by (inr full) = inr full

-- the answer for what isn't a list
pub not_itemized : (place : ℕ) (b : List ℕ) (old new : List RlpItem) (count status : ℕ) (e : DecoderError) → strict_list_fault b ≡ Some e
    → status ≡ fault_status e → IsItemized place b old new count count status (strict_list_fault b)
not_itemized place b old new count status e fault is = subst (IsItemized place b old new count count status) (sym fault) (is, refl)

pub ruleset payload_split = (splitting_none, splitting_fault, some_bytes)

pub ruleset list_split = (itemized, payload_fits, not_itemized, strict_not_begun, strict_not_whole, strict_whole)

-- ---- the answer of a whole walk

pub flattened : (lim most : ℕ) (b : List ℕ) (old new : List RlpItem) (old_count n : ℕ) → lim ≡ most → IsWalked row_of b 0 0 lim old 0 new n → n ≤ length new
    → IsFlattened most b old new old_count n 0
flattened lim most b old new old_count n same w few =
    let count : n ≡ length (flat 0 0 w.x) = omega (arith, w.total) in
    let room : n ≤ length old = omega (arith, few, w.rows.same_len) in
    filled w.x w.is (omega (arith, w.deep, same)) count room (extends_start old new n (flat 0 0 w.x) w.rows count room) refl

pub lacking : (lim most : ℕ) (b : List ℕ) (old new : List RlpItem) (old_count n : ℕ) → lim ≡ most → IsWalked row_of b 0 0 lim old 0 new n → length new < n
    → IsFlattened most b old new old_count n 13
lacking lim most b old new old_count n same w full =
    no_room w.x w.is (omega (arith, w.deep, same)) (let count : n ≡ length (flat 0 0 w.x) = omega (arith, w.total) in count) (omega (arith, full, w.rows.same_len)) refl

pub faulty : (lim most : ℕ) (b : List ℕ) (old new : List RlpItem) (old_count status : ℕ) (e : TreeFault) → lim ≡ most → tree_fault lim b ≡ Some e
    → ¬ IsCanonicalWithin lim b → status ≡ tree_status e → IsFlattened most b old new old_count old_count status
faulty lim most b old new old_count status e same found none is =
    refused e (subst (λ m. tree_fault m b ≡ Some e) same found) (subst (λ m. ¬ IsCanonicalWithin m b) same none) refl is
