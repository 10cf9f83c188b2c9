-- What bytes give is what was read of them, and lines whose digits are shown without a fault.
use Rattle.std.proofs.Common.{◌≡◌, ◌≢◌, ◌++◌, ◌^◌, ◌<◌, ◌≤◌, ◌==◌, ◌-◌, ◌⊎◌, inl, inr, if◌then◌else◌, ℕ, Bool, true, false, Some, Result, Ok, Err, IfSome, OnOk, List, [], drop, length, take, codes, refl, sym, ap, subst, ◌∙◌, arith, length-drop, length-take, nat_eq, slice_index}
use Rattle.std.proofs.lemmas.List.Elements.{All-from_get_or}
use Rattle.std.specs.{List.starts_with, Result.result_ok, Str.Lines.strip_carriage_return}
use Rattle.hex.proofs.HexLemmas.{decode_of-ok}
use Rattle.hex.specs.{Hex.decode_of, declared.error.FromHexError.FromHexError}
use Rattle.rlp.specs.{DecoderError.DecoderError, DecoderError.TheVariants.OutOfMemory, Format.Encoding.{AreBytes, Item, encoding}, Views.View.strict_view_of}
use Rattle.rlp_reading.specs.{Form.{Answer, Fault, IsPlaced, Path, Reading, fault_of, map_answer, map_value, path_unless}, Laws.GivesOnly, Laws.form_of}
use Rattle.rlp_reading.proofs.ListLaws.{is_mapped}
use Rattle.rlp_lines.specs.Digits.{bytes_in, digits_of}
use Rattle.rlp_records.specs.{Alone.bytes_alone, Eip2718.typed_alone, KnownOrOther.any_alone}
use Rattle.rlp_records.proofs.{TypedSums.typed_strings, OtherTypes.any_strings}
use Rattle.rlp_headers.specs.TypedReceipt.{any_receipt, receipt_types}
use Rattle.rlp_transactions.specs.{Transaction.any_transaction, Transaction.transaction_types, UnsignedTransaction.{unsigned_transaction, unsigned_types}}
use Rattle.rlp_show.specs.Answers.{IsAnswered, IsRead, kind_text, own_name, shown_text, text_answer, value_text}
use Rattle.rlp_show.specs.Shown.{Shown, ShowsAs, kind_shown, receipt_shown, signed_shown, transaction_shown, unsigned_or}
use Rattle.rlp_show.specs.{Records.any_receipt_display, Transactions.any_transaction_display, Transactions.unsigned_display}
use Rattle.rlp_show.specs.{Value.Value, Input.bytes_or_node, declared.answers.Form.Form, declared.kind.Kind.Kind}

module _ (form : Form) (kind : Kind) (name b : List ℕ) {M : Type 0} (a : Answer M Fault) (shown : M → Value) where
  -- a value
  pub value_given : (m : M) (v : Value) → a.result ≡ Ok m → shown m ≡ v → kind_text form kind name b (map_answer shown a) ≡ value_text form kind name b v
  value_given m v is same = ap (λ r. shown_text form kind name b (map_value shown r) a.path) is ∙ ap (value_text form kind name b) same

  -- a fault
  pub fault_given : (e : Fault) (path : Path) → a.result ≡ Err e → path ≡ a.path
      → kind_text form kind name b (map_answer shown a) ≡ shown_text form kind name b (Err e) path
  fault_given e path is same =
      ap (λ r. shown_text form kind name b (map_value shown r) a.path) is ∙ ap (shown_text form kind name b (Err e)) (sym same)

  module _ {T E : Type 0} (r : Result T E) (new old : List ℕ) where
    pub value_put : (m : M) (v : Value) → a.result ≡ Ok m → shown m ≡ v → OnOk r (new ≡ old ++ value_text form kind name b v)
        → OnOk r (new ≡ old ++ kind_text form kind name b (map_answer shown a))
    value_put m v is same put = subst (λ t. OnOk r (new ≡ old ++ t)) (sym (value_given m v is same)) put

    pub fault_put : (e : DecoderError) (path : Path) → ((a.result ≡ Err (fault_of e)) × (path ≡ a.path)) ⊎ (e ≡ OutOfMemory) → OnOk r (e ≢ OutOfMemory)
        → OnOk r (new ≡ old ++ shown_text form kind name b (Err (fault_of e)) path) → OnOk r (new ≡ old ++ kind_text form kind name b (map_answer shown a))
    fault_put e path (inl told) memory put = subst (λ t. OnOk r (new ≡ old ++ t)) (sym (fault_given (fault_of e) path told.0 told.1)) put
    fault_put e path (inr full) memory put = by r memory
      where
        by : (r : Result T E) → OnOk r (e ≢ OutOfMemory) → OnOk r (new ≡ old ++ kind_text form kind name b (map_answer shown a))
        by (Ok done) memory = absurd (memory full)
        by (Err e) memory = tt

-- the same is answered for what is the same
pub put_as : (form : Form) (kind : Kind) (name b : List ℕ) {T E : Type 0} (r : Result T E) (new old : List ℕ) (s t : Shown) → s ≡ t
    → OnOk r (new ≡ old ++ kind_text form kind name b s) → OnOk r (new ≡ old ++ kind_text form kind name b t)
put_as form kind name b r new old s t same put = subst (λ s. OnOk r (new ≡ old ++ kind_text form kind name b s)) same put

-- a fault, and the path of the fault, if memory wasn't refused
pub placed : {M : Type 0} (a : Answer M Fault) (e : DecoderError) (old path : Path) (P : Type 0)
    → (a.result ≡ Err (fault_of e)) ⊎ ((e ≡ OutOfMemory) × P) → IsPlaced a old path → old ≡ []
    → ((a.result ≡ Err (fault_of e)) × (path ≡ a.path)) ⊎ (e ≡ OutOfMemory)
placed a e old path P (inl is) leads empty =
    inl (is, subst (λ r. IfSome (path_unless r a.path) (λ p. path ≡ old ++ p)) is leads ∙ ap (λ o. o ++ a.path) empty)
placed a e old path P (inr full) leads empty = inr full.0

pub other_fault : {M : Type 0} (r : Result M Fault) (e : DecoderError) (P : Type 0) → (r ≡ Err (fault_of e)) ⊎ ((e ≡ OutOfMemory) × P) → e ≢ OutOfMemory
    → r ≡ Err (fault_of e)
other_fault r e P (inl is) other = is
other_fault r e P (inr full) other = absurd (other full.0)

pub unsigned_faulty : (b : List ℕ) (e : Fault) → (typed_alone unsigned_types b).result ≡ Err e → transaction_shown b ≡ signed_shown b
unsigned_faulty b e is = ap (unsigned_or (signed_shown b)) is

-- ---- lines

length-if : (t : Bool) (x y : List ℕ) (n : ℕ) → length x ≤ n → length y ≤ n → length (if t then x else y) ≤ n
length-if true x y n h k = h
length-if false x y n h k = k

-- a slice can have the bytes of the digits of a line
pub line_slice : (l bytes : List ℕ) → length l < 2 ^ 64 → bytes_in (strip_carriage_return l) ≡ Some bytes → AreBytes bytes × (length bytes < 2 ^ 64)
line_slice l bytes few is = by (decode_of (digits_of (strip_carriage_return l))) refl is
  where
    by : (r : Result (List ℕ) FromHexError) → decode_of (digits_of (strip_carriage_return l)) ≡ r → result_ok r ≡ Some bytes
        → AreBytes bytes × (length bytes < 2 ^ 64)
    by (Ok read) same is =
        let equal : read ≡ bytes = cc in
        let stripped = length-if (slice_index l (length l - 1) == 13) (take (length l - 1) l) l (length l)
        (omega (arith, length-take (length l - 1) l)) (omega arith) in
        let digits = length-if (starts_with nat_eq (strip_carriage_return l) (codes "0x")) (drop 2 (strip_carriage_return l)) (strip_carriage_return l)
        (length (strip_carriage_return l)) (omega (arith, length-drop 2 (strip_carriage_return l))) (omega arith) in
        let known = decode_of-ok (digits_of (strip_carriage_return l)) bytes (same ∙ ap Ok equal) in
        (All-from_get_or (λ byte. byte < 2 ^ 8) bytes 0 (λ i few. known.3 i), omega (arith, few, stripped, digits, known.2))
    by (Err e) same is = absurd (let no : ⊥ = cc in no)

-- the answer to the digits of bytes that are shown
pub line_answered : (kind : Kind) (l b : List ℕ) (v : Value) → bytes_in (strip_carriage_return l) ≡ Some b → (kind_shown kind b).result ≡ Ok v → IsAnswered kind l b v
line_answered kind l b v is shown = λ form.
    ap (λ found. text_answer (record { kind = Some kind; form = form }) (strip_carriage_return l) (bytes_or_node (strip_carriage_return l) found)) is
    ∙ ap (λ r. shown_text form kind (own_name form kind) b r (kind_shown kind b).path) shown

-- what is shown of what was read
pub shown_read : {A : Type 0} (kind : Kind) (r : Reading A) (shown : r.M → Value) → ShowsAs kind r shown → (b : List ℕ) (m : r.M)
    → (r.read (strict_view_of b)).result ≡ Ok m → (kind_shown kind b).result ≡ Ok (shown m)
shown_read kind r shown shows b m is = ap (λ s. s.result) (shows b) ∙ ap (map_value shown) is

-- what is shown was read, by the law of what is read
pub read_by : {A : Type 0} (P : A → Type 0) (r : Reading A) (shown : r.M → Value) (given : Result r.M Fault) (v : Value) → map_value shown given ≡ Ok v
    → ((x : A) → given ≡ Ok (r.seen x) → P x) → IsRead P r shown v
read_by P r shown given v is law =
    let m = is_mapped given shown v is in
    (m.value, sym m.then, λ x same. law x (m.is ∙ ap Ok (sym same)))

-- the same for the values of a type that are read strictly
pub only_read : {A : Type 0} (Fits : A → Type 0) (item : A → Item) (r : Reading A) → GivesOnly true (form_of Fits item r) → (shown : r.M → Value) (b : List ℕ)
    (v : Value) → AreBytes b × (length b < 2 ^ 64) → map_value shown (r.read (strict_view_of b)).result ≡ Ok v
    → IsRead (λ x. Fits x × (b ≡ encoding (item x))) r shown v
only_read Fits item r law shown b v slice is =
    read_by (λ x. Fits x × (b ≡ encoding (item x))) r shown (r.read (strict_view_of b)).result v is (λ x same. law.only b x slice.0 slice.1 same)

-- ---- transactions and receipts by themselves

pub receipt_only : (b : List ℕ) (v : Value) → AreBytes b × (length b < 2 ^ 64) → (receipt_shown b).result ≡ Ok v
    → IsRead (λ r. any_receipt.Fits r × (b ≡ bytes_alone (any_receipt.item r))) any_receipt.reading any_receipt_display.shown v
receipt_only b v slice is =
    read_by (λ r. any_receipt.Fits r × (b ≡ bytes_alone (any_receipt.item r))) any_receipt.reading any_receipt_display.shown (any_alone receipt_types b).result v is
    (λ r same. (any_strings receipt_types).only b r slice.0 slice.1 same)

-- a transaction that isn't signed, or one that is
abbrev IsUnsigned : List ℕ → Value → Type 0
IsUnsigned b v =
    IsRead (λ t. unsigned_transaction.Fits t × (b ≡ bytes_alone (unsigned_transaction.item t))) unsigned_transaction.reading unsigned_display.shown v

abbrev IsSigned : List ℕ → Value → Type 0
IsSigned b v = IsRead (λ t. any_transaction.Fits t × (b ≡ bytes_alone (any_transaction.item t))) any_transaction.reading any_transaction_display.shown v

pub transaction_only : (b : List ℕ) (v : Value) → AreBytes b × (length b < 2 ^ 64) → (transaction_shown b).result ≡ Ok v → IsUnsigned b v ⊎ IsSigned b v
transaction_only b v slice is = by (typed_alone unsigned_types b).result refl is
  where
    by : (r : Result unsigned_transaction.reading.M Fault) → (typed_alone unsigned_types b).result ≡ r → (unsigned_or (signed_shown b) r).result ≡ Ok v
        → IsUnsigned b v ⊎ IsSigned b v
    by (Ok m) given is =
        inl (read_by (λ t. unsigned_transaction.Fits t × (b ≡ bytes_alone (unsigned_transaction.item t))) unsigned_transaction.reading unsigned_display.shown
        (Ok m) v is (λ t same. (typed_strings unsigned_types).only b t slice.0 slice.1 (given ∙ same)))
    by (Err e) given is =
        inr (read_by (λ t. any_transaction.Fits t × (b ≡ bytes_alone (any_transaction.item t))) any_transaction.reading any_transaction_display.shown
        (any_alone transaction_types b).result v is (λ t same. (any_strings transaction_types).only b t slice.0 slice.1 same))
