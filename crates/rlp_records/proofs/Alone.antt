-- Values of several types by themselves, as in EIP-2718: the bytes of a value are read back, and no other bytes are read.
use Rattle.std.proofs.Common.{◌≡◌, ℕ, ◌^◌, ◌<◌, ◌⊎◌, inl, inr, true, List, [], length, refl, sym, ap, ◌∙◌, append-nil, arith, Result, Ok}
use Rattle.std.proofs.lemmas.Bool.{cond-true, cond-false, lt-leb}
use Rattle.rlp.specs.{Format.Encoding.{Item, is_list, list, string, encoding, AreBytes}, Format.Framing.begins_as_list, Values.Sums.{OnSum, sum_item}}
use Rattle.rlp_reading.proofs.{Lemmas.Views.list_first, StringLaws.ReadsStrings, SumLaws.{envelope_strings, sums_fit, sums_written}}
use Rattle.rlp_reading.specs.{Form.{Answer, Fault, Form, map_value}, Laws.{CasesAreLawful, IsLawful}, Sums.{CasesForm, envelope, seen_envelope, sum_map}}
use Rattle.rlp_records.specs.Alone.{bytes_alone, read_alone}

-- a list by itself is its encoding
pub list_alone : (x : Item) → is_list x ≡ true → bytes_alone x ≡ encoding x
list_alone (string d) kind = cc
list_alone (list xs) kind = refl

-- a list by itself begins as a list
pub list_alone_begins : (x : Item) → is_list x ≡ true → length (bytes_alone x) < 2 ^ 64 → begins_as_list (bytes_alone x) ≡ true
list_alone_begins x kind short =
    list_first x (bytes_alone x) short ([], list_alone x kind ∙ sym (append-nil (encoding x))) kind

-- equal answers have equal results
pub result_same : {M : Type 0} {a b : Answer M Fault} → a ≡ b → a.result ≡ b.result
result_same {M} same = ap (λ (a : Answer M Fault). a.result) same

-- ---- a value that was put on one side

pub left_only : {M N : Type 0} (r : Result M Fault) (x : M) → map_value {B = M ⊎ N} inl r ≡ Ok (inl x) → r ≡ Ok x
left_only r x is = grind arith

pub right_only : {M N : Type 0} (r : Result N Fault) (y : N) → map_value {B = M ⊎ N} inr r ≡ Ok (inr y) → r ≡ Ok y
right_only r y is = grind arith

pub not_left : {M N : Type 0} (r : Result M Fault) (y : N) → map_value {B = M ⊎ N} inl r ≡ Ok (inr y) → ⊥
not_left r y is = grind arith

pub not_right : {M N : Type 0} (r : Result N Fault) (x : M) → map_value {B = M ⊎ N} inr r ≡ Ok (inl x) → ⊥
not_right r x is = grind arith

-- ---- values of the sum

module _ {A B : Type 0} (c : Form A) (cases : CasesForm B) where
  abbrev FitsAlone : A ⊎ B → Type 0
  FitsAlone s = OnSum c.Fits cases.Fits s

  abbrev sum_alone : A ⊎ B → List ℕ
  sum_alone s = bytes_alone (sum_item c.item (λ y. string (envelope cases y)) s)

  abbrev seen_alone : A ⊎ B → c.reading.M ⊎ cases.M
  seen_alone s = sum_map c.reading.seen cases.seen s

  -- the bytes of a value, by what contracts see of the value
  abbrev written_alone : c.reading.M ⊎ cases.M → List ℕ
  written_alone m = bytes_alone (sum_item c.reading.item (λ n. string (seen_envelope cases n)) m)

  -- the result of bytes by themselves
  abbrev pub alone : List ℕ → Result (c.reading.M ⊎ cases.M) Fault
  alone d = (read_alone c.reading.read cases.read d).result

  module _ (lists : (x : A) → is_list (c.item x) ≡ true) (low : (y : B) → cases.tag y < 0xc0) (law : IsLawful c) (others : CasesAreLawful cases) where
    alone_back : (s : A ⊎ B) → FitsAlone s → length (sum_alone s) < 2 ^ 64 → alone (sum_alone s) ≡ Ok (seen_alone s)
    alone_back (inl x) fit short =
        let d = bytes_alone (c.item x) in
        let whole : d ≡ encoding (c.item x) = list_alone (c.item x) (lists x) in
        let kind : begins_as_list d ≡ true = list_alone_begins (c.item x) (lists x) short in
        result_same (cond-true (begins_as_list d) _ _ kind) ∙ ap (map_value inl) ((law.back true).back d x short fit whole)
    alone_back (inr y) fit short =
        result_same (cond-false (begins_as_list (envelope cases y)) _ _ (lt-leb 0xc0 (cases.tag y) (low y)))
        ∙ ap (map_value inr) ((envelope_strings cases others).back y fit short)

    alone_only : (d : List ℕ) (s : A ⊎ B) → AreBytes d → length d < 2 ^ 64 → alone d ≡ Ok (seen_alone s) → FitsAlone s × (d ≡ sum_alone s)
    alone_only d (inl x) held short is =
        grind (arith, law.exact.only d x held short, left_only, not_right, list_alone (c.item x) (lists x))
    alone_only d (inr y) held short is = grind (arith, (envelope_strings cases others).only d y held short, right_only, not_left)

    -- the bytes of a value are read back, and no other bytes are read
    pub alone_strings : ReadsStrings FitsAlone sum_alone seen_alone written_alone alone
    alone_strings = record {
      back = alone_back;
      only = alone_only;
      fits = sums_fit c.reading.seen cases.seen c.Fits cases.Fits law.told.fits others.fits;
      same = λ s. ap bytes_alone
          (sums_written c.reading.seen cases.seen c.item (λ y. string (envelope cases y)) c.reading.item (λ m. string (seen_envelope cases m)) law.told.written
          (λ y. ap string ((envelope_strings cases others).same y)) s);
    }
