-- Envelopes of types that aren't known: which bytes they are, and how values of a type or such strings are written and read.
use Rattle.std.{specs.Prelude.{ℕ, ⊤, ◌&&◌, ◌⊎◌, nat_lt, Bool, true, false, IsTrue, if◌then◌else◌, List, [], ◌∷◌, Result, Ok, Err, codes}, proofs.Common.{inl, inr}}
use Rattle.rlp.specs.{Format.Encoding.string, Values.Sums.{OnSum, sum_item}}
use Rattle.rlp_reading.specs.{Form.{Answer, Fault, Form, here, map_answer, string_of}, Sums.sum_map}

-- EIP-7702: "MAGIC"
abbrev pub authorization_magic : ℕ
authorization_magic = 0x05

-- EIP-2718: "TransactionType is a positive unsigned 8-bit number between 0 and 0x7f that represents the type of the transaction". This type isn't 0, which isn't
-- positive and stands for a legacy transaction. It isn't one of the known types 1 to 4, and isn't the MAGIC of EIP-7702, which is written in the place of a type
-- before the fields that are signed of an authorization.
abbrev pub is_other_type : ℕ → Bool
is_other_type kind = nat_lt kind 0x80 && nat_lt authorization_magic kind

-- "TransactionType || TransactionPayload" or "TransactionType || ReceiptPayload" of a type that isn't known; the payload is any bytes
abbrev pub is_other : List ℕ → Bool
is_other [] = false
is_other (kind ∷ payload) = is_other_type kind

-- the bytes are an envelope of another type
abbrev pub IsOther : List ℕ → Type 0
IsOther d = IsTrue (is_other d)

-- the number of the type of an envelope of another type
abbrev pub other_type : List ℕ → ℕ
other_type [] = 0
other_type (kind ∷ payload) = kind

-- the text of the fault of bytes that aren't an envelope of another type
abbrev pub not_other : List ℕ
not_other = codes "not an envelope of another type"

-- ---- values of a type, and strings that aren't items of the type

-- What a view whose string is r gives: the string, if `is` holds for it, and else what the type gives.
abbrev pub string_or : {M : Type 0} → (List ℕ → Bool) → Answer M Fault → Result (List ℕ) Fault → Answer (M ⊎ List ℕ) Fault
string_or is a (Ok d) = if is d then here (Ok (inr d)) else map_answer inl a
string_or is a (Err e) = map_answer inl a

-- A value of a type, or a string that isn't an item of the type. A view that holds such a string gives the string, and any other view is read as the type.
abbrev pub or_string : {A : Type 0} → Form A → (List ℕ → Bool) → Form (A ⊎ List ℕ)
or_string c is = record {
  Fits = OnSum c.Fits (λ d. IsTrue (is d));
  item = sum_item c.item string;
  reading = record {
    M = c.reading.M ⊎ List ℕ;
    seen = sum_map c.reading.seen (λ d. d);
    item = sum_item c.reading.item string;
    read = λ v. string_or is (c.reading.read v) (string_of v);
    takes_memory = true;
    Allocates = λ v. ⊤;
  };
}
