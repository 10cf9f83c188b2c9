-- Hashes or numbers are read back, and are read only from their encodings.
use Rattle.std.specs.Prelude.{ℕ, ◌≡◌, ◌==◌, Bool, true, false, List, length, Ok}
use Rattle.std.proofs.{Common.{◌^◌, ◌<◌, inl, inr, ap, arith, eq-eqb, ne_eqb, refl, subst, sym, ◌∙◌}, lemmas.Bool.{cond-true, cond-false}, lemmas.Bool.Decides.nat_tests}
use Rattle.rlp.specs.{Codec.{Codec, string_type}, Form.{map_value, number_of}, Format.Encoding.{AreBytes, big_endian}, Values.Value.FitsBytes}
use Rattle.rlp_reading.proofs.{StringLaws.{ReadsStrings, number_strings}, Lemmas.StringsHeld.{few_digits}}
use Rattle.rlp_messages.specs.{declared.eth.requests.HashOrNumber.{HashOrNumber}, declared.eth.requests.HashOrNumber.TheVariants.{Hash, Number}}
use Rattle.rlp_messages.specs.Eth.HashOrNumber.{IsHashOrNumber, hash_or_number_bytes, hash_or_number_of, seen_hash_or_number, written_hash_or_number}
use Rattle.rlp_records.proofs.Alone.{not_right, right_only}

found_back : (x : HashOrNumber) → IsHashOrNumber x → length (hash_or_number_bytes x) < 2 ^ 64
    → hash_or_number_of (hash_or_number_bytes x) ≡ Ok (seen_hash_or_number x)
found_back (Hash h) fit short = cond-true (length h.0 == 32) _ _ (eq-eqb (length h.0) 32 fit)
found_back (Number n) fit short =
    cond-false (length (big_endian n) == 32) _ _ (ne_eqb (length (big_endian n)) 32 (λ same. omega (arith, same, few_digits 8 n fit)))
    ∙ ap (map_value inr) ((number_strings 8).back n fit short)

found_only : (d : List ℕ) (x : HashOrNumber) → AreBytes d → length d < 2 ^ 64 → hash_or_number_of d ≡ Ok (seen_hash_or_number x)
    → IsHashOrNumber x × (d ≡ hash_or_number_bytes x)
found_only d (Hash h) bytes short is = grind (arith, nat_tests, not_right (number_of 8 d) h.0)
found_only d (Number n) bytes short is =
    (number_strings 8).only d n bytes short (let read : number_of 8 d ≡ Ok n = grind (arith, right_only {M = List ℕ} (number_of 8 d) n) in read)

found_same : (x : HashOrNumber) → written_hash_or_number (seen_hash_or_number x) ≡ hash_or_number_bytes x
found_same (Hash h) = refl
found_same (Number n) = refl

found_fits : (x y : HashOrNumber) → seen_hash_or_number x ≡ seen_hash_or_number y → IsHashOrNumber x → IsHashOrNumber y
found_fits (Hash h) (Hash k) same fit = subst (λ d. length d ≡ 32) (let bytes : h.0 ≡ k.0 = cc in bytes) fit
found_fits (Number n) (Number m) same fit = subst (FitsBytes 8) (let numbers : n ≡ m = cc in numbers) fit
found_fits x y same fit = absurd (let no : ⊥ = cc in no)

pub hash_or_number_strings : ReadsStrings IsHashOrNumber hash_or_number_bytes seen_hash_or_number written_hash_or_number hash_or_number_of
hash_or_number_strings = record {
  back = found_back;
  only = found_only;
  fits = found_fits;
  same = found_same;
}

-- the string of the hash or of the number
abbrev pub hash_or_number : Codec HashOrNumber
hash_or_number =
    string_type IsHashOrNumber hash_or_number_bytes seen_hash_or_number written_hash_or_number hash_or_number_of false hash_or_number_strings
