-- Which bytes are words, and which rows the headers of lists have.
use Rattle.std.proofs.Common.{◌≡◌, ◌≢◌, ◌==◌, ◌∙◌, ℕ, zero, suc, ◌-◌, Bool, true, false, List, [], ◌∷◌, IsUtf8, codes, refl, ap, arith}
use Rattle.std.proofs.lemmas.{Bool.Decides.nat_tests, Bool.cond-false, Bool.cond-true, Str.IsUtf8-from_ascii}
use Rattle.std.specs.{Prelude.◌&&◌, Prelude.◌||◌, List.list_all, Str.IsAscii}
use Rattle.rlp_show.specs.{Dump.Dump, Dump.come_next, Dump.enter_lists, Dump.list_header, Dump.row, Lines.begins_with_letter, Lines.is_word, Lines.is_word_byte}

-- words are text
ascii : (d : List ℕ) → list_all is_word_byte d ≡ true → IsAscii d
ascii [] are i = omega arith
ascii (c ∷ cs) are zero = grind (arith, nat_tests)
ascii (c ∷ cs) are (suc i) = ascii cs (grind (arith, nat_tests)) i

by_test : (d : List ℕ) (are : Bool) → list_all is_word_byte d ≡ are → ¬ IsUtf8 d → (begins_with_letter d && are) ≡ false
by_test d true is none = absurd (none (IsUtf8-from_ascii d (ascii d is)))
by_test [] false is none = refl
by_test (c ∷ cs) false is none = grind (arith, nat_tests)

pub words_are_text : (d : List ℕ) → ¬ IsUtf8 d → is_word d ≡ false
words_are_text d none = by_test d (list_all is_word_byte d) refl none

-- rows for the headers of lists, one after another
pub bytes_come : (e : List ℕ) (most : ℕ) (s : Dump) → come_next e s ≡ true → enter_lists e most s ≡ s
bytes_come e zero s come = refl
bytes_come e (suc most) s come = cond-true (come_next e s || (list_header s.rest == 0)) _ _ (ap (λ t. t || (list_header s.rest == 0)) come)

pub no_list_comes : (e : List ℕ) (most : ℕ) (s : Dump) → come_next e s ≡ false → list_header s.rest ≡ 0 → enter_lists e most s ≡ s
no_list_comes e zero s others none = refl
no_list_comes e (suc most) s others none =
    let is_none : (list_header s.rest == 0) ≡ true = grind (arith, nat_tests, none) in
    cond-true (come_next e s || (list_header s.rest == 0)) _ _ (ap (λ t. t || (list_header s.rest == 0)) others ∙ is_none)

pub list_comes : (e : List ℕ) (most : ℕ) (s : Dump) → most ≢ 0 → come_next e s ≡ false → list_header s.rest ≢ 0
    → enter_lists e most s ≡ enter_lists e (most - 1) (row (list_header s.rest) 0 (codes "list\n") s)
list_comes e zero s more others some = absurd (more refl)
list_comes e (suc most) s more others some =
    let same : most ≡ suc most - 1 = omega arith in
    let is_some : (list_header s.rest == 0) ≡ false = grind (arith, nat_tests, some) in
    cond-false (come_next e s || (list_header s.rest == 0)) _ _ (ap (λ t. t || (list_header s.rest == 0)) others ∙ is_some)
    ∙ ap (λ n. enter_lists e n (row (list_header s.rest) 0 (codes "list\n") s)) same

pub ruleset lists_entered = (bytes_come, no_list_comes, list_comes)
