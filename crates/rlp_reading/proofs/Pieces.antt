-- Text that is put and written in pieces.
use Rattle.std.proofs.{Common.{◌≡◌, ◌≤◌, ◌+◌, ℕ, List, [], ◌++◌, length, take, sym, subst, ap, ◌∙◌, append_assoc, IsAscii, IsUtf8}, lemmas.Str.{IsAscii-append, IsUtf8-from_ascii}, lemmas.Slice.{take-put_mid}, Output.{has_written_styled_append, has_written_styled_nil, has_written_styled_of_eq}}
use borrow.Rule.Slice.PartMut.{put_mid}
use Rattle.std.specs.{Fmt.{HasWrittenStyled, IsFlush}, declared.fmt.Formatter.Formatter}
use Rattle.rlp_reading.specs.Views.Buffered.{HasPut}
use Rattle.hex.specs.Hex.{encode_lower}
use Rattle.rlp_format.proofs.HexDigits.{digits_append, digits_are_ascii}
use Rattle.rlp_reading.proofs.Lemmas.Texts.{items-list, length-framed, length-some, text-fault, text-followed, text-null, text-string}

-- ASCII is text
pub ascii_is_text : (bytes : List ℕ) → IsAscii bytes → IsUtf8 bytes
ascii_is_text = IsUtf8-from_ascii

-- and with digits after it
pub ascii_and_digits : (room bytes digits : List ℕ) (len k n : ℕ) → IsAscii (take len room) → digits ≡ encode_lower bytes → n ≡ len + length digits
    → len ≤ length room → IsAscii (take n (put_mid len k room digits))
ascii_and_digits room bytes digits len k n front is end fits = subst IsAscii (sym (take-put_mid len k room digits n end fits))
    (IsAscii-append (take len room) digits front (subst IsAscii (sym is) (digits_are_ascii bytes)))

module _ {W : Type 0} (took : W → List ℕ → W → Type 0) where
  -- two pieces are one text
  pub put_two : (f g h : Formatter W) (a b all : List ℕ) → HasWrittenStyled took f a g → HasWrittenStyled took g b h → a ++ b ≡ all
      → HasWrittenStyled took f all h
  put_two f g h a b all first second is = has_written_styled_of_eq _ _ _ _ _ is (has_written_styled_append _ _ _ _ _ _ first second)

  -- and so are three
  pub put_three : (f g h i : Formatter W) (a b c all : List ℕ) → HasWrittenStyled took f a g → HasWrittenStyled took g b h
      → HasWrittenStyled took h c i → (a ++ b) ++ c ≡ all → HasWrittenStyled took f all i
  put_three f g h i a b c all first second third is =
      put_two f h i (a ++ b) c all (has_written_styled_append _ _ _ _ _ _ first second) third is

  -- ---- text that is put into a buffer

  -- bytes that were added to those that wait
  pub put_waits : (f : Formatter W) (waited text waits : List ℕ) → IsFlush f → waits ≡ waited ++ text → HasPut took f waited text f waits
  put_waits f waited text waits flush is = record { written = []; wrote = has_written_styled_nil took f flush; kept = is }

  -- all that waited was written, and nothing waits
  pub put_written : (f g : Formatter W) (waited waits : List ℕ) → HasWrittenStyled took f waited g → waits ≡ [] → HasPut took f waited [] g waits
  put_written f g waited waits wrote none = record { written = waited; wrote = wrote; kept = ap (λ w. waited ++ w) none }

  -- two texts in a row are one text
  pub put_append : (f : Formatter W) (u a : List ℕ) (g : Formatter W) (v b : List ℕ) (h : Formatter W) (w : List ℕ) → HasPut took f u a g v
      → HasPut took g v b h w → HasPut took f u (a ++ b) h w
  put_append f u a g v b h w p q = record {
    written = p.written ++ q.written;
    wrote = has_written_styled_append took _ _ _ _ _ p.wrote q.wrote;
    kept = append_assoc p.written q.written w ∙ ap (λ rest. p.written ++ rest) q.kept ∙ sym (append_assoc p.written v b)
        ∙ ap (λ front. front ++ b) p.kept ∙ append_assoc u a b;
  }

  -- the same text in another form
  pub put_of_eq : (f : Formatter W) (u a b : List ℕ) (g : Formatter W) (v : List ℕ) → a ≡ b → HasPut took f u a g v → HasPut took f u b g v
  put_of_eq f u a b g v is p = record { written = p.written; wrote = p.wrote; kept = p.kept ∙ ap (λ text. u ++ text) is }

  -- two texts, in another form
  pub put_both : (f g h : Formatter W) (u v w a b all : List ℕ) → HasPut took f u a g v → HasPut took g v b h w → a ++ b ≡ all → HasPut took f u all h w
  put_both f g h u v w a b all first second is = put_of_eq f u _ all h w is (put_append f u a g v b h w first second)

  -- and three
  pub put_all : (f g h i : Formatter W) (u v w x a b c all : List ℕ) → HasPut took f u a g v → HasPut took g v b h w → HasPut took h w c i x
      → (a ++ b) ++ c ≡ all → HasPut took f u all i x
  put_all f g h i u v w x a b c all first second third is =
      put_both f h i u w x (a ++ b) c all (put_append f u a g v b h w first second) third is

  -- a text was put into an empty buffer, and what waits was written
  pub put_and_written : (f g h : Formatter W) (empty text waits : List ℕ) → empty ≡ [] → HasPut took f empty text g waits
      → HasWrittenStyled took g waits h → HasWrittenStyled took f text h
  put_and_written f g h empty text waits none p q =
      has_written_styled_of_eq took _ _ _ _ (p.kept ∙ ap (λ w. w ++ text) none) (has_written_styled_append took _ _ _ _ _ p.wrote q)

pub ruleset pieces = (put_two, put_three)

pub ruleset buffered = (put_waits, put_written, put_both, put_all)

pub ruleset digit_pieces = (put_both, digits_append)

pub ruleset list_pieces = (length-framed, text-string, items-list)

pub ruleset all_pieces = (text-followed, text-null, text-fault, length-some)
