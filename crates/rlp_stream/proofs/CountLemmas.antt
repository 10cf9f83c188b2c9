-- The items of a stream, read one after another.
use Rattle.std.proofs.Common.{ℕ, ◌≡◌, ◌≤◌, ◌+◌, ◌-◌, ◌^◌, min, List, [], ◌∷◌, ◌++◌, length, refl, sym, ap, ◌∙◌, subst, arith, append-nil, append_assoc, length-append, Bool, true, false, MatchBool, All, Ok, Err, Option, Some, None, IfSome}
use Rattle.std.proofs.{KnownBytes.{Consumes-nil, Consumes-trans}, lemmas.List.Elements.All-from_recursion}
use Rattle.std.specs.{Io.KnownBytes.{Consumes}, List.{concat, AllByRecursion}}
use Rattle.rlp_reading.specs.Format.Framing.{IsFramedItem, split}
use Rattle.rlp_reading.proofs.Lemmas.Frames.{AllFramed, split_items}
use Rattle.rlp_stream.specs.{Item.{UnlessStopped, item_answer}, Counts.{Counts, IsFaultAfter}, Pieces.IsStop, declared.fault.ReadFault.ReadFault}
use Rattle.rlp_stream.proofs.LawLemmas.{none-means}

concat-last : (fs : List (List ℕ)) (f : List ℕ) → concat (fs ++ f ∷ []) ≡ concat fs ++ f
concat-last [] f = append-nil f
concat-last (g ∷ fs) f = ap (λ l. g ++ l) (concat-last fs f) ∙ sym (append_assoc g (concat fs) f)

AllFramed-last : (fs : List (List ℕ)) (f : List ℕ) → AllFramed fs → IsFramedItem f → AllFramed (fs ++ f ∷ [])
AllFramed-last [] f all is = (is, tt)
AllFramed-last (g ∷ fs) f all is = (all.0, AllFramed-last fs f all.1 is)

-- each is at most `most` bytes
abbrev pub AllFit : ℕ → List (List ℕ) → Type 0
AllFit most fs = AllByRecursion (λ f. length f ≤ most) fs

AllFit-last : (most : ℕ) (fs : List (List ℕ)) (f : List ℕ) → AllFit most fs → length f ≤ most → AllFit most (fs ++ f ∷ [])
AllFit-last most [] f all fits = (fits, tt)
AllFit-last most (g ∷ fs) f all fits = (all.0, AllFit-last most fs f all.1 fits)

-- so many items were read, and so many bytes
pub record IsCounting (most : ℕ) (in0 in1 : Option (List ℕ)) (items bytes : ℕ) : Type 0 where
  pub fs : List (List ℕ)
  pub framed : AllFramed fs
  pub fit : AllFit most fs
  pub read : Consumes in0 in1 (concat fs)
  pub counted : items ≡ length fs
  pub summed : bytes ≡ min (length (concat fs)) (2 ^ 64 - 1)

pub IsCounting-none : (most : ℕ) (in0 : Option (List ℕ)) → IsCounting most in0 in0 0 0
IsCounting-none most in0 = record { fs = []; framed = tt; fit = tt; read = Consumes-nil in0; counted = refl; summed = refl }

pub IsCounting-more : (most : ℕ) (in0 in1 in2 : Option (List ℕ)) (items bytes bytes2 : ℕ) (f : List ℕ) → IsCounting most in0 in1 items bytes
    → IsFramedItem f × (length f ≤ most) → Consumes in1 in2 f → bytes2 ≡ min (bytes + length f) (2 ^ 64 - 1) → IsCounting most in0 in2 (items + 1) bytes2
IsCounting-more most in0 in1 in2 items bytes bytes2 f so_far is read sum = record {
  fs = so_far.fs ++ f ∷ [];
  framed = AllFramed-last so_far.fs f so_far.framed is.0;
  fit = AllFit-last most so_far.fs f so_far.fit is.1;
  read = subst (Consumes in0 in2) (sym (concat-last so_far.fs f)) (Consumes-trans in0 in1 in2 (concat so_far.fs) f so_far.read read);
  counted = omega (arith, so_far.counted, length-append so_far.fs (f ∷ []));
  summed = omega (arith, sum, so_far.summed, ap length (concat-last so_far.fs f), length-append (concat so_far.fs) f);
}

-- the stream is at its end
pub Counts-end : (most : ℕ) (in0 in1 : Option (List ℕ)) (items bytes : ℕ) → IsCounting most in0 in1 items bytes
    → IfSome in1 (λ left. item_answer most left ≡ Ok false) → IfSome in0 (λ left. Counts most left (record { items = items; bytes = bytes }))
Counts-end most None in1 items bytes so_far end = tt
Counts-end most (Some left) None items bytes so_far end = absurd so_far.read
Counts-end most (Some left) (Some more) items bytes so_far end =
    let all : left ≡ concat so_far.fs = so_far.read ∙ ap (λ l. concat so_far.fs ++ l) ((none-means most more).0 end) ∙ append-nil (concat so_far.fs) in
    let cut : split left ≡ so_far.fs = ap split all ∙ split_items so_far.fs so_far.framed in
    record {
      whole = ap concat cut ∙ sym all;
      fit = subst (All (λ f. length f ≤ most)) (sym cut) (All-from_recursion (λ f. length f ≤ most) so_far.fs so_far.fit);
      items = so_far.counted ∙ ap length (sym cut);
      bytes = so_far.summed ∙ ap (λ l. min (length l) (2 ^ 64 - 1)) (sym all);
    }

-- the next item can't be read
pub fault-next : (most : ℕ) (in0 in1 : Option (List ℕ)) (items bytes : ℕ) (fault : ReadFault) → IsCounting most in0 in1 items bytes
    → IfSome in1 (λ left. UnlessStopped (Err fault) (item_answer most left)) → IfSome in0 (λ left. IsFaultAfter most left fault)
fault-next most None in1 items bytes fault so_far answer = tt
fault-next most (Some left) None items bytes fault so_far answer = absurd so_far.read
fault-next most (Some left) (Some more) items bytes fault so_far answer = record {
  items = so_far.fs;
  framed = All-from_recursion IsFramedItem so_far.fs so_far.framed;
  fit = All-from_recursion (λ f. length f ≤ most) so_far.fs so_far.fit;
  more = more;
  parts = so_far.read;
  answer = answer;
}

-- the reader failed, or memory was refused
pub stopped : (most : ℕ) (in1 : Option (List ℕ)) (fault : ReadFault) → IsStop fault
    → IfSome in1 (λ left. UnlessStopped (Err fault) (item_answer most left))
stopped most None fault stop = tt
stopped most (Some left) fault stop = grind arith

-- what was read is an item
pub item-found : (most len : ℕ) (found : Bool) (f : List ℕ) → found ≡ true → MatchBool found (IsFramedItem f × (len ≤ most)) (f ≡ []) → length f ≡ len
    → IsFramedItem f × (length f ≤ most)
item-found most len true f is item same = (item.0, omega (arith, item.1, same))
item-found most len false f is item same = absurd (cc)

-- nothing was read
pub none-found : (most : ℕ) (found : Bool) (in1 : Option (List ℕ)) → found ≡ false → IfSome in1 (λ left. item_answer most left ≡ Ok found)
    → IfSome in1 (λ left. item_answer most left ≡ Ok false)
none-found most found in1 is answer = subst (λ b. IfSome in1 (λ left. item_answer most left ≡ Ok b)) is answer
