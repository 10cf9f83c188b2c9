-- Bytes that a reader gave, appended to others.
use Rattle.std.proofs.Common.{ℕ, ◌≡◌, ◌+◌, List, ◌++◌, length, take, drop, sym, ap, ◌∙◌, subst, append_assoc, drop_at, Option, Result, Ok, Err, IfOk}
use Rattle.std.proofs.{Math.Seq.take-add, lemmas.List.{take-append-le}, KnownBytes.{Consumes-trans}}
use Rattle.std.specs.{Io.KnownBytes.{Consumes}, Io.ReadsAtMost}
use Rattle.rlp_stream.specs.Pieces.{AppendsRead}

-- what was read into the part stands after the front
pub Consumes-in_place : {E : Type 0} (a b : Option (List ℕ)) (r : Result ℕ E) (front part rest : List ℕ) (at : ℕ) → length front ≡ at → ReadsAtMost r part
    → IfOk r (λ n. Consumes a b (take n part)) → IfOk r (λ n. Consumes a b (take n (drop at (front ++ (part ++ rest)))))
Consumes-in_place a b (Ok n) front part rest at long fits read =
    subst (Consumes a b) (sym (ap (take n) (drop_at front (part ++ rest) at long) ∙ take-append-le n part rest fits.0)) read
Consumes-in_place a b (Err e) front part rest at long fits read = tt

-- the first f bytes stay, and n bytes more were read
pub AppendsRead-more : (a b c : Option (List ℕ)) (before xs ys : List ℕ) (f n : ℕ) → take f ys ≡ take f xs → AppendsRead a b before (take f xs)
    → Consumes b c (take n (drop f ys)) → AppendsRead a c before (take (f + n) ys)
AppendsRead-more a b c before xs ys f n front so_far read = record {
  more = so_far.more ++ take n (drop f ys);
  bytes = take-add f n ys ∙ ap (λ l. l ++ take n (drop f ys)) (front ∙ so_far.bytes) ∙ append_assoc before so_far.more (take n (drop f ys));
  read = Consumes-trans a b c so_far.more (take n (drop f ys)) so_far.read read;
}

-- one more read, after others
pub Consumes-appended : (a b c : Option (List ℕ)) (before after : List ℕ) → Consumes a b before → AppendsRead b c before after → Consumes a c after
Consumes-appended a b c before after first more =
    subst (Consumes a c) (sym more.bytes) (Consumes-trans a b c before more.more first more.read)
