-- Steps of the loop over the input.
use Rattle.std.proofs.Common.{ℕ, ◌≡◌, ◌<◌, ◌≤◌, Bool, true, false, ◌||◌, List, [], ◌∷◌, ◌++◌, length, take, drop, get_or, ◌+◌, ◌-◌, ◌==◌, arith, ◌≢◌}
use Rattle.std.proofs.Common.{Option, Some, None, Result, Ok, Err, OnOk, OnErr, IfErr, inl, inr, sym, ap, ◌∙◌, append_assoc, append-nil, subst}
use Rattle.std.proofs.{Common.take-append-drop, Math.Bool.or-false, Math.Seq.take-append_seam}
use Rattle.std.proofs.{KnownBytes.{Appends-nil, Appends-trans, Appends-kept, Consumes-nil, Consumes-trans}, lemmas.List.{take_rest, drop_more}}
use Rattle.std.proofs.{lemmas.List.Quantifiers.position-Some, lemmas.List.Concat.flat_map-append, lemmas.List.Folds.list_any-append}
use Rattle.std.specs.{Io.KnownBytes.{Appends, Consumes, Keeps, IsAtEnd}, List.position}
use Rattle.rlp_lines.specs.{Run.{AppendsBefore, AppendsPart, AreRepliesBefore, RunLeaves, TextLeaves, longest_read}, Watched.Watched}
use Rattle.rlp_lines.specs.{declared.line.Line.Line, declared.serving.RunFault.RunFault, declared.serving.RunFault.TheVariants.Write}
use Rattle.rlp_lines.specs.Lines.{lines, ended_lines, last_piece, line_of_last, unended_line}
use Rattle.rlp_lines.specs.{Replies.{has_fault, is_fault, reply, replies_to, replies}, Progress.{IsOnePiece, IsLine, IsAfter, IsServed, IsStop}}
use Rattle.rlp_lines.proofs.{LinesLemmas.{ended_lines-run, last_piece-run, ended_lines-line, last_piece-line, one_piece-take, one_piece-whole, last_piece-nil}}
use Rattle.rlp_lines.proofs.LinesLemmas.{is_newline, take-lines, length-ended_lines-append, length-lines-more, length-lines-begun, ended_lines-nil}

-- all of some bytes but a rest was written
pub record IsWriting (start now : Option (List ℕ)) (bytes rest : List ℕ) : Type 0 where
  pub done : List ℕ
  pub parts : done ++ rest ≡ bytes
  pub wrote : Appends start now done

pub IsWriting-more : {start old : Option (List ℕ)} {bytes rest : List ℕ} (new : Option (List ℕ)) (count : ℕ) → IsWriting start old bytes rest
    → Appends old new (take count rest) → IsWriting start new bytes (take (length rest - count) (drop count rest))
IsWriting-more {start} {old} {bytes} {rest} new count before wrote = grind (arith, take_rest, append_assoc, take-append-drop, Appends-trans)

-- none of the bytes was taken
Keeps-nil : (old new : Option (List ℕ)) → Appends old new [] → Keeps old new
Keeps-nil None new wrote = tt
Keeps-nil (Some before) None wrote = wrote
Keeps-nil (Some before) (Some after) wrote = wrote ∙ append-nil before

pub Keeps-none : (old new : Option (List ℕ)) (bytes : List ℕ) (count : ℕ) → count ≡ 0 → Appends old new (take count bytes) → Keeps old new
Keeps-none old new bytes count none wrote = Keeps-nil old new (subst (λ n. Appends old new (take n bytes)) none wrote)

-- no byte was read
pub Consumes-none : (old new : Option (List ℕ)) (bytes : List ℕ) (count : ℕ) → count ≡ 0 → Consumes old new (take count bytes) → Consumes old new []
Consumes-none old new bytes count none read = subst (λ n. Consumes old new (take n bytes)) none read

-- a beginning of some bytes was appended
AppendsPart-front : (start new : Option (List ℕ)) (front rest bytes : List ℕ) → Appends start new front → front ++ rest ≡ bytes → AppendsPart start new bytes
AppendsPart-front start new front rest bytes wrote parts = record {
  count = length front;
  wrote = subst (Appends start new) (sym (ap (take (length front)) (sym parts) ∙ take-append_seam front rest)) wrote;
}

pub IsWriting-part : {start old : Option (List ℕ)} {bytes rest : List ℕ} (new : Option (List ℕ)) → IsWriting start old bytes rest → Keeps old new
    → AppendsPart start new bytes
IsWriting-part {start} {old} {bytes} {rest} new writing kept = grind (arith, AppendsPart-front, Appends-kept)

pub AppendsPart-whole : (start old new : Option (List ℕ)) (bytes : List ℕ) → Appends start old bytes → Keeps old new → AppendsPart start new bytes
AppendsPart-whole start old new bytes wrote kept = AppendsPart-front start new bytes [] bytes (Appends-kept start old new bytes wrote kept) (append-nil bytes)

newline_parts : (rest : List ℕ) (at : ℕ) → position (λ byte. byte == 10) rest ≡ Some at → 10 ∷ drop 1 (drop at rest) ≡ drop at rest
newline_parts rest at e =
    let found = position-Some (λ byte. byte == 10) rest at 0 e in
    let more = drop_more rest at 0 found.0 in
    ap (λ l. 10 ∷ drop 1 l) more ∙ ap (λ b. b ∷ drop (at + 1) rest) (sym (is_newline (get_or rest at 0) found.1)) ∙ sym more

pub OnErr-always : {T E P : Type 0} (result : Result T E) → P → OnErr result P
OnErr-always (Ok value) holds = tt
OnErr-always (Err error) holds = holds

-- bytes that follow an empty text
pub after_empty : {old said new : List ℕ} → old ≡ [] → new ≡ old ++ said → new ≡ said
after_empty {said = said} none e = e ∙ ap (λ l. l ++ said) none

pub replies_to-append : (answer : List ℕ → List ℕ) (xs ys : List (List ℕ)) → replies_to answer (xs ++ ys) ≡ replies_to answer xs ++ replies_to answer ys
unfolding replies_to
replies_to-append answer xs ys = flat_map-append (reply answer) xs ys

pub replies_to-one : (answer : List ℕ → List ℕ) (line : List ℕ) → replies_to answer (line ∷ []) ≡ reply answer line
unfolding replies_to
replies_to-one answer line = append-nil (reply answer line)

-- an empty line that has begun isn't a line
pub replies_to-none : (answer : List ℕ → List ℕ) (begun : List ℕ) → begun ≡ [] → replies_to answer (line_of_last begun) ≡ []
unfolding replies_to
replies_to-none answer begun e = ap (λ l. replies_to answer (line_of_last l)) e

pub replies_to-last : (answer : List ℕ → List ℕ) (begun : List ℕ) → begun ≢ [] → replies_to answer (line_of_last begun) ≡ reply answer begun
replies_to-last answer begun e = grind (arith, replies_to-one)

-- an empty line that has begun isn't at fault
pub has_fault-none : (answer : List ℕ → List ℕ) (begun : List ℕ) (b : Bool) → begun ≡ [] → b ≡ (b || has_fault answer (line_of_last begun))
has_fault-none answer begun b e = sym (ap (λ l. b || has_fault answer (line_of_last l)) e ∙ or-false b)

pub has_fault-last : (answer : List ℕ → List ℕ) (begun : List ℕ) → begun ≢ [] → has_fault answer (line_of_last begun) ≡ is_fault answer begun
has_fault-last answer begun e = grind (arith, or-false)

pub ruleset last_line = (replies_to-none, replies_to-last, has_fault-none, has_fault-last, append-nil)

-- The most bytes of a line and the answer to a line, for the lemmas below.
module _ (longest : ℕ) (answer : List ℕ → List ℕ) where
  -- bytes without a newline came
  pub IsAfter-run : {text written waiting : List ℕ} {line line' : Line} (run : List ℕ) → IsAfter longest answer text written waiting line
      → IsOnePiece run → IsLine longest line' (last_piece text ++ run) → line'.faulty ≡ line.faulty
      → IsAfter longest answer (text ++ run) written waiting line'
  IsAfter-run {text} {line' = line'} run before one kept same = grind (arith, ended_lines-run, last_piece-run)

  -- bytes without a newline came, and then a newline
  pub IsAfter-line : {text written waiting waiting' : List ℕ} {line line' : Line} (run : List ℕ) → IsAfter longest answer text written waiting line
      → IsOnePiece run → waiting' ≡ waiting ++ reply answer (last_piece text ++ run) → IsLine longest line' []
      → line'.faulty ≡ (line.faulty || is_fault answer (last_piece text ++ run))
      → IsAfter longest answer (text ++ run ++ 10 ∷ []) written waiting' line'
  IsAfter-line {text} {written} {waiting} {line' = line'} run before one said kept told =
      grind (arith, append_assoc, replies_to-one, replies_to-append, ended_lines-line, last_piece-line, or-false, list_any-append)

  -- the same, where nothing came of the line before, and its bytes aren't kept
  pub IsAfter-whole : {E : Type 0} (result : Result (Unit {0}) E) (waiting' : List ℕ) (line' : Line) {text written waiting : List ℕ} {line : Line} (run : List ℕ)
      → IsAfter longest answer text written waiting line → IsOnePiece run → last_piece text ≡ [] → OnOk result (waiting' ≡ waiting ++ reply answer run)
      → OnOk result (line'.faulty ≡ (line.faulty || is_fault answer run)) → (line'.bytes ≡ line.bytes) × (line'.over ≡ line.over)
      → OnOk result (IsAfter longest answer (text ++ run ++ 10 ∷ []) written waiting' line')
  IsAfter-whole (Err error) waiting' line' run before one none said told kept = tt
  IsAfter-whole (Ok unit) waiting' line' {text} {waiting = waiting} {line = line} run before one none said told kept =
      let same : run ≡ last_piece text ++ run = ap (λ b. b ++ run) (sym none) in
      let begun : IsLine longest line [] = subst (IsLine longest line) none before.begun in
      IsAfter-line run before one (subst (λ l. waiting' ≡ waiting ++ reply answer l) same said) (grind arith)
      (subst (λ l. line'.faulty ≡ (line.faulty || is_fault answer l)) same told)

  -- all of some bytes but a rest came after any text
  pub record IsFeeding (waiting : List ℕ) (line : Line) (waiting' : List ℕ) (line' : Line) (bytes rest : List ℕ) : Type 0 where
    pub done : List ℕ
    pub parts : done ++ rest ≡ bytes
    pub after : (text written : List ℕ) → IsAfter longest answer text written waiting line → IsAfter longest answer (text ++ done) written waiting' line'

  -- one more line was ended
  pub IsFeeding-line : {waiting waiting' waiting'' bytes : List ℕ} {line line' line'' : Line} (rest run others : List ℕ) (at : ℕ)
      → IsFeeding waiting line waiting' line' bytes rest → position (λ byte. byte == 10) rest ≡ Some at → run ≡ take at rest → others ≡ drop at rest
      → ((text written : List ℕ) → IsAfter longest answer text written waiting' line' → IsOnePiece run
      → IsAfter longest answer (text ++ run ++ 10 ∷ []) written waiting'' line'')
      → IsFeeding waiting line waiting'' line'' bytes (take (length others - 1) (drop 1 others))
  IsFeeding-line {waiting'' = waiting''} {line'' = line''} rest run others at before e front back step = rw take_rest (record {
    done = before.done ++ run ++ 10 ∷ [];
    parts = ap (λ o. before.done ++ run ++ 10 ∷ [] ++ drop 1 o) back ∙ append_assoc (before.done ++ run) (10 ∷ []) (drop 1 (drop at rest))
        ∙ ap (λ o. before.done ++ run ++ o) (newline_parts rest at e) ∙ append_assoc before.done run (drop at rest)
        ∙ ap (λ r. before.done ++ (r ++ drop at rest)) front ∙ ap (λ r. before.done ++ r) (take-append-drop at rest) ∙ before.parts;
    after = λ text written b. subst (λ t. IsAfter longest answer t written waiting'' line'')
        (ap (λ t. t ++ 10 ∷ []) (append_assoc text before.done run) ∙ append_assoc text (before.done ++ run) (10 ∷ []))
        (step (text ++ before.done) written (before.after text written b) (subst IsOnePiece (sym front) (one_piece-take rest at e)));
  })

  -- the rest has no newline
  pub IsFeeding-end : {E : Type 0} (result : Result (Unit {0}) E) {waiting waiting' bytes : List ℕ} {line line' : Line}
      (rest : List ℕ) (line'' : Line) → IsFeeding waiting line waiting' line' bytes rest → position (λ byte. byte == 10) rest ≡ None
      → (text written : List ℕ) → IsAfter longest answer text written waiting line
      → ((begun : List ℕ) → IsLine longest line' begun → OnOk result (IsLine longest line'' (begun ++ rest))) → line''.faulty ≡ line'.faulty
      → OnOk result (IsAfter longest answer (text ++ bytes) written waiting' line'')
  IsFeeding-end (Err error) rest line'' feeding e text written before step same = tt
  IsFeeding-end (Ok unit) {waiting' = waiting'} rest line'' feeding e text written before step same =
      let after = feeding.after text written before in
      subst (λ t. IsAfter longest answer t written waiting' line'') (append_assoc text feeding.done rest ∙ ap (λ t. text ++ t) feeding.parts)
      (IsAfter-run rest after (one_piece-whole rest e) (step (last_piece (text ++ feeding.done)) after.begun) same)

  -- memory was refused before the rest
  pub IsFeeding-refused : {waiting waiting' bytes : List ℕ} {line line' : Line} (rest new : List ℕ)
      → IsFeeding waiting line waiting' line' bytes rest → new ≡ waiting' → (text written : List ℕ) → IsAfter longest answer text written waiting line
      → rest ≢ []
      → AreRepliesBefore answer text (text ++ bytes) (written ++ new)
  IsFeeding-refused {bytes = bytes} rest new feeding same text written before some =
      let done = feeding.after text written before in
      let answered = text ++ feeding.done in
      let whole : answered ++ rest ≡ text ++ bytes = append_assoc text feeding.done rest ∙ ap (λ t. text ++ t) feeding.parts in
      let IsBelow : List ℕ → Type 0 = λ t. length (ended_lines answered) < length (lines t) in
      record {
        refused = length (ended_lines answered);
        unended = length-ended_lines-append text feeding.done;
        is_line = subst IsBelow whole (length-lines-more answered rest some);
        replies =
            ap (λ w. written ++ w) same ∙ done.answered
            ∙ ap (replies_to answer) (sym (take-lines answered rest))
            ∙ ap (λ t. replies_to answer (take (length (ended_lines answered)) (lines t))) whole;
      }

  -- no reply waits
  pub IsAfter-served : {start now : Option (List ℕ)} {text waiting : List ℕ} {line : Line} → IsServed longest answer start now text line → waiting ≡ []
      → IsAfter longest answer text (replies_to answer (ended_lines text)) waiting line
  IsAfter-served {text = text} served none = grind (arith, append-nil)

  -- the replies that waited were written
  pub IsServed-written : (result : Result (Unit {0}) RunFault) (new : Option (List ℕ)) (bytes : List ℕ) {start old : Option (List ℕ)}
      {text text' waiting : List ℕ} {line line' : Line} → IsServed longest answer start old text line
      → IsAfter longest answer text' (replies_to answer (ended_lines text)) waiting line' → bytes ≡ waiting → OnOk result (Appends old new bytes)
      → OnOk result (IsServed longest answer start new text' line')
  IsServed-written (Err fault) new bytes served after all wrote = tt
  IsServed-written (Ok unit) new bytes {start} {old} {text} served after all wrote = grind (arith, Appends-trans)

  -- a writer that failed has a beginning of the replies
  IsStop-front : (result : Result (Unit {0}) RunFault) (start old new : Option (List ℕ)) (failed : Bool) (earlier text front bytes rest : List ℕ)
      → Appends start old front → (front ++ bytes) ++ rest ≡ replies answer text → OnErr result (AppendsPart old new bytes) → OnErr result (failed ≡ true)
      → IfErr result (λ fault. fault ≡ Write) → IfErr result (λ fault. IsStop answer fault start new earlier text failed)
  IsStop-front (Ok unit) start old new failed earlier text front bytes rest before parts part broken write = tt
  IsStop-front (Err fault) start old new failed earlier text front bytes rest before parts part broken write =
      let all = front ++ take part.count bytes in
      let split : all ++ (drop part.count bytes ++ rest) ≡ (front ++ bytes) ++ rest = sym (append_assoc all (drop part.count bytes) rest)
      ∙ ap (λ l. l ++ rest) (append_assoc front (take part.count bytes) (drop part.count bytes) ∙ ap (λ l. front ++ l) (take-append-drop part.count bytes)) in
      inr (
        write,
        AppendsPart-front start new all (drop part.count bytes ++ rest) (replies answer text)
            (Appends-trans start old new front (take part.count bytes) before part.wrote) (split ∙ parts),
        broken,
      )

  -- the writer failed among the replies to lines that ended
  pub IsStop-written : (result : Result (Unit {0}) RunFault) (new : Option (List ℕ)) (failed : Bool) (bytes : List ℕ) {start old : Option (List ℕ)}
      {text text' waiting : List ℕ} {line line' : Line} → IsServed longest answer start old text line
      → IsAfter longest answer text' (replies_to answer (ended_lines text)) waiting line' → bytes ≡ waiting → OnErr result (AppendsPart old new bytes)
      → OnErr result (failed ≡ true) → IfErr result (λ fault. fault ≡ Write) → IfErr result (λ fault. IsStop answer fault start new text text' failed)
  IsStop-written result new failed bytes {start} {old} {text} {text'} served after all = grind (arith, IsStop-front, replies_to-append)

  -- the replies to some first lines begin those to all
  replies_to-take : (count : ℕ) (text : List ℕ) → replies_to answer (take count (lines text)) ++ replies_to answer (drop count (lines text)) ≡ replies
      answer text
  replies_to-take count text = sym (replies_to-append answer (take count (lines text)) (drop count (lines text)))
      ∙ ap (replies_to answer) (take-append-drop count (lines text))

  -- memory was refused, and what waited before was written, or the writer failed then
  pub IsStop-some : (start old new : Option (List ℕ)) (failed : Bool) (text' bytes waiting : List ℕ) {text : List ℕ} {line : Line}
      (result : Result (Unit {0}) RunFault) → IsServed longest answer start old text line → AreRepliesBefore answer text text'
      (replies_to answer (ended_lines text) ++ waiting)
      → bytes ≡ waiting
      → OnErr result (AppendsPart old new bytes) → OnErr result (failed ≡ true) → IfErr result (λ fault. fault ≡ Write)
      → IfErr result (λ fault. IsStop answer fault start new text text' failed)
  IsStop-some start old new failed text' bytes waiting {text} result served some all =
      let front = replies_to answer (ended_lines text) in
      IsStop-front result start old new failed text text' front bytes (replies_to answer (drop some.refused (lines text'))) served.wrote
      (ap (λ w. (front ++ w) ++ replies_to answer (drop some.refused (lines text'))) all
      ∙ ap (λ w. w ++ replies_to answer (drop some.refused (lines text'))) some.replies ∙ replies_to-take some.refused text')

  pub AppendsBefore-written : (start old new : Option (List ℕ)) (text' bytes waiting : List ℕ) {text : List ℕ} {line : Line}
      → IsServed longest answer start old text line → AreRepliesBefore answer text text' (replies_to answer (ended_lines text) ++ waiting) → bytes ≡ waiting
      → Appends old new bytes → AppendsBefore answer start new text text'
  AppendsBefore-written start old new text' bytes waiting {text} served some all wrote = grind (arith, Appends-trans)

  -- nothing of the last line was written
  pub AppendsBefore-served : (start now : Option (List ℕ)) (text : List ℕ) {line : Line} → IsServed longest answer start now text line
      → last_piece text ≢ [] → AppendsBefore answer start now text text
  AppendsBefore-served start now text served some = record {
    bytes = replies_to answer (ended_lines text);
    replies = record {
      refused = length (ended_lines text);
      unended = omega arith;
      is_line = length-lines-begun text some;
      replies = ap (replies_to answer) (sym (ap (λ t. take (length (ended_lines text)) (lines t)) (sym (append-nil text)) ∙ take-lines text []));
    };
    wrote = served.wrote;
  }

  -- the replies to a text are those to its ended lines and then that to its last line
  replies-parts : (text bytes : List ℕ) → bytes ≡ replies_to answer (unended_line text) → replies_to answer (ended_lines text) ++ bytes ≡ replies answer text
  replies-parts text bytes last = grind (arith, replies_to-append)

  -- the writer failed in the reply to the last line
  pub IsStop-last : (result : Result (Unit {0}) RunFault) (new : Option (List ℕ)) (failed : Bool) (bytes : List ℕ) {start old : Option (List ℕ)}
      {text : List ℕ} {line : Line} → IsServed longest answer start old text line → bytes ≡ replies_to answer (unended_line text)
      → OnErr result (AppendsPart old new bytes) → OnErr result (failed ≡ true) → IfErr result (λ fault. fault ≡ Write)
      → IfErr result (λ fault. IsStop answer fault start new text text failed)
  IsStop-last result new failed bytes {start} {old} {text} served last =
      let front = replies_to answer (ended_lines text) in
      IsStop-front result start old new failed text text front bytes [] served.wrote (append-nil (front ++ bytes) ∙ replies-parts text bytes last)

  -- the reply to the last line was written
  pub Appends-last : (result : Result (Unit {0}) RunFault) (new : Option (List ℕ)) (bytes : List ℕ) {start old : Option (List ℕ)} {text : List ℕ}
      {line : Line} → IsServed longest answer start old text line → bytes ≡ replies_to answer (unended_line text) → OnOk result (Appends old new bytes)
      → OnOk result (Appends start new (replies answer text))
  Appends-last (Err fault) new bytes served last wrote = tt
  Appends-last (Ok unit) new bytes {start} {old} {text} served last wrote =
      subst (Appends start new) (replies-parts text bytes last) (Appends-trans start old new (replies_to answer (ended_lines text)) bytes served.wrote wrote)

  -- whether a line was at fault is noted after the last line
  pub noted-last : {start old : Option (List ℕ)} {text : List ℕ} {line : Line} (faulty : Bool) → IsServed longest answer start old text line
      → faulty ≡ (line.faulty || has_fault answer (unended_line text)) → faulty ≡ has_fault answer (lines text)
  noted-last {text = text} faulty served told = grind (arith, list_any-append)

  -- nothing was read
  pub IsServed-begin : (start : Option (List ℕ)) (line : Line) → IsLine longest line [] → line.faulty ≡ false → IsServed longest answer start start [] line
  unfolding replies_to
  IsServed-begin start line kept none = grind (arith, ended_lines-nil, Appends-nil, last_piece-nil)

  -- some bytes of the input were taken, and served
  pub record IsRunning (in0 in1 out0 out1 : Option (List ℕ)) (line : Line) : Type 0 where
    pub took : List ℕ
    pub read : Consumes in0 in1 took
    pub served : IsServed longest answer out0 out1 took line

  pub IsRunning-begin : (in0 out0 : Option (List ℕ)) (line : Line) → IsLine longest line [] → line.faulty ≡ false → IsRunning in0 in0 out0 out0 line
  IsRunning-begin in0 out0 line kept none = record { took = []; read = Consumes-nil in0; served = IsServed-begin out0 line kept none }

  -- more bytes of the input were taken, and served
  pub IsRunning-more : {in0 in1 out0 out1 : Option (List ℕ)} {line line' : Line} (in2 out2 : Option (List ℕ)) (more : List ℕ)
      (running : IsRunning in0 in1 out0 out1 line) → Consumes in1 in2 more → IsServed longest answer out0 out2 (running.took ++ more) line'
      → IsRunning in0 in2 out0 out2 line'
  IsRunning-more {in0} {in1} in2 out2 more running read served = grind (arith, Consumes-trans)

  -- a run that memory or the writer stopped
  pub RunLeaves-stop : {R W : Type 0} (T : Type 0) (remaining : R → Option (List ℕ)) (contents : W → Option (List ℕ)) (in0 in2 : Watched R) (out0 out2 : Watched W)
      (fault : RunFault) {in1 out1 : Option (List ℕ)} {line : Line} (text more : List ℕ)
      (running : IsRunning (remaining in0.inner) in1 (contents out0.inner) out1 line) → Consumes in1 (remaining in2.inner) more
      → length more ≤ longest_read → text ≡ running.took ++ more
      → IsStop answer fault (contents out0.inner) (contents out2.inner) running.took text out2.failed
      → RunLeaves {T = T} answer remaining contents in0 in2 out0 out2 (Err fault)
  RunLeaves-stop T remaining contents in0 in2 out0 out2 fault {in1} text more running read one_read whole (inl refused) = grind (arith, Consumes-trans)
  RunLeaves-stop T remaining contents in0 in2 out0 out2 fault {in1} text more running read one_read whole (inr broken) = grind (arith, Consumes-trans)

  -- a run whose input gives no more bytes
  pub RunLeaves-end : {R W T : Type 0} (remaining : R → Option (List ℕ)) (contents : W → Option (List ℕ)) (in0 in2 : Watched R) (out0 out2 : Watched W)
      (value : T) {in1 out1 : Option (List ℕ)} {line : Line}
      (running : IsRunning (remaining in0.inner) in1 (contents out0.inner) out1 line) → Consumes in1 (remaining in2.inner) []
      → IsAtEnd (remaining in2.inner) → in2.failed ≡ false → Appends (contents out0.inner) (contents out2.inner) (replies answer running.took)
      → out2.failed ≡ false → out2.flushed ≡ true → RunLeaves answer remaining contents in0 in2 out0 out2 (Ok value)
  RunLeaves-end remaining contents in0 in2 out0 out2 value {in1} running read end reader wrote writer flushed = grind (arith, append-nil, Consumes-trans)

  -- memory or the writer stopped the answers to a text
  pub TextLeaves-stop : {W : Type 0} (contents : W → Option (List ℕ)) (out0 out2 : Watched W) (fault : RunFault) (earlier text : List ℕ)
      → IsStop answer fault (contents out0.inner) (contents out2.inner) earlier text out2.failed → TextLeaves answer text contents out0 out2 (Err fault)
  TextLeaves-stop contents out0 out2 fault earlier text (inl refused) = grind (arith, ended_lines-nil)
  TextLeaves-stop contents out0 out2 fault earlier text (inr broken) = grind arith
