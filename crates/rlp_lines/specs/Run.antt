-- What a run leaves. `answer` is the answer to each line. in0 and in1 are the bytes that the reader had left before and after the run.
-- out0 and out1 are the bytes that the writer held.
use Rattle.std.specs.Prelude.{ℕ, Bool, ◌≡◌, ◌<◌, ◌≤◌, ◌-◌, ◌^◌, ◌⊎◌, true, false, List, [], ◌++◌, length, take, Option, Result, Ok, Err}
use Rattle.std.specs.Io.KnownBytes.{Consumes, Appends, IsAtEnd}
use Rattle.rlp_lines.specs.{Lines.{lines, ended_lines}, Replies.{has_fault, replies_to, replies}, Watched.Watched, declared.serving.RunFault.RunFault}
use Rattle.rlp_lines.specs.declared.serving.RunFault.TheVariants.{Memory, Read, Write}

-- a beginning of these bytes was appended
pub record AppendsPart (out0 out1 : Option (List ℕ)) (bytes : List ℕ) : Type 0 where
  pub count : ℕ
  pub wrote : Appends out0 out1 (take count bytes)

-- the input was read to its end, and the replies to all its lines were written
pub record AnswersAll (answer : List ℕ → List ℕ) (in0 in1 out0 out1 : Option (List ℕ)) : Type 0 where
  pub took : List ℕ
  pub read : Consumes in0 in1 took
  pub ended : IsAtEnd in1
  pub wrote : Appends out0 out1 (replies answer took)

-- the most bytes of one read
abbrev pub longest_read : ℕ
longest_read = 16384

-- the whole replies to the lines before some line of a text, which had not ended in the earlier part of the text
pub record AreRepliesBefore (answer : List ℕ → List ℕ) (earlier text bytes : List ℕ) : Type 0 where
  pub refused : ℕ
  pub unended : length (ended_lines earlier) ≤ refused
  pub is_line : refused < length (lines text)
  pub replies : bytes ≡ replies_to answer (take refused (lines text))

-- the whole replies to the lines before some line were appended
pub record AppendsBefore (answer : List ℕ → List ℕ) (out0 out1 : Option (List ℕ)) (earlier text : List ℕ) : Type 0 where
  pub bytes : List ℕ
  pub replies : AreRepliesBefore answer earlier text bytes
  pub wrote : Appends out0 out1 bytes

-- memory was refused at a line that had not ended before the last read, and the whole replies to exactly the lines before it were written
pub record AnswersBefore (answer : List ℕ → List ℕ) (in0 in1 out0 out1 : Option (List ℕ)) : Type 0 where
  pub earlier : List ℕ
  pub last : List ℕ
  pub read : Consumes in0 in1 (earlier ++ last)
  pub one_read : length last ≤ longest_read
  pub answered : AppendsBefore answer out0 out1 earlier (earlier ++ last)

-- the replies to all lines that were read up to their newline were written
pub record AnswersEnded (answer : List ℕ → List ℕ) (in0 in1 out0 out1 : Option (List ℕ)) : Type 0 where
  pub took : List ℕ
  pub read : Consumes in0 in1 took
  pub wrote : Appends out0 out1 (replies_to answer (ended_lines took))

-- whether one of the lines of an input that was read was at fault
pub record TellsFault (answer : List ℕ → List ℕ) (in0 in1 : Option (List ℕ)) (faulty : Bool) : Type 0 where
  pub took : List ℕ
  pub read : Consumes in0 in1 took
  pub told : faulty ≡ has_fault answer (lines took)

-- a beginning of the replies to what was read was written
pub record AnswersPart (answer : List ℕ → List ℕ) (in0 in1 out0 out1 : Option (List ℕ)) : Type 0 where
  pub took : List ℕ
  pub read : Consumes in0 in1 took
  pub wrote : AppendsPart out0 out1 (replies answer took)

-- What a run leaves, by its result: what it wrote, and which device has failed. `remaining` is what a reader has left, and `contents` is what a writer holds.
-- After `Ok` neither device has failed, and the output was flushed after its last write. After `Read` the reader failed, or its count of reads is at its end.
abbrev pub RunLeaves : {R W T : Type 0} → (List ℕ → List ℕ) → (R → Option (List ℕ)) → (W → Option (List ℕ)) → Watched R → Watched R → Watched W → Watched W
    → Result T RunFault → Type 0
RunLeaves answer remaining contents in0 in1 out0 out1 (Ok end) =
    AnswersAll answer (remaining in0.inner) (remaining in1.inner) (contents out0.inner) (contents out1.inner)
    × (in1.failed ≡ false) × (out1.failed ≡ false) × (out1.flushed ≡ true)
RunLeaves answer remaining contents in0 in1 out0 out1 (Err Memory) =
    AnswersBefore answer (remaining in0.inner) (remaining in1.inner) (contents out0.inner) (contents out1.inner)
RunLeaves answer remaining contents in0 in1 out0 out1 (Err Read) =
    AnswersEnded answer (remaining in0.inner) (remaining in1.inner) (contents out0.inner) (contents out1.inner)
    × ((in1.failed ≡ true) ⊎ (in1.reads ≡ 2 ^ 64 - 1))
RunLeaves answer remaining contents in0 in1 out0 out1 (Err Write) =
    AnswersPart answer (remaining in0.inner) (remaining in1.inner) (contents out0.inner) (contents out1.inner) × (out1.failed ≡ true)

-- What the answers to the lines of a text leave, by their result. No reader is involved, so no read fails.
abbrev pub TextLeaves : {W : Type 0} → (List ℕ → List ℕ) → List ℕ → (W → Option (List ℕ)) → Watched W → Watched W → Result Bool RunFault → Type 0
TextLeaves answer text contents out0 out1 (Ok faulty) =
    Appends (contents out0.inner) (contents out1.inner) (replies answer text)
    × (faulty ≡ has_fault answer (lines text)) × (out1.failed ≡ false) × (out1.flushed ≡ true)
TextLeaves answer text contents out0 out1 (Err Memory) = AppendsBefore answer (contents out0.inner) (contents out1.inner) [] text
TextLeaves answer text contents out0 out1 (Err Read) = ⊥
TextLeaves answer text contents out0 out1 (Err Write) =
    AppendsPart (contents out0.inner) (contents out1.inner) (replies answer text) × (out1.failed ≡ true)
