-- What the program does for its arguments, and its exit status. in0 and in1 are its input before and after, out0 and out1 its output, and err0 and err1
-- its standard error. `remaining` is what a reader has left, and `contents` is what a writer holds.
use Rattle.std.specs.{Prelude.{ℕ, ◌≡◌, ◌⊎◌, true, false, List, Bool, Option, Result, IfOk}, Io.KnownBytes.Appends}
use Rattle.rlp_lines.specs.{Run.{AppendsPart, RunLeaves, TellsFault, TextLeaves}, Replies.answer_by, Watched.Watched, declared.serving.RunFault.{RunFault}}
use Rattle.rlp_show.specs.Answers.{answer_of, exit_status, long_line, longest_line}
use Rattle.rlp_show.specs.{declared.request.Request.TheVariants.{Help, Lines, Record, Unknown, Version}, declared.answers.Answers.Answers}
use Rattle.rlp_show.specs.{declared.help.TheConstants.HELP, declared.help.TheConstants.USAGE, declared.help.TheConstants.VERSION, declared.request.Request.{Request}}

-- the answer to any line, for records of a kind and in a form
abbrev pub line_answer : Answers → List ℕ → List ℕ
line_answer answers = answer_by longest_line (long_line answers) (answer_of answers)

-- a text was written whole and flushed, and the status is 0; or the writer failed after a beginning of the text, and the status is 3
abbrev pub Prints : {W : Type 0} → List ℕ → (W → Option (List ℕ)) → Watched W → Watched W → ℕ → Type 0
Prints text contents out0 out1 status =
    ((status ≡ 0) × Appends (contents out0.inner) (contents out1.inner) text × (out1.failed ≡ false) × (out1.flushed ≡ true))
    ⊎ ((status ≡ 3) × AppendsPart (contents out0.inner) (contents out1.inner) text × (out1.failed ≡ true))

-- a text was printed on standard error, whole or as far as the writer took it, and the status is 4
abbrev pub Refuses : {E : Type 0} → List ℕ → (E → Option (List ℕ)) → Watched E → Watched E → ℕ → Type 0
Refuses text contents err0 err1 status = (status ≡ 4) × ((printed : ℕ) × Prints text contents err0 err1 printed)

-- the lines of the input were answered, and the status tells how the run ended
pub record AnswersInput {R W : Type 0} (answers : Answers) (remaining : R → Option (List ℕ)) (contents : W → Option (List ℕ)) (in0 in1 : Watched R)
    (out0 out1 : Watched W) (status : ℕ) : Type 0 where
  pub outcome : Result Bool RunFault
  pub leaves : RunLeaves (line_answer answers) remaining contents in0 in1 out0 out1 outcome
  pub faulty : IfOk outcome (TellsFault (line_answer answers) (remaining in0.inner) (remaining in1.inner))
  pub ended : status ≡ exit_status outcome

-- the lines of a word were answered, and the status tells how the answering ended
pub record AnswersWord {W : Type 0} (answers : Answers) (word : List ℕ) (contents : W → Option (List ℕ)) (out0 out1 : Watched W) (status : ℕ) : Type 0 where
  pub outcome : Result Bool RunFault
  pub leaves : TextLeaves (line_answer answers) word contents out0 out1 outcome
  pub ended : status ≡ exit_status outcome

-- what is done for a request with this last word; the readers and writers that aren't named stay as they were
abbrev pub Serves : {R W E : Type 0} → Request → List ℕ → (R → Option (List ℕ)) → (W → Option (List ℕ)) → (E → Option (List ℕ))
    → Watched R → Watched R → Watched W → Watched W → Watched E → Watched E → ℕ → Type 0
Serves Help word remaining contents errors in0 in1 out0 out1 err0 err1 status =
    Prints HELP.now contents out0 out1 status × (in1 ≡ in0) × (err1 ≡ err0)
Serves Version word remaining contents errors in0 in1 out0 out1 err0 err1 status =
    Prints VERSION.now contents out0 out1 status × (in1 ≡ in0) × (err1 ≡ err0)
Serves (Lines answers) word remaining contents errors in0 in1 out0 out1 err0 err1 status =
    AnswersInput answers remaining contents in0 in1 out0 out1 status × (err1 ≡ err0)
Serves (Record answers) word remaining contents errors in0 in1 out0 out1 err0 err1 status =
    AnswersWord answers word contents out0 out1 status × (in1 ≡ in0) × (err1 ≡ err0)
Serves Unknown word remaining contents errors in0 in1 out0 out1 err0 err1 status =
    Refuses USAGE.now errors err0 err1 status × (in1 ≡ in0) × (out1 ≡ out0)
