-- The answers to lines of calls.
use Rattle.std.proofs.Common.{◌≡◌, ℕ, suc, ◌+◌, ◌^◌, ◌<◌, All, subst, false, List, [], ◌∷◌, ◌++◌, length, append-nil, codes, decimal, Result, Ok, Err}
use Rattle.std.proofs.Common.{OnOk, IsTrue, refl, sym, ap, ◌∙◌, arith, ◌≤◌, Bool, true, cond, length-take, drop, get_or, Option, Some, None}
use Rattle.std.proofs.{Common.filter_map, lemmas.Bool.{cond-true, cond-false, false_from_ne_true}, lemmas.Bool.Decides.nat_tests}
use Rattle.std.proofs.{lemmas.List.length-drop, lemmas.List.Splits.{slice_split-cons_yes, slice_split-cons_no}}
use Rattle.rlp.specs.{Format.Encoding.{Item, join, BeginsWith, IsSized}, Streams.Stream.{append, append_raw, begin_list, begin_unbounded_list, finalize_unbounded_list, clear}}
use Rattle.rlp.specs.Streams.Stream.{OpenList, Stack, State, IsFinished, initial_state, closed_size, raw_text, Call, effect, is_admitted, after}
use Rattle.rlp.specs.{Streams.Described.{Step, DescribesWhere, IsDescribedWhere, FinishAs, brings, opens, finishes, clears, by_append, by_unbounded_list, by_finalize, by_clear}}
use Rattle.rlp.specs.Streams.Described.{by_empty_data, by_raw, by_checked_raw, by_refused_raw, by_empty_list, by_list, by_internal_list}
use Rattle.rlp_tool.specs.{declared.making.LineFault.{LineFault}, Building.IsSomeStep, Making.{AppendsFault, AreMade, IsLineFault, MakesScript}, RawItems.IsShallow}
use Rattle.rlp_tool.specs.Building.{AreRefused, AreTaken, BringsItems, BringsNoItems, BringsTooMany, HasNothingToFinish, StayOpen, is_raw, is_finish}
use Rattle.rlp_tool.specs.Script.{script, call_in, is_call, raw_call, raw_parts}
use Rattle.rlp_tool.specs.{Answer.{SaysCalls, answer, brings_items, finished_answer, open_answer, state_answer, refusal_name, outcome_answer}, Answer.calls_answer, Pieces.spaces}
use Rattle.rlp_lines.specs.{Replies.answer_by, Digits.{bytes_in, digits_of}}
use Rattle.rlp_tool.proofs.{CallsLemmas.{Leaves, made_if, step_begin, step_raw}, RawLemmas.{ItemsPass, OnlyItemsPass}}
use Rattle.std.specs.{List.{list_all, prefix_len, cons_option, onto_first}, Str.Lines.strip_carriage_return, Result.result_ok}
use Rattle.hex.specs.{Hex.decode_of, declared.error.FromHexError.FromHexError}
use Rattle.hex.proofs.HexLemmas.{decode_of-ok}

-- ---- the calls of a script

-- a call that a script can hold, whose raw bytes are at most n
abbrev pub IsSaid : ℕ → Call → Type 0
IsSaid n (append x) = Unit
IsSaid n (append_raw bytes k) = length bytes ≤ n
IsSaid n (begin_list m) = Unit
IsSaid n begin_unbounded_list = Unit
IsSaid n finalize_unbounded_list = Unit
IsSaid n clear = Unit
IsSaid n _ = ⊥

abbrev IsSaidIfAny : ℕ → Option Call → Type 0
IsSaidIfAny n None = Unit
IsSaidIfAny n (Some c) = IsSaid n c

abbrev pub AreSaid : ℕ → List Call → Type 0
AreSaid n [] = Unit
AreSaid n (c ∷ cs) = IsSaid n c × AreSaid n cs

length-read : (r : Result (List ℕ) FromHexError) (digits bytes : List ℕ) → decode_of digits ≡ r → result_ok r ≡ Some bytes → length bytes ≤ length digits
length-read r digits bytes e f = grind (arith, decode_of-ok)

length-digits_of : (text : List ℕ) → length (digits_of text) ≤ length text
length-digits_of text = grind (arith, length-drop {A = ℕ})

pub length-stripped : (line : List ℕ) → length (strip_carriage_return line) ≤ length line
length-stripped line = grind (arith, length-take {A = ℕ})

-- a text writes fewer bytes than it has
length-bytes_in : (text bytes : List ℕ) → bytes_in text ≡ Some bytes → length bytes ≤ length text
length-bytes_in text bytes e = omega (arith, length-read (decode_of (digits_of text)) (digits_of text) bytes refl e, length-digits_of text)

raw_said : (n : ℕ) (count : Option ℕ) (o : Option (List ℕ)) → ((bytes : List ℕ) → o ≡ Some bytes → length bytes ≤ n) → IsSaidIfAny n (raw_call count o)
raw_said n count o e = grind arith

raw_parts_said : (n : ℕ) (text : List ℕ) (at : Option ℕ) → length text ≤ n → IsSaidIfAny n (raw_parts text at)
raw_parts_said n text None within = tt
raw_parts_said n text (Some at) within =
    raw_said n _ (bytes_in (drop (at + 1) text)) (λ bytes e. omega (arith, within, length-bytes_in (drop (at + 1) text) bytes e, length-drop (at + 1) text))

piece_said : (n : ℕ) (piece : List ℕ) → length piece ≤ n → IsSaidIfAny n (call_in piece)
piece_said n [] within = tt
piece_said n (letter ∷ []) within = grind arith
piece_said n (letter ∷ colon ∷ text) within = grind (arith, raw_parts_said)

-- pieces of at most n bytes
abbrev AreShort : ℕ → List (List ℕ) → Type 0
AreShort n [] = Unit
AreShort n (p ∷ ps) = (length p ≤ n) × AreShort n ps

shorter : (n m : ℕ) (ps : List (List ℕ)) → n ≤ m → AreShort n ps → AreShort m ps
shorter n m [] less h = tt
shorter n m (p ∷ ps) less h = (omega (arith, less, h.0), shorter n m ps less h.1)

onto_short : (n b : ℕ) (ps : List (List ℕ)) → AreShort n ps → AreShort (suc n) (onto_first b ps)
onto_short n b ps e = grind (arith, shorter)

pieces_short : (text : List ℕ) → AreShort (length text) (spaces text)
pieces_short [] = (omega arith, tt)
pieces_short (b ∷ text) = grind (arith, slice_split-cons_yes, shorter, slice_split-cons_no, onto_short, pieces_short text)

cons_said : (n : ℕ) (o : Option Call) (cs : List Call) → IsSaidIfAny n o → AreSaid n cs → AreSaid n (cons_option o cs)
cons_said n o cs e f = grind arith

pieces_said : (n : ℕ) (ps : List (List ℕ)) → AreShort n ps → AreSaid n (filter_map call_in ps)
pieces_said n [] h = tt
pieces_said n (p ∷ ps) h = cons_said n (call_in p) (filter_map call_in ps) (piece_said n p h.0) (pieces_said n ps h.1)

told : (b : Bool) (said calls : List Call) (place : ℕ) → cond b (Ok said) (Err place) ≡ Ok calls → said ≡ calls
told b said calls place e = grind arith

-- the calls of a script
pub script_said : (text : List ℕ) (calls : List Call) → script text ≡ Ok calls → AreSaid (length text) calls
script_said [] calls e = let none : [] ≡ calls = cc in subst (AreSaid 0) none tt
script_said (b ∷ text) calls e =
    subst (AreSaid (length (b ∷ text))) (told (list_all is_call (spaces (b ∷ text))) (filter_map call_in (spaces (b ∷ text))) calls
    (1 + prefix_len is_call (spaces (b ∷ text))) e) (pieces_said (length (b ∷ text)) (spaces (b ∷ text)) (pieces_short (b ∷ text)))

-- what the law of the test of raw bytes says
module _ (pass : ItemsPass) (only : OnlyItemsPass) where
  -- ---- answers that begin with `out`

  said_step : (n : ℕ) (c : Call) (s : State) → ((xs : List Item) → length (join xs) < 2 ^ 64 → All IsSized xs) → n < 2 ^ 64 → IsSaid n c
      → IsTrue (brings_items c) → IsSomeStep c s
  said_step n (append x) s sized fits said passed = (brings (x ∷ []), by_append x)
  said_step n (append_raw bytes k) s sized fits said passed = step_raw bytes k s sized (omega (arith, fits, said)) (only bytes k passed)
  said_step n (begin_list m) s sized fits said passed = step_begin m s
  said_step n begin_unbounded_list s sized fits said passed = (opens None, by_unbounded_list)
  said_step n finalize_unbounded_list s sized fits said passed = (finishes, by_finalize)
  said_step n clear s sized fits said passed = (clears, by_clear)
  said_step n _ s sized fits said passed = absurd said

  none_open : (ls : List (OpenList ℕ)) (s : State) → BeginsWith (state_answer ls s) (codes "out") → ls ≡ []
  none_open ls s e = grind arith

  refusal_differs : (b : Bool) (number : List ℕ)
      → BeginsWith (cond b (codes "error too many items at ") (codes "error nothing to finish at ") ++ number) (codes "out") → ⊥
  refusal_differs b number e = grind arith

  raw_differs : (number : List ℕ) → BeginsWith (codes "error raw not items at " ++ number) (codes "out") → ⊥
  raw_differs number begins = omega (arith, ap (λ (a : List ℕ). get_or a 0 0) begins.1)

  -- calls of a script whose answer is `out` are made, and leave no list open
  pub end_finished : (n place : ℕ) (s : State) (calls : List Call) → ((xs : List Item) → length (join xs) < 2 ^ 64 → All IsSized xs) → n < 2 ^ 64
      → AreSaid n calls → BeginsWith (outcome_answer place s calls) (codes "out") → (last : State) × AreMade s calls last × IsFinished last
  end_finished n place s [] sized fits said begins = (s, refl, none_open s.stack.lists s begins)
  end_finished n place s (c ∷ calls) sized fits said begins =
      let Starts : List ℕ → Type 0 = λ a. BeginsWith a (codes "out") in
      let next = outcome_answer (place + 1) (effect c s) calls in
      let raw = codes "error raw not items at " ++ decimal place in
      let refused = refusal_name c ++ decimal place in
      elim (is_admitted c s) as (λ test. is_admitted c s ≡ test → (last : State) × AreMade s (c ∷ calls) last × IsFinished last) [
        | true ↦ λ admitted.
            let made : Starts (cond (brings_items c) next raw) = subst Starts (cond-true (is_admitted c s) (cond (brings_items c) next raw) refused admitted) begins in
            elim (brings_items c) as (λ test. brings_items c ≡ test → (last : State) × AreMade s (c ∷ calls) last × IsFinished last) [
              | true ↦ λ passed.
                  let (last, others, closed) = end_finished n (place + 1) (effect c s) calls sized fits said.1
                  (subst Starts (cond-true (brings_items c) next raw passed) made) in
                  (last, (admitted, said_step n c s sized fits said.0 passed, others), closed)
              | false ↦ λ failed. absurd (raw_differs (decimal place) (subst Starts (cond-false (brings_items c) next raw failed) made))
            ] refl
        | false ↦ λ barred. absurd (refusal_differs (is_raw c) (decimal place)
            (subst Starts (cond-false (is_admitted c s) (cond (brings_items c) next raw) refused barred) begins))
      ] refl

  -- ---- calls that aren't refused

  -- a call that is a step passes the test of its raw bytes
  step_passes : {c : Call} {m : Step} (s : State) → DescribesWhere IsShallow s c m → IsTrue (brings_items c)
  step_passes s (by_append x) = refl
  step_passes s by_empty_data = refl
  step_passes s (by_raw xs sized shallow) = pass xs sized shallow
  step_passes s (by_checked_raw xs limit sized shallow within) = refl
  step_passes s (by_refused_raw bytes k limit large) = refl
  step_passes s by_empty_list = refl
  step_passes s (by_list n) = refl
  step_passes s by_unbounded_list = refl
  step_passes s by_finalize = refl
  step_passes s (by_internal_list xs) = refl
  step_passes s by_clear = refl

  -- the calls after some that are made decide
  outcome-made : (before later : List Call) (n : ℕ) (s t : State) → AreMade s before t → outcome_answer n s (before ++ later) ≡ outcome_answer (n + length before) t later
  outcome-made [] later n s t same = grind arith
  outcome-made (c ∷ before) later n s t (admitted, (m, step), made) = grind (arith, cond-true, step_passes s step, outcome-made before later (n + 1) (effect c s) t made)

  -- the result of calls that are made is that of the state after them
  outcome-all : (calls : List Call) (t : State) → AreMade (initial_state []) calls t → outcome_answer 1 (initial_state []) calls ≡ state_answer t.stack.lists t
  outcome-all calls t made = ap (outcome_answer 1 (initial_state [])) (sym (append-nil calls)) ∙ outcome-made calls [] 1 (initial_state []) t made

  outcome-taken : (calls : List Call) (t : State) → AreTaken [] calls → after [] calls ≡ Ok t
      → outcome_answer 1 (initial_state []) calls ≡ state_answer t.stack.lists t
  outcome-taken calls t taken e = outcome-all calls t (made_if 1 (initial_state []) calls taken.steps t taken.described e)

  pub state_answer-open : (ls : List (OpenList ℕ)) (s : State) → (ls ≡ [] → ⊥) → state_answer ls s ≡ open_answer (closed_size s) (raw_text s)
  state_answer-open ls s e = grind arith

  -- a script whose calls are made has the answer of the state that they lead to
  pub answer-made : (text : List ℕ) (s : State) → MakesScript text s → state_answer s.stack.lists s ≡ calls_answer (script text)
  answer-made text s m = sym (outcome-all m.calls s m.made) ∙ ap calls_answer (sym m.says)

  -- ---- calls that are refused

  refused-first : {reason : Call → State → Type 0} (calls : List Call) (place : ℕ) (r : AreRefused reason [] calls place)
      → outcome_answer 1 (initial_state []) calls ≡ outcome_answer place r.met (r.call ∷ r.later)
  refused-first calls place r =
      let there : 1 + length r.before ≡ place = omega (arith, r.counted) in
      ap (outcome_answer 1 (initial_state [])) r.in_order
      ∙ outcome-made r.before (r.call ∷ r.later) 1 (initial_state []) r.met
      (made_if 1 (initial_state []) r.before r.taken.steps r.met r.taken.described r.admitted)
      ∙ ap (λ (k : ℕ). outcome_answer k r.met (r.call ∷ r.later)) there

  -- the answer names the reason
  named-raw : (c : Call) → IsTrue (is_raw c) → refusal_name c ≡ codes "error too many items at "
  named-raw c h = cond-true (is_raw c) _ _ h

  named-finish : (c : Call) → IsTrue (is_finish c) → refusal_name c ≡ codes "error nothing to finish at "
  named-finish c h = grind arith

  -- raw bytes that aren't items fail the test
  fails : (c : Call) → (BringsItems c → ⊥) → brings_items c ≡ false
  fails c h = false_from_ne_true (brings_items c) (λ passed. h (brought c passed))
    where
      brought : (d : Call) → IsTrue (brings_items d) → BringsItems d
      brought d passed = grind (arith, only)

  pub answer-too_many : (calls : List Call) (place : ℕ) → AreRefused BringsTooMany [] calls place
      → outcome_answer 1 (initial_state []) calls ≡ codes "error too many items at " ++ decimal place
  answer-too_many calls place r =
      refused-first calls place r ∙ cond-false (is_admitted r.call r.met) _ _ r.refused.0
      ∙ ap (λ (name : List ℕ). name ++ decimal place) (named-raw r.call r.refused.1)

  pub answer-nothing : (calls : List Call) (place : ℕ) → AreRefused HasNothingToFinish [] calls place
      → outcome_answer 1 (initial_state []) calls ≡ codes "error nothing to finish at " ++ decimal place
  answer-nothing calls place r =
      refused-first calls place r ∙ cond-false (is_admitted r.call r.met) _ _ r.refused.0
      ∙ ap (λ (name : List ℕ). name ++ decimal place) (named-finish r.call r.refused.1)

  pub answer-no_items : (calls : List Call) (place : ℕ) → AreRefused BringsNoItems [] calls place
      → outcome_answer 1 (initial_state []) calls ≡ codes "error raw not items at " ++ decimal place
  answer-no_items calls place r =
      refused-first calls place r ∙ cond-true (is_admitted r.call r.met) _ _ r.refused.0
      ∙ cond-false (brings_items r.call) _ _ (fails r.call r.refused.1)

  -- the printed fault of a script is the answer to it
  answer-fault : (text old new : List ℕ) (fault : LineFault) → IsLineFault text fault → AppendsFault old new fault → new ≡ old ++ calls_answer (script text)
  answer-fault text old new fault e f = grind (arith, answer-too_many, answer-nothing, answer-no_items)

  -- the same, if it was printed
  pub answer-failed : {T E : Type 0} (printed : Result T E) (text old new : List ℕ) (fault : LineFault) → IsLineFault text fault
      → OnOk printed (AppendsFault old new fault) → OnOk printed (new ≡ old ++ calls_answer (script text))
  answer-failed printed text old new fault e f = grind (arith, answer-fault)

  -- ---- lines of calls

  -- the answer to a line of calls is the result of the calls
  pub answer-calls : (line : List ℕ) (calls : List Call) → SaysCalls line calls → answer line ≡ outcome_answer 1 (initial_state []) calls
  unfolding answer_by
  answer-calls line calls says = grind (arith, nat_tests, cond-false)

  -- the answer to calls that describe items is the join of the items
  pub answer-described : (line : List ℕ) (calls : List Call) (items : List Item) → Leaves [] calls items → SaysCalls line calls
      → IsDescribedWhere IsShallow [] calls items → answer line ≡ finished_answer (join items)
  answer-described line calls items (last, admitted, same_front, stack) says d =
      answer-calls line calls says ∙ outcome-taken calls last (record { steps = d.steps; described = d.described }) admitted
      ∙ ap (λ (k : Stack ℕ). state_answer k.lists (record last { stack = k })) stack

  pub answer-finishes : (line : List ℕ) (calls : List Call) (bytes : List ℕ) → SaysCalls line calls → AreTaken [] calls → FinishAs [] calls bytes
      → answer line ≡ finished_answer bytes
  answer-finishes line calls bytes says taken f =
      answer-calls line calls says ∙ outcome-taken calls f.last taken f.admitted ∙ ap (λ (ls : List (OpenList ℕ)). state_answer ls f.last) f.closed
      ∙ ap finished_answer (sym f.buffer)

  pub answer-opens : (line : List ℕ) (calls : List Call) (size : ℕ) (raw : List ℕ) → SaysCalls line calls → AreTaken [] calls
      → StayOpen [] calls size raw → answer line ≡ open_answer size raw
  answer-opens line calls size raw says taken o =
      answer-calls line calls says ∙ outcome-taken calls o.last taken o.admitted ∙ state_answer-open o.last.stack.lists o.last o.unfinished
      ∙ ap (λ (n : ℕ). open_answer n (raw_text o.last)) (sym o.closed) ∙ ap (open_answer size) (sym o.text)

  -- calls whose answer is `out` are made, and leave no list open
  pub answer-ends : (line : List ℕ) (calls : List Call) → ((xs : List Item) → length (join xs) < 2 ^ 64 → All IsSized xs) → SaysCalls line calls
      → BeginsWith (answer line) (codes "out") → (last : State) × AreMade (initial_state []) calls last × IsFinished last
  answer-ends line calls sized says begins =
      let within : length says.text < 2 ^ 64 = omega (arith, says.within, ap length says.stripped, length-stripped line) in
      end_finished (length says.text) 1 (initial_state []) calls sized within (script_said says.text calls says.says)
      (subst (λ (a : List ℕ). BeginsWith a (codes "out")) (answer-calls line calls says) begins)
