-- Calls of a stream, one after another.
use Rattle.std.proofs.Common.{◌≡◌, ℕ, zero, suc, ◌+◌, ◌^◌, ◌<◌, Bool, true, false, cond, List, [], ◌∷◌, ◌++◌, length, map, Option, Some, None, Result}
use Rattle.std.proofs.Common.{Ok, Err, IfErr, OnOk, OnErr, IsTrue, All, Vec, refl, sym, ap, ◌∙◌, nat_le, arith, subst, ◌-◌, ◌≤◌, replicate, append_assoc}
use Rattle.std.proofs.{Common.{append-nil, length-append}, lemmas.Bool.cond-true, lemmas.List.{replicate-append-replicate, length-replicate}}
use Rattle.std.specs.declared.alloc.Global.{Global}
use Rattle.rlp.specs.{Format.Encoding.{Item, list_of, join, IsSized}, Streams.Stream.{begin_list, effect, is_admitted, after, unbounded_count, finalize_unbounded_list, finalized}}
use Rattle.rlp.specs.Streams.Stream.{OpenList, empty_stack, has_room, awaited, State, initial_state, IsFinished, after_from, Call, append_raw}
use Rattle.rlp.specs.{Streams.Described.{Step, brings, opens, finishes, clears, DescribesWhere, by_append, by_raw, by_empty_list, by_list, joined_list, joined_stack}}
use Rattle.rlp.specs.Streams.Described.{by_unbounded_list, by_finalize, by_clear, AreDescribedWhere, AreDescribed, IsDescribedWhere, items_after_all}
use Rattle.rlp_tool.specs.{declared.building.Built.Built, declared.building.Built.TheVariants.{Finished, Open}, declared.building.BuildFault.{BuildFault}}
use Rattle.rlp_tool.specs.{declared.building.BuildFault.TheVariants.{TooManyItems, NothingToFinish, RawNotItems, OutOfMemory}, declared.calls.StreamCall.{StreamCall}}
use Rattle.rlp_tool.specs.{declared.calls.StreamCall.TheVariants.{Value, Values, Raw, Begin, BeginUnbounded, Finish, Clear}, RawItems.{AreRawItems, IsShallow}, StreamCalls.call_of}
use Rattle.rlp_tool.specs.Building.{AreRefused, AreTaken, BringsItems, IsBuilt, IsJoined, IsRefusal, IsRefusalWhere, AreJoined, IsFinishedAs, IsSomeStep, WantsMemory}
use Rattle.rlp_tool.specs.{Building.takes_memory, Making.WantsMemoryInScript}
use Rattle.rlp_tool.specs.{Making.{AreMade, IsHeld, Fails, Goes, IsStopped, IsTaken, MakesScript, MakesSome, NoneIsNext, StopsScript}, Script.{IsUnread, prepend, script}}
use Rattle.rlp_tool.proofs.CutLemmas.{prepend-append, prepend-nil}

-- room for k items, by the number of awaited items
abbrev pub room_for : ℕ → Option ℕ → Bool
room_for k None = true
room_for k (Some n) = nat_le k n

pub room : (k : ℕ) (lists : List (OpenList ℕ)) → has_room k lists ≡ room_for k (awaited lists)
room k [] = refl
room k (l ∷ ls) = room_in l.awaits
  where
    room_in : (a : Option ℕ) → has_room k (record l { awaits = a } ∷ ls) ≡ room_for k a
    room_in None = refl
    room_in (Some n) = refl

-- ---- calls that are made

pub cond_ok : (b : Bool) (r : Result State ℕ) (n : ℕ) (s : State) → cond b r (Err n) ≡ Ok s → IsTrue b × (r ≡ Ok s)
cond_ok b r n s e = grind arith

-- the steps that they are, and the state after them
pub made_steps : (n : ℕ) (s : State) (calls : List Call) (t : State) → AreMade s calls t
    → (steps : List Step) × AreDescribedWhere IsShallow s calls steps × (after_from n s calls ≡ Ok t)
made_steps n s [] t is = ([], tt, ap (λ (u : State). Ok u) (sym is))
made_steps n s (c ∷ calls) t (admitted, (m, step), made) =
    let (steps, described, rest) = made_steps (n + 1) (effect c s) calls t made in
    (m ∷ steps, (admitted, step, described), cond-true (is_admitted c s) (after_from (n + 1) (effect c s) calls) (Err n) admitted ∙ rest)

-- calls that are steps are made
pub made_if : (n : ℕ) (s : State) (calls : List Call) (steps : List Step) (t : State) → AreDescribedWhere IsShallow s calls steps
    → after_from n s calls ≡ Ok t → AreMade s calls t
made_if n s [] [] t d e = let same : t ≡ s = cc in same
made_if n s [] (m ∷ steps) t d e = absurd d
made_if n s (c ∷ calls) [] t d e = absurd d
made_if n s (c ∷ calls) (m ∷ steps) t d e =
    grind (arith, cond_ok, made_if (n + 1) (effect c s) calls steps t d.2 (cond_ok (is_admitted c s) (after_from (n + 1) (effect c s) calls) n t e).1)

pub made-append : (s : State) (xs ys : List Call) (t u : State) → AreMade s xs t → AreMade t ys u → AreMade s (xs ++ ys) u
made-append s [] ys t u is made = subst (λ (v : State). AreMade v ys u) is made
made-append s (c ∷ xs) ys t u made others = (made.0, made.1, made-append (effect c s) xs ys t u made.2 others)

-- no call changes the front
effect-front : (c : Call) (s : State) → (effect c s).front ≡ s.front
effect-front c s = grind arith

pub made_front : (s : State) (calls : List Call) (t : State) → AreMade s calls t → t.front ≡ s.front
made_front s [] t is = ap (λ (u : State). u.front) is
made_front s (c ∷ calls) t made = made_front (effect c s) calls t made.2 ∙ effect-front c s

-- ---- the step that a call is

pub step_raw : (bytes : List ℕ) (n : ℕ) (s : State) → ((xs : List Item) → length (join xs) < 2 ^ 64 → All IsSized xs) → length bytes < 2 ^ 64
    → AreRawItems bytes n → IsSomeStep (append_raw bytes n) s
step_raw bytes n s sized fits a =
    let step : DescribesWhere IsShallow s (append_raw (join a.brought) (length a.brought)) (brings a.brought) = by_raw a.brought
    (sized a.brought (omega (arith, ap length a.joined))) a.shallow in (
      brings a.brought,
      subst (λ (k : ℕ). DescribesWhere IsShallow s (append_raw bytes k) (brings a.brought)) a.counted
          (subst (λ (b : List ℕ). DescribesWhere IsShallow s (append_raw b (length a.brought)) (brings a.brought)) (sym a.joined) step),
    )

pub step_begin : (n : ℕ) (s : State) → IsSomeStep (begin_list n) s
step_begin zero s = (brings (list_of [] ∷ []), by_empty_list)
step_begin (suc n) s = (opens (Some (suc n)), by_list n)

-- each other call is a step, with any bytes
pub step_other : {E : Type 0} (item : E → Item) (call : StreamCall E) (s : State) → ((bytes : Vec ℕ Global) (n : ℕ) → call ≡ Raw bytes n → ⊥)
    → IsSomeStep (call_of item call) s
step_other item (Value v) s other = (brings (item v ∷ []), by_append (item v))
step_other item (Values vs) s other = (brings (list_of (map item vs.items) ∷ []), by_append (list_of (map item vs.items)))
step_other item (Raw bytes n) s other = absurd (other bytes n refl)
step_other item (Begin n) s other = step_begin n s
step_other item BeginUnbounded s other = (opens None, by_unbounded_list)
step_other item Finish s other = (finishes, by_finalize)
step_other item Clear s other = (clears, by_clear)

-- closing a list is a step
pub step_finish : {E : Type 0} (item : E → Item) (call : StreamCall E) (s : State) → call ≡ Finish → IsSomeStep (call_of item call) s
step_finish item call s is = subst (λ c. IsSomeStep (call_of item c) s) (sym is) (finishes, by_finalize)

-- raw bytes that were tested are a step
pub step_tested : {T F E : Type 0} (r : Result T F) (item : E → Item) (call : StreamCall E) (bytes : Vec ℕ Global) (n : ℕ) (view : List ℕ) (s : State)
    → call ≡ Raw bytes n → view ≡ bytes.items → ((xs : List Item) → length (join xs) < 2 ^ 64 → All IsSized xs) → length view < 2 ^ 64
    → OnOk r (AreRawItems view n)
    → OnOk r (IsSomeStep (call_of item call) s)
step_tested (Ok x) item call bytes n view s is same sized fits a =
    let raw : IsSomeStep (append_raw bytes.items n) s = subst (λ (b : List ℕ). IsSomeStep (append_raw b n) s) same (step_raw view n s sized fits a) in
    subst (λ c. IsSomeStep (call_of item c) s) (sym is) raw
step_tested (Err e) item call bytes n view s is same sized fits a = tt

-- all calls but two are always admitted
pub admitted_other : {E : Type 0} (item : E → Item) (call : StreamCall E) (s : State) → ((bytes : Vec ℕ Global) (n : ℕ) → call ≡ Raw bytes n → ⊥)
    → (call ≡ Finish → ⊥) → IsTrue (is_admitted (call_of item call) s)
admitted_other item call s raw finish = grind arith

-- raw bytes that are a step are items
pub step_brings : (c : Call) (m : Step) (s : State) → DescribesWhere IsShallow s c m → BringsItems c
step_brings c m s step = grind arith

-- a described call, in the state before it
described-at : (before : List Call) (c : Call) (later : List Call) (steps : List Step) (n : ℕ) (s t : State)
    → AreDescribedWhere IsShallow s (before ++ c ∷ later) steps → after_from n s before ≡ Ok t → IsTrue (is_admitted c t) × IsSomeStep c t
described-at [] c later [] n s t d e = absurd d
described-at (b ∷ before) c later [] n s t d e = absurd d
described-at [] c later (m ∷ steps) n s t d e = grind arith
described-at (b ∷ before) c later (m ∷ steps) n s t d e =
    grind (
      arith,
      cond_ok,
      described-at before c later steps (n + 1) (effect b s) t d.2 (cond_ok (is_admitted b s) (after_from (n + 1) (effect b s) before) n t e).1,
    )

described_there : {reason : Call → State
    → Type 0} (front : List ℕ) (calls : List Call) (items : List Item) (place : ℕ) (r : AreRefused reason front calls place)
    → IsDescribedWhere IsShallow front calls items → IsTrue (is_admitted r.call r.met) × IsSomeStep r.call r.met
described_there front calls items place r d =
    described-at r.before r.call r.later d.steps 1 (initial_state front) r.met
    (subst (λ cs. AreDescribedWhere IsShallow (initial_state front) cs d.steps) r.in_order d.described) r.admitted

-- ---- the result of the calls

-- the state after calls, by their steps, as in the law
abbrev pub LeavesSteps : List ℕ → List Call → List Step → Type 0
LeavesSteps front calls steps =
    (last : State) × (after front calls ≡ Ok last) × (last.front ≡ front) × (last.stack ≡ joined_stack (items_after_all steps empty_stack))

-- the state after described calls, as in the law
abbrev pub Leaves : List ℕ → List Call → List Item → Type 0
Leaves front calls items = (last : State) × (after front calls ≡ Ok last) × (last.front ≡ front) × (last.stack ≡ record { inner = join items; lists = [] })

-- calls that are described if no raw item is too deep are described, as in the law
abbrev pub Unrestricted : List ℕ → List Call → Type 0
Unrestricted front calls = (steps : List Step) → AreDescribedWhere IsShallow (initial_state front) calls steps → AreDescribed (initial_state front) calls steps

pub same_last : (r : Result State ℕ) (s t : State) → r ≡ Ok s → r ≡ Ok t → s ≡ t
same_last r s t e f = cc

barred : (b : Bool) → IsTrue b → b ≡ false → ⊥
barred b h e = cc

pub described_built : (front : List ℕ) (calls : List Call) (items : List Item) (b : Built) → Leaves front calls items → IsBuilt front calls b
    → IsFinishedAs (front ++ join items) b
described_built front calls items b e f = grind (arith, same_last)

pub described_refused : (front : List ℕ) (calls : List Call) (items : List Item) (fault : BuildFault) → IsDescribedWhere IsShallow front calls items
    → IsRefusal front calls fault → fault ≡ OutOfMemory
described_refused front calls items (TooManyItems place) d r =
    let at = described_there front calls items place r d in absurd (barred (is_admitted r.call r.met) at.0 r.refused.0)
described_refused front calls items (NothingToFinish place) d r =
    let at = described_there front calls items place r d in absurd (barred (is_admitted r.call r.met) at.0 r.refused.0)
described_refused front calls items (RawNotItems place) d r =
    let (admitted, (m, step)) = described_there front calls items place r d in absurd (r.refused.1 (step_brings r.call m r.met step))
described_refused front calls items OutOfMemory d r = refl

no_lists : (ls : List (OpenList Item)) → map joined_list ls ≡ [] → ls ≡ []
no_lists [] e = refl
no_lists (l ∷ ls) e = absurd (let no : ⊥ = cc in no)

-- the finished bytes are the join of the described items
pub are_joined : (front : List ℕ) (calls : List Call) (s : State) (bytes : List ℕ) (taken : AreTaken front calls)
    → Unrestricted front calls → (AreDescribed (initial_state front) calls taken.steps → LeavesSteps front calls taken.steps) → after front calls ≡ Ok s
    → IsFinished s → bytes ≡ front ++ s.stack.inner
    → AreJoined front calls bytes
are_joined front calls s bytes taken any law made closed is = grind (arith, any, same_last, no_lists)

-- all calls were made, and what the stream holds is their result
module _ (front : List ℕ) (calls : List Call) (s : State) (made : AreMade (initial_state front) calls s)
    (any : Unrestricted front calls) (law : (steps : List Step) → AreDescribed (initial_state front) calls steps → LeavesSteps front calls steps) where
  abbrev run : (steps : List Step) × AreDescribedWhere IsShallow (initial_state front) calls steps × (after front calls ≡ Ok s)
  run = made_steps 1 (initial_state front) calls s made

  abbrev pub all_taken : AreTaken front calls
  all_taken = record { steps = run.0; described = run.1 }

  same_front : s.front ≡ front
  same_front =
      let (last, admitted, same, stack) = law run.0 (any run.0 run.1) in
      ap (λ (u : State). u.front) (same_last (after front calls) s last run.2 admitted) ∙ same

  held_buffer : (bytes : List ℕ) → bytes ≡ s.front ++ s.stack.inner → bytes ≡ front ++ s.stack.inner
  held_buffer bytes is = is ∙ ap (λ (f : List ℕ). f ++ s.stack.inner) same_front

  pub built : (b : Built) → IsHeld s b → IsBuilt front calls b
  built (Finished bytes) (closed, is) = record { last = s; admitted = run.2; closed = closed; buffer = held_buffer bytes.items is }
  built (Open size raw) (unfinished, closed, text) = record { last = s; admitted = run.2; unfinished = unfinished; closed = closed; text = text }

  pub joined_built : (b : Built) → IsHeld s b → IsJoined front calls b
  joined_built (Finished bytes) (closed, is) = are_joined front calls s bytes.items all_taken any (law run.0) run.2 closed (held_buffer bytes.items is)
  joined_built (Open size raw) is = tt

-- ---- through a result

pub OnOk-all : {T E P : Type 0} (r : Result T E) → P → OnOk r P
OnOk-all (Ok x) p = p
OnOk-all (Err e) p = tt

-- ---- memory that is refused in a script

-- a call that lacks memory in a list of values may lack it in a script
fails_in_script : (c : Call) (s : State) (place : ℕ) (fault : BuildFault) → Fails WantsMemory c s place fault → Fails WantsMemoryInScript c s place fault
fails_in_script c s place (TooManyItems there) e = e
fails_in_script c s place (NothingToFinish there) e = e
fails_in_script c s place (RawNotItems there) e = e
fails_in_script c s place OutOfMemory e = (e.0, e.2)

pub refused_in_script : {T : Type 0} (c : Call) (s : State) (place : ℕ) (r : Result T BuildFault) → IfErr r (Fails WantsMemory c s place)
    → IfErr r (Fails WantsMemoryInScript c s place)
refused_in_script c s place (Ok x) e = tt
refused_in_script c s place (Err fault) e = fails_in_script c s place fault e

pub stopped_in_script : {s : State} {calls : List Call} {place : ℕ} {fault : BuildFault} → IsStopped WantsMemory s calls place fault
    → IsStopped WantsMemoryInScript s calls place fault
stopped_in_script {place = place} {fault} r = record {
  before = r.before;
  call = r.call;
  later = r.later;
  in_order = r.in_order;
  met = r.met;
  made = r.made;
  fails = fails_in_script r.call r.met (place + length r.before) fault r.fails;
}

-- ---- calls that are made one after another

-- ---- calls `Finish`

-- what the streams' law says: one of some unbounded lists is closed, and the others are unbounded
abbrev pub InTurn : Type 0
InTurn = (n : ℕ) (s : State) → n < unbounded_count s.stack.lists
    → IsTrue (is_admitted finalize_unbounded_list s) × (n ≤ unbounded_count (effect finalize_unbounded_list s).stack.lists)

made_in_turn : InTurn → (n : ℕ) (s : State) → n ≤ unbounded_count s.stack.lists → AreMade s (replicate n finalize_unbounded_list) (finalized n s)
made_in_turn in_turn zero s many = refl
made_in_turn in_turn (suc n) s many =
    let next = in_turn n s (omega (arith, many)) in
    (next.0, (finishes, by_finalize), made_in_turn in_turn n (effect finalize_unbounded_list s) next.1)

-- more of them are made
pub made_finishes : InTurn → (made n : ℕ) (s t u : State) → n ≤ unbounded_count t.stack.lists → u ≡ finalized n t
    → AreMade s (replicate made finalize_unbounded_list) t → AreMade s (replicate (made + n) finalize_unbounded_list) u
made_finishes in_turn made n s t u many is so_far =
    let f = finalize_unbounded_list in
    let more = made-append s (replicate made f) (replicate n f) t (finalized n t) so_far (made_in_turn in_turn n t many) in
    subst (λ v. AreMade s (replicate (made + n) f) v) (sym is) (subst (λ cs. AreMade s cs (finalized n t)) (replicate-append-replicate made n f) more)

-- one of them fails
pub finish_fails : (made count place : ℕ) (s t : State) (fault : BuildFault) → made < count → AreMade s (replicate made finalize_unbounded_list) t
    → Fails WantsMemory finalize_unbounded_list t (place + made) fault → IsStopped WantsMemory s (replicate count finalize_unbounded_list) place fault
finish_fails made count place s t fault some so_far why =
    let f = finalize_unbounded_list in
    let number : made + suc (count - made - 1) ≡ count = omega (arith, some) in
    record {
      before = replicate made f;
      call = f;
      later = replicate (count - made - 1) f;
      in_order = sym (replicate-append-replicate made (suc (count - made - 1)) f ∙ ap (λ n. replicate n f) number);
      met = t;
      made = so_far;
      fails = subst (λ n. Fails WantsMemory f t (place + n) fault) (sym (length-replicate made f)) why;
    }

-- ---- the next calls of a source

-- there is none
pub makes_none : {T : Type 0} (lacks : Call → State → Type 0) (end : T) (left : Result (List Call) ℕ) (place : ℕ) (s : State)
    → MakesSome lacks left left place place s s (Ok end)
makes_none lacks end left place s = record { made = []; parts = sym (prepend-nil left); counted = omega arith; goes = refl }

-- calls `Finish`
pub makes_finishes : {T : Type 0} (lacks : Call → State → Type 0) (old new : Result (List Call) ℕ) (place count : ℕ) (s t : State) (r : Result T BuildFault)
    → old ≡ prepend (replicate count finalize_unbounded_list) new → Goes lacks s (replicate count finalize_unbounded_list) place t r
    → MakesSome lacks old new place (place + count) s t r
makes_finishes lacks old new place count s t r parts goes = grind (arith, length-replicate)

-- another call
pub makes_one : {T : Type 0} (lacks : Call → State → Type 0) (end : T) (c : Call) (old new : Result (List Call) ℕ) (place : ℕ) (s t : State) → old ≡ prepend (c ∷ []) new
    → IsTaken c s t → MakesSome lacks old new place (place + 1) s t (Ok end)
makes_one lacks end c old new place s t parts taken = record { made = c ∷ []; parts = parts; counted = refl; goes = taken }

pub fails_at : (T : Type 0) (lacks : Call → State → Type 0) (c : Call) (old new : Result (List Call) ℕ) (place : ℕ) (s t : State) (fault : BuildFault) → old ≡ prepend (c ∷ []) new
    → Fails lacks c s place fault → MakesSome {T = T} lacks old new place (place + 1) s t (Err fault)
fails_at T lacks c old new place s t fault parts why = record {
  made = c ∷ [];
  parts = parts;
  counted = refl;
  goes = record {
    before = [];
    call = c;
    later = [];
    in_order = refl;
    met = s;
    made = refl;
    fails = subst (λ n. Fails lacks c s n fault) (let same : place ≡ place + 0 = omega arith in same) why;
  };
}

-- a call `Finish`, and those after it
pub one_more : (old mid new : Result (List Call) ℕ) (count : ℕ) → old ≡ prepend (finalize_unbounded_list ∷ []) mid
    → mid ≡ prepend (replicate count finalize_unbounded_list) new → old ≡ prepend (replicate (1 + count) finalize_unbounded_list) new
one_more old mid new count first others = grind (arith, prepend-append)

-- no call `Finish` is next
pub skip_none : (old left : Result (List Call) ℕ) (count : ℕ) → old ≡ prepend (replicate count finalize_unbounded_list) left → count ≤ 0 → old ≡ left
skip_none old left count e f = grind (arith, prepend-nil)

-- ---- all calls

-- some calls are made, and then more
pub makes_more : {U : Type 0} {lacks : Call → State → Type 0} {end : U} {old new newer : Result (List Call) ℕ} {place next last : ℕ} {s t u : State}
    → MakesSome {T = Unit {0}} lacks old new place next s t (Ok tt) → MakesSome lacks new newer next last t u (Ok end)
    → MakesSome {T = Unit {0}} lacks old newer place last s u (Ok tt)
makes_more {newer = newer} {s = s} {t = t} {u = u} m n = grind (arith, prepend-append, length-append, made-append)

-- and then one fails
pub fails_more : {U : Type 0} {lacks : Call → State → Type 0} {old new newer : Result (List Call) ℕ} {place next last : ℕ} {s t u : State} {fault : BuildFault}
    → MakesSome {T = Unit {0}} lacks old new place next s t (Ok tt) → MakesSome {T = U} lacks new newer next last t u (Err fault)
    → MakesSome {T = Unit {0}} lacks old newer place last s u (Err fault)
fails_more {lacks = lacks} {newer = newer} {place} {next} {s = s} {t = t} {fault = fault} m n =
    let r = n.goes in
    let same : next + length r.before ≡ place + length (m.made ++ r.before) = omega (arith, m.counted, length-append m.made r.before) in
    record {
      made = m.made ++ n.made;
      parts = m.parts ∙ ap (prepend m.made) n.parts ∙ sym (prepend-append m.made n.made newer);
      counted = omega (arith, n.counted, m.counted, length-append m.made n.made);
      goes = record {
        before = m.made ++ r.before;
        call = r.call;
        later = r.later;
        in_order = ap (λ cs. m.made ++ cs) r.in_order ∙ sym (append_assoc m.made r.before (r.call ∷ r.later));
        met = r.met;
        made = made-append s m.made r.before t r.met m.goes r.made;
        fails = subst (λ k. Fails lacks r.call r.met k fault) same r.fails;
      };
    }

-- a call that fails is the first that does, whatever calls follow
refused_for : {lacks reason : Call → State → Type 0} {fault : BuildFault} (front : List ℕ) (calls later : List Call) (place : ℕ)
    (r : IsStopped lacks (initial_state front) calls 1 fault) → place ≡ 1 + length r.before → reason r.call r.met → AreRefused reason front (calls ++ later) place
refused_for front calls later place r at why =
    let (steps, described, admitted) = made_steps 1 (initial_state front) r.before r.met r.made in
    record {
      before = r.before;
      call = r.call;
      later = r.later ++ later;
      in_order = ap (λ cs. cs ++ later) r.in_order ∙ append_assoc r.before (r.call ∷ r.later) later;
      counted = omega (arith, at);
      taken = record { steps = steps; described = described };
      met = r.met;
      admitted = admitted;
      refused = why;
    }

pub refused : {lacks : Call → State → Type 0} (front : List ℕ) (calls later : List Call) (fault : BuildFault)
    → IsStopped lacks (initial_state front) calls 1 fault → IsRefusalWhere lacks front (calls ++ later) fault
refused front calls later (TooManyItems place) r = refused_for front calls later place r r.fails.0 r.fails.1
refused front calls later (NothingToFinish place) r = refused_for front calls later place r r.fails.0 r.fails.1
refused front calls later (RawNotItems place) r = refused_for front calls later place r r.fails.0 r.fails.1
refused front calls later OutOfMemory r = (1 + length r.before, refused_for front calls later (1 + length r.before) r refl r.fails)

-- ---- memory for the bytes of a list that is open at the end

-- a call for which memory isn't refused leaves no list open
clears_all : (c : Call) (s : State) → takes_memory c ≡ false → IsFinished (effect c s)
clears_all c s none = grind arith

-- if a list is open at the end, and none was at the beginning, memory may have been refused for one of the calls
stopped_open : (place : ℕ) (s : State) (calls : List Call) (t : State) → AreMade s calls t → IsFinished s → ¬ IsFinished t
    → IsStopped WantsMemory s calls place OutOfMemory
stopped_open place s [] t made none unfinished = absurd (unfinished (ap (λ (u : State). u.stack.lists) made ∙ none))
stopped_open place s (c ∷ calls) t (admitted, step, made) none unfinished =
    elim (takes_memory c) as (λ test. takes_memory c ≡ test → IsStopped WantsMemory s (c ∷ calls) place OutOfMemory) [
      | true ↦ λ takes. record {
        before = [];
        call = c;
        later = calls;
        in_order = refl;
        met = s;
        made = refl;
        fails = (admitted, step_brings c step.0 s step.1, takes);
      }
      | false ↦ λ free.
          let r = stopped_open place (effect c s) calls t made (clears_all c s free) unfinished in
          record {
            before = c ∷ r.before;
            call = r.call;
            later = r.later;
            in_order = ap (λ (cs : List Call). c ∷ cs) r.in_order;
            met = r.met;
            made = (admitted, step, r.made);
            fails = r.fails;
          }
    ] refl

-- all calls were made, and memory was refused for the bytes of a list that is open
pub refused_open : {T : Type 0} (front : List ℕ) (calls : List Call) (s : State) (r : Result T BuildFault) → AreMade (initial_state front) calls s
    → IfErr r (λ fault. fault ≡ OutOfMemory) → OnErr r (¬ IsFinished s) → IfErr r (IsRefusal front calls)
refused_open front calls s (Ok x) made is unfinished = tt
refused_open front calls s (Err fault) made is unfinished =
    let stopped = stopped_open 1 (initial_state front) calls s made refl unfinished in
    subst (IsRefusal front calls) (sym is)
    (subst (λ (cs : List Call). IsRefusal front cs OutOfMemory) (append-nil calls) (refused front calls [] OutOfMemory stopped))

same_calls : (calls others : List Call) → ◌≡◌ {A = Result (List Call) ℕ} (Ok calls) (Ok others) → calls ≡ others
same_calls calls others e = cc

-- all calls that are values are made, or one of them fails
pub all_made : (lacks : Call → State → Type 0) (all : List Call) (left : Result (List Call) ℕ) (place next : ℕ) (s t : State)
    → MakesSome {T = Unit {0}} lacks (Ok all) left place next s t (Ok tt) → NoneIsNext left → AreMade s all t
all_made lacks all (Ok others) place next s t m ended = grind (arith, same_calls, append-nil)
all_made lacks all (Err at) place next s t m ended = absurd (let parts = m.parts in let no : ⊥ = cc in no)

pub one_fails : {lacks : Call → State → Type 0} (front : List ℕ) (all : List Call) (left : Result (List Call) ℕ) (next : ℕ) (t : State) (fault : BuildFault)
    → MakesSome {T = Unit {0}} lacks (Ok all) left 1 next (initial_state front) t (Err fault) → IsRefusalWhere lacks front all fault
one_fails {lacks} front all (Ok others) next t fault m =
    subst (λ (cs : List Call). IsRefusalWhere lacks front cs fault) (sym (same_calls all (m.made ++ others) m.parts)) (refused front m.made others fault m.goes)
one_fails front all (Err at) next t fault m = absurd (let parts = m.parts in let no : ⊥ = cc in no)

-- ---- the calls of a script

module _ (text : List ℕ) (old left : Result (List Call) ℕ) (place : ℕ) (t : State) (r : Result (Unit {0}) BuildFault) (whole : script text ≡ old)
    (m : MakesSome WantsMemoryInScript old left 1 place (initial_state []) t r) where
  -- a piece isn't a call
  pub script_unread : (there : ℕ) → IsUnread place left (Some there) → script text ≡ Err there
  script_unread there (calls, is, at) = grind arith

  -- all pieces are calls, and are made
  pub script_made : (end : Unit {0}) → r ≡ Ok end → OnOk r (NoneIsNext left) → IsUnread place left None → MakesScript text t
  script_made end is ended (calls, all) = grind (arith, append-nil, made_front)

  -- all pieces are calls, and one fails
  pub script_stops : (fault : BuildFault) → r ≡ Err fault → IsUnread place left None → StopsScript text fault
  script_stops fault is (calls, all) = grind (arith, refused)
