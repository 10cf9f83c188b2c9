use Rattle.std.proofs.{Common.{rules, ◌≡◌, ◌↔◌, ◌⊎◌, inl, inr, refl, true, false, ⊎_elim, ℕ, List, Option, Some, None, IsNone, IsSome, subst, sym, Result, Ok, Err, IfErr}}
use Rattle.rlp.specs.{Streams.Stream.Call, Streams.Described.FinishAs}
use Rattle.rlp_tool.specs.{declared.building.BuildFault.BuildFault, Building.{AreJoined, DescribeItems, IsRefusalOnCopy}, StreamCalls.calls_of}
use Rattle.rlp_tool.proofs.alike.finish_alike.Goals as goal

-- ---- an option that is `None` if and only if P holds

none_holds : {T P : Type 0} (o : Option T) → o ≡ None → (IsNone o ↔ P) → P
none_holds None e told = told.0 refl
none_holds (Some x) e told = absurd (let no : ⊥ = cc in no)

some_fails : {T P : Type 0} (o : Option T) (x : T) → o ≡ Some x → (IsNone o ↔ P) → ¬ P
some_fails None x e told = absurd (let no : ⊥ = cc in no)
some_fails (Some y) x e told = λ p. let wrong : true ≡ false = told.1 p in let never : ⊥ = cc in never

-- ---- faults

-- the first calls describe items, and the second have a fault
second_refused : {T : Type 0} (front : List ℕ) (ones others : List Call) (r : Result T BuildFault) → DescribeItems front ones
    → IfErr r (IsRefusalOnCopy front others) → IfErr r (λ fault. IsRefusalOnCopy front ones fault ⊎ (DescribeItems front ones × IsRefusalOnCopy front others fault))
second_refused front ones others (Ok x) described told = tt
second_refused front ones others (Err fault) described told = inr (described, told)

none_some : {T : Type 0} (o : Option T) → o ≡ None → IsSome o → ⊥
none_some (Some x) e h = let never : ⊥ = cc in never
none_some None e h = let never : ⊥ = cc in never

pub returns-in_default-clause-described : goal.returns-in_default-clause-described
returns-in_default-clause-described g c = λ xs ys d e. absurd (none_some c.in_ok-first.field-0 c.in_default.is (c.in_ok-first.ensures.described xs d))

pub returns-in_default-2-clause-described : goal.returns-in_default-2-clause-described
returns-in_default-2-clause-described g c = λ xs ys d e. absurd (none_some c.in_ok-second.field-0 c.in_default-2.is (c.in_ok-second.ensures.described ys e))

pub returns-clause-described : goal.returns-clause-described
returns-clause-described g c = λ xs ys d e.
    let ones = calls_of g.A.Encodable.item c.args.one.now in
    let others = calls_of g.B.Encodable.item c.args.other.now in
    let front = c.args.front.now in
    let first : FinishAs front ones c.as_slice-first.result.now = subst (FinishAs front ones) (sym c.as_slice-first.ensures)
    (rw c.in-Some.is at c.in_ok-first.ensures.finished) in
    let second : FinishAs front others c.as_slice-second.result.now =
    subst (FinishAs front others) (sym c.as_slice-second.ensures) (rw c.in-Some-2.is at c.in_ok-second.ensures.finished) in
    let told = c.finished_buffers_tell_items.ensures.equal front ones others xs ys d first e second in
    (λ alike. told.0 (c.same_bytes.ensures.0 alike), λ same. c.same_bytes.ensures.1 (told.1 same))

pub returns-clause-told : goal.returns-clause-told
returns-clause-told g c =
    let ones = calls_of g.A.Encodable.item c.args.one.now in
    let others = calls_of g.B.Encodable.item c.args.other.now in
    let front = c.args.front.now in
    let first : AreJoined front ones c.in-Some.first.items = rw c.in-Some.is at c.in_ok-first.ensures.joined in
    let second : AreJoined front others c.in-Some-2.second.items = rw c.in-Some-2.is at c.in_ok-second.ensures.joined in
    (first.items, second.items, first.described, second.described, returns-clause-described g c first.items second.items first.described second.described)

-- ---- which list of calls is open, and which fails

pub returns-in_err-first-clause-refused : goal.returns-in_err-first-clause-refused
returns-in_err-first-clause-refused g c = search (rules, c.in_err-first.ensures.refused)

pub returns-in_default-clause-other_taken : goal.returns-in_default-clause-other_taken
returns-in_default-clause-other_taken g c = inl (none_holds c.in_ok-first.field-0 c.in_default.is c.in_ok-first.ensures.left_open)

pub returns-in_default-clause-left_open : goal.returns-in_default-clause-left_open
returns-in_default-clause-left_open g c = (λ none. inl (none_holds c.in_ok-first.field-0 c.in_default.is c.in_ok-first.ensures.left_open), λ left. refl)

pub returns-in_err-second-clause-refused : goal.returns-in_err-second-clause-refused
returns-in_err-second-clause-refused g c =
    let ones = calls_of g.A.Encodable.item c.args.one.now in
    let others = calls_of g.B.Encodable.item c.args.other.now in
    let joined : AreJoined c.args.front.now ones c.in-Some.first.items = rw c.in-Some.is at c.in_ok-first.ensures.joined in
    second_refused c.args.front.now ones others c.from_residual-in_err-second.result (joined.items, joined.shallow)
    (search (rules, c.in_err-second.ensures.refused))

pub returns-in_default-2-clause-left_open : goal.returns-in_default-2-clause-left_open
returns-in_default-2-clause-left_open g c = (λ none. inr (none_holds c.in_ok-second.field-0 c.in_default-2.is c.in_ok-second.ensures.left_open), λ left. refl)

pub returns-clause-left_open : goal.returns-clause-left_open
returns-clause-left_open g c = (
  λ none. absurd (let never : ⊥ = cc in never),
  λ left. absurd (⊎_elim
      (some_fails c.in_ok-first.field-0 c.in-Some.first c.in-Some.is c.in_ok-first.ensures.left_open)
      (some_fails c.in_ok-second.field-0 c.in-Some-2.second c.in-Some-2.is c.in_ok-second.ensures.left_open) left),
)
