use Rattle.std.proofs.Common.{◌≡◌, ◌∙◌, ap, refl, List, ℕ}
use Rattle.rlp.specs.{Streams.Stream.{State, Call, after}, Streams.Described.FinishAs}
use Rattle.rlp_tool.specs.{Building.{LeaveOpen, StayOpen}, StreamCalls.calls_of}
use Rattle.rlp_tool.proofs.CallsLemmas.{same_last}
use Rattle.rlp_tool.proofs.alike.finished_over.Goals as goal

-- calls that finish leave no list open
finished_closed : (front : List ℕ) (calls : List Call) (bytes : List ℕ) → FinishAs front calls bytes → ¬ LeaveOpen front calls
finished_closed front calls bytes done (size, raw, left) =
    let same : left.last ≡ done.last = same_last (after front calls) left.last done.last left.admitted done.admitted in
    left.unfinished (ap (λ (s : State). s.stack.lists) same ∙ done.closed)

pub returns-in-Ok-Open-clause-described : goal.returns-in-Ok-Open-clause-described
returns-in-Ok-Open-clause-described g c = λ items d. absurd (rw c.in-Ok-Open.field-0-is at (c.in-Ok-Open.ensures.described items d))

pub returns-in-Ok-Finished-clause-left_open : goal.returns-in-Ok-Finished-clause-left_open
returns-in-Ok-Finished-clause-left_open g c =
    let calls = calls_of g.E.Encodable.item c.args.calls.now in
    let done : FinishAs c.args.front.items calls c.in-Ok-Finished.bytes.items = rw c.in-Ok-Finished.field-0-is at c.in-Ok-Finished.ensures.ok in
    (λ none. absurd (let never : ⊥ = cc in never), λ left. absurd (finished_closed c.args.front.items calls c.in-Ok-Finished.bytes.items done left))

pub returns-in-Ok-Open-clause-left_open : goal.returns-in-Ok-Open-clause-left_open
returns-in-Ok-Open-clause-left_open g c =
    let calls = calls_of g.E.Encodable.item c.args.calls.now in
    let left : StayOpen c.args.front.items calls c.in-Ok-Open.field-0-0 c.in-Ok-Open.field-0-1.items = rw c.in-Ok-Open.field-0-is at c.in-Ok-Open.ensures.ok in
    (λ none. (c.in-Ok-Open.field-0-0, c.in-Ok-Open.field-0-1.items, left), λ open_list. refl)
