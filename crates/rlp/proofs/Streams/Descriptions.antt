-- What a stream writes is the join of the items that its calls describe.
use Rattle.std.proofs.Common.{◌≡◌, ◌<◌, ◌^◌, ℕ, ◌+◌, arith, length-append, Bool, true, false, cond, List, [], ◌∷◌, ◌++◌, length, map, refl, sym, ap}
use Rattle.std.proofs.{Common.{◌∙◌, append-nil, Result, Ok, IsTrue, not, All}, lemmas.Bool.{cond-true, cond-false, cond_both}}
use Rattle.std.proofs.{lemmas.List.append_cancel_left, lemmas.List.Concat.flat_map-append}
use Rattle.rlp_format.specs.Format.Encoding.{big_endian, written_header, Item, string, list_of, encoding, join, IsSized}
use Rattle.rlp_write.specs.Streams.Stream.{OpenList, Stack, empty_stack, stack_put, stack_shut, shut_around, stack_count, count_around, State}
use Rattle.rlp_write.specs.Streams.Stream.{initial_state, list_encoding, Call, effect, is_within_size, after, after_from}
use Rattle.rlp.specs.{Streams.Described.{Step, one_list, items_after, items_after_all, Describes, by_append, by_empty_data, by_raw, by_checked_raw, FinishAs}}
use Rattle.rlp.specs.Streams.Described.{by_refused_raw, by_empty_list, by_list, by_unbounded_list, by_finalize, by_internal_list, by_clear}
use Rattle.rlp.specs.Streams.Described.{AreDescribed, IsDescribed, DescribesWhere, AreDescribedWhere, IsDescribedWhere, joined_stack, joined_list}
use Rattle.rlp_format.proofs.Lemmas.Encodings.{encoding_list}
use Rattle.rlp_reading.proofs.{Lemmas.Items.join_same, Lemmas.Views.sized_items}

one_list_joined : (xs : List Item) → list_encoding (join xs) ≡ join (one_list xs)
one_list_joined xs = sym (encoding_list xs) ∙ sym (append-nil (encoding (list_of xs)))

-- a closed list, put after the bytes of the payload around it
closed_joined : (outer xs : List Item) → join outer ++ list_encoding (join xs) ≡ join (outer ++ one_list xs)
closed_joined outer xs = ap (λ (b : List ℕ). join outer ++ b) (one_list_joined xs) ∙ sym (flat_map-append encoding outer (one_list xs))

put_joined : (xs : List Item) (s : Stack Item) → stack_put (join xs) (joined_stack s) ≡ joined_stack (stack_put xs s)
put_joined xs s = ap (λ (p : List ℕ). record (joined_stack s) { inner = p }) (sym (flat_map-append encoding s.inner xs))

shut_around_joined : (p : List Item) (ls : List (OpenList Item)) → shut_around list_encoding (join p) (map joined_list ls)
    ≡ joined_stack (shut_around one_list p ls)
shut_around_joined p [] = refl
shut_around_joined p (l ∷ ls) = grind (arith, closed_joined)

shut_joined : (s : Stack Item) → stack_shut list_encoding (joined_stack s) ≡ joined_stack (stack_shut one_list s)
shut_joined s = shut_around_joined s.inner s.lists

cond_joined : (b : Bool) (x y : Stack ℕ) (s t : Stack Item) → x ≡ joined_stack s → y ≡ joined_stack t → cond b x y ≡ joined_stack (cond b s t)
cond_joined b x y s t e f = grind arith

count_around_joined : (k : ℕ) (p : List Item) (ls : List (OpenList Item))
    → count_around list_encoding k (join p) (map joined_list ls) ≡ joined_stack (count_around one_list k p ls)
count_around_joined k p [] = refl
count_around_joined k p (l ∷ ls) = grind (arith, cond_joined, closed_joined, count_around_joined 1 (l.outer ++ one_list p) ls)

count_joined : (k : ℕ) (s : Stack Item) → stack_count list_encoding k (joined_stack s) ≡ joined_stack (stack_count one_list k s)
count_joined k s = count_around_joined k s.inner s.lists

brought_joined : (xs : List Item) (k : ℕ) (s : Stack Item) → stack_count list_encoding k (stack_put (join xs) (joined_stack s))
    ≡ joined_stack (stack_count one_list k (stack_put xs s))
brought_joined xs k s = ap (stack_count list_encoding k) (put_joined xs s) ∙ count_joined k (stack_put xs s)

one_joined : (x : Item) (s : Stack Item) → stack_count list_encoding 1 (stack_put (encoding x) (joined_stack s))
    ≡ joined_stack (stack_count one_list 1 (stack_put (x ∷ []) s))
one_joined x s = ap (λ (b : List ℕ). stack_count list_encoding 1 (stack_put b (joined_stack s))) (sym (append-nil (encoding x))) ∙ brought_joined (x ∷ []) 1 s

empty_string : encoding (string []) ≡ 0x80 ∷ []
unfolding encoding written_header big_endian
empty_string = refl

untrue : (b : Bool) → IsTrue (not b) → b ≡ false
untrue b e = grind arith

effect_joined : (s : State) {c : Call} {m : Step} → Describes s c m → (t : Stack Item) → s.stack ≡ joined_stack t
    → (effect c s).stack ≡ joined_stack (items_after m t)
effect_joined s (by_append x) t e = ap (λ (k : Stack ℕ). stack_count list_encoding 1 (stack_put (encoding x) k)) e ∙ one_joined x t
effect_joined s by_empty_data t e = grind (arith, empty_string, one_joined)
effect_joined s (by_raw xs a p) t e = ap (λ (k : Stack ℕ). stack_count list_encoding (length xs) (stack_put (join xs) k)) e ∙ brought_joined xs (length xs) t
effect_joined s (by_checked_raw xs limit a p h) t e = grind (arith, cond-true, brought_joined)
effect_joined s (by_refused_raw b k limit h) t e = ap (λ (u : State). u.stack) (cond-false (is_within_size b limit s) _ _ (untrue _ h)) ∙ e
effect_joined s by_empty_list t e = ap (λ (k : Stack ℕ). stack_count list_encoding 1 (stack_put (encoding (list_of [])) k)) e ∙ one_joined (list_of []) t
effect_joined s (by_list n) t e = grind arith
effect_joined s by_unbounded_list t e = grind arith
effect_joined s by_finalize t e = grind (arith, shut_joined, count_joined)
effect_joined s (by_internal_list xs) t e = grind (arith, one_joined)
effect_joined s by_clear t e = refl

-- ---- the front stays

effect_front : (s : State) {c : Call} {m : Step} → Describes s c m → (effect c s).front ≡ s.front
effect_front s e = grind (arith, cond_both)

-- ---- all calls

-- the state after described calls
abbrev pub Leaves : Result State ℕ → List ℕ → Stack ℕ → Type 0
Leaves r front stack = (last : State) × (r ≡ Ok last) × (last.front ≡ front) × (last.stack ≡ stack)

-- described calls are all admitted, and their payloads are the joins
after_described : (calls : List Call) (steps : List Step) (n : ℕ) (s : State) (t : Stack Item) → AreDescribed s calls steps → s.stack ≡ joined_stack t
    → Leaves (after_from n s calls) s.front (joined_stack (items_after_all steps t))
after_described [] [] n s t d e = (s, refl, refl, e)
after_described [] (m ∷ steps) n s t d e = absurd d
after_described (c ∷ calls) [] n s t d e = absurd d
after_described (c ∷ calls) (m ∷ steps) n s t d e =
    grind (arith, effect_joined, cond-true, effect_front, after_described calls steps (n + 1) (effect c s) (items_after m t) d.2 (effect_joined s d.1 t e))

-- after described calls, each payload is the join of its items
pub described_joins : (front : List ℕ) (calls : List Call) (steps : List Step) → AreDescribed (initial_state front) calls steps
    → Leaves (after front calls) front (joined_stack (items_after_all steps empty_stack))
described_joins front calls steps d = after_described calls steps 1 (initial_state front) empty_stack d refl

-- if no list is left open, the top payload is the join of the items
pub described_finishes : (front : List ℕ) (calls : List Call) (xs : List Item) → IsDescribed front calls xs
    → Leaves (after front calls) front (record { inner = join xs; lists = [] })
described_finishes front calls xs d = grind (arith, described_joins)

-- calls leave one state
same_stack : (r : Result State ℕ) (f g : List ℕ) (s t : Stack ℕ) → Leaves r f s → Leaves r g t → s ≡ t
same_stack r f g s t one other = grind arith

-- no other items are described
pub described_once : (front : List ℕ) (calls : List Call) (xs ys : List Item) → All IsSized xs → All IsSized ys → IsDescribed front calls xs
    → IsDescribed front calls ys → xs ≡ ys
described_once front calls xs ys a b d e =
    let one : Stack ℕ = record { inner = join xs; lists = [] } in
    let other : Stack ℕ = record { inner = join ys; lists = [] } in
    let stacks : one ≡ other = same_stack (after front calls) front front one other
    (described_finishes front calls xs d) (described_finishes front calls ys e) in
    join_same xs ys a b (ap (λ (s : Stack ℕ). s.inner) stacks)

-- ---- only raw items of some kind

described_anyhow : {P : Item → Type 0} (s : State) {c : Call} {m : Step} → DescribesWhere P s c m → Describes s c m
described_anyhow s (by_append x) = by_append x
described_anyhow s by_empty_data = by_empty_data
described_anyhow s (by_raw xs a p) = by_raw xs a (λ k d h. tt)
described_anyhow s (by_checked_raw xs limit a p h) = by_checked_raw xs limit a (λ k d l. tt) h
described_anyhow s (by_refused_raw b k limit h) = by_refused_raw b k limit h
described_anyhow s by_empty_list = by_empty_list
described_anyhow s (by_list n) = by_list n
described_anyhow s by_unbounded_list = by_unbounded_list
described_anyhow s by_finalize = by_finalize
described_anyhow s (by_internal_list xs) = by_internal_list xs
described_anyhow s by_clear = by_clear

are_described_anyhow : (P : Item → Type 0) (s : State) (calls : List Call) (steps : List Step) → AreDescribedWhere P s calls steps → AreDescribed s calls steps
are_described_anyhow P s [] [] d = tt
are_described_anyhow P s [] (m ∷ steps) d = absurd d
are_described_anyhow P s (c ∷ calls) [] d = absurd d
are_described_anyhow P s (c ∷ calls) (m ∷ steps) d = (d.0, described_anyhow s d.1, are_described_anyhow P (effect c s) calls steps d.2)

-- calls that are described with restricted raw items are described
pub steps_anyhow : (P : Item → Type 0) (front : List ℕ) (calls : List Call) (steps : List Step)
    → AreDescribedWhere P (initial_state front) calls steps → AreDescribed (initial_state front) calls steps
steps_anyhow P front calls steps d = are_described_anyhow P (initial_state front) calls steps d

-- and they describe the same items
pub items_anyhow : (P : Item → Type 0) (front : List ℕ) (calls : List Call) (xs : List Item) → IsDescribedWhere P front calls xs → IsDescribed front calls xs
items_anyhow P front calls xs d = record { steps = d.steps; described = steps_anyhow P front calls d.steps d.described; finished = d.finished }

-- ---- finished buffers

-- calls that leave a closed state finish with its bytes
finish_left : (front : List ℕ) (calls : List Call) (inner : List ℕ) → Leaves (after front calls) front (record { inner = inner; lists = [] })
    → FinishAs front calls (front ++ inner)
finish_left front calls inner r = grind arith

-- and with no others
only_left : (front : List ℕ) (calls : List Call) (inner bytes : List ℕ) → Leaves (after front calls) front (record { inner = inner; lists = [] })
    → FinishAs front calls bytes → bytes ≡ front ++ inner
only_left front calls inner bytes r f = grind arith

-- the finished bytes of described calls are the front and the join
pub described_buffer : (front : List ℕ) (calls : List Call) (xs : List Item) → IsDescribed front calls xs → FinishAs front calls (front ++ join xs)
described_buffer front calls xs d = finish_left front calls (join xs) (described_finishes front calls xs d)

-- and nothing else
pub described_buffer_only : (front : List ℕ) (calls : List Call) (xs : List Item) (bytes : List ℕ) → IsDescribed front calls xs
    → FinishAs front calls bytes → bytes ≡ front ++ join xs
described_buffer_only front calls xs bytes d f = only_left front calls (join xs) bytes (described_finishes front calls xs d) f

-- equal finished buffers with the same front have equal items
pub same_buffer : (front : List ℕ) (calls more : List Call) (xs ys : List Item) (one other : List ℕ) → length one < 2 ^ 64 → length other < 2 ^ 64
    → IsDescribed front calls xs → FinishAs front calls one
    → IsDescribed front more ys → FinishAs front more other → one ≡ other → xs ≡ ys
same_buffer front calls more xs ys one other small little d f e g same =
    let first : one ≡ front ++ join xs = described_buffer_only front calls xs one d f in
    let second : other ≡ front ++ join ys = described_buffer_only front more ys other e g in
    let a : length (join xs) < 2 ^ 64 = omega (arith, ap length first, length-append front (join xs)) in
    let b : length (join ys) < 2 ^ 64 = omega (arith, ap length second, length-append front (join ys)) in
    join_same xs ys (sized_items xs (2 ^ 64) a) (sized_items ys (2 ^ 64) b) (append_cancel_left front (join xs) (join ys) (sym first ∙ same ∙ second))

-- calls that describe the same items have the same finished bytes
pub same_items : (front : List ℕ) (calls more : List Call) (xs ys : List Item) (one other : List ℕ) → IsDescribed front calls xs
    → FinishAs front calls one → IsDescribed front more ys → FinishAs front more other → xs ≡ ys → one ≡ other
same_items front calls more xs ys one other d f e g same =
    described_buffer_only front calls xs one d f ∙ ap (λ (zs : List Item). front ++ join zs) same ∙ sym (described_buffer_only front more ys other e g)

pub ruleset describes = (described_joins, described_finishes, steps_anyhow, items_anyhow)
