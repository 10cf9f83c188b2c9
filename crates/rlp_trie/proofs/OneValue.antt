-- A path has one value below a reference, whichever nodes are known.
use Rattle.std.proofs.Common.{◌≡◌, ◌∙◌, ℕ, List, Option, refl, subst, sym}
use Rattle.rlp.specs.Format.Encoding.{Item}
use Rattle.rlp_trie.specs.{HexPrefix.{AreNibbles}, Lookup.{Encodes, HasValue, StandsFor, Step, by_hash, ends, ends_here, goes, in_parent, leads_on, step}}
use Rattle.rlp_trie.specs.{ProofWalk.{IsKnown, TellApart}, declared.trie_node.TrieNode.TrieNode}
use Rattle.rlp_trie.proofs.{StepLemmas.step_rest, WalkLemmas.one_step}

ends_same : (s t : Step) (v w : Option (List ℕ)) → s ≡ t → s ≡ ends v → t ≡ ends w → v ≡ w
ends_same s t v w same one other = cc

ends_or_goes : (s t : Step) (v : Option (List ℕ)) (x : Item) (rest : List ℕ) → s ≡ t → s ≡ ends v → t ≡ goes x rest → ⊥
ends_or_goes s t v x rest same one other = cc

goes_same : (s t : Step) (x y : Item) (p q : List ℕ) → s ≡ t → s ≡ goes x p → t ≡ goes y q → (x ≡ y) × (p ≡ q)
goes_same s t x y p q same one other = (cc, cc)

module _ (nodes others : List (List ℕ)) (apart : TellApart (IsKnown nodes) (IsKnown others)) where
  one_encoding : (reference : Item) (b c : List ℕ) → StandsFor (IsKnown nodes) reference b → StandsFor (IsKnown others) reference c → b ≡ c
  one_encoding reference b c (by_hash h _ known is) (by_hash _ _ also same) = apart b c known also (sym is ∙ same)
  one_encoding reference b c (in_parent xs) (in_parent _) = refl

  -- what the nodes of one reference say of a path
  one_said : (reference : Item) (b c path : List ℕ) (n m : TrieNode) → StandsFor (IsKnown nodes) reference b → StandsFor (IsKnown others) reference c
      → Encodes b n → Encodes c m → AreNibbles path → step n path ≡ step m path
  one_said reference b c path n m one other is also are =
      one_step c n m path (subst (λ d. Encodes d n) (one_encoding reference b c one other) is) also are

  pub one_value : (reference : Item) (path : List ℕ) → AreNibbles path → (value other : Option (List ℕ)) → HasValue (IsKnown nodes) reference path value
      → HasValue (IsKnown others) reference path other → value ≡ other
  one_value reference path are value other (ends_here _ b _ n _ one is says) (ends_here _ c _ m _ two also tells) =
      ends_same (step n path) (step m path) value other (one_said reference b c path n m one two is also are) says tells
  one_value reference path are value other (ends_here _ b _ n _ one is says) (leads_on _ next c _ rest m _ two also tells more) =
      absurd (ends_or_goes (step n path) (step m path) value next rest (one_said reference b c path n m one two is also are) says tells)
  one_value reference path are value other (leads_on _ next b _ rest n _ one is says more) (ends_here _ c _ m _ two also tells) =
      absurd (ends_or_goes (step m path) (step n path) other next rest (sym (one_said reference b c path n m one two is also are)) tells says)
  one_value reference path are value other (leads_on _ next b _ rest n _ one is says more) (leads_on _ below c _ others' m _ two also tells last) =
      let (references, paths) = goes_same (step n path) (step m path) next below rest others' (one_said reference b c path n m one two is also are) says tells in
      one_value next rest (step_rest n path rest next says are).0 value other more
      (subst (λ x. HasValue (IsKnown others) x rest other) (sym references)
      (subst (λ p. HasValue (IsKnown others) below p other) (sym paths) last))
