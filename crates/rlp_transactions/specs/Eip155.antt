-- What `v` says in the signature of a transaction without a type.
use Rattle.std.specs.Prelude.{ℕ, ◌≡◌, ◌==◌, ◌||◌, ◌+◌, ◌-◌, ◌*◌, ◌/◌, ◌%◌, ◌^◌, ◌<◌, ◌⊎◌, nat_lt, if◌then◌else◌, Option, Some, None, IfSome}
use Rattle.rlp.specs.Values.Value.{bit}
use Rattle.rlp_transactions.specs.declared.eip155.Eip155.{Eip155}

-- EIP-155, if the number of a chain is signed: "the v of the signature MUST be set to {0,1} + CHAIN_ID * 2 + 35 where {0,1} is the parity of the y value of the
-- curve point". "If you choose to only hash 6 values, then v continues to be set to {0,1} + 27 as previously."
abbrev pub even_v : Option ℕ → ℕ
even_v (Some chain) = chain * 2 + 35
even_v None = 27

abbrev pub v_of : Eip155 → ℕ
v_of x = bit x.y_parity + even_v x.chain_id

-- the number of the chain, if there is one, has 64 bits
abbrev pub FitsChain : Option ℕ → Type 0
FitsChain chain = IfSome chain (λ c. c < 2 ^ 64)

-- what a number says: 27 and 28 say the parity, and a number from 35 on says the chain and the parity, if the number of the chain has at most 64 bits
abbrev pub said_by : ℕ → Option Eip155
said_by v =
    if (v == 27) || (v == 28) then Some (record { chain_id = None; y_parity = v == 28 })
    else if nat_lt v 35 || nat_lt (2 ^ 65 + 34) v then None
    else Some (record { chain_id = Some ((v - 35) / 2); y_parity = (v - 35) % 2 == 1 })

-- v is the `v` of this chain, with one of the two parities
abbrev pub IsSignedFor : ℕ → Option ℕ → Type 0
IsSignedFor v chain = (v ≡ even_v chain) ⊎ (v ≡ 1 + even_v chain)
