use Rattle.std.proofs.Common.{◌^◌, ◌<◌, List, ℕ, length, rules, subst}
use Rattle.rlp.specs.Streams.Stream.{append_raw}
use Rattle.rlp_tool.specs.{Building.IsSomeStep, RawItems.AreRawItems}
use Rattle.rlp_tool.proofs.CallsLemmas.{step_raw}
use Rattle.rlp_tool.proofs.making.take_raw.Goals as goal

pub returns-in-Ok-append_raw-clause-ok : goal.returns-in-Ok-append_raw-clause-ok
returns-in-Ok-append_raw-clause-ok c =
    let s = c.args.stream.now.state in
    let bytes = c.in-Ok.bytes.now in
    let fits : length bytes < 2 ^ 64 = search rules in
    let items : AreRawItems bytes c.args.count = search rules in (
      search rules,
      subst (λ (b : List ℕ). IsSomeStep (append_raw b c.args.count) s) c.in-Ok.ensures
          (step_raw bytes c.args.count s c.parts_of_sized_are_sized.ensures.join fits items),
      search rules,
    )
