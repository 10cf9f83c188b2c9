use Rattle.std.proofs.Common.{◌++◌, codes, sym, ap, ◌∙◌, arith}
use Rattle.rlp_reading.specs.Views.Text.{error_name}
use Rattle.rlp_c.proofs.Texts.{put_as, put_both}
use Rattle.rlp_c.proofs.text.put_name.Goals as goal

pub returns-in-Custom : goal.returns-in-Custom
returns-in-Custom c =
    let front = put_both c.args.out.now c.put_bytes-start.new.out c.put_bytes-end.new.out c.args.at c.put_bytes-start.result c.put_bytes-end.result
    (codes "Custom(\"") c.as_bytes.result.now (omega arith) c.put_bytes-start.ensures c.put_bytes-end.ensures in
    let all = put_both c.args.out.now c.put_bytes-end.new.out c.put_bytes-in-Custom.new.out c.args.at c.put_bytes-end.result c.put_bytes-in-Custom.result
    (codes "Custom(\"" ++ c.as_bytes.result.now) (codes "\")") (omega arith) front c.put_bytes-in-Custom.ensures in
    put_as _ _ _ _ _ _ (ap (λ t. codes "Custom(\"" ++ t ++ codes "\")") c.as_bytes.ensures.value ∙ sym (ap error_name c.in-Custom.is)) all
