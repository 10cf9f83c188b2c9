use Rattle.rlp_show.specs.declared.answers.Form.TheVariants.{Json}
use Rattle.rlp_show.proofs.laws.encodings_are_shown_in_json.Goals as goal

pub returns : goal.returns
returns g c = λ kind shown x shows fit sized is. c.encodings_are_shown.ensures kind shown x shows fit sized is Json
