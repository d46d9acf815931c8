use Rattle.std.proofs.Common.{◌∙◌, ap}
use Rattle.std.specs.Result.{result_ok}
use Rattle.script_lines.proofs.PayloadLemmas.{same_room}
use Rattle.script_lines.proofs.encoded_bytes.mad_encoded.Goals as goal

pub returns : goal.returns
returns c = c.ok.ensures.value ∙ ap result_ok c.encoded.ensures ∙ same_room 256 c.args.digits.now
