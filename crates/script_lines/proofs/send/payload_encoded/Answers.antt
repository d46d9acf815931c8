use Rattle.std.proofs.Common.{sym, ◌∙◌}
use Rattle.std.proofs.lemmas.Result.{err_from_is_err_and}
use Rattle.script_lines.proofs.PayloadLemmas.{encoded_again, encoded_wrong}
use Rattle.script_lines.proofs.send.payload_encoded.Goals as goal

pub returns-in_err-bytes : goal.returns-in_err-bytes
returns-in_err-bytes c =
    let p = err_from_is_err_and c.from_residual.result c.from_residual.ensures.1 in
    rw (p.1, p.2) (sym (encoded_wrong c.args.size 256 c.args.digits.now _ c.requires (sym c.encoded.ensures ∙ c.in_err-bytes.was)))

pub returns : goal.returns
returns c =
    rw c.new.ensures (sym (encoded_again c.args.size 256 c.args.digits.now c.in_ok-bytes.bytes (sym c.encoded.ensures ∙ c.in_ok-bytes.was)))
