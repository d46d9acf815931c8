use Rattle.std.proofs.Common.{◌∙◌, sym}
use Rattle.std.proofs.lemmas.Result.{err_from_is_err_and}
use Rattle.text_streams.proofs.KnownBytesLemmas.{appends_nothing}
use Rattle.smp_lines.proofs.answering.take_line.Goals as goal

pub returns-in_err-text-clause-takes : goal.returns-in_err-text-clause-takes
returns-in_err-text-clause-takes g c =
    let p = err_from_is_err_and c.from_residual.result c.from_residual.ensures.1 in
    rw (p.1, p.2) (record {
      smp = c.in-Some.smp;
      is = sym c.smp_in.ensures ∙ c.in-Some.is;
      written = (0, appends_nothing _);
    })
