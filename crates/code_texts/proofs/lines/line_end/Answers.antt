use Rattle.std.proofs.Common.{◌==◌, sym}
use Rattle.step_results.proofs.PlaceLemmas.{place-none}
use Rattle.code_texts.proofs.lines.line_end.Goals as goal

pub returns-in-None-clause-value : goal.returns-in-None-clause-value
returns-in-None-clause-value c = place-none (λ byte. byte == 10) c.args.text.now (sym c.in-None.ensures.value)
