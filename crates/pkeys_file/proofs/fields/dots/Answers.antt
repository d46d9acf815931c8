use Rattle.std.proofs.Common.{◌==◌, not, sym}
use Rattle.step_results.proofs.PlaceLemmas.{place-none}
use Rattle.pkeys_file.proofs.fields.dots.Goals as goal

pub returns-in-None-clause-value : goal.returns-in-None-clause-value
returns-in-None-clause-value c = place-none (λ byte. not (byte == 46)) c.args.text.now (sym c.in-None.ensures.value)
