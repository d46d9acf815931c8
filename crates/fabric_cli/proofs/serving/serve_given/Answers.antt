use Rattle.std.specs.Process.{exit_status}
use Rattle.cli_args.specs.Words.{given_items}
use Rattle.fabric_cli.proofs.EndingLemmas.{given_any}
use Rattle.fabric_cli.proofs.serving.serve_given.Goals as goal

pub returns-in-Ok-clause-any_files : goal.returns-in-Ok-clause-any_files
returns-in-Ok-clause-any_files g c =
    given_any (given_items c.args.given) c.in-Ok.words.items c.as_slice.result.now (exit_status c.from.result) c.serve.result
    (g.O.Output.contents c.args.out.now) (g.O.Output.contents c.serve.new.out) (g.E.Output.contents c.args.err.now) (g.E.Output.contents c.serve.new.err)
    c.in-Ok.ensures.all c.as_slice.ensures.value c.from.ensures c.serve.ensures.any_files
