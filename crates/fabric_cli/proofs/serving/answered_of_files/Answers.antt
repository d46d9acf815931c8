use Rattle.cli_args.specs.Words.{names}
use Rattle.fabric_cli.specs.Serving.{Answers}
use Rattle.fabric_cli.proofs.FilesLemmas.{reported_texts}
use Rattle.fabric_cli.proofs.serving.answered_of_files.Goals as goal

pub returns-in-Ok-clause-exact : goal.returns-in-Ok-clause-exact
returns-in-Ok-clause-exact g c =
    reported_texts (g.F.Files.reported c.args.files.now) (names c.args.asked.now) c.in-Ok.texts g.F.Input.Reader.remaining
    (λ judged. Answers judged c.answered_of_texts.result (g.O.Output.is_sure c.args.out.now) (g.O.Output.contents c.args.out.now)
    (g.O.Output.contents c.answered_of_texts.new.out))
    c.in-Ok.ensures.known c.in-Ok.ensures.texts c.answered_of_texts.ensures.exact
