use Rattle.fabric_cli.specs.Serving.{judged_for}
use Rattle.cli_args.specs.Words.{asking}
use Rattle.std.proofs.Common.{◌∙◌, sym}
use Rattle.fabric_cli.proofs.EndingLemmas.{answered_below, any_done_ends, any_ends, is_reported, reported_done_ends, reported_done_some, reported_ends, reported_some}
use Rattle.fabric_cli.proofs.ServingLemmas.{answer_is_refused}
use Rattle.fabric_cli.proofs.serving.serve_by.Goals as goal

pub returns-in-Ok-clause-exact : goal.returns-in-Ok-clause-exact
returns-in-Ok-clause-exact g c other =
    rw c.status.ensures
    (reported_done_ends _ (λ file. judged_for file (asking (g.P.Parser.shown c.args.parser.now) c.args.words.now)) c.in-Ok.answer _ _ _ c.in-Ok.ensures.exact)

pub returns-in-Ok-clause-any_files : goal.returns-in-Ok-clause-any_files
returns-in-Ok-clause-any_files g c other =
    rw c.status.ensures
    (any_done_ends (asking (g.P.Parser.shown c.args.parser.now) c.args.words.now) c.in-Ok.answer _ _ _ (c.in-Ok.ensures.any_files tt))

pub returns-in-Ok-clause-refused : goal.returns-in-Ok-clause-refused
returns-in-Ok-clause-refused g c three = absurd (answered_below c.in-Ok.answer (sym c.status.ensures ∙ three))

pub returns-in-Ok-clause-short : goal.returns-in-Ok-clause-short
returns-in-Ok-clause-short g c =
    reported_done_some _ (λ file. judged_for file (asking (g.P.Parser.shown c.args.parser.now) c.args.words.now)) c.in-Ok.answer _ _ c.in-Ok.ensures.exact

pub returns-in-Err-clause-exact : goal.returns-in-Err-clause-exact
returns-in-Err-clause-exact g c other =
    reported_ends _ (λ file. judged_for file (asking (g.P.Parser.shown c.args.parser.now) c.args.words.now)) c.in-Err.stop _ (g.O.Output.is_sure c.args.out.now) _ _ _ _
    c.in-Err.ensures.exact other (c.reported_stop.ensures.whole other)

pub returns-in-Err-clause-any_files : goal.returns-in-Err-clause-any_files
returns-in-Err-clause-any_files g c other =
    let reported = c.reported_stop.ensures.whole other in
    any_ends (asking (g.P.Parser.shown c.args.parser.now) c.args.words.now) c.in-Err.stop _ (g.O.Output.is_sure c.args.out.now) _ _ _ _
    (c.in-Err.ensures.any_files (is_reported c.in-Err.stop _ other reported.0)) other reported

pub returns-in-Err-clause-refused : goal.returns-in-Err-clause-refused
returns-in-Err-clause-refused g c three =
    answer_is_refused _ _ _ _ _ (λ file. judged_for file (asking (g.P.Parser.shown c.args.parser.now) c.args.words.now)) c.in-Err.stop _ _ _ _ _ _ _ three
    c.in-Err.ensures.exact c.in-Err.ensures.unread c.reported_stop.ensures.part

pub returns-in-Err-clause-short : goal.returns-in-Err-clause-short
returns-in-Err-clause-short g c =
    reported_some _ (λ file. judged_for file (asking (g.P.Parser.shown c.args.parser.now) c.args.words.now)) c.in-Err.stop (g.O.Output.is_sure c.args.out.now) _ _
    c.in-Err.ensures.exact
