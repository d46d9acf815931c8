use Rattle.std.proofs.Common.{◌≡◌, ◌∙◌, ap, subst}
use Rattle.std.proofs.lemmas.Result.{IfOk-weaker}
use Rattle.clap.specs.Words.{App, app_of, with_subcommand}
use Rattle.cli_args.specs.CommandLine.{Reads}
use Rattle.cli_args.proofs.CommandLemmas.{adds_shape}
use Rattle.cli_args.proofs.command_line.with_command.Goals as goal

pub returns : goal.returns
returns c app sub is has plain =
    let all_is : app_of c.in_ok-all.field-0 ≡ app = subst (λ made. Reads made app) c.in_ok-all.was is in
    let sub_is : app_of c.in_ok-command.field-0 ≡ sub = subst (λ made. Reads made sub) c.in_ok-command.was has in
    IfOk-weaker c.subcommand.result _ _ (λ r adds. adds_shape _ _ _ sub adds sub_is plain ∙ ap (λ (a : App). with_subcommand a sub.top) all_is) c.subcommand.ensures
