use Rattle.std.proofs.Common.{◌∙◌, ap, refl}
use Rattle.clap.specs.Words.{App, with_subcommand}
use Rattle.cli_args.specs.CommandLine.{audit_command, audit_keys_command, load_command}
use Rattle.cli_args.proofs.CommandLemmas.{adds_shape}
use Rattle.cli_args.proofs.command_line.with_audits.Goals as goal

pub returns : goal.returns
returns c app is =
    let audits = adds_shape _ _ _ audit_command c.in_ok-subcommand.ensures c.in_ok-audit_command.ensures.words refl in
    let loads = adds_shape _ _ _ load_command c.in_ok-subcommand-2.ensures c.in_ok-load_command.ensures.words refl in
    adds_shape _ _ _ audit_keys_command c.in_ok-all.ensures c.in_ok-audit_keys_command.ensures.words refl
    ∙ ap (λ (a : App). with_subcommand a audit_keys_command.top)
    (loads ∙ ap (λ (a : App). with_subcommand a load_command.top) (audits ∙ ap (λ (a : App). with_subcommand a audit_command.top) is))
