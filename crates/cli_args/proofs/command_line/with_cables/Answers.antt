use Rattle.std.proofs.Common.{refl}
use Rattle.cli_args.proofs.command_line.with_cables.Goals as goal

pub returns : goal.returns
returns c app is =
    let cuts = c.with_command-cuts.ensures _ _ is c.cuts_command.ensures.words refl in
    c.with_command.ensures _ _ cuts c.import_command.ensures.words refl
