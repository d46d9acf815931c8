use Rattle.std.proofs.Common.{refl}
use Rattle.cli_args.proofs.command_line.with_listings.Goals as goal

pub returns : goal.returns
returns c app is =
    let checks = c.with_command-checks.ensures _ _ is c.check_command.ensures.words refl in
    let shares = c.with_command-shares.ensures _ _ checks c.shares_command.ensures.words refl in
    let changes = c.with_command-changes.ensures _ _ shares c.diff_command.ensures.words refl in
    let tables = c.with_command-tables.ensures _ _ changes c.tables_command.ensures.words refl in
    c.with_command.ensures _ _ tables c.keys_command.ensures.words refl
