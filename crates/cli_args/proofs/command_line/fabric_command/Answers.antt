use Rattle.std.proofs.Common.{◌≡◌, true, ap, codes, refl}
use Rattle.clap.specs.Words.{App, app_of, new_app}
use Rattle.cli_args.proofs.command_line.fabric_command.Goals as goal

abbrev with_requirement : App → App
with_requirement app = record app { top = record app.top { subcommand_required = true } }

abbrev with_version : App → App
with_version app = record app { top = record app.top { has_version = true } }

pub returns-clause-words : goal.returns-clause-words
returns-clause-words c =
    let top_is : app_of c.subcommand_required-top.result ≡ with_requirement (new_app (codes "fabric")) =
    rw c.subcommand_required-top.ensures (ap with_requirement c.new.ensures.app) in
    let cables_is = c.in_ok-cables.ensures _ (c.with_runs-runs.ensures _ (c.with_listings-listings.ensures _ top_is)) in
    let audits_is = c.with_audits-audits.ensures _ cables_is in
    let all = c.in_ok-with_command.ensures _ _ audits_is c.explain_command.ensures.words refl in
    rw (c.after_help.ensures, c.about.ensures, c.version.ensures, c.in_ok-command.ensures.0) (ap with_version all)
