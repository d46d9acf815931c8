use Rattle.std.proofs.Common.{◌≡◌, ◌≢◌, ◌∙◌, refl, rules}
use Rattle.clap.specs.Words.{kind_of}
use Rattle.clap.specs.declared.error.kind.ErrorKind.TheVariants.{DisplayVersion, OutOfMemory}
use Rattle.cli_args.proofs.CommandLemmas.{is_no_version, refuses, shows_refusal, shows_version, taken}
use Rattle.cli_args.proofs.command_line.ClapParser.parse.Goals as goal

pub returns-in-Ok-clause-found : goal.returns-in-Ok-clause-found
returns-in-Ok-clause-found c = taken _ _ _ _ c.in_ok-command.ensures.words c.in-Ok.ensures.matches c.in-Ok.ensures.kinds

pub returns-in-Err-2-clause-found : goal.returns-in-Err-2-clause-found
returns-in-Err-2-clause-found c =
    let other : kind_of c.in-Err.error ≢ OutOfMemory = search rules in
    let version : kind_of c.in-Err.error ≡ DisplayVersion = search rules in
    refuses _ _ _ c.in-Err.error c.in_ok-command.ensures.words c.in-Err.ensures.kinds other ∙ shows_version _ _ version

pub returns-in-Err-3-clause-refused : goal.returns-in-Err-3-clause-refused
returns-in-Err-3-clause-refused c =
    let other : kind_of c.in-Err.error ≢ OutOfMemory = search rules in
    let neither : kind_of c.in-Err.error ≢ DisplayVersion = search rules in
    let refused = refuses _ _ _ c.in-Err.error c.in_ok-command.ensures.words c.in-Err.ensures.kinds other in
    (refused ∙ shows_refusal _ _ (is_no_version _ neither), refl)
