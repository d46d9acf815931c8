-- The files of an audit with a third file, by their names.
use Rattle.std.specs.Prelude.{ℕ, List, [], ◌∷◌}
use Rattle.cli_args.specs.Words.{Names}
use Rattle.cli_args.specs.declared.call.Call.{Call}
use Rattle.cli_args.specs.declared.call.Call.TheVariants.{AuditThree}
use Rattle.cli_args.specs.declared.call.ThirdFile.{ThirdFile}
use Rattle.fabric_cli.specs.declared.three_files.ThreeFiles.{ThreeFiles}

-- in the order in which they are opened
abbrev pub three_names : ThreeFiles → List (List ℕ)
three_names files = files.fabric.now ∷ files.dump.now ∷ files.third.now ∷ []

abbrev pub three_call : ThirdFile → ThreeFiles → Call Names (List ℕ)
three_call third files = AuditThree third files.fabric.now files.dump.now files.third.now
