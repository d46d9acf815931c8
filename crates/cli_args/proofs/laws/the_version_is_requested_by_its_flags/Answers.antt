use Rattle.cli_args.proofs.VersionLemmas.{version_is_requested}
use Rattle.cli_args.proofs.laws.the_version_is_requested_by_its_flags.Goals as goal

pub returns : goal.returns
returns c = version_is_requested
