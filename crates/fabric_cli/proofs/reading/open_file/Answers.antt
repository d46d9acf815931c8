use Rattle.fabric_cli.proofs.FilesLemmas.{no_file, stops_here}
use Rattle.fabric_cli.proofs.reading.open_file.Goals as goal

pub returns-in-None-clause-unread : goal.returns-in-None-clause-unread
returns-in-None-clause-unread g c = stops_here _ _ _ _ c.args.name c.open.ensures.noted (no_file _ _ _ c.in-None.ensures.bytes)
