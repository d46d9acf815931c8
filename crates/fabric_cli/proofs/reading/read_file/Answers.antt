use Rattle.std.proofs.Common.{refl}
use Rattle.fabric_cli.proofs.FilesLemmas.{endless_file, no_file, stops_here}
use Rattle.fabric_cli.proofs.reading.read_file.Goals as goal

pub returns-in_default-clause-unread : goal.returns-in_default-clause-unread
returns-in_default-clause-unread g c = stops_here _ _ _ _ c.args.name c.open.ensures.noted (no_file _ _ _ c.in_default.ensures.bytes)

pub returns-clause-unread : goal.returns-clause-unread
returns-clause-unread g c =
    stops_here _ _ _ _ c.args.name c.open.ensures.noted
    (endless_file _ _ _ _ c.in-Some.ensures.bytes (λ sure. c.in_ok-bytes.ensures.sure (c.in-Some.ensures.sure sure) (rw c.in-None.is refl)))
