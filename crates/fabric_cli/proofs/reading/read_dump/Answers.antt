use Rattle.fabric_cli.proofs.FilesLemmas.{endless_file, stops_here}
use Rattle.fabric_cli.proofs.reading.read_dump.Goals as goal

pub returns-in-Ok-None-clause-unread : goal.returns-in-Ok-None-clause-unread
returns-in-Ok-None-clause-unread g c =
    let given = c.in_ok-name.ensures in
    rw given.named
    (stops_here _ _ _ _ c.args.name c.open_file.ensures.opened
    (endless_file _ _ _ _ given.bytes (λ sure. c.read_from.ensures.sure (given.sure sure) (rw c.in-Ok-None.field-0-is at c.in-Ok-None.is))))
