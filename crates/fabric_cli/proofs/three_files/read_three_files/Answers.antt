use Rattle.std.proofs.lemmas.Result.{err_from_is_err_and}
use Rattle.fabric_cli.proofs.FilesLemmas.{one_open, opens_first, opens_more, opens_whole, unread_after, unread_first}
use Rattle.fabric_cli.proofs.three_files.read_three_files.Goals as goal

pub returns-in_err-fabric-clause-order : goal.returns-in_err-fabric-clause-order
returns-in_err-fabric-clause-order g c = opens_first _ _ _ _ c.read_file.ensures.opened

pub returns-in_err-fabric-clause-unread : goal.returns-in_err-fabric-clause-unread
returns-in_err-fabric-clause-unread g c =
    let p = err_from_is_err_and c.from_residual.result c.from_residual.ensures.1 in
    rw (p.1, p.2) (unread_first _ _ _ _ _ _ _ c.in_err-fabric.ensures.unread)

pub returns-in_err-dump-clause-order : goal.returns-in_err-dump-clause-order
returns-in_err-dump-clause-order g c = opens_first _ _ _ _ (opens_more _ _ _ _ _ c.read_file.ensures.opened c.read_dump.ensures.opened)

pub returns-in_err-dump-clause-unread : goal.returns-in_err-dump-clause-unread
returns-in_err-dump-clause-unread g c =
    let p = err_from_is_err_and c.from_residual-in_err-dump.result c.from_residual-in_err-dump.ensures.1 in
    rw (p.1, p.2)
    (unread_after _ _ _ _ _ _ _ _ _ _ c.read_file.ensures.same c.read_file.ensures.stays c.read_file.ensures.opened
    (one_open _ _ _ c.in_ok-fabric.ensures.bytes) (unread_first _ _ _ _ _ _ _ c.in_err-dump.ensures.unread))

pub returns-in_err-third-clause-order : goal.returns-in_err-third-clause-order
returns-in_err-third-clause-order g c =
    opens_whole _ _ _ (opens_more _ _ _ _ _ (opens_more _ _ _ _ _ c.read_file.ensures.opened c.read_dump.ensures.opened) c.read_file-2.ensures.opened)

pub returns-in_err-third-clause-unread : goal.returns-in_err-third-clause-unread
returns-in_err-third-clause-unread g c =
    let p = err_from_is_err_and c.from_residual-in_err-third.result c.from_residual-in_err-third.ensures.1 in
    rw (p.1, p.2)
    (unread_after _ _ _ _ _ _ _ _ _ _ c.read_file.ensures.same c.read_file.ensures.stays c.read_file.ensures.opened
    (one_open _ _ _ c.in_ok-fabric.ensures.bytes)
    (unread_after _ _ _ _ _ _ _ _ _ _ c.read_dump.ensures.same c.read_dump.ensures.stays c.read_dump.ensures.opened
    (one_open _ _ _ c.in_ok-dump.ensures.dump.are_known) c.in_err-third.ensures.unread))

pub returns-clause-order : goal.returns-clause-order
returns-clause-order g c =
    opens_whole _ _ _ (opens_more _ _ _ _ _ (opens_more _ _ _ _ _ c.read_file.ensures.opened c.read_dump.ensures.opened) c.read_file-2.ensures.opened)

pub returns-clause-all : goal.returns-clause-all
returns-clause-all g c = opens_more _ _ _ _ _ (opens_more _ _ _ _ _ c.read_file.ensures.opened c.read_dump.ensures.opened) c.read_file-2.ensures.opened
