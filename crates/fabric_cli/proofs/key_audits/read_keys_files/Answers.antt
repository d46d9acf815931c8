use Rattle.std.proofs.lemmas.Result.{err_from_is_err_and}
use Rattle.fabric_cli.proofs.FilesLemmas.{one_open, opens_first, opens_more, opens_whole, unread_after, unread_first}
use Rattle.fabric_cli.proofs.key_audits.read_keys_files.Goals as goal

pub returns-in_err-netdiscover-clause-order : goal.returns-in_err-netdiscover-clause-order
returns-in_err-netdiscover-clause-order g c = opens_first _ _ _ _ c.read_file.ensures.opened

pub returns-in_err-netdiscover-clause-unread : goal.returns-in_err-netdiscover-clause-unread
returns-in_err-netdiscover-clause-unread g c =
    let p = err_from_is_err_and c.from_residual.result c.from_residual.ensures.1 in
    rw (p.1, p.2) (unread_first _ _ _ _ _ _ _ c.in_err-netdiscover.ensures.unread)

pub returns-in_err-pkeys-clause-order : goal.returns-in_err-pkeys-clause-order
returns-in_err-pkeys-clause-order g c =
    opens_first _ _ _ _ (opens_more _ _ _ _ _ c.read_file.ensures.opened c.read_file-2.ensures.opened)

pub returns-in_err-pkeys-clause-unread : goal.returns-in_err-pkeys-clause-unread
returns-in_err-pkeys-clause-unread g c =
    let p = err_from_is_err_and c.from_residual-in_err-pkeys.result c.from_residual-in_err-pkeys.ensures.1 in
    rw (p.1, p.2)
    (unread_after _ _ _ _ _ _ _ _ _ _ c.read_file.ensures.same c.read_file.ensures.stays c.read_file.ensures.opened
    (one_open _ _ _ c.in_ok-netdiscover.ensures.bytes) (unread_first _ _ _ _ _ _ _ c.in_err-pkeys.ensures.unread))

pub returns-in_err-partitions-clause-order : goal.returns-in_err-partitions-clause-order
returns-in_err-partitions-clause-order g c =
    opens_whole _ _ _
    (opens_more _ _ _ _ _ (opens_more _ _ _ _ _ c.read_file.ensures.opened c.read_file-2.ensures.opened) c.read_if_named.ensures.opened)

pub returns-in_err-partitions-clause-unread : goal.returns-in_err-partitions-clause-unread
returns-in_err-partitions-clause-unread g c =
    let p = err_from_is_err_and c.from_residual-in_err-partitions.result c.from_residual-in_err-partitions.ensures.1 in
    rw (p.1, p.2)
    (unread_after _ _ _ _ _ _ _ _ _ _ c.read_file.ensures.same c.read_file.ensures.stays c.read_file.ensures.opened
    (one_open _ _ _ c.in_ok-netdiscover.ensures.bytes)
    (unread_after _ _ _ _ _ _ _ _ _ _ c.read_file-2.ensures.same c.read_file-2.ensures.stays c.read_file-2.ensures.opened
    (one_open _ _ _ c.in_ok-pkeys.ensures.bytes) c.in_err-partitions.ensures.unread))

pub returns-clause-order : goal.returns-clause-order
returns-clause-order g c =
    opens_whole _ _ _
    (opens_more _ _ _ _ _ (opens_more _ _ _ _ _ c.read_file.ensures.opened c.read_file-2.ensures.opened) c.read_if_named.ensures.opened)

pub returns-clause-all : goal.returns-clause-all
returns-clause-all g c =
    opens_more _ _ _ _ _ (opens_more _ _ _ _ _ c.read_file.ensures.opened c.read_file-2.ensures.opened) c.read_if_named.ensures.opened
