use Rattle.std.proofs.lemmas.Result.{err_from_is_err_and}
use Rattle.fabric_cli.proofs.FilesLemmas.{last_after, named_open, one_open, opens_first, opens_more, opens_then, unread_after, unread_first}
use Rattle.fabric_cli.proofs.texts.read_texts.Goals as goal

pub returns-in_err-partitions-clause-order : goal.returns-in_err-partitions-clause-order
returns-in_err-partitions-clause-order g c =
    opens_first _ _ _ _ (opens_more _ _ _ _ _ c.read_file.ensures.opened c.read_if_named.ensures.opened)

pub returns-in_err-work-clause-order : goal.returns-in_err-work-clause-order
returns-in_err-work-clause-order g c =
    opens_then _ _ _ _ _ (opens_more _ _ _ _ _ c.read_file.ensures.opened c.read_if_named.ensures.opened) c.work_of.ensures.order

pub returns-clause-order : goal.returns-clause-order
returns-clause-order g c =
    opens_then _ _ _ _ _ (opens_more _ _ _ _ _ c.read_file.ensures.opened c.read_if_named.ensures.opened) c.work_of.ensures.order

pub returns-in_err-work-clause-unread : goal.returns-in_err-work-clause-unread
returns-in_err-work-clause-unread g c =
    let p = err_from_is_err_and c.from_residual-in_err-work.result c.from_residual-in_err-work.ensures.1 in
    rw (p.1, p.2) (unread_after _ _ _ _ _ _ _ _ _ _ c.read_file.ensures.same c.read_file.ensures.stays c.read_file.ensures.opened (one_open _ _ _ c.in_ok-topology.ensures.bytes)
    (unread_after _ _ _ _ _ _ _ _ _ _ c.read_if_named.ensures.same c.read_if_named.ensures.stays c.read_if_named.ensures.opened (named_open _ _ _ c.in_ok-partitions.ensures.bytes) c.in_err-work.ensures.unread))

pub returns-in_err-topology-clause-unread : goal.returns-in_err-topology-clause-unread
returns-in_err-topology-clause-unread g c =
    let p = err_from_is_err_and c.from_residual.result c.from_residual.ensures.1 in
    rw (p.1, p.2) (unread_first _ _ _ _ _ _ _ c.in_err-topology.ensures.unread)

pub returns-in_err-partitions-clause-unread : goal.returns-in_err-partitions-clause-unread
returns-in_err-partitions-clause-unread g c =
    let p = err_from_is_err_and c.from_residual-in_err-partitions.result c.from_residual-in_err-partitions.ensures.1 in
    rw (p.1, p.2) (unread_after _ _ _ _ _ _ _ _ _ _ c.read_file.ensures.same c.read_file.ensures.stays c.read_file.ensures.opened (one_open _ _ _ c.in_ok-topology.ensures.bytes)
    (unread_first _ _ _ _ _ _ _ c.in_err-partitions.ensures.unread))

pub returns-clause-last : goal.returns-clause-last
returns-clause-last g c = λ word is.
    last_after _ _ _ _ _ _ _ _ _ word c.read_file.ensures.same c.read_file.ensures.stays c.read_file.ensures.opened (one_open _ _ _ c.in_ok-topology.ensures.bytes)
    (last_after _ _ _ _ _ _ _ _ _ word c.read_if_named.ensures.same c.read_if_named.ensures.stays c.read_if_named.ensures.opened (named_open _ _ _ c.in_ok-partitions.ensures.bytes)
    (c.in_ok-work.ensures.last word is))

pub returns-clause-all : goal.returns-clause-all
returns-clause-all g c =
    opens_more _ _ _ _ _ (opens_more _ _ _ _ _ c.read_file.ensures.opened c.read_if_named.ensures.opened) c.in_ok-work.ensures.all
