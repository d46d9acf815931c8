use Rattle.std.proofs.lemmas.Result.{err_from_is_err_and}
use Rattle.fabric_cli.proofs.FilesLemmas.{named_open, open_last, one_open, opens_first, opens_more, opens_whole, unread_after, unread_first}
use Rattle.fabric_cli.proofs.texts.work_of.Goals as goal

pub returns-in_err-read_file-in-Compare-clause-order : goal.returns-in_err-read_file-in-Compare-clause-order
returns-in_err-read_file-in-Compare-clause-order g c = rw c.in-Compare.is (opens_first _ _ _ _ c.read_file.ensures.opened)

pub returns-in_err-read_file-in-Compare-clause-unread : goal.returns-in_err-read_file-in-Compare-clause-unread
returns-in_err-read_file-in-Compare-clause-unread g c =
    let p = err_from_is_err_and c.from_residual-in_err-read_file-in-Compare.result c.from_residual-in_err-read_file-in-Compare.ensures.1 in
    rw (c.in-Compare.is, p.1, p.2) (unread_first _ _ _ _ _ _ _ c.in_err-read_file-in-Compare.ensures.unread)

pub returns-in_err-read_file-in-Compare-2-clause-order : goal.returns-in_err-read_file-in-Compare-2-clause-order
returns-in_err-read_file-in-Compare-2-clause-order g c =
    rw c.in-Compare.is (opens_whole _ _ _ (opens_more _ _ _ _ _ c.read_file.ensures.opened c.read_file-in-Compare.ensures.opened))

pub returns-in_err-read_file-in-Compare-2-clause-unread : goal.returns-in_err-read_file-in-Compare-2-clause-unread
returns-in_err-read_file-in-Compare-2-clause-unread g c =
    let p = err_from_is_err_and c.from_residual-in_err-read_file-in-Compare-2.result c.from_residual-in_err-read_file-in-Compare-2.ensures.1 in
    rw (c.in-Compare.is, p.1, p.2)
    (unread_after _ _ _ _ _ _ _ _ _ _ c.read_file.ensures.same c.read_file.ensures.stays c.read_file.ensures.opened
    (one_open _ _ _ c.in_ok-read_file-in-Compare.ensures.bytes) c.in_err-read_file-in-Compare-2.ensures.unread)

pub returns-in_ok-read_file-in-Compare-2-clause-order : goal.returns-in_ok-read_file-in-Compare-2-clause-order
returns-in_ok-read_file-in-Compare-2-clause-order g c =
    rw c.in-Compare.is (opens_whole _ _ _ (opens_more _ _ _ _ _ c.read_file.ensures.opened c.read_file-in-Compare.ensures.opened))

pub returns-in_ok-open_file-in-Run-clause-last : goal.returns-in_ok-open_file-in-Run-clause-last
returns-in_ok-open_file-in-Run-clause-last g c = λ word is.
    rw c.in-Run.is
    (open_last _ _ _ _ _ c.in-Run.script.now word _ c.open_file.ensures.opened c.in_ok-open_file-in-Run.ensures.bytes
    (λ sure. c.in_ok-open_file-in-Run.ensures.sure sure) (rw c.in_ok-open_file-in-Run.ensures.named at is))

pub returns-in_err-open_file-in-Smps-clause-order : goal.returns-in_err-open_file-in-Smps-clause-order
returns-in_err-open_file-in-Smps-clause-order g c =
    rw c.in-Smps.is (opens_whole _ _ _ (opens_more _ _ _ _ _ c.read_if_named-in-Smps.ensures.opened c.open_file-in-Smps.ensures.opened))

pub returns-in_err-open_file-in-Smps-clause-unread : goal.returns-in_err-open_file-in-Smps-clause-unread
returns-in_err-open_file-in-Smps-clause-unread g c =
    let p = err_from_is_err_and c.from_residual-in_err-open_file-in-Smps.result c.from_residual-in_err-open_file-in-Smps.ensures.1 in
    rw (c.in-Smps.is, p.1, p.2)
    (unread_after _ _ _ _ _ _ _ _ _ _ c.read_if_named-in-Smps.ensures.same c.read_if_named-in-Smps.ensures.stays c.read_if_named-in-Smps.ensures.opened
    (named_open _ _ _ c.in_ok-read_if_named-in-Smps.ensures.bytes) c.in_err-open_file-in-Smps.ensures.unread)

pub returns-in_ok-open_file-in-Smps-clause-order : goal.returns-in_ok-open_file-in-Smps-clause-order
returns-in_ok-open_file-in-Smps-clause-order g c =
    rw c.in-Smps.is (opens_whole _ _ _ (opens_more _ _ _ _ _ c.read_if_named-in-Smps.ensures.opened c.open_file-in-Smps.ensures.opened))

pub returns-in_ok-open_file-in-Manage-clause-last : goal.returns-in_ok-open_file-in-Manage-clause-last
returns-in_ok-open_file-in-Manage-clause-last g c = λ word is. absurd is
