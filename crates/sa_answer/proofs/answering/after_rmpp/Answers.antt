use Rattle.std.proofs.Common.{◌≡◌, None, refl}
use Rattle.sa_replies.specs.Transfers.{table_of}
use Rattle.sa_answer.proofs.AnswerLemmas.{with_table_again}
use Rattle.sa_answer.proofs.answering.after_rmpp.Goals as goal

pub returns-clause-answers : goal.returns-clause-answers
returns-clause-answers c = λ own is.
    let transfers = c.args.store.now.administration.transfers in
    let was : c.replace_table-table.result ≡ table_of own.guid transfers = rw is c.replace_table-table.ensures.was in
    let mads = rw was at c.in_ok-mads.ensures.mads in
    let next = rw was at c.in_ok-mads.ensures.next in
    let again = with_table_again c.args.requester.guid None c.in_ok-mads.table transfers in
    record {
      mads_are = mads;
      next = rw (c.replace_table.ensures.next, c.replace_table-table.ensures.next, again, next, is) refl;
    }
