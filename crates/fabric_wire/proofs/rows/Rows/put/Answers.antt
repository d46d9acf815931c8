use Rattle.std.proofs.Common.{Some}
use Rattle.std.proofs.lemmas.Result.{on_ok_weaker}
use Rattle.fabric_wire.proofs.RowLemmas.{rows_put}
use Rattle.fabric_wire.proofs.rows.Rows.put.Goals as goal

pub returns-clause-far : goal.returns-clause-far
returns-clause-far c =
    let written = rows_put c.self.inside.rows.items c.args.here (Some c.args.far) c.index_mut.result.now c.put.new.self
    (rw (← c.self.view_is) at c.in_ok-grow.ensures.long) c.index_mut.ensures.value in
    on_ok_weaker c.put.result (λ is port. rw (← c.in_ok-grow.ensures.same port, ← c.self.view_is) (written is port)) c.put.ensures.far
