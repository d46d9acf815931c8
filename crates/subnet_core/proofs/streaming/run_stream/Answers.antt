use Rattle.std.proofs.Common.{inl, inr, refl}
use Rattle.std.proofs.lemmas.Result.{err_from_is_err_and}
use Rattle.std.specs.Option.{option_copied}
use Rattle.subnet_core.proofs.StreamLemmas.{all_read, no_read, no_write, none_read}
use Rattle.subnet_core.proofs.streaming.run_stream.Goals as goal

pub returns-in_err-subnet-clause-endless : goal.returns-in_err-subnet-clause-endless
returns-in_err-subnet-clause-endless g c sure is =
    let p = err_from_is_err_and c.from_residual.result c.from_residual.ensures.1 in
    absurd (no_read (Unit {0}) c.args.topology.now (option_copied c.args.partitions) c.in_err-subnet.field-0.0 c.in_err-subnet.ensures.exact (rw (p.1, p.2) at is))

pub returns-in_err-subnet-clause-sure : goal.returns-in_err-subnet-clause-sure
returns-in_err-subnet-clause-sure g c sure is =
    let p = err_from_is_err_and c.from_residual.result c.from_residual.ensures.1 in
    no_write (Unit {0}) c.args.topology.now (option_copied c.args.partitions) c.in_err-subnet.field-0.0 c.in_err-subnet.ensures.exact (rw (p.1, p.2) at is)

pub returns-in_err-stream-clause-exact : goal.returns-in_err-stream-clause-exact
returns-in_err-stream-clause-exact g c =
    let p = err_from_is_err_and c.from_residual-in_err-stream.result c.from_residual-in_err-stream.ensures.1 in
    rw (p.1, p.2) (inl (tt, refl, refl))

pub returns-clause-exact : goal.returns-clause-exact
returns-clause-exact g c = inr (c.in_ok-subnet.subnet.inventory, c.in_ok-subnet.ensures.inventoried, c.in_ok-subnet.ensures.exact, rw c.in_ok-stream.ensures at c.run.ensures.exact)

pub returns-in_err-subnet-clause-in_time : goal.returns-in_err-subnet-clause-in_time
returns-in_err-subnet-clause-in_time g c waits = none_read (c.args.topology.now) (option_copied c.args.partitions) _ _ _

pub returns-in_err-stream-clause-in_time : goal.returns-in_err-stream-clause-in_time
returns-in_err-stream-clause-in_time g c waits = none_read (c.args.topology.now) (option_copied c.args.partitions) _ _ _

pub returns-clause-in_time : goal.returns-clause-in_time
returns-clause-in_time g c waits =
    all_read (c.args.topology.now) (option_copied c.args.partitions) c.in_ok-subnet.subnet.inventory c.in_ok-subnet.ensures.exact _ _ _ _ (rw c.in_ok-stream.ensures at c.run.ensures.in_time waits)
