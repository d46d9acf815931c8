use Rattle.std.proofs.Common.{sym}
use Rattle.topology_import.proofs.names.first_number.Goals as goal

pub returns-in-Some-clause-taken : goal.returns-in-Some-clause-taken
returns-in-Some-clause-taken c nodes knows = knows c.args.name.now c.in-Some.number.now (sym c.in-Some.ensures.value)
