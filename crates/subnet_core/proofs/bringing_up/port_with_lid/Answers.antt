use Rattle.std.proofs.Common.{◌-◌, ◌<◌, length, sym, arith}
use Rattle.subnet_core.proofs.BringUpLemmas.{lid_at}
use Rattle.subnet_core.proofs.bringing_up.port_with_lid.Goals as goal

pub returns-clause-lid : goal.returns-clause-lid
returns-clause-lid c =
    let inside : c.from.result - 1 < length c.args.ports.now = omega (arith, c.from.ensures, c.requires.first, c.requires.last) in
    let at = lid_at c.args.ports.now (c.from.result - 1) c.index-ports-from.result c.requires.order inside (sym c.index-ports-from.is) in
    (omega (arith, at, c.from.ensures, c.requires.first))
