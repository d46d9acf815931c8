use Rattle.fabric_cli.specs.Serving.{imported, ended}
use Rattle.fabric_cli.proofs.EndingLemmas.{of_file}
use Rattle.fabric_cli.proofs.serving.answered_of_discovery.Goals as goal

pub returns-in-Ok-clause-exact : goal.returns-in-Ok-clause-exact
returns-in-Ok-clause-exact g c =
    let made = rw c.as_slice.ensures.value at c.imported.ensures.exact in
    of_file (g.F.Files.reported c.args.files.now) c.args.netdiscover.now c.in-Ok.text.items c.args.manager c.args.roots c.written.result (g.O.Output.is_sure c.args.out.now)
    (g.O.Output.contents c.args.out.now) (g.O.Output.contents c.written.new.out) c.in-Ok.ensures.bytes
    (c.written.ensures.exact (ended (imported c.args.manager c.args.roots c.in-Ok.text.items)) made)
