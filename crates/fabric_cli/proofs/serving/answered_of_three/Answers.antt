use Rattle.fabric_cli.specs.Serving.{ended, three_viewed}
use Rattle.fabric_cli.proofs.EndingLemmas.{of_third}
use Rattle.fabric_cli.proofs.serving.answered_of_three.Goals as goal

pub returns-in-Ok-clause-exact : goal.returns-in-Ok-clause-exact
returns-in-Ok-clause-exact g c =
    let read = c.in-Ok.read in
    let tables = c.in-Ok.ensures.dump in
    let asked = c.args.asked.now in
    let found = rw (c.as_slice-fabric.ensures.value, c.as_slice-file.ensures.value) at (c.three_viewed.ensures.exact tables.bytes tables.holds) in
    of_third (g.F.Files.reported c.args.files.now) c.args.third asked.fabric.now asked.dump.now asked.third.now read.fabric.items tables.bytes read.third.items
    c.written_view.result (g.O.Output.is_sure c.args.out.now) (g.O.Output.contents c.args.out.now) (g.O.Output.contents c.written_view.new.out)
    c.in-Ok.ensures.fabric tables.are_known c.in-Ok.ensures.third
    (c.written_view.ensures.exact (ended (three_viewed c.args.third read.fabric.items tables.bytes read.third.items)) found)

pub returns-in-Ok-clause-any_files : goal.returns-in-Ok-clause-any_files
returns-in-Ok-clause-any_files g c reported =
    let read = c.in-Ok.read in
    let tables = c.in-Ok.ensures.dump in
    let found = rw (c.as_slice-fabric.ensures.value, c.as_slice-file.ensures.value) at (c.three_viewed.ensures.exact tables.bytes tables.holds) in (
      read.fabric.items,
      tables.bytes,
      read.third.items,
      c.written_view.ensures.exact (ended (three_viewed c.args.third read.fabric.items tables.bytes read.third.items)) found,
    )
