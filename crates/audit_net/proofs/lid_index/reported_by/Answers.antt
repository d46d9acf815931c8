use Rattle.dump_file.specs.Table.{rows_of}
use Rattle.audit_net.proofs.LidIndexLemmas.{reported_more}
use Rattle.audit_net.proofs.lid_index.reported_by.Goals as goal

pub loop-index-preserved : goal.loop-index-preserved
loop-index-preserved c =
    reported_more c.loop-index.reported c.note_reported.new.reported c.args.with_row.now (rows_of c.args.dump.now.tables) c.args.lids.now c.loop-index.index (record { lid = 0; guid = 0 })
    c.loop-index-test.true c.loop-index.auto.index c.requires c.loop-index.invariant c.in_ok-note_reported.ensures
