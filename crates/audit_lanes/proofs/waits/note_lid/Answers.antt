use Rattle.indexmap.specs.IndexSet.{contains}
use Rattle.audit_lanes.specs.Keys.{is_same_channels, takes_channels}
use Rattle.audit_lanes.proofs.SetLemmas.{noted_next}
use Rattle.audit_lanes.proofs.waits.note_lid.Goals as goal

pub loop-place-preserved : goal.loop-place-preserved
loop-place-preserved c pair =
    noted_next (takes_channels c.args.net.now pair c.args.lid) c.loop-place.place (contains is_same_channels c.args.known.now pair)
    (contains is_same_channels c.loop-place.known pair) (contains is_same_channels c.note_two.new.known pair) (c.loop-place.invariant pair) (c.in_ok-note_two.ensures pair)
