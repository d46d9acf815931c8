use Rattle.std.proofs.Common.{Option, ◌-◌, ap, ◌∙◌}
use Rattle.indexmap.specs.IndexMap.{get}
use Rattle.audit_lanes.specs.declared.hop.Crossing.{Crossing}
use Rattle.audit_lanes.specs.Keys.{noted}
use Rattle.audit_lanes.specs.Tables.{crossing_of, is_same_crossing}
use Rattle.audit_lanes.proofs.SetLemmas.{rows_more}
use Rattle.audit_lanes.proofs.tables.by_crossing.Goals as goal

pub loop-index-preserved : goal.loop-index-preserved
loop-index-preserved c =
    let row = c.index-rows-index.result in
    rows_more c.loop-index.known c.note_row.new.known c.args.aims.now c.args.rows.now c.loop-index.index row
    c.loop-index-test.true c.loop-index.auto.index c.loop-index.invariant
    (λ here. c.in_ok-note_row.ensures here
    ∙ ap (λ (one : Option Crossing). noted one (c.loop-index.index - 1) here (get is_same_crossing c.loop-index.known here))
    (c.crossing_of-crossing.ensures ∙ ap (crossing_of c.args.aims.now) c.index-rows-index.is))
