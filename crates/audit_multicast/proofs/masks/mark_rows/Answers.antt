use Rattle.std.proofs.Common.{ℕ, List, ◌==◌, ◌||◌, ◌≤◌, ◌<◌, ◌≡◌, ◌∙◌, ap, get_or, length, subst}
use Rattle.topo_file.specs.Rounds.{is_marked}
use Rattle.mft_file.specs.declared.row.MaskRow.{MaskRow}
use Rattle.audit_multicast.proofs.MarkLemmas.{all_marked_of, marked_next}
use Rattle.audit_multicast.proofs.masks.mark_rows.Goals as goal

pub loop-row-preserved : goal.loop-row-preserved
loop-row-preserved c =
    let index = c.loop-row.row-index in
    let rows = c.as_slice-row-items.ensures in
    let row = c.row-item.result in
    let here : row ≡ get_or c.args.table.now.rows index row = c.row-item.is ∙ ap (λ (some : List MaskRow). get_or some index row) rows in
    marked_next (λ (one : MaskRow) (mlid : ℕ). one.mlid == mlid) c.args.marks.now c.args.table.now.rows index c.loop-row.marks c.mark.new.marks row
    (subst (λ (some : List MaskRow). index < length some) rows c.loop-row-test.true) c.loop-row.invariant c.mark.ensures.long
    (λ k. c.mark.ensures.marked k ∙ ap (λ (one : MaskRow). is_marked c.loop-row.marks k || (one.mlid == k)) here)

pub returns-clause-marked : goal.returns-clause-marked
returns-clause-marked c =
    all_marked_of (λ (one : MaskRow) (mlid : ℕ). one.mlid == mlid) c.args.marks.now c.args.table.now.rows c.loop-row.row-index c.loop-row.marks
    (subst (λ (some : List MaskRow). length some ≤ c.loop-row.row-index) c.as_slice-row-items.ensures c.loop-row-test.false) c.loop-row.invariant
