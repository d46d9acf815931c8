use Rattle.std.proofs.Common.{ℕ, List, Bool, ◌≡◌, ◌∙◌, ◌+◌, ◌++◌, ◌||◌, ap, drop, length, subst, sym, take}
use Rattle.std.proofs.Math.Seq.{take-append_seam}
use Rattle.topo_file.specs.Rounds.{is_marked}
use Rattle.mft_file.specs.declared.table.MaskTable.{MaskTable}
use Rattle.audit_multicast.specs.Masks.{has_row}
use Rattle.audit_multicast.proofs.MarkLemmas.{AreMarkedFrom, all_marked_from, marked_after, none_marked}
use Rattle.audit_multicast.proofs.masks.marks_of.Goals as goal

pub loop-table-preserved : goal.loop-table-preserved
loop-table-preserved c =
    let names = λ (table : MaskTable) (mlid : ℕ). has_row mlid table in
    let tables = c.args.tables.now in
    let index = c.loop-table.table-index in
    let items = c.loop-table.marks.items in
    let new = c.mark_rows.new.marks in
    let rest = drop (length new) items in
    let same : c.loop-table.marks.len ≡ length new = sym c.deref_mut.ensures.len ∙ sym c.mark_rows.ensures.long in
    let is : take c.loop-table.marks.len (new ++ rest) ≡ new = ap (λ (n : ℕ). take n (new ++ rest)) same ∙ take-append_seam new rest in
    let was = c.deref_mut.ensures.value in
    subst (AreMarkedFrom names 65536 tables (index + 1)) (sym is)
    (marked_after names 65536 tables index items new c.table-item.result c.loop-table-test.true c.loop-table.invariant
    (c.mark_rows.ensures.long ∙ ap (λ (marks : List Bool). length marks) was)
    (λ k. c.mark_rows.ensures.marked k ∙ ap (λ (marks : List Bool). is_marked marks k || has_row k c.table-item.result) was
    ∙ ap (λ (table : MaskTable). is_marked items k || has_row k table) c.table-item.is))

pub returns : goal.returns
returns c =
    all_marked_from (λ (table : MaskTable) (mlid : ℕ). has_row mlid table) 65536 c.args.tables.now c.loop-table.table-index c.loop-table.marks.items c.loop-table-test.false c.loop-table.invariant

pub loop-table-init : goal.loop-table-init
loop-table-init c = none_marked (λ (table : MaskTable) (mlid : ℕ). has_row mlid table) 65536 c.args.tables.now c.in_ok-marks.marks.items c.in_ok-marks.ensures.long c.in_ok-marks.ensures.none
