use Rattle.std.proofs.Common.{◌∙◌, sym}
use Rattle.fabric_graph.proofs.ThickLemmas.{thick_if_joined, thin_if_apart}
use Rattle.fabric_graph.specs.Rows.{picture_of}
use Rattle.fabric_graph.proofs.rows.thickness.Goals as goal

pub returns-then-branch : goal.returns-then-branch
returns-then-branch c =
    let picture = picture_of c.args.edges.topology.now c.args.edges.ranks.now c.args.edges.fabric.now c.args.edges.looks.now in
    c.count_of.ensures ∙ sym (thick_if_joined picture c.args.rank (sym c.in_ok-joins_rows.ensures ∙ c.if-branch.true))

pub returns-else-branch : goal.returns-else-branch
returns-else-branch c =
    let picture = picture_of c.args.edges.topology.now c.args.edges.ranks.now c.args.edges.fabric.now c.args.edges.looks.now in
    sym (thin_if_apart picture c.args.rank (sym c.in_ok-joins_rows.ensures ∙ c.if-branch.false))
