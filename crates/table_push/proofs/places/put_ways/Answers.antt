use Rattle.std.proofs.Common.{◌∙◌, ◌==◌, ◌||◌, ap, sym, length, get_or}
use Rattle.std.specs.Int.{bit_at}
use Rattle.table_push.specs.TreeSteps.{leads_up}
use Rattle.table_push.proofs.TreeMaskLemmas.{down_none, ups_are, way_down}
use Rattle.table_push.proofs.places.put_ways.Goals.{then-is_parent, else-is_parent}
use Rattle.table_push.proofs.places.put_ways.Goals as goal

pub loop-child-init : goal.loop-child-init
loop-child-init c = record {
  long = c.put_way.ensures.long;
  are = λ i number low. ups_are c.args.tree.now (get_or c.args.bits.now i 0) (get_or c.put_way.new.bits i 0) (get_or c.args.switches.now i 0) c.args.place number
      (c.put_way.ensures.ways i low);
}

pub loop-child-preserved : goal.loop-child-preserved
loop-child-preserved c = elim c.if-is_parent.branch [
  | then-is_parent w ↦ record {
    long = ap length w.bits-is ∙ w.put_way-then-is_parent.ensures.long;
    are = λ i number low. way_down c.args.tree.now (get_or c.args.bits.now i 0) (get_or c.loop-child.bits i 0) (get_or c.if-is_parent.bits i 0) (get_or c.args.switches.now i 0)
        c.loop-child.child c.args.place number (sym c.is_parent.ensures ∙ w.if-is_parent.true)
        (ap (λ bits. get_or bits i 0) w.bits-is ∙ w.put_way-then-is_parent.ensures.ways i low) (c.loop-child.invariant.are i number low);
  }
  | else-is_parent w ↦ record {
    long = ap length w.bits-is ∙ c.loop-child.invariant.long;
    are = λ i number low.
        let marks = get_or c.args.switches.now i 0 in
        ap (λ bits. bit_at (get_or bits i 0) number == 1) w.bits-is ∙ c.loop-child.invariant.are i number low
        ∙ ap (λ down. ((bit_at (get_or c.args.bits.now i 0) number == 1) || leads_up c.args.tree.now marks c.args.place number) || down)
        (sym (down_none c.args.tree.now marks c.loop-child.child c.args.place number (sym c.is_parent.ensures ∙ w.if-is_parent.false)));
  }
]
