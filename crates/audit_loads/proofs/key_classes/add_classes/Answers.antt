use Rattle.std.proofs.Common.{sym}
use Rattle.audit_loads.proofs.KeyLemmas.{classes_more}
use Rattle.audit_loads.proofs.key_classes.add_classes.Goals as goal

pub loop-index-preserved : goal.loop-index-preserved
loop-index-preserved c =
    classes_more c.loop-index.tables.items c.class_of.new.tables.items c.loop-index.classes c.set_class.new.classes c.args.ports.now c.loop-index.index c.in_ok-class.class
    c.index-ports-index.result c.index-ports-index.result c.loop-index-test.true c.loop-index.auto.index (sym c.index-ports-index.is) c.loop-index.invariant c.class_of.ensures.kept
    c.in_ok-class.ensures.class c.set_class.ensures.here c.set_class.ensures.others
