use Rattle.audit_routes.specs.Audit.{closing_word}
use Rattle.audit_plan.proofs.RangeLemmas.{flat_onto}
use Rattle.audit_routes.proofs.auditing.push_closing_words.Goals as goal

pub loop-index-preserved : goal.loop-index-preserved
loop-index-preserved c =
    flat_onto (closing_word c.args.net.now c.args.decides c.args.aims.now c.args.ring.now) c.args.text.now.items c.loop-index.text.items c.push_closing_word.new.text.items c.loop-index.index
    c.loop-index.invariant c.in_ok-push_closing_word.ensures
