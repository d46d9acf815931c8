use Rattle.std.proofs.Common.{refl}
use Rattle.table_push.proofs.KeptLemmas.{pushes_keep_the_graph}
use Rattle.table_push.proofs.LeadLemmas.{no_fault}
use Rattle.table_push.proofs.pushing.push_all_counting.Goals as goal

pub returns-in-Err-clause-left : goal.returns-in-Err-clause-left
returns-in-Err-clause-left g c x stands of good shows = absurd (no_fault c.in-Err.fault _ x _ (c.in-Err.ensures.left x stands of good shows))

pub returns-in-Err-push_keys-clause-left : goal.returns-in-Err-push_keys-clause-left
returns-in-Err-push_keys-clause-left g c x stands of good shows =
    let first = c.in-Ok.ensures.left x stands of good shows in
    let ported = (pushes_keep_the_graph c.args.routes.now c.args.keys.now x c.args.routes.now.graph of).2 first.stands.shape in
    absurd (no_fault c.in-Err-push_keys.fault _ _ _ (c.in-Err-push_keys.ensures _ first.stands.is ported first.stands.good))

pub returns-in-Err-push_linear-clause-left : goal.returns-in-Err-push_linear-clause-left
returns-in-Err-push_linear-clause-left g c x stands of good shows =
    let first = c.in-Ok.ensures.left x stands of good shows in
    let graph = c.args.routes.now.graph in
    let ported = (pushes_keep_the_graph c.args.routes.now c.args.keys.now x graph of).2 first.stands.shape in
    let second = c.in-Ok-push_keys.ensures _ first.stands.is ported first.stands.good in
    let keyed = (pushes_keep_the_graph c.args.routes.now c.args.keys.now _ graph ported).1 second.stands.shape in
    absurd (no_fault c.in-Err-push_linear.fault _ _ _ (c.in-Err-push_linear.ensures _ second.stands.is keyed second.stands.good))

pub returns-in-Ok-push_linear-clause-left : goal.returns-in-Ok-push_linear-clause-left
returns-in-Ok-push_linear-clause-left g c x stands of good shows =
    let first = c.in-Ok.ensures.left x stands of good shows in
    let graph = c.args.routes.now.graph in
    let ported = (pushes_keep_the_graph c.args.routes.now c.args.keys.now x graph of).2 first.stands.shape in
    let second = c.in-Ok-push_keys.ensures _ first.stands.is ported first.stands.good in
    let keyed = (pushes_keep_the_graph c.args.routes.now c.args.keys.now _ graph ported).1 second.stands.shape in
    let third = c.in-Ok-push_linear.ensures _ second.stands.is keyed second.stands.good in
    record {
      done = refl;
      stands = third.stands.is;
      pushed = record {
        ports = record { good = first.stands.good; shape = first.stands.shape };
        key_tables = record { good = second.stands.good; shape = second.stands.shape };
        linear = record { good = third.stands.good; shape = third.stands.shape };
      };
    }

pub returns-in-Ok-push_linear-clause-all : goal.returns-in-Ok-push_linear-clause-all
returns-in-Ok-push_linear-clause-all g c x stands of good shows = c.in-Ok.ensures.all x stands of good shows
