use Rattle.std.proofs.Common.{ℕ, List, [], take, get_or, subst, sym}
use Rattle.std.proofs.lemmas.List.{take_all, take_more}
use Rattle.subnet_fabric.specs.Replies.{ComeOfReplies}
use Rattle.subnet_fabric.proofs.ReplyLemmas.{one_more, replies_are_reported}
use Rattle.subnet_fabric.proofs.replying.reply.Goals as goal

pub loop-mad-preserved : goal.loop-mad-preserved
loop-mad-preserved c =
    let l = c.loop-mad in
    let mads = c.args.mads.now in
    subst (λ (some : List (List ℕ)). ComeOfReplies c.args.fabric.now c.args.request.now c.args.key some c.append.new.self.items)
    (sym (take_more mads l.mad-index [] c.loop-mad-test.true))
    (subst (ComeOfReplies c.args.fabric.now c.args.request.now c.args.key _) (sym c.in_ok-append.ensures.items)
    (one_more c.args.fabric.now c.args.request.now c.args.key (take l.mad-index mads) (get_or mads l.mad-index []) l.events.items c.in_ok-more.more.items
    l.invariant c.in_ok-more.ensures))

pub returns-clause-comes : goal.returns-clause-comes
returns-clause-comes c =
    subst (λ (some : List (List ℕ)). ComeOfReplies c.args.fabric.now c.args.request.now c.args.key some c.loop-mad.events.items)
    (take_all c.loop-mad.mad-index c.args.mads.now c.loop-mad-test.false) c.loop-mad.invariant

pub returns-clause-reported : goal.returns-clause-reported
returns-clause-reported c =
    replies_are_reported c.args.fabric.now c.args.request.now c.args.key c.args.mads.now c.loop-mad.events.items (returns-clause-comes c)
