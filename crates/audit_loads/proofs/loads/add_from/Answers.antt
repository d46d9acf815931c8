use Rattle.std.proofs.Common.{◌≡◌, ◌∙◌, ap, subst, sym, ℕ, List, arith}
use Rattle.std.proofs.lemmas.Bool.Decides.{nat_tests}
use Rattle.audit_net.specs.Following.{fate}
use Rattle.audit_loads.specs.Counts.{counts_of}
use Rattle.audit_loads.specs.Sources.{Pair}
use Rattle.audit_loads.specs.Talk.{may_talk}
use Rattle.audit_loads.specs.Walk.{on_way, GrowBy}
use Rattle.audit_loads.proofs.PairLemmas.{counts_from, none_in, none_is, walk_is}
use Rattle.audit_loads.proofs.loads.add_from.Goals as goal

pub returns-then-flow-eq0-clause-sums : goal.returns-then-flow-eq0-clause-sums
returns-then-flow-eq0-clause-sums c =
    let none : c.senders.result ≡ 0 = grind (arith, nat_tests, c.if-flow-eq0.true) in
    none_is c.args.net.now (may_talk c.args.to.talk.now) c.args.to.target.lid c.args.to.target.end c.args.one.now c.args.sums.now (sym c.senders.ensures ∙ none)

pub returns-then-flow-eq0-clause-counts : goal.returns-then-flow-eq0-clause-counts
returns-then-flow-eq0-clause-counts c =
    let none : c.senders.result ≡ 0 = grind (arith, nat_tests, c.if-flow-eq0.true) in
    c.no_pairs.ensures
    ∙ ap (counts_of c.args.net.now) (none_in (may_talk c.args.to.talk.now) c.args.to.target.lid c.args.to.target.end c.args.one.now (sym c.senders.ensures ∙ none))

pub returns-clause-sums : goal.returns-clause-sums
returns-clause-sums c =
    let net = c.args.net.now in
    walk_is net (may_talk c.args.to.talk.now) c.args.to.target.lid c.args.to.target.end c.args.one.now c.senders.result c.args.sums.now c.add_way.new.sums c.senders.ensures
    (subst (λ (place : ℕ). GrowBy (on_way net c.args.to.target.lid place c.senders.result) c.args.sums.now c.add_way.new.sums) c.place.ensures c.in_ok-add_way.ensures.sums)

pub returns-clause-counts : goal.returns-clause-counts
returns-clause-counts c =
    let net = c.args.net.now in
    let found = c.fate-found.ensures ∙ ap (λ (place : ℕ). fate net c.args.to.target.lid c.args.to.target.end place) c.place.ensures in
    c.counted_by.ensures
    ∙ counts_from net (may_talk c.args.to.talk.now) c.args.to.target.lid c.args.to.target.end c.args.one.now c.senders.result c.fate-found.result c.senders.ensures found
