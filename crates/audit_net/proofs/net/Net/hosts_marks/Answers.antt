use Rattle.std.proofs.Common.{List, ℕ, ◌∙◌, ◌<◌, ◌≤◌, ap, length, subst}
use Rattle.std.specs.List.{slice_index_or}
use Rattle.topo_file.specs.Node.{is_switch_at}
use Rattle.audit_net.proofs.HostLemmas.{all_followed, each_switch}
use Rattle.audit_net.proofs.net.Net.hosts_marks.Goals as goal

pub mark_way-requires-clause-switch : goal.mark_way-requires-clause-switch
mark_way-requires-clause-switch c =
    let same = c.switches-from-items.ensures in
    let nodes = c.args.self.now.plan.nodes in
    let within = subst (λ (places : List ℕ). c.loop-from.from-index < length places) same c.loop-from-test.true in
    ap (λ (places : List ℕ). is_switch_at nodes (slice_index_or places c.loop-from.from-index 0)) same ∙ each_switch nodes c.loop-from.from-index within

pub returns : goal.returns
returns c =
    let most = subst (λ (places : List ℕ). length places ≤ c.loop-from.from-index) c.switches-from-items.ensures c.loop-from-test.false in
    all_followed c.args.self.now c.args.lid c.loop-from.from-index c.loop-from.marks.items most c.loop-from.invariant
