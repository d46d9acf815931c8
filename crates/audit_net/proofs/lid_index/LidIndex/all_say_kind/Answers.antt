use Rattle.std.proofs.Common.{Bool, List, true, false, ap, subst, sym, ◌∙◌}
use Rattle.std.specs.List.{list_all}
use Rattle.topo_file.specs.Connectivity.{switches}
use Rattle.topo_file.specs.Rounds.{is_marked}
use Rattle.audit_net.specs.Kinds.{KnowsOthers}
use Rattle.audit_net.specs.Lids.{says_kind}
use Rattle.audit_net.specs.Net.{NetState}
use Rattle.audit_net.proofs.KindLemmas.{all_say}
use Rattle.audit_net.proofs.lid_index.LidIndex.all_say_kind.Goals as goal

pub returns-then-of_switch : goal.returns-then-of_switch
returns-then-of_switch c =
    let net = c.args.self.now in
    let marks = c.as_slice.result.now in
    let knows : KnowsOthers net true marks =
    subst (λ (w : NetState). KnowsOthers w true marks) c.self.view_is (subst (λ (m : List Bool). KnowsOthers c.self.inside.net.now true m) (sym c.as_slice.ensures.value) c.self.invariant.1.1.0) in
    all_say net true marks c.args.lid c.is_marked.result knows (c.is_marked.ensures ∙ ap (is_marked marks) c.from.ensures)
    ∙ ap (λ (k : Bool). list_all (says_kind net c.args.lid k) (switches net.plan.nodes)) (sym c.if-of_switch.true)

pub returns-else-of_switch : goal.returns-else-of_switch
returns-else-of_switch c =
    let net = c.args.self.now in
    let marks = c.as_slice-else-of_switch.result.now in
    let knows : KnowsOthers net false marks =
    subst (λ (w : NetState). KnowsOthers w false marks) c.self.view_is (subst (λ (m : List Bool). KnowsOthers c.self.inside.net.now false m) (sym c.as_slice-else-of_switch.ensures.value) c.self.invariant.1.1.1) in
    all_say net false marks c.args.lid c.is_marked-else-of_switch.result knows (c.is_marked-else-of_switch.ensures ∙ ap (is_marked marks) c.from-else-of_switch.ensures)
    ∙ ap (λ (k : Bool). list_all (says_kind net c.args.lid k) (switches net.plan.nodes)) (sym c.if-of_switch.false)
