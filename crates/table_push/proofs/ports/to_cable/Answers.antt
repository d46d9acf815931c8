use Rattle.std.proofs.Common.{◌∙◌, ◌++◌, ◌∷◌, [], ap, arith, get_or, length, sym}
use Rattle.std.proofs.lemmas.Option.{same_Some}
use Rattle.sweep.specs.declared.graph.GraphSwitch.{GraphSwitch}
use Rattle.sweep.proofs.AdapterLemmas.{no_port}
use Rattle.table_push.proofs.CableLemmas.{fits, home}
use Rattle.table_push.proofs.LeadLemmas.{no_fault}
use Rattle.table_push.proofs.PortCableLemmas.{adapter_own, adapter_reported, before_reported, cable_reported, changes_along}
use Rattle.table_push.proofs.ports.to_cable.Goals as goal

pub offset_bounds-switches-port : goal.offset_bounds-switches-port
offset_bounds-switches-port g c =
    let h = home c.args.routes.now.graph c.graph-graph.result.now c.ports.result.now c.switches.result.now c.args.place c.known_graph.ensures c.graph-graph.ensures
    c.ports.ensures c.switches.ensures c.requires in
    fits _ _ h.within h.few

pub bounds-switches-port : goal.bounds-switches-port
bounds-switches-port g c =
    (home c.args.routes.now.graph c.graph-graph.result.now c.ports.result.now c.switches.result.now c.args.place c.known_graph.ensures c.graph-graph.ensures
    c.ports.ensures c.switches.ensures c.requires).within

pub then-path-requires : goal.then-path-requires
then-path-requires g c =
    let h = home c.args.routes.now.graph c.graph-graph.result.now c.ports.result.now c.switches.result.now c.args.place c.known_graph.ensures c.graph-graph.ensures
    c.ports.ensures c.switches.ensures c.requires in
    rw (c.index-switches-port.is, h.same _) h.attachment.near

pub returns-in-Err-clause-left : goal.returns-in-Err-clause-left
returns-in-Err-clause-left g c port at fabric there of good shows stands =
    let h = home c.args.routes.now.graph c.graph-graph.result.now c.ports.result.now c.switches.result.now c.args.place c.known_graph.ensures c.graph-graph.ensures
    c.ports.ensures c.switches.ensures c.requires in
    let path = c.as_slice.ensures.value ∙ ap (λ (one : GraphSwitch). one.path) (c.index-switches-port.is ∙ h.same _) in
    absurd (no_fault c.in-Err.fault _ fabric _
    (before_reported _ _ _ _ fabric c.args.routes.now there c.args.place _ good shows h.is of h.at h.attachment stands
    (changes_along _ _ _ _ _ _ _ _ path c.in-Err.ensures.left)))

pub returns-in-Err-set_port-clause-left : goal.returns-in-Err-set_port-clause-left
returns-in-Err-set_port-clause-left g c port at fabric there of good shows stands =
    let h = home c.args.routes.now.graph c.graph-graph.result.now c.ports.result.now c.switches.result.now c.args.place c.known_graph.ensures c.graph-graph.ensures
    c.ports.ensures c.switches.ensures c.requires in
    let one = get_or c.ports.result.now c.args.place no_port in
    let switch = c.index-switches-port.is ∙ h.same _ in
    let path = c.as_slice.ensures.value ∙ ap (λ (s : GraphSwitch). s.path) switch in
    let first = before_reported _ _ _ _ fabric c.args.routes.now there c.args.place one good shows h.is of h.at h.attachment stands
    (changes_along _ _ _ _ _ _ one.at.port _ path c.in-Ok.ensures.left) in
    let longer = c.as_slice-2.ensures.value ∙ c.then-path.ensures ∙ ap (λ (s : GraphSwitch). s.path ++ one.at.port ∷ []) switch in
    absurd (no_fault c.in-Err-set_port.fault _ fabric _
    (adapter_reported _ _ _ _ fabric c.args.routes.now _ c.args.place one _ good shows h.is of h.at h.attachment (omega (arith, c.known_distinct.ensures.few, ap length c.lids-lids.ensures))
    (adapter_own one.port_guid _ _ _ c.lid_of.ensures c.lids-lids.ensures) first.stands
    (changes_along _ _ _ _ _ _ 0 _ longer c.in-Err-set_port.ensures.left)))

pub returns-in-Ok-set_port-clause-left : goal.returns-in-Ok-set_port-clause-left
returns-in-Ok-set_port-clause-left g c port at fabric there of good shows stands =
    let h = home c.args.routes.now.graph c.graph-graph.result.now c.ports.result.now c.switches.result.now c.args.place c.known_graph.ensures c.graph-graph.ensures
    c.ports.ensures c.switches.ensures c.requires in
    let one = get_or c.ports.result.now c.args.place no_port in
    let switch = c.index-switches-port.is ∙ h.same _ in
    let path = c.as_slice.ensures.value ∙ ap (λ (s : GraphSwitch). s.path) switch in
    let first = before_reported _ _ _ _ fabric c.args.routes.now there c.args.place one good shows h.is of h.at h.attachment stands
    (changes_along _ _ _ _ _ _ one.at.port _ path c.in-Ok.ensures.left) in
    let longer = c.as_slice-2.ensures.value ∙ c.then-path.ensures ∙ ap (λ (s : GraphSwitch). s.path ++ one.at.port ∷ []) switch in
    let second = adapter_reported _ _ _ _ fabric c.args.routes.now _ c.args.place one _ good shows h.is of h.at h.attachment (omega (arith, c.known_distinct.ensures.few, ap length c.lids-lids.ensures))
    (adapter_own one.port_guid _ _ _ c.lid_of.ensures c.lids-lids.ensures) first.stands
    (changes_along _ _ _ _ _ _ 0 _ longer c.in-Ok-set_port.ensures.left) in
    record {
      done = first.done;
      stands = (cable_reported _ _ _ fabric c.args.routes.now there one port (same_Some one port (sym h.at ∙ at)) second).stands;
    }
