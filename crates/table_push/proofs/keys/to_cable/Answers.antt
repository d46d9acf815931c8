use Rattle.std.proofs.Common.{◌∙◌, ◌++◌, ◌∷◌, [], ap, get_or, sym}
use Rattle.std.proofs.lemmas.Option.{same_Some}
use Rattle.sweep.specs.declared.graph.GraphSwitch.{GraphSwitch}
use Rattle.sweep.proofs.AdapterLemmas.{no_port}
use Rattle.table_push.proofs.CableLemmas.{at_adapter, at_switch, cable_ends, fits, home, puts_along}
use Rattle.table_push.proofs.LeadLemmas.{no_fault}
use Rattle.table_push.proofs.keys.to_cable.Goals as goal

pub offset_bounds-switches-port : goal.offset_bounds-switches-port
offset_bounds-switches-port g c =
    let h = home c.args.routes.now.graph c.graph-graph.result.now c.ports.result.now c.switches.result.now c.args.place c.known_graph.ensures c.graph-graph.ensures
    c.ports.ensures c.switches.ensures c.requires in
    fits _ _ h.within h.few

pub bounds-switches-port : goal.bounds-switches-port
bounds-switches-port g c =
    (home c.args.routes.now.graph c.graph-graph.result.now c.ports.result.now c.switches.result.now c.args.place c.known_graph.ensures c.graph-graph.ensures
    c.ports.ensures c.switches.ensures c.requires).within

pub then-path-requires : goal.then-path-requires
then-path-requires g c =
    let h = home c.args.routes.now.graph c.graph-graph.result.now c.ports.result.now c.switches.result.now c.args.place c.known_graph.ensures c.graph-graph.ensures
    c.ports.ensures c.switches.ensures c.requires in
    rw (c.index-switches-port.is, h.same _) h.attachment.near

pub returns-in-Err-clause-left : goal.returns-in-Err-clause-left
returns-in-Err-clause-left g c fabric there port of good at stands =
    let h = home c.args.routes.now.graph c.graph-graph.result.now c.ports.result.now c.switches.result.now c.args.place c.known_graph.ensures c.graph-graph.ensures
    c.ports.ensures c.switches.ensures c.requires in
    let path = c.as_slice.ensures.value ∙ ap (λ (one : GraphSwitch). one.path) (c.index-switches-port.is ∙ h.same _) in
    absurd (no_fault c.in-Err.fault _ fabric _
    (at_switch _ _ _ fabric c.args.routes.now c.args.keys.now there c.args.place _ c.table_of-full.result h.is of h.at h.attachment c.table_of-full.ensures stands
    (puts_along _ _ _ _ _ _ c.table_of-full.result path c.in-Err.ensures.left)))

pub returns-clause-left : goal.returns-clause-left
returns-clause-left g c fabric there port of good at stands =
    let h = home c.args.routes.now.graph c.graph-graph.result.now c.ports.result.now c.switches.result.now c.args.place c.known_graph.ensures c.graph-graph.ensures
    c.ports.ensures c.switches.ensures c.requires in
    let one = get_or c.ports.result.now c.args.place no_port in
    let switch = c.index-switches-port.is ∙ h.same _ in
    let path = c.as_slice.ensures.value ∙ ap (λ (s : GraphSwitch). s.path) switch in
    let first = at_switch _ _ _ fabric c.args.routes.now c.args.keys.now there c.args.place one c.table_of-full.result h.is of h.at h.attachment c.table_of-full.ensures stands
    (puts_along _ _ _ _ _ one.at.port c.table_of-full.result path c.in-Ok.ensures.left) in
    let longer = c.as_slice-2.ensures.value ∙ c.then-path.ensures ∙ ap (λ (s : GraphSwitch). s.path ++ one.at.port ∷ []) switch in
    let second = at_adapter _ _ _ fabric c.args.routes.now c.args.keys.now _ c.args.place one c.table_of-own.result good h.is of h.at h.attachment c.table_of-own.ensures first.stands
    (puts_along _ _ _ _ _ 0 c.table_of-own.result longer c.set_some-2.ensures.left) in
    cable_ends _ _ fabric c.args.routes.now c.args.keys.now there one port (same_Some one port (sym h.at ∙ at)) second
