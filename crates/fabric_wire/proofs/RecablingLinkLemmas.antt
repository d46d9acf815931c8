-- Links show which cables were cut and mended.
use Rattle.std.proofs.Common.{ℕ, ◌≡◌, ◌≢◌, inl, inr, ◌==◌, ◌&&◌, ◌||◌, not, ◌∙◌, ap, cond, refl, sym, subst, Bool, true, false, if◌then◌else◌, List, [], ◌∷◌, ◌++◌, filter, find, flat_map, is_some, slice_get, slice_set, Option, Some, None, option_map}
use Rattle.std.specs.List.{IsDistinct, list_any}
use Rattle.std.specs.Option.{option_and_then, option_map_or}
use Rattle.std.proofs.lemmas.Bool.{and_parts, eq-eqb, eqb-true, false≢true, or_cases}
use Rattle.std.proofs.lemmas.Grind.{flat_map-append}
use Rattle.std.proofs.lemmas.List.{append_assoc}
use Rattle.std.proofs.lemmas.Option.{same_Some}
use Rattle.agent_rules.specs.PortSetting.{is_down}
use Rattle.attr_tables.specs.declared.port_info.PortInfo.{PortInfo}
use Rattle.fabric_parts.specs.Cable.{ends_at, far_end, is_cabled, is_same_port, other_end}
use Rattle.fabric_parts.specs.declared.cable.Cable.{Cable}
use Rattle.fabric_parts.specs.declared.cable.PortRef.{PortRef}
use Rattle.step_results.proofs.DistinctLemmas.{left_part, right_part}
use Rattle.step_results.proofs.ElementLemmas.{get_other, get_written}
use Rattle.smp_wire.specs.FabricState.{FabricState, is_port, is_switch, is_switch_at}
use Rattle.smp_wire.specs.Good.{IsGood, ShowsLinks, ends_of, info_at, port_info_at}
use Rattle.smp_wire.specs.declared.node.Node.{Node}
use Rattle.smp_wire.specs.declared.node.Node.TheVariants.{Switch, Adapter}
use Rattle.smp_wire.proofs.CableLemmas.{same_port}
use Rattle.switch_model.specs.Links.{linked, port_linked, ports_linked, with_link}
use Rattle.switch_model.specs.SwitchState.{SwitchState}
use Rattle.switch_model.specs.declared.switch_port.SwitchPort.{SwitchPort}
use Rattle.fabric_wire.proofs.CutLemmas.{Free, apart, between_one, free_first, put_behind, taken_out}
use Rattle.fabric_wire.proofs.KeptPortLemmas.{alike_finds}
use Rattle.fabric_wire.proofs.RecablingLemmas.{asked, linked_alike, nodes_alike, port_same, stays_good, switch_same}
use Rattle.fabric_wire.specs.AdapterPorts.{IsKept}
use Rattle.fabric_wire.specs.Cabling.{CablingState, cable_cut, cable_mended, fabric_over, is_between, is_not_between}
use Rattle.fabric_wire.specs.Laws.{CablesKeepLinks}
use Rattle.fabric_wire.specs.Recabling.{cabling_of, cabling_with, can_change, changed, node_linked, nodes_linked}

-- ---- which ports have cables then
cabled_far : (cables : List Cable) (at : PortRef) → is_some (far_end cables at) ≡ is_cabled cables at
cabled_far [] at = refl
cabled_far (cable ∷ cables) at = by (ends_at at cable) (cabled_far cables at)
  where
    by : (here : Bool) → is_some (far_end cables at) ≡ is_cabled cables at
        → is_some (option_map (other_end at) (if here then Some cable else find (λ one. ends_at at one) cables)) ≡ (here || is_cabled cables at)
    by true rest = refl
    by false rest = rest

some_gone : (second first : Bool) (far : Option PortRef) → is_some (cond second None (cond first None far)) ≡ cond second false (cond first false (is_some far))
some_gone true first far = refl
some_gone false true far = refl
some_gone false false far = refl

some_come : (second first : Bool) (one two : PortRef) (far : Option PortRef)
    → is_some (cond second (Some one) (cond first (Some two) far)) ≡ cond second true (cond first true (is_some far))
some_come true first one two far = refl
some_come false true one two far = refl
some_come false false one two far = refl

-- the ends of a cable between two ports are these
at_ends : (a b at : PortRef) (cable : Cable) (up old : Bool) → is_between a b cable ≡ true
    → cond (is_same_port cable.second at) up (cond (is_same_port cable.first at) up old) ≡ (if is_same_port a at || is_same_port b at then up else old)
at_ends a b at cable up old between = elim (or_cases (is_same_port cable.first a && is_same_port cable.second b) _ between) [
  | inl this ↦
      let parts = and_parts (is_same_port cable.first a) _ this in
      named cable.first cable.second a b (same_port cable.first a parts.0) (same_port cable.second b parts.1) (either (is_same_port b at) (is_same_port a at))
  | inr other ↦
      let parts = and_parts (is_same_port cable.first b) _ other in
      named cable.first cable.second b a (same_port cable.first b parts.0) (same_port cable.second a parts.1) (other_way (is_same_port a at) (is_same_port b at))
]
  where
    either : (second first : Bool) → cond second up (cond first up old) ≡ (if first || second then up else old)
    either true true = refl
    either true false = refl
    either false true = refl
    either false false = refl

    other_way : (second first : Bool) → cond second up (cond first up old) ≡ (if second || first then up else old)
    other_way true first = refl
    other_way false true = refl
    other_way false false = refl

    named : (first second one two : PortRef) → first ≡ one → second ≡ two
        → cond (is_same_port two at) up (cond (is_same_port one at) up old) ≡ (if is_same_port a at || is_same_port b at then up else old)
        → cond (is_same_port second at) up (cond (is_same_port first at) up old) ≡ (if is_same_port a at || is_same_port b at then up else old)
    named first second one two is_one is_two so = rw (is_one, is_two) so

-- the first cable that passes a test, and those before and behind it
pub record Split (test : Cable → Bool) (cables : List Cable) : Type 0 where
  pub before : List Cable
  pub cable : Cable
  pub behind : List Cable
  pub is : cables ≡ before ++ cable ∷ behind
  pub passes : test cable ≡ true

pub split : (test : Cable → Bool) (cables : List Cable) → list_any test cables ≡ true → Split test cables
split test [] some = absurd (false≢true some)
split test (cable ∷ cables) some = elim (or_cases (test cable) _ some) [
  | inl here ↦ record { before = []; cable = cable; behind = cables; is = refl; passes = here }
  | inr later ↦
      let rest = split test cables later in
      record { before = cable ∷ rest.before; cable = rest.cable; behind = rest.behind; is = ap (λ (some : List Cable). cable ∷ some) rest.is; passes = rest.passes }
]

cut_cabled : (a b at : PortRef) (old : CablingState) → IsDistinct is_same_port (flat_map ends_of (old.cables ++ old.cut)) → list_any (is_between a b) old.cables ≡ true
    → is_cabled (cable_cut a b old).cables at ≡ (if is_same_port a at || is_same_port b at then false else is_cabled old.cables at)
cut_cabled a b at old own some =
    let parts = split (is_between a b) old.cables some in
    let first : IsDistinct is_same_port (flat_map ends_of old.cables) =
    left_part is_same_port (flat_map ends_of old.cables) (flat_map ends_of old.cut) (subst (IsDistinct is_same_port) (flat_map-append ends_of old.cables old.cut) own) in
    let own_first : IsDistinct is_same_port (flat_map ends_of (parts.before ++ parts.cable ∷ parts.behind)) =
    subst (λ (some : List Cable). IsDistinct is_same_port (flat_map ends_of some)) parts.is first in
    let one = between_one a b parts.before parts.behind parts.cable parts.passes own_first in
    let left : (cable_cut a b old).cables ≡ parts.before ++ parts.behind = ap (filter (is_not_between a b)) parts.is ∙ one.1 in
    ap (λ (some : List Cable). is_cabled some at) left
    ∙ sym (cabled_far (parts.before ++ parts.behind) at)
    ∙ ap is_some (taken_out parts.before parts.behind parts.cable at own_first)
    ∙ some_gone (is_same_port parts.cable.second at) (is_same_port parts.cable.first at) (far_end (parts.before ++ parts.cable ∷ parts.behind) at)
    ∙ at_ends a b at parts.cable false (is_some (far_end (parts.before ++ parts.cable ∷ parts.behind) at)) parts.passes
    ∙ ap (λ (cabled : Bool). if is_same_port a at || is_same_port b at then false else cabled)
    (ap (λ (some : List Cable). is_some (far_end some at)) (sym parts.is) ∙ cabled_far old.cables at)

mend_cabled : (a b at : PortRef) (old : CablingState) → IsDistinct is_same_port (flat_map ends_of (old.cables ++ old.cut)) → list_any (is_between a b) old.cut ≡ true
    → is_cabled (cable_mended a b old).cables at ≡ (if is_same_port a at || is_same_port b at then true else is_cabled old.cables at)
mend_cabled a b at old own some =
    let parts = split (is_between a b) old.cut some in
    let whole : IsDistinct is_same_port (flat_map ends_of ((old.cables ++ parts.before) ++ parts.cable ∷ parts.behind)) =
    subst (λ (some : List Cable). IsDistinct is_same_port (flat_map ends_of some))
    (ap (λ (cut : List Cable). old.cables ++ cut) parts.is ∙ sym (append_assoc old.cables parts.before (parts.cable ∷ parts.behind))) own in
    let free = apart (old.cables ++ parts.before) parts.behind parts.cable whole in
    let alone : (end : PortRef) → Free end ((old.cables ++ parts.before) ++ parts.behind) → Free end old.cables =
    λ end none. free_first end old.cables parts.before (free_first end (old.cables ++ parts.before) parts.behind none) in
    let own_cut : IsDistinct is_same_port (flat_map ends_of (parts.before ++ parts.cable ∷ parts.behind)) =
    subst (λ (some : List Cable). IsDistinct is_same_port (flat_map ends_of some)) parts.is
    (right_part is_same_port (flat_map ends_of old.cables) (flat_map ends_of old.cut) (subst (IsDistinct is_same_port) (flat_map-append ends_of old.cables old.cut) own)) in
    let one = between_one a b parts.before parts.behind parts.cable parts.passes own_cut in
    let more : (cable_mended a b old).cables ≡ old.cables ++ parts.cable ∷ [] =
    ap (λ (some : List Cable). old.cables ++ some) (ap (filter (is_between a b)) parts.is ∙ one.0) in
    ap (λ (some : List Cable). is_cabled some at) more
    ∙ sym (cabled_far (old.cables ++ parts.cable ∷ []) at)
    ∙ ap is_some (put_behind old.cables parts.cable at (alone parts.cable.first free.first) (alone parts.cable.second free.second))
    ∙ some_come (is_same_port parts.cable.second at) (is_same_port parts.cable.first at) parts.cable.first parts.cable.second (far_end old.cables at)
    ∙ at_ends a b at parts.cable true (is_some (far_end old.cables at)) parts.passes
    ∙ ap (λ (cabled : Bool). if is_same_port a at || is_same_port b at then true else cabled) (cabled_far old.cables at)

cabled_after : (a b at : PortRef) (up : Bool) (old : CablingState) → IsDistinct is_same_port (flat_map ends_of (old.cables ++ old.cut))
    → list_any (is_between a b) (if up then old.cut else old.cables) ≡ true
    → is_cabled (cabling_with up a b old).cables at ≡ (if is_same_port a at || is_same_port b at then up else is_cabled old.cables at)
cabled_after a b at true old own some = mend_cabled a b at old own some
cabled_after a b at false old own some = cut_cabled a b at old own some

-- ---- which ports are Down then
abbrev downs : List Node → PortRef → Option Bool
downs nodes at = option_and_then (λ node. option_map (λ info. is_down info) (port_info_at node at.port)) (slice_get nodes at.node)

downs_reported : (fabric : FabricState) (at : PortRef) → option_map (λ info. is_down info) (info_at fabric at) ≡ downs fabric.nodes at
downs_reported fabric at = by (slice_get fabric.nodes at.node)
  where
    by : (found : Option Node) → option_map (λ info. is_down info) (option_and_then (λ node. port_info_at node at.port) found)
        ≡ option_and_then (λ node. option_map (λ info. is_down info) (port_info_at node at.port)) found
    by None = refl
    by (Some node) = refl

abbrev port_down : List SwitchPort → ℕ → Option Bool
port_down ports number = option_map (λ info. is_down info) (option_map (λ port. port.info) (slice_get ports number))

linked_down : (up : Bool) (info : PortInfo) → is_down (linked up info) ≡ not up
linked_down true info = refl
linked_down false info = refl

port_after : (number other : ℕ) (up same : Bool) (ports : List SwitchPort) → (number == other) ≡ same
    → port_down (ports_linked number up ports) other ≡ (if same then option_map (λ down. not up) (port_down ports other) else port_down ports other)
port_after number other up same ports test = by (slice_get ports number) refl same test
  where
    by : (found : Option SwitchPort) → slice_get ports number ≡ found → (here : Bool) → (number == other) ≡ here
        → port_down (ports_linked number up ports) other ≡ (if here then option_map (λ down. not up) (port_down ports other) else port_down ports other)
    by None is true test =
        let at : slice_get ports other ≡ None = ap (slice_get ports) (sym (eqb-true number other test)) ∙ is in rw (is, at) refl
    by None is false test = rw is refl
    by (Some port) is true test =
        let same : number ≡ other = eqb-true number other test in
        let there : slice_get ports other ≡ Some port = ap (slice_get ports) (sym same) ∙ is in
        let then_there : slice_get (slice_set ports number (port_linked up port)) other ≡ Some (port_linked up port) =
        ap (slice_get (slice_set ports number (port_linked up port))) (sym same) ∙ get_written ports number (port_linked up port) port is in
        rw (is, there, then_there) (ap (λ (down : Bool). Some down) (linked_down up port.info))
    by (Some port) is false test =
        let apart : other ≢ number = λ same. false≢true (sym test ∙ eq-eqb number other (sym same)) in
        let then_there = get_other ports number other (port_linked up port) apart in
        rw (is, then_there) refl

down_after : (x at : PortRef) (up : Bool) (nodes : List Node) → is_switch_at nodes x.node ≡ true
    → downs (nodes_linked up x nodes) at ≡ (if is_same_port x at then option_map (λ down. not up) (downs nodes at) else downs nodes at)
down_after x at up nodes switch = by (slice_get nodes x.node) refl
  where
    nobody : (found : Option Node) → slice_get nodes x.node ≡ found → option_map_or is_switch found false ≡ true
    nobody found is = ap (λ (o : Option Node). option_map_or is_switch o false) (sym is) ∙ switch

    at_node : (held : SwitchState) → slice_get nodes x.node ≡ Some (Switch held) → (same : Bool) → (x.node == at.node) ≡ same
        → downs (slice_set nodes x.node (Switch (with_link x.port up held))) at
        ≡ (if same && (x.port == at.port) then option_map (λ down. not up) (downs nodes at) else downs nodes at)
    at_node held is true test =
        let same : x.node ≡ at.node = eqb-true x.node at.node test in
        let there : slice_get nodes at.node ≡ Some (Switch held) = ap (slice_get nodes) (sym same) ∙ is in
        let next = Switch (with_link x.port up held) in
        let then_there : slice_get (slice_set nodes x.node next) at.node ≡ Some next =
        ap (slice_get (slice_set nodes x.node next)) (sym same) ∙ get_written nodes x.node next (Switch held) is in
        rw (there, then_there) (port_after x.port at.port up (x.port == at.port) held.ports refl)
    at_node held is false test =
        let apart : at.node ≢ x.node = λ same. false≢true (sym test ∙ eq-eqb x.node at.node (sym same)) in
        ap (option_and_then (λ node. option_map (λ info. is_down info) (port_info_at node at.port))) (get_other nodes x.node at.node (Switch (with_link x.port up held)) apart)

    by : (found : Option Node) → slice_get nodes x.node ≡ found
        → downs (nodes_linked up x nodes) at ≡ (if is_same_port x at then option_map (λ down. not up) (downs nodes at) else downs nodes at)
    by None is = absurd (false≢true (nobody None is))
    by (Some (Adapter ports)) is = absurd (false≢true (nobody (Some (Adapter ports)) is))
    by (Some (Switch held)) is =
        ap (λ (found : Option Node). downs (option_map_or (λ node. slice_set nodes x.node (node_linked x.port up node)) found nodes) at) is
        ∙ at_node held is (x.node == at.node) refl

both_after : (a b at : PortRef) (up : Bool) (nodes : List Node) → is_switch_at nodes a.node ≡ true → is_switch_at nodes b.node ≡ true
    → downs (nodes_linked up a (nodes_linked up b nodes)) at
    ≡ (if is_same_port a at || is_same_port b at then option_map (λ down. not up) (downs nodes at) else downs nodes at)
both_after a b at up nodes first second =
    let middle = nodes_linked up b nodes in
    let still : is_switch_at middle a.node ≡ true = switch_same nodes middle (linked_alike up b nodes) a.node ∙ first in
    down_after a at up middle still
    ∙ ap (λ (one : Option Bool). if is_same_port a at then option_map (λ down. not up) one else one) (down_after b at up nodes second)
    ∙ twice (is_same_port a at) (is_same_port b at) (downs nodes at)
  where
    twice : (one two : Bool) (down : Option Bool)
        → (if one then option_map (λ some. not up) (if two then option_map (λ some. not up) down else down)
        else (if two then option_map (λ some. not up) down else down))
        ≡ (if one || two then option_map (λ some. not up) down else down)
    twice true true None = refl
    twice true true (Some some) = refl
    twice true false down = refl
    twice false true down = refl
    twice false false down = refl

-- ---- so links show
reported_down : (up here cabled : Bool) (info : PortInfo) (old : Option PortInfo)
    → Some (is_down info) ≡ (if here then option_map (λ down. not up) (option_map (λ one. is_down one) old) else option_map (λ one. is_down one) old)
    → ((one : PortInfo) → old ≡ Some one → is_down one ≡ not cabled) → is_down info ≡ not (if here then up else cabled)
reported_down up true cabled info None same each = cc
reported_down up true cabled info (Some one) same each = same_Some _ _ same
reported_down up false cabled info None same each = cc
reported_down up false cabled info (Some one) same each = same_Some _ _ same ∙ each one refl

changed_shows : (a b : PortRef) (up : Bool) (fabric : FabricState) → IsGood fabric → ShowsLinks fabric → can_change a b up fabric ≡ true
    → ShowsLinks (changed a b up fabric)
changed_shows a b up fabric good links can at info is_there there =
    let asks = asked a b up fabric can in
    let old = fabric.nodes in
    let new = nodes_linked up a (nodes_linked up b old) in
    let port : is_port old at ≡ true = sym (port_same old new (nodes_alike up a b old) at) ∙ is_there in
    let down : Some (is_down info) ≡ (if is_same_port a at || is_same_port b at then option_map (λ down. not up) (option_map (λ one. is_down one) (info_at fabric at))
    else option_map (λ one. is_down one) (info_at fabric at)) =
    ap (option_map (λ one. is_down one)) (sym there) ∙ downs_reported (changed a b up fabric) at ∙ both_after a b at up old asks.first asks.second
    ∙ ap (λ (one : Option Bool). if is_same_port a at || is_same_port b at then option_map (λ down. not up) one else one) (sym (downs_reported fabric at)) in
    reported_down up (is_same_port a at || is_same_port b at) (is_cabled fabric.cables at) info (info_at fabric at) down (λ one before. links at one port before)
    ∙ ap not (sym (cabled_after a b at up (cabling_of fabric) good.once asks.some))

pub cables_keep_links : CablesKeepLinks
cables_keep_links fabric a b up good links = by (can_change a b up fabric) refl
  where
    by : (can : Bool) → can_change a b up fabric ≡ can → ShowsLinks (if can then changed a b up fabric else fabric)
    by true can = changed_shows a b up fabric good links can
    by false can = links

-- ---- what is kept of a fabric, in the parts that are put together anew
pub stays_kept : (a b : PortRef) (up : Bool) (fabric : FabricState) (place_of : ℕ → Option PortRef) (nodes : List Node) (cabling : CablingState)
    → can_change a b up fabric ≡ true → nodes ≡ nodes_linked up a (nodes_linked up b fabric.nodes) → cabling ≡ cabling_with up a b (cabling_of fabric)
    → IsKept fabric place_of → IsKept (fabric_over nodes cabling fabric.manager) place_of
stays_kept a b up fabric place_of nodes cabling can nodes_are cabling_is kept =
    let same = nodes_alike up a b fabric.nodes in
    subst (λ (some : List Node). IsKept (fabric_over some cabling fabric.manager) place_of) (sym nodes_are)
    (subst (λ (one : CablingState). IsKept (fabric_over (nodes_linked up a (nodes_linked up b fabric.nodes)) one fabric.manager) place_of) (sym cabling_is)
    (record {
      good = stays_good a b up fabric kept.good can;
      links = changed_shows a b up fabric kept.good kept.links can;
      found = alike_finds fabric.nodes (nodes_linked up a (nodes_linked up b fabric.nodes)) place_of same.switches same.ends kept.found;
    }))
