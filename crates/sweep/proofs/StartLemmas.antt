-- The first two steps of a sweep over a good fabric: the SM port, and the switch at its cable.
use Rattle.std.proofs.Common.{ℕ, ◌≡◌, ◌∙◌, ap, refl, sym, ◌==◌, ◌||◌, not, Bool, true, false, if◌then◌else◌, List, [], ◌∷◌, ◌++◌, length, slice_get}
use Rattle.std.proofs.Common.{Option, Some, None, option_map, Result, Ok, Err}
use Rattle.std.specs.Option.{ok_or, option_and_then, option_map_or}
use Rattle.std.proofs.lemmas.Bool.{and_parts}
use Rattle.std.proofs.lemmas.Bool.Decides.{Decides-eqb}
use Rattle.std.proofs.lemmas.Option.{same_Some}
use Rattle.fabric_parts.specs.Cable.{ends_at, far_end, is_same_port, last_of, other_end}
use Rattle.fabric_parts.specs.NodeType.{is_switch_type}
use Rattle.fabric_parts.specs.declared.cable.Cable.{Cable}
use Rattle.fabric_parts.specs.declared.cable.PortRef.{PortRef}
use Rattle.fabric_parts.specs.declared.node_type.NodeType.TheVariants as node_type
use Rattle.port_model.specs.AdapterState.{AdapterState}
use Rattle.smp_wire.specs.declared.node.Node.{Node}
use Rattle.smp_wire.specs.declared.node.Node.TheVariants.{Switch, Adapter}
use Rattle.smp_wire.specs.FabricState.{FabricState, adapter_port, is_port, is_switch, is_switch_at}
use Rattle.smp_wire.specs.Good.{IsGood, is_right, node_guid}
use Rattle.smp_wire.specs.Walk.{end_of, walk}
use Rattle.step_results.proofs.ElementLemmas.{find_all}
use Rattle.smp_wire.proofs.PathLemmas.{paths_begin}
use Rattle.sweep.specs.OfFabric.{switch_of}
use Rattle.sweep.specs.Seen.{name_at, name_in, seen_at, seen_in}
use Rattle.sweep.specs.Start.{IsStartOf}
use Rattle.sweep.specs.declared.fault.SweepFault.{SweepFault}
use Rattle.sweep.specs.declared.fault.SweepFault.TheVariants.{NoReply}
use Rattle.sweep.specs.declared.graph.GraphSwitch.{GraphSwitch}
use Rattle.sweep.specs.declared.seen.Seen.{Seen}
use Rattle.sweep.proofs.CabledLemmas.{any_found}
use Rattle.sweep.proofs.EndLemmas.{end_port}
use Rattle.sweep.proofs.ShownLemmas.{gives_info}
use Rattle.smp_wire.proofs.PresentLemmas.{present_right}

-- a switch as it was seen
abbrev pub switch_shown : Seen → List ℕ → List ℕ → GraphSwitch
switch_shown seen name path = record { guid = seen.node_guid; num_ports = seen.num_ports; name = name; path = path }

-- ---- what is seen reports the kind of its node and the number of its port
adapter_by : (guid count number : ℕ) (found : Option AdapterState) (seen : Seen)
    → option_map (λ (one : AdapterState).
    record { node_type = node_type.ChannelAdapter; num_ports = count; node_guid = guid; port_guid = one.port_guid; local_port_num = number }) found ≡ Some seen
    → (is_switch_type seen.node_type ≡ false) × (seen.local_port_num ≡ number)
adapter_by guid count number None seen is = absurd (cc)
adapter_by guid count number (Some one) seen is = rw (sym (same_Some _ _ is)) (refl, refl)

kind_in : (node : Node) (number : ℕ) (seen : Seen) → seen_in node number ≡ Some seen
    → (is_switch_type seen.node_type ≡ is_switch node) × (seen.local_port_num ≡ number)
kind_in (Switch held) number seen is = rw (sym (same_Some _ _ is)) (refl, refl)
kind_in (Adapter ports) number seen is = adapter_by (node_guid (Adapter ports)) (length ports) number (adapter_port ports number) seen is

kind_by : (number : ℕ) (found : Option Node) (seen : Seen) → option_and_then (λ node. seen_in node number) found ≡ Some seen
    → (is_switch_type seen.node_type ≡ option_map_or is_switch found false) × (seen.local_port_num ≡ number)
kind_by number None seen is = absurd (cc)
kind_by number (Some node) seen is = kind_in node number seen is

pub kind_at : (fabric : FabricState) (at : PortRef) (seen : Seen) → seen_at fabric at ≡ Some seen
    → (is_switch_type seen.node_type ≡ is_switch_at fabric.nodes at.node) × (seen.local_port_num ≡ at.port)
kind_at fabric at seen is = kind_by at.port (slice_get fabric.nodes at.node) seen is

-- a switch that is seen and named is that of the fabric
switch_by : (fabric : FabricState) (at : PortRef) (found : Option Node) (seen : Seen) (name path : List ℕ)
    → slice_get fabric.nodes at.node ≡ found → option_map_or is_switch found false ≡ true
    → option_and_then (λ node. seen_in node at.port) found ≡ Some seen → option_and_then (λ node. name_in node at.port) found ≡ Some name
    → switch_shown seen name path ≡ switch_of fabric (record { node = at.node; path = path })
switch_by fabric at None seen name path there switch is named = absurd (cc)
switch_by fabric at (Some (Adapter ports)) seen name path there switch is named = absurd (cc)
switch_by fabric at (Some (Switch held)) seen name path there switch is named =
    rw (there, sym (same_Some _ _ is), sym (same_Some _ _ named)) refl

pub switch_at : (fabric : FabricState) (at : PortRef) (seen : Seen) (name path : List ℕ) → is_switch_at fabric.nodes at.node ≡ true
    → seen_at fabric at ≡ Some seen → name_at fabric at ≡ Some name
    → switch_shown seen name path ≡ switch_of fabric (record { node = at.node; path = path })
switch_at fabric at seen name path switch is named = switch_by fabric at (slice_get fabric.nodes at.node) seen name path refl switch is named

-- ---- the cable of the SM port
second_is : (x : Bool) → false || x ≡ true → x ≡ true
second_is x h = h

first_is : (x : Bool) → x || false ≡ true → x ≡ true
first_is true h = refl
first_is false h = h

same_node : (a b : PortRef) → is_same_port a b ≡ true → a.node ≡ b.node
same_node a b h = (Decides-eqb a.node b.node).0 (and_parts (a.node == b.node) (a.port == b.port) h).0

other_by : (nodes : List Node) (cable : Cable) (here : PortRef) (b : Bool) → is_same_port cable.first here ≡ b
    → b || is_same_port cable.second here ≡ true → is_switch_at nodes here.node ≡ false
    → is_switch_at nodes cable.first.node || is_switch_at nodes cable.second.node ≡ true
    → is_switch_at nodes (if b then cable.second else cable.first).node ≡ true
other_by nodes cable here true first ends adapter one =
    let not_first : is_switch_at nodes cable.first.node ≡ false = ap (is_switch_at nodes) (same_node cable.first here first) ∙ adapter in
    second_is (is_switch_at nodes cable.second.node) (ap (λ (b : Bool). b || is_switch_at nodes cable.second.node) (sym not_first) ∙ one)
other_by nodes cable here false first ends adapter one =
    let not_second : is_switch_at nodes cable.second.node ≡ false = ap (is_switch_at nodes) (same_node cable.second here ends) ∙ adapter in
    first_is (is_switch_at nodes cable.first.node) (ap (λ (b : Bool). is_switch_at nodes cable.first.node || b) (sym not_second) ∙ one)

-- where the first hop leads
pub record Begins (fabric : FabricState) : Type 0 where
  pub there : PortRef
  pub cable : far_end fabric.cables fabric.manager ≡ Some there
  pub switch : is_switch_at fabric.nodes there.node ≡ true
  pub ends : end_of fabric (fabric.manager.port ∷ []) ≡ Some there

first_hop : (fabric : FabricState) (found : Option PortRef)
    → option_map (last_of fabric.manager) (option_and_then (λ there. option_map (λ ends. there ∷ ends) (walk fabric.nodes fabric.cables false there [])) found) ≡ found
first_hop fabric None = refl
first_hop fabric (Some there) = refl

pub begins : (fabric : FabricState) → IsGood fabric → Begins fabric
begins fabric good =
    let found = any_found (λ cable. ends_at fabric.manager cable) fabric.cables good.manager_cabled in
    let cable = found.0 in
    let right = find_all (is_right fabric.nodes) (λ one. ends_at fabric.manager one) fabric.cables cable (present_right good) found.1 in
    let one = and_parts (is_port fabric.nodes cable.first) _ right in
    let two = and_parts (is_port fabric.nodes cable.second) _ one.1 in
    let three = and_parts (not (cable.first.node == cable.second.node)) _ two.1 in
    let far : far_end fabric.cables fabric.manager ≡ Some (other_end fabric.manager cable) = ap (option_map (other_end fabric.manager)) found.1 in
    record {
      there = other_end fabric.manager cable;
      cable = far;
      switch = other_by fabric.nodes cable fabric.manager (is_same_port cable.first fabric.manager) refl found.2 good.manager_adapter three.1;
      ends = ap (option_map (last_of fabric.manager)) (paths_begin fabric [] good.manager_port) ∙ first_hop fabric (far_end fabric.cables fabric.manager) ∙ far;
    }

-- ---- what was reported along a path that ends
abbrev pub sight : Seen → Result Seen SweepFault
sight seen = Ok seen

abbrev pub no_sight : SweepFault → Result Seen SweepFault
no_sight fault = Err fault

abbrev pub naming : List ℕ → Result (List ℕ) SweepFault
naming name = Ok name

seen_if : (o : Option Seen) (seen : Seen) → sight seen ≡ ok_or o NoReply → o ≡ Some seen
seen_if None seen is = absurd (cc)
seen_if (Some one) seen is = cc

named_if : (o : Option (List ℕ)) (name : List ℕ) → naming name ≡ ok_or o NoReply → o ≡ Some name
named_if None name is = absurd (cc)
named_if (Some one) name is = cc

abbrev pub SeenAlong : FabricState → List ℕ → Result Seen SweepFault → Type 0
SeenAlong fabric path reported = reported ≡ ok_or (option_and_then (seen_at fabric) (end_of fabric path)) NoReply

abbrev pub NamedAlong : FabricState → List ℕ → Result (List ℕ) SweepFault → Type 0
NamedAlong fabric path reported = reported ≡ ok_or (option_and_then (name_at fabric) (end_of fabric path)) NoReply

pub seen_ok : (fabric : FabricState) (path : List ℕ) (at : PortRef) (seen : Seen) → end_of fabric path ≡ Some at
    → SeenAlong fabric path (sight seen) → seen_at fabric at ≡ Some seen
seen_ok fabric path at seen ends reported =
    seen_if (seen_at fabric at) seen (reported ∙ ap (λ (o : Option PortRef). ok_or (option_and_then (seen_at fabric) o) NoReply) ends)

pub named_ok : (fabric : FabricState) (path : List ℕ) (at : PortRef) (name : List ℕ) → end_of fabric path ≡ Some at
    → NamedAlong fabric path (naming name) → name_at fabric at ≡ Some name
named_ok fabric path at name ends reported =
    named_if (name_at fabric at) name (reported ∙ ap (λ (o : Option PortRef). ok_or (option_and_then (name_at fabric) o) NoReply) ends)

pub seen_err : (fabric : FabricState) (path : List ℕ) (at : PortRef) (fault : SweepFault) → IsGood fabric → is_port fabric.nodes at ≡ true
    → end_of fabric path ≡ Some at → SeenAlong fabric path (no_sight fault) → ⊥
seen_err fabric path at fault good is_there ends reported =
    let shown = (gives_info fabric at good is_there).is in
    let so = reported ∙ ap (λ (o : Option PortRef). ok_or (option_and_then (seen_at fabric) o) NoReply) ends ∙ ap (λ (o : Option Seen). ok_or o NoReply) shown in
    absurd (cc)

-- ---- what the sweep begins with
-- the first look, along no hop
at_manager : (fabric : FabricState) (none : List ℕ) → none ≡ [] → end_of fabric none ≡ Some fabric.manager
at_manager fabric none empty = ap (end_of fabric) empty

-- the path of the first hop, and where it ends
path_is : (fabric : FabricState) (none path : List ℕ) (here : Seen) → none ≡ [] → path ≡ none ++ here.local_port_num ∷ []
    → SeenAlong fabric none (sight here) → path ≡ fabric.manager.port ∷ []
path_is fabric none path here empty is reported =
    let seen = seen_ok fabric none fabric.manager here (at_manager fabric none empty) reported in
    is ∙ ap (λ (first : List ℕ). first ++ here.local_port_num ∷ []) empty ∙ ap (λ (n : ℕ). n ∷ []) (kind_at fabric fabric.manager here seen).1

pub no_second : (fabric : FabricState) (none path : List ℕ) (here : Seen) (fault : SweepFault) → IsGood fabric → none ≡ []
    → path ≡ none ++ here.local_port_num ∷ [] → SeenAlong fabric none (sight here) → SeenAlong fabric path (no_sight fault) → ⊥
no_second fabric none path here fault good empty is first reported =
    let b = begins fabric good in
    let ends = ap (end_of fabric) (path_is fabric none path here empty is first) ∙ b.ends in
    seen_err fabric path b.there fault good (end_port fabric path b.there good ends) ends reported

pub second_switch : (fabric : FabricState) (none path : List ℕ) (here there : Seen) → IsGood fabric → none ≡ []
    → path ≡ none ++ here.local_port_num ∷ [] → SeenAlong fabric none (sight here) → SeenAlong fabric path (sight there)
    → is_switch_type there.node_type ≡ false → ⊥
second_switch fabric none path here there good empty is first reported adapter =
    let b = begins fabric good in
    let ends = ap (end_of fabric) (path_is fabric none path here empty is first) ∙ b.ends in
    let seen = seen_ok fabric path b.there there ends reported in
    let kind = sym adapter ∙ (kind_at fabric b.there there seen).0 ∙ b.switch in
    absurd (cc)

pub started : (fabric : FabricState) (none path : List ℕ) (here there : Seen) (name : List ℕ) → IsGood fabric → none ≡ []
    → path ≡ none ++ here.local_port_num ∷ [] → SeenAlong fabric none (sight here) → SeenAlong fabric path (sight there)
    → NamedAlong fabric path (naming name) → IsStartOf fabric (record { manager = here.port_guid; switch = switch_shown there name path })
started fabric none path here there name good empty is first second third =
    let b = begins fabric good in
    let leaves = path_is fabric none path here empty is first in
    let ends : end_of fabric path ≡ Some b.there = ap (end_of fabric) leaves ∙ b.ends in
    let seen = seen_ok fabric none fabric.manager here (at_manager fabric none empty) first in
    let shown = seen_ok fabric path b.there there ends second in
    let named = named_ok fabric path b.there name ends third in
    record {
      there = b.there;
      cable = b.cable;
      switch_there = b.switch;
      manager = ap (option_map (λ (one : Seen). one.port_guid)) seen;
      switch = switch_at fabric b.there there name path b.switch shown named
          ∙ ap (λ (p : List ℕ). switch_of fabric (record { node = b.there.node; path = p })) leaves;
    }
