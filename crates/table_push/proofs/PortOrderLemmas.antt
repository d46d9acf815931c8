-- What a graph has of ports: by the fabric alone, wherever the graph has the switches.
use Rattle.std.proofs.Common.{ℕ, ◌≡◌, ◌≤◌, ◌<◌, ◌==◌, ◌&&◌, ◌∙◌, ap, refl, sym, subst, Bool, true, false, if◌then◌else◌, List, [], ◌∷◌, find, get_or, length, map, slice_get, Option, Some, None, option_map, arith}
use Rattle.std.specs.List.{list_any}
use Rattle.std.specs.Option.{option_and_then, option_map_or}
use Rattle.std.proofs.lemmas.Bool.{and_parts, eqb-true, false≢true}
use Rattle.std.proofs.lemmas.Option.{none-some, same_Some, slice_get-map}
use Rattle.fabric_parts.specs.Cable.{far_end, is_same_port, port}
use Rattle.fabric_parts.specs.declared.cable.PortRef.{PortRef}
use Rattle.smp_wire.specs.Forwards.{IsCabledPort}
use Rattle.smp_wire.proofs.CableLemmas.{same_port}
use Rattle.smp_wire.specs.FabricState.{FabricState, is_switch_at}
use Rattle.smp_wire.specs.Good.{IsGood}
use Rattle.sweep.specs.Graph.{GraphState, IsGraph}
use Rattle.sweep.specs.OfFabric.{Found, IsGraphOf, guid_at, node_at, nodes_of}
use Rattle.sweep.specs.Seen.{seen_at}
use Rattle.sweep.specs.declared.graph.GraphPort.{GraphPort}
use Rattle.sweep.specs.declared.seen.Seen.{Seen}
use Rattle.sweep.proofs.FoundLemmas.{node_there, one_place}
use Rattle.sweep.proofs.MetLemmas.{good_once}
use Rattle.sweep.proofs.ProgressLemmas.{node_of}
use Rattle.table_push.specs.Keys.{attached_at, port_of}
use Rattle.table_push.proofs.AttachedLemmas.{IsHung, found_is, is_hung}
use Rattle.table_push.proofs.AttachmentLemmas.{IsAttached, attached}
use Rattle.table_push.proofs.IdleBitLemmas.{IsSeenPort, seen_port}
use Rattle.table_push.proofs.WantedLemmas.{attached_is, port_is}

-- ---- the port of a channel adapter at the end of a switch port's cable, by its GUID
abbrev guid_behind : FabricState → PortRef → Option ℕ
guid_behind fabric there =
    if is_switch_at fabric.nodes there.node then None else option_map (λ (seen : Seen). seen.port_guid) (seen_at fabric there)

abbrev pub guid_from : FabricState → (node number : ℕ) → Option ℕ
guid_from fabric node number = option_and_then (guid_behind fabric) (far_end fabric.cables (port node number))

-- the GUID of what a graph has
abbrev pub guid_in : Option GraphPort → Option ℕ
guid_in one = option_map (λ (port : GraphPort). port.port_guid) one

module _ (fabric : FabricState) (graph : GraphState) (good : IsGood fabric) (is : IsGraph graph) (of : IsGraphOf graph fabric) where
  -- what the graph has at the port of a switch is at the end of its cable
  pub attached_guid : (place number : ℕ) (found : Found) → slice_get of.layout.found place ≡ Some found
      → guid_in (attached_at graph.ports place number) ≡ guid_from fabric found.node number
  attached_guid place number found stands = by (attached_at graph.ports place number) refl
    where
      some : (one : GraphPort) → attached_at graph.ports place number ≡ Some one → Some one.port_guid ≡ guid_from fabric found.node number
      some one has =
          let at = found_is (λ (other : GraphPort). is_same_port other.at (port place number)) graph.ports one has in
          let hung = is_hung fabric graph at.0 one of at.1 in
          let same : one.at ≡ port place number = same_port one.at (port place number) at.2 in
          let near : far_end fabric.cables (port found.node number) ≡ Some hung.there =
          ap (λ (n : ℕ). far_end fabric.cables (port n number)) (sym (node_of of.layout.found place found stands))
          ∙ ap (λ (p : PortRef). far_end fabric.cables (port (node_at of.layout.found p.node) p.port)) (sym same) ∙ hung.cable in
          let behind : guid_behind fabric hung.there ≡ Some hung.seen.port_guid = rw (hung.adapter, hung.seen_is) refl in
          let guid : guid_from fabric found.node number ≡ Some hung.seen.port_guid = ap (option_and_then (guid_behind fabric)) near ∙ behind in
          ap (λ (n : ℕ). Some n) (sym hung.guid_is) ∙ sym guid

      none_by_seen : (at : PortRef) → far_end fabric.cables (port found.node number) ≡ Some at → is_switch_at fabric.nodes at.node ≡ false → attached_at graph.ports place number ≡ None → (o : Option Seen)
          → seen_at fabric at ≡ o → None ≡ option_map (λ (seen : Seen). seen.port_guid) o
      none_by_seen at near off none None seen = refl
      none_by_seen at near off none (Some some) seen =
          let one = seen_port fabric at some off seen in
          let cabled : IsCabledPort fabric at one.one =
          record { there = one.there; far = port found.node number; cable = good_once fabric (port found.node number) at good near } in
          let attachment = attached fabric graph at one.one good of cabled in
          let same : attachment.place ≡ place =
          one_place (nodes_of of.layout.found) attachment.place place found.node of.layout.once
          (node_there of.layout.found attachment.place attachment.found attachment.there ∙ ap (λ (n : ℕ). Some n) attachment.node)
          (node_there of.layout.found place found stands) in
          let has : attached_at graph.ports place number ≡ Some attachment.hung =
          (λ i. attached_at graph.ports (sym same i) number)
          ∙ (λ i. attached_at graph.ports (sym attachment.at_is i).node (sym attachment.at_is i).port)
          ∙ attached_is fabric graph attachment.index attachment.hung of attachment.has in
          absurd (none-some attachment.hung (sym none ∙ has))

      none_by_kind : (at : PortRef) → far_end fabric.cables (port found.node number) ≡ Some at → attached_at graph.ports place number ≡ None → (b : Bool) → is_switch_at fabric.nodes at.node ≡ b
          → None ≡ (if b then None else option_map (λ (seen : Seen). seen.port_guid) (seen_at fabric at))
      none_by_kind at near none true kind = refl
      none_by_kind at near none false kind = none_by_seen at near kind none (seen_at fabric at) refl

      none_by_far : attached_at graph.ports place number ≡ None → (o : Option PortRef) → far_end fabric.cables (port found.node number) ≡ o
          → None ≡ option_and_then (guid_behind fabric) o
      none_by_far none None far = refl
      none_by_far none (Some at) far = none_by_kind at far none (is_switch_at fabric.nodes at.node) refl

      by : (o : Option GraphPort) → attached_at graph.ports place number ≡ o → guid_in o ≡ guid_from fabric found.node number
      by (Some one) has = some one has
      by None none = none_by_far none (far_end fabric.cables (port found.node number)) refl

  -- it has each port of a channel adapter that has a cable
  pub record HasPort (guid number port_guid : ℕ) : Type 0 where
    pub one : GraphPort
    pub is_one : port_of graph.ports guid number ≡ Some one
    pub same : one.port_guid ≡ port_guid

-- ---- a port of a channel adapter that one graph has the other has, too
module _ (fabric : FabricState) (mine theirs : GraphState) (good : IsGood fabric) (is : IsGraph mine) (too : IsGraph theirs)
    (of : IsGraphOf mine fabric) (of_theirs : IsGraphOf theirs fabric) where
  has_too : (guid number : ℕ) (one : GraphPort) → port_of mine.ports guid number ≡ Some one → HasPort fabric theirs good too of_theirs guid number one.port_guid
  has_too guid number one found =
      let at = found_is (λ (other : GraphPort). (other.node_guid == guid) && (other.number == number)) mine.ports one found in
      let tests = and_parts (one.node_guid == guid) (one.number == number) at.2 in
      let hung = is_hung fabric mine at.0 one of at.1 in
      let near = port (node_at of.layout.found one.at.node) one.at.port in
      let seen = seen_port fabric hung.there hung.seen hung.adapter hung.seen_is in
      let cabled : IsCabledPort fabric hung.there seen.one =
      record { there = seen.there; far = near; cable = good_once fabric near hung.there good hung.cable } in
      let attachment = attached fabric theirs hung.there seen.one good of_theirs cabled in
      let node : attachment.hung.node_guid ≡ guid =
      attachment.node_is ∙ sym seen.node ∙ hung.node_is ∙ eqb-true one.node_guid guid tests.0 in
      let own : attachment.hung.number ≡ number =
      attachment.number_is ∙ sym seen.number ∙ hung.number_is ∙ eqb-true one.number number tests.1 in
      record {
        one = attachment.hung;
        is_one = (λ i. port_of theirs.ports (sym node i) (sym own i)) ∙ port_is theirs attachment.index attachment.hung too attachment.has;
        same = attachment.guid_is ∙ seen.guid ∙ hung.guid_is;
      }

pub same_guid_of : (fabric : FabricState) (mine theirs : GraphState) → IsGood fabric → IsGraph mine → IsGraph theirs → IsGraphOf mine fabric
    → IsGraphOf theirs fabric → (guid number : ℕ) → guid_in (port_of theirs.ports guid number) ≡ guid_in (port_of mine.ports guid number)
same_guid_of fabric mine theirs good is too of of_theirs guid number = by (port_of mine.ports guid number) refl (port_of theirs.ports guid number) refl
  where
    by : (o : Option GraphPort) → port_of mine.ports guid number ≡ o → (p : Option GraphPort) → port_of theirs.ports guid number ≡ p
        → guid_in p ≡ guid_in o
    by (Some one) found p found_too =
        let there = has_too fabric mine theirs good is too of of_theirs guid number one found in
        ap guid_in (sym found_too ∙ there.is_one) ∙ ap (λ (n : ℕ). Some n) there.same
    by None found None found_too = refl
    by None found (Some other) found_too =
        let here = has_too fabric theirs mine good too is of_theirs of guid number other found_too in
        absurd (none-some here.one (sym found ∙ here.is_one))
