-- What a port can be shown comes from ports near it.
use Rattle.std.proofs.Common.{ℕ, Bool, true, ◌==◌, ◌&&◌, List, [], ◌∷◌, Some, All, filter, map}
use Rattle.std.proofs.Common.{◌≡◌, ◌∙◌, refl, sym, inl, inr}
use Rattle.std.specs.List.{list_all, list_any, flat_map}
use Rattle.std.proofs.lemmas.Bool.{cases_Bool, and_from, and_parts, or_cases, or_left, or_right, eq-eqb}
use Rattle.std.proofs.lemmas.List.Elements.{All-nil, All-cons, All-head, All-tail, All-weaker}
use Rattle.std.proofs.lemmas.List.Folds.{list_all-append, list_all-map}
use Rattle.pkey_rules.specs.PKey.{key_of}
use Rattle.pkey_rules.specs.KeyTable.{accepts, shares}
use Rattle.subnet_model.specs.declared.subnet_port.SubnetPort.{SubnetPort}
use Rattle.subnet_model.specs.Delivery.{port_with_guid}
use Rattle.subnet_model.specs.Near.{is_near, ports_share, shares_with}
use Rattle.subnet_model.proofs.IsolationLemmas.{found_in}
use Rattle.sa_model.specs.Members.{is_in, is_member}
use Rattle.sa_model.specs.Groups.{Creator, MulticastGroup, PartitionGroups}
use Rattle.sa_model.specs.Sound.{may_have_made, is_sound_group, is_sound_partition, is_sound}
use Rattle.sa_model.proofs.SoundLemmas.{sound_parts, partition_parts}
use Rattle.sa_model.proofs.SightLemmas.{full_member_is_near}
use Rattle.sa_model.proofs.ListLemmas.{all_map}
use Rattle.sa_model.specs.KeyOrder.{by_base}
use Rattle.sa_model.specs.Services.{Service, PortServices}
use Rattle.sa_model.specs.ServiceSight.{is_shown, services_seen}
use Rattle.sa_model.proofs.KeyOrderLemmas.{stand_by_base}
use Rattle.sa_model.proofs.ServiceLemmas.{shown_is_near}
use Rattle.sa_model.specs.Visible.{Path, GroupOfBase, ServiceOfPort, may_know, visible_nodes, paths_to, visible_paths}
use Rattle.sa_model.specs.Visible.{groups_of, visible_groups, services_of, visible_services}
use Rattle.sa_model.specs.Shown.{node_entry, path_entry, group_entry, service_entry}
use Rattle.sa_model.specs.QueryLaws.{is_source_near, come_from_near, VisibleComesFromNear}
use Rattle.sa_model.specs.QueryWrongRules.{PathsLeadToNear}

-- ---- a port of the subnet, found by its GUID
pub member_if_in : (ports : List SubnetPort) (own : SubnetPort) (base : ℕ) → port_with_guid ports own.guid ≡ Some own → is_in own base ≡ true
    → is_member ports base own.guid ≡ true
member_if_in ports own base found within =
    found_in (λ port. port.guid == own.guid) (λ port. (port.guid == own.guid) && accepts (key_of base true) port.keys) ports own found
    (and_from (own.guid == own.guid) (is_in own base) (eq-eqb own.guid own.guid refl) within)

sharing_is_near : (ports : List SubnetPort) (own : SubnetPort) (q : ℕ) → port_with_guid ports own.guid ≡ Some own → shares_with ports own q ≡ true
    → is_near ports own.guid q ≡ true
sharing_is_near ports own q found shared =
    or_right (q == own.guid) (ports_share ports own.guid q)
    (found_in (λ port. port.guid == own.guid) (λ port. (port.guid == own.guid) && shares_with ports port q) ports own found
    (and_from (own.guid == own.guid) (shares_with ports own q) (eq-eqb own.guid own.guid refl) shared))

-- ---- a port of the subnet with which it shares a partition is near it
abbrev IsAmong : List SubnetPort → SubnetPort → SubnetPort → Type 0
IsAmong ports own other = shares own.keys other.keys ≡ true → shares_with ports own other.guid ≡ true

sharing_are_among : (own : SubnetPort) (ports : List SubnetPort) → All (IsAmong ports own) ports
sharing_are_among own [] = All-nil (IsAmong [] own)
sharing_are_among own (port ∷ ports) =
    All-cons (IsAmong (port ∷ ports) own) port ports
    (λ e. or_left ((port.guid == port.guid) && shares own.keys port.keys) (shares_with ports own port.guid)
    (and_from (port.guid == port.guid) (shares own.keys port.keys) (eq-eqb port.guid port.guid refl) e))
    (All-weaker (IsAmong ports own) (IsAmong (port ∷ ports) own)
    (λ other among e. or_right ((port.guid == other.guid) && shares own.keys port.keys) (shares_with ports own other.guid) (among e))
    ports (sharing_are_among own ports))

abbrev IsNearIf : List SubnetPort → SubnetPort → Bool → SubnetPort → Type 0
IsNearIf ports own test other = test ≡ true → is_near ports own.guid other.guid ≡ true

sharing_are_near : (ports : List SubnetPort) (own : SubnetPort) → port_with_guid ports own.guid ≡ Some own
    → All (λ other. IsNearIf ports own (shares own.keys other.keys) other) ports
sharing_are_near ports own found =
    All-weaker (IsAmong ports own) (λ other. IsNearIf ports own (shares own.keys other.keys) other)
    (λ other among e. sharing_is_near ports own other.guid found (among e)) ports (sharing_are_among own ports)

known_are_near : (ports : List SubnetPort) (own : SubnetPort) → port_with_guid ports own.guid ≡ Some own
    → All (λ other. IsNearIf ports own (may_know own other) other) ports
known_are_near ports own found =
    All-weaker (λ other. IsNearIf ports own (shares own.keys other.keys) other) (λ other. IsNearIf ports own (may_know own other) other)
    (λ other near e. elim (or_cases (other.guid == own.guid) (shares own.keys other.keys) e) [
      | inl itself ↦ or_left (other.guid == own.guid) (ports_share ports own.guid other.guid) itself
      | inr shared ↦ near shared
    ]) ports (sharing_are_near ports own found)

-- ---- what is so of all of a list that is filtered, mapped or put together
all_shown : {X Y : Type 0} (keep : X → Bool) (f : X → Y) (q : Y → Bool) (xs : List X) → All (λ x. keep x ≡ true → q (f x) ≡ true) xs
    → list_all q (map f (filter keep xs)) ≡ true
all_shown keep f q [] all = refl
all_shown keep f q (x ∷ xs) all =
    let rest : list_all q (map f (filter keep xs)) ≡ true = all_shown keep f q xs (All-tail (λ y. keep y ≡ true → q (f y) ≡ true) x xs all) in
    elim (cases_Bool (keep x)) [
      | inl here ↦ rw here (and_from (q (f x)) (list_all q (map f (filter keep xs))) (All-head (λ y. keep y ≡ true → q (f y) ≡ true) x xs all here) rest)
      | inr out ↦ rw out rest
    ]

pub all_flat : {X Y : Type 0} (q : Y → Bool) (f : X → List Y) (xs : List X) → All (λ x. list_all q (f x) ≡ true) xs → list_all q (flat_map f xs) ≡ true
all_flat q f [] all = refl
all_flat q f (x ∷ xs) all =
    list_all-append q (f x) (flat_map f xs)
    ∙ and_from (list_all q (f x)) (list_all q (flat_map f xs)) (All-head (λ y. list_all q (f y) ≡ true) x xs all)
    (all_flat q f xs (All-tail (λ y. list_all q (f y) ≡ true) x xs all))

all_of_map : {X Y : Type 0} (f : X → Y) (q : Y → Bool) → ((x : X) → q (f x) ≡ true) → (xs : List X) → list_all q (map f xs) ≡ true
all_of_map f q each [] = refl
all_of_map f q each (x ∷ xs) = and_from (q (f x)) (list_all q (map f xs)) (each x) (all_of_map f q each xs)

all_kept : {X : Type 0} (P : X → Type 0) (p keep : X → Bool) → ((x : X) → p x ≡ true → keep x ≡ true → P x) → (xs : List X) → list_all p xs ≡ true
    → All P (filter keep xs)
all_kept P p keep each [] all = All-nil P
all_kept P p keep each (x ∷ xs) all =
    let parts = and_parts (p x) (list_all p xs) all in
    let rest : All P (filter keep xs) = all_kept P p keep each xs parts.1 in
    elim (cases_Bool (keep x)) [
      | inl here ↦ rw here (All-cons P x (filter keep xs) (each x parts.0 here) rest)
      | inr out ↦ rw out rest
    ]

all_if_any : {X : Type 0} (Z : Type 0) (test : X → Bool) (xs : List X) → (list_any test xs ≡ true → Z) → All (λ x. test x ≡ true → Z) xs
all_if_any Z test [] then = All-nil (λ x. test x ≡ true → Z)
all_if_any Z test (x ∷ xs) then =
    All-cons (λ y. test y ≡ true → Z) x xs (λ e. then (or_left (test x) (list_any test xs) e))
    (all_if_any Z test xs (λ e. then (or_right (test x) (list_any test xs) e)))

-- ---- nodes
nodes_near : (ports : List SubnetPort) (own : SubnetPort) → port_with_guid ports own.guid ≡ Some own
    → come_from_near ports own.guid (map node_entry (visible_nodes ports own)) ≡ true
nodes_near ports own found =
    all_shown (may_know own) node_entry (λ entry. is_source_near ports own.guid entry.source) ports (known_are_near ports own found)

-- ---- paths
abbrev leads_near : List SubnetPort → SubnetPort → Path → Bool
leads_near ports own path = is_near ports own.guid path.destination.guid

abbrev path_under : SubnetPort → SubnetPort → ℕ → Path
path_under own other key = record { origin = own; destination = other; key = key }

paths_to_near : (ports : List SubnetPort) (own other : SubnetPort) → IsNearIf ports own (shares own.keys other.keys) other
    → list_all (leads_near ports own) (paths_to own other) ≡ true
paths_to_near ports own other near =
    all_shown (λ key. accepts key other.keys) (path_under own other) (leads_near ports own) (by_base own.keys)
    (all_if_any (is_near ports own.guid other.guid ≡ true) (λ key. accepts key other.keys) (by_base own.keys)
    (λ e. near (sym ((stand_by_base own.keys).same (λ key. accepts key other.keys)) ∙ e)))

pub each_leads_near : (ports : List SubnetPort) (own : SubnetPort) → port_with_guid ports own.guid ≡ Some own
    → All (λ other. list_all (leads_near ports own) (paths_to own other) ≡ true) ports
each_leads_near ports own found =
    All-weaker (λ other. IsNearIf ports own (shares own.keys other.keys) other) (λ other. list_all (leads_near ports own) (paths_to own other) ≡ true)
    (λ other near. paths_to_near ports own other near) ports (sharing_are_near ports own found)

pub paths_lead_to_near : PathsLeadToNear
paths_lead_to_near ports own found = all_flat (leads_near ports own) (paths_to own) ports (each_leads_near ports own found)

paths_near : (ports : List SubnetPort) (own : SubnetPort) → port_with_guid ports own.guid ≡ Some own
    → come_from_near ports own.guid (map path_entry (visible_paths ports own)) ≡ true
paths_near ports own found =
    list_all-map (λ entry. is_source_near ports own.guid entry.source) path_entry (visible_paths ports own) ∙ paths_lead_to_near ports own found

-- ---- groups
maker_near : (ports : List SubnetPort) (base p : ℕ) (creator : Creator) → is_member ports base p ≡ true → may_have_made ports base creator ≡ true
    → is_source_near ports p creator ≡ true
maker_near ports base p (Creator.Port guid) member made = full_member_is_near ports base p guid made member
maker_near ports base p Creator.PartitionFile member made = refl

abbrev is_made_near : List SubnetPort → SubnetPort → GroupOfBase → Bool
is_made_near ports own one = is_source_near ports own.guid one.group.creator

abbrev in_base : ℕ → MulticastGroup → GroupOfBase
in_base base group = record { base = base; group = group }

partition_near : (ports : List SubnetPort) (own : SubnetPort) (partition : PartitionGroups) → is_member ports partition.base own.guid ≡ true
    → is_sound_partition ports partition ≡ true → list_all (is_made_near ports own) (groups_of partition) ≡ true
partition_near ports own partition member sound =
    all_map (is_sound_group ports partition) (is_made_near ports own) (in_base partition.base)
    (λ group e. maker_near ports partition.base own.guid group.creator member (sound_parts ports partition group e).made)
    partition.groups (partition_parts ports partition sound).each

groups_near : (ports : List SubnetPort) (own : SubnetPort) (partitions : List PartitionGroups) → port_with_guid ports own.guid ≡ Some own
    → is_sound ports partitions ≡ true → come_from_near ports own.guid (map group_entry (visible_groups own partitions)) ≡ true
groups_near ports own partitions found sound =
    list_all-map (λ entry. is_source_near ports own.guid entry.source) group_entry (visible_groups own partitions)
    ∙ all_flat (is_made_near ports own) groups_of (filter (λ partition. is_in own partition.base) partitions)
    (all_kept (λ partition. list_all (is_made_near ports own) (groups_of partition) ≡ true) (is_sound_partition ports) (λ partition. is_in own partition.base)
    (λ partition one_sound within. partition_near ports own partition (member_if_in ports own partition.base found within) one_sound) partitions sound)

-- ---- services
abbrev is_offered_near : List SubnetPort → SubnetPort → ServiceOfPort → Bool
is_offered_near ports own one = is_near ports own.guid one.port

abbrev at_place : PortServices → Service → ServiceOfPort
at_place place service = record { port = place.port; base = place.base; service = service }

place_near : (ports : List SubnetPort) (own : SubnetPort) (place : PortServices) → is_shown ports own.guid place ≡ true
    → list_all (is_offered_near ports own) (services_of place) ≡ true
place_near ports own place shown =
    all_of_map (at_place place) (is_offered_near ports own)
    (λ service. shown_is_near ports own.guid place shown) place.services

all_true : {X : Type 0} (xs : List X) → list_all (λ x. true) xs ≡ true
all_true [] = refl
all_true (x ∷ xs) = all_true xs

services_near : (ports : List SubnetPort) (own : SubnetPort) (services : List PortServices)
    → come_from_near ports own.guid (map service_entry (visible_services ports own services)) ≡ true
services_near ports own services =
    list_all-map (λ entry. is_source_near ports own.guid entry.source) service_entry (visible_services ports own services)
    ∙ all_flat (is_offered_near ports own) services_of (services_seen ports own.guid services)
    (all_kept (λ place. list_all (is_offered_near ports own) (services_of place) ≡ true) (λ place. true) (is_shown ports own.guid)
    (λ place e shown. place_near ports own place shown) services (all_true services))

pub visible_from_near : VisibleComesFromNear
visible_from_near ports own state found sound = record {
  nodes = nodes_near ports own found;
  paths = paths_near ports own found;
  groups = groups_near ports own state.partitions found sound;
  services = services_near ports own state.services;
}
