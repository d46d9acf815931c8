-- Who receives by sound groups, receives of multicast LIDs that tables have, and where packets to these go.
use Rattle.std.proofs.Common.{ℕ, zero, suc, ◌+◌, ◌≡◌, ◌==◌, ◌&&◌, ◌∙◌, ap, refl, sym, Bool, true, false, nat_lt, List, [], ◌∷◌, map, slice_get, Some, arith}
use Rattle.std.specs.List.{Contains, IsDistinct, flat_map, list_all, list_any}
use Rattle.std.proofs.lemmas.Bool.{and_parts, false≢true, ltb-true}
use Rattle.std.proofs.lemmas.Bool.Decides.{nat_tests}
use Rattle.std.proofs.lemmas.List.{length-map}
use Rattle.std.proofs.lemmas.Option.{none-some, same_Some, slice_get-get_or}
use Rattle.agent_rules.specs.declared.power_up.TheConstants.{MULTICAST_TABLE}
use Rattle.fabric_parts.specs.Lid.{is_multicast}
use Rattle.fabric_parts.specs.NodeType.{is_switch_type}
use Rattle.fabric_parts.specs.declared.lid.TheConstants.{FIRST_MULTICAST_LID}
use Rattle.partition_file.specs.Members.{heading_of}
use Rattle.partition_file.specs.Sound.{IsSound as ArePartitions}
use Rattle.partition_file.specs.declared.partition.Partition.{Partition}
use Rattle.pkey_rules.specs.declared.key_table.TheConstants.{PARTITIONS}
use Rattle.step_results.proofs.DistinctLemmas.{none_shares}
use Rattle.step_results.proofs.ListLemmas.{any_none}
use Rattle.std.proofs.lemmas.Map.Keys.{IsDistinct-tail}
use Rattle.sa_model.proofs.ReceiverLemmas.{receivers_are_reached}
use Rattle.sa_model.specs.Delivery.{is_receiver_of}
use Rattle.sa_model.specs.Groups.{PartitionGroups}
use Rattle.sa_model.specs.Receivers.{receivers_in}
use Rattle.sa_model.specs.Sound.{is_in_range, is_sound}
use Rattle.sa_model.specs.Visible.{SaState}
use Rattle.sa_replies.specs.State.{IsRememberedOf}
use Rattle.subnet_model.specs.Configured.{HaveLidsInOrder, same_guid}
use Rattle.subnet_model.specs.Delivery.{port_with_guid}
use Rattle.subnet_model.specs.declared.subnet_port.SubnetPort.{SubnetPort}
use Rattle.subnet_fabric.specs.Ports.{configuration_of}
use Rattle.table_push.proofs.NodeLemmas.{none_there, same_number}
use Rattle.table_push.specs.BroughtUpLaws.{AreOfGroups}
use Rattle.topo_file.specs.Topology.{TopologyState}
use Rattle.subnet_core.proofs.ReceiveLemmas.{all_listed, by_partitions, of_a_partition, one_passes, receiver_of_a_partition}
use Rattle.subnet_core.proofs.AdministeredLemmas.{all_low, among_is}
use Rattle.subnet_core.specs.Served.{receives_at}

-- ---- the numbers of partitions are few
pub few_numbers : (partitions : List Partition) (plan : TopologyState) (state : SaState) → ArePartitions partitions
    → IsRememberedOf (configuration_of partitions plan) state → list_all (λ partition. nat_lt partition.number PARTITIONS) state.partitions ≡ true
few_numbers partitions plan state whole remembered =
    let bases = length-map partitions (λ (partition : Partition). partition.base) in
    let headings = length-map partitions heading_of in
    let room = whole.bases.room in
    all_low PARTITIONS (map heading_of partitions) state.partitions (omega (arith, bases, headings, room)) remembered.partitions

-- ---- so their multicast LIDs are some that tables have
always : {X : Type 0} (b : Bool) (xs : List X) → list_any (λ x. b) xs ≡ true → b ≡ true
always true xs some = refl
always false xs some = absurd (false≢true (sym (any_none xs) ∙ some))

abbrev is_in_tables : ℕ → Bool
is_in_tables mlid = is_multicast mlid && nat_lt mlid (FIRST_MULTICAST_LID + MULTICAST_TABLE)

in_tables : (number mlid : ℕ) → nat_lt number PARTITIONS ≡ true → is_in_range number mlid ≡ true → is_in_tables mlid ≡ true
in_tables number mlid low ranged = grind (arith, nat_tests)

ranged_in_tables : (partitions : List PartitionGroups) (mlid : ℕ) → list_all (λ partition. nat_lt partition.number PARTITIONS) partitions ≡ true
    → list_any (λ partition. is_in_range partition.number mlid) partitions ≡ true → is_in_tables mlid ≡ true
ranged_in_tables partitions mlid low some =
    always (is_in_tables mlid) partitions
    (one_passes (λ partition. nat_lt partition.number PARTITIONS) (λ partition. is_in_range partition.number mlid) (λ partition. is_in_tables mlid)
    (λ partition below ranged. in_tables partition.number mlid below ranged) partitions low some)

pub are_of_groups : (ports : List SubnetPort) (partitions : List PartitionGroups) → is_sound ports partitions ≡ true
    → list_all (λ partition. nat_lt partition.number PARTITIONS) partitions ≡ true → AreOfGroups (receives_at ports partitions)
are_of_groups ports partitions sound low mlid lid some =
    let parts = and_parts (is_multicast mlid) _ (ranged_in_tables partitions mlid low (of_a_partition ports mlid lid partitions sound some)) in
    (parts.0, ltb-true mlid (FIRST_MULTICAST_LID + MULTICAST_TABLE) parts.1)

pub receivers_are_of_groups : (ports : List SubnetPort) (partitions : List PartitionGroups) → is_sound ports partitions ≡ true
    → list_all (λ partition. nat_lt partition.number PARTITIONS) partitions ≡ true → (mlid guid : ℕ) → is_receiver_of partitions mlid guid ≡ true
    → is_multicast mlid ≡ true
receivers_are_of_groups ports partitions sound low mlid guid some =
    (and_parts (is_multicast mlid) _ (ranged_in_tables partitions mlid low (receiver_of_a_partition ports mlid 0 guid partitions sound some))).0

-- ---- a listed port receives by its LID what it receives by its GUID
found_there : (ports : List SubnetPort) (k : ℕ) (port : SubnetPort) → slice_get ports k ≡ Some port → IsDistinct same_guid ports
    → port_with_guid ports port.guid ≡ Some port
found_there [] k port there own = absurd (none-some port there)
found_there (one ∷ ports) zero port there own =
    let same : one ≡ port = same_Some one port there in
    let this : (one.guid == port.guid) ≡ true = ap (λ (other : SubnetPort). one.guid == other.guid) (sym same) ∙ same_number one.guid in
    rw this (ap (λ (other : SubnetPort). Some other) same)
found_there (one ∷ ports) (suc k) port there own =
    let apart : (one.guid == port.guid) ≡ false = none_there (same_guid one) ports k port (none_shares same_guid one ports own) there in
    rw apart (found_there ports k port there (IsDistinct-tail same_guid one ports own))

pub listed_is_found : (ports : List SubnetPort) (port : SubnetPort) → Contains ports port → IsDistinct same_guid ports
    → port_with_guid ports port.guid ≡ Some port
listed_is_found ports port among own =
    found_there ports among.0 port (slice_get-get_or ports among.0 port among.1 ∙ ap (λ (other : SubnetPort). Some other) among.2) own

pub receives_by_lid : (ports : List SubnetPort) (partitions : List PartitionGroups) (mlid : ℕ) (port : SubnetPort) → HaveLidsInOrder ports
    → port_with_guid ports port.guid ≡ Some port → is_switch_type port.node_type ≡ false
    → receives_at ports partitions mlid port.lid ≡ is_receiver_of partitions mlid port.guid
receives_by_lid ports partitions mlid port order found adapter =
    by_partitions ports mlid port.lid partitions
    ∙ sym (all_listed ports mlid port.lid partitions)
    ∙ sym (among_is (flat_map (receivers_in ports) partitions) mlid port.lid)
    ∙ receivers_are_reached ports partitions mlid port order found adapter
