-- What a subnet is configured as, as it is tested of ports and their keys.
use Rattle.std.specs.Prelude.{ℕ, ◌+◌, ◌==◌, Bool, true, not, ◌&&◌, nat_le, List, [], ◌∷◌, length}
use Rattle.std.specs.List.{list_all}
use Rattle.fabric_parts.specs.declared.limits.TheConstants.{ADAPTER_PORTS, SWITCHES}
use Rattle.partition_file.specs.declared.heading.Heading.{Heading}
use Rattle.pkey_rules.specs.declared.key_table.TheConstants.{PARTITIONS}
use Rattle.pkey_rules.specs.KeyTable.{same_base}
use Rattle.subnet_model.specs.Configured.{is_known_key}
use Rattle.sa_model.specs.Sound.{pairwise}
use Rattle.sa_store.specs.declared.node_port.NodePort.{NodePort}

abbrev pub other_guid : NodePort → NodePort → Bool
other_guid a b = not (a.guid == b.guid)

abbrev pub have_lids_from : ℕ → List NodePort → Bool
have_lids_from lid [] = true
have_lids_from lid (port ∷ ports) = (port.lid == lid) && have_lids_from (lid + 1) ports

abbrev pub other_base : ℕ → ℕ → Bool
other_base a b = not (same_base a b)

-- a table has at most one key of each partition of the subnet, and no other
abbrev pub are_known_keys : List Heading → List ℕ → Bool
are_known_keys headings keys =
    pairwise other_base keys && (list_all (is_known_key headings) keys && nat_le (length keys) PARTITIONS)

-- a table for each port
abbrev pub are_sound : List NodePort → List Heading → List (List ℕ) → Bool
are_sound ports headings keys =
    (length keys == length ports)
    && (pairwise other_guid ports
    && (have_lids_from 1 ports
    && (nat_le (length ports) (SWITCHES + ADAPTER_PORTS) && list_all (are_known_keys headings) keys)))
