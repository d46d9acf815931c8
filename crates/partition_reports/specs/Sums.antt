-- Who may talk to whom, counted: for each partition how many pairs of end ports may talk in it.
use Rattle.std.specs.Prelude.{ℕ, ◌+◌, Bool, ◌==◌, ◌&&◌, List, ◌∷◌, ◌++◌, [], Option, Some, None, codes, count_by, decimal, length, nat_le, if◌then◌else◌}
use Rattle.std.specs.List.{flat_map, list_any}
use Rattle.std.specs.Int.{w16, to_be_bytes}
use Rattle.fabric_parts.specs.declared.limits.TheConstants.{ADAPTER_PORTS, SWITCHES}
use Rattle.partition_file.specs.declared.heading.Heading.{Heading}
use Rattle.pkey_rules.specs.KeyTable.{has_base}
use Rattle.pkey_rules.specs.PKey.{base_of, is_full}
use Rattle.partition_reports.specs.declared.sums.PairSum.{PairSum}
use Rattle.partition_reports.specs.Shares.{shares, shares_text}
use Rattle.subnet_model.specs.Configuration.{ConfigurationState}
use Rattle.subnet_model.specs.declared.subnet_port.SubnetPort.{SubnetPort}
use Rattle.text_words.specs.Parts.{hex_text}

-- the port is a member of the partition of this base
abbrev pub is_member : ℕ → SubnetPort → Bool
is_member base port = has_base base port.keys

-- and a full one
abbrev pub is_full_member : ℕ → SubnetPort → Bool
is_full_member base port = list_any (λ key. (base_of key == base) && is_full key) port.keys

-- as many pairs of these ports may talk in the partition of this base as they have shares under it
abbrev pub sum_of : List SubnetPort → ℕ → PairSum
sum_of ports base = record {
  base = base;
  pairs = count_by (λ share. share.base == base) (shares ports);
  members = count_by (is_member base) ports;
  full = count_by (is_full_member base) ports;
}

-- `pairs BASE PAIRS MEMBERS FULL`
abbrev pub sum_line : PairSum → List ℕ
sum_line sum =
    codes "pairs " ++ hex_text (to_be_bytes w16 sum.base)
    ++ codes " " ++ decimal sum.pairs
    ++ codes " " ++ decimal sum.members
    ++ codes " " ++ decimal sum.full ++ 10 ∷ []

-- a line for each of these partitions, in their order
abbrev pub sums_text : List Heading → List SubnetPort → List ℕ
sums_text headings ports = flat_map (λ heading. sum_line (sum_of ports heading.base)) headings

-- ---- what is listed of a subnet: as many end ports as a simulated fabric may have are listed pair by pair, and more are counted
abbrev pub are_few : List SubnetPort → Bool
are_few ports = nat_le (length ports) (SWITCHES + ADAPTER_PORTS)

-- if a port is asked for, its pairs are listed
abbrev pub listed_shares : Option ℕ → ConfigurationState → List ℕ
listed_shares (Some guid) configuration = shares_text (Some guid) configuration.ports
listed_shares None configuration =
    if are_few configuration.ports then shares_text None configuration.ports else sums_text configuration.partitions configuration.ports
