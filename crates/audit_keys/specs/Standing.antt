-- Partition by partition: what end ports are in it by their tables and by the file, which partitions stand that the file gives to
-- nobody, and which pairs may talk by the tables alone or by the file alone.
use Rattle.std.specs.Prelude.{ℕ, ◌≡◌, Bool, true, not, ◌==◌, ◌||◌, List, [], ◌∷◌, ◌++◌, codes, count_by, decimal, filter, flat_map, length, map, nat_le, if◌then◌else◌, Option, Some, None}
use Rattle.std.specs.List.{list_any, range_with_len}
use Rattle.std.specs.List.Sorted.{IsStrictlyIncreasing}
use Rattle.fabric_parts.specs.declared.cable.PortRef.{PortRef}
use Rattle.partition_reports.specs.declared.membership.Membership.{Membership}
use Rattle.partition_reports.specs.declared.membership.Membership.TheVariants.{Outside}
use Rattle.partition_reports.specs.declared.pairs.Member.{Member}
use Rattle.partition_reports.specs.declared.pairs.Pair.{Pair}
use Rattle.partition_reports.specs.Membership.{is_member, membership_of}
use Rattle.partition_reports.specs.ChangedPairs.{new_pairs}
use Rattle.pkey_rules.specs.PKey.{base_of}
use Rattle.topo_file.specs.declared.node.Node.{Node}
use Rattle.audit_ports.specs.declared.port.AuditedPort.{AuditedPort}
use Rattle.audit_ports.specs.declared.port.HeldKeys.{HeldKeys}
use Rattle.audit_ports.specs.Names.{key_word, port_text}

-- ---- what a port is in the partition of a base; one that was not read is left out of both
abbrev pub standing_by : ℕ → PortRef → Option HeldKeys → (file : List ℕ) → Member
standing_by base port (Some table) file = record { port = port; after = membership_of base table.keys; before = membership_of base file }
standing_by base port None file = record { port = port; after = Outside; before = Outside }

-- now by its table, before by the file
abbrev pub standing : ℕ → AuditedPort → Member
standing base port = standing_by base port.port port.table port.file

-- now by the file, before by its table
abbrev pub turned : ℕ → AuditedPort → Member
turned base port = record { port = port.port; after = (standing base port).before; before = (standing base port).after }

-- ---- partitions that stand although the file gives them to nobody, or that the file gives and that stand nowhere
abbrev pub stands : ℕ → AuditedPort → Bool
stands base port = is_member (standing base port).after

abbrev pub is_given : ℕ → AuditedPort → Bool
is_given base port = is_member (standing base port).before

abbrev pub line_of_count : List ℕ → (base count : ℕ) → List ℕ
line_of_count words base count = words ++ key_word base ++ codes " " ++ decimal count ++ 10 ∷ []

-- `stray 0x001f 3` and `absent 0x0014 2`, with the number of ports at which it stands, or to which the file gives it
abbrev pub stray_by : (base standing given : ℕ) → List ℕ
stray_by base standing given =
    if given == 0 then (if standing == 0 then [] else line_of_count (codes "stray") base standing)
    else (if standing == 0 then line_of_count (codes "absent") base given else [])

unfoldable pub stray_at : List AuditedPort → ℕ → List ℕ
stray_at ports base = stray_by base (count_by (stands base) ports) (count_by (is_given base) ports)

unfoldable pub strays : List AuditedPort → List ℕ
strays ports = flat_map (stray_at ports) (range_with_len 1 32767)

-- ---- pairs that may talk by the tables alone, and by the file alone
abbrev pub only_by_tables : ℕ → List AuditedPort → List Pair
only_by_tables base ports = new_pairs (map (standing base) ports)

abbrev pub only_by_file : ℕ → List AuditedPort → List Pair
only_by_file base ports = new_pairs (map (turned base) ports)

-- `+ share c1/1 c2/1 0x0103`
unfoldable pub pair_line : List Node → (sign : List ℕ) → ℕ → Pair → List ℕ
pair_line nodes sign base pair =
    sign ++ codes "share " ++ port_text nodes pair.first ++ codes " " ++ port_text nodes pair.second ++ key_word base ++ 10 ∷ []

-- of each partition so many pairs are listed; more are counted, as `+ pairs 0x0103 350`, unless all are asked for
abbrev pub few_pairs : ℕ
few_pairs = 100

abbrev pub are_listed : (all : Bool) → List Pair → Bool
are_listed all pairs = all || nat_le (length pairs) few_pairs

unfoldable pub pairs_text : List Node → (all : Bool) → (sign : List ℕ) → ℕ → List Pair → List ℕ
pairs_text nodes all sign base pairs =
    if are_listed all pairs then flat_map (pair_line nodes sign base) pairs else line_of_count (sign ++ codes "pairs") base (length pairs)

unfoldable pub pairs_at : List Node → (all : Bool) → List AuditedPort → ℕ → List ℕ
pairs_at nodes all ports base =
    pairs_text nodes all (codes "- ") base (only_by_file base ports) ++ pairs_text nodes all (codes "+ ") base (only_by_tables base ports)

unfoldable pub pair_changes : List Node → (all : Bool) → List AuditedPort → List ℕ
pair_changes nodes all ports = flat_map (pairs_at nodes all ports) (range_with_len 1 32767)

-- ---- the bases of which there is a key in a table that was read, or in the file for its port. No definition of what is printed
-- stands on them
abbrev pub bases_of_keys : List ℕ → List ℕ
bases_of_keys keys = filter (λ base. not (base == 0)) (map base_of keys)

abbrev pub port_bases : Option HeldKeys → (file : List ℕ) → List ℕ
port_bases (Some table) file = bases_of_keys table.keys ++ bases_of_keys file
port_bases None file = []

abbrev pub bases_of_port : AuditedPort → List ℕ
bases_of_port port = port_bases port.table port.file

abbrev pub bases_there : List AuditedPort → List ℕ
bases_there ports = flat_map bases_of_port ports

-- these are the bases that are there, each once, rising
pub record AreBasesOf (ports : List AuditedPort) (bases : List ℕ) : Type 0 where
  pub rising : IsStrictlyIncreasing bases
  pub same : (base : ℕ) → list_any (λ one. one == base) bases ≡ list_any (λ one. one == base) (bases_there ports)

-- the same, for those who need not look into it
unfoldable pub HaveBasesOf : List AuditedPort → List ℕ → Type 0
HaveBasesOf ports bases = AreBasesOf ports bases
