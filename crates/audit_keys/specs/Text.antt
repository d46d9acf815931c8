-- What is printed.
use Rattle.std.specs.Prelude.{ℕ, Bool, true, false, not, ◌==◌, ◌&&◌, List, [], ◌∷◌, ◌++◌, codes, decimal, count_by, flat_map, length, if◌then◌else◌, Option, Some, None, is_none, is_some}
use Rattle.std.specs.List.{list_any}
use Rattle.fabric_parts.specs.declared.cable.PortRef.{PortRef}
use Rattle.netdiscover_file.specs.Discovery.{DiscoveryState}
use Rattle.partition_file.specs.declared.partition.Partition.{Partition}
use Rattle.partition_file.specs.Members.{no_file}
use Rattle.pkeys_file.specs.declared.answer.Answer.{Answer}
use Rattle.text_words.specs.Parts.{guid_text}
use Rattle.topo_file.specs.declared.node.Node.{Node}
use Rattle.topo_file.specs.Topology.{TopologyState}
use Rattle.audit_keys.specs.declared.differences.Difference.{Difference}
use Rattle.audit_keys.specs.declared.differences.DifferenceKind.{DifferenceKind}
use Rattle.audit_keys.specs.declared.differences.DifferenceKind.TheVariants.{Extra, Missing, Membership, Full, Off, Half, Lacks, More, UnreadSwitchPort}
use Rattle.audit_ports.specs.declared.port.AuditedPort.{AuditedPort}
use Rattle.audit_ports.specs.declared.port.TrunkLack.{TrunkLack}
use Rattle.audit_keys.specs.Apart.{wide_lines}
use Rattle.audit_keys.specs.Cuts.{cut_lines}
use Rattle.audit_keys.specs.Diagnosis.{diagnosis, is_another, open_line}
use Rattle.audit_keys.specs.Differences.{all_agree, are_clean, facing_differences, follows_file, is_of_key, port_differences}
use Rattle.audit_ports.specs.Gathered.{ports_of_files}
use Rattle.audit_ports.specs.Names.{key_word, port_text}
use Rattle.audit_keys.specs.Standing.{pair_changes, strays}
use Rattle.audit_ports.specs.Strangers.{strangers}

-- what is found: the lines, and whether the tables follow the file
pub record KeysAuditState : Type 0 where
  pub text : List ℕ
  pub is_clean : Bool

-- ---- differences: `extra c1/1 0x8103`, `membership c1/1 0x0010 (OpenSM reads the file so)`, `off left/2`
abbrev pub kind_word : DifferenceKind → List ℕ
kind_word Extra = codes "extra "
kind_word Missing = codes "missing "
kind_word Membership = codes "membership "
kind_word Full = codes "full "
kind_word Off = codes "off "
kind_word Half = codes "half "
kind_word Lacks = codes "lacks "
kind_word More = codes "more "
kind_word UnreadSwitchPort = codes "unread "

abbrev pub opensm_words : Bool → List ℕ
opensm_words true = codes " (OpenSM reads the file so)"
opensm_words false = []

-- of a switch port that does not enforce, or was not read, and of a full table no key is printed: its difference has 0
unfoldable pub difference_line : List Node → Difference → List ℕ
difference_line nodes difference =
    kind_word difference.kind ++ port_text nodes difference.port ++ (if difference.key == 0 then [] else key_word difference.key)
    ++ opensm_words difference.is_opensms ++ 10 ∷ []

-- ---- ports between switches: `trunk spine/3 lacks 0x0103`
unfoldable pub trunk_line : List Node → TrunkLack → List ℕ
trunk_line nodes lack = codes "trunk " ++ port_text nodes lack.port ++ codes " lacks" ++ key_word lack.base ++ 10 ∷ []

unfoldable pub trunk_lines : List Node → AuditedPort → List ℕ
trunk_lines nodes port = flat_map (trunk_line nodes) port.lacks

-- ---- ports that are not judged
abbrev pub is_unread : AuditedPort → Bool
is_unread port = is_none port.table && is_none port.moved

-- `unread c1/1`
abbrev pub unread_line : List Node → PortRef → List ℕ
unread_line nodes port = codes "unread " ++ port_text nodes port ++ 10 ∷ []

unfoldable pub unread_lines : List Node → AuditedPort → List ℕ
unread_lines nodes port = if is_unread port then unread_line nodes port.port else []

-- `moved c1/1 5 0x98039b0300d05031 0x98039b0300d05041`: the LID, the GUID of the discovery, and that which answered
abbrev pub moved_line : List Node → AuditedPort → ℕ → List ℕ
moved_line nodes port guid =
    codes "moved " ++ port_text nodes port.port ++ codes " " ++ decimal port.lid ++ codes " " ++ guid_text port.guid
    ++ codes " " ++ guid_text guid ++ 10 ∷ []

abbrev pub moved_by_guid : List Node → AuditedPort → Option ℕ → List ℕ
moved_by_guid nodes port (Some guid) = moved_line nodes port guid
moved_by_guid nodes port None = []

unfoldable pub moved_lines : List Node → AuditedPort → List ℕ
moved_lines nodes port = moved_by_guid nodes port port.moved

-- ---- counts
abbrev pub code_of_kind : DifferenceKind → ℕ
code_of_kind Extra = 0
code_of_kind Missing = 1
code_of_kind Membership = 2
code_of_kind Full = 3
code_of_kind Off = 4
code_of_kind Half = 5
code_of_kind Lacks = 6
code_of_kind More = 7
code_of_kind UnreadSwitchPort = 8

abbrev pub is_of : DifferenceKind → Difference → Bool
is_of kind difference = code_of_kind difference.kind == code_of_kind kind

abbrev pub count_of : DifferenceKind → List Difference → ℕ
count_of kind differences = count_by (is_of kind) differences

abbrev pub is_as_file : AuditedPort → Bool
is_as_file port = follows_file port

abbrev pub is_moved : AuditedPort → Bool
is_moved port = is_some port.moved

abbrev pub is_faced : AuditedPort → Bool
is_faced port = is_some port.facing

-- `ports: 6, 3 as the file, 0 unread, 0 moved`
unfoldable pub read_part : List AuditedPort → List ℕ
read_part ports = codes "ports: " ++ decimal (length ports) ++ codes ", " ++ decimal (count_by is_as_file ports) ++ codes " as the file, "

unfoldable pub unread_part : List AuditedPort → List ℕ
unread_part ports = decimal (count_by is_unread ports) ++ codes " unread, " ++ decimal (count_by is_moved ports) ++ codes " moved\n"

abbrev pub ports_line : List AuditedPort → List ℕ
ports_line ports = read_part ports ++ unread_part ports

-- `keys: 2 extra, 1 missing, 1 of other membership`
unfoldable pub keys_line : List Difference → List ℕ
keys_line differences =
    codes "keys: " ++ decimal (count_of Extra differences) ++ codes " extra, " ++ decimal (count_of Missing differences) ++ codes " missing, "
    ++ decimal (count_of Membership differences) ++ codes " of other membership\n"

-- `switch ports: 4, 1 off, 1 half, 0 unread`
unfoldable pub off_part : List AuditedPort → List Difference → List ℕ
off_part ports differences =
    codes "switch ports: " ++ decimal (count_by is_faced ports) ++ codes ", " ++ decimal (count_of Off differences) ++ codes " off, "

unfoldable pub half_part : List Difference → List ℕ
half_part differences = decimal (count_of Half differences) ++ codes " half, " ++ decimal (count_of UnreadSwitchPort differences) ++ codes " unread\n"

abbrev pub switch_ports_line : List AuditedPort → List Difference → List ℕ
switch_ports_line ports differences = off_part ports differences ++ half_part differences

-- `bases: 2 lacking, 1 more`
unfoldable pub bases_line : List Difference → List ℕ
bases_line differences =
    codes "bases: " ++ decimal (count_of Lacks differences) ++ codes " lacking, " ++ decimal (count_of More differences) ++ codes " more\n"

abbrev pub verdict_line : (is_clean agrees : Bool) → List ℕ
verdict_line true agrees = codes "verdict: the tables follow the file\n"
verdict_line false true = codes "verdict: not all tables were read; those that were follow the file\n"
verdict_line false false = codes "verdict: the tables do not follow the file\n"

abbrev pub verdict : List AuditedPort → List ℕ
verdict ports = verdict_line (are_clean ports) (all_agree ports)

-- ---- switch ports; if none drops anything, one line says so
abbrev pub are_off : (faced off : ℕ) → Bool
are_off faced off = not (faced == 0) && (off == faced)

unfoldable pub switch_lines : List Node → List AuditedPort → List Difference → List ℕ
switch_lines nodes ports switches =
    if are_off (count_by is_faced ports) (count_of Off switches) then codes "off everywhere\n" else flat_map (difference_line nodes) switches

-- ---- the whole
abbrev pub is_of_key_any : List Difference → Bool
is_of_key_any keys = list_any is_of_key keys

-- what counts most comes first
unfoldable pub first_lines : List Node → (all : Bool) → List AuditedPort → List Difference → List ℕ
first_lines nodes all ports keys =
    diagnosis nodes ports (is_of_key_any keys) (not (count_of Full keys == 0)) (is_another (strays ports) (not (count_of Full keys == 0)))
    ++ strays ports ++ pair_changes nodes all ports ++ flat_map (difference_line nodes) keys

unfoldable pub later_lines : List Node → List AuditedPort → List Partition → List Difference → List ℕ
later_lines nodes ports partitions switches =
    switch_lines nodes ports switches ++ flat_map (cut_lines nodes ports) ports ++ flat_map (trunk_lines nodes) ports
    ++ flat_map (moved_lines nodes) ports ++ flat_map (unread_lines nodes) ports ++ strangers nodes ports partitions
    ++ wide_lines ports

unfoldable pub counts_of : List AuditedPort → List Difference → List Difference → List ℕ
counts_of ports keys switches = ports_line ports ++ keys_line keys ++ switch_ports_line ports switches ++ bases_line switches

unfoldable pub text_by : List Node → (all : Bool) → List AuditedPort → List Partition → List Difference → List Difference → List ℕ
text_by nodes all ports partitions keys switches =
    first_lines nodes all ports keys ++ later_lines nodes ports partitions switches ++ counts_of ports keys switches
    ++ verdict ports

-- over any ports; `all` asks for each pair of end ports
unfoldable pub audit_of : List Node → (all : Bool) → List AuditedPort → List Partition → KeysAuditState
audit_of nodes all ports partitions = record {
  text = text_by nodes all ports partitions (flat_map port_differences ports) (flat_map facing_differences ports);
  is_clean = are_clean ports;
}

-- of the files
abbrev pub keys_audit : TopologyState → DiscoveryState → List Answer → List Partition → (all : Bool) → KeysAuditState
keys_audit plan discovery answers partitions all =
    audit_of plan.nodes all (ports_of_files plan discovery answers partitions) partitions

-- of the files, if the partition file is refused: whether every port that was read has 0xffff alone. Their tables do not depend on
-- the partitions
abbrev pub audit_without_partitions : TopologyState → DiscoveryState → List Answer → List ℕ
audit_without_partitions plan discovery answers = open_line (ports_of_files plan discovery answers no_file)
