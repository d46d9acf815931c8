-- What many differences have in common: one line for each that fits.
use Rattle.std.specs.Prelude.{ℕ, Bool, true, false, not, ◌==◌, ◌&&◌, List, [], ◌∷◌, ◌++◌, codes, flat_map, length, if◌then◌else◌, Option, Some, None, is_some}
use Rattle.std.specs.List.{list_all, list_any}
use Rattle.fabric_parts.specs.declared.cable.PortRef.{PortRef}
use Rattle.partition_reports.specs.Membership.{is_full_member, membership_of}
use Rattle.pkey_rules.specs.PKey.{default_base}
use Rattle.topo_file.specs.declared.node.Node.{Node}
use Rattle.audit_ports.specs.declared.port.AuditedPort.{AuditedPort}
use Rattle.audit_ports.specs.declared.port.HeldKeys.{HeldKeys}
use Rattle.audit_ports.specs.Held.{have_same_keys}
use Rattle.audit_ports.specs.Names.{port_text}

abbrev pub is_read : AuditedPort → Bool
is_read port = is_some port.table

abbrev pub line_if : Bool → List ℕ → List ℕ
line_if true words = codes "diagnosis: " ++ words ++ 10 ∷ []
line_if false words = []

-- ---- every port that was read has the full key of the default partition and no other
abbrev pub is_default : (key : ℕ) → Bool
is_default key = key == 65535

abbrev pub has_default_alone : Option HeldKeys → Bool
has_default_alone (Some table) = not (length table.keys == 0) && list_all is_default table.keys
has_default_alone None = true

abbrev pub has_default_port : AuditedPort → Bool
has_default_port port = has_default_alone port.table

abbrev pub fell_open : List AuditedPort → Bool
fell_open ports = list_any is_read ports && list_all has_default_port ports

unfoldable pub open_line : List AuditedPort → List ℕ
open_line ports = line_if (fell_open ports) (codes "every port that was read has 0xffff alone: OpenSM dropped its file, or had none")

-- ---- every table that was read has the keys that OpenSM reads in the file
abbrev pub is_as_opensm : Option HeldKeys → (opensms : List ℕ) → Bool
is_as_opensm (Some table) opensms = have_same_keys table.keys opensms
is_as_opensm None opensms = true

abbrev pub all_as_opensm : List AuditedPort → Bool
all_as_opensm ports = list_all (λ port. is_as_opensm port.table port.opensms) ports

-- ---- the SM port is no full member of the default partition
abbrev pub is_limited : Option HeldKeys → Bool
is_limited (Some table) = not (is_full_member (membership_of default_base table.keys))
is_limited None = false

unfoldable pub is_cut_off : AuditedPort → Bool
is_cut_off port = port.is_manager && is_limited port.table

unfoldable pub manager_words : List ℕ
manager_words = codes "diagnosis: the SM port "

unfoldable pub limited_words : List ℕ
limited_words = codes " is not a full member of 0x7fff: limited members cannot ask the SA"

unfoldable pub limited_line : List Node → PortRef → List ℕ
limited_line nodes port = manager_words ++ port_text nodes port ++ limited_words ++ 10 ∷ []

unfoldable pub manager_line : List Node → AuditedPort → List ℕ
manager_line nodes port = if is_cut_off port then limited_line nodes port.port else []

-- ---- all of them, if tables differ from the file; `others` says whether they follow another file
unfoldable pub opensms_line : List AuditedPort → List ℕ
opensms_line ports = line_if (all_as_opensm ports) (codes "OpenSM reads this file so: if several words name a port, it takes the last")

unfoldable pub another_line : (others : Bool) → List ℕ
another_line others = line_if others (codes "the tables follow another file, or another program wrote them: see stray and absent")

unfoldable pub other_causes : List AuditedPort → (others : Bool) → List ℕ
other_causes ports others = opensms_line ports ++ another_line others

unfoldable pub cause_lines : List AuditedPort → (others : Bool) → List ℕ
cause_lines ports others =
    if fell_open ports then open_line ports
    else other_causes ports others

unfoldable pub causes_if : List AuditedPort → (differs others : Bool) → List ℕ
causes_if ports differs others = if differs then cause_lines ports others else []

-- a full table explains what stands alone
abbrev pub is_another : (others : List ℕ) → (is_full : Bool) → Bool
is_another others is_full = not (length others == 0) && not is_full

unfoldable pub full_line : (is_full : Bool) → List ℕ
full_line is_full = line_if is_full (codes "a table has no place for keys of the file: see full")

unfoldable pub diagnosis : List Node → List AuditedPort → (differs is_full others : Bool) → List ℕ
diagnosis nodes ports differs is_full others =
    causes_if ports differs others ++ flat_map (manager_line nodes) ports
    ++ full_line is_full
