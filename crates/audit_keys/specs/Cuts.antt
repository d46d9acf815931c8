-- Whom a switch port that lacks a base cuts its adapter port off from.
use Rattle.std.specs.Prelude.{ℕ, Bool, not, ◌==◌, ◌&&◌, List, [], ◌++◌, codes, count_by, flat_map, map, if◌then◌else◌, Option, Some, None}
use Rattle.fabric_parts.specs.Cable.{is_same_port}
use Rattle.fabric_parts.specs.declared.cable.PortRef.{PortRef}
use Rattle.partition_reports.specs.Membership.{may_talk}
use Rattle.pkey_rules.specs.PKey.{base_of}
use Rattle.topo_file.specs.declared.node.Node.{Node}
use Rattle.audit_ports.specs.declared.port.AuditedPort.{AuditedPort}
use Rattle.audit_ports.specs.declared.port.Enforcement.{Enforcement}
use Rattle.audit_ports.specs.declared.port.FacingPort.{FacingPort}
use Rattle.audit_ports.specs.declared.port.HeldKeys.{HeldKeys}
use Rattle.audit_keys.specs.Differences.{enforces}
use Rattle.audit_ports.specs.Held.{of_other_bases}
use Rattle.audit_ports.specs.Names.{port_text}
use Rattle.audit_keys.specs.Standing.{line_of_count, standing}

-- by their tables the two may talk in the partition of this base
abbrev pub talks_with : ℕ → AuditedPort → AuditedPort → Bool
talks_with base port other = not (is_same_port port.port other.port) && may_talk (standing base port).after (standing base other).after

-- `cut right/1 0x0103 2`: at this switch port packets between its adapter port and two others are dropped
abbrev pub line_unless_none : (words : List ℕ) → (base count : ℕ) → List ℕ
line_unless_none words base count = if count == 0 then [] else line_of_count words base count

unfoldable pub cut_line : List Node → List AuditedPort → AuditedPort → PortRef → (base : ℕ) → List ℕ
cut_line nodes ports port switch base =
    line_unless_none (codes "cut " ++ port_text nodes switch) base (count_by (talks_with base port) ports)

-- the bases of the adapter port that the switch port lacks
abbrev pub lacking : (table adapter : Option HeldKeys) → List ℕ
lacking (Some table) (Some adapter) = map base_of (of_other_bases adapter.keys table.keys)
lacking _ _ = []

abbrev pub lacking_if : Option Enforcement → (table adapter : Option HeldKeys) → List ℕ
lacking_if (Some enforcement) table adapter = if enforces enforcement then lacking table adapter else []
lacking_if None table adapter = []

abbrev pub cut_lines_by : List Node → List AuditedPort → AuditedPort → Option FacingPort → List ℕ
cut_lines_by nodes ports port (Some facing) =
    flat_map (cut_line nodes ports port facing.port) (lacking_if facing.enforcement facing.table port.table)
cut_lines_by nodes ports port None = []

unfoldable pub cut_lines : List Node → List AuditedPort → AuditedPort → List ℕ
cut_lines nodes ports port = cut_lines_by nodes ports port port.facing
