-- How the tables of end ports differ from the partition file, and those of the switch ports that face them from theirs.
use Rattle.std.specs.Prelude.{ℕ, Bool, true, false, not, ◌==◌, ◌&&◌, ◌||◌, length, List, [], ◌∷◌, ◌++◌, map, Option, Some, None, if◌then◌else◌}
use Rattle.std.specs.List.{list_all}
use Rattle.fabric_parts.specs.declared.cable.PortRef.{PortRef}
use Rattle.pkey_rules.specs.KeyTable.{has_base, holds}
use Rattle.pkey_rules.specs.PKey.{base_of}
use Rattle.audit_keys.specs.declared.differences.Difference.{Difference}
use Rattle.audit_keys.specs.declared.differences.DifferenceKind.{DifferenceKind}
use Rattle.audit_keys.specs.declared.differences.DifferenceKind.TheVariants.{Extra, Missing, Membership, Full, Off, Half, Lacks, More, UnreadSwitchPort}
use Rattle.audit_ports.specs.declared.port.AuditedPort.{AuditedPort}
use Rattle.audit_ports.specs.declared.port.Enforcement.{Enforcement}
use Rattle.audit_ports.specs.declared.port.FacingPort.{FacingPort}
use Rattle.audit_ports.specs.declared.port.HeldKeys.{HeldKeys}
use Rattle.audit_ports.specs.Held.{have_same_bases, have_same_keys, of_other_bases, of_other_membership}

-- OpenSM, by its own reading of the file, makes just this of the key's base
abbrev pub is_by_opensm : DifferenceKind → (opensms : List ℕ) → (key : ℕ) → Bool
is_by_opensm Extra opensms key = holds key opensms
is_by_opensm Membership opensms key = holds key opensms
is_by_opensm Missing opensms key = not (has_base (base_of key) opensms)
is_by_opensm Full opensms key = false
is_by_opensm Off opensms key = false
is_by_opensm Half opensms key = false
is_by_opensm Lacks opensms key = false
is_by_opensm More opensms key = false
is_by_opensm UnreadSwitchPort opensms key = false

abbrev pub difference_of : DifferenceKind → PortRef → (opensms : List ℕ) → (key : ℕ) → Difference
difference_of kind port opensms key = record { kind = kind; port = port; key = key; is_opensms = is_by_opensm kind opensms key }

-- one difference for each of these keys
abbrev pub each : DifferenceKind → PortRef → (opensms keys : List ℕ) → List Difference
each kind port opensms keys = map (difference_of kind port opensms) keys

-- ---- of an end port: keys that stand and that the file does not give, keys that it gives and that do not stand, and keys that
-- stand with the other membership
unfoldable pub differences_with : PortRef → (keys file opensms : List ℕ) → List Difference
differences_with port keys file opensms =
    each Extra port opensms (of_other_bases keys file) ++ each Missing port opensms (of_other_bases file keys)
    ++ each Membership port opensms (of_other_membership keys file)

-- a table that lacks keys and has no empty place
abbrev pub lacks_room : HeldKeys → List ℕ → Bool
lacks_room table file = table.is_full && not (length (of_other_bases file table.keys) == 0)

abbrev pub noted : DifferenceKind → PortRef → List Difference
noted kind port = record { kind = kind; port = port; key = 0; is_opensms = false } ∷ []

abbrev pub noted_if : Bool → DifferenceKind → PortRef → List Difference
noted_if true kind port = noted kind port
noted_if false kind port = []

-- of a port that was not read nothing is said
abbrev pub differences_by : AuditedPort → Option HeldKeys → List Difference
differences_by port (Some table) =
    differences_with port.port table.keys port.file port.opensms ++ noted_if (lacks_room table port.file) Full port.port
differences_by port None = []

abbrev pub port_differences : AuditedPort → List Difference
port_differences port = differences_by port port.table

-- ---- of a switch port that faces an adapter port
abbrev pub enforces : Enforcement → Bool
enforces enforcement = enforcement.inbound || enforcement.outbound

abbrev pub enforces_both : Enforcement → Bool
enforces_both enforcement = enforcement.inbound && enforcement.outbound

-- a packet under a key of a base that it lacks is dropped there
unfoldable pub bases_with : PortRef → List ℕ → List ℕ → List Difference
bases_with port keys adapter =
    each Lacks port [] (map base_of (of_other_bases adapter keys)) ++ each More port [] (map base_of (of_other_bases keys adapter))

-- the tables of both ends are compared if both were read
abbrev pub bases_by : PortRef → Option HeldKeys → Option HeldKeys → List Difference
bases_by port (Some table) (Some adapter) = bases_with port table.keys adapter.keys
bases_by port (Some table) None = []
bases_by port None adapter = noted UnreadSwitchPort port

unfoldable pub enforced_by : PortRef → Enforcement → Option HeldKeys → Option HeldKeys → List Difference
enforced_by port enforcement table adapter =
    if enforces enforcement then noted_if (not (enforces_both enforcement)) Half port ++ bases_by port table adapter else noted Off port

abbrev pub facing_with : PortRef → Option Enforcement → Option HeldKeys → Option HeldKeys → List Difference
facing_with port (Some enforcement) table adapter = enforced_by port enforcement table adapter
facing_with port None table adapter = noted UnreadSwitchPort port

abbrev pub facing_by : Option FacingPort → Option HeldKeys → List Difference
facing_by (Some facing) adapter = facing_with facing.port facing.enforcement facing.table adapter
facing_by None adapter = []

abbrev pub facing_differences : AuditedPort → List Difference
facing_differences port = facing_by port.facing port.table

-- ---- the status: each end port was read and has the keys of the file, and each switch port that faces an adapter port was read and,
-- if it enforces, has the bases of the adapter port; and each port between switches that was read and enforces has the bases of the file
abbrev pub keys_follow : Option HeldKeys → List ℕ → Bool
keys_follow (Some table) file = have_same_keys table.keys file
keys_follow None file = false

abbrev pub follows_file : AuditedPort → Bool
follows_file port = keys_follow port.table port.file

abbrev pub tables_fit : Option HeldKeys → Option HeldKeys → Bool
tables_fit (Some table) (Some adapter) = have_same_bases table.keys adapter.keys
tables_fit _ _ = false

abbrev pub fits_if_enforced : Option Enforcement → Option HeldKeys → Option HeldKeys → Bool
fits_if_enforced (Some enforcement) table adapter = not (enforces enforcement) || tables_fit table adapter
fits_if_enforced None table adapter = false

abbrev pub facing_fits_by : Option FacingPort → Option HeldKeys → Bool
facing_fits_by (Some facing) adapter = fits_if_enforced facing.enforcement facing.table adapter
facing_fits_by None adapter = true

abbrev pub facing_fits : AuditedPort → Bool
facing_fits port = facing_fits_by port.facing port.table

-- of port 0 of a switch: each port of the switch that leads to another switch and drops packets has every base that the file gives
abbrev pub carries_all : AuditedPort → Bool
carries_all port = length port.lacks == 0

abbrev pub is_clean : AuditedPort → Bool
is_clean port = follows_file port && (facing_fits port && carries_all port)

abbrev pub are_clean : List AuditedPort → Bool
are_clean ports = list_all is_clean ports

-- ---- a difference is of a key, or of a base
abbrev pub is_of_key : Difference → Bool
is_of_key difference = not (difference.key == 0)

-- ---- the verdict, if not all was read: each table that was read has the keys of the file, and each table of a switch port that
-- enforces has the bases of the adapter port, if both were read
abbrev pub keys_follow_if_read : Option HeldKeys → List ℕ → Bool
keys_follow_if_read (Some table) file = have_same_keys table.keys file
keys_follow_if_read None file = true

abbrev pub tables_fit_if_read : Option HeldKeys → Option HeldKeys → Bool
tables_fit_if_read (Some table) (Some adapter) = have_same_bases table.keys adapter.keys
tables_fit_if_read _ _ = true

abbrev pub fits_if_read : Option Enforcement → Option HeldKeys → Option HeldKeys → Bool
fits_if_read (Some enforcement) table adapter = not (enforces enforcement) || tables_fit_if_read table adapter
fits_if_read None table adapter = true

abbrev pub facing_fits_if_read : Option FacingPort → Option HeldKeys → Bool
facing_fits_if_read (Some facing) adapter = fits_if_read facing.enforcement facing.table adapter
facing_fits_if_read None adapter = true

abbrev pub agrees : AuditedPort → Bool
agrees port = keys_follow_if_read port.table port.file && (facing_fits_if_read port.facing port.table && carries_all port)

abbrev pub all_agree : List AuditedPort → Bool
all_agree ports = list_all agrees ports
