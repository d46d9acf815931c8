-- Wrong rules for the status, the pairs and the last line, and the law that each breaks.
use Rattle.std.specs.Prelude.{ℕ, Bool, true, false, not, ◌&&◌, ◌||◌, List, [], ◌∷◌, ◌++◌, flat_map, map, take, if◌then◌else◌, Option, Some, None, is_none}
use Rattle.std.specs.List.{list_all}
use Rattle.partition_reports.specs.declared.membership.Membership.{Membership}
use Rattle.partition_reports.specs.declared.membership.Membership.TheVariants.{Outside, Limited, Full}
use Rattle.partition_reports.specs.declared.pairs.Member.{Member}
use Rattle.partition_reports.specs.declared.pairs.Pair.{Pair}
use Rattle.partition_reports.specs.ChangedPairs.{new_pairs}
use Rattle.partition_reports.specs.PairWrongRules.{talking_pairs}
use Rattle.audit_ports.specs.declared.port.AuditedPort.{AuditedPort}
use Rattle.audit_ports.specs.declared.port.Enforcement.{Enforcement}
use Rattle.audit_ports.specs.declared.port.FacingPort.{FacingPort}
use Rattle.audit_ports.specs.declared.port.HeldKeys.{HeldKeys}
use Rattle.audit_keys.specs.Differences.{all_agree, carries_all, enforces_both, facing_differences, facing_fits, facing_fits_if_read, fits_if_enforced, follows_file, is_clean, keys_follow_if_read, port_differences, tables_fit}
use Rattle.audit_ports.specs.Held.{all_held, have_same_bases, is_key}
use Rattle.audit_keys.specs.declared.apart.Wide.{Wide}
use Rattle.audit_keys.specs.Apart.{ranked}
use Rattle.audit_keys.specs.Laws.{FindsTheKeys, HasThoseAlone, IsTrueVerdict, PassesTheRight, PrintsAll, PutsTheWidestFirst, talk_by_file, talk_by_tables}
use Rattle.audit_keys.specs.Standing.{standing, turned}
use Rattle.audit_keys.specs.Text.{counts_of, difference_line, unread_lines, verdict, verdict_line}
use Rattle.partition_file.specs.declared.partition.Partition.{Partition}
use Rattle.topo_file.specs.declared.node.Node.{Node}

-- ---- membership is ignored: bases are compared
abbrev pub same_bases_stand : Option HeldKeys → List ℕ → Bool
same_bases_stand (Some table) file = have_same_bases table.keys file
same_bases_stand None file = false

abbrev pub by_bases : AuditedPort → Bool
by_bases port = same_bases_stand port.table port.file && (facing_fits port && carries_all port)

abbrev pub BasesAreNotEnough : Type 0
BasesAreNotEnough = PassesTheRight by_bases → ⊥

-- ---- what stands is in the file, whatever is missing
abbrev pub all_are_given : Option HeldKeys → List ℕ → Bool
all_are_given (Some table) file = all_held table.keys file
all_are_given None file = false

abbrev pub without_missing : AuditedPort → Bool
without_missing port = all_are_given port.table port.file && (facing_fits port && carries_all port)

abbrev pub MissingKeysCount : Type 0
MissingKeysCount = PassesTheRight without_missing → ⊥

-- ---- a port that was not read is let pass
abbrev pub or_unread : AuditedPort → Bool
or_unread port = is_none port.table || is_clean port

abbrev pub UnreadPortsDoNotPass : Type 0
UnreadPortsDoNotPass = PassesTheRight or_unread → ⊥

-- ---- a switch port that was not read is let pass
abbrev pub fits_or_unread : Option FacingPort → Option HeldKeys → Bool
fits_or_unread (Some facing) adapter = is_none facing.enforcement || fits_if_enforced facing.enforcement facing.table adapter
fits_or_unread None adapter = true

abbrev pub with_unread_switch : AuditedPort → Bool
with_unread_switch port = follows_file port && (fits_or_unread port.facing port.table && carries_all port)

abbrev pub UnreadSwitchPortsDoNotPass : Type 0
UnreadSwitchPortsDoNotPass = PassesTheRight with_unread_switch → ⊥

-- ---- a switch port that drops packets in one direction alone enforces nothing
abbrev pub fits_if_both : Option Enforcement → Option HeldKeys → Option HeldKeys → Bool
fits_if_both (Some enforcement) table adapter = not (enforces_both enforcement) || tables_fit table adapter
fits_if_both None table adapter = false

abbrev pub facing_fits_both : Option FacingPort → Option HeldKeys → Bool
facing_fits_both (Some facing) adapter = fits_if_both facing.enforcement facing.table adapter
facing_fits_both None adapter = true

abbrev pub with_both : AuditedPort → Bool
with_both port = follows_file port && (facing_fits_both port.facing port.table && carries_all port)

abbrev pub OneDirectionCounts : Type 0
OneDirectionCounts = PassesTheRight with_both → ⊥

-- ---- switch ports that face adapter ports are not looked at
abbrev pub own_alone : AuditedPort → Bool
own_alone port = follows_file port && carries_all port

abbrev pub OwnTablesAreNotEnough : Type 0
OwnTablesAreNotEnough = PassesTheRight own_alone → ⊥

-- ---- ports between switches are not looked at, by the status or by the last line
abbrev pub without_trunks : AuditedPort → Bool
without_trunks port = follows_file port && facing_fits port

abbrev pub agrees_without_trunks : AuditedPort → Bool
agrees_without_trunks port = keys_follow_if_read port.table port.file && facing_fits_if_read port.facing port.table

abbrev pub verdict_without_trunks : List AuditedPort → List ℕ
verdict_without_trunks ports = verdict_line (list_all without_trunks ports) (list_all agrees_without_trunks ports)

pub record TrunksCount : Type 0 where
  pub status : PassesTheRight without_trunks → ⊥
  pub line : IsTrueVerdict verdict_without_trunks → ⊥

-- ---- two limited members may talk
abbrev pub as_full : Membership → Membership
as_full Outside = Outside
as_full Limited = Full
as_full Full = Full

abbrev pub full_member : Member → Member
full_member member = record { port = member.port; after = as_full member.after; before = as_full member.before }

abbrev pub members_by_tables : ℕ → List AuditedPort → List Pair
members_by_tables base ports = new_pairs (map (λ port. full_member (standing base port)) ports)

abbrev pub members_by_file : ℕ → List AuditedPort → List Pair
members_by_file base ports = new_pairs (map (λ port. full_member (turned base port)) ports)

pub record LimitedMembersDoNotTalk : Type 0 where
  pub tables : HasThoseAlone members_by_tables talk_by_tables talk_by_file → ⊥
  pub file : HasThoseAlone members_by_file talk_by_file talk_by_tables → ⊥

-- ---- who may talk by the tables is listed, whatever the file says; and the other way round
abbrev pub all_by_tables : ℕ → List AuditedPort → List Pair
all_by_tables base ports = talking_pairs (map (standing base) ports)

abbrev pub all_by_file : ℕ → List AuditedPort → List Pair
all_by_file base ports = talking_pairs (map (turned base) ports)

pub record BothMayTalk : Type 0 where
  pub tables : HasThoseAlone all_by_tables talk_by_tables talk_by_file → ⊥
  pub file : HasThoseAlone all_by_file talk_by_file talk_by_tables → ⊥

-- ---- what was not read follows the file
abbrev pub verdict_of_read : List AuditedPort → List ℕ
verdict_of_read ports = verdict_line (all_agree ports) (all_agree ports)

abbrev pub UnreadTablesDoNotFollow : Type 0
UnreadTablesDoNotFollow = IsTrueVerdict verdict_of_read → ⊥

-- ---- a switch port that drops packets is left out of the last line
abbrev pub end_agrees : AuditedPort → Bool
end_agrees port = keys_follow_if_read port.table port.file && carries_all port

abbrev pub verdict_of_ends : List AuditedPort → List ℕ
verdict_of_ends ports = verdict_line (list_all own_alone ports) (list_all end_agrees ports)

abbrev pub SwitchPortsCount : Type 0
SwitchPortsCount = IsTrueVerdict verdict_of_ends → ⊥

-- ---- the first empty place ends the table
abbrev pub up_to_a_gap : List ℕ → List ℕ
up_to_a_gap [] = []
up_to_a_gap (word ∷ words) = if is_key word then word ∷ up_to_a_gap words else []

abbrev pub GapsDoNotEndTheTable : Type 0
GapsDoNotEndTheTable = FindsTheKeys up_to_a_gap → ⊥

-- ---- empty places are keys too
abbrev pub EmptyPlacesAreNoKeys : Type 0
EmptyPlacesAreNoKeys = FindsTheKeys (λ words. words) → ⊥

-- ---- counts and the last line are printed alone
abbrev pub counts_alone : List Node → (all : Bool) → List AuditedPort → List Partition → List ℕ
counts_alone nodes all ports partitions = counts_of ports (flat_map port_differences ports) (flat_map facing_differences ports) ++ verdict ports

abbrev pub DifferencesArePrinted : Type 0
DifferencesArePrinted = PrintsAll counts_alone → ⊥

-- ---- differences are printed alone, and no port that was not read
abbrev pub only_differences : List Node → (all : Bool) → List AuditedPort → List Partition → List ℕ
only_differences nodes all ports partitions = flat_map (difference_line nodes) (flat_map port_differences ports) ++ counts_alone nodes all ports partitions

abbrev pub UnreadPortsArePrinted : Type 0
UnreadPortsArePrinted = PrintsAll only_differences → ⊥

-- ---- differences and ports that were not read are printed alone, and nothing of ports between switches
abbrev pub only_ends : List Node → (all : Bool) → List AuditedPort → List Partition → List ℕ
only_ends nodes all ports partitions = flat_map (unread_lines nodes) ports ++ only_differences nodes all ports partitions

abbrev pub TrunksArePrinted : Type 0
TrunksArePrinted = PrintsAll only_ends → ⊥

-- ---- partitions in which many pairs may talk come by base, or the greatest comes alone
abbrev pub by_base : List Wide → List Wide
by_base all = all

abbrev pub BasesDoNotRank : Type 0
BasesDoNotRank = PutsTheWidestFirst by_base → ⊥

abbrev pub widest : List Wide → List Wide
widest all = take 1 (ranked all)

abbrev pub OthersCountToo : Type 0
OthersCountToo = PutsTheWidestFirst widest → ⊥
