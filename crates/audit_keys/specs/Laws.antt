-- What the status of an audit means, its pairs and its last line.
use Rattle.std.specs.Prelude.{ℕ, ◌≡◌, ◌≤◌, ◌↔◌, Bool, true, false, not, ◌&&◌, List, [], ◌∷◌, ◌++◌, codes, flat_map, replicate, slice_get, is_some, Some, IfSome, Option}
use Rattle.std.specs.List.{AllByRecursion, count_by, list_all}
use Rattle.std.specs.Str.Iter.{HasSubslice}
use Rattle.partition_reports.specs.declared.pairs.Pair.{Pair}
use Rattle.partition_reports.specs.PairLaws.{count_of_two}
use Rattle.partition_file.specs.declared.partition.Partition.{Partition}
use Rattle.pkey_rules.specs.KeyTable.{has_base, holds, shares_base}
use Rattle.pkey_rules.specs.PKey.{is_base}
use Rattle.topo_file.specs.declared.node.Node.{Node}
use Rattle.audit_ports.specs.declared.port.AuditedPort.{AuditedPort}
use Rattle.audit_ports.specs.declared.port.Enforcement.{Enforcement}
use Rattle.audit_ports.specs.declared.port.FacingPort.{FacingPort}
use Rattle.audit_ports.specs.declared.port.HeldKeys.{HeldKeys}
use Rattle.audit_ports.specs.declared.port.TrunkLack.{TrunkLack}
use Rattle.audit_keys.specs.declared.apart.Wide.{Wide}
use Rattle.audit_keys.specs.declared.differences.Difference.{Difference}
use Rattle.audit_keys.specs.declared.differences.DifferenceKind.TheVariants.{Off}
use Rattle.audit_keys.specs.Differences.{are_clean, enforces, facing_differences, port_differences}
use Rattle.audit_ports.specs.Held.{have_same_keys, held, is_key}
use Rattle.audit_keys.specs.Apart.{ranked}
use Rattle.audit_keys.specs.Standing.{only_by_file, only_by_tables}
use Rattle.audit_keys.specs.Text.{are_off, audit_of, count_of, difference_line, is_faced, is_unread, moved_line, trunk_line, unread_line, verdict}

-- every key is in both lists or in none
abbrev pub HaveSameKeys : List ℕ → List ℕ → Type 0
HaveSameKeys keys file = (key : ℕ) → holds key keys ≡ holds key file

-- every base is one of both lists or of none
abbrev pub HaveSameBases : List ℕ → List ℕ → Type 0
HaveSameBases keys file = (base : ℕ) → has_base base keys ≡ has_base base file

-- the table was read, and has exactly these keys
pub record HasKeys (table : Option HeldKeys) (file : List ℕ) : Type 0 where
  pub held : HeldKeys
  pub read : table ≡ Some held
  pub same : HaveSameKeys held.keys file

-- both tables were read, and have the same bases
pub record HaveBases (table adapter : Option HeldKeys) : Type 0 where
  pub held : HeldKeys
  pub other : HeldKeys
  pub read : table ≡ Some held
  pub other_read : adapter ≡ Some other
  pub same : HaveSameBases held.keys other.keys

-- what the switch port enforces was read, and if it drops packets, in one direction at least, it has the bases of the adapter port
pub record FitsIfEnforced (facing : FacingPort) (adapter : Option HeldKeys) : Type 0 where
  pub enforcement : Enforcement
  pub read : facing.enforcement ≡ Some enforcement
  pub bases : enforces enforcement ≡ true → HaveBases facing.table adapter

-- the port was read and has exactly the keys of the file, and the switch port that faces it fits; and if it is a switch's, its ports to other
-- switches that drop packets lack nothing
pub record IsRight (port : AuditedPort) : Type 0 where
  pub keys : HasKeys port.table port.file
  pub bases : IfSome port.facing (λ (facing : FacingPort). FitsIfEnforced facing port.table)
  pub trunks : port.lacks ≡ []

-- a rule passes the ports that are right, and no others
abbrev pub PassesTheRight : (AuditedPort → Bool) → Type 0
PassesTheRight rule = (port : AuditedPort) → (rule port ≡ true) ↔ IsRight port

-- this holds of each port
abbrev pub OfEach : (AuditedPort → Type 0) → List AuditedPort → Type 0
OfEach Is ports = (place : ℕ) (port : AuditedPort) → slice_get ports place ≡ Some port → Is port

-- the status is 0 if and only if every port is right
abbrev pub TheStatusIsThatOfEachPort : Type 0
TheStatusIsThatOfEachPort = (ports : List AuditedPort) → (are_clean ports ≡ true) ↔ OfEach IsRight ports

-- ---- pairs that may talk by the tables alone, or by the file alone
-- both tables were read, and some key of one matches some key of the other in the partition of this base
abbrev pub match_if_read : ℕ → Option HeldKeys → Option HeldKeys → Bool
match_if_read base (Some held) (Some other) = shares_base base held.keys other.keys
match_if_read base _ _ = false

abbrev pub talk_by_tables : ℕ → AuditedPort → AuditedPort → Bool
talk_by_tables base p q = match_if_read base p.table q.table

-- both tables were read, and the file gives the two ports keys that match
abbrev pub talk_by_file : ℕ → AuditedPort → AuditedPort → Bool
talk_by_file base p q = (is_some p.table && is_some q.table) && shares_base base p.file q.file

-- this is so of two ports and that is not, and their pair passes a test
abbrev pub talk_alone : (so other : AuditedPort → AuditedPort → Bool) → (Pair → Bool) → AuditedPort → AuditedPort → Bool
talk_alone so other test p q = (so p q && not (other p q)) && test (record { first = p.port; second = q.port })

-- of each two ports, one behind the other, of which this is so and that is not, a list has one pair, and no other: as many pairs pass
-- any test as such ports
abbrev pub HasThoseAlone : (ℕ → List AuditedPort → List Pair) → (so other : ℕ → AuditedPort → AuditedPort → Bool) → Type 0
HasThoseAlone pairs so other =
    (base : ℕ) (ports : List AuditedPort) (test : Pair → Bool) → is_base base ≡ true
    → count_by test (pairs base ports) ≡ count_of_two (talk_alone (so base) (other base) test) ports

abbrev pub PairsOfTablesAreTheirs : Type 0
PairsOfTablesAreTheirs = HasThoseAlone only_by_tables talk_by_tables talk_by_file

abbrev pub PairsOfTheFileAreIts : Type 0
PairsOfTheFileAreIts = HasThoseAlone only_by_file talk_by_file talk_by_tables

-- ---- the last line
-- what the switch port enforces was read, and if it drops packets, its table
pub record FacingWasRead (facing : FacingPort) : Type 0 where
  pub enforcement : Enforcement
  pub read : facing.enforcement ≡ Some enforcement
  pub table : enforces enforcement ≡ true → is_some facing.table ≡ true

pub record WasRead (port : AuditedPort) : Type 0 where
  pub table : is_some port.table ≡ true
  pub facing : IfSome port.facing FacingWasRead

-- if the switch port drops packets, and both tables were read, they have the same bases
abbrev pub FitsAsRead : FacingPort → Option HeldKeys → Type 0
FitsAsRead facing adapter =
    (enforcement : Enforcement) (held other : HeldKeys) → facing.enforcement ≡ Some enforcement → enforces enforcement ≡ true
    → facing.table ≡ Some held → adapter ≡ Some other → HaveSameBases held.keys other.keys

-- what was read of the port and of the switch port that faces it is as the file
pub record IsRightAsRead (port : AuditedPort) : Type 0 where
  pub keys : IfSome port.table (λ (held : HeldKeys). HaveSameKeys held.keys port.file)
  pub bases : IfSome port.facing (λ (facing : FacingPort). FitsAsRead facing port.table)
  pub trunks : port.lacks ≡ []

-- each of the three lines is printed if and only if it is true
pub record SaysWhatWasRead (line : List AuditedPort → List ℕ) (ports : List AuditedPort) : Type 0 where
  pub follow : (line ports ≡ codes "verdict: the tables follow the file\n") ↔ OfEach IsRight ports
  pub some_unread : (line ports ≡ codes "verdict: not all tables were read; those that were follow the file\n")
      ↔ ((OfEach WasRead ports → ⊥) × OfEach IsRightAsRead ports)
  pub differ : (line ports ≡ codes "verdict: the tables do not follow the file\n") ↔ (OfEach IsRightAsRead ports → ⊥)

abbrev pub IsTrueVerdict : (List AuditedPort → List ℕ) → Type 0
IsTrueVerdict line = (ports : List AuditedPort) → SaysWhatWasRead line ports

-- the text ends with it
pub record TheTextEndsWith (line : List AuditedPort → List ℕ) (text : List ℕ) (ports : List AuditedPort) : Type 0 where
  pub before : List ℕ
  pub is : text ≡ before ++ line ports

pub record TheVerdictIsTrue : Type 0 where
  pub is : IsTrueVerdict verdict
  pub last : (nodes : List Node) (all : Bool) (ports : List AuditedPort) (partitions : List Partition)
      → TheTextEndsWith verdict (audit_of nodes all ports partitions).text ports

-- ---- the lines
-- the text says all that is wrong of a port: by which keys it differs, how the switch port that faces it does, if any of these drops
-- packets, what its ports to other switches lack, that it was not read, or that its LID moved
pub record SaysAllOf (text : List ℕ) (nodes : List Node) (ports : List AuditedPort) (port : AuditedPort) : Type 0 where
  pub keys : (number : ℕ) (difference : Difference) → slice_get (port_differences port) number ≡ Some difference
      → HasSubslice text (difference_line nodes difference)
  pub switch_port : (number : ℕ) (difference : Difference) → slice_get (facing_differences port) number ≡ Some difference
      → are_off (count_by is_faced ports) (count_of Off (flat_map facing_differences ports)) ≡ false → HasSubslice text (difference_line nodes difference)
  pub trunks : (number : ℕ) (lack : TrunkLack) → slice_get port.lacks number ≡ Some lack → HasSubslice text (trunk_line nodes lack)
  pub unread : is_unread port ≡ true → HasSubslice text (unread_line nodes port.port)
  pub moved : (guid : ℕ) → port.moved ≡ Some guid → HasSubslice text (moved_line nodes port guid)

abbrev pub PrintsAll : (List Node → (all : Bool) → List AuditedPort → List Partition → List ℕ) → Type 0
PrintsAll text =
    (nodes : List Node) (all : Bool) (ports : List AuditedPort) (partitions : List Partition)
    → OfEach (SaysAllOf (text nodes all ports partitions) nodes ports) ports

abbrev pub AllDifferencesArePrinted : Type 0
AllDifferencesArePrinted = PrintsAll (λ nodes all ports partitions. (audit_of nodes all ports partitions).text)

-- ---- a table that has the keys of the file, with empty places before and behind them, follows it, if its keys are taken so
abbrev pub FindsTheKeys : (List ℕ → List ℕ) → Type 0
FindsTheKeys keys =
    (file : List ℕ) (before behind : ℕ) → list_all is_key file ≡ true
    → have_same_keys (keys (replicate before 0 ++ file ++ replicate behind 0)) file ≡ true

abbrev pub TablesThatFollowAreClean : Type 0
TablesThatFollowAreClean = FindsTheKeys (λ words. (held words).keys)

-- ---- partitions in which the file lets many pairs talk: those in which most may come first, and none is left out or comes twice
abbrev pub Fall : List Wide → Type 0
Fall [] = Unit {0}
Fall (one ∷ behind) = AllByRecursion (λ other. other.count ≤ one.count) behind × Fall behind

pub record PutsTheWidestFirst (rule : List Wide → List Wide) : Type 0 where
  pub falls : (all : List Wide) → Fall (rule all)
  pub same : (all : List Wide) (test : Wide → Bool) → count_by test (rule all) ≡ count_by test all

abbrev pub TheWidestComeFirst : Type 0
TheWidestComeFirst = PutsTheWidestFirst ranked
