-- What goes is what was said and is said no more; what comes is what was not said before.
use Rattle.std.specs.Prelude.{ℕ, ◌≡◌, ◌↔◌, Bool, true, false, not, ◌==◌, ◌&&◌, if◌then◌else◌, List, [], ◌∷◌, ◌++◌, Option, Some, None, map, All}
use Rattle.std.specs.List.{IsDistinct, count_by, list_any, zip}
use Rattle.std.specs.Option.{option_map_or}
use Rattle.partition_reports.specs.Changes.{Change, bases_named, change_of_member_line, changes_text, group_changes, group_line, grouped, member_changes, member_of, partition_changes, partition_line, partition_of, same_group, same_member, same_partition, same_share, share_changes, text_of_changes}
use Rattle.partition_file.specs.declared.broadcast_group.BroadcastGroup.{BroadcastGroup}
use Rattle.partition_file.specs.declared.heading.Heading.{Heading}
use Rattle.pkey_rules.specs.PKey.{base_of}
use Rattle.partition_reports.specs.Shares.{Share, share_line, shares}
use Rattle.subnet_model.specs.Configuration.{ConfigurationState}
use Rattle.subnet_model.specs.Configured.{HoldsKnownKeys}
use Rattle.subnet_model.specs.Near.{is_near}
use Rattle.subnet_model.specs.declared.subnet_port.SubnetPort.{SubnetPort}

-- this is what is said
abbrev pub says : {X : Type 0} → (X → X → Bool) → X → Option X → Bool
says same x said = option_map_or (same x) said false

-- how many of these changes say that it goes, or that it comes
abbrev pub goings : {X : Type 0} → (X → X → Bool) → X → List (Change X) → ℕ
goings same x changes = count_by (λ change. not change.comes && same x change.what) changes

abbrev pub comings : {X : Type 0} → (X → X → Bool) → X → List (Change X) → ℕ
comings same x changes = count_by (λ change. change.comes && same x change.what) changes

-- one if it is so, else none
abbrev pub one_if : Bool → ℕ
one_if so = if so then 1 else 0

-- changes say exactly what of two files one has and the other has not, each of it once
pub record ReportWhatChanges {X : Type 0} (same : X → X → Bool) (before after : X → Bool) (changes : List (Change X)) : Type 0 where
  pub gone : (x : X) → goings same x changes ≡ one_if (before x && not (after x))
  pub come : (x : X) → comings same x changes ≡ one_if (after x && not (before x))

-- ---- partitions, by base, number and name
abbrev pub has_partition : List Heading → ℕ × Heading → Bool
has_partition headings x = says same_partition x (partition_of headings x.1.base)

abbrev pub PartitionsAreReported : Type 0
PartitionsAreReported =
    (before after : List Heading) → ReportWhatChanges same_partition (has_partition before) (has_partition after)
    (partition_changes before after)

-- ---- groups, by base and all that their lines say
abbrev pub has_group : List Heading → Heading → Bool
has_group headings x = says same_group x (grouped headings x.base)

abbrev pub GroupsAreReported : Type 0
GroupsAreReported =
    (before after : List Heading) → ReportWhatChanges same_group (has_group before) (has_group after) (group_changes before after)

-- ---- members, by port and key
abbrev pub same_guid : SubnetPort → SubnetPort → Bool
same_guid a b = a.guid == b.guid

-- the ports are the same, in the same order, and each has a GUID of its own
pub record AreSamePorts (before after : List SubnetPort) : Type 0 where
  pub same : map (λ port. port.guid) before ≡ map (λ port. port.guid) after
  pub own : IsDistinct same_guid before

abbrev pub has_member : List SubnetPort → SubnetPort × ℕ → Bool
has_member ports x = list_any (λ port. says same_member x (member_of (base_of x.1) port)) ports

-- of members of these partitions
abbrev pub is_of : List ℕ → SubnetPort × ℕ → Bool
is_of bases x = list_any (λ base. base == base_of x.1) bases

abbrev pub MembersAreReported : Type 0
MembersAreReported =
    (before after : List SubnetPort) (headings others : List Heading) → AreSamePorts before after
    → ReportWhatChanges same_member (λ x. is_of (bases_named headings others) x && has_member before x)
    (λ x. is_of (bases_named headings others) x && has_member after x)
    (member_changes (bases_named headings others) (zip before after))

-- ---- shares, by both ports and base
abbrev pub has_share : List SubnetPort → Share → Bool
has_share ports x = list_any (same_share x) (shares ports)

abbrev pub SharesAreReported : Type 0
SharesAreReported =
    (before after : List SubnetPort) → AreSamePorts before after
    → ReportWhatChanges same_share (has_share before) (has_share after) (share_changes (zip before after))

-- ---- if nothing is printed
-- both say the same of each partition, of each group, of each member of one of the partitions and of each share
pub record SayTheSame (before after : ConfigurationState) : Type 0 where
  pub partitions : (x : ℕ × Heading) → has_partition before.partitions x ≡ has_partition after.partitions x
  pub groups : (x : Heading) → has_group before.partitions x ≡ has_group after.partitions x
  pub members : (x : SubnetPort × ℕ) → is_of (bases_named before.partitions after.partitions) x ≡ true
      → has_member before.ports x ≡ has_member after.ports x
  pub shares : (x : Share) → has_share before.ports x ≡ has_share after.ports x

-- the text of changes is empty if and only if they do
abbrev pub NothingIsReportedOfTheSame : Type 0
NothingIsReportedOfTheSame =
    (before after : ConfigurationState) → AreSamePorts before.ports after.ports
    → text_of_changes before after ≡ [] ↔ SayTheSame before after

-- if no share is printed, whoever was near a port is near it still, and nobody else is
abbrev pub NearStaysWhereNoShareIsReported : Type 0
NearStaysWhereNoShareIsReported =
    (before after : List SubnetPort) → AreSamePorts before after → share_changes (zip before after) ≡ []
    → (p q : ℕ) → is_near before p q ≡ is_near after p q

-- each port has at most one key of each partition of its subnet, and no other: so has every subnet that is brought up
abbrev pub HasKnownKeys : ConfigurationState → Type 0
HasKnownKeys subnet = All (HoldsKnownKeys subnet.partitions) subnet.ports

-- if no member of the partitions with these bases is printed, whoever was near a port is near it still, and nobody else is
abbrev pub NearStaysBy : ((before after : List Heading) → List ℕ) → Type 0
NearStaysBy bases =
    (before after : ConfigurationState) → AreSamePorts before.ports after.ports → HasKnownKeys before → HasKnownKeys after
    → member_changes (bases before.partitions after.partitions) (zip before.ports after.ports) ≡ []
    → (p q : ℕ) → is_near before.ports p q ≡ is_near after.ports p q

-- those of both files are printed, one by one, however many ports there are
abbrev pub NearStaysWhereNoMemberIsReported : Type 0
NearStaysWhereNoMemberIsReported = NearStaysBy bases_named

-- ---- what counts as the same: the fields that are compared, and no others
abbrev pub IsShownAlike : Option BroadcastGroup → Option BroadcastGroup → Type 0
IsShownAlike (Some a) (Some b) = a ≡ b
IsShownAlike (Some a) None = ⊥
IsShownAlike None b = ⊥

pub record SameIsWhatIsCompared : Type 0 where
  pub partitions : (a b : ℕ × Heading) → same_partition a b ≡ true ↔ ((a.0 ≡ b.0) × ((a.1.base ≡ b.1.base) × (a.1.name ≡ b.1.name)))
  pub groups : (a b : Heading) → same_group a b ≡ true ↔ ((a.base ≡ b.base) × IsShownAlike a.group b.group)
  pub members : (a b : SubnetPort × ℕ) → same_member a b ≡ true ↔ ((a.0.guid ≡ b.0.guid) × (a.1 ≡ b.1))
  pub shares : (a b : Share) → same_share a b ≡ true ↔
      ((a.first.guid ≡ b.first.guid) × ((a.second.guid ≡ b.second.guid) × (a.base ≡ b.base)))

-- the line of what comes begins with a plus sign, and the line of what goes with a minus sign, each with a space behind it
abbrev pub AreSigned : (X : Type 0) → (X → List ℕ) → Type 0
AreSigned X line =
    (x : X) (changes : List (Change X))
    → (changes_text line (record { comes = true; what = x } ∷ changes) ≡ 0x2b ∷ 0x20 ∷ line x ++ changes_text line changes)
    × (changes_text line (record { comes = false; what = x } ∷ changes) ≡ 0x2d ∷ 0x20 ∷ line x ++ changes_text line changes)

pub record LinesAreSigned : Type 0 where
  pub partitions : AreSigned (ℕ × Heading) partition_line
  pub groups : AreSigned Heading group_line
  pub members : AreSigned (SubnetPort × ℕ) change_of_member_line
  pub shares : AreSigned Share share_line
