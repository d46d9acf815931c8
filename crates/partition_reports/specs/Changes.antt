-- What a subnet's configuration loses and gains if another partition file takes the place of the first.
use Rattle.std.specs.Prelude.{ℕ, Bool, true, false, ◌==◌, ◌&&◌, if◌then◌else◌, List, [], ◌∷◌, ◌++◌, codes, decimal, Option, Some, None, find, nat_lt, is_some, option_map, position, slice_get}
use Rattle.std.specs.List.{flat_map, range_with_len, zip}
use Rattle.std.specs.Option.{option_and_then, option_map_or}
use Rattle.std.specs.Str.{bytes_eq}
use Rattle.std.specs.Int.{w16, w32, to_be_bytes}
use Rattle.partition_reports.specs.Lines.{heading_line, member_line}
use Rattle.text_words.specs.Parts.{hex_text}
use Rattle.partition_file.specs.declared.broadcast_group.BroadcastGroup.{BroadcastGroup}
use Rattle.partition_file.specs.declared.heading.Heading.{Heading}
use Rattle.partition_file.specs.Partitions.{mgid_of}
use Rattle.pkey_rules.specs.KeyTable.{find_base, shares_base}
use Rattle.partition_reports.specs.Shares.{Share, share_line}
use Rattle.subnet_model.specs.Configuration.{ConfigurationState}
use Rattle.subnet_model.specs.declared.subnet_port.SubnetPort.{SubnetPort}

-- ---- changes of any kind
-- something that goes, or that comes
pub record Change (X : Type 0) : Type 0 where
  pub comes : Bool
  pub what : X

abbrev pub going : {X : Type 0} → Option X → List (Change X)
going None = []
going (Some x) = record { comes = false; what = x } ∷ []

abbrev pub coming : {X : Type 0} → Option X → List (Change X)
coming None = []
coming (Some x) = record { comes = true; what = x } ∷ []

abbrev pub stays : {X : Type 0} → (X → X → Bool) → Option X → Option X → Bool
stays same (Some x) (Some y) = same x y
stays same before after = false

-- what changes of one thing, as it was and as it will be: what goes, then what comes, and nothing if it stays
abbrev pub changes_of : {X : Type 0} → (X → X → Bool) → Option X → Option X → List (Change X)
changes_of same before after = if stays same before after then [] else going before ++ coming after

-- `- LINE` of what goes, `+ LINE` of what comes
abbrev pub sign : Bool → List ℕ
sign true = codes "+ "
sign false = codes "- "

abbrev pub changes_text : {X : Type 0} → (X → List ℕ) → List (Change X) → List ℕ
changes_text line changes = flat_map (λ change. sign change.comes ++ line change.what) changes

-- ---- partitions, with their numbers
-- the bases of these partitions, each once, rising
abbrev pub with_base : ℕ → List ℕ → List ℕ
with_base base [] = base ∷ []
with_base base (first ∷ rest) =
    if nat_lt base first then base ∷ first ∷ rest else (if base == first then first ∷ rest else first ∷ with_base base rest)

abbrev pub rising_bases : List Heading → List ℕ
rising_bases [] = []
rising_bases (heading ∷ headings) = with_base heading.base (rising_bases headings)

-- those of which there is a partition before or after
abbrev pub bases_named : List Heading → List Heading → List ℕ
bases_named before after = rising_bases (before ++ after)

-- the partition of this base: its place is its number
abbrev pub partition_of : List Heading → ℕ → Option (ℕ × Heading)
partition_of headings base =
    option_and_then (λ number. option_map (λ heading. (number, heading)) (slice_get headings number))
    (position (λ heading. heading.base == base) headings)

abbrev pub same_partition : ℕ × Heading → ℕ × Heading → Bool
same_partition a b = (a.0 == b.0) && ((a.1.base == b.1.base) && bytes_eq a.1.name b.1.name)

abbrev pub partition_changes_at : List Heading → List Heading → ℕ → List (Change (ℕ × Heading))
partition_changes_at before after base = changes_of same_partition (partition_of before base) (partition_of after base)

abbrev pub partition_changes : List Heading → List Heading → List (Change (ℕ × Heading))
partition_changes before after = flat_map (partition_changes_at before after) (bases_named before after)

abbrev pub partition_line : ℕ × Heading → List ℕ
partition_line placed = heading_line placed.0 placed.1

-- ---- groups
-- the partition of this base, if it has a group
abbrev pub grouped : List Heading → ℕ → Option Heading
grouped headings base = find (λ heading. (heading.base == base) && is_some heading.group) headings

abbrev pub same_fields : BroadcastGroup → BroadcastGroup → Bool
same_fields a b =
    (a.scope == b.scope) && ((a.q_key == b.q_key) && ((a.mtu == b.mtu) && ((a.rate == b.rate) && (a.service_level == b.service_level))))

abbrev pub same_groups : Option BroadcastGroup → Option BroadcastGroup → Bool
same_groups (Some a) (Some b) = same_fields a b
same_groups a b = false

abbrev pub same_group : Heading → Heading → Bool
same_group a b = (a.base == b.base) && same_groups a.group b.group

abbrev pub group_changes_at : List Heading → List Heading → ℕ → List (Change Heading)
group_changes_at before after base = changes_of same_group (grouped before base) (grouped after base)

abbrev pub group_changes : List Heading → List Heading → List (Change Heading)
group_changes before after = flat_map (group_changes_at before after) (bases_named before after)

-- `group BASE MGID QKEY MTU RATE SL`
abbrev pub fields_line : ℕ → BroadcastGroup → List ℕ
fields_line base group =
    codes "group " ++ hex_text (to_be_bytes w16 base)
    ++ codes " " ++ hex_text (mgid_of group.scope base)
    ++ codes " " ++ hex_text (to_be_bytes w32 group.q_key)
    ++ codes " " ++ decimal group.mtu
    ++ codes " " ++ decimal group.rate
    ++ codes " " ++ decimal group.service_level ++ 10 ∷ []

abbrev pub group_line : Heading → List ℕ
group_line heading = option_map_or (fields_line heading.base) heading.group []

-- ---- members
abbrev pub member_of : ℕ → SubnetPort → Option (SubnetPort × ℕ)
member_of base port = option_map (λ key. (port, key)) (find_base base port.keys)

abbrev pub same_member : SubnetPort × ℕ → SubnetPort × ℕ → Bool
same_member a b = (a.0.guid == b.0.guid) && (a.1 == b.1)

-- of a port as it was and as it will be
abbrev pub member_changes_at : ℕ → SubnetPort × SubnetPort → List (Change (SubnetPort × ℕ))
member_changes_at base port = changes_of same_member (member_of base port.0) (member_of base port.1)

abbrev pub member_changes : List ℕ → List (SubnetPort × SubnetPort) → List (Change (SubnetPort × ℕ))
member_changes bases ports = flat_map (λ base. flat_map (member_changes_at base) ports) bases

abbrev pub change_of_member_line : SubnetPort × ℕ → List ℕ
change_of_member_line member = member_line member.0 member.1

-- ---- shares
abbrev pub share_of : SubnetPort → SubnetPort → ℕ → Option Share
share_of p q base =
    if shares_base base p.keys q.keys then Some (record { first = p; second = q; base = base }) else None

abbrev pub same_share : Share → Share → Bool
same_share a b = (a.first.guid == b.first.guid) && ((a.second.guid == b.second.guid) && (a.base == b.base))

abbrev pub share_changes_at : SubnetPort × SubnetPort → SubnetPort × SubnetPort → ℕ → List (Change Share)
share_changes_at p q base = changes_of same_share (share_of p.0 q.0 base) (share_of p.1 q.1 base)

unfoldable pub pair_changes : SubnetPort × SubnetPort → SubnetPort × SubnetPort → List (Change Share)
pair_changes p q = flat_map (share_changes_at p q) (range_with_len 1 32767)

-- each port with each behind it
abbrev pub share_changes : List (SubnetPort × SubnetPort) → List (Change Share)
share_changes [] = []
share_changes (p ∷ ports) = flat_map (pair_changes p) ports ++ share_changes ports

-- ---- all of them: the ports before and after are those of one topology, in order of their LIDs
abbrev pub text_of_changes : ConfigurationState → ConfigurationState → List ℕ
text_of_changes before after =
    changes_text partition_line (partition_changes before.partitions after.partitions)
    ++ changes_text group_line (group_changes before.partitions after.partitions)
    ++ changes_text change_of_member_line (member_changes (bases_named before.partitions after.partitions) (zip before.ports after.ports))
    ++ changes_text share_line (share_changes (zip before.ports after.ports))
