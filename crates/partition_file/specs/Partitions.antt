-- The partitions that definitions make, and those of a text.
use Rattle.std.specs.Prelude.{ℕ, ◌+◌, ◌/◌, ◌%◌, Bool, true, false, not, ◌==◌, if◌then◌else◌, List, [], ◌∷◌, ◌++◌, map, fold, find, filter_map}
use Rattle.std.specs.Prelude.{flat_map, codes, Option, Some, None, Result, Ok, option_map, unwrap_or}
use Rattle.std.specs.List.{list_any, range_with_len}
use Rattle.pkey_rules.specs.PKey.{default_base, full_form}
use Rattle.partition_file.specs.declared.item.Ports.TheVariants.{All, Manager}
use Rattle.partition_file.specs.declared.item.Item.{Item}
use Rattle.partition_file.specs.declared.flag.Flags.{Flags}
use Rattle.partition_file.specs.declared.definition.Definition.{Definition}
use Rattle.partition_file.specs.declared.broadcast_group.BroadcastGroup.{BroadcastGroup}
use Rattle.partition_file.specs.declared.partition.Partition.{Partition}
use Rattle.step_results.specs.AtLine.{AtLine}
use Rattle.partition_file.specs.declared.fault.PartitionCause.{PartitionCause}
use Rattle.step_results.specs.Steps.{◌>>=◌}
use Rattle.partition_file.specs.Counting.{has_base, with_base}
use Rattle.partition_file.specs.Definitions.{definitions_of}

-- ---- bases
-- the least base from 1 that is not taken
unfoldable pub first_free : List ℕ → Option ℕ
first_free taken = find (λ base. not (has_base base taken)) (range_with_len 1 32767)

-- there always is one, with no more partitions than there may be
abbrev pub least_free : List ℕ → ℕ
least_free taken = unwrap_or (first_free taken) 1

-- a definition with the base of its partition
pub record RuleState : Type 0 where
  pub base : ℕ
  pub definition : Definition

abbrev pub base_for : List ℕ → Option ℕ → ℕ
base_for taken (Some base) = base
base_for taken None = least_free taken

abbrev pub taken_after : List ℕ → Option ℕ → List ℕ
taken_after taken (Some base) = taken
taken_after taken None = taken ++ least_free taken ∷ []

-- a definition that names no base gets the least that is neither named by any nor given before
abbrev pub rules_after : List ℕ → List Definition → List RuleState
rules_after taken [] = []
rules_after taken (definition ∷ rest) =
    record { base = base_for taken definition.base; definition = definition } ∷ rules_after (taken_after taken definition.base) rest

abbrev pub rules_of : List Definition → List RuleState
rules_of definitions = rules_after (filter_map (λ definition. definition.base) definitions) definitions

-- the default partition first, then each other base as it first appears
abbrev pub bases_of : List RuleState → List ℕ
bases_of rules = fold with_base (default_base ∷ []) (map (λ rule. rule.base) rules)

-- ---- what the rules of one base make
abbrev pub is_of : ℕ → RuleState → Bool
is_of base rule = rule.base == base

abbrev pub is_ruled : ℕ → List RuleState → Bool
is_ruled base rules = list_any (is_of base) rules

-- the name of the first rule; the default partition has one without a rule too
abbrev pub name_of : List RuleState → ℕ → List ℕ
name_of rules base = unwrap_or (option_map (λ rule. rule.definition.name) (find (is_of base) rules)) (codes "Default")

-- the group that a rule with `ipoib` makes, by its own flags and by defaults
abbrev pub group_by : Flags → BroadcastGroup
group_by flags = record {
  rate = unwrap_or flags.rate 3;
  mtu = unwrap_or flags.mtu 4;
  service_level = unwrap_or flags.service_level 0;
  scope = unwrap_or flags.scope 2;
  q_key = unwrap_or flags.q_key 2843;
}

abbrev pub makes_group : ℕ → RuleState → Bool
makes_group base rule = if is_of base rule then rule.definition.flags.ipoib else false

-- the first rule with `ipoib` makes the group
abbrev pub group_of : List RuleState → ℕ → Option BroadcastGroup
group_of rules base = option_map (λ rule. group_by rule.definition.flags) (find (makes_group base) rules)

-- what all rules list, in order
abbrev pub listed_by : ℕ → RuleState → List Item
listed_by base rule = if is_of base rule then rule.definition.items else []

abbrev pub listed : List RuleState → ℕ → List Item
listed rules base = flat_map (listed_by base) rules

abbrev pub all_limited : Item
all_limited = record { ports = All; full = false }

abbrev pub all_full : Item
all_full = record { ports = All; full = true }

abbrev pub manager_full : Item
manager_full = record { ports = Manager; full = true }

-- in the default partition the manager is always full, and without a rule for it all ports are limited. Behind the words of a rule the
-- manager comes last, and without a rule first: so the two are distinguished
abbrev pub built_in : List RuleState → ℕ → List Item
built_in rules base =
    if base == default_base then (if is_ruled base rules then manager_full ∷ [] else manager_full ∷ all_limited ∷ []) else []

abbrev pub partition_of : List RuleState → ℕ → Partition
partition_of rules base = record {
  base = base;
  name = name_of rules base;
  group = group_of rules base;
  items = listed rules base ++ built_in rules base;
}

-- ---- all of them; the place in the list is a partition's number
abbrev pub partitions_by : List RuleState → List Partition
partitions_by rules = map (partition_of rules) (bases_of rules)

abbrev pub partitions_in : List Definition → List Partition
partitions_in definitions = partitions_by (rules_of definitions)

-- the partitions of a text, or its first fault
unfoldable pub partitions_of : List ℕ → Result (List Partition) (AtLine PartitionCause)
partitions_of text = definitions_of text >>= λ definitions. Ok (partitions_in definitions)

-- ff1s:401b:kkkk:0000:0000:0000:ffff:ffff: the broadcast group of IP over InfiniBand (RFC 4391), with the scope s and the
-- partition's full key k
abbrev pub mgid_of : ℕ → ℕ → List ℕ
mgid_of scope base =
    255 ∷ (16 + scope % 16) ∷ 64 ∷ 27 ∷ (full_form base / 256) ∷ (full_form base % 256) ∷ 0 ∷ 0 ∷ 0 ∷ 0 ∷ 0 ∷ 0 ∷ 255 ∷ 255 ∷ 255 ∷ 255 ∷ []
