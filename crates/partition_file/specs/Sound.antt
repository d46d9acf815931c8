-- What is so of definitions and partitions, whatever the text they come from.
use Rattle.std.specs.Prelude.{ℕ, ◌≡◌, ◌≤◌, Bool, true, ◌&&◌, nat_eq, nat_le, List, [], ◌∷◌, ◌++◌, length, map, fold, count_by, is_none, slice_get, Option, Some, None}
use Rattle.std.specs.List.{list_all, IsDistinct}
use Rattle.pkey_rules.specs.declared.key_table.TheConstants.{PARTITIONS}
use Rattle.pkey_rules.specs.PKey.{default_base, is_base}
use Rattle.partition_file.specs.declared.definition.Definition.{Definition}
use Rattle.partition_file.specs.declared.flag.Flag.TheVariants.{Rate, Mtu, ServiceLevel, Scope}
use Rattle.partition_file.specs.declared.flag.Flags.{Flags}
use Rattle.partition_file.specs.declared.broadcast_group.BroadcastGroup.{BroadcastGroup}
use Rattle.partition_file.specs.declared.partition.Partition.{Partition}
use Rattle.partition_file.specs.Flags.{greatest}
use Rattle.partition_file.specs.Counting.{bases_given, named, partition_count, with_base}
use Rattle.partition_file.specs.ScanState.{ScanState, is_in_list}

abbrev pub is_sound_base : Option ℕ → Bool
is_sound_base (Some base) = is_base base
is_sound_base None = true

-- a value, if there is one, is not above this one
abbrev pub is_within : ℕ → Option ℕ → Bool
is_within top (Some n) = nat_le n top
is_within top None = true

-- what flags say fits the fields of their records
abbrev pub are_within : Flags → Bool
are_within flags =
    is_within (greatest Rate) flags.rate && (is_within (greatest Mtu) flags.mtu
    && (is_within (greatest ServiceLevel) flags.service_level && is_within (greatest Scope) flags.scope))

-- the definitions name bases, their flags' values are in range, and they make no more partitions than there may be
pub record AreSound (definitions : List Definition) : Type 0 where
  pub valid : list_all is_sound_base (bases_given definitions) ≡ true
  pub flags : list_all (λ definition. are_within definition.flags) definitions ≡ true
  pub room : partition_count (bases_given definitions) ≤ PARTITIONS

-- what is counted of them is kept beside them
pub record AreCounted (definitions : List Definition) (seen : List ℕ) (others : ℕ) : Type 0 where
  pub sound : AreSound definitions
  pub distinct : seen ≡ fold with_base (default_base ∷ []) (named (bases_given definitions))
  pub rest : others ≡ count_by is_none (bases_given definitions)

-- so it is in the middle of a text, and a definition whose list has begun is counted too
pub record IsSoundSoFar (s : ScanState) : Type 0 where
  pub valid : is_sound_base s.current.base ≡ true
  pub flags : are_within s.current.flags ≡ true
  pub room : is_in_list s.at ≡ true → partition_count (bases_given s.done ++ s.current.base ∷ []) ≤ PARTITIONS

abbrev pub all_bases : List Partition → List ℕ
all_bases partitions = map (λ partition. partition.base) partitions

-- the default base is there and has number 0; no base is there twice, and there are no more than there may be
pub record AreSoundBases (bases : List ℕ) : Type 0 where
  pub room : length bases ≤ PARTITIONS
  pub distinct : IsDistinct nat_eq bases
  pub valid : list_all is_base bases ≡ true
  pub first : slice_get bases 0 ≡ Some default_base

-- a group's parameters fit the fields of its records
abbrev pub fits : BroadcastGroup → Bool
fits group =
    nat_le group.rate (greatest Rate) && (nat_le group.mtu (greatest Mtu)
    && (nat_le group.service_level (greatest ServiceLevel) && nat_le group.scope (greatest Scope)))

abbrev pub has_fit_group : Option BroadcastGroup → Bool
has_fit_group (Some group) = fits group
has_fit_group None = true

-- partitions have sound bases, and groups that fit
pub record IsSound (partitions : List Partition) : Type 0 where
  pub bases : AreSoundBases (all_bases partitions)
  pub groups : list_all (λ partition. has_fit_group partition.group) partitions ≡ true
