-- What two states have in common for a port follows from what it sees of them.
use Rattle.std.proofs.Common.{ℕ, Bool, true, List, [], ◌∷◌, ◌++◌, filter, map}
use Rattle.std.proofs.Common.{◌≡◌, ◌∙◌, ap, refl, sym, inl, inr}
use Rattle.std.specs.List.{flat_map}
use Rattle.std.proofs.lemmas.Bool.{cases_Bool}
use Rattle.subnet_model.specs.Near.{is_near}
use Rattle.subnet_model.specs.declared.subnet_port.SubnetPort.{SubnetPort}
use Rattle.sa_model.proofs.ChangeLemmas.{same_by}
use Rattle.sa_model.specs.Groups.{Membership, MulticastGroup, PartitionGroups}
use Rattle.sa_model.specs.Members.{is_member}
use Rattle.sa_model.specs.Sight.{group_seen, seen}
use Rattle.sa_replies.proofs.AlikeLemmas.{groups_in_seen}
use Rattle.sa_replies.specs.Transfers.{table_at}
use Rattle.sa_replies.proofs.ApartLemmas.{isolated, seen_parts}
use Rattle.sa_replies.specs.InCommon.{Registration, SightShowsAll, StatesDependOnNear, fixed, fixed_groups, groups_of_base, registrations, registrations_near}

abbrev registered : ℕ → Membership → Registration
registered mgid membership = record { mgid = mgid; membership = membership }

abbrev near_one : List SubnetPort → ℕ → Registration → Bool
near_one ports p one = is_near ports p one.membership.port

registrations_of_near : (ports : List SubnetPort) (p mgid : ℕ) (memberships : List Membership)
    → filter (near_one ports p) (map (registered mgid) memberships) ≡ map (registered mgid) (filter (λ one. is_near ports p one.port) memberships)
registrations_of_near ports p mgid [] = refl
registrations_of_near ports p mgid (one ∷ rest) = elim (cases_Bool (is_near ports p one.port)) [
  | inl near ↦ rw near (ap (λ more. registered mgid one ∷ more) (registrations_of_near ports p mgid rest))
  | inr far ↦ rw far (registrations_of_near ports p mgid rest)
]

filter_append : {X : Type 0} (keep : X → Bool) (xs ys : List X) → filter keep (xs ++ ys) ≡ filter keep xs ++ filter keep ys
filter_append keep [] ys = refl
filter_append keep (x ∷ xs) ys = elim (cases_Bool (keep x)) [
  | inl here ↦ rw here (ap (λ rest. x ∷ rest) (filter_append keep xs ys))
  | inr out ↦ rw out (filter_append keep xs ys)
]

registrations_seen : (ports : List SubnetPort) (p : ℕ) (groups : List MulticastGroup)
    → filter (near_one ports p) (flat_map registrations groups) ≡ flat_map registrations (map (group_seen ports p) groups)
registrations_seen ports p [] = refl
registrations_seen ports p (group ∷ groups) =
    filter_append (near_one ports p) (registrations group) (flat_map registrations groups)
    ∙ (ap (λ first. first ++ filter (near_one ports p) (flat_map registrations groups)) (registrations_of_near ports p group.mgid group.memberships)
    ∙ ap (λ rest. registrations (group_seen ports p group) ++ rest) (registrations_seen ports p groups))

fixed_of_seen : (ports : List SubnetPort) (p base : ℕ) (partitions : List PartitionGroups) → is_member ports base p ≡ true
    → fixed_groups base (seen ports p partitions) ≡ fixed_groups base partitions
fixed_of_seen ports p base partitions member =
    ap (map fixed) (groups_in_seen ports p base member partitions)
    ∙ same_by fixed (group_seen ports p) (λ group. refl) (groups_of_base base partitions)

near_of_seen : (ports : List SubnetPort) (p base : ℕ) (partitions : List PartitionGroups) → is_member ports base p ≡ true
    → flat_map registrations (groups_of_base base (seen ports p partitions)) ≡ registrations_near ports p base partitions
near_of_seen ports p base partitions member =
    ap (flat_map registrations) (groups_in_seen ports p base member partitions)
    ∙ sym (registrations_seen ports p (groups_of_base base partitions))

pub sight_shows_all : SightShowsAll
sight_shows_all configuration p s t same =
    let ports = configuration.ports in
    let parts = seen_parts configuration p s t same in
    record {
      groups = λ base member.
          sym (fixed_of_seen ports p base s.remembered.partitions member)
          ∙ (ap (fixed_groups base) parts.remembered.groups ∙ fixed_of_seen ports p base t.remembered.partitions member);
      registrations = λ base member.
          sym (near_of_seen ports p base s.remembered.partitions member)
          ∙ (ap (λ partitions. flat_map registrations (groups_of_base base partitions)) parts.remembered.groups
          ∙ near_of_seen ports p base t.remembered.partitions member);
      services = parts.remembered.services;
      open_table = ap table_at parts.own_table;
    }

pub states_depend_on_near : StatesDependOnNear
states_depend_on_near configuration p commands =
    sight_shows_all configuration p _ _ ((isolated configuration).states p commands).same
