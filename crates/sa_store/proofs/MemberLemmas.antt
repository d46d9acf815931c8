-- The partition of a base among those of a subnet, and what a join does there.
use Rattle.std.proofs.Common.{◌≡◌, ℕ, zero, suc, ◌+◌, ◌*◌, ◌^◌, ◌<◌, ◌==◌, bit_and, Bool, true, false, not, ◌&&◌, ◌||◌, if◌then◌else◌, nat_eq, List, [], ◌∷◌, length, map, filter, find, get_or, set, take, drop, ◌++◌, ◌≤◌, Option, Some, None, is_none, is_some, IsSome, refl, sym, ◌∙◌, ap, subst, inl, inr, arith}
use Rattle.std.specs.Int.{bit_at}
use Rattle.std.specs.List.{AllByRecursion, IsDistinct, flat_map, list_all, list_any, position, position_from, range_with_len}
use Rattle.std.specs.Option.{option_map}
use Rattle.std.proofs.lemmas.Bool.{and_from, and_parts, cases_Bool, eq-eqb, eqb-true, false≢true}
use Rattle.std.proofs.lemmas.Iterator.Adapters.{position_from-zero}
use Rattle.std.proofs.Math.Seq.{take-append_seam}
use Rattle.std.proofs.lemmas.List.{append-nil, length-map}
use Rattle.std.proofs.lemmas.List.Quantifiers.{position-Some}
use Rattle.std.proofs.lemmas.Map.Keys.{IsDistinct-head, IsDistinct-tail}
use Rattle.std.proofs.lemmas.Nat.Bits.{bit_at-lt}
use Rattle.mad_layout.specs.Bits.{bit_of}
use Rattle.pkey_rules.specs.declared.key_table.TheConstants.{PARTITIONS}
use Rattle.pkey_rules.specs.KeyTable.{has_base}
use Rattle.pkey_rules.specs.PKey.{base_of}
use Rattle.step_results.proofs.ListLemmas.{all_at}
use Rattle.partition_file.specs.declared.heading.Heading.{Heading}
use Rattle.partition_file.specs.Members.{bases_in}
use Rattle.subnet_model.specs.Configuration.{ConfigurationState}
use Rattle.subnet_model.specs.Configured.{HoldsKnownKeys, IsConfigured, is_known_key}
use Rattle.subnet_model.specs.Delivery.{port_with_guid}
use Rattle.subnet_model.specs.declared.subnet_port.SubnetPort.{SubnetPort}
use Rattle.sa_model.specs.Anchor.{free_mlid}
use Rattle.sa_model.specs.Changes.{partition_of}
use Rattle.sa_model.specs.Groups.{MulticastGroup, PartitionGroups, start_from}
use Rattle.sa_model.specs.Joining.{Join, has_mgid, joined, joined_group, joined_groups, joined_in, may_create, may_join, with_created}
use Rattle.sa_model.specs.Leaving.{Leave, left}
use Rattle.sa_model.specs.Members.{is_in}
use Rattle.sa_model.specs.Receivers.{changed_numbers}
use Rattle.sa_model.specs.Sound.{is_sound_partition}
use Rattle.sa_model.specs.Visible.{SaState}
use Rattle.sa_replies.specs.Joins.{bits_of_join_state, group_named, has_free_mlid, join_state_of}
use Rattle.sa_replies.specs.State.{IsRememberedOf}
use Rattle.sa_replies.proofs.StateLemmas.{join_remembered, leave_remembered}
use Rattle.sa_store.specs.Joined.{entered, holds_mgid}
use Rattle.sa_store.specs.Kept.{KeptPort, ports_of}
use Rattle.sa_store.specs.Members.{CanJoin, receives_anew, place_with_base}
use Rattle.sa_store.specs.Receiving.{has_changed, is_adapter, numbers_changed}
use Rattle.sa_store.specs.Registry.{IsRegistry, RegistryState, configuration_in, registry_in, remembered_in, with_partitions}
use Rattle.sa_store.specs.MlidRange.{SlotGroup, groups_in, with_mlid}
use Rattle.sa_store.proofs.LeaveLemmas.{is_set, low_bits}
use Rattle.sa_store.proofs.GainLemmas.{join_changes}
use Rattle.sa_store.proofs.ReceiverLemmas.{changed_are, unchanged}
use Rattle.sa_store.proofs.KeyLemmas.{holds_base}
use Rattle.sa_store.proofs.SlotLemmas.{IsFirst, first_with, later}

-- ---- the group of an MGID, in its slot
found_first : (mgid mlid : ℕ) (slots : List (Option SlotGroup)) (i : ℕ) (d : Option SlotGroup) → IsFirst mgid slots i d
    → find (has_mgid mgid) (groups_in mlid slots) ≡ option_map (with_mlid (mlid + i)) (get_or slots i d)
found_first mgid mlid [] i d first = absurd (let w = first.within in omega arith)
found_first mgid mlid (None ∷ slots) zero d first = absurd (false≢true first.is)
found_first mgid mlid (Some group ∷ slots) zero d first =
    let here : (group.mgid == mgid) ≡ true = first.is in
    let same : mlid ≡ mlid + 0 = omega arith in
    rw here (ap (λ (n : ℕ). Some (with_mlid n group)) same)
found_first mgid mlid (None ∷ slots) (suc i) d first =
    let same : mlid + 1 + i ≡ mlid + suc i = omega arith in
    found_first mgid (mlid + 1) slots i d (later mgid None slots i d first) ∙ ap (λ (n : ℕ). option_map (with_mlid n) (get_or slots i d)) same
found_first mgid mlid (Some group ∷ slots) (suc i) d first =
    let other : (group.mgid == mgid) ≡ false = first.before zero (omega arith) in
    let same : mlid + 1 + i ≡ mlid + suc i = omega arith in
    rw other
    (found_first mgid (mlid + 1) slots i d (later mgid (Some group) slots i d first) ∙ ap (λ (n : ℕ). option_map (with_mlid n) (get_or slots i d)) same)

pub found_in_slot : (mgid mlid : ℕ) (slots : List (Option SlotGroup)) (i : ℕ) (d : Option SlotGroup) → position (holds_mgid mgid) slots ≡ Some i
    → find (has_mgid mgid) (groups_in mlid slots) ≡ option_map (with_mlid (mlid + i)) (get_or slots i d)
found_in_slot mgid mlid slots i d place = found_first mgid mlid slots i d (first_with mgid slots i d place)

none_found : (mgid mlid k : ℕ) (slots : List (Option SlotGroup)) → position_from (holds_mgid mgid) k slots ≡ None
    → find (has_mgid mgid) (groups_in mlid slots) ≡ None
none_found mgid mlid k [] none = refl
none_found mgid mlid k (None ∷ slots) none = none_found mgid (mlid + 1) (k + 1) slots none
none_found mgid mlid k (Some group ∷ slots) none = elim (cases_Bool (group.mgid == mgid)) [
  | inl here ↦ absurd (let e : Some k ≡ None = rw here at none in cc)
  | inr other ↦ rw other (none_found mgid (mlid + 1) (k + 1) slots (rw other at none))
]

pub found_in_none : (mgid mlid : ℕ) (slots : List (Option SlotGroup)) → position (holds_mgid mgid) slots ≡ None
    → find (has_mgid mgid) (groups_in mlid slots) ≡ None
found_in_none mgid mlid slots none = none_found mgid mlid 0 slots (sym (position_from-zero (holds_mgid mgid) slots) ∙ none)

pub found_some : {X : Type 0} (test : X → Bool) (xs : List X) → not (is_none (find test xs)) ≡ list_any test xs
found_some test [] = refl
found_some test (x ∷ xs) = elim (cases_Bool (test x)) [
  | inl passes ↦ rw passes refl
  | inr fails ↦ rw fails (found_some test xs)
]

pub some_named : {X Y : Type 0} (f : X → Y) (found : Option X) (test : Y → Bool) (ys : List Y) → option_map f found ≡ find test ys → is_some found ≡ list_any test ys
some_named {Y = Y} f None test ys is = ap (λ (one : Option Y). not (is_none one)) is ∙ found_some test ys
some_named {Y = Y} f (Some x) test ys is = ap (λ (one : Option Y). not (is_none one)) is ∙ found_some test ys

nothing_found : (test : MulticastGroup → Bool) (groups : List MulticastGroup) → list_any test groups ≡ false → find test groups ≡ None
nothing_found test [] none = refl
nothing_found test (group ∷ groups) none = elim (cases_Bool (test group)) [
  | inl passes ↦ absurd (false≢true (sym (rw passes at none)))
  | inr fails ↦ rw fails (nothing_found test groups (rw fails at none))
]

-- ---- partitions have the bases and the numbers of the headings
pub bases_stay : (partitions : List PartitionGroups) (number : ℕ) (headings : List Heading)
    → map partition_of partitions ≡ map partition_of (start_from number headings) → map (λ (p : PartitionGroups). p.base) partitions ≡ bases_in headings
bases_stay [] number [] same = refl
bases_stay [] number (heading ∷ headings) same = absurd (cc)
bases_stay (partition ∷ partitions) number [] same = absurd (cc)
bases_stay (partition ∷ partitions) number (heading ∷ headings) same =
    let head : partition_of partition ≡ (number, heading.base) = cc in
    let tail : map partition_of partitions ≡ map partition_of (start_from (number + 1) headings) = cc in
    (λ i. (head i).1 ∷ bases_stay partitions (number + 1) headings tail i)

pub numbers_stay : (partitions : List PartitionGroups) (number : ℕ) (headings : List Heading)
    → map partition_of partitions ≡ map partition_of (start_from number headings)
    → map (λ (p : PartitionGroups). p.number) partitions ≡ range_with_len number (length partitions)
numbers_stay [] number headings same = refl
numbers_stay (partition ∷ partitions) number [] same = absurd (cc)
numbers_stay (partition ∷ partitions) number (heading ∷ headings) same =
    let head : partition_of partition ≡ (number, heading.base) = cc in
    let tail : map partition_of partitions ≡ map partition_of (start_from (number + 1) headings) = cc in
    (λ i. (head i).0 ∷ numbers_stay partitions (number + 1) headings tail i)

-- ---- the one of a base
abbrev pub OwnBases : List PartitionGroups → Type 0
OwnBases partitions = IsDistinct nat_eq (map (λ partition. partition.base) partitions)

pub record IsOf (base : ℕ) (partitions : List PartitionGroups) (i : ℕ) (d : PartitionGroups) : Type 0 where
  pub own : OwnBases partitions
  pub within : i < length partitions
  pub is : ((get_or partitions i d).base == base) ≡ true

pub one_of_base : (base : ℕ) (partitions : List PartitionGroups) (i : ℕ) (d : PartitionGroups) → OwnBases partitions
    → place_with_base partitions base ≡ Some i → IsOf base partitions i d
one_of_base base partitions i d own place =
    let at = position-Some (λ (p : PartitionGroups). p.base == base) partitions i d place in
    record { own = own; within = at.0; is = at.1 }

others_of : (base : ℕ) (partitions : List PartitionGroups) → AllByRecursion (λ other. nat_eq base other ≡ false) (map (λ (p : PartitionGroups). p.base) partitions)
    → list_any (λ (p : PartitionGroups). p.base == base) partitions ≡ false
others_of base [] others = refl
others_of base (partition ∷ partitions) others =
    let other = flipped base partition.base others.0 in rw other (others_of base partitions others.1)
  where
    flipped : (a b : ℕ) → (a == b) ≡ false → (b == a) ≡ false
    flipped a b differ = elim (cases_Bool (b == a)) [
      | inl same ↦ absurd (false≢true (sym differ ∙ ap (λ (n : ℕ). a == n) (eqb-true b a same) ∙ eq-eqb a a refl))
      | inr other ↦ other
    ]

any_at : {X : Type 0} (test : X → Bool) (xs : List X) (i : ℕ) (d : X) → i < length xs → test (get_or xs i d) ≡ true → list_any test xs ≡ true
any_at test [] i d within passes = absurd (omega arith)
any_at test (x ∷ xs) zero d within passes = rw passes refl
any_at test (x ∷ xs) (suc i) d within passes = later_true (test x) _ (any_at test xs i d (omega arith) passes)
  where
    later_true : (a b : Bool) → b ≡ true → (a || b) ≡ true
    later_true true b h = refl
    later_true false b h = h

rest_other : (base : ℕ) (partition : PartitionGroups) (partitions : List PartitionGroups) (d : PartitionGroups) → IsOf base (partition ∷ partitions) zero d
    → list_any (λ (p : PartitionGroups). p.base == base) partitions ≡ false
rest_other base partition partitions d at =
    subst (λ (n : ℕ). list_any (λ (p : PartitionGroups). p.base == n) partitions ≡ false) (eqb-true partition.base base at.is)
    (others_of partition.base partitions (IsDistinct-head nat_eq partition.base (map (λ (p : PartitionGroups). p.base) partitions) at.own))

further : (base : ℕ) (partition : PartitionGroups) (partitions : List PartitionGroups) (i : ℕ) (d : PartitionGroups) → IsOf base (partition ∷ partitions) (suc i) d
    → ((partition.base == base) ≡ false) × IsOf base partitions i d
further base partition partitions i d at =
    let others = others_of partition.base partitions (IsDistinct-head nat_eq partition.base (map (λ (p : PartitionGroups). p.base) partitions) at.own) in
    let within : i < length partitions = let w = at.within in omega arith in (
      elim (cases_Bool (partition.base == base)) [
        | inl same ↦
            let here : partition.base ≡ base = eqb-true partition.base base same in
            absurd (false≢true (sym others
            ∙ ap (λ (n : ℕ). list_any (λ (p : PartitionGroups). p.base == n) partitions) here
            ∙ any_at (λ (p : PartitionGroups). p.base == base) partitions i d within at.is))
        | inr differ ↦ differ
      ],
      record { own = IsDistinct-tail nat_eq partition.base (map (λ (p : PartitionGroups). p.base) partitions) at.own; within = within; is = at.is },
    )

none_passes : (base : ℕ) (test : PartitionGroups → Bool) (partitions : List PartitionGroups)
    → list_any (λ (p : PartitionGroups). p.base == base) partitions ≡ false → list_any (λ p. (p.base == base) && test p) partitions ≡ false
none_passes base test [] none = refl
none_passes base test (partition ∷ partitions) none = elim (cases_Bool (partition.base == base)) [
  | inl same ↦ absurd (false≢true (sym (rw same at none)))
  | inr other ↦ rw other (none_passes base test partitions (rw other at none))
]

-- a test of the partitions of the base is one of it alone
any_of_base : (base : ℕ) (test : PartitionGroups → Bool) (partitions : List PartitionGroups) (i : ℕ) (d : PartitionGroups) → IsOf base partitions i d
    → list_any (λ p. (p.base == base) && test p) partitions ≡ test (get_or partitions i d)
any_of_base base test [] i d at = absurd (let w = at.within in omega arith)
any_of_base base test (partition ∷ partitions) zero d at =
    rw (at.is, none_passes base test partitions (rest_other base partition partitions d at)) (alone (test partition))
  where
    alone : (b : Bool) → b || false ≡ b
    alone true = refl
    alone false = refl
any_of_base base test (partition ∷ partitions) (suc i) d at =
    let on = further base partition partitions i d at in rw on.0 (any_of_base base test partitions i d on.1)

none_filtered : (base : ℕ) (partitions : List PartitionGroups) → list_any (λ (p : PartitionGroups). p.base == base) partitions ≡ false
    → filter (λ (p : PartitionGroups). p.base == base) partitions ≡ []
none_filtered base [] none = refl
none_filtered base (partition ∷ partitions) none = elim (cases_Bool (partition.base == base)) [
  | inl same ↦ absurd (false≢true (sym (rw same at none)))
  | inr other ↦ rw other (none_filtered base partitions (rw other at none))
]

only_of_base : (base : ℕ) (partitions : List PartitionGroups) (i : ℕ) (d : PartitionGroups) → IsOf base partitions i d
    → filter (λ (p : PartitionGroups). p.base == base) partitions ≡ get_or partitions i d ∷ []
only_of_base base [] i d at = absurd (let w = at.within in omega arith)
only_of_base base (partition ∷ partitions) zero d at =
    rw (at.is, none_filtered base partitions (rest_other base partition partitions d at)) refl
only_of_base base (partition ∷ partitions) (suc i) d at =
    let on = further base partition partitions i d at in rw on.0 (only_of_base base partitions i d on.1)

pub named_in : (base mgid : ℕ) (partitions : List PartitionGroups) (i : ℕ) (d : PartitionGroups) → IsOf base partitions i d
    → group_named base mgid partitions ≡ find (has_mgid mgid) (get_or partitions i d).groups
named_in base mgid partitions i d at =
    ap (λ (some : List PartitionGroups). find (has_mgid mgid) (flat_map (λ (p : PartitionGroups). p.groups) some)) (only_of_base base partitions i d at)
    ∙ ap (find (has_mgid mgid)) (append-nil (get_or partitions i d).groups)

pub free_in : (base : ℕ) (partitions : List PartitionGroups) (i : ℕ) (d : PartitionGroups) → IsOf base partitions i d
    → has_free_mlid base partitions ≡ not (is_none (free_mlid (get_or partitions i d)))
free_in base partitions i d at = any_of_base base (λ p. not (is_none (free_mlid p))) partitions i d at

-- a change of the partitions of the base alone
none_changed : (base : ℕ) (f : PartitionGroups → PartitionGroups) → ((p : PartitionGroups) → (p.base == base) ≡ false → f p ≡ p)
    → (partitions : List PartitionGroups) → list_any (λ (p : PartitionGroups). p.base == base) partitions ≡ false → map f partitions ≡ partitions
none_changed base f same [] none = refl
none_changed base f same (partition ∷ partitions) none = elim (cases_Bool (partition.base == base)) [
  | inl here ↦ absurd (false≢true (sym (rw here at none)))
  | inr other ↦ λ i. same partition other i ∷ none_changed base f same partitions (rw other at none) i
]

one_changed : (base : ℕ) (f : PartitionGroups → PartitionGroups) → ((p : PartitionGroups) → (p.base == base) ≡ false → f p ≡ p)
    → (partitions : List PartitionGroups) (i : ℕ) (d : PartitionGroups) → IsOf base partitions i d → map f partitions ≡ set partitions i (f (get_or partitions i d))
one_changed base f same [] i d at = absurd (let w = at.within in omega arith)
one_changed base f same (partition ∷ partitions) zero d at =
    ap (λ (rest : List PartitionGroups). f partition ∷ rest) (none_changed base f same partitions (rest_other base partition partitions d at))
one_changed base f same (partition ∷ partitions) (suc i) d at =
    let on = further base partition partitions i d at in
    λ j. same partition on.0 j ∷ one_changed base f same partitions i d on.1 j

-- ---- a join in the partition of its base
taken : {X : Type 0} (test : Bool) (x y : X) → test ≡ true → (if test then x else y) ≡ x
taken true x y is = refl
taken false x y is = absurd (false≢true is)

dropped : {X : Type 0} (test : Bool) (x y : X) → test ≡ false → (if test then x else y) ≡ y
dropped true x y is = absurd (false≢true (sym is))
dropped false x y is = refl

joined_elsewhere : (ports : List SubnetPort) (join : Join) (partition : PartitionGroups) → (partition.base == join.base) ≡ false
    → joined_in ports join partition ≡ partition
joined_elsewhere ports join partition other =
    dropped ((partition.base == join.base) && may_join ports join) (record partition { groups = joined_groups ports join partition }) partition
    (ap (λ (b : Bool). b && may_join ports join) other)

abbrev new_or_none : List SubnetPort → Join → PartitionGroups → List MulticastGroup
new_or_none ports join partition = if may_create ports join then with_created join (free_mlid partition) partition.groups else partition.groups

joined_here : (ports : List SubnetPort) (join : Join) (partition : PartitionGroups) → (partition.base == join.base) ≡ true → may_join ports join ≡ true
    → (list_any (has_mgid join.mgid) partition.groups ≡ false → may_create ports join ≡ true) → joined_in ports join partition ≡ entered join partition
joined_here ports join partition here may makes =
    taken ((partition.base == join.base) && may_join ports join) (record partition { groups = joined_groups ports join partition }) partition
    (and_from (partition.base == join.base) (may_join ports join) here may)
    ∙ ap (λ (groups : List MulticastGroup). record partition { groups = groups }) (elim (cases_Bool (list_any (has_mgid join.mgid) partition.groups)) [
      | inl there ↦
          taken (list_any (has_mgid join.mgid) partition.groups) (map (joined_group join) partition.groups) (new_or_none ports join partition) there
          ∙ sym (taken (list_any (has_mgid join.mgid) partition.groups) (map (joined_group join) partition.groups)
          (with_created join (free_mlid partition) partition.groups) there)
      | inr none ↦
          dropped (list_any (has_mgid join.mgid) partition.groups) (map (joined_group join) partition.groups) (new_or_none ports join partition) none
          ∙ taken (may_create ports join) (with_created join (free_mlid partition) partition.groups) partition.groups (makes none)
          ∙ sym (dropped (list_any (has_mgid join.mgid) partition.groups) (map (joined_group join) partition.groups)
          (with_created join (free_mlid partition) partition.groups) none)
    ])

pub entered_there : (join : Join) (partition : PartitionGroups) → list_any (has_mgid join.mgid) partition.groups ≡ true
    → record partition { groups = map (joined_group join) partition.groups } ≡ entered join partition
entered_there join partition there =
    ap (λ (groups : List MulticastGroup). record partition { groups = groups })
    (sym (taken (list_any (has_mgid join.mgid) partition.groups) (map (joined_group join) partition.groups)
    (with_created join (free_mlid partition) partition.groups) there))

pub entered_anew : (join : Join) (partition : PartitionGroups) → list_any (has_mgid join.mgid) partition.groups ≡ false
    → record partition { groups = with_created join (free_mlid partition) partition.groups } ≡ entered join partition
entered_anew join partition none =
    ap (λ (groups : List MulticastGroup). record partition { groups = groups })
    (sym (dropped (list_any (has_mgid join.mgid) partition.groups) (map (joined_group join) partition.groups)
    (with_created join (free_mlid partition) partition.groups) none))

pub joined_is : (ports : List SubnetPort) (join : Join) (partitions : List PartitionGroups) (i : ℕ) (d : PartitionGroups) → OwnBases partitions
    → CanJoin ports join partitions i → joined ports join partitions ≡ set partitions i (entered join (get_or partitions i d))
joined_is ports join partitions i d own can =
    let at = one_of_base join.base partitions i d own can.there in
    one_changed join.base (joined_in ports join) (joined_elsewhere ports join) partitions i d at
    ∙ ap (set partitions i) (joined_here ports join (get_or partitions i d) at.is can.may
    (λ none. can.makes (named_in join.base join.mgid partitions i d at ∙ nothing_found (has_mgid join.mgid) (get_or partitions i d).groups none)))

-- the number of the partition alone, where it is reported
all_unchanged : (ports : List SubnetPort) (partitions : List PartitionGroups) → numbers_changed ports partitions partitions ≡ []
all_unchanged ports [] = refl
all_unchanged ports (partition ∷ partitions) =
    dropped (has_changed ports partition partition) (partition.number ∷ numbers_changed ports partitions partitions) (numbers_changed ports partitions partitions)
    (unchanged ports partition)
    ∙ all_unchanged ports partitions

pub number_reported : (ports : List SubnetPort) (partitions : List PartitionGroups) (i : ℕ) (d new : PartitionGroups) → i < length partitions
    → numbers_changed ports partitions (set partitions i new)
    ≡ (if has_changed ports (get_or partitions i d) new then (get_or partitions i d).number ∷ [] else [])
number_reported ports [] i d new within = absurd (omega arith)
number_reported ports (partition ∷ partitions) zero d new within =
    ap (λ (rest : List ℕ). if has_changed ports partition new then partition.number ∷ rest else rest) (all_unchanged ports partitions)
number_reported ports (partition ∷ partitions) (suc i) d new within =
    dropped (has_changed ports partition partition) (partition.number ∷ numbers_changed ports partitions (set partitions i new))
    (numbers_changed ports partitions (set partitions i new)) (unchanged ports partition)
    ∙ number_reported ports partitions i d new (omega arith)

-- ---- the partition of the base of a port's key is there
known_of : (headings : List Heading) (ports : List SubnetPort) (guid : ℕ) (own : SubnetPort) → AllByRecursion (HoldsKnownKeys headings) ports
    → port_with_guid ports guid ≡ Some own → HoldsKnownKeys headings own
known_of headings [] guid own all found = absurd (cc)
known_of headings (port ∷ ports) guid own all found = elim (cases_Bool (port.guid == guid)) [
  | inl here ↦
      let first : Some port ≡ Some own = rw here at found in
      let same : port ≡ own = cc in
      subst (HoldsKnownKeys headings) same all.0
  | inr other ↦ known_of headings ports guid own all.1 (rw other at found)
]

base_known : (headings : List Heading) (keys : List ℕ) (base : ℕ) → list_all (is_known_key headings) keys ≡ true → has_base base keys ≡ true
    → list_any (λ other. other == base) (bases_in headings) ≡ true
base_known headings [] base all held = absurd (false≢true held)
base_known headings (key ∷ keys) base all held =
    let parts = and_parts (is_known_key headings key) _ all in
    elim (cases_Bool (base_of key == base)) [
      | inl here ↦ subst (λ (n : ℕ). list_any (λ other. other == n) (bases_in headings) ≡ true) (eqb-true (base_of key) base here) parts.0
      | inr other ↦ base_known headings keys base parts.1 (rw other at held)
    ]

nowhere : (partitions : List PartitionGroups) (base k : ℕ) → position_from (λ (p : PartitionGroups). p.base == base) k partitions ≡ None
    → list_any (λ other. other == base) (map (λ (p : PartitionGroups). p.base) partitions) ≡ false
nowhere [] base k none = refl
nowhere (partition ∷ partitions) base k none = elim (cases_Bool (partition.base == base)) [
  | inl here ↦ absurd (let e : Some k ≡ None = rw here at none in cc)
  | inr other ↦ rw other (nowhere partitions base (k + 1) (rw other at none))
]

pub somewhere : (headings : List Heading) (ports : List SubnetPort) (own : SubnetPort) (partitions : List PartitionGroups) (base : ℕ)
    → AllByRecursion (HoldsKnownKeys headings) ports → map partition_of partitions ≡ map partition_of (start_from 0 headings)
    → port_with_guid ports own.guid ≡ Some own → base < 32768 → is_in own base ≡ true → place_with_base partitions base ≡ None → ⊥
somewhere headings ports own partitions base all same found low member none =
    let known = known_of headings ports own.guid own all found in
    let there = base_known headings own.keys base known.known (holds_base own base low member) in
    let here = ap (list_any (λ other. other == base)) (bases_stay partitions 0 headings same) ∙ there in
    let gone = nowhere partitions base 0 (sym (position_from-zero (λ (p : PartitionGroups). p.base == base) partitions) ∙ none) in
    false≢true (sym gone ∙ here)

-- ---- the bits of a JoinState
bit_is : (k n : ℕ) → bit_at n k ≡ bit_of (bit_and n (2 ^ k) == 2 ^ k)
bit_is k n = two (bit_at n k) (bit_at-lt n k) ∙ ap bit_of (sym (is_set k n))
  where
    two : (x : ℕ) → x < 2 → x ≡ bit_of (x == 1)
    two zero low = refl
    two (suc zero) low = refl
    two (suc (suc x)) low = absurd (omega (arith, low))

pub all_bits : (n : ℕ) → bit_and n 7 ≡ bits_of_join_state (join_state_of n)
all_bits n = low_bits n ∙ (λ i. bit_is 0 n i + (2 * bit_is 1 n i + 4 * bit_is 2 n i))

-- ---- what a registry is after a join
pub own_bases_of : (configuration : ConfigurationState) (state : SaState) → IsConfigured configuration → IsRememberedOf configuration state
    → OwnBases state.partitions
own_bases_of configuration state configured remembered =
    subst (IsDistinct nat_eq) (sym (bases_stay state.partitions 0 configuration.partitions remembered.partitions)) configured.headings.bases.distinct

own_bases : (kept : List KeptPort) (headings : List Heading) (partitions : List PartitionGroups) (place_of : ℕ → Option ℕ)
    → IsRegistry kept headings partitions place_of → OwnBases partitions
own_bases kept headings partitions place_of is =
    own_bases_of (configuration_in kept headings) (remembered_in kept partitions) is.configured is.remembered

pub of_base : (kept : List KeptPort) (headings : List Heading) (partitions : List PartitionGroups) (place_of : ℕ → Option ℕ) (base i : ℕ) (d : PartitionGroups)
    → IsRegistry kept headings partitions place_of → place_with_base partitions base ≡ Some i → IsOf base partitions i d
of_base kept headings partitions place_of base i d is place = one_of_base base partitions i d (own_bases kept headings partitions place_of is) place

pub few_partitions : (kept : List KeptPort) (headings : List Heading) (partitions : List PartitionGroups) (place_of : ℕ → Option ℕ)
    → IsRegistry kept headings partitions place_of → length partitions ≤ PARTITIONS
few_partitions kept headings partitions place_of is =
    let same = ap length (bases_stay partitions 0 headings is.remembered.partitions) in
    let long = length-map partitions (λ (p : PartitionGroups). p.base) in
    let room = is.configured.headings.bases.room in
    omega (arith, same, long, room)

pub sound_at : (kept : List KeptPort) (headings : List Heading) (partitions : List PartitionGroups) (place_of : ℕ → Option ℕ) (i : ℕ) (d : PartitionGroups)
    → IsRegistry kept headings partitions place_of → i < length partitions → is_sound_partition (ports_of kept) (get_or partitions i d) ≡ true
sound_at kept headings partitions place_of i d is within = all_at (is_sound_partition (ports_of kept)) partitions i d is.remembered.groups within

joined_in_registry : (join : Join) (kept : List KeptPort) (headings : List Heading) (partitions : List PartitionGroups) (place_of : ℕ → Option ℕ) (i : ℕ)
    (d new : PartitionGroups) → IsRegistry kept headings partitions place_of → CanJoin (ports_of kept) join partitions i
    → new ≡ entered join (get_or partitions i d) → joined (ports_of kept) join partitions ≡ set partitions i new
joined_in_registry join kept headings partitions place_of i d new is can next =
    joined_is (ports_of kept) join partitions i d (own_bases kept headings partitions place_of is) can ∙ ap (set partitions i) (sym next)

pub join_registry : (join : Join) (kept : List KeptPort) (headings : List Heading) (partitions : List PartitionGroups) (place_of : ℕ → Option ℕ) (i : ℕ)
    (d new : PartitionGroups) → IsRegistry kept headings partitions place_of
    → CanJoin (ports_of kept) join partitions i → new ≡ entered join (get_or partitions i d) → IsRegistry kept headings (set partitions i new) place_of
join_registry join kept headings partitions place_of i d new is can next = record {
  configured = is.configured;
  finds = is.finds;
  remembered = subst (λ (some : List PartitionGroups). IsRememberedOf (configuration_in kept headings) (remembered_in kept some))
      (joined_in_registry join kept headings partitions place_of i d new is can next)
      (join_remembered (configuration_in kept headings) (remembered_in kept partitions) join can.fit is.remembered);
}

pub join_state : (join : Join) (kept : List KeptPort) (headings : List Heading) (partitions : List PartitionGroups) (place_of : ℕ → Option ℕ) (i : ℕ)
    (d new : PartitionGroups) (is_broken : Bool) (state : RegistryState) → IsRegistry kept headings partitions place_of
    → CanJoin (ports_of kept) join partitions i → new ≡ entered join (get_or partitions i d) → registry_in kept headings partitions is_broken ≡ state
    → registry_in kept headings (set partitions i new) is_broken
    ≡ with_partitions (joined state.configuration.ports join state.administration.remembered.partitions) state
join_state join kept headings partitions place_of i d new is_broken state is can next view =
    subst (λ (s : RegistryState). registry_in kept headings (set partitions i new) is_broken
    ≡ with_partitions (joined s.configuration.ports join s.administration.remembered.partitions) s) view
    (ap (λ (some : List PartitionGroups). registry_in kept headings some is_broken)
    (sym (joined_in_registry join kept headings partitions place_of i d new is can next)))

same_number : (partitions : List PartitionGroups) (i : ℕ) (d new : PartitionGroups) → new.number ≡ (get_or partitions i d).number
    → map (λ (p : PartitionGroups). p.number) (set partitions i new) ≡ map (λ (p : PartitionGroups). p.number) partitions
same_number [] i d new same = refl
same_number (partition ∷ partitions) zero d new same = ap (λ (n : ℕ). n ∷ map (λ (p : PartitionGroups). p.number) partitions) same
same_number (partition ∷ partitions) (suc i) d new same = ap (λ (rest : List ℕ). partition.number ∷ rest) (same_number partitions i d new same)

has_free : (ports : List SubnetPort) (join : Join) (partitions : List PartitionGroups) (i : ℕ) (d : PartitionGroups) → IsOf join.base partitions i d
    → CanJoin ports join partitions i → list_any (has_mgid join.mgid) (get_or partitions i d).groups ≡ false
    → is_none (free_mlid (get_or partitions i d)) ≡ false
has_free ports join partitions i d at can none =
    let absent = named_in join.base join.mgid partitions i d at ∙ nothing_found (has_mgid join.mgid) (get_or partitions i d).groups none in
    not_none (free_mlid (get_or partitions i d)) (sym (free_in join.base partitions i d at) ∙ can.free absent)
  where
    not_none : (mlid : Option ℕ) → not (is_none mlid) ≡ true → is_none mlid ≡ false
    not_none None some = absurd (false≢true some)
    not_none (Some mlid) some = refl

pub join_numbers : (join : Join) (kept : List KeptPort) (headings : List Heading) (partitions : List PartitionGroups) (place_of : ℕ → Option ℕ) (i : ℕ)
    (d new : PartitionGroups) → IsRegistry kept headings partitions place_of → CanJoin (ports_of kept) join partitions i
    → new ≡ entered join (get_or partitions i d)
    → changed_numbers (ports_of kept) partitions (set partitions i new)
    ≡ (if receives_anew join (get_or partitions i d) && is_adapter (ports_of kept) join.port then (get_or partitions i d).number ∷ [] else [])
join_numbers join kept headings partitions place_of i d new is can next =
    let ports = ports_of kept in
    let at = of_base kept headings partitions place_of join.base i d is can.there in
    let number : new.number ≡ (get_or partitions i d).number = ap (λ (p : PartitionGroups). p.number) next in
    changed_are ports partitions (set partitions i new) (numbers_stay partitions 0 headings is.remembered.partitions) (same_number partitions i d new number)
    ∙ number_reported ports partitions i d new at.within
    ∙ ap (λ (after : PartitionGroups). if has_changed ports (get_or partitions i d) after then (get_or partitions i d).number ∷ [] else []) next
    ∙ ap (λ (b : Bool). if b then (get_or partitions i d).number ∷ [] else [])
    (join_changes ports join (get_or partitions i d) is.configured.lids is.configured.own_guids
    (sound_at kept headings partitions place_of i d is at.within) (has_free ports join partitions i d at can))

-- ---- and after a leave
pub leave_registry : (leave : Leave) (kept : List KeptPort) (headings : List Heading) (partitions new : List PartitionGroups) (place_of : ℕ → Option ℕ)
    → IsRegistry kept headings partitions place_of → new ≡ left (ports_of kept) leave partitions → IsRegistry kept headings new place_of
leave_registry leave kept headings partitions new place_of is next = record {
  configured = is.configured;
  finds = is.finds;
  remembered = subst (λ (some : List PartitionGroups). IsRememberedOf (configuration_in kept headings) (remembered_in kept some)) (sym next)
      (leave_remembered (configuration_in kept headings) (remembered_in kept partitions) leave is.remembered);
}

pub leave_numbers : (leave : Leave) (kept : List KeptPort) (headings : List Heading) (partitions new : List PartitionGroups) (place_of : ℕ → Option ℕ)
    → IsRegistry kept headings partitions place_of → new ≡ left (ports_of kept) leave partitions
    → changed_numbers (ports_of kept) partitions new ≡ numbers_changed (ports_of kept) partitions new
leave_numbers leave kept headings partitions new place_of is next =
    changed_are (ports_of kept) partitions new (numbers_stay partitions 0 headings is.remembered.partitions)
    (ap (map (λ (p : PartitionGroups). p.number)) next ∙ stay partitions)
  where
    stay : (some : List PartitionGroups) → map (λ (p : PartitionGroups). p.number) (left (ports_of kept) leave some) ≡ map (λ (p : PartitionGroups). p.number) some
    stay [] = refl
    stay (partition ∷ some) = ap (λ (rest : List ℕ). partition.number ∷ rest) (stay some)

-- a list that is written over a whole one
pub all_written : {X : Type 0} (n : ℕ) (xs ys : List X) → length xs ≡ n → take n (xs ++ drop (length xs) ys) ≡ xs
all_written n xs ys long = ap (λ (k : ℕ). take k (xs ++ drop (length xs) ys)) (sym long) ∙ take-append_seam xs (drop (length xs) ys)

-- the bases stay, and so do the places
pub same_place : (base : ℕ) (before after : List PartitionGroups) → map partition_of after ≡ map partition_of before
    → place_with_base after base ≡ place_with_base before base
same_place base before after same =
    position_from-zero (λ (p : PartitionGroups). p.base == base) after ∙ from 0 before after same
    ∙ sym (position_from-zero (λ (p : PartitionGroups). p.base == base) before)
  where
    from : (k : ℕ) (some others : List PartitionGroups) → map partition_of others ≡ map partition_of some
        → position_from (λ (p : PartitionGroups). p.base == base) k others ≡ position_from (λ (p : PartitionGroups). p.base == base) k some
    from k [] [] e = refl
    from k [] (other ∷ others) e = absurd (cc)
    from k (one ∷ some) [] e = absurd (cc)
    from k (one ∷ some) (other ∷ others) e =
        let head : partition_of other ≡ partition_of one = cc in
        let tail : map partition_of others ≡ map partition_of some = cc in
        let based : other.base ≡ one.base = ap (λ (pair : ℕ × ℕ). pair.1) head in
        rw (based, from (k + 1) some others tail) refl

pub some_place : (place : Option ℕ) → (place ≡ None → ⊥) → IsSome place
some_place None none = absurd (none refl)
some_place (Some i) none = refl
