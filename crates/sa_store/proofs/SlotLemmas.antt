-- Slots and the groups in them, by MLID: which group has an MGID, which MLID is free, and what changes with a slot.
use Rattle.std.proofs.Common.{◌≡◌, ℕ, zero, suc, ◌+◌, ◌-◌, ◌*◌, ◌%◌, ◌^◌, ◌<◌, ◌≤◌, ◌==◌, nat_lt, bit_and, Bool, true, false, not, List, [], ◌∷◌, find, map, length, get_or, set, Option, Some, None, is_none, is_some, refl, sym, ◌∙◌, ap, inl, inr, arith, w32, ◌++◌}
use Rattle.std.specs.Int.{bit_at, bit_not, trailing_zeros}
use Rattle.std.specs.List.{list_all, list_any, position, position_from, position_or_len, range_with_len}
use Rattle.std.specs.Option.{option_map}
use Rattle.std.proofs.lemmas.Bool.{and_parts, cases_Bool, eqb-true, eq-eqb, false≢true, ltb-true, lt-ltb, ne_eqb}
use Rattle.std.proofs.lemmas.Iterator.Adapters.{position_from-zero}
use Rattle.std.proofs.lemmas.List.Quantifiers.{position-Some}
use Rattle.std.proofs.lemmas.Nat.{and-not, and_comm, one_shl, pow_below}
use Rattle.std.proofs.lemmas.Nat.Bits.{and_pow, bit_at-trailing_zeros}
use Rattle.std.proofs.lemmas.Simd.{trailing_mask_l}
use Rattle.std.proofs.Math.Nat.{pow-succ'}
use Rattle.std.specs.Simd.Lanes.{mask_l}
use Rattle.sa_model.specs.Anchor.{free_mlid}
use Rattle.sa_model.specs.Groups.{MulticastGroup, PartitionGroups, first_mlid, lower_port}
use Rattle.sa_model.specs.Joining.{Join, joined_group, new_group, with_created, with_group}
use Rattle.sa_model.specs.Sound.{other_mgid, pairwise}
use Rattle.sa_store.specs.Joined.{founded, holds_mgid, is_in_order, joined_slot}
use Rattle.sa_store.specs.MlidRange.{SlotGroup, free_slots, groups_in, partition_in, with_mlid}

-- ---- the free MLID
abbrev has_mlid : ℕ → List MulticastGroup → Bool
has_mlid mlid groups = list_any (λ group. group.mlid == mlid) groups

abbrev is_free : List MulticastGroup → ℕ → Bool
is_free groups mlid = not (has_mlid mlid groups)

none_below : (mlid from : ℕ) (slots : List (Option SlotGroup)) → mlid < from → has_mlid mlid (groups_in from slots) ≡ false
none_below mlid from [] low = refl
none_below mlid from (None ∷ slots) low = none_below mlid (from + 1) slots (omega arith)
none_below mlid from (Some group ∷ slots) low =
    let other : (from == mlid) ≡ false = ne_eqb from mlid (λ same. omega (arith, same, low)) in
    rw other (none_below mlid (from + 1) slots (omega arith))

same_found : (p q : ℕ → Bool) (from count : ℕ) → ((n : ℕ) → from ≤ n → p n ≡ q n) → find p (range_with_len from count) ≡ find q (range_with_len from count)
same_found p q from zero same = refl
same_found p q from (suc count) same = rw (same from (omega arith), same_found p q (from + 1) count (λ n above. same n (omega arith))) refl

free_from : (first k mlid count : ℕ) (slots : List (Option SlotGroup)) → mlid ≡ first + k → length slots ≡ count
    → find (is_free (groups_in mlid slots)) (range_with_len mlid count) ≡ option_map (λ (j : ℕ). first + j) (position_from is_none k slots)
free_from first k mlid zero [] is all = refl
free_from first k mlid (suc count) [] is all = absurd (omega (arith, all))
free_from first k mlid zero (slot ∷ slots) is all = absurd (omega (arith, all))
free_from first k mlid (suc count) (None ∷ slots) is all =
    let none = none_below mlid (mlid + 1) slots (omega arith) in
    rw none (ap (λ (n : ℕ). Some n) is)
free_from first k mlid (suc count) (Some group ∷ slots) is all =
    let own : (mlid == mlid) ≡ true = eq-eqb mlid mlid refl in
    let groups = groups_in (mlid + 1) slots in
    let same = same_found (is_free (with_mlid mlid group ∷ groups)) (is_free groups) (mlid + 1) count (λ n above.
    let other : (mlid == n) ≡ false = ne_eqb mlid n (λ is. omega (arith, is, above)) in rw other refl) in
    rw (own, same) (free_from first (k + 1) (mlid + 1) count slots (omega arith) (omega arith))

pub free_is : (number base : ℕ) (slots : List (Option SlotGroup)) → length slots ≡ 32
    → free_mlid (partition_in number base slots) ≡ option_map (λ (j : ℕ). first_mlid number + j) (position is_none slots)
free_is number base slots all =
    free_from (first_mlid number) 0 (first_mlid number) 32 slots (omega arith) all
    ∙ ap (option_map (λ (j : ℕ). first_mlid number + j)) (sym (position_from-zero is_none slots))

-- ---- some slot is free
twice_none : (n : ℕ) → (2 * n == 0) ≡ (n == 0)
twice_none zero = refl
twice_none (suc n) =
    let a : (2 * suc n == 0) ≡ false = ne_eqb (2 * suc n) 0 (λ same. omega (arith, same)) in
    let b : (suc n == 0) ≡ false = ne_eqb (suc n) 0 (λ same. omega (arith, same)) in
    rw (a, b) refl

some_from : (first k : ℕ) (slots : List (Option SlotGroup))
    → not (free_slots slots == 0) ≡ not (is_none (option_map (λ (j : ℕ). first + j) (position_from is_none k slots)))
some_from first k [] = refl
some_from first k (None ∷ slots) =
    let some : (1 + 2 * free_slots slots == 0) ≡ false = ne_eqb (1 + 2 * free_slots slots) 0 (λ same. omega (arith, same)) in rw some refl
some_from first k (Some group ∷ slots) = rw (twice_none (free_slots slots)) (some_from first (k + 1) slots)

pub some_free : (number base free : ℕ) (slots : List (Option SlotGroup)) (partition : PartitionGroups) → length slots ≡ 32 → free ≡ free_slots slots
    → partition_in number base slots ≡ partition → not (free == 0) ≡ not (is_none (free_mlid partition))
some_free number base free slots partition all reported is =
    ap (λ (n : ℕ). not (n == 0)) reported
    ∙ some_from (first_mlid number) 0 slots
    ∙ ap (λ (mlid : Option ℕ). not (is_none (option_map (λ (j : ℕ). first_mlid number + j) mlid))) (sym (position_from-zero is_none slots))
    ∙ ap (λ (mlid : Option ℕ). not (is_none mlid)) (sym (free_is number base slots all))
    ∙ ap (λ (one : PartitionGroups). not (is_none (free_mlid one))) is

-- ---- the group of one MGID is joined, in its slot
others_joined : (join : Join) (first : MulticastGroup) (groups : List MulticastGroup) → (first.mgid == join.mgid) ≡ true
    → list_all (other_mgid first) groups ≡ true → map (joined_group join) groups ≡ groups
others_joined join first [] here apart = refl
others_joined join first (group ∷ groups) here apart =
    let parts = and_parts (other_mgid first group) _ apart in
    elim (cases_Bool (group.mgid == join.mgid)) [
      | inl same ↦
          let equal : first.mgid ≡ group.mgid = eqb-true first.mgid join.mgid here ∙ sym (eqb-true group.mgid join.mgid same) in
          absurd (false≢true (ap not (sym (eq-eqb first.mgid group.mgid equal)) ∙ parts.0))
      | inr other ↦ rw other (ap (λ (rest : List MulticastGroup). group ∷ rest) (others_joined join first groups here parts.1))
    ]

-- this slot is the first with the MGID
pub record IsFirst (mgid : ℕ) (slots : List (Option SlotGroup)) (i : ℕ) (d : Option SlotGroup) : Type 0 where
  pub within : i < length slots
  pub is : holds_mgid mgid (get_or slots i d) ≡ true
  pub before : (k : ℕ) → k < i → holds_mgid mgid (get_or slots k d) ≡ false

pub later : (mgid : ℕ) (slot : Option SlotGroup) (slots : List (Option SlotGroup)) (i : ℕ) (d : Option SlotGroup) → IsFirst mgid (slot ∷ slots) (suc i) d → IsFirst mgid slots i d
later mgid slot slots i d first = record {
  within = let w = first.within in omega arith;
  is = first.is;
  before = λ k low. first.before (suc k) (omega (arith, low));
}

pub slot_joined : (join : Join) (mlid : ℕ) (slots : List (Option SlotGroup)) (i : ℕ) (d : Option SlotGroup) → IsFirst join.mgid slots i d
    → pairwise other_mgid (groups_in mlid slots) ≡ true
    → groups_in mlid (set slots i (joined_slot join (get_or slots i d))) ≡ map (joined_group join) (groups_in mlid slots)
slot_joined join mlid [] i d first own = absurd (let w = first.within in omega arith)
slot_joined join mlid (None ∷ slots) zero d first own = absurd (false≢true first.is)
slot_joined join mlid (Some group ∷ slots) zero d first own =
    let here : (group.mgid == join.mgid) ≡ true = first.is in
    let parts = and_parts (list_all (other_mgid (with_mlid mlid group)) (groups_in (mlid + 1) slots)) _ own in
    let others = others_joined join (with_mlid mlid group) (groups_in (mlid + 1) slots) here parts.0 in
    rw (here, others) refl
slot_joined join mlid (None ∷ slots) (suc i) d first own = slot_joined join (mlid + 1) slots i d (later join.mgid None slots i d first) own
slot_joined join mlid (Some group ∷ slots) (suc i) d first own =
    let other : (group.mgid == join.mgid) ≡ false = first.before zero (omega arith) in
    let parts = and_parts (list_all (other_mgid (with_mlid mlid group)) (groups_in (mlid + 1) slots)) _ own in
    rw other
    (ap (λ (rest : List MulticastGroup). with_mlid mlid group ∷ rest)
    (slot_joined join (mlid + 1) slots i d (later join.mgid (Some group) slots i d first) parts.1))

none_joined : (join : Join) (mlid k : ℕ) (slots : List (Option SlotGroup)) → position_from (holds_mgid join.mgid) k slots ≡ None
    → map (joined_group join) (groups_in mlid slots) ≡ groups_in mlid slots
none_joined join mlid k [] none = refl
none_joined join mlid k (None ∷ slots) none = none_joined join (mlid + 1) (k + 1) slots none
none_joined join mlid k (Some group ∷ slots) none = elim (cases_Bool (group.mgid == join.mgid)) [
  | inl here ↦ absurd (let e : Some k ≡ None = rw here at none in cc)
  | inr other ↦
      rw other (ap (λ (rest : List MulticastGroup). with_mlid mlid group ∷ rest) (none_joined join (mlid + 1) (k + 1) slots (rw other at none)))
]

pub nobody_joined : (join : Join) (mlid : ℕ) (slots : List (Option SlotGroup)) → position (holds_mgid join.mgid) slots ≡ None
    → map (joined_group join) (groups_in mlid slots) ≡ groups_in mlid slots
nobody_joined join mlid slots none = none_joined join mlid 0 slots (sym (position_from-zero (holds_mgid join.mgid) slots) ∙ none)

pub slot_in_order : (mlid : ℕ) (slots : List (Option SlotGroup)) (i : ℕ) (d : Option SlotGroup) → i < length slots
    → list_all (λ (group : MulticastGroup). pairwise lower_port group.memberships) (groups_in mlid slots) ≡ true → is_in_order (get_or slots i d) ≡ true
slot_in_order mlid [] i d within all = absurd (omega arith)
slot_in_order mlid (None ∷ slots) zero d within all = refl
slot_in_order mlid (Some group ∷ slots) zero d within all = (and_parts (pairwise lower_port group.memberships) _ all).0
slot_in_order mlid (None ∷ slots) (suc i) d within all = slot_in_order (mlid + 1) slots i d (omega arith) all
slot_in_order mlid (Some group ∷ slots) (suc i) d within all =
    slot_in_order (mlid + 1) slots i d (omega arith) (and_parts (pairwise lower_port group.memberships) _ all).1

-- a slot that is full as before leaves the set of the free ones
pub free_stays : (slots : List (Option SlotGroup)) (i : ℕ) (d new : Option SlotGroup) → i < length slots → is_some new ≡ is_some (get_or slots i d)
    → free_slots (set slots i new) ≡ free_slots slots
free_stays [] i d new within same = absurd (omega arith)
free_stays (None ∷ slots) zero d None within same = refl
free_stays (None ∷ slots) zero d (Some group) within same = absurd (false≢true (sym same))
free_stays (Some old ∷ slots) zero d None within same = absurd (false≢true same)
free_stays (Some old ∷ slots) zero d (Some group) within same = refl
free_stays (None ∷ slots) (suc i) d new within same = ap (λ (n : ℕ). 1 + 2 * n) (free_stays slots i d new (omega arith) same)
free_stays (Some old ∷ slots) (suc i) d new within same = ap (λ (n : ℕ). 2 * n) (free_stays slots i d new (omega arith) same)

pub first_with : (mgid : ℕ) (slots : List (Option SlotGroup)) (i : ℕ) (d : Option SlotGroup) → position (holds_mgid mgid) slots ≡ Some i → IsFirst mgid slots i d
first_with mgid slots i d place =
    let at = position-Some (holds_mgid mgid) slots i d place in
    record { within = at.0; is = at.1; before = at.2 }

pub partition_joined : (join : Join) (number base : ℕ) (slots : List (Option SlotGroup)) (i : ℕ) (d : Option SlotGroup) (partition : PartitionGroups)
    → partition_in number base slots ≡ partition → position (holds_mgid join.mgid) slots ≡ Some i → pairwise other_mgid partition.groups ≡ true
    → partition_in number base (set slots i (joined_slot join (get_or slots i d))) ≡ record partition { groups = map (joined_group join) partition.groups }
partition_joined join number base slots i d partition is place own =
    let groups : groups_in (first_mlid number) slots ≡ partition.groups = ap (λ (one : PartitionGroups). one.groups) is in
    let done = slot_joined join (first_mlid number) slots i d (first_with join.mgid slots i d place) (rw groups own) in
    ap (λ (some : List MulticastGroup). record { number = number; base = base; groups = some }) done
    ∙ ap (λ (one : PartitionGroups). record one { groups = map (joined_group join) one.groups }) is

pub partition_left_alone : (join : Join) (number base : ℕ) (slots : List (Option SlotGroup)) (partition : PartitionGroups)
    → partition_in number base slots ≡ partition → position (holds_mgid join.mgid) slots ≡ None
    → partition ≡ record partition { groups = map (joined_group join) partition.groups }
partition_left_alone join number base slots partition is none =
    sym is
    ∙ ap (λ (some : List MulticastGroup). record { number = number; base = base; groups = some }) (sym (nobody_joined join (first_mlid number) slots none))
    ∙ ap (λ (one : PartitionGroups). record one { groups = map (joined_group join) one.groups }) is

-- ---- a group is made in the first free slot
abbrev pub free_place : List (Option SlotGroup) → ℕ
free_place slots = position_or_len is_none slots

goes_first : (new : MulticastGroup) (mlid : ℕ) (slots : List (Option SlotGroup)) → new.mlid < mlid → with_group new (groups_in mlid slots) ≡ new ∷ groups_in mlid slots
goes_first new mlid [] low = refl
goes_first new mlid (None ∷ slots) low = goes_first new (mlid + 1) slots (omega arith)
goes_first new mlid (Some group ∷ slots) low = rw (lt-ltb new.mlid mlid low) refl

one_more : (n : ℕ) → 1 + n ≡ suc n
one_more n = omega arith

not_less : (a b : ℕ) → b ≤ a → nat_lt a b ≡ false
not_less a b h = elim (cases_Bool (nat_lt a b)) [
  | inl less ↦ absurd (omega (arith, ltb-true a b less, h))
  | inr other ↦ other
]

made_at : (join : Join) (mlid n : ℕ) (slots : List (Option SlotGroup)) → free_place slots < length slots → n ≡ mlid + free_place slots
    → with_group (new_group join n) (groups_in mlid slots) ≡ groups_in mlid (set slots (free_place slots) (Some (founded join)))
made_at join mlid n [] within is = absurd (omega arith)
made_at join mlid n (None ∷ slots) within is =
    let same : n ≡ mlid = omega (arith, is) in
    rw same (goes_first (new_group join mlid) (mlid + 1) slots (omega arith))
made_at join mlid n (Some group ∷ slots) within is =
    let e = one_more (free_place slots) in
    let higher = not_less n mlid (omega (arith, is)) in
    rw (e, higher) (ap (λ (rest : List MulticastGroup). with_mlid mlid group ∷ rest) (made_at join (mlid + 1) n slots (omega (arith, within)) (omega (arith, is))))

pub created : (join : Join) (number base : ℕ) (slots : List (Option SlotGroup)) → length slots ≡ 32 → free_place slots < 32
    → with_created join (free_mlid (partition_in number base slots)) (groups_in (first_mlid number) slots)
    ≡ groups_in (first_mlid number) (set slots (free_place slots) (Some (founded join)))
created join number base slots all within =
    let less : nat_lt (free_place slots) (length slots) ≡ true = lt-ltb (free_place slots) (length slots) (omega (arith, all, within)) in
    let free : free_mlid (partition_in number base slots) ≡ Some (first_mlid number + free_place slots) =
    free_is number base slots all ∙ rw less refl in
    ap (λ (mlid : Option ℕ). with_created join mlid (groups_in (first_mlid number) slots)) free
    ∙ made_at join (first_mlid number) (first_mlid number + free_place slots) slots (omega (arith, all, within)) refl

-- its bit in the set is the lowest, and is cleared
pub as_mask : (slots : List (Option SlotGroup)) → free_slots slots ≡ mask_l (map is_none slots)
as_mask [] = refl
as_mask (None ∷ slots) = ap (λ (n : ℕ). 1 + 2 * n) (as_mask slots)
as_mask (Some group ∷ slots) = ap (λ (n : ℕ). 2 * n) (as_mask slots) ∙ omega arith

pub lowest : (slots : List (Option SlotGroup)) → length slots ≡ 32 → 0 < free_slots slots → trailing_zeros w32 (free_slots slots) ≡ free_place slots
lowest slots all some =
    let mask = as_mask slots in
    let found = trailing_mask_l is_none 32 slots (omega (arith, all)) (omega (arith, mask, some)) in
    rw mask found

taken : (slots : List (Option SlotGroup)) (group : SlotGroup) → free_place slots < length slots
    → free_slots (set slots (free_place slots) (Some group)) + 2 ^ free_place slots ≡ free_slots slots
taken [] group within = absurd (omega arith)
taken (None ∷ slots) group within = omega arith
taken (Some held ∷ slots) group within =
    let e = one_more (free_place slots) in
    let rest = taken slots group (omega (arith, within)) in
    let twice = pow-succ' 2 (free_place slots) in
    rw (e, twice) (omega (arith, rest))

cleared : (n k : ℕ) → k < 32 → n < 2 ^ 32 → bit_at n k ≡ 1 → bit_and n (bit_not w32 (1 * 2 ^ k % 2 ^ 32)) + 2 ^ k ≡ n
cleared n k within low one =
    let shifted = one_shl k 32 within in
    let bit : bit_and (2 ^ k) n ≡ 2 ^ k = and_comm (2 ^ k) n ∙ and_pow n k ∙ ap (λ (b : ℕ). b * 2 ^ k) one ∙ omega arith in
    let parts = and-not 32 (2 ^ k) n (pow_below k 32 within) low in
    let turned = and_comm n (2 ^ 32 - 1 - 2 ^ k) in
    rw (shifted, turned) (ap (λ (b : ℕ). bit_and (2 ^ 32 - 1 - 2 ^ k) n + b) (sym bit) ∙ parts)

pub bit_cleared : (slots : List (Option SlotGroup)) (group : SlotGroup) → length slots ≡ 32 → 0 < free_slots slots → free_slots slots < 2 ^ 32
    → bit_and (free_slots slots) (bit_not w32 (1 * 2 ^ free_place slots % 2 ^ 32)) ≡ free_slots (set slots (free_place slots) (Some group))
bit_cleared slots group all some low =
    let place = lowest slots all some in
    let reported = bit_at-trailing_zeros w32 (free_slots slots) some low in
    let within : free_place slots < 32 = rw place at reported.0 in
    let one : bit_at (free_slots slots) (free_place slots) ≡ 1 = rw place at reported.1 in
    let a = cleared (free_slots slots) (free_place slots) within low one in
    let b = taken slots group (omega (arith, all, within)) in
    omega (arith, a, b)

pub free_within : (slots : List (Option SlotGroup)) → length slots ≡ 32 → 0 < free_slots slots → free_slots slots < 2 ^ 32 → free_place slots < 32
free_within slots all some low =
    let place = lowest slots all some in
    let reported = bit_at-trailing_zeros w32 (free_slots slots) some low in
    rw place at reported.0

pub partition_made : (join : Join) (number base : ℕ) (slots : List (Option SlotGroup)) (partition : PartitionGroups) → length slots ≡ 32
    → free_place slots < 32 → partition_in number base slots ≡ partition
    → partition_in number base (set slots (free_place slots) (Some (founded join)))
    ≡ record partition { groups = with_created join (free_mlid partition) partition.groups }
partition_made join number base slots partition all within is =
    ap (λ (some : List MulticastGroup). record { number = number; base = base; groups = some }) (sym (created join number base slots all within))
    ∙ ap (λ (one : PartitionGroups). record one { groups = with_created join (free_mlid one) one.groups }) is

-- where no slot is free, none is made
not_made : (join : Join) (mlid : Option ℕ) (groups : List MulticastGroup) → is_none mlid ≡ true → groups ≡ with_created join mlid groups
not_made join None groups none = refl
not_made join (Some mlid) groups none = absurd (false≢true none)

nothing : (b : Bool) → false ≡ not b → b ≡ true
nothing true h = refl
nothing false h = absurd (false≢true h)

pub partition_full : (join : Join) (number base free : ℕ) (slots : List (Option SlotGroup)) (partition : PartitionGroups) → length slots ≡ 32
    → free ≡ free_slots slots → partition_in number base slots ≡ partition → free ≡ 0
    → partition ≡ record partition { groups = with_created join (free_mlid partition) partition.groups }
partition_full join number base free slots partition all reported is full =
    let some = some_free number base free slots partition all reported is in
    let none = nothing (is_none (free_mlid partition)) (ap (λ (n : ℕ). not (n == 0)) (sym full) ∙ some) in
    ap (λ (some : List MulticastGroup). record partition { groups = some }) (not_made join (free_mlid partition) partition.groups none)

-- ---- slots that follow others
pub groups_joined : (mlid next : ℕ) (xs ys : List (Option SlotGroup)) → next ≡ mlid + length xs → groups_in mlid (xs ++ ys) ≡ groups_in mlid xs ++ groups_in next ys
groups_joined mlid next [] ys is = let e : next ≡ mlid = omega arith in rw e refl
groups_joined mlid next (None ∷ xs) ys is = groups_joined (mlid + 1) next xs ys (omega arith)
groups_joined mlid next (Some group ∷ xs) ys is = ap (λ rest. with_mlid mlid group ∷ rest) (groups_joined (mlid + 1) next xs ys (omega arith))
