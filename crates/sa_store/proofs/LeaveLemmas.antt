-- What leaves take of memberships and of groups in slots.
use Rattle.std.proofs.Common.{◌++◌, ◌≡◌, ℕ, zero, suc, ◌+◌, ◌-◌, ◌*◌, ◌/◌, ◌%◌, ◌^◌, ◌<◌, ◌==◌, min, bit_and, Bool, true, false, not, ◌&&◌, ◌||◌}
use Rattle.std.proofs.Common.{List, [], ◌∷◌, Option, Some, None, nat_lt, filter, map, length, get_or, set, remove, w8, is_none, is_some, cond, bit_or, subst, take, drop}
use Rattle.std.proofs.Common.{refl, sym, ◌∙◌, ap, inl, inr, arith}
use Rattle.std.specs.Int.{bit_at}
use Rattle.std.specs.List.{AllByRecursion, list_all, list_any, position, position_from}
use Rattle.std.proofs.lemmas.Bool.{and_parts, cases_Bool, eq-eqb, eqb-true, false≢true, ne_eqb}
use Rattle.std.proofs.lemmas.Nat.{and_mask, one_shl, or_disjoint, pow_pos}
use Rattle.std.proofs.lemmas.Iterator.Adapters.{position_from-zero}
use Rattle.std.proofs.lemmas.Simd.{bit_mask_l}
use Rattle.std.proofs.Math.Nat.{pow-succ'}
use Rattle.subnet_model.specs.declared.subnet_port.SubnetPort.{SubnetPort}
use Rattle.sa_model.specs.Anchor.{is_kept as keeps}
use Rattle.std.proofs.lemmas.Nat.Bits.{and_pow, bit_at-lt, bit_at_and, bit_at_not}
use Rattle.step_results.proofs.BoolLemmas.{bit_turned}
use Rattle.sa_model.specs.Groups.{Membership, MulticastGroup, PartitionGroups, first_mlid, lower_port}
use Rattle.sa_model.specs.JoinState.{JoinState, is_joined, without_bits}
use Rattle.sa_model.specs.Joining.{has_mgid, is_of}
use Rattle.sa_model.specs.Leaving.{Leave, is_left, left_group, left_in, less_joined, names_base}
use Rattle.sa_model.specs.Sound.{is_in_range, is_sound_group, is_sound_membership, is_sound_partition, lower_mlid, may_have_made, other_mgid, pairwise}
use Rattle.sa_model.specs.Members.{is_member}
use Rattle.sa_replies.specs.Joins.{has_bit_of, is_taken_from, join_state_of}
use Rattle.sa_store.specs.Joined.{holds_mgid}
use Rattle.sa_store.specs.Left.{are_settled, is_kept, is_settled, left_by, left_slot, less_by, loses_some, takes_from, takes_part}
use Rattle.sa_store.proofs.JoinLemmas.{above_first, is_at, lower_is_other, none_of_port, none_there, one_more, place_for, within_there}
use Rattle.sa_store.proofs.SlotLemmas.{IsFirst, as_mask, first_with, later}
use Rattle.sa_store.specs.MlidRange.{SlotGroup, free_slots, groups_in, partition_in, with_mlid}

-- ---- the bits of a JoinState
one_times : (x p : ℕ) → x < 2 → 0 < p → (x * p == p) ≡ (x == 1)
one_times zero p low some = let none : (0 * p == p) ≡ false = ne_eqb (0 * p) p (λ same. omega (arith, same, some)) in rw none refl
one_times (suc zero) p low some = let all : (1 * p == p) ≡ true = eq-eqb (1 * p) p (omega arith) in rw all refl
one_times (suc (suc x)) p low some = absurd (omega (arith, low))

pub is_set : (k n : ℕ) → (bit_and n (2 ^ k) == 2 ^ k) ≡ (bit_at n k == 1)
is_set k n = rw (and_pow n k) (one_times (bit_at n k) (2 ^ k) (bit_at-lt n k) (pow_pos k))

some_bit : (x y z : ℕ) → x < 2 → y < 2 → z < 2 → not (x + (2 * y + 4 * z) == 0) ≡ (x == 1) || ((y == 1) || (z == 1))
some_bit zero zero zero a b c = refl
some_bit zero zero (suc zero) a b c = refl
some_bit zero (suc zero) zero a b c = refl
some_bit zero (suc zero) (suc zero) a b c = refl
some_bit (suc zero) zero zero a b c = refl
some_bit (suc zero) zero (suc zero) a b c = refl
some_bit (suc zero) (suc zero) zero a b c = refl
some_bit (suc zero) (suc zero) (suc zero) a b c = refl
some_bit (suc (suc x)) y z a b c = absurd (omega (arith, a))
some_bit zero (suc (suc y)) z a b c = absurd (omega (arith, b))
some_bit (suc zero) (suc (suc y)) z a b c = absurd (omega (arith, b))
some_bit zero zero (suc (suc z)) a b c = absurd (omega (arith, c))
some_bit zero (suc zero) (suc (suc z)) a b c = absurd (omega (arith, c))
some_bit (suc zero) zero (suc (suc z)) a b c = absurd (omega (arith, c))
some_bit (suc zero) (suc zero) (suc (suc z)) a b c = absurd (omega (arith, c))

pub low_bits : (n : ℕ) → bit_and n 7 ≡ bit_at n 0 + (2 * bit_at n 1 + 4 * bit_at n 2)
low_bits n = let low : bit_and n 7 ≡ n % 8 = and_mask n 3 in low ∙ parts n
  where
    parts : (n : ℕ) → n % 8 ≡ n / 1 % 2 + (2 * (n / 2 % 2) + 4 * (n / 4 % 2))
    parts n = omega arith

pub joined_bits : (n : ℕ) → not (bit_and n 7 == 0) ≡ is_joined (join_state_of n)
joined_bits n =
    let full : (bit_and n 1 == 1) ≡ (bit_at n 0 == 1) = is_set 0 n in
    let non : (bit_and n 2 == 2) ≡ (bit_at n 1 == 1) = is_set 1 n in
    let send : (bit_and n 4 == 4) ≡ (bit_at n 2 == 1) = is_set 2 n in
    rw (low_bits n, full, non, send) (some_bit (bit_at n 0) (bit_at n 1) (bit_at n 2) (bit_at-lt n 0) (bit_at-lt n 1) (bit_at-lt n 2))

two_bits : (x y : ℕ) → x < 2 → y < 2 → (min x y == 1) ≡ (x == 1) && (y == 1)
two_bits zero y a b = let none : min 0 y ≡ 0 = omega arith in rw none refl
two_bits (suc zero) zero a b = refl
two_bits (suc zero) (suc zero) a b = refl
two_bits (suc zero) (suc (suc y)) a b = absurd (omega (arith, b))
two_bits (suc (suc x)) y a b = absurd (omega (arith, a))

both_bits : (k a b : ℕ) → (bit_and (bit_and a b) (2 ^ k) == 2 ^ k) ≡ (bit_and a (2 ^ k) == 2 ^ k) && (bit_and b (2 ^ k) == 2 ^ k)
both_bits k a b =
    rw (is_set k (bit_and a b), is_set k a, is_set k b, bit_at_and a b k) (two_bits (bit_at a k) (bit_at b k) (bit_at-lt a k) (bit_at-lt b k))

pub common_bits : (held asked : ℕ) → is_joined (join_state_of (bit_and held asked)) ≡ has_bit_of (join_state_of asked) (join_state_of held)
common_bits held asked =
    let full : (bit_and (bit_and held asked) 1 == 1) ≡ (bit_and held 1 == 1) && (bit_and asked 1 == 1) = both_bits 0 held asked in
    let non : (bit_and (bit_and held asked) 2 == 2) ≡ (bit_and held 2 == 2) && (bit_and asked 2 == 2) = both_bits 1 held asked in
    let send : (bit_and (bit_and held asked) 4 == 4) ≡ (bit_and held 4 == 4) && (bit_and asked 4 == 4) = both_bits 2 held asked in
    rw (full, non, send) refl

-- ---- what a leave takes
taken_of : (a b : Bool) (c : Bool) → (a && (b && true)) && c ≡ b && (a && c)
taken_of true b true = both b
  where
    both : (b : Bool) → (b && true) && true ≡ b && true
    both true = refl
    both false = refl
taken_of true true false = refl
taken_of true false false = refl
taken_of false true c = refl
taken_of false false c = refl

some_taken : (leave : Leave) (base : ℕ) (group : MulticastGroup) (memberships : List Membership) → names_base leave.base base ≡ true
    → list_any (is_taken_from leave base group) memberships ≡ (group.mgid == leave.mgid) && list_any (loses_some leave) memberships
some_taken leave base group [] named = elim (cases_Bool (group.mgid == leave.mgid)) [ inl same ↦ rw same refl | inr other ↦ rw other refl ]
some_taken leave base group (membership ∷ memberships) named =
    let rest = some_taken leave base group memberships named in
    let here = taken_of (is_of leave.port membership) (group.mgid == leave.mgid) (has_bit_of leave.join_state membership.join_state) in
    rw (named, rest, here) (spread (group.mgid == leave.mgid) _ _)
  where
    spread : (a b c : Bool) → (a && b) || (a && c) ≡ a && (b || c)
    spread true b c = refl
    spread false b c = refl

pub any_taken : (leave : Leave) (base mlid : ℕ) (slots : List (Option SlotGroup)) → names_base leave.base base ≡ true
    → list_any (λ (group : MulticastGroup). list_any (is_taken_from leave base group) group.memberships) (groups_in mlid slots)
    ≡ list_any (takes_from leave) slots
any_taken leave base mlid [] named = refl
any_taken leave base mlid (None ∷ slots) named = any_taken leave base (mlid + 1) slots named
any_taken leave base mlid (Some group ∷ slots) named =
    rw (some_taken leave base (with_mlid mlid group) group.memberships named, any_taken leave base (mlid + 1) slots named) refl

none_taken : (leave : Leave) (base : ℕ) (group : MulticastGroup) (memberships : List Membership) → names_base leave.base base ≡ false
    → list_any (is_taken_from leave base group) memberships ≡ false
none_taken leave base group [] named = refl
none_taken leave base group (membership ∷ memberships) named =
    rw (named, none_taken leave base group memberships named)
    (nothing (is_of leave.port membership) (group.mgid == leave.mgid) (has_bit_of leave.join_state membership.join_state))
  where
    nothing : (a b c : Bool) → ((a && (b && false)) && c) || false ≡ false
    nothing true true c = refl
    nothing true false c = refl
    nothing false b c = refl

pub nothing_taken : (leave : Leave) (base : ℕ) (groups : List MulticastGroup) → names_base leave.base base ≡ false
    → list_any (λ (group : MulticastGroup). list_any (is_taken_from leave base group) group.memberships) groups ≡ false
nothing_taken leave base [] named = refl
nothing_taken leave base (group ∷ groups) named =
    rw (none_taken leave base group group.memberships named, nothing_taken leave base groups named) refl

-- ---- a membership loses bits
not_set : (k n : ℕ) → k < 8 → n < 256 → (bit_and (255 - n) (2 ^ k) == 2 ^ k) ≡ not (bit_and n (2 ^ k) == 2 ^ k)
not_set k n within low =
    let turned : bit_at (255 - n) k ≡ 1 - bit_at n k = bit_at_not w8 n k low within in
    rw (is_set k (255 - n), is_set k n, turned) (bit_turned (bit_at n k) (bit_at-lt n k))

fewer_bit : (k a b : ℕ) → k < 8 → b < 256 → (bit_and (bit_and a (255 - b)) (2 ^ k) == 2 ^ k) ≡ (bit_and a (2 ^ k) == 2 ^ k) && not (bit_and b (2 ^ k) == 2 ^ k)
fewer_bit k a b within low =
    both_bits k a (255 - b) ∙ ap (λ (set : Bool). (bit_and a (2 ^ k) == 2 ^ k) && set) (not_set k b within low)

pub fewer_bits : (held less : ℕ) → less < 256 → join_state_of (bit_and held (255 - less)) ≡ without_bits (join_state_of less) (join_state_of held)
fewer_bits held less low =
    let full : (bit_and (bit_and held (255 - less)) 1 == 1) ≡ (bit_and held 1 == 1) && not (bit_and less 1 == 1) = fewer_bit 0 held less (omega arith) low in
    let non : (bit_and (bit_and held (255 - less)) 2 == 2) ≡ (bit_and held 2 == 2) && not (bit_and less 2 == 2) = fewer_bit 1 held less (omega arith) low in
    let send : (bit_and (bit_and held (255 - less)) 4 == 4) ≡ (bit_and held 4 == 4) && not (bit_and less 4 == 4) = fewer_bit 2 held less (omega arith) low in
    rw (full, non, send) refl

-- ---- the membership of a port among those of its group
none_less : (leave : Leave) (memberships : List Membership) → list_any (is_of leave.port) memberships ≡ false → map (less_by leave) memberships ≡ memberships
none_less leave [] none = refl
none_less leave (membership ∷ memberships) none = elim (cases_Bool (is_of leave.port membership)) [
  | inl own ↦ absurd (false≢true (sym (rw own at none)))
  | inr other ↦ rw other (ap (λ (rest : List Membership). membership ∷ rest) (none_less leave memberships (rw other at none)))
]

all_stay : (memberships : List Membership) → list_all takes_part memberships ≡ true → filter takes_part memberships ≡ memberships
all_stay [] all = refl
all_stay (membership ∷ memberships) all =
    let parts = and_parts (takes_part membership) _ all in
    let here : takes_part membership ≡ true = parts.0 in
    rw here (ap (λ (rest : List Membership). membership ∷ rest) (all_stay memberships parts.1))

-- what is left of memberships
abbrev pub rest_of : Leave → List Membership → List Membership
rest_of leave memberships = filter takes_part (map (less_by leave) memberships)

none_gone : (leave : Leave) (memberships : List Membership) → list_any (is_of leave.port) memberships ≡ false → list_all takes_part memberships ≡ true
    → rest_of leave memberships ≡ memberships
none_gone leave memberships none all = ap (filter takes_part) (none_less leave memberships none) ∙ all_stay memberships all

pub nobody_gone : (leave : Leave) (memberships : List Membership) → are_settled memberships ≡ true → is_at leave.port memberships ≡ false
    → rest_of leave memberships ≡ memberships
nobody_gone leave memberships settled none =
    let parts = and_parts (pairwise lower_port memberships) _ settled in
    none_gone leave memberships (none_there leave.port memberships parts.0 none) parts.1

abbrev pub lessened : Leave → Membership → Membership
lessened leave membership = record membership { join_state = without_bits leave.join_state membership.join_state }

abbrev pub own_of : Leave → List Membership → Membership → Membership
own_of leave memberships d = lessened leave (get_or memberships (place_for leave.port memberships) d)

less_there : (leave : Leave) (memberships : List Membership) (d : Membership) → pairwise lower_port memberships ≡ true
    → list_all takes_part memberships ≡ true → is_at leave.port memberships ≡ true → takes_part (own_of leave memberships d) ≡ true
    → set memberships (place_for leave.port memberships) (own_of leave memberships d) ≡ rest_of leave memberships
less_there leave [] d order joined there stays = absurd (false≢true there)
less_there leave (first ∷ rest) d order joined there stays =
    let parts = and_parts (list_all (lower_port first) rest) (pairwise lower_port rest) order in
    let joins = and_parts (takes_part first) _ joined in
    elim (cases_Bool (nat_lt first.port leave.port)) [
      | inl lower ↦
          let e = one_more (place_for leave.port rest) in
          let other = lower_is_other leave.port first lower in
          let part : takes_part first ≡ true = joins.0 in
          rw (lower, e, other, part)
          (ap (λ (memberships : List Membership). first ∷ memberships)
          (less_there leave rest d parts.1 joins.1 (rw (lower, e) at there) (rw (lower, e) at stays)))
      | inr here ↦
          let same : is_of leave.port first ≡ true = rw here at there in
          let equal : first.port ≡ leave.port = eqb-true first.port leave.port same in
          let none = none_of_port leave.port rest (above_first leave.port first rest parts.0 (omega (arith, equal))) in
          let others = none_gone leave rest none joins.1 in
          let part : takes_part (lessened leave first) ≡ true = rw here at stays in
          rw (here, same, part, others) refl
    ]

gone_there : (leave : Leave) (memberships : List Membership) (d : Membership) → pairwise lower_port memberships ≡ true
    → list_all takes_part memberships ≡ true → is_at leave.port memberships ≡ true → takes_part (own_of leave memberships d) ≡ false
    → remove memberships (place_for leave.port memberships) ≡ rest_of leave memberships
gone_there leave [] d order joined there goes = absurd (false≢true there)
gone_there leave (first ∷ rest) d order joined there goes =
    let parts = and_parts (list_all (lower_port first) rest) (pairwise lower_port rest) order in
    let joins = and_parts (takes_part first) _ joined in
    elim (cases_Bool (nat_lt first.port leave.port)) [
      | inl lower ↦
          let e = one_more (place_for leave.port rest) in
          let other = lower_is_other leave.port first lower in
          let part : takes_part first ≡ true = joins.0 in
          rw (lower, e, other, part)
          (ap (λ (memberships : List Membership). first ∷ memberships)
          (gone_there leave rest d parts.1 joins.1 (rw (lower, e) at there) (rw (lower, e) at goes)))
      | inr here ↦
          let same : is_of leave.port first ≡ true = rw here at there in
          let equal : first.port ≡ leave.port = eqb-true first.port leave.port same in
          let none = none_of_port leave.port rest (above_first leave.port first rest parts.0 (omega (arith, equal))) in
          let others = none_gone leave rest none joins.1 in
          let part : takes_part (lessened leave first) ≡ false = rw here at goes in
          rw (here, same, part, others) refl
    ]

pub set_less : (leave : Leave) (memberships : List Membership) (d : Membership) → are_settled memberships ≡ true → is_at leave.port memberships ≡ true
    → takes_part (own_of leave memberships d) ≡ true
    → set memberships (place_for leave.port memberships) (own_of leave memberships d) ≡ rest_of leave memberships
set_less leave memberships d settled there stays =
    let parts = and_parts (pairwise lower_port memberships) _ settled in less_there leave memberships d parts.0 parts.1 there stays

pub removed_less : (leave : Leave) (memberships : List Membership) (d : Membership) → are_settled memberships ≡ true → is_at leave.port memberships ≡ true
    → takes_part (own_of leave memberships d) ≡ false → remove memberships (place_for leave.port memberships) ≡ rest_of leave memberships
removed_less leave memberships d settled there goes =
    let parts = and_parts (pairwise lower_port memberships) _ settled in gone_there leave memberships d parts.0 parts.1 there goes

same_item : (memberships : List Membership) (i : ℕ) (d e : Membership) → i < length memberships → get_or memberships i d ≡ get_or memberships i e
same_item [] i d e within = absurd (omega arith)
same_item (first ∷ rest) zero d e within = refl
same_item (first ∷ rest) (suc i) d e within = same_item rest i d e (omega arith)

-- as it is written back
pub own_less : (leave : Leave) (memberships : List Membership) (d e : Membership) (state : JoinState) → is_at leave.port memberships ≡ true
    → d ≡ get_or memberships (place_for leave.port memberships) d → e ≡ get_or memberships (place_for leave.port memberships) e
    → state ≡ without_bits leave.join_state e.join_state
    → (record d { join_state = state } ≡ own_of leave memberships e) × (is_joined state ≡ takes_part (own_of leave memberships e))
own_less leave memberships d e state there at_d at_e is =
    let held = get_or memberships (place_for leave.port memberships) e in
    let one : d ≡ held = at_d ∙ same_item memberships (place_for leave.port memberships) d e (within_there leave.port memberships there) in
    let reported : state ≡ without_bits leave.join_state held.join_state = is ∙ ap (λ (membership : Membership). without_bits leave.join_state membership.join_state) at_e in (
      ap (λ (membership : Membership). record membership { join_state = state }) one ∙ ap (λ (some : JoinState). record held { join_state = some }) reported,
      ap is_joined reported,
    )

-- ---- groups that are not left
abbrev Untouched : Leave → ℕ → List MulticastGroup → Type 0
Untouched leave base groups = AllByRecursion (λ group. (has_mgid leave.mgid group && names_base leave.base base) ≡ false) groups

group_stays : (leave : Leave) (base : ℕ) (group : MulticastGroup) → (has_mgid leave.mgid group && names_base leave.base base) ≡ false
    → list_all takes_part group.memberships ≡ true → left_group leave base group ≡ group
group_stays leave base group other all =
    ap (λ (memberships : List Membership). record group { memberships = memberships })
    (ap (filter takes_part) (none_touched group.memberships) ∙ all_stay group.memberships all)
  where
    nothing : (a : Bool) → a && false ≡ false
    nothing true = refl
    nothing false = refl

    none_touched : (memberships : List Membership) → map (less_joined leave base group) memberships ≡ memberships
    none_touched [] = refl
    none_touched (membership ∷ memberships) =
        let out : is_left leave base group membership ≡ false = rw other (nothing (is_of leave.port membership)) in
        rw out (ap (λ (rest : List Membership). membership ∷ rest) (none_touched memberships))

-- the groups of a partition that a port can leave: each has its own MGID, is settled, and something keeps it
pub record CanBeLeft (ports : List SubnetPort) (base : ℕ) (groups : List MulticastGroup) : Type 0 where
  pub own : pairwise other_mgid groups ≡ true
  pub settled : list_all (λ group. are_settled group.memberships) groups ≡ true
  pub kept : list_all (keeps ports base) groups ≡ true

first_can : (ports : List SubnetPort) (base : ℕ) (group : MulticastGroup) (groups : List MulticastGroup) → CanBeLeft ports base (group ∷ groups)
    → (list_all (other_mgid group) groups ≡ true) × (are_settled group.memberships ≡ true) × (keeps ports base group ≡ true) × CanBeLeft ports base groups
first_can ports base group groups can =
    let own = and_parts (list_all (other_mgid group) groups) _ can.own in
    let settled = and_parts (are_settled group.memberships) _ can.settled in
    let kept = and_parts (keeps ports base group) _ can.kept in
    (own.0, settled.0, kept.0, record { own = own.1; settled = settled.1; kept = kept.1 })

abbrev after : List SubnetPort → Leave → ℕ → List MulticastGroup → List MulticastGroup
after ports leave base groups = filter (keeps ports base) (map (left_group leave base) groups)

one_stays : (ports : List SubnetPort) (leave : Leave) (base : ℕ) (group : MulticastGroup) (groups rest : List MulticastGroup)
    → (has_mgid leave.mgid group && names_base leave.base base) ≡ false → are_settled group.memberships ≡ true → keeps ports base group ≡ true
    → after ports leave base groups ≡ rest → after ports leave base (group ∷ groups) ≡ group ∷ rest
one_stays ports leave base group groups rest other settled kept is =
    let parts = and_parts (pairwise lower_port group.memberships) _ settled in
    let stays = group_stays leave base group other parts.1 in
    let remains : keeps ports base (left_group leave base group) ≡ true = ap (keeps ports base) stays ∙ kept in
    rw (remains, stays) (ap (λ (some : List MulticastGroup). group ∷ some) is)

all_groups_stay : (ports : List SubnetPort) (leave : Leave) (base : ℕ) (groups : List MulticastGroup) → Untouched leave base groups
    → CanBeLeft ports base groups → after ports leave base groups ≡ groups
all_groups_stay ports leave base [] other can = refl
all_groups_stay ports leave base (group ∷ groups) other can =
    let first = first_can ports base group groups can in
    one_stays ports leave base group groups groups other.0 first.1 first.2 (all_groups_stay ports leave base groups other.1 first.3)

others_untouched : (leave : Leave) (base : ℕ) (first : MulticastGroup) (groups : List MulticastGroup) → (first.mgid == leave.mgid) ≡ true
    → list_all (other_mgid first) groups ≡ true → Untouched leave base groups
others_untouched leave base first [] here apart = tt
others_untouched leave base first (group ∷ groups) here apart =
    let parts = and_parts (other_mgid first group) _ apart in
    let differs : (group.mgid == leave.mgid) ≡ false =
    elim (cases_Bool (group.mgid == leave.mgid)) [
      | inl same ↦
          let equal : first.mgid ≡ group.mgid = eqb-true first.mgid leave.mgid here ∙ sym (eqb-true group.mgid leave.mgid same) in
          absurd (false≢true (ap not (sym (eq-eqb first.mgid group.mgid equal)) ∙ parts.0))
      | inr other ↦ other
    ] in
    (rw differs refl, others_untouched leave base first groups here parts.1)

none_named : (leave : Leave) (base : ℕ) (groups : List MulticastGroup) → names_base leave.base base ≡ false → Untouched leave base groups
none_named leave base [] other = tt
none_named leave base (group ∷ groups) other = (rw other (nothing (has_mgid leave.mgid group)), none_named leave base groups other)
  where
    nothing : (a : Bool) → a && false ≡ false
    nothing true = refl
    nothing false = refl

none_of_mgid : (leave : Leave) (base mlid k : ℕ) (slots : List (Option SlotGroup)) → position_from (holds_mgid leave.mgid) k slots ≡ None
    → Untouched leave base (groups_in mlid slots)
none_of_mgid leave base mlid k [] none = tt
none_of_mgid leave base mlid k (None ∷ slots) none = none_of_mgid leave base (mlid + 1) (k + 1) slots none
none_of_mgid leave base mlid k (Some group ∷ slots) none = elim (cases_Bool (group.mgid == leave.mgid)) [
  | inl here ↦ absurd (let e : Some k ≡ None = rw here at none in cc)
  | inr other ↦ (rw other refl, none_of_mgid leave base (mlid + 1) (k + 1) slots (rw other at none))
]

-- ---- the group that is left
group_left : (leave : Leave) (base mlid : ℕ) (group : SlotGroup) → (group.mgid == leave.mgid) ≡ true → names_base leave.base base ≡ true
    → left_group leave base (with_mlid mlid group) ≡ with_mlid mlid (left_by leave group)
group_left leave base mlid group here named =
    ap (λ (memberships : List Membership). record (with_mlid mlid group) { memberships = memberships }) (ap (filter takes_part) (same group.memberships))
  where
    alone : (a : Bool) → a && true ≡ a
    alone true = refl
    alone false = refl

    same : (memberships : List Membership) → map (less_joined leave base (with_mlid mlid group)) memberships ≡ map (less_by leave) memberships
    same [] = refl
    same (membership ∷ memberships) =
        let own : is_left leave base (with_mlid mlid group) membership ≡ is_of leave.port membership = rw (here, named) (alone (is_of leave.port membership)) in
        rw (own, same memberships) refl

slot_left : (ports : List SubnetPort) (leave : Leave) (base mlid : ℕ) (slots : List (Option SlotGroup)) (i : ℕ) (d : Option SlotGroup)
    → IsFirst leave.mgid slots i d → names_base leave.base base ≡ true → CanBeLeft ports base (groups_in mlid slots)
    → groups_in mlid (set slots i (left_slot ports base leave (get_or slots i d))) ≡ after ports leave base (groups_in mlid slots)
slot_left ports leave base mlid [] i d first named can = absurd (let w = first.within in omega arith)
slot_left ports leave base mlid (None ∷ slots) zero d first named can = absurd (false≢true first.is)
slot_left ports leave base mlid (Some group ∷ slots) zero d first named can =
    let here : (group.mgid == leave.mgid) ≡ true = first.is in
    let parts = first_can ports base (with_mlid mlid group) (groups_in (mlid + 1) slots) can in
    let others = others_untouched leave base (with_mlid mlid group) (groups_in (mlid + 1) slots) here parts.0 in
    let rest = all_groups_stay ports leave base (groups_in (mlid + 1) slots) others parts.3 in
    let own = group_left leave base mlid group here named in
    elim (cases_Bool (is_kept ports base (left_by leave group))) [
      | inl kept ↦
          let remains : keeps ports base (left_group leave base (with_mlid mlid group)) ≡ true = ap (keeps ports base) own ∙ kept in
          rw (kept, remains, own, rest) refl
      | inr gone ↦
          let goes : keeps ports base (left_group leave base (with_mlid mlid group)) ≡ false = ap (keeps ports base) own ∙ gone in
          rw (gone, goes, rest) refl
    ]
slot_left ports leave base mlid (None ∷ slots) (suc i) d first named can = slot_left ports leave base (mlid + 1) slots i d (later leave.mgid None slots i d first) named can
slot_left ports leave base mlid (Some group ∷ slots) (suc i) d first named can =
    let parts = first_can ports base (with_mlid mlid group) (groups_in (mlid + 1) slots) can in
    let other : (group.mgid == leave.mgid) ≡ false = first.before zero (omega arith) in
    let rest = slot_left ports leave base (mlid + 1) slots i d (later leave.mgid (Some group) slots i d first) named parts.3 in
    sym (one_stays ports leave base (with_mlid mlid group) (groups_in (mlid + 1) slots) _ (rw other refl) parts.1 parts.2 (sym rest))

-- ---- of a partition
moved : (ports : List SubnetPort) (a b : PartitionGroups) → a ≡ b → CanBeLeft ports b.base b.groups → CanBeLeft ports a.base a.groups
moved ports a b is can = subst (λ (one : PartitionGroups). CanBeLeft ports one.base one.groups) (sym is) can

pub partition_left : (ports : List SubnetPort) (leave : Leave) (number base : ℕ) (slots : List (Option SlotGroup)) (i : ℕ) (d : Option SlotGroup)
    (partition : PartitionGroups) → partition_in number base slots ≡ partition → position (holds_mgid leave.mgid) slots ≡ Some i
    → names_base leave.base base ≡ true → CanBeLeft ports partition.base partition.groups
    → partition_in number base (set slots i (left_slot ports base leave (get_or slots i d))) ≡ left_in ports leave partition
partition_left ports leave number base slots i d partition is place named can =
    let done = slot_left ports leave base (first_mlid number) slots i d (first_with leave.mgid slots i d place) named (moved ports (partition_in number base slots) partition is can) in
    ap (λ (some : List MulticastGroup). record { number = number; base = base; groups = some }) done ∙ ap (left_in ports leave) is

partition_stays : (ports : List SubnetPort) (leave : Leave) (partition : PartitionGroups) → Untouched leave partition.base partition.groups
    → CanBeLeft ports partition.base partition.groups → partition ≡ left_in ports leave partition
partition_stays ports leave partition other can =
    ap (λ (some : List MulticastGroup). record partition { groups = some }) (sym (all_groups_stay ports leave partition.base partition.groups other can))

pub not_named : (ports : List SubnetPort) (leave : Leave) (partition : PartitionGroups) → names_base leave.base partition.base ≡ false
    → CanBeLeft ports partition.base partition.groups → partition ≡ left_in ports leave partition
not_named ports leave partition other can = partition_stays ports leave partition (none_named leave partition.base partition.groups other) can

pub not_there : (ports : List SubnetPort) (leave : Leave) (number base : ℕ) (slots : List (Option SlotGroup)) (partition : PartitionGroups)
    → partition_in number base slots ≡ partition → position (holds_mgid leave.mgid) slots ≡ None → CanBeLeft ports partition.base partition.groups
    → partition ≡ left_in ports leave partition
not_there ports leave number base slots partition is none can =
    let from = none_of_mgid leave base (first_mlid number) 0 slots (sym (position_from-zero (holds_mgid leave.mgid) slots) ∙ none) in
    partition_stays ports leave partition (subst (λ (one : PartitionGroups). Untouched leave one.base one.groups) is from) can

pub slot_settled : (mlid : ℕ) (slots : List (Option SlotGroup)) (i : ℕ) (d : Option SlotGroup) → i < length slots
    → list_all (λ (group : MulticastGroup). are_settled group.memberships) (groups_in mlid slots) ≡ true → is_settled (get_or slots i d) ≡ true
slot_settled mlid [] i d within all = absurd (omega arith)
slot_settled mlid (None ∷ slots) zero d within all = refl
slot_settled mlid (Some group ∷ slots) zero d within all = (and_parts (are_settled group.memberships) _ all).0
slot_settled mlid (None ∷ slots) (suc i) d within all = slot_settled (mlid + 1) slots i d (omega arith) all
slot_settled mlid (Some group ∷ slots) (suc i) d within all = slot_settled (mlid + 1) slots i d (omega arith) (and_parts (are_settled group.memberships) _ all).1

-- ---- a slot that is free again
pub holds_some : (mgid : ℕ) (slot : Option SlotGroup) → holds_mgid mgid slot ≡ true → is_some slot ≡ true
holds_some mgid None here = here
holds_some mgid (Some group) here = refl

freed : (slots : List (Option SlotGroup)) (i : ℕ) (d : Option SlotGroup) → i < length slots → is_some (get_or slots i d) ≡ true
    → free_slots (set slots i None) ≡ free_slots slots + 2 ^ i
freed [] i d within full = absurd (omega arith)
freed (None ∷ slots) zero d within full = absurd (false≢true full)
freed (Some group ∷ slots) zero d within full = omega arith
freed (None ∷ slots) (suc i) d within full =
    let rest = freed slots i d (omega arith) full in let twice = pow-succ' 2 i in rw twice (omega (arith, rest))
freed (Some group ∷ slots) (suc i) d within full =
    let rest = freed slots i d (omega arith) full in let twice = pow-succ' 2 i in rw twice (omega (arith, rest))

full_bit : (slots : List (Option SlotGroup)) (i : ℕ) (d : Option SlotGroup) → i < length slots → is_some (get_or slots i d) ≡ true
    → get_or (map is_none slots) i false ≡ false
full_bit [] i d within full = refl
full_bit (None ∷ slots) zero d within full = absurd (false≢true full)
full_bit (Some group ∷ slots) zero d within full = refl
full_bit (slot ∷ slots) (suc i) d within full = full_bit slots i d (omega arith) full

is_nothing : (slot : Option SlotGroup) → is_some slot ≡ false → slot ≡ None
is_nothing None none = refl
is_nothing (Some group) none = absurd (false≢true (sym none))

pub bit_freed : (slots : List (Option SlotGroup)) (i : ℕ) (d new : Option SlotGroup) → length slots ≡ 32 → i < length slots
    → is_some (get_or slots i d) ≡ true → is_some new ≡ false
    → bit_or (free_slots slots) (1 * 2 ^ i % 2 ^ 32) ≡ free_slots (set slots i new)
bit_freed slots i d new all within full none =
    let nothing = is_nothing new none in
    let shifted = one_shl i 32 (omega (arith, all, within)) in
    let bit : bit_at (free_slots slots) i ≡ 0 =
    ap (λ (n : ℕ). bit_at n i) (as_mask slots) ∙ bit_mask_l (map is_none slots) i ∙ ap (λ (b : Bool). cond b 1 0) (full_bit slots i d within full) in
    let apart : bit_and (free_slots slots) (2 ^ i) ≡ 0 = and_pow (free_slots slots) i ∙ ap (λ (b : ℕ). b * 2 ^ i) bit ∙ omega arith in
    rw (shifted, nothing) (or_disjoint (free_slots slots) (2 ^ i) apart ∙ sym (freed slots i d within full))

-- ---- the groups of a sound partition can be left, and joined
sound_groups : (ports : List SubnetPort) (partition : PartitionGroups) (groups : List MulticastGroup)
    → list_all (is_sound_group ports partition) groups ≡ true
    → (list_all (λ group. are_settled group.memberships) groups ≡ true)
    × (list_all (λ group. pairwise lower_port group.memberships) groups ≡ true)
    × (list_all (keeps ports partition.base) groups ≡ true)
sound_groups ports partition [] all = (refl, refl, refl)
sound_groups ports partition (group ∷ groups) all =
    let here = and_parts (is_sound_group ports partition group) _ all in
    let kept = and_parts (keeps ports partition.base group) _ here.0 in
    let made = and_parts (may_have_made ports partition.base group.creator) _ kept.1 in
    let ranged = and_parts (is_in_range partition.number group.mlid) _ made.1 in
    let stand = and_parts (list_all (is_sound_membership ports partition.base) group.memberships) _ ranged.1 in
    let rest = sound_groups ports partition groups here.1 in
    let settled = and_both (pairwise lower_port group.memberships) _ stand.1 (all_part group.memberships stand.0) in
    let order : pairwise lower_port group.memberships ≡ true = stand.1 in
    let remains : keeps ports partition.base group ≡ true = kept.0 in
    (and_both _ _ settled rest.0, and_both _ _ order rest.1, and_both _ _ remains rest.2)
  where
    and_both : (a b : Bool) → a ≡ true → b ≡ true → a && b ≡ true
    and_both a b h k = rw (h, k) refl

    all_part : (memberships : List Membership) → list_all (is_sound_membership ports partition.base) memberships ≡ true
        → list_all takes_part memberships ≡ true
    all_part [] h = refl
    all_part (membership ∷ memberships) h =
        let parts = and_parts (is_sound_membership ports partition.base membership) _ h in
        let one = and_parts (is_member ports partition.base membership.port) (takes_part membership) parts.0 in
        and_both _ _ one.1 (all_part memberships parts.1)

pub can_be_left : (ports : List SubnetPort) (partition : PartitionGroups) → is_sound_partition ports partition ≡ true
    → CanBeLeft ports partition.base partition.groups
can_be_left ports partition sound =
    let parts = and_parts (list_all (is_sound_group ports partition) partition.groups) _ sound in
    let apart = and_parts (pairwise lower_mlid partition.groups) _ parts.1 in
    let each = sound_groups ports partition partition.groups parts.0 in
    record { own = apart.1; settled = each.0; kept = each.2 }

pub are_in_order : (ports : List SubnetPort) (partition : PartitionGroups) → is_sound_partition ports partition ≡ true
    → list_all (λ (group : MulticastGroup). pairwise lower_port group.memberships) partition.groups ≡ true
are_in_order ports partition sound =
    let parts = and_parts (list_all (is_sound_group ports partition) partition.groups) _ sound in
    (sound_groups ports partition partition.groups parts.0).1

-- ---- partition by partition
pub one_written : {X : Type 0} (f : X → X) (xs : List X) (i : ℕ) (d : X) → i < length xs
    → set (map f (take i xs) ++ drop i xs) i (f (get_or xs i d)) ≡ map f (take (i + 1) xs) ++ drop (i + 1) xs
one_written f [] i d within = absurd (omega arith)
one_written f (x ∷ xs) zero d within = refl
one_written f (x ∷ xs) (suc i) d within =
    let e : suc i + 1 ≡ suc (i + 1) = omega arith in
    rw e (ap (λ rest. f x ∷ rest) (one_written f xs i d (omega arith)))

pub one_unwritten : {X : Type 0} (f : X → X) (xs : List X) (i : ℕ) (d : X) → i < length xs
    → get_or (map f (take i xs) ++ drop i xs) i d ≡ get_or xs i d
one_unwritten f [] i d within = absurd (omega arith)
one_unwritten f (x ∷ xs) zero d within = refl
one_unwritten f (x ∷ xs) (suc i) d within = one_unwritten f xs i d (omega arith)
