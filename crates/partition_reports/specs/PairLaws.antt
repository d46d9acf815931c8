-- What the pairs say of P_Keys, and which pairs are listed.
use Rattle.std.specs.Prelude.{ℕ, ◌≡◌, Bool, true, false, ◌&&◌, List, Option, Some, length, nat_lt, slice_get}
use Rattle.std.specs.List.{count_by, range_with_len, sum_by}
use Rattle.pkey_rules.specs.KeyTable.{shares_base}
use Rattle.pkey_rules.specs.PKey.{is_base}
use Rattle.partition_reports.specs.declared.membership.Membership.{Membership}
use Rattle.partition_reports.specs.declared.pairs.Member.{Member}
use Rattle.partition_reports.specs.declared.pairs.Pair.{Pair}
use Rattle.partition_reports.specs.Membership.{may_talk, membership_of}
use Rattle.partition_reports.specs.ChangedPairs.{gains, new_pairs}

-- two ports may talk in a partition exactly if they hold keys of its base that match
abbrev pub IsMatching : (ℕ → List ℕ → Membership) → (Membership → Membership → Bool) → Type 0
IsMatching member talk = (base : ℕ) (ps qs : List ℕ) → is_base base ≡ true → talk (member base ps) (member base qs) ≡ shares_base base ps qs

abbrev pub TalkingIsMatching : Type 0
TalkingIsMatching = IsMatching membership_of may_talk

-- ---- how many times an element of a list and one behind it are related: for each place, the places behind it are counted
abbrev pub are_related : {X : Type 0} → (X → X → Bool) → Option X → Option X → Bool
are_related related (Some x) (Some y) = related x y
are_related related _ _ = false

abbrev pub related_behind : {X : Type 0} → (X → X → Bool) → List X → (place behind : ℕ) → Bool
related_behind related xs place behind = nat_lt place behind && are_related related (slice_get xs place) (slice_get xs behind)

abbrev pub count_of_two : {X : Type 0} → (X → X → Bool) → List X → ℕ
count_of_two related xs =
    sum_by (λ place. count_by (related_behind related xs place) (range_with_len 0 (length xs))) (range_with_len 0 (length xs))

-- ---- two members gain, and their pair passes a test
abbrev pub gain_and_pass : (Pair → Bool) → Member → Member → Bool
gain_and_pass test p q = gains p q && test (record { first = p.port; second = q.port })

-- of each two members that gain, one behind the other, a list has one pair, and no other: as many pairs pass any test as such members
abbrev pub ListsTheGained : (List Member → List Pair) → Type 0
ListsTheGained pairs = (members : List Member) (test : Pair → Bool) → count_by test (pairs members) ≡ count_of_two (gain_and_pass test) members

abbrev pub PairsAreListed : Type 0
PairsAreListed = ListsTheGained new_pairs
