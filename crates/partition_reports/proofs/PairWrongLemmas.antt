-- What wrong rules list.
use Rattle.std.proofs.Common.{◌≡◌, ℕ, ◌+◌, length, true, false, List, [], ◌∷◌, count_by, refl, sym, ap, ◌∙◌, arith}
use Rattle.std.proofs.lemmas.Bool.{false≢true}
use Rattle.partition_reports.specs.declared.membership.Membership.TheVariants.{Outside, Full}
use Rattle.partition_reports.specs.declared.pairs.Member.{Member}
use Rattle.partition_reports.specs.declared.pairs.Pair.{Pair}
use Rattle.partition_reports.specs.PairLaws.{ListsTheGained}
use Rattle.partition_reports.specs.ChangedPairs.{new_pairs}
use Rattle.partition_reports.specs.PairWrongRules.{NoPortIsItsOwnPair, OneHasToBeFull, PairsAreNotListedTwice, TheReverseIsTheSamePair, UnchangedPortsGainToo, WhatWasBeforeCounts, pairs_both_ways, pairs_of_changed, pairs_twice, pairs_with_itself, talking_pairs}
use Rattle.partition_reports.proofs.PairLawLemmas.{pairs_are_listed}
use Rattle.partition_reports.proofs.TwoLemmas.{count_more}

-- two limited members
pub one_has_to_be_full : OneHasToBeFull
one_has_to_be_full law =
    let same : true ≡ false = law 1 (1 ∷ []) (1 ∷ []) refl in
    false≢true (sym same)

-- ---- what has the pairs of these members has as many as they are
pub all_counted : (pairs : List Pair) → count_by (λ pair. true) pairs ≡ length pairs
all_counted [] = refl
all_counted (pair ∷ pairs) =
    let next : 1 + length pairs ≡ length (pair ∷ pairs) = omega arith in
    count_more (λ one. true) pair pairs ∙ ap (λ (n : ℕ). 1 + n) (all_counted pairs) ∙ next

as_many : (rule : List Member → List Pair) → ListsTheGained rule → (members : List Member) → length (rule members) ≡ length (new_pairs members)
as_many rule law members =
    sym (all_counted (rule members)) ∙ law members (λ pair. true) ∙ sym (pairs_are_listed members (λ pair. true)) ∙ all_counted (new_pairs members)

two_are_not_one : (m n : ℕ) → m ≡ 2 → n ≡ 1 → m ≡ n → ⊥
two_are_not_one m n two one same = omega (arith, two, one, same)

pub one_is_not_none : (m n : ℕ) → m ≡ 1 → n ≡ 0 → m ≡ n → ⊥
one_is_not_none m n one none same = omega (arith, one, none, same)

-- ---- ports of a node, full members now: one was before, and another was not
abbrev stays : ℕ → Member
stays number = record { port = record { node = 0; port = number }; after = Full; before = Full }

abbrev comes : ℕ → Member
comes number = record { port = record { node = 0; port = number }; after = Full; before = Outside }

pub what_was_before_counts : WhatWasBeforeCounts
what_was_before_counts law = one_is_not_none _ _ refl refl (as_many talking_pairs law (stays 1 ∷ stays 2 ∷ []))

pub pairs_are_not_listed_twice : PairsAreNotListedTwice
pairs_are_not_listed_twice law = two_are_not_one _ _ refl refl (as_many pairs_twice law (comes 1 ∷ stays 2 ∷ []))

pub the_reverse_is_the_same_pair : TheReverseIsTheSamePair
the_reverse_is_the_same_pair law = two_are_not_one _ _ refl refl (as_many pairs_both_ways law (comes 1 ∷ stays 2 ∷ []))

pub no_port_is_its_own_pair : NoPortIsItsOwnPair
no_port_is_its_own_pair law = one_is_not_none _ _ refl refl (as_many pairs_with_itself law (comes 1 ∷ []))

pub unchanged_ports_gain_too : UnchangedPortsGainToo
unchanged_ports_gain_too law = one_is_not_none _ _ refl refl (sym (as_many pairs_of_changed law (stays 1 ∷ comes 2 ∷ [])))
