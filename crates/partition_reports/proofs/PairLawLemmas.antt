-- What the pairs say of P_Keys, and which are listed.
use Rattle.std.proofs.Common.{◌≡◌, ℕ, ◌+◌, nat_le, Bool, true, false, not, ◌==◌, ◌&&◌, if◌then◌else◌, List, [], ◌∷◌, ◌++◌, count_by, filter, refl, sym, ap, ap₂, ◌∙◌, inl, inr, arith}
use Rattle.std.specs.List.{flat_map}
use Rattle.std.proofs.lemmas.Bool.{and_parts, cases_Bool, false≢true, leb-true}
use Rattle.std.proofs.lemmas.Bool.Decides.{nat_tests}
use Rattle.std.proofs.lemmas.List.Sums.{sum_by-append}
use Rattle.step_results.proofs.BoolLemmas.{and_false}
use Rattle.pkey_rules.specs.KeyTable.{has_base}
use Rattle.partition_reports.proofs.SumLemmas.{full_is_member, one_if, talk_by}
use Rattle.partition_reports.specs.declared.membership.Membership.{Membership}
use Rattle.partition_reports.specs.declared.membership.Membership.TheVariants.{Outside, Limited, Full}
use Rattle.partition_reports.specs.declared.pairs.Member.{Member}
use Rattle.partition_reports.specs.declared.pairs.Pair.{Pair}
use Rattle.partition_reports.specs.Counts.{are_alike, changed_behind, is_changed, is_now}
use Rattle.partition_reports.specs.PairLaws.{PairsAreListed, TalkingIsMatching, gain_and_pass}
use Rattle.partition_reports.specs.Membership.{has_full, is_full_member, is_member, may_talk, membership_of}
use Rattle.partition_reports.specs.ChangedPairs.{gains, new_pairs, pair_if}
use Rattle.partition_reports.proofs.TwoLemmas.{count_more, count_pairs, two_places}

-- ---- talking is matching
member_by : (base : ℕ) (keys : List ℕ) → is_member (membership_of base keys) ≡ has_base base keys
member_by base keys = elim (cases_Bool (has_full base keys)) [
  | inl full ↦ rw (full, full_is_member base keys full) refl
  | inr limited ↦ rw limited (by (has_base base keys))
]
  where
    by : (b : Bool) → is_member (if b then Limited else Outside) ≡ b
    by true = refl
    by false = refl

full_by : (base : ℕ) (keys : List ℕ) → is_full_member (membership_of base keys) ≡ has_full base keys
full_by base keys = by (has_full base keys) (has_base base keys)
  where
    by : (f b : Bool) → is_full_member (if f then Full else (if b then Limited else Outside)) ≡ f
    by true b = refl
    by false true = refl
    by false false = refl

pub talking_is_matching : TalkingIsMatching
talking_is_matching base ps qs is =
    let low = leb-true 1 base (and_parts (nat_le 1 base) (nat_le base 32767) is).0 in
    let some : (base == 0) ≡ false = grind (arith, nat_tests, low) in
    rw (member_by base ps, member_by base qs, full_by base ps, full_by base qs) (sym (talk_by base ps qs some))

-- ---- pairs are listed, each once
module _ (test : Pair → Bool) where
  one_passes : (gained : Bool) (pair : Pair) → count_by test (if gained then pair ∷ [] else []) ≡ one_if (gained && test pair)
  one_passes true pair =
      let more = count_more test pair [] in
      let none : count_by test [] ≡ 0 = refl in
      omega (arith, more, none)
  one_passes false pair = refl

  row_passes : (p : Member) (qs : List Member) → count_by test (flat_map (pair_if p) qs) ≡ count_by (gain_and_pass test p) qs
  row_passes p [] = refl
  row_passes p (q ∷ qs) =
      sum_by-append (λ pair. one_if (test pair)) (pair_if p q) (flat_map (pair_if p) qs)
      ∙ ap₂ (λ (m n : ℕ). m + n) (one_passes (gains p q) (record { first = p.port; second = q.port })) (row_passes p qs)
      ∙ sym (count_more (gain_and_pass test p) q qs)

  all_pass : (members : List Member) → count_by test (new_pairs members) ≡ count_pairs (gain_and_pass test) members
  all_pass [] = refl
  all_pass (p ∷ members) =
      sum_by-append (λ pair. one_if (test pair)) (flat_map (pair_if p) members) (new_pairs members)
      ∙ ap₂ (λ (m n : ℕ). m + n) (row_passes p members) (all_pass members)

pub pairs_are_listed : PairsAreListed
pairs_are_listed members test = all_pass test members ∙ sym (two_places (gain_and_pass test) members)

-- ---- members that are in no pair with this one may be left out
kept_first : (f : Member → Bool) (q : Member) (qs : List Member) → f q ≡ true → filter f (q ∷ qs) ≡ q ∷ filter f qs
kept_first f q qs is = rw is refl

left_out : (f : Member → Bool) (q : Member) (qs : List Member) → f q ≡ false → filter f (q ∷ qs) ≡ filter f qs
left_out f q qs is = rw is refl

row_of_some : (f : Member → Bool) (p : Member) → ((q : Member) → f q ≡ false → pair_if p q ≡ [])
    → (qs : List Member) → flat_map (pair_if p) (filter f qs) ≡ flat_map (pair_if p) qs
row_of_some f p none [] = refl
row_of_some f p none (q ∷ qs) = elim (cases_Bool (f q)) [
  | inl stays ↦ ap (flat_map (pair_if p)) (kept_first f q qs stays) ∙ ap (λ rest. pair_if p q ++ rest) (row_of_some f p none qs)
  | inr goes ↦
      ap (flat_map (pair_if p)) (left_out f q qs goes) ∙ row_of_some f p none qs
      ∙ sym (ap (λ made. made ++ flat_map (pair_if p) qs) (none q goes))
]

no_row : (p : Member) (qs : List Member) → is_now p ≡ false → flat_map (pair_if p) qs ≡ []
no_row p [] is = refl
no_row p (q ∷ qs) is = rw is (no_row p qs is)

row_of_members : (p : Member) (qs : List Member) → flat_map (pair_if p) (filter is_now qs) ≡ flat_map (pair_if p) qs
row_of_members p qs = row_of_some is_now p (λ q outside. rw (outside, and_false (is_member p.after)) refl) qs

pub pairs_of_members : (members : List Member) → new_pairs (filter is_now members) ≡ new_pairs members
pairs_of_members [] = refl
pairs_of_members (p ∷ members) = elim (cases_Bool (is_now p)) [
  | inl member ↦
      ap new_pairs (kept_first is_now p members member) ∙ ap₂ (λ row rest. row ++ rest) (row_of_members p members) (pairs_of_members members)
  | inr outside ↦
      ap new_pairs (left_out is_now p members outside) ∙ pairs_of_members members ∙ sym (ap (λ row. row ++ new_pairs members) (no_row p members outside))
]

-- ---- two members of whom neither changed are no pair
are_same : (a b : Membership) → are_alike a b ≡ true → a ≡ b
are_same Outside Outside is = refl
are_same Outside Limited is = absurd (false≢true is)
are_same Outside Full is = absurd (false≢true is)
are_same Limited Outside is = absurd (false≢true is)
are_same Limited Limited is = refl
are_same Limited Full is = absurd (false≢true is)
are_same Full Outside is = absurd (false≢true is)
are_same Full Limited is = absurd (false≢true is)
are_same Full Full is = refl

stays_same : (p : Member) → is_changed p ≡ false → p.after ≡ p.before
stays_same p is = are_same p.after p.before (turned (are_alike p.after p.before) is)
  where
    turned : (b : Bool) → not b ≡ false → b ≡ true
    turned true is = refl
    turned false is = absurd (false≢true (sym is))

none_gained : (p q : Member) → is_changed p ≡ false → is_changed q ≡ false → pair_if p q ≡ []
none_gained p q one other =
    let same : may_talk p.after q.after ≡ may_talk p.before q.before = ap₂ may_talk (stays_same p one) (stays_same q other) in
    let none : gains p q ≡ false = ap (λ talk. talk && not (may_talk p.before q.before)) same ∙ never (may_talk p.before q.before) in
    rw none refl
  where
    never : (b : Bool) → (b && not b) ≡ false
    never true = refl
    never false = refl

pub row_of_changed : (p : Member) (qs : List Member) → is_changed p ≡ false → flat_map (pair_if p) (filter is_changed qs) ≡ flat_map (pair_if p) qs
row_of_changed p qs same = row_of_some is_changed p (λ q also. none_gained p q same also) qs

pub changed_go_on : (p : Member) (members : List Member) → changed_behind p (filter is_changed (p ∷ members)) ≡ filter is_changed members
changed_go_on p members = elim (cases_Bool (is_changed p)) [
  | inl changed ↦ rw (kept_first is_changed p members changed, changed) refl
  | inr same ↦ rw (left_out is_changed p members same, same) refl
]
