-- As many pairs may talk under a relation of members and full members as these make.
use Rattle.std.proofs.Common.{◌≡◌, ℕ, zero, suc, ◌+◌, ◌-◌, ◌*◌, ◌/◌, ◌<◌, ◌≤◌, length, not, Bool, true, false, ◌&&◌, ◌||◌, if◌then◌else◌, List, [], ◌∷◌, ◌++◌, count_by, refl, sym, ap, ap₂, ◌∙◌, inl, inr, arith}
use Rattle.std.specs.List.{flat_map}
use Rattle.std.proofs.lemmas.Bool.{cases_Bool, false≢true}
use Rattle.std.proofs.lemmas.List.{length-append}
use Rattle.std.proofs.lemmas.Nat.{div-mul-add}
use Rattle.step_results.proofs.BoolLemmas.{and_false}
use Rattle.partition_reports.specs.Pairs.{pair_count}
use Rattle.partition_reports.proofs.SumLemmas.{full_more, limited_more, nothing_added, one_if, picked, twice_all}
use Rattle.partition_reports.specs.declared.pairs.Member.{Member}
use Rattle.partition_reports.specs.declared.pairs.Pair.{Pair}
use Rattle.partition_reports.specs.Counts.{is_full_in_any, is_full_in_both_before, is_full_in_both_now, is_full_now, is_in_both, is_now, kept_count}
use Rattle.partition_reports.specs.Membership.{is_full_member, is_member, may_talk}
use Rattle.partition_reports.specs.ChangedPairs.{gains, new_pairs, pair_if}
use Rattle.partition_reports.proofs.TwoLemmas.{count_more, count_pairs}

-- ---- counts that are nothing
count_none : {X : Type 0} (xs : List X) → count_by (λ x. false) xs ≡ 0
count_none [] = refl
count_none (x ∷ xs) = count_more (λ y. false) x xs ∙ nothing_added (count_by (λ y. false) xs) ∙ count_none xs

-- ---- two counts of one are two counts of another
module _ {X : Type 0} where
  abbrev Balance : (a b c d : X → Bool) → Type 0
  Balance a b c d = (x : X) → one_if (a x) + one_if (b x) ≡ one_if (c x) + one_if (d x)

  balanced : (a b c d : X → Bool) → Balance a b c d → (xs : List X) → count_by a xs + count_by b xs ≡ count_by c xs + count_by d xs
  balanced a b c d each [] = refl
  balanced a b c d each (x ∷ xs) =
      let one = count_more a x xs in
      let two = count_more b x xs in
      let three = count_more c x xs in
      let four = count_more d x xs in
      let here = each x in
      let rest = balanced a b c d each xs in
      omega (arith, one, two, three, four, here, rest)

  abbrev PairBalance : (a b c d : X → X → Bool) → Type 0
  PairBalance a b c d = (x : X) → Balance (a x) (b x) (c x) (d x)

  pairs_balanced : (a b c d : X → X → Bool) → PairBalance a b c d → (xs : List X)
      → count_pairs a xs + count_pairs b xs ≡ count_pairs c xs + count_pairs d xs
  pairs_balanced a b c d each [] = refl
  pairs_balanced a b c d each (x ∷ xs) =
      let row = balanced (a x) (b x) (c x) (d x) (each x) xs in
      let rest = pairs_balanced a b c d each xs in
      omega (arith, row, rest)

  no_pairs : (xs : List X) → count_pairs (λ x y. false) xs ≡ 0
  no_pairs [] = refl
  no_pairs (x ∷ xs) = ap₂ (λ (m n : ℕ). m + n) (count_none xs) (no_pairs xs)

  -- ---- members, of which one at least is a full one
  abbrev talk : (member full : X → Bool) → X → X → Bool
  talk member full p q = member p && (member q && (full p || full q))

  abbrev fulls_of : (member full : X → Bool) → X → Bool
  fulls_of member full x = member x && full x

  fewer_full : (member full : X → Bool) (xs : List X) → count_by (fulls_of member full) xs ≤ count_by member xs
  fewer_full member full [] = omega arith
  fewer_full member full (x ∷ xs) =
      let one = count_more member x xs in
      let two = count_more (fulls_of member full) x xs in
      let here = less (member x) (full x) in
      let rest = fewer_full member full xs in
      omega (arith, one, two, here, rest)
    where
      less : (m f : Bool) → one_if (m && f) ≤ one_if m
      less true true = omega arith
      less true false = omega arith
      less false f = omega arith

  row : (member full : X → Bool) (p : X) (xs : List X)
      → count_by (talk member full p) xs ≡ picked (member p) (full p) (count_by member xs) (count_by (fulls_of member full) xs)
  row member full p [] = none (member p) (full p)
    where
      none : (m f : Bool) → zero ≡ picked m f 0 0
      none true true = refl
      none true false = refl
      none false f = refl
  row member full p (x ∷ xs) =
      count_more (talk member full p) x xs ∙ ap (λ n. one_if (talk member full p x) + n) (row member full p xs)
      ∙ step (member p) (full p) (member x) (full x) (count_by member xs) (count_by (fulls_of member full) xs)
      ∙ ap₂ (picked (member p) (full p)) (sym (count_more member x xs)) (sym (count_more (fulls_of member full) x xs))
    where
      step : (mp fp mx fx : Bool) (members fulls : ℕ)
          → one_if (mp && (mx && (fp || fx))) + picked mp fp members fulls ≡ picked mp fp (one_if mx + members) (one_if (mx && fx) + fulls)
      step false fp mx fx members fulls = refl
      step true true true fx members fulls = refl
      step true true false fx members fulls = refl
      step true false true fx members fulls = refl
      step true false false fx members fulls = refl

  twice : (member full : X → Bool) (xs : List X)
      → count_pairs (talk member full) xs * 2 ≡ twice_all (count_by member xs) (count_by (fulls_of member full) xs)
  twice member full [] = refl
  twice member full (x ∷ xs) =
      rw (row member full x xs, count_more member x xs, count_more (fulls_of member full) x xs)
      (grown (member x) (full x) (count_by member xs) (count_by (fulls_of member full) xs) (count_pairs (talk member full) xs)
      (fewer_full member full xs) (twice member full xs))
    where
      grown : (m f : Bool) (members fulls all : ℕ) → fulls ≤ members → all * 2 ≡ twice_all members fulls
          → (picked m f members fulls + all) * 2 ≡ twice_all (one_if m + members) (one_if (m && f) + fulls)
      grown true true members fulls all less is = full_more members fulls all less is
      grown true false members fulls all less is = rw (nothing_added fulls) (limited_more members fulls all less is)
      grown false f members fulls all less is = rw (nothing_added all, nothing_added members, nothing_added fulls) is

  talk_count : (member full : X → Bool) (xs : List X)
      → count_pairs (talk member full) xs ≡ pair_count (count_by member xs) (count_by (fulls_of member full) xs)
  talk_count member full xs =
      let n : ℕ = count_pairs (talk member full) xs in
      let none : n * 2 + 0 ≡ n * 2 = omega arith in
      sym (div-mul-add n 2 0 (omega arith)) ∙ ap (λ (m : ℕ). m / 2) (none ∙ twice member full xs)

-- ---- pairs that are listed
made_count : (b : Bool) (pair : Pair) → length (if b then pair ∷ [] else []) ≡ one_if b
made_count true pair = refl
made_count false pair = refl

length_made : (p : Member) (qs : List Member) → length (flat_map (pair_if p) qs) ≡ count_by (gains p) qs
length_made p [] = refl
length_made p (q ∷ qs) =
    length-append (pair_if p q) (flat_map (pair_if p) qs)
    ∙ ap₂ (λ (m n : ℕ). m + n) (made_count (gains p q) (record { first = p.port; second = q.port })) (length_made p qs)
    ∙ sym (count_more (gains p) q qs)

listed_count : (members : List Member) → length (new_pairs members) ≡ count_pairs gains members
listed_count [] = refl
listed_count (p ∷ members) =
    length-append (flat_map (pair_if p) members) (new_pairs members) ∙ ap₂ (λ (m n : ℕ). m + n) (length_made p members) (listed_count members)

-- ---- pairs now, without those that may talk now and might before
abbrev keeps : Member → Member → Bool
keeps p q = may_talk p.after q.after && may_talk p.before q.before

abbrev now_talk : Member → Member → Bool
now_talk = talk is_now (λ member. is_full_member member.after)

abbrev both_now : Member → Member → Bool
both_now = talk is_in_both (λ member. is_full_member member.after)

abbrev both_before : Member → Member → Bool
both_before = talk is_in_both (λ member. is_full_member member.before)

abbrev both_any : Member → Member → Bool
both_any = talk is_in_both (λ member. is_full_member member.after || is_full_member member.before)

gained_or_kept : PairBalance gains keeps now_talk (λ p q. false)
gained_or_kept p q = by (may_talk p.after q.after) (may_talk p.before q.before)
  where
    by : (t b : Bool) → one_if (t && not b) + one_if (t && b) ≡ one_if t + one_if false
    by true true = refl
    by true false = refl
    by false b = refl

kept_by : (na ma nb mb ta ua tb ub : Bool)
    → one_if ((na && ma) && ((nb && mb) && ((ta || ua) || (tb || ub)))) + one_if ((na && (nb && (ta || tb))) && (ma && (mb && (ua || ub))))
    ≡ one_if ((na && ma) && ((nb && mb) && (ta || tb))) + one_if ((na && ma) && ((nb && mb) && (ua || ub)))
kept_by false ma nb mb ta ua tb ub = refl
kept_by true false nb mb ta ua tb ub = rw (and_false (nb && (ta || tb))) refl
kept_by true true false mb ta ua tb ub = refl
kept_by true true true false ta ua tb ub = rw (and_false (ta || tb)) refl
kept_by true true true true true ua tb ub = refl
kept_by true true true true false true true ub = refl
kept_by true true true true false true false ub = refl
kept_by true true true true false false true ub = refl
kept_by true true true true false false false true = refl
kept_by true true true true false false false false = refl

any_or_kept : PairBalance both_any keeps both_now both_before
any_or_kept p q =
    kept_by (is_member p.after) (is_member p.before) (is_member q.after) (is_member q.before)
    (is_full_member p.after) (is_full_member p.before) (is_full_member q.after) (is_full_member q.before)

pub pairs_kept : (members : List Member) → kept_count members ≡ count_pairs keeps members
pairs_kept members =
    let one = talk_count is_in_both (λ member. is_full_member member.after) members in
    let two = talk_count is_in_both (λ member. is_full_member member.before) members in
    let three = talk_count is_in_both (λ member. is_full_member member.after || is_full_member member.before) members in
    let all = pairs_balanced both_any keeps both_now both_before any_or_kept members in
    omega (arith, one, two, three, all)

pub any_is_less : (members : List Member)
    → pair_count (count_by is_in_both members) (count_by is_full_in_any members)
    ≤ pair_count (count_by is_in_both members) (count_by is_full_in_both_now members) + pair_count (count_by is_in_both members) (count_by is_full_in_both_before members)
any_is_less members =
    let one = talk_count is_in_both (λ member. is_full_member member.after) members in
    let two = talk_count is_in_both (λ member. is_full_member member.before) members in
    let three = talk_count is_in_both (λ member. is_full_member member.after || is_full_member member.before) members in
    let all = pairs_balanced both_any keeps both_now both_before any_or_kept members in
    omega (arith, one, two, three, all)

pub new_and_kept : (members : List Member)
    → length (new_pairs members) + kept_count members ≡ pair_count (count_by is_now members) (count_by is_full_now members)
new_and_kept members =
    let listed = listed_count members in
    let kept = pairs_kept members in
    let now = talk_count is_now (λ member. is_full_member member.after) members in
    let none = no_pairs members in
    let all = pairs_balanced gains keeps now_talk (λ p q. false) gained_or_kept members in
    omega (arith, listed, kept, now, none, all)

pub few_in_both_now : (members : List Member) → count_by is_full_in_both_now members ≤ count_by is_in_both members
few_in_both_now members = fewer_full is_in_both (λ member. is_full_member member.after) members

pub few_in_both_before : (members : List Member) → count_by is_full_in_both_before members ≤ count_by is_in_both members
few_in_both_before members = fewer_full is_in_both (λ member. is_full_member member.before) members

pub few_in_any : (members : List Member) → count_by is_full_in_any members ≤ count_by is_in_both members
few_in_any members = fewer_full is_in_both (λ member. is_full_member member.after || is_full_member member.before) members

pub few_now : (members : List Member) → count_by is_full_now members ≤ count_by is_now members
few_now members = fewer_full is_now (λ member. is_full_member member.after) members
