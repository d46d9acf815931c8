-- Nothing is printed if and only if both files say the same.
use Rattle.std.proofs.Common.{◌≡◌, ◌↔◌, ℕ, ◌+◌, Bool, true, false, not, ◌==◌, ◌&&◌, ◌||◌, if◌then◌else◌, List, [], ◌∷◌, ◌++◌, Option, Some, None, is_some, refl, sym, ap, ◌∙◌, inl, inr, arith}
use Rattle.std.specs.List.{AllByRecursion, flat_map, list_any, zip}
use Rattle.std.proofs.lemmas.Bool.{and_from, and_parts, cases_Bool, eq-eqb, false≢true, or_left, or_right}
use Rattle.std.proofs.lemmas.List.Sums.{sum_by-cons}
use Rattle.std.specs.Cmp.{both_ways}
use Rattle.step_results.proofs.BoolLemmas.{and_alike}
use Rattle.partition_file.specs.declared.broadcast_group.BroadcastGroup.{BroadcastGroup}
use Rattle.partition_file.specs.declared.heading.Heading.{Heading}
use Rattle.partition_reports.proofs.NearLemmas.{near_is_to_share}
use Rattle.partition_reports.specs.ShareLaws.{is_of_both}
use Rattle.partition_reports.specs.Shares.{Share, share_line, shares}
use Rattle.subnet_model.specs.declared.subnet_port.SubnetPort.{SubnetPort}
use Rattle.partition_reports.specs.Changes.{Change, bases_named, change_of_member_line, changes_of, changes_text, coming, going, group_changes, group_changes_at, group_line, grouped, member_changes, partition_changes, partition_line, same_group, same_groups, same_member, same_partition, same_share, share_changes, sign}
use Rattle.partition_reports.specs.ChangeLaws.{NearStaysWhereNoShareIsReported, NothingIsReportedOfTheSame, ReportWhatChanges, comings, goings, has_group, has_member, has_partition, has_share, is_of, one_if}
use Rattle.partition_reports.proofs.KindLemmas.{fields_if, groups_are_reported, partitions_are_reported, same_if}
use Rattle.partition_reports.proofs.MemberLemmas.{members_are_reported}
use Rattle.partition_reports.proofs.ShareReportedLemmas.{alike, shares_are_reported}

-- ---- changes of one kind
-- what is printed is the same as itself
abbrev IsOwn : {X : Type 0} → (X → X → Bool) → Change X → Type 0
IsOwn same change = same change.what change.what ≡ true

pub own_always : {X : Type 0} (same : X → X → Bool) → ((x : X) → same x x ≡ true) → (changes : List (Change X)) → AllByRecursion (IsOwn same) changes
own_always same own [] = tt
own_always same own (change ∷ changes) = (own change.what, own_always same own changes)

none_if : (so : Bool) → one_if so ≡ 0 → so ≡ false
none_if true e = absurd (omega (arith, e))
none_if false e = refl

some_reported : (is_new is_same : Bool) (gone come : ℕ) → is_same ≡ true → one_if (not is_new && is_same) + gone ≡ 0 → one_if (is_new && is_same) + come ≡ 0 → ⊥
some_reported true true gone come e f g = omega (arith, g)
some_reported false true gone come e f g = omega (arith, f)
some_reported is_new false gone come e f g = false≢true e

none_reported : {X : Type 0} (same : X → X → Bool) (changes : List (Change X)) → AllByRecursion (IsOwn same) changes
    → ((x : X) → goings same x changes ≡ 0) → ((x : X) → comings same x changes ≡ 0) → changes ≡ []
none_reported same [] own gone come = refl
none_reported same (change ∷ changes) own gone come =
    absurd (some_reported change.comes (same change.what change.what) (goings same change.what changes) (comings same change.what changes) own.0
    (sym (sum_by-cons (λ c. one_if (not c.comes && same change.what c.what)) change changes) ∙ gone change.what)
    (sym (sum_by-cons (λ c. one_if (c.comes && same change.what c.what)) change changes) ∙ come change.what))

unchanged : (a b : Bool) → a ≡ b → (a && not b) ≡ false
unchanged true true e = refl
unchanged false b e = refl
unchanged true false e = e

equal : (a b : Bool) → (a && not b) ≡ false → (b && not a) ≡ false → a ≡ b
equal true true e f = refl
equal true false e f = e
equal false true e f = sym f
equal false false e f = refl

-- nothing of the kind is printed if and only if both say the same of it
pub kind : {X : Type 0} (same : X → X → Bool) (was becomes : X → Bool) (changes : List (Change X)) → ReportWhatChanges same was becomes changes → AllByRecursion (IsOwn same) changes
    → changes ≡ [] ↔ ((x : X) → was x ≡ becomes x)
kind same was becomes changes reported own = (
  (λ none x. equal (was x) (becomes x) (none_if (was x && not (becomes x)) (sym (reported.gone x) ∙ ap (goings same x) none))
      (none_if (becomes x && not (was x)) (sym (reported.come x) ∙ ap (comings same x) none))),
  (λ all. none_reported same changes own (λ x. reported.gone x ∙ ap one_if (unchanged (was x) (becomes x) (all x)))
      (λ x. reported.come x ∙ ap one_if (unchanged (becomes x) (was x) (sym (all x))))),
)

-- ---- what is found is the same as itself
own_partition : (x : ℕ × Heading) → same_partition x x ≡ true
own_partition x = same_if x x (refl, (refl, refl))

pub own_member : (x : SubnetPort × ℕ) → same_member x x ≡ true
own_member x = and_from (x.0.guid == x.0.guid) (x.1 == x.1) (eq-eqb x.0.guid x.0.guid refl) (eq-eqb x.1 x.1 refl)

own_share : (x : Share) → same_share x x ≡ true
own_share x =
    and_from (x.first.guid == x.first.guid) _ (eq-eqb x.first.guid x.first.guid refl)
    (and_from (x.second.guid == x.second.guid) _ (eq-eqb x.second.guid x.second.guid refl) (eq-eqb x.base x.base refl))

-- a group, where there is one
own_fields : (group : Option BroadcastGroup) → is_some group ≡ true → same_groups group group ≡ true
own_fields None e = absurd (cc)
own_fields (Some group) e = fields_if group group (refl, (refl, (refl, (refl, refl))))

own_group : (heading : Heading) → is_some heading.group ≡ true → same_group heading heading ≡ true
own_group heading e = and_from (heading.base == heading.base) (same_groups heading.group heading.group) (eq-eqb heading.base heading.base refl) (own_fields heading.group e)

abbrev IsOwnGroup : Option Heading → Type 0
IsOwnGroup None = Unit {0}
IsOwnGroup (Some heading) = same_group heading heading ≡ true

own_grouped : (headings : List Heading) (base : ℕ) → IsOwnGroup (grouped headings base)
own_grouped [] base = tt
own_grouped (heading ∷ headings) base = elim (cases_Bool ((heading.base == base) && is_some heading.group)) [
  | inl here ↦ rw here (own_group heading (and_parts (heading.base == base) (is_some heading.group) here).1)
  | inr other ↦ rw other (own_grouped headings base)
]

own_either : (before after : Option Heading) → IsOwnGroup before → IsOwnGroup after → AllByRecursion (IsOwn same_group) (changes_of same_group before after)
own_either None None b a = tt
own_either None (Some y) b a = (a, tt)
own_either (Some x) None b a = (b, tt)
own_either (Some x) (Some y) b a = by (same_group x y)
  where
    by : (kept : Bool) → AllByRecursion (IsOwn same_group) (if kept then [] else going (Some x) ++ coming (Some y))
    by true = tt
    by false = (b, (a, tt))

own_joined : (xs ys : List (Change Heading)) → AllByRecursion (IsOwn same_group) xs → AllByRecursion (IsOwn same_group) ys → AllByRecursion (IsOwn same_group) (xs ++ ys)
own_joined [] ys a b = b
own_joined (x ∷ xs) ys a b = (a.0, own_joined xs ys a.1 b)

own_groups : (before after : List Heading) (bases : List ℕ) → AllByRecursion (IsOwn same_group) (flat_map (group_changes_at before after) bases)
own_groups before after [] = tt
own_groups before after (base ∷ bases) =
    own_joined (group_changes_at before after base) (flat_map (group_changes_at before after) bases)
    (own_either (grouped before base) (grouped after base) (own_grouped before base) (own_grouped after base)) (own_groups before after bases)

-- ---- the text
joined_none : (xs ys : List ℕ) → xs ++ ys ≡ [] → (xs ≡ []) × (ys ≡ [])
joined_none [] ys e = (refl, e)
joined_none (x ∷ xs) ys e = absurd (cc)

none_joined : (ps gs ms ss : List ℕ) → ps ≡ [] → gs ≡ [] → ms ≡ [] → ss ≡ [] → ps ++ gs ++ ms ++ ss ≡ []
none_joined ps gs ms ss p g m s = rw (p, g, m, s) refl

-- each change has a line
unreported : {X : Type 0} (line : X → List ℕ) (changes : List (Change X)) → changes_text line changes ≡ [] → changes ≡ []
unreported line [] e = refl
unreported line (change ∷ changes) e = absurd (by change.comes (joined_none (sign change.comes ++ line change.what) (changes_text line changes) e).0)
  where
    by : (b : Bool) → sign b ++ line change.what ≡ [] → ⊥
    by true e = cc
    by false e = cc

pub without : (a b c : Bool) → (a && b) ≡ (a && c) → a ≡ true → b ≡ c
without true b c e f = e
without false b c e f = absurd (false≢true f)

pub nothing_is_reported_of_the_same : NothingIsReportedOfTheSame
nothing_is_reported_of_the_same before after are =
    let bases : List ℕ = bases_named before.partitions after.partitions in
    let partitions : List (Change (ℕ × Heading)) = partition_changes before.partitions after.partitions in
    let groups : List (Change Heading) = group_changes before.partitions after.partitions in
    let members : List (Change (SubnetPort × ℕ)) = member_changes bases (zip before.ports after.ports) in
    let changed : List (Change Share) = share_changes (zip before.ports after.ports) in
    let of_partitions = kind same_partition (has_partition before.partitions) (has_partition after.partitions) partitions (partitions_are_reported before.partitions after.partitions) (own_always same_partition own_partition partitions) in
    let of_groups = kind same_group (has_group before.partitions) (has_group after.partitions) groups (groups_are_reported before.partitions after.partitions) (own_groups before.partitions after.partitions bases) in
    let of_members = kind same_member (λ x. is_of bases x && has_member before.ports x) (λ x. is_of bases x && has_member after.ports x) members (members_are_reported before.ports after.ports before.partitions after.partitions are) (own_always same_member own_member members) in
    let of_shares = kind same_share (has_share before.ports) (has_share after.ports) changed (shares_are_reported before.ports after.ports are) (own_always same_share own_share changed) in (
      (λ empty.
          let one = joined_none (changes_text partition_line partitions ++ changes_text group_line groups ++ changes_text change_of_member_line members) (changes_text share_line changed) empty in
          let two = joined_none (changes_text partition_line partitions ++ changes_text group_line groups) (changes_text change_of_member_line members) one.0 in
          let three = joined_none (changes_text partition_line partitions) (changes_text group_line groups) two.0 in
          record {
            partitions = of_partitions.0 (unreported partition_line partitions three.0);
            groups = of_groups.0 (unreported group_line groups three.1);
            members = λ x. without (is_of bases x) (has_member before.ports x) (has_member after.ports x) (of_members.0 (unreported change_of_member_line members two.1) x);
            shares = of_shares.0 (unreported share_line changed one.1);
          }),
      (λ same.
          none_joined (changes_text partition_line partitions) (changes_text group_line groups) (changes_text change_of_member_line members) (changes_text share_line changed)
          (ap (changes_text partition_line) (of_partitions.1 same.partitions)) (ap (changes_text group_line) (of_groups.1 same.groups))
          (ap (changes_text change_of_member_line) (of_members.1 (λ x. and_alike (is_of bases x) (has_member before.ports x) (has_member after.ports x) (same.members x))))
          (ap (changes_text share_line) (of_shares.1 same.shares))),
    )

-- ---- near
both_alike : (p q : ℕ) (x y : Share) → same_share x y ≡ true → is_of_both p q x ≡ is_of_both p q y
both_alike p q x y e =
    let same = alike x y e in
    ap (λ n. ((n == p) && (x.second.guid == q)) || ((n == q) && (x.second.guid == p))) same.0
    ∙ ap (λ n. ((y.first.guid == p) && (n == q)) || ((y.first.guid == q) && (n == p))) same.1.0

-- one that passes the test
passing : (test : Share → Bool) (xs : List Share) → list_any test xs ≡ true → (x : Share) × ((test x ≡ true) × (list_any (same_share x) xs ≡ true))
passing test [] e = absurd (cc)
passing test (x ∷ xs) e = elim (cases_Bool (test x)) [
  | inl here ↦ (x, (here, or_left (same_share x x) (list_any (same_share x) xs) (own_share x)))
  | inr other ↦
      let rest = passing test xs (rw other at e) in
      (rest.0, (rest.1.0, or_right (same_share rest.0 x) (list_any (same_share rest.0) xs) rest.1.1))
]

passed : (test : Share → Bool) → ((x y : Share) → same_share x y ≡ true → test x ≡ test y) → (xs : List Share) (x : Share)
    → test x ≡ true → list_any (same_share x) xs ≡ true → list_any test xs ≡ true
passed test even [] x e h = absurd (cc)
passed test even (y ∷ ys) x e h = elim (cases_Bool (same_share x y)) [
  | inl here ↦ or_left (test y) (list_any test ys) (sym (even x y here) ∙ e)
  | inr other ↦ or_right (test y) (list_any test ys) (passed test even ys x e (rw other at h))
]

implies : (test : Share → Bool) → ((x y : Share) → same_share x y ≡ true → test x ≡ test y) → (xs ys : List Share)
    → ((x : Share) → list_any (same_share x) xs ≡ list_any (same_share x) ys) → list_any test xs ≡ true → list_any test ys ≡ true
implies test even xs ys same h =
    let one = passing test xs h in
    passed test even ys one.0 one.1.0 (sym (same one.0) ∙ one.1.1)

pub near_stays_where_no_share_is_reported : NearStaysWhereNoShareIsReported
near_stays_where_no_share_is_reported before after are none p q =
    let changed : List (Change Share) = share_changes (zip before after) in
    let of_shares = kind same_share (has_share before) (has_share after) changed (shares_are_reported before after are) (own_always same_share own_share changed) in
    let same : (x : Share) → has_share before x ≡ has_share after x = of_shares.0 none in
    near_is_to_share before p q
    ∙ ap (λ b. (q == p) || b) (both_ways (list_any (is_of_both p q) (shares before)) (list_any (is_of_both p q) (shares after))
    (implies (is_of_both p q) (both_alike p q) (shares before) (shares after) same)
    (implies (is_of_both p q) (both_alike p q) (shares after) (shares before) (λ x. sym (same x))))
    ∙ sym (near_is_to_share after p q)
