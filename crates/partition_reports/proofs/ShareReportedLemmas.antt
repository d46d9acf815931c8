-- Shares that go or come are printed, where the ports are the same.
use Rattle.std.proofs.Common.{◌≡◌, ℕ, ◌+◌, Bool, true, false, not, ◌==◌, ◌&&◌, ◌||◌, if◌then◌else◌, List, [], ◌∷◌, Some, None, filter, map, refl, sym, ap, ◌∙◌, inl, inr, subst}
use Rattle.std.specs.List.{AllByRecursion, IsDistinct, flat_map, list_any, range_with_len, zip}
use Rattle.std.proofs.lemmas.Bool.{and_from, and_parts, cases_Bool, eq-eqb, eqb-true}
use Rattle.std.proofs.lemmas.List.Folds.{list_any-append}
use Rattle.std.proofs.lemmas.List.Sums.{sum_by-append}
use Rattle.step_results.proofs.RisingLemmas.{Rises, rises}
use Rattle.pkey_rules.specs.KeyTable.{shares_base}
use Rattle.partition_reports.proofs.ShareLemmas.{range_rises}
use Rattle.partition_reports.specs.FoundShares.{share_of as share_between}
use Rattle.partition_reports.specs.Shares.{Share, pair_shares, shared_bases, shares}
use Rattle.subnet_model.specs.declared.subnet_port.SubnetPort.{SubnetPort}
use Rattle.partition_reports.specs.Changes.{pair_changes, same_share, share_changes, share_changes_at, share_of}
use Rattle.partition_reports.specs.ChangeLaws.{SharesAreReported, comings, goings, has_share, one_if, same_guid, says}
use Rattle.partition_reports.proofs.MemberLemmas.{any_first, any_second, first_same, guids, none_after, own}
use Rattle.partition_reports.proofs.ReportedLemmas.{Apart, alone, apart_by_base, count_flat, none_more, one_comes, one_goes, same_sum, kept_apart, weaker_none}
use Rattle.step_results.proofs.ListLemmas.{any_flat}

abbrev pub Alike : Share → Share → Type 0
Alike a b = (a.first.guid ≡ b.first.guid) × ((a.second.guid ≡ b.second.guid) × (a.base ≡ b.base))

pub alike : (a b : Share) → same_share a b ≡ true → Alike a b
alike a b e =
    let p = and_parts (a.first.guid == b.first.guid) ((a.second.guid == b.second.guid) && (a.base == b.base)) e in
    let q = and_parts (a.second.guid == b.second.guid) (a.base == b.base) p.1 in
    (eqb-true a.first.guid b.first.guid p.0, (eqb-true a.second.guid b.second.guid q.0, eqb-true a.base b.base q.1))

share_alike : (v w x : Share) → same_share v w ≡ true → same_share x v ≡ same_share x w
share_alike v w x e =
    let same = alike v w e in
    ap (λ n. (x.first.guid == n) && ((x.second.guid == v.second.guid) && (x.base == v.base))) same.0
    ∙ ap (λ n. (x.first.guid == w.first.guid) && ((x.second.guid == n) && (x.base == v.base))) same.1.0
    ∙ ap (λ n. (x.first.guid == w.first.guid) && ((x.second.guid == w.second.guid) && (x.base == n))) same.1.1

share_joined : (v w x : Share) → same_share x v ≡ true → same_share x w ≡ true → same_share v w ≡ true
share_joined v w x e f =
    let one = alike x v e in
    let two = alike x w f in
    and_from (v.first.guid == w.first.guid) _ (eq-eqb v.first.guid w.first.guid (sym one.0 ∙ two.0))
    (and_from (v.second.guid == w.second.guid) _ (eq-eqb v.second.guid w.second.guid (sym one.1.0 ∙ two.1.0)) (eq-eqb v.base w.base (sym one.1.1 ∙ two.1.1)))

-- ---- two ports
-- two ports have this share
abbrev have : Share → SubnetPort → SubnetPort → Bool
have x p q = list_any (same_share x) (pair_shares p q)

reported_of : (x : Share) (p q : SubnetPort) (base : ℕ) (b : Bool)
    → says same_share x (if b then Some (share_between p q base) else None) ≡ (b && same_share x (share_between p q base))
reported_of x p q base true = refl
reported_of x p q base false = refl

any_kept : (x : Share) (p q : SubnetPort) (bases : List ℕ)
    → list_any (λ base. says same_share x (share_of p q base)) bases ≡ list_any (same_share x) (map (share_between p q) (filter (λ base. shares_base base p.keys q.keys) bases))
any_kept x p q [] = refl
any_kept x p q (base ∷ bases) = elim (cases_Bool (shares_base base p.keys q.keys)) [
  | inl here ↦ rw here (ap (λ b. same_share x (share_between p q base) || b) (any_kept x p q bases))
  | inr other ↦ rw other (any_kept x p q bases)
]

said_is : (x : Share) (p q : SubnetPort) → list_any (λ base. says same_share x (share_of p q base)) (range_with_len 1 32767) ≡ have x p q
unfolding shared_bases
said_is x p q = any_kept x p q (range_with_len 1 32767)

-- what is said of two ports and a base is of them
said_of : (x : Share) (p q : SubnetPort) (base : ℕ) → says same_share x (share_of p q base) ≡ true → Alike x (share_between p q base)
said_of x p q base h =
    let both = and_parts (shares_base base p.keys q.keys) (same_share x (share_between p q base)) (sym (reported_of x p q base (shares_base base p.keys q.keys)) ∙ h) in
    alike x (share_between p q base) both.1

base_of_said : (x : Share) (p q : SubnetPort) (base : ℕ) → says same_share x (share_of p q base) ≡ true → (base == x.base) ≡ true
base_of_said x p q base h = eq-eqb base x.base (sym (said_of x p q base h).1.1)

all_rise : Rises (range_with_len 1 32767)
all_rise = rises (range_with_len 1 32767) (range_rises 1 32767)

pair_goes : (x : Share) (p q : SubnetPort × SubnetPort) → goings same_share x (pair_changes p q) ≡ one_if (have x p.0 q.0 && not (have x p.1 q.1))
unfolding pair_changes
pair_goes x p q =
    count_flat (λ change. not change.comes && same_share x change.what) (share_changes_at p q) (range_with_len 1 32767)
    ∙ same_sum (λ base. goings same_share x (share_changes_at p q base)) (λ base. one_if (says same_share x (share_of p.0 q.0 base) && not (says same_share x (share_of p.1 q.1 base))))
    (λ base. one_goes same_share share_alike share_joined x (share_of p.0 q.0 base) (share_of p.1 q.1 base)) (range_with_len 1 32767)
    ∙ kept_apart (λ base. base == x.base) (λ base. says same_share x (share_of p.0 q.0 base)) (λ base. says same_share x (share_of p.1 q.1 base)) (range_with_len 1 32767)
    (apart_by_base (λ base. says same_share x (share_of p.0 q.0 base)) (λ base. says same_share x (share_of p.1 q.1 base)) x.base (range_with_len 1 32767) all_rise (base_of_said x p.0 q.0) (base_of_said x p.1 q.1))
    ∙ ap (λ b. one_if (b && not (list_any (λ base. says same_share x (share_of p.1 q.1 base)) (range_with_len 1 32767)))) (said_is x p.0 q.0)
    ∙ ap (λ b. one_if (have x p.0 q.0 && not b)) (said_is x p.1 q.1)

pair_comes : (x : Share) (p q : SubnetPort × SubnetPort) → comings same_share x (pair_changes p q) ≡ one_if (have x p.1 q.1 && not (have x p.0 q.0))
unfolding pair_changes
pair_comes x p q =
    count_flat (λ change. change.comes && same_share x change.what) (share_changes_at p q) (range_with_len 1 32767)
    ∙ same_sum (λ base. comings same_share x (share_changes_at p q base)) (λ base. one_if (says same_share x (share_of p.1 q.1 base) && not (says same_share x (share_of p.0 q.0 base))))
    (λ base. one_comes same_share share_alike share_joined x (share_of p.0 q.0 base) (share_of p.1 q.1 base)) (range_with_len 1 32767)
    ∙ kept_apart (λ base. base == x.base) (λ base. says same_share x (share_of p.1 q.1 base)) (λ base. says same_share x (share_of p.0 q.0 base)) (range_with_len 1 32767)
    (apart_by_base (λ base. says same_share x (share_of p.1 q.1 base)) (λ base. says same_share x (share_of p.0 q.0 base)) x.base (range_with_len 1 32767) all_rise (base_of_said x p.1 q.1) (base_of_said x p.0 q.0))
    ∙ ap (λ b. one_if (b && not (list_any (λ base. says same_share x (share_of p.0 q.0 base)) (range_with_len 1 32767)))) (said_is x p.1 q.1)
    ∙ ap (λ b. one_if (have x p.1 q.1 && not b)) (said_is x p.0 q.0)

-- a share of two ports names them
named_by : (x : Share) (p q : SubnetPort) (bases : List ℕ) → list_any (same_share x) (map (share_between p q) bases) ≡ true
    → (x.first.guid ≡ p.guid) × (x.second.guid ≡ q.guid)
named_by x p q [] h = absurd (cc)
named_by x p q (base ∷ bases) h = elim (cases_Bool (same_share x (share_between p q base))) [
  | inl here ↦ let same = alike x (share_between p q base) here in (same.0, same.1.0)
  | inr other ↦ named_by x p q bases (rw other at h)
]

named : (x : Share) (p q : SubnetPort) → have x p q ≡ true → (x.first.guid ≡ p.guid) × (x.second.guid ≡ q.guid)
named x p q h = named_by x p q (shared_bases p.keys q.keys) h

-- ---- one port with those behind it
apart_row : (x : Share) (p p' : SubnetPort) (before after : List SubnetPort) → guids before ≡ guids after → IsDistinct same_guid before
    → Apart (own x.second.guid) (λ q. have x p q.0) (λ q. have x p' q.1) (zip before after)
unfolding Apart IsDistinct
apart_row x p p' [] after same distinct = tt
apart_row x p p' (q ∷ before) [] same distinct = tt
apart_row x p p' (q ∷ before) (r ∷ after) same distinct =
    let parts = first_same q.guid r.guid (guids before) (guids after) same in (
      (
        (λ e. subst (λ (guid : ℕ). list_any (own guid) (zip before after) ≡ false) (eqb-true q.guid x.second.guid e) (none_after q.guid before after distinct.0)),
        ((λ h. eq-eqb q.guid x.second.guid (sym (named x p q h).1)), (λ h. eq-eqb q.guid x.second.guid (parts.0 ∙ sym (named x p' r h).1))),
      ),
      apart_row x p p' before after parts.1 distinct.1,
    )

apart_back : (x : Share) (p p' : SubnetPort) (before after : List SubnetPort) → guids before ≡ guids after → IsDistinct same_guid before
    → Apart (own x.second.guid) (λ q. have x p' q.1) (λ q. have x p q.0) (zip before after)
unfolding Apart IsDistinct
apart_back x p p' [] after same distinct = tt
apart_back x p p' (q ∷ before) [] same distinct = tt
apart_back x p p' (q ∷ before) (r ∷ after) same distinct =
    let parts = first_same q.guid r.guid (guids before) (guids after) same in (
      (
        (λ e. subst (λ (guid : ℕ). list_any (own guid) (zip before after) ≡ false) (eqb-true q.guid x.second.guid e) (none_after q.guid before after distinct.0)),
        ((λ h. eq-eqb q.guid x.second.guid (parts.0 ∙ sym (named x p' r h).1)), (λ h. eq-eqb q.guid x.second.guid (sym (named x p q h).1))),
      ),
      apart_back x p p' before after parts.1 distinct.1,
    )

abbrev row : Share → SubnetPort → List SubnetPort → Bool
row x p ports = list_any (same_share x) (flat_map (pair_shares p) ports)

row_was : (x : Share) (p : SubnetPort) (before after : List SubnetPort) → guids before ≡ guids after → list_any (λ q. have x p q.0) (zip before after) ≡ row x p before
row_was x p before after same = any_first (have x p) before after same ∙ sym (any_flat (same_share x) (pair_shares p) before)

row_becomes : (x : Share) (p : SubnetPort) (before after : List SubnetPort) → guids before ≡ guids after → list_any (λ q. have x p q.1) (zip before after) ≡ row x p after
row_becomes x p before after same = any_second (have x p) before after same ∙ sym (any_flat (same_share x) (pair_shares p) after)

row_goes : (x : Share) (p p' : SubnetPort) (before after : List SubnetPort) → guids before ≡ guids after → IsDistinct same_guid before
    → goings same_share x (flat_map (pair_changes (p, p')) (zip before after)) ≡ one_if (row x p before && not (row x p' after))
row_goes x p p' before after same distinct =
    count_flat (λ change. not change.comes && same_share x change.what) (pair_changes (p, p')) (zip before after)
    ∙ same_sum (λ q. goings same_share x (pair_changes (p, p') q)) (λ q. one_if (have x p q.0 && not (have x p' q.1))) (λ q. pair_goes x (p, p') q) (zip before after)
    ∙ kept_apart (own x.second.guid) (λ q. have x p q.0) (λ q. have x p' q.1) (zip before after) (apart_row x p p' before after same distinct)
    ∙ ap (λ b. one_if (b && not (list_any (λ q. have x p' q.1) (zip before after)))) (row_was x p before after same)
    ∙ ap (λ b. one_if (row x p before && not b)) (row_becomes x p' before after same)

row_comes : (x : Share) (p p' : SubnetPort) (before after : List SubnetPort) → guids before ≡ guids after → IsDistinct same_guid before
    → comings same_share x (flat_map (pair_changes (p, p')) (zip before after)) ≡ one_if (row x p' after && not (row x p before))
row_comes x p p' before after same distinct =
    count_flat (λ change. change.comes && same_share x change.what) (pair_changes (p, p')) (zip before after)
    ∙ same_sum (λ q. comings same_share x (pair_changes (p, p') q)) (λ q. one_if (have x p' q.1 && not (have x p q.0))) (λ q. pair_comes x (p, p') q) (zip before after)
    ∙ kept_apart (own x.second.guid) (λ q. have x p' q.1) (λ q. have x p q.0) (zip before after) (apart_back x p p' before after same distinct)
    ∙ ap (λ b. one_if (b && not (list_any (λ q. have x p q.0) (zip before after)))) (row_becomes x p' before after same)
    ∙ ap (λ b. one_if (row x p' after && not b)) (row_was x p before after same)

-- ---- all ports
row_named : (x : Share) (p : SubnetPort) (ports : List SubnetPort) → row x p ports ≡ true → x.first.guid ≡ p.guid
row_named x p [] h = absurd (cc)
row_named x p (q ∷ ports) h = elim (cases_Bool (have x p q)) [
  | inl here ↦ (named x p q here).0
  | inr other ↦ row_named x p ports (later (have x p q) (row x p ports) other (sym (list_any-append (same_share x) (pair_shares p q) (flat_map (pair_shares p) ports)) ∙ h))
]
  where
    later : (a b : Bool) → a ≡ false → (a || b) ≡ true → b ≡ true
    later true b e h = absurd (cc)
    later false b e h = h

none_behind : (x : Share) (ports : List SubnetPort) → AllByRecursion (λ port. (x.first.guid == port.guid) ≡ false) ports → has_share ports x ≡ false
none_behind x [] all = refl
none_behind x (p ∷ ports) all =
    let here : row x p ports ≡ false = weaker_none (row x p ports) (x.first.guid == p.guid) (λ h. eq-eqb x.first.guid p.guid (row_named x p ports h)) all.0 in
    list_any-append (same_share x) (flat_map (pair_shares p) ports) (shares ports) ∙ (rw (here, none_behind x ports all.1) refl)

as_guids : (guid : ℕ) (before after : List SubnetPort) → guids before ≡ guids after → AllByRecursion (λ port. (guid == port.guid) ≡ false) before
    → AllByRecursion (λ port. (guid == port.guid) ≡ false) after
as_guids guid [] [] same all = tt
as_guids guid [] (q ∷ after) same all = absurd (cc)
as_guids guid (p ∷ before) [] same all = tt
as_guids guid (p ∷ before) (q ∷ after) same all =
    let parts = first_same p.guid q.guid (guids before) (guids after) same in
    (subst (λ (n : ℕ). (guid == n) ≡ false) parts.0 all.0, as_guids guid before after parts.1 all.1)

split : (x : Share) (p : SubnetPort) (ports : List SubnetPort) → has_share (p ∷ ports) x ≡ (row x p ports || has_share ports x)
split x p ports = list_any-append (same_share x) (flat_map (pair_shares p) ports) (shares ports)

pub all_go : (x : Share) (before after : List SubnetPort) → guids before ≡ guids after → IsDistinct same_guid before
    → goings same_share x (share_changes (zip before after)) ≡ one_if (has_share before x && not (has_share after x))
unfolding IsDistinct
all_go x [] [] same distinct = refl
all_go x [] (q ∷ after) same distinct = absurd (cc)
all_go x (p ∷ before) [] same distinct = absurd (cc)
all_go x (p ∷ before) (q ∷ after) same distinct =
    let parts = first_same p.guid q.guid (guids before) (guids after) same in
    sum_by-append (λ change. one_if (not change.comes && same_share x change.what)) (flat_map (pair_changes (p, q)) (zip before after)) (share_changes (zip before after))
    ∙ ap (λ n. n + goings same_share x (share_changes (zip before after))) (row_goes x p q before after parts.1 distinct.1)
    ∙ ap (λ n. one_if (row x p before && not (row x q after)) + n) (all_go x before after parts.1 distinct.1)
    ∙ by (row x p before) (row x q after) (has_share before x) (has_share after x) (x.first.guid == p.guid) refl
    (λ h. eq-eqb x.first.guid p.guid (row_named x p before h)) (λ h. eq-eqb x.first.guid p.guid (row_named x q after h ∙ sym parts.0))
    (λ e. none_behind x before (moved (eqb-true x.first.guid p.guid e)))
    (λ e. none_behind x after (as_guids x.first.guid before after parts.1 (moved (eqb-true x.first.guid p.guid e))))
    ∙ sym (ap (λ b. one_if (b && not (has_share (q ∷ after) x))) (split x p before) ∙ ap (λ b. one_if ((row x p before || has_share before x) && not b)) (split x q after))
  where
    moved : x.first.guid ≡ p.guid → AllByRecursion (λ port. (x.first.guid == port.guid) ≡ false) before
    moved e = subst (λ (n : ℕ). AllByRecursion (λ port. (n == port.guid) ≡ false) before) (sym e) distinct.0

    by : (a a' b b' own : Bool) → (x.first.guid == p.guid) ≡ own → (a ≡ true → (x.first.guid == p.guid) ≡ true) → (a' ≡ true → (x.first.guid == p.guid) ≡ true)
        → ((x.first.guid == p.guid) ≡ true → b ≡ false) → ((x.first.guid == p.guid) ≡ true → b' ≡ false)
        → one_if (a && not a') + one_if (b && not b') ≡ one_if ((a || b) && not (a' || b'))
    by a a' b b' true e f f' g g' = rw (g e, g' e) (alone a a')
    by a a' b b' false e f f' g g' = let one = weaker_none a (x.first.guid == p.guid) f e in let two = weaker_none a' (x.first.guid == p.guid) f' e in rw (one, two) (none_more (one_if (b && not b')))

pub all_come : (x : Share) (before after : List SubnetPort) → guids before ≡ guids after → IsDistinct same_guid before
    → comings same_share x (share_changes (zip before after)) ≡ one_if (has_share after x && not (has_share before x))
unfolding IsDistinct
all_come x [] [] same distinct = refl
all_come x [] (q ∷ after) same distinct = absurd (cc)
all_come x (p ∷ before) [] same distinct = absurd (cc)
all_come x (p ∷ before) (q ∷ after) same distinct =
    let parts = first_same p.guid q.guid (guids before) (guids after) same in
    sum_by-append (λ change. one_if (change.comes && same_share x change.what)) (flat_map (pair_changes (p, q)) (zip before after)) (share_changes (zip before after))
    ∙ ap (λ n. n + comings same_share x (share_changes (zip before after))) (row_comes x p q before after parts.1 distinct.1)
    ∙ ap (λ n. one_if (row x q after && not (row x p before)) + n) (all_come x before after parts.1 distinct.1)
    ∙ by (row x q after) (row x p before) (has_share after x) (has_share before x) (x.first.guid == p.guid) refl
    (λ h. eq-eqb x.first.guid p.guid (row_named x q after h ∙ sym parts.0)) (λ h. eq-eqb x.first.guid p.guid (row_named x p before h))
    (λ e. none_behind x after (as_guids x.first.guid before after parts.1 (moved (eqb-true x.first.guid p.guid e))))
    (λ e. none_behind x before (moved (eqb-true x.first.guid p.guid e)))
    ∙ sym (ap (λ b. one_if (b && not (has_share (p ∷ before) x))) (split x q after) ∙ ap (λ b. one_if ((row x q after || has_share after x) && not b)) (split x p before))
  where
    moved : x.first.guid ≡ p.guid → AllByRecursion (λ port. (x.first.guid == port.guid) ≡ false) before
    moved e = subst (λ (n : ℕ). AllByRecursion (λ port. (n == port.guid) ≡ false) before) (sym e) distinct.0

    by : (a a' b b' own : Bool) → (x.first.guid == p.guid) ≡ own → (a ≡ true → (x.first.guid == p.guid) ≡ true) → (a' ≡ true → (x.first.guid == p.guid) ≡ true)
        → ((x.first.guid == p.guid) ≡ true → b ≡ false) → ((x.first.guid == p.guid) ≡ true → b' ≡ false)
        → one_if (a && not a') + one_if (b && not b') ≡ one_if ((a || b) && not (a' || b'))
    by a a' b b' true e f f' g g' = rw (g e, g' e) (alone a a')
    by a a' b b' false e f f' g g' = let one = weaker_none a (x.first.guid == p.guid) f e in let two = weaker_none a' (x.first.guid == p.guid) f' e in rw (one, two) (none_more (one_if (b && not b')))

pub shares_are_reported : SharesAreReported
shares_are_reported before after are = record {
  gone = λ x. all_go x before after are.same are.own;
  come = λ x. all_come x before after are.same are.own;
}
