-- Partitions, groups and members: what says the same, and of which base it is.
use Rattle.std.proofs.Common.{◌≡◌, ℕ, true, ◌==◌, ◌&&◌, ◌||◌, List, [], ◌∷◌, ◌++◌, Option, Some, None, is_some, get_or, option_map, position, slice_get, refl, sym, ap, ◌∙◌, inl, inr}
use Rattle.std.specs.List.{list_any}
use Rattle.std.specs.Option.{option_and_then}
use Rattle.std.specs.Str.{bytes_eq}
use Rattle.std.proofs.lemmas.Bool.{and_from, and_parts, cases_Bool, eq-eqb, eqb-true, or_left, or_right}
use Rattle.std.proofs.lemmas.List.Folds.{list_any-append, list_any_at}
use Rattle.std.proofs.lemmas.List.Quantifiers.{position-Some}
use Rattle.std.proofs.lemmas.Option.{get_or_from_slice_get}
use Rattle.std.proofs.lemmas.Slice.Eq.{bytes_eq-Decides}
use Rattle.std.specs.Cmp.{both_ways}
use Rattle.partition_file.specs.declared.broadcast_group.BroadcastGroup.{BroadcastGroup}
use Rattle.partition_file.specs.declared.heading.Heading.{Heading}
use Rattle.partition_reports.specs.Changes.{bases_named, grouped, partition_of, same_fields, same_group, same_groups, same_partition}
use Rattle.partition_reports.specs.ChangeLaws.{GroupsAreReported, PartitionsAreReported, says}
use Rattle.partition_reports.proofs.ChangedBaseLemmas.{rising_rises, rising_there}
use Rattle.partition_reports.proofs.ReportedLemmas.{by_bases}

-- ---- partitions
abbrev pub Alike : ℕ × Heading → ℕ × Heading → Type 0
Alike a b = (a.0 ≡ b.0) × ((a.1.base ≡ b.1.base) × (a.1.name ≡ b.1.name))

pub alike : (a b : ℕ × Heading) → same_partition a b ≡ true → Alike a b
alike a b e =
    let p = and_parts (a.0 == b.0) ((a.1.base == b.1.base) && bytes_eq a.1.name b.1.name) e in
    let q = and_parts (a.1.base == b.1.base) (bytes_eq a.1.name b.1.name) p.1 in
    (eqb-true a.0 b.0 p.0, (eqb-true a.1.base b.1.base q.0, (bytes_eq-Decides a.1.name b.1.name).0 q.1))

pub same_if : (a b : ℕ × Heading) → Alike a b → same_partition a b ≡ true
same_if a b e =
    and_from (a.0 == b.0) _ (eq-eqb a.0 b.0 e.0) (and_from (a.1.base == b.1.base) _ (eq-eqb a.1.base b.1.base e.1.0) ((bytes_eq-Decides a.1.name b.1.name).1 e.1.1))

partition_alike : (v w x : ℕ × Heading) → same_partition v w ≡ true → same_partition x v ≡ same_partition x w
partition_alike v w x e =
    let same = alike v w e in
    ap (λ n. (x.0 == n) && ((x.1.base == v.1.base) && bytes_eq x.1.name v.1.name)) same.0
    ∙ ap (λ n. (x.0 == w.0) && ((x.1.base == n) && bytes_eq x.1.name v.1.name)) same.1.0
    ∙ ap (λ name. (x.0 == w.0) && ((x.1.base == w.1.base) && bytes_eq x.1.name name)) same.1.1

partition_joined : (v w x : ℕ × Heading) → same_partition x v ≡ true → same_partition x w ≡ true → same_partition v w ≡ true
partition_joined v w x e f =
    let one = alike x v e in
    let two = alike x w f in
    same_if v w (sym one.0 ∙ two.0, (sym one.1.0 ∙ two.1.0, sym one.1.1 ∙ two.1.1))

-- a partition that is found is there, and of that base
found_at : (headings : List Heading) (k : ℕ) (x : ℕ × Heading) → says same_partition x (partition_of headings k) ≡ true
    → (list_any (λ heading. heading.base == k) headings ≡ true) × (x.1.base ≡ k)
found_at headings k x h = by (position (λ heading. heading.base == k) headings) refl h
  where
    here : (number : ℕ) → position (λ heading. heading.base == k) headings ≡ Some number
        → (found : Option Heading) → slice_get headings number ≡ found
        → says same_partition x (option_map (λ heading. (number, heading)) found) ≡ true
        → (list_any (λ heading. heading.base == k) headings ≡ true) × (x.1.base ≡ k)
    here number at None e h = absurd (cc)
    here number at (Some heading) e h =
        let there = position-Some (λ heading. heading.base == k) headings number heading at in
        let is : get_or headings number heading ≡ heading = get_or_from_slice_get headings number heading heading e in
        let same = alike x (number, heading) h in (
          list_any_at (λ heading. heading.base == k) headings number heading there.0 there.1,
          same.1.0 ∙ ap (λ (found : Heading). found.base) (sym is) ∙ eqb-true (get_or headings number heading).base k there.1,
        )

    by : (place : Option ℕ) → position (λ heading. heading.base == k) headings ≡ place
        → says same_partition x (option_and_then (λ number. option_map (λ heading. (number, heading)) (slice_get headings number)) place) ≡ true
        → (list_any (λ heading. heading.base == k) headings ≡ true) × (x.1.base ≡ k)
    by None e h = absurd (cc)
    by (Some number) e h = here number e (slice_get headings number) refl h

of_either : (before after : List Heading) (n : ℕ) → (list_any (λ heading. heading.base == n) before || list_any (λ heading. heading.base == n) after) ≡ true
    → list_any (λ base. base == n) (bases_named before after) ≡ true
of_either before after n h = rising_there (before ++ after) n ∙ list_any-append (λ heading. heading.base == n) before after ∙ h

pub partitions_are_reported : PartitionsAreReported
partitions_are_reported before after =
    by_bases same_partition partition_alike partition_joined (λ x. x.1.base) (partition_of before) (partition_of after) (bases_named before after) (rising_rises (before ++ after))
    (λ k x h. eq-eqb k x.1.base (sym (found_at before k x h).1)) (λ k x h. eq-eqb k x.1.base (sym (found_at after k x h).1))
    (λ x h. of_either before after x.1.base (or_left (list_any (λ heading. heading.base == x.1.base) before) (list_any (λ heading. heading.base == x.1.base) after) (found_at before x.1.base x h).0))
    (λ x h. of_either before after x.1.base (or_right (list_any (λ heading. heading.base == x.1.base) before) (list_any (λ heading. heading.base == x.1.base) after) (found_at after x.1.base x h).0))

-- ---- groups
abbrev pub AlikeFields : BroadcastGroup → BroadcastGroup → Type 0
AlikeFields a b = (a.scope ≡ b.scope) × ((a.q_key ≡ b.q_key) × ((a.mtu ≡ b.mtu) × ((a.rate ≡ b.rate) × (a.service_level ≡ b.service_level))))

pub fields_alike : (a b : BroadcastGroup) → same_fields a b ≡ true → AlikeFields a b
fields_alike a b e =
    let p = and_parts (a.scope == b.scope) _ e in
    let q = and_parts (a.q_key == b.q_key) _ p.1 in
    let r = and_parts (a.mtu == b.mtu) _ q.1 in
    let s = and_parts (a.rate == b.rate) (a.service_level == b.service_level) r.1 in
    (eqb-true a.scope b.scope p.0, (eqb-true a.q_key b.q_key q.0, (eqb-true a.mtu b.mtu r.0, (eqb-true a.rate b.rate s.0, eqb-true a.service_level b.service_level s.1))))

pub fields_if : (a b : BroadcastGroup) → AlikeFields a b → same_fields a b ≡ true
fields_if a b e =
    and_from (a.scope == b.scope) _ (eq-eqb a.scope b.scope e.0) (and_from (a.q_key == b.q_key) _ (eq-eqb a.q_key b.q_key e.1.0)
    (and_from (a.mtu == b.mtu) _ (eq-eqb a.mtu b.mtu e.1.1.0) (and_from (a.rate == b.rate) _ (eq-eqb a.rate b.rate e.1.1.1.0) (eq-eqb a.service_level b.service_level e.1.1.1.1))))

groups_joined : (v w x : Option BroadcastGroup) → same_groups x v ≡ true → same_groups x w ≡ true → same_groups v w ≡ true
groups_joined v w None e f = absurd (cc)
groups_joined None w (Some x) e f = absurd (cc)
groups_joined (Some v) None (Some x) e f = absurd (cc)
groups_joined (Some v) (Some w) (Some x) e f =
    let one = fields_alike x v e in
    let two = fields_alike x w f in
    fields_if v w (sym one.0 ∙ two.0, (sym one.1.0 ∙ two.1.0, (sym one.1.1.0 ∙ two.1.1.0, (sym one.1.1.1.0 ∙ two.1.1.1.0, sym one.1.1.1.1 ∙ two.1.1.1.1))))

groups_turned : (a b : Option BroadcastGroup) → same_groups a b ≡ true → same_groups b a ≡ true
groups_turned None b e = absurd (cc)
groups_turned (Some a) None e = absurd (cc)
groups_turned (Some a) (Some b) e =
    let one = fields_alike a b e in
    fields_if b a (sym one.0, (sym one.1.0, (sym one.1.1.0, (sym one.1.1.1.0, sym one.1.1.1.1))))

group_joined : (v w x : Heading) → same_group x v ≡ true → same_group x w ≡ true → same_group v w ≡ true
group_joined v w x e f =
    let one = and_parts (x.base == v.base) (same_groups x.group v.group) e in
    let two = and_parts (x.base == w.base) (same_groups x.group w.group) f in
    and_from (v.base == w.base) (same_groups v.group w.group) (eq-eqb v.base w.base (sym (eqb-true x.base v.base one.0) ∙ eqb-true x.base w.base two.0)) (groups_joined v.group w.group x.group one.1 two.1)

group_turned : (a b : Heading) → same_group a b ≡ true → same_group b a ≡ true
group_turned a b e =
    let one = and_parts (a.base == b.base) (same_groups a.group b.group) e in
    and_from (b.base == a.base) (same_groups b.group a.group) (eq-eqb b.base a.base (sym (eqb-true a.base b.base one.0))) (groups_turned a.group b.group one.1)

group_alike : (v w x : Heading) → same_group v w ≡ true → same_group x v ≡ same_group x w
group_alike v w x e =
    both_ways (same_group x v) (same_group x w) (λ f. group_joined x w v (group_turned x v f) e) (λ f. group_joined x v w (group_turned x w f) (group_turned v w e))

grouped_at : (headings : List Heading) (k : ℕ) (x : Heading) → says same_group x (grouped headings k) ≡ true
    → (list_any (λ heading. heading.base == k) headings ≡ true) × (x.base ≡ k)
grouped_at [] k x h = absurd (cc)
grouped_at (heading ∷ headings) k x h = elim (cases_Bool ((heading.base == k) && is_some heading.group)) [
  | inl here ↦
      let one = and_parts (heading.base == k) (is_some heading.group) here in
      let said : same_group x heading ≡ true = rw here at h in
      let same = and_parts (x.base == heading.base) (same_groups x.group heading.group) said in
      (or_left (heading.base == k) (list_any (λ heading. heading.base == k) headings) one.0, eqb-true x.base heading.base same.0 ∙ eqb-true heading.base k one.0)
  | inr other ↦
      let rest = grouped_at headings k x (rw other at h) in
      (or_right (heading.base == k) (list_any (λ heading. heading.base == k) headings) rest.0, rest.1)
]

pub groups_are_reported : GroupsAreReported
groups_are_reported before after =
    by_bases same_group group_alike group_joined (λ x. x.base) (grouped before) (grouped after) (bases_named before after) (rising_rises (before ++ after))
    (λ k x h. eq-eqb k x.base (sym (grouped_at before k x h).1)) (λ k x h. eq-eqb k x.base (sym (grouped_at after k x h).1))
    (λ x h. of_either before after x.base (or_left (list_any (λ heading. heading.base == x.base) before) (list_any (λ heading. heading.base == x.base) after) (grouped_at before x.base x h).0))
    (λ x h. of_either before after x.base (or_right (list_any (λ heading. heading.base == x.base) before) (list_any (λ heading. heading.base == x.base) after) (grouped_at after x.base x h).0))
