-- Members that go or come are printed, where the ports are the same.
use Rattle.std.proofs.Common.{◌≡◌, ℕ, Bool, true, false, not, ◌==◌, ◌&&◌, ◌||◌, List, [], ◌∷◌, ◌++◌, map, option_map, refl, sym, ap, ◌∙◌, inl, inr, subst, arith}
use Rattle.std.specs.List.{AllByRecursion, IsDistinct, flat_map, list_any, zip}
use Rattle.std.proofs.lemmas.Bool.{and_from, and_parts, cases_Bool, eq-eqb, eqb-true}
use Rattle.std.proofs.lemmas.Bool.Decides.{nat_tests}
use Rattle.pkey_rules.specs.KeyTable.{find_base}
use Rattle.pkey_rules.specs.PKey.{base_of}
use Rattle.subnet_model.specs.declared.subnet_port.SubnetPort.{SubnetPort}
use Rattle.partition_reports.specs.Changes.{bases_named, member_changes_at, member_of, same_member}
use Rattle.partition_reports.specs.ChangeLaws.{AreSamePorts, MembersAreReported, comings, goings, has_member, is_of, one_if, same_guid, says}
use Rattle.partition_reports.proofs.ChangedBaseLemmas.{rising_rises}
use Rattle.partition_reports.proofs.ReportedLemmas.{Apart, apart_by_base, count_flat, one_comes, one_goes, only_one, same_sum, kept_apart}

abbrev Member : Type 0
Member = SubnetPort × ℕ

member_alike : (v w x : Member) → same_member v w ≡ true → same_member x v ≡ same_member x w
member_alike v w x e =
    let p = and_parts (v.0.guid == w.0.guid) (v.1 == w.1) e in
    ap (λ n. (x.0.guid == n) && (x.1 == v.1)) (eqb-true v.0.guid w.0.guid p.0) ∙ ap (λ n. (x.0.guid == w.0.guid) && (x.1 == n)) (eqb-true v.1 w.1 p.1)

member_joined : (v w x : Member) → same_member x v ≡ true → same_member x w ≡ true → same_member v w ≡ true
member_joined v w x e f =
    let p = and_parts (x.0.guid == v.0.guid) (x.1 == v.1) e in
    let q = and_parts (x.0.guid == w.0.guid) (x.1 == w.1) f in
    and_from (v.0.guid == w.0.guid) (v.1 == w.1) (eq-eqb v.0.guid w.0.guid (sym (eqb-true x.0.guid v.0.guid p.0) ∙ eqb-true x.0.guid w.0.guid q.0))
    (eq-eqb v.1 w.1 (sym (eqb-true x.1 v.1 p.1) ∙ eqb-true x.1 w.1 q.1))

-- a member that is found is of that port and that base
member_says : (base : ℕ) (port : SubnetPort) (x : Member) (keys : List ℕ) → says same_member x (option_map (λ key. (port, key)) (find_base base keys)) ≡ true
    → (x.0.guid ≡ port.guid) × (base_of x.1 ≡ base)
member_says base port x [] h = absurd (cc)
member_says base port x (key ∷ keys) h = elim (cases_Bool (base_of key == base)) [
  | inl here ↦
      let said : same_member x (port, key) ≡ true = rw here at h in
      let p = and_parts (x.0.guid == port.guid) (x.1 == key) said in
      (eqb-true x.0.guid port.guid p.0, ap base_of (eqb-true x.1 key p.1) ∙ eqb-true (base_of key) base here)
  | inr other ↦ member_says base port x keys (rw other at h)
]

-- ---- ports side by side
abbrev pub own : ℕ → SubnetPort × SubnetPort → Bool
own guid both = both.0.guid == guid

pub none_after : (guid : ℕ) (ports others : List SubnetPort) → AllByRecursion (λ port. (guid == port.guid) ≡ false) ports → list_any (own guid) (zip ports others) ≡ false
none_after guid [] others all = refl
none_after guid (port ∷ ports) [] all = refl
none_after guid (port ∷ ports) (other ∷ others) all =
    let differ : (port.guid == guid) ≡ false = turned (port.guid) guid all.0 in
    rw (differ, none_after guid ports others all.1) refl
  where
    turned : (a b : ℕ) → (b == a) ≡ false → (a == b) ≡ false
    turned a b e = grind (arith, nat_tests)

abbrev pub guids : List SubnetPort → List ℕ
guids ports = map (λ port. port.guid) ports

pub first_same : (a b : ℕ) (ms ns : List ℕ) → a ∷ ms ≡ b ∷ ns → (a ≡ b) × (ms ≡ ns)
first_same a b ms ns e = (cc, cc)

apart_ports : (x : Member) (base : ℕ) (before after : List SubnetPort) → guids before ≡ guids after → IsDistinct same_guid before
    → Apart (own x.0.guid) (λ both. says same_member x (member_of base both.0)) (λ both. says same_member x (member_of base both.1)) (zip before after)
unfolding Apart IsDistinct
apart_ports x base [] after same distinct = tt
apart_ports x base (port ∷ before) [] same distinct = tt
apart_ports x base (port ∷ before) (other ∷ after) same distinct =
    let parts = first_same port.guid other.guid (guids before) (guids after) same in (
      (
        (λ e. subst (λ (guid : ℕ). list_any (own guid) (zip before after) ≡ false) (eqb-true port.guid x.0.guid e) (none_after port.guid before after distinct.0)),
        (
          (λ h. eq-eqb port.guid x.0.guid (sym (member_says base port x port.keys h).0)),
          (λ h. eq-eqb port.guid x.0.guid (parts.0 ∙ sym (member_says base other x other.keys h).0)),
        ),
      ),
      apart_ports x base before after parts.1 distinct.1,
    )

pub any_first : (f : SubnetPort → Bool) (before after : List SubnetPort) → guids before ≡ guids after → list_any (λ both. f both.0) (zip before after) ≡ list_any f before
any_first f [] after same = refl
any_first f (port ∷ before) [] same = absurd (cc)
any_first f (port ∷ before) (other ∷ after) same = ap (λ b. f port || b) (any_first f before after (first_same port.guid other.guid (guids before) (guids after) same).1)

pub any_second : (f : SubnetPort → Bool) (before after : List SubnetPort) → guids before ≡ guids after → list_any (λ both. f both.1) (zip before after) ≡ list_any f after
any_second f [] [] same = refl
any_second f [] (other ∷ after) same = absurd (cc)
any_second f (port ∷ before) [] same = absurd (cc)
any_second f (port ∷ before) (other ∷ after) same = ap (λ b. f other || b) (any_second f before after (first_same port.guid other.guid (guids before) (guids after) same).1)

-- ---- of one base
abbrev held : Member → ℕ → SubnetPort → Bool
held x base port = says same_member x (member_of base port)

go_at : (x : Member) (base : ℕ) (before after : List SubnetPort) → AreSamePorts before after
    → goings same_member x (flat_map (member_changes_at base) (zip before after)) ≡ one_if (list_any (held x base) before && not (list_any (held x base) after))
go_at x base before after are =
    count_flat (λ change. not change.comes && same_member x change.what) (member_changes_at base) (zip before after)
    ∙ same_sum (λ both. goings same_member x (member_changes_at base both)) (λ both. one_if (held x base both.0 && not (held x base both.1)))
    (λ both. one_goes same_member member_alike member_joined x (member_of base both.0) (member_of base both.1)) (zip before after)
    ∙ kept_apart (own x.0.guid) (λ both. held x base both.0) (λ both. held x base both.1) (zip before after) (apart_ports x base before after are.same are.own)
    ∙ ap (λ b. one_if (b && not (list_any (λ both. held x base both.1) (zip before after)))) (any_first (held x base) before after are.same)
    ∙ ap (λ b. one_if (list_any (held x base) before && not b)) (any_second (held x base) before after are.same)

swapped_apart : (x : Member) (base : ℕ) (before after : List SubnetPort) → guids before ≡ guids after → IsDistinct same_guid before
    → Apart (own x.0.guid) (λ both. says same_member x (member_of base both.1)) (λ both. says same_member x (member_of base both.0)) (zip before after)
unfolding Apart IsDistinct
swapped_apart x base [] after same distinct = tt
swapped_apart x base (port ∷ before) [] same distinct = tt
swapped_apart x base (port ∷ before) (other ∷ after) same distinct =
    let parts = first_same port.guid other.guid (guids before) (guids after) same in (
      (
        (λ e. subst (λ (guid : ℕ). list_any (own guid) (zip before after) ≡ false) (eqb-true port.guid x.0.guid e) (none_after port.guid before after distinct.0)),
        (
          (λ h. eq-eqb port.guid x.0.guid (parts.0 ∙ sym (member_says base other x other.keys h).0)),
          (λ h. eq-eqb port.guid x.0.guid (sym (member_says base port x port.keys h).0)),
        ),
      ),
      swapped_apart x base before after parts.1 distinct.1,
    )

come_at : (x : Member) (base : ℕ) (before after : List SubnetPort) → AreSamePorts before after
    → comings same_member x (flat_map (member_changes_at base) (zip before after)) ≡ one_if (list_any (held x base) after && not (list_any (held x base) before))
come_at x base before after are =
    count_flat (λ change. change.comes && same_member x change.what) (member_changes_at base) (zip before after)
    ∙ same_sum (λ both. comings same_member x (member_changes_at base both)) (λ both. one_if (held x base both.1 && not (held x base both.0)))
    (λ both. one_comes same_member member_alike member_joined x (member_of base both.0) (member_of base both.1)) (zip before after)
    ∙ kept_apart (own x.0.guid) (λ both. held x base both.1) (λ both. held x base both.0) (zip before after) (swapped_apart x base before after are.same are.own)
    ∙ ap (λ b. one_if (b && not (list_any (λ both. held x base both.0) (zip before after)))) (any_second (held x base) before after are.same)
    ∙ ap (λ b. one_if (list_any (held x base) after && not b)) (any_first (held x base) before after are.same)

-- ---- of all bases
of_base : (x : Member) (ports : List SubnetPort) (base : ℕ) → list_any (held x base) ports ≡ true → (base == base_of x.1) ≡ true
of_base x [] base h = absurd (cc)
of_base x (port ∷ ports) base h = elim (cases_Bool (held x base port)) [
  | inl here ↦ eq-eqb base (base_of x.1) (sym (member_says base port x port.keys here).1)
  | inr other ↦ of_base x ports base (rw other at h)
]

pub members_are_reported : MembersAreReported
members_are_reported before after headings others are =
    let bases : List ℕ = bases_named headings others in
    let zs = zip before after in
    record {
      gone = λ x.
          count_flat (λ change. not change.comes && same_member x change.what) (λ base. flat_map (member_changes_at base) zs) bases
          ∙ same_sum (λ base. goings same_member x (flat_map (member_changes_at base) zs)) (λ base. one_if (list_any (held x base) before && not (list_any (held x base) after))) (λ base. go_at x base before after are) bases
          ∙ kept_apart (λ base. base == base_of x.1) (λ base. list_any (held x base) before) (λ base. list_any (held x base) after) bases
          (apart_by_base (λ base. list_any (held x base) before) (λ base. list_any (held x base) after) (base_of x.1) bases (rising_rises (headings ++ others)) (of_base x before) (of_base x after))
          ∙ ap (λ b. one_if (b && not (list_any (λ base. list_any (held x base) after) bases))) (only_one (λ base. list_any (held x base) before) (base_of x.1) bases (of_base x before))
          ∙ ap (λ b. one_if ((is_of bases x && has_member before x) && not b)) (only_one (λ base. list_any (held x base) after) (base_of x.1) bases (of_base x after));
      come = λ x.
          count_flat (λ change. change.comes && same_member x change.what) (λ base. flat_map (member_changes_at base) zs) bases
          ∙ same_sum (λ base. comings same_member x (flat_map (member_changes_at base) zs)) (λ base. one_if (list_any (held x base) after && not (list_any (held x base) before))) (λ base. come_at x base before after are) bases
          ∙ kept_apart (λ base. base == base_of x.1) (λ base. list_any (held x base) after) (λ base. list_any (held x base) before) bases
          (apart_by_base (λ base. list_any (held x base) after) (λ base. list_any (held x base) before) (base_of x.1) bases (rising_rises (headings ++ others)) (of_base x after) (of_base x before))
          ∙ ap (λ b. one_if (b && not (list_any (λ base. list_any (held x base) before) bases))) (only_one (λ base. list_any (held x base) after) (base_of x.1) bases (of_base x after))
          ∙ ap (λ b. one_if ((is_of bases x && has_member after x) && not b)) (only_one (λ base. list_any (held x base) before) (base_of x.1) bases (of_base x before));
    }
