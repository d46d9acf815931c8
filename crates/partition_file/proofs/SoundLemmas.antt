-- What is so of all partitions that definitions make.
use Rattle.std.proofs.Common.{◌≡◌, lit≤, ℕ, zero, suc, ◌+◌, ◌<◌, ◌≤◌, Bool, true, false, cond, not, ◌==◌, ◌||◌, ◌⊎◌, inl, inr, nat_eq, List, [], ◌∷◌}
use Rattle.std.proofs.Common.{◌++◌, length, map, Option, Some, None, is_none, refl, sym, ap, subst, ◌∙◌, arith, length-append, nat_le, option_map}
use Rattle.std.specs.List.{IsDistinct, count_by, filter_map, find, fold, list_all, list_any, range_with_len, slice_get}
use Rattle.std.specs.Option.{option_map, unwrap_or}
use Rattle.std.proofs.lemmas.Bool.{and_from, and_parts, eqb-true}
use Rattle.std.proofs.lemmas.Bool.Decides.{nat_tests}
use Rattle.std.proofs.lemmas.Cmp.{nat_eq_equiv}
use Rattle.std.proofs.lemmas.List.{length-map}
use Rattle.std.proofs.lemmas.List.Folds.{list_all-append}
use Rattle.std.proofs.lemmas.List.Sums.{sum_by-cons}
use Rattle.std.proofs.lemmas.Map.Keys.{IsDistinct-push}
use Rattle.step_results.proofs.TestLemmas.{same_either_way}
use Rattle.pkey_rules.specs.PKey.{default_base, is_base}
use Rattle.partition_file.specs.declared.definition.Definition.{Definition}
use Rattle.partition_file.specs.declared.partition.Partition.{Partition}
use Rattle.partition_file.specs.Counting.{has_base, bases_given, named, partition_count, with_base}
use Rattle.partition_file.specs.Partitions.{RuleState, group_by, group_of, makes_group, base_for, bases_of, first_free, least_free, partition_of}
use Rattle.partition_file.specs.Partitions.{partitions_in, rules_after, rules_of, taken_after}
use Rattle.pkey_rules.specs.declared.key_table.TheConstants.{PARTITIONS}
use Rattle.partition_file.specs.declared.flag.Flag.TheVariants.{Rate, Mtu, ServiceLevel, Scope}
use Rattle.partition_file.specs.declared.flag.Flags.{Flags}
use Rattle.partition_file.specs.Flags.{greatest}
use Rattle.partition_file.specs.Sound.{AreSound, AreSoundBases, IsSound, are_within, fits, has_fit_group, is_within, all_bases, is_sound_base}

-- ---- bases alone
abbrev pub bases_after : List ℕ → List (Option ℕ) → List ℕ
bases_after taken [] = []
bases_after taken (given ∷ rest) = base_for taken given ∷ bases_after (taken_after taken given) rest

bases_of_rules : (taken : List ℕ) (definitions : List Definition) → map (λ rule. rule.base) (rules_after taken definitions) ≡ bases_after taken (bases_given definitions)
bases_of_rules taken [] = refl
bases_of_rules taken (definition ∷ rest) = ap (λ (bases : List ℕ). base_for taken definition.base ∷ bases) (bases_of_rules (taken_after taken definition.base) rest)

bases_of_partitions : (rules : List RuleState) (bases : List ℕ) → all_bases (map (partition_of rules) bases) ≡ bases
bases_of_partitions rules [] = refl
bases_of_partitions rules (base ∷ bases) = ap (λ (rest : List ℕ). base ∷ rest) (bases_of_partitions rules bases)

-- ---- no base twice
has_base-any : (base : ℕ) (seen : List ℕ) → has_base base seen ≡ list_any (nat_eq base) seen
has_base-any base [] = refl
has_base-any base (other ∷ seen) = rw (same_either_way other base, has_base-any base seen) refl

distinct_by : (seen : List ℕ) (base : ℕ) (b : Bool) → has_base base seen ≡ b → IsDistinct nat_eq seen → IsDistinct nat_eq (cond b seen (seen ++ base ∷ []))
distinct_by seen base true e h = h
distinct_by seen base false e h = IsDistinct-push nat_eq_equiv seen base h (sym (has_base-any base seen) ∙ e)

distinct_all : (bases seen : List ℕ) → IsDistinct nat_eq seen → IsDistinct nat_eq (fold with_base seen bases)
distinct_all [] seen h = h
distinct_all (base ∷ bases) seen h = distinct_all bases (with_base seen base) (distinct_by seen base (has_base base seen) refl h)

distinct_one : (base : ℕ) → IsDistinct nat_eq (base ∷ [])
unfolding IsDistinct
distinct_one base = (tt, tt)

-- ---- the default base stays the first
abbrev pub BeginsWith : ℕ → List ℕ → Type 0
BeginsWith base seen = slice_get seen 0 ≡ Some base

first_by : (first base : ℕ) (seen : List ℕ) (b : Bool) → BeginsWith first seen → BeginsWith first (cond b seen (seen ++ base ∷ []))
first_by first base seen true h = h
first_by first base [] false h = absurd cc
first_by first base (other ∷ seen) false h = h

first_all : (first : ℕ) (bases seen : List ℕ) → BeginsWith first seen → BeginsWith first (fold with_base seen bases)
first_all first [] seen h = h
first_all first (base ∷ bases) seen h = first_all first bases (with_base seen base) (first_by first base seen (has_base base seen) h)

-- ---- each is a base
abbrev pub InRange : ℕ → ℕ → Option ℕ → Type 0
InRange a n None = Unit {0}
InRange a n (Some b) = (a ≤ b) × (b < a + n)

wider : (a n : ℕ) (o : Option ℕ) → InRange (a + 1) n o → InRange a (suc n) o
wider a n None h = tt
wider a n (Some b) h = (omega (arith, h.0), omega (arith, h.1))

found_by : (a n : ℕ) (b : Bool) (o : Option ℕ) → InRange (a + 1) n o → InRange a (suc n) (cond b (Some a) o)
found_by a n true o h = (omega arith, omega arith)
found_by a n false o h = wider a n o h

found_in_range : (test : ℕ → Bool) (n a : ℕ) → InRange a n (find test (range_with_len a n))
found_in_range test zero a = tt
found_in_range test (suc n) a = found_by a n (test a) (find test (range_with_len (a + 1) n)) (found_in_range test n (a + 1))

first_in_range : (taken : List ℕ) → InRange 1 32767 (first_free taken)
unfolding first_free
first_in_range taken = found_in_range (λ base. not (has_base base taken)) 32767 1

base_in_range : (base : ℕ) → 1 ≤ base → base ≤ 32767 → is_base base ≡ true
base_in_range base low high = grind (arith, nat_tests)

base_by : (o : Option ℕ) → InRange 1 32767 o → is_base (unwrap_or o 1) ≡ true
base_by None h = base_in_range 1 (omega arith) (omega arith)
base_by (Some base) h = base_in_range base h.0 (omega (arith, h.1))

pub least_free_base : (taken : List ℕ) → is_base (least_free taken) ≡ true
least_free_base taken = base_by (first_free taken) (first_in_range taken)

valid_by : (seen : List ℕ) (base : ℕ) (b : Bool) → list_all is_base seen ≡ true → is_base base ≡ true → list_all is_base (cond b seen (seen ++ base ∷ [])) ≡ true
valid_by seen base true h one = h
valid_by seen base false h one = list_all-append is_base seen (base ∷ []) ∙ and_from (list_all is_base seen) _ h (and_from (is_base base) true one refl)

valid_base : (taken : List ℕ) (given : Option ℕ) → is_sound_base given ≡ true → is_base (base_for taken given) ≡ true
valid_base taken (Some base) h = h
valid_base taken None h = least_free_base taken

valid_all : (all : List (Option ℕ)) (taken seen : List ℕ) → list_all is_base seen ≡ true → list_all is_sound_base all ≡ true
    → list_all is_base (fold with_base seen (bases_after taken all)) ≡ true
valid_all [] taken seen h sound = h
valid_all (given ∷ all) taken seen h sound =
    let parts = and_parts (is_sound_base given) (list_all is_sound_base all) sound in
    let base = base_for taken given in
    valid_all all (taken_after taken given) (with_base seen base) (valid_by seen base (has_base base seen) h (valid_base taken given parts.0)) parts.1

-- ---- no more of them than are counted: bases that are generated may be new, and those that are named are counted
pub record Covers (many few : List ℕ) (others : ℕ) : Type 0 where
  pub all : (base : ℕ) → has_base base few ≡ true → has_base base many ≡ true
  pub count : length many ≤ length few + others

pub has_last : (base other : ℕ) (seen : List ℕ) → has_base base (seen ++ other ∷ []) ≡ (has_base base seen || (other == base))
has_last base other [] = or_false (other == base)
  where
    or_false : (b : Bool) → (b || false) ≡ b
    or_false true = refl
    or_false false = refl
has_last base other (first ∷ seen) = by (first == base) (has_last base other seen)
  where
    by : (b : Bool) → has_base base (seen ++ other ∷ []) ≡ (has_base base seen || (other == base))
        → (b || has_base base (seen ++ other ∷ [])) ≡ ((b || has_base base seen) || (other == base))
    by true h = refl
    by false h = h

kept_by : (a b : Bool) → a ≡ true → (a || b) ≡ true
kept_by true b h = refl
kept_by false b h = absurd cc

or_either : (a b c : Bool) → (a ≡ true → b ≡ true) → (a || c) ≡ true → (b || c) ≡ true
or_either true b c f h = kept_by b c (f refl)
or_either false true c f h = refl
or_either false false c f h = h

-- one more base beside those that are many, where the few stay
more_many : (many few : List ℕ) (others base : ℕ) (b : Bool) → Covers many few others → Covers (cond b many (many ++ base ∷ [])) few (others + 1)
more_many many few others base true h = record { all = h.all; count = omega (arith, h.count) }
more_many many few others base false h = record {
  all = λ x found. has_last x base many ∙ kept_by (has_base x many) (base == x) (h.all x found);
  count = omega (arith, h.count, length-append many (base ∷ []));
}

found_last : (base x : ℕ) (few : List ℕ) (a : Bool) → a ≡ has_base x few → (a || (base == x)) ≡ true → (has_base x few ≡ true) ⊎ (base ≡ x)
found_last base x few true e h = inl (sym e)
found_last base x few false e h = inr (eqb-true base x h)

-- the same base beside both
more_both : (many few : List ℕ) (others base : ℕ) (b d : Bool) → has_base base many ≡ b → has_base base few ≡ d → Covers many few others
    → Covers (cond b many (many ++ base ∷ [])) (cond d few (few ++ base ∷ [])) others
more_both many few others base true true e f h = h
more_both many few others base true false e f h = record {
  all = λ x found. elim (found_last base x few (has_base x few) refl (sym (has_last x base few) ∙ found)) [
    | inl there ↦ h.all x there
    | inr same ↦ subst (λ (y : ℕ). has_base y many ≡ true) same e
  ];
  count = omega (arith, h.count, length-append few (base ∷ []));
}
more_both many few others base false true e f h = absurd (let there = h.all base f in cc)
more_both many few others base false false e f h = record {
  all = λ x found. has_last x base many ∙ or_either (has_base x few) (has_base x many) (base == x) (h.all x) (sym (has_last x base few) ∙ found);
  count = omega (arith, h.count, length-append many (base ∷ []), length-append few (base ∷ []));
}

rest_some : (base : ℕ) (all : List (Option ℕ)) → count_by is_none (Some base ∷ all) ≡ count_by is_none all
rest_some base all = omega (arith, sum_by-cons (λ k. cond (is_none k) 1 0) (Some base) all)

rest_none : (all : List (Option ℕ)) → count_by is_none (None ∷ all) ≡ 1 + count_by is_none all
rest_none all = sum_by-cons (λ k. cond (is_none k) 1 0) None all

count_all : (all : List (Option ℕ)) (taken many few : List ℕ) (others : ℕ) → Covers many few others
    → length (fold with_base many (bases_after taken all)) ≤ length (fold with_base few (named all)) + (others + count_by is_none all)
count_all [] taken many few others h = omega (arith, h.count)
count_all (Some base ∷ all) taken many few others h =
    let later = count_all all taken (with_base many base) (with_base few base) others (more_both many few others base (has_base base many) (has_base base few) refl refl h) in
    omega (arith, later, rest_some base all)
count_all (None ∷ all) taken many few others h =
    let base = least_free taken in
    let later = count_all all (taken ++ base ∷ []) (with_base many base) few (others + 1) (more_many many few others base (has_base base many) h) in
    omega (arith, later, rest_none all)

-- ---- what definitions make is sound
sound_bases : (definitions : List Definition) → AreSound definitions → AreSoundBases (all_bases (partitions_in definitions))
sound_bases definitions sound =
    let all = bases_given definitions in
    let taken = filter_map (λ d. d.base) definitions in
    let rules = rules_of definitions in
    let bases : bases_of rules ≡ fold with_base (default_base ∷ []) (bases_after taken all) = ap (fold with_base (default_base ∷ [])) (bases_of_rules taken definitions) in
    let same : all_bases (partitions_in definitions) ≡ fold with_base (default_base ∷ []) (bases_after taken all) = bases_of_partitions rules (bases_of rules) ∙ bases in
    let count : length (fold with_base (default_base ∷ []) (bases_after taken all)) ≤ partition_count all =
    (let counted = count_all all taken (default_base ∷ []) (default_base ∷ []) 0 (record { all = λ base found. found; count = omega arith }) in omega (arith, counted)) in
    rw same (record {
      room = omega (arith, count, sound.room);
      distinct = distinct_all (bases_after taken all) (default_base ∷ []) (distinct_one default_base);
      valid = valid_all all taken (default_base ∷ []) refl sound.valid;
      first = first_all default_base (bases_after taken all) (default_base ∷ []) refl;
    })

-- ---- the groups of partitions
fit_or : (top d : ℕ) (o : Option ℕ) → is_within top o ≡ true → nat_le d top ≡ true → nat_le (unwrap_or o d) top ≡ true
fit_or top d None h k = k
fit_or top d (Some n) h k = h

fits_by : (flags : Flags) → are_within flags ≡ true → fits (group_by flags) ≡ true
fits_by flags h =
    let rate = and_parts (is_within (greatest Rate) flags.rate) _ h in
    let mtu = and_parts (is_within (greatest Mtu) flags.mtu) _ rate.1 in
    let rest = and_parts (is_within (greatest ServiceLevel) flags.service_level) (is_within (greatest Scope) flags.scope) mtu.1 in
    and_from _ _ (fit_or 5 3 flags.rate rate.0 refl) (and_from _ _ (fit_or 4 4 flags.mtu mtu.0 refl) (and_from _ _ (fit_or 15 0 flags.service_level rest.0 refl) (fit_or 15 2 flags.scope rest.1 refl)))

group_fits : (test : RuleState → Bool) (rules : List RuleState) → list_all (λ rule. are_within rule.definition.flags) rules ≡ true
    → has_fit_group (option_map (λ rule. group_by rule.definition.flags) (find test rules)) ≡ true
group_fits test [] h = refl
group_fits test (rule ∷ rules) h =
    let parts = and_parts (are_within rule.definition.flags) (list_all (λ rule. are_within rule.definition.flags) rules) h in
    by (test rule) (fits_by rule.definition.flags parts.0) (group_fits test rules parts.1)
  where
    by : (b : Bool) → fits (group_by rule.definition.flags) ≡ true → has_fit_group (option_map (λ rule. group_by rule.definition.flags) (find test rules)) ≡ true
        → has_fit_group (option_map (λ rule. group_by rule.definition.flags) (cond b (Some rule) (find test rules))) ≡ true
    by true here later = here
    by false here later = later

groups_fit : (rules : List RuleState) (bases : List ℕ) → list_all (λ rule. are_within rule.definition.flags) rules ≡ true
    → list_all (λ partition. has_fit_group partition.group) (map (partition_of rules) bases) ≡ true
groups_fit rules [] h = refl
groups_fit rules (base ∷ bases) h = and_from (has_fit_group (group_of rules base)) _ (group_fits (makes_group base) rules h) (groups_fit rules bases h)

rules_within : (taken : List ℕ) (definitions : List Definition) → list_all (λ definition. are_within definition.flags) definitions ≡ true
    → list_all (λ rule. are_within rule.definition.flags) (rules_after taken definitions) ≡ true
rules_within taken [] h = refl
rules_within taken (definition ∷ rest) h =
    let parts = and_parts (are_within definition.flags) (list_all (λ definition. are_within definition.flags) rest) h in
    and_from (are_within definition.flags) _ parts.0 (rules_within (taken_after taken definition.base) rest parts.1)

pub sound_partitions : (definitions : List Definition) → AreSound definitions → IsSound (partitions_in definitions)
sound_partitions definitions sound = record {
  bases = sound_bases definitions sound;
  groups = groups_fit (rules_of definitions) (bases_of (rules_of definitions)) (rules_within (filter_map (λ d. d.base) definitions) definitions sound.flags);
}

pub few_partitions : (partitions : List Partition) → IsSound partitions → length partitions ≤ PARTITIONS
few_partitions partitions sound = omega (arith, sound.bases.room, length-map partitions (λ (partition : Partition). partition.base))

-- the default partition alone
pub sound_alone : AreSoundBases (default_base ∷ [])
sound_alone = record { room = lit≤ tt; distinct = distinct_one default_base; valid = refl; first = refl }
