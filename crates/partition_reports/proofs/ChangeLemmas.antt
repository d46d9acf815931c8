-- The lines of changes, as they are found and as they are said to be.
use Rattle.std.proofs.Common.{◌≡◌, ℕ, ◌+◌, ◌<◌, ◌≤◌, Bool, true, false, ◌==◌, ◌||◌, if◌then◌else◌, List, [], ◌∷◌, ◌++◌, Option, Some, None, codes, length, take, get_or, map, refl, sym, ap, ◌∙◌, inl, inr, append-nil, arith}
use Rattle.std.specs.List.{flat_map, list_any, range_with_len, zip}
use Rattle.std.proofs.lemmas.Bool.{cases_Bool, or_cases, or_left, or_right}
use Rattle.std.proofs.lemmas.Grind.{flat_map-append}
use Rattle.std.proofs.lemmas.List.{flat_map_more, take_more}
use Rattle.std.proofs.lemmas.List.Folds.{flat_map-map, list_any-append}
use Rattle.pkey_rules.specs.KeyTable.{shares_base}
use Rattle.pkey_rules.specs.PKey.{base_of}
use Rattle.partition_file.specs.declared.heading.Heading.{Heading}
use Rattle.partition_reports.proofs.ShareLemmas.{flat_kept, has_base, in_range, is_shared_base, kept_alike, range_rises}
use Rattle.partition_reports.specs.FoundShares.{AreBases, share_of as share_between}
use Rattle.partition_reports.specs.Shares.{share_line}
use Rattle.subnet_model.specs.Configuration.{ConfigurationState}
use Rattle.partition_reports.specs.Changes.{Change, bases_named, change_of_member_line, changes_of, changes_text, coming, going, group_changes_at, group_line, grouped, member_changes, member_changes_at, member_of, pair_changes, partition_changes_at, partition_line, partition_of, same_group, same_member, same_partition, same_share, share_changes, share_changes_at, share_of, sign, stays, text_of_changes}
use Rattle.partition_reports.specs.FoundChanges.{change_text, group_text, member_text, members_text, pair_text, partition_text, seen, share_text, shares_text, signed, listed_text}
use Rattle.partition_reports.specs.ChangedSums.{listed_changes}
use Rattle.partition_reports.specs.Sums.{are_few}
use Rattle.partition_reports.specs.declared.changed_ports.Both.{Both}

-- ---- lists made of lists
pub flat_flat : {X Y Z : Type 0} (h : Y → List Z) (g : X → List Y) (xs : List X) → flat_map (λ x. flat_map h (g x)) xs ≡ flat_map h (flat_map g xs)
flat_flat h g [] = refl
flat_flat h g (x ∷ xs) = ap (λ rest. flat_map h (g x) ++ rest) (flat_flat h g xs) ∙ sym (flat_map-append h (g x) (flat_map g xs))

pub flat_same : {X Y : Type 0} (f g : X → List Y) → ((x : X) → f x ≡ g x) → (xs : List X) → flat_map f xs ≡ flat_map g xs
flat_same f g same [] = refl
flat_same f g same (x ∷ xs) = rw (same x, flat_same f g same xs) refl

-- one more item of a loop
pub one_more : {X : Type 0} (f : X → List ℕ) (xs : List X) (i : ℕ) (d : X) (before : List ℕ) → i < length xs
    → (before ++ flat_map f (take i xs)) ++ f (get_or xs i d) ≡ before ++ flat_map f (take (i + 1) xs)
one_more f xs i d before inside =
    flat_map_more f before (take i xs) (get_or xs i d) ∙ ap (λ some. before ++ flat_map f some) (sym (take_more xs i d inside))

-- ---- one change
shown_changes : {X : Type 0} (line : X → List ℕ) (kept : Bool) (before after : Option X)
    → (if kept then [] else signed (codes "- ") line before ++ signed (codes "+ ") line after) ≡ changes_text line (if kept then [] else going before ++ coming after)
shown_changes line true before after = refl
shown_changes line false None None = refl
shown_changes line false None (Some y) = sym (append-nil (codes "+ " ++ line y))
shown_changes line false (Some x) None = refl
shown_changes line false (Some x) (Some y) = ap (λ text. (codes "- " ++ line x) ++ text) (sym (append-nil (codes "+ " ++ line y)))

change_shown : {X : Type 0} (same : X → X → Bool) (line : X → List ℕ) (before after : Option X) → change_text same line before after ≡ changes_text line (changes_of same before after)
change_shown same line before after = shown_changes line (stays same before after) before after

abbrev reported : {X : Type 0} → (X → List ℕ) → Change X → List ℕ
reported line change = sign change.comes ++ line change.what

-- ---- partitions, groups, members
partitions_alike : (before after : List Heading) (bases : List ℕ)
    → flat_map (partition_text before after) bases ≡ changes_text partition_line (flat_map (partition_changes_at before after) bases)
partitions_alike before after bases =
    flat_same (partition_text before after) (λ base. changes_text partition_line (partition_changes_at before after base))
    (λ base. change_shown same_partition partition_line (partition_of before base) (partition_of after base)) bases
    ∙ flat_flat (reported partition_line) (partition_changes_at before after) bases

groups_alike : (before after : List Heading) (bases : List ℕ)
    → flat_map (group_text before after) bases ≡ changes_text group_line (flat_map (group_changes_at before after) bases)
groups_alike before after bases =
    flat_same (group_text before after) (λ base. changes_text group_line (group_changes_at before after base))
    (λ base. change_shown same_group group_line (grouped before base) (grouped after base)) bases
    ∙ flat_flat (reported group_line) (group_changes_at before after) bases

members_at : (ports : List Both) (base : ℕ) → members_text ports base ≡ changes_text change_of_member_line (flat_map (member_changes_at base) (map seen ports))
members_at ports base =
    flat_same (member_text base) (λ port. changes_text change_of_member_line (member_changes_at base (seen port)))
    (λ port. change_shown same_member change_of_member_line (member_of base port.before.now) (member_of base port.after.now)) ports
    ∙ flat_flat (reported change_of_member_line) (λ port. member_changes_at base (seen port)) ports
    ∙ ap (changes_text change_of_member_line) (sym (flat_map-map (member_changes_at base) seen ports))

members_alike : (ports : List Both) (bases : List ℕ)
    → flat_map (members_text ports) bases ≡ changes_text change_of_member_line (member_changes bases (map seen ports))
members_alike ports bases =
    flat_same (members_text ports) (λ base. changes_text change_of_member_line (flat_map (member_changes_at base) (map seen ports))) (members_at ports) bases
    ∙ flat_flat (reported change_of_member_line) (λ base. flat_map (member_changes_at base) (map seen ports)) bases

-- ---- shares
-- under other bases neither was nor will be a share
abbrev may_change : Both → Both → ℕ → Bool
may_change p q base = shares_base base p.before.now.keys q.before.now.keys || shares_base base p.after.now.keys q.after.now.keys

only_there : (p q : Both) (base : ℕ) → share_text p q base ≡ (if may_change p q base then share_text p q base else [])
only_there p q base = by (shares_base base p.before.now.keys q.before.now.keys) (shares_base base p.after.now.keys q.after.now.keys)
  where
    by : (was becomes : Bool) → change_text same_share share_line (if was then Some (share_between p.before.now q.before.now base) else None) (if becomes then Some (share_between p.after.now q.after.now base) else None)
        ≡ (if was || becomes then change_text same_share share_line (if was then Some (share_between p.before.now q.before.now base) else None) (if becomes then Some (share_between p.after.now q.after.now base) else None) else [])
    by true becomes = refl
    by false true = refl
    by false false = refl

base_there : (p q : Both) (n : ℕ) → may_change p q n ≡ true → list_any (λ key. base_of key == n) (p.before.now.keys ++ p.after.now.keys) ≡ true
base_there p q n h =
    list_any-append (λ key. base_of key == n) p.before.now.keys p.after.now.keys
    ∙ elim (or_cases (shares_base n p.before.now.keys q.before.now.keys) (shares_base n p.after.now.keys q.after.now.keys) h) [
      | inl was ↦ or_left (list_any (λ key. base_of key == n) p.before.now.keys) (list_any (λ key. base_of key == n) p.after.now.keys) (has_base n p.before.now.keys q.before.now.keys was)
      | inr becomes ↦ or_right (list_any (λ key. base_of key == n) p.before.now.keys) (list_any (λ key. base_of key == n) p.after.now.keys) (has_base n p.after.now.keys q.after.now.keys becomes)
    ]

is_base : (p q : Both) (n : ℕ) → may_change p q n ≡ true → (1 ≤ n) × (n < 32768)
is_base p q n h = elim (or_cases (shares_base n p.before.now.keys q.before.now.keys) (shares_base n p.after.now.keys q.after.now.keys) h) [
  | inl was ↦ is_shared_base n p.before.now.keys q.before.now.keys was
  | inr becomes ↦ is_shared_base n p.after.now.keys q.after.now.keys becomes
]

pub pair_alike : (bases : List ℕ) (p q : Both) → AreBases (p.before.now.keys ++ p.after.now.keys) bases → flat_map (share_text p q) bases ≡ pair_text p q
unfolding pair_changes
pair_alike bases p q are =
    flat_same (share_text p q) (λ base. if may_change p q base then share_text p q base else []) (only_there p q) bases
    ∙ flat_kept (share_text p q) (may_change p q) bases
    ∙ ap (flat_map (share_text p q)) (kept_alike (may_change p q) bases (range_with_len 1 32767) are.rising (range_rises 1 32767)
    (λ n h. let fits = is_base p q n h in are.same n ∙ base_there p q n h ∙ sym (in_range 1 32767 n fits.0 (omega (arith, fits.1)))))
    ∙ sym (flat_kept (share_text p q) (may_change p q) (range_with_len 1 32767))
    ∙ sym (flat_same (share_text p q) (λ base. if may_change p q base then share_text p q base else []) (only_there p q) (range_with_len 1 32767))
    ∙ flat_same (share_text p q) (λ base. changes_text share_line (share_changes_at (seen p) (seen q) base))
    (λ base. change_shown same_share share_line (share_of p.before.now q.before.now base) (share_of p.after.now q.after.now base)) (range_with_len 1 32767)
    ∙ flat_flat (reported share_line) (share_changes_at (seen p) (seen q)) (range_with_len 1 32767)

others_alike : (p : Both) (others : List Both) → flat_map (pair_text p) others ≡ changes_text share_line (flat_map (pair_changes (seen p)) (map seen others))
others_alike p others =
    flat_flat (reported share_line) (λ q. pair_changes (seen p) (seen q)) others
    ∙ ap (changes_text share_line) (sym (flat_map-map (pair_changes (seen p)) seen others))

shares_alike : (ports : List Both) → shares_text ports ≡ changes_text share_line (share_changes (map seen ports))
shares_alike [] = refl
shares_alike (p ∷ ports) =
    ap (λ text. text ++ shares_text ports) (others_alike p ports)
    ∙ ap (λ text. changes_text share_line (flat_map (pair_changes (seen p)) (map seen ports)) ++ text) (shares_alike ports)
    ∙ sym (flat_map-append (reported share_line) (flat_map (pair_changes (seen p)) (map seen ports)) (share_changes (map seen ports)))

-- ---- all together
pub all_alike : (before after : ConfigurationState) (bases : List ℕ) (ports : List Both) → bases ≡ bases_named before.partitions after.partitions → map seen ports ≡ zip before.ports after.ports
    → ((flat_map (partition_text before.partitions after.partitions) bases ++ flat_map (group_text before.partitions after.partitions) bases) ++ flat_map (members_text ports) bases) ++ shares_text ports
    ≡ text_of_changes before after
all_alike before after bases ports are beside =
    rw (partitions_alike before.partitions after.partitions bases, groups_alike before.partitions after.partitions bases, members_alike ports bases, shares_alike ports, beside, are) refl

-- with shares or with sums
pub all_listed : (before after : ConfigurationState) (bases : List ℕ) (ports : List Both) → bases ≡ bases_named before.partitions after.partitions → map seen ports ≡ zip before.ports after.ports
    → ((flat_map (partition_text before.partitions after.partitions) bases ++ flat_map (group_text before.partitions after.partitions) bases) ++ flat_map (members_text ports) bases)
    ++ listed_text before.ports after.ports ports bases
    ≡ listed_changes before after
all_listed before after bases ports are beside = elim (cases_Bool (are_few before.ports)) [
  | inl few ↦ rw few (all_alike before after bases ports are beside)
  | inr many ↦
      rw many (rw (partitions_alike before.partitions after.partitions bases, groups_alike before.partitions after.partitions bases, members_alike ports bases, beside, are) refl)
]
