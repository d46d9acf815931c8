-- The keys of a port: one of each partition that it is a member of, no two of one base.
use Rattle.std.proofs.Common.{◌≡◌, ◌&&◌, ℕ, suc, ◌+◌, ◌<◌, ◌≤◌, Bool, true, false, cond, ◌==◌, ◌||◌, nat_eq, List, [], ◌∷◌, ◌++◌, length, map, drop}
use Rattle.std.proofs.Common.{get_or, Option, Some, None, refl, ap, subst, ◌∙◌, arith, append_assoc, length-append, drop-cons}
use Rattle.std.specs.List.{AllByRecursion, IsDistinct, list_all, cons_option}
use Rattle.std.specs.Option.{option_to_list}
use Rattle.std.proofs.lemmas.Bool.{and_parts, or_from}
use Rattle.std.proofs.lemmas.Bool.Decides.{nat_tests}
use Rattle.std.proofs.lemmas.List.{append-nil, length-map}
use Rattle.std.proofs.lemmas.Map.Keys.{IsDistinct-head, IsDistinct-tail}
use Rattle.pkey_rules.specs.declared.end_port.EndPort.{EndPort}
use Rattle.pkey_rules.specs.declared.key_table.TheConstants.{PARTITIONS}
use Rattle.pkey_rules.specs.PKey.{base_of, is_base, key_of}
use Rattle.pkey_rules.specs.KeyTable.{has_base}
use Rattle.pkey_rules.proofs.PKeyLemmas.{key_has_base}
use Rattle.partition_file.specs.declared.partition.Partition.{Partition}
use Rattle.partition_file.specs.Members.{AreSoundHeadings, bases_in, heading_of, is_full_member, is_member, key_in, keys_in}
use Rattle.partition_file.specs.declared.heading.Heading.{Heading}
use Rattle.partition_file.specs.Sound.{IsSound, has_fit_group, all_bases}

-- ---- the base of a key
base_below : (base : ℕ) → is_base base ≡ true → base < 32768
base_below base h = grind (arith, nat_tests)

-- ---- what the loop over partitions keeps: the keys so far and those of the partitions that are left, no base of which is held
abbrev pub AreFree : List ℕ → List ℕ → Type 0
AreFree bases held = AllByRecursion (λ base. has_base base held ≡ false) bases

pub record IsFilled (port : EndPort) (left : List Partition) (held : List ℕ) (all : List Partition) : Type 0 where
  pub same : held ++ keys_in left port ≡ keys_in all port
  pub free : AreFree (all_bases left) held
  pub distinct : IsDistinct nat_eq (all_bases left)
  pub room : length held + length left ≤ PARTITIONS
  pub valid : list_all is_base (all_bases left) ≡ true

has_last : (base key : ℕ) (held : List ℕ) → has_base base (held ++ key ∷ []) ≡ (has_base base held || (base_of key == base))
has_last base key [] = or_false (base_of key == base)
  where
    or_false : (b : Bool) → (b || false) ≡ b
    or_false true = refl
    or_false false = refl
has_last base key (first ∷ held) = by (base_of first == base) (has_last base key held)
  where
    by : (b : Bool) → has_base base (held ++ key ∷ []) ≡ (has_base base held || (base_of key == base))
        → (b || has_base base (held ++ key ∷ [])) ≡ ((b || has_base base held) || (base_of key == base))
    by true h = refl
    by false h = h

still_free : (bases held : List ℕ) (base key : ℕ) → base_of key ≡ base → AllByRecursion (λ other. nat_eq base other ≡ false) bases
    → AreFree bases held → AreFree bases (held ++ key ∷ [])
still_free [] held base key e apart free = tt
still_free (other ∷ bases) held base key e apart free =
    let next : (base_of key == other) ≡ false = rw e apart.0 in
    (has_last other key held ∙ or_from (has_base other held) (base_of key == other) free.0 next, still_free bases held base key e apart.1 free.1)

abbrev pub KeyOf : ℕ → Option ℕ → Type 0
KeyOf base None = Unit {0}
KeyOf base (Some key) = base_of key ≡ base

key_by : (base : ℕ) (b full : Bool) → base < 32768 → KeyOf base (cond b (Some (key_of base full)) None)
key_by base true full h = key_has_base base full h
key_by base false full h = tt

pub key_of_partition : (port : EndPort) (partition : Partition) → is_base partition.base ≡ true → KeyOf partition.base (key_in port partition)
key_of_partition port partition h = key_by partition.base (is_member port partition) (is_full_member port partition) (base_below partition.base h)

free_by : (bases held : List ℕ) (base : ℕ) (o : Option ℕ) → KeyOf base o → AllByRecursion (λ other. nat_eq base other ≡ false) bases
    → AreFree bases held → AreFree bases (held ++ option_to_list o)
free_by bases held base None k apart free = rw (append-nil held) free
free_by bases held base (Some key) k apart free = still_free bases held base key k apart free

short_by : (held : List ℕ) (o : Option ℕ) → length (held ++ option_to_list o) ≤ length held + 1
short_by held None = omega (arith, length-append held [])
short_by held (Some key) = omega (arith, length-append held (key ∷ []))

keys_by : (held : List ℕ) (o : Option ℕ) (rest : List ℕ) (first : List ℕ) → first ≡ cons_option o rest → (held ++ option_to_list o) ++ rest ≡ held ++ first
keys_by held None rest first h = rw (append-nil held, h) refl
keys_by held (Some key) rest first h = rw h (append_assoc held (key ∷ []) rest)

pub goes_on : (port : EndPort) (partition : Partition) (left rest : List Partition) (held : List ℕ) (all : List Partition) → left ≡ partition ∷ rest → IsFilled port left held all
    → IsFilled port rest (held ++ option_to_list (key_in port partition)) all
goes_on port partition left rest held all cut so_far =
    let kept : IsFilled port (partition ∷ rest) held all = subst (λ (l : List Partition). IsFilled port l held all) cut so_far in
    let valid = and_parts (is_base partition.base) (list_all is_base (all_bases rest)) kept.valid in
    record {
      same = keys_by held (key_in port partition) (keys_in rest port) (keys_in (partition ∷ rest) port) refl ∙ kept.same;
      free =
          free_by (all_bases rest) held partition.base (key_in port partition) (key_of_partition port partition valid.0) (IsDistinct-head nat_eq partition.base (all_bases rest) kept.distinct) kept.free.1;
      distinct = IsDistinct-tail nat_eq partition.base (all_bases rest) kept.distinct;
      room = omega (arith, kept.room, short_by held (key_in port partition));
      valid = valid.1;
    }

pub next_left : (partitions : List Partition) (i : ℕ) (partition : Partition) → i < length partitions → drop i partitions ≡ get_or partitions i partition ∷ drop (i + 1) partitions
next_left partitions i partition within =
    let after_it : suc i ≡ i + 1 = omega arith in
    drop-cons partitions i partition within ∙ ap (λ k. get_or partitions i partition ∷ drop k partitions) after_it

-- ---- headings
same_bases : (partitions : List Partition) → bases_in (map heading_of partitions) ≡ all_bases partitions
same_bases [] = refl
same_bases (partition ∷ rest) = ap (λ (bases : List ℕ). partition.base ∷ bases) (same_bases rest)

same_groups : (partitions : List Partition)
    → list_all (λ heading. has_fit_group heading.group) (map heading_of partitions) ≡ list_all (λ partition. has_fit_group partition.group) partitions
same_groups [] = refl
same_groups (partition ∷ rest) = ap (λ (b : Bool). has_fit_group partition.group && b) (same_groups rest)

pub sound_headings : (partitions : List Partition) → IsSound partitions → AreSoundHeadings (map heading_of partitions)
sound_headings partitions sound = record { bases = rw (same_bases partitions) sound.bases; groups = same_groups partitions ∙ sound.groups }

pub few_headings : (headings : List Heading) → AreSoundHeadings headings → length headings ≤ PARTITIONS
few_headings headings sound = omega (arith, sound.bases.room, length-map headings (λ (heading : Heading). heading.base))
