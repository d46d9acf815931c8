-- How many partitions definitions make, one definition after the other.
use Rattle.std.proofs.Common.{◌≡◌, ℕ, ◌+◌, ◌≤◌, Bool, true, false, cond, List, [], ◌∷◌, ◌++◌, length, Option, Some, None, is_none, refl, ap, ◌∙◌, arith, length-append}
use Rattle.std.specs.List.{fold, count_by, list_all}
use Rattle.std.proofs.lemmas.Bool.{and_from}
use Rattle.std.proofs.lemmas.List.{map-append, append-nil}
use Rattle.std.proofs.lemmas.List.Elements.{filter_map-append}
use Rattle.std.proofs.lemmas.List.Folds.{list_all-append}
use Rattle.std.proofs.lemmas.List.Sums.{fold-append, sum_by-append}
use Rattle.pkey_rules.specs.declared.key_table.TheConstants.{PARTITIONS}
use Rattle.pkey_rules.specs.PKey.{default_base}
use Rattle.partition_file.specs.declared.definition.Definition.{Definition}
use Rattle.partition_file.specs.Counting.{further, has_base, bases_given, named, one_if_none, partition_count, with_base, with_given}
use Rattle.partition_file.specs.Sound.{AreCounted, are_within, is_sound_base}

pub keys_more : (definitions : List Definition) (definition : Definition) → bases_given (definitions ++ definition ∷ []) ≡ bases_given definitions ++ definition.base ∷ []
keys_more definitions definition = map-append (λ d. d.base) definitions (definition ∷ [])

named_more : (all : List (Option ℕ)) (given : Option ℕ) → named (all ++ given ∷ []) ≡ named all ++ named (given ∷ [])
named_more all given = filter_map-append (λ k. k) all (given ∷ [])

-- the bases seen, with one more
pub seen_more : (all : List (Option ℕ)) (given : Option ℕ)
    → fold with_base (default_base ∷ []) (named (all ++ given ∷ [])) ≡ with_given (fold with_base (default_base ∷ []) (named all)) given
seen_more all None = ap (fold with_base (default_base ∷ [])) (named_more all None ∙ append-nil (named all))
seen_more all (Some base) = ap (fold with_base (default_base ∷ [])) (named_more all (Some base)) ∙ fold-append with_base (default_base ∷ []) (named all) (base ∷ [])

pub rest_more : (all : List (Option ℕ)) (given : Option ℕ) → count_by is_none (all ++ given ∷ []) ≡ count_by is_none all + one_if_none given
rest_more all None = sum_by-append (λ k. cond (is_none k) 1 0) all (None ∷ []) ∙ ap (λ n. count_by is_none all + n) (omega arith)
rest_more all (Some base) = sum_by-append (λ k. cond (is_none k) 1 0) all (Some base ∷ []) ∙ ap (λ n. count_by is_none all + n) (omega arith)

longer : (seen : List ℕ) (base : ℕ) (b : Bool) → length (cond b seen (seen ++ base ∷ [])) ≡ length seen + cond b 0 1
longer seen base true = omega arith
longer seen base false = length-append seen (base ∷ []) ∙ ap (λ n. length seen + n) (omega arith)

further_by : (seen : List ℕ) (given : Option ℕ) → length (with_given seen given) + one_if_none given ≡ length seen + further seen given
further_by seen None = refl
further_by seen (Some base) = omega (arith, longer seen base (has_base base seen))

-- how many partitions there are with one more definition
pub count_more : (all : List (Option ℕ)) (given : Option ℕ)
    → partition_count (all ++ given ∷ []) ≡ partition_count all + further (fold with_base (default_base ∷ []) (named all)) given
count_more all given =
    let seen = fold with_base (default_base ∷ []) (named all) in
    rw (seen_more all given, rest_more all given) (omega (arith, further_by seen given))

pub count_kept : (definitions : List Definition) (seen : List ℕ) (others n : ℕ) (given : Option ℕ) → AreCounted definitions seen others → n ≡ further seen given
    → length seen + others + n ≡ partition_count (bases_given definitions ++ given ∷ [])
count_kept definitions seen others n given counted h =
    rw (count_more (bases_given definitions) given, ← counted.distinct, ← counted.rest) (omega (arith, h))

all_sound : (all : List (Option ℕ)) (given : Option ℕ) → list_all is_sound_base all ≡ true → is_sound_base given ≡ true → list_all is_sound_base (all ++ given ∷ []) ≡ true
all_sound all given h one = list_all-append is_sound_base all (given ∷ []) ∙ and_from (list_all is_sound_base all) _ h (and_from (is_sound_base given) true one refl)

all_within : (definitions : List Definition) (definition : Definition) → list_all (λ d. are_within d.flags) definitions ≡ true
    → are_within definition.flags ≡ true → list_all (λ d. are_within d.flags) (definitions ++ definition ∷ []) ≡ true
all_within definitions definition h one =
    list_all-append (λ (d : Definition). are_within d.flags) definitions (definition ∷ [])
    ∙ and_from (list_all (λ d. are_within d.flags) definitions) _ h (and_from (are_within definition.flags) true one refl)

-- a definition that is sound and not one too many keeps what is counted
pub counted_more : (definitions : List Definition) (definition : Definition) (seen : List ℕ) (others : ℕ) → AreCounted definitions seen others → is_sound_base definition.base ≡ true
    → are_within definition.flags ≡ true → partition_count (bases_given definitions ++ definition.base ∷ []) ≤ PARTITIONS
    → AreCounted (definitions ++ definition ∷ []) (with_given seen definition.base) (others + one_if_none definition.base)
counted_more definitions definition seen others counted valid within room =
    let all = keys_more definitions definition in
    record {
      sound = record {
        valid = rw all (all_sound (bases_given definitions) definition.base counted.sound.valid valid);
        flags = all_within definitions definition counted.sound.flags within;
        room = rw all room;
      };
      distinct = rw (all, seen_more (bases_given definitions) definition.base) (ap (λ (s : List ℕ). with_given s definition.base) counted.distinct);
      rest = rw (all, rest_more (bases_given definitions) definition.base) (ap (λ (n : ℕ). n + one_if_none definition.base) counted.rest);
    }
