-- The bases of definitions that name none: there is always one that is free, and the least is found.
use Rattle.std.proofs.Common.{◌≡◌, ℕ, zero, suc, ◌+◌, ◌<◌, ◌≤◌, Bool, true, false, cond, not, ◌==◌, ◌||◌, List, [], ◌∷◌, ◌++◌, length, Option, Some}
use Rattle.std.proofs.Common.{None, is_none, refl, ap, subst, ◌∙◌, arith, length-append}
use Rattle.std.specs.List.{cons_option, count_by, filter_map, find, fold, range_with_len}
use Rattle.std.specs.Option.{unwrap_or}
use Rattle.std.proofs.lemmas.Bool.{eqb-true}
use Rattle.std.proofs.lemmas.Bool.Decides.{nat_tests}
use Rattle.std.proofs.lemmas.List.Sums.{fold-append, sum_by-cons}
use Rattle.step_results.proofs.BoolLemmas.{or_true}
use Rattle.pkey_rules.specs.declared.key_table.TheConstants.{PARTITIONS}
use Rattle.pkey_rules.specs.PKey.{default_base}
use Rattle.partition_file.specs.declared.definition.Definition.{Definition}
use Rattle.partition_file.specs.Counting.{has_base, bases_given, named, partition_count, with_base}
use Rattle.partition_file.specs.Partitions.{first_free, least_free, taken_after}
use Rattle.partition_file.specs.Generated.{AllGetFree, IsLeastFree}
use Rattle.partition_file.specs.Laws.{GeneratedBasesAreFree}
use Rattle.partition_file.proofs.SoundLemmas.{least_free_base, has_last}

-- ---- what a search of a range finds
abbrev FoundIn : (ℕ → Bool) → ℕ → ℕ → Option ℕ → Type 0
FoundIn test a n None = (c : ℕ) → a ≤ c → c < a + n → test c ≡ false
FoundIn test a n (Some b) = (test b ≡ true) × ((c : ℕ) → a ≤ c → c < b → test c ≡ false)

here_or_later : (a c : ℕ) (b : Bool) → (a == c) ≡ b → b ≡ false → a ≤ c → a + 1 ≤ c
here_or_later a c b e k h = grind (arith, nat_tests)

false_from : (test : ℕ → Bool) (a c : ℕ) (b : Bool) → (a == c) ≡ b → test a ≡ false → a ≤ c → (a + 1 ≤ c → test c ≡ false) → test c ≡ false
false_from test a c true e h low later = subst (λ (k : ℕ). test k ≡ false) (eqb-true a c e) h
false_from test a c false e h low later = later (here_or_later a c false e refl low)

more_false : (test : ℕ → Bool) (a n : ℕ) (o : Option ℕ) → test a ≡ false → FoundIn test (a + 1) n o → FoundIn test a (suc n) o
more_false test a n None h found = λ c low high. false_from test a c (a == c) refl h low (λ next. found c next (omega (arith, high)))
more_false test a n (Some b) h found = (found.0, λ c low high. false_from test a c (a == c) refl h low (λ next. found.1 c next high))

found_by : (test : ℕ → Bool) (a n : ℕ) (b : Bool) (o : Option ℕ) → test a ≡ b → FoundIn test (a + 1) n o → FoundIn test a (suc n) (cond b (Some a) o)
found_by test a n true o h found = (h, λ c low high. absurd (omega (arith, low, high)))
found_by test a n false o h found = more_false test a n o h found

found_in : (test : ℕ → Bool) (n a : ℕ) → FoundIn test a n (find test (range_with_len a n))
found_in test zero a = λ c low high. absurd (omega (arith, low, high))
found_in test (suc n) a = found_by test a n (test a) (find test (range_with_len (a + 1) n)) refl (found_in test n (a + 1))

-- ---- a list that has the numbers from 1 to n has n of them
abbrev without : ℕ → List ℕ → List ℕ
without base [] = []
without base (first ∷ rest) = cond (first == base) rest (first ∷ without base rest)

shorter : (base : ℕ) (held : List ℕ) → has_base base held ≡ true → length (without base held) + 1 ≡ length held
shorter base [] h = absurd cc
shorter base (first ∷ rest) h = by (first == base) h (λ k. shorter base rest k)
  where
    by : (b : Bool) → (b || has_base base rest) ≡ true → (has_base base rest ≡ true → length (without base rest) + 1 ≡ length rest)
        → length (cond b rest (first ∷ without base rest)) + 1 ≡ length (first ∷ rest)
    by true k later = omega arith
    by false k later = omega (arith, later k)

apart_by : (first base other : ℕ) → (first == base) ≡ true → (base == other) ≡ false → (first == other) ≡ false
apart_by first base other h k = grind (arith, nat_tests)

still_there : (base other : ℕ) (held : List ℕ) → (base == other) ≡ false → has_base other held ≡ true → has_base other (without base held) ≡ true
still_there base other [] apart h = h
still_there base other (first ∷ rest) apart h = by (first == base) refl (first == other) refl h (λ k. still_there base other rest apart k)
  where
    by : (b : Bool) → (first == base) ≡ b → (d : Bool) → (first == other) ≡ d → (d || has_base other rest) ≡ true
        → (has_base other rest ≡ true → has_base other (without base rest) ≡ true)
        → has_base other (cond b rest (first ∷ without base rest)) ≡ true
    by true e true f k later = absurd (let gone = apart_by first base other e apart in cc)
    by true e false f k later = k
    by false e true f k later = rw f refl
    by false e false f k later = rw f (later k)

top_apart : (n c : ℕ) → c < 1 + n → (suc n == c) ≡ false
top_apart n c h = grind (arith, nat_tests)

at_least : (n : ℕ) (held : List ℕ) → ((c : ℕ) → 1 ≤ c → c < 1 + n → has_base c held ≡ true) → n ≤ length held
at_least zero held h = omega arith
at_least (suc n) held h =
    let top : has_base (suc n) held ≡ true = h (suc n) (omega arith) (omega arith) in
    let rest : n ≤ length (without (suc n) held) = at_least n (without (suc n) held) (λ c low high. still_there (suc n) c held (top_apart n c high) (h c low (omega (arith, high)))) in
    omega (arith, rest, shorter (suc n) held top)

kept : (base other : ℕ) (seen : List ℕ) (b : Bool) → has_base other seen ≡ true → has_base other (cond b seen (seen ++ base ∷ [])) ≡ true
kept base other seen true h = h
kept base other seen false h = has_last other base seen ∙ ap (λ (x : Bool). x || (base == other)) h

kept_all : (bases : List ℕ) (other : ℕ) (seen : List ℕ) → has_base other seen ≡ true → has_base other (fold with_base seen bases) ≡ true
kept_all [] other seen h = h
kept_all (base ∷ bases) other seen h = kept_all bases other (with_base seen base) (kept base other seen (has_base base seen) h)

itself : (a : ℕ) → (a == a) ≡ true
itself a = grind (arith, nat_tests)

added : (base : ℕ) (seen : List ℕ) (b : Bool) → has_base base seen ≡ b → has_base base (cond b seen (seen ++ base ∷ [])) ≡ true
added base seen true h = h
added base seen false h = has_last base base seen ∙ ap (λ (x : Bool). has_base base seen || x) (itself base) ∙ or_true (has_base base seen)

-- what is taken is among the bases seen
is_seen : (taken : List ℕ) (other : ℕ) (seen : List ℕ) → has_base other taken ≡ true → has_base other (fold with_base seen taken) ≡ true
is_seen [] other seen h = absurd cc
is_seen (base ∷ taken) other seen h = by (base == other) refl h (λ k. is_seen taken other (with_base seen base) k)
  where
    by : (b : Bool) → (base == other) ≡ b → (b || has_base other taken) ≡ true
        → (has_base other taken ≡ true → has_base other (fold with_base (with_base seen base) taken) ≡ true) → has_base other (fold with_base (with_base seen base) taken) ≡ true
    by true e k later =
        let there : has_base other (with_base seen base) ≡ true = subst (λ (x : ℕ). has_base x (with_base seen base) ≡ true) (eqb-true base other e) (added base seen (has_base base seen) refl) in
        kept_all taken other (with_base seen base) there
    by false e k later = later k

abbrev seen_of : List ℕ → List ℕ
seen_of taken = fold with_base (default_base ∷ []) taken

one_longer : (seen : List ℕ) (base : ℕ) (b : Bool) → length (cond b seen (seen ++ base ∷ [])) ≤ length seen + 1
one_longer seen base true = omega arith
one_longer seen base false = omega (arith, length-append seen (base ∷ []))

seen_more : (taken : List ℕ) (base : ℕ) → length (seen_of (taken ++ base ∷ [])) ≤ length (seen_of taken) + 1
seen_more taken base = rw (fold-append with_base (default_base ∷ []) taken (base ∷ [])) (one_longer (seen_of taken) base (has_base base (seen_of taken)))

-- ---- there always is a base that is free
true_by : (b : Bool) → not b ≡ false → b ≡ true
true_by true h = refl
true_by false h = absurd cc

false_by : (b : Bool) → not b ≡ true → b ≡ false
false_by true h = absurd cc
false_by false h = refl

free_by : (taken : List ℕ) (o : Option ℕ) → length (seen_of taken) ≤ PARTITIONS → FoundIn (λ base. not (has_base base taken)) 1 32767 o
    → (has_base (unwrap_or o 1) taken ≡ false) × ((other : ℕ) → 1 ≤ other → other < unwrap_or o 1 → has_base other taken ≡ true)
free_by taken None few found = absurd (
    let all : 32767 ≤ length (seen_of taken) = at_least 32767 (seen_of taken) (λ c low high. is_seen taken c (default_base ∷ []) (true_by (has_base c taken) (found c low high))) in
    omega (arith, all, few))
free_by taken (Some base) few found = (false_by (has_base base taken) found.0, λ other low high. true_by (has_base other taken) (found.1 other low high))

first_found : (taken : List ℕ) → FoundIn (λ base. not (has_base base taken)) 1 32767 (first_free taken)
unfolding first_free
first_found taken = found_in (λ base. not (has_base base taken)) 32767 1

least : (taken : List ℕ) → length (seen_of taken) ≤ PARTITIONS → IsLeastFree (least_free taken) taken
least taken few =
    let free = free_by taken (first_free taken) few (first_found taken) in
    record { valid = least_free_base taken; free = free.0; least = free.1 }

-- ---- each definition in turn
rest_some : (base : ℕ) (all : List (Option ℕ)) → count_by is_none (Some base ∷ all) ≡ count_by is_none all
rest_some base all = omega (arith, sum_by-cons (λ k. cond (is_none k) 1 0) (Some base) all)

rest_none : (all : List (Option ℕ)) → count_by is_none (None ∷ all) ≡ 1 + count_by is_none all
rest_none all = sum_by-cons (λ k. cond (is_none k) 1 0) None all

next_few : (taken : List ℕ) (given : Option ℕ) (all : List (Option ℕ)) → length (seen_of taken) + count_by is_none (given ∷ all) ≤ PARTITIONS
    → length (seen_of (taken_after taken given)) + count_by is_none all ≤ PARTITIONS
next_few taken (Some base) all few = omega (arith, few, rest_some base all)
next_few taken None all few = omega (arith, few, rest_none all, seen_more taken (least_free taken))

all_free : (definitions : List Definition) (taken : List ℕ) → length (seen_of taken) + count_by is_none (bases_given definitions) ≤ PARTITIONS → AllGetFree taken definitions
all_free [] taken few = tt
all_free (definition ∷ rest) taken few =
    ((λ none. least taken (omega (arith, few))), all_free rest (taken_after taken definition.base) (next_few taken definition.base (bases_given rest) few))

cons_same : (o : Option ℕ) (xs ys : List ℕ) → xs ≡ ys → cons_option o xs ≡ cons_option o ys
cons_same o xs ys h = ap (cons_option o) h

named_by_key : (definitions : List Definition) → named (bases_given definitions) ≡ filter_map (λ definition. definition.base) definitions
named_by_key [] = refl
named_by_key (definition ∷ rest) = cons_same definition.base (named (bases_given rest)) (filter_map (λ d. d.base) rest) (named_by_key rest)

pub generated_bases_are_free : GeneratedBasesAreFree
generated_bases_are_free definitions sound =
    let room : partition_count (bases_given definitions) ≤ PARTITIONS = sound.room in
    all_free definitions (filter_map (λ definition. definition.base) definitions)
    (subst (λ (taken : List ℕ). length (seen_of taken) + count_by is_none (bases_given definitions) ≤ PARTITIONS) (named_by_key definitions) room)
