-- Bases that are put in order one by one.
use Rattle.std.proofs.Common.{◌≡◌, ℕ, ◌<◌, Bool, true, false, ◌==◌, ◌||◌, nat_lt, List, [], ◌∷◌, ◌++◌, map, refl, sym, ap, ◌∙◌, inl, inr, arith}
use Rattle.std.specs.List.{AllByRecursion, list_all, list_any}
use Rattle.std.proofs.lemmas.Bool.{and_parts, cases_Bool, eqb-true}
use Rattle.std.proofs.lemmas.Bool.Decides.{nat_tests}
use Rattle.std.specs.List.Sorted.{IsStrictlyIncreasing}
use Rattle.step_results.proofs.TestLemmas.{or_turned}
use Rattle.step_results.proofs.ListLemmas.{all_above}
use Rattle.step_results.proofs.RisingLemmas.{Rises, rises, same_rising}
use Rattle.partition_file.specs.declared.heading.Heading.{Heading}
use Rattle.partition_file.specs.Members.{AreSoundHeadings, bases_in}
use Rattle.pkey_rules.specs.PKey.{is_base}
use Rattle.partition_reports.specs.Changes.{bases_named, rising_bases, with_base}

above_all : (x base : ℕ) (bases : List ℕ) → x < base → AllByRecursion (λ y. x < y) bases → AllByRecursion (λ y. x < y) (with_base base bases)
above_all x base [] less above = (less, tt)
above_all x base (first ∷ rest) less above = elim (cases_Bool (nat_lt base first)) [
  | inl here ↦ rw here (less, above)
  | inr later ↦ rw later (elim (cases_Bool (base == first)) [
    | inl same ↦ rw same above
    | inr apart ↦ rw apart (above.0, above_all x base rest less above.1)
  ])
]

rises_with : (base : ℕ) (bases : List ℕ) → Rises bases → Rises (with_base base bases)
rises_with base [] rising = (tt, tt)
rises_with base (first ∷ rest) rising = elim (cases_Bool (nat_lt base first)) [
  | inl here ↦
      let less : base < first = grind (arith, nat_tests, here) in
      rw here ((less, all_above base first rest less rising.0), rising)
  | inr later ↦ rw later (elim (cases_Bool (base == first)) [
    | inl same ↦ rw same rising
    | inr apart ↦
        let more : first < base = grind (arith, nat_tests, later, apart) in
        rw apart (above_all first base rest more rising.0, rises_with base rest rising.1)
  ])
]

twice : (a c : Bool) → (a || c) ≡ (a || (a || c))
twice true c = refl
twice false c = refl

there_with : (base : ℕ) (bases : List ℕ) (n : ℕ) → list_any (λ one. one == n) (with_base base bases) ≡ ((base == n) || list_any (λ one. one == n) bases)
there_with base [] n = refl
there_with base (first ∷ rest) n = elim (cases_Bool (nat_lt base first)) [
  | inl here ↦ rw here refl
  | inr later ↦ rw later (elim (cases_Bool (base == first)) [
    | inl same ↦
        let one : base ≡ first = eqb-true base first same in
        rw same (rw one (twice (first == n) (list_any (λ one. one == n) rest)))
    | inr apart ↦ rw apart (rw (there_with base rest n) (or_turned (first == n) (base == n) (list_any (λ one. one == n) rest)))
  ])
]

pub rising_rises : (headings : List Heading) → Rises (rising_bases headings)
rising_rises [] = tt
rising_rises (heading ∷ headings) = rises_with heading.base (rising_bases headings) (rising_rises headings)

pub rising_there : (headings : List Heading) (n : ℕ) → list_any (λ one. one == n) (rising_bases headings) ≡ list_any (λ heading. heading.base == n) headings
rising_there [] n = refl
rising_there (heading ∷ headings) n =
    there_with heading.base (rising_bases headings) n ∙ ap (λ b. (heading.base == n) || b) (rising_there headings n)

mapped_both : (before after : List Heading) (n : ℕ)
    → list_any (λ one. one == n) (map (λ heading. heading.base) before ++ map (λ heading. heading.base) after) ≡ list_any (λ heading. heading.base == n) (before ++ after)
mapped_both [] [] n = refl
mapped_both [] (heading ∷ after) n = rw (mapped_both [] after n) refl
mapped_both (heading ∷ before) after n = rw (mapped_both before after n) refl

-- what is sorted and has the same bases is the list of them
pub sorted_bases : (before after : List Heading) (sorted : List ℕ) → IsStrictlyIncreasing sorted
    → ((n : ℕ) → list_any (λ one. one == n) sorted ≡ list_any (λ one. one == n) (map (λ heading. heading.base) before ++ map (λ heading. heading.base) after))
    → sorted ≡ rising_bases (before ++ after)
sorted_bases before after sorted order same =
    same_rising sorted (rising_bases (before ++ after)) (rises sorted order) (rising_rises (before ++ after))
    (λ n. same n ∙ mapped_both before after n ∙ sym (rising_there (before ++ after) n))

-- ---- the bases of partitions
base_with : (base : ℕ) (bases : List ℕ) → is_base base ≡ true → list_all is_base bases ≡ true → list_all is_base (with_base base bases) ≡ true
base_with base [] one all = rw one refl
base_with base (first ∷ rest) one all = elim (cases_Bool (nat_lt base first)) [
  | inl here ↦ rw (here, one) all
  | inr later ↦ rw later (elim (cases_Bool (base == first)) [
    | inl same ↦ rw same all
    | inr apart ↦
        let parts = and_parts (is_base first) _ all in
        rw (apart, parts.0) (base_with base rest one parts.1)
  ])
]

rising_are_bases : (headings : List Heading) → list_all is_base (bases_in headings) ≡ true → list_all is_base (rising_bases headings) ≡ true
rising_are_bases [] all = refl
rising_are_bases (heading ∷ headings) all =
    let parts = and_parts (is_base heading.base) _ all in
    base_with heading.base (rising_bases headings) parts.0 (rising_are_bases headings parts.1)

both_are_bases : (before after : List Heading) → list_all is_base (bases_in before) ≡ true → list_all is_base (bases_in after) ≡ true
    → list_all is_base (bases_in (before ++ after)) ≡ true
both_are_bases [] after one other = other
both_are_bases (heading ∷ before) after one other =
    let parts = and_parts (is_base heading.base) _ one in
    rw parts.0 (both_are_bases before after parts.1 other)

pub named_are_bases : (before after : List Heading) → AreSoundHeadings before → AreSoundHeadings after → list_all is_base (bases_named before after) ≡ true
named_are_bases before after one other = rising_are_bases (before ++ after) (both_are_bases before after one.bases.valid other.bases.valid)
