-- The numbers of adapters' ports: how many are attached to earlier ports.
use Rattle.std.proofs.Common.{ℕ, zero, suc, ◌≡◌, ◌⊎◌, ◌==◌, ◌+◌, ◌≤◌, ◌<◌, ◌&&◌, ◌||◌, ◌∙◌, not, nat_lt, cond, Bool, true, false, List, [], ◌∷◌, ◌++◌, filter, get_or, length}
use Rattle.std.proofs.Common.{Contains, refl, sym, ap, subst, inl, inr, arith}
use Rattle.std.proofs.lemmas.Bool.{and_from, and_parts, cases_order, eq-eqb, eqb-true, false≢true, lt-ltb, ltb-true, or_cases, or_left, or_right}
use Rattle.fabric_parts.specs.declared.cable.PortRef.{PortRef}
use Rattle.updn_routes.specs.NumberLaws.{AdaptersAreNumbered, HaveOwnPlaces, IsAdapters, LidsDoNotCount, NumbersAreLow, NumbersDiffer, SwitchesStandInRows}
use Rattle.updn_routes.specs.Tables.{place_at}
use Rattle.updn_routes.specs.Ties.{is_earlier, number_of_home}
use Rattle.updn_routes.proofs.PlaceLemmas.{fewer}

-- ---- what filters keep
-- where one element passes the weaker test alone, the stronger keeps fewer
fewer_without : (strong weak : PortRef → Bool) → ((t : PortRef) → strong t ≡ true → weak t ≡ true) → (xs : List PortRef) (s : PortRef) → Contains xs s
    → strong s ≡ false → weak s ≡ true → length (filter strong xs) < length (filter weak xs)
fewer_without strong weak implies [] s has gone there = absurd (let within = has.1 in let none : ⊥ = omega (arith, within) in none)
fewer_without strong weak implies (x ∷ xs) s has gone there =
    by_index has.0 has.1 has.2 (λ later. fewer_without strong weak implies xs s later gone there)
  where
    one : (b c : Bool) → b ≡ false → c ≡ true → length (filter strong xs) ≤ length (filter weak xs)
        → length (cond b (x ∷ filter strong xs) (filter strong xs)) < length (cond c (x ∷ filter weak xs) (filter weak xs))
    one b c e f h = rw (e, f) (omega (arith, h))

    more : (b c : Bool) → (b ≡ true → c ≡ true) → length (filter strong xs) < length (filter weak xs)
        → length (cond b (x ∷ filter strong xs) (filter strong xs)) < length (cond c (x ∷ filter weak xs) (filter weak xs))
    more true true i h = omega (arith, h)
    more true false i h = absurd (false≢true (i refl))
    more false true i h = omega (arith, h)
    more false false i h = h

    by_index : (k : ℕ) → k < length (x ∷ xs) → get_or (x ∷ xs) k s ≡ s
        → (Contains xs s → length (filter strong xs) < length (filter weak xs)) → length (filter strong (x ∷ xs)) < length (filter weak (x ∷ xs))
    by_index zero within found later =
        one (strong x) (weak x) (subst (λ (t : PortRef). strong t ≡ false) (sym found) gone) (subst (λ (t : PortRef). weak t ≡ true) (sym found) there)
        (fewer strong weak implies xs)
    by_index (suc k) within found later = more (strong x) (weak x) (implies x) (later (k, omega (arith, within), found))

-- an exchange of neighbours keeps as many
kept_alike : (test : PortRef → Bool) (before after : List PortRef) (one other : PortRef)
    → length (filter test (before ++ (one ∷ other ∷ after))) ≡ length (filter test (before ++ (other ∷ one ∷ after)))
kept_alike test [] after one other = by (test one) (test other)
  where
    by : (b c : Bool) → length (cond b (one ∷ cond c (other ∷ filter test after) (filter test after)) (cond c (other ∷ filter test after) (filter test after)))
        ≡ length (cond c (other ∷ cond b (one ∷ filter test after) (filter test after)) (cond b (one ∷ filter test after) (filter test after)))
    by true true = refl
    by true false = refl
    by false true = refl
    by false false = refl
kept_alike test (x ∷ before) after one other = by (test x) (kept_alike test before after one other)
  where
    by : (b : Bool) → length (filter test (before ++ (one ∷ other ∷ after))) ≡ length (filter test (before ++ (other ∷ one ∷ after)))
        → length (cond b (x ∷ filter test (before ++ (one ∷ other ∷ after))) (filter test (before ++ (one ∷ other ∷ after))))
        ≡ length (cond b (x ∷ filter test (before ++ (other ∷ one ∷ after))) (filter test (before ++ (other ∷ one ∷ after))))
    by true same = ap suc same
    by false same = same

-- ---- which of two ports comes before
abbrev counts : List ℕ → PortRef → PortRef → Bool
counts places home other = not (other.port == 0) && is_earlier places other home

module _ (places : List ℕ) where
  abbrev at : PortRef → ℕ
  at home = place_at places home.node

  abbrev IsBefore : PortRef → PortRef → Type 0
  IsBefore one other = (at one < at other) ⊎ ((at one ≡ at other) × (one.port < other.port))

  is_before : (one other : PortRef) → is_earlier places one other ≡ true → IsBefore one other
  is_before one other earlier = elim (or_cases (nat_lt (at one) (at other)) ((at one == at other) && nat_lt one.port other.port) earlier) [
    | inl low ↦ inl (ltb-true (at one) (at other) low)
    | inr same ↦ let parts = and_parts (at one == at other) (nat_lt one.port other.port) same in
        inr (eqb-true (at one) (at other) parts.0, ltb-true one.port other.port parts.1)
  ]

  earlier_if : (one other : PortRef) → IsBefore one other → is_earlier places one other ≡ true
  earlier_if one other (inl low) = or_left (nat_lt (at one) (at other)) ((at one == at other) && nat_lt one.port other.port) (lt-ltb (at one) (at other) low)
  earlier_if one other (inr same) =
      or_right (nat_lt (at one) (at other)) ((at one == at other) && nat_lt one.port other.port)
      (and_from (at one == at other) (nat_lt one.port other.port) (eq-eqb (at one) (at other) same.0) (lt-ltb one.port other.port same.1))

  after_both : (one other home : PortRef) → IsBefore one other → IsBefore other home → IsBefore one home
  after_both one other home (inl low) (inl more) = inl (omega (arith, low, more))
  after_both one other home (inl low) (inr same) = let even = same.0 in inl (omega (arith, low, even))
  after_both one other home (inr same) (inl more) = let even = same.0 in inl (omega (arith, even, more))
  after_both one other home (inr same) (inr too) =
      let low = same.1 in let more = too.1 in inr (same.0 ∙ too.0, omega (arith, low, more))

  never_before : (home : PortRef) → IsBefore home home → ⊥
  never_before home (inl low) = omega (arith, low)
  never_before home (inr same) = let low = same.1 in omega (arith, low)

  one_of_both : (one other : PortRef) → IsBefore one other ⊎ (IsBefore other one ⊎ ((at one ≡ at other) × (one.port ≡ other.port)))
  one_of_both one other = elim (cases_order (at one) (at other)) [
    | inl even ↦ elim (cases_order one.port other.port) [
      | inl same ↦ inr (inr (even, same))
      | inr apart ↦ elim apart [
        | inl low ↦ inl (inr (even, low))
        | inr high ↦ inr (inl (inr (sym even, high)))
      ]
    ]
    | inr apart ↦ elim apart [
      | inl low ↦ inl (inl low)
      | inr high ↦ inr (inl (inl high))
    ]
  ]

  -- ---- numbers
  adapter_counts : (home other : PortRef) → (other.port == 0) ≡ false → IsBefore other home → counts places home other ≡ true
  adapter_counts home other real before = and_from (not (other.port == 0)) (is_earlier places other home) (ap not real) (earlier_if other home before)

  own_does_not : (home : PortRef) → counts places home home ≡ false
  own_does_not home = by (counts places home home) refl
    where
      by : (b : Bool) → counts places home home ≡ b → b ≡ false
      by true is = absurd (never_before home (is_before home home (and_parts (not (home.port == 0)) (is_earlier places home home) is).1))
      by false is = refl

  module _ (homes : List PortRef) where
    abbrev number : PortRef → ℕ
    number home = number_of_home places homes home

    -- what comes before has the less number
    less : (one other : PortRef) → IsAdapters homes one → IsBefore one other → number one < number other
    less one other is before =
        fewer_without (counts places one) (counts places other)
        (λ t counted. let parts = and_parts (not (t.port == 0)) (is_earlier places t one) counted in
        and_from (not (t.port == 0)) (is_earlier places t other) parts.0 (earlier_if t other (after_both t one other (is_before t one parts.1) before)))
        homes one is.0 (own_does_not one) (adapter_counts other one is.1 before)

    low : (home : PortRef) → IsAdapters homes home → number home < length (filter (λ other. not (other.port == 0)) homes)
    low home is =
        fewer_without (counts places home) (λ other. not (other.port == 0))
        (λ t counted. (and_parts (not (t.port == 0)) (is_earlier places t home) counted).0)
        homes home is.0 (own_does_not home) (ap not is.1)

    differ : (one other : PortRef) → HaveOwnPlaces places homes → IsAdapters homes one → IsAdapters homes other → number one ≡ number other → one ≡ other
    differ one other own is too same = elim (one_of_both one other) [
      | inl before ↦ absurd (let less = less one other is before in let none : ⊥ = omega (arith, less, same) in none)
      | inr rest ↦ elim rest [
        | inl behind ↦ absurd (let less = less other one too behind in let none : ⊥ = omega (arith, less, same) in none)
        | inr even ↦ let node = own one other is.0 too.0 even.0 in let port = even.1 in λ i. record { node = node i; port = port i }
      ]
    ]

    rows : (one between other : PortRef) → HaveOwnPlaces places homes → IsAdapters homes one → IsAdapters homes between → IsAdapters homes other
        → one.node ≡ other.node → number one ≤ number between → number between ≤ number other → between.node ≡ one.node
    rows one between other own is here too node first last = own between one here.0 is.0 even
      where
        same : at one ≡ at other
        same = ap (place_at places) node

        not_below : at between < at one → ⊥
        not_below under = let less = less between one here (inl under) in omega (arith, less, first)

        not_above : at other < at between → ⊥
        not_above over = let less = less other between too (inl over) in omega (arith, less, last)

        even : at between ≡ at one
        even = elim (cases_order (at between) (at one)) [
          | inl equal ↦ equal
          | inr apart ↦ elim apart [
            | inl under ↦ absurd (not_below under)
            | inr over ↦ absurd (not_above (omega (arith, over, same)))
          ]
        ]

pub adapters_are_numbered : AdaptersAreNumbered
adapters_are_numbered = record {
  low = λ places homes home is. low places homes home is;
  differ = λ places homes one other own is too same. differ places homes one other own is too same;
  rows = λ places homes one between other own is here too node first last. rows places homes one between other own is here too node first last;
  lids = λ places before after one other home. kept_alike (counts places home) before after one other;
}
