-- The rows of a graph: by their places, and links taken from them, or put in.
use Rattle.std.proofs.Common.{◌≡◌, ℕ, zero, suc, ◌+◌, ◌<◌, ◌≤◌, Bool, true, false, ◌==◌, ◌&&◌, ◌||◌, nat_lt, List, [], ◌∷◌, ◌++◌, length, map, get_or}
use Rattle.std.proofs.Common.{filter, refl, ap, sym, ◌∙◌, append_assoc, inl, inr, zero-add, arith}
use Rattle.std.specs.List.{enumerate_from, list_all, list_any}
use Rattle.std.proofs.lemmas.Bool.{and_from, and_parts, eqb-true, false≢true, lt-ltb, ltb-true, or_cases, or_left, or_parts, or_right}
use Rattle.std.proofs.lemmas.Bool.Decides.{nat_tests}
use Rattle.std.proofs.lemmas.List.Folds.{list_all-append, list_any-append}
use Rattle.fabric_parts.specs.Cable.{is_same_port}
use Rattle.fabric_parts.specs.declared.cable.PortRef.{PortRef}
use Rattle.smp_wire.proofs.CableLemmas.{same_port}
use Rattle.sweep.specs.Graph.{count_at, rise_above}
use Rattle.sweep.specs.Recabled.{links_with}
use Rattle.sweep.specs.declared.graph.GraphLink.{GraphLink}
use Rattle.sweep.specs.declared.graph.GraphSwitch.{GraphSwitch}

-- ---- rows by their places
pub made_long : (f : ℕ → List GraphLink → List GraphLink) (n : ℕ) (rows : List (List GraphLink))
    → length (map (λ (place, links). f place links) (enumerate_from n rows)) ≡ length rows
made_long f n [] = refl
made_long f n (row ∷ rows) = ap suc (made_long f (n + 1) rows)

pub made_at : (f : ℕ → List GraphLink → List GraphLink) (n : ℕ) (rows : List (List GraphLink)) (k : ℕ) → k < length rows
    → get_or (map (λ (place, links). f place links) (enumerate_from n rows)) k [] ≡ f (n + k) (get_or rows k [])
made_at f n [] k within = absurd (omega (arith, within))
made_at f n (row ∷ rows) zero within = let e : n ≡ n + 0 = omega arith in ap (λ place. f place row) e
made_at f n (row ∷ rows) (suc k) within =
    let e : n + 1 + k ≡ n + suc k = omega arith in
    made_at f (n + 1) rows k (omega (arith, within)) ∙ ap (λ place. f place (get_or rows k [])) e

pub made_there : (f : ℕ → List GraphLink → List GraphLink) (rows : List (List GraphLink)) (k : ℕ) → k < length rows
    → get_or (map (λ (place, links). f place links) (enumerate_from 0 rows)) k [] ≡ f k (get_or rows k [])
made_there f rows k within = made_at f 0 rows k within ∙ ap (λ place. f place (get_or rows k [])) (zero-add k)

pub row_within : (test : GraphLink → Bool) (rows : List (List GraphLink)) (k : ℕ) → list_any test (get_or rows k []) ≡ true → k < length rows
row_within test [] k some = absurd (false≢true some)
row_within test (row ∷ rows) zero some = omega arith
row_within test (row ∷ rows) (suc k) some = let less = row_within test rows k some in omega (arith, less)

pub count_within : (switches : List GraphSwitch) (k : ℕ) → 1 ≤ count_at switches k → k < length switches
count_within [] k some = absurd (omega (arith, some))
count_within (switch ∷ switches) zero some = omega arith
count_within (switch ∷ switches) (suc k) some = let less = count_within switches k some in omega (arith, less)

-- ---- what is kept of a list
pub all_kept : {X : Type 0} (keep one other : X → Bool) → ((x : X) → keep x ≡ true → one x ≡ true → other x ≡ true) → (xs : List X)
    → list_all one xs ≡ true → list_all other (filter keep xs) ≡ true
all_kept keep one other implies [] all = refl
all_kept keep one other implies (x ∷ xs) all = by (keep x) refl (all_kept keep one other implies xs parts.1)
  where
    parts : (one x ≡ true) × (list_all one xs ≡ true)
    parts = and_parts (one x) (list_all one xs) all

    by : (b : Bool) → keep x ≡ b → list_all other (filter keep xs) ≡ true → list_all other (filter keep (x ∷ xs)) ≡ true
    by true is rest = rw is (and_from (other x) _ (implies x is parts.0) rest)
    by false is rest = rw is rest

pub any_kept : {X : Type 0} (keep test : X → Bool) → ((x : X) → test x ≡ true → keep x ≡ true) → (xs : List X)
    → list_any test xs ≡ true → list_any test (filter keep xs) ≡ true
any_kept keep test implies [] some = some
any_kept keep test implies (x ∷ xs) some = by (keep x) refl (λ later. any_kept keep test implies xs later)
  where
    by : (b : Bool) → keep x ≡ b → (list_any test xs ≡ true → list_any test (filter keep xs) ≡ true) → list_any test (filter keep (x ∷ xs)) ≡ true
    by true is rest = elim (or_cases (test x) (list_any test xs) some) [
      | inl here ↦ rw is (or_left (test x) _ here)
      | inr later ↦ rw is (or_right (test x) _ (rest later))
    ]
    by false is rest = elim (or_cases (test x) (list_any test xs) some) [
      | inl here ↦ absurd (false≢true (sym is ∙ implies x here))
      | inr later ↦ rw is (rest later)
    ]

-- ---- ports that rise
pub rise_lower : (low last : ℕ) (links : List GraphLink) → low ≤ last → rise_above last links ≡ true → rise_above low links ≡ true
rise_lower low last [] under rise = refl
rise_lower low last (link ∷ links) under rise =
    let parts = and_parts (nat_lt last link.port) _ rise in
    let above = ltb-true last link.port parts.0 in
    and_from (nat_lt low link.port) _ (lt-ltb low link.port (omega (arith, above, under))) parts.1

pub rise_kept : (keep : GraphLink → Bool) (last : ℕ) (links : List GraphLink) → rise_above last links ≡ true → rise_above last (filter keep links) ≡ true
rise_kept keep last [] rise = refl
rise_kept keep last (link ∷ links) rise = by (keep link) refl (λ low h. rise_kept keep low links h)
  where
    parts : (nat_lt last link.port ≡ true) × (rise_above link.port links ≡ true)
    parts = and_parts (nat_lt last link.port) _ rise

    by : (b : Bool) → keep link ≡ b → ((low : ℕ) → rise_above low links ≡ true → rise_above low (filter keep links) ≡ true)
        → rise_above last (filter keep (link ∷ links)) ≡ true
    by true is rest = rw is (and_from (nat_lt last link.port) _ parts.0 (rest link.port parts.1))
    by false is rest =
        rw is (rest last (rise_lower last link.port links (let above = ltb-true last link.port parts.0 in omega (arith, above)) parts.1))

pub none_lesser : (number last : ℕ) (links : List GraphLink) → number ≤ last → rise_above last links ≡ true → filter (λ link. nat_lt link.port number) links ≡ []
none_lesser number last [] under rise = refl
none_lesser number last (link ∷ links) under rise =
    let parts = and_parts (nat_lt last link.port) _ rise in
    let above = ltb-true last link.port parts.0 in
    let past : nat_lt link.port number ≡ false = grind (arith, nat_tests, above, under) in
    rw past (none_lesser number link.port links (omega (arith, above, under)) parts.1)

-- one more link, among those of lesser and of greater ports
put_rises : (number last : ℕ) (to : PortRef) (links : List GraphLink) → last < number → rise_above last links ≡ true
    → rise_above last (filter (λ link. nat_lt link.port number) links ++ record { port = number; to = to } ∷ filter (λ link. nat_lt number link.port) links) ≡ true
put_rises number last to [] under rise = and_from (nat_lt last number) true (lt-ltb last number under) refl
put_rises number last to (link ∷ links) under rise = by (nat_lt link.port number) refl (λ less h. put_rises number link.port to links less h)
  where
    parts : (nat_lt last link.port ≡ true) × (rise_above link.port links ≡ true)
    parts = and_parts (nat_lt last link.port) _ rise

    greater : number ≤ link.port → rise_above number (filter (λ link. nat_lt number link.port) (link ∷ links)) ≡ true
    greater past = at (nat_lt number link.port) refl
      where
        at : (b : Bool) → nat_lt number link.port ≡ b → rise_above number (filter (λ link. nat_lt number link.port) (link ∷ links)) ≡ true
        at true is = rw is (and_from (nat_lt number link.port) _ is (rise_kept (λ link. nat_lt number link.port) link.port links parts.1))
        at false is = rw is (rise_kept (λ link. nat_lt number link.port) number links (rise_lower number link.port links past parts.1))

    by : (b : Bool) → nat_lt link.port number ≡ b
        → (link.port < number → rise_above link.port links ≡ true
        → rise_above link.port (filter (λ link. nat_lt link.port number) links ++ record { port = number; to = to } ∷ filter (λ link. nat_lt number link.port) links) ≡ true)
        → rise_above last (filter (λ link. nat_lt link.port number) (link ∷ links) ++ record { port = number; to = to } ∷ filter (λ link. nat_lt number link.port) (link ∷ links)) ≡ true
    by true is rest =
        let less = ltb-true link.port number is in
        let other : nat_lt number link.port ≡ false = grind (arith, nat_tests, less) in
        rw (is, other) (and_from (nat_lt last link.port) _ parts.0 (rest less parts.1))
    by false is rest =
        let past : number ≤ link.port = grind (arith, nat_tests, is) in
        rw (is, none_lesser number link.port links past parts.1) (and_from (nat_lt last number) _ (lt-ltb last number under) (greater past))

pub with_rises : (number last : ℕ) (to : PortRef) (links : List GraphLink) → last < number → rise_above last links ≡ true
    → rise_above last (links_with number to links) ≡ true
with_rises number last to links under rise =
    rw (append_assoc (filter (λ link. nat_lt link.port number) links) (record { port = number; to = to } ∷ []) (filter (λ link. nat_lt number link.port) links))
    (put_rises number last to links under rise)

-- ---- a port has one link
pub above : (last number : ℕ) (links : List GraphLink) → rise_above last links ≡ true → list_any (λ link. link.port == number) links ≡ true → last < number
above last number [] rise some = absurd (false≢true some)
above last number (link ∷ links) rise some =
    let parts = and_parts (nat_lt last link.port) _ rise in
    let more = ltb-true last link.port parts.0 in
    elim (or_cases (link.port == number) _ some) [
      | inl here ↦ (let same = eqb-true link.port number here in omega (arith, more, same))
      | inr later ↦ (let past = above link.port number links parts.1 later in omega (arith, more, past))
    ]

pub by_port : (number : ℕ) (x : PortRef) (links : List GraphLink) → list_any (λ link. (link.port == number) && is_same_port link.to x) links ≡ true
    → list_any (λ link. link.port == number) links ≡ true
by_port number x links =
    Rattle.step_results.proofs.ListLemmas.list_any_weaker (λ link. (link.port == number) && is_same_port link.to x) (λ link. link.port == number)
    (λ link h. (and_parts (link.port == number) _ h).0) links

pub linked_once : (last number : ℕ) (x y : PortRef) (links : List GraphLink) → rise_above last links ≡ true
    → list_any (λ link. (link.port == number) && is_same_port link.to x) links ≡ true
    → list_any (λ link. (link.port == number) && is_same_port link.to y) links ≡ true → x ≡ y
linked_once last number x y [] rise one other = absurd (false≢true one)
linked_once last number x y (link ∷ links) rise one other =
    elim (or_cases ((link.port == number) && is_same_port link.to x) _ one) [
      | inl here ↦ elim (or_cases ((link.port == number) && is_same_port link.to y) _ other) [
        | inl there ↦ sym (same_port link.to x (and_parts (link.port == number) _ here).1) ∙ same_port link.to y (and_parts (link.port == number) _ there).1
        | inr later ↦ absurd (clash (and_parts (link.port == number) _ here).0 (by_port number y links later))
      ]
      | inr behind ↦ elim (or_cases ((link.port == number) && is_same_port link.to y) _ other) [
        | inl there ↦ absurd (clash (and_parts (link.port == number) _ there).0 (by_port number x links behind))
        | inr later ↦ linked_once link.port number x y links parts.1 behind later
      ]
    ]
  where
    parts : (nat_lt last link.port ≡ true) × (rise_above link.port links ≡ true)
    parts = and_parts (nat_lt last link.port) _ rise

    clash : (link.port == number) ≡ true → list_any (λ link. link.port == number) links ≡ true → ⊥
    clash is more =
        let same = eqb-true link.port number is in
        let past = above link.port number links parts.1 more in
        omega (arith, same, past)

-- ---- with one more link
all_with : (test : GraphLink → Bool) (xs ys : List GraphLink) (link : GraphLink) → list_all test xs ≡ true → test link ≡ true → list_all test ys ≡ true
    → list_all test (xs ++ link ∷ [] ++ ys) ≡ true
all_with test xs ys link before it behind =
    list_all-append test (xs ++ link ∷ []) ys
    ∙ and_from (list_all test (xs ++ link ∷ [])) _
    (list_all-append test xs (link ∷ []) ∙ and_from (list_all test xs) _ before (and_from (test link) true it refl)) behind

any_with : (test : GraphLink → Bool) (xs ys : List GraphLink) (link : GraphLink)
    → list_any test (xs ++ link ∷ [] ++ ys) ≡ ((list_any test xs || (test link || false)) || list_any test ys)
any_with test xs ys link =
    list_any-append test (xs ++ link ∷ []) ys ∙ ap (λ (b : Bool). b || list_any test ys) (list_any-append test xs (link ∷ []))

-- each link that was there is of a lesser or a greater port
pub all_put : (number : ℕ) (to : PortRef) (one other : GraphLink → Bool) → ((x : GraphLink) → one x ≡ true → other x ≡ true) → (links : List GraphLink)
    → list_all one links ≡ true → other (record { port = number; to = to }) ≡ true → list_all other (links_with number to links) ≡ true
all_put number to one other implies links all it =
    all_with other (filter (λ link. nat_lt link.port number) links) (filter (λ link. nat_lt number link.port) links) (record { port = number; to = to })
    (all_kept (λ link. nat_lt link.port number) one other (λ x keep h. implies x h) links all) it
    (all_kept (λ link. nat_lt number link.port) one other (λ x keep h. implies x h) links all)

pub one_put : (number : ℕ) (to : PortRef) (test : GraphLink → Bool) (links : List GraphLink) → test (record { port = number; to = to }) ≡ true
    → list_any test (links_with number to links) ≡ true
one_put number to test links it =
    any_with test (filter (λ link. nat_lt link.port number) links) (filter (λ link. nat_lt number link.port) links) (record { port = number; to = to })
    ∙ or_left _ _ (or_right _ _ (or_left (test (record { port = number; to = to })) false it))

lesser_or_greater : (number : ℕ) (test : GraphLink → Bool) (links : List GraphLink) → list_any (λ link. link.port == number) links ≡ false
    → list_any test links ≡ true
    → (list_any test (filter (λ link. nat_lt link.port number) links) || list_any test (filter (λ link. nat_lt number link.port) links)) ≡ true
lesser_or_greater number test [] free some = some
lesser_or_greater number test (link ∷ links) free some =
    by (nat_lt link.port number) (nat_lt number link.port) refl refl (λ later. lesser_or_greater number test links none.1 later)
  where
    none : ((link.port == number) ≡ false) × (list_any (λ link. link.port == number) links ≡ false)
    none = or_parts (link.port == number) _ free

    swap : (a b c : Bool) → b || c ≡ true → (b || (a || c)) ≡ true
    swap a true c h = refl
    swap true false c h = refl
    swap false false c h = h

    middle : (a b c : Bool) → a ≡ true → (b || (a || c)) ≡ true
    middle a b c h = or_right b _ (or_left a c h)

    more : (a b c : Bool) → b || c ≡ true → ((a || b) || c) ≡ true
    more true b c h = refl
    more false b c h = h

    by : (l g : Bool) → nat_lt link.port number ≡ l → nat_lt number link.port ≡ g
        → (list_any test links ≡ true
        → (list_any test (filter (λ link. nat_lt link.port number) links) || list_any test (filter (λ link. nat_lt number link.port) links)) ≡ true)
        → (list_any test (filter (λ link. nat_lt link.port number) (link ∷ links)) || list_any test (filter (λ link. nat_lt number link.port) (link ∷ links))) ≡ true
    by true true l g rest = absurd (let less = ltb-true link.port number l in let greater = ltb-true number link.port g in omega (arith, less, greater))
    by false false l g rest = absurd (let no = none.0 in let e : (link.port == number) ≡ true = grind (arith, nat_tests, l, g) in false≢true (sym no ∙ e))
    by true false l g rest = elim (or_cases (test link) _ some) [
      | inl here ↦ rw (l, g) (or_left _ _ (or_left (test link) _ here))
      | inr later ↦ rw (l, g) (more (test link) _ _ (rest later))
    ]
    by false true l g rest = elim (or_cases (test link) _ some) [
      | inl here ↦ rw (l, g) (middle (test link) _ _ here)
      | inr later ↦ rw (l, g) (swap (test link) _ _ (rest later))
    ]

pub still_there : (number : ℕ) (to : PortRef) (test : GraphLink → Bool) (links : List GraphLink) → list_any (λ link. link.port == number) links ≡ false
    → list_any test links ≡ true → list_any test (links_with number to links) ≡ true
still_there number to test links free some =
    any_with test (filter (λ link. nat_lt link.port number) links) (filter (λ link. nat_lt number link.port) links) (record { port = number; to = to })
    ∙ around _ (test (record { port = number; to = to }) || false) _ (lesser_or_greater number test links free some)
  where
    around : (a b c : Bool) → a || c ≡ true → ((a || b) || c) ≡ true
    around true b c h = refl
    around false true c h = refl
    around false false c h = h
