-- Rows that rise.
use Rattle.std.proofs.Common.{◌≡◌, ◌≢◌, ◌∙◌, inl, inr, ap, refl, sym, ℕ, zero, suc, ◌+◌, ◌<◌, ◌≤◌, true, false, ◌==◌, nat_le, nat_lt, List, [], ◌∷◌, length, get_or, slice_get, arith, Option, Some, None, if◌then◌else◌}
use Rattle.std.specs.List.Sorted.{IsNonDecreasingBy}
use Rattle.std.specs.Option.{option_map_or}
use Rattle.std.proofs.lemmas.Bool.{and_parts, cases_Bool}
use Rattle.std.proofs.lemmas.Bool.Decides.{nat_tests}
use Rattle.dump_file.specs.declared.row.Row.{Row}
use Rattle.dump_file.specs.Sound.{rise}
use Rattle.audit_net.specs.Net.{row_of}

-- ---- LIDs that rise do not fall
at_least : (low top : ℕ) (rows : List Row) → rise low top rows ≡ true → (j : ℕ) (d : Row) → j < length rows → low ≤ (get_or rows j d).lid
at_least low top [] rises j d within = absurd (omega (arith, within))
at_least low top (row ∷ rows) rises zero d within =
    let parts = and_parts (nat_le low row.lid) _ rises in
    grind (arith, nat_tests, parts.0)
at_least low top (row ∷ rows) rises (suc j) d within =
    let outer = and_parts (nat_le low row.lid) _ rises in
    let inner = and_parts (nat_le row.lid top) _ outer.1 in
    let first : low ≤ row.lid = grind (arith, nat_tests, outer.0) in
    let later = at_least (row.lid + 1) top rows inner.1 j d (omega (arith, within)) in
    omega (arith, first, later)

pub rows_sorted : (low top : ℕ) (rows : List Row) → rise low top rows ≡ true → IsNonDecreasingBy (λ row. row.lid) rows
rows_sorted low top [] rises i j d least within = absurd (omega (arith, within))
rows_sorted low top (row ∷ rows) rises zero zero d least within = omega arith
rows_sorted low top (row ∷ rows) rises zero (suc j) d least within =
    let outer = and_parts (nat_le low row.lid) _ rises in
    let inner = and_parts (nat_le row.lid top) _ outer.1 in
    let later = at_least (row.lid + 1) top rows inner.1 j d (omega (arith, within)) in
    omega (arith, later)
rows_sorted low top (row ∷ rows) rises (suc i) zero d least within = absurd (omega (arith, least))
rows_sorted low top (row ∷ rows) rises (suc i) (suc j) d least within =
    let outer = and_parts (nat_le low row.lid) _ rises in
    let inner = and_parts (nat_le row.lid top) _ outer.1 in
    rows_sorted (row.lid + 1) top rows inner.1 i j d (omega (arith, least)) (omega (arith, within))

-- ---- the row that halving finds
pub none_above : (lid low top : ℕ) (rows : List Row) → rise low top rows ≡ true → lid < low → row_of lid rows ≡ None
none_above lid low top [] rises below = refl
none_above lid low top (row ∷ rows) rises below =
    let outer = and_parts (nat_le low row.lid) _ rises in
    let inner = and_parts (nat_le row.lid top) _ outer.1 in
    let first : low ≤ row.lid = grind (arith, nat_tests, outer.0) in
    let apart : row.lid ≢ lid = λ same. absurd (omega (arith, first, below, same)) in
    let other : (row.lid == lid) ≡ false = grind (arith, nat_tests, apart) in
    rw other (none_above lid (row.lid + 1) top rows inner.1 (omega (arith, first, below)))

pub found_is : (lid low top i : ℕ) (rows : List Row) (found : Row) → rise low top rows ≡ true → slice_get rows i ≡ Some found → found.lid ≡ lid → row_of lid rows ≡ Some found
found_is lid low top i [] found rises there its = absurd (cc)
found_is lid low top zero (row ∷ rows) found rises there its =
    let same : Some row ≡ Some found = there in
    let here : row.lid ≡ lid = ap (λ (o : Option Row). option_map_or (λ r. r.lid) o 0) same ∙ its in
    let is : (row.lid == lid) ≡ true = grind (arith, nat_tests, here) in
    (rw is refl) ∙ same
found_is lid low top (suc i) (row ∷ rows) found rises there its =
    let outer = and_parts (nat_le low row.lid) _ rises in
    let inner = and_parts (nat_le row.lid top) _ outer.1 in
    let later = found_is lid (row.lid + 1) top i rows found inner.1 there its in
    elim (cases_Bool (row.lid == lid)) [
      | inl here ↦
          let same : row.lid ≡ lid = grind (arith, nat_tests, here) in
          let none : None ≡ Some found = sym (none_above lid (row.lid + 1) top rows inner.1 (omega (arith, same))) ∙ later in
          absurd (cc)
      | inr other ↦ rw other later
    ]

abbrev pub if_its : ℕ → Option Row → Option Row
if_its lid (Some row) = if row.lid == lid then Some row else None
if_its lid None = None

pub halved : (lid place low top : ℕ) (rows : List Row) → rise low top rows ≡ true
    → ((k : ℕ) (d : Row) → k < place → k < length rows → nat_lt (get_or rows k d).lid lid ≡ true)
    → ((d : Row) → place < length rows → nat_lt (get_or rows place d).lid lid ≡ false)
    → row_of lid rows ≡ if_its lid (slice_get rows place)
halved lid place low top [] rises under over = refl
halved lid zero low top (row ∷ rows) rises under over =
    let outer = and_parts (nat_le low row.lid) _ rises in
    let inner = and_parts (nat_le row.lid top) _ outer.1 in
    let not_under : nat_lt row.lid lid ≡ false = over row (omega arith) in
    elim (cases_Bool (row.lid == lid)) [
      | inl here ↦ rw here refl
      | inr other ↦
          let least : lid ≤ row.lid = grind (arith, nat_tests, not_under) in
          rw other (none_above lid (row.lid + 1) top rows inner.1 (omega (arith, least)))
    ]
halved lid (suc place) low top (row ∷ rows) rises under over =
    let outer = and_parts (nat_le low row.lid) _ rises in
    let inner = and_parts (nat_le row.lid top) _ outer.1 in
    let first : nat_lt row.lid lid ≡ true = under 0 row (omega arith) (omega arith) in
    let other : (row.lid == lid) ≡ false = grind (arith, nat_tests, first) in
    rw other (halved lid place (row.lid + 1) top rows inner.1
    (λ k d less within. under (suc k) d (omega (arith, less)) (omega (arith, within)))
    (λ d within. over d (omega (arith, within))))
