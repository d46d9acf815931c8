-- Whose LIDs are, with one more row or table.
use Rattle.std.proofs.Common.{◌≡◌, ◌∙◌, ap, refl, sym, ℕ, ◌+◌, ◌-◌, ◌<◌, true, false, ◌==◌, nat_le, nat_lt, List, [], ◌∷◌, ◌++◌, get_or, length, slice_get, take, Option, Some, None, arith}
use Rattle.std.specs.Option.{option_map_or, option_or}
use Rattle.std.proofs.lemmas.Bool.{and_parts}
use Rattle.std.proofs.lemmas.Bool.Decides.{nat_tests}
use Rattle.std.proofs.lemmas.List.{append-nil, flat_map_more, take_more}
use Rattle.dump_file.specs.declared.heading.Heading.{Heading}
use Rattle.dump_file.specs.declared.row.Row.{Row}
use Rattle.dump_file.specs.declared.table.Table.{Table}
use Rattle.dump_file.specs.Index.{KnowsEnds, end_known}
use Rattle.dump_file.specs.Row.{end_of, is_above, said_of}
use Rattle.dump_file.specs.Sound.{StandUnder, rise}
use Rattle.dump_file.specs.Table.{rows_of, table_of}
use Rattle.dump_file.proofs.SoundLemmas.{end_more, or_before, or_none, rows_of_closed}

end_join : (lid : ℕ) (one other : List Row) → end_of lid (one ++ other) ≡ option_or (end_of lid one) (end_of lid other)
end_join lid [] other = refl
end_join lid (first ∷ rest) other = ap (option_or (said_of lid first)) (end_join lid rest other) ∙ or_before (said_of lid first) (end_of lid rest) (end_of lid other)

-- ---- of rows whose LIDs rise none has a LID above the last
says_nothing : (lid : ℕ) (row : Row) → nat_lt row.lid lid ≡ true → said_of lid row ≡ None
says_nothing lid row under = let other : (row.lid == lid) ≡ false = grind (arith, nat_tests, under) in rw other refl

first_under : (low top lid : ℕ) (first : Row) (rest : List Row) → rise low top (first ∷ rest) ≡ true
    → option_map_or (λ row. nat_lt row.lid lid) (slice_get (first ∷ rest) (length rest)) true ≡ true → nat_lt first.lid lid ≡ true
first_under low top lid first [] rises above = above
first_under low top lid first (second ∷ rest) rises above =
    let outer = and_parts (nat_le low first.lid) _ rises in
    let inner = and_parts (nat_le first.lid top) _ outer.1 in
    let next = (and_parts (nat_le (first.lid + 1) second.lid) _ inner.1).0 in
    let later = first_under (first.lid + 1) top lid second rest inner.1 above in
    grind (arith, nat_tests, later, next)

none_under : (low top lid : ℕ) (first : Row) (rest : List Row) → rise low top (first ∷ rest) ≡ true
    → option_map_or (λ row. nat_lt row.lid lid) (slice_get (first ∷ rest) (length rest)) true ≡ true → end_of lid (first ∷ rest) ≡ None
none_under low top lid first [] rises above = ap (λ (said : Option ℕ). option_or said None) (says_nothing lid first above)
none_under low top lid first (second ∷ rest) rises above =
    let outer = and_parts (nat_le low first.lid) _ rises in
    let inner = and_parts (nat_le first.lid top) _ outer.1 in
    ap (λ (said : Option ℕ). option_or said (end_of lid (second ∷ rest))) (says_nothing lid first (first_under low top lid first (second ∷ rest) rises above))
    ∙ none_under (first.lid + 1) top lid second rest inner.1 above

pub end_above : (lid : ℕ) (heading : Option Heading) (before rows : List Row) → StandUnder heading rows → is_above rows lid ≡ true
    → end_of lid before ≡ end_of lid (before ++ rows)
end_above lid heading before [] stand above = ap (end_of lid) (sym (append-nil before))
end_above lid None before (first ∷ rest) stand above = absurd cc
end_above lid (Some heading) before (first ∷ rest) stand above =
    let last : length (first ∷ rest) - 1 ≡ length rest = omega arith in
    let highest = sym (ap (λ i. option_map_or (λ row. nat_lt row.lid lid) (slice_get (first ∷ rest) i) true) last) ∙ above in
    sym (end_join lid before (first ∷ rest) ∙ ap (option_or (end_of lid before)) (none_under 0 heading.top lid first rest stand highest) ∙ or_none (end_of lid before))

-- ---- the rows of a table that ends
pub knows_closed : (before after : List (Option ℕ)) (tables : List Table) (heading : Heading) (rows : List Row) → KnowsEnds before (rows_of tables)
    → ((lid : ℕ) → end_known after lid ≡ option_or (end_known before lid) (end_of lid rows)) → KnowsEnds after (rows_of (tables ++ table_of heading rows ∷ []))
knows_closed before after tables heading rows knows more lid =
    more lid ∙ ap (λ (end : Option ℕ). option_or end (end_of lid rows)) (knows lid)
    ∙ sym (end_join lid (rows_of tables) rows) ∙ ap (end_of lid) (sym (rows_of_closed tables heading rows))

-- ---- one more row of those that a walk looks at, and one more table
pub row_more : (start : ℕ → Option ℕ) (before after : List (Option ℕ)) (rows : List Row) (index : ℕ) (row none : Row) → index < length rows → get_or rows index none ≡ row
    → ((lid : ℕ) → end_known before lid ≡ option_or (start lid) (end_of lid (take index rows)))
    → ((lid : ℕ) → end_known after lid ≡ option_or (end_known before lid) (said_of lid row))
    → (lid : ℕ) → end_known after lid ≡ option_or (start lid) (end_of lid (take (index + 1) rows))
row_more start before after rows index row none within here so_far more lid =
    more lid ∙ ap (λ (end : Option ℕ). option_or end (said_of lid row)) (so_far lid)
    ∙ sym (or_before (start lid) (end_of lid (take index rows)) (said_of lid row))
    ∙ ap (option_or (start lid)) (sym (end_more lid (take index rows) row) ∙ ap (λ (one : Row). end_of lid (take index rows ++ one ∷ [])) (sym here)
    ∙ ap (end_of lid) (sym (take_more rows index none within)))

pub table_more : (before after : List (Option ℕ)) (tables : List Table) (index : ℕ) (table none : Table) → index < length tables → get_or tables index none ≡ table
    → KnowsEnds before (rows_of (take index tables))
    → ((lid : ℕ) → end_known after lid ≡ option_or (end_known before lid) (end_of lid table.rows))
    → KnowsEnds after (rows_of (take (index + 1) tables))
table_more before after tables index table none within here so_far more lid =
    more lid ∙ ap (λ (end : Option ℕ). option_or end (end_of lid table.rows)) (so_far lid)
    ∙ sym (end_join lid (rows_of (take index tables)) table.rows)
    ∙ ap (end_of lid) (flat_map_more (λ one. one.rows) [] (take index tables) table)
    ∙ ap (λ (one : Table). end_of lid (rows_of (take index tables ++ one ∷ []))) (sym here)
    ∙ ap (λ (some : List Table). end_of lid (rows_of some)) (sym (take_more tables index none within))
