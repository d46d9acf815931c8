-- Marks of the LIDs of which rows say another kind.
use Rattle.std.proofs.Common.{◌≡◌, ◌∙◌, inl, inr, ap, refl, sym, ℕ, ◌+◌, ◌<◌, ◌≤◌, Bool, true, false, not, ◌==◌, nat_le, ◌||◌, List, [], ◌∷◌, length, drop, get_or, arith, Option, Some, None}
use Rattle.std.specs.List.{list_all, list_any}
use Rattle.std.specs.Option.{option_and_then, option_map_or}
use Rattle.std.proofs.lemmas.Bool.{and_parts, cases_Bool}
use Rattle.std.proofs.lemmas.Bool.Decides.{nat_tests}
use Rattle.std.proofs.lemmas.List.{drop_all}
use Rattle.step_results.proofs.BoolLemmas.{or_assoc, or_false}
use Rattle.topo_file.specs.Connectivity.{switches}
use Rattle.dump_file.specs.declared.row.Row.{Row}
use Rattle.dump_file.specs.declared.table.Table.{Table}
use Rattle.dump_file.specs.Sound.{is_rising, rise}
use Rattle.topo_file.specs.Rounds.{is_marked}
use Rattle.audit_net.specs.Kinds.{KnowsOthers, says_other}
use Rattle.audit_net.specs.Lids.{is_of_kind, says_kind}
use Rattle.audit_net.specs.Net.{NetState, row_of, table_at}
use Rattle.audit_net.proofs.LidLemmas.{first_row}
use Rattle.audit_net.proofs.NetLemmas.{none_above}

-- ---- the rows of a table
pub record AreOthers (before : List Bool) (of_switch : Bool) (rows : List Row) (index : ℕ) (marks : List Bool) : Type 0 where
  pub long : length marks ≡ length before
  pub marked : (lid : ℕ) → (is_marked marks lid || list_any (says_other of_switch lid) (drop index rows)) ≡ (is_marked before lid || list_any (says_other of_switch lid) rows)

pub other_row : (before : List Bool) (of_switch : Bool) (rows : List Row) (index : ℕ) (marks after : List Bool) (none : Row) → index < length rows
    → AreOthers before of_switch rows index marks → length after ≡ length marks
    → ((lid : ℕ) → is_marked after lid ≡ (is_marked marks lid || says_other of_switch lid (get_or rows index none))) → AreOthers before of_switch rows (index + 1) after
other_row before of_switch rows index marks after none within so_far long marked = record {
  long = long ∙ so_far.long;
  marked = λ lid.
      ap (λ (b : Bool). b || list_any (says_other of_switch lid) (drop (index + 1) rows)) (marked lid)
      ∙ or_assoc (is_marked marks lid) (says_other of_switch lid (get_or rows index none)) (list_any (says_other of_switch lid) (drop (index + 1) rows))
      ∙ ap (λ (rest : List Row). is_marked marks lid || list_any (says_other of_switch lid) rest) (sym (first_row rows index none within)) ∙ so_far.marked lid;
}

pub all_others : (before : List Bool) (of_switch : Bool) (rows : List Row) (index : ℕ) (marks : List Bool) → length rows ≤ index → AreOthers before of_switch rows index marks
    → (lid : ℕ) → is_marked marks lid ≡ (is_marked before lid || list_any (says_other of_switch lid) rows)
all_others before of_switch rows index marks ended so_far lid =
    sym (or_false (is_marked marks lid)) ∙ ap (λ (rest : List Row). is_marked marks lid || list_any (says_other of_switch lid) rest) (sym (drop_all index rows ended)) ∙ so_far.marked lid

-- ---- a LID has one row
abbrev says : Bool → Option Row → Bool
says of_switch found = option_map_or (λ row. is_of_kind of_switch row.destination) found true

one_says : (of_switch : Bool) (lid low top : ℕ) (rows : List Row) → rise low top rows ≡ true → list_any (says_other of_switch lid) rows ≡ not (says of_switch (row_of lid rows))
one_says of_switch lid low top [] rises = refl
one_says of_switch lid low top (row ∷ rows) rises =
    let outer = and_parts (nat_le low row.lid) _ rises in
    let inner = and_parts (nat_le row.lid top) _ outer.1 in
    let rest = one_says of_switch lid (row.lid + 1) top rows inner.1 in
    elim (cases_Bool (row.lid == lid)) [
      | inl here ↦
          let same : row.lid ≡ lid = grind (arith, nat_tests, here) in
          let none : row_of lid rows ≡ None = none_above lid (row.lid + 1) top rows inner.1 (omega (arith, same)) in
          let nothing : list_any (says_other of_switch lid) rows ≡ false = rest ∙ ap (λ (o : Option Row). not (says of_switch o)) none in
          rw (here, nothing) (or_false (not (is_of_kind of_switch row.destination)))
      | inr other ↦ rw other rest
    ]

-- ---- the tables of switches
pub others_at : (net : NetState) (of_switch : Bool) (place lid : ℕ) (before after : Bool) (table : Table) → table_at net place ≡ Some table → is_rising table ≡ true
    → after ≡ (before || list_any (says_other of_switch lid) table.rows) → after ≡ (before || not (says_kind net lid of_switch place))
others_at net of_switch place lid before after table there rises is =
    is ∙ ap (λ (b : Bool). before || b) (one_says of_switch lid 0 table.top table.rows rises
    ∙ sym (ap (λ (o : Option Table). not (says of_switch (option_and_then (λ t. row_of lid t.rows) o))) there))

pub record AreOthersBy (net : NetState) (of_switch : Bool) (index : ℕ) (marks : List Bool) : Type 0 where
  pub long : length marks ≡ 65536
  pub marked : (lid : ℕ) → (is_marked marks lid || list_any (λ place. not (says_kind net lid of_switch place)) (drop index (switches net.plan.nodes)))
      ≡ list_any (λ place. not (says_kind net lid of_switch place)) (switches net.plan.nodes)

-- ---- none says another kind
pub none_other : (test : ℕ → Bool) (xs : List ℕ) → not (list_any (λ x. not (test x)) xs) ≡ list_all test xs
none_other test [] = refl
none_other test (x ∷ xs) = elim (cases_Bool (test x)) [
  | inl passes ↦ rw passes (none_other test xs)
  | inr fails ↦ rw fails refl
]

pub all_say : (net : NetState) (of_switch : Bool) (marks : List Bool) (lid : ℕ) (result : Bool) → KnowsOthers net of_switch marks → result ≡ is_marked marks lid
    → not result ≡ list_all (says_kind net lid of_switch) (switches net.plan.nodes)
all_say net of_switch marks lid result knows is = ap not (is ∙ knows lid) ∙ none_other (says_kind net lid of_switch) (switches net.plan.nodes)
