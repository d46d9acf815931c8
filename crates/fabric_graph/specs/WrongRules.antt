-- Wrong rules for what is drawn, and the law that each breaks.
use Rattle.std.specs.Prelude.{ℕ, ◌+◌, ◌==◌, ◌&&◌, Bool, false, nat_le, not, List, count_by, length, map, slice_get}
use Rattle.std.specs.List.{list_any, range_with_len}
use Rattle.std.specs.Option.{option_map_or}
use Rattle.fabric_graph.specs.Laws.{CountRule, CountsAllJoined, CountsJoinedRows, DrawsCablesOnce, EdgeRule, NumbersCables}
use Rattle.fabric_graph.specs.Lists.{is_in_list}
use Rattle.cable_looks.specs.Looks.{look_at}
use Rattle.fabric_graph.specs.Ranks.{row_of}
use Rattle.fabric_graph.specs.Rows.{Picture, are_cabled, is_counted, is_plain, joins_rows, leads_down, may_count_at}

-- ---- thick edges count cables that are cut too
abbrev pub leads_down_at : Picture → (rank place : ℕ) → Bool
leads_down_at picture rank place =
    option_map_or (λ cable. leads_down picture.ranks rank cable && is_plain (look_at picture.looks place)) (slice_get picture.cables place) false

abbrev pub with_cut_cables : CountRule
with_cut_cables picture rank place = joins_rows picture rank && leads_down_at picture rank place

abbrev pub CutCablesStayApart : Type 0
CutCablesStayApart = CountsJoinedRows with_cut_cables → ⊥

-- ---- their numbers do, and nothing else
abbrev pub numbers_with_cut_cables : Picture → (ranks : ℕ) → List ℕ
numbers_with_cut_cables picture ranks =
    map (λ rank. count_by (with_cut_cables picture rank) (range_with_len 0 (length picture.cables))) (range_with_len 0 ranks)

abbrev pub CutCablesAreNotNumbered : Type 0
CutCablesAreNotNumbered = NumbersCables numbers_with_cut_cables is_counted → ⊥

-- ---- cables that thick edges count are edges of their own besides
abbrev pub edge_besides : EdgeRule
edge_besides attachments thick picture look cable = not (is_in_list attachments cable)

abbrev pub CountedCablesAreNoEdges : Type 0
CountedCablesAreNoEdges = DrawsCablesOnce edge_besides is_counted → ⊥

-- ---- there is a thick edge if some switch of a row is cabled to some of the next
abbrev pub joins_in_part : Picture → (rank : ℕ) → Bool
joins_in_part picture rank =
    picture.crowded && list_any (λ upper. list_any (are_cabled picture.cables upper) (row_of picture.ranks (rank + 1))) (row_of picture.ranks rank)

abbrev pub of_rows_in_part : CountRule
of_rows_in_part picture rank place = joins_in_part picture rank && may_count_at picture rank place

abbrev pub SomeCablesAreNotAll : Type 0
SomeCablesAreNotAll = CountsJoinedRows of_rows_in_part → ⊥

-- ---- there is none between rows of two switches
abbrev pub of_three_switches : CountRule
of_three_switches picture rank place = nat_le 3 (length (row_of picture.ranks rank)) && is_counted picture rank place

abbrev pub TwoSwitchesAreARow : Type 0
TwoSwitchesAreARow = CountsAllJoined of_three_switches → ⊥

-- ---- there is one below the roots alone
abbrev pub below_roots : CountRule
below_roots picture rank place = (rank == 0) && is_counted picture rank place

abbrev pub LowerRowsAreJoinedToo : Type 0
LowerRowsAreJoinedToo = CountsAllJoined below_roots → ⊥
