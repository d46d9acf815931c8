-- What is looked up is what the definitions say.
use Rattle.std.proofs.Common.{◌≡◌, ◌∙◌, ap, refl, sym, ℕ, zero, suc, ◌+◌, ◌-◌, ◌≤◌, inl, inr, false, ◌==◌, List, [], length, slice_get, arith, Option, Some, None, IfSome}
use Rattle.std.specs.Option.{option_and_then, option_map_or}
use Rattle.std.proofs.lemmas.Bool.{cases_lt}
use Rattle.std.proofs.lemmas.Bool.Decides.{nat_tests}
use Rattle.std.proofs.lemmas.Option.{slice_get_past}
use Rattle.dump_file.specs.declared.table.Table.{Table}
use Rattle.topo_file.specs.Node.{ports_at}
use Rattle.topo_file.specs.declared.node.Node.{Node}
use Rattle.audit_net.specs.declared.entry.Entry.{Entry}
use Rattle.audit_net.specs.declared.entry.Entry.TheVariants.{Out, Unreported}
use Rattle.audit_net.specs.declared.following.Turn.{Turn}
use Rattle.audit_net.specs.Following.{turn_by}
use Rattle.audit_net.specs.Lookup.{all_entries, all_turns, column, column_at, entries_of, turn_known, turns_at, turns_of}
use Rattle.audit_net.specs.Net.{NetState, entry, entry_in, table_at, table_of}
use Rattle.audit_plan.proofs.RangeLemmas.{at_range, at_some, none_there, past_range}

-- ---- entries
by_table : (ports lid : ℕ) (found : Option Table) (known : Entry) → slice_get (option_map_or (column ports) found []) lid ≡ Some known
    → known ≡ option_map_or (entry_in ports lid) found Unreported
by_table ports lid None known is = absurd (none_there [] lid known refl is)
by_table ports lid (Some table) known is =
    let here : 0 + lid ≡ lid = omega arith in
    sym (at_some (λ l. entry_in ports l table) 0 table.top lid known is) ∙ ap (λ (l : ℕ). entry_in ports l table) here

known_is : (net : NetState) (lid place : ℕ) (known : Entry) → slice_get (entries_of (all_entries net) place) lid ≡ Some known → known ≡ entry net lid place
known_is net lid place known is = elim (cases_lt place (length net.plan.nodes)) [
  | inl within ↦
      let at : entries_of (all_entries net) place ≡ column_at net place = at_range (column_at net) 0 (length net.plan.nodes) place place [] (omega arith) within in
      by_table (ports_at net.plan.nodes place) lid (table_at net place) known (sym (ap (λ (es : List Entry). slice_get es lid) at) ∙ is)
  | inr past ↦ absurd (none_there (entries_of (all_entries net) place) lid known (past_range (column_at net) 0 (length net.plan.nodes) place [] past) is)
]

pub known_by : (net : NetState) (columns : List (List Entry)) (lid place : ℕ) (known : Option Entry) → columns ≡ all_entries net
    → known ≡ slice_get (entries_of columns place) lid → IfSome known (λ is. is ≡ entry net lid place)
known_by net columns lid place None are found = tt
known_by net columns lid place (Some known) are found =
    known_is net lid place known (ap (λ (all : List (List Entry)). slice_get (entries_of all place) lid) (sym are) ∙ sym found)

-- ---- turns
turn_behind : (net : NetState) (place before : ℕ) (known : Turn) → slice_get (turns_of (all_turns net) place) before ≡ Some known → known ≡ turn_by net place (Out (before + 1))
turn_behind net place before known is = elim (cases_lt place (length net.plan.nodes)) [
  | inl within ↦
      let at : turns_of (all_turns net) place ≡ turns_at net place = at_range (turns_at net) 0 (length net.plan.nodes) place place [] (omega arith) within in
      let here : 0 + before ≡ before = omega arith in
      sym (at_some (λ n. turn_by net place (Out (n + 1))) 0 (ports_at net.plan.nodes place) before known (sym (ap (λ (ts : List Turn). slice_get ts before) at) ∙ is))
      ∙ ap (λ (n : ℕ). turn_by net place (Out (n + 1))) here
  | inr past ↦ absurd (none_there (turns_of (all_turns net) place) before known (past_range (turns_at net) 0 (length net.plan.nodes) place [] past) is)
]

turn_is : (net : NetState) (place number : ℕ) (known : Turn) → turn_known (all_turns net) place number ≡ Some known → known ≡ turn_by net place (Out number)
turn_is net place zero known is = absurd (cc)
turn_is net place (suc before) known is =
    let less : suc before - 1 ≡ before = omega arith in
    let some : (suc before == 0) ≡ false = grind (arith, nat_tests) in
    let step : turn_known (all_turns net) place (suc before) ≡ slice_get (turns_of (all_turns net) place) (suc before - 1) = rw some refl in
    let more : before + 1 ≡ suc before = omega arith in
    turn_behind net place before known (sym (ap (λ (n : ℕ). slice_get (turns_of (all_turns net) place) n) less) ∙ sym step ∙ is) ∙ ap (λ (n : ℕ). turn_by net place (Out n)) more

pub known_turn_by : (net : NetState) (all : List (List Turn)) (place number : ℕ) (known : Option Turn) → all ≡ all_turns net
    → known ≡ turn_known all place number → IfSome known (λ is. is ≡ turn_by net place (Out number))
known_turn_by net all place number None are found = tt
known_turn_by net all place number (Some known) are found =
    turn_is net place number known (ap (λ (turns : List (List Turn)). turn_known turns place number) (sym are) ∙ sym found)

-- ---- a node that is not there has no entry
pub no_entry : (net : NetState) (lid place : ℕ) → length net.plan.nodes ≤ place → entry net lid place ≡ Unreported
no_entry net lid place past =
    ap (λ (node : Option Node). option_map_or (entry_in (ports_at net.plan.nodes place) lid) (option_and_then (λ n. table_of n.guid net.dump.tables) node) Unreported)
    (slice_get_past net.plan.nodes place past)
