-- What is wrong with the wrong rules.
use Rattle.std.proofs.Common.{ℕ, zero, suc, ◌≡◌, ◌==◌, ◌∙◌, ap, refl, sym, Bool, true, false, List, [], ◌∷◌, get_or, None, arith, ◌+◌, ◌≤◌, subst, ◌++◌, flat_map, Option}
use Rattle.std.specs.Fmt.{digits}
use Rattle.std.proofs.lemmas.Bool.{eqb-true, false≢true, ne_eqb}
use Rattle.std.proofs.lemmas.Option.{none-some, same_Some}
use Rattle.audit_loads.specs.Examples.{row_to, table_to}
use Rattle.audit_loads.specs.Talk.{may_talk}
use Rattle.audit_loads.specs.Text.{level_means, level_words, load_line, least_line, mean_line, most_line, pairs_line, text_by, text_of, load_text_of}
use Rattle.audit_loads.specs.WrongRules.{a_plan}
use Rattle.fabric_tables.specs.Whole.{led_by}
use Rattle.joint_laws.specs.RouteLaws.{over}
use Rattle.joint_laws.specs.Shown.{HasRow}
use Rattle.dump_file.specs.declared.table.Table.{Table}
use Rattle.audit_net.specs.OwnerLaws.{end_port_of}
use Rattle.audit_net.specs.Net.{entry, row_of, NetState}
use Rattle.audit_plan.specs.Plan.{plan_of}
use Rattle.joint_laws.specs.Alike.{AreAlike, net_of}
use Rattle.joint_laws.specs.LoadWrongRules.{ARowLessIsNotAlike, RowsDoNotCount, a_row_less, both_tables, EndPortsDoNotDecide}
use Rattle.joint_laws.proofs.AlikeLemmas.{named_port}
use Rattle.std.specs.List.{range_with_len}
use Rattle.fabric_parts.specs.declared.cable.PortRef.{PortRef}
use Rattle.audit_loads.specs.Sources.{Pair, pairs_by, pairs_to_end}
use Rattle.audit_net.specs.Lids.{aims, all_lids}
use Rattle.joint_laws.proofs.PairLemmas.{pairs_of_known}

more_rows : AreAlike (plan_of a_plan) (record { tables = both_tables }) (record { tables = table_to 16 1 2 ∷ table_to 32 2 1 ∷ table_to 32 2 1 ∷ [] })
more_rows = record { entries = λ lid place switch. entries lid place; ends = λ lid. ends lid (1 == lid) (2 == lid) refl refl }
  where
    entries : (lid place : ℕ) → entry (net_of (plan_of a_plan) (record { tables = both_tables })) lid place
        ≡ entry (net_of (plan_of a_plan) (record { tables = table_to 16 1 2 ∷ table_to 32 2 1 ∷ table_to 32 2 1 ∷ [] })) lid place
    entries lid zero = refl
    entries lid (suc zero) = refl
    entries lid (suc (suc zero)) = refl
    entries lid (suc (suc (suc zero))) = refl
    entries lid (suc (suc (suc (suc place)))) = refl

    ends : (lid : ℕ) (a b : Bool) → (1 == lid) ≡ a → (2 == lid) ≡ b → end_port_of (net_of (plan_of a_plan) (record { tables = both_tables })) lid
        ≡ end_port_of (net_of (plan_of a_plan) (record { tables = table_to 16 1 2 ∷ table_to 32 2 1 ∷ table_to 32 2 1 ∷ [] })) lid
    ends lid true b first second = rw first refl
    ends lid false true first second = rw (first, second) refl
    ends lid false false first second = rw (first, second) refl

pub rows_do_not_count : RowsDoNotCount
unfolding digits
rows_do_not_count law =
    let same =
    law (plan_of a_plan) (record { tables = both_tables }) (record { tables = table_to 16 1 2 ∷ table_to 32 2 1 ∷ table_to 32 2 1 ∷ [] })
    (may_talk None) more_rows in
    false≢true (sym (ap (λ (text : List ℕ). get_or text 0 0 == 52) same))

unshown : HasRow (over a_plan a_row_less) 0 2 2 → ⊥
unshown has =
    let table = same_Some (record { line = 1; guid = 16; top = 2; rows = row_to 1 1 257 ∷ [] }) has.table has.there in
    none-some has.row (ap (λ (one : Table). row_of 2 one.rows) table ∙ has.found)

pub a_row_less_is_not_alike : ARowLessIsNotAlike
unfolding level_means level_words digits least_line load_line mean_line most_line pairs_line text_by text_of
a_row_less_is_not_alike = record {
  unshown = λ shows. unshown (shows.rows 0 2 (led_by 16 2 (255 ∷ 1 ∷ 2 ∷ [])) refl (λ none. omega (arith, none)));
  refused = λ alike. none-some 2 (sym (ap named_port (alike.entries 2 0 refl)));
  differ = λ same. false≢true (sym (ap (λ (text : List ℕ). get_or text 5 0 == 65) same));
}

-- ---- of both dumps the hosts have the LIDs 1 and 2
module _ (tables : List Table) where
  abbrev net : NetState
  net = net_of (plan_of a_plan) (record { tables = tables })

  no_more : (first many : ℕ) → ((lid : ℕ) → 3 ≤ lid → end_port_of net lid ≡ None) → 3 ≤ first
      → flat_map (λ lid. pairs_to_end net (may_talk None) lid (end_port_of net lid)) (range_with_len first many) ≡ []
  no_more first zero none past = refl
  no_more first (suc many) none past =
      ap (λ (o : Option PortRef).
      pairs_to_end net (may_talk None) first o ++ flat_map (λ lid. pairs_to_end net (may_talk None) lid (end_port_of net lid)) (range_with_len (first + 1) many))
      (none first past)
      ∙ no_more (first + 1) many none (omega (arith, past))

  few_lids : (many : ℕ) → ((lid : ℕ) → 3 ≤ lid → end_port_of net lid ≡ None)
      → flat_map (λ lid. pairs_to_end net (may_talk None) lid (end_port_of net lid)) (range_with_len 0 (suc (suc (suc many))))
      ≡ flat_map (λ lid. pairs_to_end net (may_talk None) lid (end_port_of net lid)) (0 ∷ 1 ∷ 2 ∷ [])
  few_lids many none =
      ap (λ (rest : List Pair).
      pairs_to_end net (may_talk None) 0 (end_port_of net 0)
      ++ (pairs_to_end net (may_talk None) 1 (end_port_of net 1) ++ (pairs_to_end net (may_talk None) 2 (end_port_of net 2) ++ rest)))
      (no_more 3 many none (omega arith))

  few_pairs : ((lid : ℕ) → 3 ≤ lid → end_port_of net lid ≡ None)
      → pairs_by net (may_talk None) (aims net) ≡ flat_map (λ lid. pairs_to_end net (may_talk None) lid (end_port_of net lid)) (0 ∷ 1 ∷ 2 ∷ [])
  unfolding all_lids
  few_pairs none = pairs_of_known net (may_talk None) all_lids ∙ few_lids 65533 none

abbrev row_less_tables : List Table
row_less_tables = a_row_less.tables

both_end : (lid : ℕ) → 3 ≤ lid → end_port_of (net both_tables) lid ≡ None
both_end lid past = rw (ne_eqb 1 lid (λ same. omega (arith, same, past)), ne_eqb 2 lid (λ same. omega (arith, same, past))) refl

less_end : (lid : ℕ) → 3 ≤ lid → end_port_of (net row_less_tables) lid ≡ None
less_end lid past = rw (ne_eqb 1 lid (λ same. omega (arith, same, past)), ne_eqb 2 lid (λ same. omega (arith, same, past))) refl

same_ends : (lid : ℕ) → end_port_of (net both_tables) lid ≡ end_port_of (net row_less_tables) lid
same_ends lid = by (1 == lid) (2 == lid) refl refl
  where
    by : (a b : Bool) → (1 == lid) ≡ a → (2 == lid) ≡ b → end_port_of (net both_tables) lid ≡ end_port_of (net row_less_tables) lid
    by true b first second =
        subst (λ (n : ℕ). end_port_of (net both_tables) n ≡ end_port_of (net row_less_tables) n) (eqb-true 1 lid first) refl
    by false true first second =
        subst (λ (n : ℕ). end_port_of (net both_tables) n ≡ end_port_of (net row_less_tables) n) (eqb-true 2 lid second) refl
    by false false first second = rw (first, second) refl

pub end_ports_do_not_decide : EndPortsDoNotDecide
unfolding level_means level_words digits least_line load_line load_text_of mean_line most_line pairs_line text_by text_of
end_ports_do_not_decide law =
    let same = law (plan_of a_plan) (record { tables = both_tables }) a_row_less (may_talk None) same_ends in
    let computed =
    ap (text_by (net both_tables)) (sym (few_pairs both_tables both_end)) ∙ same ∙ ap (text_by (net row_less_tables)) (few_pairs row_less_tables less_end) in
    false≢true (sym (ap (λ (text : List ℕ). get_or text 5 0 == 65) computed))
