-- Each line stands in the text, and what wrong rules leave out.
use Rattle.std.proofs.Common.{◌≡◌, ◌∙◌, ap, refl, sym, subst, ℕ, suc, ◌≤◌, ◌==◌, Bool, true, false, if◌then◌else◌, List, [], ◌∷◌, ◌++◌, codes, decimal, filter, flat_map, is_some, length, replicate, slice_get, Some, arith}
use Rattle.std.proofs.lemmas.Bool.Decides.{nat_tests}
use Rattle.std.specs.Fmt.{digits}
use Rattle.std.specs.Str.Iter.{HasSubslice}
use Rattle.dump_file.specs.declared.table.Table.{Table}
use Rattle.fabric_parts.specs.Cable.{port}
use Rattle.fabric_parts.specs.declared.cable.Cable.{Cable}
use Rattle.fabric_parts.specs.declared.node_type.NodeType.TheVariants as node_type
use Rattle.text_words.specs.Parts.{guid_text}
use Rattle.topo_file.specs.Connectivity.{switches}
use Rattle.topo_file.specs.declared.node.Node.{Node}
use Rattle.audit_net.specs.declared.lids.Aim.{Aim}
use Rattle.audit_net.specs.Lids.{aims}
use Rattle.audit_net.specs.Net.{NetState}
use Rattle.audit_plan.proofs.SubsliceLemmas.{no_longer, stands_behind, stands_itself, stands_longer, stands_of_all}
use Rattle.audit_routes.specs.Audit.{audit_of, body_by, counts_by, decides_nothing, findings_of, lines_by, ring_line, ring_lines, text_by}
use Rattle.audit_routes.specs.Loops.{credit_loop, loops_of}
use Rattle.audit_routes.specs.Deciding.{by_switch, counted_line, line_count, unknown_lines, unreached_lines}
use Rattle.audit_routes.specs.Laws.{AllLinesArePrinted, CountsTheRest, brief_text, whole_text}
use Rattle.audit_routes.specs.Pairs.{pairs_by}
use Rattle.audit_routes.specs.Verdict.{is_others}
use Rattle.audit_routes.specs.Lines.{apart_line, files_by, no_lid_lines, no_port_line, no_switch_line, no_switches_line, no_table_line, passed_words, trouble_line, troubles_at, troubles_by}
use Rattle.audit_routes.specs.WrongRules.{OtherCablesHaveALine, OtherTablesHaveALine}

module _ (whole : Bool) (net : NetState) where
  abbrev pub text : List ℕ
  text = (findings_of whole net).text

  -- the first lines stand before those by switch and LID, and counts behind these
  in_lines : (line : List ℕ) → HasSubslice (lines_by net (aims net) (loops_of net (aims net))) line → HasSubslice text line
  unfolding findings_of body_by
  in_lines line stands = stands_longer _ _ (stands_longer _ _ stands)

  pub in_files : (line : List ℕ) → HasSubslice (files_by net (aims net)) line → HasSubslice text line
  unfolding lines_by
  in_files line stands = in_lines line (stands_longer _ _ (stands_longer _ _ (stands_longer _ _ (stands_longer _ _ stands))))

  pub in_unreached : (line : List ℕ) → HasSubslice (unreached_lines net (aims net)) line → HasSubslice text line
  unfolding lines_by
  in_unreached line stands = in_lines line (stands_longer _ _ (stands_longer _ _ (stands_longer _ _ (stands_behind _ _ stands))))

  pub in_unknown : (line : List ℕ) → HasSubslice (unknown_lines net (aims net)) line → HasSubslice text line
  unfolding lines_by
  in_unknown line stands = in_lines line (stands_longer _ _ (stands_longer _ _ (stands_behind _ _ stands)))

  pub in_ring : (line : List ℕ) → HasSubslice (ring_line net (codes "deadlock") true (filter (is_others net) (aims net)) (credit_loop net (aims net))) line
      → HasSubslice text line
  unfolding lines_by ring_lines
  in_ring line stands = in_lines line (stands_behind _ _ (stands_longer _ _ (stands_longer _ _ stands)))

  in_switches : (line : List ℕ) → HasSubslice (by_switch whole net (aims net)) line → HasSubslice text line
  unfolding findings_of body_by
  in_switches line stands = stands_longer _ _ (stands_behind _ _ stands)

  cable_printed : (index : ℕ) (cable : Cable) → slice_get net.plan.apart index ≡ Some cable → HasSubslice text (apart_line net cable)
  unfolding files_by
  cable_printed index cable there = in_files (apart_line net cable) stands
    where
      stands : HasSubslice (files_by net (aims net)) (apart_line net cable)
      stands =
          stands_longer _ _ (stands_longer _ _ (stands_longer _ _ (stands_longer _ _ (stands_longer _ _ (stands_longer _ _
          (stands_of_all (apart_line net) (apart_line net cable) net.plan.apart index cable there (stands_itself (apart_line net cable))))))))

  pub none_printed : switches net.plan.nodes ≡ [] → HasSubslice text (codes "# no switches\n")
  unfolding files_by no_switches_line
  none_printed none =
      let line : List ℕ = codes "# no switches\n" in
      let said : no_switches_line net ≡ codes "# no switches\n" = ap (λ (places : List ℕ). if length places == 0 then codes "# no switches\n" else []) none in
      let stands : HasSubslice (no_switches_line net) (codes "# no switches\n") =
      subst (λ (t : List ℕ). HasSubslice t (codes "# no switches\n")) (sym said) (stands_itself (codes "# no switches\n")) in
      in_files line
      (stands_longer line _ (stands_longer line _ (stands_longer line _ (stands_longer line _ (stands_longer line _
      (stands_behind line (flat_map (apart_line net) net.plan.apart) stands))))))

  pub table_printed : (index place : ℕ) → slice_get (switches net.plan.nodes) index ≡ Some place → HasSubslice text (no_table_line net place)
  unfolding files_by
  table_printed index place there = in_files (no_table_line net place) stands
    where
      stands : HasSubslice (files_by net (aims net)) (no_table_line net place)
      stands =
          stands_longer _ _ (stands_longer _ _ (stands_longer _ _ (stands_longer _ _ (stands_behind _ _
          (stands_of_all (no_table_line net) (no_table_line net place) (switches net.plan.nodes) index place there (stands_itself (no_table_line net place)))))))

  pub switch_printed : (index : ℕ) (table : Table) → slice_get net.dump.tables index ≡ Some table → HasSubslice text (no_switch_line net table)
  unfolding files_by
  switch_printed index table there = in_files (no_switch_line net table) stands
    where
      stands : HasSubslice (files_by net (aims net)) (no_switch_line net table)
      stands =
          stands_longer _ _ (stands_longer _ _ (stands_longer _ _ (stands_behind _ _
          (stands_of_all (no_switch_line net) (no_switch_line net table) net.dump.tables index table there (stands_itself (no_switch_line net table))))))

  pub port_printed : (index : ℕ) (aim : Aim) → slice_get (aims net) index ≡ Some aim → HasSubslice text (no_port_line aim)
  unfolding files_by
  port_printed index aim there = in_files (no_port_line aim) stands
    where
      stands : HasSubslice (files_by net (aims net)) (no_port_line aim)
      stands =
          stands_longer _ _ (stands_longer _ _ (stands_behind _ _
          (stands_of_all no_port_line (no_port_line aim) (aims net) index aim there (stands_itself (no_port_line aim)))))

  pub lid_printed : (index : ℕ) (cable : Cable) → slice_get net.plan.cables index ≡ Some cable → HasSubslice text (no_lid_lines net (aims net) cable)
  unfolding files_by
  lid_printed index cable there = in_files (no_lid_lines net (aims net) cable) stands
    where
      lines : Cable → List ℕ
      lines = no_lid_lines net (aims net)

      stands : HasSubslice (files_by net (aims net)) (lines cable)
      stands = stands_longer _ _ (stands_behind _ _ (stands_of_all lines (lines cable) net.plan.cables index cable there (stands_itself (lines cable))))

trouble_printed : (net : NetState) (index other place : ℕ) (aim : Aim) → slice_get (switches net.plan.nodes) index ≡ Some place
    → slice_get (aims net) other ≡ Some aim → HasSubslice (whole_text net) (trouble_line net place aim)
trouble_printed net index other place aim switch there =
    let line = trouble_line net place aim in
    in_switches true net line
    (stands_of_all (troubles_at net (aims net)) line (switches net.plan.nodes) index place switch
    (stands_of_all (trouble_line net place) line (aims net) other aim there (stands_itself line)))

-- ---- without those by switch and LID there is their number
some_counted : (net : NetState) (count : ℕ) → line_count (troubles_by net (aims net)) ≡ suc count
    → by_switch false net (aims net) ≡ codes "# " ++ decimal (suc count) ++ codes " lines by switch and LID: --all prints them\n"
unfolding counted_line
some_counted net count is =
    let more : (suc count == 0) ≡ false = grind (arith, nat_tests) in
    let said : counted_line (suc count) ≡ codes "# " ++ decimal (suc count) ++ codes " lines by switch and LID: --all prints them\n" = rw more refl in
    ap counted_line is ∙ said

none_counted : (lines : List ℕ) → lines ≡ [] → counted_line (line_count lines) ≡ []
unfolding counted_line
none_counted lines none = ap (λ (t : List ℕ). counted_line (line_count t)) none

the_rest_is_counted : CountsTheRest brief_text whole_text
unfolding findings_of body_by
the_rest_is_counted = record {
  before = λ net. lines_by net (aims net) (loops_of net (aims net));
  behind = λ net. counts_by (pairs_by net (aims net)) (is_some (credit_loop net (aims net))) (decides_nothing (loops_of net (aims net)));
  lines = λ net. troubles_by net (aims net);
  comment = λ net. by_switch false net (aims net);
  all = λ net. refl;
  rest = λ net. refl;
  each = λ net. refl;
  none = λ net is. none_counted (troubles_by net (aims net)) is;
  some = some_counted;
}

pub all_lines_are_printed : AllLinesArePrinted
unfolding audit_of findings_of text_by
all_lines_are_printed = record {
  lines = record {
    passed_over = cable_printed true;
    no_tables = table_printed true;
    no_switches = switch_printed true;
    no_ports = port_printed true;
    no_lids = lid_printed true;
    troubles = trouble_printed;
  };
  counted = the_rest_is_counted;
  verdict = λ whole net. refl;
  is_safe = λ whole net. refl;
}

-- ---- the cable of a node with a short name, and then that of a node with a long one
abbrev pub node : List ℕ → Node
node name = record { name = name; node_type = node_type.ChannelAdapter; guid = 32; ports = 2 }

abbrev pub loose : ℕ → Cable
loose place = record { first = port place 1; second = port place 2 }

abbrev pub two_loose : NetState
two_loose = record {
  plan = record { nodes = node (codes "h") ∷ node (replicate 400 65) ∷ []; cables = []; apart = loose 0 ∷ loose 1 ∷ []; ends = []; aggregation = []; lids = [] };
  dump = record { tables = [] };
}

pub other_cables_have_a_line : OtherCablesHaveALine
unfolding apart_line digits passed_words
other_cables_have_a_line law =
    let most : 821 ≤ 23 = no_longer _ (apart_line two_loose (loose 1)) (law.passed_over two_loose 1 (loose 1) refl) in
    absurd (omega (arith, most))

-- ---- a table of a switch, and no switch
abbrev a_table : Table
a_table = record { line = 1; guid = 16; top = 0; rows = [] }

abbrev no_nodes : NetState
no_nodes = record {
  plan = record { nodes = []; cables = []; apart = []; ends = []; aggregation = []; lids = [] };
  dump = record { tables = a_table ∷ [] };
}

pub other_tables_have_a_line : OtherTablesHaveALine
other_tables_have_a_line law =
    let line : List ℕ = no_switch_line no_nodes a_table in
    let word : List ℕ = codes "no-switch " in
    let long : 10 ≤ length line = no_longer line word (stands_longer word (10 ∷ []) (stands_longer word (guid_text a_table.guid) (stands_itself word))) in
    let most : length line ≤ 0 = no_longer [] line (law.no_switches no_nodes 0 a_table refl) in
    absurd (omega (arith, long, most))
