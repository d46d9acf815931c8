-- Each line on virtual lanes stands in the text, and what a wrong rule leaves out.
use Rattle.std.proofs.Common.{◌≡◌, ap, refl, sym, subst, ℕ, ◌≤◌, Bool, true, List, [], ◌∷◌, ◌++◌, filter, map, slice_get, Some, arith}
use Rattle.std.specs.Fmt.{digits}
use Rattle.std.specs.Str.Iter.{HasSubslice}
use Rattle.std.proofs.lemmas.List.{append_assoc}
use Rattle.sl2vl_file.specs.Lanes.{LanesState}
use Rattle.audit_net.specs.Net.{NetState}
use Rattle.audit_plan.proofs.SubsliceLemmas.{no_longer, stands_behind, stands_itself, stands_longer, stands_of_all}
use Rattle.audit_net.specs.declared.lids.Aim.{Aim}
use Rattle.audit_net.specs.Lids.{aim_of, aims, all_lids, is_known_lid}
use Rattle.audit_routes.specs.Audit.{findings_of}
use Rattle.audit_routes.specs.Lines.{apart_line, passed_words}
use Rattle.audit_routes.proofs.PrintedLemmas.{all_lines_are_printed, loose, two_loose}
use Rattle.audit_lanes.specs.declared.hop.Crossing.{Crossing}
use Rattle.audit_lanes.specs.declared.owned.OwnedLid.{OwnedLid}
use Rattle.audit_lanes.specs.Audit.{audit_with, closing_lines, found_with, lane_findings, lane_text}
use Rattle.audit_lanes.specs.Hops.{traces}
use Rattle.audit_lanes.specs.Laws.{LanesArePrinted, all_traces}
use Rattle.audit_lanes.specs.Lines.{count_line, counts_line, crossing_lines, crossings, dropped_lines, no_path_line, no_path_lines, no_row_line, numbers_words, pairs_words, recorded_words}
use Rattle.audit_lanes.specs.Records.{owned, sls, vls}
use Rattle.audit_lanes.specs.WrongRules.{RoutesArePrintedToo}

module _ (whole : Bool) (net : NetState) (lanes : LanesState) where
  abbrev text : List ℕ
  text = (audit_with whole net lanes).text

  in_lanes : (line : List ℕ) → HasSubslice (lane_findings net lanes).text line → HasSubslice text line
  unfolding audit_with
  in_lanes line stands = stands_longer _ _ (stands_behind _ (findings_of whole net).text stands)

  in_crossings : (line : List ℕ) → HasSubslice (crossing_lines net (all_traces net lanes)) line → HasSubslice text line
  unfolding lane_findings lane_text
  in_crossings line stands = in_lanes line (stands_longer _ _ (stands_behind _ _ stands))

  path_printed : (index : ℕ) (source : OwnedLid) → slice_get (owned net (aims net)) index ≡ Some source
      → HasSubslice text (no_path_line net lanes.paths (owned net (aims net)) source)
  unfolding lane_findings lane_text no_path_lines
  path_printed index source there = in_lanes line stands
    where
      line : List ℕ
      line = no_path_line net lanes.paths (owned net (aims net)) source

      stands : HasSubslice (lane_findings net lanes).text line
      stands =
          stands_longer _ _ (stands_longer _ _ (stands_behind _ _
          (stands_of_all (no_path_line net lanes.paths (owned net (aims net))) line (owned net (aims net)) index source there (stands_itself line))))

  row_printed : (index : ℕ) (here : Crossing) → slice_get (crossings net) index ≡ Some here → HasSubslice text (no_row_line net (all_traces net lanes) here)
  unfolding crossing_lines
  row_printed index here there =
      let line = no_row_line net (all_traces net lanes) here in
      in_crossings line (stands_longer _ _ (stands_of_all (no_row_line net (all_traces net lanes)) line (crossings net) index here there (stands_itself line)))

  drop_printed : (index : ℕ) (here : Crossing) → slice_get (crossings net) index ≡ Some here
      → HasSubslice text (dropped_lines net (all_traces net lanes) here)
  unfolding crossing_lines
  drop_printed index here there =
      let line = dropped_lines net (all_traces net lanes) here in
      in_crossings line
      (stands_behind _ _ (stands_of_all (dropped_lines net (all_traces net lanes)) line (crossings net) index here there (stands_itself line)))

  routes_printed : (rest : List ℕ) × (text ≡ (findings_of whole net).text ++ rest)
  unfolding audit_with
  routes_printed =
      let found = (lane_findings net lanes).text in
      let closing = closing_lines (findings_of whole net).verdict (lane_findings net lanes).verdict in
      (found ++ closing, append_assoc (findings_of whole net).text found closing)

pub lanes_are_printed : LanesArePrinted
lanes_are_printed whole = record { paths = path_printed whole; rows = row_printed whole; drops = drop_printed whole; routes = routes_printed whole }

-- ---- a cable of a node with a long name, that joins no switch; nothing is known of any LID
none_known : (xs : List ℕ) → filter (is_known_lid two_loose) xs ≡ []
none_known [] = refl
none_known (x ∷ xs) = none_known xs

no_aims : aims two_loose ≡ []
no_aims = ap (map (aim_of two_loose)) (none_known all_lids)

abbrev no_lanes : LanesState
no_lanes = record { rows = []; paths = [] }

abbrev lanes_of : List Aim → List ℕ
lanes_of all = (found_with two_loose all [] (traces two_loose (record { aims = all; rows = [] }) [])).text

pub routes_are_printed_too : RoutesArePrintedToo
unfolding apart_line count_line counts_line crossing_lines digits lane_findings lane_text no_path_lines numbers_words pairs_words passed_words recorded_words sls vls
routes_are_printed_too law =
    let behind = law.routes two_loose no_lanes in
    let line : List ℕ = apart_line two_loose (loose 1) in
    let stands : HasSubslice (lanes_of (aims two_loose)) line =
    subst (λ t. HasSubslice t line) (sym behind.1) (stands_longer line behind.0 (all_lines_are_printed.lines.passed_over two_loose 1 (loose 1) refl)) in
    let most : 821 ≤ 57 = no_longer (lanes_of []) line (subst (λ (all : List Aim). HasSubslice (lanes_of all) line) no_aims stands) in
    absurd (omega (arith, most))
