-- Each line on multicast stands in the text, and what wrong rules leave out.
use Rattle.std.proofs.Common.{◌≡◌, ◌∙◌, ap, refl, subst, ℕ, ◌≤◌, Bool, List, [], ◌∷◌, ◌++◌, codes, decimal, filter, flat_map, length, map, slice_get, Some, option_map, arith}
use Rattle.std.specs.List.{range_with_len}
use Rattle.std.specs.Str.Iter.{HasSubslice}
use Rattle.std.proofs.lemmas.List.{append_assoc}
use Rattle.std.proofs.lemmas.Option.{slice_get-map}
use Rattle.fabric_parts.specs.declared.node_type.NodeType.TheVariants as node_type
use Rattle.mft_file.specs.declared.row.MaskRow.{MaskRow}
use Rattle.mft_file.specs.declared.table.MaskTable.{MaskTable}
use Rattle.text_words.specs.Parts.{guid_text}
use Rattle.topo_file.specs.Connectivity.{switches}
use Rattle.audit_net.specs.Net.{NetState}
use Rattle.audit_plan.proofs.SubsliceLemmas.{no_longer, stands_behind, stands_itself, stands_longer, stands_of_all}
use Rattle.audit_routes.specs.Audit.{findings_of}
use Rattle.audit_routes.specs.Lines.{name_text}
use Rattle.audit_multicast.specs.Audit.{all_found, audit_with, found_of}
use Rattle.audit_multicast.specs.Laws.{HasMaskPort, MulticastIsPrinted}
use Rattle.audit_multicast.specs.Lines.{found_lines, mask_line, mask_lines_at, mask_port_line, mask_row_lines, mask_table_lines, mlid_text, multicast_lines, no_mft_line, strange_mft_line}
use Rattle.audit_multicast.specs.Masks.{is_used, mlids_of}
use Rattle.audit_multicast.specs.Verdict.{all_verdict_line, multicast_verdict}
use Rattle.audit_multicast.specs.WrongRules.{OtherMftsHaveALine, PortsOfMasksHaveALine, mlids_alone}

module _ (whole : Bool) (net : NetState) (tables : List MaskTable) where
  abbrev text : List ℕ
  text = (audit_with whole net tables).text

  in_lines : (line : List ℕ) → HasSubslice (multicast_lines net tables (all_found net tables)) line → HasSubslice text line
  unfolding audit_with
  in_lines line stands = stands_longer _ _ (stands_behind _ (findings_of whole net).text stands)

  table_printed : (index place : ℕ) → slice_get (switches net.plan.nodes) index ≡ Some place → HasSubslice text (no_mft_line net tables place)
  unfolding multicast_lines
  table_printed index place there = in_lines line stands
    where
      line : List ℕ
      line = no_mft_line net tables place

      stands : HasSubslice (multicast_lines net tables (all_found net tables)) line
      stands =
          stands_longer _ _ (stands_longer _ _ (stands_longer _ _ (stands_longer _ _ (stands_longer _ _
          (stands_of_all (no_mft_line net tables) line (switches net.plan.nodes) index place there (stands_itself line))))))

  switch_printed : (index : ℕ) (table : MaskTable) → slice_get tables index ≡ Some table → HasSubslice text (strange_mft_line net table)
  unfolding multicast_lines
  switch_printed index table there = in_lines line stands
    where
      line : List ℕ
      line = strange_mft_line net table

      stands : HasSubslice (multicast_lines net tables (all_found net tables)) line
      stands =
          stands_longer _ _ (stands_longer _ _ (stands_longer _ _ (stands_longer _ _ (stands_behind _ _
          (stands_of_all (strange_mft_line net) line tables index table there (stands_itself line))))))

  port_printed : (place mlid number : ℕ) → HasMaskPort net tables place mlid number → HasSubslice text (mask_port_line net place mlid number)
  unfolding multicast_lines
  port_printed place mlid number has = in_lines line stands
    where
      line : List ℕ
      line = mask_port_line net place mlid number

      row : MaskRow
      row = record { mlid = mlid; ports = has.ports }

      in_table : HasSubslice (mask_table_lines net place has.table) line
      in_table =
          stands_of_all (mask_row_lines net place) line has.table.rows has.row row has.there
          (stands_of_all (mask_port_line net place mlid) line has.ports has.within number has.port (stands_itself line))

      at_switch : HasSubslice (mask_lines_at net tables place) line
      at_switch = rw has.own in_table

      stands : HasSubslice (multicast_lines net tables (all_found net tables)) line
      stands =
          stands_longer _ _ (stands_longer _ _ (stands_longer _ _ (stands_behind _ _
          (stands_of_all (mask_lines_at net tables) line (switches net.plan.nodes) has.index place has.switch at_switch))))

  mlid_printed : (index mlid : ℕ) → slice_get (mlids_of tables) index ≡ Some mlid → HasSubslice text (found_lines net (found_of net tables mlid))
  unfolding all_found multicast_lines
  mlid_printed index mlid there = in_lines line stands
    where
      line : List ℕ
      line = found_lines net (found_of net tables mlid)

      found : slice_get (all_found net tables) index ≡ Some (found_of net tables mlid)
      found = slice_get-map (found_of net tables) (mlids_of tables) index ∙ ap (option_map (found_of net tables)) there

      stands : HasSubslice (multicast_lines net tables (all_found net tables)) line
      stands =
          stands_longer _ _ (stands_longer _ _ (stands_behind _ _
          (stands_of_all (found_lines net) line (all_found net tables) index (found_of net tables mlid) found (stands_itself line))))

  routes_printed : (rest : List ℕ) × (text ≡ (findings_of whole net).text ++ rest)
  unfolding audit_with
  routes_printed = (
    multicast_lines net tables (all_found net tables) ++ all_verdict_line (findings_of whole net).verdict (multicast_verdict net tables (all_found net tables)),
    append_assoc (findings_of whole net).text (multicast_lines net tables (all_found net tables)) _,
  )

pub multicast_is_printed : MulticastIsPrinted
multicast_is_printed whole = record {
  no_tables = table_printed whole;
  no_switches = switch_printed whole;
  ports = port_printed whole;
  mlids = mlid_printed whole;
  routes = routes_printed whole;
}

-- ---- an MFT of a switch, and no switch
abbrev a_table : ℕ → MaskTable
a_table guid = record { line = 1; guid = guid; rows = record { mlid = 0xc000; ports = 1 ∷ [] } ∷ [] }

abbrev no_nodes : NetState
no_nodes = record {
  plan = record { nodes = []; cables = []; apart = []; ends = []; aggregation = []; lids = [] };
  dump = record { tables = [] };
}

abbrev empty : MaskTable
empty = record (a_table 16) { rows = [] }

none_used : (xs : List ℕ) → filter (is_used (empty ∷ [])) xs ≡ []
none_used [] = refl
none_used (x ∷ xs) = none_used xs

nothing_found : mlids_alone no_nodes (empty ∷ []) ≡ []
unfolding all_found mlids_of
nothing_found =
    ap (λ (xs : List ℕ). flat_map (found_lines no_nodes) (map (found_of no_nodes (empty ∷ [])) xs)) (none_used (range_with_len 49152 16383))

pub other_mfts_have_a_line : OtherMftsHaveALine
unfolding strange_mft_line
other_mfts_have_a_line law =
    let line : List ℕ = strange_mft_line no_nodes empty in
    let word : List ℕ = codes "multicast no-switch " in
    let stands = subst (λ t. HasSubslice t line) nothing_found (law.no_switches no_nodes (empty ∷ []) 0 empty refl) in
    let long : 20 ≤ length line = no_longer line word (stands_longer word (10 ∷ []) (stands_longer word (guid_text empty.guid) (stands_itself word))) in
    let most : length line ≤ 0 = no_longer [] line stands in
    absurd (omega (arith, long, most))

-- ---- the switch A, of which no port has a cable
abbrev one_switch : NetState
one_switch = record no_nodes {
  plan = record {
    nodes = record { name = codes "A"; node_type = node_type.Switch; guid = 16; ports = 1 } ∷ [];
    cables = [];
    apart = [];
    ends = [];
    aggregation = [];
    lids = [];
  };
}

pub ports_of_masks_have_a_line : PortsOfMasksHaveALine
unfolding mask_line strange_mft_line
ports_of_masks_have_a_line law =
    let has : HasMaskPort one_switch (a_table 16 ∷ []) 0 0xc000 1 =
    record { index = 0; switch = refl; table = a_table 16; own = refl; row = 0; ports = 1 ∷ []; there = refl; within = 0; port = refl } in
    let line : List ℕ = mask_port_line one_switch 0 0xc000 1 in
    let word : List ℕ = codes "multicast " in
    let long : 10 ≤ length line =
    no_longer line word
    (stands_longer word (10 ∷ []) (stands_longer word (decimal 1) (stands_longer word (codes " port ") (stands_longer word (mlid_text 0xc000)
    (stands_longer word (codes " ") (stands_longer word (name_text one_switch 0) (stands_longer word (codes "nowhere ") (stands_itself word)))))))) in
    let most : length line ≤ 0 = no_longer [] line (law.ports one_switch (a_table 16 ∷ []) 0 0xc000 1 has) in
    absurd (omega (arith, long, most))
