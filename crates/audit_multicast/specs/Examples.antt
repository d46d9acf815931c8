-- Masks, lines and verdicts of small fabrics, in examples.
use Rattle.std.specs.Prelude.{ℕ, ◌≡◌, true, false, List, [], ◌∷◌, ◌++◌, codes, flat_map, Some, None}
use Rattle.fabric_parts.specs.Cable.{port}
use Rattle.audit_net.specs.SmallNets.{a_hole}
use Rattle.mft_file.specs.declared.row.MaskRow.{MaskRow}
use Rattle.mft_file.specs.declared.table.MaskTable.{MaskTable}
use Rattle.text_words.specs.Parts.{guid_text}
use Rattle.audit_multicast.specs.declared.cuts.Cut.{Cut}
use Rattle.audit_multicast.specs.declared.found.Found.{Found}
use Rattle.audit_multicast.specs.declared.verdict.MulticastVerdict.{MulticastVerdict}
use Rattle.audit_multicast.specs.Audit.{with_multicast}
use Rattle.audit_multicast.specs.Lines.{copy_line, cut_line, found_lines, loop_line, mask_lines_at, mask_port_line, members_line, mlid_text, mlids_line, multicast_lines, no_mft_line, strange_mft_line}
use Rattle.audit_multicast.specs.Masks.{masks_of, mlids_of}
use Rattle.audit_multicast.specs.Verdict.{all_verdict_line, multicast_verdict}
use Rattle.audit_multicast.specs.WrongRules.{looping, safe_routes}

-- ---- MFTs of the switches A and B, which a cable joins: port 2 of A and port 1 of B. An adapter h is attached to port 1 of A
abbrev mft : ℕ → List MaskRow → MaskTable
mft guid rows = record { line = 1; guid = guid; rows = rows }

abbrev row : ℕ → List ℕ → MaskRow
row mlid ports = record { mlid = mlid; ports = ports }

abbrev two_mfts : List MaskTable
two_mfts = mft 16 (row 49152 (1 ∷ 2 ∷ []) ∷ row 49155 (2 ∷ []) ∷ row 65534 [] ∷ []) ∷ mft 32 (row 49152 (0 ∷ 1 ∷ []) ∷ row 49154 [] ∷ []) ∷ []

-- ---- the mask of an MLID at each node; only a switch has one
pub record MasksAreFound : Type 0 where
  pub of_both : masks_of a_hole two_mfts 49152 ≡ (1 ∷ 2 ∷ []) ∷ (0 ∷ 1 ∷ []) ∷ [] ∷ []
  pub of_one : masks_of a_hole two_mfts 49155 ≡ (2 ∷ []) ∷ [] ∷ [] ∷ []
  pub of_an_adapter : masks_of a_hole (mft 256 (row 49152 (1 ∷ []) ∷ []) ∷ []) 49152 ≡ [] ∷ [] ∷ [] ∷ []
  -- from the first MLID to the last, as they rise
  pub mlids : mlids_of two_mfts ≡ 49152 ∷ 49154 ∷ 49155 ∷ 65534 ∷ []

-- ---- lines
abbrev found : ℕ → Found
found mlid = record { mlid = mlid; ring = None; copy = None; cut = None }

abbrev a_cut : Cut
a_cut = record { from = port 0 1; at = port 1 2; more = 3 }

abbrev some_found : List Found
some_found =
    record (found 49152) { ring = Some (port 0 2 ∷ port 1 1 ∷ []); copy = Some (record { from = 0; at = 1 }) }
    ∷ record (found 49153) { copy = Some (record { from = 1; at = 0 }) } ∷ record (found 49154) { cut = Some a_cut } ∷ []

-- port 0 is the switch's own, port 2 of B has no cable, and a port 3 it does not have
abbrev a_strange_mask : List MaskTable
a_strange_mask = mft 32 (row 49152 (0 ∷ 1 ∷ 2 ∷ 3 ∷ []) ∷ []) ∷ mft 256 [] ∷ []

pub record MulticastLinesAreReported : Type 0 where
  pub no_mft : no_mft_line a_hole a_strange_mask 0 ≡ codes "multicast no-table A\n"
  pub has_mft : no_mft_line a_hole a_strange_mask 1 ≡ []
  pub strange_mft : strange_mft_line a_hole (mft 256 []) ≡ codes "multicast no-switch " ++ guid_text 256 ++ codes "\n"
  pub own_mft : strange_mft_line a_hole (mft 32 []) ≡ []
  pub own_port : mask_port_line a_hole 1 49152 0 ≡ []
  pub cabled : mask_port_line a_hole 1 49152 1 ≡ []
  pub nowhere : mask_port_line a_hole 1 49152 2 ≡ codes "multicast nowhere B " ++ mlid_text 49152 ++ codes " port " ++ codes "2" ++ codes "\n"
  pub no_port : mask_port_line a_hole 1 49152 3 ≡ codes "multicast no-port B " ++ mlid_text 49152 ++ codes " port " ++ codes "3" ++ codes "\n"
  pub ring : loop_line a_hole 49152 (Some (port 0 2 ∷ port 1 1 ∷ [])) ≡ codes "multicast loop " ++ mlid_text 49152 ++ codes " A/2 B/1" ++ codes "\n"
  pub copy : copy_line a_hole 49153 (Some (record { from = 0; at = 1 }))
      ≡ codes "multicast copies " ++ mlid_text 49153 ++ codes " " ++ codes "B" ++ codes " from " ++ codes "A" ++ codes "\n"
  pub cut : cut_line a_hole 49153 (Some a_cut) ≡ codes "multicast cut " ++ mlid_text 49153 ++ codes " " ++ codes "B/2" ++ codes " from " ++ codes "h/1" ++ codes ", and " ++ codes "3" ++ codes " more\n"
  pub counts : mlids_line some_found ≡ codes "multicast: 3 MLIDs, 1 with a loop, 2 with copies, 1 cut\n"
  -- all of them, in this order
  pub all : multicast_lines a_hole a_strange_mask some_found
      ≡ codes "multicast no-table A\n" ++ flat_map (strange_mft_line a_hole) a_strange_mask ++ flat_map (mask_lines_at a_hole a_strange_mask) (0 ∷ 1 ∷ [])
      ++ flat_map (found_lines a_hole) some_found ++ codes "multicast: 3 MLIDs, 1 with a loop, 2 with copies, 1 cut\n" ++ members_line

-- ---- verdicts
abbrev verdict_on : List MaskTable → List Found → MulticastVerdict
verdict_on tables all = multicast_verdict a_hole tables all

abbrev all_is_well : MulticastVerdict
all_is_well = record { is_same = true; is_known = true; has_loops = false; has_copies = false; has_cuts = false }

abbrev the_rest : List ℕ
the_rest = codes ", as if all packets used one virtual lane; credit loops of multicast are not judged\n"

pub record MulticastVerdictsAreReported : Type 0 where
  pub of_both : verdict_on two_mfts (found 49152 ∷ []) ≡ all_is_well
  pub of_one : verdict_on (mft 16 [] ∷ []) [] ≡ record all_is_well { is_known = false }
  pub of_a_strange_mft : verdict_on (two_mfts ++ mft 256 [] ∷ []) [] ≡ record all_is_well { is_same = false }
  pub of_copies : verdict_on two_mfts (found 49154 ∷ record (found 49153) { copy = Some (record { from = 1; at = 0 }) } ∷ [])
      ≡ record all_is_well { has_copies = true }
  pub of_loops : verdict_on two_mfts (record (found 49153) { ring = Some (port 0 2 ∷ []) } ∷ found 49154 ∷ []) ≡ looping
  pub of_cuts : verdict_on two_mfts (found 49154 ∷ record (found 49153) { cut = Some a_cut } ∷ []) ≡ record all_is_well { has_cuts = true }
  pub safe : all_verdict_line safe_routes all_is_well ≡ codes "verdict: safe" ++ the_rest
  pub same : all_verdict_line safe_routes (record all_is_well { is_same = false }) ≡ codes "verdict: not safe (mismatch)" ++ the_rest
  pub known : all_verdict_line safe_routes (record all_is_well { is_known = false }) ≡ codes "verdict: not safe (unknown)" ++ the_rest
  pub copies : all_verdict_line safe_routes (record looping { has_copies = true }) ≡ codes "verdict: not safe (multicast-loop, multicast-copies)" ++ the_rest
  pub cuts : all_verdict_line safe_routes (record all_is_well { has_cuts = true }) ≡ codes "verdict: not safe (multicast-cut)" ++ the_rest
  -- behind what is found of the routes stand the lines on multicast, and then the verdict on both
  pub whole : with_multicast a_hole two_mfts (record { text = codes "routes\n"; verdict = safe_routes }) []
      ≡ record { text = codes "routes\n" ++ multicast_lines a_hole two_mfts [] ++ all_verdict_line safe_routes all_is_well; is_safe = true }
  pub unsafe : (with_multicast a_hole two_mfts (record { text = []; verdict = safe_routes }) some_found).is_safe ≡ false
