-- The lines on multicast.
use Rattle.std.specs.Prelude.{ℕ, ◌==◌, nat_lt, Bool, List, [], ◌∷◌, ◌++◌, codes, count_by, decimal, flat_map, is_none, is_some, length, slice_get, unwrap_or, if◌then◌else◌, Option, Some, None}
use Rattle.std.specs.Int.{w16, to_be_bytes}
use Rattle.std.specs.Option.{option_and_then, option_map_or}
use Rattle.fabric_parts.specs.Cable.{far_end, port}
use Rattle.fabric_parts.specs.declared.cable.PortRef.{PortRef}
use Rattle.mft_file.specs.declared.row.MaskRow.{MaskRow}
use Rattle.mft_file.specs.declared.table.MaskTable.{MaskTable}
use Rattle.text_words.specs.Parts.{guid_text, hex_text}
use Rattle.topo_file.specs.Connectivity.{switches}
use Rattle.topo_file.specs.Node.{ports_at}
use Rattle.audit_routes.specs.Audit.{port_word}
use Rattle.audit_routes.specs.Lines.{has_switch, name_text, port_text}
use Rattle.audit_net.specs.Net.{NetState}
use Rattle.audit_multicast.specs.declared.copies.SecondCopy.{SecondCopy}
use Rattle.audit_multicast.specs.declared.cuts.Cut.{Cut}
use Rattle.audit_multicast.specs.declared.found.Found.{Found}
use Rattle.audit_multicast.specs.Masks.{table_of}

-- `0xc000`
abbrev pub mlid_text : ℕ → List ℕ
mlid_text mlid = hex_text (to_be_bytes w16 mlid)

-- ---- what the files lack
-- the MFT of the node there
abbrev pub mft_at : NetState → List MaskTable → ℕ → Option MaskTable
mft_at net tables place = option_and_then (λ node. table_of tables node.guid) (slice_get net.plan.nodes place)

-- `multicast no-table A`: a switch of which there is no MFT
unfoldable pub no_mft_text : NetState → ℕ → List ℕ
no_mft_text net place = codes "multicast no-table " ++ name_text net place ++ 10 ∷ []

abbrev pub no_mft_line : NetState → List MaskTable → ℕ → List ℕ
no_mft_line net tables place = if is_none (mft_at net tables place) then no_mft_text net place else []

-- `multicast no-switch 0x0000000000000020`: an MFT of a switch that the fabric lacks
unfoldable pub strange_mft_line : NetState → MaskTable → List ℕ
strange_mft_line net table = if has_switch table.guid net.plan.nodes then [] else codes "multicast no-switch " ++ guid_text table.guid ++ 10 ∷ []

-- ---- ports of masks: `multicast no-port A 0xc000 port 9`, a port that the switch does not have; `multicast nowhere A 0xc000 port 3`,
-- one that has no cable. Port 0 is the switch's own
unfoldable pub mask_line : List ℕ → NetState → (place mlid number : ℕ) → List ℕ
mask_line words net place mlid number =
    codes "multicast " ++ words ++ name_text net place ++ codes " " ++ mlid_text mlid ++ codes " port " ++ decimal number ++ 10 ∷ []

abbrev pub is_past : NetState → (place number : ℕ) → Bool
is_past net place number = nat_lt (ports_at net.plan.nodes place) number

abbrev pub is_uncabled : NetState → (place number : ℕ) → Bool
is_uncabled net place number = is_none (far_end net.plan.cables (port place number))

abbrev pub mask_port_line : NetState → (place mlid number : ℕ) → List ℕ
mask_port_line net place mlid number =
    if number == 0 then []
    else (if is_past net place number then mask_line (codes "no-port ") net place mlid number
    else (if is_uncabled net place number then mask_line (codes "nowhere ") net place mlid number
    else []))

abbrev pub mask_row_lines : NetState → ℕ → MaskRow → List ℕ
mask_row_lines net place row = flat_map (mask_port_line net place row.mlid) row.ports

abbrev pub mask_table_lines : NetState → ℕ → MaskTable → List ℕ
mask_table_lines net place table = flat_map (mask_row_lines net place) table.rows

abbrev pub mask_lines_at : NetState → List MaskTable → ℕ → List ℕ
mask_lines_at net tables place = option_map_or (mask_table_lines net place) (mft_at net tables place) []

-- ---- what is wrong with an MLID
-- `multicast loop 0xc000 A/3 B/3`
unfoldable pub ring_text : NetState → ℕ → List PortRef → List ℕ
ring_text net mlid ring = codes "multicast loop " ++ mlid_text mlid ++ flat_map (port_word net) ring ++ 10 ∷ []

abbrev pub loop_line : NetState → ℕ → Option (List PortRef) → List ℕ
loop_line net mlid (Some ring) = ring_text net mlid ring
loop_line net mlid None = []

-- `multicast copies 0xc000 B from A`: a packet that enters at A comes to B twice
unfoldable pub copy_words : ℕ → List ℕ
copy_words mlid = codes "multicast copies " ++ mlid_text mlid ++ codes " "

unfoldable pub copy_text : NetState → ℕ → SecondCopy → List ℕ
copy_text net mlid copy = copy_words mlid ++ name_text net copy.at ++ codes " from " ++ name_text net copy.from ++ 10 ∷ []

abbrev pub copy_line : NetState → ℕ → Option SecondCopy → List ℕ
copy_line net mlid (Some copy) = copy_text net mlid copy
copy_line net mlid None = []

-- `multicast cut 0xc000 h3/1 from h1/1, and 2 more`: what h1/1 sends does not come to h3/1, nor to 2 more members
abbrev pub end_behind : NetState → PortRef → PortRef
end_behind net at = unwrap_or (far_end net.plan.cables at) at

unfoldable pub cut_words : NetState → ℕ → Cut → List ℕ
cut_words net mlid cut = codes "multicast cut " ++ mlid_text mlid ++ codes " " ++ port_text net (end_behind net cut.at)

unfoldable pub cut_text : NetState → ℕ → Cut → List ℕ
cut_text net mlid cut =
    cut_words net mlid cut ++ codes " from " ++ port_text net (end_behind net cut.from) ++ codes ", and " ++ decimal cut.more ++ codes " more\n"

abbrev pub cut_line : NetState → ℕ → Option Cut → List ℕ
cut_line net mlid (Some cut) = cut_text net mlid cut
cut_line net mlid None = []

abbrev pub found_lines : NetState → Found → List ℕ
found_lines net found = loop_line net found.mlid found.ring ++ copy_line net found.mlid found.copy ++ cut_line net found.mlid found.cut

-- ---- `multicast: 2 MLIDs, 1 with a loop, 0 with copies, 1 cut`
abbrev pub has_ring : Found → Bool
has_ring found = is_some found.ring

abbrev pub has_copy : Found → Bool
has_copy found = is_some found.copy

abbrev pub has_cut : Found → Bool
has_cut found = is_some found.cut

unfoldable pub mlids_words : List Found → List ℕ
mlids_words all = codes "multicast: " ++ decimal (length all) ++ codes " MLIDs, "

unfoldable pub found_words : List Found → List ℕ
found_words all =
    decimal (count_by has_ring all) ++ codes " with a loop, " ++ decimal (count_by has_copy all) ++ codes " with copies, "
    ++ decimal (count_by has_cut all) ++ codes " cut\n"

unfoldable pub mlids_line : List Found → List ℕ
mlids_line all = mlids_words all ++ found_words all

-- ---- all of it
unfoldable pub members_line : List ℕ
members_line = codes "# multicast: a member to which no mask leads is unknown, since MFTs do not say who is a member\n"

unfoldable pub multicast_lines : NetState → List MaskTable → List Found → List ℕ
multicast_lines net tables all =
    flat_map (no_mft_line net tables) (switches net.plan.nodes) ++ flat_map (strange_mft_line net) tables
    ++ flat_map (mask_lines_at net tables) (switches net.plan.nodes) ++ flat_map (found_lines net) all ++ mlids_line all ++ members_line
