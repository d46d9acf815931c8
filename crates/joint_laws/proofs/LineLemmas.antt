-- The lines of a table are read as what they were printed of.
use Rattle.std.proofs.Common.{ℕ, suc, ◌≡◌, ◌+◌, ◌/◌, ◌^◌, ◌<◌, drop, ◌==◌, ◌&&◌, ◌||◌, ◌∙◌, nat_eq, ap, refl, sym, Bool, true, false, not, List, [], ◌∷◌, ◌++◌, codes, decimal, flat_map, length, append_assoc, Option, Result, Ok, arith}
use Rattle.std.specs.Char.{is_ascii_whitespace, is_digit}
use Rattle.std.specs.Int.{to_be_bytes, w16, w64}
use Rattle.std.specs.List.{ends_with, list_all, starts_with}
use Rattle.std.specs.Option.{ok_or, option_map_or}
use Rattle.std.proofs.lemmas.Bool.{and_from, and_parts, eqb-true, false≢true, ne_eqb, not-true}
use Rattle.std.proofs.lemmas.Fmt.{decimal_nonempty}
use Rattle.hex.specs.Hex.{encode_lower}
use Rattle.fabric_parts.specs.declared.node_type.NodeType.{NodeType}
use Rattle.fabric_parts.specs.declared.node_type.NodeType.TheVariants as node_type
use Rattle.step_results.proofs.ListLemmas.{all_joined}
use Rattle.step_results.specs.Steps.{◌>>=◌}
use Rattle.text_words.specs.Parts.{guid_text, hex_text}
use Rattle.text_words.specs.Cut.{cut_at, trimmed}
use Rattle.text_words.specs.Failure.{is_failure}
use Rattle.dump_file.specs.Destination.{destination_in, end_port_in, named_in, of_kind_or, router_in, said_in, switch_in}
use Rattle.dump_file.specs.Dump.{is_passed_over}
use Rattle.dump_file.specs.Heading.{guid_behind_way, heading_in, is_by_lid, is_way}
use Rattle.dump_file.specs.Parts.{behind, between, cut, guid_in, lid_in, only_if, port_in}
use Rattle.dump_file.specs.Row.{cut_behind_port, row_in}
use Rattle.dump_file.specs.declared.destination.Destination.{Destination}
use Rattle.dump_file.specs.declared.destination.Destination.TheVariants as destinations
use Rattle.dump_file.specs.declared.fault.DumpCause.{DumpCause}
use Rattle.dump_file.specs.declared.fault.DumpCause.TheVariants.{Malformed}
use Rattle.fabric_tables.specs.Digits.{short_hex_text, three_digits}
use Rattle.fabric_tables.specs.Tables.{hop_text, route_text, type_text}
use Rattle.joint_laws.proofs.NumberLemmas.{and_false, apart, decimal_digits, guid_digits, guid_read, lid_digits, lid_read, no_x, short_read, three_all, three_read}
use Rattle.joint_laws.proofs.TextLemmas.{behind_first, between_both, cut_here, cut_there, ends, is_one_line, trimmed_blank, trimmed_line}

-- ---- no line says that a program failed
pub no_failure : (front rest : List ℕ) → list_all (λ byte. not (byte == 32)) front ≡ true → starts_with nat_eq rest (codes "iberror: ") ≡ false
    → is_failure (front ++ 32 ∷ rest) ≡ false
no_failure front rest apart other =
    ap (λ (found : Option (List ℕ × List ℕ)).
    option_map_or (λ parts. ends_with nat_eq parts.0 (codes ":") && starts_with nat_eq parts.1 (codes "iberror: ")) found false) (cut_there 32 front rest apart)
    ∙ ap (λ (b : Bool). ends_with nat_eq front (codes ":") && b) other ∙ and_false (ends_with nat_eq front (codes ":"))

-- ---- the last byte is no blank
abbrev pub ends_plain : List ℕ → Bool
ends_plain [] = false
ends_plain (byte ∷ []) = not (is_ascii_whitespace byte)
ends_plain (byte ∷ next ∷ rest) = ends_plain (next ∷ rest)

pub plain_behind : (front : List ℕ) (byte : ℕ) (rest : List ℕ) → ends_plain (front ++ byte ∷ rest) ≡ ends_plain (byte ∷ rest)
plain_behind [] byte rest = refl
plain_behind (one ∷ []) byte rest = refl
plain_behind (one ∷ two ∷ front) byte rest = plain_behind (two ∷ front) byte rest

record HasLast (text : List ℕ) : Type 0 where
  front : List ℕ
  last : ℕ
  is : text ≡ front ++ last ∷ []
  plain : is_ascii_whitespace last ≡ false

has_last : (text : List ℕ) → ends_plain text ≡ true → HasLast text
has_last [] plain = absurd (false≢true plain)
has_last (byte ∷ []) plain = record { front = []; last = byte; is = refl; plain = not-true (is_ascii_whitespace byte) plain }
has_last (byte ∷ next ∷ rest) plain =
    let more = has_last (next ∷ rest) plain in
    record { front = byte ∷ more.front; last = more.last; is = ap (λ (text : List ℕ). byte ∷ text) more.is; plain = more.plain }

pub trimmed_text : (text : List ℕ) → ends_plain text ≡ true → trimmed (text ++ 10 ∷ []) ≡ text
trimmed_text text plain =
    let has = has_last text plain in
    ap (λ (some : List ℕ). trimmed (some ++ 10 ∷ [])) has.is ∙ ap trimmed (append_assoc has.front (has.last ∷ []) (10 ∷ []))
    ∙ trimmed_line has.front has.last has.plain ∙ sym has.is

pub trimmed_text_blank : (text : List ℕ) → ends_plain text ≡ true → trimmed ((text ++ 32 ∷ []) ++ 10 ∷ []) ≡ text
trimmed_text_blank text plain =
    let has = has_last text plain in
    ap (λ (some : List ℕ). trimmed ((some ++ 32 ∷ []) ++ 10 ∷ [])) has.is
    ∙ ap (λ (some : List ℕ). trimmed (some ++ 10 ∷ [])) (append_assoc has.front (has.last ∷ []) (32 ∷ []))
    ∙ ap trimmed (append_assoc has.front (has.last ∷ 32 ∷ []) (10 ∷ []))
    ∙ trimmed_blank has.front has.last has.plain ∙ sym has.is

-- ---- bytes that stand in no number
pub hex_without : (other : ℕ) (bytes : List ℕ) → is_digit other 16 ≡ false → (120 == other) ≡ false → (48 == other) ≡ false
    → list_all (λ byte. is_digit byte 16) (encode_lower bytes) ≡ true → list_all (λ byte. not (byte == other)) (hex_text bytes) ≡ true
hex_without other bytes none x zero_digit all =
    and_from (not (48 == other)) _ (ap not zero_digit) (and_from (not (120 == other)) _ (ap not x) (apart 16 other none (encode_lower bytes) all))

pub hops_without : (other : ℕ) (path : List ℕ) → is_digit other 10 ≡ false → (44 == other) ≡ false
    → list_all (λ byte. not (byte == other)) (flat_map hop_text path) ≡ true
hops_without other [] none comma = refl
hops_without other (number ∷ path) none comma =
    and_from (not (44 == other)) _ (ap not comma)
    (all_joined (λ byte. not (byte == other)) (decimal number) (flat_map hop_text path) (apart 10 other none (decimal number) (decimal_digits number))
    (hops_without other path none comma))

-- ---- the heading
module _ (top guid : ℕ) (path name : List ℕ) (top_fits : top < 65536) (guid_fits : guid < 2 ^ 64) where
  -- `DR path slid 0; dlid 0; 0,1 `
  abbrev pub way_before : List ℕ
  way_before = codes "DR path slid 0; dlid 0; 0" ++ (flat_map hop_text path ++ 32 ∷ [])

  abbrev pub way : List ℕ
  way = way_before ++ 103 ∷ (codes "uid " ++ (guid_text guid ++ codes " "))

  abbrev pub heading_text : List ℕ
  heading_text = codes "Unicast lids [0x0-" ++ (short_hex_text top ++ 93 ∷ (codes " of switch " ++ (way ++ 40 ∷ (name ++ codes "):"))))

  way_read : guid_behind_way way ≡ Ok guid
  unfolding guid_behind_way
  way_read =
      let none : list_all (λ byte. not (byte == 103)) way_before ≡ true =
      all_joined (λ byte. not (byte == 103)) (codes "DR path slid 0; dlid 0; 0") (flat_map hop_text path ++ 32 ∷ []) refl
      (all_joined (λ byte. not (byte == 103)) (flat_map hop_text path) (32 ∷ []) (hops_without 103 path refl refl) refl) in
      ap (λ (cut_parts : Result (List ℕ × List ℕ) DumpCause).
      cut_parts >>= λ parts. between (codes "uid ") (codes " ") parts.1 >>= λ word. guid_in word >>= λ found. only_if (is_way parts.0) found)
      (cut_here 103 way_before (codes "uid " ++ (guid_text guid ++ codes " ")) none)
      ∙ ap (λ (middle : Result (List ℕ) DumpCause). middle >>= λ word. guid_in word >>= λ found. only_if (is_way way_before) found)
      (between_both (codes "uid ") (guid_text guid) (codes " "))
      ∙ ap (λ (found : Option ℕ). ok_or found Malformed >>= λ one. only_if (is_way way_before) one) (guid_read guid guid_fits)

  pub heading_read : (line : ℕ) → heading_in line heading_text ≡ Ok (record { line = line; guid = guid; top = top; by_lid = false })
  unfolding heading_in
  heading_read line =
      let short = short_read top top_fits in
      let short_apart : list_all (λ byte. not (byte == 93)) (short_hex_text top) ≡ true =
      ap (list_all (λ byte. not (byte == 93))) short.text ∙ apart 16 93 refl short.digits short.all in
      let way_apart : list_all (λ byte. not (byte == 40)) way ≡ true =
      all_joined (λ byte. not (byte == 40)) way_before (103 ∷ (codes "uid " ++ (guid_text guid ++ codes " ")))
      (all_joined (λ byte. not (byte == 40)) (codes "DR path slid 0; dlid 0; 0") (flat_map hop_text path ++ 32 ∷ []) refl
      (all_joined (λ byte. not (byte == 40)) (flat_map hop_text path) (32 ∷ []) (hops_without 40 path refl refl) refl))
      (all_joined (λ byte. not (byte == 40)) (guid_text guid) (codes " ") (hex_without 40 (to_be_bytes w64 guid) refl refl refl (guid_digits guid)) refl) in
      let named = name ++ codes "):" in
      let switch = way ++ 40 ∷ named in
      ap (λ (found : Result (List ℕ) DumpCause).
      found >>= λ range. cut 93 range >>= λ top_parts. lid_in top_parts.0 >>= λ lid. behind (codes " of switch ") top_parts.1 >>= λ rest. cut 40 rest
      >>= λ parts. guid_behind_way parts.0 >>= λ one. only_if (ends_with nat_eq parts.1 (codes "):")) (record { line = line; guid = one; top = lid; by_lid = is_by_lid parts.0 }))
      (behind_first (codes "Unicast lids [0x0-") (short_hex_text top ++ 93 ∷ (codes " of switch " ++ switch)))
      ∙ ap (λ (found : Result (List ℕ × List ℕ) DumpCause).
      found >>= λ top_parts. lid_in top_parts.0 >>= λ lid. behind (codes " of switch ") top_parts.1 >>= λ rest. cut 40 rest
      >>= λ parts. guid_behind_way parts.0 >>= λ one. only_if (ends_with nat_eq parts.1 (codes "):")) (record { line = line; guid = one; top = lid; by_lid = is_by_lid parts.0 }))
      (cut_here 93 (short_hex_text top) (codes " of switch " ++ switch) short_apart)
      ∙ ap (λ (found : Option ℕ).
      ok_or found Malformed >>= λ lid. behind (codes " of switch ") (codes " of switch " ++ switch) >>= λ rest. cut 40 rest
      >>= λ parts. guid_behind_way parts.0 >>= λ one. only_if (ends_with nat_eq parts.1 (codes "):")) (record { line = line; guid = one; top = lid; by_lid = is_by_lid parts.0 }))
      short.read
      ∙ ap (λ (found : Result (List ℕ) DumpCause).
      found >>= λ rest. cut 40 rest
      >>= λ parts. guid_behind_way parts.0 >>= λ one. only_if (ends_with nat_eq parts.1 (codes "):")) (record { line = line; guid = one; top = top; by_lid = is_by_lid parts.0 }))
      (behind_first (codes " of switch ") switch)
      ∙ ap (λ (found : Result (List ℕ × List ℕ) DumpCause).
      found >>= λ parts. guid_behind_way parts.0 >>= λ one. only_if (ends_with nat_eq parts.1 (codes "):")) (record { line = line; guid = one; top = top; by_lid = is_by_lid parts.0 }))
      (cut_here 40 way named way_apart)
      ∙ ap (λ (found : Result ℕ DumpCause). found >>= λ one. only_if (ends_with nat_eq named (codes "):"))
      (record { line = line; guid = one; top = top; by_lid = is_by_lid way })) way_read
      ∙ ap (λ (b : Bool). only_if b (record { line = line; guid = guid; top = top; by_lid = false })) (ends name (codes "):"))

  -- ---- the line that is printed
  pub heading_is : ((codes "Unicast lids " ++ (codes "[0x0-" ++ short_hex_text top ++ codes "]")) ++ route_text path) ++
      (codes " guid " ++ guid_text guid ++ codes " (" ++ name ++ codes "):")
      ≡ heading_text
  heading_is =
      let short = short_hex_text top in
      let hops = flat_map hop_text path in
      let behind_guid = 32 ∷ 40 ∷ (name ++ codes "):") in
      let route = codes " of switch DR path slid 0; dlid 0; 0" ++ hops in
      let last = codes " guid " ++ guid_text guid ++ codes " (" ++ name ++ codes "):" in
      let last_is : last ≡ codes " guid " ++ (guid_text guid ++ behind_guid) =
      ap (λ (text : List ℕ). codes " guid " ++ text)
      (append_assoc (guid_text guid ++ codes " (") name (codes "):") ∙ append_assoc (guid_text guid) (codes " (") (name ++ codes "):")) in
      let way_is : way ++ 40 ∷ (name ++ codes "):") ≡ codes "DR path slid 0; dlid 0; 0" ++ (hops ++ (codes " guid " ++ (guid_text guid ++ behind_guid))) =
      ap (λ (text : List ℕ). codes "DR path slid 0; dlid 0; 0" ++ text)
      (append_assoc (hops ++ 32 ∷ []) (103 ∷ (codes "uid " ++ (guid_text guid ++ codes " "))) (40 ∷ (name ++ codes "):"))
      ∙ append_assoc hops (32 ∷ []) (103 ∷ (codes "uid " ++ (guid_text guid ++ codes " ")) ++ 40 ∷ (name ++ codes "):"))
      ∙ ap (λ (text : List ℕ). hops ++ (codes " guid " ++ text)) (append_assoc (guid_text guid) (codes " ") (40 ∷ (name ++ codes "):")))) in
      ap (λ (text : List ℕ). codes "Unicast lids [0x0-" ++ text)
      (append_assoc (short ++ codes "]") route last ∙ append_assoc short (codes "]") (route ++ last)
      ∙ ap (λ (text : List ℕ). short ++ 93 ∷ (codes " of switch DR path slid 0; dlid 0; 0" ++ text)) (ap (λ (text : List ℕ). hops ++ text) last_is)
      ∙ ap (λ (text : List ℕ). short ++ 93 ∷ (codes " of switch " ++ text)) (sym way_is))

  pub heading_answers : is_failure heading_text ≡ false
  heading_answers = refl

  pub heading_plain : ends_plain heading_text ≡ true
  heading_plain =
      let named = name ++ codes "):" in
      plain_behind (codes "Unicast lids [0x0-" ++ short_hex_text top) 93 (codes " of switch " ++ (way ++ 40 ∷ named))
      ∙ plain_behind (93 ∷ (codes " of switch " ++ way)) 40 named ∙ plain_behind (40 ∷ name) 41 (58 ∷ [])

  pub heading_one_line : is_one_line name ≡ true → is_one_line heading_text ≡ true
  heading_one_line one =
      let p = λ (byte : ℕ). not (byte == 10) in
      let short = short_read top top_fits in
      let named = way ++ 40 ∷ (name ++ codes "):") in
      all_joined p (codes "Unicast lids [0x0-") (short_hex_text top ++ 93 ∷ (codes " of switch " ++ named)) refl
      (all_joined p (short_hex_text top) (93 ∷ (codes " of switch " ++ named)) (ap (list_all p) short.text ∙ apart 16 10 refl short.digits short.all)
      (all_joined p (93 ∷ codes " of switch ") named refl
      (all_joined p way (40 ∷ (name ++ codes "):"))
      (all_joined p way_before (103 ∷ (codes "uid " ++ (guid_text guid ++ codes " ")))
      (all_joined p (codes "DR path slid 0; dlid 0; 0") (flat_map hop_text path ++ 32 ∷ []) refl
      (all_joined p (flat_map hop_text path) (32 ∷ []) (hops_without 10 path refl refl) refl))
      (all_joined p (guid_text guid) (codes " ") (hex_without 10 (to_be_bytes w64 guid) refl refl refl (guid_digits guid)) refl))
      (all_joined p name (codes "):") one refl))))

-- ---- a row
abbrev pub destination_by : NodeType → ℕ → Destination
destination_by node_type.Switch guid = destinations.Switch guid
destination_by node_type.ChannelAdapter guid = destinations.ChannelAdapter guid

module _ (lid entry guid : ℕ) (of : NodeType) (name : List ℕ) (lid_fits : lid < 65536) (entry_fits : entry < 256) (guid_fits : guid < 2 ^ 64) where
  abbrev pub kind : List ℕ
  kind = type_text of ++ codes " portguid " ++ guid_text guid

  abbrev pub inner : List ℕ
  inner = kind ++ 58 ∷ (codes " '" ++ (name ++ codes "'"))

  abbrev pub row_text : List ℕ
  row_text = hex_text (to_be_bytes w16 lid) ++ 32 ∷ (three_digits entry ++ 32 ∷ (codes ": (" ++ (inner ++ codes ")")))

  guid_in_text : guid_in (guid_text guid) ≡ Ok guid
  guid_in_text = ap (λ (found : Option ℕ). ok_or found Malformed) (guid_read guid guid_fits)

  kind_read : (one : NodeType) → end_port_in (type_text one ++ codes " portguid " ++ guid_text guid) ≡ Ok (destination_by one guid)
  kind_read node_type.Switch =
      ap (λ (found : Result (List ℕ) DumpCause). of_kind_or destinations.Switch (router_in (codes "Switch portguid " ++ guid_text guid)) found)
      (behind_first (codes "Switch portguid ") (guid_text guid))
      ∙ ap (λ (found : Result ℕ DumpCause). found >>= λ one. Ok (destinations.Switch one)) guid_in_text
  kind_read node_type.ChannelAdapter =
      ap (λ (found : Result (List ℕ) DumpCause).
      of_kind_or destinations.ChannelAdapter (switch_in (codes "Channel Adapter portguid " ++ guid_text guid)) found)
      (behind_first (codes "Channel Adapter portguid ") (guid_text guid))
      ∙ ap (λ (found : Result ℕ DumpCause). found >>= λ one. Ok (destinations.ChannelAdapter one)) guid_in_text

  kind_apart : (one : NodeType) → list_all (λ byte. not (byte == 58)) (type_text one ++ codes " portguid " ++ guid_text guid) ≡ true
  kind_apart node_type.Switch = hex_without 58 (to_be_bytes w64 guid) refl refl refl (guid_digits guid)
  kind_apart node_type.ChannelAdapter = hex_without 58 (to_be_bytes w64 guid) refl refl refl (guid_digits guid)

  said_named : (one : NodeType) (behind_kind : List ℕ) → said_in ((type_text one ++ codes " portguid " ++ guid_text guid) ++ behind_kind)
      ≡ named_in ((type_text one ++ codes " portguid " ++ guid_text guid) ++ behind_kind)
  said_named node_type.Switch behind_kind = refl
  said_named node_type.ChannelAdapter behind_kind = refl

  named_read : named_in inner ≡ Ok (destination_by of guid)
  unfolding named_in
  named_read =
      ap (λ (found : Result (List ℕ × List ℕ) DumpCause). found >>= λ parts. between (codes " '") (codes "'") parts.1 >>= λ one. end_port_in parts.0)
      (cut_here 58 kind (codes " '" ++ (name ++ codes "'")) (kind_apart of))
      ∙ ap (λ (found : Result (List ℕ) DumpCause). found >>= λ one. end_port_in kind) (between_both (codes " '") name (codes "'"))
      ∙ kind_read of

  destination_read : destination_in (codes ": (" ++ (inner ++ codes ")")) ≡ Ok (destination_by of guid)
  destination_read =
      ap (λ (found : Result (List ℕ) DumpCause). found >>= said_in) (between_both (codes ": (") inner (codes ")"))
      ∙ said_named of (58 ∷ (codes " '" ++ (name ++ codes "'"))) ∙ named_read

  pub row_read : row_in row_text ≡ Ok (record { lid = lid; port = entry; destination = destination_by of guid })
  unfolding row_in
  row_read =
      let three_apart : list_all (λ byte. not (byte == 32)) (three_digits entry) ≡ true = apart 10 32 refl (three_digits entry) (three_all entry entry_fits) in
      let last = codes ": (" ++ (inner ++ codes ")") in
      ap (λ (found : Result (List ℕ × List ℕ) DumpCause).
      found >>= λ first. lid_in first.0 >>= λ one. cut_behind_port first.1 (cut_at (λ byte. byte == 32) first.1) >>= λ second. port_in second.0
      >>= λ number. destination_in second.1 >>= λ destination. Ok (record { lid = one; port = number; destination = destination }))
      (cut_here 32 (hex_text (to_be_bytes w16 lid)) (three_digits entry ++ 32 ∷ last) (hex_without 32 (to_be_bytes w16 lid) refl refl refl (lid_digits lid)))
      ∙ ap (λ (found : Option ℕ).
      ok_or found Malformed >>= λ one. cut_behind_port (three_digits entry ++ 32 ∷ last) (cut_at (λ byte. byte == 32) (three_digits entry ++ 32 ∷ last))
      >>= λ second. port_in second.0 >>= λ number. destination_in second.1 >>= λ destination. Ok
      (record { lid = one; port = number; destination = destination }))
      (lid_read lid lid_fits)
      ∙ ap (λ (found : Option (List ℕ × List ℕ)).
      cut_behind_port (three_digits entry ++ 32 ∷ last) found >>= λ second. port_in second.0 >>= λ number. destination_in second.1
      >>= λ destination. Ok (record { lid = lid; port = number; destination = destination }))
      (cut_there 32 (three_digits entry) last three_apart)
      ∙ ap (λ (found : Option ℕ).
      ok_or found Malformed >>= λ number. destination_in last >>= λ destination. Ok (record { lid = lid; port = number; destination = destination }))
      (three_read entry entry_fits)
      ∙ ap (λ (found : Result Destination DumpCause). found >>= λ destination. Ok
      (record { lid = lid; port = entry; destination = destination })) destination_read

  pub row_is : (hex_text (to_be_bytes w16 lid) ++ codes " " ++ three_digits entry ++ codes " : ")
      ++ (codes "(" ++ type_text of ++ codes " portguid " ++ guid_text guid ++ codes ": '" ++ name ++ codes "')") ≡ row_text
  row_is =
      let hex = hex_text (to_be_bytes w16 lid) in
      let three = three_digits entry in
      let port_is : codes "(" ++ type_text of ++ codes " portguid " ++ guid_text guid ++ codes ": '" ++ name ++ codes "')" ≡ codes "(" ++ (inner ++ codes ")") =
      ap (λ (text : List ℕ). 40 ∷ text)
      (append_assoc (kind ++ codes ": '") name (codes "')") ∙ append_assoc kind (codes ": '") (name ++ codes "')")
      ∙ ap (λ (text : List ℕ). kind ++ (codes ": '" ++ text)) (sym (append_assoc name (codes "'") (codes ")")))
      ∙ sym (append_assoc kind (58 ∷ (codes " '" ++ (name ++ codes "'"))) (codes ")"))) in
      ap (λ (text : List ℕ). (hex ++ codes " " ++ three ++ codes " : ") ++ text) port_is
      ∙ append_assoc (hex ++ codes " " ++ three) (codes " : ") (codes "(" ++ (inner ++ codes ")"))
      ∙ append_assoc (hex ++ codes " ") three (32 ∷ (codes ": (" ++ (inner ++ codes ")")))
      ∙ append_assoc hex (codes " ") (three ++ 32 ∷ (codes ": (" ++ (inner ++ codes ")")))

  pub row_answers : is_failure row_text ≡ false
  row_answers =
      no_failure (hex_text (to_be_bytes w16 lid)) (three_digits entry ++ 32 ∷ (codes ": (" ++ (inner ++ codes ")")))
      (hex_without 32 (to_be_bytes w16 lid) refl refl refl (lid_digits lid))
      (ap (λ (b : Bool). b && starts_with nat_eq (drop 1 (three_digits entry) ++ 32 ∷ (codes ": (" ++ (inner ++ codes ")"))) (codes "berror: "))
      (ne_eqb 105 (48 + entry / 100) (λ same. omega (arith, same, entry_fits))))

  pub row_plain : ends_plain row_text ≡ true
  row_plain =
      let hex = hex_text (to_be_bytes w16 lid) in
      plain_behind hex 32 (three_digits entry ++ 32 ∷ (codes ": (" ++ (inner ++ codes ")")))
      ∙ plain_behind (32 ∷ three_digits entry) 32 (codes ": (" ++ (inner ++ codes ")")) ∙ plain_behind (32 ∷ (codes ": (" ++ inner)) 41 []

  kind_one_line : (one : NodeType) → is_one_line (type_text one ++ codes " portguid " ++ guid_text guid) ≡ true
  kind_one_line node_type.Switch = hex_without 10 (to_be_bytes w64 guid) refl refl refl (guid_digits guid)
  kind_one_line node_type.ChannelAdapter = hex_without 10 (to_be_bytes w64 guid) refl refl refl (guid_digits guid)

  pub row_one_line : is_one_line name ≡ true → is_one_line row_text ≡ true
  row_one_line one =
      let p = λ (byte : ℕ). not (byte == 10) in
      let last = codes ": (" ++ (inner ++ codes ")") in
      all_joined p (hex_text (to_be_bytes w16 lid)) (32 ∷ (three_digits entry ++ 32 ∷ last))
      (hex_without 10 (to_be_bytes w16 lid) refl refl refl (lid_digits lid))
      (all_joined p (three_digits entry) (32 ∷ last) (apart 10 10 refl (three_digits entry) (three_all entry entry_fits))
      (all_joined p inner (codes ")")
      (all_joined p kind (58 ∷ (codes " '" ++ (name ++ codes "'"))) (kind_one_line of) (all_joined p name (codes "'") one refl)) refl))

-- ---- the last line
abbrev pub count_text : ℕ → List ℕ
count_text count = decimal count ++ codes " valid lids dumped"

pub count_is : (count : ℕ) → decimal count ++ codes " valid lids dumped " ++ 10 ∷ [] ≡ (count_text count ++ 32 ∷ []) ++ 10 ∷ []
count_is count = ap (λ (text : List ℕ). text ++ 10 ∷ []) (sym (append_assoc (decimal count) (codes " valid lids dumped") (32 ∷ [])))

pub count_plain : (count : ℕ) → ends_plain (count_text count) ≡ true
count_plain count = plain_behind (decimal count) 32 (codes "valid lids dumped")

pub count_one_line : (count : ℕ) → is_one_line (count_text count ++ 32 ∷ []) ≡ true
count_one_line count =
    let p = λ (byte : ℕ). not (byte == 10) in
    all_joined p (count_text count) (32 ∷ []) (all_joined p (decimal count) (codes " valid lids dumped")
    (apart 10 10 refl (decimal count) (decimal_digits count)) refl) refl

-- it begins with a digit, and neither with `#` nor with `0x`
pub digits_begin : (ds rest : List ℕ) → 0 < length ds → list_all (λ byte. is_digit byte 10) ds ≡ true
    → (is_passed_over (ds ++ 32 ∷ rest) ≡ false) × (starts_with nat_eq (ds ++ 32 ∷ rest) (codes "0x") ≡ false)
digits_begin [] rest some all = absurd (omega (arith, some))
digits_begin (one ∷ ds) rest some all = (passed, by ds all)
  where
    digit : is_digit one 10 ≡ true
    digit = (and_parts (is_digit one 10) _ all).0

    hash : (b : Bool) → nat_eq 35 one ≡ b → nat_eq 35 one ≡ false
    hash false other = other
    hash true same = absurd (false≢true (ap (λ (n : ℕ). is_digit n 10) (eqb-true 35 one same) ∙ digit))

    passed : is_passed_over (one ∷ ds ++ 32 ∷ rest) ≡ false
    passed =
        ap (λ (b : Bool). b || (nat_eq 35 one && true)) (ne_eqb (suc (length (ds ++ 32 ∷ rest))) 0 (λ none. omega (arith, none)))
        ∙ ap (λ (b : Bool). b && true) (hash (nat_eq 35 one) refl)

    by : (more : List ℕ) → list_all (λ byte. is_digit byte 10) (one ∷ more) ≡ true → starts_with nat_eq (one ∷ more ++ 32 ∷ rest) (codes "0x") ≡ false
    by [] all = and_false (nat_eq 48 one)
    by (two ∷ more) all =
        ap (λ (b : Bool). nat_eq 48 one && (b && true)) (no_x two (and_parts (is_digit two 10) _ (and_parts (is_digit one 10) _ all).1).0)
        ∙ and_false (nat_eq 48 one)

pub count_begins : (count : ℕ) → count < 2 ^ 64 → (is_passed_over (count_text count) ≡ false) × (starts_with nat_eq (count_text count) (codes "0x") ≡ false)
count_begins count small = digits_begin (decimal count) (codes "valid lids dumped") (decimal_nonempty count small) (decimal_digits count)

pub count_answers : (count : ℕ) → is_failure (count_text count) ≡ false
count_answers count = no_failure (decimal count) (codes "valid lids dumped") (apart 10 32 refl (decimal count) (decimal_digits count)) refl

pub count_cut : (count : ℕ) → cut 32 (count_text count) ≡ Ok (decimal count, codes "valid lids dumped")
count_cut count = cut_here 32 (decimal count) (codes "valid lids dumped") (apart 10 32 refl (decimal count) (decimal_digits count))
