-- The two ends of a cable, as the line of a port reports them, before it is known which nodes and ports there are.
use Rattle.std.specs.Prelude.{ℕ, Bool, not, ◌-◌, ◌==◌, ◌&&◌, nat_eq, List, [], ◌∷◌, codes, length, take, if◌then◌else◌, Option, Some, None, is_some, Result, Ok, Err}
use Rattle.std.specs.List.{ends_with}
use Rattle.std.specs.Option.{ok_or}
use Rattle.step_results.specs.Steps.{◌>>=◌}
use Rattle.text_words.specs.Cut.{cut_at}
use Rattle.netdiscover_file.specs.declared.ends.NodeId.{NodeId}
use Rattle.netdiscover_file.specs.declared.ends.OwnEnd.{OwnEnd}
use Rattle.netdiscover_file.specs.declared.ends.FarEnd.{FarEnd}
use Rattle.netdiscover_file.specs.declared.fault.DiscoveryCause.{DiscoveryCause}
use Rattle.netdiscover_file.specs.declared.fault.DiscoveryCause.TheVariants.{Malformed}
use Rattle.netdiscover_file.specs.Cut.{enclosed, is_empty}
use Rattle.netdiscover_file.specs.Kind.{is_same_kind, kind_named}
use Rattle.netdiscover_file.specs.Spelling.{decimal_in, full_guid_in, guid_in, only_if, port_number_in}

-- both name one node
abbrev pub is_same_node : NodeId → NodeId → Bool
is_same_node a b = is_same_kind a.kind b.kind && (a.guid == b.guid)

-- ---- `"S-0002c902004085a0"`: a node
unfoldable pub node_id_in : List ℕ → Result NodeId DiscoveryCause
node_id_in word = do
  quoted ← enclosed 34 34 word
  parts ← ok_or (cut_at (λ byte. byte == 45) quoted.inside) Malformed
  kind ← kind_named parts.0
  guid ← full_guid_in parts.1
  only_if (is_empty quoted.before && is_empty quoted.behind) (record { kind = kind; guid = guid })

-- ---- `(2c90300a1b201)`: the GUID of a port
unfoldable pub port_guid_in : List ℕ → Result ℕ DiscoveryCause
port_guid_in word = do
  parts ← enclosed 40 41 word
  guid ← guid_in parts.inside
  only_if (is_empty parts.before && is_empty parts.behind) guid

-- none if nothing stands
abbrev pub port_guid_if_any : List ℕ → Result (Option ℕ) DiscoveryCause
port_guid_if_any word = if is_empty word then Ok None else (port_guid_in word >>= λ guid. Ok (Some guid))

-- ---- `[1]` or `[1](2c90300a1b201)`: the port that a line is of
unfoldable pub own_end_in : List ℕ → Result OwnEnd DiscoveryCause
own_end_in word = do
  parts ← enclosed 91 93 word
  number ← decimal_in parts.inside
  guid ← port_guid_if_any parts.behind
  only_if (is_empty parts.before) (record { number = number; guid = guid })

-- ---- `"H-0002c90300a1b200"[1](2c90300a1b201)`: the port at the other end of its cable, with its GUID or without
unfoldable pub far_end_in : List ℕ → Result FarEnd DiscoveryCause
far_end_in word = do
  parts ← enclosed 91 93 word
  node ← node_id_in parts.before
  number ← port_number_in parts.inside
  guid ← port_guid_if_any parts.behind
  Ok (record { node = node; port = number; guid = guid })

-- the GUID in a word of its own
unfoldable pub far_end_apart : List ℕ → List ℕ → Result FarEnd DiscoveryCause
far_end_apart word guid_word = do
  far ← far_end_in word
  guid ← port_guid_in guid_word
  only_if (not (is_some far.guid)) (record { node = far.node; port = far.port; guid = Some guid })

-- behind the GUID nothing stands
unfoldable pub far_end_alone : List ℕ → List (List ℕ) → Result FarEnd DiscoveryCause
far_end_alone word [] = far_end_in word
far_end_alone word (guid_word ∷ []) = far_end_apart word guid_word
far_end_alone word _ = Err Malformed

-- ---- `[1][ext 7]`: with `-g` a port of a chassis has the number that stands on the chassis too, which says nothing of the cable
abbrev pub has_external : List ℕ → Bool
has_external word = ends_with nat_eq word (codes "[ext")

abbrev pub without_external : List ℕ → List ℕ
without_external word = if has_external word then take (length word - 4) word else word

-- `7]`: what stands behind the number
unfoldable pub behind_external : List ℕ → Result (List ℕ) DiscoveryCause
behind_external word = do
  parts ← ok_or (cut_at (λ byte. byte == 93) word) Malformed
  number ← decimal_in parts.0
  Ok parts.1

-- the words behind those of the port that a line is of
unfoldable pub behind_number : List (List ℕ) → Result (List (List ℕ)) DiscoveryCause
behind_number (number ∷ rest) = behind_external number >>= λ behind. if is_empty behind then Ok rest else Err Malformed
behind_number [] = Err Malformed

abbrev pub behind_own : List ℕ → List (List ℕ) → Result (List (List ℕ)) DiscoveryCause
behind_own first rest = if has_external first then behind_number rest else Ok rest

-- of the far end the GUID may stand behind the number on the chassis
abbrev pub if_last : List ℕ → List ℕ → List (List ℕ) → Result FarEnd DiscoveryCause
if_last word guid_word [] = far_end_apart word guid_word
if_last word guid_word _ = Err Malformed

abbrev pub far_end_behind : List ℕ → List ℕ → List (List ℕ) → Result FarEnd DiscoveryCause
far_end_behind word behind rest = if is_empty behind then far_end_alone word rest else if_last word behind rest

unfoldable pub far_end_numbered : List ℕ → List (List ℕ) → Result FarEnd DiscoveryCause
far_end_numbered word (number ∷ rest) = behind_external number >>= λ behind. far_end_behind word behind rest
far_end_numbered word [] = Err Malformed

unfoldable pub far_end_of : List (List ℕ) → Result FarEnd DiscoveryCause
far_end_of (word ∷ rest) = if has_external word then far_end_numbered (without_external word) rest else far_end_alone word rest
far_end_of [] = Err Malformed
