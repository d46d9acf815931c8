-- What a row says of its LID.
use Rattle.std.specs.Prelude.{ℕ, ◌==◌, nat_eq, List, drop, codes, bytes_eq, if◌then◌else◌, Option, Some, None, Result, Ok, Err}
use Rattle.std.specs.List.{starts_with}
use Rattle.step_results.specs.Steps.{◌>>=◌}
use Rattle.text_words.specs.Cut.{cut_at}
use Rattle.dump_file.specs.declared.destination.Destination.{Destination}
use Rattle.dump_file.specs.declared.destination.Destination.TheVariants.{ChannelAdapter, Switch, Router, FurtherLid, Nobody, NotReported}
use Rattle.dump_file.specs.declared.fault.DumpCause.{DumpCause}
use Rattle.dump_file.specs.declared.fault.DumpCause.TheVariants.{Malformed}
use Rattle.dump_file.specs.Parts.{behind, between, count_in, cut, guid_in}

-- the GUID of the end port that is said to have the LID, if one is
abbrev pub guid_said : Destination → Option ℕ
guid_said (ChannelAdapter guid) = Some guid
guid_said (Switch guid) = Some guid
guid_said (Router guid) = Some guid
guid_said (FurtherLid guid) = Some guid
guid_said Nobody = None
guid_said NotReported = None

-- ---- `Channel Adapter portguid 0x0000000000000111`, or of a switch or a router
abbrev pub of_kind_or : (ℕ → Destination) → Result Destination DumpCause → Result (List ℕ) DumpCause → Result Destination DumpCause
of_kind_or kind other (Ok word) = guid_in word >>= λ guid. Ok (kind guid)
of_kind_or kind other (Err cause) = other

abbrev pub router_in : List ℕ → Result Destination DumpCause
router_in text = of_kind_or Router (Err Malformed) (behind (codes "Router portguid ") text)

abbrev pub switch_in : List ℕ → Result Destination DumpCause
switch_in text = of_kind_or Switch (router_in text) (behind (codes "Switch portguid ") text)

abbrev pub end_port_in : List ℕ → Result Destination DumpCause
end_port_in text = of_kind_or ChannelAdapter (switch_in text) (behind (codes "Channel Adapter portguid ") text)

-- the same and `: 'h1'`: the name of the node, whatever bytes it has
unfoldable pub named_in : List ℕ → Result Destination DumpCause
named_in text = do
  parts ← cut 58 text
  name ← between (codes " '") (codes "'") parts.1
  end_port_in parts.0

-- ---- `out of 2: portguid 0x0000000000000101`: a further LID of a port. Of LID 0, before which no port came, the GUID is left out
unfoldable pub further_said : List ℕ × List ℕ → Result Destination DumpCause
further_said parts = do
  count ← count_in parts.0
  word ← behind (codes " portguid ") parts.1
  guid ← guid_in word
  Ok (FurtherLid guid)

abbrev pub if_said : List ℕ → Option (List ℕ × List ℕ) → Result Destination DumpCause
if_said text (Some parts) = further_said parts
if_said text None = count_in text >>= λ count. Ok NotReported

unfoldable pub further_in : List ℕ → Result Destination DumpCause
further_in text = do
  reported ← behind (codes "out of ") text
  if_said reported (cut_at (λ byte. byte == 58) reported)

-- behind `path #`: `2 ` and the same, or `0 - illegal port`
unfoldable pub path_in : List ℕ → Result Destination DumpCause
path_in text = do
  parts ← cut 32 text
  number ← count_in parts.0
  if bytes_eq parts.1 (codes "- illegal port") then Ok NotReported else further_in parts.1

-- ---- what stands in parentheses
abbrev pub said_in : List ℕ → Result Destination DumpCause
said_in text =
    if bytes_eq text (codes "illegal port") then Ok NotReported
    else (if bytes_eq text (codes "node info not available fabric scan") then Ok Nobody
    else (if starts_with nat_eq text (codes "path #") then path_in (drop 6 text)
    else named_in text))

abbrev pub destination_in : List ℕ → Result Destination DumpCause
destination_in text = between (codes ": (") (codes ")") text >>= said_in
