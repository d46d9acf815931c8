-- What a query asks, and the title of its answer.
use Rattle.std.specs.Prelude.{ℕ, Bool, ◌==◌, ◌&&◌, List, codes, bytes_eq, if◌then◌else◌, Option, Some, None, Result, Ok, Err}
use Rattle.step_results.specs.Steps.{◌>>=◌}
use Rattle.text_words.specs.Cut.{cut_at}
use Rattle.pkeys_file.specs.declared.fault.KeysCause.{KeysCause}
use Rattle.pkeys_file.specs.declared.fault.KeysCause.TheVariants.{Malformed, OtherAnswer}
use Rattle.pkeys_file.specs.declared.query.Query.{Query}
use Rattle.pkeys_file.specs.declared.query.QueryKey.{QueryKey}
use Rattle.pkeys_file.specs.declared.query.QueryKind.{QueryKind}
use Rattle.pkeys_file.specs.declared.query.QueryKind.TheVariants.{NodeInfo, SwitchInfo, Keys, PortInfo}
use Rattle.pkeys_file.specs.Parts.{behind, cut, port_of, u16_of}

abbrev pub kind_named : List ℕ → Result QueryKind KeysCause
kind_named word =
    if bytes_eq word (codes "nodeinfo") then Ok NodeInfo
    else (if bytes_eq word (codes "switchinfo") then Ok SwitchInfo
    else (if bytes_eq word (codes "pkeys") then Ok Keys
    else (if bytes_eq word (codes "portinfo") then Ok PortInfo
    else Err Malformed)))

-- `5 1`, or `5`: without a port it is port 0
unfoldable pub place_asked : QueryKind → List ℕ → List ℕ → Result Query KeysCause
place_asked kind lid port = do
  l ← u16_of lid
  p ← port_of port
  Ok (record { kind = kind; lid = l; port = p })

abbrev pub placed : QueryKind → List ℕ → Option (List ℕ × List ℕ) → Result Query KeysCause
placed kind words (Some parts) = place_asked kind parts.0 parts.1
placed kind words None = place_asked kind words (codes "0")

abbrev pub query_of : QueryKind → List ℕ → Result Query KeysCause
query_of kind words = placed kind words (cut_at (λ byte. byte == 32) words)

-- `# smpquery pkeys 5 1`
unfoldable pub query_in : List ℕ → Result Query KeysCause
query_in text = do
  words ← behind (codes "# smpquery ") text
  parts ← cut 32 words
  kind ← kind_named parts.0
  query_of kind parts.1

-- ---- queries are distinguished by their words
abbrev pub code_of_kind : QueryKind → ℕ
code_of_kind NodeInfo = 0
code_of_kind SwitchInfo = 1
code_of_kind Keys = 2
code_of_kind PortInfo = 3

abbrev pub key_of : Query → QueryKey
key_of query = record { code = code_of_kind query.kind; lid = query.lid; port = query.port }

abbrev pub is_same_key : QueryKey → QueryKey → Bool
is_same_key a b = (a.code == b.code) && ((a.lid == b.lid) && (a.port == b.port))

abbrev pub is_same_query : Query → Query → Bool
is_same_query a b = is_same_key (key_of a) (key_of b)

-- ---- the title of an answer: `# Node info: Lid 5`, `# Switch info: Lid 3`, `# Port info: Lid 3 port 1`; a table has none
abbrev pub judged_title : Query → ℕ → ℕ → Result Query KeysCause
judged_title query lid port = if (query.lid == lid) && (query.port == port) then Ok query else Err OtherAnswer

unfoldable pub title_of : List ℕ → Query → List ℕ → Result Query KeysCause
title_of first query text = do
  rest ← behind first text
  lid ← u16_of rest
  judged_title query lid query.port

unfoldable pub port_title_of : Query → List ℕ → Result Query KeysCause
port_title_of query text = do
  rest ← behind (codes "# Port info: Lid ") text
  parts ← cut 32 rest
  lid ← u16_of parts.0
  word ← behind (codes "port ") parts.1
  port ← port_of word
  judged_title query lid port

abbrev pub title_by : QueryKind → Query → List ℕ → Result Query KeysCause
title_by NodeInfo query text = title_of (codes "# Node info: Lid ") query text
title_by SwitchInfo query text = title_of (codes "# Switch info: Lid ") query text
title_by Keys query text = Err Malformed
title_by PortInfo query text = port_title_of query text

-- the query, if this is the title of its answer
abbrev pub judged_by : Query → List ℕ → Result Query KeysCause
judged_by query text = title_by query.kind query text
