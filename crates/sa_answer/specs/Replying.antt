-- Replies by their data, and what a request brings, in words that code computes.
use Rattle.std.specs.Prelude.{ℕ, ◌-◌, List, ◌++◌, length, replicate}
use Rattle.mad_layout.specs.declared.sa_mad.SaMad.{SaMad}
use Rattle.rmpp_core.specs.Reply.{reply_bytes}
use Rattle.sa_records.specs.PathRecord.{path_record_bytes}
use Rattle.sa_model.specs.Shown.{path_record_of}
use Rattle.sa_model.specs.Visible.{Path}
use Rattle.sa_replies.specs.Request.{Request}
use Rattle.sa_replies.specs.Reply.{no_rmpp, reply_header}

-- the data of a MAD that begins with these bytes
abbrev pub padded : List ℕ → List ℕ
padded bytes = bytes ++ replicate (200 - length bytes) 0

abbrev pub sa_fields : Request → List ℕ → SaMad
sa_fields request content = record {
  sm_key = 0;
  attribute_offset = 0;
  component_mask = request.component_mask;
  «data» = content;
}

-- the reply of a status with all of this data
abbrev pub reply_with : Request → ℕ → List ℕ → List ℕ
reply_with request status content = reply_bytes (reply_header request status) no_rmpp (sa_fields request content)

abbrev pub path_bytes : Path → List ℕ
path_bytes path = path_record_bytes (path_record_of path)
