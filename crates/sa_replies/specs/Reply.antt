-- How subnet administration replies (IBA volume 1, 13.4.2, 13.4.5 and 15.2.1.1).
use Rattle.std.specs.Prelude.{ℕ, ◌+◌, ◌-◌, ◌==◌, if◌then◌else◌, List, [], ◌++◌, length, replicate}
use Rattle.mad_layout.specs.declared.mad_header.Header.{Header}
use Rattle.mad_layout.specs.declared.method.Method.TheVariants.{Set, GetResp}
use Rattle.mad_layout.specs.declared.rmpp_header.RmppHeader.{RmppHeader}
use Rattle.mad_layout.specs.declared.sa_mad.SaMad.{SaMad}
use Rattle.mad_layout.specs.declared.status.MadStatus.{MadStatus}
use Rattle.mad_layout.specs.Method.{method_code}
use Rattle.mad_layout.specs.MadStatus.{mad_status_code}
use Rattle.rmpp_core.specs.declared.mads.ReplyHeader.{ReplyHeader}
use Rattle.rmpp_core.specs.Reply.{reply_bytes}
use Rattle.sa_replies.specs.Request.{Request}

-- GetResp to a Set, else the same method with the R bit
abbrev pub reply_method : ℕ → ℕ
reply_method method = if method == method_code Set then method_code GetResp else method + 128

-- what it copies of the request, and 0 for all else
abbrev pub reply_header : Request → ℕ → Header
reply_header request status = record {
  base_version = 1;
  mgmt_class = 3;
  class_version = 2;
  method = reply_method request.header.method;
  status = status;
  class_specific = 0;
  transaction_id = request.header.transaction_id;
  attribute_id = request.header.attribute_id;
  attribute_modifier = request.header.attribute_modifier;
}

-- a MAD that is all of a reply is no segment
abbrev pub no_rmpp : RmppHeader
no_rmpp = record {
  version = 0;
  kind = 0;
  response_time = 0;
  flags = 0;
  status = 0;
  segment_number = 0;
  payload_length_or_new_window_last = 0;
}

abbrev pub with_content : Request → List ℕ → SaMad
with_content request bytes = record {
  sm_key = 0;
  attribute_offset = 0;
  component_mask = request.component_mask;
  «data» = bytes ++ replicate (200 - length bytes) 0;
}

-- the reply with these bytes as its data, and the one that has a status in place of data
abbrev pub reply : Request → List ℕ → List ℕ
reply request bytes = reply_bytes (reply_header request 0) no_rmpp (with_content request bytes)

abbrev pub refusal_reply : Request → MadStatus → List ℕ
refusal_reply request status = reply_bytes (reply_header request (mad_status_code status)) no_rmpp (with_content request [])

-- what each segment of a table begins with
abbrev pub table_header : Request → ℕ → ReplyHeader
table_header request spacing = record {
  header = reply_header request 0;
  attribute_offset = spacing;
  component_mask = request.component_mask;
}
