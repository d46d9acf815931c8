-- Each request is answered by one MAD.
use Rattle.std.proofs.Common.{ℕ, ◌-◌, ◌^◌, ◌<◌, ◌==◌, Bool, true, false, not, ◌&&◌, if◌then◌else◌, bit_and, List, [], ◌++◌, length, replicate, Result, Ok, Err}
use Rattle.std.proofs.Common.{◌≡◌, ◌∙◌, ap, refl, sym, arith}
use Rattle.mad_layout.specs.Bits.{field}
use Rattle.mad_layout.specs.Layout.{Holds}
use Rattle.mad_layout.specs.MadStatus.{mad_status_code}
use Rattle.mad_layout.specs.SaMad.{data_in}
use Rattle.mad_layout.specs.declared.rmpp_header.RmppHeader.{RmppHeader}
use Rattle.mad_layout.specs.declared.sa_mad.SaMad.{SaMad}
use Rattle.mad_layout.specs.declared.status.MadStatus.{MadStatus}
use Rattle.mad_layout.specs.declared.status.MadStatus.TheVariants.{BadVersion}
use Rattle.rmpp_core.specs.Laws.{IsTransfer}
use Rattle.rmpp_core.specs.Reply.{reply_bytes, reply_fields}
use Rattle.rmpp_core.specs.Segments.{opened, segment_mad, segment_rmpp, segment_sa}
use Rattle.rmpp_core.proofs.ReadBackLemmas.{reply_long, segment_held}
use Rattle.rmpp_core.proofs.ReplyLemmas.{reply_fits, reply_encoded}
use Rattle.subnet_model.specs.declared.subnet_port.SubnetPort.{SubnetPort}
use Rattle.sa_replies.specs.Answer.{Administration, Answered, after_rmpp, answered_with, outcome, version_refused}
use Rattle.sa_replies.specs.OneReply.{IsAnsweredOnce, IsResponseTo, OthersAreIgnored, RequestsAreAnsweredOnce}
use Rattle.sa_replies.specs.Reply.{no_rmpp, reply_header, table_header, with_content}
use Rattle.sa_replies.specs.Request.{has_versions, is_response, request_in}
use Rattle.sa_replies.specs.Success.{Success}
use Rattle.sa_replies.specs.Transfers.{on_rmpp, table_of}
use Rattle.sa_replies.proofs.NotedDataLemmas.{reply_reads}
use Rattle.sa_replies.proofs.OpenTableLemmas.{TableLow, outcome_low}
use Rattle.sa_replies.proofs.RefusalLemmas.{AreBytes, Ends, outcome_ends}
use Rattle.sa_replies.proofs.StatusLemmas.{AreData, IsCopied, code_low, content_is_data, is_copied, no_data, padded_number}

-- ---- what stands in a MAD with a reply's header
says : (payload mad : List ℕ) (status : ℕ) (rmpp : RmppHeader) (fields : SaMad) → length mad ≡ 256
    → Holds mad (reply_fields (reply_header (request_in payload) status) rmpp fields) → fields.component_mask ≡ (request_in payload).component_mask
    → fields.sm_key ≡ 0 → ((status == 0) ≡ false → fields.attribute_offset ≡ 0)
    → ((status == 0) ≡ false → data_in mad ≡ replicate 200 0) → IsResponseTo payload mad
unfolding request_in
says payload mad status rmpp fields long h mask key offset none =
    let copied = h.1.1.1.1.1.1 in
    record {
      size = long;
      base_version = sym h.0;
      mgmt_class = sym h.1.0;
      class_version = sym h.1.1.0;
      method = sym h.1.1.1.0;
      class_specific = sym h.1.1.1.1.1.0;
      transaction_id = sym copied.0;
      attribute_id = sym copied.1.0;
      attribute_modifier = sym copied.1.1.0;
      sm_key = sym copied.1.1.1.1.1.1.1.1.1.1.0 ∙ key;
      no_offset = λ e. sym copied.1.1.1.1.1.1.1.1.1.1.1.0 ∙ offset (ap (λ (n : ℕ). n == 0) h.1.1.1.1.0 ∙ e);
      component_mask = sym copied.1.1.1.1.1.1.1.1.1.1.1.1.0 ∙ mask;
      no_data = λ e. none (ap (λ (n : ℕ). n == 0) h.1.1.1.1.0 ∙ e);
    }

reply_says : (payload : List ℕ) (status : ℕ) (bytes : List ℕ) → IsCopied (request_in payload) → status < 2 ^ 16 → AreData bytes
    → ((status == 0) ≡ false → bytes ≡ [])
    → IsResponseTo payload (reply_bytes (reply_header (request_in payload) status) no_rmpp (with_content (request_in payload) bytes))
reply_says payload status bytes copied low are empty =
    let request = request_in payload in
    let header = reply_header request status in
    let fields = with_content request bytes in
    let fits = reply_fits header no_rmpp fields (copied.header status low)
    (omega arith, (omega arith, (omega arith, (omega arith, (omega arith, (omega arith, (omega arith, tt)))))))
    (omega arith, (omega arith, (copied.mask, (padded_number bytes are, tt)))) in
    says payload (reply_bytes header no_rmpp fields) status no_rmpp fields (reply_long header no_rmpp fields)
    (reply_encoded header no_rmpp fields fits).fields refl refl (λ e. refl)
    (λ e. (reply_reads request status bytes copied low are).content
    ∙ ap (λ (some : List ℕ). some ++ replicate (200 - length some) 0) (empty e))

first_says : (payload : List ℕ) (offset : ℕ) (bytes : List ℕ) → IsTransfer (opened (table_header (request_in payload) offset) bytes)
    → IsResponseTo payload (segment_mad (opened (table_header (request_in payload) offset) bytes) 1)
first_says payload offset bytes is =
    let request = request_in payload in
    let transfer = opened (table_header request offset) bytes in
    let zero_is : (0 == 0) ≡ true = refl in
    says payload (segment_mad transfer 1) 0 (segment_rmpp bytes 1) (segment_sa transfer 1)
    (reply_long (reply_header request 0) (segment_rmpp bytes 1) (segment_sa transfer 1))
    (segment_held transfer 1 is (omega arith) (omega arith)) refl refl (λ e. absurd (cc)) (λ e. absurd (cc))

-- ---- a request that is reported, or whose version is refused
reported_once : (own : SubnetPort) (payload : List ℕ) (state : Administration) (result : Result Success MadStatus) → IsCopied (request_in payload)
    → Ends AreBytes result → Ends TableLow result → IsAnsweredOnce payload (answered_with own (request_in payload) state result).0
reported_once own payload state (Err status) copied are low =
    reply_says payload (mad_status_code status) [] copied (code_low status) no_data (λ e. refl)
reported_once own payload state (Ok (Success.one_reply bytes next)) copied are low =
    let zero_is : (0 == 0) ≡ true = refl in
    reply_says payload 0 bytes copied (omega arith) are (λ e. absurd (cc))
reported_once own payload state (Ok (Success.whole_table offset bytes)) copied are low =
    first_says payload offset bytes
    (record { header = copied.header 0 (omega arith); attribute_offset = low.0; component_mask = copied.mask; bytes = low.1; size = low.2 })

version_once : (payload : List ℕ) → is_response (request_in payload).header ≡ false → IsAnsweredOnce payload (version_refused (request_in payload))
version_once payload asks =
    rw asks (reply_says payload (mad_status_code BadVersion) [] (is_copied payload asks) (code_low BadVersion) no_data (λ e. refl))

-- ---- one of these two is the case of each request
by_chain : {X : Type 0} (Q : X → Type 0) (ours versions active response : Bool) (none refused moved ignored asked : X)
    → (ours && (not response && not (ours && (versions && active)))) ≡ true → (response ≡ false → Q refused) → (response ≡ false → Q asked)
    → Q (if ours then if not versions then refused else if active then moved else if response then ignored else asked else none)
by_chain Q false versions active response none refused moved ignored asked e first second = absurd (cc)
by_chain Q true versions active true none refused moved ignored asked e first second = absurd (cc)
by_chain Q true false active false none refused moved ignored asked e first second = first refl
by_chain Q true true true false none refused moved ignored asked e first second = absurd (cc)
by_chain Q true true false false none refused moved ignored asked e first second = second refl

pub requests_are_answered_once : RequestsAreAnsweredOnce
requests_are_answered_once configuration own payload state configured found is below asks =
    let ports = configuration.ports in
    let request = request_in payload in
    by_chain (λ (answered : Answered). IsAnsweredOnce payload answered.0) ((length payload == 256) && (field payload 8 8 == 3))
    (has_versions request.header) (bit_and request.rmpp.flags 1 == 1) (is_response request.header) ([], state) (version_refused request, state)
    (after_rmpp own state (on_rmpp request (table_of own.guid state.transfers))) ([], state)
    (answered_with own request state (outcome ports own state.remembered request)) asks (λ no_response. version_once payload no_response)
    (λ no_response. reported_once own payload state (outcome ports own state.remembered request) (is_copied payload no_response)
    (outcome_ends ports own state.remembered request (content_is_data payload below))
    (outcome_low configuration own state.remembered request configured found is.remembered))

-- ---- what asks for nothing
else_none : {X : Type 0} (ours versions active response : Bool) (none refused moved asked : X)
    → (ours && (not response && not (ours && (versions && active)))) ≡ false → (ours && (versions && active)) ≡ false → (response ≡ true → refused ≡ none)
    → (if ours then if not versions then refused else if active then moved else if response then none else asked else none) ≡ none
else_none false versions active response none refused moved asked e f no_reply = refl
else_none true false active true none refused moved asked e f no_reply = no_reply refl
else_none true true false true none refused moved asked e f no_reply = refl
else_none true true true response none refused moved asked e f no_reply = absurd (cc)
else_none true false active false none refused moved asked e f no_reply = absurd (cc)
else_none true true false false none refused moved asked e f no_reply = absurd (cc)

pub others_are_ignored : OthersAreIgnored
others_are_ignored ports own payload state asks moves =
    let request = request_in payload in
    else_none ((length payload == 256) && (field payload 8 8 == 3)) (has_versions request.header) (bit_and request.rmpp.flags 1 == 1)
    (is_response request.header) ([], state) (version_refused request, state)
    (after_rmpp own state (on_rmpp request (table_of own.guid state.transfers)))
    (answered_with own request state (outcome ports own state.remembered request)) asks moves (λ response. rw response refl)
