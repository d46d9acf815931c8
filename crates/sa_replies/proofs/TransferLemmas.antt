-- MADs of transfers: those of a transfer that is not in progress do nothing, and of the others five fields count.
use Rattle.std.proofs.Common.{ℕ, ◌==◌, Bool, true, false, ◌&&◌, ◌||◌, bit_and, List, [], ◌∷◌, length, Option, Some, None, option_map}
use Rattle.std.proofs.Common.{◌≡◌, ◌∙◌, ap, refl, sym, subst, inl, inr}
use Rattle.std.proofs.lemmas.Bool.{and_parts, cases_Bool, eqb-true, false≢true, or_parts}
use Rattle.mad_layout.specs.Bits.{field, put_field}
use Rattle.rmpp_core.specs.Reply.{reply_bytes}
use Rattle.rmpp_core.specs.Segments.{Transfer, opened}
use Rattle.subnet_model.specs.declared.subnet_port.SubnetPort.{SubnetPort}
use Rattle.sa_model.specs.GroupExamples.{ports}
use Rattle.sa_model.specs.QueryExamples.{full}
use Rattle.sa_replies.specs.Request.{has_versions, request_in}
use Rattle.sa_replies.specs.Transfers.{PortTransfer, is_of_table, on_rmpp, table_at, table_of, table_place, with_table}
use Rattle.sa_replies.specs.Answer.{Administration, Answered, after_rmpp, answer}
use Rattle.sa_replies.specs.Laws.{is_of_transfer}
use Rattle.sa_replies.specs.Examples.{asking, at_first, header_of, of_transfer}
use Rattle.sa_replies.specs.WrongTransfers.{ActiveRequestsAreIgnored, EndsNameTheirTransfer, HighBitsAreLookedAt, MethodsAreNotLookedAt}
use Rattle.sa_replies.specs.TransferMads.{AgreeInFive, TransfersGoByFiveFields, is_of_current}
use Rattle.sa_replies.proofs.AlikeLemmas.{own_place}
use Rattle.sa_replies.proofs.SightLemmas.{other_table}

-- the answer to a MAD of a transfer
taken : (all : List SubnetPort) (own : SubnetPort) (mad : List ℕ) (state : Administration) → is_of_transfer mad ≡ true
    → answer all own mad state ≡ after_rmpp own state (on_rmpp (request_in mad) (table_of own.guid state.transfers))
taken all own mad state of_it =
    let parts = and_parts ((length mad == 256) && (field mad 8 8 == 3)) (has_versions (request_in mad).header && (bit_and (request_in mad).rmpp.flags 1 == 1)) of_it in
    let both = and_parts (has_versions (request_in mad).header) (bit_and (request_in mad).rmpp.flags 1 == 1) parts.1 in
    rw (parts.0, both.0, both.1) refl

-- ---- to put its own table to a port changes no table
put_back : (p : ℕ) (found : Option PortTransfer)
    → table_at (option_map (λ (place : PortTransfer). record { port = p; open_table = table_at found }) found) ≡ table_at found
put_back p (Some place) = refl
put_back p None = refl

tables_stay : (own p : ℕ) (transfers : List PortTransfer) → table_of p (with_table own (table_of own transfers) transfers) ≡ table_of p transfers
tables_stay own p transfers = elim (cases_Bool (own == p)) [
  | inl this ↦ subst (λ (q : ℕ). table_of q (with_table own (table_of own transfers) transfers) ≡ table_of q transfers) (eqb-true own p this)
      (ap table_at (own_place own (table_of own transfers) transfers) ∙ put_back own (table_place own transfers))
  | inr other ↦ ap table_at (other_table p own (table_of own transfers) transfers other)
]

passed : (mad : List ℕ) (table : Option Transfer) → is_of_current table mad ≡ false → on_rmpp (request_in mad) table ≡ ([], table)
unfolding request_in
passed mad None e = refl
passed mad (Some table) e = elim (cases_Bool (is_of_table table (request_in mad))) [
  | inl of_it ↦
      let kinds : ((field mad 200 8 == 2) || ((field mad 200 8 == 3) || (field mad 200 8 == 4))) ≡ false =
      sym (ap (λ b. b && ((field mad 200 8 == 2) || ((field mad 200 8 == 3) || (field mad 200 8 == 4)))) of_it) ∙ e in
      let ack = or_parts (field mad 200 8 == 2) ((field mad 200 8 == 3) || (field mad 200 8 == 4)) kinds in
      let ends = or_parts (field mad 200 8 == 3) (field mad 200 8 == 4) ack.1 in
      rw (of_it, ack.0, ends.0, ends.1) refl
  | inr other ↦ rw other refl
]

same_acts : (one other : List ℕ) (table : Option Transfer) → AgreeInFive one other → on_rmpp (request_in one) table ≡ on_rmpp (request_in other) table
unfolding request_in
same_acts one other None same = refl
same_acts one other (Some table) same = rw (same.version, same.kind, same.transaction_id, same.segment_number, same.window) refl

pub transfers_go_by_five_fields : TransfersGoByFiveFields
transfers_go_by_five_fields = record {
  ignored = λ all own mad state of_it of_another.
      let did : answer all own mad state ≡ after_rmpp own state ([], table_of own.guid state.transfers) =
      taken all own mad state of_it ∙ ap (after_rmpp own state) (passed mad (table_of own.guid state.transfers) of_another) in
      record {
        unanswered = ap (λ (answered : Answered). answered.0) did;
        remembered = ap (λ (answered : Answered). answered.1.remembered) did;
        tables = λ p. ap (λ (answered : Answered). table_of p answered.1.transfers) did ∙ tables_stay own.guid p state.transfers;
      };
  five = λ all own one other state of_one of_other same.
      taken all own one state of_one ∙ (ap (after_rmpp own state) (same_acts one other (table_of own.guid state.transfers) same) ∙ sym (taken all own other state of_other));
}

-- ---- wrong rules: a transfer to a port is in progress, and a MAD comes
is_there : Option Transfer → Bool
is_there (Some table) = true
is_there None = false

waiting : ℕ → Administration
waiting transaction = record {
  remembered = record { partitions = []; services = [] };
  transfers = record {
    port = 0x111;
    open_table = Some (opened (record { header = header_of 0x92 transaction 0x11; attribute_offset = 14; component_mask = 0 }) []);
  } ∷ [];
}

is_open : Answered → Bool
is_open answered = is_there (table_of 0x111 answered.1.transfers)

pub high_bits_are_looked_at : HighBitsAreLookedAt
unfolding field put_field reply_bytes request_in waiting is_open is_there
high_bits_are_looked_at law =
    false≢true (ap is_there ((law ports full (of_transfer 5 1 3) (waiting 0x100000005) refl refl).tables 0x111))

pub ends_name_their_transfer : EndsNameTheirTransfer
unfolding field put_field reply_bytes request_in waiting is_open is_there
ends_name_their_transfer law = false≢true (ap is_there ((law ports full (of_transfer 5 1 3) (waiting 6) refl refl).tables 0x111))

pub active_requests_are_ignored : ActiveRequestsAreIgnored
unfolding field put_field reply_bytes request_in waiting is_open is_there
active_requests_are_ignored law =
    false≢true (ap (λ (mads : List (List ℕ)). length mads == 0) (law ports full (of_transfer 5 1 1) at_first refl refl).unanswered)

-- such a STOP under the method Get
stop_by_get : List ℕ
stop_by_get =
    asking (header_of 1 5 0x11)
    (record { version = 1; kind = 3; response_time = 0; flags = 1; status = 0; segment_number = 1; payload_length_or_new_window_last = 9 }) 0 []

pub methods_are_not_looked_at : MethodsAreNotLookedAt
unfolding field put_field reply_bytes request_in waiting is_open is_there stop_by_get
methods_are_not_looked_at law =
    false≢true (ap is_open (law ports full (of_transfer 5 1 3) stop_by_get (waiting 5) refl refl
    (record { version = refl; kind = refl; transaction_id = refl; segment_number = refl; window = refl })))
