-- Wrong rules for MADs of transfers.
use Rattle.std.specs.Prelude.{ℕ, ◌==◌, ◌/◌, ◌^◌, ◌&&◌, ◌||◌, not, if◌then◌else◌, [], Option, Some, None}
use Rattle.mad_layout.specs.Bits.{field, put_field}
use Rattle.rmpp_core.specs.Segments.{Transfer}
use Rattle.sa_replies.specs.Transfers.{table_of, with_table}
use Rattle.sa_replies.specs.Answer.{answer}
use Rattle.sa_replies.specs.Laws.{AnswerRule, is_of_transfer}
use Rattle.sa_replies.specs.TransferMads.{IgnoresOtherTransfers, LooksAtFive}

-- ---- the high 32 bits of the TransactionID are not looked at
abbrev pub transaction_of : Option Transfer → ℕ
transaction_of (Some table) = table.header.header.transaction_id
transaction_of None = 0

abbrev pub answer_by_low_bits : AnswerRule
answer_by_low_bits ports own mad state =
    if is_of_transfer mad
    then answer ports own (put_field mad 64 32 (transaction_of (table_of own.guid state.transfers) / 2 ^ 32)) state
    else answer ports own mad state

abbrev pub HighBitsAreLookedAt : Type 0
HighBitsAreLookedAt = IgnoresOtherTransfers answer_by_low_bits → ⊥

-- ---- a STOP or an ABORT ends the transfer whatever its TransactionID
abbrev pub answer_by_any_end : AnswerRule
answer_by_any_end ports own mad state =
    if is_of_transfer mad && ((field mad 200 8 == 3) || (field mad 200 8 == 4))
    then ([], record state { transfers = with_table own.guid None state.transfers })
    else answer ports own mad state

abbrev pub EndsNameTheirTransfer : Type 0
EndsNameTheirTransfer = IgnoresOtherTransfers answer_by_any_end → ⊥

-- ---- a GetTable with the flag Active is answered as one without
abbrev pub answer_active_requests : AnswerRule
answer_active_requests ports own mad state =
    if is_of_transfer mad && ((field mad 24 8 == 0x12) && (field mad 200 8 == 1))
    then answer ports own (put_field mad 213 3 0) state
    else answer ports own mad state

abbrev pub ActiveRequestsAreIgnored : Type 0
ActiveRequestsAreIgnored = IgnoresOtherTransfers answer_active_requests → ⊥

-- ---- a MAD of a transfer is taken under the method GetTable alone
abbrev pub answer_by_method : AnswerRule
answer_by_method ports own mad state =
    if is_of_transfer mad && not (field mad 24 8 == 0x12) then ([], state) else answer ports own mad state

abbrev pub MethodsAreNotLookedAt : Type 0
MethodsAreNotLookedAt = LooksAtFive answer_by_method → ⊥
