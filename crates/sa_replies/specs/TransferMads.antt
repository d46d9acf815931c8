-- What MADs of RMPP transfers do (IBA volume 1, chapter 13), in their bits.
use Rattle.std.specs.Prelude.{ℕ, ◌≡◌, ◌==◌, Bool, true, false, ◌&&◌, ◌||◌, List, [], Option, Some, None}
use Rattle.mad_layout.specs.Bits.{field}
use Rattle.rmpp_core.specs.Segments.{Transfer}
use Rattle.subnet_model.specs.declared.subnet_port.SubnetPort.{SubnetPort}
use Rattle.sa_replies.specs.Transfers.{table_of}
use Rattle.sa_replies.specs.Answer.{Administration, Answered, answer}
use Rattle.sa_replies.specs.Laws.{AnswerRule, is_of_transfer}

-- RMPP version 1, and all 64 bits of the TransactionID of the transfer
abbrev pub names_transfer : Transfer → List ℕ → Bool
names_transfer table mad = (field mad 192 8 == 1) && (field mad 64 64 == table.header.header.transaction_id)

-- an ACK, a STOP or an ABORT
abbrev pub is_to_sender : List ℕ → Bool
is_to_sender mad = (field mad 200 8 == 2) || ((field mad 200 8 == 3) || (field mad 200 8 == 4))

-- it is of the transfer in progress, if one is
abbrev pub is_of_current : Option Transfer → List ℕ → Bool
is_of_current None mad = false
is_of_current (Some table) mad = names_transfer table mad && is_to_sender mad

-- no answer; groups, services and the transfer to each port stay
pub record DoesNothing (state : Administration) (answered : Answered) : Type 0 where
  pub unanswered : answered.0 ≡ []
  pub remembered : answered.1.remembered ≡ state.remembered
  pub tables : (port : ℕ) → table_of port answered.1.transfers ≡ table_of port state.transfers

-- what is not of the transfer in progress to the port that sends it does nothing
abbrev pub IgnoresOtherTransfers : AnswerRule → Type 0
IgnoresOtherTransfers rule =
    (ports : List SubnetPort) (own : SubnetPort) (mad : List ℕ) (state : Administration) → is_of_transfer mad ≡ true
    → is_of_current (table_of own.guid state.transfers) mad ≡ false → DoesNothing state (rule ports own mad state)

-- RMPP version, type, TransactionID, SegmentNumber, and NewWindowLast or PayloadLength
pub record AgreeInFive (one other : List ℕ) : Type 0 where
  pub version : field one 192 8 ≡ field other 192 8
  pub kind : field one 200 8 ≡ field other 200 8
  pub transaction_id : field one 64 64 ≡ field other 64 64
  pub segment_number : field one 224 32 ≡ field other 224 32
  pub window : field one 256 32 ≡ field other 256 32

-- two MADs of transfers that agree in these do the same, whatever else is in them
abbrev pub LooksAtFive : AnswerRule → Type 0
LooksAtFive rule =
    (ports : List SubnetPort) (own : SubnetPort) (one other : List ℕ) (state : Administration) → is_of_transfer one ≡ true
    → is_of_transfer other ≡ true → AgreeInFive one other → rule ports own one state ≡ rule ports own other state

-- both hold of ours
pub record TransfersGoByFiveFields : Type 0 where
  pub ignored : IgnoresOtherTransfers answer
  pub five : LooksAtFive answer
