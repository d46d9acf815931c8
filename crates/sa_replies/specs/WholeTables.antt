-- A port that asks for a table is brought all of it within its command (IBA volume 1, chapter 13).
use Rattle.std.specs.Prelude.{ℕ, ◌≡◌, List, Some, None, Ok}
use Rattle.rmpp_core.specs.Laws.{after_all, segment_mads}
use Rattle.rmpp_core.specs.Receiving.{nothing, whole_bytes}
use Rattle.rmpp_core.specs.Segments.{Transfer, opened}
use Rattle.subnet_model.specs.Configuration.{ConfigurationState}
use Rattle.subnet_model.specs.Configured.{IsConfigured}
use Rattle.subnet_model.specs.Delivery.{port_with_guid}
use Rattle.subnet_model.specs.Report.{answered_whole}
use Rattle.subnet_model.specs.declared.command.Command.{Command}
use Rattle.subnet_model.specs.declared.subnet_port.SubnetPort.{SubnetPort}
use Rattle.sa_replies.specs.Answer.{Administration, Answered, answer, answered_with}
use Rattle.sa_replies.specs.Reply.{table_header}
use Rattle.sa_replies.specs.Request.{request_in}
use Rattle.sa_replies.specs.Success.{Success}
use Rattle.sa_replies.specs.Transfers.{with_table}
use Rattle.sa_replies.specs.Asking.{acknowledgements}
use Rattle.sa_replies.specs.RunLaws.{remembered_after}

-- the table with these records that a MAD asks for, so far apart
abbrev pub table_asked : List ℕ → ℕ → List ℕ → Transfer
table_asked mad spacing records = opened (table_header (request_in mad) spacing) records

-- a MAD that is answered by a table
abbrev pub AsksForTable : ConfigurationState → SubnetPort → List ℕ → Administration → ℕ → List ℕ → Type 0
AsksForTable configuration own mad state spacing records =
    answer configuration.ports own mad state ≡ answered_with own (request_in mad) state (Ok (Success.whole_table spacing records))

-- what the port is sent when it acknowledges each segment: all segments in their order, from which a receiver has the
-- records; no transfer to it is in progress then, and nothing else is remembered otherwise
pub record IsBroughtWhole (own : SubnetPort) (state : Administration) (transfer : Transfer) (brought : Answered) : Type 0 where
  pub segments : brought.0 ≡ segment_mads transfer
  pub received : whole_bytes (after_all (Ok nothing) brought.0) ≡ Some transfer.bytes
  pub left : brought.1 ≡ record state { transfers = with_table own.guid None state.transfers }

-- so it is after any commands, for each port and each table
abbrev pub TablesAreBroughtWhole : Type 0
TablesAreBroughtWhole =
    (configuration : ConfigurationState) (commands : List Command) (own : SubnetPort) (mad : List ℕ) (spacing : ℕ) (records : List ℕ)
    → IsConfigured configuration → port_with_guid configuration.ports own.guid ≡ Some own
    → AsksForTable configuration own mad (remembered_after configuration commands) spacing records
    → IsBroughtWhole own (remembered_after configuration commands) (table_asked mad spacing records)
    (answered_whole (answer configuration.ports own) acknowledgements mad (remembered_after configuration commands))
