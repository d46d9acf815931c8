use Rattle.rmpp_core.proofs.TableLemmas.{is_a_table}
use Rattle.rmpp_core.proofs.laws.what_is_received_is_a_table.Goals as goal

pub returns : goal.returns
returns c = is_a_table
