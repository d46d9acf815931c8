-- A port that is alone asks for a table of nodes, of which a rule would note too little.
use Rattle.std.proofs.Common.{◌==◌, [], ap, sym}
use Rattle.subnet_model.specs.declared.command.Command.{Command}
use Rattle.subnet_model.specs.declared.command.Command.TheVariants.{Send}
use Rattle.std.specs.Int.Digits.{AllBelowBase}
use Rattle.std.proofs.lemmas.Bool.{false≢true}
use Rattle.mad_layout.specs.Bits.{field, number, put_field}
use Rattle.rmpp_core.specs.Reply.{reply_bytes}
use Rattle.rmpp_core.specs.Segments.{segment_of}
use Rattle.sa_records.specs.NodeRecord.{node_record_bytes, node_record_selected, node_in}
use Rattle.rmpp_core.proofs.ReadBackLemmas.{reply_below}
use Rattle.sa_replies.proofs.WrongStateLemmas.{alone, is_configured}
use Rattle.sa_replies.specs.Examples.{nodes_wanted}
use Rattle.sa_replies.specs.Request.{request_in}
use Rattle.sa_replies.specs.RunExamples.{ask}
use Rattle.sa_replies.specs.RunWrongRules.{AnswersAreNoted, NoBytesAreLess, SendsAreNoted}

wanted_below : AllBelowBase 256 (nodes_wanted 4)
wanted_below = reply_below _ _ _

pub no_bytes_are_less : NoBytesAreLess
unfolding field put_field reply_bytes segment_of request_in node_in node_record_bytes node_record_selected
no_bytes_are_less law = false≢true (ap (λ bytes. number bytes == 0) (law alone [] (ask 0x101 (nodes_wanted 4)) is_configured wanted_below).0)

pub answers_are_noted : AnswersAreNoted
unfolding field put_field reply_bytes segment_of request_in node_in node_record_bytes node_record_selected
answers_are_noted law = (law alone [] (ask 0x101 (nodes_wanted 4)) is_configured wanted_below).0

abbrev sent : Command
sent = Send (record { port_guid = 0x101; dlid = 1; p_key = 0xffff; destination_qp = 1; payload = nodes_wanted 4 })

pub sends_are_noted : SendsAreNoted
unfolding field put_field reply_bytes segment_of request_in node_in node_record_bytes node_record_selected
sends_are_noted law = false≢true (sym (law alone [] sent is_configured wanted_below).0)
