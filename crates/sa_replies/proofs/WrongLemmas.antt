-- A table that one limited member opens, and that another could see, or that shows the other; and notes that name no source.
use Rattle.std.proofs.Common.{Bool, true, false, ◌==◌, List, [], ◌∷◌, Option, Some, None, ◌≡◌, ap, refl, arith, inl, inr}
use Rattle.std.specs.Int.Digits.{AllBelowBase}
use Rattle.mad_layout.specs.Bits.{field, number, put_field}
use Rattle.rmpp_core.specs.Reply.{reply_bytes}
use Rattle.rmpp_core.specs.Segments.{Transfer}
use Rattle.sa_model.specs.Anchor.{is_by_file}
use Rattle.sa_model.specs.GroupExamples.{ports}
use Rattle.sa_records.specs.PathRecord.{path_record_bytes, path_record_selected, path_in}
use Rattle.sa_records.specs.Speed.{speed_of}
use Rattle.sa_records.specs.NodeRecord.{node_record_bytes, node_record_selected, node_in}
use Rattle.sa_records.specs.McMemberRecord.{mc_member_record_bytes, mc_member_record_selected, group_in}
use Rattle.sa_records.specs.ServiceRecord.{service_in, service_record_bytes}
use Rattle.sa_model.specs.Groups.{Creator}
use Rattle.sa_model.specs.QueryExamples.{full, limited}
use Rattle.sa_model.specs.Shown.{Entry}
use Rattle.sa_replies.specs.Request.{request_in}
use Rattle.sa_replies.specs.Transfers.{table_at}
use Rattle.sa_replies.specs.Examples.{after, at_first, by, joining, making, nodes_wanted, path_wanted, service_asked_by, with_services}
use Rattle.rmpp_core.proofs.ReadBackLemmas.{reply_below}
use Rattle.sa_replies.specs.Notes.{no_notes}
use Rattle.sa_replies.specs.WrongRules.{AllNodesReport, AskersAreNotedAlone, DeletesAreNotOfFile, JoinsAreOfTheMaker, NothingNotedIsLess, OneTableReports, SetsAreNotOfFile, TheFileIsNoSource}

abbrev is_there : Option Transfer → Bool
is_there None = false
is_there (Some transfer) = true

pub one_table_reports : OneTableReports
unfolding field put_field reply_bytes request_in node_in node_record_bytes node_record_selected
one_table_reports law =
    let reported : true ≡ false = ap (λ place. is_there (table_at place)) (law ports 0x131 limited (nodes_wanted 5) at_first refl refl).own_table in
    absurd (cc)

pub all_nodes_report : AllNodesReport
unfolding field put_field reply_bytes request_in node_in node_record_bytes node_record_selected
all_nodes_report law =
    let near : false ≡ true = (law ports limited (nodes_wanted 5) at_first no_notes refl refl (λ p. refl)).notes 0x121 in
    absurd (cc)

-- the path that a limited member is shown is data
path_is_below : AllBelowBase 256 path_wanted
path_is_below = reply_below _ _ _

pub nothing_noted_is_less : NothingNotedIsLess
unfolding field put_field reply_bytes request_in path_in path_record_bytes path_record_selected speed_of
nothing_noted_is_less law =
    let held = law ports limited path_wanted at_first no_notes path_is_below tt (tt, (tt, (tt, (tt, tt)))) (omega arith) in
    let zeros : false ≡ true = ap (λ bytes. number bytes == 0) held.0 in
    absurd (cc)

abbrev is_empty : List Entry → Bool
is_empty [] = true
is_empty (entry ∷ more) = false

pub the_file_is_no_source : TheFileIsNoSource
unfolding field put_field reply_bytes request_in node_in node_record_bytes node_record_selected
the_file_is_no_source law = elim ((law ports limited (nodes_wanted 5) at_first no_notes).noted_for 0x121) [
  | inl same ↦ let none : false ≡ true = ap is_empty same in absurd (cc)
  | inr named ↦ let file : true ≡ false = ap is_by_file named.1.each.0 in absurd (cc)
]

pub askers_are_noted_alone : AskersAreNotedAlone
unfolding field put_field reply_bytes request_in node_in node_record_bytes node_record_selected
askers_are_noted_alone law = elim ((law ports limited (nodes_wanted 5) at_first no_notes).noted_for 0x111) [
  | inl same ↦ let none : false ≡ true = ap is_empty same in absurd (cc)
  | inr named ↦ let own : true ≡ false = ap (λ guid. guid == 0x111) named.0 in absurd (cc)
]

-- ---- a limited member sets a service, deletes one, and joins a group that the full member made
pub sets_are_not_of_file : SetsAreNotOfFile
unfolding field put_field reply_bytes request_in service_in service_record_bytes
sets_are_not_of_file law =
    let file : true ≡ false = ap is_by_file (((law ports limited (service_asked_by 2 7) at_first no_notes).set refl).0 refl).0 in
    absurd (cc)

pub deletes_are_not_of_file : DeletesAreNotOfFile
unfolding field put_field reply_bytes request_in service_in service_record_bytes
deletes_are_not_of_file law =
    let file : true ≡ false = ap is_by_file (((law ports limited (service_asked_by 0x15 1) (with_services 1) no_notes).deleted refl).0 refl).0 in
    absurd (cc)

abbrev is_of_full : Creator → Bool
is_of_full (Creator.Port guid) = guid == 0x111
is_of_full Creator.PartitionFile = false

pub joins_are_of_the_maker : JoinsAreOfTheMaker
unfolding field put_field reply_bytes request_in group_in mc_member_record_bytes mc_member_record_selected speed_of
joins_are_of_the_maker law =
    let maker : false ≡ true = ap is_of_full
    (((law ports limited (joining 0x121 0x0001) (after (by full (making 0x111 0x8001) ∷ [])) no_notes).joined _ refl refl).0 refl).0 in
    absurd (cc)
