use Rattle.std.proofs.Common.{IfOk, ◌≡◌, ◌∙◌, ℕ, List, Result, Some, ap, subst, sym}
use Rattle.mad_layout.specs.declared.status.MadStatus.{MadStatus}
use Rattle.sa_replies.specs.Success.{Success as Brought}
use Rattle.sa_answer.specs.Answering.{Brings, Reacts}
use Rattle.sa_answer.specs.declared.reaction.Reaction.{Reaction}
use Rattle.sa_records.specs.McMemberRecord.{group_in}
use Rattle.sa_records.specs.ServiceRecord.{service_in}
use Rattle.sa_records.specs.declared.mc_member_record.McMemberRecord.{McMemberRecord}
use Rattle.subnet_model.specs.Delivery.{port_with_guid}
use Rattle.subnet_model.specs.declared.subnet_port.SubnetPort.{SubnetPort}
use Rattle.sa_replies.specs.Answer.{answered_with, outcome}
use Rattle.sa_replies.specs.Joins.{parameters_asked}
use Rattle.sa_replies.specs.Request.{Request}
use Rattle.sa_replies.specs.State.{is_fit_group}
use Rattle.sa_replies.proofs.StateLemmas.{parameters_fit}
use Rattle.sa_answer.specs.declared.wanted.Wanted.TheVariants.{Get, GetTable, Refused}
use Rattle.sa_store.specs.Kept.{KeptPort}
use Rattle.sa_store.specs.Registry.{IsListed, RegistryState}
use Rattle.sa_answer.proofs.AnswerLemmas.{guid_of_found, reported_of}
use Rattle.sa_answer.proofs.WantedLemmas.{by_wish, of_join, of_leave, of_service_deleted, of_service_set}
use Rattle.sa_answer.proofs.dispatch.answered.Goals as goal

-- what is kept there is kept for the port
same_port : (kept : KeptPort) (ports : List SubnetPort) (guid : ℕ) (own : SubnetPort) → Some kept.port ≡ port_with_guid ports guid
    → port_with_guid ports guid ≡ Some own → kept.port ≡ own
same_port kept ports guid own here found = cc

listed_port : (kept : KeptPort) (ports : List SubnetPort) (guid : ℕ) → Some kept.port ≡ port_with_guid ports guid → IsListed ports kept.port
listed_port kept ports guid here = ap (port_with_guid ports) (guid_of_found ports guid kept.port (sym here)) ∙ sym here

reacts_so : {E : Type 0} (own : SubnetPort) (request : Request) (ports : List SubnetPort) (old new : RegistryState) (result : Result Reaction E)
    (brought : Result Brought MadStatus) → brought ≡ outcome ports own old.administration.remembered request
    → IfOk result (λ reaction. Reacts (answered_with own request old.administration brought) reaction old new)
    → IfOk result (λ reaction. Reacts (answered_with own request old.administration (outcome ports own old.administration.remembered request)) reaction old new)
reacts_so own request ports old new result brought is reacts =
    subst (λ (brought : Result Brought MadStatus). IfOk result (λ reaction. Reacts (answered_with own request old.administration brought) reaction old new)) is reacts

pub records_answered-requires-clause-reported : goal.records_answered-requires-clause-reported
records_answered-requires-clause-reported c =
    let state = c.args.store.now in
    let ports = state.configuration.ports in
    let own = c.kept_at.result.now.port in
    let listed = listed_port c.kept_at.result.now ports c.args.requester.guid c.kept_at.ensures in
    let wish = by_wish ports own state.administration.remembered c.args.request.now (Get c.in-Get.attribute) (sym c.in-Get.is ∙ c.wanted.ensures) in
    let brings = subst (λ (brought : Result Brought MadStatus). Brings state.administration.remembered brought c.got-outcome.result) wish (c.got-outcome.ensures listed) in
    reported_of state.configuration own state.administration.remembered c.args.request.now c.got-outcome.result c.known.ensures.configured listed c.known.ensures.remembered brings

pub records_answered-requires-in-GetTable-clause-reported : goal.records_answered-requires-in-GetTable-clause-reported
records_answered-requires-in-GetTable-clause-reported c =
    let state = c.args.store.now in
    let ports = state.configuration.ports in
    let own = c.kept_at-in-GetTable.result.now.port in
    let listed = listed_port c.kept_at-in-GetTable.result.now ports c.args.requester.guid c.kept_at-in-GetTable.ensures in
    let wish = by_wish ports own state.administration.remembered c.args.request.now (GetTable c.in-GetTable.attribute) (sym c.in-GetTable.is ∙ c.wanted.ensures) in
    let brings = subst (λ (brought : Result Brought MadStatus). Brings state.administration.remembered brought c.in_ok-outcome-in-GetTable.outcome) wish (c.in_ok-outcome-in-GetTable.ensures listed) in
    reported_of state.configuration own state.administration.remembered c.args.request.now c.in_ok-outcome-in-GetTable.outcome c.known.ensures.configured listed c.known.ensures.remembered brings

pub group_joined-requires-clause-fit : goal.group_joined-requires-clause-fit
group_joined-requires-clause-fit c =
    ap (λ (asked : McMemberRecord). is_fit_group (parameters_asked c.request.inside.component_mask asked)) c.read.ensures.value
    ∙ parameters_fit c.request.inside.component_mask c.request.inside.content

pub returns-in-Get-clause-reacts : goal.returns-in-Get-clause-reacts
returns-in-Get-clause-reacts c = λ own found.
    let state = c.args.store.now in
    let ports = state.configuration.ports in
    let same = same_port c.kept_at.result.now ports c.args.requester.guid own c.kept_at.ensures found in
    let brings = rw same at (c.got-outcome.ensures (listed_port c.kept_at.result.now ports c.args.requester.guid c.kept_at.ensures)) in
    let wish = by_wish ports own state.administration.remembered c.args.request.now (Get c.in-Get.attribute) (sym c.in-Get.is ∙ c.wanted.ensures) in
    reacts_so own c.args.request.now ports state c.records_answered.new.store c.records_answered.result _ wish
    (c.records_answered.ensures.reacts own _ (guid_of_found ports c.args.requester.guid own found) brings)

pub returns-in_ok-outcome-in-GetTable-clause-reacts : goal.returns-in_ok-outcome-in-GetTable-clause-reacts
returns-in_ok-outcome-in-GetTable-clause-reacts c = λ own found.
    let state = c.args.store.now in
    let ports = state.configuration.ports in
    let same = same_port c.kept_at-in-GetTable.result.now ports c.args.requester.guid own c.kept_at-in-GetTable.ensures found in
    let brings = rw same at (c.in_ok-outcome-in-GetTable.ensures (listed_port c.kept_at-in-GetTable.result.now ports c.args.requester.guid c.kept_at-in-GetTable.ensures)) in
    let wish = by_wish ports own state.administration.remembered c.args.request.now (GetTable c.in-GetTable.attribute) (sym c.in-GetTable.is ∙ c.wanted.ensures) in
    reacts_so own c.args.request.now ports state c.records_answered-in-GetTable.new.store c.records_answered-in-GetTable.result _ wish
    (c.records_answered-in-GetTable.ensures.reacts own _ (guid_of_found ports c.args.requester.guid own found) brings)

pub returns-in_ok-outcome-in-Join-clause-reacts : goal.returns-in_ok-outcome-in-Join-clause-reacts
returns-in_ok-outcome-in-Join-clause-reacts c = λ own found.
    let state = c.args.store.now in
    let ports = state.configuration.ports in
    let mask = ap (λ (request : Request). request.component_mask) c.request.view_is in
    let content = ap (λ (request : Request). request.content) c.request.view_is in
    let read = c.read.ensures.value ∙ ap group_in content in
    let is = of_join ports own state.administration.remembered c.args.request.now c.request.inside.component_mask c.read.result mask read (sym c.in-Join.is ∙ c.wanted.ensures) in
    reacts_so own c.args.request.now ports state c.group_joined.new.store c.change_answered.result _ is
    (c.change_answered.ensures own _ state c.group_joined.new.store (c.in_ok-outcome-in-Join.ensures.brings own found))

pub returns-in-Leave-clause-reacts : goal.returns-in-Leave-clause-reacts
returns-in-Leave-clause-reacts c = λ own found.
    let state = c.args.store.now in
    let ports = state.configuration.ports in
    let mask = ap (λ (request : Request). request.component_mask) c.request.view_is in
    let content = ap (λ (request : Request). request.content) c.request.view_is in
    let read = c.read-asked.ensures.value ∙ ap group_in content in
    let is = of_leave ports own state.administration.remembered c.args.request.now c.request.inside.component_mask c.read-asked.result c.request.inside.content mask read content (sym c.in-Leave.is ∙ c.wanted.ensures) in
    reacts_so own c.args.request.now ports state c.group_left-outcome.new.store c.change_answered-in-Leave.result _ is
    (c.change_answered-in-Leave.ensures own _ state c.group_left-outcome.new.store (c.group_left-outcome.ensures.brings own found))

pub returns-in_ok-outcome-in-SetService-clause-reacts : goal.returns-in_ok-outcome-in-SetService-clause-reacts
returns-in_ok-outcome-in-SetService-clause-reacts c = λ own found.
    let state = c.args.store.now in
    let ports = state.configuration.ports in
    let mask = ap (λ (request : Request). request.component_mask) c.request.view_is in
    let content = ap (λ (request : Request). request.content) c.request.view_is in
    let read = c.read-in-SetService.ensures.value ∙ ap service_in content in
    let is = of_service_set ports own state.administration.remembered c.args.request.now c.request.inside.component_mask c.read-in-SetService.result mask read (sym c.in-SetService.is ∙ c.wanted.ensures) in
    reacts_so own c.args.request.now ports state c.service_set.new.store c.change_answered-in-SetService.result _ is
    (c.change_answered-in-SetService.ensures own _ state c.service_set.new.store (c.in_ok-outcome-in-SetService.ensures.brings own found))

pub returns-in-DeleteService-clause-reacts : goal.returns-in-DeleteService-clause-reacts
returns-in-DeleteService-clause-reacts c = λ own found.
    let state = c.args.store.now in
    let ports = state.configuration.ports in
    let mask = ap (λ (request : Request). request.component_mask) c.request.view_is in
    let content = ap (λ (request : Request). request.content) c.request.view_is in
    let read = c.read-asked-in-DeleteService.ensures.value ∙ ap service_in content in
    let is = of_service_deleted ports own state.administration.remembered c.args.request.now c.request.inside.component_mask c.read-asked-in-DeleteService.result c.request.inside.content mask read content (sym c.in-DeleteService.is ∙ c.wanted.ensures) in
    reacts_so own c.args.request.now ports state c.service_deleted-outcome.new.store c.change_answered-in-DeleteService.result _ is
    (c.change_answered-in-DeleteService.ensures own _ state c.service_deleted-outcome.new.store (c.service_deleted-outcome.ensures.brings own found))

pub returns-in-Refused-clause-reacts : goal.returns-in-Refused-clause-reacts
returns-in-Refused-clause-reacts c = λ own found.
    let state = c.args.store.now in
    let ports = state.configuration.ports in
    let wish = by_wish ports own state.administration.remembered c.args.request.now (Refused c.in-Refused.status) (sym c.in-Refused.is ∙ c.wanted.ensures) in
    reacts_so own c.args.request.now ports state state c.refused.result _ wish (c.refused.ensures own state)
