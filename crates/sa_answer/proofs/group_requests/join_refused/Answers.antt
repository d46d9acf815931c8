use Rattle.std.proofs.Common.{◌∙◌, ap, get_or, sym}
use Rattle.std.proofs.lemmas.Bool.{eqb-true}
use Rattle.pkey_rules.specs.PKey.{base_of}
use Rattle.sa_model.specs.Groups.{PartitionGroups}
use Rattle.sa_model.specs.Joining.{may_create}
use Rattle.sa_model.specs.Refusals.{first_refusal}
use Rattle.sa_answer.specs.JoinQuestions.{questions_in}
use Rattle.sa_store.proofs.MemberLemmas.{one_of_base, own_bases_of}
use Rattle.sa_answer.proofs.JoinLemmas.{refusal_in}
use Rattle.sa_answer.proofs.group_requests.join_refused.Goals as goal

pub group_refusal-requires : goal.group_refusal-requires
group_refusal-requires c =
    let state = c.args.store.now in
    let partitions = state.administration.remembered.partitions in
    let base = base_of c.args.asked.now.p_key in
    let own = own_bases_of state.configuration state.administration.remembered c.known.ensures.configured c.known.ensures.remembered in
    let at = one_of_base base partitions c.args.place c.partition_at.result.now own c.requires.place in
    ap (λ (partition : PartitionGroups). partition.base) c.partition_at.ensures ∙ eqb-true (get_or partitions c.args.place c.partition_at.result.now).base base at.is

pub returns : goal.returns
returns c own asks =
    let state = c.args.store.now in
    let partitions = state.administration.remembered.partitions in
    let mask = c.args.mask in
    let asked = c.args.asked.now in
    let ports = state.configuration.ports in
    let bases = own_bases_of state.configuration state.administration.remembered c.known.ensures.configured c.known.ensures.remembered in
    let at = one_of_base (base_of asked.p_key) partitions c.args.place c.partition_at.result.now bases c.requires.place in
    let may = ap (may_create ports) (sym asks) ∙ sym c.may_make.ensures in
    c.group_refusal.ensures ports own may
    ∙ ap (λ (partition : PartitionGroups). first_refusal (questions_in ports own mask asked partition)) c.partition_at.ensures
    ∙ sym (refusal_in ports own mask asked partitions c.args.place c.partition_at.result.now at)
