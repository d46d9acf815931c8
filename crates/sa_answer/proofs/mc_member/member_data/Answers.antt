use Rattle.std.proofs.Common.{◌≡◌, ◌∙◌, ap, find, get_or, sym}
use Rattle.std.proofs.lemmas.Bool.{eqb-true}
use Rattle.sa_model.specs.Groups.{PartitionGroups}
use Rattle.sa_model.specs.Joining.{has_mgid}
use Rattle.sa_replies.specs.Joins.{member_bytes}
use Rattle.sa_answer.specs.Replying.{padded}
use Rattle.sa_store.proofs.MemberLemmas.{named_in, one_of_base, own_bases_of}
use Rattle.sa_answer.proofs.mc_member.member_data.Goals as goal

pub returns : goal.returns
returns c own base guid place =
    let state = c.args.store.now in
    let partitions = state.administration.remembered.partitions in
    let d = c.partition_at.result.now in
    let bases = own_bases_of state.configuration state.administration.remembered c.known.ensures.configured c.known.ensures.remembered in
    let at = one_of_base base partitions c.args.place d bases place in
    let based : (get_or partitions c.args.place d).base ≡ base = eqb-true (get_or partitions c.args.place d).base base at.is in
    let named = named_in base c.args.mgid partitions c.args.place d at in
    c.member_data_in.ensures own guid
    ∙ ap (λ (partition : PartitionGroups). padded (member_bytes own partition.base (find (has_mgid c.args.mgid) partition.groups))) c.partition_at.ensures
    ∙ (λ i. padded (member_bytes own (based i) (sym named i)))
