use Rattle.std.proofs.Common.{◌∙◌, ap}
use Rattle.sa_model.specs.Groups.{Membership}
use Rattle.sa_replies.specs.Joins.{bits_of_join_state, bits_of_member}
use Rattle.sa_store.proofs.MemberLemmas.{all_bits}
use Rattle.sa_store.proofs.group.Group.bits_of.Goals as goal

pub returns-in-Some : goal.returns-in-Some
returns-in-Some c =
    all_bits c.membership.inside.join_state.0
    ∙ ap (λ (membership : Membership). bits_of_join_state membership.join_state) c.membership.view_is
    ∙ ap bits_of_member c.in-Some.ensures
