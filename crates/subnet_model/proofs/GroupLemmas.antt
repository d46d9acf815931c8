-- Whom a packet reaches by groups.
use Rattle.std.proofs.Common.{refl, inl, inr}
use Rattle.std.proofs.lemmas.Bool.{cases_Bool}
use Rattle.subnet_model.specs.Groups.{GroupsReachOthers}

pub groups_reach_others : GroupsReachOthers
groups_reach_others = record {
  member = λ has_joined command port joined other. rw (joined, other) refl;
  sender = λ has_joined command port own. elim (cases_Bool (has_joined port.guid)) [
    | inl joined ↦ rw (joined, own) refl
    | inr not_joined ↦ rw not_joined refl
  ];
  stranger = λ has_joined command port not_joined. rw not_joined refl;
}
