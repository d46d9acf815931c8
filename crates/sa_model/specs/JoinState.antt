-- How a port takes part in a multicast group: the JoinState of an MCMemberRecord (IBA volume 1, 15.2.5).
use Rattle.std.specs.Prelude.{Bool, not, ◌&&◌, ◌||◌}

pub record JoinState : Type 0 where
  pub full_member : Bool
  pub non_member : Bool
  pub send_only_non_member : Bool

-- some bit is set
abbrev pub is_joined : JoinState → Bool
is_joined state = state.full_member || (state.non_member || state.send_only_non_member)

-- who takes part as one that sends only receives nothing
abbrev pub is_receiver : JoinState → Bool
is_receiver state = state.full_member || state.non_member

abbrev pub with_bits : JoinState → JoinState → JoinState
with_bits more state = record {
  full_member = state.full_member || more.full_member;
  non_member = state.non_member || more.non_member;
  send_only_non_member = state.send_only_non_member || more.send_only_non_member;
}

abbrev pub without_bits : JoinState → JoinState → JoinState
without_bits less state = record {
  full_member = state.full_member && not less.full_member;
  non_member = state.non_member && not less.non_member;
  send_only_non_member = state.send_only_non_member && not less.send_only_non_member;
}
