-- The JoinState of an MCMemberRecord (IBA volume 1, 15.2.5): its bits 0 to 2 are FullMember, NonMember and SendOnlyNonMember.
use Rattle.std.specs.Prelude.{ℕ, ◌≡◌, ◌/◌, ◌%◌, ◌==◌}
use Rattle.sa_model.specs.JoinState.{JoinState}
use Rattle.sa_replies.specs.Joins.{join_state_of}

pub record IsJoinState (bits : ℕ) (state : JoinState) : Type 0 where
  pub full_member : state.full_member ≡ (bits % 2 == 1)
  pub non_member : state.non_member ≡ (bits / 2 % 2 == 1)
  pub send_only_non_member : state.send_only_non_member ≡ (bits / 4 % 2 == 1)

-- what a reading of the field owes
abbrev pub ReadsJoinStates : (ℕ → JoinState) → Type 0
ReadsJoinStates reading = (bits : ℕ) → IsJoinState bits (reading bits)

-- it holds of ours
abbrev pub JoinStatesAreBits : Type 0
JoinStatesAreBits = ReadsJoinStates join_state_of
