-- Wrong rules for what comes of a packet, and the law that each breaks.
use Rattle.std.specs.Prelude.{ℕ, Bool, true, List, [], ◌∷◌, map, Option, option_map}
use Rattle.audit_net.specs.declared.following.Turn.{Turn}
use Rattle.audit_net.specs.Following.{end_within, loop_from}
use Rattle.audit_net.specs.Laws.{FollowsWays, MarksWhereHostsCome, ReportsEndless, ReportsLoops}
use Rattle.audit_net.specs.Net.{NetState}
use Rattle.audit_net.specs.Ways.{way_within}

-- ---- what does not end at the first switch never does
abbrev pub end_at_once : NetState → ℕ → ℕ → Option Turn
end_at_once net lid place = end_within net lid 1 place

abbrev pub WaysAreLonger : Type 0
WaysAreLonger = ReportsEndless end_at_once → ⊥

-- ---- a loop is reported without the switch where it is reported
abbrev pub second_of : List ℕ → List ℕ
second_of [] = []
second_of (first ∷ rest) = rest

abbrev pub from_the_next : NetState → ℕ → ℕ → Option (List ℕ)
from_the_next net lid home = option_map second_of (loop_from net lid home)

abbrev pub LoopsBeginWhereReported : Type 0
LoopsBeginWhereReported = ReportsLoops from_the_next → ⊥

-- ---- a way ends at its first switch
abbrev pub one_switch : NetState → (lid place : ℕ) → List ℕ
one_switch net lid place = way_within net lid 1 place

abbrev pub WaysGoOn : Type 0
WaysGoOn = FollowsWays one_switch → ⊥

-- ---- packets of hosts come nowhere
abbrev pub no_marks : NetState → (lid : ℕ) → List Bool
no_marks net lid = []

abbrev pub HostsComeSomewhere : Type 0
HostsComeSomewhere = MarksWhereHostsCome no_marks → ⊥

-- ---- and everywhere
abbrev pub all_marks : NetState → (lid : ℕ) → List Bool
all_marks net lid = map (λ node. true) net.plan.nodes

abbrev pub HostsDoNotComeEverywhere : Type 0
HostsDoNotComeEverywhere = MarksWhereHostsCome all_marks → ⊥
