-- The hops of directed-route SMPs (IBA volume 1, chapter 14), at one node: where the SMP goes from
-- there, and what it is then. A discarded SMP is left as it came.
use Rattle.std.specs.Prelude.{ℕ, ◌+◌, ◌-◌, ◌==◌, ◌||◌, ◌&&◌, nat_lt, nat_le, if◌then◌else◌, Bool, true, not, List}
use Rattle.fabric_parts.specs.declared.node_type.NodeType.{NodeType}
use Rattle.fabric_parts.specs.declared.node_type.NodeType.TheVariants.{ChannelAdapter, Switch}
use Rattle.smp_route.specs.declared.hop.Hop.{Hop}
use Rattle.smp_route.specs.declared.hop.Hop.TheVariants.{Forward, ToAgent, ToManager, Discard}
use Rattle.smp_route.specs.HopFields.{pointer, count, initial_port, return_port, with_pointer, with_return_port}

-- where the SMP goes, and what it is then
pub record Step : Type 0 where
  pub hop : Hop
  pub smp : List ℕ

abbrev pub discarded : List ℕ → Step
discarded smp = record { hop = Discard; smp = smp }

-- a hop by a port; 0 is no port
abbrev pub by_port : ℕ → List ℕ → List ℕ → Step
by_port port after smp = if port == 0 then discarded smp else record { hop = Forward port; smp = after }

-- a path has at most 63 hops
abbrev pub is_too_long : List ℕ → Bool
is_too_long smp = nat_lt 63 (count smp)

-- ---- outgoing
-- the SMP with its pointer one hop further
abbrev pub further : List ℕ → List ℕ
further smp = with_pointer (pointer smp + 1) smp

-- and with the port by which it came in
abbrev pub noted : ℕ → List ℕ → List ℕ
noted port smp = further (with_return_port (pointer smp) port smp)

-- from the subnet manager, if the pointer is 0: by the first port of the path, and with no path to
-- the node's own agent
abbrev pub sent : List ℕ → Step
sent smp =
    if count smp == 0 then record { hop = ToAgent; smp = further smp } else by_port (initial_port smp 1) (further smp) smp

-- between the ends of the path only a switch hands it on
abbrev pub handed_on : NodeType → ℕ → List ℕ → Step
handed_on ChannelAdapter port smp = discarded smp
handed_on Switch port smp = by_port (initial_port smp (pointer smp + 1)) (noted port smp) smp

-- from another node: at the end of its path it goes to the agent
abbrev pub came_in : NodeType → ℕ → List ℕ → Step
came_in node_type port smp =
    if pointer smp == 0 then discarded smp
    else (if pointer smp == count smp then record { hop = ToAgent; smp = noted port smp } else handed_on node_type port smp)

-- port 0: from the node itself
abbrev pub outgoing : NodeType → ℕ → List ℕ → Step
outgoing node_type port smp =
    if is_too_long smp || nat_lt (count smp) (pointer smp) then discarded smp
    else (if not (port == 0) then came_in node_type port smp
    else (if pointer smp == 0 then sent smp else discarded smp))

-- ---- returning
-- the SMP with its pointer one hop back
abbrev pub nearer : List ℕ → List ℕ
nearer smp = with_pointer (pointer smp - 1) smp

-- with no hop left it is at the manager's node, else it leaves by the port by which it came in
abbrev pub sent_back : List ℕ → Step
sent_back smp =
    if pointer smp == 1 then record { hop = ToManager; smp = nearer smp }
    else by_port (return_port smp (pointer smp - 1)) (nearer smp) smp

-- what comes from another node only a switch hands on; the last hop ends at either kind of node
abbrev pub passes_back : NodeType → ℕ → Bool
passes_back ChannelAdapter pointer = pointer == 1
passes_back Switch pointer = true

-- from the agent the pointer is one past the path, from another node within it
abbrev pub may_return : NodeType → ℕ → List ℕ → Bool
may_return node_type port smp =
    if port == 0 then pointer smp == count smp + 1
    else nat_le 1 (pointer smp) && (nat_le (pointer smp) (count smp) && passes_back node_type (pointer smp))

abbrev pub returning : NodeType → ℕ → List ℕ → Step
returning node_type port smp = if not (is_too_long smp) && may_return node_type port smp then sent_back smp else discarded smp
