-- A LID, and the switches at which its entries count: all, or those that are marked.
use Rattle.std.specs.Prelude.{ℕ, Bool, true, List, Option, Some, None}
use Rattle.std.specs.Option.{option_map_or}
use Rattle.topo_file.specs.Rounds.{is_marked}
use Rattle.audit_net.specs.Hosts.{hosts_marks}
use Rattle.audit_net.specs.Net.{NetState}

pub record CourseState : Type 0 where
  pub lid : ℕ
  pub marks : Option (List Bool)

abbrev pub counts : CourseState → (place : ℕ) → Bool
counts course place = option_map_or (λ marks. is_marked marks place) course.marks true

abbrev pub everywhere : ℕ → CourseState
everywhere lid = record { lid = lid; marks = None }

-- at the switches that packets of hosts come to
abbrev pub from_hosts : NetState → ℕ → CourseState
from_hosts net lid = record { lid = lid; marks = Some (hosts_marks net lid) }
