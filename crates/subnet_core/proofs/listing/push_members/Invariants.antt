use Rattle.std.proofs.Common.{◌≡◌, ◌++◌, take}
use Rattle.std.specs.List.{flat_map}
use Rattle.subnet_core.specs.Listing.{member_text}
use Rattle.subnet_core.proofs.listing.push_members.Given as goal

abbrev pub invariant-loop-port : goal.invariant-loop-port
invariant-loop-port l = l.text.items ≡ l.initial.text.items ++ flat_map (member_text l.base) (take l.port-index l.ports)
