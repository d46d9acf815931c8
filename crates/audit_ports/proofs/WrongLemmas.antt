-- What is wrong with the wrong rules, by the ports of `Examples.antt`: two are audited.
use Rattle.std.proofs.Common.{ℕ, ◌≡◌, true, [], ◌∷◌, ◌++◌, arith}
use Rattle.audit_ports.specs.Ends.{with_port}
use Rattle.audit_ports.specs.Examples.{at_home, discovery, node_answered, plan, tables}
use Rattle.audit_ports.specs.Gathered.{gathered, gathered_end}
use Rattle.audit_ports.specs.WrongRules.{LaterPortsAreAudited, MovedPortsAreUnread, OtherPortsAreAudited, PortsAreAuditedOnce, PortsAreRead, SilentPortsAreUnread, UnreadPortsAreAudited}

pub later_ports_are_audited : LaterPortsAreAudited
unfolding gathered gathered_end with_port
later_ports_are_audited law = let none : 1 ≡ 2 = law plan discovery tables [] (λ guid lid port. true) in absurd (omega (arith, none))

-- no table was read
pub unread_ports_are_audited : UnreadPortsAreAudited
unfolding gathered gathered_end with_port
unread_ports_are_audited law = let none : 0 ≡ 2 = law plan discovery [] [] (λ guid lid port. true) in absurd (omega (arith, none))

-- the file has no partition
pub other_ports_are_audited : OtherPortsAreAudited
unfolding gathered gathered_end with_port
other_ports_are_audited law = let none : 0 ≡ 2 = law plan discovery tables [] (λ guid lid port. true) in absurd (omega (arith, none))

pub ports_are_audited_once : PortsAreAuditedOnce
unfolding gathered gathered_end with_port
ports_are_audited_once law = let none : 4 ≡ 2 = law plan discovery tables [] (λ guid lid port. true) in absurd (omega (arith, none))

-- no node was asked
pub silent_ports_are_unread : SilentPortsAreUnread
unfolding gathered gathered_end with_port
silent_ports_are_unread law = let two : 2 ≡ 0 = law plan discovery tables [] (λ guid lid port. true) in absurd (omega (arith, two))

-- another switch answers at the LID of the switch
pub moved_ports_are_unread : MovedPortsAreUnread
unfolding gathered gathered_end with_port
moved_ports_are_unread law =
    let two : 2 ≡ 1 = law plan discovery (node_answered 3 17 17 ∷ node_answered 1 99 33 ∷ tables) [] (λ guid lid port. true) in
    absurd (omega (arith, two))

pub ports_are_read : PortsAreRead
unfolding gathered gathered_end with_port
ports_are_read law = let none : 0 ≡ 2 = law plan discovery (at_home ++ tables) [] (λ guid lid port. true) in absurd (omega (arith, none))
