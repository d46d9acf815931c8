use Rattle.std.proofs.Common.{◌≡◌, ◌∙◌, sym, length}
use Rattle.std.proofs.lemmas.Bool.{false≢true}
use Rattle.smp_wire.specs.FabricState.{FabricState}
use Rattle.fabric_wire.specs.Cabling.{fabric_over}
use Rattle.fabric_wire.proofs.ExchangeLemmas.{ready}
use Rattle.fabric_wire.proofs.fabric.exchange.Goals as goal

pub come_home-requires-clause-cables : goal.come_home-requires-clause-cables
come_home-requires-clause-cables c =
    let fabric : FabricState = fabric_over c.args.nodes.now c.args.cabling.now c.args.manager in
    let long : length c.agent_at.new.smp ≡ 256 = search in
    let is = ready fabric c.args.sent.now c.agent_at.new.smp c.agent_at.new.nodes c.in_ok-arrival.arrival c.requires
    (sym c.if-not-is_sent.ensures) c.known_bytes.ensures c.told-sent
    (sym c.in_ok-arrival.was ∙ c.go_out.ensures) c.known_bytes-2.ensures long c.agent_at.ensures.kept
    c.agent_at.ensures.held in
    is.right

pub come_home-requires-clause-count : goal.come_home-requires-clause-count
come_home-requires-clause-count c =
    let fabric : FabricState = fabric_over c.args.nodes.now c.args.cabling.now c.args.manager in
    let long : length c.agent_at.new.smp ≡ 256 = search in
    let is = ready fabric c.args.sent.now c.agent_at.new.smp c.agent_at.new.nodes c.in_ok-arrival.arrival c.requires
    (sym c.if-not-is_sent.ensures) c.known_bytes.ensures c.told-sent
    (sym c.in_ok-arrival.was ∙ c.go_out.ensures) c.known_bytes-2.ensures long c.agent_at.ensures.kept
    c.agent_at.ensures.held in
    rw c.turn_round.ensures is.few

pub come_home-requires-clause-pointer : goal.come_home-requires-clause-pointer
come_home-requires-clause-pointer c =
    let fabric : FabricState = fabric_over c.args.nodes.now c.args.cabling.now c.args.manager in
    let long : length c.agent_at.new.smp ≡ 256 = search in
    let is = ready fabric c.args.sent.now c.agent_at.new.smp c.agent_at.new.nodes c.in_ok-arrival.arrival c.requires
    (sym c.if-not-is_sent.ensures) c.known_bytes.ensures c.told-sent
    (sym c.in_ok-arrival.was ∙ c.go_out.ensures) c.known_bytes-2.ensures long c.agent_at.ensures.kept
    c.agent_at.ensures.held in
    rw c.turn_round.ensures is.pointer_is

pub returns-then-not-come_home-clause-answer : goal.returns-then-not-come_home-clause-answer
returns-then-not-come_home-clause-answer c =
    let fabric : FabricState = fabric_over c.args.nodes.now c.args.cabling.now c.args.manager in
    let long : length c.agent_at.new.smp ≡ 256 = search in
    let is = ready fabric c.args.sent.now c.agent_at.new.smp c.agent_at.new.nodes c.in_ok-arrival.arrival c.requires
    (sym c.if-not-is_sent.ensures) c.known_bytes.ensures c.told-sent
    (sym c.in_ok-arrival.was ∙ c.go_out.ensures) c.known_bytes-2.ensures long c.agent_at.ensures.kept
    c.agent_at.ensures.held in
    absurd (false≢true (c.if-not-come_home.ensures.home ∙ rw c.turn_round.ensures is.home))
