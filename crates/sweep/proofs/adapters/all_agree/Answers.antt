use Rattle.std.proofs.Common.{rules, sym, ap, ◌∙◌, ◌==◌, ◌&&◌, Bool, [], List, get_or, take}
use Rattle.std.proofs.lemmas.List.{drop_all, take_more}
use Rattle.std.proofs.lemmas.Bool.{and_right}
use Rattle.indexmap.specs.IndexMap.{get}
use Rattle.sweep.specs.Adapters.{is_count}
use Rattle.sweep.specs.declared.graph.GraphPort.{GraphPort}
use Rattle.sweep.proofs.AdapterLemmas.{agree_on, agree_whole, ends, goes_on, has, has_more, kept_agrees, no_port, report, report_more}
use Rattle.sweep.proofs.adapters.all_agree.Goals as goal

pub loop-port-init : goal.loop-port-init
loop-port-init c = record {
  agree = agree_whole [] c.args.ports.now;
  reported = λ guid count. search rules;
  kept = λ key. search rules;
}

pub returns-then-not-is_new : goal.returns-then-not-is_new
returns-then-not-is_new c =
    let ports = c.args.ports.now in
    let i = c.loop-port.port-index in
    let port = get_or ports i no_port in
    ends ports i no_port c.loop-port-test.true c.loop-port.invariant.agree
    (kept_agrees (take i ports) port _ _ _ (c.loop-port.invariant.reported port.node_guid port.num_ports)
    (c.loop-port.invariant.kept (record { guid = port.node_guid; number = port.number })) c.in_ok-is_new.ensures.added
    ∙ and_right _ _ c.if-not-is_new.true)

pub returns-then-not-is_count : goal.returns-then-not-is_count
returns-then-not-is_count c =
    let ports = c.args.ports.now in
    let i = c.loop-port.port-index in
    let port = get_or ports i no_port in
    ends ports i no_port c.loop-port-test.true c.loop-port.invariant.agree
    (kept_agrees (take i ports) port _ _ _ (c.loop-port.invariant.reported port.node_guid port.num_ports)
    (c.loop-port.invariant.kept (record { guid = port.node_guid; number = port.number })) c.in_ok-is_new.ensures.added
    ∙ ap (λ (b : Bool). b && c.in_ok-is_new.is_new) (sym (ap (is_count port.num_ports) c.in_ok-reported.ensures.old) ∙ sym c.is_count.ensures ∙ c.if-not-is_count.true))

pub loop-port-preserved : goal.loop-port-preserved
loop-port-preserved c =
    let ports = c.args.ports.now in
    let i = c.loop-port.port-index in
    let port = get_or ports i no_port in
    let more = take_more ports i no_port c.loop-port-test.true in
    let same = sym (ap (is_count port.num_ports) c.in_ok-reported.ensures.old) ∙ sym c.is_count.ensures ∙ c.if-not-is_count.false in
    record {
      agree = goes_on ports i no_port c.loop-port-test.true c.loop-port.invariant.agree
          (kept_agrees (take i ports) port _ _ _ (c.loop-port.invariant.reported port.node_guid port.num_ports)
          (c.loop-port.invariant.kept (record { guid = port.node_guid; number = port.number })) c.in_ok-is_new.ensures.added
          ∙ ap (λ (b : Bool). b && c.in_ok-is_new.is_new) same ∙ c.if-not-is_new.false);
      reported = λ guid count. ap (λ (some : List GraphPort). report some guid count) more
          ∙ report_more (take i ports) port (λ g. get (λ a b. a == b) c.loop-port.counts g) (λ g. get (λ a b. a == b) c.insert.new.self g)
          c.loop-port.invariant.reported c.in_ok-reported.ensures.updates.0 same guid count;
      kept = λ key. has_more (take i ports) port key _ _ (c.loop-port.invariant.kept key) (c.in_ok-is_new.ensures.updates.0 key)
          ∙ ap (λ (some : List GraphPort). has some key) (sym more);
    }

pub returns : goal.returns
returns c =
    sym (c.loop-port.invariant.agree
    ∙ ap (agree_on (take c.loop-port.port-index c.args.ports.now)) (drop_all c.loop-port.port-index c.args.ports.now c.loop-port-test.false))
