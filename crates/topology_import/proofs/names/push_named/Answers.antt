use Rattle.std.proofs.Common.{sym, subst}
use Rattle.topology_import.specs.Tried.{KnowsTried}
use Rattle.topology_import.proofs.NameLemmas.{tried_still}
use Rattle.topology_import.proofs.names.push_named.Goals as goal

pub returns-clause-tried : goal.returns-clause-tried
returns-clause-tried c =
    subst (KnowsTried c.own_name.new.tried) (sym c.in_ok-push.ensures) (tried_still c.own_name.new.tried c.args.nodes.now _ c.in_ok-name-2.ensures.tried)
