use Rattle.std.proofs.Common.{◌∙◌, subst, [], ◌∷◌}
use Rattle.table_push.proofs.TreeBitLemmas.{place_wanted}
use Rattle.updn_routes.specs.Routes.{AreRoutes}
use Rattle.table_push.proofs.places.blocks_at.Goals as goal

pub returns : goal.returns
returns c =
    (λ i. c.words_at.ensures i ∷ c.words_at-2.ensures i ∷ c.words_at-3.ensures i ∷ [])
    ∙ place_wanted c.args.routes.now c.args.tree.now c.args.place c.args.partition c.args.receivers.now c.ports_at-bits.result c.put_ways.new.bits c.args.switches.now
    c.requires.partition c.known_of_graph.ensures (subst AreRoutes c.between.ensures c.known_routes.ensures) c.requires.place c.requires.tree
    c.ports_at-bits.ensures.ports c.requires.switches c.put_ways.ensures.long c.put_ways.ensures.bits
