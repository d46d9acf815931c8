use Rattle.std.proofs.Common.{◌≡◌, ℕ, List, length, refl, subst, ◌∙◌, ap, arith}
use Rattle.updn_routes.specs.declared.link.Link.{Link}
use Rattle.updn_routes.specs.Order.{AreRanks}
use Rattle.updn_routes.specs.Tables.{AreTables, all_downs, all_ups, places_of}
use Rattle.updn_routes.specs.Ties.{numbers_of}
use Rattle.updn_routes.specs.Tree.{AreDepths}
use Rattle.updn_routes.proofs.AnswerLemmas.{downs_count, routes_right}
use Rattle.updn_routes.proofs.EntryLemmas.{all_down, all_up, places_count}
use Rattle.updn_routes.proofs.routing.all_routes.Goals as goal

pub all_tables-requires-clause-down : goal.all_tables-requires-clause-down
all_tables-requires-clause-down c =
    rw (c.deref-11.ensures.value, c.in_ok-downs.ensures) (all_down c.deref-7.result.now c.deref-8.result.now)

pub all_tables-requires-clause-up : goal.all_tables-requires-clause-up
all_tables-requires-clause-up c =
    rw (c.deref-12.ensures.value, c.in_ok-ups.ensures) (all_up c.deref-9.result.now c.deref-10.result.now)

pub all_tables-requires-clause-few : goal.all_tables-requires-clause-few
all_tables-requires-clause-few c =
    let long : length c.deref-11.result.now ≡ length c.deref-8.result.now = ap length (c.deref-11.ensures.value ∙ c.in_ok-downs.ensures) ∙ downs_count c.deref-7.result.now c.deref-8.result.now in
    let many : length c.deref-8.result.now ≡ length c.deref-6.result.now = ap length (c.deref-8.ensures.value ∙ c.in_ok-places.ensures) ∙ places_count c.deref-5.result.now c.deref-6.result.now in
    let own : length c.deref-6.result.now ≡ length c.args.guids.items = ap length c.deref-6.ensures.value in
    let count = c.requires.fabric.count in
    let few = c.requires.few in
    omega (arith, long, many, own, count, few)

pub invariant_of-result : goal.invariant_of-result
invariant_of-result c =
    let places : c.in_ok-places.places.items ≡ places_of c.in_ok-ranks.ranks.items c.args.guids.items =
    c.in_ok-places.ensures ∙ (ap (λ (r : List ℕ). places_of r c.deref-6.result.now) c.deref-5.ensures.value ∙ ap (places_of c.in_ok-ranks.ranks.items) c.deref-6.ensures.value) in
    let downs : c.deref-11.result.now ≡ all_downs c.args.rows.items c.in_ok-places.places.items =
    (c.deref-11.ensures.value ∙ c.in_ok-downs.ensures) ∙ (ap (λ (r : List (List Link)). all_downs r c.deref-8.result.now) c.deref-7.ensures.value ∙ ap (all_downs c.args.rows.items) c.deref-8.ensures.value) in
    let ups : c.deref-12.result.now ≡ all_ups c.args.rows.items c.in_ok-places.places.items =
    (c.deref-12.ensures.value ∙ c.in_ok-ups.ensures) ∙ (ap (λ (r : List (List Link)). all_ups r c.deref-10.result.now) c.deref-9.ensures.value ∙ ap (all_ups c.args.rows.items) c.deref-10.ensures.value) in
    let tables : AreTables (all_downs c.args.rows.items c.in_ok-places.places.items) (all_ups c.args.rows.items c.in_ok-places.places.items) (length (all_downs c.args.rows.items c.in_ok-places.places.items)) c.in_ok-tables.tables.items =
    subst (λ (u : List (List Link)). AreTables (all_downs c.args.rows.items c.in_ok-places.places.items) u (length (all_downs c.args.rows.items c.in_ok-places.places.items)) c.in_ok-tables.tables.items) ups
    (subst (λ (d : List (List Link)). AreTables d c.deref-12.result.now (length d) c.in_ok-tables.tables.items) downs c.in_ok-tables.ensures) in
    let numbers : c.in_ok-numbers.numbers.items ≡ numbers_of c.args.rule c.in_ok-places.places.items c.args.homes.items =
    c.in_ok-numbers.ensures ∙ (ap (λ (places : List ℕ). numbers_of c.args.rule places c.deref-14.result.now) c.deref-13.ensures.value
    ∙ ap (numbers_of c.args.rule c.in_ok-places.places.items) c.deref-14.ensures.value) in
    routes_right c.args.rows.items c.args.guids.items c.args.roots.now c.in_ok-ranks.ranks.items c.in_ok-depths.depths.items c.in_ok-places.places.items c.in_ok-tables.tables.items c.args.homes.items
    c.args.rule c.in_ok-numbers.numbers.items c.requires.fabric c.requires.few c.requires.hang c.requires.few_lids places numbers tables

pub returns-clause-made : goal.returns-clause-made
returns-clause-made c =
    record {
      rows_are = refl;
      guids_are = refl;
      homes_are = refl;
      ranks_are =
          subst (λ (r : List (List Link)). AreRanks r c.args.guids.items c.args.roots.now c.in_ok-ranks.ranks.items) c.deref.ensures.value
          (subst (λ (g : List ℕ). AreRanks c.deref.result.now g c.args.roots.now c.in_ok-ranks.ranks.items) c.deref-2.ensures.value c.in_ok-ranks.ensures);
      depths_are =
          subst (λ (r : List (List Link)). AreDepths r c.args.guids.items c.args.roots.now c.in_ok-depths.depths.items) c.deref-3.ensures.value
          (subst (λ (g : List ℕ). AreDepths c.deref-3.result.now g c.args.roots.now c.in_ok-depths.depths.items) c.deref-4.ensures.value c.in_ok-depths.ensures);
    }
