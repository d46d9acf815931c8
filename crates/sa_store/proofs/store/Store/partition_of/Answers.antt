use Rattle.std.proofs.Common.{◌≡◌, ◌∙◌, ap, subst, sym}
use Rattle.std.proofs.lemmas.List.Elements.{recursion_from_All}
use Rattle.subnet_model.specs.Configured.{HoldsKnownKeys}
use Rattle.sa_store.specs.Registry.{IsListed}
use Rattle.sa_store.specs.Kept.{ports_of}
use Rattle.sa_store.specs.Members.{place_with_base}
use Rattle.sa_store.specs.Registry.{RegistryState}
use Rattle.sa_store.proofs.MemberLemmas.{some_place, somewhere}
use Rattle.sa_store.proofs.store.Store.partition_of.Goals as goal

pub returns-clause-there : goal.returns-clause-there
returns-clause-there c own listed member =
    let kept = c.self.inside.kept.items in
    let headings = c.self.inside.headings.items in
    let partitions = c.self.inside.partitions.items in
    let own_listed : IsListed (ports_of kept) own = subst (λ (s : RegistryState). IsListed s.configuration.ports own) (sym c.self.view_is) listed in
    let here : c.place_with_base.result ≡ place_with_base partitions c.args.base =
    c.place_with_base.ensures ∙ ap (λ some. place_with_base some c.args.base) c.deref.ensures.value in
    some_place c.place_with_base.result (λ none. somewhere headings (ports_of kept) own partitions c.args.base
    (recursion_from_All (HoldsKnownKeys headings) (ports_of kept) c.self.invariant.configured.keys) c.self.invariant.remembered.partitions own_listed
    c.requires member (sym here ∙ none))
