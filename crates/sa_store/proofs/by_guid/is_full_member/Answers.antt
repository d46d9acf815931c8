use Rattle.std.proofs.Common.{◌≡◌, ◌∙◌, None, Some, ap, sym, true}
use Rattle.pkey_rules.specs.KeyTable.{holds}
use Rattle.pkey_rules.specs.PKey.{key_of}
use Rattle.subnet_model.specs.declared.subnet_port.SubnetPort.{SubnetPort}
use Rattle.sa_store.specs.Kept.{KeptPort, ports_of}
use Rattle.sa_store.specs.Registry.{place_with_guid}
use Rattle.sa_store.proofs.GuidLemmas.{never_passes, passes_at}
use Rattle.sa_store.proofs.PlaceLemmas.{is_at}
use Rattle.sa_store.proofs.by_guid.is_full_member.Goals as goal

pub returns-in-Some : goal.returns-in-Some
returns-in-Some c =
    let kept = c.args.kept.now in
    let one = c.index-kept-place.result in
    let test = λ (port : SubnetPort). holds (key_of c.args.base true) port.keys in
    let place : place_with_guid (ports_of kept) c.args.guid ≡ Some c.in-Some.place.now = sym (c.requires.finds c.args.guid) ∙ sym c.in-Some.ensures.value in
    let at = is_at c.args.guid kept c.in-Some.place.now one c.requires.own place in
    c.is_full.ensures ∙ ap test c.port.ensures
    ∙ ap (λ (some : KeptPort). test some.port) c.index-kept-place.is
    ∙ passes_at test c.args.guid kept c.in-Some.place.now one at

pub returns-in-None : goal.returns-in-None
returns-in-None c =
    let test = λ (port : SubnetPort). holds (key_of c.args.base true) port.keys in
    let none : place_with_guid (ports_of c.args.kept.now) c.args.guid ≡ None = sym (c.requires.finds c.args.guid) ∙ sym c.in-None.ensures.value in
    sym (never_passes test c.args.guid c.args.kept.now none)
