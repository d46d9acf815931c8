use Rattle.std.proofs.Common.{◌≡◌, List, ◌++◌, ◌∙◌, ap, drop, subst, sym, take, true, Some, None}
use Rattle.std.specs.List.{position}
use Rattle.std.proofs.lemmas.List.{append-nil}
use Rattle.std.proofs.lemmas.List.Quantifiers.{position-Some}
use Rattle.fabric_parts.specs.declared.cable.Cable.{Cable}
use Rattle.fabric_wire.specs.Cabling.{CablingState, IsOnce, has_place, is_between}
use Rattle.step_results.proofs.PlaceLemmas.{not_there}
use Rattle.fabric_wire.proofs.CutLemmas.{ends_are, is_cut, looks_up, cut_named, none_there, place_within}
use Rattle.fabric_wire.proofs.cabling.Cabling.cut.Goals as goal

pub set-requires : goal.set-requires
set-requires c =
    let all = c.self.inside.all.items in
    let count = c.self.inside.count in
    let cable = c.index-cable.result.now in
    let found : position (is_between c.args.a c.args.b) (take count all) ≡ Some c.in-Some.place =
    ap (λ (cables : List Cable). position (is_between c.args.a c.args.b) (take count cables)) (sym c.deref.ensures.value) ∙ (sym c.place_between.ensures ∙ c.in-Some.is) in
    let there = position-Some (is_between c.args.a c.args.b) (take count all) c.in-Some.place cable found in
    subst (λ (one : Cable). has_place c.self.inside.far_ends one.first ≡ true) (sym c.index-cable.ensures) (ends_are (has_place c.self.inside.far_ends) all c.in-Some.place cable (place_within all count c.in-Some.place there.0) c.self.invariant.places).0

pub set-requires-in-Some : goal.set-requires-in-Some
set-requires-in-Some c =
    let all = c.self.inside.all.items in
    let count = c.self.inside.count in
    let cable = c.index-cable.result.now in
    let found : position (is_between c.args.a c.args.b) (take count all) ≡ Some c.in-Some.place =
    ap (λ (cables : List Cable). position (is_between c.args.a c.args.b) (take count cables)) (sym c.deref.ensures.value) ∙ (sym c.place_between.ensures ∙ c.in-Some.is) in
    let there = position-Some (is_between c.args.a c.args.b) (take count all) c.in-Some.place cable found in
    c.set.ensures.places cable.second
    ∙ subst (λ (one : Cable). has_place c.self.inside.far_ends one.second ≡ true) (sym c.index-cable.ensures) (ends_are (has_place c.self.inside.far_ends) all c.in-Some.place cable (place_within all count c.in-Some.place there.0) c.self.invariant.places).1

pub invariant_of-self : goal.invariant_of-self
invariant_of-self c =
    let all = c.self.inside.all.items in
    let count = c.self.inside.count in
    let cable = c.index-cable.result.now in
    let found : position (is_between c.args.a c.args.b) (take count all) ≡ Some c.in-Some.place =
    ap (λ (cables : List Cable). position (is_between c.args.a c.args.b) (take count cables)) (sym c.deref.ensures.value) ∙ (sym c.place_between.ensures ∙ c.in-Some.is) in
    let there = position-Some (is_between c.args.a c.args.b) (take count all) c.in-Some.place cable found in
    let changed = is_cut c.args.a c.args.b all c.put_last.new.cables.items count c.in-Some.place cable c.self.invariant.few there.0 there.1
    (subst (λ (cabling : CablingState). IsOnce cabling) (sym c.self.view_is) c.requires) (c.put_last.ensures cable) in
    looks_up cable None None c.self.inside.far_ends c.set.new.self c.set-in-Some.new.self
    (cut_named c.index-cable.ensures changed) c.self.invariant c.set.ensures.far c.set.ensures.places c.set-in-Some.ensures.far c.set-in-Some.ensures.places

pub returns-in-Some : goal.returns-in-Some
returns-in-Some c =
    let all = c.self.inside.all.items in
    let count = c.self.inside.count in
    let cable = c.index-cable.result.now in
    let found : position (is_between c.args.a c.args.b) (take count all) ≡ Some c.in-Some.place =
    ap (λ (cables : List Cable). position (is_between c.args.a c.args.b) (take count cables)) (sym c.deref.ensures.value) ∙ (sym c.place_between.ensures ∙ c.in-Some.is) in
    let there = position-Some (is_between c.args.a c.args.b) (take count all) c.in-Some.place cable found in
    let changed = is_cut c.args.a c.args.b all c.put_last.new.cables.items count c.in-Some.place cable c.self.invariant.few there.0 there.1
    (subst (λ (cabling : CablingState). IsOnce cabling) (sym c.self.view_is) c.requires) (c.put_last.ensures cable) in
    rw (← c.self.view_is) (λ place. record { cables = changed.cables place; cut = changed.cut place })

pub returns-in_default : goal.returns-in_default
returns-in_default c =
    let count = c.self.inside.count in
    let all = c.self.inside.all.items in
    let none = none_there c.args.a c.args.b (take count all) (not_there (is_between c.args.a c.args.b) (take count all)
    (ap (λ (cables : List Cable). position (is_between c.args.a c.args.b) (take count cables)) (sym c.deref.ensures.value) ∙ (sym c.place_between.ensures ∙ c.in_default.is))) in
    rw (← c.self.view_is) (λ place. record { cables = sym none.1 place; cut = sym (ap (λ (cables : List Cable). drop count all ++ cables) none.0 ∙ append-nil (drop count all)) place })
