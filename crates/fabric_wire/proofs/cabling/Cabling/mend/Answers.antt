use Rattle.std.proofs.Common.{◌≡◌, List, ◌++◌, ◌+◌, ◌∙◌, ap, drop, subst, sym, take, true, Some}
use Rattle.std.specs.List.{position}
use Rattle.std.proofs.lemmas.List.{append-nil}
use Rattle.std.proofs.lemmas.List.Quantifiers.{position-Some}
use Rattle.fabric_parts.specs.declared.cable.Cable.{Cable}
use Rattle.fabric_wire.specs.Cabling.{CablingState, IsOnce, has_place, is_between}
use Rattle.step_results.proofs.PlaceLemmas.{not_there}
use Rattle.fabric_wire.proofs.CutLemmas.{ends_are, from_place, is_mended, looks_up, mended_named, none_there, place_behind}
use Rattle.fabric_wire.proofs.cabling.Cabling.mend.Goals as goal

pub set-requires : goal.set-requires
set-requires c =
    let all = c.self.inside.all.items in
    let count = c.self.inside.count in
    let cable = c.index-cable.result.now in
    let found : position (is_between c.args.a c.args.b) (drop count all) ≡ Some c.in-Some.place =
    ap (λ (cables : List Cable). position (is_between c.args.a c.args.b) (drop count cables)) (sym c.deref.ensures.value) ∙ (sym (ap (position (is_between c.args.a c.args.b)) (from_place c.deref.result.now c.self.inside.count)) ∙ (sym c.place_between.ensures ∙ c.in-Some.is)) in
    let there = position-Some (is_between c.args.a c.args.b) (drop count all) c.in-Some.place cable found in
    subst (λ (one : Cable). has_place c.self.inside.far_ends one.first ≡ true) (sym c.index-cable.ensures) (ends_are (has_place c.self.inside.far_ends) all (count + c.in-Some.place) cable (place_behind all count c.in-Some.place there.0) c.self.invariant.places).0

pub set-requires-in-Some : goal.set-requires-in-Some
set-requires-in-Some c =
    let all = c.self.inside.all.items in
    let count = c.self.inside.count in
    let cable = c.index-cable.result.now in
    let found : position (is_between c.args.a c.args.b) (drop count all) ≡ Some c.in-Some.place =
    ap (λ (cables : List Cable). position (is_between c.args.a c.args.b) (drop count cables)) (sym c.deref.ensures.value) ∙ (sym (ap (position (is_between c.args.a c.args.b)) (from_place c.deref.result.now c.self.inside.count)) ∙ (sym c.place_between.ensures ∙ c.in-Some.is)) in
    let there = position-Some (is_between c.args.a c.args.b) (drop count all) c.in-Some.place cable found in
    c.set.ensures.places cable.second
    ∙ subst (λ (one : Cable). has_place c.self.inside.far_ends one.second ≡ true) (sym c.index-cable.ensures) (ends_are (has_place c.self.inside.far_ends) all (count + c.in-Some.place) cable (place_behind all count c.in-Some.place there.0) c.self.invariant.places).1

pub invariant_of-self : goal.invariant_of-self
invariant_of-self c =
    let all = c.self.inside.all.items in
    let count = c.self.inside.count in
    let cable = c.index-cable.result.now in
    let found : position (is_between c.args.a c.args.b) (drop count all) ≡ Some c.in-Some.place =
    ap (λ (cables : List Cable). position (is_between c.args.a c.args.b) (drop count cables)) (sym c.deref.ensures.value) ∙ (sym (ap (position (is_between c.args.a c.args.b)) (from_place c.deref.result.now c.self.inside.count)) ∙ (sym c.place_between.ensures ∙ c.in-Some.is)) in
    let there = position-Some (is_between c.args.a c.args.b) (drop count all) c.in-Some.place cable found in
    let changed = is_mended c.args.a c.args.b all c.put_before.new.cables.items count c.in-Some.place cable c.self.invariant.few there.0 there.1
    (subst (λ (cabling : CablingState). IsOnce cabling) (sym c.self.view_is) c.requires) (c.put_before.ensures cable) in
    looks_up cable (Some cable.second) (Some cable.first) c.self.inside.far_ends c.set.new.self c.set-in-Some.new.self
    (mended_named c.index-cable.ensures changed) c.self.invariant c.set.ensures.far c.set.ensures.places c.set-in-Some.ensures.far c.set-in-Some.ensures.places

pub returns-in-Some : goal.returns-in-Some
returns-in-Some c =
    let all = c.self.inside.all.items in
    let count = c.self.inside.count in
    let cable = c.index-cable.result.now in
    let found : position (is_between c.args.a c.args.b) (drop count all) ≡ Some c.in-Some.place =
    ap (λ (cables : List Cable). position (is_between c.args.a c.args.b) (drop count cables)) (sym c.deref.ensures.value) ∙ (sym (ap (position (is_between c.args.a c.args.b)) (from_place c.deref.result.now c.self.inside.count)) ∙ (sym c.place_between.ensures ∙ c.in-Some.is)) in
    let there = position-Some (is_between c.args.a c.args.b) (drop count all) c.in-Some.place cable found in
    let changed = is_mended c.args.a c.args.b all c.put_before.new.cables.items count c.in-Some.place cable c.self.invariant.few there.0 there.1
    (subst (λ (cabling : CablingState). IsOnce cabling) (sym c.self.view_is) c.requires) (c.put_before.ensures cable) in
    rw (← c.self.view_is) (λ place. record { cables = changed.cables place; cut = changed.cut place })

pub returns-in_default : goal.returns-in_default
returns-in_default c =
    let count = c.self.inside.count in
    let all = c.self.inside.all.items in
    let none = none_there c.args.a c.args.b (drop count all) (not_there (is_between c.args.a c.args.b) (drop count all)
    (ap (λ (cables : List Cable). position (is_between c.args.a c.args.b) (drop count cables)) (sym c.deref.ensures.value) ∙ (sym (ap (position (is_between c.args.a c.args.b)) (from_place c.deref.result.now c.self.inside.count)) ∙ (sym c.place_between.ensures ∙ c.in_default.is)))) in
    rw (← c.self.view_is) (λ place. record { cables = sym (ap (λ (cables : List Cable). take count all ++ cables) none.0 ∙ append-nil (take count all)) place; cut = sym none.1 place })
