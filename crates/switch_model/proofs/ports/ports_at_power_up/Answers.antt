use Rattle.std.proofs.Common.{◌≡◌, ℕ, ◌+◌, ◌<◌, List, [], ◌∷◌, ◌++◌, length, take, get_or, arith, ap, sym, ◌∙◌, subst, refl, length-append}
use Rattle.std.proofs.lemmas.List.{take_more}
use Rattle.mad_layout.specs.Layout.{Fits}
use Rattle.attr_tables.specs.PortInfo.{port_info}
use Rattle.agent_rules.specs.declared.link.PortLink.{PortLink}
use Rattle.agent_rules.specs.declared.link.PortLink.TheVariants.{Cabled, Internal}
use Rattle.switch_model.specs.declared.switch_port.SwitchPort.{SwitchPort}
use Rattle.switch_model.specs.SwitchState.{AllFit, port_at_power_up, ports_from}
use Rattle.switch_model.proofs.PortLemmas.{grown_fits, length-ports_from, ports_from_more}
use Rattle.switch_model.proofs.ports.ports_at_power_up.Goals as goal

-- the list with the port for one more link
step : (links : List PortLink) (i : ℕ) (d link : PortLink) (number : ℕ) (ports next : List SwitchPort) (port : SwitchPort)
    → i < length links → link ≡ get_or links i d → ports ≡ ports_from 0 (Internal ∷ take i links)
    → number ≡ length ports → port ≡ port_at_power_up number link → next ≡ ports ++ port ∷ []
    → next ≡ ports_from 0 (Internal ∷ take (i + 1) links)
step links i d link number ports next port h is so_far count made pushed =
    let all : number ≡ length (Internal ∷ take i links) = count ∙ ap length so_far ∙ length-ports_from 0 (Internal ∷ take i links) in
    let place : number ≡ 0 + length (Internal ∷ take i links) = omega arith in
    let longer : ports_from 0 (Internal ∷ take (i + 1) links) ≡ ports_from 0 ((Internal ∷ take i links) ++ link ∷ []) =
    ap (λ (ls : List PortLink). ports_from 0 (Internal ∷ ls)) (take_more links i d h ∙ ap (λ (one : PortLink). take i links ++ one ∷ []) (sym is)) in
    pushed
    ∙ ap (λ (ps : List SwitchPort). ps ++ port ∷ []) so_far
    ∙ ap (λ (one : SwitchPort). ports_from 0 (Internal ∷ take i links) ++ one ∷ []) (made ∙ ap (λ (n : ℕ). port_at_power_up n link) place)
    ∙ sym (ports_from_more 0 (Internal ∷ take i links) link)
    ∙ sym longer

pub loop-link-preserved : goal.loop-link-preserved
loop-link-preserved c =
    let links = c.args.links.now in
    let i = c.loop-link.link-index in
    let old = c.loop-link.ports.items in
    let port = c.at_power_up-in-loop-link.result in
    let made : port ≡ port_at_power_up c.len-number.result (get_or links i Cabled) = c.at_power_up-in-loop-link.ensures.value in
    let fit : Fits (port_info port.info) = c.at_power_up-in-loop-link.ensures.fits in
    let pushed : c.push-in-loop-link.new.self.items ≡ old ++ port ∷ [] = c.push-in-loop-link.ensures.items in
    let P : List SwitchPort → Type 0 = AllFit in
    record {
      ports = step links i Cabled (get_or links i Cabled) c.len-number.result old c.push-in-loop-link.new.self.items
          port (omega arith) refl c.loop-link.invariant.ports (omega arith) made pushed;
      count = let more = length-append old (port ∷ []) in ap length pushed ∙ omega (arith, c.loop-link.invariant.count);
      fits = subst P (sym pushed) (grown_fits old port c.loop-link.invariant.fits fit);
    }
