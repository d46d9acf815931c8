-- Lists of ports: what is set fits, and a port more at power-up.
use Rattle.std.proofs.Common.{◌≡◌, ℕ, zero, suc, ◌+◌, ◌<◌, List, [], ◌∷◌, ◌++◌, length, get_or, refl, ◌∙◌, ap, arith, slice_set, slice_get, option_map, Some}
use Rattle.std.proofs.lemmas.List.Elements.{All-set, All-append, All-from_get_or}
use Rattle.mad_layout.specs.Layout.{Fits}
use Rattle.agent_rules.specs.declared.link.PortLink.{PortLink}
use Rattle.agent_rules.specs.declared.link.PortLink.TheVariants.{Internal}
use Rattle.attr_tables.specs.PortInfo.{port_info}
use Rattle.switch_model.specs.declared.switch_port.SwitchPort.{SwitchPort}
use Rattle.switch_model.specs.SwitchState.{AllFit, port_at_power_up, ports_from}

pub set_fits : (ports : List SwitchPort) (number : ℕ) (port : SwitchPort) → Fits (port_info port.info) → AllFit ports
    → AllFit (slice_set ports number port)
set_fits ports number port fits all = All-set (λ p. Fits (port_info p.info)) ports number port fits all

pub ports_from_more : (number : ℕ) (links : List PortLink) (link : PortLink)
    → ports_from number (links ++ link ∷ []) ≡ ports_from number links ++ port_at_power_up (number + length links) link ∷ []
ports_from_more number [] link =
    let e : number ≡ number + 0 = omega arith in
    ap (λ (n : ℕ). port_at_power_up n link ∷ []) e
ports_from_more number (first ∷ links) link =
    let e : (number + 1) + length links ≡ number + length (first ∷ links) = omega arith in
    ap (λ (ports : List SwitchPort). port_at_power_up number first ∷ ports)
    (ports_from_more (number + 1) links link ∙ ap (λ (n : ℕ). ports_from (number + 1) links ++ port_at_power_up n link ∷ []) e)

pub length-ports_from : (number : ℕ) (links : List PortLink) → length (ports_from number links) ≡ length links
length-ports_from number [] = refl
length-ports_from number (link ∷ links) = let e = length-ports_from (number + 1) links in omega arith

at_place : (port : SwitchPort) → Fits (port_info port.info) → (i : ℕ) → i < 1 → Fits (port_info (get_or (port ∷ []) i port).info)
at_place port fits zero h = fits
at_place port fits (suc i) h = absurd (omega arith)

one_fits : (port : SwitchPort) → Fits (port_info port.info) → AllFit (port ∷ [])
one_fits port fits = All-from_get_or (λ p. Fits (port_info p.info)) (port ∷ []) port (at_place port fits)

pub grown_fits : (ports : List SwitchPort) (port : SwitchPort) → AllFit ports → Fits (port_info port.info) → AllFit (ports ++ port ∷ [])
grown_fits ports port all fits =
    All-append (λ p. Fits (port_info p.info)) ports (port ∷ []) all (one_fits port fits)

ports_at : (number : ℕ) (links : List PortLink) (k : ℕ)
    → slice_get (ports_from number links) k ≡ option_map (port_at_power_up (number + k)) (slice_get links k)
ports_at number [] k = refl
ports_at number (link ∷ links) zero = let e : number ≡ number + 0 = omega arith in ap (λ (n : ℕ). Some (port_at_power_up n link)) e
ports_at number (link ∷ links) (suc k) =
    let e : (number + 1) + k ≡ number + suc k = omega arith in
    ports_at (number + 1) links k ∙ ap (λ (n : ℕ). option_map (port_at_power_up n) (slice_get links k)) e

pub ports_have_links : (links : List PortLink) (number : ℕ)
    → slice_get (ports_from 0 (Internal ∷ links)) number ≡ option_map (port_at_power_up number) (slice_get (Internal ∷ links) number)
ports_have_links links number =
    let e : 0 + number ≡ number = omega arith in
    ports_at 0 (Internal ∷ links) number ∙ ap (λ (n : ℕ). option_map (port_at_power_up n) (slice_get (Internal ∷ links) number)) e
