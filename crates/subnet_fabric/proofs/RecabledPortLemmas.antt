-- Ports to which something was pushed, some of which are linked since: what is left alone of them is what a port at power-up has.
use Rattle.std.proofs.Common.{ℕ, zero, suc, ◌≡◌, ◌≢◌, ◌+◌, ◌==◌, ◌&&◌, ◌||◌, not, ◌∙◌, ap, refl, sym, Bool, true, false, if◌then◌else◌, List, [], ◌∷◌, slice_get, slice_set, unwrap_or, Option, Some, None, option_map, arith}
use Rattle.std.specs.List.{range_with_len}
use Rattle.std.specs.Option.{option_map_or}
use Rattle.std.proofs.Math.Nat.{zero-add}
use Rattle.std.proofs.lemmas.Bool.{eq-eqb, eqb-true, false≢true, ne_eqb}
use Rattle.std.proofs.lemmas.Option.{none-some, same_Some, slice_get-map}
use Rattle.agent_rules.specs.declared.link.PortLink.{PortLink}
use Rattle.agent_rules.specs.declared.link.PortLink.TheVariants.{Internal}
use Rattle.attr_tables.specs.declared.port_info.PortInfo.{PortInfo}
use Rattle.fabric_parts.specs.Cable.{is_same_port, port}
use Rattle.fabric_parts.specs.declared.cable.Cable.{Cable}
use Rattle.fabric_parts.specs.declared.cable.PortRef.{PortRef}
use Rattle.fabric_wire.specs.OfTopology.{link_of, links_of}
use Rattle.port_model.specs.AdapterState.{AdapterState}
use Rattle.step_results.proofs.ElementLemmas.{get_other, get_written}
use Rattle.subnet_fabric.proofs.RecabledWantedLemmas.{between}
use Rattle.switch_model.proofs.PortLemmas.{ports_have_links}
use Rattle.switch_model.specs.Links.{link_of as link_when, port_linked, ports_linked}
use Rattle.switch_model.specs.SwitchState.{port_at_power_up, ports_from}
use Rattle.switch_model.specs.declared.switch_port.SwitchPort.{SwitchPort}
use Rattle.table_push.proofs.BroughtUpNodeLemmas.{twice_at}
use Rattle.table_push.specs.Forget.{info_left, table_left}
use Rattle.table_push.specs.Nodes.{numbered}
use Rattle.table_push.specs.Ports.{changed, stays}
use Rattle.table_push.specs.declared.ports.PortChange.{PortChange}

-- ---- what was pushed is not left alone
info_over : (change : PortChange) (info : PortInfo) → info_left change (changed change info) ≡ info_left change info
info_over change info = by change.lid change.enforcement change.active
  where
    of : Option ℕ → Option Bool → Bool → PortChange
    of lid enforcement active = record { lid = lid; enforcement = enforcement; active = active }

    by : (lid : Option ℕ) (enforcement : Option Bool) (active : Bool)
        → info_left (of lid enforcement active) (changed (of lid enforcement active) info) ≡ info_left (of lid enforcement active) info
    by None None true = refl
    by None None false = refl
    by None (Some on) true = refl
    by None (Some on) false = refl
    by (Some lid) None true = refl
    by (Some lid) None false = refl
    by (Some lid) (Some on) true = refl
    by (Some lid) (Some on) false = refl

pub info_same : (one other : PortChange) (info : PortInfo) → other ≡ one → info_left other (changed one info) ≡ info_left other info
info_same one other info same = ap (λ (change : PortChange). info_left other (changed change info)) (sym same) ∙ info_over other info

table_over : (wanted : Option (List ℕ)) (held : List ℕ) → table_left wanted (unwrap_or wanted held) ≡ table_left wanted held
table_over None held = refl
table_over (Some table) held = refl

pub table_same : (one other : Option (List ℕ)) (held : List ℕ) → other ≡ one → table_left other (unwrap_or one held) ≡ table_left other held
table_same one other held same = ap (λ (wanted : Option (List ℕ)). table_left other (unwrap_or wanted held)) (sym same) ∙ table_over other held

-- ---- a port of a switch
abbrev pub left_port : PortChange → Option (List ℕ) → SwitchPort → SwitchPort
left_port change keys port = record port { info = info_left change port.info; keys = table_left keys port.keys }

abbrev pub pushed_port : PortChange → Option (List ℕ) → SwitchPort → SwitchPort
pushed_port change keys port = record port { info = changed change port.info; keys = unwrap_or keys port.keys }

-- it is linked where it is that one
abbrev pub linked_if : Bool → Bool → SwitchPort → SwitchPort
linked_if here up port = if here then port_linked up port else port

-- where it is neither, all that was pushed is pushed again
pub port_same : (one other : PortChange) (keys more : Option (List ℕ)) (up first second : Bool) (held : SwitchPort) → other ≡ one → more ≡ keys
    → first ≡ false → second ≡ false
    → left_port other more (linked_if first up (linked_if second up (pushed_port one keys held))) ≡ left_port other more held
port_same one other keys more up first second held same same_keys not_first not_second =
    let info = info_same one other held.info same in
    let table = table_same keys more held.keys same_keys in
    (λ i. left_port other more (linked_if (not_first i) up (linked_if (not_second i) up (pushed_port one keys held))))
    ∙ (λ i. record held { info = info i; keys = table i })

-- else it has what a port of its link has at power-up
turned : (up first second : Bool) (number : ℕ) → (first || second) ≡ true
    → linked_if first up (linked_if second up (pushed_port (if up then stays else between) None (port_at_power_up number (link_when (not up)))))
    ≡ port_at_power_up number (link_when up)
turned true true true number some = refl
turned true true false number some = refl
turned true false true number some = refl
turned true false false number some = absurd (false≢true some)
turned false true true number some = refl
turned false true false number some = refl
turned false false true number some = refl
turned false false false number some = absurd (false≢true some)

pub port_turned : (one other : PortChange) (keys more : Option (List ℕ)) (up first second : Bool) (number : ℕ) (was is : PortLink)
    → one ≡ (if up then stays else between) → keys ≡ None → (first || second) ≡ true → was ≡ link_when (not up) → is ≡ link_when up
    → left_port other more (linked_if first up (linked_if second up (pushed_port one keys (port_at_power_up number was))))
    ≡ left_port other more (port_at_power_up number is)
port_turned one other keys more up first second number was is before none some link_was link_is =
    (λ i. left_port other more (linked_if first up (linked_if second up (pushed_port (before i) (none i) (port_at_power_up number (link_was i))))))
    ∙ ap (left_port other more) (turned up first second number some)
    ∙ ap (λ (link : PortLink). left_port other more (port_at_power_up number link)) (sym link_is)

-- ---- the ports of a switch
-- two lists that have the same at each place
pub by_places : {X : Type 0} (xs ys : List X) → ((k : ℕ) → slice_get xs k ≡ slice_get ys k) → xs ≡ ys
by_places [] [] each = refl
by_places [] (y ∷ ys) each = absurd (none-some y (each 0))
by_places (x ∷ xs) [] each = absurd (none-some x (sym (each 0)))
by_places (x ∷ xs) (y ∷ ys) each =
    let head = same_Some x y (each 0) in
    let tail = by_places xs ys (λ k. each (suc k)) in
    λ i. head i ∷ tail i

-- those of the switch at that place
abbrev pub ports_at : Bool → PortRef → ℕ → List SwitchPort → List SwitchPort
ports_at up at place ports = if at.node == place then ports_linked at.port up ports else ports

port_at : (up : Bool) (at : PortRef) (place : ℕ) (ports : List SwitchPort) (number : ℕ)
    → slice_get (ports_at up at place ports) number ≡ option_map (linked_if (is_same_port at (port place number)) up) (slice_get ports number)
port_at up at place ports number = by_node (at.node == place)
  where
    itself : (o : Option SwitchPort) → o ≡ option_map (λ port. port) o
    itself None = refl
    itself (Some port) = refl

    by : (found : Option SwitchPort) → slice_get ports at.port ≡ found → (here : Bool) → (at.port == number) ≡ here
        → slice_get (option_map_or (λ port. slice_set ports at.port (port_linked up port)) found ports) number
        ≡ option_map (linked_if here up) (slice_get ports number)
    by None is true here =
        let none : slice_get ports number ≡ None = ap (slice_get ports) (sym (eqb-true at.port number here)) ∙ is in rw none refl
    by None is false here = itself (slice_get ports number)
    by (Some port) is true here =
        let same = eqb-true at.port number here in
        let there : slice_get ports number ≡ Some port = ap (slice_get ports) (sym same) ∙ is in
        ap (slice_get (slice_set ports at.port (port_linked up port))) (sym same)
        ∙ get_written ports at.port (port_linked up port) port is
        ∙ ap (option_map (port_linked up)) (sym there)
    by (Some port) is false here =
        let apart : number ≢ at.port = λ same. false≢true (sym here ∙ eq-eqb at.port number (sym same)) in
        get_other ports at.port number (port_linked up port) apart ∙ itself (slice_get ports number)

    by_node : (b : Bool) → slice_get (if b then ports_linked at.port up ports else ports) number
        ≡ option_map (linked_if (b && (at.port == number)) up) (slice_get ports number)
    by_node true = by (slice_get ports at.port) refl (at.port == number) refl
    by_node false = itself (slice_get ports number)

-- the link of a port of that number
abbrev pub link_at : List Cable → ℕ → ℕ → PortLink
link_at cables place number = if number == 0 then Internal else link_of cables place number

pub ranged : (first count k there : ℕ) → slice_get (range_with_len first count) k ≡ Some there → there ≡ first + k
ranged first zero k there found = absurd (none-some there found)
ranged first (suc count) zero there found = let same = same_Some first there found in omega (arith, same)
ranged first (suc count) (suc k) there found = let later = ranged (first + 1) count k there found in omega (arith, later)

numbers : ℕ → List ℕ
numbers count = 0 ∷ range_with_len 1 count

number_is : (count number there : ℕ) → slice_get (numbers count) number ≡ Some there → there ≡ number
unfolding numbers
number_is count zero there found = sym (same_Some 0 there found)
number_is count (suc k) there found = let same = ranged 1 count k there found in omega (arith, same)

links_stand : (cables : List Cable) (place count number : ℕ)
    → slice_get (Internal ∷ links_of cables place count) number ≡ option_map (link_at cables place) (slice_get (numbers count) number)
unfolding numbers
links_stand cables place count zero = refl
links_stand cables place count (suc k) =
    slice_get-map (link_of cables place) (range_with_len 1 count) k
    ∙ by (slice_get (range_with_len 1 count) k) (λ there found. let same = ranged 1 count k there found in omega (arith, same))
  where
    by : (o : Option ℕ) → ((there : ℕ) → o ≡ Some there → there ≡ suc k) → option_map (link_of cables place) o ≡ option_map (link_at cables place) o
    by None is = refl
    by (Some there) is =
        let some : (there == 0) ≡ false = ne_eqb there 0 (λ none. let same = is there refl in omega (arith, none, same)) in
        ap (λ (b : Bool). Some (if b then Internal else link_of cables place there)) (sym some)

module _ (a b : PortRef) (up : Bool) (place count : ℕ) (old new : List Cable) (one other : ℕ → PortChange) (keys more : ℕ → Option (List ℕ))
    (each : (number : ℕ)
    → left_port (other number) (more number) (linked_if (is_same_port a (port place number)) up
    (linked_if (is_same_port b (port place number)) up (pushed_port (one number) (keys number) (port_at_power_up number (link_at old place number)))))
    ≡ left_port (other number) (more number) (port_at_power_up number (link_at new place number))) where
  abbrev pub left_info : ℕ → SwitchPort → SwitchPort
  left_info number port = record port { info = info_left (other number) port.info }

  abbrev pub left_keys : ℕ → SwitchPort → SwitchPort
  left_keys number port = record port { keys = table_left (more number) port.keys }

  abbrev pub reported_info : ℕ → SwitchPort → SwitchPort
  reported_info number port = record port { info = changed (one number) port.info }

  abbrev pub reported_keys : ℕ → SwitchPort → SwitchPort
  reported_keys number port = record port { keys = unwrap_or (keys number) port.keys }

  abbrev power_up : List Cable → List SwitchPort
  power_up cables = ports_from 0 (Internal ∷ links_of cables place count)

  abbrev reported : List SwitchPort
  reported = numbered reported_keys 0 (numbered reported_info 0 (power_up old))

  new_at : (cables : List Cable) (number : ℕ) → slice_get (power_up cables) number
      ≡ option_map (port_at_power_up number) (option_map (link_at cables place) (slice_get (numbers count) number))
  new_at cables number =
      ports_have_links (links_of cables place count) number ∙ ap (option_map (port_at_power_up number)) (links_stand cables place count number)

  left_at : (ports : List SwitchPort) (number : ℕ)
      → slice_get (numbered left_keys 0 (numbered left_info 0 ports)) number ≡ option_map (left_port (other number) (more number)) (slice_get ports number)
  left_at ports number =
      twice_at left_keys left_info 0 ports number
      ∙ ap (λ (n : ℕ). option_map (λ port. left_keys n (left_info n port)) (slice_get ports number)) (zero-add number)

  reported_at : (number : ℕ) → slice_get reported number ≡ option_map (pushed_port (one number) (keys number)) (slice_get (power_up old) number)
  reported_at number =
      twice_at reported_keys reported_info 0 (power_up old) number
      ∙ ap (λ (n : ℕ). option_map (λ port. reported_keys n (reported_info n port)) (slice_get (power_up old) number)) (zero-add number)

  pub ports_same : numbered left_keys 0 (numbered left_info 0 (ports_at up a place (ports_at up b place reported)))
      ≡ numbered left_keys 0 (numbered left_info 0 (power_up new))
  ports_same =
      by_places _ _ (λ number.
      left_at (ports_at up a place (ports_at up b place reported)) number
      ∙ ap (option_map (left_port (other number) (more number)))
      (port_at up a place (ports_at up b place reported) number
      ∙ ap (option_map (linked_if (is_same_port a (port place number)) up))
      (port_at up b place reported number
      ∙ ap (option_map (linked_if (is_same_port b (port place number)) up))
      (reported_at number ∙ ap (option_map (pushed_port (one number) (keys number))) (new_at old number))))
      ∙ by number (slice_get (numbers count) number) (number_is count number)
      ∙ sym (left_at (power_up new) number ∙ ap (option_map (left_port (other number) (more number))) (new_at new number)))
    where
      by : (number : ℕ) (o : Option ℕ) → ((there : ℕ) → o ≡ Some there → there ≡ number)
          → option_map (left_port (other number) (more number)) (option_map (linked_if (is_same_port a (port place number)) up)
          (option_map (linked_if (is_same_port b (port place number)) up) (option_map (pushed_port (one number) (keys number))
          (option_map (port_at_power_up number) (option_map (link_at old place) o)))))
          ≡ option_map (left_port (other number) (more number)) (option_map (port_at_power_up number) (option_map (link_at new place) o))
      by number None is = refl
      by number (Some there) is =
          let same = is there refl in
          ap (λ (n : ℕ). Some (left_port (other number) (more number) (linked_if (is_same_port a (port place number)) up
          (linked_if (is_same_port b (port place number)) up (pushed_port (one number) (keys number) (port_at_power_up number (link_at old place n))))))) same
          ∙ ap (λ (port : SwitchPort). Some port) (each number)
          ∙ ap (λ (n : ℕ). Some (left_port (other number) (more number) (port_at_power_up number (link_at new place n)))) (sym same)

-- ---- the ports of an adapter
pub adapters_same : (one other : ℕ → PortChange) (keys more : ℕ → Option (List ℕ)) (first : ℕ) (ports : List AdapterState)
    → ((number : ℕ) → other number ≡ one number) → ((number : ℕ) → more number ≡ keys number)
    → numbered (λ number port. record port { keys = table_left (more number) port.keys }) first
    (numbered (λ number port. record port { info = info_left (other number) port.info }) first
    (numbered (λ number port. record port { keys = unwrap_or (keys number) port.keys }) first
    (numbered (λ number port. record port { info = changed (one number) port.info }) first ports)))
    ≡ numbered (λ number port. record port { keys = table_left (more number) port.keys }) first
    (numbered (λ number port. record port { info = info_left (other number) port.info }) first ports)
adapters_same one other keys more first [] same same_keys = refl
adapters_same one other keys more first (port ∷ ports) same same_keys =
    let info = info_same (one first) (other first) port.info (same first) in
    let table = table_same (keys first) (more first) port.keys (same_keys first) in
    let tail = adapters_same one other keys more (first + 1) ports same same_keys in
    λ i. record port { info = info i; keys = table i } ∷ tail i
