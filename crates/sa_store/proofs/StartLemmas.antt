-- A registry before the first command.
use Rattle.std.proofs.Common.{◌≡◌, ℕ, ◌++◌, List, [], ◌∷◌, map, None, refl, ◌∙◌, ap, sym, ◌<◌, Bool, true, length, get_or, inl, inr}
use Rattle.partition_file.specs.declared.heading.Heading.{Heading}
use Rattle.pkey_rules.specs.PKey.{base_of, is_base}
use Rattle.subnet_model.specs.declared.subnet_port.SubnetPort.{SubnetPort}
use Rattle.sa_model.specs.KeyOrder.{by_base}
use Rattle.sa_model.specs.Services.{PortServices, no_services, none_of_port}
use Rattle.sa_replies.specs.Transfers.{PortTransfer, no_transfers}
use Rattle.sa_store.specs.Kept.{KeptPort, at_the_start, no_place, ports_of, services_of, transfers_of}
use Rattle.sa_store.specs.Registry.{configuration_in}
use Rattle.std.specs.List.{list_all}
use Rattle.std.proofs.lemmas.Bool.{cases_Bool, false≢true}
use Rattle.std.proofs.lemmas.List.Folds.{list_all-map, list_all_at}
use Rattle.partition_file.specs.Members.{AreSoundHeadings}

pub same_ports : (ports : List SubnetPort) → ports_of (map at_the_start ports) ≡ ports
same_ports [] = refl
same_ports (port ∷ ports) = ap (λ (rest : List SubnetPort). port ∷ rest) (same_ports ports)

no_places : (port : SubnetPort) (keys : List ℕ)
    → map {B = PortServices} (λ place. record { port = port.guid; base = place.base; services = place.services }) (map no_place keys)
    ≡ map {B = PortServices} (λ key. record { port = port.guid; base = base_of key; services = [] }) keys
no_places port [] = refl
no_places port (key ∷ keys) = ap (λ rest. record { port = port.guid; base = base_of key; services = [] } ∷ rest) (no_places port keys)

pub same_services : (ports : List SubnetPort) → services_of (map at_the_start ports) ≡ no_services ports
same_services [] = refl
same_services (port ∷ ports) =
    ap (λ (some : List PortServices). some ++ services_of (map at_the_start ports)) (no_places port (by_base port.keys))
    ∙ ap (λ (rest : List PortServices). none_of_port port ++ rest) (same_services ports)

pub same_transfers : (ports : List SubnetPort) → transfers_of (map at_the_start ports) ≡ no_transfers ports
same_transfers [] = refl
same_transfers (port ∷ ports) = ap (λ (rest : List PortTransfer). record { port = port.guid; open_table = None } ∷ rest) (same_transfers ports)

pub same_bases : (keys : List ℕ) → map (λ place. place.base) (map no_place keys) ≡ map base_of keys
same_bases [] = refl
same_bases (key ∷ keys) = ap (λ (rest : List ℕ). base_of key ∷ rest) (same_bases keys)

-- a registry of ports that did nothing yet is of these ports
pub same_configuration : (kept : List KeptPort) (ports : List SubnetPort) (headings given : List Heading) → kept ≡ map at_the_start ports → headings ≡ given
    → configuration_in kept headings ≡ record { ports = ports; partitions = given }
same_configuration kept ports headings given are same = rw (are, same_ports ports, same) refl

pub did_nothing : (kept : List KeptPort) (ports : List SubnetPort) → kept ≡ map at_the_start ports → kept ≡ map at_the_start (ports_of kept)
did_nothing kept ports are = are ∙ ap (map at_the_start) (sym (same_ports ports) ∙ ap ports_of (sym are))

-- ---- each of the partitions of a file has a base, and a group that fits
pub passed_at : {X : Type 0} (test : X → Bool) (xs : List X) (i : ℕ) (x : X) → i < length xs → x ≡ get_or xs i x → list_all test xs ≡ true → test x ≡ true
passed_at test xs i x within is all = elim (cases_Bool (test x)) [
  | inl does ↦ does
  | inr fails ↦ absurd (false≢true (sym (list_all_at test xs i x within (ap test (sym is) ∙ fails)) ∙ all))
]

pub heading_based : (headings : List Heading) (i : ℕ) (heading : Heading) → AreSoundHeadings headings → i < length headings → heading ≡ get_or headings i heading
    → is_base heading.base ≡ true
heading_based headings i heading sound within is =
    passed_at (λ (one : Heading). is_base one.base) headings i heading within is
    (sym (list_all-map is_base (λ (one : Heading). one.base) headings) ∙ sound.bases.valid)
