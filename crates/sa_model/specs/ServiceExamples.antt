-- The four adapters of the examples of groups, where limited members of the partition of base 1 offer services.
use Rattle.std.specs.Prelude.{ℕ, List, [], ◌∷◌, fold, map}
use Rattle.std.specs.List.{flat_map, range_with_len}
use Rattle.sa_model.specs.GroupExamples.{ports}
use Rattle.sa_model.specs.Services.{Service, PortServices, no_services}
use Rattle.sa_model.specs.ServiceChange.{Deed, ServiceChange, services_changed}
use Rattle.sa_model.specs.ServiceSight.{services_seen}

abbrev pub service : ℕ → Service
service id = record { service_id = id; lease = 0; name = 0x64 ∷ 0x62 ∷ 0x73 ∷ []; numbers = [] }

abbrev pub set_by : ℕ → ℕ → ServiceChange
set_by port id = record { port = port; base = 1; deed = Deed.sets (service id) }

abbrev pub delete_by : ℕ → ℕ → ServiceChange
delete_by port id = record { port = port; base = 1; deed = Deed.deletes id }

-- ---- the states: one service of a limited member, and as many as it may have
abbrev pub one : List PortServices
one = services_changed (no_services ports) (set_by 0x121 1)

abbrev pub sixteen : List PortServices
sixteen = fold (λ services id. services_changed services (set_by 0x121 id)) (no_services ports) (range_with_len 1 16)

-- ---- what is looked at
abbrev pub ids : List PortServices → List ℕ
ids services = flat_map (λ place. map (λ one. one.service_id) place.services) services

abbrev pub ids_seen : ℕ → List PortServices → List ℕ
ids_seen p services = ids (services_seen ports p services)
