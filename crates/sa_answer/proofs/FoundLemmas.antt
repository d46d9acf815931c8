-- The services of ports, and what else is gone through: what was found so far, and what is found with one more.
use Rattle.std.proofs.Common.{◌≡◌, ℕ, zero, suc, ◌<◌, ◌==◌, Bool, true, false, not, ◌&&◌, if◌then◌else◌, List, [], ◌∷◌, length, map, get_or, Option, Some, None, refl, sym, ◌∙◌, ap, subst, inl, inr, arith}
use Rattle.std.specs.List.{flat_map}
use Rattle.std.proofs.lemmas.Bool.{and_parts, cases_Bool, false≢true, ne_eqb}
use Rattle.pkey_rules.specs.PKey.{base_of}
use Rattle.sa_records.specs.Component.{on, passes}
use Rattle.sa_records.specs.ServiceRecord.{names_selected, service_record_selected}
use Rattle.sa_records.specs.declared.service_record.ServiceRecord.{ServiceRecord}
use Rattle.subnet_model.specs.declared.subnet_port.SubnetPort.{SubnetPort}
use Rattle.sa_model.specs.Services.{Service}
use Rattle.sa_model.specs.Selected.{services_selected}
use Rattle.sa_model.specs.Shown.{service_record_of}
use Rattle.sa_model.specs.Visible.{ServiceOfPort}
use Rattle.sa_store.specs.Kept.{ServicesOfBase}
use Rattle.sa_answer.specs.Offers.{is_offered, offer, offers_shown, offers_some, service_bytes}

-- ---- one service
abbrev pub agrees : ℕ → ServiceRecord → ServiceOfPort → Bool
agrees mask asked one = service_record_selected mask (service_record_of one) asked

pub other_id : (mask : ℕ) (asked : ServiceRecord) (one : ServiceOfPort) → passes mask (on 1 (one.service.service_id == asked.service_id)) ≡ false
    → agrees mask asked one ≡ false
unfolding service_record_selected names_selected
other_id mask asked one other = rw other refl

pub record Reported (one : ServiceOfPort) (shown : ServiceRecord) (agreeing : Bool) : Type 0 where
  pub agrees_so : agreeing ≡ true
  pub is : shown ≡ service_record_of one

pub reported : (mask : ℕ) (asked : ServiceRecord) (one : ServiceOfPort) (shown : ServiceRecord)
    → Some shown ≡ (if agrees mask asked one then Some (service_record_of one) else None) → Reported one shown (agrees mask asked one)
reported mask asked one shown h = elim (cases_Bool (agrees mask asked one)) [
  | inl does ↦
      let e : Some shown ≡ Some (service_record_of one) = rw does at h in
      record { agrees_so = does; is = cc }
  | inr differs ↦ absurd (let nothing : Option ServiceRecord = None in let e : Some shown ≡ nothing = rw differs at h in cc)
]

pub not_reported : (mask : ℕ) (asked : ServiceRecord) (one : ServiceOfPort)
    → None ≡ (if agrees mask asked one then Some (service_record_of one) else None) → agrees mask asked one ≡ false
not_reported mask asked one h = elim (cases_Bool (agrees mask asked one)) [
  | inl does ↦ absurd (let nothing : Option ServiceRecord = None in let e : nothing ≡ Some (service_record_of one) = rw does at h in cc)
  | inr differs ↦ differs
]

-- ---- bases are those of keys
pub base_low : (places : List ServicesOfBase) (keys : List ℕ) (i : ℕ) (place : ServicesOfBase) → map (λ place. place.base) places ≡ map base_of keys
    → i < length places → place ≡ get_or places i place → place.base < 32768
base_low places keys i place stand within is = subst (λ (one : ServicesOfBase). one.base < 32768) (sym is) (low places keys i stand within)
  where
    low : (some : List ServicesOfBase) (held : List ℕ) (n : ℕ) → map (λ one. one.base) some ≡ map base_of held → n < length some
        → (get_or some n place).base < 32768
    low [] held n same less = absurd (omega arith)
    low (first ∷ rest) [] n same less = absurd (cc)
    low (first ∷ rest) (key ∷ held) zero same less = let e : first.base ≡ base_of key = cc in omega arith
    low (first ∷ rest) (key ∷ held) (suc n) same less = low rest held n (cc) (omega arith)

-- ---- a base that is passed over has nothing to show
pub nothing_shown : (own : SubnetPort) (mask : ℕ) (asked : ServiceRecord) (other : SubnetPort) (place : ServicesOfBase)
    → offers_some own other place ≡ false → offers_shown own mask asked other place ≡ []
nothing_shown own mask asked other place none = of place.services (is_offered own other place.base) none
  where
    of : (services : List Service) (shown : Bool) → (not (length services == 0) && shown) ≡ false
        → (if shown then services_selected mask asked (map (offer other.guid place.base) services) else []) ≡ []
    of [] true h = refl
    of services false h = refl
    of (service ∷ services) true h = absurd (let e : (length (service ∷ services) == 0) ≡ false = ne_eqb (length (service ∷ services)) 0 (λ z. absurd (omega arith)) in false≢true (sym h ∙ rw e refl))

pub something_shown : (own other : SubnetPort) (place : ServicesOfBase) → offers_some own other place ≡ true → is_offered own other place.base ≡ true
something_shown own other place some = (and_parts (not (length place.services == 0)) (is_offered own other place.base) some).1

-- ---- the bytes of a service that agrees
abbrev pub service_reported : ℕ → ServiceRecord → (port base : ℕ) → Service → List (List ℕ)
service_reported mask asked port base service = map service_bytes (services_selected mask asked (offer port base service ∷ []))

pub services_reported_are : (mask : ℕ) (asked : ServiceRecord) (port base : ℕ) (services : List Service)
    → map service_bytes (services_selected mask asked (map (offer port base) services)) ≡ flat_map (service_reported mask asked port base) services
services_reported_are mask asked port base [] = refl
services_reported_are mask asked port base (service ∷ services) = elim (cases_Bool (agrees mask asked (offer port base service))) [
  | inl does ↦ rw does (ap (λ (rest : List (List ℕ)). service_bytes (offer port base service) ∷ rest) (services_reported_are mask asked port base services))
  | inr differs ↦ rw differs (services_reported_are mask asked port base services)
]
