-- One Set that the agent at the end of its path takes.
use Rattle.std.proofs.Common.{ℕ, ◌≡◌, ◌≤◌, ◌==◌, ◌&&◌, ◌∙◌, ap, arith, refl, subst, sym, Bool, true, false, if◌then◌else◌, List, Option, Some, Result, Ok, Err, is_ok}
use Rattle.std.specs.Result.{IsOk}
use Rattle.std.specs.Str.{bytes_eq}
use Rattle.std.proofs.lemmas.Bool.{eqb-true, false≢true}
use Rattle.std.proofs.lemmas.Slice.Eq.{bytes_eq-Decides}
use Rattle.attr_tables.specs.declared.smp_attribute.SmpAttribute.{SmpAttribute}
use Rattle.attr_tables.specs.declared.smp_attribute.SmpAttribute.TheVariants.{PortInfo as PortInfoAsked}
use Rattle.mad_layout.specs.Bits.{field}
use Rattle.smp_wire.specs.FabricState.{FabricState}
use Rattle.smp_wire.specs.Get.{gives_along}
use Rattle.smp_wire.specs.Good.{IsGood}
use Rattle.smp_wire.specs.Replies.{reported_for}
use Rattle.smp_wire.specs.Set.{set_along, set_gives_along, takes_along}
use Rattle.smp_wire.specs.Shape.{IsSameShape}
use Rattle.smp_wire.specs.declared.reply.ReplyFault.{ReplyFault}
use Rattle.table_push.specs.Fault.{all_enforce, all_taken, compared, count_of, meaning, taken_of, without_enforcement}
use Rattle.table_push.specs.Pushes.{Gives, Leaves, Stands}
use Rattle.table_push.specs.declared.fault.PushFault.{PushFault}
use Rattle.table_push.specs.declared.fault.PushFault.TheVariants.{NotAsSet}
use Rattle.table_push.specs.declared.fault.Taken.{Taken}
use Rattle.table_push.specs.declared.fault.Taken.TheVariants.{AsSet, NotEnforcing}

is_heard : (x next : FabricState) (attribute : SmpAttribute) (modifier : ℕ) (path wanted bytes : List ℕ)
    → takes_along x path attribute modifier wanted ≡ Some (Ok next) → gives_along next path attribute modifier ≡ Some (Ok bytes)
    → reported_for (set_gives_along x path attribute modifier wanted) ≡ Ok bytes
is_heard x next attribute modifier path wanted bytes takes given = rw (takes, given) refl

means_set : (attribute : SmpAttribute) (wanted bytes : List ℕ) → compared attribute wanted bytes ≡ wanted
    → meaning attribute wanted (Ok bytes) ≡ Ok tt
means_set attribute wanted bytes same = rw (same, (bytes_eq-Decides wanted wanted).1 refl) refl

becomes_next : (x next : FabricState) (attribute : SmpAttribute) (modifier : ℕ) (path wanted : List ℕ)
    → takes_along x path attribute modifier wanted ≡ Some (Ok next) → set_along x path attribute modifier wanted ≡ next
becomes_next x next attribute modifier path wanted takes = rw takes refl

pub is_set : (x next : FabricState) (attribute : SmpAttribute) (modifier : ℕ) (path wanted : List ℕ) (reported : Result (List ℕ) ReplyFault)
    (result : Result (Unit {0}) PushFault) (stood : Option FabricState) → result ≡ meaning attribute wanted reported
    → reported ≡ reported_for (set_gives_along x path attribute modifier wanted)
    → stood ≡ Some (set_along x path attribute modifier wanted)
    → IsGood (set_along x path attribute modifier wanted) → IsSameShape x (set_along x path attribute modifier wanted)
    → takes_along x path attribute modifier wanted ≡ Some (Ok next)
    → (IsSameShape x next → Gives next path attribute modifier wanted)
    → Leaves result stood x next
is_set x next attribute modifier path wanted reported result stood means reports left good shape takes gives =
    let becomes = becomes_next x next attribute modifier path wanted takes in
    let same : IsSameShape x next = subst (IsSameShape x) becomes shape in
    let shown = gives same in
    let heard : reported ≡ Ok shown.bytes = reports ∙ is_heard x next attribute modifier path wanted shown.bytes takes shown.given in
    let set : result ≡ Ok tt = means ∙ ap (meaning attribute wanted) heard ∙ means_set attribute wanted shown.bytes shown.same in
    record {
      done = ap is_ok set;
      stands = record { is = left ∙ ap (λ (one : FabricState). Some one) becomes; good = subst IsGood becomes good; shape = same };
    }

-- over a good fabric it is not refused, and a reply comes
pub no_fault_heard : (x next : FabricState) (attribute : SmpAttribute) (modifier : ℕ) (path wanted : List ℕ) (fault : ReplyFault)
    → ◌≡◌ {A = Result (List ℕ) ReplyFault} (Err fault) (reported_for (set_gives_along x path attribute modifier wanted))
    → IsSameShape x (set_along x path attribute modifier wanted) → takes_along x path attribute modifier wanted ≡ Some (Ok next)
    → (IsSameShape x next → Gives next path attribute modifier wanted) → ⊥
no_fault_heard x next attribute modifier path wanted fault reports shape takes gives =
    let same : IsSameShape x next = subst (IsSameShape x) (becomes_next x next attribute modifier path wanted takes) shape in
    let shown = gives same in
    let heard : ◌≡◌ {A = Result (List ℕ) ReplyFault} (Err fault) (Ok shown.bytes) = reports ∙ is_heard x next attribute modifier path wanted shown.bytes takes shown.given in
    absurd (cc)

-- ---- what a port takes
-- if it has to take all, that is what the reply to any Set means
pub taken_means : (wanted bytes : List ℕ) → all_taken (taken_of wanted bytes) ≡ meaning PortInfoAsked wanted (Ok bytes)
taken_means wanted bytes =
    by (bytes_eq (compared PortInfoAsked wanted bytes) wanted)
    ((field wanted 348 2 == 3) && bytes_eq (compared PortInfoAsked wanted bytes) (without_enforcement wanted))
  where
    by : (same other : Bool)
        → all_taken (if same then Ok AsSet else (if other then Ok NotEnforcing else Err NotAsSet)) ≡ (if same then Ok tt else Err NotAsSet)
    by true other = refl
    by false true = refl
    by false false = refl

pub counts_none : (taken : Taken) → IsOk (all_taken (Ok taken)) → count_of taken ≡ 0
counts_none AsSet done = refl
counts_none NotEnforcing done = absurd (cc)

pub counts_one : (taken : Taken) → count_of taken ≤ 1
counts_one AsSet = omega arith
counts_one NotEnforcing = omega arith

pub none_counted : (count : ℕ) → IsOk (all_enforce (Ok count)) → count ≡ 0
none_counted count done = by (count == 0) refl
  where
    verdict : Bool → Result (Unit {0}) PushFault
    verdict none = if none then Ok tt else Err NotAsSet

    by : (none : Bool) → (count == 0) ≡ none → count ≡ 0
    by true is = eqb-true count 0 is
    by false is = absurd (false≢true (ap (λ (none : Bool). is_ok (verdict none)) (sym is) ∙ done))

-- a number of none is as good as done
pub all_do : (count : ℕ) (stood : Option FabricState) (was next : FabricState) → count ≡ 0 → Leaves {X = Unit {0}} (Ok tt) stood was next
    → Leaves (all_enforce (Ok count)) stood was next
all_do count stood was next none leaves = rw none leaves

-- whatever was to be returned
pub returned : {X : Type 0} (x : X) (stood : Option FabricState) (was next : FabricState) → Stands stood was next → Leaves {X = X} (Ok x) stood was next
returned x stood was next stands = record { done = refl; stands = stands }
