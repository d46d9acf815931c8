-- What is known of a port that counts as one that does not enforce partitions.
use Rattle.std.proofs.Common.{ℕ, ◌≡◌, ◌+◌, ◌≤◌, ◌==◌, ◌&&◌, ◌∙◌, ◌⊎◌, inr, ap, arith, refl, sym, Bool, true, false, if◌then◌else◌, List, length, Result, Ok, Err}
use Rattle.std.specs.Str.{bytes_eq}
use Rattle.std.proofs.lemmas.Bool.{eqb-true}
use Rattle.std.proofs.lemmas.Slice.Eq.{bytes_eq-Decides}
use Rattle.attr_tables.specs.declared.smp_attribute.SmpAttribute.TheVariants.{PortInfo as PortInfoAsked}
use Rattle.mad_layout.specs.Bits.{field}
use Rattle.mad_layout.proofs.LayoutLemmas.{field-put_apart, field-put_same}
use Rattle.table_push.specs.Enforcement.{OnlySuchPortsCount}
use Rattle.table_push.specs.Fault.{compared, state_of, taken_of, without_enforcement, without_state}
use Rattle.table_push.specs.declared.fault.PushFault.{PushFault}
use Rattle.table_push.specs.declared.fault.PushFault.TheVariants.{NotAsSet}
use Rattle.table_push.specs.declared.fault.Taken.{Taken}
use Rattle.table_push.specs.declared.fault.Taken.TheVariants.{AsSet, NotEnforcing}

-- what is compared of PortInfo differs from what is reported in PortState alone
state_apart : (wanted reported : List ℕ) (off len : ℕ) → length reported ≡ 64 → off + len ≤ 512 → (off + len ≤ 260) ⊎ (264 ≤ off)
    → field (compared PortInfoAsked wanted reported) off len ≡ field reported off len
unfolding compared
state_apart wanted reported off len long within apart = by (state_of wanted == 0)
  where
    by : (none : Bool) → field (if none then without_state reported else reported) off len ≡ field reported off len
    by true = field-put_apart reported 260 4 0 off len (omega (arith, long)) (omega (arith, long, within)) (omega arith) apart
    by false = refl

-- one that counts is compared as one that enforces nothing
counted : (same both other : Bool)
    → ◌≡◌ {A = Result Taken PushFault} (if same then Ok AsSet else (if both && other then Ok NotEnforcing else Err NotAsSet)) (Ok NotEnforcing)
    → (both ≡ true) × (other ≡ true)
counted true both other is = absurd (cc)
counted false true true is = (refl, refl)
counted false true false is = absurd (cc)
counted false false other is = absurd (cc)

pub only_such_ports_count : OnlySuchPortsCount taken_of
only_such_ports_count wanted reported long also counts =
    let parts = counted (bytes_eq (compared PortInfoAsked wanted reported) wanted) (field wanted 348 2 == 3)
    (bytes_eq (compared PortInfoAsked wanted reported) (without_enforcement wanted)) counts in
    let same : compared PortInfoAsked wanted reported ≡ without_enforcement wanted =
    (bytes_eq-Decides (compared PortInfoAsked wanted reported) (without_enforcement wanted)).0 parts.1 in (
      eqb-true (field wanted 348 2) 3 parts.0,
      sym (state_apart wanted reported 348 2 also (omega arith) (inr (omega arith))) ∙ ap (λ (bytes : List ℕ). field bytes 348 2) same
          ∙ field-put_same wanted 348 2 0 (omega (arith, long)) (omega arith),
      λ off len within state enforcement. sym (state_apart wanted reported off len also within state) ∙ ap (λ (bytes : List ℕ). field bytes off len) same
          ∙ field-put_apart wanted 348 2 0 off len (omega (arith, long)) (omega (arith, long, within)) (omega arith) enforcement,
    )
