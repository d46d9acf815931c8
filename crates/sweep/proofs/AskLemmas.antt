-- What is asked along a path, over a good fabric.
use Rattle.std.proofs.Common.{ℕ, ◌≡◌, ◌∙◌, ap, refl, sym, List, Option, Some, None, Result, Ok, Err}
use Rattle.std.specs.Option.{ForSome, ok_or, option_and_then}
use Rattle.mad_layout.specs.Layout.{Holds}
use Rattle.mad_layout.specs.declared.status.MadStatus.{MadStatus}
use Rattle.fabric_parts.specs.declared.cable.PortRef.{PortRef}
use Rattle.attr_tables.specs.declared.node_info.NodeInfo.{NodeInfo}
use Rattle.attr_tables.specs.declared.smp_attribute.SmpAttribute.TheVariants.{NodeDescription as NameAsked, NodeInfo as NodeInfoAsked}
use Rattle.attr_tables.specs.NodeInfo.{node_info}
use Rattle.smp_wire.specs.FabricState.{FabricState}
use Rattle.smp_wire.specs.Get.{gives_along, gives_at}
use Rattle.smp_wire.specs.Good.{IsGood}
use Rattle.smp_wire.specs.Replies.{reported_for}
use Rattle.smp_wire.specs.Walk.{end_of}
use Rattle.sweep.specs.Fault.{heard}
use Rattle.sweep.specs.Seen.{name_at, seen_at, seen_of}
use Rattle.sweep.specs.declared.fault.SweepFault.{SweepFault}
use Rattle.sweep.specs.declared.fault.SweepFault.TheVariants.{NoReply}
use Rattle.sweep.specs.declared.seen.Seen.{Seen}
use Rattle.sweep.proofs.EndLemmas.{end_port}
use Rattle.sweep.proofs.ShownLemmas.{Names, Shows, gives_info, gives_name}

-- bytes that were reported, and a look that reported nothing
abbrev reported_bytes : List ℕ → Result (List ℕ) SweepFault
reported_bytes bytes = Ok bytes

abbrev no_sight : SweepFault → Result Seen SweepFault
no_sight fault = Err fault

same_Ok : (a b : List ℕ) → reported_bytes a ≡ reported_bytes b → a ≡ b
same_Ok a b h = cc

-- ---- what is seen
looked_at : (fabric : FabricState) (at : PortRef) (bytes : List ℕ) (read : NodeInfo) → Shows (gives_at fabric at NodeInfoAsked 0) (seen_at fabric at)
    → Ok bytes ≡ heard (reported_for (gives_at fabric at NodeInfoAsked 0)) → Holds bytes (node_info read)
    → seen_of read ≡ ok_or (seen_at fabric at) NoReply
looked_at fabric at bytes read shows reported holds =
    let same : bytes ≡ shows.bytes = same_Ok bytes shows.bytes (reported ∙ ap (λ (given : Option (Result (List ℕ) MadStatus)). heard (reported_for given)) shows.gives) in
    rw shows.is (shows.reads read (rw (sym same) holds))

looked_along : (fabric : FabricState) (ended : Option PortRef) (bytes : List ℕ) (read : NodeInfo)
    → ((at : PortRef) → ended ≡ Some at → Shows (gives_at fabric at NodeInfoAsked 0) (seen_at fabric at))
    → Ok bytes ≡ heard (reported_for (option_and_then (λ at. gives_at fabric at NodeInfoAsked 0) ended)) → Holds bytes (node_info read)
    → seen_of read ≡ ok_or (option_and_then (seen_at fabric) ended) NoReply
looked_along fabric None bytes read shows reported holds = cc
looked_along fabric (Some at) bytes read shows reported holds = looked_at fabric at bytes read (shows at refl) reported holds

pub looked : (stood : Option FabricState) (path bytes : List ℕ) (read : NodeInfo)
    → ForSome stood (λ fabric. IsGood fabric → Ok bytes ≡ heard (reported_for (gives_along fabric path NodeInfoAsked 0)))
    → Holds bytes (node_info read)
    → ForSome stood (λ fabric. IsGood fabric → seen_of read ≡ ok_or (option_and_then (seen_at fabric) (end_of fabric path)) NoReply)
looked stood path bytes read reported holds fabric stands good =
    looked_along fabric (end_of fabric path) bytes read
    (λ at ends. gives_info fabric at good (end_port fabric path at good ends)) (reported fabric stands good) holds

-- nothing is seen only where the path ends nowhere
unseen_along : (fabric : FabricState) (ended : Option PortRef) (fault : SweepFault)
    → ((at : PortRef) → ended ≡ Some at → Shows (gives_at fabric at NodeInfoAsked 0) (seen_at fabric at))
    → Err fault ≡ heard (reported_for (option_and_then (λ at. gives_at fabric at NodeInfoAsked 0) ended))
    → no_sight fault ≡ ok_or (option_and_then (seen_at fabric) ended) NoReply
unseen_along fabric None fault shows reported = cc
unseen_along fabric (Some at) fault shows reported =
    let given = reported ∙ ap (λ (given : Option (Result (List ℕ) MadStatus)). heard (reported_for given)) (shows at refl).gives in
    absurd (cc)

pub unseen : (stood : Option FabricState) (path : List ℕ) (fault : SweepFault)
    → ForSome stood (λ fabric. IsGood fabric → Err fault ≡ heard (reported_for (gives_along fabric path NodeInfoAsked 0)))
    → ForSome stood (λ fabric. IsGood fabric → no_sight fault ≡ ok_or (option_and_then (seen_at fabric) (end_of fabric path)) NoReply)
unseen stood path fault reported fabric stands good =
    unseen_along fabric (end_of fabric path) fault
    (λ at ends. gives_info fabric at good (end_port fabric path at good ends)) (reported fabric stands good)

-- ---- names
named_at : (fabric : FabricState) (at : PortRef) (reported : Result (List ℕ) SweepFault) → Names (gives_at fabric at NameAsked 0) (name_at fabric at)
    → reported ≡ heard (reported_for (gives_at fabric at NameAsked 0)) → reported ≡ ok_or (name_at fabric at) NoReply
named_at fabric at reported names is =
    rw names.is (is ∙ ap (λ (given : Option (Result (List ℕ) MadStatus)). heard (reported_for given)) names.gives)

named_along : (fabric : FabricState) (ended : Option PortRef) (reported : Result (List ℕ) SweepFault)
    → ((at : PortRef) → ended ≡ Some at → Names (gives_at fabric at NameAsked 0) (name_at fabric at))
    → reported ≡ heard (reported_for (option_and_then (λ at. gives_at fabric at NameAsked 0) ended))
    → reported ≡ ok_or (option_and_then (name_at fabric) ended) NoReply
named_along fabric None reported names is = is
named_along fabric (Some at) reported names is = named_at fabric at reported (names at refl) is

pub named : (stood : Option FabricState) (path : List ℕ) (reported : Result (List ℕ) SweepFault)
    → ForSome stood (λ fabric. IsGood fabric → reported ≡ heard (reported_for (gives_along fabric path NameAsked 0)))
    → ForSome stood (λ fabric. IsGood fabric → reported ≡ ok_or (option_and_then (name_at fabric) (end_of fabric path)) NoReply)
named stood path reported is fabric stands good =
    named_along fabric (end_of fabric path) reported
    (λ at ends. gives_name fabric at (end_port fabric path at good ends)) (is fabric stands good)
