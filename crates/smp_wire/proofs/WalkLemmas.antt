-- A walk followed hop by hop, with the ports by which the SMP comes in written as it goes.
use Rattle.std.proofs.Common.{ℕ, suc, ◌≡◌, ◌+◌, ◌<◌, ◌≤◌, ◌==◌, ◌∙◌, nat_le, ap, refl, sym, Bool, true, false, List, [], ◌∷◌, length, drop, get_or}
use Rattle.std.proofs.Common.{slice_index, Option, Some, None, option_map, arith, add-one}
use Rattle.std.proofs.Math.ListN.{drop_of_length-le}
use Rattle.std.proofs.Math.Seq.{drop-cons}
use Rattle.std.proofs.lemmas.Bool.{and_parts, eqb-true}
use Rattle.std.proofs.lemmas.Bool.Decides.{nat_tests}
use Rattle.std.proofs.lemmas.List.{get_or-drop, get_or-take, length-drop, length-take-le}
use Rattle.std.specs.Option.{option_and_then}
use Rattle.fabric_parts.specs.Cable.{last_of}
use Rattle.smp_route.specs.HopFields.{count, initial_port, is_outgoing, pointer, with_pointer, with_return_port}
use Rattle.fabric_parts.specs.declared.cable.Cable.{Cable}
use Rattle.fabric_parts.specs.declared.cable.PortRef.{PortRef}
use Rattle.smp_wire.specs.declared.node.Node.{Node}
use Rattle.smp_wire.specs.declared.walking.Arrival.{Arrival}
use Rattle.smp_wire.specs.Walk.{arrival_of, hop, is_sent, path_of, walk, with_return_ports}

abbrev pub follow : List Node → List Cable → Bool → PortRef → ℕ → List ℕ → List ℕ → Option (PortRef × List ℕ)
follow nodes cables starts here k [] smp = Some (here, smp)
follow nodes cables starts here k (number ∷ numbers) smp =
    option_and_then (λ there. follow nodes cables false there (k + 1) numbers (with_return_port k there.port smp)) (hop nodes cables starts here number)

abbrev pub ended : PortRef → ℕ → List ℕ → List PortRef → PortRef × List ℕ
ended here k smp ends = (last_of here ends, with_return_ports k ends smp)

step : (there : PortRef) (here : PortRef) (k : ℕ) (smp : List ℕ) (rest : Option (List PortRef))
    → option_map (ended here k smp) (option_map (λ ends. there ∷ ends) rest) ≡ option_map (ended there (k + 1) (with_return_port k there.port smp)) rest
step there here k smp None = refl
step there here k smp (Some ends) = refl

by_hop : (nodes : List Node) (cables : List Cable) (here : PortRef) (k : ℕ) (numbers : List ℕ) (smp : List ℕ)
    → ((there : PortRef) → option_map (ended there (k + 1) (with_return_port k there.port smp))
    (walk nodes cables false there numbers) ≡ follow nodes cables false there (k + 1) numbers
    (with_return_port k there.port smp))
    → (next : Option PortRef)
    → option_map (ended here k smp) (option_and_then
    (λ there. option_map (λ ends. there ∷ ends) (walk nodes cables false there numbers)) next) ≡ option_and_then
    (λ there. follow nodes cables false there (k + 1) numbers (with_return_port k there.port smp)) next
by_hop nodes cables here k numbers smp later None = refl
by_hop nodes cables here k numbers smp later (Some there) = step there here k smp (walk nodes cables false there numbers) ∙ later there

pub follow_is_walk : (nodes : List Node) (cables : List Cable) (starts : Bool) (here : PortRef) (k : ℕ) (numbers : List ℕ) (smp : List ℕ)
    → option_map (ended here k smp) (walk nodes cables starts here numbers) ≡ follow nodes cables starts here k numbers smp
follow_is_walk nodes cables starts here k [] smp = refl
follow_is_walk nodes cables starts here k (number ∷ numbers) smp =
    by_hop nodes cables here k numbers smp (λ there. follow_is_walk nodes cables false there (k + 1) numbers (with_return_port k there.port smp)) (hop nodes cables starts here number)

-- ---- the loop: so many hops are done, the SMP is here, and what is left gives what the whole gives
abbrev pub there_with : ℕ → PortRef × List ℕ → Arrival
there_with hops found = record { at = found.0; smp = with_pointer (hops + 1) found.1 }

pub record IsUnderWay (nodes : List Node) (cables : List Cable) (manager : PortRef) (sent : List ℕ) (done : ℕ) (at : PortRef) (smp : List ℕ) : Type 0 where
  pub gives : option_map (arrival_of manager sent) (walk nodes cables true manager (path_of sent)) ≡ option_map
      (there_with (count sent)) (follow nodes cables (done == 0) at (done + 1) (drop done (path_of sent)) smp)

both : (manager : PortRef) (sent : List ℕ) (found : Option (List PortRef))
    → option_map (arrival_of manager sent) found ≡ option_map (there_with (count sent)) (option_map (ended manager 1 sent) found)
both manager sent None = refl
both manager sent (Some ends) = refl

pub begins : (nodes : List Node) (cables : List Cable) (manager : PortRef) (sent : List ℕ) → IsUnderWay nodes cables manager sent 0 manager sent
begins nodes cables manager sent = record {
  gives =
      both manager sent (walk nodes cables true manager (path_of sent))
      ∙ ap (option_map (there_with (count sent))) (follow_is_walk nodes cables true manager 1 (path_of sent) sent);
}

-- what is sent stands at the beginning of its path
pub sent_parts : (sent : List ℕ) → is_sent sent ≡ true → (pointer sent ≡ 0) × (count sent ≤ 63)
sent_parts sent is =
    let start = and_parts (pointer sent == 0) (nat_le (count sent) 63) (and_parts (is_outgoing sent) _ is).1 in
    let few = start.1 in
    (eqb-true (pointer sent) 0 start.0, grind (arith, nat_tests, few))

pub path_length : (sent : List ℕ) → length sent ≡ 256 → count sent ≤ 63 → length (path_of sent) ≡ count sent
path_length sent long few = length-take-le (count sent) (drop 129 sent) (rw length-drop (omega (arith, long, few)))

-- the next port of the path
cut : (sent : List ℕ) (done : ℕ) → length sent ≡ 256 → count sent ≤ 63 → done < count sent
    → drop done (path_of sent) ≡ initial_port sent (done + 1) ∷ drop (done + 1) (path_of sent)
cut sent done long few more =
    let cons : drop done (path_of sent) ≡ get_or (path_of sent) done 0 ∷ drop (suc done) (path_of sent) = drop-cons (path_of sent) done 0 (rw (path_length sent long few) more) in
    let read : get_or (path_of sent) done 0 ≡ slice_index sent (129 + done) = get_or-take (count sent) (drop 129 sent) done 0 more ∙ get_or-drop 129 sent done 0 in
    let place : 129 + done ≡ 128 + (done + 1) = omega arith in
    rw (cons, read, place, add-one done) refl

after_none : (nodes : List Node) (cables : List Cable) (hops : ℕ) (k : ℕ) (numbers : List ℕ) (smp : List ℕ) (next : Option PortRef) → next ≡ None
    → None ≡ option_map (there_with hops) (option_and_then (λ there. follow nodes cables false there (k + 1) numbers (with_return_port k there.port smp)) next)
after_none nodes cables hops k numbers smp next none = rw none refl

pub stops : (nodes : List Node) (cables : List Cable) (manager : PortRef) (sent : List ℕ) (done : ℕ) (at : PortRef) (smp : List ℕ)
    → length sent ≡ 256 → count sent ≤ 63 → done < count sent
    → IsUnderWay nodes cables manager sent done at smp → hop nodes cables (done == 0) at (initial_port sent (done + 1)) ≡ None
    → None ≡ option_map (arrival_of manager sent) (walk nodes cables true manager (path_of sent))
stops nodes cables manager sent done at smp long few more under none =
    let left = under.gives in
    let next = rw (cut sent done long few more) at left in
    after_none nodes cables (count sent) (done + 1) (drop (done + 1) (path_of sent)) smp (hop nodes cables (done == 0) at (initial_port sent (done + 1))) none ∙ sym next

goes : (nodes : List Node) (cables : List Cable) (hops : ℕ) (k : ℕ) (numbers : List ℕ) (smp : List ℕ) (there : PortRef) (next : Option PortRef)
    → next ≡ Some there
    → option_map (there_with hops) (option_and_then
    (λ end. follow nodes cables false end (k + 1) numbers (with_return_port k end.port smp)) next) ≡ option_map
    (there_with hops) (follow nodes cables false there (k + 1) numbers (with_return_port k there.port smp))
goes nodes cables hops k numbers smp there next is = rw is refl

pub goes_on : (nodes : List Node) (cables : List Cable) (manager : PortRef) (sent : List ℕ) (done : ℕ) (at there : PortRef) (smp : List ℕ)
    → length sent ≡ 256 → count sent ≤ 63 → done < count sent
    → IsUnderWay nodes cables manager sent done at smp → hop nodes cables (done == 0) at (initial_port sent (done + 1)) ≡ Some there
    → IsUnderWay nodes cables manager sent (done + 1) there (with_return_port (done + 1) there.port smp)
goes_on nodes cables manager sent done at there smp long few more under is =
    let left = under.gives in
    let next = rw (cut sent done long few more) at left in
    let later : ((done + 1) == 0) ≡ false = grind (arith, nat_tests) in
    record {
      gives = next ∙ goes nodes cables (count sent) (done + 1) (drop (done + 1) (path_of sent)) smp there
          (hop nodes cables (done == 0) at (initial_port sent (done + 1))) is ∙ rw later refl;
    }

pub ends : (nodes : List Node) (cables : List Cable) (manager : PortRef) (sent : List ℕ) (done : ℕ) (at : PortRef) (smp : List ℕ)
    → length sent ≡ 256 → count sent ≤ 63 → count sent ≤ done
    → IsUnderWay nodes cables manager sent done at smp
    → Some (there_with (count sent) (at, smp)) ≡ option_map (arrival_of manager sent) (walk nodes cables true manager (path_of sent))
ends nodes cables manager sent done at smp long few over under =
    let left = under.gives in
    let none : drop done (path_of sent) ≡ [] = drop_of_length-le (path_of sent) (rw (path_length sent long few) over) in
    sym (rw none at left)
