use Rattle.std.proofs.Common.{◌≡◌, ◌<◌, ◌^◌, ◌∙◌, ap, arith, length-set, rules, Fits, w32}
use Rattle.std.specs.Int.{trailing_zeros}
use Rattle.sa_store.specs.MlidRange.{free_slots}
use Rattle.sa_store.proofs.SlotLemmas.{bit_cleared, free_place, free_within, lowest, partition_full, partition_made}
use Rattle.sa_store.proofs.mlid_range.MlidRange.found.Goals as goal

pub returns-then-self-eq0-clause-next : goal.returns-then-self-eq0-clause-next
returns-then-self-eq0-clause-next c =
    partition_full c.args.join.now c.self.inside.number c.self.inside.base c.self.inside.free c.self.inside.slots.items c.args.self.now c.self.invariant.all c.self.invariant.reported c.self.view_is c.if-self-eq0.true

pub invariant_of-self : goal.invariant_of-self
invariant_of-self c =
    let slots = c.self.inside.slots.items in
    let reported = c.self.invariant.reported in
    let some : 0 < free_slots slots = omega (arith, reported, c.if-self-eq0.false) in
    let wide : Fits w32 c.self.inside.free = search rules in
    let low : free_slots slots < 2 ^ 32 = rw reported at wide.fits in
    let place : trailing_zeros w32 c.self.inside.free ≡ free_place slots = ap (trailing_zeros w32) reported ∙ lowest slots c.self.invariant.all some in
    record {
      numbered = c.self.invariant.numbered;
      based = c.self.invariant.based;
      all = length-set slots _ _ ∙ c.self.invariant.all;
      reported = rw (place, reported) (bit_cleared slots c.in_ok-group.group c.self.invariant.all some low);
    }

pub returns-clause-next : goal.returns-clause-next
returns-clause-next c =
    let join = c.args.join.now in
    let slots = c.self.inside.slots.items in
    let reported = c.self.invariant.reported in
    let some : 0 < free_slots slots = omega (arith, reported, c.if-self-eq0.false) in
    let wide : Fits w32 c.self.inside.free = search rules in
    let low : free_slots slots < 2 ^ 32 = rw reported at wide.fits in
    let place : trailing_zeros w32 c.self.inside.free ≡ free_place slots = ap (trailing_zeros w32) reported ∙ lowest slots c.self.invariant.all some in
    let group = c.in_ok-group.ensures in
    rw (place, group) (partition_made join c.self.inside.number c.self.inside.base slots c.args.self.now c.self.invariant.all (free_within slots c.self.invariant.all some low) c.self.view_is)
