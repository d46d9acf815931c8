use Rattle.std.proofs.Common.{◌≡◌, ◌∙◌, refl, length}
use Rattle.std.specs.List.{zip}
use Rattle.std.proofs.lemmas.Iterator.{YieldsList-from_slice, YieldsList-from_zip}
use Rattle.std.proofs.lemmas.Iterator.Adapters.{YieldsList-from_vec}
use Rattle.std.specs.Iterator.Adapters.{zip_first, zip_second}
use Rattle.std.specs.Slice.Iter.{iter_rest}
use Rattle.std.specs.Vec.Iter.{into_iter_items, into_iter_len}
use Rattle.subnet_fabric.proofs.PortLemmas.{one_taken, all_taken}
use Rattle.subnet_fabric.proofs.end_ports.in_order.Goals as goal

pub loop-end_place-init : goal.loop-end_place-init
loop-end_place-init c =
    let it = c.into_iter-end_place-iterator.result in
    let first : iter_rest (zip_first it) ≡ c.args.end_places.now = rw (c.into_iter-end_place-iterator.ensures.into_iter_gives, c.zip-end_place-items.ensures.first) c.iter.ensures.rest in
    let items : into_iter_items (zip_second it) ≡ c.args.keys.items = rw c.into_iter-end_place-iterator.ensures.into_iter_gives c.zip-end_place-items.ensures.second.0 in
    let len : into_iter_len (zip_second it) ≡ length c.args.keys.items = rw c.into_iter-end_place-iterator.ensures.into_iter_gives (c.zip-end_place-items.ensures.second.1 ∙ c.args.keys.ok.0) in
    record {
      order = rw c.order.view_is c.in_ok-order.ensures;
      rise = rw c.new-ports.ensures.items tt;
      left = record { left = zip c.args.end_places.now c.args.keys.items; yields = (YieldsList-from_zip (YieldsList-from_slice c.args.end_places.now first) (YieldsList-from_vec c.args.keys.items items len)).runs; same = rw c.new-ports.ensures.items refl };
    }

pub loop-end_place-preserved : goal.loop-end_place-preserved
loop-end_place-preserved c =
    let before = c.loop-end_place.invariant in
    record {
      order = before.order;
      rise = c.in_ok-insert_port.ensures.rise;
      left =
          rw (c.in_ok-insert_port.ensures.placed, c.end_placed-port.ensures, c.lid_of.ensures c.args.all.now (rw c.order.view_is at before.order))
          (one_taken _ _ _ _ _ _ _ _ (c.in-Some.end_place, c.in-Some.held) before.left c.in-Some.ensures.steps);
    }

pub returns : goal.returns
returns c = all_taken _ _ _ _ _ _ c.next.new.self _ c.loop-end_place.invariant.left c.in-None.ensures.steps
