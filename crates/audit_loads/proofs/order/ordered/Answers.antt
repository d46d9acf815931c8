use Rattle.std.proofs.Common.{rules}
use Rattle.audit_loads.proofs.OrderLemmas.{before_is_order, compares, is_before, sorted_is}
use Rattle.audit_loads.proofs.order.ordered.Goals as goal

pub returns : goal.returns
returns c =
    sorted_is c.args.loads.items c.sort_by.new.self.items c.sort_by.ensures.permutation
    (c.in_ok-sort_by.ensures.sorted is_before before_is_order (compares (λ a r q called. search rules)))
    (c.sort_by.ensures.stable is_before before_is_order (compares (λ a r q called. search rules)))
