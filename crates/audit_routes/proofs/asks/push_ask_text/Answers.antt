use Rattle.std.proofs.Common.{append_assoc}
use Rattle.audit_routes.specs.Asks.{ask_text}
use Rattle.audit_routes.proofs.asks.push_ask_text.Goals as goal

pub returns : goal.returns
unfolding ask_text
returns c = rw (c.in_ok-extend_from_slice-2.ensures.items, c.in_ok-push_decimal.ensures, c.from.ensures, c.in_ok-extend_from_slice.ensures.items, append_assoc, append_assoc)
