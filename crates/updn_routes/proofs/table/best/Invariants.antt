use Rattle.std.proofs.Common.{◌≡◌, take, None}
use Rattle.std.specs.List.{fold}
use Rattle.updn_routes.specs.Tables.{or_link}
use Rattle.updn_routes.proofs.table.best.Given as goal

abbrev pub invariant-loop-link : goal.invariant-loop-link
invariant-loop-link l = l.best ≡ fold (or_link l.falls l.table) None (take l.link-index l.links)
