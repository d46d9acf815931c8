use Rattle.std.proofs.Common.{◌≡◌, ◌*◌, ◌^◌, length, lit<, arith, ap, rules, ℕ}
use Rattle.mad_layout.proofs.NumberLemmas.{number_below}
use Rattle.sa_store.proofs.kept_port.node_record.Goals as goal

pub returns-clause-fits : goal.returns-clause-fits
returns-clause-fits c =
    let long : length c.args.node_string ≡ 64 = search rules in
    let wide : 8 * length c.args.node_string ≡ 512 = omega (arith, long) in
    let name = rw (ap (λ (n : ℕ). 2 ^ n) wide) at (number_below c.args.node_string c.known_bytes.ensures) in
    (c.known_numbers.ensures.lid, (lit< tt, (lit< tt, (c.ranges.node_type.fits, (c.known_numbers.ensures.num_ports, (c.known_numbers.ensures.node_guid, (c.known_numbers.ensures.node_guid, (c.known_numbers.ensures.guid, (lit< tt, (lit< tt, (lit< tt, (c.known_numbers.ensures.number, (lit< tt, (name, tt))))))))))))))
