-- The speeds of a path (IBA volume 1, 15.2.5), by their codes.
use Rattle.std.specs.Prelude.{ℕ}
use Rattle.attr_tables.specs.declared.rate.Rate.{Rate}
use Rattle.attr_tables.specs.declared.rate.Rate.TheVariants.{Gbps2_5, Gbps10, Gbps30, Gbps5, Gbps20, Gbps40, Gbps60, Gbps80, Gbps120}

abbrev pub rate_code : Rate → ℕ
rate_code Gbps2_5 = 2
rate_code Gbps10 = 3
rate_code Gbps30 = 4
rate_code Gbps5 = 5
rate_code Gbps20 = 6
rate_code Gbps40 = 7
rate_code Gbps60 = 8
rate_code Gbps80 = 9
rate_code Gbps120 = 10
