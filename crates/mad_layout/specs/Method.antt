-- The methods of MADs (IBA volume 1, 13.4.5 and 15.2.2), by their codes with the R bit.
use Rattle.std.specs.Prelude.{ℕ}
use Rattle.mad_layout.specs.declared.method.Method.{Method}
use Rattle.mad_layout.specs.declared.method.Method.TheVariants.{Get, Set, GetTable, Delete, GetResp, GetTableResp, DeleteResp}

abbrev pub method_code : Method → ℕ
method_code Get = 1
method_code Set = 2
method_code GetTable = 18
method_code Delete = 21
method_code GetResp = 129
method_code GetTableResp = 146
method_code DeleteResp = 149
