-- The loads of cables, as a result of the program.
use Rattle.std.proofs.Common.{ℕ, ◌≡◌, refl, sym, List, IfErr, IfOk, IsErr, Result, Ok, Err}
use Rattle.std.specs.Global.{Global}
use Rattle.std.specs.Prelude.{Vec}
use Rattle.fabric_cli.specs.Serving.{ComesTo, complete, ended}
use Rattle.fabric_cli.specs.declared.faults.Stop.{Stop}
use Rattle.fabric_cli.specs.declared.faults.Stop.TheVariants.{NoMemory}

pub load_comes : {E : Type 0} (wanted : List ℕ) (text : Result (Vec ℕ Global) E) (result : Result (Vec ℕ Global) Stop) → IfOk text (λ made. made.items ≡ wanted)
    → IfOk result (λ made. text ≡ Ok made) → IfErr result (λ stop. (stop ≡ NoMemory) × IsErr text)
    → ComesTo (λ made. made.items) (ended (complete wanted)) result
load_comes wanted text (Ok made) is same stops = let so : made.items ≡ wanted = rw same at is in rw so refl
load_comes wanted text (Err stop) is same stops = rw stops.0 tt
