-- Each text begins with its code.
use Rattle.std.proofs.Common.{◌≡◌, ◌++◌, codes, refl, true}
use Rattle.code_texts.specs.Codes.{spelling}
use Rattle.code_texts.specs.Texts.{begins_with, text_of}
use Rattle.code_texts.specs.declared.code.Code.{Code}
use Rattle.code_texts.specs.declared.code.Code.TheVariants.{Tf1, Tf2, Tf3, Tf4, Tf5, Tf6, Tf7, Tf8, Tf9, Tf10, Tf11, Tf12}
use Rattle.code_texts.specs.declared.code.Code.TheVariants.{Pf1, Pf2, Pf3, Pf4, Pf5, Pf6, Pf7, Pf8, Pf9}
use Rattle.code_texts.specs.declared.code.Code.TheVariants.{Sf1, Sf2, Sf3, Sf4, Sf5, Sf6, Sf7, Ar1, Ar2, Ar3, Ar4}
use Rattle.code_texts.specs.declared.code.Code.TheVariants.{Nd1, Nd2, Nd3, Nd4, Nd5, Nd6, Nd7}
use Rattle.code_texts.specs.declared.code.Code.TheVariants.{Ft1, Ft2, Ft3, Ft4, Ft5, Ft6, Ft7}
use Rattle.code_texts.specs.declared.code.Code.TheVariants.{Fm1, Fm2, Fm3, Fm4, Fm5}
use Rattle.code_texts.specs.declared.code.Code.TheVariants.{Fv1, Fv2, Fv3, Fv4, Fv5, Fv6}
use Rattle.code_texts.specs.declared.code.Code.TheVariants.{Kt1, Kt2, Kt3, Kt4, Kt5}
use Rattle.code_texts.specs.declared.code.Code.TheVariants.{Mf1, Mf2, Sw1, Sw2, Sw3, Sw4, Ur1, Tp1, Tp2, Tp3}
use Rattle.code_texts.specs.declared.code.Code.TheVariants.{Memory, Read, Write}

pub begins_with_code : (code : Code) → begins_with (spelling code ++ codes ": ") (text_of code) ≡ true
begins_with_code Tf1 = refl
begins_with_code Tf2 = refl
begins_with_code Tf3 = refl
begins_with_code Tf4 = refl
begins_with_code Tf5 = refl
begins_with_code Tf6 = refl
begins_with_code Tf7 = refl
begins_with_code Tf8 = refl
begins_with_code Tf9 = refl
begins_with_code Tf10 = refl
begins_with_code Tf11 = refl
begins_with_code Tf12 = refl
begins_with_code Pf1 = refl
begins_with_code Pf2 = refl
begins_with_code Pf3 = refl
begins_with_code Pf4 = refl
begins_with_code Pf5 = refl
begins_with_code Pf6 = refl
begins_with_code Pf7 = refl
begins_with_code Pf8 = refl
begins_with_code Pf9 = refl
begins_with_code Sf1 = refl
begins_with_code Sf2 = refl
begins_with_code Sf3 = refl
begins_with_code Sf4 = refl
begins_with_code Sf5 = refl
begins_with_code Sf6 = refl
begins_with_code Sf7 = refl
begins_with_code Ar1 = refl
begins_with_code Ar2 = refl
begins_with_code Ar3 = refl
begins_with_code Ar4 = refl
begins_with_code Nd1 = refl
begins_with_code Nd2 = refl
begins_with_code Nd3 = refl
begins_with_code Nd4 = refl
begins_with_code Nd5 = refl
begins_with_code Nd6 = refl
begins_with_code Nd7 = refl
begins_with_code Ft1 = refl
begins_with_code Ft2 = refl
begins_with_code Ft3 = refl
begins_with_code Ft4 = refl
begins_with_code Ft5 = refl
begins_with_code Ft6 = refl
begins_with_code Ft7 = refl
begins_with_code Fm1 = refl
begins_with_code Fm2 = refl
begins_with_code Fm3 = refl
begins_with_code Fm4 = refl
begins_with_code Fm5 = refl
begins_with_code Fv1 = refl
begins_with_code Fv2 = refl
begins_with_code Fv3 = refl
begins_with_code Fv4 = refl
begins_with_code Fv5 = refl
begins_with_code Fv6 = refl
begins_with_code Kt1 = refl
begins_with_code Kt2 = refl
begins_with_code Kt3 = refl
begins_with_code Kt4 = refl
begins_with_code Kt5 = refl
begins_with_code Mf1 = refl
begins_with_code Mf2 = refl
begins_with_code Sw1 = refl
begins_with_code Sw2 = refl
begins_with_code Sw3 = refl
begins_with_code Sw4 = refl
begins_with_code Ur1 = refl
begins_with_code Tp1 = refl
begins_with_code Tp2 = refl
begins_with_code Tp3 = refl
begins_with_code Memory = refl
begins_with_code Read = refl
begins_with_code Write = refl
