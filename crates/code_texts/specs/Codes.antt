-- The codes that the program prints for errors and refusals, and how they are printed.
use Rattle.std.specs.Prelude.{ℕ, List, [], ◌∷◌, ◌++◌, codes, Option}
use Rattle.std.specs.List.{find, flat_map}
use Rattle.std.specs.Str.{bytes_eq}
use Rattle.code_texts.specs.declared.code.Code.{Code}
use Rattle.code_texts.specs.declared.code.Code.TheVariants.{Tf1, Tf2, Tf3, Tf4, Tf5, Tf6, Tf7, Tf8, Tf9, Tf10, Tf11, Tf12}
use Rattle.code_texts.specs.declared.code.Code.TheVariants.{Pf1, Pf2, Pf3, Pf4, Pf5, Pf6, Pf7, Pf8, Pf9}
use Rattle.code_texts.specs.declared.code.Code.TheVariants.{Sf1, Sf2, Sf3, Sf4, Sf5, Sf6, Sf7, Ar1, Ar2, Ar3, Ar4}
use Rattle.code_texts.specs.declared.code.Code.TheVariants.{Nd1, Nd2, Nd3, Nd4, Nd5, Nd6, Nd7}
use Rattle.code_texts.specs.declared.code.Code.TheVariants.{Ft1, Ft2, Ft3, Ft4, Ft5, Ft6, Ft7}
use Rattle.code_texts.specs.declared.code.Code.TheVariants.{Fm1, Fm2, Fm3, Fm4, Fm5}
use Rattle.code_texts.specs.declared.code.Code.TheVariants.{Fv1, Fv2, Fv3, Fv4, Fv5, Fv6}
use Rattle.code_texts.specs.declared.code.Code.TheVariants.{Kt1, Kt2, Kt3, Kt4, Kt5}
use Rattle.code_texts.specs.declared.code.Code.TheVariants.{Mf1, Mf2, Sw1, Sw2, Sw3, Sw4, Ur1, Tp1, Tp2, Tp3}
use Rattle.code_texts.specs.declared.code.Code.TheVariants.{Memory, Read, Write}
use Rattle.code_texts.specs.declared.code.TheConstants.{ALL}

abbrev pub spelling : Code → List ℕ
spelling Tf1 = codes "TF1"
spelling Tf2 = codes "TF2"
spelling Tf3 = codes "TF3"
spelling Tf4 = codes "TF4"
spelling Tf5 = codes "TF5"
spelling Tf6 = codes "TF6"
spelling Tf7 = codes "TF7"
spelling Tf8 = codes "TF8"
spelling Tf9 = codes "TF9"
spelling Tf10 = codes "TF10"
spelling Tf11 = codes "TF11"
spelling Tf12 = codes "TF12"
spelling Pf1 = codes "PF1"
spelling Pf2 = codes "PF2"
spelling Pf3 = codes "PF3"
spelling Pf4 = codes "PF4"
spelling Pf5 = codes "PF5"
spelling Pf6 = codes "PF6"
spelling Pf7 = codes "PF7"
spelling Pf8 = codes "PF8"
spelling Pf9 = codes "PF9"
spelling Sf1 = codes "SF1"
spelling Sf2 = codes "SF2"
spelling Sf3 = codes "SF3"
spelling Sf4 = codes "SF4"
spelling Sf5 = codes "SF5"
spelling Sf6 = codes "SF6"
spelling Sf7 = codes "SF7"
spelling Ar1 = codes "AR1"
spelling Ar2 = codes "AR2"
spelling Ar3 = codes "AR3"
spelling Ar4 = codes "AR4"
spelling Nd1 = codes "ND1"
spelling Nd2 = codes "ND2"
spelling Nd3 = codes "ND3"
spelling Nd4 = codes "ND4"
spelling Nd5 = codes "ND5"
spelling Nd6 = codes "ND6"
spelling Nd7 = codes "ND7"
spelling Ft1 = codes "FT1"
spelling Ft2 = codes "FT2"
spelling Ft3 = codes "FT3"
spelling Ft4 = codes "FT4"
spelling Ft5 = codes "FT5"
spelling Ft6 = codes "FT6"
spelling Ft7 = codes "FT7"
spelling Fm1 = codes "FM1"
spelling Fm2 = codes "FM2"
spelling Fm3 = codes "FM3"
spelling Fm4 = codes "FM4"
spelling Fm5 = codes "FM5"
spelling Fv1 = codes "FV1"
spelling Fv2 = codes "FV2"
spelling Fv3 = codes "FV3"
spelling Fv4 = codes "FV4"
spelling Fv5 = codes "FV5"
spelling Fv6 = codes "FV6"
spelling Kt1 = codes "KT1"
spelling Kt2 = codes "KT2"
spelling Kt3 = codes "KT3"
spelling Kt4 = codes "KT4"
spelling Kt5 = codes "KT5"
spelling Mf1 = codes "MF1"
spelling Mf2 = codes "MF2"
spelling Sw1 = codes "SW1"
spelling Sw2 = codes "SW2"
spelling Sw3 = codes "SW3"
spelling Sw4 = codes "SW4"
spelling Ur1 = codes "UR1"
spelling Tp1 = codes "TP1"
spelling Tp2 = codes "TP2"
spelling Tp3 = codes "TP3"
spelling Memory = codes "memory"
spelling Read = codes "read"
spelling Write = codes "write"

-- the code that is printed as this word
abbrev pub code_of : List ℕ → Option Code
code_of word = find (λ code. bytes_eq (spelling code) word) ALL

-- the codes in the order of the list, each with a blank after it
abbrev pub codes_listed : List ℕ
codes_listed = flat_map (λ code. spelling code ++ 32 ∷ []) ALL

abbrev pub codes_in_order : List ℕ
codes_in_order =
    codes "TF1 TF2 TF3 TF4 TF5 TF6 TF7 TF8 TF9 TF10 TF11 TF12 "
    ++ codes "PF1 PF2 PF3 PF4 PF5 PF6 PF7 PF8 PF9 "
    ++ codes "SF1 SF2 SF3 SF4 SF5 SF6 SF7 AR1 AR2 AR3 AR4 "
    ++ codes "ND1 ND2 ND3 ND4 ND5 ND6 ND7 "
    ++ codes "FT1 FT2 FT3 FT4 FT5 FT6 FT7 "
    ++ codes "FM1 FM2 FM3 FM4 FM5 "
    ++ codes "FV1 FV2 FV3 FV4 FV5 FV6 "
    ++ codes "KT1 KT2 KT3 KT4 KT5 MF1 MF2 "
    ++ codes "SW1 SW2 SW3 SW4 UR1 TP1 TP2 TP3 "
    ++ codes "memory read write "
