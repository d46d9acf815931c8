-- The text of each code. The texts themselves are in the program; here is what holds of them.
use Rattle.std.specs.Prelude.{ℕ, Bool, List, ◌∷◌, [], ◌++◌, ◌==◌, length, take, Option, Some, None}
use Rattle.std.specs.Str.{bytes_eq}
use Rattle.std.specs.List.{before_first, flat_map}
use Rattle.code_texts.specs.declared.code.Code.{Code}
use Rattle.code_texts.specs.declared.code.Code.TheVariants.{Tf1, Tf2, Tf3, Tf4, Tf5, Tf6, Tf7, Tf8, Tf9, Tf10, Tf11, Tf12}
use Rattle.code_texts.specs.declared.code.Code.TheVariants.{Pf1, Pf2, Pf3, Pf4, Pf5, Pf6, Pf7, Pf8, Pf9}
use Rattle.code_texts.specs.declared.code.Code.TheVariants.{Sf1, Sf2, Sf3, Sf4, Sf5, Sf6, Sf7, Ar1, Ar2, Ar3, Ar4}
use Rattle.code_texts.specs.declared.code.Code.TheVariants.{Nd1, Nd2, Nd3, Nd4, Nd5, Nd6, Nd7}
use Rattle.code_texts.specs.declared.code.Code.TheVariants.{Ft1, Ft2, Ft3, Ft4, Ft5, Ft6, Ft7}
use Rattle.code_texts.specs.declared.code.Code.TheVariants.{Fm1, Fm2, Fm3, Fm4, Fm5}
use Rattle.code_texts.specs.declared.code.Code.TheVariants.{Fv1, Fv2, Fv3, Fv4, Fv5, Fv6}
use Rattle.code_texts.specs.declared.code.Code.TheVariants.{Kt1, Kt2, Kt3, Kt4, Kt5}
use Rattle.code_texts.specs.declared.code.Code.TheVariants.{Mf1, Mf2, Sw1, Sw2, Sw3, Sw4, Ur1, Tp1, Tp2, Tp3}
use Rattle.code_texts.specs.declared.code.Code.TheVariants.{Memory, Read, Write}
use Rattle.code_texts.specs.declared.code.TheConstants.{ALL}
use Rattle.code_texts.specs.declared.discovery_texts.TheConstants.{ND1, ND2, ND3, ND4, ND5, ND6, ND7}
use Rattle.code_texts.specs.declared.dump_texts.TheConstants.{FT1, FT2, FT3, FT4, FT5, FT6, FT7}
use Rattle.code_texts.specs.declared.fabric_texts.TheConstants.{SW1, SW2, SW3, SW4, TP1, TP2, TP3, UR1}
use Rattle.code_texts.specs.declared.keys_texts.TheConstants.{KT1, KT2, KT3, KT4, KT5}
use Rattle.code_texts.specs.declared.lanes_texts.TheConstants.{FV1, FV2, FV3, FV4, FV5, FV6}
use Rattle.code_texts.specs.declared.machine_texts.TheConstants.{MEMORY, READ, WRITE}
use Rattle.code_texts.specs.declared.mft_texts.TheConstants.{FM1, FM2, FM3, FM4, FM5}
use Rattle.code_texts.specs.declared.partition_texts.TheConstants.{PF1, PF2, PF3, PF4, PF5, PF6, PF7, PF8, PF9}
use Rattle.code_texts.specs.declared.script_texts.TheConstants.{AR1, AR2, AR3, AR4, SF1, SF2, SF3, SF4, SF5, SF6, SF7}
use Rattle.code_texts.specs.declared.smp_texts.TheConstants.{MF1, MF2}
use Rattle.code_texts.specs.declared.topology_texts.TheConstants.{TF1, TF2, TF3, TF4, TF5, TF6, TF7, TF8, TF9, TF10, TF11, TF12}

-- a text that has this beginning
abbrev pub begins_with : List ℕ → List ℕ → Bool
begins_with start text = bytes_eq start (take (length start) text)

abbrev pub text_of : Code → List ℕ
text_of Tf1 = TF1.now
text_of Tf2 = TF2.now
text_of Tf3 = TF3.now
text_of Tf4 = TF4.now
text_of Tf5 = TF5.now
text_of Tf6 = TF6.now
text_of Tf7 = TF7.now
text_of Tf8 = TF8.now
text_of Tf9 = TF9.now
text_of Tf10 = TF10.now
text_of Tf11 = TF11.now
text_of Tf12 = TF12.now
text_of Pf1 = PF1.now
text_of Pf2 = PF2.now
text_of Pf3 = PF3.now
text_of Pf4 = PF4.now
text_of Pf5 = PF5.now
text_of Pf6 = PF6.now
text_of Pf7 = PF7.now
text_of Pf8 = PF8.now
text_of Pf9 = PF9.now
text_of Sf1 = SF1.now
text_of Sf2 = SF2.now
text_of Sf3 = SF3.now
text_of Sf4 = SF4.now
text_of Sf5 = SF5.now
text_of Sf6 = SF6.now
text_of Sf7 = SF7.now
text_of Ar1 = AR1.now
text_of Ar2 = AR2.now
text_of Ar3 = AR3.now
text_of Ar4 = AR4.now
text_of Nd1 = ND1.now
text_of Nd2 = ND2.now
text_of Nd3 = ND3.now
text_of Nd4 = ND4.now
text_of Nd5 = ND5.now
text_of Nd6 = ND6.now
text_of Nd7 = ND7.now
text_of Ft1 = FT1.now
text_of Ft2 = FT2.now
text_of Ft3 = FT3.now
text_of Ft4 = FT4.now
text_of Ft5 = FT5.now
text_of Ft6 = FT6.now
text_of Ft7 = FT7.now
text_of Fm1 = FM1.now
text_of Fm2 = FM2.now
text_of Fm3 = FM3.now
text_of Fm4 = FM4.now
text_of Fm5 = FM5.now
text_of Fv1 = FV1.now
text_of Fv2 = FV2.now
text_of Fv3 = FV3.now
text_of Fv4 = FV4.now
text_of Fv5 = FV5.now
text_of Fv6 = FV6.now
text_of Kt1 = KT1.now
text_of Kt2 = KT2.now
text_of Kt3 = KT3.now
text_of Kt4 = KT4.now
text_of Kt5 = KT5.now
text_of Mf1 = MF1.now
text_of Mf2 = MF2.now
text_of Sw1 = SW1.now
text_of Sw2 = SW2.now
text_of Sw3 = SW3.now
text_of Sw4 = SW4.now
text_of Ur1 = UR1.now
text_of Tp1 = TP1.now
text_of Tp2 = TP2.now
text_of Tp3 = TP3.now
text_of Memory = MEMORY.now
text_of Read = READ.now
text_of Write = WRITE.now

abbrev pub first_line : List ℕ → List ℕ
first_line text = before_first (λ byte. byte == 10) text

abbrev pub line_of : Code → List ℕ
line_of code = first_line (text_of code) ++ 10 ∷ []

-- a line for each code
abbrev pub listing : List ℕ
listing = flat_map line_of ALL

-- the text of a code, or a line for each
abbrev pub explained : Option Code → List ℕ
explained None = listing
explained (Some code) = text_of code
