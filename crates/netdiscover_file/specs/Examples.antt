-- Lines and texts as they are printed, and what they say.
use Rattle.std.specs.Prelude.{ℕ, ◌≡◌, true, false, List, [], ◌∷◌, ◌++◌, codes, Option, Some, None, Ok, Err}
use Rattle.fabric_parts.specs.Cable.{port}
use Rattle.netdiscover_file.specs.declared.fault.DiscoveryCause.TheVariants.{DuplicateGuid, Malformed, NoSuchPort, WrongFarEnd}
use Rattle.netdiscover_file.specs.declared.kind.NodeKind.{NodeKind}
use Rattle.netdiscover_file.specs.declared.ends.FarEnd.{FarEnd}
use Rattle.netdiscover_file.specs.declared.node.Node.{Node}
use Rattle.netdiscover_file.specs.declared.port.PortLine.{PortLine}
use Rattle.netdiscover_file.specs.declared.kind.NodeKind.TheVariants.{Switch, ChannelAdapter, Router}
use Rattle.netdiscover_file.specs.Discovery.{discovery_of, header_of}
use Rattle.netdiscover_file.specs.Assignment.{switch_guids_in}
use Rattle.netdiscover_file.specs.Comment.{initiator_in}
use Rattle.netdiscover_file.specs.Ends.{far_end_of, own_end_in, without_external}
use Rattle.netdiscover_file.specs.Lids.{own_lid_in, owns}
use Rattle.netdiscover_file.specs.Sound.{is_port}

-- a port's own end, and the end at the other side of its cable
pub record EndsAreRead : Type 0 where
  pub switch : own_end_in (codes "[36]") ≡ Ok (record { number = 36; guid = None })
  pub adapter : own_end_in (codes "[1](2c90300a1b201)") ≡ Ok (record { number = 1; guid = Some 0x2c90300a1b201 })
  pub to_switch : far_end_of (codes "\"S-0002c902004085a0\"[36]" ∷ [])
      ≡ Ok (record { node = record { kind = Switch; guid = 0x2c902004085a0 }; port = 36; guid = None })
  pub to_router : far_end_of (codes "\"R-7cfe9003009f0a10\"[1](7cfe9003009f0a11)" ∷ [])
      ≡ Ok (record { node = record { kind = Router; guid = 0x7cfe9003009f0a10 }; port = 1; guid = Some 0x7cfe9003009f0a11 })
  -- between two adapters a blank stands before the GUID
  pub apart : far_end_of (codes "\"H-0000000000000100\"[1]" ∷ codes "(101)" ∷ [])
      ≡ Ok (record { node = record { kind = ChannelAdapter; guid = 0x100 }; port = 1; guid = Some 0x101 })
  -- with the number on a chassis, between a port and its GUID, or with the GUID in a word of its own
  pub own_external : own_end_in (without_external (codes "[1][ext")) ≡ Ok (record { number = 1; guid = None })
  pub external : far_end_of (codes "\"S-0002c902004085a0\"[36][ext" ∷ codes "7]" ∷ [])
      ≡ Ok (record { node = record { kind = Switch; guid = 0x2c902004085a0 }; port = 36; guid = None })
  pub external_guid : far_end_of (codes "\"H-0000000000000100\"[1][ext" ∷ codes "7](101)" ∷ [])
      ≡ Ok (record { node = record { kind = ChannelAdapter; guid = 0x100 }; port = 1; guid = Some 0x101 })
  pub external_apart : far_end_of (codes "\"H-0000000000000100\"[1][ext" ∷ codes "7]" ∷ codes "(101)" ∷ [])
      ≡ Ok (record { node = record { kind = ChannelAdapter; guid = 0x100 }; port = 1; guid = Some 0x101 })
  pub no_number : far_end_of (codes "\"S-0002c902004085a0\"[36][ext" ∷ []) ≡ Err Malformed
  -- a node's GUID has all its digits
  pub short : far_end_of (codes "\"S-2c902004085a0\"[36]" ∷ []) ≡ Err Malformed
  -- an adapter's own LID comes first, whatever the far node's name
  pub lid : own_lid_in (codes " lid 7 lmc 0 \"it's (old) lid 9 4xSDR\" lid 12 1xSDR") ≡ Ok 7

-- the header of a switch, whose name has quotes and a `#`
pub record HeadersAreRead : Type 0 where
  pub switch : header_of 10 Switch (Some 0x20) (codes "36" ∷ codes "\"S-0000000000000020\"" ∷ []) (codes " \"the \"left\" one, #7\" base port 0 lid 4 lmc 0\n")
      ≡ Ok (record {
        id = record { kind = Switch; guid = 0x20 };
        ports = 36;
        name = codes "the \"left\" one, #7";
        lid = Some 4;
        port_guid = Some 0x20;
        line = 10;
      })
  pub other_kind : header_of 10 Switch None (codes "2" ∷ codes "\"H-0000000000000020\"" ∷ []) (codes " \"h2\" base port 0 lid 4 lmc 0") ≡ Err Malformed
  pub guids : switch_guids_in (codes "0x2c902004085b0(2c902004085b1)\t# \n") ≡ Ok (record { node = 0x2c902004085b0; port = 0x2c902004085b1 })
  pub initiator : initiator_in (codes " Initiated from node 0002c90300a1b200 port 0002c90300a1b201\r\n") ≡ Ok 0x2c90300a1b201

-- ---- a whole text: a switch with as many ports as there may be and the greatest LID, an adapter of two ports, and a router.
-- Of comments the first counts that reports where it was printed; chassis are passed over, and words that are reported besides.
abbrev switch_text : List ℕ
switch_text =
    codes "Hostname: x\n# Initiated from node 0000000000000100 port 0000000000000101\n# Initiated from node 0000000000000200 port 0000000000000201\n\n"
    ++ codes "Chassis 12 (guid 0x20)\nvendid=0x2c9\nsub_dev2=x\nswitchguid=0x20(21)\n"
    ++ codes "Switch\t255 \"S-0000000000000020\"\t\t# \"A\" enhanced port 0 lid 65535 lmc 7\n[255][ext 12]\t\"H-0000000000000100\"[1](101) \t\t# \"h\"\n"

abbrev adapter_text : List ℕ
adapter_text =
    codes "\nNon-Chassis Nodes\ncaguid=0x100\nCa\t2 \"H-0000000000000100\"\t\t# \"h\"\n"
    ++ codes "[1](101) \t\"S-0000000000000020\"[255]\t\t# lid 49151 lmc 7 \"A\" lid 65535 4xEDR\n"
    ++ codes "[2](102) \t\"R-ffffffffffffff00\"[1](ffffffffffffff01) \t\t# lid 5 lmc 0 \"r\" lid 6 4xEDR\n"

abbrev router_text : List ℕ
router_text = codes "\nRt\t1 \"R-ffffffffffffff00\"\t\t# \"r\"\n[1](ffffffffffffff01) \t\"H-0000000000000100\"[2](102) \t\t# lid 6 lmc 0 \"h\" lid 5 4xEDR\n"

abbrev far : NodeKind → ℕ → ℕ → Option ℕ → FarEnd
far kind guid number port_guid = record { node = record { kind = kind; guid = guid }; port = number; guid = port_guid }

-- the switch again, as under a second chassis
abbrev header_again : List ℕ
header_again = codes "Chassis 13 (guid 0x21)\nswitchguid=0x20(21)\nSwitch\t255 \"S-0000000000000020\"\t\t# \"A\" enhanced port 0 lid 65535 lmc 7\n"

abbrev switch_again : List ℕ
switch_again = header_again ++ codes "[255]\t\"H-0000000000000100\"[1](101) \t\t# \"h\"\n"

-- the nodes and lines of ports, if the router's header is on this line
abbrev found_at : (line : ℕ) → List Node
found_at line =
    (record { id = record { kind = Switch; guid = 32 }; ports = 255; name = codes "A"; lid = Some 65535; port_guid = Some 33; line = 9 })
    ∷ (record { id = record { kind = ChannelAdapter; guid = 256 }; ports = 2; name = codes "h"; lid = None; port_guid = None; line = 14 })
    ∷ (record { id = record { kind = Router; guid = 0xffffffffffffff00 }; ports = 1; name = codes "r"; lid = None; port_guid = None; line = line }) ∷ []

abbrev ports_at : (line : ℕ) → List PortLine
ports_at line =
    (record { port = port 0 255; guid = None; lid = None; far = far ChannelAdapter 256 1 (Some 257); line = 10 })
    ∷ (record { port = port 1 1; guid = Some 257; lid = Some 49151; far = far Switch 32 255 None; line = 15 })
    ∷ (record { port = port 1 2; guid = Some 258; lid = Some 5; far = far Router 0xffffffffffffff00 1 (Some 0xffffffffffffff01); line = 16 })
    ∷ (record { port = port 2 1; guid = Some 0xffffffffffffff01; lid = Some 6; far = far ChannelAdapter 256 2 (Some 258); line = line }) ∷ []

abbrev found_nodes : List Node
found_nodes = found_at 18

abbrev found_ports : List PortLine
found_ports = ports_at 19

pub record TextsAreRead : Type 0 where
  pub whole : discovery_of (switch_text ++ adapter_text ++ router_text) ≡ Ok (record { nodes = found_nodes; ports = found_ports; initiator = Some 257 })
  -- a cable whose other end is not reported, the line of a port before any node, and a heading that is none
  pub of_one_end : discovery_of (switch_text ++ adapter_text) ≡ Err (record { line = 16; cause = WrongFarEnd })
  pub of_no_node : discovery_of (codes "\n[1]\t\"S-0000000000000020\"[1]\n") ≡ Err (record { line = 2; cause = NoSuchPort })
  pub of_no_heading : discovery_of (codes "Non-Chassis Node\n") ≡ Err (record { line = 1; cause = Malformed })
  -- nodes that are printed again in the same words, behind all and before another node
  pub again : discovery_of (switch_text ++ adapter_text ++ router_text ++ switch_again ++ adapter_text)
      ≡ Ok (record { nodes = found_nodes; ports = found_ports; initiator = Some 257 })
  pub again_before_another : discovery_of (switch_text ++ adapter_text ++ switch_again ++ router_text)
      ≡ Ok (record { nodes = found_at 22; ports = ports_at 23; initiator = Some 257 })
  -- in others: of another name, with the line of a port that had none, with another far end, and behind the GUID of another switch
  pub of_another_name : discovery_of (switch_text ++ codes "switchguid=0x20(21)\nSwitch\t255 \"S-0000000000000020\"\t\t# \"B\" enhanced port 0 lid 65535 lmc 7\n")
      ≡ Err (record { line = 12; cause = DuplicateGuid })
  pub of_another_port : discovery_of (switch_text ++ header_again ++ codes "[254]\t\"H-0000000000000100\"[1](101)\n") ≡ Err (record { line = 14; cause = DuplicateGuid })
  pub of_another_far_end : discovery_of (switch_text ++ header_again ++ codes "[255]\t\"H-0000000000000100\"[2](102)\n") ≡ Err (record { line = 14; cause = DuplicateGuid })
  pub of_another_guid : discovery_of (switch_text ++ codes "switchguid=0x22(21)\nSwitch\t255 \"S-0000000000000020\"\t\t# \"A\" enhanced port 0 lid 65535 lmc 7\n")
      ≡ Err (record { line = 12; cause = DuplicateGuid })

-- ---- ports that are none, and lines that lack what is their own or have what is not
pub record UnsoundAreReported : Type 0 where
  pub below : is_port found_nodes (port 1 0) ≡ false
  pub past : is_port found_nodes (port 1 3) ≡ false
  pub at_no_node : is_port found_nodes (port 3 1) ≡ false
  pub of_a_switch : owns true (Some 33) None ≡ false
  pub of_an_adapter : owns false None (Some 5) ≡ false
  pub without_a_lid : owns false (Some 257) None ≡ false
