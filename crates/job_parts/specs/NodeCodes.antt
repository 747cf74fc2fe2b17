-- The numbers that are printed of faults of a node's file.
use Rattle.std.specs.Prelude.{ℕ, ◌==◌, if◌then◌else◌, Option, None, Some}
use Rattle.job_parts.specs.declared.node_codes.NodeCode.{NodeCode}
use Rattle.job_parts.specs.declared.node_codes.NodeCode.TheVariants.{Text, Key, Address, Ports, Bank, Map, Contents, Program, Load}

-- the number of what is wrong with a node's file
abbrev pub node_code : NodeCode → ℕ
node_code Text = 1
node_code Key = 2
node_code Address = 3
node_code Ports = 4
node_code Bank = 5
node_code Map = 6
node_code Contents = 7
node_code Program = 8
node_code Load = 9

-- what is wrong with a node's file by its number, if it is the number of something
abbrev pub node_code_of : ℕ → Option NodeCode
node_code_of number =
    if number == 1 then Some Text
    else (if number == 2 then Some Key
    else (if number == 3 then Some Address
    else (if number == 4 then Some Ports
    else (if number == 5 then Some Bank
    else (if number == 6 then Some Map
    else (if number == 7 then Some Contents
    else (if number == 8 then Some Program
    else (if number == 9 then Some Load else None))))))))
