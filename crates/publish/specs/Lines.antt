-- What lines ask for of programs.
use Rattle.std.specs.Prelude.{[]}
use Rattle.bver.specs.Justified.{AcceptedValue}
use Rattle.annals.specs.Chains.{LineValue, instrument}
use Rattle.annals.specs.Publishes.{line_loading}
use Rattle.node_programs.specs.Histories.{entry}

-- the instrument's line of a fresh node: it asked for the factory program
abbrev pub opening_line : AcceptedValue → LineValue
opening_line factory = line_loading (record { port = instrument; asked = [] }) (entry 0 factory)
