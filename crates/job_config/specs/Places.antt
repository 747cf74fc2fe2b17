-- Where something is in a node's file, and the keys that are there.
use Rattle.std.specs.Prelude.{ℕ, List, [], Bool, ◌||◌, codes}
use Rattle.std.specs.Str.{bytes_eq}
use Rattle.job_config.specs.declared.places.TableKind.{TableKind}
use Rattle.job_config.specs.declared.places.TableKind.TheVariants.{Node, Bank, Map, Publish}
use Rattle.job_config.specs.declared.places.NameKey.{NameKey}
use Rattle.job_config.specs.declared.places.NameKey.TheVariants.{Contents, Program, Image}
use Rattle.job_config.specs.declared.places.NumberKey.{NumberKey}
use Rattle.job_config.specs.declared.places.NumberKey.TheVariants.{Address, Ports, Base, Size, Journal, Cells, Slot}
use Rattle.job_config.specs.declared.places.TablePlace.{TablePlace}

-- the key under which the file has tables of the kind
abbrev pub kind_key : TableKind → List ℕ
kind_key Node = []
kind_key Bank = codes "bank"
kind_key Map = codes "map"
kind_key Publish = codes "publish"

-- whether a table of the kind may have the key
abbrev pub knows : TableKind → List ℕ → Bool
knows Node key =
    bytes_eq key (codes "address") || bytes_eq key (codes "bank") || bytes_eq key (codes "map")
    || bytes_eq key (codes "ports") || bytes_eq key (codes "program") || bytes_eq key (codes "publish")
knows Bank key =
    bytes_eq key (codes "base") || bytes_eq key (codes "contents") || bytes_eq key (codes "journal")
    || bytes_eq key (codes "size")
knows Map key = bytes_eq key (codes "cells") || bytes_eq key (codes "peak")
knows Publish key = bytes_eq key (codes "image") || bytes_eq key (codes "slot")

-- the key that holds the number
abbrev pub number_word : NumberKey → List ℕ
number_word Address = codes "address"
number_word Ports = codes "ports"
number_word Base = codes "base"
number_word Size = codes "size"
number_word Journal = codes "journal"
number_word Cells = codes "cells"
number_word Slot = codes "slot"

-- the key that holds the name of a file
abbrev pub name_word : NameKey → List ℕ
name_word Contents = codes "contents"
name_word Program = codes "program"
name_word Image = codes "image"

-- the table of that number among those of its kind
abbrev pub place : TableKind → ℕ → TablePlace
place kind number = record { kind = kind; number = number }
