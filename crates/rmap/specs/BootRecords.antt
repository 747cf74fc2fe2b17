-- The records of the boot window as bytes. The standard leaves to the target what is at an address (ECSS-E-ST-50-52C,
-- address field): this is a choice of this target.
use Rattle.std.specs.Prelude.{◌≡◌, ℕ, ◌+◌, ◌*◌, ◌==◌, if◌then◌else◌, List, [], ◌∷◌, ◌++◌, drop, slice_index, Option, Some, None}
use Rattle.byteorder.specs.Endian.{big_bytes, big_number}
use Rattle.rmap.specs.declared.boot_records.ControlData.{ControlData}
use Rattle.rmap.specs.declared.boot_records.LoadResult.{LoadResult}

-- The data of a control write as read from bytes: the slot, a byte that must be zero, and the length of the image.
-- The length has its more significant byte first.
abbrev pub control_of : List ℕ → ControlData
control_of bytes = record {
  slot = slice_index bytes 0;
  zero = slice_index bytes 1;
  length = slice_index bytes 2 * 256 + slice_index bytes 3;
}

-- the bytes of the data of this control write
abbrev pub control_bytes : ControlData → List ℕ
control_bytes control = (control.slot ∷ control.zero ∷ []) ++ big_bytes 2 control.length

-- the bytes are read as this control write, whatever follows them
abbrev pub AreReadAs : ControlData → List ℕ → Type 0
AreReadAs control bytes = (following : List ℕ) → control_of (bytes ++ following) ≡ control

-- a load result: its code, a zero byte, its place in two bytes, and its generation in four
abbrev pub load_result_bytes : LoadResult → List ℕ
load_result_bytes r = (r.code ∷ 0 ∷ []) ++ big_bytes 2 r.place ++ big_bytes 4 r.generation

-- the load result that eight bytes are, if the second is zero
abbrev pub load_result_of : List ℕ → Option LoadResult
load_result_of bytes =
    if slice_index bytes 1 == 0 then Some (record {
      code = slice_index bytes 0;
      place = big_number 2 (drop 2 bytes);
      generation = big_number 4 (drop 4 bytes);
    })
    else None
