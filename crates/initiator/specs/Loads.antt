-- The commands of a load: the image to the staging of the boot window, the control write, and the read of the load result.
use Rattle.std.specs.Prelude.{◌^◌, ◌+◌, ◌*◌, ◌/◌, ◌%◌, ℕ, List, length, take, drop, true, false}
use Rattle.rmap.specs.declared.boot.TheConstants.{BOOT_WINDOW, CONTROL_SIZE, LOAD_REGISTER, LOAD_RESULT_SIZE}
use Rattle.rmap.specs.declared.checks.TheConstants.{MAX_DATA}
use Rattle.rmap.specs.declared.boot_records.ControlData.{ControlData}
use Rattle.rmap.specs.BootRecords.{control_bytes as bytes_of_control}
use Rattle.initiator.specs.declared.requests.Request.{Request}
use Rattle.initiator.specs.CommandCodes.{read_code, write_code}

-- the command code of a write with reply and increment
abbrev pub load_write_code : ℕ
load_write_code = write_code false true true

-- the command code of a read with increment
abbrev pub result_code : ℕ
result_code = read_code true

-- a transaction identifier `count` further on; after FFFF comes 0000
abbrev pub further : (transaction count : ℕ) → ℕ
further transaction count = (transaction + count) % 2 ^ 16

-- the bytes of the image's part of this number: at most 4,096
abbrev pub part_of : (image : List ℕ) → (number : ℕ) → List ℕ
part_of image number = take MAX_DATA (drop (MAX_DATA * number) image)

-- the write of a part to the staging, if the load begins with this transaction identifier
abbrev pub stage_request : (transaction : ℕ) → (part : List ℕ) → (number : ℕ) → Request
stage_request transaction part number = record {
  code = load_write_code;
  transaction = further transaction number;
  extended = BOOT_WINDOW;
  address = MAX_DATA * number;
  count = length part;
}

-- how many parts an image has
abbrev pub part_count : List ℕ → ℕ
part_count image = (length image + 4095) / 4096

-- the control write
abbrev pub control_request : (transaction : ℕ) → (image : List ℕ) → Request
control_request transaction image = record {
  code = load_write_code;
  transaction = further transaction (part_count image);
  extended = BOOT_WINDOW;
  address = LOAD_REGISTER;
  count = CONTROL_SIZE;
}

-- the control data that ask to load the image into that slot
abbrev pub asked_for : (slot : ℕ) → (image : List ℕ) → ControlData
asked_for slot image = record { slot = slot; zero = 0; length = length image }

-- the data of the control write
abbrev pub control_bytes_of : (slot : ℕ) → (image : List ℕ) → List ℕ
control_bytes_of slot image = bytes_of_control (asked_for slot image)

-- the read of the load result
abbrev pub result_request : (transaction : ℕ) → (image : List ℕ) → Request
result_request transaction image = record {
  code = result_code;
  transaction = further transaction (part_count image + 1);
  extended = BOOT_WINDOW;
  address = LOAD_REGISTER;
  count = LOAD_RESULT_SIZE;
}
