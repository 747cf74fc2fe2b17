-- The jobs on packets in words change no file.
use Rattle.std.proofs.Common.{◌≡◌, inl, inr, ℕ, List, Option, Some, None}
use Rattle.job_parts.specs.declared.faults.Fault.{Fault}
use Rattle.job_parts.specs.declared.status.ExitStatus.{ExitStatus}
use Rattle.job_parts.specs.declared.status.ExitStatus.TheVariants.{Done, Failed, Misused}
use Rattle.job_packets.specs.MadePackets.{IsContentOf, IsMade, IsNotMade, MakesFile, file_of, own_data}
use Rattle.job_show.specs.Shown.{IsNotShown}
use Rattle.job_packets.specs.declared.packet.PacketWords.{PacketWords}
use Rattle.folders.specs.Folders.{FolderReads, FolderValue}
use Rattle.test_kit_jobs.proofs.NodesLeft.{unread}

-- a read of the data or the image
content_read : (named : Option (List ℕ)) (own : List ℕ) (before : FolderValue) (content : List ℕ) (after : FolderValue)
    → IsContentOf FolderReads named own before content after → after ≡ before
content_read None own before content after given = given.1
content_read (Some name) own before content after given = given.0

-- packets that were made, or none
made : (words : PacketWords) (before : FolderValue) (lines : Option (List ℕ)) (after : FolderValue)
    → IsMade FolderReads words before lines after → after ≡ before
made words before lines after is = content_read (file_of words.order) (own_data words.order) before is.content after is.given

pub made_file : (words : PacketWords) (before after : FolderValue) (old new : Option (List ℕ)) (status : ExitStatus)
    → MakesFile FolderReads words before after old new status → after ≡ before
made_file words before after old new Done is = made words before (Some is.text) after is.made
made_file words before after old new Failed is = absurd is
made_file words before after old new Misused is = made words before None after is.unmade

pub unmade : (words : PacketWords) (before after : FolderValue) (fault : Fault) → IsNotMade FolderReads words before after fault
    → after ≡ before
unmade words before after fault (inl is) = is.unread.unread
unmade words before after fault (inr is) =
    content_read (file_of words.order) (own_data words.order) before is.content after is.given

-- lines that were not all shown
pub unshown : (before : FolderValue) (name : List ℕ) (after : FolderValue) (old new : Option (List ℕ)) (fault : Fault)
    → IsNotShown FolderReads before name after old new fault → after ≡ before
unshown before name after old new fault (inl is) = unread before name is.0.no_text.given after is.0.no_text.read
unshown before name after old new fault (inr stops) = stops.read.0
